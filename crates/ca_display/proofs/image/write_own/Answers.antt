use Rattle.std.proofs.Common.{◌≡◌, ap, ◌∙◌, vec_len, vec_capacity}
use Rattle.ca_dbr.specs.Elements.{base_of, elements}
use Rattle.ca_dbr.specs.Data.{data_of}
use Rattle.ca_display.specs.Types.{base_in}
use Rattle.ca_display.proofs.Images.{data_lacks, data_put}
use Rattle.ca_display.proofs.image.write_own.Goals as goal

pub returns-in-Ok-clause-written : goal.returns-in-Ok-clause-written
returns-in-Ok-clause-written c =
    rw c.in-Data.is (data_put c.in-Data.data_type c.args.count (elements c.args.value.now) c.args.meta.now (data_of c.args.display.now) c.number.result c.args.out.now.items c.write_shown.new.out.items c.number.ensures c.in-Ok.ensures.shown)

pub returns-in-Err-clause-stays : goal.returns-in-Err-clause-stays
returns-in-Err-clause-stays c = c.in-Err.ensures.shown.0

pub returns-in-Err-clause-room : goal.returns-in-Err-clause-room
returns-in-Err-clause-room c =
    let out = c.args.out.now in
    let own : base_of (elements c.args.value.now) ≡ c.in-Data.data_type.base = c.requires ∙ ap base_in c.in-Data.is in
    rw c.in-Data.is (data_lacks c.in-Data.data_type c.args.count (elements c.args.value.now) c.args.meta.now c.number.result out.items c.write_shown.new.out.items c.in-Err.field-0 (vec_len out) (vec_capacity out) c.number.ensures own c.in-Err.ensures.shown c.in-Err.ensures.room)

pub write_with_display-requires : goal.write_with_display-requires
write_with_display-requires c = c.requires ∙ ap base_in c.in-Display.is

pub returns-in-Display-clause-written : goal.returns-in-Display-clause-written
returns-in-Display-clause-written c = rw c.in-Display.is c.write_with_display.ensures.written

pub returns-in-Display-clause-room : goal.returns-in-Display-clause-room
returns-in-Display-clause-room c = rw c.in-Display.is c.write_with_display.ensures.room
