use Rattle.std.proofs.Common.{ℕ, List, arith, ◌≡◌, ◌≤◌, ◌+◌, ◌*◌, ◌++◌, refl, ap, ◌∙◌, vec_len, vec_capacity}
use Rattle.ca_dbr.specs.declared.data_type.Form.TheVariants as plain_form
use Rattle.ca_dbr.specs.Types.{element_size}
use Rattle.ca_dbr.specs.Elements.{elements}
use Rattle.ca_dbr.specs.Image.{meta_bytes}
use Rattle.ca_dbr.specs.Data.{data_of}
use Rattle.ca_display.specs.Image.{data_bytes}
use Rattle.ca_display.proofs.Images.{zero_meta, display_put, display_fits}
use Rattle.ca_display.proofs.image.write_with_display.Goals as goal

pub unreachable-requires : goal.unreachable-requires
unreachable-requires c =
    let t = c.args.data_type in
    let out = c.put_front.new.out in
    let room : vec_len out + c.args.count * element_size t.base ≤ vec_capacity out = omega (arith, c.in_ok-reserve.ensures.ok, c.size_for.ensures, c.put_front.ensures.len, c.put_front.ensures.capacity) in
    display_fits t c.args.count (elements c.args.value.now) zero_meta c.number.result out.items c.write_shown.new.out.items c.in-Err.field-0 (vec_len out) (vec_capacity out) c.number.ensures c.requires c.in-Err.ensures.shown c.in-Err.ensures.room room

pub returns-clause-written : goal.returns-clause-written
returns-clause-written c =
    let t = c.args.data_type in
    let d = data_of c.args.display.now in
    let old = c.args.out.now.items in
    let front : List ℕ = meta_bytes plain_form.Status c.args.meta.now ++ data_bytes t.base t.form d in
    let put : c.put_front.new.out.items ≡ old ++ front = c.put_front.ensures.after ∙ ap (λ (x : List ℕ). x ++ front) c.in_ok-reserve.ensures.items in
    display_put t c.args.count (elements c.args.value.now) c.args.meta.now zero_meta d c.number.result old front c.put_front.new.out.items c.write_shown.new.out.items c.number.ensures refl put c.in-Ok.ensures.shown
