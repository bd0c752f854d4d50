use Rattle.std.proofs.Common.{◌≡◌, ◌<◌, ℕ, ap, arith, ◌∙◌, subst}
use Rattle.ca_text.specs.Limits.{payload_limit}
use Rattle.ca_display.specs.declared.image_type.ImageType.{ImageType}
use Rattle.ca_display.specs.Image.{size_in}
use Rattle.ca_model.specs.Faults.{read_count}
use Rattle.ca_world_servers.proofs.Answered.{counted-over, sized-over, sized-shown, typeless}
use Rattle.ca_world_servers.proofs.answering.shown_size.Goals as goal

pub returns-then-count : goal.returns-then-count
returns-then-count c =
    let r = c.args.of.now in
    let m = c.args.message.now in
    let over : r.count < read_count r m = (let asked = c.count_asked-count.ensures in let e = c.count.ensures.count in let lt = c.if-count.true in omega (arith, asked, e, lt)) in
    counted-over r m over

pub returns-in_default : goal.returns-in_default
returns-in_default c = typeless c.args.of.now c.args.message.now (subst (λ (n : ℕ). 34 < n) c.data_type.ensures c.in_default.ensures.1)

pub returns-then-size-gt-PAYLOAD_LIMIT : goal.returns-then-size-gt-PAYLOAD_LIMIT
returns-then-size-gt-PAYLOAD_LIMIT c =
    let t : ImageType = c.in-Ok.ensures.0 in
    let over : payload_limit < c.in-Ok.size = (let lt = c.if-size-gt-PAYLOAD_LIMIT.true in omega (arith, lt)) in
    sized-over c.args.of.now c.args.message.now t c.in-Ok.size (c.in-Ok.ensures.1 ∙ c.data_type.ensures) (c.in-Ok.ensures.2 ∙ ap (λ (n : ℕ). size_in t n) c.count_asked-count.ensures) over

pub returns : goal.returns
returns c =
    let t : ImageType = c.in-Ok.ensures.0 in
    sized-shown c.args.of.now c.args.message.now t c.in-Ok.size (c.in-Ok.ensures.1 ∙ c.data_type.ensures)
    (c.in-Ok.ensures.2 ∙ ap (λ (n : ℕ). size_in t n) c.count_asked-count.ensures) c.count.ensures.record
