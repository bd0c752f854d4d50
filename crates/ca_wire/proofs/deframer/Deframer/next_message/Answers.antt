use Rattle.std.proofs.Common.{◌≡◌, ◌≢◌, ◌+◌, ℕ, List, [], take, drop, refl, ap, ◌∙◌, sym, subst}
use Rattle.ca_wire.specs.Stream.{Held, NoneBegins, NotBad}
use Rattle.ca_wire.specs.Reading.{IsWhole, Nexts}
use Rattle.ca_wire.proofs.Taking.{held-part, takes-whole, whole-payload, nexts-refused}
use Rattle.ca_wire.proofs.deframer.Deframer.next_message.Goals as goal

pub returns-in_err-payload-in-Whole : goal.returns-in_err-payload-in-Whole
returns-in_err-payload-in-Whole c =
    let old = c.args.self.now in
    let head = c.in-Whole.head in
    let held : c.bytes-bytes.result.now ≡ old.bytes = c.bytes-bytes.ensures ∙ ap (λ (h : Held). h.bytes) c.self.view_is in
    let whole : IsWhole old.bytes head = subst (λ (t : List ℕ). IsWhole t head) held c.in-Whole.ensures in
    let some : take head.header.size (drop head.start old.bytes) ≢ [] = λ e. c.in_err-payload-in-Whole.ensures.err (held-part _ _ head.start head.header.size held ∙ e) in
    subst (λ (h : Held). Nexts old c.from_residual.result h) (sym c.self.view_is)
    (nexts-refused old _ c.from_residual.ensures.1 (sym (ap (λ (h : Held). h.closed) c.self.view_is) ∙ c.if-self.false) (whole-payload old.bytes head whole some))

pub returns-in_ok-payload-in-Whole : goal.returns-in_ok-payload-in-Whole
returns-in_ok-payload-in-Whole c =
    let old = c.args.self.now in
    let head = c.in-Whole.head in
    let same : c.self.inside.buffer ≡ old.bytes = ap (λ (h : Held). h.bytes) c.self.view_is in
    let held : c.bytes-bytes.result.now ≡ old.bytes = c.bytes-bytes.ensures ∙ same in
    let whole : IsWhole old.bytes head = subst (λ (t : List ℕ). IsWhole t head) held c.in-Whole.ensures in
    let payload = c.of_header.ensures.payload ∙ c.in_ok-payload-in-Whole.ensures.ok ∙ held-part _ _ head.start head.header.size held in
    let rest : c.drop_front.new.self ≡ drop (head.start + head.header.size) old.bytes = c.drop_front.ensures ∙ ap (λ (t : List ℕ). drop (head.start + head.header.size) t) same in
    takes-whole old _ head c.of_header.result (sym (ap (λ (h : Held). h.closed) c.self.view_is) ∙ c.if-self.false) c.if-self.false whole c.of_header.ensures.header payload rest

pub returns-in-More : goal.returns-in-More
returns-in-More c =
    let old = c.args.self.now in
    let held : c.bytes-bytes.result.now ≡ old.bytes = c.bytes-bytes.ensures ∙ ap (λ (h : Held). h.bytes) c.self.view_is in
    let none = subst (λ (t : List ℕ). NoneBegins t × NotBad t) held c.in-More.ensures in
    (sym (ap (λ (h : Held). h.closed) c.self.view_is) ∙ c.if-self.false, none.0, none.1, refl)
