use Rattle.std.proofs.Common.{◌≡◌, List, ℕ, sym, ap, ◌∙◌, subst, drop}
use Rattle.ca_wire.specs.Reading.{BeginsHeaderOnly}
use Rattle.ca_wire.specs.Stream.{Held}
use Rattle.ca_wire.proofs.Taking.{takes-header_only}
use Rattle.ca_wire.proofs.deframer.Deframer.next_without_payload.Goals as goal

pub returns-in-Some : goal.returns-in-Some
returns-in-Some c =
    let old = c.args.self.now in
    let same : c.self.inside.buffer ≡ old.bytes = ap (λ (h : Held). h.bytes) c.self.view_is in
    let begins : BeginsHeaderOnly old.bytes c.args.command c.in-Some.wanted = subst (λ (t : List ℕ). BeginsHeaderOnly t c.args.command c.in-Some.wanted) (c.bytes.ensures ∙ same) c.in-Some.ensures in
    let rest : c.drop_front.new.self ≡ drop 16 old.bytes = c.drop_front.ensures ∙ ap (λ (t : List ℕ). drop 16 t) same in
    takes-header_only old _ c.args.command c.in-Some.wanted (sym (ap (λ (h : Held). h.closed) c.self.view_is) ∙ c.if-self.false) c.if-self.false begins rest
