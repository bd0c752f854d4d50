use Rattle.std.proofs.Common.{◌≡◌, ◌++◌, ◌∷◌, [], inl, inr, List, ℕ, length, sym, ap, ◌∙◌, arith}
use Rattle.std.specs.Arc.{arc_value}
use Rattle.std.specs.List.{flat_map}
use Rattle.ca_wire.specs.declared.header.Header.{Header}
use Rattle.ca_wire.specs.Fields.{Fields}
use Rattle.ca_wire.specs.Header.{header_spelling}
use Rattle.ca_wire.specs.Message.{header_of, spelling}
use Rattle.std.proofs.lemmas.List.{length-append}
use Rattle.ca_wire.proofs.Headers.{length-header_spelling}
use Rattle.ca_server_subscriptions.specs.Sharing.{Shared}
use Rattle.ca_server_circuit.specs.CircuitOutput.{OutputState, addressed}
use Rattle.ca_server_circuit.proofs.Leaving.{joined-length, joined-more, piece-is}
use Rattle.ca_server_circuit.proofs.circuit_output.CircuitOutput.share.Goals as goal

-- the header that was written
header-is : (c : goal.After-push_reserved) → c.spell_header.new.out.items ≡ header_spelling (header_of (addressed c.args.id (arc_value c.args.shared.now).update))
header-is c =
    let u = (arc_value c.args.shared.now).update in
    c.in_ok-spell_header.ensures.ok
    ∙ ap (λ (o : List ℕ). o ++ header_spelling (record c.header.result { p2 = c.number.result })) c.new-spelled.ensures.items
    ∙ ap (λ (h : Header). header_spelling (record h { p2 = c.number.result })) (c.header.ensures.header ∙ ap header_of (c.update.ensures.is ∙ ap (λ (s : Shared). s.update) c.deref.ensures))
    ∙ ap (λ (n : ℕ). header_spelling (header_of (addressed n u))) c.number.ensures

-- the pieces now
now : (c : goal.After-push_reserved) → c.push_reserved.new.self.items ≡ c.self.inside.pieces.items ++ ((c.hand_over.new.to ++ c.spell_header.new.out.items) ++ (arc_value c.in_ok-shared.shared).update.payload) ∷ []
now c = c.push_reserved.ensures.items ∙ ap (λ (ps : List (List ℕ)). ps ++ ((c.hand_over.new.to ++ c.spell_header.new.out.items) ++ (arc_value c.in_ok-shared.shared).update.payload) ∷ []) c.in_ok-reserve.ensures.items

pub invariant_of-self-2 : goal.invariant_of-self-2
invariant_of-self-2 c =
    let ps = c.self.inside.pieces.items in
    let a = c.hand_over.new.to in
    let b = c.spell_header.new.out.items in
    let d = (arc_value c.in_ok-shared.shared).update.payload in
    let all = ap (λ (xs : List (List ℕ)). length (flat_map (λ (x : List ℕ). x) xs)) (now c) in
    let parts = joined-length ps a b d in
    let was = c.self.invariant.0 in
    let out = ap length (c.out_bytes.ensures ∙ sym c.hand_over.ensures.handed) in
    let wrote = c.spell_header.new.out.ok in
    let counted = c.len.ensures in
    let image = ap length (c.payload.ensures ∙ ap (λ (m : Fields). m.payload) (c.update-2.ensures.is ∙ ap (λ (s : Shared). s.update) c.deref-2.ensures)) in
    let room = c.requires.room in
    let before = ap (λ (o : OutputState). length (o.before ++ c.args.link.now.output)) c.self.view_is in
    let whole = length-append (flat_map (λ (x : List ℕ). x) ps) c.args.link.now.output in
    let waited = ap length c.hand_over.ensures.handed in
    let same = ap length (header-is c) in
    let few = c.header.ensures.message.payload.within in
    let image-same = ap (λ (s : Shared). length s.update.payload) (c.in_ok-shared.ensures ∙ sym c.deref.ensures) in
    let first = ap (λ (m : Fields). length m.payload) c.update.ensures.is in
    elim (length-header_spelling (header_of (addressed c.args.id (arc_value c.args.shared.now).update))) [
      | inl e ↦ (omega (arith, all, parts, was, out, wrote, counted, image), omega (arith, was, out, wrote, counted, image, room, before, whole, waited, same, few, image-same, first, e))
      | inr e ↦ (omega (arith, all, parts, was, out, wrote, counted, image), omega (arith, was, out, wrote, counted, image, room, before, whole, waited, same, few, image-same, first, e))
    ]

pub returns-clause-ok : goal.returns-clause-ok
returns-clause-ok c =
    let m = addressed c.args.id (arc_value c.args.shared.now).update in
    let p = piece-is c.hand_over.new.to c.args.link.now.output c.spell_header.new.out.items (arc_value c.in_ok-shared.shared).update.payload m c.hand_over.ensures.handed (header-is c) (ap (λ (s : Shared). s.update.payload) c.in_ok-shared.ensures) in
    ap (λ (before : List ℕ). let o : OutputState = record { before = before; last = c.self.inside.last; shares = c.self.inside.shares } in o) (
    ap (λ (xs : List (List ℕ)). flat_map (λ (x : List ℕ). x) xs) (now c)
    ∙ joined-more c.self.inside.pieces.items _
    ∙ ap (λ (x : List ℕ). flat_map (λ (y : List ℕ). y) c.self.inside.pieces.items ++ x) p
    )
    ∙ ap (λ (o : OutputState). let n : OutputState = record o { before = o.before ++ (c.args.link.now.output ++ spelling m) } in n) c.self.view_is
