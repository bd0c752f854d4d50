-- The value of a write that was accepted fits into its message.
use Rattle.std.proofs.Common.{◌≡◌, ◌∙◌, ◌≤◌, ◌==◌, ◌||◌, Bool, true, false, not, nat_lt, [], ◌∷◌, Option, None, length, ap, refl, sym}
use Rattle.std.proofs.lemmas.Bool.{ltb-false}
use Rattle.ca_text.specs.declared.refusal.Refusal.{Refusal}
use Rattle.ca_text.specs.declared.refusal.Refusal.TheVariants as refusal
use Rattle.ca_text.specs.Limits.{payload_limit}
use Rattle.ca_arena.specs.declared.handle.Handle.{Handle}
use Rattle.ca_dbr.specs.Elements.{Elements, bytes_of, count_of}
use Rattle.ca_records.specs.Rules.{may_write}
use Rattle.ca_model.specs.Client.{Client}
use Rattle.ca_model.specs.ClientCalls.{IsLive, LiveChannel, fault_at, first_refusal, is_misfit, is_over, put_fault}

-- ---- the bytes of a value

-- ---- what a write that is accepted has

abbrev pub first_of : (a b c d : Bool) → Option Refusal
first_of a b c d = first_refusal ((a, refusal.NoAccess) ∷ (b, refusal.BadCount) ∷ (c, refusal.OutputFull) ∷ (d, refusal.ArenaFull) ∷ [])

no-misfit : (a b c d : Bool) → first_of a b c d ≡ None → b ≡ false
no-misfit true b c d is = absurd cc
no-misfit false true c d is = absurd cc
no-misfit false false c d is = refl

or-false : (a b c : Bool) → a || (b || c) ≡ false → (b ≡ false) × (c ≡ false)
or-false false false false is = (refl, refl)
or-false true b c is = absurd cc
or-false false true c is = absurd cc
or-false false false true is = absurd cc

pub put-fits : (x : Client) (full : Bool) (h : Handle) (e : Elements) (l : LiveChannel) → IsLive x h l → put_fault x full h e ≡ None → (count_of e ≤ l.native.count) × (length (bytes_of e) ≤ payload_limit)
put-fits x full h e l live none =
    let here : first_of (not (may_write l.rights)) (is_misfit l.native e) (is_over x l.circuit) full ≡ None =
    sym (ap (fault_at (λ (m : LiveChannel). (not (may_write m.rights), refusal.NoAccess) ∷ (is_misfit m.native e, refusal.BadCount) ∷ (is_over x m.circuit, refusal.OutputFull) ∷ (full, refusal.ArenaFull) ∷ [])) live) ∙ none in
    let parts = or-false (count_of e == 0) (nat_lt l.native.count (count_of e)) (nat_lt payload_limit (length (bytes_of e))) (no-misfit (not (may_write l.rights)) (is_misfit l.native e) (is_over x l.circuit) full here) in
    (ltb-false l.native.count (count_of e) parts.0, ltb-false payload_limit (length (bytes_of e)) parts.1)
