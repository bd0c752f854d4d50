-- The channel of the examples: what its creation's reply is about, and which record it is for.
use Rattle.std.proofs.Common.{◌≡◌, ℕ, zero, suc, ◌<◌, inl, inr, List, [], ◌∷◌, refl, sym, ap, subst, arith}
use Rattle.std.specs.Prelude.{◌==◌, drop, not, true, Some, take}
use Rattle.ca_text.specs.Place.{At}
use Rattle.ca_wire.specs.Fields.{Fields}
use Rattle.ca_model.specs.Speech.{Cid, Creates, Heads, Id, In, Ioid, Is, Speaks, SubId}
use Rattle.ca_model.specs.History.{Sent, Told, Circuit, Entry, Added, Removed}
use Rattle.ca_model.specs.Channels.{Created, IsOpen, named, until}
use Rattle.ca_model_examples.specs.Worlds.{creating, step, temp}
use Rattle.ca_model_examples.proofs.Lists.{none-at}
use Rattle.ca_model_examples.proofs.Quiet.{any, none}
use Rattle.ca_model.specs.Causes.{TakesOwn}
use Rattle.ca_model_examples.specs.Worlds.{created_told, disconnected}
use Rattle.ca_model_examples.proofs.Speaks.{heads, of-channel}
use Rattle.std.proofs.lemmas.Bool.{eq-eqb}
use Rattle.ca_text.specs.declared.command.Command.TheVariants as command

at-drop : {A : Type 0} (xs : List A) (l : ℕ) (r : A) → At xs (suc l) r → At (drop 1 xs) l r
at-drop [] l r at = absurd (none-at (suc l) r at)
at-drop (x ∷ xs) l r at = at

-- The CID of the first message is taken for it, since no other gives one.
pub takes-cid : (c : Circuit) (j p : ℕ) (r : Sent) → At c.up 0 creating → At c.up p r → named (Cid 1) r.intent ≡ Some 0 → 0 < until c j → not (any (λ (s : Sent). s.message.command == 18) (drop 1 c.up)) ≡ true → TakesOwn c j p (Cid 1)
takes-cid c j p r first at is early test = (0, 0, creating, r, (creating, first, (refl, refl), early, λ l z after before here gives. others l z after here gives.0), omega arith, first, at, refl, is)
  where
    others : (l : ℕ) (z : Sent) → 0 < l → At c.up l z → Is command.CreateChannel z.message → ⊥
    others zero z after here e = omega (arith, after)
    others (suc l) z after here e = none (λ (s : Sent). s.message.command == 18) (drop 1 c.up) test l z (at-drop c.up l z here) (eq-eqb z.message.command 18 e)

-- the creation's reply
pub created-here : (c : Circuit) (y : List Entry) → At c.down 0 created_told → At c.up 0 creating → At c.handled 0 (step 0 1 1) → At (take 1 y) 0 (Added 0 temp) → (In (take 1 y) (Removed 0) → ⊥) → Created c y 0 0 5 0
created-here c y a b d e f = (created_told, creating, step 0 1 1, a, refl, refl, (refl, refl), b, d, (temp, (0, e), refl, f), (refl, refl))

pub open-here : (c : Circuit) (y : List Entry) → Created c y 0 0 5 0 → not (any (λ (t : Told). t.message.command == 18) (drop 1 c.down)) ≡ true → not (any (λ (s : Sent). s.message.command == 12) c.up) ≡ true → IsOpen c y 0 0 5 0
open-here c y made test clear = (made, others, λ l s after early at clears. none (λ (z : Sent). z.message.command == 12) c.up clear l s at (eq-eqb s.message.command 12 clears.0))
  where
    others : (i : ℕ) (t : Told) → 0 < i → At c.down i t → Creates t.message 5 → ⊥
    others zero t after here e = omega (arith, after)
    others (suc i) t after here e = none (λ (z : Told). z.message.command == 18) (drop 1 c.down) test i t (at-drop c.down i t here) (eq-eqb t.message.command 18 e.0)

pub created-own : (c : Circuit) (j : ℕ) → TakesOwn c j 0 (Cid 1) → (id : Id) → Speaks created_told.message id → TakesOwn c j 0 id
created-own c j takes id s = subst (λ (e : Id). TakesOwn c j 0 e) (sym (of-channel created_told.message id (inr refl) (heads created_told.message id (λ e. omega (arith, e)) s))) takes

-- SERVER_DISCONN speaks of the CID
of-disconnect : (m : Fields) (id : Id) → Is command.ServerDisconnect m → Heads m id → id ≡ Cid m.p1
of-disconnect m (Cid n) is h =
    elim h [
      | inl a ↦ ap Cid (sym a.1)
      | inr a ↦ (let e = a.0 in absurd (omega (arith, e, is)))
    ]
of-disconnect m (Ioid n) is h =
    elim h.0 [
      | inl e ↦ absurd (omega (arith, e, is))
      | inr e ↦ absurd (omega (arith, e, is))
    ]
of-disconnect m (SubId n) is h = (let e = h.0 in absurd (omega (arith, e, is)))

pub disconnect-own : (c : Circuit) (j : ℕ) → TakesOwn c j 0 (Cid 1) → (id : Id) → Speaks disconnected.message id → TakesOwn c j 0 id
disconnect-own c j takes id s = subst (λ (e : Id). TakesOwn c j 0 e) (sym (of-disconnect disconnected.message id refl (heads disconnected.message id (λ e. omega (arith, e)) s))) takes
