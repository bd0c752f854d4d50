-- Histories that break a part of what is said of requests: what is sent, and how often.
use Rattle.std.proofs.Common.{◌≡◌, ℕ, inl, inr, List, [], ◌∷◌, refl, subst, arith}
use Rattle.std.specs.Prelude.{false}
use Rattle.ca_text.specs.Place.{At}
use Rattle.ca_dbr.specs.declared.value.Outcome.TheVariants as outcome
use Rattle.ca_model.specs.History.{Request, Read, On, Sent, Circuit, Line, Opened, Called, ToRead}
use Rattle.ca_model_examples.specs.Worlds.{AnyDue, circuit, reading, temp_name, world}
use Rattle.ca_model_examples.specs.Parts.{Part, Holds, BreaksOnly, IsSafeNow, InCircuit}
use Rattle.ca_model_examples.specs.Parts as part
use Rattle.ca_model_examples.specs.Unsafe.{called_again, disconnected, misasked, read_called, read_lost, temp_there, unread}
use Rattle.ca_model_examples.proofs.Lists.{none-at, one-at}
use Rattle.ca_model_examples.proofs.Quiet.{quiet, whole}
use Rattle.ca_model_examples.proofs.Shown.{SentAt, ToldAt, sent-each, told-each}
use Rattle.ca_model_examples.proofs.Names.{its-part, zero-one}

abbrev sent : List Sent → Circuit
sent up = circuit up [] [] []

-- the call of the read was sent at place 0
sent-first : (more : List Sent) (x : List Line) → SentAt (world (sent (reading 0 7 ∷ more) ∷ []) x temp_there) 1 (Called (On 0 (Request Read 0)) (ToRead 5 1))
sent-first more x asks = (0, 0, (sent (reading 0 7 ∷ more), refl, refl, (reading 0 7, refl, refl)))

read-each : (p : Part) → Holds AnyDue p (unread (reading 0 7 ∷ []) read_called)
read-each part.SentOnce = sent-each (sent (reading 0 7 ∷ [])) read_called temp_there refl refl (tt, (sent-first [] read_called, tt))
read-each p = quiet AnyDue p (sent (reading 0 7 ∷ [])) read_called temp_there refl refl refl refl refl

pub read-safe : IsSafeNow (unread (reading 0 7 ∷ []) read_called)
read-safe = whole AnyDue _ read-each

-- a WRITE that was meant as the read
misasked-rest : (p : Part) → (p ≡ part.Asked → ⊥) → Holds AnyDue p (unread (misasked ∷ []) read_called)
misasked-rest part.Asked ne = absurd (ne refl)
misasked-rest part.SentOnce ne = sent-each (sent (misasked ∷ [])) read_called temp_there refl refl (tt, ((λ asks. (0, 0, (sent (misasked ∷ []), refl, refl, (misasked, refl, refl)))), tt))
misasked-rest p ne = quiet AnyDue p (sent (misasked ∷ [])) read_called temp_there refl refl refl refl refl

pub sent-as-a-write : BreaksOnly part.Asked (unread (misasked ∷ []) read_called)
sent-as-a-write = (misasked-rest, λ h. (let e = its-part part.Asked (sent (misasked ∷ [])) read_called temp_there refl refl h.0 0 misasked refl in omega (arith, e)))

-- a read that was called twice, or not sent, or sent twice
again-rest : (p : Part) → (p ≡ part.OneCall → ⊥) → Holds AnyDue p (unread (reading 0 7 ∷ []) called_again)
again-rest part.OneCall ne = absurd (ne refl)
again-rest part.SentOnce ne = sent-each (sent (reading 0 7 ∷ [])) called_again temp_there refl refl (tt, (sent-first [] called_again, (sent-first [] called_again, tt)))
again-rest p ne = quiet AnyDue p (sent (reading 0 7 ∷ [])) called_again temp_there refl refl refl refl refl

pub called-twice : BreaksOnly part.OneCall (unread (reading 0 7 ∷ []) called_again)
called-twice = (again-rest, λ h. (let e = h.1 0 called_again refl 1 2 (On 0 (Request Read 0)) (ToRead 5 1) (ToRead 5 1) refl refl in omega (arith, e)))

unsent-rest : (p : Part) → (p ≡ part.SentOnce → ⊥) → Holds AnyDue p (unread [] read_called)
unsent-rest part.SentOnce ne = absurd (ne refl)
unsent-rest p ne = quiet AnyDue p (sent []) read_called temp_there refl refl refl refl refl

pub not-sent : BreaksOnly part.SentOnce (unread [] read_called)
not-sent = (
  unsent-rest,
  λ h.
      (let s = h.1 0 read_called refl (On 0 (Request Read 0)) (ToRead 5 1) tt (1, refl) in
      let c = one-at (sent []) s.0 s.2.0 s.2.1 in
      none-at s.1 s.2.3.0 (subst (λ (d : Circuit). At d.up s.1 s.2.3.0) c.1 s.2.3.1)),
)

two-rest : (p : Part) → (p ≡ part.AtOne → ⊥) → Holds AnyDue p (unread (reading 0 7 ∷ reading 0 8 ∷ []) read_called)
two-rest part.AtOne ne = absurd (ne refl)
two-rest part.SentOnce ne = sent-each (sent (reading 0 7 ∷ reading 0 8 ∷ [])) read_called temp_there refl refl (tt, (sent-first (reading 0 8 ∷ []) read_called, tt))
two-rest p ne = quiet AnyDue p (sent (reading 0 7 ∷ reading 0 8 ∷ [])) read_called temp_there refl refl refl refl refl

pub sent-twice : BreaksOnly part.AtOne (unread (reading 0 7 ∷ reading 0 8 ∷ []) read_called)
sent-twice = (two-rest, λ h. zero-one (h.1 0 read_called refl (On 0 (Request Read 0)) 0 0 0 1 tt (_, refl, refl, (_, refl, refl)) (_, refl, refl, (_, refl, refl))).1)

-- ---- a read that is told as disconnected

abbrev ended : Circuit
ended = record (circuit (reading 0 7 ∷ []) [] [] []) { client_open = false }

abbrev lost_lines : List Line → List Line
lost_lines more = Opened 0 temp_name ∷ Called (On 0 (Request Read 0)) (ToRead 5 1) ∷ more

lost-told : (more : List Line) (i : ℕ) → ToldAt (disconnected more) (lost_lines more) i read_lost
lost-told more i = inr (refl, (0, 0, 0, Request Read 0, ended, refl, refl, refl, (reading 0 7, refl, refl), inl refl))

lost-sent : (more : List Line) → SentAt (disconnected more) 1 (Called (On 0 (Request Read 0)) (ToRead 5 1))
lost-sent more asks = (0, 0, (ended, refl, refl, (reading 0 7, refl, refl)))

lost-each : (p : Part) → Holds AnyDue p (disconnected (read_lost ∷ []))
lost-each part.SentOnce = sent-each ended (lost_lines (read_lost ∷ [])) temp_there refl refl (tt, (lost-sent (read_lost ∷ []), (tt, tt)))
lost-each part.Told = told-each ended (lost_lines (read_lost ∷ [])) temp_there refl refl (tt, (tt, (lost-told (read_lost ∷ []) 2, tt)))
lost-each p = quiet AnyDue p ended (lost_lines (read_lost ∷ [])) temp_there refl refl refl refl refl

pub lost-safe : IsSafeNow (disconnected (read_lost ∷ []))
lost-safe = whole AnyDue _ lost-each

lost-rest : (p : Part) → (p ≡ part.CompletedOnce → ⊥) → Holds AnyDue p (disconnected (read_lost ∷ read_lost ∷ []))
lost-rest part.CompletedOnce ne = absurd (ne refl)
lost-rest part.SentOnce ne = sent-each ended (lost_lines (read_lost ∷ read_lost ∷ [])) temp_there refl refl (tt, (lost-sent (read_lost ∷ read_lost ∷ []), (tt, (tt, tt))))
lost-rest part.Told ne = told-each ended (lost_lines (read_lost ∷ read_lost ∷ [])) temp_there refl refl (tt, (tt, (lost-told (read_lost ∷ read_lost ∷ []) 2, (lost-told (read_lost ∷ read_lost ∷ []) 3, tt))))
lost-rest p ne = quiet AnyDue p ended (lost_lines (read_lost ∷ read_lost ∷ [])) temp_there refl refl refl refl refl

pub completed-twice : BreaksOnly part.CompletedOnce (disconnected (read_lost ∷ read_lost ∷ []))
completed-twice = (lost-rest, λ h. (let e = h.1 0 _ refl 2 3 (On 0 (Request Read 0)) outcome.Disconnected outcome.Disconnected tt refl refl in omega (arith, e)))
