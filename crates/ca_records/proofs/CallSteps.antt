-- What the calls on one record make of the store.
use Rattle.std.proofs.Common.{◌≡◌, inl, inr, ℕ, zero, suc, ◌+◌, ◌≤◌, Bool, true, false, List, [], ◌∷◌, length, filter, not, Option, None, Some, Ok, Err, Result, slice_set, refl, sym, ap, ◌∙◌, subst, arith}
use Rattle.std.proofs.lemmas.List.{length-map, length_push}
use Rattle.std.specs.declared.alloc.AllocError.{AllocError}
use Rattle.ca_arena.specs.declared.handle.Handle.{Handle}
use Rattle.ca_dbr.specs.declared.value.Meta.{Meta}
use Rattle.ca_dbr.specs.DisplayData.{DisplayData}
use Rattle.ca_dbr.specs.Elements.{Elements, displayed}
use Rattle.ca_dbr.specs.Held.{bare}
use Rattle.ca_text.specs.declared.refusal.Refusal.{Refusal}
use Rattle.ca_text.specs.declared.refusal.Refusal.TheVariants as refusal
use Rattle.ca_text.specs.Place.{At}
use Rattle.ca_text.proofs.Places.{At-one, some_is}
use Rattle.ca_records.specs.declared.puts.Begun.{Begun}
use Rattle.ca_records.specs.declared.puts.Begun.TheVariants.{Applied, Refused, Waiting}
use Rattle.ca_records.specs.declared.puts.Finished.{Finished}
use Rattle.ca_records.specs.declared.slot.RecordSlot.{RecordSlot}
use Rattle.ca_records.specs.declared.slot.RecordSlot.TheVariants.{Full}
use Rattle.ca_records.specs.Chain.{IsStored}
use Rattle.ca_records.specs.Judging.{fewer_waiting, more_waiting}
use Rattle.ca_records.specs.Layout.{IsFit}
use Rattle.ca_records.specs.declared.puts.Put.{Put}
use Rattle.ca_records.specs.declared.puts.Stamp.{Stamp}
use Rattle.ca_records.specs.Puts.{Record, WaitingPut, finished, record_named, shown_by, with_value, withdrawn, without_puts}
use Rattle.ca_records.specs.Rules.{Rule}
use Rattle.ca_records.specs.Store.{Becomes, Finds, Store, present, records_of}
use Rattle.ca_records.specs.Writes.{Begins, BeginsOn, Finishes, FinishesOn, Posts, SetsDisplay, Turns, Withdraws, is_of, next_put}
use Rattle.ca_records.proofs.Presence.{waiting-gone}
use Rattle.ca_records.proofs.Steps.{Change, change, found-at, seen, seen-full, store_of}
use Rattle.ca_records.proofs.Waiters.{true_or_false}

-- the puts that wait for a record are among those that wait
pub waiting-part : (slots : List RecordSlot) (free : Option ℕ) (f : List ℕ → Option ℕ) (waiting place : ℕ) (r : Record) → IsStored slots free f waiting → At slots place (Full r) → length r.waiting ≤ waiting
waiting-part slots free f waiting place r stored full = omega (arith, stored.counted, waiting-gone (seen slots) place r (seen-full slots place r full))

-- ---- writes

begins-waiting : (s : Stamp) (r : Record) (put : Option Put) (e : Elements) (result : Result Begun AllocError) (next : Record) → BeginsOn s r put e result next → more_waiting result + length r.waiting ≡ length next.waiting
begins-waiting s r put e (Ok (Applied true)) next h = let is = ap (λ (q : Record). length q.waiting) h.3.4 in omega (arith, is)
begins-waiting s r put e (Ok (Applied false)) next h = let is = ap (λ (q : Record). length q.waiting) h.3.2 in omega (arith, is)
begins-waiting s r put e (Ok Waiting) next h =
    let is : length next.waiting ≡ length r.waiting + 1 = ap (λ (q : Record). length q.waiting) h.3.3 ∙ length_push r.waiting (record { put = h.3.0; value = h.0 }) in omega (arith, is)
begins-waiting s r put e (Ok (Refused status)) next h = let is = ap (λ (q : Record). length q.waiting) h.1 in omega (arith, is)
begins-waiting s r put e (Err lack) next h = let is = ap (λ (q : Record). length q.waiting) h.2 in omega (arith, is)

begins-name : (s : Stamp) (r : Record) (put : Option Put) (e : Elements) (result : Result Begun AllocError) (next : Record) → BeginsOn s r put e result next → next.state.name ≡ r.state.name
begins-name s r put e (Ok (Applied true)) next h = ap (λ (q : Record). q.state.name) h.3.4
begins-name s r put e (Ok (Applied false)) next h = ap (λ (q : Record). q.state.name) h.3.2
begins-name s r put e (Ok Waiting) next h = ap (λ (q : Record). q.state.name) h.3.3
begins-name s r put e (Ok (Refused status)) next h = ap (λ (q : Record). q.state.name) h.1
begins-name s r put e (Err lack) next h = ap (λ (q : Record). q.state.name) h.2

pub record BeginStep (slots : List RecordSlot) (free : Option ℕ) (f : List ℕ → Option ℕ) (rules : List Rule) (stamp : Stamp) (place : ℕ) (next : Record) (put : Option Put) (e : Elements) (result : Result Begun AllocError) (more : ℕ) : Type 0 where
  pub stored : IsStored (slice_set slots place (Full next)) free f more
  pub begins : Begins (store_of slots rules stamp) place put e result (store_of (slice_set slots place (Full next)) rules stamp)

pub begin-step : (slots : List RecordSlot) (free : Option ℕ) (f : List ℕ → Option ℕ) (waiting more : ℕ) (rules : List Rule) (stamp : Stamp) (place : ℕ) (r next : Record) (put : Option Put) (e : Elements) (result : Result Begun AllocError) → IsStored slots free f waiting → At slots place (Full r) → BeginsOn stamp r put e result next → more ≡ waiting + more_waiting result → BeginStep slots free f rules stamp place next put e result more
begin-step slots free f waiting more rules stamp place r next put e result stored full begins is =
    let waits = begins-waiting stamp r put e result next begins in
    let made = change slots free f waiting more rules stamp place r next stored full (begins-name stamp r put e result next begins) (omega (arith, waits, is)) in
    record { stored = made.stored; begins = record { r = r; next = next; begins = begins; becomes = made.becomes } }

-- ---- the end of a busy put

-- what was looked up is the record at the place
finds-it : (slots : List RecordSlot) (rules : List Rule) (stamp : Stamp) (name : List ℕ) (place : ℕ) (r : Record) → Finds (store_of slots rules stamp) name place → At slots place (Full r) → (r.state.name ≡ name) × (record_named (present (seen slots)) name ≡ Some r)
finds-it slots rules stamp name place r found full =
    let same : found.r ≡ r = some_is found.r r (At-one (seen slots) place (Some found.r) (Some r) found.at (seen-full slots place r full)) in
    (ap (λ (q : Record). q.state.name) (sym same) ∙ found.named, found.found ∙ ap Some same)

-- what is at a place is found there by its own name
pub finds-own : (slots : List RecordSlot) (free : Option ℕ) (f : List ℕ → Option ℕ) (waiting : ℕ) (rules : List Rule) (stamp : Stamp) (place : ℕ) (r : Record) → IsStored slots free f waiting → At slots place (Full r) → Finds (store_of slots rules stamp) r.state.name place
finds-own slots free f waiting rules stamp place r stored full =
    let at : At (seen slots) place (Some r) = seen-full slots place r full in
    record { r = r; at = at; named = refl; found = found-at (seen slots) f place r stored.index at }

-- what is at a place has one name
pub finishes-named : (s u : Store) (name : List ℕ) (place : ℕ) (result : Result Finished Refusal) → Finds s name place → (other : List ℕ) × Finds s other place × Finishes s other result u → Finishes s name result u
finishes-named s u name place result g (other, f, did) =
    let same : f.r ≡ g.r = some_is f.r g.r (At-one s.slots place (Some f.r) (Some g.r) f.at g.at) in
    subst (λ (n : List ℕ). Finishes s n result u) (sym f.named ∙ ap (λ (q : Record). q.state.name) same ∙ g.named) did

pub turns : (slots : List RecordSlot) (free : Option ℕ) (f : List ℕ → Option ℕ) (rules : List Rule) (stamp : Stamp) (name : List ℕ) (place : ℕ) (r next : Record) (more : ℕ) → Finds (store_of slots rules stamp) name place → At slots place (Full r) → Change slots free f rules stamp place r next more → Turns (store_of slots rules stamp) name place r next (store_of (slice_set slots place (Full next)) rules stamp)
turns slots free f rules stamp name place r next more found full made =
    let it = finds-it slots rules stamp name place r found full in record { found = it.1; named = it.0; becomes = made.becomes }

finished-waiting : (s : Stamp) (r : Record) (ws : List WaitingPut) → fewer_waiting (next_put ws) + length (finished s r ws).waiting ≡ length ws
finished-waiting s r [] = refl
finished-waiting s r (w ∷ ws) = omega arith

finished-name : (s : Stamp) (r : Record) (ws : List WaitingPut) → (finished s r ws).state.name ≡ r.state.name
finished-name s r [] = refl
finished-name s r (w ∷ ws) = refl

pub finishes-waiting : (s : Stamp) (r : Record) (ended : Put) (applied : Option Put) (next : Record) → FinishesOn s r (Some (ended, applied)) next → fewer_waiting applied + length next.waiting ≡ length r.waiting
finishes-waiting s r ended applied next h =
    ap (λ (o : Option Put). fewer_waiting o + length next.waiting) h.1 ∙ ap (λ (q : Record). fewer_waiting (next_put r.waiting) + length q.waiting) h.2 ∙ finished-waiting s r r.waiting

pub fewer-waiting : (slots : List RecordSlot) (free : Option ℕ) (f : List ℕ → Option ℕ) (waiting place : ℕ) (s : Stamp) (r : Record) (ended : Put) (applied : Option Put) (next : Record) → IsStored slots free f waiting → At slots place (Full r) → FinishesOn s r (Some (ended, applied)) next → fewer_waiting applied ≤ waiting
fewer-waiting slots free f waiting place s r ended applied next stored full finishes =
    omega (arith, waiting-part slots free f waiting place r stored full, finishes-waiting s r ended applied next finishes)

pub record FinishStep (slots : List RecordSlot) (free : Option ℕ) (f : List ℕ → Option ℕ) (rules : List Rule) (stamp : Stamp) (name : List ℕ) (place : ℕ) (next : Record) (ended : Put) (applied : Option Put) (more : ℕ) : Type 0 where
  pub stored : IsStored (slice_set slots place (Full next)) free f more
  pub finishes : let done : Finished = record { place = place; ended = ended; applied = applied } in Finishes (store_of slots rules stamp) name (Ok done) (store_of (slice_set slots place (Full next)) rules stamp)

pub finish-step : (slots : List RecordSlot) (free : Option ℕ) (f : List ℕ → Option ℕ) (waiting more : ℕ) (rules : List Rule) (stamp : Stamp) (name : List ℕ) (place : ℕ) (r next : Record) (ended : Put) (applied : Option Put) → IsStored slots free f waiting → At slots place (Full r) → Finds (store_of slots rules stamp) name place → FinishesOn stamp r (Some (ended, applied)) next → more + fewer_waiting applied ≡ waiting → FinishStep slots free f rules stamp name place next ended applied more
finish-step slots free f waiting more rules stamp name place r next ended applied stored full found finishes is =
    let counts : more + length r.waiting ≡ waiting + length next.waiting = omega (arith, finishes-waiting stamp r ended applied next finishes, is) in
    let same : next.state.name ≡ r.state.name = ap (λ (q : Record). q.state.name) finishes.2 ∙ finished-name stamp r r.waiting in
    let made : Change slots free f rules stamp place r next more = change slots free f waiting more rules stamp place r next stored full same counts in
    record {
      stored = made.stored;
      finishes =
          let turned : Turns (store_of slots rules stamp) name place r next (store_of (slice_set slots place (Full next)) rules stamp) = turns slots free f rules stamp name place r next more found full made in
          (r, finishes.0, finishes.1, subst (λ (q : Record). Turns (store_of slots rules stamp) name place r q (store_of (slice_set slots place (Full next)) rules stamp)) finishes.2 turned);
    }

-- a record that is not busy stays as it is
pub finish-refused : (slots : List RecordSlot) (free : Option ℕ) (f : List ℕ → Option ℕ) (waiting : ℕ) (rules : List Rule) (stamp : Stamp) (name : List ℕ) (place : ℕ) (r next : Record) → IsStored slots free f waiting → At slots place (Full r) → Finds (store_of slots rules stamp) name place → FinishesOn stamp r None next → Finishes (store_of slots rules stamp) name (Err refusal.NotBusy) (store_of (slice_set slots place (Full next)) rules stamp)
finish-refused slots free f waiting rules stamp name place r next stored full found finishes =
    let it = finds-it slots rules stamp name place r found full in
    let made : Change slots free f rules stamp place r next waiting = change slots free f waiting waiting rules stamp place r next stored full (ap (λ (q : Record). q.state.name) finishes.1) (ap (λ (q : Record). waiting + length q.waiting) (sym finishes.1)) in
    ((r, it.1, finishes.0), made.becomes.same finishes.1)

-- ---- puts that are taken out

filter-again : (t : Put → Bool) (ws : List WaitingPut) → filter (λ (w : WaitingPut). not (t w.put)) (filter (λ (w : WaitingPut). not (t w.put)) ws) ≡ filter (λ (w : WaitingPut). not (t w.put)) ws
filter-again t [] = refl
filter-again t (w ∷ ws) = elim (true_or_false (t w.put)) [
  | inl h ↦ rw h (filter-again t ws)
  | inr h ↦ rw (h, h) (ap (λ vs. w ∷ vs) (filter-again t ws))
]

without-again : (t : Put → Bool) (r : Record) → without_puts t (without_puts t r) ≡ without_puts t r
without-again t r =
    ap (λ (ws : List WaitingPut). let q : Record = record { state = r.state; busy = r.busy; waiting = ws } in q) (filter-again t r.waiting)

withdrawn-set : (t : Put → Bool) (slots : List (Option Record)) (place : ℕ) (r : Record) → At slots place (Some r) → withdrawn t (present (slice_set slots place (Some (without_puts t r)))) ≡ withdrawn t (present slots)
withdrawn-set t [] place r at = absurd cc
withdrawn-set t (slot ∷ slots) zero r at =
    let here : slot ≡ Some r = some_is slot (Some r) at in rw here (ap (λ q. q ∷ withdrawn t (present slots)) (without-again t r))
withdrawn-set t (None ∷ slots) (suc place) r at = withdrawn-set t slots place r at
withdrawn-set t (Some b ∷ slots) (suc place) r at = ap (λ rs. without_puts t b ∷ rs) (withdrawn-set t slots place r at)

pub record WithdrawStep (slots : List RecordSlot) (free : Option ℕ) (f : List ℕ → Option ℕ) (rules : List Rule) (stamp : Stamp) (place : ℕ) (next : Record) (circuit : Handle) (channel : Option Handle) (more : ℕ) : Type 0 where
  pub stored : IsStored (slice_set slots place (Full next)) free f more
  pub withdraws : Withdraws (store_of slots rules stamp) place circuit channel (store_of (slice_set slots place (Full next)) rules stamp)

pub withdraw-step : (slots : List RecordSlot) (free : Option ℕ) (f : List ℕ → Option ℕ) (waiting more gone : ℕ) (rules : List Rule) (stamp : Stamp) (place : ℕ) (r next : Record) (circuit : Handle) (channel : Option Handle) → IsStored slots free f waiting → At slots place (Full r) → next ≡ without_puts (is_of circuit channel) r → gone + length next.waiting ≡ length r.waiting → more + gone ≡ waiting → WithdrawStep slots free f rules stamp place next circuit channel more
withdraw-step slots free f waiting more gone rules stamp place r next circuit channel stored full is counts less =
    let made : Change slots free f rules stamp place r next more = change slots free f waiting more rules stamp place r next stored full (ap (λ (q : Record). q.state.name) is) (omega (arith, counts, less)) in
    record {
      stored = made.stored;
      withdraws = record {
        r = r;
        becomes = subst (λ (q : Record). Becomes (store_of slots rules stamp) place r q (store_of (slice_set slots place (Full next)) rules stamp)) is made.becomes;
        rest =
            ap (λ (s : Store). withdrawn (is_of circuit channel) (records_of s)) made.becomes.leaves
            ∙ ap (λ (q : Record). withdrawn (is_of circuit channel) (present (slice_set (seen slots) place (Some q)))) is
            ∙ withdrawn-set (is_of circuit channel) (seen slots) place r (seen-full slots place r full);
      };
    }

-- ---- posts

pub record PostStep (slots : List RecordSlot) (free : Option ℕ) (f : List ℕ → Option ℕ) (rules : List Rule) (stamp : Stamp) (name : List ℕ) (place : ℕ) (next : Record) (e : Elements) (meta : Meta) (waiting : ℕ) : Type 0 where
  pub stored : IsStored (slice_set slots place (Full next)) free f waiting
  pub posts : Posts (store_of slots rules stamp) name e meta (Ok place) (store_of (slice_set slots place (Full next)) rules stamp)

pub post-step : (slots : List RecordSlot) (free : Option ℕ) (f : List ℕ → Option ℕ) (waiting : ℕ) (rules : List Rule) (stamp : Stamp) (name : List ℕ) (place : ℕ) (r next : Record) (e : Elements) (meta : Meta) → IsStored slots free f waiting → At slots place (Full r) → Finds (store_of slots rules stamp) name place → IsFit r.state e → next ≡ with_value e meta r → PostStep slots free f rules stamp name place next e meta waiting
post-step slots free f waiting rules stamp name place r next e meta stored full found fit is =
    let it = finds-it slots rules stamp name place r found full in
    let made : Change slots free f rules stamp place r next waiting = change slots free f waiting waiting rules stamp place r next stored full (ap (λ (q : Record). q.state.name) is) (ap (λ (q : Record). waiting + length q.waiting) (sym is)) in
    let turned = turns slots free f rules stamp name place r next waiting found full made in
    record {
      stored = made.stored;
      posts = ((r, it.1, fit.based, fit.holds.one, fit.holds.within), (r, subst (λ (q : Record). Turns (store_of slots rules stamp) name place r q (store_of (slice_set slots place (Full next)) rules stamp)) is turned));
    }

-- ---- display data

pub record DisplayStep (slots : List RecordSlot) (free : Option ℕ) (f : List ℕ → Option ℕ) (rules : List Rule) (stamp : Stamp) (name : List ℕ) (place : ℕ) (next : Record) (d : DisplayData) (waiting : ℕ) : Type 0 where
  pub stored : IsStored (slice_set slots place (Full next)) free f waiting
  pub sets : SetsDisplay (store_of slots rules stamp) name d (Ok place) (store_of (slice_set slots place (Full next)) rules stamp)

pub display-step : (slots : List RecordSlot) (free : Option ℕ) (f : List ℕ → Option ℕ) (waiting : ℕ) (rules : List Rule) (stamp : Stamp) (name : List ℕ) (place : ℕ) (r next : Record) (d : DisplayData) → IsStored slots free f waiting → At slots place (Full r) → Finds (store_of slots rules stamp) name place → next ≡ shown_by d r → DisplayStep slots free f rules stamp name place next d waiting
display-step slots free f waiting rules stamp name place r next d stored full found is =
    let counts : length next.waiting ≡ length r.waiting = ap (λ (q : Record). length q.waiting) is ∙ length-map r.waiting (λ (p : WaitingPut). record p { value = displayed d (bare p.value) }) in
    let made : Change slots free f rules stamp place r next waiting = change slots free f waiting waiting rules stamp place r next stored full (ap (λ (q : Record). q.state.name) is) (omega (arith, counts)) in
    let turned = turns slots free f rules stamp name place r next waiting found full made in
    record {
      stored = made.stored;
      sets = (r, subst (λ (q : Record). Turns (store_of slots rules stamp) name place r q (store_of (slice_set slots place (Full next)) rules stamp)) is turned);
    }
