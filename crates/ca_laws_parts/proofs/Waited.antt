-- What a message of a step makes of the puts that wait, of the log, and of the circuits.
use Rattle.std.proofs.Common.{◌≡◌, ℕ, zero, suc, ◌⊎◌, inl, inr, Bool, true, false, cond, not, ◌&&◌, List, [], ◌∷◌, ◌++◌, Some, None, refl, sym, ap, subst, ◌∙◌}
use Rattle.std.specs.Prelude.{is_some, nat_eq, slice_set}
use Rattle.std.specs.List.{flat_map}
use Rattle.std.specs.Str.{bytes_eq}
use Rattle.ca_arena.specs.declared.handle.Handle.{Handle}
use Rattle.ca_text.specs.Place.{At}
use Rattle.ca_text.proofs.Places.{some_is, At-mapped, At-one, At-set, At-set-other}
use Rattle.ca_ids.specs.Table.{under}
use Rattle.ca_records.specs.declared.puts.Put.{Put}
use Rattle.ca_records.specs.Puts.{Record, WaitingPut}
use Rattle.ca_model.specs.Due.{Action, Applies}
use Rattle.ca_model.specs.Due as action
use Rattle.ca_model.specs.Server.{Server}
use Rattle.ca_model.specs.ServerSteps.{stored_now}
use Rattle.ca_model.specs.Speech.{In}
use Rattle.ca_model.specs.History.{Entry}
use Rattle.ca_model.specs.History as history
use Rattle.ca_model.specs.ServerEvents.{ends_by, left_by, logged_by, numbers_after, places_where, records_after, with_core, write_numbers}
use Rattle.ca_model.specs.ServerEvents as event
use Rattle.ca_model.specs.World.{Joined, PutPlace, RecordSide}
use Rattle.ca_laws_parts.specs.Once.{write_in}
use Rattle.ca_laws_parts.proofs.WritesEvents.{AreSame, SameEnds, posted-same, same-self}
use Rattle.ca_laws_parts.proofs.Midway.{set-here}
use Rattle.ca_laws_parts.proofs.Leaving.{flat-in}
use Rattle.ca_laws_parts.proofs.WritesLists.{In-snoc, none_at}
use Rattle.ca_laws_parts.proofs.WritesMoves.{same-or}

-- ---- what waits after a message waited before, or is its own put

pub core-back : (f : Record → RecordSide → RecordSide) (cs : List Record) (rs : List RecordSide) (k : ℕ) (z : RecordSide) → At (with_core f cs rs) k z → (c : Record) × (r : RecordSide) × In rs r × (z ≡ f c r)
core-back f [] [] k z at = absurd (none_at k z at)
core-back f [] (r ∷ rs) k z at = absurd (none_at k z at)
core-back f (c ∷ cs) [] k z at = absurd (none_at k z at)
core-back f (c ∷ cs) (r ∷ rs) zero z at = (c, r, (0, refl), sym (some_is (f c r) z at))
core-back f (c ∷ cs) (r ∷ rs) (suc k) z at = (let b = core-back f cs rs k z at in (b.0, b.1, (suc b.2.0, b.2.1), b.3))

pub places-back : (test : Put → Bool) (ws : List WaitingPut) (ps : List PutPlace) (q : PutPlace) → In (places_where test ws ps) q → In ps q
places-back test [] [] q h = absurd (none_at h.0 q h.1)
places-back test [] (p ∷ ps) q h = absurd (none_at h.0 q h.1)
places-back test (w ∷ ws) [] q h = absurd (none_at h.0 q h.1)
places-back test (w ∷ ws) (p ∷ ps) q h = go (test w.put) h (λ rest. places-back test ws ps q rest)
  where
    first : (k : ℕ) → At (p ∷ places_where test ws ps) k q → (In (places_where test ws ps) q → In ps q) → In (p ∷ ps) q
    first zero at more = (0, at)
    first (suc k) at more = (let r = more (k, at) in (suc r.0, r.1))

    go : (b : Bool) → In (cond b (p ∷ places_where test ws ps) (places_where test ws ps)) q → (In (places_where test ws ps) q → In ps q) → In (p ∷ ps) q
    go true x more = first x.0 x.1 more
    go false x more = (let r = more x in (suc r.0, r.1))

-- a put that waits by these records
abbrev pub WaitsIn : List RecordSide → PutPlace → Type 0
WaitsIn rs q = (r : RecordSide) × In rs r × In r.waiting q

pub waits-back : (old : Server) (h : Handle) (p : PutPlace) (did : Action) (rs : List RecordSide) (q : PutPlace) → WaitsIn (records_after old h p did rs) q → (q ≡ p) ⊎ WaitsIn rs q
waits-back old h p (Applies name value true) rs q w =
    let f : RecordSide → RecordSide = λ (r : RecordSide). cond (bytes_eq r.name name) (record r { busy = Some p }) r in
    let b = At-mapped f rs w.1.0 w.0 w.1.1 in
    inr (b.0, (w.1.0, b.1), go (bytes_eq b.0.name name) b.0 (subst (λ (z : RecordSide). In z.waiting q) b.2 w.2))
  where
    go : (t : Bool) (r : RecordSide) → In (cond t (record r { busy = Some p }) r).waiting q → In r.waiting q
    go true r x = x
    go false r x = x
waits-back old h p (Applies name value false) rs q w = inr w
waits-back old h p (action.Waits name value) rs q w =
    let f : RecordSide → RecordSide = λ (r : RecordSide). cond (bytes_eq r.name name) (record r { waiting = r.waiting ++ p ∷ [] }) r in
    let b = At-mapped f rs w.1.0 w.0 w.1.1 in
    elim (go (bytes_eq b.0.name name) b.0 (subst (λ (z : RecordSide). In z.waiting q) b.2 w.2)) [ inl is ↦ inl is | inr old ↦ inr (b.0, (w.1.0, b.1), old) ]
  where
    go : (t : Bool) (r : RecordSide) → In (cond t (record r { waiting = r.waiting ++ p ∷ [] }) r).waiting q → (q ≡ p) ⊎ In r.waiting q
    go true r x = elim (In-snoc r.waiting p q x) [ inl old ↦ inr old | inr is ↦ inl is ]
    go false r x = inr x
waits-back old h p (action.Clears sid) rs q w =
    let b = core-back (event.without_channel h sid) old.records rs w.1.0 w.0 w.1.1 in
    let x : In (event.without_channel h sid b.0 b.1).waiting q = subst (λ (z : RecordSide). In z.waiting q) b.3 w.2 in
    inr (b.1, b.2, places-back (λ (t : Put). not (event.is_of_channel h sid t)) b.0.waiting b.1.waiting q x)
waits-back old h p action.Nothing rs q w = inr w
waits-back old h p action.Greets rs q w = inr w
waits-back old h p (action.Names x) rs q w = inr w
waits-back old h p (action.Opens x) rs q w = inr w
waits-back old h p (action.Adds x) rs q w = inr w
waits-back old h p (action.Drops x) rs q w = inr w
waits-back old h p (action.Switches x) rs q w = inr w

-- what a message logs of a write is of its own place, or of a put that waits
pub logged-back : (old : Server) (h : Handle) (p : PutPlace) (did : Action) (rs : List RecordSide) (e : Entry) (q : PutPlace) → In (logged_by old h p did rs) e → write_in e ≡ Some q → (q ≡ p) ⊎ WaitsIn rs q
logged-back old h p (Applies name value busies) rs e q h1 tells = inl (one h1.0 h1.1)
  where
    entry : Entry
    entry = history.Applied p.circuit p.place (event.number_of name rs) (stored_now old value) busies

    one : (k : ℕ) → At (entry ∷ []) k e → q ≡ p
    one zero at = sym (some_is p q (ap write_in (some_is entry e at) ∙ tells))
    one (suc k) at = absurd (none_at k e at)
logged-back old h p (action.Waits name value) rs e q h1 tells = inl (one h1.0 h1.1)
  where
    entry : Entry
    entry = history.Waits p.circuit p.place (event.number_of name rs) (stored_now old value)

    one : (k : ℕ) → At (entry ∷ []) k e → q ≡ p
    one zero at = sym (some_is p q (ap write_in (some_is entry e at) ∙ tells))
    one (suc k) at = absurd (none_at k e at)
logged-back old h p (action.Clears sid) rs e q h1 tells =
    let m = At-mapped (λ (x : PutPlace). history.Withdrawn x.circuit x.place) (flat_map (λ (ps : List PutPlace). ps) (with_core (λ (c : Record) (r : RecordSide). places_where (event.is_of_channel h sid) c.waiting r.waiting) old.records rs)) h1.0 e h1.1 in
    let same : m.0 ≡ q = some_is m.0 q (ap write_in (sym m.2) ∙ tells) in
    let f = flat-in (λ (ps : List PutPlace). ps) (with_core (λ (c : Record) (r : RecordSide). places_where (event.is_of_channel h sid) c.waiting r.waiting) old.records rs) m.0 (h1.0, m.1) in
    let b = lists-back old.records rs f.1.0 f.0 f.1.1 in
    inr (subst (λ (x : PutPlace). WaitsIn rs x) same (b.1, b.2, places-back (event.is_of_channel h sid) b.0.waiting b.1.waiting m.0 (subst (λ (l : List PutPlace). In l m.0) b.3 f.2)))
  where
    lists-back : (cs : List Record) (rs : List RecordSide) (k : ℕ) (z : List PutPlace) → At (with_core (λ (c : Record) (r : RecordSide). places_where (event.is_of_channel h sid) c.waiting r.waiting) cs rs) k z → (c : Record) × (r : RecordSide) × In rs r × (z ≡ places_where (event.is_of_channel h sid) c.waiting r.waiting)
    lists-back [] [] k z at = absurd (none_at k z at)
    lists-back [] (r ∷ rs) k z at = absurd (none_at k z at)
    lists-back (c ∷ cs) [] k z at = absurd (none_at k z at)
    lists-back (c ∷ cs) (r ∷ rs) zero z at = (c, r, (0, refl), sym (some_is (places_where (event.is_of_channel h sid) c.waiting r.waiting) z at))
    lists-back (c ∷ cs) (r ∷ rs) (suc k) z at = (let b = lists-back cs rs k z at in (b.0, b.1, (suc b.2.0, b.2.1), b.3))
logged-back old h p action.Nothing rs e q h1 tells = absurd (none_at h1.0 e h1.1)
logged-back old h p action.Greets rs e q h1 tells = absurd (none_at h1.0 e h1.1)
logged-back old h p (action.Names x) rs e q h1 tells = absurd (none_at h1.0 e h1.1)
logged-back old h p (action.Opens x) rs e q h1 tells = absurd (none_at h1.0 e h1.1)
logged-back old h p (action.Adds x) rs e q h1 tells = absurd (none_at h1.0 e h1.1)
logged-back old h p (action.Drops x) rs e q h1 tells = absurd (none_at h1.0 e h1.1)
logged-back old h p (action.Switches x) rs e q h1 tells = absurd (none_at h1.0 e h1.1)

-- ---- the circuits of a step

pub set-same : (cs : List Joined) (k : ℕ) (c d : Joined) → At cs k c → SameEnds c d → AreSame cs (slice_set cs k d)
set-same cs k c d at s = (
  λ n x there. elim (same-or n k) [
    | inl is ↦ (d, subst (λ (m : ℕ). At (slice_set cs k d) m d) (sym is) (set-here cs k c d at), subst (λ (z : Joined). SameEnds z d) (At-one cs k c x at (subst (λ (m : ℕ). At cs m x) is there)) s)
    | inr other ↦ (x, At-set-other cs k n x d there other, same-self x)
  ],
  λ n x there. elim (At-set cs k d n x there) [
    | inl new ↦ (c, subst (λ (m : ℕ). At cs m c) (sym new.0) at, subst (λ (z : Joined). SameEnds c z) (sym new.1) s)
    | inr old ↦ (x, old.0, same-self x)
  ],
)

pub numbers-after-same : (place : ℕ) (did : Action) (j : Joined) → SameEnds j (numbers_after place did j)
numbers-after-same place (Applies name value busies) j = same-self j
numbers-after-same place (action.Waits name value) j = same-self j
numbers-after-same place (action.Clears sid) j = record { server = refl; handle = refl; life = refl; up = refl; handled = refl; is_open = refl }
numbers-after-same place action.Nothing j = same-self j
numbers-after-same place action.Greets j = same-self j
numbers-after-same place (action.Names x) j = same-self j
numbers-after-same place (action.Opens x) j = record { server = refl; handle = refl; life = refl; up = refl; handled = refl; is_open = refl }
numbers-after-same place (action.Adds x) j = record { server = refl; handle = refl; life = refl; up = refl; handled = refl; is_open = refl }
numbers-after-same place (action.Drops x) j = record { server = refl; handle = refl; life = refl; up = refl; handled = refl; is_open = refl }
numbers-after-same place (action.Switches x) j = record { server = refl; handle = refl; life = refl; up = refl; handled = refl; is_open = refl }

pub write-numbers-same : (i : ℕ) (core : Server) (did : Action) (j : Joined) → SameEnds j (write_numbers i core did j)
write-numbers-same i core (Applies name value busies) j = posted-same i core name 3 j
write-numbers-same i core (action.Waits name value) j = same-self j
write-numbers-same i core (action.Clears sid) j = same-self j
write-numbers-same i core action.Nothing j = same-self j
write-numbers-same i core action.Greets j = same-self j
write-numbers-same i core (action.Names x) j = same-self j
write-numbers-same i core (action.Opens x) j = same-self j
write-numbers-same i core (action.Adds x) j = same-self j
write-numbers-same i core (action.Drops x) j = same-self j
write-numbers-same i core (action.Switches x) j = same-self j

pub ends-same : (i : ℕ) (core : Server) (c d : Joined) → SameEnds c d → is_some (ends_by i core d) ≡ is_some (ends_by i core c)
ends-same i core c d s =
    ap (λ (n : ℕ). is_some (cond (nat_eq n i && d.lists.server_open) (left_by (under core.circuits d.at_server)) None)) s.server
    ∙ ap (λ (b : Bool). is_some (cond (nat_eq c.server i && b) (left_by (under core.circuits d.at_server)) None)) s.is_open
    ∙ ap (λ (h : Handle). is_some (cond (nat_eq c.server i && c.lists.server_open) (left_by (under core.circuits h)) None)) s.handle
