-- The searches that are due once circuits have ended are those that were foreseen.
use Rattle.std.proofs.Common.{◌≡◌, ◌∙◌, ℕ, suc, ◌≤◌, ◌&&◌, ◌||◌, Bool, true, false, not, cond, List, [], ◌∷◌, Option, Some, None, ap, arith, filter, fold, length, map, nat_eq, nat_le, option_map, refl, subst, sym, unwrap_or}
use Rattle.std.specs.Prelude.{filter_map, option_and_then}
use Rattle.std.specs.List.{AllByRecursion, IsDistinct, cons_option}
use Rattle.std.specs.Map.{keys_of}
use Rattle.std.proofs.lemmas.Bool.{both_ways, eq-eqb, eqb-true, le-leb}
use Rattle.std.proofs.lemmas.Map.Keys.{IsDistinct-cons, IsDistinct-head, IsDistinct-tail}
use Rattle.ca_text.specs.Limits.{arena_slots}
use Rattle.ca_text.specs.Place.{At}
use Rattle.ca_text.proofs.Places.{some_is}
use Rattle.ca_arena.specs.declared.handle.Handle.{Handle}
use Rattle.ca_ids.specs.Table.{Table, by_wire, held, same_handle, under, with_changed, with_freed}
use Rattle.ca_ids.specs.Wire.{wire_of}
use Rattle.ca_search.specs.Searcher.{with_one, without}
use Rattle.ca_search.specs.Searches as search
use Rattle.ca_model.specs.Client.{Channel, Client, ClientCircuit, On, Phase, Searching, Standing, channels_on, disconnected, ended, is_cleared, is_on_in, phase_on, without_circuit}
use Rattle.ca_model.specs.ClientEnds.{Ticking, due, echoes, falls_silent, ticks}
use Rattle.ca_model.proofs.Handles.{same-is, same-itself, same-not}
use Rattle.ca_model.proofs.Letting.{ended-back}
use Rattle.ca_model.proofs.Placed.{options-agree, under-other}
use Rattle.ca_model.proofs.Standings.{at-filter-map, on-circuit}
use Rattle.ca_model.proofs.Tables.{AreApart, changed-few, changed-own, freed-few, held-apart, under-wire, wire-under}
use Rattle.ca_client_tables.specs.Ahead.{Once, due_after, is_due_after, is_in, sought_by, sought_in}
use Rattle.ca_client_tables.specs.Ending.{Sought, again, gone, is_kept, named_by, sought}
use Rattle.ca_client_core.specs.Moments.{all_echoed, all_ended, asks_in, echo_step, end_step, is_close, is_echo_due, is_silent, silent_of}
use Rattle.ca_client_core.proofs.Aside.{channels-ended-is, ended-is, ended-moment, ended_but, sought_after, under-freed}
use Rattle.ca_client_core.proofs.Moments.{asks-past, echoed-heard, ticked-so}
use Rattle.ca_client_tables.proofs.Dues.{due-cons}

abbrev Entries : Type 0
Entries = List (ℕ × search.Channel)

-- ---- what has a wire id

module _ {T : Type 0} where
  -- a change of what is under one handle
  wire-apart : (t u : Table T) (h : Handle) (id : ℕ) → length t ≤ arena_slots → length u ≤ arena_slots → ((g : Handle) → (g ≡ h → ⊥) → under u g ≡ under t g) → (wire_of h ≡ id → ⊥) → by_wire u id ≡ by_wire t id
  wire-apart t u h id few still same other =
      options-agree (by_wire t id) (by_wire u id)
      (λ e is.
      let w = wire-under t id e is in
      subst (λ (n : ℕ). by_wire u n ≡ Some e) w.1
      (under-wire u e.0 e.1 still (same e.0 (apart e.0 w.1) ∙ w.0)))
      (λ e is.
      let w = wire-under u id e is in
      subst (λ (n : ℕ). by_wire t n ≡ Some e) w.1
      (under-wire t e.0 e.1 few (sym (same e.0 (apart e.0 w.1)) ∙ w.0)))
    where
      apart : (g : Handle) → wire_of g ≡ id → g ≡ h → ⊥
      apart g wire e = other (ap wire_of (sym e) ∙ wire)

and-false : (a : Bool) → (a && false) ≡ false
and-false true = refl
and-false false = refl

-- ---- where a channel is

-- it is on the circuit, in a phase that the test names
on-one-of : (test : Phase → Bool) (ends : Handle → Bool) (c : Handle) (s : Standing) → unwrap_or (option_map test (phase_on c s)) false ≡ true → ends c ≡ true → (p : Phase) × (sought_in ends s ≡ Some (not (is_cleared p))) × (test p ≡ true)
on-one-of test ends c Searching on ending = absurd (both_ways false refl on)
on-one-of test ends c (On d p) on ending = go (same_handle d c) refl on
  where
    go : (b : Bool) → same_handle d c ≡ b → unwrap_or (option_map test (cond b (Some p) None)) false ≡ true → (q : Phase) × (sought_in ends (On d p) ≡ Some (not (is_cleared q))) × (test q ≡ true)
    go true same on = (p, ap (λ (b : Bool). cond b (Some (not (is_cleared p))) None) (ap ends (same-is d c same) ∙ ending), on)
    go false same on = absurd (both_ways false refl on)

at-once : (k : ℕ) → nat_le k k ≡ true
at-once k = le-leb k k (omega arith)

-- ---- the searches, entry by entry

module _ (ends : Handle → Bool) (m : ℕ) where
  -- the same tests
  due-same : (t u : Table Channel) (es : Entries) → AllByRecursion (λ (e : ℕ × search.Channel). by_wire u e.0 ≡ by_wire t e.0) es → due_after ends m t es ≡ due_after ends m u es
  due-same t u [] all = refl
  due-same t u (e ∷ es) all =
      let test : is_due_after ends m t e ≡ is_due_after ends m u e =
      ap (λ (o : Option (Handle × Channel)). unwrap_or (option_and_then (λ (h : Handle × Channel). sought_in ends h.1.standing) o) (search.is_due m e.1)) (sym all.0) in
      due-cons ends m t e es
      ∙ ap (λ (b : Bool). cond b (search.wanted e ∷ due_after ends m t es) (due_after ends m t es)) test
      ∙ ap (λ (ws : List search.Wanted). cond (is_due_after ends m u e) (search.wanted e ∷ ws) ws) (due-same t u es all.1)
      ∙ sym (due-cons ends m u e es)

  -- entries of other CIDs
  others-same : (t u : Table Channel) (h : Handle) (es : Entries) → ((id : ℕ) → (wire_of h ≡ id → ⊥) → by_wire u id ≡ by_wire t id) → AllByRecursion (λ (k : ℕ). nat_eq (wire_of h) k ≡ false) (keys_of es) → AllByRecursion (λ (e : ℕ × search.Channel). by_wire u e.0 ≡ by_wire t e.0) es
  others-same t u h [] same all = tt
  others-same t u h (e ∷ es) same all =
      (same e.0 (λ is. both_ways (nat_eq (wire_of h) e.0) all.0 (eq-eqb (wire_of h) e.0 is)), others-same t u h es same all.1)

  -- one entry is left out, or is another
  step-other : (t u : Table Channel) (e : ℕ × search.Channel) (es ns : Entries) → by_wire u e.0 ≡ by_wire t e.0 → due_after ends m t es ≡ due_after ends m u ns → due_after ends m t (e ∷ es) ≡ due_after ends m u (e ∷ ns)
  step-other t u e es ns same rest =
      let test : is_due_after ends m t e ≡ is_due_after ends m u e =
      ap (λ (o : Option (Handle × Channel)). unwrap_or (option_and_then (λ (h : Handle × Channel). sought_in ends h.1.standing) o) (search.is_due m e.1)) (sym same) in
      due-cons ends m t e es
      ∙ ap (λ (b : Bool). cond b (search.wanted e ∷ due_after ends m t es) (due_after ends m t es)) test
      ∙ ap (λ (ws : List search.Wanted). cond (is_due_after ends m u e) (search.wanted e ∷ ws) ws) rest
      ∙ sym (due-cons ends m u e ns)

  module _ (c : Handle) (ending : ends c ≡ true) where
    -- a channel that was cleared is gone
    gone-due : (t : Table Channel) (h : Handle) (v : Channel) (es : Entries) → length t ≤ arena_slots → under t h ≡ Some v → is_on_in is_cleared c v ≡ true → Once es → due_after ends m t es ≡ due_after ends m (with_freed h t) (without (wire_of h) es)
    gone-due t h v [] few found on once = refl
    gone-due t h v (e ∷ es) few found on once = go (nat_eq (wire_of h) e.0) refl (gone-due t h v es few found on (IsDistinct-tail nat_eq e.0 (keys_of es) once))
      where
        u : Table Channel
        u = with_freed h t

        same : (id : ℕ) → (wire_of h ≡ id → ⊥) → by_wire u id ≡ by_wire t id
        same id other =
            wire-apart t u h id few (subst (λ (n : ℕ). n ≤ arena_slots) (sym (freed-few t h)) few) (λ g apart. under-freed t h g apart) other

        go : (b : Bool) → nat_eq (wire_of h) e.0 ≡ b → due_after ends m t es ≡ due_after ends m u (without (wire_of h) es) → due_after ends m t (e ∷ es) ≡ due_after ends m u (without (wire_of h) (e ∷ es))
        go true is rest =
            let cid : wire_of h ≡ e.0 = eqb-true (wire_of h) e.0 is in
            let there : by_wire t e.0 ≡ Some (h, v) = subst (λ (n : ℕ). by_wire t n ≡ Some (h, v)) cid (under-wire t h v few found) in
            let s = on-one-of is_cleared ends c v.standing on ending in
            let never : sought_by ends t e.0 ≡ Some false =
            ap (option_and_then (λ (k : Handle × Channel). sought_in ends k.1.standing)) there ∙ s.1 ∙ ap (λ (b : Bool). Some (not b)) s.2 in
            let out : is_due_after ends m t e ≡ false = ap (λ (o : Option Bool). unwrap_or o (search.is_due m e.1)) never in
            due-cons ends m t e es
            ∙ ap (λ (b : Bool). cond b (search.wanted e ∷ due_after ends m t es) (due_after ends m t es)) out
            ∙ due-same t u es (others-same t u h es same (subst (λ (n : ℕ). AllByRecursion (λ (k : ℕ). nat_eq n k ≡ false) (keys_of es)) (sym cid) (IsDistinct-head nat_eq e.0 (keys_of es) once)))
            ∙ ap (λ (b : Bool). due_after ends m u (cond b es (e ∷ without (wire_of h) es))) (sym is)
        go false is rest =
            step-other t u e es (without (wire_of h) es) (same e.0 (λ at. both_ways (nat_eq (wire_of h) e.0) is (eq-eqb (wire_of h) e.0 at)))
            rest
            ∙ ap (λ (b : Bool). due_after ends m u (cond b es (e ∷ without (wire_of h) es))) (sym is)

    -- the others are searched for at once
    again-due : (t : Table Channel) (h : Handle) (v : Channel) (es : Entries) → length t ≤ arena_slots → under t h ≡ Some v → is_on_in is_kept c v ≡ true → Once es → due_after ends m t es ≡ due_after ends m (with_changed (λ (here : Channel). record here { standing = Searching }) h t) (with_one (search.resumed m) (wire_of h) es)
    again-due t h v [] few found on once = refl
    again-due t h v (e ∷ es) few found on once = go (nat_eq (wire_of h) e.0) refl (again-due t h v es few found on (IsDistinct-tail nat_eq e.0 (keys_of es) once))
      where
        f : Channel → Channel
        f here = record here { standing = Searching }

        u : Table Channel
        u = with_changed f h t

        now : length u ≤ arena_slots
        now = subst (λ (n : ℕ). n ≤ arena_slots) (sym (changed-few f t h)) few

        same : (id : ℕ) → (wire_of h ≡ id → ⊥) → by_wire u id ≡ by_wire t id
        same id other = wire-apart t u h id few now (λ g apart. under-other f t h g apart) other

        go : (b : Bool) → nat_eq (wire_of h) e.0 ≡ b → due_after ends m t es ≡ due_after ends m u (with_one (search.resumed m) (wire_of h) es) → due_after ends m t (e ∷ es) ≡ due_after ends m u (with_one (search.resumed m) (wire_of h) (e ∷ es))
        go true is rest =
            let cid : wire_of h ≡ e.0 = eqb-true (wire_of h) e.0 is in
            let n : ℕ × search.Channel = (e.0, search.resumed m e.1) in
            let there : by_wire t e.0 ≡ Some (h, v) = subst (λ (k : ℕ). by_wire t k ≡ Some (h, v)) cid (under-wire t h v few found) in
            let back : by_wire u e.0 ≡ Some (h, f v) = subst (λ (k : ℕ). by_wire u k ≡ Some (h, f v)) cid (under-wire u h (f v) now (changed-own f t h v found)) in
            let s = on-one-of is_kept ends c v.standing on ending in
            let first : is_due_after ends m t e ≡ true =
            ap (λ (o : Option Bool). unwrap_or o (search.is_due m e.1))
            (ap (option_and_then (λ (k : Handle × Channel). sought_in ends k.1.standing)) there ∙ s.1 ∙ ap (λ (b : Bool). Some b) s.2) in
            let next : is_due_after ends m u n ≡ true =
            ap (λ (o : Option (Handle × Channel)). unwrap_or (option_and_then (λ (k : Handle × Channel). sought_in ends k.1.standing) o) (search.is_due m n.1)) back
            ∙ at-once m in
            due-cons ends m t e es
            ∙ ap (λ (b : Bool). cond b (search.wanted e ∷ due_after ends m t es) (due_after ends m t es)) first
            ∙ ap (λ (ws : List search.Wanted). search.wanted e ∷ ws)
            (due-same t u es (others-same t u h es same (subst (λ (k : ℕ). AllByRecursion (λ (l : ℕ). nat_eq k l ≡ false) (keys_of es)) (sym cid) (IsDistinct-head nat_eq e.0 (keys_of es) once))))
            ∙ ap (λ (b : Bool). cond b (search.wanted n ∷ due_after ends m u es) (due_after ends m u es)) (sym next)
            ∙ sym (due-cons ends m u n es)
            ∙ ap (λ (b : Bool). due_after ends m u (cond b (n ∷ es) (e ∷ with_one (search.resumed m) (wire_of h) es))) (sym is)
        go false is rest =
            step-other t u e es (with_one (search.resumed m) (wire_of h) es) (same e.0 (λ at. both_ways (nat_eq (wire_of h) e.0) is (eq-eqb (wire_of h) e.0 at)))
            rest
            ∙ ap (λ (b : Bool). due_after ends m u (cond b ((e.0, search.resumed m e.1) ∷ es) (e ∷ with_one (search.resumed m) (wire_of h) es))) (sym is)

-- ---- each CID stays once

keys-without : (cid n : ℕ) (es : Entries) → AllByRecursion (λ (k : ℕ). nat_eq n k ≡ false) (keys_of es) → AllByRecursion (λ (k : ℕ). nat_eq n k ≡ false) (keys_of (without cid es))
keys-without cid n [] all = tt
keys-without cid n (e ∷ es) all = go (nat_eq cid e.0) (keys-without cid n es all.1)
  where
    go : (b : Bool) → AllByRecursion (λ (k : ℕ). nat_eq n k ≡ false) (keys_of (without cid es)) → AllByRecursion (λ (k : ℕ). nat_eq n k ≡ false) (keys_of (cond b es (e ∷ without cid es)))
    go true rest = all.1
    go false rest = (all.0, rest)

once-without : (cid : ℕ) (es : Entries) → Once es → Once (without cid es)
once-without cid [] once = once
once-without cid (e ∷ es) once = go (nat_eq cid e.0) (once-without cid es (IsDistinct-tail nat_eq e.0 (keys_of es) once))
  where
    go : (b : Bool) → Once (without cid es) → Once (cond b es (e ∷ without cid es))
    go true rest = IsDistinct-tail nat_eq e.0 (keys_of es) once
    go false rest =
        IsDistinct-cons nat_eq e.0 (keys_of (without cid es)) (keys-without cid e.0 es (IsDistinct-head nat_eq e.0 (keys_of es) once)) rest

keys-one : (f : search.Channel → search.Channel) (cid : ℕ) (es : Entries) → keys_of (with_one f cid es) ≡ keys_of es
keys-one f cid [] = refl
keys-one f cid (e ∷ es) = go (nat_eq cid e.0) (keys-one f cid es)
  where
    go : (b : Bool) → keys_of (with_one f cid es) ≡ keys_of es → keys_of (cond b ((e.0, f e.1) ∷ es) (e ∷ with_one f cid es)) ≡ e.0 ∷ keys_of es
    go true rest = refl
    go false rest = ap (λ (ks : List ℕ). e.0 ∷ ks) rest

-- ---- all of them

-- these are handles of channels that the test names on the circuit
abbrev AllNamed : (Phase → Bool) → Handle → List Handle → Table Channel → Type 0
AllNamed test c hs t = (i : ℕ) (h : Handle) → At hs i h → (v : Channel) × (under t h ≡ Some v) × (is_on_in test c v ≡ true)

-- each handle once
abbrev Apart : List Handle → Type 0
Apart [] = Unit {0}
Apart (h ∷ hs) = ((i : ℕ) (g : Handle) → At hs i g → g ≡ h → ⊥) × Apart hs

-- what holds while channels are taken: as many places as there may be, and each CID once
record IsFit (s : Sought) : Type 0 where
  few : length s.channels ≤ arena_slots
  once : Once s.searches

fit-gone : (s : Sought) (h : Handle) → IsFit s → IsFit (gone s h)
fit-gone s h fit = record {
  few = subst (λ (n : ℕ). n ≤ arena_slots) (sym (freed-few s.channels h)) fit.few;
  once = once-without (wire_of h) s.searches fit.once;
}

fit-again : (m : ℕ) (s : Sought) (h : Handle) → IsFit s → IsFit (again m s h)
fit-again m s h fit = record {
  few = subst (λ (n : ℕ). n ≤ arena_slots) (sym (changed-few (λ (here : Channel). record here { standing = Searching }) s.channels h)) fit.few;
  once = subst (IsDistinct nat_eq) (sym (keys-one (search.resumed m) (wire_of h) s.searches)) fit.once;
}

module _ (ends : Handle → Bool) (m : ℕ) (c : Handle) (ending : ends c ≡ true) where
  abbrev due_in : Sought → List search.Wanted
  due_in s = due_after ends m s.channels s.searches

  all-gone : (hs : List Handle) (s : Sought) → IsFit s → AllNamed is_cleared c hs s.channels → Apart hs → (due_in s ≡ due_in (fold gone s hs)) × IsFit (fold gone s hs)
  all-gone [] s fit named apart = (refl, fit)
  all-gone (h ∷ hs) s fit named apart =
      let v = named 0 h refl in
      let rest = all-gone hs (gone s h) (fit-gone s h fit)
      (λ i g at. (let w = named (suc i) g at in (w.0, under-freed s.channels h g (apart.0 i g at) ∙ w.1, w.2)))
      apart.1 in
      (gone-due ends m c ending s.channels h v.0 s.searches fit.few v.1 v.2 fit.once ∙ rest.0, rest.1)

  all-again : (hs : List Handle) (s : Sought) → IsFit s → AllNamed is_kept c hs s.channels → Apart hs → (due_in s ≡ due_in (fold (again m) s hs)) × IsFit (fold (again m) s hs)
  all-again [] s fit named apart = (refl, fit)
  all-again (h ∷ hs) s fit named apart =
      let v = named 0 h refl in
      let rest = all-again hs (again m s h) (fit-again m s h fit)
      (λ i g at. (let w = named (suc i) g at in (w.0, under-other (λ (here : Channel). record here { standing = Searching }) s.channels h g (apart.0 i g at) ∙ w.1, w.2)))
      apart.1 in
      (again-due ends m c ending s.channels h v.0 s.searches fit.few v.1 v.2 fit.once ∙ rest.0, rest.1)

-- one that did not go is there still
still-there : (g : Handle) (hs : List Handle) (s : Sought) → ((i : ℕ) (h : Handle) → At hs i h → g ≡ h → ⊥) → under (fold gone s hs).channels g ≡ under s.channels g
still-there g [] s apart = refl
still-there g (h ∷ hs) s apart =
    still-there g hs (gone s h) (λ i k at. apart (suc i) k at) ∙ under-freed s.channels h g (apart 0 h refl)

named-apart : (test : Phase → Bool) (c : Handle) (es : List (Handle × Channel)) → AreApart es → Apart (filter_map (named_by test c) es)
named-apart test c [] apart = tt
named-apart test c (e ∷ es) apart = go (is_on_in test c e.1) (named-apart test c es apart.1)
  where
    own : (f : Handle × Channel) (b : Bool) (g : Handle) → cond b (Some f.0) None ≡ Some g → g ≡ f.0
    own f true g is = sym (some_is f.0 g is)
    own f false g is = absurd cc

    go : (b : Bool) → Apart (filter_map (named_by test c) es) → Apart (cons_option (cond b (Some e.0) None) (filter_map (named_by test c) es))
    go false rest = rest
    go true rest = (
      λ i g at same.
          (let r = at-filter-map (named_by test c) es i g at in
          apart.0 r.0 r.1 r.2 (sym (own r.1 (is_on_in test c r.1.1) g r.3) ∙ same)),
      rest,
    )

-- ---- one end

cleared-not-kept : (p : Phase) → is_cleared p ≡ true → is_kept p ≡ true → ⊥
cleared-not-kept p a b = both_ways (is_kept p) (ap not a) b

-- which channel is on the circuit, and in which phase
kept-apart : (c : Handle) (s : Standing) → unwrap_or (option_map is_cleared (phase_on c s)) false ≡ true → unwrap_or (option_map is_kept (phase_on c s)) false ≡ true → ⊥
kept-apart c Searching a b = both_ways false refl a
kept-apart c (On d p) a b = go (same_handle d c) a b
  where
    go : (x : Bool) → unwrap_or (option_map is_cleared (cond x (Some p) None)) false ≡ true → unwrap_or (option_map is_kept (cond x (Some p) None)) false ≡ true → ⊥
    go true a b = cleared-not-kept p a b
    go false a b = both_ways false refl a

-- the channels of a client, and what is searched of them
abbrev sought_of : Client → Sought
sought_of x = sought x.channels x.searches

sought-due : (ends : Handle → Bool) (c : Handle) (x : Client) → ends c ≡ true → IsFit (sought_of x)
    → (due_after ends x.moment x.channels x.searches ≡ due_after ends x.moment (sought_after c x).channels (sought_after c x).searches) × IsFit (sought_after c x)
sought-due ends c x ending fit =
    let a = channels_on is_cleared c x in
    let b = channels_on is_kept c x in
    let mid : Sought = fold gone (sought_of x) a in
    let first = all-gone ends x.moment c ending a (sought_of x) fit (λ i h at. on-circuit is_cleared c x i h at) (named-apart is_cleared c (held x.channels) (held-apart x.channels)) in
    let next = all-again ends x.moment c ending b mid first.1 kept (named-apart is_kept c (held x.channels) (held-apart x.channels)) in
    (first.0 ∙ next.0, next.1)
  where
    kept : AllNamed is_kept c (channels_on is_kept c x) (fold gone (sought_of x) (channels_on is_cleared c x)).channels
    kept i h at =
        let v = on-circuit is_kept c x i h at in (
          v.0,
          still-there h (channels_on is_cleared c x) (sought_of x)
              (λ j k there same.
              let w = on-circuit is_cleared c x j k there in
              let one : Some w.0 ≡ Some v.0 = sym (subst (λ (l : Handle). under x.channels l ≡ Some w.0) (sym same) w.1) ∙ v.1 in
              kept-apart c v.0.standing (subst (λ (z : Channel). is_on_in is_cleared c z ≡ true) (some_is w.0 v.0 one) w.2) v.2)
              ∙ v.1,
          v.2,
        )

-- what an end leaves of its channels
ended-sought : (c : Handle) (x : Client) (d : ClientCircuit) → under x.circuits c ≡ Some d → sought_of (ended c x) ≡ sought_after c x
ended-sought c x d found = ap sought_of (ended-is c x d found) ∙ by d.is_name
  where
    by : (b : Bool) → sought_of (cond b (disconnected c (ended_but c x)) (without_circuit c (ended_but c x))) ≡ sought_after c x
    by true = refl
    by false = refl

-- no test but on circuits that have channels
ends-same : (ends also : Handle → Bool) (m : ℕ) (t : Table Channel) (es : Entries) → ((h : Handle) (v : Channel) (d : Handle) (p : Phase) → under t h ≡ Some v → v.standing ≡ On d p → ends d ≡ also d) → due_after ends m t es ≡ due_after also m t es
ends-same ends also m t [] same = refl
ends-same ends also m t (e ∷ es) same =
    due-cons ends m t e es
    ∙ ap (λ (b : Bool). cond b (search.wanted e ∷ due_after ends m t es) (due_after ends m t es)) (ap (λ (o : Option Bool). unwrap_or o (search.is_due m e.1)) (go (by_wire t e.0) refl))
    ∙ ap (λ (ws : List search.Wanted). cond (is_due_after also m t e) (search.wanted e ∷ ws) ws) (ends-same ends also m t es same)
    ∙ sym (due-cons also m t e es)
  where
    standing : (s : Standing) → ((d : Handle) (p : Phase) → s ≡ On d p → ends d ≡ also d) → sought_in ends s ≡ sought_in also s
    standing Searching all = refl
    standing (On d p) all = ap (λ (b : Bool). cond b (Some (not (is_cleared p))) None) (all d p refl)

    go : (o : Option (Handle × Channel)) → by_wire t e.0 ≡ o → option_and_then (λ (h : Handle × Channel). sought_in ends h.1.standing) (by_wire t e.0) ≡ option_and_then (λ (h : Handle × Channel). sought_in also h.1.standing) (by_wire t e.0)
    go None is =
        ap (option_and_then (λ (h : Handle × Channel). sought_in ends h.1.standing)) is
        ∙ sym (ap (option_and_then (λ (h : Handle × Channel). sought_in also h.1.standing)) is)
    go (Some f) is =
        ap (option_and_then (λ (h : Handle × Channel). sought_in ends h.1.standing)) is
        ∙ standing f.1.standing (λ d p at. same f.0 f.1 d p (wire-under t e.0 f is).0 at)
        ∙ sym (ap (option_and_then (λ (h : Handle × Channel). sought_in also h.1.standing)) is)

-- an end, and then others
end-due : (ends also : Handle → Bool) (c : Handle) (x : Client) (d : ClientCircuit) → under x.circuits c ≡ Some d → ends c ≡ true → ((e : Handle) → (e ≡ c → ⊥) → ends e ≡ also e) → IsFit (sought_of x)
    → (due_after ends x.moment x.channels x.searches ≡ due_after also x.moment (ended c x).channels (ended c x).searches) × IsFit (sought_of (ended c x))
end-due ends also c x d found ending same fit =
    let n : Sought = sought_after c x in
    let is : sought_of (ended c x) ≡ n = ended-sought c x d found in
    let r = sought-due ends c x ending fit in (
      r.0
          ∙ ap (λ (s : Sought). due_after ends x.moment s.channels s.searches) (sym is)
          ∙ ends-same ends also x.moment (ended c x).channels (ended c x).searches (λ h v e p there at. same e (apart h v e p there at)),
      subst IsFit (sym is) r.1,
    )
  where
    apart : (h : Handle) (v : Channel) (e : Handle) (p : Phase) → under (ended c x).channels h ≡ Some v → v.standing ≡ On e p → e ≡ c → ⊥
    apart h v e p there at =
        (ended-back c x h v e p (subst (λ (t : Table Channel). under t h ≡ Some v) (ap (λ (s : Sought). s.channels) (ended-sought c x d found) ∙ sym (ap (λ (y : Client). y.channels) (channels-ended-is c x))) there) at).1

-- ---- the ends of a tick

-- the circuit is one of these, and silent
abbrev ends_of : Ticking → List Handle → Handle → Bool
ends_of t cs d = is_in cs d && is_silent t.core d

ends-more : (cs : List Handle) (t : Ticking) (c : Handle) → is_silent t.core c ≡ false → (d : Handle) → ends_of t (c ∷ cs) d ≡ ends_of t cs d
ends-more cs t c calm d = go (same_handle d c) refl
  where
    go : (b : Bool) → same_handle d c ≡ b → ((same_handle d c || is_in cs d) && is_silent t.core d) ≡ (is_in cs d && is_silent t.core d)
    go true e =
        let quiet : is_silent t.core d ≡ false = subst (λ (k : Handle). is_silent t.core k ≡ false) (sym (same-is d c e)) calm in
        ap (λ (b : Bool). (same_handle d c || is_in cs d) && b) quiet
        ∙ and-false (same_handle d c || is_in cs d)
        ∙ sym (ap (λ (b : Bool). is_in cs d && b) quiet ∙ and-false (is_in cs d))
    go false e = ap (λ (b : Bool). (b || is_in cs d) && is_silent t.core d) e

ends-other : (cs : List Handle) (t : Ticking) (c d : Handle) → (d ≡ c → ⊥) → ends_of t (c ∷ cs) d ≡ ends_of (falls_silent c t) cs d
ends-other cs t c d other =
    ap (λ (b : Bool). (b || is_in cs d) && is_silent t.core d) (same-not d c other)
    ∙ ap (λ (b : Bool). is_in cs d && b) (sym (asks-past is_close c d t.core other))

-- a silent circuit is there
silent-there : (x : Client) (c : Handle) → is_silent x c ≡ true → (d : ClientCircuit) × (under x.circuits c ≡ Some d)
silent-there x c silent = go (under x.circuits c) refl
  where
    go : (o : Option ClientCircuit) → under x.circuits c ≡ o → (d : ClientCircuit) × (under x.circuits c ≡ Some d)
    go (Some d) is = (d, is)
    go None is =
        absurd (both_ways (is_silent x c) (ap (λ (o : Option ClientCircuit). asks_in is_close x.moment (option_and_then (λ (w : ClientCircuit). w.connection) o)) is) silent)

none-ends : (m : ℕ) (t : Table Channel) (es : Entries) → due_after (λ (d : Handle). false) m t es ≡ search.wanted_at m es
none-ends m t [] = refl
none-ends m t (e ∷ es) =
    due-cons (λ (d : Handle). false) m t e es
    ∙ ap (λ (o : Option Bool). cond (unwrap_or o (search.is_due m e.1)) (search.wanted e ∷ due_after (λ (d : Handle). false) m t es) (due_after (λ (d : Handle). false) m t es)) (never (by_wire t e.0))
    ∙ ap (λ (ws : List search.Wanted). cond (search.is_due m e.1) (search.wanted e ∷ ws) ws) (none-ends m t es)
    ∙ last (search.is_due m e.1)
  where
    nowhere : (s : Standing) → sought_in (λ (d : Handle). false) s ≡ None
    nowhere Searching = refl
    nowhere (On d p) = refl

    never : (o : Option (Handle × Channel)) → option_and_then (λ (h : Handle × Channel). sought_in (λ (d : Handle). false) h.1.standing) o ≡ None
    never None = refl
    never (Some h) = nowhere h.1.standing

    last : (b : Bool) → cond b (search.wanted e ∷ search.wanted_at m es) (search.wanted_at m es) ≡ map search.wanted (cond b (e ∷ filter (λ (f : ℕ × search.Channel). search.is_due m f.1) es) (filter (λ (f : ℕ × search.Channel). search.is_due m f.1) es))
    last true = refl
    last false = refl

-- with no circuit to end the searches are those that are due
pub none-due : (m : ℕ) (t : Table Channel) (es : Entries) → due_after (is_in []) m t es ≡ search.wanted_at m es
none-due m t es = none-ends m t es

ahead-all : (cs : List Handle) (t : Ticking) → IsFit (sought_of t.core) → due_after (ends_of t cs) t.core.moment t.core.channels t.core.searches ≡ due (all_ended cs t).core
ahead-all [] t fit = none-ends t.core.moment t.core.channels t.core.searches
ahead-all (c ∷ cs) t fit = go (is_silent t.core c) refl (ahead-all cs t fit) (ahead-all cs (falls_silent c t))
  where
    x : Client
    x = t.core

    go : (b : Bool) → is_silent t.core c ≡ b → due_after (ends_of t cs) x.moment x.channels x.searches ≡ due (all_ended cs t).core
        → (IsFit (sought_of (ended c x)) → due_after (ends_of (falls_silent c t) cs) (ended c x).moment (ended c x).channels (ended c x).searches ≡ due (all_ended cs (falls_silent c t)).core)
        → due_after (ends_of t (c ∷ cs)) x.moment x.channels x.searches ≡ due (all_ended cs (end_step t c)).core
    go false e rest after =
        let stays : end_step t c ≡ t = ap (λ (b : Bool). cond b (falls_silent c t) t) e in
        ends-same (ends_of t (c ∷ cs)) (ends_of t cs) x.moment x.channels x.searches (λ h v d p there at. ends-more cs t c e d)
        ∙ rest
        ∙ ap (λ (u : Ticking). due (all_ended cs u).core) (sym stays)
    go true e rest after =
        let closes : end_step t c ≡ falls_silent c t = ap (λ (b : Bool). cond b (falls_silent c t) t) e in
        let d = silent-there x c e in
        let ending : ends_of t (c ∷ cs) c ≡ true =
        ap (λ (b : Bool). (b || is_in cs c) && is_silent x c) (same-itself c) ∙ e in
        let r = end-due (ends_of t (c ∷ cs)) (ends_of (falls_silent c t) cs) c x d.0 d.1 ending (λ k other. ends-other cs t c k other) fit in
        r.0
        ∙ ap (λ (n : ℕ). due_after (ends_of (falls_silent c t) cs) n (ended c x).channels (ended c x).searches) (sym (ended-moment c x))
        ∙ after r.1
        ∙ ap (λ (u : Ticking). due (all_ended cs u).core) (sym closes)

-- ECHOs leave channels, searches and the moment
abbrev SameSought : Client → Client → Type 0
SameSought x y = (y.channels ≡ x.channels) × (y.searches ≡ x.searches) × (y.moment ≡ x.moment)

pub echo-sought : (cs : List Handle) (t : Ticking) → SameSought t.core (all_echoed cs t).core
echo-sought [] t = (refl, refl, refl)
echo-sought (c ∷ cs) t =
    let rest = echo-sought cs (echo_step t c) in
    let first = go (is_echo_due t.core c) in
    (rest.0 ∙ first.0, rest.1 ∙ first.1, rest.2 ∙ first.2)
  where
    go : (b : Bool) → SameSought t.core (cond b (echoes c t) t).core
    go true = (refl, refl, refl)
    go false = (refl, refl, refl)

silent-in-both : (cs : List Handle) (x : Client) (d : Handle) → is_in (silent_of x cs) d ≡ (is_in cs d && is_silent x d)
silent-in-both [] x d = refl
silent-in-both (c ∷ cs) x d = go (is_silent x c) (same_handle d c) refl refl (silent-in-both cs x d)
  where
    go : (a b : Bool) → is_silent x c ≡ a → same_handle d c ≡ b → is_in (silent_of x cs) d ≡ (is_in cs d && is_silent x d) → is_in (cond (is_silent x c) (c ∷ silent_of x cs) (silent_of x cs)) d ≡ ((same_handle d c || is_in cs d) && is_silent x d)
    go true true e f rest =
        let own : is_silent x d ≡ true = subst (λ (k : Handle). is_silent x k ≡ true) (sym (same-is d c f)) e in
        ap (λ (a : Bool). is_in (cond a (c ∷ silent_of x cs) (silent_of x cs)) d) e
        ∙ ap (λ (b : Bool). b || is_in (silent_of x cs) d) f
        ∙ sym (ap (λ (b : Bool). (b || is_in cs d) && is_silent x d) f ∙ own)
    go true false e f rest =
        ap (λ (a : Bool). is_in (cond a (c ∷ silent_of x cs) (silent_of x cs)) d) e
        ∙ ap (λ (b : Bool). b || is_in (silent_of x cs) d) f
        ∙ rest
        ∙ sym (ap (λ (b : Bool). (b || is_in cs d) && is_silent x d) f)
    go false true e f rest =
        let own : is_silent x d ≡ false = subst (λ (k : Handle). is_silent x k ≡ false) (sym (same-is d c f)) e in
        ap (λ (a : Bool). is_in (cond a (c ∷ silent_of x cs) (silent_of x cs)) d) e
        ∙ rest
        ∙ ap (λ (b : Bool). is_in cs d && b) own
        ∙ and-false (is_in cs d)
        ∙ sym (ap (λ (b : Bool). (same_handle d c || is_in cs d) && b) own ∙ and-false (same_handle d c || is_in cs d))
    go false false e f rest =
        ap (λ (a : Bool). is_in (cond a (c ∷ silent_of x cs) (silent_of x cs)) d) e
        ∙ rest
        ∙ sym (ap (λ (b : Bool). (b || is_in cs d) && is_silent x d) f)

-- what was foreseen is due
pub due-so : (t : Ticking) → length t.core.channels ≤ arena_slots → Once t.core.searches → due_after (is_in (silent_of t.core t.core.order)) t.core.moment t.core.channels t.core.searches ≡ due (fold ticks t t.core.order).core
due-so t few once =
    let cs : List Handle = t.core.order in
    let one : Ticking = all_echoed cs t in
    let same : SameSought t.core one.core = echo-sought cs t in
    let is : sought_of one.core ≡ sought_of t.core = λ i. sought (same.0 i) (same.1 i) in
    let fit : IsFit (sought_of one.core) = subst IsFit (sym is) (record { few = few; once = once }) in
    ends-same (is_in (silent_of t.core cs)) (ends_of one cs) t.core.moment t.core.channels t.core.searches
    (λ h v d p there at. silent-in-both cs t.core d ∙ ap (λ (b : Bool). is_in cs d && b) (sym (echoed-heard cs t d)))
    ∙ ap (λ (s : Sought). due_after (ends_of one cs) t.core.moment s.channels s.searches) (sym is)
    ∙ ap (λ (n : ℕ). due_after (ends_of one cs) n one.core.channels one.core.searches) (sym same.2)
    ∙ ahead-all cs one fit
    ∙ ap (λ (u : Ticking). due u.core) (ticked-so cs t)
