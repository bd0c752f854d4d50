-- The channels to a record, once a channel was opened, closed or retired, and the
-- lines that have them.
use Rattle.std.proofs.Common.{◌≡◌, ℕ, zero, suc, ◌+◌, ◌-◌, ◌<◌, ◌≤◌, ◌&&◌, inl, inr, Bool, true, false, not, cond, eqb, List, [], ◌∷◌, ◌++◌, length, filter, map, Option, Some, None, is_some, slice_set, refl, sym, ap, ◌∙◌, subst, arith, append_assoc}
use Rattle.std.specs.Prelude.{option_map, option_to_list, slice_get}
use Rattle.std.specs.Str.{bytes_eq}
use Rattle.std.proofs.lemmas.Bool.{both_ways, eq-eqb, eqb-true}
use Rattle.std.proofs.lemmas.List.Elements.{filter-append}
use Rattle.std.proofs.lemmas.List.{append-nil, map-append, set-get_or}
use Rattle.std.proofs.lemmas.Slice.Eq.{bytes_eq-Decides}
use Rattle.ca_text.specs.Place.{At}
use Rattle.ca_text.proofs.Places.{some_is, At-or, At-within}
use Rattle.ca_arena.specs.declared.handle.Handle.{Handle}
use Rattle.ca_arena.specs.Arena.{Place, blank, place_at}
use Rattle.ca_ids.specs.Table.{MayGive, Table, held_at, held_from, under, with_changed, with_freed, with_held}
use Rattle.ca_model.specs.Server.{OpenChannel}
use Rattle.ca_server_circuit.specs.ByName.{AreBelow, AreByName, AreFrom, Enters, Goes, Lines, channels_in, channels_to}
use Rattle.ca_server_circuit.specs.Removing.{leads_to}
use Rattle.ca_server_circuit.proofs.Tables.{none-some, place, under-at}

abbrev Channels : Type 0
Channels = Table OpenChannel

abbrev Listed : Type 0
Listed = List (Handle × OpenChannel)

-- ---- lower indices, and others

below-append : (i : ℕ) (gs hs : List Handle) → AreBelow i gs → AreBelow i hs → AreBelow i (gs ++ hs)
below-append i [] hs a b = b
below-append i (g ∷ gs) hs a b = (a.0, below-append i gs hs a.1 b)

from-append : (i : ℕ) (gs hs : List Handle) → AreFrom i gs → AreFrom i hs → AreFrom i (gs ++ hs)
from-append i [] hs a b = b
from-append i (g ∷ gs) hs a b = (a.0, from-append i gs hs a.1 b)

from-less : (i k : ℕ) (hs : List Handle) → k ≤ i → AreFrom i hs → AreFrom k hs
from-less i k [] le are = tt
from-less i k (h ∷ hs) le are = (let x : i ≤ h.index = are.0 in omega (arith, x, le), from-less i k hs le are.1)

-- ---- the channels to a record, place by place

-- the one of a place
abbrev pub own : List ℕ → ℕ → Place OpenChannel → List Handle
own name i p = map (λ (c : Handle × OpenChannel). c.0) (filter (leads_to name) (option_to_list (held_at i p)))

-- those from an index on
abbrev pub those : List ℕ → ℕ → Channels → List Handle
those name i t = map (λ (c : Handle × OpenChannel). c.0) (filter (leads_to name) (held_from i t))

abbrev pub handle : ℕ → ℕ → Handle
handle i g = record { index = i; generation = g }

abbrev pub spot : ℕ → Option OpenChannel → Place OpenChannel
spot g o = record { generation = g; value = o }

pub those-more : (name : List ℕ) (i : ℕ) (p : Place OpenChannel) (t : Channels) → those name i (p ∷ t) ≡ own name i p ++ those name (i + 1) t
those-more name i p t =
    let here : Listed = option_to_list (held_at i p) in
    ap (λ (cs : Listed). map (λ (c : Handle × OpenChannel). c.0) cs) (filter-append (leads_to name) here (held_from (i + 1) t))
    ∙ map-append (λ (c : Handle × OpenChannel). c.0) (filter (leads_to name) here) (filter (leads_to name) (held_from (i + 1) t))

own-if : (h : Handle) (c : OpenChannel) (b : Bool) → map (λ (x : Handle × OpenChannel). x.0) (cond b ((h, c) ∷ []) []) ≡ cond b (h ∷ []) []
own-if h c true = refl
own-if h c false = refl

pub own-is : (name : List ℕ) (i g : ℕ) (c : OpenChannel) (b : Bool) → leads_to name (handle i g, c) ≡ b → own name i (spot g (Some c)) ≡ cond b (handle i g ∷ []) []
own-is name i g c b is =
    ap (λ (d : Bool). map (λ (x : Handle × OpenChannel). x.0) (let e : Handle × OpenChannel = (handle i g, c) in cond d (e ∷ []) [])) is ∙ own-if (handle i g) c b

own-from : (name : List ℕ) (i g : ℕ) (o : Option OpenChannel) → AreFrom i (own name i (spot g o))
own-from name i g None = tt
own-from name i g (Some c) = subst (λ (hs : List Handle). AreFrom i hs) (sym (own-is name i g c (leads_to name (handle i g, c)) refl)) (by (leads_to name (handle i g, c)))
  where
    by : (b : Bool) → AreFrom i (cond b (handle i g ∷ []) [])
    by true = (omega arith, tt)
    by false = tt

own-below : (name : List ℕ) (i k g : ℕ) (o : Option OpenChannel) → i < k → AreBelow k (own name i (spot g o))
own-below name i k g None lt = tt
own-below name i k g (Some c) lt = subst (λ (hs : List Handle). AreBelow k hs) (sym (own-is name i g c (leads_to name (handle i g, c)) refl)) (by (leads_to name (handle i g, c)))
  where
    by : (b : Bool) → AreBelow k (cond b (handle i g ∷ []) [])
    by true = (lt, tt)
    by false = tt

those-from : (name : List ℕ) (i : ℕ) (t : Channels) → AreFrom i (those name i t)
those-from name i [] = tt
those-from name i (p ∷ t) =
    subst (λ (hs : List Handle). AreFrom i hs) (sym (those-more name i p t))
    (from-append i (own name i p) (those name (i + 1) t) (own-from name i p.generation p.value) (from-less (i + 1) i (those name (i + 1) t) (omega arith) (those-from name (i + 1) t)))

those-below : (name : List ℕ) (i : ℕ) (t : Channels) → AreBelow (i + length t) (those name i t)
those-below name i [] = tt
those-below name i (p ∷ t) =
    let n : (i + 1) + length t ≡ i + suc (length t) = omega arith in
    subst (λ (hs : List Handle). AreBelow (i + suc (length t)) hs) (sym (those-more name i p t))
    (below-append (i + suc (length t)) (own name i p) (those name (i + 1) t) (own-below name i (i + suc (length t)) p.generation p.value (omega arith))
    (subst (λ (k : ℕ). AreBelow k (those name (i + 1) t)) n (those-below name (i + 1) t)))

-- ---- those around an index, whatever is there

-- before and after an index, and all of them with any place there
record Around (name : List ℕ) (i : ℕ) (with : Place OpenChannel → List Handle) : Type 0 where
  below : List Handle
  from : List Handle
  are : AreBelow i below
  rest : AreFrom i from
  is : (p : Place OpenChannel) → with p ≡ below ++ (own name i p ++ from)

-- one place more before them
more-before : (name : List ℕ) (n k : ℕ) (q p : Place OpenChannel) (t : Channels) (below from : List Handle) → those name (n + 1) t ≡ below ++ (own name k p ++ from) → those name n (q ∷ t) ≡ (own name n q ++ below) ++ (own name k p ++ from)
more-before name n k q p t below from is =
    let here : List Handle = own name n q in
    let there : List Handle = own name k p ++ from in
    those-more name n q t
    ∙ ap (λ (hs : List Handle). own name n q ++ hs) is
    ∙ sym (append_assoc here below there)

around-from : (name : List ℕ) (n : ℕ) (t : Channels) (i k : ℕ) → i < length t → n + i ≡ k → Around name k (λ p. those name n (slice_set t i p))
around-from name n [] i k lt is = absurd (omega (arith, lt))
around-from name n (q ∷ t) zero k lt is =
    let same : n ≡ k = omega (arith, is) in
    record {
      below = [];
      from = those name (n + 1) t;
      are = tt;
      rest = from-less (n + 1) k (those name (n + 1) t) (omega (arith, same)) (those-from name (n + 1) t);
      is = λ p. those-more name n p t ∙ ap (λ (j : ℕ). own name j p ++ those name (n + 1) t) same;
    }
around-from name n (q ∷ t) (suc i) k lt is =
    let r = around-from name (n + 1) t i k (omega (arith, lt)) (omega (arith, is)) in
    record {
      below = own name n q ++ r.below;
      from = r.from;
      are = below-append k (own name n q) r.below (own-below name n k q.generation q.value (omega (arith, is))) r.are;
      rest = r.rest;
      is = λ p. more-before name n k q p (slice_set t i p) r.below r.from (r.is p);
    }

those-last : (name : List ℕ) (n : ℕ) (t : Channels) (k : ℕ) (p : Place OpenChannel) → n + length t ≡ k → those name n (t ++ p ∷ []) ≡ those name n t ++ (own name k p ++ [])
those-last name n [] k p is =
    let same : n ≡ k = omega (arith, is) in
    those-more name n p [] ∙ ap (λ (j : ℕ). own name j p ++ []) same
those-last name n (q ∷ t) k p is =
    those-more name n q (t ++ p ∷ [])
    ∙ ap (λ (hs : List Handle). own name n q ++ hs) (those-last name (n + 1) t k p (omega (arith, is)))
    ∙ sym (append_assoc (own name n q) (those name (n + 1) t) (own name k p ++ []))
    ∙ ap (λ (hs : List Handle). hs ++ (own name k p ++ [])) (sym (those-more name n q t))

set-still : (t : Channels) (i : ℕ) (p : Place OpenChannel) → At t i p → slice_set t i p ≡ t
set-still [] i p at = absurd cc
set-still (q ∷ t) zero p at = ap (λ (x : Place OpenChannel). x ∷ t) (sym (some_is q p at))
set-still (q ∷ t) (suc i) p at = ap (λ (u : Channels). q ∷ u) (set-still t i p at)

-- ---- names

same-name : (a b : List ℕ) → bytes_eq a b ≡ true → a ≡ b
same-name a b = (bytes_eq-Decides a b).0

other-name : (a b : List ℕ) → bytes_eq a b ≡ false → bytes_eq b a ≡ false
other-name a b miss = by (bytes_eq b a) refl
  where
    by : (r : Bool) → bytes_eq b a ≡ r → r ≡ false
    by false is = refl
    by true is = absurd (both_ways (bytes_eq a b) miss ((bytes_eq-Decides a b).1 (sym (same-name b a is))))

its-name : (h : Handle) (c : OpenChannel) → c.retired ≡ false → leads_to c.name (h, c) ≡ true
its-name h c kept = ap (λ (b : Bool). b && not c.retired) ((bytes_eq-Decides c.name c.name).1 refl) ∙ ap (λ (b : Bool). not b) kept

not-its-name : (name : List ℕ) (h : Handle) (c : OpenChannel) → bytes_eq name c.name ≡ false → leads_to name (h, c) ≡ false
not-its-name name h c miss = ap (λ (b : Bool). b && not c.retired) (other-name name c.name miss)

leads-nowhere : (name : List ℕ) (h : Handle) (c : OpenChannel) → c.retired ≡ true → leads_to name (h, c) ≡ false
leads-nowhere name h c gone = ap (λ (b : Bool). bytes_eq c.name name && not b) gone ∙ by (bytes_eq c.name name)
  where
    by : (b : Bool) → (b && false) ≡ false
    by true = refl
    by false = refl

-- ---- a channel is there

module _ (t : Channels) (h : Handle) (c : OpenChannel) (there : under t h ≡ Some c) where
  at : At t h.index (place h c)
  at = under-at t h c there

  around : (name : List ℕ) → Around name h.index (λ p. channels_to name (slice_set t h.index p))
  around name = around-from name 0 t h.index h.index (At-within t h.index (place h c) at) (omega arith)

  now-are : (name : List ℕ) → channels_to name t ≡ (around name).below ++ (own name h.index (place h c) ++ (around name).from)
  now-are name = ap (λ (u : Channels). channels_to name u) (sym (set-still t h.index (place h c) at)) ∙ (around name).is (place h c)

  pub freed-is : with_freed h t ≡ slice_set t h.index (spot h.generation None)
  freed-is = ap (λ (o : Option OpenChannel). cond (is_some o) (slice_set t h.index (spot h.generation None)) t) there

  then-are : (name : List ℕ) → channels_to name (with_freed h t) ≡ (around name).below ++ (around name).from
  then-are name = ap (λ (u : Channels). channels_to name u) freed-is ∙ (around name).is (spot h.generation None)

  -- it leads to this record
  pub parts-to : (name : List ℕ) → leads_to name (h, c) ≡ true → (below from : List Handle) × AreBelow h.index below × AreFrom h.index from × (channels_to name t ≡ below ++ h ∷ from) × (channels_to name (with_freed h t) ≡ below ++ from)
  parts-to name hit =
      let a = around name in
      (a.below, a.from, a.are, a.rest, now-are name ∙ ap (λ (hs : List Handle). a.below ++ (hs ++ a.from)) (own-is name h.index h.generation c true hit), then-are name)

  -- it does not
  pub none-of : (name : List ℕ) → leads_to name (h, c) ≡ false → channels_to name t ≡ channels_to name (with_freed h t)
  none-of name miss =
      let a = around name in
      now-are name ∙ ap (λ (hs : List Handle). a.below ++ (hs ++ a.from)) (own-is name h.index h.generation c false miss) ∙ sym (then-are name)

  -- it was removed from its line, or was in none
  pub forgets : (old new : Lines) → AreByName old t → c.retired ≡ false → Goes c.name h old new → AreByName new (with_freed h t)
  forgets old new by kept goes name = go (bytes_eq name c.name) refl
    where
      own-line : channels_in new c.name ≡ channels_to c.name (with_freed h t)
      own-line =
          let p = parts-to c.name (its-name h c kept) in
          goes.own p.0 p.1 (by c.name ∙ p.4) p.2 p.3 ∙ sym p.5

      go : (b : Bool) → bytes_eq name c.name ≡ b → channels_in new name ≡ channels_to name (with_freed h t)
      go true hit = subst (λ (n : List ℕ). channels_in new n ≡ channels_to n (with_freed h t)) (sym (same-name name c.name hit)) own-line
      go false miss = goes.stay name miss ∙ by name ∙ none-of name (not-its-name name h c miss)

  pub forgets-none : (old : Lines) → AreByName old t → c.retired ≡ true → AreByName old (with_freed h t)
  forgets-none old by gone name = by name ∙ none-of name (leads-nowhere name h c gone)

  pub changed-is : (new : OpenChannel) → with_changed (λ (x : OpenChannel). new) h t ≡ slice_set t h.index (spot h.generation (Some new))
  changed-is new = ap (λ (o : Option OpenChannel). cond (is_some o) (slice_set t h.index (spot h.generation (option_map (λ (x : OpenChannel). new) o))) t) there

  -- one whose record was removed leads nowhere
  pub retired-are : (new : OpenChannel) (name : List ℕ) → new.retired ≡ true → channels_to name (with_freed h t) ≡ channels_to name (with_changed (λ (x : OpenChannel). new) h t)
  retired-are new name gone =
      let a = around name in
      then-are name
      ∙ ap (λ (hs : List Handle). a.below ++ (hs ++ a.from)) (sym (own-is name h.index h.generation new false (leads-nowhere name h new gone)))
      ∙ sym (a.is (spot h.generation (Some new)))
      ∙ ap (λ (u : Channels). channels_to name u) (sym (changed-is new))

  pub retires : (new : OpenChannel) (lines : Lines) → new.retired ≡ true → AreByName lines (with_freed h t) → AreByName lines (with_changed (λ (x : OpenChannel). new) h t)
  retires new lines gone by name = by name ∙ retired-are new name gone

-- what is there is changed to what becomes of it
pub changed-one : (f : OpenChannel → OpenChannel) (t : Channels) (h : Handle) (c : OpenChannel) → under t h ≡ Some c → with_changed f h t ≡ with_changed (λ (x : OpenChannel). f c) h t
changed-one f t h c there =
    ap (λ (o : Option OpenChannel). cond (is_some o) (slice_set t h.index (spot h.generation (option_map f o))) t) there
    ∙ sym (ap (λ (o : Option OpenChannel). cond (is_some o) (slice_set t h.index (spot h.generation (option_map (λ (x : OpenChannel). f c) o))) t) there)

-- no channel is there
pub freed-none : (t : Channels) (h : Handle) → (let none : Option OpenChannel = None in under t h ≡ none) → with_freed h t ≡ t
freed-none t h none = ap (λ (o : Option OpenChannel). cond (is_some o) (slice_set t h.index (spot h.generation None)) t) none

-- ---- a channel is opened

module _ (t : Channels) (h : Handle) (c : OpenChannel) (may : MayGive t h) where
  -- where it enters
  opened : (name : List ℕ) → (below from : List Handle) × AreBelow h.index below × AreFrom h.index from × (channels_to name t ≡ below ++ from) × (channels_to name (with_held h c t) ≡ below ++ (own name h.index (place h c) ++ from))
  opened name = go (eqb h.index (length t)) refl
    where
      go : (b : Bool) → eqb h.index (length t) ≡ b → (below from : List Handle) × AreBelow h.index below × AreFrom h.index from × (channels_to name t ≡ below ++ from) × (channels_to name (cond b (t ++ place h c ∷ []) (slice_set t h.index (place h c))) ≡ below ++ (own name h.index (place h c) ++ from))
      go true is =
          let i : h.index ≡ length t = eqb-true h.index (length t) is in (
            channels_to name t,
            [],
            subst (λ (k : ℕ). AreBelow k (channels_to name t)) (omega (arith, i)) (those-below name 0 t),
            tt,
            sym (append-nil (channels_to name t)),
            those-last name 0 t h.index (place h c) (omega (arith, i)),
          )
      go false is =
          let apart : h.index ≡ length t → ⊥ = λ e. both_ways (eqb h.index (length t)) is (eq-eqb h.index (length t) e) in
          let le : h.index ≤ length t = may.index in
          let a = around-from name 0 t h.index h.index (within h.index (length t) le apart) (omega arith) in
          let still = set-get_or t h.index blank in (
            a.below,
            a.from,
            a.are,
            a.rest,
            ap (λ (u : Channels). channels_to name u) (sym still) ∙ a.is (place_at t h.index) ∙ ap (λ (o : Option OpenChannel). a.below ++ (own name h.index (spot (place_at t h.index).generation o) ++ a.from)) may.free,
            a.is (place h c),
          )
        where
          within : (i n : ℕ) → i ≤ n → (i ≡ n → ⊥) → i < n
          within zero zero le no_it = absurd (no_it refl)
          within zero (suc n) le no_it = omega arith
          within (suc i) zero le no_it = absurd (omega (arith, le))
          within (suc i) (suc n) le no_it = (let r : i < n = within i n (omega (arith, le)) (λ e. no_it (ap (λ (x : ℕ). suc x) e)) in omega (arith, r))

  pub opens : (old new : Lines) → AreByName old t → c.retired ≡ false → Enters c.name h old new → AreByName new (with_held h c t)
  opens old new by kept enters name = go (bytes_eq name c.name) refl
    where
      own-line : channels_in new c.name ≡ channels_to c.name (with_held h c t)
      own-line =
          let p = opened c.name in
          enters.own p.0 p.1 (by c.name ∙ p.4) p.2 p.3 ∙ ap (λ (hs : List Handle). p.0 ++ (hs ++ p.1)) (sym (own-is c.name h.index h.generation c true (its-name h c kept))) ∙ sym p.5

      go : (b : Bool) → bytes_eq name c.name ≡ b → channels_in new name ≡ channels_to name (with_held h c t)
      go true hit = subst (λ (n : List ℕ). channels_in new n ≡ channels_to n (with_held h c t)) (sym (same-name name c.name hit)) own-line
      go false miss =
          let p = opened name in
          enters.stay name miss ∙ by name ∙ p.4 ∙ ap (λ (hs : List Handle). p.0 ++ (hs ++ p.1)) (sym (own-is name h.index h.generation c false (not-its-name name h c miss))) ∙ sym p.5

  -- it entered its line, and is gone again
  pub undone : (old mid new : Lines) → AreByName old t → Enters c.name h old mid → Goes c.name h mid new → AreByName new t
  undone old mid new by enters goes name = go (bytes_eq name c.name) refl
    where
      own-line : channels_in new c.name ≡ channels_to c.name t
      own-line =
          let p = opened c.name in
          goes.own p.0 p.1 (enters.own p.0 p.1 (by c.name ∙ p.4) p.2 p.3) p.2 p.3 ∙ sym p.4

      go : (b : Bool) → bytes_eq name c.name ≡ b → channels_in new name ≡ channels_to name t
      go true hit = subst (λ (n : List ℕ). channels_in new n ≡ channels_to n t) (sym (same-name name c.name hit)) own-line
      go false miss = goes.stay name miss ∙ enters.stay name miss ∙ by name

-- ---- the last one to a record

pub last-is : (hs : List Handle) (h : Handle) → (let o : Option Handle = Some h in o ≡ slice_get hs (length hs - 1)) → (others : List Handle) × (hs ≡ others ++ h ∷ [])
last-is hs h is = (let within = At-within hs (length hs - 1) h (sym is) in by hs (length hs - 1) (sym is) (omega (arith, within)))
  where
    by : (hs : List Handle) (k : ℕ) → At hs k h → suc k ≡ length hs → (others : List Handle) × (hs ≡ others ++ h ∷ [])
    by [] k at long = absurd cc
    by (g ∷ []) zero at long = ([], ap (λ (x : Handle). x ∷ []) (some_is g h at))
    by (g ∷ []) (suc k) at long = absurd cc
    by (g ∷ f ∷ hs) zero at long = absurd (omega (arith, long))
    by (g ∷ f ∷ hs) (suc k) at long = (let r = by (f ∷ hs) k at (omega (arith, long)) in (g ∷ r.0, ap (λ (xs : List Handle). g ∷ xs) r.1))

pub none-is-last : (hs : List Handle) → (let none : Option Handle = None in none ≡ slice_get hs (length hs - 1)) → hs ≡ []
none-is-last [] is = refl
none-is-last (h ∷ hs) is = elim (At-or (h ∷ hs) (length (h ∷ hs) - 1)) [
  | inl some ↦ absurd (none-some some.0 (is ∙ some.1))
  | inr past ↦ absurd (let p : length (h ∷ hs) ≤ length (h ∷ hs) - 1 = past in let l : length (h ∷ hs) ≡ suc (length hs) = refl in omega (arith, p, l))
]
