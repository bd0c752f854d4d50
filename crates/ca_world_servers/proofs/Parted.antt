-- The puts of a channel that is cleared, one after another.
use Rattle.std.proofs.Common.{◌≡◌, ℕ, zero, suc, ◌+◌, ◌≤◌, Bool, true, false, not, List, [], ◌∷◌, ◌++◌, Option, Some, None, length, drop, map, refl, sym, ap, ◌∙◌, arith}
use Rattle.std.specs.Prelude.{Vec, if◌then◌else◌, option_map, slice_get, slice_set}
use Rattle.std.specs.List.{flat_map}
use Rattle.std.specs.declared.alloc.Global.{Global}
use Rattle.std.proofs.lemmas.List.{append-nil, append_assoc}
use Rattle.ca_arena.specs.declared.handle.Handle.{Handle}
use Rattle.ca_records.specs.declared.puts.Put.{Put}
use Rattle.ca_records.specs.Puts.{Record, WaitingPut, record_named}
use Rattle.ca_text.specs.Place.{At}
use Rattle.ca_text.proofs.Places.{At-map, some_is}
use Rattle.ca_model.specs.History.{Entry}
use Rattle.ca_model.specs.Server.{Server}
use Rattle.ca_model.specs.ServerEvents.{channel_withdrawals, is_of_channel, places_where, with_core, without_channel}
use Rattle.ca_model.specs.World.{PutPlace, RecordSide}
use Rattle.ca_server_core.specs.ForHistories.{put_in}
use Rattle.ca_world_data.specs.declared.server.PutPlace.{PutPlace as Kept}
use Rattle.ca_world_data.specs.declared.server.RecordSide.{RecordSide as Side}
use Rattle.ca_world_data.specs.Seen.{record_of}
use Rattle.ca_world_data.proofs.Worlds.{set-map}
use Rattle.ca_world_data.proofs.Openings.{drop-next}
use Rattle.ca_world_servers.specs.Parting.{AreBeside, all_gone, all_kept, places_in, put_if, puts_of, with_kept, withdrawn_at}

-- ---- a place of a list

drop-none : {A : Type 0} (xs : List A) (i : ℕ) → slice_get xs i ≡ None → drop i xs ≡ []
drop-none [] zero is = refl
drop-none [] (suc i) is = refl
drop-none (x ∷ xs) zero is = absurd cc
drop-none (x ∷ xs) (suc i) is = drop-none xs i is

drop-over : {A : Type 0} (xs : List A) (i : ℕ) → length xs ≤ i → drop i xs ≡ []
drop-over [] zero le = refl
drop-over [] (suc i) le = refl
drop-over (x ∷ xs) zero le = absurd (omega (arith, le))
drop-over (x ∷ xs) (suc i) le = drop-over xs i (omega (arith, le))

-- ---- what the core knows of a put that waits

put-there : (o : Option Record) (i : ℕ) (b : Put) → Some b ≡ put_in o i → (w : WaitingPut) × At (puts_of o) i w × (w.put ≡ b)
put-there None i b is = absurd cc
put-there (Some r) i b is = go (slice_get r.waiting i) refl is
  where
    go : (o : Option WaitingPut) → slice_get r.waiting i ≡ o → Some b ≡ option_map (λ (w : WaitingPut). w.put) o → (w : WaitingPut) × At r.waiting i w × (w.put ≡ b)
    go None e is = absurd cc
    go (Some w) e is = (w, e, some_is w.put b (sym is))

nothing-there : (o : Option Record) (i : ℕ) → None ≡ put_in o i → drop i (puts_of o) ≡ []
nothing-there None zero is = refl
nothing-there None (suc i) is = refl
nothing-there (Some r) i is = drop-none r.waiting i (go (slice_get r.waiting i) is)
  where
    go : (o : Option WaitingPut) → None ≡ option_map (λ (w : WaitingPut). w.put) o → o ≡ None
    go None is = refl
    go (Some w) is = absurd cc

-- ---- places beside puts

-- those of one record: the next is put aside
pub aside-next : (test : Put → Bool) (o : Option Record) (ps : List PutPlace) (i : ℕ) (b : Put) (p : PutPlace) → Some b ≡ put_in o i → At ps i p
    → put_if (test b) p ++ places_where test (drop (i + 1) (puts_of o)) (drop (i + 1) ps) ≡ places_where test (drop i (puts_of o)) (drop i ps)
aside-next test o ps i b p is at =
    let there = put-there o i b is in
    let w : WaitingPut = there.0 in
    ap (λ (x : Bool). put_if x p ++ rest) (ap test (sym there.2)) ∙ pick (test w.put)
    ∙ sym (λ t. places_where test (drop-next (puts_of o) i w there.1 t) (drop-next ps i p at t))
  where
    rest : List PutPlace
    rest = places_where test (drop (i + 1) (puts_of o)) (drop (i + 1) ps)

    pick : (x : Bool) → put_if x p ++ rest ≡ (if x then p ∷ rest else rest)
    pick true = refl
    pick false = refl

-- the same after those that were kept or told before
pub aside-kept : (test : Put → Bool) (o : Option Record) (ps : List PutPlace) (i : ℕ) (b : Put) (p : PutPlace) (keep : Bool) (old new all : List PutPlace) → Some b ≡ put_in o i → At ps i p → keep ≡ test b
    → new ≡ old ++ put_if keep p → old ++ places_where test (drop i (puts_of o)) (drop i ps) ≡ all → new ++ places_where test (drop (i + 1) (puts_of o)) (drop (i + 1) ps) ≡ all
aside-kept test o ps i b p keep old new all is at so made before =
    ap (λ (l : List PutPlace). l ++ rest) (made ∙ ap (λ (x : Bool). old ++ put_if x p) so)
    ∙ append_assoc old (put_if (test b) p) rest
    ∙ ap (λ (l : List PutPlace). old ++ l) (aside-next test o ps i b p is at)
    ∙ before
  where
    rest : List PutPlace
    rest = places_where test (drop (i + 1) (puts_of o)) (drop (i + 1) ps)

joins : (ps qs : List PutPlace) → map withdrawn_at ps ++ map withdrawn_at qs ≡ map withdrawn_at (ps ++ qs)
joins [] qs = refl
joins (p ∷ ps) qs = ap (λ (t : List Entry). withdrawn_at p ∷ t) (joins ps qs)

pub aside-told : (test : Put → Bool) (o : Option Record) (ps : List PutPlace) (i : ℕ) (b : Put) (p : PutPlace) (gone : Bool) (old new all : List Entry) → Some b ≡ put_in o i → At ps i p → gone ≡ test b
    → new ≡ old ++ map withdrawn_at (put_if gone p) → old ++ map withdrawn_at (places_where test (drop i (puts_of o)) (drop i ps)) ≡ all → new ++ map withdrawn_at (places_where test (drop (i + 1) (puts_of o)) (drop (i + 1) ps)) ≡ all
aside-told test o ps i b p gone old new all is at so made before =
    ap (λ (l : List Entry). l ++ map withdrawn_at rest) (made ∙ ap (λ (x : Bool). old ++ map withdrawn_at (put_if x p)) so)
    ∙ append_assoc old (map withdrawn_at (put_if (test b) p)) (map withdrawn_at rest)
    ∙ ap (λ (l : List Entry). old ++ l) (joins (put_if (test b) p) rest ∙ ap (map withdrawn_at) (aside-next test o ps i b p is at))
    ∙ before
  where
    rest : List PutPlace
    rest = places_where test (drop (i + 1) (puts_of o)) (drop (i + 1) ps)

-- the core knows of no more
pub aside-none : (test : Put → Bool) (o : Option Record) (ps : List PutPlace) (i : ℕ) → None ≡ put_in o i → places_where test (drop i (puts_of o)) (drop i ps) ≡ []
aside-none test o ps i is = ap (λ (puts : List WaitingPut). places_where test puts (drop i ps)) (nothing-there o i is)

-- no more places are there
pub aside-over : (test : Put → Bool) (o : Option Record) (ps : List PutPlace) (i : ℕ) → length ps ≤ i → places_where test (drop i (puts_of o)) (drop i ps) ≡ []
aside-over test o ps i le = ap (places_where test (drop i (puts_of o))) (drop-over ps i le) ∙ none (drop i (puts_of o))
  where
    none : (puts : List WaitingPut) → places_where test puts [] ≡ []
    none [] = refl
    none (p ∷ puts) = refl

-- nothing is left after those that were kept or told
pub ends-kept : (kept rest all : List PutPlace) → rest ≡ [] → kept ++ rest ≡ all → kept ≡ all
ends-kept kept rest all none is = sym (append-nil kept) ∙ ap (λ (l : List PutPlace). kept ++ l) (sym none) ∙ is

pub ends-told : (told all : List Entry) (rest : List PutPlace) → rest ≡ [] → told ++ map withdrawn_at rest ≡ all → told ≡ all
ends-told told all rest none is = sym (append-nil told) ∙ ap (λ (l : List PutPlace). told ++ map withdrawn_at l) (sym none) ∙ is

-- ---- puts that are kept

-- from this record on
abbrev pub kept_from : ℕ → List (List PutPlace) → List RecordSide → List RecordSide
kept_from zero kept rs = with_kept kept rs
kept_from (suc i) kept (r ∷ rs) = r ∷ kept_from i kept rs
kept_from (suc i) kept [] = []

pub kept-none : (i : ℕ) (rs : List RecordSide) → kept_from i [] rs ≡ rs
kept-none zero [] = refl
kept-none zero (r ∷ rs) = refl
kept-none (suc i) [] = refl
kept-none (suc i) (r ∷ rs) = ap (λ (t : List RecordSide). r ∷ t) (kept-none i rs)

pub kept-over : (i : ℕ) (kept : List (List PutPlace)) (rs : List RecordSide) → length rs ≤ i → kept_from i kept rs ≡ rs
kept-over zero [] [] le = refl
kept-over zero (k ∷ kept) [] le = refl
kept-over zero kept (r ∷ rs) le = absurd (omega (arith, le))
kept-over (suc i) kept [] le = refl
kept-over (suc i) kept (r ∷ rs) le = ap (λ (t : List RecordSide). r ∷ t) (kept-over i kept rs (omega (arith, le)))

kept-next : (i : ℕ) (rs : List RecordSide) (r : RecordSide) (ps : List PutPlace) (kept : List (List PutPlace)) → At rs i r
    → kept_from (i + 1) kept (slice_set rs i (record r { waiting = ps })) ≡ kept_from i (ps ∷ kept) rs
kept-next i [] r ps kept at = absurd cc
kept-next zero (x ∷ rs) r ps kept at = ap (λ (z : RecordSide). record z { waiting = ps } ∷ with_kept kept rs) (sym (some_is x r at))
kept-next (suc i) (x ∷ rs) r ps kept at =
    let e : suc i + 1 ≡ suc (i + 1) = omega arith in
    rw e (ap (λ (t : List RecordSide). x ∷ t) (kept-next i rs r ps kept at))

-- the same, of the records that are kept
pub kept-step : (i : ℕ) (rs : List Side) (r : Side) (w : Vec Kept Global) (kept : List (List PutPlace)) → At rs i r
    → kept_from (i + 1) kept (map record_of (slice_set rs i (record r { waiting = w }))) ≡ kept_from i (places_in w ∷ kept) (map record_of rs)
kept-step i rs r w kept at =
    ap (kept_from (i + 1) kept) (set-map record_of rs i (record r { waiting = w }))
    ∙ kept-next i (map record_of rs) (record_of r) (places_in w) kept (At-map record_of rs i r at)

-- ---- all records, as the statement has them

module _ (core : Server) (h : Handle) (sid : ℕ) where
  beside-kept : (cs : List Record) (rs : List RecordSide) → ((i : ℕ) (c : Record) (r : RecordSide) → At cs i c → At rs i r → record_named core.records r.name ≡ Some c) → length cs ≡ length rs
      → with_kept (all_kept core h sid rs) rs ≡ with_core (without_channel h sid) cs rs
  beside-kept [] [] each long = refl
  beside-kept [] (r ∷ rs) each long = absurd (omega (arith, long))
  beside-kept (c ∷ cs) [] each long = absurd (omega (arith, long))
  beside-kept (c ∷ cs) (r ∷ rs) each long =
      let rest = beside-kept cs rs (λ i x y at there. each (suc i) x y at there) (omega (arith, long)) in
      λ t. record r { waiting = places_where (λ (p : Put). not (is_of_channel h sid p)) (puts_of (each 0 c r refl refl t)) r.waiting } ∷ rest t

  beside-gone : (cs : List Record) (rs : List RecordSide) → ((i : ℕ) (c : Record) (r : RecordSide) → At cs i c → At rs i r → record_named core.records r.name ≡ Some c) → length cs ≡ length rs
      → all_gone core h sid rs ≡ channel_withdrawals h sid cs rs
  beside-gone [] [] each long = refl
  beside-gone [] (r ∷ rs) each long = absurd (omega (arith, long))
  beside-gone (c ∷ cs) [] each long = absurd (omega (arith, long))
  beside-gone (c ∷ cs) (r ∷ rs) each long =
      let rest = beside-gone cs rs (λ i x y at there. each (suc i) x y at there) (omega (arith, long)) in
      (λ t. map withdrawn_at (places_where (is_of_channel h sid) (puts_of (each 0 c r refl refl t)) r.waiting) ++ rest t)
      ∙ joins (places_where (is_of_channel h sid) c.waiting r.waiting) (flat_map (λ (ps : List PutPlace). ps) (with_core (λ (x : Record) (y : RecordSide). places_where (is_of_channel h sid) x.waiting y.waiting) cs rs))

-- the records without the puts of a channel, and what the log tells of these
pub parts-kept : (core : Server) (h : Handle) (sid : ℕ) (rs : List RecordSide) → AreBeside core.records rs → with_kept (all_kept core h sid rs) rs ≡ with_core (without_channel h sid) core.records rs
parts-kept core h sid rs beside = beside-kept core h sid core.records rs beside.each beside.long

pub parts-gone : (core : Server) (h : Handle) (sid : ℕ) (rs : List RecordSide) → AreBeside core.records rs → all_gone core h sid rs ≡ channel_withdrawals h sid core.records rs
parts-gone core h sid rs beside = beside-gone core h sid core.records rs beside.each beside.long
