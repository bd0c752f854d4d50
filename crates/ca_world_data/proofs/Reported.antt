-- Ends at a server that ended are reported one by one, by index: the core and the
-- circuits in between.
use Rattle.std.proofs.Common.{◌≡◌, ℕ, zero, suc, ◌+◌, ◌<◌, ◌≤◌, ◌==◌, ◌&&◌, inl, inr, Bool, true, false, List, [], ◌∷◌, length, nat_lt, Option, Some, None, refl, sym, ap, subst, ◌∙◌, arith}
use Rattle.std.specs.Prelude.{if◌then◌else◌, is_some, map, option_map, slice_set, unwrap_or}
use Rattle.std.proofs.lemmas.Bool.{and_parts, eq-eqb, eqb-true, lt-ltb, ltb-true}
use Rattle.ca_arena.specs.declared.handle.Handle.{Handle}
use Rattle.ca_arena.specs.Arena.{Place, place_at, value_for}
use Rattle.ca_ids.specs.Table.{Table, kept_of, under, with_all_freed, with_freed}
use Rattle.ca_model.proofs.Tables.{one-at-index, under-at}
use Rattle.ca_text.specs.Place.{At}
use Rattle.ca_text.proofs.Places.{At-map, At-mapped, At-within, some_is}
use Rattle.ca_model.specs.Server.{Ended, Open, Server, ServerCircuit}
use Rattle.ca_model.specs.ServerEvents.{ending, ends_by, left_by, reported, server_closed}
use Rattle.ca_model.specs.World.{Joined}
use Rattle.ca_world_data.specs.Reporting.{AreServed, ClosesAt, ReportsAt}
use Rattle.ca_world_data.proofs.Serving.{one-at-server}

-- ---- the table

abbrev Circuits : Type 0
Circuits = Table ServerCircuit

abbrev frees : ServerCircuit → Bool
frees c = is_some (left_by (Some c))

-- the ends below an index are reported
abbrev pub freed_to : ℕ → Circuits → Circuits
freed_to zero t = t
freed_to (suc n) [] = []
freed_to (suc n) (p ∷ t) = record p { value = kept_of frees p.value } ∷ freed_to n t

pub freed-length : (n : ℕ) (t : Circuits) → length (freed_to n t) ≡ length t
freed-length zero t = refl
freed-length (suc n) [] = refl
freed-length (suc n) (p ∷ t) = ap suc (freed-length n t)

freed-all : (n : ℕ) (t : Circuits) → length t ≤ n → freed_to n t ≡ with_all_freed frees t
freed-all zero [] le = refl
freed-all zero (p ∷ t) le = absurd (omega (arith, le))
freed-all (suc n) [] le = refl
freed-all (suc n) (p ∷ t) le = (λ i. record p { value = kept_of frees p.value } ∷ freed-all n t (omega (arith, le)) i)

freed-place : (n : ℕ) (t : Circuits) → place_at (freed_to n t) n ≡ place_at t n
freed-place zero t = refl
freed-place (suc n) [] = refl
freed-place (suc n) (p ∷ t) = freed-place n t

-- what is under a handle of that index
freed-under : (n : ℕ) (t : Circuits) (h : Handle) → h.index ≡ n → under (freed_to n t) h ≡ under t h
freed-under n t h is =
    ap (λ (m : ℕ). value_for h.generation (place_at (freed_to n t) m)) is ∙ ap (value_for h.generation) (freed-place n t) ∙ ap (λ (m : ℕ). value_for h.generation (place_at t m)) (sym is)

freed-step : (n : ℕ) (t : Circuits) (g : ℕ) (c : ServerCircuit) → frees c ≡ true → At t n (record { generation = g; value = Some c }) → slice_set (freed_to n t) n (record { generation = g; value = None }) ≡ freed_to (suc n) t
freed-step n [] g c over at = absurd cc
freed-step zero (p ∷ t) g c over at =
    let is : p ≡ record { generation = g; value = Some c } = some_is p _ at in
    (λ i. record { generation = (sym is i).generation; value = None } ∷ t) ∙ (λ i. record { generation = p.generation; value = (sym (ap (λ (b : Bool). if b then None else Some c) over) ∙ ap (kept_of frees) (sym (ap (λ (q : Place ServerCircuit). q.value) is))) i } ∷ t)
freed-step (suc n) (p ∷ t) g c over at = ap (λ (u : Circuits). record p { value = kept_of frees p.value } ∷ u) (freed-step n t g c over at)

freed-skip : (n : ℕ) (t : Circuits) → kept_of frees (place_at t n).value ≡ (place_at t n).value → freed_to (suc n) t ≡ freed_to n t
freed-skip zero [] same = refl
freed-skip (suc n) [] same = refl
freed-skip zero (p ∷ t) same = (λ i. record p { value = same i } ∷ t)
freed-skip (suc n) (p ∷ t) same = ap (λ (u : Circuits). record p { value = kept_of frees p.value } ∷ u) (freed-skip n t same)

kept-all : (o : Option ServerCircuit) → left_by o ≡ None → kept_of frees o ≡ o
kept-all None none = refl
kept-all (Some (Open e)) none = refl
kept-all (Some (Ended w left)) none = absurd cc

-- an end that left bytes is one that is to be freed
left-frees : (o : Option ServerCircuit) (left : List ℕ) → left_by o ≡ Some left → (c : ServerCircuit) × (o ≡ Some c) × (frees c ≡ true)
left-frees None left is = absurd cc
left-frees (Some (Open e)) left is = absurd cc
left-frees (Some (Ended w l)) left is = (Ended w l, refl, refl)

-- ---- the circuits

-- of the circuits that end those of an index below this one
abbrev pub ends_below : ℕ → (i : ℕ) → Server → Joined → Option (List ℕ)
ends_below n i core j = if nat_lt j.at_server.index n then ends_by i core j else None

below-in : (n i : ℕ) (core : Server) (j : Joined) → j.at_server.index < n → ends_below n i core j ≡ ends_by i core j
below-in n i core j lt = ap (λ (b : Bool). if b then ends_by i core j else None) (lt-ltb j.at_server.index n lt)

below-out : (n i : ℕ) (core : Server) (j : Joined) → n ≤ j.at_server.index → ends_below n i core j ≡ None
below-out n i core j le = go (nat_lt j.at_server.index n) refl
  where
    go : (b : Bool) → nat_lt j.at_server.index n ≡ b → (if b then ends_by i core j else None) ≡ None
    go false is = refl
    go true is = (let lt = ltb-true j.at_server.index n is in absurd (omega (arith, lt, le)))

-- one that does not end at this index
below-same : (n i : ℕ) (core : Server) (j : Joined) → (j.at_server.index ≡ n → ends_by i core j ≡ None) → ends_below (suc n) i core j ≡ ends_below n i core j
below-same n i core j none = go (nat_lt j.at_server.index n) (j.at_server.index == n) refl refl
  where
    go : (b c : Bool) → nat_lt j.at_server.index n ≡ b → (j.at_server.index == n) ≡ c → ends_below (suc n) i core j ≡ ends_below n i core j
    go true c is same =
        let lt = ltb-true j.at_server.index n is in
        below-in (suc n) i core j (omega (arith, lt)) ∙ sym (below-in n i core j lt)
    go false true is same =
        let here : j.at_server.index ≡ n = eqb-true j.at_server.index n same in
        below-in (suc n) i core j (omega (arith, here)) ∙ none here ∙ sym (below-out n i core j (omega (arith, here)))
    go false false is same =
        let past : suc n ≤ j.at_server.index = beyond j.at_server.index n is same in
        below-out (suc n) i core j past ∙ sym (below-out n i core j (omega (arith, past)))
      where
        beyond : (a m : ℕ) → nat_lt a m ≡ false → (a == m) ≡ false → suc m ≤ a
        beyond a m less other = (let le : (a < m → ⊥) = λ lt. (let yes_it = lt-ltb a m lt in cc) in let ne : (a ≡ m → ⊥) = λ e. (let yes_it = eq-eqb a m e in cc) in omega (arith, le, ne))

-- a circuit that ends at a server that the core says has ended: it is open there
module _ (i : ℕ) (core : Server) (j : Joined) where
  ends-open : (left : List ℕ) → ends_by i core j ≡ Some left → (j.server ≡ i) × (j.lists.server_open ≡ true) × (left_by (under core.circuits j.at_server) ≡ Some left)
  ends-open left = go (j.server == i && j.lists.server_open) refl
    where
      go : (b : Bool) → (j.server == i && j.lists.server_open) ≡ b → (if b then left_by (under core.circuits j.at_server) else None) ≡ Some left → (j.server ≡ i) × (j.lists.server_open ≡ true) × (left_by (under core.circuits j.at_server) ≡ Some left)
      go true is ends = (let both = and_parts (j.server == i) j.lists.server_open is in (eqb-true j.server i both.0, both.1, ends))
      go false is ends = absurd cc

  ends-there : j.server ≡ i → j.lists.server_open ≡ true → ends_by i core j ≡ left_by (under core.circuits j.at_server)
  ends-there mine on = ap (λ (b : Bool). if b then left_by (under core.circuits j.at_server) else None) ((λ t. eq-eqb j.server i mine t && on t))

  -- it ends, or not
  ends-or : (o : Option (List ℕ)) → ends_by i core j ≡ o → ((left : List ℕ) → ends_by i core j ≡ Some left → ⊥) → ends_by i core j ≡ None
  ends-or None is never = is
  ends-or (Some left) is never = absurd (never left is)

-- a circuit, as it is
ending-none : (ends : Joined → Option (List ℕ)) (j : Joined) → ends j ≡ None → ending ends j ≡ j
ending-none ends j is = ap (λ (o : Option (List ℕ)). unwrap_or (option_map (λ (left : List ℕ). server_closed left j) o) j) is

ending-some : (ends : Joined → Option (List ℕ)) (j : Joined) (left : List ℕ) → ends j ≡ Some left → ending ends j ≡ server_closed left j
ending-some ends j left is = ap (λ (o : Option (List ℕ)). unwrap_or (option_map (λ (left : List ℕ). server_closed left j) o) j) is

ending-same : (ends others : Joined → Option (List ℕ)) (j : Joined) → ends j ≡ others j → ending ends j ≡ ending others j
ending-same ends others j is = ap (λ (o : Option (List ℕ)). unwrap_or (option_map (λ (left : List ℕ). server_closed left j) o) j) is

-- one that is open after it has not ended
ending-open : (ends : Joined → Option (List ℕ)) (j : Joined) → (ending ends j).lists.server_open ≡ true → ending ends j ≡ j
ending-open ends j on = go (ends j) refl
  where
    go : (o : Option (List ℕ)) → ends j ≡ o → ending ends j ≡ j
    go None is = ending-none ends j is
    go (Some left) is = (let off : (ending ends j).lists.server_open ≡ false = ap (λ (z : Joined). z.lists.server_open) (ending-some ends j left is) in absurd cc)

-- ---- lists

map-same : (f : Joined → Joined) (ks : List Joined) → ((j : Joined) → f j ≡ j) → map f ks ≡ ks
map-same f [] same = refl
map-same f (j ∷ ks) same = (λ t. same j t ∷ map-same f ks same t)

map-agree : (f g : Joined → Joined) (ks : List Joined) → ((m : ℕ) (j : Joined) → At ks m j → f j ≡ g j) → map f ks ≡ map g ks
map-agree f g [] same = refl
map-agree f g (j ∷ ks) same = (λ t. same 0 j refl t ∷ map-agree f g ks (λ m c at. same (suc m) c at) t)

-- all but one
map-but : (f g : Joined → Joined) (ks : List Joined) (k : ℕ) (j : Joined) → At ks k j → ((m : ℕ) (c : Joined) → At ks m c → (m ≡ k → ⊥) → f c ≡ g c) → slice_set (map f ks) k (g j) ≡ map g ks
map-but f g [] k j at same = absurd cc
map-but f g (c ∷ ks) zero j at same =
    (λ t. g (sym (some_is c j at) t) ∷ map f ks) ∙ (λ t. g c ∷ map-agree f g ks (λ m d there. same (suc m) d there (λ e. absurd cc)) t)
map-but f g (c ∷ ks) (suc k) j at same =
    (λ t. same 0 c refl (λ e. absurd cc) t ∷ map-but f g ks k j at (λ m d there other. same (suc m) d there (λ e. other (pred-is m k e))) t)
  where
    pred-is : (m k : ℕ) → suc m ≡ suc k → m ≡ k
    pred-is m k e = omega (arith, e)

-- ---- in between

-- The ends below this index are reported, and their circuits ended.
pub record Reporting (n i : ℕ) (core : Server) (ks : List Joined) (core' : Server) (ks' : List Joined) : Type 0 where
  pub core_is : core' ≡ record core { circuits = freed_to n core.circuits }
  pub circuits : ks' ≡ map (ending (ends_below n i core)) ks

pub reporting-none : (i : ℕ) (core : Server) (ks : List Joined) → Reporting 0 i core ks core ks
reporting-none i core ks = record { core_is = refl; circuits = sym (map-same (ending (ends_below 0 i core)) ks (λ j. ending-none (ends_below 0 i core) j (below-out 0 i core j (omega arith)))) }

pub reporting-long : (n i : ℕ) (core : Server) (ks : List Joined) (core' : Server) (ks' : List Joined) → Reporting n i core ks core' ks' → length core'.circuits ≡ length core.circuits
reporting-long n i core ks core' ks' r = ap (λ (c : Server). length c.circuits) r.core_is ∙ freed-length n core.circuits

-- the server finds its circuits still
pub reporting-served : (numbers : List ℕ) (n i : ℕ) (core : Server) (ks : List Joined) (core' : Server) (ks' : List Joined) → Reporting n i core ks core' ks' → AreServed numbers ks i → AreServed numbers ks' i
reporting-served numbers n i core ks core' ks' r served k j at mine on =
    let d = At-mapped (ending (ends_below n i core)) ks k j (subst (λ (z : List Joined). At z k j) r.circuits at) in
    let same : j ≡ d.0 = d.2 ∙ ending-open (ends_below n i core) d.0 (subst (λ (z : Joined). z.lists.server_open ≡ true) d.2 on) in
    subst (λ (z : Joined). At numbers z.at_server.index k) (sym same)
    (served k d.0 d.1 (subst (λ (z : Joined). z.server ≡ i) same mine) (subst (λ (z : Joined). z.lists.server_open ≡ true) same on))

-- all are
pub reporting-all : (n i : ℕ) (core : Server) (ks : List Joined) (core' : Server) (ks' : List Joined) → length core.circuits ≤ n → Reporting n i core ks core' ks' → (core' ≡ reported core) × (ks' ≡ map (ending (ends_by i core)) ks)
reporting-all n i core ks core' ks' over r = (
  r.core_is ∙ (λ t. record core { circuits = freed-all n core.circuits over t }),
  r.circuits ∙ map-agree (ending (ends_below n i core)) (ending (ends_by i core)) ks (λ m j at. ending-same (ends_below n i core) (ends_by i core) j (each j (ends_by i core j) refl)),
)
  where
    each : (j : Joined) (o : Option (List ℕ)) → ends_by i core j ≡ o → ends_below n i core j ≡ ends_by i core j
    each j (Some left) is =
        let c = left-frees (under core.circuits j.at_server) left (ends-open i core j left is).2 in
        let within = At-within core.circuits j.at_server.index _ (under-at core.circuits j.at_server c.0 c.1) in
        below-in n i core j (omega (arith, within, over))
    each j None is = go (nat_lt j.at_server.index n)
      where
        go : (b : Bool) → (if b then ends_by i core j else None) ≡ ends_by i core j
        go true = refl
        go false = sym is

-- one more is
module _ (numbers : List ℕ) (n i : ℕ) (core : Server) (ks : List Joined) (served : AreServed numbers ks i) where
  abbrev before : Joined → Joined
  before = ending (ends_below n i core)

  abbrev after : Joined → Joined
  after = ending (ends_below (suc n) i core)

  -- a circuit of the handle that ended was open, or there is none
  module _ (h : Handle) (left : List ℕ) (here : h.index ≡ n) (over : left_by (under core.circuits h) ≡ Some left) where
    -- a circuit that ends at this index is of this handle
    its-handle : (j : Joined) (l : List ℕ) → j.at_server.index ≡ n → ends_by i core j ≡ Some l → j.at_server ≡ h
    its-handle j l at_n ends =
        let a = left-frees (under core.circuits j.at_server) l (ends-open i core j l ends).2 in
        let b = left-frees (under core.circuits h) left over in
        one-at-index core.circuits j.at_server h a.0 b.0 a.1 b.1 (at_n ∙ sym here)

    -- another is as it was
    other-same : (j : Joined) → (j.server ≡ i → j.lists.server_open ≡ true → j.at_server ≡ h → ⊥) → before j ≡ after j
    other-same j other = sym (ending-same (ends_below (suc n) i core) (ends_below n i core) j (below-same n i core j (λ at_n. ends-or i core j (ends_by i core j) refl (λ l ends. (let o = ends-open i core j l ends in other o.0 o.1 (its-handle j l at_n ends))))))

    own-after : (j : Joined) → j.server ≡ i → j.lists.server_open ≡ true → j.at_server ≡ h → after j ≡ server_closed left j
    own-after j mine on is =
        let index : j.at_server.index ≡ n = ap (λ (g : Handle). g.index) is ∙ here in
        ending-some (ends_below (suc n) i core) j left
        (below-in (suc n) i core j (omega (arith, index)) ∙ ends-there i core j mine on ∙ ap (λ (g : Handle). left_by (under core.circuits g)) is ∙ over)

    -- a circuit of this handle that is open has not ended before
    own-before : (j : Joined) → j.at_server ≡ h → before j ≡ j
    own-before j is = (let index : j.at_server.index ≡ n = ap (λ (g : Handle). g.index) is ∙ here in ending-none (ends_below n i core) j (below-out n i core j (omega (arith, index))))

    closes-so : (k : Option ℕ) (ks'' : List Joined) → ClosesAt k i h left (map before ks) ks'' → ks'' ≡ map after ks
    closes-so (Some k) ks'' (s, is) =
        let d = At-mapped before ks k s.j s.at in
        let j : Joined = d.0 in
        let same : s.j ≡ j = d.2 ∙ ending-open (ends_below n i core) j (subst (λ (z : Joined). z.lists.server_open ≡ true) d.2 s.is_open) in
        let mine : j.server ≡ i = subst (λ (z : Joined). z.server ≡ i) same s.mine in
        let on : j.lists.server_open ≡ true = subst (λ (z : Joined). z.lists.server_open ≡ true) same s.is_open in
        let its : j.at_server ≡ h = subst (λ (z : Joined). z.at_server ≡ h) same s.here in
        is ∙ ap (slice_set (map before ks) k) (ap (server_closed left) same ∙ sym (own-after j mine on its))
        ∙ map-but before after ks k j d.1 (λ m c at other. other-same c (λ c_mine c_on c_its. other (one-at-server numbers ks i served m k c j at d.1 c_mine mine c_on on (c_its ∙ sym its))))
    closes-so None ks'' (none, is) =
        is ∙ map-agree before after ks (λ m c at. other-same c (λ mine on its.
        let same : before c ≡ c = own-before c its in
        none m c (subst (λ (z : Joined). At (map before ks) m z) same (At-map before ks m c at)) mine on its))

    frees-so : with_freed h (freed_to n core.circuits) ≡ freed_to (suc n) core.circuits
    frees-so =
        let b = left-frees (under core.circuits h) left over in
        let at : At core.circuits n (record { generation = h.generation; value = Some b.0 }) = subst (λ (m : ℕ). At core.circuits m (record { generation = h.generation; value = Some b.0 })) here (under-at core.circuits h b.0 b.1) in
        let there : is_some (under (freed_to n core.circuits) h) ≡ true = ap is_some (freed-under n core.circuits h here ∙ b.1) in
        ap (λ (z : Bool). if z then slice_set (freed_to n core.circuits) h.index (record { generation = h.generation; value = None }) else freed_to n core.circuits) there
        ∙ ap (λ (m : ℕ). slice_set (freed_to n core.circuits) m (record { generation = h.generation; value = None })) here
        ∙ freed-step n core.circuits h.generation b.0 b.2 at

  pub reporting-next : (core' : Server) (ks' : List Joined) (core'' : Server) (ks'' : List Joined) → Reporting n i core ks core' ks' → ReportsAt n i core' ks' core'' ks'' → Reporting (suc n) i core ks core'' ks''
  reporting-next core' ks' core'' ks'' r did =
      move (record core { circuits = freed_to n core.circuits }) (map before ks) (subst (λ (z : Server × List Joined). ReportsAt n i z.0 z.1 core'' ks'') (λ t. (r.core_is t, r.circuits t)) did)
    where
      move : (mid : Server) (mids : List Joined) → ReportsAt n i (record core { circuits = freed_to n core.circuits }) (map before ks) core'' ks'' → Reporting (suc n) i core ks core'' ks''
      move mid mids (inl (e, freed, (k, closes))) =
          let over : left_by (under core.circuits e.h) ≡ Some e.left = ap left_by (sym (freed-under n core.circuits e.h e.here)) ∙ e.over in record {
            core_is = freed ∙ (λ t. record core { circuits = frees-so e.h e.left e.here over t });
            circuits = closes-so e.h e.left e.here over k ks'' closes;
          }
      move mid mids (inr (none, same, stay)) =
          let p : Place ServerCircuit = place_at core.circuits n in
          let h : Handle = record { index = n; generation = p.generation } in
          let own : left_by p.value ≡ None =
          ap left_by (sym (ap (λ (b : Bool). if b then p.value else None) (eq-eqb p.generation p.generation refl)) ∙ sym (freed-under n core.circuits h refl)) ∙ none h refl in
          let nowhere : (g : Handle) → g.index ≡ n → left_by (under core.circuits g) ≡ None = λ g is. ap left_by (sym (freed-under n core.circuits g is)) ∙ none g is in record {
            core_is = same ∙ (λ t. record core { circuits = sym (freed-skip n core.circuits (kept-all p.value own)) t });
            circuits =
                stay ∙ map-agree before after ks (λ m c at. sym (ending-same (ends_below (suc n) i core) (ends_below n i core) c (below-same n i core c (λ at_n. ends-or i core c (ends_by i core c) refl (λ l ends.
                let no_it : left_by (under core.circuits c.at_server) ≡ None = nowhere c.at_server at_n in
                let yes_it : left_by (under core.circuits c.at_server) ≡ Some l = (ends-open i core c l ends).2 in
                absurd cc)))));
          }

pub suc-is : (n : ℕ) → suc n ≡ n + 1
suc-is n = omega arith
