-- The first circuit that a client wants whose address has a server.
use Rattle.std.proofs.Common.{◌≡◌, ℕ, zero, suc, ◌+◌, ◌<◌, ◌≤◌, Bool, true, false, List, [], ◌∷◌, Option, Some, None, drop, eqb, length, nat_lt, refl, sym, ap, subst, ◌∙◌, arith}
use Rattle.std.specs.List.{cons_option}
use Rattle.std.specs.Prelude.{filter_map, if◌then◌else◌, option_and_then, slice_get}
use Rattle.std.proofs.lemmas.Bool.{and_from, and_parts, eq-eqb, eqb-true, ltb-false, ltb-true}
use Rattle.ca_text.specs.Place.{At}
use Rattle.ca_text.proofs.Places.{some_is}
use Rattle.ca_model.specs.ClientCalls.{WantedCircuit}
use Rattle.ca_model.specs.Ends.{Address, same_address}
use Rattle.ca_model.specs.ClientEvents.{place_of}
use Rattle.ca_world_data.specs.declared.server.ServerSide.{ServerSide}
use Rattle.ca_world_data.specs.Accepting.{first_served, first_there, served, server_at}
use Rattle.ca_world_data.proofs.Openings.{drop-next}
use Rattle.ca_world_data.proofs.Worlds.{both-ways}

-- ---- addresses

same-address-itself : (a b : Address) → a ≡ b → same_address a b ≡ true
same-address-itself a b is = and_from (eqb a.host b.host) (eqb a.port b.port) (eq-eqb a.host b.host (ap (λ (z : Address). z.host) is)) (eq-eqb a.port b.port (ap (λ (z : Address). z.port) is))

same-address-is : (a b : Address) → same_address a b ≡ true → a ≡ b
same-address-is a b is =
    let parts = and_parts (eqb a.host b.host) (eqb a.port b.port) is in
    let host : a.host ≡ b.host = eqb-true a.host b.host parts.0 in
    let port : a.port ≡ b.port = eqb-true a.port b.port parts.1 in
    λ t. record { host = host t; port = port t }

-- ---- the first that passes

place-there : {A : Type 0} (test : A → Bool) (xs : List A) → place_of test xs < length xs → (x : A) × At xs (place_of test xs) x × (test x ≡ true)
place-there test [] lt = absurd (omega (arith, lt))
place-there {A} test (x ∷ xs) lt = go (test x) refl (λ l. place-there test xs l) lt
  where
    go : (b : Bool) → test x ≡ b → (place_of test xs < length xs → (y : A) × At xs (place_of test xs) y × (test y ≡ true))
        → (if b then 0 else place_of test xs + 1) < length (x ∷ xs) → (y : A) × At (x ∷ xs) (if b then 0 else place_of test xs + 1) y × (test y ≡ true)
    go true is rest lt = (x, refl, is)
    go false is rest lt =
        let r = rest (omega (arith, lt)) in
        let e : place_of test xs + 1 ≡ suc (place_of test xs) = omega arith in
        (r.0, subst (λ (n : ℕ). At (x ∷ xs) n r.0) (sym e) r.1, r.2)

place-none : {A : Type 0} (test : A → Bool) (xs : List A) → length xs ≤ place_of test xs → (k : ℕ) (x : A) → At xs k x → test x ≡ true → ⊥
place-none test [] le k x at yes_it = absurd cc
place-none {A} test (z ∷ xs) le k x at yes_it = go (test z) refl (λ l n there. place-none test xs l n x there yes_it) le k at
  where
    go : (b : Bool) → test z ≡ b → (length xs ≤ place_of test xs → (n : ℕ) → At xs n x → ⊥) → length (z ∷ xs) ≤ (if b then 0 else place_of test xs + 1) → (k : ℕ) → At (z ∷ xs) k x → ⊥
    go true is rest le k at = omega (arith, le)
    go false is rest le zero at = both-ways (test z) (ap test (some_is z x at) ∙ yes_it) is
    go false is rest le (suc k) at = rest (omega (arith, le)) k at

-- ---- one circuit

abbrev as_served : Bool → WantedCircuit → ℕ → Option (WantedCircuit × ℕ)
as_served b u n = if b then Some (u, n) else None

module _ (ys : List ServerSide) where
  -- it is itself, with a server at its address
  served-own : (u v : WantedCircuit) (s : ℕ) → served ys u ≡ Some (v, s) → (v ≡ u) × ((y : ServerSide) × At ys s y × (y.setting.address ≡ v.address))
  served-own u v s is = go (nat_lt (server_at ys u.address) (length ys)) refl is
    where
      go : (b : Bool) → nat_lt (server_at ys u.address) (length ys) ≡ b → as_served b u (server_at ys u.address) ≡ Some (v, s) → (v ≡ u) × ((y : ServerSide) × At ys s y × (y.setting.address ≡ v.address))
      go false lt is = absurd cc
      go true lt is =
          let a : WantedCircuit × ℕ = (u, server_at ys u.address) in
          let b : WantedCircuit × ℕ = (v, s) in
          let pair : a ≡ b = some_is a b is in
          let v_is : u ≡ v = ap (λ (p : WantedCircuit × ℕ). p.0) pair in
          let s_is : server_at ys u.address ≡ s = ap (λ (p : WantedCircuit × ℕ). p.1) pair in
          let r = place-there (λ (y : ServerSide). same_address y.setting.address u.address) ys (ltb-true (server_at ys u.address) (length ys) lt) in
          (sym v_is, (r.0, subst (λ (n : ℕ). At ys n r.0) s_is r.1, same-address-is r.0.setting.address u.address r.2 ∙ ap (λ (z : WantedCircuit). z.address) v_is))

  -- no server is at its address
  served-not : (u : WantedCircuit) → served ys u ≡ None → (k : ℕ) (y : ServerSide) → At ys k y → y.setting.address ≡ u.address → ⊥
  served-not u is k y at same = go (nat_lt (server_at ys u.address) (length ys)) refl is
    where
      go : (b : Bool) → nat_lt (server_at ys u.address) (length ys) ≡ b → as_served b u (server_at ys u.address) ≡ None → ⊥
      go true lt is = cc
      go false lt is = place-none (λ (z : ServerSide). same_address z.setting.address u.address) ys (ltb-false (server_at ys u.address) (length ys) lt) k y at (same-address-itself y.setting.address u.address same)

-- ---- many circuits

-- the first of these circuits whose address has a server, which is this one
pub record IsFirstServed (ys : List ServerSide) (vs : List WantedCircuit) (v : WantedCircuit) (s : ℕ) : Type 0 where
  pub place : ℕ
  pub at : At vs place v
  pub y : ServerSide
  pub there : At ys s y
  pub address : y.setting.address ≡ v.address
  pub first : (l : ℕ) (u : WantedCircuit) (k : ℕ) (z : ServerSide) → l < place → At vs l u → At ys k z → z.setting.address ≡ u.address → ⊥

pub served-first : (ys : List ServerSide) (vs : List WantedCircuit) (v : WantedCircuit) (s : ℕ) → first_served ys vs ≡ Some (v, s) → IsFirstServed ys vs v s
served-first ys [] v s is = absurd cc
served-first ys (u ∷ vs) v s is = go (served ys u) refl (λ e. served-first ys vs v s e) is
  where
    earlier : served ys u ≡ None → (r : IsFirstServed ys vs v s) (l : ℕ) (w : WantedCircuit) (k : ℕ) (z : ServerSide) → l < suc r.place → At (u ∷ vs) l w → At ys k z → z.setting.address ≡ w.address → ⊥
    earlier one r zero w k z lt at there same = served-not ys u one k z there (same ∙ ap (λ (q : WantedCircuit). q.address) (sym (some_is u w at)))
    earlier one r (suc l) w k z lt at there same = r.first l w k z (omega (arith, lt)) at there same

    go : (o : Option (WantedCircuit × ℕ)) → served ys u ≡ o → (first_served ys vs ≡ Some (v, s) → IsFirstServed ys vs v s) → first_there o (first_served ys vs) ≡ Some (v, s) → IsFirstServed ys (u ∷ vs) v s
    go (Some p) one rest is =
        let own = served-own ys u v s (one ∙ is) in
        record {
          place = 0;
          at = subst (λ (z : WantedCircuit). At (u ∷ vs) 0 z) (sym own.0) refl;
          y = own.1.0;
          there = own.1.1;
          address = own.1.2;
          first = λ l w k z lt. absurd (omega (arith, lt));
        }
    go None one rest is =
        let r : IsFirstServed ys vs v s = rest is in
        record { place = suc r.place; at = r.at; y = r.y; there = r.there; address = r.address; first = earlier one r }

pub served-none : (ys : List ServerSide) (vs : List WantedCircuit) → first_served ys vs ≡ None → (l : ℕ) (u : WantedCircuit) (y : ServerSide) (k : ℕ) → At ys k y → At vs l u → y.setting.address ≡ u.address → ⊥
served-none ys [] none l u y k there at same = absurd cc
served-none ys (v ∷ vs) none l u y k there at same = go (served ys v) refl (λ e n also. served-none ys vs e n u y k there also same) none l at
  where
    go : (o : Option (WantedCircuit × ℕ)) → served ys v ≡ o → (first_served ys vs ≡ None → (n : ℕ) → At vs n u → ⊥) → first_there o (first_served ys vs) ≡ None → (l : ℕ) → At (v ∷ vs) l u → ⊥
    go (Some p) one rest none l at = cc
    go None one rest none zero at = served-not ys v one k y there (same ∙ ap (λ (q : WantedCircuit). q.address) (sym (some_is v u at)))
    go None one rest none (suc l) at = rest none l at

-- ---- place by place

-- the circuit of one place is asked first, and then those after it
pub served-step : {X : Type 0} (ys : List ServerSide) (f : X → Option WantedCircuit) (xs : List X) (i : ℕ) (x : X) → At xs i x
    → first_served ys (filter_map f (drop i xs)) ≡ first_there (option_and_then (served ys) (option_and_then f (slice_get xs i))) (first_served ys (filter_map f (drop (i + 1) xs)))
served-step {X} ys f xs i x at =
    ap (λ (z : List X). first_served ys (filter_map f z)) (drop-next xs i x at)
    ∙ one (f x) (filter_map f (drop (i + 1) xs))
    ∙ ap (λ (o : Option X). first_there (option_and_then (served ys) (option_and_then f o)) (first_served ys (filter_map f (drop (i + 1) xs)))) (sym at)
  where
    one : (o : Option WantedCircuit) (vs : List WantedCircuit) → first_served ys (cons_option o vs) ≡ first_there (option_and_then (served ys) o) (first_served ys vs)
    one None vs = refl
    one (Some v) vs = refl
