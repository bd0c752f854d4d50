-- A world seen through its lists.
use Rattle.std.proofs.Common.{◌≡◌, ℕ, zero, suc, ◌<◌, Bool, true, false, List, [], ◌∷◌, length, get_or, refl, sym, ap, subst, ◌∙◌, arith}
use Rattle.std.specs.Prelude.{if◌then◌else◌, map, slice_set}
use Rattle.std.proofs.lemmas.List.{length-map}
use Rattle.std.proofs.lemmas.Option.{slice_get-get_or}
use Rattle.ca_text.specs.Place.{At}
use Rattle.ca_text.proofs.Places.{At-map, At-mapped, At-one, At-within, some_is}
use Rattle.ca_model.specs.History.{Entry, Line}
use Rattle.ca_model.specs.World as model
use Rattle.ca_world_data.specs.declared.client.ClientSide.{ClientSide}
use Rattle.ca_world_data.specs.declared.ends.Ends.{Ends}
use Rattle.ca_world_data.specs.declared.joined.Joined.{Joined}
use Rattle.ca_world_data.specs.declared.server.ServerSide.{ServerSide}
use Rattle.ca_world_data.specs.Ends.{AreEnds, NoEnds}
use Rattle.ca_world_data.specs.Seen.{client_of, joined_of, server_of}

-- ---- lists

pub set-map : {A B : Type 0} (f : A → B) (xs : List A) (i : ℕ) (y : A) → map f (slice_set xs i y) ≡ slice_set (map f xs) i (f y)
set-map f [] i y = refl
set-map f (x ∷ xs) zero y = refl
set-map f (x ∷ xs) (suc i) y = ap (λ (t : List _). f x ∷ t) (set-map f xs i y)

pub set-same : {A : Type 0} (xs : List A) (i : ℕ) (x : A) → At xs i x → slice_set xs i x ≡ xs
set-same [] i x at = refl
set-same (y ∷ xs) zero x at = ap (λ (z : _). z ∷ xs) (sym (some_is y x at))
set-same (y ∷ xs) (suc i) x at = ap (λ (t : List _). y ∷ t) (set-same xs i x at)

-- what an index gave
pub found : {A : Type 0} (xs : List A) (k : ℕ) (x d : A) → k < length xs → x ≡ get_or xs k d → At xs k x
found xs k x d lt e = subst (λ (z : _). At xs k z) (sym e) (slice_get-get_or xs k d lt)

-- one is at each place within
pub one-at : {A : Type 0} (xs : List A) (k : ℕ) → k < length xs → (x : A) × At xs k x
one-at [] k lt = absurd (omega (arith, lt))
one-at (x ∷ xs) zero lt = (x, refl)
one-at (x ∷ xs) (suc k) lt = one-at xs k (omega (arith, lt))

pub if-true : {A : Type 0} (b : Bool) (x y : A) → b ≡ true → (if b then x else y) ≡ x
if-true true x y e = refl
if-true false x y e = absurd cc

pub if-false : {A : Type 0} (b : Bool) (x y : A) → b ≡ false → (if b then x else y) ≡ y
if-false false x y e = refl
if-false true x y e = absurd cc

-- ---- worlds

abbrev pub world_of : List ClientSide → List ServerSide → List Joined → List (List Line) → List (List Entry) → (moment : ℕ) → model.World
world_of cs ss ks cl sl m = record {
  clients = map client_of cs;
  servers = map server_of ss;
  circuits = map joined_of ks;
  client_logs = cl;
  server_logs = sl;
  moment = m;
}

-- one server was set to one that looks the same
pub server-stays : (cs : List ClientSide) (ss : List ServerSide) (ks ks' : List Joined) (cl : List (List Line)) (sl sl' : List (List Entry)) (m i : ℕ) (y y' : ServerSide) → At ss i y → server_of y' ≡ server_of y → map joined_of ks' ≡ map joined_of ks → sl' ≡ sl
    → world_of cs (slice_set ss i y') ks' cl sl' m ≡ world_of cs ss ks cl sl m
server-stays cs ss ks ks' cl sl sl' m i y y' at is_y is_k is_l = λ t. record {
  clients = map client_of cs;
  servers = (set-map server_of ss i y' ∙ ap (slice_set (map server_of ss) i) is_y ∙ set-same (map server_of ss) i (server_of y) (At-map server_of ss i y at)) t;
  circuits = is_k t;
  client_logs = cl;
  server_logs = is_l t;
  moment = m;
}

-- the ends that were found among lists that are these
pub ends-here : (cs : List ClientSide) (ss : List ServerSide) (ks : List Joined) (xs : List ClientSide) (ys : List ServerSide) (ls : List Joined) (k : ℕ) (e : Ends) → xs ≡ cs → ys ≡ ss → ls ≡ ks → AreEnds (length xs) (length ys) ls k e → AreEnds (length cs) (length ss) ks k e
ends-here cs ss ks xs ys ls k e is_c is_s is a =
    subst (λ (z : List ClientSide × (List ServerSide × List Joined)). AreEnds (length z.0) (length z.1.0) z.1.1 k e) (λ t. (is_c t, (is_s t, is t))) a

pub no-ends-here : (cs : List ClientSide) (ss : List ServerSide) (ks : List Joined) (xs : List ClientSide) (ys : List ServerSide) (ls : List Joined) (k : ℕ) → xs ≡ cs → ys ≡ ss → ls ≡ ks → NoEnds (length xs) (length ys) ls k → NoEnds (length cs) (length ss) ks k
no-ends-here cs ss ks xs ys ls k is_c is_s is a =
    subst (λ (z : List ClientSide × (List ServerSide × List Joined)). NoEnds (length z.0) (length z.1.0) z.1.1 k) (λ t. (is_c t, (is_s t, is t))) a

-- where its client and its server are
pub ends-client : (c s : ℕ) (ks : List Joined) (k : ℕ) (e : Ends) → AreEnds c s ks k e → e.client < c
ends-client c s ks k e a = subst (λ (z : Ends). z.client < c) (sym a.is) a.client

pub ends-server : (c s : ℕ) (ks : List Joined) (k : ℕ) (e : Ends) → AreEnds c s ks k e → e.server < s
ends-server c s ks k e a = subst (λ (z : Ends). z.server < s) (sym a.is) a.server

module _ (cs : List ClientSide) (ss : List ServerSide) (ks : List Joined) (cl : List (List Line)) (sl : List (List Entry)) (m : ℕ) where
  pub joins : (k : ℕ) (j : Joined) (x : ClientSide) (y : ServerSide) → At ks k j → At cs j.client x → At ss j.server y → model.Joins (world_of cs ss ks cl sl m) k (joined_of j) (client_of x) (server_of y)
  joins k j x y at client server =
      record { at = At-map joined_of ks k j at; client = At-map client_of cs j.client x client; server = At-map server_of ss j.server y server }

  -- no ends, no circuit
  pub none-joined : (k : ℕ) → NoEnds (length cs) (length ss) ks k → (j : model.Joined) (x : model.ClientSide) (y : model.ServerSide) → model.Joins (world_of cs ss ks cl sl m) k j x y → ⊥
  none-joined k none j x y h =
      let d = At-mapped joined_of ks k j h.at in
      let client : At (map client_of cs) d.0.client x = subst (λ (z : model.Joined). At (map client_of cs) z.client x) d.2 h.client in
      let server : At (map server_of ss) d.0.server y = subst (λ (z : model.Joined). At (map server_of ss) z.server y) d.2 h.server in
      let c = At-within (map client_of cs) d.0.client x client in
      let s = At-within (map server_of ss) d.0.server y server in
      none d.0 d.1 (omega (arith, c, length-map cs client_of)) (omega (arith, s, length-map ss server_of))

  -- the circuit of a place is one
  pub same-circuit : (k : ℕ) (d : Joined) → At ks k d → (j : model.Joined) → At (map joined_of ks) k j → j ≡ joined_of d
  same-circuit k d at j h = At-one (map joined_of ks) k j (joined_of d) h (At-map joined_of ks k d at)

-- a test that did not hold
pub not-open : (b : Bool) → Rattle.std.specs.Prelude.not b ≡ true → b ≡ false
not-open true e = absurd cc
not-open false e = refl

pub is-open : (b : Bool) → Rattle.std.specs.Prelude.not b ≡ false → b ≡ true
is-open true e = refl
is-open false e = absurd cc

pub both-ways : (b : Bool) → b ≡ true → b ≡ false → ⊥
both-ways b p q = cc
