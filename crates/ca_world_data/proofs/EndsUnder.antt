-- The end that a step closed and those that ended beside it: what is told, withdrawn and closed is
-- all.
use Rattle.std.proofs.Common.{◌≡◌, ℕ, zero, suc, ◌==◌, ◌&&◌, Bool, true, false, List, [], ◌∷◌, Option, Some, None, refl, sym, ap, subst, ◌∙◌, arith}
use Rattle.std.specs.Prelude.{if◌then◌else◌, is_some, map, option_map, slice_get, slice_set, unwrap_or, Vec}
use Rattle.std.specs.declared.alloc.Global.{Global}
use Rattle.std.proofs.lemmas.Bool.{and_parts, eq-eqb, eqb-true}
use Rattle.ca_arena.specs.declared.handle.Handle.{Handle}
use Rattle.ca_ids.specs.Table.{same_handle, under}
use Rattle.ca_text.specs.Place.{At}
use Rattle.ca_text.proofs.Places.{At-mapped, some_is}
use Rattle.ca_model.specs.History.{Entry}
use Rattle.ca_model.specs.Server.{Server}
use Rattle.ca_model.specs.ServerEvents.{ending, ends_at, ends_by, left_by, reported, server_closed, withdrawals, without_puts}
use Rattle.ca_model.specs.World.{Joined, grown}
use Rattle.ca_model.specs.World as model
use Rattle.ca_model.proofs.Handles.{same-is, same-itself}
use Rattle.ca_world_data.specs.declared.server.RecordSide.{RecordSide}
use Rattle.ca_world_data.specs.declared.server.ServerSide.{ServerSide}
use Rattle.ca_world_data.specs.Reporting.{AreServed, IsServed, IsUnserved}
use Rattle.ca_world_data.specs.Seen.{record_of, server_of}
use Rattle.ca_world_data.proofs.Serving.{one-at-server}
use Rattle.ca_world_data.specs.EndsWith.{ReportsWith, closed_under, ends_under, gone_with}

-- ---- one circuit

module _ (h : Handle) (i : ℕ) where
  -- it is open at the server under the handle
  abbrev is_it : Joined → Bool
  is_it c = same_handle c.at_server h && (c.server == i && c.lists.server_open)

  is-it : (c : Joined) → c.server ≡ i → c.lists.server_open ≡ true → c.at_server ≡ h → is_it c ≡ true
  is-it c mine on here = (λ t. (ap (λ (g : Handle). same_handle g h) here ∙ same-itself h) t && (eq-eqb c.server i mine t && on t))

  it-is : (c : Joined) → is_it c ≡ true → (c.server ≡ i) × (c.lists.server_open ≡ true) × (c.at_server ≡ h)
  it-is c is =
      let a = and_parts (same_handle c.at_server h) (c.server == i && c.lists.server_open) is in
      let b = and_parts (c.server == i) c.lists.server_open a.1 in
      (eqb-true c.server i b.0, b.1, same-is c.at_server h a.0)

  module _ (left : List ℕ) where
    -- what it leaves plays no part
    one-goes : (core : Server) (c : Joined) → is_some (ends_under h left i core c) ≡ is_some (ends_under h [] i core c)
    one-goes core c = go (is_it c)
      where
        go : (b : Bool) → is_some (if b then Some left else ends_by i core c) ≡ is_some (if b then Some [] else ends_by i core c)
        go true = refl
        go false = refl

    pub all-go : (core : Server) (ks : List Joined) → ends_at (ends_under h left i core) ks ≡ gone_with (Some h) i core ks
    all-go core ks = (λ t k. unwrap_or (option_map (λ (j : Joined). one-goes core j t) (slice_get ks k)) false)

    -- a circuit that has ended does not end again
    closed-ends : (core : Server) (c : Joined) → ends_by i core (server_closed left c) ≡ None
    closed-ends core c = go (c.server == i)
      where
        go : (b : Bool) → (if b && false then left_by (under core.circuits c.at_server) else None) ≡ None
        go true = refl
        go false = refl

    abbrev ends_with : Joined → Option (List ℕ) → Joined
    ends_with c o = unwrap_or (option_map (λ (l : List ℕ). server_closed l c) o) c

    both-end : (core : Server) (c : Joined) → ending (ends_by i core) (closed_under h left i c) ≡ ending (ends_under h left i core) c
    both-end core c = go (is_it c)
      where
        go : (b : Bool) → ending (ends_by i core) (if b then server_closed left c else c) ≡ ends_with c (if b then Some left else ends_by i core c)
        go true = ap (ends_with (server_closed left c)) (closed-ends core c)
        go false = refl

    all-end : (core : Server) (ks : List Joined) → map (ending (ends_by i core)) (map (closed_under h left i) ks) ≡ map (ending (ends_under h left i core)) ks
    all-end core [] = refl
    all-end core (c ∷ ks) = (λ t. both-end core c t ∷ all-end core ks t)

    -- ---- the circuit of the handle

    still-open : (c : Joined) → (closed_under h left i c).lists.server_open ≡ true → closed_under h left i c ≡ c
    still-open c = go (is_it c)
      where
        go : (b : Bool) → (if b then server_closed left c else c).lists.server_open ≡ true → (if b then server_closed left c else c) ≡ c
        go true on = absurd cc
        go false on = refl

    -- the server finds those still that are open
    pub served-still : (numbers : List ℕ) (ks : List Joined) → AreServed numbers ks i → AreServed numbers (map (closed_under h left i) ks) i
    served-still numbers ks served k j at mine on =
        let d = At-mapped (closed_under h left i) ks k j at in
        let same : j ≡ d.0 = d.2 ∙ still-open d.0 (subst (λ (z : Joined). z.lists.server_open ≡ true) d.2 on) in
        subst (λ (z : Joined). At numbers z.at_server.index k) (sym same)
        (served k d.0 d.1 (subst (λ (z : Joined). z.server ≡ i) same mine) (subst (λ (z : Joined). z.lists.server_open ≡ true) same on))

    its-end : (c : Joined) → is_it c ≡ true → closed_under h left i c ≡ server_closed left c
    its-end c is = ap (λ (b : Bool). if b then server_closed left c else c) is

    another : (c : Joined) → (is_it c ≡ true → ⊥) → closed_under h left i c ≡ c
    another c other = go (is_it c) refl
      where
        go : (b : Bool) → is_it c ≡ b → (if b then server_closed left c else c) ≡ c
        go true is = absurd (other is)
        go false is = refl

    -- there is none
    pub closed-none : (ks : List Joined) → IsUnserved ks i h → map (closed_under h left i) ks ≡ ks
    closed-none [] none = refl
    closed-none (c ∷ ks) none =
        (λ t. another c (λ is. (let a = it-is c is in none 0 c refl a.0 a.1 a.2)) t ∷ closed-none ks (λ k j at mine on here. none (suc k) j at mine on here) t)

    -- it is the one at this place
    same-all : (ks : List Joined) → ((m : ℕ) (c : Joined) → At ks m c → is_it c ≡ true → ⊥) → map (closed_under h left i) ks ≡ ks
    same-all [] other = refl
    same-all (c ∷ ks) other = (λ t. another c (other 0 c refl) t ∷ same-all ks (λ m d at. other (suc m) d at) t)

    set-one : (ks : List Joined) (k : ℕ) (j : Joined) → At ks k j → is_it j ≡ true → ((m : ℕ) (c : Joined) → At ks m c → is_it c ≡ true → m ≡ k) → slice_set ks k (server_closed left j) ≡ map (closed_under h left i) ks
    set-one [] k j at is one = absurd cc
    set-one (c ∷ ks) zero j at is one =
        (λ t. server_closed left (sym (some_is c j at) t) ∷ ks)
        ∙ (λ t. sym (its-end c (subst (λ (z : Joined). is_it z ≡ true) (sym (some_is c j at)) is)) t ∷ sym (same-all ks (λ m d there its. absurd (omega (arith, one (suc m) d there its)))) t)
    set-one (c ∷ ks) (suc k) j at is one =
        (λ t. sym (another c (λ its. absurd (omega (arith, one 0 c refl its)))) t ∷ set-one ks k j at is (λ m d there its. less m k (one (suc m) d there its)) t)
      where
        less : (m k : ℕ) → suc m ≡ suc k → m ≡ k
        less m k e = omega (arith, e)

    pub closed-one : (numbers : List ℕ) (ks : List Joined) → AreServed numbers ks i → (k : ℕ) (s : IsServed ks i h k) → slice_set ks k (server_closed left s.j) ≡ map (closed_under h left i) ks
    closed-one numbers ks served k s =
        set-one ks k s.j s.at (is-it s.j s.mine s.is_open s.here)
        (λ m c at its. (let a = it-is c its in one-at-server numbers ks i served m k c s.j at s.at a.0 s.mine a.1 s.is_open (a.2 ∙ sym s.here)))

-- ---- all of it

pub reports-all : (h : Handle) (left : List ℕ) (i : ℕ) (y : ServerSide) (rest : Vec RecordSide Global) (core : Server) (ks mid ks' : List Joined) (logs told : List (List Entry))
    → told ≡ grown y.life (withdrawals (gone_with (Some h) i y.core ks) (map record_of y.records.items)) logs
    → map record_of rest.items ≡ map (without_puts (gone_with (Some h) i y.core ks)) (map record_of y.records.items)
    → mid ≡ map (closed_under h left i) ks → core ≡ reported y.core → ks' ≡ map (ending (ends_by i y.core)) mid
    → ReportsWith h left i y ks logs (record y { core = core; records = rest }) ks' told
reports-all h left i y rest core ks mid ks' logs told is_told kept is_mid is_core is_ks =
    let rs : List model.RecordSide = map record_of y.records.items in
    let all : gone_with (Some h) i y.core ks ≡ ends_at (ends_under h left i y.core) ks = sym (all-go h i left y.core ks) in
    let stays : map record_of rest.items ≡ map (without_puts (ends_at (ends_under h left i y.core) ks)) rs = kept ∙ ap (λ (g : ℕ → Bool). map (without_puts g) rs) all in
    record {
      side = λ t. record (server_of y) { core = is_core t; records = stays t };
      numbers = refl;
      circuits = is_ks ∙ ap (map (ending (ends_by i y.core))) is_mid ∙ all-end h i left y.core ks;
      logged = is_told ∙ ap (λ (g : ℕ → Bool). grown y.life (withdrawals g rs) logs) all;
    }
