-- The end of one circuit at its server has ended, for whatever cause, and is
-- reported: no other ends.
use Rattle.std.proofs.Common.{◌≡◌, ℕ, zero, suc, ◌≤◌, ◌==◌, ◌&&◌, inl, inr, Bool, true, false, not, List, [], ◌∷◌, Option, Some, None, length, refl, sym, ap, subst, ◌∙◌, arith}
use Rattle.std.specs.Prelude.{if◌then◌else◌, is_some, map, option_map, slice_get, slice_set, unwrap_or}
use Rattle.std.proofs.lemmas.Bool.{and_from, and_parts, eq-eqb, eqb-true}
use Rattle.ca_arena.specs.declared.handle.Handle.{Handle}
use Rattle.ca_arena.specs.Arena.{Place}
use Rattle.ca_ids.specs.Table.{Table, kept_of, under, with_all_freed, with_changed, with_freed}
use Rattle.ca_model.proofs.Placed.{under-other}
use Rattle.ca_model.proofs.Tables.{under-at}
use Rattle.ca_queue.proofs.Circuits.{filter-twice, set-twice}
use Rattle.ca_records.specs.declared.puts.Put.{Put}
use Rattle.ca_records.specs.Puts.{Record, WaitingPut, withdrawn}
use Rattle.ca_text.specs.Place.{At}
use Rattle.ca_text.proofs.Places.{At-or, some_is}
use Rattle.ca_model.specs.Ends as why
use Rattle.ca_model.specs.Server.{Ended, Open, Server, ServerCircuit, ServerEnd}
use Rattle.ca_model.specs.ServerSteps.{HasEnd, closed, ended}
use Rattle.ca_model.specs.ServerEvents.{ending, ends_at, ends_by, left_by, reported, server_closed}
use Rattle.ca_model.specs.World as model
use Rattle.ca_laws_parts.proofs.ServerEnds.{ended-own}
use Rattle.ca_world.specs.Reported.{HasReported, IsReportedTable}
use Rattle.ca_world_data.proofs.Worlds.{set-map}

-- ---- what a core reports

pub none-under : (t : Table ServerCircuit) (g : Handle) → IsReportedTable t → left_by (under t g) ≡ None
none-under t g all = go (under t g) refl
  where
    go : (o : Option ServerCircuit) → under t g ≡ o → left_by o ≡ None
    go None is = refl
    go (Some v) is = all g.index (record { generation = g.generation; value = Some v }) (under-at t g v is)

kept-all : (o : Option ServerCircuit) → left_by o ≡ None → kept_of (λ (c : ServerCircuit). is_some (left_by (Some c))) o ≡ o
kept-all None none = refl
kept-all (Some (Open e)) none = refl
kept-all (Some (Ended w left)) none = absurd cc

-- a table that has reported all keeps all
pub freed-none : (t : Table ServerCircuit) → IsReportedTable t → with_all_freed (λ (c : ServerCircuit). is_some (left_by (Some c))) t ≡ t
freed-none [] all = refl
freed-none (p ∷ t) all =
    (λ i. record { generation = p.generation; value = kept-all p.value (all 0 p refl) i } ∷ freed-none t (λ n q at. all (suc n) q at) i)

-- the one end that ended is reported
freed-one : (t : Table ServerCircuit) (h : Handle) (e : ServerEnd) (w : why.Why) (left : List ℕ) → under t h ≡ Some (Open e) → IsReportedTable t
    → let over : Table ServerCircuit = with_changed (λ (c : ServerCircuit). Ended w left) h t in
    under over h ≡ Some (Ended w left) → with_freed h over ≡ with_all_freed (λ (c : ServerCircuit). is_some (left_by (Some c))) over
freed-one t h e w left has all there =
    let over : Table ServerCircuit = with_changed (λ (c : ServerCircuit). Ended w left) h t in
    let frees : ServerCircuit → Bool = λ (c : ServerCircuit). is_some (left_by (Some c)) in
    let gone : Place ServerCircuit = record { generation = h.generation; value = Some (Ended w left) } in
    let free : Place ServerCircuit = record { generation = h.generation; value = None } in
    let is : over ≡ slice_set t h.index gone =
    (λ i. if is_some (has i) then slice_set t h.index (record { generation = h.generation; value = option_map (λ (c : ServerCircuit). Ended w left) (has i) }) else t) in
    let here : with_freed h over ≡ slice_set over h.index free = (λ i. if is_some (there i) then slice_set over h.index free else over) in
    let all_there : with_all_freed frees (slice_set t h.index gone) ≡ slice_set (with_all_freed frees t) h.index free =
    set-map (λ (p : Place ServerCircuit). record p { value = kept_of frees p.value }) t h.index gone in
    here ∙ ap (λ (z : Table ServerCircuit). slice_set z h.index free) is ∙ set-twice t h.index gone free
    ∙ sym (ap (with_all_freed frees) is ∙ all_there ∙ ap (λ (z : Table ServerCircuit). slice_set z h.index free) (freed-none t all))

withdrawn-twice : (test : Put → Bool) (rs : List Record) → withdrawn test (withdrawn test rs) ≡ withdrawn test rs
withdrawn-twice test [] = refl
withdrawn-twice test (r ∷ rs) =
    (λ i. record r { waiting = filter-twice (λ (p : WaitingPut). not (test p.put)) r.waiting i } ∷ withdrawn-twice test rs i)

-- what the step leaves is the core that has reported
pub over-reports : (y : Server) (h : Handle) (e : ServerEnd) (cause : why.Why) (left : List ℕ) → HasEnd y h e → HasReported y → closed h (ended h cause left y) ≡ reported (ended h cause left y)
over-reports y h e cause left has all =
    let over : Server = ended h cause left y in
    let tables = freed-one y.circuits h e cause left has all (ended-own h cause left y e has) in
    let records = withdrawn-twice (λ (p : Put). Rattle.ca_ids.specs.Table.same_handle p.circuit h) y.records in
    (λ i. record over { circuits = tables i; records = records i })

-- ---- which circuits end

-- of all circuits it is this one
module _ (ks : List model.Joined) (k i : ℕ) (j : model.Joined) (y : Server) (e : ServerEnd) (cause : why.Why) (left : List ℕ) (at : At ks k j) (mine : j.server ≡ i) (on : j.lists.server_open ≡ true) (has : HasEnd y j.at_server e) (all : HasReported y)
    (one : (n : ℕ) (c : model.Joined) → At ks n c → c.server ≡ i → c.lists.server_open ≡ true → c.at_server ≡ j.at_server → n ≡ k) where
  abbrev over : Server
  over = ended j.at_server cause left y

  ends-own : ends_by i over j ≡ Some left
  ends-own =
      let b : (j.server == i && j.lists.server_open) ≡ true = and_from (j.server == i) j.lists.server_open (eq-eqb j.server i mine) on in
      (λ t. if b t then left_by (under over.circuits j.at_server) else None) ∙ ap left_by (ended-own j.at_server cause left y e has)

  ends-other : (n : ℕ) (c : model.Joined) → At ks n c → (n ≡ k → ⊥) → ends_by i over c ≡ None
  ends-other n c there other = go (c.server == i && c.lists.server_open) refl
    where
      go : (b : Bool) → (c.server == i && c.lists.server_open) ≡ b → (if b then left_by (under over.circuits c.at_server) else None) ≡ None
      go false is = refl
      go true is =
          let both = and_parts (c.server == i) c.lists.server_open is in
          let differs : c.at_server ≡ j.at_server → ⊥ = λ same. other (one n c there (eqb-true c.server i both.0) both.1 same) in
          ap left_by (under-other (λ (z : ServerCircuit). Ended cause left) y.circuits j.at_server c.at_server differs) ∙ none-under y.circuits c.at_server all

  -- its circuit alone has ended
  pub ends-this : map (ending (ends_by i over)) ks ≡ slice_set ks k (server_closed left j)
  ends-this =
      map-one (ending (ends_by i over)) ks k j at (λ n c there other. ap (λ (o : Option (List ℕ)). unwrap_or (option_map (λ (l : List ℕ). server_closed l c) o) c) (ends-other n c there other))
      ∙ ap (λ (o : Option (List ℕ)). slice_set ks k (unwrap_or (option_map (λ (l : List ℕ). server_closed l j) o) j)) ends-own
    where
      map-one : (f : model.Joined → model.Joined) (ks : List model.Joined) (k : ℕ) (j : model.Joined) → At ks k j → ((n : ℕ) (c : model.Joined) → At ks n c → (n ≡ k → ⊥) → f c ≡ c) → map f ks ≡ slice_set ks k (f j)
      map-one f [] k j at same = absurd cc
      map-one f (z ∷ ks) zero j at same = (λ t. f (some_is z j at t) ∷ rest ks (λ n c there. same (suc n) c there (λ e. absurd cc)) t)
        where
          rest : (ks : List model.Joined) → ((n : ℕ) (c : model.Joined) → At ks n c → f c ≡ c) → map f ks ≡ ks
          rest [] same = refl
          rest (c ∷ ks) same = (λ t. same 0 c refl t ∷ rest ks (λ n d there. same (suc n) d there) t)
      map-one f (z ∷ ks) (suc k) j at same =
          (λ t. same 0 z refl (λ e. absurd cc) t ∷ map-one f ks k j at (λ n c there other. same (suc n) c there (λ e. other (pred-is n k e))) t)
        where
          pred-is : (n k : ℕ) → suc n ≡ suc k → n ≡ k
          pred-is n k e = omega (arith, e)

  -- as a test of numbers
  pub ends-number : ends_at (ends_by i over) ks ≡ (λ (n : ℕ). n == k)
  ends-number = (λ t n. each n t)
    where
      each : (n : ℕ) → ends_at (ends_by i over) ks n ≡ (n == k)
      each n = go (n == k) refl
        where
          go : (b : Bool) → (n == k) ≡ b → ends_at (ends_by i over) ks n ≡ b
          go true is =
              let here : At ks n j = subst (λ (z : ℕ). At ks z j) (sym (eqb-true n k is)) at in
              ap (λ (o : Option model.Joined). unwrap_or (option_map (λ (c : model.Joined). is_some (ends_by i over c)) o) false) here ∙ ap is_some ends-own
          go false is =
              let other : n ≡ k → ⊥ = λ same. (let yes_it : (n == k) ≡ true = eq-eqb n k same in cc) in
              elim (At-or ks n) [
                | inl there ↦
                    ap (λ (o : Option model.Joined). unwrap_or (option_map (λ (c : model.Joined). is_some (ends_by i over c)) o) false) there.1
                    ∙ ap is_some (ends-other n there.0 there.1 other)
                | inr past ↦ ap (λ (o : Option model.Joined). unwrap_or (option_map (λ (c : model.Joined). is_some (ends_by i over c)) o) false) (nothing ks n past)
              ]
            where
              nothing : (ks : List model.Joined) (n : ℕ) → length ks ≤ n → slice_get ks n ≡ None
              nothing [] n le = refl
              nothing (z ∷ ks) zero le = absurd (omega (arith, le))
              nothing (z ∷ ks) (suc n) le = nothing ks n (omega (arith, le))
