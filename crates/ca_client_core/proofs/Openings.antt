-- A channel is opened: its CID is none that is searched for, and what is searched
-- for is a channel still.
use Rattle.std.proofs.Common.{◌≡◌, ◌≢◌, ℕ, ◌%◌, inl, inr, Bool, false, List, [], ◌∷◌, ◌++◌, length, nat_eq, Some, None, if◌then◌else◌, refl, sym, ap, ◌∙◌, subst, arith, length-append}
use Rattle.std.proofs.lemmas.Bool.{cases_eq, cases_lt, eq-eqb, ne_eqb}
use Rattle.std.proofs.lemmas.List.{get_or-set_other, get_or_append_left, get_or_past, get_or_push, get_or-set_same}
use Rattle.ca_arena.specs.declared.handle.Handle.{Handle}
use Rattle.ca_arena.specs.Arena.{Place, blank, place_at, value_for}
use Rattle.ca_arena.proofs.Places.{value_for-some}
use Rattle.ca_ids.specs.Table.{MayGive, Table, under, with_held}
use Rattle.ca_ids.specs.Wire.{wire_of}
use Rattle.ca_ids.proofs.Wires.{wire_of-index}
use Rattle.ca_search.specs.Clock.{fresh}
use Rattle.ca_search.specs.Searcher.{holds}
use Rattle.ca_search.specs.Searches as search
use Rattle.ca_model.specs.Client.{Channel, Client, Searching, later}
use Rattle.ca_model.specs.ClientCalls.{Opening, opened}
use Rattle.ca_client_tables.specs.Sound.{HasCid, IsClient}
use Rattle.ca_client_tables.proofs.Ended.{Searched}

module _ {T : Type 0} where
  -- what holds an id has an index that may not be given
  pub held-apart : (t : Table T) (q h : Handle) (v : T) → MayGive t q → under t h ≡ Some v → h.index ≢ q.index
  held-apart t q h v may found = λ same.
      let there : (place_at t h.index).value ≡ Some v = (value_for-some h.generation (place_at t h.index) v found).1 in
      let vacant : (place_at t h.index).value ≡ None = ap (λ (i : ℕ). (place_at t i).value) same ∙ may.free in
      absurd cc

  pub place-beside : (t : Table T) (q : Handle) (r : T) (i : ℕ) → MayGive t q → i ≢ q.index → place_at (with_held q r t) i ≡ place_at t i
  place-beside t q r i may other =
      let place : Place T = record { generation = q.generation; value = Some r } in
      elim (cases_eq q.index (length t)) [
        | inl last ↦
            rw (eq-eqb q.index (length t) last)
            (elim (cases_lt i (length t)) [
              | inl within ↦ get_or_append_left t (place ∷ []) blank i within
              | inr past ↦
                  get_or_past (t ++ place ∷ []) i blank (omega (arith, length-append t (place ∷ []))) ∙ sym (get_or_past t i blank past)
            ])
        | inr no_last ↦ rw (ne_eqb q.index (length t) no_last) (get_or-set_other t q.index i place blank other)
      ]

  pub place-held : (t : Table T) (q : Handle) (r : T) → MayGive t q → place_at (with_held q r t) q.index ≡ record { generation = q.generation; value = Some r }
  place-held t q r may =
      let place : Place T = record { generation = q.generation; value = Some r } in
      elim (cases_eq q.index (length t)) [
        | inl last ↦ rw (eq-eqb q.index (length t) last) (get_or_push t place blank q.index (sym last))
        | inr other ↦ rw (ne_eqb q.index (length t) other) (get_or-set_same t q.index place blank (omega (arith, may.index)))
      ]

  pub still-held : (t : Table T) (q h : Handle) (r v : T) → MayGive t q → under t h ≡ Some v → under (with_held q r t) h ≡ Some v
  still-held t q h r v may found =
      ap (value_for h.generation) (place-beside t q r h.index may (held-apart t q h v may found)) ∙ found

  pub now-held : (t : Table T) (q : Handle) (r : T) → MayGive t q → under (with_held q r t) q ≡ Some r
  now-held t q r may =
      ap (value_for q.generation) (place-held t q r may) ∙ ap (λ (b : Bool). if b then Some r else None) (eq-eqb q.generation q.generation refl)

other-cid : (t : Table Channel) (q : Handle) (cid : ℕ) → MayGive t q → HasCid t cid → nat_eq (wire_of q) cid ≡ false
other-cid t q cid may has =
    ne_eqb (wire_of q) cid (λ same.
    let indexes : q.index ≡ has.handle.index =
    sym (wire_of-index q may.slot) ∙ ap (λ (n : ℕ). n % 65536) (same ∙ sym has.wire) ∙ wire_of-index has.handle has.slot in
    absurd (held-apart t q has.handle has.channel may has.found (sym indexes)))

pub searched-fresh : (t : Table Channel) (es : List (ℕ × search.Channel)) (q : Handle) → MayGive t q → Searched t es → holds (wire_of q) es ≡ false
searched-fresh t [] q may all = refl
searched-fresh t (e ∷ es) q may all = rw (other-cid t q e.0 may all.0) (searched-fresh t es q may all.1)

searched-held : (t : Table Channel) (es : List (ℕ × search.Channel)) (q : Handle) (r : Channel) → MayGive t q → Searched t es → Searched (with_held q r t) es
searched-held t [] q r may all = tt
searched-held t (e ∷ es) q r may all =
    let has = all.0 in (
      record {
        handle = has.handle;
        channel = has.channel;
        found = still-held t q has.handle r has.channel may has.found;
        slot = has.slot;
        wire = has.wire;
      },
      searched-held t es q r may all.1,
    )

searched-push : (t : Table Channel) (es : List (ℕ × search.Channel)) (e : ℕ × search.Channel) → Searched t es → HasCid t e.0 → Searched t (es ++ e ∷ [])
searched-push t [] e all last = (last, tt)
searched-push t (d ∷ es) e all last = (all.0, searched-push t es e all.1 last)

pub client-opened : (t u : Table Channel) (es ns : List (ℕ × search.Channel)) (q : Handle) (r : Channel) (place : search.Channel) → MayGive t q → u ≡ with_held q r t → ns ≡ es ++ (wire_of q, place) ∷ [] → IsClient t es → IsClient u ns
client-opened t u es ns q r place may is more old =
    let last : HasCid (with_held q r t) (wire_of q) =
    record { handle = q; channel = r; found = now-held t q r may; slot = may.slot; wire = refl } in
    let all : Searched (with_held q r t) (es ++ (wire_of q, place) ∷ []) =
    searched-push (with_held q r t) es (wire_of q, place) (searched-held t es q r may old.searched) last in
    subst (λ (w : Table Channel). IsClient w ns) (sym is) (subst (λ (xs : List (ℕ × search.Channel)). IsClient (with_held q r t) xs) (sym more) (record { searched = all }))

-- the client with this channel, part by part
pub opened-is : (x : Client) (a : Opening) (q : Handle) (moment : ℕ) (channels : Table Channel) (searches : List (ℕ × search.Channel)) → moment ≡ later a.now x → channels ≡ with_held q (record { name = a.name; priority = a.priority; standing = Searching }) x.channels → searches ≡ x.searches ++ (wire_of q, record { name = a.name; clock = Some (fresh moment) }) ∷ [] → ◌≡◌ {A = Client} (record x { moment = moment; channels = channels; searches = searches }) (opened a q x)
opened-is x a q moment channels searches m c s = rw (s, c, m) refl
