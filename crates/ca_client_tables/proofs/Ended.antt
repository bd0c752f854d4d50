-- The channels of a circuit that has ended: what becomes of each, and of all of them.
use Rattle.std.proofs.Common.{◌≡◌, ◌≢◌, ℕ, ◌+◌, inl, inr, Bool, true, false, not, nat_eq, List, [], ◌∷◌, ◌++◌, Option, Some, None, map, filter_map, fold, if◌then◌else◌, option_and_then, option_map, option_to_list, refl, sym, ap, ◌∙◌, subst, slice_set, unwrap_or}
use Rattle.std.proofs.lemmas.Bool.{cases_eq, eq-eqb}
use Rattle.std.proofs.lemmas.List.{get_or-set_other}
use Rattle.std.proofs.lemmas.List.Elements.{filter_map-append}
use Rattle.ca_arena.specs.declared.handle.Handle.{Handle}
use Rattle.ca_arena.specs.Arena.{Place, blank, place_at, value_for}
use Rattle.ca_arena.proofs.Places.{value_for-some}
use Rattle.ca_ids.specs.Table.{Table, held_at, held_from, same_handle, under, with_changed, with_freed}
use Rattle.ca_ids.specs.Walks.{with_place}
use Rattle.ca_ids.specs.Wire.{wire_of}
use Rattle.ca_ids.proofs.Changes.{changed-at, freed-at, held-parts, left-at, vacant-at}
use Rattle.ca_search.specs.Searcher.{holds, with_one, without}
use Rattle.ca_search.specs.Searches as search
use Rattle.ca_model.specs.Client.{Channel, Client, ClientCircuit, Connection, On, Phase, Searching, Standing, channels_ended, disconnected, ended, is_cleared, is_on_in, let_go, out_bytes, phase_on, searched_again, without_channel, without_circuit, without_ids}
use Rattle.ca_client_tables.specs.Ending.{Sought, StepsAll, StepsAt, again, back_at, gone, gone_at, is_kept, named_by, named_in, sought}
use Rattle.ca_client_tables.specs.Sound.{HasCid, IsClient}
use Rattle.ca_client_tables.proofs.Circuits.{changed-found, found-changed}
use Rattle.ca_requests.proofs.Tables.{true_or_false}
use Rattle.std.specs.List.{AllByRecursion}

-- none of the CIDs that are searched for
abbrev pub Searched : Table Channel → List (ℕ × search.Channel) → Type 0
Searched t es = AllByRecursion (λ (e : ℕ × search.Channel). HasCid t e.0) es

-- ---- one of them

-- what the test names of what is at a place
abbrev pub named_of : (Phase → Bool) → Handle → Option (Handle × Channel) → List Handle
named_of test c o = filter_map (named_by test c) (option_to_list o)

pub named-not : (test : Phase → Bool) (c h : Handle) (v : Channel) → is_on_in test c v ≡ false → named_of test c (Some (h, v)) ≡ []
named-not test c h v other = rw other refl

pub named-yes : (test : Phase → Bool) (c h : Handle) (v : Channel) → is_on_in test c v ≡ true → named_of test c (Some (h, v)) ≡ h ∷ []
named-yes test c h v named = rw named refl

module _ (f : Sought → Handle → Sought) (test : Phase → Bool) (g : Option Channel → Option Channel) (c : Handle) where
  -- a place at which no id is held
  pub steps-vacant : (i : ℕ) (s : Sought) → g None ≡ None → held_at i (place_at s.channels i) ≡ None → StepsAt f test g c i s s
  steps-vacant i s none at = record {
    folds = ap (λ (o : Option (Handle × Channel)). fold f s (named_of test c o)) (sym at);
    walks = vacant-at s.channels i g none at;
  }

  -- one that the test does not name
  pub steps-left : (i : ℕ) (s : Sought) (h : Handle) (v : Channel) → is_on_in test c v ≡ false → g (Some v) ≡ Some v → held_at i (place_at s.channels i) ≡ Some (h, v) → StepsAt f test g c i s s
  steps-left i s h v other same at = record {
    folds =
        ap (λ (hs : List Handle). fold f s hs) (sym (named-not test c h v other))
        ∙ ap (λ (o : Option (Handle × Channel)). fold f s (named_of test c o)) (sym at);
    walks = left-at s.channels i g h v same at;
  }

  -- one that it names
  pub steps-taken : (i : ℕ) (s n : Sought) (h : Handle) (v : Channel) → is_on_in test c v ≡ true → held_at i (place_at s.channels i) ≡ Some (h, v) → n ≡ f s h → (f s h).channels ≡ with_place i (λ (p : Place Channel). record p { value = g p.value }) s.channels → StepsAt f test g c i s n
  steps-taken i s n h v named at is walks = record {
    folds =
        is
        ∙ ap (λ (hs : List Handle). fold f s hs) (sym (named-yes test c h v named))
        ∙ ap (λ (o : Option (Handle × Channel)). fold f s (named_of test c o)) (sym at);
    walks = ap (λ (z : Sought). z.channels) is ∙ walks;
  }

pub under-at : (t : Table Channel) (i : ℕ) (h : Handle) (v : Channel) → held_at i (place_at t i) ≡ Some (h, v) → under t h ≡ Some v
under-at t i h v at =
    let parts = held-parts i (place_at t i).generation (place_at t i).value h v at in
    subst (λ (k : Handle). under t k ≡ Some v) (sym parts.0)
    (ap (λ (b : Bool). if b then (place_at t i).value else None) (eq-eqb (place_at t i).generation (place_at t i).generation refl) ∙ parts.1)

-- ---- those that were cleared

pub let-go : (c : Handle) (i : ℕ) (t u : Table Channel) (es ns : List (ℕ × search.Channel)) (h : Handle) (v : Channel) → is_on_in is_cleared c v ≡ true → held_at i (place_at t i) ≡ Some (h, v) → u ≡ with_freed h t → ns ≡ without (wire_of h) es → StepsAt gone is_cleared (gone_at c) c i (sought t es) (sought u ns)
let-go c i t u es ns h v named at free out =
    let goes : gone_at c (Some v) ≡ None = rw named refl in
    steps-taken gone is_cleared (gone_at c) c i (sought t es) (sought u ns) h v named at
    (ap (λ (w : Table Channel). sought w ns) free ∙ ap (λ (ms : List (ℕ × search.Channel)). sought (with_freed h t) ms) out)
    (freed-at t i (gone_at c) h v goes at)

pub let-stay : (c : Handle) (i : ℕ) (s : Sought) (h : Handle) (v : Channel) → is_on_in is_cleared c v ≡ false → held_at i (place_at s.channels i) ≡ Some (h, v) → StepsAt gone is_cleared (gone_at c) c i s s
let-stay c i s h v other at =
    let stays : gone_at c (Some v) ≡ Some v = rw other refl in
    steps-left gone is_cleared (gone_at c) c i s h v other stays at

-- ---- the others

pub come-back : (c : Handle) (moment i : ℕ) (t u : Table Channel) (es ns : List (ℕ × search.Channel)) (h : Handle) (v : Channel) → is_on_in is_kept c v ≡ true → held_at i (place_at t i) ≡ Some (h, v) → u ≡ with_changed (λ (here : Channel). record here { standing = Searching }) h t → ns ≡ with_one (search.resumed moment) (wire_of h) es → StepsAt (again moment) is_kept (back_at c) c i (sought t es) (sought u ns)
come-back c moment i t u es ns h v named at changed begins =
    let f : Channel → Channel = λ (here : Channel). record here { standing = Searching } in
    let comes : back_at c (Some v) ≡ Some (f v) = rw named refl in
    steps-taken (again moment) is_kept (back_at c) c i (sought t es) (sought u ns) h v named at
    (ap (λ (w : Table Channel). sought w ns) changed ∙ ap (λ (ms : List (ℕ × search.Channel)). sought (with_changed f h t) ms) begins)
    (changed-at t i f (back_at c) h v comes at)

pub keep-away : (c : Handle) (moment i : ℕ) (s : Sought) (h : Handle) (v : Channel) → is_on_in is_kept c v ≡ false → held_at i (place_at s.channels i) ≡ Some (h, v) → StepsAt (again moment) is_kept (back_at c) c i s s
keep-away c moment i s h v other at =
    let stays : back_at c (Some v) ≡ Some v = rw other refl in
    steps-left (again moment) is_kept (back_at c) c i s h v other stays at

-- ---- what is searched for is a channel still

-- two that are held at one index are one
one-there : (t : Table Channel) (h g : Handle) (v w : Channel) → under t h ≡ Some v → under t g ≡ Some w → g.index ≡ h.index → g ≡ h
one-there t h g v w found also same =
    let at_h : (place_at t h.index).generation ≡ h.generation = (value_for-some h.generation (place_at t h.index) v found).0 in
    let at_g : (place_at t g.index).generation ≡ g.generation = (value_for-some g.generation (place_at t g.index) w also).0 in
    let gens : g.generation ≡ h.generation = sym at_g ∙ ap (λ (i : ℕ). (place_at t i).generation) same ∙ at_h in
    ap (λ (n : ℕ). let k : Handle = record { index = n; generation = g.generation } in k) same
    ∙ ap (λ (n : ℕ). let k : Handle = record { index = h.index; generation = n } in k) gens

freed-beside : (t : Table Channel) (h g : Handle) (v : Channel) → under t h ≡ Some v → g.index ≢ h.index → under (with_freed h t) g ≡ under t g
freed-beside t h g v found other =
    let place : Place Channel = record { generation = h.generation; value = None } in
    let is : with_freed h t ≡ slice_set t h.index place = rw found refl in
    ap (λ (u : Table Channel). under u g) is ∙ ap (value_for g.generation) (get_or-set_other t h.index g.index place blank other)

changed-beside : (t : Table Channel) (f : Channel → Channel) (h g : Handle) (v : Channel) → under t h ≡ Some v → g.index ≢ h.index → under (with_changed f h t) g ≡ under t g
changed-beside t f h g v found other =
    let place : Place Channel = record { generation = h.generation; value = Some (f v) } in
    ap (λ (u : Table Channel). under u g) (changed-found t f h v found) ∙ ap (value_for g.generation) (get_or-set_other t h.index g.index place blank other)

has-freed : (t : Table Channel) (h : Handle) (v : Channel) (cid : ℕ) → under t h ≡ Some v → HasCid t cid → nat_eq (wire_of h) cid ≡ false → HasCid (with_freed h t) cid
has-freed t h v cid found has other =
    elim (cases_eq has.handle.index h.index) [
      | inl here ↦
          let is : has.handle ≡ h = one-there t h has.handle v has.channel found has.found here in
          let bad : nat_eq (wire_of h) cid ≡ true = eq-eqb (wire_of h) cid (sym (ap wire_of is) ∙ has.wire) in
          absurd cc
      | inr apart ↦ record {
        handle = has.handle;
        channel = has.channel;
        found = freed-beside t h has.handle v found apart ∙ has.found;
        slot = has.slot;
        wire = has.wire;
      }
    ]

has-changed : (t : Table Channel) (f : Channel → Channel) (h : Handle) (v : Channel) (cid : ℕ) → under t h ≡ Some v → HasCid t cid → HasCid (with_changed f h t) cid
has-changed t f h v cid found has =
    elim (cases_eq has.handle.index h.index) [
      | inl here ↦
          let is : has.handle ≡ h = one-there t h has.handle v has.channel found has.found here in
          record {
            handle = has.handle;
            channel = f v;
            found = ap (λ (k : Handle). under (with_changed f h t) k) is ∙ found-changed t f h v found;
            slot = has.slot;
            wire = has.wire;
          }
      | inr apart ↦ record {
        handle = has.handle;
        channel = has.channel;
        found = changed-beside t f h has.handle v found apart ∙ has.found;
        slot = has.slot;
        wire = has.wire;
      }
    ]

searched-without : (t : Table Channel) (cid : ℕ) (es : List (ℕ × search.Channel)) → Searched t es → Searched t (without cid es)
searched-without t cid [] all = tt
searched-without t cid (e ∷ es) all =
    elim (true_or_false (nat_eq cid e.0)) [
      | inl here ↦ rw here all.1
      | inr other ↦ rw other (all.0, searched-without t cid es all.1)
    ]

searched-freed : (t : Table Channel) (h : Handle) (v : Channel) (es : List (ℕ × search.Channel)) → under t h ≡ Some v → holds (wire_of h) es ≡ false → Searched t es → Searched (with_freed h t) es
searched-freed t h v [] found none all = tt
searched-freed t h v (e ∷ es) found none all =
    elim (true_or_false (nat_eq (wire_of h) e.0)) [
      | inl here ↦
          let bad : true ≡ false = rw here at none in
          absurd cc
      | inr other ↦
          let rest : holds (wire_of h) es ≡ false = rw other at none in
          (has-freed t h v e.0 found all.0 other, searched-freed t h v es found rest all.1)
    ]

searched-one : (t : Table Channel) (g : search.Channel → search.Channel) (cid : ℕ) (es : List (ℕ × search.Channel)) → Searched t es → Searched t (with_one g cid es)
searched-one t g cid [] all = tt
searched-one t g cid (e ∷ es) all =
    elim (true_or_false (nat_eq cid e.0)) [
      | inl here ↦ rw here all
      | inr other ↦ rw other (all.0, searched-one t g cid es all.1)
    ]

searched-changed : (t : Table Channel) (f : Channel → Channel) (h : Handle) (v : Channel) (es : List (ℕ × search.Channel)) → under t h ≡ Some v → Searched t es → Searched (with_changed f h t) es
searched-changed t f h v [] found all = tt
searched-changed t f h v (e ∷ es) found all = (has-changed t f h v e.0 found all.0, searched-changed t f h v es found all.1)

pub client-freed : (t u : Table Channel) (es ns : List (ℕ × search.Channel)) (h : Handle) (v : Channel) → under t h ≡ Some v → u ≡ with_freed h t → ns ≡ without (wire_of h) es → holds (wire_of h) ns ≡ false → IsClient t es → IsClient u ns
client-freed t u es ns h v found free out none old =
    let kept : Searched t ns = subst (λ (ms : List (ℕ × search.Channel)). Searched t ms) (sym out) (searched-without t (wire_of h) es old.searched) in
    record { searched = subst (λ (w : Table Channel). Searched w ns) (sym free) (searched-freed t h v ns found none kept) }

pub client-changed : (t u : Table Channel) (es ns : List (ℕ × search.Channel)) (f : Channel → Channel) (g : search.Channel → search.Channel) (h : Handle) (v : Channel) → under t h ≡ Some v → u ≡ with_changed f h t → ns ≡ with_one g (wire_of h) es → IsClient t es → IsClient u ns
client-changed t u es ns f g h v found changed begins old =
    let kept : Searched t ns = subst (λ (ms : List (ℕ × search.Channel)). Searched t ms) (sym begins) (searched-one t g (wire_of h) es old.searched) in
    record { searched = subst (λ (w : Table Channel). Searched w ns) (sym changed) (searched-changed t f h v ns found kept) }

-- ---- the whole client

-- the client with these channels, and what is searched of them
abbrev pub with_sought : Client → Sought → Client
with_sought x s = record x { channels = s.channels; searches = s.searches }

pub fold-gone : (x : Client) (hs : List Handle) → fold without_channel x hs ≡ with_sought x (fold gone (sought x.channels x.searches) hs)
fold-gone x [] = refl
fold-gone x (h ∷ hs) = fold-gone (without_channel x h) hs

pub fold-again : (x : Client) (hs : List Handle) → fold searched_again x hs ≡ with_sought x (fold (again x.moment) (sought x.channels x.searches) hs)
fold-again x [] = refl
fold-again x (h ∷ hs) = fold-again (searched_again x h) hs

not-kept : (c : Handle) (s : Standing) → unwrap_or (option_map is_cleared (phase_on c s)) false ≡ true → unwrap_or (option_map is_kept (phase_on c s)) false ≡ false
not-kept c Searching h =
    let bad : false ≡ true = h in
    absurd cc
not-kept c (On d p) h = by_test (same_handle d c) h
  where
    by_test : (b : Bool) → unwrap_or (option_map is_cleared (if b then Some p else None)) false ≡ true → unwrap_or (option_map is_kept (if b then Some p else None)) false ≡ false
    by_test true cleared = ap not cleared
    by_test false cleared =
        let bad : false ≡ true = cleared in
        absurd cc

-- of those that went none is named after
kept-at : (c : Handle) (i generation : ℕ) (o : Option Channel) → named_of is_kept c (held_at i (record { generation = generation; value = gone_at c o })) ≡ named_of is_kept c (held_at i (record { generation = generation; value = o }))
kept-at c i generation None = refl
kept-at c i generation (Some v) =
    let h : Handle = record { index = i; generation = generation } in
    elim (true_or_false (is_on_in is_cleared c v)) [
      | inl cleared ↦
          let goes : gone_at c (Some v) ≡ None = rw cleared refl in
          ap (λ (o : Option Channel). named_of is_kept c (held_at i (record { generation = generation; value = o }))) goes
          ∙ sym (named-not is_kept c h v (not-kept c v.standing cleared))
      | inr other ↦
          let stays : gone_at c (Some v) ≡ Some v = rw other refl in
          ap (λ (o : Option Channel). named_of is_kept c (held_at i (record { generation = generation; value = o }))) stays
    ]

kept-from : (c : Handle) (i : ℕ) (t : Table Channel) → filter_map (named_by is_kept c) (held_from i (map (λ (p : Place Channel). record p { value = gone_at c p.value }) t)) ≡ filter_map (named_by is_kept c) (held_from i t)
kept-from c i [] = refl
kept-from c i (p ∷ t) =
    let f : Place Channel → Place Channel = λ (q : Place Channel). record q { value = gone_at c q.value } in
    let n = named_by is_kept c in
    filter_map-append n (option_to_list (held_at i (f p))) (held_from (i + 1) (map f t))
    ∙ ap (λ (hs : List Handle). hs ++ filter_map n (held_from (i + 1) (map f t))) (kept-at c i p.generation p.value)
    ∙ ap (λ (hs : List Handle). named_of is_kept c (held_at i p) ++ hs) (kept-from c (i + 1) t)
    ∙ sym (filter_map-append n (option_to_list (held_at i p)) (held_from (i + 1) t))

pub all-ended : (c : Handle) (x : Client) (s n : Sought) → StepsAll gone is_cleared (gone_at c) c (sought x.channels x.searches) s → StepsAll (again x.moment) is_kept (back_at c) c s n → with_sought x n ≡ channels_ended c x
all-ended c x s n first next =
    let a = named_in is_cleared c x.channels in
    let b = named_in is_kept c x.channels in
    let same : named_in is_kept c s.channels ≡ b = ap (λ (t : Table Channel). named_in is_kept c t) first.walks ∙ kept-from c 0 x.channels in
    let y : Client = with_sought x s in
    let one : fold without_channel x a ≡ y = fold-gone x a ∙ ap (λ (z : Sought). with_sought x z) (sym first.folds) in
    let two : n ≡ fold (again x.moment) s b = next.folds ∙ ap (λ (hs : List Handle). fold (again x.moment) s hs) same in
    ap (λ (z : Sought). with_sought x z) two
    ∙ sym (fold-again y b)
    ∙ ap (λ (z : Client). fold searched_again z b) (sym one)

-- ---- the circuit

circuits-stay : (c : Handle) (x : Client) → (channels_ended c x).circuits ≡ x.circuits
circuits-stay c x =
    let a = named_in is_cleared c x.channels in
    let b = named_in is_kept c x.channels in
    ap (λ (y : Client). y.circuits) (fold-again (fold without_channel x a) b) ∙ ap (λ (y : Client). y.circuits) (fold-gone x a)

pub left-there : (c : Handle) (x : Client) → out_bytes (channels_ended c (without_ids c x)) c ≡ out_bytes x c
left-there c x =
    ap (λ (t : Table ClientCircuit). let bytes : List ℕ = unwrap_or (option_map (λ (e : Connection). e.link.output) (option_and_then (λ (d : ClientCircuit). d.connection) (under t c))) [] in bytes)
    (circuits-stay c (without_ids c x))

pub ended-found : (c : Handle) (x y : Client) (d : ClientCircuit) → under x.circuits c ≡ Some d → y ≡ (if d.is_name then disconnected c (channels_ended c (without_ids c x)) else without_circuit c (channels_ended c (without_ids c x))) → y ≡ ended c x
ended-found c x y d found is =
    is ∙ sym (ap (λ (o : Option ClientCircuit). unwrap_or (option_map (λ (e : ClientCircuit). let_go c e (channels_ended c (without_ids c x))) o) x) found)

-- ---- one channel, whether it is there or not

pub client-standing : (t u : Table Channel) (es : List (ℕ × search.Channel)) (f : Channel → Channel) (h : Handle) → u ≡ with_changed f h t → IsClient t es → IsClient u es
client-standing t u es f h is old = by_value (under t h) refl
  where
    by_value : (o : Option Channel) → under t h ≡ o → IsClient u es
    by_value None none =
        let same : with_changed f h t ≡ t = rw none refl in
        subst (λ (w : Table Channel). IsClient w es) (sym (is ∙ same)) old
    by_value (Some v) found = record { searched = subst (λ (w : Table Channel). Searched w es) (sym is) (searched-changed t f h v es found old.searched) }

pub client-again : (t u : Table Channel) (es ns : List (ℕ × search.Channel)) (f : Channel → Channel) (g : search.Channel → search.Channel) (h : Handle) → u ≡ with_changed f h t → ns ≡ with_one g (wire_of h) es → IsClient t es → IsClient u ns
client-again t u es ns f g h is begins old =
    let kept : IsClient t ns = record { searched = subst (λ (ms : List (ℕ × search.Channel)). Searched t ms) (sym begins) (searched-one t g (wire_of h) es old.searched) } in
    client-standing t u ns f h is kept

pub client-gone : (t u : Table Channel) (es ns : List (ℕ × search.Channel)) (h : Handle) → u ≡ with_freed h t → ns ≡ without (wire_of h) es → holds (wire_of h) ns ≡ false → IsClient t es → IsClient u ns
client-gone t u es ns h free out none old = by_value (under t h) refl
  where
    by_value : (o : Option Channel) → under t h ≡ o → IsClient u ns
    by_value None nothing =
        let same : with_freed h t ≡ t = rw nothing refl in
        let kept : Searched t ns = subst (λ (ms : List (ℕ × search.Channel)). Searched t ms) (sym out) (searched-without t (wire_of h) es old.searched) in
        subst (λ (w : Table Channel). IsClient w ns) (sym (free ∙ same)) (record { searched = kept })
    by_value (Some v) found = client-freed t u es ns h v found free out none old
