-- A search reply on the tables of a client: what it does, and that it can be undone.
use Rattle.std.proofs.Common.{◌≡◌, ◌≢◌, ◌∙◌, inl, inr, ℕ, ◌-◌, true, false, List, [], ◌∷◌, ◌++◌, Option, Some, None, Result, Ok, Err, ap, arith, length, refl, slice_set, subst, sym, take}
use Rattle.std.specs.Prelude.{IsErr, Vec, ℕ}
use Rattle.std.specs.declared.alloc.Global.{Global}
use Rattle.ca_ids.specs.Holding.{FillsAll}
use Rattle.std.specs.declared.alloc.AllocError.{AllocError}
use Rattle.std.proofs.lemmas.List.{length_push, set-get_or, take_at}
use Rattle.ca_arena.specs.declared.handle.Handle.{Handle}
use Rattle.ca_arena.specs.Arena.{Place, blank, place_at}
use Rattle.ca_arena.proofs.Places.{value_for-some}
use Rattle.ca_ids.specs.Table.{IsFull, MayGive, Table, under, with_all_held, with_changed, with_held}
use Rattle.ca_ids.specs.Wire.{wire_of}
use Rattle.ca_search.specs.Searcher.{with_one}
use Rattle.ca_search.specs.Searches.{paused}
use Rattle.ca_wire.specs.declared.header.Header.{Header}
use Rattle.ca_wire.specs.Fields.{Fields}
use Rattle.ca_wire.specs.Message.{header_of}
use Rattle.ca_wire.specs.Messages.{create_request}
use Rattle.ca_model.specs.Client.{Channel, Client, ClientCircuit, Connecting, Creating, On, Searching, Standing, found_on, new_circuit}
use Rattle.ca_model.specs.Ends.{Address}
use Rattle.ca_model.specs.Hears.{Effect, Finds, found_at, with_circuit}
use Rattle.ca_model.proofs.Standings.{searched-is}
use Rattle.ca_client_tables.specs.Ends.{with_message, cut_in, left_at, queued}
use Rattle.ca_client_tables.specs.Finding.{CreatesIn, FindsIn, FindsOne, Halfway, HasFound, TakesSome, Tables, WantsNew, channel_of, circuit_in, found_undone, opened, paused_for, searched_in, stood, tables_of, undone, unopened, with_tables}
use Rattle.ca_client_tables.specs.Opening.{AreOpening}
use Rattle.ca_client_tables.specs.declared.finding.Found.{Found}
use Rattle.ca_client_tables.specs.declared.finding.How.{How}
use Rattle.ca_client_tables.specs.declared.finding.How.TheVariants as how
use Rattle.ca_client_tables.proofs.Circuits.{changed-found, changed-same, changed-twice}
use Rattle.ca_client_tables.proofs.Opened.{all-held-more, connected-there, opening-changed, opening-more}
use Rattle.ca_client_tables.proofs.Replies.{finds-connected, finds-full, finds-new, finds-none-new, finds-nothing, finds-out, finds-waiting, one-longer}
use Rattle.ca_client_tables.proofs.Queued.{cut-messages}
use Rattle.std.specs.FinMap as finite
use Rattle.ca_requests.specs.Meaning.{message_of}
use Rattle.ca_requests.specs.Requests.{Request}
use Rattle.ca_monitor.specs.Subscriptions.{Subscription}

-- a client with these tables, and nothing else
abbrev pub plain : Table Channel → Table Request → Table Subscription → Table ClientCircuit → Client
plain t q s c = record {
  peer = record { user = []; host = [] };
  servers = [];
  moment = 0;
  channels = t;
  requests = q;
  subscriptions = s;
  circuits = c;
  order = [];
  issued = [];
  searches = [];
  beacons = finite.empty;
}

-- ---- undone

own-same : {T : Type 0} (t : Table T) (h : Handle) (v : T) → under t h ≡ Some v → with_changed (λ (w : T). v) h t ≡ t
own-same {T} t h v found =
    let place = place_at t h.index in
    let there = value_for-some h.generation place v found in
    let same : ◌≡◌ {A = Place T} (record { generation = h.generation; value = Some v }) place =
    sym (ap (λ (g : ℕ). let p : Place T = record { generation = g; value = place.value } in p) there.0
    ∙ ap (λ (o : Option T). let p : Place T = record { generation = h.generation; value = o } in p) there.1) in
    changed-found t (λ (w : T). v) h v found
    ∙ ap (slice_set t h.index) same
    ∙ set-get_or t h.index blank

-- a channel that was searched for is searched for again
stood-back : (t : Table Channel) (h : Handle) (here : Channel) (s : Standing) → under t h ≡ Some here → here.standing ≡ Searching → stood Searching h (stood s h t) ≡ t
stood-back t h here s found is =
    let turn : Standing → Channel → Channel = λ (z : Standing) (w : Channel). record w { standing = z } in
    changed-twice t (turn s) (turn Searching) h here found
    ∙ changed-same t (λ (w : Channel). turn Searching (turn s w)) (λ (w : Channel). here) h here found (ap (λ (z : Standing). turn z here) (sym is))
    ∙ own-same t h here found

-- a message that was queued is cut off
queued-back : (t : Table ClientCircuit) (c : Handle) (m : Fields) → with_changed (cut_in (length (left_at t c))) c (with_changed (queued m) c t) ≡ t
queued-back t c m = ap (λ (y : Client). y.circuits) (cut-messages (plain [] [] [] t) c (m ∷ []) (length (left_at t c)) refl)

popped-back : {T : Type 0} (ts : List T) (t : T) → take (length (ts ++ t ∷ []) - 1) (ts ++ t ∷ []) ≡ ts
popped-back {T} ts t =
    let one : length (ts ++ t ∷ []) - 1 ≡ length ts = omega (arith, length_push ts t) in
    ap (λ (n : ℕ). take n (ts ++ t ∷ [])) one ∙ take_at ts (t ∷ []) (length ts) refl

-- the channel that was searched for
sought : (cid : ℕ) (t : Table Channel) (h : Handle) (here : Channel) → Some (h, here) ≡ searched_in cid t → (under t h ≡ Some here) × (here.standing ≡ Searching)
sought cid t h here is = searched-is cid (plain t [] [] []) h here (sym is)

-- ---- by what was found

pub found-nothing : (old : Halfway) (from : Address) (m : Fields) → None ≡ searched_in m.p2 old.channels → FindsOne old from m (Ok None) old
found-nothing old from m none = (λ x at. as-found x at (subst (λ (t : Tables). None ≡ searched_in m.p2 t.channels) (sym at) none), refl, inl refl)
  where
    as-found : (x : Client) → tables_of x ≡ opened old → None ≡ searched_in m.p2 x.channels → (e : Effect) × Finds x from m e × (e.notices ≡ []) × (e.core ≡ paused_for None (with_tables (opened old) x))
    as-found x at is =
        let r = finds-nothing x from m is in
        (r.0, r.1, r.2, sym r.3 ∙ ap (λ (t : Tables). with_tables t x) at)

pub found-waiting : (old : Halfway) (from : Address) (m : Fields) (h : Handle) (here : Channel) (c : Handle) (u : Table Channel) → Some (h, here) ≡ searched_in m.p2 old.channels → Some (c, false) ≡ circuit_in (found_at from m) here.priority (opened old).circuits → u ≡ stood (On c Connecting) h old.channels
    → FindsOne old from m (Ok (Some (record { channel = h; circuit = c; how = how.Waits }))) (record old { channels = u })
found-waiting old from m h here c u is to stands =
    let f : Found = record { channel = h; circuit = c; how = how.Waits } in
    let found = sought m.p2 old.channels h here is in (
      λ x at.
          (let all = subst (λ (t : Tables). (Some (h, here) ≡ searched_in m.p2 t.channels) × (Some (c, false) ≡ circuit_in (found_at from m) here.priority t.circuits) × (u ≡ stood (On c Connecting) h t.channels)) (sym at) (is, to, stands) in
          let new : Tables = record { channels = u; circuits = x.circuits; order = x.order } in
          let y : Client = paused_for (Some f.channel) (with_tables new x) in
          let left : y ≡ found_on c Connecting h x = ap (λ (t : Table Channel). paused_for (Some f.channel) (record x { channels = t })) all.2 in
          let r = finds-waiting x from m h here c y all.0 all.1 left in
          (r.0, r.1, r.2, sym r.3 ∙ ap (λ (t : Tables). paused_for (Some f.channel) (with_tables (record t { channels = u }) x)) at)),
      ap (λ (t : Table Channel). let z : Halfway = record old { channels = stood Searching h t } in z) stands
          ∙ ap (λ (t : Table Channel). let z : Halfway = record old { channels = t } in z) (stood-back old.channels h here (On c Connecting) found.0 found.1),
      inl refl,
    )

pub found-new : (old new : Halfway) (from : Address) (m : Fields) (h : Handle) (here : Channel) (r : Result (Option Found) AllocError) → Some (h, here) ≡ searched_in m.p2 old.channels → None ≡ circuit_in (found_at from m) here.priority (opened old).circuits → WantsNew old (found_at from m) here.priority h r new → FindsOne old from m r new
found-new old new from m h here (Ok (Some f)) is to (may, named, way, left) =
    let a = found_at from m in
    let found = sought m.p2 old.channels h here is in
    let c = f.circuit in
    let d : ClientCircuit = new_circuit a here.priority false in
    let wanted : Tables → Handle → Tables = λ (t : Tables) (k : Handle). record { channels = stood (On c Connecting) k t.channels; circuits = with_held c d t.circuits; order = t.order ++ c ∷ [] } in
    let halfway : Handle → Halfway = λ (k : Handle). record { channels = stood (On c Connecting) k old.channels; circuits = old.circuits; opening = old.opening ++ (c, d) ∷ []; order = old.order ++ c ∷ [] } in
    let whole : opened new ≡ wanted (opened old) h =
    ap opened left
    ∙ ap (λ (t : Table ClientCircuit). let z : Tables = record { channels = stood (On c Connecting) h old.channels; circuits = t; order = old.order ++ c ∷ [] } in z) (all-held-more old.opening (c, d) old.circuits) in
    let longer : new.order ≢ old.order = λ same. one-longer old.order c (ap (λ (t : Halfway). t.order) (sym left) ∙ same) in (
      λ x at.
          (let all = subst (λ (t : Tables). (Some (h, here) ≡ searched_in m.p2 t.channels) × (None ≡ circuit_in a here.priority t.circuits) × MayGive t.circuits c × (opened new ≡ wanted t h)) (sym at) (is, to, may, whole) in
          let y : Client = paused_for (Some f.channel) (with_tables (opened new) x) in
          let same : y ≡ found_on c Connecting h (with_circuit c d x) =
          ap (λ (t : Tables). paused_for (Some f.channel) (with_tables t x)) all.3
          ∙ ap (λ (k : Handle). let z : Client = record (with_tables (wanted (tables_of x) h) x) { searches = with_one paused (wire_of k) x.searches } in z) named in
          let r = finds-new x from m h here c y all.0 all.1 all.2 same in
          (r.0, r.1, r.2, sym r.3)),
      ap (λ (t : Halfway). found_undone f t) left
          ∙ ap (λ (k : Handle). found_undone (record f { channel = k }) (halfway h)) named
          ∙ ap (λ (w : How). found_undone (record { channel = h; circuit = c; how = w }) (halfway h)) way
          ∙ ap (λ (t : Table Channel). let z : Halfway = record { channels = t; circuits = old.circuits; opening = take (length (old.opening ++ (c, d) ∷ []) - 1) (old.opening ++ (c, d) ∷ []); order = take (length (old.order ++ c ∷ []) - 1) (old.order ++ c ∷ []) } in z) (stood-back old.channels h here (On c Connecting) found.0 found.1)
          ∙ ap (λ (es : List (Handle × ClientCircuit)). let z : Halfway = record { channels = old.channels; circuits = old.circuits; opening = es; order = take (length (old.order ++ c ∷ []) - 1) (old.order ++ c ∷ []) } in z) (popped-back old.opening (c, d))
          ∙ ap (λ (o : List Handle). let z : Halfway = record { channels = old.channels; circuits = old.circuits; opening = old.opening; order = o } in z) (popped-back old.order c),
      inr longer,
    )
found-new old new from m h here (Ok None) is to (full, left) =
    subst (λ (t : Halfway). FindsOne old from m (Ok None) t) (sym left) (
      λ x at.
          (let all = subst (λ (t : Tables). (Some (h, here) ≡ searched_in m.p2 t.channels) × (None ≡ circuit_in (found_at from m) here.priority t.circuits) × IsFull t.circuits) (sym at) (is, to, full) in
          let r = finds-full x from m h here x all.0 all.1 all.2 refl in
          (r.0, r.1, r.2, sym r.3 ∙ ap (λ (t : Tables). with_tables t x) at)),
      refl,
      inl refl,
    )
found-new old new from m h here (Err e) is to (left, one) = (
  left,
  λ none x at.
      (let c = one none in
      let all = subst (λ (t : Tables). (Some (h, here) ≡ searched_in m.p2 t.channels) × (None ≡ circuit_in (found_at from m) here.priority t.circuits) × MayGive t.circuits c.0) (sym at) (is, to, c.1) in
      finds-none-new x from m h here c.0 all.0 all.1 all.2),
)

pub found-created : (old : Halfway) (from : Address) (m : Fields) (h : Handle) (here : Channel) (c : Handle) (k : Fields) (r : Result (Option Found) AllocError) (u : Table Channel) (w : Table ClientCircuit) → AreOpening old.opening old.circuits → Some (h, here) ≡ searched_in m.p2 old.channels → Some (c, true) ≡ circuit_in (found_at from m) here.priority (opened old).circuits → k ≡ create_request (wire_of h) here.name → CreatesIn old.channels old.circuits c h k r u w
    → FindsOne old from m r (record { channels = u; circuits = w; opening = old.opening; order = old.order }) × AreOpening old.opening w
found-created old from m h here c k (Ok o) u w opening is to says (way, stands, queues) =
    let found = sought m.p2 old.channels h here is in
    let d = connected-there (found_at from m) here.priority old.opening old.circuits c opening to in
    let both = opening-changed (queued k) old.opening old.circuits c d.0 opening d.1 in
    let whole : with_all_held old.opening w ≡ with_changed (queued k) c (opened old).circuits = ap (with_all_held old.opening) queues ∙ both.1 in
    let v = with_all_held old.opening w in
    let f : Found = record { channel = h; circuit = c; how = how.Created (length (left_at old.circuits c)) } in (
      subst (λ (p : Option Found). FindsOne old from m (Ok p) (record { channels = u; circuits = w; opening = old.opening; order = old.order })) (sym way) (
        λ x at.
            (let all = subst (λ (t : Tables). (Some (h, here) ≡ searched_in m.p2 t.channels) × (Some (c, true) ≡ circuit_in (found_at from m) here.priority t.circuits) × (u ≡ stood (On c (Creating 0)) h t.channels) × (v ≡ with_changed (queued k) c t.circuits)) (sym at) (is, to, stands, whole) in
            let y : Client = paused_for (Some f.channel) (with_tables (record { channels = u; circuits = v; order = x.order }) x) in
            let left : y ≡ with_message c k (found_on c (Creating 0) h x) =
            ap (λ (t : Table Channel). paused_for (Some f.channel) (with_tables (record { channels = t; circuits = v; order = x.order }) x)) all.2
            ∙ ap (λ (t : Table ClientCircuit). paused_for (Some f.channel) (with_tables (record { channels = stood (On c (Creating 0)) h x.channels; circuits = t; order = x.order }) x)) all.3 in
            let r = finds-connected x from m h here c k y all.0 all.1 says left in
            (r.0, r.1, r.2, sym r.3 ∙ ap (λ (t : Tables). paused_for (Some f.channel) (with_tables (record { channels = u; circuits = v; order = t.order }) x)) at)),
        ap (λ (t : Table Channel). let z : Halfway = record { channels = stood Searching h t; circuits = with_changed (cut_in (length (left_at old.circuits c))) c w; opening = old.opening; order = old.order } in z) stands
            ∙ ap (λ (t : Table ClientCircuit). let z : Halfway = record { channels = stood Searching h (stood (On c (Creating 0)) h old.channels); circuits = with_changed (cut_in (length (left_at old.circuits c))) c t; opening = old.opening; order = old.order } in z) queues
            ∙ ap (λ (t : Table Channel). let z : Halfway = record { channels = t; circuits = with_changed (cut_in (length (left_at old.circuits c))) c (with_changed (queued k) c old.circuits); opening = old.opening; order = old.order } in z) (stood-back old.channels h here (On c (Creating 0)) found.0 found.1)
            ∙ ap (λ (t : Table ClientCircuit). let z : Halfway = record { channels = old.channels; circuits = t; opening = old.opening; order = old.order } in z) (queued-back old.circuits c k),
        inl refl,
      ),
      subst (AreOpening old.opening) (sym queues) both.0,
    )
found-created old from m h here c k (Err e) u w opening is to says (stands, queues) = (
  (
    ap (λ (t : Table Channel). let z : Halfway = record { channels = t; circuits = w; opening = old.opening; order = old.order } in z) stands
        ∙ ap (λ (t : Table ClientCircuit). let z : Halfway = record { channels = old.channels; circuits = t; opening = old.opening; order = old.order } in z) queues,
    λ none x at.
        (let all = subst (λ (t : Tables). (Some (h, here) ≡ searched_in m.p2 t.channels) × (Some (c, true) ≡ circuit_in (found_at from m) here.priority t.circuits)) (sym at) (is, to) in
        finds-out x from m h here c all.0 all.1),
  ),
  subst (AreOpening old.opening) (sym queues) opening,
)

-- there was no memory for the message itself
pub found-out : (old : Halfway) (from : Address) (m : Fields) (h : Handle) (here : Channel) (c : Handle) (r : Result (Option Found) AllocError) → AreOpening old.opening old.circuits → Some (h, here) ≡ searched_in m.p2 old.channels → Some (c, true) ≡ circuit_in (found_at from m) here.priority (opened old).circuits → IsErr r → FindsOne old from m r old
found-out old from m h here c (Ok o) opening is to err =
    let bad : false ≡ true = err in
    absurd cc
found-out old from m h here c (Err e) opening is to err =
    (found-created old from m h here c (create_request (wire_of h) here.name) (Err e) old.channels old.circuits opening is to refl (refl, refl)).0

-- what is to be opened then
pub wants-opening : (old new : Halfway) (a : Address) (priority : ℕ) (h : Handle) (r : Result (Option Found) AllocError) → AreOpening old.opening old.circuits → WantsNew old a priority h r new → AreOpening new.opening new.circuits
wants-opening old new a priority h (Ok (Some f)) opening (may, named, way, left) =
    subst (λ (t : Halfway). AreOpening t.opening t.circuits) (sym left) (opening-more old.opening old.circuits f.circuit (new_circuit a priority false) opening may refl)
wants-opening old new a priority h (Ok None) opening (full, left) = subst (λ (t : Halfway). AreOpening t.opening t.circuits) (sym left) opening
wants-opening old new a priority h (Err e) opening (left, one) = subst (λ (t : Halfway). AreOpening t.opening t.circuits) (sym left) opening

-- ---- one alone, whose circuit is opened

-- before anything is to be opened
abbrev pub started : Tables → Halfway
started t = record { channels = t.channels; circuits = t.circuits; opening = []; order = t.order }

-- there was no memory for it
pub found-none : (old : Tables) (mid : Halfway) (from : Address) (m : Fields) (e : AllocError) (r : Result (Option Handle) AllocError) → FindsOne (started old) from m (Err e) mid → IsErr r → FindsIn old from m r (unopened mid)
found-none old mid from m e (Ok o) did err =
    let bad : false ≡ true = err in
    absurd cc
found-none old mid from m e (Err f) did err = (ap unopened did.0, did.1 refl)

-- its circuit was opened
pub found-opened : (old : Tables) (mid : Halfway) (from : Address) (m : Fields) (found : Option Found) (o : Option Handle) (values : Vec (Handle × ClientCircuit) Global) (t : Table ClientCircuit) (u : Unit {0}) → FindsOne (started old) from m (Ok found) mid → channel_of found ≡ o → values.items ≡ mid.opening → FillsAll mid.circuits values (Ok u) t → FindsIn old from m (Ok o) (record { channels = mid.channels; circuits = t; order = mid.order })
found-opened old mid from m found o values t u did is are fills =
    subst (λ (p : Option Handle). HasFound old from m p (record { channels = mid.channels; circuits = t; order = mid.order })) is
    (subst (λ (w : Table ClientCircuit). HasFound old from m (channel_of found) (record { channels = mid.channels; circuits = w; order = mid.order })) (sym (fills.1 ∙ ap (λ (es : List (Handle × ClientCircuit)). with_all_held es mid.circuits) are)) did.0)

-- or not
pub found-refused : (old new : Tables) (mid : Halfway) (from : Address) (m : Fields) (found : Option Found) (values back : Vec (Handle × ClientCircuit) Global) (t : Table ClientCircuit) → FindsOne (started old) from m (Ok found) mid → values.items ≡ mid.opening → FillsAll mid.circuits values (Err back) t → new ≡ unopened (undone found (record { channels = mid.channels; circuits = t; opening = back.items; order = mid.order })) → (new ≡ old) × TakesSome old from m
found-refused old new mid from m found values back t did are fills is =
    let some : mid.opening ≢ [] = λ none. fills.0 (are ∙ none) in (
      is ∙ ap (λ (w : Table ClientCircuit). unopened (undone found (record { channels = mid.channels; circuits = w; opening = back.items; order = mid.order }))) fills.2
          ∙ ap (λ (es : List (Handle × ClientCircuit)). unopened (undone found (record { channels = mid.channels; circuits = mid.circuits; opening = es; order = mid.order }))) (ap (λ (v : Vec (Handle × ClientCircuit) Global). v.items) fills.1 ∙ are)
          ∙ ap unopened did.1,
      λ x at.
          (let r = did.0 x at in
          elim did.2 [
            | inl none ↦ absurd (some none)
            | inr other ↦
                (r.0, r.1, inr (inr (λ same. other (sym (in-order (channel_of found) x) ∙ ap (λ (y : Client). y.order) (sym r.3) ∙ same ∙ ap (λ (z : Tables). z.order) at))))
          ]),
    )
  where
    in-order : (o : Option Handle) (x : Client) → (paused_for o (with_tables (opened mid) x)).order ≡ mid.order
    in-order None x = refl
    in-order (Some h) x = refl

-- ---- the reply is a message of a datagram

pub found-header : (old new : Halfway) (from : Address) (m : Fields) (h : Header) (r : Result (Option Found) AllocError) → h ≡ header_of m → FindsOne old from (message_of h []) r new → FindsOne old from m r new
found-header old new from m h (Ok found) is did = subst (λ (k : Header). FindsOne old from (message_of k []) (Ok found) new) is did
found-header old new from m h (Err e) is did = subst (λ (k : Header). FindsOne old from (message_of k []) (Err e) new) is did
