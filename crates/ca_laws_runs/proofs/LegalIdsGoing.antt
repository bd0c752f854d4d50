-- What each event leaves of the ids that clients hold on circuits, and what it gives there.
use Rattle.std.proofs.Common.{◌≡◌, ℕ, ◌+◌, ◌<◌, ◌≤◌, ◌⊎◌, inl, inr, Bool, true, false, ◌&&◌, cond, eqb, List, [], ◌∷◌, ◌++◌, length, Option, Some, None, refl, sym, ap, ◌∙◌, subst, arith}
use Rattle.std.specs.Prelude.{drop, filter, find, is_none, map, option_and_then, option_map, slice_set, unwrap_or}
use Rattle.std.specs.List.{FoldsTo}
use Rattle.std.proofs.lemmas.Bool.{both_ways, eq-eqb}
use Rattle.std.proofs.lemmas.List.{append-nil}
use Rattle.ca_text.specs.Place.{At}
use Rattle.ca_text.proofs.Places.{At-append, At-last, At-mapped, At-one, At-parts, At-set, At-snoc, At-within}
use Rattle.ca_arena.specs.declared.handle.Handle.{Handle}
use Rattle.ca_dbr.specs.Elements.{Elements}
use Rattle.ca_ids.specs.Table.{same_handle, under, with_held}
use Rattle.ca_monitor.specs.Subscriptions.{Subscription}
use Rattle.ca_requests.specs.Requests as request
use Rattle.ca_wire.specs.Fields.{Fields}
use Rattle.ca_model.specs.Answers.{Closed, Closing, Left, NeedBytes, Notices, Sending, Stepped}
use Rattle.ca_model.specs.Answers as answer
use Rattle.ca_model.specs.Client.{Channel, Client, ClientCircuit, Connection, Live, On, connection_at, ended, is_on_in, later, out_bytes, sending, standing_at}
use Rattle.ca_model.specs.ClientCalls.{LiveChannel, Opening, cancel_sent, clearing_sent, event_add_sent, issued, new_subscription, opened, put_sent, read_sent, write_sent}
use Rattle.ca_model.specs.ClientEnds.{ConnectsOn, StepsOn, after_taking, circuits_ticked, handed_over, searches_made}
use Rattle.ca_model.specs.Ends.{Address}
use Rattle.ca_model.specs.Hears.{Effect}
use Rattle.ca_model.specs.History.{Intent, Line, Sent, Step, Told}
use Rattle.ca_model.specs.History as history
use Rattle.ca_model.specs.Sends.{SameIndex}
use Rattle.ca_model.specs.Speech.{Gives, Id}
use Rattle.ca_model.proofs.Handles.{same-is, same-itself}
use Rattle.ca_model.proofs.Standings.{found-standing, is-on, stands-as}
use Rattle.ca_model.proofs.Tables.{at-find}
use Rattle.ca_model.specs.Placed.{Attached}
use Rattle.ca_laws_parts.proofs.Marks.{at-filter}
use Rattle.ca_model.specs.ClientEvents.{DownTaken, HappensAccept, HappensClear, HappensClientDatagram, HappensClientRestart, HappensClientStep, HappensCutClient, HappensDown, HappensOpen, HappensRead, HappensSubscribe, HappensUnsubscribe, HappensUp, HappensWrite, HappensWriteNotify, TicksOne, WantsFirst, about_at, after_tick, client_closed, client_ended, client_gone, client_stepped, connected_as, heard_in, left_silent, lines_of, new_circuit, sent_on}
use Rattle.ca_model.specs.Events.{Event}
use Rattle.ca_model.specs.Events as event
use Rattle.ca_model.specs.Runs.{Happens, clients_below}
use Rattle.ca_model.specs.World.{ClientSide, Joined, Names, ServerSide, World, log_length, with_circuit, with_client, with_server}
use Rattle.ca_laws_parts.specs.Runs.{HearsSent}
use Rattle.ca_laws_parts.specs.Held.{is_subscribed, with_request, with_subscription}
use Rattle.ca_laws_parts.specs.Held as circuit_held
use Rattle.ca_laws_parts.specs.Circuit.{sent_to, stamped}
use Rattle.ca_laws_parts.specs.Clients.{ClientsStand}
use Rattle.ca_laws_parts.proofs.ClientsMore.{unconnected-is, wanted-there}
use Rattle.ca_laws_parts.proofs.Filtered.{filter-order}
use Rattle.ca_laws_runs.proofs.Ends.{From, from-itself}
use Rattle.ca_laws_runs.proofs.HeardEnds.{IsEndAfter, after-sent, sent-other}
use Rattle.ca_laws_parts.proofs.Calling.{rests-cancelled, rests-cleared, rests-connected, rests-ended, rests-given, rests-handed, rests-issued, rests-opened, rests-subscribed, rests-ticked}
use Rattle.ca_laws_parts.proofs.Given.{Given, GoneBy, HeldBy, IsIdle, but-held, given-nothing, gives-of, none-given, rests-held}
use Rattle.ca_laws_parts.proofs.Rests.{Rests, RestsBut, rests-all-received, rests-heard, rests-same, rests-sending, rests-then}
use Rattle.ca_laws_parts.proofs.Giving.{given-all-received, given-connected, given-heard, given-issued, given-subscribed, none-cancelled, none-cleared, none-given-on, none-ticked, none-written}
use Rattle.ca_laws_runs.proofs.OnceWorld.{on-circuit-sent}
use Rattle.ca_laws_runs.proofs.Servers.{from-add, from-cut-server, from-finish, from-post, from-pump, from-remove, from-server-restart, from-server-step}

-- The message that was read next on circuit c frees what is held by this id.
abbrev pub IsFreedNow : (c d : Joined) → ClientSide → Fields → Id → Type 0
IsFreedNow c d x m id = (t : Told) × (g : Step) × At d.lists.down (length c.lists.heard) t × At d.lists.heard (length c.lists.heard) g × (g.sent ≡ length c.lists.up) × GoneBy c.at_client x.core t.message m id

-- nothing is read
abbrev pub IsFreedNever : (c d : Joined) → ClientSide → Fields → Id → Type 0
IsFreedNever c d x m id = ⊥

-- From circuit c to circuit d: what is sent gives ids of indices that are idle, each once; what is
-- held stays held, or is freed; and what is given is held.
pub record IdsStep (Freed : (c d : Joined) → ClientSide → Fields → Id → Type 0) (w new : World) (c d : Joined) : Type 0 where
  pub up : (p : ℕ) (s : Sent) → At c.lists.up p s → At d.lists.up p s
  pub idle : (p : ℕ) (s : Sent) (id : Id) → length c.lists.up ≤ p → At d.lists.up p s → Gives s.message id
      → (x : ClientSide) × At w.clients c.client x × (c.lists.client_open ≡ true) × IsIdle c.at_client x.core id
  pub once : (p q : ℕ) (s r : Sent) (a b : Id) → length c.lists.up ≤ p → p < q → At d.lists.up p s → At d.lists.up q r → Gives s.message a
      → Gives r.message b → SameIndex a b → ⊥
  pub held : (y : ClientSide) → At new.clients d.client y → d.lists.client_open ≡ true
      → (x : ClientSide) × At w.clients c.client x × (c.lists.client_open ≡ true)
      × ((m : Fields) (id : Id) → HeldBy c.at_client x.core m id → HeldBy d.at_client y.core m id ⊎ Freed c d x m id)
      × ((p : ℕ) (s : Sent) (id : Id) → length c.lists.up ≤ p → At d.lists.up p s → Gives s.message id → HeldBy d.at_client y.core s.message id)

-- Each circuit was there, or is new.
abbrev pub AllStep : (Freed : (c d : Joined) → ClientSide → Fields → Id → Type 0) → (w new : World) → Type 0
AllStep Freed w new = (n : ℕ) (d : Joined) → At new.circuits n d → (c : Joined) × (At w.circuits n c ⊎ (c.lists.up ≡ [])) × IdsStep Freed w new c d

-- ---- what was sent on a circuit

-- the order of what was sent is that of the call
on-order : (i : ℕ) (n : Names) (sent : List Sending) (a : Joined) (p q : ℕ) (s r : Sent) → p < q → At (sent_on i n sent a) p s
    → At (sent_on i n sent a) q r
    → (k l : ℕ) × (u v : Sending) × (k < l) × At sent k u × At sent l v × (u.circuit ≡ a.at_client) × (v.circuit ≡ a.at_client) × (s ≡ stamped n u) × (r ≡ stamped n v)
on-order i n sent a p q s r lt at_s at_r = go (eqb a.client i && a.lists.client_open) at_s at_r
  where
    go : (b : Bool) → At (cond b (map (stamped n) (filter (λ (z : Sending). same_handle z.circuit a.at_client) sent)) []) p s
        → At (cond b (map (stamped n) (filter (λ (z : Sending). same_handle z.circuit a.at_client) sent)) []) q r
        → (k l : ℕ) × (u v : Sending) × (k < l) × At sent k u × At sent l v × (u.circuit ≡ a.at_client) × (v.circuit ≡ a.at_client) × (s ≡ stamped n u) × (r ≡ stamped n v)
    go true f g =
        let u = At-mapped (stamped n) (filter (λ (z : Sending). same_handle z.circuit a.at_client) sent) p s f in
        let v = At-mapped (stamped n) (filter (λ (z : Sending). same_handle z.circuit a.at_client) sent) q r g in
        let o = filter-order (λ (z : Sending). same_handle z.circuit a.at_client) sent p q u.0 v.0 lt u.1 v.1 in
        let first = at-filter (λ (z : Sending). same_handle z.circuit a.at_client) sent p u.0 u.1 in
        let second = at-filter (λ (z : Sending). same_handle z.circuit a.at_client) sent q v.0 v.1 in
        (o.0, o.1, u.0, v.0, o.2, o.3, o.4, same-is u.0.circuit a.at_client first.2, same-is v.0.circuit a.at_client second.2, u.2, v.2)
    go false f g = absurd cc

-- ---- one client changes, and sent these

module _ (Freed : (c d : Joined) → ClientSide → Fields → Id → Type 0) (w new : World) (i : ℕ) (x z : ClientSide) (n : Names) (sent : List Sending) (at : At w.clients i x) (clients : new.clients ≡ slice_set w.clients i z) where
  ids-moved : (a d : Joined) → IsEndAfter i n sent a d
      → (a.client ≡ i → a.lists.client_open ≡ true → Given a.at_client x.core z.core sent)
      → (a.client ≡ i → d.lists.client_open ≡ true → (m : Fields) (id : Id) → HeldBy a.at_client x.core m id → HeldBy a.at_client z.core m id ⊎ Freed a d x m id)
      → IdsStep Freed w new a d
  ids-moved a d end gives rests = record {
    up = λ p s there. subst (λ (l : List Sent). At l p s) (sym end.up) (At-append a.lists.up (sent_on i n sent a) p s there);
    idle = λ p s id past there given_id.
        let l = late p s past there in
        let o = on-circuit-sent i n sent a l.0 s l.2 in
        let is : s ≡ stamped n o.2.1 = o.2.4 in (
          x,
          subst (λ (k : ℕ). At w.clients k x) (sym o.0) at,
          o.1,
          (gives o.0 o.1).idle o.2.0 o.2.1 id o.2.2 (same-is o.2.1.circuit a.at_client o.2.3) (subst (λ (v : Sent). Gives v.message id) is given_id),
        );
    once = λ p q s r v u past lt at_s at_r gives_s gives_r same.
        let l = late p s past at_s in
        let k = late q r (omega (arith, past, lt)) at_r in
        let p_is : p ≡ length a.lists.up + l.0 = l.1 in
        let q_is : q ≡ length a.lists.up + k.0 = k.1 in
        let c = on-circuit-sent i n sent a l.0 s l.2 in
        let o = on-order i n sent a l.0 k.0 s r (omega (arith, p_is, q_is, lt)) l.2 k.2 in
        (gives c.0 c.1).once o.0 o.1 o.2 o.3 v u o.4 o.5 o.6 o.7 o.8 (subst (λ (e : Sent). Gives e.message v) o.9 gives_s) (subst (λ (e : Sent). Gives e.message u) o.10 gives_r) same;
    held = λ y at_y opened.
        let was_open : a.lists.client_open ≡ true = end.opens opened in
        elim (At-set w.clients i z d.client y (subst (λ (l : List ClientSide). At l d.client y) clients at_y)) [
          | inl here ↦
              let mine : a.client ≡ i = sym end.client ∙ here.0 in (
                x,
                subst (λ (k : ℕ). At w.clients k x) (sym mine) at,
                was_open,
                λ m id held_it. (elim (rests mine opened m id held_it) [
                  | inl stays ↦ inl (subst (λ (v : Handle × ClientSide). HeldBy v.0 v.1.core m id) (λ j. (sym end.handle j, sym here.1 j)) stays)
                  | inr gone ↦ inr gone
                ]),
                λ p s id past there given_id.
                    let l = late p s past there in
                    let o = on-circuit-sent i n sent a l.0 s l.2 in
                    subst (λ (v : Handle × ClientSide × Sent). HeldBy v.0 v.1.core v.2.message id) (λ j. (sym end.handle j, sym here.1 j, sym o.2.4 j))
                    ((gives mine was_open).held o.2.0 o.2.1 id o.2.2 (same-is o.2.1.circuit a.at_client o.2.3) (subst (λ (v : Sent). Gives v.message id) o.2.4 given_id)),
              )
          | inr old ↦
              let other : a.client ≡ i → ⊥ = λ e. old.1 (end.client ∙ e) in (
                y,
                subst (λ (k : ℕ). At w.clients k y) end.client old.0,
                was_open,
                λ m id held_it. inl (subst (λ (h : Handle). HeldBy h y.core m id) (sym end.handle) held_it),
                λ p s id past there given_id. (let l = late p s past there in absurd (none-at l.0 s (subst (λ (e : List Sent). At e l.0 s) (sent-other i n sent a other) l.2))),
              )
        ];
  }
    where
      none-at : (k : ℕ) (s : Sent) → At [] k s → ⊥
      none-at k s e = cc

      late : (p : ℕ) (s : Sent) → length a.lists.up ≤ p → At d.lists.up p s → (k : ℕ) × (p ≡ length a.lists.up + k) × At (sent_on i n sent a) k s
      late p s past there = elim (At-parts a.lists.up (sent_on i n sent a) p s (subst (λ (l : List Sent). At l p s) end.up there)) [
        | inl old ↦ absurd (let lt : p < length a.lists.up = At-within a.lists.up p s old in omega (arith, lt, past))
        | inr later ↦ later
      ]

-- ---- no client changes

ids-still : (Freed : (c d : Joined) → ClientSide → Fields → Id → Type 0) (w new : World) → new.clients ≡ w.clients
    → ((n : ℕ) (d : Joined) → At new.circuits n d → (c : Joined) × At w.circuits n c × (d.client ≡ c.client) × (d.at_client ≡ c.at_client) × (d.lists.client_open ≡ true → c.lists.client_open ≡ true) × (d.lists.up ≡ c.lists.up)) → AllStep Freed w new
ids-still Freed w new clients back n d at =
    let b = back n d at in
    let c : Joined = b.0 in
    let none : (p : ℕ) (s : Sent) → length c.lists.up ≤ p → At d.lists.up p s → ⊥ = λ p s past there. (let lt : p < length c.lists.up = At-within c.lists.up p s (subst (λ (l : List Sent). At l p s) b.5 there) in omega (arith, lt, past)) in (
      c,
      inl b.1,
      record {
        up = λ p s there. subst (λ (l : List Sent). At l p s) (sym b.5) there;
        idle = λ p s id past there gives. absurd (none p s past there);
        once = λ p q s r a v past lt at_s at_r gives_s gives_r same. none p s past at_s;
        held = λ y at_y opened. (
          y,
          subst (λ (k : ℕ). At w.clients k y) b.2 (subst (λ (l : List ClientSide). At l d.client y) clients at_y),
          b.4 opened,
          λ m id held_it. inl (subst (λ (h : Handle). HeldBy h y.core m id) (sym b.3) held_it),
          λ p s id past there gives. absurd (none p s past there),
        );
      },
    )

-- each end was there so
abbrev AllEnds : (i : ℕ) (n : Names) (sent : List Sending) → List Joined → List Joined → Type 0
AllEnds i n sent was now = (k : ℕ) (d : Joined) → At now k d → (a : Joined) × At was k a × IsEndAfter i n sent a d

sent-none : (i : ℕ) (n : Names) (a : Joined) → sent_on i n [] a ≡ []
sent-none i n a = go (eqb a.client i && a.lists.client_open)
  where
    go : (b : Bool) → cond b (map (stamped n) []) [] ≡ []
    go true = refl
    go false = refl

end-quiet : (i : ℕ) (n : Names) (a d : Joined) → d.client ≡ a.client → d.at_client ≡ a.at_client
    → (d.lists.client_open ≡ true → a.lists.client_open ≡ true) → d.lists.up ≡ a.lists.up → IsEndAfter i n [] a d
end-quiet i n a d client handle opens up =
    record { client = client; handle = handle; opens = opens; up = up ∙ sym (ap (λ (l : List Sent). a.lists.up ++ l) (sent-none i n a) ∙ append-nil a.lists.up) }

-- a call of client i
module _ (Freed : (c d : Joined) → ClientSide → Fields → Id → Type 0) (w new : World) (i : ℕ) (x : ClientSide) (at : At w.clients i x) where
  ids-ends : (z : ClientSide) (names : Names) (sent : List Sending) → new.clients ≡ slice_set w.clients i z
      → AllEnds i names sent w.circuits new.circuits → ((on : Handle) → Given on x.core z.core sent) → ((on : Handle) → Rests on x.core z.core)
      → AllStep Freed w new
  ids-ends z names sent clients ends gives rests n d at_d =
      let b = ends n d at_d in (
        b.0,
        inl b.1,
        ids-moved Freed w new i x z names sent at clients b.0 d b.2 (λ mine opened. gives b.0.at_client)
            (λ mine opened m id held_it. inl (rests-held b.0.at_client x.core z.core m id (rests b.0.at_client) held_it)),
      )

  ids-called : (now names : Names) (core : Client) (sent : List Sending) → new.clients ≡ slice_set w.clients i (record x { core = core; names = now }) → new.circuits ≡ map (sent_to i names sent) w.circuits
      → ((on : Handle) → Given on x.core core sent) → ((on : Handle) → Rests on x.core core) → AllStep Freed w new
  ids-called now names core sent clients circuits gives rests =
      ids-ends (record x { core = core; names = now }) names sent clients (λ k d at_d. after-sent i names sent w.circuits k d (subst (λ (l : List Joined). At l k d) circuits at_d)) gives rests

  ids-refused : new.clients ≡ w.clients → new.circuits ≡ w.circuits → AllStep Freed w new
  ids-refused clients circuits = ids-still Freed w new clients (λ n d at_d. (d, subst (λ (l : List Joined). At l n d) circuits at_d, refl, refl, (λ o. o), refl))

  module _ (few : circuit_held.AreFew x.core) (attached : Attached x.core) where
    ids-open : (name : List ℕ) (priority : ℕ) → HappensOpen w i x name priority new → AllStep Freed w new
    ids-open name priority happens = elim happens [
      | inl refusal ↦ ids-refused (ap (λ (z : World). z.clients) refusal.3) (ap (λ (z : World). z.circuits) refusal.3)
      | inr did ↦
          let a : Opening = record { name = name; priority = priority; now = w.moment } in
          let names : Names = record x.names { channels = x.names.channels ++ did.0 ∷ [] } in
          ids-called names names did.2 did.1 (ap (λ (z : World). z.clients) did.4) (ap (λ (z : World). z.circuits) did.4)
          (λ on. given-nothing on x.core did.2 did.1 (gives-of did.1 [] did.3.2.0 none-given))
          (λ on. subst (λ (v : Client). Rests on x.core v) (sym did.3.2.1) (rests-opened on x.core a did.0 did.3.1))
    ]

    ids-read : (c : ℕ) (h : Handle) (data_type count : ℕ) → HappensRead w i x c h data_type count new → AllStep Freed w new
    ids-read c h data_type count happens = elim happens [
      | inl refusal ↦ ids-refused (ap (λ (z : World). z.clients) refusal.3) (ap (λ (z : World). z.circuits) refusal.3)
      | inr did ↦
          let l : LiveChannel = did.3.0 in
          let asked : request.Asked = request.Read data_type count in
          let s : Sending = read_sent h l (record { data_type = data_type; count = count }) did.0 in
          let names : Names = with_request did.0 (history.On c (history.Request history.Read (length x.names.requests))) x.names in
          let z : Client = issued h l asked did.0 x.core in
          ids-called names names did.2 did.1 (ap (λ (z : World). z.clients) did.4) (ap (λ (z : World). z.circuits) did.4)
          (λ on. subst (λ (v : Client × List Sending). Given on x.core v.0 v.1) (λ k. (sym did.3.4.1 k, sym did.3.4.0 k)) (given-issued on x.core h l asked did.0 s few did.3.3 refl refl refl))
          (λ on. subst (λ (v : Client). Rests on x.core v) (sym did.3.4.1) (rests-then on x.core z (sending (s ∷ []) z) (rests-issued on x.core h l asked did.0 did.3.3) (rests-sending on (s ∷ []) z)))
    ]

    ids-put : (c : ℕ) (h : Handle) (e : Elements) → HappensWriteNotify w i x c h e new → AllStep Freed w new
    ids-put c h e happens = elim happens [
      | inl refusal ↦ ids-refused (ap (λ (z : World). z.clients) refusal.3) (ap (λ (z : World). z.circuits) refusal.3)
      | inr did ↦
          let l : LiveChannel = did.3.0 in
          let s : Sending = put_sent h l e did.0 in
          let names : Names = with_request did.0 (history.On c (history.Request history.Put (length x.names.requests))) x.names in
          let z : Client = issued h l request.Put did.0 x.core in
          ids-called names names did.2 did.1 (ap (λ (z : World). z.clients) did.4) (ap (λ (z : World). z.circuits) did.4)
          (λ on. subst (λ (v : Client × List Sending). Given on x.core v.0 v.1) (λ k. (sym did.3.4.1 k, sym did.3.4.0 k)) (given-issued on x.core h l request.Put did.0 s few did.3.3 refl refl refl))
          (λ on. subst (λ (v : Client). Rests on x.core v) (sym did.3.4.1) (rests-then on x.core z (sending (s ∷ []) z) (rests-issued on x.core h l request.Put did.0 did.3.3) (rests-sending on (s ∷ []) z)))
    ]

    ids-write : (c : ℕ) (h : Handle) (e : Elements) → HappensWrite w i x c h e new → AllStep Freed w new
    ids-write c h e happens = elim happens [
      | inl refusal ↦ ids-refused (ap (λ (z : World). z.clients) refusal.3) (ap (λ (z : World). z.circuits) refusal.3)
      | inr did ↦
          let s : Sending = write_sent h did.3.0 e in
          ids-called (record x.names { writes = x.names.writes + 1 }) x.names did.2 did.1 (ap (λ (z : World). z.clients) did.4) (ap (λ (z : World). z.circuits) did.4)
          (λ on. given-nothing on x.core did.2 did.1 (gives-of did.1 (s ∷ []) did.3.3.0 (none-written h did.3.0 e)))
          (λ on. subst (λ (v : Client). Rests on x.core v) (sym did.3.3.1) (rests-sending on (s ∷ []) x.core))
    ]

    ids-subscribe : (c : ℕ) (h : Handle) (data_type count mask : ℕ) → HappensSubscribe w i x c h data_type count mask new → AllStep Freed w new
    ids-subscribe c h data_type count mask happens = elim happens [
      | inl refusal ↦ ids-refused (ap (λ (z : World). z.clients) refusal.3) (ap (λ (z : World). z.circuits) refusal.3)
      | inr did ↦
          let l : LiveChannel = did.3.0 in
          let d : Subscription = new_subscription h (record { data_type = data_type; count = count }) mask in
          let s : Sending = event_add_sent l.circuit l.native.sid did.0 d in
          let names : Names = with_subscription did.0 (history.On c (history.Subscribe (length x.names.subscriptions))) x.names in
          let z : Client = record x.core { subscriptions = with_held did.0 d x.core.subscriptions } in
          ids-called names names did.2 did.1 (ap (λ (z : World). z.clients) did.4) (ap (λ (z : World). z.circuits) did.4)
          (λ on. subst (λ (v : Client × List Sending). Given on x.core v.0 v.1) (λ k. (sym did.3.4.1 k, sym did.3.4.0 k)) (given-subscribed on x.core did.0 d s few did.3.3 (λ same. live-has h l did.3.1 on same) refl refl))
          (λ on. subst (λ (v : Client). Rests on x.core v) (sym did.3.4.1) (rests-then on x.core z (sending (s ∷ []) z) (rests-subscribed on x.core did.0 d did.3.3) (rests-sending on (s ∷ []) z)))
    ]
      where
        live-has : (h : Handle) (l : LiveChannel) → standing_at x.core h ≡ Some (On l.circuit (Live l.native l.rights)) → (on : Handle)
            → l.circuit ≡ on → unwrap_or (option_map (is_on_in is_subscribed on) (under x.core.channels h)) false ≡ true
        live-has h l live on same =
            let f = found-standing x.core h (On l.circuit (Live l.native l.rights)) live in
            ap (λ (o : Option Channel). unwrap_or (option_map (is_on_in is_subscribed on) o) false) f.1
            ∙ is-on is_subscribed on f.0 (Live l.native l.rights) (f.2 ∙ ap (λ (k : Handle). On k (Live l.native l.rights)) same)

    ids-unsubscribe : (g : Handle × Intent) → HappensUnsubscribe w i x g new → AllStep Freed w new
    ids-unsubscribe g happens = elim happens [
      | inl refusal ↦ ids-refused (ap (λ (z : World). z.clients) refusal.3) (ap (λ (z : World). z.circuits) refusal.3)
      | inr did ↦
          let d : Subscription = did.3.0 in
          let f = stands-as x.core g.0 d did.3.1 in
          ids-called x.names x.names did.2 did.1 (ap (λ (z : World). z.clients) did.4) (ap (λ (z : World). z.circuits) did.4)
          (λ on. given-nothing on x.core did.2 did.1 (gives-of did.1 (cancel_sent g.0 d (standing_at x.core d.channel)) did.3.3.0 (none-cancelled g.0 d (standing_at x.core d.channel))))
          (λ on. subst (λ (v : Client). Rests on x.core v) (sym did.3.3.1) (rests-cancelled on x.core g.0 d f.0 f.1))
    ]

    ids-clear : (c : ℕ) (h : Handle) → HappensClear w i x c h new → AllStep Freed w new
    ids-clear c h happens = elim happens [
      | inl refusal ↦ ids-refused (ap (λ (z : World). z.clients) refusal.3) (ap (λ (z : World). z.circuits) refusal.3)
      | inr did ↦
          ids-called x.names x.names did.2 did.1 (ap (λ (z : World). z.clients) did.4) (ap (λ (z : World). z.circuits) did.4)
          (λ on. given-nothing on x.core did.2 did.1 (gives-of did.1 (clearing_sent h did.3.0) did.3.3.0 (none-cleared h did.3.0)))
          (λ on. subst (λ (v : Client). Rests on x.core v) (sym did.3.3.1) (rests-cleared on x.core h did.3.0 attached did.3.1))
    ]

    ids-datagram : (from : Address) (bytes : List ℕ) → HappensClientDatagram w i x from bytes new → AllStep Freed w new
    ids-datagram from bytes happens =
        let now : Client = record x.core { moment = later w.moment x.core } in
        let e : Effect = record { core = happens.1; sent = happens.0; notices = [] } in
        ids-called x.names x.names happens.1 happens.0 (ap (λ (z : World). z.clients) happens.3) (ap (λ (z : World). z.circuits) happens.3)
        (λ on.
        let g = given-all-received on from happens.2.0 now e (record { channels = few.channels; requests = few.requests; subscriptions = few.subscriptions }) happens.2.2 in
        record { held = g.held; idle = λ k s id there here gives other m was same. g.idle k s id there here gives other m (rests-held on x.core now m other (rests-same on x.core now refl refl refl) was) same; once = g.once })
        (λ on. rests-then on x.core now happens.1 (rests-same on x.core now refl refl refl) (rests-all-received on from happens.2.0 now e happens.2.2))

-- ---- bytes move

module _ (Freed : (c d : Joined) → ClientSide → Fields → Id → Type 0) (w new : World) (k : ℕ) (j : Joined) (x : ClientSide) (on : At w.circuits k j) (there : At w.clients j.client x) where
  same-circuits : (now : World) → now.circuits ≡ w.circuits → AllEnds j.client x.names [] w.circuits now.circuits
  same-circuits now is n d at = (d, subst (λ (l : List Joined). At l n d) is at, end-quiet j.client x.names d d refl refl (λ o. o) refl)

  ids-up : (n : ℕ) (y : ServerSide) → HappensUp w k n j x y new → AllStep Freed w new
  ids-up n y happens = subst (λ (v : World). AllStep Freed w v) (sym happens.2) (go j.lists.client_open)
    where
      go : (b : Bool) → AllStep Freed w (with_server j.server (record y { core = happens.0 }) (cond b (with_client j.client (record x { core = handed_over j.at_client n x.core }) w) (with_circuit k (record j { left_up = drop n j.left_up }) w)))
      go true =
          let z : ClientSide = record x { core = handed_over j.at_client n x.core } in
          let now : World = with_server j.server (record y { core = happens.0 }) (with_client j.client z w) in
          ids-ends Freed w now j.client x there z x.names [] refl (same-circuits now refl) (λ h. given-nothing h x.core z.core [] none-given) (λ h. rests-handed h j.at_client n x.core)
      go false =
          let d : Joined = record j { left_up = drop n j.left_up } in
          ids-still Freed w (with_server j.server (record y { core = happens.0 }) (with_circuit k d w)) refl (λ m b at. elim (At-set w.circuits k d m b at) [
            | inl own ↦ (
              j,
              subst (λ (l : ℕ). At w.circuits l j) (sym own.0) on,
              ap (λ (v : Joined). v.client) own.1,
              ap (λ (v : Joined). v.at_client) own.1,
              λ o. ap (λ (v : Joined). v.lists.client_open) (sym own.1) ∙ o,
              ap (λ (v : Joined). v.lists.up) own.1,
            )
            | inr old ↦ (b, old.0, refl, refl, (λ o. o), refl)
          ])

  ids-down : (n : ℕ) (y : ServerSide) → HappensDown w k n j x y new → AllStep Freed w new
  ids-down n y happens =
      let mid : World = happens.0 in
      let sent : List Sending = happens.1 in
      let core : Client = happens.2 in
      let t = taken n y mid happens.3 in
      ids-ends Freed w new j.client x there (record x { core = core; names = x.names }) x.names sent
      (ap (λ (z : World). z.clients) happens.5 ∙ ap (λ (c : List ClientSide). slice_set c j.client (record x { core = core; names = x.names })) t.0)
      (λ m b at.
      let a = after-sent j.client x.names sent mid.circuits m b (subst (λ (l : List Joined). At l m b) (ap (λ (z : World). z.circuits) happens.5) at) in
      t.1 m a.0 b a.1 a.2)
      (λ h. given-nothing h x.core core sent (none-given-on x.core j.at_client _ _ (connection_at x.core j.at_client) sent core happens.4))
      (λ h. rests-given h x.core j.at_client _ _ (connection_at x.core j.at_client) sent core happens.4)
    where
      taken : (n : ℕ) (y : ServerSide) (mid : World) → DownTaken w k n j y mid
          → (mid.clients ≡ w.clients) × ((m : ℕ) (a b : Joined) → At mid.circuits m a → IsEndAfter j.client x.names happens.1 a b → (c : Joined) × At w.circuits m c × IsEndAfter j.client x.names happens.1 c b)
      taken n y mid took = elim took [
        | inl open_it ↦ (ap (λ (z : World). z.clients) open_it.1.2, λ m a b at end. (a, subst (λ (z : World). At z.circuits m a) open_it.1.2 at, end))
        | inr closed_it ↦ (
          ap (λ (z : World). z.clients) closed_it.1,
          λ m a b at end. (elim (At-set w.circuits k (record j { left_down = drop n j.left_down }) m a (subst (λ (z : World). At z.circuits m a) closed_it.1 at)) [
            | inl own ↦
                let e : IsEndAfter j.client x.names happens.1 (record j { left_down = drop n j.left_down }) b = subst (λ (v : Joined). IsEndAfter j.client x.names happens.1 v b) own.1 end in
                (j, subst (λ (l : ℕ). At w.circuits l j) (sym own.0) on, record { client = e.client; handle = e.handle; opens = e.opens; up = e.up })
            | inr old ↦ (a, old.0, end)
          ]),
        )
      ]

  -- the end of this circuit has ended: of others nothing is lost
  ids-ended : ClientsStand w → j.lists.client_open ≡ true → (c : Closing) (core : Client) → core ≡ ended j.at_client x.core
      → new ≡ client_ended k j x c core w → AllStep Freed w new
  ids-ended stands opened c core core_is is n d at_d =
      let z : ClientSide = record x { core = core; names = x.names } in
      let clients : new.clients ≡ slice_set w.clients j.client z = ap (λ (v : World). v.clients) is in
      let b = after-sent j.client x.names [] (slice_set w.circuits k (client_closed c.left j)) n d (subst (λ (v : World). At v.circuits n d) is at_d) in
      elim (At-set w.circuits k (client_closed c.left j) n b.0 b.1) [
        | inl own ↦
            let end : IsEndAfter j.client x.names [] (client_closed c.left j) d = subst (λ (v : Joined). IsEndAfter j.client x.names [] v d) own.1 b.2 in (
              j,
              inl (subst (λ (l : ℕ). At w.circuits l j) (sym own.0) on),
              ids-moved Freed w new j.client x z x.names [] there clients j d
                  (end-quiet j.client x.names j d end.client end.handle (λ o. absurd (both_ways false refl (end.opens o))) (end.up ∙ ap (λ (l : List Sent). j.lists.up ++ l) (sent-none j.client x.names (client_closed c.left j)) ∙ append-nil j.lists.up))
                  (λ mine was_open. given-nothing j.at_client x.core core [] none-given) (λ mine now_open m id held_it. absurd (both_ways false refl (end.opens now_open))),
            )
        | inr old ↦ (
          b.0,
          inl old.0,
          ids-moved Freed w new j.client x z x.names [] there clients b.0 d b.2 (λ mine was_open. given-nothing b.0.at_client x.core core [] none-given)
              (λ mine now_open m id held_it. inl (rests-held b.0.at_client x.core core m id (subst (λ (v : Client). Rests b.0.at_client x.core v) (sym core_is)
              (rests-ended b.0.at_client j.at_client x.core (λ same. old.1 (stands.handles n k b.0 j old.0 on mine (b.2.opens now_open) opened
              (subst (λ (h : Handle). same_handle b.0.at_client h ≡ true) (sym same) (same-itself b.0.at_client)))))) held_it)),
        )
      ]

  ids-cut : ClientsStand w → j.lists.client_open ≡ true → HappensCutClient w k j x new → AllStep Freed w new
  ids-cut stands opened happens = ids-ended stands opened happens.0 happens.2 happens.3.2 happens.4

-- ---- a message is read

ids-hearing : (w new : World) (k : ℕ) (j : Joined) (x : ClientSide) → At w.circuits k j → At w.clients j.client x → j.lists.client_open ≡ true
    → ClientsStand w → HearsSent w → HappensClientStep w k j x new
    → ((n : ℕ) (c : Joined) → At w.circuits n c → (d : Joined) × At new.circuits n d × ((i : ℕ) (t : Told) → At c.lists.down i t → At d.lists.down i t)) → AllStep IsFreedNow w new
ids-hearing w new k j x at there opened stands hears happens tells = go (connection_at x.core j.at_client) refl happens.0 happens.1 happens.2 happens.3 happens.4
  where
    go : (o : Option Connection) → connection_at x.core j.at_client ≡ o → (did : Stepped) (sent : List Sending) (core : Client)
        → StepsOn x.core j.at_client o did sent core → new ≡ client_stepped k j x did sent core w → AllStep IsFreedNow w new
    go None is did sent core steps new_is = absurd (both_ways (is_none (connection_at x.core j.at_client)) (stands.connected k j x at there opened) (ap is_none is))
    go (Some d) is NeedBytes sent core steps new_is = ids-refused IsFreedNow w new j.client x there (ap (λ (z : World). z.clients) new_is) (ap (λ (z : World). z.circuits) new_is)
    go (Some d) is (Closed c) sent core steps new_is = ids-ended IsFreedNow w new k j x at there stands opened c core steps.1.2 new_is
    go (Some d) is (Notices told) sent core steps new_is = λ n b at_b.
        let m = after-sent j.client x.names sent (slice_set w.circuits k (heard_in step j)) n b (subst (λ (v : World). At v.circuits n b) new_is at_b) in
        elim (At-set w.circuits k (heard_in step j) n m.0 m.1) [
          | inl own ↦
              let e : IsEndAfter j.client x.names sent (heard_in step j) b = subst (λ (v : Joined). IsEndAfter j.client x.names sent v b) own.1 m.2 in
              let end : IsEndAfter j.client x.names sent j b = record { client = e.client; handle = e.handle; opens = e.opens; up = e.up } in (
                j,
                inl (subst (λ (l : ℕ). At w.circuits l j) (sym own.0) at),
                ids-moved IsFreedNow w new j.client x z x.names sent there clients j b end (λ mine was_open. gives j.at_client)
                    (λ mine now_open f id held_it. elim (but-held j.at_client j.at_client x.core core steps.m f id (rests j.at_client) held_it) [
                      | inl stays ↦ inl stays
                      | inr gone ↦ inr (freed n b own.0 at_b f id gone.1)
                    ]),
              )
          | inr old ↦ (
            m.0,
            inl old.0,
            ids-moved IsFreedNow w new j.client x z x.names sent there clients m.0 b m.2 (λ mine was_open. gives m.0.at_client)
                (λ mine now_open f id held_it. elim (but-held m.0.at_client j.at_client x.core core steps.m f id (rests m.0.at_client) held_it) [
                  | inl stays ↦ inl stays
                  | inr gone ↦ absurd (old.1 (stands.handles n k m.0 j old.0 at mine (m.2.opens now_open) opened (subst (λ (h : Handle). same_handle m.0.at_client h ≡ true) (sym gone.0) (same-itself m.0.at_client))))
                ]),
          )
        ]
      where
        step : Step
        step = (let lines : List Line = lines_of (about_at j.lists (length j.lists.heard)) x.names told in let logged : ℕ = log_length x.life w.client_logs in record { sent = length j.lists.up; logged = logged; after = logged + length lines })

        z : ClientSide
        z = record x { core = core; names = x.names }

        clients : new.clients ≡ slice_set w.clients j.client z
        clients = ap (λ (v : World). v.clients) new_is

        y : Client
        y = after_taking j.at_client steps.rest x.core

        few : circuit_held.AreFew y
        few = (let f = (stands.sound j.client x there).named.few in record { channels = f.channels; requests = f.requests; subscriptions = f.subscriptions })

        attached : Attached y
        attached = (let a = (stands.sound j.client x there).placed.attached in record { requests = a.requests; subscriptions = a.subscriptions })

        e : Effect
        e = record { core = core; sent = sent; notices = told }

        gives : (on : Handle) → Given on x.core core sent
        gives on =
            let g = given-heard on y j.at_client steps.m e few steps.hears in
            record { held = g.held; idle = λ i s id at_s here gives_id other m was same. g.idle i s id at_s here gives_id other m (rests-held on x.core y m other (rests-same on x.core y refl refl refl) was) same; once = g.once }

        rests : (on : Handle) → RestsBut on j.at_client steps.m x.core core
        rests on = (let r = rests-heard on y j.at_client steps.m e attached steps.hears in record { channels = r.channels; requests = r.requests; subscriptions = r.subscriptions })

        freed : (n : ℕ) (b : Joined) → n ≡ k → At new.circuits n b → (f : Fields) (id : Id) → GoneBy j.at_client x.core steps.m f id
            → IsFreedNow j b x f id
        freed n b same at_b f id gone =
            let t = hears k j x d steps.m steps.rest at there opened is steps.first in
            let c = tells k j at in
            let one : c.0 ≡ b = At-one new.circuits k c.0 b c.1 (subst (λ (l : ℕ). At new.circuits l b) same at_b) in
            let a = after-sent j.client x.names sent (slice_set w.circuits k (heard_in step j)) n b (subst (λ (v : World). At v.circuits n b) new_is at_b) in
            let heard : b.lists.heard ≡ j.lists.heard ++ step ∷ [] = heard-of n b same at_b in (
              t.0,
              step,
              subst (λ (v : Joined). At v.lists.down (length j.lists.heard) t.0) one (c.2 (length j.lists.heard) t.0 t.1),
              subst (λ (l : List Step). At l (length j.lists.heard) step) (sym heard) (At-last j.lists.heard step),
              refl,
              subst (λ (m : Fields). GoneBy j.at_client x.core m f id) (sym t.2) gone,
            )
          where
            heard-of : (n : ℕ) (b : Joined) → n ≡ k → At new.circuits n b → b.lists.heard ≡ j.lists.heard ++ step ∷ []
            heard-of n b same at_b =
                let m = At-mapped (sent_to j.client x.names sent) (slice_set w.circuits k (heard_in step j)) n b (subst (λ (v : World). At v.circuits n b) new_is at_b) in
                elim (At-set w.circuits k (heard_in step j) n m.0 m.1) [
                  | inl own ↦ ap (λ (v : Joined). v.lists.heard) m.2 ∙ ap (λ (v : Joined). v.lists.heard) own.1
                  | inr old ↦ absurd (old.1 same)
                ]

-- ---- a circuit is made

ids-accept : (Freed : (c d : Joined) → ClientSide → Fields → Id → Type 0) (w new : World) (c : ℕ) (x : ClientSide) (v : WantsFirst w x)
    → At w.clients c x → ClientsStand w → HappensAccept w c x v new → AllStep Freed w new
ids-accept Freed w new c x v at stands happens = elim happens.leaves [
  | inl refusal ↦ ids-refused Freed w new c x at (ap (λ (z : World). z.clients) refusal.1) (ap (λ (z : World). z.circuits) refusal.1)
  | inr did ↦ λ n d at_d.
      let on : Handle = v.v.circuit in
      let there = wanted-there x.core v.place v.v v.at in
      let fresh : Joined = new_circuit c x v.v.circuit v.i v.y did.0 in
      let made : Joined = connected_as did.1 fresh in
      let core : Client = did.3 in
      let z : ClientSide = record x { core = core; names = x.names } in
      let connects : ConnectsOn x.core on (Some there.0) did.1 did.2 core = subst (λ (o : Option ClientCircuit). ConnectsOn x.core on o did.1 did.2 core) (unconnected-is x.core on there.0 there.1 there.2) did.5 in
      let b = after-sent c x.names did.2 (w.circuits ++ made ∷ []) n d (subst (λ (z : World). At z.circuits n d) did.6 at_d) in
      let few = (stands.sound c x at).named.few in
      let gives : (h : Handle) → Given h x.core core did.2 = λ h. given-connected h x.core on there.0 did.1 did.2 core few connects in
      let clients : new.clients ≡ slice_set w.clients c z = ap (λ (z : World). z.clients) did.6 in
      elim (At-snoc w.circuits made n b.0 b.1) [
        | inl old ↦ (
          b.0,
          inl old,
          ids-moved Freed w new c x z x.names did.2 at clients b.0 d b.2 (λ mine was_open. gives b.0.at_client)
              (λ mine now_open m id held_it. inl (rests-held b.0.at_client x.core core m id
              (rests-connected b.0.at_client x.core on there.0 did.1 did.2 core
              (λ same. absurd (both_ways (is_none (connection_at x.core b.0.at_client)) (stands.connected n b.0 x old (subst (λ (k : ℕ). At w.clients k x) (sym mine) at) (b.2.opens now_open))
              (subst (λ (h : Handle). is_none (connection_at x.core h) ≡ true) same (ap (λ (o : Option ClientCircuit). is_none (option_and_then (λ (d : ClientCircuit). d.connection) o)) there.1 ∙ ap is_none there.2)))) connects) held_it)),
        )
        | inr last ↦ (
          b.0,
          inr (ap (λ (y : Joined). y.lists.up) last.1 ∙ empty did.1 fresh),
          ids-moved Freed w new c x z x.names did.2 at clients b.0 d b.2 (λ mine was_open. gives b.0.at_client)
              (λ mine now_open m id held_it. inl (rests-held b.0.at_client x.core core m id
              (rests-connected b.0.at_client x.core on there.0 did.1 did.2 core
              (λ same. shut did.1 fresh (ap (λ (y : Joined). y.lists.client_open) (sym last.1) ∙ b.2.opens now_open)) connects) held_it)),
        )
      ]
]
  where
    empty : (k : Option Closing) (n : Joined) → (connected_as k n).lists.up ≡ n.lists.up
    empty None n = refl
    empty (Some e) n = refl

    shut : (k : Option Closing) (n : Joined) → (connected_as k n).lists.client_open ≡ true → k ≡ None
    shut None n opened = refl
    shut (Some e) n opened = absurd (both_ways false refl opened)

-- ---- a client begins again

ids-restart : (Freed : (c d : Joined) → ClientSide → Fields → Id → Type 0) (w new : World) (i : ℕ) (x : ClientSide) → At w.clients i x
    → HappensClientRestart w i x new → AllStep Freed w new
ids-restart Freed w new i x at happens n d at_d =
    let m = At-mapped (client_gone i x) w.circuits n d (subst (λ (v : World). At v.circuits n d) happens at_d) in
    let g = gone m.0 (eqb m.0.client i) m.0.lists.client_open in
    let end : IsEndAfter i x.names [] m.0 d =
    end-quiet i x.names m.0 d (ap (λ (v : Joined). v.client) m.2 ∙ g.0) (ap (λ (v : Joined). v.at_client) m.2 ∙ g.1) (λ o. g.2 (ap (λ (v : Joined). v.lists.client_open) (sym m.2) ∙ o)) (ap (λ (v : Joined). v.lists.up) m.2 ∙ g.3) in (
      m.0,
      inl m.1,
      ids-moved Freed w new i x _ x.names [] at (ap (λ (v : World). v.clients) happens) m.0 d end (λ mine was_open. given-nothing m.0.at_client x.core _ [] none-given)
          (λ mine now_open f id held_it. absurd (closed m.0 (eqb m.0.client i) m.0.lists.client_open (eq-eqb m.0.client i mine) refl (ap (λ (v : Joined). v.lists.client_open) (sym m.2) ∙ now_open))),
    )
  where
    left : Joined → List ℕ
    left a = out_bytes x.core a.at_client

    gone : (a : Joined) (b c : Bool) → (let d : Joined = cond (b && c) (client_closed (left a) a) a in (d.client ≡ a.client) × (d.at_client ≡ a.at_client) × (d.lists.client_open ≡ true → a.lists.client_open ≡ true) × (d.lists.up ≡ a.lists.up))
    gone a true true = (refl, refl, λ o. absurd (both_ways false refl o), refl)
    gone a true false = (refl, refl, λ o. o, refl)
    gone a false c = (refl, refl, λ o. o, refl)

    closed : (a : Joined) (b c : Bool) → b ≡ true → a.lists.client_open ≡ c → (cond (b && c) (client_closed (left a) a) a).lists.client_open ≡ true
        → ⊥
    closed a true true mine opened o = both_ways false refl o
    closed a true false mine opened o = both_ways a.lists.client_open opened o
    closed a false c mine opened o = both_ways false refl mine

-- ---- a moment

pub ids-tick : (Freed : (c d : Joined) → ClientSide → Fields → Id → Type 0) (moment : ℕ) (w : World) (i : ℕ) (new : World) → TicksOne moment w i new
    → AllStep Freed w new
ids-tick Freed moment w i new (x, at, t, sent, core, does, is) n d at_d =
    let a = At-mapped (after_tick i t.closings) (map (sent_to i x.names sent) w.circuits) n d (subst (λ (v : World). At v.circuits n d) is at_d) in
    let b = after-sent i x.names sent w.circuits n a.0 a.1 in
    let g = ticked a.0 (eqb a.0.client i && a.0.lists.client_open) (left_silent t.closings a.0) in
    let e : IsEndAfter i x.names sent b.0 a.0 = b.2 in
    let end : IsEndAfter i x.names sent b.0 d = record {
      client = ap (λ (v : Joined). v.client) a.2 ∙ g.0 ∙ e.client;
      handle = ap (λ (v : Joined). v.at_client) a.2 ∙ g.1 ∙ e.handle;
      opens = λ o. e.opens (g.2 (ap (λ (v : Joined). v.lists.client_open) (sym a.2) ∙ o));
      up = ap (λ (v : Joined). v.lists.up) a.2 ∙ g.3 ∙ e.up;
    } in (
      b.0,
      inl b.1,
      ids-moved Freed w new i x (record x { core = core; names = x.names }) x.names sent at (ap (λ (v : World). v.clients) is) b.0 d end
          (λ mine was_open. given-nothing b.0.at_client x.core core sent (gives-of sent (searches_made (circuits_ticked moment x.core)).sent does.1 (none-ticked moment x.core)))
          (λ mine now_open m id held_it. inl (rests-held b.0.at_client x.core core m id
          (subst (λ (v : Client). Rests b.0.at_client x.core v) (sym does.2) (rests-ticked b.0.at_client moment x.core
          (λ l f there same. stays a.0 (e.client ∙ mine) (g.2 (ap (λ (v : Joined). v.lists.client_open) (sym a.2) ∙ now_open)) l f
          (subst (λ (v : answer.Ticked). At v.closings l f) (sym does.0) there) (same ∙ sym e.handle) (ap (λ (v : Joined). v.lists.client_open) (sym a.2) ∙ now_open)))) held_it)),
    )
  where
    ticked : (a : Joined) (b : Bool) (o : Option (List ℕ)) → (let d : Joined = cond b (unwrap_or (option_map (λ (left : List ℕ). client_closed left a) o) a) a in
        (d.client ≡ a.client) × (d.at_client ≡ a.at_client) × (d.lists.client_open ≡ true → a.lists.client_open ≡ true) × (d.lists.up ≡ a.lists.up))
    ticked a true (Some left) = (refl, refl, λ o. absurd (both_ways false refl o), refl)
    ticked a true None = (refl, refl, λ o. o, refl)
    ticked a false o = (refl, refl, λ o. o, refl)

    -- an end that is open still was not closed
    stays : (a : Joined) → a.client ≡ i → a.lists.client_open ≡ true → (l : ℕ) (f : Left) → At t.closings l f → f.circuit ≡ a.at_client
        → (after_tick i t.closings a).lists.client_open ≡ true → ⊥
    stays a mine opened l f there same now_open =
        let found = at-find (λ (z : Left). same_handle z.circuit a.at_client) t.closings l f there (subst (λ (h : Handle). same_handle h a.at_client ≡ true) (sym same) (same-itself a.at_client)) in
        go found.0 (eqb a.client i) (eq-eqb a.client i mine) a.lists.client_open opened (find (λ (z : Left). same_handle z.circuit a.at_client) t.closings) found.1 now_open
      where
        none-some : (f : Left) → (let o : Option Left = None in o ≡ Some f) → ⊥
        none-some f e = cc

        go : (f : Left) (b : Bool) → b ≡ true → (c : Bool) → c ≡ true → (o : Option Left) → o ≡ Some f
            → (cond (b && c) (unwrap_or (option_map (λ (left : List ℕ). client_closed left a) (option_map (λ (z : Left). z.bytes) o)) a) a).lists.client_open ≡ true
            → ⊥
        go f true p true q (Some g) r s = both_ways false refl s
        go f true p true q None r s = none-some f r
        go f true p false q o r s = both_ways false refl q
        go f false p c q o r s = both_ways false refl p

-- ---- every event

ids-from : (Freed : (c d : Joined) → ClientSide → Fields → Id → Type 0) (w new : World) → From w new → AllStep Freed w new
ids-from Freed w new f = ids-still Freed w new f.clients (λ n d at. (let b = f.circuits n d at in (b.0, b.1, b.2.client, b.2.handle, b.2.opens, b.2.up)))

-- A moment was handed to clients, one after another.
abbrev pub IsTicked : (w new : World) → Type 0
IsTicked w new = (moment : ℕ) × (is : List ℕ) × (mid : World) × FoldsTo (TicksOne moment) w is mid × (new ≡ record mid { moment = moment })

pub event-ids : (w new : World) (e : Event) → ClientsStand w → HearsSent w → Happens w e new
    → ((n : ℕ) (c : Joined) → At w.circuits n c → (d : Joined) × At new.circuits n d × ((i : ℕ) (t : Told) → At c.lists.down i t → At d.lists.down i t))
    → AllStep IsFreedNow w new ⊎ IsTicked w new
event-ids w new e s hears happens tells = go e happens
  where
    few : (i : ℕ) (x : ClientSide) → At w.clients i x → circuit_held.AreFew x.core
    few i x at = (s.sound i x at).named.few

    attached : (i : ℕ) (x : ClientSide) → At w.clients i x → Attached x.core
    attached i x at = (s.sound i x at).placed.attached

    nothing : (n : ℕ) (x : ClientSide) → new.clients ≡ w.clients → new.circuits ≡ w.circuits → AllStep IsFreedNow w new
    nothing n x clients circuits = ids-still IsFreedNow w new clients (λ m d at_d. (d, subst (λ (l : List Joined). At l m d) circuits at_d, refl, refl, (λ o. o), refl))

    go : (e : Event) → Happens w e new → AllStep IsFreedNow w new ⊎ IsTicked w new
    go (event.Open i name priority) h = inl (ids-open IsFreedNow w new i h.0.x h.0.at (few i h.0.x h.0.at) (attached i h.0.x h.0.at) name priority h.1)
    go (event.Clear i k) h = inl (ids-clear IsFreedNow w new i h.0.x h.0.at (few i h.0.x h.0.at) (attached i h.0.x h.0.at) k h.0.h h.1)
    go (event.Read i k data_type count) h = inl (ids-read IsFreedNow w new i h.0.x h.0.at (few i h.0.x h.0.at) (attached i h.0.x h.0.at) k h.0.h data_type count h.1)
    go (event.Write i k e) h = inl (ids-write IsFreedNow w new i h.0.x h.0.at (few i h.0.x h.0.at) (attached i h.0.x h.0.at) k h.0.h e h.1)
    go (event.WriteNotify i k e) h = inl (ids-put IsFreedNow w new i h.0.x h.0.at (few i h.0.x h.0.at) (attached i h.0.x h.0.at) k h.0.h e h.1)
    go (event.Subscribe i k data_type count mask) h = inl (ids-subscribe IsFreedNow w new i h.0.x h.0.at (few i h.0.x h.0.at) (attached i h.0.x h.0.at) k h.0.h data_type count mask h.1)
    go (event.Unsubscribe i n) h = inl (ids-unsubscribe IsFreedNow w new i h.0.x h.0.at (few i h.0.x h.0.at) (attached i h.0.x h.0.at) h.0.s h.1)
    go (event.Collect i r) h = inl (nothing i h.0.x (ap (λ (z : World). z.clients) h.1.2) (ap (λ (z : World). z.circuits) h.1.2))
    go (event.GiveUp i r) h = inl (nothing i h.0.x (ap (λ (z : World). z.clients) h.1.2) (ap (λ (z : World). z.circuits) h.1.2))
    go (event.ClientDatagram i from bytes) h = inl (ids-datagram IsFreedNow w new i h.0.x h.0.at (few i h.0.x h.0.at) (attached i h.0.x h.0.at) from bytes h.1)
    go (event.ServerDatagram i from bytes) h = inl (ids-still IsFreedNow w new (ap (λ (z : World). z.clients) h.1.2) (λ m d at_d. (d, subst (λ (l : List Joined). At l m d) (ap (λ (z : World). z.circuits) h.1.2) at_d, refl, refl, (λ o. o), refl)))
    go (event.Accept i) h = inl (ids-accept IsFreedNow w new i h.0.x h.0.v h.0.at s h.1)
    go (event.Up k n) h = inl ((let c = h.0.0 in ids-up IsFreedNow w new k c.j c.x c.joins.at c.joins.client n c.y h.1))
    go (event.Down k n) h = inl ((let c = h.0.0 in ids-down IsFreedNow w new k c.j c.x c.joins.at c.joins.client n c.y h.1))
    go (event.ServerStep k) h = inl ((let c = h.0 in ids-from IsFreedNow w new (from-server-step w w new k c.j c.y c.joins.at (from-itself w) h.1)))
    go (event.ClientStep k) h = inl ((let c = h.0 in ids-hearing w new k c.j c.x c.joins.at c.joins.client c.is_open s hears h.1 tells))
    go (event.Pump k) h = inl ((let c = h.0 in ids-from IsFreedNow w new (from-pump w w new k c.j c.y c.joins.at (from-itself w) h.1)))
    go (event.CutClient k) h = inl ((let c = h.0 in ids-cut IsFreedNow w new k c.j c.x c.joins.at c.joins.client s c.is_open h.1))
    go (event.CutServer k) h = inl ((let c = h.0 in ids-from IsFreedNow w new (from-cut-server w w new k c.j c.y c.joins.at (from-itself w) h.1)))
    go (event.ClientRestart i) h = inl (ids-restart IsFreedNow w new i h.0.x h.0.at h.1)
    go (event.ServerRestart i) h = inl (ids-from IsFreedNow w new (from-server-restart w w new i h.0.y (from-itself w) h.1))
    go (event.Post i name e mask) h = inl (ids-from IsFreedNow w new (from-post w w new i h.0.y (from-itself w) name e mask h.1))
    go (event.Finish i name) h = inl (ids-from IsFreedNow w new (from-finish w w new i h.0.y (from-itself w) name h.1))
    go (event.Remove i name) h = inl (ids-from IsFreedNow w new (from-remove w w new i h.0.y (from-itself w) name h.1))
    go (event.Add i r) h = inl (ids-from IsFreedNow w new (from-add w w new i h.0.y (from-itself w) r h.1))
    go (event.Tick moment) h = inr (moment, clients_below (length w.clients), h.1.0, h.1.1, h.1.2)
