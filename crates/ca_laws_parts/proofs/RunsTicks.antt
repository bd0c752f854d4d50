-- A moment is handed to clients: ends that were silent too long are closed, and what is held of
-- each other circuit stays so.
use Rattle.std.proofs.Common.{◌≡◌, ℕ, inl, inr, Bool, true, false, ◌&&◌, cond, eqb, List, [], ◌∷◌, ◌++◌, length, Option, Some, None, refl, sym, ◌∙◌, subst, arith}
use Rattle.std.specs.Prelude.{filter, find, fold, map, option_map, slice_set, unwrap_or}
use Rattle.std.specs.List.{FoldsTo}
use Rattle.std.proofs.lemmas.Bool.{both_ways, eq-eqb, eqb-true}
use Rattle.std.proofs.lemmas.List.{append-nil}
use Rattle.ca_text.specs.Place.{At}
use Rattle.ca_text.proofs.Places.{At-append, At-last, At-map, At-one, At-set-other, At-within}
use Rattle.ca_text.specs.declared.command.Command.TheVariants as command
use Rattle.ca_arena.specs.declared.handle.Handle.{Handle}
use Rattle.ca_ids.specs.Table.{same_handle}
use Rattle.ca_link.specs.declared.keep.Keep.{Keep}
use Rattle.ca_link.specs.declared.keep.Keep.TheVariants.{Close, Echo, Idle}
use Rattle.ca_link.specs.Link.{kept}
use Rattle.ca_search.specs.Searches as search
use Rattle.ca_wire.specs.Fields.{Fields}
use Rattle.ca_wire.specs.Messages.{header_only, search_request}
use Rattle.ca_model.specs.Answers.{Left, Sending}
use Rattle.ca_model.specs.Answers as answer
use Rattle.ca_model.specs.Client.{Client, Connection, connection_at, later, on_connection, out_bytes, sending}
use Rattle.ca_model.specs.ClientCalls.{is_over}
use Rattle.ca_model.specs.ClientEnds.{Ticking, all_searched_on, circuits_ticked, due, is_name_connected, of_circuit, searches_made, searches_on, ticks, ticks_as, with_sending}
use Rattle.ca_model.specs.History.{Sent}
use Rattle.ca_model.specs.History as history
use Rattle.ca_model.specs.Channels.{Suits}
use Rattle.ca_model.specs.ClientEvents.{TicksOne, after_tick, client_closed}
use Rattle.ca_model.specs.World.{ClientSide, Joined, Names, World}
use Rattle.ca_laws_parts.specs.Flows.{Awaits, Flows}
use Rattle.ca_laws_parts.specs.Held.{HoldAlike}
use Rattle.ca_laws_parts.proofs.Alike.{client-itself}
use Rattle.ca_laws_parts.proofs.Connects.{serving-may}
use Rattle.ca_laws_parts.proofs.Flows.{flows-sent}
use Rattle.ca_model.proofs.Handles.{same-itself, same-not}
use Rattle.ca_model.proofs.Tables.{at-find}
use Rattle.ca_laws_parts.specs.Circuit.{HeldAt, HeldOn, sent_to, stamped}
use Rattle.ca_laws_parts.proofs.ClientsMore.{left-by}
use Rattle.ca_laws_parts.proofs.RunsMoves.{flows-closed, on-connection-alike, others-held, served-held}
use Rattle.ca_laws_parts.proofs.Restarts.{sent-after}
use Rattle.ca_laws_parts.proofs.RunsSending.{with_up}
use Rattle.ca_laws_parts.proofs.Worlds.{other-client}
use Rattle.ca_model.proofs.Thinner.{number-or, set-there}

serves-echo : Suits history.OfCircuit (header_only command.Echo)
serves-echo history.Create e = (let f : ◌≡◌ {A = ℕ} 23 18 = e in omega (arith, f))
serves-echo history.Clear e = (let f : ◌≡◌ {A = ℕ} 23 12 = e in omega (arith, f))
serves-echo (history.Request history.Read n) e = (let f : ◌≡◌ {A = ℕ} 23 15 = e in omega (arith, f))
serves-echo (history.Request history.Put n) e = (let f : ◌≡◌ {A = ℕ} 23 19 = e in omega (arith, f))
serves-echo (history.Request history.Write n) e = (let f : ◌≡◌ {A = ℕ} 23 4 = e in omega (arith, f))
serves-echo (history.Subscribe n) e = (let f : ◌≡◌ {A = ℕ} 23 1 = e in omega (arith, f))
serves-echo (history.Cancel n) e = (let f : ◌≡◌ {A = ℕ} 23 2 = e in omega (arith, f))

serves-search : (cid : ℕ) (name : List ℕ) → Suits history.OfCircuit (search_request cid name)
serves-search cid name history.Create e = (let f : ◌≡◌ {A = ℕ} 6 18 = e in omega (arith, f))
serves-search cid name history.Clear e = (let f : ◌≡◌ {A = ℕ} 6 12 = e in omega (arith, f))
serves-search cid name (history.Request history.Read n) e = (let f : ◌≡◌ {A = ℕ} 6 15 = e in omega (arith, f))
serves-search cid name (history.Request history.Put n) e = (let f : ◌≡◌ {A = ℕ} 6 19 = e in omega (arith, f))
serves-search cid name (history.Request history.Write n) e = (let f : ◌≡◌ {A = ℕ} 6 4 = e in omega (arith, f))
serves-search cid name (history.Subscribe n) e = (let f : ◌≡◌ {A = ℕ} 6 1 = e in omega (arith, f))
serves-search cid name (history.Cancel n) e = (let f : ◌≡◌ {A = ℕ} 6 2 = e in omega (arith, f))

module _ (kept_at : List ℕ) (i : ℕ) (n : Names) (a : Joined) (mine : a.client ≡ i) where
  -- what is always kept of the circuit
  abbrev FlowsSo : List Sending → Type 0
  FlowsSo sent = Flows (Awaits a.lists kept_at) (sent_to i n sent a).lists

  -- and what is while its end is not closed
  abbrev HeldSo : Ticking → Type 0
  HeldSo t = HeldOn kept_at n t.core (sent_to i n t.sent a)

  abbrev Away : List Left → Type 0
  Away closings = (l : ℕ) (e : Left) → At closings l e → e.circuit ≡ a.at_client → ⊥

  -- one more message of a circuit as a whole
  flows-one : (c : Handle) (m : Fields) (sent : List Sending) → Suits history.OfCircuit m → FlowsSo sent → FlowsSo (sent ++ of_circuit c m ∷ [])
  flows-one c m sent serves f =
      subst (λ (j : Joined). Flows (Awaits a.lists kept_at) j.lists) (sym (sent-after i n sent (of_circuit c m ∷ []) a))
      (go (eqb a.client i && a.lists.client_open) (same_handle c a.at_client))
    where
      as-was : Flows (Awaits a.lists kept_at) (with_up ((sent_to i n sent a).lists.up ++ []) (sent_to i n sent a)).lists
      as-was = subst (λ (l : List Sent). Flows (Awaits a.lists kept_at) (with_up l (sent_to i n sent a)).lists) (sym (append-nil (sent_to i n sent a).lists.up)) f

      go : (b d : Bool) → Flows (Awaits a.lists kept_at) (with_up ((sent_to i n sent a).lists.up ++ cond b (map (stamped n) (cond d (of_circuit c m ∷ []) [])) []) (sent_to i n sent a)).lists
      go true true = flows-sent (Awaits a.lists kept_at) (sent_to i n sent a).lists (stamped n (of_circuit c m)) (serving-may (Awaits a.lists kept_at) (sent_to i n sent a).lists (stamped n (of_circuit c m)) refl serves) f
      go true false = as-was
      go false d = as-was

  held-one : (c : Handle) (m : Fields) (t : Ticking) (z : Client) → HoldAlike a.at_client t.core z → Suits history.OfCircuit m → HeldSo t → HeldOn kept_at n (sending (of_circuit c m ∷ []) z) (sent_to i n (t.sent ++ of_circuit c m ∷ []) a)
  held-one c m t z alike serves h =
      subst (λ (j : Joined). HeldOn kept_at n (sending (of_circuit c m ∷ []) z) j) (sym (sent-after i n t.sent (of_circuit c m ∷ []) a))
      (served-held kept_at i n t.core z (sent_to i n t.sent a) c m alike serves h mine)

  -- ---- circuits

  flows-ticks : (t : Ticking) (c : Handle) → FlowsSo t.sent → FlowsSo (ticks t c).sent
  flows-ticks t c f = go (connection_at t.core c)
    where
      by : (k : Keep) → FlowsSo (ticks_as k c t).sent
      by Idle = f
      by Close = f
      by Echo = flows-one c (header_only command.Echo) t.sent serves-echo f

      go : (o : Option Connection) → FlowsSo (unwrap_or (option_map (λ (e : Connection). ticks_as (kept t.core.moment e.link) c t) o) t).sent
      go None = f
      go (Some e) = by (kept t.core.moment e.link)

  closings-more : (t : Ticking) (c : Handle) (l : ℕ) (e : Left) → At t.closings l e → At (ticks t c).closings l e
  closings-more t c l e at = go (connection_at t.core c)
    where
      by : (k : Keep) → At (ticks_as k c t).closings l e
      by Idle = at
      by Close = At-append t.closings (record { circuit = c; bytes = out_bytes t.core c } ∷ []) l e at
      by Echo = at

      go : (o : Option Connection) → At (unwrap_or (option_map (λ (e : Connection). ticks_as (kept t.core.moment e.link) c t) o) t).closings l e
      go None = at
      go (Some w) = by (kept t.core.moment w.link)

  closings-all : (order : List Handle) (t : Ticking) (l : ℕ) (e : Left) → At t.closings l e → At (fold ticks t order).closings l e
  closings-all [] t l e at = at
  closings-all (c ∷ order) t l e at = closings-all order (ticks t c) l e (closings-more t c l e at)

  held-ticks : (t : Ticking) (c : Handle) → Away (ticks t c).closings → HeldSo t → HeldSo (ticks t c)
  held-ticks t c away h = go (connection_at t.core c) away
    where
      by : (k : Keep) → Away (ticks_as k c t).closings → HeldSo (ticks_as k c t)
      by Idle far = h
      by Close far =
          let new : Left = record { circuit = c; bytes = out_bytes t.core c } in
          others-held kept_at n t.core (sent_to i n t.sent a) c (λ o. same-not c a.at_client (λ e. far (length t.closings) new (At-last t.closings new) e)) h
      by Echo far =
          let noted : Client = on_connection (λ (e : Connection). record e { link = record e.link { echoed = true } }) c t.core in
          held-one c (header_only command.Echo) t noted (on-connection-alike a.at_client c _ t.core) serves-echo h

      go : (o : Option Connection) → Away (unwrap_or (option_map (λ (e : Connection). ticks_as (kept t.core.moment e.link) c t) o) t).closings
          → HeldSo (unwrap_or (option_map (λ (e : Connection). ticks_as (kept t.core.moment e.link) c t) o) t)
      go None far = h
      go (Some e) far = by (kept t.core.moment e.link) far

  flows-circuits : (order : List Handle) (t : Ticking) → FlowsSo t.sent → FlowsSo (fold ticks t order).sent
  flows-circuits [] t f = f
  flows-circuits (c ∷ order) t f = flows-circuits order (ticks t c) (flows-ticks t c f)

  held-circuits : (order : List Handle) (t : Ticking) → Away (fold ticks t order).closings → HeldSo t → HeldSo (fold ticks t order)
  held-circuits [] t away h = h
  held-circuits (c ∷ order) t away h =
      held-circuits order (ticks t c) away (held-ticks t c (λ l e at is. away l e (closings-all order (ticks t c) l e at) is) h)

  -- ---- searches

  flows-search : (c : Handle) (t : Ticking) (w : search.Wanted) → FlowsSo t.sent → FlowsSo (searches_on c t w).sent
  flows-search c t w f = go (is_over t.core c)
    where
      go : (b : Bool) → FlowsSo (cond b t (with_sending (of_circuit c (search_request w.cid w.name)) t)).sent
      go true = f
      go false = flows-one c (search_request w.cid w.name) t.sent (serves-search w.cid w.name) f

  held-search : (c : Handle) (t : Ticking) (w : search.Wanted) → HeldSo t → HeldSo (searches_on c t w)
  held-search c t w h = go (is_over t.core c)
    where
      go : (b : Bool) → HeldSo (cond b t (with_sending (of_circuit c (search_request w.cid w.name)) t))
      go true = h
      go false = held-one c (search_request w.cid w.name) t t.core (client-itself a.at_client t.core) (serves-search w.cid w.name) h

  both-searched : (c : Handle) (ws : List search.Wanted) (t : Ticking) → (FlowsSo t.sent → FlowsSo (fold (searches_on c) t ws).sent) × (HeldSo t → HeldSo (fold (searches_on c) t ws))
  both-searched c [] t = ((λ f. f), (λ h. h))
  both-searched c (w ∷ ws) t = (let r = both-searched c ws (searches_on c t w) in ((λ f. r.0 (flows-search c t w f)), (λ h. r.1 (held-search c t w h))))

  both-all : (ws : List search.Wanted) (cs : List Handle) (t : Ticking) → (FlowsSo t.sent → FlowsSo (fold (all_searched_on ws) t cs).sent) × (HeldSo t → HeldSo (fold (all_searched_on ws) t cs))
  both-all ws [] t = ((λ f. f), (λ h. h))
  both-all ws (c ∷ cs) t =
      let r = both-all ws cs (all_searched_on ws t c) in
      let s = both-searched c ws t in
      ((λ f. r.0 (s.0 f)), (λ h. r.1 (s.1 h)))

  flows-made : (t : Ticking) → FlowsSo t.sent → FlowsSo (searches_made t).sent
  flows-made t f = (both-all (due t.core) (filter (is_name_connected t.core) t.core.order) t).0 f

  held-made : (t : Ticking) → HeldSo t → HeldSo (searches_made t)
  held-made t h =
      let r = (both-all (due t.core) (filter (is_name_connected t.core) t.core.order) t).1 h in
      record { flows = r.flows; cids = r.cids; holds = λ o. (let q = r.holds o in record { channels = q.channels; requests = q.requests; subscriptions = q.subscriptions }) }

  -- ---- the circuit after the tick

  ticked-flows : (moment : ℕ) (x : Client) → HeldOn kept_at n x a → FlowsSo (searches_made (circuits_ticked moment x)).sent
  ticked-flows moment x held =
      flows-made (circuits_ticked moment x)
      (flows-circuits x.order (record { core = record x { moment = later moment x }; sent = []; notices = []; closings = [] }) (go (eqb a.client i && a.lists.client_open)))
    where
      as-was : Flows (Awaits a.lists kept_at) (with_up (a.lists.up ++ []) a).lists
      as-was = subst (λ (l : List Sent). Flows (Awaits a.lists kept_at) (with_up l a).lists) (sym (append-nil a.lists.up)) held.flows

      go : (b : Bool) → Flows (Awaits a.lists kept_at) (with_up (a.lists.up ++ cond b [] []) a).lists
      go true = as-was
      go false = as-was

  ticked-held : (moment : ℕ) (x : Client) → Away (circuits_ticked moment x).closings → HeldOn kept_at n x a → HeldSo (searches_made (circuits_ticked moment x))
  ticked-held moment x away held =
      held-made (circuits_ticked moment x)
      (held-circuits x.order (record { core = record x { moment = later moment x }; sent = []; notices = []; closings = [] }) away (go (eqb a.client i && a.lists.client_open)))
    where
      moved : HeldOn kept_at n (record x { moment = later moment x }) (with_up (a.lists.up ++ []) a)
      moved = subst (λ (l : List Sent). HeldOn kept_at n (record x { moment = later moment x }) (with_up l a)) (sym (append-nil a.lists.up)) (record {
        flows = held.flows;
        cids = held.cids;
        holds = λ o. (let q = held.holds o in record { channels = q.channels; requests = q.requests; subscriptions = q.subscriptions });
      })

      go : (b : Bool) → HeldOn kept_at n (record x { moment = later moment x }) (with_up (a.lists.up ++ cond b [] []) a)
      go true = moved
      go false = moved

  after-held : (moment : ℕ) (x : Client) → HeldOn kept_at n x a
      → (let t : Ticking = circuits_ticked moment x in HeldOn kept_at n (searches_made t).core (after_tick i t.closings (sent_to i n (searches_made t).sent a)))
  after-held moment x held = go (eqb a.client i) (eq-eqb a.client i mine) a.lists.client_open refl (find (λ (l : Left). same_handle l.circuit a.at_client) (circuits_ticked moment x).closings) refl
    where
      flows : Flows (Awaits a.lists kept_at) (sent_to i n (searches_made (circuits_ticked moment x)).sent a).lists
      flows = ticked-flows moment x held

      none-some : (y : Left) → let p : Option Left = None in let q : Option Left = Some y in p ≡ q → ⊥
      none-some y e = cc

      go : (b : Bool) → b ≡ true → (opened : Bool) → a.lists.client_open ≡ opened → (o : Option Left) → find (λ (l : Left). same_handle l.circuit a.at_client) (circuits_ticked moment x).closings ≡ o
          → HeldOn kept_at n (searches_made (circuits_ticked moment x)).core
          (cond (b && opened) (unwrap_or (option_map (λ (left : List ℕ). client_closed left (sent_to i n (searches_made (circuits_ticked moment x)).sent a)) (option_map (λ (l : Left). l.bytes) o)) (sent_to i n (searches_made (circuits_ticked moment x)).sent a)) (sent_to i n (searches_made (circuits_ticked moment x)).sent a))
      go true same false shut o found =
          record { flows = flows; cids = λ p. absurd (both_ways a.lists.client_open shut p); holds = λ p. absurd (both_ways a.lists.client_open shut p) }
      go true same true open_it (Some e) found =
          record { flows = flows-closed kept_at (sent_to i n (searches_made (circuits_ticked moment x)).sent a).lists flows; cids = λ p. absurd (both_ways false refl p); holds = λ p. absurd (both_ways false refl p) }
      go true same true open_it None found =
          ticked-held moment x (λ l e at is.
          let f = at-find (λ (z : Left). same_handle z.circuit a.at_client) (circuits_ticked moment x).closings l e at (subst (λ (h : Handle). same_handle h a.at_client ≡ true) (sym is) (same-itself a.at_client)) in
          none-some f.0 (sym found ∙ f.1)) held
      go false same opened open_it o found = absurd (both_ways false refl same)

tick-client : (i : ℕ) (closings : List Left) (j : Joined) → (after_tick i closings j).client ≡ j.client
tick-client i closings j = go (eqb j.client i && j.lists.client_open) (option_map (λ (l : Left). l.bytes) (find (λ (l : Left). same_handle l.circuit j.at_client) closings))
  where
    go : (b : Bool) (o : Option (List ℕ)) → (cond b (unwrap_or (option_map (λ (left : List ℕ). client_closed left j) o) j) j).client ≡ j.client
    go true (Some left) = refl
    go true None = refl
    go false o = refl

tick-elsewhere : (kept_at : List ℕ) (i : ℕ) (n : Names) (x : Client) (closings : List Left) (j : Joined) → (j.client ≡ i → ⊥) → HeldOn kept_at n x j → HeldOn kept_at n x (after_tick i closings j)
tick-elsewhere kept_at i n x closings j other held = go (eqb j.client i) refl
  where
    go : (b : Bool) → eqb j.client i ≡ b → HeldOn kept_at n x (cond (b && j.lists.client_open) (unwrap_or (option_map (λ (left : List ℕ). client_closed left j) (option_map (λ (l : Left). l.bytes) (find (λ (l : Left). same_handle l.circuit j.at_client) closings))) j) j)
    go true is = absurd (other (eqb-true j.client i is))
    go false is = held

keeps-tick-one : (kept_at : List ℕ) (moment : ℕ) (w : World) (i k : ℕ) (new : World) → TicksOne moment w i new → HeldAt kept_at w k → HeldAt kept_at new k
keeps-tick-one kept_at moment w i k new happens held =
    let x : ClientSide = happens.0 in
    let does = happens.5 in
    let j : Joined = held.0 in
    let t : Ticking = circuits_ticked moment x.core in
    let sent : List Sending = (searches_made t).sent in
    let z : ClientSide = record x { core = (searches_made t).core } in
    let there : At (map (after_tick i t.closings) (map (sent_to i x.names sent) w.circuits)) k (after_tick i t.closings (sent_to i x.names sent j)) =
    At-map (after_tick i t.closings) (map (sent_to i x.names sent) w.circuits) k (sent_to i x.names sent j) (At-map (sent_to i x.names sent) w.circuits k j held.2) in
    subst (λ (v : World). HeldAt kept_at v k) (sym happens.6)
    (subst (λ (q : List Sending × (answer.Ticked × Client)). HeldAt kept_at (left-by moment w i x q.0 q.1.0 q.1.1) k) (λ e. (sym does.1 e, (sym does.0 e, sym does.2 e))) (elim (number-or j.client i) [
      | inl mine ↦
          let one : held.1 ≡ x = At-one w.clients i held.1 x (subst (λ (c : ℕ). At w.clients c held.1) mine held.3) happens.1 in
          let was : HeldOn kept_at x.names x.core j = subst (λ (q : ClientSide). HeldOn kept_at q.names q.core j) one held.4 in (
            after_tick i t.closings (sent_to i x.names sent j),
            z,
            there,
            subst (λ (c : ℕ). At (slice_set w.clients i z) c z) (sym (tick-client i t.closings (sent_to i x.names sent j) ∙ mine)) (set-there w.clients i z (At-within w.clients i x happens.1)),
            after-held kept_at i x.names j mine moment x.core was,
          )
      | inr other ↦ (
        after_tick i t.closings (sent_to i x.names sent j),
        held.1,
        there,
        subst (λ (c : ℕ). At (slice_set w.clients i z) c held.1) (sym (tick-client i t.closings (sent_to i x.names sent j))) (At-set-other w.clients i j.client held.1 z held.3 other),
        tick-elsewhere kept_at i held.1.names held.1.core t.closings (sent_to i x.names sent j) other (other-client kept_at i held.1.names x.names held.1.core sent j other held.4),
      )
    ]))

pub keeps-ticks : (kept_at : List ℕ) (moment k : ℕ) (clients : List ℕ) (w new : World) → FoldsTo (TicksOne moment) w clients new → HeldAt kept_at w k → HeldAt kept_at new k
keeps-ticks kept_at moment k [] w new folds held = subst (λ (v : World). HeldAt kept_at v k) folds held
keeps-ticks kept_at moment k (i ∷ clients) w new folds held = keeps-ticks kept_at moment k clients folds.0 new folds.2 (keeps-tick-one kept_at moment w i k folds.0 folds.1 held)
