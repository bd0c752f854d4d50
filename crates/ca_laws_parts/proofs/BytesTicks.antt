-- A moment is handed to clients: what is sent waits, and an end that fell
-- silent leaves what waited.
use Rattle.std.proofs.Common.{◌≡◌, ℕ, suc, zero, ◌⊎◌, inl, inr, Bool, true, false, ◌&&◌, cond, eqb, List, [], ◌∷◌, ◌++◌, Option, Some, None, refl, sym, ap, ◌∙◌, subst, append_assoc}
use Rattle.std.specs.Prelude.{filter, find, fold, is_none, is_some, map, option_and_then, option_map, unwrap_or}
use Rattle.std.proofs.lemmas.Bool.{and_from, both_ways, cases_Bool, eq-eqb, eqb-true}
use Rattle.std.proofs.lemmas.List.{append-nil}
use Rattle.ca_arena.specs.declared.handle.Handle.{Handle}
use Rattle.ca_ids.specs.Table.{same_handle, under}
use Rattle.ca_link.specs.declared.keep.Keep.{Keep}
use Rattle.ca_link.specs.declared.keep.Keep.TheVariants.{Close, Echo, Idle}
use Rattle.ca_link.specs.Link.{kept}
use Rattle.ca_search.specs.Searches as search
use Rattle.ca_text.specs.declared.command.Command.TheVariants as command
use Rattle.ca_text.specs.Place.{At}
use Rattle.ca_text.proofs.Places.{some_is}
use Rattle.ca_wire.specs.Fields.{Fields}
use Rattle.ca_wire.specs.Message.{spelled}
use Rattle.ca_wire.specs.Messages.{header_only, search_request}
use Rattle.ca_model.specs.Answers.{Left, Sending}
use Rattle.ca_model.specs.Answers as answer
use Rattle.ca_model.specs.Client.{Client, ClientCircuit, Connection, channels_ended, connection_at, disconnected, ended, later, let_go, on_connection, out_bytes, sending, without_circuit, without_ids}
use Rattle.ca_model.specs.ClientCalls.{is_over}
use Rattle.ca_model.specs.ClientEnds.{Ticking, all_searched_on, circuits_ticked, due, is_name_connected, of_circuit, searches_made, searches_on, ticked, ticks, ticks_as, with_sending}
use Rattle.ca_model.specs.ClientEvents.{TicksOne, after_tick, client_closed}
use Rattle.ca_model.specs.World.{ClientSide, Joined, ServerSide, World}
use Rattle.ca_model.proofs.Handles.{handle-or, same-itself, same-not}
use Rattle.ca_model.proofs.Tables.{changed-own, freed-back}
use Rattle.ca_laws_parts.specs.Circuit.{sent_to}
use Rattle.ca_laws_parts.specs.Clients.{ClientsStand}
use Rattle.ca_laws_parts.proofs.ClientsMore.{left-by}
use Rattle.ca_model.proofs.Letting.{ends-ended}
use Rattle.ca_model.proofs.Placed.{keeps-on, keeps-sending}
use Rattle.ca_laws_parts.specs.Worlds.{AllStream, StreamsOn, client_end, server_end}
use Rattle.ca_laws_parts.proofs.ClientEvents.{mapped}
use Rattle.ca_laws_parts.proofs.Clients.{client-ends, client-open, client-shut, connected-so, other-streams, out-of, up-open, up-shut}
use Rattle.ca_laws_parts.proofs.Links.{GoesOn, at-circuit, channels-ended-circuits, circuit-of, connection-other, connection-own, ended-goes, goes-sending, goes-then, messages-both, messages_on}
use Rattle.ca_laws_parts.proofs.Streaming.{Acts, spelled-more}

-- ---- the end of a circuit that ended

ended-none : (h : Handle) (x : Client) (d : Connection) → connection_at x h ≡ Some d → is_none (connection_at (ended h x) h) ≡ true
ended-none h x d is = go (under x.circuits h) refl (circuit-of x h d is)
  where
    z : Client
    z = channels_ended h (without_ids h x)

    let-go : (k : ClientCircuit) → under z.circuits h ≡ Some k → (b : Bool) → is_none (connection_at (cond b (disconnected h z) (without_circuit h z)) h) ≡ true
    let-go k there true = ap is_none (at-circuit (disconnected h z) h (record k { connection = None }) (changed-own (λ (c : ClientCircuit). record c { connection = None }) z.circuits h k there))
    let-go k there false = none (under (without_circuit h z).circuits h) refl
      where
        none : (o : Option ClientCircuit) → under (without_circuit h z).circuits h ≡ o → is_none (option_and_then (λ (c : ClientCircuit). c.connection) (under (without_circuit h z).circuits h)) ≡ true
        none None e = ap (λ (p : Option ClientCircuit). is_none (option_and_then (λ (c : ClientCircuit). c.connection) p)) e
        none (Some c) e = absurd ((freed-back z.circuits h h c e).0 refl)

    go : (o : Option ClientCircuit) → under x.circuits h ≡ o → (c : ClientCircuit) × (under x.circuits h ≡ Some c) × (c.connection ≡ Some d)
        → is_none (connection_at (unwrap_or (option_map (λ (k : ClientCircuit). let_go h k z) o) x) h) ≡ true
    go None e c = absurd (let f : None ≡ Some c.0 = sym e ∙ c.1 in cc)
    go (Some k) e c = let-go k (ap (λ (t : _). under t h) (channels-ended-circuits h (without_ids h x)) ∙ e) k.is_name

-- ---- lists

find-kept : {A : Type 0} (test : A → Bool) (xs : List A) (y l : A) → find test xs ≡ Some l → find test (xs ++ y ∷ []) ≡ Some l
find-kept test [] y l is = absurd cc
find-kept {A} test (x ∷ xs) y l is = go (test x) is (λ e. find-kept test xs y l e)
  where
    go : (b : Bool) → cond b (Some x) (find test xs) ≡ Some l → (find test xs ≡ Some l → find test (xs ++ y ∷ []) ≡ Some l) → cond b (Some x) (find test (xs ++ y ∷ [])) ≡ Some l
    go true e rest = e
    go false e rest = rest e

find-new : {A : Type 0} (test : A → Bool) (xs : List A) (y : A) → find test xs ≡ None → find test (xs ++ y ∷ []) ≡ cond (test y) (Some y) None
find-new test [] y is = refl
find-new {A} test (x ∷ xs) y is = go (test x) is (λ e. find-new test xs y e)
  where
    go : (b : Bool) → cond b (Some x) (find test xs) ≡ None → (find test xs ≡ None → find test (xs ++ y ∷ []) ≡ cond (test y) (Some y) None) → cond b (Some x) (find test (xs ++ y ∷ [])) ≡ cond (test y) (Some y) None
    go true e rest = absurd cc
    go false e rest = rest e

filter-passes : {A : Type 0} (test : A → Bool) (xs : List A) (i : ℕ) (y : A) → At (filter test xs) i y → test y ≡ true
filter-passes test [] i y at = absurd cc
filter-passes {A} test (x ∷ xs) i y at = go (test x) refl i at (λ k e. filter-passes test xs k y e)
  where
    go : (b : Bool) → test x ≡ b → (k : ℕ) → At (cond b (x ∷ filter test xs) (filter test xs)) k y → ((k : ℕ) → At (filter test xs) k y → test y ≡ true) → test y ≡ true
    go true e zero there rest = ap test (sym (some_is x y there)) ∙ e
    go true e (suc k) there rest = rest k there
    go false e k there rest = rest k there

-- ---- one end, as the tick goes by

module _ (h : Handle) (d : Connection) where
  abbrev is-left : Left → Bool
  is-left l = same_handle l.circuit h

  -- it is connected: what was sent on it waits
  abbrev Alive : Ticking → Type 0
  Alive t =
      (find is-left t.closings ≡ None)
      × ((e : Connection) × (connection_at t.core h ≡ Some e) × (e.link.input.bytes ≡ d.link.input.bytes) × (e.link.output ≡ d.link.output ++ spelled (messages_on h t.sent)))

  -- it has ended, and left that
  abbrev Over : Ticking → Type 0
  Over t = (l : Left) × (find is-left t.closings ≡ Some l) × (l.bytes ≡ d.link.output ++ spelled (messages_on h t.sent)) × (is_none (connection_at t.core h) ≡ true)

  abbrev So : Ticking → Type 0
  So t = Alive t ⊎ Over t

  -- one more message is sent, after a change by which no end says anything
  alive-sends : (t u : Ticking) (z : Client) (s : Sending) → u.core ≡ sending (s ∷ []) z → u.sent ≡ t.sent ++ s ∷ [] → u.closings ≡ t.closings → GoesOn t.core z h [] → Alive t → Alive u
  alive-sends t u z s core sent closings quiet a =
      let e = goes-then t.core z (sending (s ∷ []) z) h [] (messages_on h (s ∷ [])) quiet (goes-sending (s ∷ []) z h) a.1.0 a.1.1 in
      let said : messages_on h u.sent ≡ messages_on h t.sent ++ messages_on h (s ∷ []) = ap (λ (l : List Sending). messages_on h l) sent ∙ messages-both h t.sent (s ∷ []) in (
        ap (λ (l : List Left). find is-left l) closings ∙ a.0,
        (
          e.0,
          ap (λ (v : Client). connection_at v h) core ∙ e.1,
          e.2 ∙ a.1.2,
          e.3
              ∙ ap (λ (l : List ℕ). l ++ spelled (messages_on h (s ∷ []))) a.1.3
              ∙ append_assoc d.link.output (spelled (messages_on h t.sent)) (spelled (messages_on h (s ∷ [])))
              ∙ ap (λ (l : List ℕ). d.link.output ++ l) (sym (spelled-more (messages_on h t.sent) (messages_on h (s ∷ []))))
              ∙ ap (λ (l : List Fields). d.link.output ++ spelled l) (sym said),
        ),
      )

  -- a message of another circuit
  none-here : (s : Sending) → (s.circuit ≡ h → ⊥) → messages_on h (s ∷ []) ≡ []
  none-here s other = ap (λ (b : Bool). map (λ (r : Sending). r.message) (cond b (s ∷ []) [])) (same-not s.circuit h other)

  over-sends : (t u : Ticking) (s : Sending) → (s.circuit ≡ h → ⊥) → is_none (connection_at u.core h) ≡ is_none (connection_at t.core h) → u.sent ≡ t.sent ++ s ∷ [] → u.closings ≡ t.closings → Over t → Over u
  over-sends t u s other link sent closings o =
      let said : messages_on h u.sent ≡ messages_on h t.sent =
      ap (λ (l : List Sending). messages_on h l) sent ∙ messages-both h t.sent (s ∷ []) ∙ ap (λ (l : List Fields). messages_on h t.sent ++ l) (none-here s other) ∙ append-nil (messages_on h t.sent) in
      (o.0, ap (λ (l : List Left). find is-left l) closings ∙ o.1, o.2 ∙ ap (λ (l : List Fields). d.link.output ++ spelled l) (sym said), link ∙ o.3)

  -- what is not connected is not what is
  not-it : (x : Client) (c : Handle) (e : Connection) → connection_at x c ≡ Some e → is_none (connection_at x h) ≡ true → c ≡ h → ⊥
  not-it x c e is none same = both_ways (is_none (connection_at x c)) (ap is_none is) (ap (λ (k : Handle). is_none (connection_at x k)) same ∙ none)

  noted-goes : (x : Client) (c : Handle) → GoesOn x (on_connection (λ (e : Connection). record e { link = record e.link { echoed = true } }) c x) h []
  noted-goes x c e is = elim (handle-or h c) [
    | inl same ↦
        let f : Connection → Connection = λ (e : Connection). record e { link = record e.link { echoed = true } } in
        (f e, subst (λ (k : Handle). connection_at (on_connection f k x) h ≡ Some (f e)) same (connection-own f h x e is), refl, sym (append-nil e.link.output))
    | inr other ↦ (e, connection-other _ c h x e other is, refl, sym (append-nil e.link.output))
  ]

  so-ticks : (t : Ticking) (c : Handle) → So t → So (ticks t c)
  so-ticks t c so = go (connection_at t.core c) refl
    where
      echo : (e : Connection) → connection_at t.core c ≡ Some e → So (ticks_as Echo c t)
      echo e is =
          let noted : Client = on_connection (λ (e : Connection). record e { link = record e.link { echoed = true } }) c t.core in
          let s : Sending = of_circuit c (header_only command.Echo) in
          elim so [
            | inl alive ↦ inl (alive-sends t (ticks_as Echo c t) noted s refl refl refl (noted-goes t.core c) alive)
            | inr over ↦
                inr (over-sends t (ticks_as Echo c t) s (not-it t.core c e is over.3) ((keeps-sending (s ∷ []) noted).links h ∙ (keeps-on (λ (e : Connection). record e { link = record e.link { echoed = true } }) c t.core).links h) refl refl over)
          ]

      close : (e : Connection) → connection_at t.core c ≡ Some e → So (ticks_as Close c t)
      close e is =
          let l : Left = record { circuit = c; bytes = out_bytes t.core c } in
          elim so [
            | inl alive ↦ elim (handle-or h c) [
              | inl same ↦
                  inr (
                    l,
                    find-new is-left t.closings l alive.0 ∙ ap (λ (b : Bool). cond b (Some l) None) (subst (λ (k : Handle). same_handle k h ≡ true) same (same-itself h)),
                    ap (λ (k : Handle). out_bytes t.core k) (sym same) ∙ out-of t.core h alive.1.0 alive.1.1 ∙ alive.1.3,
                    subst (λ (k : Handle). is_none (connection_at (ended k t.core) h) ≡ true) same (ended-none h t.core alive.1.0 alive.1.1),
                  )
              | inr other ↦
                  let k = ended-goes c h t.core other alive.1.0 alive.1.1 in
                  inl (
                    find-new is-left t.closings l alive.0 ∙ ap (λ (b : Bool). cond b (Some l) None) (same-not c h (λ q. other (sym q))),
                    (k.0, k.1, k.2 ∙ alive.1.2, k.3 ∙ append-nil alive.1.0.link.output ∙ alive.1.3),
                  )
            ]
            | inr over ↦
                inr (over.0, find-kept is-left t.closings l over.0 over.1, over.2, (ends-ended c t.core).links h (λ q. not-it t.core c e is over.3 (sym q)) ∙ over.3)
          ]

      by : (e : Connection) → connection_at t.core c ≡ Some e → (k : Keep) → So (ticks_as k c t)
      by e is Idle = so
      by e is Echo = echo e is
      by e is Close = close e is

      go : (o : Option Connection) → connection_at t.core c ≡ o → So (unwrap_or (option_map (λ (e : Connection). ticks_as (kept t.core.moment e.link) c t) o) t)
      go None is = so
      go (Some e) is = by e is (kept t.core.moment e.link)

  so-circuits : (order : List Handle) (t : Ticking) → So t → So (fold ticks t order)
  so-circuits [] t so = so
  so-circuits (c ∷ order) t so = so-circuits order (ticks t c) (so-ticks t c so)

  -- ---- searches

  so-search : (c : Handle) (t : Ticking) (w : search.Wanted) → (Over t → c ≡ h → ⊥) → So t → So (searches_on c t w)
  so-search c t w other so = go (is_over t.core c)
    where
      s : Sending
      s = of_circuit c (search_request w.cid w.name)

      go : (b : Bool) → So (cond b t (with_sending s t))
      go true = so
      go false = elim so [
        | inl alive ↦ inl (alive-sends t (with_sending s t) t.core s refl refl refl (λ e is. (e, is, refl, sym (append-nil e.link.output))) alive)
        | inr over ↦ inr (over-sends t (with_sending s t) s (other over) ((keeps-sending (s ∷ []) t.core).links h) refl refl over)
      ]

  -- a search begins and ends no circuit
  search-links : (c : Handle) (t : Ticking) (w : search.Wanted) → is_none (connection_at (searches_on c t w).core h) ≡ is_none (connection_at t.core h)
  search-links c t w = go (is_over t.core c)
    where
      go : (b : Bool) → is_none (connection_at (cond b t (with_sending (of_circuit c (search_request w.cid w.name)) t)).core h) ≡ is_none (connection_at t.core h)
      go true = refl
      go false = (keeps-sending (of_circuit c (search_request w.cid w.name) ∷ []) t.core).links h

  -- circuits of which none is this one, if that is not connected
  so-searched : (c : Handle) (ws : List search.Wanted) (t : Ticking) → (is_none (connection_at t.core h) ≡ true → c ≡ h → ⊥) → So t
      → So (fold (searches_on c) t ws) × (is_none (connection_at (fold (searches_on c) t ws).core h) ≡ is_none (connection_at t.core h))
  so-searched c [] t other so = (so, refl)
  so-searched c (w ∷ ws) t other so =
      let u : Ticking = searches_on c t w in
      let same : is_none (connection_at u.core h) ≡ is_none (connection_at t.core h) = search-links c t w in
      let r = so-searched c ws u (λ none. other (sym same ∙ none)) (so-search c t w (λ over. other over.3) so) in
      (r.0, r.1 ∙ same)

  so-all : (ws : List search.Wanted) (cs : List Handle) (t : Ticking) → (is_none (connection_at t.core h) ≡ true → (i : ℕ) → At cs i h → ⊥) → So t → So (fold (all_searched_on ws) t cs)
  so-all ws [] t none so = so
  so-all ws (c ∷ cs) t none so =
      let r = so-searched c ws t (λ e same. none e 0 (ap (λ (k : Handle). Some k) same)) so in
      so-all ws cs (all_searched_on ws t c) (λ e i at. none (sym r.1 ∙ e) (suc i) at) r.0

  name-unconnected : (x : Client) → is_none (connection_at x h) ≡ true → is_name_connected x h ≡ false
  name-unconnected x none = go (under x.circuits h) none
    where
      right : (b : Bool) (o : Option Connection) → is_none o ≡ true → (b && is_some o) ≡ false
      right true None e = refl
      right false None e = refl
      right b (Some c) e = absurd (both_ways false refl e)

      go : (o : Option ClientCircuit) → is_none (option_and_then (λ (c : ClientCircuit). c.connection) o) ≡ true → unwrap_or (option_map (λ (c : ClientCircuit). c.is_name && is_some c.connection) o) false ≡ false
      go None e = refl
      go (Some c) e = right c.is_name c.connection e

  so-made : (t : Ticking) → So t → So (searches_made t)
  so-made t so = elim (so-all (due t.core) (filter (is_name_connected t.core) t.core.order) t listed so) [
    | inl alive ↦ inl alive
    | inr over ↦ inr over
  ]
    where
      listed : is_none (connection_at t.core h) ≡ true → (i : ℕ) → At (filter (is_name_connected t.core) t.core.order) i h → ⊥
      listed none i at = both_ways (is_name_connected t.core h) (name-unconnected t.core none) (filter-passes (is_name_connected t.core) t.core.order i h at)

  pub so-ticked : (moment : ℕ) (x : Client) → connection_at x h ≡ Some d → So (searches_made (circuits_ticked moment x))
  so-ticked moment x is =
      so-made (circuits_ticked moment x)
      (so-circuits x.order (record { core = record x { moment = later moment x }; sent = []; notices = []; closings = [] }) (inl (refl, (d, is, refl, sym (append-nil d.link.output)))))

made-closings : (t : Ticking) → (searches_made t).closings ≡ t.closings
made-closings t = all (due t.core) (filter (is_name_connected t.core) t.core.order) t
  where
    one : (c : Handle) (ws : List search.Wanted) (u : Ticking) → (fold (searches_on c) u ws).closings ≡ u.closings
    one c [] u = refl
    one c (w ∷ ws) u = one c ws (searches_on c u w) ∙ go (is_over u.core c)
      where
        go : (b : Bool) → (cond b u (with_sending (of_circuit c (search_request w.cid w.name)) u)).closings ≡ u.closings
        go true = refl
        go false = refl

    all : (ws : List search.Wanted) (cs : List Handle) (u : Ticking) → (fold (all_searched_on ws) u cs).closings ≡ u.closings
    all ws [] u = refl
    all ws (c ∷ cs) u = all ws cs (all_searched_on ws u c) ∙ one c ws u

-- ---- a world

module _ (moment : ℕ) (w : World) (i : ℕ) (x : ClientSide) (at : At w.clients i x) (s : ClientsStand w) (all : AllStream w) where
  abbrev t : Ticking
  t = circuits_ticked moment x.core

  abbrev made : Ticking
  made = searches_made (circuits_ticked moment x.core)

  abbrev z : ClientSide
  z = record x { core = made.core }

  abbrev f : Joined → Joined
  f j = after_tick i t.closings (sent_to i x.names made.sent j)

  abbrev closes : (b : Bool) → Option Left → Joined → Joined
  closes b o n = cond b (unwrap_or (option_map (λ (left : List ℕ). client_closed left n) (option_map (λ (l : Left). l.bytes) o)) n) n

  like : (j : Joined) → ((f j).client ≡ j.client) × ((f j).server ≡ j.server) × ((y : ServerSide) → server_end y (f j) ≡ server_end y j)
  like j = go (eqb j.client i && j.lists.client_open) (find (λ (l : Left). same_handle l.circuit j.at_client) t.closings)
    where
      go : (b : Bool) (o : Option Left) → let n : Joined = closes b o (sent_to i x.names made.sent j) in (n.client ≡ j.client) × (n.server ≡ j.server) × ((y : ServerSide) → server_end y n ≡ server_end y j)
      go true (Some l) = (refl, refl, λ y. refl)
      go true None = (refl, refl, λ y. refl)
      go false o = (refl, refl, λ y. refl)

  others : (v : World) (j : Joined) → (j.client ≡ i → ⊥) → StreamsOn v j → StreamsOn v (f j)
  others v j other st = go (eqb j.client i) refl
    where
      go : (b : Bool) → eqb j.client i ≡ b → StreamsOn v (closes (b && j.lists.client_open) (find (λ (l : Left). same_handle l.circuit j.at_client) t.closings) (sent_to i x.names made.sent j))
      go true e = absurd (other (eqb-true j.client i e))
      go false e = other-streams i x.names made.sent v j other st

  own : (k : ℕ) (j : Joined) → At w.circuits k j → j.client ≡ i → Acts (client_end x j) (client_end z (f j))
  own k j on mine = elim (cases_Bool j.lists.client_open) [
    | inl opened ↦
        let d = connected-so (connection_at x.core j.at_client) (s.connected k j x on (subst (λ (n : ℕ). At w.clients n x) (sym mine) at) opened) in
        subst (λ (b : Bool). Acts (client_end x j) (client_end z (closes b (find (λ (l : Left). same_handle l.circuit j.at_client) t.closings) next))) (sym (and_from (eqb j.client i) j.lists.client_open (eq-eqb j.client i mine) opened))
        (by opened d.0 d.1 (so-ticked j.at_client d.0 moment x.core d.1))
    | inr shut ↦ go (eqb j.client i) j.lists.client_open refl shut
  ]
    where
      next : Joined
      next = sent_to i x.names made.sent j

      found : find (λ (l : Left). same_handle l.circuit j.at_client) made.closings ≡ find (λ (l : Left). same_handle l.circuit j.at_client) t.closings
      found = ap (λ (l : List Left). find (λ (l : Left). same_handle l.circuit j.at_client) l) (made-closings t)

      by : j.lists.client_open ≡ true → (d : Connection) → connection_at x.core j.at_client ≡ Some d → So j.at_client d made → Acts (client_end x j) (client_end z (closes true (find (λ (l : Left). same_handle l.circuit j.at_client) t.closings) next))
      by opened d is (inl alive) =
          subst (λ (o : Option Left). Acts (client_end x j) (client_end z (closes true o next))) (sym alive.0 ∙ found)
          (client-open x z j next (messages_on j.at_client made.sent) d alive.1.0 opened opened (up-open i x.names made.sent j mine opened) is alive.1.1 alive.1.3 alive.1.2 refl)
      by opened d is (inr over) =
          subst (λ (o : Option Left). Acts (client_end x j) (client_end z (closes true o next))) (sym over.1 ∙ found)
          (client-ends x z j (client_closed over.0.bytes next) (messages_on j.at_client made.sent) [] d opened refl (up-open i x.names made.sent j mine opened) is
          (sym over.2 ∙ sym (append-nil over.0.bytes)))

      go : (a b : Bool) → j.lists.client_open ≡ b → b ≡ false → Acts (client_end x j) (client_end z (closes (a && b) (find (λ (l : Left). same_handle l.circuit j.at_client) t.closings) next))
      go a true e g = absurd (both_ways true g refl)
      go true false e g = client-shut x z j next e e (up-shut i x.names made.sent j e) refl
      go false false e g = client-shut x z j next e e (up-shut i x.names made.sent j e) refl

  twice : (cs : List Joined) → map (after_tick i t.closings) (map (sent_to i x.names made.sent) cs) ≡ map f cs
  twice [] = refl
  twice (c ∷ cs) = ap (λ (l : List Joined). f c ∷ l) (twice cs)

  pub tick-streams : (lines : answer.Ticked) → AllStream (left-by moment w i x made.sent (record lines { closings = t.closings }) made.core)
  tick-streams told = mapped w (left-by moment w i x made.sent (record told { closings = t.closings }) made.core) i x z f at refl refl (twice w.circuits) own others like all

pub tick-one-streams : (moment : ℕ) (w : World) (i : ℕ) (new : World) → ClientsStand w → TicksOne moment w i new → AllStream w → AllStream new
tick-one-streams moment w i new s happens all =
    let x : ClientSide = happens.0 in
    let does = happens.5 in
    subst (λ (v : World). AllStream v) (sym happens.6)
    (subst (λ (q : List Sending × (answer.Ticked × Client)). AllStream (left-by moment w i x q.0 q.1.0 q.1.1)) (λ e. (sym does.1 e, (sym does.0 e, sym does.2 e)))
    (tick-streams moment w i x happens.1 s all (ticked (circuits_ticked moment x.core))))
