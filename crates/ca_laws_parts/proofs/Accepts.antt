-- A new circuit: what is held of the others stays so, and it holds what it creates.
use Rattle.std.proofs.Common.{◌≡◌, ℕ, zero, suc, inl, inr, Bool, true, false, ◌&&◌, cond, eqb, List, [], ◌∷◌, ◌++◌, length, Option, Some, None, refl, sym, ap, ◌∙◌, subst, arith}
use Rattle.std.specs.Prelude.{filter, filter_map, is_none, map, option_and_then, option_map, unwrap_or}
use Rattle.std.specs.List.{cons_option}
use Rattle.std.proofs.lemmas.Bool.{both_ways, eq-eqb}
use Rattle.std.proofs.lemmas.List.{append-nil}
use Rattle.ca_text.specs.Place.{At}
use Rattle.ca_text.proofs.Places.{At-append, At-one, some_is}
use Rattle.ca_text.specs.declared.command.Command.TheVariants as command
use Rattle.ca_arena.specs.declared.handle.Handle.{Handle}
use Rattle.ca_ids.specs.Table.{held, same_handle, under, with_all}
use Rattle.ca_wire.specs.Messages.{name_request, version_request}
use Rattle.ca_model.specs.Answers.{Closing, Sending}
use Rattle.ca_model.specs.Client.{Channel, Client, ClientCircuit, Clearing, Connecting, Creating, Doomed, Leaving, Live, On, Phase, Searching, Standing, connection_at, ended, is_on_in, phase_on, sending}
use Rattle.ca_model.specs.ClientEnds.{ConnectsOn, begun, creating, creations, is_connecting, set_up}
use Rattle.ca_model.specs.Hears.{create_sent}
use Rattle.ca_model.specs.History.{Circuit, Sent}
use Rattle.ca_model.specs.History as history
use Rattle.ca_model.specs.Channels.{Suits}
use Rattle.ca_model.specs.ClientEvents.{HappensAccept, Outcomes, WantsFirst, connected_as, lines_of, new_circuit, closing_notices}
use Rattle.ca_model.specs.World.{ClientSide, Joined, Names, World, with_server}
use Rattle.ca_laws_parts.specs.Flows.{Awaits, Flows}
use Rattle.ca_laws_parts.specs.Held.{HoldAlike, Holds, NoneAsked, create_of, is_asked, is_subscribed, waiting_on}
use Rattle.ca_laws_parts.proofs.Alike.{all-alike, client-then, holds-alike, sending-alike, with-channels}
use Rattle.ca_laws_parts.proofs.Connects.{new-holds}
use Rattle.ca_laws_parts.proofs.Ends.{ended-elsewhere}
use Rattle.ca_model.proofs.Standings.{at-filter-map}
use Rattle.ca_model.proofs.Handles.{same-is, same-not}
use Rattle.ca_model.proofs.Standings.{fails-elsewhere}
use Rattle.ca_laws_parts.specs.Circuit.{HeldAt, HeldOn, sent_to, stamped}
use Rattle.ca_laws_parts.specs.Client.{IsSound}
use Rattle.ca_model.specs.Placed.{AreWaiting}
use Rattle.ca_laws_parts.specs.Clients.{ClientsStand}
use Rattle.ca_laws_parts.proofs.ClientsMore.{unconnected-is, wanted-there}
use Rattle.ca_laws_parts.proofs.RunsSending.{none-sent-to, with_up}
use Rattle.ca_laws_parts.proofs.RunsSteps.{none-here}
use Rattle.ca_laws_parts.proofs.Worlds.{after-call}

-- ---- messages of a new circuit

pub serves-version : (priority : ℕ) → Suits history.OfCircuit (version_request priority)
serves-version priority history.Create e = (let f : ◌≡◌ {A = ℕ} 0 18 = e in omega (arith, f))
serves-version priority history.Clear e = (let f : ◌≡◌ {A = ℕ} 0 12 = e in omega (arith, f))
serves-version priority (history.Request history.Read n) e = (let f : ◌≡◌ {A = ℕ} 0 15 = e in omega (arith, f))
serves-version priority (history.Request history.Put n) e = (let f : ◌≡◌ {A = ℕ} 0 19 = e in omega (arith, f))
serves-version priority (history.Request history.Write n) e = (let f : ◌≡◌ {A = ℕ} 0 4 = e in omega (arith, f))
serves-version priority (history.Subscribe n) e = (let f : ◌≡◌ {A = ℕ} 0 1 = e in omega (arith, f))
serves-version priority (history.Cancel n) e = (let f : ◌≡◌ {A = ℕ} 0 2 = e in omega (arith, f))

pub serves-user : (text : List ℕ) → Suits history.OfCircuit (name_request command.ClientName text)
serves-user text history.Create e = (let f : ◌≡◌ {A = ℕ} 20 18 = e in omega (arith, f))
serves-user text history.Clear e = (let f : ◌≡◌ {A = ℕ} 20 12 = e in omega (arith, f))
serves-user text (history.Request history.Read n) e = (let f : ◌≡◌ {A = ℕ} 20 15 = e in omega (arith, f))
serves-user text (history.Request history.Put n) e = (let f : ◌≡◌ {A = ℕ} 20 19 = e in omega (arith, f))
serves-user text (history.Request history.Write n) e = (let f : ◌≡◌ {A = ℕ} 20 4 = e in omega (arith, f))
serves-user text (history.Subscribe n) e = (let f : ◌≡◌ {A = ℕ} 20 1 = e in omega (arith, f))
serves-user text (history.Cancel n) e = (let f : ◌≡◌ {A = ℕ} 20 2 = e in omega (arith, f))

pub serves-host : (text : List ℕ) → Suits history.OfCircuit (name_request command.HostName text)
serves-host text history.Create e = (let f : ◌≡◌ {A = ℕ} 21 18 = e in omega (arith, f))
serves-host text history.Clear e = (let f : ◌≡◌ {A = ℕ} 21 12 = e in omega (arith, f))
serves-host text (history.Request history.Read n) e = (let f : ◌≡◌ {A = ℕ} 21 15 = e in omega (arith, f))
serves-host text (history.Request history.Put n) e = (let f : ◌≡◌ {A = ℕ} 21 19 = e in omega (arith, f))
serves-host text (history.Request history.Write n) e = (let f : ◌≡◌ {A = ℕ} 21 4 = e in omega (arith, f))
serves-host text (history.Subscribe n) e = (let f : ◌≡◌ {A = ℕ} 21 1 = e in omega (arith, f))
serves-host text (history.Cancel n) e = (let f : ◌≡◌ {A = ℕ} 21 2 = e in omega (arith, f))

module _ (on : Handle) (n : Names) (x : Client) where
  -- the CREATE_CHANs, as the world stamps them
  pub creations-stamped : map (stamped n) (creations on x) ≡ map (create_of n) (waiting_on on x)
  creations-stamped = all (held x.channels)
    where
      all : (es : List (Handle × Channel)) → map (stamped n) (filter_map (λ (e : Handle × Channel). cond (is_on_in is_connecting on e.1) (Some (create_sent on e.0 e.1)) None) es)
          ≡ map (create_of n) (filter (λ (e : Handle × Channel). is_on_in is_connecting on e.1) es)
      all [] = refl
      all (e ∷ es) = go (is_on_in is_connecting on e.1) (all es)
        where
          go : (b : Bool) → map (stamped n) (filter_map (λ (e : Handle × Channel). cond (is_on_in is_connecting on e.1) (Some (create_sent on e.0 e.1)) None) es) ≡ map (create_of n) (filter (λ (e : Handle × Channel). is_on_in is_connecting on e.1) es)
              → map (stamped n) (cons_option (cond b (Some (create_sent on e.0 e.1)) None) (filter_map (λ (e : Handle × Channel). cond (is_on_in is_connecting on e.1) (Some (create_sent on e.0 e.1)) None) es))
              ≡ map (create_of n) (cond b (e ∷ filter (λ (e : Handle × Channel). is_on_in is_connecting on e.1) es) (filter (λ (e : Handle × Channel). is_on_in is_connecting on e.1) es))
          go true rest = ap (λ (l : List Sent). create_of n e ∷ l) rest
          go false rest = rest

  -- all that is sent goes on this circuit
  pub sent-here : (d : ClientCircuit) (i : ℕ) (s : Sending) → At (set_up x.peer on d ++ creations on x) i s → s.circuit ≡ on
  sent-here d zero s at = ap (λ (o : Option Sending). unwrap_or (option_map (λ (w : Sending). w.circuit) o) on) (sym at)
  sent-here d (suc zero) s at = ap (λ (o : Option Sending). unwrap_or (option_map (λ (w : Sending). w.circuit) o) on) (sym at)
  sent-here d (suc (suc zero)) s at = ap (λ (o : Option Sending). unwrap_or (option_map (λ (w : Sending). w.circuit) o) on) (sym at)
  sent-here d (suc (suc (suc i))) s at =
      let r = at-filter-map (λ (e : Handle × Channel). cond (is_on_in is_connecting on e.1) (Some (create_sent on e.0 e.1)) None) (held x.channels) i s at in
      go (is_on_in is_connecting on r.1.1) r.1 r.3
    where
      go : (b : Bool) (e : Handle × Channel) → cond b (Some (create_sent on e.0 e.1)) None ≡ Some s → s.circuit ≡ on
      go true e is = ap (λ (z : Sending). z.circuit) (sym (some_is (create_sent on e.0 e.1) s is))
      go false e is = absurd cc

  -- ---- the circuit itself

  pub none-asked : AreWaiting x → is_none (connection_at x on) ≡ true → NoneAsked on x
  none-asked waiting none h ch there = go ch.standing refl
    where
      phases : (p : Phase) → is_connecting p ≡ true → is_asked p ≡ false
      phases Connecting f = refl
      phases (Creating rights) f = absurd (both_ways false refl f)
      phases (Live m rights) f = absurd (both_ways false refl f)
      phases Leaving f = absurd (both_ways false refl f)
      phases Clearing f = absurd (both_ways false refl f)
      phases Doomed f = absurd (both_ways false refl f)

      go : (s : Standing) → ch.standing ≡ s → unwrap_or (option_map is_asked (phase_on on s)) false ≡ false
      go Searching is = refl
      go (On c p) is = by (same_handle c on) refl
        where
          by : (b : Bool) → same_handle c on ≡ b → unwrap_or (option_map is_asked (cond b (Some p) None)) false ≡ false
          by true same = phases p (waiting h ch c p there is ∙ ap (λ (k : Handle). is_none (connection_at x k)) (same-is c on same) ∙ none)
          by false same = refl

  -- a circuit on which nothing was sent
  pub flows-new : (kept : List ℕ) (c : Circuit) → c.up ≡ [] → c.down ≡ [] → c.heard ≡ [] → Flows (Awaits c kept) c
  flows-new kept c up down heard = record {
    within = (let e : length c.heard ≡ 0 = ap (λ (l : List history.Step). length l) heard in omega (arith, e));
    early = λ j h at. absurd (no_step j h (subst (λ (l : List history.Step). At l j h) heard at));
    about = λ j t at. absurd (no_told j t (subst (λ (l : List history.Told). At l j t) down at));
    asked = λ k s at. absurd (no_sent k s (subst (λ (l : List Sent). At l k s) up at));
    own = λ j t id at speaks. absurd (no_told j t (subst (λ (l : List history.Told). At l j t) down at));
    concerns = λ j t id at speaks. absurd (no_told j t (subst (λ (l : List history.Told). At l j t) down at));
    next = λ p id awaits concerns. absurd (no_sent p concerns.0 (subst (λ (l : List Sent). At l p concerns.0) up concerns.1));
    last = λ j t s at cause there is. absurd (no_told j t (subst (λ (l : List history.Told). At l j t) down at));
    over = λ j p t s r at cause there was lt ends. absurd (no_told j t (subst (λ (l : List history.Told). At l j t) down at));
  }
    where
      no_step : (k : ℕ) (a : history.Step) → At [] k a → ⊥
      no_step k a e = cc

      no_sent : (k : ℕ) (a : Sent) → At [] k a → ⊥
      no_sent k a e = cc

      no_told : (k : ℕ) (a : history.Told) → At [] k a → ⊥
      no_told k a e = cc

  module _ (kept : List ℕ) (i : ℕ) (j : Joined) (up : j.lists.up ≡ []) (down : j.lists.down ≡ []) (heard : j.lists.heard ≡ []) (sound : IsSound n x) (none : is_none (connection_at x on) ≡ true) (here : j.at_client ≡ on) where
    pub nothing-held : HeldOn kept n x j
    nothing-held = record {
      flows = flows-new kept j.lists up down heard;
      cids = λ o k channel s at is. absurd (no_sent k s (subst (λ (l : List Sent). At l k s) up at));
      holds = λ o.
          subst (λ (h : Handle). Holds (Awaits j.lists kept) h n x j.lists) (sym here)
          (new-holds (Awaits j.lists kept) on n x j.lists up down sound.named.few sound.placed.attached (none-asked sound.placed.waiting none));
    }
      where
        no_sent : (k : ℕ) (a : Sent) → At [] k a → ⊥
        no_sent k a e = cc

-- ---- the others

begun-elsewhere : (on other : Handle) (x : Client) → same_handle on other ≡ false → HoldAlike other x (begun on x)
begun-elsewhere on other x differ =
    let r = with-channels other x (with_all (creating on) x.channels) (all-alike (is_on_in is_asked other) (is_on_in is_asked other) (creating on) x.channels (λ g v there. same is_asked v refl refl))
    (all-alike (is_on_in is_subscribed other) (is_on_in is_subscribed other) (creating on) x.channels (λ g v there. same is_subscribed v refl refl)) in
    record { asked = r.asked; requests = r.requests; subscriptions = r.subscriptions }
  where
    same : (test : Phase → Bool) (v : Channel) → test Connecting ≡ false → test Connecting ≡ false → is_on_in test other v ≡ is_on_in test other (creating on v)
    same test v no_it too = go (is_on_in is_connecting on v) refl
      where
        phases : (p : Phase) → is_connecting p ≡ true → test p ≡ false
        phases Connecting f = no_it
        phases (Creating rights) f = absurd (both_ways false refl f)
        phases (Live m rights) f = absurd (both_ways false refl f)
        phases Leaving f = absurd (both_ways false refl f)
        phases Clearing f = absurd (both_ways false refl f)
        phases Doomed f = absurd (both_ways false refl f)

        was : (s : Standing) → unwrap_or (option_map is_connecting (phase_on on s)) false ≡ true → unwrap_or (option_map test (phase_on other s)) false ≡ false
        was Searching f = refl
        was (On c p) f = by (same_handle c on) (same_handle c other) f
          where
            by : (a b : Bool) → unwrap_or (option_map is_connecting (cond a (Some p) None)) false ≡ true → unwrap_or (option_map test (cond b (Some p) None)) false ≡ false
            by true true k = phases p k
            by true false k = refl
            by false b k = absurd (both_ways false refl k)

        go : (b : Bool) → is_on_in is_connecting on v ≡ b → is_on_in test other v ≡ is_on_in test other (cond b (record v { standing = On on (Creating 0) }) v)
        go true is = was v.standing is ∙ sym (fails-elsewhere test other on (record v { standing = On on (Creating 0) }) (Creating 0) refl differ)
        go false is = refl

far-held : (kept : List ℕ) (i : ℕ) (n : Names) (x y : Client) (j : Joined) (on : Handle) (sends : List Sending) → HeldOn kept n x j → j.client ≡ i → ((k : ℕ) (s : Sending) → At sends k s → s.circuit ≡ on)
    → (j.lists.client_open ≡ true → same_handle on j.at_client ≡ false) → (j.lists.client_open ≡ true → HoldAlike j.at_client x y) → HeldOn kept n (sending sends y) (sent_to i n sends j)
far-held kept i n x y j on sends held mine all apart alike = go (eqb j.client i) (eq-eqb j.client i mine) j.lists.client_open refl
  where
    as-was : HeldOn kept n (sending sends y) (with_up (j.lists.up ++ []) j)
    as-was = subst (λ (l : List Sent). HeldOn kept n (sending sends y) (with_up l j)) (sym (append-nil j.lists.up)) (record {
      flows = held.flows;
      cids = held.cids;
      holds = λ o. holds-alike (Awaits j.lists kept) j.at_client n x (sending sends y) j.lists (client-then j.at_client x y (sending sends y) (alike o) (sending-alike j.at_client sends y)) (held.holds o);
    })

    go : (a : Bool) → a ≡ true → (b : Bool) → j.lists.client_open ≡ b → HeldOn kept n (sending sends y) (with_up (j.lists.up ++ cond (a && b) (map (stamped n) (filter (λ (s : Sending). same_handle s.circuit j.at_client) sends)) []) j)
    go true same true is = subst (λ (l : List Sending). HeldOn kept n (sending sends y) (with_up (j.lists.up ++ map (stamped n) l) j)) (sym (none-here on j.at_client sends all (apart is))) as-was
    go true same false is = as-was
    go false same b is = absurd (both_ways false refl same)

pub keeps-accept : (kept : List ℕ) (w new : World) (c l : ℕ) (x : ClientSide) (v : WantsFirst w x) → At w.clients c x → ClientsStand w → HappensAccept w c x v new → HeldAt kept w l → HeldAt kept new l
keeps-accept kept w new c l x v at s happens held = elim happens.leaves [
  | inl refusal ↦ subst (λ (u : World). HeldAt kept u l) (sym refusal.1) held
  | inr did ↦
      let there = wanted-there x.core v.place v.v v.at in
      let n : Joined = connected_as did.1 (new_circuit c x v.v.circuit v.i v.y did.0) in
      let made : World = record (with_server v.i (record v.y { core = happens.server }) w) { circuits = w.circuits ++ n ∷ [] } in
      let o : Outcomes = record { core = did.3; names = x.names; lines = lines_of history.OfCircuit x.names (closing_notices did.1); sent = did.2 } in
      let stands : At made.circuits l held.0 = At-append w.circuits (n ∷ []) l held.0 held.2 in
      subst (λ (u : World). HeldAt kept u l) (sym did.6)
      (after-call kept made c l x x.names o at
      (λ j is mine was.
      let one : j ≡ held.0 = At-one made.circuits l j held.0 is stands in
      others j was mine (λ open_it.
      subst (λ (z : Joined). is_none (connection_at x.core z.at_client) ≡ false) (sym one)
      (s.connected l held.0 x held.2 (subst (λ (k : ℕ). At w.clients k x) (sym (ap (λ (z : Joined). z.client) (sym one) ∙ mine)) at) (ap (λ (z : Joined). z.lists.client_open) (sym one) ∙ open_it)))
      there.0 there.1 there.2 did.1 did.2 did.3 (subst (λ (o : Option ClientCircuit). ConnectsOn x.core v.v.circuit o did.1 did.2 did.3) (unconnected-is x.core v.v.circuit there.0 there.1 there.2) did.5))
      (held.0, held.1, stands, held.3, held.4))
]
  where
    others : (j : Joined) → HeldOn kept x.names x.core j → j.client ≡ c → (j.lists.client_open ≡ true → is_none (connection_at x.core j.at_client) ≡ false) → (d : ClientCircuit) → under x.core.circuits v.v.circuit ≡ Some d → d.connection ≡ None
        → (k : Option Closing) (sent : List Sending) (core : Client) → ConnectsOn x.core v.v.circuit (Some d) k sent core → HeldOn kept x.names core (sent_to c x.names sent j)
    others j was mine connected d there none None sent core does =
        subst (λ (z : List Sending × Client). HeldOn kept x.names z.1 (sent_to c x.names z.0 j)) (λ e. (sym does.0 e, sym does.1 e))
        (far-held kept c x.names x.core (begun v.v.circuit x.core) j v.v.circuit (set_up x.core.peer v.v.circuit d ++ creations v.v.circuit x.core) was mine (sent-here v.v.circuit x.names x.core d) (apart j connected d there none)
        (λ open_it. begun-elsewhere v.v.circuit j.at_client x.core (apart j connected d there none open_it)))
      where
        apart : (j : Joined) → (j.lists.client_open ≡ true → is_none (connection_at x.core j.at_client) ≡ false) → (d : ClientCircuit) → under x.core.circuits v.v.circuit ≡ Some d → d.connection ≡ None → j.lists.client_open ≡ true → same_handle v.v.circuit j.at_client ≡ false
        apart j connected d there none open_it = same-not v.v.circuit j.at_client (λ e.
            both_ways (is_none (connection_at x.core j.at_client)) (connected open_it)
            (subst (λ (h : Handle). is_none (connection_at x.core h) ≡ true) e (ap (λ (o : Option ClientCircuit). is_none (option_and_then (λ (d : ClientCircuit). d.connection) o)) there ∙ ap is_none none)))
    others j was mine connected d there none (Some k) sent core does =
        subst (λ (z : List Sending × Client). HeldOn kept x.names z.1 (sent_to c x.names z.0 j)) (λ e. (sym does.1 e, sym does.2 e))
        (none-sent-to kept c x.names x.names x.core (ended v.v.circuit x.core) j was (λ a g is. is) (λ open_it holds.
        holds-alike (Awaits j.lists kept) j.at_client x.names x.core (ended v.v.circuit x.core) j.lists
        (ended-elsewhere v.v.circuit j.at_client x.core (same-not v.v.circuit j.at_client (λ e.
        both_ways (is_none (connection_at x.core j.at_client)) (connected open_it)
        (subst (λ (h : Handle). is_none (connection_at x.core h) ≡ true) e (ap (λ (o : Option ClientCircuit). is_none (option_and_then (λ (d : ClientCircuit). d.connection) o)) there ∙ ap is_none none))))) holds))
