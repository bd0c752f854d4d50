-- A circuit that was just made: its set-up and its CREATE_CHANs may be sent, and its client
-- holds what they give.
use Rattle.std.proofs.Common.{◌≡◌, ℕ, zero, suc, ◌<◌, inl, inr, Bool, true, false, ◌&&◌, cond, eqb, List, [], ◌∷◌, ◌++◌, length, Option, Some, None, refl, sym, ap, ◌∙◌, subst, arith}
use Rattle.std.specs.Prelude.{filter, is_none, map, option_and_then}
use Rattle.std.proofs.lemmas.Bool.{and_from, both_ways, eq-eqb}
use Rattle.ca_text.specs.Place.{At}
use Rattle.ca_text.proofs.Places.{At-last, At-mapped, At-one, some_is}
use Rattle.ca_arena.specs.declared.handle.Handle.{Handle}
use Rattle.ca_ids.specs.Table.{held, same_handle, under}
use Rattle.ca_ids.specs.Wire.{wire_of}
use Rattle.ca_text.specs.declared.command.Command.TheVariants as command
use Rattle.ca_wire.specs.Messages.{name_request, version_request}
use Rattle.ca_model.specs.Answers.{Closing, Sending}
use Rattle.ca_model.specs.Client.{Channel, Client, ClientCircuit, connection_at, ended, is_on_in, sending}
use Rattle.ca_model.specs.ClientEnds.{ConnectsOn, begun, creations, is_connecting, of_circuit, set_up}
use Rattle.ca_model.specs.History.{Circuit, Sent}
use Rattle.ca_model.specs.History as history
use Rattle.ca_model.specs.ClientEvents.{HappensAccept, WantsFirst, channel_number, client_after, connected_as, lines_of, new_circuit, closing_notices}
use Rattle.ca_model.specs.World.{ClientSide, Joined, Names, ServerSide, World, with_server}
use Rattle.ca_laws_parts.specs.Flows.{Awaits, Flows, with_all_sent, with_sent}
use Rattle.ca_laws_parts.specs.Held.{Holds, NoneAsked, create_of, waiting_on}
use Rattle.ca_laws_parts.proofs.Connects.{connects-holds, connects-may, new-holds, serving-keeps, serving-may}
use Rattle.ca_laws_parts.proofs.Flows.{flows-sent}
use Rattle.ca_model.proofs.Handles.{same-itself}
use Rattle.ca_laws_parts.proofs.Many.{flows-all-sent}
use Rattle.ca_laws_parts.proofs.Marks.{at-filter}
use Rattle.ca_model.proofs.Tables.{held-under}
use Rattle.ca_laws_parts.specs.Circuit.{AreCids, HeldAt, HeldOn, sent_to, stamped}
use Rattle.ca_laws_parts.specs.Client.{IsSound}
use Rattle.ca_laws_parts.specs.Clients.{ClientsStand}
use Rattle.ca_laws_parts.proofs.Accepts.{creations-stamped, flows-new, none-asked, nothing-held, sent-here, serves-host, serves-user, serves-version}
use Rattle.ca_laws_parts.proofs.ClientsMore.{unconnected-is, wanted-there}
use Rattle.ca_laws_parts.proofs.RunsSending.{none-sent-to, with_up}
use Rattle.ca_laws_parts.proofs.RunsSteps.{all-here}
use Rattle.ca_laws_parts.proofs.Worlds.{after-call}

module _ (kept : List ℕ) (i : ℕ) (side : ClientSide) (on : Handle) (s : ℕ) (y : ServerSide) (at_server : Handle) (d : ClientCircuit) (sound : IsSound side.names side.core) (none : is_none (connection_at side.core on) ≡ true) where
  abbrev n : Names
  n = side.names

  abbrev x : Client
  x = side.core

  abbrev j : Joined
  j = new_circuit i side on s y at_server

  abbrev adds : List Sent
  adds = map (create_of n) (waiting_on on x)

  abbrev first : Sent
  first = stamped n (of_circuit on (version_request d.priority))

  abbrev second : Sent
  second = stamped n (of_circuit on (name_request command.ClientName x.peer.user))

  abbrev third : Sent
  third = stamped n (of_circuit on (name_request command.HostName x.peer.host))

  abbrev set : Circuit
  set = with_sent third (with_sent second (with_sent first j.lists))

  asks-none : NoneAsked on x
  asks-none = none-asked on n x sound.placed.waiting none

  flows-set : Flows (Awaits j.lists kept) set
  flows-set =
      flows-sent (Awaits j.lists kept) (with_sent second (with_sent first j.lists)) third (serving-may (Awaits j.lists kept) (with_sent second (with_sent first j.lists)) third refl (serves-host x.peer.host))
      (flows-sent (Awaits j.lists kept) (with_sent first j.lists) second (serving-may (Awaits j.lists kept) (with_sent first j.lists) second refl (serves-user x.peer.user))
      (flows-sent (Awaits j.lists kept) j.lists first (serving-may (Awaits j.lists kept) j.lists first refl (serves-version d.priority)) (flows-new on n x kept j.lists refl refl refl)))

  holds-set : Holds (Awaits j.lists kept) on n x set
  holds-set =
      serving-keeps (Awaits j.lists kept) on n x (with_sent second (with_sent first j.lists)) third (serves-host x.peer.host)
      (serving-keeps (Awaits j.lists kept) on n x (with_sent first j.lists) second (serves-user x.peer.user)
      (serving-keeps (Awaits j.lists kept) on n x j.lists first (serves-version d.priority)
      (new-holds (Awaits j.lists kept) on n x j.lists refl refl sound.named.few sound.placed.attached asks-none)))

  cids-new : AreCids n (with_all_sent adds set)
  cids-new k channel r at is = go k at
    where
      not-on : (m : Sent) → m.intent ≡ history.OfCircuit → m ≡ r → ⊥
      not-on m serves same = nothing (sym serves ∙ ap (λ (z : Sent). z.intent) same ∙ is)
        where
          nothing : history.OfCircuit ≡ history.On channel history.Create → ⊥
          nothing e = cc

      channel-is : (a b : ℕ) → history.On a history.Create ≡ history.On b history.Create → a ≡ b
      channel-is a b e = cc

      go : (k : ℕ) → At (first ∷ second ∷ third ∷ adds) k r → (h : Handle) × At n.channels channel h × (r.message.p1 ≡ wire_of h)
      go zero h = absurd (not-on first refl (some_is first r h))
      go (suc zero) h = absurd (not-on second refl (some_is second r h))
      go (suc (suc zero)) h = absurd (not-on third refl (some_is third r h))
      go (suc (suc (suc l))) h =
          let m = At-mapped (create_of n) (waiting_on on x) l r h in
          let was = at-filter (λ (e : Handle × Channel). is_on_in is_connecting on e.1) (held x.channels) l m.0 m.1 in
          let number : channel_number n m.0.0 ≡ channel = channel-is (channel_number n m.0.0) channel (sym (ap (λ (z : Sent). z.intent) m.2) ∙ is) in (
            m.0.0,
            subst (λ (c : ℕ). At n.channels c m.0.0) number (sound.named.numbered m.0.0 m.0.1 (held-under x.channels was.0 m.0 was.1)),
            ap (λ (z : Sent). z.message.p1) m.2,
          )

  -- the circuit after its client connected it
  pub connected-held : HeldOn kept n (sending (set_up x.peer on d ++ creations on x) (begun on x)) (sent_to i n (set_up x.peer on d ++ creations on x) j)
  connected-held = go (eqb i i && true) (and_from (eqb i i) true (eq-eqb i i refl) refl)
    where
      all : HeldOn kept n (sending (set_up x.peer on d ++ creations on x) (begun on x)) (with_up (first ∷ second ∷ third ∷ adds) j)
      all = record {
        flows = flows-all-sent (Awaits j.lists kept) adds set (connects-may (Awaits j.lists kept) on n x set asks-none holds-set) flows-set;
        cids = λ o. cids-new;
        holds = λ o. connects-holds (Awaits j.lists kept) on n x set asks-none holds-set (set_up x.peer on d ++ creations on x);
      }

      go : (b : Bool) → b ≡ true → HeldOn kept n (sending (set_up x.peer on d ++ creations on x) (begun on x)) (with_up ([] ++ cond b (map (stamped n) (filter (λ (m : Sending). same_handle m.circuit on) (set_up x.peer on d ++ creations on x))) []) j)
      go true is =
          subst (λ (l : List Sending). HeldOn kept n (sending (set_up x.peer on d ++ creations on x) (begun on x)) (with_up (map (stamped n) l) j))
          (sym (all-here on on (set_up x.peer on d ++ creations on x) (sent-here on n x d) (same-itself on)))
          (subst (λ (l : List Sent). HeldOn kept n (sending (set_up x.peer on d ++ creations on x) (begun on x)) (with_up (first ∷ second ∷ third ∷ l) j)) (sym (creations-stamped on n x)) all)
      go false is = absurd (both_ways false refl is)

pub keeps-accepted : (kept : List ℕ) (w new : World) (c : ℕ) (x : ClientSide) (v : WantsFirst w x) → At w.clients c x → ClientsStand w → HappensAccept w c x v new → length w.circuits < length new.circuits → HeldAt kept new (length w.circuits)
keeps-accepted kept w new c x v at s happens more = elim happens.leaves [
  | inl refusal ↦ absurd (same-length new refusal.1 more)
  | inr did ↦
      let there = wanted-there x.core v.place v.v v.at in
      subst (λ (u : World). HeldAt kept u (length w.circuits)) (sym did.6)
      (by there.0 there.1 there.2 did.1 did.2 did.3 did.0 (subst (λ (o : Option ClientCircuit). ConnectsOn x.core v.v.circuit o did.1 did.2 did.3) (unconnected-is x.core v.v.circuit there.0 there.1 there.2) did.5))
]
  where
    same-length : (u : World) → u ≡ w → length w.circuits < length u.circuits → ⊥
    same-length u is lt = (let e : length u.circuits ≡ length w.circuits = ap (λ (z : World). length z.circuits) is in omega (arith, e, lt))

    by : (d : ClientCircuit) → under x.core.circuits v.v.circuit ≡ Some d → d.connection ≡ None → (k : Option Closing) (sent : List Sending) (core : Client) (h : Handle) → ConnectsOn x.core v.v.circuit (Some d) k sent core
        → HeldAt kept (client_after c x x.names (record { core = core; names = x.names; lines = lines_of history.OfCircuit x.names (closing_notices k); sent = sent }) (record (with_server v.i (record v.y { core = happens.server }) w) { circuits = w.circuits ++ connected_as k (new_circuit c x v.v.circuit v.i v.y h) ∷ [] })) (length w.circuits)
    by d there none None sent core h does =
        let n : Joined = new_circuit c x v.v.circuit v.i v.y h in
        let made : World = record (with_server v.i (record v.y { core = happens.server }) w) { circuits = w.circuits ++ n ∷ [] } in
        let wants : is_none (connection_at x.core v.v.circuit) ≡ true = ap (λ (o : Option ClientCircuit). is_none (option_and_then (λ (e : ClientCircuit). e.connection) o)) there ∙ ap is_none none in
        after-call kept made c (length w.circuits) x x.names (record { core = core; names = x.names; lines = []; sent = sent }) at
        (λ j is mine was.
        subst (λ (z : Joined). HeldOn kept x.names core (sent_to c x.names sent z)) (At-one made.circuits (length w.circuits) n j (At-last w.circuits n) is)
        (subst (λ (z : List Sending × Client). HeldOn kept x.names z.1 (sent_to c x.names z.0 n)) (λ e. (sym does.0 e, sym does.1 e))
        (connected-held kept c x v.v.circuit v.i v.y h d (s.sound c x at) wants)))
        (n, x, At-last w.circuits n, at, nothing-held v.v.circuit x.names x.core kept c n refl refl refl (s.sound c x at) wants refl)
    by d there none (Some k) sent core h does =
        let n : Joined = connected_as (Some k) (new_circuit c x v.v.circuit v.i v.y h) in
        let made : World = record (with_server v.i (record v.y { core = happens.server }) w) { circuits = w.circuits ++ n ∷ [] } in
        let wants : is_none (connection_at x.core v.v.circuit) ≡ true = ap (λ (o : Option ClientCircuit). is_none (option_and_then (λ (e : ClientCircuit). e.connection) o)) there ∙ ap is_none none in
        after-call kept made c (length w.circuits) x x.names (record { core = core; names = x.names; lines = []; sent = sent }) at
        (λ j is mine was.
        subst (λ (z : Joined). HeldOn kept x.names core (sent_to c x.names sent z)) (At-one made.circuits (length w.circuits) n j (At-last w.circuits n) is)
        (subst (λ (z : List Sending × Client). HeldOn kept x.names z.1 (sent_to c x.names z.0 n)) (λ e. (sym does.1 e, sym does.2 e))
        (none-sent-to kept c x.names x.names x.core (ended v.v.circuit x.core) n (nothing-held v.v.circuit x.names x.core kept c n refl refl refl (s.sound c x at) wants refl) (λ a g stands. stands) (λ o holds. absurd (both_ways false refl o)))))
        (n, x, At-last w.circuits n, at, nothing-held v.v.circuit x.names x.core kept c n refl refl refl (s.sound c x at) wants refl)
