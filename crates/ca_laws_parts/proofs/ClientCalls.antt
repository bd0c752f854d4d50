-- What each call of a client's core leaves of what is known of it and one circuit, whatever its
-- peers send; and so what it sends is legal.
use Rattle.std.proofs.Common.{◌≡◌, ℕ, ◌⊎◌, inl, inr, Bool, true, false, ◌<◌, cond, List, [], ◌∷◌, ◌++◌, length, Option, Some, None, refl, sym, ap, ◌∙◌, subst, arith}
use Rattle.std.specs.Prelude.{Err, Ok, Result, filter, fold, is_none, is_some, map, option_and_then, option_map, option_to_list, unwrap_or}
use Rattle.std.specs.List.{FoldsTo}
use Rattle.std.proofs.lemmas.Bool.{cases_Bool}
use Rattle.std.proofs.lemmas.List.{append_assoc}
use Rattle.ca_text.specs.declared.command.Command.{Command}
use Rattle.ca_text.specs.declared.command.Command.TheVariants as command
use Rattle.ca_text.specs.declared.refusal.Refusal.{Refusal}
use Rattle.ca_text.specs.declared.refusal.Refusal.TheVariants as refusal
use Rattle.ca_text.specs.Place.{At}
use Rattle.ca_arena.specs.declared.handle.Handle.{Handle}
use Rattle.ca_dbr.specs.Elements.{Elements}
use Rattle.ca_ids.specs.Table.{same_handle, under}
use Rattle.ca_link.specs.declared.keep.Keep.{Keep}
use Rattle.ca_link.specs.declared.keep.Keep.TheVariants.{Close, Echo, Idle}
use Rattle.ca_link.specs.Link.{kept, with_handed}
use Rattle.ca_monitor.specs.ReadRun.{after_read, asked_between, sent_by_read}
use Rattle.ca_requests.specs.Requests as request
use Rattle.ca_search.specs.Searches as search
use Rattle.ca_wire.specs.Fields.{Fields}
use Rattle.ca_wire.specs.Messages.{header_only, search_request}
use Rattle.ca_model.specs.Answers.{Closed, Closing, NeedBytes, Notice, Notices, Sending, Stepped}
use Rattle.ca_model.specs.Answers as answers
use Rattle.ca_model.specs.Client.{Channel, Clearing, Client, ClientCircuit, Connecting, Connection, Creating, Doomed, Leaving, Live, On, Phase, is_live, connection_at, ended, later, on_connection, sending}
use Rattle.ca_model.specs.ClientCalls.{ClientClears, ClientOpens, ClientPuts, ClientReads, ClientSubscribes, ClientUnsubscribes, ClientWrites, IsUnchanged, Opening, Shape, is_over, opened, put_sent, read_sent, write_sent}
use Rattle.ca_model.specs.ClientEnds.{ClientSetting, ConnectsOn, GivesOn, Receives, ReceivesAll, StepsOn, Takes, Ticking, after_taking, all_searched_on, beacon_heard, begun, circuits_ticked, due, flow_sent, given, handed_over, is_name_connected, new_client, of_circuit, searches_made, searches_on, ticks, ticks_as, unconnected, with_sending}
use Rattle.ca_model.specs.ClientEnds as ends
use Rattle.ca_model.specs.Ends.{Address}
use Rattle.ca_model.specs.Hears.{Effect, Hears, found_at}
use Rattle.ca_model.specs.Sends.{Conduct, IsDisconnect}
use Rattle.ca_model.specs.Speech.{Cid, Id, Ioid, SubId}
use Rattle.ca_model.proofs.Handles.{not-same, same-is}
use Rattle.ca_model.proofs.Changes.{on-handle}
use Rattle.ca_model.proofs.Hearing.{keeps-begun}
use Rattle.ca_model.proofs.Placed.{keeps-on, keeps-sending}
use Rattle.ca_model.proofs.Tables.{place, under-at}
use Rattle.ca_arena.specs.Arena.{Place}
use Rattle.ca_ids.specs.Wire.{wire_of}
use Rattle.ca_text.proofs.Places.{At-within, some_is}
use Rattle.ca_laws_parts.specs.ClientRows.{ClientAndConduct, Call, ClientsSendLegally, Does, ByCall, Reads, before_sending, sent_on}
use Rattle.ca_laws_parts.specs.ClientRows as call
use Rattle.ca_laws_parts.specs.Conduct.{nothing_done, with_all_sent, with_read}
use Rattle.ca_laws_parts.proofs.CallsAsking.{few-thins, sound-cleared, sound-issued, sound-opened, sound-subscribed, sound-unsubscribed, sound-written}
use Rattle.ca_laws_parts.proofs.Backs.{BacksOn, asks-as-same, cancels-as-same, sent-tables, subscribes-as-same, subscribes-on, was-same}
use Rattle.ca_laws_parts.proofs.Calling.{rests-begun}
use Rattle.ca_laws_parts.proofs.Connecting.{all-begun, begun-at, begun-row, elsewhere, no-legal, no-told, sound-begun, sound-ended}
use Rattle.ca_laws_parts.proofs.Finding.{sound-finds}
use Rattle.ca_laws_parts.proofs.Given.{only-one}
use Rattle.ca_laws_parts.proofs.Giving.{none-written}
use Rattle.ca_laws_parts.proofs.Growing.{Asked, Grows, channel-forth, free-forth, grows-read, has-created, has-read, on-channel-forth, read-there, told-read, went-forth}
use Rattle.ca_laws_parts.proofs.Reading.{Heard, sound-heard}
use Rattle.ca_laws_parts.proofs.Sound.{Base, HeldAs, Sound, Stands}
use Rattle.ca_laws_parts.proofs.Turns.{ArePlain, keeps-rests, none-plain, overs-back, sent-nothing, sound-plain, sound-silent, sound-waits, talks}

-- what is known after these messages were sent
abbrev Then : Handle → Client → List Sending → Conduct → Type 0
Then on y sent e = Sound on y (with_all_sent (sent_on on sent) e)

-- ---- messages in a row

filter-both : (p : Sending → Bool) (a b : List Sending) → filter p (a ++ b) ≡ filter p a ++ filter p b
filter-both p [] b = refl
filter-both p (s ∷ a) b = go (p s) (filter-both p a b)
  where
    go : (k : Bool) → filter p (a ++ b) ≡ filter p a ++ filter p b → cond k (s ∷ filter p (a ++ b)) (filter p (a ++ b)) ≡ cond k (s ∷ filter p a) (filter p a) ++ filter p b
    go true rest = ap (λ (l : List Sending). s ∷ l) rest
    go false rest = rest

map-both : (f : Sending → Fields) (a b : List Sending) → map f (a ++ b) ≡ map f a ++ map f b
map-both f [] b = refl
map-both f (s ∷ a) b = ap (λ (l : List Fields). f s ∷ l) (map-both f a b)

sent-both : (on : Handle) (a b : List Sending) → sent_on on (a ++ b) ≡ sent_on on a ++ sent_on on b
sent-both on a b =
    let p : Sending → Bool = λ (s : Sending). same_handle s.circuit on in
    let f : Sending → Fields = λ (s : Sending). s.message in
    ap (map f) (filter-both p a b) ∙ map-both f (filter p a) (filter p b)

then-both : (on : Handle) (a b : List Sending) (e : Conduct) → with_all_sent (sent_on on b) (with_all_sent (sent_on on a) e) ≡ with_all_sent (sent_on on (a ++ b)) e
then-both on a b e =
    ap (λ (l : List Fields). let f : Conduct = record { sent = l; came = e.came; read = e.read } in f)
    (append_assoc e.sent (sent_on on a) (sent_on on b) ∙ ap (λ (l : List Fields). e.sent ++ l) (sym (sent-both on a b)))

plain-one : (s : Sending) → talks (s.message).command ≡ false → ArePlain (s ∷ [])
plain-one s plain i r at = ap (λ (v : Sending). talks (v.message).command) (only-one s r i at).1 ∙ plain

unchanged : (on : Handle) (x y : Client) (e : Conduct) (sent : List Sending) → Sound on x e → IsUnchanged x sent y → Then on y sent e
unchanged on x y e sent sound same =
    subst (λ (v : Client × List Sending). Then on v.0 v.1 e) (λ i. (sym same.1 i, sym same.0 i)) (subst (λ (f : Conduct). Sound on x f) (sym (sent-nothing on e)) sound)

-- ---- calls that are refused

pub opens-not : (x y : Client) (a : Opening) (sent : List Sending) (r : Refusal) → ClientOpens x a (Err r) sent y → IsUnchanged x sent y
opens-not x y a sent refusal.NameLength does = does.1
opens-not x y a sent refusal.BadPriority does = does.2
opens-not x y a sent refusal.ArenaFull does = does.2
opens-not x y a sent refusal.OutOfMemory does = does.2
opens-not x y a sent _ does = absurd does

pub reads-not : (x y : Client) (h : Handle) (a : Shape) (sent : List Sending) (r : Refusal) → ClientReads x h a (Err r) sent y → IsUnchanged x sent y
reads-not x y h a sent refusal.OutOfMemory does = does.1
reads-not x y h a sent _ does = does.1

pub writes-not : (x y : Client) (h : Handle) (v : Elements) (sent : List Sending) (r : Refusal) → ClientWrites x h v (Err r) sent y → IsUnchanged x sent y
writes-not x y h v sent refusal.OutOfMemory does = does.1
writes-not x y h v sent _ does = does.1

pub puts-not : (x y : Client) (h : Handle) (v : Elements) (sent : List Sending) (r : Refusal) → ClientPuts x h v (Err r) sent y → IsUnchanged x sent y
puts-not x y h v sent refusal.OutOfMemory does = does.1
puts-not x y h v sent _ does = does.1

pub subscribes-not : (x y : Client) (h : Handle) (a : Shape) (mask : ℕ) (sent : List Sending) (r : Refusal) → ClientSubscribes x h a mask (Err r) sent y → IsUnchanged x sent y
subscribes-not x y h a mask sent refusal.OutOfMemory does = does.1
subscribes-not x y h a mask sent _ does = does.1

pub unsubscribes-not : (x y : Client) (g : Handle) (sent : List Sending) (r : Refusal) → ClientUnsubscribes x g (Err r) sent y → IsUnchanged x sent y
unsubscribes-not x y g sent refusal.OutOfMemory does = does.5
unsubscribes-not x y g sent _ does = does.1

pub clears-not : (x y : Client) (h : Handle) (sent : List Sending) (r : Refusal) → ClientClears x h (Err r) sent y → IsUnchanged x sent y
clears-not x y h sent refusal.StaleHandle does = does.1
clears-not x y h sent refusal.OutOfMemory does = does.2
clears-not x y h sent _ does = absurd does

-- ---- callers' calls

module _ (on : Handle) (x y : Client) (e : Conduct) (sent : List Sending) (sound : Sound on x e) where
  does-so : (sends : List Sending) (z : Client) → (sent ≡ sends) × (y ≡ sending sends z) → Then on (sending sends z) sends e → Then on y sent e
  does-so sends z is s = subst (λ (v : Client × List Sending). Then on v.0 v.1 e) (λ i. (sym is.1 i, sym is.0 i)) s

  open-then : (a : Opening) (answer : Result Handle Refusal) → ClientOpens x a answer sent y → Then on y sent e
  open-then a (Ok h) does =
      does-so [] (ends-opened a h) does.2 (subst (λ (f : Conduct). Sound on (ends-opened a h) f) (sym (sent-nothing on e)) (sound-opened on x a h e does.1 sound))
    where
      ends-opened : Opening → Handle → Client
      ends-opened a h = opened a h x
  open-then a (Err r) does = unchanged on x y e sent sound (opens-not x y a sent r does)

  read-then : (h : Handle) (a : Shape) (answer : Result Handle Refusal) → ClientReads x h a answer sent y → Then on y sent e
  read-then h a (Ok q) does =
      does-so (read_sent h does.0 a q ∷ []) _ does.4
      (sound-issued on x e sound h does.0 does.1 (request.Read a.data_type a.count) q (read_sent h does.0 a q) does.3 refl refl refl refl)
  read-then h a (Err r) does = unchanged on x y e sent sound (reads-not x y h a sent r does)

  write-then : (h : Handle) (v : Elements) (answer : Result (Unit {0}) Refusal) → ClientWrites x h v answer sent y → Then on y sent e
  write-then h v (Ok _) does =
      does-so (write_sent h does.0 v ∷ []) x does.3 (sound-written on x e sound h does.0 does.1 (write_sent h does.0 v) refl refl refl (none-written h does.0 v))
  write-then h v (Err r) does = unchanged on x y e sent sound (writes-not x y h v sent r does)

  put-then : (h : Handle) (v : Elements) (answer : Result Handle Refusal) → ClientPuts x h v answer sent y → Then on y sent e
  put-then h v (Ok q) does =
      does-so (put_sent h does.0 v q ∷ []) _ does.4
      (sound-issued on x e sound h does.0 does.1 request.Put q (put_sent h does.0 v q) does.3 refl refl refl refl)
  put-then h v (Err r) does = unchanged on x y e sent sound (puts-not x y h v sent r does)

  subscribe-then : (h : Handle) (a : Shape) (mask : ℕ) (answer : Result Handle Refusal) → ClientSubscribes x h a mask answer sent y → Then on y sent e
  subscribe-then h a mask (Ok q) does = does-so _ _ does.4 (sound-subscribed on x e sound h does.0 does.1 a mask q does.3)
  subscribe-then h a mask (Err r) does = unchanged on x y e sent sound (subscribes-not x y h a mask sent r does)

  unsubscribe-then : (g : Handle) (answer : Result (Unit {0}) Refusal) → ClientUnsubscribes x g answer sent y → Then on y sent e
  unsubscribe-then g (Ok _) does = does-so _ _ does.3 (sound-unsubscribed on x e sound g does.0 does.1)
  unsubscribe-then g (Err r) does = unchanged on x y e sent sound (unsubscribes-not x y g sent r does)

  clear-then : (h : Handle) (answer : Result (List Notice) Refusal) → ClientClears x h answer sent y → Then on y sent e
  clear-then h (Ok notices) does = does-so _ _ does.3 (sound-cleared on x e sound h does.0 does.1)
  clear-then h (Err r) does = unchanged on x y e sent sound (clears-not x y h sent r does)

  -- ---- bytes

  give-then : (c : Handle) (bytes : List ℕ) (more : Bool) (o : Option Connection) (answer : Result (Unit {0}) Refusal) → GivesOn x c bytes more o answer sent y → Then on y sent e
  give-then c bytes more (Some k) (Ok _) does =
      does-so (flow_sent c more k) z does
      (sound-plain on x (sending (flow_sent c more k) z) e (flow_sent c more k) (t.0) (t.1) (t.2)
      (λ d. (keeps-sending (flow_sent c more k) z).links d ∙ (keeps-on _ c x).links d) (flow-plain c (sent_by_read more k.run) k.run.events_off (after_read more k.run).events_off refl) sound)
    where
      z : Client
      z = given c bytes more x

      t : ((sending (flow_sent c more k) z).channels ≡ x.channels) × ((sending (flow_sent c more k) z).requests ≡ x.requests) × ((sending (flow_sent c more k) z).subscriptions ≡ x.subscriptions)
      t = sent-tables (flow_sent c more k) z

      flow-plain : (c : Handle) (o : Option Command) (a b : Bool) → o ≡ asked_between a b → ArePlain (map (λ (k : Command). of_circuit c (header_only k)) (option_to_list o))
      flow-plain c o a b is = subst (λ (v : Option Command). ArePlain (map (λ (k : Command). of_circuit c (header_only k)) (option_to_list v))) (sym is) (go a b)
        where
          go : (a b : Bool) → ArePlain (map (λ (k : Command). of_circuit c (header_only k)) (option_to_list (asked_between a b)))
          go false true = plain-one (of_circuit c (header_only command.EventsOff)) refl
          go true false = plain-one (of_circuit c (header_only command.EventsOn)) refl
          go false false = none-plain
          go true true = none-plain
  give-then c bytes more (Some k) (Err refusal.OutOfMemory) does = unchanged on x y e sent sound does.1
  give-then c bytes more None (Err refusal.CircuitClosed) does = unchanged on x y e sent sound does
  give-then c bytes more _ _ does = absurd does

  -- one message that is not on a channel
  sent-then : (c : Handle) (n : ℕ) → (sent ≡ []) × (y ≡ handed_over c n x) → Then on y sent e
  sent-then c n is =
      subst (λ (v : Client × List Sending). Then on v.0 v.1 e) (λ i. (sym is.1 i, sym is.0 i))
      (go (is_some (connection_at x c)))
    where
      go : (b : Bool) → (let z : Client = cond b (on_connection (λ (k : Connection). record k { link = with_handed n k.link }) c x) x in Then on z [] e)
      go true = sound-plain on x (on_connection (λ (k : Connection). record k { link = with_handed n k.link }) c x) e [] refl refl refl (keeps-on _ c x).links none-plain sound
      go false = subst (λ (f : Conduct). Sound on x f) (sym (sent-nothing on e)) sound

  -- ---- ends

  ended-then : (c : Handle) → (sent ≡ []) × (y ≡ ended c x) → Then on y sent e
  ended-then c is =
      subst (λ (v : Client × List Sending). Then on v.0 v.1 e) (λ i. (sym is.1 i, sym is.0 i))
      (subst (λ (f : Conduct). Sound on (ended c x) f) (sym (sent-nothing on e)) (sound-ended on c x e sound))

  -- ---- a circuit is connected

  unconnected-there : (c : Handle) (d : ClientCircuit) → unconnected x c ≡ Some d → (under x.circuits c ≡ Some d) × (d.connection ≡ None)
  unconnected-there c d is = go (under x.circuits c) refl is
    where
      pick : (v : ClientCircuit) (o : Option Connection) → v.connection ≡ o → cond (is_none o) (Some v) None ≡ Some d → (v ≡ d) × (v.connection ≡ None)
      pick v None at f = (some_is v d f, at)
      pick v (Some k) at f = absurd cc

      go : (o : Option ClientCircuit) → under x.circuits c ≡ o → option_and_then (λ (v : ClientCircuit). cond (is_none v.connection) (Some v) None) o ≡ Some d
          → (under x.circuits c ≡ Some d) × (d.connection ≡ None)
      go (Some v) at f = (let r = pick v v.connection refl f in (at ∙ ap (λ (w : ClientCircuit). Some w) r.0, ap (λ (w : ClientCircuit). w.connection) (sym r.0) ∙ r.1))
      go None at f = absurd cc

  -- on another circuit
  begun-elsewhere : (c : Handle) (d : ClientCircuit) → under x.circuits c ≡ Some d → d.connection ≡ None → (c ≡ on → ⊥)
      → (sent ≡ all-begun x c d) × (y ≡ sending (all-begun x c d) (begun c x)) → Then on y sent e
  begun-elsewhere c d there none other is =
      subst (λ (v : Client × List Sending). Then on v.0 v.1 e) (λ i. (sym is.1 i, sym is.0 i))
      (subst (λ (l : List Fields). Sound on (sending all z) (with_all_sent l e)) (sym (elsewhere on c all (λ i s at. (begun-at x c d i s at).0) other))
      (subst (λ (f : Conduct). Sound on (sending all z) f) (sym (sent-nothing on e)) (sound-waits on z e all (keeps-sending all z).links sound-z)))
    where
      z : Client
      z = begun c x

      all : List Sending
      all = all-begun x c d

      back : BacksOn on x.channels z.channels
      back h w p row stands =
          let r = begun-row c x h w row in
          elim r.2 [
            | inl waits ↦ absurd (other (on-handle c on (Creating 0) p (sym waits.1 ∙ stands)))
            | inr same ↦ was-same on x.channels h w p (subst (λ (v : Channel). under x.channels h ≡ Some v) (sym same.1) r.1) stands
          ]

      sound-z : Sound on z e
      sound-z =
          let keeps = keeps-begun c d x there none in
          let subs = subscribes-as-same x.subscriptions x.subscriptions refl in
          sound-silent on x z e (few-thins x z keeps.thins sound.base.few) (keeps.placed sound.base.placed)
          (record { channels = back; requests = asks-as-same x.requests x.requests refl; subscriptions = subs; cancelled = cancels-as-same x.subscriptions x.subscriptions refl })
          (λ connected. sym (keeps.links on (λ same. other (sym same))) ∙ connected)
          (λ l s id at gives held. inl (keeps-rests on x z e [] (overs-back on x z [] back) (rests-begun on c x) (asks-as-same x.requests x.requests refl) (subscribes-on x.subscriptions x.subscriptions subs) l s id held)) sound

  connects-then : (c : Handle) (o : Option ClientCircuit) (k : Option Closing) → unconnected x c ≡ o → ConnectsOn x c o k sent y
      → Then on y sent (before_sending on (call.Connected c k) e)
  connects-then c None None at does = absurd does
  connects-then c None (Some k) at does = unchanged on x y e sent sound does.1
  connects-then c (Some d) (Some k) at does = ended-then c (does.1, does.2)
  connects-then c (Some d) None at does = go (cases_Bool (same_handle c on))
    where
      u : (under x.circuits c ≡ Some d) × (d.connection ≡ None)
      u = unconnected-there c d at

      go : (same_handle c on ≡ true) ⊎ (same_handle c on ≡ false) → Then on y sent (cond (same_handle c on) nothing_done e)
      go (inl same) =
          subst (λ (b : Bool). Then on y sent (cond b nothing_done e)) (sym same)
          (subst (λ (h : Handle). Then h y sent nothing_done) (same-is c on same) (sound-begun c x c d u.0 u.1 sound.base.few sound.base.placed None sent y does refl))
      go (inr other) =
          subst (λ (b : Bool). Then on y sent (cond b nothing_done e)) (sym other)
          (begun-elsewhere c d u.0 u.1 (not-same c on other) does)

-- ---- steps

-- what is known once a message was read
module _ (on : Handle) (x : Client) (c : Handle) (m : Fields) (e : Conduct) (sound : Sound on x e) where
  heard-elsewhere : (c ≡ on → ⊥) → Heard on x c m e
  heard-elsewhere other = record {
    base = sound.base;
    known = λ h ch p there stands lost. sound.channels h ch p there stands;
    live = λ h ch n rights there stands. (let s = sound.channels h ch (Live n rights) there stands in (s.0, s.1, s.2.0));
    created = λ here. absurd (other here);
    read = λ here. absurd (other here);
  }

  abbrev now : Conduct
  now = with_read (Some m) e

  grows : Grows e now
  grows = grows-read e m sound.base.told

  held-now : (l : ℕ) (s : Fields) (id : Id) → At e.sent l s → HeldAs on x e l s id → HeldAs on x now l s id
  held-now l s (Cid n) at held = held
  held-now l s (Ioid n) at held =
      (let lt : l < length e.sent = At-within e.sent l s at in
      (held.0, held.1, held.2, held.3, held.4, held.5, went-forth e now grows l (wire_of held.1.channel) s (omega (arith, lt)) held.6, held.7))
  held-now l s (SubId n) at held =
      (let lt : l < length e.sent = At-within e.sent l s at in
      (held.0, held.1, held.2, held.3, held.4, went-forth e now grows l (wire_of held.1.channel) s (omega (arith, lt)) held.5, held.6, held.7))

  base-now : Base on x now
  base-now = record {
    few = sound.base.few;
    placed = sound.base.placed;
    told = told-read e m sound.base.told;
    adds = sound.base.adds;
    stopped = λ g d l s there stops at gives. elim (sound.base.stopped g d l s there stops at gives) [
      | inl free ↦ inl (free-forth e now grows l (length e.sent) (length e.sent) (omega arith) (omega arith) free)
      | inr cancelled ↦ inr cancelled
    ];
    held = λ connected l s id at gives. elim (sound.base.held connected l s id at gives) [
      | inl free ↦ inl (free-forth e now grows l (length e.sent) (length e.sent) (omega arith) (omega arith) free)
      | inr held ↦ inr (held-now l s id at held)
    ];
    legal = record {
      on_channel = λ k s at is. on-channel-forth e now grows k s (At-within e.sent k s at) (sound.base.legal.on_channel k s at is);
      cancels = sound.base.legal.cancels;
      ids = λ l k r s a b lt at_r at_s gives_r gives_s same.
          (let k_lt : k < length e.sent = At-within e.sent k s at_s in
          free-forth e now grows l k k (omega (arith, k_lt)) (omega arith) (sound.base.legal.ids l k r s a b lt at_r at_s gives_r gives_s same));
    };
  }

  stands-now : (h : Handle) (p : Phase) → (is_live p ≡ true → IsDisconnect (wire_of h) m → ⊥) → Stands e (wire_of h) p → Stands now (wire_of h) p
  stands-now h (Live n rights) other s = (s.0, s.1, has-read e m sound.base.told s.0 s.1 (wire_of h) n.sid (other refl) s.2)
  stands-now h (Creating rights) other s = s
  stands-now h Doomed other s = s
  stands-now h Connecting other s = tt
  stands-now h Leaving other s = tt
  stands-now h Clearing other s = tt

  asked-so : (h : Handle) (ch : Channel) (p : Phase) → under x.channels h ≡ Some ch → ch.standing ≡ On on p
      → (p ≡ Doomed) ⊎ ((rights : ℕ) × (p ≡ Creating rights)) → (i : ℕ) × Asked e i (wire_of h)
  asked-so h ch p there stands which = elim which [
    | inl is ↦ sound.channels h ch Doomed there (stands ∙ ap (λ (k : Phase). On on k) is)
    | inr is ↦ sound.channels h ch (Creating is.0) there (stands ∙ ap (λ (k : Phase). On on k) is.1)
  ]

  heard-here : c ≡ on → Heard on x c m now
  heard-here here = record {
    base = base-now;
    known = λ h ch p there stands lost. stands-now h p (λ live is. lost live here is) (sound.channels h ch p there stands);
    live = λ h ch n rights there stands.
        (let s = sound.channels h ch (Live n rights) there stands in
        (s.0, s.1, channel-forth e now grows (length e.sent) s.0 s.1 (wire_of h) n.sid (omega arith) s.2.0));
    created = λ same h ch p sid there stands which creates is.
        (let a = asked-so h ch p there stands which in (a.0, length e.came, has-created e m sound.base.told a.0 (wire_of h) sid a.1 creates is));
    read = λ same. (let r = read-there e m sound.base.told in (length e.came, r.0, r.1));
  }

module _ (on : Handle) (x y : Client) (e : Conduct) (sent : List Sending) (sound : Sound on x e) (c : Handle) where
  takes-then : (m : Fields) (d : Connection) (notices : List Notice) (t : Takes x c d (record { core = y; sent = sent; notices = notices })) → t.m ≡ m
      → Then on y sent (cond (same_handle c on) (with_read (Some m) e) e)
  takes-then m d notices t is = go (cases_Bool (same_handle c on))
    where
      z : Client
      z = after_taking c t.rest x

      sound-z : Sound on z e
      sound-z = subst (λ (f : Conduct). Sound on z f) (sent-nothing on e) (sound-plain on x z e [] refl refl refl (keeps-on _ c x).links none-plain sound)

      f : Effect
      f = record { core = y; sent = sent; notices = notices }

      hears : Hears z c m f
      hears = subst (λ (k : Fields). Hears z c k f) is t.hears

      go : (same_handle c on ≡ true) ⊎ (same_handle c on ≡ false) → Then on y sent (cond (same_handle c on) (with_read (Some m) e) e)
      go (inl same) =
          subst (λ (b : Bool). Then on y sent (cond b (with_read (Some m) e) e)) (sym same)
          (sound-heard on z c m (with_read (Some m) e) (heard-here on z c m e sound-z (same-is c on same)) f hears)
      go (inr other) =
          subst (λ (b : Bool). Then on y sent (cond b (with_read (Some m) e) e)) (sym other)
          (sound-heard on z c m e (heard-elsewhere on z c m e sound-z (not-same c on other)) f hears)

  -- nothing was read
  nothing-read : Then on y sent e → Then on y sent (cond (same_handle c on) (with_read None e) e)
  nothing-read s = go (same_handle c on)
    where
      go : (b : Bool) → Then on y sent (cond b (with_read None e) e)
      go true = s
      go false = s

  steps-on : (o : Option Connection) (answer : Stepped) → (let was : (told : List Notice) → Stepped = λ told. Notices told in (told : List Notice) → answer ≡ was told → ⊥) → StepsOn x c o answer sent y → Then on y sent e
  steps-on None (Closed k) other does = unchanged on x y e sent sound does.1
  steps-on (Some d) (Closed k) other does = ended-then on x y e sent sound c (does.1.1, does.1.2)
  steps-on (Some d) NeedBytes other does = unchanged on x y e sent sound does.2
  steps-on (Some d) (Notices told) other does = absurd (other told refl)
  steps-on None NeedBytes other does = absurd does
  steps-on None (Notices told) other does = absurd does

  step-then : (read : Option Fields) (answer : Stepped) → Reads x c read answer sent y → Then on y sent (cond (same_handle c on) (with_read read e) e)
  step-then (Some m) (Notices told) does = takes-then m does.0 told does.2 does.3
  step-then None (Notices told) does = absurd does
  step-then (Some m) NeedBytes does = absurd does
  step-then (Some m) (Closed k) does = absurd does
  step-then None NeedBytes does = nothing-read (steps-on (connection_at x c) NeedBytes (λ told is. cc) does)
  step-then None (Closed k) does = nothing-read (steps-on (connection_at x c) (Closed k) (λ told is. cc) does)

-- ---- a moment

module _ (on : Handle) (e : Conduct) where
  abbrev Ticked : Ticking → Type 0
  Ticked t = Then on t.core t.sent e

  more-plain : (t : Ticking) (s : Sending) → talks (s.message).command ≡ false → Ticked t → Ticked (with_sending s t)
  more-plain t s plain known =
      subst (λ (f : Conduct). Sound on (sending (s ∷ []) t.core) f) (then-both on t.sent (s ∷ []) e)
      (sound-plain on t.core (sending (s ∷ []) t.core) (with_all_sent (sent_on on t.sent) e) (s ∷ []) refl refl refl (keeps-sending (s ∷ []) t.core).links (plain-one s plain) known)

  ticks-then : (t : Ticking) (c : Handle) → Ticked t → Ticked (ticks t c)
  ticks-then t c known = go (connection_at t.core c)
    where
      by : (k : Keep) → Ticked (ticks_as k c t)
      by Idle = known
      by Close = sound-ended on c t.core (with_all_sent (sent_on on t.sent) e) known
      by Echo =
          let noted : Client = on_connection (λ (k : Connection). record k { link = record k.link { echoed = true } }) c t.core in
          let f : Conduct = with_all_sent (sent_on on t.sent) e in
          more-plain (record t { core = noted }) (of_circuit c (header_only command.Echo)) refl
          (subst (λ (g : Conduct). Sound on noted g) (sent-nothing on f) (sound-plain on t.core noted f [] refl refl refl (keeps-on _ c t.core).links none-plain known))

      go : (o : Option Connection) → Ticked (unwrap_or (option_map (λ (k : Connection). ticks_as (kept t.core.moment k.link) c t) o) t)
      go None = known
      go (Some k) = by (kept t.core.moment k.link)

  ticks-all : (order : List Handle) (t : Ticking) → Ticked t → Ticked (fold ticks t order)
  ticks-all [] t known = known
  ticks-all (c ∷ order) t known = ticks-all order (ticks t c) (ticks-then t c known)

  search-then : (c : Handle) (t : Ticking) (w : search.Wanted) → Ticked t → Ticked (searches_on c t w)
  search-then c t w known = go (is_over t.core c)
    where
      go : (b : Bool) → Ticked (cond b t (with_sending (of_circuit c (search_request w.cid w.name)) t))
      go true = known
      go false = more-plain t (of_circuit c (search_request w.cid w.name)) refl known

  search-each : (c : Handle) (ws : List search.Wanted) (t : Ticking) → Ticked t → Ticked (fold (searches_on c) t ws)
  search-each c [] t known = known
  search-each c (w ∷ ws) t known = search-each c ws (searches_on c t w) (search-then c t w known)

  search-all : (ws : List search.Wanted) (cs : List Handle) (t : Ticking) → Ticked t → Ticked (fold (all_searched_on ws) t cs)
  search-all ws [] t known = known
  search-all ws (c ∷ cs) t known = search-all ws cs (all_searched_on ws t c) (search-each c ws t known)

  made-then : (moment : ℕ) (x : Client) → Sound on x e → Ticked (searches_made (circuits_ticked moment x))
  made-then moment x sound =
      let t : Ticking = circuits_ticked moment x in
      let u : Ticking = fold (all_searched_on (due t.core)) t (filter (is_name_connected t.core) t.core.order) in
      let y : Client = record x { moment = later moment x } in
      let first : Ticking = record { core = y; sent = []; notices = []; closings = [] } in
      let begins : Ticked first = sound-plain on x y e [] refl refl refl (λ c. refl) none-plain sound in
      let all : Ticked u = search-all (due t.core) (filter (is_name_connected t.core) t.core.order) t (ticks-all x.order first begins) in
      let f : Conduct = with_all_sent (sent_on on u.sent) e in
      subst (λ (g : Conduct). Sound on (searches_made t).core g) (sent-nothing on f) (sound-plain on u.core (searches_made t).core f [] refl refl refl (λ c. refl) none-plain all)

tick-then : (on : Handle) (x y : Client) (e : Conduct) (sent : List Sending) → Sound on x e → (now : ℕ) (answer : Result answers.Ticked Refusal) → ends.ClientTicks x now answer sent y → Then on y sent e
tick-then on x y e sent sound moment (Ok t) does =
    subst (λ (v : Client × List Sending). Then on v.0 v.1 e) (λ i. (sym does.2 i, sym does.1 i)) (made-then on e moment x sound)
tick-then on x y e sent sound moment (Err refusal.OutOfMemory) does = unchanged on x y e sent sound does.1
tick-then on x y e sent sound moment _ does = absurd does

-- ---- datagrams

received-then : (on : Handle) (from : Address) (x : Client) (m : Fields) (f : Effect) (e : Conduct) → Sound on x e → Receives from x m f → Then on f.core f.sent e
received-then on from x m f e sound (ends.Search is finds) = sound-finds on x e sound (found_at from m) m.p2 f finds
received-then on from x m f e sound (ends.Beacon is port does) =
    subst (λ (v : Effect). Then on v.core v.sent e) (sym does) (sound-plain on x (beacon_heard from m x) e [] refl refl refl (λ c. refl) none-plain sound)
received-then on from x m f e sound (ends.Other not_search not_beacon does) =
    subst (λ (v : Effect). Then on v.core v.sent e) (sym does) (subst (λ (g : Conduct). Sound on x g) (sym (sent-nothing on e)) sound)

all-received-then : (on : Handle) (from : Address) (ms : List Fields) (x : Client) (f : Effect) (e : Conduct) → Sound on x e → ReceivesAll from x ms f → Then on f.core f.sent e
all-received-then on from [] x f e sound does =
    subst (λ (v : Effect). Then on v.core v.sent e) (sym does) (subst (λ (g : Conduct). Sound on x g) (sym (sent-nothing on e)) sound)
all-received-then on from (m ∷ ms) x f e sound does =
    let a : Effect = does.0 in
    let b : Effect = does.1 in
    subst (λ (v : Effect). Then on v.core v.sent e) (sym does.4)
    (subst (λ (g : Conduct). Sound on b.core g) (then-both on a.sent b.sent e)
    (all-received-then on from ms a.core b (with_all_sent (sent_on on a.sent) e) (received-then on from x m a e sound does.2) does.3))

datagram-then : (on : Handle) (x y : Client) (e : Conduct) (sent : List Sending) → Sound on x e → (a : ends.Arrival) (answer : Result (Unit {0}) Refusal) → ends.ClientReceives x a answer sent y → Then on y sent e
datagram-then on x y e sent sound a (Ok _) does =
    let z : Client = record x { moment = later a.now x } in
    all-received-then on a.from does.0 z (record { core = y; sent = sent; notices = [] }) e
    (subst (λ (f : Conduct). Sound on z f) (sent-nothing on e) (sound-plain on x z e [] refl refl refl (λ c. refl) none-plain sound)) does.2
datagram-then on x y e sent sound a (Err refusal.OutOfMemory) does = unchanged on x y e sent sound does.1
datagram-then on x y e sent sound a _ does = absurd does

-- ---- every call, and every row

does-then : (on : Handle) (x y : Client) (e : Conduct) (sent : List Sending) (it : Call) → Sound on x e → Does x it sent y → Then on y sent (before_sending on it e)
does-then on x y e sent (call.Open a answer) sound does = open-then on x y e sent sound a answer does
does-then on x y e sent (call.Read h a answer) sound does = read-then on x y e sent sound h a answer does
does-then on x y e sent (call.Write h v answer) sound does = write-then on x y e sent sound h v answer does
does-then on x y e sent (call.WriteNotify h v answer) sound does = put-then on x y e sent sound h v answer does
does-then on x y e sent (call.Subscribe h a mask answer) sound does = subscribe-then on x y e sent sound h a mask answer does
does-then on x y e sent (call.Unsubscribe g answer) sound does = unsubscribe-then on x y e sent sound g answer does
does-then on x y e sent (call.Clear h answer) sound does = clear-then on x y e sent sound h answer does
does-then on x y e sent (call.Connected c answer) sound does = connects-then on x y e sent sound c (unconnected x c) answer refl does
does-then on x y e sent (call.Give c bytes more answer) sound does = give-then on x y e sent sound c bytes more (connection_at x c) answer does
does-then on x y e sent (call.Sent c n) sound does = sent-then on x y e sent sound c n does
does-then on x y e sent (call.Step c read answer) sound does = step-then on x y e sent sound c read answer does
does-then on x y e sent (call.Cut c answer) sound does = ended-then on x y e sent sound c (does.1, does.2)
does-then on x y e sent (call.Close c answer) sound does = ended-then on x y e sent sound c (does.1, does.2)
does-then on x y e sent (call.Tick now answer) sound does = tick-then on x y e sent sound now answer does
does-then on x y e sent (call.Datagram a answer) sound does = datagram-then on x y e sent sound a answer does

row-then : (on : Handle) (calls : List Call) (old new : ClientAndConduct) → Sound on old.core old.conduct → FoldsTo (ByCall on) old calls new → Sound on new.core new.conduct
row-then on [] old new sound is = subst (λ (v : ClientAndConduct). Sound on v.core v.conduct) is sound
row-then on (it ∷ calls) old new sound (mid, one, rest) =
    row-then on calls mid new
    (subst (λ (f : Conduct). Sound on mid.core f) (sym one.2) (does-then on old.core mid.core old.conduct one.0 it sound one.1)) rest

-- a client that did nothing yet
sound-new : (on : Handle) (a : ClientSetting) → Sound on (new_client a) nothing_done
sound-new on a = record {
  base = record {
    few = record { channels = omega arith; requests = omega arith; subscriptions = omega arith };
    placed = record {
      attached = record { requests = λ q r is. absurd (none-under q r is); subscriptions = λ g d o is drains. absurd (none-under g d is) };
      waiting = λ h ch c p is stands. absurd (none-under h ch is);
    };
    told = no-told;
    adds = λ g d ch n rights there stands on_it live. absurd (none-under g d there);
    stopped = λ g d l s there stops at. absurd (none-at l s at);
    held = λ connected l s id at gives. absurd (none-at l s at);
    legal = no-legal;
  };
  channels = λ h ch p there stands. absurd (none-under h ch there);
}
  where
    none-under : {T : Type 0} (h : Handle) (v : T) → under [] h ≡ Some v → ⊥
    none-under {T} h v is = none h (place h v) (under-at [] h v is)
      where
        none : (h : Handle) (p : Place T) → At [] h.index p → ⊥
        none h p at = cc

    none-at : (l : ℕ) (s : Fields) → At [] l s → ⊥
    none-at l s at = cc

pub clients-send-legally : ClientsSendLegally
clients-send-legally c a calls now rows =
    (row-then c calls (record { core = rows.0; conduct = nothing_done }) now (subst (λ (x : Client). Sound c x nothing_done) (sym rows.1.2) (sound-new c a)) rows.2).base.legal
