-- A caller reads, puts, writes or subscribes: what is held of each circuit of its client stays so.
use Rattle.std.proofs.Common.{◌≡◌, ℕ, inl, inr, true, false, List, [], ◌∷◌, Option, refl, sym, ap, ◌∙◌, subst}
use Rattle.std.specs.Prelude.{Ok, option_map, unwrap_or}
use Rattle.ca_dbr.specs.Elements.{Elements}
use Rattle.ca_text.specs.Place.{At}
use Rattle.ca_arena.specs.declared.handle.Handle.{Handle}
use Rattle.ca_ids.specs.Table.{MayGive, same_handle, with_held}
use Rattle.ca_ids.specs.Wire.{wire_of}
use Rattle.ca_monitor.specs.Subscriptions.{Subscription}
use Rattle.ca_requests.specs.Requests.{Asked, Request, was_sent_on}
use Rattle.ca_requests.specs.Requests as request
use Rattle.ca_model.specs.Answers.{Sending}
use Rattle.ca_model.specs.Client.{Channel, Client, Live, On, is_on_in, sending}
use Rattle.ca_model.specs.ClientCalls.{ClientPuts, ClientReads, ClientSubscribes, ClientWrites, LiveChannel, Shape, event_add_sent, issued, new_subscription, put_sent, read_sent, write_sent}
use Rattle.ca_model.specs.History.{Circuit, Intent, Kind, Sent}
use Rattle.ca_model.specs.History as history
use Rattle.ca_model.specs.Speech.{Ioid, SubId}
use Rattle.ca_model.specs.Channels.{Suits}
use Rattle.ca_model.specs.ClientEvents.{channel_number, intent_of, meant_by}
use Rattle.ca_model.specs.World.{Joined, Names}
use Rattle.ca_laws_parts.specs.Flows.{Awaits, MaySend, with_sent}
use Rattle.ca_laws_parts.specs.Held.{HoldAlike, Holds, IsAsking, has_id, is_asked, is_subscribed, with_request, with_subscription}
use Rattle.ca_laws_parts.proofs.Alike.{alike-itself, held-alike, holds-alike, sending-alike, with-others}
use Rattle.ca_laws_parts.proofs.CircuitCalls.{call-keeps, call-may, meant-others, meant-own}
use Rattle.ca_model.proofs.Standings.{found-standing, is-on}
use Rattle.ca_model.proofs.Standings.{fails-elsewhere}
use Rattle.ca_laws_parts.proofs.Subscribes.{subscribe-keeps, subscribe-may}
use Rattle.ca_laws_parts.proofs.Writes.{write-keeps, write-may}
use Rattle.ca_laws_parts.specs.Circuit.{AreGiven, HeldOn, sent_to, stamped}
use Rattle.ca_laws_parts.proofs.RunsSending.{channel-named, new-name, one-sent}

-- ---- one name more

request-named : (Awaits : ℕ → Type 0) (on : Handle) (n : Names) (x : Client) (c : Circuit) (q : Handle) (intent : Intent) → Holds Awaits on n x c → Holds Awaits on (with_request q intent n) x c
request-named Awaits on n x c q intent h = record {
  channels = h.channels;
  requests = record {
    few = h.requests.few;
    busy = h.requests.busy;
    own = λ g r is here. (let m = h.requests.own g r is here in (m.0, m.1, m.2, meant-others (Ioid (wire_of g)) m.1 n.requests (q, intent) g m.3 refl));
  };
  subscriptions = h.subscriptions;
}

subscription-named : (Awaits : ℕ → Type 0) (on : Handle) (n : Names) (x : Client) (c : Circuit) (q : Handle) (intent : Intent) → Holds Awaits on n x c → Holds Awaits on (with_subscription q intent n) x c
subscription-named Awaits on n x c q intent h = record {
  channels = h.channels;
  requests = h.requests;
  subscriptions = record {
    few = h.subscriptions.few;
    busy = h.subscriptions.busy;
    own = λ g d is here. (let m = h.subscriptions.own g d is here in (m.0, m.1, m.2, meant-others (SubId (wire_of g)) m.1 n.subscriptions (q, intent) g m.3 refl));
  };
}

-- ---- a request with an answer

pub no-creation : (a b : ℕ) (kind : Kind) (n : ℕ) → history.On a (history.Request kind n) ≡ history.On b history.Create → ⊥
no-creation a b kind n e = cc

pub no-creation-sub : (a b n : ℕ) → history.On a (history.Subscribe n) ≡ history.On b history.Create → ⊥
no-creation-sub a b n e = cc

pub no-creation-clear : (a b : ℕ) → history.On a history.Clear ≡ history.On b history.Create → ⊥
no-creation-clear a b e = cc

issued-elsewhere : (on : Handle) (x : Client) (h : Handle) (l : LiveChannel) (asked : Asked) (q : Handle) → MayGive x.requests q → same_handle l.circuit on ≡ false → HoldAlike on x (issued h l asked q x)
issued-elsewhere on x h l asked q may other =
    let r : Request = record { channel = h; circuit = l.circuit; asked = asked; stage = request.Open } in
    with-others on x (issued h l asked q x) refl (held-alike (was_sent_on on) x.requests q r may other) (alike-itself (has_id x.channels on) x.subscriptions)

-- a message that asks for an answer, on the circuit of a live channel
pub asked-held : (kept : List ℕ) (i : ℕ) (n : Names) (x : Client) (j : Joined) (h : Handle) (l : LiveChannel) (asked : Asked) (q : Handle) (kind : Kind) (channel number : ℕ) (s : Sending)
    → AreGiven n.requests x.requests → MayGive x.requests q → s.circuit ≡ l.circuit
    → (let intent : Intent = history.On channel (history.Request kind number) in
    let m : Sent = record { message = s.message; intent = intent } in
    IsAsking m → s.message.p2 ≡ wire_of q → Suits intent s.message → intent_of (with_request q intent n) s.aim ≡ meant_by (with_request q intent n).requests q
    → HeldOn kept n x j → j.client ≡ i → HeldOn kept (with_request q intent n) (sending (s ∷ []) (issued h l asked q x)) (sent_to i (with_request q intent n) (s ∷ []) j))
asked-held kept i n x j h l asked q kind channel number s given may on asks wire suits aims held mine =
    let intent : Intent = history.On channel (history.Request kind number) in
    let now : Names = with_request q intent n in
    let m : Sent = record { message = s.message; intent = intent } in
    let y : Client = issued h l asked q x in
    let new = new-name n.requests x.requests q given may in
    let is : stamped now s ≡ m = ap (λ (k : Intent). let z : Sent = record { message = s.message; intent = k } in z) (aims ∙ meant-own n.requests q intent new) in
    one-sent kept i n now x (sending (s ∷ []) y) j s held mine (λ k g at. at)
    (λ a creates. absurd (no-creation channel a kind number (sym (aims ∙ meant-own n.requests q intent new) ∙ creates)))
    (λ open_it same holds.
    subst (λ (z : Sent). MaySend (Awaits j.lists kept) j.lists z × Holds (Awaits j.lists kept) j.at_client now (sending (s ∷ []) y) (with_sent z j.lists)) (sym is) (
      call-may (Awaits j.lists kept) j.at_client n x j.lists m q kind channel number asks wire refl suits may new holds,
      call-keeps (Awaits j.lists kept) j.at_client n x j.lists m q kind channel number asks wire refl suits may new holds h l asked s (sym on ∙ same),
    ))
    (λ open_it other holds.
    holds-alike (Awaits j.lists kept) j.at_client now y (sending (s ∷ []) y) j.lists (sending-alike j.at_client (s ∷ []) y)
    (holds-alike (Awaits j.lists kept) j.at_client now x y j.lists
    (issued-elsewhere j.at_client x h l asked q may (subst (λ (k : Handle). same_handle k j.at_client ≡ false) on other))
    (request-named (Awaits j.lists kept) j.at_client n x j.lists q intent holds)))

-- `read`
pub read-held : (kept : List ℕ) (i : ℕ) (n : Names) (x y : Client) (j : Joined) (h : Handle) (a : Shape) (q : Handle) (sent : List Sending) (channel number : ℕ) → AreGiven n.requests x.requests → ClientReads x h a (Ok q) sent y
    → HeldOn kept n x j → j.client ≡ i
    → (let now : Names = with_request q (history.On channel (history.Request history.Read number)) n in HeldOn kept now y (sent_to i now sent j))
read-held kept i n x y j h a q sent channel number given reads held mine =
    let now : Names = with_request q (history.On channel (history.Request history.Read number)) n in
    let l : LiveChannel = reads.0 in
    let s : Sending = read_sent h l a q in
    subst (λ (z : List Sending × Client). HeldOn kept now z.1 (sent_to i now z.0 j)) (λ k. (sym reads.4.0 k, sym reads.4.1 k))
    (asked-held kept i n x j h l (request.Read a.data_type a.count) q history.Read channel number s given reads.3 refl (inl refl) refl refl refl held mine)

-- `write_notify`
pub put-held : (kept : List ℕ) (i : ℕ) (n : Names) (x y : Client) (j : Joined) (h : Handle) (e : Elements) (q : Handle) (sent : List Sending) (channel number : ℕ) → AreGiven n.requests x.requests → ClientPuts x h e (Ok q) sent y
    → HeldOn kept n x j → j.client ≡ i
    → (let now : Names = with_request q (history.On channel (history.Request history.Put number)) n in HeldOn kept now y (sent_to i now sent j))
put-held kept i n x y j h e q sent channel number given puts held mine =
    let now : Names = with_request q (history.On channel (history.Request history.Put number)) n in
    let l : LiveChannel = puts.0 in
    let s : Sending = put_sent h l e q in
    subst (λ (z : List Sending × Client). HeldOn kept now z.1 (sent_to i now z.0 j)) (λ k. (sym puts.4.0 k, sym puts.4.1 k))
    (asked-held kept i n x j h l request.Put q history.Put channel number s given puts.3 refl (inr refl) refl refl refl held mine)

-- ---- a plain write

pub write-held : (kept : List ℕ) (i : ℕ) (n : Names) (x y : Client) (j : Joined) (h : Handle) (e : Elements) (sent : List Sending) → ClientWrites x h e (Ok tt) sent y → HeldOn kept n x j → j.client ≡ i → HeldOn kept n y (sent_to i n sent j)
write-held kept i n x y j h e sent writes held mine =
    let l : LiveChannel = writes.0 in
    let s : Sending = write_sent h l e in
    let found = found-standing x h (On l.circuit (Live l.native l.rights)) writes.1 in
    subst (λ (z : List Sending × Client). HeldOn kept n z.1 (sent_to i n z.0 j)) (λ k. (sym writes.3.0 k, sym writes.3.1 k))
    (one-sent kept i n n x (sending (s ∷ []) x) j s held mine (λ k g at. at) (λ a creates. absurd (no-creation (channel_number n h) a history.Write n.writes creates))
    (λ open_it same holds.
    let asked : is_on_in is_asked j.at_client found.0 ≡ true =
    subst (λ (k : Handle). is_on_in is_asked k found.0 ≡ true) same (is-on is_asked l.circuit found.0 (Live l.native l.rights) found.2) in
    let cids : (k : ℕ) (r : Sent) → At j.lists.up k r → r.intent ≡ history.On (channel_number n h) history.Create → r.message.p1 ≡ wire_of h =
    λ k r at is. (let c = held.cids open_it k (channel_number n h) r at is in c.2 ∙ ap wire_of (channel-named n h c.0 c.1)) in (
      write-may (Awaits j.lists kept) j.at_client n x j.lists (stamped n s) h n.writes refl refl found.0 found.1 asked cids holds,
      write-keeps (Awaits j.lists kept) j.at_client n x j.lists (stamped n s) h n.writes refl refl found.0 found.1 asked cids holds (s ∷ []),
    ))
    (λ open_it other holds. holds-alike (Awaits j.lists kept) j.at_client n x (sending (s ∷ []) x) j.lists (sending-alike j.at_client (s ∷ []) x) holds))

-- ---- a subscription

pub subscribe-held : (kept : List ℕ) (i : ℕ) (n : Names) (x y : Client) (j : Joined) (h : Handle) (a : Shape) (mask : ℕ) (q : Handle) (sent : List Sending) (channel number : ℕ) → AreGiven n.subscriptions x.subscriptions → ClientSubscribes x h a mask (Ok q) sent y
    → HeldOn kept n x j → j.client ≡ i
    → (let now : Names = with_subscription q (history.On channel (history.Subscribe number)) n in HeldOn kept now y (sent_to i now sent j))
subscribe-held kept i n x y j h a mask q sent channel number given subscribes held mine =
    let intent : Intent = history.On channel (history.Subscribe number) in
    let now : Names = with_subscription q intent n in
    let l : LiveChannel = subscribes.0 in
    let d : Subscription = new_subscription h a mask in
    let s : Sending = event_add_sent l.circuit l.native.sid q d in
    let m : Sent = record { message = s.message; intent = intent } in
    let z : Client = record x { subscriptions = with_held q d x.subscriptions } in
    let new = new-name n.subscriptions x.subscriptions q given subscribes.3 in
    let found = found-standing x h (On l.circuit (Live l.native l.rights)) subscribes.1 in
    let is : stamped now s ≡ m = ap (λ (k : Intent). let w : Sent = record { message = s.message; intent = k } in w) (meant-own n.subscriptions q intent new) in
    subst (λ (w : List Sending × Client). HeldOn kept now w.1 (sent_to i now w.0 j)) (λ k. (sym subscribes.4.0 k, sym subscribes.4.1 k))
    (one-sent kept i n now x (sending (s ∷ []) z) j s held mine (λ k g at. at)
    (λ a creates. absurd (no-creation-sub channel a number (sym (meant-own n.subscriptions q intent new) ∙ creates)))
    (λ open_it same holds.
    let live : is_on_in is_subscribed j.at_client found.0 ≡ true =
    subst (λ (k : Handle). is_on_in is_subscribed k found.0 ≡ true) same (is-on is_subscribed l.circuit found.0 (Live l.native l.rights) found.2) in
    subst (λ (w : Sent). MaySend (Awaits j.lists kept) j.lists w × Holds (Awaits j.lists kept) j.at_client now (sending (s ∷ []) z) (with_sent w j.lists)) (sym is) (
      subscribe-may (Awaits j.lists kept) j.at_client n x j.lists m q h channel number refl refl refl refl subscribes.3 new found.0 found.1 live holds,
      subscribe-keeps (Awaits j.lists kept) j.at_client n x j.lists m q h channel number refl refl refl refl subscribes.3 new found.0 found.1 live holds a mask s,
    ))
    (λ open_it other holds.
    let away : has_id x.channels j.at_client d ≡ false =
    ap (λ (o : Option Channel). unwrap_or (option_map (is_on_in is_subscribed j.at_client) o) false) found.1
    ∙ fails-elsewhere is_subscribed j.at_client l.circuit found.0 (Live l.native l.rights) found.2 other in
    holds-alike (Awaits j.lists kept) j.at_client now z (sending (s ∷ []) z) j.lists (sending-alike j.at_client (s ∷ []) z)
    (holds-alike (Awaits j.lists kept) j.at_client now x z j.lists
    (with-others j.at_client x z refl (alike-itself (was_sent_on j.at_client) x.requests) (held-alike (has_id x.channels j.at_client) x.subscriptions q d subscribes.3 away))
    (subscription-named (Awaits j.lists kept) j.at_client n x j.lists q intent holds))))
