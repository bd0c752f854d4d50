-- What is due for a message on a channel, by what was found of its SID.
use Rattle.std.proofs.Common.{◌≡◌, ℕ, inl, inr, List, [], ◌∷◌, Option, Some, None, Result, Ok, Err, refl, sym, ap, ◌∙◌, subst}
use Rattle.std.specs.Prelude.{IfOk, OnErr, OnOk, length, map}
use Rattle.ca_text.proofs.Places.{At-one, some_is}
use Rattle.ca_queue.specs.Keys.{is_among}
use Rattle.ca_records.specs.Puts.{Record}
use Rattle.ca_records.specs.Record.{RecordState}
use Rattle.ca_model.specs.Faults.{read_fault, subscription_fault}
use Rattle.ca_model.specs.Images.{image_type_of}
use Rattle.ca_text.specs.Command.{command_number}
use Rattle.ca_text.specs.declared.command.Command.TheVariants as command
use Rattle.ca_display.specs.declared.image_type.ImageType.{ImageType}
use Rattle.ca_wire.specs.declared.requests.Wanted.{Wanted}
use Rattle.ca_link.specs.Link.{LinkState, with_sent}
use Rattle.ca_text.specs.Status.{bad_channel}
use Rattle.ca_wire.specs.Fields.{Fields}
use Rattle.ca_wire.specs.Messages.{error_reply, read_request, status_reply, wanted_in}
use Rattle.ca_records.specs.Rules.{rights}
use Rattle.ca_records.specs.Store.{HasAt, Store}
use Rattle.ca_model.specs.Due.{Action, Knows, Nothing, ReadDue, StrayDue, fault_of_event, key_in, rights_at}
use Rattle.ca_model.specs.Server.{ServerEnd, key_of}
use Rattle.ca_server_circuit.specs.declared.seek.Seat.{Seat}
use Rattle.ca_server_circuit.specs.Handling.{Reads, Replies, Subscribes, known, replied}
use Rattle.ca_server_circuit.specs.Seeking.{IsServed, IsStray}
use Rattle.ca_server_circuit.specs.Showing.{AnswersRead}
use Rattle.ca_server_circuit.proofs.Known.{serves, stray}

-- what holds of the value if the call went well
pub ok-then : {T E P Q : Type 0} (r : Result T E) → (P → Q) → OnOk r P → OnOk r Q
ok-then (Ok x) f p = f p
ok-then (Err e) f p = tt

-- the same of what was answered
pub if-then : {T E : Type 0} {P Q : T → Type 0} (r : Result T E) → ((x : T) → P x → Q x) → IfOk r P → IfOk r Q
if-then (Ok x) f p = f x p
if-then (Err e) f p = tt

-- what is told if the call went well, of which this holds then
pub if-told : {T E P : Type 0} (Q : T → Type 0) (r : Result T E) (w : T) → IfOk r (λ x. x ≡ w) → (P → Q w) → OnOk r P → IfOk r Q
if-told Q (Ok x) w told f p = subst Q (sym told) (f p)
if-told Q (Err e) w told f p = tt

-- the same for two facts
pub ok-both : {T E P Q R : Type 0} (r : Result T E) → (P → Q → R) → OnOk r P → OnOk r Q → OnOk r R
ok-both (Ok x) f p q = f p q
ok-both (Err e) f p q = tt

-- what holds anyway holds if the call was refused
pub in-err : {T E P : Type 0} (r : Result T E) → P → OnErr r P
in-err (Ok x) p = tt
in-err (Err e) p = p

-- an end whose link has these messages after the others
pub relinked : (v e : ServerEnd) (link : LinkState) (ms : List Fields) → v ≡ e → link ≡ with_sent ms v.link → (let new : ServerEnd = record v { link = link } in new) ≡ replied ms e
relinked v e link ms is sent =
    ap (λ (l : LinkState). let new : ServerEnd = record v { link = l } in new) sent ∙ ap (λ (x : ServerEnd). replied ms x) is

-- BADCHID is due
pub stray-due : (port : ℕ) (s : Store) (e : ServerEnd) (m : Fields) (cid : ℕ) (reply : ℕ → Fields) → IsStray e m.p1 cid → StrayDue (known port s e) m reply (reply cid ∷ []) Nothing
stray-due port s e m cid reply is = (cid, stray port s e m.p1 cid is, refl, refl)

pub stray-read : (port : ℕ) (s : Store) (e new : ServerEnd) (m : Fields) (cid : ℕ) → IsStray e m.p1 cid → new ≡ replied (status_reply m bad_channel ∷ []) e → Replies (Reads (known port s e) m) e new
stray-read port s e new m cid is done = record {
  replies = status_reply m bad_channel ∷ [];
  due = inr (stray-due port s e m cid (λ c. status_reply m bad_channel) is);
  leaves = done;
}

pub served-read : (port : ℕ) (s : Store) (e new : ServerEnd) (m reply : Fields) (seat : Seat) (i : IsServed s e m.p1 seat) → AnswersRead i.r.state (rights s.rules e.peer.user e.peer.host i.channel.name) m reply → new ≡ replied (reply ∷ []) e → Replies (Reads (known port s e) m) e new
served-read port s e new m reply seat i answers done = record {
  replies = reply ∷ [];
  due = inl (by answers);
  leaves = done;
}
  where
    by : AnswersRead i.r.state (rights s.rules e.peer.user e.peer.host i.channel.name) m reply → ReadDue (known port s e) m (reply ∷ []) Nothing
    by (inl h) = (serves port s e m.p1 seat i, refl, inl (h.0, h.1, ap (λ (x : Fields). x ∷ []) h.2))
    by (inr h) = (serves port s e m.p1 seat i, refl, inr (h.0, (h.1.0, h.1.1, h.1.2, h.1.3, ap (λ (x : Fields). x ∷ []) h.1.4)))

-- what a read asks for, whatever its payload is
same-fault : (r : RecordState) (bits : ℕ) (m : Fields) (c : ℕ) (o : Option ImageType) → (let header_only : Fields = record { command = c; data_type = m.data_type; count = m.count; p1 = m.p1; p2 = m.p2; payload = [] } in read_fault r bits header_only o ≡ read_fault r bits m o)
same-fault r bits m c None = refl
same-fault r bits m c (Some t) = refl

-- the message without its payload
abbrev without_payload : Fields → Fields
without_payload m = record { command = m.command; data_type = m.data_type; count = m.count; p1 = m.p1; p2 = m.p2; payload = [] }

due-anyway : (k : Knows) (m : Fields) (replies : List Fields) (action : Action) → Reads k (without_payload m) replies action → Reads k m replies action
due-anyway k m replies action (inl (c, nothing, inl (status, fault, are))) = inl (c, nothing, inl (status, sym (same-fault c.known.state (rights_at k c.channel.name) m m.command (image_type_of m.data_type)) ∙ fault, are))
due-anyway k m replies action (inl (c, nothing, inr (none, shows))) = inl (c, nothing, inr (sym (same-fault c.known.state (rights_at k c.channel.name) m m.command (image_type_of m.data_type)) ∙ none, shows))
due-anyway k m replies action (inr stray) = inr stray

pub read-of : (k : Knows) (e new : ServerEnd) (m : Fields) (w : Wanted) → m.command ≡ command_number command.ReadNotify → w ≡ wanted_in m → Replies (Reads k (read_request w)) e new → Replies (Reads k m) e new
read-of k e new m w is wanted r =
    let made : ℕ → Fields = λ c. record { command = c; data_type = m.data_type; count = m.count; p1 = m.p1; p2 = m.p2; payload = [] } in
    let same : read_request w ≡ without_payload m = ap read_request wanted ∙ ap made (sym is) in
    record { replies = r.replies; due = due-anyway k m r.replies Nothing (subst (λ (x : Fields). Reads k x r.replies Nothing) same r.due); leaves = r.leaves }

-- the rights on the record of a channel
pub right-is : (s : Store) (e v : ServerEnd) (sid : ℕ) (seat : Seat) (i : IsServed s e sid seat) (bits : ℕ) (user host name : List ℕ) (q : Record) (state : RecordState) → v ≡ e → user ≡ v.peer.user → host ≡ v.peer.host → HasAt s seat.place q → state ≡ q.state → name ≡ state.name → bits ≡ rights s.rules user host name → bits ≡ rights s.rules e.peer.user e.peer.host i.channel.name
right-is s e v sid seat i bits user host name q state is u h at st n b =
    let one : q ≡ i.r = some_is q i.r (At-one s.slots seat.place (Some q) (Some i.r) at i.at) in
    let named : name ≡ i.channel.name = n ∙ ap (λ (x : RecordState). x.name) st ∙ ap (λ (x : Record). x.state.name) one ∙ i.named in
    b
    ∙ ap (λ (x : List ℕ). rights s.rules x host name) (u ∙ ap (λ (x : ServerEnd). x.peer.user) is)
    ∙ ap (λ (x : List ℕ). rights s.rules e.peer.user x name) (h ∙ ap (λ (x : ServerEnd). x.peer.host) is)
    ∙ ap (λ (x : List ℕ). rights s.rules e.peer.user e.peer.host x) named

-- the record at the place of a channel is the one that it is served
pub state-is : (s : Store) (e : ServerEnd) (sid : ℕ) (seat : Seat) (i : IsServed s e sid seat) (q : Record) (state : RecordState) → HasAt s seat.place q → state ≡ q.state → state ≡ i.r.state
state-is s e sid seat i q state at st =
    st ∙ ap (λ (x : Record). x.state) (some_is q i.r (At-one s.slots seat.place (Some q) (Some i.r) at i.at))

-- EVENT_ADD
pub stray-event : (port : ℕ) (s : Store) (e new : ServerEnd) (m : Fields) (cid : ℕ) → IsStray e m.p1 cid → new ≡ replied (error_reply cid bad_channel m ∷ []) e → Replies (Subscribes (known port s e) m) e new
stray-event port s e new m cid is done = record {
  replies = error_reply cid bad_channel m ∷ [];
  due = inr (stray-due port s e m cid (λ c. error_reply c bad_channel m) is);
  leaves = done;
}

pub refused-event : (port : ℕ) (s : Store) (e new : ServerEnd) (m : Fields) (seat : Seat) (i : IsServed s e m.p1 seat) (bits status : ℕ) → bits ≡ rights s.rules e.peer.user e.peer.host i.channel.name
    → subscription_fault i.r.state bits (is_among (key_in m) (map key_of e.subscriptions)) (length (map key_of e.subscriptions)) m (image_type_of m.data_type) ≡ Some status
    → new ≡ replied (error_reply seat.cid status m ∷ []) e → Replies (Subscribes (known port s e) m) e new
refused-event port s e new m seat i bits status right fault done =
    let same : fault_of_event (known port s e) m (serves port s e m.p1 seat i) ≡ subscription_fault i.r.state bits (is_among (key_in m) (map key_of e.subscriptions)) (length (map key_of e.subscriptions)) m (image_type_of m.data_type) =
    ap (λ (n : ℕ). subscription_fault i.r.state n (is_among (key_in m) (map key_of e.subscriptions)) (length (map key_of e.subscriptions)) m (image_type_of m.data_type)) (sym right) in
    record {
      replies = error_reply i.channel.cid status m ∷ [];
      due = inl (serves port s e m.p1 seat i, inl (status, same ∙ fault, refl, refl));
      leaves = done ∙ ap (λ (cid : ℕ). replied (error_reply cid status m ∷ []) e) (sym i.cid);
    }
