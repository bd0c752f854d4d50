-- What an EVENT_ADD, an EVENT_CANCEL and a CLEAR_CHANNEL make of an end with its subscriptions.
use Rattle.std.proofs.Common.{◌≡◌, ℕ, inl, inr, Bool, List, [], length, map, Option, None, refl, sym, ap, ◌∙◌, subst}
use Rattle.std.proofs.lemmas.List.{length-map}
use Rattle.ca_arena.specs.declared.handle.Handle.{Handle}
use Rattle.ca_ids.specs.Table.{Table}
use Rattle.ca_link.specs.Link.{LinkState, with_sent}
use Rattle.ca_queue.specs.declared.entry.SubKey.{SubKey}
use Rattle.ca_queue.specs.Keys.{is_among}
use Rattle.ca_records.specs.Puts.{Record, record_named}
use Rattle.ca_text.specs.Command.{command_number}
use Rattle.ca_text.specs.declared.command.Command.TheVariants as command
use Rattle.ca_records.specs.Rules.{rights}
use Rattle.ca_records.specs.Store.{Store}
use Rattle.ca_wire.specs.Fields.{Fields}
use Rattle.ca_model.specs.Due.{Action, Adds, Nothing, fault_of_event, key_in, subscription_in}
use Rattle.ca_model.specs.Faults.{subscription_fault}
use Rattle.ca_model.specs.Images.{image_type_of}
use Rattle.ca_model.specs.Server.{OpenChannel, ServerEnd, Subscription, key_of}
use Rattle.ca_model.specs.ServerSteps.{TakesIn, without_channel}
use Rattle.ca_model.specs.Speech.{Stored}
use Rattle.ca_server_circuit.specs.declared.seek.Seat.{Seat}
use Rattle.ca_server_circuit.specs.Clearing.{without_sid}
use Rattle.ca_server_circuit.specs.Handling.{Does, Replies, Subscribes, known, replied}
use Rattle.ca_server_circuit.specs.Seeking.{IsServed}
use Rattle.ca_server_circuit.specs.declared.effect.Effect.TheVariants as told
use Rattle.ca_server_circuit.specs.declared.step.FollowUp.TheVariants as effect
use Rattle.ca_server_circuit.specs.Subscribing.{HasJoined, events_of}
use Rattle.ca_server_subscriptions.specs.Subscribed.{Joins, Subscribed, has_key, is_of_sid, without_those}
use Rattle.ca_server_circuit.proofs.Known.{serves}
use Rattle.ca_server_circuit.proofs.Taken.{replied-none}
use Rattle.ca_server_circuit.proofs.Telling.{quiet-told}

-- what only replies is done
pub replies-does : (D : List Fields → Action → Type 0) (s : Store) (h : Handle) (e new : ServerEnd) (m : Fields) → m.command ≡ command_number command.EventAdd → Replies D e new → Does D s h e m (effect.Quiet told.Quiet) s new
replies-does D s h e new m is r = record {
  replies = r.replies;
  action = Nothing;
  due = r.due;
  acted = e;
  acts = λ y same. refl;
  records = refl;
  rules = refl;
  stamp = refl;
  tells = quiet-told m (command_number command.EventAdd) is refl;
  fits = tt;
  leaves = r.leaves;
}

-- the end with these
abbrev pub with_subscribed : Subscribed → ServerEnd → ServerEnd
with_subscribed x e = record e { subscriptions = x.subscriptions; queues = x.queues }

-- a subscription began
pub joined-event : (port : ℕ) (s : Store) (h : Handle) (e new : ServerEnd) (m : Fields) (seat : Seat) (i : IsServed s e m.p1 seat) (bits : ℕ) → bits ≡ rights s.rules e.peer.user e.peer.host i.channel.name
    → subscription_fault i.r.state bits (is_among (key_in m) (map key_of e.subscriptions)) (length (map key_of e.subscriptions)) m (image_type_of m.data_type) ≡ None
    → HasJoined i.r.state m e new → Does (Subscribes (known port s e) m) s h e m (effect.Began seat.place m.p1 m.p2) s new
joined-event port s h e new m seat i bits right fault joined =
    let none : fault_of_event (known port s e) m (serves port s e m.p1 seat i) ≡ None =
    ap (λ (n : ℕ). subscription_fault i.r.state n (is_among (key_in m) (map key_of e.subscriptions)) (length (map key_of e.subscriptions)) m (image_type_of m.data_type)) (sym right) ∙ fault in
    record {
      replies = [];
      action = Adds (subscription_in m i.channel.name);
      due = inl (serves port s e m.p1 seat i, inr (none, refl, refl));
      acted = new;
      acts = λ y same. (
        i.r,
        ap (λ (rs : List Record). record_named rs i.channel.name) same ∙ i.found,
        subst (λ (n : List ℕ). TakesIn (subscription_in m n) (record { value = i.r.state.value; meta = i.r.state.meta }) e new) i.named joined,
      );
      records = refl;
      rules = refl;
      stamp = refl;
      tells = (seat.place, i.r, refl, i.at, i.named);
      fits = ((seat.channel, i.channel), i.held, refl, i.there, refl);
      leaves = sym (replied-none new);
    }

-- the subscriptions of an end take in another
pub joined-end : (v e : ServerEnd) (new : Subscribed) (s t : Subscription) (x y : Stored) → v ≡ e → s ≡ t → x ≡ y → Joins s x (events_of v) new → TakesIn t y e (with_subscribed new v)
joined-end v e new s t x y is same same_value j =
    let here : TakesIn s x v (with_subscribed new v) = record {
      place = j.place;
      q = j.q;
      at = j.first.0;
      room = j.first.1;
      first = j.first.2;
      leaves = λ i. with_subscribed (j.leaves i) v;
    } in
    let at_value : TakesIn s y v (with_subscribed new v) = subst (λ (z : Stored). TakesIn s z v (with_subscribed new v)) same_value here in
    let at_it : TakesIn t y v (with_subscribed new v) = subst (λ (z : Subscription). TakesIn z y v (with_subscribed new v)) same at_value in
    subst (λ (z : ServerEnd). TakesIn t y z (with_subscribed new v)) is at_it

-- what a server knows of the subscriptions, by what was asked of them
pub in-use : (v e : ServerEnd) (m : Fields) (key : SubKey) (b : Bool) → v ≡ e → key ≡ key_in m → b ≡ has_key key (events_of v) → b ≡ is_among (key_in m) (map key_of e.subscriptions)
in-use v e m key b is same asked =
    asked ∙ ap (λ (k : SubKey). is_among k (map key_of v.subscriptions)) same ∙ ap (λ (z : ServerEnd). is_among (key_in m) (map key_of z.subscriptions)) is

pub how-many : (v e : ServerEnd) (n : ℕ) → v ≡ e → n ≡ length v.subscriptions → n ≡ length (map key_of e.subscriptions)
how-many v e n is asked = asked ∙ ap (λ (z : ServerEnd). length z.subscriptions) is ∙ sym (length-map e.subscriptions key_of)

-- the fault of an EVENT_ADD, by what was asked
pub fault-is : (e : ServerEnd) (m : Fields) (r q : _) (bits : ℕ) (b : Bool) (n : ℕ) (o : Option ℕ) → q ≡ r → b ≡ is_among (key_in m) (map key_of e.subscriptions) → n ≡ length (map key_of e.subscriptions)
    → subscription_fault q bits b n m (image_type_of m.data_type) ≡ o
    → subscription_fault r bits (is_among (key_in m) (map key_of e.subscriptions)) (length (map key_of e.subscriptions)) m (image_type_of m.data_type) ≡ o
fault-is e m r q bits b n o same used many fault =
    sym (λ i. subscription_fault (same i) bits (used i) (many i) m (image_type_of m.data_type)) ∙ fault

-- ---- subscriptions end

-- those of a channel, with the channel
pub cleared-end : (v e : ServerEnd) (new : Subscribed) (t : Table OpenChannel) (l : LinkState) (ms : List Fields) (sid : ℕ) → v ≡ e → l ≡ with_sent ms v.link → t ≡ without_sid sid v.channels
    → new ≡ without_those (is_of_sid sid) (events_of v)
    → (let x : ServerEnd = record v { link = l; channels = t; subscriptions = new.subscriptions; queues = new.queues } in x) ≡ replied ms (without_channel sid e)
cleared-end v e new t l ms sid is sent closed dropped =
    (λ i. let x : ServerEnd = record v { link = sent i; channels = closed i; subscriptions = (dropped i).subscriptions; queues = (dropped i).queues } in x)
    ∙ ap (λ (z : ServerEnd). replied ms (without_channel sid z)) is
