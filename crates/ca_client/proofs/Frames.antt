-- The calls that complete no request leave the requests as they are.
use Rattle.std.proofs.Common.{◌≡◌, ℕ, inl, inr, List, [], ◌∷◌, Option, Some, None, Result, Ok, Err, refl, sym, subst}
use Rattle.atomic_table.specs.Seated.{TableId}
use Rattle.ca_text.specs.declared.refusal.Refusal.{Refusal}
use Rattle.ca_text.specs.declared.refusal.Refusal.TheVariants as refusal
use Rattle.ca_arena.specs.declared.handle.Handle.{Handle}
use Rattle.ca_board.specs.declared.ticket.Ticket.{Ticket}
use Rattle.ca_board.specs.Views.{CoreView}
use Rattle.ca_dbr.specs.Elements.{Elements}
use Rattle.ca_ids.specs.Table.{with_held}
use Rattle.ca_wire.specs.Fields.{Fields}
use Rattle.ca_model.specs.Answers.{Sending}
use Rattle.ca_model.specs.Ends.{Address}
use Rattle.ca_model.specs.Client.{Channel, Client, ClientCircuit, Clearing, Connecting, Connection, Creating, Doomed, Leaving, Live, On, Searching, Standing, circuit_to, found_on, later, sending, standing_at}
use Rattle.ca_model.specs.ClientCalls.{ClientOpens, ClientSubscribes, ClientUnsubscribes, ClientWrites, Opening, Shape, cancel_sent, event_add_sent, new_subscription, opened, unsubscribed, write_sent}
use Rattle.ca_model.specs.ClientEnds.{Arrival, ClientReceives, Receives, ReceivesAll, beacon_heard}
use Rattle.ca_model.specs.ClientEnds as ends
use Rattle.ca_model.specs.Hears.{Effect, FindsAt, PutsOn, doing, found_at, put_on, searched_by}
use Rattle.ca_model.specs.Placed.{IsPlaced}
use Rattle.ca_model.proofs.Changes.{keeps-unsubscribed, placed-opened, placed-subscribed}
use Rattle.ca_model.proofs.Hearing.{all-received, keeps-moment}
use Rattle.ca_model.proofs.Placed.{keeps-sending}
use Rattle.ca_client.specs.Awaited.{IsState}
use Rattle.ca_client.proofs.Settled.{state-same}
use Rattle.ca_client.proofs.Waiting.{Same, same-itself, same-sending, same-then}

-- The requests are the same, and channels are where they may be.
pub record Frames (x y : Client) : Type 0 where
  pub same : Same x y
  pub placed : IsPlaced y

unchanged : (x y : Client) → IsPlaced x → y ≡ x → Frames x y
unchanged x y placed e = record { same = subst (Same x) (sym e) (same-itself x); placed = subst IsPlaced (sym e) placed }

sends : (x z y : Client) (sent : List Sending) → Same x z → IsPlaced z → y ≡ sending sent z → Frames x y
sends x z y sent same placed e = record {
  same = subst (Same x) (sym e) (same-then x z (sending sent z) same (same-sending sent z));
  placed = subst IsPlaced (sym e) ((keeps-sending sent z).placed placed);
}

opens : (x : Client) (a : Opening) (r : Result Handle Refusal) (y : Client) → IsPlaced x → ClientOpens x a r [] y → Frames x y
opens x a (Ok h) y placed f = sends x (opened a h x) y [] (record { requests = refl; issued = refl }) (placed-opened a h x f.1 placed) f.2.1
opens x a (Err refusal.NameLength) y placed f = unchanged x y placed f.1.1
opens x a (Err refusal.BadPriority) y placed f = unchanged x y placed f.2.1
opens x a (Err refusal.ArenaFull) y placed f = unchanged x y placed f.2.1
opens x a (Err refusal.OutOfMemory) y placed f = unchanged x y placed f.2.1
opens x a (Err _) y placed f = absurd f

writes : (x : Client) (h : Handle) (e : Elements) (r : Result (Unit {0}) Refusal) (sent : List Sending) (y : Client) → IsPlaced x → ClientWrites x h e r sent y → Frames x y
writes x h e (Ok u) sent y placed f = sends x x y (write_sent h f.0 e ∷ []) (same-itself x) placed f.3.1
writes x h e (Err refusal.OutOfMemory) sent y placed f = unchanged x y placed f.1.1
writes x h e (Err r) sent y placed f = unchanged x y placed f.1.1

subscribes : (x : Client) (h : Handle) (a : Shape) (mask : ℕ) (r : Result Handle Refusal) (sent : List Sending) (y : Client) → IsPlaced x → ClientSubscribes x h a mask r sent y → Frames x y
subscribes x h a mask (Ok s) sent y placed f =
    sends x (record x { subscriptions = with_held s (new_subscription h a mask) x.subscriptions }) y
    (event_add_sent f.0.circuit f.0.native.sid s (new_subscription h a mask) ∷ [])
    (record { requests = refl; issued = refl }) (placed-subscribed x h a mask s placed) f.4.1
subscribes x h a mask (Err refusal.OutOfMemory) sent y placed f = unchanged x y placed f.1.1
subscribes x h a mask (Err r) sent y placed f = unchanged x y placed f.1.1

same-unsubscribed : (s : Handle) (o : Option Standing) (x : Client) → Same x (unsubscribed s o x)
same-unsubscribed s None x = record { requests = refl; issued = refl }
same-unsubscribed s (Some Searching) x = record { requests = refl; issued = refl }
same-unsubscribed s (Some (On c Connecting)) x = record { requests = refl; issued = refl }
same-unsubscribed s (Some (On c (Creating rights))) x = record { requests = refl; issued = refl }
same-unsubscribed s (Some (On c (Live n rights))) x = record { requests = refl; issued = refl }
same-unsubscribed s (Some (On c Leaving)) x = record { requests = refl; issued = refl }
same-unsubscribed s (Some (On c Clearing)) x = record { requests = refl; issued = refl }
same-unsubscribed s (Some (On c Doomed)) x = record { requests = refl; issued = refl }

unsubscribes : (x : Client) (s : Handle) (r : Result (Unit {0}) Refusal) (sent : List Sending) (y : Client) → IsPlaced x → ClientUnsubscribes x s r sent y → Frames x y
unsubscribes x s (Ok u) sent y placed f =
    let there : Option Standing = standing_at x f.0.channel in
    sends x (unsubscribed s there x) y (cancel_sent s f.0 there) (same-unsubscribed s there x) ((keeps-unsubscribed s x f.0 f.1).placed placed) f.3.1
unsubscribes x s (Err refusal.OutOfMemory) sent y placed f = unchanged x y placed f.5.1
unsubscribes x s (Err r) sent y placed f = unchanged x y placed f.1.1

-- ---- datagrams

does : (x z : Client) (sent : List Sending) (e : Effect) → e ≡ doing sent [] z → Same x z → Same x e.core
does x z sent e is same = subst (λ (w : Effect). Same x w.core) (sym is) (same-then x z (sending sent z) same (same-sending sent z))

put-same : (x : Client) (c : Handle) (o : Option Connection) (h : Handle) (here : Channel) (e : Effect) → e ≡ put_on c o h here x → Same x e.core
put-same x c None h here e is = does x (found_on c Connecting h x) [] e is (record { requests = refl; issued = refl })
put-same x c (Some conn) h here e is = does x (found_on c (Creating 0) h x) _ e is (record { requests = refl; issued = refl })

puts-same : (x : Client) (address : Address) (h : Handle) (here : Channel) (o : Option (Handle × ClientCircuit)) (e : Effect) → PutsOn x address h here o e → Same x e.core
puts-same x address h here (Some (c, d)) e is = put-same x c d.connection h here e is
puts-same x address h here None e is = elim is [
  | inr full ↦ does x x [] e full.1 (same-itself x)
  | inl new ↦ does x _ [] e new.2 (record { requests = refl; issued = refl })
]

finds-same : (x : Client) (address : Address) (o : Option (Handle × Channel)) (e : Effect) → FindsAt x address o e → Same x e.core
finds-same x address None e is = does x x [] e is (same-itself x)
finds-same x address (Some (h, here)) e is = puts-same x address h here (circuit_to address here.priority x) e is

received-same : (from : Address) (x : Client) (m : Fields) (e : Effect) → Receives from x m e → Same x e.core
received-same from x m e (ends.Search is finds) = finds-same x (found_at from m) (searched_by m.p2 x) e finds
received-same from x m e (ends.Beacon is port made) = does x (beacon_heard from m x) [] e made (record { requests = refl; issued = refl })
received-same from x m e (ends.Other not_search not_beacon made) = does x x [] e made (same-itself x)

all-same : (from : Address) (ms : List Fields) (x : Client) (e : Effect) → ReceivesAll from x ms e → Same x e.core
all-same from [] x e made = does x x [] e made (same-itself x)
all-same from (m ∷ ms) x e made =
    subst (λ (w : Effect). Same x w.core) (sym made.4)
    (same-then x made.0.core made.1.core (received-same from x m made.0 made.2) (all-same from ms made.0.core made.1 made.3))

receives : (x : Client) (a : Arrival) (r : Result (Unit {0}) Refusal) (sent : List Sending) (y : Client) → IsPlaced x → ClientReceives x a r sent y → Frames x y
receives x a (Ok u) sent y placed f =
    let z : Client = record x { moment = later a.now x } in
    let e : Effect = record { core = y; sent = sent; notices = [] } in
    let same : Same z y = all-same a.from f.0 z e f.2 in
    record {
      same = record { requests = same.requests; issued = same.issued };
      placed = (all-received a.from f.0 z e f.2).placed ((keeps-moment (later a.now x) x).placed placed);
    }
receives x a (Err refusal.OutOfMemory) sent y placed f = unchanged x y placed f.1.1
receives x a (Err _) sent y placed f = absurd f

-- ---- the state

module _ (x : Client) (v : CoreView) (board : TableId) (ts : List Ticket) (y : Client) (s : IsState x v board ts) where
  framed : Frames x y → IsState y v board ts
  framed f = state-same x v board ts y s f.same f.placed

  pub state-opens : (a : Opening) (r : Result Handle Refusal) → ClientOpens x a r [] y → IsState y v board ts
  state-opens a r f = framed (opens x a r y s.placed f)

  pub state-writes : (h : Handle) (e : Elements) (r : Result (Unit {0}) Refusal) (sent : List Sending) → ClientWrites x h e r sent y → IsState y v board ts
  state-writes h e r sent f = framed (writes x h e r sent y s.placed f)

  pub state-subscribes : (h : Handle) (a : Shape) (mask : ℕ) (r : Result Handle Refusal) (sent : List Sending) → ClientSubscribes x h a mask r sent y → IsState y v board ts
  state-subscribes h a mask r sent f = framed (subscribes x h a mask r sent y s.placed f)

  pub state-unsubscribes : (g : Handle) (r : Result (Unit {0}) Refusal) (sent : List Sending) → ClientUnsubscribes x g r sent y → IsState y v board ts
  state-unsubscribes g r sent f = framed (unsubscribes x g r sent y s.placed f)

  pub state-receives : (a : Arrival) (r : Result (Unit {0}) Refusal) (sent : List Sending) → ClientReceives x a r sent y → IsState y v board ts
  state-receives a r sent f = framed (receives x a r sent y s.placed f)
