-- The state under the lock, as requests are issued and refused.
use Rattle.std.proofs.Common.{◌≡◌, ℕ, ◌<◌, List, [], ◌∷◌, Option, Ok, Err, refl, sym, ap, ◌∙◌, subst, inl, inr}
use Rattle.std.specs.Prelude.{IsErrAnd, Result, slice_set}
use Rattle.std.proofs.Math.ListN.{length-set}
use Rattle.atomic_table.specs.Seated.{TableId}
use Rattle.ca_text.specs.declared.refusal.Refusal.{Refusal}
use Rattle.ca_text.specs.declared.refusal.Refusal.TheVariants as refusal
use Rattle.ca_arena.specs.declared.handle.Handle.{Handle}
use Rattle.ca_board.specs.declared.ticket.Ticket.{Ticket}
use Rattle.ca_board.specs.History.{Has}
use Rattle.ca_board.specs.Views.{CoreView, HasTakenBack, IsDue, with_arm}
use Rattle.ca_board.proofs.Seated.{taken_back_board}
use Rattle.ca_dbr.specs.Elements.{Elements, elements}
use Rattle.ca_ids.specs.Table.{MayGive, with_held}
use Rattle.ca_requests.specs.Calls.{new_request}
use Rattle.ca_requests.specs.Requests.{Asked}
use Rattle.ca_requests.specs.Requests as requests
use Rattle.ca_model.specs.Answers.{Sending}
use Rattle.ca_model.specs.Client.{Client, sending}
use Rattle.ca_model.specs.ClientCalls.{ClientPuts, IsLive, LiveChannel, ReadsUnless, Shape, display_fault, issued, put_sent, read_fault, read_sent}
use Rattle.ca_model.specs.Placed.{IsPlaced}
use Rattle.ca_model.proofs.Changes.{placed-issued}
use Rattle.ca_model.proofs.Placed.{keeps-sending}
use Rattle.ca_client.specs.declared.ask.RequestCall.{RequestCall}
use Rattle.ca_client.specs.declared.ask.RequestCall.TheVariants as request
use Rattle.ca_client.specs.Awaited.{IsState, StateView, Waits}
use Rattle.ca_client.specs.Calls.{HasArmedOne, HasIssued, HasIssuedUnderLock}
use Rattle.ca_client.proofs.Tickets.{OnlyRecycled, awaited_issue, awaited_recycled, awaited_refused}
use Rattle.ca_client.proofs.Waiting.{Same, issued-apart, issued-back, issued-listed, same-sending}

pub state-recycled : (x : Client) (v w : CoreView) (board : TableId) (ts : List Ticket) → IsState x v board ts → OnlyRecycled v w → IsState x w board ts
state-recycled x v w board ts s o =
    record { same = o.0 ∙ s.same; wide = s.wide; placed = s.placed; listed = s.listed; awaited = awaited_recycled v w ts (Waits x) o s.awaited }

-- a ticket was armed and taken back
pub state-refused : (x : Client) (v mid armed w : CoreView) (board : TableId) (ts : List Ticket) (t : Ticket) → IsState x v board ts → OnlyRecycled v mid → armed ≡ with_arm mid t → ¬ (Has mid.arms t) → HasTakenBack armed t w → IsState x w board ts
state-refused x v mid armed w board ts t s o e new back = record {
  same = taken_back_board armed w t back ∙ ap (λ (z : CoreView). z.board) e ∙ o.0 ∙ s.same;
  wide = s.wide;
  placed = s.placed;
  listed = s.listed;
  awaited = awaited_refused v mid armed w ts (Waits x) t s.awaited o e new back;
}

reads-refused : (fault : Option Refusal) (x : Client) (h : Handle) (a : Shape) (e : Refusal) (sent : List Sending) (y : Client) → ReadsUnless fault x h a (Err e) sent y → y ≡ x
reads-refused fault x h a refusal.OutOfMemory sent y f = f.1.1
reads-refused fault x h a e sent y f = f.1.1

puts-refused : (x : Client) (h : Handle) (a : Elements) (e : Refusal) (sent : List Sending) (y : Client) → ClientPuts x h a (Err e) sent y → y ≡ x
puts-refused x h a refusal.OutOfMemory sent y f = f.1.1
puts-refused x h a e sent y f = f.1.1

pub issued-refused : (x : Client) (asked : RequestCall) (e : Refusal) (y : Client) → HasIssued x asked (Err e) y → y ≡ x
issued-refused x (request.Read h data_type count) e y f = (let a : Shape = record { data_type = data_type; count = count } in reads-refused (read_fault x h a) x h a e f.0 y f.1)
issued-refused x (request.ReadDisplay h data_type count) e y f = (let a : Shape = record { data_type = data_type; count = count } in reads-refused (display_fault x h a) x h a e f.0 y f.1)
issued-refused x (request.Put h value) e y f = puts-refused x h (elements value) e f.0 y f.1

-- A request was issued on a live channel, and its message waits.
record Issued (x : Client) (q : Handle) (y : Client) : Type 0 where
  channel : Handle
  live : LiveChannel
  asked : Asked
  is_live : IsLive x channel live
  may : MayGive x.requests q
  sent : List Sending
  new : y ≡ sending sent (issued channel live asked q x)

read-so : (fault : Option Refusal) (x : Client) (h : Handle) (a : Shape) (q : Handle) (sent : List Sending) (y : Client) → ReadsUnless fault x h a (Ok q) sent y → Issued x q y
read-so fault x h a q sent y f = record {
  channel = h;
  live = f.0;
  asked = requests.Read a.data_type a.count;
  is_live = f.1;
  may = f.3;
  sent = read_sent h f.0 a q ∷ [];
  new = f.4.1;
}

issued-so : (x : Client) (asked : RequestCall) (q : Handle) (y : Client) → HasIssued x asked (Ok q) y → Issued x q y
issued-so x (request.Read h data_type count) q y f = (let a : Shape = record { data_type = data_type; count = count } in read-so (read_fault x h a) x h a q f.0 y f.1)
issued-so x (request.ReadDisplay h data_type count) q y f = (let a : Shape = record { data_type = data_type; count = count } in read-so (display_fault x h a) x h a q f.0 y f.1)
issued-so x (request.Put h value) q y f = record {
  channel = h;
  live = f.1.0;
  asked = requests.Put;
  is_live = f.1.1;
  may = f.1.3;
  sent = put_sent h f.1.0 (elements value) q ∷ [];
  new = f.1.4.1;
}

pub state-issued : (x : Client) (v mid armed : CoreView) (board : TableId) (ts : List Ticket) (t : Ticket) (asked : RequestCall) (q : Handle) (y : Client) → IsState x v board ts → OnlyRecycled v mid → armed ≡ with_arm mid t → ¬ (Has mid.arms t) → IsDue armed t → HasIssued x asked (Ok q) y
    → IsState y armed board (slice_set ts q.index t)
state-issued x v mid armed board ts t asked q y s o e new due f =
    let i = issued-so x asked q y f in
    let r : requests.Request = new_request i.channel i.live.circuit i.asked in
    let z : Client = issued i.channel i.live i.asked q x in
    let same : Same z y = subst (Same z) (sym i.new) (same-sending i.sent z) in
    let table : y.requests ≡ with_held q r x.requests = same.requests in
    record {
      same = ap (λ (w : CoreView). w.board) e ∙ o.0 ∙ s.same;
      wide = length-set ts q.index t ∙ s.wide;
      placed = subst IsPlaced (sym i.new) ((keeps-sending i.sent z).placed (placed-issued x i.channel i.live i.asked q i.is_live s.placed));
      listed = issued-listed x y q r i.may refl table same.issued s.listed;
      awaited = awaited_issue mid armed ts (Waits x) (Waits y) q t (awaited_recycled v mid ts (Waits x) o s.awaited) e new due
          (subst (λ (n : ℕ). q.index < n) (sym s.wide) i.may.slot)
          (λ k w at. issued-apart x q k i.may w at)
          (λ k w. issued-back x y q k r table w);
    }

-- no cell could be armed
pub issued-none : (old : StateView) (asked : RequestCall) (e : Refusal) (new : StateView) (r : Result (Handle × Ticket) Refusal) → IsErrAnd r (λ (f : Refusal). f ≡ e) → new.tickets ≡ old.tickets → new.core ≡ old.core → HasArmedOne old.seat (Err e) new.seat
    → HasIssuedUnderLock old asked r new
issued-none old asked e new (Ok h) is tickets core none = absurd is
issued-none old asked e new (Err f) is tickets core none = (tickets, core, inl (subst (λ (x : Refusal). HasArmedOne old.seat (Err x) new.seat) (sym is) none))

-- the core refused, and the ticket was taken back
pub issued-undone : (old : StateView) (asked : RequestCall) (e : Refusal) (new : StateView) (r : Result (Handle × Ticket) Refusal) (t : Ticket) (armed : CoreView) → IsErrAnd r (λ (f : Refusal). f ≡ e) → new.tickets ≡ old.tickets → HasArmedOne old.seat (Ok t) armed → HasIssued old.core asked (Err e) new.core → HasTakenBack armed t new.seat
    → HasIssuedUnderLock old asked r new
issued-undone old asked e new (Ok h) t armed is tickets arms refused back = absurd is
issued-undone old asked e new (Err f) t armed is tickets arms refused back =
    (tickets, issued-refused old.core asked e new.core refused, inr (t, armed, arms, subst (λ (x : Refusal). HasIssued old.core asked (Err x) new.core) (sym is) refused, back))
