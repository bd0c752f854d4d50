-- Statement: what the functions that are lent the state under the lock do.
use Rattle.std.specs.Prelude.{◌≡◌, ◌⊎◌, ℕ, zero, suc, ◌<◌, List, [], ◌∷◌, Some, None, Result, Ok}
use Rattle.std.specs.Prelude.{Err, slice_set}
use Rattle.ca_text.specs.Limits.{board_cells}
use Rattle.ca_text.specs.declared.refusal.Refusal.{Refusal}
use Rattle.ca_text.specs.declared.refusal.Refusal.TheVariants.{OutOfMemory}
use Rattle.ca_arena.specs.declared.handle.Handle.{Handle}
use Rattle.ca_board.specs.declared.ticket.Ticket.{Ticket}
use Rattle.ca_board.specs.History.{InUse}
use Rattle.ca_board.specs.Views.{CoreView, HasArmed, HasRecycled, HasTakenBack, core_start}
use Rattle.ca_dbr.specs.declared.value.Outcome.{Outcome}
use Rattle.ca_dbr.specs.Elements.{elements}
use Rattle.ca_model.specs.Answers.{Closing, Notice, Sending}
use Rattle.ca_model.specs.Answers as core
use Rattle.ca_model.specs.Client.{Client}
use Rattle.ca_model.specs.ClientCalls.{ClientClears, ClientPuts, ClientReads, ClientReadsDisplay}
use Rattle.ca_model.specs.ClientEnds.{ClientBegins, ClientCloses, ClientConnects, ClientCuts}
use Rattle.ca_model.specs.ClientEnds.{ClientSetting, ClientSteps, ClientTicks}
use Rattle.ca_client.specs.declared.ask.CoreCall.{CoreCall}
use Rattle.ca_client.specs.declared.ask.CoreCall.TheVariants as ask
use Rattle.ca_client.specs.declared.ask.RequestCall.{RequestCall}
use Rattle.ca_client.specs.declared.ask.RequestCall.TheVariants as request
use Rattle.ca_client.specs.declared.answer.Answer.{Answer}
use Rattle.ca_client.specs.declared.answer.Answer.TheVariants as answer
use Rattle.ca_client_core.specs.Notices.{completions}
use Rattle.ca_client.specs.Awaited.{FillsAll, StateView, others}

-- ---- issue

-- each cell is in use
abbrev pub AreInUse : CoreView → Type 0
AreInUse v = (k : ℕ) → k < board_cells → InUse v.arms v.recycles k

-- a recycle of the cell: it was freed, or nothing was done
abbrev pub Recycles : CoreView → ℕ → CoreView → Type 0
Recycles old k new = HasRecycled old k new ⊎ (new ≡ old)

-- one of each of the first n cells, in order
abbrev pub RecyclesBelow : ℕ → CoreView → CoreView → Type 0
RecyclesBelow zero old new = new ≡ old
RecyclesBelow (suc n) old new = (mid : CoreView) × RecyclesBelow n old mid × Recycles mid n new

-- one of each cell, and nothing else
abbrev pub RecyclesEach : CoreView → CoreView → Type 0
RecyclesEach old new = (n : ℕ) × (n ≡ board_cells) × RecyclesBelow n old new

-- a recycle of each cell, and then what an arm answers
abbrev pub HasArmedAfter : CoreView → Result Ticket Refusal → CoreView → Type 0
HasArmedAfter old result new = (mid : CoreView) × RecyclesEach old mid × HasArmed mid result new

-- A free cell was armed; or each was in use, and was recycled if it could be: then one was armed,
-- or each is in use still.
abbrev pub HasArmedOne : CoreView → Result Ticket Refusal → CoreView → Type 0
HasArmedOne old (Ok t) new = HasArmed old (Ok t) new ⊎ (AreInUse old × HasArmedAfter old (Ok t) new)
HasArmedOne old (Err e) new = AreInUse old × HasArmedAfter old (Err e) new

-- what the core answers to a request, and leaves
abbrev pub HasIssued : Client → RequestCall → Result Handle Refusal → Client → Type 0
HasIssued old (request.Read h data_type count) result new =
    (sent : List Sending)
    × ClientReads old h (record { data_type = data_type; count = count }) result sent new
HasIssued old (request.ReadDisplay h data_type count) result new =
    (sent : List Sending)
    × ClientReadsDisplay old h (record { data_type = data_type; count = count }) result sent new
HasIssued old (request.Put h value) result new =
    (sent : List Sending) × ClientPuts old h (elements value) result sent new

-- A request was made: a cell was armed, the core made its call, and the ticket is at the request's
-- index. Or it was refused: as NoCell, since each cell is in use, and the core was not asked; or by
-- the core, which it left as it was, and the ticket was taken back: its cell is free again, unless
-- its generation was the last.
abbrev pub HasIssuedUnderLock : StateView → RequestCall → Result (Handle × Ticket) Refusal
    → StateView → Type 0
HasIssuedUnderLock old asked (Ok r) new =
    HasArmedOne old.seat (Ok r.1) new.seat × HasIssued old.core asked (Ok r.0) new.core
    × (new.tickets ≡ slice_set old.tickets r.0.index r.1)
HasIssuedUnderLock old asked (Err e) new =
    (new.tickets ≡ old.tickets) × (new.core ≡ old.core)
    × (HasArmedOne old.seat (Err e) new.seat
    ⊎ ((t : Ticket) × (armed : CoreView) × HasArmedOne old.seat (Ok t) armed
    × HasIssued old.core asked (Err e) new.core × HasTakenBack armed t new.seat))

-- ---- step

-- the notices that an answer hands back
abbrev pub told_in : Answer → List Notice
told_in (answer.Notices told) = told
told_in answer.Filled = []
told_in answer.NeedBytes = []
told_in answer.Connected = []
told_in (answer.Closed k) = k.notices
told_in (answer.Ticked t) = t.notices
told_in (answer.Refused e) = []

-- the notices of a reply: it completed one request, or none awaited it
abbrev pub IsReplied : List Notice → Type 0
IsReplied ns = ((q : Handle) × (o : Outcome) × (ns ≡ core.Completed q o ∷ [])) ⊎ (ns ≡ [])

-- What the core answered with all its notices, and left: the answer that is handed back is that
-- without the completions.
abbrev pub HasAnswered : Client → CoreCall → List Notice → Answer → Client → Type 0
HasAnswered old (ask.Step c) ns (answer.Notices told) new =
    (sent : List Sending) × ClientSteps old c (core.Notices ns) sent new
HasAnswered old (ask.Step c) ns answer.Filled new =
    IsReplied ns × ((sent : List Sending) × ClientSteps old c (core.Notices ns) sent new)
HasAnswered old (ask.Step c) ns answer.NeedBytes new =
    (ns ≡ []) × ((sent : List Sending) × ClientSteps old c core.NeedBytes sent new)
HasAnswered old (ask.Step c) ns (answer.Closed k) new =
    (sent : List Sending) × ClientSteps old c (core.Closed (record k { notices = ns })) sent new
HasAnswered old (ask.Cut c) ns (answer.Closed k) new =
    (sent : List Sending) × ClientCuts old c (record k { notices = ns }) sent new
HasAnswered old (ask.Close c) ns (answer.Closed k) new =
    (sent : List Sending) × ClientCloses old c (record k { notices = ns }) sent new
HasAnswered old (ask.Connect c) ns answer.Connected new =
    (ns ≡ []) × ((sent : List Sending) × ClientConnects old c None sent new)
HasAnswered old (ask.Connect c) ns (answer.Closed k) new =
    (sent : List Sending) × ClientConnects old c (Some (record k { notices = ns })) sent new
HasAnswered old (ask.Clear h) ns (answer.Notices told) new =
    (sent : List Sending) × ClientClears old h (Ok ns) sent new
HasAnswered old (ask.Clear h) ns (answer.Refused e) new =
    (ns ≡ []) × ((sent : List Sending) × ClientClears old h (Err e) sent new)
HasAnswered old (ask.Tick now) ns (answer.Ticked t) new =
    (sent : List Sending) × ClientTicks old now (Ok (record t { notices = ns })) sent new
HasAnswered old (ask.Tick now) ns (answer.Refused e) new =
    (ns ≡ []) × ((sent : List Sending) × ClientTicks old now (Err e) sent new)
HasAnswered old asked ns _ new = ⊥

-- The core made its call once; each completion filled its own request's ticket, and the other
-- notices are handed back, in order.
abbrev pub HasSteppedUnderLock : StateView → CoreCall → Answer → StateView → Type 0
HasSteppedUnderLock old asked result new =
    (ns : List Notice) × HasAnswered old.core asked ns result new.core
    × FillsAll old.tickets old.seat (completions ns) new.seat
    × (told_in result ≡ others ns) × (new.tickets ≡ old.tickets)

-- ---- new

-- nothing was asked yet
pub record IsFresh (setting : ClientSetting) (state : StateView) : Type 0 where
  pub core : ClientBegins setting (Ok state.core)
  pub seat : state.seat ≡ core_start state.seat.board

-- Nothing was begun: the core refused; or it would have begun, and memory lacked for the
-- board or the tickets.
abbrev pub HasNotBegun : ClientSetting → Refusal → Type 0
HasNotBegun setting e =
    ClientBegins setting (Err e)
    ⊎ ((e ≡ OutOfMemory) × ((x : Client) × ClientBegins setting (Ok x)))
