-- The state under the lock, after completions were handed over.
use Rattle.std.proofs.Common.{◌≡◌, cond, List, [], ◌++◌, Option, Some, None, Ok, Err, refl, sym, ap, ◌∙◌, subst}
use Rattle.std.specs.Prelude.{is_none, option_and_then}
use Rattle.atomic_table.specs.Seated.{TableId}
use Rattle.ca_arena.specs.declared.handle.Handle.{Handle}
use Rattle.ca_board.specs.declared.ticket.Ticket.{Ticket}
use Rattle.ca_board.specs.Views.{CoreView}
use Rattle.ca_ids.specs.Table.{under}
use Rattle.ca_text.specs.declared.refusal.Refusal.{Refusal}
use Rattle.ca_text.specs.declared.refusal.Refusal.TheVariants as refusal
use Rattle.ca_model.specs.Answers.{Closing, Notice, Sending}
use Rattle.ca_model.specs.Answers as core
use Rattle.ca_model.specs.Ends.{Why}
use Rattle.ca_model.specs.Ends as why
use Rattle.ca_model.specs.Client.{Client, ClientCircuit, Connection, connection_at, ended, farewell, sending}
use Rattle.ca_model.specs.ClientCalls.{ClientClears, cleared, clearing_sent}
use Rattle.ca_model.specs.ClientEnds.{ClientConnects, ClientSteps, ConnectsOn, EndsFor, StepsOn, after_taking, begun, creations, gone, set_up, unconnected}
use Rattle.ca_model.specs.Hears.{Effect}
use Rattle.ca_model.specs.Placed.{IsPlaced}
use Rattle.ca_model.proofs.Changes.{keeps-cleared}
use Rattle.ca_model.proofs.Hearing.{keeps-begun, keeps-heard}
use Rattle.ca_model.proofs.Letting.{ends-ended}
use Rattle.ca_model.proofs.Placed.{keeps-on, keeps-sending}
use Rattle.ca_client_core.specs.declared.stepping.Stepped.{Stepped}
use Rattle.ca_client_core.specs.declared.stepping.Stepped.TheVariants as step
use Rattle.ca_client_core.specs.Stepping.{stepped_as}
use Rattle.ca_client.specs.declared.ask.CoreCall.TheVariants as ask
use Rattle.ca_client.specs.declared.answer.Answer.{Answer}
use Rattle.ca_client.specs.Calls.{HasAnswered, HasSteppedUnderLock, told_in}
use Rattle.ca_client.specs.Replies.{IsOther}
use Rattle.ca_client.specs.Stepping.{handed_over, notices_in}
use Rattle.ca_client_core.specs.Notices.{completions}
use Rattle.ca_client.specs.Awaited.{Fillable, FillsAll, IsListed, IsState, StateView, Waits, others}
use Rattle.ca_client.proofs.Ends.{told-clear, told-end}
use Rattle.ca_client.proofs.Heard.{told-heard}
use Rattle.ca_client.proofs.Tickets.{Leaves, fewer_awaited, fillable_awaited, filled_awaited}
use Rattle.ca_client.proofs.Waiting.{Same, Told, listed-same, same-sending, told-from, told-on, told-same, waits-same}

-- What a call reported of requests, and the channels are where they may be.
pub record Stands (x : Client) (ns : List Notice) (y : Client) : Type 0 where
  pub told : Told x ns y
  pub placed : IsPlaced y

-- ---- tickets

pub due-told : (x : Client) (v : CoreView) (board : TableId) (ts : List Ticket) (ns : List Notice) (y : Client) → IsState x v board ts → Told x ns y → Fillable ts v (completions ns)
due-told x v board ts ns y s t = fillable_awaited ts v (Waits x) (completions ns) s.awaited t.tells

pub state-told : (x : Client) (v : CoreView) (board : TableId) (ts : List Ticket) (ns : List Notice) (y : Client) (w : CoreView) → IsState x v board ts → Stands x ns y → FillsAll ts v (completions ns) w → w.board ≡ board → IsState y w board ts
state-told x v board ts ns y w s t f same = record {
  same = same;
  wide = s.wide;
  placed = t.placed;
  listed = t.told.listed;
  awaited = fewer_awaited ts w (Leaves (Waits x) (completions ns)) (Waits y) t.told.leaves (filled_awaited ts v w (Waits x) (completions ns) s.awaited t.told.tells f);
}

-- the requests are the same
pub state-same : (x : Client) (v : CoreView) (board : TableId) (ts : List Ticket) (y : Client) → IsState x v board ts → Same x y → IsPlaced y → IsState y v board ts
state-same x v board ts y s same placed = record {
  same = s.same;
  wide = s.wide;
  placed = placed;
  listed = listed-same x y same s.listed;
  awaited = fewer_awaited ts v (Waits x) (Waits y) (λ q w. waits-same x y q same w) s.awaited;
}

-- ---- the core's calls

pub stands-end : (cause : Why) (x : Client) (c : Handle) (k : Closing) (sent : List Sending) (y : Client) → IsPlaced x → IsListed x → EndsFor cause x c k sent y → Stands x k.notices y
stands-end cause x c k sent y placed l ends =
    let t : Told x (farewell c x) (ended c x) = told-end c x placed l in
    let told : Told x k.notices (ended c x) = subst (λ (ns : List Notice). Told x ns (ended c x)) (sym (ap (λ (z : Closing). z.notices) ends.0)) t in
    record {
      told = subst (Told x k.notices) (sym ends.2) told;
      placed = subst IsPlaced (sym ends.2) ((ends-ended c x).placed placed);
    }

stands-itself : (x : Client) → IsPlaced x → IsListed x → Stands x [] x
stands-itself x placed l = record { told = told-same x x [] (record { requests = refl; issued = refl }) l refl; placed = placed }

stands-gone : (x : Client) (k : Closing) (y : Client) → IsPlaced x → IsListed x → k ≡ gone → y ≡ x → Stands x k.notices y
stands-gone x k y placed l is same =
    subst (λ (z : Client). Stands x k.notices z) (sym same) (subst (λ (ns : List Notice). Stands x ns x) (sym (ap (λ (z : Closing). z.notices) is)) (stands-itself x placed l))

pub stands-heard : (x : Client) (c : Handle) (ns : List Notice) (sent : List Sending) (y : Client) → IsPlaced x → IsListed x → ClientSteps x c (core.Notices ns) sent y → Stands x ns y
stands-heard x c ns sent y placed l steps = go (connection_at x c) steps
  where
    go : (o : Option Connection) → StepsOn x c o (core.Notices ns) sent y → Stands x ns y
    go None h = absurd h
    go (Some d) h =
        let z : Client = after_taking c h.rest x in
        let e : Effect = record { core = y; sent = sent; notices = ns } in
        let same : Same x z = record { requests = refl; issued = refl } in
        let there : IsPlaced z = (keeps-on _ c x).placed placed in
        record {
          told = told-from x z y ns same (told-heard z c h.m e (listed-same x z same l) h.hears);
          placed = (keeps-heard z c h.m e there h.hears).placed there;
        }

pub stands-closed : (x : Client) (c : Handle) (k : Closing) (sent : List Sending) (y : Client) → IsPlaced x → IsListed x → ClientSteps x c (core.Closed k) sent y → Stands x k.notices y
stands-closed x c k sent y placed l steps = go (connection_at x c) steps
  where
    go : (o : Option Connection) → StepsOn x c o (core.Closed k) sent y → Stands x k.notices y
    go None h = stands-gone x k y placed l h.0 h.1.1
    go (Some d) h = stands-end k.why x c k sent y placed l h.1

pub rests-step : (x : Client) (c : Handle) (sent : List Sending) (y : Client) → ClientSteps x c core.NeedBytes sent y → y ≡ x
rests-step x c sent y steps = go (connection_at x c) steps
  where
    go : (o : Option Connection) → StepsOn x c o core.NeedBytes sent y → y ≡ x
    go None h = absurd h
    go (Some d) h = h.2.1

-- any answer of a step
pub stands-stepped : (x : Client) (c : Handle) (s : Stepped) (sent : List Sending) (y : Client) → IsPlaced x → IsListed x → ClientSteps x c (stepped_as s) sent y → Stands x (notices_in s) y
stands-stepped x c (step.Notices told) sent y placed l steps = stands-heard x c told sent y placed l steps
stands-stepped x c step.NeedBytes sent y placed l steps =
    subst (Stands x []) (sym (rests-step x c sent y steps)) (stands-itself x placed l)
stands-stepped x c (step.Closed k) sent y placed l steps = stands-closed x c k sent y placed l steps

-- what is handed back of it
pub answers-stepped : (x : Client) (c : Handle) (s : Stepped) (y : Client) → (sent : List Sending) × ClientSteps x c (stepped_as s) sent y → HasAnswered x (ask.Step c) (notices_in s) (handed_over s) y × (told_in (handed_over s) ≡ others (notices_in s))
answers-stepped x c (step.Notices told) y steps = (steps, refl)
answers-stepped x c step.NeedBytes y steps = ((refl, steps), refl)
answers-stepped x c (step.Closed k) y steps = (steps, refl)

pub stands-unconnected : (x : Client) (c : Handle) (k : Closing) (sent : List Sending) (y : Client) → IsPlaced x → IsListed x → ClientConnects x c (Some k) sent y → Stands x k.notices y
stands-unconnected x c k sent y placed l connects = go (unconnected x c) connects
  where
    go : (o : Option ClientCircuit) → ConnectsOn x c o (Some k) sent y → Stands x k.notices y
    go None h = stands-gone x k y placed l h.0 h.1.1
    go (Some d) h = stands-end why.OutOfMemory x c k sent y placed l h

-- a circuit that is there, and not connected
unconnected-there : (x : Client) (c : Handle) (d : ClientCircuit) → unconnected x c ≡ Some d → (under x.circuits c ≡ Some d) × (d.connection ≡ None)
unconnected-there x c d is = go (under x.circuits c) refl is
  where
    some-is : (a b : ClientCircuit) → Some a ≡ Some b → a ≡ b
    some-is a b e = cc

    go : (o : Option ClientCircuit) → under x.circuits c ≡ o → option_and_then (λ (e : ClientCircuit). cond (is_none e.connection) (Some e) None) o ≡ Some d → (under x.circuits c ≡ Some d) × (d.connection ≡ None)
    go None at e = absurd cc
    go (Some u) at e = by u.connection refl e
      where
        by : (o : Option Connection) → u.connection ≡ o → cond (is_none o) (Some u) None ≡ Some d → (under x.circuits c ≡ Some d) × (d.connection ≡ None)
        by None none f = (at ∙ f, ap (λ (z : ClientCircuit). z.connection) (sym (some-is u d f)) ∙ none)
        by (Some e) none f = absurd cc

pub stands-connected : (x : Client) (c : Handle) (sent : List Sending) (y : Client) → IsPlaced x → ClientConnects x c None sent y → Same x y × IsPlaced y
stands-connected x c sent y placed connects = go (unconnected x c) refl connects
  where
    go : (o : Option ClientCircuit) → unconnected x c ≡ o → ConnectsOn x c o None sent y → Same x y × IsPlaced y
    go None at h = absurd h
    go (Some d) at h =
        let there = unconnected-there x c d at in
        let z : Client = begun c x in
        let sends : List Sending = set_up x.peer c d ++ creations c x in
        let same : Same z (sending sends z) = same-sending sends z in (
          subst (λ (w : Client). Same x w) (sym h.1) (record { requests = same.requests; issued = same.issued }),
          subst IsPlaced (sym h.1) ((keeps-sending sends z).placed ((keeps-begun c d x there.0 there.1).placed placed)),
        )

pub stands-cleared : (x : Client) (h : Handle) (ns : List Notice) (sent : List Sending) (y : Client) → IsPlaced x → IsListed x → ClientClears x h (Ok ns) sent y → Stands x ns y
stands-cleared x h ns sent y placed l clears =
    let s = clears.0 in
    let z : Client = cleared h s x in
    let sends : List Sending = clearing_sent h s in
    let does = clears.3 in
    let t : Told x ns z = subst (λ (ms : List Notice). Told x ms z) (sym clears.2) (told-clear h s x placed l clears.1) in
    record {
      told = subst (Told x ns) (sym does.1) (told-on x z (sending sends z) ns t (same-sending sends z));
      placed = subst IsPlaced (sym does.1) ((keeps-sending sends z).placed ((keeps-cleared h s x placed clears.1).placed placed));
    }

pub rests-clear : (x : Client) (h : Handle) (e : Refusal) (sent : List Sending) (y : Client) → ClientClears x h (Err e) sent y → y ≡ x
rests-clear x h refusal.StaleHandle sent y c = c.1.1
rests-clear x h refusal.OutOfMemory sent y c = c.2.1
rests-clear x h _ sent y c = absurd c

-- what a step that read no reply comes to
pub other-handed : (s : Stepped) → IsOther (handed_over s)
other-handed (step.Notices told) = tt
other-handed step.NeedBytes = tt
other-handed (step.Closed k) = tt

pub steps-handed : (before : StateView) (c : Handle) (y : Client) (w : CoreView) (s : Stepped) (a : Answer) → (sent : List Sending) × ClientSteps before.core c (stepped_as s) sent y
    → FillsAll before.tickets before.seat (completions (notices_in s)) w → a ≡ handed_over s → HasSteppedUnderLock before (ask.Step c) a (record { core = y; seat = w; tickets = before.tickets })
steps-handed before c y w s a steps fills is =
    let answers = answers-stepped before.core c s y steps in
    subst (λ (q : Answer). HasSteppedUnderLock before (ask.Step c) q (record { core = y; seat = w; tickets = before.tickets })) (sym is)
    (notices_in s, answers.0, fills, answers.1, refl)
