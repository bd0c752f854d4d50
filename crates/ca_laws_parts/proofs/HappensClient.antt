-- Events at a client, and bytes that move: no record is touched.
use Rattle.std.proofs.Common.{◌≡◌, ℕ, ◌+◌, inl, inr, Bool, true, false, cond, ◌&&◌, ◌==◌, List, [], ◌∷◌, ◌++◌, length, Option, Some, None, refl, sym, ap, subst}
use Rattle.std.specs.Prelude.{Ok, drop, option_map, unwrap_or}
use Rattle.ca_arena.specs.declared.handle.Handle.{Handle}
use Rattle.ca_dbr.specs.Elements.{Elements}
use Rattle.ca_model.proofs.Tables.{held-own}
use Rattle.ca_text.specs.Place.{At}
use Rattle.ca_text.proofs.Places.{At-one}
use Rattle.ca_model.specs.Answers.{Closing, Left, Sending, Stepped}
use Rattle.ca_model.specs.Answers as answer
use Rattle.ca_model.specs.Client.{Client, out_bytes}
use Rattle.ca_model.specs.ClientEnds.{handed_over}
use Rattle.ca_model.specs.Ends.{Address}
use Rattle.ca_model.specs.History.{Intent, Line, On, Step}
use Rattle.ca_model.specs.History as history
use Rattle.ca_model.specs.Server.{Open, Server, new_end}
use Rattle.ca_model.specs.ServerSteps.{Accepts, HasEnd}
use Rattle.ca_model.specs.ClientEvents.{DownTaken, HappensAccept, HappensClear, HappensClientDatagram, HappensClientRestart, HappensClientStep, HappensCutClient, HappensDown, HappensHandingOut, HappensOpen, HappensRead, HappensSubscribe, HappensUnsubscribe, HappensUp, HappensWrite, HappensWriteNotify, TicksOne, WantsFirst, about_at, after_tick, client_after, client_closed, client_ended, client_stepped, lines_of, closing_notices, client_gone, connected_as, heard_in, left_silent, new_circuit, sent_on, up_taken, with_request, with_sent}
use Rattle.ca_model.specs.World.{ClientSide, Joined, Names, ServerSide, Setting, World, log_length, with_circuit, with_client, with_server}
use Rattle.ca_laws_parts.specs.Seats.{Sound}
use Rattle.ca_laws_parts.proofs.Cores.{accepts-stay, gives-stay, sends-stay}
use Rattle.ca_laws_parts.proofs.Frames.{Frame, Goes, closed-goes, frame-circuit, frame-keeps, frame-map, frame-self, frame-then, goes-same, goes-self, sent-goes}
use Rattle.ca_laws_parts.proofs.HappensAdd.{circuit-keeps, core-keeps, given-free}
use Rattle.ca_laws_parts.proofs.Midway.{set-here}

-- ---- calls

same-frame : (w new v : World) → new ≡ v → v.servers ≡ w.servers → v.server_logs ≡ w.server_logs → v.circuits ≡ w.circuits → Frame w new
same-frame w new v is servers logs circuits = subst (λ (z : World). Frame w z) (sym is) (frame-self w v servers logs circuits)

-- its messages go up
pub sent-frame : (w new : World) (i : ℕ) (n : Names) (sent : List Sending) → new.servers ≡ w.servers → new.server_logs ≡ w.server_logs → new.circuits ≡ (with_sent i n sent w).circuits → Frame w new
sent-frame w new i n sent servers logs circuits =
    frame-map w new (λ (c : Joined). record c { lists = record c.lists { up = c.lists.up ++ sent_on i n sent c } }) servers logs circuits (sent-goes i n sent)

pub open-frame : (w new : World) (i : ℕ) (x : ClientSide) (name : List ℕ) (priority : ℕ) → HappensOpen w i x name priority new → Frame w new
open-frame w new i x name priority (inl (e, ne, does, is)) = frame-self w new (ap (λ (z : World). z.servers) is) (ap (λ (z : World). z.server_logs) is) (ap (λ (z : World). z.circuits) is)
open-frame w new i x name priority (inr (h, sent, core, does, is)) =
    sent-frame w new i (record x.names { channels = x.names.channels ++ h ∷ [] }) sent (ap (λ (z : World). z.servers) is) (ap (λ (z : World). z.server_logs) is) (ap (λ (z : World). z.circuits) is)

pub read-frame : (w new : World) (i : ℕ) (x : ClientSide) (c : ℕ) (h : Handle) (t n : ℕ) → HappensRead w i x c h t n new → Frame w new
read-frame w new i x c h t n (inl (e, ne, does, is)) = frame-self w new (ap (λ (z : World). z.servers) is) (ap (λ (z : World). z.server_logs) is) (ap (λ (z : World). z.circuits) is)
read-frame w new i x c h t n (inr (q, sent, core, does, is)) =
    sent-frame w new i (with_request q c history.Read x.names) sent (ap (λ (z : World). z.servers) is) (ap (λ (z : World). z.server_logs) is) (ap (λ (z : World). z.circuits) is)

pub put-frame : (w new : World) (i : ℕ) (x : ClientSide) (c : ℕ) (h : Handle) (v : Elements) → HappensWriteNotify w i x c h v new → Frame w new
put-frame w new i x c h v (inl (e, ne, does, is)) = frame-self w new (ap (λ (z : World). z.servers) is) (ap (λ (z : World). z.server_logs) is) (ap (λ (z : World). z.circuits) is)
put-frame w new i x c h v (inr (q, sent, core, does, is)) =
    sent-frame w new i (with_request q c history.Put x.names) sent (ap (λ (z : World). z.servers) is) (ap (λ (z : World). z.server_logs) is) (ap (λ (z : World). z.circuits) is)

pub write-frame : (w new : World) (i : ℕ) (x : ClientSide) (c : ℕ) (h : Handle) (v : Elements) → HappensWrite w i x c h v new → Frame w new
write-frame w new i x c h v (inl (e, ne, does, is)) = frame-self w new (ap (λ (z : World). z.servers) is) (ap (λ (z : World). z.server_logs) is) (ap (λ (z : World). z.circuits) is)
write-frame w new i x c h v (inr (u, sent, core, does, is)) =
    sent-frame w new i x.names sent (ap (λ (z : World). z.servers) is) (ap (λ (z : World). z.server_logs) is) (ap (λ (z : World). z.circuits) is)

pub subscribe-frame : (w new : World) (i : ℕ) (x : ClientSide) (c : ℕ) (h : Handle) (t n mask : ℕ) → HappensSubscribe w i x c h t n mask new → Frame w new
subscribe-frame w new i x c h t n mask (inl (e, ne, does, is)) = frame-self w new (ap (λ (z : World). z.servers) is) (ap (λ (z : World). z.server_logs) is) (ap (λ (z : World). z.circuits) is)
subscribe-frame w new i x c h t n mask (inr (s, sent, core, does, is)) =
    sent-frame w new i (record x.names { subscriptions = x.names.subscriptions ++ (s, On c (history.Subscribe (length x.names.subscriptions))) ∷ [] }) sent (ap (λ (z : World). z.servers) is) (ap (λ (z : World). z.server_logs) is) (ap (λ (z : World). z.circuits) is)

pub unsubscribe-frame : (w new : World) (i : ℕ) (x : ClientSide) (s : Handle × Intent) → HappensUnsubscribe w i x s new → Frame w new
unsubscribe-frame w new i x s (inl (e, ne, does, is)) = frame-self w new (ap (λ (z : World). z.servers) is) (ap (λ (z : World). z.server_logs) is) (ap (λ (z : World). z.circuits) is)
unsubscribe-frame w new i x s (inr (u, sent, core, does, is)) =
    sent-frame w new i x.names sent (ap (λ (z : World). z.servers) is) (ap (λ (z : World). z.server_logs) is) (ap (λ (z : World). z.circuits) is)

pub clear-frame : (w new : World) (i : ℕ) (x : ClientSide) (c : ℕ) (h : Handle) → HappensClear w i x c h new → Frame w new
clear-frame w new i x c h (inl (e, ne, does, is)) = frame-self w new (ap (λ (z : World). z.servers) is) (ap (λ (z : World). z.server_logs) is) (ap (λ (z : World). z.circuits) is)
clear-frame w new i x c h (inr (u, sent, core, does, is)) =
    sent-frame w new i x.names sent (ap (λ (z : World). z.servers) is) (ap (λ (z : World). z.server_logs) is) (ap (λ (z : World). z.circuits) is)

-- what became of a request is handed out
pub handing-frame : (w new : World) (x : ClientSide) (number : ℕ) (meant : Intent) (line : Option _ → Line) → HappensHandingOut w x number meant line new → Frame w new
handing-frame w new x number meant line (o, hands, is) = frame-self w new (ap (λ (z : World). z.servers) is) (ap (λ (z : World). z.server_logs) is) (ap (λ (z : World). z.circuits) is)

pub datagram-frame : (w new : World) (i : ℕ) (x : ClientSide) (from : Address) (bytes : List ℕ) → HappensClientDatagram w i x from bytes new → Frame w new
datagram-frame w new i x from bytes (sent, core, receives, is) =
    sent-frame w new i x.names sent (ap (λ (z : World). z.servers) is) (ap (λ (z : World). z.server_logs) is) (ap (λ (z : World). z.circuits) is)

-- ---- the client's end

ended-frame : (w new : World) (k : ℕ) (j : Joined) (x : ClientSide) (c : Closing) (core : Client) → At w.circuits k j → new ≡ client_ended k j x c core w → Frame w new
ended-frame w new k j x c core at is =
    let mid : World = with_circuit k (client_closed c.left j) w in
    frame-then w mid new (frame-circuit w k j (client_closed c.left j) at (closed-goes c.left j))
    (sent-frame mid new j.client x.names [] (ap (λ (z : World). z.servers) is) (ap (λ (z : World). z.server_logs) is) (ap (λ (z : World). z.circuits) is))

heard-goes : (step : Step) (j : Joined) → Goes j (heard_in step j)
heard-goes step j = goes-same j (heard_in step j) (record { server = refl; handle = refl; life = refl; up = refl; handled = refl; is_open = refl }) refl refl refl refl

pub cut-frame : (w new : World) (k : ℕ) (j : Joined) (x : ClientSide) → At w.circuits k j → HappensCutClient w k j x new → Frame w new
cut-frame w new k j x at (c, sent, core, cuts, is) = ended-frame w new k j x c core at is

pub hear-frame : (w new : World) (k : ℕ) (j : Joined) (x : ClientSide) → At w.circuits k j → HappensClientStep w k j x new → Frame w new
hear-frame w new k j x at (did, sent, core, steps, is) = go did is
  where
    go : (did : Stepped) → new ≡ client_stepped k j x did sent core w → Frame w new
    go answer.NeedBytes is = frame-self w new (ap (λ (z : World). z.servers) is) (ap (λ (z : World). z.server_logs) is) (ap (λ (z : World). z.circuits) is)
    go (answer.Closed c) is = ended-frame w new k j x c core at is
    go (answer.Notices notices) is =
        let logged : ℕ = log_length x.life w.client_logs in
        let lines : List Line = lines_of (about_at j.lists (length j.lists.heard)) x.names notices in
        let step : Step = record { sent = length j.lists.up; logged = logged; after = logged + length lines } in
        let mid : World = with_circuit k (heard_in step j) w in
        frame-then w mid new (frame-circuit w k j (heard_in step j) at (heard-goes step j))
        (sent-frame mid new j.client x.names sent (ap (λ (z : World). z.servers) is) (ap (λ (z : World). z.server_logs) is) (ap (λ (z : World). z.circuits) is))

pub begun-frame : (w new : World) (i : ℕ) (x : ClientSide) → HappensClientRestart w i x new → Frame w new
begun-frame w new i x is = frame-map w new (client_gone i x) (ap (λ (z : World). z.servers) is) (ap (λ (z : World). z.server_logs) is) (ap (λ (z : World). z.circuits) is) goes
  where
    goes : (c : Joined) → Goes c (client_gone i x c)
    goes c = go (c.client == i && c.lists.client_open)
      where
        go : (b : Bool) → Goes c (cond b (client_closed (out_bytes x.core c.at_client) c) c)
        go true = closed-goes (out_bytes x.core c.at_client) c
        go false = goes-self c

pub tick-frame : (moment : ℕ) (w : World) (i : ℕ) (new : World) → TicksOne moment w i new → Frame w new
tick-frame moment w i new (x, at, t, sent, core, ticks, is) =
    let mid : World = with_sent i x.names sent w in
    frame-then w mid new (sent-frame w mid i x.names sent refl refl refl)
    (frame-map mid new (after_tick i t.closings) (ap (λ (z : World). z.servers) is) (ap (λ (z : World). z.server_logs) is) (ap (λ (z : World). z.circuits) is) (goes t.closings))
  where
    goes : (closings : List Left) (c : Joined) → Goes c (after_tick i closings c)
    goes closings c = go (c.client == i && c.lists.client_open) (left_silent closings c)
      where
        go : (b : Bool) (o : Option (List ℕ)) → Goes c (cond b (unwrap_or (option_map (λ (left : List ℕ). client_closed left c) o) c) c)
        go true None = goes-self c
        go true (Some left) = closed-goes left c
        go false o = goes-self c

-- ---- bytes move

pub up-frame : (w : World) (k n : ℕ) (j : Joined) (x : ClientSide) → At w.circuits k j → Frame w (up_taken k n j x w)
up-frame w k n j x at = taken j.lists.client_open
  where
    taken : (b : Bool) → Frame w (cond b (with_client j.client (record x { core = handed_over j.at_client n x.core }) w) (with_circuit k (record j { left_up = drop n j.left_up }) w))
    taken true = frame-self w (with_client j.client (record x { core = handed_over j.at_client n x.core }) w) refl refl refl
    taken false = frame-circuit w k j (record j { left_up = drop n j.left_up }) at (goes-same j (record j { left_up = drop n j.left_up }) (record { server = refl; handle = refl; life = refl; up = refl; handled = refl; is_open = refl }) refl refl refl refl)

pub up-keeps : (s : Setting) (w new : World) (k n : ℕ) (j : Joined) (x : ClientSide) (y : ServerSide) → At w.circuits k j → At w.servers j.server y → HappensUp w k n j x y new → Sound s w → Sound s new
up-keeps s w new k n j x y at server (core, gives, is) h =
    let mid : World = up_taken k n j x w in
    let f = up-frame w k n j x at in
    let g = gives-stay y.core core j.at_server _ gives in
    subst (λ (z : World). Sound s z) (sym is)
    (core-keeps s mid j.server y core (subst (λ (l : List ServerSide). At l j.server y) (sym f.servers) server) g.0 g.1 (frame-keeps s w mid f h))

pub left-frame : (w : World) (k n : ℕ) (j : Joined) → At w.circuits k j → Frame w (with_circuit k (record j { left_down = drop n j.left_down }) w)
left-frame w k n j at = frame-circuit w k j (record j { left_down = drop n j.left_down }) at (goes-same j (record j { left_down = drop n j.left_down }) (record { server = refl; handle = refl; life = refl; up = refl; handled = refl; is_open = refl }) refl refl refl refl)

down-taken : (s : Setting) (w mid : World) (k n : ℕ) (j : Joined) (y : ServerSide) → At w.circuits k j → At w.servers j.server y → DownTaken w k n j y mid → Sound s w → Sound s mid
down-taken s w mid k n j y at server (inl (opened, (core, sends, is))) h =
    let g = sends-stay y.core core j.at_server n sends in
    subst (λ (z : World). Sound s z) (sym is) (core-keeps s w j.server y core server g.0 g.1 h)
down-taken s w mid k n j y at server (inr (shut, is)) h =
    subst (λ (z : World). Sound s z) (sym is) (frame-keeps s w (with_circuit k (record j { left_down = drop n j.left_down }) w) (left-frame w k n j at) h)

pub down-keeps : (s : Setting) (w new : World) (k n : ℕ) (j : Joined) (x : ClientSide) (y : ServerSide) → At w.circuits k j → At w.servers j.server y → HappensDown w k n j x y new → Sound s w → Sound s new
down-keeps s w new k n j x y at server (mid, sent, core, taken, gives, is) h =
    frame-keeps s mid new (sent-frame mid new j.client x.names sent (ap (λ (z : World). z.servers) is) (ap (λ (z : World). z.server_logs) is) (ap (λ (z : World). z.circuits) is)) (down-taken s w mid k n j y at server taken h)

-- ---- a circuit is made

pub accept-keeps : (s : Setting) (w new : World) (c : ℕ) (x : ClientSide) (v : WantsFirst w x) → HappensAccept w c x v new → Sound s w → Sound s new
accept-keeps s w new c x v f h = elim f.leaves [
  | inl full ↦ subst (λ (z : World). Sound s z) (sym full.1) h
  | inr made ↦ (let accepts : Accepts v.y.core (Ok made.0) f.server = subst (λ (a : _). Accepts v.y.core a f.server) made.4 f.accepts in joined made.0 made.1 made.2 made.3 accepts made.6)
]
  where
    -- the circuit that is made, whatever the client makes of it
    circuit : Handle → Option Closing → Joined
    circuit g k = connected_as k (new_circuit c x v.v.circuit v.i v.y g)

    made_by : Handle → Option Closing → World
    made_by g k = record (with_server v.i (record v.y { core = f.server }) w) { circuits = w.circuits ++ circuit g k ∷ [] }

    made-sound : (g : Handle) (k : Option Closing) → Accepts v.y.core (Ok g) f.server → Sound s (made_by g k)
    made-sound g k accepts =
        let a = accepts-stay v.y.core f.server g accepts in
        let mid : World = with_server v.i (record v.y { core = f.server }) w in
        let one : Sound s mid = core-keeps s w v.i v.y f.server v.there.0 a.0 a.1 h in
        go k one
      where
        has : HasEnd f.server g (new_end v.y.core.moment)
        has = subst (λ (z : Server). HasEnd z g (new_end v.y.core.moment)) (sym accepts.1) (held-own v.y.core.circuits g (Open (new_end v.y.core.moment)) accepts.0)

        fresh : (n : ℕ) (d : Joined) → At w.circuits n d → d.server ≡ v.i → d.lists.server_open ≡ true → d.at_server ≡ g → ⊥
        fresh n d at same opened handle =
            let seat = h.seated.each n d at opened in
            let own : seat.y ≡ v.y = At-one w.servers v.i seat.y v.y (subst (λ (m : ℕ). At w.servers m seat.y) same seat.at) v.there.0 in
            given-free v.y.core.circuits g (Open seat.e) accepts.0 (subst (λ (m : Handle). HasEnd v.y.core m seat.e) handle (subst (λ (z : ServerSide). HasEnd z.core d.at_server seat.e) own seat.has))

        go : (k : Option Closing) → Sound s (with_server v.i (record v.y { core = f.server }) w) → Sound s (made_by g k)
        go None one = circuit-keeps s (with_server v.i (record v.y { core = f.server }) w) (circuit g None) refl (record { y = record v.y { core = f.server }; at = set-here w.servers v.i v.y (record v.y { core = f.server }) v.there.0; joins = refl; e = new_end v.y.core.moment; has = has }) fresh one
        go (Some k) one = circuit-keeps s (with_server v.i (record v.y { core = f.server }) w) (circuit g (Some k)) refl (record { y = record v.y { core = f.server }; at = set-here w.servers v.i v.y (record v.y { core = f.server }) v.there.0; joins = refl; e = new_end v.y.core.moment; has = has }) fresh one

    joined : (g : Handle) (k : Option Closing) (sent : List Sending) (core : Client) → Accepts v.y.core (Ok g) f.server → new ≡ client_after c x x.names (record { core = core; names = x.names; lines = lines_of history.OfCircuit x.names (closing_notices k); sent = sent }) (record (with_server v.i (record v.y { core = f.server }) w) { circuits = w.circuits ++ connected_as k (new_circuit c x v.v.circuit v.i v.y g) ∷ [] }) → Sound s new
    joined g k sent core accepts is =
        frame-keeps s (made_by g k) new (sent-frame (made_by g k) new c x.names sent (ap (λ (z : World). z.servers) is) (ap (λ (z : World). z.server_logs) is) (ap (λ (z : World). z.circuits) is)) (made-sound g k accepts)
