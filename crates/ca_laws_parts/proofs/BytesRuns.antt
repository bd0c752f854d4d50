-- Every event keeps bytes as messages, and so does every run.
use Rattle.std.proofs.Common.{◌≡◌, ℕ, ◌+◌, inl, inr, List, [], ◌∷◌, length, Option, Some, refl, sym, ap, ◌∙◌, subst}
use Rattle.std.specs.List.{FoldsTo}
use Rattle.std.specs.Prelude.{take}
use Rattle.ca_text.specs.Place.{At}
use Rattle.ca_text.proofs.Places.{At-mapped, At-one}
use Rattle.ca_model.specs.Ends.{NamesFit}
use Rattle.ca_model.specs.History.{Collected, GaveUp, Sent, Told}
use Rattle.ca_model.specs.ClientEvents.{TicksOne}
use Rattle.ca_model.specs.Events.{Event}
use Rattle.ca_model.specs.Events as event
use Rattle.ca_model.specs.Runs.{CanBe, Happens, Leaves, Runs, StopsAt, clients_below}
use Rattle.ca_model.specs.World.{ClientSetting, ClientSide, IsSetting, ServerSide, Setting, World, addresses, client_begun, opening}
use Rattle.ca_laws_parts.specs.Clients.{ClientsStand}
use Rattle.ca_laws_parts.proofs.RunsEvents.{stands-happens, stands-opening}
use Rattle.ca_laws_parts.proofs.ClientsMore.{stands-ticks}
use Rattle.ca_laws_parts.specs.Says.{AllAsked, Says}
use Rattle.ca_laws_parts.specs.Seats.{AllTakeSent, TakesSent}
use Rattle.ca_laws_parts.specs.WritesSteps.{AllInStep}
use Rattle.ca_laws_parts.proofs.WritesEvents.{numbered-at}
use Rattle.ca_laws_parts.proofs.Every.{event-sound, opening-sound}
use Rattle.ca_laws_parts.proofs.Frames.{Frame, frame-keeps, frame-self, frame-then}
use Rattle.ca_laws_parts.proofs.HappensClient.{begun-frame, clear-frame, cut-frame, datagram-frame, handing-frame, hear-frame, open-frame, put-frame, read-frame, subscribe-frame, tick-frame, unsubscribe-frame, write-frame}
use Rattle.ca_laws_parts.proofs.WritesLists.{none_at}
use Rattle.ca_laws_parts.proofs.SaysRuns.{run-in-step, run-says}
use Rattle.ca_laws_parts.specs.Runs.{AllFit, HearsSent, IsReached, Stands}
use Rattle.ca_laws_parts.specs.Speaks.{ClientFits}
use Rattle.ca_laws_parts.specs.Worlds.{AllStream, ClientsSpeak, HandlesStand, ServersSpeak, client_end, server_end}
use Rattle.ca_laws_parts.proofs.BytesAsking.{accept-asked, asked-quiet, clear-asked, client-restart-asked, client-step-asked, cut-client-asked, datagram-asked, down-asked, open-asked, put-asked, read-asked, subscribe-asked, ticks-asked, unsubscribe-asked, up-asked, write-asked}
use Rattle.ca_laws_parts.proofs.ClientEvents.{clear-streams, client-restart-streams, client-step-streams, cut-client-streams, datagram-streams, handing-streams, open-streams, put-streams, read-streams, same-streams, subscribe-streams, unsubscribe-streams, write-streams}
use Rattle.ca_laws_parts.proofs.Clients.{came-so}
use Rattle.ca_laws_parts.proofs.Comes.{down-streams}
use Rattle.ca_laws_parts.proofs.Finish.{finish-handles, finish-streams}
use Rattle.ca_laws_parts.proofs.HandleEvents.{accept-handles, add-handles, cut-handles, down-handles, post-handles, pump-handles, remove-handles, restart-handles, step-handles, up-handles}
use Rattle.ca_laws_parts.proofs.Handles.{frame-handles}
use Rattle.ca_laws_parts.proofs.Made.{accept-streams}
use Rattle.ca_laws_parts.proofs.BytesMoves.{up-streams}
use Rattle.ca_laws_parts.proofs.Quiet.{add-quiet, cut-quiet, finish-quiet, post-quiet, pump-quiet, quiet-as, remove-quiet, restart-quiet, step-quiet}
use Rattle.ca_laws_parts.proofs.ServerEvents.{add-streams, cut-streams, post-streams, pump-streams, remove-streams, server-restart-streams}
use Rattle.ca_laws_parts.proofs.BytesServerSteps.{server-step-streams}
use Rattle.ca_laws_parts.proofs.BytesServers.{server-came}
use Rattle.ca_laws_parts.proofs.Speaking.{accept-fit, clear-fit, client-restart-fit, client-step-fit, cut-client-fit, datagram-fit, down-fit, fit-quiet, new-fits, open-fit, put-fit, read-fit, subscribe-fit, ticks-fit, unsubscribe-fit, up-fit, write-fit}
use Rattle.ca_laws_parts.proofs.Streaming.{first-next}
use Rattle.ca_laws_parts.proofs.BytesTicks.{tick-one-streams}

-- ---- what an end takes next

pub takes-sent : (w : World) → AllStream w → ClientsSpeak w → TakesSent w
takes-sent w all speak k j y e m rest at there opened has takes =
    let st = all k j at in
    let one : st.y ≡ y = At-one w.servers j.server st.y y st.server there in
    let streams = st.meets.there opened (speak k j at) in
    let came : (server_end st.y j).came ≡ e.link.input.bytes = ap (λ (q : ServerSide). (server_end q j).came) one ∙ server-came y j e has in
    let r = first-next (client_end st.x j) (server_end st.y j) m takes.0 rest (speak k j at) streams takes.1 (came ∙ takes.2) in
    let s = At-mapped (λ (s : Sent). s.message) j.lists.up (length j.lists.handled) m r.0 in
    (s.0, s.1, sym s.2)

pub hears-sent : (w : World) → AllStream w → ServersSpeak w → HearsSent w
hears-sent w all speak k j x d m rest at there opened is takes =
    let st = all k j at in
    let one : st.x ≡ x = At-one w.clients j.client st.x x st.client there in
    let streams = st.meets.back opened (speak k j at) in
    let came : (client_end st.x j).came ≡ d.link.input.bytes = ap (λ (q : ClientSide). (client_end q j).came) one ∙ came-so x.core j.at_client d is in
    let r = first-next (server_end st.y j) (client_end st.x j) m takes.0 rest (speak k j at) streams takes.1 (came ∙ takes.2) in
    let t = At-mapped (λ (t : Told). t.message) j.lists.down (length j.lists.heard) m r.0 in
    (t.0, t.1, sym t.2)

-- ---- moments

ticks-streams : (moment : ℕ) (clients : List ℕ) (w new : World) → ClientsStand w → FoldsTo (TicksOne moment) w clients new → AllStream w → AllStream new
ticks-streams moment [] w new s folds all = subst (λ (v : World). AllStream v) folds all
ticks-streams moment (i ∷ clients) w new s (mid, one, rest) all =
    ticks-streams moment clients mid new (stands-ticks moment (i ∷ []) w mid s (mid, one, refl)) rest (tick-one-streams moment w i mid s one all)

pub ticks-frame : (moment : ℕ) (clients : List ℕ) (w new : World) → FoldsTo (TicksOne moment) w clients new → Frame w new
ticks-frame moment [] w new same = frame-self w new (ap (λ (z : World). z.servers) (sym same)) (ap (λ (z : World). z.server_logs) (sym same)) (ap (λ (z : World). z.circuits) (sym same))
ticks-frame moment (i ∷ clients) w new (mid, one, rest) = frame-then w mid new (tick-frame moment w i mid one) (ticks-frame moment clients mid new rest)

-- ---- every event

leaves-streams : (s : Setting) (w new : World) (e : Event) → Stands s w → (at : CanBe w e) → Leaves w e at new → AllStream new
leaves-streams s w new (event.Open i name priority) h at l = open-streams w new i at.x at.at h.clients h.streams name priority l
leaves-streams s w new (event.Clear i c) h at l = clear-streams w new i at.x at.at h.clients h.streams c at.h l
leaves-streams s w new (event.Read i c data_type count) h at l = read-streams w new i at.x at.at h.clients h.streams c at.h data_type count l
leaves-streams s w new (event.Write i c e) h at l = write-streams w new i at.x at.at h.clients h.streams c at.h e l
leaves-streams s w new (event.WriteNotify i c e) h at l = put-streams w new i at.x at.at h.clients h.streams c at.h e l
leaves-streams s w new (event.Subscribe i c data_type count mask) h at l = subscribe-streams w new i at.x at.at h.clients h.streams c at.h data_type count mask l
leaves-streams s w new (event.Unsubscribe i n) h at l = unsubscribe-streams w new i at.x at.at h.clients h.streams at.s l
leaves-streams s w new (event.Collect i r) h at l = handing-streams w new at.x r at.q.1 (Collected r) l h.streams
leaves-streams s w new (event.GiveUp i r) h at l = handing-streams w new at.x r at.q.1 (GaveUp r) l h.streams
leaves-streams s w new (event.ClientDatagram i from bytes) h at l = datagram-streams w new i at.x at.at h.clients h.streams from bytes l
leaves-streams s w new (event.ServerDatagram i from bytes) h at l = subst (λ (z : World). AllStream z) (sym l.2) h.streams
leaves-streams s w new (event.Accept i) h at l = accept-streams w new i at.x at.v at.at h.clients h.sound.seated l h.streams
leaves-streams s w new (event.Up k n) h at l = up-streams w k n at.0.j at.0.x at.0.y at.0.joins.at at.0.joins.client at.0.joins.server h.clients h.sound.seated h.streams new at.0.is_open l
leaves-streams s w new (event.Down k n) h at l = down-streams w k n at.0.j at.0.x at.0.y at.0.joins.at at.0.joins.client at.0.joins.server at.0.is_open h.clients h.sound.seated h.streams new l
leaves-streams s w new (event.ServerStep k) h at l = server-step-streams w k at.j at.y at.joins.at at.joins.server at.is_open h.sound.seated h.streams l.0 new l.1
leaves-streams s w new (event.ClientStep k) h at l = client-step-streams w k at.j at.x at.joins.at at.joins.client at.is_open h.clients h.streams new l
leaves-streams s w new (event.Pump k) h at l = pump-streams w new k at.j at.y at.joins.at at.joins.server at.is_open h.sound.seated l h.streams
leaves-streams s w new (event.CutClient k) h at l = cut-client-streams w k at.j at.x at.joins.at at.joins.client at.is_open h.clients h.streams new l
leaves-streams s w new (event.CutServer k) h at l = cut-streams w new k at.j at.y at.joins.server h.sound.seated l h.streams
leaves-streams s w new (event.ClientRestart i) h at l = client-restart-streams w new i at.x at.at h.clients l h.streams
leaves-streams s w new (event.ServerRestart i) h at l = server-restart-streams w new i at.y at.at h.sound.seated l h.streams
leaves-streams s w new (event.Post i name e mask) h at l = post-streams w new i at.y name e mask at.at h.sound.seated l h.streams
leaves-streams s w new (event.Finish i name) h at l = finish-streams s w new i at.y name at.at h.sound h.handles l h.streams
leaves-streams s w new (event.Remove i name) h at l = remove-streams w new i at.y name at.at h.sound.seated l h.streams
leaves-streams s w new (event.Add i r) h at l = add-streams w new i at.y r at.at l h.streams
leaves-streams s w new (event.Tick moment) h at (mid, ticks, is) =
    same-streams mid new (ap (λ (z : World). z.clients) is) (ap (λ (z : World). z.servers) is) (ap (λ (z : World). z.circuits) is) (ticks-streams moment (clients_below (length w.clients)) w mid h.clients ticks h.streams)

leaves-handles : (s : Setting) (w new : World) (e : Event) → Stands s w → (at : CanBe w e) → Leaves w e at new → HandlesStand new
leaves-handles s w new (event.Open i name priority) h at l = frame-handles w new (open-frame w new i at.x name priority l) h.handles
leaves-handles s w new (event.Clear i c) h at l = frame-handles w new (clear-frame w new i at.x c at.h l) h.handles
leaves-handles s w new (event.Read i c data_type count) h at l = frame-handles w new (read-frame w new i at.x c at.h data_type count l) h.handles
leaves-handles s w new (event.Write i c e) h at l = frame-handles w new (write-frame w new i at.x c at.h e l) h.handles
leaves-handles s w new (event.WriteNotify i c e) h at l = frame-handles w new (put-frame w new i at.x c at.h e l) h.handles
leaves-handles s w new (event.Subscribe i c data_type count mask) h at l = frame-handles w new (subscribe-frame w new i at.x c at.h data_type count mask l) h.handles
leaves-handles s w new (event.Unsubscribe i n) h at l = frame-handles w new (unsubscribe-frame w new i at.x at.s l) h.handles
leaves-handles s w new (event.Collect i r) h at l = frame-handles w new (handing-frame w new at.x r at.q.1 (Collected r) l) h.handles
leaves-handles s w new (event.GiveUp i r) h at l = frame-handles w new (handing-frame w new at.x r at.q.1 (GaveUp r) l) h.handles
leaves-handles s w new (event.ClientDatagram i from bytes) h at l = frame-handles w new (datagram-frame w new i at.x from bytes l) h.handles
leaves-handles s w new (event.ServerDatagram i from bytes) h at l = subst (λ (z : World). HandlesStand z) (sym l.2) h.handles
leaves-handles s w new (event.Accept i) h at l = accept-handles w new i at.x at.v l h.handles
leaves-handles s w new (event.Up k n) h at l = up-handles w new k n at.0.j at.0.x at.0.y at.0.joins.at at.0.joins.server l h.handles
leaves-handles s w new (event.Down k n) h at l = down-handles w new k n at.0.j at.0.x at.0.y at.0.joins.at at.0.joins.server l h.handles
leaves-handles s w new (event.ServerStep k) h at l = step-handles w k at.j at.y at.joins.at at.joins.server h.handles l.0 new l.1
leaves-handles s w new (event.ClientStep k) h at l = frame-handles w new (hear-frame w new k at.j at.x at.joins.at l) h.handles
leaves-handles s w new (event.Pump k) h at l = pump-handles w new k at.j at.y at.joins.at at.joins.server l h.handles
leaves-handles s w new (event.CutClient k) h at l = frame-handles w new (cut-frame w new k at.j at.x at.joins.at l) h.handles
leaves-handles s w new (event.CutServer k) h at l = cut-handles w new k at.j at.y at.joins.server l h.handles
leaves-handles s w new (event.ClientRestart i) h at l = frame-handles w new (begun-frame w new i at.x l) h.handles
leaves-handles s w new (event.ServerRestart i) h at l = restart-handles s w new i at.y h.sound l h.handles
leaves-handles s w new (event.Post i name e mask) h at l = post-handles w new i at.y name e mask at.at l h.handles
leaves-handles s w new (event.Finish i name) h at l = finish-handles s w new i at.y name at.at h.sound h.handles l
leaves-handles s w new (event.Remove i name) h at l = remove-handles w new i at.y name at.at l h.handles
leaves-handles s w new (event.Add i r) h at l = add-handles w new i at.y r at.at l h.handles
leaves-handles s w new (event.Tick moment) h at (mid, ticks, is) =
    frame-handles w new (frame-then w mid new (ticks-frame moment (clients_below (length w.clients)) w mid ticks) (frame-self mid new (ap (λ (z : World). z.servers) is) (ap (λ (z : World). z.server_logs) is) (ap (λ (z : World). z.circuits) is))) h.handles

leaves-fit : (s : Setting) (w new : World) (e : Event) → Stands s w → (at : CanBe w e) → Leaves w e at new → AllFit new
leaves-fit s w new (event.Open i name priority) h at l = open-fit w new i at.x at.at h.clients h.fit name priority l
leaves-fit s w new (event.Clear i c) h at l = clear-fit w new i at.x at.at h.clients h.fit c at.h l
leaves-fit s w new (event.Read i c data_type count) h at l = read-fit w new i at.x at.at h.clients h.fit c at.h data_type count l
leaves-fit s w new (event.Write i c e) h at l = write-fit w new i at.x at.at h.clients h.fit c at.h e l
leaves-fit s w new (event.WriteNotify i c e) h at l = put-fit w new i at.x at.at h.clients h.fit c at.h e l
leaves-fit s w new (event.Subscribe i c data_type count mask) h at l = subscribe-fit w new i at.x at.at h.clients h.fit c at.h data_type count mask l
leaves-fit s w new (event.Unsubscribe i n) h at l = unsubscribe-fit w new i at.x at.at h.clients h.fit at.s l
leaves-fit s w new (event.Collect i r) h at l = fit-quiet w new (quiet-as w new (ap (λ (z : World). z.clients) l.2) (ap (λ (z : World). z.circuits) l.2)) h.fit
leaves-fit s w new (event.GiveUp i r) h at l = fit-quiet w new (quiet-as w new (ap (λ (z : World). z.clients) l.2) (ap (λ (z : World). z.circuits) l.2)) h.fit
leaves-fit s w new (event.ClientDatagram i from bytes) h at l = datagram-fit w new i at.x at.at h.clients h.fit from bytes l
leaves-fit s w new (event.ServerDatagram i from bytes) h at l = subst (λ (z : World). AllFit z) (sym l.2) h.fit
leaves-fit s w new (event.Accept i) h at l = accept-fit w new i at.x at.v at.at h.clients l h.fit
leaves-fit s w new (event.Up k n) h at l = up-fit w new k at.0.j at.0.x at.0.joins.at at.0.joins.client h.clients h.fit n at.0.y l
leaves-fit s w new (event.Down k n) h at l = down-fit w new k at.0.j at.0.x at.0.joins.at at.0.joins.client h.clients h.fit n at.0.y l
leaves-fit s w new (event.ServerStep k) h at l = fit-quiet w new (step-quiet w new k at.j at.y at.joins.at l) h.fit
leaves-fit s w new (event.ClientStep k) h at l = client-step-fit w new k at.j at.x at.joins.at at.joins.client h.clients h.fit at.is_open l
leaves-fit s w new (event.Pump k) h at l = fit-quiet w new (pump-quiet w new k at.j at.y at.joins.at l) h.fit
leaves-fit s w new (event.CutClient k) h at l = cut-client-fit w new k at.j at.x at.joins.at at.joins.client h.clients h.fit l
leaves-fit s w new (event.CutServer k) h at l = fit-quiet w new (cut-quiet w new k at.j at.y at.joins.at l) h.fit
leaves-fit s w new (event.ClientRestart i) h at l = client-restart-fit w new i at.x at.at l h.fit
leaves-fit s w new (event.ServerRestart i) h at l = fit-quiet w new (restart-quiet w new i at.y l) h.fit
leaves-fit s w new (event.Post i name e mask) h at l = fit-quiet w new (post-quiet w new i at.y name e mask l) h.fit
leaves-fit s w new (event.Finish i name) h at l = fit-quiet w new (finish-quiet w new i at.y name l) h.fit
leaves-fit s w new (event.Remove i name) h at l = fit-quiet w new (remove-quiet w new i at.y name l) h.fit
leaves-fit s w new (event.Add i r) h at l = fit-quiet w new (add-quiet w new i at.y r l) h.fit
leaves-fit s w new (event.Tick moment) h at (mid, ticks, is) =
    fit-quiet mid new (quiet-as mid new (ap (λ (z : World). z.clients) is) (ap (λ (z : World). z.circuits) is)) (ticks-fit moment (clients_below (length w.clients)) w mid ticks h.fit)

leaves-asked : (s : Setting) (w new : World) (e : Event) → Stands s w → (at : CanBe w e) → Leaves w e at new → AllAsked new
leaves-asked s w new (event.Open i name priority) h at l = open-asked w new i at.x at.at h.clients h.asked name priority l
leaves-asked s w new (event.Clear i c) h at l = clear-asked w new i at.x at.at h.clients h.asked c at.h l
leaves-asked s w new (event.Read i c data_type count) h at l = read-asked w new i at.x at.at h.clients h.asked c at.h data_type count l
leaves-asked s w new (event.Write i c e) h at l = write-asked w new i at.x at.at h.clients h.asked c at.h e l
leaves-asked s w new (event.WriteNotify i c e) h at l = put-asked w new i at.x at.at h.clients h.asked c at.h e l
leaves-asked s w new (event.Subscribe i c data_type count mask) h at l = subscribe-asked w new i at.x at.at h.clients h.asked c at.h data_type count mask l
leaves-asked s w new (event.Unsubscribe i n) h at l = unsubscribe-asked w new i at.x at.at h.clients h.asked at.s l
leaves-asked s w new (event.Collect i r) h at l = asked-quiet w new (quiet-as w new (ap (λ (z : World). z.clients) l.2) (ap (λ (z : World). z.circuits) l.2)) h.asked
leaves-asked s w new (event.GiveUp i r) h at l = asked-quiet w new (quiet-as w new (ap (λ (z : World). z.clients) l.2) (ap (λ (z : World). z.circuits) l.2)) h.asked
leaves-asked s w new (event.ClientDatagram i from bytes) h at l = datagram-asked w new i at.x at.at h.clients h.asked from bytes l
leaves-asked s w new (event.ServerDatagram i from bytes) h at l = subst (λ (z : World). AllAsked z) (sym l.2) h.asked
leaves-asked s w new (event.Accept i) h at l = accept-asked w new i at.x at.v l h.asked
leaves-asked s w new (event.Up k n) h at l = up-asked w new k at.0.j at.0.x at.0.joins.at at.0.joins.client h.clients h.asked n at.0.y l
leaves-asked s w new (event.Down k n) h at l = down-asked w new k at.0.j at.0.x at.0.joins.at at.0.joins.client h.clients h.asked n at.0.y l
leaves-asked s w new (event.ServerStep k) h at l = asked-quiet w new (step-quiet w new k at.j at.y at.joins.at l) h.asked
leaves-asked s w new (event.ClientStep k) h at l = client-step-asked w new k at.j at.x at.joins.at at.joins.client h.clients h.asked at.is_open l
leaves-asked s w new (event.Pump k) h at l = asked-quiet w new (pump-quiet w new k at.j at.y at.joins.at l) h.asked
leaves-asked s w new (event.CutClient k) h at l = cut-client-asked w new k at.j at.x at.joins.at at.joins.client h.clients h.asked l
leaves-asked s w new (event.CutServer k) h at l = asked-quiet w new (cut-quiet w new k at.j at.y at.joins.at l) h.asked
leaves-asked s w new (event.ClientRestart i) h at l = client-restart-asked w new i at.x l h.asked
leaves-asked s w new (event.ServerRestart i) h at l = asked-quiet w new (restart-quiet w new i at.y l) h.asked
leaves-asked s w new (event.Post i name e mask) h at l = asked-quiet w new (post-quiet w new i at.y name e mask l) h.asked
leaves-asked s w new (event.Finish i name) h at l = asked-quiet w new (finish-quiet w new i at.y name l) h.asked
leaves-asked s w new (event.Remove i name) h at l = asked-quiet w new (remove-quiet w new i at.y name l) h.asked
leaves-asked s w new (event.Add i r) h at l = asked-quiet w new (add-quiet w new i at.y r l) h.asked
leaves-asked s w new (event.Tick moment) h at (mid, ticks, is) =
    asked-quiet mid new (quiet-as mid new (ap (λ (z : World). z.clients) is) (ap (λ (z : World). z.circuits) is)) (ticks-asked moment (clients_below (length w.clients)) w mid ticks h.asked)

pub event-stands : (s : Setting) (w new : World) (e : Event) → IsSetting s → Happens w e new → Stands s w → Stands s new
event-stands s w new e ok happens h = record {
  sound = event-sound s w new e ok (takes-sent w h.streams h.fit.sent) happens h.sound;
  clients = stands-happens w new e h.clients happens;
  handles = leaves-handles s w new e h happens.0 happens.1;
  streams = leaves-streams s w new e h happens.0 happens.1;
  fit = leaves-fit s w new e h happens.0 happens.1;
  asked = leaves-asked s w new e h happens.0 happens.1;
}

-- ---- every run

pub opening-stands : (s : Setting) → IsSetting s → Stands s (opening s)
opening-stands s ok = record {
  sound = opening-sound s ok;
  clients = stands-opening s;
  handles = record { given = λ n c y at there life. absurd (none_at n c at); gone = λ n c y v at there life shut is. none_at n c at };
  streams = λ k j at. absurd (none_at k j at);
  fit = record {
    sent = λ k j at. absurd (none_at k j at);
    cores = λ i x at. (let g = begun i x at in subst (λ (z : ClientSide). ClientFits z.core) (sym g.2) (new-fits _ (ok.fit i g.0 g.1)));
    given = λ i x at. (let g = begun i x at in subst (λ (z : ClientSide). NamesFit z.setting.peer) (sym g.2) (ok.fit i g.0 g.1));
  };
  asked = λ n k c s at there. absurd (none_at n c at);
}
  where
    begun : (i : ℕ) (x : ClientSide) → At (opening s).clients i x → (g : ClientSetting) × At s.clients i g × (x ≡ client_begun (addresses s.servers) 0 (0 + i) g)
    begun i x at = numbered-at (client_begun (addresses s.servers) 0) s.clients 0 i x at

pub events-stand : (s : Setting) (es : List Event) (w new : World) → IsSetting s → FoldsTo Happens w es new → Stands s w → Stands s new
events-stand s [] w new ok same h = subst (λ (z : World). Stands s z) same h
events-stand s (e ∷ es) w new ok (mid, one, rest) h = events-stand s es mid new ok rest (event-stands s w mid e ok one h)

stops-stand : (s : Setting) (mid : World) (stopped : Option Event) (w : World) → StopsAt mid stopped w → Stands s mid → Stands s w
stops-stand s mid (Some (event.Tick moment)) w stops h = elim stops [
  | inl same ↦ subst (λ (z : World). Stands s z) (sym same) h
  | inr ticked ↦
      let frame = ticks-frame moment (clients_below ticked.0) mid w ticked.3 in
      record {
        sound = frame-keeps s mid w frame h.sound;
        clients = stands-ticks moment (clients_below ticked.0) mid w h.clients ticked.3;
        handles = frame-handles mid w frame h.handles;
        streams = ticks-streams moment (clients_below ticked.0) mid w h.clients ticked.3 h.streams;
        fit = ticks-fit moment (clients_below ticked.0) mid w ticked.3 h.fit;
        asked = ticks-asked moment (clients_below ticked.0) mid w ticked.3 h.asked;
      }
]
stops-stand s mid stopped w stops h = subst (λ (z : World). Stands s z) (sym stops) h

pub runs-stand : (s : Setting) (es : List Event) (stopped : Option Event) (w : World) → IsSetting s → Runs s es stopped w → Stands s w
runs-stand s es stopped w ok (mid, folds, stops) = stops-stand s mid stopped w stops (events-stand s es (opening s) mid ok folds (opening-stands s ok))

-- in each world on the way an end takes what was sent to it
pub runs-take : (s : Setting) (es : List Event) → IsSetting s → AllTakeSent (opening s) es
runs-take s es ok n mid folds = (let h = events-stand s (take n es) (opening s) mid ok folds (opening-stands s ok) in takes-sent mid h.streams h.fit.sent)

-- ---- writes

pub reached : (w : World) → IsReached w → (s : Setting) × Stands s w
reached w (s, es, stopped, ok, runs) = (s, runs-stand s es stopped w ok runs)

pub reached-says : (w : World) → IsReached w → Says w
reached-says w (s, es, stopped, ok, runs) = run-says s es stopped w ok runs (runs-take s es ok)

pub reached-in-step : (w : World) → IsReached w → AllInStep w
reached-in-step w (s, es, stopped, ok, runs) = run-in-step s es stopped w ok runs (runs-take s es ok)
