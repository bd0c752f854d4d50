-- The calm events, all at once.
use Rattle.std.proofs.Common.{ℕ, List, sym, subst}
use Rattle.ca_model.specs.Events.{Event}
use Rattle.ca_model.specs.Events as event
use Rattle.ca_model.specs.Runs.{Happens}
use Rattle.ca_model.specs.World.{World}
use Rattle.ca_laws_parts.specs.Calm.{IsCalm}
use Rattle.ca_laws_parts.specs.Circuit.{HeldAt}
use Rattle.ca_laws_parts.specs.Clients.{ClientsStand}
use Rattle.ca_laws_parts.proofs.Accepts.{keeps-accept}
use Rattle.ca_laws_parts.proofs.Bytes.{keeps-cut-client, keeps-down, keeps-up}
use Rattle.ca_laws_parts.proofs.Happens.{keeps-clear, keeps-read, keeps-subscribe, keeps-unsubscribe, keeps-write, keeps-write-notify}
use Rattle.ca_laws_parts.proofs.OtherEvents.{keeps-add, keeps-handing-out, keeps-open, keeps-post, keeps-server-restart}
use Rattle.ca_laws_parts.proofs.Restarts.{keeps-client-restart, keeps-datagram}
use Rattle.ca_laws_parts.proofs.RunsServers.{keeps-cut-server}
use Rattle.ca_laws_parts.proofs.RunsTicks.{keeps-ticks}

pub keeps-calm : (kept : List ℕ) (w new : World) (l : ℕ) (e : Event) → IsCalm e → ClientsStand w → Happens w e new → HeldAt kept w l → HeldAt kept new l
keeps-calm kept w new l (event.Open i name priority) calm s h = keeps-open kept w new i l h.0.x name priority h.0.at s h.1
keeps-calm kept w new l (event.Clear i c) calm s h = keeps-clear kept w new i l c h.0.x h.0.h h.0.at (s.sound i h.0.x h.0.at).placed.attached h.1
keeps-calm kept w new l (event.Read i c data_type count) calm s h = keeps-read kept w new i l c h.0.x h.0.h data_type count h.0.at (s.sound i h.0.x h.0.at).named.requests h.1
keeps-calm kept w new l (event.Write i c e) calm s h = keeps-write kept w new i l c h.0.x h.0.h e h.0.at h.1
keeps-calm kept w new l (event.WriteNotify i c e) calm s h = keeps-write-notify kept w new i l c h.0.x h.0.h e h.0.at (s.sound i h.0.x h.0.at).named.requests h.1
keeps-calm kept w new l (event.Subscribe i c data_type count mask) calm s h = keeps-subscribe kept w new i l c h.0.x h.0.h data_type count mask h.0.at (s.sound i h.0.x h.0.at).named.subscriptions h.1
keeps-calm kept w new l (event.Unsubscribe i n) calm s h = keeps-unsubscribe kept w new i l h.0.x h.0.s h.0.at (s.sound i h.0.x h.0.at).named.meant h.1
keeps-calm kept w new l (event.Collect i r) calm s h = keeps-handing-out kept w new l h.0.x r h.0.q.1 _ h.1
keeps-calm kept w new l (event.GiveUp i r) calm s h = keeps-handing-out kept w new l h.0.x r h.0.q.1 _ h.1
keeps-calm kept w new l (event.ClientDatagram i from bytes) calm s h = keeps-datagram kept w new i l h.0.x from bytes h.0.at s h.1
keeps-calm kept w new l (event.ServerDatagram i from bytes) calm s h = λ held. subst (λ (v : World). HeldAt kept v l) (sym h.1.2) held
keeps-calm kept w new l (event.Accept i) calm s h = keeps-accept kept w new i l h.0.x h.0.v h.0.at s h.1
keeps-calm kept w new l (event.Up k n) calm s h = (let a = h.0.0 in keeps-up kept w new k l n a.j a.x a.y a.joins.at a.joins.client h.1)
keeps-calm kept w new l (event.Down k n) calm s h = (let a = h.0.0 in keeps-down kept w new k l n a.j a.x a.y a.joins.at a.joins.client h.1)
keeps-calm kept w new l (event.ServerStep k) calm s h = absurd calm
keeps-calm kept w new l (event.ClientStep k) calm s h = absurd calm
keeps-calm kept w new l (event.Pump k) calm s h = absurd calm
keeps-calm kept w new l (event.CutClient k) calm s h = (let a = h.0 in keeps-cut-client kept w new k l a.j a.x a.joins.at a.joins.client a.is_open s.handles h.1)
keeps-calm kept w new l (event.CutServer k) calm s h = (let a = h.0 in keeps-cut-server kept w new k l a.j a.y h.1)
keeps-calm kept w new l (event.ClientRestart i) calm s h = keeps-client-restart kept w new i l h.0.x h.0.at h.1
keeps-calm kept w new l (event.ServerRestart i) calm s h = keeps-server-restart kept w new i l h.0.y h.1
keeps-calm kept w new l (event.Post i name e mask) calm s h = keeps-post kept w new i l h.0.y name e mask h.1
keeps-calm kept w new l (event.Finish i name) calm s h = absurd calm
keeps-calm kept w new l (event.Remove i name) calm s h = absurd calm
keeps-calm kept w new l (event.Add i r) calm s h = keeps-add kept w new i l h.0.y r h.1
keeps-calm kept w new l (event.Tick moment) calm s h = λ held.
    let r = keeps-ticks kept moment l _ w h.1.0 h.1.1 held in
    subst (λ (v : World). HeldAt kept v l) (sym h.1.2) (r.0, r.1, r.2, r.3, r.4)
