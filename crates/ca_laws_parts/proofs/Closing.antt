-- A step of a server's end that closes its circuit and does nothing else; and what stays open as
-- a message is handled.
use Rattle.std.proofs.Common.{ℕ, Bool, false, List, [], refl, sym, subst}
use Rattle.ca_arena.specs.declared.handle.Handle.{Handle}
use Rattle.ca_ids.specs.Table.{same_handle}
use Rattle.ca_link.specs.Link.{with_rest, with_sent}
use Rattle.ca_text.specs.Place.{At}
use Rattle.ca_model.specs.Server.{Server, ServerEnd}
use Rattle.ca_model.specs.ServerSteps.{HasEnd, Next, closed}
use Rattle.ca_model.specs.ServerEvents.{ends_here, server_after}
use Rattle.ca_model.specs.World.{Joined, ServerSide, Setting, World}
use Rattle.ca_laws_parts.specs.Seats.{Sound}
use Rattle.ca_laws_parts.proofs.Cores.{StayOpen, records-stay, stay-end, stay-ends, stay-self}
use Rattle.ca_laws_parts.proofs.WritesEvents.{ends-here-only, midway-nothing, same-all}
use Rattle.ca_laws_parts.proofs.Seats.{bad-at, closed-at, event-keeps}

-- ---- a step that closes its circuit, and does nothing else

pub closed-keeps : (s : Setting) (w : World) (k : ℕ) (j : Joined) (y : ServerSide) (left : List ℕ) → At w.servers j.server y → Sound s w
    → Sound s (server_after j.server y (ends_here j left j.server (closed j.at_server y.core)) (closed j.at_server y.core) w)
closed-keeps s w k j y left at h =
    let core : Server = closed j.at_server y.core in
    let none : Handle → Bool = λ (g : Handle). false in
    event-keeps s w w j.server y y (h.writes.lives j.server y at).log [] y.core.records (ends_here j left j.server core) core (λ (g : Handle). same_handle g j.at_server)
    (midway-nothing w j.server y at h.writes) h (same-all w.circuits).1 (λ l z there other. there) (y, at)
    (closed-at j.server j left y.core y.core none (stay-ends y.core y.core none (stay-self y.core y.core refl) (λ g. refl))) (ends-here-only w.circuits j left j.server core) refl refl

-- for a bad message, by what the core had
pub bad-keeps : (s : Setting) (w : World) (k : ℕ) (j : Joined) (y : ServerSide) (left : List ℕ) → At w.servers j.server y → Sound s w
    → Sound s (server_after j.server y (ends_here j left j.server y.core) (closed j.at_server y.core) w)
bad-keeps s w k j y left at h =
    event-keeps s w w j.server y y (h.writes.lives j.server y at).log [] y.core.records (ends_here j left j.server y.core) (closed j.at_server y.core) (λ (g : Handle). same_handle g j.at_server)
    (midway-nothing w j.server y at h.writes) h (same-all w.circuits).1 (λ l z there other. there) (y, at)
    (bad-at j.server j left y.core) (ends-here-only w.circuits j left j.server y.core) refl refl

-- ---- a message

-- what the next message of an end makes of the server's ends
pub next-stay : (y : Server) (h : Handle) (e : ServerEnd) (has : HasEnd y h e) (next : Next y h e) → StayOpen y next.after
next-stay y h e has next g f there =
    let made = next.handles in
    let circuits = records-stay y h (record e { link = with_rest next.rest e.link }) next.m next.action made.recorded made.records in
    let a = stay-self y made.recorded circuits g f there in
    let own = stay-self y made.recorded circuits h e has in
    let d : ServerEnd = record made.acted { link = with_sent next.replies made.acted.link } in
    subst (λ (x : Server). (z : ServerEnd) × HasEnd x g z) (sym made.leaves) (stay-end made.recorded h own.0 d own.1 g a.0 a.1)
