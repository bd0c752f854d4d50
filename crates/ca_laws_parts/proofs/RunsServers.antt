-- Ends of circuits at a server end: what is held of each circuit by its client stays so.
use Rattle.std.proofs.Common.{◌≡◌, ℕ, List, Option, Some, None, refl, sym, subst}
use Rattle.std.specs.Prelude.{option_map, unwrap_or}
use Rattle.ca_text.specs.Place.{At}
use Rattle.ca_text.proofs.Places.{At-map}
use Rattle.ca_model.specs.Client.{Client}
use Rattle.ca_model.specs.Server.{Server}
use Rattle.ca_model.specs.ServerEvents.{HappensCutServer, ending, ends_by, server_after, server_closed}
use Rattle.ca_model.specs.World.{Joined, Names, ServerSide, World}
use Rattle.ca_laws_parts.specs.Circuit.{HeldAt, HeldOn}

-- a circuit whose end at the server has ended
pub closed-server : (kept : List ℕ) (n : Names) (x : Client) (j : Joined) (left : List ℕ) → HeldOn kept n x j → HeldOn kept n x (server_closed left j)
closed-server kept n x j left h =
    let f = h.flows in
    record {
      flows = record { within = f.within; early = f.early; about = f.about; asked = f.asked; own = f.own; concerns = f.concerns; next = f.next; last = f.last; over = f.over };
      cids = h.cids;
      holds = λ o.
          let r = h.holds o in
          record {
            channels = record { few = r.channels.few; busy = r.channels.busy; own = r.channels.own };
            requests = record { few = r.requests.few; busy = r.requests.busy; own = r.requests.own };
            subscriptions = record { few = r.subscriptions.few; busy = r.subscriptions.busy; own = r.subscriptions.own };
          };
    }

pub ending-held : (kept : List ℕ) (n : Names) (x : Client) (j : Joined) (o : Option (List ℕ)) → HeldOn kept n x j → HeldOn kept n x (unwrap_or (option_map (λ (left : List ℕ). server_closed left j) o) j)
ending-held kept n x j (Some left) h = closed-server kept n x j left h
ending-held kept n x j None h = h

pub ending-client : (j : Joined) (o : Option (List ℕ)) → (unwrap_or (option_map (λ (left : List ℕ). server_closed left j) o) j).client ≡ j.client
ending-client j (Some left) = refl
ending-client j None = refl

-- whatever ends of circuits end with a call of a server
pub server-held : (kept : List ℕ) (w : World) (i k : ℕ) (y : ServerSide) (ends : Joined → Option (List ℕ)) (core : Server) → HeldAt kept w k → HeldAt kept (server_after i y ends core w) k
server-held kept w i k y ends core held = (
  ending ends held.0,
  held.1,
  At-map (ending ends) w.circuits k held.0 held.2,
  subst (λ (c : ℕ). At w.clients c held.1) (sym (ending-client held.0 (ends held.0))) held.3,
  ending-held kept held.1.names held.1.core held.0 (ends held.0) held.4,
)

pub keeps-cut-server : (kept : List ℕ) (w new : World) (k l : ℕ) (j : Joined) (y : ServerSide) → HappensCutServer w k j y new → HeldAt kept w l → HeldAt kept new l
keeps-cut-server kept w new k l j y happens held =
    subst (λ (v : World). HeldAt kept v l) (sym happens.leaves) (server-held kept w j.server l y (ends_by j.server happens.core) happens.core held)
