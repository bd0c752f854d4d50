-- Working: what a server's end knows of its peer, apart from channels and subscriptions, is what
-- the lists of its circuit say; and a server keeps the port and the rules that it was given.
use Rattle.std.specs.Prelude.{ℕ, ◌≡◌, ◌==◌, true, Bool}
use Rattle.std.specs.List.{list_any}
use Rattle.ca_arena.specs.declared.handle.Handle.{Handle}
use Rattle.ca_text.specs.Command.{command_number}
use Rattle.ca_text.specs.declared.command.Command.TheVariants as command
use Rattle.ca_text.specs.Place.{At}
use Rattle.ca_model.specs.Ends.{Peer}
use Rattle.ca_model.specs.History.{Circuit, Sent}
use Rattle.ca_model.specs.Server.{Server, ServerEnd}
use Rattle.ca_model.specs.ServerSteps.{HasEnd}
use Rattle.ca_model.specs.Known.{NamesItself, has_created}
use Rattle.ca_model.specs.World.{Joined, ServerSetting, ServerSide, World}
use Rattle.ca_laws_runs.specs.KnewLists.{as_known}

-- What an end knows of its peer: whether it greeted; how it named itself, and
-- whether that is settled.
pub record Face : Type 0 where
  pub greeted : Bool
  pub peer : Peer
  pub settled : Bool

abbrev pub face_of : ServerEnd → Face
face_of e = record { greeted = e.greeted; peer = e.peer; settled = e.settled }

-- So it is by these lists.
pub record IsFace (c : Circuit) (f : Face) : Type 0 where
  pub greeted : f.greeted ≡ list_any
      (λ (s : Sent). s.message.command == command_number command.Version) c.up
  pub user : NamesItself c command.ClientName f.peer.user
  pub host : NamesItself c command.HostName f.peer.host
  pub settled : f.settled ≡ has_created c.down

-- A server has the port and the rules that it was given; and of each of its open ends this holds.
pub record IsFaced (given : ServerSetting) (Q : Handle → Face → Type 0) (y : Server) : Type 0 where
  pub port : y.port ≡ given.address.port
  pub rules : y.rules ≡ given.rules
  pub ends : (h : Handle) (e : ServerEnd) → HasEnd y h e → Q h (face_of e)

-- What each server knows of the peer on each open end is what the lists of the circuit say, as
-- far as it handled them.
abbrev pub KnowFaces : World → Type 0
KnowFaces w =
    (n : ℕ) (c : Joined) (y : ServerSide) (e : ServerEnd) → At w.circuits n c
    → At w.servers c.server y → c.lists.server_open ≡ true
    → HasEnd y.core c.at_server e → IsFace (as_known c.lists) (face_of e)

-- Each server has the port and the rules that it was given.
abbrev pub KeepSettings : World → Type 0
KeepSettings w =
    (i : ℕ) (y : ServerSide) → At w.servers i y → (y.core.port ≡ y.setting.address.port)
    × (y.core.rules ≡ y.setting.rules)
