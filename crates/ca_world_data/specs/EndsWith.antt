-- Working: the end of a circuit that a step of a server's core closed is reported, together with
-- those that ended beside it.
use Rattle.std.specs.Prelude.{ℕ, ◌≡◌, ◌==◌, ◌&&◌, Bool, List, [], Option, Some, None, if◌then◌else◌}
use Rattle.std.specs.Prelude.{map}
use Rattle.ca_arena.specs.declared.handle.Handle.{Handle}
use Rattle.ca_ids.specs.Table.{same_handle}
use Rattle.ca_model.specs.History.{Entry}
use Rattle.ca_model.specs.Server.{Server}
use Rattle.ca_model.specs.ServerEvents.{ending, ends_at, ends_by, reported, server_closed}
use Rattle.ca_model.specs.ServerEvents.{withdrawals, without_puts}
use Rattle.ca_model.specs.World.{Joined, grown}
use Rattle.ca_world_data.specs.declared.server.ServerSide.{ServerSide}
use Rattle.ca_world_data.specs.Seen.{record_of, server_of}

-- The circuit that is open at server i under this handle ends with these bytes left, and others as
-- the core says: `ends_here` of the statement, for the circuit of which the core knows the handle.
abbrev pub ends_under : Handle → List ℕ → (i : ℕ) → Server → Joined → Option (List ℕ)
ends_under h left i core c =
    if same_handle c.at_server h && (c.server == i && c.lists.server_open) then Some left
    else ends_by i core c

-- A circuit ends so, or without a handle as the core says: what it leaves plays no part.
abbrev pub goes_with : Option Handle → (i : ℕ) → Server → Joined → Option (List ℕ)
goes_with (Some h) i core = ends_under h [] i core
goes_with None i core = ends_by i core

-- the circuits that end so
abbrev pub gone_with : Option Handle → (i : ℕ) → Server → List Joined → ℕ → Bool
gone_with closed i core ks = ends_at (goes_with closed i core) ks

-- a circuit, which ends with these bytes left if it is that of the handle
abbrev pub closed_under : Handle → List ℕ → (i : ℕ) → Joined → Joined
closed_under h left i c =
    if same_handle c.at_server h && (c.server == i && c.lists.server_open) then server_closed left c
    else c

-- A step of server i closed the end under this handle, with these bytes left: it ends, and each
-- that ended in the step; these are reported, and the puts that wait on all of them are withdrawn.
-- It is `server_after` of the statement, for `ends_here`.
pub record ReportsWith (h : Handle) (left : List ℕ) (i : ℕ) (y : ServerSide) (ks : List Joined)
    (logs : List (List Entry)) (y' : ServerSide) (ks' : List Joined)
    (logs' : List (List Entry)) : Type 0 where
  pub side :
      server_of y'
      ≡ record (server_of y) {
        core = reported y.core;
        records =
            map (without_puts (ends_at (ends_under h left i y.core) ks))
            (map record_of y.records.items);
      }
  pub numbers : y'.circuits.items ≡ y.circuits.items
  pub circuits : ks' ≡ map (ending (ends_under h left i y.core)) ks
  pub logged : logs' ≡ grown y.life
      (withdrawals (ends_at (ends_under h left i y.core) ks) (map record_of y.records.items)) logs
