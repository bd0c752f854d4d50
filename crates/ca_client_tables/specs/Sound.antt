-- Working: what holds of the parts of a client. No clause of a caller needs it.
use Rattle.std.specs.Prelude.{ℕ, ◌≡◌, ◌<◌, List, Some}
use Rattle.std.specs.List.{AllByRecursion}
use Rattle.ca_text.specs.Limits.{arena_slots}
use Rattle.ca_arena.specs.declared.handle.Handle.{Handle}
use Rattle.ca_ids.specs.Table.{Table, under}
use Rattle.ca_ids.specs.Wire.{wire_of}
use Rattle.ca_requests.specs.Requests.{Request}
use Rattle.ca_monitor.specs.Subscriptions.{Subscription}
use Rattle.ca_model.specs.Client.{Channel, ClientCircuit}
use Rattle.ca_model.specs.Placed.{ArePlaced}
use Rattle.ca_search.specs.Searches as search
use Rattle.ca_client_tables.specs.Listed.{AreListed}

-- a channel has this CID
pub record HasCid (channels : Table Channel) (cid : ℕ) : Type 0 where
  pub handle : Handle
  pub channel : Channel
  pub found : under channels handle ≡ Some channel
  pub slot : handle.index < arena_slots
  pub wire : wire_of handle ≡ cid

-- what is searched for is a channel
pub record IsClient (channels : Table Channel) (searches : List (ℕ × search.Channel)) : Type 0 where
  pub searched : AllByRecursion (λ (e : ℕ × search.Channel). HasCid channels e.0) searches

-- And requests and subscriptions are where their channels are, channels are on circuits that are
-- connected or wanted, and those that are live are listed.
pub record IsSound (channels : Table Channel) (searches : List (ℕ × search.Channel))
    (asked : Table Request) (subscribed : Table Subscription) (circuits : Table ClientCircuit)
    (lists : List (List Handle)) : Type 0 where
  pub client : IsClient channels searches
  pub placed : ArePlaced channels asked subscribed circuits
  pub listed : AreListed channels lists
