-- Scripts: what their lines say, one after another.
use Rattle.std.specs.Prelude.{ℕ, ◌≡◌, ◌⊎◌, ⊤, false, List, [], ◌∷◌, ◌++◌, codes}
use Rattle.ca_dbr.specs.Elements.{base_of}
use Rattle.ca_events.specs.Events.{event_of}
use Rattle.ca_events.specs.declared.event.Event.{Event}
use Rattle.ca_model.specs.Ends.{Address}
use Rattle.ca_model.specs.Events as world
use Rattle.ca_model.specs.World.{ClientSetting, ServerSetting}
use Rattle.ca_records.specs.Record.{RecordState}
use Rattle.ca_text.specs.declared.refusal.Refusal.{Refusal}
use Rattle.ca_text.specs.declared.refusal.Refusal.TheVariants.{BadText, OutOfMemory}
use Rattle.ca_script.specs.Grammar.{Lead, lines_of, parted}
use Rattle.ca_script.specs.Lines.{SaysServer}
use Rattle.ca_world_script.specs.declared.script.Script.{Script}
use Rattle.ca_world_script.specs.declared.verb.Verb.{Verb}
use Rattle.ca_world_script.specs.Events.{Says, SaysAdd, SaysPost, verb_word}
use Rattle.ca_world_data.specs.Settings.{is_taken}
use Rattle.ca_world_script.specs.Lines.{SaysClient}
use Rattle.ca_world_script.specs.Servers.{TakesLine, header_only}
use Rattle.ca_world_script.specs.Types as types
use Rattle.ca_world_script.specs.Types.{Added, none_added}

-- what has been read, and which types `add` lines named
pub record Reading : Type 0 where
  pub clients : List ClientSetting
  pub servers : List ServerSetting
  pub events : List Event
  pub added : Added

abbrev pub reading : Script → Added → Reading
reading s added =
    record {
      clients = s.clients.items;
      servers = s.servers.items;
      events = s.events.items;
      added = added;
    }

abbrev pub nothing : Reading
nothing = record { clients = []; servers = []; events = []; added = none_added }

-- a client, before all servers and events
pub record AddsClient (old : Reading) (words : List (List ℕ)) (new : Reading) : Type 0 where
  pub behind : List (List ℕ)
  pub client : ClientSetting
  pub are : words ≡ codes "client" ∷ behind
  pub says : SaysClient behind client
  pub early : (old.servers ≡ []) × (old.events ≡ [])
  pub after : new ≡ record old { clients = old.clients ++ client ∷ [] }

-- a server at an address of its own, before the events, still without records and rules
pub record AddsServer (old : Reading) (words : List (List ℕ)) (new : Reading) : Type 0 where
  pub behind : List (List ℕ)
  pub address : Address
  pub are : words ≡ codes "server" ∷ behind
  pub says : SaysServer behind address.host address.port
  pub fresh : is_taken address old.servers ≡ false
  pub early : old.events ≡ []
  pub after : new ≡ record old { servers = old.servers ++ header_only address ∷ [] }

-- a record or a rule of the last server, before the events
pub record AddsTo (old : Reading) (words : List (List ℕ)) (new : Reading) : Type 0 where
  pub others : List ServerSetting
  pub server : ServerSetting
  pub next : ServerSetting
  pub last : old.servers ≡ others ++ server ∷ []
  pub takes : TakesLine server words next
  pub early : old.events ≡ []
  pub after : new ≡ record old { servers = others ++ next ∷ [] }

-- an event
pub record AddsEvent (old : Reading) (words : List (List ℕ)) (new : Reading) : Type 0 where
  pub behind : List (List ℕ)
  pub verb : Verb
  pub event : Event
  pub are : words ≡ verb_word verb ∷ behind
  pub says : Says verb behind (event_of event)
  pub after : new ≡ record old { events = old.events ++ event ∷ [] }

-- a post
pub record AddsPost (old : Reading) (words : List (List ℕ)) (new : Reading) : Type 0 where
  pub behind : List (List ℕ)
  pub event : Event
  pub are : words ≡ codes "post" ∷ behind
  pub says : SaysPost old.servers old.added behind (event_of event)
  pub after : new ≡ record old { events = old.events ++ event ∷ [] }

-- the addition of a record, by whose type posts are read from now on
pub record AddsAdd (old : Reading) (words : List (List ℕ)) (new : Reading) : Type 0 where
  pub behind : List (List ℕ)
  pub event : Event
  pub server : ℕ
  pub r : RecordState
  pub more : Added
  pub are : words ≡ codes "add" ∷ behind
  pub says : SaysAdd behind server r
  pub is : event_of event ≡ world.Add server r
  pub typed : types.Adds server r.name (base_of r.value) old.added more
  pub after : new ≡ record old { events = old.events ++ event ∷ []; added = more }

-- from old, a line of these words leads to new
abbrev pub Adds : Reading → List (List ℕ) → Reading → Type 0
Adds old words new =
    AddsClient old words new
    ⊎ (AddsServer old words new
    ⊎ (AddsTo old words new
    ⊎ (AddsEvent old words new ⊎ (AddsPost old words new ⊎ AddsAdd old words new))))

-- and these lines in a row
abbrev pub AddsAll : Reading → List (List ℕ) → Reading → Type 0
AddsAll old lines new = Lead Adds old lines new

-- The text says this script.
abbrev pub SaysScript : List ℕ → Script → Type 0
SaysScript text s = (added : Added) × AddsAll nothing (lines_of text) (reading s added)

-- A line of the text is not understood after those above it.
pub record IsNoScript (text : List ℕ) : Type 0 where
  pub above : List (List ℕ)
  pub line : List ℕ
  pub below : List (List ℕ)
  pub r : Reading
  pub are : lines_of text ≡ above ++ line ∷ below
  pub reads : AddsAll nothing above r
  pub none : (new : Reading) → Adds r (parted 32 line) new → ⊥

-- Why a script is refused: a line of it is not understood, or there is no memory.
abbrev pub RefusesScript : List ℕ → Refusal → Type 0
RefusesScript text BadText = IsNoScript text
RefusesScript text OutOfMemory = ⊤
RefusesScript text _ = ⊥
