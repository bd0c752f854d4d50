-- Vocabulary: the lines of events, after their first words.
use Rattle.std.specs.Prelude.{ℕ, ◌≡◌, ◌<◌, Bool, true, false, if◌then◌else◌, List, [], ◌∷◌, length}
use Rattle.std.specs.Prelude.{codes}
use Rattle.ca_text.specs.Mask.{HasEvent}
use Rattle.ca_dbr.specs.Elements.{Elements, base_of}
use Rattle.ca_dbr.specs.Types.{base_number}
use Rattle.ca_model.specs.Ends.{Address}
use Rattle.ca_model.specs.Events.{Event}
use Rattle.ca_model.specs.Events as event
use Rattle.ca_records.specs.Record.{RecordState, unset}
use Rattle.ca_script.specs.Grammar.{AreNumbers, IsNumber}
use Rattle.ca_script.specs.Lines.{AreElements, IsHex, slow_word, type_word}
use Rattle.ca_world_script.specs.Lines.{IsAddress}
use Rattle.ca_world_script.specs.Types.{Added, HasType}
use Rattle.ca_model.specs.World.{ServerSetting}
use Rattle.ca_world_script.specs.declared.verb.Verb.{Verb}
use Rattle.ca_world_script.specs.declared.verb.Verb.TheVariants as verb

-- the first word of a line
abbrev pub verb_word : Verb → List ℕ
verb_word verb.Open = codes "open"
verb_word verb.Clear = codes "clear"
verb_word verb.Read = codes "read"
verb_word verb.Write = codes "write"
verb_word verb.WriteNotify = codes "write_notify"
verb_word verb.Subscribe = codes "subscribe"
verb_word verb.Unsubscribe = codes "unsubscribe"
verb_word verb.Collect = codes "collect"
verb_word verb.GiveUp = codes "give_up"
verb_word verb.Datagram = codes "dgram"
verb_word verb.Accept = codes "accept"
verb_word verb.Up = codes "up"
verb_word verb.Down = codes "down"
verb_word verb.ServerStep = codes "sstep"
verb_word verb.ClientStep = codes "cstep"
verb_word verb.Pump = codes "pump"
verb_word verb.Cut = codes "cut"
verb_word verb.ClientRestart = codes "crestart"
verb_word verb.ServerRestart = codes "srestart"
verb_word verb.Finish = codes "finish"
verb_word verb.Remove = codes "remove"
verb_word verb.Tick = codes "tick"

-- the word for an end
abbrev pub end_word : (client : Bool) → List ℕ
end_word true = codes "client"
end_word false = codes "server"

-- a number is a mask: it has one of the four bits
abbrev pub IsMask : ℕ → Type 0
IsMask n = (n < 65536) × HasEvent n

-- `open C NAME PRIORITY`
pub record SaysOpen (words : List (List ℕ)) (e : Event) : Type 0 where
  pub first : List ℕ
  pub last : List ℕ
  pub client : ℕ
  pub name : List ℕ
  pub priority : ℕ
  pub are : words ≡ first ∷ name ∷ last ∷ []
  pub of : IsNumber first client
  pub some : 0 < length name
  pub level : IsNumber last priority
  pub is : e ≡ event.Open client name priority

-- `subscribe C CH TYPE COUNT MASK`
pub record SaysSubscribe (words : List (List ℕ)) (e : Event) : Type 0 where
  pub client : ℕ
  pub channel : ℕ
  pub data_type : ℕ
  pub count : ℕ
  pub mask : ℕ
  pub are : AreNumbers words (client ∷ channel ∷ data_type ∷ count ∷ mask ∷ [])
  pub selects : IsMask mask
  pub is : e ≡ event.Subscribe client channel data_type count mask

-- `finish S RECORD`, `remove S RECORD`: a server's number and a name, which may be any word
pub record SaysNamed (words : List (List ℕ)) (r : ℕ × List ℕ) : Type 0 where
  pub first : List ℕ
  pub are : words ≡ first ∷ r.1 ∷ []
  pub of : IsNumber first r.0
  pub some : 0 < length r.1

-- `write C CH TYPE V..`, `write_notify C CH TYPE V..`: the numbers of a client and a channel, and
-- values of the type of this number
pub record SaysWritten (words : List (List ℕ)) (r : ℕ × ℕ × Elements) : Type 0 where
  pub first : List ℕ
  pub second : List ℕ
  pub third : List ℕ
  pub values : List (List ℕ)
  pub are : words ≡ first ∷ second ∷ third ∷ values
  pub of : IsNumber first r.0 × IsNumber second r.1
  pub kind : IsNumber third (base_number (base_of r.2))
  pub reads : AreElements values r.2

-- `dgram client C FROM HEX`, `dgram server S FROM HEX`
pub record SaysDatagram (words : List (List ℕ)) (e : Event) : Type 0 where
  pub at_client : Bool
  pub number : List ℕ
  pub sender : List ℕ
  pub digits : List ℕ
  pub to : ℕ
  pub from : Address
  pub bytes : List ℕ
  pub are : words ≡ end_word at_client ∷ number ∷ sender ∷ digits ∷ []
  pub of : IsNumber number to
  pub some : (0 < length sender) × (0 < length digits)
  pub comes : IsAddress sender from
  pub hex : IsHex digits bytes
  pub is : e ≡
      (if at_client then event.ClientDatagram to from bytes else event.ServerDatagram to from bytes)

-- `cut K client|server`
pub record SaysCut (words : List (List ℕ)) (e : Event) : Type 0 where
  pub first : List ℕ
  pub at_client : Bool
  pub circuit : ℕ
  pub are : words ≡ first ∷ end_word at_client ∷ []
  pub of : IsNumber first circuit
  pub is : e ≡ (if at_client then event.CutClient circuit else event.CutServer circuit)

-- these words after this verb say this event
abbrev pub Says : Verb → List (List ℕ) → Event → Type 0
Says verb.Open words e = SaysOpen words e
Says verb.Clear words (event.Clear client channel) = AreNumbers words (client ∷ channel ∷ [])
Says verb.Read words (event.Read client channel data_type count) =
    AreNumbers words (client ∷ channel ∷ data_type ∷ count ∷ [])
Says verb.Write words (event.Write client channel value) =
    SaysWritten words (client, channel, value)
Says verb.WriteNotify words (event.WriteNotify client channel value) =
    SaysWritten words (client, channel, value)
Says verb.Subscribe words e = SaysSubscribe words e
Says verb.Unsubscribe words (event.Unsubscribe client subscription) =
    AreNumbers words (client ∷ subscription ∷ [])
Says verb.Collect words (event.Collect client request) = AreNumbers words (client ∷ request ∷ [])
Says verb.GiveUp words (event.GiveUp client request) = AreNumbers words (client ∷ request ∷ [])
Says verb.Datagram words e = SaysDatagram words e
Says verb.Accept words (event.Accept client) = AreNumbers words (client ∷ [])
Says verb.Up words (event.Up circuit n) = AreNumbers words (circuit ∷ n ∷ [])
Says verb.Down words (event.Down circuit n) = AreNumbers words (circuit ∷ n ∷ [])
Says verb.ServerStep words (event.ServerStep circuit) = AreNumbers words (circuit ∷ [])
Says verb.ClientStep words (event.ClientStep circuit) = AreNumbers words (circuit ∷ [])
Says verb.Pump words (event.Pump circuit) = AreNumbers words (circuit ∷ [])
Says verb.Cut words e = SaysCut words e
Says verb.ClientRestart words (event.ClientRestart client) = AreNumbers words (client ∷ [])
Says verb.ServerRestart words (event.ServerRestart server) = AreNumbers words (server ∷ [])
Says verb.Finish words (event.Finish server name) = SaysNamed words (server, name)
Says verb.Remove words (event.Remove server name) = SaysNamed words (server, name)
Says verb.Tick words (event.Tick moment) = AreNumbers words (moment ∷ [])
Says _ words _ = ⊥

-- `post S RECORD MASK V..`: the values are of the type that the last line above gives the record
pub record SaysPost (servers : List ServerSetting) (added : Added) (words : List (List ℕ))
    (e : Event) : Type 0 where
  pub first : List ℕ
  pub name : List ℕ
  pub third : List ℕ
  pub values : List (List ℕ)
  pub server : ℕ
  pub mask : ℕ
  pub value : Elements
  pub are : words ≡ first ∷ name ∷ third ∷ values
  pub of : IsNumber first server
  pub some : 0 < length name
  pub bits : IsNumber third mask
  pub selects : IsMask mask
  pub typed : HasType servers added server name (base_of value)
  pub reads : AreElements values value
  pub is : e ≡ event.Post server name value mask

-- `add S NAME TYPE COUNT quick|slow V..`: any word is a name here, and any number a count
pub record SaysAdd (words : List (List ℕ)) (server : ℕ) (r : RecordState) : Type 0 where
  pub first : List ℕ
  pub number : List ℕ
  pub values : List (List ℕ)
  pub are : words ≡ first ∷ r.name ∷ type_word
      (base_of r.value) ∷ number ∷ slow_word r.slow ∷ values
  pub of : IsNumber first server
  pub some : 0 < length r.name
  pub counts : IsNumber number r.count
  pub reads : AreElements values r.value
  pub meta : r.meta ≡ unset
