-- The numbers and names of refusals.
use Rattle.std.specs.Prelude.{ℕ, List, [], ◌++◌, codes, decimal}
use Rattle.ca_text.specs.declared.refusal.Refusal.{Refusal}
use Rattle.ca_text.specs.declared.refusal.Refusal.TheVariants.{OutOfMemory, Misaligned, TooLarge}
use Rattle.ca_text.specs.declared.refusal.Refusal.TheVariants.{BadType, Short, NoConvert}
use Rattle.ca_text.specs.declared.refusal.Refusal.TheVariants.{OutOfRange, BadText, ArenaFull}
use Rattle.ca_text.specs.declared.refusal.Refusal.TheVariants.{StaleHandle, Draining, NameLength}
use Rattle.ca_text.specs.declared.refusal.Refusal.TheVariants.{NotLive, NoAccess, BadCount}
use Rattle.ca_text.specs.declared.refusal.Refusal.TheVariants.{Disconnected, CircuitClosed}
use Rattle.ca_text.specs.declared.refusal.Refusal.TheVariants.{TooManySubscriptions}
use Rattle.ca_text.specs.declared.refusal.Refusal.TheVariants.{DatagramTooLong, UnknownRecord}
use Rattle.ca_text.specs.declared.refusal.Refusal.TheVariants.{NotBusy, BadEvent, Device, NoCell}
use Rattle.ca_text.specs.declared.refusal.Refusal.TheVariants.{BadPriority, OutputFull}
use Rattle.ca_text.specs.declared.refusal.Refusal.TheVariants.{ServerRefused, RecordExists}

-- the number that a program prints first
abbrev pub refusal_number : Refusal → ℕ
refusal_number OutOfMemory = 1
refusal_number Misaligned = 2
refusal_number TooLarge = 3
refusal_number BadType = 4
refusal_number Short = 5
refusal_number NoConvert = 6
refusal_number OutOfRange = 7
refusal_number BadText = 8
refusal_number ArenaFull = 9
refusal_number StaleHandle = 10
refusal_number Draining = 11
refusal_number NameLength = 12
refusal_number NotLive = 13
refusal_number NoAccess = 14
refusal_number BadCount = 15
refusal_number Disconnected = 16
refusal_number CircuitClosed = 17
refusal_number TooManySubscriptions = 18
refusal_number DatagramTooLong = 19
refusal_number UnknownRecord = 20
refusal_number NotBusy = 21
refusal_number BadEvent = 22
refusal_number Device = 23
refusal_number NoCell = 24
refusal_number BadPriority = 25
refusal_number OutputFull = 26
refusal_number (ServerRefused _) = 27
refusal_number RecordExists = 28

-- the name that it prints after it
abbrev pub refusal_name : Refusal → List ℕ
refusal_name OutOfMemory = codes "OutOfMemory"
refusal_name Misaligned = codes "Misaligned"
refusal_name TooLarge = codes "TooLarge"
refusal_name BadType = codes "BadType"
refusal_name Short = codes "Short"
refusal_name NoConvert = codes "NoConvert"
refusal_name OutOfRange = codes "OutOfRange"
refusal_name BadText = codes "BadText"
refusal_name ArenaFull = codes "ArenaFull"
refusal_name StaleHandle = codes "StaleHandle"
refusal_name Draining = codes "Draining"
refusal_name NameLength = codes "NameLength"
refusal_name NotLive = codes "NotLive"
refusal_name NoAccess = codes "NoAccess"
refusal_name BadCount = codes "BadCount"
refusal_name Disconnected = codes "Disconnected"
refusal_name CircuitClosed = codes "CircuitClosed"
refusal_name TooManySubscriptions = codes "TooManySubscriptions"
refusal_name DatagramTooLong = codes "DatagramTooLong"
refusal_name UnknownRecord = codes "UnknownRecord"
refusal_name NotBusy = codes "NotBusy"
refusal_name BadEvent = codes "BadEvent"
refusal_name Device = codes "Device"
refusal_name NoCell = codes "NoCell"
refusal_name BadPriority = codes "BadPriority"
refusal_name OutputFull = codes "OutputFull"
refusal_name (ServerRefused _) = codes "ServerRefused"
refusal_name RecordExists = codes "RecordExists"

-- the status of the server, if it has one
abbrev pub reason : Refusal → List ℕ
reason (ServerRefused status) = codes " " ++ decimal status.number
reason _ = []

-- what it prints: its number, its name, and the server's status if it has one
abbrev pub refusal_text : Refusal → List ℕ
refusal_text r = decimal (refusal_number r) ++ codes " " ++ refusal_name r ++ reason r
