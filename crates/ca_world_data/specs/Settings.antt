-- Working: what a setting's parts are by themselves.
use Rattle.std.specs.Prelude.{◌≡◌, ◌<◌, ◌≤◌, ◌^◌, ◌++◌, ℕ, Bool, true, false, List, [], ◌∷◌, Ok}
use Rattle.std.specs.Prelude.{Err, Result, length, option_map}
use Rattle.std.specs.List.{list_any}
use Rattle.std.specs.declared.alloc.AllocError.{AllocError}
use Rattle.ca_records.specs.Record.{IsRecord, RecordState}
use Rattle.ca_records.specs.Records.{AreApart}
use Rattle.ca_records.specs.Rules as rules
use Rattle.ca_text.specs.declared.refusal.Refusal.{Refusal}
use Rattle.ca_text.specs.declared.refusal.Refusal.TheVariants as refusal
use Rattle.ca_text.specs.Limits.{arena_slots}
use Rattle.ca_text.specs.Place.{At}
use Rattle.ca_model.specs.ClientEnds.{distinct}
use Rattle.ca_model.specs.Ends.{Address, NamesFit, same_address}
use Rattle.ca_model.specs.World.{ClientSetting, ServerSetting, Setting}
use Rattle.ca_world_data.specs.declared.settings.RuleSetting.{RuleSetting}

-- names fit into a message, and name servers into a table
abbrev pub IsClient : ClientSetting → Type 0
IsClient c = NamesFit c.peer × (length (distinct c.name_servers) ≤ arena_slots)

-- each is a record
abbrev pub AreRecords : List RecordState → Type 0
AreRecords records = (j : ℕ) (r : RecordState) → At records j r → IsRecord r

-- the records are records, and have different names; the port is a port
abbrev pub IsServer : ServerSetting → Type 0
IsServer y = AreRecords y.records × AreApart y.records × (y.address.port < 2 ^ 16)

-- a rule of access
abbrev pub rule_of : RuleSetting → rules.Rule
rule_of r = record {
  user = option_map (λ v. v.items) r.user;
  host = option_map (λ v. v.items) r.host;
  record_name = option_map (λ v. v.items) r.record_name;
  reads = r.reads;
  writes = r.writes;
}

-- ---- how settings are made

-- a client's setting is made: its names fit into a message, and its name servers into a table
abbrev pub MakesClient : ClientSetting → Result ClientSetting Refusal → Type 0
MakesClient s (Ok made) = IsClient s × (made ≡ s)
MakesClient s (Err refusal.NameLength) = NamesFit s.peer → ⊥
MakesClient s (Err refusal.ArenaFull) =
    NamesFit s.peer × (arena_slots < length (distinct s.name_servers))
MakesClient s (Err _) = ⊥

-- one of these servers has this address
abbrev pub is_taken : Address → List ServerSetting → Bool
is_taken a servers = list_any (λ (y : ServerSetting). same_address y.address a) servers

-- a server is added, unless another has its address, or there is no memory
abbrev pub AddsServer : Setting → ServerSetting → Result Bool AllocError → Setting → Type 0
AddsServer old s (Ok true) new =
    (is_taken s.address old.servers ≡ false)
    × (new ≡ record old { servers = old.servers ++ s ∷ [] })
AddsServer old s (Ok false) new = (is_taken s.address old.servers ≡ true) × (new ≡ old)
AddsServer old s (Err e) new = (is_taken s.address old.servers ≡ false) × (new ≡ old)
