-- Which beacons are anomalies.
use Rattle.std.specs.Prelude.{ℕ, ◌≡◌, ◌+◌, ◌*◌, ◌%◌, ◌^◌, ◌<◌, ◌≤◌, ◌||◌, Bool, true, not, nat_eq}
use Rattle.std.specs.Prelude.{nat_lt, if◌then◌else◌, List, length, is_some, Option, None, Some}
use Rattle.std.specs.Prelude.{Result, Ok, Err}
use Rattle.std.specs.Ordering.{nat_cmp}
use Rattle.std.specs.FinMap as map
use Rattle.ca_text.specs.Limits.{beacon_servers}
use Rattle.ca_text.specs.declared.refusal.Refusal.{Refusal}
use Rattle.ca_text.specs.declared.refusal.Refusal.TheVariants.{OutOfMemory}

-- the server of an IPv4 address and a port, as one number
abbrev pub server : ℕ → ℕ → ℕ
server address port = address * 65536 + port

-- from each server to the number of its last beacon
abbrev pub Servers : Type 0
Servers = map.FinMap nat_cmp ℕ

-- A beacon of this number is an anomaly if its server is not known, or the number is not one more,
-- modulo 2^32, than the last.
abbrev pub anomaly : Option ℕ → ℕ → Bool
anomaly None number = true
anomaly (Some last) number = not (nat_eq number ((last + 1) % 2 ^ 32))

-- the table after a beacon: a server beyond the limit is not kept
abbrev pub noted : Servers → ℕ → ℕ → Servers
noted old s number =
    if is_some (map.get old s) || nat_lt (map.len old) beacon_servers then map.insert old s number
    else old

-- Hearing this number of this server, with this answer, leaves new. Only a server that is
-- kept again takes memory.
abbrev pub Hears : Servers → ℕ → ℕ → Result Bool Refusal → Servers → Type 0
Hears old s number (Ok told) new =
    (told ≡ anomaly (map.get old s) number) × (new ≡ noted old s number)
Hears old s number (Err OutOfMemory) new =
    (map.get old s ≡ None) × (map.len old < beacon_servers) × (new ≡ old)
Hears old s number (Err _) new = ⊥

-- the table in which the last number of a server is again this one, or none; of a server that is
-- not kept there is none
abbrev pub restored : Servers → ℕ → Option ℕ → Servers
restored t s None = map.remove t s
restored t s (Some number) = if is_some (map.get t s) then map.insert t s number else t

-- no server stands twice, and there are no more than may be
pub record IsTable (entries : List (ℕ × ℕ)) : Type 0 where
  pub once : map.len (map.from_entries {R = nat_cmp} entries) ≡ length entries
  pub within : length entries ≤ beacon_servers
