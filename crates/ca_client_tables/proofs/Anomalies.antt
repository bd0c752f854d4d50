-- The address of a beacon's server.
use Rattle.std.proofs.Common.{◌≡◌, ◌∙◌, ℕ, ◌<◌, ◌^◌, Option, ap, w32}
use Rattle.std.specs.Int.{from_be_bytes}
use Rattle.std.specs.FinMap as finite
use Rattle.std.specs.declared.net.ipv4_addr.Ipv4Addr.{Ipv4Addr}
use Rattle.std.specs.Net.Addr.{IsIpv4OfBits, ipv4_bits}
use Rattle.std.proofs.lemmas.Nat.{from_be_bytes-to_be_bytes_4}
use Rattle.ca_beacon.specs.Table.{Servers, noted, restored, server}
use Rattle.ca_beacon.proofs.Tables.{noted-back}
use Rattle.ca_wire.specs.Fields.{Fields}
use Rattle.ca_model.specs.ClientEnds.{beacon_server}
use Rattle.ca_model.specs.Ends.{Address}
use Rattle.ca_client_tables.specs.Receiving.{beacon_host}

-- a beacon's server, by its address and its port
pub server-is : (from : Address) (m : Fields) (bits port : ℕ) → bits ≡ beacon_host from m → port ≡ m.count → server bits port ≡ beacon_server from m
server-is from m bits port is of =
    ap (λ (h : ℕ). server h port) is
    ∙ ap (λ (p : ℕ). server (beacon_host from m) p) of

-- the address of a number has that number
pub bits-back : (a : Ipv4Addr) (n : ℕ) → n < 2 ^ 32 → IsIpv4OfBits a n → ipv4_bits a ≡ n
unfolding IsIpv4OfBits ipv4_bits
bits-back a n fits is = ap (from_be_bytes w32) is ∙ from_be_bytes-to_be_bytes_4 n fits

-- a beacon that was heard, and is taken back
pub heard-back : (t new : Servers) (s number : ℕ) (before : Option ℕ) → before ≡ finite.get t s → new ≡ noted t s number → restored new s before ≡ t
heard-back t new s number before was is =
    ap (λ (u : Servers). restored u s before) is
    ∙ ap (λ (o : Option ℕ). restored (noted t s number) s o) was
    ∙ noted-back t s number
