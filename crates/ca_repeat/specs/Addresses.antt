-- Addresses of clients and servers.
use Rattle.std.specs.Prelude.{◌/◌, Bool, ◌&&◌, nat_eq, List}
use Rattle.std.specs.List.{list_any}
use Rattle.ca_repeat.specs.declared.address.UdpAddress.{UdpAddress}

abbrev pub same : UdpAddress → UdpAddress → Bool
same a b = nat_eq a.ip b.ip && nat_eq a.port b.port

-- the address is 127.x.x.x
abbrev pub loopback : UdpAddress → Bool
loopback a = nat_eq (a.ip / 0x1000000) 127

abbrev pub is_member : List UdpAddress → UdpAddress → Bool
is_member members a = list_any (λ m. same m a) members
