-- What a repeater sends.
use Rattle.std.specs.Prelude.{ℕ, List}
use Rattle.ca_repeat.specs.declared.address.UdpAddress.{UdpAddress}

pub record Sent : Type 0 where
  pub to : UdpAddress
  pub bytes : List ℕ
