-- The bytes of a name.
use Rattle.std.specs.Prelude.{ℕ, List}
use Rattle.ca_server_circuit.specs.declared.name.NameBytes.{NameBytes}
use Rattle.ca_server_circuit.specs.declared.name.NameBytes.TheVariants.{Long, Short}

abbrev pub bytes_of : NameBytes → List ℕ
bytes_of (Short bytes) = bytes
bytes_of (Long name) = name.items
