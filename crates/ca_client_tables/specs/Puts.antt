-- Working: a value that has room in a message. No clause of a caller needs it.
use Rattle.std.specs.Prelude.{◌<◌, ◌≤◌, ◌^◌, length}
use Rattle.ca_text.specs.Limits.{payload_limit}
use Rattle.ca_dbr.specs.Elements.{Elements, bytes_of, count_of}

-- the elements can be counted in a message, and are no more bytes than it takes
abbrev pub IsSmall : Elements → Type 0
IsSmall e = (count_of e < 2 ^ 32) × (length (bytes_of e) ≤ payload_limit)
