-- Vocabulary: what both ends of a circuit have in common (section "Virtual Circuit").
use Rattle.std.specs.Prelude.{ℕ, ◌<◌, ◌==◌, ◌&&◌, Bool, List, length}
use Rattle.ca_text.specs.declared.refusal.Refusal.{Refusal}
use Rattle.ca_text.specs.declared.refusal.Refusal.TheVariants as refusal
use Rattle.ca_text.specs.Limits.{payload_limit}

-- an IPv4 address and a port
pub record Address : Type 0 where
  pub host : ℕ
  pub port : ℕ

-- both are one address
abbrev pub same_address : Address → Address → Bool
same_address a b = a.host == b.host && a.port == b.port

-- a client as it names itself ("CA_PROTO_CLIENT_NAME", "CA_PROTO_HOST_NAME")
pub record Peer : Type 0 where
  pub user : List ℕ
  pub host : List ℕ

-- Each of its names has room in the payload of a message, with the zero at its end.
abbrev pub NamesFit : Peer → Type 0
NamesFit p = (length p.user < payload_limit) × (length p.host < payload_limit)

-- Why an end of a circuit ended: out of memory, a payload size that is no multiple of 8 or over the
-- limit, a silence that was too long, the caller's wish, or a cut.
pub data Why : Type 0 where
  OutOfMemory Misaligned TooLarge Silence Asked Cut : Why

-- the end of a circuit on which a header earns this refusal
abbrev pub why_of : Refusal → Why
why_of refusal.Misaligned = Misaligned
why_of _ = TooLarge
