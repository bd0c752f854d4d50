-- Vocabulary: the lines of clients and servers, after their first words.
use Rattle.std.specs.Prelude.{ℕ, ◌≡◌, ◌<◌, ◌≤◌, List, ◌∷◌, length}
use Rattle.ca_text.specs.Limits.{arena_slots}
use Rattle.ca_model.specs.ClientEnds.{distinct}
use Rattle.ca_model.specs.Ends.{Address, NamesFit}
use Rattle.ca_model.specs.World.{ClientSetting}
use Rattle.ca_script.specs.Grammar.{parted}
use Rattle.ca_script.specs.Lines.{AreEach, SaysServer}

-- a word is an address, `A.B.C.D:PORT`, as in the line of a server
abbrev pub IsAddress : List ℕ → Address → Type 0
IsAddress word a = SaysServer (parted 32 word) a.host a.port

-- `client USER HOST A.B.C.D:PORT ..`: messages can carry the names, and there are no more different
-- name servers than circuits may be
pub record SaysClient (words : List (List ℕ)) (c : ClientSetting) : Type 0 where
  pub names : List (List ℕ)
  pub are : words ≡ c.peer.user ∷ c.peer.host ∷ names
  pub some : (0 < length c.peer.user) × (0 < length c.peer.host)
  pub fits : NamesFit c.peer
  pub addresses : AreEach IsAddress names c.name_servers
  pub few : length (distinct c.name_servers) ≤ arena_slots
