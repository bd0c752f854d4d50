-- Working: the set of CIDs beside the channels of a circuit.
use Rattle.std.specs.Prelude.{ℕ, ◌≡◌, ◌≤◌, IfSome, true, Option, Some, None, if◌then◌else◌, length}
use Rattle.std.specs.Prelude.{option_map}
use Rattle.std.specs.Bool.{nat_eq}
use Rattle.std.specs.HashSet.{HashSet, contains}
use Rattle.std.specs.declared.hash.FoldHasher.{FoldHasher}
use Rattle.std.specs.declared.hash.BuildHasherDefault.{BuildHasherDefault}
use Rattle.ca_text.specs.Limits.{arena_slots}
use Rattle.ca_arena.specs.declared.handle.Handle.{Handle}
use Rattle.ca_ids.specs.Table.{Table, same_handle, under}
use Rattle.ca_model.specs.Server.{OpenChannel}

-- an open channel has this CID
abbrev pub UsesCid : Table OpenChannel → ℕ → Type 0
UsesCid t cid = (h : Handle) × (c : OpenChannel) × (under t h ≡ Some c) × (c.cid ≡ cid)

-- the CIDs are those of the open channels, of which no two have one
pub record IsIndexed (t : Table OpenChannel)
    (cids : HashSet ℕ (BuildHasherDefault FoldHasher)) : Type 0 where
  pub sound : (cid : ℕ) → contains nat_eq cids cid ≡ true → UsesCid t cid
  pub complete : (h : Handle) (c : OpenChannel) → under t h ≡ Some c
      → contains nat_eq cids c.cid ≡ true
  pub apart : (g h : Handle) (a b : OpenChannel) → under t g ≡ Some a → under t h ≡ Some b
      → a.cid ≡ b.cid → g ≡ h
  pub limit : length t ≤ arena_slots

-- a channel in front is one of the open ones
abbrev pub IsInFront : Table OpenChannel → Option (Handle × OpenChannel) → Type 0
IsInFront t front = IfSome front (λ e. under t e.0 ≡ Some e.1)

-- what is in front once a channel was opened
abbrev pub come : Handle → Option OpenChannel → Option (Handle × OpenChannel)
    → Option (Handle × OpenChannel)
come h copy (Some e) = Some e
come h copy None = option_map (λ (c : OpenChannel). (h, c)) copy

-- what is in front once the channel of this handle is not
abbrev pub leave : Handle → Option (Handle × OpenChannel) → Option (Handle × OpenChannel)
leave h None = None
leave h (Some e) = if same_handle e.0 h then None else Some e
