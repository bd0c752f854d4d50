-- Working: what the SIDs in a client's messages mean on one circuit, by its two lists.
use Rattle.std.specs.Prelude.{ℕ, ◌≡◌, ◌<◌, ◌≤◌, List, length}
use Rattle.ca_text.specs.Place.{At}
use Rattle.ca_model.specs.Speech.{Clears, Creates, sid_in}
use Rattle.ca_model.specs.History.{Ask, Create, On, Reply, Sent, Told, Step, Circuit}

-- Between these two places the client sent a CLEAR_CHANNEL of this SID.
abbrev pub IsClearedWithin : List Sent → (sid a b : ℕ) → Type 0
IsClearedWithin up sid a b =
    (l : ℕ) × (r : Sent) × (a < l) × (l < b) × At up l r × Clears r.message sid

-- Before place b the channel of this number is live under this SID: its CREATE_CHAN at place k was
-- answered so at place j, the client read that, and sent no CLEAR_CHANNEL of the SID since.
pub record IsLiveBefore (c : Circuit) (channel j k sid b : ℕ) : Type 0 where
  pub t : Told
  pub s : Sent
  pub g : Step
  pub told : At c.down j t × (t.place ≡ k) × (t.cause ≡ Reply) × Creates t.message sid
  pub asked : At c.up k s × (s.intent ≡ On channel Create)
  pub read : At c.heard j g × (g.sent ≤ b)
  pub early : k < b
  pub uncleared : IsClearedWithin c.up sid k b → ⊥

-- The SIDs on one circuit, by its lists.
pub record Sids (c : Circuit) : Type 0 where
  -- steps come in order: what the server had sent when it handled a message was about earlier ones,
  -- and had been sent before
  pub within : length c.heard ≤ length c.down
  pub sent : (p : ℕ) (h : Step) → At c.handled p h → h.sent ≤ length c.down
  pub caused : (i : ℕ) (t : Told) → At c.down i t → t.place < length c.handled
  pub before : (i p : ℕ) (t : Told) (h : Step) → At c.down i t → At c.handled p h → i < h.sent
      → t.place < p
  pub after : (j p : ℕ) (g h : Step) → At c.heard j g → At c.handled p h → g.sent ≤ p → j < h.sent
  -- For `acts` of ActsOnRecord: a message on a channel has the SID under which that was
  -- live when it was sent.
  pub live : (p channel : ℕ) (s : Sent) (ask : Ask) → At c.up p s → s.intent ≡ On channel ask
      → (ask ≡ Create → ⊥)
      → (j k : ℕ) × IsLiveBefore c channel j k (sid_in s.message) p
  -- Between two creations under one SID the first channel was cleared.
  pub apart : (i j sid : ℕ) (t u : Told) → i < j → At c.down i t → At c.down j u
      → Creates t.message sid → Creates u.message sid
      → (t.place < u.place) × IsClearedWithin c.up sid t.place u.place

-- A channel may be created under this SID by a message about place p: each one that was created
-- under it before was cleared before that.
abbrev pub MayCreate : Circuit → (sid p : ℕ) → Type 0
MayCreate c sid p =
    (i : ℕ) (t : Told) → At c.down i t → Creates t.message sid → (t.place < p)
    × IsClearedWithin c.up sid t.place p
