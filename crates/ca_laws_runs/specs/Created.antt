-- Working: the replies by which channels were created on a circuit, and what
-- its client has of them.
use Rattle.std.specs.Prelude.{ℕ, ◌≡◌, ◌<◌, ◌%◌, ◌⊎◌, length, true}
use Rattle.ca_text.specs.declared.command.Command.TheVariants as command
use Rattle.ca_text.specs.Limits.{arena_slots}
use Rattle.ca_text.specs.Place.{At}
use Rattle.ca_model.specs.History.{Reply, Sent, Step, Told}
use Rattle.ca_model.specs.Speech.{Creates, In, Is}
use Rattle.ca_model.specs.World.{Creation, Joined, World}
use Rattle.ca_laws_parts.specs.Sids.{IsClearedWithin}

-- Each reply by which a channel was created is about a CREATE_CHAN that was handled, and no two are
-- about the same. Between two under SIDs of one index the client cleared the first SID. While the
-- server's end is open, the channel is noted as open, or a CLEAR_CHANNEL of the SID was handled
-- since. Such a reply was sent before any later message was handled; and an EVENT_CANCEL is
-- confirmed, and a message refused by an ERROR, at once as it is handled. Such a reply has the CID
-- of its CREATE_CHAN; and between two with one CID the client cleared the SID of the first.
pub record CreatedOn (c : Joined) : Type 0 where
  pub about : (i sid : ℕ) (t : Told) → At c.lists.down i t → t.cause ≡ Reply → Creates t.message sid
      → (t.place < length c.lists.handled)
      × ((s : Sent) × At c.lists.up t.place s × Is command.CreateChannel s.message)
  pub once : (i j sid other : ℕ) (t u : Told) → At c.lists.down i t → At c.lists.down j u
      → t.cause ≡ Reply → u.cause ≡ Reply
      → Creates t.message sid → Creates u.message other → t.place ≡ u.place → i ≡ j
  pub apart : (i j sid other : ℕ) (t u : Told) → i < j → At c.lists.down i t → At c.lists.down j u
      → t.cause ≡ Reply → u.cause ≡ Reply
      → Creates t.message sid → Creates u.message other → sid % arena_slots ≡ other % arena_slots
      → (t.place < u.place) × IsClearedWithin c.lists.up sid t.place u.place
  pub noted : (i sid : ℕ) (t : Told) → c.lists.server_open ≡ true → At c.lists.down i t
      → t.cause ≡ Reply → Creates t.message sid
      → ((x : Creation) × In c.creations x × (x.sid ≡ sid) × (x.place ≡ t.place))
      ⊎ IsClearedWithin c.lists.up sid t.place (length c.lists.handled)
  pub prompt : (i sid l : ℕ) (t : Told) (h : Step) → At c.lists.down i t → t.cause ≡ Reply
      → Creates t.message sid → t.place < l → At c.lists.handled l h → i < h.sent
  pub copies : (i sid : ℕ) (t : Told) (s : Sent) → At c.lists.down i t → t.cause ≡ Reply
      → Creates t.message sid → At c.lists.up t.place s → t.message.p1 ≡ s.message.p1
  pub owned : (i j sid other : ℕ) (t u : Told) → i < j → At c.lists.down i t → At c.lists.down j u
      → t.cause ≡ Reply → u.cause ≡ Reply
      → Creates t.message sid → Creates u.message other → t.message.p1 ≡ u.message.p1
      → (t.place < u.place) × IsClearedWithin c.lists.up sid t.place u.place
  pub confirms : (i : ℕ) (t : Told) → At c.lists.down i t → t.cause ≡ Reply
      → Is command.EventAdd t.message → (h : Step) × At c.lists.handled t.place h × (h.sent ≡ i)
  pub refuses : (i : ℕ) (t : Told) → At c.lists.down i t → t.cause ≡ Reply
      → Is command.Error t.message → (h : Step) × At c.lists.handled t.place h × (h.sent ≡ i)

-- So it is on each circuit.
abbrev pub AllCreated : World → Type 0
AllCreated w = (n : ℕ) (c : Joined) → At w.circuits n c → CreatedOn c
