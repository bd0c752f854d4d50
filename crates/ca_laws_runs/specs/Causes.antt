-- Statement: what servers sent, beside the messages that it is about.
use Rattle.std.specs.Prelude.{ℕ, ◌≡◌, ◌≤◌, List}
use Rattle.ca_text.specs.declared.command.Command.TheVariants as command
use Rattle.ca_text.specs.Place.{At}
use Rattle.ca_model.specs.History.{Circuit, Entry, Line, Removal, Reply, Sent, Step, Told}
use Rattle.ca_model.specs.Speech.{Is}
use Rattle.ca_wire.specs.Messages.{error_reply}
use Rattle.ca_model.specs.Channels.{OfCircuits}
use Rattle.ca_model.specs.World.{Joined, World, told}

-- Each message of the server was sent in the step that handled what it is about, or after it.
abbrev pub ComeAfter : Circuit → Type 0
ComeAfter c =
    (j : ℕ) (t : Told) → At c.down j t → (h : Step) × At c.handled t.place h × (h.sent ≤ j)

-- No two SERVER_DISCONNs are about one message.
abbrev pub AreRemovedOnce : Circuit → Type 0
AreRemovedOnce c =
    (i j : ℕ) (t u : Told) → At c.down i t → At c.down j u → t.place ≡ u.place → t.cause ≡ Removal
    → u.cause ≡ Removal → i ≡ j

-- No two ERRORs are about one message. Each quotes the message that it is about.
abbrev pub AreRefusedOnce : Circuit → Type 0
AreRefusedOnce c =
    (i j : ℕ) (t u : Told) → At c.down i t → At c.down j u → t.place ≡ u.place → t.cause ≡ Reply
    → u.cause ≡ Reply
    → Is command.Error t.message → Is command.Error u.message → i ≡ j

abbrev pub ErrorsQuote : Circuit → Type 0
ErrorsQuote c = (i : ℕ) (t : Told) → At c.down i t → t.cause ≡ Reply → Is command.Error t.message
    → (s : Sent) × (cid status : ℕ) × At c.up t.place s
    × (t.message ≡ error_reply cid status s.message)

-- So it is on each circuit of a world.
abbrev pub AllComeAfter : World → Type 0
AllComeAfter w = (n : ℕ) (c : Joined) → At w.circuits n c → ComeAfter c.lists

abbrev pub AllRemovedOnce : World → Type 0
AllRemovedOnce w = (n : ℕ) (c : Joined) → At w.circuits n c → AreRemovedOnce c.lists

-- And in the words of the statement.
abbrev pub MessagesComeAfter : World → Type 0
MessagesComeAfter w =
    OfCircuits (told w) (λ (n : ℕ) (c : Circuit) (x : List Line) (y : List Entry). ComeAfter c)

abbrev pub ChannelsAreRemovedOnce : World → Type 0
ChannelsAreRemovedOnce w =
    OfCircuits (told w) (λ (n : ℕ) (c : Circuit) (x : List Line) (y : List Entry). AreRemovedOnce c)

abbrev pub MessagesAreRefusedOnce : World → Type 0
MessagesAreRefusedOnce w =
    OfCircuits (told w) (λ (n : ℕ) (c : Circuit) (x : List Line) (y : List Entry). AreRefusedOnce c)

abbrev pub ErrorsQuoteTheirOwn : World → Type 0
ErrorsQuoteTheirOwn w =
    OfCircuits (told w) (λ (n : ℕ) (c : Circuit) (x : List Line) (y : List Entry). ErrorsQuote c)
