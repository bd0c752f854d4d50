-- Working: of the statement's clause of what servers act on, when a channel is told to be bad.
use Rattle.std.specs.Prelude.{ℕ, List, take}
use Rattle.ca_requests.specs.Meaning.{Means}
use Rattle.ca_text.specs.Place.{At}
use Rattle.ca_wire.specs.Fields.{Fields}
use Rattle.ca_model.specs.History.{Circuit, Entry, Line, Removed, Sent, Step}
use Rattle.ca_model.specs.Speech.{In}
use Rattle.ca_model.specs.Updates.{Shows}
use Rattle.ca_model.specs.Channels.{IsReply, IsUse, OfCircuits}
use Rattle.ca_model.specs.Headline.{IsBadChannel}
use Rattle.ca_model.specs.Causes.{Acted}
use Rattle.ca_model.specs.Known.{IsDue}
use Rattle.ca_model.specs.World.{World, port_of, rules_of, told}

-- The reply at place j reports BADCHID of the message at place k.
abbrev pub TellsBad : World → Circuit → (k j : ℕ) → Type 0
TellsBad w c k j = IsBadChannel (IsDue (port_of w) (rules_of w)) Shows Means c k j

-- BADCHID answers a message only if the record on which it was handled had been removed; and then
-- it answers each use of that.
abbrev pub AreRetired : World → Type 0
AreRetired w = OfCircuits (told w) (λ (n : ℕ) (c : Circuit) (x : List Line) (y : List Entry).
    (k j r : ℕ) (h : Step) → TellsBad w c k j → Acted c y k r → At c.handled k h
    → In (take h.logged y) (Removed r))

abbrev pub AreRefused : World → Type 0
AreRefused w = OfCircuits (told w) (λ (n : ℕ) (c : Circuit) (x : List Line) (y : List Entry).
    (k j r : ℕ) (m : Fields) (s : Sent) (h : Step) → IsReply c k j m → At c.up k s → IsUse s.intent
    → Acted c y k r → At c.handled k h
    → In (take h.logged y) (Removed r) → TellsBad w c k j)
