-- Working: what is made of a message that was read. No clause of a caller needs it.
use Rattle.std.specs.Prelude.{ℕ, ◌≡◌, ◌==◌, ◌⊎◌, false, List, Option, Result, Ok, Err}
use Rattle.std.specs.List.{list_any}
use Rattle.std.specs.declared.alloc.AllocError.{AllocError}
use Rattle.ca_text.specs.Command.{command_number}
use Rattle.ca_text.specs.declared.command.Command.{Command}
use Rattle.ca_text.specs.declared.command.Command.TheVariants as command
use Rattle.ca_arena.specs.declared.handle.Handle.{Handle}
use Rattle.ca_dbr.specs.declared.value.Outcome.{Outcome}
use Rattle.ca_wire.specs.Fields.{Fields}
use Rattle.ca_wire.specs.declared.reading.Head.{Head}
use Rattle.ca_model.specs.Answers as notice
use Rattle.ca_model.specs.Client.{Client}
use Rattle.ca_model.specs.ClientEnds.{TakesMemory}
use Rattle.ca_model.specs.Hears.{Effect, Hears, understood}
use Rattle.ca_client_core.specs.First.{first_on, without_first}
use Rattle.ca_client_core.specs.Hearing.{HearsReply}

-- the command of a reply
abbrev pub IsReply : ℕ → Type 0
IsReply n = (n ≡ command_number command.ReadNotify) ⊎ (n ≡ command_number command.WriteNotify)

-- a command that a client does not understand
abbrev pub IsOther : ℕ → Type 0
IsOther n = list_any (λ (k : Command). n == command_number k) understood ≡ false

-- A message that was read on this circuit had its effect; or there was no memory for it,
-- which changed nothing.
abbrev pub HearsOr : Client → Handle → Fields → Result (List notice.Notice) AllocError → Client
    → Type 0
HearsOr old c m (Ok told) new = (e : Effect) × Hears old c m e × (told ≡ e.notices) × (new ≡ e.core)
HearsOr old c m (Err _) new = (e : Effect) × Hears old c m e × TakesMemory old m e × (new ≡ old)

-- The first message on this circuit, which has this header, was taken and had its effect; or
-- there was no memory for it, which left it there, or took it and changed nothing else.
abbrev pub HearsFirst : Client → Handle → Head → Result (List notice.Notice) AllocError → Client
    → Type 0
HearsFirst old c head (Ok told) new =
    HearsOr (without_first c head old) c (first_on old c head) (Ok told) new
HearsFirst old c head (Err _) new =
    (e : Effect) × Hears (without_first c head old) c (first_on old c head) e
    × TakesMemory old (first_on old c head) e
    × ((new ≡ old) ⊎ (new ≡ without_first c head old))

-- That message, a reply, was taken and completed its request; or there was no memory for its value,
-- which left it there.
abbrev pub HearsFirstReply : Client → Handle → Head → Result (Option (Handle × Outcome)) AllocError
    → Client → Type 0
HearsFirstReply old c head (Ok told) new =
    HearsReply (without_first c head old) c (first_on old c head) (Ok told) new
HearsFirstReply old c head (Err e) new = HearsReply old c (first_on old c head) (Err e) new
