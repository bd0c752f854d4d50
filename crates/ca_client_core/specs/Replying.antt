-- Vocabulary: a step that is to read a reply.
use Rattle.std.specs.Prelude.{◌≡◌, ◌∷◌, [], List, Option, Some, None, Result, Ok, Err}
use Rattle.std.specs.declared.alloc.AllocError.{AllocError}
use Rattle.ca_arena.specs.declared.handle.Handle.{Handle}
use Rattle.ca_dbr.specs.declared.value.Outcome.{Outcome}
use Rattle.ca_model.specs.Answers as answer
use Rattle.ca_model.specs.Client.{Client}
use Rattle.ca_model.specs.ClientEnds.{ClientSteps}
use Rattle.ca_client_core.specs.declared.stepping.Reply.{Reply}
use Rattle.ca_client_core.specs.declared.stepping.Reply.TheVariants as reply

-- It was a step; or something else comes first, or there was no memory, and nothing was done.
abbrev pub ReadsReply : Client → Handle → Reply → Client → Type 0
ReadsReply old c (reply.Completed q o) new =
    (sent : List answer.Sending)
    × ClientSteps old c (answer.Notices (answer.Completed q o ∷ [])) sent new
ReadsReply old c reply.Unawaited new =
    (sent : List answer.Sending) × ClientSteps old c (answer.Notices []) sent new
ReadsReply old c reply.NeedBytes new =
    (sent : List answer.Sending) × ClientSteps old c answer.NeedBytes sent new
ReadsReply old c reply.Other new = new ≡ old

-- what became of a reply that came to this
abbrev pub as_reply : Result (Option (Handle × Outcome)) AllocError → Reply
as_reply (Ok (Some (q, o))) = reply.Completed q o
as_reply (Ok None) = reply.Unawaited
as_reply (Err e) = reply.Other
