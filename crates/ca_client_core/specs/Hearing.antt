-- Working: parts of what a message that is read does. No clause of a caller needs it.
use Rattle.std.specs.Prelude.{◌≡◌, List, [], ◌∷◌, Option, Some, None, Result, Ok, Err}
use Rattle.std.specs.declared.alloc.AllocError.{AllocError}
use Rattle.ca_arena.specs.declared.handle.Handle.{Handle}
use Rattle.ca_dbr.specs.declared.value.Outcome.{Outcome}
use Rattle.ca_dbr.specs.declared.value.Outcome.TheVariants as outcome
use Rattle.ca_wire.specs.declared.header.Header.{Header}
use Rattle.ca_wire.specs.Fields.{Fields}
use Rattle.ca_requests.specs.Calls.{TakesMemory}
use Rattle.ca_requests.specs.Meaning.{message_of}
use Rattle.ca_requests.specs.Requests.{Request, answered_by}
use Rattle.ca_requests.specs.Requests as request
use Rattle.ca_model.specs.Answers.{Notice}
use Rattle.ca_model.specs.Answers as notice
use Rattle.ca_model.specs.Client.{Client}
use Rattle.ca_model.specs.Client as client
use Rattle.ca_model.specs.Ends.{Address}
use Rattle.ca_model.specs.Hears.{Answers, Effect, Finds, created, doing, left, rights_told}
use Rattle.ca_client_tables.specs.declared.channel.Phase.{Phase}
use Rattle.ca_client_tables.specs.Forms.{phase_of}
use Rattle.ca_client_tables.specs.Finding.{DoesSome}

-- a channel that was found on a circuit
abbrev pub found_as : Handle × Phase → Handle × client.Phase
found_as e = (e.0, phase_of e.1)

-- what a message with this header does to its channel: ACCESS_RIGHTS, CREATE_CHAN, SERVER_DISCONN
abbrev pub rights_by : Client → Handle → Header → Effect
rights_by x c h = rights_told x c (message_of h []) (client.channel_on x c h.p1)

abbrev pub created_by : Client → Handle → Header → Effect
created_by x c h = created x c (message_of h []) (client.channel_on x c h.p1)

abbrev pub left_by : Client → Handle → Header → Effect
left_by x c h = left x c (client.channel_on x c h.p1)

-- the notice of a request that is complete
abbrev pub completed : Option (Handle × Outcome) → List Notice
completed None = []
completed (Some (q, o)) = notice.Completed q o ∷ []

-- a reply was read that is about this request, or about none; without memory for its
-- value nothing happens
abbrev pub HearsReplyTo : Client → Fields → Option (Handle × Request)
    → Result (Option (Handle × Outcome)) AllocError → Client → Type 0
HearsReplyTo old m about (Ok told) new = Answers old m about (doing [] (completed told) new)
HearsReplyTo old m (Some (q, r)) (Err e) new =
    (r.stage ≡ request.Open) × TakesMemory r.asked m × (new ≡ old)
HearsReplyTo old m None (Err e) new = ⊥

-- READ_NOTIFY and WRITE_NOTIFY
abbrev pub HearsReply : Client → Handle → Fields → Result (Option (Handle × Outcome)) AllocError
    → Client → Type 0
HearsReply old c m answer new =
    HearsReplyTo old m (answered_by c m.command m.p2 old.requests) answer new

-- the notice of an update
abbrev pub updated : Option (Handle × Outcome) → List Notice
updated None = []
updated (Some (s, o)) = notice.Update s o ∷ []

-- what an ERROR tells: a plain write was refused on a channel
abbrev pub write_refused : Fields → Option Handle → List Notice
write_refused m None = []
write_refused m (Some h) = notice.WriteRefused h (record { number = m.p2 }) ∷ []

-- a subscription is over
abbrev pub subscription_over : Fields → Option Handle → List Notice
subscription_over m None = []
subscription_over m (Some s) = notice.SubscriptionEnded s (record { number = m.p2 }) ∷ []

-- a request failed
abbrev pub request_over : Fields → Option Handle → List Notice
request_over m None = []
request_over m (Some q) = notice.Completed q (outcome.Failed (record { number = m.p2 })) ∷ []

-- A message had this effect; or there was no memory for it, which changed nothing.
abbrev pub HasEffect : Client → Effect → Result (List Notice) AllocError → Client → Type 0
HasEffect old e (Ok told) new = (told ≡ e.notices) × (new ≡ e.core)
HasEffect old e (Err _) new = DoesSome old e × (new ≡ old)

-- A search reply that came from this address was heard; or there was no memory for it,
-- which changed nothing.
abbrev pub FindsOr : Client → Address → Fields → Result (Unit {0}) AllocError → Client → Type 0
FindsOr old from m (Ok _) new =
    (e : Effect) × Finds old from m e × (e.notices ≡ []) × (new ≡ e.core)
FindsOr old from m (Err _) new = (e : Effect) × Finds old from m e × DoesSome old e × (new ≡ old)
