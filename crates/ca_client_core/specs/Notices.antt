-- Vocabulary: the notices of the code as those of the vocabulary.
use Rattle.std.specs.Prelude.{◌≡◌, ◌++◌, List, [], ◌∷◌, Option, Some, None, Result, Ok, Err}
use Rattle.std.specs.Prelude.{filter_map, map}
use Rattle.ca_arena.specs.declared.handle.Handle.{Handle}
use Rattle.ca_dbr.specs.declared.value.Outcome.{Outcome}
use Rattle.ca_dbr.specs.declared.value.Outcome.TheVariants as outcome
use Rattle.ca_client_core.specs.declared.notice.Notice.{Notice}
use Rattle.ca_client_core.specs.declared.notice.Notice.TheVariants as told
use Rattle.ca_model.specs.Answers as notice

abbrev pub notice_of : Notice → notice.Notice
notice_of (told.Live h) = notice.Live h
notice_of (told.Lost h) = notice.Lost h
notice_of (told.Completed q o) = notice.Completed q o
notice_of (told.Update s o) = notice.Update s o
notice_of (told.SubscriptionEnded s status) = notice.SubscriptionEnded s status
notice_of (told.WriteRefused h status) = notice.WriteRefused h status

-- one notice, or none
abbrev pub noticed : Option Notice → List notice.Notice
noticed None = []
noticed (Some n) = notice_of n ∷ []

-- these requests are complete with Disconnected, these channels are lost, and then this one
abbrev pub as_notices : List Handle → List Handle → Option Notice → List notice.Notice
as_notices requests channels last =
    map (λ (q : Handle). notice.Completed q outcome.Disconnected) requests
    ++ (map notice.Lost channels ++ noticed last)

-- the first of the notices was taken
abbrev pub TakesNotice : List notice.Notice → Option Notice → List notice.Notice → Type 0
TakesNotice old None new = (old ≡ []) × (new ≡ [])
TakesNotice old (Some n) new = old ≡ notice_of n ∷ new

-- a request that is complete, and its outcome
abbrev pub Completion : Type 0
Completion = Handle × Outcome

-- the notice of a completion
abbrev pub completed : Completion → notice.Notice
completed c = notice.Completed c.0 c.1

-- the completion that a notice tells, if it tells one
abbrev pub completion : notice.Notice → Option Completion
completion (notice.Completed q o) = Some (q, o)
completion n = None

-- the completions among the notices, in order
abbrev pub completions : List notice.Notice → List Completion
completions ns = filter_map completion ns

-- the first completion was taken, and the other notices stay; or there is none
abbrev pub TakesCompletion : List notice.Notice → Option Completion → List notice.Notice → Type 0
TakesCompletion old None new = (completions old ≡ []) × (new ≡ old)
TakesCompletion old (Some c) new =
    (before after : List notice.Notice) × (old ≡ before ++ completed c ∷ after)
    × (completions before ≡ []) × (new ≡ before ++ after)

-- a notice reports a completion, or it is another
abbrev pub Parts : Notice → Result Completion Notice → Type 0
Parts n (Ok c) = notice_of n ≡ completed c
Parts n (Err other) = (other ≡ n) × (completion (notice_of n) ≡ None)
