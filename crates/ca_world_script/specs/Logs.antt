-- The lines of a report.
use Rattle.std.specs.Prelude.{ℕ, Bool, true, false, if◌then◌else◌, List, [], ◌++◌, Option, Some}
use Rattle.std.specs.Prelude.{None, codes, decimal, slice_get, unwrap_or}
use Rattle.std.specs.List.{flat_map}
use Rattle.ca_text.specs.Refusal.{refusal_number}
use Rattle.ca_dbr.specs.declared.value.Outcome.{Outcome}
use Rattle.ca_dbr.specs.declared.value.Outcome.TheVariants as outcome
use Rattle.ca_model.specs.History.{Intent, Line}
use Rattle.ca_model.specs.History as history
use Rattle.ca_script.specs.Report.{counted, outcome_text}

-- the outcome that a line says, if it tells one
abbrev pub told_text : Option Line → List ℕ
told_text (Some (history.Noticed intent o)) = outcome_text o
told_text _ = codes " nothing"

-- the outcome that the line at a place of a log says, or none
abbrev pub found_text : List Line → Option ℕ → List ℕ
found_text log None = codes " nothing"
found_text log (Some place) = told_text (slice_get log place)

-- a status by its number alone
abbrev pub status_text : Outcome → List ℕ
status_text (outcome.Failed status) = counted (codes " ") status.number
status_text o = outcome_text o

-- whether a channel is live
abbrev pub live_text : Outcome → List ℕ
live_text outcome.Done = codes " live "
live_text o = codes " lost "

-- the outcome of an intent: of a channel's creation, of a plain write, of another request,
-- and of a subscription
abbrev pub noticed_text : Intent → Outcome → List ℕ
noticed_text (history.On channel history.Create) o = counted (live_text o) channel
noticed_text (history.On channel (history.Request history.Write n)) o =
    counted (codes " write_refused ") channel ++ status_text o
noticed_text (history.On channel (history.Request history.Read n)) o =
    counted (codes " completed ") n ++ outcome_text o
noticed_text (history.On channel (history.Request history.Put n)) o =
    counted (codes " completed ") n ++ outcome_text o
noticed_text (history.On channel (history.Subscribe n)) o =
    counted (codes " ended ") n ++ status_text o
noticed_text intent o = []

-- an update of a subscription
abbrev pub updated_text : Intent → Outcome → List ℕ
updated_text (history.On channel (history.Subscribe n)) o =
    counted (codes " update ") n ++ outcome_text o
updated_text intent o = []

-- what a line of this log says
abbrev pub entry_text : List Line → Line → List ℕ
entry_text log (history.Noticed intent o) = noticed_text intent o
entry_text log (history.Updated intent o) = updated_text intent o
entry_text log (history.Refused e) = counted (codes " refused ") (refusal_number e)
entry_text log (history.Collected n place) = counted (codes " collected ") n ++ found_text log place
entry_text log (history.GaveUp n place) = counted (codes " gave_up ") n ++ found_text log place
entry_text log line = []

-- a call that was accepted has no line
abbrev pub is_shown : Line → Bool
is_shown (history.Opened n name) = false
is_shown (history.Called intent asks) = false
is_shown line = true

-- a line: the client's number, what happened, and a line feed
abbrev pub line_text : ℕ → List Line → Line → List ℕ
line_text client log line =
    if is_shown line then decimal client ++ (entry_text log line ++ codes "\n") else []

-- the lines of a log
abbrev pub log_text : ℕ → List Line → List ℕ
log_text client log = flat_map (line_text client log) log

-- the lines of a life of a client, by the logs of all lives
abbrev pub life_text : ℕ → List (List Line) → ℕ → List ℕ
life_text client logs life = log_text client (unwrap_or (slice_get logs life) [])

-- the lines of a client: those of its lives, one after another
abbrev pub lives_text : ℕ → List (List Line) → List ℕ → List ℕ
lives_text client logs lives = flat_map (life_text client logs) lives
