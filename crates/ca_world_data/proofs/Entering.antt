-- The logs of servers grow, and those of clients by lines.
use Rattle.std.proofs.Common.{◌≡◌, ℕ, zero, suc, ◌+◌, ◌≤◌, List, [], ◌∷◌, ◌++◌, length, sym, ap, subst, ◌∙◌, arith}
use Rattle.std.specs.Prelude.{map, slice_set, unwrap_or, Vec, vec_capacity, vec_len}
use Rattle.std.specs.declared.alloc.Global.{Global}
use Rattle.std.proofs.lemmas.List.{map-append}
use Rattle.ca_text.specs.Place.{At}
use Rattle.ca_text.proofs.Places.{At-map, At-within, some_is}
use Rattle.ca_model.specs.History as history
use Rattle.ca_model.specs.World.{grown}
use Rattle.ca_world_data.specs.declared.history.LogEntry.{LogEntry}
use Rattle.ca_world_data.specs.declared.history.Line.{Line}
use Rattle.ca_world_data.specs.Logs.{lines_in}
use Rattle.ca_world_data.specs.Opening.{entries_in}
use Rattle.ca_world_data.specs.Seen.{entry_of, line_of}
use Rattle.ca_world_data.specs.ServerCuts.{HasRoomFor}
use Rattle.ca_world_data.proofs.Worlds.{set-map, set-same}

-- a log that only got room
pub same-entries : (logs : List (Vec LogEntry Global)) (life : ℕ) (log new : Vec LogEntry Global) → At logs life log → new.items ≡ log.items → entries_in (slice_set logs life new) ≡ entries_in logs
same-entries logs life log new at is =
    set-map (λ (l : Vec LogEntry Global). map entry_of l.items) logs life new ∙ ap (λ (t : List LogEntry). slice_set (entries_in logs) life (map entry_of t)) is
    ∙ set-same (entries_in logs) life (map entry_of log.items) (At-map (λ (l : Vec LogEntry Global). map entry_of l.items) logs life log at)

-- the log of this place, in which there is room now
pub entries-room : (logs : List (Vec LogEntry Global)) (life n : ℕ) (new : Vec LogEntry Global) → vec_len new + n ≤ vec_capacity new → HasRoomFor n life (slice_set logs life new)
entries-room [] life n new room log at = absurd cc
entries-room (x ∷ logs) zero n new room log at = subst (λ (z : Vec LogEntry Global). vec_len z + n ≤ vec_capacity z) (some_is new log at) room
entries-room (x ∷ logs) (suc life) n new room log at = entries-room logs life n new room log at

-- no log is here
pub no-entries-room : (logs : List (Vec LogEntry Global)) (life n : ℕ) → length logs ≤ life → HasRoomFor n life logs
no-entries-room logs life n over log at = (let within = At-within logs life log at in absurd (omega (arith, over, within)))

-- the log of a life grows
pub grown-entries : (logs : List (Vec LogEntry Global)) (life : ℕ) (log new : Vec LogEntry Global) (more : List LogEntry) → At logs life log → new.items ≡ log.items ++ more → entries_in (slice_set logs life new) ≡ grown life (map entry_of more) (entries_in logs)
grown-entries logs life log new more at is =
    let there : At (entries_in logs) life (map entry_of log.items) = At-map (λ (l : Vec LogEntry Global). map entry_of l.items) logs life log at in
    set-map (λ (l : Vec LogEntry Global). map entry_of l.items) logs life new ∙ ap (λ (t : List LogEntry). slice_set (entries_in logs) life (map entry_of t)) is
    ∙ ap (slice_set (entries_in logs) life) (map-append entry_of log.items more) ∙ sym (ap (λ o. slice_set (entries_in logs) life (unwrap_or o [] ++ map entry_of more)) there)

-- the log of a client's life grows by lines that are told
pub grown-lines : (logs : List (Vec Line Global)) (life : ℕ) (log new : Vec Line Global) (more : List history.Line) → At logs life log → map line_of new.items ≡ map line_of log.items ++ more → lines_in (slice_set logs life new) ≡ grown life more (lines_in logs)
grown-lines logs life log new more at is =
    let there : At (lines_in logs) life (map line_of log.items) = At-map (λ (l : Vec Line Global). map line_of l.items) logs life log at in
    set-map (λ (l : Vec Line Global). map line_of l.items) logs life new ∙ ap (slice_set (lines_in logs) life) is
    ∙ sym (ap (λ o. slice_set (lines_in logs) life (unwrap_or o [] ++ more)) there)
