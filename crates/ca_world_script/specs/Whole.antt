-- Vocabulary: which lives a client had, and the report of a run.
use Rattle.std.specs.Prelude.{ℕ, ◌+◌, ◌==◌, ◌++◌, if◌then◌else◌, List, [], ◌∷◌, length}
use Rattle.std.specs.List.{flat_map, range_with_len}
use Rattle.ca_model.specs.History.{Line}
use Rattle.ca_model.specs.Events.{Event}
use Rattle.ca_model.specs.Events as event
use Rattle.ca_world_script.specs.Logs.{lives_text}
use Rattle.ca_script.specs.Report.{end_text}

-- the client that an event restarts, if it restarts one
abbrev pub restarted : Event → List ℕ
restarted (event.ClientRestart i) = i ∷ []
restarted e = []

-- the clients that events restart, in order
abbrev pub restarts : List Event → List ℕ
restarts es = flat_map restarted es

-- of the lives that restarts of these clients begin, numbered from next on, those of client i
abbrev pub begun : (i next : ℕ) → List ℕ → List ℕ
begun i next [] = []
begun i next (c ∷ cs) = if c == i then next ∷ begun i (next + 1) cs else begun i (next + 1) cs

-- The lives of client i, one of n, once these clients were restarted: its first, and one for each
-- time that it was restarted. Lives are numbered as they begin.
abbrev pub lives_of : (clients i : ℕ) → List ℕ → List ℕ
lives_of clients i restarted = i ∷ begun i clients restarted

-- the lines of client i
abbrev pub client_text : (clients : ℕ) → List ℕ → List (List Line) → (i : ℕ) → List ℕ
client_text clients restarted logs i = lives_text i logs (lives_of clients i restarted)

-- The report of a run of n clients: the lines of each, of all its lives, and how
-- many events were done.
abbrev pub report_text : (clients : ℕ) → List Event → List (List Line) → List ℕ
report_text clients done logs =
    flat_map (client_text clients (restarts done) logs) (range_with_len 0 clients) ++ end_text
    (length done)
