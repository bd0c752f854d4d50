-- Working: the message that a server takes from a circuit.
use Rattle.std.specs.Prelude.{Bool, true, false, is_some, ℕ, ◌≡◌, ◌<◌, List, length}
use Rattle.ca_arena.specs.declared.handle.Handle.{Handle}
use Rattle.ca_text.specs.Place.{At}
use Rattle.ca_model.specs.Speech.{In}
use Rattle.ca_model.specs.History.{Circuit, Entry, Sent, Step}
use Rattle.ca_model.specs.World.{Joined, PutPlace, RecordSide, ServerSide, World}
use Rattle.ca_records.specs.declared.puts.Put.{Put}
use Rattle.ca_model.specs.Server.{Server}
use Rattle.ca_model.specs.ServerEvents.{ends_by}
use Rattle.ca_laws_parts.specs.Lives.{EndsAgree}
use Rattle.ca_laws_parts.specs.Once.{IsUntold}

-- On circuits as they will be after the step: server i takes the message at this place of
-- circuit k, which it knows under this handle. The step is noted, and logs from the log's
-- length on. The log did not tell of the place yet; and the puts that wait on this handle came
-- on this circuit, before.
pub record Takes (circuits : List Joined) (i life : ℕ) (log : List Entry) (rs : List RecordSide)
    (h : Handle) (p : PutPlace) (s : Sent) : Type 0 where
  pub d : Joined
  pub on : At circuits p.circuit d
  pub of : d.server ≡ i
  pub joins : d.lists.server ≡ life
  pub handle : d.at_server ≡ h
  pub sent : At d.lists.up p.place s
  pub step : Step
  pub handled : At d.lists.handled p.place step
  pub logged : step.logged ≡ length log
  pub untold : IsUntold log p
  pub before : (j : ℕ) (r : RecordSide) (q : PutPlace) (c : Joined) → At rs j r → In r.waiting q
      → At circuits q.circuit c → c.at_server ≡ h
      → (q.circuit ≡ p.circuit) × (q.place < p.place)

-- On circuits as they will be after the event: server i takes the write at this place of circuit k,
-- which it knows under this handle, and tells of it next, in this way. The log did not tell of the
-- place yet.
pub record Comes (circuits : List Joined) (i life : ℕ) (log : List Entry)
    (Taken : Circuit → (k i : ℕ) → Type 0) (h : Handle) (p : PutPlace) (s : Sent) : Type 0 where
  pub d : Joined
  pub on : At circuits p.circuit d
  pub of : d.server ≡ i
  pub joins : d.lists.server ≡ life
  pub handle : d.at_server ≡ h
  pub sent : At d.lists.up p.place s
  pub untold : IsUntold log p
  pub taken : Taken d.lists p.place (length log)

-- What else holds as a step of the server's end of circuit k handles a message, after which its
-- core is this. The end is open, and of this life; the message is the first that was not handled;
-- no other open circuit of the server has its handle; and the core ends circuits, but not this one,
-- with the puts that wait there.
pub record Handling (w : World) (k : ℕ) (j : Joined) (y : ServerSide) (core : Server)
    (lost : Put → Bool) (s : Sent) : Type 0 where
  pub at : At w.circuits k j
  pub server : At w.servers j.server y
  pub still_open : j.lists.server_open ≡ true
  pub joins : j.lists.server ≡ y.life
  pub sent : At j.lists.up (length j.lists.handled) s
  pub one : (n : ℕ) (c : Joined) → At w.circuits n c → c.server ≡ j.server
      → c.lists.server_open ≡ true → c.at_server ≡ j.at_server → n ≡ k
  pub agree : EndsAgree w.circuits j.server (ends_by j.server core) lost
  pub stays : is_some (ends_by j.server core j) ≡ false
