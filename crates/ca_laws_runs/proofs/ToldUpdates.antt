-- Each update that a client's log has was told when a message was read, over every event and run.
use Rattle.std.proofs.Common.{◌≡◌, ℕ, ◌<◌, ◌⊎◌, inl, inr, List, ◌++◌, length, sym, subst, ◌∙◌, arith}
use Rattle.std.specs.Prelude.{take}
use Rattle.ca_dbr.specs.declared.value.Outcome.{Outcome}
use Rattle.ca_requests.specs.Meaning.{Means}
use Rattle.ca_text.specs.Place.{At}
use Rattle.ca_text.proofs.Places.{At-map, At-one, At-within}
use Rattle.ca_model.specs.History.{Cause, Intent, Line, Sent, Step, Told}
use Rattle.ca_model.specs.Channels.{IsHeld}
use Rattle.ca_model.specs.World.{Joined, World, circuit_of, told}
use Rattle.ca_laws_parts.proofs.WritesLists.{take-front}
use Rattle.ca_laws_runs.specs.ToldLines.{IsToldOf}
use Rattle.ca_laws_runs.proofs.ToldGrows.{WorldsOn}

-- Line i of this log was told when a message was read on a circuit of this world, for
-- a cause of this kind.
pub record IsRead (P : Cause → Type 0) (w : World) (life : ℕ) (x : List Line) (i : ℕ) (intent : Intent) (o : Outcome) : Type 0 where
  pub n : ℕ
  pub j : Joined
  pub on : At w.circuits n j × (j.lists.client ≡ life)
  pub p : ℕ
  pub t : Told
  pub h : Step
  pub read : At j.lists.down p t × At j.lists.heard p h × (h.logged ≡ i) × (i < h.after)
  pub s : Sent
  pub own : At j.lists.up t.place s × (s.intent ≡ intent)
  pub held : IsHeld (take i x) intent
  pub means : Means t.message o
  pub cause : P t.cause

-- it stays so
pub read-on : (P : Cause → Type 0) (w new : World) → WorldsOn w new → (life : ℕ) (x more : List Line) (i : ℕ) (intent : Intent) (o : Outcome) → i < length x → IsRead P w life x i intent o → IsRead P new life (x ++ more) i intent o
read-on P w new on life x more i intent o within r =
    let c = on.circuits r.n r.j r.on.0 in
    record {
      n = r.n;
      j = c.0;
      on = (c.1, c.2.client ∙ r.on.1);
      p = r.p;
      t = r.t;
      h = r.h;
      read = (c.2.down r.p r.t r.read.0, c.2.heard r.p r.h r.read.1, r.read.2, r.read.3);
      s = r.s;
      own = (c.2.up r.t.place r.s r.own.0, r.own.1);
      held = subst (λ (l : List Line). IsHeld l intent) (sym (take-front i x more (omega (arith, within)))) r.held;
      means = r.means;
      cause = r.cause;
    }

-- in the words of the statement
pub to-reads : (P : Cause → Type 0) (w : World) (life : ℕ) (x : List Line) (i : ℕ) (intent : Intent) (o : Outcome) → IsRead P w life x i intent o → (by : IsToldOf w life x i intent o) × P by.t.cause
to-reads P w life x i intent o r = (
  record {
    n = r.n;
    c = circuit_of r.j;
    on = (At-map circuit_of w.circuits r.n r.j r.on.0, r.on.1);
    j = r.p;
    t = r.t;
    h = r.h;
    read = r.read;
    own = (r.s, r.own.0, r.own.1);
    held = r.held;
    means = r.means;
  },
  r.cause,
)

-- So it is of each line that a test names.
abbrev pub AllRead : (P : Cause → Type 0) → (named : Line → Intent → Outcome → Type 0) → World → Type 0
AllRead P named w = (life : ℕ) (x : List Line) (i : ℕ) (line : Line) (intent : Intent) (o : Outcome) → At w.client_logs life x → At x i line → named line intent o → IsRead P w life x i intent o

-- From one world to the next, if each line was there, or was told so.
pub all-read-on : (P : Cause → Type 0) (named : Line → Intent → Outcome → Type 0) (w new : World) → WorldsOn w new
    → ((life : ℕ) (y : List Line) (i : ℕ) (line : Line) (intent : Intent) (o : Outcome) → At new.client_logs life y → At y i line → named line intent o → ((x : List Line) × At w.client_logs life x × At x i line) ⊎ IsRead P new life y i intent o)
    → AllRead P named w → AllRead P named new
all-read-on P named w new on news all life y i line intent o at there is = elim (news life y i line intent o at there is) [
  | inr told ↦ told
  | inl old ↦
      let more = on.logs life old.0 old.1 in
      let whole : old.0 ++ more.0 ≡ y = At-one new.client_logs life (old.0 ++ more.0) y more.1 at in
      subst (λ (l : List Line). IsRead P new life l i intent o) whole (read-on P w new on life old.0 more.0 i intent o (At-within old.0 i line old.2) (all life old.0 i line intent o old.1 old.2 is))
]
