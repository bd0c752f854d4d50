-- These histories are unsafe, since what is owed is not done.
use Rattle.std.proofs.Common.{◌≡◌, ℕ, ◌<◌, ◌≤◌, inl, inr, List, [], ◌∷◌, length, refl, sym, ap, subst, ◌∙◌, arith}
use Rattle.std.specs.Prelude.{false, take}
use Rattle.ca_text.specs.Place.{At}
use Rattle.ca_text.specs.Status.{normal}
use Rattle.ca_text.proofs.Places.{some_is}
use Rattle.ca_text.specs.declared.command.Command.TheVariants as command
use Rattle.ca_dbr.specs.Held.{display_of}
use Rattle.ca_display.specs.Alarm.{alarm_by}
use Rattle.ca_dbr.specs.declared.value.Outcome.TheVariants as outcome
use Rattle.ca_wire.specs.Fields.{Fields}
use Rattle.ca_wire.specs.Messages.{header_only, status_reply}
use Rattle.ca_model.specs.Speech.{Is}
use Rattle.ca_model.specs.History.{Circuit, Entry, Line, Sent, Told, Step, Added, Finished, Clear, Intent, On, Subscribe, Called, Nothing}
use Rattle.ca_model.specs.Channels.{IsFinished, IsReply, OfCircuits}
use Rattle.ca_model.specs.Headline.{Answered, AnswersOwn}
use Rattle.ca_requests.specs.Meaning.{Means}
use Rattle.ca_model.specs.Updates.{Shows}
use Rattle.ca_model_examples.specs.Worlds.{Unsafe, alarmed, clearing, created_told, creating, long, put_told, putting, step, temp, world}
use Rattle.ca_model_examples.specs.Unsafe.{temp_there}
use Rattle.ca_model_examples.specs.Owed.{EchoDue, EntryDue, NoneDue, SlowDue, UnsafeBesides, UnsafeSlow, UnsafeUnlogged, UnsafeUnsent, answered, answered_cleared, answered_otherwise, otherwise, answered_unfinished, answered_withdrawn, cleared, cleared_lines, finished_entries, foreign_refusal, live_circuit, live_lines, lost_for_nothing, lost_lines, put_lines, refused_write, unanswered, unanswered_put, unanswered_read, unfinished_entries, withdrawn_entries, writing}
use Rattle.ca_model_examples.proofs.Lists.{Each, each-at, none-at, one-at}
use Rattle.ca_dbr.specs.declared.value.Meta.{Meta}
use Rattle.ca_model.specs.Due.{Action}
use Rattle.ca_model.specs.Due as action
use Rattle.ca_model.specs.Known.{IsDue, Logs}
use Rattle.ca_model.specs.Channels.{before}
use Rattle.ca_model.specs.History.{Applied, Waits, Withdrawn}
use Rattle.ca_model_examples.specs.Owed.{UnsafeAsDue, logged_put, logs_put}
use Rattle.ca_model_examples.specs.Worlds.{ports, rules}
use Rattle.ca_text.proofs.Places.{At-or}

pub zero-one : ◌≡◌ {A = ℕ} 0 1 → ⊥
zero-one e = omega (arith, e)

-- what holds of each circuit of a world of two lives holds of this one and their two logs
pub its-own :
    (P : ℕ → Circuit → List Line → List Entry → Type 0) (cs : List Circuit) (x : List Line) (y : List Entry) → OfCircuits (world cs x y) P
    → (n : ℕ) (c : Circuit) → At cs n c → c.client ≡ 0 → c.server ≡ 0 → P n c x y
its-own P cs x y all n c at e f =
    let h = all n c at in
    let a : x ≡ h.0 = some_is x h.0 (subst (λ (k : ℕ). At (x ∷ []) k h.0) e h.2.1) in
    let b : y ≡ h.1 = some_is y h.1 (subst (λ (k : ℕ). At (y ∷ []) k h.1) f h.2.2) in
    subst (λ (z : List Line). P n c z y) (sym a) (subst (λ (z : List Entry). P n c h.0 z) (sym b) h.3)

-- a request that ends with Disconnected is lost, since no message means that
no-message-means : (m : Fields) → Means m outcome.Disconnected → ⊥
no-message-means m h =
    elim h [
      | inl a ↦ a.1
      | inr b ↦ elim b [
        | inl a ↦ a.1
        | inr d ↦ elim d [
          | inl a ↦ a.1
          | inr a ↦ a.1
        ]
      ]
    ]

no-clear-line : (i : ℕ) → At (take 3 lost_lines) i (Called (On 0 Clear) Nothing) → ⊥
no-clear-line i at =
    each-at (λ (k : ℕ) (l : Line). l ≡ Called (On 0 Clear) Nothing → ⊥) (take 3 lost_lines) ((λ e. cc), ((λ e. cc), ((λ e. cc), tt))) i _ at refl

abbrev channel-of : Intent → ℕ
channel-of (On channel ask) = channel
channel-of i = 0

pub never-lost-for-nothing : Unsafe lost_for_nothing
never-lost-for-nothing s =
    elim ((s.own.1 0 lost_lines refl).told 3 _ _ refl) [
      | inl h ↦ no-message-means h.0.t.message h.0.means
      | inr h ↦
          let l = h.1 in
          let is : unanswered_read ≡ l.4 = sym (one-at unanswered_read l.0 l.4 l.5).1 in
          let on : l.2 ≡ 0 = ap channel-of (sym l.7) in
          elim l.9 [
            | inl shut ↦ (let t : unanswered_read.client_open ≡ false = subst (λ (c : Circuit). c.client_open ≡ false) (sym is) shut in cc)
            | inr more ↦ elim more [
              | inl called ↦ no-clear-line called.0 (subst (λ (k : ℕ). At (take 3 lost_lines) called.0 (Called (On k Clear) Nothing)) on called.1)
              | inr told ↦
                  let at : At (created_told ∷ []) told.0 told.1 = subst (λ (c : Circuit). At c.down told.0 told.1) (sym is) told.3 in
                  let e : told.1 ≡ created_told = (one-at created_told told.0 told.1 at).1 in
                  let f : created_told.cause ≡ told.1.cause = ap (λ (t : Told). t.cause) (sym e) in
                  let g = told.5 in
                  cc
            ]
          ]
    ]

-- ---- late replies

-- of a put on a slow record: its only reply is late, once it is finished
late-alone : (n : ℕ) (c : Circuit) (y : List Entry) (h : Step) → At c.up 1 (putting 0 8 22) → (a : Answered SlowDue Shows Means n c y 1 h)
    → (j : ℕ) (m : Fields) → h.sent ≤ j → IsReply c 1 j m → IsFinished n c y 1 a.s
late-alone n c y h at a j m later here =
    let is : a.s ≡ putting 0 8 22 = some_is a.s (putting 0 8 22) (sym a.at ∙ at) in
    let put : Is command.WriteNotify a.s.message = subst (λ (s : Sent). Is command.WriteNotify s.message) (sym is) refl in
    let none : a.replies ≡ [] = (a.due put).0 in
    let many : length a.replies ≡ 0 = ap (λ (l : List Fields). length l) none in
    elim (a.only j m here) [
      | inl early ↦ (let e = early in absurd (omega (arith, e, many, later)))
      | inr late ↦ late.2
    ]

-- and it is the one that is due
late-due : (n : ℕ) (c : Circuit) (y : List Entry) (h : Step) → At c.up 1 (putting 0 8 22) → (a : Answered SlowDue Shows Means n c y 1 h) → (j : ℕ) (m : Fields) → h.sent ≤ j → IsReply c 1 j m → status_reply (putting 0 8 22).message normal ≡ m
late-due n c y h at a j m later here =
    let is : a.s ≡ putting 0 8 22 = some_is a.s (putting 0 8 22) (sym a.at ∙ at) in
    let put : Is command.WriteNotify a.s.message = subst (λ (s : Sent). Is command.WriteNotify s.message) (sym is) refl in
    let many : length a.replies ≡ 0 = ap (λ (l : List Fields). length l) (a.due put).0 in
    elim (a.only j m here) [
      | inl early ↦ (let e = early in absurd (omega (arith, e, many, later)))
      | inr late ↦ ap (λ (s : Sent). status_reply s.message normal) (sym is) ∙ some_is _ m (sym (a.due put).1 ∙ late.1)
    ]

no-finish : (y : List Entry) → Each (λ (i : ℕ) (z : Entry). z ≡ Finished 0 1 → ⊥) y → (e : ℕ) → At y e (Finished 0 1) → ⊥
no-finish y none e at = each-at (λ (i : ℕ) (z : Entry). z ≡ Finished 0 1 → ⊥) y none e _ at refl

pub never-unfinished : UnsafeSlow answered_unfinished
never-unfinished s =
    let p = its-own (AnswersOwn SlowDue Shows Means) (answered ∷ []) put_lines unfinished_entries s.own.0 0 answered refl refl refl in
    let a = p.answered 1 (step 1 1 2) refl in
    let f = late-alone 0 answered unfinished_entries (step 1 1 2) refl a 1 (put_told 1 8 22).message (omega arith) refl in
    no-finish unfinished_entries ((λ e. cc), ((λ e. cc), tt)) f.0 f.1

pub never-withdrawn : UnsafeSlow answered_withdrawn
never-withdrawn s =
    let p = its-own (AnswersOwn SlowDue Shows Means) (answered ∷ []) put_lines withdrawn_entries s.own.0 0 answered refl refl refl in
    let a = p.answered 1 (step 1 1 2) refl in
    let f = late-alone 0 answered withdrawn_entries (step 1 1 2) refl a 1 (put_told 1 8 22).message (omega arith) refl in
    no-finish withdrawn_entries ((λ e. cc), ((λ e. cc), ((λ e. cc), tt))) f.0 f.1

-- the only place of the finish
at-two : (e : ℕ) → At finished_entries e (Finished 0 1) → e ≡ 2
at-two e at =
    each-at (λ (i : ℕ) (z : Entry). z ≡ Finished 0 1 → i ≡ 2) finished_entries ((λ e. absurd cc), ((λ e. absurd cc), ((λ e. refl), tt))) e _ at refl

pub never-cleared : UnsafeSlow answered_cleared
never-cleared s =
    let p = its-own (AnswersOwn SlowDue Shows Means) (cleared ∷ []) cleared_lines finished_entries s.own.0 0 cleared refl refl refl in
    let a = p.answered 1 (step 1 1 2) refl in
    let f = late-alone 0 cleared finished_entries (step 1 1 2) refl a 2 (put_told 1 8 22).message (omega arith) refl in
    let is : putting 0 8 22 ≡ a.s = some_is (putting 0 8 22) a.s a.at in
    let e = at-two f.0 f.1 in
    f.3 (2, clearing, step 1 2 2, omega arith, refl, refl, omega (arith, e), (refl, ap (λ (r : Sent). r.message.p1) is))

pub never-otherwise : UnsafeSlow answered_otherwise
never-otherwise s =
    let o = its-own (AnswersOwn SlowDue Shows Means) (otherwise ∷ []) put_lines finished_entries s.own.0 0 otherwise refl refl refl in
    let a = o.answered 1 (step 1 1 2) refl in
    let e = ap (λ (m : Fields). m.p1) (late-due 0 otherwise finished_entries (step 1 1 2) refl a 1 (status_reply (putting 0 8 22).message 160) (omega arith) refl) in
    omega (arith, e)

-- the put was finished, and no clear was handled
was-finished : (r : Sent) → IsFinished 0 unanswered finished_entries 1 r
was-finished r = (
  2,
  refl,
  (1, 0, long 22, refl, omega arith, (λ j m l u after early at. absurd (omega (arith, after, early)))),
  λ c.
      each-at (λ (i : ℕ) (z : Sent). 1 < i → ⊥) unanswered.up ((λ t. omega (arith, t)), ((λ t. omega (arith, t)), tt)) c.0 c.1 c.4 c.3,
)

pub never-unanswered : UnsafeSlow unanswered_put
never-unanswered s =
    let p = its-own (AnswersOwn SlowDue Shows Means) (unanswered ∷ []) put_lines finished_entries s.own.0 0 unanswered refl refl refl in
    let a = p.answered 1 (step 1 1 2) refl in
    let is : a.s ≡ putting 0 8 22 = some_is a.s (putting 0 8 22) (sym a.at) in
    let put : Is command.WriteNotify a.s.message = subst (λ (r : Sent). Is command.WriteNotify r.message) (sym is) refl in
    let here = a.comes _ (a.due put).1 (was-finished a.s) refl in
    let e = ap (λ (t : Told). t.place) (one-at created_told a.place _ here).1 in
    zero-one (sym e)

-- ---- a notice by a message that is about something else

pub never-foreign : Unsafe foreign_refusal
never-foreign s =
    elim ((s.own.1 0 _ refl).told 2 _ _ refl) [
      | inl h ↦
          let is : refused_write ≡ h.0.c = sym (one-at refused_write h.0.n h.0.c h.0.on.0).1 in
          let m = h.0.own in
          let at : At (creating ∷ writing ∷ []) h.0.t.place m.0 = subst (λ (c : Circuit). At c.up h.0.t.place m.0) (sym is) m.1 in
          let e : m.0.intent ≡ On 0 (Subscribe 0) = m.2 in
          each-at (λ (i : ℕ) (z : Sent). z.intent ≡ On 0 (Subscribe 0) → ⊥) (creating ∷ writing ∷ []) ((λ f. cc), ((λ f. cc), tt)) h.0.t.place m.0 at e
      | inr h ↦ (let e = h.0 in cc)
    ]

-- ---- what is due for a message

pub never-unsent : UnsafeUnsent
never-unsent s =
    let p = its-own (AnswersOwn EchoDue Shows Means) (live_circuit [] [] [] ∷ []) (live_lines []) temp_there s.own.0 0 (live_circuit [] [] []) refl refl refl in
    let a = p.answered 0 (step 0 1 1) refl in
    let here = a.now 0 (header_only command.Echo) (subst (λ (l : List Fields). At l 0 (header_only command.Echo)) (sym a.due) refl) in
    let e = ap (λ (t : Told). t.message.command) (one-at created_told 0 _ here).1 in
    omega (arith, e)

pub never-unlogged : UnsafeUnlogged
never-unlogged s =
    let p = its-own (AnswersOwn EntryDue Shows Means) (live_circuit [] [] [] ∷ []) (live_lines []) temp_there s.own.0 0 (live_circuit [] [] []) refl refl refl in
    let a = p.answered 0 (step 0 1 1) refl in
    let here : At temp_there 1 (Finished 0 0) = a.logged 0 (Finished 0 0) (subst (λ (l : List Entry). At l 0 (Finished 0 0)) (sym a.due) refl) in
    none-at 0 (Finished 0 0) here

pub never-besides : UnsafeBesides
never-besides s =
    let c : Circuit = record (live_circuit [] [] []) { handled = step 0 1 2 ∷ [] } in
    let p = its-own (AnswersOwn NoneDue Shows Means) (c ∷ []) (live_lines []) (Added 0 temp ∷ Finished 0 0 ∷ []) s.own.0 0 c refl refl refl in
    let a = p.answered 0 (step 0 1 2) refl in
    let many : length a.logs ≡ 0 = ap (λ (l : List Entry). length l) a.due in
    let h = a.besides 1 (Finished 0 0) (omega (arith, many)) (omega arith) refl in
    (let e = h.2 in cc)

-- ---- a write with an alarm

-- an entry of a write has the alarm of its value
abbrev Calm : Entry → Type 0
Calm (Applied n k r v b) = v.meta.severity ≡ (alarm_by (display_of v.value) v.value).1
Calm (Waits n k r v) = v.meta.severity ≡ (alarm_by (display_of v.value) v.value).1
Calm e = Unit {0}

withdrawn-calm : (e : Entry) (n k : ℕ) → e ≡ Withdrawn n k → Calm e
withdrawn-calm e n k is = subst Calm (sym is) tt

-- What is logged for an action is calm.
logs-calm : (n : ℕ) (c : Circuit) (y : List Entry) (did : Action) (logs : List Entry) → Logs n c y did logs → (i : ℕ) (e : Entry) → At logs i e → Calm e
logs-calm n c y (action.Applies name value busies) logs h i e at =
    let is = (one-at (Applied n (length c.handled) h.0 h.1 busies) i e (subst (λ (l : List Entry). At l i e) h.5 at)).1 in
    subst Calm (sym is) (ap (λ (m : Meta). m.severity) h.4.1)
logs-calm n c y (action.Waits name value) logs h i e at =
    let is = (one-at (Waits n (length c.handled) h.0 h.1) i e (subst (λ (l : List Entry). At l i e) h.5 at)).1 in
    subst Calm (sym is) (ap (λ (m : Meta). m.severity) h.4.1)
logs-calm n c y (action.Clears sid) logs h i e at = (let w = h.each e (i, at) in withdrawn-calm e n w.0 w.6)
logs-calm n c y action.Nothing logs h i e at = absurd (none-at i e (subst (λ (l : List Entry). At l i e) h at))
logs-calm n c y action.Greets logs h i e at = absurd (none-at i e (subst (λ (l : List Entry). At l i e) h at))
logs-calm n c y (action.Names p) logs h i e at = absurd (none-at i e (subst (λ (l : List Entry). At l i e) h at))
logs-calm n c y (action.Opens ch) logs h i e at = absurd (none-at i e (subst (λ (l : List Entry). At l i e) h at))
logs-calm n c y (action.Adds s) logs h i e at = absurd (none-at i e (subst (λ (l : List Entry). At l i e) h at))
logs-calm n c y (action.Drops k) logs h i e at = absurd (none-at i e (subst (λ (l : List Entry). At l i e) h at))
logs-calm n c y (action.Switches b) logs h i e at = absurd (none-at i e (subst (λ (l : List Entry). At l i e) h at))

-- A step does not log an entry of a write that is not calm.
never-logged : (x : Entry) → (Calm x → ⊥) → ((m l : ℕ) → x ≡ Withdrawn m l → ⊥) → UnsafeAsDue (logs_put x)
never-logged x loud other s =
    let p = its-own (AnswersOwn (IsDue ports rules) Shows Means) (answered ∷ []) put_lines (logged_put x) s.own.0 0 answered refl refl refl in
    let a = p.answered 1 (step 1 1 2) refl in
    elim (At-or a.logs 0) [
      | inl one ↦
          let here : At (logged_put x) 1 one.0 = a.logged 0 one.0 one.1 in
          loud (subst Calm (sym (some_is x one.0 here)) (logs-calm 0 (before answered 1 (step 1 1 2)) (take 1 (logged_put x)) a.due.1 a.logs a.due.5 0 one.0 one.1))
      | inr none ↦ (let w = a.besides 1 x (omega (arith, none)) (omega arith) refl in other w.0 w.1 w.2)
    ]

pub never-alarmed : UnsafeAsDue (logs_put (Applied 0 1 0 alarmed false))
never-alarmed = never-logged (Applied 0 1 0 alarmed false) (λ e. omega (arith, e)) (λ m l e. cc)

pub never-waits-alarmed : UnsafeAsDue (logs_put (Waits 0 1 0 alarmed))
never-waits-alarmed = never-logged (Waits 0 1 0 alarmed) (λ e. omega (arith, e)) (λ m l e. cc)
