-- What was due for each message that was handled, by what its server knew then, is
-- what the statement says.
use Rattle.std.proofs.Common.{◌≡◌, ℕ, zero, suc, ◌<◌, ◌≤◌, inl, inr, Bool, true, false, cond, eqb, eqb-true, eq-eqb, List, [], ◌∷◌, length, Option, Some, refl, sym, ap, subst, ◌∙◌, arith}
use Rattle.std.specs.Prelude.{find, option_and_then, option_map, slice_get, take, unwrap_or}
use Rattle.ca_records.specs.Rules.{Rule}
use Rattle.ca_text.specs.Place.{At}
use Rattle.ca_text.proofs.Places.{some_is, At-one, At-or, At-within}
use Rattle.ca_wire.specs.Fields.{Fields}
use Rattle.ca_model.specs.Due.{Action, Clears, Knows, late_reply}
use Rattle.ca_model.specs.Due as action
use Rattle.ca_model.specs.History.{Circuit, Entry, Finished, Line, Sent, Step}
use Rattle.ca_model.specs.Channels.{IsBusyUntil, before}
use Rattle.ca_model.specs.Known.{AreJust, IsDue, IsLogged, IsWithdrawal, Knew, Logs}
use Rattle.ca_model.specs.Events.{Event}
use Rattle.ca_model.specs.Runs.{Runs}
use Rattle.ca_model.specs.World.{IsSetting, Joined, ServerSetting, ServerSide, Setting, World, circuit_of, port_of, rules_of, setting_of}
use Rattle.ca_laws_runs.proofs.StepWhole.{run-serves}
use Rattle.ca_laws_parts.specs.Seats.{AsGiven}
use Rattle.ca_laws_parts.proofs.WritesLists.{none_at}
use Rattle.ca_laws_runs.specs.AnswerDue.{AnsweredDue, AreAnsweredDue}
use Rattle.ca_laws_runs.specs.FollowsAnswering.{AnsweredBy, KnowsLists, LogsSo, past}
use Rattle.ca_laws_runs.specs.Given.{OfOneServer}
use Rattle.ca_laws_runs.proofs.ActsOn.{of-circuits}
use Rattle.ca_laws_runs.proofs.AnsweringRuns.{as-told, run-all-answered, told-as}
use Rattle.ca_laws_runs.proofs.FaceRuns.{run-faces}
use Rattle.ca_laws_runs.proofs.ServersStay.{run-many}

-- ---- what the server of a life was given

-- one that passes is found
find-some : {A : Type 0} (p : A → Bool) (xs : List A) (i : ℕ) (x : A) → At xs i x → p x ≡ true → (m : ℕ) × (y : A) × At xs m y × (p y ≡ true) × (find p xs ≡ Some y)
find-some p [] i x at is = absurd (none_at i x at)
find-some {A} p (z ∷ xs) i x at is = go (p z) refl i at (λ k there. find-some p xs k x there is)
  where
    go : (b : Bool) → p z ≡ b → (i : ℕ) → At (z ∷ xs) i x → ((k : ℕ) → At xs k x → (m : ℕ) × (y : A) × At xs m y × (p y ≡ true) × (find p xs ≡ Some y))
        → (m : ℕ) × (y : A) × At (z ∷ xs) m y × (p y ≡ true) × (cond b (Some z) (find p xs) ≡ Some y)
    go true same i at rest = (0, z, refl, same, refl)
    go false same zero at rest = absurd (both same (ap p (some_is z x at) ∙ is))
      where
        both : {b : Bool} → b ≡ false → b ≡ true → ⊥
        both {b} f t = (let e : false ≡ true = sym f ∙ t in cc)
    go false same (suc i) at rest = (let r = rest i at in (suc r.0, r.1, r.2, r.3, r.4))

module _ (s : Setting) (w : World) (one : OfOneServer w) (many : length w.servers ≡ length s.servers) (given : AsGiven s w) where
  setting-is : (n : ℕ) (j : Joined) (g : ServerSetting) → At w.circuits n j → At s.servers j.server g → setting_of w j.lists.server ≡ Some g
  setting-is n j g on at = elim (At-or w.servers j.server) [
    | inr past ↦ absurd (let lt : j.server < length s.servers = At-within s.servers j.server g at in omega (arith, lt, past, many))
    | inl there ↦
        let y : ServerSide = there.0 in
        let f = find-some (λ (c : Joined). eqb c.lists.server j.lists.server) w.circuits n j on (eq-eqb j.lists.server j.lists.server refl) in
        let same : (f.1).server ≡ j.server = one.joined f.0 n f.1 j f.2 on (eqb-true (f.1).lists.server j.lists.server f.3) in
        let is : y.setting ≡ g = At-one s.servers j.server y.setting g (given j.server y there.1) at in
        ap (λ (o : Option Joined). option_and_then (λ (c : Joined). option_map (λ (z : ServerSide). z.setting) (slice_get w.servers c.server)) o) f.4
        ∙ ap (λ (i : ℕ). option_map (λ (z : ServerSide). z.setting) (slice_get w.servers i)) same
        ∙ ap (λ (o : Option ServerSide). option_map (λ (z : ServerSide). z.setting) o) there.1
        ∙ ap (λ (x : ServerSetting). Some x) is
  ]

  port-is : (n : ℕ) (j : Joined) (g : ServerSetting) → At w.circuits n j → At s.servers j.server g → port_of w j.lists.server ≡ g.address.port
  port-is n j g on at = ap (λ (o : Option ServerSetting). unwrap_or (option_map (λ (x : ServerSetting). x.address.port) o) 0) (setting-is n j g on at)

  rules-are : (n : ℕ) (j : Joined) (g : ServerSetting) → At w.circuits n j → At s.servers j.server g → rules_of w j.lists.server ≡ g.rules
  rules-are n j g on at = ap (λ (o : Option ServerSetting). unwrap_or (option_map (λ (x : ServerSetting). x.rules) o) []) (setting-is n j g on at)

-- ---- in the words of the statement

knew-as : (port : ℕ) (rules : List Rule) (j : Joined) (k : ℕ) (h : Step) (y : List Entry) (known : Knows) → known.port ≡ port → known.rules ≡ rules → KnowsLists (past j.lists k h) y known → Knew port rules (before (circuit_of j) k h) y known
knew-as port rules j k h y known on by knows = record {
  on_port = on;
  by_rules = by;
  records = knows.records;
  greeted = knows.greeted;
  user = knows.user;
  host = knows.host;
  settled = knows.settled;
  channels = record { each = knows.channels.each; all = knows.channels.all; once = knows.channels.once };
  full = knows.full;
  keys = record { each = knows.keys.each; all = knows.keys.all; once = knows.keys.once };
}

take-count : {A : Type 0} (xs : List A) (k : ℕ) → k ≤ length xs → length (take k xs) ≡ k
take-count xs zero le = refl
take-count [] (suc k) le = absurd (omega (arith, le))
take-count (x ∷ xs) (suc k) le = ap (λ (n : ℕ). suc n) (take-count xs k (omega (arith, le)))

logs-as : (n k : ℕ) (j : Joined) (h : Step) (y : List Entry) (did : Action) (logs : List Entry) → k < length j.lists.handled → LogsSo n k y did logs → ((sid : ℕ) → did ≡ Clears sid → AreJust logs (IsWithdrawal n (past j.lists k h) y sid)) → Logs n (before (circuit_of j) k h) y did logs
logs-as n k j h y did logs lt so clears = go did so clears
  where
    count : length (take k j.lists.handled) ≡ k
    count = take-count j.lists.handled k (omega (arith, lt))

    its-write : (did : Action) → IsLogged n k y did logs → IsLogged n (length (take k j.lists.handled)) y did logs
    its-write did logged = subst (λ (m : ℕ). IsLogged n m y did logs) (sym count) logged

    go : (did : Action) → LogsSo n k y did logs → ((sid : ℕ) → did ≡ Clears sid → AreJust logs (IsWithdrawal n (past j.lists k h) y sid)) → Logs n (before (circuit_of j) k h) y did logs
    go (Clears sid) so clears = (let just = clears sid refl in record { each = just.each; all = just.all; once = just.once })
    go (action.Applies name value busies) so clears = its-write (action.Applies name value busies) so
    go (action.Waits name value) so clears = its-write (action.Waits name value) so
    go action.Nothing so clears = so
    go action.Greets so clears = so
    go (action.Names p) so clears = so
    go (action.Opens c) so clears = so
    go (action.Adds x) so clears = so
    go (action.Drops key) so clears = so
    go (action.Switches on) so clears = so

pub run-due : (s : Setting) (es : List Event) (stopped : Option Event) (w : World) → IsSetting s → Runs s es stopped w → AreAnsweredDue w
run-due s es stopped w ok runs =
    of-circuits s es stopped w ok runs (λ (n : ℕ) (c : Circuit) (x : List Line) (y : List Entry). (k : ℕ) (h : Step) → At c.handled k h → AnsweredDue (port_of w) (rules_of w) n c y k h)
    (λ n j x y at lx ly k h there. due n j y at ly k h there (run-all-answered s es stopped w ok runs n j y at ly k h there))
  where
    due : (n : ℕ) (j : Joined) (y : List Entry) → At w.circuits n j → At w.server_logs j.lists.server y → (k : ℕ) (h : Step) → At j.lists.handled k h → AnsweredBy s j.server n j.lists y k h → AnsweredDue (port_of w) (rules_of w) n (circuit_of j) y k h
    due n j y at ly k h there ((a, rest), (g, of, port, rules)) =
        let one = (run-faces s es stopped w ok runs).one in
        let many = run-many s es stopped w runs in
        let sound = (run-serves s es stopped w ok runs).stands.sound in
        let busy : (m l e : ℕ) → At y e (Finished m l) → IsBusyUntil y m l e = λ m l e is. ((sound.writes.logs j.lists.server y ly).finished m l e is).0 in
        let knew = knew-as (port_of w j.lists.server) (rules_of w j.lists.server) j k h (take h.logged y) a.known (port ∙ sym (port-is s w one many sound.given n j g at of)) (rules ∙ sym (rules-are s w one many sound.given n j g at of)) a.knew in
        let logs = logs-as n k j h (take h.logged y) a.did a.logs (At-within j.lists.handled k h there) a.logs_are a.clears in (
          as-told n j y busy k h (a, rest),
          told-as (λ (q : Sent) (known : Knows) (did : Action) (replies : List Fields) (logs : List Entry). IsDue (port_of w) (rules_of w) n (before (circuit_of j) k h) (take h.logged y) q.message replies (late_reply q.message did) logs) n j y busy k h (a, rest)
              (a.known, a.did, knew, a.due, refl, logs),
        )
