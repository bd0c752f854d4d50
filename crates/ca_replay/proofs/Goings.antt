-- One event more along a script, and what a run's parts give together.
use Rattle.std.proofs.Common.{◌≡◌, inl, inr, ℕ, Bool, true, false, List, [], ◌∷◌, ◌++◌, Option, Some, None, Result, Ok, Err, length, map, append_assoc, refl, sym, ap, ◌∙◌, subst}
use Rattle.std.specs.Prelude.{IfOk}
use Rattle.std.proofs.lemmas.List.{length-map, map-append}
use Rattle.rand_core.specs.Stream.{Stream}
use Rattle.ca_model.specs.History.{Line}
use Rattle.ca_model.specs.Events.{Event}
use Rattle.ca_model.specs.Runs.{Happens}
use Rattle.ca_model.specs.World.{ServerSetting, Setting, World}
use Rattle.ca_events.specs.Events.{event_of}
use Rattle.ca_world_script.specs.Whole.{report_text}
use Rattle.ca_text.specs.declared.refusal.Refusal.{Refusal}
use Rattle.ca_text.specs.declared.refusal.Refusal.TheVariants.{BadEvent}
use Rattle.ca_world_data.specs.Does.{Does}
use Rattle.ca_world_data.specs.Settings.{AddsServer, is_taken}
use Rattle.ca_world_script.specs.Scripts.{SaysScript}
use Rattle.ca_world_script.specs.declared.script.Script.{Script}
use Rattle.ca_replay.specs.Drawing.{Drawn, DrawsSome, GoesAlong, GoesOn, HappensThenDraws, draws}
use Rattle.ca_replay.specs.Replayed.{AreRun, Reported, Reports}
use Rattle.ca_replay.specs.Settings.{AreFresh, setting_of}
use Rattle.ca_replay.proofs.Fresh.{fresh-next}

-- a server with an address of its own is added
pub no-taken : {P : Type 0} (all rest left : List ServerSetting) (y : ServerSetting) (old new : Setting) (r : Bool) → left ≡ y ∷ rest → old.servers ++ left ≡ all → AreFresh all → AddsServer old y (Ok r) new → r ≡ false → P
no-taken {P} all rest left y old new r is split fresh adds refused =
    let next : old.servers ++ y ∷ rest ≡ all = ap (λ (ys : List ServerSetting). old.servers ++ ys) (sym is) ∙ split in
    let free : is_taken y.address old.servers ≡ false = fresh-next all old.servers rest y next fresh in
    let not_added = subst (λ (b : Bool). AddsServer old y (Ok b) new) refused adds in
    let taken : is_taken y.address old.servers ≡ true = not_added.0 in
    absurd cc

-- an event of a script happened, and the numbers after it were drawn
pub went-on : (here : Option World) (w mid last : World) (left left' : Stream) (es more es' : List Event) (e : Event) → here ≡ Some w → Happens w e mid → more ≡ es ++ e ∷ [] → DrawsSome (record { world = mid; left = left; events = more }) draws (record { world = last; left = left'; events = es' })
    → GoesAlong (record { world = here; left = left; events = es }) e (record { world = Some last; left = left'; events = es' })
went-on here w mid last left left' es more es' e is happens are drawn =
    let end : Drawn = record { world = last; left = left'; events = es' } in
    let goes : HappensThenDraws w left es e (record { world = Some last; left = left'; events = es' }) = record {
      mid = mid;
      last = end;
      happens = happens;
      draws = subst (λ (x : List Event). DrawsSome (record { world = mid; left = left; events = x }) draws end) are drawn;
      after = refl;
    } in
    subst (λ (o : Option World). GoesOn o left es e (record { world = Some last; left = left'; events = es' })) (sym is) (inl goes)

-- an event of a script cannot be done
pub ended-at : (here : Option World) (w new : World) (left : Stream) (es es' : List Event) (e : Event) (why : Refusal) → here ≡ Some w → Does w e (Err why) new → why ≡ BadEvent → es' ≡ es ++ e ∷ []
    → GoesAlong (record { world = here; left = left; events = es }) e (record { world = None; left = left; events = es' })
ended-at here w new left es es' e why is does bad are =
    let no = subst (λ (x : Refusal). Does w e (Err x) new) bad does in
    subst (λ (o : Option World). GoesOn o left es e (record { world = None; left = left; events = es' })) (sym is)
    (inr (no.0, λ i. record { world = None; left = left; events = are i }))

-- the next of those that are left is one more before the others
pub parts-next : {A B : Type 0} (f : A → B) (before : List B) (rest next : List A) (x : A) (all : List B) → rest ≡ x ∷ next → before ++ map f rest ≡ all → (before ++ f x ∷ []) ++ map f next ≡ all
parts-next {A} f before rest next x all is split =
    append_assoc before (f x ∷ []) (map f next) ∙ ap (λ (xs : List A). before ++ map f xs) (sym is) ∙ split

-- one more is put after
pub behind-one : {A B : Type 0} (f : A → B) (old new : List A) (x : A) → new ≡ old ++ x ∷ [] → map f new ≡ map f old ++ f x ∷ []
behind-one f old new x is = ap (map f) is ∙ map-append f old (x ∷ [])

-- what a report is written of
pub report-is : {A B : Type 0} (seen : A → B) (cs : List A) (ws : List B) (n : ℕ) (ds es : List Event) (logs logs' : List (List Line)) (before text : List ℕ) → n ≡ length cs → map seen cs ≡ ws → ds ≡ es → logs ≡ logs' → before ≡ [] → text ≡ before ++ report_text n ds logs → text ≡ report_text (length ws) es logs'
report-is seen cs ws n ds es logs logs' before text many are same known none is =
    let long : n ≡ length ws = many ∙ sym (length-map cs seen) ∙ ap length are in
    is ∙ (λ i. none i ++ report_text (long i) (same i) (known i))

-- a run whose events are those of a script, with those of the seed
pub reported-so : {A : Type 0} (r : Result A Refusal) (items : A → List ℕ) (stop : A → Option Refusal) (text : List ℕ) (seed : Option ℕ) (s : Script) (given config : Setting) (es es' : List Event) → SaysScript text s → given ≡ setting_of s → AreRun given seed (map event_of s.events.items) es
    → config ≡ setting_of s → es' ≡ es → IfOk r (λ p. Reports config es' (stop p) (items p)) → IfOk r (λ p. Reported text seed (stop p) (items p))
reported-so (Ok p) items stop text seed s given config es es' says are run is same reports = record {
  s = s;
  es = es;
  says = says;
  events = subst (λ (x : Setting). AreRun x seed (map event_of s.events.items) es) are run;
  reports = subst (λ (x : Setting × List Event). Reports x.0 x.1 (stop p) (items p)) (λ i. (is i, same i)) reports;
}
reported-so (Err e) items stop text seed s given config es es' says are run is same reports = reports
