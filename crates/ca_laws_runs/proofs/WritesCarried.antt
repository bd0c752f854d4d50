-- Each request that was sent was called, and what a put or a plain write carries is what its caller
-- gave, over every event and run; and it is read from its message as that.
use Rattle.std.proofs.Common.{◌≡◌, ℕ, suc, ◌-◌, ◌*◌, ◌%◌, ◌≤◌, ◌≢◌, ⊎_elim, inl, inr, Bool, true, false, cond, eqb, List, [], ◌∷◌, ◌++◌, length, Option, Some, None, refl, sym, ap, ◌∙◌, subst, append-nil, arith}
use Rattle.std.specs.Prelude.{replicate}
use Rattle.std.specs.List.{FoldsTo}
use Rattle.std.proofs.lemmas.Bool.Decides.{eqb_tells}
use Rattle.std.proofs.lemmas.List.{length-append}
use Rattle.ca_text.specs.Place.{At}
use Rattle.ca_text.proofs.Places.{At-append, At-one, some_is}
use Rattle.ca_dbr.specs.declared.data_type.BaseType.{BaseType}
use Rattle.ca_dbr.specs.declared.data_type.BaseType.TheVariants as base
use Rattle.ca_dbr.specs.Elements.{Elements, IsValue, base_of, bytes_of, count_of}
use Rattle.ca_dbr.specs.Reading.{ReadsElements, filled}
use Rattle.ca_dbr.specs.Types.{base_number, element_size}
use Rattle.ca_dbr.proofs.Images.{length-bytes_of}
use Rattle.ca_dbr.proofs.OneReading.{reads_elements-one}
use Rattle.ca_wire.specs.Fields.{Fields, padded}
use Rattle.ca_model.specs.Due.{PutReads}
use Rattle.ca_model.specs.Images.{base_type_of}
use Rattle.ca_model.specs.Channels.{IsRequest}
use Rattle.ca_model.specs.History.{Cancel, Clear, Create, Intent, Line, OfCircuit, On, Put, Read, Request, Sent, Subscribe, Write}
use Rattle.ca_model.specs.Events.{Event}
use Rattle.ca_model.specs.Events as event
use Rattle.ca_model.specs.Runs.{AreEvents, Happens, Runs, StopsAt, clients_below}
use Rattle.ca_model.specs.World.{Joined, Setting, World, opening}
use Rattle.ca_laws_parts.proofs.RunsEvents.{stands-runs}
use Rattle.ca_laws_parts.proofs.WritesLists.{none_at}
use Rattle.ca_laws_runs.proofs.Joint.{are-snoc, folds-snoc}
use Rattle.ca_laws_runs.proofs.Kept.{quiet-runs}
use Rattle.ca_laws_runs.proofs.OnceRuns.{once-runs}
use Rattle.ca_laws_runs.proofs.OnceWorld.{OnceStand}
use Rattle.ca_laws_runs.proofs.OrderGrows.{ticks-grown}
use Rattle.ca_laws_runs.proofs.ToldGrows.{WorldsOn, event-on, on-grown}
use Rattle.ca_model.specs.Legal.{Carries}
use Rattle.ca_laws_runs.specs.Carried.{AllCarried, IsCalledIn, IsCarried, IsRead, IsWrite}
use Rattle.ca_laws_runs.proofs.WritesSaid.{CarriesBack, event-carries, ticks-carry}

-- ---- what is read of a message

base-named : (b : BaseType) → base_type_of (base_number b) ≡ Some b
base-named base.String = refl
base-named base.Int = refl
base-named base.Float = refl
base-named base.Enum = refl
base-named base.Char = refl
base-named base.Long = refl
base-named base.Double = refl

filled-whole : (b : BaseType) (count : ℕ) (bytes : List ℕ) → count * element_size b ≤ length bytes → filled b count bytes ≡ bytes
filled-whole base.String count bytes h =
    ⊎_elim (λ (one : (eqb count 1 ≡ true) × (count ≡ 1)).
    let none : 40 - length bytes ≡ 0 = omega arith in
    ap (λ (b : Bool). cond b (bytes ++ replicate (40 - length bytes) 0) bytes) one.0 ∙ ap (λ (n : ℕ). bytes ++ replicate n 0) none ∙ append-nil bytes)
    (λ (many : (eqb count 1 ≡ false) × (count ≢ 1)). ap (λ (b : Bool). cond b (bytes ++ replicate (40 - length bytes) 0) bytes) many.0)
    (eqb_tells count 1)
filled-whole base.Int count bytes h = refl
filled-whole base.Float count bytes h = refl
filled-whole base.Enum count bytes h = refl
filled-whole base.Char count bytes h = refl
filled-whole base.Long count bytes h = refl
filled-whole base.Double count bytes h = refl

reads-padded : (e : Elements) → IsValue e → ReadsElements (base_of e) (count_of e) (padded (bytes_of e)) e
reads-padded e valued =
    let zeros : List ℕ = replicate ((8 - length (bytes_of e) % 8) % 8) 0 in
    let size : length (bytes_of e) ≡ count_of e * element_size (base_of e) = length-bytes_of e valued in
    let long : count_of e * element_size (base_of e) ≤ length (bytes_of e ++ zeros) = omega (arith, size, length-append (bytes_of e) zeros) in
    record { behind = zeros; spelled = filled-whole (base_of e) (count_of e) (bytes_of e ++ zeros) long; based = refl; counted = refl; valued = valued }

-- what a message carries is read from it, and nothing else
pub reads-carried : (m : Fields) (e given : Elements) → IsValue e → Carries m e → PutReads m given → given ≡ e
reads-carried m e given valued c r =
    let b : base_of e ≡ r.base = some_is (base_of e) r.base (sym (base-named (base_of e)) ∙ ap base_type_of (sym c.typed) ∙ r.typed) in
    let reads : ReadsElements (base_of e) (count_of e) (padded (bytes_of e)) given = subst (λ (v : BaseType × ℕ × List ℕ). ReadsElements v.0 v.1 v.2 given) (λ i. (sym b i, c.counted i, c.payload i)) r.reads in
    reads_elements-one (base_of e) (count_of e) (padded (bytes_of e)) given e reads (reads-padded e valued)

-- ---- puts and plain writes

pub write-request : (i : Intent) → IsWrite i → IsRequest i
write-request (On c (Request Put m)) writes = tt
write-request (On c (Request Write m)) writes = tt
write-request (On c (Request Read m)) writes = absurd writes
write-request (On c Create) writes = absurd writes
write-request (On c Clear) writes = absurd writes
write-request (On c (Subscribe m)) writes = absurd writes
write-request (On c (Cancel m)) writes = absurd writes
write-request OfCircuit writes = absurd writes

not-read : (i : Intent) → IsWrite i → IsRead i → ⊥
not-read (On c (Request Put m)) writes reads = reads
not-read (On c (Request Write m)) writes reads = reads
not-read (On c (Request Read m)) writes reads = writes
not-read (On c Create) writes reads = writes
not-read (On c Clear) writes reads = writes
not-read (On c (Subscribe m)) writes reads = writes
not-read (On c (Cancel m)) writes reads = writes
not-read OfCircuit writes reads = writes

pub write-carried : (x : List Line) (s : Sent) → IsWrite s.intent → IsCalledIn x s → IsCarried x s
write-carried x s writes (inl read) = absurd (not-read s.intent writes read.0)
write-carried x s writes (inr c) = c.1

-- ---- every event

called-more : (x more : List Line) (s : Sent) → IsCalledIn x s → IsCalledIn (x ++ more) s
called-more x more s (inl read) = inl (read.0, (read.1.0, At-append x more read.1.0 _ read.1.1))
called-more x more s (inr (writes, c)) = inr (writes, record { given = c.given; called = (c.called.0, At-append x more c.called.0 _ c.called.1); valued = c.valued; carries = c.carries })

carried-on : (w new : World) → OnceStand w → CarriesBack w new → WorldsOn w new → AllCarried w → AllCarried new
carried-on w new once back on all n k d s x at at_s at_x writes = elim (back n d k s at at_s writes) [
  | inl old ↦
      let c : Joined = old.0 in
      let o = on.circuits n c old.1 in
      let one : o.0 ≡ d = At-one new.circuits n o.0 d o.1 at in
      let life : d.lists.client ≡ c.lists.client = ap (λ (v : Joined). v.lists.client) (sym one) ∙ o.2.client in
      let t = once.lives n c old.1 in
      let g = on.logs c.lists.client t.0 t.1 in
      let x_is : x ≡ t.0 ++ g.0 = At-one new.client_logs c.lists.client x (t.0 ++ g.0) (subst (λ (l : ℕ). At new.client_logs l x) life at_x) g.1 in
      subst (λ (l : List Line). IsCalledIn l s) (sym x_is) (called-more t.0 g.0 s (all n k c s t.0 old.1 old.2 t.1 writes))
  | inr z ↦ subst (λ (l : List Line). IsCalledIn l s) (At-one new.client_logs d.lists.client z.0 x z.1 at_x) z.2
]

-- ---- every run

after-carried : (s : Setting) (es rest : List Event) (w new : World) → AreEvents es → AreEvents rest → FoldsTo Happens (opening s) es w → FoldsTo Happens w rest new → AllCarried w → AllCarried new
after-carried s es [] w new are more folds same all = subst (λ (v : World). AllCarried v) same all
after-carried s es (e ∷ rest) w new are more folds (mid, one, others) all =
    let longer : AreEvents (es ++ e ∷ []) = are-snoc es e are (more 0 e refl) in
    let runs : Runs s es None w = (w, folds, refl) in
    let then_so : FoldsTo Happens (opening s) (es ++ e ∷ []) mid = folds-snoc es (opening s) w mid e folds one in
    let once : OnceStand w = once-runs s es None w runs in
    after-carried s (es ++ e ∷ []) rest mid new longer (λ i f at. more (suc i) f at) then_so others
    (carried-on w mid once (event-carries w mid e (more 0 e refl) (stands-runs s es None w runs) (quiet-runs s es None w runs) (quiet-runs s (es ++ e ∷ []) None mid (mid, then_so, refl)) once one) (event-on w mid e one) all)

pub run-carried : (s : Setting) (es : List Event) (stopped : Option Event) (w : World) → AreEvents es → Runs s es stopped w → AllCarried w
run-carried s es stopped w are (mid, folds, stops) = stop stopped stops
  where
    all : AllCarried mid
    all = after-carried s [] es (opening s) mid (λ i e at. absurd (none_at i e at)) are refl folds (λ n k c q x at. absurd (none_at n c at))

    stop : (stopped : Option Event) → StopsAt mid stopped w → AllCarried w
    stop (Some (event.Tick moment)) stops = elim stops [
      | inl same ↦ subst (λ (v : World). AllCarried v) (sym same) all
      | inr ticked ↦
          carried-on mid w (once-runs s es None mid (mid, folds, refl)) (ticks-carry moment (clients_below ticked.0) mid w ticked.3)
          (on-grown mid w (ticks-grown moment mid (clients_below ticked.0) w ticked.3)) all
    ]
    stop stopped stops = subst (λ (v : World). AllCarried v) (sym stops) all
