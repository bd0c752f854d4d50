-- A step of a server that handled a message, with what followed from it.
use Rattle.std.proofs.Common.{◌≡◌, ℕ, ◌⊎◌, inl, inr, Bool, true, false, cond, eqb, filter, not, List, [], ◌∷◌, ◌++◌, length, take, Option, Some, None, refl, sym, ap, ◌∙◌, subst}
use Rattle.std.specs.Prelude.{option_map, unwrap_or}
use Rattle.ca_arena.specs.declared.handle.Handle.{Handle}
use Rattle.ca_beacon.specs.Clock.{Clock}
use Rattle.ca_ids.specs.Table.{Table, by_wire, same_handle, under, with_changed, with_freed}
use Rattle.ca_link.specs.Link.{LinkState}
use Rattle.ca_dbr.specs.Elements.{Elements}
use Rattle.ca_queue.specs.Keys.{same}
use Rattle.ca_records.specs.declared.puts.Put.{Put}
use Rattle.ca_records.specs.Puts.{Record, withdrawn, written_meta}
use Rattle.ca_records.specs.Store.{Store, records_of}
use Rattle.ca_text.specs.Place.{At}
use Rattle.ca_text.proofs.Places.{At-snoc, some_is}
use Rattle.ca_wire.specs.Fields.{Fields}
use Rattle.ca_wire.specs.Message.{spelled}
use Rattle.ca_server_watchers.specs.Watching.{IsAmong, Watched, watching}
use Rattle.ca_model.specs.Due.{Action, Adds, Applies, Clears, Drops, Greets, KnownChannel, Names, Nothing, Opens, Switches, Waits}
use Rattle.ca_model.specs.Ends as why
use Rattle.ca_model.specs.Server.{Ended, Open, OpenChannel, Server, ServerCircuit, ServerEnd, Subscription, key_of, with_post}
use Rattle.ca_model.specs.ServerSteps.{Acts, LacksMemory, MayEnd, NeedsMemory, Next, Reaches, Stepped, Steps, StepsAt, after_post, closed, is_write, output_of, reached, stored_now, write_mask}
use Rattle.ca_model.specs.ServerSteps as steps
use Rattle.ca_model.specs.Speech.{In, Stored}
use Rattle.ca_server_circuit.specs.declared.cause.EndCause.{EndCause}
use Rattle.ca_server_circuit.specs.declared.effect.Effect.{Effect}
use Rattle.ca_server_circuit.specs.declared.step.FollowUp.{FollowUp}
use Rattle.ca_server_circuit.specs.declared.step.FollowUp.TheVariants as effect
use Rattle.ca_server_circuit.specs.declared.step.EndStep.TheVariants as step
use Rattle.ca_server_core.specs.declared.stepping.CoreStep.{CoreStep}
use Rattle.ca_server_core.specs.Covering.{AreLed, AreListed, Covers, HasTo, Leads}
use Rattle.ca_server_circuit.specs.Ending.{EndsAt}
use Rattle.ca_server_core.specs.Ending.{EndsIn}
use Rattle.ca_server_core.specs.Following.{CoversFor, Follows, IsSettled, LedFor, Settles}
use Rattle.ca_server_circuit.specs.Circuits.{is_open}
use Rattle.ca_server_circuit.specs.Handling.{Does, Fits, Recorded, Tells, is_wrote}
use Rattle.ca_server_core.specs.Reaching.{ReachesAll}
use Rattle.ca_server_circuit.specs.Serving.{CircuitSteps}
use Rattle.ca_server_core.specs.Effects.{action_at, action_of, message_at, message_of}
use Rattle.ca_server_core.specs.Serving.{Reports, StepsIn, more_applied, stepped}
use Rattle.ca_server_core.specs.Sound.{IsSound}
use Rattle.ca_server_circuit.specs.Stepping.{EndSteps, after_first, why_is}
use Rattle.ca_server_core.proofs.Closing.{none-waits, not-ended, sound-freed}
use Rattle.ca_server_core.proofs.Covered.{Thins, covers-changed, thins-both, thins-ended, thins-freed, thins-same, to-same}
use Rattle.ca_server_core.proofs.Each.{under-each}
use Rattle.ca_server_core.proofs.Led.{leads-changed}
use Rattle.ca_server_core.proofs.Reached.{there-is}
use Rattle.ca_server_core.proofs.Servers.{became, freed-changed, freed-nothing, same-parts, server_of, stayed}
use Rattle.ca_server_circuit.proofs.Stays.{at-filtered, link-kept}
use Rattle.ca_server_core.proofs.Stepped.{handled-next, none-wrote, not-some, step-at}
use Rattle.ca_server_circuit.proofs.Dues.{lack-create}
use Rattle.ca_server_circuit.proofs.Tables.{changed-back, changed-own, freed-back, held-back}

abbrev Circuits : Type 0
Circuits = Table ServerCircuit

open-is : (a b : ServerEnd) → Open a ≡ Open b → a ≡ b
open-is a b e = cc

-- ---- the subscriptions of the end

-- a subscription was there, or began
abbrev Joined : Action → ServerEnd → Subscription → Type 0
Joined (Adds x) e s = In e.subscriptions s ⊎ (s ≡ x)
Joined a e s = In e.subscriptions s

same-in : (e new : ServerEnd) (s : Subscription) → new.subscriptions ≡ e.subscriptions → In new.subscriptions s → In e.subscriptions s
same-in e new s same i = subst (λ (ss : List Subscription). In ss s) same i

fewer-in : (e new : ServerEnd) (s : Subscription) (test : Subscription → Bool) → new.subscriptions ≡ filter test e.subscriptions → In new.subscriptions s → In e.subscriptions s
fewer-in e new s test is i =
    let f = at-filtered test e.subscriptions i.0 s (subst (λ (ss : List Subscription). At ss i.0 s) is i.1) in
    (f.0, f.1)

joined-by : (y : Server) (e : ServerEnd) (a : Action) (new : ServerEnd) (s : Subscription) → Acts y e a new → In new.subscriptions s → Joined a e s
joined-by y e Nothing new s is i = same-in e new s (ap (λ (x : ServerEnd). x.subscriptions) is) i
joined-by y e Greets new s is i = same-in e new s (ap (λ (x : ServerEnd). x.subscriptions) is) i
joined-by y e (Names p) new s is i = same-in e new s (ap (λ (x : ServerEnd). x.subscriptions) is) i
joined-by y e (Opens c) new s is i = same-in e new s (ap (λ (x : ServerEnd). x.subscriptions) is.3) i
joined-by y e (Clears sid) new s is i =
    fewer-in e new s (λ (x : Subscription). not (eqb (key_of x).sid sid)) (ap (λ (x : ServerEnd). x.subscriptions) is) i
joined-by y e (Applies n v b) new s is i = same-in e new s (ap (λ (x : ServerEnd). x.subscriptions) is) i
joined-by y e (Waits n v) new s is i = same-in e new s (ap (λ (x : ServerEnd). x.subscriptions) is) i
joined-by y e (Adds x) new s is i =
    let more = subst (λ (ss : List Subscription). At ss i.0 s) (ap (λ (z : ServerEnd). z.subscriptions) is.2.leaves) i.1 in
    elim (At-snoc e.subscriptions x i.0 s more) [
      | inl old ↦ inl (i.0, old)
      | inr own ↦ inr own.1
    ]
joined-by y e (Drops k) new s is i = fewer-in e new s (λ (x : Subscription). not (same k (key_of x))) (ap (λ (x : ServerEnd). x.subscriptions) is) i
joined-by y e (Switches on) new s is i = same-in e new s (ap (λ (x : ServerEnd). x.subscriptions) is) i

-- ---- the channels of the end

-- there was a channel to the record, or one is created
abbrev Led : Action → ServerEnd → List ℕ → Type 0
Led (Opens c) e n = HasTo e n ⊎ (n ≡ c.name)
Led a e n = HasTo e n

led-by : (y : Server) (e : ServerEnd) (a : Action) (new : ServerEnd) (n : List ℕ) → Acts y e a new → HasTo new n → Led a e n
led-by y e Nothing new n is to = to-same new e n (ap (λ (x : ServerEnd). x.channels) is) to
led-by y e Greets new n is to = to-same new e n (ap (λ (x : ServerEnd). x.channels) is) to
led-by y e (Names p) new n is to = to-same new e n (ap (λ (x : ServerEnd). x.channels) is) to
led-by y e (Opens c) new n is to =
    let made : OpenChannel = record { cid = c.cid; name = c.name; retired = false } in
    let after = ap (λ (x : ServerEnd). x.channels) is.3 in
    elim (held-back e.channels to.0 is.0 made to.1 (subst (λ (t : Table OpenChannel). under t to.0 ≡ Some to.1) after to.2)) [
      | inl own ↦ inr (sym to.4 ∙ ap (λ (x : OpenChannel). x.name) own.1)
      | inr old ↦ inl (to.0, to.1, old, to.3, to.4)
    ]
led-by y e (Clears sid) new n is to =
    (to.0, to.1, by (by_wire e.channels sid) (subst (λ (t : Table OpenChannel). under t to.0 ≡ Some to.1) (ap (λ (x : ServerEnd). x.channels) is) to.2), to.3, to.4)
  where
    by : (found : Option (Handle × OpenChannel)) → under (unwrap_or (option_map (λ (c : Handle × OpenChannel). with_freed c.0 e.channels) found) e.channels) to.0 ≡ Some to.1 → under e.channels to.0 ≡ Some to.1
    by None at = at
    by (Some f) at = (freed-back e.channels to.0 f.0 to.1 at).1
led-by y e (Applies m v b) new n is to = to-same new e n (ap (λ (x : ServerEnd). x.channels) is) to
led-by y e (Waits m v) new n is to = to-same new e n (ap (λ (x : ServerEnd). x.channels) is) to
led-by y e (Adds s) new n is to = to-same new e n (ap (λ (x : ServerEnd). x.channels) is.2.leaves) to
led-by y e (Drops k) new n is to = to-same new e n (ap (λ (x : ServerEnd). x.channels) is) to
led-by y e (Switches on) new n is to = to-same new e n (ap (λ (x : ServerEnd). x.channels) is) to

-- ---- what a message was

-- a write was applied, a subscription began, a channel was created, or none of these
pub data Kind (m : Fields) (a : Action) (did : FollowUp) (u : Store) : Type 0 where
  Writes : (name : List ℕ) → (value : Elements) → (busies : Bool) → a ≡ Applies name value busies → Tells m (Applies name value busies) did u → Kind m a did u
  Begins : (x : Subscription) → a ≡ Adds x → Tells m (Adds x) did u → Kind m a did u
  Creates : (c : KnownChannel) → a ≡ Opens c → Tells m (Opens c) did u → Kind m a did u
  Rests : (said : Effect) → did ≡ effect.Quiet said → ((y : Server) → Reaches a (λ (h : Handle). false) y y) → ((e : ServerEnd) (s : Subscription) → Joined a e s → In e.subscriptions s) → ((e : ServerEnd) (n : List ℕ) → Led a e n → HasTo e n) → Kind m a did u

kind-of : (m : Fields) (a : Action) (did : FollowUp) (u : Store) → Tells m a did u → Kind m a did u
kind-of m (Applies name value busies) did u is = Writes name value busies refl is
kind-of m (Adds x) did u is = Begins x refl is
kind-of m Nothing did u is = Rests _ is (λ y. ((λ h. refl), refl)) (λ e s i. i) (λ e n i. i)
kind-of m Greets did u is = Rests _ is (λ y. ((λ h. refl), refl)) (λ e s i. i) (λ e n i. i)
kind-of m (Names p) did u is = Rests _ is (λ y. ((λ h. refl), refl)) (λ e s i. i) (λ e n i. i)
kind-of m (Opens c) did u is = Creates c refl is
kind-of m (Clears sid) did u is = Rests _ is (λ y. ((λ h. refl), refl)) (λ e s i. i) (λ e n i. i)
kind-of m (Waits name value) did u is = Rests _ is (λ y. ((λ h. refl), refl)) (λ e s i. i) (λ e n i. i)
kind-of m (Drops k) did u is = Rests _ is (λ y. ((λ h. refl), refl)) (λ e s i. i) (λ e n i. i)
kind-of m (Switches on) did u is = Rests _ is (λ y. ((λ h. refl), refl)) (λ e s i. i) (λ e n i. i)

-- ---- who watches then

covers-handled : (w : Watched) (y : Server) (s u : Store) (t : Circuits) (h : Handle) (was e new : ServerEnd) (m : Fields) (did : FollowUp) (D : List Fields → Action → Type 0) → y.records ≡ records_of s → e.subscriptions ≡ was.subscriptions → under t h ≡ Some (Open was) → Does D s h e m did u new → Covers w t → CoversFor did h u w (with_changed (λ (c : ServerCircuit). Open new) h t)
covers-handled w y s u t h was e new m did D same subs there d covers = by (kind-of m d.action did u d.tells)
  where
    after : Circuits
    after = with_changed (λ (c : ServerCircuit). Open new) h t

    joined : (x : Subscription) → In new.subscriptions x → Joined d.action e x
    joined x i = joined-by y e d.action d.acted x (d.acts y same) (same-in d.acted new x (ap (λ (z : ServerEnd). z.subscriptions) d.leaves) i)

    old-in : (x : Subscription) → In e.subscriptions x → In was.subscriptions x
    old-in x i = subst (λ (ss : List Subscription). In ss x) subs i

    thinner : ((x : Subscription) → Joined d.action e x → In e.subscriptions x) → Covers w after
    thinner none = covers-changed w t h was new there (λ x i. old-in x (none x (joined x i))) covers

    by : Kind m d.action did u → CoversFor did h u w after
    by (Rests said quiet reach none less) = subst (λ (k : FollowUp). CoversFor k h u w after) (sym quiet) (thinner (λ x j. none e x j))
    by (Creates c is told) =
        subst (λ (k : FollowUp). CoversFor k h u w after) (sym told.2)
        (thinner (λ x j. subst (λ (a : Action). Joined a e x → In e.subscriptions x) (sym is) (λ i. i) j))
    by (Writes name value busies is told) =
        subst (λ (k : FollowUp). CoversFor k h u w after) (sym told.2)
        ((told.1, told.3), thinner (λ x j. subst (λ (a : Action). Joined a e x → In e.subscriptions x) (sym is) (λ i. i) j))
    by (Begins x is told) =
        subst (λ (k : FollowUp). CoversFor k h u w after) (sym told.2) (
          told.1,
          told.3,
          (Open new, changed-own (λ (c : ServerCircuit). Open new) t h (Open was) there),
          (λ g z q at i. elim (changed-back (λ (c : ServerCircuit). Open new) t g h (Open z) at) [
            | inl own ↦
                let i_new = subst (λ (v : ServerEnd). In v.subscriptions q) (open-is z new own.1.2) i in
                elim (subst (λ (a : Action). Joined a e q) is (joined q i_new)) [
                  | inl old ↦ inl (subst (λ (k : Handle). IsAmong (watching w q.name) k) (sym own.0) (covers h was q there (old-in q old)))
                  | inr new_one ↦ inr (own.0, ap (λ (v : Subscription). v.name) new_one ∙ sym told.4)
                ]
            | inr old ↦ inl (covers g z q old.1 i)
          ]),
        )

pub step-covers : (port : ℕ) (w : Watched) (s u : Store) (t after : Circuits) (h : Handle) (did : FollowUp) → StepsIn port t h s (Some (step.Handled did)) after u → Covers w t → CoversFor did h u w after
step-covers port w s u t after h did (inr none) covers = not-some (step.Handled did) none.1
step-covers port w s u t after h did (inl g) covers = by g.0 g.1 g.2 g.3 g.4
  where
    y : Server
    y = server_of port s 0 t (record { number = 0; wait = 0; due = 0 }) 0

    by : (c new : ServerCircuit) → under t h ≡ Some c → CircuitSteps port h c s (Some (step.Handled did)) new u → after ≡ with_changed (λ (x : ServerCircuit). new) h t → CoversFor did h u w after
    by (Open e) new there d changed =
        subst (λ (z : Circuits). CoversFor did h u w z) (sym (became t after h new (Open d.0) changed d.4))
        (covers-handled w y s u t h e (after_first d.1.0) d.0 d.1.0.m did _ refl refl there d.1.1 covers)
    by (Ended v left) new there d changed = not-some (step.Handled did) d.0

-- ---- who leads to records then

led-handled : (l : Watched) (y : Server) (s u : Store) (t : Circuits) (h : Handle) (was e new : ServerEnd) (m : Fields) (did : FollowUp) (D : List Fields → Action → Type 0) → y.records ≡ records_of s → e.channels ≡ was.channels → under t h ≡ Some (Open was) → Does D s h e m did u new → Leads l t → AreListed (records_of u) l → LedFor did h u l (with_changed (λ (c : ServerCircuit). Open new) h t)
led-handled l y s u t h was e new m did D same chans there d leads listed = by (kind-of m d.action did u d.tells)
  where
    after : Circuits
    after = with_changed (λ (c : ServerCircuit). Open new) h t

    led : (n : List ℕ) → HasTo new n → Led d.action e n
    led n to = led-by y e d.action d.acted n (d.acts y same) (to-same new d.acted n (ap (λ (z : ServerEnd). z.channels) d.leaves) to)

    old-to : (n : List ℕ) → HasTo e n → HasTo was n
    old-to n to = to-same e was n chans to

    fewer : ((n : List ℕ) → Led d.action e n → HasTo e n) → AreLed (records_of u) l after
    fewer none = record { leads = leads-changed l t h was new there (λ n to. old-to n (none n (led n to))) leads; listed = listed }

    by : Kind m d.action did u → LedFor did h u l after
    by (Rests said quiet reach none less) = subst (λ (k : FollowUp). LedFor k h u l after) (sym quiet) (fewer (λ n to. less e n to))
    by (Writes name value busies is told) =
        subst (λ (k : FollowUp). LedFor k h u l after) (sym told.2)
        (fewer (λ n to. subst (λ (a : Action). Led a e n → HasTo e n) (sym is) (λ i. i) to))
    by (Begins x is told) =
        subst (λ (k : FollowUp). LedFor k h u l after) (sym told.2)
        (fewer (λ n to. subst (λ (a : Action). Led a e n → HasTo e n) (sym is) (λ i. i) to))
    by (Creates c is told) =
        subst (λ (k : FollowUp). LedFor k h u l after) (sym told.2) (
          told.1,
          told.3,
          (Open new, changed-own (λ (c : ServerCircuit). Open new) t h (Open was) there),
          (λ g z n at to. elim (changed-back (λ (c : ServerCircuit). Open new) t g h (Open z) at) [
            | inl own ↦
                let to_new = subst (λ (v : ServerEnd). HasTo v n) (open-is z new own.1.2) to in
                elim (subst (λ (a : Action). Led a e n) is (led n to_new)) [
                  | inl old ↦ inl (subst (λ (k : Handle). IsAmong (watching l n) k) (sym own.0) (leads h was n there (old-to n old)))
                  | inr new_one ↦ inr (own.0, new_one ∙ sym told.4)
                ]
            | inr old ↦ inl (leads g z n old.1 to)
          ]),
          listed,
        )

pub step-led : (port : ℕ) (l : Watched) (s u : Store) (t after : Circuits) (h : Handle) (did : FollowUp) → StepsIn port t h s (Some (step.Handled did)) after u → AreListed (records_of u) l → AreLed (records_of s) l t → LedFor did h u l after
step-led port l s u t after h did (inr none) listed led = not-some (step.Handled did) none.1
step-led port l s u t after h did (inl g) listed led = by g.0 g.1 g.2 g.3 g.4
  where
    y : Server
    y = server_of port s 0 t (record { number = 0; wait = 0; due = 0 }) 0

    by : (c new : ServerCircuit) → under t h ≡ Some c → CircuitSteps port h c s (Some (step.Handled did)) new u → after ≡ with_changed (λ (x : ServerCircuit). new) h t → LedFor did h u l after
    by (Open e) new there d changed =
        subst (λ (z : Circuits). LedFor did h u l z) (sym (became t after h new (Open d.0) changed d.4))
        (led-handled l y s u t h e (after_first d.1.0) d.0 d.1.0.m did _ refl refl there d.1.1 led.leads listed)
    by (Ended v left) new there d changed = not-some (step.Handled did) d.0

-- ---- the step

-- what waited first is left
first-left : (l : LinkState) (ms : List Fields) → take (length l.output) (l.output ++ spelled ms) ≡ l.output
first-left l ms = by l.output
  where
    by : (xs : List ℕ) → take (length xs) (xs ++ spelled ms) ≡ xs
    by [] = none (spelled ms)
      where
        none : (ys : List ℕ) → take 0 ys ≡ []
        none ys = refl
    by (x ∷ xs) = ap (λ (zs : List ℕ). x ∷ zs) (by xs)

handled-output : (y : Server) (s u : Store) (h : Handle) (was e new : ServerEnd) (m : Fields) (did : FollowUp) (D : List Fields → Action → Type 0) → y.records ≡ records_of s → e.link.output ≡ was.link.output → Does D s h e m did u new → take (length was.link.output) new.link.output ≡ was.link.output
handled-output y s u h was e new m did D same out d =
    let kept : d.acted.link ≡ e.link = link-kept y e d.action d.acted (d.acts y same) in
    let sent : new.link.output ≡ was.link.output ++ spelled d.replies = ap (λ (x : ServerEnd). x.link.output) d.leaves ∙ ap (λ (l : LinkState). l.output ++ spelled d.replies) kept ∙ ap (λ (o : List ℕ). o ++ spelled d.replies) out in
    ap (λ (o : List ℕ). take (length was.link.output) o) sent ∙ first-left was.link d.replies

-- a step that handled a message whose action is one of these
abbrev pub HandledBy : (P : Fields → Action → Type 0) → Server → Handle → Server → Type 0
HandledBy P old h new = (d : Steps old h steps.Handled new) × P (message_of old h new d) (action_of old h new d)

-- any step, and that of it
abbrev pub MakesBy : (P : Fields → Action → Type 0) → Server → Handle → Stepped → Server → Type 0
MakesBy P old h steps.Handled new = HandledBy P old h new
MakesBy P old h did new = Steps old h did new

made-by : (P : Fields → Action → Type 0) (y : Server) (h : Handle) (did : Stepped) (new : Server) → MakesBy P y h did new → Steps y h did new
made-by P y h steps.Handled new made = made.0
made-by P y h steps.NeedBytes new made = made
made-by P y h steps.OutputFull new made = made
made-by P y h (steps.Closed w left) new made = made

step-by : (P : Fields → Action → Type 0) (y : Server) (h : Handle) (e : ServerEnd) (new : Server) → under y.circuits h ≡ Some (Open e) → (d : StepsAt y h (Some (Open e)) steps.Handled new) → P d.0.m d.0.action → HandledBy P y h new
step-by P y h e new there d p =
    subst (λ (o : Option ServerCircuit). (z : StepsAt y h o steps.Handled new) × P (message_at y h new o z) (action_at y h new o z)) (sym there) (d, p)

module _ (port now n : ℕ) (b : Clock) (s u : Store) (t : Circuits) (h : Handle) (e new : ServerEnd) (did : FollowUp) (there : under t h ≡ Some (Open e)) (d : EndSteps port h e s (step.Handled did) new u) (P : Fields → Action → Type 0) (holds : P d.0.m d.1.action) where
  abbrev y : Server
  y = server_of port s now t b n

  abbrev mid_table : Circuits
  mid_table = with_changed (λ (x : ServerCircuit). Open new) h t

  abbrev k : ℕ
  k = more_applied (is_wrote did) n

  abbrev mid : Server
  mid = server_of port u now (with_changed (λ (x : ServerCircuit). Open new) h t) b (more_applied (is_wrote did) n)

  here : under (with_changed (λ (x : ServerCircuit). Open new) h t) h ≡ Some (Open new)
  here = changed-own (λ (x : ServerCircuit). Open new) t h (Open e) there

  the-next : (next : Next y h e) × (next.after ≡ mid) × (next.action ≡ d.1.action) × (next.m ≡ d.0.m)
  the-next = handled-next port now n b s u t (with_changed (λ (x : ServerCircuit). Open new) h t) h e new did d refl

  -- it stays open, and nothing else follows or all of it did
  stays-open : (x : Store) (last : Circuits) (result : CoreStep) (final : Circuits) (z : ServerEnd) (gone : Handle → Bool) → gone h ≡ false → under last h ≡ Some (Open z) → Settles last h (length e.link.output) result final → Reaches the-next.0.action gone the-next.0.after (server_of port x now last b k)
      → MakesBy P y h (stepped result) (server_of port x now final b k)
  stays-open x last result final z gone stays at settled reach =
      let answer : stepped result ≡ steps.Handled = subst (λ (o : Option ServerCircuit). IsSettled o (length e.link.output) result) at settled.0 in
      let same : final ≡ last = settled.1 ∙ ap (λ (o : Option ServerCircuit). cond (is_open o) last (with_freed h last)) at in
      subst (λ (r : Stepped). MakesBy P y h r (server_of port x now final b k)) (sym answer)
      (subst (λ (c : Circuits). MakesBy P y h steps.Handled (server_of port x now c b k)) (sym same)
      (step-by P y h e (server_of port x now last b k) there (the-next.0, gone, stays, reach) (subst (λ (z : Fields). P z the-next.0.action) (sym the-next.3) (subst (λ (a : Action). P d.0.m a) (sym the-next.2) holds))))

  -- it has ended out of memory for what follows
  ended-after : (x : Store) (last : Circuits) (result : CoreStep) (final : Circuits) (left : List ℕ) → under last h ≡ Some (Ended why.OutOfMemory left) → take (length e.link.output) left ≡ e.link.output → Settles last h (length e.link.output) result final → LacksMemory y h e (server_of port x now (with_freed h last) b k)
      → MakesBy P y h (stepped result) (server_of port x now final b k)
  ended-after x last result final left at first settled lacks =
      let answer : stepped result ≡ steps.Closed why.OutOfMemory (take (length e.link.output) left) = subst (λ (o : Option ServerCircuit). IsSettled o (length e.link.output) result) at settled.0 in
      let same : final ≡ with_freed h last = settled.1 ∙ ap (λ (o : Option ServerCircuit). cond (is_open o) last (with_freed h last)) at in
      subst (λ (r : Stepped). MakesBy P y h r (server_of port x now final b k)) (sym (answer ∙ ap (λ (l : List ℕ). steps.Closed why.OutOfMemory l) first))
      (subst (λ (c : Circuits). MakesBy P y h (steps.Closed why.OutOfMemory e.link.output) (server_of port x now c b k)) (sym same)
      (step-at port now n b y h (Open e) (steps.Closed why.OutOfMemory e.link.output) (server_of port x now (with_freed h last) b k) there (refl, lacks)))

  left-is : take (length e.link.output) new.link.output ≡ e.link.output
  left-is = handled-output y s u h e (after_first d.0) new d.0.m did _ refl refl d.1

  -- a message with nothing to follow
  rests : (x : Store) (last : Circuits) (result : CoreStep) (final : Circuits) (said : Effect) → did ≡ effect.Quiet said → ((z : Server) → Reaches the-next.0.action (λ (g : Handle). false) z z) → Follows did h mid_table u last x → Settles last h (length e.link.output) result final
      → MakesBy P y h (stepped result) (server_of port x now final b k)
  rests x last result final said quiet reach f settled =
      let same = subst (λ (q : FollowUp). Follows q h mid_table u last x) quiet f in
      let whole : server_of port x now last b k ≡ the-next.0.after = ap (λ (z : Store). server_of port z now last b k) same.1 ∙ ap (λ (z : Circuits). server_of port u now z b k) same.0 ∙ sym the-next.1 in
      stays-open x last result final new (λ (g : Handle). false) refl (ap (λ (z : Circuits). under z h) same.0 ∙ here) settled
      (subst (λ (z : Server). Reaches the-next.0.action (λ (g : Handle). false) the-next.0.after z) (sym whole) (reach the-next.0.after))

  -- a write
  writes : (x : Store) (last : Circuits) (result : CoreStep) (final : Circuits) (name : List ℕ) (value : Elements) (busies : Bool) → the-next.0.action ≡ Applies name value busies → Tells d.0.m (Applies name value busies) did u → Follows did h mid_table u last x → IsSound (records_of x) last → Settles last h (length e.link.output) result final
      → MakesBy P y h (stepped result) (server_of port x now final b k)
  writes x last result final name value busies is told f sound settled =
      let from = subst (λ (q : FollowUp). Follows q h mid_table u last x) told.2 f in
      let r = from.0 in
      let same : told.1 ≡ r = there-is u told.0 told.1 r told.3 from.1 in
      let v : Stored = stored_now mid value in
      let name_is : r.state.name ≡ name = ap (λ (q : Record). q.state.name) (sym same) ∙ told.4 in
      let value_is : r.state.value ≡ value = ap (λ (q : Record). q.state.value) (sym same) ∙ told.5 in
      let meta_is : r.state.meta ≡ written_meta value u.stamp = ap (λ (q : Record). q.state.meta) (sym same) ∙ told.6 in
      let v_is : (record { value = r.state.value; meta = r.state.meta }) ≡ v = (λ i. record { value = value_is i; meta = meta_is i }) in
      let all : ReachesAll name write_mask v from.2.0 mid_table u last x =
      subst (λ (q : List ℕ × Stored). ReachesAll q.0 write_mask q.1 from.2.0 mid_table u last x) (λ i. (name_is i, v_is i)) from.2.1 in
      by-gone x last result final name value busies is from.2.0 all sound settled (from.2.0 h) refl
    where
      by-gone : (x : Store) (last : Circuits) (result : CoreStep) (final : Circuits) (name : List ℕ) (value : Elements) (busies : Bool) → the-next.0.action ≡ Applies name value busies → (gone : Handle → Bool) → ReachesAll name write_mask (stored_now mid value) gone mid_table u last x → IsSound (records_of x) last → Settles last h (length e.link.output) result final
          → (q : Bool) → gone h ≡ q → MakesBy P y h (stepped result) (server_of port x now final b k)
      by-gone x last result final name value busies is gone all sound settled q out =
          let v : Stored = stored_now mid value in
          let posted : server_of port x now last b k ≡ after_post name write_mask v gone mid = same-parts port now b x.rules u.rules (records_of x) _ x.stamp u.stamp last _ k k all.rules all.records all.stamp all.circuits refl in
          let reach_mid : Reaches (Applies name value busies) gone mid (server_of port x now last b k) = (all.may, posted) in
          let reach : Reaches the-next.0.action gone the-next.0.after (server_of port x now last b k) =
          subst (λ (z : Server). Reaches the-next.0.action gone z (server_of port x now last b k)) (sym the-next.1) (subst (λ (a : Action). Reaches a gone mid (server_of port x now last b k)) (sym is) reach_mid) in
          let at : under last h ≡ Some (reached name write_mask v gone h (Open new)) = ap (λ (z : Circuits). under z h) all.circuits ∙ under-each (reached name write_mask v gone) mid_table h (Open new) here in
          on q out v at reach
        where
          on : (q : Bool) → gone h ≡ q → (v : Stored) → under last h ≡ Some (reached name write_mask v gone h (Open new)) → Reaches the-next.0.action gone the-next.0.after (server_of port x now last b k) → MakesBy P y h (stepped result) (server_of port x now final b k)
          on false out v at reach =
              stays-open x last result final (with_post name write_mask v new) gone out (at ∙ ap (λ (z : Bool). Some (cond z (Ended why.OutOfMemory new.link.output) (Open (with_post name write_mask v new)))) out) settled reach
          on true out v at reach =
              let ended : under last h ≡ Some (Ended why.OutOfMemory new.link.output) = at ∙ ap (λ (z : Bool). Some (cond z (Ended why.OutOfMemory new.link.output) (Open (with_post name write_mask v new)))) out in
              let clear : withdrawn (λ (p : Put). same_handle p.circuit h) (records_of x) ≡ records_of x = none-waits (records_of x) last h sound (λ z open_at. not-ended z why.OutOfMemory new.link.output (some_is (Open z) (Ended why.OutOfMemory new.link.output) (sym open_at ∙ ended))) in
              ended-after x last result final new.link.output ended left-is settled (record {
                next = the-next.0;
                needs = subst (λ (a : Action). NeedsMemory the-next.0.m the-next.0.replies a) (sym is) tt;
                written = Some gone;
                itself = λ g wrote. subst (λ (f : Handle → Bool). f h ≡ true) (some_is gone g wrote) out;
                mid = server_of port x now last b k;
                left_is = (ap (λ (a : Action). is_write a) is, reach);
                leaves = same-parts port now b x.rules x.rules (records_of x) _ x.stamp x.stamp (with_freed h last) _ k k refl (sym clear) refl refl refl;
              })

  -- a subscription that began, or a channel that was created
  begins : (x : Store) (last : Circuits) (result : CoreStep) (final : Circuits) → ((z : Server) → Reaches the-next.0.action (λ (g : Handle). false) z z) → NeedsMemory the-next.0.m the-next.0.replies the-next.0.action → records_of u ≡ records_of s → is_wrote did ≡ false → ((last ≡ mid_table) × (x ≡ u)) ⊎ EndsIn mid_table h u why.OutOfMemory last x → Settles last h (length e.link.output) result final
      → MakesBy P y h (stepped result) (server_of port x now final b k)
  begins x last result final reach needs rs-same quiet f settled = by f
    where
      count-is : k ≡ n
      count-is = ap (λ (z : Bool). more_applied z n) quiet

      by : ((last ≡ mid_table) × (x ≡ u)) ⊎ EndsIn mid_table h u why.OutOfMemory last x → MakesBy P y h (stepped result) (server_of port x now final b k)
      by (inl same) =
          let whole : server_of port x now last b k ≡ the-next.0.after = ap (λ (z : Store). server_of port z now last b k) same.1 ∙ ap (λ (z : Circuits). server_of port u now z b k) same.0 ∙ sym the-next.1 in
          stays-open x last result final new (λ (g : Handle). false) refl (ap (λ (z : Circuits). under z h) same.0 ∙ here) settled
          (subst (λ (z : Server). Reaches the-next.0.action (λ (g : Handle). false) the-next.0.after z) (sym whole) (reach the-next.0.after))
      by (inr (inr none)) = nothing (sym none.0 ∙ here)
        where
          nothing : {A : Type 0} → (let none : Option ServerCircuit = None in none ≡ Some (Open new)) → A
          nothing z = absurd cc
      by (inr (inl g)) = on g.0 g.1 (some_is (Open new) g.0 (sym here ∙ g.2)) g.3 g.4
        where
          on : (c ended : ServerCircuit) → Open new ≡ c → EndsAt h c u why.OutOfMemory ended x → last ≡ with_changed (λ (z : ServerCircuit). ended) h mid_table → MakesBy P y h (stepped result) (server_of port x now final b k)
          on (Ended v l) ended same did_end changed = absurd (not-ended new v l same)
          on (Open z) ended same did_end changed =
              let own : z ≡ new = sym (open-is new z same) in
              let out = did_end.0 ∙ ap (λ (w : ServerEnd). Ended why.OutOfMemory w.link.output) own in
              let last_is : last ≡ with_changed (λ (w : ServerCircuit). Ended why.OutOfMemory new.link.output) h mid_table = became mid_table last h ended (Ended why.OutOfMemory new.link.output) changed out in
              let at : under last h ≡ Some (Ended why.OutOfMemory new.link.output) = ap (λ (w : Circuits). under w h) last_is ∙ changed-own (λ (w : ServerCircuit). Ended why.OutOfMemory new.link.output) mid_table h (Open new) here in
              let freed : with_freed h last ≡ with_freed h t = ap (λ (w : Circuits). with_freed h w) last_is ∙ freed-changed mid_table h (Open new) (Ended why.OutOfMemory new.link.output) here ∙ freed-changed t h (Open e) (Open new) there in
              ended-after x last result final new.link.output at left-is settled (record {
                next = the-next.0;
                needs = needs;
                written = None;
                itself = λ g wrote. none-wrote g wrote;
                mid = y;
                left_is = refl;
                leaves = same-parts port now b x.rules s.rules (records_of x) _ x.stamp s.stamp (with_freed h last) (with_freed h t) k n (did_end.1.rules ∙ d.1.rules) (did_end.1.records ∙ ap (λ (rs : List Record). withdrawn (λ (p : Put). same_handle p.circuit h) rs) rs-same) (did_end.1.stamp ∙ d.1.stamp) freed count-is;
              })

  pub handled-all : (x : Store) (last : Circuits) (result : CoreStep) (final : Circuits) → Follows did h mid_table u last x → IsSound (records_of x) last → Settles last h (length e.link.output) result final → MakesBy P y h (stepped result) (server_of port x now final b k)
  handled-all x last result final f sound settled = by (kind-of d.0.m d.1.action did u d.1.tells)
    where
      by : Kind d.0.m d.1.action did u → MakesBy P y h (stepped result) (server_of port x now final b k)
      by (Rests said quiet reach none less) =
          rests x last result final said quiet (λ z. subst (λ (a : Action). Reaches a (λ (g : Handle). false) z z) (sym the-next.2) (reach z)) f settled
      by (Writes name value busies is told) = writes x last result final name value busies (the-next.2 ∙ is) told f sound settled
      by (Begins q is told) =
          let action = the-next.2 ∙ is in
          begins x last result final
          (λ z. subst (λ (a : Action). Reaches a (λ (g : Handle). false) z z) (sym action) ((λ g. refl), refl))
          (subst (λ (a : Action). NeedsMemory the-next.0.m the-next.0.replies a) (sym action) tt)
          (subst (λ (a : Action). Recorded (records_of s) s.stamp h (after_first d.0) d.0.m a (records_of u)) is d.1.records)
          (ap is_wrote told.2)
          (subst (λ (z : FollowUp). Follows z h mid_table u last x) told.2 f) settled
      by (Creates c is told) =
          let action = the-next.2 ∙ is in
          let fits = subst (λ (a : Action). Fits (records_of s) (after_first d.0) d.0.m a) is d.1.fits in
          begins x last result final
          (λ z. subst (λ (a : Action). Reaches a (λ (g : Handle). false) z z) (sym action) ((λ g. refl), refl))
          (lack-create the-next.0.m _ (ap (λ (z : Fields). z.command) the-next.3 ∙ fits.2) the-next.0.replies the-next.0.action the-next.0.handles.due)
          (subst (λ (a : Action). Recorded (records_of s) s.stamp h (after_first d.0) d.0.m a (records_of u)) is d.1.records)
          (ap is_wrote told.2)
          (subst (λ (z : FollowUp). Follows z h mid_table u last x) told.2 f) settled

-- ---- the same along the view of the fields

pub made-followed-by : (y : Server) (port now n k waited : ℕ) (b : Clock) (s u x : Store) (t after last final : Circuits) (h : Handle) (did : FollowUp) (q : Bool) (result : CoreStep) → server_of port s now t b n ≡ y → q ≡ is_wrote did → k ≡ more_applied q n → waited ≡ length (output_of (under y.circuits h))
    → StepsIn port t h s (Some (step.Handled did)) after u → Follows did h after u last x → IsSound (records_of x) last → Settles last h waited result final → (P : Fields → Action → Type 0) → ((m : Fields) (a : Action) → Tells m a did u → P m a) → MakesBy P y h (stepped result) (server_of port x now final b k)
made-followed-by y port now n k waited b s u x t after last final h did q result is wrote more long steps_in f sound settled P holds =
    subst (λ (z : Server). MakesBy P z h (stepped result) (server_of port x now final b k)) is
    (subst (λ (m : ℕ). MakesBy P (server_of port s now t b n) h (stepped result) (server_of port x now final b m)) (sym (more ∙ ap (λ (z : Bool). more_applied z n) wrote))
    (go steps_in))
  where
    long_is : waited ≡ length (output_of (under t h))
    long_is = long ∙ ap (λ (z : Server). length (output_of (under z.circuits h))) (sym is)

    go : StepsIn port t h s (Some (step.Handled did)) after u → MakesBy P (server_of port s now t b n) h (stepped result) (server_of port x now final b (more_applied (is_wrote did) n))
    go (inr none) = not-some (step.Handled did) none.1
    go (inl g) = by g.0 g.1 g.2 g.3 g.4
      where
        by : (c new : ServerCircuit) → under t h ≡ Some c → CircuitSteps port h c s (Some (step.Handled did)) new u → after ≡ with_changed (λ (z : ServerCircuit). new) h t → MakesBy P (server_of port s now t b n) h (stepped result) (server_of port x now final b (more_applied (is_wrote did) n))
        by (Open e) new there d changed =
            let at = became t after h new (Open d.0) changed d.4 in
            let output : waited ≡ length e.link.output = long_is ∙ ap (λ (o : Option ServerCircuit). length (output_of o)) there in
            handled-all port now n b s u t h e d.0 did there d.1 P (holds d.1.0.m d.1.1.action d.1.1.tells) x last result final (subst (λ (z : Circuits). Follows did h z u last x) at f) sound (subst (λ (m : ℕ). Settles last h m result final) output settled)
        by (Ended v left) new there d changed = not-some (step.Handled did) d.0

pub viewed-followed : (y : Server) (port now n k waited : ℕ) (b : Clock) (s u x : Store) (t after last final : Circuits) (h : Handle) (did : FollowUp) (q : Bool) (result : CoreStep) → server_of port s now t b n ≡ y → q ≡ is_wrote did → k ≡ more_applied q n → waited ≡ length (output_of (under y.circuits h))
    → StepsIn port t h s (Some (step.Handled did)) after u → Follows did h after u last x → IsSound (records_of x) last → Settles last h waited result final → Steps y h (stepped result) (server_of port x now final b k)
viewed-followed y port now n k waited b s u x t after last final h did q result is wrote more long steps_in f sound settled =
    made-by (λ (m : Fields) (a : Action). Unit {0}) y h (stepped result) (server_of port x now final b k)
    (made-followed-by y port now n k waited b s u x t after last final h did q result is wrote more long steps_in f sound settled (λ (m : Fields) (a : Action). Unit {0}) (λ m a told. tt))

-- ---- what holds then

pub settled-sound : (rs : List Record) (last final : Circuits) (h : Handle) (waited : ℕ) (result : CoreStep) → Settles last h waited result final → IsSound rs last → IsSound rs final
settled-sound rs last final h waited result settled sound = by (under last h) refl
  where
    is : (o : Option ServerCircuit) → under last h ≡ o → final ≡ cond (is_open o) last (with_freed h last)
    is o at = settled.1 ∙ ap (λ (z : Option ServerCircuit). cond (is_open z) last (with_freed h last)) at

    by : (o : Option ServerCircuit) → under last h ≡ o → IsSound rs final
    by (Some (Open e)) at = subst (λ (z : Circuits). IsSound rs z) (sym (is (Some (Open e)) at)) sound
    by None at = subst (λ (z : Circuits). IsSound rs z) (sym (is None at ∙ freed-nothing last h at)) sound
    by (Some (Ended w left)) at =
        let clear = none-waits rs last h sound (λ z open_at. not-ended z w left (some_is (Open z) (Ended w left) (sym open_at ∙ at))) in
        subst (λ (z : Circuits). IsSound rs z) (sym (is (Some (Ended w left)) at)) (subst (λ (qs : List Record). IsSound qs (with_freed h last)) clear (sound-freed rs last h sound))

pub settled-thins : (last final : Circuits) (h : Handle) (waited : ℕ) (result : CoreStep) → Settles last h waited result final → Thins last final
settled-thins last final h waited result settled = subst (λ (z : Circuits). Thins last z) (sym settled.1) (by (is_open (under last h)))
  where
    by : (b : Bool) → Thins last (cond b last (with_freed h last))
    by true = thins-same last
    by false = thins-freed last h

pub broke-thins : (port : ℕ) (s u : Store) (t after last : Circuits) (h : Handle) (c : EndCause) (did : CoreStep) → StepsIn port t h s (Some (step.Breaks c)) after u → Reports after h did last → Thins t last
broke-thins port s u t after last h c did (inr none) r = not-some (step.Breaks c) none.1
broke-thins port s u t after last h c did (inl g) r = by g.0 g.1 g.2 g.3 g.4
  where
    by : (x new : ServerCircuit) → under t h ≡ Some x → CircuitSteps port h x s (Some (step.Breaks c)) new u → after ≡ with_changed (λ (z : ServerCircuit). new) h t → Thins t last
    by (Open e) new there broke changed =
        let at = became t after h new (Ended (why_is c) e.link.output) changed broke.1 in
        subst (λ (z : Circuits). Thins t z) (sym r.1)
        (thins-both t after (with_freed h after) (subst (λ (z : Circuits). Thins t z) (sym at) (thins-ended t h (why_is c) e.link.output)) (thins-freed after h))
    by (Ended w left) new there broke changed = not-some (step.Breaks c) broke.0

pub none-thins : (port : ℕ) (s u : Store) (t after last : Circuits) (h : Handle) (did : CoreStep) → StepsIn port t h s None after u → Reports after h did last → Thins t last
none-thins port s u t after last h did (inr none) r =
    subst (λ (z : Circuits). Thins t z) (sym (r.1 ∙ ap (λ (z : Circuits). with_freed h z) none.2)) (thins-freed t h)
none-thins port s u t after last h did (inl g) r = by g.0 g.1 g.2 g.3 g.4
  where
    by : (x new : ServerCircuit) → under t h ≡ Some x → CircuitSteps port h x s None new u → after ≡ with_changed (λ (z : ServerCircuit). new) h t → Thins t last
    by (Open e) new there was changed = absurd was
    by (Ended w left) new there was changed =
        subst (λ (z : Circuits). Thins t z) (sym (r.1 ∙ ap (λ (z : Circuits). with_freed h z) (stayed t after h new (Ended w left) there changed was.1))) (thins-freed t h)
