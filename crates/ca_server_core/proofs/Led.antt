-- The lists of those that lead to records stay complete, as circuits and lists change.
use Rattle.std.proofs.Common.{◌≡◌, ℕ, inl, inr, Bool, true, false, cond, nat_eq, List, [], Option, Some, None, Result, Ok, Err, refl, sym, ap, ◌∙◌, subst}
use Rattle.std.specs.Str.{bytes_eq}
use Rattle.std.proofs.lemmas.Bool.{eq-eqb, eqb-true}
use Rattle.std.proofs.lemmas.Slice.Eq.{bytes_eq-Decides}
use Rattle.ca_arena.specs.declared.handle.Handle.{Handle}
use Rattle.ca_ids.specs.Table.{MayGive, Table, under, with_changed, with_held}
use Rattle.ca_records.specs.declared.puts.Finished.{Finished}
use Rattle.ca_records.specs.declared.puts.Put.{Put}
use Rattle.ca_records.specs.Puts.{Record}
use Rattle.ca_records.specs.Store.{Store, records_of}
use Rattle.ca_text.specs.declared.refusal.Refusal.{Refusal}
use Rattle.ca_text.specs.declared.refusal.Refusal.TheVariants as refusal
use Rattle.ca_text.specs.Place.{At}
use Rattle.ca_server_watchers.specs.Watching.{IsAmong, Watched, Watches, watching}
use Rattle.ca_model.specs.Ends.{Why}
use Rattle.ca_model.specs.Ends as why
use Rattle.ca_model.specs.Server.{Ended, Open, OpenChannel, ServerCircuit, ServerEnd, Subscription, new_end, with_post}
use Rattle.ca_model.specs.ServerSteps.{reached, write_mask}
use Rattle.ca_model.specs.Speech.{In, Stored}
use Rattle.ca_server_circuit.specs.declared.step.FollowUp.{FollowUp}
use Rattle.ca_server_circuit.specs.declared.step.FollowUp.TheVariants as effect
use Rattle.ca_server_circuit.specs.Handling.{is_wrote}
use Rattle.ca_server_core.specs.Circuits.{OpensIn}
use Rattle.ca_server_core.specs.Covering.{AreLed, AreListed, Covers, HasTo, Leads}
use Rattle.ca_server_core.specs.Ending.{EndsIn}
use Rattle.ca_server_core.specs.Finishing.{after_applied, effect_after}
use Rattle.ca_server_core.specs.Following.{Begins, Follows, LeadsBut, LedFor}
use Rattle.ca_server_core.specs.Reaching.{ReachesFrom}
use Rattle.ca_server_core.proofs.Closing.{not-ended}
use Rattle.ca_server_core.proofs.Covered.{Thins, covers-thinned, ended-others, same-watch, thins-out, thins-same}
use Rattle.ca_server_core.proofs.Each.{each-back}
use Rattle.ca_server_core.proofs.Listed.{found-withdrawn, listed-ended, listed-kept}
use Rattle.ca_server_circuit.proofs.Tables.{changed-back, held-back, one-at-index, place, under-at}

abbrev Circuits : Type 0
Circuits = Table ServerCircuit

open-is : (a b : ServerEnd) → Open a ≡ Open b → a ≡ b
open-is a b e = cc

both : {A : Type 0} (b : Bool) → b ≡ true → b ≡ false → A
both true p q = absurd cc
both false p q = absurd cc

-- ---- circuits change

pub leads-thinned : (l : Watched) (t u : Circuits) → Thins t u → Leads l t → Leads l u
leads-thinned l t u thin leads h e n at to = (let x = thin h e at in leads h x.0 n x.1 (x.3 n to))

pub led-thinned : (rs qs : List Record) (l : Watched) (t u : Circuits) → Thins t u → AreListed qs l → AreLed rs l t → AreLed qs l u
led-thinned rs qs l t u thin listed led = record { leads = leads-thinned l t u thin led.leads; listed = listed }

-- an open end became another with channels to no more records
pub leads-changed : (l : Watched) (t : Circuits) (h : Handle) (e new : ServerEnd) → under t h ≡ Some (Open e) → ((n : List ℕ) → HasTo new n → HasTo e n) → Leads l t → Leads l (with_changed (λ (c : ServerCircuit). Open new) h t)
leads-changed l t h e new there less leads g x n at to = elim (changed-back (λ (c : ServerCircuit). Open new) t g h (Open x) at) [
  | inl own ↦
      let old_to = less n (subst (λ (y : ServerEnd). HasTo y n) (open-is x new own.1.2) to) in
      subst (λ (k : Handle). IsAmong (watching l n) k) (sym own.0) (leads h e n there old_to)
  | inr old ↦ leads g x n old.1 to
]

-- a circuit was accepted
no-channel : (now : ℕ) (n : List ℕ) → HasTo (new_end now) n → ⊥
no-channel now n to = by (under-channel (let none : Table OpenChannel = [] in none) to.0 to.1 to.2)
  where
    under-channel : (t : Table OpenChannel) (k : Handle) (c : OpenChannel) → under t k ≡ Some c → At t k.index (place k c)
    under-channel t k c is = under-at t k c is

    by : (let none : Table OpenChannel = [] in At none to.0.index (place to.0 to.1)) → ⊥
    by at = cc

leads-accepted : (l : Watched) (t : Circuits) (h : Handle) (now : ℕ) → MayGive t h → Leads l t → Leads l (with_held h (Open (new_end now)) t)
leads-accepted l t h now may leads g e n at to = elim (held-back t g h (Open (new_end now)) (Open e) at) [
  | inl own ↦ absurd (no-channel now n (subst (λ (x : ServerEnd). HasTo x n) (open-is e (new_end now) own.1) to))
  | inr old ↦ leads g e n old to
]

pub led-opened : (rs : List Record) (l : Watched) (t after : Circuits) (now : ℕ) (c : ServerCircuit) (r : Result Handle Refusal) → AreLed rs l t → c ≡ Open (new_end now) → OpensIn t c r after → AreLed rs l after
led-opened rs l t after now c r led is g = record { leads = by r g; listed = led.listed }
  where
    by : (r : Result Handle Refusal) → OpensIn t c r after → Leads l after
    by (Ok h) g = subst (λ (x : Circuits). Leads l x) (sym (g.1 ∙ ap (λ (x : ServerCircuit). with_held h x t) is)) (leads-accepted l t h now g.0 led.leads)
    by (Err refusal.ArenaFull) g = subst (λ (x : Circuits). Leads l x) (sym g.1) led.leads
    by (Err refusal.OutOfMemory) g = subst (λ (x : Circuits). Leads l x) (sym g.1) led.leads
    by (Err _) g = absurd g

-- none yet
pub leads-none : (l : Watched) → Leads l []
leads-none l h e n at to = no-circuit h (Open e) at
  where
    no-circuit : {A : Type 0} (h : Handle) (c : ServerCircuit) → (let none : Circuits = [] in under none h ≡ Some c) → A
    no-circuit h c is =
        let none : Circuits = [] in
        by (under-at none h c is)
      where
        by : {A : Type 0} → (let none : Circuits = [] in At none h.index (place h c)) → A
        by at = absurd cc

-- ---- lists change

-- the circuit leads to the record too
pub leads-entered : (l v : Watched) (t : Circuits) (name : List ℕ) (h : Handle) (c : ServerCircuit) → Watches name h l v → under t h ≡ Some c → LeadsBut h name l t → Leads v t
leads-entered l v t name h c enters here but g e n there to = elim (but g e n there to) [
  | inl old ↦ by (bytes_eq n name) refl old
  | inr own ↦ subst (λ (m : List ℕ). IsAmong (watching v m) g) (sym own.1) (subst (λ (x : Handle). IsAmong (watching v name) x) (sym own.0) enters.joins.own)
]
  where
    by : (b : Bool) → bytes_eq n name ≡ b → IsAmong (watching l n) g → IsAmong (watching v n) g
    by false miss old = subst (λ (hs : List Handle). IsAmong hs g) (sym (same-watch l v n (enters.stay n miss))) old
    by true hit old =
        let same : n ≡ name = (bytes_eq-Decides n name).0 hit in
        subst (λ (m : List ℕ). IsAmong (watching v m) g) (sym same) (index (nat_eq g.index h.index) refl (subst (λ (m : List ℕ). IsAmong (watching l m) g) same old))
      where
        index : (b : Bool) → nat_eq g.index h.index ≡ b → IsAmong (watching l name) g → IsAmong (watching v name) g
        index true is old = subst (λ (x : Handle). IsAmong (watching v name) x) (sym (one-at-index t g h (Open e) c there here (eqb-true g.index h.index is))) enters.joins.own
        index false is old = enters.joins.others g old (λ e. both (nat_eq g.index h.index) (eq-eqb g.index h.index e) is)

-- its end has ended
pub leads-out : (l : Watched) (t after : Circuits) (h : Handle) (name : List ℕ) (s u : Store) (y : Why) → EndsIn t h s y after u → LeadsBut h name l t → Leads l after
leads-out l t after h name s u y did but g e n there to =
    let o = ended-others t after h s u y did g e there in
    elim (but g e n o.1 to) [
      | inl old ↦ old
      | inr own ↦ absurd (o.0 own.0)
    ]

-- ---- what a message leaves to do was done

thins-begun : (h : Handle) (t : Circuits) (s : Store) (after : Circuits) (u : Store) → Begins h t s after u → Thins t after
thins-begun h t s after u (inl same) = subst (λ (z : Circuits). Thins t z) (sym same.0) (thins-same t)
thins-begun h t s after u (inr did) = thins-out t after h s u why.OutOfMemory did

pub listed-begun : (h : Handle) (t : Circuits) (s : Store) (after : Circuits) (u : Store) (w : Watched) → Begins h t s after u → AreListed (records_of s) w → AreListed (records_of u) w
listed-begun h t s after u w (inl same) listed = subst (λ (z : Store). AreListed (records_of z) w) (sym same.1) listed
listed-begun h t s after u w (inr did) listed = listed-ended s u t after h why.OutOfMemory w did listed

pub covers-begun : (h : Handle) (t : Circuits) (s : Store) (after : Circuits) (u : Store) (w : Watched) → Begins h t s after u → Covers w t → Covers w after
covers-begun h t s after u w did covers = covers-thinned w t after (thins-begun h t s after u did) covers

pub led-begun : (h : Handle) (t : Circuits) (s : Store) (after : Circuits) (u : Store) (l : Watched) → Begins h t s after u → AreLed (records_of s) l t → AreLed (records_of u) l after
led-begun h t s after u l did led = led-thinned (records_of s) (records_of u) l t after (thins-begun h t s after u did) (listed-begun h t s after u l did led.listed) led

thins-reached : (place mask : ℕ) (t : Circuits) (s : Store) (after : Circuits) (u : Store) → ReachesFrom place mask t s after u → Thins t after
thins-reached place mask t s after u did h e there = by b.0 b.1 b.2
  where
    r : Record
    r = did.0

    gone : Handle → Bool
    gone = did.2.0

    v : Stored
    v = record { value = r.state.value; meta = r.state.meta }

    b : (c : ServerCircuit) × (under t h ≡ Some c) × (Open e ≡ reached r.state.name mask v gone h c)
    b = each-back (reached r.state.name mask v gone) t h (Open e) (subst (λ (z : Circuits). under z h ≡ Some (Open e)) did.2.1.circuits there)

    by : (c : ServerCircuit) → under t h ≡ Some c → Open e ≡ reached r.state.name mask v gone h c → (x : ServerEnd) × (under t h ≡ Some (Open x)) × ((s : Subscription) → In e.subscriptions s → In x.subscriptions s) × ((n : List ℕ) → HasTo e n → HasTo x n)
    by (Ended w left) was is = absurd (not-ended e w left is)
    by (Open x) was is = on (gone h) is
      where
        on : (g : Bool) → Open e ≡ cond g (Ended why.OutOfMemory x.link.output) (Open (with_post r.state.name mask v x)) → (x : ServerEnd) × (under t h ≡ Some (Open x)) × ((s : Subscription) → In e.subscriptions s → In x.subscriptions s) × ((n : List ℕ) → HasTo e n → HasTo x n)
        on true is = absurd (not-ended e why.OutOfMemory x.link.output is)
        on false is =
            let same : e ≡ with_post r.state.name mask v x = open-is e (with_post r.state.name mask v x) is in (
              x,
              was,
              (λ s i. subst (λ (z : ServerEnd). In z.subscriptions s) same i),
              (λ n c. subst (λ (z : ServerEnd). HasTo z n) same c),
            )

pub led-reached : (place mask : ℕ) (t : Circuits) (s : Store) (after : Circuits) (u : Store) (l : Watched) → ReachesFrom place mask t s after u → AreLed (records_of s) l t → AreLed (records_of u) l after
led-reached place mask t s after u l did led =
    led-thinned (records_of s) (records_of u) l t after (thins-reached place mask t s after u did)
    (listed-kept (records_of s) (records_of u) l (found-withdrawn _ (records_of s) (records_of u) did.2.1.records) led.listed) led

-- a write leaves the lists complete
pub led-wrote : (did : FollowUp) (h : Handle) (s : Store) (l : Watched) (t : Circuits) → is_wrote did ≡ true → LedFor did h s l t → AreLed (records_of s) l t
led-wrote (effect.Wrote place busies sid) h s l t is led = led
led-wrote (effect.Quiet said) h s l t is led = absurd cc
led-wrote (effect.Began place sid sub) h s l t is led = absurd cc
led-wrote (effect.Opened place sid) h s l t is led = absurd cc

-- and so they are once its updates have reached all
pub led-followed : (did : FollowUp) (h : Handle) (t : Circuits) (s : Store) (after : Circuits) (u : Store) (l : Watched) → is_wrote did ≡ true → Follows did h t s after u → LedFor did h s l t → AreLed (records_of u) l after
led-followed (effect.Wrote place busies sid) h t s after u l is f led = led-reached place write_mask t s after u l f led
led-followed (effect.Quiet said) h t s after u l is f led = absurd cc
led-followed (effect.Began place sid sub) h t s after u l is f led = absurd cc
led-followed (effect.Opened place sid) h t s after u l is f led = absurd cc

-- the end of a put leaves no channel to be entered
pub led-finished : (f : Finished) (s : Store) (l : Watched) (t : Circuits) → AreLed (records_of s) l t → LedFor (effect_after f) f.ended.circuit s l t
led-finished f s l t led = by f.applied
  where
    by : (o : Option Put) → LedFor (after_applied f.place o) f.ended.circuit s l t
    by None = led
    by (Some p) = led
