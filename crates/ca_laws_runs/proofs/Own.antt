-- A message with its one reply: its server keeps nothing for it.
use Rattle.std.proofs.Common.{◌≡◌, ℕ, ◌<◌, inl, inr, Bool, true, false, cond, ◌&&◌, eqb, not, List, [], ◌∷◌, length, Option, Some, None, refl, sym, ap, subst, ◌∙◌, arith}
use Rattle.std.specs.Prelude.{is_some, map}
use Rattle.ca_link.specs.Link.{with_rest}
use Rattle.ca_queue.specs.Keys.{same}
use Rattle.ca_records.specs.declared.puts.Put.{Put}
use Rattle.ca_text.specs.Place.{At}
use Rattle.ca_text.proofs.Places.{At-one}
use Rattle.ca_text.specs.Status.{normal}
use Rattle.ca_wire.specs.Fields.{Fields}
use Rattle.ca_wire.specs.Messages.{status_reply}
use Rattle.ca_model.specs.Due.{Action, Adds, Applies, Due, KnownRecord, Knows, Nothing, Opens, PutDue, must_wait}
use Rattle.ca_model.specs.Due as action
use Rattle.ca_model.specs.Server.{Server, ServerEnd}
use Rattle.ca_model.specs.ServerSteps.{knows}
use Rattle.ca_model.specs.Speech.{In}
use Rattle.ca_model.specs.ServerEvents.{StepHandles, ends_at, ends_by, handled_at, numbers_after, records_after, without_puts}
use Rattle.ca_model.specs.World.{Creation, Joined, PutPlace, RecordSide, ServerSide, Setting, Standing, World}
use Rattle.ca_laws_parts.specs.Lives.{AreSlow, IsPutOf}
use Rattle.ca_laws_parts.specs.Moves.{Lives}
use Rattle.ca_laws_parts.specs.Seats.{Sound}
use Rattle.ca_laws_parts.proofs.Doing.{due-applies, due-waits}
use Rattle.ca_laws_parts.proofs.WritesEvents.{found}
use Rattle.ca_laws_parts.proofs.Fresh.{due-adds, due-opens}
use Rattle.ca_laws_parts.proofs.WritesLists.{In-kept}
use Rattle.ca_laws_parts.proofs.Step.{known-one}
use Rattle.ca_laws_parts.proofs.Waited.{numbers-after-same, write-numbers-same}
use Rattle.ca_laws_parts.specs.Kept.{kept, records_at}
use Rattle.ca_laws_parts.specs.Messages.{AllMessages}
use Rattle.ca_laws_parts.proofs.Puts.{PutIn}
use Rattle.ca_laws_parts.proofs.Thins.{KeptBy, kept-there, put-facts, records-there}
use Rattle.ca_laws_runs.proofs.Handled.{circuit-is, mid, moved, own, sides-are, step, written-parts}
use Rattle.ca_laws_runs.proofs.Pairs.{SidesKeep, sides-core, sides-same, sides-without}

-- ---- what is due

-- The action begins something that its server keeps for the message.
abbrev IsKeeping : Action → Type 0
IsKeeping (Adds s) = Unit {0}
IsKeeping (Opens c) = Unit {0}
IsKeeping (Applies name value true) = Unit {0}
IsKeeping (action.Waits name value) = Unit {0}
IsKeeping did = ⊥

none-one : (ms : List Fields) (r : Fields) → ms ≡ [] → ms ≡ r ∷ [] → ⊥
none-one ms r none one = (let e : ◌≡◌ {A = List Fields} [] (r ∷ []) = sym none ∙ one in cc)

two-one : (a b r : Fields) (ms : List Fields) → ms ≡ a ∷ b ∷ [] → ms ≡ r ∷ [] → ⊥
two-one a b r ms two one = (let e : ◌≡◌ {A = List Fields} (a ∷ b ∷ []) (r ∷ []) = sym two ∙ one in cc)

and-second : (a b : Bool) → a && b ≡ true → b ≡ true
and-second true b e = e
and-second false b e = absurd cc

due-one : (k : Knows) (m : Fields) (replies : List Fields) (did : Action) (r : Fields) → AreSlow k → Due k m replies did → replies ≡ r ∷ [] → IsKeeping did → ⊥
due-one k m replies (Adds s) r slow due one keeps = none-one replies r (due-adds k m replies s due).1.2 one
due-one k m replies (Opens c) r slow due one keeps = (let made = (due-opens k m replies c due).1 in two-one _ _ r replies made.are one)
due-one k m replies (Applies name value false) r slow due one keeps = keeps
due-one k m replies (Applies name value true) r slow due one keeps = elim (due.put ((due-applies k m replies name value true due).1 refl).0) [
  | inr stray ↦ (let x : Applies name value true ≡ Nothing = stray.3 in cc)
  | inl served ↦ put served
]
  where
    put : PutDue k m replies (Applies name value true) → ⊥
    put (c, inl refused) = (let x : Applies name value true ≡ Nothing = refused.3 in cc)
    put (c, inr taken) = go (must_wait k m c) taken.3
      where
        go : (b : Bool) → Applies name value true ≡ cond b (action.Waits c.channel.name taken.0) (Applies c.channel.name taken.0 c.known.state.slow) → ⊥
        go true x = cc
        go false x =
            let b : true ≡ c.known.state.slow = cc in
            none-one replies r (taken.2 ∙ ap (λ (t : Bool). cond t [] (status_reply m normal ∷ [])) (sym b)) one
due-one k m replies (action.Waits name value) r slow due one keeps = elim (due.put (due-waits k m replies name value due).1) [
  | inr stray ↦ (let x : action.Waits name value ≡ Nothing = stray.3 in cc)
  | inl served ↦ put served
]
  where
    put : PutDue k m replies (action.Waits name value) → ⊥
    put (c, inl refused) = (let x : action.Waits name value ≡ Nothing = refused.3 in cc)
    put (c, inr taken) = go (must_wait k m c) refl taken.3
      where
        go : (b : Bool) → must_wait k m c ≡ b → action.Waits name value ≡ cond b (action.Waits c.channel.name taken.0) (Applies c.channel.name taken.0 c.known.state.slow) → ⊥
        go false waits x = cc
        go true waits x = none-one replies r (taken.2 ∙ ap (λ (t : Bool). cond t [] (status_reply m normal ∷ [])) (slow c.channel.name c.known c.named (and-second (eqb m.command 19) c.known.busy waits))) one
due-one k m replies (action.Clears sid) r slow due one keeps = keeps
due-one k m replies action.Nothing r slow due one keeps = keeps
due-one k m replies action.Greets r slow due one keeps = keeps
due-one k m replies (action.Names p) r slow due one keeps = keeps
due-one k m replies (action.Drops key) r slow due one keeps = keeps
due-one k m replies (action.Switches on) r slow due one keeps = keeps

-- ---- what that leaves

-- records by place
sides-keep : (core : Server) (h : _) (p : PutPlace) (did : Action) (rs : List RecordSide) → (IsKeeping did → ⊥) → SidesKeep rs (records_after core h p did rs)
sides-keep core h p (Applies name value true) rs none = absurd (none tt)
sides-keep core h p (Applies name value false) rs none = sides-same rs
sides-keep core h p (action.Waits name value) rs none = absurd (none tt)
sides-keep core h p (action.Clears sid) rs none = sides-core h sid core.records rs
sides-keep core h p action.Nothing rs none = sides-same rs
sides-keep core h p action.Greets rs none = sides-same rs
sides-keep core h p (action.Names x) rs none = sides-same rs
sides-keep core h p (action.Opens x) rs none = sides-same rs
sides-keep core h p (action.Adds x) rs none = sides-same rs
sides-keep core h p (action.Drops x) rs none = sides-same rs
sides-keep core h p (action.Switches x) rs none = sides-same rs

put-then : (rs ss : List RecordSide) (q : PutPlace) → SidesKeep rs ss → PutIn ss q → PutIn rs q
put-then rs ss q keep p = elim (keep p.0 p.1) [
  | inl none ↦ elim p.2 [ inl busy ↦ absurd (no-busy (sym none.0 ∙ busy)) | inr waits ↦ absurd (none.1 q waits) ]
  | inr was ↦ (was.0, was.1, elim p.2 [ inl busy ↦ inl (sym was.3 ∙ busy) | inr waits ↦ inr (was.4 q waits) ])
]
  where
    no-busy : (let a : Option PutPlace = None in a ≡ Some q) → ⊥
    no-busy e = cc

-- subscriptions and channels
standing-then : (place : ℕ) (did : Action) (c : Joined) (s : Standing) → (IsKeeping did → ⊥) → In (numbers_after place did c).standing s → In c.standing s
standing-then place (Adds x) c s none at = absurd (none tt)
standing-then place (Opens x) c s none at = absurd (none tt)
standing-then place (action.Drops key) c s none at = (In-kept (λ (t : Standing). not (same key t.key)) c.standing s at).0
standing-then place (action.Clears sid) c s none at = (In-kept (λ (t : Standing). not (eqb t.key.sid sid)) c.standing s at).0
standing-then place (action.Switches on) c s none at = at
standing-then place (Applies name value busies) c s none at = at
standing-then place (action.Waits name value) c s none at = at
standing-then place action.Nothing c s none at = at
standing-then place action.Greets c s none at = at
standing-then place (action.Names x) c s none at = at

creations-then : (place : ℕ) (did : Action) (c : Joined) (x : Creation) → (IsKeeping did → ⊥) → In (numbers_after place did c).creations x → In c.creations x
creations-then place (Adds s) c x none at = absurd (none tt)
creations-then place (Opens s) c x none at = absurd (none tt)
creations-then place (action.Drops key) c x none at = at
creations-then place (action.Clears sid) c x none at = (In-kept (λ (t : Creation). not (eqb t.sid sid)) c.creations x at).0
creations-then place (action.Switches on) c x none at = at
creations-then place (Applies name value busies) c x none at = at
creations-then place (action.Waits name value) c x none at = at
creations-then place action.Nothing c x none at = at
creations-then place action.Greets c x none at = at
creations-then place (action.Names n) c x none at = at

-- ---- only slow records are busy

are-slow : (s : Setting) (w : World) (i : ℕ) (y : ServerSide) (e : ServerEnd) → Sound s w → At w.servers i y → AreSlow (knows y.core e)
are-slow s w i y e sound at name r named busy =
    let own : Lives w i y = sound.writes.lives i y at in
    let c = known-one y.core.records name r named in
    let f = found (IsPutOf w.circuits i) own.log y.core.records y.records name c.0 own.life.each c.1 in
    let b = some-put c.0.busy (ap (λ (z : KnownRecord). z.busy) c.2 ∙ busy) in
    ap (λ (z : KnownRecord). z.state.slow) (sym c.2) ∙ f.agrees.slow b.0 b.1
  where
    some-put : (o : Option Put) → is_some o ≡ true → (b : Put) × (o ≡ Some b)
    some-put None is = absurd cc
    some-put (Some b) is = (b, refl)

-- ---- the step

pub own-gone : (s : Setting) (w new : World) (k : ℕ) (j : Joined) (y : ServerSide) (f : StepHandles w k j y new) → At w.circuits k j → At w.servers j.server y → j.lists.server_open ≡ true → Sound s w → Sound s new → AllMessages w → (r : Fields) → (f.steps.0).replies ≡ r ∷ [] → In (kept new k) (length j.lists.handled) → ⊥
own-gone s w new k j y f on at opened sound sound_new messages r one there = go (kept-there new k (length j.lists.handled) there)
  where
    none : IsKeeping (f.steps.0).action → ⊥
    none keeps =
        due-one (knows y.core (record f.e { link = with_rest (f.steps.0).rest f.e.link })) (f.steps.0).m (f.steps.0).replies (f.steps.0).action r (are-slow s w j.server y (record f.e { link = with_rest (f.steps.0).rest f.e.link }) sound at) (f.steps.0).handles.due one keeps

    go : ((d : Joined) × At new.circuits k d × (d.lists.server_open ≡ true) × KeptBy k (records_at new d) d (length j.lists.handled)) → ⊥
    go (d, at_d, open_d, kept_by) =
        let d_is = circuit-is w new k j y f on d at_d open_d in
        let parts = written-parts j.server y.core (f.steps.0).action (numbers_after (length j.lists.handled) (f.steps.0).action j) in
        elim kept_by [
          | inl (q, put, circuit, channel, is) ↦ puts d at_d open_d d_is q put circuit is
          | inr (inl (st, in_it, is)) ↦
              let t = parts.1 st (subst (λ (z : Joined). In z.standing st) d_is in_it) in
              let m = (messages k j on opened).subs t.0 (standing-then (length j.lists.handled) (f.steps.0).action j t.0 none t.1) in
              (let lt : t.0.place < length j.lists.handled = m.4 in let same_t : t.0.place ≡ st.place = t.2 in omega (arith, lt, same_t, is))
          | inr (inr (x, in_it, is)) ↦
              let old = creations-then (length j.lists.handled) (f.steps.0).action j x none (subst (λ (l : List Creation). In l x) (ap (λ (z : Joined). z.creations) d_is ∙ parts.0) in_it) in
              let m = (messages k j on opened).channels x old in
              (let lt : x.place < length j.lists.handled = m.3 in omega (arith, lt, is))
        ]
      where
        puts : (d : Joined) → At new.circuits k d → d.lists.server_open ≡ true → d ≡ handled_at (length j.lists.handled) (step w new k j y f) (f.steps.0).replies (moved w new k j y f) → (q : PutPlace) → PutIn (records_at new d) q → q.circuit ≡ k → q.place ≡ length j.lists.handled → ⊥
        puts d at_d open_d d_is q put circuit is =
            let seat = sound_new.seated.each k d at_d open_d in
            let numbers : Joined = numbers_after (length j.lists.handled) (f.steps.0).action j in
            let server : d.server ≡ j.server = ap (λ (z : Joined). z.server) d_is ∙ (write-numbers-same j.server y.core (f.steps.0).action numbers).server ∙ (numbers-after-same (length j.lists.handled) (f.steps.0).action j).server in
            let records : List RecordSide = records_after y.core j.at_server (own w new k j y f) (f.steps.0).action y.records in
            let gone : ℕ → Bool = ends_at (ends_by j.server f.core) (mid w new k j y f).circuits in
            let now : records_at new d ≡ map (without_puts gone) records = records-there new d seat.y seat.at ∙ sides-are w new k j y f at seat.y (subst (λ (m : ℕ). At new.servers m seat.y) server seat.at) in
            let was : PutIn y.records q = put-then y.records records q (sides-keep y.core j.at_server (own w new k j y f) (f.steps.0).action y.records none) (put-then records (map (without_puts gone) records) q (sides-without gone records) (subst (λ (l : List RecordSide). PutIn l q) now put)) in
            let facts = put-facts s w j.server y q sound at was in
            let c_is : facts.c ≡ j = At-one w.circuits k facts.c j (subst (λ (m : ℕ). At w.circuits m facts.c) circuit facts.on) on in
            let lt : q.place < length j.lists.handled = subst (λ (z : Joined). q.place < length z.lists.handled) c_is (facts.handled (subst (λ (z : Joined). z.lists.server_open ≡ true) (sym c_is) opened)) in
            omega (arith, lt, is)
