-- The end of a busy put: its reply, and the next put, which reaches all
-- subscriptions on its record.
use Rattle.std.proofs.Common.{◌≡◌, ◌≢◌, ℕ, ◌⊎◌, inl, inr, Bool, true, false, cond, ◌||◌, List, [], ◌∷◌, Option, Some, None, is_some, Ok, refl, sym, ap, ◌∙◌, subst}
use Rattle.ca_arena.specs.declared.handle.Handle.{Handle}
use Rattle.ca_beacon.specs.Clock.{Clock}
use Rattle.ca_ids.specs.Table.{Table, same_handle, under, with_changed, with_each}
use Rattle.ca_records.specs.declared.puts.Finished.{Finished}
use Rattle.ca_records.specs.declared.puts.Put.{Put}
use Rattle.ca_records.specs.declared.puts.Stamp.{Stamp}
use Rattle.ca_records.specs.Puts.{Record, WaitingPut, finished, with_record, withdrawn, written_meta}
use Rattle.ca_records.specs.Record.{RecordState}
use Rattle.ca_records.specs.Rules.{Rule}
use Rattle.ca_records.specs.Store.{HasAt, Store, records_of}
use Rattle.ca_records.specs.Writes as writes
use Rattle.ca_text.proofs.Places.{some_is}
use Rattle.ca_wire.specs.Fields.{Fields}
use Rattle.ca_server_watchers.specs.Watching.{Watched}
use Rattle.ca_model.specs.Ends as why
use Rattle.ca_model.specs.Server.{Ended, Open, Server, ServerCircuit, ServerEnd, with_post}
use Rattle.ca_model.specs.ServerCalls.{Finishes, IsAwaited, after_next, finish_reply, lacking, with_message}
use Rattle.ca_model.specs.ServerSteps.{is_concerned, reached, write_mask}
use Rattle.ca_model.specs.Speech.{Stored}
use Rattle.ca_server_circuit.specs.declared.step.FollowUp.{FollowUp}
use Rattle.ca_server_circuit.specs.declared.step.FollowUp.TheVariants as effect
use Rattle.ca_server_core.specs.Covering.{Covers}
use Rattle.ca_server_circuit.specs.Ending.{WithdrawsAll}
use Rattle.ca_server_circuit.specs.Finishing.{RepliesAt, with_reply}
use Rattle.ca_server_core.specs.Finishing.{RepliesIn, after_applied, effect_after}
use Rattle.ca_server_core.specs.Following.{CoversFor, Follows}
use Rattle.ca_server_circuit.specs.Handling.{is_wrote}
use Rattle.ca_server_core.specs.Reaching.{ReachesAll}
use Rattle.ca_server_core.specs.Serving.{more_applied}
use Rattle.ca_server_circuit.proofs.Cleared.{is-same, same-is}
use Rattle.ca_server_core.proofs.Closing.{not-ended}
use Rattle.ca_server_core.proofs.Each.{each-ext, each-fuse, withdrawn-both}
use Rattle.ca_server_core.proofs.Finished.{finished-records, one-changes}
use Rattle.ca_server_core.proofs.Reached.{there-is}
use Rattle.ca_server_core.proofs.Servers.{became, made_of, same-parts, server_of, stayed}
use Rattle.ca_server_core.proofs.Stepped.{each-same, none-gone}
use Rattle.ca_server_circuit.proofs.Tables.{changed-back}

abbrev Circuits : Type 0
Circuits = Table ServerCircuit

no-true : {A : Type 0} → false ≡ true → A
no-true is = absurd cc

or-true : (a b : Bool) → (a || b) ≡ true → (a ≡ true) ⊎ (b ≡ true)
or-true true b is = inl refl
or-true false b is = inr is

or-left : (a b : Bool) → a ≡ true → (a || b) ≡ true
or-left true b is = refl
or-left false b is = absurd cc

or-none : (a b : Bool) → a ≡ false → (a || b) ≡ b
or-none true b is = absurd cc
or-none false b is = refl

-- ---- the next put

-- what it makes of a circuit
abbrev next_change : List ℕ → List WaitingPut → Stamp → (Handle → Bool) → Handle → ServerCircuit → ServerCircuit
next_change name [] p gone = lacking gone
next_change name (w ∷ ws) p gone = reached name write_mask (record { value = w.value; meta = written_meta w.value p }) gone

-- The next put has reached all subscriptions on its record, or none waits.
pub record Nexts (name : List ℕ) (ws : List WaitingPut) (p : Stamp) (gone : Handle → Bool) (t : Circuits) (s : Store) (after : Circuits) (u : Store) : Type 0 where
  pub may : (h : Handle) → gone h ≡ true → (c : ServerCircuit) × (under t h ≡ Some c) × (ws ≢ []) × (is_concerned name write_mask c ≡ true)
  pub circuits : after ≡ with_each (next_change name ws p gone) t
  pub records : records_of u ≡ withdrawn (λ (q : Put). gone q.circuit) (records_of s)
  pub rules : u.rules ≡ s.rules
  pub stamp : u.stamp ≡ s.stamp

cons-not : (w : WaitingPut) (ws : List WaitingPut) → (w ∷ ws) ≢ []
cons-not w ws e = cc

nexts-of : (name : List ℕ) (ws : List WaitingPut) (p : Stamp) (f : Finished) (r next : Record) (t : Circuits) (s : Store) (after : Circuits) (u : Store) → f.applied ≡ writes.next_put ws → r.state.name ≡ name → HasAt s f.place next → next.state ≡ (finished p r ws).state → Follows (effect_after f) f.ended.circuit t s after u → (gone : Handle → Bool) × Nexts name ws p gone t s after u
nexts-of name [] p f r next t s after u applied named at is did =
    let same = subst (λ (q : FollowUp). Follows q f.ended.circuit t s after u) (ap (λ (o : Option Put). after_applied f.place o) applied) did in (
      (λ (h : Handle). false),
      record {
        may = λ h e. no-true e;
        circuits = same.0 ∙ sym (each-same (lacking (λ (h : Handle). false)) 0 t (λ i q c here there h. by h c));
        records = ap (λ (x : Store). records_of x) same.1 ∙ sym (none-gone (records_of s));
        rules = ap (λ (x : Store). x.rules) same.1;
        stamp = ap (λ (x : Store). x.stamp) same.1;
      },
    )
  where
    by : (h : Handle) (c : ServerCircuit) → lacking (λ (g : Handle). false) h c ≡ c
    by h (Open e) = refl
    by h (Ended w left) = refl
nexts-of name (w ∷ ws) p f r next t s after u applied named at is did =
    let from = subst (λ (q : FollowUp). Follows q f.ended.circuit t s after u) (ap (λ (o : Option Put). after_applied f.place o) applied) did in
    let state : from.0.state ≡ (finished p r (w ∷ ws)).state = ap (λ (x : Record). x.state) (there-is s f.place from.0 next from.1 at) ∙ is in
    let gone = from.2.0 in
    let all : ReachesAll r.state.name write_mask (record { value = w.value; meta = written_meta w.value p }) gone t s after u =
    subst (λ (x : RecordState). ReachesAll x.name write_mask (record { value = x.value; meta = x.meta }) gone t s after u) state from.2.1 in
    let mine : ReachesAll name write_mask (record { value = w.value; meta = written_meta w.value p }) gone t s after u = subst (λ (x : List ℕ). ReachesAll x write_mask (record { value = w.value; meta = written_meta w.value p }) gone t s after u) named all in (
      gone,
      record {
        may = λ h e. (let c = mine.may h e in (c.0, c.1, cons-not w ws, c.2));
        circuits = mine.circuits;
        records = mine.records;
        rules = mine.rules;
        stamp = mine.stamp;
      },
    )

module _ (port now n : ℕ) (b : Clock) where
  -- the server then
  nexts-server : (name : List ℕ) (ws : List WaitingPut) (rules rules' : List Rule) (rs rs' : List Record) (p p' : Stamp) (t after : Circuits) (gone : Handle → Bool) → rules' ≡ rules → rs' ≡ withdrawn (λ (q : Put). gone q.circuit) rs → p' ≡ p → after ≡ with_each (next_change name ws p gone) t
      → made_of port rules' rs' p' now after b (more_applied (is_some (writes.next_put ws)) n) ≡ after_next name ws gone (made_of port rules rs p now t b n)
  nexts-server name [] rules rules' rs rs' p p' t after gone er ers ep et = same-parts port now b rules' rules rs' _ p' p after _ n n er ers ep et refl
  nexts-server name (w ∷ ws) rules rules' rs rs' p p' t after gone er ers ep et =
      same-parts port now b rules' rules rs' _ p' p after _ (more_applied true n) (more_applied true n) er ers ep et refl

  module _ (s s1 : Store) (t : Circuits) (name : List ℕ) (f : Finished) (did : writes.Finishes s name (Ok f) s1) (s3 : Store) (t3 : Circuits) where
    abbrev rs1 : List Record
    rs1 = with_record name (λ (q : Record). finished s.stamp q q.waiting) (records_of s)

    abbrev y1 : Server
    y1 = made_of port s.rules rs1 s.stamp now t b n

    abbrev Out : Type 0
    Out = (sent : List (Handle × Fields)) × Finishes (server_of port s now t b n) name sent (Ok tt) (server_of port s3 now t3 b (more_applied (is_some (writes.next_put did.0.waiting)) n))

    rules-1 : s1.rules ≡ s.rules
    rules-1 = ap (λ (x : Store). x.rules) did.3.becomes.leaves

    stamp-1 : s1.stamp ≡ s.stamp
    stamp-1 = ap (λ (x : Store). x.stamp) did.3.becomes.leaves

    -- its reply is not awaited
    unawaited : (s2 : Store) (t2 : Circuits) (gone : Handle → Bool) → s2 ≡ s1 → t2 ≡ t → ((e : ServerEnd) → IsAwaited y1 f.ended e → ⊥) → Nexts name did.0.waiting s.stamp gone t2 s2 t3 s3 → Out
    unawaited s2 t2 gone us at none next = (
      [],
      (
        record { r = did.0; named = did.3.found; p = f.ended; busy = did.1; gone = gone; may = λ g e. (let c = next.may g e in inr (c.0, subst (λ (x : Circuits). under x g ≡ Some c.0) at c.1, c.2, c.3)) },
        y1,
        inr (inl none, refl, refl),
        nexts-server name did.0.waiting s.rules s3.rules rs1 (records_of s3) s.stamp s3.stamp t t3 gone (next.rules ∙ ap (λ (x : Store). x.rules) us ∙ rules-1)
            (next.records ∙ ap (λ (x : Store). withdrawn (λ (q : Put). gone q.circuit) (records_of x)) us ∙ ap (λ (rs : List Record). withdrawn (λ (q : Put). gone q.circuit) rs) (finished-records s s1 name f did))
            (next.stamp ∙ ap (λ (x : Store). x.stamp) us ∙ stamp-1) (next.circuits ∙ ap (λ (x : Circuits). with_each (next_change name did.0.waiting s.stamp gone) x) at),
      ),
    )

    open-is : (a c : ServerEnd) → Open a ≡ Open c → a ≡ c
    open-is a c is = cc

    -- it goes out
    answered : (s2 : Store) (t2 : Circuits) (gone : Handle → Bool) (e : ServerEnd) → under t f.ended.circuit ≡ Some (Open e) → is_some (under e.channels f.ended.channel) ≡ true → s2 ≡ s1 → t2 ≡ with_changed (λ (x : ServerCircuit). Open (with_reply f.ended e)) f.ended.circuit t → Nexts name did.0.waiting s.stamp gone t2 s2 t3 s3 → Out
    answered s2 t2 gone e there awaited us at next =
        let mid = with_changed (λ (x : ServerCircuit). Open (with_reply f.ended e)) f.ended.circuit t in (
          (f.ended.circuit, finish_reply f.ended) ∷ [],
          (
            record {
              r = did.0;
              named = did.3.found;
              p = f.ended;
              busy = did.1;
              gone = gone;
              may = λ g is.
                  let c = next.may g is in
                  elim (changed-back (λ (x : ServerCircuit). Open (with_reply f.ended e)) t g f.ended.circuit c.0 (subst (λ (x : Circuits). under x g ≡ Some c.0) at c.1)) [
                    | inl own ↦ inr (Open e, subst (λ (k : Handle). under t k ≡ Some (Open e)) (sym own.0) there, c.2, subst (λ (x : ServerCircuit). is_concerned name write_mask x ≡ true) own.1.2 c.3)
                    | inr old ↦ inr (c.0, old.1, c.2, c.3)
                  ];
            },
            with_message f.ended.circuit e (finish_reply f.ended) y1,
            inl (e, (there, awaited), refl, refl),
            nexts-server name did.0.waiting s.rules s3.rules rs1 (records_of s3) s.stamp s3.stamp mid t3 gone (next.rules ∙ ap (λ (x : Store). x.rules) us ∙ rules-1)
                (next.records ∙ ap (λ (x : Store). withdrawn (λ (q : Put). gone q.circuit) (records_of x)) us ∙ ap (λ (rs : List Record). withdrawn (λ (q : Put). gone q.circuit) rs) (finished-records s s1 name f did))
                (next.stamp ∙ ap (λ (x : Store). x.stamp) us ∙ stamp-1) (next.circuits ∙ ap (λ (x : Circuits). with_each (next_change name did.0.waiting s.stamp gone) x) at),
          ),
        )

    -- there is no memory for it
    module _ (h : Handle) (e : ServerEnd) (gone : Handle → Bool) where
      abbrev all_gone : Handle → Bool
      all_gone g = same_handle g h || gone g

      abbrev only : Handle → ServerCircuit → ServerCircuit
      only g x = cond (same_handle g h) (Ended why.OutOfMemory e.link.output) x

      not-it : (g : Handle) → (g ≡ h → ⊥) → (b : Bool) → same_handle g h ≡ b → same_handle g h ≡ false
      not-it g other true hit = absurd (other (same-is g h hit))
      not-it g other false miss = miss

      lacking-ext : (g : Handle) (x : ServerCircuit) (to : Handle → Bool) → gone g ≡ to g → lacking gone g x ≡ lacking to g x
      lacking-ext g (Open z) to is = ap (λ (b : Bool). cond b (Ended why.OutOfMemory z.link.output) (Open z)) is
      lacking-ext g (Ended w left) to is = refl

      reached-ext : (v : Stored) (g : Handle) (x : ServerCircuit) (to : Handle → Bool) → gone g ≡ to g → reached name write_mask v gone g x ≡ reached name write_mask v to g x
      reached-ext v g (Open z) to is = ap (λ (b : Bool). cond b (Ended why.OutOfMemory z.link.output) (Open (with_post name write_mask v z))) is
      reached-ext v g (Ended w left) to is = refl

      others : (ws : List WaitingPut) (g : Handle) (x : ServerCircuit) → same_handle g h ≡ false → next_change name ws s.stamp gone g x ≡ next_change name ws s.stamp (λ (k : Handle). same_handle k h || gone k) g x
      others [] g x miss = lacking-ext g x (λ (k : Handle). same_handle k h || gone k) (sym (or-none (same_handle g h) (gone g) miss))
      others (w ∷ ws) g x miss =
          reached-ext (record { value = w.value; meta = written_meta w.value s.stamp }) g x (λ (k : Handle). same_handle k h || gone k) (sym (or-none (same_handle g h) (gone g) miss))

      own : (ws : List WaitingPut) (to : Handle → Bool) → to h ≡ true → next_change name ws s.stamp gone h (Ended why.OutOfMemory e.link.output) ≡ next_change name ws s.stamp to h (Open e)
      own [] to is = sym (ap (λ (b : Bool). cond b (Ended why.OutOfMemory e.link.output) (Open e)) is)
      own (w ∷ ws) to is =
          let v : Stored = record { value = w.value; meta = written_meta w.value s.stamp } in
          sym (ap (λ (b : Bool). cond b (Ended why.OutOfMemory e.link.output) (Open (with_post name write_mask v e))) is)

      whole : (ws : List WaitingPut) → under t h ≡ Some (Open e) → with_each (next_change name ws s.stamp gone) (with_changed (λ (x : ServerCircuit). Ended why.OutOfMemory e.link.output) h t) ≡ with_each (next_change name ws s.stamp (λ (k : Handle). same_handle k h || gone k)) t
      whole ws there =
          ap (λ (x : Circuits). with_each (next_change name ws s.stamp gone) x)
          (one-changes only t h (Open e) (Ended why.OutOfMemory e.link.output) there (ap (λ (b : Bool). cond b (Ended why.OutOfMemory e.link.output) (Open e)) (is-same h h refl))
          (λ g x at other. ap (λ (b : Bool). cond b (Ended why.OutOfMemory e.link.output) x) (not-it g other (same_handle g h) refl)))
          ∙ each-fuse only (next_change name ws s.stamp gone) t
          ∙ each-ext (λ g x. next_change name ws s.stamp gone g (only g x)) (next_change name ws s.stamp (λ (k : Handle). same_handle k h || gone k)) t (λ g x at. by g x at (same_handle g h) refl)
        where
          by : (g : Handle) (x : ServerCircuit) → under t g ≡ Some x → (b : Bool) → same_handle g h ≡ b → next_change name ws s.stamp gone g (cond (same_handle g h) (Ended why.OutOfMemory e.link.output) x) ≡ next_change name ws s.stamp (λ (k : Handle). same_handle k h || gone k) g x
          by g x at false miss = ap (λ (b : Bool). next_change name ws s.stamp gone g (cond b (Ended why.OutOfMemory e.link.output) x)) miss ∙ others ws g x miss
          by g x at true hit =
              let same : g ≡ h = same-is g h hit in
              let value : Open e ≡ x = some_is (Open e) x (sym there ∙ ap (λ (k : Handle). under t k) (sym same) ∙ at) in
              ap (λ (b : Bool). next_change name ws s.stamp gone g (cond b (Ended why.OutOfMemory e.link.output) x)) hit
              ∙ ap (λ (k : Handle). next_change name ws s.stamp gone k (Ended why.OutOfMemory e.link.output)) same
              ∙ own ws (λ (k : Handle). same_handle k h || gone k) (or-left (same_handle h h) (gone h) (is-same h h refl))
              ∙ (λ i. next_change name ws s.stamp (λ (k : Handle). same_handle k h || gone k) (sym same i) (value i))

    unanswered : (s2 : Store) (t2 : Circuits) (gone : Handle → Bool) (e : ServerEnd) → under t f.ended.circuit ≡ Some (Open e) → is_some (under e.channels f.ended.channel) ≡ true → WithdrawsAll f.ended.circuit s1 s2 → t2 ≡ with_changed (λ (x : ServerCircuit). Ended why.OutOfMemory e.link.output) f.ended.circuit t → Nexts name did.0.waiting s.stamp gone t2 s2 t3 s3 → Out
    unanswered s2 t2 gone e there awaited w at next =
        let h = f.ended.circuit in
        let to : Handle → Bool = λ (k : Handle). same_handle k f.ended.circuit || gone k in (
          [],
          (
            record {
              r = did.0;
              named = did.3.found;
              p = f.ended;
              busy = did.1;
              gone = λ (k : Handle). same_handle k f.ended.circuit || gone k;
              may = λ g is. elim (or-true (same_handle g f.ended.circuit) (gone g) is) [
                | inl its ↦ inl (same-is g f.ended.circuit its, (e, (there, awaited)), refl)
                | inr after ↦
                    let c = next.may g after in
                    elim (changed-back (λ (x : ServerCircuit). Ended why.OutOfMemory e.link.output) t g f.ended.circuit c.0 (subst (λ (x : Circuits). under x g ≡ Some c.0) at c.1)) [
                      | inl its ↦ inl (its.0, (e, (there, awaited)), refl)
                      | inr old ↦ inr (c.0, old.1, c.2, c.3)
                    ]
              ];
            },
            y1,
            inr (inr (or-left (same_handle f.ended.circuit f.ended.circuit) (gone f.ended.circuit) (is-same f.ended.circuit f.ended.circuit refl)), refl, refl),
            nexts-server name did.0.waiting s.rules s3.rules rs1 (records_of s3) s.stamp s3.stamp t t3 (λ (k : Handle). same_handle k f.ended.circuit || gone k) (next.rules ∙ w.rules ∙ rules-1)
                (next.records ∙ ap (λ (rs : List Record). withdrawn (λ (q : Put). gone q.circuit) rs) (w.records ∙ ap (λ (rs : List Record). withdrawn (λ (q : Put). same_handle q.circuit f.ended.circuit) rs) (finished-records s s1 name f did))
                ∙ withdrawn-both (λ (q : Put). gone q.circuit) (λ (q : Put). same_handle q.circuit f.ended.circuit) rs1)
                (next.stamp ∙ w.stamp ∙ stamp-1)
                (next.circuits ∙ ap (λ (x : Circuits). with_each (next_change name did.0.waiting s.stamp gone) x) at ∙ whole f.ended.circuit e gone did.0.waiting there),
          ),
        )

    no-channel : (x : Bool) → x ≡ true → x ≡ false → ⊥
    no-channel x p q = cc

    none-there : (e : ServerEnd) → (let none : Option ServerCircuit = None in none ≡ Some (Open e)) → ⊥
    none-there e is = cc

    by-circuit : (s2 : Store) (t2 : Circuits) (gone : Handle → Bool) (c new : ServerCircuit) → under t f.ended.circuit ≡ Some c → RepliesAt f.ended c s1 new s2 → t2 ≡ with_changed (λ (x : ServerCircuit). new) f.ended.circuit t → Nexts name did.0.waiting s.stamp gone t2 s2 t3 s3 → Out
    by-circuit s2 t2 gone (Open e) new there (inl sent) changed next = answered s2 t2 gone e there sent.0 sent.2 (became t t2 f.ended.circuit new (Open (with_reply f.ended e)) changed sent.1) next
    by-circuit s2 t2 gone (Open e) new there (inr (inl lack)) changed next = unanswered s2 t2 gone e there lack.0 lack.2 (became t t2 f.ended.circuit new (Ended why.OutOfMemory e.link.output) changed lack.1) next
    by-circuit s2 t2 gone (Open e) new there (inr (inr shut)) changed next =
        unawaited s2 t2 gone shut.2 (stayed t t2 f.ended.circuit new (Open e) there changed shut.1)
        (λ z has. no-channel (is_some (under z.channels f.ended.channel)) has.1 (subst (λ (x : ServerEnd). is_some (under x.channels f.ended.channel) ≡ false) (open-is e z (some_is (Open e) (Open z) (sym there ∙ has.0))) shut.0)) next
    by-circuit s2 t2 gone (Ended w left) new there at changed next =
        unawaited s2 t2 gone at.1 (stayed t t2 f.ended.circuit new (Ended w left) there changed at.0)
        (λ z has. not-ended z w left (some_is (Open z) (Ended w left) (sym has.0 ∙ there))) next

    pub finishes-ok : (s2 : Store) (t2 : Circuits) (gone : Handle → Bool) → RepliesIn t f.ended s1 t2 s2 → Nexts name did.0.waiting s.stamp gone t2 s2 t3 s3 → Out
    finishes-ok s2 t2 gone (inl g) next = by-circuit s2 t2 gone g.0 g.1 g.2 g.3 g.4 next
    finishes-ok s2 t2 gone (inr none) next = unawaited s2 t2 gone none.2 none.1 (λ z has. none-there z (sym none.0 ∙ has.0)) next

-- ---- before what follows

-- the record is at its place, with its new value, after the reply
replied-at : (s1 s2 : Store) (t t2 : Circuits) (p : Put) (place : ℕ) (r : Record) → RepliesIn t p s1 t2 s2 → HasAt s1 place r → (q : Record) × HasAt s2 place q × (q.state ≡ r.state)
replied-at s1 s2 t t2 p place r (inr none) at = (r, subst (λ (x : Store). HasAt x place r) (sym none.2) at, refl)
replied-at s1 s2 t t2 p place r (inl g) at = by g.0 g.1 g.3
  where
    same : s2 ≡ s1 → (q : Record) × HasAt s2 place q × (q.state ≡ r.state)
    same is = (r, subst (λ (x : Store). HasAt x place r) (sym is) at, refl)

    by : (c new : ServerCircuit) → RepliesAt p c s1 new s2 → (q : Record) × HasAt s2 place q × (q.state ≡ r.state)
    by (Open e) new (inl sent) = same sent.2
    by (Open e) new (inr (inl lack)) = lack.2.places place r at
    by (Open e) new (inr (inr shut)) = same shut.2
    by (Ended w left) new did = same did.1

pub finished-covers : (w : Watched) (s s1 s2 : Store) (t t2 : Circuits) (name : List ℕ) (f : Finished) → writes.Finishes s name (Ok f) s1 → RepliesIn t f.ended s1 t2 s2 → Covers w t2 → CoversFor (effect_after f) f.ended.circuit s2 w t2
finished-covers w s s1 s2 t t2 name f did r covers = by f.applied
  where
    by : (o : Option Put) → CoversFor (after_applied f.place o) f.ended.circuit s2 w t2
    by (Some p) = (let q = replied-at s1 s2 t t2 f.ended f.place _ r did.3.becomes.there in ((q.0, q.1), covers))
    by None = covers

-- ---- the same along the view of the fields

pub viewed-finish : (y : Server) (port now n k : ℕ) (b : Clock) (s s1 s2 s3 : Store) (t t2 t3 : Circuits) (name : List ℕ) (f : Finished) (did : FollowUp) (q : Bool) → server_of port s now t b n ≡ y → did ≡ effect_after f → q ≡ is_wrote did → k ≡ more_applied q n → writes.Finishes s name (Ok f) s1 → RepliesIn t f.ended s1 t2 s2 → Follows did f.ended.circuit t2 s2 t3 s3
    → (sent : List (Handle × Fields)) × Finishes y name sent (Ok tt) (server_of port s3 now t3 b k)
viewed-finish y port now n k b s s1 s2 s3 t t2 t3 name f did q is after wrote more fin r follows =
    let at = replied-at s1 s2 t t2 f.ended f.place _ r fin.3.becomes.there in
    let next = nexts-of name fin.0.waiting s.stamp f fin.0 at.0 t2 s2 t3 s3 fin.2 fin.3.named at.1 at.2 (subst (λ (x : FollowUp). Follows x f.ended.circuit t2 s2 t3 s3) after follows) in
    let g = finishes-ok port now n b s s1 t name f fin s3 t3 s2 t2 next.0 r next.1 in
    let count : k ≡ more_applied (is_some (writes.next_put fin.0.waiting)) n =
    more ∙ ap (λ (p : Bool). more_applied p n) (wrote ∙ ap is_wrote after ∙ by f.applied ∙ ap (λ (o : Option Put). is_some o) fin.2) in
    subst (λ (x : Server). (sent : List (Handle × Fields)) × Finishes x name sent (Ok tt) (server_of port s3 now t3 b k)) is
    (subst (λ (m : ℕ). (sent : List (Handle × Fields)) × Finishes (server_of port s now t b n) name sent (Ok tt) (server_of port s3 now t3 b m)) (sym count) g)
  where
    by : (o : Option Put) → is_wrote (after_applied f.place o) ≡ is_some o
    by (Some p) = refl
    by None = refl
