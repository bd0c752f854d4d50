-- What each call of a server's core makes of the ends that were open: each is open after it, or has
-- ended, and its waiting puts are withdrawn.
use Rattle.std.proofs.Common.{◌≡◌, ℕ, zero, suc, ◌+◌, ◌⊎◌, inl, inr, Bool, true, false, cond, not, ◌&&◌, ◌||◌, List, [], ◌∷◌, Option, Some, None, refl, sym, ap, subst, ◌∙◌, arith}
use Rattle.std.specs.Prelude.{Ok, filter, option_map}
use Rattle.ca_arena.specs.Arena.{Place}
use Rattle.ca_arena.specs.declared.handle.Handle.{Handle}
use Rattle.ca_ids.specs.Table.{Table, same_handle, under, with_each, with_each_from}
use Rattle.ca_model.proofs.Handles.{not-same, same-is}
use Rattle.ca_model.proofs.Tables.{at-under, changed-other, changed-own, held-other, place, under-at}
use Rattle.ca_records.specs.declared.puts.Put.{Put}
use Rattle.ca_records.specs.Puts.{Record, WaitingPut, without_puts, withdrawn}
use Rattle.ca_text.specs.Place.{At}
use Rattle.ca_text.proofs.Places.{some_is}
use Rattle.ca_wire.specs.Fields.{Fields}
use Rattle.ca_model.specs.Due.{Action, Applies}
use Rattle.ca_model.specs.Due as action
use Rattle.ca_model.specs.Ends as why
use Rattle.ca_model.specs.Ends.{Why}
use Rattle.ca_model.specs.Server.{Ended, Open, Server, ServerCircuit, ServerEnd, with_post}
use Rattle.ca_link.specs.Link.{with_sent}
use Rattle.ca_model.specs.ServerCalls.{Replies, finish_reply, after_next, circuit_without, end_without, lacking}
use Rattle.ca_model.specs.ServerSteps.{Accepts, Gives, HasEnd, Reaches, Records, Sends, after_post, counted, ended, reached, stored_now, with_end, write_mask}
use Rattle.ca_model.specs.Speech.{Stored}
use Rattle.ca_laws_parts.proofs.WritesLists.{filter-and}

-- ---- tables

none-some : {A : Type 0} (x : A) → let a : Option A = None in let b : Option A = Some x in a ≡ b → ⊥
none-some x e = cc

module _ {T : Type 0} where
  each-place : (i : ℕ) (f : Handle → T → T) (t : Table T) (k : ℕ) (p : Place T) → At t k p → At (with_each_from i f t) k (record p { value = option_map (f (record { index = i + k; generation = p.generation })) p.value })
  each-place i f [] k p at = absurd cc
  each-place i f (q ∷ t) zero p at =
      let n : i ≡ i + 0 = omega arith in
      let is : q ≡ p = some_is q p at in
      ap (λ (z : Place T). Some (record z { value = option_map (f (record { index = i; generation = z.generation })) z.value })) is
      ∙ ap (λ (m : ℕ). Some (record p { value = option_map (f (record { index = m; generation = p.generation })) p.value })) n
  each-place i f (q ∷ t) (suc k) p at =
      let n : i + 1 + k ≡ i + suc k = omega arith in
      subst (λ (m : ℕ). At (with_each_from (i + 1) f t) k (record p { value = option_map (f (record { index = m; generation = p.generation })) p.value })) n (each-place (i + 1) f t k p at)

  -- each of a table changed, by its handle
  pub each-there : (f : Handle → T → T) (t : Table T) (h : Handle) (v : T) → under t h ≡ Some v → under (with_each f t) h ≡ Some (f h v)
  each-there f t h v is =
      let n : 0 + h.index ≡ h.index = omega arith in
      at-under (with_each f t) h (f h v)
      (subst (λ (m : ℕ). At (with_each f t) h.index (record { generation = h.generation; value = Some (f (record { index = m; generation = h.generation }) v) })) n
      (each-place 0 f t h.index (place h v) (under-at t h v is)))

-- ---- withdrawn puts

puts-same : (test : Put → Bool) (ws : List WaitingPut) → ((b : Put) → test b ≡ false) → filter (λ (w : WaitingPut). not (test w.put)) ws ≡ ws
puts-same test [] none = refl
puts-same test (w ∷ ws) none =
    ap (λ (b : Bool). cond (not b) (w ∷ filter (λ (u : WaitingPut). not (test u.put)) ws) (filter (λ (u : WaitingPut). not (test u.put)) ws)) (none w.put)
    ∙ ap (λ (l : List WaitingPut). w ∷ l) (puts-same test ws none)

-- a test that names none withdraws none
pub withdrawn-none : (test : Put → Bool) (cs : List Record) → ((b : Put) → test b ≡ false) → withdrawn test cs ≡ cs
withdrawn-none test [] none = refl
withdrawn-none test (c ∷ cs) none =
    ap (λ (ws : List WaitingPut). (record c { waiting = ws }) ∷ withdrawn test cs) (puts-same test c.waiting none)
    ∙ ap (λ (l : List Record). c ∷ l) (withdrawn-none test cs none)

or-not : (a b : Bool) → not (a || b) ≡ not a && not b
or-not true b = refl
or-not false b = refl

puts-either : (s t : Put → Bool) (ws : List WaitingPut) → filter (λ (w : WaitingPut). not (s w.put || t w.put)) ws ≡ filter (λ (w : WaitingPut). not (s w.put) && not (t w.put)) ws
puts-either s t [] = refl
puts-either s t (w ∷ ws) =
    ap (λ (b : Bool). cond b (w ∷ filter (λ (u : WaitingPut). not (s u.put || t u.put)) ws) (filter (λ (u : WaitingPut). not (s u.put || t u.put)) ws)) (or-not (s w.put) (t w.put))
    ∙ ap (λ (l : List WaitingPut). cond (not (s w.put) && not (t w.put)) (w ∷ l) l) (puts-either s t ws)

-- two tests, one after the other
pub withdrawn-twice : (s t : Put → Bool) (cs : List Record) → withdrawn t (withdrawn s cs) ≡ withdrawn (λ (b : Put). s b || t b) cs
withdrawn-twice s t [] = refl
withdrawn-twice s t (c ∷ cs) =
    ap (λ (ws : List WaitingPut). (record c { waiting = ws }) ∷ withdrawn t (withdrawn s cs))
    (sym (puts-either s t c.waiting ∙ filter-and (λ (w : WaitingPut). not (s w.put)) (λ (w : WaitingPut). not (t w.put)) c.waiting))
    ∙ ap (λ (l : List Record). without_puts (λ (b : Put). s b || t b) c ∷ l) (withdrawn-twice s t cs)

-- ---- ends

-- After a call each end that was open is so, or it has ended, and the test names it.
abbrev pub EndsBy : (old new : Server) → (gone : Handle → Bool) → Type 0
EndsBy old new gone = (h : Handle) (e : ServerEnd) → HasEnd old h e
    → ((gone h ≡ true) × ((w : Why) × (left : List ℕ) × (under new.circuits h ≡ Some (Ended w left)))) ⊎ ((gone h ≡ false) × ((f : ServerEnd) × HasEnd new h f))

-- each stays open
abbrev pub StayOpen : (old new : Server) → Type 0
StayOpen old new = (h : Handle) (e : ServerEnd) → HasEnd old h e → (f : ServerEnd) × HasEnd new h f

pub stay-ends : (old new : Server) (gone : Handle → Bool) → StayOpen old new → ((h : Handle) → gone h ≡ false) → EndsBy old new gone
stay-ends old new gone stay none h e has = inr (none h, stay h e has)

pub stay-then : (a b c : Server) (gone : Handle → Bool) → StayOpen a b → EndsBy b c gone → EndsBy a c gone
stay-then a b c gone stay ends h e has = (let f = stay h e has in ends h f.0 f.1)

pub stay-self : (old new : Server) → new.circuits ≡ old.circuits → StayOpen old new
stay-self old new is h e has = (e, subst (λ (t : Table ServerCircuit). under t h ≡ Some (Open e)) (sym is) has)

handle-or : (g h : Handle) (b : Bool) → same_handle g h ≡ b → (g ≡ h) ⊎ (g ≡ h → ⊥)
handle-or g h true is = inl (same-is g h is)
handle-or g h false is = inr (not-same g h is)

pub stay-end : (y : Server) (h : Handle) (e d : ServerEnd) → HasEnd y h e → StayOpen y (with_end h d y)
stay-end y h e d has g f there = elim (handle-or g h (same_handle g h) refl) [
  | inl is ↦ (d, subst (λ (k : Handle). HasEnd (with_end h d y) k d) (sym is) (changed-own (λ (c : ServerCircuit). Open d) y.circuits h (Open e) has))
  | inr other ↦ (f, changed-other (λ (c : ServerCircuit). Open d) y.circuits g h (Open f) there other)
]

-- a change of each circuit that ends those of a test
pub each-ends : (old new : Server) (gone : Handle → Bool) (f : Handle → ServerCircuit → ServerCircuit) → new.circuits ≡ with_each f old.circuits
    → ((h : Handle) (e : ServerEnd) → ((gone h ≡ true) × ((w : Why) × (left : List ℕ) × (f h (Open e) ≡ Ended w left))) ⊎ ((gone h ≡ false) × ((d : ServerEnd) × (f h (Open e) ≡ Open d)))) → EndsBy old new gone
each-ends old new gone f is each h e has =
    let there : under new.circuits h ≡ Some (f h (Open e)) = ap (λ (t : Table ServerCircuit). under t h) is ∙ each-there f old.circuits h (Open e) has in
    elim (each h e) [
      | inl ends ↦ inl (ends.0, (ends.1.0, ends.1.1, there ∙ ap (λ (c : ServerCircuit). Some c) ends.1.2))
      | inr stays ↦ inr (stays.0, (stays.1.0, there ∙ ap (λ (c : ServerCircuit). Some c) stays.1.1))
    ]

-- an end that ends out of memory with these bytes, or stays with that
by-test : (b : Bool) (left : List ℕ) (d : ServerEnd) → ((b ≡ true) × ((w : Why) × (l : List ℕ) × (cond b (Ended why.OutOfMemory left) (Open d) ≡ Ended w l))) ⊎ ((b ≡ false) × ((x : ServerEnd) × (cond b (Ended why.OutOfMemory left) (Open d) ≡ Open x)))
by-test true left d = inl (refl, (why.OutOfMemory, left, refl))
by-test false left d = inr (refl, (d, refl))

pub post-ends : (name : List ℕ) (mask : ℕ) (v : Stored) (gone : Handle → Bool) (y : Server) → EndsBy y (after_post name mask v gone y) gone
post-ends name mask v gone y =
    each-ends y (after_post name mask v gone y) gone (reached name mask v gone) refl (λ h e. by-test (gone h) e.link.output (with_post name mask v e))

pub next-ends : (name : List ℕ) (ws : List WaitingPut) (gone : Handle → Bool) (y : Server) → EndsBy y (after_next name ws gone y) gone
next-ends name [] gone y = each-ends y (after_next name [] gone y) gone (lacking gone) refl (λ h e. by-test (gone h) e.link.output e)
next-ends name (w ∷ ws) gone y = post-ends name write_mask (stored_now y w.value) gone (counted y)

pub next-records : (name : List ℕ) (ws : List WaitingPut) (gone : Handle → Bool) (y : Server) → (after_next name ws gone y).records ≡ withdrawn (λ (p : Put). gone p.circuit) y.records
next-records name [] gone y = refl
next-records name (w ∷ ws) gone y = refl

pub replies-stay : (y : Server) (p : Put) (gone : Handle → Bool) (sent : List (Handle × Fields)) (new : Server) → Replies y p gone sent new → StayOpen y new × (new.records ≡ y.records)
replies-stay y p gone sent new (inl said) =
    let e : ServerEnd = said.0 in
    let z : Server = with_end p.circuit (record e { link = with_sent (finish_reply p ∷ []) e.link }) y in
    let is : new ≡ z = said.3 in
    (subst (λ (x : Server). StayOpen y x) (sym is) (stay-end y p.circuit e (record e { link = with_sent (finish_reply p ∷ []) e.link }) said.1.0), ap (λ (x : Server). x.records) is)
replies-stay y p gone sent new (inr not) = (stay-self y new (ap (λ (x : Server). x.circuits) not.2), ap (λ (x : Server). x.records) not.2)

pub removal-ends : (name : List ℕ) (gone : Handle → Bool) (left : Handle → ℕ) (old new : Server) → new.circuits ≡ with_each (circuit_without name gone left) old.circuits → EndsBy old new gone
removal-ends name gone left old new is = each-ends old new gone (circuit_without name gone left) is (λ h e. by-test (gone h) _ (end_without name e))

-- one end has ended, and the others stay
pub ended-ends : (h : Handle) (w : Why) (left : List ℕ) (e : ServerEnd) (y : Server) → HasEnd y h e → EndsBy y (ended h w left y) (λ (g : Handle). same_handle g h)
ended-ends h w left e y has g f there = go (same_handle g h) refl
  where
    go : (b : Bool) → same_handle g h ≡ b → ((same_handle g h ≡ true) × ((v : Why) × (l : List ℕ) × (under (ended h w left y).circuits g ≡ Some (Ended v l)))) ⊎ ((same_handle g h ≡ false) × ((d : ServerEnd) × HasEnd (ended h w left y) g d))
    go true is = inl (is, (w, left, subst (λ (k : Handle). under (ended h w left y).circuits k ≡ Some (Ended w left)) (sym (same-is g h is)) (changed-own (λ (c : ServerCircuit). Ended w left) y.circuits h (Open e) has)))
    go false is = inr (is, (f, changed-other (λ (c : ServerCircuit). Ended w left) y.circuits g h (Open f) there (not-same g h is)))

-- ---- bytes and circuits

pub gives-stay : (old new : Server) (h : Handle) (bytes : List ℕ) → Gives old h bytes (Ok tt) new → StayOpen old new × (new.records ≡ old.records)
gives-stay old new h bytes (e, has, is) = (subst (λ (x : Server). StayOpen old x) (sym is) (stay-end old h e _ has), ap (λ (x : Server). x.records) is)

pub sends-stay : (old new : Server) (h : Handle) (n : ℕ) → Sends old h n new → StayOpen old new × (new.records ≡ old.records)
sends-stay old new h n (inl (e, has, within, is)) = (subst (λ (x : Server). StayOpen old x) (sym is) (stay-end old h e _ has), ap (λ (x : Server). x.records) is)
sends-stay old new h n (inr (none, zero_of, is)) = (stay-self old new (ap (λ (x : Server). x.circuits) is), ap (λ (x : Server). x.records) is)

pub accepts-stay : (old new : Server) (h : Handle) → Accepts old (Ok h) new → StayOpen old new × (new.records ≡ old.records)
accepts-stay old new h (may, is) =
    (subst (λ (x : Server). StayOpen old x) (sym is) (λ g e has. (e, held-other old.circuits g h _ (Open e) may has)), ap (λ (x : Server). x.records) is)

-- ---- what a message does

pub records-stay : (y : Server) (h : Handle) (e : ServerEnd) (m : Fields) (did : Action) (new : Server) → Records y h e m did new → new.circuits ≡ y.circuits
records-stay y h e m (Applies name value false) new is = ap (λ (x : Server). x.circuits) is
records-stay y h e m (Applies name value true) new is = ap (λ (x : Server). x.circuits) is.2
records-stay y h e m (action.Waits name value) new is = ap (λ (x : Server). x.circuits) is.2
records-stay y h e m (action.Clears sid) new is = ap (λ (x : Server). x.circuits) is
records-stay y h e m action.Nothing new is = ap (λ (x : Server). x.circuits) is
records-stay y h e m action.Greets new is = ap (λ (x : Server). x.circuits) is
records-stay y h e m (action.Names x) new is = ap (λ (x : Server). x.circuits) is
records-stay y h e m (action.Opens x) new is = ap (λ (x : Server). x.circuits) is
records-stay y h e m (action.Adds x) new is = ap (λ (x : Server). x.circuits) is
records-stay y h e m (action.Drops x) new is = ap (λ (x : Server). x.circuits) is
records-stay y h e m (action.Switches x) new is = ap (λ (x : Server). x.circuits) is

none-reached : (gone : Handle → Bool) (y new : Server) → ((h : Handle) → gone h ≡ false) → new ≡ y → EndsBy y new gone × (new.records ≡ withdrawn (λ (p : Put). gone p.circuit) y.records)
none-reached gone y new none is = (
  stay-ends y new gone (stay-self y new (ap (λ (x : Server). x.circuits) is)) none,
  ap (λ (x : Server). x.records) is ∙ sym (withdrawn-none (λ (p : Put). gone p.circuit) y.records (λ b. none b.circuit)),
)

pub reaches-ends : (did : Action) (gone : Handle → Bool) (y new : Server) → Reaches did gone y new → EndsBy y new gone × (new.records ≡ withdrawn (λ (p : Put). gone p.circuit) y.records)
reaches-ends (Applies name value busies) gone y new (may, is) =
    (subst (λ (x : Server). EndsBy y x gone) (sym is) (post-ends name write_mask (stored_now y value) gone y), ap (λ (x : Server). x.records) is)
reaches-ends (action.Waits name value) gone y new r = none-reached gone y new r.0 r.1
reaches-ends (action.Clears sid) gone y new r = none-reached gone y new r.0 r.1
reaches-ends action.Nothing gone y new r = none-reached gone y new r.0 r.1
reaches-ends action.Greets gone y new r = none-reached gone y new r.0 r.1
reaches-ends (action.Names x) gone y new r = none-reached gone y new r.0 r.1
reaches-ends (action.Opens x) gone y new r = none-reached gone y new r.0 r.1
reaches-ends (action.Adds x) gone y new r = none-reached gone y new r.0 r.1
reaches-ends (action.Drops x) gone y new r = none-reached gone y new r.0 r.1
reaches-ends (action.Switches x) gone y new r = none-reached gone y new r.0 r.1
