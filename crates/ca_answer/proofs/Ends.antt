-- What the calls of a server leave of the end of one circuit.
use Rattle.std.proofs.Common.{◌≡◌, ℕ, zero, suc, ◌⊎◌, inl, inr, Bool, true, false, cond, List, [], ◌∷◌, Option, Some, None, refl, sym, ap, ◌∙◌, subst}
use Rattle.std.specs.Prelude.{Result, Ok, Err, is_some, option_map, slice_set}
use Rattle.std.specs.List.{FoldsTo}
use Rattle.ca_arena.specs.Arena.{Place}
use Rattle.ca_arena.specs.declared.handle.Handle.{Handle}
use Rattle.ca_ids.specs.Table.{Table, same_handle, under, with_changed, with_each}
use Rattle.ca_link.specs.Link.{LinkState, with_sent}
use Rattle.ca_records.specs.declared.puts.Put.{Put}
use Rattle.ca_records.specs.Puts.{WaitingPut}
use Rattle.ca_text.specs.declared.refusal.Refusal.{Refusal}
use Rattle.ca_text.specs.declared.refusal.Refusal.TheVariants as refusal
use Rattle.ca_text.proofs.Places.{some_is}
use Rattle.ca_wire.specs.Fields.{Fields}
use Rattle.ca_model.specs.Due.{Action, Applies}
use Rattle.ca_model.specs.Due as action
use Rattle.ca_model.specs.Ends as why
use Rattle.ca_model.specs.Server.{Ended, Open, Server, ServerCircuit, ServerEnd, with_post}
use Rattle.ca_model.specs.ServerCalls.{Finishes, Replies, after_next, finish_reply, lacking, with_finish}
use Rattle.ca_model.specs.ServerSteps.{Acts, Handles, HasEnd, Leaves, Pumps, Reaches, Records, Update, counted, reached, stored_now, with_end, write_mask}
use Rattle.ca_model.specs.Speech.{Stored}
use Rattle.ca_server_circuit.proofs.Cleared.{is-same, same-is}
use Rattle.ca_server_core.proofs.Each.{under-each}
use Rattle.ca_server_circuit.proofs.Tables.{changed-other, changed-own}
use Rattle.ca_server_core.specs.Noting.{Tries}

-- The circuit is open with this left to be read, or its end has ended out of memory.
abbrev pub Stays : Server → Handle → List ℕ → Type 0
Stays y h rest =
    ((e : ServerEnd) × HasEnd y h e × (e.link.input.bytes ≡ rest)) ⊎ ((left : List ℕ) × (under y.circuits h ≡ Some (Ended why.OutOfMemory left)))

-- ---- tables

set-set : {A : Type 0} (xs : List A) (i : ℕ) (x y : A) → slice_set (slice_set xs i x) i y ≡ slice_set xs i y
set-set [] i x y = refl
set-set (z ∷ xs) zero x y = refl
set-set (z ∷ xs) (suc i) x y = ap (λ ys. z ∷ ys) (set-set xs i x y)

changed-there : (t : Table ServerCircuit) (h : Handle) (c d : ServerCircuit) → under t h ≡ Some c → (let p : Place ServerCircuit = record { generation = h.generation; value = Some d } in with_changed (λ (x : ServerCircuit). d) h t ≡ slice_set t h.index p)
changed-there t h c d is =
    ap (λ (o : Option ServerCircuit). let p : Place ServerCircuit = record { generation = h.generation; value = option_map (λ (x : ServerCircuit). d) o } in cond (is_some o) (slice_set t h.index p) t) is

-- a circuit that is changed twice
pub changed-twice : (t : Table ServerCircuit) (h : Handle) (c d u : ServerCircuit) → under t h ≡ Some c
    → with_changed (λ (x : ServerCircuit). u) h (with_changed (λ (x : ServerCircuit). d) h t) ≡ with_changed (λ (x : ServerCircuit). u) h t
changed-twice t h c d u is =
    let p : Place ServerCircuit = record { generation = h.generation; value = Some d } in
    let q : Place ServerCircuit = record { generation = h.generation; value = Some u } in
    changed-there (with_changed (λ (x : ServerCircuit). d) h t) h d u (changed-own (λ (x : ServerCircuit). d) t h c is)
    ∙ ap (λ (s : Table ServerCircuit). slice_set s h.index q) (changed-there t h c d is)
    ∙ set-set t h.index p q
    ∙ sym (changed-there t h c u is)

pub end-there : (y : Server) (h : Handle) (c : ServerCircuit) (e : ServerEnd) → under y.circuits h ≡ Some c → HasEnd (with_end h e y) h e
end-there y h c e is = changed-own (λ (x : ServerCircuit). Open e) y.circuits h c is

pub one-end : (y : Server) (h : Handle) (a b : ServerEnd) → HasEnd y h a → HasEnd y h b → a ≡ b
one-end y h a b p q = open-is (some_is (Open a) (Open b) (sym p ∙ q))
  where
    open-is : (let x : ServerCircuit = Open a in x ≡ Open b) → a ≡ b
    open-is same = cc

pub not-open : (a : ServerEnd) {left : List ℕ} → (let x : ServerCircuit = Ended why.OutOfMemory left in x ≡ Open a) → ⊥
not-open a same = cc

-- ---- a message

-- an action leaves the bytes of the end
pub acts-link : (y : Server) (e : ServerEnd) (did : Action) (new : ServerEnd) → Acts y e did new → new.link ≡ e.link
acts-link y e action.Greets new is = ap (λ (x : ServerEnd). x.link) is
acts-link y e (action.Names p) new is = ap (λ (x : ServerEnd). x.link) is
acts-link y e (action.Opens c) new is = ap (λ (x : ServerEnd). x.link) is.3
acts-link y e (action.Clears sid) new is = ap (λ (x : ServerEnd). x.link) is
acts-link y e (action.Adds s) new is = ap (λ (x : ServerEnd). x.link) is.2.leaves
acts-link y e (action.Drops key) new is = ap (λ (x : ServerEnd). x.link) is
acts-link y e (action.Switches on) new is = ap (λ (x : ServerEnd). x.link) is
acts-link y e action.Nothing new is = ap (λ (x : ServerEnd). x.link) is
acts-link y e (Applies name value busies) new is = ap (λ (x : ServerEnd). x.link) is
acts-link y e (action.Waits name value) new is = ap (λ (x : ServerEnd). x.link) is

-- and the circuits
pub records-circuits : (y : Server) (h : Handle) (e : ServerEnd) (m : Fields) (did : Action) (new : Server) → Records y h e m did new → new.circuits ≡ y.circuits
records-circuits y h e m (Applies name value false) new is = ap (λ (s : Server). s.circuits) is
records-circuits y h e m (Applies name value true) new is = ap (λ (s : Server). s.circuits) is.2
records-circuits y h e m (action.Waits name value) new is = ap (λ (s : Server). s.circuits) is.2
records-circuits y h e m (action.Clears sid) new is = ap (λ (s : Server). s.circuits) is
records-circuits y h e m action.Nothing new is = ap (λ (s : Server). s.circuits) is
records-circuits y h e m action.Greets new is = ap (λ (s : Server). s.circuits) is
records-circuits y h e m (action.Names p) new is = ap (λ (s : Server). s.circuits) is
records-circuits y h e m (action.Opens c) new is = ap (λ (s : Server). s.circuits) is
records-circuits y h e m (action.Adds s) new is = ap (λ (s : Server). s.circuits) is
records-circuits y h e m (action.Drops k) new is = ap (λ (s : Server). s.circuits) is
records-circuits y h e m (action.Switches on) new is = ap (λ (s : Server). s.circuits) is

pub handles-has : (y : Server) (h : Handle) (c : ServerCircuit) (e : ServerEnd) (m : Fields) (replies : List Fields) (did : Action) (new : Server) → under y.circuits h ≡ Some c → Handles y h e m replies did new
    → (x : ServerEnd) × HasEnd new h x × (x.link.input.bytes ≡ e.link.input.bytes)
handles-has y h c e m replies did new there handles =
    let x : ServerEnd = record handles.acted { link = with_sent replies handles.acted.link } in
    let at : under handles.recorded.circuits h ≡ Some c = ap (λ (t : Table ServerCircuit). under t h) (records-circuits y h e m did handles.recorded handles.records) ∙ there in (
      x,
      ap (λ (s : Server). under s.circuits h) handles.leaves ∙ end-there handles.recorded h c x at,
      ap (λ (l : LinkState). l.input.bytes) (acts-link y e did handles.acted handles.acts),
    )

-- ---- its write

reached-has : (y : Server) (h : Handle) (e : ServerEnd) (name : List ℕ) (v : Stored) (gone : Handle → Bool) → HasEnd y h e
    → under (with_each (reached name write_mask v gone) y.circuits) h ≡ Some (reached name write_mask v gone h (Open e))
reached-has y h e name v gone has = under-each (reached name write_mask v gone) y.circuits h (Open e) has

pub reaches-has : (did : Action) (gone : Handle → Bool) (y : Server) (h : Handle) (e : ServerEnd) (new : Server) → Reaches did gone y new → gone h ≡ false → HasEnd y h e → (x : ServerEnd) × HasEnd new h x × (x.link.input.bytes ≡ e.link.input.bytes)
reaches-has (Applies name value busies) gone y h e new is stays has =
    let at = ap (λ (s : Server). under s.circuits h) is.1 ∙ reached-has y h e name (stored_now y value) gone has in
    let after : ServerEnd = with_post name write_mask (stored_now y value) e in
    subst (λ (b : Bool). under new.circuits h ≡ Some (cond b (Ended why.OutOfMemory e.link.output) (Open after)) → (x : ServerEnd) × HasEnd new h x × (x.link.input.bytes ≡ e.link.input.bytes)) (sym stays) (λ a. (after, a, refl)) at
reaches-has (action.Waits name value) gone y h e new is stays has = (e, ap (λ (s : Server). under s.circuits h) is.1 ∙ has, refl)
reaches-has (action.Clears sid) gone y h e new is stays has = (e, ap (λ (s : Server). under s.circuits h) is.1 ∙ has, refl)
reaches-has action.Nothing gone y h e new is stays has = (e, ap (λ (s : Server). under s.circuits h) is.1 ∙ has, refl)
reaches-has action.Greets gone y h e new is stays has = (e, ap (λ (s : Server). under s.circuits h) is.1 ∙ has, refl)
reaches-has (action.Names p) gone y h e new is stays has = (e, ap (λ (s : Server). under s.circuits h) is.1 ∙ has, refl)
reaches-has (action.Opens c) gone y h e new is stays has = (e, ap (λ (s : Server). under s.circuits h) is.1 ∙ has, refl)
reaches-has (action.Adds s) gone y h e new is stays has = (e, ap (λ (s : Server). under s.circuits h) is.1 ∙ has, refl)
reaches-has (action.Drops k) gone y h e new is stays has = (e, ap (λ (s : Server). under s.circuits h) is.1 ∙ has, refl)
reaches-has (action.Switches on) gone y h e new is stays has = (e, ap (λ (s : Server). under s.circuits h) is.1 ∙ has, refl)

-- ---- a finish

replies-has : (y new : Server) (p : Put) (gone : Handle → Bool) (sent : List (Handle × Fields)) (h : Handle) (e : ServerEnd) → Replies y p gone sent new → HasEnd y h e → (x : ServerEnd) × HasEnd new h x × (x.link.input.bytes ≡ e.link.input.bytes)
replies-has y new p gone sent h e (inr none) has = (e, ap (λ (s : Server). under s.circuits h) none.2 ∙ has, refl)
replies-has y new p gone sent h e (inl (a, awaited, said, is)) has = go (same_handle h p.circuit) refl
  where
    made : List Fields → ServerEnd
    made ms = record a { link = with_sent ms a.link }

    after : ServerEnd
    after = made (finish_reply p ∷ [])

    go : (b : Bool) → same_handle h p.circuit ≡ b → (x : ServerEnd) × HasEnd new h x × (x.link.input.bytes ≡ e.link.input.bytes)
    go true same =
        let at : h ≡ p.circuit = same-is h p.circuit same in
        let one : a ≡ e = one-end y p.circuit a e awaited.0 (subst (λ (g : Handle). HasEnd y g e) at has) in
        let there : HasEnd new p.circuit after = ap (λ (s : Server). under s.circuits p.circuit) is ∙ end-there y p.circuit (Open a) after awaited.0 in
        (after, subst (λ (g : Handle). HasEnd new g after) (sym at) there, ap (λ (z : ServerEnd). z.link.input.bytes) one)
    go false apart =
        let not_it : h ≡ p.circuit → ⊥ = λ s. both (same_handle h p.circuit) (is-same h p.circuit s) apart in
        (e, ap (λ (s : Server). under s.circuits h) is ∙ changed-other (λ (x : ServerCircuit). Open after) y.circuits h p.circuit (Open e) has not_it, refl)
      where
        both : (b : Bool) → b ≡ true → b ≡ false → ⊥
        both b t f = cc

stays-gone : (new : Server) (h : Handle) (gone : Bool) (left : List ℕ) (e : ServerEnd) → under new.circuits h ≡ Some (cond gone (Ended why.OutOfMemory left) (Open e)) → Stays new h e.link.input.bytes
stays-gone new h true left e at = inr (left, at)
stays-gone new h false left e at = inl (e, at, refl)

next-stays : (name : List ℕ) (ps : List WaitingPut) (gone : Handle → Bool) (mid new : Server) (h : Handle) (e : ServerEnd) → new ≡ after_next name ps gone mid → HasEnd mid h e → Stays new h e.link.input.bytes
next-stays name [] gone mid new h e is has =
    stays-gone new h (gone h) e.link.output e (ap (λ (s : Server). under s.circuits h) is ∙ under-each (lacking gone) mid.circuits h (Open e) has)
next-stays name (p ∷ ps) gone mid new h e is has =
    stays-gone new h (gone h) e.link.output (with_post name write_mask (stored_now mid p.value) e) (ap (λ (s : Server). under s.circuits h) is ∙ reached-has (counted mid) h e name (stored_now mid p.value) gone has)

-- an end that has ended stays so
ended-each : (f : Handle → ServerCircuit → ServerCircuit) (y new : Server) (h : Handle) (left : List ℕ) → f h (Ended why.OutOfMemory left) ≡ Ended why.OutOfMemory left → new.circuits ≡ with_each f y.circuits
    → under y.circuits h ≡ Some (Ended why.OutOfMemory left) → under new.circuits h ≡ Some (Ended why.OutOfMemory left)
ended-each f y new h left same is at =
    ap (λ (t : Table ServerCircuit). under t h) is ∙ under-each f y.circuits h (Ended why.OutOfMemory left) at ∙ ap (λ (c : ServerCircuit). Some c) same

next-ended : (name : List ℕ) (ps : List WaitingPut) (gone : Handle → Bool) (mid new : Server) (h : Handle) (left : List ℕ) → new ≡ after_next name ps gone mid → under mid.circuits h ≡ Some (Ended why.OutOfMemory left) → under new.circuits h ≡ Some (Ended why.OutOfMemory left)
next-ended name [] gone mid new h left is at = ended-each (lacking gone) mid new h left refl (ap (λ (s : Server). s.circuits) is) at
next-ended name (p ∷ ps) gone mid new h left is at =
    ended-each (reached name write_mask (stored_now mid p.value) gone) mid new h left refl (ap (λ (s : Server). s.circuits) is) at

replies-ended : (y new : Server) (p : Put) (gone : Handle → Bool) (sent : List (Handle × Fields)) (h : Handle) (left : List ℕ) → Replies y p gone sent new → under y.circuits h ≡ Some (Ended why.OutOfMemory left) → under new.circuits h ≡ Some (Ended why.OutOfMemory left)
replies-ended y new p gone sent h left (inr none) at = ap (λ (s : Server). under s.circuits h) none.2 ∙ at
replies-ended y new p gone sent h left (inl (a, awaited, said, is)) at =
    ap (λ (s : Server). under s.circuits h) is ∙ changed-other (λ (x : ServerCircuit). Open (record a { link = with_sent (finish_reply p ∷ []) a.link })) y.circuits h p.circuit (Ended why.OutOfMemory left) at (λ s. not-open a (some_is (Ended why.OutOfMemory left) (Open a) (sym at ∙ ap (λ (g : Handle). under y.circuits g) s ∙ awaited.0)))

finishes-stays : (y : Server) (name : List ℕ) (sent : List (Handle × Fields)) (r : Result (Unit {0}) Refusal) (new : Server) (h : Handle) (rest : List ℕ) → Finishes y name sent r new → Stays y h rest → Stays new h rest
finishes-stays y name sent (Ok u) new h rest f (inl (e, has, is)) =
    let x = replies-has (with_finish name f.0.r y) f.1 f.0.p f.0.gone sent h e f.2 has in
    subst (λ (b : List ℕ). Stays new h b) (x.2 ∙ is) (next-stays name f.0.r.waiting f.0.gone f.1 new h x.0 f.3 x.1)
finishes-stays y name sent (Ok u) new h rest f (inr (left, at)) =
    inr (left, next-ended name f.0.r.waiting f.0.gone f.1 new h left f.3 (replies-ended (with_finish name f.0.r y) f.1 f.0.p f.0.gone sent h left f.2 at))
finishes-stays y name sent (Err refusal.UnknownRecord) new h rest f stays = subst (λ (s : Server). Stays s h rest) (sym f.2) stays
finishes-stays y name sent (Err refusal.NotBusy) new h rest f stays = subst (λ (s : Server). Stays s h rest) (sym f.2) stays
finishes-stays y name sent (Err _) new h rest f stays = absurd f

pub tried-stays : (put : Option (List ℕ)) (y new : Server) (h : Handle) (rest : List ℕ) → Tries y put new → Stays y h rest → Stays new h rest
tried-stays None y new h rest is stays = subst (λ (s : Server). Stays s h rest) (sym is) stays
tried-stays (Some name) y new h rest is stays = finishes-stays y name is.0 is.1 new h rest is.2 stays

-- ---- a pump

pub leaves-input : (e : ServerEnd) (updates : List Update) (after : ServerEnd) → FoldsTo Leaves e updates after → after.link.input ≡ e.link.input
leaves-input e [] after is = ap (λ (x : ServerEnd). x.link.input) (sym is)
leaves-input e (u ∷ us) after f = leaves-input f.0 us after f.2 ∙ ap (λ (x : ServerEnd). x.link.input) f.1.leaves

pub pumped-stays : (y : Server) (h : Handle) (updates : List Update) (new : Server) (rest : List ℕ) → Pumps y h updates new → Stays y h rest → Stays new h rest
pumped-stays y h updates new rest (inr none) stays = subst (λ (s : Server). Stays s h rest) (sym none.2) stays
pumped-stays y h updates new rest (inl (e, has, (after, folds, inl rests))) stays =
    inl (after, ap (λ (s : Server). under s.circuits h) rests.1 ∙ end-there y h (Open e) after has, ap (λ i. i.bytes) (leaves-input e updates after folds) ∙ left stays)
  where
    left : Stays y h rest → e.link.input.bytes ≡ rest
    left (inl (x, there, is)) = ap (λ (z : ServerEnd). z.link.input.bytes) (one-end y h e x has there) ∙ is
    left (inr (l, at)) = absurd (not-open e (some_is (Ended why.OutOfMemory l) (Open e) (sym at ∙ has)))
pumped-stays y h updates new rest (inl (e, has, (after, folds, inr lacks))) stays =
    inr (after.link.output, ap (λ (s : Server). under s.circuits h) lacks.1 ∙ changed-own (λ (x : ServerCircuit). Ended why.OutOfMemory after.link.output) y.circuits h (Open e) has)
