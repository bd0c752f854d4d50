-- What each call of a server's core makes of the bytes of its ends: the same bytes came, what is
-- sent waits after the rest, and an end that ends leaves a beginning of that.
use Rattle.std.proofs.Common.{◌≡◌, ℕ, ◌⊎◌, inl, inr, Bool, true, false, cond, List, [], ◌∷◌, ◌++◌, Some, refl, sym, ap, ◌∙◌, subst, append_assoc}
use Rattle.std.specs.Prelude.{drop, map, take}
use Rattle.std.specs.List.{FoldsTo}
use Rattle.std.proofs.lemmas.List.{append-nil, take-append-drop}
use Rattle.ca_arena.specs.declared.handle.Handle.{Handle}
use Rattle.ca_ids.specs.Table.{Table, under, with_each}
use Rattle.ca_link.specs.Link.{LinkState, with_rest, with_sent}
use Rattle.ca_records.specs.declared.puts.Put.{Put}
use Rattle.ca_records.specs.Puts.{WaitingPut}
use Rattle.ca_text.proofs.Places.{some_is}
use Rattle.ca_wire.specs.Fields.{Fields}
use Rattle.ca_wire.specs.Message.{spelled}
use Rattle.ca_model.specs.Due.{Action, Applies}
use Rattle.ca_model.specs.Due as action
use Rattle.ca_model.specs.Ends.{Why}
use Rattle.ca_model.specs.Ends as why
use Rattle.ca_model.specs.Server.{Ended, Open, Server, ServerCircuit, ServerEnd, with_post}
use Rattle.ca_model.specs.ServerCalls.{after_next, circuit_without, disconnects, end_without, finish_reply, lacking, with_message}
use Rattle.ca_model.specs.ServerSteps.{Acts, HasEnd, Next, Reaches, Update, after_post, counted, ended, reached, stored_now, with_end, write_mask}
use Rattle.ca_model.specs.ServerSteps as steps
use Rattle.ca_model.specs.Speech.{Stored}
use Rattle.ca_model.proofs.Tables.{changed-other, changed-own}
use Rattle.ca_laws_parts.proofs.Cores.{each-there, records-stay}
use Rattle.ca_laws_parts.proofs.Streaming.{spelled-more}

-- it stays open, and these messages wait after the rest
abbrev pub Stays : (old new : Server) → Handle → ServerEnd → List Fields → Type 0
Stays old new h e more = (f : ServerEnd) × HasEnd new h f × (f.link.input.bytes ≡ e.link.input.bytes) × (f.link.output ≡ e.link.output ++ spelled more)

-- it ended, and left a beginning of what waited with them
abbrev pub Ends : (new : Server) → Handle → ServerEnd → List Fields → Type 0
Ends new h e more = (w : Why) × (left : List ℕ) × (under new.circuits h ≡ Some (Ended w left)) × ((lost : List ℕ) × (e.link.output ++ spelled more ≡ left ++ lost))

abbrev pub Goes : (old new : Server) → Handle → List Fields → Type 0
Goes old new h more = (e : ServerEnd) → HasEnd old h e → Stays old new h e more ⊎ Ends new h e more

-- all ends go on, and send nothing
abbrev pub AllGo : (old new : Server) → Type 0
AllGo old new = (h : Handle) → Goes old new h []

pub go-same : (old new : Server) → new.circuits ≡ old.circuits → AllGo old new
go-same old new same h e has = inl (e, subst (λ (t : Table ServerCircuit). under t h ≡ Some (Open e)) (sym same) has, refl, sym (append-nil e.link.output))

pub go-then : (a b c : Server) (h : Handle) (ms ns : List Fields) → ((e : ServerEnd) → HasEnd a h e → Stays a b h e ms) → Goes b c h ns → Goes a c h (ms ++ ns)
go-then a b c h ms ns f g e has =
    let d = f e has in
    let out : d.0.link.output ++ spelled ns ≡ e.link.output ++ spelled (ms ++ ns) =
    ap (λ (l : List ℕ). l ++ spelled ns) d.3 ∙ append_assoc e.link.output (spelled ms) (spelled ns) ∙ ap (λ (l : List ℕ). e.link.output ++ l) (sym (spelled-more ms ns)) in
    elim (g d.0 d.1) [
      | inl stays ↦ inl (stays.0, stays.1, stays.2 ∙ d.2, stays.3 ∙ out)
      | inr over ↦ inr (over.0, over.1, over.2, (over.3.0, sym out ∙ over.3.1))
    ]

-- one end is this now
pub go-end : (y : Server) (h g : Handle) (d : ServerEnd) → (g ≡ h → ⊥) → (e : ServerEnd) → HasEnd y g e → Stays y (with_end h d y) g e []
go-end y h g d other e has = (e, changed-other (λ (c : ServerCircuit). Open d) y.circuits g h (Open e) has other, refl, sym (append-nil e.link.output))

pub end-own : (y : Server) (h : Handle) (e d : ServerEnd) → HasEnd y h e → HasEnd (with_end h d y) h d
end-own y h e d has = changed-own (λ (c : ServerCircuit). Open d) y.circuits h (Open e) has

-- ---- each circuit

each-goes : (old new : Server) (f : Handle → ServerCircuit → ServerCircuit) → new.circuits ≡ with_each f old.circuits → (h : Handle) (more : List Fields)
    → ((e : ServerEnd) → ((d : ServerEnd) × (f h (Open e) ≡ Open d) × (d.link.input.bytes ≡ e.link.input.bytes) × (d.link.output ≡ e.link.output ++ spelled more))
    ⊎ ((w : Why) × (left : List ℕ) × (f h (Open e) ≡ Ended w left) × ((lost : List ℕ) × (e.link.output ++ spelled more ≡ left ++ lost))))
    → Goes old new h more
each-goes old new f is h more each e has =
    let there : under new.circuits h ≡ Some (f h (Open e)) = ap (λ (t : Table ServerCircuit). under t h) is ∙ each-there f old.circuits h (Open e) has in
    elim (each e) [
      | inl stays ↦ inl (stays.0, there ∙ ap (λ (c : ServerCircuit). Some c) stays.1, stays.2, stays.3)
      | inr over ↦ inr (over.0, over.1, there ∙ ap (λ (c : ServerCircuit). Some c) over.2, over.3)
    ]

-- an end that ends with all that waited, or stays with that
by-test : (b : Bool) (e d : ServerEnd) → d.link.input.bytes ≡ e.link.input.bytes → d.link.output ≡ e.link.output
    → ((x : ServerEnd) × (cond b (Ended why.OutOfMemory e.link.output) (Open d) ≡ Open x) × (x.link.input.bytes ≡ e.link.input.bytes) × (x.link.output ≡ e.link.output ++ spelled []))
    ⊎ ((w : Why) × (left : List ℕ) × (cond b (Ended why.OutOfMemory e.link.output) (Open d) ≡ Ended w left) × ((lost : List ℕ) × (e.link.output ++ spelled [] ≡ left ++ lost)))
by-test true e d input output = inr (why.OutOfMemory, e.link.output, refl, ([], refl))
by-test false e d input output = inl (d, refl, input, output ∙ sym (append-nil e.link.output))

pub post-go : (name : List ℕ) (mask : ℕ) (v : Stored) (gone : Handle → Bool) (y : Server) → AllGo y (after_post name mask v gone y)
post-go name mask v gone y h = each-goes y (after_post name mask v gone y) (reached name mask v gone) refl h [] (λ e. by-test (gone h) e (with_post name mask v e) refl refl)

pub next-go : (name : List ℕ) (ws : List WaitingPut) (gone : Handle → Bool) (y : Server) → AllGo y (after_next name ws gone y)
next-go name [] gone y h = each-goes y (after_next name [] gone y) (lacking gone) refl h [] (λ e. by-test (gone h) e e refl refl)
next-go name (w ∷ ws) gone y h = post-go name write_mask (stored_now y w.value) gone (counted y) h

take-spelled : (n : ℕ) (ms : List Fields) → spelled ms ≡ spelled (take n ms) ++ spelled (drop n ms)
take-spelled n ms = ap (λ (l : List Fields). spelled l) (sym (take-append-drop n ms)) ∙ spelled-more (take n ms) (drop n ms)

-- a removal, at an end: its SERVER_DISCONNs, or a beginning of them
pub removal-goes : (name : List ℕ) (gone : Handle → Bool) (left : Handle → ℕ) (old new : Server) → new.circuits ≡ with_each (circuit_without name gone left) old.circuits → (h : Handle) (e : ServerEnd) → HasEnd old h e
    → ((gone h ≡ false) × Stays old new h e (disconnects name e)) ⊎ ((gone h ≡ true) × Ends new h e (take (left h) (disconnects name e)))
removal-goes name gone left old new is h e has = go (gone h) refl there
  where
    there : under new.circuits h ≡ Some (circuit_without name gone left h (Open e))
    there = ap (λ (t : Table ServerCircuit). under t h) is ∙ each-there (circuit_without name gone left) old.circuits h (Open e) has

    go : (b : Bool) → gone h ≡ b → under new.circuits h ≡ Some (cond b (Ended why.OutOfMemory (e.link.output ++ spelled (take (left h) (disconnects name e)))) (Open (end_without name e)))
        → ((gone h ≡ false) × Stays old new h e (disconnects name e)) ⊎ ((gone h ≡ true) × Ends new h e (take (left h) (disconnects name e)))
    go true q at = inr (q, (why.OutOfMemory, e.link.output ++ spelled (take (left h) (disconnects name e)), at, ([], sym (append-nil (e.link.output ++ spelled (take (left h) (disconnects name e)))))))
    go false q at = inl (q, (end_without name e, at, refl, refl))

-- ---- one end ends

pub ended-go : (h : Handle) (w : Why) (left : List ℕ) (y : Server) (g : Handle) → (g ≡ h → ⊥) → Goes y (ended h w left y) g []
ended-go h w left y g other e has = inl (e, changed-other (λ (c : ServerCircuit). Ended w left) y.circuits g h (Open e) has other, refl, sym (append-nil e.link.output))

pub ended-own : (h : Handle) (w : Why) (left : List ℕ) (y : Server) (e : ServerEnd) → HasEnd y h e → under (ended h w left y).circuits h ≡ Some (Ended w left)
ended-own h w left y e has = changed-own (λ (c : ServerCircuit). Ended w left) y.circuits h (Open e) has

-- ---- a message

acts-link : (y : Server) (e : ServerEnd) (did : Action) (new : ServerEnd) → Acts y e did new → new.link ≡ e.link
acts-link y e (Applies name value busies) new is = ap (λ (x : ServerEnd). x.link) is
acts-link y e (action.Waits name value) new is = ap (λ (x : ServerEnd). x.link) is
acts-link y e (action.Clears sid) new is = ap (λ (x : ServerEnd). x.link) is
acts-link y e action.Nothing new is = ap (λ (x : ServerEnd). x.link) is
acts-link y e action.Greets new is = ap (λ (x : ServerEnd). x.link) is
acts-link y e (action.Names p) new is = ap (λ (x : ServerEnd). x.link) is
acts-link y e (action.Opens c) new is = ap (λ (x : ServerEnd). x.link) is.3
acts-link y e (action.Adds s) new is = ap (λ (x : ServerEnd). x.link) is.2.leaves
acts-link y e (action.Drops k) new is = ap (λ (x : ServerEnd). x.link) is
acts-link y e (action.Switches b) new is = ap (λ (x : ServerEnd). x.link) is

-- the end that handled it, and the others
pub next-own : (y : Server) (h : Handle) (e : ServerEnd) → HasEnd y h e → (n : Next y h e)
    → (f : ServerEnd) × HasEnd n.after h f × (f.link.input.bytes ≡ n.rest) × (f.link.output ≡ e.link.output ++ spelled n.replies)
next-own y h e has n =
    let made = n.handles in
    let is : made.recorded.circuits ≡ y.circuits = records-stay y h (record e { link = with_rest n.rest e.link }) n.m n.action made.recorded made.records in
    let link = acts-link y (record e { link = with_rest n.rest e.link }) n.action made.acted made.acts in
    let d : ServerEnd = record made.acted { link = with_sent n.replies made.acted.link } in
    let there : HasEnd made.recorded h e = subst (λ (t : Table ServerCircuit). under t h ≡ Some (Open e)) (sym is) has in
    (d, subst (λ (z : Server). HasEnd z h d) (sym made.leaves) (end-own made.recorded h e d there), ap (λ (l : LinkState). l.input.bytes) link, ap (λ (l : LinkState). l.output ++ spelled n.replies) link)

pub next-others : (y : Server) (h : Handle) (e : ServerEnd) (n : Next y h e) (g : Handle) → (g ≡ h → ⊥) → (d : ServerEnd) → HasEnd y g d → Stays y n.after g d []
next-others y h e n g other d has =
    let made = n.handles in
    let is : made.recorded.circuits ≡ y.circuits = records-stay y h (record e { link = with_rest n.rest e.link }) n.m n.action made.recorded made.records in
    let there : HasEnd made.recorded g d = subst (λ (t : Table ServerCircuit). under t g ≡ Some (Open d)) (sym is) has in
    subst (λ (z : Server). Stays y z g d []) (sym made.leaves) (go-end made.recorded h g _ other d there)

pub reaches-go : (did : Action) (gone : Handle → Bool) (y new : Server) → Reaches did gone y new → AllGo y new
reaches-go (Applies name value busies) gone y new (may, is) = subst (λ (x : Server). AllGo y x) (sym is) (post-go name write_mask (stored_now y value) gone y)
reaches-go (action.Waits name value) gone y new r = go-same y new (ap (λ (x : Server). x.circuits) r.1)
reaches-go (action.Clears sid) gone y new r = go-same y new (ap (λ (x : Server). x.circuits) r.1)
reaches-go action.Nothing gone y new r = go-same y new (ap (λ (x : Server). x.circuits) r.1)
reaches-go action.Greets gone y new r = go-same y new (ap (λ (x : Server). x.circuits) r.1)
reaches-go (action.Names x) gone y new r = go-same y new (ap (λ (x : Server). x.circuits) r.1)
reaches-go (action.Opens x) gone y new r = go-same y new (ap (λ (x : Server). x.circuits) r.1)
reaches-go (action.Adds x) gone y new r = go-same y new (ap (λ (x : Server). x.circuits) r.1)
reaches-go (action.Drops x) gone y new r = go-same y new (ap (λ (x : Server). x.circuits) r.1)
reaches-go (action.Switches x) gone y new r = go-same y new (ap (λ (x : Server). x.circuits) r.1)

same-stays : (y new : Server) (h : Handle) (e : ServerEnd) → new ≡ y → HasEnd y h e → Stays y new h e []
same-stays y new h e is has = (e, subst (λ (x : Server). HasEnd x h e) (sym is) has, refl, sym (append-nil e.link.output))

-- an end that a write reaches, and that does not end for it, stays
pub reaches-stays : (did : Action) (gone : Handle → Bool) (y new : Server) → Reaches did gone y new → (h : Handle) → gone h ≡ false → (e : ServerEnd) → HasEnd y h e → Stays y new h e []
reaches-stays (Applies name value busies) gone y new (may, is) h stays e has =
    let there : under new.circuits h ≡ Some (reached name write_mask (stored_now y value) gone h (Open e)) =
    ap (λ (x : Server). under x.circuits h) is ∙ each-there (reached name write_mask (stored_now y value) gone) y.circuits h (Open e) has in
    let d : ServerEnd = with_post name write_mask (stored_now y value) e in
    (d, there ∙ ap (λ (b : Bool). Some (cond b (Ended why.OutOfMemory e.link.output) (Open d))) stays, refl, sym (append-nil e.link.output))
reaches-stays (action.Waits name value) gone y new r h stays e has = same-stays y new h e r.1 has
reaches-stays (action.Clears sid) gone y new r h stays e has = same-stays y new h e r.1 has
reaches-stays action.Nothing gone y new r h stays e has = same-stays y new h e r.1 has
reaches-stays action.Greets gone y new r h stays e has = same-stays y new h e r.1 has
reaches-stays (action.Names x) gone y new r h stays e has = same-stays y new h e r.1 has
reaches-stays (action.Opens x) gone y new r h stays e has = same-stays y new h e r.1 has
reaches-stays (action.Adds x) gone y new r h stays e has = same-stays y new h e r.1 has
reaches-stays (action.Drops x) gone y new r h stays e has = same-stays y new h e r.1 has
reaches-stays (action.Switches x) gone y new r h stays e has = same-stays y new h e r.1 has

-- ---- replies of a finish, and updates

pub open-one : (d e : ServerEnd) → Open d ≡ Open e → d ≡ e
open-one d e is = cc

pub replies-own : (y : Server) (p : Put) (e : ServerEnd) (new : Server) → HasEnd y p.circuit e → new ≡ with_message p.circuit e (finish_reply p) y → (d : ServerEnd) → HasEnd y p.circuit d → Stays y new p.circuit d (finish_reply p ∷ [])
replies-own y p e new has is d there =
    let same : d ≡ e = open-one d e (some_is (Open d) (Open e) (sym there ∙ has)) in
    subst (λ (z : Server). Stays y z p.circuit d (finish_reply p ∷ [])) (sym is) (subst (λ (k : ServerEnd). Stays y (with_message p.circuit k (finish_reply p) y) p.circuit d (finish_reply p ∷ [])) same (_, end-own y p.circuit d _ there, refl, refl))

pub leaves-all : (us : List Update) (e after : ServerEnd) → FoldsTo steps.Leaves e us after → (after.link.input.bytes ≡ e.link.input.bytes) × (after.link.output ≡ e.link.output ++ spelled (map (λ (u : Update). u.message) us))
leaves-all [] e after same = (ap (λ (x : ServerEnd). x.link.input.bytes) (sym same), ap (λ (x : ServerEnd). x.link.output) (sym same) ∙ sym (append-nil e.link.output))
leaves-all (u ∷ us) e after (mid, one, rest) =
    let r = leaves-all us mid after rest in
    let input : mid.link.input.bytes ≡ e.link.input.bytes = ap (λ (x : ServerEnd). x.link.input.bytes) one.leaves in
    let output : mid.link.output ≡ e.link.output ++ spelled (u.message ∷ []) = ap (λ (x : ServerEnd). x.link.output) one.leaves in (
      r.0 ∙ input,
      r.1
          ∙ ap (λ (l : List ℕ). l ++ spelled (map (λ (v : Update). v.message) us)) output
          ∙ append_assoc e.link.output (spelled (u.message ∷ [])) (spelled (map (λ (v : Update). v.message) us))
          ∙ ap (λ (l : List ℕ). e.link.output ++ l) (sym (spelled-more (u.message ∷ []) (map (λ (v : Update). v.message) us))),
    )
