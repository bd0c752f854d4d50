-- Each call of a server's core leaves its port and its rules, and at open ends what
-- it knows of the peer.
use Rattle.std.proofs.Common.{◌≡◌, ℕ, ◌++◌, inl, inr, Bool, true, false, cond, List, [], ◌∷◌, Some, refl, sym, ap, ◌∙◌, subst}
use Rattle.std.specs.List.{FoldsTo}
use Rattle.std.specs.Prelude.{Ok, is_some, take}
use Rattle.ca_arena.specs.declared.handle.Handle.{Handle}
use Rattle.ca_ids.specs.Table.{MayGive, Table, under, with_each}
use Rattle.ca_model.proofs.Tables.{all-freed-back, changed-back, freed-back, held-back}
use Rattle.ca_link.specs.Link.{with_rest, with_sent}
use Rattle.ca_records.specs.declared.puts.Put.{Put}
use Rattle.ca_records.specs.Puts.{WaitingPut}
use Rattle.ca_records.specs.Record.{RecordState}
use Rattle.ca_wire.specs.Fields.{Fields}
use Rattle.ca_wire.specs.Message.{spelled}
use Rattle.ca_model.specs.Due.{Action, Applies}
use Rattle.ca_model.specs.Due as action
use Rattle.ca_model.specs.Ends.{Why}
use Rattle.ca_model.specs.Ends as why
use Rattle.ca_model.specs.Server.{Ended, Open, Server, ServerCircuit, ServerEnd, new_end, with_post}
use Rattle.ca_model.specs.ServerCalls.{AddsRecord, Finishes, Posts, Removes, Replies, after_next, circuit_without, disconnects, end_without, lacking, with_finish}
use Rattle.ca_model.specs.ServerSteps.{Accepts, Cuts, Gives, HasEnd, Next, Pumps, Reaches, Records, Sends, Update, after_post, closed, ended, reached, with_end}
use Rattle.ca_model.specs.ServerSteps as steps
use Rattle.ca_model.specs.Speech.{Stored}
use Rattle.ca_model.specs.ServerEvents.{left_by, reported}
use Rattle.ca_model.specs.World.{ServerSetting, server_begun}
use Rattle.ca_laws_parts.proofs.ServerEnds.{open-one}
use Rattle.ca_laws_parts.proofs.ServerFits.{each-changed}
use Rattle.ca_laws_parts.proofs.ClientsKeep.{none-under}
use Rattle.ca_laws_parts.proofs.Cores.{records-stay}
use Rattle.ca_laws_runs.specs.KnewFaces.{Face, IsFaced, face_of}

-- of an end that was just accepted
abbrev pub blank : Face
blank = record { greeted = false; peer = record { user = []; host = [] }; settled = false }

open-ended : (e : ServerEnd) (w : Why) (left : List ℕ) → Open e ≡ Ended w left → ⊥
open-ended e w left is = cc

-- ---- a circuit after a call that goes over all of them

-- It was open before, and knows the same of its peer.
abbrev WasOpen : ServerCircuit → ServerEnd → Type 0
WasOpen u e = (d : ServerEnd) × (u ≡ Open d) × (face_of e ≡ face_of d)

open-or : (d e f : ServerEnd) (left : List ℕ) (b : Bool) → face_of f ≡ face_of d → Open e ≡ cond b (Ended why.OutOfMemory left) (Open f) → WasOpen (Open d) e
open-or d e f left true same is = absurd (open-ended e why.OutOfMemory left is)
open-or d e f left false same is = (d, refl, ap (λ (x : ServerEnd). face_of x) (open-one e f is) ∙ same)

reached-open : (name : List ℕ) (mask : ℕ) (v : Stored) (gone : Handle → Bool) (h : Handle) (u : ServerCircuit) (e : ServerEnd) → Open e ≡ reached name mask v gone h u → WasOpen u e
reached-open name mask v gone h (Ended w left) e is = absurd (open-ended e w left is)
reached-open name mask v gone h (Open d) e is = open-or d e (with_post name mask v d) d.link.output (gone h) refl is

lacking-open : (gone : Handle → Bool) (h : Handle) (u : ServerCircuit) (e : ServerEnd) → Open e ≡ lacking gone h u → WasOpen u e
lacking-open gone h (Ended w left) e is = absurd (open-ended e w left is)
lacking-open gone h (Open d) e is = open-or d e d d.link.output (gone h) refl is

without-open : (name : List ℕ) (gone : Handle → Bool) (left : Handle → ℕ) (h : Handle) (u : ServerCircuit) (e : ServerEnd) → Open e ≡ circuit_without name gone left h u → WasOpen u e
without-open name gone left h (Ended w l) e is = absurd (open-ended e w l is)
without-open name gone left h (Open d) e is = open-or d e (end_without name d) (d.link.output ++ spelled (take (left h) (disconnects name d))) (gone h) refl is

-- ---- updates, and what a message does to records

leaves-face : (us : List Update) (e after : ServerEnd) → FoldsTo steps.Leaves e us after → face_of after ≡ face_of e
leaves-face [] e after same = ap (λ (x : ServerEnd). face_of x) (sym same)
leaves-face (u ∷ us) e after (mid, one, rest) = leaves-face us mid after rest ∙ ap (λ (x : ServerEnd). face_of x) one.leaves

records-same : (y : Server) (h : Handle) (e : ServerEnd) (m : Fields) (did : Action) (new : Server) → Records y h e m did new → (new.port ≡ y.port) × (new.rules ≡ y.rules)
records-same y h e m (Applies name value false) new is = (ap (λ (x : Server). x.port) is, ap (λ (x : Server). x.rules) is)
records-same y h e m (Applies name value true) new is = (ap (λ (x : Server). x.port) is.2, ap (λ (x : Server). x.rules) is.2)
records-same y h e m (action.Waits name value) new is = (ap (λ (x : Server). x.port) is.2, ap (λ (x : Server). x.rules) is.2)
records-same y h e m (action.Clears sid) new is = (ap (λ (x : Server). x.port) is, ap (λ (x : Server). x.rules) is)
records-same y h e m action.Nothing new is = (ap (λ (x : Server). x.port) is, ap (λ (x : Server). x.rules) is)
records-same y h e m action.Greets new is = (ap (λ (x : Server). x.port) is, ap (λ (x : Server). x.rules) is)
records-same y h e m (action.Names p) new is = (ap (λ (x : Server). x.port) is, ap (λ (x : Server). x.rules) is)
records-same y h e m (action.Opens c) new is = (ap (λ (x : Server). x.port) is, ap (λ (x : Server). x.rules) is)
records-same y h e m (action.Adds s) new is = (ap (λ (x : Server). x.port) is, ap (λ (x : Server). x.rules) is)
records-same y h e m (action.Drops key) new is = (ap (λ (x : Server). x.port) is, ap (λ (x : Server). x.rules) is)
records-same y h e m (action.Switches on) new is = (ap (λ (x : Server). x.port) is, ap (λ (x : Server). x.rules) is)

-- ---- one end at a time

module _ (given : ServerSetting) where
  -- what holds of ends may be less
  pub faced-as : (Q R : Handle → Face → Type 0) (y : Server) → ((h : Handle) (f : Face) → Q h f → R h f) → IsFaced given Q y → IsFaced given R y
  faced-as Q R y gives f = record { port = f.port; rules = f.rules; ends = λ h e has. gives h (face_of e) (f.ends h e has) }

  -- one end has ended, and nothing of it is kept
  pub closed-faced : (Q : Handle → Face → Type 0) (h : Handle) (y : Server) → IsFaced given (λ (g : Handle) (f : Face). (g ≡ h → ⊥) → Q g f) y → IsFaced given Q (closed h y)
  closed-faced Q h y f = record { port = f.port; rules = f.rules; ends = λ g e has. (let b = freed-back y.circuits g h (Open e) has in f.ends g e b.1 b.0) }

  -- after a message this is so at its own end, and at the others what was so before
  pub next-faced : (Q R : Handle → Face → Type 0) (y : Server) (h : Handle) (e : ServerEnd) (n : Next y h e) → R h (face_of n.handles.acted) → ((g : Handle) (f : Face) → (g ≡ h → ⊥) → Q g f → R g f) → IsFaced given Q y → IsFaced given R n.after
  next-faced Q R y h e n own others f =
      let d : ServerEnd = record e { link = with_rest n.rest e.link } in
      let made = n.handles in
      let same = records-same y h d n.m n.action made.recorded made.records in
      let circuits : made.recorded.circuits ≡ y.circuits = records-stay y h d n.m n.action made.recorded made.records in
      record {
        port = ap (λ (x : Server). x.port) made.leaves ∙ same.0 ∙ f.port;
        rules = ap (λ (x : Server). x.rules) made.leaves ∙ same.1 ∙ f.rules;
        ends = λ g x has.
            elim (changed-back (λ (c : ServerCircuit). Open (record made.acted { link = with_sent n.replies made.acted.link })) made.recorded.circuits g h (Open x) (subst (λ (z : Server). HasEnd z g x) made.leaves has)) [
              | inl here ↦ subst (λ (v : Handle × Face). R v.0 v.1) (λ i. (sym here.0 i, ap (λ (z : ServerEnd). face_of z) (sym (open-one x (record made.acted { link = with_sent n.replies made.acted.link }) here.1.2)) i)) own
              | inr old ↦ others g (face_of x) old.0 (f.ends g x (subst (λ (t : Table ServerCircuit). under t g ≡ Some (Open x)) circuits old.1))
            ];
      }

module _ (given : ServerSetting) (Q : Handle → Face → Type 0) where
  abbrev F : Server → Type 0
  F y = IsFaced given Q y

  same-faced : (y new : Server) → new.port ≡ y.port → new.rules ≡ y.rules → new.circuits ≡ y.circuits → F y → F new
  same-faced y new port rules circuits f = record { port = port ∙ f.port; rules = rules ∙ f.rules; ends = λ h e has. f.ends h e (subst (λ (t : Table ServerCircuit). under t h ≡ Some (Open e)) circuits has) }

  with-end-faced : (h : Handle) (d : ServerEnd) (y : Server) → Q h (face_of d) → F y → F (with_end h d y)
  with-end-faced h d y own f = record {
    port = f.port;
    rules = f.rules;
    ends = λ g e has. elim (changed-back (λ (c : ServerCircuit). Open d) y.circuits g h (Open e) has) [
      | inl here ↦ subst (λ (v : Handle × Face). Q v.0 v.1) (λ i. (sym here.0 i, ap (λ (x : ServerEnd). face_of x) (sym (open-one e d here.1.2)) i)) own
      | inr old ↦ f.ends g e old.1
    ];
  }

  ended-faced : (h : Handle) (w : Why) (left : List ℕ) (y : Server) → F y → F (ended h w left y)
  ended-faced h w left y f = record {
    port = f.port;
    rules = f.rules;
    ends = λ g e has. elim (changed-back (λ (c : ServerCircuit). Ended w left) y.circuits g h (Open e) has) [
      | inl own ↦ absurd (open-ended e w left own.1.2)
      | inr old ↦ f.ends g e old.1
    ];
  }

  pub reported-faced : (y : Server) → F y → F (reported y)
  reported-faced y f = record { port = f.port; rules = f.rules; ends = λ g e has. f.ends g e (all-freed-back (λ (c : ServerCircuit). is_some (left_by (Some c))) y.circuits g (Open e) has).0 }

  each-faced : (of : Handle → ServerCircuit → ServerCircuit) (y new : Server) → new.port ≡ y.port → new.rules ≡ y.rules → new.circuits ≡ with_each of y.circuits → ((h : Handle) (u : ServerCircuit) (e : ServerEnd) → Open e ≡ of h u → WasOpen u e) → F y → F new
  each-faced of y new port rules circuits was f = record {
    port = port ∙ f.port;
    rules = rules ∙ f.rules;
    ends = λ h e has.
        let u = each-changed of y.circuits h (Open e) (subst (λ (t : Table ServerCircuit). under t h ≡ Some (Open e)) circuits has) in
        let d = was h u.0 e u.2 in
        subst (λ (x : Face). Q h x) (sym d.2) (f.ends h d.0 (u.1 ∙ ap (λ (x : ServerCircuit). Some x) d.1));
  }

  post-faced : (name : List ℕ) (mask : ℕ) (v : Stored) (gone : Handle → Bool) (y : Server) → F y → F (after_post name mask v gone y)
  post-faced name mask v gone y f = each-faced (reached name mask v gone) y (after_post name mask v gone y) refl refl refl (reached-open name mask v gone) f

  -- ---- calls

  pub begun-faced : (moment life : ℕ) → F (server_begun moment life given).core
  begun-faced moment life = record { port = refl; rules = refl; ends = λ h e has. absurd (none-under h (Open e) has) }

  pub accepts-faced : (y : Server) (h : Handle) (new : Server) → Accepts y (Ok h) new → (MayGive y.circuits h → Q h blank) → F y → F new
  accepts-faced y h new (may, is) first f = subst (λ (x : Server). F x) (sym is) (record {
    port = f.port;
    rules = f.rules;
    ends = λ g e has. elim (held-back y.circuits g h (Open (new_end y.moment)) (Open e) has) [
      | inl own ↦ subst (λ (v : Handle × Face). Q v.0 v.1) (λ i. (sym own.0 i, ap (λ (x : ServerEnd). face_of x) (sym (open-one e (new_end y.moment) own.1)) i)) (first may)
      | inr old ↦ f.ends g e old
    ];
  })

  pub gives-faced : (y new : Server) (h : Handle) (bytes : List ℕ) → Gives y h bytes (Ok tt) new → F y → F new
  gives-faced y new h bytes (e, has, is) f = subst (λ (x : Server). F x) (sym is) (with-end-faced h _ y (f.ends h e has) f)

  pub sends-faced : (y new : Server) (h : Handle) (n : ℕ) → Sends y h n new → F y → F new
  sends-faced y new h n (inl (e, has, few, is)) f = subst (λ (x : Server). F x) (sym is) (with-end-faced h _ y (f.ends h e has) f)
  sends-faced y new h n (inr (none, zero_it, is)) f = subst (λ (x : Server). F x) (sym is) f

  pub cuts-faced : (y : Server) (h : Handle) (new : Server) → Cuts y h new → F y → F new
  cuts-faced y h new (inl (e, has, is)) f = subst (λ (x : Server). F x) (sym is) (ended-faced h why.Cut e.link.output y f)
  cuts-faced y h new (inr (none, is)) f = subst (λ (x : Server). F x) (sym is) f

  pub posts-faced : (y : Server) (name : List ℕ) (v : Stored) (mask : ℕ) (gone : Handle → Bool) (new : Server) → Posts y name v mask gone (Ok tt) new → F y → F new
  posts-faced y name v mask gone new (fits, may, is) f = subst (λ (x : Server). F x) (sym is) (post-faced name mask v gone _ (same-faced y _ refl refl refl f))

  pub reaches-faced : (did : Action) (gone : Handle → Bool) (y new : Server) → Reaches did gone y new → F y → F new
  reaches-faced (Applies name value busies) gone y new (may, is) f = subst (λ (x : Server). F x) (sym is) (post-faced name steps.write_mask _ gone y f)
  reaches-faced (action.Waits name value) gone y new r f = subst (λ (x : Server). F x) (sym r.1) f
  reaches-faced (action.Clears sid) gone y new r f = subst (λ (x : Server). F x) (sym r.1) f
  reaches-faced action.Nothing gone y new r f = subst (λ (x : Server). F x) (sym r.1) f
  reaches-faced action.Greets gone y new r f = subst (λ (x : Server). F x) (sym r.1) f
  reaches-faced (action.Names p) gone y new r f = subst (λ (x : Server). F x) (sym r.1) f
  reaches-faced (action.Opens c) gone y new r f = subst (λ (x : Server). F x) (sym r.1) f
  reaches-faced (action.Adds s) gone y new r f = subst (λ (x : Server). F x) (sym r.1) f
  reaches-faced (action.Drops key) gone y new r f = subst (λ (x : Server). F x) (sym r.1) f
  reaches-faced (action.Switches on) gone y new r f = subst (λ (x : Server). F x) (sym r.1) f

  pub pumps-faced : (y : Server) (h : Handle) (us : List Update) (new : Server) → Pumps y h us new → F y → F new
  pumps-faced y h us new (inl (e, has, (after, folds, inl (rests, is)))) f =
      subst (λ (x : Server). F x) (sym is) (with-end-faced h after y (subst (λ (x : Face). Q h x) (sym (leaves-face us e after folds)) (f.ends h e has)) f)
  pumps-faced y h us new (inl (e, has, (after, folds, inr (more, is)))) f = subst (λ (x : Server). F x) (sym is) (ended-faced h why.OutOfMemory after.link.output y f)
  pumps-faced y h us new (inr (none, nothing, is)) f = subst (λ (x : Server). F x) (sym is) f

  next-write-faced : (name : List ℕ) (ws : List WaitingPut) (gone : Handle → Bool) (y : Server) → F y → F (after_next name ws gone y)
  next-write-faced name [] gone y f = each-faced (lacking gone) y (after_next name [] gone y) refl refl refl (lacking-open gone) f
  next-write-faced name (p ∷ ws) gone y f = post-faced name steps.write_mask _ gone _ (same-faced y _ refl refl refl f)

  replies-faced : (y : Server) (p : Put) (gone : Handle → Bool) (sent : List (Handle × Fields)) (new : Server) → Replies y p gone sent new → F y → F new
  replies-faced y p gone sent new (inl (e, awaited, are, is)) f = subst (λ (x : Server). F x) (sym is) (with-end-faced p.circuit _ y (f.ends p.circuit e awaited.0) f)
  replies-faced y p gone sent new (inr (none, are, is)) f = subst (λ (x : Server). F x) (sym is) f

  pub finishes-faced : (y : Server) (name : List ℕ) (sent : List (Handle × Fields)) (new : Server) → Finishes y name sent (Ok tt) new → F y → F new
  finishes-faced y name sent new (fin, mid, replies, is) f =
      subst (λ (x : Server). F x) (sym is)
      (next-write-faced name fin.r.waiting fin.gone mid (replies-faced (with_finish name fin.r y) fin.p fin.gone sent mid replies (same-faced y (with_finish name fin.r y) refl refl refl f)))

  pub removes-faced : (y : Server) (name : List ℕ) (gone : Handle → Bool) (left : Handle → ℕ) (new : Server) → Removes y name gone left (Ok tt) new → F y → F new
  removes-faced y name gone left new (some, may, is) f =
      each-faced (circuit_without name gone left) y new (ap (λ (x : Server). x.port) is) (ap (λ (x : Server). x.rules) is) (ap (λ (x : Server). x.circuits) is) (without-open name gone left) f

  pub adds-faced : (y : Server) (s : RecordState) (behind : ℕ) (new : Server) → AddsRecord y s behind (Ok tt) new → F y → F new
  adds-faced y s behind new (may, is) f = same-faced y new (ap (λ (x : Server). x.port) is) (ap (λ (x : Server). x.rules) is) (ap (λ (x : Server). x.circuits) is) f
