-- Bytes of earlier messages wait on a circuit, in front of the others: what is done to its server
-- is done as if they were not there.
use Rattle.std.proofs.Common.{◌≡◌, ℕ, ◌<◌, ◌≤◌, ◌+◌, ◌⊎◌, inl, inr, Bool, true, false, cond, List, [], ◌∷◌, ◌++◌, append_assoc, drop, take, length, length-append, Option, Some, None, refl, sym, ap, ◌∙◌, subst, arith}
use Rattle.std.specs.Prelude.{Result, Ok, Err, is_some, option_map}
use Rattle.std.specs.List.{FoldsTo}
use Rattle.std.proofs.lemmas.List.{append-nil}
use Rattle.ca_arena.specs.Arena.{Place}
use Rattle.ca_arena.specs.declared.handle.Handle.{Handle}
use Rattle.ca_ids.specs.Table.{Table, same_handle, under, with_changed, with_each, with_each_from}
use Rattle.ca_link.specs.Link.{LinkState, with_handed, with_rest, with_sent}
use Rattle.ca_records.specs.declared.puts.Put.{Put}
use Rattle.ca_records.specs.Puts.{WaitingPut, withdrawn}
use Rattle.ca_text.specs.declared.refusal.Refusal.{Refusal}
use Rattle.ca_text.specs.declared.refusal.Refusal.TheVariants as refusal
use Rattle.ca_text.specs.Limits.{output_limit}
use Rattle.ca_wire.specs.Fields.{Fields}
use Rattle.ca_wire.specs.Message.{spelled}
use Rattle.ca_model.specs.Due.{Action, Applies}
use Rattle.ca_model.specs.Due as action
use Rattle.ca_model.specs.Ends.{Why}
use Rattle.ca_model.specs.Ends as why
use Rattle.ca_model.specs.Server.{Ended, Open, OpenChannel, Server, ServerCircuit, ServerEnd, with_post}
use Rattle.ca_model.specs.ServerCalls.{Finish, Finishes, IsAwaited, Replies, after_next, finish_reply, lacking, with_finish}
use Rattle.ca_model.specs.ServerSteps.{Acts, Handles, HasEnd, Leaves, MayEnd, Pumps, Reaches, Records, Rests, Sends, StepsAt, Update, after_post, counted, ended, is_concerned, output_of, reached, stored_now, with_end, write_mask}
use Rattle.ca_model.specs.ServerSteps as did
use Rattle.ca_model.specs.Speech.{Stored}
use Rattle.ca_server_circuit.proofs.Cleared.{is-same, same-is}
use Rattle.ca_server_circuit.proofs.Tables.{changed-own}
use Rattle.ca_server_core.specs.Effects.{action_at}
use Rattle.ca_server_core.specs.Noting.{HandlesAndFinishes, Notes, Tries, wrote_busy}
use Rattle.ca_server_core.proofs.Each.{each-back, each-ext, each-fuse, each-one-more, under-each}
use Rattle.ca_server_core.proofs.Finished.{one-changes}
use Rattle.ca_answer.specs.Fronting.{fronted, fronted_at, fronting, with_front}
use Rattle.ca_answer.specs.Serving.{Leaving}
use Rattle.ca_answer.proofs.Ends.{acts-link, changed-twice, end-there, one-end, records-circuits}

abbrev Circuits : Type 0
Circuits = Table ServerCircuit

abbrev Change : Type 0
Change = Handle → ServerCircuit → ServerCircuit

-- ---- tables

-- all are changed after one of them was
each-changed : (f : Change) (t : Circuits) (k : Handle) (c d : ServerCircuit) → under t k ≡ Some c
    → with_each f (with_changed (λ (x : ServerCircuit). d) k t) ≡ with_changed (λ (x : ServerCircuit). f k d) k (with_each f t)
each-changed f t k c d there =
    ap (λ (u : Circuits). with_each f u) (one-changes only t k c d there own others)
    ∙ each-fuse only f t
    ∙ sym (each-one-more f (λ g x. f g (only g x)) t k c (f k d) there (ap (λ (x : ServerCircuit). f k x) own) (λ g x at other. ap (λ (y : ServerCircuit). f g y) (sym (others g x at other))))
  where
    only : Change
    only g x = cond (same_handle g k) d x

    own : only k c ≡ d
    own = ap (λ (b : Bool). cond b d c) (is-same k k refl)

    miss : (g : Handle) → (g ≡ k → ⊥) → (b : Bool) → same_handle g k ≡ b → same_handle g k ≡ false
    miss g other true hit = absurd (other (same-is g k hit))
    miss g other false no_it = no_it

    others : (g : Handle) (x : ServerCircuit) → under t g ≡ Some x → (g ≡ k → ⊥) → only g x ≡ x
    others g x at other = ap (λ (b : Bool). cond b d x) (miss g other (same_handle g k) refl)

-- two changes in either order
each-swap : (f g : Change) (t : Circuits) → ((k : Handle) (x : ServerCircuit) → f k (g k x) ≡ g k (f k x)) → with_each f (with_each g t) ≡ with_each g (with_each f t)
each-swap f g t same =
    each-fuse g f t ∙ each-ext (λ k x. f k (g k x)) (λ k x. g k (f k x)) t (λ k x at. same k x) ∙ sym (each-fuse f g t)

-- each stays as it was
each-nothing : (t : Circuits) → with_each (λ k x. x) t ≡ t
each-nothing t = go 0 t
  where
    same : (o : Option ServerCircuit) → option_map (λ (x : ServerCircuit). x) o ≡ o
    same None = refl
    same (Some x) = refl

    go : (n : ℕ) (t : Circuits) → with_each_from n (λ k x. x) t ≡ t
    go n [] = refl
    go n (p ∷ t) =
        ap (λ (o : Option ServerCircuit). let q : Place ServerCircuit = record { generation = p.generation; value = o } in q ∷ with_each_from (n + 1) (λ k x. x) t) (same p.value)
        ∙ ap (λ (u : Circuits). p ∷ u) (go (n + 1) t)

pub drop-front : (b o : List ℕ) → drop (length b) (b ++ o) ≡ o
drop-front [] o = refl
drop-front (x ∷ b) o = drop-front b o

pub take-front : (b o : List ℕ) → take (length b) (b ++ o) ≡ b
take-front [] o = refl
take-front (x ∷ b) o = ap (λ (l : List ℕ). x ∷ l) (take-front b o)

drop-all : (o : List ℕ) → drop (length o) o ≡ []
drop-all [] = refl
drop-all (x ∷ o) = drop-all o

none-there : (c : ServerCircuit) → (let n : Option ServerCircuit = None in n ≡ Some c) → ⊥
none-there c is = cc

open-is : (a b : ServerEnd) → (let x : ServerCircuit = Open a in x ≡ Open b) → a ≡ b
open-is a b same = cc

module _ (h : Handle) (b : List ℕ) where
  -- ---- what is there

  own : (c : ServerCircuit) → fronted_at h b h c ≡ fronted b c
  own c = ap (λ (s : Bool). cond s (fronted b c) c) (is-same h h refl)

  pub has-front : (y : Server) (e : ServerEnd) → HasEnd y h e → HasEnd (fronting h b y) h (with_front b e)
  has-front y e has = under-each (fronted_at h b) y.circuits h (Open e) has ∙ ap (λ (c : ServerCircuit). Some c) (own (Open e))

  pub ended-front : (y : Server) (left : List ℕ) → under y.circuits h ≡ Some (Ended why.OutOfMemory left) → under (fronting h b y).circuits h ≡ Some (Ended why.OutOfMemory (b ++ left))
  ended-front y left is = under-each (fronted_at h b) y.circuits h (Ended why.OutOfMemory left) is ∙ ap (λ (c : ServerCircuit). Some c) (own (Ended why.OutOfMemory left))

  -- the end under a handle
  abbrev end_at : Handle → ServerEnd → ServerEnd
  end_at k e = cond (same_handle k h) (with_front b e) e

  open-at : (k : Handle) (e : ServerEnd) → fronted_at h b k (Open e) ≡ Open (end_at k e)
  open-at k e = go (same_handle k h)
    where
      go : (s : Bool) → cond s (fronted b (Open e)) (Open e) ≡ Open (cond s (with_front b e) e)
      go true = refl
      go false = refl

  has-at : (y : Server) (k : Handle) (e : ServerEnd) → HasEnd y k e → HasEnd (fronting h b y) k (end_at k e)
  has-at y k e has = under-each (fronted_at h b) y.circuits k (Open e) has ∙ ap (λ (c : ServerCircuit). Some c) (open-at k e)

  back-at : (y : Server) (k : Handle) (a : ServerEnd) → HasEnd (fronting h b y) k a → (e : ServerEnd) × HasEnd y k e × (a ≡ end_at k e)
  back-at y k a has = (let c = each-back (fronted_at h b) y.circuits k (Open a) has in go c.0 c.1 c.2)
    where
      never : (s : Bool) (w : Why) (left : List ℕ) → Open a ≡ cond s (fronted b (Ended w left)) (Ended w left) → ⊥
      never true w left is = cc
      never false w left is = cc

      go : (c : ServerCircuit) → under y.circuits k ≡ Some c → Open a ≡ fronted_at h b k c → (e : ServerEnd) × HasEnd y k e × (a ≡ end_at k e)
      go (Open e) at is = (e, at, open-is a (end_at k e) (is ∙ open-at k e))
      go (Ended w left) at is = absurd (never (same_handle k h) w left is)

  concerned-front : (name : List ℕ) (mask : ℕ) (k : Handle) (c : ServerCircuit) → is_concerned name mask (fronted_at h b k c) ≡ is_concerned name mask c
  concerned-front name mask k (Open e) = go (same_handle k h)
    where
      go : (s : Bool) → is_concerned name mask (cond s (fronted b (Open e)) (Open e)) ≡ is_concerned name mask (Open e)
      go true = refl
      go false = refl
  concerned-front name mask k (Ended w left) = go (same_handle k h)
    where
      go : (s : Bool) → is_concerned name mask (cond s (fronted b (Ended w left)) (Ended w left)) ≡ is_concerned name mask (Ended w left)
      go true = refl
      go false = refl

  -- a circuit that a post concerns
  concerned-back : (y : Server) (name : List ℕ) (mask : ℕ) (k : Handle) (a : ServerCircuit) → under (fronting h b y).circuits k ≡ Some a → is_concerned name mask a ≡ true
      → (c : ServerCircuit) × (under y.circuits k ≡ Some c) × (is_concerned name mask c ≡ true)
  concerned-back y name mask k a there is =
      let c = each-back (fronted_at h b) y.circuits k a there in
      (c.0, c.1, sym (concerned-front name mask k c.0) ∙ sym (ap (λ (x : ServerCircuit). is_concerned name mask x) c.2) ∙ is)

  -- ---- one end is put in the place of another

  pub front-end : (y : Server) (k : Handle) (c : ServerCircuit) (e : ServerEnd) → under y.circuits k ≡ Some c → fronting h b (with_end k e y) ≡ with_end k (end_at k e) (fronting h b y)
  front-end y k c e there =
      ap (λ (t : Circuits). record y { circuits = t })
      (each-changed (fronted_at h b) y.circuits k c (Open e) there ∙ ap (λ (d : ServerCircuit). with_changed (λ (x : ServerCircuit). d) k (with_each (fronted_at h b) y.circuits)) (open-at k e))

  end-own : (e : ServerEnd) → end_at h e ≡ with_front b e
  end-own e = ap (λ (s : Bool). cond s (with_front b e) e) (is-same h h refl)

  pub front-own : (y : Server) (c : ServerCircuit) (e : ServerEnd) → under y.circuits h ≡ Some c → fronting h b (with_end h e y) ≡ with_end h (with_front b e) (fronting h b y)
  front-own y c e there = front-end y h c e there ∙ ap (λ (x : ServerEnd). with_end h x (fronting h b y)) (end-own e)

  -- messages go out on an end
  sent-front : (ms : List Fields) (e : ServerEnd) → (let a : ServerEnd = with_front b e in record a { link = with_sent ms a.link }) ≡ with_front b (record e { link = with_sent ms e.link })
  sent-front ms e = ap (λ (o : List ℕ). record e { link = record e.link { output = o } }) (append_assoc b e.link.output (spelled ms))

  sent-at : (k : Handle) (ms : List Fields) (e : ServerEnd) → (let a : ServerEnd = end_at k e in record a { link = with_sent ms a.link }) ≡ end_at k (record e { link = with_sent ms e.link })
  sent-at k ms e = go (same_handle k h)
    where
      go : (s : Bool) → (let a : ServerEnd = cond s (with_front b e) e in record a { link = with_sent ms a.link }) ≡ cond s (with_front b (record e { link = with_sent ms e.link })) (record e { link = with_sent ms e.link })
      go true = sent-front ms e
      go false = refl

  -- ---- a message

  front-handles : (y : Server) (c : ServerCircuit) (e : ServerEnd) (m : Fields) (replies : List Fields) (a : Action) (new : Server) → under y.circuits h ≡ Some c → Handles (fronting h b y) h (with_front b e) m replies a new
      → (x : Server) × Handles y h e m replies a x × (new ≡ fronting h b x)
  front-handles y c e m replies a new there handles = (
    with_end h last before,
    record { due = handles.due; acted = acted; acts = acts a handles.acted handles.acts; recorded = before; records = recorded a r handles.records; leaves = refl },
    handles.leaves
        ∙ ap (λ (l : LinkState). with_end h (record real { link = with_sent replies l }) r) (acts-link (fronting h b y) (with_front b e) a real handles.acts)
        ∙ ap (λ (z : ServerEnd). with_end h z r) (sent-front replies acted)
        ∙ ap (λ (t : Circuits). with_end h (with_front b last) (record r { circuits = t })) (records-circuits (fronting h b y) h (with_front b e) m a r handles.records)
        ∙ sym (front-own before c last there),
  )
    where
      real : ServerEnd
      real = handles.acted

      r : Server
      r = handles.recorded

      acted : ServerEnd
      acted = record real { link = e.link }

      before : Server
      before = record r { circuits = y.circuits }

      last : ServerEnd
      last = record acted { link = with_sent replies acted.link }

      relink : ServerEnd → ServerEnd
      relink x = record x { link = e.link }

      acts : (a : Action) (new : ServerEnd) → Acts (fronting h b y) (with_front b e) a new → Acts y e a (record new { link = e.link })
      acts action.Greets new is = ap relink is
      acts (action.Names p) new is = ap relink is
      acts (action.Opens k) new is = (is.0, is.1, is.2, ap relink is.3)
      acts (action.Clears sid) new is = ap relink is
      acts (action.Adds s) new is =
          (is.0, is.1, record { place = is.2.place; q = is.2.q; at = is.2.at; room = is.2.room; first = is.2.first; leaves = ap relink is.2.leaves })
      acts (action.Drops key) new is = ap relink is
      acts (action.Switches on) new is = ap relink is
      acts action.Nothing new is = ap relink is
      acts (Applies name value busies) new is = ap relink is
      acts (action.Waits name value) new is = ap relink is

      back : Server → Server
      back s = record s { circuits = y.circuits }

      recorded : (a : Action) (r : Server) → Records (fronting h b y) h (with_front b e) m a r → Records y h e m a (record r { circuits = y.circuits })
      recorded (Applies name value false) r is = ap back is
      recorded (Applies name value true) r is = (is.0, is.1, ap back is.2)
      recorded (action.Waits name value) r is = (is.0, is.1, ap back is.2)
      recorded (action.Clears sid) r is = ap back is
      recorded action.Nothing r is = ap back is
      recorded action.Greets r is = ap back is
      recorded (action.Names p) r is = ap back is
      recorded (action.Opens k) r is = ap back is
      recorded (action.Adds s) r is = ap back is
      recorded (action.Drops key) r is = ap back is
      recorded (action.Switches on) r is = ap back is

  -- ---- its write

  reached-front : (name : List ℕ) (mask : ℕ) (v : Stored) (gone : Handle → Bool) (k : Handle) (c : ServerCircuit)
      → reached name mask v gone k (fronted_at h b k c) ≡ fronted_at h b k (reached name mask v gone k c)
  reached-front name mask v gone k (Open e) = go (same_handle k h)
    where
      inner : (d : Bool) → cond d (Ended why.OutOfMemory (b ++ e.link.output)) (Open (with_post name mask v (with_front b e))) ≡ fronted b (cond d (Ended why.OutOfMemory e.link.output) (Open (with_post name mask v e)))
      inner true = refl
      inner false = refl

      go : (s : Bool) → reached name mask v gone k (cond s (fronted b (Open e)) (Open e)) ≡ cond s (fronted b (reached name mask v gone k (Open e))) (reached name mask v gone k (Open e))
      go true = inner (gone k)
      go false = refl
  reached-front name mask v gone k (Ended w left) = go (same_handle k h)
    where
      go : (s : Bool) → reached name mask v gone k (cond s (fronted b (Ended w left)) (Ended w left)) ≡ cond s (fronted b (reached name mask v gone k (Ended w left))) (reached name mask v gone k (Ended w left))
      go true = refl
      go false = refl

  lacking-front : (gone : Handle → Bool) (k : Handle) (c : ServerCircuit) → lacking gone k (fronted_at h b k c) ≡ fronted_at h b k (lacking gone k c)
  lacking-front gone k (Open e) = go (same_handle k h)
    where
      inner : (d : Bool) → cond d (Ended why.OutOfMemory (b ++ e.link.output)) (Open (with_front b e)) ≡ fronted b (cond d (Ended why.OutOfMemory e.link.output) (Open e))
      inner true = refl
      inner false = refl

      go : (s : Bool) → lacking gone k (cond s (fronted b (Open e)) (Open e)) ≡ cond s (fronted b (lacking gone k (Open e))) (lacking gone k (Open e))
      go true = inner (gone k)
      go false = refl
  lacking-front gone k (Ended w left) = go (same_handle k h)
    where
      go : (s : Bool) → lacking gone k (cond s (fronted b (Ended w left)) (Ended w left)) ≡ cond s (fronted b (lacking gone k (Ended w left))) (lacking gone k (Ended w left))
      go true = refl
      go false = refl

  post-front : (name : List ℕ) (mask : ℕ) (v : Stored) (gone : Handle → Bool) (y : Server) → after_post name mask v gone (fronting h b y) ≡ fronting h b (after_post name mask v gone y)
  post-front name mask v gone y =
      ap (λ (t : Circuits). record y { circuits = t; records = withdrawn (λ (p : Put). gone p.circuit) y.records })
      (each-swap (reached name mask v gone) (fronted_at h b) y.circuits (reached-front name mask v gone))

  front-reaches : (did : Action) (gone : Handle → Bool) (y new : Server) → Reaches did gone (fronting h b y) new → (x : Server) × Reaches did gone y x × (new ≡ fronting h b x)
  front-reaches (Applies name value busies) gone y new is = (
    after_post name write_mask (stored_now y value) gone y,
    ((λ k ends. (let r = is.0 k ends in concerned-back y name write_mask k r.0 r.1 r.2)), refl),
    is.1 ∙ post-front name write_mask (stored_now y value) gone y,
  )
  front-reaches (action.Waits name value) gone y new is = (y, (is.0, refl), is.1)
  front-reaches (action.Clears sid) gone y new is = (y, (is.0, refl), is.1)
  front-reaches action.Nothing gone y new is = (y, (is.0, refl), is.1)
  front-reaches action.Greets gone y new is = (y, (is.0, refl), is.1)
  front-reaches (action.Names p) gone y new is = (y, (is.0, refl), is.1)
  front-reaches (action.Opens c) gone y new is = (y, (is.0, refl), is.1)
  front-reaches (action.Adds s) gone y new is = (y, (is.0, refl), is.1)
  front-reaches (action.Drops k) gone y new is = (y, (is.0, refl), is.1)
  front-reaches (action.Switches on) gone y new is = (y, (is.0, refl), is.1)

  -- ---- a finish

  channels-at : (k : Handle) (e : ServerEnd) → (end_at k e).channels ≡ e.channels
  channels-at k e = go (same_handle k h)
    where
      go : (s : Bool) → (cond s (with_front b e) e).channels ≡ e.channels
      go true = refl
      go false = refl

  awaited-back : (y : Server) (p : Put) (a : ServerEnd) → IsAwaited (fronting h b y) p a → (e : ServerEnd) × IsAwaited y p e × (a ≡ end_at p.circuit e)
  awaited-back y p a awaited =
      let e = back-at y p.circuit a awaited.0 in
      let same : a.channels ≡ e.0.channels = ap (λ (x : ServerEnd). x.channels) e.2 ∙ channels-at p.circuit e.0 in
      (e.0, (e.1, sym (ap (λ (t : Table OpenChannel). is_some (under t p.channel)) same) ∙ awaited.1), e.2)

  awaited-front : (y : Server) (p : Put) (e : ServerEnd) → IsAwaited y p e → IsAwaited (fronting h b y) p (end_at p.circuit e)
  awaited-front y p e awaited =
      (has-at y p.circuit e awaited.0, ap (λ (t : Table OpenChannel). is_some (under t p.channel)) (channels-at p.circuit e) ∙ awaited.1)

  front-replies : (y : Server) (p : Put) (gone : Handle → Bool) (sent : List (Handle × Fields)) (new : Server) → Replies (fronting h b y) p gone sent new → (x : Server) × Replies y p gone sent x × (new ≡ fronting h b x)
  front-replies y p gone sent new (inl (a, awaited, said, is)) =
      let e = awaited-back y p a awaited in
      let k : Handle = p.circuit in
      let ms : List Fields = finish_reply p ∷ [] in
      let after : ServerEnd = record e.0 { link = with_sent ms e.0.link } in (
        with_end k after y,
        inl (e.0, e.1, said, refl),
        is
            ∙ ap (λ (z : ServerEnd). with_end k (record z { link = with_sent ms z.link }) (fronting h b y)) e.2
            ∙ ap (λ (z : ServerEnd). with_end k z (fronting h b y)) (sent-at k ms e.0)
            ∙ sym (front-end y k (Open e.0) after e.1.0),
      )
  front-replies y p gone sent new (inr (none, said, is)) = (y, inr (unsaid none, said, refl), is)
    where
      unsaid : ((e : ServerEnd) → IsAwaited (fronting h b y) p e → ⊥) ⊎ (gone p.circuit ≡ true) → ((e : ServerEnd) → IsAwaited y p e → ⊥) ⊎ (gone p.circuit ≡ true)
      unsaid (inl never) = inl (λ e awaited. never (end_at p.circuit e) (awaited-front y p e awaited))
      unsaid (inr lacks) = inr lacks

  front-next : (name : List ℕ) (ps : List WaitingPut) (gone : Handle → Bool) (y : Server) → after_next name ps gone (fronting h b y) ≡ fronting h b (after_next name ps gone y)
  front-next name [] gone y =
      ap (λ (t : Circuits). record y { circuits = t; records = withdrawn (λ (p : Put). gone p.circuit) y.records })
      (each-swap (lacking gone) (fronted_at h b) y.circuits (lacking-front gone))
  front-next name (p ∷ ps) gone y = post-front name write_mask (stored_now y p.value) gone (counted y)

  front-finishes : (y : Server) (name : List ℕ) (sent : List (Handle × Fields)) (r : Result (Unit {0}) Refusal) (new : Server) → Finishes (fronting h b y) name sent r new
      → (x : Server) × Finishes y name sent r x × (new ≡ fronting h b x)
  front-finishes y name sent (Ok u) new (f, mid, replies, is) =
      let back : Finish y name sent = record {
        r = f.r;
        named = f.named;
        p = f.p;
        busy = f.busy;
        gone = f.gone;
        may = λ k ends. elim (f.may k ends) [
          | inl mine ↦ inl (mine.0, (let e = awaited-back y f.p mine.1.0 mine.1.1 in (e.0, e.1)), mine.2)
          | inr other ↦ (let c = concerned-back y name write_mask k other.0 other.1 other.3 in inr (c.0, c.1, other.2, c.2))
        ];
      } in
      let m = front-replies (with_finish name f.r y) f.p f.gone sent mid replies in (
        after_next name f.r.waiting f.gone m.0,
        (back, m.0, m.1, refl),
        is ∙ ap (λ (z : Server). after_next name f.r.waiting f.gone z) m.2 ∙ front-next name f.r.waiting f.gone m.0,
      )
  front-finishes y name sent (Err refusal.UnknownRecord) new f = (y, (f.0, f.1, refl), f.2)
  front-finishes y name sent (Err refusal.NotBusy) new f = (y, (f.0, f.1, refl), f.2)
  front-finishes y name sent (Err _) new f = absurd f

  front-tries : (put : Option (List ℕ)) (y new : Server) → Tries (fronting h b y) put new → (x : Server) × Tries y put x × (new ≡ fronting h b x)
  front-tries None y new is = (y, refl, is)
  front-tries (Some name) y new is = (let f = front-finishes y name is.0 is.1 new is.2 in (f.0, (is.0, is.1, f.1), f.2))

  -- ---- a message, and its finish

  front-step : (y : Server) (e : ServerEnd) (mid : Server) → HasEnd y h e → (step : StepsAt (fronting h b y) h (Some (Open (with_front b e))) did.Handled mid)
      → (x : Server) × (mine : StepsAt y h (Some (Open e)) did.Handled x) × (step.0.action ≡ mine.0.action) × (mid ≡ fronting h b x)
  front-step y e mid has step =
      let next = step.0 in
      let e' : ServerEnd = record e { link = with_rest next.rest e.link } in
      let handled = front-handles y (Open e) e' next.m next.replies next.action next.after has next.handles in
      let reaches : Reaches next.action step.1 (fronting h b handled.0) mid = subst (λ (z : Server). Reaches next.action step.1 z mid) handled.2 step.3 in
      let reached = front-reaches next.action step.1 handled.0 mid reaches in
      let room : length e.link.output < output_limit = (let full = next.room in let long = length-append b e.link.output in omega (arith, full, long)) in
      let mine : did.Next y h e = record { room = room; m = next.m; rest = next.rest; takes = next.takes; replies = next.replies; action = next.action; after = handled.0; handles = handled.1 } in
      (reached.0, (mine, step.1, step.2, reached.1), refl, reached.2)

  -- what it wrote to at once is noted, by what is under the handle
  abbrev Owns : (y mid : Server) → Option (List ℕ) → Option ServerCircuit → Type 0
  Owns y mid put o = (d : StepsAt y h o did.Handled mid) × (put ≡ wrote_busy (action_at y h mid o d) mid.records)

  pub front-one : (y : Server) (e : ServerEnd) (new : Server) → HasEnd y h e → HandlesAndFinishes (fronting h b y) h new → (x : Server) × HandlesAndFinishes y h x × (new ≡ fronting h b x)
  front-one y e new has d =
      let owns : Owns (fronting h b y) d.stepped d.put (Some (Open (with_front b e))) = subst (Owns (fronting h b y) d.stepped d.put) (has-front y e has) (d.steps, d.own) in
      let one = front-step y e d.stepped has owns.0 in
      let own : d.put ≡ wrote_busy one.1.0.action one.0.records =
      owns.1 ∙ ap (λ (a : Action). wrote_busy a d.stepped.records) one.2 ∙ ap (λ (z : Server). wrote_busy one.1.0.action z.records) one.3 in
      let mine : Owns y one.0 d.put (under y.circuits h) = subst (Owns y one.0 d.put) (sym has) (one.1, own) in
      let tried = front-tries d.put one.0 new (subst (λ (z : Server). Tries z d.put new) one.3 d.tries) in (
        tried.0,
        record {
          put = d.put;
          stepped = one.0;
          steps = mine.0;
          own = mine.1;
          notes = subst (λ (z : Server). Notes y.records z.records d.put) one.3 d.notes;
          tries = tried.1;
        },
        tried.2,
      )

  -- ---- updates

  leaves-back : (e : ServerEnd) (u : Update) (new : ServerEnd) → Leaves (with_front b e) u new → (x : ServerEnd) × Leaves e u x × (new ≡ with_front b x)
  leaves-back e u new l =
      let room : length e.link.output < output_limit = (let full = l.room in let long = length-append b e.link.output in omega (arith, full, long)) in
      let linked : new.link ≡ (with_front b (record new { link = with_sent (u.message ∷ []) e.link })).link = ap (λ (z : ServerEnd). z.link) l.leaves ∙ ap (λ (o : List ℕ). record e.link { output = o }) (append_assoc b e.link.output (spelled (u.message ∷ []))) in (
        record new { link = with_sent (u.message ∷ []) e.link },
        record { room = room; q = l.q; at = l.at; first = l.first; stands = l.stands; taken_is = l.taken_is; shows = l.shows; leaves = ap (λ (z : ServerEnd). record z { link = with_sent (u.message ∷ []) e.link }) l.leaves },
        ap (λ (k : LinkState). record new { link = k }) linked,
      )

  leaves-front : (e : ServerEnd) (u : Update) (new : ServerEnd) → length (b ++ e.link.output) < output_limit → Leaves e u new → (x : ServerEnd) × Leaves (with_front b e) u x
  leaves-front e u new room l =
      let a : ServerEnd = with_front b e in (
        record new { link = with_sent (u.message ∷ []) a.link },
        record { room = room; q = l.q; at = l.at; first = l.first; stands = l.stands; taken_is = l.taken_is; shows = l.shows; leaves = ap (λ (z : ServerEnd). record z { link = with_sent (u.message ∷ []) a.link }) l.leaves },
      )

  folds-back : (us : List Update) (e after : ServerEnd) → FoldsTo Leaves (with_front b e) us after → (x : ServerEnd) × FoldsTo Leaves e us x × (after ≡ with_front b x)
  folds-back [] e after f = (e, refl, sym f)
  folds-back (u ∷ us) e after f =
      let one = leaves-back e u f.0 f.1 in
      let rest = folds-back us one.0 after (subst (λ (z : ServerEnd). FoldsTo Leaves z us after) one.2 f.2) in
      (rest.0, (one.0, one.1, rest.1), rest.2)

  rests-back : (e : ServerEnd) → length (b ++ e.link.output) < output_limit → Rests (with_front b e) → Rests e
  rests-back e room rests = λ u new l. (let x = leaves-front e u new room l in rests u x.0 x.1)

  rests-front : (e : ServerEnd) → Rests e → Rests (with_front b e)
  rests-front e rests = λ u new l. (let x = leaves-back e u new l in rests u x.0 x.1)

  ended-own : (y : Server) (c : ServerCircuit) (left : List ℕ) → under y.circuits h ≡ Some c → fronting h b (ended h why.OutOfMemory left y) ≡ ended h why.OutOfMemory (b ++ left) (fronting h b y)
  ended-own y c left there =
      ap (λ (t : Circuits). record y { circuits = t; records = withdrawn (λ (p : Put). same_handle p.circuit h) y.records })
      (
      each-changed (fronted_at h b) y.circuits h c (Ended why.OutOfMemory left) there
      ∙ ap (λ (d : ServerCircuit). with_changed (λ (x : ServerCircuit). d) h (with_each (fronted_at h b) y.circuits)) (own (Ended why.OutOfMemory left))
      )

  -- what updates leave on an open end
  updated : (y : Server) (us : List Update) (a last : ServerEnd) → HasEnd (fronting h b y) h a → FoldsTo Leaves a us last → (e : ServerEnd) × HasEnd y h e × ((x : ServerEnd) × FoldsTo Leaves e us x × (last ≡ with_front b x))
  updated y us a last there folds =
      let back = back-at y h a there in
      (back.0, back.1, folds-back us back.0 last (subst (λ (z : ServerEnd). FoldsTo Leaves z us last) (back.2 ∙ end-own back.0) folds))

  -- and what waits there then
  out-of : (y new : Server) (a e : ServerEnd) → HasEnd (fronting h b y) h a → new ≡ with_end h (with_front b e) (fronting h b y) → output_of (under new.circuits h) ≡ b ++ e.link.output
  out-of y new a e there is =
      ap (λ (z : Server). output_of (under z.circuits h)) is ∙ ap output_of (end-there (fronting h b y) h (Open a) (with_front b e) there)

  -- a pump after which so little waits that it did not stop for that
  pub front-pumps : (y : Server) (us : List Update) (new : Server) → Pumps (fronting h b y) h us new → length (output_of (under new.circuits h)) < output_limit → (x : Server) × Pumps y h us x × (new ≡ fronting h b x)
  front-pumps y us new (inr none) few = (y, inr ((λ e has. none.0 (with_front b e) (has-front y e has)), none.1, refl), none.2)
  front-pumps y us new (inl (a, there, (last, folds, inl rests))) few =
      let f = updated y us a last there folds in
      let x : ServerEnd = f.2.0 in
      let is : new ≡ with_end h (with_front b x) (fronting h b y) = rests.1 ∙ ap (λ (z : ServerEnd). with_end h z (fronting h b y)) f.2.2 in
      let room : length (b ++ x.link.output) < output_limit = subst (λ (o : List ℕ). length o < output_limit) (out-of y new a x there is) few in (
        with_end h x y,
        inl (f.0, f.1, (x, f.2.1, inl (rests-back x room (subst (λ (z : ServerEnd). Rests z) f.2.2 rests.0), refl))),
        is ∙ sym (front-own y (Open f.0) x f.1),
      )
  front-pumps y us new (inl (a, there, (last, folds, inr lacks))) few =
      let f = updated y us a last there folds in
      let x : ServerEnd = f.2.0 in (
        ended h why.OutOfMemory x.link.output y,
        inl (f.0, f.1, (x, f.2.1, inr ((λ rests. lacks.0 (subst (λ (z : ServerEnd). Rests z) (sym f.2.2) (rests-front x rests))), refl))),
        lacks.1 ∙ ap (λ (z : ServerEnd). ended h why.OutOfMemory z.link.output (fronting h b y)) f.2.2 ∙ sym (ended-own y (Open f.0) x.link.output f.1),
      )

  -- nothing waits on a circuit whose end is not open
  silent : (y : Server) → ((e : ServerEnd) → HasEnd y h e → ⊥) → output_of (under y.circuits h) ≡ []
  silent y never = go (under y.circuits h) refl
    where
      go : (o : Option ServerCircuit) → under y.circuits h ≡ o → output_of o ≡ []
      go (Some (Open e)) at = absurd (never e at)
      go (Some (Ended w left)) at = refl
      go None at = refl

  -- a pump after which so much waits that it may have stopped for that
  pub front-leaving : (y : Server) (us : List Update) (new : Server) → Pumps (fronting h b y) h us new → output_limit ≤ length (output_of (under new.circuits h)) → (x : Server) × Leaving y h us x × (new ≡ fronting h b x)
  front-leaving y us new (inr none) full =
      let out : length (output_of (under new.circuits h)) ≡ 0 = ap (λ (z : Server). length (output_of (under z.circuits h))) none.2 ∙ ap (λ (o : List ℕ). length o) (silent (fronting h b y) none.0) in
      absurd (omega (arith, out, full))
  front-leaving y us new (inl (a, there, (last, folds, inl rests))) full =
      let f = updated y us a last there folds in
      let x : ServerEnd = f.2.0 in
      let is : new ≡ with_end h (with_front b x) (fronting h b y) = rests.1 ∙ ap (λ (z : ServerEnd). with_end h z (fronting h b y)) f.2.2 in
      (with_end h x y, (f.0, f.1, (x, f.2.1, refl)), is ∙ sym (front-own y (Open f.0) x f.1))
  front-leaving y us new (inl (a, there, (last, folds, inr lacks))) full =
      let left : List ℕ = last.link.output in
      let gone : under (ended h why.OutOfMemory left (fronting h b y)).circuits h ≡ Some (Ended why.OutOfMemory left) = changed-own (λ (x : ServerCircuit). Ended why.OutOfMemory left) (fronting h b y).circuits h (Open a) there in
      let out : length (output_of (under new.circuits h)) ≡ 0 = ap (λ (z : Server). length (output_of (under z.circuits h))) lacks.1 ∙ ap (λ (o : Option ServerCircuit). length (output_of o)) gone in
      absurd (omega (arith, out, full))

  -- ---- what waits

  pub front-out : (y : Server)
      → (output_of (under (fronting h b y).circuits h) ≡ b ++ output_of (under y.circuits h)) ⊎ ((output_of (under (fronting h b y).circuits h) ≡ []) × (output_of (under y.circuits h) ≡ []))
  front-out y = go (under y.circuits h) refl
    where
      missing : (o : Option ServerCircuit) → under (fronting h b y).circuits h ≡ o → under y.circuits h ≡ None → output_of o ≡ []
      missing None at none = refl
      missing (Some d) at none = (let c = each-back (fronted_at h b) y.circuits h d at in absurd (none-there c.0 (sym none ∙ c.1)))

      go : (o : Option ServerCircuit) → under y.circuits h ≡ o
          → (output_of (under (fronting h b y).circuits h) ≡ b ++ output_of o) ⊎ ((output_of (under (fronting h b y).circuits h) ≡ []) × (output_of o ≡ []))
      go (Some (Open e)) at = inl (ap output_of (has-front y e at))
      go (Some (Ended w left)) at =
          inr (ap output_of (under-each (fronted_at h b) y.circuits h (Ended w left) at ∙ ap (λ (c : ServerCircuit). Some c) (own (Ended w left))), refl)
      go None at = inr (missing (under (fronting h b y).circuits h) refl at, refl)

  apart : (k : Handle) (x : ServerCircuit) → (k ≡ h → ⊥) → fronted_at h b k x ≡ x
  apart k x other = ap (λ (s : Bool). cond s (fronted b x) x) (miss (same_handle k h) refl)
    where
      miss : (s : Bool) → same_handle k h ≡ s → same_handle k h ≡ false
      miss true hit = absurd (other (same-is k h hit))
      miss false no_it = no_it

  -- they are handed over
  pub front-sent : (y : Server) (e : ServerEnd) (new : Server) → HasEnd y h e → Sends (fronting h b y) h (length b) new → new ≡ y
  front-sent y e new has (inl (a, there, le, is)) =
      let same : a ≡ with_front b e = one-end (fronting h b y) h a (with_front b e) there (has-front y e has) in
      is
      ∙ ap (λ (z : ServerEnd). with_end h (record z { link = with_handed (length b) z.link }) (fronting h b y)) same
      ∙ ap (λ (o : List ℕ). with_end h (record e { link = record e.link { output = o } }) (fronting h b y)) (drop-front b e.link.output)
      ∙ ap (λ (t : Circuits). record y { circuits = t }) (each-one-more (fronted_at h b) (λ k x. x) y.circuits h (Open e) (Open e) has refl (λ k x at other. apart k x other) ∙ each-nothing y.circuits)
  front-sent y e new has (inr none) = absurd (none.0 (with_front b e) (has-front y e has))

-- nothing is in front
pub front-nothing : (h : Handle) (y : Server) → fronting h [] y ≡ y
front-nothing h y =
    ap (λ (t : Circuits). record y { circuits = t }) (each-ext (fronted_at h []) (λ k x. x) y.circuits (λ k x at. plain k x) ∙ each-nothing y.circuits)
  where
    plain : (k : Handle) (x : ServerCircuit) → fronted_at h [] k x ≡ x
    plain k (Open e) = go (same_handle k h)
      where
        go : (s : Bool) → cond s (fronted [] (Open e)) (Open e) ≡ Open e
        go true = refl
        go false = refl
    plain k (Ended w left) = go (same_handle k h)
      where
        go : (s : Bool) → cond s (fronted [] (Ended w left)) (Ended w left) ≡ Ended w left
        go true = refl
        go false = refl

-- all that waits is in front of what would wait without it
pub front-more : (h : Handle) (b : List ℕ) (y : Server) (e : ServerEnd) → HasEnd y h e
    → fronting h b y ≡ fronting h (b ++ e.link.output) (with_end h (record e { link = with_handed (length e.link.output) e.link }) y)
front-more h b y e has =
    ap (λ (t : Circuits). record y { circuits = t })
    (sym (
    each-changed (fronted_at h (b ++ o)) y.circuits h (Open e) (Open after) has
    ∙ each-one-more (fronted_at h (b ++ o)) (fronted_at h b) y.circuits h (Open e) (fronted_at h (b ++ o) h (Open after)) has same (λ k x at other. apart h (b ++ o) k x other ∙ sym (apart h b k x other))
    ))
  where
    o : List ℕ
    o = e.link.output

    after : ServerEnd
    after = record e { link = with_handed (length e.link.output) e.link }

    whole : (b ++ o) ++ drop (length o) o ≡ b ++ o
    whole = ap (λ (l : List ℕ). (b ++ o) ++ l) (drop-all o) ∙ append-nil (b ++ o)

    same : fronted_at h b h (Open e) ≡ fronted_at h (b ++ o) h (Open after)
    same = own h b (Open e) ∙ sym (own h (b ++ o) (Open after) ∙ ap (λ (l : List ℕ). Open (record e { link = record e.link { output = l } })) whole)

-- ---- a pump that was stopped goes on

folds-on : (us vs : List Update) (a e c : ServerEnd) → FoldsTo Leaves a us e → FoldsTo Leaves e vs c → FoldsTo Leaves a (us ++ vs) c
folds-on [] vs a e c f g = subst (λ (z : ServerEnd). FoldsTo Leaves z vs c) (sym f) g
folds-on (u ∷ us) vs a e c f g = (f.0, f.1, folds-on us vs f.0 e c f.2 g)

pub pumps-on : (y : Server) (h : Handle) (us vs : List Update) (mid new : Server) → Leaving y h us mid → Pumps mid h vs new → Pumps y h (us ++ vs) new
pumps-on y h us vs mid new (e, has, (after, folds, is)) pumps = go (subst (λ (z : Server). Pumps z h vs new) is pumps)
  where
    there : HasEnd (with_end h after y) h after
    there = end-there y h (Open e) after has

    all : (a last : ServerEnd) → HasEnd (with_end h after y) h a → FoldsTo Leaves a vs last → FoldsTo Leaves e (us ++ vs) last
    all a last at more =
        folds-on us vs e after last folds (subst (λ (z : ServerEnd). FoldsTo Leaves z vs last) (one-end (with_end h after y) h a after at there) more)

    go : Pumps (with_end h after y) h vs new → Pumps y h (us ++ vs) new
    go (inl (a, at, (last, more, inl rests))) =
        inl (e, has, (last, all a last at more, inl (rests.0, rests.1 ∙ ap (λ (t : Circuits). record y { circuits = t }) (changed-twice y.circuits h (Open e) (Open after) (Open last) has))))
    go (inl (a, at, (last, more, inr lacks))) =
        inl (
          e,
          has,
          (
            last,
            all a last at more,
            inr (
              lacks.0,
              lacks.1 ∙ ap (λ (t : Circuits). record y { circuits = t; records = withdrawn (λ (p : Put). same_handle p.circuit h) y.records }) (changed-twice y.circuits h (Open e) (Open after) (Ended why.OutOfMemory last.link.output) has),
            ),
          ),
        )
    go (inr none) = absurd (none.0 after there)
