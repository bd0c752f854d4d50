-- Which records are busy as a message is handled and the record that it made busy is finished.
use Rattle.std.proofs.Common.{◌≡◌, ℕ, zero, suc, inl, inr, Bool, true, false, cond, not, List, [], ◌∷◌, filter, map, Option, Some, None, refl, sym, ap, ◌∙◌, subst}
use Rattle.std.specs.Prelude.{Result, Ok, Err, is_some, option_map}
use Rattle.std.specs.List.{FoldsTo}
use Rattle.std.specs.Str.{bytes_eq}
use Rattle.std.proofs.lemmas.Slice.Eq.{bytes_eq-Decides}
use Rattle.ca_arena.specs.declared.handle.Handle.{Handle}
use Rattle.ca_records.specs.declared.puts.Put.{Put}
use Rattle.ca_records.specs.declared.puts.Stamp.{Stamp}
use Rattle.ca_records.specs.Puts.{Record, WaitingPut, finished, record_named, with_record, with_value, without_puts, withdrawn, written_meta}
use Rattle.ca_text.specs.declared.refusal.Refusal.{Refusal}
use Rattle.ca_text.specs.declared.refusal.Refusal.TheVariants as refusal
use Rattle.ca_text.specs.Place.{At}
use Rattle.ca_text.proofs.Places.{At-mapped, some_is}
use Rattle.ca_wire.specs.Fields.{Fields}
use Rattle.ca_model.specs.Answer.{FinishesOne}
use Rattle.ca_model.specs.Due.{Action, Applies, Knows, Serves}
use Rattle.ca_model.specs.Due as action
use Rattle.ca_model.specs.Server.{Server, ServerEnd}
use Rattle.ca_model.specs.ServerCalls.{Finishes, Replies, after_next, with_finish}
use Rattle.ca_model.specs.ServerSteps.{Pumps, Reaches, Records, Update, known_record, knows}
use Rattle.ca_model.specs.Speech.{In}
use Rattle.ca_server_circuit.proofs.Tables.{find-at, none-some}
use Rattle.ca_server_core.specs.Noting.{Notes, Tries}
use Rattle.ca_answer.specs.Serving.{AreFree}
use Rattle.ca_answer.proofs.Doing.{Busies}

-- The record of this name alone is busy, and no put waits.
abbrev pub AreFreeBut : Option (List ℕ) → List Record → Type 0
AreFreeBut None rs = AreFree rs
AreFreeBut (Some name) rs =
    (r : Record) → In rs r → (r.waiting ≡ []) × (r.state.name ≡ name → is_some r.busy ≡ true) × ((r.state.name ≡ name → ⊥) → r.busy ≡ None)

-- the record that an action makes busy
abbrev pub busied : Action → Option (List ℕ)
busied (Applies name value true) = Some name
busied a = None

both-bools : (b : Bool) → b ≡ true → b ≡ false → ⊥
both-bools b t f = cc

-- each of the changed records is one that was there, changed
in-mapped : (f : Record → Record) (rs : List Record) (r : Record) → In (map f rs) r → (q : Record) × In rs q × (r ≡ f q)
in-mapped f rs r h = (let b = At-mapped f rs h.0 r h.1 in (b.0, (h.0, b.1), b.2))

named-in : (rs : List Record) (name : List ℕ) (r : Record) → record_named rs name ≡ Some r → In rs r × (r.state.name ≡ name)
named-in rs name r is = (let f = find-at (λ (x : Record). bytes_eq x.state.name name) rs r is in ((f.0, f.1), (bytes_eq-Decides r.state.name name).0 f.2))

free-of : (r q : Record) → r ≡ q → (q.busy ≡ None) × (q.waiting ≡ []) → (r.busy ≡ None) × (r.waiting ≡ [])
free-of r q is h = subst (λ (x : Record). (x.busy ≡ None) × (x.waiting ≡ [])) (sym is) h

-- ---- changes of records

-- a change that leaves what is busy and what waits
free-with : (name : List ℕ) (f : Record → Record) (rs : List Record) → ((r : Record) → (f r).busy ≡ r.busy) → ((r : Record) → (f r).waiting ≡ r.waiting) → AreFree rs → AreFree (with_record name f rs)
free-with name f rs b w free r h =
    let q = in-mapped (λ (r : Record). cond (bytes_eq r.state.name name) (f r) r) rs r h in
    free-of r (cond (bytes_eq q.0.state.name name) (f q.0) q.0) q.2 (go q.0 (bytes_eq q.0.state.name name) (free q.0 q.1))
  where
    go : (q : Record) (t : Bool) → (q.busy ≡ None) × (q.waiting ≡ []) → ((cond t (f q) q).busy ≡ None) × ((cond t (f q) q).waiting ≡ [])
    go q true h = (b q ∙ h.0, w q ∙ h.1)
    go q false h = h

-- puts are taken out
filter-none : (test : WaitingPut → Bool) (ps : List WaitingPut) → ps ≡ [] → filter test ps ≡ []
filter-none test ps is = ap (λ (l : List WaitingPut). filter test l) is

pub withdrawn-free : (which : Put → Bool) (o : Option (List ℕ)) (rs : List Record) → AreFreeBut o rs → AreFreeBut o (withdrawn which rs)
withdrawn-free which None rs free = λ r h.
    let q = in-mapped (without_puts which) rs r h in
    let f = free q.0 q.1 in
    free-of r (without_puts which q.0) q.2 (f.0, filter-none (λ (p : WaitingPut). not (which p.put)) q.0.waiting f.1)
withdrawn-free which (Some name) rs free = λ r h.
    let q = in-mapped (without_puts which) rs r h in
    let f = free q.0 q.1 in
    subst (λ (x : Record). (x.waiting ≡ []) × (x.state.name ≡ name → is_some x.busy ≡ true) × ((x.state.name ≡ name → ⊥) → x.busy ≡ None)) (sym q.2)
    (filter-none (λ (p : WaitingPut). not (which p.put)) q.0.waiting f.0, f.1, f.2)

-- a put makes the record of this name busy
busy-with : (name : List ℕ) (p : Put) (f : Record → Record) (rs : List Record) → ((r : Record) → (f r).state.name ≡ r.state.name) → ((r : Record) → (f r).busy ≡ Some p) → ((r : Record) → (f r).waiting ≡ r.waiting) → AreFree rs → AreFreeBut (Some name) (with_record name f rs)
busy-with name p f rs same b w free r h =
    let q = in-mapped (λ (r : Record). cond (bytes_eq r.state.name name) (f r) r) rs r h in
    subst Is (sym q.2) (go q.0 (bytes_eq q.0.state.name name) refl (free q.0 q.1))
  where
    Is : Record → Type 0
    Is x = (x.waiting ≡ []) × (x.state.name ≡ name → is_some x.busy ≡ true) × ((x.state.name ≡ name → ⊥) → x.busy ≡ None)

    go : (q : Record) (t : Bool) → bytes_eq q.state.name name ≡ t → (q.busy ≡ None) × (q.waiting ≡ []) → Is (cond t (f q) q)
    go q true e h = (w q ∙ h.1, (λ n. ap is_some (b q)), λ other. absurd (other (same q ∙ (bytes_eq-Decides q.state.name name).0 e)))
    go q false e h = (h.1, (λ n. absurd (both-bools (bytes_eq q.state.name name) ((bytes_eq-Decides q.state.name name).1 n) e)), λ other. h.0)

-- the put of the record of this name is finished, and none waits
finish-with : (name : List ℕ) (stamp : Stamp) (rs : List Record) → AreFreeBut (Some name) rs → AreFree (with_record name (λ (q : Record). finished stamp q q.waiting) rs)
finish-with name stamp rs free r h =
    let q = in-mapped (λ (r : Record). cond (bytes_eq r.state.name name) (finished stamp r r.waiting) r) rs r h in
    let f = free q.0 q.1 in
    free-of r (cond (bytes_eq q.0.state.name name) (finished stamp q.0 q.0.waiting) q.0) q.2 (go q.0 (bytes_eq q.0.state.name name) refl f.0 f.2)
  where
    ended : (q : Record) (ps : List WaitingPut) → ps ≡ [] → ((finished stamp q ps).busy ≡ None) × ((finished stamp q ps).waiting ≡ [])
    ended q ps is = subst (λ (l : List WaitingPut). ((finished stamp q l).busy ≡ None) × ((finished stamp q l).waiting ≡ [])) (sym is) (refl, refl)

    go : (q : Record) (t : Bool) → bytes_eq q.state.name name ≡ t → q.waiting ≡ [] → ((q.state.name ≡ name → ⊥) → q.busy ≡ None)
        → ((cond t (finished stamp q q.waiting) q).busy ≡ None) × ((cond t (finished stamp q q.waiting) q).waiting ≡ [])
    go q true e w n = ended q q.waiting w
    go q false e w n = (n (λ is. both-bools (bytes_eq q.state.name name) ((bytes_eq-Decides q.state.name name).1 is) e), w)

-- ---- a message

-- no put waits for a record that is free
no-waits : (y : Server) (e : ServerEnd) (sid : ℕ) (c : Serves (knows y e) sid) → AreFree y.records → c.known.busy ≡ true → ⊥
no-waits y e sid c free busy = go (record_named y.records c.channel.name) refl c.named
  where
    go : (o : Option Record) → record_named y.records c.channel.name ≡ o → option_map known_record o ≡ Some c.known → ⊥
    go None at is = none-some c.known is
    go (Some r) at is =
        let same : known_record r ≡ c.known = some_is (known_record r) c.known is in
        let b : is_some r.busy ≡ true = ap (λ x. x.busy) same ∙ busy in
        let f : r.busy ≡ None = (free r (named-in y.records c.channel.name r at).0).0 in
        both-bools (is_some r.busy) b (ap is_some f)

-- what a message makes of the records
pub recorded-free : (y : Server) (h : Handle) (e : ServerEnd) (m : Fields) (did : Action) (new : Server) → AreFree y.records → Busies (knows y e) m did → Records y h e m did new → AreFreeBut (busied did) new.records
recorded-free y h e m (Applies name value false) new free busy is =
    subst (λ (rs : List Record). AreFree rs) (sym (ap (λ (s : Server). s.records) is)) (free-with name (with_value value (written_meta value y.stamp)) y.records (λ r. refl) (λ r. refl) free)
recorded-free y h e m (Applies name value true) new free busy (p, put, is) =
    subst (λ (rs : List Record). AreFreeBut (Some name) rs) (sym (ap (λ (s : Server). s.records) is))
    (busy-with name p (λ (r : Record). record (with_value value (written_meta value y.stamp) r) { busy = Some p }) y.records (λ r. refl) (λ r. refl) (λ r. refl) free)
recorded-free y h e m (action.Waits name value) new free busy is = absurd (no-waits y e m.p1 busy.0 free busy.1)
recorded-free y h e m (action.Clears sid) new free busy is =
    subst (λ (rs : List Record). AreFree rs) (sym (ap (λ (s : Server). s.records) is)) (withdrawn-free _ None y.records free)
recorded-free y h e m action.Nothing new free busy is = subst (λ (s : Server). AreFree s.records) (sym is) free
recorded-free y h e m action.Greets new free busy is = subst (λ (s : Server). AreFree s.records) (sym is) free
recorded-free y h e m (action.Names p) new free busy is = subst (λ (s : Server). AreFree s.records) (sym is) free
recorded-free y h e m (action.Opens c) new free busy is = subst (λ (s : Server). AreFree s.records) (sym is) free
recorded-free y h e m (action.Adds s) new free busy is = subst (λ (s : Server). AreFree s.records) (sym is) free
recorded-free y h e m (action.Drops k) new free busy is = subst (λ (s : Server). AreFree s.records) (sym is) free
recorded-free y h e m (action.Switches on) new free busy is = subst (λ (s : Server). AreFree s.records) (sym is) free

-- its write reaches subscriptions
pub reached-free : (did : Action) (o : Option (List ℕ)) (gone : Handle → Bool) (y new : Server) → Reaches did gone y new → AreFreeBut o y.records → AreFreeBut o new.records
reached-free (Applies name value busies) o gone y new is free =
    subst (λ (rs : List Record). AreFreeBut o rs) (sym (ap (λ (s : Server). s.records) is.1)) (withdrawn-free (λ (p : Put). gone p.circuit) o y.records free)
reached-free (action.Waits name value) o gone y new is free = subst (λ (s : Server). AreFreeBut o s.records) (sym is.1) free
reached-free (action.Clears sid) o gone y new is free = subst (λ (s : Server). AreFreeBut o s.records) (sym is.1) free
reached-free action.Nothing o gone y new is free = subst (λ (s : Server). AreFreeBut o s.records) (sym is.1) free
reached-free action.Greets o gone y new is free = subst (λ (s : Server). AreFreeBut o s.records) (sym is.1) free
reached-free (action.Names p) o gone y new is free = subst (λ (s : Server). AreFreeBut o s.records) (sym is.1) free
reached-free (action.Opens c) o gone y new is free = subst (λ (s : Server). AreFreeBut o s.records) (sym is.1) free
reached-free (action.Adds s) o gone y new is free = subst (λ (s : Server). AreFreeBut o s.records) (sym is.1) free
reached-free (action.Drops k) o gone y new is free = subst (λ (s : Server). AreFreeBut o s.records) (sym is.1) free
reached-free (action.Switches on) o gone y new is free = subst (λ (s : Server). AreFreeBut o s.records) (sym is.1) free

-- ---- a finish

-- it is that of the record that is busy, if one is
abbrev pub Matches : (busy put : Option (List ℕ)) → Type 0
Matches None put = Unit {0}
Matches (Some name) None = ⊥
Matches (Some name) (Some n) = n ≡ name

-- what the calls of one message left: no record is busy, by these finishes
abbrev pub Finished : Server → Server → Type 0
Finished y new = AreFree new.records × ((names : List (List ℕ)) × FoldsTo FinishesOne y names new)

stayed-free : (y new : Server) → new ≡ y → AreFree y.records → Finished y new
stayed-free y new is free = (subst (λ (s : Server). AreFree s.records) (sym is) free, ([], sym is))

-- a finish leaves these records before the next put is applied
replies-records : (y new : Server) (p : Put) (gone : Handle → Bool) (sent : List (Handle × Fields)) → Replies y p gone sent new → new.records ≡ y.records
replies-records y new p gone sent (inl awaited) = ap (λ (s : Server). s.records) awaited.3
replies-records y new p gone sent (inr none) = ap (λ (s : Server). s.records) none.2

next-free : (name : List ℕ) (ps : List WaitingPut) (gone : Handle → Bool) (mid new : Server) → ps ≡ [] → new ≡ after_next name ps gone mid → AreFree mid.records → AreFree new.records
next-free name ps gone mid new none is free =
    let same : new ≡ after_next name [] gone mid = is ∙ ap (λ (l : List WaitingPut). after_next name l gone mid) none in
    subst (λ (rs : List Record). AreFree rs) (sym (ap (λ (s : Server). s.records) same)) (withdrawn-free (λ (p : Put). gone p.circuit) None mid.records free)

finishes-free : (y : Server) (name : List ℕ) (sent : List (Handle × Fields)) (r : Result (Unit {0}) Refusal) (new : Server) → AreFree y.records → Finishes y name sent r new → Finished y new
finishes-free y name sent (Ok u) new free f =
    let busy : f.0.r.busy ≡ Some f.0.p = f.0.busy in
    absurd (none-some f.0.p (sym (free f.0.r (named-in y.records name f.0.r f.0.named).0).0 ∙ busy))
finishes-free y name sent (Err refusal.UnknownRecord) new free f = stayed-free y new f.2 free
finishes-free y name sent (Err refusal.NotBusy) new free f = stayed-free y new f.2 free
finishes-free y name sent (Err _) new free f = absurd f

-- the records without a busy one of this name are free
nobody-free : (name : List ℕ) (rs : List Record) → AreFreeBut (Some name) rs → record_named rs name ≡ None → AreFree rs
nobody-free name rs free none r h = (let f = free r h in (f.2 (λ is. lacks rs none r h is), f.0))
  where
    lacks : (rs : List Record) → record_named rs name ≡ None → (r : Record) → In rs r → r.state.name ≡ name → ⊥
    lacks [] none r h is = absurd cc
    lacks (x ∷ rs) none r h is = by (bytes_eq x.state.name name) refl none h.0 h.1 (λ n l. lacks rs n r l is)
      where
        by : (b : Bool) → bytes_eq x.state.name name ≡ b → cond b (Some x) (record_named rs name) ≡ None → (i : ℕ) → At (x ∷ rs) i r → (record_named rs name ≡ None → In rs r → ⊥) → ⊥
        by true e n i at rest = none-some x (sym n)
        by false e n zero at rest = both-bools (bytes_eq x.state.name name) ((bytes_eq-Decides x.state.name name).1 (ap (λ (q : Record). q.state.name) (some_is x r at) ∙ is)) e
        by false e n (suc i) at rest = rest n (i, at)

finishes-busy : (y : Server) (name : List ℕ) (sent : List (Handle × Fields)) (r : Result (Unit {0}) Refusal) (new : Server) → AreFreeBut (Some name) y.records → Finishes y name sent r new → Finished y new
finishes-busy y name sent (Ok u) new free f =
    let n = named-in y.records name f.0.r f.0.named in
    let none : f.0.r.waiting ≡ [] = (free f.0.r n.0).0 in
    let rs : f.1.records ≡ (with_finish name f.0.r y).records = replies-records (with_finish name f.0.r y) f.1 f.0.p f.0.gone sent f.2 in
    let kept : AreFree f.1.records = subst (λ (l : List Record). AreFree l) (sym rs) (finish-with name y.stamp y.records free) in
    (next-free name f.0.r.waiting f.0.gone f.1 new none f.3 kept, (name ∷ [], (new, (sent, f), refl)))
finishes-busy y name sent (Err refusal.UnknownRecord) new free f = stayed-free y new f.2 (nobody-free name y.records free f.0)
finishes-busy y name sent (Err refusal.NotBusy) new free f =
    let r : Record = f.0.0 in
    let n = named-in y.records name r f.0.1 in
    absurd (both-bools (is_some r.busy) ((free r n.0).1 n.1) (ap is_some f.0.2))
finishes-busy y name sent (Err _) new free f = absurd f

pub tried-free : (o put : Option (List ℕ)) (y new : Server) → Matches o put → AreFreeBut o y.records → Tries y put new → Finished y new
tried-free None None y new same free is = stayed-free y new is free
tried-free None (Some name) y new same free is = finishes-free y name is.0 is.1 new free is.2
tried-free (Some name) None y new same free is = absurd same
tried-free (Some name) (Some n) y new same free is =
    finishes-busy y name is.0 is.1 new free (subst (λ (x : List ℕ). Finishes y x is.0 is.1 new) same is.2)

-- The put that was noted is that of the record that is busy, if one is.
pub noted-free : (o put : Option (List ℕ)) (was now : List Record) → AreFree was → AreFreeBut o now → Notes was now put → (p : Option (List ℕ)) × AreFreeBut p now × Matches p put
noted-free None put was now free but notes = (None, but, tt)
noted-free (Some name) put was now free but notes = go (record_named now name) refl
  where
    go : (o : Option Record) → record_named now name ≡ o → (p : Option (List ℕ)) × AreFreeBut p now × Matches p put
    go None none = (None, nobody-free name now but none, tt)
    go (Some r) is =
        let n = named-in now name r is in
        let busy : is_some r.busy ≡ true = (but r n.0).1 n.1 in
        elim (notes.others r n.0 busy) [
          | inl noted ↦ (Some name, but, subst (λ (p : Option (List ℕ)). Matches (Some name) p) (sym noted) n.1)
          | inr q ↦ absurd (both-bools (is_some q.0.busy) q.3 (ap is_some (free q.0 q.1).0))
        ]

-- ---- a pump

pub pumped-free : (y : Server) (h : Handle) (updates : List Update) (new : Server) → Pumps y h updates new → AreFree y.records → AreFree new.records
pumped-free y h updates new (inl (e, has, (after, folds, inl rests))) free = subst (λ (s : Server). AreFree s.records) (sym rests.1) free
pumped-free y h updates new (inl (e, has, (after, folds, inr lacks))) free =
    subst (λ (s : Server). AreFree s.records) (sym lacks.1) (withdrawn-free _ None y.records free)
pumped-free y h updates new (inr none) free = subst (λ (s : Server). AreFree s.records) (sym none.2) free
