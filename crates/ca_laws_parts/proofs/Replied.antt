-- Events in which a server may reply: a step of its end, and a finish; and every event.
use Rattle.std.proofs.Common.{◌≡◌, ℕ, zero, suc, ◌⊎◌, inl, inr, Bool, true, List, [], ◌∷◌, ◌++◌, length, Option, Some, None, refl, sym, ap, subst, ◌∙◌, append_assoc, arith}
use Rattle.std.specs.Prelude.{map, option_map, slice_get, slice_set, unwrap_or}
use Rattle.ca_arena.specs.declared.handle.Handle.{Handle}
use Rattle.ca_dbr.specs.declared.value.Outcome.TheVariants.{Failed}
use Rattle.ca_records.specs.declared.puts.Put.{Put}
use Rattle.ca_requests.specs.Meaning.{Means}
use Rattle.ca_text.specs.declared.status.Status.{Status}
use Rattle.ca_text.specs.Place.{At}
use Rattle.ca_text.proofs.Places.{some_is, At-mapped, At-one, At-parts, At-set}
use Rattle.ca_wire.specs.Fields.{Fields}
use Rattle.ca_model.specs.Due.{Action}
use Rattle.ca_model.specs.Ends as why
use Rattle.ca_model.specs.Server.{Server}
use Rattle.ca_model.specs.ServerCalls.{Replies, finish_reply, with_finish}
use Rattle.ca_model.specs.ServerSteps.{Stepped, closed}
use Rattle.ca_model.specs.ServerSteps as stepped
use Rattle.ca_model.specs.Speech.{In}
use Rattle.ca_model.specs.History.{Applied, Entry, Reply, Told}
use Rattle.ca_model.specs.Channels.{IsTaken}
use Rattle.ca_model.specs.ServerEvents.{Finished, HappensFinish, ServerStepped, StepLacks, about, acted, ending, ends_at, ends_by, ends_here, finish_entry, first_of, logged_by, next_busy, next_entries, next_numbers, numbers_after, replied_at, server_after, side_of, unsaid, withdrawals, write_numbers}
use Rattle.ca_model.specs.ServerEvents as event
use Rattle.ca_model.specs.World.{Joined, PutPlace, ServerSide, Setting, World, with_circuit}
use Rattle.ca_laws_parts.specs.Agrees.{Agrees, IsBusyBy, IsBusyWith}
use Rattle.ca_laws_parts.specs.Lives.{CameOn, IsPutOf, Later}
use Rattle.ca_laws_parts.specs.Moves.{Lives, finish_told}
use Rattle.ca_laws_parts.specs.Seats.{Sound, TakesSent}
use Rattle.ca_laws_parts.proofs.WritesEnding.{ending-later}
use Rattle.ca_laws_parts.proofs.WritesEvents.{SameEnds, next-same, same-later, same-trans}
use Rattle.ca_laws_parts.proofs.Frames.{later-then}
use Rattle.ca_laws_parts.proofs.Going.{came-as}
use Rattle.ca_laws_parts.proofs.Grown.{Quiet, ending-down, grew-ended, itself-back, logs-same, mapped-back, next-down, numbers-after-down, quiet-down, quiet-then, set-back, write-numbers-down}
use Rattle.ca_laws_parts.proofs.HappensStep.{handled-grew}
use Rattle.ca_laws_parts.proofs.WritesLists.{In-append, beside-right, none_at}
use Rattle.ca_laws_parts.proofs.Says.{Grew, IsNew, WentOn, logs-grown}
use Rattle.ca_laws_parts.proofs.Waited.{numbers-after-same, write-numbers-same}

-- ---- a step

acted-back : (w : World) (k : ℕ) (j : Joined) (y : ServerSide) (did : Action) → At w.circuits k j → (n : ℕ) (x : Joined) → At (acted k j y did w).circuits n x → (c : Joined) × At w.circuits n c × SameEnds c x × Quiet c x
acted-back w k j y did at n x there =
    let place : ℕ = length j.lists.handled in
    let f : Joined → Joined = write_numbers j.server y.core did in
    let d : Joined = numbers_after place did j in
    let a = At-mapped f (slice_set w.circuits k d) n x there in
    let b = set-back w k j d at (numbers-after-same place did j) (quiet-down j d (numbers-after-down place did j)) n a.0 a.1 in (
      b.0,
      b.1,
      subst (λ (z : Joined). SameEnds b.0 z) (sym a.2) (same-trans b.0 a.0 (f a.0) b.2 (write-numbers-same j.server y.core did a.0)),
      subst (λ (z : Joined). Quiet b.0 z) (sym a.2) (quiet-then b.0 a.0 (f a.0) b.3 (quiet-down a.0 (f a.0) (write-numbers-down j.server y.core did a.0))),
    )

lacks-grew : (w new : World) (k : ℕ) (j : Joined) (y : ServerSide) (left : List ℕ) → At w.circuits k j → StepLacks w k j y left new → Grew w new
lacks-grew w new k j y left at f = subst (λ (z : World). Grew w z) (sym f.leaves) (go f.lacks.written)
  where
    go : (o : Option (Handle → Bool)) → Grew w (server_after j.server (side_of j.server y (unsaid k j y f.lacks.next.action o w)) (ends_here j left j.server f.core) f.core (unsaid k j y f.lacks.next.action o w))
    go None = grew-ended w w j.server (side_of j.server y w) (ends_here j left j.server f.core) f.core (logs-same w) (itself-back w)
    go (Some gone) =
        let p : PutPlace = record { circuit = k; place = length j.lists.handled } in
        grew-ended w (acted k j y f.lacks.next.action w) j.server (side_of j.server y (acted k j y f.lacks.next.action w)) (ends_here j left j.server f.core) f.core
        (logs-grown w.server_logs y.life (logged_by y.core j.at_server p f.lacks.next.action y.records)) (acted-back w k j y f.lacks.next.action at)

pub step-grew-by : (s : Setting) (w new : World) (k : ℕ) (j : Joined) (y : ServerSide) (did : Stepped) → At w.circuits k j → At w.servers j.server y → j.lists.server_open ≡ true → TakesSent w → Sound s w → ServerStepped w k j y did new → (new ≡ w) ⊎ Grew w new
step-grew-by s w new k j y stepped.Handled at server opened takes h f = inr (handled-grew s w new k j y at server opened takes f h)
step-grew-by s w new k j y stepped.NeedBytes at server opened takes h f = inl f.3
step-grew-by s w new k j y stepped.OutputFull at server opened takes h f = inl f.3
step-grew-by s w new k j y (stepped.Closed why.OutOfMemory left) at server opened takes h f = inr (lacks-grew w new k j y left at f)
step-grew-by s w new k j y (stepped.Closed cause left) at server opened takes h f =
    inr (subst (λ (z : World). Grew w z) (sym f.3) (grew-ended w w j.server y (ends_here j left j.server y.core) (closed j.at_server y.core) (logs-same w) (itself-back w)))

-- ---- a finish

-- the reply of a finished put fails nothing
finish-fails : (b : Put) (status : Status) → Means (finish_reply b) (Failed status) → ⊥
finish-fails b status (inl (inl read, image)) = (let e : ◌≡◌ {A = ℕ} 19 15 = read in absurd (omega (arith, e)))
finish-fails b status (inl (inr (event_add, some), image)) = (let e : ◌≡◌ {A = ℕ} 19 1 = event_add in absurd (omega (arith, e)))
finish-fails b status (inr (inl (put, means))) = means.0 refl
finish-fails b status (inr (inr (inl created))) = created.1
finish-fails b status (inr (inr (inr fault))) = (let e : ◌≡◌ {A = ℕ} 19 11 = fault.0 in absurd (omega (arith, e)))

-- each message that is sent is that reply
replies-are : (y : Server) (b : Put) (gone : Handle → Bool) (sent : List (Handle × Fields)) (mid : Server) → Replies y b gone sent mid → (i : ℕ) (x : Handle × Fields) → At sent i x → x.1 ≡ finish_reply b
replies-are y b gone sent mid (inl said) i x at = go i (subst (λ (l : List (Handle × Fields)). At l i x) said.2 at)
  where
    go : (i : ℕ) → At ((b.circuit, finish_reply b) ∷ []) i x → x.1 ≡ finish_reply b
    go zero is = ap (λ (z : Handle × Fields). z.1) (sym (some_is (b.circuit, finish_reply b) x is))
    go (suc i) is = absurd (none_at i x is)
replies-are y b gone sent mid (inr not) i x at = absurd (none_at i x (subst (λ (l : List (Handle × Fields)). At l i x) not.1 at))

finished-grew : (s : Setting) (w new : World) (i : ℕ) (y : ServerSide) (name : List ℕ) → At w.servers i y → Sound s w → Finished w i y name new → Grew w new
finished-grew s w new i y name at h f = subst (λ (z : World). Grew w z) (sym f.leaves) (record { logs = logs-new; back = back })
  where
    own : Lives w i y
    own = h.writes.lives i y at

    more : List Entry
    more = finish_entry f.p ∷ next_entries y f.r (first_of f.cr.waiting) (first_of f.r.waiting)

    side : ServerSide
    side = record y { records = event.with_record name next_busy y.records }

    told : World
    told = finish_told w i y name f.cr f.r f.p

    mid : World
    mid = replied_at f.p f.sent told

    after : World
    after = server_after i side (ends_by i f.core) f.core mid

    by : IsBusyWith own.log f.r.number f.p
    by =
        let there = beside-right (Agrees (IsPutOf w.circuits i) own.log) y.core.records y.records f.at.0 f.r own.life.each f.at.1 in
        subst (λ (o : Option PutPlace). IsBusyBy own.log f.r.number o) f.busy there.2.busy

    came : (e : ℕ) × CameOn w.circuits y.life IsTaken f.p e by.v.value
    came = came-as w.circuits y.life own.log by.i f.p.circuit f.p.place f.r.number by.v true own.life.once by.at

    kept-logs : (t : World) → (replied_at f.p f.sent t).server_logs ≡ t.server_logs
    kept-logs t = go (slice_get t.circuits f.p.circuit)
      where
        go : (o : Option Joined) → (unwrap_or (option_map (λ (j : Joined). with_circuit f.p.circuit (record j { lists = record j.lists { down = j.lists.down ++ about f.p.place Reply (map (λ (x : Handle × Fields). x.1) f.sent) } }) t) o) t).server_logs ≡ t.server_logs
        go None = refl
        go (Some j) = refl

    logs-mid : (l : ℕ) (z : List Entry) → At w.server_logs l z → (x : List Entry) × At mid.server_logs l (z ++ x)
    logs-mid l z on =
        let a = logs-grown w.server_logs y.life more l z on in
        (a.0, subst (λ (ls : List (List Entry)). At ls l (z ++ a.0)) (sym (kept-logs told)) a.1)

    logs-new : (l : ℕ) (z : List Entry) → At w.server_logs l z → (x : List Entry) × At after.server_logs l (z ++ x)
    logs-new l z on =
        let a = logs-mid l z on in
        let b = logs-grown mid.server_logs side.life (withdrawals (ends_at (ends_by i f.core) mid.circuits) side.records) l (z ++ a.0) a.1 in
        (a.0 ++ b.0, subst (λ (o : List Entry). At after.server_logs l o) (append_assoc z a.0 b.0) b.1)

    -- a circuit in which this put came, and its log now
    reply-new : (d : Joined) (t : Told) → Later came.1.c d → t.place ≡ f.p.place → ((status : Status) → Means t.message (Failed status) → ⊥) → IsNew after f.p.circuit d t
    reply-new d t later place never =
        let grew = logs-new y.life own.log own.at in
        let life : d.lists.server ≡ y.life = later.life ∙ came.1.joins in
        record {
          says = λ z x log sent. record {
            done = λ asks means.
                let z_is : own.log ++ grew.0 ≡ z = At-one after.server_logs y.life (own.log ++ grew.0) z grew.1 (subst (λ (l : ℕ). At after.server_logs l z) life log) in
                let was : In own.log (Applied f.p.circuit t.place f.r.number by.v true) = subst (λ (m : ℕ). In own.log (Applied f.p.circuit m f.r.number by.v true)) (sym place) (by.i, by.at) in
                (f.r.number, by.v, true, subst (λ (l : List Entry). In l (Applied f.p.circuit t.place f.r.number by.v true)) z_is (In-append own.log grew.0 (Applied f.p.circuit t.place f.r.number by.v true) was));
            failed = λ status writes means e in_it tells. absurd (never status means);
          };
          about = ((came.1.s, subst (λ (m : ℕ). At d.lists.up m came.1.s) (sym place) (later.up f.p.place came.1.s came.1.sent)), inr never);
        }

    said : Joined → Joined
    said j = record j { lists = record j.lists { down = j.lists.down ++ about f.p.place Reply (map (λ (x : Handle × Fields). x.1) f.sent) } }

    said-same : (j : Joined) → SameEnds j (said j)
    said-same j = record { server = refl; handle = refl; life = refl; up = refl; handled = refl; is_open = refl }

    -- what a circuit of before is when the reply is told
    mid-back : (n : ℕ) (x : Joined) → At mid.circuits n x → (c : Joined) × At w.circuits n c × SameEnds c x
        × ((m : ℕ) (t : Told) → At x.lists.down m t → t.cause ≡ Reply → At c.lists.down m t ⊎ ((n ≡ f.p.circuit) × (t.place ≡ f.p.place) × ((status : Status) → Means t.message (Failed status) → ⊥)))
    mid-back n x = go (slice_get told.circuits f.p.circuit) refl
      where
        before : (n : ℕ) (x : Joined) → At told.circuits n x → (c : Joined) × At w.circuits n c × SameEnds c x × Quiet c x
        before = mapped-back w told (next_numbers i y.core name f.cr.waiting) refl (next-same i y.core name f.cr.waiting) (λ c. quiet-down c (next_numbers i y.core name f.cr.waiting c) (next-down i y.core name f.cr.waiting c))

        Was : Joined → Type 0
        Was x = (c : Joined) × At w.circuits n c × SameEnds c x
            × ((m : ℕ) (t : Told) → At x.lists.down m t → t.cause ≡ Reply → At c.lists.down m t ⊎ ((n ≡ f.p.circuit) × (t.place ≡ f.p.place) × ((status : Status) → Means t.message (Failed status) → ⊥)))

        as_before : (x : Joined) → At told.circuits n x → Was x
        as_before x there = (let b = before n x there in (b.0, b.1, b.2, λ m t on reply. inl (b.3 m t on reply)))

        replied : (j x : Joined) → At told.circuits f.p.circuit j → n ≡ f.p.circuit → x ≡ said j → Was x
        replied j x there same is =
            let b = before n j (subst (λ (m : ℕ). At told.circuits m j) (sym same) there) in
            subst Was (sym is) (
              b.0,
              b.1,
              same-trans b.0 j (said j) b.2 (said-same j),
              λ m t on reply. elim (At-parts j.lists.down (about f.p.place Reply (map (λ (z : Handle × Fields). z.1) f.sent)) m t on) [
                | inl old ↦ inl (b.3 m t old reply)
                | inr new ↦
                    let a = At-mapped (λ (q : Fields). let u : Told = record { message = q; place = f.p.place; cause = Reply } in u) (map (λ (z : Handle × Fields). z.1) f.sent) new.0 t new.2 in
                    let q = At-mapped (λ (z : Handle × Fields). z.1) f.sent new.0 a.0 a.1 in
                    let message : t.message ≡ finish_reply f.finishes.0.p = ap (λ (z : Told). z.message) a.2 ∙ q.2 ∙ replies-are (with_finish name f.finishes.0.r y.core) f.finishes.0.p f.finishes.0.gone f.sent f.finishes.1 f.finishes.2 new.0 q.0 q.1 in
                    inr (same, ap (λ (z : Told). z.place) a.2, λ status means. finish-fails f.finishes.0.p status (subst (λ (z : Fields). Means z (Failed status)) message means))
              ],
            )

        go : (o : Option Joined) → slice_get told.circuits f.p.circuit ≡ o → At (unwrap_or (option_map (λ (j : Joined). with_circuit f.p.circuit (said j) told) o) told).circuits n x → Was x
        go None is there = as_before x there
        go (Some j) is there = elim (At-set told.circuits f.p.circuit (said j) n x there) [
          | inl new ↦ replied j x is new.0 new.1
          | inr old ↦ as_before x old.0
        ]

    back : (n : ℕ) (x : Joined) → At after.circuits n x → WentOn w after n x ⊎ (x.lists.down ≡ [])
    back n x there =
        let u = At-mapped (ending (ends_by i f.core)) mid.circuits n x there in
        let b = mid-back n u.0 u.1 in
        let later : Later b.0 x = subst (λ (z : Joined). Later b.0 z) (sym u.2) (later-then b.0 u.0 (ending (ends_by i f.core) u.0) (same-later b.0 u.0 b.2) (ending-later (ends_by i f.core) u.0)) in
        inl (record {
          c = b.0;
          at = b.1;
          later = later;
          replies = λ m t on reply. elim (b.3 m t (subst (λ (l : List Told). At l m t) (ap (λ (z : Joined). z.lists.down) u.2 ∙ ending-down (ends_by i f.core) u.0) on) reply) [
            | inl old ↦ inl old
            | inr new ↦
                let same : came.1.c ≡ b.0 = At-one w.circuits f.p.circuit came.1.c b.0 came.1.on (subst (λ (l : ℕ). At w.circuits l b.0) new.0 b.1) in
                inr (subst (λ (l : ℕ). IsNew after l x t) (sym new.0) (reply-new x t (subst (λ (z : Joined). Later z x) (sym same) later) new.1 new.2))
          ];
        })

pub finish-grew : (s : Setting) (w new : World) (i : ℕ) (y : ServerSide) (name : List ℕ) → At w.servers i y → Sound s w → HappensFinish w i y name new → (new ≡ w) ⊎ Grew w new
finish-grew s w new i y name at h (inl f) = inr (finished-grew s w new i y name at h f)
finish-grew s w new i y name at h (inr refused) = inl refused.2
