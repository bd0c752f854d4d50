-- What each call of a server's core leaves of what is known of it and one circuit, whatever its
-- peers send; and so what it sends is legal.
use Rattle.std.proofs.Common.{◌≡◌, ℕ, zero, suc, ◌≤◌, ◌⊎◌, inl, inr, Bool, true, false, cond, List, [], ◌∷◌, ◌++◌, Option, Some, None, refl, sym, ap, ◌∙◌, subst, arith}
use Rattle.std.specs.Prelude.{Ok, Err, Result, filter, map, take}
use Rattle.std.specs.List.{FoldsTo}
use Rattle.std.specs.Str.{bytes_eq}
use Rattle.std.proofs.lemmas.Bool.{both_ways, cases_Bool}
use Rattle.std.proofs.lemmas.List.{append-nil}
use Rattle.ca_text.specs.declared.command.Command.TheVariants as command
use Rattle.ca_text.specs.declared.refusal.Refusal.{Refusal}
use Rattle.ca_text.specs.declared.refusal.Refusal.TheVariants as refusal
use Rattle.ca_text.specs.Limits.{element_limit}
use Rattle.ca_text.specs.Place.{At}
use Rattle.ca_text.proofs.Places.{At-mapped, some_is}
use Rattle.ca_arena.specs.declared.handle.Handle.{Handle}
use Rattle.ca_arena.specs.Arena.{Place}
use Rattle.ca_dbr.specs.Elements.{count_of}
use Rattle.ca_dbr.specs.Held.{IsHeldValue}
use Rattle.ca_ids.specs.Table.{Table, same_handle, under}
use Rattle.ca_records.specs.Puts.{Record, with_record, with_value}
use Rattle.ca_records.specs.Record.{RecordState}
use Rattle.ca_link.specs.Link.{with_rest, with_sent}
use Rattle.ca_wire.specs.Fields.{Fields}
use Rattle.ca_wire.specs.Message.{spelled}
use Rattle.ca_model.specs.Ends.{Why}
use Rattle.ca_model.specs.Ends as why
use Rattle.ca_model.specs.Sends.{Conduct, LegalServer}
use Rattle.ca_model.specs.Server.{Ended, Open, OpenChannel, Server, ServerCircuit, ServerEnd, Subscription, new_end, new_server, with_post}
use Rattle.ca_model.specs.ServerCalls.{Finishes, Posts, Removes, Replies, after_next, circuit_without, disconnects, end_without, finish_reply, with_finish}
use Rattle.ca_model.specs.ServerSteps.{Accepts, Cuts, Gives, HasEnd, Handled, LacksMemory, LeftOf, Next, Pumps, Reaches, Sends, Stepped, StepsAt, StepsOpen, Update, after_post, closed, ended, reached, knows, with_end}
use Rattle.ca_model.specs.ServerSteps as stepped
use Rattle.ca_model.specs.ServerCalls as calls
use Rattle.ca_model.specs.Speech.{In, Is, Stored}
use Rattle.ca_model.proofs.Handles.{handle-or, same-is, same-itself, same-not}
use Rattle.ca_model.proofs.Tables.{changed-back, find-at, freed-back, given-none, held-back, place, under-at}
use Rattle.ca_laws_parts.specs.ServerFits.{AllAt, EndFits, ServerFits, ValueFits}
use Rattle.ca_laws_parts.proofs.BytesServerCalls.{IsUpdating, accepts-fits, adds-fits, begins-fits, closed-fits, cuts-fits, finishes-fits, fits-same, gives-fits, left-fits, next-fits, pumps-fits, pumps-update, reaches-fits, removes-fits, sends-fits}
use Rattle.ca_laws_parts.proofs.ServerEnds.{open-one}
use Rattle.ca_laws_parts.proofs.ServerFits.{changed-fits, each-changed, post-fits, value-fits, withdrawn-fits}
use Rattle.ca_laws_parts.proofs.Marks.{at-filter}
use Rattle.ca_laws_parts.specs.Conduct.{nothing_done, with_all_sent, with_read}
use Rattle.ca_laws_parts.proofs.Growing.{IsTold, told-read, told-sent}
use Rattle.ca_laws_parts.specs.ServerRows.{ServerAndConduct, Call, Did, Does, IsCall, ByCall, ServersSendLegally, StepDoes, before, nothing, of_ok, on_circuit, only_sent, removal_sent}
use Rattle.ca_laws_parts.specs.ServerRows as call
use Rattle.ca_laws_parts.proofs.Carried.{Carries, carries-closed, carries-end, carries-ended, carries-itself, carries-next, carries-post, carries-reaches, carries-same, carries-then, records-circuits}
use Rattle.ca_laws_parts.proofs.Dealing.{deal, marks}
use Rattle.ca_laws_parts.proofs.EndKnown.{EndKnown}
use Rattle.ca_laws_parts.proofs.Handling.{Known, known-carried, known-mute, so-dealt}
use Rattle.ca_laws_parts.proofs.ServerSending.{leaves-all, removal-known, removal-legal, shows-id, updates-known, updates-legal}

at-take : (n : ℕ) (ms : List Fields) (q : ℕ) (m : Fields) → At (take n ms) q m → At ms q m
at-take zero ms q m at = absurd cc
at-take (suc n) [] q m at = at
at-take (suc n) (x ∷ ms) zero m at = at
at-take (suc n) (x ∷ ms) (suc q) m at = at-take n ms q m at

-- what is known once this was done
abbrev Then : Handle → Server → Did → Conduct → Type 0
Then c new d k = Known c new (with_all_sent d.sent (with_read d.read k))

done-nothing : (k : Conduct) → with_all_sent [] k ≡ k
done-nothing k = ap (λ (l : List Fields). let f : Conduct = record { sent = l; came = k.came; read = k.read } in f) (append-nil k.sent)

quiet-then : (c : Handle) (y new : Server) (k : Conduct) (d : Did) → Known c y k → d ≡ nothing → ServerFits new → Carries c y new → Then c new d k
quiet-then c y new k d known is fits carries =
    subst (λ (v : Did). Then c new v k) (sym is) (subst (λ (f : Conduct). Known c new f) (sym (done-nothing k)) (known-carried c y new k fits carries known))

-- on another circuit nothing was done
elsewhere-then : (c h : Handle) (new : Server) (k : Conduct) (d did : Did) → (h ≡ c → ⊥) → d ≡ on_circuit c h did → Known c new k → Then c new d k
elsewhere-then c h new k d did other is known =
    subst (λ (v : Did). Then c new v k) (sym (is ∙ ap (λ (b : Bool). cond b did nothing) (same-not h c other))) (subst (λ (f : Conduct). Known c new f) (sym (done-nothing k)) known)

here-is : (c h : Handle) (d did : Did) → h ≡ c → d ≡ on_circuit c h did → d ≡ did
here-is c h d did same is = is ∙ ap (λ (b : Bool). cond b did nothing) (subst (λ (k : Handle). same_handle h k ≡ true) same (same-itself h))

open-ended : (e : ServerEnd) (w : Why) (left : List ℕ) → Open e ≡ Ended w left → ⊥
open-ended e w left is = cc

module _ (c : Handle) (y new : Server) (k : Conduct) (known : Known c y k) where
  -- ---- steps

  -- the end of another circuit stays
  carries-other : (h : Handle) (d : ServerEnd) (z : Server) → (c ≡ h → ⊥) → Carries c z (with_end h d z)
  carries-other h d z other f has = elim (changed-back (λ (v : ServerCircuit). Open d) z.circuits c h (Open f) has) [
    | inr old ↦ (f, old.1, refl, refl)
    | inl own ↦ absurd (other own.0)
  ]

  module _ (h : Handle) (e : ServerEnd) (has : HasEnd y h e) (next : Next y h e) where
    abbrev took : ServerEnd
    took = record e { link = with_rest next.rest e.link }

    abbrev sends-end : ServerEnd
    sends-end = record next.handles.acted { link = with_sent next.replies next.handles.acted.link }

    fits-next : ServerFits next.after
    fits-next = (next-fits y h e has known.fits next).2

    carries-next-other : (c ≡ h → ⊥) → Carries c y next.after
    carries-next-other other =
        let made = next.handles in
        subst (λ (z : Server). Carries c y z) (sym made.leaves)
        (carries-then c y made.recorded (with_end h sends-end made.recorded) (carries-same c y made.recorded (records-circuits y h took next.m next.action made.recorded made.records)) (carries-other h sends-end made.recorded other))

    step-handled : (d : Did) (gone : Handle → Bool) → Reaches next.action gone next.after new → d ≡ on_circuit c h (record { read = Some next.m; sent = next.replies }) → Then c new d k
    step-handled d gone reaches is = elim (handle-or h c) [
      | inr other ↦
          elsewhere-then c h new k d did other is
          (known-carried c y new k fits-new (carries-then c y next.after new (carries-next-other (λ same. other (sym same))) (carries-reaches c next.action gone next.after new reaches)) known)
      | inl same ↦ subst (λ (v : Did). Then c new v k) (sym (here-is c h d did same is)) (here same)
    ]
      where
        did : Did
        did = record { read = Some next.m; sent = next.replies }

        fits-new : ServerFits new
        fits-new = reaches-fits next.action gone next.after new (next-fits y h e has known.fits next).1 reaches fits-next

        here : h ≡ c → Then c new did k
        here same =
            let made = next.handles in
            let known-e : EndKnown e.channels e.subscriptions k = known.ends e (subst (λ (z : Handle). HasEnd y z e) same has) in
            let dealt = so-dealt y took made.acted next.m next.replies next.action k known.told known.legal known-e (deal (knows y took) next.m next.replies next.action made.due) made.acts in
            record {
              told = told-sent (with_read (Some next.m) k) next.replies (told-read k next.m known.told);
              fits = fits-new;
              legal = dealt.0;
              ends = λ d has_d.
                  let a = carries-reaches c next.action gone next.after new reaches d has_d in
                  let own = changed-back (λ (v : ServerCircuit). Open (record made.acted { link = with_sent next.replies made.acted.link })) made.recorded.circuits c h (Open a.0) (subst (λ (z : Server). HasEnd z c a.0) made.leaves a.1) in
                  elim own [
                    | inr old ↦ absurd (old.0 (sym same))
                    | inl mine ↦
                        let is_it : a.0 ≡ record made.acted { link = with_sent next.replies made.acted.link } = open-one a.0 sends-end mine.1.2 in
                        subst (λ (v : Table OpenChannel × List Subscription). EndKnown v.0 v.1 (with_all_sent next.replies (with_read (Some next.m) k)))
                        (λ i. (sym (a.2 ∙ ap (λ (z : ServerEnd). z.channels) is_it) i, sym (a.3 ∙ ap (λ (z : ServerEnd). z.subscriptions) is_it) i)) dealt.1
                  ];
            }

    -- an end closes on its next message
    carries-left : (written : Option (Handle → Bool)) (mid : Server) → (c ≡ h → ⊥) → LeftOf next written mid → Carries c y mid
    carries-left None mid other is = subst (λ (z : Server). Carries c y z) (sym is) (carries-itself c y)
    carries-left (Some gone) mid other did = carries-then c y next.after mid (carries-next-other other) (carries-reaches c next.action gone next.after mid did.1)

  -- an end that is reported is no more
  carries-shut : (h : Handle) (mid : Server) → ((c ≡ h → ⊥) → Carries c y mid) → Carries c y (closed h mid)
  carries-shut h mid other d has = elim (handle-or c h) [
    | inl same ↦ absurd ((freed-back mid.circuits c h (Open d) has).0 same)
    | inr apart ↦ carries-then c y mid (closed h mid) (other apart) (carries-closed c h mid) d has
  ]

  shut-then : (h : Handle) (d : Did) → d ≡ nothing → new ≡ closed h y → Then c new d k
  shut-then h d is same =
      quiet-then c y new k d known is (subst ServerFits (sym same) (closed-fits h y known.fits)) (subst (λ (z : Server). Carries c y z) (sym same) (carries-shut h y (λ apart. carries-itself c y)))

  same-then : (d : Did) → d ≡ nothing → new ≡ y → Then c new d k
  same-then d is same = quiet-then c y new k d known is (subst ServerFits (sym same) known.fits) (subst (λ (z : Server). Carries c y z) (sym same) (carries-itself c y))

  lacks-then : (h : Handle) (e : ServerEnd) (d : Did) → HasEnd y h e → d ≡ nothing → LacksMemory y h e new → Then c new d k
  lacks-then h e d has is lacks =
      quiet-then c y new k d known is (subst ServerFits (sym lacks.leaves) (closed-fits h lacks.mid (left-fits y h e has known.fits lacks.next lacks.written lacks.mid lacks.left_is)))
      (subst (λ (z : Server). Carries c y z) (sym lacks.leaves) (carries-shut h lacks.mid (λ apart. carries-left h e has lacks.next lacks.written lacks.mid apart lacks.left_is)))

  opens-then : (h : Handle) (e : ServerEnd) (answer : Stepped) (d : Did) → HasEnd y h e → d ≡ nothing → (answer ≡ Handled → ⊥) → StepsOpen y h e answer new → Then c new d k
  opens-then h e stepped.OutputFull d has is other does = same-then d is does.1
  opens-then h e stepped.NeedBytes d has is other does = same-then d is does.3
  opens-then h e Handled d has is other does = absurd (other refl)
  opens-then h e (stepped.Closed why.OutOfMemory left) d has is other does = lacks-then h e d has is does.1
  opens-then h e (stepped.Closed why.Misaligned left) d has is other does = shut-then h d is does.3
  opens-then h e (stepped.Closed why.TooLarge left) d has is other does = shut-then h d is does.3
  opens-then h e (stepped.Closed why.Silence left) d has is other does = shut-then h d is does.3
  opens-then h e (stepped.Closed why.Asked left) d has is other does = shut-then h d is does.3
  opens-then h e (stepped.Closed why.Cut left) d has is other does = shut-then h d is does.3

  at-then : (h : Handle) (o : Option ServerCircuit) (answer : Stepped) (d : Did) → under y.circuits h ≡ o → d ≡ nothing → (answer ≡ Handled → ⊥) → StepsAt y h o answer new → Then c new d k
  at-then h (Some (Open e)) answer d has is other does = opens-then h e answer d has is other does
  at-then h (Some (Ended w left)) answer d has is other does = shut-then h d is does.1
  at-then h None answer d has is other does = same-then d is does.1

  did-nothing : (h : Handle) (d did : Did) → did ≡ nothing → d ≡ on_circuit c h did → d ≡ nothing
  did-nothing h d did none is = is ∙ ap (λ (v : Did). cond (same_handle h c) v nothing) none ∙ go (same_handle h c)
    where
      go : (b : Bool) → cond b nothing nothing ≡ nothing
      go true = refl
      go false = refl

  step-then : (h : Handle) (answer : Stepped) (d did : Did) → StepDoes y h answer did new → d ≡ on_circuit c h did → Then c new d k
  step-then h Handled d did does is = step-handled h does.0 does.1 does.2 d does.3 does.5 (is ∙ ap (λ (v : Did). on_circuit c h v) does.6)
  step-then h stepped.NeedBytes d did does is = at-then h (under y.circuits h) stepped.NeedBytes d refl (did-nothing h d did does.1 is) (λ e. cc) does.0
  step-then h stepped.OutputFull d did does is = at-then h (under y.circuits h) stepped.OutputFull d refl (did-nothing h d did does.1 is) (λ e. cc) does.0
  step-then h (stepped.Closed w left) d did does is = at-then h (under y.circuits h) (stepped.Closed w left) d refl (did-nothing h d did does.1 is) (λ e. cc) does.0

  -- ---- updates

  updates-of : (h : Handle) (us : List Update) (e after : ServerEnd) → HasEnd y h e → h ≡ c → FoldsTo stepped.Leaves e us after → AllAt (λ (u : Update). IsUpdating u.message) us
      → (q : ℕ) (m : Fields) → At (map (λ (u : Update). u.message) us) q m
      → Is command.EventAdd m × (m.payload ≡ [] → ⊥) × ((s : Subscription) × In e.subscriptions s × (m.p2 ≡ s.wanted.id))
  updates-of h us e after has same folds all q m at =
      let b = At-mapped (λ (u : Update). u.message) us q m at in
      let l = (leaves-all us e after folds).2 q b.0 b.1 in
      let updating : IsUpdating m = subst (λ (z : Fields). IsUpdating z) (sym b.2) (all q b.0 b.1) in
      (updating.0, updating.1, (b.0.of, l.0, ap (λ (z : Fields). z.p2) b.2 ∙ shows-id b.0.of.wanted b.0.carries b.0.message l.1))

  pump-then : (h : Handle) (us : List Update) (d : Did) → Pumps y h us new → d ≡ on_circuit c h (only_sent (map (λ (u : Update). u.message) us)) → Then c new d k
  pump-then h us d pumps is = go pumps
    where
      ms : List Fields
      ms = map (λ (u : Update). u.message) us

      fits-new : ServerFits new
      fits-new = (pumps-fits y h us new pumps known.fits).1

      updating : AllAt (λ (u : Update). IsUpdating u.message) us
      updating = pumps-update y h us new pumps known.fits

      -- on this circuit
      here : h ≡ c → (e after : ServerEnd) → HasEnd y h e → FoldsTo stepped.Leaves e us after
          → ((f : ServerEnd) → HasEnd new c f → (f.channels ≡ e.channels) × (f.subscriptions ≡ e.subscriptions)) → Then c new (only_sent ms) k
      here same e after has folds now =
          let known-e : EndKnown e.channels e.subscriptions k = known.ends e (subst (λ (z : Handle). HasEnd y z e) same has) in
          let each = updates-of h us e after has same folds updating in
          record {
            told = told-sent k ms known.told;
            fits = fits-new;
            legal = updates-legal e.channels e.subscriptions k ms known.told known.legal known-e each;
            ends = λ f has_f.
                let s = now f has_f in
                subst (λ (v : Table OpenChannel × List Subscription). EndKnown v.0 v.1 (with_all_sent ms k)) (λ i. (sym s.0 i, sym s.1 i)) (updates-known e.channels e.subscriptions k ms known.told known.legal known-e each);
          }

      either : (e after : ServerEnd) → HasEnd y h e → FoldsTo stepped.Leaves e us after → (new ≡ with_end h after y) ⊎ (new ≡ ended h why.OutOfMemory after.link.output y) → Then c new d k
      either e after has folds which = elim (handle-or h c) [
        | inr other ↦ elsewhere-then c h new k d (only_sent ms) other is (known-carried c y new k fits-new carries known)
        | inl same ↦ subst (λ (v : Did). Then c new v k) (sym (here-is c h d (only_sent ms) same is)) (here same e after has folds (λ f has_f. (let w = carries f has_f in let one : w.0 ≡ e = open-one w.0 e (some_is (Open w.0) (Open e) (sym w.1 ∙ subst (λ (z : Handle). HasEnd y z e) same has)) in (w.2 ∙ ap (λ (z : ServerEnd). z.channels) one, w.3 ∙ ap (λ (z : ServerEnd). z.subscriptions) one))))
      ]
        where
          l : (after.channels ≡ e.channels) × (after.subscriptions ≡ e.subscriptions)
          l = (let r = leaves-all us e after folds in (r.0, r.1))

          carries : Carries c y new
          carries = elim which [
            | inl stays ↦ subst (λ (z : Server). Carries c y z) (sym stays) (carries-end c h y e after has l.0 l.1)
            | inr ends ↦ subst (λ (z : Server). Carries c y z) (sym ends) (carries-ended c h why.OutOfMemory after.link.output y)
          ]

      go : Pumps y h us new → Then c new d k
      go (inl (e, has, (after, folds, inl (rests, same)))) = either e after has folds (inl same)
      go (inl (e, has, (after, folds, inr (some, same)))) = either e after has folds (inr same)
      go (inr (none, empty, same)) =
          same-then d (did-nothing h d (only_sent ms) (ap (λ (l : List Update). only_sent (map (λ (u : Update). u.message) l)) empty) is) same

  -- ---- finishes

  -- what goes out as a put is finished: its reply
  abbrev IsQuiet : Fields → Type 0
  IsQuiet m = (marks m.command ≡ false) × (Is command.Error m → ⊥)

  quiet-filtered : (sent : List (Handle × Fields)) → ((i : ℕ) (s : Handle × Fields) → At sent i s → IsQuiet s.1)
      → (q : ℕ) (m : Fields) → At (map (λ (s : Handle × Fields). s.1) (filter (λ (s : Handle × Fields). same_handle s.0 c) sent)) q m → IsQuiet m
  quiet-filtered sent each q m at =
      let b = At-mapped (λ (s : Handle × Fields). s.1) (filter (λ (s : Handle × Fields). same_handle s.0 c) sent) q m at in
      let f = at-filter (λ (s : Handle × Fields). same_handle s.0 c) sent q b.0 b.1 in
      subst (λ (z : Fields). IsQuiet z) (sym b.2) (each f.0 b.0 f.1)

  mute-then : (d : Did) (ms : List Fields) → d ≡ only_sent ms → ((q : ℕ) (m : Fields) → At ms q m → IsQuiet m) → Known c new k → Then c new d k
  mute-then d ms is mute known-new =
      subst (λ (v : Did). Then c new v k) (sym is) (known-mute c new k ms (λ q m at. (mute q m at).0) (λ q m at errs. (mute q m at).1 errs) known-new)

  nothing-sent : (sent : List (Handle × Fields)) (d : Did) → sent ≡ [] → d ≡ only_sent (map (λ (s : Handle × Fields). s.1) (filter (λ (s : Handle × Fields). same_handle s.0 c) sent)) → d ≡ nothing
  nothing-sent sent d none is = is ∙ ap (λ (l : List (Handle × Fields)). only_sent (map (λ (s : Handle × Fields). s.1) (filter (λ (s : Handle × Fields). same_handle s.0 c) l))) none

  finish-then : (name : List ℕ) (sent : List (Handle × Fields)) (answer : Result (Unit {0}) Refusal) (d : Did) → Finishes y name sent answer new
      → d ≡ only_sent (map (λ (s : Handle × Fields). s.1) (filter (λ (s : Handle × Fields). same_handle s.0 c) sent)) → Then c new d k
  finish-then name sent (Ok _) d does is =
      mute-then d _ is (quiet-filtered sent (each does.2)) (known-carried c y new k (finishes-fits y name sent new does known.fits).1 carries known)
    where
      finish : Server
      finish = with_finish name does.0.r y

      each : Replies finish does.0.p does.0.gone sent does.1 → (i : ℕ) (s : Handle × Fields) → At sent i s → IsQuiet s.1
      each (inl (e, awaited, are, same)) i s at = one i s (subst (λ (l : List (Handle × Fields)). At l i s) are at)
        where
          one : (i : ℕ) (s : Handle × Fields) → At ((does.0.p.circuit, finish_reply does.0.p) ∷ []) i s → IsQuiet s.1
          one zero s at =
              let is : (does.0.p.circuit, finish_reply does.0.p) ≡ s = some_is (does.0.p.circuit, finish_reply does.0.p) s at in (
                ap (λ (z : Handle × Fields). marks z.1.command) (sym is),
                λ errs. (let n : ◌≡◌ {A = ℕ} 19 11 = ap (λ (z : Handle × Fields). z.1.command) is ∙ errs in omega (arith, n)),
              )
          one (suc i) s at = cc
      each (inr (why_not, are, same)) i s at = absurd (none i s (subst (λ (l : List (Handle × Fields)). At l i s) are at))
        where
          none : (i : ℕ) (s : Handle × Fields) → At [] i s → ⊥
          none i s at = cc

      replied : Replies finish does.0.p does.0.gone sent does.1 → Carries c finish does.1
      replied (inl (e, awaited, are, same)) =
          subst (λ (z : Server). Carries c finish z) (sym same)
          (carries-end c does.0.p.circuit finish e (record e { link = with_sent (finish_reply does.0.p ∷ []) e.link }) awaited.0 refl refl)
      replied (inr (why_not, are, same)) = subst (λ (z : Server). Carries c finish z) (sym same) (carries-itself c finish)

      carries : Carries c y new
      carries =
          subst (λ (z : Server). Carries c y z) (sym does.3)
          (carries-then c y does.1 (after_next name does.0.r.waiting does.0.gone does.1) (carries-then c y finish does.1 (carries-same c y finish refl) (replied does.2)) (carries-next c name does.0.r.waiting does.0.gone does.1))
  finish-then name sent (Err refusal.UnknownRecord) d does is = same-then d (nothing-sent sent d does.1 is) does.2
  finish-then name sent (Err refusal.NotBusy) d does is = same-then d (nothing-sent sent d does.1 is) does.2
  finish-then name sent (Err _) d does is = absurd does

  -- ---- posts

  post-then : (name : List ℕ) (v : Stored) (mask : ℕ) (gone : Handle → Bool) (answer : Result (Unit {0}) Refusal) (d : Did) → IsHeldValue v.value → Posts y name v mask gone answer new → d ≡ nothing → Then c new d k
  post-then name v mask gone (Ok _) d valued does is =
      quiet-then c y new k d known is (subst ServerFits (sym does.2) (posted-fits stored known-stored))
      (subst (λ (z : Server). Carries c y z) (sym does.2) (carries-then c y stored (after_post name mask v gone stored) (carries-same c y stored refl) (carries-post c name mask v gone stored)))
    where
      stored : Server
      stored = record y { records = with_record name (with_value v.value v.meta) y.records }

      r : Record
      r = does.0.0

      at : (i : ℕ) × At y.records i r × (bytes_eq r.state.name name ≡ true)
      at = find-at (λ (r : Record). bytes_eq r.state.name name) y.records r does.0.1

      one : ValueFits v.value
      one = (let limit : r.state.count ≤ element_limit = (known.fits.records at.0 r at.1).count in let few : count_of v.value ≤ r.state.count = does.0.4 in (valued, does.0.3, omega (arith, few, limit)))

      known-stored : ServerFits stored
      known-stored = record { port = known.fits.port; records = changed-fits name (with_value v.value v.meta) y.records (λ r fit. value-fits v.value v.meta r one fit) known.fits.records; ends = known.fits.ends }

      posted-fits : (z : Server) → ServerFits z → ServerFits (after_post name mask v gone z)
      posted-fits z f = record {
        port = f.port;
        records = withdrawn-fits _ z.records f.records;
        ends = λ h e has. (let u = each-changed (reached name mask v gone) z.circuits h (Open e) has in by h e u.0 (f.ends h) u.1 u.2);
      }
        where
          by : (h : Handle) (e : ServerEnd) (u : ServerCircuit) → ((e : ServerEnd) → under z.circuits h ≡ Some (Open e) → EndFits e) → under z.circuits h ≡ Some u → Open e ≡ reached name mask v gone h u → EndFits e
          by h e (Ended w left) fine there is = absurd (open-ended e w left is)
          by h e (Open d) fine there is = go (gone h) is
            where
              go : (b : Bool) → Open e ≡ cond b (Ended why.OutOfMemory d.link.output) (Open (with_post name mask v d)) → EndFits e
              go true is = absurd (open-ended e why.OutOfMemory d.link.output is)
              go false is = subst EndFits (sym (open-one e (with_post name mask v d) is)) (post-fits name mask v d one (fine d there))
  post-then name v mask gone (Err r) d valued does is = same-then d is does.1

  -- ---- circuits, bytes and records

  give-then : (h : Handle) (bytes : List ℕ) (answer : Result (Unit {0}) Refusal) (d : Did) → Gives y h bytes answer new → d ≡ nothing → Then c new d k
  give-then h bytes (Ok _) d does is =
      quiet-then c y new k d known is (gives-fits y new h bytes does known.fits) (subst (λ (z : Server). Carries c y z) (sym does.2) (carries-end c h y does.0 _ does.1 refl refl))
  give-then h bytes (Err refusal.CircuitClosed) d does is = same-then d is does.1
  give-then h bytes (Err refusal.OutOfMemory) d does is = same-then d is does.2
  give-then h bytes (Err _) d does is = absurd does

  sent-then : (h : Handle) (n : ℕ) (d : Did) → Sends y h n new → d ≡ nothing → Then c new d k
  sent-then h n d does is = quiet-then c y new k d known is (sends-fits y new h n does known.fits) (go does)
    where
      go : Sends y h n new → Carries c y new
      go (inl (e, has, few, same)) = subst (λ (z : Server). Carries c y z) (sym same) (carries-end c h y e _ has refl refl)
      go (inr (none, zero_it, same)) = subst (λ (z : Server). Carries c y z) (sym same) (carries-itself c y)

  cut-then : (h : Handle) (d : Did) → Cuts y h new → d ≡ nothing → Then c new d k
  cut-then h d does is = quiet-then c y new k d known is (cuts-fits y h new does known.fits) (go does)
    where
      go : Cuts y h new → Carries c y new
      go (inl (e, has, same)) = subst (λ (z : Server). Carries c y z) (sym same) (carries-ended c h why.Cut e.link.output y)
      go (inr (none, same)) = subst (λ (z : Server). Carries c y z) (sym same) (carries-itself c y)

  alike-then : (d : Did) → d ≡ nothing → new.port ≡ y.port → new.records ≡ y.records → new.circuits ≡ y.circuits → Then c new d k
  alike-then d is port records circuits = quiet-then c y new k d known is (fits-same y new port records circuits known.fits) (carries-same c y new circuits)

  beacon-then : (now : ℕ) (answer : Option (List ℕ)) (d : Did) → calls.Beacons y now answer new → d ≡ nothing → Then c new d k
  beacon-then now None d does is = alike-then d is (ap (λ (z : Server). z.port) does.1) (ap (λ (z : Server). z.records) does.1) (ap (λ (z : Server). z.circuits) does.1)
  beacon-then now (Some bytes) d does is = alike-then d is (ap (λ (z : Server). z.port) does.2) (ap (λ (z : Server). z.records) does.2) (ap (λ (z : Server). z.circuits) does.2)

  add-then : (s : RecordState) (behind : ℕ) (answer : Result (Unit {0}) Refusal) (d : Did) → IsHeldValue s.value → calls.AddsRecord y s behind answer new → d ≡ nothing → Then c new d k
  add-then s behind (Ok _) d valued does is =
      quiet-then c y new k d known is (adds-fits y s behind new valued does known.fits) (carries-same c y new (ap (λ (z : Server). z.circuits) does.1))
  add-then s behind (Err refusal.OutOfMemory) d valued does is = same-then d is does.1
  add-then s behind (Err r) d valued does is = same-then d is does.1

  -- ---- a record is removed

  remove-then : (name : List ℕ) (gone : Handle → Bool) (left : Handle → ℕ) (answer : Result (Unit {0}) Refusal) (d : Did) → Removes y name gone left answer new
      → d ≡ only_sent (of_ok answer (removal_sent name (gone c) (left c) (under y.circuits c))) → Then c new d k
  remove-then name gone left (Err refusal.UnknownRecord) d does is = same-then d is does.1
  remove-then name gone left (Err _) d does is = absurd does
  remove-then name gone left (Ok _) d does is =
      subst (λ (v : Did). Then c new v k) (sym is) (go (under y.circuits c) refl (gone c) refl)
    where
      fits-new : ServerFits new
      fits-new = removes-fits y name gone left new does known.fits

      -- what is there now
      now : (f : ServerEnd) → HasEnd new c f → (u : ServerCircuit) × (under y.circuits c ≡ Some u) × (Open f ≡ circuit_without name gone left c u)
      now f has = each-changed (circuit_without name gone left) y.circuits c (Open f) (subst (λ (z : Server). HasEnd z c f) does.2 has)

      none-open : (u : ServerCircuit) → under y.circuits c ≡ Some u → ((f : ServerEnd) → Open f ≡ circuit_without name gone left c u → ⊥) → (f : ServerEnd) → HasEnd new c f → ⊥
      none-open u there none f has =
          (let w = now f has in none f (w.2 ∙ ap (λ (z : ServerCircuit). circuit_without name gone left c z) (some_is w.0 u (sym w.1 ∙ there))))

      quiet : ((f : ServerEnd) → HasEnd new c f → ⊥) → Then c new (only_sent []) k
      quiet none = quiet-then c y new k (only_sent []) known refl fits-new (λ f has. absurd (none f has))

      taken-from : (n : ℕ) (ms : List Fields) (q : ℕ) (m : Fields) → At (take n ms) q m → At ms q m
      taken-from n ms q m at = at-take n ms q m at

      go : (o : Option ServerCircuit) → under y.circuits c ≡ o → (b : Bool) → gone c ≡ b → Then c new (only_sent (removal_sent name b (left c) o)) k
      go None there b is_b = quiet (λ f has. (let w = now f has in no-some w.0 (sym there ∙ w.1)))
        where
          no-some : (u : ServerCircuit) → (let o : Option ServerCircuit = None in o ≡ Some u) → ⊥
          no-some u e = cc
      go (Some (Ended w l)) there b is_b = quiet (none-open (Ended w l) there (λ f is. open-ended f w l is))
      go (Some (Open e)) there true is_b = record {
        told = told-sent k (take (left c) (disconnects name e)) known.told;
        fits = fits-new;
        legal = removal-legal name e k known.told known.legal (known.ends e there) (take (left c) (disconnects name e)) (taken-from (left c) (disconnects name e));
        ends = λ f has. absurd (none-open (Open e) there (λ f is. shut f is_b is) f has);
      }
        where
          shut : (f : ServerEnd) → gone c ≡ true → Open f ≡ circuit_without name gone left c (Open e) → ⊥
          shut f yes_it is = open-ended f why.OutOfMemory _ (is ∙ ap (λ (z : Bool). cond z (Ended why.OutOfMemory (e.link.output ++ spelled (take (left c) (disconnects name e)))) (Open (end_without name e))) yes_it)
      go (Some (Open e)) there false is_b = record {
        told = told-sent k (disconnects name e) known.told;
        fits = fits-new;
        legal = removal-legal name e k known.told known.legal (known.ends e there) (disconnects name e) (λ q m at. at);
        ends = λ f has.
            let w = now f has in
            let same : w.0 ≡ Open e = some_is w.0 (Open e) (sym w.1 ∙ there) in
            let is_f : f ≡ end_without name e =
            open-one f (end_without name e)
            (w.2 ∙ ap (λ (z : ServerCircuit). circuit_without name gone left c z) same
            ∙ ap (λ (z : Bool). cond z (Ended why.OutOfMemory (e.link.output ++ spelled (take (left c) (disconnects name e)))) (Open (end_without name e))) is_b) in
            subst (λ (v : ServerEnd). EndKnown v.channels v.subscriptions (with_all_sent (disconnects name e) k)) (sym is_f) (removal-known name e k known.told known.legal (known.ends e there));
      }

-- ---- a circuit is accepted

none-under : {T : Type 0} (h : Handle) (v : T) → under [] h ≡ Some v → ⊥
none-under {T} h v is = none h (place h v) (under-at [] h v is)
  where
    none : (h : Handle) (p : Place T) → At [] h.index p → ⊥
    none h p at = cc

none-at : {A : Type 0} (i : ℕ) (x : A) → At [] i x → ⊥
none-at i x at = cc

no-legal : LegalServer nothing_done
no-legal = record {
  sids = λ i k a b m r less at_m at_r makes also same. absurd (none-at i m at_m);
  updates = λ k m at is some. absurd (none-at k m at);
  confirmations = λ k m at is none. absurd (none-at k m at);
  disconnects = λ k m at is. absurd (none-at k m at);
}

no-told : IsTold nothing_done
no-told = record { same = refl; early = λ j b at. absurd (none-at j b at) }

end-new : EndKnown [] [] nothing_done
end-new = record {
  few = omega arith;
  channels = λ h o there. absurd (none-under h o there);
  cids = λ h g o p is also same. absurd (none-under h o is);
  sids = λ i a m at makes. absurd (none-at i m at);
  subscriptions = λ s there. absurd (none-at there.0 s there.1);
}

accept-then : (c : Handle) (y new : Server) (k : Conduct) (d : Did) → Known c y k → (answer : Result Handle Refusal) → Accepts y answer new → d ≡ nothing → Then c new d (before c (call.Accept answer) k)
accept-then c y new k d known (Ok h) does is = go (cases_Bool (same_handle h c))
  where
    go : (same_handle h c ≡ true) ⊎ (same_handle h c ≡ false) → Then c new d (cond (same_handle h c) nothing_done k)
    go (inr other) =
        subst (λ (b : Bool). Then c new d (cond b nothing_done k)) (sym other)
        (quiet-then c y new k d known is (accepts-fits y h new does known.fits)
        (λ f has. elim (held-back y.circuits c h (Open (new_end y.moment)) (Open f) (subst (λ (z : Server). HasEnd z c f) does.1 has)) [
          | inr old ↦ (f, old, refl, refl)
          | inl own ↦ absurd (both_ways (same_handle h c) other (subst (λ (z : Handle). same_handle h z ≡ true) (sym own.0) (same-itself h)))
        ]))
    go (inl same) =
        subst (λ (b : Bool). Then c new d (cond b nothing_done k)) (sym same)
        (subst (λ (v : Did). Then c new v nothing_done) (sym is) (record {
          told = no-told;
          fits = accepts-fits y h new does known.fits;
          legal = no-legal;
          ends = λ f has. elim (held-back y.circuits c h (Open (new_end y.moment)) (Open f) (subst (λ (z : Server). HasEnd z c f) does.1 has)) [
            | inr old ↦ absurd (given-none y.circuits c h (Open f) does.0 old (ap (λ (z : Handle). z.index) (sym (same-is h c same))))
            | inl own ↦
                subst (λ (v : ServerEnd). EndKnown v.channels v.subscriptions nothing_done) (sym (open-one f (new_end y.moment) own.1)) end-new
          ];
        }))
accept-then c y new k d known (Err refusal.ArenaFull) does is = same-then c y new k known d is does.1
accept-then c y new k d known (Err refusal.OutOfMemory) does is = same-then c y new k known d is does.1
accept-then c y new k d known (Err _) does is = absurd does

-- ---- every call, and every row

does-then : (c : Handle) (y new : Server) (k : Conduct) (d : Did) (it : Call) → Known c y k → IsCall it → Does c y it d new → Then c new d (before c it k)
does-then c y new k d (call.Accept answer) known fine does = accept-then c y new k d known answer does.0 does.1
does-then c y new k d (call.Give h bytes answer) known fine does = give-then c y new k known h bytes answer d does.0 does.1
does-then c y new k d (call.Sent h n) known fine does = sent-then c y new k known h n d does.0 does.1
does-then c y new k d (call.Step h answer) known fine does = step-then c y new k known h answer d does.0 does.1 does.2
does-then c y new k d (call.Pump h) known fine does = pump-then c y new k known h does.0 d does.1 does.2
does-then c y new k d (call.Cut h) known fine does = cut-then c y new k known h d does.0 does.1
does-then c y new k d (call.Finish name answer) known fine does = finish-then c y new k known name does.0 answer d does.1 does.2
does-then c y new k d (call.Post name v mask answer) known fine does = post-then c y new k known name v mask does.0 answer d fine does.1 does.2
does-then c y new k d (call.AddRecord s answer) known fine does = add-then c y new k known s does.0 answer d fine does.1 does.2
does-then c y new k d (call.RemoveRecord name answer) known fine does = remove-then c y new k known name does.0 does.1 answer d does.2 does.3
does-then c y new k d (call.SetStamp s) known fine does =
    alike-then c y new k known d does.1 (ap (λ (z : Server). z.port) does.0) (ap (λ (z : Server). z.records) does.0) (ap (λ (z : Server). z.circuits) does.0)
does-then c y new k d (call.Beacon now answer) known fine does = beacon-then c y new k known now answer d does.0 does.1

row-then : (c : Handle) (calls : List Call) (old now : ServerAndConduct) → ((i : ℕ) (it : Call) → At calls i it → IsCall it) → Known c old.core old.conduct → FoldsTo (ByCall c) old calls now
    → Known c now.core now.conduct
row-then c [] old now fine known is = subst (λ (v : ServerAndConduct). Known c v.core v.conduct) is known
row-then c (it ∷ calls) old now fine known (mid, one, rest) =
    row-then c calls mid now (λ i z at. fine (suc i) z at)
    (subst (λ (f : Conduct). Known c mid.core f) (sym one.2) (does-then c old.core mid.core old.conduct one.0 it known (fine 0 it refl) one.1)) rest

pub servers-send-legally : ServersSendLegally
servers-send-legally c a calls now ok fine rows =
    (row-then c calls (record { core = new_server a.port a.now a.rules a.states; conduct = nothing_done }) now fine
    (record {
      told = no-told;
      fits = begins-fits a.port a.now a.rules a.states ok.port ok.records;
      legal = no-legal;
      ends = λ e has. absurd (none-under c (Open e) has);
    }) rows).legal
