-- The type and the count which a server's core keeps for a put are those of the message at its
-- place, over every event and run.
use Rattle.std.proofs.Common.{◌≡◌, ℕ, ◌+◌, ◌<◌, ◌≤◌, ◌⊎◌, inl, inr, Bool, true, false, cond, not, ◌||◌, List, [], ◌∷◌, ◌++◌, length, Option, Some, None, refl, sym, ap, subst, ◌∙◌, arith}
use Rattle.std.specs.Prelude.{drop, filter, map, option_map, slice_get, slice_set, take, unwrap_or}
use Rattle.std.specs.List.{FoldsTo}
use Rattle.std.specs.Str.{bytes_eq}
use Rattle.ca_arena.specs.declared.handle.Handle.{Handle}
use Rattle.ca_dbr.specs.Elements.{Elements}
use Rattle.ca_ids.specs.Table.{same_handle}
use Rattle.ca_link.specs.Link.{with_rest}
use Rattle.ca_records.specs.declared.puts.Put.{Put}
use Rattle.ca_records.specs.Puts.{Record, WaitingPut, new_record, removed, with_record, with_value, withdrawn, written_meta}
use Rattle.ca_records.specs.Puts as puts
use Rattle.ca_records.specs.Record.{RecordState, unset}
use Rattle.ca_text.specs.Place.{At}
use Rattle.ca_text.specs.Status.{normal}
use Rattle.ca_text.proofs.Places.{At-map, At-one, At-set, At-within}
use Rattle.ca_wire.specs.Fields.{Fields}
use Rattle.ca_model.specs.Due.{Action, Applies}
use Rattle.ca_model.specs.Due as action
use Rattle.ca_model.specs.Ends as why
use Rattle.ca_model.specs.History.{Collected, GaveUp, Sent}
use Rattle.ca_model.specs.Server.{Server, ServerEnd}
use Rattle.ca_model.specs.ServerCalls.{with_finish}
use Rattle.ca_model.specs.ServerSteps.{Cuts, IsPut, LeftOf, Next, Pumps, Records, Stepped, Update, closed}
use Rattle.ca_model.specs.ServerSteps as stepped
use Rattle.ca_model.specs.ClientEvents.{HappensAccept, HappensDown, WantsFirst}
use Rattle.ca_model.specs.Events.{Event}
use Rattle.ca_model.specs.Events as event
use Rattle.ca_model.specs.Runs.{CanBe, Happens, Leaves, clients_below}
use Rattle.ca_model.specs.ServerEvents.{HappensAdd, HappensFinish, HappensPost, HappensRemove, ServerStepped, acted, ends_at, ends_by, ends_here, next_busy, noted, records_after, replied_at, server_after, side_of, unsaid, without_puts}
use Rattle.ca_model.specs.ServerEvents as server
use Rattle.ca_model.specs.World.{ClientSide, IsSetting, Joined, PutPlace, RecordSide, ServerSide, Setting, World, opening, record_begun, server_begun, with_circuit}
use Rattle.ca_laws_parts.proofs.Puts.{In-mapped}
use Rattle.ca_laws_parts.proofs.Thins.{put-facts}
use Rattle.ca_laws_runs.specs.Pairs.{SideWaits}
use Rattle.ca_laws_runs.proofs.Follow.{puts-follow}
use Rattle.ca_laws_runs.proofs.Pairs.{none-some}
use Rattle.ca_laws_runs.proofs.StepWhole.{takes-next}
use Rattle.ca_laws_runs.proofs.ToldGrows.{event-on}
use Rattle.ca_laws_parts.specs.Agrees.{Agrees, IsBusyAs, WaitsAs}
use Rattle.ca_laws_parts.specs.Both.{Both}
use Rattle.ca_laws_parts.specs.Lives.{IsPutOf}
use Rattle.ca_laws_parts.specs.Moves.{Lives, finish_told, post_told, removal_told}
use Rattle.ca_laws_parts.proofs.Cores.{accepts-stay, gives-stay, next-records, reaches-ends, replies-stay, sends-stay, withdrawn-none, withdrawn-twice}
use Rattle.ca_laws_parts.proofs.Every.{ticks-frame}
use Rattle.ca_laws_parts.proofs.Frames.{Frame}
use Rattle.ca_laws_parts.proofs.HappensClient.{begun-frame, clear-frame, cut-frame, datagram-frame, handing-frame, hear-frame, open-frame, put-frame, read-frame, subscribe-frame, unsubscribe-frame, up-frame, write-frame}
use Rattle.ca_laws_parts.proofs.LastingStep.{told-servers}
use Rattle.ca_laws_parts.proofs.WritesLists.{In-kept, beside-left, beside-right, both-at, kept-in, none_at}
use Rattle.ca_laws_parts.proofs.WritesLives.{others-apart}
use Rattle.ca_laws_parts.proofs.Midway.{set-here}
use Rattle.ca_laws_runs.proofs.CausingEvents.{Ready}
use Rattle.ca_laws_runs.proofs.CausingRuns.{ready}
use Rattle.ca_laws_runs.proofs.LatelyDue.{IsDone}
use Rattle.ca_laws_runs.proofs.LatelyOpen.{event-since, open-was}
use Rattle.ca_laws_runs.proofs.LatelyPairs.{AreNamed, IsBusyAt, IsWaitingAt, Lines, lines-added, lines-are, lines-busied, lines-cleared, lines-cores, lines-finished, lines-gone, lines-removed, lines-self, lines-then, lines-waiting}
use Rattle.ca_laws_runs.proofs.LatelyRuns.{AnswersAt}
use Rattle.ca_laws_runs.proofs.FollowsWhole.{folds-snoc}

both-long : {A B : Type 0} (Q : A → B → Type 0) (xs : List A) (ys : List B) → Both Q xs ys → length xs ≡ length ys
both-long Q [] [] both = refl
both-long Q [] (y ∷ ys) both = absurd both
both-long Q (x ∷ xs) [] both = absurd both
both-long Q (x ∷ xs) (y ∷ ys) both = (let e : length xs ≡ length ys = both-long Q xs ys both.1 in omega (arith, e))

-- a server without puts
pub record HasNone (z : ServerSide) : Type 0 where
  pub busy : (q : PutPlace) (b : Put) → IsBusyAt z.core.records z.records q b → ⊥
  pub waits : (q : PutPlace) (b : Put) → IsWaitingAt z.core.records z.records q b → ⊥

-- ---- from one world to the next

module _ (w : World) where
  -- The message at this place of a circuit of server i is handled, as this put.
  pub record IsHeadPut (i : ℕ) (q : PutPlace) (b : Put) : Type 0 where
    pub j : Joined
    pub on : At w.circuits q.circuit j
    pub of : j.server ≡ i
    pub opened : j.lists.server_open ≡ true
    pub handle : b.circuit ≡ j.at_server
    pub s : Sent
    pub sent : At j.lists.up q.place s
    pub data_type : b.data_type ≡ s.message.data_type
    pub count : b.count ≡ s.message.count

  abbrev pub LinesFrom : (i : ℕ) → (y z : ServerSide) → Type 0
  LinesFrom i y z = Lines (IsHeadPut i) y.core.records z.core.records y.records z.records

  abbrev pub AllLines : World → Type 0
  AllLines new = (i : ℕ) (z : ServerSide) → At new.servers i z → ((y : ServerSide) × At w.servers i y × LinesFrom i y z) ⊎ HasNone z

  servers-same : (new : World) → new.servers ≡ w.servers → AllLines new
  servers-same new is i z at = inl (z, subst (λ (l : List ServerSide). At l i z) is at, lines-self (IsHeadPut i) z.core.records z.records)

  servers-set : (new : World) (k : ℕ) (y next : ServerSide) → At w.servers k y → new.servers ≡ slice_set w.servers k next → LinesFrom k y next
      → AllLines new
  servers-set new k y next at is from i z there = elim (At-set w.servers k next i z (subst (λ (l : List ServerSide). At l i z) is there)) [
    | inl own ↦ inl (y, subst (λ (m : ℕ). At w.servers m y) (sym own.0) at, subst (λ (x : ℕ × ServerSide). LinesFrom x.0 y x.1) (λ t. (sym own.0 t, sym own.1 t)) from)
    | inr old ↦ inl (z, old.0, lines-self (IsHeadPut i) z.core.records z.records)
  ]

  servers-core : (new : World) (k : ℕ) (y : ServerSide) (core : Server) → At w.servers k y
      → new.servers ≡ slice_set w.servers k (record y { core = core }) → core.records ≡ y.core.records → AllLines new
  servers-core new k y core at is same = servers-set new k y (record y { core = core }) at is (lines-are (IsHeadPut k) y.core.records core.records y.records same)

  framed : (new : World) → Frame w new → AllLines new
  framed new f = servers-same new f.servers

module _ (s : Setting) (w new : World) (e : Event) (ready_w : Ready s w) (ready_new : Ready s new) (happens : Happens w e new) where
  -- an open circuit is of the same server, under the same handle
  same-ends : (n : ℕ) (c d : Joined) → At w.circuits n c → At new.circuits n d → d.lists.server_open ≡ true
      → (d.server ≡ c.server) × (d.at_server ≡ c.at_server)
  same-ends n c d on at opened =
      let seat = ready_new.serves.stands.sound.seated.each n d at opened in
      elim (event-since s w new e ready_w happens n d seat.y seat.e at seat.at opened seat.has) [
        | inl late ↦ absurd (not-late n c on late)
        | inr h ↦ (let one : h.c ≡ c = At-one w.circuits n h.c c h.on on in (h.server ∙ ap (λ (v : Joined). v.server) one, h.handle ∙ ap (λ (v : Joined). v.at_server) one))
      ]
    where
      not-late : (n : ℕ) (c : Joined) → At w.circuits n c → length w.circuits ≤ n → ⊥
      not-late n c on late = (let lt : n < length w.circuits = At-within w.circuits n c on in omega (arith, lt, late))

  -- where a put that waits then came
  side-from : (i : ℕ) (z : ServerSide) → At new.servers i z → (q : PutPlace) → SideWaits z.records q → (c : Joined) × At w.circuits q.circuit c
  side-from i z at q waits = elim (puts-follow s w new e (takes-next s w ready_w.serves) ready_w.serves.stands.sound happens.0 happens.1 i z at) [
    | inr none ↦ absurd (none.side q waits)
    | inl fo ↦ elim (fo.2.side q waits) [
      | inl old ↦ (let f = put-facts s w i fo.0 q ready_w.serves.stands.sound fo.1 (old.0, old.1, inr old.2) in (f.c, f.on))
      | inr (b, inl step) ↦ (step.j, step.on)
      | inr (b, inr next) ↦ (next.is_put.c, next.is_put.on)
    ]
  ]

  -- Circuits of server i end, of which both sides know.
  module _ (i : ℕ) (y z : ServerSide) (at_y : At w.servers i y) (at_z : At new.servers i z) (cs : List Record) (rs : List RecordSide) (gone : Handle → Bool) (ends : ℕ → Bool) (mid : Lines (IsHeadPut w i) y.core.records cs y.records rs)
      (core_is : z.core.records ≡ withdrawn (λ (p : Put). gone p.circuit) cs) (side_is : z.records ≡ map (without_puts ends) rs) where
    own : Lives w i y
    own = ready_w.serves.stands.sound.writes.lives i y at_y

    own-new : Lives new i z
    own-new = ready_new.serves.stands.sound.writes.lives i z at_z

    -- the open circuit on which a put waits
    where-waits : (q : PutPlace) (b : Put) → IsWaitingAt cs rs q b
        → (c : Joined) × At w.circuits q.circuit c × (c.server ≡ i) × (c.lists.server_open ≡ true) × (b.circuit ≡ c.at_server)
    where-waits q b p = elim (mid.waits q b p) [
      | inl old ↦
          let g = both-at (Agrees (IsPutOf w.circuits i) own.log) y.core.records y.records old.k old.c old.r own.life.each old.in_cs old.in_rs in
          let put : IsPutOf w.circuits i q old.x.put = (both-at (WaitsAs (IsPutOf w.circuits i) own.log old.r.number) old.r.waiting old.c.waiting old.j q old.x g.each old.side old.core).1 in
          (put.c, put.on, put.of, own.still_open old.k old.r q put.c old.in_rs (old.j, old.side) put.on, ap (λ (v : Put). v.circuit) (sym old.is) ∙ put.handle)
      | inr head ↦ (head.j, head.on, head.of, head.opened, head.handle)
    ]

    no-both : (b : Bool) → b ≡ true → not b ≡ true → ⊥
    no-both true e1 e2 = cc
    no-both false e1 e2 = cc

    agree : (q : PutPlace) (b : Put) → IsWaitingAt cs rs q b → gone b.circuit ≡ ends q.circuit
    agree q b p = go (gone b.circuit) (ends q.circuit) refl refl
      where
        side_now : RecordSide
        side_now = without_puts ends p.r

        core_now : Record
        core_now = puts.without_puts (λ (v : Put). gone v.circuit) p.c

        at_side : At z.records p.k side_now
        at_side = subst (λ (l : List RecordSide). At l p.k side_now) (sym side_is) (At-map (without_puts ends) rs p.k p.r p.in_rs)

        at_core : At z.core.records p.k core_now
        at_core = subst (λ (l : List Record). At l p.k core_now) (sym core_is) (At-map (puts.without_puts (λ (v : Put). gone v.circuit)) cs p.k p.c p.in_cs)

        g : Agrees (IsPutOf new.circuits i) own-new.log core_now side_now
        g = both-at (Agrees (IsPutOf new.circuits i) own-new.log) z.core.records z.records p.k core_now side_now own-new.life.each at_core at_side

        c : (c : Joined) × At w.circuits q.circuit c × (c.server ≡ i) × (c.lists.server_open ≡ true) × (b.circuit ≡ c.at_server)
        c = where-waits q b p

        -- its place is left, but the put is not
        place-left : gone b.circuit ≡ true → ends q.circuit ≡ false → ⊥
        place-left is none =
            let m = kept-in (λ (v : PutPlace). not (ends v.circuit)) p.r.waiting q (p.j, p.side) (ap (λ (t : Bool). not t) none) in
            let x = beside-left (WaitsAs (IsPutOf new.circuits i) own-new.log side_now.number) side_now.waiting core_now.waiting m.0 q g.each m.1 in
            let k = In-kept (λ (v : WaitingPut). not (gone v.put.circuit)) p.c.waiting x.0 (m.0, x.1) in
            let put : IsPutOf new.circuits i q x.0.put = x.2.1 in
            let opened : put.c.lists.server_open ≡ true = own-new.still_open p.k side_now q put.c at_side m put.on in
            let same = same-ends q.circuit c.0 put.c c.1 put.on opened in
            let handle : x.0.put.circuit ≡ b.circuit = put.handle ∙ same.1 ∙ sym c.4 in
            no-both (gone b.circuit) is (ap (λ (h : Handle). not (gone h)) (sym handle) ∙ k.1)

        -- the put is left, but its place is not
        put-left : gone b.circuit ≡ false → ends q.circuit ≡ true → ⊥
        put-left none is =
            let m = kept-in (λ (v : WaitingPut). not (gone v.put.circuit)) p.c.waiting p.x (p.j, p.core) (ap (λ (v : Put). not (gone v.circuit)) p.is ∙ ap (λ (t : Bool). not t) none) in
            let x = beside-right (WaitsAs (IsPutOf new.circuits i) own-new.log side_now.number) side_now.waiting core_now.waiting m.0 p.x g.each m.1 in
            let k = In-kept (λ (v : PutPlace). not (ends v.circuit)) p.r.waiting x.0 (m.0, x.1) in
            let put : IsPutOf new.circuits i x.0 p.x.put = x.2.1 in
            let opened : put.c.lists.server_open ≡ true = own-new.still_open p.k side_now x.0 put.c at_side (m.0, x.1) put.on in
            let was = side-from i z at_z x.0 (side_now, (p.k, at_side), (m.0, x.1)) in
            let same = same-ends x.0.circuit was.0 put.c was.1 put.on opened in
            let opened_then : was.0.lists.server_open ≡ true = open-was s w new e ready_w ready_new happens x.0.circuit was.0 put.c was.1 put.on opened in
            let one : x.0.circuit ≡ q.circuit = ready_w.serves.stands.sound.seated.one x.0.circuit q.circuit was.0 c.0 was.1 c.1 (sym same.0 ∙ put.of ∙ sym c.2) opened_then c.3 (sym same.1 ∙ sym put.handle ∙ ap (λ (v : Put). v.circuit) p.is ∙ c.4) in
            no-both (ends x.0.circuit) (ap ends one ∙ is) k.1

        go : (t u : Bool) → gone b.circuit ≡ t → ends q.circuit ≡ u → gone b.circuit ≡ ends q.circuit
        go true true a d = a ∙ sym d
        go false false a d = a ∙ sym d
        go true false a d = absurd (place-left a d)
        go false true a d = absurd (put-left a d)

    after-lines : LinesFrom w i y z
    after-lines =
        lines-then (IsHeadPut w i) y.core.records cs z.core.records y.records rs z.records mid
        (subst (λ (v : List Record × List RecordSide). Lines (IsHeadPut w i) cs v.0 rs v.1) (λ t. (sym core_is t, sym side_is t)) (lines-gone (IsHeadPut w i) (λ (p : Put). gone p.circuit) ends cs rs agree))

  -- an event at server k after which circuits end
  ended : (mid : World) (k : ℕ) (y side : ServerSide) (ends : Joined → Option (List ℕ)) (core : Server)
      → new.servers ≡ (server_after k side ends core mid).servers → At w.servers k y
      → ((i : ℕ) (z : ServerSide) → At mid.servers i z → (i ≡ k → ⊥) → At w.servers i z) → (cs : List Record) (gone : Handle → Bool) → Lines (IsHeadPut w k) y.core.records cs y.records side.records
      → core.records ≡ withdrawn (λ (p : Put). gone p.circuit) cs → AllLines w new
  ended mid k y side ends core servers at others cs gone lines is i z there = elim (At-set mid.servers k _ i z (subst (λ (l : List ServerSide). At l i z) servers there)) [
    | inl own ↦
        let at_i : At w.servers i y = subst (λ (m : ℕ). At w.servers m y) (sym own.0) at in
        inl (
          y,
          at_i,
          after-lines i y z at_i there cs side.records gone (ends_at ends mid.circuits) (subst (λ (m : ℕ). Lines (IsHeadPut w m) y.core.records cs y.records side.records) (sym own.0) lines)
              (ap (λ (v : ServerSide). v.core.records) own.1 ∙ is) (ap (λ (v : ServerSide). v.records) own.1),
        )
    | inr old ↦ inl (z, others i z old.0 old.1, lines-self (IsHeadPut w i) z.core.records z.records)
  ]

  module _ (i : ℕ) (y : ServerSide) (at : At w.servers i y) where
    life : Lives w i y
    life = ready_w.serves.stands.sound.writes.lives i y at

    named : AreNamed y.core.records y.records
    named k c r in_cs in_rs = (both-at (Agrees (IsPutOf w.circuits i) life.log) y.core.records y.records k c r life.life.each in_cs in_rs).name

    long : length y.core.records ≡ length y.records
    long = both-long (Agrees (IsPutOf w.circuits i) life.log) y.core.records y.records life.life.each

    long-waiting : (k : ℕ) (c : Record) (r : RecordSide) → At y.core.records k c → At y.records k r → length c.waiting ≡ length r.waiting
    long-waiting k c r in_cs in_rs = sym (both-long (WaitsAs (IsPutOf w.circuits i) life.log r.number) r.waiting c.waiting (both-at (Agrees (IsPutOf w.circuits i) life.log) y.core.records y.records k c r life.life.each in_cs in_rs).each)

    -- a value is stored in a record
    stored-lines : (name : List ℕ) (f : Record → Record) → ((c : Record) → (f c).busy ≡ c.busy) → ((c : Record) → (f c).waiting ≡ c.waiting)
        → Lines (IsHeadPut w i) y.core.records (with_record name f y.core.records) y.records y.records
    stored-lines name f busy waiting =
        lines-cores (IsHeadPut w i) (λ (c : Record). cond (bytes_eq c.state.name name) (f c) c) y.core.records y.records (λ c. one c (bytes_eq c.state.name name)) (λ c. two c (bytes_eq c.state.name name))
      where
        one : (c : Record) (t : Bool) → (cond t (f c) c).busy ≡ c.busy
        one c true = busy c
        one c false = refl

        two : (c : Record) (t : Bool) → (cond t (f c) c).waiting ≡ c.waiting
        two c true = waiting c
        two c false = refl

    post-lines : (name : List ℕ) (v : Elements) (mask : ℕ) → HappensPost w i y name v mask new → AllLines w new
    post-lines name v mask (gone, core, inl (posts, is)) =
        ended (post_told w i y name (record { value = v; meta = unset }) mask) i y y (ends_by i core) core (ap (λ (z : World). z.servers) is) at (λ l z there other. there)
        (with_record name (with_value v unset) y.core.records) gone (stored-lines name (with_value v unset) (λ c. refl) (λ c. refl)) (ap (λ (x : Server). x.records) posts.2)
    post-lines name v mask (gone, core, inr refused) = servers-same w new (ap (λ (z : World). z.servers) refused.3)

    finish-lines : (name : List ℕ) → HappensFinish w i y name new → AllLines w new
    finish-lines name (inl f) =
        let r = f.finishes.0 in
        let made = f.finishes.1 in
        let side : ServerSide = record y { records = server.with_record name next_busy y.records } in
        let told : World = finish_told w i y name f.cr f.r f.p in
        let mid : World = replied_at f.p f.sent told in
        let finish : Server = with_finish name r.r y.core in
        let stays = replies-stay finish r.p r.gone f.sent made f.finishes.2 in
        let records : f.core.records ≡ withdrawn (λ (p : Put). r.gone p.circuit) finish.records =
        ap (λ (x : Server). x.records) f.finishes.3
        ∙ next-records name r.r.waiting r.gone made
        ∙ ap (λ (l : List Record). withdrawn (λ (p : Put). r.gone p.circuit) l) stays.1 in
        ended mid i y side (ends_by i f.core) f.core (ap (λ (z : World). z.servers) f.leaves) at
        (λ l z there other. elim (At-set w.servers i side l z (subst (λ (ss : List ServerSide). At ss l z) (told-servers f.p f.sent told) there)) [ inl here ↦ absurd (other here.0) | inr old ↦ old.0 ])
        finish.records r.gone (lines-finished (IsHeadPut w i) name y.core.stamp y.core.records y.records named) records
    finish-lines name (inr refused) = servers-same w new (ap (λ (z : World). z.servers) refused.2)

    remove-lines : (name : List ℕ) → HappensRemove w i y name new → AllLines w new
    remove-lines name (gone, left, core, inl (removes, is)) =
        let side : ServerSide = record y { records = filter (λ (r : RecordSide). not (bytes_eq r.name name)) y.records } in
        ended (removal_told w i y name gone left) i y side (ends_by i core) core (ap (λ (z : World). z.servers) is) at
        (λ l z there other. elim (At-set w.servers i side l z there) [ inl here ↦ absurd (other here.0) | inr old ↦ old.0 ])
        (removed name y.core.records) gone (lines-removed (IsHeadPut w i) name y.core.records y.records named) (ap (λ (x : Server). x.records) removes.2)
    remove-lines name (gone, left, core, inr (removes, is)) = servers-same w new (ap (λ (z : World). z.servers) is)

    add-lines : (r : RecordState) → HappensAdd w i y r new → AllLines w new
    add-lines r (core, behind, inl (adds, is)) =
        let next : ServerSide = record y { core = core; records = take behind y.records ++ record_begun y.added r ∷ drop behind y.records; added = y.added + 1 } in
        servers-set w new i y next at (ap (λ (z : World). z.servers) is)
        (subst (λ (x : Server). Lines (IsHeadPut w i) y.core.records x.records y.records next.records) (sym adds.1) (lines-added (IsHeadPut w i) y.added behind r y.core.records y.records long))
    add-lines r (core, behind, inr refused) = servers-same w new (ap (λ (z : World). z.servers) refused.3)

    restart-lines : server.HappensServerRestart w i y new → AllLines w new
    restart-lines is l z there = elim (At-set w.servers i (server_begun w.moment (length w.server_logs) y.setting) l z (subst (λ (ss : List ServerSide). At ss l z) (ap (λ (v : World). v.servers) is) there)) [
      | inl own ↦ inr (subst (λ (x : ServerSide). HasNone x) (sym own.1) begun)
      | inr old ↦ inl (z, old.0, lines-self (IsHeadPut w l) z.core.records z.records)
    ]
      where
        begun : HasNone (server_begun w.moment (length w.server_logs) y.setting)
        begun = record {
          busy = λ q b p. (let c = In-mapped new_record y.setting.records p.c (p.k, p.in_cs) in none-some b (ap (λ (x : Record). x.busy) (sym c.2) ∙ p.core));
          waits = λ q b p. (let c = In-mapped new_record y.setting.records p.c (p.k, p.in_cs) in none_at p.j p.x (subst (λ (x : Record). At x.waiting p.j p.x) c.2 p.core));
        }

    -- a core withdraws the puts of a circuit, or none
    cut-of : (h : Handle) (core : Server) → Cuts y.core h core
        → (gone : Handle → Bool) × (core.records ≡ withdrawn (λ (p : Put). gone p.circuit) y.core.records)
    cut-of h core (inl (end, has, is)) = (λ (g : Handle). same_handle g h, ap (λ (x : Server). x.records) is)
    cut-of h core (inr (none, is)) = (λ (g : Handle). false, ap (λ (x : Server). x.records) is ∙ sym (withdrawn-none (λ (p : Put). false) y.core.records (λ b. refl)))

    pump-of : (h : Handle) (us : List Update) (core : Server) → Pumps y.core h us core
        → (gone : Handle → Bool) × (core.records ≡ withdrawn (λ (p : Put). gone p.circuit) y.core.records)
    pump-of h us core (inl (end, has, (after, folds, inl (rests, is)))) = (λ (g : Handle). false, ap (λ (x : Server). x.records) is ∙ sym (withdrawn-none (λ (p : Put). false) y.core.records (λ b. refl)))
    pump-of h us core (inl (end, has, (after, folds, inr (more, is)))) = (λ (g : Handle). same_handle g h, ap (λ (x : Server). x.records) is)
    pump-of h us core (inr (none, nothing, is)) = (λ (g : Handle). false, ap (λ (x : Server). x.records) is ∙ sym (withdrawn-none (λ (p : Put). false) y.core.records (λ b. refl)))

    quiet-lines : (mid : World) (ends : Joined → Option (List ℕ)) (core : Server) → new.servers ≡ (server_after i y ends core mid).servers
        → mid.servers ≡ w.servers → (gone : Handle → Bool) × (core.records ≡ withdrawn (λ (p : Put). gone p.circuit) y.core.records) → AllLines w new
    quiet-lines mid ends core servers same (gone, is) =
        ended mid i y y ends core servers at (λ l z there other. subst (λ (ss : List ServerSide). At ss l z) same there) y.core.records gone (lines-self (IsHeadPut w i) y.core.records y.records) is

  -- ---- a step of a server's end

  module _ (k : ℕ) (j : Joined) (y : ServerSide) (on : At w.circuits k j) (at : At w.servers j.server y) (opened : j.lists.server_open ≡ true) where
    abbrev place_of : PutPlace
    place_of = record { circuit = k; place = length j.lists.handled }

    acted-side : (did : Action)
        → side_of j.server y (acted k j y did w) ≡ record y { records = records_after y.core j.at_server place_of did y.records }
    acted-side did = ap (λ (o : Option ServerSide). unwrap_or o y) (set-here w.servers j.server y (record y { records = records_after y.core j.at_server place_of did y.records }) at)

    acted-others : (did : Action) (i : ℕ) (z : ServerSide) → At (acted k j y did w).servers i z → (i ≡ j.server → ⊥) → At w.servers i z
    acted-others did i z there other = elim (At-set w.servers j.server _ i z there) [ inl own ↦ absurd (other own.0) | inr old ↦ old.0 ]

    -- the put that a message is
    head-put : (end : ServerEnd) (m : Fields) (q : Sent) (b : Put) → At j.lists.up (length j.lists.handled) q → q.message ≡ m
        → IsPut j.at_server end m b → IsHeadPut w j.server place_of b
    head-put end m q b sent same (c, found, is) = record {
      j = j;
      on = on;
      of = refl;
      opened = opened;
      handle = ap (λ (v : Put). v.circuit) is;
      s = q;
      sent = sent;
      data_type = ap (λ (v : Put). v.data_type) is ∙ ap (λ (v : Fields). v.data_type) (sym same);
      count = ap (λ (v : Put). v.count) is ∙ ap (λ (v : Fields). v.count) (sym same);
    }

    acted-lines : (end : ServerEnd) (m : Fields) (q : Sent) → At j.lists.up (length j.lists.handled) q → q.message ≡ m
        → (did : Action) (core : Server) → Records y.core j.at_server end m did core
        → Lines (IsHeadPut w j.server) y.core.records core.records y.records (records_after y.core j.at_server place_of did y.records)
    acted-lines end m q sent same (Applies name value true) core (b, put, is) =
        subst (λ (x : Server). Lines (IsHeadPut w j.server) y.core.records x.records y.records (server.with_record name (λ (r : RecordSide). record r { busy = Some place_of }) y.records)) (sym is)
        (lines-busied (IsHeadPut w j.server) name (λ (r : Record). record (with_value value (written_meta value y.core.stamp) r) { busy = Some b }) place_of b y.core.records y.records (named j.server y at) (λ c. refl) (λ c. refl) (head-put end m q b sent same put))
    acted-lines end m q sent same (Applies name value false) core is =
        subst (λ (x : Server). Lines (IsHeadPut w j.server) y.core.records x.records y.records y.records) (sym is) (stored-lines j.server y at name (with_value value (written_meta value y.core.stamp)) (λ c. refl) (λ c. refl))
    acted-lines end m q sent same (action.Waits name value) core (b, put, is) =
        subst (λ (x : Server). Lines (IsHeadPut w j.server) y.core.records x.records y.records (server.with_record name (λ (r : RecordSide). record r { waiting = r.waiting ++ place_of ∷ [] }) y.records)) (sym is)
        (lines-waiting (IsHeadPut w j.server) name (record { put = b; value = value }) place_of y.core.records y.records (named j.server y at) (long-waiting j.server y at) (head-put end m q b sent same put))
    acted-lines end m q sent same (action.Clears sid) core is =
        subst (λ (x : Server). Lines (IsHeadPut w j.server) y.core.records x.records y.records (records_after y.core j.at_server place_of (action.Clears sid) y.records)) (sym is) (lines-cleared (IsHeadPut w j.server) j.at_server sid y.core.records y.records)
    acted-lines end m q sent same action.Nothing core is = lines-are (IsHeadPut w j.server) y.core.records core.records y.records (ap (λ (x : Server). x.records) is)
    acted-lines end m q sent same action.Greets core is = lines-are (IsHeadPut w j.server) y.core.records core.records y.records (ap (λ (x : Server). x.records) is)
    acted-lines end m q sent same (action.Names x) core is = lines-are (IsHeadPut w j.server) y.core.records core.records y.records (ap (λ (v : Server). v.records) is)
    acted-lines end m q sent same (action.Opens x) core is = lines-are (IsHeadPut w j.server) y.core.records core.records y.records (ap (λ (v : Server). v.records) is)
    acted-lines end m q sent same (action.Adds x) core is = lines-are (IsHeadPut w j.server) y.core.records core.records y.records (ap (λ (v : Server). v.records) is)
    acted-lines end m q sent same (action.Drops x) core is = lines-are (IsHeadPut w j.server) y.core.records core.records y.records (ap (λ (v : Server). v.records) is)
    acted-lines end m q sent same (action.Switches x) core is = lines-are (IsHeadPut w j.server) y.core.records core.records y.records (ap (λ (v : Server). v.records) is)

    -- the puts after the next message
    next-lines : (end : ServerEnd) → stepped.HasEnd y.core j.at_server end → (next : Next y.core j.at_server end)
        → Lines (IsHeadPut w j.server) y.core.records next.after.records y.records (side_of j.server y (acted k j y next.action w)).records
    next-lines end has next =
        let made = next.handles in
        let sent = takes-next s w ready_w.serves k j y end next.m next.rest on at opened has next.takes in
        subst (λ (x : List Record × List RecordSide). Lines (IsHeadPut w j.server) y.core.records x.0 y.records x.1) (λ t. (ap (λ (z : Server). z.records) (sym made.leaves) t, ap (λ (z : ServerSide). z.records) (sym (acted-side next.action)) t))
        (acted-lines (record end { link = with_rest next.rest end.link }) next.m sent.0 sent.1 sent.2 next.action made.recorded made.records)

    noted-servers : (replies : List Fields) (before mid : World) → (noted k j y replies before mid).servers ≡ mid.servers
    noted-servers replies before mid = go (slice_get mid.circuits k)
      where
        go : (o : Option Joined)
            → (unwrap_or (option_map (λ (c : Joined). with_circuit k (server.handled_at (length j.lists.handled) (record { sent = length j.lists.down; logged = server.logged y before; after = server.logged y mid }) replies c) mid) o) mid).servers ≡ mid.servers
        go None = refl
        go (Some c) = refl

    step-lines : (did : Stepped) → ServerStepped w k j y did new → AllLines w new
    step-lines stepped.Handled f =
        let next = f.steps.0 in
        let mid : World = acted k j y next.action w in
        let after : World = server_after j.server (side_of j.server y mid) (ends_by j.server f.core) f.core mid in
        ended mid j.server y (side_of j.server y mid) (ends_by j.server f.core) f.core (ap (λ (v : World). v.servers) f.leaves ∙ noted-servers next.replies w after) at (acted-others next.action) next.after.records f.steps.1 (next-lines f.e f.has next)
        (reaches-ends next.action f.steps.1 next.after f.core f.steps.3).1
    step-lines stepped.NeedBytes f = servers-same w new (ap (λ (z : World). z.servers) f.3)
    step-lines stepped.OutputFull f = servers-same w new (ap (λ (z : World). z.servers) f.3)
    step-lines (stepped.Closed why.OutOfMemory left) f = go f.lacks.written f.lacks.left_is (ap (λ (v : World). v.servers) f.leaves)
      where
        records : f.core.records ≡ withdrawn (λ (p : Put). same_handle p.circuit j.at_server) f.lacks.mid.records
        records = ap (λ (x : Server). x.records) f.lacks.leaves

        go : (o : Option (Handle → Bool)) → LeftOf f.lacks.next o f.lacks.mid
            → new.servers ≡ (server_after j.server (side_of j.server y (unsaid k j y f.lacks.next.action o w)) (ends_here j left j.server f.core) f.core (unsaid k j y f.lacks.next.action o w)).servers
            → AllLines w new
        go None same servers =
            quiet-lines j.server y at w (ends_here j left j.server f.core) f.core
            (servers ∙ ap (λ (x : ServerSide). (server_after j.server x (ends_here j left j.server f.core) f.core w).servers) (ap (λ (o : Option ServerSide). unwrap_or o y) at)) refl
            (λ (g : Handle). same_handle g j.at_server, records ∙ ap (λ (x : Server). withdrawn (λ (p : Put). same_handle p.circuit j.at_server) x.records) same)
        go (Some gone) wrote servers =
            ended (acted k j y f.lacks.next.action w) j.server y (side_of j.server y (acted k j y f.lacks.next.action w)) (ends_here j left j.server f.core) f.core servers at (acted-others f.lacks.next.action) (f.lacks.next).after.records
            (λ (g : Handle). gone g || same_handle g j.at_server) (next-lines f.e f.has f.lacks.next)
            (records ∙ ap (λ (l : List Record). withdrawn (λ (p : Put). same_handle p.circuit j.at_server) l) (reaches-ends (f.lacks.next).action gone (f.lacks.next).after f.lacks.mid wrote.1).1
            ∙ withdrawn-twice (λ (p : Put). gone p.circuit) (λ (p : Put). same_handle p.circuit j.at_server) (f.lacks.next).after.records)
    step-lines (stepped.Closed cause left) f =
        quiet-lines j.server y at w (ends_here j left j.server y.core) (closed j.at_server y.core) (ap (λ (v : World). v.servers) f.3) refl (λ (g : Handle). same_handle g j.at_server, refl)

  -- ---- every event

  down-lines : (k n : ℕ) (j : Joined) (x : ClientSide) (y : ServerSide) → At w.servers j.server y → HappensDown w k n j x y new → AllLines w new
  down-lines k n j x y at (mid, sent, core, inl (opened, (by, sends, taken)), gives, is) =
      servers-core w new j.server y by at (ap (λ (z : World). z.servers) is ∙ ap (λ (z : World). z.servers) taken) (sends-stay y.core by j.at_server n sends).1
  down-lines k n j x y at (mid, sent, core, inr (shut, taken), gives, is) = servers-same w new (ap (λ (z : World). z.servers) is ∙ ap (λ (z : World). z.servers) taken)

  accept-lines : (c : ℕ) (x : ClientSide) (v : WantsFirst w x) → HappensAccept w c x v new → AllLines w new
  accept-lines c x v f = elim f.leaves [
    | inl full ↦ servers-same w new (ap (λ (z : World). z.servers) full.1)
    | inr made ↦
        let accepts = subst (λ (a : _). stepped.Accepts v.y.core a f.server) made.4 f.accepts in
        servers-core w new v.i v.y f.server v.there.0 (ap (λ (z : World). z.servers) made.6) (accepts-stay v.y.core f.server made.0 accepts).1
  ]

  leaves-lines : (x : Event) → (at : CanBe w x) → Leaves w x at new → AllLines w new
  leaves-lines (event.Open i name priority) at l = framed w new (open-frame w new i at.x name priority l)
  leaves-lines (event.Clear i c) at l = framed w new (clear-frame w new i at.x c at.h l)
  leaves-lines (event.Read i c data_type count) at l = framed w new (read-frame w new i at.x c at.h data_type count l)
  leaves-lines (event.Write i c v) at l = framed w new (write-frame w new i at.x c at.h v l)
  leaves-lines (event.WriteNotify i c v) at l = framed w new (put-frame w new i at.x c at.h v l)
  leaves-lines (event.Subscribe i c data_type count mask) at l = framed w new (subscribe-frame w new i at.x c at.h data_type count mask l)
  leaves-lines (event.Unsubscribe i n) at l = framed w new (unsubscribe-frame w new i at.x at.s l)
  leaves-lines (event.Collect i r) at l = framed w new (handing-frame w new at.x r at.q.1 (Collected r) l)
  leaves-lines (event.GiveUp i r) at l = framed w new (handing-frame w new at.x r at.q.1 (GaveUp r) l)
  leaves-lines (event.ClientDatagram i from bytes) at l = framed w new (datagram-frame w new i at.x from bytes l)
  leaves-lines (event.ServerDatagram i from bytes) at l = servers-same w new (ap (λ (z : World). z.servers) l.2)
  leaves-lines (event.Accept i) at l = accept-lines i at.x at.v l
  leaves-lines (event.Up k n) at l =
      let f = up-frame w k n at.0.j at.0.x at.0.joins.at in
      servers-core w new at.0.j.server at.0.y l.0 at.0.joins.server (ap (λ (z : World). z.servers) l.2 ∙ ap (λ (ss : List ServerSide). slice_set ss at.0.j.server (record at.0.y { core = l.0 })) f.servers) (gives-stay at.0.y.core l.0 at.0.j.at_server _ l.1).1
  leaves-lines (event.Down k n) at l = down-lines k n at.0.j at.0.x at.0.y at.0.joins.server l
  leaves-lines (event.ServerStep k) at l = step-lines k at.j at.y at.joins.at at.joins.server at.is_open l.0 l.1
  leaves-lines (event.ClientStep k) at l = framed w new (hear-frame w new k at.j at.x at.joins.at l)
  leaves-lines (event.Pump k) at l =
      quiet-lines at.j.server at.y at.joins.server (with_circuit k (server.stamped l.updates at.j) w) (ends_by at.j.server l.core) l.core (ap (λ (z : World). z.servers) l.leaves) refl (pump-of at.j.server at.y at.joins.server at.j.at_server l.updates l.core l.pumps)
  leaves-lines (event.CutClient k) at l = framed w new (cut-frame w new k at.j at.x at.joins.at l)
  leaves-lines (event.CutServer k) at l =
      quiet-lines at.j.server at.y at.joins.server w (ends_by at.j.server l.core) l.core (ap (λ (z : World). z.servers) l.leaves) refl (cut-of at.j.server at.y at.joins.server at.j.at_server l.core l.cuts)
  leaves-lines (event.ClientRestart i) at l = framed w new (begun-frame w new i at.x l)
  leaves-lines (event.ServerRestart i) at l = restart-lines i at.y at.at l
  leaves-lines (event.Post i name v mask) at l = post-lines i at.y at.at name v mask l
  leaves-lines (event.Finish i name) at l = finish-lines i at.y at.at name l
  leaves-lines (event.Remove i name) at l = remove-lines i at.y at.at name l
  leaves-lines (event.Add i r) at l = add-lines i at.y at.at r l
  leaves-lines (event.Tick moment) at (mid, ticks, is) = servers-same w new (ap (λ (z : World). z.servers) is ∙ (ticks-frame moment w (clients_below (length w.clients)) mid ticks).servers)

-- ---- headers

-- the message at the place has this type and count
abbrev pub HasHead : List Joined → PutPlace → Put → Type 0
HasHead cs q b = (c : Joined) (s : Sent) → At cs q.circuit c → At c.lists.up q.place s → (b.data_type ≡ s.message.data_type) × (b.count ≡ s.message.count)

abbrev pub AllHeads : World → Type 0
AllHeads w = (i : ℕ) (y : ServerSide) (q : PutPlace) (b : Put) → At w.servers i y → IsBusyAt y.core.records y.records q b ⊎ IsWaitingAt y.core.records y.records q b → HasHead w.circuits q b

module _ (s : Setting) (w new : World) (e : Event) (ready_w : Ready s w) (ready_new : Ready s new) (happens : Happens w e new) (all : AllHeads w)
  where
    -- what was sent stays
    up-stays : (n p : ℕ) (c d : Joined) (x : Sent) → At w.circuits n c → At new.circuits n d → At c.lists.up p x → At d.lists.up p x
    up-stays n p c d x on at there =
        let o = (event-on w new e happens).circuits n c on in
        subst (λ (v : Joined). At v.lists.up p x) (At-one new.circuits n o.0 d o.1 at) (o.2.up p x there)

    kept-head : (q : PutPlace) (b : Put) (c : Joined) (x : Sent) → At w.circuits q.circuit c → At c.lists.up q.place x
        → (b.data_type ≡ x.message.data_type) × (b.count ≡ x.message.count) → HasHead new.circuits q b
    kept-head q b c x on sent is d v at there =
        let one : x ≡ v = At-one d.lists.up q.place x v (up-stays q.circuit q.place c d x on at sent) there in
        (is.0 ∙ ap (λ (z : Sent). z.message.data_type) one, is.1 ∙ ap (λ (z : Sent). z.message.count) one)

    was-head : (i : ℕ) (y : ServerSide) (q : PutPlace) (b : Put) → At w.servers i y
        → IsBusyAt y.core.records y.records q b ⊎ IsWaitingAt y.core.records y.records q b → HasHead new.circuits q b
    was-head i y q b at p = (let u = put-of p in kept-head q b u.c u.s u.on u.sent (all i y q b at p u.c u.s u.on u.sent))
      where
        own : Lives w i y
        own = ready_w.serves.stands.sound.writes.lives i y at

        put-of : IsBusyAt y.core.records y.records q b ⊎ IsWaitingAt y.core.records y.records q b → IsPutOf w.circuits i q b
        put-of (inl p) =
            let g = both-at (Agrees (IsPutOf w.circuits i) own.log) y.core.records y.records p.k p.c p.r own.life.each p.in_cs p.in_rs in
            subst (λ (v : Option PutPlace × Option Put). IsBusyAs (IsPutOf w.circuits i) v.0 v.1) (λ n. (p.side n, p.core n)) g.busy_as
        put-of (inr p) =
            let g = both-at (Agrees (IsPutOf w.circuits i) own.log) y.core.records y.records p.k p.c p.r own.life.each p.in_cs p.in_rs in
            subst (λ (v : Put). IsPutOf w.circuits i q v) p.is (both-at (WaitsAs (IsPutOf w.circuits i) own.log p.r.number) p.r.waiting p.c.waiting p.j q p.x g.each p.side p.core).1

    event-heads : AllHeads new
    event-heads i z q b at p = elim (leaves-lines s w new e ready_w ready_new happens e happens.0 happens.1 i z at) [
      | inr none ↦ absurd (elim p [ inl x ↦ none.busy q b x | inr x ↦ none.waits q b x ])
      | inl lines ↦ go lines.0 lines.1 lines.2 p
    ]
      where
        go : (y : ServerSide) → At w.servers i y → LinesFrom w i y z → IsBusyAt z.core.records z.records q b ⊎ IsWaitingAt z.core.records z.records q b
            → HasHead new.circuits q b
        go y at_y lines (inl x) = elim (lines.busy q b x) [
          | inl old ↦ was-head i y q b at_y (inl old)
          | inr (inl old) ↦ was-head i y q b at_y (inr old)
          | inr (inr own) ↦ kept-head q b own.j own.s own.on own.sent (own.data_type, own.count)
        ]
        go y at_y lines (inr x) = elim (lines.waits q b x) [
          | inl old ↦ was-head i y q b at_y (inr old)
          | inr own ↦ kept-head q b own.j own.s own.on own.sent (own.data_type, own.count)
        ]

events-heads : (s : Setting) (ok : IsSetting s) (done es : List Event) (w new : World) → FoldsTo Happens (opening s) done w → FoldsTo Happens w es new
    → AllHeads w → AllHeads new
events-heads s ok done [] w new before same all = subst (λ (z : World). AllHeads z) same all
events-heads s ok done (e ∷ es) w new before (mid, one, rest) all =
    let until : FoldsTo Happens (opening s) (done ++ e ∷ []) mid = folds-snoc done (opening s) w mid e before one in
    events-heads s ok (done ++ e ∷ []) es mid new until rest
    (event-heads s w mid e (ready s done None w ok (w, before, refl)) (ready s (done ++ e ∷ []) None mid ok (mid, until, refl)) one all)

-- so the reply of a put that is finished is the one that was due for its message
pub run-says : (s : Setting) (es : List Event) (w : World) → IsSetting s → FoldsTo Happens (opening s) es w → AnswersAt IsDone w
run-says s es w ok folds i y q b at pair put =
    let head = events-heads s ok [] es (opening s) w refl folds (λ n z p d there none. λ c x on. absurd (none_at p.circuit c on)) i y q b at (inl beside) put.c put.s put.on put.sent in
    λ n. record { command = sym put.asks n; data_type = head.0 n; count = head.1 n; p1 = normal; p2 = put.ioid n; payload = [] }
  where
    own : Lives w i y
    own = (ready s es None w ok (w, folds, refl)).serves.stands.sound.writes.lives i y at

    beside : IsBusyAt y.core.records y.records q b
    beside =
        let r = beside-left (Agrees (IsPutOf w.circuits i) own.log) y.core.records y.records pair.in_cs.0 pair.c own.life.each pair.in_cs.1 in
        elim (others-apart y.records pair.in_cs.0 pair.in_rs.0 r.0 pair.r own.life.others r.1 pair.in_rs.1) [
          | inl same ↦ record { k = pair.in_rs.0; c = pair.c; r = pair.r; in_cs = subst (λ (k : ℕ). At y.core.records k pair.c) same pair.in_cs.1; in_rs = pair.in_rs.1; core = pair.core; side = pair.side }
          | inr other ↦ absurd (other.0 (sym pair.name ∙ r.2.name))
        ]
