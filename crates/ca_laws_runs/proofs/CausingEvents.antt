-- What each kind of event makes new on circuits has its causes.
use Rattle.std.proofs.Common.{◌≡◌, ℕ, zero, suc, ◌+◌, ◌<◌, ◌≤◌, inl, inr, Bool, true, false, ◌&&◌, eqb-true, not, List, [], ◌∷◌, ◌++◌, length, Option, Some, refl, sym, ap, subst, ◌∙◌, arith}
use Rattle.std.specs.Prelude.{filter, map, take}
use Rattle.std.specs.Str.{bytes_eq}
use Rattle.std.proofs.lemmas.Slice.Eq.{bytes_eq-Decides}
use Rattle.ca_arena.specs.declared.handle.Handle.{Handle}
use Rattle.ca_ids.specs.Table.{held, under}
use Rattle.ca_ids.specs.Wire.{wire_of}
use Rattle.ca_text.specs.Place.{At}
use Rattle.ca_text.proofs.Places.{some_is, At-after, At-append, At-map, At-mapped, At-one, At-within}
use Rattle.ca_wire.specs.Fields.{Fields}
use Rattle.ca_model.specs.History.{Cause, Circuit, Entry, Removal, Removed, Reply, Sent, Step, Told, Update}
use Rattle.ca_model.specs.Server.{Open, OpenChannel, Server, ServerCircuit, ServerEnd}
use Rattle.ca_model.specs.ServerCalls.{channels_of, finish_reply}
use Rattle.ca_model.specs.ServerSteps.{HasEnd, Pumps}
use Rattle.ca_model.specs.Speech.{Creates, In, name_in}
use Rattle.ca_model.specs.Channels.{Created, Has, IsCleared}
use Rattle.ca_model.specs.Causes.{HasCause}
use Rattle.ca_model.specs.ServerEvents.{HappensPump, about, disconnected_at, ends_at, ends_by, noted, removal_entries, removal_told, server_after, withdrawals}
use Rattle.ca_model.specs.ServerEvents as server
use Rattle.ca_model.specs.World.{Creation, Joined, RecordSide, ServerSide, Setting, Standing, World, circuit_of}
use Rattle.ca_laws_parts.specs.Channels.{ChannelsOn, has_sid}
use Rattle.ca_laws_parts.specs.Later.{IsLater, stamped_told}
use Rattle.ca_laws_parts.proofs.Thins.{put-facts}
use Rattle.ca_laws_parts.proofs.Updates.{stamps-later}
use Rattle.ca_laws_runs.specs.Causes.{AllComeAfter}
use Rattle.ca_laws_runs.specs.Created.{AllCreated}
use Rattle.ca_laws_runs.specs.Creations.{AllCreations, CreationsOn}
use Rattle.ca_laws_runs.specs.OrderSteps.{ServerStepsAre}
use Rattle.ca_laws_runs.specs.Worlds.{ServersStand}
use Rattle.ca_laws_runs.proofs.CauseGrows as places
use Rattle.ca_laws_runs.proofs.CauseGrows.{disconnect-is}
use Rattle.ca_laws_parts.specs.Moves as moves
use Rattle.ca_laws_parts.specs.Seats.{HasSeat}
use Rattle.ca_laws_parts.proofs.WritesEvents.{find-at}
use Rattle.ca_laws_parts.proofs.WritesLists.{In-kept}
use Rattle.ca_laws_parts.proofs.Midway.{grown-here}
use Rattle.ca_model.proofs.Tables.{held-under}
use Rattle.ca_laws_runs.specs.Causing.{AllSources, IsTaken, SourcesOn}
use Rattle.ca_laws_runs.specs.Entries.{title}
use Rattle.ca_laws_runs.specs.Known.{IsOrigin, KnownOn}
use Rattle.ca_laws_runs.proofs.Acting.{IsLonger, grown-back}
use Rattle.ca_laws_runs.proofs.CausingFrame.{Back, FinishNews, News, Onward, PumpNews, RemoveNews, Says, Takes}
use Rattle.ca_laws_runs.proofs.CausingKeeps.{IsCausedBy, Steady, created-forth, sources-on}
use Rattle.ca_laws_runs.proofs.Known.{removed-in}
use Rattle.ca_laws_runs.proofs.PostFollowing.{titled}
use Rattle.ca_laws_runs.proofs.FollowsWhole.{FollowStand, LogsGrow, logs-there}

-- What holds of each world on the way.
pub record Ready (s : Setting) (w : World) : Type 0 where
  pub serves : ServersStand s w
  pub stand : FollowStand w
  pub creations : AllCreations w
  pub created : AllCreated w
  pub after : AllComeAfter w
  pub steps : ServerStepsAre w

pub steady-of : (s : Setting) (w : World) → Ready s w → (n : ℕ) (c : Joined) (log : List Entry) → At w.circuits n c → At w.server_logs c.lists.server log → Steady log c.lists
steady-of s w ready n c log at logged =
    let st = ready.steps n (circuit_of c) (At-map circuit_of w.circuits n c at) in
    let same : st.1 ≡ log = At-one w.server_logs c.lists.server st.1 log st.2.2 logged in
    let order = st.3 in
    record {
      few = order.one_each;
      within = λ m h there.
          let x = order.within m h there in
          let le : h.logged ≤ h.after = x.1 in
          let lt : h.after ≤ length st.1 = x.2 in
          let is : length st.1 ≡ length log = ap (λ (l : List Entry). length l) same in
          record { sent = x.0; logged = omega (arith, le, lt, is) };
      below = λ j t there. (let x = ready.after n c at j t there in At-within c.lists.handled t.place x.0 x.1);
    }

-- one event, by what it makes new
pub back-sources : (F : ℕ → News → Type 0) (s : Setting) (w new : World) → Ready s w → LogsGrow w new → Back F w new
    → ((l : ℕ) (c d : Joined) (log lg : List Entry) → At w.circuits l c → At new.circuits l d → At w.server_logs c.lists.server log → At new.server_logs c.lists.server lg → IsLonger log lg → Onward F l c d → IsCausedBy F l log lg c.lists d.lists)
    → AllSources w → AllSources new
back-sources F s w new ready grow back causes all n d lg at logged =
    let c = back n d at in
    let log = logs-there s w ready.serves.stands.sound n c.0 c.1 in
    let more = grow c.0.lists.server log.0 log.1 in
    let here : At new.server_logs c.0.lists.server lg = subst (λ (l : ℕ). At new.server_logs l lg) c.2.life logged in
    let is : lg ≡ log.0 ++ more.0 = At-one new.server_logs c.0.lists.server lg (log.0 ++ more.0) here more.1 in
    sources-on F n log.0 lg c.0 d (steady-of s w ready n c.0 log.0 c.1 log.1) (more.0, is) c.2 (causes n c.0 d log.0 lg c.1 at log.1 here (more.0, is) c.2) (all n c.0 log.0 c.1 log.1)

-- ---- nothing is new

abbrev pub Nothing-new : ℕ → News → Type 0
Nothing-new l x = ⊥

pub still-causes : (l : ℕ) (log lg : List Entry) (c d : Circuit) → IsCausedBy Nothing-new l log lg c d
still-causes l log lg c d = record {
  takes = λ m h new. absurd new;
  replies = λ j k t s new at reply lt here sent asks. new;
  made = λ j sid t new at reply creates. absurd new;
  updates = λ j a t new at cause. absurd new;
  removals = λ j t new at from cause. absurd new;
  stands = λ p new. absurd new;
}

-- ---- causes differ

reply-removal : let a : Cause = Reply in let b : Cause = Removal in a ≡ b → ⊥
reply-removal e = cc

reply-update : (n : ℕ) → let a : Cause = Reply in let b : Cause = Update n in a ≡ b → ⊥
reply-update n e = cc

removal-update : (n : ℕ) → let a : Cause = Removal in let b : Cause = Update n in a ≡ b → ⊥
removal-update n e = cc

replied : (place : ℕ) (ms : List Fields) (t : Told) → In (about place Reply ms) t → (r : Fields) × In ms r × (t.message ≡ r) × (t.place ≡ place) × (t.cause ≡ Reply)
replied place ms t (i, at) =
    let x = At-mapped (λ (q : Fields). let z : Told = record { message = q; place = place; cause = Reply } in z) ms i t at in
    (x.0, (i, x.1), ap (λ (z : Told). z.message) x.2, ap (λ (z : Told). z.place) x.2, ap (λ (z : Told). z.cause) x.2)

differ : (a b : ℕ) (n : ℕ) → n ≡ a → n ≡ b → (a ≡ b → ⊥) → ⊥
differ a b n is other apart = apart (sym is ∙ other)

-- ---- a finish

pub finish-causes : (s : Setting) (w : World) (i : ℕ) (y : ServerSide) (name : List ℕ) (new : World) (f : server.Finished w i y name new) → Ready s w → At w.servers i y → (l : ℕ) (c d : Joined) (log lg : List Entry) → At w.circuits l c
    → IsCausedBy (FinishNews f.p.circuit f.p.place (map (λ (x : Handle × Fields). x.1) f.sent)) l log lg c.lists d.lists
finish-causes s w i y name new f ready at l c d log lg on = record {
  takes = λ m h none. absurd none;
  replies = λ j k t q told at_t reply lt here sent asks.
      let r = replied f.p.place ms t told.1 in
      let facts = put-facts s w i y f.p ready.serves.stands.sound at (f.r, (f.at.0, f.at.1), inl f.busy) in
      let circuit : facts.c ≡ c = At-one w.circuits l facts.c c (subst (λ (n : ℕ). At w.circuits n facts.c) (sym told.0) facts.on) on in
      let same : facts.s ≡ q = At-one c.lists.up k facts.s q (subst (λ (v : ℕ × Joined). At v.1.lists.up v.0 facts.s) (λ i. ((sym r.3 ∙ here) i, circuit i)) facts.sent) sent in
      differ 19 1 q.message.command (ap (λ (z : Sent). z.message.command) (sym same) ∙ facts.asks) asks (λ e. absurd (omega (arith, e)));
  made = λ j sid t told at_t reply creates.
      let r = replied f.p.place ms t told.1 in
      absurd (differ 19 18 t.message.command (ap (λ (z : Fields). z.command) r.2 ∙ finished r.0 r.1) creates.0 (λ e. absurd (omega (arith, e))));
  updates = λ j a t told at_t cause. (let r = replied f.p.place ms t told.1 in absurd (reply-update a (sym r.4 ∙ cause)));
  removals = λ j t told at_t from cause. (let r = replied f.p.place ms t told.1 in absurd (reply-removal (sym r.4 ∙ cause)));
  stands = λ p none. absurd none;
}
  where
    ms : List Fields
    ms = map (λ (x : Handle × Fields). x.1) f.sent

    only : (r : Fields) (i : ℕ) → At (finish_reply f.finishes.0.p ∷ []) i r → r.command ≡ 19
    only r zero at_r = ap (λ (x : Fields). x.command) (sym (some_is (finish_reply f.finishes.0.p) r at_r))
    only r (suc i) at_r = absurd (none-at i r at_r)
      where
        none-at : (i : ℕ) (r : Fields) → (let none : List Fields = [] in At none i r) → ⊥
        none-at i r at = cc

    finished : (r : Fields) → In ms r → r.command ≡ 19
    finished r there = elim f.finishes.2 [
      | inl said ↦ only r there.0 (subst (λ (l : List Fields). At l there.0 r) (ap (λ (l : List (Handle × Fields)). map (λ (x : Handle × Fields). x.1) l) said.2) there.1)
      | inr silent ↦ absurd (none there.0 (subst (λ (l : List Fields). At l there.0 r) (ap (λ (l : List (Handle × Fields)). map (λ (x : Handle × Fields). x.1) l) silent.1) there.1))
    ]
      where
        none : (i : ℕ) → (let l : List Fields = [] in At l i r) → ⊥
        none i at = cc

-- ---- a pump

pub pump-causes : (s : Setting) (w new : World) (k : ℕ) (j : Joined) (y : ServerSide) (f : HappensPump w k j y new) → Ready s w → AllSources w → At w.circuits k j → At w.servers j.server y → j.lists.server_open ≡ true → places.Back ⊥ w new → (l : ℕ) (c d : Joined) (log lg : List Entry)
    → At w.circuits l c → At new.circuits l d → At w.server_logs c.lists.server log → IsCausedBy (PumpNews k (stamped_told f.updates j)) l log lg c.lists d.lists
pump-causes s w new k j y f ready all on at opened back l c d log lg at_c at_d logged = record {
  takes = λ m h none. absurd none;
  replies = λ i p t q told at_t reply lt here sent asks. (later t told.1).other reply;
  made = λ i sid t told at_t reply creates. absurd ((later t told.1).other reply);
  updates = λ i a t told at_t cause.
      let keeps = (later t told.1).keeps in
      let st = At-mapped (λ (z : Standing). z.place) j.standing keeps.0 t.place keeps.1 in
      let same : j ≡ c = At-one w.circuits l j c (subst (λ (n : ℕ). At w.circuits n j) (sym told.0) on) at_c in
      subst (λ (p : ℕ). IsTaken log c.lists p) (sym st.2) ((all l c log at_c logged).stands st.0 (subst (λ (z : Joined). In z.standing st.0) same (keeps.0, st.1)));
  removals = λ i t told at_t from cause.
      let b = back l d at_d in
      let same : b.0 ≡ c = At-one w.circuits l b.0 c b.1 at_c in
      elim (b.2.told i t at_t) [
        | inl old ↦ absurd (let lt : i < length c.lists.down = At-within c.lists.down i t (subst (λ (z : Joined). At z.lists.down i t) same old) in omega (arith, lt, from))
        | inr more ↦ elim more.2 [ inl none ↦ absurd none | inr other ↦ absurd (other.0 cause) ]
      ];
  stands = λ p none. absurd none;
}
  where
    ks : List ℕ
    ks = map (λ (z : Standing). z.place) j.standing

    later : (t : Told) → In (stamped_told f.updates j) t → IsLater ks j.lists t
    later t there = go f.pumps
      where
        go : Pumps y.core j.at_server f.updates f.core → IsLater ks j.lists t
        go (inl (e, has, (after, folds, rest))) =
            stamps-later ks j f.updates e after j folds (ready.serves.in_step k j y e on at opened has).queues (ready.serves.numbers k j on opened) (ready.serves.messages k j on opened)
            (λ st stands. (stands.0, At-map (λ (z : Standing). z.place) j.standing stands.0 st stands.1)) t there
        go (inr (none, nothing, is)) = absurd (empty there.0 (subst (λ (us : List _). At (stamped_told us j) there.0 t) nothing there.1))
          where
            empty : (i : ℕ) → (let l : List Told = [] in At l i t) → ⊥
            empty i at = cc

-- ---- a removal

and-both : (a b : Bool) → a && b ≡ true → (a ≡ true) × (b ≡ true)
and-both true b e = (refl, e)
and-both false b e = absurd cc

not-true : (b : Bool) → not b ≡ true → b ≡ false
not-true true e = absurd cc
not-true false e = refl

module _ (name : List ℕ) (gone : Handle → Bool) (left : Handle → ℕ) (log lg : List Entry) (rs : List RecordSide) (e : ServerEnd) (c d : Joined) (steady : Steady log c.lists) (longer : IsLonger log lg) (channels : ChannelsOn e c) (creations : CreationsOn c) (known : KnownOn log rs e c)
    (p : SourcesOn log c) (logs : (more : List Entry) × (lg ≡ (log ++ removal_entries name rs) ++ more)) where
  removed-cause : (F : ℕ → News → Type 0) (l : ℕ) → Onward F l c d → ((m : ℕ) (h : Step) → F l (Takes m h) → ⊥) → (i : ℕ) (q : Handle × OpenChannel) → At (disconnected_at name gone left c.at_server (Some (Open e))) i q
      → (t : Told) → t ≡ removal_told c.creations q → HasCause d.lists lg t Removal
  removed-cause F l on none i q at t is = (
    u.0,
    x.1.sid,
    m.0,
    length log + removed.0,
    m.1.1,
    subst (λ (k : ℕ). Created d.lists lg u.0 k x.1.sid m.0) (u.3 ∙ sym place) (created-forth c.lists d.lists log lg u.0 u.1.place x.1.sid m.0 on.lists longer (λ k h there. (steady.within k h there).logged) m.1),
    at-removed,
    uncleared,
    subst (λ (k : ℕ). At d.lists.up k m.1.1) (u.3 ∙ sym place) (on.lists.up u.1.place m.1.1 m.1.7),
    (ap (λ (z : Told). z.message.command) is, ap (λ (z : Told). z.message.p1) is ∙ sym cid),
  )
    where
      x : At (channels_of name e) i q × (x : Creation) × In c.creations x × (x.sid ≡ wire_of q.0) × ((removal_told c.creations q).place ≡ x.place)
      x = disconnect-is name gone left e c channels i q at

      open_of : In (held e.channels) q × (bytes_eq q.1.name name && not q.1.retired ≡ true)
      open_of = In-kept (λ (z : Handle × OpenChannel). bytes_eq z.1.name name && not z.1.retired) (held e.channels) q (i, x.0)

      there : under e.channels q.0 ≡ Some q.1
      there = held-under e.channels open_of.0.0 q open_of.0.1

      parts : (bytes_eq q.1.name name ≡ true) × (not q.1.retired ≡ true)
      parts = and-both (bytes_eq q.1.name name) (not q.1.retired) open_of.1

      place : t.place ≡ x.1.place
      place = ap (λ (z : Told). z.place) is ∙ x.4

      u : (i : ℕ) × (u : Told) × At c.lists.down i u × (u.place ≡ x.1.place) × (u.cause ≡ Reply) × Creates u.message x.1.sid
      u = creations.told x.1 x.2

      m : (r : ℕ) × Created c.lists log u.0 u.1.place x.1.sid r
      m = p.made u.0 x.1.sid u.1 u.2 u.4 u.5

      o : IsOrigin log rs c (wire_of q.0) q.1
      o = known.origins q.0 q.1 there

      one : x.1 ≡ o.x
      one = creations.one x.1 o.x x.2 o.noted (x.3 ∙ sym o.under_sid)

      same_s : m.1.1 ≡ o.s
      same_s = At-one c.lists.up o.x.place m.1.1 o.s (subst (λ (k : ℕ). At c.lists.up k m.1.1) (u.3 ∙ ap (λ (z : Creation). z.place) one) m.1.7) o.sent

      same_h : m.1.2 ≡ o.h
      same_h = At-one c.lists.handled o.x.place m.1.2 o.h (subst (λ (k : ℕ). At c.lists.handled k m.1.2) (u.3 ∙ ap (λ (z : Creation). z.place) one) m.1.8) o.handled

      has : Has (take o.h.logged log) m.0 q.1.name
      has =
          subst (λ (n : List ℕ). Has (take o.h.logged log) m.0 n) (ap (λ (z : Sent). name_in z.message) same_s ∙ sym o.name)
          (subst (λ (z : Step). Has (take z.logged log) m.0 (name_in (m.1.1).message)) same_h m.1.9)

      z : (r : RecordSide) × In rs r × ((let v : List ℕ × ℕ = (q.1.name, m.0) in v) ≡ title r)
      z = titled rs (q.1.name, m.0) (o.still (not-true q.1.retired parts.1) m.0 has)

      removed : In (removal_entries name rs) (Removed m.0)
      removed = subst (λ (n : ℕ). In (removal_entries name rs) (Removed n)) (ap (λ (v : List ℕ × ℕ). v.1) (sym z.2)) (removed-in name rs z.0 z.1 (ap (λ (v : List ℕ × ℕ). v.0) (sym z.2) ∙ (bytes_eq-Decides q.1.name name).0 parts.0))

      at-removed : At lg (length log + removed.0) (Removed m.0)
      at-removed =
          subst (λ (l : List Entry). At l (length log + removed.0) (Removed m.0)) (sym logs.1)
          (At-append (log ++ removal_entries name rs) logs.0 (length log + removed.0) (Removed m.0) (At-after log (removal_entries name rs) removed.0 (Removed m.0) removed.1))

      cid : (m.1.1).message.p1 ≡ q.1.cid
      cid =
          let opens = channels.opens q.0 q.1 there in
          let f = find-at (has_sid (wire_of q.0)) c.creations opens.0 opens.1 in
          let same : x.1 ≡ opens.0 = creations.one x.1 opens.0 x.2 (f.0, f.1) (x.3 ∙ sym (eqb-true opens.0.sid (wire_of q.0) f.2)) in
          ap (λ (w : Sent). w.message.p1) (At-one c.lists.up opens.0.place m.1.1 opens.2.0 (subst (λ (k : ℕ). At c.lists.up k m.1.1) (u.3 ∙ ap (λ (w : Creation). w.place) same) m.1.7) opens.2.1) ∙ opens.2.2

      uncleared : IsCleared d.lists t.place x.1.sid (length log + removed.0) → ⊥
      uncleared (l2, s2, h2, lt, at_s, at_h, le, clears) = elim (on.handled l2 h2 at_h) [
        | inr new ↦ none l2 h2 new
        | inl old ↦
            let early : l2 < length c.lists.handled = At-within c.lists.handled l2 h2 old in
            let few : length c.lists.handled ≤ length c.lists.up = steady.few in
            creations.uncleared x.1 l2 s2 x.2 (omega (arith, lt, place)) early (grown-back c.lists.up d.lists.up on.lists.up l2 s2 (omega (arith, early, few)) at_s) clears
      ]

pub remove-causes : (s : Setting) (w : World) (i : ℕ) (y : ServerSide) (name : List ℕ) (gone : Handle → Bool) (left : Handle → ℕ) (core : Server) → Ready s w → AllSources w → At w.servers i y
    → (let new : World = server_after i (record y { records = filter (λ (r : RecordSide). not (bytes_eq r.name name)) y.records }) (ends_by i core) core (moves.removal_told w i y name gone left) in
    (l : ℕ) (c d : Joined) (log lg : List Entry) → At w.circuits l c → At new.circuits l d → At w.server_logs c.lists.server log → At new.server_logs c.lists.server lg → IsLonger log lg → Onward (RemoveNews w i y.core name gone left) l c d
    → IsCausedBy (RemoveNews w i y.core name gone left) l log lg c.lists d.lists)
remove-causes s w i y name gone left core ready all at l c d log lg at_c at_d logged logged_new longer on = record {
  takes = λ m h none. absurd none;
  replies = λ j k t q told at_t reply lt here sent asks. (let r = told-by t told in reply-removal (sym reply ∙ r.1));
  made = λ j sid t told at_t reply creates. (let r = told-by t told in absurd (reply-removal (sym reply ∙ r.1)));
  updates = λ j a t told at_t cause. (let r = told-by t told in absurd (removal-update a (sym r.1 ∙ cause)));
  removals = λ j t told at_t from cause. caused t told;
  stands = λ p none. absurd none;
}
  where
    told-by : (t : Told) → RemoveNews w i y.core name gone left l (Says t) → Unit {0} × (t.cause ≡ Removal)
    told-by t told = (let x = At-mapped (removal_told (told.0).creations) (disconnected_at name gone left (told.0).at_server (under y.core.circuits (told.0).at_server)) told.4.0 t told.4.1 in (tt, ap (λ (z : Told). z.cause) x.2))

    caused : (t : Told) → RemoveNews w i y.core name gone left l (Says t) → HasCause d.lists lg t Removal
    caused t (b, at_b, mine_b, opened_b, there_b) =
        removed-cause name gone left log lg y.records seat.e c d (steady-of s w ready l c log at_c logged) longer
        (ready.serves.channels l c seat.y seat.e at_c seat.at opened seat.has) (ready.creations l c seat.y seat.e at_c seat.at opened seat.has)
        (ready.stand.known l c y seat.e log at_c (subst (λ (n : ℕ). At w.servers n y) (sym mine) at) opened had (subst (λ (n : ℕ). At w.server_logs n log) joins logged)).1
        (all l c log at_c logged) logs (RemoveNews w i y.core name gone left) l on (λ m h none. none) there.0 x.0
        (subst (λ (o : Option ServerCircuit). At (disconnected_at name gone left c.at_server o) there.0 x.0) had x.1) t x.2
      where
        same_c : b ≡ c
        same_c = At-one w.circuits l b c at_b at_c

        mine : c.server ≡ i
        mine = subst (λ (z : Joined). z.server ≡ i) same_c mine_b

        opened : c.lists.server_open ≡ true
        opened = subst (λ (z : Joined). z.lists.server_open ≡ true) same_c opened_b

        there : In (map (removal_told c.creations) (disconnected_at name gone left c.at_server (under y.core.circuits c.at_server))) t
        there = subst (λ (z : Joined). In (map (removal_told z.creations) (disconnected_at name gone left z.at_server (under y.core.circuits z.at_server))) t) same_c there_b

        x : (q : Handle × OpenChannel) × At (disconnected_at name gone left c.at_server (under y.core.circuits c.at_server)) there.0 q × (t ≡ removal_told c.creations q)
        x = At-mapped (removal_told c.creations) (disconnected_at name gone left c.at_server (under y.core.circuits c.at_server)) there.0 t there.1

        seat : HasSeat w c
        seat = ready.serves.stands.sound.seated.each l c at_c opened

        same_y : seat.y ≡ y
        same_y = At-one w.servers i seat.y y (subst (λ (n : ℕ). At w.servers n seat.y) mine seat.at) at

        had : HasEnd y.core c.at_server seat.e
        had = subst (λ (z : ServerSide). HasEnd z.core c.at_server seat.e) same_y seat.has

        joins : c.lists.server ≡ y.life
        joins = seat.joins ∙ ap (λ (z : ServerSide). z.life) same_y

        mid : World
        mid = moves.removal_told w i y name gone left

        cut : List Entry
        cut = withdrawals (ends_at (ends_by i core) mid.circuits) (filter (λ (r : RecordSide). not (bytes_eq r.name name)) y.records)

        logs : (more : List Entry) × (lg ≡ (log ++ removal_entries name y.records) ++ more)
        logs =
            let before : At mid.server_logs y.life (log ++ removal_entries name y.records) = grown-here w.server_logs y.life log (removal_entries name y.records) (subst (λ (n : ℕ). At w.server_logs n log) joins logged) in
            let new_logs : List (List Entry) = (server_after i (record y { records = filter (λ (r : RecordSide). not (bytes_eq r.name name)) y.records }) (ends_by i core) core mid).server_logs in
            (cut, At-one new_logs y.life lg ((log ++ removal_entries name y.records) ++ cut) (subst (λ (n : ℕ). At new_logs n lg) joins logged_new) (grown-here mid.server_logs y.life (log ++ removal_entries name y.records) cut before))
