-- Over every event, puts were there before, beside their places, or came by the event.
use Rattle.std.proofs.Common.{◌≡◌, ℕ, ◌+◌, ◌⊎◌, inl, inr, Bool, true, not, List, ◌∷◌, ◌++◌, length, Option, Some, None, refl, sym, ap, subst, ◌∙◌}
use Rattle.std.specs.Prelude.{drop, filter, map, option_map, slice_get, slice_set, take, unwrap_or}
use Rattle.std.specs.Str.{bytes_eq}
use Rattle.ca_arena.specs.declared.handle.Handle.{Handle}
use Rattle.ca_dbr.specs.Elements.{Elements}
use Rattle.ca_link.specs.Link.{with_rest}
use Rattle.ca_ids.specs.Table.{same_handle}
use Rattle.ca_records.specs.declared.puts.Put.{Put}
use Rattle.ca_records.specs.Puts.{Record, new_record, removed, with_record, with_value, withdrawn}
use Rattle.ca_records.specs.Record.{RecordState, unset}
use Rattle.ca_text.specs.Place.{At}
use Rattle.ca_text.proofs.Places.{At-set}
use Rattle.ca_model.specs.Due.{Action}
use Rattle.ca_model.specs.Ends as why
use Rattle.ca_model.specs.History.{Collected, GaveUp}
use Rattle.ca_model.specs.Server.{Server}
use Rattle.ca_model.specs.ServerCalls.{with_finish}
use Rattle.ca_model.specs.ServerSteps.{Cuts, LeftOf, Next, Pumps, Stepped, Update, closed}
use Rattle.ca_model.specs.ServerSteps as stepped
use Rattle.ca_model.specs.ClientEvents.{HappensAccept, HappensDown, WantsFirst}
use Rattle.ca_model.specs.Events.{Event}
use Rattle.ca_model.specs.Events as event
use Rattle.ca_model.specs.Runs.{CanBe, Leaves, clients_below}
use Rattle.ca_model.specs.ServerEvents.{HappensAdd, HappensFinish, HappensPost, HappensRemove, ServerStepped, acted, ends_by, ends_here, next_busy, noted, records_after, replied_at, reported, server_after, side_of, unsaid, without_puts}
use Rattle.ca_model.specs.ServerEvents as server
use Rattle.ca_model.specs.World.{ClientSide, Joined, PutPlace, RecordSide, ServerSide, World, record_begun, server_begun, with_circuit}
use Rattle.ca_laws_parts.specs.Moves.{Lives, finish_told, post_told, removal_told}
use Rattle.ca_laws_parts.specs.Seats.{Sound, TakesSent}
use Rattle.ca_laws_parts.proofs.Cores.{accepts-stay, gives-stay, next-records, reaches-ends, replies-stay, sends-stay}
use Rattle.ca_laws_parts.proofs.Every.{ticks-frame}
use Rattle.ca_laws_parts.proofs.Frames.{Frame}
use Rattle.ca_laws_parts.proofs.HappensClient.{begun-frame, clear-frame, cut-frame, datagram-frame, handing-frame, hear-frame, open-frame, put-frame, read-frame, subscribe-frame, unsubscribe-frame, up-frame, write-frame}
use Rattle.ca_laws_parts.proofs.LastingStep.{told-servers}
use Rattle.ca_laws_parts.proofs.WritesLists.{none_at}
use Rattle.ca_laws_parts.proofs.Midway.{set-here}
use Rattle.ca_laws_parts.proofs.Puts.{In-mapped, puts-begun}
use Rattle.ca_laws_runs.specs.Pairs.{BusyPair, CoreWaits, SideWaits}
use Rattle.ca_laws_runs.proofs.Comes.{Comes, acted-follow, finish-follow}
use Rattle.ca_laws_runs.proofs.Pairs.{CoresKeep, Follows, SidesKeep, cores-added, cores-are, cores-filter, cores-same, cores-then, cores-with, cores-withdrawn, follows-keep, follows-then, none-some, sides-added, sides-filter, sides-same, sides-without}

-- ---- servers of a world

-- a server without puts
pub record NoPuts (z : ServerSide) : Type 0 where
  pub busy : (q : PutPlace) (b : Put) → BusyPair z.core.records z.records q b → ⊥
  pub core : (b : Put) → CoreWaits z.core.records b → ⊥
  pub side : (q : PutPlace) → SideWaits z.records q → ⊥

module _ (w : World) where
  abbrev pub From : (i : ℕ) → (y z : ServerSide) → Type 0
  From i y z = Follows (Comes w i) y.core.records z.core.records y.records z.records

  abbrev pub PutsFollow : World → Type 0
  PutsFollow new = (i : ℕ) (z : ServerSide) → At new.servers i z → ((y : ServerSide) × At w.servers i y × From i y z) ⊎ NoPuts z

  from-self : (i : ℕ) (y : ServerSide) → From i y y
  from-self i y = follows-keep (Comes w i) y.core.records y.core.records y.records y.records (cores-same y.core.records) (sides-same y.records)

  servers-same : (new : World) → new.servers ≡ w.servers → PutsFollow new
  servers-same new is i z at = inl (z, subst (λ (l : List ServerSide). At l i z) is at, from-self i z)

  servers-set : (new : World) (k : ℕ) (y next : ServerSide) → At w.servers k y → new.servers ≡ slice_set w.servers k next → From k y next → PutsFollow new
  servers-set new k y next at is from i z there = elim (At-set w.servers k next i z (subst (λ (l : List ServerSide). At l i z) is there)) [
    | inl own ↦ inl (y, subst (λ (m : ℕ). At w.servers m y) (sym own.0) at, subst (λ (x : ℕ × ServerSide). From x.0 y x.1) (λ t. (sym own.0 t, sym own.1 t)) from)
    | inr old ↦ inl (z, old.0, from-self i z)
  ]

  -- the core alone changes, but not its records
  servers-core : (new : World) (k : ℕ) (y : ServerSide) (core : Server) → At w.servers k y → new.servers ≡ slice_set w.servers k (record y { core = core }) → core.records ≡ y.core.records → PutsFollow new
  servers-core new k y core at is same =
      servers-set new k y (record y { core = core }) at is (follows-keep (Comes w k) y.core.records core.records y.records y.records (cores-are y.core.records core.records same) (sides-same y.records))

  -- an event at server k after which circuits end
  servers-after : (mid : World) (k : ℕ) (y side : ServerSide) (ends : Joined → Option (List ℕ)) (core : Server) → At w.servers k y → ((i : ℕ) (z : ServerSide) → At mid.servers i z → (i ≡ k → ⊥) → At w.servers i z)
      → Follows (Comes w k) y.core.records core.records y.records side.records → PutsFollow (server_after k side ends core mid)
  servers-after mid k y side ends core at others from i z there = elim (At-set mid.servers k _ i z there) [
    | inl own ↦
        let gone : ℕ → Bool = server.ends_at ends mid.circuits in
        let next : ServerSide = record side { core = reported core; records = map (without_puts gone) side.records } in
        inl (
          y,
          subst (λ (m : ℕ). At w.servers m y) (sym own.0) at,
          subst (λ (x : ℕ × ServerSide). From x.0 y x.1) (λ t. (sym own.0 t, sym own.1 t))
              (follows-then (Comes w k) y.core.records core.records core.records y.records side.records next.records from
              (follows-keep (Comes w k) core.records core.records side.records next.records (cores-same core.records) (sides-without gone side.records))),
        )
    | inr old ↦ inl (z, others i z old.0 old.1, from-self i z)
  ]

  -- the same records by place, and fewer puts in the core
  kept-from : (k : ℕ) (y side : ServerSide) (core : Server) → CoresKeep y.core.records core.records → SidesKeep y.records side.records → Follows (Comes w k) y.core.records core.records y.records side.records
  kept-from k y side core cores sides = follows-keep (Comes w k) y.core.records core.records y.records side.records cores sides

-- ---- cores

cuts-keep : (y : Server) (h : Handle) (core : Server) → Cuts y h core → CoresKeep y.records core.records
cuts-keep y h core (inl (e, has, is)) =
    subst (λ (x : Server). CoresKeep y.records x.records) (sym is) (cores-withdrawn (λ (p : Put). same_handle p.circuit h) y.records)
cuts-keep y h core (inr (none, is)) = cores-are y.records core.records (ap (λ (x : Server). x.records) is)

pumps-keep : (y : Server) (h : Handle) (us : List Update) (core : Server) → Pumps y h us core → CoresKeep y.records core.records
pumps-keep y h us core (inl (e, has, (after, folds, inl (rests, is)))) = cores-are y.records core.records (ap (λ (x : Server). x.records) is)
pumps-keep y h us core (inl (e, has, (after, folds, inr (more, is)))) =
    subst (λ (x : Server). CoresKeep y.records x.records) (sym is) (cores-withdrawn (λ (p : Put). same_handle p.circuit h) y.records)
pumps-keep y h us core (inr (none, nothing, is)) = cores-are y.records core.records (ap (λ (x : Server). x.records) is)

closed-keep : (h : Handle) (y : Server) → CoresKeep y.records (closed h y).records
closed-keep h y = cores-withdrawn (λ (p : Put). same_handle p.circuit h) y.records

-- ---- events

framed : (w new : World) → Frame w new → PutsFollow w new
framed w new f = servers-same w new f.servers

accept-follow : (w new : World) (c : ℕ) (x : ClientSide) (v : WantsFirst w x) → HappensAccept w c x v new → PutsFollow w new
accept-follow w new c x v f = elim f.leaves [
  | inl full ↦ servers-same w new (ap (λ (z : World). z.servers) full.1)
  | inr made ↦
      let accepts = subst (λ (a : _). stepped.Accepts v.y.core a f.server) made.4 f.accepts in
      servers-core w new v.i v.y f.server v.there.0 (ap (λ (z : World). z.servers) made.6) (accepts-stay v.y.core f.server made.0 accepts).1
]

down-follow : (w new : World) (k n : ℕ) (j : Joined) (x : ClientSide) (y : ServerSide) → At w.servers j.server y → HappensDown w k n j x y new → PutsFollow w new
down-follow w new k n j x y at (mid, sent, core, inl (opened, (by, sends, taken)), gives, is) =
    servers-core w new j.server y by at (ap (λ (z : World). z.servers) is ∙ ap (λ (z : World). z.servers) taken) (sends-stay y.core by j.at_server n sends).1
down-follow w new k n j x y at (mid, sent, core, inr (shut, taken), gives, is) = servers-same w new (ap (λ (z : World). z.servers) is ∙ ap (λ (z : World). z.servers) taken)

post-follow : (w new : World) (i : ℕ) (y : ServerSide) (name : List ℕ) (e : Elements) (mask : ℕ) → At w.servers i y → HappensPost w i y name e mask new → PutsFollow w new
post-follow w new i y name e mask at (gone, core, inl (posts, is)) =
    let stored : List Record = with_record name (with_value e unset) y.core.records in
    subst (λ (z : World). PutsFollow w z) (sym is)
    (servers-after w (post_told w i y name (record { value = e; meta = unset }) mask) i y y (ends_by i core) core at (λ l z there other. there)
    (kept-from w i y y core
    (cores-then y.core.records stored core.records (cores-with name (with_value e unset) y.core.records (λ c. refl) (λ c. refl) (λ c. refl))
    (subst (λ (x : Server). CoresKeep stored x.records) (sym posts.2) (cores-withdrawn (λ (p : Put). gone p.circuit) stored)))
    (sides-same y.records)))
post-follow w new i y name e mask at (gone, core, inr refused) = servers-same w new (ap (λ (z : World). z.servers) refused.3)

finish-puts : (s : _) (w new : World) (i : ℕ) (y : ServerSide) (name : List ℕ) → Sound s w → At w.servers i y → HappensFinish w i y name new → PutsFollow w new
finish-puts s w new i y name h at (inl f) =
    let r = f.finishes.0 in
    let made = f.finishes.1 in
    let side : ServerSide = record y { records = server.with_record name next_busy y.records } in
    let told : World = finish_told w i y name f.cr f.r f.p in
    let mid : World = replied_at f.p f.sent told in
    let finish : Server = with_finish name r.r y.core in
    let own : Lives w i y = h.writes.lives i y at in
    let stays = replies-stay finish r.p r.gone f.sent made f.finishes.2 in
    let records : f.core.records ≡ withdrawn (λ (p : Put). r.gone p.circuit) finish.records =
    ap (λ (x : Server). x.records) f.finishes.3
    ∙ next-records name r.r.waiting r.gone made
    ∙ ap (λ (l : List Record). withdrawn (λ (p : Put). r.gone p.circuit) l) stays.1 in
    subst (λ (z : World). PutsFollow w z) (sym f.leaves)
    (servers-after w mid i y side (ends_by i f.core) f.core at
    (λ l z there other. elim (At-set w.servers i side l z (subst (λ (ss : List ServerSide). At ss l z) (told-servers f.p f.sent told) there)) [ inl here ↦ absurd (other here.0) | inr old ↦ old.0 ])
    (follows-then (Comes w i) y.core.records finish.records f.core.records y.records side.records side.records
    (finish-follow w i y name own.log at own.life.each own.life.others)
    (follows-keep (Comes w i) finish.records f.core.records side.records side.records
    (subst (λ (l : List Record). CoresKeep finish.records l) (sym records) (cores-withdrawn (λ (p : Put). r.gone p.circuit) finish.records)) (sides-same side.records))))
finish-puts s w new i y name h at (inr refused) = servers-same w new (ap (λ (z : World). z.servers) refused.2)

remove-follow : (w new : World) (i : ℕ) (y : ServerSide) (name : List ℕ) → At w.servers i y → HappensRemove w i y name new → PutsFollow w new
remove-follow w new i y name at (gone, left, core, inl (removes, is)) =
    let side : ServerSide = record y { records = filter (λ (r : RecordSide). not (bytes_eq r.name name)) y.records } in
    let less : List Record = removed name y.core.records in
    subst (λ (z : World). PutsFollow w z) (sym is)
    (servers-after w (removal_told w i y name gone left) i y side (ends_by i core) core at
    (λ l z there other. elim (At-set w.servers i side l z there) [ inl here ↦ absurd (other here.0) | inr old ↦ old.0 ])
    (kept-from w i y side core
    (cores-then y.core.records less core.records (cores-filter (λ (r : Record). not (bytes_eq r.state.name name)) y.core.records)
    (subst (λ (x : Server). CoresKeep less x.records) (sym removes.2) (cores-withdrawn (λ (p : Put). gone p.circuit) less)))
    (sides-filter (λ (r : RecordSide). not (bytes_eq r.name name)) y.records)))
remove-follow w new i y name at (gone, left, core, inr (removes, is)) = servers-same w new (ap (λ (z : World). z.servers) is)

add-follow : (w new : World) (i : ℕ) (y : ServerSide) (r : RecordState) → At w.servers i y → HappensAdd w i y r new → PutsFollow w new
add-follow w new i y r at (core, behind, inl (adds, is)) =
    let next : ServerSide = record y { core = core; records = take behind y.records ++ record_begun y.added r ∷ drop behind y.records; added = y.added + 1 } in
    servers-set w new i y next at (ap (λ (z : World). z.servers) is)
    (kept-from w i y next core (subst (λ (x : Server). CoresKeep y.core.records x.records) (sym adds.1) (cores-added behind r y.core.records)) (sides-added y.added behind r y.records))
add-follow w new i y r at (core, behind, inr refused) = servers-same w new (ap (λ (z : World). z.servers) refused.3)

-- a server that begins has no puts
begun-none : (moment life : ℕ) (s : _) → NoPuts (server_begun moment life s)
begun-none moment life s = record {
  busy = λ q b p. (let c = In-mapped new_record s.records p.c p.in_cs in none-some b (ap (λ (z : Record). z.busy) (sym c.2) ∙ p.core));
  core = λ b p. (let c = In-mapped new_record s.records p.0 p.1 in none_at p.2.1.0 p.2.0 (subst (λ (z : Record). At z.waiting p.2.1.0 p.2.0) c.2 p.2.1.1));
  side = λ q p. puts-begun 0 s.records q (p.0, p.1, inr p.2);
}

restart-follow : (w new : World) (i : ℕ) (y : ServerSide) → server.HappensServerRestart w i y new → PutsFollow w new
restart-follow w new i y is l z there = elim (At-set w.servers i (server_begun w.moment (length w.server_logs) y.setting) l z (subst (λ (ss : List ServerSide). At ss l z) (ap (λ (v : World). v.servers) is) there)) [
  | inl own ↦ inr (subst (λ (x : ServerSide). NoPuts x) (sym own.1) (begun-none w.moment (length w.server_logs) y.setting))
  | inr old ↦ inl (z, old.0, from-self w l z)
]

-- ---- a step of a server's end

module _ (w : World) (k : ℕ) (j : Joined) (y : ServerSide) (on : At w.circuits k j) (at : At w.servers j.server y) (opened : j.lists.server_open ≡ true) (takes : TakesSent w) where
  acted-side : (did : Action) → side_of j.server y (acted k j y did w) ≡ record y { records = records_after y.core j.at_server (record { circuit = k; place = length j.lists.handled }) did y.records }
  acted-side did =
      ap (λ (o : Option ServerSide). unwrap_or o y) (set-here w.servers j.server y (record y { records = records_after y.core j.at_server (record { circuit = k; place = length j.lists.handled }) did y.records }) at)

  acted-others : (did : Action) (i : ℕ) (z : ServerSide) → At (acted k j y did w).servers i z → (i ≡ j.server → ⊥) → At w.servers i z
  acted-others did i z there other = elim (At-set w.servers j.server _ i z there) [ inl own ↦ absurd (other own.0) | inr old ↦ old.0 ]

  -- the puts after the next message
  next-follow : (e : _) → stepped.HasEnd y.core j.at_server e → (next : Next y.core j.at_server e) → Follows (Comes w j.server) y.core.records next.after.records y.records (side_of j.server y (acted k j y next.action w)).records
  next-follow e has next =
      let made = next.handles in
      let sent = takes k j y e next.m next.rest on at opened has next.takes in
      subst (λ (x : List Record × List RecordSide). Follows (Comes w j.server) y.core.records x.0 y.records x.1) (λ t. (ap (λ (z : Server). z.records) (sym made.leaves) t, ap (λ (z : ServerSide). z.records) (sym (acted-side next.action)) t))
      (acted-follow w k j y e (record e { link = with_rest next.rest e.link }) next.m sent.0 on at opened has refl sent.1 sent.2 next.action made.recorded made.records)

  reach-follow : (e : _) → stepped.HasEnd y.core j.at_server e → (next : Next y.core j.at_server e) (gone : Handle → Bool) (core : Server) → stepped.Reaches next.action gone next.after core → Follows (Comes w j.server) y.core.records core.records y.records (side_of j.server y (acted k j y next.action w)).records
  reach-follow e has next gone core reaches =
      let side : List RecordSide = (side_of j.server y (acted k j y next.action w)).records in
      follows-then (Comes w j.server) y.core.records next.after.records core.records y.records side side (next-follow e has next)
      (follows-keep (Comes w j.server) next.after.records core.records side side
      (subst (λ (l : List Record). CoresKeep next.after.records l) (sym (reaches-ends next.action gone next.after core reaches).1) (cores-withdrawn (λ (p : Put). gone p.circuit) next.after.records)) (sides-same side))

  noted-servers : (replies : _) (before mid : World) → (noted k j y replies before mid).servers ≡ mid.servers
  noted-servers replies before mid = go (slice_get mid.circuits k)
    where
      go : (o : Option Joined) → (unwrap_or (option_map (λ (c : Joined). with_circuit k (server.handled_at (length j.lists.handled) (record { sent = length j.lists.down; logged = server.logged y before; after = server.logged y mid }) replies c) mid) o) mid).servers ≡ mid.servers
      go None = refl
      go (Some c) = refl

  step-follow : (new : World) (did : Stepped) → ServerStepped w k j y did new → PutsFollow w new
  step-follow new stepped.Handled f =
      let next = f.steps.0 in
      let mid : World = acted k j y next.action w in
      let after : World = server_after j.server (side_of j.server y mid) (ends_by j.server f.core) f.core mid in
      let r : PutsFollow w after = servers-after w mid j.server y (side_of j.server y mid) (ends_by j.server f.core) f.core at (acted-others next.action) (reach-follow f.e f.has next f.steps.1 f.core f.steps.3) in
      λ i z there. r i z (subst (λ (l : List ServerSide). At l i z) (ap (λ (v : World). v.servers) f.leaves ∙ noted-servers next.replies w after) there)
  step-follow new stepped.NeedBytes f = servers-same w new (ap (λ (z : World). z.servers) f.3)
  step-follow new stepped.OutputFull f = servers-same w new (ap (λ (z : World). z.servers) f.3)
  step-follow new (stepped.Closed why.OutOfMemory left) f = subst (λ (z : World). PutsFollow w z) (sym f.leaves) (go f.lacks.written f.lacks.left_is)
    where
      core-is : CoresKeep f.lacks.mid.records f.core.records
      core-is = subst (λ (x : Server). CoresKeep f.lacks.mid.records x.records) (sym f.lacks.leaves) (closed-keep j.at_server f.lacks.mid)

      go : (o : Option (Handle → Bool)) → LeftOf f.lacks.next o f.lacks.mid → PutsFollow w (server_after j.server (side_of j.server y (unsaid k j y f.lacks.next.action o w)) (ends_here j left j.server f.core) f.core (unsaid k j y f.lacks.next.action o w))
      go None same =
          servers-after w w j.server y (side_of j.server y w) (ends_here j left j.server f.core) f.core at (λ i z there other. there)
          (kept-from w j.server y (side_of j.server y w) f.core
          (subst (λ (x : Server). CoresKeep x.records f.core.records) same core-is)
          (subst (λ (x : ServerSide). SidesKeep y.records x.records) (sym (ap (λ (o : Option ServerSide). unwrap_or o y) at)) (sides-same y.records)))
      go (Some gone) wrote =
          let side : ServerSide = side_of j.server y (acted k j y f.lacks.next.action w) in
          servers-after w (acted k j y f.lacks.next.action w) j.server y side (ends_here j left j.server f.core) f.core at (acted-others f.lacks.next.action)
          (follows-then (Comes w j.server) y.core.records f.lacks.mid.records f.core.records y.records side.records side.records (reach-follow f.e f.has f.lacks.next gone f.lacks.mid wrote.1)
          (follows-keep (Comes w j.server) f.lacks.mid.records f.core.records side.records side.records core-is (sides-same side.records)))
  step-follow new (stepped.Closed cause left) f =
      subst (λ (z : World). PutsFollow w z) (sym f.3)
      (servers-after w w j.server y y (ends_here j left j.server y.core) (closed j.at_server y.core) at (λ i z there other. there)
      (kept-from w j.server y y (closed j.at_server y.core) (closed-keep j.at_server y.core) (sides-same y.records)))

-- ---- every event

pub puts-follow : (s : _) (w new : World) (e : Event) → TakesSent w → Sound s w → (at : CanBe w e) → Leaves w e at new → PutsFollow w new
puts-follow s w new (event.Open i name priority) t h at l = framed w new (open-frame w new i at.x name priority l)
puts-follow s w new (event.Clear i c) t h at l = framed w new (clear-frame w new i at.x c at.h l)
puts-follow s w new (event.Read i c data_type count) t h at l = framed w new (read-frame w new i at.x c at.h data_type count l)
puts-follow s w new (event.Write i c e) t h at l = framed w new (write-frame w new i at.x c at.h e l)
puts-follow s w new (event.WriteNotify i c e) t h at l = framed w new (put-frame w new i at.x c at.h e l)
puts-follow s w new (event.Subscribe i c data_type count mask) t h at l = framed w new (subscribe-frame w new i at.x c at.h data_type count mask l)
puts-follow s w new (event.Unsubscribe i n) t h at l = framed w new (unsubscribe-frame w new i at.x at.s l)
puts-follow s w new (event.Collect i r) t h at l = framed w new (handing-frame w new at.x r at.q.1 (Collected r) l)
puts-follow s w new (event.GiveUp i r) t h at l = framed w new (handing-frame w new at.x r at.q.1 (GaveUp r) l)
puts-follow s w new (event.ClientDatagram i from bytes) t h at l = framed w new (datagram-frame w new i at.x from bytes l)
puts-follow s w new (event.ServerDatagram i from bytes) t h at l = servers-same w new (ap (λ (z : World). z.servers) l.2)
puts-follow s w new (event.Accept i) t h at l = accept-follow w new i at.x at.v l
puts-follow s w new (event.Up k n) t h at l =
    let f = up-frame w k n at.0.j at.0.x at.0.joins.at in
    servers-core w new at.0.j.server at.0.y l.0 at.0.joins.server (ap (λ (z : World). z.servers) l.2 ∙ ap (λ (ss : List ServerSide). slice_set ss at.0.j.server (record at.0.y { core = l.0 })) f.servers) (gives-stay at.0.y.core l.0 at.0.j.at_server _ l.1).1
puts-follow s w new (event.Down k n) t h at l = down-follow w new k n at.0.j at.0.x at.0.y at.0.joins.server l
puts-follow s w new (event.ServerStep k) t h at l = step-follow w k at.j at.y at.joins.at at.joins.server at.is_open t new l.0 l.1
puts-follow s w new (event.ClientStep k) t h at l = framed w new (hear-frame w new k at.j at.x at.joins.at l)
puts-follow s w new (event.Pump k) t h at l =
    subst (λ (z : World). PutsFollow w z) (sym l.leaves)
    (servers-after w (with_circuit k (server.stamped l.updates at.j) w) at.j.server at.y at.y (ends_by at.j.server l.core) l.core at.joins.server (λ i z there other. there)
    (kept-from w at.j.server at.y at.y l.core (pumps-keep at.y.core at.j.at_server l.updates l.core l.pumps) (sides-same at.y.records)))
puts-follow s w new (event.CutClient k) t h at l = framed w new (cut-frame w new k at.j at.x at.joins.at l)
puts-follow s w new (event.CutServer k) t h at l =
    subst (λ (z : World). PutsFollow w z) (sym l.leaves)
    (servers-after w w at.j.server at.y at.y (ends_by at.j.server l.core) l.core at.joins.server (λ i z there other. there)
    (kept-from w at.j.server at.y at.y l.core (cuts-keep at.y.core at.j.at_server l.core l.cuts) (sides-same at.y.records)))
puts-follow s w new (event.ClientRestart i) t h at l = framed w new (begun-frame w new i at.x l)
puts-follow s w new (event.ServerRestart i) t h at l = restart-follow w new i at.y l
puts-follow s w new (event.Post i name e mask) t h at l = post-follow w new i at.y name e mask at.at l
puts-follow s w new (event.Finish i name) t h at l = finish-puts s w new i at.y name h at.at l
puts-follow s w new (event.Remove i name) t h at l = remove-follow w new i at.y name at.at l
puts-follow s w new (event.Add i r) t h at l = add-follow w new i at.y r at.at l
puts-follow s w new (event.Tick moment) t h at (mid, ticks, is) = servers-same w new (ap (λ (z : World). z.servers) is ∙ (ticks-frame moment w (clients_below (length w.clients)) mid ticks).servers)
