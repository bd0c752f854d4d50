-- Where puts came, over every event: they were there before, or a server's end
-- has just handled one.
use Rattle.std.proofs.Common.{◌≡◌, ℕ, ◌+◌, inl, inr, Bool, not, List, ◌∷◌, ◌++◌, length, Option, Some, None, refl, sym, ap, subst, ◌∙◌}
use Rattle.std.specs.Prelude.{drop, filter, option_map, slice_get, slice_set, take, unwrap_or}
use Rattle.std.specs.Str.{bytes_eq}
use Rattle.ca_arena.specs.declared.handle.Handle.{Handle}
use Rattle.ca_dbr.specs.Elements.{Elements}
use Rattle.ca_records.specs.Record.{unset}
use Rattle.ca_text.specs.Place.{At}
use Rattle.ca_text.proofs.Places.{At-one, At-set}
use Rattle.ca_model.specs.Due.{Action}
use Rattle.ca_model.specs.Ends as why
use Rattle.ca_model.specs.History.{Collected, GaveUp}
use Rattle.ca_model.specs.ServerSteps.{Stepped, closed}
use Rattle.ca_model.specs.ServerSteps as stepped
use Rattle.ca_model.specs.ClientEvents.{HappensAccept, HappensDown, WantsFirst}
use Rattle.ca_model.specs.Events.{Event}
use Rattle.ca_model.specs.Events as event
use Rattle.ca_model.specs.Runs.{CanBe, Leaves, clients_below}
use Rattle.ca_model.specs.ServerEvents.{HappensAdd, HappensFinish, HappensPost, HappensRemove, ServerStepped, acted, ends_by, ends_here, next_busy, noted, records_after, replied_at, server_after, side_of, unsaid}
use Rattle.ca_model.specs.ServerEvents as server
use Rattle.ca_model.specs.World.{ClientSide, Joined, PutPlace, RecordSide, ServerSide, World, record_begun, server_begun, with_circuit}
use Rattle.ca_laws_parts.specs.Moves.{finish_told, post_told, removal_told}
use Rattle.ca_laws_parts.proofs.Every.{ticks-frame}
use Rattle.ca_laws_parts.proofs.HappensClient.{begun-frame, clear-frame, cut-frame, datagram-frame, handing-frame, hear-frame, open-frame, put-frame, read-frame, subscribe-frame, unsubscribe-frame, up-frame, write-frame}
use Rattle.ca_laws_parts.proofs.Frames.{Frame}
use Rattle.ca_laws_parts.proofs.LastingStep.{told-servers}
use Rattle.ca_laws_parts.proofs.Midway.{set-here}
use Rattle.ca_laws_parts.specs.Own.{IsOwnPlace}
use Rattle.ca_laws_parts.proofs.Puts.{PutIn, PutsBack, ServersBack, puts-acted, puts-added, puts-begun, puts-filter, puts-next, servers-after, servers-same, servers-set}

-- the put of that message
abbrev pub IsOwnPut : World → Event → PutPlace → Type 0
IsOwnPut w e q = IsOwnPlace w e q.circuit q.place

module _ (Extra : PutPlace → Type 0) where
  framed : (w new : World) → Frame w new → ServersBack Extra w new
  framed w new f = servers-same Extra w new f.servers

  accept-back : (w new : World) (c : ℕ) (x : ClientSide) (v : WantsFirst w x) → HappensAccept w c x v new → ServersBack Extra w new
  accept-back w new c x v f = elim f.leaves [
    | inl full ↦ servers-same Extra w new (ap (λ (z : World). z.servers) full.1)
    | inr made ↦ servers-set Extra w new v.i v.y (record v.y { core = f.server }) v.there.0 (ap (λ (z : World). z.servers) made.6) (λ q h. inl h)
  ]

  down-back : (w new : World) (k n : ℕ) (j : Joined) (x : ClientSide) (y : ServerSide) → At w.servers j.server y → HappensDown w k n j x y new → ServersBack Extra w new
  down-back w new k n j x y at (mid, sent, core, inl (opened, (by, sends, taken)), gives, is) =
      servers-set Extra w new j.server y (record y { core = by }) at (ap (λ (z : World). z.servers) is ∙ ap (λ (z : World). z.servers) taken) (λ q h. inl h)
  down-back w new k n j x y at (mid, sent, core, inr (shut, taken), gives, is) = servers-same Extra w new (ap (λ (z : World). z.servers) is ∙ ap (λ (z : World). z.servers) taken)

  post-back : (w new : World) (i : ℕ) (y : ServerSide) (name : List ℕ) (e : Elements) (mask : ℕ) → At w.servers i y → HappensPost w i y name e mask new → ServersBack Extra w new
  post-back w new i y name e mask at (gone, core, inl (posts, is)) =
      subst (λ (z : World). ServersBack Extra w z) (sym is)
      (servers-after Extra w (post_told w i y name (record { value = e; meta = unset }) mask) i y y (ends_by i core) core at (servers-same Extra w (post_told w i y name (record { value = e; meta = unset }) mask) refl) (λ q h. inl h))
  post-back w new i y name e mask at (gone, core, inr refused) = servers-same Extra w new (ap (λ (z : World). z.servers) refused.3)

  finish-back : (w new : World) (i : ℕ) (y : ServerSide) (name : List ℕ) → At w.servers i y → HappensFinish w i y name new → ServersBack Extra w new
  finish-back w new i y name at (inl f) =
      let side : ServerSide = record y { records = server.with_record name next_busy y.records } in
      let told : World = finish_told w i y name f.cr f.r f.p in
      let mid : World = replied_at f.p f.sent told in
      let puts : PutsBack Extra y.records side.records = puts-next Extra name y.records in
      subst (λ (z : World). ServersBack Extra w z) (sym f.leaves)
      (servers-after Extra w mid i y side (ends_by i f.core) f.core at (servers-set Extra w mid i y side at (told-servers f.p f.sent told) puts) puts)
  finish-back w new i y name at (inr refused) = servers-same Extra w new (ap (λ (z : World). z.servers) refused.2)

  remove-back : (w new : World) (i : ℕ) (y : ServerSide) (name : List ℕ) → At w.servers i y → HappensRemove w i y name new → ServersBack Extra w new
  remove-back w new i y name at (gone, left, core, inl (removes, is)) =
      let side : ServerSide = record y { records = filter (λ (r : RecordSide). not (bytes_eq r.name name)) y.records } in
      let puts : PutsBack Extra y.records side.records = puts-filter Extra (λ (r : RecordSide). not (bytes_eq r.name name)) y.records in
      subst (λ (z : World). ServersBack Extra w z) (sym is)
      (servers-after Extra w (removal_told w i y name gone left) i y side (ends_by i core) core at (servers-set Extra w (removal_told w i y name gone left) i y side at refl puts) puts)
  remove-back w new i y name at (gone, left, core, inr (removes, is)) = servers-same Extra w new (ap (λ (z : World). z.servers) is)

  add-back : (w new : World) (i : ℕ) (y : ServerSide) (r : _) → At w.servers i y → HappensAdd w i y r new → ServersBack Extra w new
  add-back w new i y r at (core, behind, inl (adds, is)) =
      servers-set Extra w new i y (record y { core = core; records = take behind y.records ++ record_begun y.added r ∷ drop behind y.records; added = y.added + 1 }) at (ap (λ (z : World). z.servers) is)
      (puts-added Extra y.added behind r y.records)
  add-back w new i y r at (core, behind, inr refused) = servers-same Extra w new (ap (λ (z : World). z.servers) refused.3)

  restart-back : (w new : World) (i : ℕ) (y : ServerSide) → server.HappensServerRestart w i y new → ServersBack Extra w new
  restart-back w new i y is l z there = elim (At-set w.servers i (server_begun w.moment (length w.server_logs) y.setting) l z (subst (λ (ss : List ServerSide). At ss l z) (ap (λ (v : World). v.servers) is) there)) [
    | inl own ↦ inr (λ q h. puts-begun 0 y.setting.records q (subst (λ (x : ServerSide). PutIn x.records q) own.1 h))
    | inr old ↦ inl (z, old.0, λ q h. inl h)
  ]

  -- a message is handled, in a step that closes its circuit or not
  acted-back : (w : World) (k : ℕ) (j : Joined) (y : ServerSide) (did : Action) → At w.servers j.server y → ((q : PutPlace) → (q ≡ record { circuit = k; place = length j.lists.handled }) → Extra q)
      → ServersBack Extra w (acted k j y did w) × PutsBack Extra y.records (side_of j.server y (acted k j y did w)).records
  acted-back w k j y did at extra =
      let p : PutPlace = record { circuit = k; place = length j.lists.handled } in
      let side : ServerSide = record y { records = records_after y.core j.at_server p did y.records } in
      let puts : PutsBack Extra y.records side.records = λ q h. elim (puts-acted y.core j.at_server p did y.records q h) [ inl old ↦ inl old | inr new ↦ inr (extra q new) ] in
      let is : side_of j.server y (acted k j y did w) ≡ side = ap (λ (o : Option ServerSide). unwrap_or o y) (set-here w.servers j.server y side at) in
      (servers-set Extra w (acted k j y did w) j.server y side at refl puts, subst (λ (x : ServerSide). PutsBack Extra y.records x.records) (sym is) puts)

  noted-servers : (k : ℕ) (j : Joined) (y : ServerSide) (replies : _) (before w : World) → (noted k j y replies before w).servers ≡ w.servers
  noted-servers k j y replies before w = go (slice_get w.circuits k)
    where
      go : (o : Option Joined) → (unwrap_or (option_map (λ (c : Joined). with_circuit k (server.handled_at (length j.lists.handled) (record { sent = length j.lists.down; logged = server.logged y before; after = server.logged y w }) replies c) w) o) w).servers ≡ w.servers
      go None = refl
      go (Some c) = refl

  step-back : (w new : World) (k : ℕ) (j : Joined) (y : ServerSide) (did : Stepped) → At w.servers j.server y → ((q : PutPlace) → (q ≡ record { circuit = k; place = length j.lists.handled }) → Extra q) → ServerStepped w k j y did new → ServersBack Extra w new
  step-back w new k j y stepped.Handled at extra f =
      let did : Action = (f.steps.0).action in
      let a = acted-back w k j y did at extra in
      let mid : World = acted k j y did w in
      let after : World = server_after j.server (side_of j.server y mid) (ends_by j.server f.core) f.core mid in
      let r : ServersBack Extra w after = servers-after Extra w mid j.server y (side_of j.server y mid) (ends_by j.server f.core) f.core at a.0 a.1 in
      λ i z there. r i z (subst (λ (l : List ServerSide). At l i z) (ap (λ (v : World). v.servers) f.leaves ∙ noted-servers k j y (f.steps.0).replies w after) there)
  step-back w new k j y stepped.NeedBytes at extra f = servers-same Extra w new (ap (λ (z : World). z.servers) f.3)
  step-back w new k j y stepped.OutputFull at extra f = servers-same Extra w new (ap (λ (z : World). z.servers) f.3)
  step-back w new k j y (stepped.Closed why.OutOfMemory left) at extra f = subst (λ (z : World). ServersBack Extra w z) (sym f.leaves) (go f.lacks.written)
    where
      go : (o : Option (Handle → Bool)) → ServersBack Extra w (server_after j.server (side_of j.server y (unsaid k j y f.lacks.next.action o w)) (ends_here j left j.server f.core) f.core (unsaid k j y f.lacks.next.action o w))
      go None =
          servers-after Extra w w j.server y (side_of j.server y w) (ends_here j left j.server f.core) f.core at (servers-same Extra w w refl)
          (subst (λ (x : ServerSide). PutsBack Extra y.records x.records) (sym (ap (λ (o : Option ServerSide). unwrap_or o y) at)) (λ q h. inl h))
      go (Some gone) =
          let a = acted-back w k j y f.lacks.next.action at extra in
          servers-after Extra w (acted k j y f.lacks.next.action w) j.server y (side_of j.server y (acted k j y f.lacks.next.action w)) (ends_here j left j.server f.core) f.core at a.0 a.1
  step-back w new k j y (stepped.Closed cause left) at extra f =
      subst (λ (z : World). ServersBack Extra w z) (sym f.3) (servers-after Extra w w j.server y y (ends_here j left j.server y.core) (closed j.at_server y.core) at (servers-same Extra w w refl) (λ q h. inl h))

pub leaves-back : (w new : World) (e : Event) → (at : CanBe w e) → Leaves w e at new → ServersBack (IsOwnPut w e) w new
leaves-back w new (event.Open i name priority) at l = framed (IsOwnPut w (event.Open i name priority)) w new (open-frame w new i at.x name priority l)
leaves-back w new (event.Clear i c) at l = framed (IsOwnPut w (event.Clear i c)) w new (clear-frame w new i at.x c at.h l)
leaves-back w new (event.Read i c data_type count) at l = framed (IsOwnPut w (event.Read i c data_type count)) w new (read-frame w new i at.x c at.h data_type count l)
leaves-back w new (event.Write i c e) at l = framed (IsOwnPut w (event.Write i c e)) w new (write-frame w new i at.x c at.h e l)
leaves-back w new (event.WriteNotify i c e) at l = framed (IsOwnPut w (event.WriteNotify i c e)) w new (put-frame w new i at.x c at.h e l)
leaves-back w new (event.Subscribe i c data_type count mask) at l = framed (IsOwnPut w (event.Subscribe i c data_type count mask)) w new (subscribe-frame w new i at.x c at.h data_type count mask l)
leaves-back w new (event.Unsubscribe i n) at l = framed (IsOwnPut w (event.Unsubscribe i n)) w new (unsubscribe-frame w new i at.x at.s l)
leaves-back w new (event.Collect i r) at l = framed (IsOwnPut w (event.Collect i r)) w new (handing-frame w new at.x r at.q.1 (Collected r) l)
leaves-back w new (event.GiveUp i r) at l = framed (IsOwnPut w (event.GiveUp i r)) w new (handing-frame w new at.x r at.q.1 (GaveUp r) l)
leaves-back w new (event.ClientDatagram i from bytes) at l = framed (IsOwnPut w (event.ClientDatagram i from bytes)) w new (datagram-frame w new i at.x from bytes l)
leaves-back w new (event.ServerDatagram i from bytes) at l = servers-same (IsOwnPut w (event.ServerDatagram i from bytes)) w new (ap (λ (z : World). z.servers) l.2)
leaves-back w new (event.Accept i) at l = accept-back (IsOwnPut w (event.Accept i)) w new i at.x at.v l
leaves-back w new (event.Up k n) at l =
    let f = up-frame w k n at.0.j at.0.x at.0.joins.at in
    servers-set (IsOwnPut w (event.Up k n)) w new at.0.j.server at.0.y (record at.0.y { core = l.0 }) at.0.joins.server (ap (λ (z : World). z.servers) l.2 ∙ ap (λ (ss : List ServerSide). slice_set ss at.0.j.server (record at.0.y { core = l.0 })) f.servers) (λ q h. inl h)
leaves-back w new (event.Down k n) at l = down-back (IsOwnPut w (event.Down k n)) w new k n at.0.j at.0.x at.0.y at.0.joins.server l
leaves-back w new (event.ServerStep k) at l =
    step-back (IsOwnPut w (event.ServerStep k)) w new k at.j at.y l.0 at.joins.server
    (λ q is. (
      ap (λ (p : PutPlace). p.circuit) is,
      λ j there. ap (λ (p : PutPlace). p.place) is ∙ ap (λ (z : Joined). length z.lists.handled) (At-one w.circuits k at.j j at.joins.at there),
    ))
    l.1
leaves-back w new (event.ClientStep k) at l = framed (IsOwnPut w (event.ClientStep k)) w new (hear-frame w new k at.j at.x at.joins.at l)
leaves-back w new (event.Pump k) at l =
    subst (λ (z : World). ServersBack (IsOwnPut w (event.Pump k)) w z) (sym l.leaves)
    (servers-after (IsOwnPut w (event.Pump k)) w (with_circuit k (server.stamped l.updates at.j) w) at.j.server at.y at.y (ends_by at.j.server l.core) l.core at.joins.server (servers-same (IsOwnPut w (event.Pump k)) w (with_circuit k (server.stamped l.updates at.j) w) refl) (λ q h. inl h))
leaves-back w new (event.CutClient k) at l = framed (IsOwnPut w (event.CutClient k)) w new (cut-frame w new k at.j at.x at.joins.at l)
leaves-back w new (event.CutServer k) at l =
    subst (λ (z : World). ServersBack (IsOwnPut w (event.CutServer k)) w z) (sym l.leaves)
    (servers-after (IsOwnPut w (event.CutServer k)) w w at.j.server at.y at.y (ends_by at.j.server l.core) l.core at.joins.server (servers-same (IsOwnPut w (event.CutServer k)) w w refl) (λ q h. inl h))
leaves-back w new (event.ClientRestart i) at l = framed (IsOwnPut w (event.ClientRestart i)) w new (begun-frame w new i at.x l)
leaves-back w new (event.ServerRestart i) at l = restart-back (IsOwnPut w (event.ServerRestart i)) w new i at.y l
leaves-back w new (event.Post i name e mask) at l = post-back (IsOwnPut w (event.Post i name e mask)) w new i at.y name e mask at.at l
leaves-back w new (event.Finish i name) at l = finish-back (IsOwnPut w (event.Finish i name)) w new i at.y name at.at l
leaves-back w new (event.Remove i name) at l = remove-back (IsOwnPut w (event.Remove i name)) w new i at.y name at.at l
leaves-back w new (event.Add i r) at l = add-back (IsOwnPut w (event.Add i r)) w new i at.y r at.at l
leaves-back w new (event.Tick moment) at (mid, ticks, is) =
    servers-same (IsOwnPut w (event.Tick moment)) w new (ap (λ (z : World). z.servers) is ∙ (ticks-frame moment w (clients_below (length w.clients)) mid ticks).servers)
