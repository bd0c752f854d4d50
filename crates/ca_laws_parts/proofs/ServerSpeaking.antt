-- All that servers send in any event are messages, and their cores fit messages after it.
use Rattle.std.proofs.Common.{◌≡◌, ℕ, ◌+◌, suc, inl, inr, ◌⊎◌, Bool, true, false, ◌&&◌, not, cond, eqb, List, [], ◌∷◌, ◌++◌, length, Option, Some, None, refl, sym, ap, ◌∙◌, subst, append_assoc, arith}
use Rattle.std.specs.List.{FoldsTo, list_any}
use Rattle.std.specs.Prelude.{Ok, Result, filter, map, option_map, slice_get, slice_set, unwrap_or}
use Rattle.std.specs.Str.{bytes_eq}
use Rattle.std.proofs.lemmas.List.{append-nil}
use Rattle.ca_arena.specs.declared.handle.Handle.{Handle}
use Rattle.ca_dbr.specs.Elements.{Elements}
use Rattle.ca_dbr.specs.Held.{IsHeldValue}
use Rattle.ca_ids.specs.Table.{under}
use Rattle.ca_ids.specs.Wire.{wire_of}
use Rattle.ca_queue.specs.declared.entry.SubKey.{SubKey}
use Rattle.ca_records.specs.Record.{RecordState}
use Rattle.ca_text.specs.declared.refusal.Refusal.{Refusal}
use Rattle.ca_text.specs.Place.{At}
use Rattle.ca_text.proofs.Places.{At-mapped, At-set, At-snoc}
use Rattle.ca_wire.specs.Fields.{Fields}
use Rattle.ca_wire.specs.Message.{IsMessage}
use Rattle.ca_wire.specs.Messages.{disconnect}
use Rattle.ca_model.specs.Answers.{Closing}
use Rattle.ca_model.specs.Due.{Action}
use Rattle.ca_model.specs.Ends as why
use Rattle.ca_model.specs.History.{Collected, GaveUp, Reply, Step, Told}
use Rattle.ca_model.specs.Server.{OpenChannel, Server}
use Rattle.ca_model.specs.ServerSteps.{Accepts, Stepped, closed}
use Rattle.ca_model.specs.ServerSteps as stepped
use Rattle.ca_model.specs.ClientEvents.{DownTaken, HappensAccept, HappensDown, HappensUp, WantsFirst, connected_as, new_circuit, up_taken}
use Rattle.ca_model.specs.Events.{Event}
use Rattle.ca_model.specs.Events as event
use Rattle.ca_model.specs.Runs.{AreEvents, CanBe, Happens, IsEvent, Leaves, Runs, StopsAt, clients_below}
use Rattle.ca_model.specs.ServerEvents.{HappensAdd, HappensCutServer, HappensFinish, HappensPost, HappensPump, HappensRemove, HappensServerRestart, ServerStepped, StepHandles, StepLacks, about, acted, disconnected_at, ending, ends_by, ends_here, ends_untold, handled_at, logged, numbers_posted, removal_told, removed_at, server_after, server_closed, side_of, stamped, unsaid, without_standing}
use Rattle.ca_model.specs.World.{ClientSide, IsSetting, Joined, RecordSide, ServerSide, Setting, World, opening, server_begun, with_circuit, with_entries, with_server}
use Rattle.ca_laws_parts.specs.Seats.{Sound}
use Rattle.ca_laws_parts.proofs.WritesEvents.{numbered-at}
use Rattle.ca_laws_parts.proofs.Frames.{Frame, frame-after, frame-self, frame-then}
use Rattle.ca_laws_parts.proofs.HappensClient.{begun-frame, clear-frame, cut-frame, datagram-frame, handing-frame, hear-frame, left-frame, open-frame, put-frame, read-frame, subscribe-frame, unsubscribe-frame, up-frame, write-frame}
use Rattle.ca_laws_parts.proofs.WritesLists.{none_at}
use Rattle.ca_laws_parts.specs.Runs.{HearsSent, Stands}
use Rattle.ca_laws_parts.specs.ServerFits.{ServerFits, ServersFit}
use Rattle.ca_laws_parts.specs.Streams.{AreMessages}
use Rattle.ca_laws_parts.specs.Worlds.{HandlesStand, ServersSpeak, sent_down}
use Rattle.ca_laws_parts.proofs.Clients.{map-both}
use Rattle.ca_laws_parts.proofs.Finish as finish
use Rattle.ca_laws_parts.proofs.BytesRuns.{event-stands, hears-sent, opening-stands, runs-stand, ticks-frame}
use Rattle.ca_laws_parts.proofs.BytesServerCalls.{accepts-fits, adds-fits, begins-fits, closed-fits, cuts-fits, finishes-fits, gives-fits, left-fits, next-fits, posts-fits, pumps-fits, reaches-fits, removed-good, removes-fits, reported-fits, sends-fits}
use Rattle.ca_laws_parts.proofs.ServerEvents.{map-told, posted-tells, stamped-tells}
use Rattle.ca_laws_parts.proofs.ServerFits.{append-at}
use Rattle.ca_laws_parts.proofs.BytesServerSteps.{acted-tells, map-about}
use Rattle.ca_laws_parts.proofs.BytesServers.{Tells}

-- ---- what circuits were told

-- the server of a circuit sent some messages more, or none
abbrev More : Joined → Joined → Type 0
More c d = (more : List Fields) × (sent_down d ≡ sent_down c ++ more) × AreMessages more

no-more : (c d : Joined) → sent_down d ≡ sent_down c → More c d
no-more c d is = ([], is ∙ sym (append-nil (sent_down c)), λ i m at. absurd cc)

more-then : (a b c : Joined) → More a b → More b c → More a c
more-then a b c f g = (
  f.0 ++ g.0,
  g.1 ∙ ap (λ (l : List Fields). l ++ g.0) f.1 ∙ append_assoc (sent_down a) f.0 g.0,
  append-at IsMessage f.0 g.0 f.2 g.2,
)

told-more : (c d : Joined) (ms : List Fields) → AreMessages ms → Tells c d ms → More c d
told-more c d ms good t = (ms, t.said, good)

abbrev Said : List Joined → List Joined → Type 0
Said was now = (n : ℕ) (d : Joined) → At now n d → (c : Joined) × At was n c × More c d

said-itself : (was : List Joined) → Said was was
said-itself was n d at = (d, at, no-more d d refl)

said-then : (a b c : List Joined) → Said a b → Said b c → Said a c
said-then a b c f g n z at = (let y = g n z at in let x = f n y.0 y.1 in (x.0, x.1, more-then x.0 y.0 z x.2 y.2))

said-map : (was : List Joined) (f : Joined → Joined) → ((c : Joined) → More c (f c)) → Said was (map f was)
said-map was f more n d at = (let c = At-mapped f was n d at in (c.0, c.1, subst (λ (z : Joined). More c.0 z) (sym c.2) (more c.0)))

said-set : (was : List Joined) (k : ℕ) (j d : Joined) → At was k j → More j d → Said was (slice_set was k d)
said-set was k j d at more n c there = elim (At-set was k d n c there) [
  | inl here ↦ (j, subst (λ (l : ℕ). At was l j) (sym here.0) at, subst (λ (z : Joined). More j z) (sym here.1) more)
  | inr old ↦ (c, old.0, no-more c c refl)
]

said-ending : (was : List Joined) (ends : Joined → Option (List ℕ)) → Said was (map (ending ends) was)
said-ending was ends = said-map was (ending ends) (λ c. no-more c (ending ends c) (go c (ends c)))
  where
    go : (c : Joined) (o : Option (List ℕ)) → sent_down (unwrap_or (option_map (λ (left : List ℕ). server_closed left c) o) c) ≡ sent_down c
    go c None = refl
    go c (Some left) = refl

speaks-on : (w new : World) → Said w.circuits new.circuits → ServersSpeak w → ServersSpeak new
speaks-on w new said speak k d at =
    let c = said k d at in
    subst (λ (l : List Fields). AreMessages l) (sym c.2.1) (append-at IsMessage (sent_down c.0) c.2.0 (speak k c.0 c.1) c.2.2)

-- ---- what an event leaves of servers

-- no server changes
same-servers : (w new : World) → new.servers ≡ w.servers → Said w.circuits new.circuits → ServersFit w → ServersFit new
same-servers w new servers said f = record {
  sent = speaks-on w new said f.sent;
  cores = λ i y at. f.cores i y (subst (λ (l : List ServerSide). At l i y) servers at);
}

frame-servers : (w new : World) → Frame w new → ServersFit w → ServersFit new
frame-servers w new frame f = same-servers w new frame.servers (λ n d at. (let c = frame.back n d at in (c.0, c.1, no-more c.0 d (ap (λ (l : List Told). map (λ (t : Told). t.message) l) c.2.down)))) f

-- server i is this now
one-server : (w new : World) (i : ℕ) (z : ServerSide) → ((l : ℕ) (s : ServerSide) → At new.servers l s → ((l ≡ i) × (s ≡ z)) ⊎ At w.servers l s) → Said w.circuits new.circuits → ServerFits z.core → ServersFit w → ServersFit new
one-server w new i z servers said fit f = record {
  sent = speaks-on w new said f.sent;
  cores = λ l s at. elim (servers l s at) [ inl here ↦ subst (λ (v : ServerSide). ServerFits v.core) (sym here.1) fit | inr old ↦ f.cores l s old ];
}

set-server : (w : World) (i : ℕ) (z : ServerSide) → ServerFits z.core → ServersFit w → ServersFit (with_server i z w)
set-server w i z fit f = one-server w (with_server i z w) i z (λ l s at. elim (At-set w.servers i z l s at) [ inl here ↦ inl here | inr old ↦ inr old.0 ]) (said-itself w.circuits) fit f

-- a call of server i is over
after-servers : (w mid : World) (i : ℕ) (side : ServerSide) (ends : Joined → Option (List ℕ)) (core : Server) → ((l : ℕ) (s : ServerSide) → At mid.servers l s → (l ≡ i → ⊥) → At w.servers l s) → Said w.circuits mid.circuits → ServerFits core
    → ServersFit w → ServersFit (server_after i side ends core mid)
after-servers w mid i side ends core others said fit f =
    one-server w (server_after i side ends core mid) i _ (λ l s at. elim (At-set mid.servers i _ l s at) [ inl here ↦ inl here | inr old ↦ inr (others l s old.0 old.1) ])
    (said-then w.circuits mid.circuits (map (ending ends) mid.circuits) said (said-ending mid.circuits ends)) (reported-fits core fit) f

-- a circuit is changed where it is, if it is there
at-servers : (w : World) (k : ℕ) (g : Joined → Joined) → ((c : Joined) → More c (g c)) → ServersFit w → ServersFit (unwrap_or (option_map (λ (c : Joined). with_circuit k (g c) w) (slice_get w.circuits k)) w)
at-servers w k g more f = go (slice_get w.circuits k) refl
  where
    go : (o : Option Joined) → slice_get w.circuits k ≡ o → ServersFit (unwrap_or (option_map (λ (c : Joined). with_circuit k (g c) w) o) w)
    go None is = f
    go (Some c) is = same-servers w (with_circuit k (g c) w) refl (said-set w.circuits k c (g c) is (more c)) f

-- ---- bytes move, and circuits are made

accept-servers : (w new : World) (c : ℕ) (x : ClientSide) (v : WantsFirst w x) → HappensAccept w c x v new → ServersFit w → ServersFit new
accept-servers w new c x v happens f = elim happens.leaves [
  | inl refusal ↦ subst (λ (u : World). ServersFit u) (sym refusal.1) f
  | inr did ↦
      let n : Joined = connected_as did.1 (new_circuit c x v.v.circuit v.i v.y did.0) in
      let z : ServerSide = record v.y { core = happens.server } in
      let made : World = record (with_server v.i z w) { circuits = w.circuits ++ n ∷ [] } in
      let accepts : Accepts v.y.core (Ok did.0) happens.server = subst (λ (a : Result Handle Refusal). Accepts v.y.core a happens.server) did.4 happens.accepts in
      let was = set-server w v.i z (accepts-fits v.y.core did.0 happens.server accepts (f.cores v.i v.y v.there.0)) f in
      subst (λ (u : World). ServersFit u) (sym did.6)
      (frame-servers made _ (frame-after c x x.names _ made) (record {
        sent = λ l d there. elim (At-snoc w.circuits n l d there) [
          | inl old ↦ f.sent l d old
          | inr last ↦ subst (λ (q : Joined). AreMessages (sent_down q)) (sym last.1) (nothing did.1 (new_circuit c x v.v.circuit v.i v.y did.0) refl)
        ];
        cores = was.cores;
      }))
]
  where
    nothing : (k : Option Closing) (n : Joined) → sent_down n ≡ [] → AreMessages (sent_down (connected_as k n))
    nothing None n is = subst (λ (l : List Fields). AreMessages l) (sym is) (λ i m at. absurd cc)
    nothing (Some q) n is = subst (λ (l : List Fields). AreMessages l) (sym is) (λ i m at. absurd cc)

up-servers : (w new : World) (k n : ℕ) (j : Joined) (x : ClientSide) (y : ServerSide) → At w.circuits k j → At w.servers j.server y → HappensUp w k n j x y new → ServersFit w → ServersFit new
up-servers w new k n j x y on at (core, gives, is) f =
    let mid : World = up_taken k n j x w in
    subst (λ (v : World). ServersFit v) (sym is)
    (set-server mid j.server (record y { core = core }) (gives-fits y.core core j.at_server _ gives (f.cores j.server y at)) (frame-servers w mid (up-frame w k n j x on) f))

down-servers : (w new : World) (k n : ℕ) (j : Joined) (x : ClientSide) (y : ServerSide) → At w.circuits k j → At w.servers j.server y → HappensDown w k n j x y new → ServersFit w → ServersFit new
down-servers w new k n j x y on at (mid, sent, core, down, gives, is) f = subst (λ (v : World). ServersFit v) (sym is) (frame-servers mid _ (frame-after j.client x x.names _ mid) (taken down))
  where
    taken : DownTaken w k n j y mid → ServersFit mid
    taken (inl (opened, (after, sends, leaves))) = subst (λ (v : World). ServersFit v) (sym leaves) (set-server w j.server (record y { core = after }) (sends-fits y.core after j.at_server n sends (f.cores j.server y at)) f)
    taken (inr (shut, leaves)) = subst (λ (v : World). ServersFit v) (sym leaves) (frame-servers w _ (left-frame w k n j on) f)

-- ---- a step, a pump, a cut

module _ (w : World) (k : ℕ) (j : Joined) (y : ServerSide) (on : At w.circuits k j) (at : At w.servers j.server y) (f : ServersFit w) where
  core-fits : ServerFits y.core
  core-fits = f.cores j.server y at

  acted-said : (did : Action) → Said w.circuits (acted k j y did w).circuits
  acted-said did n m there = (let c = acted-tells w k j y did on n m there in (c.0, c.1, told-more c.0 m [] (λ i m at. absurd cc) c.2))

  acted-others : (did : Action) (l : ℕ) (s : ServerSide) → At (acted k j y did w).servers l s → (l ≡ j.server → ⊥) → At w.servers l s
  acted-others did l s there other = elim (At-set w.servers j.server _ l s there) [ inl here ↦ absurd (other here.0) | inr old ↦ old.0 ]

  handled-servers : (new : World) → StepHandles w k j y new → ServersFit new
  handled-servers new s =
      let next = s.steps.0 in
      let r = next-fits y.core j.at_server s.e s.has core-fits next in
      let mid : World = acted k j y next.action w in
      let after : World = server_after j.server (side_of j.server y mid) (ends_by j.server s.core) s.core mid in
      let g : Step = record { sent = length j.lists.down; logged = logged y w; after = logged y after } in
      subst (λ (v : World). ServersFit v) (sym s.leaves)
      (at-servers after k (handled_at (length j.lists.handled) g next.replies)
      (λ c. (
        next.replies,
        map-both (λ (t : Told). t.message) c.lists.down (about (length j.lists.handled) Reply next.replies) ∙ ap (λ (l : List Fields). sent_down c ++ l) (map-about (length j.lists.handled) next.replies),
        r.0,
      ))
      (after-servers w mid j.server (side_of j.server y mid) (ends_by j.server s.core) s.core (acted-others next.action) (acted-said next.action) (reaches-fits next.action s.steps.1 next.after s.core r.1 s.steps.3 r.2) f))

  lacks-servers : (left : List ℕ) (new : World) → StepLacks w k j y left new → ServersFit new
  lacks-servers left new s =
      subst (λ (v : World). ServersFit v) (sym s.leaves)
      (go s.lacks.written (subst ServerFits (sym s.lacks.leaves) (closed-fits j.at_server s.lacks.mid (left-fits y.core j.at_server s.e s.has core-fits s.lacks.next s.lacks.written s.lacks.mid s.lacks.left_is))))
    where
      go : (o : Option (Handle → Bool)) → ServerFits s.core → ServersFit (server_after j.server (side_of j.server y (unsaid k j y s.lacks.next.action o w)) (ends_here j left j.server s.core) s.core (unsaid k j y s.lacks.next.action o w))
      go None fit = after-servers w w j.server (side_of j.server y w) (ends_here j left j.server s.core) s.core (λ l q there other. there) (said-itself w.circuits) fit f
      go (Some gone) fit =
          let mid : World = acted k j y s.lacks.next.action w in
          after-servers w mid j.server (side_of j.server y mid) (ends_here j left j.server s.core) s.core (acted-others s.lacks.next.action) (acted-said s.lacks.next.action) fit f

  bad-servers : (left : List ℕ) → ServersFit (server_after j.server y (ends_here j left j.server y.core) (closed j.at_server y.core) w)
  bad-servers left = after-servers w w j.server y (ends_here j left j.server y.core) (closed j.at_server y.core) (λ l s there other. there) (said-itself w.circuits) (closed-fits j.at_server y.core core-fits) f

  stepped-servers : (did : Stepped) (new : World) → ServerStepped w k j y did new → ServersFit new
  stepped-servers stepped.Handled new s = handled-servers new s
  stepped-servers stepped.NeedBytes new s = subst (λ (v : World). ServersFit v) (sym s.3) f
  stepped-servers stepped.OutputFull new s = subst (λ (v : World). ServersFit v) (sym s.3) f
  stepped-servers (stepped.Closed why.OutOfMemory left) new s = lacks-servers left new s
  stepped-servers (stepped.Closed why.Misaligned left) new s = subst (λ (v : World). ServersFit v) (sym s.3) (bad-servers left)
  stepped-servers (stepped.Closed why.TooLarge left) new s = subst (λ (v : World). ServersFit v) (sym s.3) (bad-servers left)
  stepped-servers (stepped.Closed why.Cut left) new s = subst (λ (v : World). ServersFit v) (sym s.3) (bad-servers left)
  stepped-servers (stepped.Closed why.Asked left) new s = subst (λ (v : World). ServersFit v) (sym s.3) (bad-servers left)
  stepped-servers (stepped.Closed why.Silence left) new s = subst (λ (v : World). ServersFit v) (sym s.3) (bad-servers left)

  pump-servers : (new : World) → HappensPump w k j y new → ServersFit new
  pump-servers new p =
      let r = pumps-fits y.core j.at_server p.updates p.core p.pumps core-fits in
      subst (λ (v : World). ServersFit v) (sym p.leaves)
      (after-servers w (with_circuit k (stamped p.updates j) w) j.server y (ends_by j.server p.core) p.core (λ l s there other. there)
      (said-set w.circuits k j (stamped p.updates j) on (told-more j _ _ r.0 (stamped-tells p.updates j))) r.1 f)

  cut-servers : (new : World) → HappensCutServer w k j y new → ServersFit new
  cut-servers new c =
      subst (λ (v : World). ServersFit v) (sym c.leaves)
      (after-servers w w j.server y (ends_by j.server c.core) c.core (λ l s there other. there) (said-itself w.circuits) (cuts-fits y.core j.at_server c.core c.cuts core-fits) f)

-- ---- posts, finishes, and records that come and go

module _ (w new : World) (i : ℕ) (y : ServerSide) (at : At w.servers i y) (f : ServersFit w) where
  own-fits : ServerFits y.core
  own-fits = f.cores i y at

  post-servers : (name : List ℕ) (e : Elements) (mask : ℕ) → IsHeldValue e → HappensPost w i y name e mask new → ServersFit new
  post-servers name e mask valued (gone, core, inr refused) = subst (λ (v : World). ServersFit v) (sym refused.3) f
  post-servers name e mask valued (gone, core, inl (posts, is)) =
      let mid : World = with_entries y.life _ (record w { circuits = map (numbers_posted i y.core name mask) w.circuits }) in
      subst (λ (v : World). ServersFit v) (sym is)
      (after-servers w mid i y (ends_by i core) core (λ l s there other. there) (said-map w.circuits (numbers_posted i y.core name mask) (λ c. told-more c _ [] (λ i m at. absurd cc) (posted-tells i y.core name mask c)))
      (posts-fits y.core name e mask gone core valued posts own-fits) f)

  finish-servers : (s : Setting) (name : List ℕ) → Sound s w → HandlesStand w → HappensFinish w i y name new → ServersFit new
  finish-servers s name sound stand (inr refused) = subst (λ (v : World). ServersFit v) (sym refused.2) f
  finish-servers s name sound stand (inl fin) =
      let r = finishes-fits y.core name fin.sent fin.core fin.finishes own-fits in
      let side : ServerSide = finish.side s w new i y name at sound stand fin in
      let mid : World = finish.mid s w new i y name at sound stand fin in
      subst (λ (v : World). ServersFit v) (sym fin.leaves)
      (after-servers w mid i side (ends_by i fin.core) fin.core
      (λ l q there other. elim (At-set w.servers i side l q (subst (λ (z : List ServerSide). At z l q) (finish.mid-servers s w new i y name at sound stand fin) there)) [ inl here ↦ absurd (other here.0) | inr old ↦ old.0 ])
      (λ n m there.
      let c = finish.mid-is s w new i y name at sound stand fin n m there in
      elim c.2 [ inl here ↦ (c.0, c.1, told-more c.0 m _ r.0 here.1) | inr other ↦ (c.0, c.1, told-more c.0 m [] (λ i m at. absurd cc) other.1) ]) r.1 f)

  remove-servers : (name : List ℕ) → HappensRemove w i y name new → ServersFit new
  remove-servers name (gone, left, core, inr (removes, is)) = subst (λ (v : World). ServersFit v) (sym is) f
  remove-servers name (gone, left, core, inl (removes, is)) =
      let side : ServerSide = record y { records = filter (λ (r : RecordSide). not (bytes_eq r.name name)) y.records } in
      subst (λ (v : World). ServersFit v) (sym is)
      (after-servers w _ i side (ends_by i core) core (λ l s there other. elim (At-set w.servers i side l s there) [ inl here ↦ absurd (other here.0) | inr old ↦ old.0 ]) (said-map w.circuits (removed_at i y.core name gone left) more)
      (removes-fits y.core name gone left core removes own-fits) f)
    where
      more : (c : Joined) → More c (removed_at i y.core name gone left c)
      more c = go (eqb c.server i && c.lists.server_open)
        where
          told : List (Handle × OpenChannel)
          told = disconnected_at name gone left c.at_server (under y.core.circuits c.at_server)

          over : SubKey → Bool
          over k = list_any (λ (e : Handle × OpenChannel). eqb (wire_of e.0) k.sid) told

          go : (b : Bool) → More c (cond b (without_standing over (record c { lists = record c.lists { down = c.lists.down ++ map (removal_told c.creations) told } })) c)
          go true = (
            map (λ (e : Handle × OpenChannel). disconnect e.1.cid) told,
            map-both (λ (t : Told). t.message) c.lists.down (map (removal_told c.creations) told) ∙ ap (λ (l : List Fields). sent_down c ++ l) (map-told c.creations told),
            removed-good y.core name gone left c.at_server own-fits,
          )
          go false = no-more c c refl

  add-servers : (r : RecordState) → IsHeldValue r.value → HappensAdd w i y r new → ServersFit new
  add-servers r valued (core, behind, inr refused) = subst (λ (v : World). ServersFit v) (sym refused.3) f
  add-servers r valued (core, behind, inl (adds, is)) =
      let fit = adds-fits y.core r behind core valued adds own-fits in
      subst (λ (v : World). ServersFit v) (sym is) (one-server w _ i _ (λ l s there. elim (At-set w.servers i _ l s there) [ inl here ↦ inl here | inr old ↦ inr old.0 ]) (said-itself w.circuits) fit f)

  restart-servers : (s : Setting) → IsSetting s → Sound s w → HappensServerRestart w i y new → ServersFit new
  restart-servers s ok sound is =
      let z : ServerSide = server_begun w.moment (length w.server_logs) y.setting in
      let given : At s.servers i y.setting = sound.given i y at in
      subst (λ (v : World). ServersFit v) (sym is)
      (one-server w _ i z (λ l q there. elim (At-set w.servers i z l q there) [ inl here ↦ inl here | inr old ↦ inr old.0 ]) (said-ending w.circuits (ends_untold i y.core))
      (begins-fits y.setting.address.port w.moment y.setting.rules y.setting.records (ok.ports i y.setting given) (λ n r there. ok.records i n y.setting r given there)) f)

-- ---- every event

leaves-servers : (s : Setting) (w new : World) (e : Event) → IsSetting s → IsEvent e → Stands s w → (at : CanBe w e) → Leaves w e at new → ServersFit w → ServersFit new
leaves-servers s w new (event.Open i name priority) ok fine h at l f = frame-servers w new (open-frame w new i at.x name priority l) f
leaves-servers s w new (event.Clear i c) ok fine h at l f = frame-servers w new (clear-frame w new i at.x c at.h l) f
leaves-servers s w new (event.Read i c data_type count) ok fine h at l f = frame-servers w new (read-frame w new i at.x c at.h data_type count l) f
leaves-servers s w new (event.Write i c e) ok fine h at l f = frame-servers w new (write-frame w new i at.x c at.h e l) f
leaves-servers s w new (event.WriteNotify i c e) ok fine h at l f = frame-servers w new (put-frame w new i at.x c at.h e l) f
leaves-servers s w new (event.Subscribe i c data_type count mask) ok fine h at l f = frame-servers w new (subscribe-frame w new i at.x c at.h data_type count mask l) f
leaves-servers s w new (event.Unsubscribe i n) ok fine h at l f = frame-servers w new (unsubscribe-frame w new i at.x at.s l) f
leaves-servers s w new (event.Collect i r) ok fine h at l f = frame-servers w new (handing-frame w new at.x r at.q.1 (Collected r) l) f
leaves-servers s w new (event.GiveUp i r) ok fine h at l f = frame-servers w new (handing-frame w new at.x r at.q.1 (GaveUp r) l) f
leaves-servers s w new (event.ClientDatagram i from bytes) ok fine h at l f = frame-servers w new (datagram-frame w new i at.x from bytes l) f
leaves-servers s w new (event.ServerDatagram i from bytes) ok fine h at l f = subst (λ (z : World). ServersFit z) (sym l.2) f
leaves-servers s w new (event.Accept i) ok fine h at l f = accept-servers w new i at.x at.v l f
leaves-servers s w new (event.Up k n) ok fine h at l f = up-servers w new k n at.0.j at.0.x at.0.y at.0.joins.at at.0.joins.server l f
leaves-servers s w new (event.Down k n) ok fine h at l f = down-servers w new k n at.0.j at.0.x at.0.y at.0.joins.at at.0.joins.server l f
leaves-servers s w new (event.ServerStep k) ok fine h at l f = stepped-servers w k at.j at.y at.joins.at at.joins.server f l.0 new l.1
leaves-servers s w new (event.ClientStep k) ok fine h at l f = frame-servers w new (hear-frame w new k at.j at.x at.joins.at l) f
leaves-servers s w new (event.Pump k) ok fine h at l f = pump-servers w k at.j at.y at.joins.at at.joins.server f new l
leaves-servers s w new (event.CutClient k) ok fine h at l f = frame-servers w new (cut-frame w new k at.j at.x at.joins.at l) f
leaves-servers s w new (event.CutServer k) ok fine h at l f = cut-servers w k at.j at.y at.joins.at at.joins.server f new l
leaves-servers s w new (event.ClientRestart i) ok fine h at l f = frame-servers w new (begun-frame w new i at.x l) f
leaves-servers s w new (event.ServerRestart i) ok fine h at l f = restart-servers w new i at.y at.at f s ok h.sound l
leaves-servers s w new (event.Post i name e mask) ok fine h at l f = post-servers w new i at.y at.at f name e mask fine.0 l
leaves-servers s w new (event.Finish i name) ok fine h at l f = finish-servers w new i at.y at.at f s name h.sound h.handles l
leaves-servers s w new (event.Remove i name) ok fine h at l f = remove-servers w new i at.y at.at f name l
leaves-servers s w new (event.Add i r) ok fine h at l f = add-servers w new i at.y at.at f r fine.0 l
leaves-servers s w new (event.Tick moment) ok fine h at (mid, ticks, is) f =
    frame-servers w new (frame-then w mid new (ticks-frame moment (clients_below (length w.clients)) w mid ticks) (frame-self mid new (ap (λ (z : World). z.servers) is) (ap (λ (z : World). z.server_logs) is) (ap (λ (z : World). z.circuits) is))) f

pub event-servers : (s : Setting) (w new : World) (e : Event) → IsSetting s → IsEvent e → Stands s w → Happens w e new → ServersFit w → ServersFit new
event-servers s w new e ok fine h happens f = leaves-servers s w new e ok fine h happens.0 happens.1 f

-- ---- every run

pub opening-servers : (s : Setting) → IsSetting s → ServersFit (opening s)
opening-servers s ok = record {
  sent = λ k j at. absurd (none_at k j at);
  cores = λ i y at.
      let g = numbered-at (server_begun 0) s.servers 0 i y at in
      subst (λ (z : ServerSide). ServerFits z.core) (sym g.2) (begins-fits g.0.address.port 0 g.0.rules g.0.records (ok.ports i g.0 g.1) (λ n r there. ok.records i n g.0 r g.1 there));
}

events-servers : (s : Setting) (es : List Event) (w new : World) → IsSetting s → AreEvents es → FoldsTo Happens w es new → Stands s w → ServersFit w → ServersFit new
events-servers s [] w new ok fine same h f = subst (λ (z : World). ServersFit z) same f
events-servers s (e ∷ es) w new ok fine (mid, one, rest) h f =
    events-servers s es mid new ok (λ i d at. fine (i + 1) d (later i d at)) rest (event-stands s w mid e ok one h) (event-servers s w mid e ok (fine 0 e refl) h one f)
  where
    later : (i : ℕ) (d : Event) → At es i d → At (e ∷ es) (i + 1) d
    later i d at = (let n : suc i ≡ i + 1 = omega arith in subst (λ (k : ℕ). At (e ∷ es) k d) n at)

stops-servers : (mid : World) (stopped : Option Event) (w : World) → StopsAt mid stopped w → ServersFit mid → ServersFit w
stops-servers mid (Some (event.Tick moment)) w stops f = elim stops [
  | inl same ↦ subst (λ (z : World). ServersFit z) (sym same) f
  | inr ticked ↦ frame-servers mid w (ticks-frame moment (clients_below ticked.0) mid w ticked.3) f
]
stops-servers mid stopped w stops f = subst (λ (z : World). ServersFit z) (sym stops) f

pub runs-servers : (s : Setting) (es : List Event) (stopped : Option Event) (w : World) → IsSetting s → AreEvents es → Runs s es stopped w → ServersFit w
runs-servers s es stopped w ok fine (mid, folds, stops) = stops-servers mid stopped w stops (events-servers s es (opening s) mid ok fine folds (opening-stands s ok) (opening-servers s ok))

-- what an open end of a client takes next is what its server sent next
pub runs-hear : (s : Setting) (es : List Event) (stopped : Option Event) (w : World) → IsSetting s → AreEvents es → Runs s es stopped w → HearsSent w
runs-hear s es stopped w ok fine runs = hears-sent w (runs-stand s es stopped w ok runs).streams (runs-servers s es stopped w ok fine runs).sent
