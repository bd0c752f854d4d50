-- Over every event each server keeps its port and its rules, and at open ends what it knows of the
-- peer; but for a circuit that is made, and the end at which a message is handled.
use Rattle.std.proofs.Common.{◌≡◌, ℕ, inl, inr, ◌⊎◌, Bool, List, Option, Some, None, refl, sym, ap, subst, ◌∙◌}
use Rattle.std.specs.Prelude.{Ok, Result, filter, length, not, option_map, slice_get, unwrap_or}
use Rattle.std.specs.Str.{bytes_eq}
use Rattle.ca_arena.specs.declared.handle.Handle.{Handle}
use Rattle.ca_dbr.specs.Elements.{Elements}
use Rattle.ca_ids.specs.Table.{MayGive}
use Rattle.ca_records.specs.Record.{RecordState, unset}
use Rattle.ca_text.specs.declared.refusal.Refusal.{Refusal}
use Rattle.ca_text.specs.Place.{At}
use Rattle.ca_text.proofs.Places.{At-set}
use Rattle.ca_model.specs.Due.{Action}
use Rattle.ca_model.specs.Ends as why
use Rattle.ca_model.specs.History.{Collected, GaveUp, Step}
use Rattle.ca_model.specs.Server.{Server}
use Rattle.ca_model.specs.ServerSteps.{Accepts, LeftOf, Stepped, closed}
use Rattle.ca_model.specs.ServerSteps as stepped
use Rattle.ca_model.specs.ClientEvents.{DownTaken, HappensAccept, HappensDown, HappensUp, WantsFirst, up_taken}
use Rattle.ca_model.specs.Events.{Event}
use Rattle.ca_model.specs.Events as event
use Rattle.ca_model.specs.Runs.{CanBe, Happens, Leaves, clients_below}
use Rattle.ca_model.specs.ServerEvents.{HappensAdd, HappensCutServer, HappensFinish, HappensPost, HappensPump, HappensRemove, HappensServerRestart, ServerStepped, StepHandles, StepLacks, acted, ends_by, ends_here, handled_at, logged, records_after, server_after, side_of, stamped, unsaid}
use Rattle.ca_model.specs.ServerEvents as server
use Rattle.ca_model.specs.World.{ClientSide, Joined, PutPlace, RecordSide, ServerSetting, ServerSide, World, server_begun, with_circuit, with_server}
use Rattle.ca_laws_parts.specs.Moves.{finish_told, post_told}
use Rattle.ca_laws_parts.specs.Moves as moves
use Rattle.ca_laws_parts.proofs.Every.{ticks-frame}
use Rattle.ca_laws_parts.proofs.Frames.{Frame}
use Rattle.ca_laws_parts.proofs.HappensClient.{begun-frame, clear-frame, cut-frame, datagram-frame, handing-frame, hear-frame, open-frame, put-frame, read-frame, subscribe-frame, unsubscribe-frame, up-frame, write-frame}
use Rattle.ca_laws_parts.proofs.LastingStep.{told-servers}
use Rattle.ca_laws_runs.specs.KnewFaces.{Face, IsFaced, face_of}
use Rattle.ca_laws_runs.proofs.FaceCalls.{accepts-faced, adds-faced, begun-faced, blank, closed-faced, cuts-faced, faced-as, finishes-faced, gives-faced, next-faced, posts-faced, pumps-faced, reaches-faced, removes-faced, reported-faced, sends-faced}

-- ---- the servers of a world

-- of each server, of this number, this holds of its life, and of its ends
abbrev pub AreFaced : (ℕ → Handle → Face → Type 0) → (ℕ → ℕ → Type 0) → World → Type 0
AreFaced Q L w = (i : ℕ) (y : ServerSide) → At w.servers i y → IsFaced y.setting (Q i) y.core × L i y.life

module _ (Q : ℕ → Handle → Face → Type 0) (L : ℕ → ℕ → Type 0) where
  abbrev S : ℕ → ServerSide → Type 0
  S i y = IsFaced y.setting (Q i) y.core × L i y.life

  same-servers : (w new : World) → new.servers ≡ w.servers → AreFaced Q L w → AreFaced Q L new
  same-servers w new is f i y at = f i y (subst (λ (l : List ServerSide). At l i y) is at)

  -- server i is this now
  one-server : (w new : World) (i : ℕ) (z : ServerSide) → ((l : ℕ) (s : ServerSide) → At new.servers l s → ((l ≡ i) × (s ≡ z)) ⊎ (At w.servers l s × (l ≡ i → ⊥))) → S i z
      → ((l : ℕ) (s : ServerSide) → At w.servers l s → (l ≡ i → ⊥) → S l s) → AreFaced Q L new
  one-server w new i z servers own f l s at = elim (servers l s at) [
    | inl here ↦ subst (λ (v : ℕ × ServerSide). S v.0 v.1) (λ k. (sym here.0 k, sym here.1 k)) own
    | inr old ↦ f l s old.0 old.1
  ]

  set-server : (w new : World) (i : ℕ) (z : ServerSide) → new.servers ≡ (with_server i z w).servers → S i z → AreFaced Q L w → AreFaced Q L new
  set-server w new i z is own f =
      one-server w new i z (λ l s at. At-set w.servers i z l s (subst (λ (q : List ServerSide). At q l s) is at)) own (λ l s at other. f l s at)

  -- a call of server i is over
  after-servers : (w mid : World) (i : ℕ) (side : ServerSide) (ends : Joined → Option (List ℕ)) (core : Server) → ((l : ℕ) (s : ServerSide) → At mid.servers l s → (l ≡ i → ⊥) → At w.servers l s) → IsFaced side.setting (Q i) core → L i side.life
      → ((l : ℕ) (s : ServerSide) → At w.servers l s → (l ≡ i → ⊥) → S l s) → AreFaced Q L (server_after i side ends core mid)
  after-servers w mid i side ends core others own life f =
      one-server w (server_after i side ends core mid) i _ (λ l s at. elim (At-set mid.servers i _ l s at) [ inl here ↦ inl here | inr old ↦ inr (others l s old.0 old.1, old.1) ])
      (reported-faced side.setting (Q i) core own, life) f

  as-before : (w : World) (i : ℕ) → AreFaced Q L w → (l : ℕ) (s : ServerSide) → At w.servers l s → (l ≡ i → ⊥) → S l s
  as-before w i f l s at other = f l s at

-- ---- a message is handled, or nearly

other-acted : (w : World) (k : ℕ) (j : Joined) (y : ServerSide) (did : Action) (l : ℕ) (s : ServerSide) → At (acted k j y did w).servers l s → (l ≡ j.server → ⊥) → At w.servers l s
other-acted w k j y did l s there other = elim (At-set w.servers j.server _ l s there) [ inl here ↦ absurd (other here.0) | inr old ↦ old.0 ]

-- it was given the same, and has the same life
side-is : (w : World) (k : ℕ) (j : Joined) (y : ServerSide) (did : Action) → let z : ServerSide = side_of j.server y (acted k j y did w) in (z.setting ≡ y.setting) × (z.life ≡ y.life)
side-is w k j y did = go (slice_get (acted k j y did w).servers j.server) refl
  where
    next : ServerSide
    next = (let p : PutPlace = record { circuit = k; place = length j.lists.handled } in record y { records = records_after y.core j.at_server p did y.records })

    go : (o : Option ServerSide) → slice_get (acted k j y did w).servers j.server ≡ o → let z : ServerSide = unwrap_or o y in (z.setting ≡ y.setting) × (z.life ≡ y.life)
    go None is = (refl, refl)
    go (Some z) is = elim (At-set w.servers j.server next j.server z is) [ inl own ↦ (ap (λ (x : ServerSide). x.setting) own.1, ap (λ (x : ServerSide). x.life) own.1) | inr old ↦ absurd (old.1 refl) ]

-- The end at which a message was handled knows this now, and other ends know what they did.
abbrev pub Stepped-faces : (Q : ℕ → Handle → Face → Type 0) → Joined → Face → ℕ → Handle → Face → Type 0
Stepped-faces Q j own i h f = ((i ≡ j.server) → (h ≡ j.at_server) → f ≡ own) × (((i ≡ j.server) → (h ≡ j.at_server) → ⊥) → Q i h f)

pub handled-faced : (Q : ℕ → Handle → Face → Type 0) (L : ℕ → ℕ → Type 0) (w new : World) (k : ℕ) (j : Joined) (y : ServerSide) → At w.servers j.server y → (f : StepHandles w k j y new) → AreFaced Q L w
    → AreFaced (Stepped-faces Q j (face_of (f.steps.0).handles.acted)) L new
handled-faced Q L w new k j y at f all = subst (λ (z : World). AreFaced R L z) (sym f.leaves) (noted (slice_get after.circuits k))
  where
    own : Face
    own = face_of (f.steps.0).handles.acted

    R : ℕ → Handle → Face → Type 0
    R = Stepped-faces Q j own

    mid : World
    mid = acted k j y (f.steps.0).action w

    after : World
    after = server_after j.server (side_of j.server y mid) (ends_by j.server f.core) f.core mid

    step : Step
    step = record { sent = length j.lists.down; logged = logged y w; after = logged y after }

    core : IsFaced y.setting (R j.server) f.core
    core =
        reaches-faced y.setting (R j.server) (f.steps.0).action f.steps.1 (f.steps.0).after f.core f.steps.3
        (next-faced y.setting (Q j.server) (R j.server) y.core j.at_server f.e f.steps.0 ((λ a b. refl), (λ none. absurd (none refl refl))) (λ g x other q. ((λ a b. absurd (other b)), (λ none. q))) (all j.server y at).0)

    first : AreFaced R L after
    first =
        after-servers R L w mid j.server (side_of j.server y mid) (ends_by j.server f.core) f.core (other-acted w k j y (f.steps.0).action)
        (subst (λ (x : ServerSetting). IsFaced x (R j.server) f.core) (sym (side-is w k j y (f.steps.0).action).0) core)
        (subst (λ (n : ℕ). L j.server n) (sym (side-is w k j y (f.steps.0).action).1) (all j.server y at).1)
        (λ l s there other. (faced-as s.setting (Q l) (R l) s.core (λ h x q. ((λ a b. absurd (other a)), (λ none. q))) (all l s there).0, (all l s there).1))

    noted : (o : Option Joined) → AreFaced R L (unwrap_or (option_map (λ (c : Joined). with_circuit k (handled_at (length j.lists.handled) step (f.steps.0).replies c) after) o) after)
    noted None = first
    noted (Some c) = first

-- ---- every other event

-- what is to hold if this is the event: it is no step of a server's end, an end that is accepted
-- may know nothing, and a server may begin a new life
abbrev pub Calm : (ℕ → Handle → Face → Type 0) → (ℕ → ℕ → Type 0) → World → Event → Type 0
Calm Q L w (event.ServerStep k) = ⊥
Calm Q L w (event.ServerRestart i) = L i (length w.server_logs)
Calm Q L w (event.Accept n) = (i : ℕ) (y : ServerSide) (h : Handle) → At w.servers i y → MayGive y.core.circuits h → Q i h blank
Calm Q L w e = Unit {0}

module _ (Q : ℕ → Handle → Face → Type 0) (L : ℕ → ℕ → Type 0) (w : World) (f : AreFaced Q L w) where
  frame-faced : (new : World) → Frame w new → AreFaced Q L new
  frame-faced new g = same-servers Q L w new g.servers f

  -- ---- bytes move, and circuits are made

  accept-faced : (new : World) (c : ℕ) (x : ClientSide) (v : WantsFirst w x) → ((h : Handle) → MayGive v.y.core.circuits h → Q v.i h blank) → HappensAccept w c x v new → AreFaced Q L new
  accept-faced new c x v first happens = elim happens.leaves [
    | inl refusal ↦ subst (λ (u : World). AreFaced Q L u) (sym refusal.1) f
    | inr did ↦
        let accepts : Accepts v.y.core (Ok did.0) happens.server = subst (λ (a : Result Handle Refusal). Accepts v.y.core a happens.server) did.4 happens.accepts in
        set-server Q L w new v.i (record v.y { core = happens.server }) (ap (λ (z : World). z.servers) did.6)
        (accepts-faced v.y.setting (Q v.i) v.y.core did.0 happens.server accepts (first did.0) (f v.i v.y v.there.0).0, (f v.i v.y v.there.0).1) f
  ]

  up-faced : (new : World) (k n : ℕ) (j : Joined) (x : ClientSide) (y : ServerSide) → At w.circuits k j → At w.servers j.server y → HappensUp w k n j x y new → AreFaced Q L new
  up-faced new k n j x y on at (core, gives, is) =
      let mid : World = up_taken k n j x w in
      set-server Q L mid new j.server (record y { core = core }) (ap (λ (z : World). z.servers) is) (gives-faced y.setting (Q j.server) y.core core j.at_server _ gives (f j.server y at).0, (f j.server y at).1)
      (same-servers Q L w mid (up-frame w k n j x on).servers f)

  down-faced : (new : World) (k n : ℕ) (j : Joined) (x : ClientSide) (y : ServerSide) → At w.servers j.server y → HappensDown w k n j x y new → AreFaced Q L new
  down-faced new k n j x y at (mid, sent, core, down, gives, is) = same-servers Q L mid new (ap (λ (z : World). z.servers) is) (taken down)
    where
      taken : DownTaken w k n j y mid → AreFaced Q L mid
      taken (inl (opened, (after, sends, leaves))) = set-server Q L w mid j.server (record y { core = after }) (ap (λ (z : World). z.servers) leaves) (sends-faced y.setting (Q j.server) y.core after j.at_server n sends (f j.server y at).0, (f j.server y at).1) f
      taken (inr (shut, leaves)) = same-servers Q L w mid (ap (λ (z : World). z.servers) leaves) f

  -- ---- a step that handles none, a pump, a cut

  module _ (new : World) (k : ℕ) (j : Joined) (y : ServerSide) (at : At w.servers j.server y) where
    abbrev R : Handle → Face → Type 0
    R g x = (g ≡ j.at_server → ⊥) → Q j.server g x

    own : IsFaced y.setting R y.core
    own = faced-as y.setting (Q j.server) R y.core (λ g x q other. q) (f j.server y at).0

    closing-faced : (side : ServerSide) (ends : Joined → Option (List ℕ)) (core made : Server) (mid : World) → (side.setting ≡ y.setting) × (side.life ≡ y.life) → ((l : ℕ) (s : ServerSide) → At mid.servers l s → (l ≡ j.server → ⊥) → At w.servers l s) → core ≡ closed j.at_server made
        → IsFaced y.setting R made → AreFaced Q L (server_after j.server side ends core mid)
    closing-faced side ends core made mid same others is fit =
        after-servers Q L w mid j.server side ends core others
        (subst (λ (x : ServerSetting). IsFaced x (Q j.server) core) (sym same.0) (subst (λ (x : Server). IsFaced y.setting (Q j.server) x) (sym is) (closed-faced y.setting (Q j.server) j.at_server made fit))) (subst (λ (n : ℕ). L j.server n) (sym same.1) (f j.server y at).1) (as-before Q L w j.server f)

    lacks-faced : (left : List ℕ) → StepLacks w k j y left new → AreFaced Q L new
    lacks-faced left s = subst (λ (v : World). AreFaced Q L v) (sym s.leaves) (go s.lacks.written s.lacks.mid s.lacks.left_is s.lacks.leaves)
      where
        go : (o : Option (Handle → Bool)) (made : Server) → LeftOf s.lacks.next o made → s.core ≡ closed j.at_server made
            → AreFaced Q L (server_after j.server (side_of j.server y (unsaid k j y s.lacks.next.action o w)) (ends_here j left j.server s.core) s.core (unsaid k j y s.lacks.next.action o w))
        go None made same is =
            closing-faced (side_of j.server y w) (ends_here j left j.server s.core) s.core made w (ap (λ (o : Option ServerSide). (unwrap_or o y).setting) at, ap (λ (o : Option ServerSide). (unwrap_or o y).life) at) (λ l q there other. there) is
            (subst (λ (x : Server). IsFaced y.setting R x) (sym same) own)
        go (Some gone) made wrote is =
            closing-faced (side_of j.server y (acted k j y s.lacks.next.action w)) (ends_here j left j.server s.core) s.core made (acted k j y s.lacks.next.action w) (side-is w k j y s.lacks.next.action) (other-acted w k j y s.lacks.next.action) is
            (reaches-faced y.setting R s.lacks.next.action gone s.lacks.next.after made wrote.1
            (next-faced y.setting (Q j.server) R y.core j.at_server s.e s.lacks.next (λ other. absurd (other refl)) (λ g x other q none. q) (f j.server y at).0))

    bad-faced : (left : List ℕ) → AreFaced Q L (server_after j.server y (ends_here j left j.server y.core) (closed j.at_server y.core) w)
    bad-faced left = closing-faced y (ends_here j left j.server y.core) (closed j.at_server y.core) y.core w (refl, refl) (λ l s there other. there) refl own

    pub unhandled-faced : (did : Stepped) → (did ≡ stepped.Handled → ⊥) → ServerStepped w k j y did new → AreFaced Q L new
    unhandled-faced stepped.Handled none s = absurd (none refl)
    unhandled-faced stepped.NeedBytes none s = subst (λ (v : World). AreFaced Q L v) (sym s.3) f
    unhandled-faced stepped.OutputFull none s = subst (λ (v : World). AreFaced Q L v) (sym s.3) f
    unhandled-faced (stepped.Closed why.OutOfMemory left) none s = lacks-faced left s
    unhandled-faced (stepped.Closed cause left) none s = subst (λ (v : World). AreFaced Q L v) (sym s.3) (bad-faced left)

    pump-faced : HappensPump w k j y new → AreFaced Q L new
    pump-faced p =
        subst (λ (v : World). AreFaced Q L v) (sym p.leaves)
        (after-servers Q L w (with_circuit k (stamped p.updates j) w) j.server y (ends_by j.server p.core) p.core (λ l s there other. there) (pumps-faced y.setting (Q j.server) y.core j.at_server p.updates p.core p.pumps (f j.server y at).0) (f j.server y at).1 (as-before Q L w j.server f))

    cut-faced : HappensCutServer w k j y new → AreFaced Q L new
    cut-faced c =
        subst (λ (v : World). AreFaced Q L v) (sym c.leaves)
        (after-servers Q L w w j.server y (ends_by j.server c.core) c.core (λ l s there other. there) (cuts-faced y.setting (Q j.server) y.core j.at_server c.core c.cuts (f j.server y at).0) (f j.server y at).1 (as-before Q L w j.server f))

  -- ---- posts, finishes, records that come and go, and a new life

  module _ (new : World) (i : ℕ) (y : ServerSide) (at : At w.servers i y) where
    post-faced : (name : List ℕ) (e : Elements) (mask : ℕ) → HappensPost w i y name e mask new → AreFaced Q L new
    post-faced name e mask (gone, core, inr refused) = subst (λ (v : World). AreFaced Q L v) (sym refused.3) f
    post-faced name e mask (gone, core, inl (posts, is)) =
        subst (λ (v : World). AreFaced Q L v) (sym is)
        (after-servers Q L w (post_told w i y name (record { value = e; meta = unset }) mask) i y (ends_by i core) core (λ l s there other. there) (posts-faced y.setting (Q i) y.core name _ mask gone core posts (f i y at).0) (f i y at).1 (as-before Q L w i f))

    finish-faced : (name : List ℕ) → HappensFinish w i y name new → AreFaced Q L new
    finish-faced name (inr refused) = subst (λ (v : World). AreFaced Q L v) (sym refused.2) f
    finish-faced name (inl fin) =
        let side : ServerSide = record y { records = server.with_record name server.next_busy y.records } in
        let told : World = finish_told w i y name fin.cr fin.r fin.p in
        subst (λ (v : World). AreFaced Q L v) (sym fin.leaves)
        (after-servers Q L w (server.replied_at fin.p fin.sent told) i side (ends_by i fin.core) fin.core
        (λ l q there other. elim (At-set w.servers i side l q (subst (λ (z : List ServerSide). At z l q) (told-servers fin.p fin.sent told) there)) [ inl here ↦ absurd (other here.0) | inr old ↦ old.0 ])
        (finishes-faced y.setting (Q i) y.core name fin.sent fin.core fin.finishes (f i y at).0) (f i y at).1 (as-before Q L w i f))

    remove-faced : (name : List ℕ) → HappensRemove w i y name new → AreFaced Q L new
    remove-faced name (gone, left, core, inr (removes, is)) = subst (λ (v : World). AreFaced Q L v) (sym is) f
    remove-faced name (gone, left, core, inl (removes, is)) =
        let side : ServerSide = record y { records = filter (λ (r : RecordSide). not (bytes_eq r.name name)) y.records } in
        subst (λ (v : World). AreFaced Q L v) (sym is)
        (after-servers Q L w (moves.removal_told w i y name gone left) i side (ends_by i core) core (λ l s there other. elim (At-set w.servers i side l s there) [ inl here ↦ absurd (other here.0) | inr old ↦ old.0 ])
        (removes-faced y.setting (Q i) y.core name gone left core removes (f i y at).0) (f i y at).1 (as-before Q L w i f))

    add-faced : (r : RecordState) → HappensAdd w i y r new → AreFaced Q L new
    add-faced r (core, behind, inr refused) = subst (λ (v : World). AreFaced Q L v) (sym refused.3) f
    add-faced r (core, behind, inl (adds, is)) = set-server Q L w new i _ (ap (λ (z : World). z.servers) is) (adds-faced y.setting (Q i) y.core r behind core adds (f i y at).0, (f i y at).1) f

    restart-faced : L i (length w.server_logs) → HappensServerRestart w i y new → AreFaced Q L new
    restart-faced life is = set-server Q L w new i (server_begun w.moment (length w.server_logs) y.setting) (ap (λ (z : World). z.servers) is) (begun-faced y.setting (Q i) w.moment (length w.server_logs), life) f

  -- ---- every event but a step of a server's end

  leaves-faced : (new : World) (e : Event) → Calm Q L w e → (at : CanBe w e) → Leaves w e at new → AreFaced Q L new
  leaves-faced new (event.ServerStep k) calm at l = absurd calm
  leaves-faced new (event.Open i name priority) calm at l = frame-faced new (open-frame w new i at.x name priority l)
  leaves-faced new (event.Clear i c) calm at l = frame-faced new (clear-frame w new i at.x c at.h l)
  leaves-faced new (event.Read i c data_type count) calm at l = frame-faced new (read-frame w new i at.x c at.h data_type count l)
  leaves-faced new (event.Write i c e) calm at l = frame-faced new (write-frame w new i at.x c at.h e l)
  leaves-faced new (event.WriteNotify i c e) calm at l = frame-faced new (put-frame w new i at.x c at.h e l)
  leaves-faced new (event.Subscribe i c data_type count mask) calm at l = frame-faced new (subscribe-frame w new i at.x c at.h data_type count mask l)
  leaves-faced new (event.Unsubscribe i n) calm at l = frame-faced new (unsubscribe-frame w new i at.x at.s l)
  leaves-faced new (event.Collect i r) calm at l = frame-faced new (handing-frame w new at.x r at.q.1 (Collected r) l)
  leaves-faced new (event.GiveUp i r) calm at l = frame-faced new (handing-frame w new at.x r at.q.1 (GaveUp r) l)
  leaves-faced new (event.ClientDatagram i from bytes) calm at l = frame-faced new (datagram-frame w new i at.x from bytes l)
  leaves-faced new (event.ServerDatagram i from bytes) calm at l = subst (λ (z : World). AreFaced Q L z) (sym l.2) f
  leaves-faced new (event.Accept i) calm at l = accept-faced new i at.x at.v (λ h may. calm at.v.i at.v.y h at.v.there.0 may) l
  leaves-faced new (event.Up k n) calm at l = up-faced new k n at.0.j at.0.x at.0.y at.0.joins.at at.0.joins.server l
  leaves-faced new (event.Down k n) calm at l = down-faced new k n at.0.j at.0.x at.0.y at.0.joins.server l
  leaves-faced new (event.ClientStep k) calm at l = frame-faced new (hear-frame w new k at.j at.x at.joins.at l)
  leaves-faced new (event.Pump k) calm at l = pump-faced new k at.j at.y at.joins.server l
  leaves-faced new (event.CutClient k) calm at l = frame-faced new (cut-frame w new k at.j at.x at.joins.at l)
  leaves-faced new (event.CutServer k) calm at l = cut-faced new k at.j at.y at.joins.server l
  leaves-faced new (event.ClientRestart i) calm at l = frame-faced new (begun-frame w new i at.x l)
  leaves-faced new (event.ServerRestart i) calm at l = restart-faced new i at.y at.at calm l
  leaves-faced new (event.Post i name e mask) calm at l = post-faced new i at.y at.at name e mask l
  leaves-faced new (event.Finish i name) calm at l = finish-faced new i at.y at.at name l
  leaves-faced new (event.Remove i name) calm at l = remove-faced new i at.y at.at name l
  leaves-faced new (event.Add i r) calm at l = add-faced new i at.y at.at r l
  leaves-faced new (event.Tick moment) calm at (mid, ticks, is) =
      same-servers Q L w new (ap (λ (z : World). z.servers) is ∙ (ticks-frame moment w (clients_below (length w.clients)) mid ticks).servers) f

  pub event-faced : (new : World) (e : Event) → Calm Q L w e → Happens w e new → AreFaced Q L new
  event-faced new e calm happens = leaves-faced new e calm happens.0 happens.1
