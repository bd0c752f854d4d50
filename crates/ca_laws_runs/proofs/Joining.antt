-- Each life of a client that a world speaks of has its log, over every event.
use Rattle.std.proofs.Common.{◌≡◌, ℕ, zero, suc, ◌+◌, ◌<◌, inl, inr, Bool, true, false, cond, ◌&&◌, eqb, List, [], ◌∷◌, ◌++◌, length, Option, Some, None, refl, sym, ap, subst, ◌∙◌, arith}
use Rattle.std.specs.Prelude.{drop, filter, map, not, option_map, slice_get, slice_set, unwrap_or}
use Rattle.std.specs.List.{fold, list_any}
use Rattle.std.specs.Str.{bytes_eq}
use Rattle.ca_arena.specs.declared.handle.Handle.{Handle}
use Rattle.ca_dbr.specs.Elements.{Elements}
use Rattle.ca_ids.specs.Table.{under}
use Rattle.ca_ids.specs.Wire.{wire_of}
use Rattle.ca_queue.specs.declared.entry.SubKey.{SubKey}
use Rattle.ca_records.specs.Puts.{WaitingPut}
use Rattle.ca_records.specs.Record.{unset}
use Rattle.ca_text.specs.Place.{At}
use Rattle.ca_text.proofs.Places.{At-map, At-mapped, At-set, At-snoc, At-within}
use Rattle.ca_wire.specs.Fields.{Fields}
use Rattle.ca_model.specs.Answers.{Closing, Left, Sending}
use Rattle.ca_model.specs.Answers as answer
use Rattle.ca_model.specs.Client.{Client, out_bytes}
use Rattle.ca_model.specs.ClientEnds.{handed_over}
use Rattle.ca_model.specs.Due.{Action}
use Rattle.ca_model.specs.Ends as why
use Rattle.ca_model.specs.History.{Circuit, Line, OfCircuit, Step}
use Rattle.ca_model.specs.Server.{OpenChannel, Server}
use Rattle.ca_model.specs.ServerSteps.{Stepped, closed}
use Rattle.ca_model.specs.ServerSteps as stepped
use Rattle.ca_model.specs.ClientEvents.{about_at, DownTaken, HappensAccept, HappensClientRestart, HappensClientStep, Outcomes, TicksOne, WantsFirst, after_tick, client_after, client_closed, client_ended, client_gone, client_stepped, connected_as, heard_in, left_silent, lines_of, new_circuit, sent_on, closing_notices, up_taken}
use Rattle.ca_model.specs.Events.{Event}
use Rattle.ca_model.specs.Events as event
use Rattle.ca_model.specs.Runs.{CanBe, Happens, Leaves, TicksAll, clients_below}
use Rattle.ca_model.specs.ServerEvents.{HappensFinish, HappensPost, HappensRemove, ServerStepped, acted, ending, ends_by, ends_here, handled_at, keys_concerned, next_numbers, noted, numbers_after, numbers_posted, removed_at, replied_at, server_after, server_closed, side_of, stamped, unsaid, with_number, write_numbers}
use Rattle.ca_model.specs.ServerEvents as server
use Rattle.ca_model.specs.World.{ClientSetting, ClientSide, Joined, Names, PutPlace, RecordSide, ServerSide, Setting, World, log_length, opening, with_circuit, with_client, with_lines}
use Rattle.ca_laws_parts.proofs.Handled.{numbers-like, writes-like}
use Rattle.ca_laws_parts.specs.Moves.{finish_told, post_told}
use Rattle.ca_laws_parts.specs.Moves as moves
use Rattle.ca_laws_parts.proofs.WritesEvents.{numbered-at}
use Rattle.ca_laws_parts.proofs.Lasting.{told_late}
use Rattle.ca_laws_parts.proofs.LastingStep.{replied-back}
use Rattle.ca_laws_parts.proofs.WritesLists.{length-more, none_at}
use Rattle.ca_laws_runs.specs.Joining.{HaveLines}
use Rattle.ca_laws_runs.proofs.FollowsStanding.{stamped-is}

-- ---- parts of a world

set-length : {A : Type 0} (xs : List A) (i : ℕ) (y : A) → length (slice_set xs i y) ≡ length xs
set-length [] i y = refl
set-length (x ∷ xs) zero y = refl
set-length (x ∷ xs) (suc i) y = ap (λ (n : ℕ). suc n) (set-length xs i y)

-- as many logs, the same clients, and each circuit of the same life
lines-kept : (w new : World) → new.clients ≡ w.clients → length new.client_logs ≡ length w.client_logs → ((n : ℕ) (d : Joined) → At new.circuits n d → (c : Joined) × At w.circuits n c × (d.lists.client ≡ c.lists.client)) → HaveLines w → HaveLines new
lines-kept w new clients logs back h = record {
  lives = λ i x at. subst (λ (n : ℕ). x.life < n) (sym logs) (h.lives i x (subst (λ (l : List ClientSide). At l i x) clients at));
  joins = λ n d at. (let c = back n d at in subst (λ (v : ℕ × ℕ). v.0 < v.1) (λ i. (sym c.2 i, sym logs i)) (h.joins n c.0 c.1));
}

lines-map : (w new : World) (f : Joined → Joined) → new.clients ≡ w.clients → length new.client_logs ≡ length w.client_logs → new.circuits ≡ map f w.circuits → ((c : Joined) → (f c).lists.client ≡ c.lists.client) → HaveLines w → HaveLines new
lines-map w new f clients logs circuits same h =
    lines-kept w new clients logs (λ n d at. (let c = At-mapped f w.circuits n d (subst (λ (l : List Joined). At l n d) circuits at) in (c.0, c.1, ap (λ (z : Joined). z.lists.client) c.2 ∙ same c.0))) h

lines-set : (w : World) (k : ℕ) (j d : Joined) → At w.circuits k j → d.lists.client ≡ j.lists.client → HaveLines w → HaveLines (with_circuit k d w)
lines-set w k j d on same h =
    lines-kept w (with_circuit k d w) refl refl
    (λ n c at. elim (At-set w.circuits k d n c at) [
      | inl own ↦ (j, subst (λ (m : ℕ). At w.circuits m j) (sym own.0) on, ap (λ (z : Joined). z.lists.client) own.1 ∙ same)
      | inr old ↦ (c, old.0, refl)
    ]) h

lines-same : (w new : World) → new.clients ≡ w.clients → new.client_logs ≡ w.client_logs → new.circuits ≡ w.circuits → HaveLines w → HaveLines new
lines-same w new clients logs circuits h =
    lines-kept w new clients (ap (λ (l : List (List Line)). length l) logs) (λ n d at. (d, subst (λ (l : List Joined). At l n d) circuits at, refl)) h

-- a client goes on in the same life
lines-client : (w : World) (i : ℕ) (x next : ClientSide) → At w.clients i x → next.life ≡ x.life → HaveLines w → HaveLines (with_client i next w)
lines-client w i x next at life h = record {
  lives = λ j z there. elim (At-set w.clients i next j z there) [
    | inl own ↦ subst (λ (n : ℕ). n < length w.client_logs) (sym (ap (λ (v : ClientSide). v.life) own.1 ∙ life)) (h.lives i x at)
    | inr old ↦ h.lives j z old.0
  ];
  joins = h.joins;
}

lines-told : (w : World) (life : ℕ) (lines : List Line) → HaveLines w → HaveLines (with_lines life lines w)
lines-told w life lines h = lines-kept w (with_lines life lines w) refl (set-length w.client_logs life _) (λ n d at. (d, at, refl)) h

lines-after : (w : World) (i : ℕ) (x : ClientSide) (spoken : Names) (o : Outcomes) → At w.clients i x → HaveLines w → HaveLines (client_after i x spoken o w)
lines-after w i x spoken o at h =
    let up : Joined → Joined = λ (c : Joined). record c { lists = record c.lists { up = c.lists.up ++ sent_on i spoken o.sent c } } in
    let mid : World = record w { circuits = map up w.circuits } in
    lines-client (with_lines x.life o.lines mid) i x (record x { core = o.core; names = o.names }) at refl
    (lines-told mid x.life o.lines (lines-map w mid up refl refl refl (λ c. refl) h))

-- the same, by what the call leaves
lines-left : (w : World) (i : ℕ) (x : ClientSide) (spoken names : Names) (core : Client) (lines : List Line) (sent : List Sending) → At w.clients i x → HaveLines w
    → HaveLines (client_after i x spoken (record { core = core; names = names; lines = lines; sent = sent }) w)
lines-left w i x spoken names core lines sent at h = lines-after w i x spoken (record { core = core; names = names; lines = lines; sent = sent }) at h

-- ---- what events do to a circuit

client-ending : (ends : Joined → Option (List ℕ)) (c : Joined) → (ending ends c).lists.client ≡ c.lists.client
client-ending ends c = go (ends c)
  where
    go : (o : Option (List ℕ)) → (unwrap_or (option_map (λ (left : List ℕ). server_closed left c) o) c).lists.client ≡ c.lists.client
    go None = refl
    go (Some left) = refl

lines-server : (w : World) (i : ℕ) (side : ServerSide) (ends : Joined → Option (List ℕ)) (core : Server) → HaveLines w → HaveLines (server_after i side ends core w)
lines-server w i side ends core h = lines-map w (server_after i side ends core w) (ending ends) refl refl refl (client-ending ends) h

client-if : (c d : Joined) (b : Bool) → d.lists.client ≡ c.lists.client → (cond b d c).lists.client ≡ c.lists.client
client-if c d true same = same
client-if c d false same = refl

client-numbered : (c : Joined) (keys : List SubKey) → (fold with_number c keys).lists.client ≡ c.lists.client
client-numbered c [] = refl
client-numbered c (k ∷ keys) = client-numbered (with_number c k) keys

client-posted : (i : ℕ) (core : Server) (name : List ℕ) (mask : ℕ) (c : Joined) → (numbers_posted i core name mask c).lists.client ≡ c.lists.client
client-posted i core name mask c =
    client-if c (fold with_number c (keys_concerned name mask (under core.circuits c.at_server))) (eqb c.server i && c.lists.server_open) (client-numbered c (keys_concerned name mask (under core.circuits c.at_server)))

client-next : (i : ℕ) (core : Server) (name : List ℕ) (ws : List WaitingPut) (c : Joined) → (next_numbers i core name ws c).lists.client ≡ c.lists.client
client-next i core name [] c = refl
client-next i core name (x ∷ ws) c = client-posted i core name 3 c

client-removed : (i : ℕ) (core : Server) (name : List ℕ) (gone : Handle → Bool) (left : Handle → ℕ) (c : Joined) → (removed_at i core name gone left c).lists.client ≡ c.lists.client
client-removed i core name gone left c = go (eqb c.server i && c.lists.server_open)
  where
    told : List (Handle × OpenChannel)
    told = server.disconnected_at name gone left c.at_server (under core.circuits c.at_server)

    go : (b : Bool) → (cond b (server.without_standing (λ (k : SubKey). list_any (λ (x : Handle × OpenChannel). eqb (wire_of x.0) k.sid) told) (record c { lists = record c.lists { down = c.lists.down ++ map (server.removal_told c.creations) told } })) c).lists.client ≡ c.lists.client
    go true = refl
    go false = refl

lines-acted : (w : World) (k : ℕ) (j : Joined) (y : ServerSide) (did : Action) → At w.circuits k j → HaveLines w → HaveLines (acted k j y did w)
lines-acted w k j y did on h =
    let numbers : Joined = numbers_after (length j.lists.handled) did j in
    let mid : World = with_circuit k numbers w in
    lines-map mid (acted k j y did w) (write_numbers j.server y.core did) refl refl refl (λ c. ap (λ (z : Circuit). z.client) (writes-like j.server y.core did c).0)
    (lines-set w k j numbers on (ap (λ (z : Circuit). z.client) (numbers-like (length j.lists.handled) did j).0) h)

lines-noted : (w after : World) (k : ℕ) (j : Joined) (y : ServerSide) (replies : List Fields) → HaveLines after → HaveLines (noted k j y replies w after)
lines-noted w after k j y replies h = go (slice_get after.circuits k) refl
  where
    go : (o : Option Joined) → slice_get after.circuits k ≡ o
        → HaveLines (unwrap_or (option_map (λ (c : Joined). with_circuit k (handled_at (length j.lists.handled) (record { sent = length j.lists.down; logged = server.logged y w; after = server.logged y after }) replies c) after) o) after)
    go None is = h
    go (Some c) is = lines-set after k c _ is refl h

step-lines : (w new : World) (k : ℕ) (j : Joined) (y : ServerSide) (did : Stepped) → At w.circuits k j → ServerStepped w k j y did new → HaveLines w → HaveLines new
step-lines w new k j y stepped.Handled on f h =
    let mid : World = acted k j y (f.steps.0).action w in
    let after : World = server_after j.server (side_of j.server y mid) (ends_by j.server f.core) f.core mid in
    subst (λ (z : World). HaveLines z) (sym f.leaves) (lines-noted w after k j y (f.steps.0).replies (lines-server mid j.server (side_of j.server y mid) (ends_by j.server f.core) f.core (lines-acted w k j y (f.steps.0).action on h)))
step-lines w new k j y stepped.NeedBytes on f h = subst (λ (z : World). HaveLines z) (sym f.3) h
step-lines w new k j y stepped.OutputFull on f h = subst (λ (z : World). HaveLines z) (sym f.3) h
step-lines w new k j y (stepped.Closed why.OutOfMemory left) on f h = subst (λ (z : World). HaveLines z) (sym f.leaves) (go f.lacks.written)
  where
    did : Action
    did = f.lacks.next.action

    go : (o : Option (Handle → Bool)) → HaveLines (server_after j.server (side_of j.server y (unsaid k j y did o w)) (ends_here j left j.server f.core) f.core (unsaid k j y did o w))
    go None = lines-server w j.server (side_of j.server y w) (ends_here j left j.server f.core) f.core h
    go (Some gone) = lines-server (acted k j y did w) j.server (side_of j.server y (acted k j y did w)) (ends_here j left j.server f.core) f.core (lines-acted w k j y did on h)
step-lines w new k j y (stepped.Closed cause left) on f h = subst (λ (z : World). HaveLines z) (sym f.3) (lines-server w j.server y (ends_here j left j.server y.core) (closed j.at_server y.core) h)

-- ---- events at a server

replied-clients : (p : PutPlace) (sent : List (Handle × Fields)) (t : World) → ((replied_at p sent t).clients ≡ t.clients) × ((replied_at p sent t).client_logs ≡ t.client_logs)
replied-clients p sent t = go (slice_get t.circuits p.circuit)
  where
    go : (o : Option Joined) → let z : World = unwrap_or (option_map (λ (j : Joined). with_circuit p.circuit (told_late p.place (map (λ (s : Handle × Fields). s.1) sent) j) t) o) t in (z.clients ≡ t.clients) × (z.client_logs ≡ t.client_logs)
    go None = (refl, refl)
    go (Some j) = (refl, refl)

post-lines : (w new : World) (i : ℕ) (y : ServerSide) (name : List ℕ) (e : Elements) (mask : ℕ) → HappensPost w i y name e mask new → HaveLines w → HaveLines new
post-lines w new i y name e mask (gone, core, inl (posts, is)) h =
    let told : World = post_told w i y name (record { value = e; meta = unset }) mask in
    subst (λ (z : World). HaveLines z) (sym is) (lines-server told i y (ends_by i core) core (lines-map w told (numbers_posted i y.core name mask) refl refl refl (client-posted i y.core name mask) h))
post-lines w new i y name e mask (gone, core, inr refused) h = subst (λ (z : World). HaveLines z) (sym refused.3) h

finish-lines : (w new : World) (i : ℕ) (y : ServerSide) (name : List ℕ) → HappensFinish w i y name new → HaveLines w → HaveLines new
finish-lines w new i y name (inl f) h =
    let told : World = finish_told w i y name f.cr f.r f.p in
    let same = replied-clients f.p f.sent told in
    subst (λ (z : World). HaveLines z) (sym f.leaves)
    (lines-server (replied_at f.p f.sent told) i (record y { records = server.with_record name server.next_busy y.records }) (ends_by i f.core) f.core
    (lines-kept told (replied_at f.p f.sent told) same.0 (ap (λ (l : List (List Line)). length l) same.1)
    (λ n d at.
    let c = replied-back f.p f.sent told n d at in
    (c.0, c.1, elim c.2 [ inl is ↦ ap (λ (z : Joined). z.lists.client) is | inr late ↦ ap (λ (z : Joined). z.lists.client) late ]))
    (lines-map w told (next_numbers i y.core name f.cr.waiting) refl refl refl (client-next i y.core name f.cr.waiting) h)))
finish-lines w new i y name (inr refused) h = subst (λ (z : World). HaveLines z) (sym refused.2) h

remove-lines : (w new : World) (i : ℕ) (y : ServerSide) (name : List ℕ) → HappensRemove w i y name new → HaveLines w → HaveLines new
remove-lines w new i y name (gone, left, core, inl (removes, is)) h =
    let told : World = moves.removal_told w i y name gone left in
    subst (λ (z : World). HaveLines z) (sym is)
    (lines-server told i (record y { records = filter (λ (r : RecordSide). not (bytes_eq r.name name)) y.records }) (ends_by i core) core (lines-map w told (removed_at i y.core name gone left) refl refl refl (client-removed i y.core name gone left) h))
remove-lines w new i y name (gone, left, core, inr (removes, is)) h = subst (λ (z : World). HaveLines z) (sym is) h

-- ---- events at a client

ended-lines : (w : World) (k : ℕ) (j : Joined) (x : ClientSide) (c : Closing) (core : Client) → At w.circuits k j → At w.clients j.client x → HaveLines w → HaveLines (client_ended k j x c core w)
ended-lines w k j x c core on at h = lines-left (with_circuit k (client_closed c.left j) w) j.client x x.names x.names core (lines_of OfCircuit x.names c.notices) [] at (lines-set w k j (client_closed c.left j) on refl h)

hear-lines : (w new : World) (k : ℕ) (j : Joined) (x : ClientSide) → At w.circuits k j → At w.clients j.client x → HappensClientStep w k j x new → HaveLines w → HaveLines new
hear-lines w new k j x on at (did, sent, core, steps, is) h = subst (λ (z : World). HaveLines z) (sym is) (go did)
  where
    go : (did : answer.Stepped) → HaveLines (client_stepped k j x did sent core w)
    go answer.NeedBytes = h
    go (answer.Closed c) = ended-lines w k j x c core on at h
    go (answer.Notices notices) =
        let lines : List Line = lines_of (about_at j.lists (length j.lists.heard)) x.names notices in
        let logged : ℕ = log_length x.life w.client_logs in
        let step : Step = record { sent = length j.lists.up; logged = logged; after = logged + length lines } in
        lines-left (with_circuit k (heard_in step j) w) j.client x x.names x.names core lines sent at (lines-set w k j (heard_in step j) on refl h)

restart-lines : (w new : World) (i : ℕ) (x : ClientSide) → HappensClientRestart w i x new → HaveLines w → HaveLines new
restart-lines w new i x is h = subst (λ (z : World). HaveLines z) (sym is) (record {
  lives = λ j z there. elim (At-set w.clients i _ j z there) [
    | inl own ↦ (let life : z.life ≡ length w.client_logs = ap (λ (v : ClientSide). v.life) own.1 in let more : length (w.client_logs ++ [] ∷ []) ≡ length w.client_logs + 1 = length-more w.client_logs [] in omega (arith, life, more))
    | inr old ↦ (let lt : z.life < length w.client_logs = h.lives j z old.0 in let more : length (w.client_logs ++ [] ∷ []) ≡ length w.client_logs + 1 = length-more w.client_logs [] in omega (arith, lt, more))
  ];
  joins = λ n d at.
      let c = At-mapped (client_gone i x) w.circuits n d at in
      let same : d.lists.client ≡ c.0.lists.client = ap (λ (z : Joined). z.lists.client) c.2 ∙ gone c.0 in
      let lt : c.0.lists.client < length w.client_logs = h.joins n c.0 c.1 in
      let more : length (w.client_logs ++ [] ∷ []) ≡ length w.client_logs + 1 = length-more w.client_logs [] in
      omega (arith, same, lt, more);
})
  where
    gone : (c : Joined) → (client_gone i x c).lists.client ≡ c.lists.client
    gone c = client-if c (client_closed (out_bytes x.core c.at_client) c) (eqb c.client i && c.lists.client_open) refl

tick-lines : (moment : ℕ) (w : World) (i : ℕ) (new : World) → TicksOne moment w i new → HaveLines w → HaveLines new
tick-lines moment w i new (x, at, t, sent, core, ticks, is) h =
    let o : Outcomes = record { core = core; names = x.names; lines = lines_of OfCircuit x.names t.notices; sent = sent } in
    let after : World = client_after i x x.names o w in
    subst (λ (z : World). HaveLines z) (sym is)
    (lines-map after (record after { circuits = map (after_tick i t.closings) after.circuits }) (after_tick i t.closings) refl refl refl (ticked t.closings) (lines-after w i x x.names o at h))
  where
    ticked : (closings : List Left) (c : Joined) → (after_tick i closings c).lists.client ≡ c.lists.client
    ticked closings c = go (eqb c.client i && c.lists.client_open) (left_silent closings c)
      where
        go : (b : Bool) (o : Option (List ℕ)) → (cond b (unwrap_or (option_map (λ (left : List ℕ). client_closed left c) o) c) c).lists.client ≡ c.lists.client
        go true None = refl
        go true (Some left) = refl
        go false o = refl

pub ticks-lines : (moment : ℕ) (w : World) (is : List ℕ) (new : World) → TicksAll moment w is new → HaveLines w → HaveLines new
ticks-lines moment w [] new same h = subst (λ (z : World). HaveLines z) same h
ticks-lines moment w (i ∷ is) new (mid, one, rest) h = ticks-lines moment mid is new rest (tick-lines moment w i mid one h)

accept-lines : (w new : World) (i : ℕ) (x : ClientSide) (v : WantsFirst w x) → At w.clients i x → HappensAccept w i x v new → HaveLines w → HaveLines new
accept-lines w new i x v at f h = elim f.leaves [
  | inl full ↦ subst (λ (z : World). HaveLines z) (sym full.1) h
  | inr made ↦
      let c : Joined = connected_as made.1 (new_circuit i x v.v.circuit v.i v.y made.0) in
      let mid : World = record w { servers = slice_set w.servers v.i (record v.y { core = f.server }); circuits = w.circuits ++ c ∷ [] } in
      subst (λ (z : World). HaveLines z) (sym made.6) (lines-left mid i x x.names x.names made.3 (lines_of OfCircuit x.names (closing_notices made.1)) made.2 at (record {
        lives = h.lives;
        joins = λ n d there. elim (At-snoc w.circuits c n d there) [
          | inl old ↦ h.joins n d old
          | inr last ↦ subst (λ (l : ℕ). l < length w.client_logs) (sym (ap (λ (z : Joined). z.lists.client) last.1 ∙ life made.1 made.0)) (h.lives i x at)
        ];
      }))
]
  where
    life : (o : Option Closing) (g : Handle) → (connected_as o (new_circuit i x v.v.circuit v.i v.y g)).lists.client ≡ x.life
    life None g = refl
    life (Some k) g = refl

up-lines : (w : World) (k n : ℕ) (j : Joined) (x : ClientSide) → At w.circuits k j → At w.clients j.client x → HaveLines w → HaveLines (up_taken k n j x w)
up-lines w k n j x on at h = go j.lists.client_open
  where
    go : (b : Bool) → HaveLines (cond b (with_client j.client (record x { core = handed_over j.at_client n x.core }) w) (with_circuit k (record j { left_up = drop n j.left_up }) w))
    go true = lines-client w j.client x (record x { core = handed_over j.at_client n x.core }) at refl h
    go false = lines-set w k j (record j { left_up = drop n j.left_up }) on refl h

-- ---- every event

pub opening-lines : (s : Setting) → HaveLines (opening s)
opening-lines s = record {
  lives = λ i x at.
      let c = numbered-at _ s.clients 0 i x at in
      let life : x.life ≡ i = ap (λ (v : ClientSide). v.life) c.2 ∙ (let e : 0 + i ≡ i = omega arith in e) in
      let none : List Line = [] in
      let there : At (map (λ (z : ClientSetting). none) s.clients) i none = At-map (λ (z : ClientSetting). none) s.clients i c.0 c.1 in
      subst (λ (n : ℕ). n < length (map (λ (z : ClientSetting). none) s.clients)) (sym life) (At-within (map (λ (z : ClientSetting). none) s.clients) i none there);
  joins = λ n c at. absurd (none_at n c at);
}

leaves-lines : (w new : World) (e : Event) → (at : CanBe w e) → Leaves w e at new → HaveLines w → HaveLines new
leaves-lines w new (event.Open i name priority) at (inl (e, ne, does, is)) h = subst (λ (z : World). HaveLines z) (sym is) (lines-told w at.x.life _ h)
leaves-lines w new (event.Open i name priority) at (inr (a, sent, core, does, is)) h = subst (λ (z : World). HaveLines z) (sym is) (lines-left w i at.x _ _ core _ sent at.at h)
leaves-lines w new (event.Clear i c) at (inl (e, ne, does, is)) h = subst (λ (z : World). HaveLines z) (sym is) (lines-told w at.x.life _ h)
leaves-lines w new (event.Clear i c) at (inr (a, sent, core, does, is)) h = subst (λ (z : World). HaveLines z) (sym is) (lines-left w i at.x _ _ core _ sent at.at h)
leaves-lines w new (event.Read i c data_type count) at (inl (e, ne, does, is)) h = subst (λ (z : World). HaveLines z) (sym is) (lines-told w at.x.life _ h)
leaves-lines w new (event.Read i c data_type count) at (inr (a, sent, core, does, is)) h = subst (λ (z : World). HaveLines z) (sym is) (lines-left w i at.x _ _ core _ sent at.at h)
leaves-lines w new (event.Write i c v) at (inl (e, ne, does, is)) h = subst (λ (z : World). HaveLines z) (sym is) (lines-told w at.x.life _ h)
leaves-lines w new (event.Write i c v) at (inr (a, sent, core, does, is)) h = subst (λ (z : World). HaveLines z) (sym is) (lines-left w i at.x _ _ core _ sent at.at h)
leaves-lines w new (event.WriteNotify i c v) at (inl (e, ne, does, is)) h = subst (λ (z : World). HaveLines z) (sym is) (lines-told w at.x.life _ h)
leaves-lines w new (event.WriteNotify i c v) at (inr (a, sent, core, does, is)) h = subst (λ (z : World). HaveLines z) (sym is) (lines-left w i at.x _ _ core _ sent at.at h)
leaves-lines w new (event.Subscribe i c data_type count mask) at (inl (e, ne, does, is)) h = subst (λ (z : World). HaveLines z) (sym is) (lines-told w at.x.life _ h)
leaves-lines w new (event.Subscribe i c data_type count mask) at (inr (a, sent, core, does, is)) h = subst (λ (z : World). HaveLines z) (sym is) (lines-left w i at.x _ _ core _ sent at.at h)
leaves-lines w new (event.Unsubscribe i n) at (inl (e, ne, does, is)) h = subst (λ (z : World). HaveLines z) (sym is) (lines-told w at.x.life _ h)
leaves-lines w new (event.Unsubscribe i n) at (inr (a, sent, core, does, is)) h = subst (λ (z : World). HaveLines z) (sym is) (lines-left w i at.x _ _ core _ sent at.at h)
leaves-lines w new (event.Collect i r) at (o, hands, is) h = subst (λ (z : World). HaveLines z) (sym is) (lines-told w at.x.life _ h)
leaves-lines w new (event.GiveUp i r) at (o, hands, is) h = subst (λ (z : World). HaveLines z) (sym is) (lines-told w at.x.life _ h)
leaves-lines w new (event.ClientDatagram i from bytes) at (sent, core, receives, is) h = subst (λ (z : World). HaveLines z) (sym is) (lines-left w i at.x at.x.names at.x.names core [] sent at.at h)
leaves-lines w new (event.ServerDatagram i from bytes) at l h = subst (λ (z : World). HaveLines z) (sym l.2) h
leaves-lines w new (event.Accept i) at l h = accept-lines w new i at.x at.v at.at l h
leaves-lines w new (event.Up k n) at (core, gives, is) h =
    (let mid : World = up_taken k n at.0.j at.0.x w in
    lines-same mid new (ap (λ (z : World). z.clients) is) (ap (λ (z : World). z.client_logs) is) (ap (λ (z : World). z.circuits) is) (up-lines w k n at.0.j at.0.x at.0.joins.at at.0.joins.client h))
leaves-lines w new (event.Down k n) at (mid, sent, core, taken, gives, is) h =
    subst (λ (z : World). HaveLines z) (sym is) (lines-left mid at.0.j.client at.0.x at.0.x.names at.0.x.names core [] sent (clients taken) (go taken))
  where
    go : DownTaken w k n at.0.j at.0.y mid → HaveLines mid
    go (inl (opened, (by, sends, same))) = lines-same w mid (ap (λ (z : World). z.clients) same) (ap (λ (z : World). z.client_logs) same) (ap (λ (z : World). z.circuits) same) h
    go (inr (shut, same)) = subst (λ (z : World). HaveLines z) (sym same) (lines-set w k at.0.j (record at.0.j { left_down = drop n at.0.j.left_down }) at.0.joins.at refl h)

    clients : DownTaken w k n at.0.j at.0.y mid → At mid.clients at.0.j.client at.0.x
    clients (inl (opened, (by, sends, same))) = subst (λ (z : World). At z.clients at.0.j.client at.0.x) (sym same) at.0.joins.client
    clients (inr (shut, same)) = subst (λ (z : World). At z.clients at.0.j.client at.0.x) (sym same) at.0.joins.client
leaves-lines w new (event.ServerStep k) at l h = step-lines w new k at.j at.y l.0 at.joins.at l.1 h
leaves-lines w new (event.ClientStep k) at l h = hear-lines w new k at.j at.x at.joins.at at.joins.client l h
leaves-lines w new (event.Pump k) at l h =
    subst (λ (z : World). HaveLines z) (sym l.leaves)
    (lines-server (with_circuit k (stamped l.updates at.j) w) at.j.server at.y (ends_by at.j.server l.core) l.core (lines-set w k at.j (stamped l.updates at.j) at.joins.at (ap (λ (z : Circuit). z.client) (stamped-is l.updates at.j)) h))
leaves-lines w new (event.CutClient k) at (c, sent, core, cuts, is) h = subst (λ (z : World). HaveLines z) (sym is) (ended-lines w k at.j at.x c core at.joins.at at.joins.client h)
leaves-lines w new (event.CutServer k) at l h = subst (λ (z : World). HaveLines z) (sym l.leaves) (lines-server w at.j.server at.y (ends_by at.j.server l.core) l.core h)
leaves-lines w new (event.ClientRestart i) at l h = restart-lines w new i at.x l h
leaves-lines w new (event.ServerRestart i) at l h =
    subst (λ (z : World). HaveLines z) (sym l) (lines-map w (moves.restarted w i at.y) (ending (server.ends_untold i at.y.core)) refl refl refl (client-ending (server.ends_untold i at.y.core)) h)
leaves-lines w new (event.Post i name e mask) at l h = post-lines w new i at.y name e mask l h
leaves-lines w new (event.Finish i name) at l h = finish-lines w new i at.y name l h
leaves-lines w new (event.Remove i name) at l h = remove-lines w new i at.y name l h
leaves-lines w new (event.Add i r) at (core, behind, inl (adds, is)) h = lines-same w new (ap (λ (z : World). z.clients) is) (ap (λ (z : World). z.client_logs) is) (ap (λ (z : World). z.circuits) is) h
leaves-lines w new (event.Add i r) at (core, behind, inr refused) h = subst (λ (z : World). HaveLines z) (sym refused.3) h
leaves-lines w new (event.Tick moment) at (mid, ticks, is) h =
    lines-same mid new (ap (λ (z : World). z.clients) is) (ap (λ (z : World). z.client_logs) is) (ap (λ (z : World). z.circuits) is) (ticks-lines moment w (clients_below (length w.clients)) mid ticks h)

pub event-lines : (w new : World) (e : Event) → Happens w e new → HaveLines w → HaveLines new
event-lines w new e happens h = leaves-lines w new e happens.0 happens.1 h
