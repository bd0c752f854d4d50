-- Events in which a server sends no reply: logs grow, and each reply was there.
use Rattle.std.proofs.Common.{◌≡◌, ℕ, ◌⊎◌, inl, inr, Bool, true, false, cond, ◌&&◌, ◌==◌, not, List, [], ◌∷◌, ◌++◌, Option, Some, None, refl, sym, ap, subst, ◌∙◌, append-nil, append_assoc}
use Rattle.std.specs.Prelude.{drop, filter, map, option_map, slice_set, unwrap_or}
use Rattle.std.specs.List.{fold, list_any}
use Rattle.std.specs.Str.{bytes_eq}
use Rattle.ca_arena.specs.declared.handle.Handle.{Handle}
use Rattle.ca_dbr.specs.Elements.{Elements}
use Rattle.ca_ids.specs.Table.{under}
use Rattle.ca_ids.specs.Wire.{wire_of}
use Rattle.ca_queue.specs.declared.entry.SubKey.{SubKey}
use Rattle.ca_records.specs.Puts.{WaitingPut}
use Rattle.ca_records.specs.Record.{RecordState, unset}
use Rattle.ca_text.specs.Place.{At}
use Rattle.ca_text.proofs.Places.{At-append, At-mapped, At-parts, At-set, At-snoc}
use Rattle.ca_model.specs.Answers.{Closing, Sending}
use Rattle.ca_model.specs.Client.{Client}
use Rattle.ca_model.specs.Due.{Action, Applies}
use Rattle.ca_model.specs.Due as action
use Rattle.ca_model.specs.Server.{OpenChannel, Server}
use Rattle.ca_model.specs.History.{Added, Entry, Removal, Reply, Told}
use Rattle.ca_model.specs.History as history
use Rattle.ca_model.specs.ClientEvents.{HappensAccept, HappensDown, HappensUp, WantsFirst, client_after, connected_as, lines_of, new_circuit, sent_on, closing_notices, up_taken}
use Rattle.ca_model.specs.ServerEvents.{HappensAdd, HappensCutServer, HappensPost, HappensPump, HappensRemove, HappensServerRestart, disconnected_at, ending, ends_at, ends_by, ends_untold, keys_concerned, next_numbers, numbers_after, numbers_posted, posted_entry, removal_entries, removed_at, server_after, server_closed, stamped, with_number, withdrawals, without_standing, write_numbers}
use Rattle.ca_model.specs.ServerEvents as event
use Rattle.ca_model.specs.World.{ClientSide, Joined, RecordSide, ServerSide, World, log_begun, with_circuit, with_server}
use Rattle.ca_laws_parts.specs.Lives.{Later}
use Rattle.ca_laws_parts.specs.Moves.{post_told, removal_told}
use Rattle.ca_laws_parts.specs.Says.{AreNumbered}
use Rattle.ca_laws_parts.proofs.WritesEnding.{ending-later}
use Rattle.ca_laws_parts.proofs.WritesEvents.{SameEnds, posted-same, removed-same, same-later, same-self}
use Rattle.ca_laws_parts.proofs.Frames.{Frame, Goes, frame-then, goes-self, later-then, sent-goes}
use Rattle.ca_laws_parts.proofs.HappensClient.{left-frame, sent-frame, up-frame}
use Rattle.ca_laws_parts.proofs.HappensPost.{stamped-same}
use Rattle.ca_laws_parts.proofs.Says.{Grew, logs-grown, logs-stay}

-- each reply was there
abbrev pub Quiet : Joined → Joined → Type 0
Quiet c d = (i : ℕ) (t : Told) → At d.lists.down i t → t.cause ≡ Reply → At c.lists.down i t

pub quiet-down : (c d : Joined) → d.lists.down ≡ c.lists.down → Quiet c d
quiet-down c d is i t at reply = subst (λ (l : List Told). At l i t) is at

pub quiet-then : (a b c : Joined) → Quiet a b → Quiet b c → Quiet a c
quiet-then a b c f g i t at reply = f i t (g i t at reply) reply

-- ---- what leaves the messages of a server as they are

pub ending-down : (ends : Joined → Option (List ℕ)) (c : Joined) → (ending ends c).lists.down ≡ c.lists.down
ending-down ends c = go (ends c)
  where
    go : (o : Option (List ℕ)) → (unwrap_or (option_map (λ (left : List ℕ). server_closed left c) o) c).lists.down ≡ c.lists.down
    go None = refl
    go (Some left) = refl

fold-down : (c : Joined) (keys : List SubKey) → (fold with_number c keys).lists.down ≡ c.lists.down
fold-down c [] = refl
fold-down c (k ∷ keys) = fold-down (with_number c k) keys

pub posted-down : (i : ℕ) (core : Server) (name : List ℕ) (mask : ℕ) (c : Joined) → (numbers_posted i core name mask c).lists.down ≡ c.lists.down
posted-down i core name mask c = go (c.server == i && c.lists.server_open)
  where
    go : (b : Bool) → (cond b (fold with_number c (keys_concerned name mask (under core.circuits c.at_server))) c).lists.down ≡ c.lists.down
    go true = fold-down c (keys_concerned name mask (under core.circuits c.at_server))
    go false = refl

pub next-down : (i : ℕ) (core : Server) (name : List ℕ) (ws : List WaitingPut) (c : Joined) → (next_numbers i core name ws c).lists.down ≡ c.lists.down
next-down i core name [] c = refl
next-down i core name (w ∷ ws) c = posted-down i core name 3 c

pub numbers-after-down : (place : ℕ) (did : Action) (j : Joined) → (numbers_after place did j).lists.down ≡ j.lists.down
numbers-after-down place (Applies name value busies) j = refl
numbers-after-down place (action.Waits name value) j = refl
numbers-after-down place (action.Clears sid) j = refl
numbers-after-down place action.Nothing j = refl
numbers-after-down place action.Greets j = refl
numbers-after-down place (action.Names x) j = refl
numbers-after-down place (action.Opens x) j = refl
numbers-after-down place (action.Adds x) j = refl
numbers-after-down place (action.Drops x) j = refl
numbers-after-down place (action.Switches x) j = refl

pub write-numbers-down : (i : ℕ) (core : Server) (did : Action) (j : Joined) → (write_numbers i core did j).lists.down ≡ j.lists.down
write-numbers-down i core (Applies name value busies) j = posted-down i core name 3 j
write-numbers-down i core (action.Waits name value) j = refl
write-numbers-down i core (action.Clears sid) j = refl
write-numbers-down i core action.Nothing j = refl
write-numbers-down i core action.Greets j = refl
write-numbers-down i core (action.Names x) j = refl
write-numbers-down i core (action.Opens x) j = refl
write-numbers-down i core (action.Adds x) j = refl
write-numbers-down i core (action.Drops x) j = refl
write-numbers-down i core (action.Switches x) j = refl

-- SERVER_DISCONNs are no replies
removed-quiet : (i : ℕ) (core : Server) (name : List ℕ) (gone : Handle → Bool) (left : Handle → ℕ) (c : Joined) → Quiet c (removed_at i core name gone left c)
removed-quiet i core name gone left c = go (c.server == i && c.lists.server_open)
  where
    told : List (Handle × OpenChannel)
    told = disconnected_at name gone left c.at_server (under core.circuits c.at_server)

    by : Handle × OpenChannel → Told
    by = event.removal_told c.creations

    more : (d : Joined) → d.lists.down ≡ c.lists.down ++ map by told → Quiet c d
    more d is l t at reply = elim (At-parts c.lists.down (map by told) l t (subst (λ (x : List Told). At x l t) is at)) [
      | inl old ↦ old
      | inr new ↦ (let m = At-mapped by told new.0 t new.2 in absurd (let r : Reply ≡ Removal = sym reply ∙ ap (λ (x : Told). x.cause) m.2 in cc))
    ]

    over : SubKey → Bool
    over k = list_any (λ (x : Handle × OpenChannel). wire_of x.0 == k.sid) told

    go : (b : Bool) → Quiet c (cond b (without_standing over (record c { lists = record c.lists { down = c.lists.down ++ map by told } })) c)
    go true = more (without_standing over (record c { lists = record c.lists { down = c.lists.down ++ map by told } })) refl
    go false = quiet-down c c refl

-- ---- frames

pub grew-map : (w new : World) (f : Joined → Joined) → new.server_logs ≡ w.server_logs → new.circuits ≡ map f w.circuits → ((c : Joined) → Goes c (f c)) → Grew w new
grew-map w new f logs circuits goes = record {
  logs = logs-stay w new logs;
  back = λ n d at.
      let c = At-mapped f w.circuits n d (subst (λ (l : List Joined). At l n d) circuits at) in
      let g : Goes c.0 d = subst (λ (z : Joined). Goes c.0 z) (sym c.2) (goes c.0) in
      inl (record { c = c.0; at = c.1; later = g.later; replies = λ i t told reply. inl (quiet-down c.0 d g.down i t told reply) });
}

pub grew-by : (w mid new : World) → Frame w mid → new.server_logs ≡ mid.server_logs → new.circuits ≡ mid.circuits → Grew w new
grew-by w mid new f logs circuits = record {
  logs = logs-stay w new (logs ∙ f.logs);
  back = λ n d at.
      let c = f.back n d (subst (λ (l : List Joined). At l n d) circuits at) in
      inl (record { c = c.0; at = c.1; later = c.2.later; replies = λ i t told reply. inl (quiet-down c.0 d c.2.down i t told reply) });
}

-- ---- circuits of a server that end

pub grew-ended : (w mid : World) (i : ℕ) (side : ServerSide) (ends : Joined → Option (List ℕ)) (core : Server) → ((l : ℕ) (y : List Entry) → At w.server_logs l y → (z : List Entry) × At mid.server_logs l (y ++ z))
    → ((n : ℕ) (d : Joined) → At mid.circuits n d → (c : Joined) × At w.circuits n c × SameEnds c d × Quiet c d) → Grew w (server_after i side ends core mid)
grew-ended w mid i side ends core logs back = record {
  logs = λ l y at.
      let a = logs l y at in
      let b = logs-grown mid.server_logs side.life (withdrawals (ends_at ends mid.circuits) side.records) l (y ++ a.0) a.1 in
      (a.0 ++ b.0, subst (λ (z : List Entry). At (server_after i side ends core mid).server_logs l z) (append_assoc y a.0 b.0) b.1);
  back = λ n d at.
      let x = At-mapped (ending ends) mid.circuits n d at in
      let c = back n x.0 x.1 in
      inl (record {
        c = c.0;
        at = c.1;
        later = subst (λ (z : Joined). Later c.0 z) (sym x.2) (later-then c.0 x.0 (ending ends x.0) (same-later c.0 x.0 c.2) (ending-later ends x.0));
        replies = λ m t told reply. inl (c.3 m t (subst (λ (l : List Told). At l m t) (ap (λ (z : Joined). z.lists.down) x.2 ∙ ending-down ends x.0) told) reply);
      });
}

-- where circuits were mapped
pub mapped-back : (w mid : World) (f : Joined → Joined) → mid.circuits ≡ map f w.circuits → ((c : Joined) → SameEnds c (f c)) → ((c : Joined) → Quiet c (f c)) → (n : ℕ) (d : Joined) → At mid.circuits n d → (c : Joined) × At w.circuits n c × SameEnds c d × Quiet c d
mapped-back w mid f is same quiet n d at =
    let c = At-mapped f w.circuits n d (subst (λ (l : List Joined). At l n d) is at) in
    (c.0, c.1, subst (λ (z : Joined). SameEnds c.0 z) (sym c.2) (same c.0), subst (λ (z : Joined). Quiet c.0 z) (sym c.2) (quiet c.0))

pub itself-back : (w : World) (n : ℕ) (d : Joined) → At w.circuits n d → (c : Joined) × At w.circuits n c × SameEnds c d × Quiet c d
itself-back w n d at = (d, at, same-self d, quiet-down d d refl)

-- one circuit was set
pub set-back : (w : World) (k : ℕ) (j e : Joined) → At w.circuits k j → SameEnds j e → Quiet j e → (n : ℕ) (d : Joined) → At (slice_set w.circuits k e) n d → (c : Joined) × At w.circuits n c × SameEnds c d × Quiet c d
set-back w k j e at same quiet n d there = elim (At-set w.circuits k e n d there) [
  | inl new ↦ (j, subst (λ (m : ℕ). At w.circuits m j) (sym new.0) at, subst (λ (z : Joined). SameEnds j z) (sym new.1) same, subst (λ (z : Joined). Quiet j z) (sym new.1) quiet)
  | inr old ↦ (d, old.0, same-self d, quiet-down d d refl)
]

pub logs-same : (w : World) (l : ℕ) (y : List Entry) → At w.server_logs l y → (z : List Entry) × At w.server_logs l (y ++ z)
logs-same w l y at = logs-stay w w refl l y at

-- ---- events at a server

pub post-grew : (w new : World) (i : ℕ) (y : ServerSide) (name : List ℕ) (e : Elements) (mask : ℕ) → HappensPost w i y name e mask new → Grew w new
post-grew w new i y name e mask (gone, core, inl (posts, is)) =
    let mid : World = post_told w i y name (record { value = e; meta = unset }) mask in
    subst (λ (z : World). Grew w z) (sym is)
    (grew-ended w mid i y (ends_by i core) core (logs-grown w.server_logs y.life (posted_entry y name (record { value = e; meta = unset }) mask))
    (mapped-back w mid (numbers_posted i y.core name mask) refl (posted-same i y.core name mask) (λ c. quiet-down c (numbers_posted i y.core name mask c) (posted-down i y.core name mask c))))
post-grew w new i y name e mask (gone, core, inr refused) =
    grew-map w new (λ (c : Joined). c) (ap (λ (z : World). z.server_logs) refused.3) (ap (λ (z : World). z.circuits) refused.3 ∙ sym (same-map-all w.circuits)) goes-self
  where
    same-map-all : (cs : List Joined) → map (λ (c : Joined). c) cs ≡ cs
    same-map-all [] = refl
    same-map-all (c ∷ cs) = ap (λ (l : List Joined). c ∷ l) (same-map-all cs)

pub remove-grew : (w new : World) (i : ℕ) (y : ServerSide) (name : List ℕ) → HappensRemove w i y name new → (new ≡ w) ⊎ Grew w new
remove-grew w new i y name (gone, left, core, inl (removes, is)) =
    let mid : World = removal_told w i y name gone left in
    let side : ServerSide = record y { records = filter (λ (r : RecordSide). not (bytes_eq r.name name)) y.records } in
    inr (subst (λ (z : World). Grew w z) (sym is)
    (grew-ended w mid i side (ends_by i core) core (logs-grown w.server_logs y.life (removal_entries name y.records))
    (mapped-back w mid (removed_at i y.core name gone left) refl (removed-same i y.core name gone left) (removed-quiet i y.core name gone left))))
remove-grew w new i y name (gone, left, core, inr (removes, is)) = inl is

pub cut-grew : (w new : World) (k : ℕ) (j : Joined) (y : ServerSide) → HappensCutServer w k j y new → Grew w new
cut-grew w new k j y f = subst (λ (z : World). Grew w z) (sym f.leaves) (grew-ended w w j.server y (ends_by j.server f.core) f.core (logs-same w) (itself-back w))

pub pump-grew : (w new : World) (k : ℕ) (j : Joined) (y : ServerSide) → At w.circuits k j → At w.servers j.server y → j.lists.server_open ≡ true → AreNumbered w → HappensPump w k j y new → Grew w new
pump-grew w new k j y at server opened numbered f =
    let mid : World = with_circuit k (stamped f.updates j) w in
    subst (λ (z : World). Grew w z) (sym f.leaves)
    (grew-ended w mid j.server y (ends_by j.server f.core) f.core (logs-same w)
    (set-back w k j (stamped f.updates j) at (stamped-same f.updates j) (numbered k j y f.updates f.core at server opened f.pumps)))

pub add-grew : (w new : World) (i : ℕ) (y : ServerSide) (r : RecordState) → HappensAdd w i y r new → (new ≡ w) ⊎ Grew w new
add-grew w new i y r (core, behind, inl (adds, is)) =
    inr (subst (λ (z : World). Grew w z) (sym is) (record {
      logs = logs-grown w.server_logs y.life (Added y.added r ∷ []);
      back = λ n d at. inl (record { c = d; at = at; later = same-later d d (same-self d); replies = λ l t told reply. inl told });
    }))
add-grew w new i y r (core, behind, inr refused) = inl refused.3

pub restart-grew : (w new : World) (i : ℕ) (y : ServerSide) → HappensServerRestart w i y new → Grew w new
restart-grew w new i y is =
    subst (λ (z : World). Grew w z) (sym is) (record {
      logs = λ l z at. (
        [],
        At-append w.server_logs (log_begun y.setting ∷ []) l (z ++ []) (subst (λ (x : List Entry). At w.server_logs l x) (sym (append-nil z)) at),
      );
      back = λ n d at.
          let x = At-mapped (ending (ends_untold i y.core)) w.circuits n d at in
          inl (record {
            c = x.0;
            at = x.1;
            later = subst (λ (z : Joined). Later x.0 z) (sym x.2) (ending-later (ends_untold i y.core) x.0);
            replies = λ m t told reply. inl (subst (λ (l : List Told). At l m t) (ap (λ (z : Joined). z.lists.down) x.2 ∙ ending-down (ends_untold i y.core) x.0) told);
          });
    })

-- ---- bytes, and circuits that are made

pub up-grew : (w new : World) (k n : ℕ) (j : Joined) (x : ClientSide) (y : ServerSide) → At w.circuits k j → HappensUp w k n j x y new → Grew w new
up-grew w new k n j x y at (core, gives, is) =
    grew-by w (up_taken k n j x w) new (up-frame w k n j x at) (ap (λ (z : World). z.server_logs) is) (ap (λ (z : World). z.circuits) is)

pub down-grew : (w new : World) (k n : ℕ) (j : Joined) (x : ClientSide) (y : ServerSide) → At w.circuits k j → HappensDown w k n j x y new → Grew w new
down-grew w new k n j x y at (mid, sent, core, inl (opened, (by, sends, taken)), gives, is) =
    let f : Joined → Joined = λ (c : Joined). record c { lists = record c.lists { up = c.lists.up ++ sent_on j.client x.names sent c } } in
    grew-map w new f (ap (λ (z : World). z.server_logs) is ∙ ap (λ (z : World). z.server_logs) taken) (ap (λ (z : World). z.circuits) is ∙ ap (λ (z : World). map f z.circuits) taken) (sent-goes j.client x.names sent)
down-grew w new k n j x y at (mid, sent, core, inr (shut, taken), gives, is) =
    let left : World = with_circuit k (record j { left_down = drop n j.left_down }) w in
    let is_left : new ≡ client_after j.client x x.names (record { core = core; names = x.names; lines = []; sent = sent }) left = is ∙ ap (λ (z : World). client_after j.client x x.names (record { core = core; names = x.names; lines = []; sent = sent }) z) taken in
    grew-by w new new (frame-then w left new (left-frame w k n j at) (sent-frame left new j.client x.names sent (ap (λ (z : World). z.servers) is_left) (ap (λ (z : World). z.server_logs) is_left) (ap (λ (z : World). z.circuits) is_left))) refl refl

pub accept-grew : (w new : World) (c : ℕ) (x : ClientSide) (v : WantsFirst w x) → HappensAccept w c x v new → (new ≡ w) ⊎ Grew w new
accept-grew w new c x v f = elim f.leaves [
  | inl full ↦ inl full.1
  | inr made ↦ inr (joined made.0 made.1 made.2 made.3 made.6)
]
  where
    joined : (g : Handle) (k : Option Closing) (sent : List Sending) (core : Client) → new ≡ client_after c x x.names (record { core = core; names = x.names; lines = lines_of history.OfCircuit x.names (closing_notices k); sent = sent }) (record (with_server v.i (record v.y { core = f.server }) w) { circuits = w.circuits ++ connected_as k (new_circuit c x v.v.circuit v.i v.y g) ∷ [] }) → Grew w new
    joined g k sent core is =
        let f : Joined → Joined = λ (z : Joined). record z { lists = record z.lists { up = z.lists.up ++ sent_on c x.names sent z } } in
        let one : Joined = connected_as k (new_circuit c x v.v.circuit v.i v.y g) in
        record {
          logs = logs-stay w new (ap (λ (z : World). z.server_logs) is);
          back = λ n d at.
              let u = At-mapped f (w.circuits ++ one ∷ []) n d (subst (λ (l : List Joined). At l n d) (ap (λ (z : World). z.circuits) is) at) in
              elim (At-snoc w.circuits one n u.0 u.1) [
                | inl old ↦
                    let g2 : Goes u.0 d = subst (λ (z : Joined). Goes u.0 z) (sym u.2) (sent-goes c x.names sent u.0) in
                    inl (record { c = u.0; at = old; later = g2.later; replies = λ m t told reply. inl (quiet-down u.0 d g2.down m t told reply) })
                | inr last ↦ inr (ap (λ (z : Joined). z.lists.down) u.2 ∙ ap (λ (z : Joined). z.lists.down) last.1 ∙ empty k)
              ];
        }
      where
        empty : (k : Option Closing) → (connected_as k (new_circuit c x v.v.circuit v.i v.y g)).lists.down ≡ []
        empty None = refl
        empty (Some k) = refl
