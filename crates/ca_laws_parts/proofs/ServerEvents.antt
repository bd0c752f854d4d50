-- Events at a server keep bytes as messages: posts, removals, additions, pumps,
-- cuts, and a new life.
use Rattle.std.proofs.Common.{◌≡◌, ℕ, suc, zero, inl, inr, Bool, true, false, ◌&&◌, cond, eqb, List, [], ◌∷◌, ◌++◌, Option, Some, None, refl, sym, ap, ◌∙◌, subst}
use Rattle.std.specs.Prelude.{filter, length, map, not, option_map, slice_get, slice_set, take, unwrap_or}
use Rattle.std.specs.List.{fold, list_any}
use Rattle.std.specs.Str.{bytes_eq}
use Rattle.std.proofs.lemmas.Bool.{and_from, and_parts, eq-eqb, eqb-true}
use Rattle.std.proofs.lemmas.List.{append-nil}
use Rattle.ca_arena.specs.declared.handle.Handle.{Handle}
use Rattle.ca_dbr.specs.Elements.{Elements}
use Rattle.ca_ids.specs.Table.{Table, under}
use Rattle.ca_ids.specs.Wire.{wire_of}
use Rattle.ca_queue.specs.declared.entry.SubKey.{SubKey}
use Rattle.ca_queue.specs.Queue.{Queue, with_front_taken}
use Rattle.ca_records.specs.Puts.{WaitingPut, with_record, with_value}
use Rattle.ca_records.specs.Record.{RecordState, unset}
use Rattle.ca_text.specs.Place.{At}
use Rattle.ca_text.proofs.Places.{At-mapped, At-set, At-set-other, some_is}
use Rattle.ca_wire.specs.Fields.{Fields}
use Rattle.ca_wire.specs.Message.{spelled}
use Rattle.ca_wire.specs.Messages.{disconnect}
use Rattle.ca_model.specs.Ends as why
use Rattle.ca_model.specs.History.{Cause, Reply, Told}
use Rattle.ca_model.specs.Server.{Open, OpenChannel, Server, ServerCircuit, ServerEnd}
use Rattle.ca_model.specs.ServerCalls.{channels_of, disconnects}
use Rattle.ca_model.specs.ServerSteps.{Cuts, HasEnd, Pumps, Update, after_post, ended, output_of}
use Rattle.ca_model.specs.Speech.{Stored}
use Rattle.ca_model.specs.ServerEvents.{HappensAdd, HappensCutServer, HappensPost, HappensPump, HappensRemove, HappensServerRestart, disconnected_at, ending, ends_untold, front_number, keys_concerned, next_numbers, numbers_posted, removal_told, removed_at, server_closed, stamped, with_number, without_standing}
use Rattle.ca_model.specs.World.{Creation, Joined, RecordSide, ServerSide, World, server_begun, with_circuit}
use Rattle.ca_model.proofs.Handles.{handle-or}
use Rattle.ca_laws_parts.specs.Seats.{Seated}
use Rattle.ca_laws_parts.proofs.Midway.{set-here}
use Rattle.ca_laws_parts.specs.Worlds.{AllStream, sent_down, server_end}
use Rattle.ca_laws_parts.proofs.Clients.{map-both}
use Rattle.ca_laws_parts.proofs.ServerEnds.{AllGo, Ends, Goes, Stays, ended-go, ended-own, go-end, go-same, end-own, leaves-all, open-one, post-go, removal-goes, go-then}
use Rattle.ca_laws_parts.proofs.BytesServers.{Like, Tells, after-streams, ending-like, like-itself, seat-of, server-ends, server-event, server-shut, tells-itself, tells-then}
use Rattle.ca_laws_parts.proofs.Streaming.{Acts, acts-itself}

-- ---- numbers

pub number-tells : (c : Joined) (keys : List SubKey) → Tells c (fold with_number c keys) []
number-tells c [] = tells-itself c
number-tells c (k ∷ keys) =
    tells-then c (with_number c k) (fold with_number (with_number c k) keys) [] []
    (record { like = record { client = refl; server = refl; handle = refl; life = refl; side = λ x. refl; up = refl }; is_open = refl; left = refl; handled = refl; said = sym (append-nil (sent_down c)) }) (number-tells (with_number c k) keys)

pub posted-tells : (i : ℕ) (core : Server) (name : List ℕ) (mask : ℕ) (c : Joined) → Tells c (numbers_posted i core name mask c) []
posted-tells i core name mask c = go (eqb c.server i && c.lists.server_open)
  where
    go : (b : Bool) → Tells c (cond b (fold with_number c (keys_concerned name mask (under core.circuits c.at_server))) c) []
    go true = number-tells c (keys_concerned name mask (under core.circuits c.at_server))
    go false = tells-itself c

pub next-tells : (i : ℕ) (core : Server) (name : List ℕ) (ws : List WaitingPut) (c : Joined) → Tells c (next_numbers i core name ws c) []
next-tells i core name [] c = tells-itself c
next-tells i core name (w ∷ ws) c = posted-tells i core name 3 c

-- each circuit is changed so, and reports nothing
pub mapped-back : (w : World) (f : Joined → Joined) (core new : Server) (i : ℕ) → ((c : Joined) → Tells c (f c) []) → AllGo core new → (n : ℕ) (m : Joined) → At (map f w.circuits) n m
    → (c : Joined) × At w.circuits n c × (more : List Fields) × Tells c m more × (c.server ≡ i → c.lists.server_open ≡ true → Goes core new c.at_server more)
    × ((c.server ≡ i → c.lists.server_open ≡ true → ⊥) → more ≡ [])
mapped-back w f core new i tells go n m at =
    let c = At-mapped f w.circuits n m at in
    (c.0, c.1, [], subst (λ (d : Joined). Tells c.0 d []) (sym c.2) (tells c.0), (λ mine opened. go c.0.at_server), (λ none. refl))

-- ---- a post

pub post-streams : (w new : World) (i : ℕ) (y : ServerSide) (name : List ℕ) (e : Elements) (mask : ℕ) → At w.servers i y → Seated w → HappensPost w i y name e mask new → AllStream w → AllStream new
post-streams w new i y name e mask at seated (gone, core, inl (posts, is)) all =
    let v : Stored = record { value = e; meta = unset } in
    let stored : Server = record y.core { records = with_record name (with_value v.value v.meta) y.core.records } in
    let go : AllGo y.core core = subst (λ (x : Server). AllGo y.core x) (sym posts.2) (λ h. go-then y.core stored (after_post name mask v gone stored) h [] [] (λ d has. (d, has, refl, sym (append-nil d.link.output))) (post-go name mask v gone stored h)) in
    subst (λ (z : World). AllStream z) (sym is)
    (after-streams w _ i y y core at refl (λ l s on other. on) (y, at) (mapped-back w (numbers_posted i y.core name mask) y.core core i (posted-tells i y.core name mask) go) seated all)
post-streams w new i y name e mask at seated (gone, core, inr refused) all = subst (λ (z : World). AllStream z) (sym refused.3) all

-- ---- a cut

cuts-go : (y : Server) (h : Handle) (core : Server) → Cuts y h core → AllGo y core
cuts-go y h core (inl (e, has, is)) g = subst (λ (x : Server). Goes y x g []) (sym is) (elim (handle-or g h) [
  | inl same ↦
      (λ d there.
      let one : d ≡ e = open-one d e (some_is (Open d) (Open e) (sym there ∙ ap (λ (k : Handle). under y.circuits k) same ∙ has)) in
      inr (why.Cut, e.link.output, ap (λ (k : Handle). under (ended h why.Cut e.link.output y).circuits k) same ∙ ended-own h why.Cut e.link.output y e has, ([], ap (λ (k : ServerEnd). k.link.output ++ []) one)))
  | inr other ↦ ended-go h why.Cut e.link.output y g other
])
cuts-go y h core (inr (none, is)) g = go-same y core (ap (λ (x : Server). x.circuits) is) g

-- no circuit tells anything
pub itself-back : (w : World) (core new : Server) (i : ℕ) → AllGo core new → (n : ℕ) (m : Joined) → At w.circuits n m
    → (c : Joined) × At w.circuits n c × (more : List Fields) × Tells c m more × (c.server ≡ i → c.lists.server_open ≡ true → Goes core new c.at_server more)
    × ((c.server ≡ i → c.lists.server_open ≡ true → ⊥) → more ≡ [])
itself-back w core new i go n m at = (m, at, [], tells-itself m, (λ mine opened. go m.at_server), (λ none. refl))

pub cut-streams : (w new : World) (k : ℕ) (j : Joined) (y : ServerSide) → At w.servers j.server y → Seated w → HappensCutServer w k j y new → AllStream w → AllStream new
cut-streams w new k j y at seated f all =
    subst (λ (z : World). AllStream z) (sym f.leaves)
    (after-streams w w j.server y y f.core at refl (λ l s on other. on) (y, at) (itself-back w y.core f.core j.server (cuts-go y.core j.at_server f.core f.cuts)) seated all)

-- ---- a pump

pub stamped-tells : (us : List Update) (j : Joined) → Tells j (stamped us j) (map (λ (u : Update). u.message) us)
stamped-tells [] j = tells-itself j
stamped-tells (u ∷ us) j =
    let item : ℕ × Cause = unwrap_or (front_number j.queues u.queue) (0, Reply) in
    let queues : List (Queue (ℕ × Cause)) = unwrap_or (option_map (λ (q : Queue (ℕ × Cause)). slice_set j.queues u.queue (with_front_taken q)) (slice_get j.queues u.queue)) j.queues in
    let d : Joined = record j { queues = queues; lists = record j.lists { down = j.lists.down ++ record { message = u.message; place = item.0; cause = item.1 } ∷ [] } } in
    tells-then j d (stamped us d) (u.message ∷ []) (map (λ (u : Update). u.message) us)
    (record {
      like = record { client = refl; server = refl; handle = refl; life = refl; side = λ x. refl; up = refl };
      is_open = refl;
      left = refl;
      handled = refl;
      said = map-both (λ (t : Told). t.message) j.lists.down (record { message = u.message; place = item.0; cause = item.1 } ∷ []);
    }) (stamped-tells us d)

pumps-own : (y : Server) (h : Handle) (us : List Update) (core : Server) → Pumps y h us core → Goes y core h (map (λ (u : Update). u.message) us)
pumps-own y h us core (inl (e, has, (after, folds, inl (rests, is)))) d there =
    let one : d ≡ e = open-one d e (some_is (Open d) (Open e) (sym there ∙ has)) in
    let r = leaves-all us e after folds in
    inl (after, subst (λ (x : Server). HasEnd x h after) (sym is) (end-own y h e after has), r.0 ∙ ap (λ (k : ServerEnd). k.link.input.bytes) (sym one), r.1 ∙ ap (λ (k : ServerEnd). k.link.output ++ spelled (map (λ (u : Update). u.message) us)) (sym one))
pumps-own y h us core (inl (e, has, (after, folds, inr (more, is)))) d there =
    let one : d ≡ e = open-one d e (some_is (Open d) (Open e) (sym there ∙ has)) in
    let r = leaves-all us e after folds in
    inr (
      why.OutOfMemory,
      after.link.output,
      ap (λ (x : Server). under x.circuits h) is ∙ ended-own h why.OutOfMemory after.link.output y e has,
      ([], ap (λ (k : ServerEnd). k.link.output ++ spelled (map (λ (u : Update). u.message) us)) one ∙ sym r.1 ∙ sym (append-nil after.link.output)),
    )
pumps-own y h us core (inr (none, nothing, is)) d there = absurd (none d there)

pumps-others : (y : Server) (h : Handle) (us : List Update) (core : Server) → Pumps y h us core → (g : Handle) → (g ≡ h → ⊥) → Goes y core g []
pumps-others y h us core (inl (e, has, (after, folds, inl (rests, is)))) g other = subst (λ (x : Server). Goes y x g []) (sym is) (λ d there. inl (go-end y h g after other d there))
pumps-others y h us core (inl (e, has, (after, folds, inr (more, is)))) g other = subst (λ (x : Server). Goes y x g []) (sym is) (ended-go h why.OutOfMemory after.link.output y g other)
pumps-others y h us core (inr (none, nothing, is)) g other = go-same y core (ap (λ (x : Server). x.circuits) is) g

-- circuit k alone tells something
pub one-back : (w : World) (k : ℕ) (j d : Joined) (ms : List Fields) (core new : Server) → At w.circuits k j → j.lists.server_open ≡ true → Seated w → Tells j d ms → Goes core new j.at_server ms → ((g : Handle) → (g ≡ j.at_server → ⊥) → Goes core new g [])
    → (n : ℕ) (m : Joined) → At (slice_set w.circuits k d) n m
    → (c : Joined) × At w.circuits n c × (more : List Fields) × Tells c m more × (c.server ≡ j.server → c.lists.server_open ≡ true → Goes core new c.at_server more)
    × ((c.server ≡ j.server → c.lists.server_open ≡ true → ⊥) → more ≡ [])
one-back w k j d ms core new at opened seated tells own others n m there = elim (At-set w.circuits k d n m there) [
  | inl here ↦
      (j, subst (λ (l : ℕ). At w.circuits l j) (sym here.0) at, ms, subst (λ (z : Joined). Tells j z ms) (sym here.1) tells, (λ mine is_open. own), (λ none. absurd (none refl opened)))
  | inr old ↦
      (m, old.0, [], tells-itself m, (λ mine is_open. others m.at_server (λ same. old.1 (seated.one n k m j old.0 at mine is_open opened same))), (λ none. refl))
]

pub pump-streams : (w new : World) (k : ℕ) (j : Joined) (y : ServerSide) → At w.circuits k j → At w.servers j.server y → j.lists.server_open ≡ true → Seated w → HappensPump w k j y new → AllStream w → AllStream new
pump-streams w new k j y on at opened seated f all =
    subst (λ (z : World). AllStream z) (sym f.leaves)
    (after-streams w (with_circuit k (stamped f.updates j) w) j.server y y f.core at refl (λ l s on other. on) (y, at)
    (one-back w k j (stamped f.updates j) _ y.core f.core on opened seated (stamped-tells f.updates j) (pumps-own y.core j.at_server f.updates f.core f.pumps) (pumps-others y.core j.at_server f.updates f.core f.pumps)) seated all)

-- ---- a removal

pub map-told : (cs : List Creation) (es : List (Handle × OpenChannel)) → map (λ (t : Told). t.message) (map (removal_told cs) es) ≡ map (λ (e : Handle × OpenChannel). disconnect e.1.cid) es
map-told cs [] = refl
map-told cs (e ∷ es) = ap (λ (l : List Fields). disconnect e.1.cid ∷ l) (map-told cs es)

map-take : {A B : Type 0} (f : A → B) (n : ℕ) (xs : List A) → map f (take n xs) ≡ take n (map f xs)
map-take f zero xs = refl
map-take f (suc n) [] = refl
map-take {A} {B} f (suc n) (x ∷ xs) = ap (λ (l : List B). f x ∷ l) (map-take f n xs)

pub remove-streams : (w new : World) (i : ℕ) (y : ServerSide) (name : List ℕ) → At w.servers i y → Seated w → HappensRemove w i y name new → AllStream w → AllStream new
remove-streams w new i y name at seated (gone, left, core, inr (removes, is)) all = subst (λ (z : World). AllStream z) (sym is) all
remove-streams w new i y name at seated (gone, left, core, inl (removes, is)) all =
    subst (λ (z : World). AllStream z) (sym is)
    (after-streams w _ i y side core at refl (λ l s on other. At-set-other w.servers i l s side on other) (side, set-here w.servers i y side at) back seated all)
  where
    side : ServerSide
    side = record y { records = filter (λ (r : RecordSide). not (bytes_eq r.name name)) y.records }

    -- the SERVER_DISCONNs of an end
    told : Joined → List (Handle × OpenChannel)
    told c = disconnected_at name gone left c.at_server (under y.core.circuits c.at_server)

    said : Joined → List Fields
    said c = map (λ (e : Handle × OpenChannel). disconnect e.1.cid) (told c)

    tells : (b : Bool) (c : Joined) → let over : SubKey → Bool = λ (k : SubKey). list_any (λ (e : Handle × OpenChannel). eqb (wire_of e.0) k.sid) (told c) in
        Tells c (cond b (without_standing over (record c { lists = record c.lists { down = c.lists.down ++ map (removal_told c.creations) (told c) } })) c) (cond b (said c) [])
    tells true c = record {
      like = record { client = refl; server = refl; handle = refl; life = refl; side = λ x. refl; up = refl };
      is_open = refl;
      left = refl;
      handled = refl;
      said = map-both (λ (t : Told). t.message) c.lists.down (map (removal_told c.creations) (told c)) ∙ ap (λ (l : List Fields). sent_down c ++ l) (map-told c.creations (told c));
    }
    tells false c = tells-itself c

    -- what an open end says, by whether it ends
    says : (h : Handle) (e : ServerEnd) → HasEnd y.core h e → (b : Bool) → gone h ≡ b → map (λ (e : Handle × OpenChannel). disconnect e.1.cid) (disconnected_at name gone left h (under y.core.circuits h)) ≡ cond b (take (left h) (disconnects name e)) (disconnects name e)
    says h e has b is =
        ap (λ (o : Option ServerCircuit). map (λ (e : Handle × OpenChannel). disconnect e.1.cid) (disconnected_at name gone left h o)) has
        ∙ ap (λ (b : Bool). map (λ (e : Handle × OpenChannel). disconnect e.1.cid) (cond b (take (left h) (channels_of name e)) (channels_of name e))) is
        ∙ go b
      where
        go : (b : Bool) → map (λ (e : Handle × OpenChannel). disconnect e.1.cid) (cond b (take (left h) (channels_of name e)) (channels_of name e)) ≡ cond b (take (left h) (disconnects name e)) (disconnects name e)
        go true = map-take (λ (e : Handle × OpenChannel). disconnect e.1.cid) (left h) (channels_of name e)
        go false = refl

    goes : (c : Joined) → Goes y.core core c.at_server (said c)
    goes c e has = elim (removal-goes name gone left y.core core (ap (λ (x : Server). x.circuits) removes.2) c.at_server e has) [
      | inl stays ↦ inl (subst (λ (l : List Fields). Stays y.core core c.at_server e l) (sym (says c.at_server e has false stays.0)) stays.1)
      | inr over ↦ inr (subst (λ (l : List Fields). Ends core c.at_server e l) (sym (says c.at_server e has true over.0)) over.1)
    ]

    back : (n : ℕ) (m : Joined) → At (map (removed_at i y.core name gone left) w.circuits) n m
        → (c : Joined) × At w.circuits n c × (more : List Fields) × Tells c m more × (c.server ≡ i → c.lists.server_open ≡ true → Goes y.core core c.at_server more)
        × ((c.server ≡ i → c.lists.server_open ≡ true → ⊥) → more ≡ [])
    back n m there =
        let c = At-mapped (removed_at i y.core name gone left) w.circuits n m there in
        let b : Bool = eqb c.0.server i && c.0.lists.server_open in (
          c.0,
          c.1,
          cond b (said c.0) [],
          subst (λ (d : Joined). Tells c.0 d (cond b (said c.0) [])) (sym c.2) (tells b c.0),
          (λ mine opened. subst (λ (q : Bool). Goes y.core core c.0.at_server (cond q (said c.0) [])) (sym (and_from (eqb c.0.server i) c.0.lists.server_open (eq-eqb c.0.server i mine) opened)) (goes c.0)),
          (λ none. quiet (eqb c.0.server i) c.0.lists.server_open (said c.0) (λ p q. none (eqb-true c.0.server i p) q)),
        )
      where
        quiet : (a b : Bool) (ms : List Fields) → (a ≡ true → b ≡ true → ⊥) → cond (a && b) ms [] ≡ []
        quiet true true ms none = absurd (none refl refl)
        quiet true false ms none = refl
        quiet false b ms none = refl

-- ---- an addition, and a new life

pub add-streams : (w new : World) (i : ℕ) (y : ServerSide) (r : RecordState) → At w.servers i y → HappensAdd w i y r new → AllStream w → AllStream new
add-streams w new i y r at (core, behind, inr refused) all = subst (λ (z : World). AllStream z) (sym refused.3) all
add-streams w new i y r at (core, behind, inl (adds, is)) all =
    subst (λ (z : World). AllStream z) (sym is)
    (server-event w _ i y _ at (set-here w.servers i y _ at) (λ l s on other. At-set-other w.servers i l s _ on other) refl
    (λ n d there. (d, there, like-itself d, (λ mine. same-acts d), (λ other s. refl))) all)
  where
    same : core.circuits ≡ y.core.circuits
    same = ap (λ (x : Server). x.circuits) adds.1

    same-acts : (d : Joined) → Acts (server_end y d) (server_end (record y { core = core }) d)
    same-acts d =
        subst (λ (t : Table ServerCircuit). Acts (server_end y d) (server_end (record y { core = record core { circuits = t } }) d)) (sym same) (acts-itself (server_end y d))

pub server-restart-streams : (w new : World) (i : ℕ) (y : ServerSide) → At w.servers i y → Seated w → HappensServerRestart w i y new → AllStream w → AllStream new
server-restart-streams w new i y at seated is all =
    subst (λ (v : World). AllStream v) (sym is)
    (server-event w _ i y z at (set-here w.servers i y z at) (λ l s on other. At-set-other w.servers i l s z on other) refl back all)
  where
    z : ServerSide
    z = server_begun w.moment (length w.server_logs) y.setting

    by : (b : Bool) (c : Joined) → (c.lists.server_open ≡ true → b ≡ true → (e : ServerEnd) × HasEnd y.core c.at_server e) → (b ≡ true → c.lists.server_open ≡ true) → (b ≡ false → c.lists.server_open ≡ false)
        → Acts (server_end y c) (server_end z (unwrap_or (option_map (λ (left : List ℕ). server_closed left c) (cond b (Some (output_of (under y.core.circuits c.at_server))) None)) c))
    by true c has opens shuts =
        let opened = opens refl in
        let e = has opened refl in
        server-ends y z c (server_closed (output_of (under y.core.circuits c.at_server)) c) [] [] e.0 opened refl (sym (append-nil (sent_down c))) e.1
        (ap (λ (o : Option ServerCircuit). output_of o ++ []) (sym e.1))
    by false c has opens shuts = server-shut y z c c (shuts refl) (shuts refl) refl refl

    back : (n : ℕ) (d : Joined) → At (map (ending (ends_untold i y.core)) w.circuits) n d
        → (c : Joined) × At w.circuits n c × Like c d × (c.server ≡ i → Acts (server_end y c) (server_end z d)) × ((c.server ≡ i → ⊥) → (s : ServerSide) → server_end s d ≡ server_end s c)
    back n d there =
        let c = At-mapped (ending (ends_untold i y.core)) w.circuits n d there in (
          c.0,
          c.1,
          subst (λ (q : Joined). Like c.0 q) (sym c.2) (ending-like (ends_untold i y.core) c.0),
          (λ mine.
              subst (λ (q : Joined). Acts (server_end y c.0) (server_end z q)) (sym c.2)
              (by (eqb c.0.server i && c.0.lists.server_open) c.0 (λ opened yes_it. seat-of w i y n c.0 at seated c.1 mine opened) (λ e. (and_parts (eqb c.0.server i) c.0.lists.server_open e).1)
              (λ e. shut c.0 mine e))),
          (λ other s. ap (λ (q : Joined). server_end s q) (c.2 ∙ elsewhere c.0 other)),
        )
      where
        shut : (c : Joined) → c.server ≡ i → (eqb c.server i && c.lists.server_open) ≡ false → c.lists.server_open ≡ false
        shut c mine e = sym (ap (λ (b : Bool). b && c.lists.server_open) (eq-eqb c.server i mine)) ∙ e

        elsewhere : (c : Joined) → (c.server ≡ i → ⊥) → ending (ends_untold i y.core) c ≡ c
        elsewhere c other = go (eqb c.server i) refl
          where
            go : (b : Bool) → eqb c.server i ≡ b → unwrap_or (option_map (λ (left : List ℕ). server_closed left c) (cond (b && c.lists.server_open) (Some (output_of (under y.core.circuits c.at_server))) None)) c ≡ c
            go true e = absurd (other (eqb-true c.server i e))
            go false e = refl
