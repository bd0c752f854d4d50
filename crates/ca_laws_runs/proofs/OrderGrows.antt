-- Over every event but two steps, an acceptance and a restart of a client: logs and lists get
-- longer, and the steps of all ends stay.
use Rattle.std.proofs.Common.{◌≡◌, ℕ, append-nil, append_assoc, zero, suc, ◌+◌, ◌<◌, ◌≤◌, ◌⊎◌, inl, inr, Bool, true, false, cond, ◌&&◌, eqb, List, [], ◌∷◌, ◌++◌, length, Option, Some, None, refl, sym, ap, subst, ◌∙◌, arith}
use Rattle.std.specs.Prelude.{drop, filter, map, not, option_map, slice_get, slice_set, unwrap_or}
use Rattle.std.specs.List.{fold, list_any}
use Rattle.std.specs.Str.{bytes_eq}
use Rattle.std.proofs.lemmas.List.{length-append}
use Rattle.ca_arena.specs.declared.handle.Handle.{Handle}
use Rattle.ca_dbr.specs.Elements.{Elements}
use Rattle.ca_ids.specs.Table.{under}
use Rattle.ca_ids.specs.Wire.{wire_of}
use Rattle.ca_queue.specs.declared.entry.SubKey.{SubKey}
use Rattle.ca_queue.specs.Queue.{Queue, with_front_taken}
use Rattle.ca_records.specs.Puts.{WaitingPut}
use Rattle.ca_records.specs.Record.{unset}
use Rattle.ca_text.specs.Place.{At}
use Rattle.ca_text.proofs.Places.{At-append, At-mapped, At-or, At-set, At-set-other}
use Rattle.ca_wire.specs.Fields.{Fields}
use Rattle.ca_model.specs.Answers.{Closing, Left, Sending}
use Rattle.ca_model.specs.Client.{Client}
use Rattle.ca_model.specs.ClientEnds.{handed_over}
use Rattle.ca_model.specs.Due.{Action}
use Rattle.ca_model.specs.Ends as why
use Rattle.ca_model.specs.History.{Cause, Circuit, Entry, Line, OfCircuit, Reply, Sent, Told}
use Rattle.ca_model.specs.Server.{OpenChannel, Server}
use Rattle.ca_model.specs.ServerSteps.{Stepped, Update, closed}
use Rattle.ca_model.specs.ServerSteps as stepped
use Rattle.ca_model.specs.ClientEvents.{DownTaken, HappensDown, Outcomes, TicksOne, after_tick, client_after, client_closed, client_ended, left_silent, lines_of, sent_on, up_taken}
use Rattle.ca_model.specs.Events.{Event}
use Rattle.ca_model.specs.Events as event
use Rattle.ca_model.specs.Runs.{CanBe, Happens, Leaves, TicksAll, clients_below}
use Rattle.ca_model.specs.ServerEvents.{HappensFinish, HappensPost, HappensRemove, ServerStepped, StepHandles, about, acted, ending, ends_at, ends_by, ends_here, keys_concerned, next_numbers, numbers_after, numbers_posted, removed_at, replied_at, server_after, server_closed, side_of, stamped, unsaid, with_number, withdrawals, write_numbers}
use Rattle.ca_model.specs.ServerEvents as server
use Rattle.ca_model.specs.World.{ClientSide, Joined, Names, PutPlace, RecordSide, ServerSide, World, grown, log_begun, log_length, with_circuit, with_client, with_lines}
use Rattle.ca_laws_parts.proofs.Handled.{numbers-like, writes-like}
use Rattle.ca_laws_parts.specs.Moves.{finish_told, post_told}
use Rattle.ca_laws_parts.specs.Moves as moves
use Rattle.ca_laws_parts.proofs.Lasting.{told_late}
use Rattle.ca_laws_parts.proofs.LastingStep.{replied-back}
use Rattle.ca_laws_parts.proofs.WritesLists.{length-more}
use Rattle.ca_laws_parts.proofs.Midway.{set-here}
use Rattle.ca_laws_parts.proofs.WritesMoves.{same-or}

-- ---- logs

-- There are as many logs or more, and each begins as it was.
pub record Longer {A : Type 0} (old new : List (List A)) : Type 0 where
  pub count : length old ≤ length new
  pub each : (l : ℕ) → log_length l old ≤ log_length l new
  pub begins : (l : ℕ) (x : List A) → At old l x → (more : List A) × At new l (x ++ more)

-- a log that is as it was
same-log : {A : Type 0} (logs : List (List A)) (l : ℕ) (x : List A) → At logs l x → (more : List A) × At logs l (x ++ more)
same-log logs l x at = ([], subst (λ (y : List _). At logs l y) (sym (append-nil x)) at)

pub longer-self : {A : Type 0} (old new : List (List A)) → new ≡ old → Longer old new
longer-self {A} old new is = subst (λ (z : List (List A)). Longer old z) (sym is) (record { count = omega arith; each = λ l. omega arith; begins = same-log old })

pub longer-then : {A : Type 0} (a b c : List (List A)) → Longer a b → Longer b c → Longer a c
longer-then {A} a b c f g = record {
  count = (let p : length a ≤ length b = f.count in let q : length b ≤ length c = g.count in omega (arith, p, q));
  each = λ l. (let p : log_length l a ≤ log_length l b = f.each l in let q : log_length l b ≤ log_length l c = g.each l in omega (arith, p, q));
  begins = λ l x at.
      let y = f.begins l x at in
      let z = g.begins l (x ++ y.0) y.1 in
      (y.0 ++ z.0, subst (λ (log : List A). At c l log) (append_assoc x y.0 z.0) z.1);
}

set-count : {A : Type 0} (xs : List A) (i : ℕ) (y : A) → length (slice_set xs i y) ≡ length xs
set-count [] i y = refl
set-count (x ∷ xs) zero y = refl
set-count (x ∷ xs) (suc i) y = ap (λ (n : ℕ). suc n) (set-count xs i y)

set-each : {A : Type 0} (logs : List (List A)) (i : ℕ) (y : List A) → log_length i logs ≤ length y → (l : ℕ) → log_length l logs ≤ log_length l (slice_set logs i y)
set-each [] i y le l = omega arith
set-each (x ∷ logs) zero y le zero = le
set-each (x ∷ logs) zero y le (suc l) = omega arith
set-each (x ∷ logs) (suc i) y le zero = omega arith
set-each (x ∷ logs) (suc i) y le (suc l) = set-each logs i y le l

grown-begins : {A : Type 0} (logs : List (List A)) (life : ℕ) (more : List A) (l : ℕ) (x : List A) → At logs l x → (rest : List A) × At (grown life more logs) l (x ++ rest)
grown-begins {A} logs life more l x at = elim (same-or l life) [
  | inl is ↦
      let here : At logs life x = subst (λ (n : ℕ). At logs n x) is at in
      let log : List A = unwrap_or (slice_get logs life) [] ++ more in
      let set : At (slice_set logs life log) life log = set-here logs life x log here in
      (more, subst (λ (v : ℕ × List A). At (slice_set logs life log) v.0 (v.1 ++ more)) (λ i. (sym is i, ap (λ (o : Option (List A)). unwrap_or o []) here i)) set)
  | inr other ↦ (let same = same-log logs l x at in (same.0, At-set-other logs life l (x ++ same.0) (unwrap_or (slice_get logs life) [] ++ more) same.1 other))
]

pub longer-grown : {A : Type 0} (logs : List (List A)) (life : ℕ) (more : List A) → Longer logs (grown life more logs)
longer-grown {A} logs life more =
    let old : List A = unwrap_or (slice_get logs life) [] in
    record {
      count = (let e : length (grown life more logs) ≡ length logs = set-count logs life (old ++ more) in omega (arith, e));
      each = set-each logs life (old ++ more) (let e : length (old ++ more) ≡ length old + length more = length-append old more in omega (arith, e));
      begins = grown-begins logs life more;
    }

-- a log that is there has as many lines more
pub grown-here : {A : Type 0} (logs : List (List A)) (life : ℕ) (more : List A) → life < length logs → log_length life (grown life more logs) ≡ log_length life logs + length more
grown-here {A} logs life more lt = elim (At-or logs life) [
  | inl x ↦
      ap (λ (o : Option (List A)). length (unwrap_or o [])) (set-here logs life x.0 (unwrap_or (slice_get logs life) [] ++ more) x.1)
      ∙ length-append (unwrap_or (slice_get logs life) []) more
  | inr past ↦ absurd (omega (arith, lt, past))
]

snoc-each : {A : Type 0} (logs : List (List A)) (y : List A) (l : ℕ) → log_length l logs ≤ log_length l (logs ++ y ∷ [])
snoc-each [] y zero = omega arith
snoc-each [] y (suc l) = omega arith
snoc-each (x ∷ logs) y zero = omega arith
snoc-each (x ∷ logs) y (suc l) = snoc-each logs y l

pub longer-snoc : {A : Type 0} (logs : List (List A)) (y : List A) → Longer logs (logs ++ y ∷ [])
longer-snoc logs y = record {
  count = (let e : length (logs ++ y ∷ []) ≡ length logs + 1 = length-more logs y in omega (arith, e));
  each = snoc-each logs y;
  begins = λ l x at. same-log (logs ++ y ∷ []) l x (At-append logs (y ∷ []) l x at);
}

-- ---- circuits

-- The circuit goes on: its lists get longer, and no end makes a step.
pub record GoesOn (c d : Joined) : Type 0 where
  pub number : d.client ≡ c.client
  pub handle : d.at_client ≡ c.at_client
  pub client : d.lists.client ≡ c.lists.client
  pub server : d.lists.server ≡ c.lists.server
  pub up : length c.lists.up ≤ length d.lists.up
  pub down : length c.lists.down ≤ length d.lists.down
  pub said : (p : ℕ) (s : Sent) → At c.lists.up p s → At d.lists.up p s
  pub tells : (i : ℕ) (t : Told) → At c.lists.down i t → At d.lists.down i t
  pub handled : d.lists.handled ≡ c.lists.handled
  pub heard : d.lists.heard ≡ c.lists.heard
  pub opened : d.lists.client_open ≡ true → c.lists.client_open ≡ true

pub on-lists : (c d : Joined) → d.client ≡ c.client → d.at_client ≡ c.at_client → d.lists ≡ c.lists → GoesOn c d
on-lists c d number handle lists = record {
  number = number;
  handle = handle;
  client = ap (λ (z : Circuit). z.client) lists;
  server = ap (λ (z : Circuit). z.server) lists;
  up = (let e : length d.lists.up ≡ length c.lists.up = ap (λ (z : Circuit). length z.up) lists in omega (arith, e));
  down = (let e : length d.lists.down ≡ length c.lists.down = ap (λ (z : Circuit). length z.down) lists in omega (arith, e));
  said = λ p s at. subst (λ (z : Circuit). At z.up p s) (sym lists) at;
  tells = λ i t at. subst (λ (z : Circuit). At z.down i t) (sym lists) at;
  handled = ap (λ (z : Circuit). z.handled) lists;
  heard = ap (λ (z : Circuit). z.heard) lists;
  opened = λ o. ap (λ (z : Circuit). z.client_open) (sym lists) ∙ o;
}

pub on-self : (c : Joined) → GoesOn c c
on-self c = on-lists c c refl refl refl

pub on-then : (a b c : Joined) → GoesOn a b → GoesOn b c → GoesOn a c
on-then a b c f g = record {
  number = g.number ∙ f.number;
  handle = g.handle ∙ f.handle;
  client = g.client ∙ f.client;
  server = g.server ∙ f.server;
  up = (let p : length a.lists.up ≤ length b.lists.up = f.up in let q : length b.lists.up ≤ length c.lists.up = g.up in omega (arith, p, q));
  down = (let p : length a.lists.down ≤ length b.lists.down = f.down in let q : length b.lists.down ≤ length c.lists.down = g.down in omega (arith, p, q));
  said = λ p s at. g.said p s (f.said p s at);
  tells = λ i t at. g.tells i t (f.tells i t at);
  handled = g.handled ∙ f.handled;
  heard = g.heard ∙ f.heard;
  opened = λ o. f.opened (g.opened o);
}

-- a server's messages more
on-told : (c : Joined) (more : List Told) → GoesOn c (record c { lists = record c.lists { down = c.lists.down ++ more } })
on-told c more = record {
  number = refl;
  handle = refl;
  client = refl;
  server = refl;
  up = omega arith;
  down = (let e : length (c.lists.down ++ more) ≡ length c.lists.down + length more = length-append c.lists.down more in omega (arith, e));
  said = λ p s at. at;
  tells = λ i t at. At-append c.lists.down more i t at;
  handled = refl;
  heard = refl;
  opened = λ o. o;
}

-- a client's messages more
pub on-said : (i : ℕ) (n : Names) (sent : List Sending) (c : Joined) → GoesOn c (record c { lists = record c.lists { up = c.lists.up ++ sent_on i n sent c } })
on-said i n sent c = record {
  number = refl;
  handle = refl;
  client = refl;
  server = refl;
  up = (let e : length (c.lists.up ++ sent_on i n sent c) ≡ length c.lists.up + length (sent_on i n sent c) = length-append c.lists.up (sent_on i n sent c) in omega (arith, e));
  down = omega arith;
  said = λ p s at. At-append c.lists.up (sent_on i n sent c) p s at;
  tells = λ j t at. at;
  handled = refl;
  heard = refl;
  opened = λ o. o;
}

pub on-closed : (left : List ℕ) (c : Joined) → GoesOn c (client_closed left c)
on-closed left c = record {
  number = refl;
  handle = refl;
  client = refl;
  server = refl;
  up = omega arith;
  down = omega arith;
  said = λ p s at. at;
  tells = λ i t at. at;
  handled = refl;
  heard = refl;
  opened = λ o. absurd (let e : false ≡ true = o in cc);
}

pub on-ending : (ends : Joined → Option (List ℕ)) (c : Joined) → GoesOn c (ending ends c)
on-ending ends c = go (ends c)
  where
    go : (o : Option (List ℕ)) → GoesOn c (unwrap_or (option_map (λ (left : List ℕ). server_closed left c) o) c)
    go None = on-self c
    go (Some left) = record { number = refl; handle = refl; client = refl; server = refl; up = omega arith; down = omega arith; said = λ p s at. at; tells = λ i t at. at; handled = refl; heard = refl; opened = λ o. o }

on-if : (c d : Joined) (b : Bool) → GoesOn c d → GoesOn c (cond b d c)
on-if c d true goes = goes
on-if c d false goes = on-self c

on-numbered : (c : Joined) (keys : List SubKey) → GoesOn c (fold with_number c keys)
on-numbered c [] = on-self c
on-numbered c (k ∷ keys) = on-then c (with_number c k) (fold with_number c (k ∷ keys)) (on-lists c (with_number c k) refl refl refl) (on-numbered (with_number c k) keys)

on-posted : (i : ℕ) (core : Server) (name : List ℕ) (mask : ℕ) (c : Joined) → GoesOn c (numbers_posted i core name mask c)
on-posted i core name mask c =
    on-if c (fold with_number c (keys_concerned name mask (under core.circuits c.at_server))) (eqb c.server i && c.lists.server_open) (on-numbered c (keys_concerned name mask (under core.circuits c.at_server)))

on-next : (i : ℕ) (core : Server) (name : List ℕ) (ws : List WaitingPut) (c : Joined) → GoesOn c (next_numbers i core name ws c)
on-next i core name [] c = on-self c
on-next i core name (x ∷ ws) c = on-posted i core name 3 c

on-removed : (i : ℕ) (core : Server) (name : List ℕ) (gone : Handle → Bool) (left : Handle → ℕ) (c : Joined) → GoesOn c (removed_at i core name gone left c)
on-removed i core name gone left c = on-if c over (eqb c.server i && c.lists.server_open) (on-then c mid over (on-told c (map (server.removal_told c.creations) told)) (on-lists mid over refl refl refl))
  where
    told : List (Handle × OpenChannel)
    told = server.disconnected_at name gone left c.at_server (under core.circuits c.at_server)

    mid : Joined
    mid = record c { lists = record c.lists { down = c.lists.down ++ map (server.removal_told c.creations) told } }

    over : Joined
    over = server.without_standing (λ (k : SubKey). list_any (λ (x : Handle × OpenChannel). eqb (wire_of x.0) k.sid) told) mid

on-stamped : (us : List Update) (c : Joined) → GoesOn c (stamped us c)
on-stamped [] c = on-self c
on-stamped (u ∷ us) c =
    let item : ℕ × Cause = unwrap_or (server.front_number c.queues u.queue) (0, Reply) in
    let queues : List (Queue (ℕ × Cause)) = unwrap_or (option_map (λ (q : Queue (ℕ × Cause)). slice_set c.queues u.queue (with_front_taken q)) (slice_get c.queues u.queue)) c.queues in
    let m : Told = record { message = u.message; place = item.0; cause = item.1 } in
    let mid : Joined = record c { lists = record c.lists { down = c.lists.down ++ m ∷ [] } } in
    let d : Joined = record c { queues = queues; lists = record c.lists { down = c.lists.down ++ m ∷ [] } } in
    on-then c d (stamped us d) (on-then c mid d (on-told c (m ∷ [])) (on-lists mid d refl refl refl)) (on-stamped us d)

-- ---- worlds

-- From one world to the next: clients stay in their lives, logs get longer, and each circuit is
-- there still and goes on.
pub record Grown (w new : World) : Type 0 where
  pub lives : (i : ℕ) (x : ClientSide) → At new.clients i x → (z : ClientSide) × At w.clients i z × (x.life ≡ z.life)
  pub lines : Longer w.client_logs new.client_logs
  pub entries : Longer w.server_logs new.server_logs
  pub count : length w.circuits ≤ length new.circuits
  pub back : (n : ℕ) (d : Joined) → At new.circuits n d → (c : Joined) × At w.circuits n c × GoesOn c d

abbrev Back : (w new : World) → Type 0
Back w new = (length w.circuits ≤ length new.circuits) × ((n : ℕ) (d : Joined) → At new.circuits n d → (c : Joined) × At w.circuits n c × GoesOn c d)

pub map-count : {A B : Type 0} (f : A → B) (xs : List A) → length (map f xs) ≡ length xs
map-count f [] = refl
map-count f (x ∷ xs) = ap (λ (n : ℕ). suc n) (map-count f xs)

pub grown-by : (w new : World) → new.clients ≡ w.clients → Longer w.client_logs new.client_logs → Longer w.server_logs new.server_logs → Back w new → Grown w new
grown-by w new clients lines entries back =
    record { lives = λ i x at. (x, subst (λ (l : List ClientSide). At l i x) clients at, refl); lines = lines; entries = entries; count = back.0; back = back.1 }

back-same : (w new : World) → new.circuits ≡ w.circuits → Back w new
back-same w new circuits =
    (let e : length new.circuits ≡ length w.circuits = ap (λ (l : List Joined). length l) circuits in omega (arith, e), λ n d at. (d, subst (λ (l : List Joined). At l n d) circuits at, on-self d))

back-map : (w new : World) (f : Joined → Joined) → new.circuits ≡ map f w.circuits → ((c : Joined) → GoesOn c (f c)) → Back w new
back-map w new f circuits goes = (
  let e : length new.circuits ≡ length w.circuits = ap (λ (l : List Joined). length l) circuits ∙ map-count f w.circuits in omega (arith, e),
  λ n d at.
      let c = At-mapped f w.circuits n d (subst (λ (l : List Joined). At l n d) circuits at) in
      (c.0, c.1, subst (λ (z : Joined). GoesOn c.0 z) (sym c.2) (goes c.0)),
)

pub grown-same : (w new : World) → new.clients ≡ w.clients → new.client_logs ≡ w.client_logs → new.server_logs ≡ w.server_logs → new.circuits ≡ w.circuits → Grown w new
grown-same w new clients lines entries circuits =
    grown-by w new clients (longer-self w.client_logs new.client_logs lines) (longer-self w.server_logs new.server_logs entries) (back-same w new circuits)

pub grown-self : (w new : World) → new ≡ w → Grown w new
grown-self w new is = grown-same w new (ap (λ (z : World). z.clients) is) (ap (λ (z : World). z.client_logs) is) (ap (λ (z : World). z.server_logs) is) (ap (λ (z : World). z.circuits) is)

-- circuits change, and nothing else
pub grown-map : (w new : World) (f : Joined → Joined) → new.clients ≡ w.clients → new.client_logs ≡ w.client_logs → new.server_logs ≡ w.server_logs → new.circuits ≡ map f w.circuits → ((c : Joined) → GoesOn c (f c)) → Grown w new
grown-map w new f clients lines entries circuits goes =
    grown-by w new clients (longer-self w.client_logs new.client_logs lines) (longer-self w.server_logs new.server_logs entries) (back-map w new f circuits goes)

pub grown-set : (w : World) (k : ℕ) (j d : Joined) → At w.circuits k j → GoesOn j d → Grown w (with_circuit k d w)
grown-set w k j d on goes =
    grown-by w (with_circuit k d w) refl (longer-self w.client_logs w.client_logs refl) (longer-self w.server_logs w.server_logs refl) (
      let e : length (slice_set w.circuits k d) ≡ length w.circuits = set-count w.circuits k d in omega (arith, e),
      λ n c at. elim (At-set w.circuits k d n c at) [
        | inl own ↦ (j, subst (λ (m : ℕ). At w.circuits m j) (sym own.0) on, subst (λ (z : Joined). GoesOn j z) (sym own.1) goes)
        | inr old ↦ (c, old.0, on-self c)
      ],
    )

pub grown-then : (a b c : World) → Grown a b → Grown b c → Grown a c
grown-then a b c f g = record {
  lives = λ i x at. (let y = g.lives i x at in let z = f.lives i y.0 y.1 in (z.0, z.1, y.2 ∙ z.2));
  lines = longer-then a.client_logs b.client_logs c.client_logs f.lines g.lines;
  entries = longer-then a.server_logs b.server_logs c.server_logs f.entries g.entries;
  count = (let p : length a.circuits ≤ length b.circuits = f.count in let q : length b.circuits ≤ length c.circuits = g.count in omega (arith, p, q));
  back = λ n d at. (let y = g.back n d at in let x = f.back n y.0 y.1 in (x.0, x.1, on-then x.0 y.0 d x.2 y.2));
}

-- a client goes on in the same life
grown-client : (w : World) (i : ℕ) (x next : ClientSide) → At w.clients i x → next.life ≡ x.life → Grown w (with_client i next w)
grown-client w i x next at life = record {
  lives = λ j z there. elim (At-set w.clients i next j z there) [
    | inl own ↦ (x, subst (λ (m : ℕ). At w.clients m x) (sym own.0) at, ap (λ (v : ClientSide). v.life) own.1 ∙ life)
    | inr old ↦ (z, old.0, refl)
  ];
  lines = longer-self w.client_logs w.client_logs refl;
  entries = longer-self w.server_logs w.server_logs refl;
  count = omega arith;
  back = (back-same w (with_client i next w) refl).1;
}

grown-lines : (w : World) (life : ℕ) (lines : List Line) → Grown w (with_lines life lines w)
grown-lines w life lines =
    grown-by w (with_lines life lines w) refl (longer-grown w.client_logs life lines) (longer-self w.server_logs w.server_logs refl) (back-same w (with_lines life lines w) refl)

-- a server's log has these entries more, and circuits change
grown-entries : (w mid : World) (life : ℕ) (entries : List Entry) (f : Joined → Joined) → mid.clients ≡ w.clients → mid.client_logs ≡ w.client_logs → mid.server_logs ≡ grown life entries w.server_logs → mid.circuits ≡ map f w.circuits → ((c : Joined) → GoesOn c (f c)) → Grown w mid
grown-entries w mid life entries f clients lines logs circuits goes =
    grown-by w mid clients (longer-self w.client_logs mid.client_logs lines) (subst (λ (l : List (List Entry)). Longer w.server_logs l) (sym logs) (longer-grown w.server_logs life entries)) (back-map w mid f circuits goes)

pub grown-after : (w : World) (i : ℕ) (x : ClientSide) (spoken : Names) (o : Outcomes) → At w.clients i x → Grown w (client_after i x spoken o w)
grown-after w i x spoken o at =
    let up : Joined → Joined = λ (c : Joined). record c { lists = record c.lists { up = c.lists.up ++ sent_on i spoken o.sent c } } in
    let mid : World = record w { circuits = map up w.circuits } in
    let lined : World = with_lines x.life o.lines mid in
    grown-then w lined (client_after i x spoken o w)
    (grown-then w mid lined (grown-map w mid up refl refl refl refl (on-said i spoken o.sent)) (grown-lines mid x.life o.lines))
    (grown-client lined i x (record x { core = o.core; names = o.names }) at refl)

-- the same, by what the call leaves
pub grown-left : (w : World) (i : ℕ) (x : ClientSide) (spoken names : Names) (core : Client) (lines : List Line) (sent : List Sending) → At w.clients i x
    → Grown w (client_after i x spoken (record { core = core; names = names; lines = lines; sent = sent }) w)
grown-left w i x spoken names core lines sent at = grown-after w i x spoken (record { core = core; names = names; lines = lines; sent = sent }) at

pub grown-server : (w : World) (i : ℕ) (side : ServerSide) (ends : Joined → Option (List ℕ)) (core : Server) → Grown w (server_after i side ends core w)
grown-server w i side ends core =
    grown-entries w (server_after i side ends core w) side.life (withdrawals (ends_at ends w.circuits) side.records) (ending ends) refl refl refl refl (on-ending ends)

-- ---- a step of a server's end

pub grown-acted : (w : World) (k : ℕ) (j : Joined) (y : ServerSide) (did : Action) → At w.circuits k j → Grown w (acted k j y did w)
grown-acted w k j y did on =
    let place : ℕ = length j.lists.handled in
    let numbers : Joined = numbers_after place did j in
    let mid : World = with_circuit k numbers w in
    grown-then w mid (acted k j y did w) (grown-set w k j numbers on (on-lists j numbers (numbers-like place did j).2 (numbers-like place did j).1 (numbers-like place did j).0))
    (grown-entries mid (acted k j y did w) y.life (server.logged_by y.core j.at_server (record { circuit = k; place = place }) did y.records) (write_numbers j.server y.core did) refl refl refl refl
    (λ c. on-lists c (write_numbers j.server y.core did c) (writes-like j.server y.core did c).2 (writes-like j.server y.core did c).1 (writes-like j.server y.core did c).0))

-- a step handles a message, or all goes on
pub step-grown : (w new : World) (k : ℕ) (j : Joined) (y : ServerSide) (did : Stepped) → At w.circuits k j → ServerStepped w k j y did new → StepHandles w k j y new ⊎ Grown w new
step-grown w new k j y stepped.Handled on f = inl f
step-grown w new k j y stepped.NeedBytes on f = inr (grown-self w new f.3)
step-grown w new k j y stepped.OutputFull on f = inr (grown-self w new f.3)
step-grown w new k j y (stepped.Closed why.OutOfMemory left) on f = inr (subst (λ (z : World). Grown w z) (sym f.leaves) (go f.lacks.written))
  where
    did : Action
    did = f.lacks.next.action

    go : (o : Option (Handle → Bool)) → Grown w (server_after j.server (side_of j.server y (unsaid k j y did o w)) (ends_here j left j.server f.core) f.core (unsaid k j y did o w))
    go None = grown-server w j.server (side_of j.server y w) (ends_here j left j.server f.core) f.core
    go (Some gone) =
        let mid : World = acted k j y did w in
        grown-then w mid (server_after j.server (side_of j.server y mid) (ends_here j left j.server f.core) f.core mid)
        (grown-acted w k j y did on) (grown-server mid j.server (side_of j.server y mid) (ends_here j left j.server f.core) f.core)
step-grown w new k j y (stepped.Closed cause left) on f = inr (subst (λ (z : World). Grown w z) (sym f.3) (grown-server w j.server y (ends_here j left j.server y.core) (closed j.at_server y.core)))

-- ---- events at a server

post-grown : (w new : World) (i : ℕ) (y : ServerSide) (name : List ℕ) (e : Elements) (mask : ℕ) → HappensPost w i y name e mask new → Grown w new
post-grown w new i y name e mask (gone, core, inl (posts, is)) =
    let told : World = post_told w i y name (record { value = e; meta = unset }) mask in
    subst (λ (z : World). Grown w z) (sym is)
    (grown-then w told (server_after i y (ends_by i core) core told)
    (grown-entries w told y.life (server.posted_entry y name (record { value = e; meta = unset }) mask) (numbers_posted i y.core name mask) refl refl refl refl (on-posted i y.core name mask))
    (grown-server told i y (ends_by i core) core))
post-grown w new i y name e mask (gone, core, inr refused) = grown-self w new refused.3

pub replied-rest : (p : PutPlace) (sent : List (Handle × Fields)) (t : World) → ((replied_at p sent t).clients ≡ t.clients) × ((replied_at p sent t).client_logs ≡ t.client_logs) × ((replied_at p sent t).server_logs ≡ t.server_logs)
replied-rest p sent t = go (slice_get t.circuits p.circuit)
  where
    go : (o : Option Joined) → let z : World = unwrap_or (option_map (λ (j : Joined). with_circuit p.circuit (told_late p.place (map (λ (s : Handle × Fields). s.1) sent) j) t) o) t in (z.clients ≡ t.clients) × (z.client_logs ≡ t.client_logs) × (z.server_logs ≡ t.server_logs)
    go None = (refl, refl, refl)
    go (Some j) = (refl, refl, refl)

replied-count : (p : PutPlace) (sent : List (Handle × Fields)) (t : World) → length t.circuits ≤ length (replied_at p sent t).circuits
replied-count p sent t = go (slice_get t.circuits p.circuit)
  where
    go : (o : Option Joined) → length t.circuits ≤ length (unwrap_or (option_map (λ (j : Joined). with_circuit p.circuit (told_late p.place (map (λ (s : Handle × Fields). s.1) sent) j) t) o) t).circuits
    go None = omega arith
    go (Some j) = (let d : Joined = told_late p.place (map (λ (s : Handle × Fields). s.1) sent) j in let e : length (slice_set t.circuits p.circuit d) ≡ length t.circuits = set-count t.circuits p.circuit d in omega (arith, e))

finish-grown : (w new : World) (i : ℕ) (y : ServerSide) (name : List ℕ) → HappensFinish w i y name new → Grown w new
finish-grown w new i y name (inl f) =
    let told : World = finish_told w i y name f.cr f.r f.p in
    let said : World = replied_at f.p f.sent told in
    let ms : List Fields = map (λ (s : Handle × Fields). s.1) f.sent in
    let side : ServerSide = record y { records = server.with_record name server.next_busy y.records } in
    let rest = replied-rest f.p f.sent told in
    subst (λ (z : World). Grown w z) (sym f.leaves)
    (grown-then w said (server_after i side (ends_by i f.core) f.core said)
    (grown-then w told said
    (grown-entries w told y.life (server.finish_entry f.p ∷ server.next_entries y f.r (server.first_of f.cr.waiting) (server.first_of f.r.waiting)) (next_numbers i y.core name f.cr.waiting) refl refl refl refl (on-next i y.core name f.cr.waiting))
    (grown-by told said rest.0 (longer-self told.client_logs said.client_logs rest.1) (longer-self told.server_logs said.server_logs rest.2) (
      replied-count f.p f.sent told,
      λ n d at.
          let c = replied-back f.p f.sent told n d at in (
            c.0,
            c.1,
            elim c.2 [
              | inl is ↦ subst (λ (z : Joined). GoesOn c.0 z) (sym is) (on-self c.0)
              | inr late ↦ subst (λ (z : Joined). GoesOn c.0 z) (sym late) (on-told c.0 (about f.p.place Reply ms))
            ],
          ),
    )))
    (grown-server said i side (ends_by i f.core) f.core))
finish-grown w new i y name (inr refused) = grown-self w new refused.2

remove-grown : (w new : World) (i : ℕ) (y : ServerSide) (name : List ℕ) → HappensRemove w i y name new → Grown w new
remove-grown w new i y name (gone, left, core, inl (removes, is)) =
    let told : World = moves.removal_told w i y name gone left in
    let side : ServerSide = record y { records = filter (λ (r : RecordSide). not (bytes_eq r.name name)) y.records } in
    subst (λ (z : World). Grown w z) (sym is)
    (grown-then w told (server_after i side (ends_by i core) core told)
    (grown-entries w told y.life (server.removal_entries name y.records) (removed_at i y.core name gone left) refl refl refl refl (on-removed i y.core name gone left))
    (grown-server told i side (ends_by i core) core))
remove-grown w new i y name (gone, left, core, inr (removes, is)) = grown-self w new is

-- ---- events at a client

pub ended-grown : (w : World) (k : ℕ) (j : Joined) (x : ClientSide) (c : Closing) (core : Client) → At w.circuits k j → At w.clients j.client x → Grown w (client_ended k j x c core w)
ended-grown w k j x c core on at =
    let mid : World = with_circuit k (client_closed c.left j) w in
    grown-then w mid (client_ended k j x c core w) (grown-set w k j (client_closed c.left j) on (on-closed c.left j))
    (grown-left mid j.client x x.names x.names core (lines_of OfCircuit x.names c.notices) [] at)

on-ticked : (i : ℕ) (closings : List Left) (c : Joined) → GoesOn c (after_tick i closings c)
on-ticked i closings c = go (eqb c.client i && c.lists.client_open) (left_silent closings c)
  where
    go : (b : Bool) (o : Option (List ℕ)) → GoesOn c (cond b (unwrap_or (option_map (λ (left : List ℕ). client_closed left c) o) c) c)
    go true None = on-self c
    go true (Some left) = on-closed left c
    go false o = on-self c

tick-grown : (moment : ℕ) (w : World) (i : ℕ) (new : World) → TicksOne moment w i new → Grown w new
tick-grown moment w i new (x, at, t, sent, core, ticks, is) =
    let o : Outcomes = record { core = core; names = x.names; lines = lines_of OfCircuit x.names t.notices; sent = sent } in
    let after : World = client_after i x x.names o w in
    let last : World = record after { circuits = map (after_tick i t.closings) after.circuits } in
    subst (λ (z : World). Grown w z) (sym is)
    (grown-then w after last (grown-after w i x x.names o at) (grown-map after last (after_tick i t.closings) refl refl refl refl (on-ticked i t.closings)))

pub ticks-grown : (moment : ℕ) (w : World) (is : List ℕ) (new : World) → TicksAll moment w is new → Grown w new
ticks-grown moment w [] new same = grown-self w new (sym same)
ticks-grown moment w (i ∷ is) new (mid, one, rest) = grown-then w mid new (tick-grown moment w i mid one) (ticks-grown moment mid is new rest)

up-grown : (w : World) (k n : ℕ) (j : Joined) (x : ClientSide) → At w.circuits k j → At w.clients j.client x → Grown w (up_taken k n j x w)
up-grown w k n j x on at = go j.lists.client_open
  where
    go : (b : Bool) → Grown w (cond b (with_client j.client (record x { core = handed_over j.at_client n x.core }) w) (with_circuit k (record j { left_up = drop n j.left_up }) w))
    go true = grown-client w j.client x (record x { core = handed_over j.at_client n x.core }) at refl
    go false = grown-set w k j (record j { left_up = drop n j.left_up }) on (on-lists j (record j { left_up = drop n j.left_up }) refl refl refl)

down-grown : (w new : World) (k n : ℕ) (j : Joined) (x : ClientSide) (y : ServerSide) → At w.circuits k j → At w.clients j.client x → HappensDown w k n j x y new → Grown w new
down-grown w new k n j x y on at (mid, sent, core, taken, gives, is) =
    subst (λ (z : World). Grown w z) (sym is)
    (grown-then w mid (client_after j.client x x.names (record { core = core; names = x.names; lines = []; sent = sent }) mid) (go taken) (grown-left mid j.client x x.names x.names core [] sent (clients taken)))
  where
    go : DownTaken w k n j y mid → Grown w mid
    go (inl (opened, (by, sends, same))) = grown-same w mid (ap (λ (z : World). z.clients) same) (ap (λ (z : World). z.client_logs) same) (ap (λ (z : World). z.server_logs) same) (ap (λ (z : World). z.circuits) same)
    go (inr (shut, same)) = subst (λ (z : World). Grown w z) (sym same) (grown-set w k j (record j { left_down = drop n j.left_down }) on (on-lists j (record j { left_down = drop n j.left_down }) refl refl refl))

    clients : DownTaken w k n j y mid → At mid.clients j.client x
    clients (inl (opened, (by, sends, same))) = subst (λ (z : World). At z.clients j.client x) (sym same) at
    clients (inr (shut, same)) = subst (λ (z : World). At z.clients j.client x) (sym same) at

-- ---- every such event

-- Every event but an acceptance, a step of an end, and a restart of a client.
abbrev Beside : World → Event → World → Type 0
Beside w (event.Accept i) new = Happens w (event.Accept i) new
Beside w (event.ServerStep k) new = Happens w (event.ServerStep k) new
Beside w (event.ClientStep k) new = Happens w (event.ClientStep k) new
Beside w (event.ClientRestart i) new = Happens w (event.ClientRestart i) new
Beside w e new = Grown w new

leaves-grown : (w new : World) (e : Event) (at : CanBe w e) → Leaves w e at new → Beside w e new
leaves-grown w new (event.Open i name priority) at (inl (e, ne, does, is)) = subst (λ (z : World). Grown w z) (sym is) (grown-lines w at.x.life _)
leaves-grown w new (event.Open i name priority) at (inr (a, sent, core, does, is)) = subst (λ (z : World). Grown w z) (sym is) (grown-left w i at.x _ _ core _ sent at.at)
leaves-grown w new (event.Clear i c) at (inl (e, ne, does, is)) = subst (λ (z : World). Grown w z) (sym is) (grown-lines w at.x.life _)
leaves-grown w new (event.Clear i c) at (inr (a, sent, core, does, is)) = subst (λ (z : World). Grown w z) (sym is) (grown-left w i at.x _ _ core _ sent at.at)
leaves-grown w new (event.Read i c data_type count) at (inl (e, ne, does, is)) = subst (λ (z : World). Grown w z) (sym is) (grown-lines w at.x.life _)
leaves-grown w new (event.Read i c data_type count) at (inr (a, sent, core, does, is)) = subst (λ (z : World). Grown w z) (sym is) (grown-left w i at.x _ _ core _ sent at.at)
leaves-grown w new (event.Write i c v) at (inl (e, ne, does, is)) = subst (λ (z : World). Grown w z) (sym is) (grown-lines w at.x.life _)
leaves-grown w new (event.Write i c v) at (inr (a, sent, core, does, is)) = subst (λ (z : World). Grown w z) (sym is) (grown-left w i at.x _ _ core _ sent at.at)
leaves-grown w new (event.WriteNotify i c v) at (inl (e, ne, does, is)) = subst (λ (z : World). Grown w z) (sym is) (grown-lines w at.x.life _)
leaves-grown w new (event.WriteNotify i c v) at (inr (a, sent, core, does, is)) = subst (λ (z : World). Grown w z) (sym is) (grown-left w i at.x _ _ core _ sent at.at)
leaves-grown w new (event.Subscribe i c data_type count mask) at (inl (e, ne, does, is)) = subst (λ (z : World). Grown w z) (sym is) (grown-lines w at.x.life _)
leaves-grown w new (event.Subscribe i c data_type count mask) at (inr (a, sent, core, does, is)) = subst (λ (z : World). Grown w z) (sym is) (grown-left w i at.x _ _ core _ sent at.at)
leaves-grown w new (event.Unsubscribe i n) at (inl (e, ne, does, is)) = subst (λ (z : World). Grown w z) (sym is) (grown-lines w at.x.life _)
leaves-grown w new (event.Unsubscribe i n) at (inr (a, sent, core, does, is)) = subst (λ (z : World). Grown w z) (sym is) (grown-left w i at.x _ _ core _ sent at.at)
leaves-grown w new (event.Collect i r) at (o, hands, is) = subst (λ (z : World). Grown w z) (sym is) (grown-lines w at.x.life _)
leaves-grown w new (event.GiveUp i r) at (o, hands, is) = subst (λ (z : World). Grown w z) (sym is) (grown-lines w at.x.life _)
leaves-grown w new (event.ClientDatagram i from bytes) at (sent, core, receives, is) = subst (λ (z : World). Grown w z) (sym is) (grown-left w i at.x at.x.names at.x.names core [] sent at.at)
leaves-grown w new (event.ServerDatagram i from bytes) at l = grown-self w new l.2
leaves-grown w new (event.Accept i) at l = (at, l)
leaves-grown w new (event.Up k n) at (core, gives, is) =
    (let mid : World = up_taken k n at.0.j at.0.x w in
    grown-then w mid new (up-grown w k n at.0.j at.0.x at.0.joins.at at.0.joins.client)
    (grown-same mid new (ap (λ (z : World). z.clients) is) (ap (λ (z : World). z.client_logs) is) (ap (λ (z : World). z.server_logs) is) (ap (λ (z : World). z.circuits) is)))
leaves-grown w new (event.Down k n) at l = down-grown w new k n at.0.j at.0.x at.0.y at.0.joins.at at.0.joins.client l
leaves-grown w new (event.ServerStep k) at l = (at, l)
leaves-grown w new (event.ClientStep k) at l = (at, l)
leaves-grown w new (event.Pump k) at l =
    let mid : World = with_circuit k (stamped l.updates at.j) w in
    subst (λ (z : World). Grown w z) (sym l.leaves)
    (grown-then w mid (server_after at.j.server at.y (ends_by at.j.server l.core) l.core mid) (grown-set w k at.j (stamped l.updates at.j) at.joins.at (on-stamped l.updates at.j))
    (grown-server mid at.j.server at.y (ends_by at.j.server l.core) l.core))
leaves-grown w new (event.CutClient k) at (c, sent, core, cuts, is) = subst (λ (z : World). Grown w z) (sym is) (ended-grown w k at.j at.x c core at.joins.at at.joins.client)
leaves-grown w new (event.CutServer k) at l = subst (λ (z : World). Grown w z) (sym l.leaves) (grown-server w at.j.server at.y (ends_by at.j.server l.core) l.core)
leaves-grown w new (event.ClientRestart i) at l = (at, l)
leaves-grown w new (event.ServerRestart i) at l =
    let next : World = moves.restarted w i at.y in
    subst (λ (z : World). Grown w z) (sym l)
    (grown-by w next refl (longer-self w.client_logs w.client_logs refl) (longer-snoc w.server_logs (log_begun at.y.setting)) (back-map w next (ending (server.ends_untold i at.y.core)) refl (on-ending (server.ends_untold i at.y.core))))
leaves-grown w new (event.Post i name e mask) at l = post-grown w new i at.y name e mask l
leaves-grown w new (event.Finish i name) at l = finish-grown w new i at.y name l
leaves-grown w new (event.Remove i name) at l = remove-grown w new i at.y name l
leaves-grown w new (event.Add i r) at (core, behind, inl (adds, is)) =
    subst (λ (z : World). Grown w z) (sym is) (grown-by w (moves.addition_told w i at.y r behind core) refl (longer-self w.client_logs w.client_logs refl) (longer-grown w.server_logs at.y.life _) (back-same w (moves.addition_told w i at.y r behind core) refl))
leaves-grown w new (event.Add i r) at (core, behind, inr refused) = grown-self w new refused.3
leaves-grown w new (event.Tick moment) at (mid, ticks, is) =
    grown-then w mid new (ticks-grown moment w (clients_below (length w.clients)) mid ticks)
    (grown-same mid new (ap (λ (z : World). z.clients) is) (ap (λ (z : World). z.client_logs) is) (ap (λ (z : World). z.server_logs) is) (ap (λ (z : World). z.circuits) is))

-- what holds after all that goes on, and after the four events beside, holds after every event
pub each-event : (P : Type 0) (w new : World) → (Grown w new → P) → ((k : ℕ) → Happens w (event.ServerStep k) new → P) → ((k : ℕ) → Happens w (event.ClientStep k) new → P) → ((i : ℕ) → Happens w (event.Accept i) new → P) → ((i : ℕ) → Happens w (event.ClientRestart i) new → P) → (e : Event) → Happens w e new → P
each-event P w new still serves hears accepts begins e happens = go e (leaves-grown w new e happens.0 happens.1)
  where
    go : (e : Event) → Beside w e new → P
    go (event.Open i name priority) g = still g
    go (event.Clear i c) g = still g
    go (event.Read i c data_type count) g = still g
    go (event.Write i c v) g = still g
    go (event.WriteNotify i c v) g = still g
    go (event.Subscribe i c data_type count mask) g = still g
    go (event.Unsubscribe i n) g = still g
    go (event.Collect i r) g = still g
    go (event.GiveUp i r) g = still g
    go (event.ClientDatagram i from bytes) g = still g
    go (event.ServerDatagram i from bytes) g = still g
    go (event.Accept i) g = accepts i g
    go (event.Up k n) g = still g
    go (event.Down k n) g = still g
    go (event.ServerStep k) g = serves k g
    go (event.ClientStep k) g = hears k g
    go (event.Pump k) g = still g
    go (event.CutClient k) g = still g
    go (event.CutServer k) g = still g
    go (event.ClientRestart i) g = begins i g
    go (event.ServerRestart i) g = still g
    go (event.Post i name v mask) g = still g
    go (event.Finish i name) g = still g
    go (event.Remove i name) g = still g
    go (event.Add i r) g = still g
    go (event.Tick moment) g = still g
