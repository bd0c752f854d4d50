-- Events at a server: what each does before circuits end.
use Rattle.std.proofs.Common.{◌≡◌, ℕ, zero, suc, ◌+◌, ◌<◌, ◌⊎◌, inl, inr, Bool, true, false, cond, not, ◌&&◌, ◌==◌, ne_eqb, List, [], ◌∷◌, ◌++◌, length, Option, Some, None, refl, sym, ap, subst, ◌∙◌, append-nil, arith}
use Rattle.std.specs.Prelude.{drop, take, filter, find, is_some, map, option_map, slice_set, slice_get, unwrap_or}
use Rattle.std.specs.List.{fold}
use Rattle.std.specs.Str.{bytes_eq}
use Rattle.std.proofs.lemmas.Slice.Eq.{bytes_eq-Decides}
use Rattle.ca_arena.specs.declared.handle.Handle.{Handle}
use Rattle.ca_text.specs.Place.{At}
use Rattle.ca_text.proofs.Places.{some_is, At-append, At-last, At-snoc, At-map, At-mapped, At-one, At-parts, At-set, At-set-other, At-within}
use Rattle.ca_dbr.specs.Held.{kind_of}
use Rattle.ca_ids.specs.Table.{same_handle, under}
use Rattle.ca_queue.specs.declared.entry.SubKey.{SubKey}
use Rattle.ca_records.specs.declared.puts.Put.{Put}
use Rattle.ca_records.specs.Puts.{Record, WaitingPut, finished, new_record, record_named, removed, with_record, with_value}
use Rattle.ca_records.specs.Record.{RecordState}
use Rattle.ca_wire.specs.Fields.{Fields}
use Rattle.ca_model.specs.Server.{Server}
use Rattle.ca_model.specs.ServerSteps.{output_of, stored_now}
use Rattle.ca_model.specs.Speech.{In, Stored}
use Rattle.ca_model.specs.History.{Added, Applied, Entry, Posted, Removed, Reply, Sent, Step, Waits, Withdrawn}
use Rattle.ca_model.specs.ServerEvents.{about, ending, ends_by, ends_here, ends_untold, finish_entry, first_of, left_by, next_busy, next_entries, next_numbers, number_of, numbers_posted, posted_entry, removal_entries, removed_at, replied_at, with_number}
use Rattle.ca_model.specs.ServerEvents as event
use Rattle.ca_model.specs.World.{IsSetting, Joined, PutPlace, RecordSide, ServerSide, Setting, World, log_begun, opening, numbered, record_begun, server_begun, with_circuit, with_entries, with_server}
use Rattle.ca_laws_parts.specs.Both.{Both}
use Rattle.ca_laws_parts.specs.Once.{Once, write_in}
use Rattle.ca_laws_parts.specs.Agrees.{Agrees, IsBusyBy, IsBusyWith, WaitsAs}
use Rattle.ca_laws_parts.specs.Lives.{AreLater, AreOpen, CameOn, IsPutOf, Later, Life, LostOn}
use Rattle.ca_laws_parts.specs.Moves.{addition_told, finish_told, removal_told, EndsOnly, Lives, Midway, WasHandled, Writes}
use Rattle.ca_laws_parts.proofs.WritesLists.{At-take, In-kept, both-at, beside-left, beside-right, none_at}
use Rattle.ca_laws_parts.proofs.WritesEnding.{ending-not, endings-later, later-self}
use Rattle.ca_laws_parts.proofs.WritesLives.{agree-posted, number-of, others-apart, waits-there}
use Rattle.ca_laws_parts.proofs.Going.{life-later, once-later}
use Rattle.ca_laws_parts.proofs.WritesFinishes.{agree-finished}
use Rattle.ca_laws_parts.proofs.Coming.{agree-added, agree-begun, agree-removed, removal-is}
use Rattle.ca_laws_parts.proofs.WritesMoves.{handled-later, moves-keep, same-or, told-on}
use Rattle.ca_laws_parts.proofs.Midway.{grown-back, grown-here, grown-other}
use Rattle.ca_laws_parts.proofs.Records.{withdrawing}

-- ---- circuits of which the server's end stays as it is

pub record SameEnds (c d : Joined) : Type 0 where
  pub server : d.server ≡ c.server
  pub handle : d.at_server ≡ c.at_server
  pub life : d.lists.server ≡ c.lists.server
  pub up : d.lists.up ≡ c.lists.up
  pub handled : d.lists.handled ≡ c.lists.handled
  pub is_open : d.lists.server_open ≡ c.lists.server_open

pub same-self : (c : Joined) → SameEnds c c
same-self c = record { server = refl; handle = refl; life = refl; up = refl; handled = refl; is_open = refl }

pub same-trans : (a b c : Joined) → SameEnds a b → SameEnds b c → SameEnds a c
same-trans a b c f g = record {
  server = g.server ∙ f.server;
  handle = g.handle ∙ f.handle;
  life = g.life ∙ f.life;
  up = g.up ∙ f.up;
  handled = g.handled ∙ f.handled;
  is_open = g.is_open ∙ f.is_open;
}

pub same-later : (c d : Joined) → SameEnds c d → Later c d
same-later c d s = record {
  server = s.server;
  handle = s.handle;
  life = s.life;
  up = λ k x at. subst (λ (l : List Sent). At l k x) (sym s.up) at;
  handled = λ k x at. subst (λ (l : List Step). At l k x) (sym s.handled) at;
  ended = λ e. (s.is_open ∙ e, s.handled);
}

abbrev pub AreSame : List Joined → List Joined → Type 0
AreSame old new =
    ((n : ℕ) (c : Joined) → At old n c → (d : Joined) × At new n d × SameEnds c d)
    × ((n : ℕ) (d : Joined) → At new n d → (c : Joined) × At old n c × SameEnds c d)

pub are-later : (old new : List Joined) → AreSame old new → AreLater old new
are-later old new s n c at = (let d = s.0 n c at in (d.0, d.1, same-later c d.0 d.2))

pub still-open : (old new : List Joined) (rs : List RecordSide) → AreSame old new → AreOpen old rs → AreOpen new rs
still-open old new rs s are_open j r p d in_rs waits on =
    (let c = s.1 p.circuit d on in c.2.is_open ∙ are_open j r p c.0 in_rs waits c.1)

pub same-all : (cs : List Joined) → AreSame cs cs
same-all cs = (λ n c at. (c, at, same-self c), λ n c at. (c, at, same-self c))

pub same-map : (f : Joined → Joined) (cs : List Joined) → ((c : Joined) → SameEnds c (f c)) → AreSame cs (map f cs)
same-map f cs keeps = (
  λ n c at. (f c, At-map f cs n c at, keeps c),
  λ n d at. (let c = At-mapped f cs n d at in (c.0, c.1, subst (λ (x : Joined). SameEnds c.0 x) (sym c.2) (keeps c.0))),
)

pub same-twice : (a b c : List Joined) → AreSame a b → AreSame b c → AreSame a c
same-twice a b c f g = (
  λ n x at. (let y = f.0 n x at in let z = g.0 n y.0 y.1 in (z.0, z.1, same-trans x y.0 z.0 y.2 z.2)),
  λ n z at. (let y = g.1 n z at in let x = f.1 n y.0 y.1 in (x.0, x.1, same-trans x.0 y.0 z x.2 y.2)),
)

numbers-same : (c : Joined) (keys : List SubKey) → SameEnds c (fold with_number c keys)
numbers-same c [] = same-self c
numbers-same c (k ∷ keys) = same-trans c (with_number c k) (fold with_number (with_number c k) keys) (record { server = refl; handle = refl; life = refl; up = refl; handled = refl; is_open = refl }) (numbers-same (with_number c k) keys)

if-same : (b : Bool) (c d : Joined) → SameEnds c d → SameEnds c (cond b d c)
if-same true c d s = s
if-same false c d s = same-self c

pub posted-same : (i : ℕ) (core : Server) (name : List ℕ) (mask : ℕ) (c : Joined) → SameEnds c (numbers_posted i core name mask c)
posted-same i core name mask c =
    if-same (c.server == i && c.lists.server_open) c (fold with_number c (event.keys_concerned name mask (under core.circuits c.at_server))) (numbers-same c (event.keys_concerned name mask (under core.circuits c.at_server)))

pub next-same : (i : ℕ) (core : Server) (name : List ℕ) (ws : List WaitingPut) (c : Joined) → SameEnds c (next_numbers i core name ws c)
next-same i core name [] c = same-self c
next-same i core name (w ∷ ws) c = posted-same i core name 3 c

pub removed-same : (i : ℕ) (core : Server) (name : List ℕ) (gone : Handle → Bool) (left : Handle → ℕ) (c : Joined) → SameEnds c (removed_at i core name gone left c)
removed-same i core name gone left c =
    if-same (c.server == i && c.lists.server_open) c _ (record { server = refl; handle = refl; life = refl; up = refl; handled = refl; is_open = refl })

-- ---- only this server's circuits end

pub ends-only : (circuits : List Joined) (i : ℕ) (core : Server) → EndsOnly circuits i (ends_by i core)
ends-only circuits i core n c at other =
    ap (λ (b : Bool). is_some (cond (b && c.lists.server_open) (left_by (under core.circuits c.at_server)) None)) (ne_eqb c.server i other)

-- ---- the record of a name

pub find-at : {A : Type 0} (test : A → Bool) (xs : List A) (x : A) → find test xs ≡ Some x → (i : ℕ) × At xs i x × (test x ≡ true)
find-at test [] x is = absurd cc
find-at {A} test (y ∷ xs) x is = go (test y) refl is (λ h. find-at test xs x h)
  where
    go : (b : Bool) → test y ≡ b → cond b (Some y) (find test xs) ≡ Some x → (find test xs ≡ Some x → (i : ℕ) × At xs i x × (test x ≡ true)) → (i : ℕ) × At (y ∷ xs) i x × (test x ≡ true)
    go true yes_it h rest = (let same : y ≡ x = some_is y x h in (0, h, ap test (sym same) ∙ yes_it))
    go false no_it h rest = (let r = rest h in (suc r.0, r.1, r.2))

-- the record that a core finds under a name, and its side
pub record Found (Is : PutPlace → Put → Type 0) (y : List Entry) (cs : List Record) (rs : List RecordSide) (name : List ℕ) (c : Record) : Type 0 where
  pub i : ℕ
  pub r : RecordSide
  pub in_cs : At cs i c
  pub in_rs : At rs i r
  pub agrees : Agrees Is y c r
  pub named : r.name ≡ name

pub found : (Is : PutPlace → Put → Type 0) (y : List Entry) (cs : List Record) (rs : List RecordSide) (name : List ℕ) (c : Record) → Both (Agrees Is y) cs rs → record_named cs name ≡ Some c → Found Is y cs rs name c
found Is y cs rs name c both is =
    let f = find-at (λ (r : Record). bytes_eq r.state.name name) cs c is in
    let b = beside-left (Agrees Is y) cs rs f.0 c both f.1 in
    record { i = f.0; r = b.0; in_cs = f.1; in_rs = b.1; agrees = b.2; named = sym b.2.name ∙ (bytes_eq-Decides c.state.name name).0 f.2 }

-- ---- what is told of was handled

pub still-handled : (w : World) (circuits : List Joined) (life : ℕ) (log : List Entry) (e : Entry) (p : PutPlace) → Writes w → At w.server_logs life log → AreLater w.circuits circuits → In log e → write_in e ≡ Some p → WasHandled circuits p
still-handled w circuits life log e p h at later told about =
    (let c = told-on w.circuits life log e p (h.logs life log at) told about in handled-later w.circuits circuits p c.0 c.1 later (h.handled life log e p at told about))

-- ---- a cut, or a step that closes its circuit: nothing else happens

pub midway-nothing : (w : World) (i : ℕ) (y : ServerSide) (at : At w.servers i y) (h : Writes w) → Midway w w i y y (h.lives i y at).log [] y.core.records
midway-nothing w i y at h =
    let own = h.lives i y at in
    let same : own.log ++ [] ≡ own.log = append-nil own.log in
    record {
      is = at;
      others = λ j z there other. there;
      same_life = refl;
      here = own.at;
      logged = subst (λ (l : List Entry). At w.server_logs y.life l) (sym same) own.at;
      logs = λ l z there. inr there;
      stay = λ l z there other. there;
      circuits = λ n c there. (c, there, later-self c);
      life = subst (λ (l : List Entry). Life w.circuits i y.life l y.core.records y.records y.added) (sym same) own.life;
      own_open = own.still_open;
      others_open = λ j z there other. (h.lives j z there).still_open;
      handled = λ e p told about. absurd (none_at told.0 e told.1);
    }

-- ---- a post

pub midway-post : (w : World) (i : ℕ) (y : ServerSide) (name : List ℕ) (v : Stored) (mask : ℕ) (c : Record) (at : At w.servers i y) (h : Writes w) → record_named y.core.records name ≡ Some c → kind_of v.value ≡ kind_of c.state.value
    → Midway w (with_entries y.life (posted_entry y name v mask) (record w { circuits = map (numbers_posted i y.core name mask) w.circuits })) i y y (h.lives i y at).log (posted_entry y name v mask) (with_record name (with_value v.value v.meta) y.core.records)
midway-post w i y name v mask c at h named base =
    let own = h.lives i y at in
    let more : List Entry = posted_entry y name v mask in
    let f = found (IsPutOf w.circuits i) own.log y.core.records y.records name c own.life.each named in
    let number : number_of name y.records ≡ f.r.number = ap (λ (n : List ℕ). number_of n y.records) (sym f.named) ∙ number-of y.records f.i f.r own.life.others f.in_rs in
    let same : AreSame w.circuits (map (numbers_posted i y.core name mask) w.circuits) = same-map (numbers_posted i y.core name mask) w.circuits (posted-same i y.core name mask) in
    let new : List Joined = map (numbers_posted i y.core name mask) w.circuits in
    let later : AreLater w.circuits new = are-later w.circuits new same in
    let before : Life new i y.life own.log y.core.records y.records y.added = life-later w.circuits new i y.life own.log y.core.records y.records y.added later own.life in
    let after = agree-posted (CameOn new y.life) (LostOn new) (IsPutOf new i) own.log y.core.records y.records y.added f.i c f.r mask v f.in_cs f.in_rs base before in
    record {
      is = at;
      others = λ j z there other. there;
      same_life = refl;
      here = own.at;
      logged = grown-here w.server_logs y.life own.log more own.at;
      logs = λ l z there. grown-back w.server_logs y.life more l z there;
      stay = λ l z there other. grown-other w.server_logs y.life more l z there other;
      circuits = later;
      life = subst (λ (n : ℕ). Life new i y.life (own.log ++ Posted n mask v ∷ []) (with_record name (with_value v.value v.meta) y.core.records) y.records y.added) (sym number)
          (subst (λ (n : List ℕ). Life new i y.life (own.log ++ Posted f.r.number mask v ∷ []) (with_record n (with_value v.value v.meta) y.core.records) y.records y.added) f.named after);
      own_open = still-open w.circuits new y.records same own.still_open;
      others_open = λ j z there other. still-open w.circuits new z.records same (h.lives j z there).still_open;
      handled = λ e p told about. absurd (posts-none-told e p told about);
    }
  where
    posts-none-told : (e : Entry) (p : PutPlace) → In (posted_entry y name v mask) e → write_in e ≡ Some p → ⊥
    posts-none-told e p told about = go e told.0 told.1 about
      where
        go : (e : Entry) (k : ℕ) → At (posted_entry y name v mask) k e → write_in e ≡ Some p → ⊥
        go e zero at is = (let q : Posted (number_of name y.records) mask v ≡ e = some_is (Posted (number_of name y.records) mask v) e at in let x : write_in (Posted (number_of name y.records) mask v) ≡ Some p = ap write_in q ∙ is in cc)
        go e (suc k) at is = none_at k e at

-- ---- a finish

pub replied-same : (p : PutPlace) (sent : List (Handle × Fields)) (w : World) → AreSame w.circuits (replied_at p sent w).circuits
replied-same p sent w = go (slice_get w.circuits p.circuit) refl
  where
    set-here : {A : Type 0} (xs : List A) (i : ℕ) (x y : A) → At xs i x → At (slice_set xs i y) i y
    set-here [] i x y at = absurd (none_at i x at)
    set-here (z ∷ xs) zero x y at = refl
    set-here (z ∷ xs) (suc i) x y at = set-here xs i x y at

    nat-or : (a b : ℕ) → (a ≡ b) ⊎ (a ≡ b → ⊥)
    nat-or a b = same-or a b

    set-same : (cs : List Joined) (k : ℕ) (c d : Joined) → At cs k c → SameEnds c d → AreSame cs (slice_set cs k d)
    set-same cs k c d at s = (
      λ n x there. elim (nat-or n k) [
        | inl is ↦ (d, subst (λ (m : ℕ). At (slice_set cs k d) m d) (sym is) (set-here cs k c d at), subst (λ (z : Joined). SameEnds z d) (At-one cs k c x at (subst (λ (m : ℕ). At cs m x) is there)) s)
        | inr other ↦ (x, At-set-other cs k n x d there other, same-self x)
      ],
      λ n x there. elim (At-set cs k d n x there) [
        | inl new ↦ (c, subst (λ (m : ℕ). At cs m c) (sym new.0) at, subst (λ (z : Joined). SameEnds c z) (sym new.1) s)
        | inr old ↦ (x, old.0, same-self x)
      ],
    )

    said : Joined → Joined
    said j = record j { lists = record j.lists { down = j.lists.down ++ about p.place Reply (map (λ (s : Handle × Fields). s.1) sent) } }

    go : (o : Option Joined) → slice_get w.circuits p.circuit ≡ o → AreSame w.circuits (unwrap_or (option_map (λ (j : Joined). with_circuit p.circuit (said j) w) o) w).circuits
    go None e = same-all w.circuits
    go (Some j) e = set-same w.circuits p.circuit j (said j) e (record { server = refl; handle = refl; life = refl; up = refl; handled = refl; is_open = refl })

pub midway-finish : (w : World) (i : ℕ) (y : ServerSide) (name : List ℕ) (sent : List (Handle × Fields)) (c : Record) (r : RecordSide) (place : ℕ) (p : PutPlace) (at : At w.servers i y) (h : Writes w) → record_named y.core.records name ≡ Some c → At y.records place r → r.name ≡ name → r.busy ≡ Some p
    → Midway w (replied_at p sent (finish_told w i y name c r p)) i y (record y { records = event.with_record name next_busy y.records }) (h.lives i y at).log (finish_entry p ∷ next_entries y r (first_of c.waiting) (first_of r.waiting)) (with_record name (λ (q : Record). finished y.core.stamp q q.waiting) y.core.records)
midway-finish w i y name sent c r place p at h named in_rs is_name busy =
    let own = h.lives i y at in
    let log : List Entry = own.log in
    let more : List Entry = finish_entry p ∷ next_entries y r (first_of c.waiting) (first_of r.waiting) in
    let told : World = finish_told w i y name c r p in
    let mid : World = replied_at p sent told in
    let new : List Joined = mid.circuits in
    let same : AreSame w.circuits new = same-twice w.circuits told.circuits new (same-map (next_numbers i y.core name c.waiting) w.circuits (next-same i y.core name c.waiting)) (replied-same p sent told) in
    let later : AreLater w.circuits new = are-later w.circuits new same in
    let f = found (IsPutOf w.circuits i) log y.core.records y.records name c own.life.each named in
    let one : f.i ≡ place = elim (others-apart y.records f.i place f.r r own.life.others f.in_rs in_rs) [
      | inl e ↦ e
      | inr apart ↦ absurd (apart.0 (is_name ∙ sym f.named))
    ] in
    let in_cs : At y.core.records place c = subst (λ (n : ℕ). At y.core.records n c) one f.in_cs in
    let g : Agrees (IsPutOf w.circuits i) log c r = both-at (Agrees (IsPutOf w.circuits i) log) y.core.records y.records place c r own.life.each in_cs in_rs in
    let by : IsBusyWith log r.number p = subst (λ (o : Option PutPlace). IsBusyBy log r.number o) busy g.busy in
    let before : Life new i y.life log y.core.records y.records y.added = life-later w.circuits new i y.life log y.core.records y.records y.added later own.life in
    let after = agree-finished (CameOn new y.life) (LostOn new) (IsPutOf new i) log y y.core.records y.records y.added place c r p in_cs in_rs busy before in
    let side : ServerSide = record y { records = event.with_record name next_busy y.records } in
    let servers : mid.servers ≡ told.servers = kept-servers told in
    let logs : mid.server_logs ≡ told.server_logs = kept-logs told in
    record {
      is = at;
      others = λ j z there other. elim (At-set w.servers i side j z (subst (λ (l : List ServerSide). At l j z) servers there)) [
        | inl new ↦ absurd (other new.0)
        | inr old ↦ old.0
      ];
      same_life = refl;
      here = own.at;
      logged = subst (λ (l : List (List Entry)). At l y.life (log ++ more)) (sym logs) (grown-here w.server_logs y.life log more own.at);
      logs = λ l z there. grown-back w.server_logs y.life more l z (subst (λ (ls : List (List Entry)). At ls l z) logs there);
      stay = λ l z there other. subst (λ (ls : List (List Entry)). At ls l z) (sym logs) (grown-other w.server_logs y.life more l z there other);
      circuits = later;
      life = subst (λ (n : List ℕ). Life new i y.life (log ++ more) (with_record n (λ (q : Record). finished y.core.stamp q q.waiting) y.core.records) (event.with_record n next_busy y.records) y.added) is_name after;
      own_open = fewer-open new y.records (still-open w.circuits new y.records same own.still_open);
      others_open = λ j z there other. still-open w.circuits new z.records same (h.lives j z there).still_open;
      handled = λ e q in_it about. next-handled new later by.v c.waiting r.waiting (by.i, by.at) (λ x mine. (let s = waits-there (IsPutOf w.circuits i) log c r x g mine in (s.1.v, s.1.came))) e q in_it about;
    }
  where
    kept-servers : (t : World) → (replied_at p sent t).servers ≡ t.servers
    kept-servers t = go (slice_get t.circuits p.circuit)
      where
        go : (o : Option Joined) → (unwrap_or (option_map (λ (j : Joined). with_circuit p.circuit (record j { lists = record j.lists { down = j.lists.down ++ about p.place Reply (map (λ (s : Handle × Fields). s.1) sent) } }) t) o) t).servers ≡ t.servers
        go None = refl
        go (Some j) = refl

    kept-logs : (t : World) → (replied_at p sent t).server_logs ≡ t.server_logs
    kept-logs t = go (slice_get t.circuits p.circuit)
      where
        go : (o : Option Joined) → (unwrap_or (option_map (λ (j : Joined). with_circuit p.circuit (record j { lists = record j.lists { down = j.lists.down ++ about p.place Reply (map (λ (s : Handle × Fields). s.1) sent) } }) t) o) t).server_logs ≡ t.server_logs
        go None = refl
        go (Some j) = refl

    -- what waits after a finish waited before
    waits-before : (b : Bool) (q : RecordSide) (x : PutPlace) → In (cond b (next_busy q) q).waiting x → In q.waiting x
    waits-before false q x mine = mine
    waits-before true q x mine = dropped q.waiting mine
      where
        dropped : (ps : List PutPlace) → In (drop 1 ps) x → In ps x
        dropped [] d = absurd (none_at d.0 x d.1)
        dropped (z ∷ ps) d = (suc d.0, d.1)

    fewer-open : (cs : List Joined) (rs : List RecordSide) → AreOpen cs rs → AreOpen cs (event.with_record name next_busy rs)
    fewer-open cs rs are_open j q x d in_it mine on =
        let was = At-mapped (λ (z : RecordSide). cond (bytes_eq z.name name) (next_busy z) z) rs j q in_it in
        let back : In was.0.waiting x = waits-before (bytes_eq was.0.name name) was.0 x (subst (λ (z : RecordSide). In z.waiting x) was.2 mine) in
        are_open j was.0 x d was.1 back on

    next-handled : (cs : List Joined) → AreLater w.circuits cs → (v0 : Stored) (ws : List WaitingPut) (ps : List PutPlace) → In (h.lives i y at).log (Applied p.circuit p.place r.number v0 true) → ((x : PutPlace) → In ps x → (v : Stored) × In (h.lives i y at).log (Waits x.circuit x.place r.number v)) → (e : Entry) (q : PutPlace) → In (finish_entry p ∷ next_entries y r (first_of ws) (first_of ps)) e → write_in e ≡ Some q → WasHandled cs q
    next-handled cs later v0 ws ps applied waited e q in_it tells = go ws ps waited in_it.0 in_it.1
      where
        own-log : List Entry
        own-log = (h.lives i y at).log

        first : finish_entry p ≡ e → WasHandled cs q
        first is = (let x : p ≡ q = some_is p q (ap write_in is ∙ tells) in subst (λ (z : PutPlace). WasHandled cs z) x (still-handled w cs y.life own-log (Applied p.circuit p.place r.number v0 true) p h (h.lives i y at).at later applied refl))

        go : (ws : List WaitingPut) (ps : List PutPlace) → ((x : PutPlace) → In ps x → (v : Stored) × In own-log (Waits x.circuit x.place r.number v)) → (k : ℕ) → At (finish_entry p ∷ next_entries y r (first_of ws) (first_of ps)) k e → WasHandled cs q
        go ws ps waited zero is = first (some_is (finish_entry p) e is)
        go [] ps waited (suc k) is = absurd (none_at k e is)
        go (u ∷ ws) [] waited (suc k) is = absurd (none_at k e is)
        go (u ∷ ws) (x ∷ ps) waited (suc zero) is =
            let next : Entry = Applied x.circuit x.place r.number (stored_now y.core u.value) true in
            let same : x ≡ q = some_is x q (ap write_in (some_is next e is) ∙ tells) in
            let s = waited x (0, refl) in
            subst (λ (z : PutPlace). WasHandled cs z) same (still-handled w cs y.life own-log (Waits x.circuit x.place r.number s.0) x h (h.lives i y at).at later s.1 refl)
        go (u ∷ ws) (x ∷ ps) waited (suc (suc k)) is = absurd (none_at k e is)

-- ---- a removal

pub midway-remove : (w : World) (i : ℕ) (y : ServerSide) (name : List ℕ) (gone : Handle → Bool) (left : Handle → ℕ) (c : Record) (at : At w.servers i y) (h : Writes w) → record_named y.core.records name ≡ Some c
    → Midway w (removal_told w i y name gone left) i y (record y { records = filter (λ (r : RecordSide). not (bytes_eq r.name name)) y.records }) (h.lives i y at).log (removal_entries name y.records) (removed name y.core.records)
midway-remove w i y name gone left c at h named =
    let own = h.lives i y at in
    let log : List Entry = own.log in
    let more : List Entry = removal_entries name y.records in
    let new : List Joined = map (removed_at i y.core name gone left) w.circuits in
    let same : AreSame w.circuits new = same-map (removed_at i y.core name gone left) w.circuits (removed-same i y.core name gone left) in
    let later : AreLater w.circuits new = are-later w.circuits new same in
    let f = found (IsPutOf w.circuits i) log y.core.records y.records name c own.life.each named in
    let before : Life new i y.life log y.core.records y.records y.added = life-later w.circuits new i y.life log y.core.records y.records y.added later own.life in
    let after = agree-removed (CameOn new y.life) (LostOn new) (IsPutOf new i) log y.core.records y.records y.added f.i f.r f.in_rs before in
    let side : ServerSide = record y { records = filter (λ (r : RecordSide). not (bytes_eq r.name name)) y.records } in
    let entries : more ≡ Removed f.r.number ∷ withdrawing f.r.waiting = ap (λ (n : List ℕ). removal_entries n y.records) (sym f.named) ∙ removal-is y.records f.i f.r own.life.others f.in_rs in
    record {
      is = at;
      others = λ j z there other. elim (At-set w.servers i side j z there) [
        | inl new ↦ absurd (other new.0)
        | inr old ↦ old.0
      ];
      same_life = refl;
      here = own.at;
      logged = grown-here w.server_logs y.life log more own.at;
      logs = λ l z there. grown-back w.server_logs y.life more l z there;
      stay = λ l z there other. grown-other w.server_logs y.life more l z there other;
      circuits = later;
      life = subst (λ (n : List ℕ). Life new i y.life (log ++ removal_entries n y.records) (removed n y.core.records) (filter (λ (r : RecordSide). not (bytes_eq r.name n)) y.records) y.added) f.named after;
      own_open = λ j r p d in_it mine on.
          let k = In-kept (λ (r : RecordSide). not (bytes_eq r.name name)) y.records r (j, in_it) in
          still-open w.circuits new y.records same own.still_open k.0.0 r p d k.0.1 mine on;
      others_open = λ j z there other. still-open w.circuits new z.records same (h.lives j z there).still_open;
      handled = λ e p told tells. withdrawn-handled new later f.r (λ x mine. (let s = waits-there (IsPutOf w.circuits i) log c f.r x f.agrees mine in (s.1.v, s.1.came))) e p (subst (λ (l : List Entry). In l e) entries told) tells;
    }
  where
    withdrawn-handled : (cs : List Joined) → AreLater w.circuits cs → (r : RecordSide) → ((x : PutPlace) → In r.waiting x → (v : Stored) × In (h.lives i y at).log (Waits x.circuit x.place r.number v)) → (e : Entry) (p : PutPlace) → In (Removed r.number ∷ withdrawing r.waiting) e → write_in e ≡ Some p → WasHandled cs p
    withdrawn-handled cs later r waited e p told tells = go told.0 told.1
      where
        go : (k : ℕ) → At (Removed r.number ∷ withdrawing r.waiting) k e → WasHandled cs p
        go zero is = absurd (let q : Removed r.number ≡ e = some_is (Removed r.number) e is in let x : write_in (Removed r.number) ≡ Some p = ap write_in q ∙ tells in cc)
        go (suc k) is =
            let m = At-mapped (λ (q : PutPlace). Withdrawn q.circuit q.place) r.waiting k e is in
            let same : m.0 ≡ p = some_is m.0 p (ap write_in (sym m.2) ∙ tells) in
            let s = waited m.0 (k, m.1) in
            subst (λ (z : PutPlace). WasHandled cs z) same (still-handled w cs y.life (h.lives i y at).log (Waits m.0.circuit m.0.place r.number s.0) m.0 h (h.lives i y at).at later s.1 refl)

-- ---- an addition

none-named : (name : List ℕ) (cs : List Record) → record_named cs name ≡ None → (j : ℕ) (c : Record) → At cs j c → c.state.name ≡ name → ⊥
none-named name [] none j c at is = none_at j c at
none-named name (x ∷ cs) none j c at is = go (bytes_eq x.state.name name) refl none (λ rest k there. none-named name cs rest k c there is) j at
  where
    go : (b : Bool) → bytes_eq x.state.name name ≡ b → cond b (Some x) (record_named cs name) ≡ None → (record_named cs name ≡ None → (k : ℕ) → At cs k c → ⊥) → (j : ℕ) → At (x ∷ cs) j c → ⊥
    go true e h rest j there = absurd cc
    go false e h rest zero there =
        (let same : x ≡ c = some_is x c there in let hit : bytes_eq x.state.name name ≡ true = (bytes_eq-Decides x.state.name name).1 (ap (λ (z : Record). z.state.name) same ∙ is) in let f : true ≡ false = sym hit ∙ e in cc)
    go false e h rest (suc j) there = rest h j there

pub writes-added : (w : World) (i : ℕ) (y : ServerSide) (r : RecordState) (behind : ℕ) (core : Server) → At w.servers i y → record_named y.core.records r.name ≡ None → core.records ≡ take behind y.core.records ++ new_record r ∷ drop behind y.core.records → Writes w → Writes (addition_told w i y r behind core)
writes-added w i y r behind core at none is h =
    let own = h.lives i y at in
    let log : List Entry = own.log in
    let more : List Entry = Added y.added r ∷ [] in
    let side : ServerSide = record y { core = core; records = take behind y.records ++ record_begun y.added r ∷ drop behind y.records; added = y.added + 1 } in
    let after = agree-added (CameOn w.circuits y.life) (LostOn w.circuits) (IsPutOf w.circuits i) log y.core.records y.records y.added r behind
    (λ j q there e. (let b = beside-right (Agrees (IsPutOf w.circuits i) log) y.core.records y.records j q own.life.each there in none-named r.name y.core.records none j b.0 b.1 (b.2.name ∙ e))) own.life in
    moves-keep w (addition_told w i y r behind core) i y side log more own.at (record {
      is = at;
      server = λ j z there. elim (At-set w.servers i side j z there) [ inl new ↦ inl new | inr old ↦ inr old ];
      same_life = refl;
      logged = grown-here w.server_logs y.life log more own.at;
      logs = λ l z there. grown-back w.server_logs y.life more l z there;
      stay = λ l z there other. grown-other w.server_logs y.life more l z there other;
      circuits = λ n c there. (c, there, later-self c);
      life = subst (λ (cs : List Record). Life w.circuits i y.life (log ++ more) cs side.records side.added) (sym is) after;
      own_open = λ j q p d there mine on. more-open behind y.records own.still_open j q p d there mine on;
      others_open = λ j z there other. (h.lives j z there).still_open;
      handled = λ e p told tells. absurd (go e p told.0 told.1 tells);
    }) h
  where
    open-in : (rs : List RecordSide) → AreOpen w.circuits rs → (q : RecordSide) → In rs q → (p : PutPlace) (d : Joined) → In q.waiting p → At w.circuits p.circuit d → d.lists.server_open ≡ true
    open-in rs are_open q there p d mine on = are_open there.0 q p d there.1 mine on

    was-there : (k : ℕ) (rs : List RecordSide) (q : RecordSide) → In (take k rs ++ record_begun y.added r ∷ drop k rs) q → In rs q ⊎ (q ≡ record_begun y.added r)
    was-there k rs q there = elim (At-parts (take k rs) (record_begun y.added r ∷ drop k rs) there.0 q there.1) [
      | inl front ↦ inl (there.0, At-take k rs there.0 q front)
      | inr back ↦ rest back.0 back.2
    ]
      where
        dropped : (k : ℕ) (xs : List RecordSide) (j : ℕ) → At (drop k xs) j q → In xs q
        dropped zero xs j x = (j, x)
        dropped (suc k) [] j x = absurd (none_at j q x)
        dropped (suc k) (z ∷ xs) j x = (let d = dropped k xs j x in (suc d.0, d.1))

        rest : (j : ℕ) → At (record_begun y.added r ∷ drop k rs) j q → In rs q ⊎ (q ≡ record_begun y.added r)
        rest zero x = inr (sym (some_is (record_begun y.added r) q x))
        rest (suc j) x = inl (dropped k rs j x)

    more-open : (k : ℕ) (rs : List RecordSide) → AreOpen w.circuits rs → AreOpen w.circuits (take k rs ++ record_begun y.added r ∷ drop k rs)
    more-open k rs are_open j q p d there mine on = elim (was-there k rs q (j, there)) [
      | inl old ↦ open-in rs are_open q old p d mine on
      | inr new ↦ absurd (let x : In (record_begun y.added r).waiting p = subst (λ (z : RecordSide). In z.waiting p) new mine in none_at x.0 p x.1)
    ]

    go : (e : Entry) (p : PutPlace) (k : ℕ) → At (Added y.added r ∷ []) k e → write_in e ≡ Some p → ⊥
    go e p zero is tells = (let q : Added y.added r ≡ e = some_is (Added y.added r) e is in let x : write_in (Added y.added r) ≡ Some p = ap write_in q ∙ tells in cc)
    go e p (suc k) is tells = none_at k e is

-- ---- events that leave servers and logs alone

-- the server's ends that are open stay open, and those that are not stay closed
pub writes-later : (w new : World) → new.servers ≡ w.servers → new.server_logs ≡ w.server_logs → AreLater w.circuits new.circuits → ((n : ℕ) (c d : Joined) → At w.circuits n c → At new.circuits n d → d.lists.server_open ≡ c.lists.server_open) → Writes w → Writes new
writes-later w new servers logs later ends h = record {
  lives = λ i y at.
      let own = h.lives i y (subst (λ (l : List ServerSide). At l i y) servers at) in
      record {
        log = own.log;
        at = subst (λ (l : List (List Entry)). At l y.life own.log) (sym logs) own.at;
        life = life-later w.circuits new.circuits i y.life own.log y.core.records y.records y.added later own.life;
        still_open = λ j r p d in_rs mine on.
            let there = beside-right (Agrees (IsPutOf w.circuits i) own.log) y.core.records y.records j r own.life.each in_rs in
            let b = beside-left (WaitsAs (IsPutOf w.circuits i) own.log r.number) r.waiting there.0.waiting mine.0 p there.2.each mine.1 in
            ends p.circuit b.2.1.c d b.2.1.on on ∙ own.still_open j r p b.2.1.c in_rs mine b.2.1.on;
      };
  apart = λ i j y z p q e. h.apart i j y z (subst (λ (l : List ServerSide). At l i y) servers p) (subst (λ (l : List ServerSide). At l j z) servers q) e;
  logs = λ l y at. once-later w.circuits new.circuits l y later (h.logs l y (subst (λ (ls : List (List Entry)). At ls l y) logs at));
  handled = λ l y e p at told tells. still-handled w new.circuits l y e p h (subst (λ (ls : List (List Entry)). At ls l y) logs at) later told tells;
}

-- ---- a restart

-- A server begins a new life, and its open ends end untold.
pub writes-restart : (w : World) (i : ℕ) (y : ServerSide) → At w.servers i y → ((j k : ℕ) (r s : RecordState) → At y.setting.records j r → At y.setting.records k s → r.name ≡ s.name → j ≡ k) → Writes w
    → (let ends : Joined → Option (List ℕ) = ends_untold i y.core in Writes (with_server i (server_begun w.moment (length w.server_logs) y.setting) (record w { circuits = map (ending ends) w.circuits; server_logs = w.server_logs ++ log_begun y.setting ∷ [] })))
writes-restart w i y at names h = record {
  lives = λ j z there. elim (At-set w.servers i next j z there) [
    | inl same ↦
        subst (λ (x : ServerSide). Lives new j x) (sym same.1)
        (record {
          log = log_begun y.setting;
          at = At-last w.server_logs (log_begun y.setting);
          life = agree-begun (CameOn new.circuits (length w.server_logs)) (LostOn new.circuits) (IsPutOf new.circuits j) y.setting.records names;
          still_open = λ k r p d in_rs mine on. absurd (none-wait 0 y.setting.records k r p in_rs mine);
        })
    | inr old ↦
        let own = h.lives j z old.0 in
        record {
          log = own.log;
          at = At-append w.server_logs (log_begun y.setting ∷ []) z.life own.log own.at;
          life = life-later w.circuits new.circuits j z.life own.log z.core.records z.records z.added later own.life;
          still_open = λ k r p d in_rs mine on.
              let was = At-mapped (ending ends) w.circuits p.circuit d on in
              let there = beside-right (Agrees (IsPutOf w.circuits j) own.log) z.core.records z.records k r own.life.each in_rs in
              let b = beside-left (WaitsAs (IsPutOf w.circuits j) own.log r.number) r.waiting there.0.waiting mine.0 p there.2.each mine.1 in
              let same : b.2.1.c ≡ was.0 = At-one w.circuits p.circuit b.2.1.c was.0 b.2.1.on was.1 in
              let of : was.0.server ≡ j = ap (λ (x : Joined). x.server) (sym same) ∙ b.2.1.of in
              let stays : is_some (ends was.0) ≡ false = only was.0 (λ e. old.1 (sym of ∙ e)) in
              subst (λ (x : Joined). x.lists.server_open ≡ true) (sym (was.2 ∙ ending-not ends was.0 stays)) (own.still_open k r p was.0 in_rs mine was.1);
        }
  ];
  apart = λ j k z x p q e. elim (At-set w.servers i next j z p) [
    | inl a ↦ elim (At-set w.servers i next k x q) [
      | inl b ↦ a.0 ∙ sym b.0
      | inr b ↦ absurd (let lt : x.life < length w.server_logs = fewer k x b.0 in let n : z.life ≡ length w.server_logs = ap (λ (s : ServerSide). s.life) a.1 in let m : z.life ≡ x.life = e in omega (arith, lt, n, m))
    ]
    | inr a ↦ elim (At-set w.servers i next k x q) [
      | inl b ↦ absurd (let lt : z.life < length w.server_logs = fewer j z a.0 in let n : x.life ≡ length w.server_logs = ap (λ (s : ServerSide). s.life) b.1 in let m : z.life ≡ x.life = e in omega (arith, lt, n, m))
      | inr b ↦ h.apart j k z x a.0 b.0 e
    ]
  ];
  logs = λ l z there. elim (At-snoc w.server_logs (log_begun y.setting) l z there) [
    | inl old ↦ once-later w.circuits new.circuits l z later (h.logs l z old)
    | inr is ↦
        subst (λ (x : List Entry). Once (CameOn new.circuits l) (LostOn new.circuits) x) (sym is.1)
        (agree-begun (CameOn new.circuits l) (LostOn new.circuits) (IsPutOf new.circuits i) y.setting.records names).once
  ];
  handled = λ l z e p there told tells. elim (At-snoc w.server_logs (log_begun y.setting) l z there) [
    | inl old ↦ still-handled w new.circuits l z e p h old later told tells
    | inr is ↦ absurd (none-told 0 y.setting.records e p (subst (λ (x : List Entry). In x e) is.1 told) tells)
  ];
}
  where
    ends : Joined → Option (List ℕ)
    ends = ends_untold i y.core

    -- a present life has a log
    fewer : (j : ℕ) (z : ServerSide) → At w.servers j z → z.life < length w.server_logs
    fewer j z at = (let own = h.lives j z at in At-within w.server_logs z.life own.log own.at)

    next : ServerSide
    next = server_begun w.moment (length w.server_logs) y.setting

    new : World
    new = with_server i next (record w { circuits = map (ending ends) w.circuits; server_logs = w.server_logs ++ log_begun y.setting ∷ [] })

    later : AreLater w.circuits (map (ending ends) w.circuits)
    later = endings-later ends w.circuits

    only : (c : Joined) → (c.server ≡ i → ⊥) → is_some (ends c) ≡ false
    only c other = ap (λ (b : Bool). is_some (cond (b && c.lists.server_open) (Some (output_of (under y.core.circuits c.at_server))) None)) (ne_eqb c.server i other)

    none-wait : (n : ℕ) (ss : List RecordState) (k : ℕ) (r : RecordSide) (p : PutPlace) → At (numbered n record_begun ss) k r → In r.waiting p → ⊥
    none-wait n [] k r p there mine = none_at k r there
    none-wait n (s ∷ ss) zero r p there mine = (let x : In (record_begun n s).waiting p = subst (λ (z : RecordSide). In z.waiting p) (sym (some_is (record_begun n s) r there)) mine in none_at x.0 p x.1)
    none-wait n (s ∷ ss) (suc k) r p there mine = none-wait (n + 1) ss k r p there mine

    none-told : (n : ℕ) (ss : List RecordState) (e : Entry) (p : PutPlace) → In (numbered n Added ss) e → write_in e ≡ Some p → ⊥
    none-told n [] e p told tells = none_at told.0 e told.1
    none-told n (s ∷ ss) e p told tells = go told.0 told.1 (λ rest. none-told (n + 1) ss e p rest tells)
      where
        go : (k : ℕ) → At (Added n s ∷ numbered (n + 1) Added ss) k e → (In (numbered (n + 1) Added ss) e → ⊥) → ⊥
        go zero is more = (let q : Added n s ≡ e = some_is (Added n s) e is in let x : write_in (Added n s) ≡ Some p = ap write_in q ∙ tells in cc)
        go (suc k) is more = more (k, is)

-- ---- before any event

pub numbered-at : {A B : Type 0} (f : ℕ → A → B) (xs : List A) (n i : ℕ) (z : B) → At (numbered n f xs) i z → (x : A) × At xs i x × (z ≡ f (n + i) x)
numbered-at f [] n i z at = absurd (none_at i z at)
numbered-at f (x ∷ xs) n zero z at = (x, refl, (let e : n ≡ n + 0 = omega arith in sym (some_is (f n x) z at) ∙ ap (λ (k : ℕ). f k x) e))
numbered-at f (x ∷ xs) n (suc i) z at =
    let r = numbered-at f xs (n + 1) i z at in
    let e : n + 1 + i ≡ n + suc i = omega arith in
    (r.0, r.1, r.2 ∙ ap (λ (k : ℕ). f k r.0) e)

-- What holds of writes holds of the world before any event.
pub writes-opening : (s : Setting) → IsSetting s → Writes (opening s)
writes-opening s ok = record {
  lives = λ i y at.
      let g = numbered-at (server_begun 0) s.servers 0 i y at in
      let z : 0 + i ≡ i = omega arith in
      let is : y ≡ server_begun 0 i g.0 = g.2 ∙ ap (λ (k : ℕ). server_begun 0 k g.0) z in
      subst (λ (x : ServerSide). Lives (opening s) i x) (sym is) (record {
        log = log_begun g.0;
        at = At-map log_begun s.servers i g.0 g.1;
        life = agree-begun (CameOn [] i) (LostOn []) (IsPutOf [] i) g.0.records (λ j k r q a b e. ok.names i j k g.0 r q g.1 a b e);
        still_open = λ k r p d in_rs mine on. absurd (none_at p.circuit d on);
      });
  apart = λ i j y z p q e.
      let a = numbered-at (server_begun 0) s.servers 0 i y p in
      let b = numbered-at (server_begun 0) s.servers 0 j z q in
      let u : y.life ≡ 0 + i = ap (λ (x : ServerSide). x.life) a.2 in
      let v : z.life ≡ 0 + j = ap (λ (x : ServerSide). x.life) b.2 in
      omega (arith, u, v, e);
  logs = λ l y at.
      let g = At-mapped log_begun s.servers l y at in
      subst (λ (x : List Entry). Once (CameOn [] l) (LostOn []) x) (sym g.2)
      (agree-begun (CameOn [] l) (LostOn []) (IsPutOf [] l) g.0.records (λ j k r q a b e. ok.names l j k g.0 r q g.1 a b e)).once;
  handled = λ l y e p at told tells d on is_open. absurd (none_at p.circuit d on);
}

-- also of a step that closes its own circuit
pub ends-here-only : (circuits : List Joined) (j : Joined) (left : List ℕ) (i : ℕ) (core : Server) → EndsOnly circuits i (ends_here j left i core)
ends-here-only circuits j left i core n c at other =
    ap (λ (b : Bool). is_some (cond (same_handle c.at_server j.at_server && (b && c.lists.server_open)) (Some left) (ends_by i core c))) (ne_eqb c.server i other)
    ∙ go (same_handle c.at_server j.at_server)
    ∙ ends-only circuits i core n c at other
  where
    go : (b : Bool) → is_some (cond (b && false) (Some left) (ends_by i core c)) ≡ is_some (ends_by i core c)
    go true = refl
    go false = refl
