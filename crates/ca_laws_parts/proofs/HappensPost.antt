-- Events at a server in which circuits may end: a post, a finish, a removal, a pump and a cut.
use Rattle.std.proofs.Common.{◌≡◌, ℕ, inl, inr, Bool, true, false, not, List, [], ◌∷◌, ◌++◌, Option, Some, None, refl, sym, ap, subst, ◌∙◌}
use Rattle.std.specs.Prelude.{filter, is_some, map, option_map, slice_get, slice_set, unwrap_or}
use Rattle.std.specs.Str.{bytes_eq}
use Rattle.ca_arena.specs.declared.handle.Handle.{Handle}
use Rattle.ca_dbr.specs.Elements.{Elements}
use Rattle.ca_ids.specs.Table.{same_handle}
use Rattle.ca_queue.specs.Queue.{Queue, with_front_taken}
use Rattle.ca_records.specs.declared.puts.Put.{Put}
use Rattle.ca_records.specs.Puts.{Record, record_named, removed, with_record, with_value, withdrawn}
use Rattle.ca_records.specs.Record.{unset}
use Rattle.ca_text.specs.Place.{At}
use Rattle.ca_text.proofs.Places.{some_is, At-set-other}
use Rattle.ca_wire.specs.Fields.{Fields}
use Rattle.ca_model.specs.Ends as why
use Rattle.ca_model.specs.Server.{Server}
use Rattle.ca_model.specs.ServerCalls.{after_next, with_finish}
use Rattle.ca_model.specs.ServerSteps.{Cuts, Pumps, Update, after_post, with_end}
use Rattle.ca_model.specs.Speech.{Stored}
use Rattle.ca_model.specs.History.{Cause, Entry, Reply}
use Rattle.ca_model.specs.ServerEvents.{Finished, HappensCutServer, HappensFinish, HappensPost, HappensPump, HappensRemove, about, ends_by, next_busy, next_numbers, numbers_posted, posted_entry, removed_at, replied_at, stamped}
use Rattle.ca_model.specs.ServerEvents as event
use Rattle.ca_model.specs.World.{Joined, PutPlace, RecordSide, ServerSide, Setting, World, with_circuit}
use Rattle.ca_laws_parts.specs.Moves.{Midway, finish_told, post_told, removal_told}
use Rattle.ca_laws_parts.specs.Seats.{Sound}
use Rattle.ca_laws_parts.proofs.Cores.{EndsBy, ended-ends, next-ends, next-records, post-ends, removal-ends, replies-stay, stay-end, stay-ends, stay-self, stay-then, withdrawn-none}
use Rattle.ca_laws_parts.proofs.WritesEvents.{AreSame, SameEnds, are-later, ends-only, midway-finish, midway-nothing, midway-post, midway-remove, next-same, posted-same, removed-same, replied-same, same-all, same-map, same-self, same-trans, same-twice, still-open}
use Rattle.ca_laws_parts.proofs.Going.{life-later}
use Rattle.ca_laws_parts.proofs.Midway.{set-here}
use Rattle.ca_laws_parts.proofs.Waited.{set-same}
use Rattle.ca_laws_parts.proofs.Seats.{ends-by-at, event-keeps}

-- ---- a post

pub post-keeps : (s : Setting) (w new : World) (i : ℕ) (y : ServerSide) (name : List ℕ) (e : Elements) (mask : ℕ) → At w.servers i y → HappensPost w i y name e mask new → Sound s w → Sound s new
post-keeps s w new i y name e mask at (gone, core, inl (posts, is)) h =
    let v : Stored = record { value = e; meta = unset } in
    let fits = posts.0 in
    let m = midway-post w i y name v mask fits.0 at h.writes fits.1 fits.2 in
    let same : AreSame w.circuits (map (numbers_posted i y.core name mask) w.circuits) = same-map (numbers_posted i y.core name mask) w.circuits (posted-same i y.core name mask) in
    let stored : Server = record y.core { records = with_record name (with_value v.value v.meta) y.core.records } in
    let by : EndsBy y.core core gone =
    subst (λ (x : Server). EndsBy y.core x gone) (sym posts.2) (stay-then y.core stored (after_post name mask v gone stored) gone (stay-self y.core stored refl) (post-ends name mask v gone stored)) in
    subst (λ (z : World). Sound s z) (sym is)
    (event-keeps s w (post_told w i y name v mask) i y y (h.writes.lives i y at).log (posted_entry y name v mask) stored.records (ends_by i core) core gone m h same.1 (λ j z there other. there) (y, at)
    (ends-by-at i y.core core gone by) (ends-only (post_told w i y name v mask).circuits i core) refl (ap (λ (x : Server). x.records) posts.2))
post-keeps s w new i y name e mask at (gone, core, inr refused) h = subst (λ (z : World). Sound s z) (sym refused.3) h

-- ---- a finish

replied-servers : (p : PutPlace) (sent : List (Handle × Fields)) (t : World) → (replied_at p sent t).servers ≡ t.servers
replied-servers p sent t = go (slice_get t.circuits p.circuit)
  where
    go : (o : Option Joined) → (unwrap_or (option_map (λ (j : Joined). with_circuit p.circuit (record j { lists = record j.lists { down = j.lists.down ++ about p.place Reply (map (λ (x : Handle × Fields). x.1) sent) } }) t) o) t).servers ≡ t.servers
    go None = refl
    go (Some j) = refl

finished-keeps : (s : Setting) (w new : World) (i : ℕ) (y : ServerSide) (name : List ℕ) → At w.servers i y → Finished w i y name new → Sound s w → Sound s new
finished-keeps s w new i y name at f h =
    let r = f.finishes.0 in
    let made = f.finishes.1 in
    let one : r.r ≡ f.cr = some_is r.r f.cr (sym r.named ∙ f.named) in
    let m = midway-finish w i y name f.sent f.cr f.r f.at.0 f.p at h.writes f.named f.at.1 f.at.2 f.busy in
    let told : World = finish_told w i y name f.cr f.r f.p in
    let mid : World = replied_at f.p f.sent told in
    let side : ServerSide = record y { records = event.with_record name next_busy y.records } in
    let same : AreSame w.circuits mid.circuits = same-twice w.circuits told.circuits mid.circuits (same-map (next_numbers i y.core name f.cr.waiting) w.circuits (next-same i y.core name f.cr.waiting)) (replied-same f.p f.sent told) in
    let servers : mid.servers ≡ told.servers = replied-servers f.p f.sent told in
    let finish : Server = with_finish name r.r y.core in
    let stays = replies-stay finish r.p r.gone f.sent made f.finishes.2 in
    let last : f.core ≡ after_next name r.r.waiting r.gone made = f.finishes.3 in
    let by : EndsBy y.core f.core r.gone =
    subst (λ (x : Server). EndsBy y.core x r.gone) (sym last) (stay-then y.core finish (after_next name r.r.waiting r.gone made) r.gone (stay-self y.core finish refl) (stay-then finish made (after_next name r.r.waiting r.gone made) r.gone stays.0 (next-ends name r.r.waiting r.gone made))) in
    let records : f.core.records ≡ withdrawn (λ (p : Put). r.gone p.circuit) finish.records =
    ap (λ (x : Server). x.records) last
    ∙ next-records name r.r.waiting r.gone made
    ∙ ap (λ (l : List Record). withdrawn (λ (p : Put). r.gone p.circuit) l) stays.1 in
    subst (λ (z : World). Sound s z) (sym f.leaves)
    (event-keeps s w mid i y side (h.writes.lives i y at).log _ finish.records (ends_by i f.core) f.core r.gone m h same.1
    (λ j z there other. subst (λ (l : List ServerSide). At l j z) (sym servers) (At-set-other w.servers i j z side there other))
    (side, subst (λ (l : List ServerSide). At l i side) (sym servers) (set-here w.servers i y side at))
    (ends-by-at i y.core f.core r.gone by) (ends-only mid.circuits i f.core) refl records)

pub finish-keeps : (s : Setting) (w new : World) (i : ℕ) (y : ServerSide) (name : List ℕ) → At w.servers i y → HappensFinish w i y name new → Sound s w → Sound s new
finish-keeps s w new i y name at (inl f) h = finished-keeps s w new i y name at f h
finish-keeps s w new i y name at (inr refused) h = subst (λ (z : World). Sound s z) (sym refused.2) h

-- ---- a removal

there-named : (o : Option Record) → is_some o ≡ true → (c : Record) × (o ≡ Some c)
there-named None e = absurd cc
there-named (Some c) e = (c, refl)

pub remove-keeps : (s : Setting) (w new : World) (i : ℕ) (y : ServerSide) (name : List ℕ) → At w.servers i y → HappensRemove w i y name new → Sound s w → Sound s new
remove-keeps s w new i y name at (gone, left, core, inl (removes, is)) h =
    let c = there-named (record_named y.core.records name) removes.0 in
    let m = midway-remove w i y name gone left c.0 at h.writes c.1 in
    let mid : World = removal_told w i y name gone left in
    let side : ServerSide = record y { records = filter (λ (r : RecordSide). not (bytes_eq r.name name)) y.records } in
    let same : AreSame w.circuits (map (removed_at i y.core name gone left) w.circuits) = same-map (removed_at i y.core name gone left) w.circuits (removed-same i y.core name gone left) in
    let by : EndsBy y.core core gone = removal-ends name gone left y.core core (ap (λ (x : Server). x.circuits) removes.2) in
    subst (λ (z : World). Sound s z) (sym is)
    (event-keeps s w mid i y side (h.writes.lives i y at).log _ (removed name y.core.records) (ends_by i core) core gone m h same.1
    (λ j z there other. At-set-other w.servers i j z side there other) (side, set-here w.servers i y side at)
    (ends-by-at i y.core core gone by) (ends-only mid.circuits i core) refl (ap (λ (x : Server). x.records) removes.2))
remove-keeps s w new i y name at (gone, left, core, inr (removes, is)) h = subst (λ (z : World). Sound s z) (sym is) h

-- ---- nothing is told: a cut, and a pump

cuts-ends : (y : Server) (h : Handle) (core : Server) → Cuts y h core → (gone : Handle → Bool) × EndsBy y core gone × (core.records ≡ withdrawn (λ (p : Put). gone p.circuit) y.records)
cuts-ends y h core (inl (e, has, is)) = (
  λ (g : Handle). same_handle g h,
  subst (λ (x : Server). EndsBy y x (λ (g : Handle). same_handle g h)) (sym is) (ended-ends h why.Cut e.link.output e y has),
  ap (λ (x : Server). x.records) is,
)
cuts-ends y h core (inr (none, is)) = (
  λ (g : Handle). false,
  stay-ends y core (λ (g : Handle). false) (stay-self y core (ap (λ (x : Server). x.circuits) is)) (λ g. refl),
  ap (λ (x : Server). x.records) is ∙ sym (withdrawn-none (λ (p : Put). false) y.records (λ b. refl)),
)

pub cut-keeps : (s : Setting) (w new : World) (k : ℕ) (j : Joined) (y : ServerSide) → At w.servers j.server y → HappensCutServer w k j y new → Sound s w → Sound s new
cut-keeps s w new k j y at f h =
    let c = cuts-ends y.core j.at_server f.core f.cuts in
    subst (λ (z : World). Sound s z) (sym f.leaves)
    (event-keeps s w w j.server y y (h.writes.lives j.server y at).log [] y.core.records (ends_by j.server f.core) f.core c.0 (midway-nothing w j.server y at h.writes) h (same-all w.circuits).1
    (λ l z there other. there) (y, at) (ends-by-at j.server y.core f.core c.0 c.1) (ends-only w.circuits j.server f.core) refl c.2)

-- updates move numbers of a circuit alone
pub stamped-same : (us : List Update) (j : Joined) → SameEnds j (stamped us j)
stamped-same [] j = same-self j
stamped-same (u ∷ us) j =
    let item : ℕ × Cause = unwrap_or (event.front_number j.queues u.queue) (0, Reply) in
    let queues : List (Queue (ℕ × Cause)) = unwrap_or (option_map (λ (q : Queue (ℕ × Cause)). slice_set j.queues u.queue (with_front_taken q)) (slice_get j.queues u.queue)) j.queues in
    let d : Joined = record j { queues = queues; lists = record j.lists { down = j.lists.down ++ record { message = u.message; place = item.0; cause = item.1 } ∷ [] } } in
    same-trans j d (stamped us d) (record { server = refl; handle = refl; life = refl; up = refl; handled = refl; is_open = refl }) (stamped-same us d)

pumps-ends : (y : Server) (h : Handle) (us : List Update) (core : Server) → Pumps y h us core → (gone : Handle → Bool) × EndsBy y core gone × (core.records ≡ withdrawn (λ (p : Put). gone p.circuit) y.records)
pumps-ends y h us core (inl (e, has, (after, folds, inl (rests, is)))) = (
  λ (g : Handle). false,
  subst (λ (x : Server). EndsBy y x (λ (g : Handle). false)) (sym is) (stay-ends y (with_end h after y) (λ (g : Handle). false) (stay-end y h e after has) (λ g. refl)),
  ap (λ (x : Server). x.records) is ∙ sym (withdrawn-none (λ (p : Put). false) y.records (λ b. refl)),
)
pumps-ends y h us core (inl (e, has, (after, folds, inr (more, is)))) = (
  λ (g : Handle). same_handle g h,
  subst (λ (x : Server). EndsBy y x (λ (g : Handle). same_handle g h)) (sym is) (ended-ends h why.OutOfMemory after.link.output e y has),
  ap (λ (x : Server). x.records) is,
)
pumps-ends y h us core (inr (none, nothing, is)) = (
  λ (g : Handle). false,
  stay-ends y core (λ (g : Handle). false) (stay-self y core (ap (λ (x : Server). x.circuits) is)) (λ g. refl),
  ap (λ (x : Server). x.records) is ∙ sym (withdrawn-none (λ (p : Put). false) y.records (λ b. refl)),
)

-- circuits alone change, and their ends are as they were
midway-like : (w mid : World) (i : ℕ) (y : ServerSide) (log : List Entry) (records : List Record) → mid.servers ≡ w.servers → mid.server_logs ≡ w.server_logs → AreSame w.circuits mid.circuits → Midway w w i y y log [] records → Midway w mid i y y log [] records
midway-like w mid i y log records servers logs same m = record {
  is = m.is;
  others = λ j z there other. m.others j z (subst (λ (l : List ServerSide). At l j z) servers there) other;
  same_life = refl;
  here = m.here;
  logged = subst (λ (l : List (List Entry)). At l y.life (log ++ [])) (sym logs) m.logged;
  logs = λ l z there. m.logs l z (subst (λ (x : List (List Entry)). At x l z) logs there);
  stay = λ l z there other. subst (λ (x : List (List Entry)). At x l z) (sym logs) (m.stay l z there other);
  circuits = are-later w.circuits mid.circuits same;
  life = life-later w.circuits mid.circuits i y.life (log ++ []) records y.records y.added (are-later w.circuits mid.circuits same) m.life;
  own_open = still-open w.circuits mid.circuits y.records same m.own_open;
  others_open = λ j z there other. still-open w.circuits mid.circuits z.records same (m.others_open j z there other);
  handled = λ e p told about. absurd (none e told.0 told.1);
}
  where
    none : (e : Entry) (k : ℕ) → At [] k e → ⊥
    none e k at = cc

pub pump-keeps : (s : Setting) (w new : World) (k : ℕ) (j : Joined) (y : ServerSide) → At w.circuits k j → At w.servers j.server y → HappensPump w k j y new → Sound s w → Sound s new
pump-keeps s w new k j y on at f h =
    let c = pumps-ends y.core j.at_server f.updates f.core f.pumps in
    let mid : World = with_circuit k (stamped f.updates j) w in
    let same : AreSame w.circuits mid.circuits = set-same w.circuits k j (stamped f.updates j) on (stamped-same f.updates j) in
    let m = midway-like w mid j.server y (h.writes.lives j.server y at).log y.core.records refl refl same (midway-nothing w j.server y at h.writes) in
    subst (λ (z : World). Sound s z) (sym f.leaves)
    (event-keeps s w mid j.server y y (h.writes.lives j.server y at).log [] y.core.records (ends_by j.server f.core) f.core c.0 m h same.1
    (λ l z there other. there) (y, at) (ends-by-at j.server y.core f.core c.0 c.1) (ends-only mid.circuits j.server f.core) refl c.2)
