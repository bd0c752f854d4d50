-- Each put that waits by the log of a server's life waits for a record that is
-- there, over every event.
use Rattle.std.proofs.Common.{◌≡◌, ℕ, zero, suc, ◌+◌, ◌<◌, ◌⊎◌, inl, inr, Bool, true, false, cond, ◌&&◌, eqb, eqb-true, eq-eqb, not, List, [], ◌∷◌, ◌++◌, length, Option, Some, None, refl, sym, ap, subst, ◌∙◌, arith}
use Rattle.std.specs.Prelude.{drop, filter, map, option_map, slice_get, slice_set, take, unwrap_or}
use Rattle.std.specs.List.{FoldsTo, flat_map, fold}
use Rattle.std.proofs.lemmas.Bool.{both_ways}
use Rattle.std.proofs.lemmas.List.Sums.{fold-append}
use Rattle.std.specs.Str.{bytes_eq}
use Rattle.ca_arena.specs.declared.handle.Handle.{Handle}
use Rattle.ca_dbr.specs.Elements.{Elements}
use Rattle.ca_link.specs.Link.{with_rest}
use Rattle.ca_records.specs.declared.puts.Put.{Put}
use Rattle.ca_records.specs.Puts.{Record, WaitingPut, record_named}
use Rattle.ca_records.specs.Record.{RecordState, unset}
use Rattle.ca_text.specs.Place.{At}
use Rattle.ca_text.proofs.Places.{some_is, At-after, At-append, At-map, At-mapped, At-one, At-parts, At-set, At-snoc, At-within}
use Rattle.ca_wire.specs.Fields.{Fields}
use Rattle.ca_model.specs.Due.{Action, Applies, Due, KnownRecord, Knows}
use Rattle.ca_model.specs.Due as action
use Rattle.ca_model.specs.Ends as why
use Rattle.ca_model.specs.History.{Added, Applied, Collected, Entry, Finished, GaveUp, Posted, Removed, Waits, Withdrawn}
use Rattle.ca_model.specs.Server.{Server, ServerEnd}
use Rattle.ca_model.specs.ServerSteps.{Next, Stepped, closed, is_write, known_record, knows, stored_now}
use Rattle.ca_model.specs.ServerSteps as stepped
use Rattle.ca_model.specs.Speech.{In, Stored}
use Rattle.ca_model.specs.Known.{same_place, waiting, waiting_after}
use Rattle.ca_model.specs.ClientEvents.{DownTaken, up_taken}
use Rattle.ca_model.specs.Events.{Event}
use Rattle.ca_model.specs.Events as event
use Rattle.ca_model.specs.Runs.{CanBe, Happens, Leaves, Runs, StopsAt, clients_below}
use Rattle.ca_model.specs.ServerEvents.{HappensAdd, HappensFinish, HappensPost, HappensRemove, HappensServerRestart, ServerStepped, acted, ends_at, ends_by, ends_here, finish_entry, first_of, handled_at, logged_by, next_busy, next_entries, noted, posted_entry, records_after, removal_entries, replied_at, server_after, side_of, unsaid, withdrawals, without_puts}
use Rattle.ca_model.specs.ServerEvents as server
use Rattle.ca_model.specs.World.{IsSetting, Joined, PutPlace, RecordSide, ServerSide, ServerSetting, Setting, World, grown, log_begun, numbered, opening, record_begun, server_begun, with_circuit, with_entries, with_server}
use Rattle.ca_laws_parts.specs.Agrees.{Agrees, pair_of}
use Rattle.ca_laws_parts.specs.Both.{Both}
use Rattle.ca_laws_parts.specs.Lives.{IsPutOf}
use Rattle.ca_laws_parts.specs.Moves.{Writes, finish_told, post_told, removal_told}
use Rattle.ca_laws_parts.proofs.Doing.{due-waits}
use Rattle.ca_laws_parts.proofs.WritesEvents.{Found, found, numbered-at}
use Rattle.ca_laws_parts.proofs.Every.{ticks-frame}
use Rattle.ca_laws_parts.proofs.Frames.{Frame}
use Rattle.ca_laws_parts.proofs.HappensClient.{begun-frame, clear-frame, cut-frame, datagram-frame, handing-frame, hear-frame, open-frame, put-frame, read-frame, subscribe-frame, unsubscribe-frame, up-frame, write-frame}
use Rattle.ca_laws_parts.proofs.LastingStep.{told-servers}
use Rattle.ca_laws_parts.proofs.WritesLists.{In-kept, beside-right, kept-in, none_at}
use Rattle.ca_laws_parts.proofs.WritesLives.{number-of}
use Rattle.ca_laws_runs.proofs.StepWhole.{run-serves}
use Rattle.ca_laws_parts.proofs.Midway.{grown-here, set-here}
use Rattle.ca_laws_runs.specs.Entries.{title, titles}
use Rattle.ca_laws_runs.proofs.PostFollowing.{in-more, titled}
use Rattle.ca_laws_runs.proofs.Logged.{titles-kept}
use Rattle.ca_laws_runs.proofs.LoggedStep.{logs-quiet, told-logs, with-record-titles, write-titles}
use Rattle.ca_laws_runs.specs.Awaiting.{AllAwaiting, IsAwaiting}
use Rattle.ca_laws_runs.proofs.FollowsWhole.{folds-snoc}

-- ---- entries by which no put comes to wait

abbrev NoWaits : List Entry → Type 0
NoWaits es = (n k r : ℕ) (v : Stored) → In es (Waits n k r v) → ⊥

-- or only for a record that is there
abbrev WaitsIn : List RecordSide → List Entry → Type 0
WaitsIn rs es = (n k r : ℕ) (v : Stored) → In es (Waits n k r v) → (name : List ℕ) × In (titles rs) (name, r)

none-in : (rs : List RecordSide) (es : List Entry) → NoWaits es → WaitsIn rs es
none-in rs es none n k r v there = absurd (none n k r v there)

withdrawn-none : (ps : List PutPlace) → NoWaits (map (λ (p : PutPlace). Withdrawn p.circuit p.place) ps)
withdrawn-none ps n k r v there = (let x = At-mapped (λ (p : PutPlace). Withdrawn p.circuit p.place) ps there.0 (Waits n k r v) there.1 in other x.0 x.2)
  where
    other : (p : PutPlace) → Waits n k r v ≡ Withdrawn p.circuit p.place → ⊥
    other p e = cc

one-none : (e : Entry) → ((n k r : ℕ) (v : Stored) → e ≡ Waits n k r v → ⊥) → NoWaits (e ∷ [])
one-none e other n k r v (zero, at) = other n k r v (some_is e (Waits n k r v) at)
one-none e other n k r v (suc i, at) = none_at i (Waits n k r v) at

both-none : (xs ys : List Entry) → NoWaits xs → NoWaits ys → NoWaits (xs ++ ys)
both-none xs ys f g n k r v there = elim (At-parts xs ys there.0 (Waits n k r v) there.1) [
  | inl old ↦ f n k r v (there.0, old)
  | inr new ↦ g n k r v (new.0, new.2)
]

-- a put waits that waited, or came to wait
after-or : (r : ℕ) (ps : List (ℕ × ℕ)) (e : Entry) (p : ℕ × ℕ) → In (waiting_after r ps e) p → In ps p ⊎ ((v : Stored) × (e ≡ Waits p.0 p.1 r v))
after-or r ps (Waits n k i v) p there = go (eqb i r) refl there
  where
    go : (b : Bool) → eqb i r ≡ b → In (cond b (ps ++ (n, k) ∷ []) ps) p → In ps p ⊎ ((u : Stored) × (Waits n k i v ≡ Waits p.0 p.1 r u))
    go true is at = elim (At-snoc ps (n, k) at.0 p at.1) [
      | inl old ↦ inl (at.0, old)
      | inr own ↦ inr (v, λ q. Waits (sym own.1 q).0 (sym own.1 q).1 (eqb-true i r is q) v)
    ]
    go false is at = inl at
after-or r ps (Applied n k i v b) p there = inl (In-kept (λ (q : ℕ × ℕ). not (same_place q (n, k))) ps p there).0
after-or r ps (Withdrawn n k) p there = inl (In-kept (λ (q : ℕ × ℕ). not (same_place q (n, k))) ps p there).0
after-or r ps (Added i s) p there = inl there
after-or r ps (Removed i) p there = inl there
after-or r ps (Posted i mask v) p there = inl there
after-or r ps (Finished n k) p there = inl there

pub more-or : (r : ℕ) (es : List Entry) (ps : List (ℕ × ℕ)) (p : ℕ × ℕ) → In (fold (waiting_after r) ps es) p → In ps p ⊎ ((v : Stored) × In es (Waits p.0 p.1 r v))
more-or r [] ps p there = inl there
more-or r (e ∷ es) ps p there = elim (more-or r es (waiting_after r ps e) p there) [
  | inl old ↦ elim (after-or r ps e p old) [ inl was ↦ inl was | inr new ↦ inr (new.0, (0, ap (λ (x : Entry). Some x) new.1)) ]
  | inr new ↦ inr (new.0, (suc new.1.0, new.1.1))
]

waiting-or : (log more : List Entry) (r : ℕ) (p : ℕ × ℕ) → In (waiting (log ++ more) r) p → In (waiting log r) p ⊎ ((v : Stored) × In more (Waits p.0 p.1 r v))
waiting-or log more r p there = more-or r more (waiting log r) p (subst (λ (l : List (ℕ × ℕ)). In l p) (fold-append (waiting_after r) [] log more) there)

awaiting-more : (log more : List Entry) (rs rt : List RecordSide) → WaitsIn rs more → titles rt ≡ titles rs → IsAwaiting log rs → IsAwaiting (log ++ more) rt
awaiting-more log more rs rt some same_all awaits r p there = elim (waiting-or log more r p there) [
  | inl old ↦ (let x = awaits r p old in (x.0, subst (λ (l : List (List ℕ × ℕ)). In l (x.0, r)) (sym same_all) x.1))
  | inr new ↦ (let x = some p.0 p.1 r new.0 new.1 in (x.0, subst (λ (l : List (List ℕ × ℕ)). In l (x.0, r)) (sym same_all) x.1))
]

-- ---- parts of a world

-- a log has entries more
grown-or : (logs : List (List Entry)) (life : ℕ) (more : List Entry) (l : ℕ) (z : List Entry) → At (grown life more logs) l z → At logs l z ⊎ ((l ≡ life) × ((log : List Entry) → At logs life log → z ≡ log ++ more))
grown-or logs life more l z at = elim (At-set logs life (unwrap_or (slice_get logs life) [] ++ more) l z at) [
  | inl own ↦ inr (own.0, λ log there. own.1 ∙ ap (λ (o : Option (List Entry)). unwrap_or o [] ++ more) there)
  | inr old ↦ inl old.0
]

-- entries that add none are told
awaiting-told : (w : World) (life : ℕ) (more log : List Entry) → At w.server_logs life log → NoWaits more → AllAwaiting w → AllAwaiting (with_entries life more w)
awaiting-told w life more log there none all i y lg at logged = elim (grown-or w.server_logs life more y.life lg logged) [
  | inl old ↦ all i y lg at old
  | inr own ↦
      subst (λ (l : List Entry). IsAwaiting l y.records) (sym (own.1 log there))
      (awaiting-more log more y.records y.records (none-in y.records more none) refl (all i y log at (subst (λ (l : ℕ). At w.server_logs l log) (sym own.0) there)))
]

-- a server has the same records
awaiting-side : (w : World) (i : ℕ) (y next : ServerSide) → At w.servers i y → next.life ≡ y.life → titles next.records ≡ titles y.records → AllAwaiting w → AllAwaiting (with_server i next w)
awaiting-side w i y next at life same_all all j z lg there logged = elim (At-set w.servers i next j z there) [
  | inl own ↦
      subst (λ (x : ServerSide). IsAwaiting lg x.records) (sym own.1)
      (λ r p in_it.
      let x = all i y lg at (subst (λ (l : ℕ). At w.server_logs l lg) (ap (λ (x : ServerSide). x.life) own.1 ∙ life) logged) r p in_it in
      (x.0, subst (λ (l : List (List ℕ × ℕ)). In l (x.0, r)) (sym same_all) x.1))
  | inr old ↦ all j z lg old.0 logged
]

awaiting-same : (w new : World) → new.servers ≡ w.servers → new.server_logs ≡ w.server_logs → AllAwaiting w → AllAwaiting new
awaiting-same w new servers logs all i y lg at logged =
    all i y lg (subst (λ (l : List ServerSide). At l i y) servers at) (subst (λ (l : List (List Entry)). At l y.life lg) logs logged)

-- circuits of a server end
awaiting-after : (w : World) (i : ℕ) (y : ServerSide) (ends : Joined → Option (List ℕ)) (core : Server) (log : List Entry) → At w.servers i y → At w.server_logs y.life log → AllAwaiting w → AllAwaiting (server_after i y ends core w)
awaiting-after w i y ends core log at there all =
    let next : ServerSide = record y { core = server.reported core; records = map (without_puts (ends_at ends w.circuits)) y.records } in
    let mid : World = with_server i next (record w { circuits = map (server.ending ends) w.circuits }) in
    awaiting-told mid y.life (withdrawals (ends_at ends w.circuits) y.records) log there
    (withdrawn-none (flat_map (λ (r : RecordSide). filter (λ (p : PutPlace). ends_at ends w.circuits p.circuit) r.waiting) y.records))
    (awaiting-side w i y next at refl (titles-kept (without_puts (ends_at ends w.circuits)) (λ r. refl) y.records) all)

-- ---- a step of a server's end

abbrev log-of : (w : World) (i : ℕ) (y : ServerSide) → Writes w → At w.servers i y → (log : List Entry) × At w.server_logs y.life log
log-of w i y h at = ((h.lives i y at).log, (h.lives i y at).at)

-- what a message does to the records and to the log, if a put that comes to wait does so for a
-- record that is there
acted-plain : (w : World) (i : ℕ) (y : ServerSide) (h : Writes w) → At w.servers i y → (g : Handle) (p : PutPlace) (did : Action) → ((name : List ℕ) (value : Elements) → did ≡ action.Waits name value → (n : List ℕ) × In (titles y.records) (n, server.number_of name y.records))
    → WaitsIn y.records (logged_by y.core g p did y.records) × (titles (records_after y.core g p did y.records) ≡ titles y.records)
acted-plain w i y h at g p did may = go did may
  where
    each : Both (Agrees (IsPutOf w.circuits i) (h.lives i y at).log) y.core.records y.records
    each = (h.lives i y at).life.each

    other : (n k r m l q : ℕ) (v u : Stored) (b : Bool) → Applied n k r v b ≡ Waits m l q u → ⊥
    other n k r m l q v u b e = cc

    same-record : (n k r m l q : ℕ) (v u : Stored) → Waits n k r v ≡ Waits m l q u → r ≡ q
    same-record n k r m l q v u e = cc

    quiet : (did : Action) → is_write did ≡ false → titles (records_after y.core g p did y.records) ≡ titles y.records
    quiet did is = (logs-quiet (Agrees (IsPutOf w.circuits i) (h.lives i y at).log) y.core g p did y.records each is).1

    one : (number n k r : ℕ) (u v : Stored) → ((nm : List ℕ) × In (titles y.records) (nm, number)) → (q : ℕ) → At (Waits p.circuit p.place number u ∷ []) q (Waits n k r v) → (nm : List ℕ) × In (titles y.records) (nm, r)
    one number n k r u v x zero at =
        let is : number ≡ r = same-record p.circuit p.place number n k r u v (some_is (Waits p.circuit p.place number u) (Waits n k r v) at) in
        (x.0, subst (λ (m : ℕ). In (titles y.records) (x.0, m)) is x.1)
    one number n k r u v x (suc q) at = absurd (none_at q (Waits n k r v) at)

    go : (did : Action) → ((name : List ℕ) (value : Elements) → did ≡ action.Waits name value → (n : List ℕ) × In (titles y.records) (n, server.number_of name y.records)) → WaitsIn y.records (logged_by y.core g p did y.records) × (titles (records_after y.core g p did y.records) ≡ titles y.records)
    go (Applies name value busies) may =
        (none-in y.records (logged_by y.core g p (Applies name value busies) y.records) (one-none (Applied p.circuit p.place (server.number_of name y.records) (stored_now y.core value) busies) (λ n k r v e. other p.circuit p.place (server.number_of name y.records) n k r (stored_now y.core value) v busies e)), write-titles y.core g p name value busies y.records)
    go (action.Waits name value) may = (
      λ n k r v there. one (server.number_of name y.records) n k r (stored_now y.core value) v (may name value refl) there.0 there.1,
      quiet (action.Waits name value) refl,
    )
    go (action.Clears sid) may =
        (none-in y.records (logged_by y.core g p (action.Clears sid) y.records) (withdrawn-none (flat_map (λ (ps : List PutPlace). ps) (server.with_core (λ (c : Record) (r : RecordSide). server.places_where (server.is_of_channel g sid) c.waiting r.waiting) y.core.records y.records))), quiet (action.Clears sid) refl)
    go action.Nothing may = (λ n k r v there. absurd (none_at there.0 (Waits n k r v) there.1), refl)
    go action.Greets may = (λ n k r v there. absurd (none_at there.0 (Waits n k r v) there.1), refl)
    go (action.Names x) may = (λ n k r v there. absurd (none_at there.0 (Waits n k r v) there.1), refl)
    go (action.Opens x) may = (λ n k r v there. absurd (none_at there.0 (Waits n k r v) there.1), refl)
    go (action.Adds x) may = (λ n k r v there. absurd (none_at there.0 (Waits n k r v) there.1), refl)
    go (action.Drops x) may = (λ n k r v there. absurd (none_at there.0 (Waits n k r v) there.1), refl)
    go (action.Switches x) may = (λ n k r v there. absurd (none_at there.0 (Waits n k r v) there.1), refl)

-- one server's records and log change
awaiting-one : (w : World) (i : ℕ) (y next : ServerSide) (more log : List Entry) → Writes w → At w.servers i y → At w.server_logs y.life log → next.life ≡ y.life → (IsAwaiting log y.records → IsAwaiting (log ++ more) next.records) → AllAwaiting w
    → AllAwaiting (with_entries y.life more (with_server i next w))
awaiting-one w i y next more log h at there life law all j z lg on logged = elim (At-set w.servers i next j z on) [
  | inl own ↦
      let mine : z.life ≡ y.life = ap (λ (x : ServerSide). x.life) own.1 ∙ life in
      let one : lg ≡ log ++ more = At-one (grown y.life more w.server_logs) y.life lg (log ++ more) (subst (λ (l : ℕ). At (grown y.life more w.server_logs) l lg) mine logged) (grown-here w.server_logs y.life log more there) in
      subst (λ (v : List Entry × ServerSide). IsAwaiting v.0 v.1.records) (λ i. (sym one i, sym own.1 i)) (law (all i y log at there))
  | inr old ↦ elim (grown-or w.server_logs y.life more z.life lg logged) [
    | inl was ↦ all j z lg old.0 was
    | inr mine ↦ absurd (old.1 (h.apart j i z y old.0 at mine.0))
  ]
]

-- the message is handled, and then circuits end
awaiting-acted : (w : World) (k : ℕ) (j : Joined) (y : ServerSide) (did : Action) (ends : Joined → Option (List ℕ)) (core : Server) → Writes w → At w.servers j.server y
    → ((name : List ℕ) (value : Elements) → did ≡ action.Waits name value → (n : List ℕ) × In (titles y.records) (n, server.number_of name y.records)) → AllAwaiting w
    → AllAwaiting (server_after j.server (side_of j.server y (acted k j y did w)) ends core (acted k j y did w))
awaiting-acted w k j y did ends core h at may all =
    subst (λ (z : ServerSide). AllAwaiting (server_after j.server z ends core mid)) (sym side_is)
    (awaiting-after mid j.server side ends core (own.0 ++ more) (set-here w.servers j.server y side at) (grown-here w.server_logs y.life own.0 more own.1)
    (awaiting-one w j.server y side more own.0 h at own.1 refl (awaiting-more own.0 more y.records side.records plain.0 plain.1) all))
  where
    p : PutPlace
    p = record { circuit = k; place = length j.lists.handled }

    more : List Entry
    more = logged_by y.core j.at_server p did y.records

    side : ServerSide
    side = record y { records = records_after y.core j.at_server p did y.records }

    mid : World
    mid = acted k j y did w

    own : (log : List Entry) × At w.server_logs y.life log
    own = log-of w j.server y h at

    plain : WaitsIn y.records more × (titles side.records ≡ titles y.records)
    plain = acted-plain w j.server y h at j.at_server p did may

    side_is : side_of j.server y mid ≡ side
    side_is = ap (λ (o : Option ServerSide). unwrap_or o y) (set-here w.servers j.server y side at)

awaiting-noted : (w after : World) (k : ℕ) (j : Joined) (y : ServerSide) (replies : List Fields) → AllAwaiting after → AllAwaiting (noted k j y replies w after)
awaiting-noted w after k j y replies all = go (slice_get after.circuits k)
  where
    go : (o : Option Joined) → AllAwaiting (unwrap_or (option_map (λ (c : Joined). with_circuit k (handled_at (length j.lists.handled) (record { sent = length j.lists.down; logged = server.logged y w; after = server.logged y after }) replies c) after) o) after)
    go None = all
    go (Some c) = all

-- a put that comes to wait does so for a record that is there
waits-there : (w : World) (j : Joined) (y : ServerSide) (e : ServerEnd) (n : Next y.core j.at_server e) → (h : Writes w) → At w.servers j.server y → (name : List ℕ) (value : Elements) → n.action ≡ action.Waits name value → (nm : List ℕ) × In (titles y.records) (nm, server.number_of name y.records)
waits-there w j y e n h at name value is =
    let k : Knows = knows y.core (record e { link = with_rest n.rest e.link }) in
    let to = (due-waits k n.m n.replies name value (subst (λ (a : Action). Due k n.m n.replies a) is n.handles.due)).0 in
    let cr = known-some (record_named y.core.records name) to.known to.named in
    let life = h.lives j.server y at in
    let g : Found (IsPutOf w.circuits j.server) life.log y.core.records y.records name cr.0 = found (IsPutOf w.circuits j.server) life.log y.core.records y.records name cr.0 life.life.each cr.1 in
    let number : server.number_of name y.records ≡ g.r.number = ap (λ (n : List ℕ). server.number_of n y.records) (sym g.named) ∙ number-of y.records g.i g.r life.life.others g.in_rs in
    (g.r.name, (g.i, subst (λ (m : ℕ). At (titles y.records) g.i (g.r.name, m)) (sym number) (At-map title y.records g.i g.r g.in_rs)))
  where
    known-some : (o : Option Record) (k : KnownRecord) → option_map known_record o ≡ Some k → (cr : Record) × (o ≡ Some cr)
    known-some None k is = absurd cc
    known-some (Some cr) k is = (cr, refl)

step-awaiting : (w new : World) (k : ℕ) (j : Joined) (y : ServerSide) (did : Stepped) → Writes w → At w.servers j.server y → ServerStepped w k j y did new → AllAwaiting w → AllAwaiting new
step-awaiting w new k j y stepped.Handled h at f all =
    subst (λ (z : World). AllAwaiting z) (sym f.leaves) (awaiting-noted w _ k j y (f.steps.0).replies (awaiting-acted w k j y (f.steps.0).action (ends_by j.server f.core) f.core h at (waits-there w j y f.e f.steps.0 h at) all))
step-awaiting w new k j y stepped.NeedBytes h at f all = subst (λ (z : World). AllAwaiting z) (sym f.3) all
step-awaiting w new k j y stepped.OutputFull h at f all = subst (λ (z : World). AllAwaiting z) (sym f.3) all
step-awaiting w new k j y (stepped.Closed why.OutOfMemory left) h at f all = subst (λ (z : World). AllAwaiting z) (sym f.leaves) (go f.lacks.written)
  where
    did : Action
    did = f.lacks.next.action

    go : (o : Option (Handle → Bool)) → AllAwaiting (server_after j.server (side_of j.server y (unsaid k j y did o w)) (ends_here j left j.server f.core) f.core (unsaid k j y did o w))
    go None =
        subst (λ (z : ServerSide). AllAwaiting (server_after j.server z (ends_here j left j.server f.core) f.core w)) (sym (ap (λ (o : Option ServerSide). unwrap_or o y) at))
        (let own = log-of w j.server y h at in awaiting-after w j.server y (ends_here j left j.server f.core) f.core own.0 at own.1 all)
    go (Some gone) = awaiting-acted w k j y did (ends_here j left j.server f.core) f.core h at (waits-there w j y f.e f.lacks.next h at) all
step-awaiting w new k j y (stepped.Closed cause left) h at f all =
    let own = log-of w j.server y h at in
    subst (λ (z : World). AllAwaiting z) (sym f.3) (awaiting-after w j.server y (ends_here j left j.server y.core) (closed j.at_server y.core) own.0 at own.1 all)

-- ---- a post, a finish

post-awaiting : (w new : World) (i : ℕ) (y : ServerSide) (name : List ℕ) (e : Elements) (mask : ℕ) → Writes w → At w.servers i y → HappensPost w i y name e mask new → AllAwaiting w → AllAwaiting new
post-awaiting w new i y name e mask h at (gone, core, inl (posts, is)) all =
    let own = log-of w i y h at in
    let more : List Entry = posted_entry y name (record { value = e; meta = unset }) mask in
    subst (λ (z : World). AllAwaiting z) (sym is)
    (awaiting-after (post_told w i y name (record { value = e; meta = unset }) mask) i y (ends_by i core) core (own.0 ++ more) at (grown-here w.server_logs y.life own.0 more own.1)
    (awaiting-told w y.life more own.0 own.1 (one-none (Posted (server.number_of name y.records) mask (record { value = e; meta = unset })) (λ n k r v is. cc)) all))
post-awaiting w new i y name e mask h at (gone, core, inr refused) all = subst (λ (z : World). AllAwaiting z) (sym refused.3) all

finish-awaiting : (w new : World) (i : ℕ) (y : ServerSide) (name : List ℕ) → Writes w → At w.servers i y → HappensFinish w i y name new → AllAwaiting w → AllAwaiting new
finish-awaiting w new i y name h at (inl f) all =
    subst (λ (z : World). AllAwaiting z) (sym f.leaves)
    (awaiting-after (replied_at f.p f.sent told) i side (ends_by i f.core) f.core (own.0 ++ more)
    (subst (λ (l : List ServerSide). At l i side) (sym (told-servers f.p f.sent told)) (set-here w.servers i y side at))
    (subst (λ (l : List (List Entry)). At l y.life (own.0 ++ more)) (sym (told-logs f.p f.sent told)) (grown-here w.server_logs y.life own.0 more own.1))
    (awaiting-same told (replied_at f.p f.sent told) (told-servers f.p f.sent told) (told-logs f.p f.sent told)
    (awaiting-told (with_server i side w) y.life more own.0 own.1 (both-none (finish_entry f.p ∷ []) (next_entries y f.r (first_of f.cr.waiting) (first_of f.r.waiting)) (one-none (Finished f.p.circuit f.p.place) (λ n k r v is. cc)) (next-none (first_of f.cr.waiting) (first_of f.r.waiting)))
    (awaiting-side w i y side at refl (with-record-titles name next_busy (λ r. refl) y.records) all))))
  where
    own : (log : List Entry) × At w.server_logs y.life log
    own = log-of w i y h at

    more : List Entry
    more = finish_entry f.p ∷ next_entries y f.r (first_of f.cr.waiting) (first_of f.r.waiting)

    side : ServerSide
    side = record y { records = server.with_record name next_busy y.records }

    told : World
    told = finish_told w i y name f.cr f.r f.p

    next-none : (a : Option WaitingPut) (b : Option PutPlace) → NoWaits (next_entries y f.r a b)
    next-none None b n k r v there = none_at there.0 (Waits n k r v) there.1
    next-none (Some x) None n k r v there = none_at there.0 (Waits n k r v) there.1
    next-none (Some x) (Some q) n k r v there = one-none (Applied q.circuit q.place (f.r).number (stored_now y.core x.value) true) (λ n k r v is. cc) n k r v there
finish-awaiting w new i y name h at (inr refused) all = subst (λ (z : World). AllAwaiting z) (sym refused.2) all

-- ---- records come and go

removal-none : (name : List ℕ) (rs : List RecordSide) → NoWaits (removal_entries name rs)
removal-none name rs n k r v there = all (filter (λ (x : RecordSide). bytes_eq x.name name) rs) there
  where
    entries : RecordSide → List Entry
    entries x = Removed x.number ∷ map (λ (p : PutPlace). Withdrawn p.circuit p.place) x.waiting

    own : (x : RecordSide) → NoWaits (entries x)
    own x = both-none (Removed x.number ∷ []) (map (λ (p : PutPlace). Withdrawn p.circuit p.place) x.waiting) (one-none (Removed x.number) (λ n k r v is. cc)) (withdrawn-none x.waiting)

    all : (xs : List RecordSide) → In (flat_map entries xs) (Waits n k r v) → ⊥
    all [] at = none_at at.0 (Waits n k r v) at.1
    all (x ∷ xs) at = elim (At-parts (entries x) (flat_map entries xs) at.0 (Waits n k r v) at.1) [
      | inl old ↦ own x n k r v (at.0, old)
      | inr new ↦ all xs (new.0, new.2)
    ]

-- what is withdrawn no longer waits
withdrawn-over : (r : ℕ) (es : List Entry) (ps : List (ℕ × ℕ)) (n k : ℕ) → NoWaits es → In es (Withdrawn n k) → In (fold (waiting_after r) ps es) (n, k) → ⊥
withdrawn-over r [] ps n k none there still = none_at there.0 (Withdrawn n k) there.1
withdrawn-over r (e ∷ es) ps n k none (zero, at) still = elim (more-or r es (waiting_after r ps e) (n, k) still) [
  | inl old ↦ gone (In-kept (λ (q : ℕ × ℕ). not (same_place q (n, k))) ps (n, k) (subst (λ (x : Entry). In (waiting_after r ps x) (n, k)) (some_is e (Withdrawn n k) at) old)).1
  | inr new ↦ none n k r new.0 (suc new.1.0, new.1.1)
]
  where
    gone : not (same_place (n, k) (n, k)) ≡ true → ⊥
    gone is = both_ways (not (same_place (n, k) (n, k))) (ap (λ (b : Bool). not (b && eqb k k)) (eq-eqb n n refl) ∙ ap (λ (b : Bool). not b) (eq-eqb k k refl)) is
withdrawn-over r (e ∷ es) ps n k none (suc i, at) still = withdrawn-over r es (waiting_after r ps e) n k (λ m l q v there. none m l q v (suc there.0, there.1)) (i, at) still

removed-puts : (name : List ℕ) (rs : List RecordSide) (x : RecordSide) (p : PutPlace) → In rs x → bytes_eq x.name name ≡ true → In x.waiting p → In (removal_entries name rs) (Withdrawn p.circuit p.place)
removed-puts name rs x p there named waits = (let k = kept-in (λ (r : RecordSide). bytes_eq r.name name) rs x there named in all (filter (λ (r : RecordSide). bytes_eq r.name name) rs) k.0 k.1)
  where
    entries : RecordSide → List Entry
    entries z = Removed z.number ∷ map (λ (p : PutPlace). Withdrawn p.circuit p.place) z.waiting

    own : In (entries x) (Withdrawn p.circuit p.place)
    own = (suc waits.0, At-map (λ (q : PutPlace). Withdrawn q.circuit q.place) x.waiting waits.0 p waits.1)

    all : (xs : List RecordSide) (i : ℕ) → At xs i x → In (flat_map entries xs) (Withdrawn p.circuit p.place)
    all [] i at = absurd (none_at i x at)
    all (z ∷ xs) zero at = (let o = subst (λ (v : RecordSide). In (entries v) (Withdrawn p.circuit p.place)) (sym (some_is z x at)) own in (o.0, At-append (entries z) (flat_map entries xs) o.0 (Withdrawn p.circuit p.place) o.1))
    all (z ∷ xs) (suc i) at = (let r = all xs i at in (length (entries z) + r.0, At-after (entries z) (flat_map entries xs) r.0 (Withdrawn p.circuit p.place) r.1))

removed-law : (Is : PutPlace → Put → Type 0) (log : List Entry) (name : List ℕ) (cs : List Record) (rs : List RecordSide) → Both (Agrees Is log) cs rs → IsAwaiting log rs → IsAwaiting (log ++ removal_entries name rs) (filter (λ (r : RecordSide). not (bytes_eq r.name name)) rs)
removed-law Is log name cs rs both awaits r p there = elim (waiting-or log (removal_entries name rs) r p there) [
  | inr new ↦ absurd (removal-none name rs p.0 p.1 r new.0 new.1)
  | inl old ↦
      let nm = awaits r p old in
      let x = titled rs (nm.0, r) nm.1 in
      let number : x.0.number ≡ r = ap (λ (t : List ℕ × ℕ). t.1) (sym x.2) in
      go x.0 x.1 number refl (bytes_eq x.0.name name) refl nm.0 old
]
  where
    waits-by : (x : RecordSide) → In rs x → x.number ≡ r → In (waiting log r) p → (q : PutPlace) × In x.waiting q × (p ≡ pair_of q)
    waits-by x in_rs number old =
        let b = beside-right (Agrees Is log) cs rs in_rs.0 x both in_rs.1 in
        let m = At-mapped pair_of x.waiting old.0 p (subst (λ (l : List (ℕ × ℕ)). At l old.0 p) (ap (λ (n : ℕ). waiting log n) (sym number) ∙ b.2.waits) old.1) in
        (m.0, (old.0, m.1), m.2)

    go : (x : RecordSide) → In rs x → x.number ≡ r → x.name ≡ x.name → (b : Bool) → bytes_eq x.name name ≡ b → (nm : List ℕ) → In (waiting log r) p → (nm : List ℕ) × In (titles (filter (λ (z : RecordSide). not (bytes_eq z.name name)) rs)) (nm, r)
    go x in_rs number same true is nm old =
        let q = waits-by x in_rs number old in
        absurd (withdrawn-over r (removal_entries name rs) (waiting log r) p.0 p.1 (removal-none name rs)
        (subst (λ (v : ℕ × ℕ). In (removal_entries name rs) (Withdrawn v.0 v.1)) (sym q.2) (removed-puts name rs x q.0 in_rs is q.1))
        (subst (λ (l : List (ℕ × ℕ)). In l p) (fold-append (waiting_after r) [] log (removal_entries name rs)) there))
    go x in_rs number same false is nm old =
        let kept = kept-in (λ (z : RecordSide). not (bytes_eq z.name name)) rs x in_rs (ap (λ (b : Bool). not b) is) in
        (x.name, (kept.0, subst (λ (m : ℕ). At (titles (filter (λ (z : RecordSide). not (bytes_eq z.name name)) rs)) kept.0 (x.name, m)) number (At-map title (filter (λ (z : RecordSide). not (bytes_eq z.name name)) rs) kept.0 x kept.1)))

remove-awaiting : (w new : World) (i : ℕ) (y : ServerSide) (name : List ℕ) → Writes w → At w.servers i y → HappensRemove w i y name new → AllAwaiting w → AllAwaiting new
remove-awaiting w new i y name h at (gone, left, core, inl (removes, is)) all =
    let own = log-of w i y h at in
    let side : ServerSide = record y { records = filter (λ (r : RecordSide). not (bytes_eq r.name name)) y.records } in
    let more : List Entry = removal_entries name y.records in
    subst (λ (z : World). AllAwaiting z) (sym is)
    (awaiting-after (removal_told w i y name gone left) i side (ends_by i core) core (own.0 ++ more) (set-here w.servers i y side at) (grown-here w.server_logs y.life own.0 more own.1)
    (awaiting-one w i y side more own.0 h at own.1 refl (removed-law (IsPutOf w.circuits i) own.0 name y.core.records y.records (h.lives i y at).life.each) all))
remove-awaiting w new i y name h at (gone, left, core, inr (removes, is)) all = subst (λ (z : World). AllAwaiting z) (sym is) all

added-law : (log : List Entry) (rs : List RecordSide) (number behind : ℕ) (s : RecordState) → IsAwaiting log rs → IsAwaiting (log ++ Added number s ∷ []) (take behind rs ++ record_begun number s ∷ drop behind rs)
added-law log rs number behind s awaits r p there = elim (waiting-or log (Added number s ∷ []) r p there) [
  | inr new ↦ absurd (one-none (Added number s) (λ n k q v is. cc) p.0 p.1 r new.0 new.1)
  | inl old ↦
      let nm = awaits r p old in
      let x = titled rs (nm.0, r) nm.1 in
      let in_it = in-more behind (record_begun number s) rs x.0 x.1 in
      (nm.0, (in_it.0, subst (λ (v : List ℕ × ℕ). At (titles (take behind rs ++ record_begun number s ∷ drop behind rs)) in_it.0 v) (sym x.2) (At-map title (take behind rs ++ record_begun number s ∷ drop behind rs) in_it.0 x.0 in_it.1)))
]

add-awaiting : (w new : World) (i : ℕ) (y : ServerSide) (r : RecordState) → Writes w → At w.servers i y → HappensAdd w i y r new → AllAwaiting w → AllAwaiting new
add-awaiting w new i y r h at (core, behind, inl (adds, is)) all =
    let own = log-of w i y h at in
    let side : ServerSide = record y { core = core; records = take behind y.records ++ record_begun y.added r ∷ drop behind y.records; added = y.added + 1 } in
    subst (λ (z : World). AllAwaiting z) (sym is) (awaiting-one w i y side (Added y.added r ∷ []) own.0 h at own.1 refl (added-law own.0 y.records y.added behind r) all)
add-awaiting w new i y r h at (core, behind, inr refused) all = subst (λ (z : World). AllAwaiting z) (sym refused.3) all

-- ---- a life begins

begun-awaiting : (s : ServerSetting) → IsAwaiting (log_begun s) (numbered 0 record_begun s.records)
begun-awaiting s r p there = elim (more-or r (log_begun s) [] p there) [
  | inl none ↦ absurd (none_at none.0 p none.1)
  | inr new ↦ absurd (let x = numbered-at Added s.records 0 new.1.0 (Waits p.0 p.1 r new.0) new.1.1 in other (0 + new.1.0) x.0 x.2)
]
  where
    other : {v : Stored} (n : ℕ) (q : RecordState) → Waits p.0 p.1 r v ≡ Added n q → ⊥
    other n q e = cc

restart-awaiting : (w new : World) (i : ℕ) (y : ServerSide) → Writes w → HappensServerRestart w i y new → AllAwaiting w → AllAwaiting new
restart-awaiting w new i y h is all =
    subst (λ (z : World). AllAwaiting z) (sym is)
    (λ j z lg on logged. elim (At-set w.servers i next j z on) [
      | inl own ↦ elim (At-snoc w.server_logs (log_begun y.setting) z.life lg logged) [
        | inl old ↦ absurd (let lt : z.life < length w.server_logs = At-within w.server_logs z.life lg old in let e : z.life ≡ length w.server_logs = ap (λ (x : ServerSide). x.life) own.1 in omega (arith, lt, e))
        | inr new_log ↦ subst (λ (v : List Entry × ServerSide). IsAwaiting v.0 v.1.records) (λ i. (sym new_log.1 i, sym own.1 i)) (begun-awaiting y.setting)
      ]
      | inr old ↦ elim (At-snoc w.server_logs (log_begun y.setting) z.life lg logged) [
        | inl was ↦ all j z lg old.0 was
        | inr new_log ↦ absurd (let l = log-of w j z h old.0 in let lt : z.life < length w.server_logs = At-within w.server_logs z.life l.0 l.1 in let e : z.life ≡ length w.server_logs = new_log.0 in omega (arith, lt, e))
      ]
    ])
  where
    next : ServerSide
    next = server_begun w.moment (length w.server_logs) y.setting

pub opening-awaiting : (s : Setting) → AllAwaiting (opening s)
opening-awaiting s i y log at logged =
    let x = numbered-at (server_begun 0) s.servers 0 i y at in
    let z = At-mapped log_begun s.servers y.life log logged in
    let life : y.life ≡ i = ap (λ (v : ServerSide). v.life) x.2 ∙ (let e : 0 + i ≡ i = omega arith in e) in
    let same_setting : z.0 ≡ x.0 = At-one s.servers i z.0 x.0 (subst (λ (n : ℕ). At s.servers n z.0) life z.1) x.1 in
    subst (λ (v : List Entry × ServerSide). IsAwaiting v.0 v.1.records) (λ i. ((sym (z.2 ∙ ap log_begun same_setting)) i, sym x.2 i)) (begun-awaiting x.0)

-- ---- every event

awaiting-core : (w new : World) (i : ℕ) (y : ServerSide) (core : Server) → At w.servers i y → new.servers ≡ slice_set w.servers i (record y { core = core }) → new.server_logs ≡ w.server_logs → AllAwaiting w → AllAwaiting new
awaiting-core w new i y core at servers logs all = awaiting-same (with_server i (record y { core = core }) w) new servers logs (awaiting-side w i y (record y { core = core }) at refl refl all)

pub frame-awaiting : (w new : World) → Frame w new → AllAwaiting w → AllAwaiting new
frame-awaiting w new f all = awaiting-same w new f.servers f.logs all

-- a server's core goes on in this world
core-side : (w mid new : World) (i : ℕ) (y : ServerSide) (core : Server) → At w.servers i y → mid.servers ≡ w.servers → mid.server_logs ≡ w.server_logs → new.servers ≡ slice_set mid.servers i (record y { core = core }) → new.server_logs ≡ mid.server_logs → AllAwaiting w → AllAwaiting new
core-side w mid new i y core at servers logs set same_logs all =
    awaiting-core mid new i y core (subst (λ (l : List ServerSide). At l i y) (sym servers) at) set same_logs (awaiting-same w mid servers logs all)

leaves-awaiting : (w new : World) (e : Event) → Writes w → (at : CanBe w e) → Leaves w e at new → AllAwaiting w → AllAwaiting new
leaves-awaiting w new (event.Open i name priority) h at l all = frame-awaiting w new (open-frame w new i at.x name priority l) all
leaves-awaiting w new (event.Clear i c) h at l all = frame-awaiting w new (clear-frame w new i at.x c at.h l) all
leaves-awaiting w new (event.Read i c data_type count) h at l all = frame-awaiting w new (read-frame w new i at.x c at.h data_type count l) all
leaves-awaiting w new (event.Write i c e) h at l all = frame-awaiting w new (write-frame w new i at.x c at.h e l) all
leaves-awaiting w new (event.WriteNotify i c e) h at l all = frame-awaiting w new (put-frame w new i at.x c at.h e l) all
leaves-awaiting w new (event.Subscribe i c data_type count mask) h at l all = frame-awaiting w new (subscribe-frame w new i at.x c at.h data_type count mask l) all
leaves-awaiting w new (event.Unsubscribe i n) h at l all = frame-awaiting w new (unsubscribe-frame w new i at.x at.s l) all
leaves-awaiting w new (event.Collect i r) h at l all = frame-awaiting w new (handing-frame w new at.x r at.q.1 (Collected r) l) all
leaves-awaiting w new (event.GiveUp i r) h at l all = frame-awaiting w new (handing-frame w new at.x r at.q.1 (GaveUp r) l) all
leaves-awaiting w new (event.ClientDatagram i from bytes) h at l all = frame-awaiting w new (datagram-frame w new i at.x from bytes l) all
leaves-awaiting w new (event.ServerDatagram i from bytes) h at l all = subst (λ (z : World). AllAwaiting z) (sym l.2) all
leaves-awaiting w new (event.Accept i) h at l all = elim l.leaves [
  | inl full ↦ subst (λ (z : World). AllAwaiting z) (sym full.1) all
  | inr made ↦ awaiting-core w new at.v.i at.v.y l.server at.v.there.0 (ap (λ (z : World). z.servers) made.6) (ap (λ (z : World). z.server_logs) made.6) all
]
leaves-awaiting w new (event.Up m n) h at l all =
    (let f = up-frame w m n at.0.j at.0.x at.0.joins.at in
    core-side w (up_taken m n at.0.j at.0.x w) new at.0.j.server at.0.y l.0 at.0.joins.server f.servers f.logs (ap (λ (z : World). z.servers) l.2) (ap (λ (z : World). z.server_logs) l.2) all)
leaves-awaiting w new (event.Down m n) h at (mid, sent, core, taken, gives, is) all =
    awaiting-same mid new (ap (λ (z : World). z.servers) is) (ap (λ (z : World). z.server_logs) is) (go taken)
  where
    go : DownTaken w m n at.0.j at.0.y mid → AllAwaiting mid
    go (inl (opened, (by, sends, same_it))) = awaiting-core w mid at.0.j.server at.0.y by at.0.joins.server (ap (λ (z : World). z.servers) same_it) (ap (λ (z : World). z.server_logs) same_it) all
    go (inr (shut, same_it)) = awaiting-same w mid (ap (λ (z : World). z.servers) same_it) (ap (λ (z : World). z.server_logs) same_it) all
leaves-awaiting w new (event.ServerStep m) h at l all = step-awaiting w new m at.j at.y l.0 h at.joins.server l.1 all
leaves-awaiting w new (event.ClientStep m) h at l all = frame-awaiting w new (hear-frame w new m at.j at.x at.joins.at l) all
leaves-awaiting w new (event.Pump m) h at l all =
    (let own = log-of w at.j.server at.y h at.joins.server in
    subst (λ (z : World). AllAwaiting z) (sym l.leaves) (awaiting-after (with_circuit m (server.stamped l.updates at.j) w) at.j.server at.y (ends_by at.j.server l.core) l.core own.0 at.joins.server own.1 all))
leaves-awaiting w new (event.CutClient m) h at l all = frame-awaiting w new (cut-frame w new m at.j at.x at.joins.at l) all
leaves-awaiting w new (event.CutServer m) h at l all =
    (let own = log-of w at.j.server at.y h at.joins.server in
    subst (λ (z : World). AllAwaiting z) (sym l.leaves) (awaiting-after w at.j.server at.y (ends_by at.j.server l.core) l.core own.0 at.joins.server own.1 all))
leaves-awaiting w new (event.ClientRestart i) h at l all = frame-awaiting w new (begun-frame w new i at.x l) all
leaves-awaiting w new (event.ServerRestart i) h at l all = restart-awaiting w new i at.y h l all
leaves-awaiting w new (event.Post i name e mask) h at l all = post-awaiting w new i at.y name e mask h at.at l all
leaves-awaiting w new (event.Finish i name) h at l all = finish-awaiting w new i at.y name h at.at l all
leaves-awaiting w new (event.Remove i name) h at l all = remove-awaiting w new i at.y name h at.at l all
leaves-awaiting w new (event.Add i r) h at l all = add-awaiting w new i at.y r h at.at l all
leaves-awaiting w new (event.Tick moment) h at (mid, ticks, is) all =
    awaiting-same mid new (ap (λ (z : World). z.servers) is) (ap (λ (z : World). z.server_logs) is) (frame-awaiting w mid (ticks-frame moment w (clients_below (length w.clients)) mid ticks) all)

pub event-awaiting : (w new : World) (e : Event) → Writes w → Happens w e new → AllAwaiting w → AllAwaiting new
event-awaiting w new e h happens all = leaves-awaiting w new e h happens.0 happens.1 all

-- ---- every run

events-awaiting : (s : Setting) (ok : IsSetting s) (done es : List Event) (w new : World) → FoldsTo Happens (opening s) done w → FoldsTo Happens w es new → AllAwaiting w → AllAwaiting new
events-awaiting s ok done [] w new before same all = subst (λ (z : World). AllAwaiting z) same all
events-awaiting s ok done (e ∷ es) w new before (mid, one, rest) all =
    events-awaiting s ok (done ++ e ∷ []) es mid new (folds-snoc done (opening s) w mid e before one) rest (event-awaiting w mid e ((run-serves s done None w ok (w, before, refl)).stands.sound.writes) one all)

stops-awaiting : (mid : World) (stopped : Option Event) (w : World) → StopsAt mid stopped w → AllAwaiting mid → AllAwaiting w
stops-awaiting mid (Some (event.Tick moment)) w stops all = elim stops [
  | inl same ↦ subst (λ (z : World). AllAwaiting z) (sym same) all
  | inr ticked ↦ frame-awaiting mid w (ticks-frame moment mid (clients_below ticked.0) w ticked.3) all
]
stops-awaiting mid stopped w stops all = subst (λ (z : World). AllAwaiting z) (sym stops) all

pub run-awaiting : (s : Setting) (es : List Event) (stopped : Option Event) (w : World) → IsSetting s → Runs s es stopped w → AllAwaiting w
run-awaiting s es stopped w ok (mid, folds, stops) = stops-awaiting mid stopped w stops (events-awaiting s ok [] es (opening s) mid refl folds (opening-awaiting s))
