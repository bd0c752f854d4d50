-- No event hands a stamp to a server, each life's log is as long as what that life has counted, and
-- between events each end of a server that ended was reported.
use Rattle.std.proofs.Common.{◌≡◌, ℕ, zero, suc, ◌+◌, ◌<◌, ◌≤◌, ◌^◌, ◌≢◌, ◌⊎◌, inl, inr, Bool, true, false, List, [], ◌∷◌, ◌++◌, length, map, Option, Some, None, Ok, Err, refl, sym, ap, subst, ◌∙◌, arith}
use Rattle.std.proofs.Math.Nat.{min-le_left}
use Rattle.std.specs.Prelude.{Result, Vec, drop, filter, if◌then◌else◌, not, option_map, slice_get, slice_set, take, unwrap_or}
use Rattle.std.specs.declared.alloc.Global.{Global}
use Rattle.std.specs.List.{FoldsTo}
use Rattle.std.specs.Str.{bytes_eq}
use Rattle.std.proofs.lemmas.List.{length-map}
use Rattle.ca_arena.specs.declared.handle.Handle.{Handle}
use Rattle.ca_link.specs.Link.{with_rest}
use Rattle.ca_records.specs.declared.puts.Put.{Put}
use Rattle.ca_records.specs.declared.puts.Stamp.{Stamp}
use Rattle.ca_records.specs.Puts.{WaitingPut}
use Rattle.ca_records.specs.Record.{unset}
use Rattle.ca_text.specs.declared.refusal.Refusal.{Refusal}
use Rattle.ca_text.specs.declared.refusal.Refusal.TheVariants.{OutOfMemory}
use Rattle.ca_text.specs.Limits.{applied_limit}
use Rattle.ca_text.specs.Place.{At}
use Rattle.ca_text.proofs.Places.{At-last, At-map, At-set, At-within}
use Rattle.ca_wire.specs.Fields.{Fields}
use Rattle.ca_model.specs.Answers.{Sending, Stepped}
use Rattle.ca_model.specs.Answers as answer
use Rattle.ca_model.specs.Client.{Client}
use Rattle.ca_model.specs.ClientEnds.{handed_over}
use Rattle.ca_model.specs.ClientEvents.{DownTaken, TicksOne, client_stepped}
use Rattle.ca_model.specs.Due.{Action, Adds, Applies, Clears, Drops, Greets, Names, Nothing, Opens, Switches, Waits}
use Rattle.ca_model.specs.Ends as why
use Rattle.ca_model.specs.Events.{Event}
use Rattle.ca_model.specs.Events as event
use Rattle.ca_model.specs.History.{Added, Entry, Line, Refused}
use Rattle.ca_model.specs.Runs.{Happens, clients_below}
use Rattle.ca_model.specs.Server.{Server, ServerEnd}
use Rattle.ca_model.specs.ServerCalls.{Finishes, Replies, after_next}
use Rattle.ca_model.specs.ServerEvents.{HappensFinish, ServerStepped, acted, ends_at, ends_by, ends_here, finish_entry, first_of, logged_by, next_busy, next_entries, posted_entry, records_after, removal_entries, reported, server_after, side_of, unsaid, with_record, withdrawals, without_puts}
use Rattle.ca_model.specs.ServerSteps.{Accepts, Cuts, Gives, LeftOf, Next, Pumps, Reaches, Records, Sends, Update}
use Rattle.ca_model.specs.ServerSteps as server
use Rattle.ca_model.specs.World.{ClientSetting, ClientSide, Joined, Names as Named, PutPlace, RecordSide, ServerSetting, ServerSide, Setting, World, addresses, client_begun, grown, log_begun, log_length, numbered, opening, record_begun, server_begun, with_circuit, with_client, with_lines, with_server}
use Rattle.ca_laws_parts.specs.Moves.{finish_told, post_told, removal_told}
use Rattle.ca_laws_parts.proofs.Midway.{set-here}
use Rattle.ca_laws_parts.proofs.WritesLists.{length-more}
use Rattle.ca_laws_runs.proofs.OrderGrows.{Longer, grown-here, longer-grown, longer-self, longer-snoc}
use Rattle.ca_laws_runs.proofs.OnceRuns.{numbered-place}
use Rattle.ca_world_data.specs.declared.history.Line.{Line as Told}
use Rattle.ca_world_data.specs.declared.history.LogEntry.{LogEntry}
use Rattle.ca_world_data.specs.Logs.{lines_in}
use Rattle.ca_world_data.specs.Opening.{entries_in}
use Rattle.ca_world_data.specs.Seen.{entry_of, line_of}
use Rattle.ca_world.specs.Counted.{AllLines, Counted, HasEntries, HasLines}
use Rattle.ca_world.specs.Reported.{AllReported, HasReported}
use Rattle.ca_world.specs.Unstamped.{IsUnstamped}
use Rattle.ca_world.specs.Whole.{IsReached}
use Rattle.ca_world.proofs.Reported.{accepts-reported, gives-reported, reported-all, sends-reported}

-- ---- cores

-- the stamp that a server has, and how many writes it applied
abbrev tally : Server → Stamp × ℕ
tally y = (y.stamp, y.applied)

-- the stamp is the same, and n more writes at most were applied
abbrev Tallies : ℕ → Server → Stamp × ℕ → Type 0
Tallies n y t = (t.0 ≡ y.stamp) × (t.1 ≤ y.applied + n)

tallies-same : (n : ℕ) (y new : Server) → tally new ≡ tally y → Tallies n y (tally new)
tallies-same n y new same = subst (Tallies n y) (sym same) (refl, omega arith)

recorded-tally : (y new : Server) (h : Handle) (e : ServerEnd) (m : Fields) (p : PutPlace) (rs : List RecordSide) (action : Action) → Records y h e m action new → Tallies (length (logged_by y h p action rs)) y (tally new)
recorded-tally y new h e m p rs Nothing r = tallies-same _ y new (ap tally r)
recorded-tally y new h e m p rs Greets r = tallies-same _ y new (ap tally r)
recorded-tally y new h e m p rs (Names q) r = tallies-same _ y new (ap tally r)
recorded-tally y new h e m p rs (Opens c) r = tallies-same _ y new (ap tally r)
recorded-tally y new h e m p rs (Clears sid) r = tallies-same _ y new (ap tally r)
recorded-tally y new h e m p rs (Adds s) r = tallies-same _ y new (ap tally r)
recorded-tally y new h e m p rs (Drops key) r = tallies-same _ y new (ap tally r)
recorded-tally y new h e m p rs (Switches on) r = tallies-same _ y new (ap tally r)
recorded-tally y new h e m p rs (Waits name value) r = tallies-same _ y new (ap tally r.2)
recorded-tally y new h e m p rs (Applies name value true) r = subst (Tallies 1 y) (sym (ap tally r.2)) (refl, min-le_left (y.applied + 1) applied_limit)
recorded-tally y new h e m p rs (Applies name value false) r = subst (Tallies 1 y) (sym (ap tally r)) (refl, min-le_left (y.applied + 1) applied_limit)

reached-tally : (y new : Server) (gone : Handle → Bool) (action : Action) → Reaches action gone y new → tally new ≡ tally y
reached-tally y new gone (Applies name value busies) r = ap tally r.1
reached-tally y new gone _ r = ap tally r.1

next-tally : (y : Server) (h : Handle) (e : ServerEnd) (next : Next y h e) (p : PutPlace) (rs : List RecordSide) → Tallies (length (logged_by y h p next.action rs)) y (tally next.after)
next-tally y h e next p rs =
    let n : ℕ = length (logged_by y h p next.action rs) in
    subst (Tallies n y) (sym (ap tally next.handles.leaves)) (recorded-tally y next.handles.recorded h (record e { link = with_rest next.rest e.link }) next.m p rs next.action next.handles.records)

replied-tally : (y new : Server) (p : Put) (gone : Handle → Bool) (sent : List (Handle × Fields)) → Replies y p gone sent new → tally new ≡ tally y
replied-tally y new p gone sent (inl r) = ap tally r.3
replied-tally y new p gone sent (inr r) = ap tally r.2

next-applied : (name : List ℕ) (ps : List WaitingPut) (gone : Handle → Bool) (y : Server) → Tallies 1 y (tally (after_next name ps gone y))
next-applied name [] gone y = (refl, omega arith)
next-applied name (p ∷ ps) gone y = (refl, min-le_left (y.applied + 1) applied_limit)

finish-tally : (y new : Server) (name : List ℕ) (sent : List (Handle × Fields)) → Finishes y name sent (Ok tt) new → Tallies 1 y (tally new)
finish-tally y new name sent (f, mid, replies, is) =
    let same : tally mid ≡ tally y = replied-tally _ mid f.p f.gone sent replies in
    subst (λ (t : Stamp × ℕ). (new.stamp ≡ t.0) × (new.applied ≤ t.1 + 1)) same
    (subst (Tallies 1 mid) (sym (ap tally is)) (next-applied name f.r.waiting f.gone mid))

pumps-tally : (y new : Server) (h : Handle) (us : List Update) → Pumps y h us new → tally new ≡ tally y
pumps-tally y new h us (inl (e, has, (after, folds, inl r))) = ap tally r.1
pumps-tally y new h us (inl (e, has, (after, folds, inr r))) = ap tally r.1
pumps-tally y new h us (inr r) = ap tally r.2

cuts-tally : (y new : Server) (h : Handle) → Cuts y h new → tally new ≡ tally y
cuts-tally y new h (inl r) = ap tally r.2
cuts-tally y new h (inr r) = ap tally r.1

gives-tally : (y new : Server) (h : Handle) (bytes : List ℕ) → Gives y h bytes (Ok tt) new → tally new ≡ tally y
gives-tally y new h bytes does = ap tally does.2

sends-tally : (y new : Server) (h : Handle) (n : ℕ) → Sends y h n new → tally new ≡ tally y
sends-tally y new h n (inl does) = ap tally does.3
sends-tally y new h n (inr none) = ap tally none.2

accepts-tally : (y new : Server) (r : Result Handle Refusal) (g : Handle) → r ≡ Ok g → Accepts y r new → tally new ≡ tally y
accepts-tally y new (Ok f) g is does = ap tally does.1
accepts-tally y new (Err e) g is does = absurd cc

-- ---- servers

-- its log is as long as what it counted, and it has no stamp
abbrev Keeps : ServerSide → List (List Entry) → Type 0
Keeps y logs = HasEntries y logs × IsUnstamped y.core

-- so it is with all, and each end of them that ended was reported
abbrev AllKeep : List ServerSide → List (List Entry) → Type 0
AllKeep ys logs = (i : ℕ) (y : ServerSide) → At ys i y → Keeps y logs × HasReported y.core

-- a server goes on with n entries more
keeps-on : (y : ServerSide) (logs new : List (List Entry)) (n : ℕ) (core : Server) (rs : List RecordSide) (added : ℕ) → Longer logs new → log_length y.life logs + n ≤ log_length y.life new → added ≤ y.added + n → Tallies n y.core (tally core) → Keeps y logs
    → Keeps (record y { core = core; records = rs; added = added }) new
keeps-on y logs new n core rs added more long few t (h, bare) =
    let count : length logs ≤ length new = more.count in
    let life : y.life < length logs = h.life in
    let old : y.added ≤ log_length y.life logs = h.added in
    let done : y.core.applied ≤ log_length y.life logs = h.applied in
    let now : core.applied ≤ y.core.applied + n = t.1 in
    (record { life = omega (arith, count, life); added = omega (arith, long, few, old); applied = omega (arith, long, done, now) }, t.0 ∙ bare)

-- with other records, or a core that says the same
keeps-same : (y : ServerSide) (logs new : List (List Entry)) (core : Server) (rs : List RecordSide) → Longer logs new → tally core ≡ tally y.core → Keeps y logs → Keeps (record y { core = core; records = rs }) new
keeps-same y logs new core rs more same h =
    let each : log_length y.life logs ≤ log_length y.life new = more.each y.life in
    keeps-on y logs new 0 core rs y.added more (omega (arith, each)) (omega arith) (tallies-same 0 y.core core same) h

-- with these entries more
keeps-grown : (y : ServerSide) (logs : List (List Entry)) (more : List Entry) (core : Server) (rs : List RecordSide) (added : ℕ) → added ≤ y.added + length more → Tallies (length more) y.core (tally core) → Keeps y logs
    → Keeps (record y { core = core; records = rs; added = added }) (grown y.life more logs)
keeps-grown y logs more core rs added few t h =
    let long : log_length y.life (grown y.life more logs) ≡ log_length y.life logs + length more = grown-here logs y.life more h.0.life in
    keeps-on y logs (grown y.life more logs) (length more) core rs added (longer-grown logs y.life more) (omega (arith, long)) few t h

all-longer : (ys : List ServerSide) (logs new : List (List Entry)) → Longer logs new → AllKeep ys logs → AllKeep ys new
all-longer ys logs new more all i y at = (keeps-same y logs new y.core y.records more refl (all i y at).0, (all i y at).1)

all-set : (ys : List ServerSide) (logs new : List (List Entry)) (i : ℕ) (z : ServerSide) → Longer logs new → AllKeep ys logs → Keeps z new → HasReported z.core → AllKeep (slice_set ys i z) new
all-set ys logs new i z more all one told k x at = elim (At-set ys i z k x at) [
  | inl here ↦ subst (λ (v : ServerSide). Keeps v new × HasReported v.core) (sym here.1) (one, told)
  | inr old ↦ all-longer ys logs new more all k x old.0
]

-- where bytes move
all-told : (ys : List ServerSide) (logs : List (List Entry)) (i : ℕ) (y : ServerSide) (core : Server) → At ys i y → tally core ≡ tally y.core → HasReported core → AllKeep ys logs → AllKeep (slice_set ys i (record y { core = core })) logs
all-told ys logs i y core at same told all =
    let self : Longer logs logs = longer-self logs logs refl in
    all-set ys logs logs i (record y { core = core }) self all (keeps-same y logs logs core y.records self same (all i y at).0) told

-- a call of a server is over
over-keeps : (mid : World) (i : ℕ) (side : ServerSide) (ends : Joined → Option (List ℕ)) (core : Server) → AllKeep mid.servers mid.server_logs → Keeps (record side { core = core }) mid.server_logs
    → AllKeep (server_after i side ends core mid).servers (server_after i side ends core mid).server_logs
over-keeps mid i side ends core all one =
    let gone : ℕ → Bool = ends_at ends mid.circuits in
    let logs : List (List Entry) = grown side.life (withdrawals gone side.records) mid.server_logs in
    let rs : List RecordSide = map (without_puts gone) side.records in
    let more : Longer mid.server_logs logs = longer-grown mid.server_logs side.life (withdrawals gone side.records) in
    all-set mid.servers mid.server_logs logs i (record side { core = reported core; records = rs }) more all (keeps-same (record side { core = core }) mid.server_logs logs (reported core) rs more refl one) (reported-all core)

-- so it is by a call that logs nothing, and tells the same
over-same : (w : World) (i : ℕ) (y : ServerSide) (ends : Joined → Option (List ℕ)) (core : Server) (ks : List Joined) → At w.servers i y → tally core ≡ tally y.core → AllKeep w.servers w.server_logs
    → (let mid : World = record w { circuits = ks } in AllKeep (server_after i y ends core mid).servers (server_after i y ends core mid).server_logs)
over-same w i y ends core ks at same all =
    over-keeps (record w { circuits = ks }) i y ends core all (keeps-same y w.server_logs w.server_logs core y.records (longer-self w.server_logs w.server_logs refl) same (all i y at).0)

-- what holds of a world, whatever its circuits are, holds where a circuit is noted or changed
at-keeps : (P : World → Type 0) (w : World) (k : ℕ) (f : Joined → Joined) (o : Option Joined) → P w → ((c : Joined) → P (with_circuit k c w)) → P (unwrap_or (option_map (λ (c : Joined). with_circuit k (f c) w) o) w)
at-keeps P w k f None h on = h
at-keeps P w k f (Some c) h on = on (f c)

-- what a message logs, and what it makes of a server's records
module _ (w : World) (k : ℕ) (j : Joined) (y : ServerSide) (action : Action) (at : At w.servers j.server y) (all : AllKeep w.servers w.server_logs) where
  abbrev place : PutPlace
  place = record { circuit = k; place = length j.lists.handled }

  abbrev entries : List Entry
  entries = logged_by y.core j.at_server place action y.records

  abbrev after : List RecordSide
  after = records_after y.core j.at_server place action y.records

  abbrev logs : List (List Entry)
  logs = grown y.life entries w.server_logs

  acted-keeps : AllKeep (slice_set w.servers j.server (record y { records = after })) logs
  acted-keeps =
      all-set w.servers w.server_logs logs j.server (record y { records = after }) (longer-grown w.server_logs y.life entries) all
      (keeps-same y w.server_logs logs y.core after (longer-grown w.server_logs y.life entries) refl (all j.server y at).0) (all j.server y at).1

  over-acted : (ends : Joined → Option (List ℕ)) (core : Server) → Tallies (length entries) y.core (tally core)
      → (let mid : World = acted k j y action w in let new : World = server_after j.server (side_of j.server y mid) ends core mid in AllKeep new.servers new.server_logs)
  over-acted ends core t =
      let side : ServerSide = record y { records = after } in
      let mid : World = acted k j y action w in
      let is : side_of j.server y mid ≡ side = ap (λ (o : Option ServerSide). unwrap_or o y) (set-here w.servers j.server y side at) in
      over-keeps mid j.server (side_of j.server y mid) ends core acted-keeps
      (subst (λ (s : ServerSide). Keeps (record s { core = core }) logs) (sym is) (keeps-grown y w.server_logs entries core after y.added (omega arith) t (all j.server y at).0))

-- a server that begins, with the log of its records
numbered-long : {A B : Type 0} (f : ℕ → A → B) (xs : List A) (n : ℕ) → length (numbered n f xs) ≡ length xs
numbered-long f [] n = refl
numbered-long f (x ∷ xs) n = ap (λ (m : ℕ). suc m) (numbered-long f xs (n + 1))

begun-keeps : (moment life : ℕ) (s : ServerSetting) (logs : List (List Entry)) → At logs life (log_begun s) → Keeps (server_begun moment life s) logs
begun-keeps moment life s logs at =
    let long : log_length life logs ≡ length s.records = ap (λ (o : Option (List Entry)). length (unwrap_or o [])) at ∙ numbered-long Added s.records 0 in
    (record { life = At-within logs life (log_begun s) at; added = omega (arith, long); applied = omega arith }, refl)

-- ---- clients

-- a client goes on with n lines more
lines-on : (x : ClientSide) (logs new : List (List Line)) (n : ℕ) (core : Client) (names : Named) → Longer logs new → log_length x.life logs + n ≤ log_length x.life new → names.writes ≤ x.names.writes + n → HasLines x logs → HasLines (record x { core = core; names = names }) new
lines-on x logs new n core names more long few h =
    let count : length logs ≤ length new = more.count in
    let life : x.life < length logs = h.life in
    let writes : x.names.writes ≤ log_length x.life logs = h.writes in
    record { life = omega (arith, count, life); writes = omega (arith, long, few, writes) }

lines-longer : (xs : List ClientSide) (logs new : List (List Line)) → Longer logs new → AllLines xs logs → AllLines xs new
lines-longer xs logs new more all i x at =
    let each : log_length x.life logs ≤ log_length x.life new = more.each x.life in
    lines-on x logs new 0 x.core x.names more (omega (arith, each)) (omega arith) (all i x at)

lines-set : (xs : List ClientSide) (logs new : List (List Line)) (i : ℕ) (z : ClientSide) → Longer logs new → AllLines xs logs → HasLines z new → AllLines (slice_set xs i z) new
lines-set xs logs new i z more all one k x at = elim (At-set xs i z k x at) [
  | inl here ↦ subst (λ (v : ClientSide). HasLines v new) (sym here.1) one
  | inr old ↦ lines-longer xs logs new more all k x old.0
]

-- with these lines more
lines-said : (xs : List ClientSide) (logs : List (List Line)) (i : ℕ) (x : ClientSide) (core : Client) (names : Named) (lines : List Line) → At xs i x → names.writes ≤ x.names.writes + length lines → AllLines xs logs
    → AllLines (slice_set xs i (record x { core = core; names = names })) (grown x.life lines logs)
lines-said xs logs i x core names lines at few all =
    let new : List (List Line) = grown x.life lines logs in
    let more : Longer logs new = longer-grown logs x.life lines in
    let long : log_length x.life new ≡ log_length x.life logs + length lines = grown-here logs x.life lines (all i x at).life in
    lines-set xs logs new i (record x { core = core; names = names }) more all (lines-on x logs new (length lines) core names more (omega (arith, long)) few (all i x at))

-- where bytes move
lines-same : (xs : List ClientSide) (logs : List (List Line)) (i : ℕ) (x : ClientSide) (core : Client) → At xs i x → AllLines xs logs → AllLines (slice_set xs i (record x { core = core })) logs
lines-same xs logs i x core at all =
    let self : Longer logs logs = longer-self logs logs refl in
    lines-set xs logs logs i (record x { core = core }) self all (lines-on x logs logs 0 core x.names self (omega arith) (omega arith) (all i x at))

-- ---- worlds

abbrev Holds : World → Type 0
Holds w = AllLines w.clients w.client_logs × AllKeep w.servers w.server_logs

-- a client's log has lines more
noted-holds : (w : World) (life : ℕ) (lines : List Line) → Holds w → AllLines w.clients (grown life lines w.client_logs) × AllKeep w.servers w.server_logs
noted-holds w life lines (ls, es) = (lines-longer w.clients w.client_logs (grown life lines w.client_logs) (longer-grown w.client_logs life lines) ls, es)

-- and the client goes on
said-holds : (w : World) (i : ℕ) (x : ClientSide) (core : Client) (names : Named) (lines : List Line) → At w.clients i x → names.writes ≤ x.names.writes + length lines → Holds w
    → AllLines (slice_set w.clients i (record x { core = core; names = names })) (grown x.life lines w.client_logs) × AllKeep w.servers w.server_logs
said-holds w i x core names lines at few (ls, es) = (lines-said w.clients w.client_logs i x core names lines at few ls, es)

-- a call of a client, which is refused, or done
called-holds : {A : Type 0} (w new : World) (life : ℕ) (Fails : Refusal → Type 0) (Does : A → List Sending → Client → Type 0) (left : A → List Sending → Client → World) → Holds w → ((a : A) (sent : List Sending) (core : Client) → Holds (left a sent core))
    → (((e : Refusal) × (e ≢ OutOfMemory) × Fails e × (new ≡ with_lines life (Refused e ∷ []) w)) ⊎ ((a : A) × (sent : List Sending) × (core : Client) × Does a sent core × (new ≡ left a sent core))) → Holds new
called-holds w new life Fails Does left all does (inl out) = subst (λ (v : World). Holds v) (sym out.3) (noted-holds w life _ all)
called-holds w new life Fails Does left all does (inr did) = subst (λ (v : World). Holds v) (sym did.4) (does did.0 did.1 did.2)

stepped-clients : (w : World) (k : ℕ) (j : Joined) (x : ClientSide) (did : Stepped) (sent : List Sending) (core : Client) → At w.clients j.client x → Holds w → Holds (client_stepped k j x did sent core w)
stepped-clients w k j x answer.NeedBytes sent core at all = all
stepped-clients w k j x (answer.Closed c) sent core at all = said-holds w j.client x core x.names _ at (omega arith) all
stepped-clients w k j x (answer.Notices notices) sent core at all = said-holds w j.client x core x.names _ at (omega arith) all

ticks-hold : (moment : ℕ) (clients : List ℕ) (w new : World) → Holds w → FoldsTo (TicksOne moment) w clients new → Holds new
ticks-hold moment [] w new all folds = subst (λ (v : World). Holds v) folds all
ticks-hold moment (i ∷ clients) w new all folds =
    let t = folds.1 in
    ticks-hold moment clients folds.0 new (subst (λ (v : World). Holds v) (sym t.6) (said-holds w i t.0 t.4 (t.0).names _ t.1 (omega arith) all)) folds.2

up-holds : (b : Bool) (w : World) (k : ℕ) (j d : Joined) (x : ClientSide) (core : Client) (y : ServerSide) (given : Server) → At w.clients j.client x → At w.servers j.server y → tally given ≡ tally y.core → HasReported given → Holds w
    → Holds (with_server j.server (record y { core = given }) (if b then with_client j.client (record x { core = core }) w else with_circuit k d w))
up-holds true w k j d x core y given client at same told (ls, es) = (lines-same w.clients w.client_logs j.client x core client ls, all-told w.servers w.server_logs j.server y given at same told es)
up-holds false w k j d x core y given client at same told (ls, es) = (ls, all-told w.servers w.server_logs j.server y given at same told es)

taken-holds : (w mid : World) (k n : ℕ) (j : Joined) (x : ClientSide) (y : ServerSide) → At w.clients j.client x → At w.servers j.server y → Holds w → DownTaken w k n j y mid → Holds mid × At mid.clients j.client x
taken-holds w mid k n j x y client at (ls, es) (inl on) =
    subst (λ (v : World). Holds v × At v.clients j.client x) (sym on.1.2) ((ls, all-told w.servers w.server_logs j.server y on.1.0 at (sends-tally y.core on.1.0 j.at_server n on.1.1) (sends-reported y.core on.1.0 j.at_server n (es j.server y at).1 on.1.1) es), client)
taken-holds w mid k n j x y client at all (inr off) = subst (λ (v : World). Holds v × At v.clients j.client x) (sym off.1) (all, client)

stepped-holds : (w new : World) (k : ℕ) (j : Joined) (y : ServerSide) (did : server.Stepped) → At w.servers j.server y → Holds w → ServerStepped w k j y did new → Holds new
stepped-holds w new k j y server.Handled at (ls, es) steps =
    let next : Next y.core j.at_server steps.e = steps.steps.0 in
    let p : PutPlace = record { circuit = k; place = length j.lists.handled } in
    let n : ℕ = length (logged_by y.core j.at_server p next.action y.records) in
    let t : Tallies n y.core (tally steps.core) = subst (Tallies n y.core) (sym (reached-tally next.after steps.core steps.steps.1 next.action steps.steps.3)) (next-tally y.core j.at_server steps.e next p y.records) in
    subst (λ (v : World). Holds v) (sym steps.leaves)
    (at-keeps (λ (v : World). Holds v) _ k _ (slice_get _ k) (ls, over-acted w k j y next.action at es _ steps.core t) (λ c. (ls, over-acted w k j y next.action at es _ steps.core t)))
stepped-holds w new k j y server.NeedBytes at all steps = subst (λ (v : World). Holds v) (sym steps.3) all
stepped-holds w new k j y server.OutputFull at all steps = subst (λ (v : World). Holds v) (sym steps.3) all
stepped-holds w new k j y (server.Closed why.OutOfMemory left) at (ls, es) steps =
    subst (λ (v : World). Holds v) (sym steps.leaves) (go steps.lacks.written steps.lacks.left_is)
  where
    next : Next y.core j.at_server steps.e
    next = steps.lacks.next

    closed : tally steps.core ≡ tally steps.lacks.mid
    closed = ap tally steps.lacks.leaves

    go : (o : Option (Handle → Bool)) → LeftOf next o steps.lacks.mid → (let mid : World = unsaid k j y next.action o w in Holds (server_after j.server (side_of j.server y mid) (ends_here j left j.server steps.core) steps.core mid))
    go None is =
        let one : side_of j.server y w ≡ y = ap (λ (o : Option ServerSide). unwrap_or o y) at in (
          ls,
          over-keeps w j.server (side_of j.server y w) (ends_here j left j.server steps.core) steps.core es
              (subst (λ (s : ServerSide). Keeps (record s { core = steps.core }) w.server_logs) (sym one) (keeps-same y w.server_logs w.server_logs steps.core y.records (longer-self w.server_logs w.server_logs refl) (closed ∙ ap tally is) (es j.server y at).0)),
        )
    go (Some gone) is =
        let p : PutPlace = record { circuit = k; place = length j.lists.handled } in
        let n : ℕ = length (logged_by y.core j.at_server p next.action y.records) in (
          ls,
          over-acted w k j y next.action at es (ends_here j left j.server steps.core) steps.core
              (subst (Tallies n y.core) (sym (closed ∙ reached-tally next.after steps.lacks.mid gone next.action is.1)) (next-tally y.core j.at_server steps.e next p y.records)),
        )
stepped-holds w new k j y (server.Closed cause left) at (ls, es) steps =
    subst (λ (v : World). Holds v) (sym steps.3) (ls, over-same w j.server y _ _ w.circuits at refl es)

finished-holds : (w new : World) (i : ℕ) (y : ServerSide) (name : List ℕ) → At w.servers i y → Holds w → HappensFinish w i y name new → Holds new
finished-holds w new i y name at (ls, es) (inl did) =
    let rs : List RecordSide = with_record name next_busy y.records in
    let more : List Entry = finish_entry did.p ∷ next_entries y did.r (first_of did.cr.waiting) (first_of did.r.waiting) in
    let logs : List (List Entry) = grown y.life more w.server_logs in
    let t = finish-tally y.core did.core name did.sent did.finishes in
    let one : Keeps (record y { core = did.core; records = rs }) logs = keeps-grown y w.server_logs more did.core rs y.added (omega arith) (t.0, (let few : did.core.applied ≤ y.core.applied + 1 = t.1 in omega (arith, few))) (es i y at).0 in
    let all : AllKeep (slice_set w.servers i (record y { records = rs })) logs = all-set w.servers w.server_logs logs i (record y { records = rs }) (longer-grown w.server_logs y.life more) es
    (keeps-same y w.server_logs logs y.core rs (longer-grown w.server_logs y.life more) refl (es i y at).0) (es i y at).1 in
    let mid : World = finish_told w i y name did.cr did.r did.p in
    subst (λ (v : World). Holds v) (sym did.leaves)
    (at-keeps (λ (v : World). Holds (server_after i (record y { records = rs }) (ends_by i did.core) did.core v)) mid did.p.circuit _ (slice_get mid.circuits did.p.circuit)
    (ls, over-keeps mid i (record y { records = rs }) (ends_by i did.core) did.core all one) (λ c. (ls, over-keeps (with_circuit did.p.circuit c mid) i (record y { records = rs }) (ends_by i did.core) did.core all one)))
finished-holds w new i y name at all (inr out) = subst (λ (v : World). Holds v) (sym out.2) all

-- ---- events

happens-holds : (w new : World) (e : Event) → Holds w → Happens w e new → Holds new
happens-holds w new (event.Open i name priority) all h = called-holds w new h.0.x.life _ _ _ all (λ a sent core. said-holds w i h.0.x core _ _ h.0.at (omega arith) all) h.1
happens-holds w new (event.Clear i k) all h = called-holds w new h.0.x.life _ _ _ all (λ a sent core. said-holds w i h.0.x core _ _ h.0.at (omega arith) all) h.1
happens-holds w new (event.Read i k data_type count) all h = called-holds w new h.0.x.life _ _ _ all (λ a sent core. said-holds w i h.0.x core _ _ h.0.at (omega arith) all) h.1
happens-holds w new (event.Write i k e) all h = called-holds w new h.0.x.life _ _ _ all (λ a sent core. said-holds w i h.0.x core _ _ h.0.at (omega arith) all) h.1
happens-holds w new (event.WriteNotify i k e) all h = called-holds w new h.0.x.life _ _ _ all (λ a sent core. said-holds w i h.0.x core _ _ h.0.at (omega arith) all) h.1
happens-holds w new (event.Subscribe i k data_type count mask) all h = called-holds w new h.0.x.life _ _ _ all (λ a sent core. said-holds w i h.0.x core _ _ h.0.at (omega arith) all) h.1
happens-holds w new (event.Unsubscribe i n) all h = called-holds w new h.0.x.life _ _ _ all (λ a sent core. said-holds w i h.0.x core _ _ h.0.at (omega arith) all) h.1
happens-holds w new (event.Collect i r) all h = subst (λ (v : World). Holds v) (sym h.1.2) (noted-holds w h.0.x.life _ all)
happens-holds w new (event.GiveUp i r) all h = subst (λ (v : World). Holds v) (sym h.1.2) (noted-holds w h.0.x.life _ all)
happens-holds w new (event.ClientDatagram i from bytes) all h = subst (λ (v : World). Holds v) (sym h.1.3) (said-holds w i h.0.x h.1.1 h.0.x.names [] h.0.at (omega arith) all)
happens-holds w new (event.ServerDatagram i from bytes) all h = subst (λ (v : World). Holds v) (sym h.1.2) all
happens-holds w new (event.Accept i) (ls, es) h = elim h.1.leaves [
  | inl out ↦ subst (λ (v : World). Holds v) (sym out.1) (ls, es)
  | inr did ↦
      let v = h.0.v in
      subst (λ (z : World). Holds z) (sym did.6)
      (lines-said w.clients w.client_logs i h.0.x did.3 h.0.x.names _ h.0.at (omega arith) ls, all-told w.servers w.server_logs v.i v.y h.1.server v.there.0 (accepts-tally v.y.core h.1.server h.1.answer did.0 did.4 h.1.accepts) (accepts-reported v.y.core h.1.server h.1.answer did.0 (es v.i v.y v.there.0).1 did.4 h.1.accepts) es)
]
happens-holds w new (event.Up k n) all h =
    let at = h.0.0 in
    subst (λ (v : World). Holds v) (sym h.1.2)
    (up-holds at.j.lists.client_open w k at.j _ at.x (handed_over at.j.at_client n at.x.core) at.y h.1.0 at.joins.client at.joins.server (gives-tally at.y.core h.1.0 at.j.at_server _ h.1.1) (gives-reported at.y.core h.1.0 at.j.at_server _ (all.1 at.j.server at.y at.joins.server).1 h.1.1) all)
happens-holds w new (event.Down k n) all h =
    let at = h.0.0 in
    let d = h.1 in
    let mid = taken-holds w d.0 k n at.j at.x at.y at.joins.client at.joins.server all d.3 in
    subst (λ (v : World). Holds v) (sym d.5) (said-holds d.0 at.j.client at.x d.2 at.x.names [] mid.1 (omega arith) mid.0)
happens-holds w new (event.ServerStep k) all h = stepped-holds w new k h.0.j h.0.y h.1.0 h.0.joins.server all h.1.1
happens-holds w new (event.ClientStep k) all h = (let d = h.1 in subst (λ (v : World). Holds v) (sym d.4) (stepped-clients w k h.0.j h.0.x d.0 d.1 d.2 h.0.joins.client all))
happens-holds w new (event.Pump k) (ls, es) h =
    subst (λ (v : World). Holds v) (sym h.1.leaves) (ls, over-same w h.0.j.server h.0.y _ h.1.core _ h.0.joins.server (pumps-tally h.0.y.core h.1.core h.0.j.at_server h.1.updates h.1.pumps) es)
happens-holds w new (event.CutClient k) all h = (let d = h.1 in subst (λ (v : World). Holds v) (sym d.4) (said-holds w h.0.j.client h.0.x d.2 h.0.x.names _ h.0.joins.client (omega arith) all))
happens-holds w new (event.CutServer k) (ls, es) h =
    subst (λ (v : World). Holds v) (sym h.1.leaves) (ls, over-same w h.0.j.server h.0.y _ h.1.core w.circuits h.0.joins.server (cuts-tally h.0.y.core h.1.core h.0.j.at_server h.1.cuts) es)
happens-holds w new (event.ClientRestart i) (ls, es) h =
    let x : ClientSide = client_begun (addresses (map (λ (y : ServerSide). y.setting) w.servers)) w.moment (length w.client_logs) h.0.x.setting in
    let more : length (w.client_logs ++ [] ∷ []) ≡ length w.client_logs + 1 = length-more w.client_logs [] in
    subst (λ (v : World). Holds v) (sym h.1) (lines-set w.clients w.client_logs (w.client_logs ++ [] ∷ []) i x (longer-snoc w.client_logs []) ls (record { life = omega (arith, more); writes = omega arith }), es)
happens-holds w new (event.ServerRestart i) (ls, es) h =
    let s : ServerSetting = h.0.y.setting in
    let logs : List (List Entry) = w.server_logs ++ log_begun s ∷ [] in
    subst (λ (v : World). Holds v) (sym h.1)
    (ls, all-set w.servers w.server_logs logs i (server_begun w.moment (length w.server_logs) s) (longer-snoc w.server_logs (log_begun s)) es (begun-keeps w.moment (length w.server_logs) s logs (At-last w.server_logs (log_begun s))) (λ n p at. absurd cc))
happens-holds w new (event.Post i name e mask) (ls, es) h = elim h.1.2 [
  | inl did ↦
      let y : ServerSide = h.0.y in
      let mid : World = post_told w i y name (record { value = e; meta = unset }) mask in
      let more : Longer w.server_logs mid.server_logs = longer-grown w.server_logs y.life (posted_entry y name (record { value = e; meta = unset }) mask) in
      subst (λ (v : World). Holds v) (sym did.1)
      (ls, over-keeps mid i y (ends_by i h.1.1) h.1.1 (all-longer w.servers w.server_logs mid.server_logs more es) (keeps-same y w.server_logs mid.server_logs h.1.1 y.records more (ap tally did.0.2) (es i y h.0.at).0))
  | inr out ↦ subst (λ (v : World). Holds v) (sym out.3) (ls, es)
]
happens-holds w new (event.Finish i name) all h = finished-holds w new i h.0.y name h.0.at all h.1
happens-holds w new (event.Remove i name) (ls, es) h = elim h.1.3 [
  | inl did ↦
      let y : ServerSide = h.0.y in
      let mid : World = removal_told w i y name h.1.0 h.1.1 in
      let logs : List (List Entry) = mid.server_logs in
      let rs : List RecordSide = filter (λ (r : RecordSide). not (bytes_eq r.name name)) y.records in
      let more : Longer w.server_logs logs = longer-grown w.server_logs y.life (removal_entries name y.records) in
      subst (λ (v : World). Holds v) (sym did.1) (
        ls,
        over-keeps mid i (record y { records = rs }) (ends_by i h.1.2) h.1.2 (all-set w.servers w.server_logs logs i (record y { records = rs }) more es (keeps-same y w.server_logs logs y.core rs more refl (es i y h.0.at).0) (es i y h.0.at).1)
            (keeps-same y w.server_logs logs h.1.2 rs more (ap tally did.0.2) (es i y h.0.at).0),
      )
  | inr out ↦ subst (λ (v : World). Holds v) (sym out.1) (ls, es)
]
happens-holds w new (event.Add i r) (ls, es) h = elim h.1.2 [
  | inl did ↦
      let y : ServerSide = h.0.y in
      let more : List Entry = Added y.added r ∷ [] in
      let rs : List RecordSide = take h.1.1 y.records ++ record_begun y.added r ∷ drop h.1.1 y.records in
      subst (λ (v : World). Holds v) (sym did.1) (
        ls,
        all-set w.servers w.server_logs (grown y.life more w.server_logs) i (record y { core = h.1.0; records = rs; added = y.added + 1 }) (longer-grown w.server_logs y.life more) es
            (keeps-grown y w.server_logs more h.1.0 rs (y.added + 1) (omega arith) (tallies-same 1 y.core h.1.0 (ap tally did.0.1)) (es i y h.0.at).0)
            (subst HasReported (sym did.0.1) (es i y h.0.at).1),
      )
  | inr out ↦ subst (λ (v : World). Holds v) (sym out.3) (ls, es)
]
happens-holds w new (event.Tick moment) all h = (let t = h.1 in subst (λ (v : World). Holds v) (sym t.2) (ticks-hold moment (clients_below (length w.clients)) w t.0 all t.1))

-- ---- every run

opening-holds : (s : Setting) → Holds (opening s)
opening-holds s = (
  λ i x at.
      let r = numbered-place 0 (client_begun (addresses s.servers) 0) s.clients i x at in
      let empty : ClientSetting → List Line = λ c. [] in
      let life : i < length (map empty s.clients) = At-within (map empty s.clients) i [] (At-map empty s.clients i r.0 r.1) in
      subst (λ (v : ClientSide). HasLines v (map empty s.clients)) (sym r.2) (record { life = omega (arith, life); writes = omega arith }),
  λ i y at.
      let r = numbered-place 0 (server_begun 0) s.servers i y at in
      let same : i ≡ 0 + i = omega arith in
      subst (λ (v : ServerSide). Keeps v (map log_begun s.servers) × HasReported v.core) (sym r.2)
      (begun-keeps 0 (0 + i) r.0 (map log_begun s.servers) (subst (λ (k : ℕ). At (map log_begun s.servers) k (log_begun r.0)) same (At-map log_begun s.servers i r.0 r.1)), λ n p there. absurd cc),
)

events-hold : (es : List Event) (w new : World) → Holds w → FoldsTo Happens w es new → Holds new
events-hold [] w new all same = subst (λ (v : World). Holds v) same all
events-hold (e ∷ es) w new all (mid, one, rest) = events-hold es mid new (happens-holds w mid e all one) rest

run-holds : (w : World) → IsReached w → Holds w
run-holds w (s, es, ok, folds) = events-hold es (opening s) w (opening-holds s) folds

-- so it is in every run
pub run-unstamped : (w : World) → IsReached w → (i : ℕ) (y : ServerSide) → At w.servers i y → IsUnstamped y.core
run-unstamped w reached i y at = ((run-holds w reached).1 i y at).0.1

pub run-counted : (w : World) → IsReached w → Counted w
run-counted w reached = (let h = run-holds w reached in record { clients = h.0; servers = λ i y at. (h.1 i y at).0.0 })

pub run-reported : (w : World) → IsReached w → AllReported w.servers
run-reported w reached i y at = ((run-holds w reached).1 i y at).1

-- ---- the logs of a program

-- A log has fewer lines than 2^63, as a block of memory has fewer bytes.
log-short : {A B : Type 0} (f : A → B) (logs : List (Vec A Global)) (life : ℕ) → log_length life (map (λ (log : Vec A Global). map f log.items) logs) < 2 ^ 63
log-short f [] life = omega arith
log-short f (log ∷ logs) zero =
    let long : length (map f log.items) ≡ length log.items = length-map log.items f in
    let len : log.len ≡ length log.items = log.ok.0 in
    let room : log.len ≤ log.cap = log.ok.1 in
    let small : log.cap < 2 ^ 63 = log.small in
    omega (arith, long, len, room, small)
log-short f (log ∷ logs) (suc life) = log-short f logs life

-- so that a life counts fewer
pub few-writes : (x : ClientSide) (logs : List (Vec Told Global)) → HasLines x (lines_in logs) → x.names.writes < 2 ^ 63
few-writes x logs has =
    let short : log_length x.life (lines_in logs) < 2 ^ 63 = log-short line_of logs x.life in
    let writes : x.names.writes ≤ log_length x.life (lines_in logs) = has.writes in
    omega (arith, short, writes)

pub few-entries : (y : ServerSide) (logs : List (Vec LogEntry Global)) → HasEntries y (entries_in logs) → (y.added < 2 ^ 63) × (y.core.applied < 2 ^ 63)
few-entries y logs has =
    let short : log_length y.life (entries_in logs) < 2 ^ 63 = log-short entry_of logs y.life in
    let added : y.added ≤ log_length y.life (entries_in logs) = has.added in
    let applied : y.core.applied ≤ log_length y.life (entries_in logs) = has.applied in
    (omega (arith, short, added), omega (arith, short, applied))
