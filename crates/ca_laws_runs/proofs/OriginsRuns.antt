-- Posts, additions, removals and finishes in the logs of servers come from events, over every event
-- and every run.
use Rattle.std.proofs.Common.{◌≡◌, ℕ, zero, suc, ◌+◌, inl, inr, Bool, true, false, cond, List, [], ◌∷◌, ◌++◌, length, Option, Some, None, refl, sym, ap, subst, ◌∙◌, append_assoc, append-nil, arith}
use Rattle.std.specs.Prelude.{filter, map, option_map, slice_get, unwrap_or}
use Rattle.std.specs.List.{FoldsTo, filter_map, flat_map}
use Rattle.std.specs.Str.{bytes_eq}
use Rattle.std.proofs.lemmas.Slice.Eq.{bytes_eq-Decides}
use Rattle.ca_arena.specs.declared.handle.Handle.{Handle}
use Rattle.ca_dbr.specs.Elements.{Elements}
use Rattle.ca_records.specs.Puts.{WaitingPut}
use Rattle.ca_records.specs.Record.{RecordState, unset}
use Rattle.ca_text.specs.Place.{At}
use Rattle.ca_text.proofs.Places.{some_is, At-mapped, At-parts, At-within}
use Rattle.ca_wire.specs.Fields.{Fields}
use Rattle.ca_model.specs.Channels.{Has}
use Rattle.ca_model.specs.ClientEvents.{DownTaken}
use Rattle.ca_model.specs.Due.{Action, Applies}
use Rattle.ca_model.specs.Due as action
use Rattle.ca_model.specs.Ends as why
use Rattle.ca_model.specs.Events.{Event}
use Rattle.ca_model.specs.Events as event
use Rattle.ca_model.specs.History.{Added, Collected, Entry, GaveUp, Posted, Removed, Withdrawn}
use Rattle.ca_model.specs.Origins.{ComeFromEvents, IsUnasked, restarted, servers_of}
use Rattle.ca_model.specs.Runs.{CanBe, Happens, Leaves, Runs, StopsAt, clients_below}
use Rattle.ca_model.specs.Server.{Server}
use Rattle.ca_model.specs.ServerEvents.{HappensAdd, HappensFinish, HappensPost, HappensRemove, ServerStepped, acted, ends_at, ends_by, ends_here, finish_entry, first_of, handled_at, logged_by, next_entries, noted, number_of, posted_entry, removal_entries, server_after, side_of, unsaid, withdrawals}
use Rattle.ca_model.specs.ServerEvents as server
use Rattle.ca_model.specs.ServerSteps.{Stepped, closed}
use Rattle.ca_model.specs.ServerSteps as stepped
use Rattle.ca_model.specs.Speech.{In, Stored}
use Rattle.ca_model.specs.World.{IsSetting, Joined, PutPlace, RecordSide, ServerSide, Setting, World, grown, opening, server_begun, with_circuit}
use Rattle.ca_laws_parts.specs.Agrees.{Agrees, IsBusyBy, IsBusyWith}
use Rattle.ca_laws_parts.specs.Lives.{IsPutOf}
use Rattle.ca_laws_parts.specs.Moves.{Lives, Writes, finish_told, post_told, removal_told}
use Rattle.ca_laws_parts.specs.Seats.{AsGiven}
use Rattle.ca_laws_parts.proofs.Every.{ticks-frame}
use Rattle.ca_laws_parts.proofs.HappensClient.{begun-frame, clear-frame, cut-frame, datagram-frame, handing-frame, hear-frame, open-frame, put-frame, read-frame, subscribe-frame, unsubscribe-frame, up-frame, write-frame}
use Rattle.ca_laws_parts.proofs.Midway.{grown-here}
use Rattle.ca_laws_parts.proofs.WritesEvents.{found, numbered-at}
use Rattle.ca_laws_parts.proofs.WritesLists.{beside-right, none_at}
use Rattle.ca_laws_parts.proofs.WritesLives.{number-of}
use Rattle.ca_laws_runs.specs.KnewFaces.{Face, KeepSettings}
use Rattle.ca_laws_runs.proofs.FaceEvents.{AreFaced, Calm, event-faced, handled-faced, unhandled-faced}
use Rattle.ca_laws_runs.proofs.FaceRuns.{run-settings}
use Rattle.ca_laws_runs.proofs.FollowsWhole.{folds-snoc}
use Rattle.ca_laws_runs.proofs.LoggedStep.{told-logs}
use Rattle.ca_laws_runs.proofs.NamesEvents.{log-of, side-life}
use Rattle.ca_laws_runs.proofs.NamesKept.{one-named}
use Rattle.ca_laws_runs.proofs.OriginsKept.{AreAsked, Traced, server-begun, server-first, servers-more, traced-asked, traced-begun, traced-made, traced-on, traced-opening}
use Rattle.ca_laws_runs.proofs.StepWhole.{run-serves}

-- ---- what messages make

none-asked : AreAsked []
none-asked k x at un = none_at k x at

one-asked : (e : Entry) → (IsUnasked e → ⊥) → AreAsked (e ∷ [])
one-asked e asked zero x at un = asked (subst (λ (z : Entry). IsUnasked z) (sym (some_is e x at)) un)
one-asked e asked (suc k) x at un = none_at k x at

both-asked : (xs ys : List Entry) → AreAsked xs → AreAsked ys → AreAsked (xs ++ ys)
both-asked xs ys f g k x at un = elim (At-parts xs ys k x at) [ inl old ↦ f k x old un | inr new ↦ g new.0 x new.2 un ]

withdrawn-asked : (ps : List PutPlace) → AreAsked (map (λ (p : PutPlace). Withdrawn p.circuit p.place) ps)
withdrawn-asked ps k x at un =
    (let p = At-mapped (λ (p : PutPlace). Withdrawn p.circuit p.place) ps k x at in subst (λ (z : Entry). IsUnasked z) p.2 un)

acted-asked : (core : Server) (g : Handle) (p : PutPlace) (did : Action) (rs : List RecordSide) → AreAsked (logged_by core g p did rs)
acted-asked core g p (Applies name value busies) rs = one-asked _ (λ un. un)
acted-asked core g p (action.Waits name value) rs = one-asked _ (λ un. un)
acted-asked core g p (action.Clears sid) rs = withdrawn-asked _
acted-asked core g p action.Nothing rs = none-asked
acted-asked core g p action.Greets rs = none-asked
acted-asked core g p (action.Names x) rs = none-asked
acted-asked core g p (action.Opens x) rs = none-asked
acted-asked core g p (action.Adds x) rs = none-asked
acted-asked core g p (action.Drops x) rs = none-asked
acted-asked core g p (action.Switches x) rs = none-asked

-- ---- a world's logs

abbrev TracedIn : Setting → List Event → World → Type 0
TracedIn s es w = Traced s es w.server_logs

module _ (s : Setting) (es : List Event) where
  same-traced : (w new : World) → new.server_logs ≡ w.server_logs → TracedIn s es w → TracedIn s es new
  same-traced w new is t = subst (λ (l : List (List Entry)). Traced s es l) (sym is) t

  -- circuits of a server end
  ends-traced : (w : World) (i : ℕ) (y : ServerSide) (ends : Joined → Option (List ℕ)) (core : Server) (log : List Entry) → At w.server_logs y.life log → TracedIn s es w → TracedIn s es (server_after i y ends core w)
  ends-traced w i y ends core log here t =
      traced-asked s es w.server_logs y.life (withdrawals (ends_at ends w.circuits) y.records) log here
      (withdrawn-asked (flat_map (λ (r : RecordSide). filter (λ (p : PutPlace). ends_at ends w.circuits p.circuit) r.waiting) y.records)) t

  -- ---- a step of a server's end

  acted-traced : (w : World) (k : ℕ) (j : Joined) (y : ServerSide) (did : Action) (ends : Joined → Option (List ℕ)) (core : Server) → Writes w → At w.servers j.server y → TracedIn s es w
      → TracedIn s es (server_after j.server (side_of j.server y (acted k j y did w)) ends core (acted k j y did w))
  acted-traced w k j y did ends core h at t =
      ends-traced mid j.server (side_of j.server y mid) ends core (own.0 ++ more) (subst (λ (l : ℕ). At mid.server_logs l (own.0 ++ more)) (sym (side-life w k j y did at)) (grown-here w.server_logs y.life own.0 more own.1))
      (traced-asked s es w.server_logs y.life more own.0 own.1 (acted-asked y.core j.at_server p did y.records) t)
    where
      p : PutPlace
      p = record { circuit = k; place = length j.lists.handled }

      more : List Entry
      more = logged_by y.core j.at_server p did y.records

      mid : World
      mid = acted k j y did w

      own : (log : List Entry) × At w.server_logs y.life log
      own = log-of w j.server y h at

  noted-traced : (w after : World) (k : ℕ) (j : Joined) (y : ServerSide) (replies : List Fields) → TracedIn s es after → TracedIn s es (noted k j y replies w after)
  noted-traced w after k j y replies t = go (slice_get after.circuits k)
    where
      go : (o : Option Joined) → TracedIn s es (unwrap_or (option_map (λ (c : Joined). with_circuit k (handled_at (length j.lists.handled) (record { sent = length j.lists.down; logged = server.logged y w; after = server.logged y after }) replies c) after) o) after)
      go None = t
      go (Some c) = t

  step-traced : (w new : World) (k : ℕ) (j : Joined) (y : ServerSide) (did : Stepped) → Writes w → At w.servers j.server y → ServerStepped w k j y did new → TracedIn s es w → TracedIn s es new
  step-traced w new k j y stepped.Handled h at f t =
      subst (λ (z : World). TracedIn s es z) (sym f.leaves) (noted-traced w _ k j y (f.steps.0).replies (acted-traced w k j y (f.steps.0).action (ends_by j.server f.core) f.core h at t))
  step-traced w new k j y stepped.NeedBytes h at f t = subst (λ (z : World). TracedIn s es z) (sym f.3) t
  step-traced w new k j y stepped.OutputFull h at f t = subst (λ (z : World). TracedIn s es z) (sym f.3) t
  step-traced w new k j y (stepped.Closed why.OutOfMemory left) h at f t = subst (λ (z : World). TracedIn s es z) (sym f.leaves) (go f.lacks.written)
    where
      did : Action
      did = f.lacks.next.action

      go : (o : Option (Handle → Bool)) → TracedIn s es (server_after j.server (side_of j.server y (unsaid k j y did o w)) (ends_here j left j.server f.core) f.core (unsaid k j y did o w))
      go None =
          subst (λ (z : ServerSide). TracedIn s es (server_after j.server z (ends_here j left j.server f.core) f.core w)) (sym (ap (λ (o : Option ServerSide). unwrap_or o y) at))
          (let own = log-of w j.server y h at in ends-traced w j.server y (ends_here j left j.server f.core) f.core own.0 own.1 t)
      go (Some gone) = acted-traced w k j y did (ends_here j left j.server f.core) f.core h at t
  step-traced w new k j y (stepped.Closed cause left) h at f t =
      let own = log-of w j.server y h at in
      subst (λ (z : World). TracedIn s es z) (sym f.3) (ends-traced w j.server y (ends_here j left j.server y.core) (closed j.at_server y.core) own.0 own.1 t)

-- ---- calls at a server

-- the log has this record under its name
has-named : (w : World) (i : ℕ) (y : ServerSide) (own : Lives w i y) (r : RecordSide) → In y.records r → Has own.log r.number r.name
has-named w i y own r there =
    let b = beside-right (Agrees (IsPutOf w.circuits i) own.log) y.core.records y.records there.0 r own.life.each there.1 in
    (b.2.first, b.2.added, sym (ap (λ (x : RecordState). x.name) b.2.state) ∙ b.2.name, b.2.there)

module _ (s : Setting) (es : List Event) (w new : World) (i : ℕ) (y : ServerSide) (h : Writes w) (at : At w.servers i y) (of_it : At (servers_of s es) y.life i) (t : TracedIn s es w) where
  abbrev own : Lives w i y
  own = h.lives i y at

  -- nothing was done
  refused-traced : (e : Event) → filter_map restarted (e ∷ []) ≡ [] → new ≡ w → TracedIn s (es ++ e ∷ []) new
  refused-traced e none is = same-traced s (es ++ e ∷ []) w new (ap (λ (z : World). z.server_logs) is) (traced-on s es e w.server_logs none t)

  post-traced : (name : List ℕ) (e : Elements) (mask : ℕ) → HappensPost w i y name e mask new → TracedIn s (es ++ event.Post i name e mask ∷ []) new
  post-traced name e mask (gone, core, inl (posts, is)) =
      let v : Stored = record { value = e; meta = unset } in
      let more : List Entry = posted_entry y name v mask in
      let mid : World = post_told w i y name v mask in
      let f = found (IsPutOf w.circuits i) own.log y.core.records y.records name posts.0.0 own.life.each posts.0.1 in
      let number : number_of name y.records ≡ f.r.number = ap (λ (n : List ℕ). number_of n y.records) (sym f.named) ∙ number-of y.records f.i f.r own.life.others f.in_rs in
      let has : Has own.log (number_of name y.records) name = subst (λ (p : ℕ × List ℕ). Has own.log p.0 p.1) (λ j. (sym number j, f.named j)) (has-named w i y own f.r (f.i, f.in_rs)) in
      subst (λ (z : World). TracedIn s (es ++ event.Post i name e mask ∷ []) z) (sym is)
      (ends-traced s (es ++ event.Post i name e mask ∷ []) mid i y (ends_by i core) core (own.log ++ more) (grown-here w.server_logs y.life own.log more own.at)
      (traced-made s es (event.Post i name e mask) w.server_logs y.life i (Posted (number_of name y.records) mask v) [] own.log refl own.at of_it (refl, has, refl, refl) none-asked t))
  post-traced name e mask (gone, core, inr refused) = refused-traced (event.Post i name e mask) refl refused.3

  next-asked : (r : RecordSide) (a : Option WaitingPut) (b : Option PutPlace) → AreAsked (next_entries y r a b)
  next-asked r (Some v) (Some p) = one-asked _ (λ un. un)
  next-asked r (Some v) None = none-asked
  next-asked r None (Some p) = none-asked
  next-asked r None None = none-asked

  finish-traced : (name : List ℕ) → HappensFinish w i y name new → TracedIn s (es ++ event.Finish i name ∷ []) new
  finish-traced name (inl f) =
      let next : List Entry = next_entries y f.r (first_of f.cr.waiting) (first_of f.r.waiting) in
      let more : List Entry = finish_entry f.p ∷ next in
      let told : World = finish_told w i y name f.cr f.r f.p in
      let mid : World = server.replied_at f.p f.sent told in
      let logs : mid.server_logs ≡ told.server_logs = told-logs f.p f.sent told in
      let side : ServerSide = record y { records = server.with_record name server.next_busy y.records } in
      let in_it : In y.records f.r = (f.at.0, f.at.1) in
      let b = beside-right (Agrees (IsPutOf w.circuits i) own.log) y.core.records y.records f.at.0 f.r own.life.each f.at.1 in
      let by : IsBusyWith own.log f.r.number f.p = subst (λ (o : Option PutPlace). IsBusyBy own.log f.r.number o) f.busy b.2.busy in
      let has : Has own.log f.r.number name = subst (λ (n : List ℕ). Has own.log f.r.number n) f.at.2 (has-named w i y own f.r in_it) in
      subst (λ (z : World). TracedIn s (es ++ event.Finish i name ∷ []) z) (sym f.leaves)
      (ends-traced s (es ++ event.Finish i name ∷ []) mid i side (ends_by i f.core) f.core (own.log ++ more) (subst (λ (l : List (List Entry)). At l y.life (own.log ++ more)) (sym logs) (grown-here w.server_logs y.life own.log more own.at))
      (same-traced s (es ++ event.Finish i name ∷ []) told mid logs
      (traced-made s es (event.Finish i name) w.server_logs y.life i (finish_entry f.p) next own.log refl own.at of_it (refl, (f.r.number, by.v, (by.i, by.at), has)) (next-asked f.r (first_of f.cr.waiting) (first_of f.r.waiting)) t)))
  finish-traced name (inr refused) = refused-traced (event.Finish i name) refl refused.2

  -- the records of a name are those that pass
  first-passes : (name : List ℕ) (rs : List RecordSide) (x : RecordSide) → filter (λ (r : RecordSide). bytes_eq r.name name) rs ≡ x ∷ [] → x.name ≡ name
  first-passes name [] x is = absurd cc
  first-passes name (r ∷ rs) x is = go (bytes_eq r.name name) refl (λ e. first-passes name rs x e) is
    where
      heads : (a b : RecordSide) (xs ys : List RecordSide) → a ∷ xs ≡ b ∷ ys → a ≡ b
      heads a b xs ys e = some_is a b (ap (λ (l : List RecordSide). slice_get l 0) e)

      go : (b : Bool) → bytes_eq r.name name ≡ b → (filter (λ (z : RecordSide). bytes_eq z.name name) rs ≡ x ∷ [] → x.name ≡ name) → cond b (r ∷ filter (λ (z : RecordSide). bytes_eq z.name name) rs) (filter (λ (z : RecordSide). bytes_eq z.name name) rs) ≡ x ∷ [] → x.name ≡ name
      go true passes rest e = ap (λ (z : RecordSide). z.name) (sym (heads r x _ [] e)) ∙ (bytes_eq-Decides r.name name).0 passes
      go false passes rest e = rest e

  remove-traced : (name : List ℕ) → HappensRemove w i y name new → TracedIn s (es ++ event.Remove i name ∷ []) new
  remove-traced name (gone, left, core, inl (removes, is)) =
      let side : ServerSide = record y { records = filter _ y.records } in
      let all : List Event = es ++ event.Remove i name ∷ [] in
      subst (λ (z : World). TracedIn s all z) (sym is)
      (ends-traced s all (removal_told w i y name gone left) i side (ends_by i core) core (own.log ++ removal_entries name y.records) (grown-here w.server_logs y.life own.log (removal_entries name y.records) own.at)
      (elim (one-named name y.records own.life.others) [
        | inl none ↦
            subst (λ (l : List RecordSide). Traced s all (grown y.life (flat_map entries l) w.server_logs)) (sym none)
            (traced-asked s all w.server_logs y.life [] own.log own.at none-asked (traced-on s es (event.Remove i name) w.server_logs refl t))
        | inr one ↦
            let has : Has own.log (one.0).number name = subst (λ (n : List ℕ). Has own.log (one.0).number n) (first-passes name y.records one.0 one.2) (has-named w i y own one.0 one.1) in
            subst (λ (l : List RecordSide). Traced s all (grown y.life (flat_map entries l) w.server_logs)) (sym one.2)
            (traced-made s es (event.Remove i name) w.server_logs y.life i (Removed (one.0).number) (puts one.0 ++ []) own.log refl own.at of_it (refl, has) (both-asked (puts one.0) [] (withdrawn-asked (one.0).waiting) none-asked) t)
      ]))
    where
      puts : RecordSide → List Entry
      puts r = map (λ (p : PutPlace). Withdrawn p.circuit p.place) r.waiting

      entries : RecordSide → List Entry
      entries r = Removed r.number ∷ puts r
  remove-traced name (gone, left, core, inr (removes, is)) = refused-traced (event.Remove i name) refl is

  add-traced : (r : RecordState) → HappensAdd w i y r new → TracedIn s (es ++ event.Add i r ∷ []) new
  add-traced r (core, behind, inl (adds, is)) =
      subst (λ (z : World). TracedIn s (es ++ event.Add i r ∷ []) z) (sym is)
      (traced-made s es (event.Add i r) w.server_logs y.life i (Added y.added r) [] own.log refl own.at of_it (refl, refl) none-asked t)
  add-traced r (core, behind, inr refused) = refused-traced (event.Add i r) refl refused.3

-- ---- the servers of lives

-- each server's present life is one of its own
abbrev LivesAreOf : Setting → List Event → World → Type 0
LivesAreOf s es w = (i : ℕ) (y : ServerSide) → At w.servers i y → At (servers_of s es) y.life i

-- nothing is asked of what servers know
abbrev Any : ℕ → Handle → Face → Type 0
Any i h f = Unit {0}

lives-on : (s : Setting) (es : List Event) (w new : World) (e : Event) → KeepSettings w → length (servers_of s es) ≡ length w.server_logs → Happens w e new → LivesAreOf s es w → LivesAreOf s (es ++ e ∷ []) new
lives-on s es w new e keep many happens lives = go e happens
  where
    L : Event → ℕ → ℕ → Type 0
    L e i life = At (servers_of s (es ++ e ∷ [])) life i

    faced : (e : Event) → AreFaced Any (L e) w
    faced e i y at = (record { port = (keep i y at).0; rules = (keep i y at).1; ends = λ h z has. tt }, servers-more s es e y.life i (lives i y at))

    by : (e : Event) → Calm Any (L e) w e → Happens w e new → LivesAreOf s (es ++ e ∷ []) new
    by e calm h i y at = (event-faced Any (L e) w (faced e) new e calm h i y at).1

    go : (e : Event) → Happens w e new → LivesAreOf s (es ++ e ∷ []) new
    go (event.ServerStep k) (at, (did, f)) = step did f
      where
        step : (did : Stepped) → ServerStepped w k at.j at.y did new → LivesAreOf s (es ++ event.ServerStep k ∷ []) new
        step stepped.Handled f i y there = (handled-faced Any (L (event.ServerStep k)) w new k at.j at.y at.joins.server f (faced (event.ServerStep k)) i y there).1
        step stepped.NeedBytes f i y there = (unhandled-faced Any (L (event.ServerStep k)) w (faced (event.ServerStep k)) new k at.j at.y at.joins.server stepped.NeedBytes (λ is. cc) f i y there).1
        step stepped.OutputFull f i y there = (unhandled-faced Any (L (event.ServerStep k)) w (faced (event.ServerStep k)) new k at.j at.y at.joins.server stepped.OutputFull (λ is. cc) f i y there).1
        step (stepped.Closed cause left) f i y there = (unhandled-faced Any (L (event.ServerStep k)) w (faced (event.ServerStep k)) new k at.j at.y at.joins.server (stepped.Closed cause left) (λ is. cc) f i y there).1
    go (event.ServerRestart i) h = by (event.ServerRestart i) (subst (λ (n : ℕ). At (servers_of s (es ++ event.ServerRestart i ∷ [])) n i) many (server-begun s es i)) h
    go (event.Accept n) h = by (event.Accept n) (λ i y g at may. tt) h
    go (event.Open i name priority) h = by (event.Open i name priority) tt h
    go (event.Clear i c) h = by (event.Clear i c) tt h
    go (event.Read i c data_type count) h = by (event.Read i c data_type count) tt h
    go (event.Write i c v) h = by (event.Write i c v) tt h
    go (event.WriteNotify i c v) h = by (event.WriteNotify i c v) tt h
    go (event.Subscribe i c data_type count mask) h = by (event.Subscribe i c data_type count mask) tt h
    go (event.Unsubscribe i n) h = by (event.Unsubscribe i n) tt h
    go (event.Collect i r) h = by (event.Collect i r) tt h
    go (event.GiveUp i r) h = by (event.GiveUp i r) tt h
    go (event.ClientDatagram i sender bytes) h = by (event.ClientDatagram i sender bytes) tt h
    go (event.ServerDatagram i sender bytes) h = by (event.ServerDatagram i sender bytes) tt h
    go (event.Up k n) h = by (event.Up k n) tt h
    go (event.Down k n) h = by (event.Down k n) tt h
    go (event.ClientStep k) h = by (event.ClientStep k) tt h
    go (event.Pump k) h = by (event.Pump k) tt h
    go (event.CutClient k) h = by (event.CutClient k) tt h
    go (event.CutServer k) h = by (event.CutServer k) tt h
    go (event.ClientRestart i) h = by (event.ClientRestart i) tt h
    go (event.Post i name v mask) h = by (event.Post i name v mask) tt h
    go (event.Finish i name) h = by (event.Finish i name) tt h
    go (event.Remove i name) h = by (event.Remove i name) tt h
    go (event.Add i r) h = by (event.Add i r) tt h
    go (event.Tick moment) h = by (event.Tick moment) tt h

-- ---- every event

leaves-traced : (s : Setting) (es : List Event) (w new : World) (e : Event) → AsGiven s w → Writes w → LivesAreOf s es w → (at : CanBe w e) → Leaves w e at new → TracedIn s es w → TracedIn s (es ++ e ∷ []) new
leaves-traced s es w new e g h lives at l t = go e at l
  where
    -- the logs of servers stay
    still : (e : Event) → filter_map restarted (e ∷ []) ≡ [] → new.server_logs ≡ w.server_logs → TracedIn s (es ++ e ∷ []) new
    still e none is = same-traced s (es ++ e ∷ []) w new is (traced-on s es e w.server_logs none t)

    -- an end of a circuit at a server ends, or not
    ended : (e : Event) → filter_map restarted (e ∷ []) ≡ [] → (mid : World) (i : ℕ) (y : ServerSide) (core : Server) → mid.server_logs ≡ w.server_logs → At w.servers i y → new ≡ server_after i y (ends_by i core) core mid → TracedIn s (es ++ e ∷ []) new
    ended e none mid i y core logs at is =
        let own = log-of w i y h at in
        subst (λ (z : World). TracedIn s (es ++ e ∷ []) z) (sym is)
        (ends-traced s (es ++ e ∷ []) mid i y (ends_by i core) core own.0 (subst (λ (v : List (List Entry)). At v y.life own.0) (sym logs) own.1)
        (same-traced s (es ++ e ∷ []) w mid logs (traced-on s es e w.server_logs none t)))

    go : (e : Event) (at : CanBe w e) → Leaves w e at new → TracedIn s (es ++ e ∷ []) new
    go (event.Open i name priority) at l = still (event.Open i name priority) refl (open-frame w new i at.x name priority l).logs
    go (event.Clear i c) at l = still (event.Clear i c) refl (clear-frame w new i at.x c at.h l).logs
    go (event.Read i c data_type count) at l = still (event.Read i c data_type count) refl (read-frame w new i at.x c at.h data_type count l).logs
    go (event.Write i c v) at l = still (event.Write i c v) refl (write-frame w new i at.x c at.h v l).logs
    go (event.WriteNotify i c v) at l = still (event.WriteNotify i c v) refl (put-frame w new i at.x c at.h v l).logs
    go (event.Subscribe i c data_type count mask) at l = still (event.Subscribe i c data_type count mask) refl (subscribe-frame w new i at.x c at.h data_type count mask l).logs
    go (event.Unsubscribe i n) at l = still (event.Unsubscribe i n) refl (unsubscribe-frame w new i at.x at.s l).logs
    go (event.Collect i r) at l = still (event.Collect i r) refl (handing-frame w new at.x r at.q.1 (Collected r) l).logs
    go (event.GiveUp i r) at l = still (event.GiveUp i r) refl (handing-frame w new at.x r at.q.1 (GaveUp r) l).logs
    go (event.ClientDatagram i sender bytes) at l = still (event.ClientDatagram i sender bytes) refl (datagram-frame w new i at.x sender bytes l).logs
    go (event.ServerDatagram i sender bytes) at l = still (event.ServerDatagram i sender bytes) refl (ap (λ (z : World). z.server_logs) l.2)
    go (event.Accept i) at l = elim l.leaves [
      | inl full ↦ still (event.Accept i) refl (ap (λ (z : World). z.server_logs) full.1)
      | inr made ↦ still (event.Accept i) refl (ap (λ (z : World). z.server_logs) made.6)
    ]
    go (event.Up k n) at l = still (event.Up k n) refl (ap (λ (z : World). z.server_logs) l.2 ∙ (up-frame w k n at.0.j at.0.x at.0.joins.at).logs)
    go (event.Down k n) at (mid, sent, core, taken, gives, is) = still (event.Down k n) refl (ap (λ (z : World). z.server_logs) is ∙ same taken)
      where
        same : DownTaken w k n at.0.j at.0.y mid → mid.server_logs ≡ w.server_logs
        same (inl (opened, (by, sends, same_it))) = ap (λ (z : World). z.server_logs) same_it
        same (inr (shut, same_it)) = ap (λ (z : World). z.server_logs) same_it
    go (event.ServerStep k) at l = step-traced s (es ++ event.ServerStep k ∷ []) w new k at.j at.y l.0 h at.joins.server l.1 (traced-on s es (event.ServerStep k) w.server_logs refl t)
    go (event.ClientStep k) at l = still (event.ClientStep k) refl (hear-frame w new k at.j at.x at.joins.at l).logs
    go (event.Pump k) at l = ended (event.Pump k) refl (with_circuit k (server.stamped l.updates at.j) w) at.j.server at.y l.core refl at.joins.server l.leaves
    go (event.CutClient k) at l = still (event.CutClient k) refl (cut-frame w new k at.j at.x at.joins.at l).logs
    go (event.CutServer k) at l = ended (event.CutServer k) refl w at.j.server at.y l.core refl at.joins.server l.leaves
    go (event.ClientRestart i) at l = still (event.ClientRestart i) refl (begun-frame w new i at.x l).logs
    go (event.ServerRestart i) at l =
        subst (λ (logs : List (List Entry)). Traced s (es ++ event.ServerRestart i ∷ []) logs) (sym (ap (λ (z : World). z.server_logs) l)) (traced-begun s es i at.y.setting w.server_logs (g i at.y at.at) t)
    go (event.Post i name v mask) at l = post-traced s es w new i at.y h at.at (lives i at.y at.at) t name v mask l
    go (event.Finish i name) at l = finish-traced s es w new i at.y h at.at (lives i at.y at.at) t name l
    go (event.Remove i name) at l = remove-traced s es w new i at.y h at.at (lives i at.y at.at) t name l
    go (event.Add i r) at l = add-traced s es w new i at.y h at.at (lives i at.y at.at) t r l
    go (event.Tick moment) at (mid, ticks, is) = still (event.Tick moment) refl (ap (λ (z : World). z.server_logs) is ∙ (ticks-frame moment w (clients_below (length w.clients)) mid ticks).logs)

-- ---- every run

events-traced : (s : Setting) (ok : IsSetting s) (done es : List Event) (w new : World) → FoldsTo Happens (opening s) done w → FoldsTo Happens w es new → LivesAreOf s done w → TracedIn s done w → TracedIn s (done ++ es) new
events-traced s ok done [] w new before same lives t =
    subst (λ (l : List Event). TracedIn s l new) (sym (append-nil done)) (subst (λ (z : World). TracedIn s done z) same t)
events-traced s ok done (e ∷ es) w new before (mid, one, rest) lives t =
    let runs : Runs s done None w = (w, before, refl) in
    let sound = (run-serves s done None w ok runs).stands.sound in
    subst (λ (l : List Event). TracedIn s l new) (append_assoc done (e ∷ []) es)
    (events-traced s ok (done ++ e ∷ []) es mid new (folds-snoc done (opening s) w mid e before one) rest
    (lives-on s done w mid e (run-settings s done None w ok runs) t.lives one lives)
    (leaves-traced s done w mid e sound.given sound.writes lives one.0 one.1 t))

opening-lives : (s : Setting) → LivesAreOf s [] (opening s)
opening-lives s i y at =
    let g = numbered-at (server_begun 0) s.servers 0 i y at in
    let life : y.life ≡ i = ap (λ (z : ServerSide). z.life) g.2 ∙ (let e : 0 + i ≡ i = omega arith in e) in
    subst (λ (n : ℕ). At (servers_of s []) n i) (sym life) (server-first s i (At-within s.servers i g.0 g.1))

pub run-traced : (s : Setting) (es : List Event) (stopped : Option Event) (w : World) → IsSetting s → Runs s es stopped w → ComeFromEvents s es w.server_logs
run-traced s es stopped w ok (mid, folds, stops) = (go stopped stops).comes
  where
    t : TracedIn s es mid
    t = events-traced s ok [] es (opening s) mid refl folds (opening-lives s) (traced-opening s)

    go : (stopped : Option Event) → StopsAt mid stopped w → TracedIn s es w
    go (Some (event.Tick moment)) stops = elim stops [
      | inl same ↦ subst (λ (z : World). TracedIn s es z) (sym same) t
      | inr ticked ↦ same-traced s es mid w (ticks-frame moment mid (clients_below ticked.0) w ticked.3).logs t
    ]
    go stopped stops = subst (λ (z : World). TracedIn s es z) (sym stops) t
