-- A record's busy put is finished at a server, from what its parts became.
use Rattle.std.proofs.Common.{◌≡◌, ◌∙◌, ℕ, zero, suc, ◌+◌, ◌<◌, ◌≤◌, ◌==◌, ◌&&◌, below_more, inl, inr, Bool, true, false, List, [], ◌∷◌, ◌++◌, Option, Some, None, Result, Ok, Err, drop, length, refl, sym, ap, subst, arith}
use Rattle.std.specs.Prelude.{IsErrAnd, OnOk, Vec, if◌then◌else◌, is_some, map, option_map, slice_get, slice_index_or, slice_set, unwrap_or, vec_capacity, vec_len}
use Rattle.std.specs.declared.alloc.Global.{Global}
use Rattle.std.specs.List.{fold}
use Rattle.std.specs.Str.{bytes_eq}
use Rattle.std.proofs.lemmas.List.{append-nil, length-append, length-map}
use Rattle.std.proofs.lemmas.Slice.Eq.{bytes_eq-Decides}
use Rattle.ca_arena.specs.declared.handle.Handle.{Handle}
use Rattle.ca_dbr.specs.Elements.{Elements}
use Rattle.ca_ids.specs.Table.{under}
use Rattle.ca_queue.specs.declared.entry.SubKey.{SubKey}
use Rattle.ca_queue.proofs.Circuits.{set-twice}
use Rattle.ca_records.specs.declared.puts.Put.{Put}
use Rattle.ca_records.specs.Puts.{Record, WaitingPut, record_named, written_meta}
use Rattle.ca_dbr.specs.declared.value.Meta.{Meta}
use Rattle.ca_world_servers.specs.Effects.{no_stamp}
use Rattle.ca_text.specs.declared.refusal.Refusal.{Refusal}
use Rattle.ca_text.specs.declared.refusal.Refusal.TheVariants.{NotBusy, OutOfMemory, UnknownRecord}
use Rattle.ca_text.specs.Place.{At}
use Rattle.ca_text.proofs.Places.{At-map, At-mapped, At-one, At-set, At-within, some_is}
use Rattle.ca_wire.specs.Fields.{Fields}
use Rattle.ca_wire.specs.Message.{IsMessage, spelled, spelling}
use Rattle.ca_wire.proofs.Messages.{spelling-long}
use Rattle.ca_wire.proofs.Padding.{message-of}
use Rattle.ca_model.specs.Ends as why
use Rattle.ca_model.specs.History as history
use Rattle.ca_model.specs.Server.{Ended, Open, Server, ServerCircuit}
use Rattle.ca_model.specs.ServerCalls.{Finishes, Replies, after_next, finish_reply, lacking, with_finish}
use Rattle.ca_model.specs.ServerSteps.{reached, stored_now, write_mask}
use Rattle.ca_model.specs.Speech.{In, Stored}
use Rattle.ca_model.specs.Events as event
use Rattle.ca_model.specs.Runs.{IsServer}
use Rattle.ca_model.specs.ServerEvents.{about, ending, ends_by, finish_entry, first_of, keys_concerned, next_busy, next_entries, next_numbers, numbers_posted, replied_at, reported, server_after, with_number, with_record, withdrawals, without_puts}
use Rattle.ca_model.specs.World.{PutPlace, grown}
use Rattle.ca_model.specs.World as model
use Rattle.ca_laws_parts.proofs.Fits.{empty-payload}
use Rattle.ca_laws_parts.proofs.BytesRuns as runs
use Rattle.ca_laws_parts.proofs.ServerEnds.{end-own}
use Rattle.ca_laws_parts.specs.ServerFits.{PutFits, ServersFit}
use Rattle.ca_laws_parts.proofs.WritesEvents.{find-at, found}
use Rattle.ca_laws_parts.proofs.WritesLists.{both-at}
use Rattle.ca_laws_parts.specs.Agrees.{Agrees, IsBusyAs, WaitsAs}
use Rattle.ca_laws_parts.specs.Both.{Both}
use Rattle.ca_laws_parts.specs.Lives.{CameOn, IsPutOf, LostOn}
use Rattle.ca_laws_parts.specs.Moves.{Lives}
use Rattle.ca_laws_parts.specs.Once.{Once}
use Rattle.ca_server_core.specs.Asking.{busy_value, value_busy}
use Rattle.ca_server_core.specs.ForHistories.{bytes_under}
use Rattle.ca_world.specs.Finishing.{AreBehind, Ends, Finished, FinishesAt, HasNext, HasRoomOn, IsBeside, IsBusy, IsBusyOn, IsFound, IsNext, MayFinish, TellsFinish, TellsWait, WaitIn, WaitsIn, applied_of, numbered, replied_in, with_down}
use Rattle.ca_world.specs.Whole.{IsReached}
use Rattle.ca_world.proofs.Additions.{others-apart}
use Rattle.ca_world.proofs.Postings.{each-under, ending-keeps, posted-keeps, served-posted}
use Rattle.ca_world.proofs.Counted.{run-unstamped}
use Rattle.ca_world.proofs.Downward.{at-set}
use Rattle.ca_world_data.specs.declared.client.ClientSide.{ClientSide}
use Rattle.ca_world_data.specs.declared.history.LogEntry.{LogEntry}
use Rattle.ca_world_data.specs.declared.joined.Joined.{Joined}
use Rattle.ca_world_data.specs.declared.joined.AddedSubscription.{AddedSubscription}
use Rattle.ca_world_data.specs.declared.server.PutPlace.{PutPlace as Came}
use Rattle.ca_world_data.specs.declared.server.RecordSide.{RecordSide as Held}
use Rattle.ca_world_data.specs.declared.server.ServerSide.{ServerSide}
use Rattle.ca_world_data.specs.Does.{Does}
use Rattle.ca_world_data.specs.Indexed.{AreIndexed, server_numbers}
use Rattle.ca_world_data.specs.Numbering.{AllAlike, AllMayCount, IsAlike, MayCount}
use Rattle.ca_world_data.specs.Opening.{entries_in}
use Rattle.ca_world_data.specs.Reporting.{AreServed, Reports, gone_at, waits}
use Rattle.ca_world_data.specs.Seen.{client_of, entry_of, joined_of, place_of, record_of, server_of, told_of}
use Rattle.ca_world_data.specs.ServerCuts.{HasRoomFor}
use Rattle.ca_world_data.proofs.Indexes.{KeepsEnds, ends-stay, indexed-circuit, indexed-map, indexed-server}
use Rattle.ca_world_data.proofs.Worlds.{found as looked, server-stays, set-map, world_of}
use Rattle.ca_world_data.proofs.Silences.{grown-twice}

-- ---- the value of a put that waits

-- no entry before this one tells of the put, nor does this one
pub none-told : (log : List history.Entry) (p : PutPlace) (n : ℕ) (here : history.Entry) → ((place : ℕ) → place < n → (e : history.Entry) → At log place e → WaitIn e p None) → At log n here → WaitIn here p None
    → (place : ℕ) → place < n + 1 → (e : history.Entry) → At log place e → WaitIn e p None
none-told log p n here before at not =
    below_more (λ (place : ℕ). (e : history.Entry) → At log place e → WaitIn e p None) n before (λ e there. subst (λ (z : history.Entry). WaitIn z p None) (At-one log n here e at there) not)

-- what an entry says, if no value was found
pub wait-none : {A : Type 0} (f : A → Elements) (e : history.Entry) (p : PutPlace) (o : Option A) → o ≡ None → WaitIn e p (option_map f o) → WaitIn e p None
wait-none f e p o is tells = subst (λ (x : Option _). WaitIn e p (option_map f x)) is tells

-- and if one was
pub wait-found : {A : Type 0} (f : A → Elements) (e : history.Entry) (p : PutPlace) (o : Option A) (v : A) → o ≡ Some v → WaitIn e p (option_map f o) → TellsWait e p (f v)
wait-found f e p o v is tells = subst (λ (x : Option _). WaitIn e p (option_map f x)) is tells

-- and a log
pub waits-found : {A : Type 0} (f : A → Elements) (log : List history.Entry) (p : PutPlace) (o : Option A) (v : A) → o ≡ Some v → WaitsIn log p (option_map f o) → WaitsIn log p (Some (f v))
waits-found f log p o v is tells = subst (λ (x : Option _). WaitsIn log p (option_map f x)) is tells

-- The log that was looked at is that of the life, and tells of the put that waits first.
pub next-log : (logs : List (Vec LogEntry Global)) (life : ℕ) (ps : List PutPlace) (p : PutPlace) (log any : Vec LogEntry Global) → HasNext (entries_in logs) life ps → first_of ps ≡ Some p → log ≡ slice_index_or logs life any
    → At (entries_in logs) life (map entry_of log.items) × ((e : history.Entry) × (value : Elements) × In (map entry_of log.items) e × TellsWait e p value)
next-log logs life ps p log any has first is =
    let (value, (told, there, (q, q_first, (e, in_log, tells)))) = has p first in
    let within : life < length (entries_in logs) = At-within (entries_in logs) life told there in
    let long : length (entries_in logs) ≡ length logs = length-map logs (λ (l : Vec LogEntry Global). map entry_of l.items) in
    let at : At (entries_in logs) life (map entry_of log.items) = At-map (λ (l : Vec LogEntry Global). map entry_of l.items) logs life log (looked logs life log any (omega (arith, within, long)) is) in
    let same : told ≡ map entry_of log.items = At-one (entries_in logs) life told (map entry_of log.items) there at in
    let one : q ≡ p = some_is q p (sym q_first ∙ first) in
    (at, (e, value, subst (λ (l : List history.Entry). In l e) same in_log, subst (λ (z : PutPlace). TellsWait e z value) one tells))

-- ---- logs

-- ---- the bytes of a circuit

bytes-lacking : (gone : Handle → Bool) (h : Handle) (o : Option ServerCircuit) → bytes_under (option_map (lacking gone h) o) ≡ bytes_under o
bytes-lacking gone h None = refl
bytes-lacking gone h (Some (Ended w left)) = refl
bytes-lacking gone h (Some (Open e)) = go (gone h)
  where
    go : (b : Bool) → bytes_under (Some (if b then Ended why.OutOfMemory e.link.output else Open e)) ≡ e.link.output
    go true = refl
    go false = refl

bytes-reached : (name : List ℕ) (mask : ℕ) (v : Stored) (gone : Handle → Bool) (h : Handle) (o : Option ServerCircuit) → bytes_under (option_map (reached name mask v gone h) o) ≡ bytes_under o
bytes-reached name mask v gone h None = refl
bytes-reached name mask v gone h (Some (Ended w left)) = refl
bytes-reached name mask v gone h (Some (Open e)) = go (gone h)
  where
    go : (b : Bool) → bytes_under (Some (if b then Ended why.OutOfMemory e.link.output else Open (Rattle.ca_model.specs.Server.with_post name mask v e))) ≡ e.link.output
    go true = refl
    go false = refl

-- the next put leaves them as they are
bytes-next : (name : List ℕ) (ws : List WaitingPut) (gone : Handle → Bool) (y : Server) (h : Handle) → bytes_under (under (after_next name ws gone y).circuits h) ≡ bytes_under (under y.circuits h)
bytes-next name [] gone y h = ap bytes_under (each-under (lacking gone) y.circuits h) ∙ bytes-lacking gone h (under y.circuits h)
bytes-next name (w ∷ ws) gone y h =
    ap bytes_under (each-under (reached name write_mask (stored_now y w.value) gone) y.circuits h) ∙ bytes-reached name write_mask (stored_now y w.value) gone h (under y.circuits h)

busy-one : (y : Server) (name : List ℕ) (r : Record) (p b : Put) → record_named y.records name ≡ Some r → r.busy ≡ Some p → IsBusy y name b → p ≡ b
busy-one y name r p b named busy is =
    let same : r ≡ is.c = some_is r is.c (sym named ∙ is.named) in
    some_is p b (sym busy ∙ ap (λ (z : Record). z.busy) same ∙ is.busy)

-- the reply is after what waited
pub finish-behind : (y core : Server) (name : List ℕ) (sent : List (Handle × Fields)) (b : Put) → Finishes y name sent (Ok tt) core → IsBusy y name b → IsMessage (finish_reply b)
    → AreBehind (length (bytes_under (under y.circuits b.circuit))) (bytes_under (under core.circuits b.circuit)) (map (λ (s : Handle × Fields). s.1) sent)
finish-behind y core name sent b (f, mid, replies, core_is) is fits =
    go (subst (λ (p : Put). Replies (with_finish name f.r y) p f.gone sent mid) (busy-one y name f.r f.p b f.named f.busy is) replies)
  where
    begun : List ℕ
    begun = bytes_under (under y.circuits b.circuit)

    last : bytes_under (under core.circuits b.circuit) ≡ bytes_under (under mid.circuits b.circuit)
    last = ap (λ (z : Server). bytes_under (under z.circuits b.circuit)) core_is ∙ bytes-next name f.r.waiting f.gone mid b.circuit

    bodies : List (Handle × Fields) → List Fields
    bodies s = map (λ (z : Handle × Fields). z.1) s

    go : Replies (with_finish name f.r y) b f.gone sent mid → AreBehind (length begun) (bytes_under (under core.circuits b.circuit)) (bodies sent)
    go (inl (e, awaited, sent_is, mid_is)) =
        let m : Fields = finish_reply b in
        let there : under mid.circuits b.circuit ≡ Some (Open (record e { link = Rattle.ca_link.specs.Link.with_sent (m ∷ []) e.link })) =
        ap (λ (z : Server). under z.circuits b.circuit) mid_is ∙ end-own (with_finish name f.r y) b.circuit e _ awaited.0 in
        let here : e.link.output ≡ begun = sym (ap bytes_under awaited.0) in
        record {
          begun = begun;
          long = refl;
          are = last ∙ ap bytes_under there ∙ ap (λ (z : List ℕ). z ++ spelled (m ∷ [])) here ∙ sym (ap (λ (s : List (Handle × Fields)). begun ++ spelled (bodies s)) sent_is);
          few = inr (m, ap bodies sent_is, fits, refl);
        }
    go (inr (why_not, sent_is, mid_is)) = record {
      begun = begun;
      long = refl;
      are = last ∙ ap (λ (z : Server). bytes_under (under z.circuits b.circuit)) mid_is ∙ sym (append-nil begun) ∙ sym (ap (λ (s : List (Handle × Fields)). begun ++ spelled (bodies s)) sent_is);
      few = inl (ap bodies sent_is);
    }

-- if no more bytes wait than before, none is after
pub none-behind : (waited : ℕ) (bytes : List ℕ) (ms : List Fields) → AreBehind waited bytes ms → length bytes ≤ waited → ms ≡ []
none-behind waited bytes ms behind few = elim behind.few [
  | inl none ↦ none
  | inr one ↦
      let are : bytes ≡ behind.begun ++ spelled (one.0 ∷ []) = behind.are ∙ ap (λ (z : List Fields). behind.begun ++ spelled z) one.1 in
      let all : length bytes ≡ length behind.begun + length (spelled (one.0 ∷ [])) = ap length are ∙ length-append behind.begun (spelled (one.0 ∷ [])) in
      let size : length (spelled (one.0 ∷ [])) ≡ length (spelling one.0) = ap length (append-nil (spelling one.0)) in
      let long : 16 + length one.0.payload ≤ length (spelling one.0) = spelling-long one.0 in
      let begun : length behind.begun ≡ waited = behind.long in
      absurd (omega (arith, all, size, long, begun, few))
]

-- ---- circuits

-- a circuit, whose messages down are others, has the same numbers
down-number : (d : List history.Told) (keys : List SubKey) (j : model.Joined) → fold with_number (with_down d j) keys ≡ with_down d (fold with_number j keys)
down-number d [] j = refl
down-number d (key ∷ keys) j = down-number d keys (with_number j key)

same-down : (keys : List SubKey) (j : model.Joined) → (fold with_number j keys).lists.down ≡ j.lists.down
same-down [] j = refl
same-down (key ∷ keys) j = same-down keys (with_number j key)

map-same : {A : Type 0} (f : A → A) (xs : List A) → ((x : A) → f x ≡ x) → map f xs ≡ xs
map-same f [] same = refl
map-same f (x ∷ xs) same = (λ t. same x t ∷ map-same f xs same t)

-- ---- refusals

-- a record whose busy value is known is busy
pub is-busy : (y : Server) (name : List ℕ) (e : Elements) → busy_value y name ≡ Some e → (b : Put) × IsBusy y name b
is-busy y name e some = go (record_named y.records name) refl some
  where
    on : (c : Record) → record_named y.records name ≡ Some c → (o : Option Put) → c.busy ≡ o → (if is_some o then Some c.state.value else None) ≡ Some e → (b : Put) × IsBusy y name b
    on c named None busy some = absurd cc
    on c named (Some b) busy some = (b, record { c = c; named = named; busy = busy })

    go : (o : Option Record) → record_named y.records name ≡ o → value_busy o ≡ Some e → (b : Put) × IsBusy y name b
    go None named some = absurd cc
    go (Some c) named some = on c named c.busy refl some

-- a record that is not busy is refused
pub refuses : (y : Server) (name : List ℕ) → busy_value y name ≡ None → (e : Refusal) × Finishes y name [] (Err e) y
refuses y name none = go (record_named y.records name) refl none
  where
    on : (c : Record) → record_named y.records name ≡ Some c → (o : Option Put) → c.busy ≡ o → (if is_some o then Some c.state.value else None) ≡ None → (e : Refusal) × Finishes y name [] (Err e) y
    on c named None busy none = (NotBusy, ((c, named, busy), refl, refl))
    on c named (Some b) busy none = absurd cc

    go : (o : Option Record) → record_named y.records name ≡ o → value_busy o ≡ None → (e : Refusal) × Finishes y name [] (Err e) y
    go None named none = (UnknownRecord, (named, refl, refl))
    go (Some c) named none = on c named c.busy refl none

-- ---- in every run

abbrev value-waits : history.Entry → Elements → Elements
value-waits (history.Waits n k r v) e = v.value
value-waits entry e = e

module _ (w : model.World) (i : ℕ) (y : model.ServerSide) (name : List ℕ) (at_run : IsReached w) (fit : ServersFit w) (at : At w.servers i y) where
  l : Lives w i y
  l = (runs.reached w (at_run.0, at_run.1, None, at_run.2, (w, at_run.3, refl))).1.sound.writes.lives i y at

  -- the log of its life says what the two records are
  agree-beside : (c : Record) (r : model.RecordSide) → IsBeside y.core y.records name c r → Agrees (IsPutOf w.circuits i) l.log c r
  agree-beside c r (named, (place, in_rs, is_name)) =
      let f = found (IsPutOf w.circuits i) l.log y.core.records y.records name c l.life.each named in
      let one : f.i ≡ place = others-apart y.records l.life.others f.i place f.r r f.in_rs in_rs (f.named ∙ sym is_name) in
      both-at (Agrees (IsPutOf w.circuits i) l.log) y.core.records y.records place c r l.life.each (subst (λ (n : ℕ). At y.core.records n c) one f.in_cs) in_rs

  first-value : (c : Record) (r : model.RecordSide) (value : Option Elements) → Both (WaitsAs (IsPutOf w.circuits i) l.log r.number) r.waiting c.waiting → IsNext w.server_logs y.life r.waiting value
      → option_map (λ (z : WaitingPut). z.value) (first_of c.waiting) ≡ value
  first-value c r value = go r.waiting c.waiting value
    where
      go : (ps : List PutPlace) (ws : List WaitingPut) (value : Option Elements) → Both (WaitsAs (IsPutOf w.circuits i) l.log r.number) ps ws → IsNext w.server_logs y.life ps value
          → option_map (λ (z : WaitingPut). z.value) (first_of ws) ≡ value
      go [] [] None both next = refl
      go [] [] (Some v) both (log, there, (p, first, rest)) = absurd cc
      go [] (w ∷ ws) value both next = absurd both
      go (p ∷ ps) [] value both next = absurd both
      go (p ∷ ps) (x ∷ ws) None both next = absurd cc
      go (p ∷ ps) (x ∷ ws) (Some v) both (log, there, (q, first, (e, (n, in_log), (r', v', e_is, v_is)))) =
          let came = both.0.0 in
          let same_log : log ≡ l.log = At-one w.server_logs y.life log l.log there l.at in
          let same : q ≡ p = sym (some_is p q first) in
          let in_life : At l.log n (history.Waits p.circuit p.place r' v') = subst (λ (z : List history.Entry × history.Entry). At z.0 n z.1) (λ t. (same_log t, (e_is ∙ (λ s. history.Waits (same s).circuit (same s).place r' v')) t)) in_log in
          let once : Once (CameOn w.circuits y.life) (LostOn w.circuits) l.log = l.life.once in
          let place : n ≡ came.came.0 = once.waits n came.came.0 p.circuit p.place r' r.number v' came.v in_life came.came.1 in
          let is : history.Waits p.circuit p.place r' v' ≡ history.Waits p.circuit p.place r.number came.v =
          At-one l.log n _ _ in_life (subst (λ (k : ℕ). At l.log k (history.Waits p.circuit p.place r.number came.v)) (sym place) came.came.1) in
          ap (λ (z : Elements). Some z) (sym came.with_it ∙ sym (ap (λ (z : history.Entry). value-waits z v) is) ∙ v_is)

  -- the log tells of the put that waits first
  first-told : (c : Record) (r : model.RecordSide) → Both (WaitsAs (IsPutOf w.circuits i) l.log r.number) r.waiting c.waiting → HasNext w.server_logs y.life r.waiting
  first-told c r both p first = go r.waiting c.waiting both first
    where
      go : (ps : List PutPlace) (ws : List WaitingPut) → Both (WaitsAs (IsPutOf w.circuits i) l.log r.number) ps ws → first_of ps ≡ Some p → (value : Elements) × IsNext w.server_logs y.life ps (Some value)
      go [] ws both first = absurd cc
      go (q ∷ ps) [] both first = absurd both
      go (q ∷ ps) (x ∷ ws) both first =
          let came = both.0.0 in
          let e : history.Entry = history.Waits q.circuit q.place r.number came.v in
          (came.v.value, (l.log, l.at, (q, refl, (e, (came.came.0, came.came.1), (r.number, came.v, refl, refl)))))

  -- the circuit of a busy put is there
  busy-place : (b : Put) (o : Option PutPlace) → IsBusyAs (IsPutOf w.circuits i) o (Some b) → (p : PutPlace) × (j : model.Joined) × (o ≡ Some p) × At w.circuits p.circuit j
  busy-place b None is = absurd is
  busy-place b (Some p) is = (p, is.c, refl, is.on)

  pub run-may-finish : MayFinish name y w.circuits w.server_logs
  run-may-finish = record {
    there = λ c b named cb.
        let f = found (IsPutOf w.circuits i) l.log y.core.records y.records name c l.life.each named in
        (f.r, (named, (f.i, f.in_rs, f.named)));
    placed = λ c r b beside cb. busy-place b r.busy (subst (λ (z : Option Put). IsBusyAs (IsPutOf w.circuits i) r.busy z) cb (agree-beside c r beside).busy_as);
    handle = λ c r b p j beside cb rb there.
        let g = agree-beside c r beside in
        let is : IsPutOf w.circuits i p b = subst (λ (z : Option PutPlace × Option Put). IsBusyAs (IsPutOf w.circuits i) z.0 z.1) (λ t. (rb t, cb t)) g.busy_as in
        sym (is.handle ∙ ap (λ (z : model.Joined). z.at_server) (At-one w.circuits p.circuit is.c j is.on there));
    fits = λ c b named cb.
        let f = find-at (λ (r : Record). bytes_eq r.state.name name) y.core.records c named in
        let p : PutFits b = ((fit.cores i y at).records f.0 c f.1).busy b cb in
        message-of (finish_reply b) (omega arith) p.0 p.1 (omega arith) p.2 empty-payload;
    told = λ c r beside. first-told c r (agree-beside c r beside).each;
    next = λ c r value beside next. first-value c r value (agree-beside c r beside).each next;
    unstamped = run-unstamped w at_run i y at;
  }

-- ---- circuits and their numbers

-- what becomes of one circuit
abbrev if_waits : Bool → (i : ℕ) → Server → (name : List ℕ) → model.Joined → model.Joined
if_waits waits i core name j = if waits then numbers_posted i core name write_mask j else j

numbered-map : (waits : Bool) (i : ℕ) (core : Server) (name : List ℕ) (ks : List model.Joined) → numbered waits i core name ks ≡ map (if_waits waits i core name) ks
numbered-map true i core name ks = refl
numbered-map false i core name ks = sym (map-same (λ j. j) ks (λ j. refl))

-- the circuit with other messages down has the same numbers
down-posted : (d : List history.Told) (i : ℕ) (core : Server) (name : List ℕ) (j : model.Joined) → numbers_posted i core name write_mask (with_down d j) ≡ with_down d (numbers_posted i core name write_mask j)
down-posted d i core name j = go (j.server == i && j.lists.server_open)
  where
    keys : List SubKey
    keys = keys_concerned name write_mask (under core.circuits j.at_server)

    go : (b : Bool) → (if b then fold with_number (with_down d j) keys else with_down d j) ≡ with_down d (if b then fold with_number j keys else j)
    go true = down-number d keys j
    go false = refl

down-numbers : (waits : Bool) (d : List history.Told) (i : ℕ) (core : Server) (name : List ℕ) (j : model.Joined) → if_waits waits i core name (with_down d j) ≡ with_down d (if_waits waits i core name j)
down-numbers true d i core name j = down-posted d i core name j
down-numbers false d i core name j = refl

down-kept : (waits : Bool) (i : ℕ) (core : Server) (name : List ℕ) (j : model.Joined) → (if_waits waits i core name j).lists.down ≡ j.lists.down
down-kept true i core name j = go (j.server == i && j.lists.server_open)
  where
    keys : List SubKey
    keys = keys_concerned name write_mask (under core.circuits j.at_server)

    go : (b : Bool) → (if b then fold with_number j keys else j).lists.down ≡ j.lists.down
    go true = same-down keys j
    go false = refl
down-kept false i core name j = refl

-- the circuits are alike still without messages on one of them
alike-header_only : (i : ℕ) (core : Server) (ks : List model.Joined) (k : ℕ) (j : model.Joined) (d : List history.Told) → At ks k j → AllAlike i core ks → AllAlike i core (slice_set ks k (with_down d j))
alike-header_only i core ks k j d at all n c there mine on = elim (At-set ks k (with_down d j) n c there) [
  | inl here ↦
      let a : IsAlike (under core.circuits j.at_server) j = all k j at (sym (ap (λ (z : model.Joined). z.server) here.1) ∙ mine) (sym (ap (λ (z : model.Joined). z.lists.server_open) here.1) ∙ on) in
      subst (λ (z : model.Joined). IsAlike (under core.circuits z.at_server) z) (sym here.1) (header_only (under core.circuits j.at_server) a)
  | inr other ↦ all n c other.0 mine on
]
  where
    header_only : (o : Option ServerCircuit) → IsAlike o j → IsAlike o (with_down d j)
    header_only None a = tt
    header_only (Some (Ended cause left)) a = tt
    header_only (Some (Open e)) a = record { keys = a.keys; apart = a.apart; queues = a.queues }

-- the reply on its circuit
replied-there : (p : PutPlace) (sent : List (Handle × Fields)) (ks : List model.Joined) (j : model.Joined) → At ks p.circuit j
    → replied_in p sent ks ≡ slice_set ks p.circuit (with_down (j.lists.down ++ about p.place history.Reply (map (λ (s : Handle × Fields). s.1) sent)) j)
replied-there p sent ks j at = ap (λ (o : Option model.Joined). unwrap_or (option_map (λ (c : model.Joined). slice_set ks p.circuit (with_down (c.lists.down ++ about p.place history.Reply (map (λ (s : Handle × Fields). s.1) sent)) c)) o) ks) at

-- Numbers wait on circuits, of which one has its messages held aside; it has them
-- again, and the reply.
pub set-aside : (waits : Bool) (i : ℕ) (core : Server) (name : List ℕ) (p : PutPlace) (sent : List (Handle × Fields)) (ks header_only after last : List model.Joined) (j c : model.Joined) (told : List history.Told) → At ks p.circuit j
    → header_only ≡ slice_set ks p.circuit (with_down [] j) → after ≡ numbered waits i core name header_only → At after p.circuit c → told ≡ j.lists.down ++ about p.place history.Reply (map (λ (s : Handle × Fields). s.1) sent)
    → last ≡ slice_set after p.circuit (with_down told c) → last ≡ replied_in p sent (numbered waits i core name ks)
set-aside waits i core name p sent ks header_only after last j c told at bare_is after_is there told_is last_is =
    let f : model.Joined → model.Joined = if_waits waits i core name in
    let k : ℕ = p.circuit in
    let reply : List history.Told = about p.place history.Reply (map (λ (s : Handle × Fields). s.1) sent) in
    let is : after ≡ slice_set (map f ks) k (with_down [] (f j)) =
    after_is ∙ numbered-map waits i core name header_only ∙ ap (map f) bare_is ∙ set-map f ks k (with_down [] j) ∙ ap (slice_set (map f ks) k) (down-numbers waits [] i core name j) in
    let mapped : At (map f ks) k (f j) = At-map f ks k j at in
    let c_is : c ≡ with_down [] (f j) = At-one after k c (with_down [] (f j)) there (subst (λ (z : List model.Joined). At z k (with_down [] (f j))) (sym is) (at-set (map f ks) k (f j) (with_down [] (f j)) mapped)) in
    last_is ∙ (λ t. slice_set (is t) k (with_down told (c_is t))) ∙ set-twice (map f ks) k (with_down [] (f j)) (with_down told (f j))
    ∙ ap (λ (d : List history.Told). slice_set (map f ks) k (with_down d (f j))) (told_is ∙ ap (λ (d : List history.Told). d ++ reply) (sym (down-kept waits i core name j)))
    ∙ sym (replied-there p sent (map f ks) (f j) mapped)
    ∙ ap (replied_in p sent) (sym (numbered-map waits i core name ks))

-- ---- circuits of the world

-- one more post may be counted still, if the subscriptions of a circuit are as they were
pub counts-set : (ks : List Joined) (k : ℕ) (j new : Joined) → At ks k j → new.standing ≡ j.standing → AllMayCount ks → AllMayCount (slice_set ks k new)
counts-set ks k j new at same all n c there = elim (At-set ks k new n c there) [
  | inl here ↦ subst (λ (z : Vec AddedSubscription Global). MayCount z.items) (sym (ap (λ (z : Joined). z.standing) here.1 ∙ same)) (all k j at)
  | inr other ↦ all n c other.0
]

-- the circuit of this place has room now
pub room-set : (ks : List Joined) (k : ℕ) (new : Joined) → vec_len new.lists.down < vec_capacity new.lists.down → HasRoomOn k (slice_set ks k new)
room-set [] k new room j at = absurd cc
room-set (x ∷ ks) zero new room j at = subst (λ (z : Joined). vec_len z.lists.down < vec_capacity z.lists.down) (some_is new j at) room
room-set (x ∷ ks) (suc k) new room j at = room-set ks k new room j at

-- what holds holds if a result is Ok
pub on-ok : {A E : Type 0} (r : Result A E) (P : Type 0) → P → OnOk r P
on-ok (Ok v) P p = p
on-ok (Err e) P p = tt

pub on-ok-then : {A E : Type 0} (r : Result A E) (P Q : Type 0) → (P → Q) → OnOk r P → OnOk r Q
on-ok-then (Ok v) P Q f p = f p
on-ok-then (Err e) P Q f p = tt

-- room for as many entries is room for fewer
pub entries-fewer : (n m life : ℕ) (logs : List (Vec LogEntry Global)) → m ≤ n → HasRoomFor n life logs → HasRoomFor m life logs
entries-fewer n m life logs few room log at = (let had = room log at in omega (arith, had, few))

-- the circuits, of which one has its messages down held aside
pub header_only-is : (ks : List Joined) (k : ℕ) (j new : Joined) → joined_of new ≡ with_down [] (joined_of j) → map joined_of (slice_set ks k new) ≡ slice_set (map joined_of ks) k (with_down [] (joined_of j))
header_only-is ks k j new is = set-map joined_of ks k new ∙ ap (slice_set (map joined_of ks) k) is

-- they are alike still
pub header_only-alike : (i : ℕ) (core : Server) (ks : List Joined) (k : ℕ) (j new : Joined) → At ks k j → joined_of new ≡ with_down [] (joined_of j) → AllAlike i core (map joined_of ks) → AllAlike i core (map joined_of (slice_set ks k new))
header_only-alike i core ks k j new at is all =
    subst (AllAlike i core) (sym (header_only-is ks k j new is)) (alike-header_only i core (map joined_of ks) k (joined_of j) [] (At-map joined_of ks k j at) all)

-- on the circuit of the busy put the reply is after what waited
pub reply-behind : (y core : Server) (name : List ℕ) (k waited : ℕ) (ks : List model.Joined) (j : model.Joined) (sent : List (Handle × Fields)) → IsBusyOn y name k ks → At ks k j → waited ≡ length (bytes_under (under y.circuits j.at_server)) → Finishes y name sent (Ok tt) core
    → AreBehind waited (bytes_under (under core.circuits j.at_server)) (map (λ (s : Handle × Fields). s.1) sent)
reply-behind y core name k waited ks j sent busy at long finishes =
    let h : j.at_server ≡ busy.b.circuit = ap (λ (z : model.Joined). z.at_server) (At-one ks k j busy.j at busy.at) ∙ busy.handle in
    let size : waited ≡ length (bytes_under (under y.circuits busy.b.circuit)) = long ∙ ap (λ (g : Handle). length (bytes_under (under y.circuits g))) h in
    subst (λ (z : ℕ × Handle). AreBehind z.0 (bytes_under (under core.circuits z.1)) (map (λ (s : Handle × Fields). s.1) sent)) (λ t. (sym size t, sym h t)) (finish-behind y core name sent busy.b finishes busy.is busy.fits)

-- What the core, the numbers and the reply leave is a finish.
pub finished-on : (i : ℕ) (y core : Server) (name : List ℕ) (put : Came) (waits : Bool) (sent : List (Handle × Fields)) (ks after : List Joined) (j header_only c last : Joined) (told : List history.Told) → Finishes y name sent (Ok tt) core
    → At ks put.circuit j → joined_of header_only ≡ with_down [] (joined_of j) → map joined_of after ≡ numbered waits i y name (map joined_of (slice_set ks put.circuit header_only)) → At after put.circuit c
    → told ≡ map told_of j.lists.down.items ++ about put.place history.Reply (map (λ (s : Handle × Fields). s.1) sent) → joined_of last ≡ with_down told (joined_of c)
    → Finished i name (place_of put) waits y (map joined_of ks) core (map joined_of (slice_set after put.circuit last))
finished-on i y core name put waits sent ks after j header_only c last told finishes at bare_is after_is there told_is last_is = record {
  sent = sent;
  finishes = finishes;
  circuits =
      set-aside waits i y name (place_of put) sent (map joined_of ks) (map joined_of (slice_set ks put.circuit header_only)) (map joined_of after) (map joined_of (slice_set after put.circuit last)) (joined_of j) (joined_of c) told
      (At-map joined_of ks put.circuit j at) (header_only-is ks put.circuit j header_only bare_is) after_is (At-map joined_of after put.circuit c there) told_is
      (set-map joined_of after put.circuit last ∙ ap (slice_set (map joined_of after) put.circuit) last_is);
}

-- a property of circuits that the reply and the numbers keep
module _ (p : PutPlace) (sent : List (Handle × Fields)) where
  abbrev said : model.Joined → model.Joined
  said j = with_down (j.lists.down ++ about p.place history.Reply (map (λ (s : Handle × Fields). s.1) sent)) j

  said-keeps : (j : model.Joined) → KeepsEnds j (said j)
  said-keeps j = record { client = refl; server = refl; at_client = refl; at_server = refl; closes = λ on. on; stops = λ on. on }

  -- the server finds its circuits still
  pub served-replied : (own : List ℕ) (i : ℕ) (ks : List model.Joined) → AreServed own ks i → AreServed own (replied_in p sent ks) i
  served-replied own i ks served = go (slice_get ks p.circuit) refl
    where
      go : (o : Option model.Joined) → slice_get ks p.circuit ≡ o → AreServed own (unwrap_or (option_map (λ (j : model.Joined). slice_set ks p.circuit (said j)) o) ks) i
      go None is = served
      go (Some j) is = λ k c there mine on. elim (At-set ks p.circuit (said j) k c there) [
        | inl here ↦
            subst (λ (z : ℕ × Handle). At own z.1.index z.0) (λ t. (sym here.0 t, (sym here.1 t).at_server))
            (served p.circuit j is (sym (ap (λ (z : model.Joined). z.server) here.1) ∙ mine) (sym (ap (λ (z : model.Joined). z.lists.server_open) here.1) ∙ on))
        | inr other ↦ served k c other.0 mine on
      ]

  pub indexed-replied : (cs ss : List (List ℕ)) (ks : List model.Joined) → AreIndexed cs ss ks → AreIndexed cs ss (replied_in p sent ks)
  indexed-replied cs ss ks h = go (slice_get ks p.circuit) refl
    where
      go : (o : Option model.Joined) → slice_get ks p.circuit ≡ o → AreIndexed cs ss (unwrap_or (option_map (λ (j : model.Joined). slice_set ks p.circuit (said j)) o) ks)
      go None is = h
      go (Some j) is = indexed-circuit cs ss ks h p.circuit j (said j) is (said-keeps j)

  replied-is : (w : model.World) → replied_at p sent w ≡ record w { circuits = replied_in p sent w.circuits }
  replied-is w = go (slice_get w.circuits p.circuit)
    where
      go : (o : Option model.Joined) → unwrap_or (option_map (λ (j : model.Joined). model.with_circuit p.circuit (said j) w) o) w ≡ record w { circuits = unwrap_or (option_map (λ (j : model.Joined). slice_set w.circuits p.circuit (said j)) o) w.circuits }
      go None = refl
      go (Some j) = refl

-- the server finds its circuits still, once numbers wait on them
pub served-numbered : (waits : Bool) (i : ℕ) (core : Server) (name : List ℕ) (own : List ℕ) (ks : List model.Joined) → AreServed own ks i → AreServed own (numbered waits i core name ks) i
served-numbered true i core name own ks served = served-posted i core name write_mask own ks served
served-numbered false i core name own ks served = served

-- ---- the next put

-- by the core's records, as by those beside them
pub numbers-next : (i : ℕ) (core : Server) (name : List ℕ) (ws : List WaitingPut) (next : Option PutPlace) (value : Option Elements) (ks : List model.Joined) → option_map (λ (w : WaitingPut). w.value) (first_of ws) ≡ value → is_some next ≡ is_some value
    → numbered (is_some next) i core name ks ≡ map (next_numbers i core name ws) ks
numbers-next i core name [] next (Some v) ks is alike = absurd cc
numbers-next i core name [] next None ks is alike = ap (λ (b : Bool). numbered b i core name ks) alike ∙ sym (map-same (next_numbers i core name []) ks (λ j. refl))
numbers-next i core name (w ∷ ws) next None ks is alike = absurd cc
numbers-next i core name (w ∷ ws) next (Some v) ks is alike = ap (λ (b : Bool). numbered b i core name ks) alike

pub entries-next : (y : model.ServerSide) (r : model.RecordSide) (o : Option WaitingPut) (next : Option PutPlace) (value : Option Elements) → y.core.stamp ≡ record { seconds = 0; nanos = 0 } → option_map (λ (w : WaitingPut). w.value) o ≡ value
    → applied_of r.number next value ≡ next_entries y r o next
entries-next y r None None value header_only is = refl
entries-next y r None (Some p) None header_only is = refl
entries-next y r None (Some p) (Some v) header_only is = absurd cc
entries-next y r (Some w) None value header_only is = refl
entries-next y r (Some w) (Some p) None header_only is = absurd cc
entries-next y r (Some w) (Some p) (Some v) header_only is =
    (λ t. history.Applied p.circuit p.place r.number (record { value = sym (some_is w.value v is) t; meta = written_meta (sym (some_is w.value v is) t) (sym header_only t) }) true ∷ [])

pub some-mapped : {A B : Type 0} (f : A → B) (o : Option A) → is_some (option_map f o) ≡ is_some o
some-mapped f None = refl
some-mapped f (Some x) = refl

-- both or neither
pub next-both : (logs : List (List history.Entry)) (life : ℕ) (ps : List PutPlace) (value : Option Elements) → IsNext logs life ps value → is_some (first_of ps) ≡ is_some value
next-both logs life [] None next = refl
next-both logs life [] (Some v) (log, there, (p, first, rest)) = absurd cc
next-both logs life (p ∷ ps) None next = absurd cc
next-both logs life (p ∷ ps) (Some v) next = refl

-- a put that is applied next is told after the finish
pub entries-two : (life number : ℕ) (p first : model.PutPlace) (value : Elements) (meta : Meta) (next : Option model.PutPlace) (some : Option Elements) (was mid now : List (List history.Entry)) → meta ≡ written_meta value no_stamp → next ≡ Some first → some ≡ Some value
    → mid ≡ grown life (finish_entry p ∷ []) was → now ≡ grown life (history.Applied first.circuit first.place number (record { value = value; meta = meta }) true ∷ []) mid
    → now ≡ grown life (finish_entry p ∷ applied_of number next some) was
entries-two life number p first value meta next some was mid now meta_is is some_is mid_is now_is =
    let last : history.Entry = history.Applied first.circuit first.place number (record { value = value; meta = meta }) true in
    now_is ∙ ap (grown life (last ∷ [])) mid_is ∙ grown-twice life (finish_entry p ∷ []) (last ∷ []) was
    ∙ (λ t. grown life (finish_entry p ∷ history.Applied first.circuit first.place number (record { value = value; meta = meta_is t }) true ∷ []) was)
    ∙ (λ t. grown life (finish_entry p ∷ applied_of number (sym is t) (sym some_is t)) was)

-- ---- how many wait

abbrev waits_by : List model.RecordSide → ℕ
waits_by [] = 0
waits_by (r ∷ rs) = length r.waiting + waits_by rs

waits-as : (rs : List Held) → waits rs ≡ waits_by (map record_of rs)
waits-as [] = refl
waits-as (r ∷ rs) = (λ t. sym (length-map r.waiting.items place_of) t + waits-as rs t)

drop-one : {A : Type 0} (xs : List A) → length (drop 1 xs) ≤ length xs
drop-one [] = omega arith
drop-one (x ∷ xs) = omega arith

waits-less : (name : List ℕ) (rs : List model.RecordSide) → waits_by (with_record name next_busy rs) ≤ waits_by rs
waits-less name [] = omega arith
waits-less name (r ∷ rs) = (let less = waits-less name rs in let here = one (bytes_eq r.name name) in omega (arith, less, here))
  where
    one : (b : Bool) → length (if b then next_busy r else r).waiting ≤ length r.waiting
    one true = drop-one r.waiting
    one false = omega arith

-- no more wait than before
pub waits-after : (name : List ℕ) (rs new : List Held) → map record_of new ≡ with_record name next_busy (map record_of rs)
    → waits new ≤ waits rs
waits-after name rs new is =
    let was : waits rs ≡ waits_by (map record_of rs) = waits-as rs in
    let now : waits new ≡ waits_by (with_record name next_busy (map record_of rs)) = waits-as new ∙ ap waits_by is in
    let less = waits-less name (map record_of rs) in
    omega (arith, was, now, less)

-- ---- the record of a name

pub names-differ : (a b : List ℕ) → bytes_eq a b ≡ false → a ≡ b → ⊥
names-differ a b differ same = (let alike : bytes_eq a b ≡ true = (bytes_eq-Decides a b).1 same in absurd cc)

-- None before this one has the name, nor has this one.
pub none-next : (rs : List Held) (name : List ℕ) (n : ℕ) (r : Held) → ((place : ℕ) → place < n → (q : Held) → At rs place q → q.name.items ≡ name → ⊥) → At rs n r → (r.name.items ≡ name → ⊥)
    → (place : ℕ) → place < n + 1 → (q : Held) → At rs place q → q.name.items ≡ name → ⊥
none-next rs name n r before at differ =
    below_more (λ (place : ℕ). (q : Held) → At rs place q → q.name.items ≡ name → ⊥) n before (λ q there is. differ (ap (λ (z : Held). z.name.items) (At-one rs n r q at there) ∙ is))

-- ---- a record that is busy

-- a record has a busy value, or none
pub some-busy : {A : Type 0} (f : A → Elements) (o : Option A) (y : Server) (name : List ℕ) → option_map f o ≡ busy_value y name → is_some o ≡ true → (b : Put) × IsBusy y name b
some-busy f None y name is has = absurd cc
some-busy f (Some v) y name is has = is-busy y name (f v) (sym is)

pub none-busy : {A : Type 0} (f : A → Elements) (o : Option A) (y : Server) (name : List ℕ) → option_map f o ≡ busy_value y name → is_some o ≡ false → busy_value y name ≡ None
none-busy f None y name is has = sym is
none-busy f (Some v) y name is has = absurd cc

put-busy : (b : Put) (o : Option Put) → o ≡ Some b → o ≡ None → ⊥
put-busy b o is none = cc

-- a finish that lacks memory
pub finish-lacking : (i : ℕ) (name : List ℕ) (y y' : ServerSide) (ks ks' : List model.Joined) (logs logs' : List (List history.Entry)) (r : Result (Unit {0}) Refusal) → IsErrAnd r (λ e. e ≡ OutOfMemory) → ((b : Put) × IsBusy y.core name b) → y' ≡ y → ks' ≡ ks → logs' ≡ logs → FinishesAt i name y ks logs r y' ks' logs'
finish-lacking i name y y' ks ks' logs logs' (Ok u) err busy is_y is_k is_l = absurd err
finish-lacking i name y y' ks ks' logs logs' (Err e) err busy is_y is_k is_l =
    subst (λ (z : Refusal). FinishesAt i name y ks logs (Err z) y' ks' logs') (sym err) (busy, is_y, is_k, is_l)

-- the record that was found is beside the core's
pub found-beside : (y : ServerSide) (rs : List Held) (name : List ℕ) (r : Held) (b : Put) (busy : IsBusy y.core name b) → rs ≡ y.records.items → IsFound rs name (Some r) → IsBeside y.core (map record_of y.records.items) name busy.c (record_of r)
found-beside y rs name r b busy same (place, at, is) =
    (busy.named, (place, subst (λ (z : List Held). At (map record_of z) place (record_of r)) same (At-map record_of rs place r at), is))

-- the core's has one beside it
pub busy-there : (y : ServerSide) (rs : List Held) (name : List ℕ) (ks : List model.Joined) (logs : List (List history.Entry)) (b : Put) (busy : IsBusy y.core name b) → MayFinish name (server_of y) ks logs → rs ≡ y.records.items → IsFound rs name None → ⊥
busy-there y rs name ks logs b busy may same none =
    let d = may.there busy.c b busy.named busy.busy in
    let place : ℕ = d.1.1.0 in
    let r = At-mapped record_of y.records.items place d.0 d.1.1.1 in
    none place r.0 (subst (λ (z : List Held). At z place r.0) (sym same) r.1) (sym (ap (λ (z : model.RecordSide). z.name) r.2) ∙ d.1.1.2)

-- which is busy too
pub busy-beside : (y : ServerSide) (ks : List model.Joined) (logs : List (List history.Entry)) (name : List ℕ) (r : Held) (b : Put) (busy : IsBusy y.core name b) → MayFinish name (server_of y) ks logs → IsBeside y.core (map record_of y.records.items) name busy.c (record_of r)
    → r.busy ≡ None → ⊥
busy-beside y ks logs name r b busy may beside idle =
    let d = may.placed busy.c (record_of r) b beside busy.busy in
    let none : ◌≡◌ {A = Option PutPlace} None (Some d.0) = sym (ap (option_map place_of) idle) ∙ d.2 in
    absurd cc

-- its put came on this circuit
pub busy-on : (y : ServerSide) (ks : List Joined) (logs : List (List history.Entry)) (name : List ℕ) (r : Held) (p : Came) (b : Put) (busy : IsBusy y.core name b) → MayFinish name (server_of y) (map joined_of ks) logs
    → IsBeside y.core (map record_of y.records.items) name busy.c (record_of r) → r.busy ≡ Some p → IsBusyOn y.core name p.circuit (map joined_of ks)
busy-on y ks logs name r p b busy may beside is =
    let placed : (record_of r).busy ≡ Some (place_of p) = ap (option_map place_of) is in
    let d = may.placed busy.c (record_of r) b beside busy.busy in
    let same : d.0 ≡ place_of p = some_is d.0 (place_of p) (sym d.2 ∙ placed) in
    let at : At (map joined_of ks) p.circuit d.1 = subst (λ (z : PutPlace). At (map joined_of ks) z.circuit d.1) same d.3 in
    record { b = b; is = busy; j = d.1; at = at; handle = may.handle busy.c (record_of r) b (place_of p) d.1 beside busy.busy placed at; fits = may.fits busy.c b busy.named busy.busy }

-- which is there
pub on-within : (y : Server) (name : List ℕ) (k : ℕ) (ks : List Joined) → IsBusyOn y name k (map joined_of ks) → k < length ks
on-within y name k ks on = (let within = At-within (map joined_of ks) k on.j on.at in let long = length-map ks joined_of in omega (arith, within, long))

-- ---- a server after it

-- by the records and the log what was told is a finish
pub told-ends : (i : ℕ) (name : List ℕ) (y y' : ServerSide) (ks ks' : List model.Joined) (logs logs' : List (List history.Entry)) (c : Record) (r : model.RecordSide) (p : PutPlace) (next : Option PutPlace) (value : Option Elements)
    → IsBeside y.core (map record_of y.records.items) name c r → r.busy ≡ Some p → next ≡ first_of r.waiting → IsNext logs y.life r.waiting value → MayFinish name (server_of y) ks logs
    → TellsFinish i name p r.number next value y ks logs y' ks' logs' → Ends i name y ks logs y' ks' logs'
told-ends i name y y' ks ks' logs logs' c r p next value beside busy next_is is may told =
    let first = may.next c r value beside is in
    let both : is_some next ≡ is_some value = ap is_some next_is ∙ next-both logs y.life r.waiting value is in
    let circuits : told.after ≡ replied_in p told.did.sent (map (next_numbers i y.core name c.waiting) ks) = told.did.circuits ∙ ap (replied_in p told.did.sent) (numbers-next i y.core name c.waiting next value ks first both) in
    let entries : applied_of r.number next value ≡ next_entries (server_of y) r (first_of c.waiting) (first_of r.waiting) =
    entries-next (server_of y) r (first_of c.waiting) next value may.unstamped first ∙ ap (next_entries (server_of y) r (first_of c.waiting)) next_is in
    record {
      sent = told.did.sent;
      core = told.core;
      finishes = told.did.finishes;
      cr = c;
      named = beside.0;
      r = r;
      at = beside.1;
      p = p;
      busy = busy;
      mid = told.mid;
      mid_is = told.mid_is;
      numbers = told.numbers;
      reports =
          subst (λ (z : List model.Joined × List history.Entry). Reports i told.mid z.0 (grown y.life (finish_entry p ∷ z.1) logs) y' ks' logs') (λ t. (circuits t, entries t)) told.reports;
    }

-- ---- a world after it

module _ (cs : List ClientSide) (ss : List ServerSide) (ks : List Joined) (cl : List (List history.Line)) (sl : List (List history.Entry)) (m : ℕ) (i : ℕ) (y : ServerSide) (at : At ss i y) (name : List ℕ) where
  abbrev there : IsServer (world_of cs ss ks cl sl m) i
  there = record { y = server_of y; at = At-map server_of ss i y at }

  -- the world once this server was the one that called, on these circuits
  abbrev over : model.ServerSide → List model.Joined → List (List history.Entry) → model.World
  over z js logs =
      let gone : ℕ → Bool = gone_at i z.core js in
      record {
        clients = map client_of cs;
        servers = slice_set (map server_of ss) i (record z { core = reported z.core; records = map (without_puts gone) z.records });
        circuits = map (ending (ends_by i z.core)) js;
        client_logs = cl;
        server_logs = grown z.life (withdrawals gone z.records) logs;
        moment = m;
      }

  ends-leave : (y' : ServerSide) (ks' : List Joined) (sl' : List (List history.Entry)) (d : Ends i name y (map joined_of ks) sl y' (map joined_of ks') sl')
      → world_of cs (slice_set ss i y') ks' cl sl' m
      ≡ server_after i (record (server_of y) { records = with_record name next_busy (map record_of y.records.items) }) (ends_by i d.core) d.core
      (replied_at d.p d.sent (model.with_entries y.life (finish_entry d.p ∷ next_entries (server_of y) d.r (first_of d.cr.waiting) (first_of d.r.waiting)) (model.with_server i (record (server_of y) { records = with_record name next_busy (map record_of y.records.items) }) (record (world_of cs ss ks cl sl m) { circuits = map (next_numbers i y.core name d.cr.waiting) (map joined_of ks) }))))
  ends-leave y' ks' sl' d =
      let js : List model.Joined = map (next_numbers i y.core name d.cr.waiting) (map joined_of ks) in
      let entries : List history.Entry = finish_entry d.p ∷ next_entries (server_of y) d.r (first_of d.cr.waiting) (first_of d.r.waiting) in
      let side : model.ServerSide = record (server_of y) { records = with_record name next_busy (map record_of y.records.items) } in
      let begun : model.World = model.with_entries y.life entries (model.with_server i side (record (world_of cs ss ks cl sl m) { circuits = js })) in
      let all : List model.Joined = replied_in d.p d.sent js in
      let logs : List (List history.Entry) = grown y.life entries sl in
      let is : world_of cs (slice_set ss i y') ks' cl sl' m ≡ over (server_of d.mid) all logs = (λ t. record {
        clients = map client_of cs;
        servers = (set-map server_of ss i y' ∙ ap (slice_set (map server_of ss) i) d.reports.side) t;
        circuits = d.reports.circuits t;
        client_logs = cl;
        server_logs = d.reports.logged t;
        moment = m;
      }) in
      let last : model.ServerSide = record side { core = reported d.core; records = map (without_puts (gone_at i d.core all)) side.records } in
      let twice : over (record side { core = d.core }) all logs ≡ server_after i side (ends_by i d.core) d.core (record begun { circuits = all }) =
      (λ t. record {
        clients = map client_of cs;
        servers = sym (set-twice (map server_of ss) i side last) t;
        circuits = map (ending (ends_by i d.core)) all;
        client_logs = cl;
        server_logs = grown y.life (withdrawals (gone_at i d.core all) side.records) logs;
        moment = m;
      }) in
      is ∙ ap (λ (z : model.ServerSide). over z all logs) d.mid_is ∙ twice ∙ ap (server_after i side (ends_by i d.core) d.core) (sym (replied-is d.p d.sent begun))

  pub finish-does : (y' : ServerSide) (ks' : List Joined) (sl' : List (List history.Entry)) (r : Result (Unit {0}) Refusal) → FinishesAt i name y (map joined_of ks) sl r y' (map joined_of ks') sl'
      → Does (world_of cs ss ks cl sl m) (event.Finish i name) r (world_of cs (slice_set ss i y') ks' cl sl' m)
  finish-does y' ks' sl' (Ok u) (inl d) = (
    there,
    inl (record {
      sent = d.sent;
      core = d.core;
      finishes = d.finishes;
      cr = d.cr;
      named = d.named;
      r = d.r;
      at = d.at;
      p = d.p;
      busy = d.busy;
      leaves = ends-leave y' ks' sl' d;
    }),
  )
  finish-does y' ks' sl' (Ok u) (inr (e, refuses, is_y, is_k, is_l)) = (there, inr (e, refuses, server-stays cs ss ks ks' cl sl sl' m i y y' at (ap server_of is_y) is_k is_l))
  finish-does y' ks' sl' (Err OutOfMemory) ((b, busy), is_y, is_k, is_l) = ((there, (busy.c, busy.named, put-busy b busy.c.busy busy.busy)), server-stays cs ss ks ks' cl sl sl' m i y y' at (ap server_of is_y) is_k is_l)
  finish-does y' ks' sl' (Err _) d = absurd d

  next-keeps : (ws : List WaitingPut) (j : model.Joined) → KeepsEnds j (next_numbers i y.core name ws j)
  next-keeps [] j = ends-stay j j refl
  next-keeps (w ∷ ws) j = posted-keeps i y.core name write_mask j

  -- circuits are found as before
  pub finish-indexed : (numbers : List (List ℕ)) (y' : ServerSide) (ks' : List Joined) (sl' : List (List history.Entry)) (r : Result (Unit {0}) Refusal) → FinishesAt i name y (map joined_of ks) sl r y' (map joined_of ks') sl'
      → AreIndexed numbers (server_numbers ss) (map joined_of ks) → AreIndexed numbers (server_numbers (slice_set ss i y')) (map joined_of ks')
  finish-indexed numbers y' ks' sl' (Ok u) (inl d) h =
      let js : List model.Joined = map joined_of ks in
      let nexts : List model.Joined = map (next_numbers i y.core name d.cr.waiting) js in
      let told : AreIndexed numbers (server_numbers ss) nexts = indexed-map numbers (server_numbers ss) js h (next_numbers i y.core name d.cr.waiting) (next-keeps d.cr.waiting) in
      let said : AreIndexed numbers (server_numbers ss) (replied_in d.p d.sent nexts) = indexed-replied d.p d.sent numbers (server_numbers ss) nexts told in
      indexed-server numbers ss i y y' _ (map joined_of ks') at (d.reports.numbers ∙ d.numbers) d.reports.circuits
      (indexed-map numbers (server_numbers ss) (replied_in d.p d.sent nexts) said (ending (ends_by i d.mid.core)) (ending-keeps (ends_by i d.mid.core)))
  finish-indexed numbers y' ks' sl' (Ok u) (inr (e, refuses, is_y, is_k, is_l)) h =
      indexed-server numbers ss i y y' (map joined_of ks) (map joined_of ks') at (ap (λ (z : ServerSide). z.circuits.items) is_y) is_k h
  finish-indexed numbers y' ks' sl' (Err OutOfMemory) (busy, is_y, is_k, is_l) h =
      indexed-server numbers ss i y y' (map joined_of ks) (map joined_of ks') at (ap (λ (z : ServerSide). z.circuits.items) is_y) is_k h
  finish-indexed numbers y' ks' sl' (Err _) d h = absurd d
