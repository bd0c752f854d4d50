-- What holds of open ends by their servers' logs stays so: a finish, and a step of a server's end.
use Rattle.std.proofs.Common.{◌≡◌, ℕ, zero, suc, ◌⊎◌, inl, inr, Bool, true, false, cond, ◌&&◌, eqb, List, [], ◌∷◌, ◌++◌, Option, Some, None, refl, sym, ap, subst, ◌∙◌, append-nil, append_assoc}
use Rattle.std.specs.Prelude.{filter, length, map, option_map, slice_get, slice_set, unwrap_or}
use Rattle.std.specs.List.{flat_map, fold}
use Rattle.std.specs.Str.{bytes_eq}
use Rattle.ca_arena.specs.declared.handle.Handle.{Handle}
use Rattle.ca_dbr.specs.Elements.{Elements}
use Rattle.ca_ids.specs.Table.{Table, under}
use Rattle.ca_model.proofs.Tables.{changed-other, changed-own, freed-back, handle-is, one-value}
use Rattle.ca_link.specs.Link.{with_rest, with_sent}
use Rattle.ca_queue.specs.declared.entry.SubKey.{SubKey}
use Rattle.ca_records.specs.Puts.{Record, WaitingPut, record_named}
use Rattle.ca_records.specs.declared.puts.Put.{Put}
use Rattle.ca_records.specs.declared.puts.Stamp.{Stamp}
use Rattle.ca_text.specs.Place.{At}
use Rattle.ca_text.proofs.Places.{some_is, At-map, At-mapped, At-one, At-set}
use Rattle.ca_wire.specs.Fields.{Fields}
use Rattle.ca_model.specs.Due.{Action, Applies, Due, KnownRecord}
use Rattle.ca_model.specs.Due as action
use Rattle.ca_model.specs.Ends as why
use Rattle.ca_model.specs.Server.{Ended, Open, Server, ServerCircuit, ServerEnd}
use Rattle.ca_model.specs.ServerCalls.{Replies, after_next, finish_reply, lacking, with_finish}
use Rattle.ca_model.specs.ServerSteps.{Acts, HasEnd, LeftOf, Next, Reaches, Records, Stepped, closed, is_write, known_record, knows, stored_now, with_end, write_mask}
use Rattle.ca_model.specs.ServerSteps as stepped
use Rattle.ca_model.specs.History.{Applied, Entry, Sent, Step}
use Rattle.ca_model.specs.Speech.{In}
use Rattle.ca_model.specs.ServerEvents.{Finished, HappensFinish, ServerStepped, StepHandles, StepLacks, acted, ending, ends_at, ends_by, ends_here, finish_entry, first_of, handled_at, logged, logged_by, next_busy, next_entries, next_numbers, number_of, numbers_after, numbers_posted, places_where, is_of_channel, records_after, replied_at, reported, server_after, side_of, unsaid, with_core, with_number, noted, withdrawals, without_channel, without_puts, write_numbers}
use Rattle.ca_model.specs.ServerEvents as event
use Rattle.ca_model.specs.World.{Joined, PutPlace, RecordSide, ServerSide, World, with_circuit}
use Rattle.ca_laws_parts.specs.Agrees.{Agrees, AreOthers, WaitsAs}
use Rattle.ca_laws_parts.specs.Both.{Both}
use Rattle.ca_laws_parts.specs.Lives.{IsPutOf}
use Rattle.ca_laws_parts.specs.Moves.{Lives, Writes, finish_told}
use Rattle.ca_laws_parts.specs.Seats.{Seated, TakesSent}
use Rattle.ca_laws_parts.proofs.Cores.{each-there, records-stay}
use Rattle.ca_laws_parts.proofs.Doing.{due-applies}
use Rattle.ca_laws_parts.proofs.WritesEvents.{SameEnds, found, next-same, same-self, same-trans}
use Rattle.ca_laws_parts.proofs.Frames.{goes-self}
use Rattle.ca_laws_parts.proofs.Lasting.{EndsWere, SameHeld, SameSeat, held-self, seat-of, told_late}
use Rattle.ca_laws_parts.proofs.LastingEvents.{one-end, were-closed}
use Rattle.ca_laws_parts.proofs.LastingStep.{replied-back, told-servers}
use Rattle.ca_laws_parts.proofs.WritesLists.{both-at, none_at}
use Rattle.ca_laws_parts.proofs.WritesLives.{number-of, others-apart}
use Rattle.ca_laws_parts.proofs.Midway.{grown-back, grown-here, set-here}
use Rattle.ca_laws_parts.proofs.WritesMoves.{same-or}
use Rattle.ca_laws_parts.proofs.Seats.{open-still}
use Rattle.ca_laws_parts.proofs.Waited.{numbers-after-same, write-numbers-same}
use Rattle.ca_laws_runs.specs.Entries.{AreQuiet, IsQuiet, Tells, title, titles}
use Rattle.ca_laws_runs.proofs.Logged.{AllEnds, Lasting, after-lasts, at-server, titles-kept, withdrawn-quiet}
use Rattle.ca_laws_runs.proofs.LoggedEvents.{as-before, mapped-one, named-there, other-posted, post-ends-last}

same-open : (a b : ServerEnd) → Open a ≡ Open b → a ≡ b
same-open a b is = cc

-- ---- each end that was open is open still, with what it held

abbrev EndsStay : (old new : Server) → Type 0
EndsStay old new = (h : Handle) (e : ServerEnd) → HasEnd old h e → (f : ServerEnd) × HasEnd new h f × SameHeld e f

stays-self : (old new : Server) → new.circuits ≡ old.circuits → EndsStay old new
stays-self old new is h e has = (e, subst (λ (t : Table ServerCircuit). under t h ≡ Some (Open e)) (sym is) has, held-self e)

handle-or : (g h : Handle) → (g ≡ h) ⊎ (g ≡ h → ⊥)
handle-or g h = elim (same-or g.index h.index) [
  | inr other ↦ inr (λ is. other (ap (λ (x : Handle). x.index) is))
  | inl one ↦ elim (same-or g.generation h.generation) [
    | inr other ↦ inr (λ is. other (ap (λ (x : Handle). x.generation) is))
    | inl two ↦ inl (handle-is g h one two)
  ]
]

stays-end : (y : Server) (h : Handle) (e d : ServerEnd) → HasEnd y h e → SameHeld e d → EndsStay y (with_end h d y)
stays-end y h e d has held g f there = elim (handle-or g h) [
  | inl is ↦
      let one : e ≡ f = one-end y h e f has (subst (λ (k : Handle). HasEnd y k f) is there) in
      (d, subst (λ (k : Handle). HasEnd (with_end h d y) k d) (sym is) (changed-own (λ (c : ServerCircuit). Open d) y.circuits h (Open e) has), subst (λ (x : ServerEnd). SameHeld x d) one held)
  | inr other ↦ (f, changed-other (λ (c : ServerCircuit). Open d) y.circuits g h (Open f) there other, held-self f)
]

replies-stay-held : (y : Server) (p : Put) (gone : Handle → Bool) (sent : List (Handle × Fields)) (new : Server) → Replies y p gone sent new → EndsStay y new × (new.stamp ≡ y.stamp)
replies-stay-held y p gone sent new (inl said) =
    let e : ServerEnd = said.0 in
    (subst (λ (x : Server). EndsStay y x) (sym said.3) (stays-end y p.circuit e (record e { link = with_sent (finish_reply p ∷ []) e.link }) said.1.0 (record { channels = refl; subscriptions = refl; queues = refl })), ap (λ (x : Server). x.stamp) said.3)
replies-stay-held y p gone sent new (inr not) = (stays-self y new (ap (λ (x : Server). x.circuits) not.2), ap (λ (x : Server). x.stamp) not.2)

late-same : (place : ℕ) (ms : List Fields) (c : Joined) → SameEnds c (told_late place ms c)
late-same place ms c = record { server = refl; handle = refl; life = refl; up = refl; handled = refl; is_open = refl }

pub told-logs : (p : PutPlace) (sent : List (Handle × Fields)) (t : World) → (replied_at p sent t).server_logs ≡ t.server_logs
told-logs p sent t = go (slice_get t.circuits p.circuit)
  where
    go : (o : Option Joined) → (unwrap_or (option_map (λ (j : Joined). with_circuit p.circuit (told_late p.place (map (λ (x : Handle × Fields). x.1) sent) j) t) o) t).server_logs ≡ t.server_logs
    go None = refl
    go (Some j) = refl

-- ---- what a message does to an end, and then its write

-- an action is a write, or reaches nothing
reaches-or : (did : Action) → ((name : List ℕ) × (value : Elements) × (busies : Bool) × (did ≡ Applies name value busies))
    ⊎ (((gone : Handle → Bool) (y new : Server) → Reaches did gone y new → new ≡ y) × ((i : ℕ) (core : Server) (c : Joined) → write_numbers i core did c ≡ c) × (is_write did ≡ false))
reaches-or (Applies name value busies) = inl (name, value, busies, refl)
reaches-or (action.Waits name value) = inr (λ g y n r. r.1, λ i core c. refl, refl)
reaches-or (action.Clears sid) = inr (λ g y n r. r.1, λ i core c. refl, refl)
reaches-or action.Nothing = inr (λ g y n r. r.1, λ i core c. refl, refl)
reaches-or action.Greets = inr (λ g y n r. r.1, λ i core c. refl, refl)
reaches-or (action.Names x) = inr (λ g y n r. r.1, λ i core c. refl, refl)
reaches-or (action.Opens x) = inr (λ g y n r. r.1, λ i core c. refl, refl)
reaches-or (action.Adds x) = inr (λ g y n r. r.1, λ i core c. refl, refl)
reaches-or (action.Drops x) = inr (λ g y n r. r.1, λ i core c. refl, refl)
reaches-or (action.Switches x) = inr (λ g y n r. r.1, λ i core c. refl, refl)

pub with-record-titles : (name : List ℕ) (f : RecordSide → RecordSide) → ((r : RecordSide) → title (f r) ≡ title r) → (rs : List RecordSide) → titles (event.with_record name f rs) ≡ titles rs
with-record-titles name f same rs = titles-kept (λ (r : RecordSide). cond (bytes_eq r.name name) (f r) r) (λ r. go r (bytes_eq r.name name)) rs
  where
    go : (r : RecordSide) (b : Bool) → title (cond b (f r) r) ≡ title r
    go r true = same r
    go r false = refl

pub with-core-titles : (Q : Record → RecordSide → Type 0) (f : Record → RecordSide → RecordSide) → ((c : Record) (r : RecordSide) → title (f c r) ≡ title r) → (cs : List Record) (rs : List RecordSide) → Both Q cs rs → titles (with_core f cs rs) ≡ titles rs
with-core-titles Q f same [] [] both = refl
with-core-titles Q f same [] (r ∷ rs) both = absurd both
with-core-titles Q f same (c ∷ cs) [] both = absurd both
with-core-titles Q f same (c ∷ cs) (r ∷ rs) both = ap (λ (t : List ℕ × ℕ). t ∷ titles (with_core f cs rs)) (same c r) ∙ ap (λ (l : List (List ℕ × ℕ)). title r ∷ l) (with-core-titles Q f same cs rs both.1)

none-quiet : AreQuiet []
none-quiet e there = absurd (none_at there.0 e there.1)

one-quiet : (x : Entry) → IsQuiet x → AreQuiet (x ∷ [])
one-quiet x is e (zero, at) = subst (λ (z : Entry). IsQuiet z) (some_is x e at) is
one-quiet x is e (suc k, at) = absurd (none_at k e at)

-- what else a message logs is quiet
pub logs-quiet : (Q : Record → RecordSide → Type 0) (core : Server) (h : Handle) (p : PutPlace) (did : Action) (rs : List RecordSide) → Both Q core.records rs → is_write did ≡ false
    → AreQuiet (logged_by core h p did rs) × (titles (records_after core h p did rs) ≡ titles rs)
logs-quiet Q core h p (Applies name value busies) rs both no_write = absurd cc
logs-quiet Q core h p (action.Waits name value) rs both no_write = (one-quiet _ tt, with-record-titles name _ (λ r. refl) rs)
logs-quiet Q core h p (action.Clears sid) rs both no_write =
    (withdrawn-quiet (flat_map (λ (ps : List PutPlace). ps) (with_core (λ (c : Record) (r : RecordSide). places_where (is_of_channel h sid) c.waiting r.waiting) core.records rs)), with-core-titles Q (without_channel h sid) (λ c r. refl) core.records rs both)
logs-quiet Q core h p action.Nothing rs both no_write = (none-quiet, refl)
logs-quiet Q core h p action.Greets rs both no_write = (none-quiet, refl)
logs-quiet Q core h p (action.Names x) rs both no_write = (none-quiet, refl)
logs-quiet Q core h p (action.Opens x) rs both no_write = (none-quiet, refl)
logs-quiet Q core h p (action.Adds x) rs both no_write = (none-quiet, refl)
logs-quiet Q core h p (action.Drops x) rs both no_write = (none-quiet, refl)
logs-quiet Q core h p (action.Switches x) rs both no_write = (none-quiet, refl)

pub write-titles : (core : Server) (h : Handle) (p : PutPlace) (name : List ℕ) (value : Elements) (busies : Bool) (rs : List RecordSide) → titles (records_after core h p (Applies name value busies) rs) ≡ titles rs
write-titles core h p name value true rs = with-record-titles name _ (λ r. refl) rs
write-titles core h p name value false rs = refl

-- a write keeps the server's stamp
write-stamp : (y : Server) (h : Handle) (e : ServerEnd) (m : Fields) (name : List ℕ) (value : Elements) (busies : Bool) (new : Server) → Records y h e m (Applies name value busies) new → new.stamp ≡ y.stamp
write-stamp y h e m name value true new (p, is, same) = ap (λ (x : Server). x.stamp) same
write-stamp y h e m name value false new same = ap (λ (x : Server). x.stamp) same

same-stored : (y z : Server) (value : Elements) → z.stamp ≡ y.stamp → stored_now z value ≡ stored_now y value
same-stored y z value is = ap (λ (s : Stamp). let u : Server = record y { stamp = s } in stored_now u value) is

-- the record of a known one
known-named : (o : Option Record) (k : KnownRecord) → option_map known_record o ≡ Some k → (c : Record) × (o ≡ Some c)
known-named None k is = absurd cc
known-named (Some c) k is = (c, refl)

-- numbers and lists are apart
handled-numbers : (place : ℕ) (step : Step) (replies : List Fields) (keys : List SubKey) (c : Joined) → fold with_number (handled_at place step replies c) keys ≡ handled_at place step replies (fold with_number c keys)
handled-numbers place step replies [] c = refl
handled-numbers place step replies (key ∷ keys) c = handled-numbers place step replies keys (with_number c key)

handled-posted : (i : ℕ) (core : Server) (name : List ℕ) (mask place : ℕ) (step : Step) (replies : List Fields) (c : Joined) → numbers_posted i core name mask (handled_at place step replies c) ≡ handled_at place step replies (numbers_posted i core name mask c)
handled-posted i core name mask place step replies c = go (eqb c.server i && c.lists.server_open)
  where
    keys : List SubKey
    keys = event.keys_concerned name mask (under core.circuits c.at_server)

    go : (b : Bool) → cond b (fold with_number (handled_at place step replies c) keys) (handled_at place step replies c) ≡ handled_at place step replies (cond b (fold with_number c keys) c)
    go true = handled-numbers place step replies keys c
    go false = refl

-- what the log tells of the records of a server
pub life-tells : (w : World) (i : ℕ) (y : ServerSide) (h : Writes w) (at : At w.servers i y) → Tells (h.lives i y at).log y.core.records y.records
life-tells w i y h at name c named =
    let own = h.lives i y at in
    let f = found (IsPutOf w.circuits i) own.log y.core.records y.records name c own.life.each named in
    (f.r, (f.i, f.in_rs), f.named, ap (λ (n : List ℕ). number_of n y.records) (sym f.named) ∙ number-of y.records f.i f.r own.life.others f.in_rs, f.agrees.value)

module _ (P : ℕ → List Entry → List RecordSide → ServerEnd → Joined → Type 0) (k : Lasting P) where
  -- the same names
  renamed : (n : ℕ) (log : List Entry) (rs rt : List RecordSide) (e : ServerEnd) (c : Joined) → titles rt ≡ titles rs → P n log rs e c → P n log rt e c
  renamed n log rs rt e c same p = subst (λ (l : List Entry). P n l rt e c) (append-nil log) (k.told n log [] rs rt e c none-quiet same p)

  -- ---- a finish

  -- the next put is applied, as the log says, or none waits
  next-ends-last : (n i : ℕ) (log : List Entry) (y : ServerSide) (r : RecordSide) (mid : Server) (name : List ℕ) (ws : List WaitingPut) (ps : List PutPlace) (gone : Handle → Bool) (c : Joined) (b e f : ServerEnd)
      → (Q : PutPlace → WaitingPut → Type 0) → Both Q ps ws → AreOthers y.records → In y.records r → r.name ≡ name → mid.stamp ≡ y.core.stamp
      → c.server ≡ i → c.lists.server_open ≡ true → HasEnd y.core c.at_server b
      → HasEnd mid c.at_server e → e.subscriptions ≡ b.subscriptions → P n log y.records e c → HasEnd (after_next name ws gone mid) c.at_server f
      → P n (log ++ next_entries y r (first_of ws) (first_of ps)) y.records f (next_numbers i y.core name ws c)
  next-ends-last n i log y r mid name [] [] gone c b e f Q both others in_rs named stamp mine opened before has subs p after =
      subst (λ (l : List Entry). P n l y.records f c) (sym (append-nil log))
      (go (gone c.at_server)
      (one-value (after_next name [] gone mid).circuits c.at_server (Open f) (lacking gone c.at_server (Open e)) after
      (each-there (lacking gone) mid.circuits c.at_server (Open e) has)))
    where
      go : (x : Bool) → Open f ≡ cond x (Ended why.OutOfMemory e.link.output) (Open e) → P n log y.records f c
      go true is = absurd cc
      go false is = subst (λ (x : ServerEnd). P n log y.records x c) (sym (same-open f e is)) p
  next-ends-last n i log y r mid name [] (q ∷ ps) gone c b e f Q both others in_rs named stamp mine opened before has subs p after = absurd both
  next-ends-last n i log y r mid name (w ∷ ws) [] gone c b e f Q both others in_rs named stamp mine opened before has subs p after = absurd both
  next-ends-last n i log y r mid name (w ∷ ws) (q ∷ ps) gone c b e f Q both others in_rs named stamp mine opened before has subs p after =
      post-ends-last P k n i log y.records y.core (stepped.counted mid) name r write_mask (stored_now mid w.value) (Applied q.circuit q.place r.number (stored_now y.core w.value) true) gone c b e f others in_rs named
      (refl, refl, sym (same-stored y.core mid w.value stamp)) mine opened before has subs p after

  finished-lasts : (w new : World) (i : ℕ) (y : ServerSide) (name : List ℕ) → At w.servers i y → Finished w i y name new → Writes w → Seated w → AllEnds P w → AllEnds P new
  finished-lasts w new i y name at f h seated all =
      subst (λ (z : World). AllEnds P z) (sym f.leaves)
      (after-lasts P w i y f.core own.log k mid side (ends_by i f.core) (own.log ++ more) at own.at h.apart refl (
        subst (λ (l : List (List Entry)). At l y.life (own.log ++ more)) (sym (told-logs f.p f.sent told)) (grown-here w.server_logs y.life own.log more own.at),
        λ l z there other. elim (grown-back w.server_logs y.life more l z (subst (λ (ls : List (List Entry)). At ls l z) (told-logs f.p f.sent told) there)) [ inl mine ↦ absurd (other mine) | inr old ↦ old ],
      )
      (λ n d there opened.
      let r = replied-back f.p f.sent told n d there in
      let c = At-mapped numbers w.circuits n r.0 r.1 in
      let same_c : SameEnds c.0 r.0 = subst (λ (x : Joined). SameEnds c.0 x) (sym c.2) (next-same i y.core name f.cr.waiting c.0) in
      let far : (c.0.server ≡ i → ⊥) → r.0 ≡ c.0 = λ other. c.2 ∙ not-numbered f.cr.waiting c.0 other in (
        c.0,
        c.1,
        elim r.2 [
          | inl is ↦ subst (λ (x : Joined). SameSeat c.0 x) (sym is) (seat-of c.0 r.0 same_c)
          | inr is ↦ subst (λ (x : Joined). SameSeat c.0 x) (sym is) (seat-of c.0 (late r.0) (same-trans c.0 r.0 (late r.0) same_c (late-same f.p.place ms r.0)))
        ],
        λ other l rs e p. elim r.2 [
          | inl is ↦ subst (λ (x : Joined). P n l rs e x) (sym (is ∙ far other)) p
          | inr is ↦ subst (λ (x : Joined). P n l rs e x) (sym is) (k.replied n l rs e r.0 f.p.place ms (subst (λ (x : Joined). P n l rs e x) (sym (far other)) p))
        ],
      ))
      (λ j z there other. elim (At-set w.servers i side j z (subst (λ (l : List ServerSide). At l j z) (told-servers f.p f.sent told) there)) [ inl mine ↦ absurd (other mine.0) | inr old ↦ old.0 ])
      (λ n c d e x on there opened mine had p has.
      let r = replied-back f.p f.sent told n d there in
      let numbered : r.0 ≡ numbers c = mapped-one P k w numbers n c r.0 on r.1 in
      let same_c : SameEnds c r.0 = subst (λ (z : Joined). SameEnds c z) (sym numbered) (next-same i y.core name f.cr.waiting c) in
      let opened_c : c.lists.server_open ≡ true = sym same_c.is_open ∙ open-of r.0 d r.2 opened in
      let made = stays.0 c.at_server e had in
      let first : P n (own.log ++ finish_entry f.p ∷ []) y.records made.0 c =
      k.told n own.log (finish_entry f.p ∷ []) y.records y.records made.0 c (one-quiet (finish_entry f.p) tt) refl (k.stays n own.log y.records e made.0 c c made.2 (goes-self c) p) in
      let nexts : List Entry = next_entries y f.r (first_of f.cr.waiting) (first_of f.r.waiting) in
      let q1 : P n ((own.log ++ finish_entry f.p ∷ []) ++ nexts) y.records x (numbers c) =
      next-ends-last n i (own.log ++ finish_entry f.p ∷ []) y f.r f.finishes.1 name f.cr.waiting f.r.waiting gone c e made.0 x (WaitsAs (IsPutOf w.circuits i) own.log f.r.number) agrees.each own.life.others (f.at.0, f.at.1) f.at.2 stays.1 mine opened_c had made.1 made.2.subscriptions first
      (subst (λ (ws : List WaitingPut). HasEnd (after_next name ws gone f.finishes.1) c.at_server x) (ap (λ (z : Record). z.waiting) one_record) (subst (λ (z : Server). HasEnd z c.at_server x) f.finishes.3 has)) in
      let q2 : P n (own.log ++ more) y.records x r.0 =
      subst (λ (z : Joined). P n (own.log ++ more) y.records x z) (sym numbered) (subst (λ (l : List Entry). P n l y.records x (numbers c)) (append_assoc own.log (finish_entry f.p ∷ []) nexts) q1) in
      let q : P n (own.log ++ more) side.records x r.0 = renamed n (own.log ++ more) y.records side.records x r.0 (with-record-titles name next_busy (λ z. refl) y.records) q2 in
      elim r.2 [
        | inl is ↦ subst (λ (z : Joined). P n (own.log ++ more) side.records x z) (sym is) q
        | inr is ↦ subst (λ (z : Joined). P n (own.log ++ more) side.records x z) (sym is) (k.replied n (own.log ++ more) side.records x r.0 f.p.place ms q)
      ])
      seated all)
    where
      own : Lives w i y
      own = h.lives i y at

      more : List Entry
      more = finish_entry f.p ∷ next_entries y f.r (first_of f.cr.waiting) (first_of f.r.waiting)

      ms : List Fields
      ms = map (λ (x : Handle × Fields). x.1) f.sent

      late : Joined → Joined
      late c = told_late f.p.place ms c

      gone : Handle → Bool
      gone = f.finishes.0.gone

      one_record : f.finishes.0.r ≡ f.cr
      one_record = some_is f.finishes.0.r f.cr (sym f.finishes.0.named ∙ f.named)

      agrees : Agrees (IsPutOf w.circuits i) own.log f.cr f.r
      agrees =
          let g = found (IsPutOf w.circuits i) own.log y.core.records y.records name f.cr own.life.each f.named in
          elim (others-apart y.records g.i f.at.0 g.r f.r own.life.others g.in_rs f.at.1) [
            | inl e ↦ both-at (Agrees (IsPutOf w.circuits i) own.log) y.core.records y.records f.at.0 f.cr f.r own.life.each (subst (λ (n : ℕ). At y.core.records n f.cr) e g.in_cs) f.at.1
            | inr apart ↦ absurd (apart.0 (f.at.2 ∙ sym g.named))
          ]

      side : ServerSide
      side = record y { records = event.with_record name next_busy y.records }

      told : World
      told = finish_told w i y name f.cr f.r f.p

      mid : World
      mid = replied_at f.p f.sent told

      numbers : Joined → Joined
      numbers = next_numbers i y.core name f.cr.waiting

      not-numbered : (ws : List WaitingPut) (c : Joined) → (c.server ≡ i → ⊥) → next_numbers i y.core name ws c ≡ c
      not-numbered [] c other = refl
      not-numbered (x ∷ ws) c other = other-posted P k i y.core name write_mask c other

      open-of : (c d : Joined) → (d ≡ c) ⊎ (d ≡ late c) → d.lists.server_open ≡ true → c.lists.server_open ≡ true
      open-of c d (inl is) opened = ap (λ (z : Joined). z.lists.server_open) (sym is) ∙ opened
      open-of c d (inr is) opened = ap (λ (z : Joined). z.lists.server_open) (sym is) ∙ opened

      stays : EndsStay y.core f.finishes.1 × (f.finishes.1.stamp ≡ y.core.stamp)
      stays = (let r = replies-stay-held (with_finish name f.finishes.0.r y.core) f.finishes.0.p gone f.sent f.finishes.1 f.finishes.2 in (λ h e had. r.0 h e had, r.1))

  pub finish-lasts : (w new : World) (i : ℕ) (y : ServerSide) (name : List ℕ) → At w.servers i y → HappensFinish w i y name new → Writes w → Seated w → AllEnds P w → AllEnds P new
  finish-lasts w new i y name at (inl f) h seated all = finished-lasts w new i y name at f h seated all
  finish-lasts w new i y name at (inr refused) h seated all = subst (λ (z : World). AllEnds P z) (sym refused.2) all

  -- ---- a step that closes its circuit

  -- other ends after the next message of an end
  next-others : (y : Server) (h : Handle) (e : ServerEnd) (next : Next y h e) (g : Handle) (f : ServerEnd) → (g ≡ h → ⊥) → HasEnd y g f → HasEnd next.after g f
  next-others y h e next g f apart has =
      let made = next.handles in
      let circuits = records-stay y h (record e { link = with_rest next.rest e.link }) next.m next.action made.recorded made.records in
      let d : ServerEnd = record made.acted { link = with_sent next.replies made.acted.link } in
      let there : HasEnd made.recorded g f = subst (λ (t : Table ServerCircuit). under t g ≡ Some (Open f)) (sym circuits) has in
      subst (λ (x : Server). HasEnd x g f) (sym made.leaves) (changed-other (λ (c : ServerCircuit). Open d) made.recorded.circuits g h (Open f) there apart)

  -- and its own
  next-own : (y : Server) (h : Handle) (e : ServerEnd) (next : Next y h e) → HasEnd y h e → HasEnd next.after h (record next.handles.acted { link = with_sent next.replies next.handles.acted.link })
  next-own y h e next has =
      let made = next.handles in
      let circuits = records-stay y h (record e { link = with_rest next.rest e.link }) next.m next.action made.recorded made.records in
      let d : ServerEnd = record made.acted { link = with_sent next.replies made.acted.link } in
      let there : HasEnd made.recorded h e = subst (λ (t : Table ServerCircuit). under t h ≡ Some (Open e)) (sym circuits) has in
      subst (λ (x : Server). HasEnd x h d) (sym made.leaves) (changed-own (λ (c : ServerCircuit). Open d) made.recorded.circuits h (Open e) there)

  -- a message of an end of this server, which writes
  module _ (w : World) (i : ℕ) (y : ServerSide) (at_y : At w.servers i y) (wr : Writes w) (h : Handle) (e : ServerEnd) (next : Next y.core h e) (p : PutPlace) where
    abbrev own : Lives w i y
    own = wr.lives i y at_y

    -- the log and the records after the message
    abbrev after_log : List Entry
    after_log = own.log ++ logged_by y.core h p next.action y.records

    abbrev after_records : List RecordSide
    after_records = records_after y.core h p next.action y.records

    -- the record to which it writes, and the entry that tells it
    writes-to : (name : List ℕ) (value : Elements) (busies : Bool) → next.action ≡ Applies name value busies
        → (r : RecordSide) × In y.records r × (r.name ≡ name) × (number_of name y.records ≡ r.number) × (stored_now next.after value ≡ stored_now y.core value)
    writes-to name value busies is =
        let made = next.handles in
        let taken : ServerEnd = record e { link = with_rest next.rest e.link } in
        let to = (due-applies (knows y.core taken) next.m next.replies name value busies (subst (λ (a : Action). Due (knows y.core taken) next.m next.replies a) is made.due)).0 in
        let c = known-named (record_named y.core.records name) to.known to.named in
        let r = named-there w i y wr at_y name c.0 (found (IsPutOf w.circuits i) own.log y.core.records y.records name c.0 own.life.each c.1) in
        let recorded : made.recorded.stamp ≡ y.core.stamp = write-stamp y.core h taken next.m name value busies made.recorded (subst (λ (a : Action). Records y.core h taken next.m a made.recorded) is made.records) in
        (r.0, r.1, r.2, r.3, same-stored y.core next.after value (ap (λ (x : Server). x.stamp) made.leaves ∙ recorded))

    -- what it writes reaches an end, as the log says
    write-reaches : (n : ℕ) (name : List ℕ) (value : Elements) (busies : Bool) (gone : Handle → Bool) (core : Server) (c : Joined) (b d f : ServerEnd) → next.action ≡ Applies name value busies → Reaches next.action gone next.after core
        → c.server ≡ i → c.lists.server_open ≡ true → HasEnd y.core c.at_server b → HasEnd next.after c.at_server d → d.subscriptions ≡ b.subscriptions → P n own.log y.records d c → HasEnd core c.at_server f
        → P n after_log after_records f (numbers_posted i y.core name write_mask c)
    write-reaches n name value busies gone core c b d f is reaches mine opened before has subs q after =
        let to = writes-to name value busies is in
        let r = subst (λ (a : Action). Reaches a gone next.after core) is reaches in
        let x : P n (own.log ++ Applied p.circuit p.place (number_of name y.records) (stored_now y.core value) busies ∷ []) y.records f (numbers_posted i y.core name write_mask c) =
        post-ends-last P k n i own.log y.records y.core next.after name to.0 write_mask (stored_now next.after value) (Applied p.circuit p.place (number_of name y.records) (stored_now y.core value) busies) gone c b d f own.life.others to.1 to.2
        (to.3, refl, sym to.4) mine opened before has subs q (subst (λ (z : Server). HasEnd z c.at_server f) r.1 after) in
        subst (λ (a : Action). P n (own.log ++ logged_by y.core h p a y.records) (records_after y.core h p a y.records) f (numbers_posted i y.core name write_mask c)) (sym is)
        (renamed n _ y.records (records_after y.core h p (Applies name value busies) y.records) f (numbers_posted i y.core name write_mask c) (write-titles y.core h p name value busies y.records) x)

    -- or it writes nothing
    quiet-told : (n : ℕ) (c : Joined) (f : ServerEnd) → is_write next.action ≡ false → P n own.log y.records f c → P n after_log after_records f c
    quiet-told n c f none q =
        let l = logs-quiet (Agrees (IsPutOf w.circuits i) own.log) y.core h p next.action y.records own.life.each none in
        k.told n own.log (logged_by y.core h p next.action y.records) y.records after_records f c l.0 l.1 q

    -- a circuit of this server whose message this is not
    others-last : (n : ℕ) (gone : Handle → Bool) (core : Server) (c : Joined) (b f : ServerEnd) → Reaches next.action gone next.after core → c.server ≡ i → c.lists.server_open ≡ true
        → (c.at_server ≡ h → ⊥) → HasEnd y.core c.at_server b → P n own.log y.records b c → HasEnd core c.at_server f → P n after_log after_records f (write_numbers i y.core next.action c)
    others-last n gone core c b f reaches mine opened apart has q after = elim (reaches-or next.action) [
      | inl writes ↦
          subst (λ (a : Action). P n after_log after_records f (write_numbers i y.core a c)) (sym writes.3)
          (write-reaches n writes.0 writes.1 writes.2 gone core c b b f writes.3 reaches mine opened has (next-others y.core h e next c.at_server b apart has) refl q after)
      | inr quiet ↦
          let same : core ≡ next.after = quiet.0 gone next.after core reaches in
          let one : b ≡ f = one-end next.after c.at_server b f (next-others y.core h e next c.at_server b apart has) (subst (λ (x : Server). HasEnd x c.at_server f) same after) in
          subst (λ (d : Joined). P n after_log after_records f d) (sym (quiet.1 i y.core c)) (quiet-told n c f quiet.2 (subst (λ (x : ServerEnd). P n own.log y.records x c) one q))
    ]

  -- what a circuit is after a message was handled, before that is noted
  acted-from : (w : World) (m : ℕ) (j : Joined) (y : ServerSide) (did : Action) → At w.circuits m j → (n : ℕ) (d : Joined) → At (acted m j y did w).circuits n d
      → ((n ≡ m) × (d ≡ write_numbers j.server y.core did (numbers_after (length j.lists.handled) did j)))
      ⊎ ((n ≡ m → ⊥) × ((c : Joined) × At w.circuits n c × (d ≡ write_numbers j.server y.core did c)))
  acted-from w m j y did at n d there =
      let f : Joined → Joined = write_numbers j.server y.core did in
      let x = At-mapped f (slice_set w.circuits m (numbers_after (length j.lists.handled) did j)) n d there in
      elim (At-set w.circuits m (numbers_after (length j.lists.handled) did j) n x.0 x.1) [
        | inl own ↦ inl (own.0, x.2 ∙ ap f own.1)
        | inr old ↦ inr (old.1, (x.0, old.0, x.2))
      ]

  not-written : (i : ℕ) (core : Server) (did : Action) (c : Joined) → (c.server ≡ i → ⊥) → write_numbers i core did c ≡ c
  not-written i core did c other = elim (reaches-or did) [
    | inl writes ↦ subst (λ (a : Action). write_numbers i core a c ≡ c) (sym writes.3) (other-posted P k i core writes.0 write_mask c other)
    | inr quiet ↦ quiet.1 i core c
  ]

  written-seat : (i : ℕ) (core : Server) (did : Action) (c d : Joined) → d ≡ write_numbers i core did c → SameSeat c d
  written-seat i core did c d is = subst (λ (x : Joined). SameSeat c x) (sym is) (seat-of c (write_numbers i core did c) (write-numbers-same i core did c))

  acted-servers : (w : World) (m : ℕ) (j : Joined) (y : ServerSide) (did : Action) (l : ℕ) (z : ServerSide) → At (acted m j y did w).servers l z → (l ≡ j.server → ⊥) → At w.servers l z
  acted-servers w m j y did l z there other = elim (At-set w.servers j.server _ l z there) [ inl own ↦ absurd (other own.0) | inr old ↦ old.0 ]

  closed-apart : (h : Handle) (made core : Server) (g : Handle) (f : ServerEnd) → core ≡ closed h made → HasEnd core g f → (g ≡ h → ⊥) × HasEnd made g f
  closed-apart h made core g f is has = freed-back made.circuits g h (Open f) (subst (λ (x : Server). HasEnd x g f) is has)

  bad-lasts : (w : World) (j : Joined) (y side : ServerSide) (ends : Joined → Option (List ℕ)) (core : Server) → At w.servers j.server y → side ≡ y → core ≡ closed j.at_server y.core → Writes w → Seated w → AllEnds P w → AllEnds P (server_after j.server side ends core w)
  bad-lasts w j y side ends core at same is wr seated all =
      let own = wr.lives j.server y at in
      subst (λ (z : ServerSide). AllEnds P (server_after j.server z ends core w)) (sym same)
      (after-lasts P w j.server y core own.log k w y ends own.log at own.at wr.apart refl (own.at, λ l z there other. there) (λ n d on opened. (d, on, seat-of d d (same-self d), λ other l rs e h. h)) (λ i z there other. there)
      (λ n c d e x on there opened mine had p has.
      let one : d ≡ c = At-one w.circuits n d c there on in
      subst (λ (z : Joined). P n own.log y.records x z) (sym one) (as-before P k n own.log y.records c e x y.core core had p (subst (λ (z : Server). EndsWere y.core z) (sym is) (were-closed y.core j.at_server)) has))
      seated all)

  lacks-lasts : (w new : World) (m : ℕ) (j : Joined) (y : ServerSide) (left : List ℕ) → At w.circuits m j → At w.servers j.server y → StepLacks w m j y left new → Writes w → Seated w → AllEnds P w → AllEnds P new
  lacks-lasts w new m j y left at server f wr seated all = subst (λ (z : World). AllEnds P z) (sym f.leaves) (go f.lacks.written f.lacks.mid f.lacks.left_is f.lacks.leaves)
    where
      i : ℕ
      i = j.server

      did : Action
      did = f.lacks.next.action

      p : PutPlace
      p = record { circuit = m; place = length j.lists.handled }

      side : ServerSide
      side = record y { records = records_after y.core j.at_server p did y.records }

      mid : World
      mid = acted m j y did w

      log : List Entry
      log = (wr.lives i y server).log

      more : List Entry
      more = logged_by y.core j.at_server p did y.records

      go : (o : Option (Handle → Bool)) (made : Server) → LeftOf f.lacks.next o made → f.core ≡ closed j.at_server made
          → AllEnds P (server_after i (side_of i y (unsaid m j y f.lacks.next.action o w)) (ends_here j left i f.core) f.core (unsaid m j y f.lacks.next.action o w))
      go None made same is =
          bad-lasts w j y (side_of i y w) (ends_here j left i f.core) f.core server (ap (λ (o : Option ServerSide). unwrap_or o y) server) (is ∙ ap (λ (x : Server). closed j.at_server x) same) wr seated all
      go (Some gone) made wrote is =
          subst (λ (z : ServerSide). AllEnds P (server_after i z (ends_here j left i f.core) f.core mid)) (sym (ap (λ (o : Option ServerSide). unwrap_or o y) (set-here w.servers i y side server)))
          (after-lasts P w i y f.core log k mid side (ends_here j left i f.core) (log ++ more) server (wr.lives i y server).at wr.apart refl
          (grown-here w.server_logs y.life log more (wr.lives i y server).at, λ l z there other. elim (grown-back w.server_logs y.life more l z there) [ inl mine ↦ absurd (other mine) | inr old ↦ old ])
          (λ n d there opened. elim (acted-from w m j y did at n d there) [
            | inl own ↦
                let a = numbers-after-same (length j.lists.handled) did j in
                let numbers : Joined = numbers_after (length j.lists.handled) did j in (
                  j,
                  subst (λ (z : ℕ). At w.circuits z j) (sym own.0) at,
                  subst (λ (z : Joined). SameSeat j z) (sym own.1) (seat-of j (write_numbers i y.core did numbers) (same-trans j numbers (write_numbers i y.core did numbers) a (write-numbers-same i y.core did numbers))),
                  λ other. absurd (other refl),
                )
            | inr old ↦ (
              old.1.0,
              old.1.1,
              written-seat i y.core did old.1.0 d old.1.2,
              λ other l rs e h. subst (λ (z : Joined). P n l rs e z) (sym (old.1.2 ∙ not-written i y.core did old.1.0 other)) h,
            )
          ])
          (λ l z there other. acted-servers w m j y did l z there other)
          (λ n c d e x on there opened mine had q has.
          let apart = closed-apart j.at_server made f.core c.at_server x is has in
          elim (acted-from w m j y did at n d there) [
            | inl own ↦
                let one : c ≡ j = At-one w.circuits m c j (subst (λ (z : ℕ). At w.circuits z c) own.0 on) at in
                absurd (apart.0 (ap (λ (z : Joined). z.at_server) one))
            | inr old ↦
                let one : old.1.0 ≡ c = At-one w.circuits n old.1.0 c old.1.1 on in
                let is_d : d ≡ write_numbers i y.core did c = old.1.2 ∙ ap (λ (z : Joined). write_numbers i y.core did z) one in
                let opened_c : c.lists.server_open ≡ true = sym (written-seat i y.core did c d is_d).is_open ∙ opened in
                subst (λ (z : Joined). P n (log ++ more) side.records x z) (sym is_d)
                (others-last w i y server wr j.at_server f.e f.lacks.next p n gone made c e x wrote.1 mine opened_c apart.0 had q apart.1)
          ])
          seated all)

  -- ---- a step that handles a message

  -- The message that is handled next on circuit m, whose end this server has, keeps it.
  abbrev pub HandledHere : (m : ℕ) → Joined → ServerSide → List Entry → Type 0
  HandledHere m j y log = (e taken new : ServerEnd) (s : Sent) (replies : List Fields) (did : Action) (step : Step) → HasEnd y.core j.at_server e → SameHeld e taken
      → At j.lists.up (length j.lists.handled) s → Due (knows y.core taken) s.message replies did → Acts y.core taken did new → step.logged ≡ length log → step.sent ≡ length j.lists.down → P m log y.records e j
      → P m log y.records new (handled_at (length j.lists.handled) step replies (numbers_after (length j.lists.handled) did j))

  own-last : (w : World) (n : ℕ) (j : Joined) (y : ServerSide) (at_y : At w.servers j.server y) (wr : Writes w) (e : ServerEnd) (next : Next y.core j.at_server e) (p : PutPlace) (gone : Handle → Bool) (core : Server) (f : ServerEnd) (s : Sent) (step : Step)
      → HandledHere n j y (wr.lives j.server y at_y).log → At j.lists.up (length j.lists.handled) s → s.message ≡ next.m → step.logged ≡ length (wr.lives j.server y at_y).log → step.sent ≡ length j.lists.down
      → Reaches next.action gone next.after core → j.lists.server_open ≡ true → HasEnd y.core j.at_server e → P n (wr.lives j.server y at_y).log y.records e j → HasEnd core j.at_server f
      → P n (after_log w j.server y at_y wr j.at_server e next p) (after_records w j.server y at_y wr j.at_server e next p) f (handled_at (length j.lists.handled) step next.replies (write_numbers j.server y.core next.action (numbers_after (length j.lists.handled) next.action j)))
  own-last w n j y at_y wr e next p gone core f s step law sent is logged_is sent_is reaches opened has q after = elim (reaches-or next.action) [
    | inl writes ↦
        let name : List ℕ = writes.0 in
        let acts : made.acted ≡ taken = subst (λ (a : Action). Acts y.core taken a made.acted) writes.3 made.acts in
        let x : P n log y.records d (handled_at place step next.replies j) = subst (λ (a : Action). P n log y.records d (handled_at place step next.replies (numbers_after place a j))) writes.3 handled in
        subst (λ (a : Action). P n lg rs f (handled_at place step next.replies (write_numbers i y.core a (numbers_after place a j)))) (sym writes.3)
        (subst (λ (c : Joined). P n lg rs f c) (handled-posted i y.core name write_mask place step next.replies j)
        (write-reaches w i y at_y wr j.at_server e next p n writes.0 writes.1 writes.2 gone core (handled_at place step next.replies j) e d f writes.3 reaches refl opened has (next-own y.core j.at_server e next has)
        (ap (λ (z : ServerEnd). z.subscriptions) acts) x after))
    | inr quiet ↦
        let same : core ≡ next.after = quiet.0 gone next.after core reaches in
        let one : d ≡ f = one-end next.after j.at_server d f (next-own y.core j.at_server e next has) (subst (λ (x : Server). HasEnd x j.at_server f) same after) in
        subst (λ (c : Joined). P n lg rs f (handled_at place step next.replies c)) (sym (quiet.1 i y.core (numbers_after place next.action j)))
        (quiet-told w i y at_y wr j.at_server e next p n (handled_at place step next.replies (numbers_after place next.action j)) f quiet.2
        (subst (λ (x : ServerEnd). P n log y.records x (handled_at place step next.replies (numbers_after place next.action j))) one handled))
  ]
    where
      made : stepped.Handles y.core j.at_server (record e { link = with_rest next.rest e.link }) next.m next.replies next.action next.after
      made = next.handles

      i : ℕ
      i = j.server

      log : List Entry
      log = (wr.lives j.server y at_y).log

      lg : List Entry
      lg = after_log w j.server y at_y wr j.at_server e next p

      rs : List RecordSide
      rs = after_records w j.server y at_y wr j.at_server e next p

      place : ℕ
      place = length j.lists.handled

      taken : ServerEnd
      taken = record e { link = with_rest next.rest e.link }

      d : ServerEnd
      d = record made.acted { link = with_sent next.replies made.acted.link }

      due : Due (knows y.core taken) s.message next.replies next.action
      due = subst (λ (m : Fields). Due (knows y.core taken) m next.replies next.action) (sym is) made.due

      acted-p : P n log y.records made.acted (handled_at place step next.replies (numbers_after place next.action j))
      acted-p = law e taken made.acted s next.replies next.action step has (record { channels = refl; subscriptions = refl; queues = refl }) sent due made.acts logged_is sent_is q

      handled : P n log y.records d (handled_at place step next.replies (numbers_after place next.action j))
      handled =
          k.stays n log y.records made.acted d (handled_at place step next.replies (numbers_after place next.action j)) (handled_at place step next.replies (numbers_after place next.action j)) (record { channels = refl; subscriptions = refl; queues = refl })
          (goes-self (handled_at place step next.replies (numbers_after place next.action j))) acted-p

  handles-lasts : (w new : World) (m : ℕ) (j : Joined) (y : ServerSide) (server : At w.servers j.server y) (wr : Writes w) → HandledHere m j y (wr.lives j.server y server).log → At w.circuits m j → j.lists.server_open ≡ true → TakesSent w → StepHandles w m j y new → Seated w → AllEnds P w → AllEnds P new
  handles-lasts w new m j y server wr law at opened_j takes f seated all =
      subst (λ (z : World). AllEnds P z) (sym new-is)
      (at-server P w i y f.core log (with_circuit m noted_last after) next_side ((log ++ more) ++ gone_entries) server (wr.lives i y server).at wr.apart
      (λ n d there opened. elim (from n d there opened) [
        | inl own ↦ (
          j,
          subst (λ (z : ℕ). At w.circuits z j) (sym own.0) at,
          subst (λ (z : Joined). SameSeat j z) (sym own.1) (record { server = moved-same.server; handle = moved-same.handle; is_open = moved-same.is_open }),
          λ other. absurd (other refl),
        )
        | inr old ↦ (
          old.1.0,
          old.1.1,
          written-seat i y.core did old.1.0 d old.1.2,
          λ other l rs e h. subst (λ (z : Joined). P n l rs e z) (sym (old.1.2 ∙ not-written i y.core did old.1.0 other)) h,
        )
      ])
      (λ l z there. elim (At-set mid.servers i next_side l z there) [
        | inl own ↦ inl own
        | inr old ↦ inr (acted-servers w m j y did l z old.0 old.1, old.1)
      ])
      refl refl (
        grown-here mid.server_logs y.life (log ++ more) gone_entries (grown-here w.server_logs y.life log more (wr.lives i y server).at),
        λ l z there other. elim (grown-back mid.server_logs y.life gone_entries l z there) [
          | inl mine ↦ absurd (other mine)
          | inr old ↦ elim (grown-back w.server_logs y.life more l z old) [ inl mine ↦ absurd (other mine) | inr was ↦ was ]
        ],
      )
      (λ n c d e x on there opened mine had p has.
      k.told n (log ++ more) gone_entries side.records next_side.records x d (withdrawn-quiet (flat_map (λ (r : RecordSide). waiting_gone r) side.records)) (titles-kept (without_puts (ends_at (ends_by i f.core) mid.circuits)) (λ r. refl) side.records)
      (elim (from n d there opened) [
        | inl own ↦
            let one : c ≡ j = At-one w.circuits m c j (subst (λ (z : ℕ). At w.circuits z c) own.0 on) at in
            let e_is : e ≡ f.e = one-end y.core j.at_server e f.e (subst (λ (z : Joined). HasEnd y.core z.at_server e) one had) f.has in
            let sent = takes m j y f.e next.m next.rest at server opened_j f.has next.takes in
            subst (λ (z : Joined). P n (log ++ more) side.records x z) (sym own.1)
            (own-last w n j y server wr f.e next place_of gone f.core x sent.0 step (subst (λ (q : ℕ). HandledHere q j y log) (sym own.0) law) sent.1 sent.2 logged_is refl f.steps.3 opened_j f.has (subst (λ (z : ServerEnd). P n log y.records z j) e_is (subst (λ (z : Joined). P n log y.records e z) one p))
            (subst (λ (z : Joined). HasEnd f.core z.at_server x) one has))
        | inr old ↦
            let one : old.1.0 ≡ c = At-one w.circuits n old.1.0 c old.1.1 on in
            let is_d : d ≡ write_numbers i y.core did c = old.1.2 ∙ ap (λ (z : Joined). write_numbers i y.core did z) one in
            let opened_c : c.lists.server_open ≡ true = sym (written-seat i y.core did c d is_d).is_open ∙ opened in
            let apart : c.at_server ≡ j.at_server → ⊥ = λ handles. old.0 (seated.one n m c j on at mine opened_c opened_j handles) in
            subst (λ (z : Joined). P n (log ++ more) side.records x z) (sym is_d) (others-last w i y server wr j.at_server f.e next place_of n gone f.core c e x f.steps.3 mine opened_c apart had p has)
      ]))
      seated all)
    where
      next : Next y.core j.at_server f.e
      next = f.steps.0

      gone : Handle → Bool
      gone = f.steps.1

      did : Action
      did = next.action

      i : ℕ
      i = j.server

      place : ℕ
      place = length j.lists.handled

      place_of : PutPlace
      place_of = record { circuit = m; place = place }

      log : List Entry
      log = (wr.lives i y server).log

      more : List Entry
      more = logged_by y.core j.at_server place_of did y.records

      side : ServerSide
      side = record y { records = records_after y.core j.at_server place_of did y.records }

      mid : World
      mid = acted m j y did w

      waiting_gone : RecordSide → List PutPlace
      waiting_gone r = filter (λ (q : PutPlace). ends_at (ends_by i f.core) mid.circuits q.circuit) r.waiting

      gone_entries : List Entry
      gone_entries = withdrawals (ends_at (ends_by i f.core) mid.circuits) side.records

      next_side : ServerSide
      next_side = record side { core = reported f.core; records = map (without_puts (ends_at (ends_by i f.core) mid.circuits)) side.records }

      after : World
      after = server_after i side (ends_by i f.core) f.core mid

      side-is : side_of i y mid ≡ side
      side-is = ap (λ (o : Option ServerSide). unwrap_or o y) (set-here w.servers i y side server)

      moved : Joined
      moved = write_numbers i y.core did (numbers_after place did j)

      moved-same : SameEnds j moved
      moved-same = same-trans j (numbers_after place did j) moved (numbers-after-same place did j) (write-numbers-same i y.core did (numbers_after place did j))

      last : Joined
      last = ending (ends_by i f.core) moved

      step : Step
      step = record { sent = length j.lists.down; logged = logged y w; after = logged y after }

      logged_is : logged y w ≡ length log
      logged_is = ap (λ (o : Option (List Entry)). length (unwrap_or o [])) (wr.lives i y server).at

      noted_last : Joined
      noted_last = handled_at place step next.replies last

      there_last : At after.circuits m last
      there_last =
          At-map (ending (ends_by i f.core)) mid.circuits m moved
          (At-map (write_numbers i y.core did) (slice_set w.circuits m (numbers_after place did j)) m (numbers_after place did j) (set-here w.circuits m j (numbers_after place did j) at))

      new-is : new ≡ with_circuit m noted_last after
      new-is =
          f.leaves
          ∙ ap (λ (z : ServerSide). noted m j y next.replies w (server_after i z (ends_by i f.core) f.core mid)) side-is
          ∙ ap (λ (o : Option Joined). unwrap_or (option_map (λ (c : Joined). with_circuit m (handled_at place step next.replies c) after) o) after) there_last

      -- a circuit that is open now
      from : (n : ℕ) (d : Joined) → At (with_circuit m noted_last after).circuits n d → d.lists.server_open ≡ true
          → ((n ≡ m) × (d ≡ handled_at place step next.replies moved)) ⊎ ((n ≡ m → ⊥) × ((c : Joined) × At w.circuits n c × (d ≡ write_numbers i y.core did c)))
      from n d there opened = elim (At-set after.circuits m noted_last n d there) [
        | inl own ↦
            let still = open-still (ends_by i f.core) moved last refl (ap (λ (z : Joined). z.lists.server_open) (sym own.1) ∙ opened) in
            inl (own.0, own.1 ∙ ap (λ (z : Joined). handled_at place step next.replies z) still.1)
        | inr old ↦
            let x = At-mapped (ending (ends_by i f.core)) mid.circuits n d old.0 in
            let still = open-still (ends_by i f.core) x.0 d x.2 opened in
            elim (acted-from w m j y did at n x.0 x.1) [
              | inl own ↦ absurd (old.1 own.0)
              | inr was ↦ inr (old.1, (was.1.0, was.1.1, still.1 ∙ was.1.2))
            ]
      ]

  pub step-lasts : (w new : World) (m : ℕ) (j : Joined) (y : ServerSide) (did : Stepped) (server : At w.servers j.server y) (wr : Writes w) → HandledHere m j y (wr.lives j.server y server).log → At w.circuits m j → j.lists.server_open ≡ true → TakesSent w → ServerStepped w m j y did new → Seated w → AllEnds P w → AllEnds P new
  step-lasts w new m j y stepped.Handled server wr law at opened takes f seated all = handles-lasts w new m j y server wr law at opened takes f seated all
  step-lasts w new m j y stepped.NeedBytes server wr law at opened takes f seated all = subst (λ (z : World). AllEnds P z) (sym f.3) all
  step-lasts w new m j y stepped.OutputFull server wr law at opened takes f seated all = subst (λ (z : World). AllEnds P z) (sym f.3) all
  step-lasts w new m j y (stepped.Closed why.OutOfMemory left) server wr law at opened takes f seated all = lacks-lasts w new m j y left at server f wr seated all
  step-lasts w new m j y (stepped.Closed cause left) server wr law at opened takes f seated all =
      subst (λ (z : World). AllEnds P z) (sym f.3) (bad-lasts w j y y (ends_here j left j.server y.core) (closed j.at_server y.core) server refl refl wr seated all)
