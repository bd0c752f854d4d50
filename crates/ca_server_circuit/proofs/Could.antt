-- Something is due for every message on an end that is sound, and can be done.
use Rattle.std.proofs.Common.{◌≡◌, ℕ, zero, suc, ◌+◌, ◌<◌, ◌≤◌, ◌%◌, ◌⊎◌, inl, inr, ◌==◌, ◌&&◌, ◌||◌, Bool, true, false, not, List, [], ◌∷◌, ◌++◌, length, if◌then◌else◌, Option, Some, None, is_some, slice_set, Result, Ok, Err, refl, sym, ap, ◌∙◌, subst, arith}
use Rattle.std.specs.Prelude.{map, nat_le, nat_lt, option_map}
use Rattle.std.specs.Str.{bytes_eq}
use Rattle.std.proofs.lemmas.Bool.{and_cases, eq-eqb, eqb-true, leb-false, ltb-false, ltb-true, or_parts}
use Rattle.std.proofs.lemmas.List.{get_or_past, length-map}
use Rattle.std.proofs.lemmas.Option.{get_or_from_slice_get}
use Rattle.std.proofs.lemmas.Slice.Eq.{bytes_eq-Decides}
use Rattle.ca_text.specs.declared.command.Command.{Command}
use Rattle.ca_text.specs.declared.command.Command.TheVariants as command
use Rattle.ca_text.specs.declared.refusal.Refusal.{Refusal}
use Rattle.ca_text.specs.declared.refusal.Refusal.TheVariants as refusal
use Rattle.ca_text.specs.Limits.{arena_slots, last_generation}
use Rattle.ca_text.specs.Place.{At}
use Rattle.ca_text.specs.Status.{add_fail, bad_channel, bad_count, bad_type, get_fail, no_convert, no_read_access, normal}
use Rattle.ca_text.proofs.Places.{At-within, some_is}
use Rattle.ca_arena.specs.declared.handle.Handle.{Handle}
use Rattle.ca_arena.specs.Arena.{Place, blank, place_at}
use Rattle.ca_dbr.specs.declared.data_type.BaseType.{BaseType}
use Rattle.ca_dbr.specs.Elements.{Elements, count_of}
use Rattle.ca_dbr.specs.Held.{display_of, kind_of}
use Rattle.ca_ids.specs.Table.{MayGive, Table, by_wire, has_free, held, is_full, same_handle}
use Rattle.ca_ids.specs.Wire.{wire_of}
use Rattle.ca_records.specs.declared.puts.Put.{Put}
use Rattle.ca_records.specs.Faults.{first_fault, has_misfit, lacks_conversion}
use Rattle.ca_records.specs.Given.{given_as}
use Rattle.ca_records.specs.Puts.{Record, record_named, with_record, with_value, with_waiting, withdrawn, written_meta}
use Rattle.ca_records.specs.Record.{RecordState}
use Rattle.ca_records.specs.Rules.{may_read, rights}
use Rattle.ca_records.specs.Store.{Store, present, records_of}
use Rattle.ca_wire.specs.Fields.{Fields}
use Rattle.ca_wire.specs.Messages.{header_only, cancel_reply, cleared_reply, error_reply, failed_reply, mask_in, no_cid, status_reply, text_in, value_reply, version_reply}
use Rattle.ca_queue.specs.Keys.{is_among, same}
use Rattle.ca_queue.specs.Queue.{added, posted}
use Rattle.ca_display.specs.declared.image_type.ImageType.{ImageType}
use Rattle.ca_display.specs.Types.{base_in}
use Rattle.ca_model.specs.Due.{Action, Adds, Applies, CidTaken, Clears, Drops, Due, Greets, KnownChannel, Knows, Names, Nothing, PutReads, PutRefused, PutTaken, Serves, Switches, Waits, early_fault, fault_of_event, is_known, key_in, late_fault, must_wait, named, search_due, subscription_in}
use Rattle.ca_model.specs.Ends.{Peer}
use Rattle.ca_model.specs.Faults.{early_put_fault, read_count, read_fault, read_shown, subscribed_count, subscription_fault, too_many}
use Rattle.ca_model.specs.Images.{base_type_of, image_of, image_type_of, lacks_conversion_to, lacks_type}
use Rattle.ca_model.specs.Server.{OpenChannel, Server, ServerEnd, Subscription, key_of, with_events, without_subscriptions}
use Rattle.ca_model.specs.ServerSteps.{Acts, TakesIn, known_channel, known_record, without_channel}
use Rattle.ca_model.specs.Speech.{In, Stored}
use Rattle.ca_server_circuit.specs.declared.seek.Seat.{Seat}
use Rattle.ca_server_circuit.specs.declared.step.FollowUp.{FollowUp}
use Rattle.ca_server_circuit.specs.declared.step.FollowUp.TheVariants as effect
use Rattle.ca_server_circuit.specs.Creating.{Creation, IsCreation, creation_replies, with_channel}
use Rattle.ca_server_circuit.specs.Handling.{Recorded, known, replied}
use Rattle.ca_server_circuit.specs.Seeking.{IsServed, IsStray}
use Rattle.ca_server_circuit.specs.Showing.{AnswersRead}
use Rattle.ca_server_circuit.specs.Sound.{EndIsSound}
use Rattle.ca_dbr.specs.Octets.{AreBytes}
use Rattle.ca_server_circuit.proofs.Created.{is-created, not-created, taken-known}
use Rattle.ca_server_circuit.proofs.Dues.{IsDueFor, command_at, due-of}
use Rattle.ca_server_circuit.proofs.Handled.{does-nothing}
use Rattle.ca_server_circuit.proofs.Known.{serves}
use Rattle.ca_dbr.proofs.LongBytes.{reading}
use Rattle.ca_server_circuit.proofs.Replying.{served-read, stray-due, stray-event, stray-read}
use Rattle.ca_server_circuit.proofs.Tables.{find-at, wire-under}
use Rattle.ca_server_circuit.proofs.Taken.{put_in}

-- ---- faults

none-is : {A : Type 0} (n : ℕ) → (let none : Option ℕ = None in Some n ≡ none) → A
none-is n e = absurd cc

-- without a fault each test fails
faultless : (b : Bool) (status : ℕ) (others : List (Bool × ℕ)) → first_fault ((b, status) ∷ others) ≡ None → (b ≡ false) × (first_fault others ≡ None)
faultless true status others is = none-is status is
faultless false status others is = (refl, is)

faultless-2 : (a b : Bool) (p q : ℕ) → first_fault ((a, p) ∷ (b, q) ∷ []) ≡ None → (a ≡ false) × (b ≡ false)
faultless-2 a b p q is = (let one = faultless a p ((b, q) ∷ []) is in (one.0, (faultless b q [] one.1).0))

faultless-3 : (a b c : Bool) (p q r : ℕ) → first_fault ((a, p) ∷ (b, q) ∷ (c, r) ∷ []) ≡ None → (a ≡ false) × ((b ≡ false) × (c ≡ false))
faultless-3 a b c p q r is = (let one = faultless a p ((b, q) ∷ (c, r) ∷ []) is in (one.0, faultless-2 b c q r one.1))

faultless-5 : (a b c d e : Bool) (p q r s t : ℕ) → first_fault ((a, p) ∷ (b, q) ∷ (c, r) ∷ (d, s) ∷ (e, t) ∷ []) ≡ None → (b ≡ false) × ((c ≡ false) × ((d ≡ false) × (e ≡ false)))
faultless-5 a b c d e p q r s t is =
    let one = faultless a p ((b, q) ∷ (c, r) ∷ (d, s) ∷ (e, t) ∷ []) is in
    let two = faultless b q ((c, r) ∷ (d, s) ∷ (e, t) ∷ []) one.1 in
    (two.0, faultless-3 c d e r s t two.1)

pub faultless-6 : (a b c d e f : Bool) (p q r s t u : ℕ) → first_fault ((a, p) ∷ (b, q) ∷ (c, r) ∷ (d, s) ∷ (e, t) ∷ (f, u) ∷ []) ≡ None → (c ≡ false) × ((d ≡ false) × ((e ≡ false) × (f ≡ false)))
faultless-6 a b c d e f p q r s t u is = faultless-5 b c d e f q r s t u (faultless a p ((b, q) ∷ (c, r) ∷ (d, s) ∷ (e, t) ∷ (f, u) ∷ []) is).1

-- an EVENT_ADD without a fault leaves no more subscriptions than there may be
few-others : (r : RecordState) (bits : ℕ) (used : Bool) (others : ℕ) (m : Fields) (o : Option ImageType) → subscription_fault r bits used others m o ≡ None → others < 288
few-others r bits used others m None is = none-is bad_type is
few-others r bits used others m (Some t) is =
    ltb-true others 288 (not-false (nat_lt others 288) (faultless-6 (lacks_type (display_of r.value) t) (not (may_read bits)) (nat_lt (length m.payload) 16 || (mask_in m % 16 == 0 || used)) (too_many r t (subscribed_count r m)) (lacks_conversion_to (display_of r.value) r.value (base_in t)) (not (nat_lt others 288)) bad_type no_read_access add_fail bad_count no_convert add_fail is).1.1.1)
  where
    not-false : (b : Bool) → not b ≡ false → b ≡ true
    not-false true e = refl
    not-false false e = absurd cc

shown-ok : (c : Result Elements Refusal) → lacks_conversion c ≡ false → has_misfit c ≡ false → (e : Elements) × (c ≡ Ok e)
shown-ok (Ok e) a b = (e, refl)
shown-ok (Err refusal.NoConvert) a b = absurd cc
shown-ok (Err _) a b = absurd cc

-- ---- a read

answer-of : (r : RecordState) (bits : ℕ) (m : Fields) (o : Option ImageType) → image_type_of m.data_type ≡ o → (f : Option ℕ) → read_fault r bits m o ≡ f → (reply : Fields) × AnswersRead r bits m reply
answer-of r bits m None is f fault = (status_reply m bad_type, inl (bad_type, ap (λ (o : Option ImageType). read_fault r bits m o) is, refl))
answer-of r bits m (Some t) is (Some st) fault = (status_reply m st, inl (st, ap (λ (o : Option ImageType). read_fault r bits m o) is ∙ fault, refl))
answer-of r bits m (Some t) is None fault =
    let shows = faultless-5 (lacks_type (display_of r.value) t) (not (may_read bits)) (too_many r t (read_count r m)) (lacks_conversion (read_shown r m t)) (has_misfit (read_shown r m t)) bad_type no_read_access bad_count no_convert get_fail fault in
    let x = shown-ok (read_shown r m t) shows.1.1.0 shows.1.1.1 in
    (value_reply m (count_of x.0) (image_of r.value t x.0 r.meta), inr (ap (λ (o : Option ImageType). read_fault r bits m o) is ∙ fault, (t, x.0, is, x.1, refl)))

-- ---- a put

-- what a put on a channel comes to, once its elements were read
late-of : (k : Knows) (m : Fields) (c : Serves k m.p1) (e : Elements) → early_fault k m c ≡ None → PutReads m e → (f : Option ℕ) → late_fault k m c e ≡ f → ((status : ℕ) × PutRefused k m c status) ⊎ ((value : Elements) × PutTaken k m c value)
late-of k m c e early reads (Some st) late = inl (st, inr (early, (e, reads, late)))
late-of k m c e early reads None late =
    let ok = faultless-3 _ _ _ _ _ _ late in
    let x = shown-ok (given_as e (kind_of c.known.state.value)) ok.0 ok.1.0 in
    inr (x.0, record { elements = e; early = early; reads = reads; late = late; is = x.1 })

outcome : (k : Knows) (m : Fields) (c : Serves k m.p1) → AreBytes m.payload → (o : Option BaseType) → base_type_of m.data_type ≡ o → (f : Option ℕ) → early_fault k m c ≡ f → ((status : ℕ) × PutRefused k m c status) ⊎ ((value : Elements) × PutTaken k m c value)
outcome k m c are o is (Some st) early = inl (st, inl early)
outcome k m c are None is None early =
    none-is bad_type (sym (ap (λ (o : Option BaseType). early_put_fault c.known.state (rights k.rules k.peer.user k.peer.host c.channel.name) m o) is) ∙ early)
outcome k m c are (Some b) is None early =
    let at_base = sym (ap (λ (o : Option BaseType). early_put_fault c.known.state (rights k.rules k.peer.user k.peer.host c.channel.name) m o) is) ∙ early in
    let few = (faultless-2 _ _ _ _ at_base).1 in
    let long = (or_parts _ _ (or_parts _ _ few).1).1 in
    let x = reading b m.count m.payload (ltb-false _ _ long) are in
    let reads : PutReads m x.0 = record { base = b; typed = is; reads = x.1 } in
    late-of k m c x.0 early reads (late_fault k m c x.0) refl

-- ---- a channel

-- a SID may be given
free-place : (t : Table OpenChannel) → has_free t ≡ true → (i : ℕ) × (p : Place OpenChannel) × At t i p × ((not (is_some p.value) && nat_lt p.generation last_generation) ≡ true)
free-place [] is = absurd cc
free-place (p ∷ t) is = go (not (is_some p.value) && nat_lt p.generation last_generation) refl is (λ h. free-place t h)
  where
    go : (b : Bool) → (not (is_some p.value) && nat_lt p.generation last_generation) ≡ b → (b || has_free t) ≡ true → (has_free t ≡ true → (i : ℕ) × (q : Place OpenChannel) × At t i q × ((not (is_some q.value) && nat_lt q.generation last_generation) ≡ true)) → (i : ℕ) × (q : Place OpenChannel) × At (p ∷ t) i q × ((not (is_some q.value) && nat_lt q.generation last_generation) ≡ true)
    go true e h rest = (0, p, refl, e)
    go false e h rest = (let r = rest h in (suc r.0, r.1, r.2, r.3))

none-of-it : (o : Option OpenChannel) (b : Bool) → (not (is_some o) && b) ≡ true → (o ≡ None) × (b ≡ true)
none-of-it None b is = (refl, is)
none-of-it (Some c) b is = absurd cc

may-give : (t : Table OpenChannel) → length t ≤ arena_slots → is_full t ≡ false → (h : Handle) × MayGive t h
may-give t few is = by (has_free t) refl
  where
    new-place : length t < arena_slots → (h : Handle) × MayGive t h
    new-place room =
        let there : place_at t (length t) ≡ blank = get_or_past t (length t) blank (omega arith) in (
          record { index = length t; generation = 1 },
          record {
            index = omega arith;
            slot = room;
            free = ap (λ (p : Place OpenChannel). p.value) there;
            next = sym (ap (λ (p : Place OpenChannel). p.generation + 1) there);
            last = omega arith;
          },
        )

    by : (b : Bool) → has_free t ≡ b → (h : Handle) × MayGive t h
    by true some =
        let f = free-place t some in
        let n = none-of-it f.1.value (nat_lt f.1.generation last_generation) f.3 in
        let there : place_at t f.0 ≡ f.1 = get_or_from_slice_get t f.0 f.1 blank f.2 in
        let within : f.0 < length t = At-within t f.0 f.1 f.2 in
        let below : f.1.generation < last_generation = ltb-true f.1.generation last_generation n.1 in (
          record { index = f.0; generation = f.1.generation + 1 },
          record {
            index = omega (arith, within);
            slot = omega (arith, within, few);
            free = ap (λ (p : Place OpenChannel). p.value) there ∙ n.0;
            next = sym (ap (λ (p : Place OpenChannel). p.generation + 1) there);
            last = omega (arith, below);
          },
        )
    by false none =
        elim (and_cases (nat_le arena_slots (length t)) (not (has_free t)) is) [
          | inl small ↦ new-place (leb-false arena_slots (length t) small)
          | inr other ↦ absurd (clash (has_free t) none other)
        ]
      where
        clash : (b : Bool) → b ≡ false → not b ≡ false → ⊥
        clash true p q = absurd cc
        clash false p q = absurd cc

-- whether a CID is in use
cid-used : (ks : List KnownChannel) (cid : ℕ) → ((c : KnownChannel) × In ks c × (c.cid ≡ cid)) ⊎ ((c : KnownChannel) × In ks c × (c.cid ≡ cid) → ⊥)
cid-used [] cid = inr (λ u. none-in u.0 u.1.0 u.1.1)
  where
    none-in : (c : KnownChannel) (i : ℕ) → (let none : List KnownChannel = [] in At none i c) → ⊥
    none-in c i at = cc
cid-used (k ∷ ks) cid = go (k.cid == cid) refl (cid-used ks cid)
  where
    other : (k.cid == cid) ≡ false → k.cid ≡ cid → ⊥
    other a b = both (k.cid == cid) (eq-eqb k.cid cid b) a
      where
        both : (b : Bool) → b ≡ true → b ≡ false → ⊥
        both b p q = cc

    first : (c : KnownChannel) (i : ℕ) → At (k ∷ ks) i c → c.cid ≡ cid → (k.cid == cid) ≡ false → ((c : KnownChannel) × In ks c × (c.cid ≡ cid) → ⊥) → ⊥
    first c zero at same no_it none = other no_it (ap (λ (x : KnownChannel). x.cid) (some_is k c at) ∙ same)
    first c (suc i) at same no_it none = none (c, (i, at), same)

    go : (b : Bool) → (k.cid == cid) ≡ b → ((c : KnownChannel) × In ks c × (c.cid ≡ cid)) ⊎ ((c : KnownChannel) × In ks c × (c.cid ≡ cid) → ⊥) → ((c : KnownChannel) × In (k ∷ ks) c × (c.cid ≡ cid)) ⊎ ((c : KnownChannel) × In (k ∷ ks) c × (c.cid ≡ cid) → ⊥)
    go true yes_it rest = inl (k, (0, refl), eqb-true k.cid cid yes_it)
    go false no_it (inl u) = inl (u.0, (suc u.1.0, u.1.1), u.2)
    go false no_it (inr none) = inr (λ u. first u.0 u.1.0 u.1.1 u.2 no_it none)

-- the place of a record that is listed
at-present : (slots : List (Option Record)) (i : ℕ) (r : Record) → At (present slots) i r → (place : ℕ) × At slots place (Some r)
at-present [] i r at = absurd cc
at-present (None ∷ xs) i r at = (let p = at-present xs i r at in (suc p.0, p.1))
at-present (Some x ∷ xs) zero r at = (0, ap (λ (y : Record). let o : Option Record = Some y in Some o) (some_is x r at))
at-present (Some x ∷ xs) (suc i) r at = (let p = at-present xs i r at in (suc p.0, p.1))

-- ---- what could be done

-- something is due for the message, and this could be done
pub record Could (port : ℕ) (s : Store) (h : Handle) (e : ServerEnd) (m : Fields) : Type 0 where
  pub replies : List Fields
  pub action : Action
  pub due : Due (known port s e) m replies action
  pub acted : ServerEnd
  pub acts : (y : Server) → y.records ≡ records_of s → Acts y e action acted
  pub after : List Record
  pub records : Recorded (records_of s) s.stamp h e m action after

-- the same for one command
record Part (port : ℕ) (s : Store) (h : Handle) (e : ServerEnd) (m : Fields) (c : Command) : Type 0 where
  pub replies : List Fields
  pub action : Action
  pub due : IsDueFor (known port s e) m replies action c
  pub acted : ServerEnd
  pub acts : (y : Server) → y.records ≡ records_of s → Acts y e action acted
  pub after : List Record
  pub records : Recorded (records_of s) s.stamp h e m action after

module _ (port : ℕ) (s : Store) (h : Handle) (e : ServerEnd) (m : Fields) (sound : EndIsSound (records_of s) h e) (are : AreBytes m.payload) where
  abbrev k : Knows
  k = known port s e

  -- only replies are due
  quiet : (c : Command) (replies : List Fields) → IsDueFor (known port s e) m replies Nothing c → Part port s h e m c
  quiet c replies due = record {
    replies = replies;
    action = Nothing;
    due = due;
    acted = e;
    acts = λ y same. refl;
    after = records_of s;
    records = refl;
  }

  -- what a SID stands for
  seek-at : (c : Handle × OpenChannel) (b : Bool) → by_wire e.channels m.p1 ≡ Some c → c.1.retired ≡ b → ((seat : Seat) × IsServed s e m.p1 seat) ⊎ ((cid : ℕ) × IsStray e m.p1 cid)
  seek-at c true is gone = inr (c.1.cid, inr (c, is, gone, refl))
  seek-at c false is live =
      let u = wire-under e.channels m.p1 c is in
      let r = sound.served c.0 c.1 u.0 live in
      let f = find-at (λ (x : Record). bytes_eq x.state.name c.1.name) (records_of s) r.0 r.1 in
      let p = at-present s.slots f.0 r.0 f.1 in
      inl (
        record { channel = c.0; cid = c.1.cid; place = p.0 },
        record { channel = c.1; held = is; there = live; cid = refl; r = r.0; at = p.1; named = (bytes_eq-Decides r.0.state.name c.1.name).0 f.2; found = r.1 },
      )

  seek : (o : Option (Handle × OpenChannel)) → by_wire e.channels m.p1 ≡ o → ((seat : Seat) × IsServed s e m.p1 seat) ⊎ ((cid : ℕ) × IsStray e m.p1 cid)
  seek None is = inr (no_cid, inl (is, refl))
  seek (Some c) is = seek-at c c.1.retired is refl

  sought : ((seat : Seat) × IsServed s e m.p1 seat) ⊎ ((cid : ℕ) × IsStray e m.p1 cid)
  sought = seek (by_wire e.channels m.p1) refl

  -- names
  name-part : (c : Command) (p : Peer) (b : Bool) → e.settled ≡ b → ((a : Action) → a ≡ named k p → IsDueFor k m [] a c) → Part port s h e m c
  name-part c p true is due = quiet c [] (due Nothing (sym (ap (λ (x : Bool). if x then Nothing else Names p) is)))
  name-part c p false is due = record {
    replies = [];
    action = Names p;
    due = due (Names p) (sym (ap (λ (x : Bool). if x then Nothing else Names p) is));
    acted = (let new : ServerEnd = record e { peer = p } in new);
    acts = λ y same. refl;
    after = records_of s;
    records = refl;
  }

  -- CREATE_CHAN
  creation : (new : ServerEnd) → Creation port s e m new → Part port s h e m command.CreateChannel
  creation new c = record {
    replies = c.replies;
    action = c.action;
    due = c.due;
    acted = c.acted;
    acts = λ y same. c.acts y;
    after = records_of s;
    records = c.quiet h;
  }

  create-with : (r : Record) → record_named (records_of s) (text_in m.payload) ≡ Some r → (CidTaken k m.p1) ⊎ (CidTaken k m.p1 → ⊥) → (b : Bool) → is_full e.channels ≡ b → Part port s h e m command.CreateChannel
  create-with r named (inl taken) b full = creation (replied (failed_reply m ∷ []) e) (not-created port s e (replied (failed_reply m ∷ []) e) m (inr (inl taken)) refl)
  create-with r named (inr new) true full = creation (replied (failed_reply m ∷ []) e) (not-created port s e (replied (failed_reply m ∷ []) e) m (inr (inr full)) refl)
  create-with r named (inr new) false room =
      let g = may-give e.channels sound.few room in
      let did : FollowUp = effect.Opened 0 (wire_of g.0) in
      let is : IsCreation s e m 0 did (replied (creation_replies s e m r.state (wire_of g.0)) (with_channel g.0 m e)) = record { r = r; named = named; h = g.0; may = g.1; tells = refl; leaves = refl } in
      creation _ (is-created port s e (replied (creation_replies s e m r.state (wire_of g.0)) (with_channel g.0 m e)) m 0 did sound.few (λ used. new (taken-known port s e m.p1 used)) is)

  create : (o : Option Record) → record_named (records_of s) (text_in m.payload) ≡ o → Part port s h e m command.CreateChannel
  create None none = creation (replied (failed_reply m ∷ []) e) (not-created port s e (replied (failed_reply m ∷ []) e) m (inl (ap (λ (o : Option Record). option_map known_record o) none)) refl)
  create (Some r) named = create-with r named (cid-used (map known_channel (held e.channels)) m.p1) (is_full e.channels) refl

  -- READ_NOTIFY
  read : ((seat : Seat) × IsServed s e m.p1 seat) ⊎ ((cid : ℕ) × IsStray e m.p1 cid) → Part port s h e m command.ReadNotify
  read (inl x) =
      let bits : ℕ = rights s.rules e.peer.user e.peer.host x.1.channel.name in
      let a = answer-of x.1.r.state bits m (image_type_of m.data_type) refl (read_fault x.1.r.state bits m (image_type_of m.data_type)) refl in
      let r = served-read port s e (replied (a.0 ∷ []) e) m a.0 x.0 x.1 a.1 refl in
      quiet command.ReadNotify r.replies r.due
  read (inr x) = (let r = stray-read port s e (replied (status_reply m bad_channel ∷ []) e) m x.0 x.1 refl in quiet command.ReadNotify r.replies r.due)

  -- WRITE and WRITE_NOTIFY
  write : ((seat : Seat) × IsServed s e m.p1 seat) ⊎ ((cid : ℕ) × IsStray e m.p1 cid) → Part port s h e m command.Write
  write (inr x) = quiet command.Write (error_reply x.0 bad_channel m ∷ []) (inr (stray-due port s e m x.0 (λ c. error_reply c bad_channel m) x.1))
  write (inl x) =
      let c = serves port s e m.p1 x.0 x.1 in
      elim (outcome k m c are (base_type_of m.data_type) refl (early_fault k m c) refl) [
        | inl r ↦ quiet command.Write (error_reply c.channel.cid r.0 m ∷ []) (inl (c, inl (r.0, r.1, refl, refl)))
        | inr v ↦ record {
          replies = [];
          action = Applies c.channel.name v.0 false;
          due = inl (c, inr (v.0, v.1, refl, refl));
          acted = e;
          acts = λ y same. refl;
          after = with_record c.channel.name (with_value v.0 (written_meta v.0 s.stamp)) (records_of s);
          records = refl;
        }
      ]

  put-acts : (n : List ℕ) (v : Elements) (wait slow : Bool) (y : Server) → Acts y e (if wait then Waits n v else Applies n v slow) e
  put-acts n v true slow y = refl
  put-acts n v false slow y = refl

  put-records : (seat : Seat) (i : IsServed s e m.p1 seat) (n : List ℕ) (v : Elements) (wait slow : Bool) → (after : List Record) × Recorded (records_of s) s.stamp h e m (if wait then Waits n v else Applies n v slow) after
  put-records seat i n v true slow =
      (with_record n (with_waiting (record { put = put_in h seat m; value = v })) (records_of s), (put_in h seat m, ((seat.channel, i.channel), i.held, refl), refl))
  put-records seat i n v false true =
      (with_record n (λ (r : Record). record (with_value v (written_meta v s.stamp) r) { busy = Some (put_in h seat m) }) (records_of s), (put_in h seat m, ((seat.channel, i.channel), i.held, refl), refl))
  put-records seat i n v false false = (with_record n (with_value v (written_meta v s.stamp)) (records_of s), refl)

  put : ((seat : Seat) × IsServed s e m.p1 seat) ⊎ ((cid : ℕ) × IsStray e m.p1 cid) → Part port s h e m command.WriteNotify
  put (inr x) = quiet command.WriteNotify (status_reply m bad_channel ∷ []) (inr (stray-due port s e m x.0 (λ c. status_reply m bad_channel) x.1))
  put (inl x) =
      let c = serves port s e m.p1 x.0 x.1 in
      elim (outcome k m c are (base_type_of m.data_type) refl (early_fault k m c) refl) [
        | inl r ↦ quiet command.WriteNotify (status_reply m r.0 ∷ []) (inl (c, inl (r.0, r.1, refl, refl)))
        | inr v ↦ (let a = put-records x.0 x.1 c.channel.name v.0 (must_wait k m c) c.known.state.slow in record {
          replies = (if c.known.state.slow then [] else status_reply m normal ∷ []);
          action = (if must_wait k m c then Waits c.channel.name v.0 else Applies c.channel.name v.0 c.known.state.slow);
          due = inl (c, inr (v.0, v.1, refl, refl));
          acted = e;
          acts = λ y same. put-acts c.channel.name v.0 (must_wait k m c) c.known.state.slow y;
          after = a.0;
          records = a.1;
        })
      ]

  -- EVENT_ADD
  begun : (x : Subscription) (v : Stored) → length e.subscriptions < 288 → (new : ServerEnd) × TakesIn x v e new
  begun x v few =
      let r = sound.room few in (
        record e { subscriptions = e.subscriptions ++ x ∷ []; queues = slice_set e.queues r.0 (posted (key_of x) v (added (key_of x) r.1)) },
        record { place = r.0; q = r.1; at = r.2.0; room = r.2.1; first = r.2.2; leaves = refl },
      )

  event-of : (seat : Seat) (i : IsServed s e m.p1 seat) (f : Option ℕ) → fault_of_event k m (serves port s e m.p1 seat i) ≡ f → Part port s h e m command.EventAdd
  event-of seat i (Some st) fault = quiet command.EventAdd (error_reply i.channel.cid st m ∷ []) (inl (serves port s e m.p1 seat i, inl (st, fault, refl, refl)))
  event-of seat i None fault =
      let x : Subscription = subscription_in m i.channel.name in
      let v : Stored = record { value = i.r.state.value; meta = i.r.state.meta } in
      let all : length (map key_of e.subscriptions) ≡ length e.subscriptions = length-map e.subscriptions key_of in
      let few = few-others i.r.state (rights s.rules e.peer.user e.peer.host i.channel.name) (is_among (key_in m) (map key_of e.subscriptions)) (length (map key_of e.subscriptions)) m (image_type_of m.data_type) fault in
      let new = begun x v (omega (arith, few, all)) in
      record {
        replies = [];
        action = Adds x;
        due = inl (serves port s e m.p1 seat i, inr (fault, refl, refl));
        acted = new.0;
        acts = λ y same. (i.r, subst (λ (rs : List Record). record_named rs i.channel.name ≡ Some i.r) (sym same) i.found, new.1);
        after = records_of s;
        records = refl;
      }

  event : ((seat : Seat) × IsServed s e m.p1 seat) ⊎ ((cid : ℕ) × IsStray e m.p1 cid) → Part port s h e m command.EventAdd
  event (inl x) = event-of x.0 x.1 (fault_of_event k m (serves port s e m.p1 x.0 x.1)) refl
  event (inr x) = (let r = stray-event port s e (replied (error_reply x.0 bad_channel m ∷ []) e) m x.0 x.1 refl in quiet command.EventAdd r.replies r.due)

  done : (c : Command) (replies : List Fields) (a : Action) (acted : ServerEnd) → IsDueFor k m replies a c → ((y : Server) → Acts y e a acted) → Recorded (records_of s) s.stamp h e m a (records_of s) → Part port s h e m c
  done c replies a acted due acts recorded = record {
    replies = replies;
    action = a;
    due = due;
    acted = acted;
    acts = λ y same. acts y;
    after = records_of s;
    records = recorded;
  }

  part : (c : Command) → Part port s h e m c
  part command.Version = done command.Version (if e.greeted then [] else version_reply ∷ []) Greets (let new : ServerEnd = record e { greeted = true } in new) (refl, refl) (λ y. refl) refl
  part command.ClientName = name-part command.ClientName (let p : Peer = record e.peer { user = text_in m.payload } in p) e.settled refl (λ a is. (refl, is))
  part command.HostName = name-part command.HostName (let p : Peer = record e.peer { host = text_in m.payload } in p) e.settled refl (λ a is. (refl, is))
  part command.Echo = quiet command.Echo (header_only command.Echo ∷ []) (refl, refl)
  part command.Search = quiet command.Search (search_due k m) (refl, refl)
  part command.CreateChannel = create (record_named (records_of s) (text_in m.payload)) refl
  part command.ReadNotify = read sought
  part command.Write = write sought
  part command.WriteNotify = put sought
  part command.EventAdd = event sought
  part command.EventCancel = done command.EventCancel (cancel_reply m ∷ []) (Drops (key_in m)) (without_subscriptions (same (key_in m)) e) (refl, refl) (λ y. refl) refl
  part command.EventsOff = done command.EventsOff [] (Switches false) (with_events false e) (refl, refl) (λ y. refl) refl
  part command.EventsOn = done command.EventsOn [] (Switches true) (with_events true e) (refl, refl) (λ y. refl) refl
  part command.ClearChannel = record {
    replies = cleared_reply m ∷ [];
    action = Clears m.p1;
    due = (refl, refl);
    acted = without_channel m.p1 e;
    acts = λ y same. refl;
    after = withdrawn (λ (p : Put). same_handle p.circuit h && wire_of p.channel == m.p1) (records_of s);
    records = refl;
  }
  part c = quiet c [] tt

  both-known : (b : Bool) → b ≡ true → b ≡ false → ⊥
  both-known b p q = cc

  could-be : (b : Bool) → is_known m.command ≡ b → Could port s h e m
  could-be true yes_it =
      let p = part (command_at m.command) in
      record {
        replies = p.replies;
        action = p.action;
        due = due-of k m p.replies p.action p.due (λ no_it. absurd (both-known (is_known m.command) yes_it no_it));
        acted = p.acted;
        acts = p.acts;
        after = p.after;
        records = p.records;
      }
  could-be false no_it =
      let d = does-nothing port s h e m no_it in
      record {
        replies = d.replies;
        action = d.action;
        due = d.due;
        acted = d.acted;
        acts = d.acts;
        after = records_of s;
        records = d.records;
      }

  pub could : Could port s h e m
  could = could-be (is_known m.command) refl
