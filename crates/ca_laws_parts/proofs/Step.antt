-- A step of a server: what a message does to records and log.
use Rattle.std.proofs.Common.{◌≡◌, ℕ, ◌+◌, ◌<◌, ◌≤◌, inl, Bool, true, false, ◌&&◌, eqb, eq-eqb, eqb-true, List, [], ◌∷◌, ◌++◌, length, Option, Some, None, refl, sym, ap, subst, ◌∙◌, append-nil, arith}
use Rattle.std.specs.Prelude.{is_some, option_map, slice_get, unwrap_or}
use Rattle.ca_arena.specs.declared.handle.Handle.{Handle}
use Rattle.ca_text.specs.declared.command.Command.TheVariants as command
use Rattle.ca_text.specs.Place.{At}
use Rattle.ca_text.proofs.Places.{some_is, At-one}
use Rattle.ca_dbr.specs.Elements.{Elements}
use Rattle.ca_dbr.specs.Held.{kind_of}
use Rattle.ca_records.specs.Given.{given_as}
use Rattle.ca_records.proofs.Givens.{given-kind}
use Rattle.ca_ids.specs.Table.{held, same_handle}
use Rattle.ca_ids.specs.Wire.{wire_of}
use Rattle.ca_records.specs.declared.puts.Put.{Put}
use Rattle.ca_records.specs.Puts.{Record, WaitingPut, record_named, with_record, with_value, with_waiting, written_meta}
use Rattle.ca_model.specs.Due.{Action, Applies, Due, KnownRecord}
use Rattle.ca_model.specs.Due as action
use Rattle.ca_model.specs.Server.{OpenChannel, Server, ServerEnd}
use Rattle.ca_model.specs.ServerSteps.{IsPut, Records, knows, known_record, stored_now}
use Rattle.ca_model.specs.Speech.{Is, Stored, sid_in}
use Rattle.ca_model.specs.History.{Applied, Circuit, Entry, Sent, Waits}
use Rattle.ca_model.specs.Channels.{IsHandledIn, IsTaken}
use Rattle.ca_model.specs.ServerEvents.{is_of_channel, logged_by, number_of, records_after}
use Rattle.ca_model.specs.ServerEvents as event
use Rattle.ca_model.specs.World.{Joined, PutPlace, RecordSide}
use Rattle.ca_wire.specs.Fields.{Fields}
use Rattle.ca_laws_parts.specs.Agrees.{Agrees, LoseAll, TestsAgree, WaitsAs}
use Rattle.ca_laws_parts.specs.Lives.{CameOn, IsPutOf, IsWriting, Life, LostOn, WritesTo}
use Rattle.ca_laws_parts.specs.Taken.{Comes, Takes}
use Rattle.ca_laws_parts.proofs.Doing.{clears-only, due-applies, due-waits, writes-only}
use Rattle.ca_laws_parts.proofs.WritesEvents.{Found, find-at, found}
use Rattle.ca_laws_parts.proofs.Leaving.{agree-cleared}
use Rattle.ca_laws_parts.proofs.WritesLists.{beside-left, beside-right, both-at}
use Rattle.ca_laws_parts.proofs.WritesLives.{agree-applied, agree-busied, agree-waits, number-of}

-- the record that a server knows under a name
pub known-one : (cs : List Record) (name : List ℕ) (known : KnownRecord) → option_map known_record (record_named cs name) ≡ Some known → (c : Record) × (record_named cs name ≡ Some c) × (known_record c ≡ known)
known-one cs name known is = go (record_named cs name) refl is
  where
    go : (o : Option Record) → record_named cs name ≡ o → option_map known_record o ≡ Some known → (c : Record) × (record_named cs name ≡ Some c) × (known_record c ≡ known)
    go None e h = absurd cc
    go (Some c) e h = (c, e, some_is (known_record c) known h)

idle-none : (o : Option Put) → is_some o ≡ false → o ≡ None
idle-none None e = refl
idle-none (Some b) e = absurd cc

handle-bits : (a b : Handle) → a ≡ b → same_handle a b ≡ true
handle-bits a b is = subst (λ (z : Handle). same_handle a z ≡ true) is (ap (λ (t : Bool). t && eqb a.generation a.generation) (eq-eqb a.index a.index refl) ∙ eq-eqb a.generation a.generation refl)

pair-true : (a b : Bool) → a && b ≡ true → (a ≡ true) × (b ≡ true)
pair-true true true e = (refl, refl)
pair-true true false e = absurd cc
pair-true false b e = absurd cc

bits-handle : (a b : Handle) → same_handle a b ≡ true → a ≡ b
bits-handle a b e =
    let p = pair-true (eqb a.index b.index) (eqb a.generation b.generation) e in
    ap (λ (n : ℕ). let x : Handle = record { index = n; generation = a.generation } in x) (eqb-true a.index b.index p.0)
    ∙ ap (λ (n : ℕ). let x : Handle = record { index = b.index; generation = n } in x) (eqb-true a.generation b.generation p.1)

-- the put at a place is one of the channel of this SID, on the circuit of this handle
at-channel : List Joined → Handle → (sid : ℕ) → PutPlace → Bool
at-channel circuits h sid p =
    unwrap_or (option_map (λ (c : Joined). unwrap_or (option_map (λ (s : Sent). same_handle c.at_server h && eqb (sid_in s.message) sid) (slice_get c.lists.up p.place)) false) (slice_get circuits p.circuit)) false

at-channel-is : (circuits : List Joined) (h : Handle) (sid : ℕ) (p : PutPlace) (c : Joined) (s : Sent) → At circuits p.circuit c → At c.lists.up p.place s → at-channel circuits h sid p ≡ same_handle c.at_server h && eqb (sid_in s.message) sid
unfolding at-channel
at-channel-is circuits h sid p c s on sent =
    ap (λ (o : Option Joined). unwrap_or (option_map (λ (x : Joined). unwrap_or (option_map (λ (t : Sent). same_handle x.at_server h && eqb (sid_in t.message) sid) (slice_get x.lists.up p.place)) false) o) false) on
    ∙ ap (λ (o : Option Sent). unwrap_or (option_map (λ (t : Sent). same_handle c.at_server h && eqb (sid_in t.message) sid) o) false) sent

module _ (N : List Joined) (i life : ℕ) (log : List Entry) (rs : List RecordSide) (n : ℕ) (old : Server) (Taken : Circuit → (k i : ℕ) → Type 0) (h : Handle) (e : ServerEnd) (p : PutPlace) (s : Sent) (t : Comes N i life log Taken h p s) (a : Life N i life log old.records rs n) where
  -- where the message's write comes from
  came-on : (name : List ℕ) (value : Elements) → WritesTo (knows old e) s.message name value → IsWriting s.message → CameOn N life Taken p (length log) value
  came-on name value to writes = record {
    c = t.d;
    on = t.on;
    joins = t.joins;
    s = s;
    sent = t.sent;
    writes = writes;
    given = to.given;
    reads = to.reads;
    is = ap (λ (b : _). given_as to.given b) (given-kind to.given (kind_of to.known.state.value) value to.is) ∙ to.is;
    taken = t.taken;
  }

  -- the record that it writes
  pub record Written (name : List ℕ) (value : Elements) : Type 0 where
    pub c : Record
    pub f : Found (IsPutOf N i) log old.records rs name c
    pub base : kind_of value ≡ kind_of c.state.value
    pub number : number_of name rs ≡ f.r.number

  written : (name : List ℕ) (value : Elements) (to : WritesTo (knows old e) s.message name value) → (w : Written name value) × (known_record w.c ≡ to.known)
  written name value to =
      let k = known-one old.records name to.known to.named in
      let f = found (IsPutOf N i) log old.records rs name k.0 a.each k.1 in (
        record {
          c = k.0;
          f = f;
          base = given-kind to.given (kind_of to.known.state.value) value to.is ∙ ap (λ (x : KnownRecord). kind_of x.state.value) (sym k.2);
          number = ap (λ (m : List ℕ). number_of m rs) (sym f.named) ∙ number-of rs f.i f.r a.others f.in_rs;
        },
        k.2,
      )

  -- the put that it is
  put-of : (b : Put) → IsPut h e s.message b → Is command.WriteNotify s.message → IsPutOf N i p b
  put-of b is asks =
      let f = find-at (λ (x : Handle × OpenChannel). eqb (wire_of x.0) s.message.p1) (held e.channels) is.0 is.1 in
      record {
        c = t.d;
        on = t.on;
        of = t.of;
        handle = ap (λ (x : Put). x.circuit) is.2 ∙ sym t.handle;
        s = s;
        sent = t.sent;
        asks = asks;
        sid = ap (λ (x : Put). wire_of x.channel) is.2 ∙ eqb-true (wire_of is.0.0) s.message.p1 f.2;
        ioid = ap (λ (x : Put). x.ioid) is.2;
      }

-- A write that comes is applied, when it is handled or as its circuit closes: records and
-- log go on in agreement.
pub life-write : (N : List Joined) (i life : ℕ) (log : List Entry) (rs : List RecordSide) (n : ℕ) (old : Server) (h : Handle) (e : ServerEnd) (p : PutPlace) (s : Sent) (replies : List Fields) (name : List ℕ) (value : Elements) (busies : Bool) (new : Server) → Comes N i life log IsTaken h p s → Due (knows old e) s.message replies (Applies name value busies) → Records old h e s.message (Applies name value busies) new → Life N i life log old.records rs n
    → Life N i life (log ++ logged_by old h p (Applies name value busies) rs) new.records (records_after old h p (Applies name value busies) rs) n
life-write N i life log rs n old h e p s replies name value false new t due makes a =
    let d = due-applies (knows old e) s.message replies name value false due in
    let w = written N i life log rs n old IsTaken h e p s t a name value d.0 in
    let f = w.0.f in
    let v : Stored = stored_now old value in
    let origin = came-on N i life log rs n old IsTaken h e p s t a name value d.0 (writes-only (knows old e) s.message replies (Applies name value false) due tt) in
    let after = agree-applied (CameOn N life) (LostOn N) (IsPutOf N i) log old.records rs n f.i w.0.c f.r p v f.in_cs f.in_rs t.untold origin w.0.base a in
    subst (λ (cs : List Record). Life N i life (log ++ logged_by old h p (Applies name value false) rs) cs rs n) (ap (λ (x : Server). x.records) (sym makes))
    (subst (λ (m : ℕ). Life N i life (log ++ Applied p.circuit p.place m v false ∷ []) (with_record name (with_value value (written_meta value old.stamp)) old.records) rs n) (sym w.0.number)
    (subst (λ (m : List ℕ). Life N i life (log ++ Applied p.circuit p.place f.r.number v false ∷ []) (with_record m (with_value value (written_meta value old.stamp)) old.records) rs n) f.named after))
life-write N i life log rs n old h e p s replies name value true new t due makes a =
    let d = due-applies (knows old e) s.message replies name value true due in
    let more = d.1 refl in
    let w = written N i life log rs n old IsTaken h e p s t a name value d.0 in
    let f = w.0.f in
    let v : Stored = stored_now old value in
    let origin = came-on N i life log rs n old IsTaken h e p s t a name value d.0 (writes-only (knows old e) s.message replies (Applies name value true) due tt) in
    let b : Put = makes.0 in
    let slow : w.0.c.state.slow ≡ true = ap (λ (x : KnownRecord). x.state.slow) w.1 ∙ more.1 in
    let idle : w.0.c.busy ≡ None = idle-none w.0.c.busy (ap (λ (x : KnownRecord). x.busy) w.1 ∙ more.2) in
    let after = agree-busied (CameOn N life) (LostOn N) (IsPutOf N i) log old.records rs n f.i w.0.c f.r p b v f.in_cs f.in_rs idle t.untold origin w.0.base (put-of N i life log rs n old IsTaken h e p s t a b makes.1 more.0) slow a in
    subst (λ (cs : List Record). Life N i life (log ++ logged_by old h p (Applies name value true) rs) cs (records_after old h p (Applies name value true) rs) n) (ap (λ (x : Server). x.records) (sym makes.2))
    (subst (λ (m : ℕ). Life N i life (log ++ Applied p.circuit p.place m v true ∷ []) (with_record name (λ (r : Record). record (with_value value (written_meta value old.stamp) r) { busy = Some b }) old.records) (event.with_record name (λ (r : RecordSide). record r { busy = Some p }) rs) n) (sym w.0.number)
    (subst (λ (m : List ℕ). Life N i life (log ++ Applied p.circuit p.place f.r.number v true ∷ []) (with_record m (λ (r : Record). record (with_value value (written_meta value old.stamp) r) { busy = Some b }) old.records) (event.with_record m (λ (r : RecordSide). record r { busy = Some p }) rs) n) f.named after))

-- the write of a message that is handled, told in its step
comes-of : (N : List Joined) (i life : ℕ) (log : List Entry) (rs : List RecordSide) (h : Handle) (p : PutPlace) (s : Sent) (t : Takes N i life log rs h p s) → t.step.logged < t.step.after → Comes N i life log IsHandledIn h p s
comes-of N i life log rs h p s t grows = record {
  d = t.d;
  on = t.on;
  of = t.of;
  joins = t.joins;
  handle = t.handle;
  sent = t.sent;
  untold = t.untold;
  taken = (t.step, t.handled, (let l : t.step.logged ≡ length log = t.logged in omega (arith, l)), (let l : t.step.logged ≡ length log = t.logged in omega (arith, l, grows)));
}

-- and so it was taken
comes-taken : (N : List Joined) (i life : ℕ) (log : List Entry) (h : Handle) (p : PutPlace) (s : Sent) → Comes N i life log IsHandledIn h p s → Comes N i life log IsTaken h p s
comes-taken N i life log h p s t = record {
  d = t.d;
  on = t.on;
  of = t.of;
  joins = t.joins;
  handle = t.handle;
  sent = t.sent;
  untold = t.untold;
  taken = inl t.taken;
}

module _ (N : List Joined) (i life : ℕ) (log : List Entry) (rs : List RecordSide) (n : ℕ) (old : Server) (h : Handle) (e : ServerEnd) (p : PutPlace) (s : Sent) (t : Takes N i life log rs h p s) (a : Life N i life log old.records rs n) where
  nothing-done : (new : Server) → new ≡ old → Life N i life (log ++ []) new.records rs n
  nothing-done new is =
      subst (λ (l : List Entry). Life N i life l new.records rs n) (sym (append-nil log))
      (subst (λ (x : Server). Life N i life log x.records rs n) (sym is) a)

  -- a channel is cleared
  tests : (sid : ℕ) → TestsAgree (at-channel N h sid) (is_of_channel h sid) old.records rs
  tests sid j k c r q w in_cs in_rs at there =
      let g = both-at (Agrees (IsPutOf N i) log) old.records rs j c r a.each in_cs in_rs in
      let is = (both-at (WaitsAs (IsPutOf N i) log r.number) r.waiting c.waiting k q w g.each at there).1 in
      at-channel-is N h sid q is.c is.s is.on is.sent
      ∙ sym (ap (λ (x : Handle). same_handle x h && eqb (sid_in is.s.message) sid) is.handle)
      ∙ sym (ap (λ (x : ℕ). same_handle w.put.circuit h && eqb x sid) is.sid)

  lost : (sid : ℕ) → Is command.ClearChannel s.message → sid ≡ s.message.p1 → LoseAll (LostOn N) (at-channel N h sid) log rs
  lost sid clears sid_is = λ j r q in_rs waits named i2 le.
      let there = beside-right (Agrees (IsPutOf N i) log) old.records rs j r a.each in_rs in
      let w = beside-left (WaitsAs (IsPutOf N i) log r.number) r.waiting there.0.waiting waits.0 q there.2.each waits.1 in
      let is : IsPutOf N i q w.0.put = w.2.1 in
      let both = pair-true (same_handle is.c.at_server h) (eqb (sid_in is.s.message) sid) (sym (at-channel-is N h sid q is.c is.s is.on is.sent) ∙ named) in
      let on_it : is.c.at_server ≡ h = bits-handle is.c.at_server h both.0 in
      let b = t.before j r q is.c in_rs waits is.on on_it in
      let same : is.c ≡ t.d = At-one N p.circuit is.c t.d (subst (λ (m : ℕ). At N m is.c) b.0 is.on) t.on in
      let its : sid_in is.s.message ≡ sid = eqb-true (sid_in is.s.message) sid both.1 in
      record {
        c = is.c;
        on = is.on;
        s = is.s;
        sent = is.sent;
        why = inl (
          p.place,
          s,
          t.step,
          b.1,
          subst (λ (x : Joined). At x.lists.up p.place s) (sym same) t.sent,
          subst (λ (x : Joined). At x.lists.handled p.place t.step) (sym same) t.handled,
          (let l : t.step.logged ≡ length log = t.logged in omega (arith, l, le)),
          (clears, sym sid_is ∙ sym its),
        );
      }

-- What a message does to records and log: a write is applied or comes to wait, or the puts of a
-- channel are withdrawn. The step logs something if it writes.
pub life-step : (N : List Joined) (i life : ℕ) (log : List Entry) (rs : List RecordSide) (n : ℕ) (old : Server) (h : Handle) (e : ServerEnd) (p : PutPlace) (s : Sent) (replies : List Fields) (did : Action) (new : Server) → (t : Takes N i life log rs h p s) → t.step.logged + length (logged_by old h p did rs) ≤ t.step.after → Due (knows old e) s.message replies did → Records old h e s.message did new → Life N i life log old.records rs n
    → Life N i life (log ++ logged_by old h p did rs) new.records (records_after old h p did rs) n
life-step N i life log rs n old h e p s replies (Applies name value busies) new t grows due makes a =
    let lt : t.step.logged < t.step.after = (let g : t.step.logged + 1 ≤ t.step.after = grows in omega (arith, g)) in
    life-write N i life log rs n old h e p s replies name value busies new (comes-taken N i life log h p s (comes-of N i life log rs h p s t lt)) due makes a
life-step N i life log rs n old h e p s replies (action.Waits name value) new t grows due makes a =
    let d = due-waits (knows old e) s.message replies name value due in
    let lt : t.step.logged < t.step.after = (let g : t.step.logged + 1 ≤ t.step.after = grows in omega (arith, g)) in
    let c = comes-of N i life log rs h p s t lt in
    let w = written N i life log rs n old IsHandledIn h e p s c a name value d.0 in
    let f = w.0.f in
    let origin = came-on N i life log rs n old IsHandledIn h e p s c a name value d.0 (writes-only (knows old e) s.message replies (action.Waits name value) due tt) in
    let b : Put = makes.0 in
    let put : WaitingPut = record { put = b; value = value } in
    let after = agree-waits (CameOn N life) (LostOn N) (IsPutOf N i) log old.records rs n f.i w.0.c f.r p put (written_meta value old.stamp) f.in_cs f.in_rs w.0.base t.untold origin (put-of N i life log rs n old IsHandledIn h e p s c a b makes.1 d.1) a in
    subst (λ (cs : List Record). Life N i life (log ++ logged_by old h p (action.Waits name value) rs) cs (records_after old h p (action.Waits name value) rs) n) (ap (λ (x : Server). x.records) (sym makes.2))
    (subst (λ (m : ℕ). Life N i life (log ++ Waits p.circuit p.place m (stored_now old value) ∷ []) (with_record name (with_waiting put) old.records) (event.with_record name (λ (r : RecordSide). record r { waiting = r.waiting ++ p ∷ [] }) rs) n) (sym w.0.number)
    (subst (λ (m : List ℕ). Life N i life (log ++ Waits p.circuit p.place f.r.number (stored_now old value) ∷ []) (with_record m (with_waiting put) old.records) (event.with_record m (λ (r : RecordSide). record r { waiting = r.waiting ++ p ∷ [] }) rs) n) f.named after))
life-step N i life log rs n old h e p s replies (action.Clears sid) new t grows due makes a =
    let c = clears-only (knows old e) s.message replies sid due in
    let after = agree-cleared (CameOn N life) (LostOn N) (IsPutOf N i) log old.records rs n h sid (at-channel N h sid) (tests N i life log rs n old h e p s t a sid) (lost N i life log rs n old h e p s t a sid c.0 c.1) a in
    subst (λ (cs : List Record). Life N i life (log ++ logged_by old h p (action.Clears sid) rs) cs (records_after old h p (action.Clears sid) rs) n) (ap (λ (x : Server). x.records) (sym makes)) after
life-step N i life log rs n old h e p s replies action.Nothing new t grows due makes a = nothing-done N i life log rs n old h e p s t a new makes
life-step N i life log rs n old h e p s replies action.Greets new t grows due makes a = nothing-done N i life log rs n old h e p s t a new makes
life-step N i life log rs n old h e p s replies (action.Names x) new t grows due makes a = nothing-done N i life log rs n old h e p s t a new makes
life-step N i life log rs n old h e p s replies (action.Opens x) new t grows due makes a = nothing-done N i life log rs n old h e p s t a new makes
life-step N i life log rs n old h e p s replies (action.Adds x) new t grows due makes a = nothing-done N i life log rs n old h e p s t a new makes
life-step N i life log rs n old h e p s replies (action.Drops x) new t grows due makes a = nothing-done N i life log rs n old h e p s t a new makes
life-step N i life log rs n old h e p s replies (action.Switches x) new t grows due makes a = nothing-done N i life log rs n old h e p s t a new makes
