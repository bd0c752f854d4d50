-- What is due for a write, by what it came to on the record of its channel.
use Rattle.std.proofs.Common.{◌≡◌, ℕ, inl, inr, ◌==◌, ◌&&◌, Bool, true, false, List, [], ◌∷◌, length, is_some, if◌then◌else◌, Option, Some, None, refl, sym, ap, ◌∙◌, subst}
use Rattle.std.proofs.lemmas.List.{append-nil}
use Rattle.ca_text.specs.Command.{command_number}
use Rattle.ca_text.specs.declared.command.Command.TheVariants as command
use Rattle.ca_text.specs.Status.{normal}
use Rattle.ca_text.proofs.Places.{At-one, some_is}
use Rattle.ca_arena.specs.declared.handle.Handle.{Handle}
use Rattle.ca_dbr.specs.Elements.{Elements}
use Rattle.ca_records.specs.declared.puts.Begun.{Begun}
use Rattle.ca_records.specs.declared.puts.Begun.TheVariants as begun
use Rattle.ca_records.specs.declared.puts.Put.{Put}
use Rattle.ca_records.specs.Faults.{late_put_fault}
use Rattle.ca_records.specs.Puts.{Record, with_record, with_value, with_waiting, written_meta}
use Rattle.ca_records.specs.Rules.{rights}
use Rattle.ca_records.specs.Store.{Becomes, HasAt, Store, records_of}
use Rattle.ca_records.specs.Writes.{write_fault}
use Rattle.ca_wire.specs.Fields.{Fields}
use Rattle.ca_wire.specs.Messages.{error_reply, status_reply}
use Rattle.ca_model.specs.Due.{Action, Applies, Nothing, PutRefused, PutTaken, Serves, Waits, early_fault, late_fault}
use Rattle.ca_model.specs.Server.{ServerEnd}
use Rattle.ca_server_circuit.specs.declared.seek.Seat.{Seat}
use Rattle.ca_server_circuit.specs.declared.effect.Effect.TheVariants as told
use Rattle.ca_server_circuit.specs.declared.step.FollowUp.{FollowUp}
use Rattle.ca_server_circuit.specs.declared.step.FollowUp.TheVariants as effect
use Rattle.ca_server_circuit.specs.Handling.{Does, Puts, Writes, known, replied}
use Rattle.ca_server_circuit.specs.Putting.{IsRefused, IsTaken, early}
use Rattle.ca_server_circuit.specs.Seeking.{IsServed, IsStray}
use Rattle.ca_server_circuit.proofs.Known.{serves}
use Rattle.ca_server_circuit.proofs.Replying.{stray-due}
use Rattle.ca_server_circuit.proofs.Telling.{nothing-told}

-- no replies leave the end as it is
pub replied-none : (e : ServerEnd) → replied [] e ≡ e
replied-none e = ap (λ (o : List ℕ). let new : ServerEnd = record e { link = record e.link { output = o } } in new) (append-nil e.link.output)

-- what was done is done if the records are these
pub with-store : (D : List Fields → Action → Type 0) (s t : Store) (h : Handle) (e new : ServerEnd) (m : Fields) (w : FollowUp) → t ≡ s → Does D s h e m w s new → Does D s h e m w t new
with-store D s t h e new m w same d = subst (λ (x : Store). Does D s h e m w x new) (sym same) d

-- what was done is done under the SID that is told
pub with-sid : (D : List Fields → Action → Type 0) (s t : Store) (h : Handle) (e new : ServerEnd) (m : Fields) (place : ℕ) (busies : Bool) (sid n : ℕ) → n ≡ sid → Does D s h e m (effect.Wrote place busies sid) t new → Does D s h e m (effect.Wrote place busies n) t new
with-sid D s t h e new m place busies sid n same d = subst (λ (k : ℕ). Does D s h e m (effect.Wrote place busies k) t new) (sym same) d

-- a place has one record
pub one-record : (s : Store) (place : ℕ) (a b : Record) → HasAt s place a → HasAt s place b → a ≡ b
one-record s place a b at at' = some_is a b (At-one s.slots place (Some a) (Some b) at at')

module _ (port : ℕ) (s : Store) (e : ServerEnd) (m : Fields) (seat : Seat) (i : IsServed s e m.p1 seat) (bits : ℕ) (put : Option Put)
    (right : bits ≡ rights s.rules e.peer.user e.peer.host i.channel.name) (flag : (m.command == command_number command.WriteNotify) ≡ is_some put) where
  abbrev at : Serves (known port s e) m.p1
  at = serves port s e m.p1 seat i

  early-is : early_fault (known port s e) m at ≡ early i.r.state bits m
  early-is = ap (λ (n : ℕ). early i.r.state n m) (sym right)

  late-is : (x : Elements) → late_fault (known port s e) m at x ≡ write_fault i.r put x
  late-is x = ap (λ (b : Bool). late_put_fault i.r.state (b && is_some i.r.busy) (length i.r.waiting) x) flag

  pub wait-is : (b : Bool) → (is_some put && is_some i.r.busy) ≡ b → (m.command == command_number command.WriteNotify && is_some i.r.busy) ≡ b
  wait-is b h = ap (λ (c : Bool). c && is_some i.r.busy) flag ∙ h

  pub refused-as : (status : ℕ) → IsRefused i.r bits put m status → PutRefused (known port s e) m at status
  refused-as status (inl h) = inl (early-is ∙ h)
  refused-as status (inr h) = inr (early-is ∙ h.0, (h.1.0, h.1.1, late-is h.1.0 ∙ h.1.2))

  pub taken-as : (b : Begun) (next : Record) (t : IsTaken s i.r bits put m b next) → PutTaken (known port s e) m at t.v
  taken-as b next t = record {
    elements = t.e;
    early = early-is ∙ t.no_early;
    reads = t.reads;
    late = late-is t.e ∙ t.no_late;
    is = t.is;
  }

  -- the records after a change of this one
  pub changed-records : (next : Record) (t : Store) (f : Record → Record) → Becomes s seat.place i.r next t → f i.r ≡ next → records_of t ≡ with_record i.channel.name f (records_of s)
  changed-records next t f b is = b.records f is ∙ ap (λ (name : List ℕ). with_record name f (records_of s)) i.named

-- where a write was applied
wrote : (s t : Store) (place : ℕ) (busies : Bool) (sid : ℕ) (r next : Record) (name : List ℕ) (v : Elements) → Becomes s place r next t → r.state.name ≡ name → next.state.value ≡ v → next.state.meta ≡ written_meta v s.stamp
    → (at : ℕ) × (x : Record) × (effect.Wrote place busies sid ≡ effect.Wrote at busies sid) × HasAt t at x × (x.state.name ≡ name) × (x.state.value ≡ v) × (x.state.meta ≡ written_meta v t.stamp)
wrote s t place busies sid r next name v b named value meta =
    (place, next, refl, b.there, b.name ∙ named, value, meta ∙ sym (ap (λ (x : Store). written_meta v x.stamp) b.leaves))

-- ---- WRITE

no-put : {A : Type 0} (p : Put) → (let none : Option Put = None in none ≡ Some p) → A
no-put p e = absurd cc

-- a write that is no put makes no record busy
pub plain-write : (s : Store) (r next : Record) (bits : ℕ) (m : Fields) (b : Bool) → IsTaken s r bits None m (begun.Applied b) next → b ≡ false
plain-write s r next bits m false taken = refl
plain-write s r next bits m true taken = (let k = taken.takes in no-put k.0 k.1)

not-notify : (m : Fields) → m.command ≡ command_number command.Write → (m.command == command_number command.WriteNotify) ≡ false
not-notify m is = ap (λ (n : ℕ). n == command_number command.WriteNotify) is

is-notify : (m : Fields) → m.command ≡ command_number command.WriteNotify → (m.command == command_number command.WriteNotify) ≡ true
is-notify m is = ap (λ (n : ℕ). n == command_number command.WriteNotify) is

pub write-stray : (port : ℕ) (s : Store) (h : Handle) (e new : ServerEnd) (m : Fields) (cid : ℕ) → IsStray e m.p1 cid → m.command ≡ command_number command.Write → new ≡ replied (error_reply cid 410 m ∷ []) e → Does (Writes (known port s e) m) s h e m (effect.Quiet (told.WriteRefused m.p1)) s new
write-stray port s h e new m cid stray is done = record {
  replies = error_reply cid 410 m ∷ [];
  action = Nothing;
  due = inr (stray-due port s e m cid (λ c. error_reply c 410 m) stray);
  acted = e;
  acts = λ y same. refl;
  records = refl;
  rules = refl;
  stamp = refl;
  tells = nothing-told m (command_number command.Write) is;
  fits = tt;
  leaves = done;
}

pub write-refused : (port : ℕ) (s : Store) (h : Handle) (e new : ServerEnd) (m : Fields) (seat : Seat) (i : IsServed s e m.p1 seat) (bits status : ℕ) → bits ≡ rights s.rules e.peer.user e.peer.host i.channel.name → m.command ≡ command_number command.Write → IsRefused i.r bits None m status → new ≡ replied (error_reply seat.cid status m ∷ []) e → Does (Writes (known port s e) m) s h e m (effect.Quiet (told.WriteRefused m.p1)) s new
write-refused port s h e new m seat i bits status right is refused done = record {
  replies = error_reply i.channel.cid status m ∷ [];
  action = Nothing;
  due = inl (serves port s e m.p1 seat i, inl (status, refused-as port s e m seat i bits None right (not-notify m is) status refused, refl, refl));
  acted = e;
  acts = λ y same. refl;
  records = refl;
  rules = refl;
  stamp = refl;
  tells = nothing-told m (command_number command.Write) is;
  fits = tt;
  leaves = done ∙ ap (λ (cid : ℕ). replied (error_reply cid status m ∷ []) e) (sym i.cid);
}

pub write-applied : (port : ℕ) (s t : Store) (h : Handle) (e new : ServerEnd) (m : Fields) (seat : Seat) (i : IsServed s e m.p1 seat) (bits : ℕ) (b : Bool) (next : Record) → bits ≡ rights s.rules e.peer.user e.peer.host i.channel.name → m.command ≡ command_number command.Write → IsTaken s i.r bits None m (begun.Applied b) next → Becomes s seat.place i.r next t → new ≡ e → Does (Writes (known port s e) m) s h e m (effect.Wrote seat.place b m.p1) t new
write-applied port s t h e new m seat i bits true next right is taken becomes done = (let k = taken.takes in no-put k.0 k.1)
write-applied port s t h e new m seat i bits false next right is taken becomes done = record {
  replies = [];
  action = Applies i.channel.name taken.v false;
  due = inl (serves port s e m.p1 seat i, inr (taken.v, taken-as port s e m seat i bits None right (not-notify m is) (begun.Applied false) next taken, refl, refl));
  acted = e;
  acts = λ y same. refl;
  records = changed-records port s e m seat i bits None right (not-notify m is) next t (with_value taken.v (written_meta taken.v s.stamp)) becomes (sym taken.takes.2);
  rules = ap (λ (x : Store). x.rules) becomes.leaves;
  stamp = ap (λ (x : Store). x.stamp) becomes.leaves;
  tells = wrote s t seat.place false m.p1 i.r next i.channel.name taken.v becomes i.named (ap (λ (x : Record). x.state.value) taken.takes.2) (ap (λ (x : Record). x.state.meta) taken.takes.2);
  fits = tt;
  leaves = done ∙ sym (replied-none e);
}

-- ---- WRITE_NOTIFY

pub put-stray : (port : ℕ) (s : Store) (h : Handle) (e new : ServerEnd) (m : Fields) (cid : ℕ) → IsStray e m.p1 cid → m.command ≡ command_number command.WriteNotify → new ≡ replied (status_reply m 410 ∷ []) e → Does (Puts (known port s e) m) s h e m (effect.Quiet (told.WriteRefused m.p1)) s new
put-stray port s h e new m cid stray is done = record {
  replies = status_reply m 410 ∷ [];
  action = Nothing;
  due = inr (stray-due port s e m cid (λ c. status_reply m 410) stray);
  acted = e;
  acts = λ y same. refl;
  records = refl;
  rules = refl;
  stamp = refl;
  tells = nothing-told m (command_number command.WriteNotify) is;
  fits = tt;
  leaves = done;
}

pub put-refused : (port : ℕ) (s : Store) (h : Handle) (e new : ServerEnd) (m : Fields) (seat : Seat) (i : IsServed s e m.p1 seat) (bits status : ℕ) (p : Put) → bits ≡ rights s.rules e.peer.user e.peer.host i.channel.name → m.command ≡ command_number command.WriteNotify → IsRefused i.r bits (Some p) m status → new ≡ replied (status_reply m status ∷ []) e → Does (Puts (known port s e) m) s h e m (effect.Quiet (told.WriteRefused m.p1)) s new
put-refused port s h e new m seat i bits status p right is refused done = record {
  replies = status_reply m status ∷ [];
  action = Nothing;
  due = inl (serves port s e m.p1 seat i, inl (status, refused-as port s e m seat i bits (Some p) right (is-notify m is) status refused, refl, refl));
  acted = e;
  acts = λ y same. refl;
  records = refl;
  rules = refl;
  stamp = refl;
  tells = nothing-told m (command_number command.WriteNotify) is;
  fits = tt;
  leaves = done;
}

-- the put that a message is
abbrev pub put_in : Handle → Seat → Fields → Put
put_in h seat m = record { circuit = h; channel = seat.channel; data_type = m.data_type; count = m.count; ioid = m.p2 }

-- what a put without a fault does
abbrev act : (name : List ℕ) → Elements → (wait slow : Bool) → Action
act name v wait slow = if wait then Waits name v else Applies name v slow

abbrev late : Bool → Fields → List Fields
late slow m = if slow then [] else status_reply m normal ∷ []

none-busy : (r : Record) → r.busy ≡ None → is_some r.busy ≡ false
none-busy r e = ap (λ (o : Option Put). is_some o) e

pub put-applied : (port : ℕ) (s t : Store) (h : Handle) (e new : ServerEnd) (m : Fields) (seat : Seat) (i : IsServed s e m.p1 seat) (bits : ℕ) (b : Bool) (next : Record) → bits ≡ rights s.rules e.peer.user e.peer.host i.channel.name → m.command ≡ command_number command.WriteNotify → IsTaken s i.r bits (Some (put_in h seat m)) m (begun.Applied b) next → Becomes s seat.place i.r next t → new ≡ replied (late i.r.state.slow m) e → Does (Puts (known port s e) m) s h e m (effect.Wrote seat.place b m.p1) t new
put-applied port s t h e new m seat i bits true next right is taken becomes done =
    let k = taken.takes in
    let p : put_in h seat m ≡ k.0 = some_is (put_in h seat m) k.0 k.1 in
    let busy : is_some i.r.busy ≡ false = none-busy i.r k.2 in
    let wait = wait-is port s e m seat i bits (Some (put_in h seat m)) right (is-notify m is) false busy in
    record {
      replies = late i.r.state.slow m;
      action = Applies i.channel.name taken.v true;
      due = inl (
        serves port s e m.p1 seat i,
        inr (
          taken.v,
          taken-as port s e m seat i bits (Some (put_in h seat m)) right (is-notify m is) (begun.Applied true) next taken,
          refl,
          sym (ap (λ (w : Bool). act i.channel.name taken.v w i.r.state.slow) wait ∙ ap (λ (w : Bool). Applies i.channel.name taken.v w) k.3),
        ),
      );
      acted = e;
      acts = λ y same. refl;
      records = (k.0, ((seat.channel, i.channel), i.held, sym p), changed-records port s e m seat i bits (Some (put_in h seat m)) right (is-notify m is) next t (λ (r : Record). record (with_value taken.v (written_meta taken.v s.stamp) r) { busy = Some k.0 }) becomes (sym k.4));
      rules = ap (λ (x : Store). x.rules) becomes.leaves;
      stamp = ap (λ (x : Store). x.stamp) becomes.leaves;
      tells = wrote s t seat.place true m.p1 i.r next i.channel.name taken.v becomes i.named (ap (λ (x : Record). x.state.value) k.4) (ap (λ (x : Record). x.state.meta) k.4);
      fits = tt;
      leaves = done;
    }
put-applied port s t h e new m seat i bits false next right is taken becomes done =
    let k = taken.takes in
    let wait = wait-is port s e m seat i bits (Some (put_in h seat m)) right (is-notify m is) false k.0 in
    record {
      replies = late i.r.state.slow m;
      action = Applies i.channel.name taken.v false;
      due = inl (
        serves port s e m.p1 seat i,
        inr (
          taken.v,
          taken-as port s e m seat i bits (Some (put_in h seat m)) right (is-notify m is) (begun.Applied false) next taken,
          refl,
          sym (ap (λ (w : Bool). act i.channel.name taken.v w i.r.state.slow) wait ∙ ap (λ (w : Bool). Applies i.channel.name taken.v w) k.1),
        ),
      );
      acted = e;
      acts = λ y same. refl;
      records = changed-records port s e m seat i bits (Some (put_in h seat m)) right (is-notify m is) next t (with_value taken.v (written_meta taken.v s.stamp)) becomes (sym k.2);
      rules = ap (λ (x : Store). x.rules) becomes.leaves;
      stamp = ap (λ (x : Store). x.stamp) becomes.leaves;
      tells = wrote s t seat.place false m.p1 i.r next i.channel.name taken.v becomes i.named (ap (λ (x : Record). x.state.value) k.2) (ap (λ (x : Record). x.state.meta) k.2);
      fits = tt;
      leaves = done;
    }

pub put-waits : (port : ℕ) (s t : Store) (h : Handle) (e new : ServerEnd) (m : Fields) (seat : Seat) (i : IsServed s e m.p1 seat) (bits : ℕ) (next : Record) → bits ≡ rights s.rules e.peer.user e.peer.host i.channel.name → m.command ≡ command_number command.WriteNotify → IsTaken s i.r bits (Some (put_in h seat m)) m begun.Waiting next → Becomes s seat.place i.r next t → new ≡ replied (late i.r.state.slow m) e → Does (Puts (known port s e) m) s h e m (effect.Quiet (told.Queued m.p1)) t new
put-waits port s t h e new m seat i bits next right is taken becomes done =
    let k = taken.takes in
    let p : put_in h seat m ≡ k.0 = some_is (put_in h seat m) k.0 k.1 in
    let wait = wait-is port s e m seat i bits (Some (put_in h seat m)) right (is-notify m is) true k.2 in
    record {
      replies = late i.r.state.slow m;
      action = Waits i.channel.name taken.v;
      due = inl (
        serves port s e m.p1 seat i,
        inr (
          taken.v,
          taken-as port s e m seat i bits (Some (put_in h seat m)) right (is-notify m is) begun.Waiting next taken,
          refl,
          sym (ap (λ (w : Bool). act i.channel.name taken.v w i.r.state.slow) wait),
        ),
      );
      acted = e;
      acts = λ y same. refl;
      records = (k.0, ((seat.channel, i.channel), i.held, sym p), changed-records port s e m seat i bits (Some (put_in h seat m)) right (is-notify m is) next t (with_waiting (record { put = k.0; value = taken.v })) becomes (sym k.3));
      rules = ap (λ (x : Store). x.rules) becomes.leaves;
      stamp = ap (λ (x : Store). x.stamp) becomes.leaves;
      tells = refl;
      fits = ((seat.channel, i.channel), i.held, refl, i.there);
      leaves = done;
    }
