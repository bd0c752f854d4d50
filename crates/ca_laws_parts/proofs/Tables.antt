-- What each call of a server's core keeps of its table of circuits: what was given stays so, and
-- nothing new has a handle.
use Rattle.std.proofs.Common.{◌≡◌, ℕ, zero, suc, ◌+◌, ◌≤◌, inl, inr, Bool, List, [], ◌∷◌, length, Option, Some, None, refl, sym, ap, subst, arith}
use Rattle.std.specs.Prelude.{Ok, is_some, option_map}
use Rattle.ca_arena.specs.Arena.{Place}
use Rattle.ca_arena.specs.declared.handle.Handle.{Handle}
use Rattle.ca_ids.specs.Table.{Table, with_each, with_each_from}
use Rattle.ca_records.specs.declared.puts.Put.{Put}
use Rattle.ca_records.specs.Puts.{WaitingPut}
use Rattle.ca_text.specs.Place.{At}
use Rattle.ca_text.proofs.Places.{some_is}
use Rattle.ca_wire.specs.Fields.{Fields}
use Rattle.ca_link.specs.Link.{with_rest}
use Rattle.ca_model.specs.Due.{Action, Applies}
use Rattle.ca_model.specs.Due as action
use Rattle.ca_model.specs.Ends.{Why}
use Rattle.ca_model.specs.Server.{Ended, Open, Server, ServerCircuit, ServerEnd}
use Rattle.ca_model.specs.ServerCalls.{Replies, after_next, circuit_without, lacking}
use Rattle.ca_model.specs.ServerSteps.{Cuts, Gives, LeftOf, Next, Pumps, Reaches, Sends, Update, closed, ended, with_end}
use Rattle.ca_model.specs.ServerEvents.{left_by, reported}
use Rattle.ca_model.proofs.Tables.{at-under, place, under-at}
use Rattle.ca_model.proofs.Thinner.{IsThinner, thin-all-freed, thin-changed, thin-freed, thin-itself, thin-then}
use Rattle.ca_laws_parts.proofs.Cores.{records-stay}

-- ---- each of a table changed, by its handle

module _ {T : Type 0} where
  each-from : (i : ℕ) (f : Handle → T → T) (t : Table T) (k : ℕ) (p : Place T) → At t k p → (q : Place T) × At (with_each_from i f t) k q × (p.generation ≤ q.generation)
  each-from i f [] k p at = absurd cc
  each-from i f (r ∷ t) zero p at =
      let same : r.generation ≡ p.generation = ap (λ (z : Place T). z.generation) (some_is r p at) in
      (_, refl, omega (arith, same))
  each-from i f (r ∷ t) (suc k) p at = each-from (i + 1) f t k p at

  each-back : (i : ℕ) (f : Handle → T → T) (t : Table T) (k : ℕ) (q : Place T) → At (with_each_from i f t) k q → (p : Place T) × (g : T → T) × At t k p × (q.generation ≡ p.generation) × (q.value ≡ option_map g p.value)
  each-back i f [] k q at = absurd cc
  each-back i f (r ∷ t) zero q at = (r, f (record { index = i; generation = r.generation }), refl, ap (λ (z : Place T). z.generation) (sym (some_is _ q at)), ap (λ (z : Place T). z.value) (sym (some_is _ q at)))
  each-back i f (r ∷ t) (suc k) q at = each-back (i + 1) f t k q at

  each-few : (i : ℕ) (f : Handle → T → T) (t : Table T) → length (with_each_from i f t) ≡ length t
  each-few i f [] = refl
  each-few i f (r ∷ t) = ap (λ (n : ℕ). suc n) (each-few (i + 1) f t)

  pub thin-each : (f : Handle → T → T) (t : Table T) → IsThinner t (with_each f t)
  thin-each f t = record {
    few = each-few 0 f t;
    later = each-from 0 f t;
    back = λ h w is.
        let b = each-back 0 f t h.index (place h w) (under-at (with_each f t) h w is) in
        let v = mapped b.1 b.0.value w (sym b.4) in
        (v.0, at-under t h v.0 (subst (λ (p : Place T). At t h.index p) (is-place b.0 h v.0 (sym b.3) v.1) b.2));
  }
    where
      mapped : (g : T → T) (o : Option T) (w : T) → option_map g o ≡ Some w → (v : T) × (o ≡ Some v)
      mapped g None w e = absurd cc
      mapped g (Some v) w e = (v, refl)

      is-place : (p : Place T) (h : Handle) (v : T) → p.generation ≡ h.generation → p.value ≡ Some v → p ≡ place h v
      is-place p h v generation value = λ i. record { generation = generation i; value = value i }

-- ---- calls

abbrev pub Thin : (old new : Server) → Type 0
Thin old new = IsThinner old.circuits new.circuits

pub thin-server : (old new : Server) → new.circuits ≡ old.circuits → Thin old new
thin-server old new same = subst (λ (t : Table ServerCircuit). IsThinner old.circuits t) (sym same) (thin-itself old.circuits)

pub thin-is : (old z new : Server) → new ≡ z → Thin old z → Thin old new
thin-is old z new is thin = subst (λ (x : Server). Thin old x) (sym is) thin

pub thin-end : (y : Server) (h : Handle) (e : ServerEnd) → Thin y (with_end h e y)
thin-end y h e = thin-changed (λ (c : ServerCircuit). Open e) h y.circuits

pub thin-over : (y : Server) (h : Handle) (w : Why) (left : List ℕ) → Thin y (ended h w left y)
thin-over y h w left = thin-changed (λ (c : ServerCircuit). Ended w left) h y.circuits

pub thin-closed : (y : Server) (h : Handle) → Thin y (closed h y)
thin-closed y h = thin-freed h y.circuits

pub thin-reported : (y : Server) → Thin y (reported y)
thin-reported y = thin-all-freed (λ (c : ServerCircuit). is_some (left_by (Some c))) y.circuits

pub gives-thin : (old new : Server) (h : Handle) (bytes : List ℕ) → Gives old h bytes (Ok tt) new → Thin old new
gives-thin old new h bytes (e, has, is) = thin-is old _ new is (thin-end old h _)

pub sends-thin : (old new : Server) (h : Handle) (n : ℕ) → Sends old h n new → Thin old new
sends-thin old new h n (inl (e, has, within, is)) = thin-is old _ new is (thin-end old h _)
sends-thin old new h n (inr (none, zero_of, is)) = thin-server old new (ap (λ (x : Server). x.circuits) is)

pub cuts-thin : (y : Server) (h : Handle) (core : Server) → Cuts y h core → Thin y core
cuts-thin y h core (inl (e, has, is)) = thin-is y _ core is (thin-over y h _ _)
cuts-thin y h core (inr (none, is)) = thin-server y core (ap (λ (x : Server). x.circuits) is)

pub pumps-thin : (y : Server) (h : Handle) (us : List Update) (core : Server) → Pumps y h us core → Thin y core
pumps-thin y h us core (inl (e, has, (after, folds, inl (rests, is)))) = thin-is y _ core is (thin-end y h after)
pumps-thin y h us core (inl (e, has, (after, folds, inr (more, is)))) = thin-is y _ core is (thin-over y h _ _)
pumps-thin y h us core (inr (none, nothing, is)) = thin-server y core (ap (λ (x : Server). x.circuits) is)

pub next-thin : (y : Server) (h : Handle) (e : ServerEnd) (n : Next y h e) → Thin y n.after
next-thin y h e n =
    let made = n.handles in
    let is : made.recorded.circuits ≡ y.circuits = records-stay y h (record e { link = with_rest n.rest e.link }) n.m n.action made.recorded made.records in
    thin-is y _ n.after made.leaves (thin-then y.circuits made.recorded.circuits _ (thin-server y made.recorded is) (thin-end made.recorded h _))

pub reaches-thin : (did : Action) (gone : Handle → Bool) (y new : Server) → Reaches did gone y new → Thin y new
reaches-thin (Applies name value busies) gone y new (may, is) = thin-is y _ new is (thin-each _ y.circuits)
reaches-thin (action.Waits name value) gone y new r = thin-server y new (ap (λ (x : Server). x.circuits) r.1)
reaches-thin (action.Clears sid) gone y new r = thin-server y new (ap (λ (x : Server). x.circuits) r.1)
reaches-thin action.Nothing gone y new r = thin-server y new (ap (λ (x : Server). x.circuits) r.1)
reaches-thin action.Greets gone y new r = thin-server y new (ap (λ (x : Server). x.circuits) r.1)
reaches-thin (action.Names x) gone y new r = thin-server y new (ap (λ (x : Server). x.circuits) r.1)
reaches-thin (action.Opens x) gone y new r = thin-server y new (ap (λ (x : Server). x.circuits) r.1)
reaches-thin (action.Adds x) gone y new r = thin-server y new (ap (λ (x : Server). x.circuits) r.1)
reaches-thin (action.Drops x) gone y new r = thin-server y new (ap (λ (x : Server). x.circuits) r.1)
reaches-thin (action.Switches x) gone y new r = thin-server y new (ap (λ (x : Server). x.circuits) r.1)

pub left-thin : (y : Server) (h : Handle) (e : ServerEnd) (next : Next y h e) (written : Option (Handle → Bool)) (mid : Server) → LeftOf next written mid → Thin y mid
left-thin y h e next None mid is = thin-server y mid (ap (λ (x : Server). x.circuits) is)
left-thin y h e next (Some gone) mid is = thin-then y.circuits next.after.circuits mid.circuits (next-thin y h e next) (reaches-thin next.action gone next.after mid is.1)

pub replies-thin : (y : Server) (p : Put) (gone : Handle → Bool) (sent : List (Handle × Fields)) (new : Server) → Replies y p gone sent new → Thin y new
replies-thin y p gone sent new (inl said) = thin-is y _ new said.3 (thin-end y p.circuit _)
replies-thin y p gone sent new (inr not) = thin-server y new (ap (λ (x : Server). x.circuits) not.2)

pub next-write-thin : (name : List ℕ) (ws : List WaitingPut) (gone : Handle → Bool) (y : Server) → Thin y (after_next name ws gone y)
next-write-thin name [] gone y = thin-each (lacking gone) y.circuits
next-write-thin name (w ∷ ws) gone y = thin-each _ y.circuits

pub removal-thin : (name : List ℕ) (gone : Handle → Bool) (left : Handle → ℕ) (old new : Server) → new.circuits ≡ with_each (circuit_without name gone left) old.circuits → Thin old new
removal-thin name gone left old new is = subst (λ (t : Table ServerCircuit). IsThinner old.circuits t) (sym is) (thin-each (circuit_without name gone left) old.circuits)
