-- The count, the credits and the puts that wait, through the calls under the lock.
use Rattle.std.proofs.Common.{◌≡◌, ◌≤◌, ◌<◌, ℕ, zero, suc, ◌+◌, ◌-◌, false, inl, inr, List, [], ◌∷◌, length, set, get_or, Option, Some, None, refl, sym, ap, ◌∙◌, subst, ◌⊎◌, arith, sum}
use Rattle.std.specs.Prelude.{map, replicate}
use Rattle.std.proofs.Math.ListN.{length-set}
use Rattle.std.proofs.lemmas.List.Sums.{sum_by-set}
use Rattle.ca_arena.specs.declared.handle.Handle.{Handle}
use Rattle.ca_ids.specs.Table.{under}
use Rattle.ca_model.specs.Server.{Ended, Open, Server, ServerCircuit, ServerEnd, new_server}
use Rattle.ca_model.specs.ServerCalls.{waiting}
use Rattle.ca_model.specs.ServerSteps.{Stepped, Steps}
use Rattle.ca_records.specs.Puts.{Record, WaitingPut, new_record, record_named, waiting_in}
use Rattle.ca_records.specs.Record.{RecordState}
use Rattle.ca_records.specs.Records as records
use Rattle.ca_records.specs.Rules.{Rule}
use Rattle.ca_server_circuit.specs.Circuits.{is_open}
use Rattle.ca_server_core.specs.Asking.{circuit_next, first_circuit, first_waiting}
use Rattle.ca_text.specs.Limits.{applied_limit, arena_slots}
use Rattle.ca_server.specs.Counts.{AreApart, CountsNext, CountsNothing}
use Rattle.ca_server.proofs.Stepping.{steps, steps-closed}
use Rattle.ca_server.proofs.Waits.{waits-cons}
use Rattle.ca_server.specs.Locked.{IsCounted}

-- ---- lists of credits

pub sum_set : (xs : List ℕ) (i y : ℕ) → i < length xs → sum (set xs i y) + get_or xs i 0 ≡ sum xs + y
sum_set xs i y l = sum_by-set (λ x. x) xs i y 0 l

pub any_default : (xs : List ℕ) (i d e : ℕ) → i < length xs → get_or xs i d ≡ get_or xs i e
any_default [] i d e l = absurd (omega arith)
any_default (x ∷ xs) zero d e l = refl
any_default (x ∷ xs) (suc i) d e l = any_default xs i d e (omega arith)

pub none : (n : ℕ) → sum (replicate n 0) ≡ 0
none zero = refl
none (suc n) = none n

pub many : (n : ℕ) → length {A = ℕ} (replicate n 0) ≡ n
many zero = refl
many (suc n) = ap suc (many n)

-- ---- a server that begins

states-are : (rs : List RecordState) → map (λ (r : Record). r.state) (map new_record rs) ≡ rs
states-are [] = refl
states-are (r ∷ rs) = ap (λ (qs : List RecordState). r ∷ qs) (states-are rs)

none-wait : (rs : List RecordState) → waiting_in (map new_record rs) ≡ 0
none-wait [] = refl
none-wait (r ∷ rs) = omega (arith, waits-cons (new_record r) (map new_record rs), none-wait rs)

pub counted_new : (port now : ℕ) (rules : List Rule) (rs : List RecordState) (server : Server) (total places : ℕ) (credits : List ℕ) → server ≡ new_server port now rules rs → records.AreApart rs → total ≡ 0 → credits ≡ replicate places 0 → places ≡ arena_slots → IsCounted server 0 total credits
counted_new port now rules rs server total places credits is apart fresh are all =
    subst (λ (y : Server). IsCounted y 0 total credits) (sym is) (record {
      ledger = sym fresh;
      split = (let e : sum credits ≡ 0 = ap (λ (xs : List ℕ). sum xs) are ∙ none places in omega (arith, e));
      most = (let e = none-wait rs in omega (arith, e));
      wide = ap (λ (xs : List ℕ). length xs) are ∙ many places ∙ all;
      apart = subst (λ (xs : List RecordState). records.AreApart xs) (sym (states-are rs)) apart;
    })

-- ---- calls

pub counted_nothing : (old new : Server) (count total : ℕ) (credits : List ℕ) → IsCounted old count total credits → CountsNothing old new → IsCounted new count total credits
counted_nothing old new count total credits k c = record {
  ledger = k.ledger;
  split = k.split ∙ sym c.applied;
  most = omega (arith, k.most, c.applied, c.waits);
  wide = k.wide;
  apart = c.apart k.apart;
}

-- ---- a step

shut : (c : Option ServerCircuit) (e : ServerEnd) → is_open c ≡ false → c ≡ Some (Open e) → ⊥
shut (Some (Open x)) e closed is = absurd cc
shut (Some (Ended w l)) e closed is = absurd cc
shut None e closed is = absurd cc

-- how a step that is made changes what is counted
pub record Stays (old new : Server) : Type 0 where
  pub applied : old.applied ≤ new.applied
  pub most : new.applied + waiting new ≤ applied_limit
  pub apart : AreApart new.records

pub stays : (old new : Server) (h : Handle) (did : Stepped) (count total : ℕ) (credits : List ℕ) → IsCounted old count total credits → (is_open (under old.circuits h) ≡ false) ⊎ (old.applied + waiting old < applied_limit) → Steps old h did new → Stays old new
stays old new h did count total credits k (inl closed) is =
    let c = steps-closed old h did new (λ e at. shut (under old.circuits h) e closed at) is in
    record { applied = omega (arith, c.applied); most = omega (arith, k.most, c.applied, c.waits); apart = c.apart k.apart }
stays old new h did count total credits k (inr room) is =
    let c = steps old h did new (omega (arith, room)) k.apart is in
    record { applied = c.applied; most = omega (arith, room, c.most); apart = c.apart k.apart }

-- the credits of one circuit are among all
pub credit_within : (credits : List ℕ) (i : ℕ) → i < length credits → get_or credits i 0 ≤ sum credits
credit_within credits i l = (let e = sum_set credits i 0 l in omega (arith, e))

pub counted_step : (old new : Server) (count total more : ℕ) (credits : List ℕ) (i : ℕ) → IsCounted old count total credits → i < arena_slots → Stays old new → more ≡ (new.applied - old.applied) + get_or credits i 0 → IsCounted new (count + more) (total + more) (set credits i 0)
counted_step old new count total more credits i k l s e =
    let within : i < length credits = subst (λ (n : ℕ). i < n) (sym k.wide) l in
    let t = sum_set credits i 0 within in
    record {
      ledger = ap (λ (x : ℕ). x + more) k.ledger;
      split = omega (arith, k.split, s.applied, t, e);
      most = s.most;
      wide = length-set credits i 0 ∙ k.wide;
      apart = s.apart;
    }

-- ---- a finish

pub record Credits (old new : Server) (next : Option Handle) : Type 0 where
  pub none : next ≡ None → new.applied ≡ old.applied
  pub one : (h : Handle) → next ≡ Some h → new.applied ≡ old.applied + 1
  pub most : new.applied + waiting new ≤ old.applied + waiting old
  pub apart : AreApart old.records → AreApart new.records

no-circuit : (h : Handle) → (let n : Option Handle = None in n ≡ Some h) → ⊥
no-circuit h e = cc

some-circuit : (h : Handle) → (let n : Option Handle = None in Some h ≡ n) → ⊥
some-circuit h e = cc

pub credits_of : (old new : Server) (name : List ℕ) (r : Record) → record_named old.records name ≡ Some r → CountsNext old name new → Credits old new (first_waiting old name)
credits_of old new name r named c = subst (λ (o : Option Record). Credits old new (circuit_next o)) (sym named) (go r.waiting refl)
  where
    go : (ws : List WaitingPut) → r.waiting ≡ ws → Credits old new (first_circuit r.waiting)
    go [] is = subst (λ (ws : List WaitingPut). Credits old new (first_circuit ws)) (sym is) (record {
      none = λ e. c.idle r named is;
      one = λ h e. absurd (no-circuit h e);
      most = c.most;
      apart = c.apart;
    })
    go (p ∷ ps) is = subst (λ (ws : List WaitingPut). Credits old new (first_circuit ws)) (sym is) (record {
      none = λ e. absurd (some-circuit p.put.circuit e);
      one = λ h e. c.next r p ps named is;
      most = c.most;
      apart = c.apart;
    })

pub counted_finish : (old new : Server) (count total : ℕ) (credits : List ℕ) (next : Option Handle) (h : Handle) (i : ℕ) → IsCounted old count total credits → Credits old new next → next ≡ Some h → i < arena_slots → IsCounted new count total (set credits i (get_or credits i 0 + 1))
counted_finish old new count total credits next h i k c is l =
    let within : i < length credits = subst (λ (n : ℕ). i < n) (sym k.wide) l in
    let t = sum_set credits i (get_or credits i 0 + 1) within in
    let n = c.one h is in
    record {
      ledger = k.ledger;
      split = omega (arith, k.split, t, n);
      most = omega (arith, k.most, c.most);
      wide = length-set credits i (get_or credits i 0 + 1) ∙ k.wide;
      apart = c.apart k.apart;
    }

-- one credit more has room
pub credit_room : (old : Server) (count total : ℕ) (credits : List ℕ) (i : ℕ) → IsCounted old count total credits → i < arena_slots → get_or credits i 0 ≤ applied_limit
credit_room old count total credits i k l =
    let within : i < length credits = subst (λ (n : ℕ). i < n) (sym k.wide) l in
    omega (arith, credit_within credits i within, k.split, k.most)

pub counted_idle : (old new : Server) (count total : ℕ) (credits : List ℕ) (next : Option Handle) → IsCounted old count total credits → Credits old new next → next ≡ None → IsCounted new count total credits
counted_idle old new count total credits next k c is = record {
  ledger = k.ledger;
  split = k.split ∙ sym (c.none is);
  most = omega (arith, k.most, c.most);
  wide = k.wide;
  apart = c.apart k.apart;
}
