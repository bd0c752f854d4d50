-- The board at the start.
use Rattle.std.proofs.Common.{◌≡◌, ℕ, zero, suc, ◌<◌, [], ◌∷◌, length, get_or, map, replicate, None, refl, sym, ap, ◌∙◌, subst, arith}
use mathlib.Core.Option.{some, some-ne-none, some-injective}
use mathlib.Core.Option as maybe
use lib.ListN.{get_elem?}
use Rattle.atomic_table.specs.Table.{opening}
use Rattle.ca_board.specs.declared.steps.View.{View}
use Rattle.ca_board.specs.History.{Slot, no_core, no_caller, core_view, CellOk, SeatOk, Kept}
use Rattle.ca_board.proofs.Rule.{no_tickets, no_takes, core_ok}

pub none_at : {A : Type 0} (n k : ℕ) (a : A) → k < n → get_elem? (map some (replicate n a)) k ≡ some (some a)
none_at zero k a l = absurd (omega arith)
none_at (suc n) zero a l = refl
none_at (suc n) (suc k) a l = none_at n k a (omega arith)

pub zero_at : (n k : ℕ) → ◌≡◌ {A = ℕ} (get_or (replicate n 0) k 0) 0
zero_at zero k = refl
zero_at (suc n) zero = refl
zero_at (suc n) (suc k) = zero_at n k

pub long_map : {A : Type 0} (n : ℕ) (a : A) → length (map some (replicate n a)) ≡ n
long_map zero a = refl
long_map (suc n) a = ap suc (long_map n a)

pub long_row : (n m : ℕ) → length (replicate n m) ≡ n
long_row zero m = refl
long_row (suc n) m = ap suc (long_row n m)

pub begins : (n : ℕ) → Kept (opening (replicate n 0) (replicate n None) (core_view no_core no_caller))
begins n = (
  0,
  no_core,
  (λ c g. (0, 0)),
  record {
    wide = long_row n 0 ∙ sym (long_map n None);
    each_cell = λ k near. let long = long_map {A = Slot} n None in subst (λ (x : ℕ × maybe.Option (maybe.Option Slot)). CellOk no_core k x.0 x.1) (λ i. (sym (zero_at n k) i, sym (none_at n k None (omega arith)) i)) record {
      free = λ g is. ((λ e. absurd (omega arith)), refl);
      waiting = λ g is _. refl;
      done = λ g is. absurd (omega arith);
      empty = λ g is. refl;
      given = λ g is _. refl;
      state = λ h le. omega arith;
      held = λ e. absurd (omega arith);
      armed = λ g le. absurd (omega arith);
      past = λ g le. absurd (omega arith);
      small = omega arith;
    };
    each_arm = λ i t at. no_tickets i t at;
    each_fill = λ i e at. no_takes i e at;
    each_cycle = λ i t at. no_tickets i t at;
    each_wait = λ t has un. no_tickets has.0 t has.1;
    each_refusal = λ i t at. no_tickets i t at;
    each_seat = λ j v at. first_seat j v at;
  },
)
  where
    first_seat : (j : ℕ) (v : View) → get_elem? (core_view no_core no_caller ∷ []) j ≡ some v → SeatOk 0 no_core (λ c g. (0, 0)) (replicate n 0) j v
    first_seat zero v e = subst (λ (x : View). SeatOk 0 no_core (λ c g. (0, 0)) (replicate n 0) 0 x) (some-injective _ _ e) (core_ok 0 no_core (λ c g. (0, 0)) (replicate n 0))
    first_seat (suc j) v e = absurd (some-ne-none v (sym e))
