-- A value under the handle that was told before.
use Rattle.std.proofs.Common.{◌≡◌, ◌==◌, ◌∙◌, ℕ, Bool, Err, None, Ok, Option, Some, ap, false, if◌then◌else◌, sym, true}
use Rattle.ca_text.specs.declared.refusal.Refusal.{Refusal}
use Rattle.ca_text.specs.declared.refusal.Refusal.TheVariants as refusal
use Rattle.ca_arena.specs.declared.handle.Handle.{Handle}
use Rattle.ca_arena.specs.Arena.{Contents, Inserts, InsertsAt, free_slots, next_handle}

-- what was told is the handle that comes next
next-is : (b : Bool) (next told : Handle) → (if b then None else Some next) ≡ Some told → told ≡ next
next-is true next told is = absurd cc
next-is false next told is = cc

module _ {T : Type 0} where
  -- it was inserted under the handle that was told, which is the one that was asked for
  pub inserted-at : (a b : Contents T) (value : T) (o : Option Handle) (told asked given : Handle) → o ≡ (if free_slots a == 0 then None else Some (next_handle a)) → o ≡ Some told → told.index ≡ asked.index → told.generation ≡ asked.generation → Inserts a value (Ok given) b → InsertsAt a asked value (Ok tt) b
  inserted-at a b value o told asked given is tells index generation did =
      let next : told ≡ next_handle a = next-is (free_slots a == 0) (next_handle a) told (sym is ∙ tells) in
      let first : asked ≡ record { index = told.index; generation = asked.generation } = ap (λ (n : ℕ). let h : Handle = record { index = n; generation = asked.generation } in h) (sym index) in
      let same : asked ≡ told = first ∙ ap (λ (n : ℕ). let h : Handle = record { index = told.index; generation = n } in h) (sym generation) in
      (did.0, same ∙ next, did.2)

  -- it was not inserted
  pub handed-back : (a b : Contents T) (value back : T) (asked : Handle) (e : Refusal) → Inserts a value (Err (back, e)) b → InsertsAt a asked value (Err back) b
  handed-back a b value back asked refusal.ArenaFull did = (did.1, did.2)
  handed-back a b value back asked refusal.OutOfMemory did = (did.2, did.3)
  handed-back a b value back asked _ did = absurd did
