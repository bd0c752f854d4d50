-- A search reply that was heard on a circuit.
use Rattle.std.proofs.Common.{◌≡◌, ◌∙◌, true, false, Option, Result, Ok, Err, ap, refl, sym}
use Rattle.std.specs.Prelude.{IsErr}
use Rattle.std.specs.declared.alloc.AllocError.{AllocError}
use Rattle.ca_arena.specs.declared.handle.Handle.{Handle}
use Rattle.ca_wire.specs.Fields.{Fields}
use Rattle.ca_model.specs.Client.{Client}
use Rattle.ca_model.specs.Ends.{Address}
use Rattle.ca_client_tables.specs.Finding.{FindsIn, Tables, paused_for, tables_of, with_tables}
use Rattle.ca_client_core.specs.Hearing.{FindsOr}

-- ---- heard on a circuit

pub heard-found : (x : Client) (from : Address) (m : Fields) (o : Option Handle) (t : Tables) (new : Client) → FindsIn (tables_of x) from m (Ok o) t → new ≡ paused_for o (with_tables t x) → FindsOr x from m (Ok tt) new
heard-found x from m o t new did is =
    let r = did x refl in
    (r.0, r.1, r.2, is ∙ sym r.3)

pub heard-out : (x : Client) (from : Address) (m : Fields) (e : AllocError) (r : Result (Unit {0}) AllocError) (t : Tables) (new : Client) → FindsIn (tables_of x) from m (Err e) t → IsErr r → new ≡ with_tables t x → FindsOr x from m r new
heard-out x from m e (Ok u) t new did err is =
    let bad : false ≡ true = err in
    absurd cc
heard-out x from m e (Err f) t new did err is =
    let r = did.1 x refl in
    (r.0, r.1, r.2, is ∙ ap (λ (u : Tables). with_tables u x) did.0)
