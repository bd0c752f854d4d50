-- Which ends of circuits end beside one that is closed, by the core after that as
-- by the one before it.
use Rattle.std.proofs.Common.{◌≡◌, ℕ, ◌==◌, ◌&&◌, Bool, true, false, List, Option, Some, None, refl, sym, ap, ◌∙◌}
use Rattle.std.specs.Prelude.{if◌then◌else◌}
use Rattle.ca_arena.specs.declared.handle.Handle.{Handle}
use Rattle.ca_ids.specs.Table.{Table, same_handle, under, with_freed}
use Rattle.ca_model.specs.Server.{Server, ServerCircuit}
use Rattle.ca_model.specs.ServerSteps.{closed}
use Rattle.ca_model.proofs.Handles.{same-itself}
use Rattle.ca_model.proofs.Tables.{freed-back, freed-other}
use Rattle.ca_model.specs.ServerEvents.{ends_here, left_by}
use Rattle.ca_model.specs.World.{Joined}

-- what is under another handle
pub freed-as : (t : Table ServerCircuit) (g h : Handle) → (g ≡ h → ⊥) → under (with_freed h t) g ≡ under t g
freed-as t g h other = go (under t g) (under (with_freed h t) g) refl refl
  where
    none-some : (c : ServerCircuit) → (let x : Option ServerCircuit = None in x ≡ Some c) → ⊥
    none-some c e = cc

    go : (a b : Option ServerCircuit) → under t g ≡ a → under (with_freed h t) g ≡ b → under (with_freed h t) g ≡ under t g
    go (Some c) b was is = freed-other t g h c was other ∙ sym was
    go None None was is = is ∙ sym was
    go None (Some c) was is = (let back = freed-back t g h c is in absurd (none-some c (sym was ∙ back.1)))

pub ends-closed : (j : Joined) (left : List ℕ) (i : ℕ) (core : Server) → ends_here j left i (closed j.at_server core) ≡ ends_here j left i core
ends-closed j left i core = (λ t c. each c t)
  where
    each : (c : Joined) → ends_here j left i (closed j.at_server core) c ≡ ends_here j left i core c
    each c = go (same_handle c.at_server j.at_server) (c.server == i && c.lists.server_open) refl
      where
        go : (a b : Bool) → same_handle c.at_server j.at_server ≡ a
            → (if a && b then Some left else if b then left_by (under (with_freed j.at_server core.circuits) c.at_server) else None) ≡ (if a && b then Some left else if b then left_by (under core.circuits c.at_server) else None)
        go true true is = refl
        go true false is = refl
        go false true is =
            ap left_by (freed-as core.circuits c.at_server j.at_server (λ e. (let same : same_handle c.at_server j.at_server ≡ true = ap (λ (g : Handle). same_handle g j.at_server) e ∙ same-itself j.at_server in absurd cc)))
        go false false is = refl
