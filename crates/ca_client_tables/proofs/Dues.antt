-- The searches that are due once circuits have ended, one after another.
use Rattle.std.proofs.Common.{◌≡◌, ℕ, Bool, true, false, cond, List, ◌∷◌, filter, map, refl}
use Rattle.ca_arena.specs.declared.handle.Handle.{Handle}
use Rattle.ca_ids.specs.Table.{Table}
use Rattle.ca_search.specs.Searches as search
use Rattle.ca_model.specs.Client.{Channel}
use Rattle.ca_client_tables.specs.Ahead.{due_after, is_due_after}

-- one more of them is looked at
pub due-cons : (ends : Handle → Bool) (m : ℕ) (t : Table Channel) (e : ℕ × search.Channel) (es : List (ℕ × search.Channel)) → due_after ends m t (e ∷ es) ≡ cond (is_due_after ends m t e) (search.wanted e ∷ due_after ends m t es) (due_after ends m t es)
due-cons ends m t e es = go (is_due_after ends m t e)
  where
    go : (b : Bool) → map search.wanted (cond b (e ∷ filter (is_due_after ends m t) es) (filter (is_due_after ends m t) es)) ≡ cond b (search.wanted e ∷ due_after ends m t es) (due_after ends m t es)
    go true = refl
    go false = refl
