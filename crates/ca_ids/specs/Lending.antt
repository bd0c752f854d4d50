-- What a table ends as, when a `&mut` to one of its values was handed out.
use Rattle.std.specs.Prelude.{Option}
use Rattle.std.specs.Borrow.{Lends, LendsIf, Fml, RattleType, MutBor}
use Rattle.ca_arena.specs.declared.handle.Handle.{Handle}
use Rattle.ca_arena.specs.Arena.{written}
use Rattle.ca_ids.specs.declared.table.TableEntry.{TableEntry}
use Rattle.ca_ids.specs.declared.table.TableEntry.TheVariants.{Open}
use Rattle.ca_ids.specs.contracts.table.TableEntry as entry
use Rattle.ca_ids.specs.contracts.table.IdTable as table
use Rattle.ca_ids.specs.contracts.held_table.HeldTable as holding
use Rattle.ca_ids.specs.Ids.{Ids}
use Rattle.ca_ids.specs.Table.{Table, with_changed}

-- an open entry ends with the last value that the result refers to, and another one as it is
abbrev pub lends_value : (T : RattleType) → MutBor (TableEntry T.Denot) → Option (MutBor T.Denot)
    → Fml
lends_value T e r = LendsIf (entry.the_row T) T e r Open e.now

-- an open handle ends with the last value that the result refers to, and otherwise the
-- table stays as it is
abbrev pub lends_found : (T : RattleType) → MutBor (Ids T.Denot) → Handle → Option (MutBor T.Denot)
    → Fml
lends_found T ids handle r =
    LendsIf (table.the_row T) T ids r (λ value. written ids.now handle (Open value)) ids.now

-- what holds the id of a handle ends with the last value that the result refers to
abbrev pub lends_held : (T : RattleType) → MutBor (Table T.Denot) → Handle → MutBor T.Denot → Fml
lends_held T t handle r =
    Lends (holding.the_row T) T t r
    (λ (value : T.Denot). with_changed (λ (v : T.Denot). value) handle t.now)

-- what holds the id of a handle ends with the last value that the result refers to, and for a stale
-- handle the table stays as it is
abbrev pub lends_changed : (T : RattleType) → MutBor (Table T.Denot) → Handle
    → Option (MutBor T.Denot) → Fml
lends_changed T t handle r =
    LendsIf (holding.the_row T) T t r
    (λ (value : T.Denot). with_changed (λ (v : T.Denot). value) handle t.now) t.now
