-- What an arena ends as, when a `&mut` to one of its values was handed out.
use Rattle.std.specs.Prelude.{Option}
use Rattle.std.specs.Borrow.{Lends, LendsIf, Fml, RattleType, MutBor}
use Rattle.ca_arena.specs.declared.handle.Handle.{Handle}
use Rattle.ca_arena.specs.contracts.arena.Arena as arena
use Rattle.ca_arena.specs.Arena.{Contents, written}

module _ (T : RattleType) (a : MutBor (Contents T.Denot)) (handle : Handle) where
  -- the handle ends with the last value that the result refers to
  abbrev pub lends_live : MutBor T.Denot → Fml
  lends_live r = Lends (arena.the_row T) T a r (written a.now handle)

  -- the same if there is a result, and else the arena stays as it is
  abbrev pub lends_found : Option (MutBor T.Denot) → Fml
  lends_found r = LendsIf (arena.the_row T) T a r (written a.now handle) a.now
