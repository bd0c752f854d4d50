use denote.RattleType.{RattleType}
use denote.Param.Send.{IsSync}
use Rattle.core.specs.declared.alloc.Allocator.{Ghosts}
use Rattle.ca_arena.proofs.Crosses.{block-sync}
use Rattle.ca_arena.specs.contracts.block.Block.{the_row}

pub sync : (R A : RattleType) (g : Ghosts A.Denot) → IsSync R → IsSync A → IsSync (the_row R A g)
sync R A g items alloc = block-sync R A g items
