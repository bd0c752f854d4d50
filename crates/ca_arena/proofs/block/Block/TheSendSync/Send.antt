use denote.RattleType.{RattleType}
use denote.Param.Send.{IsSend, Frees}
use Rattle.core.specs.declared.alloc.Allocator.{Ghosts}
use Rattle.ca_arena.proofs.Crosses.{block-send}
use Rattle.ca_arena.specs.contracts.block.Block.{the_row}

pub send : (R A : RattleType) (g : Ghosts A.Denot) → IsSend R → IsSend A → Frees g g.dealloc_token → IsSend (the_row R A g)
send R A g items alloc = block-send R A g items
