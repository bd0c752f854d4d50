use Rattle.ca_laws_parts.specs.Flows.{Awaits}
use Rattle.ca_laws_parts.proofs.Writes.{write-keeps, write-may}
use Rattle.ca_laws_parts.proofs.channel_laws.a_write_keeps_what_is_held.Goals as goal

pub returns : goal.returns
returns c kept on n x d s h number ch sends writes means there asked cids holds = (
  write-may (Awaits d kept) on n x d s h number writes means ch there asked cids holds,
  write-keeps (Awaits d kept) on n x d s h number writes means ch there asked cids holds sends,
)
