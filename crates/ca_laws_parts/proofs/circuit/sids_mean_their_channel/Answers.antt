use Rattle.ca_laws_parts.proofs.Sids.{acts-on-own, one-live, sids-handled, sids-heard, sids-new, sids-sent, sids-told}
use Rattle.ca_laws_parts.proofs.circuit.sids_mean_their_channel.Goals as goal

pub returns : goal.returns
returns c = record { new = sids-new; sent = sids-sent; read = sids-heard; handled = sids-handled; told = sids-told; one = one-live; acts = acts-on-own }
