use Rattle.std.proofs.Common.{◌≡◌, ◌+◌, [], cond, false, length}
use Rattle.ca_server_circuit.specs.ByName.{channels_to}
use Rattle.ca_server_circuit.specs.Removing.{without_channels}
use Rattle.ca_server_circuit.proofs.end.End.retire_all.Given as goal

-- what is to be done from here is what was to be done
abbrev pub invariant-retiring : goal.invariant-retiring
invariant-retiring l = record {
  same : without_channels l.name l.self ≡ without_channels l.name l.fn.self;
  none : l.more ≡ false → channels_to l.name l.self.channels ≡ [];
}

abbrev pub decreases-retiring : goal.decreases-retiring
decreases-retiring l = length (channels_to l.name l.self.channels) + cond l.more 1 0
