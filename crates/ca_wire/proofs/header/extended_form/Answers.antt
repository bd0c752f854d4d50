use Rattle.ca_wire.specs.Header.{number16, number32}
use Rattle.ca_wire.proofs.Headers.{extended-listed}
use Rattle.ca_wire.proofs.header.extended_form.Goals as goal

pub returns : goal.returns
unfolding number16 number32
returns c =
    extended-listed c.args.header.now _ _ _ _ _ _ c.to_be_bytes-command.ensures c.to_be_bytes-data_type.ensures c.to_be_bytes-p1.ensures c.to_be_bytes-p2.ensures c.to_be_bytes-size.ensures c.to_be_bytes-count.ensures
