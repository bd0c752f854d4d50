use Rattle.std.proofs.Common.{◌∙◌, ap, subst}
use Rattle.ca_wire.specs.Stream.{NoneBegins, NotBad}
use Rattle.ca_client_tables.proofs.circuit.Connection.first.Goals as goal
use Rattle.std.proofs.Common.{List, ℕ}
use Rattle.ca_model.specs.Client.{Connection}

pub returns-in-More : goal.returns-in-More
returns-in-More c =
    let here = c.in_bytes-bytes.ensures ∙ ap (λ (e : Connection). e.link.input.bytes) c.self.view_is in
    (subst NoneBegins here c.in-More.ensures.0, subst NotBad here c.in-More.ensures.1)
