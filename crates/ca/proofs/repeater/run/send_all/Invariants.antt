use Rattle.std.proofs.Common.{List, drop}
use Rattle.ca_repeat.specs.declared.address.UdpAddress.{UdpAddress}
use Rattle.ca.specs.Repeating.{Sends}
use Rattle.ca.proofs.repeater.run.send_all.Given as goal

-- what the sends that are left lead to, all of them lead to
abbrev pub invariant-loop-send : goal.invariant-loop-send
invariant-loop-send g l =
    (t : _) (after : List UdpAddress) → Sends g.D.Datagrams.went g.D.Datagrams.refuses l.datagrams l.repeater (drop l.send-index l.sends) t after → Sends g.D.Datagrams.went g.D.Datagrams.refuses l.initial.datagrams l.initial.repeater l.sends t after
