use Rattle.std.proofs.Common.{◌≡◌, take}
use Rattle.std.specs.List.{flat_map}
use Rattle.ca_server_core.specs.Searching.{answer_of}
use Rattle.ca_server_core.proofs.datagrams.answers.Given as goal

abbrev pub invariant-loop-message : goal.invariant-loop-message
invariant-loop-message l = l.replies.items ≡ flat_map (answer_of l.port l.records) (take l.message-index l.messages)
