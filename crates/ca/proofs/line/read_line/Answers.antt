use Rattle.std.proofs.Common.{map, string_bytes}
use Rattle.ca.proofs.Asking.{answer-none, repeater-none, replay-none}
use Rattle.ca.proofs.line.read_line.Goals as goal

pub returns-in-Ok-None-clause-ok : goal.returns-in-Ok-None-clause-ok
returns-in-Ok-None-clause-ok c =
    answer-none _ (map string_bytes c.in-Some.rest.now) c.in-Ok-None.field-0 c.in-Some.ensures c.in-Ok-None.ensures.ok c.in-Ok-None.field-0-is

pub returns-in-Ok-None-read_repeater-clause-ok : goal.returns-in-Ok-None-read_repeater-clause-ok
returns-in-Ok-None-read_repeater-clause-ok c =
    repeater-none _ (map string_bytes c.in-Some-after.rest.now) c.in-Ok-None-read_repeater.field-0 c.in-Some-after.ensures c.in-Ok-None-read_repeater.ensures.ok c.in-Ok-None-read_repeater.field-0-is

pub returns-in-Ok-None-read_replay-clause-ok : goal.returns-in-Ok-None-read_replay-clause-ok
returns-in-Ok-None-read_replay-clause-ok c =
    replay-none _ (map string_bytes c.in-Some-after-2.rest.now) c.in-Ok-None-read_replay.field-0 c.in-Some-after-2.ensures c.in-Ok-None-read_replay.ensures.ok c.in-Ok-None-read_replay.field-0-is
