use Rattle.std.proofs.Common.{◌≡◌, ◌<◌, ◌^◌, ◌++◌, take, drop}
use Rattle.std.specs.Option.{option_map}
use Rattle.ca_queue.specs.Waiting.{after_cancel}
use Rattle.ca_queue.specs.Ring.{AreNoted, keys_of_lasts, waits, with_items}
use Rattle.ca_queue.proofs.event_queue.go_round.Given as goal

abbrev pub invariant-loop : goal.invariant-loop
invariant-loop g l = record {
  ring : l.ring ≡ option_map (with_items (drop l.counter (waits l.initial.ring) ++ after_cancel l.key (take l.counter (waits l.initial.ring)))) l.initial.ring;
  keys : keys_of_lasts l.lasts.0 ≡ keys_of_lasts l.initial.lasts.0;
  room : l.lasts.1 ≡ l.initial.lasts.1;
  noted : AreNoted l.puts (after_cancel l.key (take l.counter (waits l.initial.ring))) l.lasts.0;
  goes : l.puts < 2 ^ 64;
}
