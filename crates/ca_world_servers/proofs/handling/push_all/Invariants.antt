use Rattle.std.proofs.Common.{◌≡◌, ◌≤◌, ◌+◌, ◌++◌, length}
use Rattle.std.specs.Prelude.{vec_capacity, vec_len}
use Rattle.ca_world_servers.proofs.handling.push_all.Given as goal

-- the replies that are left make up the rest, and there is room for them
abbrev pub invariant-loop-reply : goal.invariant-loop-reply
invariant-loop-reply l =
    record {
      down : l.down.items ++ l.reply-iterator.rest.items ≡ l.initial.down.items ++ l.fn.replies.items;
      room : vec_len l.down + length l.reply-iterator.rest.items ≤ vec_capacity l.down;
    }
