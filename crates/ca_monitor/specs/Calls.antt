-- Vocabulary: what the calls on a client's subscriptions answer and leave.
use Rattle.std.specs.Prelude.{◌≡◌, ◌≢◌, ◌⊎◌, Option, Some, None, Result, Ok, Err}
use Rattle.ca_text.specs.declared.refusal.Refusal.{Refusal}
use Rattle.ca_text.specs.declared.refusal.Refusal.TheVariants as refusal
use Rattle.ca_arena.specs.declared.handle.Handle.{Handle}
use Rattle.ca_ids.specs.Holding.{IsVacant}
use Rattle.ca_ids.specs.Table.{MayGive, Table, with_freed, with_held}
use Rattle.ca_monitor.specs.Subscriptions.{Stage, Subscription, standing_under, with_stage}

-- From old, this subscription was added under the handle that was told, with this answer, and left
-- new. Refused, all is as before: another handle may be told, or none, and this one is stale; or
-- this one may be given, and there is no memory.
abbrev pub Adds : Table Subscription → Handle → Subscription → Result (Unit {0}) Refusal
    → Table Subscription → Type 0
Adds old h s (Ok _) new = MayGive old h × (new ≡ with_held h s old)
Adds old h s (Err e) new =
    (new ≡ old)
    × (((e ≡ refusal.StaleHandle) × (told : Option Handle) × IsVacant old told × (told ≢ Some h))
    ⊎ ((e ≡ refusal.OutOfMemory) × MayGive old h))

-- From old, the subscription of this handle came to this stage, with this answer, and left new.
abbrev pub Comes : Stage → Table Subscription → Handle → Result Subscription Refusal
    → Table Subscription → Type 0
Comes stage old h (Ok s) new = (standing_under h old ≡ Some s) × (new ≡ with_stage stage h old)
Comes stage old h (Err refusal.StaleHandle) new = (standing_under h old ≡ None) × (new ≡ old)
Comes stage old h (Err _) new = ⊥

-- the table in which the id of this handle, if there is one, is free
abbrev pub freed_if : Option Handle → Table Subscription → Table Subscription
freed_if None t = t
freed_if (Some h) t = with_freed h t
