-- Statement: replies that are read in a row.
use Rattle.std.specs.Prelude.{◌≡◌, ◌⊎◌, ℕ, zero, suc, ◌<◌}
use Rattle.ca_arena.specs.declared.handle.Handle.{Handle}
use Rattle.ca_client.specs.declared.answer.Answer.{Answer}
use Rattle.ca_client.specs.declared.answer.Answer.TheVariants as answer
use Rattle.ca_client.specs.declared.answer.Steps.{Steps}
use Rattle.ca_client.specs.declared.ask.CoreCall.TheVariants as ask
use Rattle.ca_client.specs.Awaited.{StateView}
use Rattle.ca_client.specs.Calls.{HasSteppedUnderLock}

-- n steps of this circuit in a row, each of which read a reply
abbrev pub Replies : Handle → ℕ → StateView → StateView → Type 0
Replies c zero old new = new ≡ old
Replies c (suc k) old new =
    (mid : StateView) × Replies c k old mid × HasSteppedUnderLock mid (ask.Step c) answer.Filled new

-- the answer of a step that read no reply
abbrev pub IsOther : Answer → Type 0
IsOther answer.Filled = ⊥
IsOther r = Unit {0}

-- As many steps read a reply as may; or fewer did, and then one did something
-- else, and was the last.
abbrev pub HasSteppedOn : Handle → ℕ → StateView → Steps → StateView → Type 0
HasSteppedOn c most old r new =
    ((r.replies ≡ most) × (r.answer ≡ answer.Filled) × Replies c most old new)
    ⊎ ((r.replies < most) × IsOther r.answer
    × ((mid : StateView) × Replies c r.replies old mid
    × HasSteppedUnderLock mid (ask.Step c) r.answer new))
