-- Working: the reply of a put that is finished, in the table of circuits, and what the end of a
-- busy put leaves to do.
use Rattle.std.specs.Prelude.{ℕ, ◌≡◌, ◌⊎◌, true, Option, Some, None}
use Rattle.ca_ids.specs.Table.{Table, under, with_changed}
use Rattle.ca_ids.specs.Wire.{wire_of}
use Rattle.ca_records.specs.declared.puts.Finished.{Finished}
use Rattle.ca_records.specs.declared.puts.Put.{Put}
use Rattle.ca_records.specs.Store.{Store}
use Rattle.ca_model.specs.Server.{ServerCircuit}
use Rattle.ca_server_circuit.specs.declared.effect.Effect.TheVariants as told
use Rattle.ca_server_circuit.specs.declared.step.FollowUp.{FollowUp}
use Rattle.ca_server_circuit.specs.declared.step.FollowUp.TheVariants as effect
use Rattle.ca_server_circuit.specs.Finishing.{RepliesAt}

-- the reply of a put on its circuit, if that is there
abbrev pub RepliesIn : Table ServerCircuit → Put → Store → Table ServerCircuit → Store → Type 0
RepliesIn t p s after u =
    ((c : ServerCircuit) × (new : ServerCircuit) × (under t p.circuit ≡ Some c)
    × RepliesAt p c s new u × (after ≡ with_changed (λ (x : ServerCircuit). new) p.circuit t))
    ⊎ ((under t p.circuit ≡ None) × (after ≡ t) × (u ≡ s))

-- what a put that was applied next leaves to do
abbrev pub after_applied : (place : ℕ) → Option Put → FollowUp
after_applied place None = effect.Quiet told.Quiet
after_applied place (Some p) = effect.Wrote place true (wire_of p.channel)

-- what the end of a busy put leaves to do
abbrev pub effect_after : Finished → FollowUp
effect_after f = after_applied f.place f.applied
