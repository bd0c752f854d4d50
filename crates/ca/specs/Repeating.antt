-- What the host's repeater does with the datagrams that come, over any device that carries them
-- (section "CA Repeater"). A datagram came, went or was refused, or a receive failed: each may lead
-- the device from a first state to a second.
use Rattle.std.specs.Prelude.{ℕ, ◌≡◌, ◌<◌, ◌⊎◌, ◌-◌, ◌^◌, zero, suc, not, filter, List, [], ◌∷◌}
use Rattle.std.specs.Prelude.{Option, None, Some, Vec, Result, Ok, Err}
use Rattle.std.specs.declared.alloc.Global.{Global}
use Rattle.ca_text.specs.declared.refusal.Refusal.{Refusal}
use Rattle.ca_text.specs.declared.refusal.Refusal.TheVariants.{Device, OutOfMemory}
use Rattle.ca_link.specs.declared.source.Fault.{Fault}
use Rattle.ca_repeat.specs.declared.address.UdpAddress.{UdpAddress}
use Rattle.ca_repeat.specs.Addresses.{same}
use Rattle.ca_repeat.specs.Sent.{Sent}
use Rattle.ca_repeat.specs.Fan.{Receives}
use Rattle.ca.specs.declared.repeater.line.RepeaterLine.{RepeaterLine}
use Rattle.ca_link.specs.Exits.{status_of}

module _ {D : Type 0} (went refuses : D → UdpAddress → List ℕ → D → Type 0) where
  -- One datagram is sent, or refused: then the member to whom it went is dropped.
  abbrev pub SendsOne : D → List UdpAddress → Sent → D → List UdpAddress → Type 0
  SendsOne s members d t after =
      (went s d.to d.bytes t × (after ≡ members))
      ⊎ (refuses s d.to d.bytes t × (after ≡ filter (λ m. not (same m d.to)) members))

  -- These are sent, in order.
  abbrev pub Sends : D → List UdpAddress → List Sent → D → List UdpAddress → Type 0
  Sends s members [] t after = (t ≡ s) × (after ≡ members)
  Sends s members (d ∷ sends) t after =
      (mid : D) × (known : List UdpAddress) × SendsOne s members d mid known
      × Sends mid known sends t after

  module _ (came : D → UdpAddress → List ℕ → D → Type 0) where
    -- One datagram came, and what is due for it was sent.
    pub record Round (s : D) (members : List UdpAddress) (t : D)
        (after : List UdpAddress) : Type 0 where
      pub from : UdpAddress
      pub bytes : List ℕ
      pub got : D
      pub came_in : came s from bytes got
      pub sends : Vec Sent Global
      pub enrolled : List UdpAddress
      pub receives : Receives members from bytes (Ok sends) enrolled
      pub sent : Sends got enrolled sends.items t after

    -- n rounds, the first with no members
    abbrev pub Rounds : ℕ → D → D → List UdpAddress → Type 0
    Rounds zero s0 s members = (s ≡ s0) × (members ≡ [])
    Rounds (suc n) s0 s members =
        (mid : D) × (known : List UdpAddress) × Rounds n s0 mid known × Round mid known s members

    module _ (fails : D → D → Type 0) where
      -- A datagram came, and memory lacked for what is due for it.
      pub record Lacks (s : D) (members : List UdpAddress) (t : D)
          (after : List UdpAddress) : Type 0 where
        pub from : UdpAddress
        pub bytes : List ℕ
        pub came_in : came s from bytes t
        pub receives : Receives members from bytes (Err OutOfMemory) after

      -- One datagram was waited for, with this outcome.
      abbrev pub Takes : D → List UdpAddress → Result (Unit {0}) Refusal → D → List UdpAddress
          → Type 0
      Takes s members (Ok _) t after = Round s members t after
      Takes s members (Err Device) t after = fails s t
      Takes s members (Err OutOfMemory) t after = Lacks s members t after
      Takes s members (Err _) t after = ⊥

      -- A run for n datagrams, with this outcome: it ends well only after n rounds; refused as
      -- `Device` if a receive failed after fewer; and out of memory before it began, or at a
      -- datagram that came after fewer.
      abbrev pub Repeats : ℕ → D → Result (Unit {0}) Refusal → D → Type 0
      Repeats n s0 (Ok _) s = (members : List UdpAddress) × Rounds n s0 s members
      Repeats n s0 (Err Device) s =
          (i : ℕ) × (mid : D) × (members : List UdpAddress) × (i < n) × Rounds i s0 mid members
          × fails mid s
      Repeats n s0 (Err OutOfMemory) s =
          (s ≡ s0) ⊎
          ((i : ℕ) × (mid : D) × (members after : List UdpAddress) × (i < n)
          × Rounds i s0 mid members
          × Lacks mid members s after)
      Repeats n s0 (Err _) s = ⊥

      -- n datagrams at most; without a number more than ever come
      abbrev pub limit_of : Option ℕ → ℕ
      limit_of None = 2 ^ 64 - 1
      limit_of (Some n) = n

      -- A run for n datagrams at most ended with some outcome, which has this exit status.
      pub record RepeatsTo (limit : Option ℕ) (s0 s : D) (status : ℕ) : Type 0 where
        pub outcome : Result (Unit {0}) Refusal
        pub repeats : Repeats (limit_of limit) s0 outcome s
        pub told : status ≡ status_of outcome

      -- The line's repeater ran on what was bound, and has this exit status: 1 if nothing was
      -- bound, or if the port that the system chose could not be told.
      abbrev pub RepeatsFrom : Result D Fault → RepeaterLine → ℕ → Type 0
      RepeatsFrom (Err _) line status = status ≡ 1
      RepeatsFrom (Ok s0) line status =
          ((line.port ≡ 0) × (status ≡ 1)) ⊎ ((s : D) × RepeatsTo line.datagrams s0 s status)
