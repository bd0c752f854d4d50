-- What holds of each open end of a server and of its circuit stays so as an event goes by, if each
-- change of the two keeps it.
use Rattle.std.proofs.Common.{◌≡◌, ℕ, ◌≤◌, ◌⊎◌, inl, inr, true, List, [], ◌++◌, length, Option, Some, refl, sym, ap, subst, ◌∙◌}
use Rattle.std.specs.Prelude.{filter, is_some, map, replicate, slice_set}
use Rattle.std.specs.List.{FoldsTo, fold}
use Rattle.ca_arena.specs.declared.handle.Handle.{Handle}
use Rattle.ca_model.proofs.Tables.{all-freed-back}
use Rattle.ca_queue.specs.Queue.{no_queue}
use Rattle.ca_text.specs.Limits.{circuit_queues}
use Rattle.ca_text.specs.Place.{At}
use Rattle.ca_text.proofs.Places.{At-mapped, At-one, At-set}
use Rattle.ca_wire.specs.Fields.{Fields}
use Rattle.ca_model.specs.Due.{Action, Due}
use Rattle.ca_model.specs.Server.{Open, OpenChannel, Server, ServerCircuit, ServerEnd, concerns, key_of, new_end, with_post}
use Rattle.ca_model.specs.ServerCalls.{channels_of, end_without, is_on}
use Rattle.ca_model.specs.ServerSteps.{Acts, HasEnd, Leaves, Update, knows}
use Rattle.ca_model.specs.Speech.{Stored}
use Rattle.ca_model.specs.History.{Reply, Sent, Step}
use Rattle.ca_model.specs.ServerEvents.{about, ending, ends_at, handled_at, left_by, numbers_after, removal_told, reported, server_after, stamped, with_number, without_puts, without_standing}
use Rattle.ca_model.specs.World.{Joined, ServerSide, World}
use Rattle.ca_laws_parts.specs.Seats.{Seated}
use Rattle.ca_laws_parts.proofs.WritesEvents.{SameEnds}
use Rattle.ca_laws_parts.proofs.Frames.{Frame, Goes, goes-self}
use Rattle.ca_laws_parts.proofs.Seats.{open-still}

-- ---- two ends

-- Both have the same channels, subscriptions and queues.
pub record SameHeld (e f : ServerEnd) : Type 0 where
  pub channels : f.channels ≡ e.channels
  pub subscriptions : f.subscriptions ≡ e.subscriptions
  pub queues : f.queues ≡ e.queues

pub held-self : (e : ServerEnd) → SameHeld e e
held-self e = record { channels = refl; subscriptions = refl; queues = refl }

pub held-then : (a b c : ServerEnd) → SameHeld a b → SameHeld b c → SameHeld a c
held-then a b c f g = record { channels = g.channels ∙ f.channels; subscriptions = g.subscriptions ∙ f.subscriptions; queues = g.queues ∙ f.queues }

-- Nothing happened on a circuit yet.
pub record IsNew (c : Joined) : Type 0 where
  pub up : c.lists.up ≡ []
  pub down : c.lists.down ≡ []
  pub handled : c.lists.handled ≡ []
  pub creations : c.creations ≡ []
  pub standing : c.standing ≡ []
  pub queues : c.queues ≡ replicate circuit_queues no_queue

-- the circuit whose channels of a removed record, these, have their SERVER_DISCONNs
abbrev pub told_gone : List (Handle × OpenChannel) → Joined → Joined
told_gone told c = without_standing (is_on told) (record c { lists = record c.lists { down = c.lists.down ++ map (removal_told c.creations) told } })

-- the circuit on which these went down as replies about this place
abbrev pub told_late : (place : ℕ) → List Fields → Joined → Joined
told_late place ms c = record c { lists = record c.lists { down = c.lists.down ++ about place Reply ms } }

-- the circuit with numbers for the subscriptions of an end that a post concerns
abbrev pub numbered_for : (name : List ℕ) → (mask : ℕ) → ServerEnd → Joined → Joined
numbered_for name mask e c = fold with_number c (map key_of (filter (concerns name mask) e.subscriptions))

-- the same server has the end, under the same handle, and it is open as before
pub record SameSeat (c d : Joined) : Type 0 where
  pub server : d.server ≡ c.server
  pub handle : d.at_server ≡ c.at_server
  pub is_open : d.lists.server_open ≡ c.lists.server_open

pub seat-of : (c d : Joined) → SameEnds c d → SameSeat c d
seat-of c d s = record { server = s.server; handle = s.handle; is_open = s.is_open }

-- ---- each end that is open now was open

abbrev pub EndsWere : (old new : Server) → Type 0
EndsWere old new = (h : Handle) (f : ServerEnd) → HasEnd new h f → (e : ServerEnd) × HasEnd old h e × SameHeld e f

-- ---- what is to hold of ends and circuits

module _ (P : ℕ → ServerEnd → Joined → Type 0) where
  abbrev pub AllEnds : World → Type 0
  AllEnds w = (n : ℕ) (c : Joined) (y : ServerSide) (e : ServerEnd) → At w.circuits n c → At w.servers c.server y → c.lists.server_open ≡ true
      → HasEnd y.core c.at_server e → P n e c

  -- Each change of an end and its circuit, of this number, keeps it: what happens at the
  -- client, and to bytes; a post; a removal; updates that leave their queues; and a late reply.
  -- A new circuit has it.
  pub record Lasting : Type 0 where
    pub stays : (n : ℕ) (e f : ServerEnd) (c d : Joined) → SameHeld e f → Goes c d → P n e c → P n f d
    pub posted : (n : ℕ) (name : List ℕ) (mask : ℕ) (v : Stored) (e : ServerEnd) (c : Joined) → P n e c → P n (with_post name mask v e) (numbered_for name mask e c)
    pub removed : (n : ℕ) (name : List ℕ) (e : ServerEnd) (c : Joined) → P n e c → P n (end_without name e) (told_gone (channels_of name e) c)
    pub pumped : (n : ℕ) (updates : List Update) (e after : ServerEnd) (c : Joined) → FoldsTo Leaves e updates after → P n e c → P n after (stamped updates c)
    pub replied : (n : ℕ) (e : ServerEnd) (c : Joined) (place : ℕ) (ms : List Fields) → P n e c → P n e (told_late place ms c)

  abbrev pub Begins : World → Type 0
  Begins w = (n moment : ℕ) (c : Joined) → length w.circuits ≤ n → IsNew c → P n (new_end moment) c

  -- And so does a message that is handled.
  abbrev pub Handled : Type 0
  Handled = (n : ℕ) (y : Server) (e new : ServerEnd) (s : Sent) (replies : List Fields) (did : Action) (step : Step) (c : Joined)
      → At c.lists.up (length c.lists.handled) s → Due (knows y e) s.message replies did → Acts y e did new → P n e c
      → P n new (handled_at (length c.lists.handled) step replies (numbers_after (length c.lists.handled) did c))

  -- servers stay, and circuits go on
  pub frame-lasts : Lasting → (w new : World) → Frame w new → AllEnds w → AllEnds new
  frame-lasts k w new f all n d y e at there opened has =
      let c = f.back n d at in
      k.stays n e e c.0 d (held-self e) c.2
      (all n c.0 y e c.1 (subst (λ (m : ℕ). At w.servers m y) c.2.later.server (subst (λ (l : List ServerSide). At l d.server y) f.servers there)) (sym c.2.is_open ∙ opened)
      (subst (λ (h : Handle). HasEnd y.core h e) c.2.later.handle has))

  -- a server goes on with another core, and no circuit changes
  pub core-lasts : Lasting → (w new : World) (i : ℕ) (y next : ServerSide) → At w.servers i y → new.servers ≡ slice_set w.servers i next → new.circuits ≡ w.circuits → EndsWere y.core next.core → AllEnds w → AllEnds new
  core-lasts k w new i y next is servers circuits were all n c z e at there opened has =
      let on : At w.circuits n c = subst (λ (l : List Joined). At l n c) circuits at in
      elim (At-set w.servers i next c.server z (subst (λ (l : List ServerSide). At l c.server z) servers there)) [
        | inl own ↦
            let was = were c.at_server e (subst (λ (s : ServerSide). HasEnd s.core c.at_server e) own.1 has) in
            k.stays n was.0 e c c was.2 (goes-self c) (all n c y was.0 on (subst (λ (m : ℕ). At w.servers m y) (sym own.0) is) opened was.1)
        | inr old ↦ all n c z e on old.0 opened has
      ]

-- An event at server i, after which its core is this. The law says what it makes of each circuit of
-- the server that is open then.
module _ (P : ℕ → ServerEnd → Joined → Type 0) (w : World) (i : ℕ) (y : ServerSide) (core : Server) where
  abbrev pub Back : World → Type 0
  Back new = (n : ℕ) (d : Joined) → At new.circuits n d → d.lists.server_open ≡ true
      → (c : Joined) × At w.circuits n c × SameSeat c d × ((c.server ≡ i → ⊥) → (e : ServerEnd) → P n e c → P n e d)

  abbrev pub Law : World → Type 0
  Law new = (n : ℕ) (c d : Joined) (e f : ServerEnd) → At w.circuits n c → At new.circuits n d → d.lists.server_open ≡ true → c.server ≡ i
      → HasEnd y.core c.at_server e → P n e c → HasEnd core c.at_server f → P n f d

  pub at-server : (new : World) → At w.servers i y → Back new
      → ((j : ℕ) (z : ServerSide) → At new.servers j z → ((j ≡ i) × (z.core ≡ reported core)) ⊎ (At w.servers j z × (j ≡ i → ⊥))) → Law new → Seated w → AllEnds P w
      → AllEnds P new
  at-server new is back servers law seated all n d z e at there opened has =
      let b = back n d at opened in
      let c : Joined = b.0 in
      let opened_then : c.lists.server_open ≡ true = sym b.2.is_open ∙ opened in
      elim (servers d.server z there) [
        | inl own ↦
            let mine : c.server ≡ i = sym b.2.server ∙ own.0 in
            let seat = seated.each n c b.1 opened_then in
            let same : seat.y ≡ y = At-one w.servers i seat.y y (subst (λ (k : ℕ). At w.servers k seat.y) mine seat.at) is in
            let had : HasEnd y.core c.at_server seat.e = subst (λ (s : ServerSide). HasEnd s.core c.at_server seat.e) same seat.has in
            let kept = all-freed-back (λ (u : ServerCircuit). is_some (left_by (Some u))) core.circuits d.at_server (Open e) (subst (λ (s : Server). HasEnd s d.at_server e) own.1 has) in
            law n c d seat.e e b.1 at opened mine had (all n c y seat.e b.1 (subst (λ (k : ℕ). At w.servers k y) (sym mine) is) opened_then had)
            (subst (λ (h : Handle). HasEnd core h e) b.2.handle kept.0)
        | inr old ↦
            let other : c.server ≡ i → ⊥ = λ mine. old.1 (b.2.server ∙ mine) in
            b.3 other e (all n c z e b.1 (subst (λ (k : ℕ). At w.servers k z) b.2.server old.0) opened_then (subst (λ (h : Handle). HasEnd z.core h e) b.2.handle has))
      ]

  -- so of one after which circuits end
  pub after-lasts : (mid : World) (side : ServerSide) (ends : Joined → Option (List ℕ)) → At w.servers i y → Back mid
      → ((j : ℕ) (z : ServerSide) → At mid.servers j z → (j ≡ i → ⊥) → At w.servers j z) → Law mid → Seated w → AllEnds P w
      → AllEnds P (server_after i side ends core mid)
  after-lasts mid side ends is back others law seated all =
      at-server (server_after i side ends core mid) is
      (λ n d at opened.
      let x = At-mapped (ending ends) mid.circuits n d at in
      let still = open-still ends x.0 d x.2 opened in
      let b = back n x.0 x.1 (ap (λ (j : Joined). j.lists.server_open) (sym still.1) ∙ opened) in (
        b.0,
        b.1,
        subst (λ (j : Joined). SameSeat b.0 j) (sym still.1) b.2,
        λ other e h. subst (λ (j : Joined). P n e j) (sym still.1) (b.3 other e h),
      ))
      (λ j z at. elim (At-set mid.servers i (record side { core = reported core; records = map (without_puts (ends_at ends mid.circuits)) side.records }) j z at) [
        | inl own ↦ inl (own.0, ap (λ (s : ServerSide). s.core) own.1)
        | inr old ↦ inr (others j z old.0 old.1, old.1)
      ])
      (λ n c d e f on at opened mine had h has.
      let x = At-mapped (ending ends) mid.circuits n d at in
      let still = open-still ends x.0 d x.2 opened in
      subst (λ (j : Joined). P n f j) (sym still.1)
      (law n c x.0 e f on x.1 (ap (λ (j : Joined). j.lists.server_open) (sym still.1) ∙ opened) mine had h has))
      seated all
