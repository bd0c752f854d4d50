-- The step of a server's end that handles a message, as an event of a world.
use Rattle.std.proofs.Common.{◌≡◌, ℕ, Bool, false, List, length, Option, Some, None, refl, sym, ap, ◌∙◌, subst}
use Rattle.std.specs.Prelude.{map, option_map, slice_set, unwrap_or}
use Rattle.ca_text.specs.Place.{At}
use Rattle.ca_text.proofs.Places.{At-map, At-one, At-set-other, At-within}
use Rattle.ca_arena.specs.declared.handle.Handle.{Handle}
use Rattle.ca_link.specs.Link.{with_rest}
use Rattle.ca_wire.specs.Fields.{Fields}
use Rattle.ca_model.specs.Client.{Client}
use Rattle.ca_model.specs.Due.{Action, Due, Knows}
use Rattle.ca_model.specs.History.{Circuit, Step}
use Rattle.ca_model.specs.Ends as why
use Rattle.ca_model.specs.ServerSteps.{Closed, Handled, NeedBytes, OutputFull, Stepped, closed, knows}
use Rattle.ca_model.specs.ServerEvents.{ServerStepped, StepHandles, acted, ending, ends_by, ends_here, handled_at, logged, numbers_after, server_after, server_closed, side_of, unsaid, write_numbers}
use Rattle.ca_model.specs.World.{Joined, Names, ServerSide, World, with_circuit}
use Rattle.ca_laws_parts.specs.Circuit.{HeldAt, HeldOn, IsNext}
use Rattle.ca_laws_parts.proofs.Handled.{handled-held, like-held, mapped-held, numbers-like, writes-like}
use Rattle.ca_laws_parts.proofs.RunsServers.{closed-server, ending-client, server-held}
use Rattle.ca_laws_parts.proofs.Worlds.{circuit-changed}
use Rattle.ca_model.proofs.Thinner.{set-there}

closed-next : (kept now : List ℕ) (c : Circuit) (k : Knows) (m : Fields) (replies : List Fields) → IsNext kept now c k m replies → IsNext kept now (record c { server_open = false }) k m replies
closed-next kept now c k m replies h = record { s = h.s; at = h.at; is = h.is; fits = h.fits; writes = h.writes; were = h.were; gone = h.gone; over = h.over }

-- its own circuit, whether its end at the server ended or not
own-ended : (kept now : List ℕ) (n : Names) (x : Client) (j : Joined) (o : Option (List ℕ)) (place : ℕ) (h : Step) (k : Knows) (m : Fields) (replies : List Fields) (action : Action) → place ≡ length j.lists.handled → Due k m replies action
    → IsNext kept now j.lists k m replies → HeldOn kept n x j → HeldOn now n x (handled_at place h replies (unwrap_or (option_map (λ (left : List ℕ). server_closed left j) o) j))
own-ended kept now n x j None place h k m replies action is due next held =
    subst (λ (p : ℕ). HeldOn now n x (handled_at p h replies j)) (sym is) (handled-held kept now n x j h k m replies action due next held)
own-ended kept now n x j (Some left) place h k m replies action is due next held =
    let c : Joined = server_closed left j in
    subst (λ (p : ℕ). HeldOn now n x (handled_at p h replies c)) (sym is)
    (handled-held kept now n x c h k m replies action due (closed-next kept now j.lists k m replies next) (closed-server kept n x j left held))

-- what a message does to places and numbers changes no list
acted-held : (kept : List ℕ) (w : World) (k l : ℕ) (j : Joined) (y : ServerSide) (action : Action) → At w.circuits k j → HeldAt kept w l → HeldAt kept (acted k j y action w) l
acted-held kept w k l j y action at held =
    let place : ℕ = length j.lists.handled in
    let here : World = with_circuit k (numbers_after place action j) w in
    let numbered : HeldAt kept here l =
    circuit-changed kept w k l j (numbers_after place action j) at (numbers-like place action j).2
    (λ n x h. like-held kept n x j (numbers_after place action j) (numbers-like place action j) h) held in
    let written = mapped-held kept here l (write_numbers j.server y.core action) (writes-like j.server y.core action) numbered in
    (written.0, written.1, written.2, written.3, written.4)

-- A step that handles no message: it takes none, or closes the circuit.
pub keeps-unhandled : (kept : List ℕ) (w new : World) (k l : ℕ) (j : Joined) (y : ServerSide) (did : Stepped) → At w.circuits k j → (did ≡ Handled → ⊥) → ServerStepped w k j y did new → HeldAt kept w l → HeldAt kept new l
keeps-unhandled kept w new k l j y Handled at not steps held = absurd (not refl)
keeps-unhandled kept w new k l j y NeedBytes at not steps held = subst (λ (v : World). HeldAt kept v l) (sym steps.3) held
keeps-unhandled kept w new k l j y OutputFull at not steps held = subst (λ (v : World). HeldAt kept v l) (sym steps.3) held
keeps-unhandled kept w new k l j y (Closed why.OutOfMemory left) at not steps held =
    subst (λ (v : World). HeldAt kept v l) (sym steps.leaves)
    (server-held kept (unsaid k j y steps.lacks.next.action steps.lacks.written w) j.server l (side_of j.server y (unsaid k j y steps.lacks.next.action steps.lacks.written w)) (ends_here j left j.server steps.core) steps.core (go steps.lacks.written))
  where
    go : (o : Option (Handle → Bool)) → HeldAt kept (unsaid k j y steps.lacks.next.action o w) l
    go None = held
    go (Some gone) = acted-held kept w k l j y steps.lacks.next.action at held
keeps-unhandled kept w new k l j y (Closed cause left) at not steps held =
    subst (λ (v : World). HeldAt kept v l) (sym steps.3)
    (server-held kept w j.server l y (ends_here j left j.server y.core) (closed j.at_server y.core) held)

module _ (kept : List ℕ) (w new : World) (k : ℕ) (j : Joined) (y : ServerSide) (s : StepHandles w k j y new) (at : At w.circuits k j) where
  abbrev mid : World
  mid = acted k j y (s.steps.0).action w

  abbrev after : World
  after = server_after j.server (side_of j.server y mid) (ends_by j.server s.core) s.core mid

  abbrev moved : Joined
  moved = write_numbers j.server y.core (s.steps.0).action (numbers_after (length j.lists.handled) (s.steps.0).action j)

  abbrev last : Joined
  last = ending (ends_by j.server s.core) moved

  abbrev step : Step
  step = record { sent = length j.lists.down; logged = logged y w; after = logged y after }

  -- the circuit before it is noted
  there : At after.circuits k last
  there =
      let set : List Joined = slice_set w.circuits k (numbers_after (length j.lists.handled) (s.steps.0).action j) in
      At-map (ending (ends_by j.server s.core)) (map (write_numbers j.server y.core (s.steps.0).action) set) k moved
      (At-map (write_numbers j.server y.core (s.steps.0).action) set k (numbers_after (length j.lists.handled) (s.steps.0).action j) (set-there w.circuits k (numbers_after (length j.lists.handled) (s.steps.0).action j) (At-within w.circuits k j at)))

  new-is : new ≡ with_circuit k (handled_at (length j.lists.handled) step (s.steps.0).replies last) after
  new-is = s.leaves ∙ ap (λ (o : Option Joined). unwrap_or (option_map (λ (c : Joined). with_circuit k (handled_at (length j.lists.handled) step (s.steps.0).replies c) after) o) after) there

  -- the others
  after-held : (l : ℕ) → HeldAt kept w l → HeldAt kept after l
  after-held l held =
      server-held kept mid j.server l (side_of j.server y mid) (ends_by j.server s.core) s.core (acted-held kept w k l j y (s.steps.0).action at held)

  pub others-handled : (l : ℕ) → (l ≡ k → ⊥) → HeldAt kept w l → HeldAt kept new l
  others-handled l differs held =
      let r = after-held l held in
      subst (λ (v : World). HeldAt kept v l) (sym new-is)
      (r.0, r.1, At-set-other after.circuits k l r.0 (handled_at (length j.lists.handled) step (s.steps.0).replies last) r.2 differs, r.3, r.4)

  -- its own
  pub own-handled : (now : List ℕ) → IsNext kept now j.lists (knows y.core (record s.e { link = with_rest (s.steps.0).rest s.e.link })) (s.steps.0).m (s.steps.0).replies → HeldAt kept w k → HeldAt now new k
  own-handled now known held =
      let numbers : Joined = numbers_after (length j.lists.handled) (s.steps.0).action j in
      let a = numbers-like (length j.lists.handled) (s.steps.0).action j in
      let b = writes-like j.server y.core (s.steps.0).action numbers in
      let lists : moved.lists ≡ j.lists = b.0 ∙ a.0 in
      let one : held.0 ≡ j = At-one w.circuits k held.0 j held.2 at in
      let was : HeldOn kept held.1.names held.1.core j = subst (λ (z : Joined). HeldOn kept held.1.names held.1.core z) one held.4 in
      let moved_held : HeldOn kept held.1.names held.1.core moved =
      like-held kept held.1.names held.1.core numbers moved b (like-held kept held.1.names held.1.core j numbers a was) in
      let client : last.client ≡ held.0.client = ending-client moved (ends_by j.server s.core moved) ∙ b.2 ∙ a.2 ∙ ap (λ (z : Joined). z.client) (sym one) in
      subst (λ (v : World). HeldAt now v k) (sym new-is) (
        handled_at (length j.lists.handled) step (s.steps.0).replies last,
        held.1,
        set-there after.circuits k (handled_at (length j.lists.handled) step (s.steps.0).replies last) (At-within after.circuits k last there),
        subst (λ (c : ℕ). At w.clients c held.1) (sym client) held.3,
        own-ended kept now held.1.names held.1.core moved (ends_by j.server s.core moved) (length j.lists.handled) step (knows y.core (record s.e { link = with_rest (s.steps.0).rest s.e.link })) (s.steps.0).m (s.steps.0).replies (s.steps.0).action
            (ap (λ (c : Circuit). length c.handled) (sym lists)) (s.steps.0).handles.due
            (subst (λ (c : Circuit). IsNext kept now c (knows y.core (record s.e { link = with_rest (s.steps.0).rest s.e.link })) (s.steps.0).m (s.steps.0).replies) (sym lists) known) moved_held,
      )
