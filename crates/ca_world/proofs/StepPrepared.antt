-- What a message did is begun on its circuit, and its replies are read off the core after the step.
use Rattle.std.proofs.Common.{◌≡◌, ◌∙◌, ◌≤◌, ◌+◌, ℕ, true, false, List, [], drop, length, refl, sym, ap, subst, arith}
use Rattle.std.proofs.lemmas.List.{append-nil, drop_at, length-append}
use Rattle.ca_arena.specs.declared.handle.Handle.{Handle}
use Rattle.ca_ids.specs.Table.{under}
use Rattle.ca_wire.specs.Fields.{Fields}
use Rattle.ca_wire.specs.Message.{spelled}
use Rattle.ca_model.specs.Due.{Action, Adds, Applies, Clears, Drops, Greets, Names, Nothing, Opens, Switches, Waits}
use Rattle.ca_model.specs.Server.{Server}
use Rattle.ca_model.specs.ServerSteps.{knows, output_of}
use Rattle.ca_model.specs.ServerEvents.{numbers_after}
use Rattle.ca_model.specs.World.{Joined, RecordSide}
use Rattle.ca_laws_parts.proofs.ServerEnds.{next-own, reaches-stays}
use Rattle.ca_server_circuit.specs.Effects.{effect_due}
use Rattle.ca_server_circuit.specs.declared.effect.Effect.{Effect}
use Rattle.ca_world.specs.declared.server_step.SteppingEnd.{SteppingEnd}
use Rattle.ca_world.specs.ServerStepping.{with_lists}
use Rattle.ca_world.specs.StepParts.{HasRoomAhead, IsHandled, MayStep, StandBehind}
use Rattle.ca_world_data.specs.declared.joined.Joined.{Joined as Opened}
use Rattle.ca_world_data.specs.Replies.{AreWithin}
use Rattle.ca_world_data.proofs.RepliesWithin.{within-more}
use Rattle.ca_world_servers.specs.declared.ahead.Ahead.{Ahead}
use Rattle.ca_world_servers.specs.Effects.{BeginsNew, HasRoomBy, numbers_by}
use Rattle.ca_world_servers.specs.Handling.{HasRoomToBegin}
use Rattle.ca_world_servers.proofs.Beginnings.{room-by}
use Rattle.ca_world_servers.proofs.Dealt.{begins-new, idle}

-- ---- bytes after others

module _ (waited : ℕ) (bytes : List ℕ) (ms : List Fields) (behind : StandBehind waited bytes ms) where
  size : length bytes ≡ waited + length (spelled ms)
  size =
      let all : length bytes ≡ length behind.begun + length (spelled ms) = ap length behind.are ∙ length-append behind.begun (spelled ms) in
      let long : waited ≡ length behind.begun = behind.long in
      omega (arith, all, long)

  -- they are what comes after that many bytes
  pub behind-are : drop waited bytes ≡ spelled ms
  behind-are = ap (drop waited) behind.are ∙ drop_at behind.begun (spelled ms) waited (sym behind.long)

  pub behind-within : waited ≤ length bytes
  behind-within = omega (arith, size)

-- ---- its circuit

-- what an effect tells of a circuit whose lists are aside is what was done there
pub numbers-aside : (m : Fields) (action : Action) (place : ℕ) (j : Joined) → numbers_by (effect_due m action) place (with_lists [] [] j) ≡ with_lists [] [] (numbers_after place action j)
numbers-aside m Nothing place j = idle (λ (d : Effect). numbers_by d place (with_lists [] [] j) ≡ with_lists [] [] j) m refl refl refl
numbers-aside m (Applies name value true) place j = refl
numbers-aside m (Applies name value false) place j = refl
numbers-aside m (Waits name value) place j = refl
numbers-aside m Greets place j = refl
numbers-aside m (Names p) place j = refl
numbers-aside m (Opens c) place j = refl
numbers-aside m (Clears sid) place j = refl
numbers-aside m (Adds s) place j = refl
numbers-aside m (Drops key) place j = refl
numbers-aside m (Switches on) place j = refl

-- ---- the core after the step

module _ (before core : Server) (j : Joined) (ks : List Joined) (rs : List RecordSide) (a : Ahead) (t : SteppingEnd) (did : Effect) (m : MayStep t before j ks rs a) (d : IsHandled before core j.at_server m.e did) where
  -- the replies are after what waited
  pub handled-behind : StandBehind t.waited (output_of (under core.circuits t.at)) d.next.replies
  handled-behind =
      let own = next-own before j.at_server m.e m.has d.next in
      let on = reaches-stays d.next.action d.gone d.next.after core d.reaches j.at_server d.stays own.0 own.1 in
      record {
        begun = m.e.link.output;
        long = m.turn.waited;
        are = ap (λ (h : Handle). output_of (under core.circuits h)) m.turn.here ∙ ap output_of on.1 ∙ on.3 ∙ append-nil own.0.link.output ∙ own.3;
        good = m.good d.next;
      }

  -- a subscription that began is new
  pub handled-new : BeginsNew did j.queues
  handled-new = subst (λ (e : Effect). BeginsNew e j.queues) (sym d.tells) (begins-new before m.e d.next.m d.next.replies d.next.action j d.next.handles.due m.own m.seated)

  -- the replies are as small as was foretold
  pub handled-within : (n : ℕ) → a.reply ≤ n → AreWithin n d.next.replies
  handled-within n le =
      let ahead = m.ahead d.next in
      within-more a.reply n d.next.replies le (ahead.answers m.e d.next.replies d.next.action m.has d.next.handles.due)

  -- there is room for what began
  pub handled-room : (x : Opened) → HasRoomAhead a.command x → HasRoomBy did x
  handled-room x room =
      let ahead = m.ahead d.next in
      subst (λ (e : Effect). HasRoomBy e x) (sym d.tells)
      (room-by (knows before m.e) d.next.m d.next.replies d.next.action x d.next.handles.due (subst (λ (n : ℕ). HasRoomToBegin n x) ahead.command room.begins))
