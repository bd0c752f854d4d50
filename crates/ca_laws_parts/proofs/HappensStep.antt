-- A step of a server's end: it handles a message, takes none, or closes its circuit.
use Rattle.std.proofs.Common.{◌≡◌, ℕ, ◌⊎◌, inl, inr, Bool, true, false, refl, sym, ap, subst, ◌∙◌}
use Rattle.std.specs.Prelude.{is_some}
use Rattle.ca_arena.specs.declared.handle.Handle.{Handle}
use Rattle.ca_link.specs.Link.{with_rest}
use Rattle.ca_records.specs.declared.puts.Put.{Put}
use Rattle.ca_records.specs.Puts.{withdrawn}
use Rattle.ca_text.specs.Place.{At}
use Rattle.ca_text.proofs.Places.{At-one}
use Rattle.ca_wire.specs.Fields.{Fields}
use Rattle.ca_model.specs.Due.{Due}
use Rattle.ca_model.specs.Ends as why
use Rattle.ca_model.specs.Server.{Server, ServerEnd}
use Rattle.ca_model.specs.ServerSteps.{HasEnd, Next, Records, Stepped, knows}
use Rattle.ca_model.specs.ServerSteps as stepped
use Rattle.ca_model.specs.ServerEvents.{ServerStepped, StepHandles, ends_by, reported}
use Rattle.ca_model.specs.World.{Joined, ServerSide, Setting, World}
use Rattle.ca_laws_parts.specs.Seats.{Sound, TakesSent}
use Rattle.ca_laws_parts.specs.Taken.{Handling}
use Rattle.ca_laws_parts.proofs.Cores.{EndsBy, reaches-ends, stay-then}
use Rattle.ca_laws_parts.proofs.WritesEvents.{same-all}
use Rattle.ca_laws_parts.proofs.Seats.{ends-agree, ends-by-at}
use Rattle.ca_laws_parts.proofs.Stepped.{sound-step, step-grew}
use Rattle.ca_laws_parts.proofs.Says.{Grew}
use Rattle.ca_laws_parts.proofs.Unsaid.{lacks-keeps}
use Rattle.ca_laws_parts.proofs.Closing.{bad-keeps, next-stay}

-- ---- a message

pub handled-keeps : (s : Setting) (w new : World) (k : ℕ) (j : Joined) (y : ServerSide) → At w.circuits k j → At w.servers j.server y → j.lists.server_open ≡ true → TakesSent w → StepHandles w k j y new → Sound s w → Sound s new
handled-keeps s w new k j y at server opened takes f h =
    let next : Next y.core j.at_server f.e = f.steps.0 in
    let gone : Handle → Bool = f.steps.1 in
    let reaches = reaches-ends next.action gone next.after f.core f.steps.3 in
    let by : EndsBy y.core f.core gone = stay-then y.core next.after f.core gone (next-stay y.core j.at_server f.e f.has next) reaches.0 in
    let sent = takes k j y f.e next.m next.rest at server opened f.has next.takes in
    let e : ServerEnd = record f.e { link = with_rest next.rest f.e.link } in
    let ends = ends-by-at j.server y.core f.core gone by in
    let seat = h.seated.each k j at opened in
    let own : seat.y ≡ y = At-one w.servers j.server seat.y y seat.at server in
    let made = next.handles in
    let handling : Handling w k j y f.core (λ (p : Put). gone p.circuit) sent.0 = record {
      at = at;
      server = server;
      still_open = opened;
      joins = seat.joins ∙ ap (λ (z : ServerSide). z.life) own;
      sent = sent.1;
      one = λ n c on same is_open handle. h.seated.one n k c j on at same is_open opened handle;
      agree = ends-agree w w j.server y (record y { core = reported f.core }) (ends_by j.server f.core) f.core gone server refl refl (same-all w.circuits).1 (λ l z there other. there) (y, server) ends h.seated;
      stays = stays-own (ends j f.e refl opened f.has) f.steps.2;
    } in
    subst (λ (z : World). Sound s z) (sym f.leaves)
    (sound-step w k j y e sent.0 next.replies next.action made.recorded f.core (λ (p : Put). gone p.circuit) handling
    (subst (λ (m : Fields). Due (knows y.core e) m next.replies next.action) (sym sent.2) made.due)
    (subst (λ (m : Fields). Records y.core j.at_server e m next.action made.recorded) (sym sent.2) made.records)
    (reaches.1 ∙ ap (λ (x : Server). withdrawn (λ (p : Put). gone p.circuit) x.records) made.leaves)
    h.writes s h gone by)
  where
    stays-own : ((is_some (ends_by j.server f.core j) ≡ true) × (f.steps.1 j.at_server ≡ true)) ⊎ ((is_some (ends_by j.server f.core j) ≡ false) × (f.steps.1 j.at_server ≡ false) × ((x : ServerEnd) × HasEnd f.core j.at_server x)) → f.steps.1 j.at_server ≡ false → is_some (ends_by j.server f.core j) ≡ false
    stays-own (inl over) none = absurd (let t : true ≡ false = sym over.1 ∙ none in cc)
    stays-own (inr stays) none = stays.0

-- and what its server told
pub handled-grew : (s : Setting) (w new : World) (k : ℕ) (j : Joined) (y : ServerSide) → At w.circuits k j → At w.servers j.server y → j.lists.server_open ≡ true → TakesSent w → StepHandles w k j y new → Sound s w → Grew w new
handled-grew s w new k j y at server opened takes f h =
    let next : Next y.core j.at_server f.e = f.steps.0 in
    let gone : Handle → Bool = f.steps.1 in
    let reaches = reaches-ends next.action gone next.after f.core f.steps.3 in
    let by : EndsBy y.core f.core gone = stay-then y.core next.after f.core gone (next-stay y.core j.at_server f.e f.has next) reaches.0 in
    let sent = takes k j y f.e next.m next.rest at server opened f.has next.takes in
    let e : ServerEnd = record f.e { link = with_rest next.rest f.e.link } in
    let ends = ends-by-at j.server y.core f.core gone by in
    let seat = h.seated.each k j at opened in
    let own : seat.y ≡ y = At-one w.servers j.server seat.y y seat.at server in
    let made = next.handles in
    let handling : Handling w k j y f.core (λ (p : Put). gone p.circuit) sent.0 = record {
      at = at;
      server = server;
      still_open = opened;
      joins = seat.joins ∙ ap (λ (z : ServerSide). z.life) own;
      sent = sent.1;
      one = λ n c on same is_open handle. h.seated.one n k c j on at same is_open opened handle;
      agree = ends-agree w w j.server y (record y { core = reported f.core }) (ends_by j.server f.core) f.core gone server refl refl (same-all w.circuits).1 (λ l z there other. there) (y, server) ends h.seated;
      stays = stays-own (ends j f.e refl opened f.has) f.steps.2;
    } in
    subst (λ (z : World). Grew w z) (sym f.leaves)
    (step-grew w k j y e sent.0 next.replies next.action made.recorded f.core (λ (p : Put). gone p.circuit) handling
    (subst (λ (m : Fields). Due (knows y.core e) m next.replies next.action) (sym sent.2) made.due)
    (subst (λ (m : Fields). Records y.core j.at_server e m next.action made.recorded) (sym sent.2) made.records)
    (reaches.1 ∙ ap (λ (x : Server). withdrawn (λ (p : Put). gone p.circuit) x.records) made.leaves)
    h.writes)
  where
    stays-own : ((is_some (ends_by j.server f.core j) ≡ true) × (f.steps.1 j.at_server ≡ true)) ⊎ ((is_some (ends_by j.server f.core j) ≡ false) × (f.steps.1 j.at_server ≡ false) × ((x : ServerEnd) × HasEnd f.core j.at_server x)) → f.steps.1 j.at_server ≡ false → is_some (ends_by j.server f.core j) ≡ false
    stays-own (inl over) none = absurd (let t : true ≡ false = sym over.1 ∙ none in cc)
    stays-own (inr stays) none = stays.0

-- ---- every step

pub step-keeps : (s : Setting) (w new : World) (k : ℕ) (j : Joined) (y : ServerSide) (did : Stepped) → At w.circuits k j → At w.servers j.server y → j.lists.server_open ≡ true → TakesSent w → ServerStepped w k j y did new → Sound s w → Sound s new
step-keeps s w new k j y stepped.Handled at server opened takes f h = handled-keeps s w new k j y at server opened takes f h
step-keeps s w new k j y stepped.NeedBytes at server opened takes f h = subst (λ (z : World). Sound s z) (sym f.3) h
step-keeps s w new k j y stepped.OutputFull at server opened takes f h = subst (λ (z : World). Sound s z) (sym f.3) h
step-keeps s w new k j y (stepped.Closed why.OutOfMemory left) at server opened takes f h = lacks-keeps s w new k j y left at server opened takes f h
step-keeps s w new k j y (stepped.Closed cause left) at server opened takes f h = subst (λ (z : World). Sound s z) (sym f.3) (bad-keeps s w k j y left server h)
