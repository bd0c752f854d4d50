-- An update that is shown at once.
use Rattle.std.proofs.Common.{◌≡◌, ℕ, ◌<◌, true, [], ◌∷◌, length, Result, Ok, Err, inl, refl, sym, subst}
use Rattle.std.specs.Result.{OnOk, is_ok}
use Rattle.ca_arena.specs.declared.handle.Handle.{Handle}
use Rattle.ca_text.specs.Limits.{output_limit}
use Rattle.ca_link.specs.Link.{LinkState, with_sent}
use Rattle.ca_records.specs.Puts.{Record}
use Rattle.ca_records.specs.Record.{RecordState}
use Rattle.ca_records.specs.Store.{HasAt, Store}
use Rattle.ca_wire.specs.declared.requests.Wanted.{Wanted}
use Rattle.ca_wire.specs.Fields.{Fields}
use Rattle.ca_model.specs.Server.{ServerCircuit, ServerEnd, with_post}
use Rattle.ca_model.specs.Server as server
use Rattle.ca_model.specs.Speech.{Stored}
use Rattle.ca_model.specs.Updates.{ShowsTo}
use Rattle.ca_server_subscriptions.specs.Passing.{PassesBy}
use Rattle.ca_server_subscriptions.specs.Subscribed.{HasRoom, Subscribed}
use Rattle.ca_server_circuit.specs.AtOnce.{ShowsAt, ShowsAtOnce}
use Rattle.ca_server_circuit.specs.Subscribing.{events_of}
use Rattle.ca_server_circuit.proofs.Pumps.{leaving, rests-none}

pub shows-at-once : (v e : ServerEnd) (r : RecordState) (mask : ℕ) (w : Wanted) (m : Fields) (l : LinkState) (now : Subscribed) → v ≡ e → length v.link.output < output_limit
    → PassesBy r.name mask w (events_of v) → now ≡ events_of v → ShowsTo w (record { value = r.value; meta = r.meta }) m → l ≡ with_sent (m ∷ []) v.link
    → ShowsAtOnce r mask e (record v { link = l; subscriptions = now.subscriptions; queues = now.queues })
shows-at-once v e r mask w m l now is room p same shows sent =
    let x : Stored = record { value = r.value; meta = r.meta } in
    let after : ServerEnd = with_post r.name mask x v in
    let made : ServerEnd = record v { link = with_sent (m ∷ []) v.link } in
    let u = leaving after w x (events_of v) m room (p.gives x) shows in
    let whole : ShowsAtOnce r mask v made = record { on = p.on; room = p.room x; update = u.0; leaves = u.1; rests = rests-none made p.rests } in
    subst (λ (z : ServerEnd). ShowsAtOnce r mask z (record v { link = l; subscriptions = now.subscriptions; queues = now.queues })) is
    (subst (λ (z : ServerEnd). ShowsAtOnce r mask v z)
    (sym (λ i. record v { link = sent i; subscriptions = (same i).subscriptions; queues = (same i).queues })) whole)

-- ---- on a circuit

pub shows-at : (h : Handle) (place mask : ℕ) (s : Store) (r : Record) (e new : ServerEnd) → HasAt s place r → ShowsAtOnce r.state mask e new → HasRoom (events_of new)
    → ShowsAt h place mask (server.Open e) s (server.Open new)
shows-at h place mask s r e new at shows room =
    let after : ServerEnd = with_post r.state.name mask (record { value = r.state.value; meta = r.state.meta }) e in (
      server.Open after,
      (r, at, inl (refl, shows.room, refl)),
      (shows.update ∷ [], new, (new, shows.leaves, refl), inl (shows.rests, refl, room, refl)),
    )

-- what an Ok ensures
pub if-ok : {A E P : Type 0} (r : Result A E) → is_ok r ≡ true → OnOk r P → P
if-ok (Ok x) on p = p
if-ok (Err e) on p = absurd cc
