-- A server after the updates of a circuit left their queues.
use Rattle.std.proofs.Common.{◌≡◌, ◌≤◌, ℕ, inl, inr, List, [], length, Some, None, Option, refl, sym, ap, ◌∙◌, subst}
use Rattle.std.specs.List.{FoldsTo}
use Rattle.ca_arena.specs.declared.handle.Handle.{Handle}
use Rattle.ca_beacon.specs.Clock.{Clock}
use Rattle.ca_ids.specs.Table.{Table, under, with_changed}
use Rattle.ca_records.specs.Puts.{Record}
use Rattle.ca_records.specs.Store.{Store, records_of}
use Rattle.ca_text.specs.Limits.{arena_slots}
use Rattle.ca_text.proofs.Places.{some_is}
use Rattle.ca_model.specs.Ends.{Why}
use Rattle.ca_model.specs.Ends as why
use Rattle.ca_model.specs.Server.{Ended, Open, OpenChannel, Server, ServerCircuit, ServerEnd, Subscription}
use Rattle.ca_model.specs.ServerSteps.{Leaves, Pumps, Update}
use Rattle.ca_server_circuit.specs.Clearing.{ArePuts}
use Rattle.ca_server_circuit.specs.Handling.{AreServed}
use Rattle.ca_server_circuit.specs.Pumping.{PumpsAt}
use Rattle.ca_server_core.specs.Pumping.{PumpsIn}
use Rattle.ca_server_circuit.specs.Sound.{EndIsSound}
use Rattle.ca_server_core.specs.Sound.{IsSound}
use Rattle.ca_server_circuit.specs.Subscribing.{AreOnChannels, events_of}
use Rattle.ca_server_subscriptions.specs.Subscribed.{HasRoom}
use Rattle.ca_server_core.proofs.Closing.{not-ended, sound-ended}
use Rattle.ca_server_circuit.proofs.Pumps.{folds-channels, folds-open}
use Rattle.ca_server_core.proofs.Servers.{became, same-parts, server_of, stayed}
use Rattle.ca_server_core.proofs.Sounds.{sound-changed}
use Rattle.ca_server_core.proofs.Thinned.{folds-subscriptions}

abbrev Circuits : Type 0
Circuits = Table ServerCircuit

-- an end that updates left is as sound as before
pumped-end : (rs : List Record) (h : Handle) (e after : ServerEnd) (us : List Update) → FoldsTo Leaves e us after → HasRoom (events_of after) → EndIsSound rs h e → EndIsSound rs h after
pumped-end rs h e after us f room i =
    let same : e.channels ≡ after.channels = sym (folds-channels e us after f) in
    record {
      live = folds-open e us after f i.live;
      room = room;
      served = subst (λ (t : Table OpenChannel). AreServed rs t) same i.served;
      puts = subst (λ (t : Table OpenChannel). ArePuts h rs t) same i.puts;
      on = subst (λ (t : Table OpenChannel). AreOnChannels t after.subscriptions) same (subst (λ (ss : List Subscription). AreOnChannels e.channels ss) (sym (folds-subscriptions e us after f)) i.on);
      few = subst (λ (t : Table OpenChannel). length t ≤ arena_slots) same i.few;
    }

pub sound-pumped : (s u : Store) (t after : Circuits) (h : Handle) → PumpsIn t h s after u → IsSound (records_of s) t → IsSound (records_of u) after
sound-pumped s u t after h (inr none) i =
    subst (λ (x : Circuits). IsSound (records_of u) x) (sym none.1) (subst (λ (x : Store). IsSound (records_of x) t) (sym none.2) i)
sound-pumped s u t after h (inl g) i = by g.0 g.1 g.2 g.3 g.4
  where
    by : (c new : ServerCircuit) → under t h ≡ Some c → PumpsAt h c s new u → after ≡ with_changed (λ (x : ServerCircuit). new) h t → IsSound (records_of u) after
    by (Open e) new there (us, last, f, inl (rests, is, room, same)) changed =
        subst (λ (x : Circuits). IsSound (records_of u) x) (sym (became t after h new (Open last) changed is))
        (subst (λ (x : Store). IsSound (records_of x) (with_changed (λ (z : ServerCircuit). Open last) h t)) (sym same) (sound-changed (records_of s) t h e last i there (pumped-end (records_of s) h e last us f room (i.ends h e there))))
    by (Open e) new there (us, last, f, inr (more, is, w)) changed =
        subst (λ (x : Circuits). IsSound (records_of u) x) (sym (became t after h new (Ended why.OutOfMemory last.link.output) changed is))
        (subst (λ (rs : List Record). IsSound rs (with_changed (λ (z : ServerCircuit). Ended why.OutOfMemory last.link.output) h t)) (sym w.records) (sound-ended (records_of s) t h why.OutOfMemory last.link.output i))
    by (Ended v left) new there did changed =
        subst (λ (x : Circuits). IsSound (records_of u) x) (sym (stayed t after h new (Ended v left) there changed did.0)) (subst (λ (x : Store). IsSound (records_of x) t) (sym did.1) i)

not-open : (w : Why) (left : List ℕ) (e : ServerEnd) (o : Option ServerCircuit) → o ≡ Some (Ended w left) → o ≡ Some (Open e) → ⊥
not-open w left e o a b = not-ended e w left (some_is (Open e) (Ended w left) (sym b ∙ a))

none-open : (e : ServerEnd) (o : Option ServerCircuit) → o ≡ None → o ≡ Some (Open e) → ⊥
none-open e o a b = cc

pumps-of : (port now n : ℕ) (b : Clock) (s u : Store) (t after : Circuits) (h : Handle) → PumpsIn t h s after u → (us : List Update) × Pumps (server_of port s now t b n) h us (server_of port u now after b n)
pumps-of port now n b s u t after h (inr none) = (
  [],
  inr ((λ e has. none-open e (under t h) none.0 has), refl, ap (λ (x : Store). server_of port x now after b n) none.2 ∙ ap (λ (x : Circuits). server_of port s now x b n) none.1),
)
pumps-of port now n b s u t after h (inl g) = by g.0 g.1 g.2 g.3 g.4
  where
    by : (c new : ServerCircuit) → under t h ≡ Some c → PumpsAt h c s new u → after ≡ with_changed (λ (x : ServerCircuit). new) h t → (us : List Update) × Pumps (server_of port s now t b n) h us (server_of port u now after b n)
    by (Open e) new there (us, last, f, inl (rests, is, room, same)) changed = (
      us,
      inl (
        e,
        there,
        (
          last,
          f,
          inl (
            rests,
            ap (λ (x : Store). server_of port x now after b n) same ∙ ap (λ (x : Circuits). server_of port s now x b n) (became t after h new (Open last) changed is),
          ),
        ),
      ),
    )
    by (Open e) new there (us, last, f, inr (more, is, w)) changed = (
      us,
      inl (
        e,
        there,
        (
          last,
          f,
          inr (
            more,
            same-parts port now b u.rules s.rules (records_of u) _ u.stamp s.stamp after _ n n w.rules w.records w.stamp (became t after h new (Ended why.OutOfMemory last.link.output) changed is) refl,
          ),
        ),
      ),
    )
    by (Ended v left) new there did changed = (
      [],
      inr ((λ e has. not-open v left e (under t h) there has), refl, ap (λ (x : Store). server_of port x now after b n) did.1 ∙ ap (λ (x : Circuits). server_of port s now x b n) (stayed t after h new (Ended v left) there changed did.0)),
    )

-- the same along the view of the fields
pub pumps-at : (y : Server) (port now n : ℕ) (b : Clock) (s u : Store) (t after : Circuits) (h : Handle) → server_of port s now t b n ≡ y → PumpsIn t h s after u → (us : List Update) × Pumps y h us (server_of port u now after b n)
pumps-at y port now n b s u t after h is did = subst (λ (x : Server). (us : List Update) × Pumps x h us (server_of port u now after b n)) is (pumps-of port now n b s u t after h did)
