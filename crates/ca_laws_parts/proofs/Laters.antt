-- What is held of circuits, by what their servers keep for them: calm events, and later
-- messages that go down.
use Rattle.std.proofs.Common.{◌≡◌, ℕ, suc, ◌<◌, ◌⊎◌, inl, inr, List, [], ◌∷◌, ◌++◌, length, refl, sym, ap, subst, ◌∙◌, append_assoc, append-nil}
use Rattle.std.specs.Prelude.{option_map, slice_get, slice_set, unwrap_or}
use Rattle.ca_arena.specs.declared.handle.Handle.{Handle}
use Rattle.ca_queue.specs.Queue.{Queue, with_front_taken}
use Rattle.ca_text.specs.Place.{At}
use Rattle.ca_text.proofs.Places.{At-one, At-set-other, At-within}
use Rattle.ca_model.specs.Client.{Client}
use Rattle.ca_model.specs.History.{Cause, Circuit, Reply, Told}
use Rattle.ca_model.specs.ServerSteps.{Update}
use Rattle.ca_model.specs.Speech.{Cid, In, Ioid, SubId}
use Rattle.ca_model.specs.Events.{Event}
use Rattle.ca_model.specs.Events as event
use Rattle.ca_model.specs.Runs.{Happens}
use Rattle.ca_model.specs.ServerEvents.{HappensPump, ends_by, front_number, stamped}
use Rattle.ca_model.specs.World.{IsSetting, Joined, Names, ServerSide, Setting, World, with_circuit}
use Rattle.ca_laws_parts.specs.Flows.{Awaits}
use Rattle.ca_laws_parts.specs.Held.{Holds}
use Rattle.ca_laws_parts.proofs.Flows.{flows-fewer, flows-told}
use Rattle.ca_laws_parts.proofs.Requests.{pending-fewer}
use Rattle.ca_laws_parts.proofs.CircuitSteps.{holds-told, may-later}
use Rattle.ca_laws_parts.specs.Calm.{IsCalm}
use Rattle.ca_laws_parts.specs.Circuit.{HeldAt, HeldOn}
use Rattle.ca_laws_parts.specs.Clients.{ClientsStand}
use Rattle.ca_laws_parts.proofs.CalmEvents.{keeps-calm}
use Rattle.ca_laws_parts.proofs.Handled.{like-held}
use Rattle.ca_laws_parts.proofs.RunsServers.{server-held}
use Rattle.ca_laws_parts.specs.Seats.{Sound, TakesSent}
use Rattle.ca_laws_parts.specs.Own.{IsOwnPlace}
use Rattle.ca_laws_parts.specs.Kept.{kept}
use Rattle.ca_laws_parts.specs.Later.{IsLater, stamped_told}
use Rattle.ca_laws_parts.proofs.Thins.{kept-from}
use Rattle.ca_laws_parts.proofs.Midway.{set-here}
use Rattle.ca_laws_parts.proofs.WritesMoves.{same-or}

-- ---- less is kept

awaits-fewer : (kept fewer : List ℕ) (c : Circuit) → ((p : ℕ) → In fewer p → In kept p) → (p : ℕ) → Awaits c fewer p → Awaits c kept p
awaits-fewer kept fewer c less p (inl late) = inl late
awaits-fewer kept fewer c less p (inr there) = inr (less p there)

holds-fewer : (kept fewer : List ℕ) (on : Handle) (n : Names) (x : Client) (c : Circuit) → ((p : ℕ) → In fewer p → In kept p) → Holds (Awaits c kept) on n x c → Holds (Awaits c fewer) on n x c
holds-fewer kept fewer on n x c less h =
    let wide : (p : ℕ) → Awaits c fewer p → Awaits c kept p = awaits-fewer kept fewer c less in
    record {
      channels = record { few = h.channels.few; busy = λ p m pending. h.channels.busy p m (pending-fewer (Awaits c kept) (Awaits c fewer) c p (Cid m) wide pending); own = h.channels.own };
      requests = record { few = h.requests.few; busy = λ p m pending. h.requests.busy p m (pending-fewer (Awaits c kept) (Awaits c fewer) c p (Ioid m) wide pending); own = h.requests.own };
      subscriptions = record { few = h.subscriptions.few; busy = λ p m pending. h.subscriptions.busy p m (pending-fewer (Awaits c kept) (Awaits c fewer) c p (SubId m) wide pending); own = h.subscriptions.own };
    }

pub fewer-on : (kept fewer : List ℕ) (n : Names) (x : Client) (j : Joined) → ((p : ℕ) → In fewer p → In kept p) → HeldOn kept n x j → HeldOn fewer n x j
fewer-on kept fewer n x j less h = record {
  flows = flows-fewer (Awaits j.lists kept) (Awaits j.lists fewer) j.lists (awaits-fewer kept fewer j.lists less) h.flows;
  cids = h.cids;
  holds = λ o. holds-fewer kept fewer j.at_client n x j.lists less (h.holds o);
}

pub fewer-at : (kept fewer : List ℕ) (w : World) (k : ℕ) → ((p : ℕ) → In fewer p → In kept p) → HeldAt kept w k → HeldAt fewer w k
fewer-at kept fewer w k less held = (held.0, held.1, held.2, held.3, fewer-on kept fewer held.1.names held.1.core held.0 less held.4)

-- an event that keeps what is held of a circuit of which its server kept all that it keeps then
pub held-then : (s : Setting) (w new : World) (e : Event) (l : ℕ) → IsSetting s → TakesSent w → Sound s w → Happens w e new → l < length w.circuits → ((p : ℕ) → IsOwnPlace w e l p → ⊥)
    → HeldAt (kept w l) new l → HeldAt (kept new l) new l
held-then s w new e l ok takes h happens within none held =
    fewer-at (kept w l) (kept new l) new l (λ p there. elim (kept-from s w new e l p ok takes h happens within there) [ inl old ↦ old | inr own ↦ absurd (none p own) ]) held

pub none-calm : (w : World) (e : Event) (l p : ℕ) → IsCalm e → IsOwnPlace w e l p → ⊥
none-calm w (event.ServerStep k) l p calm own = calm
none-calm w e l p calm own = absurd (never w e l p own calm)
  where
    never : (w : World) (e : Event) (l p : ℕ) → IsOwnPlace w e l p → IsCalm e → ⊥
    never w (event.ServerStep k) l p own calm = calm
    never w (event.Open i name priority) l p own calm = own
    never w (event.Clear i c) l p own calm = own
    never w (event.Read i c data_type count) l p own calm = own
    never w (event.Write i c e) l p own calm = own
    never w (event.WriteNotify i c e) l p own calm = own
    never w (event.Subscribe i c data_type count mask) l p own calm = own
    never w (event.Unsubscribe i m) l p own calm = own
    never w (event.Collect i r) l p own calm = own
    never w (event.GiveUp i r) l p own calm = own
    never w (event.ClientDatagram i from bytes) l p own calm = own
    never w (event.ServerDatagram i from bytes) l p own calm = own
    never w (event.Accept i) l p own calm = own
    never w (event.Up k m) l p own calm = own
    never w (event.Down k m) l p own calm = own
    never w (event.ClientStep k) l p own calm = own
    never w (event.Pump k) l p own calm = own
    never w (event.CutClient k) l p own calm = own
    never w (event.CutServer k) l p own calm = own
    never w (event.ClientRestart i) l p own calm = own
    never w (event.ServerRestart i) l p own calm = own
    never w (event.Post i name e mask) l p own calm = own
    never w (event.Finish i name) l p own calm = own
    never w (event.Remove i name) l p own calm = own
    never w (event.Add i r) l p own calm = own
    never w (event.Tick moment) l p own calm = own

pub calm-keeps : (s : Setting) (w new : World) (l : ℕ) (e : Event) → IsSetting s → TakesSent w → Sound s w → ClientsStand w → IsCalm e → Happens w e new → HeldAt (kept w l) w l → HeldAt (kept new l) new l
calm-keeps s w new l e ok takes h stand calm happens held =
    held-then s w new e l ok takes h happens (At-within w.circuits l held.0 held.2) (λ p own. none-calm w e l p calm own) (keeps-calm (kept w l) w new l e calm stand happens held)

-- ---- later messages go down

abbrev pub with_down : List Told → Joined → Joined
with_down down j = record j { lists = record j.lists { down = down } }

later-held : (kept : List ℕ) (n : Names) (x : Client) (j : Joined) (t : Told) → IsLater kept j.lists t → HeldOn kept n x j → HeldOn kept n x (with_down (j.lists.down ++ t ∷ []) j)
later-held kept n x j t later h =
    let may = may-later kept kept j.lists t later.other later.there later.keeps (λ p at. at) later.speaks in
    record {
      flows = flows-told (Awaits j.lists kept) (Awaits j.lists kept) j.lists t may h.flows;
      cids = h.cids;
      holds = λ o. holds-told (Awaits j.lists kept) (Awaits j.lists kept) j.at_client n x j.lists t may (h.holds o);
    }

pub laters-held : (kept : List ℕ) (n : Names) (x : Client) (j : Joined) (ts : List Told) → ((t : Told) → In ts t → IsLater kept j.lists t) → HeldOn kept n x j → HeldOn kept n x (with_down (j.lists.down ++ ts) j)
laters-held kept n x j [] each h = subst (λ (l : List Told). HeldOn kept n x (with_down l j)) (sym (append-nil j.lists.down)) (record { flows = h.flows; cids = h.cids; holds = h.holds })
laters-held kept n x j (t ∷ ts) each h =
    let one : HeldOn kept n x (with_down (j.lists.down ++ t ∷ []) j) = later-held kept n x j t (each t (0, refl)) h in
    subst (λ (l : List Told). HeldOn kept n x (with_down l j)) (append_assoc j.lists.down (t ∷ []) ts)
    (laters-held kept n x (with_down (j.lists.down ++ t ∷ []) j) ts
    (λ u at. (let r = each u (suc at.0, at.1) in record { other = r.other; keeps = r.keeps; there = r.there; speaks = r.speaks })) one)

-- ---- a pump

-- a circuit whose updates went down
stamped-is : (us : List Update) (j : Joined) → ((stamped us j).lists ≡ record j.lists { down = j.lists.down ++ stamped_told us j }) × ((stamped us j).at_client ≡ j.at_client) × ((stamped us j).client ≡ j.client)
stamped-is [] j = (sym (ap (λ (l : List Told). let c : Circuit = record j.lists { down = l } in c) (append-nil j.lists.down)), refl, refl)
stamped-is (u ∷ us) j =
    let item : ℕ × Cause = unwrap_or (front_number j.queues u.queue) (0, Reply) in
    let queues : List (Queue (ℕ × Cause)) = unwrap_or (option_map (λ (q : Queue (ℕ × Cause)). slice_set j.queues u.queue (with_front_taken q)) (slice_get j.queues u.queue)) j.queues in
    let t : Told = record { message = u.message; place = item.0; cause = item.1 } in
    let d : Joined = record j { queues = queues; lists = record j.lists { down = j.lists.down ++ t ∷ [] } } in
    let r = stamped-is us d in (
      r.0 ∙ ap (λ (l : List Told). let c : Circuit = record j.lists { down = l } in c) (append_assoc j.lists.down (t ∷ []) (stamped_told us d)),
      r.1,
      r.2,
    )

pub pump-held : (kept : List ℕ) (w new : World) (k l : ℕ) (j : Joined) (y : ServerSide) (f : HappensPump w k j y new) → At w.circuits k j → (l ≡ k → (t : Told) → In (stamped_told f.updates j) t → IsLater kept j.lists t)
    → HeldAt kept w l → HeldAt kept new l
pump-held kept w new k l j y f at each held =
    subst (λ (v : World). HeldAt kept v l) (sym f.leaves) (server-held kept (with_circuit k (stamped f.updates j) w) j.server l y (ends_by j.server f.core) f.core (go (same-or l k)))
  where
    mid : World
    mid = with_circuit k (stamped f.updates j) w

    go : (l ≡ k) ⊎ (l ≡ k → ⊥) → HeldAt kept mid l
    go (inr other) = (held.0, held.1, At-set-other w.circuits k l held.0 (stamped f.updates j) held.2 other, held.3, held.4)
    go (inl is) =
        let one : held.0 ≡ j = At-one w.circuits k held.0 j (subst (λ (m : ℕ). At w.circuits m held.0) is held.2) at in
        let was : HeldOn kept held.1.names held.1.core j = subst (λ (z : Joined). HeldOn kept held.1.names held.1.core z) one held.4 in
        let p = stamped-is f.updates j in
        let told : HeldOn kept held.1.names held.1.core (with_down (j.lists.down ++ stamped_told f.updates j) j) = laters-held kept held.1.names held.1.core j (stamped_told f.updates j) (each is) was in (
          stamped f.updates j,
          held.1,
          subst (λ (m : ℕ). At mid.circuits m (stamped f.updates j)) (sym is) (set-here w.circuits k j (stamped f.updates j) at),
          subst (λ (c : ℕ). At w.clients c held.1) (ap (λ (z : Joined). z.client) one ∙ sym p.2) held.3,
          like-held kept held.1.names held.1.core (with_down (j.lists.down ++ stamped_told f.updates j) j) (stamped f.updates j) (p.0, p.1, p.2) told,
        )
