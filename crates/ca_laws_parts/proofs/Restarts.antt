-- A client begins again, and a datagram reaches one: what is held of each circuit stays so.
use Rattle.std.proofs.Common.{◌≡◌, ℕ, inl, inr, Bool, true, false, ◌&&◌, cond, eqb, List, [], ◌∷◌, ◌++◌, length, refl, sym, ap, ◌∙◌, subst}
use Rattle.std.specs.Prelude.{filter, map, slice_set}
use Rattle.std.proofs.lemmas.Bool.{both_ways, eq-eqb, eqb-true}
use Rattle.std.proofs.lemmas.List.{append_assoc, append-nil, map-append}
use Rattle.std.proofs.lemmas.List.Elements.{filter-append}
use Rattle.ca_text.specs.Place.{At}
use Rattle.ca_text.proofs.Places.{At-map, At-set-other, At-within}
use Rattle.ca_ids.specs.Table.{same_handle}
use Rattle.ca_wire.specs.Fields.{Fields}
use Rattle.ca_model.specs.Answers.{Sending}
use Rattle.ca_model.specs.Client.{Client, later, out_bytes}
use Rattle.ca_model.specs.ClientEnds.{Receives, ReceivesAll, beacon_heard}
use Rattle.ca_model.specs.ClientEnds as ends
use Rattle.ca_model.specs.Ends.{Address}
use Rattle.ca_model.specs.Hears.{Effect, found_at, searched_by}
use Rattle.ca_model.specs.History.{Sent}
use Rattle.ca_model.specs.ClientEvents.{HappensClientDatagram, HappensClientRestart, Outcomes, client_closed, client_gone}
use Rattle.ca_model.specs.World.{ClientSide, Joined, Names, ServerSide, World, addresses, client_begun}
use Rattle.ca_laws_parts.specs.Flows.{Awaits}
use Rattle.ca_laws_parts.specs.Held.{HoldAlike}
use Rattle.ca_laws_parts.proofs.Alike.{client-itself, holds-alike}
use Rattle.ca_laws_parts.specs.Circuit.{AreNumbered, HeldAt, HeldOn, sent_to, stamped}
use Rattle.ca_laws_parts.specs.Clients.{ClientsStand}
use Rattle.ca_model.proofs.Hearing.{received-keeps}
use Rattle.ca_laws_parts.proofs.Finds.{found-held}
use Rattle.ca_laws_parts.proofs.RunsMoves.{closed-held}
use Rattle.ca_laws_parts.proofs.RunsSending.{none-sent-to, with_up}
use Rattle.ca_laws_parts.proofs.Worlds.{after-call}
use Rattle.ca_model.proofs.Thinner.{number-or, set-there}

-- ---- a client begins again

-- an end that is not open holds nothing, whoever its client is now
pub shut-held : (kept : List ℕ) (n m : Names) (x y : Client) (j : Joined) → j.lists.client_open ≡ false → HeldOn kept n x j → HeldOn kept m y j
shut-held kept n m x y j shut held =
    record { flows = held.flows; cids = λ o. absurd (both_ways j.lists.client_open shut o); holds = λ o. absurd (both_ways j.lists.client_open shut o) }

gone-held : (kept : List ℕ) (i : ℕ) (side : ClientSide) (n m : Names) (x y : Client) (j : Joined) → j.client ≡ i → HeldOn kept n x j → HeldOn kept m y (client_gone i side j)
gone-held kept i side n m x y j mine held = go j.lists.client_open refl (eqb j.client i) (eq-eqb j.client i mine)
  where
    go : (b : Bool) → j.lists.client_open ≡ b → (a : Bool) → a ≡ true → HeldOn kept m y (cond (a && b) (client_closed (out_bytes side.core j.at_client) j) j)
    go true is true same = closed-held kept n m x y j (out_bytes side.core j.at_client) held
    go false is true same = shut-held kept n m x y j is held
    go b is false same = absurd (both_ways false refl same)

gone-client : (i : ℕ) (side : ClientSide) (j : Joined) → (client_gone i side j).client ≡ j.client
gone-client i side j = go (eqb j.client i && j.lists.client_open)
  where
    go : (b : Bool) → (cond b (client_closed (out_bytes side.core j.at_client) j) j).client ≡ j.client
    go true = refl
    go false = refl

stays-held : (kept : List ℕ) (i : ℕ) (side : ClientSide) (n : Names) (x : Client) (j : Joined) → (j.client ≡ i → ⊥) → HeldOn kept n x j → HeldOn kept n x (client_gone i side j)
stays-held kept i side n x j other held = go (eqb j.client i) refl
  where
    go : (a : Bool) → eqb j.client i ≡ a → HeldOn kept n x (cond (a && j.lists.client_open) (client_closed (out_bytes side.core j.at_client) j) j)
    go true is = absurd (other (eqb-true j.client i is))
    go false is = held

pub keeps-client-restart : (kept : List ℕ) (w new : World) (i k : ℕ) (x : ClientSide) → At w.clients i x → HappensClientRestart w i x new → HeldAt kept w k → HeldAt kept new k
keeps-client-restart kept w new i k x at happens held =
    let j : Joined = held.0 in
    let z : ClientSide = client_begun (addresses (map (λ (y : ServerSide). y.setting) w.servers)) w.moment (length w.client_logs) x.setting in
    let there : At (map (client_gone i x) w.circuits) k (client_gone i x j) = At-map (client_gone i x) w.circuits k j held.2 in
    subst (λ (v : World). HeldAt kept v k) (sym happens) (elim (number-or j.client i) [
      | inl mine ↦ (
        client_gone i x j,
        z,
        there,
        subst (λ (c : ℕ). At (slice_set w.clients i z) c z) (sym (gone-client i x j ∙ mine)) (set-there w.clients i z (At-within w.clients i x at)),
        gone-held kept i x held.1.names z.names held.1.core z.core j mine held.4,
      )
      | inr other ↦ (
        client_gone i x j,
        held.1,
        there,
        subst (λ (c : ℕ). At (slice_set w.clients i z) c held.1) (sym (gone-client i x j)) (At-set-other w.clients i j.client held.1 z held.3 other),
        stays-held kept i x held.1.names held.1.core j other held.4,
      )
    ])

-- ---- a datagram

-- messages that are sent after others
pub sent-after : (i : ℕ) (n : Names) (xs ys : List Sending) (j : Joined) → sent_to i n (xs ++ ys) j ≡ sent_to i n ys (sent_to i n xs j)
sent-after i n xs ys j = go (eqb j.client i && j.lists.client_open)
  where
    go : (b : Bool) → with_up (j.lists.up ++ cond b (map (stamped n) (filter (λ (s : Sending). same_handle s.circuit j.at_client) (xs ++ ys))) []) j
        ≡ with_up ((j.lists.up ++ cond b (map (stamped n) (filter (λ (s : Sending). same_handle s.circuit j.at_client) xs)) []) ++ cond b (map (stamped n) (filter (λ (s : Sending). same_handle s.circuit j.at_client) ys)) []) j
    go true =
        ap (λ (l : List Sent). with_up l j)
        (ap (λ (l : List Sending). j.lists.up ++ map (stamped n) l) (filter-append (λ (s : Sending). same_handle s.circuit j.at_client) xs ys)
        ∙ ap (λ (l : List Sent). j.lists.up ++ l) (map-append (stamped n) (filter (λ (s : Sending). same_handle s.circuit j.at_client) xs) (filter (λ (s : Sending). same_handle s.circuit j.at_client) ys))
        ∙ sym (append_assoc j.lists.up (map (stamped n) (filter (λ (s : Sending). same_handle s.circuit j.at_client) xs)) (map (stamped n) (filter (λ (s : Sending). same_handle s.circuit j.at_client) ys))))
    go false = ap (λ (l : List Sent). with_up l j) (sym (append-nil (j.lists.up ++ [])))

-- nothing was sent, and the tables are as they were
plain-held : (kept : List ℕ) (i : ℕ) (n : Names) (x y : Client) (j : Joined) → HoldAlike j.at_client x y → HeldOn kept n x j → HeldOn kept n y (sent_to i n [] j)
plain-held kept i n x y j alike held = none-sent-to kept i n n x y j held (λ k g at. at) (λ o holds. holds-alike (Awaits j.lists kept) j.at_client n x y j.lists alike holds)

received-held : (kept : List ℕ) (i : ℕ) (n : Names) (from : Address) (x : Client) (m : Fields) (e : Effect) (j : Joined) → Receives from x m e → AreNumbered n x → j.client ≡ i → HeldOn kept n x j → HeldOn kept n e.core (sent_to i n e.sent j)
received-held kept i n from x m e j (ends.Search is finds) numbered mine held = found-held kept i n x j held mine numbered (found_at from m) m.p2 (searched_by m.p2 x) e refl finds
received-held kept i n from x m e j (ends.Beacon is port does) numbered mine held =
    let r = client-itself j.at_client x in
    subst (λ (w : Effect). HeldOn kept n w.core (sent_to i n w.sent j)) (sym does)
    (plain-held kept i n x (beacon_heard from m x) j (record { asked = r.asked; requests = r.requests; subscriptions = r.subscriptions }) held)
received-held kept i n from x m e j (ends.Other not_search not_beacon does) numbered mine held =
    subst (λ (w : Effect). HeldOn kept n w.core (sent_to i n w.sent j)) (sym does) (plain-held kept i n x x j (client-itself j.at_client x) held)

all-held : (kept : List ℕ) (i : ℕ) (n : Names) (from : Address) (ms : List Fields) (x : Client) (e : Effect) (j : Joined) → ReceivesAll from x ms e → AreNumbered n x → j.client ≡ i → HeldOn kept n x j → HeldOn kept n e.core (sent_to i n e.sent j)
all-held kept i n from [] x e j does numbered mine held =
    subst (λ (w : Effect). HeldOn kept n w.core (sent_to i n w.sent j)) (sym does) (plain-held kept i n x x j (client-itself j.at_client x) held)
all-held kept i n from (m ∷ ms) x e j does numbered mine held =
    let a : Effect = does.0 in
    let b : Effect = does.1 in
    let thins = (received-keeps from x m a does.2).thins in
    let first = received-held kept i n from x m a j does.2 numbered mine held in
    let rest = all-held kept i n from ms a.core b (sent_to i n a.sent j) does.3 (λ h ch is. (let was = thins.channels.back h ch is in numbered h was.0 was.1)) mine first in
    subst (λ (w : Effect). HeldOn kept n w.core (sent_to i n w.sent j)) (sym does.4)
    (subst (λ (z : Joined). HeldOn kept n b.core z) (sym (sent-after i n a.sent b.sent j)) rest)

pub keeps-datagram : (kept : List ℕ) (w new : World) (i k : ℕ) (x : ClientSide) (from : Address) (bytes : List ℕ) → At w.clients i x → ClientsStand w → HappensClientDatagram w i x from bytes new → HeldAt kept w k → HeldAt kept new k
keeps-datagram kept w new i k x from bytes at s happens held =
    let now : Client = record x.core { moment = later w.moment x.core } in
    let o : Outcomes = record { core = happens.1; names = x.names; lines = []; sent = happens.0 } in
    subst (λ (v : World). HeldAt kept v k) (sym happens.3)
    (after-call kept w i k x x.names o at
    (λ j there mine was.
    all-held kept i x.names from happens.2.0 now (record { core = happens.1; sent = happens.0; notices = [] }) j happens.2.2 (s.sound i x at).named.numbered mine
    (record { flows = was.flows; cids = was.cids; holds = λ o. (let r = was.holds o in record { channels = r.channels; requests = r.requests; subscriptions = r.subscriptions }) })) held)
