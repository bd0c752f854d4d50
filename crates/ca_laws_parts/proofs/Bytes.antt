-- Bytes that move and ends that end, as events of a world: what is held of each circuit stays so.
use Rattle.std.proofs.Common.{◌≡◌, ℕ, inl, inr, Bool, true, false, cond, List, [], refl, sym, ap, ◌∙◌, subst}
use Rattle.std.specs.Prelude.{drop, length, nat_lt, take}
use Rattle.std.proofs.lemmas.Bool.{both_ways, cases_Bool}
use Rattle.ca_text.specs.Place.{At}
use Rattle.ca_text.proofs.Places.{At-set}
use Rattle.ca_ids.specs.Table.{same_handle}
use Rattle.ca_model.specs.Answers.{Closing}
use Rattle.ca_model.specs.Client.{Client, ended}
use Rattle.ca_model.specs.ClientEnds.{handed_over}
use Rattle.ca_model.specs.History.{OfCircuit}
use Rattle.ca_model.specs.ClientEvents.{DownTaken, HappensCutClient, HappensDown, HappensUp, Outcomes, client_closed, client_ended, lines_of, waiting_down}
use Rattle.ca_model.specs.World.{ClientSide, Joined, Names, ServerSide, World, with_circuit, with_client, with_server}
use Rattle.ca_laws_parts.specs.Flows.{Awaits}
use Rattle.ca_laws_parts.proofs.Alike.{holds-alike}
use Rattle.ca_laws_parts.proofs.Ends.{ended-elsewhere}
use Rattle.ca_laws_parts.specs.Circuit.{HaveHandles, HeldAt, HeldOn}
use Rattle.ca_laws_parts.proofs.RunsMoves.{closed-held, down-held, up-held}
use Rattle.ca_laws_parts.proofs.RunsSending.{none-sent-to}
use Rattle.ca_laws_parts.proofs.Worlds.{after-call, circuit-changed, client-changed}

-- bytes that an end left are fewer
left-up : (kept : List ℕ) (j : Joined) (bytes : List ℕ) (n : Names) (x : Client) → HeldOn kept n x j → HeldOn kept n x (record j { left_up = bytes })
left-up kept j bytes n x h = record { flows = h.flows; cids = h.cids; holds = h.holds }

left-down : (kept : List ℕ) (j : Joined) (bytes : List ℕ) (n : Names) (x : Client) → HeldOn kept n x j → HeldOn kept n x (record j { left_down = bytes })
left-down kept j bytes n x h = record { flows = h.flows; cids = h.cids; holds = h.holds }

-- ---- down

taken-down : (kept : List ℕ) (w mid : World) (k l n : ℕ) (j : Joined) (y : ServerSide) → At w.circuits k j → DownTaken w k n j y mid → HeldAt kept w l → HeldAt kept mid l × (mid.clients ≡ w.clients)
taken-down kept w mid k l n j y at taken held = elim taken [
  | inl open_it ↦
      let core = open_it.1.0 in
      subst (λ (v : World). HeldAt kept v l × (v.clients ≡ w.clients)) (sym open_it.1.2) ((held.0, held.1, held.2, held.3, held.4), refl)
  | inr closed_it ↦
      subst (λ (v : World). HeldAt kept v l × (v.clients ≡ w.clients)) (sym closed_it.1)
      (circuit-changed kept w k l j (record j { left_down = drop n j.left_down }) at refl (left-down kept j (drop n j.left_down)) held, refl)
]

pub keeps-down : (kept : List ℕ) (w new : World) (k l n : ℕ) (j : Joined) (x : ClientSide) (y : ServerSide) → At w.circuits k j → At w.clients j.client x → HappensDown w k n j x y new → HeldAt kept w l → HeldAt kept new l
keeps-down kept w new k l n j x y at there happens held =
    let mid : World = happens.0 in
    let taken = taken-down kept w mid k l n j y at happens.3 held in
    let o : Outcomes = record { core = happens.2; names = x.names; lines = []; sent = happens.1 } in
    subst (λ (v : World). HeldAt kept v l) (sym happens.5)
    (after-call kept mid j.client l x x.names o (subst (λ (c : List ClientSide). At c j.client x) (sym taken.1) there)
    (λ a stands mine was.
    down-held kept j.client x.names x.core happens.2 a j.at_client (take n (waiting_down y j)) (nat_lt n (length (waiting_down y j))) happens.1 happens.4 was mine) taken.0)

-- ---- up

pub keeps-up : (kept : List ℕ) (w new : World) (k l n : ℕ) (j : Joined) (x : ClientSide) (y : ServerSide) → At w.circuits k j → At w.clients j.client x → HappensUp w k n j x y new → HeldAt kept w l → HeldAt kept new l
keeps-up kept w new k l n j x y at there happens held =
    subst (λ (v : World). HeldAt kept v l) (sym happens.2) (go j.lists.client_open)
  where
    go : (b : Bool) → HeldAt kept (with_server j.server (record y { core = happens.0 }) (cond b (with_client j.client (record x { core = handed_over j.at_client n x.core }) w) (with_circuit k (record j { left_up = drop n j.left_up }) w))) l
    go true =
        let r = client-changed kept w j.client l x (record x { core = handed_over j.at_client n x.core }) there (λ a mine was. up-held kept x.names x.core a j.at_client n was) held in
        (r.0, r.1, r.2, r.3, r.4)
    go false =
        let r = circuit-changed kept w k l j (record j { left_up = drop n j.left_up }) at refl (left-up kept j (drop n j.left_up)) held in
        (r.0, r.1, r.2, r.3, r.4)

-- ---- an end is cut

pub keeps-client-end : (kept : List ℕ) (w : World) (k l : ℕ) (j : Joined) (x : ClientSide) (c : Closing) → At w.circuits k j → At w.clients j.client x → j.lists.client_open ≡ true → HaveHandles w → HeldAt kept w l
    → HeldAt kept (client_ended k j x c (ended j.at_client x.core) w) l
keeps-client-end kept w k l j x c at there open_it apart held =
    let closed : Joined = client_closed c.left j in
    let mid : World = with_circuit k closed w in
    let o : Outcomes = record { core = ended j.at_client x.core; names = x.names; lines = lines_of OfCircuit x.names c.notices; sent = [] } in
    after-call kept mid j.client l x x.names o there
    (λ a stands mine was.
    none-sent-to kept j.client x.names x.names x.core (ended j.at_client x.core) a was (λ b h at. at) (λ o holds.
    holds-alike (Awaits a.lists kept) a.at_client x.names x.core (ended j.at_client x.core) a.lists
    (ended-elsewhere j.at_client a.at_client x.core (elim (cases_Bool (same_handle j.at_client a.at_client)) [
      | inr other ↦ other
      | inl same ↦ absurd (elim (At-set w.circuits k closed l a stands) [
        | inl here ↦ both_ways false refl (ap (λ (z : Joined). z.lists.client_open) (sym here.1) ∙ o)
        | inr old ↦ old.1 (sym (apart k l j a at old.0 (sym mine) open_it o same))
      ])
    ])) holds))
    (circuit-changed kept w k l j closed at refl (λ n z h. closed-held kept n n z z j c.left h) held)

pub keeps-cut-client : (kept : List ℕ) (w new : World) (k l : ℕ) (j : Joined) (x : ClientSide) → At w.circuits k j → At w.clients j.client x → j.lists.client_open ≡ true → HaveHandles w → HappensCutClient w k j x new → HeldAt kept w l → HeldAt kept new l
keeps-cut-client kept w new k l j x at there open_it apart happens held =
    subst (λ (v : World). HeldAt kept v l) (sym happens.4)
    (subst (λ (core : Client). HeldAt kept (client_ended k j x happens.0 core w) l) (sym happens.3.2) (keeps-client-end kept w k l j x happens.0 at there open_it apart held))
