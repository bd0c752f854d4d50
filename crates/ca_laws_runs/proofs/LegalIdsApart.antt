-- What a client holds by two ids of one index it holds on one circuit; so of two such ids that it
-- gave on two circuits, whose ends are open, one is free: in every run.
use Rattle.std.proofs.Common.{◌≡◌, ℕ, ◌%◌, ◌<◌, ◌⊎◌, inl, inr, Bool, true, false, List, Option, Some, None, refl, sym, ap, ◌∙◌, subst, arith}
use Rattle.std.specs.Prelude.{◌&&◌, length, option_map, unwrap_or}
use Rattle.std.proofs.lemmas.Bool.{both_ways, or_cases}
use Rattle.ca_text.specs.Limits.{arena_slots}
use Rattle.ca_text.specs.Place.{At}
use Rattle.ca_text.proofs.Places.{At-mapped, At-one}
use Rattle.ca_arena.specs.declared.handle.Handle.{Handle}
use Rattle.ca_ids.specs.Table.{same_handle, under}
use Rattle.ca_monitor.specs.Subscriptions.{Cancelled, Ended, Stage, Stands, Subscription, drains_in, stands_in}
use Rattle.ca_requests.specs.Requests.{Request}
use Rattle.ca_wire.specs.Fields.{Fields}
use Rattle.ca_model.specs.Client.{Channel, Client, is_on_in}
use Rattle.ca_model.specs.History.{Circuit, Sent}
use Rattle.ca_model.specs.Sends.{IsFree, SameIndex}
use Rattle.ca_model.specs.Speech.{Cid, Gives, Id, Ioid, SubId}
use Rattle.ca_model.proofs.Handles.{same-is, same-itself}
use Rattle.ca_model.proofs.Standings.{on-one}
use Rattle.ca_model.specs.Legal.{IdsAreApart, client_conduct}
use Rattle.ca_model.specs.Events.{Event}
use Rattle.ca_model.specs.Runs.{AreEvents, Runs}
use Rattle.ca_model.specs.World.{ClientSide, IsSetting, Joined, Setting, World, circuit_of, told}
use Rattle.ca_laws_parts.specs.Held.{AreFew, has_id, is_asked, is_subscribed}
use Rattle.ca_laws_parts.proofs.Given.{HeldBy, same-holder}
use Rattle.ca_laws_runs.proofs.LegalIds.{AllHeldOr, run-both}
use Rattle.ca_laws_runs.proofs.LostRuns.{known-runs}
use Rattle.ca_laws_runs.proofs.Spent.{Known}

-- ---- one client

-- a subscription has its id on one circuit
one-has : (x : Client) (c on : Handle) (d : Subscription) → has_id x.channels c d ≡ true → has_id x.channels on d ≡ true → c ≡ on
one-has x c on d a b = go d.stage (or_cases (drains_in c d.stage) (stands_in d.stage && live c) a) (or_cases (drains_in on d.stage) (stands_in d.stage && live on) b)
  where
    live : Handle → Bool
    live h = unwrap_or (option_map (is_on_in is_subscribed h) (under x.channels d.channel)) false

    one-live : (o : Option Channel) → unwrap_or (option_map (is_on_in is_subscribed c) o) false ≡ true → unwrap_or (option_map (is_on_in is_subscribed on) o) false ≡ true → c ≡ on
    one-live (Some ch) p q = on-one is_subscribed is_subscribed c on ch p q
    one-live None p q = absurd (both_ways false refl p)

    go : (s : Stage) → (drains_in c s ≡ true) ⊎ ((stands_in s && live c) ≡ true) → (drains_in on s ≡ true) ⊎ ((stands_in s && live on) ≡ true) → c ≡ on
    go Stands (inr p) (inr q) = one-live (under x.channels d.channel) p q
    go Stands (inl p) q = absurd (both_ways false refl p)
    go Stands (inr p) (inl q) = absurd (both_ways false refl q)
    go (Cancelled h) (inl p) (inl q) = sym (same-is h c p) ∙ same-is h on q
    go (Cancelled h) (inr p) q = absurd (both_ways false refl p)
    go (Cancelled h) (inl p) (inr q) = absurd (both_ways false refl q)
    go (Ended h) (inl p) (inl q) = sym (same-is h c p) ∙ same-is h on q
    go (Ended h) (inr p) q = absurd (both_ways false refl p)
    go (Ended h) (inl p) (inr q) = absurd (both_ways false refl q)

-- ids of one index are held on one circuit
one-circuit : (x : Client) (c on : Handle) (m r : Fields) (a b : Id) → AreFew x → HeldBy c x m a → HeldBy on x r b → SameIndex a b → c ≡ on
one-circuit x c on m r (Cid a) (Cid b) few p q same =
    let one = same-holder x.channels few.channels p.0 q.0 p.1 q.1 a p.2 q.2 p.3 (same ∙ ap (λ (n : ℕ). n % arena_slots) (sym q.3)) in
    on-one is_asked is_asked c on q.1 (subst (λ (v : Channel). is_on_in is_asked c v ≡ true) one.1 p.4) q.4
one-circuit x c on m r (Ioid a) (Ioid b) few p q same =
    let one = same-holder x.requests few.requests p.0 q.0 p.1 q.1 a p.2 q.2 p.3 (same ∙ ap (λ (n : ℕ). n % arena_slots) (sym q.3)) in
    sym (same-is p.1.circuit c p.4) ∙ ap (λ (v : Request). v.circuit) one.1 ∙ same-is q.1.circuit on q.4
one-circuit x c on m r (SubId a) (SubId b) few p q same =
    let one = same-holder x.subscriptions few.subscriptions p.0 q.0 p.1 q.1 a p.2 q.2 p.3 (same ∙ ap (λ (n : ℕ). n % arena_slots) (sym q.3)) in
    one-has x c on q.1 (subst (λ (v : Subscription). has_id x.channels c v ≡ true) one.1 p.4) q.4
one-circuit x c on m r (Cid a) (Ioid b) few p q same = absurd same
one-circuit x c on m r (Cid a) (SubId b) few p q same = absurd same
one-circuit x c on m r (Ioid a) (Cid b) few p q same = absurd same
one-circuit x c on m r (Ioid a) (SubId b) few p q same = absurd same
one-circuit x c on m r (SubId a) (Cid b) few p q same = absurd same
one-circuit x c on m r (SubId a) (Ioid b) few p q same = absurd same

-- ---- two circuits of a world

module _ (w : World) (known : Known w) (held : AllHeldOr w) (n m : ℕ) (i j : Joined) (less : n < m) (at_i : At w.circuits n i) (at_j : At w.circuits m j) (same : i.lists.client ≡ j.lists.client) (open_i : i.lists.client_open ≡ true) (open_j : j.lists.client_open ≡ true) where
  -- the client of a circuit
  client-at : (p : ℕ) (c : Joined) → At w.circuits p c → (x : ClientSide) × At w.clients c.client x
  client-at p c at =
      let h = known.held p c at in
      (h.1, subst (λ (v : Joined). At w.clients v.client h.1) (At-one w.circuits p h.0 c h.2 at) h.3)

  x : (x : ClientSide) × At w.clients i.client x
  x = client-at n i at_i

  y : (y : ClientSide) × At w.clients j.client y
  y = client-at m j at_j

  mine : i.client ≡ j.client
  mine = known.once.apart i.client j.client x.0 y.0 x.1 y.1 (sym (known.once.ends n i x.0 at_i x.1 open_i) ∙ same ∙ known.once.ends m j y.0 at_j y.1 open_j)

  owner : At w.clients j.client x.0
  owner = subst (λ (p : ℕ). At w.clients p x.0) mine x.1

  pub one-free : (l k : ℕ) (s r : Sent) (a b : Id) → At i.lists.up l s → At j.lists.up k r → Gives s.message a → Gives r.message b → SameIndex a b
      → IsFree (client_conduct i.lists) l (length i.lists.up) ⊎ IsFree (client_conduct j.lists) k (length j.lists.up)
  one-free l k s r a b at_s at_r gives_s gives_r index = elim (held n i x.0 at_i x.1 open_i l s a at_s gives_s) [
    | inl free ↦ inl free
    | inr first ↦ elim (held m j x.0 at_j owner open_j k r b at_r gives_r) [
      | inl free ↦ inr free
      | inr second ↦
          let one : i.at_client ≡ j.at_client = one-circuit x.0.core i.at_client j.at_client s.message r.message a b (known.stands.sound i.client x.0 x.1).named.few first second index in
          let place : n ≡ m = known.stands.handles n m i j at_i at_j mine open_i open_j (subst (λ (h : Handle). same_handle i.at_client h ≡ true) one (same-itself i.at_client)) in
          absurd (omega (arith, less, place))
    ]
  ]

pub run-ids-apart : (s : Setting) (es : List Event) (stopped : Option Event) (w : World) → IsSetting s → AreEvents es → Runs s es stopped w → IdsAreApart (told w)
run-ids-apart s es stopped w ok are runs n m l k c d q r a b less at_c at_d same open_c open_d at_q at_r gives_q gives_r index =
    let i = At-mapped circuit_of w.circuits n c at_c in
    let j = At-mapped circuit_of w.circuits m d at_d in
    subst (λ (v : Circuit × Circuit). IsFree (client_conduct v.0) l (length v.0.up) ⊎ IsFree (client_conduct v.1) k (length v.1.up)) (λ t. (sym i.2 t, sym j.2 t))
    (one-free w (known-runs s es stopped w ok are runs) ((run-both s es stopped w ok are runs).1) n m i.0 j.0 less i.1 j.1
    (sym (ap (λ (v : Circuit). v.client) i.2) ∙ same ∙ ap (λ (v : Circuit). v.client) j.2) (sym (ap (λ (v : Circuit). v.client_open) i.2) ∙ open_c) (sym (ap (λ (v : Circuit). v.client_open) j.2) ∙ open_d)
    l k q r a b (subst (λ (v : Circuit). At v.up l q) i.2 at_q) (subst (λ (v : Circuit). At v.up k r) j.2 at_r) gives_q gives_r index)
