-- What an event leaves of the clients of a world, by what it leaves of one client and of the
-- ends of circuits there.
use Rattle.std.proofs.Common.{◌≡◌, ℕ, inl, inr, true, false, List, Option, Some, None, refl, sym, ap, ◌∙◌, subst}
use Rattle.std.specs.Prelude.{is_none, map, slice_set, unwrap_or, option_map}
use Rattle.std.proofs.lemmas.Bool.{both_ways}
use Rattle.ca_text.specs.Place.{At}
use Rattle.ca_text.proofs.Places.{At-mapped, At-set}
use Rattle.ca_arena.specs.declared.handle.Handle.{Handle}
use Rattle.ca_ids.specs.Table.{same_handle}
use Rattle.ca_model.specs.Client.{Client, connection_at}
use Rattle.ca_model.specs.History.{Circuit}
use Rattle.ca_model.specs.Server.{Server}
use Rattle.ca_model.specs.ClientEvents.{Outcomes, client_after, client_closed}
use Rattle.ca_model.specs.ServerEvents.{ending, server_after, server_closed}
use Rattle.ca_model.specs.World.{ClientSide, Joined, Names, ServerSide, World}
use Rattle.ca_model.proofs.Handles.{same-itself}
use Rattle.ca_laws_parts.specs.Circuit.{HaveHandles, sent_to}
use Rattle.ca_laws_parts.specs.Client.{IsSound}
use Rattle.ca_laws_parts.specs.Clients.{ClientsStand}
use Rattle.ca_laws_parts.proofs.Handled.{Like}
use Rattle.ca_model.proofs.Letting.{KeepsBut}
use Rattle.ca_laws_parts.proofs.Named.{named-thins}
use Rattle.ca_model.proofs.Placed.{Keeps}

pub sound-kept : (n : Names) (x y : Client) → Keeps x y → IsSound n x → IsSound n y
sound-kept n x y keeps s = record { named = named-thins n x y keeps.thins s.named; placed = keeps.placed s.placed }

pub sound-but : (c : Handle) (n : Names) (x y : Client) → KeepsBut c x y → IsSound n x → IsSound n y
sound-but c n x y keeps s = record { named = named-thins n x y keeps.thins s.named; placed = keeps.placed s.placed }

-- ---- ends of circuits at clients

-- It is an end of the same client under the same handle, and was open if it is.
pub record IsEndOf (a j : Joined) : Type 0 where
  pub client : j.client ≡ a.client
  pub handle : j.at_client ≡ a.at_client
  pub opens : j.lists.client_open ≡ true → a.lists.client_open ≡ true

pub end-itself : (a : Joined) → IsEndOf a a
end-itself a = record { client = refl; handle = refl; opens = λ o. o }

pub end-then : (a b c : Joined) → IsEndOf a b → IsEndOf b c → IsEndOf a c
end-then a b c f g = record { client = g.client ∙ f.client; handle = g.handle ∙ f.handle; opens = λ o. f.opens (g.opens o) }

pub end-like : (a j : Joined) → Like a j → IsEndOf a j
end-like a j like = record { client = like.2; handle = like.1; opens = λ o. sym (ap (λ (c : Circuit). c.client_open) like.0) ∙ o }

pub end-closed : (left : List ℕ) (a : Joined) → IsEndOf a (client_closed left a)
end-closed left a = record { client = refl; handle = refl; opens = λ o. absurd (both_ways false refl o) }

pub end-ending : (ends : Joined → Option (List ℕ)) (a : Joined) → IsEndOf a (ending ends a)
end-ending ends a = go (ends a)
  where
    go : (o : Option (List ℕ)) → IsEndOf a (unwrap_or (option_map (λ (left : List ℕ). server_closed left a) o) a)
    go (Some left) = record { client = refl; handle = refl; opens = λ o. o }
    go None = end-itself a

-- Each end was there, and no more are open.
abbrev pub Fewer : List Joined → List Joined → Type 0
Fewer was now = (k : ℕ) (j : Joined) → At now k j → (a : Joined) × At was k a × IsEndOf a j

pub fewer-itself : (was : List Joined) → Fewer was was
fewer-itself was k j at = (j, at, end-itself j)

pub fewer-then : (a b c : List Joined) → Fewer a b → Fewer b c → Fewer a c
fewer-then a b c f g k j at =
    let m = g k j at in
    let n = f k m.0 m.1 in
    (n.0, n.1, end-then n.0 m.0 j n.2 m.2)

pub fewer-map : (f : Joined → Joined) (was : List Joined) → ((a : Joined) → IsEndOf a (f a)) → Fewer was (map f was)
fewer-map f was ends k j at = (let m = At-mapped f was k j at in (m.0, m.1, subst (λ (z : Joined). IsEndOf m.0 z) (sym m.2) (ends m.0)))

pub fewer-set : (k : ℕ) (a new : Joined) (was : List Joined) → At was k a → IsEndOf a new → Fewer was (slice_set was k new)
fewer-set k a new was at end l j there = elim (At-set was k new l j there) [
  | inl here ↦ (a, subst (λ (z : ℕ). At was z a) (sym here.0) at, subst (λ (z : Joined). IsEndOf a z) (sym here.1) end)
  | inr old ↦ (j, old.0, end-itself j)
]

fewer-handles : (w new : World) → Fewer w.circuits new.circuits → HaveHandles w → HaveHandles new
fewer-handles w new fewer handles k l a b at there same open_a open_b both =
    let p = fewer k a at in
    let q = fewer l b there in
    handles k l p.0 q.0 p.1 q.1 (sym p.2.client ∙ same ∙ q.2.client) (p.2.opens open_a) (q.2.opens open_b)
    (subst (λ (z : Handle × Handle). same_handle z.0 z.1 ≡ true) (λ i. (p.2.handle i, q.2.handle i)) both)

-- ---- a world after an event

-- no client changes
pub stands-same : (w new : World) → new.clients ≡ w.clients → Fewer w.circuits new.circuits → ClientsStand w → ClientsStand new
stands-same w new same fewer s = record {
  sound = λ i x at. s.sound i x (subst (λ (l : List ClientSide). At l i x) same at);
  connected = λ k j x at there open_it.
      let p = fewer k j at in
      let client : At w.clients p.0.client x = subst (λ (z : ℕ). At w.clients z x) p.2.client (subst (λ (l : List ClientSide). At l j.client x) same there) in
      subst (λ (z : Handle). is_none (connection_at x.core z) ≡ false) (sym p.2.handle) (s.connected k p.0 x p.1 client (p.2.opens open_it));
  handles = fewer-handles w new fewer s.handles;
}

-- one client changes, whose open ends are connected now
pub stands-moved : (w new : World) (i : ℕ) (x z : ClientSide) → At w.clients i x → new.clients ≡ slice_set w.clients i z → Fewer w.circuits new.circuits → IsSound z.names z.core
    → ((k : ℕ) (j a : Joined) → At new.circuits k j → At w.circuits k a → IsEndOf a j → j.client ≡ i → j.lists.client_open ≡ true → is_none (connection_at x.core j.at_client) ≡ false → is_none (connection_at z.core j.at_client) ≡ false)
    → ClientsStand w → ClientsStand new
stands-moved w new i x z at same fewer sound connected s = record {
  sound = λ l y there. elim (At-set w.clients i z l y (subst (λ (c : List ClientSide). At c l y) same there)) [
    | inl here ↦ subst (λ (v : ClientSide). IsSound v.names v.core) (sym here.1) sound
    | inr old ↦ s.sound l y old.0
  ];
  connected = λ k j y stands there open_it.
      let p = fewer k j stands in
      let was : (v : ClientSide) → At w.clients j.client v → is_none (connection_at v.core j.at_client) ≡ false = λ v client.
      subst (λ (h : Handle). is_none (connection_at v.core h) ≡ false) (sym p.2.handle) (s.connected k p.0 v p.1 (subst (λ (n : ℕ). At w.clients n v) p.2.client client) (p.2.opens open_it)) in
      elim (At-set w.clients i z j.client y (subst (λ (c : List ClientSide). At c j.client y) same there)) [
        | inl here ↦
            subst (λ (v : ClientSide). is_none (connection_at v.core j.at_client) ≡ false) (sym here.1)
            (connected k j p.0 stands p.1 p.2 here.0 open_it (was x (subst (λ (n : ℕ). At w.clients n x) (sym here.0) at)))
        | inr old ↦ was y old.0
      ];
  handles = fewer-handles w new fewer s.handles;
}

-- a call of client i that ends and begins no circuit
pub stands-called : (w : World) (i : ℕ) (x : ClientSide) (spoken : Names) (o : Outcomes) → At w.clients i x → IsSound o.names o.core → ((c : Handle) → is_none (connection_at o.core c) ≡ is_none (connection_at x.core c)) → ClientsStand w
    → ClientsStand (client_after i x spoken o w)
stands-called w i x spoken o at sound links s =
    stands-moved w (client_after i x spoken o w) i x (record x { core = o.core; names = o.names }) at refl
    (fewer-map (sent_to i spoken o.sent) w.circuits (λ a. record { client = refl; handle = refl; opens = λ open_it. open_it })) sound
    (λ k j a there was end mine open_it connected. links j.at_client ∙ connected) s

-- one that keeps all, under the same names
pub stands-kept : (w : World) (i : ℕ) (x : ClientSide) (o : Outcomes) → At w.clients i x → o.names ≡ x.names → Keeps x.core o.core → ClientsStand w → ClientsStand (client_after i x x.names o w)
stands-kept w i x o at same keeps s =
    stands-called w i x x.names o at (subst (λ (n : Names). IsSound n o.core) (sym same) (sound-kept x.names x.core o.core keeps (s.sound i x at))) keeps.links s

-- One that ends the circuit of handle c, or ends of that handle alone are closed in it.
pub stands-but : (w : World) (i k : ℕ) (j closed : Joined) (x : ClientSide) (o : Outcomes) → At w.circuits k j → At w.clients i x → j.client ≡ i → j.lists.client_open ≡ true → IsEndOf j closed → closed.lists.client_open ≡ false → o.names ≡ x.names
    → KeepsBut j.at_client x.core o.core → ClientsStand w → ClientsStand (client_after i x x.names o (record w { circuits = slice_set w.circuits k closed }))
stands-but w i k j closed x o at there mine open_it end shut same keeps s =
    let mid : World = record w { circuits = slice_set w.circuits k closed } in
    let f : Joined → Joined = sent_to i x.names o.sent in
    stands-moved w (client_after i x x.names o mid) i x (record x { core = o.core; names = o.names }) there refl
    (fewer-then w.circuits mid.circuits (map f mid.circuits) (fewer-set k j closed w.circuits at end)
    (fewer-map f mid.circuits (λ a. record { client = refl; handle = refl; opens = λ opened. opened })))
    (subst (λ (n : Names). IsSound n o.core) (sym same) (sound-but j.at_client x.names x.core o.core keeps (s.sound i x there)))
    (λ l b a stands was is_end ours opened connected.
    keeps.links b.at_client (λ e.
    let m = At-mapped f mid.circuits l b stands in
    elim (At-set w.circuits k closed l m.0 m.1) [
      | inl here ↦ both_ways false refl (sym shut ∙ sym (ap (λ (z : Joined). z.lists.client_open) here.1) ∙ sym (ap (λ (z : Joined). z.lists.client_open) m.2) ∙ opened)
      | inr old ↦
          old.1 (sym (s.handles k l j a at was (mine ∙ sym ours ∙ is_end.client) open_it (is_end.opens opened)
          (subst (λ (h : Handle). same_handle j.at_client h ≡ true) (sym e ∙ is_end.handle) (same-itself j.at_client))))
    ]) ∙ connected) s

-- a call of a server
pub stands-server : (w : World) (i : ℕ) (y : ServerSide) (ends : Joined → Option (List ℕ)) (core : Server) → ClientsStand w → ClientsStand (server_after i y ends core w)
stands-server w i y ends core s = stands-same w (server_after i y ends core w) refl (fewer-map (ending ends) w.circuits (end-ending ends)) s
