-- The handles of circuits at servers stand, whatever happens.
use Rattle.std.proofs.Common.{◌≡◌, ℕ, ◌⊎◌, inl, inr, Bool, true, false, ◌&&◌, cond, eqb, List, Option, Some, None, refl, sym, ap, ◌∙◌, subst}
use Rattle.std.specs.Prelude.{is_some, map, option_map, unwrap_or}
use Rattle.std.proofs.lemmas.Bool.{both_ways, eqb-true}
use Rattle.ca_arena.specs.declared.handle.Handle.{Handle}
use Rattle.ca_ids.specs.Table.{same_handle, under}
use Rattle.ca_text.specs.Place.{At}
use Rattle.ca_text.proofs.Places.{At-mapped, At-set}
use Rattle.ca_model.specs.Server.{Server, ServerCircuit}
use Rattle.ca_model.specs.ServerSteps.{closed}
use Rattle.ca_model.specs.ServerEvents.{ending, ends_by, ends_here, left_by, reported, server_after, server_closed}
use Rattle.ca_model.specs.World.{Joined, ServerSide, World, with_circuit}
use Rattle.ca_model.proofs.Handles.{same-is}
use Rattle.ca_model.proofs.Tables.{all-freed-back, freed-back}
use Rattle.ca_model.specs.Placed.{WasGiven}
use Rattle.ca_model.proofs.Thinner.{given-thin, thin-then}
use Rattle.ca_laws_parts.proofs.Frames.{Frame}
use Rattle.ca_laws_parts.specs.Worlds.{HandlesStand}
use Rattle.ca_laws_parts.proofs.BytesServers.{Like}
use Rattle.ca_laws_parts.proofs.Tables.{Thin, thin-reported}

-- ---- events that touch no server

pub frame-handles : (w new : World) → Frame w new → HandlesStand w → HandlesStand new
frame-handles w new f h = record {
  given = λ n d y at there life.
      let c = f.back n d at in
      subst (λ (k : Handle). WasGiven y.core.circuits k) (sym c.2.later.handle) (h.given n c.0 y c.1 (server c.0 d y c.2.later.server there) (sym c.2.later.life ∙ life));
  gone = λ n d y v at there life shut is.
      let c = f.back n d at in
      h.gone n c.0 y v c.1 (server c.0 d y c.2.later.server there) (sym c.2.later.life ∙ life) (sym c.2.is_open ∙ shut) (ap (λ (k : Handle). under y.core.circuits k) (sym c.2.later.handle) ∙ is);
}
  where
    server : (c d : Joined) (y : ServerSide) → d.server ≡ c.server → At new.servers d.server y → At w.servers c.server y
    server c d y same there = subst (λ (k : ℕ). At w.servers k y) same (subst (λ (l : List ServerSide). At l d.server y) f.servers there)

-- ---- an event at a server

pub server-handles : (w new : World) (i : ℕ) (y z : ServerSide) → At w.servers i y → z.life ≡ y.life → ((l : ℕ) (s : ServerSide) → At new.servers l s → ((l ≡ i) × (s ≡ z)) ⊎ (At w.servers l s × (l ≡ i → ⊥))) → Thin y.core z.core
    → ((n : ℕ) (d : Joined) → At new.circuits n d → (c : Joined) × At w.circuits n c × Like c d
    × (d.lists.server_open ≡ false → (c.lists.server_open ≡ false) ⊎ ((c.server ≡ i) × ((v : ServerCircuit) → under z.core.circuits d.at_server ≡ Some v → ⊥))))
    → HandlesStand w → HandlesStand new
server-handles w new i y z at life servers thin back h = record {
  given = λ n d s on there lives.
      let c = back n d on in
      elim (servers d.server s there) [
        | inl mine ↦
            let was : At w.servers c.0.server y = subst (λ (k : ℕ). At w.servers k y) (sym mine.0 ∙ c.2.server) at in
            subst (λ (q : ServerSide × Handle). WasGiven q.0.core.circuits q.1) (λ k. (sym mine.1 k, sym c.2.handle k))
            (given-thin y.core.circuits z.core.circuits c.0.at_server thin (h.given n c.0 y c.1 was (sym c.2.life ∙ lives ∙ ap (λ (q : ServerSide). q.life) mine.1 ∙ life)))
        | inr old ↦
            subst (λ (k : Handle). WasGiven s.core.circuits k) (sym c.2.handle) (h.given n c.0 s c.1 (subst (λ (k : ℕ). At w.servers k s) c.2.server old.0) (sym c.2.life ∙ lives))
      ];
  gone = λ n d s v on there lives shut is.
      let c = back n d on in
      elim (servers d.server s there) [
        | inl mine ↦
            let now : under z.core.circuits d.at_server ≡ Some v = ap (λ (q : ServerSide). under q.core.circuits d.at_server) (sym mine.1) ∙ is in
            elim (c.3 shut) [
              | inl was_shut ↦
                  let b = thin.back c.0.at_server v (ap (λ (k : Handle). under z.core.circuits k) (sym c.2.handle) ∙ now) in
                  h.gone n c.0 y b.0 c.1 (subst (λ (k : ℕ). At w.servers k y) (sym mine.0 ∙ c.2.server) at) (sym c.2.life ∙ lives ∙ ap (λ (q : ServerSide). q.life) mine.1 ∙ life) was_shut b.1
              | inr freed ↦ freed.1 v now
            ]
        | inr old ↦ elim (c.3 shut) [
          | inl was_shut ↦ h.gone n c.0 s v c.1 (subst (λ (k : ℕ). At w.servers k s) c.2.server old.0) (sym c.2.life ∙ lives) was_shut (ap (λ (k : Handle). under s.core.circuits k) (sym c.2.handle) ∙ is)
          | inr freed ↦ old.1 (c.2.server ∙ freed.0)
        ]
      ];
}

-- ---- circuits that end

shut-by : (ends : Joined → Option (List ℕ)) (m : Joined) (o : Option (List ℕ)) → ends m ≡ o → (ending ends m).lists.server_open ≡ false → (m.lists.server_open ≡ false) ⊎ ((left : List ℕ) × (ends m ≡ Some left))
shut-by ends m None is shut = inl (ap (λ (o : Option (List ℕ)). (unwrap_or (option_map (λ (left : List ℕ). server_closed left m) o) m).lists.server_open) (sym is) ∙ shut)
shut-by ends m (Some left) is shut = inr (left, is)

-- an end that the core says ended is freed as that is reported
pub freed-by-core : (i : ℕ) (core : Server) (m : Joined) (left : List ℕ) → ends_by i core m ≡ Some left → (v : ServerCircuit) → under (reported core).circuits m.at_server ≡ Some v → ⊥
freed-by-core i core m left is v there =
    let b = all-freed-back (λ (c : ServerCircuit). is_some (left_by (Some c))) core.circuits m.at_server v there in
    go (eqb m.server i && m.lists.server_open) (is-left b.0) b.1
  where
    is-left : under core.circuits m.at_server ≡ Some v → cond (eqb m.server i && m.lists.server_open) (left_by (Some v)) None ≡ Some left
    is-left e = ap (λ (o : Option ServerCircuit). cond (eqb m.server i && m.lists.server_open) (left_by o) None) (sym e) ∙ is

    go : (b : Bool) → cond b (left_by (Some v)) None ≡ Some left → is_some (left_by (Some v)) ≡ false → ⊥
    go true e f = both_ways (is_some (left_by (Some v))) f (ap is_some e)
    go false e f = cc

-- circuits before, midway and after an event by which these end
pub handles-after : (w mid : World) (i : ℕ) (y side : ServerSide) (core : Server) (ends : Joined → Option (List ℕ)) → At w.servers i y → side.life ≡ y.life → ((l : ℕ) (s : ServerSide) → At mid.servers l s → (l ≡ i → ⊥) → At w.servers l s) → Thin y.core core
    → ((n : ℕ) (m : Joined) → At mid.circuits n m → (c : Joined) × At w.circuits n c × Like c m × (m.lists.server_open ≡ c.lists.server_open))
    → ((m : Joined) (left : List ℕ) → ends m ≡ Some left → (m.server ≡ i) × ((v : ServerCircuit) → under (reported core).circuits m.at_server ≡ Some v → ⊥))
    → HandlesStand w → HandlesStand (server_after i side ends core mid)
handles-after w mid i y side core ends at life others thin back over h =
    server-handles w (server_after i side ends core mid) i y _ at life
    (λ l s there. elim (At-set mid.servers i _ l s there) [ inl new ↦ inl new | inr old ↦ inr (others l s old.0 old.1, old.1) ])
    (thin-then y.core.circuits core.circuits (reported core).circuits thin (thin-reported core)) circuits h
  where
    like-after : (c m : Joined) → Like c m → Like c (ending ends m)
    like-after c m t = go (ends m)
      where
        go : (o : Option (List ℕ)) → Like c (unwrap_or (option_map (λ (left : List ℕ). server_closed left m) o) m)
        go None = t
        go (Some left) = record { client = t.client; server = t.server; handle = t.handle; life = t.life; side = t.side; up = t.up }

    circuits : (n : ℕ) (d : Joined) → At (map (ending ends) mid.circuits) n d → (c : Joined) × At w.circuits n c × Like c d
        × (d.lists.server_open ≡ false → (c.lists.server_open ≡ false) ⊎ ((c.server ≡ i) × ((v : ServerCircuit) → under (reported core).circuits d.at_server ≡ Some v → ⊥)))
    circuits n d there =
        let m = At-mapped (ending ends) mid.circuits n d there in
        let c = back n m.0 m.1 in
        let like : Like c.0 d = subst (λ (q : Joined). Like c.0 q) (sym m.2) (like-after c.0 m.0 c.2) in (
          c.0,
          c.1,
          like,
          (λ shut. elim (shut-by ends m.0 (ends m.0) refl (ap (λ (q : Joined). q.lists.server_open) (sym m.2) ∙ shut)) [
            | inl was ↦ inl (sym c.3 ∙ was)
            | inr ended ↦
                let r = over m.0 ended.0 ended.1 in
                inr (sym c.2.server ∙ r.0, λ v is. r.1 v (ap (λ (k : Handle). under (reported core).circuits k) (c.2.handle ∙ sym like.handle) ∙ is))
          ]),
        )

-- an end that ends as the core says is one of this server
pub own-by-core : (i : ℕ) (core : Server) (m : Joined) (left : List ℕ) → ends_by i core m ≡ Some left → m.server ≡ i
own-by-core i core m left is = go (eqb m.server i) refl is
  where
    go : (b : Bool) → eqb m.server i ≡ b → cond (b && m.lists.server_open) (left_by (under core.circuits m.at_server)) None ≡ Some left → m.server ≡ i
    go true e f = eqb-true m.server i e
    go false e f = absurd cc

pub over-by-core : (i : ℕ) (core : Server) (m : Joined) (left : List ℕ) → ends_by i core m ≡ Some left → (m.server ≡ i) × ((v : ServerCircuit) → under (reported core).circuits m.at_server ≡ Some v → ⊥)
over-by-core i core m left is = (own-by-core i core m left is, freed-by-core i core m left is)

-- also in a step that closes its circuit, by a core that says the same of others
pub over-here : (j : Joined) (left : List ℕ) (said mid : Server) → ((h : Handle) (v : ServerCircuit) → under (closed j.at_server mid).circuits h ≡ Some v → under said.circuits h ≡ Some v) → (m : Joined) (l : List ℕ) → ends_here j left j.server said m ≡ Some l
    → (m.server ≡ j.server) × ((v : ServerCircuit) → under (reported (closed j.at_server mid)).circuits m.at_server ≡ Some v → ⊥)
over-here j left said mid same m l is = go (same_handle m.at_server j.at_server) (eqb m.server j.server) m.lists.server_open refl refl is
  where
    core : Server
    core = closed j.at_server mid

    by : ends_by j.server said m ≡ Some l → (m.server ≡ j.server) × ((v : ServerCircuit) → under (reported core).circuits m.at_server ≡ Some v → ⊥)
    by e = (
      own-by-core j.server said m l e,
      λ v there.
          let b = all-freed-back (λ (c : ServerCircuit). is_some (left_by (Some c))) core.circuits m.at_server v there in
          let was = same m.at_server v b.0 in
          left-over (eqb m.server j.server && m.lists.server_open) v (ap (λ (o : Option ServerCircuit). cond (eqb m.server j.server && m.lists.server_open) (left_by o) None) (sym was) ∙ e) b.1,
    )
      where
        left-over : (b : Bool) (v : ServerCircuit) → cond b (left_by (Some v)) None ≡ Some l → is_some (left_by (Some v)) ≡ false → ⊥
        left-over true v e f = both_ways (is_some (left_by (Some v))) f (ap is_some e)
        left-over false v e f = cc

    own : same_handle m.at_server j.at_server ≡ true → m.server ≡ j.server → (m.server ≡ j.server) × ((v : ServerCircuit) → under (reported core).circuits m.at_server ≡ Some v → ⊥)
    own e mine = (mine, λ v there. (freed-back mid.circuits m.at_server j.at_server v (all-freed-back (λ (c : ServerCircuit). is_some (left_by (Some c))) core.circuits m.at_server v there).0).0 (same-is m.at_server j.at_server e))

    go : (a b d : Bool) → same_handle m.at_server j.at_server ≡ a → eqb m.server j.server ≡ b → cond (a && (b && d)) (Some left) (ends_by j.server said m) ≡ Some l
        → (m.server ≡ j.server) × ((v : ServerCircuit) → under (reported core).circuits m.at_server ≡ Some v → ⊥)
    go true true true e f is = own e (eqb-true m.server j.server f)
    go true true false e f is = by is
    go true false d e f is = by is
    go false b d e f is = by is

-- ---- a circuit alone

pub circuit-handles : (w : World) (k : ℕ) (c d : Joined) → At w.circuits k c → Like c d → d.lists.server_open ≡ c.lists.server_open → HandlesStand w → HandlesStand (with_circuit k d w)
circuit-handles w k c d at like is_open h = record {
  given = λ n e y on there life. elim (At-set w.circuits k d n e on) [
    | inl here ↦
        let one : e ≡ d = here.1 in
        let was = h.given k c y at (subst (λ (l : ℕ). At w.servers l y) (ap (λ (q : Joined). q.server) one ∙ like.server) there) (sym like.life ∙ ap (λ (q : Joined). q.lists.server) (sym one) ∙ life) in
        subst (λ (q : Handle). WasGiven y.core.circuits q) (sym like.handle ∙ ap (λ (q : Joined). q.at_server) (sym one)) was
    | inr old ↦ h.given n e y old.0 there life
  ];
  gone = λ n e y v on there life shut is. elim (At-set w.circuits k d n e on) [
    | inl here ↦
        let one : e ≡ d = here.1 in
        h.gone k c y v at (subst (λ (l : ℕ). At w.servers l y) (ap (λ (q : Joined). q.server) one ∙ like.server) there) (sym like.life ∙ ap (λ (q : Joined). q.lists.server) (sym one) ∙ life)
        (sym is_open ∙ ap (λ (q : Joined). q.lists.server_open) (sym one) ∙ shut) (ap (λ (q : Handle). under y.core.circuits q) (sym like.handle ∙ ap (λ (q : Joined). q.at_server) (sym one)) ∙ is)
    | inr old ↦ h.gone n e y v old.0 there life shut is
  ];
}
