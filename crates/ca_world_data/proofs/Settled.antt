-- A setting with one client or one server more is a setting.
use Rattle.std.proofs.Common.{◌≡◌, ℕ, ◌<◌, ◌^◌, ◌++◌, ◌||◌, zero, suc, eqb, Bool, true, false, inl, inr, List, [], ◌∷◌, sym, ap, subst, refl, ◌∙◌}
use Rattle.std.proofs.lemmas.Bool.{and_from, both_ways, eq-eqb}
use Rattle.ca_text.specs.Place.{At}
use Rattle.ca_text.proofs.Places.{At-snoc, some_is}
use Rattle.ca_model.specs.Ends.{Address, same_address}
use Rattle.ca_model.specs.World.{ClientSetting, IsSetting, ServerSetting, Setting}
use Rattle.ca_world_data.specs.Settings.{IsClient, IsServer, is_taken}

-- ---- one client more

pub client-more : (s : Setting) (c : ClientSetting) → IsSetting s → IsClient c → IsSetting (record s { clients = s.clients ++ c ∷ [] })
client-more s c is fits = record {
  fit = λ i x at. elim (At-snoc s.clients c i x at) [ inl old ↦ is.fit i x old | inr new ↦ (subst (λ (z : ClientSetting). IsClient z) (sym new.1) fits).0 ];
  few = λ i x at. elim (At-snoc s.clients c i x at) [ inl old ↦ is.few i x old | inr new ↦ (subst (λ (z : ClientSetting). IsClient z) (sym new.1) fits).1 ];
  records = is.records;
  names = is.names;
  ports = is.ports;
  addresses = is.addresses;
}

-- ---- one server more

either-false : (a b : Bool) → a || b ≡ false → (a ≡ false) × (b ≡ false)
either-false false false is = (refl, refl)
either-false true b is = absurd cc
either-false false true is = absurd cc

same-itself : (a : Address) → same_address a a ≡ true
same-itself a = and_from (eqb a.host a.host) (eqb a.port a.port) (eq-eqb a.host a.host refl) (eq-eqb a.port a.port refl)

-- no server has an address that is not taken
not-taken : (a : Address) (servers : List ServerSetting) → is_taken a servers ≡ false → (i : ℕ) (y : ServerSetting) → At servers i y → y.address ≡ a → ⊥
not-taken a [] free i y at same = absurd cc
not-taken a (z ∷ ys) free zero y at same =
    let other : same_address z.address a ≡ false = (either-false (same_address z.address a) (is_taken a ys) free).0 in
    let here : z.address ≡ a = ap (λ (v : ServerSetting). v.address) (some_is z y at) ∙ same in
    both_ways (same_address z.address a) other (subst (λ (v : Address). same_address v a ≡ true) (sym here) (same-itself a))
not-taken a (z ∷ ys) free (suc i) y at same = not-taken a ys (either-false (same_address z.address a) (is_taken a ys) free).1 i y at same

pub server-more : (s : Setting) (n : ServerSetting) → IsSetting s → IsServer n → is_taken n.address s.servers ≡ false → IsSetting (record s { servers = s.servers ++ n ∷ [] })
server-more s n is fits free = record {
  fit = is.fit;
  few = is.few;
  records = λ i j y r at there. elim (At-snoc s.servers n i y at) [
    | inl old ↦ is.records i j y r old there
    | inr new ↦ fits.0 j r (subst (λ (z : ServerSetting). At z.records j r) new.1 there)
  ];
  names = λ i j k y r q at one other same. elim (At-snoc s.servers n i y at) [
    | inl old ↦ is.names i j k y r q old one other same
    | inr new ↦ fits.1 j k r q (subst (λ (z : ServerSetting). At z.records j r) new.1 one) (subst (λ (z : ServerSetting). At z.records k q) new.1 other) same
  ];
  ports = λ i y at. elim (At-snoc s.servers n i y at) [
    | inl old ↦ is.ports i y old
    | inr new ↦ subst (λ (z : ServerSetting). z.address.port < 2 ^ 16) (sym new.1) fits.2
  ];
  addresses = λ i j y z at there same. elim (At-snoc s.servers n i y at) [
    | inl a ↦ elim (At-snoc s.servers n j z there) [
      | inl b ↦ is.addresses i j y z a b same
      | inr b ↦ absurd (not-taken n.address s.servers free i y a (same ∙ ap (λ (v : ServerSetting). v.address) b.1))
    ]
    | inr a ↦ elim (At-snoc s.servers n j z there) [
      | inl b ↦ absurd (not-taken n.address s.servers free j z b (sym same ∙ ap (λ (v : ServerSetting). v.address) a.1))
      | inr b ↦ a.0 ∙ sym b.0
    ]
  ];
}
