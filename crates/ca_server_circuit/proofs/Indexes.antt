-- The channels of a circuit, and the set of CIDs that are in use.
use Rattle.std.proofs.Common.{◌≡◌, ℕ, inl, inr, Bool, true, false, cond, nat_eq, Option, Some, None, is_some, slice_set, refl, sym, ap, ◌∙◌, subst, arith}
use Rattle.std.proofs.lemmas.Bool.{eq-eqb}
use Rattle.std.proofs.lemmas.Bool.Decides.{eqb_tells}
use Rattle.std.specs.HashSet.{HashSet, contains}
use Rattle.std.specs.declared.hash.FoldHasher.{FoldHasher}
use Rattle.std.specs.declared.hash.BuildHasherDefault.{BuildHasherDefault}
use Rattle.std.specs.Prelude.{IfSome, option_map}
use Rattle.ca_arena.specs.Arena.{Place}
use Rattle.ca_arena.specs.declared.handle.Handle.{Handle}
use Rattle.ca_ids.specs.Table.{MayGive, Table, same_handle, under, with_changed, with_freed, with_held}
use Rattle.ca_model.specs.Server.{OpenChannel}
use Rattle.ca_server_circuit.specs.Cids.{IsInFront, IsIndexed, UsesCid, come, leave}
use Rattle.ca_server_circuit.specs.Removing.{without_record}
use Rattle.ca_server_circuit.proofs.Cleared.{is-same, same-is}
use Rattle.ca_server_circuit.proofs.Tables.{changed-back, changed-few, changed-other, changed-own, freed-back, freed-few, freed-other, held-back, held-few, held-other, held-own, one-value}

abbrev pub Cids : Type 0
Cids = HashSet ℕ (BuildHasherDefault FoldHasher)

-- from s, this CID was put in or taken out, and n is left
abbrev pub Changes : Cids → Cids → ℕ → Bool → Type 0
Changes s n cid b = (q : ℕ) → contains nat_eq n q ≡ cond (nat_eq cid q) b (contains nat_eq s q)

true_or : (b c : Bool) → c ≡ true → cond b true c ≡ true
true_or true c e = refl
true_or false c e = e

changed_here : (s n : Cids) (cid q : ℕ) (b : Bool) → Changes s n cid b → nat_eq cid q ≡ true → contains nat_eq n q ≡ b
changed_here s n cid q b ch e = ch q ∙ ap (λ (t : Bool). cond t b (contains nat_eq s q)) e

changed_there : (s n : Cids) (cid q : ℕ) (b : Bool) → Changes s n cid b → nat_eq cid q ≡ false → contains nat_eq n q ≡ contains nat_eq s q
changed_there s n cid q b ch e = ch q ∙ ap (λ (t : Bool). cond t b (contains nat_eq s q)) e

not_both : (b : Bool) → b ≡ true → b ≡ false → ⊥
not_both b t f = cc

-- a new channel of a CID that was not in use
pub indexed-open : (t : Table OpenChannel) (s n : Cids) (h : Handle) (ch : OpenChannel) → IsIndexed t s → MayGive t h → (UsesCid t ch.cid → ⊥) → Changes s n ch.cid true → IsIndexed (with_held h ch t) n
indexed-open t s n h ch i may new change =
    record {
      sound = λ cid used. elim (eqb_tells ch.cid cid) [
        | inl here ↦ (h, ch, held-own t h ch may, here.1)
        | inr there ↦
            (let was = i.sound cid (sym (changed_there s n ch.cid cid true change there.0) ∙ used) in
            (was.0, was.1, held-other t was.0 h ch was.1 may was.2, was.3))
      ];
      complete = λ g c at. elim (held-back t g h ch c at) [
        | inl here ↦ changed_here s n ch.cid c.cid true change (eq-eqb ch.cid c.cid (ap (λ (x : OpenChannel). x.cid) (sym here.1)))
        | inr old ↦ change c.cid ∙ true_or (nat_eq ch.cid c.cid) (contains nat_eq s c.cid) (i.complete g c old)
      ];
      apart = λ f g a b at at' same. elim (held-back t f h ch a at) [
        | inl here ↦ elim (held-back t g h ch b at') [
          | inl here' ↦ here.0 ∙ sym here'.0
          | inr old' ↦ absurd (new (g, b, old', sym same ∙ ap (λ (x : OpenChannel). x.cid) here.1))
        ]
        | inr old ↦ elim (held-back t g h ch b at') [
          | inl here' ↦ absurd (new (f, a, old, same ∙ ap (λ (x : OpenChannel). x.cid) here'.1))
          | inr old' ↦ i.apart f g a b old old' same
        ]
      ];
      limit = held-few t h ch may i.limit;
    }

-- a channel is closed
pub indexed-close : (t : Table OpenChannel) (s n : Cids) (h : Handle) (ch : OpenChannel) → IsIndexed t s → under t h ≡ Some ch → Changes s n ch.cid false → IsIndexed (with_freed h t) n
indexed-close t s n h ch i at change =
    record {
      sound = λ cid used. elim (eqb_tells ch.cid cid) [
        | inl here ↦ absurd (not_both (contains nat_eq n cid) used (changed_here s n ch.cid cid false change here.0))
        | inr there ↦
            (let was = i.sound cid (sym (changed_there s n ch.cid cid false change there.0) ∙ used) in
            (was.0, was.1, freed-other t was.0 h was.1 was.2 (λ e. there.1 (ap (λ (x : OpenChannel). x.cid) (one-value t h ch was.1 at (subst (λ (g : Handle). under t g ≡ Some was.1) e was.2)) ∙ was.3)), was.3))
      ];
      complete = λ g c after.
          let old = freed-back t g h c after in
          elim (eqb_tells ch.cid c.cid) [
            | inl same ↦ absurd (old.0 (i.apart g h c ch old.1 at (sym same.1)))
            | inr other ↦ changed_there s n ch.cid c.cid false change other.0 ∙ i.complete g c old.1
          ];
      apart = λ f g a b at' at'' same. i.apart f g a b (freed-back t f h a at').1 (freed-back t g h b at'').1 same;
      limit = (let few = freed-few t h in let limit = i.limit in omega (arith, few, limit));
    }

-- the record of a channel was removed
module _ (t : Table OpenChannel) (s : Cids) (h : Handle) (ch : OpenChannel) (i : IsIndexed t s) (there : under t h ≡ Some ch) where
  -- what was there has its CID still
  was-there : (g : Handle) (c : OpenChannel) → under (with_changed without_record h t) g ≡ Some c → (o : OpenChannel) × (under t g ≡ Some o) × (o.cid ≡ c.cid)
  was-there g c at = elim (changed-back without_record t g h c at) [
    | inl own ↦ (own.1.0, subst (λ (x : Handle). under t x ≡ Some own.1.0) (sym own.0) own.1.1, ap (λ (x : OpenChannel). x.cid) (sym own.1.2))
    | inr other ↦ (c, other.1, refl)
  ]

  still-there : (cid : ℕ) → UsesCid t cid → UsesCid (with_changed without_record h t) cid
  still-there cid (g, c, at, is) = by (same_handle g h) refl
    where
      by : (b : Bool) → same_handle g h ≡ b → UsesCid (with_changed without_record h t) cid
      by true hit =
          let one : g ≡ h = same-is g h hit in
          (g, without_record c, subst (λ (x : Handle). under (with_changed without_record h t) x ≡ Some (without_record c)) (sym one) (changed-own without_record t h c (subst (λ (x : Handle). under t x ≡ Some c) one at)), is)
      by false miss = (g, c, changed-other without_record t g h c at (λ e. not_both (same_handle g h) (is-same g h e) miss), is)

  pub indexed-retire : IsIndexed (with_changed without_record h t) s
  indexed-retire =
      record {
        sound = λ cid used. still-there cid (i.sound cid used);
        complete = λ g c at. (let o = was-there g c at in subst (λ (n : ℕ). contains nat_eq s n ≡ true) o.2 (i.complete g o.0 o.1));
        apart = λ f g a b at at' same. (let x = was-there f a at in let y = was-there g b at' in i.apart f g x.0 y.0 x.1 y.1 (x.2 ∙ same ∙ sym y.2));
        limit = (let few = changed-few without_record t h in let limit = i.limit in omega (arith, few, limit));
      }

-- the same of whatever channel there is
pub indexed-retired : (t : Table OpenChannel) (s : Cids) (h : Handle) → IsIndexed t s → IsIndexed (with_changed without_record h t) s
indexed-retired t s h i = by (under t h) refl
  where
    by : (o : Option OpenChannel) → under t h ≡ o → IsIndexed (with_changed without_record h t) s
    by (Some c) there = indexed-retire t s h c i there
    by None there =
        subst (λ (u : Table OpenChannel). IsIndexed u s)
        (sym (ap (λ (o : Option OpenChannel). let p : Place OpenChannel = record { generation = h.generation; value = option_map without_record o } in cond (is_some o) (slice_set t h.index p) t) there)) i

-- ---- the channel in front

-- a channel was opened
pub front-come : (t : Table OpenChannel) (h : Handle) (ch : OpenChannel) (copy : Option OpenChannel) (front : Option (Handle × OpenChannel)) → IsInFront t front → MayGive t h → IfSome copy (λ c. c ≡ ch) → IsInFront (with_held h ch t) (come h copy front)
front-come t h ch copy (Some e) i may is = held-other t e.0 h ch e.1 may i
front-come t h ch None None i may is = tt
front-come t h ch (Some c) None i may is = held-own t h ch may ∙ ap (λ (x : OpenChannel). Some x) (sym is)

module _ (t new : Table OpenChannel) (h : Handle) (stays : (g : Handle) (c : OpenChannel) → under t g ≡ Some c → (g ≡ h → ⊥) → under new g ≡ Some c) where
  -- the channel of this handle was closed or changed, and the others stay
  front-leave : (front : Option (Handle × OpenChannel)) → IsInFront t front → IsInFront new (leave h front)
  front-leave None i = tt
  front-leave (Some e) i = by (same_handle e.0 h) refl
    where
      by : (b : Bool) → same_handle e.0 h ≡ b → IsInFront new (cond b None (Some e))
      by true hit = tt
      by false miss = stays e.0 e.1 i (λ x. not_both (same_handle e.0 h) (is-same e.0 h x) miss)

pub front-close : (t : Table OpenChannel) (h : Handle) (front : Option (Handle × OpenChannel)) → IsInFront t front → IsInFront (with_freed h t) (leave h front)
front-close t h front i = front-leave t (with_freed h t) h (λ g c at other. freed-other t g h c at other) front i

pub front-change : (f : OpenChannel → OpenChannel) (t : Table OpenChannel) (h : Handle) (front : Option (Handle × OpenChannel)) → IsInFront t front → IsInFront (with_changed f h t) (leave h front)
front-change f t h front i = front-leave t (with_changed f h t) h (λ g c at other. changed-other f t g h c at other) front i
