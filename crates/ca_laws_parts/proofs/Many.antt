-- Many messages are sent one after another, and some of them give ids of one kind
-- to what is in a table.
use Rattle.std.proofs.Common.{◌≡◌, ℕ, suc, Bool, false, ◌||◌, List, [], ◌∷◌, ◌++◌, length, Some, refl, sym, ap, ◌∙◌, subst, arith}
use Rattle.std.specs.Prelude.{map}
use Rattle.std.proofs.lemmas.List.{append-nil, append_assoc}
use Rattle.ca_text.specs.Place.{At}
use Rattle.ca_text.proofs.Places.{At-last}
use Rattle.ca_arena.specs.declared.handle.Handle.{Handle}
use Rattle.ca_ids.specs.Table.{Table, same_handle, under}
use Rattle.ca_ids.specs.Wire.{wire_of}
use Rattle.ca_model.specs.Speech.{Id, Gives}
use Rattle.ca_model.specs.History.{Intent, Sent, Circuit}
use Rattle.ca_model.specs.Channels.{Suits, named}
use Rattle.ca_laws_parts.specs.Flows.{Concerns, Flows, IsPending, MaySend, MaySendAll, MeansOwn, with_all_sent, with_sent}
use Rattle.ca_laws_parts.specs.Held.{HoldsIdsBy}
use Rattle.ca_laws_parts.proofs.Flows.{flows-sent}
use Rattle.ca_model.proofs.Handles.{same-not}
use Rattle.ca_laws_parts.proofs.Held.{ids-away, ids-named, ids-sent-by}
use Rattle.ca_laws_parts.proofs.Marks.{marked}
use Rattle.ca_laws_parts.proofs.Requests.{given-new}
use Rattle.ca_model.proofs.Tables.{AreApart}

-- what holds after the first message and the others holds after all
pub all-from-first : (P : Circuit → Type 0) (c : Circuit) (s : Sent) (ss : List Sent) → P (with_all_sent ss (with_sent s c)) → P (with_all_sent (s ∷ ss) c)
all-from-first P c s ss h = subst (λ (l : List Sent). P (record c { up = l })) (append_assoc c.up (s ∷ []) ss) h

pub none-sent : (P : Circuit → Type 0) (c : Circuit) → P c → P (with_all_sent [] c)
none-sent P c h = subst (λ (l : List Sent). P (record c { up = l })) (sym (append-nil c.up)) h

pub flows-all-sent : (Awaits : ℕ → Type 0) (ss : List Sent) (c : Circuit) → MaySendAll Awaits c ss → Flows Awaits c → Flows Awaits (with_all_sent ss c)
flows-all-sent Awaits [] c may f = none-sent (Flows Awaits) c f
flows-all-sent Awaits (s ∷ ss) c may f = all-from-first (Flows Awaits) c s ss (flows-all-sent Awaits ss (with_sent s c) may.1 (flows-sent Awaits c s may.0 f))

-- The message gives the id of this handle, and no other; it concerns no other; and it is about what
-- is meant by the handle.
pub record Names (kind : ℕ → Id) (meant : Handle → Intent) (s : Sent) (q : Handle) : Type 0 where
  pub suits : Suits s.intent s.message
  pub gives : Gives s.message (kind (wire_of q))
  pub gives_only : (id : Id) → Gives s.message id → id ≡ kind (wire_of q)
  pub concerns_only : (c : Circuit) (id : Id) → Concerns (c.up ++ s ∷ []) (length c.up) id → id ≡ kind (wire_of q)
  pub number : ℕ
  pub is : named (kind (wire_of q)) s.intent ≡ Some number
  pub meant_is : named (kind (wire_of q)) (meant q) ≡ Some number

module _ {T : Type 0} (kind : ℕ → Id) (meant : Handle → Intent) (Awaits : ℕ → Type 0) where
  -- messages that give and concern no id of this kind
  pub ids-all-sent : (here : Handle → T → Bool) (t : Table T) (ss : List Sent) (c : Circuit)
      → ((i : ℕ) (s : Sent) → At ss i s → ((n : ℕ) → Gives s.message (kind n) → ⊥) × ((d : Circuit) (n : ℕ) → Concerns (d.up ++ s ∷ []) (length d.up) (kind n) → ⊥))
      → HoldsIdsBy Awaits kind here meant t c → HoldsIdsBy Awaits kind here meant t (with_all_sent ss c)
  ids-all-sent here t [] c none h = none-sent (HoldsIdsBy Awaits kind here meant t) c h
  ids-all-sent here t (s ∷ ss) c none h =
      all-from-first (HoldsIdsBy Awaits kind here meant t) c s ss
      (ids-all-sent here t ss (with_sent s c) (λ i r at. none (suc i) r at)
      (ids-sent-by kind meant Awaits here t c s (none 0 s refl).0 (λ n concerns. absurd ((none 0 s refl).1 c n concerns)) h))

  module _ (one : (m n : ℕ) → kind m ≡ kind n → m ≡ n) (t : Table T) (add : Handle × T → Sent) where
    pub may-name : (here : Handle → T → Bool) (c : Circuit) (e : Handle × T) → Names kind meant (add e) e.0 → under t e.0 ≡ Some e.1 → here e.0 e.1 ≡ false → HoldsIdsBy Awaits kind here meant t c → MaySend Awaits c (add e)
    may-name here c e n is away h = record {
      suits = n.suits;
      fresh = λ p id given pending. ids-away kind meant Awaits here t c e.0 e.1 is away h p (subst (λ (y : Id). IsPending Awaits c p y) (n.gives_only id given) pending);
      means = λ id concerns.
          subst (λ (y : Id). MeansOwn (c.up ++ add e ∷ []) (length c.up) y) (sym (n.concerns_only c id concerns))
          (length c.up, n.number, add e, given-new c (add e) (kind (wire_of e.0)) n.number n.gives n.is, omega arith, At-last c.up (add e), n.is);
    }

    -- Messages give the ids of these, which do not have them here yet, one after another.
    pub ids-all-named : (es : List (Handle × T)) (here : Handle → T → Bool) (c : Circuit) → AreApart es
        → ((i : ℕ) (e : Handle × T) → At es i e → Names kind meant (add e) e.0 × (under t e.0 ≡ Some e.1) × (here e.0 e.1 ≡ false))
        → HoldsIdsBy Awaits kind here meant t c
        → MaySendAll Awaits c (map add es) × HoldsIdsBy Awaits kind (marked here es) meant t (with_all_sent (map add es) c)
    ids-all-named [] here c apart each h = (tt, none-sent (HoldsIdsBy Awaits kind here meant t) c h)
    ids-all-named (e ∷ es) here c apart each h =
        let first = each 0 e refl in
        let n = first.0 in
        let now : Handle → T → Bool = λ (g : Handle) (v : T). here g v || same_handle g e.0 in
        let after : HoldsIdsBy Awaits kind now meant t (with_sent (add e) c) =
        ids-named kind meant Awaits here t c e.0 e.1 (add e) n.number first.1 n.gives (λ m concerns. sym (one m (wire_of e.0) (n.concerns_only c (kind m) concerns)))
        (λ m given. sym (one m (wire_of e.0) (n.gives_only (kind m) given))) n.is n.meant_is h in
        let rest =
        ids-all-named es now (with_sent (add e) c) apart.1 (λ i f at.
        let was = each (suc i) f at in
        (was.0, was.1, ap (λ (b : Bool). b || same_handle f.0 e.0) was.2 ∙ same-not f.0 e.0 (apart.0 i f at))) after in (
          (may-name here c e n first.1 first.2 h, rest.0),
          all-from-first (HoldsIdsBy Awaits kind (marked now es) meant t) c (add e) (map add es) rest.1,
        )
