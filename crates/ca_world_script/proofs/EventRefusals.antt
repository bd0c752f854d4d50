-- What refuses the line of an event.
use Rattle.std.proofs.Common.{◌≡◌, ◌<◌, ℕ, Bool, true, false, List, [], ◌∷◌, length, get_or, drop, sym, ap, ◌∙◌, subst, arith}
use Rattle.ca_text.specs.declared.refusal.Refusal.{Refusal}
use Rattle.ca_text.specs.declared.refusal.Refusal.TheVariants.{BadText}
use Rattle.ca_model.specs.Ends.{Address}
use Rattle.ca_model.specs.Events.{Event}
use Rattle.ca_records.specs.Record.{RecordState}
use Rattle.ca_script.specs.Grammar.{AreNumbers, IsNumber, Refuses}
use Rattle.ca_script.specs.Lines.{slow_word, type_word}
use Rattle.ca_dbr.specs.Elements.{base_of}
use Rattle.ca_dbr.specs.declared.data_type.BaseType.{BaseType}
use Rattle.ca_dbr.specs.declared.data_type.BaseType.TheVariants as base
use Rattle.ca_script.proofs.Refusals.{NoWord, says-none}
use Rattle.ca_script.proofs.Sayings.{behind-first, none-first}
use Rattle.ca_world_script.specs.Events.{IsMask, SaysAdd, SaysCut, SaysDatagram, SaysSubscribe, SaysWritten, end_word}
use Rattle.ca_world_script.specs.Lines.{IsAddress}
use Rattle.ca_world_script.proofs.Same.{same-numbers}

end-is-some : (at_client : Bool) → 0 < length (end_word at_client)
end-is-some true = omega arith
end-is-some false = omega arith

-- ---- cuts and datagrams

-- no word for an end
pub cut-unended : (words mid : List (List ℕ)) (w : List ℕ) (e : Refusal) → words ≡ w ∷ mid → (e ≡ BadText) × NoWord mid → Refuses (SaysCut words) e
cut-unended words mid w e first nay =
    says-none (SaysCut words) e nay.0 (λ (x : Event) (h : SaysCut words x).
    nay.1 (end_word h.at_client) [] (ap (λ (xs : List (List ℕ)). drop 1 xs) (sym first ∙ h.are)) (end-is-some h.at_client))

pub datagram-unended : (words : List (List ℕ)) (e : Refusal) → (e ≡ BadText) × NoWord words → Refuses (SaysDatagram words) e
datagram-unended words e nay =
    says-none (SaysDatagram words) e nay.0 (λ (x : Event) (h : SaysDatagram words x).
    nay.1 (end_word h.at_client) (h.number ∷ h.sender ∷ h.digits ∷ []) h.are (end-is-some h.at_client))

-- no word for the bytes
pub datagram-undone : (words a b c : List (List ℕ)) (u v w : List ℕ) (e : Refusal) → words ≡ u ∷ a → a ≡ v ∷ b → b ≡ w ∷ c → (e ≡ BadText) × NoWord c → Refuses (SaysDatagram words) e
datagram-undone words a b c u v w e first second third nay =
    says-none (SaysDatagram words) e nay.0 (λ (x : Event) (h : SaysDatagram words x).
    let left : c ≡ h.digits ∷ [] = cc (h.are) in
    nay.1 h.digits [] left h.some.1)

-- the sender is no address
pub datagram-unsent : (words a b c : List (List ℕ)) (u v w : List ℕ) (e : Refusal) → words ≡ u ∷ a → a ≡ v ∷ b → b ≡ w ∷ c → (e ≡ BadText) × ((a : Address) → IsAddress w a → ⊥) → Refuses (SaysDatagram words) e
datagram-unsent words a b c u v w e first second third nay =
    says-none (SaysDatagram words) e nay.0 (λ (x : Event) (h : SaysDatagram words x).
    let same : h.sender ≡ w = cc (h.are) in
    nay.1 h.from (subst (λ (s : List ℕ). IsAddress s h.from) same h.comes))

-- ---- subscriptions and writes

pub subscribe-uncounted : (words : List (List ℕ)) (e : Refusal) → (e ≡ BadText) × ((w : List ℕ) (ws : List (List ℕ)) (n : ℕ) → words ≡ w ∷ ws → IsNumber w n → ⊥) → Refuses (SaysSubscribe words) e
subscribe-uncounted words e nay =
    says-none (SaysSubscribe words) e nay.0 (λ (x : Event) (h : SaysSubscribe words x).
    none-first words nay.1 h.client (h.channel ∷ h.data_type ∷ h.count ∷ h.mask ∷ []) h.are)

pub subscribe-masked : (words mid : List (List ℕ)) (w : List ℕ) (channel data_type count mask : ℕ) (e : Refusal) → words ≡ w ∷ mid → AreNumbers mid (channel ∷ data_type ∷ count ∷ mask ∷ []) → (e ≡ BadText) × (IsMask mask → ⊥) → Refuses (SaysSubscribe words) e
subscribe-masked words mid w channel data_type count mask e first said nay =
    says-none (SaysSubscribe words) e nay.0 (λ (x : Event) (h : SaysSubscribe words x).
    let theirs = behind-first words w mid first h.client (h.channel ∷ h.data_type ∷ h.count ∷ h.mask ∷ []) h.are in
    let same : h.mask ≡ mask = ap (λ (ns : List ℕ). get_or ns 3 0) (same-numbers mid (h.channel ∷ h.data_type ∷ h.count ∷ h.mask ∷ []) (channel ∷ data_type ∷ count ∷ mask ∷ []) theirs said) in
    nay.1 (subst (λ (n : ℕ). IsMask n) same h.selects))

-- the type of a write is no number
pub written-unnumbered : (words a b : List (List ℕ)) (u v : List ℕ) (e : Refusal) → words ≡ u ∷ a → a ≡ v ∷ b → (e ≡ BadText) × ((w : List ℕ) (ws : List (List ℕ)) (n : ℕ) → b ≡ w ∷ ws → IsNumber w n → ⊥) → Refuses (SaysWritten words) e
written-unnumbered words a b u v e first second nay =
    says-none (SaysWritten words) e nay.0 (λ r (h : SaysWritten words r).
    let left : b ≡ h.third ∷ h.values = cc (h.are) in
    nay.1 h.third h.values _ left h.kind)

-- ---- additions

type-is-some : (b : BaseType) → 0 < length (type_word b)
type-is-some base.String = omega arith
type-is-some base.Int = omega arith
type-is-some base.Float = omega arith
type-is-some base.Enum = omega arith
type-is-some base.Char = omega arith
type-is-some base.Long = omega arith
type-is-some base.Double = omega arith

slow-is-some : (slow : Bool) → 0 < length (slow_word slow)
slow-is-some true = omega arith
slow-is-some false = omega arith

abbrev pub SaysAddition : List (List ℕ) → ℕ × RecordState → Type 0
SaysAddition words p = SaysAdd words p.0 p.1

-- no word for the type
pub addition-untyped : (words a b : List (List ℕ)) (u v : List ℕ) (e : Refusal) → words ≡ u ∷ a → a ≡ v ∷ b → (e ≡ BadText) × NoWord b → Refuses (SaysAddition words) e
addition-untyped words a b u v e first second nay =
    says-none (SaysAddition words) e nay.0 (λ p (h : SaysAdd words p.0 p.1).
    let left : b ≡ type_word (base_of p.1.value) ∷ h.number ∷ slow_word p.1.slow ∷ h.values = cc (h.are) in
    nay.1 (type_word (base_of p.1.value)) (h.number ∷ slow_word p.1.slow ∷ h.values) left (type-is-some (base_of p.1.value)))

-- no word for whether a put takes the record time
pub addition-unpaced : (words a b c d : List (List ℕ)) (u v w x : List ℕ) (e : Refusal) → words ≡ u ∷ a → a ≡ v ∷ b → b ≡ w ∷ c → c ≡ x ∷ d → (e ≡ BadText) × NoWord d → Refuses (SaysAddition words) e
addition-unpaced words a b c d u v w x e first second third fourth nay =
    says-none (SaysAddition words) e nay.0 (λ p (h : SaysAdd words p.0 p.1).
    let left : d ≡ slow_word p.1.slow ∷ h.values = cc (h.are) in
    nay.1 (slow_word p.1.slow) h.values left (slow-is-some p.1.slow))
