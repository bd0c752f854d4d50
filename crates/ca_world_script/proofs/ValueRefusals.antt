-- What refuses a line that has values.
use Rattle.std.proofs.Common.{◌≡◌, ◌<◌, ℕ, List, ◌∷◌, length, refl, sym, ap, ◌∙◌, subst}
use Rattle.ca_text.specs.declared.refusal.Refusal.{Refusal}
use Rattle.ca_dbr.specs.Elements.{Elements, base_of}
use Rattle.ca_dbr.specs.Types.{base_at, base_number}
use Rattle.ca_dbr.specs.declared.data_type.BaseType.{BaseType}
use Rattle.ca_dbr.specs.declared.data_type.BaseType.TheVariants as base
use Rattle.ca_model.specs.Events.{Event}
use Rattle.ca_model.specs.Events as event
use Rattle.ca_script.specs.Grammar.{IsNumber, Refuses}
use Rattle.ca_script.specs.Lines.{AreElements}
use Rattle.ca_script.proofs.Refusals.{refuses-whole}
use Rattle.ca_world_script.specs.Events.{IsMask, SaysPost, SaysWritten}
use Rattle.ca_world_script.specs.Types.{Added, HasType}
use Rattle.ca_model.specs.World.{ServerSetting}
use Rattle.ca_world_script.proofs.Same.{one-number}

-- the word of a number
abbrev pub Heads : List (List ℕ) → List (List ℕ) → ℕ → Type 0
Heads words rest n = (w : List ℕ) × (words ≡ w ∷ rest) × IsNumber w n

-- ---- types by their numbers and words

number-at : (b : BaseType) → base_at (base_number b) ≡ b
number-at base.String = refl
number-at base.Int = refl
number-at base.Float = refl
number-at base.Enum = refl
number-at base.Char = refl
number-at base.Long = refl
number-at base.Double = refl

same-number : (a b : BaseType) → base_number a ≡ base_number b → a ≡ b
same-number a b h = sym (number-at a) ∙ ap (λ (n : ℕ). base_at n) h ∙ number-at b

-- ---- writes

written-parts : (words a b c : List (List ℕ)) (client channel n : ℕ) → Heads words a client → Heads a b channel → Heads b c n → (r : ℕ × ℕ × Elements) → (h : SaysWritten words r) → (base_number (base_of r.2) ≡ n) × AreElements c r.2
written-parts words a b c client channel n first second third r h =
    let p : words ≡ first.0 ∷ a = first.1 in
    let q : a ≡ second.0 ∷ b = second.1 in
    let s : b ≡ third.0 ∷ c = third.1 in
    let kind : h.third ≡ third.0 = cc (h.are) in
    let values : h.values ≡ c = cc (h.are) in
    (one-number h.third third.0 (base_number (base_of r.2)) n kind h.kind third.2, subst (λ (ws : List (List ℕ)). AreElements ws r.2) values h.reads)

-- no type has this number
pub written-untyped : (words a b c : List (List ℕ)) (client channel n : ℕ) (e : Refusal) → Heads words a client → Heads a b channel → Heads b c n → ((t : BaseType) → base_number t ≡ n → ⊥) → (r : ℕ × ℕ × Elements) → SaysWritten words r → ⊥
written-untyped words a b c client channel n e first second third nay r h = nay (base_of r.2) (written-parts words a b c client channel n first second third r h).0

-- the words left are no value of its type
pub written-unread : (words a b c : List (List ℕ)) (client channel n : ℕ) (t : BaseType) (e : Refusal) → Heads words a client → Heads a b channel → Heads b c n → base_number t ≡ n → Refuses (λ (v : Elements). (base_of v ≡ t) × AreElements c v) e → Refuses (SaysWritten words) e
written-unread words a b c client channel n t e first second third is nay =
    refuses-whole (λ (v : Elements). (base_of v ≡ t) × AreElements c v) (SaysWritten words) e
    (λ (r : ℕ × ℕ × Elements) (h : SaysWritten words r).
    let parts = written-parts words a b c client channel n first second third r h in
    (r.2, (same-number (base_of r.2) t (parts.0 ∙ sym is), parts.1)))
    nay

-- ---- posts

record PostParts (words rest : List (List ℕ)) (name : List ℕ) (server mask : ℕ) (servers : List ServerSetting) (added : Added) : Type 0 where
  value : Elements
  bits : IsMask mask
  typed : HasType servers added server name (base_of value)
  reads : AreElements rest value

post-parts : (words a b c : List (List ℕ)) (name : List ℕ) (server mask : ℕ) (servers : List ServerSetting) (added : Added) (x : Event) → Heads words a server → a ≡ name ∷ b → Heads b c mask → SaysPost servers added words x → PostParts words c name server mask servers added
post-parts words a b c name server mask servers added x first second third h =
    let p : words ≡ first.0 ∷ a = first.1 in
    let s : b ≡ third.0 ∷ c = third.1 in
    let of : h.first ≡ first.0 = cc (h.are) in
    let named : h.name ≡ name = cc (h.are) in
    let bits : h.third ≡ third.0 = cc (h.are) in
    let values : h.values ≡ c = cc (h.are) in
    let at : h.server ≡ server = one-number h.first first.0 h.server server of h.of first.2 in
    let mask : h.mask ≡ mask = one-number h.third third.0 h.mask mask bits h.bits third.2 in
    record {
      value = h.value;
      bits = subst (λ (n : ℕ). IsMask n) mask h.selects;
      typed = subst (λ (p : ℕ × List ℕ). HasType servers added p.0 p.1 (base_of h.value)) (λ i. (at i, named i)) h.typed;
      reads = subst (λ (ws : List (List ℕ)). AreElements ws h.value) values h.reads;
    }

pub post-masked : (words a b c : List (List ℕ)) (name : List ℕ) (server mask : ℕ) (servers : List ServerSetting) (added : Added) → Heads words a server → a ≡ name ∷ b → Heads b c mask → (IsMask mask → ⊥) → (x : Event) → SaysPost servers added words x → ⊥
post-masked words a b c name server mask servers added first second third nay x h = nay (post-parts words a b c name server mask servers added x first second third h).bits

pub post-untyped : (words a b c : List (List ℕ)) (name : List ℕ) (server mask : ℕ) (servers : List ServerSetting) (added : Added) (e : Refusal) → Heads words a server → a ≡ name ∷ b → Heads b c mask → Refuses (HasType servers added server name) e → Refuses (SaysPost servers added words) e
post-untyped words a b c name server mask servers added e first second third nay =
    refuses-whole (HasType servers added server name) (SaysPost servers added words) e
    (λ (x : Event) (h : SaysPost servers added words x).
    let parts = post-parts words a b c name server mask servers added x first second third h in
    (base_of parts.value, parts.typed))
    nay

pub post-unread : (words a b c : List (List ℕ)) (name : List ℕ) (server mask : ℕ) (servers : List ServerSetting) (added : Added) (t : BaseType) (e : Refusal) → Heads words a server → a ≡ name ∷ b → Heads b c mask → ((u : BaseType) → HasType servers added server name u → u ≡ t) → Refuses (λ (v : Elements). (base_of v ≡ t) × AreElements c v) e → Refuses (SaysPost servers added words) e
post-unread words a b c name server mask servers added t e first second third only nay =
    refuses-whole (λ (v : Elements). (base_of v ≡ t) × AreElements c v) (SaysPost servers added words) e
    (λ (x : Event) (h : SaysPost servers added words x).
    let parts = post-parts words a b c name server mask servers added x first second third h in
    (parts.value, (only (base_of parts.value) parts.typed, parts.reads)))
    nay

-- the words that were read are this post
pub post-said : (words a b c : List (List ℕ)) (name items : List ℕ) (server mask bits : ℕ) (servers : List ServerSetting) (added : Added) (t : BaseType) (value : Elements) → Heads words a server → (a ≡ name ∷ b) × (0 < length name) → Heads b c mask → (bits ≡ mask) × IsMask mask → HasType servers added server name t → base_of value ≡ t → AreElements c value → items ≡ name → SaysPost servers added words (event.Post server items value bits)
post-said words a b c name items server mask bits servers added t value first second third selects typed is reads same = record {
  first = first.0;
  name = name;
  third = third.0;
  values = c;
  server = server;
  mask = mask;
  value = value;
  are = first.1 ∙ ap (λ (ws : List (List ℕ)). first.0 ∷ ws) (second.0 ∙ ap (λ (ws : List (List ℕ)). name ∷ ws) third.1);
  of = first.2;
  some = second.1;
  bits = third.2;
  selects = selects.1;
  typed = subst (λ (u : BaseType). HasType servers added server name u) (sym is) typed;
  reads = reads;
  is = (λ i. event.Post server (same i) value (selects.0 i));
}
