-- Which lines of a script's head are refused.
use Rattle.std.proofs.Common.{◌≡◌, ◌<◌, ℕ, Bool, true, false, List, [], ◌∷◌, length, refl, sym, ap, ◌∙◌, subst, arith}
use Rattle.std.specs.Prelude.{Err}
use Rattle.ca_text.specs.declared.refusal.Refusal.{Refusal}
use Rattle.ca_text.specs.declared.refusal.Refusal.TheVariants.{BadCount, NameLength, OutOfMemory}
use Rattle.ca_text.specs.Name.{IsName}
use Rattle.ca_text.specs.Limits.{record_name_limit}
use Rattle.ca_dbr.specs.declared.data_type.BaseType.{BaseType}
use Rattle.ca_dbr.specs.declared.data_type.BaseType.TheVariants as base
use Rattle.ca_dbr.specs.Elements.{Elements, strings, ints, floats, enums, chars, longs, doubles, displayed, base_of, count_of}
use Rattle.ca_records.specs.Record.{HoldsValue, RecordState, unset}
use Rattle.ca_records.specs.Records.{Defines}
use Rattle.ca_script.specs.Grammar.{AreNumbers, IsNumber, parted}
use Rattle.ca_script.specs.Lines.{AreEach, AreElements, IsAddress, IsChar, IsDouble, IsEnum, IsFloat, IsInt, IsLong, IsString, SaysRecord, SaysServer, slow_word, type_word}
use Rattle.ca_script.proofs.Refusals.{NoWord}
use Rattle.ca_script.proofs.Sayings.{behind-first, no-numbers}

-- a word is one number at most
one-value : (w v : List ℕ) (m n : ℕ) → w ≡ v → IsNumber w m → IsNumber v n → m ≡ n
one-value w v m n same a b =
    let there : IsNumber v m = subst (λ (x : List ℕ). IsNumber x m) same a in
    sym there.value ∙ b.value

-- the next piece is no number below 256
abbrev pub NoOctet : List (List ℕ) → Type 0
NoOctet pieces = (w : List ℕ) (ws : List (List ℕ)) (n : ℕ) → pieces ≡ w ∷ ws → IsNumber w n → n < 256 → ⊥

no-octet : (pieces : List (List ℕ)) → NoOctet pieces → (n : ℕ) (ns : List ℕ) → AreNumbers pieces (n ∷ ns) → n < 256 → ⊥
no-octet [] nay n ns h small = absurd h
no-octet (w ∷ ws) nay n ns h small = nay w ws n refl h.0 small

address-numbers : (text : List ℕ) (pieces : List (List ℕ)) (address : ℕ) → pieces ≡ parted 46 text → (h : IsAddress text address) → AreNumbers pieces (h.a ∷ h.b ∷ h.c ∷ h.d ∷ [])
address-numbers text pieces address is h = subst (λ (ps : List (List ℕ)). AreNumbers ps (h.a ∷ h.b ∷ h.c ∷ h.d ∷ [])) (sym is) h.are

-- no address, where the first piece is no number below 256
pub no-first-octet : (text : List ℕ) (pieces : List (List ℕ)) → pieces ≡ parted 46 text → NoOctet pieces → (address : ℕ) → IsAddress text address → ⊥
no-first-octet text pieces is nay address h = no-octet pieces nay h.a (h.b ∷ h.c ∷ h.d ∷ []) (address-numbers text pieces address is h) h.bytes.0

-- the numbers after the first, the second, the third and the fourth
behind-a : (text : List ℕ) (p q : List (List ℕ)) (v : List ℕ) (address : ℕ) → p ≡ parted 46 text → p ≡ v ∷ q → (h : IsAddress text address) → AreNumbers q (h.b ∷ h.c ∷ h.d ∷ [])
behind-a text p q v address is first h = behind-first p v q first h.a (h.b ∷ h.c ∷ h.d ∷ []) (address-numbers text p address is h)

behind-b : (text : List ℕ) (p q r : List (List ℕ)) (v w : List ℕ) (address : ℕ) → p ≡ parted 46 text → p ≡ v ∷ q → q ≡ w ∷ r → (h : IsAddress text address) → AreNumbers r (h.c ∷ h.d ∷ [])
behind-b text p q r v w address is first second h = behind-first q w r second h.b (h.c ∷ h.d ∷ []) (behind-a text p q v address is first h)

behind-c : (text : List ℕ) (p q r s : List (List ℕ)) (v w x : List ℕ) (address : ℕ) → p ≡ parted 46 text → p ≡ v ∷ q → q ≡ w ∷ r → r ≡ x ∷ s → (h : IsAddress text address) → AreNumbers s (h.d ∷ [])
behind-c text p q r s v w x address is first second third h = behind-first r x s third h.c (h.d ∷ []) (behind-b text p q r v w address is first second h)

behind-d : (text : List ℕ) (p q r s t : List (List ℕ)) (v w x y : List ℕ) (address : ℕ) → p ≡ parted 46 text → p ≡ v ∷ q → q ≡ w ∷ r → r ≡ x ∷ s → s ≡ y ∷ t → (h : IsAddress text address) → AreNumbers t []
behind-d text p q r s t v w x y address is first second third fourth h = behind-first s y t fourth h.d [] (behind-c text p q r s v w x address is first second third h)

-- nor where the second is none
pub no-second-octet : (text : List ℕ) (p q : List (List ℕ)) (v : List ℕ) → p ≡ parted 46 text → p ≡ v ∷ q → NoOctet q → (address : ℕ) → IsAddress text address → ⊥
no-second-octet text p q v is first nay address h = no-octet q nay h.b (h.c ∷ h.d ∷ []) (behind-a text p q v address is first h) h.bytes.1

-- nor where the third is none
pub no-third-octet : (text : List ℕ) (p q r : List (List ℕ)) (v w : List ℕ) → p ≡ parted 46 text → p ≡ v ∷ q → q ≡ w ∷ r → NoOctet r → (address : ℕ) → IsAddress text address → ⊥
no-third-octet text p q r v w is first second nay address h = no-octet r nay h.c (h.d ∷ []) (behind-b text p q r v w address is first second h) h.bytes.2

-- nor where the fourth is none
pub no-last-octet : (text : List ℕ) (p q r s : List (List ℕ)) (v w x : List ℕ) → p ≡ parted 46 text → p ≡ v ∷ q → q ≡ w ∷ r → r ≡ x ∷ s → NoOctet s → (address : ℕ) → IsAddress text address → ⊥
no-last-octet text p q r s v w x is first second third nay address h = no-octet s nay h.d [] (behind-c text p q r s v w x address is first second third h) h.bytes.3

-- nor where a fifth is after them
pub address-goes-on : (text : List ℕ) (p q r s t : List (List ℕ)) (v w x y : List ℕ) → p ≡ parted 46 text → p ≡ v ∷ q → q ≡ w ∷ r → r ≡ x ∷ s → s ≡ y ∷ t → (t ≡ [] → ⊥) → (address : ℕ) → IsAddress text address → ⊥
address-goes-on text p q r s t v w x y is first second third fourth nay address h = nay (no-numbers t (behind-d text p q r s t v w x y address is first second third fourth h))

-- a text of two pieces is not empty
two-pieces : (s : ℕ) (text a b : List ℕ) → parted s text ≡ a ∷ b ∷ [] → 0 < length text
unfolding parted
two-pieces s [] a b h = absurd (omega (arith, ap (λ (ps : List (List ℕ)). length ps) h))
two-pieces s (x ∷ xs) a b h = omega arith

address-is-some : (text : List ℕ) (address : ℕ) → IsAddress text address → 0 < length text
unfolding parted
address-is-some [] address h = absurd h.are.1
address-is-some (x ∷ xs) address h = omega arith

-- no address and port, where there is no word
pub no-place : (words : List (List ℕ)) → NoWord words → (address port : ℕ) → SaysServer words address port → ⊥
no-place words nay address port h = nay h.word [] h.are (two-pieces 58 h.word h.host h.last h.parts)

server-pieces : (words rest pieces : List (List ℕ)) (word : List ℕ) (address port : ℕ) → words ≡ word ∷ rest → pieces ≡ parted 58 word → (h : SaysServer words address port) → pieces ≡ h.host ∷ h.last ∷ []
server-pieces words rest pieces word address port first is h =
    let are : words ≡ h.word ∷ [] = h.are in
    let same : word ≡ h.word = cc in
    is ∙ ap (λ (w : List ℕ). parted 58 w) same ∙ h.parts

-- nor where nothing is before the colon
pub no-server-host : (words rest pieces : List (List ℕ)) (word : List ℕ) → words ≡ word ∷ rest → pieces ≡ parted 58 word → NoWord pieces → (address port : ℕ) → SaysServer words address port → ⊥
no-server-host words rest pieces word first is nay address port h =
    nay h.host (h.last ∷ []) (server-pieces words rest pieces word address port first is h) (address-is-some h.host address h.at)

-- nor where what is there is no address
pub no-address : (words rest pieces mid : List (List ℕ)) (word host : List ℕ) → words ≡ word ∷ rest → pieces ≡ parted 58 word → pieces ≡ host ∷ mid → ((address : ℕ) → IsAddress host address → ⊥) → (address port : ℕ) → SaysServer words address port → ⊥
no-address words rest pieces mid word host first is second nay address port h =
    let are : pieces ≡ h.host ∷ h.last ∷ [] = server-pieces words rest pieces word address port first is h in
    let same : h.host ≡ host = cc in
    nay address (subst (λ (x : List ℕ). IsAddress x address) same h.at)

type-is-some : (b : BaseType) → 0 < length (type_word b)
type-is-some base.String = omega arith
type-is-some base.Int = omega arith
type-is-some base.Float = omega arith
type-is-some base.Enum = omega arith
type-is-some base.Char = omega arith
type-is-some base.Long = omega arith
type-is-some base.Double = omega arith

slow-is-some : (b : Bool) → 0 < length (slow_word b)
slow-is-some true = omega arith
slow-is-some false = omega arith

-- where a type should stand is no word
pub no-type : (words a : List (List ℕ)) (old : List RecordState) (name : List ℕ) → words ≡ name ∷ a → NoWord a → (new : List RecordState) → SaysRecord words old new → ⊥
no-type words a old name first nay new h =
    let here : a ≡ type_word (base_of h.r.value) ∷ h.number ∷ slow_word h.r.slow ∷ h.values = cc (h.are) in
    nay (type_word (base_of h.r.value)) (h.number ∷ slow_word h.r.slow ∷ h.values) here (type-is-some (base_of h.r.value))

-- where `quick` or `slow` should stand is no word
pub no-pace : (words a b c : List (List ℕ)) (old : List RecordState) (name type count : List ℕ) → words ≡ name ∷ a → a ≡ type ∷ b → b ≡ count ∷ c → NoWord c → (new : List RecordState) → SaysRecord words old new → ⊥
no-pace words a b c old name type count first second third nay new h =
    let here : c ≡ slow_word h.r.slow ∷ h.values = cc (h.are) in
    nay (slow_word h.r.slow) h.values here (slow-is-some h.r.slow)

name-unfit : (words a : List (List ℕ)) (old : List RecordState) (name : List ℕ) → words ≡ name ∷ a → (IsName record_name_limit name → ⊥) → (new : List RecordState) → SaysRecord words old new → ⊥
name-unfit words a old name first nay new h =
    let same : h.r.name ≡ name = cc (h.are) in
    nay (subst (λ (x : List ℕ). IsName record_name_limit x) same h.is.name)

each-length : {A : Type 0} (Is : List ℕ → A → Type 0) (words : List (List ℕ)) (xs : List A) → AreEach Is words xs → length xs ≡ length words
each-length Is [] [] h = refl
each-length Is [] (x ∷ xs) h = absurd h
each-length Is (w ∷ ws) [] h = absurd h
each-length Is (w ∷ ws) (x ∷ xs) h = omega (arith, each-length Is ws xs h.2)

-- there is an element for each word
count-of-words : (words : List (List ℕ)) (v : Elements) → AreElements words v → count_of v ≡ length words
count-of-words words (strings xs) h = each-length IsString words xs h
count-of-words words (ints xs) h = each-length IsInt words xs h
count-of-words words (floats xs) h = each-length IsFloat words xs h
count-of-words words (enums xs) h = each-length IsEnum words xs h
count-of-words words (chars xs) h = each-length IsChar words xs h
count-of-words words (longs xs) h = each-length IsLong words xs h
count-of-words words (doubles xs) h = each-length IsDouble words xs h
count-of-words words (displayed d e) h = absurd h

same-length : (words : List (List ℕ)) (u v : Elements) → AreElements words u → AreElements words v → count_of u ≡ count_of v
same-length words u v a b = count-of-words words u a ∙ sym (count-of-words words v b)

holds-too : (m n : ℕ) (u v : Elements) → m ≡ n → count_of u ≡ count_of v → HoldsValue m u → HoldsValue n v
holds-too m n u v counts lengths h = record {
  one = omega (arith, lengths, h.one);
  within = omega (arith, lengths, counts, h.within);
  limit = omega (arith, counts, h.limit);
}

value-unfit : (words a b c d : List (List ℕ)) (old : List RecordState) (name type slow : List ℕ) (n m : ℕ) (v : Elements) → words ≡ name ∷ a → a ≡ type ∷ b → (w : List ℕ) × (b ≡ w ∷ c) × IsNumber w n → m ≡ n → c ≡ slow ∷ d → AreElements d v → (HoldsValue m v → ⊥) → (new : List RecordState) → SaysRecord words old new → ⊥
value-unfit words a b c d old name type slow n m v first second read same fourth said nay new h =
    let third : b ≡ read.0 ∷ c = read.1 in
    let number : h.number ≡ read.0 = cc (h.are) in
    let values : h.values ≡ d = cc (h.are) in
    let counts : h.r.count ≡ m = one-value h.number read.0 h.r.count n number h.count read.2 ∙ sym same in
    let here : AreElements d h.r.value = subst (λ (ws : List (List ℕ)). AreElements ws h.r.value) values h.elements in
    nay (holds-too h.r.count m h.r.value v counts (same-length d h.r.value v here said) h.is.value)

-- nothing is said by the words of a record that is not defined, where memory is not the reason
pub record-unfit : (words a b c d : List (List ℕ)) (old after : List RecordState) (name type slow : List ℕ) (n m : ℕ) (pace : Bool) (v : Elements) (e : Refusal) → words ≡ name ∷ a → a ≡ type ∷ b → (w : List ℕ) × (b ≡ w ∷ c) × IsNumber w n → m ≡ n → c ≡ slow ∷ d → AreElements d v → (e ≡ OutOfMemory → ⊥) → Defines old (record { name = name; count = m; slow = pace; value = v; meta = unset }) (Err e) after → (new : List RecordState) → SaysRecord words old new → ⊥
record-unfit words a b c d old after name type slow n m pace v NameLength first second read same fourth said other why = name-unfit words a old name first why.0
record-unfit words a b c d old after name type slow n m pace v BadCount first second read same fourth said other why = value-unfit words a b c d old name type slow n m v first second read same fourth said why.1
record-unfit words a b c d old after name type slow n m pace v OutOfMemory first second read same fourth said other why = absurd (other refl)
record-unfit words a b c d old after name type slow n m pace v _ first second read same fourth said other why = absurd why
