-- Words that are no elements.
use Rattle.std.proofs.Common.{◌≡◌, ℕ, ◌*◌, ◌<◌, ℤ, Bool, true, false, cond, eqb, List, [], ◌∷◌, length, drop, refl, sym, ◌∙◌, subst, arith, eqb-true}
use Rattle.std.specs.Prelude.{Result, Ok, Err, MatchResult}
use Rattle.std.specs.Str.{IsAscii, IsUtf8}
use Rattle.std.specs.Str.Parse.{AllDigits}
use Rattle.std.proofs.lemmas.Fmt.{IsAscii-from_digits}
use Rattle.std.proofs.lemmas.Str.{IsUtf8-from_ascii}
use Rattle.std.proofs.lemmas.Str.Ascii.{IsAscii-cons, IsAscii-nil}
use Rattle.hex.specs.Hex.{decode_sized}
use Rattle.hex.specs.declared.error.FromHexError.{FromHexError}
use Rattle.hex.proofs.HexLemmas.{decode_of-ok, decode_sized-twice}
use Rattle.ca_text.specs.declared.refusal.Refusal.{Refusal}
use Rattle.ca_text.specs.declared.refusal.Refusal.TheVariants.{BadText}
use Rattle.ca_dbr.specs.Elements.{bytes_4, bytes_8}
use Rattle.ca_script.specs.Grammar.{Refuses}
use Rattle.ca_script.specs.Lines.{AreEach, IsDouble, IsFloat, IsHex, IsWhole}

sign-is-ascii : (minus plus : Bool) (c : ℕ) (cs : List ℕ) → eqb c 45 ≡ minus → eqb c 43 ≡ plus → AllDigits 10 (cond minus cs (drop (cond plus 1 0) (c ∷ cs))) → IsAscii (c ∷ cs)
sign-is-ascii true plus c cs m p h = IsAscii-cons c cs (omega (arith, eqb-true c 45 m)) (IsAscii-from_digits cs h)
sign-is-ascii false true c cs m p h = IsAscii-cons c cs (omega (arith, eqb-true c 43 p)) (IsAscii-from_digits cs h)
sign-is-ascii false false c cs m p h = IsAscii-from_digits (c ∷ cs) h

-- a whole number is text
pub whole-is-text : (word : List ℕ) (z : ℤ) → IsWhole word z → IsUtf8 word
whole-is-text [] z h = IsUtf8-from_ascii [] IsAscii-nil
whole-is-text (c ∷ cs) z h = IsUtf8-from_ascii (c ∷ cs) (sign-is-ascii (eqb c 45) (eqb c 43) c cs refl refl h.digits.1)

-- two digits are a byte
pub hex-length : (word bytes : List ℕ) → IsHex word bytes → length word ≡ 2 * length bytes
hex-length word bytes h = (decode_of-ok word bytes h).2

-- what does not decode into room for n bytes is no n bytes
pub no-hex : (word : List ℕ) (n : ℕ) (out : List ℕ) (r : Result (Unit {0}) FromHexError) (e : FromHexError) → MatchResult (decode_sized word n) (λ bytes. (r ≡ Ok tt) × (out ≡ bytes)) (λ x. r ≡ Err x) → r ≡ Err e → (b : List ℕ) → length b ≡ n → IsHex word b → ⊥
no-hex word n out r e gives is b len hex =
    let twice : length word ≡ 2 * length b = hex-length word b hex in
    let decoded : decode_sized word n ≡ Ok b = decode_sized-twice word n (omega (arith, len)) ∙ hex in
    let read : (r ≡ Ok tt) × (out ≡ b) = subst (λ (d : Result (List ℕ) FromHexError). MatchResult d (λ bytes. (r ≡ Ok tt) × (out ≡ bytes)) (λ x. r ≡ Err x)) decoded gives in
    let both : ◌≡◌ {A = Result (Unit {0}) FromHexError} (Ok tt) (Err e) = sym read.0 ∙ is in
    cc

-- what is not four bytes is no float, and what is not eight no double
pub no-float : (word : List ℕ) → ((b : List ℕ) → length b ≡ 4 → IsHex word b → ⊥) → (n : ℕ) → IsFloat word n → ⊥
unfolding bytes_4
no-float word nay n h = nay (bytes_4 n) refl h

pub no-double : (word : List ℕ) → ((b : List ℕ) → length b ≡ 8 → IsHex word b → ⊥) → (n : ℕ) → IsDouble word n → ⊥
unfolding bytes_8
no-double word nay n h = nay (bytes_8 n) refl h

first-is : {A : Type 0} (Is : List ℕ → A → Type 0) (w : List ℕ) (ws : List (List ℕ)) (ys : List A) → AreEach Is (w ∷ ws) ys → ((x : A) → Is w x → ⊥) → ⊥
first-is Is w ws [] h nay = h
first-is Is w ws (y ∷ ys) h nay = nay y h.1

-- the first word left is no element
pub none-first : {A : Type 0} (Is : List ℕ → A → Type 0) (all words rest : List (List ℕ)) (w : List ℕ) (e : Refusal) → words ≡ w ∷ rest → ((xs : List A) → AreEach Is all xs → (ys : List A) × AreEach Is words ys) → (e ≡ BadText) × ((x : A) → Is w x → ⊥) → Refuses (AreEach Is all) e
none-first {A} Is all words rest w e first left nay =
    subst (λ (r : Refusal). Refuses (AreEach {A = A} Is all) r) (sym nay.0) (λ (xs : List A) (h : AreEach {A = A} Is all xs).
    let here : (ys : List A) × AreEach Is words ys = left xs h in
    first-is Is w rest here.0 (subst (λ (ws : List (List ℕ)). AreEach {A = A} Is ws here.0) first here.1) nay.1)

word-is-some : {A : Type 0} (Is : List ℕ → A → Type 0) (words : List (List ℕ)) (ys : List A) → (words ≡ [] → ⊥) → AreEach Is words ys → ((w : List ℕ) (ws : List (List ℕ)) → words ≡ w ∷ ws → 0 < length w → ⊥) → ⊥
word-is-some Is [] ys some h nay = some refl
word-is-some Is (w ∷ ws) [] some h nay = h
word-is-some Is (w ∷ ws) (y ∷ ys) some h nay = nay w ws refl h.0

-- the first word left is empty
pub none-some : {A : Type 0} (Is : List ℕ → A → Type 0) (all words : List (List ℕ)) (e : Refusal) → (words ≡ [] → ⊥) → ((xs : List A) → AreEach Is all xs → (ys : List A) × AreEach Is words ys) → (e ≡ BadText) × ((w : List ℕ) (ws : List (List ℕ)) → words ≡ w ∷ ws → 0 < length w → ⊥) → Refuses (AreEach Is all) e
none-some {A} Is all words e some left nay =
    subst (λ (r : Refusal). Refuses (AreEach {A = A} Is all) r) (sym nay.0) (λ (xs : List A) (h : AreEach {A = A} Is all xs).
    let here : (ys : List A) × AreEach Is words ys = left xs h in
    word-is-some Is words here.0 some here.1 nay.1)
