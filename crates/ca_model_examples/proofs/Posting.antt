-- A post that an event made, and posts that none did.
use Rattle.std.proofs.Common.{◌≡◌, ℕ, zero, suc, List, [], ◌∷◌, Option, Some, None, refl, sym, ap, subst, ◌∙◌, arith}
use Rattle.std.specs.Prelude.{pos, take}
use Rattle.ca_text.specs.Place.{At}
use Rattle.ca_dbr.specs.Elements.{longs}
use Rattle.ca_model.specs.Events.{Event}
use Rattle.ca_model.specs.History.{Added, Entry, Posted}
use Rattle.ca_model.specs.Origins.{ComeFromEvents, IsFrom, IsUnasked, MakesEntry, servers_of}
use Rattle.ca_model.specs.Speech.{Stored}
use Rattle.ca_model.specs.World.{ServerSetting, log_begun}
use Rattle.ca_model_examples.specs.Worlds.{long, temp}
use Rattle.ca_model_examples.specs.Unsafe.{given_temp, one_server, posted, posted_again, posting}
use Rattle.ca_model_examples.proofs.Creations.{only-added}
use Rattle.ca_model_examples.proofs.Lists.{each-at, none-at, one-at}

abbrev post : Entry
post = Posted 0 1 (long 22)

-- ---- the post is of the event

abbrev from-first : ℕ → ℕ → Option ℕ
from-first zero (suc zero) = Some 0
from-first life k = None

first-only : (life k p : ℕ) → from-first life k ≡ Some p → (life ≡ 0) × (k ≡ 1)
first-only zero (suc zero) p is = (refl, refl)
first-only zero zero p is = absurd cc
first-only zero (suc (suc k)) p is = absurd cc
first-only (suc life) k p is = absurd cc

abbrev IsOf : ℕ → ℕ → List Entry → Entry → Type 0
IsOf life k y x = (i : ℕ) × At (servers_of one_server (posting 22 ∷ [])) life i × IsFrom one_server (posting 22 ∷ []) i k (take k y) x (from-first life k)

pub posted-once : ComeFromEvents one_server (posting 22 ∷ []) (posted ∷ [])
posted-once = record {
  origin = from-first;
  each = λ life k y x at there un.
      let o = one-at posted life y at in
      subst (λ (n : ℕ). IsOf n k y x) (sym o.0)
      (subst (λ (z : List Entry). IsOf 0 k z x) (sym o.1)
      (each-at (λ (i : ℕ) (e : Entry). IsUnasked e → IsOf 0 i posted e) posted (
        (λ asks. (0, refl, (given_temp, refl, refl))),
        ((λ asks. (0, refl, (posting 22, refl, (refl, (temp, (0, refl), refl, only-added (Added 0 temp ∷ []) 0 refl), refl, refl)))), tt),
      ) k x (subst (λ (z : List Entry). At z k x) o.1 there) un));
  own = λ l m k j p a b. (let x = first-only l k p a in let y = first-only m j p b in (x.0 ∙ sym y.0, x.1 ∙ sym y.1));
  in_order = λ l k j a b y at lt within of_k of_j. absurd (let x = (first-only l k a of_k).1 in let z = (first-only l j b of_j).1 in omega (arith, lt, x, z));
}

-- ---- no event makes it

-- it is not among what the server was given
not-given : (es : List Event) (i k : ℕ) (y : List Entry) → IsFrom one_server es i (suc k) y post None → ⊥
not-given es i k y (given, at, there) =
    let is : given ≡ given_temp = (one-at given_temp i given at).1 in
    none-at k post (subst (λ (g : ServerSetting). At (log_begun g) (suc k) post) is there)

pub unposted : ComeFromEvents one_server [] (posted ∷ []) → ⊥
unposted h = (let b = h.each 0 1 posted post refl refl tt in go b.0 (h.origin 0 1) b.2)
  where
    go : (i : ℕ) (o : Option ℕ) → IsFrom one_server [] i 1 (take 1 posted) post o → ⊥
    go i (Some p) (e, at, makes) = none-at p e at
    go i None given = not-given [] i 0 (take 1 posted) given

not-23 : longs (pos 22 ∷ []) ≡ longs (pos 23 ∷ []) → ⊥
not-23 is = cc

makes-22 : (i : ℕ) (y : List Entry) → MakesEntry i y (posting 23) post → ⊥
makes-22 i y makes = not-23 (ap (λ (v : Stored). v.value) makes.3)

from-23 : (i : ℕ) (y : List Entry) (o : Option ℕ) → IsFrom one_server (posting 23 ∷ []) i 1 y post o → ⊥
from-23 i y (Some p) (e, at, makes) = makes-22 i y (subst (λ (x : Event). MakesEntry i y x post) (one-at (posting 23) p e at).1 makes)
from-23 i y None given = not-given (posting 23 ∷ []) i 0 y given

pub another-post : ComeFromEvents one_server (posting 23 ∷ []) (posted ∷ []) → ⊥
another-post h = (let b = h.each 0 1 posted post refl refl tt in from-23 b.0 (take 1 posted) (h.origin 0 1) b.2)

-- ---- one event makes one post

pub posted-again : ComeFromEvents one_server (posting 22 ∷ []) (posted_again ∷ []) → ⊥
posted-again h =
    let a = h.each 0 1 posted_again post refl refl tt in
    let b = h.each 0 2 posted_again post refl refl tt in
    let e = (h.own 0 0 1 2 0 (first a.0 0 (take 1 posted_again) (h.origin 0 1) a.2) (first b.0 1 (take 2 posted_again) (h.origin 0 2) b.2)).1 in
    omega (arith, e)
  where
    first : (i k : ℕ) (y : List Entry) (o : Option ℕ) → IsFrom one_server (posting 22 ∷ []) i (suc k) y post o → o ≡ Some 0
    first i k y (Some p) (e, at, makes) = ap (λ (n : ℕ). Some n) (one-at (posting 22) p e at).0
    first i k y None given = absurd (not-given (posting 22 ∷ []) i k y given)
