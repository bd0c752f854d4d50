-- At most two replies, read off their bytes.
use Rattle.std.proofs.Common.{◌≡◌, ℕ, ◌+◌, ◌<◌, ◌≤◌, List, [], ◌∷◌, ◌++◌, length, drop, refl, sym, ap, ◌∙◌, arith}
use Rattle.std.proofs.lemmas.List.{append-nil, drop_at, length-append}
use Rattle.ca_wire.specs.Fields.{Fields}
use Rattle.ca_wire.specs.Front.{FrontFits}
use Rattle.ca_wire.specs.Message.{IsMessage, spelled, spelling}
use Rattle.ca_wire.proofs.Messages.{spelling-long}
use Rattle.ca_world_data.specs.Replies.{AreFew, AreWithin}
use Rattle.ca_world_data.specs.Updates.{AreGood}

-- what is within a size is within a larger one
pub within-more : (n k : ℕ) (ms : List Fields) → n ≤ k → AreWithin n ms → AreWithin k ms
within-more n k [] le within = tt
within-more n k (a ∷ []) le within = omega (arith, le, within)
within-more n k (a ∷ b ∷ []) le within = (let first = within.0 in omega (arith, le, first), within.1)
within-more n k (a ∷ b ∷ c ∷ ms) le within = absurd within

-- no bytes, no message
pub none-spelled : (ms : List Fields) → length (spelled ms) ≡ 0 → ms ≡ []
none-spelled [] none = refl
none-spelled (m ∷ ms) none =
    let both = length-append (spelling m) (spelled ms) in
    let long = spelling-long m in
    absurd (omega (arith, none, both, long))

-- what is read of bytes that a message begins
abbrev Reads : List ℕ → Fields → Type 0
Reads bytes first = (m : Fields) (rest : List ℕ) → IsMessage m → bytes ≡ spelling m ++ rest → first ≡ m

module _ (n : ℕ) (bytes : List ℕ) where
  -- where bytes are, the first message is at their front, and its room suffices
  pub first-fits : AreFew n bytes → (bytes ≡ [] → ⊥) → FrontFits bytes n
  first-fits few some = go few.ms few.are few.good few.within
    where
      go : (ms : List Fields) → bytes ≡ spelled ms → AreGood ms → AreWithin n ms → FrontFits bytes n
      go [] are good within = absurd (some are)
      go (a ∷ []) are good within = record { m = a; good = good 0 a refl; rest = []; begins = are; fits = within }
      go (a ∷ b ∷ []) are good within = record { m = a; good = good 0 a refl; rest = spelled (b ∷ []); begins = are; fits = within.0 }
      go (a ∷ b ∷ c ∷ ms) are good within = absurd within

  -- after it comes the second, which has no payload
  pub second-fits : AreFew n bytes → (read : ℕ) (first : Fields) → Reads bytes first → read ≡ length (spelling first) → read < length bytes → FrontFits (drop read bytes) 0
  second-fits few read first reads size lt = go few.ms few.are few.good few.within
    where
      behind : (a : Fields) (rest : List ℕ) → IsMessage a → bytes ≡ spelling a ++ rest → drop read bytes ≡ rest
      behind a rest good are =
          let is : read ≡ length (spelling a) = size ∙ ap (λ (x : Fields). length (spelling x)) (reads a rest good are) in
          ap (drop read) are ∙ drop_at (spelling a) rest read (sym is)

      go : (ms : List Fields) → bytes ≡ spelled ms → AreGood ms → AreWithin n ms → FrontFits (drop read bytes) 0
      go [] are good within = (let none : length bytes ≡ 0 = ap (λ (l : List ℕ). length l) are in absurd (omega (arith, none, lt)))
      go (a ∷ []) are good within =
          let is : read ≡ length (spelling a) = size ∙ ap (λ (x : Fields). length (spelling x)) (reads a [] (good 0 a refl) are) in
          let whole : length bytes ≡ length (spelling a) = ap (λ (l : List ℕ). length l) (are ∙ append-nil (spelling a)) in
          absurd (omega (arith, is, whole, lt))
      go (a ∷ b ∷ []) are good within = record {
        m = b;
        good = good 1 b refl;
        rest = [];
        begins = behind a (spelled (b ∷ [])) (good 0 a refl) are;
        fits = (let none : length b.payload ≡ 0 = ap (λ (l : List ℕ). length l) within.1 in omega (arith, none));
      }
      go (a ∷ b ∷ c ∷ ms) are good within = absurd within

  module _ (read : ℕ) (first : Fields) (reads : Reads bytes first) (size : read ≡ length (spelling first)) where
    same-size : (a : Fields) (rest : List ℕ) → IsMessage a → bytes ≡ spelling a ++ rest → read ≡ length (spelling a)
    same-size a rest good are = size ∙ ap (λ (x : Fields). length (spelling x)) (reads a rest good are)

    -- there is no byte after the first: it is all
    pub one-told : (ms : List Fields) → AreGood ms → bytes ≡ spelled ms → 0 < length bytes → length bytes ≤ read → ms ≡ first ∷ []
    one-told [] good are some over = (let none : length bytes ≡ 0 = ap (λ (l : List ℕ). length l) are in absurd (omega (arith, none, some)))
    one-told (a ∷ []) good are some over = ap (λ (x : Fields). x ∷ []) (sym (reads a [] (good 0 a refl) are))
    one-told (a ∷ b ∷ ms) good are some over =
        let is = same-size a (spelled (b ∷ ms)) (good 0 a refl) are in
        let whole : length bytes ≡ length (spelling a) + length (spelled (b ∷ ms)) = ap (λ (l : List ℕ). length l) are ∙ length-append (spelling a) (spelled (b ∷ ms)) in
        let both = length-append (spelling b) (spelled ms) in
        let long = spelling-long b in
        absurd (omega (arith, is, whole, both, long, over))

    -- there is: the second is what is read there
    pub two-told : (second : Fields) → Reads (drop read bytes) second → (ms : List Fields) → AreGood ms → bytes ≡ spelled ms → AreWithin n ms → read < length bytes → ms ≡ first ∷ second ∷ []
    two-told second behind [] good are within lt = (let none : length bytes ≡ 0 = ap (λ (l : List ℕ). length l) are in absurd (omega (arith, none, lt)))
    two-told second behind (a ∷ []) good are within lt =
        let is = same-size a [] (good 0 a refl) are in
        let whole : length bytes ≡ length (spelling a) = ap (λ (l : List ℕ). length l) (are ∙ append-nil (spelling a)) in
        absurd (omega (arith, is, whole, lt))
    two-told second behind (a ∷ b ∷ []) good are within lt =
        let is = same-size a (spelled (b ∷ [])) (good 0 a refl) are in
        let here : drop read bytes ≡ spelled (b ∷ []) = ap (drop read) are ∙ drop_at (spelling a) (spelled (b ∷ [])) read (sym is) in
        let one = reads a (spelled (b ∷ [])) (good 0 a refl) are in
        let two = behind b [] (good 1 b refl) here in
        λ i. sym one i ∷ sym two i ∷ []
    two-told second behind (a ∷ b ∷ c ∷ ms) good are within lt = absurd within
