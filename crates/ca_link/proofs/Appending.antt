-- Bytes appended in turn to what a writer holds.
use Rattle.std.proofs.Common.{ℕ, ◌+◌, List, [], ◌++◌, take, drop, Option, Some, None, sym, ap, ◌∙◌, append_assoc}
use Rattle.std.proofs.lemmas.List.{append-nil}
use Rattle.std.proofs.Math.Seq.{take-add}
use Rattle.std.specs.Io.KnownBytes.{Appends, Keeps}

pub appends-none : (held : Option (List ℕ)) → Appends held held []
appends-none None = tt
appends-none (Some xs) = sym (append-nil xs)

pub appends-then : (a b c : Option (List ℕ)) (x y : List ℕ) → Appends a b x → Appends b c y → Appends a c (x ++ y)
appends-then None b c x y p q = tt
appends-then (Some xs) None c x y p q = absurd p
appends-then (Some xs) (Some ys) None x y p q = absurd q
appends-then (Some xs) (Some ys) (Some zs) x y p q = q ∙ ap (λ (t : List ℕ). t ++ y) p ∙ append_assoc xs x y

pub appends-kept : (a b c : Option (List ℕ)) (x : List ℕ) → Appends a b x → Keeps b c → Appends a c x
appends-kept None b c x p q = tt
appends-kept (Some xs) None c x p q = absurd p
appends-kept (Some xs) (Some ys) None x p q = absurd q
appends-kept (Some xs) (Some ys) (Some zs) x p q = q ∙ p

-- the next n bytes after the first few
pub appends-more : (a b c : Option (List ℕ)) (bytes : List ℕ) (i n : ℕ) → Appends a b (take i bytes) → Appends b c (take n (drop i bytes)) → Appends a c (take (i + n) bytes)
appends-more a b c bytes i n p q =
    rw take-add (appends-then a b c (take i bytes) (take n (drop i bytes)) p q)
