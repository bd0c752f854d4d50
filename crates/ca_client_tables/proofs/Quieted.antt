-- Before which moment no search is due, through what is done to the searches.
use Rattle.std.proofs.Common.{◌≡◌, ℕ, zero, suc, ◌≤◌, ◌<◌, ◌+◌, Bool, true, false, cond, nat_eq, List, [], ◌∷◌, Option, None, Some, take, slice_get, refl, subst, sym, ap, ◌∙◌, arith}
use Rattle.std.proofs.lemmas.Bool.{lt-leb}
use Rattle.ca_text.proofs.Places.{some_is}
use Rattle.ca_search.specs.Clock.{Clock}
use Rattle.ca_search.specs.Searches.{Channel, due_by, passed, paused, wanted_at}
use Rattle.ca_search.specs.Searcher.{with_all, with_one, without}
use Rattle.ca_client_tables.specs.Quiet.{AreQuiet, IsQuiet, NotBefore}

abbrev pub Entries : Type 0
Entries = List (ℕ × Channel)

not-before-zero : (o : Option Clock) → NotBefore 0 o
not-before-zero None = tt
not-before-zero (Some k) = omega arith

-- at the first moment nothing is known
pub quiet-zero : (es : Entries) → AreQuiet 0 es
quiet-zero [] = tt
quiet-zero (e ∷ es) = (not-before-zero e.1.clock, quiet-zero es)

not-due : (q n : ℕ) (o : Option Clock) → n < q → NotBefore q o → due_by n o ≡ false
not-due q n None early quiet = refl
not-due q n (Some k) early quiet = lt-leb k.due n (omega (arith, early, quiet))

-- before that moment none is due
pub quiet-none : (q n : ℕ) (es : Entries) → n < q → AreQuiet q es → wanted_at n es ≡ []
quiet-none q n [] early quiet = refl
quiet-none q n (e ∷ es) early quiet = rw (not-due q n e.1.clock early quiet.0) (quiet-none q n es early quiet.1)

passed-same : (q n : ℕ) (name : List ℕ) (o : Option Clock) → n < q → NotBefore q o → ◌≡◌ {A = Channel} (passed n (record { name = name; clock = o })) (record { name = name; clock = o })
passed-same q n name None early quiet = refl
passed-same q n name (Some k) early quiet = rw (lt-leb k.due n (omega (arith, early, quiet))) refl

-- and to count those that are due as made changes nothing
pub quiet-passed : (q n : ℕ) (es : Entries) → n < q → AreQuiet q es → with_all (passed n) es ≡ es
quiet-passed q n [] early quiet = refl
quiet-passed q n (e ∷ es) early quiet =
    ap (λ (d : Channel). (e.0, d) ∷ with_all (passed n) es) (passed-same q n e.1.name e.1.clock early quiet.0)
    ∙ ap (λ (t : Entries). e ∷ t) (quiet-passed q n es early quiet.1)

-- what is done to a channel makes its search due no earlier
abbrev pub Keeps : ℕ → (Channel → Channel) → Type 0
Keeps q f = (c : Channel) → NotBefore q c.clock → NotBefore q (f c).clock

quiet-one-if : (q : ℕ) (f : Channel → Channel) (b : Bool) (e : ℕ × Channel) (es ns : Entries) → Keeps q f → NotBefore q e.1.clock → AreQuiet q es → AreQuiet q ns → AreQuiet q (cond b ((e.0, f e.1) ∷ es) (e ∷ ns))
quiet-one-if q f true e es ns keeps here rest next = (keeps e.1 here, rest)
quiet-one-if q f false e es ns keeps here rest next = (here, next)

quiet-one : (q : ℕ) (f : Channel → Channel) (cid : ℕ) (es : Entries) → Keeps q f → AreQuiet q es → AreQuiet q (with_one f cid es)
quiet-one q f cid [] keeps quiet = tt
quiet-one q f cid (e ∷ es) keeps quiet = quiet-one-if q f (nat_eq cid e.0) e es (with_one f cid es) keeps quiet.0 quiet.1 (quiet-one q f cid es keeps quiet.1)

-- one that is paused is never due
pub quiet-paused : (q cid : ℕ) (es : Entries) → AreQuiet q es → AreQuiet q (with_one paused cid es)
quiet-paused q cid es quiet = quiet-one q paused cid es (λ c here. tt) quiet

quiet-without-if : (q : ℕ) (b : Bool) (e : ℕ × Channel) (es ns : Entries) → NotBefore q e.1.clock → AreQuiet q es → AreQuiet q ns → AreQuiet q (cond b es (e ∷ ns))
quiet-without-if q true e es ns here rest next = rest
quiet-without-if q false e es ns here rest next = (here, next)

pub quiet-without : (q cid : ℕ) (es : Entries) → AreQuiet q es → AreQuiet q (without cid es)
quiet-without q cid [] quiet = tt
quiet-without q cid (e ∷ es) quiet = quiet-without-if q (nat_eq cid e.0) e es (without cid es) quiet.0 quiet.1 (quiet-without q cid es quiet.1)

not-before-earlier : (p q : ℕ) (o : Option Clock) → p ≤ q → NotBefore q o → NotBefore p o
not-before-earlier p q None early quiet = tt
not-before-earlier p q (Some k) early quiet = omega (arith, early, quiet)

quiet-next : (p q : ℕ) (es : Entries) (n : ℕ) (e : ℕ × Channel) → slice_get es n ≡ Some e → p ≤ q → AreQuiet q (take n es) → IsQuiet p e.1 → AreQuiet p (take (suc n) es)
quiet-next p q [] n e found early before here = absurd cc
quiet-next p q (d ∷ es) zero e found early before here = (subst (λ (x : ℕ × Channel). IsQuiet p x.1) (sym (some_is d e found)) here, tt)
quiet-next p q (d ∷ es) (suc n) e found early before here = (not-before-earlier p q d.1.clock early before.0, quiet-next p q es n e found early before.1 here)

-- one more, which is due no earlier than this
pub quiet-more : (p q : ℕ) (es : Entries) (n : ℕ) (e : ℕ × Channel) → slice_get es n ≡ Some e → p ≤ q → AreQuiet q (take n es) → IsQuiet p e.1 → AreQuiet p (take (n + 1) es)
quiet-more p q es n e found early before here =
    subst (λ (k : ℕ). AreQuiet p (take k es)) {x = suc n} {y = n + 1} (omega arith) (quiet-next p q es n e found early before here)
