-- Lists of handles, each there once; and completions among other notices.
use Rattle.std.proofs.Common.{◌≡◌, inl, inr, ◌⊎◌, Bool, true, false, cond, List, [], ◌∷◌, ◌++◌, map, Option, Some, None, refl, sym, ap, ◌∙◌, filter, ⊎_elim}
use Rattle.std.specs.List.{cons_option}
use Rattle.std.specs.Prelude.{is_none}
use Rattle.ca_arena.specs.declared.handle.Handle.{Handle}
use Rattle.ca_dbr.specs.declared.value.Outcome.TheVariants as outcome
use Rattle.ca_model.specs.Answers.{Completed, Notice}
use Rattle.ca_client_core.specs.Notices.{Completion, completed, completion, completions}
use Rattle.ca_client.specs.Awaited.{Among, AreApart, others}

-- ---- each there once

pub among-filter : (p : Handle → Bool) (hs : List Handle) (q : Handle) → Among (filter p hs) q → Among hs q × (p q ≡ true)
among-filter p [] q a = absurd a
among-filter p (h ∷ hs) q a = go (p h) refl a (λ r. among-filter p hs q r)
  where
    go : (b : Bool) → p h ≡ b → Among (cond b (h ∷ filter p hs) (filter p hs)) q → (Among (filter p hs) q → Among hs q × (p q ≡ true)) → Among (h ∷ hs) q × (p q ≡ true)
    go true e (inl is) rest = (inl is, ap p (sym is) ∙ e)
    go true e (inr r) rest = (let f = rest r in (inr f.0, f.1))
    go false e r rest = (let f = rest r in (inr f.0, f.1))

pub apart-filter : (p : Handle → Bool) (hs : List Handle) → AreApart hs → AreApart (filter p hs)
apart-filter p [] a = tt
apart-filter p (h ∷ hs) a = go (p h) (apart-filter p hs a.1)
  where
    go : (b : Bool) → AreApart (filter p hs) → AreApart (cond b (h ∷ filter p hs) (filter p hs))
    go true rest = ((λ m. a.0 (among-filter p hs h m).0), rest)
    go false rest = rest

pub among-last : (hs : List Handle) (h q : Handle) → Among (hs ++ h ∷ []) q → Among hs q ⊎ (h ≡ q)
among-last [] h q (inl is) = inr is
among-last [] h q (inr none) = absurd none
among-last (k ∷ hs) h q (inl is) = inl (inl is)
among-last (k ∷ hs) h q (inr r) = ⊎_elim (λ a. inl (inr a)) (λ e. inr e) (among-last hs h q r)

pub apart-last : (hs : List Handle) (h : Handle) → AreApart hs → ¬ (Among hs h) → AreApart (hs ++ h ∷ [])
apart-last [] h a new = ((λ m. m), tt)
apart-last (k ∷ hs) h a new = (
  (λ m. ⊎_elim (λ was. a.0 was) (λ e. new (inl (sym e))) (among-last hs h k m)),
  apart-last hs h a.1 (λ m. new (inr m)),
)

-- ---- completions

-- Disconnected for each of these requests
abbrev pub ends : List Handle → List Completion
ends qs = map (λ (q : Handle). (q, outcome.Disconnected)) qs

pub told-ends : (qs : List Handle) → map (λ (q : Handle). Completed q outcome.Disconnected) qs ≡ map completed (ends qs)
told-ends [] = refl
told-ends (q ∷ qs) = ap (λ (ns : List Notice). Completed q outcome.Disconnected ∷ ns) (told-ends qs)

pub completions-first : (cs : List Completion) (rest : List Notice) → completions (map completed cs ++ rest) ≡ cs ++ completions rest
completions-first [] rest = refl
completions-first (c ∷ cs) rest = ap (λ (ds : List Completion). c ∷ ds) (completions-first cs rest)

pub append-nil : {A : Type 0} (xs : List A) → xs ++ [] ≡ xs
append-nil [] = refl
append-nil (x ∷ xs) = ap (λ ys. x ∷ ys) (append-nil xs)

pub others-all : (rest : List Notice) → completions rest ≡ [] → others rest ≡ rest
others-all [] e = refl
others-all (n ∷ rest) e = go (completion n) refl e (λ f. others-all rest f)
  where
    go : (o : Option Completion) → completion n ≡ o → cons_option o (completions rest) ≡ [] → (completions rest ≡ [] → others rest ≡ rest) → cond (is_none (completion n)) (n ∷ others rest) (others rest) ≡ n ∷ rest
    go None at f more = ap (λ (x : Option Completion). cond (is_none x) (n ∷ others rest) (others rest)) at ∙ ap (λ (ns : List Notice). n ∷ ns) (more f)
    go (Some c) at f more = absurd cc
