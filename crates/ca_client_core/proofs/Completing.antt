-- Completions that are taken out of notices.
use Rattle.std.proofs.Common.{◌≡◌, List, [], ◌∷◌, ◌++◌, map, Option, Some, None, refl, sym, ap, ◌∙◌, subst}
use Rattle.std.proofs.lemmas.List.Elements.{filter_map-append}
use Rattle.ca_arena.specs.declared.handle.Handle.{Handle}
use Rattle.ca_client_core.specs.declared.notice.Notice.{Notice as Said}
use Rattle.ca_client_core.specs.Notices.{Completion, TakesCompletion, completed, completion, completions, notice_of, noticed, as_notices}
use Rattle.ca_model.specs.Answers.{Lost, Notice}

pub no-losses : (hs : List Handle) → completions (map Lost hs) ≡ []
no-losses [] = refl
no-losses (h ∷ hs) = no-losses hs

-- the last notice is a completion
pub takes-last : (qs hs : List Handle) (n : Said) (c : Completion) (old : List Notice) → [] ≡ qs → as_notices qs hs (Some n) ≡ old → notice_of n ≡ completed c → TakesCompletion old (Some c) (as_notices qs hs None)
takes-last qs hs n c old none is last =
    subst (λ (rs : List Handle). as_notices rs hs (Some n) ≡ old → TakesCompletion old (Some c) (as_notices rs hs None)) none
    (λ e. (map Lost hs, [], sym e ∙ ap (λ (m : Notice). map Lost hs ++ m ∷ []) last, no-losses hs, refl))
    is

-- no notice is
pub takes-none : (qs hs : List Handle) (last : Option Said) (old : List Notice) → [] ≡ qs → as_notices qs hs last ≡ old → completions (noticed last) ≡ [] → TakesCompletion old None (as_notices qs hs last)
takes-none qs hs last old none is rest =
    subst (λ (rs : List Handle). as_notices rs hs last ≡ old → TakesCompletion old None (as_notices rs hs last)) none
    (λ e. (
      ap completions (sym e) ∙ filter_map-append completion (map Lost hs) (noticed last) ∙ ap (λ (cs : List Completion). cs ++ completions (noticed last)) (no-losses hs) ∙ rest,
      e,
    ))
    is

pub other-none : (n : Said) → completion (notice_of n) ≡ None → completions (noticed (Some n)) ≡ []
other-none n is = go (completion (notice_of n)) refl is
  where
    go : (o : Option Completion) → completion (notice_of n) ≡ o → o ≡ None → completions (noticed (Some n)) ≡ []
    go None at e = rw at refl
    go (Some c) at e = absurd cc
