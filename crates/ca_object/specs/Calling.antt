-- Vocabulary: what a call does to the object that a struct of C's has.
use Rattle.std.specs.Prelude.{◌≡◌, Option, Some, None}

-- the object was s, the call answered n and left t, of which this holds; if there is no object it
-- answered `none`, and there is none still
abbrev pub Calls : {X N : Type 0} → N → Option X → N → Option X → (X → N → X → Type 0) → Type 0
Calls none None n None P = n ≡ none
Calls none (Some s) n (Some t) P = P s n t
Calls none before n after P = ⊥
