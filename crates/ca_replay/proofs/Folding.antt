-- One step more.
use Rattle.std.proofs.Common.{ℕ, ◌+◌, List, sym, subst}
use Rattle.std.specs.List.{FoldsTo, range_with_len}
use Rattle.ca_world_data.proofs.Ranges.{folds-more, range-more}
use Rattle.ca_replay.specs.Drawing.{Drawn, DrawsNext, DrawsSome}

-- one number more
pub some-next : (old mid new : Drawn) (n : ℕ) → DrawsSome old n mid → DrawsNext mid new → DrawsSome old (n + 1) new
some-next old mid new n some one =
    subst (λ (is : List ℕ). FoldsTo (λ (d : Drawn) (i : ℕ) (d' : Drawn). DrawsNext d d') old is new) (sym (range-more n))
    (folds-more (λ (d : Drawn) (i : ℕ) (d' : Drawn). DrawsNext d d') (range_with_len 0 n) old mid new n some one)
