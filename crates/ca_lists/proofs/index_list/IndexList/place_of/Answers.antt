use Rattle.std.proofs.Common.{◌≡◌, ◌∙◌, ◌≤◌, ◌<◌, ℕ, List, Result, Ok, Err, length, refl, slice_index_or, subst}
use Rattle.std.specs.Result.{MatchResult}
use Rattle.std.proofs.lemmas.List.Sorted.{searched}
use Rattle.ca_lists.specs.Lists.{IsSought}
use Rattle.ca_lists.proofs.Ascents.{rises}
use Rattle.ca_lists.proofs.index_list.IndexList.place_of.Goals as goal

sought : (i : ℕ) (xs : List ℕ) (r : Result ℕ ℕ) → MatchResult r (λ k. (k < length xs) × (slice_index_or xs k 0 ≡ i)) (λ k. (k ≤ length xs) × ((j : ℕ) → j < k → slice_index_or xs j 0 < i) × ((j : ℕ) → k ≤ j → j < length xs → i < slice_index_or xs j 0)) → IsSought i xs r
sought i xs (Ok k) found = found
sought i xs (Err k) absent = absent

pub returns : goal.returns
returns c =
    let same = c.deref.ensures.value in
    let up = c.self.invariant in
    rw (← c.self.view_is, ← same)
    (sought c.args.index c.deref.result.now c.binary_search.result (searched c.deref.result.now c.args.index c.binary_search.result c.binary_search.ensures.position (λ i j less within. rises c.deref.result.now i j (rw same up) less within)))
