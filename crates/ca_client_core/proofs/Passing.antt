-- What is done to each search leaves the channels that are searched for.
use Rattle.std.proofs.Common.{◌≡◌, ℕ, List, [], ◌∷◌, subst, sym}
use Rattle.std.specs.List.{AllByRecursion}
use Rattle.ca_ids.specs.Table.{Table}
use Rattle.ca_search.specs.Searcher.{with_all}
use Rattle.ca_search.specs.Searches as search
use Rattle.ca_model.specs.Client.{Channel}
use Rattle.ca_client_tables.specs.Sound.{HasCid, IsClient}

all-with-cid : (channels : Table Channel) (f : search.Channel → search.Channel) (es : List (ℕ × search.Channel)) → AllByRecursion (λ (e : ℕ × search.Channel). HasCid channels e.0) es → AllByRecursion (λ (e : ℕ × search.Channel). HasCid channels e.0) (with_all f es)
all-with-cid channels f [] all = tt
all-with-cid channels f (e ∷ es) all = (all.0, all-with-cid channels f es all.1)

pub client-passed : (channels : Table Channel) (f : search.Channel → search.Channel) (es ns : List (ℕ × search.Channel)) → ns ≡ with_all f es → IsClient channels es → IsClient channels ns
client-passed channels f es ns is client = record {
  searched = subst (λ (ps : List (ℕ × search.Channel)). AllByRecursion (λ (e : ℕ × search.Channel). HasCid channels e.0) ps) (sym is) (all-with-cid channels f es client.searched);
}
