-- The searches of a client after the messages of a datagram.
use Rattle.std.proofs.Common.{◌≡◌, ◌∙◌, ℕ, ◌+◌, ◌<◌, Bool, true, false, List, [], ◌∷◌, ◌++◌, Option, Some, None, ap, get_or, if◌then◌else◌, length, nat_eq, option_map, refl, sym, take}
use Rattle.std.specs.Prelude.{◌||◌}
use Rattle.std.proofs.lemmas.List.{take_more}
use Rattle.ca_ids.specs.Wire.{wire_of}
use Rattle.ca_search.specs.Clock.{Clock, fresh}
use Rattle.ca_search.specs.Searcher.{with_all, with_one}
use Rattle.ca_search.specs.Searches as search
use Rattle.ca_client_tables.specs.Receiving.{all_settled_in, boosted_if, settled_in}
use Rattle.ca_client_tables.specs.declared.beacons.Beacon.{Beacon}
use Rattle.ca_client_tables.specs.declared.finding.Found.{Found}
use Rattle.ca_client_tables.specs.declared.receiving.Received.{Received}
use Rattle.ca_client_tables.specs.declared.receiving.Received.TheVariants as received

fresh-twice : (moment : ℕ) (o : Option Clock) → option_map (λ (c : Clock). fresh moment) (option_map (λ (c : Clock). fresh moment) o) ≡ option_map (λ (c : Clock). fresh moment) o
fresh-twice moment None = refl
fresh-twice moment (Some c) = refl

-- twice is once
boosted-twice : (moment : ℕ) (es : List (ℕ × search.Channel)) → with_all (search.boosted moment) (with_all (search.boosted moment) es) ≡ with_all (search.boosted moment) es
boosted-twice moment [] = refl
boosted-twice moment (e ∷ es) = λ i. (e.0, record e.1 { clock = fresh-twice moment e.1.clock i }) ∷ boosted-twice moment es i

-- a search that is paused does not begin again
boosted-paused : (moment cid : ℕ) (es : List (ℕ × search.Channel)) → with_all (search.boosted moment) (with_one search.paused cid es) ≡ with_one search.paused cid (with_all (search.boosted moment) es)
boosted-paused moment cid [] = refl
boosted-paused moment cid (e ∷ es) = by_test (nat_eq cid e.0) (boosted-paused moment cid es)
  where
    here : search.Channel
    here = search.boosted moment e.1

    by_test : (b : Bool) → with_all (search.boosted moment) (with_one search.paused cid es) ≡ with_one search.paused cid (with_all (search.boosted moment) es) → with_all (search.boosted moment) (if b then (e.0, search.paused e.1) ∷ es else e ∷ with_one search.paused cid es) ≡ (if b then (e.0, search.paused here) ∷ with_all (search.boosted moment) es else (e.0, here) ∷ with_one search.paused cid (with_all (search.boosted moment) es))
    by_test true rest = refl
    by_test false rest = ap (λ (ts : List (ℕ × search.Channel)). (e.0, here) ∷ ts) rest

-- ---- one more message

pub settled-found : (anomaly : Bool) (moment : ℕ) (f : Found) (es : List (ℕ × search.Channel)) → boosted_if anomaly moment (with_one search.paused (wire_of f.channel) es) ≡ settled_in moment (received.Found f) (boosted_if anomaly moment es)
settled-found true moment f es = boosted-paused moment (wire_of f.channel) es
settled-found false moment f es = refl

pub settled-beacon : (anomaly : Bool) (moment : ℕ) (b : Beacon) (es : List (ℕ × search.Channel)) → boosted_if (anomaly || b.anomaly) moment es ≡ settled_in moment (received.Beacon b) (boosted_if anomaly moment es)
settled-beacon anomaly moment b es = by_both anomaly b.anomaly
  where
    by_both : (c d : Bool) → boosted_if (c || d) moment es ≡ (if d then with_all (search.boosted moment) (boosted_if c moment es) else boosted_if c moment es)
    by_both true true = sym (boosted-twice moment es)
    by_both true false = refl
    by_both false true = refl
    by_both false false = refl

pub settled-after : (anomaly : Bool) (moment : ℕ) (b : Beacon) (es : List (ℕ × search.Channel)) → anomaly ≡ true → boosted_if anomaly moment es ≡ settled_in moment (received.Beacon b) (boosted_if anomaly moment es)
settled-after anomaly moment b es is =
    ap (λ (c : Bool). boosted_if c moment es) (is ∙ ap (λ (c : Bool). c || b.anomaly) (sym is)) ∙ settled-beacon anomaly moment b es

-- several, and one more
pub settled-last : (moment : ℕ) (ds : List Received) (d : Received) (es : List (ℕ × search.Channel)) → all_settled_in moment (ds ++ d ∷ []) es ≡ settled_in moment d (all_settled_in moment ds es)
settled-last moment [] d es = refl
settled-last moment (e ∷ ds) d es = settled-last moment ds d (settled_in moment e es)

-- one more is settled
pub settled-more : (moment : ℕ) (ds : List Received) (i : ℕ) (d : Received) (es now next : List (ℕ × search.Channel)) (before after : Bool) → i < length ds → boosted_if before moment now ≡ all_settled_in moment (take i ds) es → boosted_if after moment next ≡ settled_in moment (get_or ds i d) (boosted_if before moment now) → boosted_if after moment next ≡ all_settled_in moment (take (i + 1) ds) es
settled-more moment ds i d es now next before after within so_far one =
    one ∙ ap (settled_in moment (get_or ds i d)) so_far ∙ sym (settled-last moment (take i ds) (get_or ds i d) es)
    ∙ ap (λ (fs : List Received). all_settled_in moment fs es) (sym (take_more ds i d within))
