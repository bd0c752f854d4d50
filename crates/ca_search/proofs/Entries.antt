-- The entries of a map, as look-ups and loops leave them.
use Rattle.std.proofs.Common.{◌≡◌, ◌≢◌, ℕ, ◌≤◌, ◌+◌, zero, suc, Bool, true, false, cond, ◌||◌, nat_eq, List, [], ◌∷◌, ◌++◌, length, drop, max, slice_get, Option, None, Some, is_some, refl, sym, ap, ◌∙◌, append_assoc, arith}
use Rattle.std.specs.Prelude.{map, filter, OnErr, Result, Ok, Err}
use Rattle.std.specs.declared.alloc.AllocError.{AllocError}
use Rattle.std.proofs.lemmas.List.{append-nil, drop_all, length-append}
use Rattle.std.specs.Map.{lookup, set_value, remove_entry, values_of}
use Rattle.indexmap.specs.IndexMap.{set_value_at}
use Rattle.ca_text.proofs.Places.{some_is}
use Rattle.ca_search.specs.Clock.{fresh}
use Rattle.ca_search.specs.Searches.{Channel, Wanted, is_due, wanted, wanted_at}
use Rattle.ca_search.specs.Searcher.{Searches, at, holds, with_all, with_one, without}

abbrev pub Entries : Type 0
Entries = List (ℕ × Channel)

held-one : (b : Bool) (o : Option Channel) (v : Channel) (rest : Bool) → is_some o ≡ rest → is_some (cond b (Some v) o) ≡ (b || rest)
held-one true o v rest same = refl
held-one false o v rest same = same

pub held : (cid : ℕ) (es : Entries) → is_some (lookup (nat_eq cid) es) ≡ holds cid es
held cid [] = refl
held cid (e ∷ es) = held-one (nat_eq cid e.0) (lookup (nat_eq cid) es) e.1 (holds cid es) (held cid es)

none_is : {X : Type 0} (o : Option X) → is_some o ≡ false → o ≡ None
none_is None e = refl
none_is (Some x) e = absurd cc

pub not-held : (cid : ℕ) (es : Entries) → holds cid es ≡ false → lookup (nat_eq cid) es ≡ None
not-held cid es e = none_is _ (held cid es ∙ e)

-- one put after the others
pub one-added : (old : Searches) (moment now top cid : ℕ) (es ns : Entries) (name given : List ℕ) (place : Channel) → ◌≡◌ {A = Searches} (record { moment = moment; channels = es }) old → top ≡ max moment now → ◌≡◌ {A = Channel} place (record { name = given; clock = Some (fresh top) }) → given ≡ name → ns ≡ es ++ (cid, place) ∷ []
    → ◌≡◌ {A = Searches} (record { moment = top; channels = ns }) (record { moment = at old now; channels = old.channels ++ (cid, record { name = name; clock = Some (fresh (at old now)) }) ∷ [] })
one-added old moment now top cid es ns name given place view a b c d = rw (← view, d, b, c, a) refl

pub one-removed : (cid : ℕ) (es : Entries) → remove_entry (nat_eq cid) es ≡ without cid es
one-removed cid [] = refl
one-removed cid (e ∷ es) = ap (λ (t : Entries). cond (nat_eq cid e.0) es (e ∷ t)) (one-removed cid es)

-- one written in its place
pub one-left : (old : Searches) (moment cid : ℕ) (es ns : Entries) (f : Channel → Channel) → ◌≡◌ {A = Searches} (record { moment = moment; channels = es }) old → ns ≡ with_one f cid es → ◌≡◌ {A = Searches} (record { moment = moment; channels = ns }) (record { moment = old.moment; channels = with_one f cid old.channels })
one-left old moment cid es ns f view e = rw (← view, e) refl

pub one-out : (old : Searches) (moment cid : ℕ) (es ns : Entries) → ◌≡◌ {A = Searches} (record { moment = moment; channels = es }) old → ns ≡ remove_entry (nat_eq cid) es → ◌≡◌ {A = Searches} (record { moment = moment; channels = ns }) (record { moment = old.moment; channels = without cid old.channels })
one-out old moment cid es ns view e = rw (← view, e, one-removed cid es) refl

pub one-left-at : (old : Searches) (moment now top cid : ℕ) (es ns : Entries) (f : ℕ → Channel → Channel) → ◌≡◌ {A = Searches} (record { moment = moment; channels = es }) old → top ≡ max moment now → ns ≡ with_one (f top) cid es
    → ◌≡◌ {A = Searches} (record { moment = top; channels = ns }) (record { moment = at old now; channels = with_one (f (at old now)) cid old.channels })
one-left-at old moment now top cid es ns f view t e = rw (← view, e, t) refl

pub all-left-at : (old : Searches) (moment now top : ℕ) (es ns : Entries) (f : ℕ → Channel → Channel) → ◌≡◌ {A = Searches} (record { moment = moment; channels = es }) old → top ≡ max moment now → ns ≡ with_all (f top) es
    → ◌≡◌ {A = Searches} (record { moment = top; channels = ns }) (record { moment = at old now; channels = with_all (f (at old now)) old.channels })
all-left-at old moment now top es ns f view t e = rw (← view, e, t) refl

written-one : (f : Channel → Channel) (b : Bool) (e : ℕ × Channel) (es ns ms : Entries) (o : Option Channel) (v : Channel) → (o ≡ Some v → ns ≡ ms) → cond b (Some e.1) o ≡ Some v → cond b ((e.0, f v) ∷ es) (e ∷ ns) ≡ cond b ((e.0, f e.1) ∷ es) (e ∷ ms)
written-one f true e es ns ms o v rest found = ap (λ (w : Channel). (e.0, f w) ∷ es) (sym (some_is e.1 v found))
written-one f false e es ns ms o v rest found = ap (λ (t : Entries). e ∷ t) (rest found)

-- the one of this CID, written
pub one-written : (f : Channel → Channel) (cid : ℕ) (es : Entries) (v : Channel) → lookup (nat_eq cid) es ≡ Some v → set_value (nat_eq cid) es (f v) ≡ with_one f cid es
one-written f cid [] v found = absurd cc
one-written f cid (e ∷ es) v found =
    written-one f (nat_eq cid e.0) e es (set_value (nat_eq cid) es (f v)) (with_one f cid es) (lookup (nat_eq cid) es) v (one-written f cid es v) found

unwritten-one : (f : Channel → Channel) (b : Bool) (e : ℕ × Channel) (es ms : Entries) (o : Option Channel) → (o ≡ None → es ≡ ms) → cond b (Some e.1) o ≡ None → e ∷ es ≡ cond b ((e.0, f e.1) ∷ es) (e ∷ ms)
unwritten-one f true e es ms o rest found = absurd cc
unwritten-one f false e es ms o rest found = ap (λ (t : Entries). e ∷ t) (rest found)

-- none of this CID
pub none-written : (f : Channel → Channel) (cid : ℕ) (es : Entries) → lookup (nat_eq cid) es ≡ None → es ≡ with_one f cid es
none-written f cid [] found = refl
none-written f cid (e ∷ es) found =
    unwritten-one f (nat_eq cid e.0) e es (with_one f cid es) (lookup (nat_eq cid) es) (none-written f cid es) found

pub one-set : (f : Channel → Channel) (cid : ℕ) (es ns : Entries) (v w : Channel) → ns ≡ set_value (nat_eq cid) es w → w ≡ f v → Some v ≡ lookup (nat_eq cid) es → ns ≡ with_one f cid es
one-set f cid es ns v w set is found = set ∙ ap (λ (x : Channel). set_value (nat_eq cid) es x) is ∙ one-written f cid es v (sym found)

pub none-set : (f : Channel → Channel) (cid : ℕ) (es ns : Entries) → ns ≡ es → None ≡ lookup (nat_eq cid) es → ns ≡ with_one f cid es
none-set f cid es ns same none = same ∙ none-written f cid es (sym none)

-- this done to the first n
abbrev pub stepped : (Channel → Channel) → ℕ → Entries → Entries
stepped f zero es = es
stepped f (suc n) [] = []
stepped f (suc n) (e ∷ es) = (e.0, f e.1) ∷ stepped f n es

pub length-stepped : (f : Channel → Channel) (n : ℕ) (es : Entries) → length (stepped f n es) ≡ length es
length-stepped f zero es = refl
length-stepped f (suc n) [] = refl
length-stepped f (suc n) (e ∷ es) = ap suc (length-stepped f n es)

pub stepped-more : (f : Channel → Channel) (n : ℕ) (es : Entries) (v : Channel) → slice_get (values_of (stepped f n es)) n ≡ Some v → set_value_at (stepped f n es) n (f v) ≡ stepped f (suc n) es
stepped-more f zero [] v found = absurd cc
stepped-more f zero (e ∷ es) v found = ap (λ (w : Channel). (e.0, f w) ∷ es) (sym (some_is e.1 v found))
stepped-more f (suc n) [] v found = absurd cc
stepped-more f (suc n) (e ∷ es) v found = ap (λ (t : Entries). (e.0, f e.1) ∷ t) (stepped-more f n es v found)

-- one entry more, written in its place
pub stepped-next : (f : Channel → Channel) (n : ℕ) (es now : Entries) (v w : Channel) → now ≡ stepped f n es → slice_get (values_of now) n ≡ Some v → w ≡ f v → set_value_at now n w ≡ stepped f (n + 1) es
stepped-next f n es now v w before found is =
    ap (λ (x : Channel). set_value_at now n x) is ∙ ap (λ (t : Entries). set_value_at t n (f v)) before
    ∙ stepped-more f n es v (ap (λ (t : Entries). slice_get (values_of t) n) (sym before) ∙ found)
    ∙ ap (λ (k : ℕ). stepped f k es) {x = suc n} {y = n + 1} (omega arith)

pub stepped-all : (f : Channel → Channel) (n : ℕ) (es : Entries) → length es ≤ n → stepped f n es ≡ with_all f es
stepped-all f zero [] done = refl
stepped-all f zero (e ∷ es) done = absurd (omega arith)
stepped-all f (suc n) [] done = refl
stepped-all f (suc n) (e ∷ es) done = ap (λ (t : Entries). (e.0, f e.1) ∷ t) (stepped-all f n es (omega arith))

from : (es : Entries) (n : ℕ) (c : ℕ × Channel) → slice_get es n ≡ Some c → drop n es ≡ c ∷ drop (suc n) es
from [] n c found = absurd cc
from (e ∷ es) zero c found = ap (λ (x : ℕ × Channel). x ∷ es) (some_is e c found)
from (e ∷ es) (suc n) c found = from es n c found

drop-at : (es : Entries) (n : ℕ) (c : ℕ × Channel) → slice_get es n ≡ Some c → drop n es ≡ c ∷ drop (n + 1) es
drop-at es n c found = from es n c found ∙ ap (λ (k : ℕ). c ∷ drop k es) {x = suc n} {y = n + 1} (omega arith)

pub wanted-due : (now : ℕ) (es : Entries) (n : ℕ) (c : ℕ × Channel) (found : List Wanted) → slice_get es n ≡ Some c → is_due now c.1 ≡ true → found ++ wanted_at now (drop n es) ≡ wanted_at now es → (found ++ wanted c ∷ []) ++ wanted_at now (drop (n + 1) es) ≡ wanted_at now es
wanted-due now es n c found here due before =
    append_assoc found (wanted c ∷ []) (wanted_at now (drop (n + 1) es))
    ∙ ap (λ (b : Bool). found ++ map wanted (cond b (c ∷ filter (λ e. is_due now e.1) (drop (n + 1) es)) (filter (λ e. is_due now e.1) (drop (n + 1) es)))) (sym due)
    ∙ ap (λ (t : Entries). found ++ wanted_at now t) (sym (drop-at es n c here)) ∙ before

pub wanted-later : (now : ℕ) (es : Entries) (n : ℕ) (c : ℕ × Channel) (found : List Wanted) → slice_get es n ≡ Some c → is_due now c.1 ≡ false → found ++ wanted_at now (drop n es) ≡ wanted_at now es → found ++ wanted_at now (drop (n + 1) es) ≡ wanted_at now es
wanted-later now es n c found here later before =
    ap (λ (b : Bool). found ++ map wanted (cond b (c ∷ filter (λ e. is_due now e.1) (drop (n + 1) es)) (filter (λ e. is_due now e.1) (drop (n + 1) es)))) (sym later)
    ∙ ap (λ (t : Entries). found ++ wanted_at now t) (sym (drop-at es n c here)) ∙ before

-- one that is due is among all that are
pub wanted-some : (now : ℕ) (es : Entries) (n : ℕ) (c : ℕ × Channel) (found : List Wanted) → slice_get es n ≡ Some c → is_due now c.1 ≡ true → found ++ wanted_at now (drop n es) ≡ wanted_at now es → wanted_at now es ≢ []
wanted-some now es n c found here due before none =
    let all = wanted-due now es n c found here due before ∙ none in
    omega (arith, ap length all, length-append (found ++ wanted c ∷ []) (wanted_at now (drop (n + 1) es)), length-append found (wanted c ∷ []))

pub on_err : {A : Type 0} {P : Type 0} (r : Result A AllocError) → P → OnErr r P
on_err (Ok x) p = tt
on_err (Err e) p = p

-- every entry was looked at
pub wanted-end : (now : ℕ) (es : Entries) (n : ℕ) (found : List Wanted) → length es ≤ n → found ++ wanted_at now (drop n es) ≡ wanted_at now es → found ≡ wanted_at now es
wanted-end now es n found done before =
    sym (append-nil found) ∙ ap (λ (t : Entries). found ++ wanted_at now t) (sym (drop_all n es done)) ∙ before
