-- How many puts wait for records, as these change.
use Rattle.std.proofs.Common.{◌≡◌, ◌≤◌, ℕ, zero, suc, ◌+◌, Bool, true, false, cond, not, List, [], ◌∷◌, ◌++◌, length, Some, refl, sym, ap, subst, ◌∙◌, arith, length-append}
use Rattle.std.specs.Prelude.{drop, filter, map, take}
use Rattle.std.specs.Str.{bytes_eq}
use Rattle.std.proofs.lemmas.List.Sums.{sum_by-cons}
use Rattle.ca_text.proofs.Places.{some_is}
use Rattle.ca_records.specs.declared.puts.Put.{Put}
use Rattle.ca_records.specs.declared.puts.Stamp.{Stamp}
use Rattle.ca_records.specs.Puts.{Record, WaitingPut, finished, new_record, record_named, waiting_in, with_record, with_waiting, without_puts}
use Rattle.ca_records.specs.Record.{RecordState}
use Rattle.ca_server.proofs.Names.{Distinct, Lacks, is-named, not-named}

pub waits-cons : (r : Record) (rs : List Record) → waiting_in (r ∷ rs) ≡ length r.waiting + waiting_in rs
waits-cons r rs = sum_by-cons (λ (q : Record). length q.waiting) r rs

-- each record has no more
pub waits-fewer : (f : Record → Record) → ((r : Record) → length (f r).waiting ≤ length r.waiting) → (rs : List Record) → waiting_in (map f rs) ≤ waiting_in rs
waits-fewer f fewer [] = omega arith
waits-fewer f fewer (r ∷ rs) = omega (arith, waits-fewer f fewer rs, fewer r, waits-cons r rs, waits-cons (f r) (map f rs))

filter-fewer : {A : Type 0} (t : A → Bool) (xs : List A) → length (filter t xs) ≤ length xs
filter-fewer t [] = omega arith
filter-fewer {A} t (x ∷ xs) = go (t x) (filter-fewer t xs)
  where
    go : (b : Bool) → length (filter t xs) ≤ length xs → length (cond b (x ∷ filter t xs) (filter t xs)) ≤ suc (length xs)
    go true l = omega (arith, l)
    go false l = omega (arith, l)

pub fewer-without : (which : Put → Bool) (r : Record) → length (without_puts which r).waiting ≤ length r.waiting
fewer-without which r = filter-fewer (λ (p : WaitingPut). not (which p.put)) r.waiting

-- the records but one
pub waits-filter : (t : Record → Bool) (rs : List Record) → waiting_in (filter t rs) ≤ waiting_in rs
waits-filter t [] = omega arith
waits-filter t (r ∷ rs) = go (t r) (waits-filter t rs)
  where
    go : (b : Bool) → waiting_in (filter t rs) ≤ waiting_in rs → waiting_in (cond b (r ∷ filter t rs) (filter t rs)) ≤ waiting_in (r ∷ rs)
    go true l = omega (arith, l, waits-cons r rs, waits-cons r (filter t rs))
    go false l = omega (arith, l, waits-cons r rs)

-- one record more, for which none waits
pub waits-added : (n : ℕ) (s : RecordState) (rs : List Record) → waiting_in (take n rs ++ new_record s ∷ drop n rs) ≡ waiting_in rs
waits-added zero s rs = omega (arith, waits-cons (new_record s) rs)
waits-added (suc n) s [] = omega (arith, waits-cons (new_record s) [])
waits-added (suc n) s (r ∷ rs) = omega (arith, waits-added n s rs, waits-cons r rs, waits-cons r (take n rs ++ new_record s ∷ drop n rs))

-- ---- one put more

-- the change of the record of a name, by whether this is it
abbrev pub changed : (Record → Record) → Record → Bool → Record
changed f r b = cond b (f r) r

unnamed : (name : List ℕ) (f : Record → Record) (rs : List Record) → Lacks name rs → with_record name f rs ≡ rs
unnamed name f [] l = refl
unnamed name f (r ∷ rs) l =
    ap (λ (b : Bool). changed f r b ∷ with_record name f rs) (not-named name r l.0) ∙ ap (λ (qs : List Record). r ∷ qs) (unnamed name f rs l.1)

pub waits-more : (name : List ℕ) (p : WaitingPut) (rs : List Record) → Distinct rs → waiting_in (with_record name (with_waiting p) rs) ≤ waiting_in rs + 1
waits-more name p [] d = omega arith
waits-more name p (r ∷ rs) d = go (bytes_eq r.state.name name) refl (waits-more name p rs d.1)
  where
    go : (b : Bool) → bytes_eq r.state.name name ≡ b → waiting_in (with_record name (with_waiting p) rs) ≤ waiting_in rs + 1 → waiting_in (changed (with_waiting p) r (bytes_eq r.state.name name) ∷ with_record name (with_waiting p) rs) ≤ waiting_in (r ∷ rs) + 1
    go true e more =
        let rest : with_record name (with_waiting p) rs ≡ rs = unnamed name (with_waiting p) rs (subst (λ (n : List ℕ). Lacks n rs) (is-named name r e) d.0) in
        let all : changed (with_waiting p) r (bytes_eq r.state.name name) ∷ with_record name (with_waiting p) rs ≡ with_waiting p r ∷ rs =
        ap (λ (b : Bool). changed (with_waiting p) r b ∷ with_record name (with_waiting p) rs) e ∙ ap (λ (qs : List Record). with_waiting p r ∷ qs) rest in
        subst (λ (qs : List Record). waiting_in qs ≤ waiting_in (r ∷ rs) + 1) (sym all)
        (omega (arith, waits-cons r rs, waits-cons (with_waiting p r) rs, length-append r.waiting (p ∷ [])))
    go false e more =
        let all : changed (with_waiting p) r (bytes_eq r.state.name name) ∷ with_record name (with_waiting p) rs ≡ r ∷ with_record name (with_waiting p) rs =
        ap (λ (b : Bool). changed (with_waiting p) r b ∷ with_record name (with_waiting p) rs) e in
        subst (λ (qs : List Record). waiting_in qs ≤ waiting_in (r ∷ rs) + 1) (sym all)
        (omega (arith, more, waits-cons r rs, waits-cons r (with_record name (with_waiting p) rs)))

-- ---- the next that waits goes

finished-waits : (s : Stamp) (r : Record) (ws : List WaitingPut) → length (finished s r ws).waiting ≤ length ws
finished-waits s r [] = omega arith
finished-waits s r (p ∷ ps) = omega arith

pub finished-fewer : (s : Stamp) (r : Record) → length (finished s r r.waiting).waiting ≤ length r.waiting
finished-fewer s r = finished-waits s r r.waiting

finished-less : (s : Stamp) (r : Record) (ws : List WaitingPut) (p : WaitingPut) (ps : List WaitingPut) → ws ≡ p ∷ ps → length (finished s r ws).waiting + 1 ≡ length ws
finished-less s r [] p ps is = absurd cc
finished-less s r (q ∷ qs) p ps is = omega arith

pub with-record-fewer : (f : Record → Record) (name : List ℕ) → ((r : Record) → length (f r).waiting ≤ length r.waiting) → (r : Record) (b : Bool) → length (changed f r b).waiting ≤ length r.waiting
with-record-fewer f name fewer r true = fewer r
with-record-fewer f name fewer r false = omega arith

pub waits-next : (name : List ℕ) (s : Stamp) (rs : List Record) (r : Record) (p : WaitingPut) (ps : List WaitingPut) → record_named rs name ≡ Some r → r.waiting ≡ p ∷ ps → waiting_in (with_record name (λ (q : Record). finished s q q.waiting) rs) + 1 ≤ waiting_in rs
waits-next name s [] r p ps found is = absurd cc
waits-next name s (q ∷ rs) r p ps found is = go (bytes_eq q.state.name name) refl found (λ there. waits-next name s rs r p ps there is)
  where
    go : (b : Bool) → bytes_eq q.state.name name ≡ b → cond b (Some q) (record_named rs name) ≡ Some r → (record_named rs name ≡ Some r → waiting_in (with_record name (λ (x : Record). finished s x x.waiting) rs) + 1 ≤ waiting_in rs) → waiting_in (changed (λ (x : Record). finished s x x.waiting) q (bytes_eq q.state.name name) ∷ with_record name (λ (x : Record). finished s x x.waiting) rs) + 1 ≤ waiting_in (q ∷ rs)
    go true e found later =
        let same : q.waiting ≡ p ∷ ps = ap (λ (x : Record). x.waiting) (some_is q r found) ∙ is in
        let rest : waiting_in (with_record name (λ (x : Record). finished s x x.waiting) rs) ≤ waiting_in rs =
        waits-fewer (λ (x : Record). changed (λ (y : Record). finished s y y.waiting) x (bytes_eq x.state.name name)) (λ x. with-record-fewer (λ (y : Record). finished s y y.waiting) name (λ y. finished-fewer s y) x (bytes_eq x.state.name name)) rs in
        subst (λ (b : Bool). waiting_in (changed (λ (x : Record). finished s x x.waiting) q b ∷ with_record name (λ (x : Record). finished s x x.waiting) rs) + 1 ≤ waiting_in (q ∷ rs)) (sym e)
        (omega (arith, rest, finished-less s q q.waiting p ps same, waits-cons q rs, waits-cons (finished s q q.waiting) (with_record name (λ (x : Record). finished s x x.waiting) rs)))
    go false e found later =
        subst (λ (b : Bool). waiting_in (changed (λ (x : Record). finished s x x.waiting) q b ∷ with_record name (λ (x : Record). finished s x x.waiting) rs) + 1 ≤ waiting_in (q ∷ rs)) (sym e)
        (omega (arith, later found, waits-cons q rs, waits-cons q (with_record name (λ (x : Record). finished s x x.waiting) rs)))
