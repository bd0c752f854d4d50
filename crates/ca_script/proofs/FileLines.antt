-- What the lines of a record file say together. What may come next hangs on the names of the
-- records that were read.
use Rattle.std.proofs.Common.{◌≡◌, ℕ, List, [], ◌∷◌, ◌++◌, get_or, refl, sym, ap, ◌∙◌, subst, arith, inl, inr}
use Rattle.std.specs.Prelude.{Result, IfErr, OnOk, codes, map}
use Rattle.std.proofs.lemmas.List.{map-append}
use Rattle.ca_text.specs.declared.refusal.Refusal.{Refusal}
use Rattle.ca_text.specs.declared.refusal.Refusal.TheVariants.{BadText}
use Rattle.ca_text.specs.Place.{At}
use Rattle.ca_text.proofs.Places.{At-map, At-mapped}
use Rattle.ca_records.specs.Record.{RecordState}
use Rattle.ca_records.specs.Records.{IsServed}
use Rattle.ca_script.specs.Grammar.{Refuses}
use Rattle.ca_script.specs.Lines.{SaysRecord, SaysRule}
use Rattle.ca_script.specs.RecordFiles.{FileReading, TakesLine, TakesRecord, TakesRule}
use Rattle.ca_script.proofs.Heads.{ok-then}
use Rattle.ca_script.proofs.Refusals.{NoWord, err-then, refuses-whole, says-none}
use Rattle.ca_script.proofs.Sayings.{apart, behind-same}

abbrev name_of : RecordState → List ℕ
name_of r = r.name

abbrev pub names_read : FileReading → List (List ℕ)
names_read f = map name_of f.records

-- records of the same names
abbrev pub SameNames : FileReading → FileReading → Type 0
SameNames a b = names_read a ≡ names_read b

-- a name that is served where these names are
served-too : (a b : List RecordState) (name : List ℕ) → map name_of a ≡ map name_of b → IsServed b name → IsServed a name
served-too a b name same (place, is) =
    let there : At (map name_of b) place is.state.name = At-map name_of b place is.state is.at in
    let here : At (map name_of a) place is.state.name = subst (λ (xs : List (List ℕ)). At xs place is.state.name) (sym same) there in
    let found = At-mapped name_of a place is.state.name here in
    (place, record { state = found.0; at = found.1; named = sym found.2 ∙ is.named })

-- the names after a record more
names-more : (old new : List RecordState) (words : List (List ℕ)) (h : SaysRecord words old new) → map name_of new ≡ map name_of old ++ h.r.name ∷ []
names-more old new words h = ap (λ (rs : List RecordState). map name_of rs) h.after ∙ map-append name_of old (h.r ∷ [])

says-too : (a b new : List RecordState) (words : List (List ℕ)) → map name_of a ≡ map name_of b → (h : SaysRecord words a new) → SaysRecord words b (b ++ h.r ∷ [])
says-too a b new words same h = record {
  r = h.r;
  number = h.number;
  values = h.values;
  are = h.are;
  count = h.count;
  elements = h.elements;
  meta = h.meta;
  is = h.is;
  fresh = λ (s : IsServed b h.r.name). h.fresh (served-too a b h.r.name same s);
  after = refl;
}

-- ---- from the same names, the same words lead to the same names

goes-record : (a b m : FileReading) (words : List (List ℕ)) → SameNames a b → TakesRecord a words m → (to : FileReading) × TakesLine b words to × SameNames m to
goes-record a b m words same h =
    let r : RecordState = h.says.r in
    let to : FileReading = record { records = b.records ++ r ∷ []; rules = b.rules } in
    let says : SaysRecord h.rest b.records (b.records ++ r ∷ []) = says-too a.records b.records h.records h.rest same h.says in
    let takes : TakesRecord b words to = record { rest = h.rest; records = b.records ++ r ∷ []; are = h.are; says = says; after = refl } in
    (to, inl takes, ap names_read h.after ∙ names-more a.records h.records h.rest h.says ∙ ap (λ (ns : List (List ℕ)). ns ++ r.name ∷ []) same ∙ sym (map-append name_of b.records (r ∷ [])))

goes-rule : (a b m : FileReading) (words : List (List ℕ)) → SameNames a b → TakesRule a words m → (to : FileReading) × TakesLine b words to × SameNames m to
goes-rule a b m words same h =
    let to : FileReading = record { records = b.records; rules = b.rules ++ h.rule ∷ [] } in
    let takes : TakesRule b words to = record { rest = h.rest; rule = h.rule; are = h.are; says = h.says; after = refl } in
    (to, inr takes, ap names_read h.after ∙ same)

pub goes-line : (a b m : FileReading) (words : List (List ℕ)) → SameNames a b → TakesLine a words m → (to : FileReading) × TakesLine b words to × SameNames m to
goes-line a b m words same (inl h) = goes-record a b m words same h
goes-line a b m words same (inr h) = goes-rule a b m words same h

-- ---- the first word tells the kind

pub of-record-line : (a m : FileReading) (rest words : List (List ℕ)) → words ≡ codes "record" ∷ rest → TakesLine a words m → TakesRecord a words m
of-record-line a m rest words e (inl h) = h
of-record-line a m rest words e (inr h) = absurd (apart (codes "record") (codes "rule") rest h.rest words (λ x. omega (arith, x)) e h.are)

pub of-rule-line : (a m : FileReading) (rest words : List (List ℕ)) → words ≡ codes "rule" ∷ rest → TakesLine a words m → TakesRule a words m
of-rule-line a m rest words e (inl h) = absurd (apart (codes "rule") (codes "record") rest h.rest words (λ x. omega (arith, x)) e h.are)
of-rule-line a m rest words e (inr h) = h

-- ---- what a line leads to has the same names

same-record : (a m n : FileReading) (words : List (List ℕ)) → TakesRecord a words m → TakesRecord a words n → SameNames m n
same-record a m n words h k =
    let behind : h.rest ≡ k.rest = behind-same (codes "record") (codes "record") h.rest k.rest words h.are k.are in
    let name : h.says.r.name ≡ k.says.r.name = ap (λ (ws : List (List ℕ)). get_or ws 0 []) (sym h.says.are ∙ behind ∙ k.says.are) in
    ap names_read h.after ∙ names-more a.records h.records h.rest h.says ∙ ap (λ (n : List ℕ). names_read a ++ n ∷ []) name ∙ sym (names-more a.records k.records k.rest k.says) ∙ sym (ap names_read k.after)

same-rule : (a m n : FileReading) (words : List (List ℕ)) → TakesRule a words m → TakesRule a words n → SameNames m n
same-rule a m n words h k = ap names_read h.after ∙ sym (ap names_read k.after)

pub same-names : (a m n : FileReading) (words : List (List ℕ)) → TakesLine a words m → TakesLine a words n → SameNames m n
same-names a m n words (inl h) k = same-record a m n words h (of-record-line a n h.rest words h.are k)
same-names a m n words (inr h) k = same-rule a m n words h (of-rule-line a n h.rest words h.are k)

-- ---- what is read, and what is refused

no-file-line : (old : FileReading) (words : List (List ℕ)) (new : FileReading) → NoWord words → TakesLine old words new → ⊥
no-file-line old words new nay (inl h) = nay (codes "record") h.rest h.are (omega arith)
no-file-line old words new nay (inr h) = nay (codes "rule") h.rest h.are (omega arith)

-- a line whose first word is none, or is empty
pub file-line-refused : (old : FileReading) (words : List (List ℕ)) (e : Refusal) → (e ≡ BadText) × NoWord words → Refuses (TakesLine old words) e
file-line-refused old words e nay =
    says-none (TakesLine old words) e nay.0 (λ (new : FileReading) (h : TakesLine old words new). no-file-line old words new nay.1 h)

-- a line of a record
pub record-taken : (r : Result (Unit {0}) Refusal) (old new : FileReading) (words rest : List (List ℕ)) (first : List ℕ) → words ≡ first ∷ rest → first ≡ codes "record" → (let to : FileReading = record { records = new.records; rules = old.rules } in new ≡ to) → OnOk r (SaysRecord rest old.records new.records) → OnOk r (TakesLine old words new)
record-taken r old new words rest first split is after says =
    ok-then r
    (λ (x : SaysRecord rest old.records new.records).
    let takes : TakesRecord old words new = record {
      rest = rest;
      records = new.records;
      are = split ∙ ap (λ (w : List ℕ). w ∷ rest) is;
      says = x;
      after = after;
    } in
    inl takes)
    says

pub record-refused : (r : Result (Unit {0}) Refusal) (old : FileReading) (words rest : List (List ℕ)) (first : List ℕ) → words ≡ first ∷ rest → first ≡ codes "record" → IfErr r (λ e. Refuses (SaysRecord rest old.records) e) → IfErr r (λ e. Refuses (TakesLine old words) e)
record-refused r old words rest first split is nay =
    let are : words ≡ codes "record" ∷ rest = split ∙ ap (λ (w : List ℕ). w ∷ rest) is in
    err-then r (λ e. Refuses (SaysRecord rest old.records) e) (λ e. Refuses (TakesLine old words) e)
    (λ e no. refuses-whole (SaysRecord rest old.records) (TakesLine old words) e
    (λ (new : FileReading) (h : TakesLine old words new).
    let k = of-record-line old new rest words are h in
    let same : k.rest ≡ rest = behind-same (codes "record") (codes "record") k.rest rest words k.are are in
    (k.records, subst (λ (ws : List (List ℕ)). SaysRecord ws old.records k.records) same k.says))
    no)
    nay

-- a line of a rule that says none
pub rule-refused : (old : FileReading) (words rest : List (List ℕ)) (first : List ℕ) (e : Refusal) → words ≡ first ∷ rest → first ≡ codes "rule" → Refuses (SaysRule rest) e → Refuses (TakesLine old words) e
rule-refused old words rest first e split is nay =
    let are : words ≡ codes "rule" ∷ rest = split ∙ ap (λ (w : List ℕ). w ∷ rest) is in
    refuses-whole (SaysRule rest) (TakesLine old words) e
    (λ (new : FileReading) (h : TakesLine old words new).
    let k = of-rule-line old new rest words are h in
    let same : k.rest ≡ rest = behind-same (codes "rule") (codes "rule") k.rest rest words k.are are in
    (k.rule, subst (λ (ws : List (List ℕ)). SaysRule ws k.rule) same k.says))
    nay
