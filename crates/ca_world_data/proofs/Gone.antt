-- The puts that wait on circuits whose ends have ended, record by record.
use Rattle.std.proofs.Common.{◌≡◌, ℕ, zero, suc, ◌+◌, ◌≤◌, Bool, true, false, not, List, [], ◌∷◌, ◌++◌, length, refl, sym, ap, ◌∙◌, arith}
use Rattle.std.specs.Prelude.{filter, if◌then◌else◌, map, slice_set, unwrap_or, Vec}
use Rattle.std.specs.declared.alloc.Global.{Global}
use Rattle.std.proofs.lemmas.List.{map-append}
use Rattle.ca_text.specs.Place.{At}
use Rattle.ca_text.proofs.Places.{At-map, some_is}
use Rattle.ca_model.specs.History.{Entry}
use Rattle.ca_model.specs.History as history
use Rattle.ca_model.specs.ServerEvents.{withdrawals, without_puts}
use Rattle.ca_model.specs.World.{grown}
use Rattle.ca_model.specs.World as model
use Rattle.ca_world_data.specs.declared.history.LogEntry.{LogEntry as Written}
use Rattle.ca_world_data.specs.declared.server.PutPlace.{PutPlace}
use Rattle.ca_world_data.specs.declared.server.RecordSide.{RecordSide}
use Rattle.ca_world_data.specs.Opening.{entries_in}
use Rattle.ca_world_data.specs.Reporting.{all_gone, gone_of}
use Rattle.ca_world_data.specs.Seen.{entry_of, place_of, record_of}
use Rattle.ca_world_data.proofs.Withdrawals.{filter-places}
use Rattle.ca_world_data.proofs.Worlds.{set-map}

told-of : (gone : ℕ → Bool) (ps : List PutPlace) → map (λ (p : model.PutPlace). history.Withdrawn p.circuit p.place) (filter (λ (p : model.PutPlace). gone p.circuit) (map place_of ps)) ≡ gone_of gone ps
told-of gone [] = refl
told-of gone (p ∷ ps) = go (gone p.circuit) (told-of gone ps)
  where
    rest : List model.PutPlace
    rest = filter (λ (p : model.PutPlace). gone p.circuit) (map place_of ps)

    go : (b : Bool) → map (λ (p : model.PutPlace). history.Withdrawn p.circuit p.place) rest ≡ gone_of gone ps
        → map (λ (p : model.PutPlace). history.Withdrawn p.circuit p.place) (if b then place_of p ∷ rest else rest) ≡ (if b then history.Withdrawn p.circuit p.place ∷ gone_of gone ps else gone_of gone ps)
    go true same = ap (λ (t : List Entry). history.Withdrawn p.circuit p.place ∷ t) same
    go false same = same

pub gone-all : (gone : ℕ → Bool) (rs : List RecordSide) → withdrawals gone (map record_of rs) ≡ all_gone gone rs
gone-all gone [] = refl
gone-all gone (r ∷ rs) =
    map-append (λ (p : model.PutPlace). history.Withdrawn p.circuit p.place) (filter (λ (p : model.PutPlace). gone p.circuit) (map place_of r.waiting.items)) _
    ∙ (λ t. told-of gone r.waiting.items t ++ gone-all gone rs t)

-- ---- a change of each, one by one

-- from this place on
abbrev pub map_from : {A : Type 0} → ℕ → (A → A) → List A → List A
map_from zero f xs = map f xs
map_from (suc i) f (x ∷ xs) = x ∷ map_from i f xs
map_from (suc i) f [] = []

pub from-over : {A : Type 0} (i : ℕ) (f : A → A) (xs : List A) → length xs ≤ i → map_from i f xs ≡ xs
from-over zero f [] le = refl
from-over zero f (x ∷ xs) le = absurd (omega (arith, le))
from-over (suc i) f [] le = refl
from-over (suc i) f (x ∷ xs) le = ap (λ (t : List _). x ∷ t) (from-over i f xs (omega (arith, le)))

pub from-here : {A : Type 0} (i : ℕ) (f : A → A) (xs : List A) (x : A) → At xs i x → map_from (i + 1) f (slice_set xs i (f x)) ≡ map_from i f xs
from-here i f [] x at = absurd cc
from-here zero f (y ∷ xs) x at = ap (λ (z : _). f z ∷ map f xs) (sym (some_is y x at))
from-here (suc i) f (y ∷ xs) x at = (let e : suc i + 1 ≡ suc (i + 1) = omega arith in rw e (ap (λ (t : List _). y ∷ t) (from-here i f xs x at)))

pub gone-next : (gone : ℕ → Bool) (i : ℕ) (rs : List RecordSide) (r got : RecordSide) (w : Vec PutPlace Global) → At rs i r → r ≡ got → w.items ≡ filter (λ (p : PutPlace). not (gone p.circuit)) got.waiting.items
    → map_from (i + 1) (without_puts gone) (map record_of (slice_set rs i (record got { waiting = w }))) ≡ map_from i (without_puts gone) (map record_of rs)
gone-next gone i rs r got w at is kept =
    let one : record_of (record got { waiting = w }) ≡ without_puts gone (record_of got) =
    (λ t. record (record_of got) { waiting = (ap (map place_of) kept ∙ filter-places (λ (p : model.PutPlace). not (gone p.circuit)) got.waiting.items) t }) in
    ap (map_from (i + 1) (without_puts gone)) (set-map record_of rs i (record got { waiting = w }) ∙ ap (slice_set (map record_of rs) i) (one ∙ (λ t. without_puts gone (record_of (sym is t)))))
    ∙ from-here i (without_puts gone) (map record_of rs) (record_of r) (At-map record_of rs i r at)

-- ---- logs

-- the log of a life grows by entries that are told
pub grown-told : (logs : List (Vec Written Global)) (life : ℕ) (log new : Vec Written Global) (more : List Entry) → At logs life log → map entry_of new.items ≡ map entry_of log.items ++ more → entries_in (slice_set logs life new) ≡ grown life more (entries_in logs)
grown-told logs life log new more at is =
    let there : At (entries_in logs) life (map entry_of log.items) = At-map (λ (l : Vec Written Global). map entry_of l.items) logs life log at in
    set-map (λ (l : Vec Written Global). map entry_of l.items) logs life new ∙ ap (slice_set (entries_in logs) life) is
    ∙ sym (ap (λ o. slice_set (entries_in logs) life (unwrap_or o [] ++ more)) there)
