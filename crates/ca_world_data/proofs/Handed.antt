-- What became of a request, as a client's log says.
use Rattle.std.proofs.Common.{◌≡◌, ℕ, zero, suc, ◌≤◌, Bool, true, false, ◌||◌, List, [], ◌∷◌, Option, Some, None, length, refl, sym, ap, subst, ◌∙◌, arith}
use Rattle.std.specs.Prelude.{map, unwrap_or, Vec}
use Rattle.std.specs.List.{list_any}
use Rattle.std.specs.declared.alloc.Global.{Global}
use Rattle.ca_dbr.specs.declared.value.Outcome.{Outcome}
use Rattle.ca_text.specs.Place.{At}
use Rattle.ca_text.proofs.Places.{At-map, At-mapped}
use Rattle.ca_model.specs.History as history
use Rattle.ca_model.specs.ClientEvents.{HandsOut, hands_out}
use Rattle.ca_world_data.specs.declared.history.Ask.{Ask}
use Rattle.ca_world_data.specs.declared.history.Ask.TheVariants as ask
use Rattle.ca_world_data.specs.declared.history.Intent.{Intent}
use Rattle.ca_world_data.specs.declared.history.Intent.TheVariants as intent
use Rattle.ca_world_data.specs.declared.history.Kind.{Kind}
use Rattle.ca_world_data.specs.declared.history.Kind.TheVariants as kind
use Rattle.ca_world_data.specs.declared.history.Line.{Line}
use Rattle.ca_world_data.specs.declared.history.Line.TheVariants as line
use Rattle.ca_world_data.specs.Handing.{ToldAt, log_of}
use Rattle.ca_world_data.specs.Logs.{lines_in}
use Rattle.ca_world_data.specs.Seen.{ask_of, intent_of, kind_of, line_of}

-- ---- what was meant is told by what the statement has of it

abbrev kind_back : history.Kind → Kind
kind_back history.Read = kind.Read
kind_back history.Put = kind.Put
kind_back history.Write = kind.Write

kind-back : (k : Kind) → kind_back (kind_of k) ≡ k
kind-back kind.Read = refl
kind-back kind.Put = refl
kind-back kind.Write = refl

abbrev ask_back : history.Ask → Ask
ask_back history.Create = ask.Create
ask_back history.Clear = ask.Clear
ask_back (history.Request k n) = ask.Request (kind_back k) n
ask_back (history.Subscribe n) = ask.Subscribe n
ask_back (history.Cancel n) = ask.Cancel n

ask-back : (a : Ask) → ask_back (ask_of a) ≡ a
ask-back ask.Create = refl
ask-back ask.Clear = refl
ask-back (ask.Request k n) = ap (λ (z : Kind). ask.Request z n) (kind-back k)
ask-back (ask.Subscribe n) = refl
ask-back (ask.Cancel n) = refl

abbrev back : history.Intent → Intent
back (history.On c a) = intent.On c (ask_back a)
back history.OfCircuit = intent.OfCircuit

intent-back : (i : Intent) → back (intent_of i) ≡ i
intent-back (intent.On c a) = ap (λ (z : Ask). intent.On c z) (ask-back a)
intent-back intent.OfCircuit = refl

intents-same : (a b : Intent) → intent_of a ≡ intent_of b → a ≡ b
intents-same a b e = sym (intent-back a) ∙ ap back e ∙ intent-back b

-- ---- lines

abbrev meant_in : history.Line → history.Intent → history.Intent
meant_in (history.Noticed meant o) other = meant
meant_in l other = other

abbrev outcome_in : history.Line → Outcome → Outcome
outcome_in (history.Noticed meant o) other = o
outcome_in l other = other

-- a line that tells it for the statement tells it
line-tells : (l : Line) (meant : Intent) (o : Outcome) → line_of l ≡ history.Noticed (intent_of meant) o → l ≡ line.Noticed meant o
line-tells (line.Noticed other p) meant o e =
    let m : other ≡ meant = intents-same other meant (ap (λ (z : history.Line). meant_in z (intent_of meant)) e) in
    let q : p ≡ o = ap (λ (z : history.Line). outcome_in z o) e in
    λ t. line.Noticed (m t) (q t)
line-tells (line.Opened n name) meant o e = absurd cc
line-tells (line.Called i v) meant o e = absurd cc
line-tells (line.Updated i p) meant o e = absurd cc
line-tells (line.Refused r) meant o e = absurd cc
line-tells (line.Collected n p) meant o e = absurd cc
line-tells (line.GaveUp n p) meant o e = absurd cc

any-map : {A B : Type 0} (p : B → Bool) (f : A → B) (xs : List A) → list_any p (map f xs) ≡ list_any (λ (x : A). p (f x)) xs
any-map p f [] = refl
any-map p f (x ∷ xs) = ap (λ (b : Bool). p (f x) || b) (any-map p f xs)

-- ---- what is handed out

pub over : (log : List Line) (n : ℕ) (meant : Intent) → list_any (λ (l : Line). hands_out n (line_of l)) log ≡ true → HandsOut (map line_of log) n (intent_of meant) None
over log n meant gone place there =
    let e : list_any (hands_out n) (map line_of log) ≡ true = any-map (hands_out n) line_of log ∙ gone in
    let f : true ≡ false = sym e ∙ there.1 in
    cc

pub open_still : (log : List Line) (n : ℕ) (meant : Intent) (place : Option ℕ) → list_any (λ (l : Line). hands_out n (line_of l)) log ≡ false → ToldAt log meant place → HandsOut (map line_of log) n (intent_of meant) place
open_still log n meant (Some place) free told =
    ((told.0, At-map line_of log place (line.Noticed meant told.0) told.1), any-map (hands_out n) line_of log ∙ free)
open_still log n meant None free none =
    λ place there.
    let d = At-mapped line_of log place (history.Noticed (intent_of meant) there.0.0) there.0.1 in
    let is : d.0 ≡ line.Noticed meant there.0.0 = line-tells d.0 meant there.0.0 (sym d.2) in
    none place there.0.0 (subst (λ (l : Line). At log place l) is d.1)

-- the log of a life that is there
pub log-here : (logs : List (Vec Line Global)) (life : ℕ) (log : Vec Line Global) → At logs life log → log_of life (lines_in logs) ≡ map line_of log.items
log-here logs life log at = ap (λ (o : Option (List history.Line)). unwrap_or o []) (At-map (λ (l : Vec Line Global). map line_of l.items) logs life log at)

-- and of one that is not
pub log-none : (logs : List (Vec Line Global)) (life : ℕ) → length logs ≤ life → log_of life (lines_in logs) ≡ []
log-none [] life over = refl
log-none (x ∷ logs) zero over = absurd (omega (arith, over))
log-none (x ∷ logs) (suc life) over = log-none logs life (omega (arith, over))
