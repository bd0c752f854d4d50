-- How many notices the end of a client's circuit tells: no more than the client's requests and
-- channels have names. So room for the lines of a log can be made first, with no count in the core.
use Rattle.std.proofs.Common.{◌≡◌, ℕ, zero, suc, ◌+◌, ◌<◌, ◌≤◌, Bool, true, false, List, [], ◌∷◌, Option, Some, None, filter, length, refl, sym, ap, subst, ◌∙◌, arith}
use Rattle.std.specs.Prelude.{filter_map, find, if◌then◌else◌, map, option_map, unwrap_or}
use Rattle.std.proofs.lemmas.List.{length-append, length-map}
use Rattle.ca_arena.specs.declared.handle.Handle.{Handle}
use Rattle.ca_ids.specs.Table.{held, same_handle}
use Rattle.ca_requests.specs.Requests.{asks_on, in_order_of_issue, is_open, was_sent_on}
use Rattle.ca_text.specs.Place.{At}
use Rattle.ca_text.proofs.Places.{At-one, At-within, some_is}
use Rattle.ca_model.specs.Answers as notice
use Rattle.ca_model.specs.Client.{Channel, Client, channels_on, disconnections, farewell, is_live, is_on_in}
use Rattle.ca_model.specs.History.{Intent, OfCircuit, On}
use Rattle.ca_model.specs.History as history
use Rattle.ca_model.proofs.Handles.{same-is}
use Rattle.ca_model.proofs.Tables.{AreApart, find-at, held-apart, held-under}
use Rattle.ca_model.specs.ClientEvents.{channel_number, meant_by}
use Rattle.ca_model.specs.World.{ClientSide, Names, World}
use Rattle.ca_laws_runs.specs.Quiet.{ClientsQuiet, IsRequestOn, Tidy}
use Rattle.ca_laws_runs.proofs.OnceTold.{AreIssued}
use Rattle.ca_laws_runs.proofs.OnceNoticedRuns.{told-runs}
use Rattle.ca_world.specs.Whole.{IsReached}

-- ---- lists

-- without the element at this place
abbrev less_at : {A : Type 0} → ℕ → List A → List A
less_at k [] = []
less_at zero (x ∷ xs) = xs
less_at (suc k) (x ∷ xs) = x ∷ less_at k xs

less-length : {A : Type 0} (k : ℕ) (xs : List A) → k < length xs → length (less_at k xs) + 1 ≡ length xs
less-length k [] lt = absurd (omega (arith, lt))
less-length zero (x ∷ xs) lt = omega arith
less-length (suc k) (x ∷ xs) lt = (let rest = less-length k xs (omega (arith, lt)) in omega (arith, rest))

less-other : {A : Type 0} (k l : ℕ) (xs : List A) (x : A) → At xs l x → (l ≡ k → ⊥) → (m : ℕ) × At (less_at k xs) m x
less-other k l [] x at other = absurd cc
less-other zero zero (y ∷ xs) x at other = absurd (other refl)
less-other zero (suc l) (y ∷ xs) x at other = (l, at)
less-other (suc k) zero (y ∷ xs) x at other = (0, at)
less-other (suc k) (suc l) (y ∷ xs) x at other = (let r = less-other k l xs x at (λ e. other (ap suc e)) in (suc r.0, r.1))

-- if each of these has one of those of its own, these are no more than those
pub no-more : {A B : Type 0} (Has : A → B → Type 0) (xs : List A) (ys : List B) → ((i : ℕ) (x : A) → At xs i x → (k : ℕ) × (y : B) × At ys k y × Has x y)
    → ((i l : ℕ) (a b : A) (y : B) → At xs i a → At xs l b → Has a y → Has b y → i ≡ l) → length xs ≤ length ys
no-more Has [] ys each one = omega arith
no-more {A} {B} Has (x ∷ xs) ys each one =
    let own = each 0 x refl in
    let fewer = no-more Has xs (less_at own.0 ys) (λ i z at. rest own i z at) (λ i l a b y at also p q. (let e = one (suc i) (suc l) a b y at also p q in omega (arith, e))) in
    let short = less-length own.0 ys (At-within ys own.0 own.1 own.2) in
    omega (arith, fewer, short)
  where
    rest : (own : (k : ℕ) × (y : B) × At ys k y × Has x y) (i : ℕ) (z : A) → At xs i z → (k : ℕ) × (y : B) × At (less_at own.0 ys) k y × Has z y
    rest own i z at =
        let there = each (suc i) z at in
        let other : there.0 ≡ own.0 → ⊥ = λ same.
        let y_is : there.1 ≡ own.1 = At-one ys own.0 there.1 own.1 (subst (λ (n : ℕ). At ys n there.1) same there.2) own.2 in
        let e : 0 ≡ suc i = one 0 (suc i) x z own.1 refl at own.3 (subst (λ (y : B). Has z y) y_is there.3) in
        omega (arith, e) in
        let r = less-other own.0 there.0 ys there.1 there.2 other in
        (r.0, there.1, r.1, there.3)

-- ---- requests

-- what is meant by a handle is named
pub meant-there : (names : List (Handle × Intent)) (q : Handle) (a : ℕ) (ask : history.Ask) → meant_by names q ≡ On a ask → (k : ℕ) × (e : Handle × Intent) × At names k e × (e.0 ≡ q)
meant-there names q a ask is = go (find (λ (x : Handle × Intent). same_handle x.0 q) names) refl is
  where
    go : (o : Option (Handle × Intent)) → find (λ (x : Handle × Intent). same_handle x.0 q) names ≡ o → unwrap_or (option_map (λ (x : Handle × Intent). x.1) o) OfCircuit ≡ On a ask → (k : ℕ) × (e : Handle × Intent) × At names k e × (e.0 ≡ q)
    go None found is = absurd cc
    go (Some e) found is = (let f = find-at (λ (x : Handle × Intent). same_handle x.0 q) names e found in (f.0, e, f.1, same-is e.0 q f.2))

issued-few : (n : Names) (x : Client) → Tidy n x → AreIssued x → length x.issued ≤ length n.requests
issued-few n x t issued =
    no-more (λ (q : Handle) (e : Handle × Intent). e.0 ≡ q) x.issued n.requests
    (λ i q at. (let r = issued.there i q at in let on : IsRequestOn n r.0.channel (meant_by n.requests q) = t.requests q r.0 r.1 in meant-there n.requests q _ _ on.3))
    (λ i l a b y at also p q. issued.once i l b (subst (λ (h : Handle). At x.issued i h) (sym p ∙ q) at) also)

filter-few : {A : Type 0} (test : A → Bool) (xs : List A) → length (filter test xs) ≤ length xs
filter-few test [] = omega arith
filter-few {A} test (x ∷ xs) = go (test x) (filter-few test xs)
  where
    go : (b : Bool) → length (filter test xs) ≤ length xs → length (if b then x ∷ filter test xs else filter test xs) ≤ length (x ∷ xs)
    go true rest = omega (arith, rest)
    go false rest = omega (arith, rest)

-- ---- channels

filter_map-few : {A B : Type 0} (f : A → Option B) (xs : List A) → length (filter_map f xs) ≤ length xs
filter_map-few f [] = omega arith
filter_map-few {A} {B} f (x ∷ xs) = go (f x) refl (filter_map-few f xs)
  where
    go : (o : Option B) → f x ≡ o → length (filter_map f xs) ≤ length xs → length (filter_map f (x ∷ xs)) ≤ length (x ∷ xs)
    go None is rest = (let e : filter_map f (x ∷ xs) ≡ filter_map f xs = rw is refl in let l = ap length e in omega (arith, l, rest))
    go (Some y) is rest = (let e : filter_map f (x ∷ xs) ≡ y ∷ filter_map f xs = rw is refl in let l = ap length e in omega (arith, l, rest))

apart-one : {T : Type 0} (es : List (Handle × T)) → AreApart es → (i l : ℕ) (e f : Handle × T) → At es i e → At es l f → e.0 ≡ f.0 → i ≡ l
apart-one [] apart i l e f at also same = absurd cc
apart-one (g ∷ es) apart zero zero e f at also same = refl
apart-one (g ∷ es) apart zero (suc l) e f at also same = absurd (apart.0 l f also (sym same ∙ ap (λ (z : _). z.0) (sym (some_is g e at))))
apart-one (g ∷ es) apart (suc i) zero e f at also same = absurd (apart.0 i e at (same ∙ ap (λ (z : _). z.0) (sym (some_is g f also))))
apart-one (g ∷ es) apart (suc i) (suc l) e f at also same = ap suc (apart-one es apart.1 i l e f at also same)

held-few : (n : Names) (x : Client) → Tidy n x → length (held x.channels) ≤ length n.channels
held-few n x t =
    no-more (λ (e : Handle × Channel) (h : Handle). h ≡ e.0) (held x.channels) n.channels
    (λ i e at. (channel_number n e.0, e.0, t.numbered e.0 e.1 (held-under x.channels i e at), refl))
    (λ i l a b y at also p q. apart-one (held x.channels) (held-apart x.channels) i l a b at also (sym p ∙ q))

-- ---- an end

pub farewell-few : (n : Names) (x : Client) (c : Handle) → Tidy n x → AreIssued x → length (farewell c x) ≤ length n.requests + length n.channels
farewell-few n x c t issued =
    let open_ones : List Handle = in_order_of_issue (was_sent_on c) x.requests x.issued in
    let lost : List Handle = channels_on is_live c x in
    let a = length-append (disconnections (was_sent_on c) x) (map notice.Lost lost) in
    let b = length-map open_ones (λ (q : Handle). notice.Completed q Rattle.ca_dbr.specs.declared.value.Outcome.TheVariants.Disconnected) in
    let d = length-map lost notice.Lost in
    let e = filter-few (is_open (was_sent_on c) x.requests) x.issued in
    let f = issued-few n x t issued in
    let g = filter_map-few (λ (e : Handle × Channel). if is_on_in is_live c e.1 then Some e.0 else None) (held x.channels) in
    let h = held-few n x t in
    omega (arith, a, b, d, e, f, g, h)

-- so it is in every run
pub run-issued : (w : World) (i : ℕ) (x : ClientSide) → IsReached w → At w.clients i x → AreIssued x.core
run-issued w i x (s, es, ok, folds) at = (told-runs s es None w (w, folds, refl)).issued i x at

pub end-tells : (w : World) (i : ℕ) (x : ClientSide) (c : Handle) → IsReached w → ClientsQuiet w → At w.clients i x → length (farewell c x.core) ≤ length x.names.requests + length x.names.channels
end-tells w i x c reached quiet at = farewell-few x.names x.core c (quiet.tidy i x at) (run-issued w i x reached at)

-- ---- a channel

-- the end of a channel tells of no more requests than have names
pub clear-tells : (w : World) (i : ℕ) (x : ClientSide) (h : Handle) → IsReached w → ClientsQuiet w → At w.clients i x → length (disconnections (asks_on h) x.core) ≤ length x.names.requests
clear-tells w i x h reached quiet at =
    let open_ones : List Handle = in_order_of_issue (asks_on h) x.core.requests x.core.issued in
    let b = length-map open_ones (λ (q : Handle). notice.Completed q Rattle.ca_dbr.specs.declared.value.Outcome.TheVariants.Disconnected) in
    let e = filter-few (is_open (asks_on h) x.core.requests) x.core.issued in
    let f = issued-few x.names x.core (quiet.tidy i x at) (run-issued w i x reached at) in
    omega (arith, b, e, f)
