-- What a client tells of requests and subscriptions as it reads a message: each was open and is not
-- any more, and it tells of each once.
use Rattle.std.proofs.Common.{◌≡◌, ℕ, zero, suc, inl, inr, Bool, true, false, ◌&&◌, cond, List, [], ◌∷◌, ◌++◌, length, ◌+◌, Option, Some, None, refl, sym, ap, ◌∙◌, subst, arith}
use Rattle.std.specs.Prelude.{filter, option_map, unwrap_or}
use Rattle.std.proofs.lemmas.Bool.{and_parts, both_ways}
use Rattle.ca_text.specs.Place.{At}
use Rattle.ca_text.proofs.Places.{At-mapped, At-parts, some_is}
use Rattle.ca_arena.specs.declared.handle.Handle.{Handle}
use Rattle.ca_dbr.specs.declared.value.Outcome.{Outcome}
use Rattle.ca_dbr.specs.declared.value.Outcome.TheVariants as outcome
use Rattle.ca_ids.specs.Table.{Table, under, with_all_freed, with_freed}
use Rattle.ca_monitor.specs.Subscriptions.{Subscription, stands_in}
use Rattle.ca_requests.specs.Requests.{Request, asks_on, in_order_of_issue, is_open, is_open_in}
use Rattle.ca_requests.specs.Requests as request
use Rattle.ca_text.specs.declared.status.Status.{Status}
use Rattle.ca_model.specs.Answers.{Notice, Sending}
use Rattle.ca_model.specs.Answers as notice
use Rattle.ca_model.specs.Client.{Client, disconnections, sending, with_one_sent, with_requests}
use Rattle.ca_model.specs.Hears.{without_request}
use Rattle.ca_model.proofs.Tables.{all-back, all-freed-back, freed-back}
use Rattle.ca_laws_parts.proofs.Marks.{at-filter}
use Rattle.ca_laws_runs.proofs.OnceLess.{Less}

-- the request of this handle is open; the subscription stands
abbrev pub IsOpenBy : Client → Handle → Type 0
IsOpenBy x q = (r : Request) × (under x.requests q ≡ Some r) × (is_open_in r.stage ≡ true)

abbrev pub StandsBy : Client → Handle → Type 0
StandsBy x g = (d : Subscription) × (under x.subscriptions g ≡ Some d) × (stands_in d.stage ≡ true)

-- no handle is in the list twice
abbrev pub IsOnce : List Handle → Type 0
IsOnce hs = (i l : ℕ) (q : Handle) → At hs i q → At hs l q → i ≡ l

-- The requests in order of issue: each once, and each is in the table.
pub record AreIssued (x : Client) : Type 0 where
  pub once : IsOnce x.issued
  pub there : (i : ℕ) (q : Handle) → At x.issued i q → (r : Request) × (under x.requests q ≡ Some r)

-- From the one client to the other, with these notices: nothing is open or stands that did not, and
-- what is told of is over then, and told of once.
pub record Told (x : Client) (notices : List Notice) (y : Client) : Type 0 where
  pub issued : AreIssued x → AreIssued y
  pub opens : (q : Handle) → IsOpenBy y q → IsOpenBy x q
  pub stands : (g : Handle) → StandsBy y g → StandsBy x g
  pub completed : (i : ℕ) (q : Handle) (o : Outcome) → At notices i (notice.Completed q o) → IsOpenBy x q × (IsOpenBy y q → ⊥)
  pub ended : (i : ℕ) (g : Handle) (s : Status) → At notices i (notice.SubscriptionEnded g s) → StandsBy x g × (StandsBy y g → ⊥)
  pub one_completed : AreIssued x → (i l : ℕ) (q : Handle) (o p : Outcome) → At notices i (notice.Completed q o) → At notices l (notice.Completed q p) → i ≡ l
  pub one_ended : (i l : ℕ) (g : Handle) (s t : Status) → At notices i (notice.SubscriptionEnded g s) → At notices l (notice.SubscriptionEnded g t) → i ≡ l

pub told-then : (x y z : Client) (ss rs : List Notice) → Told x ss y → Told y rs z → Told x (ss ++ rs) z
told-then x y z ss rs a b = record {
  issued = λ once. b.issued (a.issued once);
  opens = λ q open_it. a.opens q (b.opens q open_it);
  stands = λ g it. a.stands g (b.stands g it);
  completed = λ i q o at. elim (At-parts ss rs i (notice.Completed q o) at) [
    | inl first ↦ (let c = a.completed i q o first in (c.0, λ open_it. c.1 (b.opens q open_it)))
    | inr later ↦ (let c = b.completed later.0 q o later.2 in (a.opens q c.0, c.1))
  ];
  ended = λ i g s at. elim (At-parts ss rs i (notice.SubscriptionEnded g s) at) [
    | inl first ↦ (let c = a.ended i g s first in (c.0, λ it. c.1 (b.stands g it)))
    | inr later ↦ (let c = b.ended later.0 g s later.2 in (a.stands g c.0, c.1))
  ];
  one_completed = λ once i l q o p at also. elim (At-parts ss rs i (notice.Completed q o) at) [
    | inl first ↦ elim (At-parts ss rs l (notice.Completed q p) also) [
      | inl second ↦ a.one_completed once i l q o p first second
      | inr later ↦ absurd ((a.completed i q o first).1 (b.completed later.0 q p later.2).0)
    ]
    | inr before ↦ elim (At-parts ss rs l (notice.Completed q p) also) [
      | inl second ↦ absurd ((a.completed l q p second).1 (b.completed before.0 q o before.2).0)
      | inr later ↦ before.1 ∙ ap (λ (n : ℕ). length ss + n) (b.one_completed (a.issued once) before.0 later.0 q o p before.2 later.2) ∙ sym later.1
    ]
  ];
  one_ended = λ i l g s t at also. elim (At-parts ss rs i (notice.SubscriptionEnded g s) at) [
    | inl first ↦ elim (At-parts ss rs l (notice.SubscriptionEnded g t) also) [
      | inl second ↦ a.one_ended i l g s t first second
      | inr later ↦ absurd ((a.ended i g s first).1 (b.ended later.0 g t later.2).0)
    ]
    | inr before ↦ elim (At-parts ss rs l (notice.SubscriptionEnded g t) also) [
      | inl second ↦ absurd ((a.ended l g t second).1 (b.ended before.0 g s before.2).0)
      | inr later ↦ before.1 ∙ ap (λ (n : ℕ). length ss + n) (b.one_ended before.0 later.0 g s t before.2 later.2) ∙ sym later.1
    ]
  ];
}

-- ---- tables of requests

filter-once : (p : Handle → Bool) (hs : List Handle) → IsOnce hs → IsOnce (filter p hs)
filter-once p [] once = λ i l q at also. absurd (nowhere i q at)
  where
    nowhere : (i : ℕ) (q : Handle) → (let v : List Handle = [] in At v i q) → ⊥
    nowhere i q at = cc
filter-once p (h ∷ hs) once = go (p h) (filter-once p hs tail)
  where
    pred : (a b : ℕ) → suc a ≡ suc b → a ≡ b
    pred a b e = omega (arith, e)

    differ : (a : ℕ) → zero ≡ suc a → ⊥
    differ a e = omega (arith, e)

    tail : IsOnce hs
    tail i l q at also = pred i l (once (suc i) (suc l) q at also)

    head : (l : ℕ) (q : Handle) → h ≡ q → At (filter p hs) l q → ⊥
    head l q same also =
        let f = at-filter p hs l q also in
        differ f.0 (once zero (suc f.0) q (ap (λ (v : Handle). Some v) same) f.1)

    go : (b : Bool) → IsOnce (filter p hs) → (i l : ℕ) (q : Handle) → At (cond b (h ∷ filter p hs) (filter p hs)) i q → At (cond b (h ∷ filter p hs) (filter p hs)) l q → i ≡ l
    go false rest i l q at also = rest i l q at also
    go true rest zero zero q at also = refl
    go true rest zero (suc l) q at also = absurd (head l q (some_is h q at) also)
    go true rest (suc i) zero q at also = absurd (head i q (some_is h q also) at)
    go true rest (suc i) (suc l) q at also = ap suc (rest i l q at also)

-- Nothing new is open.
pub record Asks (x y : Client) : Type 0 where
  pub issued : AreIssued x → AreIssued y
  pub opens : (q : Handle) → IsOpenBy y q → IsOpenBy x q

pub asks-same : (x y : Client) → y.requests ≡ x.requests → y.issued ≡ x.issued → Asks x y
asks-same x y requests issued = record {
  issued = λ was. record {
    once = subst (λ (l : List Handle). IsOnce l) (sym issued) was.once;
    there = λ i q at.
        let r = was.there i q (subst (λ (l : List Handle). At l i q) issued at) in
        (r.0, subst (λ (t : Table Request). under t q ≡ Some r.0) (sym requests) r.1);
  };
  opens = λ q o. (o.0, subst (λ (t : Table Request). under t q ≡ Some o.0) requests o.1, o.2);
}

pub asks-then : (x y z : Client) → Asks x y → Asks y z → Asks x z
asks-then x y z a b = record { issued = λ once. b.issued (a.issued once); opens = λ q o. a.opens q (b.opens q o) }

pub asks-sending : (sends : List Sending) (x : Client) → Asks x (sending sends x)
asks-sending [] x = asks-same x x refl refl
asks-sending (s ∷ sends) x = asks-then x (with_one_sent x s) (sending sends (with_one_sent x s)) (asks-same x (with_one_sent x s) refl refl) (asks-sending sends (with_one_sent x s))

-- what is open is in the table
in-table : (t : Table Request) (q : Handle) → is_open (λ (q : Request). true) t q ≡ true → (r : Request) × (under t q ≡ Some r)
in-table t q is = go (under t q) is
  where
    go : (v : Option Request) → unwrap_or (option_map (λ (r : Request). is_open_in r.stage) v) false ≡ true → (r : Request) × (v ≡ Some r)
    go None f = absurd (both_ways false refl f)
    go (Some r) f = (r, refl)

pub asks-requests : (t : Table Request) (x : Client) → ((q : Handle) (r : Request) → under t q ≡ Some r → is_open_in r.stage ≡ true → IsOpenBy x q) → Asks x (with_requests t x)
asks-requests t x were = record {
  issued = λ was. record {
    once = filter-once (is_open (λ (q : Request). true) t) x.issued was.once;
    there = λ i q at. in-table t q (at-filter (is_open (λ (q : Request). true) t) x.issued i q at).2;
  };
  opens = λ q o. were q o.0 o.1 o.2;
}

pub asks-freed : (q : Handle) (x : Client) → Asks x (without_request q x)
asks-freed q x = asks-requests (with_freed q x.requests) x (λ k r is o. (r, (freed-back x.requests k q r is).1, o))

pub asks-all-freed : (frees : Request → Bool) (x : Client) → Asks x (with_requests (with_all_freed frees x.requests) x)
asks-all-freed frees x = asks-requests (with_all_freed frees x.requests) x (λ k r is o. (r, (all-freed-back frees x.requests k r is).0, o))

-- what is over on a channel
over-open : (h : Handle) (s : Request) → is_open_in (request.over_on h s).stage ≡ true → (asks_on h s ≡ false) × (is_open_in s.stage ≡ true)
over-open h s o = go (asks_on h s) refl o
  where
    go : (b : Bool) → asks_on h s ≡ b → is_open_in (cond b (record s { stage = request.Draining }) s).stage ≡ true → (asks_on h s ≡ false) × (is_open_in s.stage ≡ true)
    go true is f = absurd (both_ways false refl f)
    go false is f = (is, f)

pub over-back : (h : Handle) (x : Client) (q : Handle) (r : Request) → under (request.channel_over h x.requests) q ≡ Some r → is_open_in r.stage ≡ true → (s : Request) × (under x.requests q ≡ Some s) × (asks_on h s ≡ false) × (is_open_in s.stage ≡ true)
over-back h x q r is o =
    let was = all-back (request.over_on h) x.requests q r is in
    let f = over-open h was.0 (ap (λ (v : Request). is_open_in v.stage) (sym was.2) ∙ o) in
    (was.0, was.1, f.0, f.1)

pub asks-over : (h : Handle) (x : Client) → Asks x (with_requests (request.channel_over h x.requests) x)
asks-over h x = asks-requests (request.channel_over h x.requests) x (λ q r is o. (let b = over-back h x q r is o in (b.0, b.1, b.3)))

-- ---- notices

pub stands-less : (x y : Client) → Less x y → (g : Handle) → StandsBy y g → StandsBy x g
stands-less x y less g it = (let e = less.subscriptions g it.0 it.1 in (e.0, e.1, e.2 it.2))

-- no notice of a request or a subscription
abbrev pub TellsNone : List Notice → Type 0
TellsNone notices = ((i : ℕ) (q : Handle) (o : Outcome) → At notices i (notice.Completed q o) → ⊥) × ((i : ℕ) (g : Handle) (s : Status) → At notices i (notice.SubscriptionEnded g s) → ⊥)

pub told-still : (x y : Client) (notices : List Notice) → Asks x y → Less x y → TellsNone notices → Told x notices y
told-still x y notices asks less none = record {
  issued = asks.issued;
  opens = asks.opens;
  stands = stands-less x y less;
  completed = λ i q o at. absurd (none.0 i q o at);
  ended = λ i g s at. absurd (none.1 i g s at);
  one_completed = λ once i l q o p at also. absurd (none.0 i q o at);
  one_ended = λ i l g s t at also. absurd (none.1 i g s at);
}

completed-handle : (q k : Handle) (o p : Outcome) → notice.Completed q o ≡ notice.Completed k p → q ≡ k
completed-handle q k o p e = cc

-- one request completes
pub told-one : (x y : Client) (q : Handle) (o : Outcome) → Asks x y → Less x y → IsOpenBy x q → (IsOpenBy y q → ⊥) → Told x (notice.Completed q o ∷ []) y
told-one x y q o asks less was now = record {
  issued = asks.issued;
  opens = asks.opens;
  stands = stands-less x y less;
  completed = λ i k p at. (let e = only i k p at in (subst (λ (v : Handle). IsOpenBy x v) e.1 was, λ it. now (subst (λ (v : Handle). IsOpenBy y v) (sym e.1) it)));
  ended = λ i g s at. absurd (no-end i g s at);
  one_completed = λ once i l k p r at also. (only i k p at).0 ∙ sym (only l k r also).0;
  one_ended = λ i l g s t at also. absurd (no-end i g s at);
}
  where
    only : (i : ℕ) (k : Handle) (p : Outcome) → At (notice.Completed q o ∷ []) i (notice.Completed k p) → (i ≡ 0) × (q ≡ k)
    only zero k p at = (refl, completed-handle q k o p (some_is (notice.Completed q o) (notice.Completed k p) at))
    only (suc i) k p at = absurd cc

    no-end : (i : ℕ) (g : Handle) (s : Status) → At (notice.Completed q o ∷ []) i (notice.SubscriptionEnded g s) → ⊥
    no-end zero g s at = absurd (differ (some_is (notice.Completed q o) (notice.SubscriptionEnded g s) at))
      where
        differ : notice.Completed q o ≡ notice.SubscriptionEnded g s → ⊥
        differ e = cc
    no-end (suc i) g s at = cc

-- all open requests that a test names complete with Disconnected, and none of them is open then
pub told-disconnected : (x y : Client) (which : Request → Bool) → Asks x y → Less x y → ((q : Handle) (r : Request) → under x.requests q ≡ Some r → which r ≡ true → IsOpenBy y q → ⊥) → Told x (disconnections which x) y
told-disconnected x y which asks less over = record {
  issued = asks.issued;
  opens = asks.opens;
  stands = stands-less x y less;
  completed = λ i q o at. (let f = found i q o at in (f.1, f.2));
  ended = λ i g s at. absurd (no-end i g s at);
  one_completed = λ once i l q o p at also.
      filter-once (is_open which x.requests) x.issued once.once i l q (found i q o at).0 (found l q p also).0;
  one_ended = λ i l g s t at also. absurd (no-end i g s at);
}
  where
    no-end : (i : ℕ) (g : Handle) (s : Status) → At (disconnections which x) i (notice.SubscriptionEnded g s) → ⊥
    no-end i g s at = (let m = At-mapped (λ (q : Handle). notice.Completed q outcome.Disconnected) (in_order_of_issue which x.requests x.issued) i (notice.SubscriptionEnded g s) at in differ m.0 m.2)
      where
        differ : (q : Handle) → notice.SubscriptionEnded g s ≡ notice.Completed q outcome.Disconnected → ⊥
        differ q e = cc

    open-there : (q : Handle) → is_open which x.requests q ≡ true → IsOpenBy x q × (IsOpenBy y q → ⊥)
    open-there q is = go (under x.requests q) refl is
      where
        go : (v : Option Request) → under x.requests q ≡ v → unwrap_or (option_map (λ (r : Request). which r && is_open_in r.stage) v) false ≡ true → IsOpenBy x q × (IsOpenBy y q → ⊥)
        go None there f = absurd (both_ways false refl f)
        go (Some r) there f = (let both = and_parts (which r) (is_open_in r.stage) f in ((r, there, both.1), over q r there both.0))

    found : (i : ℕ) (q : Handle) (o : Outcome) → At (disconnections which x) i (notice.Completed q o) → At (in_order_of_issue which x.requests x.issued) i q × IsOpenBy x q × (IsOpenBy y q → ⊥)
    found i q o at =
        let m = At-mapped (λ (k : Handle). notice.Completed k outcome.Disconnected) (in_order_of_issue which x.requests x.issued) i (notice.Completed q o) at in
        let same : q ≡ m.0 = completed-handle q m.0 o outcome.Disconnected m.2 in
        let here : At (in_order_of_issue which x.requests x.issued) i q = subst (λ (v : Handle). At (in_order_of_issue which x.requests x.issued) i v) (sym same) m.1 in
        let f = at-filter (is_open which x.requests) x.issued i q here in
        let t = open-there q f.2 in
        (here, t.0, t.1)
