-- What is legal in small histories, by tests that compute.
use Rattle.std.proofs.Common.{◌≡◌, ℕ, zero, suc, ◌<◌, ◌≤◌, ◌%◌, ◌⊎◌, inl, inr, List, [], ◌∷◌, refl, sym, ap, subst, ◌∙◌, arith}
use Rattle.std.specs.Prelude.{Bool, true, false, not, ◌&&◌, ◌||◌, ◌==◌, bytes_eq, take}
use Rattle.std.proofs.lemmas.Slice.Eq.{bytes_eq-Decides}
use Rattle.std.proofs.lemmas.Bool.{not-false, and_from, and_parts, eq-eqb, eqb-true, or_cases}
use Rattle.ca_text.specs.Limits.{arena_slots}
use Rattle.ca_text.specs.Place.{At}
use Rattle.ca_text.proofs.Places.{some_is}
use Rattle.ca_wire.specs.Fields.{Fields, padded}
use Rattle.ca_wire.specs.Header.{number16}
use Rattle.ca_wire.specs.Messages.{mask_in}
use Rattle.ca_text.specs.declared.command.Command.TheVariants as command
use Rattle.ca_model.specs.Speech.{Id, Cid, Ioid, SubId, Gives, In, Is, name_in, sid_in}
use Rattle.ca_dbr.specs.Elements.{Elements, base_of, bytes_of, count_of}
use Rattle.ca_dbr.specs.Types.{base_number}
use Rattle.ca_model.specs.History.{Ask, Cancel, Clear, Create, Kind, Put, Read, Request, Subscribe, Write, Intent, On, OfCircuit, Sent, Step, Circuit, Entry, Line, Called, Opened, Nothing, ToRead, ToWatch, ToWrite, Wish, World}
use Rattle.ca_model.specs.Channels.{OfCircuits}
use Rattle.ca_model.specs.Sends.{Conduct, HasChannel, IsDisconnect, IsOnChannel, IsRefused, ReadsBetween, SameIndex}
use Rattle.ca_model.specs.Legal.{AsksFor, Carries, IdsAreApart, Legal, MayAsk, WasCalled, client_conduct, server_conduct}
use Rattle.ca_model_examples.specs.Worlds.{AnyDue, adding, created_told, creating, world}
use Rattle.ca_model_examples.specs.Parts.{Sending, CalledSo, HeldSo, MaySend, SentSo}
use Rattle.ca_model_examples.specs.Parts as part
use Rattle.ca_model_examples.proofs.Lists.{none-at, one-at}
use Rattle.ca_model_examples.proofs.Quiet.{of-circuit, of-life, any, any-at, clash, idle, is_called, is_noticed, is_removed, is_subscription, its, none}

-- no two messages clash
abbrev pub spread : {A : Type 0} → (A → A → Bool) → List A → Bool
spread clash [] = true
spread clash (x ∷ xs) = not (any (clash x) xs) && spread clash xs

spread-at : {A : Type 0} (t : A → A → Bool) (xs : List A) → spread t xs ≡ true → (i j : ℕ) (x y : A) → i < j → At xs i x → At xs j y → t x y ≡ true → ⊥
spread-at t [] h i j x y lt a b p = none-at i x a
spread-at t (z ∷ xs) h zero zero x y lt a b p = omega (arith, lt)
spread-at t (z ∷ xs) h (suc i) zero x y lt a b p = omega (arith, lt)
spread-at t (z ∷ xs) h zero (suc j) x y lt a b p = none (t z) xs (and_parts (not (any (t z) xs)) (spread t xs) h).0 j y b (subst (λ v. t v y ≡ true) (sym (some_is z x a)) p)
spread-at t (z ∷ xs) h (suc i) (suc j) x y lt a b p = spread-at t xs (and_parts (not (any (t z) xs)) (spread t xs) h).1 i j x y (omega (arith, lt)) a b p

abbrev pub is : ℕ → Fields → Bool
is n m = m.command == n

pub is-so : (n : ℕ) (m : Fields) → m.command ≡ n → is n m ≡ true
is-so n m e = eq-eqb m.command n e

abbrev pub on_channel : Fields → Bool
on_channel m = is 15 m || (is 19 m || (is 4 m || (is 1 m || (is 2 m || is 12 m))))

or-first : (a b : Bool) → a ≡ true → (a || b) ≡ true
or-first true b e = refl
or-first false b e = absurd cc

or-second : (a b : Bool) → b ≡ true → (a || b) ≡ true
or-second true b e = refl
or-second false b e = e

pub on-channel-so : (m : Fields) → IsOnChannel m → on_channel m ≡ true
on-channel-so m h =
    elim h [
      | inl e ↦ or-first (is 15 m) _ (is-so 15 m e)
      | inr h1 ↦ or-second (is 15 m) _ (elim h1 [
        | inl e ↦ or-first (is 19 m) _ (is-so 19 m e)
        | inr h2 ↦ or-second (is 19 m) _ (elim h2 [
          | inl e ↦ or-first (is 4 m) _ (is-so 4 m e)
          | inr h3 ↦ or-second (is 4 m) _ (elim h3 [
            | inl e ↦ or-first (is 1 m) _ (is-so 1 m e)
            | inr h4 ↦ or-second (is 1 m) _ (elim h4 [
              | inl e ↦ or-first (is 2 m) _ (is-so 2 m e)
              | inr e ↦ or-second (is 2 m) _ (is-so 12 m e)
            ])
          ])
        ])
      ])
    ]

abbrev index : ℕ → ℕ
index a = a % arena_slots

-- two ids of one kind with one index
abbrev pub cids : Fields → Fields → Bool
cids m r = (is 18 m && is 18 r) && index m.p1 == index r.p1

abbrev pub gives_ioid : Fields → Bool
gives_ioid m = is 15 m || is 19 m

abbrev pub ioids : Fields → Fields → Bool
ioids m r = (gives_ioid m && gives_ioid r) && index m.p2 == index r.p2

abbrev pub subs : Fields → Fields → Bool
subs m r = (is 1 m && is 1 r) && index m.p2 == index r.p2

abbrev pub ids_clash : Fields → Fields → Bool
ids_clash m r = cids m r || (ioids m r || subs m r)

both : (a b c : Bool) → a ≡ true → b ≡ true → c ≡ true → ((a && b) && c) ≡ true
both true true true e f g = refl
both false b c e f g = absurd cc
both true false c e f g = absurd cc
both true true false e f g = absurd cc

ioid-so : (m : Fields) → Is command.ReadNotify m ⊎ Is command.WriteNotify m → gives_ioid m ≡ true
ioid-so m h =
    elim h [
      | inl e ↦ or-first (is 15 m) (is 19 m) (is-so 15 m e)
      | inr e ↦ or-second (is 15 m) (is 19 m) (is-so 19 m e)
    ]

same : (x y a b : ℕ) → x ≡ a → y ≡ b → index a ≡ index b → (index x == index y) ≡ true
same x y a b e f g = eq-eqb (index x) (index y) (ap index e ∙ g ∙ sym (ap index f))

ids-so : (m r : Fields) (a b : Id) → Gives m a → Gives r b → SameIndex a b → ids_clash m r ≡ true
ids-so m r (Cid a) (Cid b) g h s = or-first (cids m r) _ (both (is 18 m) (is 18 r) _ (is-so 18 m g.0) (is-so 18 r h.0) (same m.p1 r.p1 a b g.1 h.1 s))
ids-so m r (Ioid a) (Ioid b) g h s = or-second (cids m r) _ (or-first (ioids m r) _ (both (gives_ioid m) (gives_ioid r) _ (ioid-so m g.0) (ioid-so r h.0) (same m.p2 r.p2 a b g.1 h.1 s)))
ids-so m r (SubId a) (SubId b) g h s = or-second (cids m r) _ (or-second (ioids m r) _ (both (is 1 m) (is 1 r) _ (is-so 1 m g.0) (is-so 1 r h.0) (same m.p2 r.p2 a b g.1 h.1 s)))
ids-so m r (Cid a) (Ioid b) g h s = absurd s
ids-so m r (Cid a) (SubId b) g h s = absurd s
ids-so m r (Ioid a) (Cid b) g h s = absurd s
ids-so m r (Ioid a) (SubId b) g h s = absurd s
ids-so m r (SubId a) (Cid b) g h s = absurd s
ids-so m r (SubId a) (Ioid b) g h s = absurd s

abbrev pub sids_clash : Fields → Fields → Bool
sids_clash m r = (is 18 m && is 18 r) && index m.p2 == index r.p2

-- two EVENT_ADDs of one subscription
abbrev pub one_subscription : Intent → Intent → Bool
one_subscription (On a (Subscribe n)) (On b (Subscribe m)) = a == b && n == m
one_subscription i j = false

refl-eqb : (n : ℕ) → (n == n) ≡ true
refl-eqb n = eq-eqb n n refl

one-subscription : (channel number : ℕ) → one_subscription (On channel (Subscribe number)) (On channel (Subscribe number)) ≡ true
one-subscription channel number = and_from (channel == channel) (number == number) (refl-eqb channel) (refl-eqb number)

abbrev pub subscribes : Line → Bool
subscribes (Called i e) = is_subscription i
subscribes l = false

-- two calls that are the same
abbrev pub same_kind : Kind → Kind → Bool
same_kind Read Read = true
same_kind Put Put = true
same_kind Write Write = true
same_kind k l = false

abbrev pub same_call : Intent → Intent → Bool
same_call (On a (Request k n)) (On b (Request l m)) = (a == b && n == m) && same_kind k l
same_call (On a (Subscribe n)) (On b (Subscribe m)) = a == b && n == m
same_call (On a (Cancel n)) (On b (Cancel m)) = a == b && n == m
same_call (On a Clear) (On b Clear) = a == b
same_call i j = false

kind-is : (k l : Kind) → same_kind k l ≡ true → k ≡ l
kind-is Read Read h = refl
kind-is Put Put h = refl
kind-is Write Write h = refl
kind-is k l h = absurd cc

call-is : (i j : Intent) → same_call i j ≡ true → i ≡ j
call-is (On a (Request k n)) (On b (Request l m)) h =
    let both_of = and_parts (a == b && n == m) (same_kind k l) h in
    let numbers = and_parts (a == b) (n == m) both_of.0 in
    let channel : a ≡ b = eqb-true a b numbers.0 in
    let number : n ≡ m = eqb-true n m numbers.1 in
    let kind : k ≡ l = kind-is k l both_of.1 in
    λ t. On (channel t) (Request (kind t) (number t))
call-is (On a (Subscribe n)) (On b (Subscribe m)) h =
    let numbers = and_parts (a == b) (n == m) h in
    let channel : a ≡ b = eqb-true a b numbers.0 in
    let number : n ≡ m = eqb-true n m numbers.1 in
    λ t. On (channel t) (Subscribe (number t))
call-is (On a (Cancel n)) (On b (Cancel m)) h =
    let numbers = and_parts (a == b) (n == m) h in
    let channel : a ≡ b = eqb-true a b numbers.0 in
    let number : n ≡ m = eqb-true n m numbers.1 in
    λ t. On (channel t) (Cancel (number t))
call-is (On a Clear) (On b Clear) h = (let channel : a ≡ b = eqb-true a b h in λ t. On (channel t) Clear)
call-is i j h = absurd cc

abbrev pub intent_in : Line → Intent
intent_in (Called i e) = i
intent_in l = OfCircuit

-- the message has these elements
abbrev pub carries : Fields → Elements → Bool
carries m e = (m.data_type == base_number (base_of e) && m.count == count_of e) && bytes_eq m.payload (padded (bytes_of e))

carries-so : (m : Fields) (e : Elements) → carries m e ≡ true → Carries m e
carries-so m e h =
    let parts = and_parts (m.data_type == base_number (base_of e) && m.count == count_of e) (bytes_eq m.payload (padded (bytes_of e))) h in
    let head = and_parts (m.data_type == base_number (base_of e)) (m.count == count_of e) parts.0 in
    record { typed = eqb-true m.data_type (base_number (base_of e)) head.0; counted = eqb-true m.count (count_of e) head.1; payload = (bytes_eq-Decides m.payload (padded (bytes_of e))).0 parts.1 }

-- the message asks for this, and what is asked so may
abbrev pub asks_for : Fields → Wish → Bool
asks_for m Nothing = true
asks_for m (ToRead data_type count) = m.data_type == data_type && m.count == count
asks_for m (ToWatch data_type count mask) = (m.data_type == data_type && m.count == count) && mask_in m == mask
asks_for m (ToWrite e) = carries m e

abbrev pub may_ask : Ask → Wish → Bool
may_ask (Request Read n) (ToRead data_type count) = true
may_ask (Request Put n) (ToWrite e) = true
may_ask (Request Write n) (ToWrite e) = true
may_ask (Subscribe n) (ToWatch data_type count mask) = true
may_ask (Cancel n) Nothing = true
may_ask k a = false

asks-so : (m : Fields) (a : Wish) → asks_for m a ≡ true → AsksFor m a
asks-so m Nothing h = tt
asks-so m (ToRead data_type count) h =
    let parts = and_parts (m.data_type == data_type) (m.count == count) h in
    (eqb-true m.data_type data_type parts.0, eqb-true m.count count parts.1)
asks-so m (ToWatch data_type count mask) h =
    let parts = and_parts (m.data_type == data_type && m.count == count) (mask_in m == mask) h in
    let head = and_parts (m.data_type == data_type) (m.count == count) parts.0 in
    (eqb-true m.data_type data_type head.0, eqb-true m.count count head.1, eqb-true (mask_in m) mask parts.1)
asks-so m (ToWrite e) h = carries-so m e h

may-ask : (k : Ask) (a : Wish) → may_ask k a ≡ true → MayAsk k a
may-ask (Request Read n) (ToRead data_type count) h = tt
may-ask (Request Put n) (ToWrite e) h = tt
may-ask (Request Write n) (ToWrite e) h = tt
may-ask (Subscribe n) (ToWatch data_type count mask) h = tt
may-ask (Cancel n) Nothing h = tt
may-ask k a h = absurd cc

-- the EVENT_ADDs of these histories ask for VALUE
pub mask-is : (number id : ℕ) → mask_in (adding number id).message ≡ 1
unfolding number16
mask-is number id = refl

-- the line calls what is meant so, for what the message asks; or it clears the channel; or it opens the channel under this name
abbrev pub calls_it : ℕ → Ask → Fields → Line → Bool
calls_it a k m (Called j w) = same_call (On a k) j && (may_ask k w && asks_for m w)
calls_it a k m l = false

abbrev pub clears_it : ℕ → Line → Bool
clears_it a (Called j Nothing) = same_call (On a Clear) j
clears_it a l = false

abbrev pub opens_it : ℕ → List ℕ → Line → Bool
opens_it a name (Opened b other) = a == b && bytes_eq name other
opens_it a name l = false

line-called : (a : ℕ) (k : Ask) (m : Fields) (l : Line) → calls_it a k m l ≡ true → (w : Wish) × (l ≡ Called (On a k) w) × MayAsk k w × AsksFor m w
line-called a k m (Called j w) h =
    let parts = and_parts (same_call (On a k) j) (may_ask k w && asks_for m w) h in
    let wish = and_parts (may_ask k w) (asks_for m w) parts.1 in
    (w, ap (λ (z : Intent). Called z w) (sym (call-is (On a k) j parts.0)), may-ask k w wish.0, asks-so m w wish.1)
line-called a k m l h = absurd cc

line-cleared : (a : ℕ) (l : Line) → clears_it a l ≡ true → l ≡ Called (On a Clear) Nothing
line-cleared a (Called j Nothing) h = ap (λ (z : Intent). Called z Nothing) (sym (call-is (On a Clear) j h))
line-cleared a l h = absurd cc

line-opened : (a : ℕ) (name : List ℕ) (l : Line) → opens_it a name l ≡ true → l ≡ Opened a name
line-opened a name (Opened b other) h =
    let parts = and_parts (a == b) (bytes_eq name other) h in
    let channel : a ≡ b = eqb-true a b parts.0 in
    let named : name ≡ other = (bytes_eq-Decides name other).0 parts.1 in
    λ t. Opened (sym channel t) (sym named t)
line-opened a name l h = absurd cc

there : {A : Type 0} (t : A → Bool) (xs : List A) → any t xs ≡ true → (i : ℕ) × (v : A) × At xs i v × (t v ≡ true)
there t [] h = absurd cc
there t (x ∷ xs) h = elim (or_cases (t x) (any t xs) h) [
  | inl first ↦ (0, x, refl, first)
  | inr later ↦ (let r = there t xs later in (suc r.0, r.1, r.2, r.3))
]

so-then : (a b : Bool) → (a && not b) ≡ false → a ≡ true → b ≡ true
so-then true true h e = refl
so-then true false h e = absurd cc
so-then false b h e = absurd cc

abbrev pub has_update : Fields → Bool
has_update m = is 1 m && not (idle m.payload)

abbrev pub confirms : Fields → Bool
confirms m = is 1 m && idle m.payload

some-payload : {A : Type 0} (xs : List A) → (xs ≡ [] → ⊥) → not (idle xs) ≡ true
some-payload [] h = absurd (h refl)
some-payload (x ∷ xs) h = refl

no-payload : {A : Type 0} (xs : List A) → xs ≡ [] → idle xs ≡ true
no-payload xs e = subst (λ v. idle v ≡ true) (sym e) refl

-- ---- each part

abbrev pub told_by : Step → List Line → Bool
told_by h x = any is_called (take h.logged x) || any is_noticed (take h.logged x)

-- what is meant by the message was called
abbrev pub was_called : List Line → Intent → Fields → Bool
was_called x (On a Create) m = any (opens_it a (name_in m)) x
was_called x (On a (Request k n)) m = any (calls_it a (Request k n) m) x
was_called x (On a (Subscribe n)) m = any (calls_it a (Subscribe n) m) x
was_called x (On a (Cancel n)) m = any (calls_it a (Cancel n) m) x
was_called x (On a Clear) m = any (clears_it a) x
was_called x OfCircuit m = true

abbrev pub send_test : Sending → Circuit → List Line → List Entry → Bool
send_test part.OnChannel c x y = not (any on_channel (client_conduct c).sent)
send_test part.Cancels c x y = not (any (is 2) (client_conduct c).sent)
send_test part.Ids c x y = spread ids_clash (client_conduct c).sent
send_test part.Sids c x y = spread sids_clash (server_conduct c).sent
send_test part.Updates c x y = not (any has_update (server_conduct c).sent)
send_test part.Confirmations c x y = not (any confirms (server_conduct c).sent)
send_test part.Disconnects c x y = not (any (is 27) (server_conduct c).sent)
send_test part.HasCall c x y = not (any (λ (s : Sent). not (was_called x s.intent s.message)) c.up)
send_test part.ToldRemoved c x y = not c.server_open || not (any is_removed y)
send_test part.Apart c x y = spread (λ (s r : Sent). one_subscription s.intent r.intent) c.up
send_test part.Anew c x y = not (any (λ (h : Step). any subscribes (take h.logged x)) c.heard)
send_test part.Ended c x y = not (any (λ (s : Sent). is_subscription s.intent) c.up) || not (any (λ (h : Step). told_by h x) c.heard)
send_test part.IdsApart c x y = true
send_test part.HasAdd c x y = c.client == 0 && not (any (λ (l : Line). subscribes l && not (any (λ (s : Sent). same_call (intent_in l) s.intent) c.up)) x)

any-not : {A : Type 0} (t : A → Bool) (xs : List A) → any t xs ≡ false → (i : ℕ) (v : A) → At xs i v → t v ≡ true → ⊥
any-not t xs e i v at p = clash p (any-at t xs e i v at)

or-none : (a b : Bool) → (a || b) ≡ false → (a ≡ false) × (b ≡ false)
or-none true b h = absurd cc
or-none false b h = (refl, h)

not-true-false : (b : Bool) → not b ≡ true → b ≡ false
not-true-false true h = absurd cc
not-true-false false h = refl

apart-so : (s r : Sent) (channel number : ℕ) → s.intent ≡ On channel (Subscribe number) → r.intent ≡ On channel (Subscribe number) → one_subscription s.intent r.intent ≡ true
apart-so s r channel number e f = subst (λ (i : Intent). one_subscription i r.intent ≡ true) (sym e) (subst (λ (i : Intent). one_subscription (On channel (Subscribe number)) i ≡ true) (sym f) (one-subscription channel number))

was-asked : (x : List Line) (a : ℕ) (k : Ask) (m : Fields) → any (calls_it a k m) x ≡ true → (w : Wish) × In x (Called (On a k) w) × MayAsk k w × AsksFor m w
was-asked x a k m h =
    let it = there (calls_it a k m) x h in
    let line = line-called a k m it.1 it.3 in
    (line.0, (it.0, subst (λ (l : Line). At x it.0 l) line.1 it.2), line.2, line.3)

was-cleared : (x : List Line) (a : ℕ) → any (clears_it a) x ≡ true → In x (Called (On a Clear) Nothing)
was-cleared x a h = (let it = there (clears_it a) x h in (it.0, subst (λ (l : Line). At x it.0 l) (line-cleared a it.1 it.3) it.2))

was-called : (c : Circuit) (x : List Line) (k : ℕ) (i : Intent) (m : Fields) → was_called x i m ≡ true → WasCalled c x k i m
was-called c x k (On a Create) m h = (let it = there (opens_it a (name_in m)) x h in (it.0, subst (λ (l : Line). At x it.0 l) (line-opened a (name_in m) it.1 it.3) it.2))
was-called c x k (On a (Request kind n)) m h = was-asked x a (Request kind n) m h
was-called c x k (On a (Subscribe n)) m h = was-asked x a (Subscribe n) m h
was-called c x k (On a (Cancel n)) m h = was-asked x a (Cancel n) m h
was-called c x k (On a Clear) m h = inl (was-cleared x a h)
was-called c x k OfCircuit m h = tt

called-in : (c : Circuit) (x : List Line) → not (any (λ (s : Sent). not (was_called x s.intent s.message)) c.up) ≡ true → (k : ℕ) (s : Sent) → At c.up k s → WasCalled c x k s.intent s.message
called-in c x t k s at =
    was-called c x k s.intent s.message
    (not-false (was_called x s.intent s.message) (any-at (λ (z : Sent). not (was_called x z.intent z.message)) c.up (not-true-false _ t) k s at))

pub quiet-sent : (p : Sending) (c : Circuit) (x : List Line) (y : List Entry) → send_test p c x y ≡ true → SentSo p 0 c x y
quiet-sent part.OnChannel c x y t = λ k m at on. absurd (none on_channel (client_conduct c).sent t k m at (on-channel-so m on))
quiet-sent part.Cancels c x y t = λ k m at e. absurd (none (is 2) (client_conduct c).sent t k m at (is-so 2 m e))
quiet-sent part.Ids c x y t = λ l k r m a b lt p q g h s. absurd (spread-at ids_clash (client_conduct c).sent t l k r m lt p q (ids-so r m a b g h s))
quiet-sent part.Sids c x y t = λ i k a b m r lt p q g h s. absurd (spread-at sids_clash (server_conduct c).sent t i k m r lt p q (both (is 18 m) (is 18 r) _ (is-so 18 m g.0) (is-so 18 r h.0) (same m.p2 r.p2 a b g.1 h.1 s)))
quiet-sent part.Updates c x y t = λ k m at e full. absurd (none has_update (server_conduct c).sent t k m at (and_from (is 1 m) (not (idle m.payload)) (is-so 1 m e) (some-payload m.payload full)))
quiet-sent part.Confirmations c x y t = λ k m at e empty. absurd (none confirms (server_conduct c).sent t k m at (and_from (is 1 m) (idle m.payload) (is-so 1 m e) (no-payload m.payload empty)))
quiet-sent part.Disconnects c x y t = λ k m at e. absurd (none (is 27) (server_conduct c).sent t k m at (is-so 27 m e))
quiet-sent part.HasCall c x y t = called-in c x t
quiet-sent part.ToldRemoved c x y t = λ j k sid r e made gone uncleared up.
    absurd (elim (or_cases (not c.server_open) (not (any is_removed y)) t) [
      | inl a ↦ clash up (not-true-false c.server_open a)
      | inr a ↦ none is_removed y a e _ gone refl
    ])
quiet-sent part.Apart c x y t = λ k l channel number lt a b. absurd (spread-at (λ (s r : Sent). one_subscription s.intent r.intent) c.up t k l a.0 b.0 lt a.1 b.1 (apart-so a.0 b.0 channel number a.2 b.2))
quiet-sent part.Anew c x y t = λ channel k number h live standing. absurd (any-not subscribes (take h.logged x) (any-at (λ (g : Step). any subscribes (take g.logged x)) c.heard (not-true-false _ t) live.0 h live.8) standing.0.1.0 _ standing.0.1.1 refl)
quiet-sent part.Ended c x y t = λ channel k l number h live lt meant.
    elim (or_cases (not (any (λ (s : Sent). is_subscription s.intent) c.up)) (not (any (λ (g : Step). told_by g x) c.heard)) t) [
      | inl a ↦ absurd (none (λ (s : Sent). is_subscription s.intent) c.up a l meant.0 meant.1 (ap is_subscription meant.2))
      | inr a ↦
          let told = or-none (any is_called (take h.logged x)) (any is_noticed (take h.logged x)) (any-at (λ (g : Step). told_by g x) c.heard (not-true-false _ a) live.0 h live.8) in (
            ((λ g. any-not is_called (take h.logged x) told.0 g.0 _ g.1 refl), (λ g. any-not is_called (take h.logged x) told.0 g.0 _ g.1 refl)),
            λ o g. any-not is_noticed (take h.logged x) told.1 g.0 _ g.1 refl,
          )
    ]
quiet-sent part.HasAdd c x y t = tt
quiet-sent part.IdsApart c x y t = tt

pub quiet-called : (p : Sending) (c : Circuit) (x : List Line) (y : List Entry) → send_test p c x y ≡ true → CalledSo p (world (c ∷ []) x y) 0 x
quiet-called part.HasAdd c x y t = λ channel number h.
    let intent : Intent = On channel (Subscribe number) in
    let parts = and_parts (c.client == 0) _ t in
    let missing = any-at (λ (l : Line). subscribes l && not (any (λ (s : Sent). same_call (intent_in l) s.intent) c.up)) x (not-true-false _ parts.1) h.1.0 (Called intent h.0) h.1.1 in
    let it = there (λ (s : Sent). same_call intent s.intent) c.up (so-then true (any (λ (s : Sent). same_call intent s.intent) c.up) missing refl) in
    (0, it.0, (c, refl, eqb-true c.client 0 parts.0, (it.1, it.2, sym (call-is intent (it.1).intent it.3))))
quiet-called p c x y t = tt

-- ---- a world of one circuit between the first lives

-- on one circuit alone nothing is held on two
pub one-apart : (w : World) (c : Circuit) → w.circuits ≡ c ∷ [] → IdsAreApart w
one-apart w c is n m l k d e s r a b lt at_d at_e same open_d open_e at_s at_r gives_s gives_r index =
    let i = (one-at c n d (subst (λ (v : List Circuit). At v n d) is at_d)).0 in
    let j = (one-at c m e (subst (λ (v : List Circuit). At v m e) is at_e)).0 in
    absurd (omega (arith, i, j, lt))

quiet-held : (p : Sending) (c : Circuit) (x : List Line) (y : List Entry) → HeldSo p (world (c ∷ []) x y)
quiet-held part.IdsApart c x y = one-apart (world (c ∷ []) x y) c refl
quiet-held p c x y = tt

pub sends : (p : Sending) (c : Circuit) (x : List Line) (y : List Entry) → c.client ≡ 0 → c.server ≡ 0 → SentSo p 0 c x y → CalledSo p (world (c ∷ []) x y) 0 x → MaySend p (world (c ∷ []) x y)
sends p c x y e f a b = (of-circuit AnyDue (SentSo p) c x y e f a, of-life AnyDue (CalledSo p (world (c ∷ []) x y)) c x y b, quiet-held p c x y)

pub quiet-sends : (p : Sending) (c : Circuit) (x : List Line) (y : List Entry) → c.client ≡ 0 → c.server ≡ 0 → send_test p c x y ≡ true → MaySend p (world (c ∷ []) x y)
quiet-sends p c x y e f t = sends p c x y e f (quiet-sent p c x y t) (quiet-called p c x y t)

-- what a part says of the only circuit
pub its-sent : (p : Sending) (c : Circuit) (x : List Line) (y : List Entry) → c.client ≡ 0 → c.server ≡ 0 → OfCircuits (world (c ∷ []) x y) (SentSo p) → SentSo p 0 c x y
its-sent p c x y e f all = its AnyDue (world (c ∷ []) x y) (SentSo p) all 0 c x y (refl, subst (λ (k : ℕ). At (x ∷ []) k x) (sym e) refl, subst (λ (k : ℕ). At (y ∷ []) k y) (sym f) refl)

-- The parts are the whole, and the whole has each.
pub all-legal : (w : World) → ((p : Sending) → MaySend p w) → Legal w
all-legal w each = record {
  circuits = λ n c at. (let h = (each part.OnChannel).0 n c at in (
    h.0,
    h.1,
    h.2,
    record {
      client = record {
        on_channel = h.3;
        cancels = its AnyDue w (SentSo part.Cancels) (each part.Cancels).0 n c h.0 h.1 h.2;
        ids = its AnyDue w (SentSo part.Ids) (each part.Ids).0 n c h.0 h.1 h.2;
      };
      server = record {
        sids = its AnyDue w (SentSo part.Sids) (each part.Sids).0 n c h.0 h.1 h.2;
        updates = its AnyDue w (SentSo part.Updates) (each part.Updates).0 n c h.0 h.1 h.2;
        confirmations = its AnyDue w (SentSo part.Confirmations) (each part.Confirmations).0 n c h.0 h.1 h.2;
        disconnects = its AnyDue w (SentSo part.Disconnects) (each part.Disconnects).0 n c h.0 h.1 h.2;
      };
      called = its AnyDue w (SentSo part.HasCall) (each part.HasCall).0 n c h.0 h.1 h.2;
      told = its AnyDue w (SentSo part.ToldRemoved) (each part.ToldRemoved).0 n c h.0 h.1 h.2;
      apart = its AnyDue w (SentSo part.Apart) (each part.Apart).0 n c h.0 h.1 h.2;
      renewed = its AnyDue w (SentSo part.Anew) (each part.Anew).0 n c h.0 h.1 h.2;
      ended = its AnyDue w (SentSo part.Ended) (each part.Ended).0 n c h.0 h.1 h.2;
    },
  ));
  subscriptions = (each part.HasAdd).1;
  ids = (each part.IdsApart).2;
}

pub each-legal : (w : World) → Legal w → (p : Sending) → MaySend p w
each-legal w l part.OnChannel = (λ n c at. (let h = l.circuits n c at in (h.0, h.1, h.2, h.3.client.on_channel)), (λ life x at. tt), tt)
each-legal w l part.Cancels = (λ n c at. (let h = l.circuits n c at in (h.0, h.1, h.2, h.3.client.cancels)), (λ life x at. tt), tt)
each-legal w l part.Ids = (λ n c at. (let h = l.circuits n c at in (h.0, h.1, h.2, h.3.client.ids)), (λ life x at. tt), tt)
each-legal w l part.Sids = (λ n c at. (let h = l.circuits n c at in (h.0, h.1, h.2, h.3.server.sids)), (λ life x at. tt), tt)
each-legal w l part.Updates = (λ n c at. (let h = l.circuits n c at in (h.0, h.1, h.2, h.3.server.updates)), (λ life x at. tt), tt)
each-legal w l part.Confirmations = (λ n c at. (let h = l.circuits n c at in (h.0, h.1, h.2, h.3.server.confirmations)), (λ life x at. tt), tt)
each-legal w l part.Disconnects = (λ n c at. (let h = l.circuits n c at in (h.0, h.1, h.2, h.3.server.disconnects)), (λ life x at. tt), tt)
each-legal w l part.HasCall = (λ n c at. (let h = l.circuits n c at in (h.0, h.1, h.2, h.3.called)), (λ life x at. tt), tt)
each-legal w l part.ToldRemoved = (λ n c at. (let h = l.circuits n c at in (h.0, h.1, h.2, h.3.told)), (λ life x at. tt), tt)
each-legal w l part.Apart = (λ n c at. (let h = l.circuits n c at in (h.0, h.1, h.2, h.3.apart)), (λ life x at. tt), tt)
each-legal w l part.Anew = (λ n c at. (let h = l.circuits n c at in (h.0, h.1, h.2, h.3.renewed)), (λ life x at. tt), tt)
each-legal w l part.Ended = (λ n c at. (let h = l.circuits n c at in (h.0, h.1, h.2, h.3.ended)), (λ life x at. tt), tt)
each-legal w l part.HasAdd = (λ n c at. (let h = l.circuits n c at in (h.0, h.1, h.2, tt)), l.subscriptions, tt)
each-legal w l part.IdsApart = (λ n c at. (let h = l.circuits n c at in (h.0, h.1, h.2, tt)), (λ life x at. tt), l.ids)

-- no EVENT_ADD is refused where no ERROR is sent
pub unrefused : (e : Conduct) → not (any (is 11) e.sent) ≡ true → (j : ℕ) (add : Fields) → IsRefused e j add → ⊥
unrefused e t j add r = none (is 11) e.sent t r.1 r.2 r.4 (is-so 11 r.2 r.6.0)

-- ---- a message on the channel

-- What a client sends on SID 5, once it read the creation's reply, and with no clear sent and no SERVER_DISCONN come.
pub on-sid : (e : Conduct) (b : ℕ) → At e.sent 0 creating.message → At e.came 0 created_told.message → At e.read 0 b → 0 < b → not (any (is 12) e.sent) ≡ true → not (any (is 27) e.came) ≡ true → (k : ℕ) (m : Fields) → At e.sent k m → b ≤ k → sid_in m ≡ 5
    → (i j cid : ℕ) × HasChannel e k i j cid (sid_in m) × ((Is command.ClearChannel m × (m.p2 ≡ cid)) ⊎ ((Is command.ClearChannel m → ⊥) × ((l : ℕ) (r : Fields) → j < l → ReadsBetween e i k l r → IsDisconnect cid r → ⊥)))
on-sid e b sent came read early clear gone k m at late sid = (
  0,
  0,
  1,
  (creating.message, created_told.message, sent, (refl, refl), (b, came, read, early, late), (refl, sym sid), refl, λ l r after before here clears same. none (is 12) e.sent clear l r here (is-so 12 r clears.0)),
  inr ((λ c. none (is 12) e.sent clear k m at (is-so 12 m c)), (λ l r after reads d. none (is 27) e.came gone l r reads.1 (is-so 27 r d.0))),
)

-- So it is of all that a client sends, if all but the first, a CREATE_CHAN, go on SID 5 and after that reply.
pub all-on-sid : (c : Circuit) (x : List Line) (y : List Entry) (m : Fields) (ms : List Fields) (b : ℕ) → (client_conduct c).sent ≡ creating.message ∷ m ∷ ms → At (client_conduct c).came 0 created_told.message → At (client_conduct c).read 0 b → b ≡ 1 → not (any (is 12) (client_conduct c).sent) ≡ true → not (any (is 27) (client_conduct c).came) ≡ true
    → not (any (λ (r : Fields). not (r.p1 == 5)) (m ∷ ms)) ≡ true → SentSo part.OnChannel 0 c x y
all-on-sid c x y m ms b sent came read one clear gone sids = λ k r at on. first k r at on
  where
    first : (k : ℕ) (r : Fields) → At (client_conduct c).sent k r → IsOnChannel r → (i j cid : ℕ) × HasChannel (client_conduct c) k i j cid (sid_in r)
        × ((Is command.ClearChannel r × (r.p2 ≡ cid)) ⊎ ((Is command.ClearChannel r → ⊥) × ((l : ℕ) (z : Fields) → j < l → ReadsBetween (client_conduct c) i k l z → IsDisconnect cid z → ⊥)))
    first zero r at on = absurd (clash (on-channel-so r on) (ap on_channel (sym (some_is creating.message r (subst (λ (s : List Fields). At s 0 r) sent at)))))
    first (suc k) r at on = on-sid (client_conduct c) b (subst (λ (s : List Fields). At s 0 creating.message) (sym sent) refl) came read (omega (arith, one)) clear gone (suc k) r at (omega (arith, one)) (eqb-true r.p1 5 (not-false (r.p1 == 5) (any-at (λ (z : Fields). not (z.p1 == 5)) (m ∷ ms) (not-true-false _ sids) k r (subst (λ (s : List Fields). At s (suc k) r) sent at))))
