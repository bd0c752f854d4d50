-- A client's names, as its tables change: what they name stays what was given, and each
-- channel keeps its number.
use Rattle.std.proofs.Common.{◌≡◌, ℕ, zero, suc, ◌+◌, ◌≤◌, inl, inr, Bool, true, false, cond, List, [], ◌∷◌, ◌++◌, length, Option, Some, refl, sym, ap, ◌∙◌, subst, arith}
use Rattle.std.specs.Prelude.{find, option_map, unwrap_or}
use Rattle.ca_text.specs.Limits.{arena_slots}
use Rattle.ca_text.specs.Place.{At}
use Rattle.ca_text.proofs.Places.{At-append, At-last, At-snoc}
use Rattle.ca_arena.specs.declared.handle.Handle.{Handle}
use Rattle.ca_ids.specs.Table.{MayGive, Table, same_handle, with_held}
use Rattle.ca_monitor.specs.Subscriptions.{Subscription}
use Rattle.ca_requests.specs.Calls.{new_request}
use Rattle.ca_requests.specs.Requests.{Asked}
use Rattle.ca_model.specs.Client.{Channel, Client, Searching}
use Rattle.ca_model.specs.ClientCalls.{LiveChannel, Opening, issued, opened}
use Rattle.ca_model.specs.History.{Intent}
use Rattle.ca_model.specs.History as history
use Rattle.ca_model.specs.ClientEvents.{meant_by, place_of}
use Rattle.ca_model.specs.World.{Names}
use Rattle.ca_laws_parts.specs.Held.{with_request, with_subscription}
use Rattle.ca_laws_parts.proofs.CircuitCalls.{meant-own}
use Rattle.ca_model.proofs.Handles.{same-is, same-itself}
use Rattle.ca_model.proofs.Tables.{held-back, held-few}
use Rattle.ca_laws_parts.specs.Circuit.{AreGiven}
use Rattle.ca_model.specs.Placed.{WasGiven}
use Rattle.ca_laws_parts.specs.Client.{IsNamed}
use Rattle.ca_laws_parts.proofs.RunsSending.{new-name, place-passes}
use Rattle.ca_model.proofs.Thinner.{given-held, given-own, given-thin}
use Rattle.ca_model.proofs.Thinner.{Thins}

-- ---- all three tables of a client

few-as : (a b : ℕ) → b ≡ a → a ≤ arena_slots → b ≤ arena_slots
few-as a b same le = omega (arith, same, le)

-- nothing new holds an id: names stay good
pub named-thins : (n : Names) (x y : Client) → Thins x y → IsNamed n x → IsNamed n y
named-thins n x y thins named = record {
  few = record {
    channels = few-as (length x.channels) (length y.channels) thins.channels.few named.few.channels;
    requests = few-as (length x.requests) (length y.requests) thins.requests.few named.few.requests;
    subscriptions = few-as (length x.subscriptions) (length y.subscriptions) thins.subscriptions.few named.few.subscriptions;
  };
  numbered = λ h ch is. (let was = thins.channels.back h ch is in named.numbered h was.0 was.1);
  requests = λ i e at. given-thin x.requests y.requests e.0 thins.requests (named.requests i e at);
  subscriptions = λ i e at. given-thin x.subscriptions y.subscriptions e.0 thins.subscriptions (named.subscriptions i e at);
  meant = λ g d is. (let was = thins.subscriptions.back g d is in named.meant g was.0 was.1);
}

-- ---- names that grow

-- what passes a test is at the first place that does, and stays there
pub place-there : {A : Type 0} (test : A → Bool) (xs ys : List A) (y : A) → At xs (place_of test xs) y → place_of test (xs ++ ys) ≡ place_of test xs
place-there test [] ys y at = absurd cc
place-there {A} test (x ∷ xs) ys y at = go (test x) refl at (place-there test xs ys y)
  where
    go : (b : Bool) → test x ≡ b → At (x ∷ xs) (cond b 0 (place_of test xs + 1)) y → (At xs (place_of test xs) y → place_of test (xs ++ ys) ≡ place_of test xs)
        → cond b 0 (place_of test (xs ++ ys) + 1) ≡ cond b 0 (place_of test xs + 1)
    go true is h rest = refl
    go false is h rest =
        let e : place_of test xs + 1 ≡ suc (place_of test xs) = omega arith in
        ap (λ (k : ℕ). k + 1) (rest (subst (λ (k : ℕ). At (x ∷ xs) k y) e h))

place-found : {A : Type 0} (test : A → Bool) (xs : List A) (i : ℕ) (y : A) → At xs i y → test y ≡ true → (z : A) × At xs (place_of test xs) z
place-found test [] i y at passes = absurd cc
place-found {A} test (x ∷ xs) zero y at passes = (
  x,
  (let is : test x ≡ true = ap (λ (o : Option A). unwrap_or (option_map test o) true) at ∙ passes in
      subst (λ (b : Bool). At (x ∷ xs) (cond b 0 (place_of test xs + 1)) x) (sym is) refl),
)
place-found {A} test (x ∷ xs) (suc i) y at passes = (let r = place-found test xs i y at passes in go (test x) r.0 r.1)
  where
    go : (b : Bool) (z : A) → At xs (place_of test xs) z → (z : A) × At (x ∷ xs) (cond b 0 (place_of test xs + 1)) z
    go true z h = (x, refl)
    go false z h = (z, (let e : suc (place_of test xs) ≡ place_of test xs + 1 = omega arith in subst (λ (k : ℕ). At (x ∷ xs) k z) e h))

-- a channel keeps its number as another is opened
pub number-still : (channels : List Handle) (q h : Handle) → At channels (place_of (same_handle h) channels) h → At (channels ++ q ∷ []) (place_of (same_handle h) (channels ++ q ∷ [])) h
number-still channels q h at =
    subst (λ (k : ℕ). At (channels ++ q ∷ []) k h) (sym (place-there (same_handle h) channels (q ∷ []) h at)) (At-append channels (q ∷ []) (place_of (same_handle h) channels) h at)

number-own : (channels : List Handle) (q : Handle) → At (channels ++ q ∷ []) (place_of (same_handle q) (channels ++ q ∷ [])) q
number-own channels q =
    let r = place-found (same_handle q) (channels ++ q ∷ []) (length channels) q (At-last channels q) (same-itself q) in
    let same : q ≡ r.0 = same-is q r.0 (place-passes (same_handle q) (channels ++ q ∷ []) r.0 r.1) in
    subst (λ (k : Handle). At (channels ++ q ∷ []) (place_of (same_handle q) (channels ++ q ∷ [])) k) (sym same) r.1

abbrev intent_in : Option (Handle × Intent) → Intent
intent_in o = unwrap_or (option_map (λ (x : Handle × Intent). x.1) o) history.OfCircuit

-- what is meant by a handle stays so as another name is given
pub meant-more : (names : List (Handle × Intent)) (y : Handle × Intent) (g : Handle) (channel number : ℕ) → meant_by names g ≡ history.On channel (history.Subscribe number) → meant_by (names ++ y ∷ []) g ≡ history.On channel (history.Subscribe number)
meant-more [] y g channel number is = absurd (nothing is)
  where
    nothing : history.OfCircuit ≡ history.On channel (history.Subscribe number) → ⊥
    nothing e = cc
meant-more (z ∷ names) y g channel number is = go (same_handle z.0 g) is (meant-more names y g channel number)
  where
    go : (b : Bool) → intent_in (cond b (Some z) (find (λ (x : Handle × Intent). same_handle x.0 g) names)) ≡ history.On channel (history.Subscribe number)
        → (meant_by names g ≡ history.On channel (history.Subscribe number) → meant_by (names ++ y ∷ []) g ≡ history.On channel (history.Subscribe number))
        → intent_in (cond b (Some z) (find (λ (x : Handle × Intent). same_handle x.0 g) (names ++ y ∷ []))) ≡ history.On channel (history.Subscribe number)
    go true h rest = h
    go false h rest = rest h

-- a handle that is given is named, and the others still are
given-more : {T : Type 0} (names : List (Handle × Intent)) (t : Table T) (q : Handle) (v : T) (intent : Intent) → MayGive t q → AreGiven names t → AreGiven (names ++ (q, intent) ∷ []) (with_held q v t)
given-more names t q v intent may given i e at = elim (At-snoc names (q, intent) i e at) [
  | inl old ↦ given-held t e.0 q v may (given i e old)
  | inr new ↦ subst (λ (h : Handle). WasGiven (with_held q v t) h) (ap (λ (w : Handle × Intent). w.0) (sym new.1)) (given-own t q v may)
]

-- a channel is opened
pub named-opened : (n : Names) (x : Client) (a : Opening) (h : Handle) → MayGive x.channels h → IsNamed n x → IsNamed (record n { channels = n.channels ++ h ∷ [] }) (opened a h x)
named-opened n x a h may named =
    let v : Channel = record { name = a.name; priority = a.priority; standing = Searching } in
    record {
      few = record { channels = held-few x.channels h v may named.few.channels; requests = named.few.requests; subscriptions = named.few.subscriptions };
      numbered = λ g ch is. elim (held-back x.channels g h v ch is) [
        | inl own ↦ subst (λ (k : Handle). At (n.channels ++ h ∷ []) (place_of (same_handle k) (n.channels ++ h ∷ [])) k) (sym own.0) (number-own n.channels h)
        | inr old ↦ number-still n.channels h g (named.numbered g ch old)
      ];
      requests = named.requests;
      subscriptions = named.subscriptions;
      meant = named.meant;
    }

-- a request is issued
pub named-issued : (n : Names) (x : Client) (h : Handle) (l : LiveChannel) (asked : Asked) (q : Handle) (intent : Intent) → MayGive x.requests q → IsNamed n x → IsNamed (with_request q intent n) (issued h l asked q x)
named-issued n x h l asked q intent may named =
    let r = new_request h l.circuit asked in
    record {
      few = record { channels = named.few.channels; requests = held-few x.requests q r may named.few.requests; subscriptions = named.few.subscriptions };
      numbered = named.numbered;
      requests = given-more n.requests x.requests q r intent may named.requests;
      subscriptions = named.subscriptions;
      meant = named.meant;
    }

-- a subscription is
pub named-subscribed : (n : Names) (x : Client) (q : Handle) (d : Subscription) (channel number : ℕ) → MayGive x.subscriptions q → IsNamed n x
    → IsNamed (with_subscription q (history.On channel (history.Subscribe number)) n) (record x { subscriptions = with_held q d x.subscriptions })
named-subscribed n x q d channel number may named =
    let intent : Intent = history.On channel (history.Subscribe number) in
    record {
      few = record { channels = named.few.channels; requests = named.few.requests; subscriptions = held-few x.subscriptions q d may named.few.subscriptions };
      numbered = named.numbered;
      requests = named.requests;
      subscriptions = given-more n.subscriptions x.subscriptions q d intent may named.subscriptions;
      meant = λ g w is. elim (held-back x.subscriptions g q d w is) [
        | inl own ↦
            let new : meant_by (n.subscriptions ++ (q, intent) ∷ []) q ≡ intent = meant-own n.subscriptions q intent (new-name n.subscriptions x.subscriptions q named.subscriptions may) in
            (channel, number, subst (λ (k : Handle). meant_by (n.subscriptions ++ (q, intent) ∷ []) k ≡ intent) (sym own.0) new)
        | inr old ↦ (let m = named.meant g w old in (m.0, m.1, meant-more n.subscriptions (q, intent) g m.0 m.1 m.2))
      ];
    }

-- a plain write gets a number
pub named-wrote : (n : Names) (x : Client) (writes : ℕ) → IsNamed n x → IsNamed (record n { writes = writes }) x
named-wrote n x writes named =
    record { few = named.few; numbered = named.numbered; requests = named.requests; subscriptions = named.subscriptions; meant = named.meant }
