-- A caller reads or puts on a live channel: its message goes out, and a request holds its IOID.
use Rattle.std.proofs.Common.{◌≡◌, ℕ, inl, inr, Bool, true, false, cond, List, [], ◌∷◌, ◌++◌, length, Option, Some, None, refl, sym, ap, ◌∙◌, subst, arith}
use Rattle.std.specs.Prelude.{find, is_some, option_map, unwrap_or}
use Rattle.ca_text.proofs.Places.{At-last, At-one}
use Rattle.ca_arena.specs.declared.handle.Handle.{Handle}
use Rattle.ca_ids.specs.Table.{MayGive, same_handle, with_held}
use Rattle.ca_ids.specs.Wire.{wire_of}
use Rattle.ca_requests.specs.Requests.{Asked, Request, was_sent_on}
use Rattle.ca_requests.specs.Requests as request
use Rattle.ca_model.specs.Answers.{Sending}
use Rattle.ca_model.specs.Client.{Client, is_on_in, sending}
use Rattle.ca_model.specs.ClientCalls.{LiveChannel, issued}
use Rattle.ca_model.specs.Speech.{Id, Cid, Ioid, SubId, Gives}
use Rattle.ca_model.specs.History.{Circuit, Intent, Kind, On, OfCircuit, Sent}
use Rattle.ca_model.specs.History as history
use Rattle.ca_model.specs.Channels.{Suits, named}
use Rattle.ca_model.specs.ClientEvents.{meant_by}
use Rattle.ca_model.specs.World.{Names}
use Rattle.ca_laws_parts.specs.Flows.{Concerns, IsPending, MaySend, MeansOwn, with_sent}
use Rattle.ca_laws_parts.specs.Held.{Holds, HoldsRequests, IsAsking, IsNew, has_id, is_asked, with_request}
use Rattle.ca_model.proofs.Handles.{same-itself}
use Rattle.ca_laws_parts.proofs.Held.{ids-sent}
use Rattle.ca_laws_parts.proofs.Requests.{given-new, issue-fresh, requests-issued}

not-asking : (s : Sent) (a : ℕ) → IsAsking s → s.message.command ≡ a → (15 ≡ a → ⊥) → (19 ≡ a → ⊥) → ⊥
not-asking s a is e no15 no19 = elim is [
  | inl r ↦ no15 (sym r ∙ e)
  | inr w ↦ no19 (sym w ∙ e)
]

asks-gives : (s : Sent) (id : Id) → IsAsking s → Gives s.message id → id ≡ Ioid s.message.p2
asks-gives s (Ioid n) is g = ap Ioid (sym g.1)
asks-gives s (Cid n) is g = absurd (not-asking s 18 is g.0 (λ e. omega (arith, e)) (λ e. omega (arith, e)))
asks-gives s (SubId n) is g = absurd (not-asking s 1 is g.0 (λ e. omega (arith, e)) (λ e. omega (arith, e)))

asks-concerns : (c : Circuit) (s : Sent) (id : Id) → IsAsking s → Concerns (c.up ++ s ∷ []) (length c.up) id → id ≡ Ioid s.message.p2
asks-concerns c s id is concerns =
    let same : concerns.0 ≡ s = At-one (c.up ++ s ∷ []) (length c.up) concerns.0 s concerns.1 (At-last c.up s) in
    let command : concerns.0.message.command ≡ s.message.command = ap (λ (x : Sent). x.message.command) same in
    elim concerns.2 [
      | inl gives ↦ asks-gives s id is (subst (λ (x : Sent). Gives x.message id) same gives)
      | inr (inl clears) ↦ absurd (not-asking s 12 is (sym command ∙ clears.0) (λ e. omega (arith, e)) (λ e. omega (arith, e)))
      | inr (inr (inl cancels)) ↦ absurd (not-asking s 2 is (sym command ∙ cancels.0) (λ e. omega (arith, e)) (λ e. omega (arith, e)))
      | inr (inr (inr writes)) ↦ absurd (not-asking s 4 is (sym command ∙ writes.0) (λ e. omega (arith, e)) (λ e. omega (arith, e)))
    ]

ioid-is : (a b : ℕ) → Ioid a ≡ Ioid b → a ≡ b
ioid-is a b e = cc

no-cid : (a b : ℕ) → Cid a ≡ Ioid b → ⊥
no-cid a b e = cc

no-sub : (a b : ℕ) → SubId a ≡ Ioid b → ⊥
no-sub a b e = cc

-- ---- names

find-more : (named : List (Handle × Intent)) (y : Handle × Intent) (g : Handle) (o : Option (Handle × Intent)) → find (λ (x : Handle × Intent). same_handle x.0 g) named ≡ o
    → find (λ (x : Handle × Intent). same_handle x.0 g) (named ++ y ∷ []) ≡ cond (is_some o) o (find (λ (x : Handle × Intent). same_handle x.0 g) (y ∷ []))
find-more [] y g o is = subst (λ (o : Option (Handle × Intent)). find (λ (x : Handle × Intent). same_handle x.0 g) (y ∷ []) ≡ cond (is_some o) o (find (λ (x : Handle × Intent). same_handle x.0 g) (y ∷ []))) is refl
find-more (z ∷ named) y g o is = go (same_handle z.0 g) is (find-more named y g)
  where
    go : (b : Bool) → cond b (Some z) (find (λ (x : Handle × Intent). same_handle x.0 g) named) ≡ o
        → ((o : Option (Handle × Intent)) → find (λ (x : Handle × Intent). same_handle x.0 g) named ≡ o → find (λ (x : Handle × Intent). same_handle x.0 g) (named ++ y ∷ []) ≡ cond (is_some o) o (find (λ (x : Handle × Intent). same_handle x.0 g) (y ∷ [])))
        → cond b (Some z) (find (λ (x : Handle × Intent). same_handle x.0 g) (named ++ y ∷ [])) ≡ cond (is_some o) o (find (λ (x : Handle × Intent). same_handle x.0 g) (y ∷ []))
    go true e rest = subst (λ (o : Option (Handle × Intent)). Some z ≡ cond (is_some o) o (find (λ (x : Handle × Intent). same_handle x.0 g) (y ∷ []))) e refl
    go false e rest = rest o e

abbrev intent-in : Option (Handle × Intent) → Intent
intent-in o = unwrap_or (option_map (λ (x : Handle × Intent). x.1) o) OfCircuit

-- a new name names its own, and the others name what they did
pub meant-own : (named : List (Handle × Intent)) (q : Handle) (intent : Intent) → IsNew named q → meant_by (named ++ (q, intent) ∷ []) q ≡ intent
meant-own named q intent new =
    ap intent-in (find-more named (q, intent) q None new)
    ∙ ap (λ (b : Bool). intent-in (cond b (Some (q, intent)) None)) (same-itself q)

pub meant-others : (id : Id) (number : ℕ) (names : List (Handle × Intent)) (y : Handle × Intent) (g : Handle) → named id (meant_by names g) ≡ Some number → (named id OfCircuit ≡ None) → named id (meant_by (names ++ y ∷ []) g) ≡ Some number
meant-others id number names y g is none = go (find (λ (x : Handle × Intent). same_handle x.0 g) names) refl is
  where
    go : (o : Option (Handle × Intent)) → find (λ (x : Handle × Intent). same_handle x.0 g) names ≡ o → named id (intent-in o) ≡ Some number → named id (meant_by (names ++ y ∷ []) g) ≡ Some number
    go (Some e) found f = ap (λ (o : Option (Handle × Intent)). named id (intent-in o)) (find-more names y g (Some e) found) ∙ f
    go None found f = absurd (nothing (sym none ∙ f))
      where
        nothing : let a : Option ℕ = None in let b : Option ℕ = Some number in a ≡ b → ⊥
        nothing e = cc

-- ---- the call

module _ (Awaits : ℕ → Type 0) (on : Handle) (n : Names) (x : Client) (c : Circuit) (s : Sent) (q : Handle) (kind : Kind) (channel number : ℕ)
    (asks : IsAsking s) (wire : s.message.p2 ≡ wire_of q) (means : s.intent ≡ On channel (history.Request kind number)) (suits : Suits s.intent s.message)
    (may : MayGive x.requests q) (new : IsNew n.requests q) (holds : Holds Awaits on n x c) where
  abbrev ioid : Id
  ioid = Ioid (wire_of q)

  gives : Gives s.message ioid
  gives = (asks, wire)

  number-is : named ioid s.intent ≡ Some number
  number-is = ap (named ioid) means

  pub call-may : MaySend Awaits c s
  call-may = record {
    suits = suits;
    fresh = λ p id given pending.
        let is : id ≡ ioid = asks-gives s id asks given ∙ ap Ioid wire in
        issue-fresh on (meant_by n.requests) Awaits x.requests c q may holds.requests p (subst (λ (y : Id). IsPending Awaits c p y) is pending);
    means = λ id concerns.
        let is : id ≡ ioid = asks-concerns c s id asks concerns ∙ ap Ioid wire in
        subst (λ (y : Id). MeansOwn (c.up ++ s ∷ []) (length c.up) y) (sym is)
        (length c.up, number, s, given-new c s ioid number gives number-is, omega arith, At-last c.up s, number-is);
  }

  abbrev names : Names
  names = with_request q s.intent n

  renamed : HoldsRequests Awaits on (meant_by names.requests) x.requests c
  renamed = record {
    few = holds.requests.few;
    busy = holds.requests.busy;
    own = λ g r is here.
        let m = holds.requests.own g r is here in
        (m.0, m.1, m.2, meant-others (Ioid (wire_of g)) m.1 n.requests (q, s.intent) g m.3 refl);
  }

  pub call-holds : (r : Request) → was_sent_on on r ≡ true → (HoldsRequests Awaits on (meant_by names.requests) (with_held q r x.requests) (with_sent s c))
  call-holds r sent =
      requests-issued on (meant_by names.requests) Awaits x.requests c q r s number may sent gives (meant-own n.requests q s.intent new) number-is renamed

  pub call-keeps : (h : Handle) (l : LiveChannel) (asked : Asked) (y : Sending) → l.circuit ≡ on → Holds Awaits on names (sending (y ∷ []) (issued h l asked q x)) (with_sent s c)
  call-keeps h l asked y is = record {
    channels =
        ids-sent Cid _ Awaits (is_on_in is_asked on) x.channels c s (λ m g. no-cid m s.message.p2 (asks-gives s (Cid m) asks g))
        (λ m concerns. absurd (no-cid m s.message.p2 (asks-concerns c s (Cid m) asks concerns))) holds.channels;
    requests =
        call-holds (record { channel = h; circuit = l.circuit; asked = asked; stage = request.Open })
        (subst (λ (g : Handle). same_handle l.circuit g ≡ true) is (same-itself l.circuit));
    subscriptions =
        ids-sent SubId _ Awaits (has_id x.channels on) x.subscriptions c s (λ m g. no-sub m s.message.p2 (asks-gives s (SubId m) asks g))
        (λ m concerns. absurd (no-sub m s.message.p2 (asks-concerns c s (SubId m) asks concerns))) holds.subscriptions;
  }
