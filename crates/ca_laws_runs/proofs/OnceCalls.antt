-- A client's calls: each is new to its log, and the message of a request carries what was called.
use Rattle.std.proofs.Common.{◌≡◌, ℕ, zero, suc, ◌<◌, ◌+◌, ◌⊎◌, inl, inr, true, false, List, [], ◌∷◌, ◌++◌, length, Option, Some, None, refl, sym, ap, ◌∙◌, subst, arith}
use Rattle.std.specs.Prelude.{Ok, find, is_none, option_map, unwrap_or}
use Rattle.std.proofs.lemmas.Bool.{both_ways, cases_Bool}
use Rattle.ca_text.specs.Place.{At}
use Rattle.ca_text.proofs.Places.{At-append, At-mapped, At-one, some_is}
use Rattle.ca_arena.specs.declared.handle.Handle.{Handle}
use Rattle.ca_dbr.specs.Elements.{Elements}
use Rattle.ca_ids.specs.Table.{same_handle, under, with_freed, with_held}
use Rattle.ca_monitor.specs.Subscriptions.{Cancelled, Ended, Stage, Subscription, is_to, stands_in, with_stage}
use Rattle.ca_model.specs.Answers.{Aim, Notice, Sending}
use Rattle.ca_model.specs.Answers as aim
use Rattle.ca_model.specs.Client.{Channel, Client, Clearing, Connecting, Creating, Doomed, Leaving, Live, On, Searching, Standing, connection_at, sending, standing_at, with_standing, without_channel}
use Rattle.ca_model.specs.ClientCalls.{ClientClears, ClientOpens, ClientPuts, ClientReads, ClientSubscribes, ClientUnsubscribes, ClientWrites, IsLive, LiveChannel, Opening, Shape, all_over, cancel_sent, clear_sent, cleared, clearing_sent, event_add_sent, event_cancel_sent, issued, new_subscription, opened, put_sent, read_sent, unsubscribed, unsubscribed_all, unwanted, write_sent}
use Rattle.ca_model.specs.History.{Called, Cancel, Clear, Create, Intent, Line, Nothing, Put, Read, Subscribe, ToRead, ToWatch, ToWrite, Wish, Write}
use Rattle.ca_model.specs.History as history
use Rattle.ca_model.specs.Channels.{IsRequest, IsUse}
use Rattle.ca_model.specs.Placed.{IsPlaced, WasGiven}
use Rattle.ca_model.proofs.Standings.{found-standing, never-cleared, stands-as}
use Rattle.ca_model.proofs.Tables.{changed-back, find-at, freed-back, held-back, length-more}
use Rattle.ca_model.specs.ClientEvents.{cancelled, intent_of, line_of, lines_of, meant_by}
use Rattle.ca_model.specs.World.{Names}
use Rattle.ca_laws_parts.specs.Held.{with_request, with_subscription}
use Rattle.ca_laws_parts.proofs.CircuitCalls.{meant-own}
use Rattle.ca_laws_parts.specs.Circuit.{AreGiven}
use Rattle.ca_laws_parts.proofs.RunsSending.{new-name, not-given}
use Rattle.ca_laws_runs.specs.Quiet.{Tidy}
use Rattle.ca_laws_runs.proofs.OnceLess.{Less, is_gone, less-all-over, less-freed, less-freed-all, less-gone, less-same, less-sending, less-staged, less-stood, less-then, less-unwanted}
use Rattle.ca_laws_runs.proofs.OnceMoved.{ArePlain, Moved, is_plain, none-sent, one-plain}

-- ---- what was called

-- The channel of this handle was cleared; the subscription was cancelled, or is over.
abbrev pub IsClearedBy : Client → Handle → Type 0
IsClearedBy x h = (ch : Channel) → under x.channels h ≡ Some ch → is_gone ch.standing ≡ true

abbrev pub IsOverBy : Client → Handle → Type 0
IsOverBy x g = (d : Subscription) → under x.subscriptions g ≡ Some d → stands_in d.stage ≡ false

-- This was called, by the client's names and its core.
abbrev pub IsUsed : Names → Client → Intent → Type 0
IsUsed n x (history.On c (history.Request Read m)) = m < length n.requests
IsUsed n x (history.On c (history.Request Put m)) = m < length n.requests
IsUsed n x (history.On c (history.Request Write m)) = m < n.writes
IsUsed n x (history.On c (Subscribe m)) = m < length n.subscriptions
IsUsed n x (history.On c (Cancel m)) = (e : Handle × Intent) × At n.subscriptions m e × IsOverBy x e.0
IsUsed n x (history.On c Clear) = (h : Handle) × At n.channels c h × IsClearedBy x h
IsUsed n x (history.On c Create) = Unit {0}
IsUsed n x history.OfCircuit = Unit {0}

cleared-less : (x y : Client) (h : Handle) → Less x y → IsClearedBy x h → IsClearedBy y h
cleared-less x y h less gone ch is =
    let w = less.channels h ch is in
    elim (cases_Bool (is_gone ch.standing)) [
      | inl e ↦ e
      | inr e ↦ absurd (both_ways (is_gone (w.0).standing) (w.2 e) (gone w.0 w.1))
    ]

over-less : (x y : Client) (g : Handle) → Less x y → IsOverBy x g → IsOverBy y g
over-less x y g less over d is =
    let w = less.subscriptions g d is in
    elim (cases_Bool (stands_in d.stage)) [
      | inr e ↦ e
      | inl e ↦ absurd (both_ways (stands_in (w.0).stage) (over w.0 w.1) (w.2 e))
    ]

pub used-less : (n : Names) (x y : Client) → Less x y → (intent : Intent) → IsUsed n x intent → IsUsed n y intent
used-less n x y less (history.On c (history.Request Read m)) u = u
used-less n x y less (history.On c (history.Request Put m)) u = u
used-less n x y less (history.On c (history.Request Write m)) u = u
used-less n x y less (history.On c (Subscribe m)) u = u
used-less n x y less (history.On c (Cancel m)) u = (u.0, u.1, over-less x y u.0.0 less u.2)
used-less n x y less (history.On c Clear) u = (u.0, u.1, cleared-less x y u.0 less u.2)
used-less n x y less (history.On c Create) u = tt
used-less n x y less history.OfCircuit u = tt

-- names that grow
pub used-more : (n now : Names) (x y : Client) → ((i : ℕ) (h : Handle) → At n.channels i h → IsClearedBy x h → At now.channels i h × IsClearedBy y h) → ((m : ℕ) → m < length n.requests → m < length now.requests)
    → ((m : ℕ) → m < length n.subscriptions → m < length now.subscriptions) → ((m : ℕ) (e : Handle × Intent) → At n.subscriptions m e → IsOverBy x e.0 → At now.subscriptions m e × IsOverBy y e.0) → ((m : ℕ) → m < n.writes → m < now.writes)
    → (intent : Intent) → IsUsed n x intent → IsUsed now y intent
used-more n now x y channels requests numbers subscriptions writes (history.On c (history.Request Read m)) u = requests m u
used-more n now x y channels requests numbers subscriptions writes (history.On c (history.Request Put m)) u = requests m u
used-more n now x y channels requests numbers subscriptions writes (history.On c (history.Request Write m)) u = writes m u
used-more n now x y channels requests numbers subscriptions writes (history.On c (Subscribe m)) u = numbers m u
used-more n now x y channels requests numbers subscriptions writes (history.On c (Cancel m)) u = (let s = subscriptions m u.0 u.1 u.2 in (u.0, s.0, s.1))
used-more n now x y channels requests numbers subscriptions writes (history.On c Clear) u = (let s = channels c u.0 u.1 u.2 in (u.0, s.0, s.1))
used-more n now x y channels requests numbers subscriptions writes (history.On c Create) u = tt
used-more n now x y channels requests numbers subscriptions writes history.OfCircuit u = tt

-- ---- what a call leaves

-- none of these messages is for a request
abbrev pub NoRequest : Names → List Sending → Type 0
NoRequest n sent = (i : ℕ) (s : Sending) → At sent i s → IsRequest (intent_of n s.aim) → ⊥

-- What was called stays so. What these lines say was called is new, and alone among them. No
-- request was sent, or one alone, which was not called before; and what was called as a request or
-- a subscription was sent on a circuit that is connected.
pub record Calls (n : Names) (x : Client) (spoken : Names) (sent : List Sending) (lines : List Line) (now : Names) (y : Client) : Type 0 where
  pub olds : (intent : Intent) → IsUsed n x intent → IsUsed now y intent
  pub lines_new : (p : ℕ) (intent : Intent) (e : Wish) → At lines p (Called intent e) → (p ≡ 0) × (IsUsed n x intent → ⊥) × IsUsed now y intent
  pub sends : NoRequest spoken sent ⊎ ((s : Sending) × (sent ≡ s ∷ []) × (IsUsed n x (intent_of spoken s.aim) → ⊥) × IsUsed now y (intent_of spoken s.aim))
  pub asks : (p : ℕ) (intent : Intent) (e : Wish) → At lines p (Called intent e) → IsUse intent
      → (s : Sending) × (sent ≡ s ∷ []) × (intent_of spoken s.aim ≡ intent) × (is_none (connection_at x s.circuit) ≡ false)

-- lines by which nothing is called
abbrev pub NoCall : List Line → Type 0
NoCall lines = (p : ℕ) (intent : Intent) (e : Wish) → At lines p (Called intent e) → ⊥

pub no-lines : NoCall []
no-lines p intent e at = cc

pub notices-no-call : (about : Intent) (n : Names) (notices : List Notice) → NoCall (lines_of about n notices)
notices-no-call about n notices p intent e at = (let m = At-mapped (line_of about n) notices p (Called intent e) at in by m.0 m.2)
  where
    by : (k : Notice) → Called intent e ≡ line_of about n k → ⊥
    by (aim.Live h) is = cc
    by (aim.Lost h) is = cc
    by (aim.Completed q o) is = cc
    by (aim.Update s o) is = cc
    by (aim.SubscriptionEnded s status) is = cc
    by (aim.WriteRefused h status) is = cc

pub plain-no-request : (n : Names) (x : Client) → Tidy n x → (sent : List Sending) → ArePlain sent → NoRequest n sent
plain-no-request n x t sent plain i s at = by s.aim (plain i s at)
  where
    not-request : (intent : Intent) (a m : ℕ) → intent ≡ history.On a (Subscribe m) → IsRequest intent → ⊥
    not-request intent a m is r = subst (λ (z : Intent). IsRequest z) is r

    not-cancelled : (intent : Intent) (a m : ℕ) → intent ≡ history.On a (Subscribe m) → IsRequest (cancelled intent) → ⊥
    not-cancelled intent a m is r = subst (λ (z : Intent). IsRequest (cancelled z)) is r

    named : (q : Handle) (o : Option (Handle × Intent)) → find (λ (w : Handle × Intent). same_handle w.0 q) n.subscriptions ≡ o
        → (let intent : Intent = unwrap_or (option_map (λ (w : Handle × Intent). w.1) o) history.OfCircuit in (IsRequest intent → ⊥) × (IsRequest (cancelled intent) → ⊥))
    named q None found = (λ r. r, λ r. r)
    named q (Some e) found =
        let f = find-at (λ (w : Handle × Intent). same_handle w.0 q) n.subscriptions e found in
        let s = t.subscribed f.0 e f.1 in
        (not-request e.1 s.0 f.0 s.1, not-cancelled e.1 s.0 f.0 s.1)

    by : (a : Aim) → is_plain a ≡ true → IsRequest (intent_of n a) → ⊥
    by aim.OfCircuit is r = r
    by (aim.Create h) is r = r
    by (aim.Clear h) is r = r
    by (aim.Write h) is r = both_ways false refl is
    by (aim.Read h q) is r = both_ways false refl is
    by (aim.Put h q) is r = both_ways false refl is
    by (aim.Subscribe h q) is r = (named q (find (λ (w : Handle × Intent). same_handle w.0 q) n.subscriptions) refl).0 r
    by (aim.Cancel h q) is r = (named q (find (λ (w : Handle × Intent). same_handle w.0 q) n.subscriptions) refl).1 r

-- what a client does by itself
pub calls-moved : (n : Names) (x : Client) (sent : List Sending) (y : Client) (lines : List Line) → Tidy n x → Moved x sent y → NoCall lines → Calls n x n sent lines n y
calls-moved n x sent y lines t m none = record {
  olds = used-less n x y m.less;
  lines_new = λ p intent e at. absurd (none p intent e at);
  sends = inl (plain-no-request n x t sent m.plain);
  asks = λ p intent e at r. absurd (none p intent e at);
}

-- ---- one line

called-one : (a b : Intent) (e f : Wish) (p : ℕ) → At (Called a e ∷ []) p (Called b f) → (p ≡ 0) × (a ≡ b)
called-one a b e f zero at = (refl, intent-is (some_is (Called a e) (Called b f) at))
  where
    intent-is : Called a e ≡ Called b f → a ≡ b
    intent-is is = cc
called-one a b e f (suc p) at = absurd cc

-- ---- open

pub calls-open : (n : Names) (x : Client) (a : Opening) (h : Handle) (sent : List Sending) (y : Client) (number : ℕ) (name : List ℕ) → ClientOpens x a (Ok h) sent y → Tidy n x
    → (let now : Names = record n { channels = n.channels ++ h ∷ [] } in Calls n x now sent (history.Opened number name ∷ []) now y)
calls-open n x a h sent y number name opens t = subst (λ (z : List Sending × Client). Calls n x now z.0 (history.Opened number name ∷ []) now z.1) (λ i. (sym opens.2.0 i, sym opens.2.1 i)) (record {
  olds = used-more n now x (opened a h x)
      (λ i g at gone. (
        At-append n.channels (h ∷ []) i g at,
        λ ch is. elim (held-back x.channels g h new ch is) [
          | inl own ↦ absurd (not-given x.channels h opens.1 (subst (λ (k : Handle). WasGiven x.channels k) own.0 (t.given i g at)))
          | inr old ↦ gone ch old
        ],
      )) (λ m u. u) (λ m u. u) (λ m e at over. (at, over)) (λ m u. u);
  lines_new = λ p intent e at. absurd (not-opened p intent e at);
  sends = inl (λ i s at r. none i s at);
  asks = λ p intent e at r. absurd (not-opened p intent e at);
})
  where
    now : Names
    now = record n { channels = n.channels ++ h ∷ [] }

    new : Channel
    new = record { name = a.name; priority = a.priority; standing = Searching }

    none : (i : ℕ) (s : Sending) → (let l : List Sending = [] in At l i s) → ⊥
    none i s at = cc

    not-opened : (p : ℕ) (intent : Intent) (e : Wish) → At (history.Opened number name ∷ []) p (Called intent e) → ⊥
    not-opened zero intent e at = absurd (differ (some_is (history.Opened number name) (Called intent e) at))
      where
        differ : history.Opened number name ≡ Called intent e → ⊥
        differ is = cc
    not-opened (suc p) intent e at = cc

-- ---- requests

-- a channel that is live is on a circuit that is connected
live-connected : (x : Client) (h : Handle) (l : LiveChannel) → IsPlaced x → IsLive x h l → is_none (connection_at x l.circuit) ≡ false
live-connected x h l placed live =
    let f = found-standing x h (On l.circuit (Live l.native l.rights)) live in
    sym (placed.waiting h f.0 l.circuit (Live l.native l.rights) f.1 f.2)

-- one call, of a request that is new, and its message
calls-asked : (n : Names) (x : Client) (spoken now : Names) (y : Client) (s : Sending) (intent : Intent) (e : Wish) → ((i : Intent) → IsUsed n x i → IsUsed now y i) → intent_of spoken s.aim ≡ intent → (IsUsed n x intent → ⊥) → IsUsed now y intent
    → is_none (connection_at x s.circuit) ≡ false → Calls n x spoken (s ∷ []) (Called intent e ∷ []) now y
calls-asked n x spoken now y s intent e olds is fresh used linked = record {
  olds = olds;
  lines_new = λ p i f at.
      let c = called-one intent i e f p at in
      (c.0, λ u. fresh (subst (λ (z : Intent). IsUsed n x z) (sym c.1) u), subst (λ (z : Intent). IsUsed now y z) c.1 used);
  sends = inr (s, refl, λ u. fresh (subst (λ (z : Intent). IsUsed n x z) is u), subst (λ (z : Intent). IsUsed now y z) (sym is) used);
  asks = λ p i f at r. (let c = called-one intent i e f p at in (s, refl, is ∙ c.1, linked));
}

less-than-itself : (m : ℕ) → m < m → ⊥
less-than-itself m lt = omega (arith, lt)

more-requests : (n : Names) (q : Handle) (intent : Intent) (m : ℕ) → m < length n.requests → m < length (n.requests ++ (q, intent) ∷ [])
more-requests n q intent m lt = (let e = length-more n.requests (q, intent) in omega (arith, lt, e))

last-request : (n : Names) (q : Handle) (intent : Intent) → length n.requests < length (n.requests ++ (q, intent) ∷ [])
last-request n q intent = (let e = length-more n.requests (q, intent) in omega (arith, e))

used-issued : (n : Names) (x y : Client) (q : Handle) (intent : Intent) → Less x y → (i : Intent) → IsUsed n x i → IsUsed (with_request q intent n) y i
used-issued n x y q intent less = used-more n (with_request q intent n) x y (λ i g at gone. (at, cleared-less x y g less gone)) (λ m u. more-requests n q intent m u) (λ m u. u) (λ m e at over. (at, over-less x y e.0 less over)) (λ m u. u)

module _ (n : Names) (x : Client) (c : ℕ) (h : Handle) (placed : IsPlaced x) (given : AreGiven n.requests x.requests) where
  pub calls-read : (a : Shape) (q : Handle) (sent : List Sending) (y : Client) → ClientReads x h a (Ok q) sent y
      → (let intent : Intent = history.On c (history.Request Read (length n.requests)) in let now : Names = with_request q intent n in Calls n x now sent (Called intent (ToRead a.data_type a.count) ∷ []) now y)
  calls-read a q sent y reads =
      let intent : Intent = history.On c (history.Request Read (length n.requests)) in
      let now : Names = with_request q intent n in
      let l : LiveChannel = reads.0 in
      let z : Client = issued h l _ q x in
      let s : Sending = read_sent h l a q in
      let less : Less x (sending (s ∷ []) z) = less-then x z (sending (s ∷ []) z) (less-same x z refl refl) (less-sending (s ∷ []) z) in
      subst (λ (w : List Sending × Client). Calls n x now w.0 (Called intent (ToRead a.data_type a.count) ∷ []) now w.1) (λ i. (sym reads.4.0 i, sym reads.4.1 i))
      (calls-asked n x now now (sending (s ∷ []) z) s intent (ToRead a.data_type a.count) (used-issued n x (sending (s ∷ []) z) q intent less) (meant-own n.requests q intent (new-name n.requests x.requests q given reads.3))
      (λ u. less-than-itself (length n.requests) u) (last-request n q intent) (live-connected x h l placed reads.1))

  pub calls-put : (e : Elements) (q : Handle) (sent : List Sending) (y : Client) → ClientPuts x h e (Ok q) sent y
      → (let intent : Intent = history.On c (history.Request Put (length n.requests)) in let now : Names = with_request q intent n in Calls n x now sent (Called intent (ToWrite e) ∷ []) now y)
  calls-put e q sent y puts =
      let intent : Intent = history.On c (history.Request Put (length n.requests)) in
      let now : Names = with_request q intent n in
      let l : LiveChannel = puts.0 in
      let z : Client = issued h l _ q x in
      let s : Sending = put_sent h l e q in
      let less : Less x (sending (s ∷ []) z) = less-then x z (sending (s ∷ []) z) (less-same x z refl refl) (less-sending (s ∷ []) z) in
      subst (λ (w : List Sending × Client). Calls n x now w.0 (Called intent (ToWrite e) ∷ []) now w.1) (λ i. (sym puts.4.0 i, sym puts.4.1 i))
      (calls-asked n x now now (sending (s ∷ []) z) s intent (ToWrite e) (used-issued n x (sending (s ∷ []) z) q intent less) (meant-own n.requests q intent (new-name n.requests x.requests q given puts.3))
      (λ u. less-than-itself (length n.requests) u) (last-request n q intent) (live-connected x h l placed puts.1))

-- a plain write
pub calls-write : (n : Names) (x : Client) (c : ℕ) (h : Handle) (e : Elements) (sent : List Sending) (y : Client) → IsPlaced x → Tidy n x → At n.channels c h → ClientWrites x h e (Ok tt) sent y
    → Calls n x n sent (Called (history.On c (history.Request Write n.writes)) (ToWrite e) ∷ []) (record n { writes = n.writes + 1 }) y
calls-write n x c h e sent y placed t at writes =
    let intent : Intent = history.On c (history.Request Write n.writes) in
    let now : Names = record n { writes = n.writes + 1 } in
    let s : Sending = write_sent h writes.0 e in
    let less : Less x (sending (s ∷ []) x) = less-sending (s ∷ []) x in
    subst (λ (w : List Sending × Client). Calls n x n w.0 (Called intent (ToWrite e) ∷ []) now w.1) (λ i. (sym writes.3.0 i, sym writes.3.1 i))
    (calls-asked n x n now (sending (s ∷ []) x) s intent (ToWrite e)
    (used-more n now x (sending (s ∷ []) x) (λ i g at gone. (at, cleared-less x (sending (s ∷ []) x) g less gone)) (λ m u. u) (λ m u. u) (λ m e at over. (at, over-less x (sending (s ∷ []) x) e.0 less over)) (λ m u. omega (arith, u)))
    (ap (λ (k : ℕ). history.On k (history.Request Write n.writes)) (t.once c h at)) (λ u. less-than-itself n.writes u) (let lt : n.writes < n.writes + 1 = omega arith in lt) (live-connected x h writes.0 placed writes.1))

-- ---- calls with messages that are no requests

calls-told : (n : Names) (x : Client) (spoken : Names) (sent : List Sending) (now : Names) (y : Client) (intent : Intent) (e : Wish) (rest : List Line) → ((i : Intent) → IsUsed n x i → IsUsed now y i) → NoRequest spoken sent
    → (IsUse intent → (s : Sending) × (sent ≡ s ∷ []) × (intent_of spoken s.aim ≡ intent) × (is_none (connection_at x s.circuit) ≡ false)) → (IsUsed n x intent → ⊥) → IsUsed now y intent → NoCall rest
    → Calls n x spoken sent (Called intent e ∷ rest) now y
calls-told n x spoken sent now y intent e rest olds plain said fresh used none = record {
  olds = olds;
  lines_new = λ p i f at.
      let c = only p i f at in
      (c.0, λ u. fresh (subst (λ (z : Intent). IsUsed n x z) (sym c.1) u), subst (λ (z : Intent). IsUsed now y z) c.1 used);
  sends = inl plain;
  asks = λ p i f at r. (let c = only p i f at in let m = said (subst (λ (z : Intent). IsUse z) (sym c.1) r) in (m.0, m.1, m.2 ∙ c.1, m.3));
}
  where
    intent-is : (a b : Intent) (f : Wish) → Called a e ≡ Called b f → a ≡ b
    intent-is a b f is = cc

    only : (p : ℕ) (i : Intent) (f : Wish) → At (Called intent e ∷ rest) p (Called i f) → (p ≡ 0) × (intent ≡ i)
    only zero i f at = (refl, intent-is intent i f (some_is (Called intent e) (Called i f) at))
    only (suc p) i f at = absurd (none p i f at)

-- ---- subscribe

pub calls-subscribe : (n : Names) (x : Client) (c : ℕ) (h : Handle) (a : Shape) (mask : ℕ) (q : Handle) (sent : List Sending) (y : Client) → ClientSubscribes x h a mask (Ok q) sent y → IsPlaced x → Tidy n x → AreGiven n.subscriptions x.subscriptions
    → (let intent : Intent = history.On c (Subscribe (length n.subscriptions)) in let now : Names = with_subscription q intent n in Calls n x now sent (Called intent (ToWatch a.data_type a.count mask) ∷ []) now y)
calls-subscribe n x c h a mask q sent y subscribes placed t given =
    subst (λ (w : List Sending × Client). Calls n x now w.0 (Called intent (ToWatch a.data_type a.count mask) ∷ []) now w.1) (λ i. (sym subscribes.4.0 i, sym subscribes.4.1 i))
    (calls-told n x now (s ∷ []) now (sending (s ∷ []) z) intent (ToWatch a.data_type a.count mask) [] (λ i u. used-less now z (sending (s ∷ []) z) (less-sending (s ∷ []) z) i (before i u))
    plain (λ r. (s, refl, meant, live-connected x h subscribes.0 placed subscribes.1)) (λ u. less-than-itself (length n.subscriptions) u) (let more = length-more n.subscriptions (q, intent) in omega (arith, more)) no-lines)
  where
    intent : Intent
    intent = history.On c (Subscribe (length n.subscriptions))

    now : Names
    now = with_subscription q intent n

    d : Subscription
    d = new_subscription h a mask

    s : Sending
    s = event_add_sent (subscribes.0).circuit ((subscribes.0).native).sid q d

    z : Client
    z = record x { subscriptions = with_held q d x.subscriptions }

    before : (i : Intent) → IsUsed n x i → IsUsed now z i
    before = used-more n now x z (λ i g at gone. (at, gone)) (λ m u. u) (λ m u. (let more = length-more n.subscriptions (q, intent) in omega (arith, u, more)))
        (λ m e at over. (
          At-append n.subscriptions ((q, intent) ∷ []) m e at,
          λ v is. elim (held-back x.subscriptions e.0 q d v is) [
            | inl own ↦ absurd (not-given x.subscriptions q subscribes.3 (subst (λ (k : Handle). WasGiven x.subscriptions k) own.0 (given m e at)))
            | inr old ↦ over v old
          ],
        )) (λ m u. u)

    meant : meant_by now.subscriptions q ≡ intent
    meant = meant-own n.subscriptions q intent (new-name n.subscriptions x.subscriptions q given subscribes.3)

    plain : NoRequest now (s ∷ [])
    plain zero r at is = subst (λ (w : Intent). IsRequest w) (ap (λ (w : Sending). intent_of now w.aim) (sym (some_is s r at)) ∙ meant) is
    plain (suc i) r at is = absurd cc

-- ---- unsubscribe

module _ (n : Names) (x : Client) (g : Handle) (d : Subscription) where
  pub less-unsubscribed : (o : Option Standing) → Less x (unsubscribed g o x)
  less-unsubscribed None = less-freed g x
  less-unsubscribed (Some Searching) = less-freed g x
  less-unsubscribed (Some (On c Connecting)) = less-freed g x
  less-unsubscribed (Some (On c (Creating rights))) = less-freed g x
  less-unsubscribed (Some (On c Clearing)) = less-freed g x
  less-unsubscribed (Some (On c Doomed)) = less-freed g x
  less-unsubscribed (Some (On c Leaving)) = less-staged (Ended c) g x refl
  less-unsubscribed (Some (On c (Live native rights))) = less-staged (Cancelled c) g x refl

  freed-over : IsOverBy (record x { subscriptions = with_freed g x.subscriptions }) g
  freed-over v is = absurd ((freed-back x.subscriptions g g v is).0 refl)

  staged-over : (stage : Stage) → stands_in stage ≡ false → IsOverBy (record x { subscriptions = with_stage stage g x.subscriptions }) g
  staged-over stage ends v is = elim (changed-back (λ (s : Subscription). record s { stage = stage }) x.subscriptions g g v is) [
    | inl own ↦ ap (λ (z : Subscription). stands_in z.stage) own.1.2 ∙ ends
    | inr old ↦ absurd (old.0 refl)
  ]

  over-unsubscribed : (o : Option Standing) → IsOverBy (unsubscribed g o x) g
  over-unsubscribed None = freed-over
  over-unsubscribed (Some Searching) = freed-over
  over-unsubscribed (Some (On c Connecting)) = freed-over
  over-unsubscribed (Some (On c (Creating rights))) = freed-over
  over-unsubscribed (Some (On c Clearing)) = freed-over
  over-unsubscribed (Some (On c Doomed)) = freed-over
  over-unsubscribed (Some (On c Leaving)) = staged-over (Ended c) refl
  over-unsubscribed (Some (On c (Live native rights))) = staged-over (Cancelled c) refl

  cancel-plain : (o : Option Standing) → ArePlain (cancel_sent g d o)
  cancel-plain None = none-sent
  cancel-plain (Some Searching) = none-sent
  cancel-plain (Some (On c Connecting)) = none-sent
  cancel-plain (Some (On c (Creating rights))) = none-sent
  cancel-plain (Some (On c Clearing)) = none-sent
  cancel-plain (Some (On c Doomed)) = none-sent
  cancel-plain (Some (On c Leaving)) = none-sent
  cancel-plain (Some (On c (Live native rights))) = one-plain (event_cancel_sent c native.sid g d) refl

pub calls-unsubscribe : (n : Names) (x : Client) (s : Handle × Intent) (m : ℕ) (sent : List Sending) (y : Client) → ClientUnsubscribes x s.0 (Ok tt) sent y → Tidy n x → At n.subscriptions m s
    → Calls n x n sent (Called (cancelled s.1) Nothing ∷ []) n y
calls-unsubscribe n x s m sent y ends t at =
    let a = t.subscribed m s at in
    let d : Subscription = ends.0 in
    let o : Option Standing = standing_at x d.channel in
    let sends : List Sending = cancel_sent s.0 d o in
    let z : Client = unsubscribed s.0 o x in
    let less : Less z (sending sends z) = less-sending sends z in
    let stands = stands-as x s.0 d ends.1 in
    subst (λ (w : List Sending × Client). Calls n x n w.0 (Called (cancelled s.1) Nothing ∷ []) n w.1) (λ i. (sym ends.3.0 i, sym ends.3.1 i))
    (subst (λ (i : Intent). Calls n x n sends (Called i Nothing ∷ []) n (sending sends z)) (sym (ap cancelled a.1))
    (calls-told n x n sends n (sending sends z) (history.On a.0 (Cancel m)) Nothing []
    (used-less n x (sending sends z) (less-then x z (sending sends z) (less-unsubscribed n x s.0 d o) less))
    (plain-no-request n x t sends (cancel-plain n x s.0 d o)) (λ r. absurd r)
    (λ u.
    let one : u.0 ≡ s = At-one n.subscriptions m u.0 s u.1 at in
    both_ways (stands_in d.stage) (u.2 d (subst (λ (k : Handle × Intent). under x.subscriptions k.0 ≡ Some d) (sym one) stands.0)) stands.1)
    (s, at, over-less z (sending sends z) s.0 less (over-unsubscribed n x s.0 d o)) no-lines))

-- ---- clear

module _ (x : Client) (h : Handle) where
  less-none : Less x (unsubscribed_all h x)
  less-none = less-freed-all (is_to h) x

  less-into : (z : Client) (s : Standing) → is_gone s ≡ true → Less x z → Less x (with_standing s h z)
  less-into z s gone less = less-then x z (with_standing s h z) less (less-stood s h z (λ ch is i. absurd (both_ways (is_gone s) i gone)))

  pub less-cleared : (s : Standing) → Less x (cleared h s x)
  less-cleared Searching = (let z : Client = unsubscribed_all h x in less-then x z (without_channel z h) less-none (less-gone h z))
  less-cleared (On c Connecting) =
      let z : Client = unsubscribed_all h x in
      let v : Client = without_channel z h in
      less-then x v (unwanted c v) (less-then x z v less-none (less-gone h z)) (less-unwanted c v)
  less-cleared (On c (Creating rights)) = less-into (unsubscribed_all h x) (On c Doomed) refl less-none
  less-cleared (On c (Live native rights)) = less-into (all_over c h x) (On c Clearing) refl (less-all-over c h x)
  less-cleared (On c Leaving) = less-into (all_over c h x) (On c Clearing) refl (less-all-over c h x)
  less-cleared (On c Clearing) = less-into (all_over c h x) (On c Clearing) refl (less-all-over c h x)
  less-cleared (On c Doomed) = less-into (all_over c h x) (On c Clearing) refl (less-all-over c h x)

  gone-without : (z : Client) → IsClearedBy (without_channel z h) h
  gone-without z ch is = absurd ((freed-back z.channels h h ch is).0 refl)

  gone-with : (z : Client) (s : Standing) → is_gone s ≡ true → IsClearedBy (with_standing s h z) h
  gone-with z s gone ch is = elim (changed-back (λ (w : Channel). record w { standing = s }) z.channels h h ch is) [
    | inl own ↦ ap (λ (w : Channel). is_gone w.standing) own.1.2 ∙ gone
    | inr old ↦ absurd (old.0 refl)
  ]

  gone-cleared : (s : Standing) → IsClearedBy (cleared h s x) h
  gone-cleared Searching = gone-without (unsubscribed_all h x)
  gone-cleared (On c Connecting) = (let v : Client = without_channel (unsubscribed_all h x) h in cleared-less v (unwanted c v) h (less-unwanted c v) (gone-without (unsubscribed_all h x)))
  gone-cleared (On c (Creating rights)) = gone-with (unsubscribed_all h x) (On c Doomed) refl
  gone-cleared (On c (Live native rights)) = gone-with (all_over c h x) (On c Clearing) refl
  gone-cleared (On c Leaving) = gone-with (all_over c h x) (On c Clearing) refl
  gone-cleared (On c Clearing) = gone-with (all_over c h x) (On c Clearing) refl
  gone-cleared (On c Doomed) = gone-with (all_over c h x) (On c Clearing) refl

  clearing-plain : (s : Standing) → ArePlain (clearing_sent h s)
  clearing-plain Searching = none-sent
  clearing-plain (On c Connecting) = none-sent
  clearing-plain (On c (Creating rights)) = none-sent
  clearing-plain (On c (Live native rights)) = one-plain (clear_sent c native.sid h) refl
  clearing-plain (On c Leaving) = none-sent
  clearing-plain (On c Clearing) = none-sent
  clearing-plain (On c Doomed) = none-sent

  held-now : (s : Standing) → standing_at x h ≡ Some s → is_gone s ≡ false
  held-now Searching at = refl
  held-now (On c p) at = never-cleared x h c p at

pub calls-clear : (n : Names) (x : Client) (c : ℕ) (h : Handle) (notices : List Notice) (sent : List Sending) (y : Client) (lines : List Line) → ClientClears x h (Ok notices) sent y → Tidy n x → At n.channels c h → NoCall lines
    → Calls n x n sent (Called (history.On c Clear) Nothing ∷ lines) n y
calls-clear n x c h notices sent y lines clears t at none =
    let st : Standing = clears.0 in
    let sends : List Sending = clearing_sent h st in
    let z : Client = cleared h st x in
    let less : Less z (sending sends z) = less-sending sends z in
    let found = found-standing x h st clears.1 in
    subst (λ (w : List Sending × Client). Calls n x n w.0 (Called (history.On c Clear) Nothing ∷ lines) n w.1) (λ i. (sym clears.3.0 i, sym clears.3.1 i))
    (calls-told n x n sends n (sending sends z) (history.On c Clear) Nothing lines
    (used-less n x (sending sends z) (less-then x z (sending sends z) (less-cleared x h st) less))
    (plain-no-request n x t sends (clearing-plain x h st)) (λ r. absurd r)
    (λ u.
    let one : u.0 ≡ h = At-one n.channels c u.0 h u.1 at in
    both_ways (is_gone st) (held-now x h st clears.1) (ap is_gone (sym found.2) ∙ u.2 found.0 (subst (λ (k : Handle). under x.channels k ≡ Some found.0) (sym one) found.1)))
    (h, at, cleared-less z (sending sends z) h less (gone-cleared x h st)) none)
