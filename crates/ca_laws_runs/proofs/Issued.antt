-- A client's calls that give a handle: a channel that is opened, a request, a plain
-- write, and a subscription.
use Rattle.std.proofs.Common.{◌≡◌, ℕ, zero, suc, ◌+◌, ◌<◌, inl, inr, Bool, true, false, cond, List, [], ◌∷◌, ◌++◌, length, Option, Some, refl, sym, ap, ◌∙◌, subst, arith}
use Rattle.std.specs.Prelude.{Ok, find, option_map, unwrap_or}
use Rattle.std.proofs.lemmas.List.{append-nil}
use Rattle.ca_text.specs.Place.{At}
use Rattle.ca_text.proofs.Places.{At-append, At-last, At-snoc, At-within}
use Rattle.ca_arena.specs.declared.handle.Handle.{Handle}
use Rattle.ca_dbr.specs.Elements.{Elements}
use Rattle.ca_ids.specs.Table.{MayGive, same_handle, under, with_held}
use Rattle.ca_monitor.specs.Subscriptions.{Subscription}
use Rattle.ca_requests.specs.Calls.{new_request}
use Rattle.ca_requests.specs.Requests.{Asked, Request}
use Rattle.ca_requests.specs.Requests as request
use Rattle.ca_model.specs.Answers.{Sending}
use Rattle.ca_model.specs.Client.{Channel, Client, Live, On, Phase, Searching, sending}
use Rattle.ca_model.specs.ClientCalls.{ClientOpens, ClientPuts, ClientReads, ClientSubscribes, ClientWrites, IsLive, LiveChannel, Opening, Shape, event_add_sent, issued, new_subscription, opened, put_sent, read_sent, write_sent}
use Rattle.ca_model.specs.History.{Ask, Cancel, Clear, Create, Intent, Kind, Put, Read, Sent, Subscribe, Write}
use Rattle.ca_model.specs.History as history
use Rattle.ca_model.specs.Placed.{WasGiven}
use Rattle.ca_model.proofs.Handles.{same-is, same-itself}
use Rattle.ca_model.proofs.Standings.{found-standing}
use Rattle.ca_model.proofs.Tables.{held-back, held-own}
use Rattle.ca_model.proofs.Thinner.{given-held, given-own}
use Rattle.ca_model.specs.ClientEvents.{channel_number, meant_by, place_of}
use Rattle.ca_model.specs.World.{Names}
use Rattle.ca_laws_parts.specs.Held.{with_request, with_subscription}
use Rattle.ca_laws_parts.proofs.CircuitCalls.{meant-own}
use Rattle.ca_laws_parts.specs.Circuit.{AreGiven, stamped}
use Rattle.ca_laws_parts.proofs.Named.{number-still, place-there}
use Rattle.ca_laws_parts.proofs.RunsSending.{new-name, not-given, place-passes}
use Rattle.ca_laws_runs.specs.Quiet.{AreAddedApart, HaveCids, HasNumber, IsAnswered, IsNamedIn, IsRequestOn, IsSubscriptionOn, NoCancel, Quiet, StageIn, StandsIn, Tidy}
use Rattle.ca_laws_runs.proofs.Lesser.{less-sending}
use Rattle.ca_laws_runs.proofs.AddedApart.{apart-first, apart-one}
use Rattle.ca_laws_runs.proofs.CidsSaid.{cid-none, cids-more}
use Rattle.ca_laws_runs.proofs.Says.{Moved, moved-less-then, moved-one, quiet-asked, quiet-subscribed}

-- ---- names that grow

-- what is named stays so
pub named-still : (n now : Names) → ((i : ℕ) (e : Handle × Intent) → At n.requests i e → At now.requests i e) → ((i : ℕ) (e : Handle × Intent) → At n.subscriptions i e → At now.subscriptions i e) → (intent : Intent) → IsNamedIn n intent → IsNamedIn now intent
named-still n now requests subscriptions (history.On a (history.Request Read m)) is = (is.0, requests m _ is.1)
named-still n now requests subscriptions (history.On a (history.Request Put m)) is = (is.0, requests m _ is.1)
named-still n now requests subscriptions (history.On a (history.Request Write m)) is = tt
named-still n now requests subscriptions (history.On a (Subscribe m)) is = (is.0, subscriptions m _ is.1)
named-still n now requests subscriptions (history.On a (Cancel m)) is = (is.0, subscriptions m _ is.1)
named-still n now requests subscriptions (history.On a Create) is = tt
named-still n now requests subscriptions (history.On a Clear) is = tt
named-still n now requests subscriptions history.OfCircuit is = tt

abbrev intent-in : Option (Handle × Intent) → Intent
intent-in o = unwrap_or (option_map (λ (x : Handle × Intent). x.1) o) history.OfCircuit

-- what is meant by a handle stays so as another name is given
pub meant-still : (names : List (Handle × Intent)) (y : Handle × Intent) (g : Handle) (a : ℕ) (ask : Ask) → meant_by names g ≡ history.On a ask → meant_by (names ++ y ∷ []) g ≡ history.On a ask
meant-still [] y g a ask is = absurd (nothing is)
  where
    nothing : history.OfCircuit ≡ history.On a ask → ⊥
    nothing e = cc
meant-still (z ∷ names) y g a ask is = go (same_handle z.0 g) is (meant-still names y g a ask)
  where
    go : (b : Bool) → intent-in (cond b (Some z) (find (λ (x : Handle × Intent). same_handle x.0 g) names)) ≡ history.On a ask → (meant_by names g ≡ history.On a ask → meant_by (names ++ y ∷ []) g ≡ history.On a ask)
        → intent-in (cond b (Some z) (find (λ (x : Handle × Intent). same_handle x.0 g) (names ++ y ∷ []))) ≡ history.On a ask
    go true h rest = h
    go false h rest = rest h

nowhere : (c : Handle) (q : Phase) → Searching ≡ On c q → ⊥
nowhere c q e = cc

-- the number of a channel that is opened
place-found : {A : Type 0} (test : A → Bool) (xs : List A) (i : ℕ) (y : A) → At xs i y → test y ≡ true → (z : A) × At xs (place_of test xs) z
place-found test [] i y at passes = absurd cc
place-found {A} test (x ∷ xs) zero y at passes = (
  x,
  (let is : test x ≡ true = ap (λ (o : Option A). unwrap_or (option_map test o) true) at ∙ passes in
      subst (λ (b : Bool). At (x ∷ xs) (cond b 0 (place_of test xs + 1)) x) (sym is) refl),
)
place-found {A} test (x ∷ xs) (suc i) y at passes = (let r = place-found test xs i y at passes in go (test x) r.0 r.1)
  where
    go : (b : Bool) (z : A) → At xs (place_of test xs) z → (z : A) × At (x ∷ xs) (cond b 0 (place_of test xs + 1)) z
    go true z h = (x, refl)
    go false z h = (z, (let e : suc (place_of test xs) ≡ place_of test xs + 1 = omega arith in subst (λ (k : ℕ). At (x ∷ xs) k z) e h))

number-own : (channels : List Handle) (q : Handle) → At (channels ++ q ∷ []) (place_of (same_handle q) (channels ++ q ∷ [])) q
number-own channels q =
    let r = place-found (same_handle q) (channels ++ q ∷ []) (length channels) q (At-last channels q) (same-itself q) in
    let same : q ≡ r.0 = same-is q r.0 (place-passes (same_handle q) (channels ++ q ∷ []) r.0 r.1) in
    subst (λ (k : Handle). At (channels ++ q ∷ []) (place_of (same_handle q) (channels ++ q ∷ [])) k) (sym same) r.1

-- ---- open

pub moved-opened : (n : Names) (x : Client) (a : Opening) (h : Handle) (sent : List Sending) (y : Client) → ClientOpens x a (Ok h) sent y → Tidy n x → (let now : Names = record n { channels = n.channels ++ h ∷ [] } in Moved n x now sent now y)
moved-opened n x a h sent y opens t = subst (λ (z : List Sending × Client). Moved n x now z.0 now z.1) (λ i. (sym opens.2.0 i, sym opens.2.1 i)) (record {
  tidy = tidy;
  quiet = λ on up q. subst (λ (l : List Sent). Quiet now z on l) (sym (append-nil up)) (quiet on up q);
  apart = λ on up q were. subst (λ (l : List Sent). AreAddedApart l) (sym (append-nil up)) were;
  cids = λ on up were. subst (λ (l : List Sent). HaveCids (n.channels ++ h ∷ []) l) (sym (append-nil up)) (cids-more n.channels (h ∷ []) up were);
})
  where
    now : Names
    now = record n { channels = n.channels ++ h ∷ [] }

    z : Client
    z = opened a h x

    new : Channel
    new = record { name = a.name; priority = a.priority; standing = Searching }

    may : MayGive x.channels h
    may = opens.1

    kept : (k : Handle) → HasNumber n k → channel_number now k ≡ channel_number n k
    kept k at = place-there (same_handle k) n.channels (h ∷ []) k at

    tidy : Tidy now z
    tidy = record {
      numbered = λ g ch is. elim (held-back x.channels g h new ch is) [
        | inl own ↦ subst (λ (k : Handle). HasNumber now k) (sym own.0) (number-own n.channels h)
        | inr old ↦ number-still n.channels h g (t.numbered g ch old)
      ];
      given = λ i g at. elim (At-snoc n.channels h i g at) [
        | inl old ↦ given-held x.channels g h new may (t.given i g old)
        | inr last ↦ subst (λ (k : Handle). WasGiven (with_held h new x.channels) k) (sym last.1) (given-own x.channels h new may)
      ];
      once = λ i g at. elim (At-snoc n.channels h i g at) [
        | inl old ↦ kept g (subst (λ (k : ℕ). At n.channels k g) (sym (t.once i g old)) old) ∙ t.once i g old
        | inr last ↦ ap (λ (k : Handle). channel_number now k) last.1 ∙ own ∙ sym last.0
      ];
      asked = t.asked;
      subscribed = t.subscribed;
      requests = λ q r is. (let w = t.requests q r is in (w.0, w.1, number-still n.channels h r.channel w.2, w.3 ∙ ap (λ (k : ℕ). history.On k (history.Request w.0 w.1)) (sym (kept r.channel w.2))));
      subscriptions = λ g d is. (let w = t.subscriptions g d is in (w.0, number-still n.channels h d.channel w.1, w.2 ∙ ap (λ (k : ℕ). history.On k (Subscribe w.0)) (sym (kept d.channel w.1))));
    }
      where
        own : channel_number now h ≡ length n.channels
        own = elim (At-snoc n.channels h (channel_number now h) h (number-own n.channels h)) [
          | inl old ↦ absurd (not-given x.channels h may (t.given (channel_number now h) h old))
          | inr last ↦ last.0
        ]

    quiet : (on : Handle) (up : List Sent) → Quiet n x on up → Quiet now z on up
    quiet on up q = record {
      named = λ p s at. named-still n now (λ i e at. at) (λ i e at. at) s.intent (q.named p s at);
      ids = q.ids;
      channels = λ g ch is. elim (held-back x.channels g h new ch is) [
        | inl own ↦ λ p stands. absurd (nowhere on p (ap (λ (w : Channel). w.standing) (sym own.1) ∙ stands))
        | inr old ↦ subst (λ (k : ℕ). StandsIn on up k ch.standing) (sym (kept g (t.numbered g ch old))) (q.channels g ch old)
      ];
      subscriptions = q.subscriptions;
    }

-- ---- a request

live-on : (x : Client) (h : Handle) (l : LiveChannel) → IsLive x h l → (ch : Channel) × (under x.channels h ≡ Some ch) × (ch.standing ≡ On l.circuit (Live l.native l.rights))
live-on x h l live = found-standing x h (On l.circuit (Live l.native l.rights)) live

module _ (n : Names) (x : Client) (c : ℕ) (h : Handle) (t : Tidy n x) (given : AreGiven n.requests x.requests) (at : At n.channels c h) where
  -- a request of either kind, before its message
  module _ (l : LiveChannel) (asked : Asked) (q : Handle) (kind : Kind) (answered : IsAnswered kind) (may : MayGive x.requests q) where
    abbrev intent : Intent
    intent = history.On c (history.Request kind (length n.requests))

    abbrev now : Names
    now = with_request q intent n

    abbrev z : Client
    z = issued h l asked q x

    meant : meant_by now.requests q ≡ intent
    meant = meant-own n.requests q intent (new-name n.requests x.requests q given may)

    number : channel_number n h ≡ c
    number = t.once c h at

    tidy-asked : Tidy now z
    tidy-asked = record {
      numbered = t.numbered;
      given = t.given;
      once = t.once;
      asked = λ i e place. elim (At-snoc n.requests (q, intent) i e place) [
        | inl old ↦ t.asked i e old
        | inr last ↦ (c, kind, ap (λ (w : Handle × Intent). w.1) last.1 ∙ ap (λ (k : ℕ). history.On c (history.Request kind k)) (sym last.0), answered)
      ];
      subscribed = t.subscribed;
      requests = λ g r is. elim (held-back x.requests g q (new_request h l.circuit asked) r is) [
        | inl own ↦
            subst (λ (w : Handle × Request). IsRequestOn now w.1.channel (meant_by now.requests w.0)) (λ i. (sym own.0 i, sym own.1 i))
            (kind, length n.requests, subst (λ (k : ℕ). At n.channels k h) (sym number) at, meant ∙ ap (λ (k : ℕ). history.On k (history.Request kind (length n.requests))) (sym number))
        | inr old ↦ (let w = t.requests g r old in (w.0, w.1, w.2, meant-still n.requests (q, intent) g (channel_number n r.channel) (history.Request w.0 w.1) w.3))
      ];
      subscriptions = t.subscriptions;
    }

    quiet-before : (on : Handle) (up : List Sent) → Quiet n x on up → Quiet now z on up
    quiet-before on up quiet = record {
      named = λ p s at_p. named-still n now (λ i e place. At-append n.requests ((q, intent) ∷ []) i e place) (λ i e place. place) s.intent (quiet.named p s at_p);
      ids = quiet.ids;
      channels = quiet.channels;
      subscriptions = quiet.subscriptions;
    }

    moved-asked : (s : Sending) → s.circuit ≡ l.circuit → (stamped now s).intent ≡ meant_by now.requests q → IsNamedIn now intent → IsLive x h l → Moved n x now (s ∷ []) now (sending (s ∷ []) z)
    moved-asked s on aims named live =
        let ch = live-on x h l live in
        let is : (stamped now s).intent ≡ intent = aims ∙ meant in
        moved-less-then n now now x z (sending (s ∷ []) z) (s ∷ [])
        (moved-one n now now x z s tidy-asked
        (λ up quiet.
        quiet-asked now z s.circuit up (stamped now s) tidy-asked (quiet-before s.circuit up quiet) h ch.0 l.native l.rights (history.Request kind (length n.requests)) ch.1 (ch.2 ∙ ap (λ (k : Handle). On k (Live l.native l.rights)) (sym on)) tt
        (is ∙ ap (λ (k : ℕ). history.On k (history.Request kind (length n.requests))) (sym number)) (subst (λ (i : Intent). IsNamedIn now i) (sym is) named) (λ m e. no-add m e) (λ m e. no-cancel m e))
        (λ on up other quiet. quiet-before on up quiet)
        (λ up quiet were. apart-one up (stamped now s) (λ a m e. plain a m (sym is ∙ e)) were) refl (cid-none n.channels (stamped now s) (λ a. (λ e. no-create a (sym is ∙ e), λ e. no-clear a (sym is ∙ e))))) (less-sending (s ∷ []) z)
      where
        plain : (a m : ℕ) → intent ≡ history.On a (Subscribe m) → ⊥
        plain a m e = cc

        no-create : (a : ℕ) → intent ≡ history.On a Create → ⊥
        no-create a e = cc

        no-clear : (a : ℕ) → intent ≡ history.On a Clear → ⊥
        no-clear a e = cc

        no-add : (m : ℕ) → history.Request kind (length n.requests) ≡ Subscribe m → ⊥
        no-add m e = cc

        no-cancel : (m : ℕ) → history.Request kind (length n.requests) ≡ Cancel m → ⊥
        no-cancel m e = cc

  pub moved-read : (a : Shape) (q : Handle) (sent : List Sending) (y : Client) → ClientReads x h a (Ok q) sent y → (let now : Names = with_request q (history.On c (history.Request Read (length n.requests))) n in Moved n x now sent now y)
  moved-read a q sent y reads =
      let now : Names = with_request q (history.On c (history.Request Read (length n.requests))) n in
      subst (λ (w : List Sending × Client). Moved n x now w.0 now w.1) (λ i. (sym reads.4.0 i, sym reads.4.1 i))
      (moved-asked reads.0 (request.Read a.data_type a.count) q Read tt reads.3 (read_sent h reads.0 a q) refl refl (q, At-last n.requests (q, history.On c (history.Request Read (length n.requests)))) reads.1)

  pub moved-put : (e : Elements) (q : Handle) (sent : List Sending) (y : Client) → ClientPuts x h e (Ok q) sent y → (let now : Names = with_request q (history.On c (history.Request Put (length n.requests))) n in Moved n x now sent now y)
  moved-put e q sent y puts =
      let now : Names = with_request q (history.On c (history.Request Put (length n.requests))) n in
      subst (λ (w : List Sending × Client). Moved n x now w.0 now w.1) (λ i. (sym puts.4.0 i, sym puts.4.1 i))
      (moved-asked puts.0 request.Put q Put tt puts.3 (put_sent h puts.0 e q) refl refl (q, At-last n.requests (q, history.On c (history.Request Put (length n.requests)))) puts.1)

-- ---- a plain write

tidy-wrote : (n : Names) (x : Client) (writes : ℕ) → Tidy n x → Tidy (record n { writes = writes }) x
tidy-wrote n x writes t = record { numbered = t.numbered; given = t.given; once = t.once; asked = t.asked; subscribed = t.subscribed; requests = t.requests; subscriptions = t.subscriptions }

quiet-wrote : (n : Names) (x : Client) (writes : ℕ) (on : Handle) (up : List Sent) → Quiet n x on up → Quiet (record n { writes = writes }) x on up
quiet-wrote n x writes on up q =
    record { named = λ p s at. named-still n (record n { writes = writes }) (λ i e place. place) (λ i e place. place) s.intent (q.named p s at); ids = q.ids; channels = q.channels; subscriptions = q.subscriptions }

pub moved-written : (n : Names) (x : Client) (h : Handle) (e : Elements) (sent : List Sending) (y : Client) → ClientWrites x h e (Ok tt) sent y → Tidy n x → Moved n x n sent (record n { writes = n.writes + 1 }) y
moved-written n x h e sent y writes t =
    let s : Sending = write_sent h writes.0 e in
    let now : Names = record n { writes = n.writes + 1 } in
    let ch = live-on x h writes.0 writes.1 in
    subst (λ (w : List Sending × Client). Moved n x n w.0 now w.1) (λ i. (sym writes.3.0 i, sym writes.3.1 i))
    (moved-less-then n n now x x (sending (s ∷ []) x) (s ∷ [])
    (moved-one n n now x x s (tidy-wrote n x (n.writes + 1) t)
    (λ up quiet.
    quiet-wrote n x (n.writes + 1) s.circuit (up ++ stamped n s ∷ [])
    (quiet-asked n x s.circuit up (stamped n s) t quiet h ch.0 (writes.0).native (writes.0).rights (history.Request Write n.writes) ch.1 ch.2 tt refl tt (λ m e. no-add m e) (λ m e. no-cancel m e)))
    (λ on up other quiet. quiet-wrote n x (n.writes + 1) on up quiet)
    (λ up quiet were. apart-one up (stamped n s) (λ a m e. plain (channel_number n h) a m e) were) refl (cid-none n.channels (stamped n s) (λ a. (λ e. no-create (channel_number n h) a e, λ e. no-clear (channel_number n h) a e)))) (less-sending (s ∷ []) x))
  where
    plain : (b a m : ℕ) → history.On b (history.Request Write n.writes) ≡ history.On a (Subscribe m) → ⊥
    plain b a m e = cc

    no-create : (b a : ℕ) → history.On b (history.Request Write n.writes) ≡ history.On a Create → ⊥
    no-create b a e = cc

    no-clear : (b a : ℕ) → history.On b (history.Request Write n.writes) ≡ history.On a Clear → ⊥
    no-clear b a e = cc

    no-add : (m : ℕ) → history.Request Write n.writes ≡ Subscribe m → ⊥
    no-add m e = cc

    no-cancel : (m : ℕ) → history.Request Write n.writes ≡ Cancel m → ⊥
    no-cancel m e = cc

-- ---- a subscription

number-of : (a b m k : ℕ) → history.On a (Subscribe m) ≡ history.On b (Subscribe k) → m ≡ k
number-of a b m k e = cc

pub moved-subscribed : (n : Names) (x : Client) (c : ℕ) (h : Handle) (a : Shape) (mask : ℕ) (q : Handle) (sent : List Sending) (y : Client) → ClientSubscribes x h a mask (Ok q) sent y → Tidy n x → AreGiven n.subscriptions x.subscriptions → At n.channels c h
    → (let now : Names = with_subscription q (history.On c (Subscribe (length n.subscriptions))) n in Moved n x now sent now y)
moved-subscribed n x c h a mask q sent y subscribes t given at =
    subst (λ (w : List Sending × Client). Moved n x now w.0 now w.1) (λ i. (sym subscribes.4.0 i, sym subscribes.4.1 i))
    (moved-less-then n now now x z (sending (s ∷ []) z) (s ∷ [])
    (moved-one n now now x z s tidy
    (λ up quiet.
    quiet-subscribed now z s.circuit up (stamped now s) tidy (before s.circuit up quiet) h ch.0 l.native l.rights (Subscribe (length n.subscriptions)) ch.1 ch.2 tt
    (meant ∙ ap (λ (k : ℕ). history.On k (Subscribe (length n.subscriptions))) (sym number)) q d c (length n.subscriptions) (held-own x.subscriptions q d may) refl meant refl refl)
    (λ on up other quiet. before on up quiet)
    (λ up quiet were. apart-first up (stamped now s) (λ k b m r at_r is_r e.
    let named : IsNamedIn n (history.On b (Subscribe m)) = subst (λ (i : Intent). IsNamedIn n i) is_r (quiet.named k r at_r) in
    let within : m < length n.subscriptions = At-within n.subscriptions m (named.0, history.On b (Subscribe m)) named.1 in
    let same : length n.subscriptions ≡ m = number-of c b (length n.subscriptions) m (sym meant ∙ e) in
    omega (arith, within, same)) were) refl (cid-none n.channels (stamped now s) (λ a. (λ e. no-create c a (length n.subscriptions) (sym meant ∙ e), λ e. no-clear c a (length n.subscriptions) (sym meant ∙ e))))) (less-sending (s ∷ []) z))
  where
    no-create : (b a m : ℕ) → history.On b (Subscribe m) ≡ history.On a Create → ⊥
    no-create b a m e = cc

    no-clear : (b a m : ℕ) → history.On b (Subscribe m) ≡ history.On a Clear → ⊥
    no-clear b a m e = cc

    intent : Intent
    intent = history.On c (Subscribe (length n.subscriptions))

    now : Names
    now = with_subscription q intent n

    l : LiveChannel
    l = subscribes.0

    may : MayGive x.subscriptions q
    may = subscribes.3

    d : Subscription
    d = new_subscription h a mask

    s : Sending
    s = event_add_sent l.circuit l.native.sid q d

    z : Client
    z = record x { subscriptions = with_held q d x.subscriptions }

    ch : (w : Channel) × (under x.channels h ≡ Some w) × (w.standing ≡ On l.circuit (Live l.native l.rights))
    ch = live-on x h l subscribes.1

    meant : meant_by now.subscriptions q ≡ intent
    meant = meant-own n.subscriptions q intent (new-name n.subscriptions x.subscriptions q given may)

    number : channel_number n h ≡ c
    number = t.once c h at

    tidy : Tidy now z
    tidy = record {
      numbered = t.numbered;
      given = t.given;
      once = t.once;
      asked = t.asked;
      subscribed = λ i e place. elim (At-snoc n.subscriptions (q, intent) i e place) [
        | inl old ↦ t.subscribed i e old
        | inr last ↦ (c, ap (λ (w : Handle × Intent). w.1) last.1 ∙ ap (λ (k : ℕ). history.On c (Subscribe k)) (sym last.0))
      ];
      requests = t.requests;
      subscriptions = λ g v is. elim (held-back x.subscriptions g q d v is) [
        | inl own ↦
            subst (λ (w : Handle × Subscription). IsSubscriptionOn now w.1.channel (meant_by now.subscriptions w.0)) (λ i. (sym own.0 i, sym own.1 i))
            (length n.subscriptions, subst (λ (k : ℕ). At n.channels k h) (sym number) at, meant ∙ ap (λ (k : ℕ). history.On k (Subscribe (length n.subscriptions))) (sym number))
        | inr old ↦ (let w = t.subscriptions g v old in (w.0, w.1, meant-still n.subscriptions (q, intent) g (channel_number n v.channel) (Subscribe w.0) w.2))
      ];
    }

    before : (on : Handle) (up : List Sent) → Quiet n x on up → Quiet now z on up
    before on up quiet = record {
      named = λ p r at_p. named-still n now (λ i e place. place) (λ i e place. At-append n.subscriptions ((q, intent) ∷ []) i e place) r.intent (quiet.named p r at_p);
      ids = λ p r at_p b m w. (let f = quiet.ids p r at_p b m w in (f.0, f.1, At-append n.subscriptions ((q, intent) ∷ []) m (f.0, f.1) f.2, f.3));
      channels = quiet.channels;
      subscriptions = λ g v b m is says. elim (held-back x.subscriptions g q d v is) [
        | inl own ↦
            let m_is : m ≡ length n.subscriptions = number-of b c m (length n.subscriptions) (sym says ∙ ap (λ (k : Handle). meant_by now.subscriptions k) own.0 ∙ meant) in
            subst (λ (w : Subscription × ℕ). StageIn on up w.1 w.0.stage) (λ i. (sym own.1 i, sym m_is i)) none
        | inr old ↦
            let w = t.subscriptions g v old in
            let m_is : m ≡ w.0 = number-of b (channel_number n v.channel) m w.0 (sym says ∙ meant-still n.subscriptions (q, intent) g (channel_number n v.channel) (Subscribe w.0) w.2) in
            subst (λ (k : ℕ). StageIn on up k v.stage) (sym m_is) (quiet.subscriptions g v (channel_number n v.channel) w.0 old w.2)
      ];
    }
      where
        none : NoCancel up (length n.subscriptions)
        none p b r at_p is =
            let named : IsNamedIn n (history.On b (Cancel (length n.subscriptions))) = subst (λ (i : Intent). IsNamedIn n i) is (quiet.named p r at_p) in
            let lt : length n.subscriptions < length n.subscriptions = At-within n.subscriptions (length n.subscriptions) (named.0, history.On b (Subscribe (length n.subscriptions))) named.1 in
            omega (arith, lt)
