-- A client's log reports each read, put and subscription once: what it told of is over, and what a
-- call or a step reports was not.
use Rattle.std.proofs.Common.{◌≡◌, ℕ, zero, suc, ◌⊎◌, inl, inr, List, [], ◌∷◌, Option, Some, None, refl, sym, ap, ◌∙◌, subst}
use Rattle.std.specs.Prelude.{find, option_map, unwrap_or}
use Rattle.ca_text.specs.Place.{At}
use Rattle.ca_text.proofs.Places.{At-append, At-mapped, At-one, At-snoc, some_is}
use Rattle.ca_text.specs.declared.status.Status.{Status}
use Rattle.ca_arena.specs.declared.handle.Handle.{Handle}
use Rattle.ca_dbr.specs.declared.value.Outcome.{Outcome}
use Rattle.ca_dbr.specs.declared.value.Outcome.TheVariants as outcome
use Rattle.ca_ids.specs.Table.{MayGive, same_handle, under, with_held}
use Rattle.ca_monitor.specs.Subscriptions.{Subscription}
use Rattle.ca_requests.specs.Requests.{Asked}
use Rattle.ca_requests.specs.Calls.{new_request}
use Rattle.ca_model.specs.Answers.{Notice, Sending}
use Rattle.ca_model.specs.Answers as notice
use Rattle.ca_model.specs.Client.{Client, sending}
use Rattle.ca_model.specs.ClientCalls.{LiveChannel, issued}
use Rattle.ca_model.specs.History.{Called, Cancel, Clear, Create, Intent, Kind, Line, Noticed, Put, Read, Subscribe, Wish, Write}
use Rattle.ca_model.specs.History as history
use Rattle.ca_model.specs.Placed.{WasGiven}
use Rattle.ca_model.proofs.Handles.{same-is}
use Rattle.ca_model.proofs.Tables.{find-at, held-back, held-other, held-own}
use Rattle.ca_model.proofs.Thinner.{given-under}
use Rattle.ca_model.specs.ClientEvents.{line_of, lines_of, meant_by}
use Rattle.ca_model.specs.World.{Names}
use Rattle.ca_laws_parts.specs.Held.{with_request, with_subscription}
use Rattle.ca_laws_parts.specs.Circuit.{AreGiven}
use Rattle.ca_laws_parts.proofs.RunsSending.{not-given}
use Rattle.ca_laws_runs.specs.Once.{IsAwaited}
use Rattle.ca_laws_runs.specs.Quiet.{IsAnswered, Tidy}
use Rattle.ca_laws_runs.proofs.OnceTold.{AreIssued, Asks, IsOpenBy, StandsBy, Told, asks-sending}
use Rattle.ca_laws_runs.proofs.OnceLess.{less-sending}
use Rattle.ca_laws_runs.proofs.OnceTold as once

-- What was meant so is over, by a client's names and its core: no request of this number is open,
-- no subscription of it stands.
abbrev pub IsDone : Names → Client → Intent → Type 0
IsDone n x (history.On c (history.Request Read m)) = (e : Handle × Intent) × At n.requests m e × (IsOpenBy x e.0 → ⊥)
IsDone n x (history.On c (history.Request Put m)) = (e : Handle × Intent) × At n.requests m e × (IsOpenBy x e.0 → ⊥)
IsDone n x (history.On c (history.Request Write m)) = Unit {0}
IsDone n x (history.On c (Subscribe m)) = (e : Handle × Intent) × At n.subscriptions m e × (StandsBy x e.0 → ⊥)
IsDone n x (history.On c (Cancel m)) = Unit {0}
IsDone n x (history.On c Clear) = Unit {0}
IsDone n x (history.On c Create) = Unit {0}
IsDone n x history.OfCircuit = Unit {0}

-- what is over stays so
pub done-more : (n now : Names) (x y : Client) → ((m : ℕ) (e : Handle × Intent) → At n.requests m e → (IsOpenBy x e.0 → ⊥) → At now.requests m e × (IsOpenBy y e.0 → ⊥))
    → ((m : ℕ) (e : Handle × Intent) → At n.subscriptions m e → (StandsBy x e.0 → ⊥) → At now.subscriptions m e × (StandsBy y e.0 → ⊥)) → (intent : Intent) → IsDone n x intent → IsDone now y intent
done-more n now x y requests subscriptions (history.On c (history.Request Read m)) d = (let r = requests m d.0 d.1 d.2 in (d.0, r.0, r.1))
done-more n now x y requests subscriptions (history.On c (history.Request Put m)) d = (let r = requests m d.0 d.1 d.2 in (d.0, r.0, r.1))
done-more n now x y requests subscriptions (history.On c (history.Request Write m)) d = tt
done-more n now x y requests subscriptions (history.On c (Subscribe m)) d = (let r = subscriptions m d.0 d.1 d.2 in (d.0, r.0, r.1))
done-more n now x y requests subscriptions (history.On c (Cancel m)) d = tt
done-more n now x y requests subscriptions (history.On c Clear) d = tt
done-more n now x y requests subscriptions (history.On c Create) d = tt
done-more n now x y requests subscriptions history.OfCircuit d = tt

-- What was over stays so. What these lines tell of was not over and is now, and
-- they tell of it once.
pub record Tells (n : Names) (x : Client) (lines : List Line) (now : Names) (y : Client) : Type 0 where
  pub olds : (intent : Intent) → IsDone n x intent → IsDone now y intent
  pub news : (p : ℕ) (intent : Intent) (o : Outcome) → At lines p (Noticed intent o) → IsAwaited intent → (IsDone n x intent → ⊥) × IsDone now y intent
  pub once : (p q : ℕ) (intent : Intent) (o r : Outcome) → At lines p (Noticed intent o) → At lines q (Noticed intent r) → IsAwaited intent → p ≡ q
  pub issued : AreIssued y
  pub failed : (p c m : ℕ) (o : Outcome) → At lines p (Noticed (history.On c (history.Request Write m)) o) → (s : Status) × (o ≡ outcome.Failed s)

-- lines that tell no outcome
abbrev pub NoNotice : List Line → Type 0
NoNotice lines = (p : ℕ) (intent : Intent) (o : Outcome) → At lines p (Noticed intent o) → ⊥

pub nothing-noticed : NoNotice []
nothing-noticed p intent o at = cc

pub one-no-notice : (line : Line) → ((intent : Intent) (o : Outcome) → line ≡ Noticed intent o → ⊥) → NoNotice (line ∷ [])
one-no-notice line none zero intent o at = none intent o (some_is line (Noticed intent o) at)
one-no-notice line none (suc p) intent o at = cc

pub called-no-notice : (intent : Intent) (e : Wish) → NoNotice (Called intent e ∷ [])
called-no-notice intent e = one-no-notice (Called intent e) (λ i o is. differ i o is)
  where
    differ : (i : Intent) (o : Outcome) → Called intent e ≡ Noticed i o → ⊥
    differ i o is = cc

pub tells-none : (n : Names) (x : Client) (lines : List Line) (now : Names) (y : Client) → ((intent : Intent) → IsDone n x intent → IsDone now y intent) → AreIssued y → NoNotice lines → Tells n x lines now y
tells-none n x lines now y olds issued none = record {
  olds = olds;
  news = λ p intent o at is. absurd (none p intent o at);
  once = λ p q intent o r at also is. absurd (none p intent o at);
  issued = issued;
  failed = λ p c m o at. absurd (none p (history.On c (history.Request Write m)) o at);
}

-- what is over by the one stays so by the other, if nothing new is open or stands
pub done-less : (n : Names) (x y : Client) → ((q : Handle) → IsOpenBy y q → IsOpenBy x q) → ((g : Handle) → StandsBy y g → StandsBy x g) → (intent : Intent) → IsDone n x intent → IsDone n y intent
done-less n x y opens stands = done-more n n x y (λ m e at over. (at, λ o. over (opens e.0 o))) (λ m e at over. (at, λ o. over (stands e.0 o)))

-- one line more, before the others, that tells no outcome
pub tells-after : (n : Names) (x : Client) (line : Line) (lines : List Line) (now : Names) (y : Client) → ((intent : Intent) (o : Outcome) → line ≡ Noticed intent o → ⊥) → Tells n x lines now y → Tells n x (line ∷ lines) now y
tells-after n x line lines now y none t = record {
  olds = t.olds;
  news = λ p intent o at is. news p intent o at is;
  once = λ p q intent o r at also is. both p q intent o r at also is;
  issued = t.issued;
  failed = λ p c m o at. fails p c m o at;
}
  where
    fails : (p c m : ℕ) (o : Outcome) → At (line ∷ lines) p (Noticed (history.On c (history.Request Write m)) o) → (s : Status) × (o ≡ outcome.Failed s)
    fails zero c m o at = absurd (none (history.On c (history.Request Write m)) o (some_is line (Noticed (history.On c (history.Request Write m)) o) at))
    fails (suc p) c m o at = t.failed p c m o at

    news : (p : ℕ) (intent : Intent) (o : Outcome) → At (line ∷ lines) p (Noticed intent o) → IsAwaited intent → (IsDone n x intent → ⊥) × IsDone now y intent
    news zero intent o at is = absurd (none intent o (some_is line (Noticed intent o) at))
    news (suc p) intent o at is = t.news p intent o at is

    both : (p q : ℕ) (intent : Intent) (o r : Outcome) → At (line ∷ lines) p (Noticed intent o) → At (line ∷ lines) q (Noticed intent r) → IsAwaited intent → p ≡ q
    both zero q intent o r at also is = absurd (none intent o (some_is line (Noticed intent o) at))
    both (suc p) zero intent o r at also is = absurd (none intent r (some_is line (Noticed intent r) also))
    both (suc p) (suc q) intent o r at also is = ap suc (t.once p q intent o r at also is)

-- ---- what notices tell of

-- A notice reports a request that the names have under this handle, or of a subscription.
pub record OfRequest (n : Names) (k : Notice) (intent : Intent) : Type 0 where
  pub q : Handle
  pub o : Outcome
  pub is : k ≡ notice.Completed q o
  pub m : ℕ
  pub c : ℕ
  pub kind : Kind
  pub meant : intent ≡ history.On c (history.Request kind m)
  pub e : Handle × Intent
  pub at : At n.requests m e
  pub own : e.0 ≡ q

pub record OfSubscription (n : Names) (k : Notice) (intent : Intent) : Type 0 where
  pub g : Handle
  pub s : Status
  pub is : k ≡ notice.SubscriptionEnded g s
  pub m : ℕ
  pub c : ℕ
  pub meant : intent ≡ history.On c (Subscribe m)
  pub e : Handle × Intent
  pub at : At n.subscriptions m e
  pub own : e.0 ≡ g

noticed-intent : (a b : Intent) (o p : Outcome) → Noticed a o ≡ Noticed b p → a ≡ b
noticed-intent a b o p is = cc

tells-of : (n : Names) (x : Client) → Tidy n x → (about : Intent) (k : Notice) (intent : Intent) (o : Outcome) → Noticed intent o ≡ line_of about n k → IsAwaited intent → OfRequest n k intent ⊎ OfSubscription n k intent
tells-of n x t about (notice.Live h) intent o is awaited = absurd (subst (λ (v : Intent). IsAwaited v) (noticed-intent intent _ o _ is) awaited)
tells-of n x t about (notice.Lost h) intent o is awaited = absurd (subst (λ (v : Intent). IsAwaited v) (noticed-intent intent _ o _ is) awaited)
tells-of n x t about (notice.Update h v) intent o is awaited = absurd cc
tells-of n x t about (notice.WriteRefused h v) intent o is awaited = absurd (subst (λ (v : Intent). IsAwaited v) (noticed-intent intent _ o _ is) awaited)
tells-of n x t about (notice.Completed q p) intent o is awaited = inl (go (find (λ (w : Handle × Intent). same_handle w.0 q) n.requests) refl)
  where
    mine : intent ≡ meant_by n.requests q
    mine = noticed-intent intent (meant_by n.requests q) o p is

    go : (v : Option (Handle × Intent)) → find (λ (w : Handle × Intent). same_handle w.0 q) n.requests ≡ v → OfRequest n (notice.Completed q p) intent
    go None found = absurd (subst (λ (i : Intent). IsAwaited i) (mine ∙ ap (λ (w : Option (Handle × Intent)). unwrap_or (option_map (λ (z : Handle × Intent). z.1) w) history.OfCircuit) found) awaited)
    go (Some e) found =
        let f = find-at (λ (w : Handle × Intent). same_handle w.0 q) n.requests e found in
        let a = t.asked f.0 e f.1 in
        record {
          q = q;
          o = p;
          is = refl;
          m = f.0;
          c = a.0;
          kind = a.1;
          meant = mine ∙ ap (λ (w : Option (Handle × Intent)). unwrap_or (option_map (λ (z : Handle × Intent). z.1) w) history.OfCircuit) found ∙ a.2;
          e = e;
          at = f.1;
          own = same-is e.0 q f.2;
        }
tells-of n x t about (notice.SubscriptionEnded g s) intent o is awaited = inr (go (find (λ (w : Handle × Intent). same_handle w.0 g) n.subscriptions) refl)
  where
    mine : intent ≡ meant_by n.subscriptions g
    mine = noticed-intent intent (meant_by n.subscriptions g) o _ is

    go : (v : Option (Handle × Intent)) → find (λ (w : Handle × Intent). same_handle w.0 g) n.subscriptions ≡ v → OfSubscription n (notice.SubscriptionEnded g s) intent
    go None found = absurd (subst (λ (i : Intent). IsAwaited i) (mine ∙ ap (λ (w : Option (Handle × Intent)). unwrap_or (option_map (λ (z : Handle × Intent). z.1) w) history.OfCircuit) found) awaited)
    go (Some e) found =
        let f = find-at (λ (w : Handle × Intent). same_handle w.0 g) n.subscriptions e found in
        let a = t.subscribed f.0 e f.1 in
        record {
          g = g;
          s = s;
          is = refl;
          m = f.0;
          c = a.0;
          meant = mine ∙ ap (λ (w : Option (Handle × Intent)). unwrap_or (option_map (λ (z : Handle × Intent). z.1) w) history.OfCircuit) found ∙ a.1;
          e = e;
          at = f.1;
          own = same-is e.0 g f.2;
        }

-- over, or not, by its number
request-done : (n : Names) (x : Client) (k : Notice) (intent : Intent) → IsAwaited intent → (f : OfRequest n k intent) → (IsOpenBy x f.q → ⊥) → IsDone n x intent
request-done n x k intent awaited f over = subst (λ (v : Intent). IsDone n x v) (sym f.meant) (by f.kind (subst (λ (v : Intent). IsAwaited v) f.meant awaited))
  where
    by : (kind : Kind) → IsAwaited (history.On f.c (history.Request kind f.m)) → IsDone n x (history.On f.c (history.Request kind f.m))
    by Read a = (f.e, f.at, λ o. over (subst (λ (h : Handle). IsOpenBy x h) f.own o))
    by Put a = (f.e, f.at, λ o. over (subst (λ (h : Handle). IsOpenBy x h) f.own o))
    by Write a = tt

request-not-done : (n : Names) (x : Client) (k : Notice) (intent : Intent) → IsAwaited intent → (f : OfRequest n k intent) → IsOpenBy x f.q → IsDone n x intent → ⊥
request-not-done n x k intent awaited f open_it done = by f.kind (subst (λ (v : Intent). IsAwaited v) f.meant awaited) (subst (λ (v : Intent). IsDone n x v) f.meant done)
  where
    same : (e : Handle × Intent) → At n.requests f.m e → IsOpenBy x e.0
    same e at = subst (λ (h : Handle). IsOpenBy x h) (sym f.own ∙ ap (λ (w : Handle × Intent). w.0) (At-one n.requests f.m f.e e f.at at)) open_it

    by : (kind : Kind) → IsAwaited (history.On f.c (history.Request kind f.m)) → IsDone n x (history.On f.c (history.Request kind f.m)) → ⊥
    by Read a d = d.2 (same d.0 d.1)
    by Put a d = d.2 (same d.0 d.1)
    by Write a d = a

subscription-done : (n : Names) (x : Client) (k : Notice) (intent : Intent) → (f : OfSubscription n k intent) → (StandsBy x f.g → ⊥) → IsDone n x intent
subscription-done n x k intent f over = subst (λ (v : Intent). IsDone n x v) (sym f.meant) (f.e, f.at, λ o. over (subst (λ (h : Handle). StandsBy x h) f.own o))

subscription-not-done : (n : Names) (x : Client) (k : Notice) (intent : Intent) → (f : OfSubscription n k intent) → StandsBy x f.g → IsDone n x intent → ⊥
subscription-not-done n x k intent f stands done =
    let d : IsDone n x (history.On f.c (Subscribe f.m)) = subst (λ (v : Intent). IsDone n x v) f.meant done in
    d.2 (subst (λ (h : Handle). StandsBy x h) (sym f.own ∙ ap (λ (w : Handle × Intent). w.0) (At-one n.subscriptions f.m f.e d.0 f.at d.1)) stands)

-- the numbers of the one intent
same-request : (a b : ℕ) (k l : Kind) (m p : ℕ) → history.On a (history.Request k m) ≡ history.On b (history.Request l p) → m ≡ p
same-request a b k l m p is = cc

same-subscription : (a b m p : ℕ) → history.On a (Subscribe m) ≡ history.On b (Subscribe p) → m ≡ p
same-subscription a b m p is = cc

not-both : (a b : ℕ) (k : Kind) (m p : ℕ) → history.On a (history.Request k m) ≡ history.On b (Subscribe p) → ⊥
not-both a b k m p is = cc

-- a plain write is told of by its refusal alone
noticed-outcome : (a b : Intent) (o p : Outcome) → Noticed a o ≡ Noticed b p → o ≡ p
noticed-outcome a b o p is = cc

kind-is : (a b m p : ℕ) (k l : Kind) → history.On a (history.Request k m) ≡ history.On b (history.Request l p) → k ≡ l
kind-is a b m p k l is = cc

fails-so : (n : Names) (x : Client) → Tidy n x → (about : Intent) (k : Notice) (c m : ℕ) (o : Outcome) → Noticed (history.On c (history.Request Write m)) o ≡ line_of about n k → (s : Status) × (o ≡ outcome.Failed s)
fails-so n x t about (notice.Live h) c m o is = absurd cc
fails-so n x t about (notice.Lost h) c m o is = absurd cc
fails-so n x t about (notice.Update h v) c m o is = absurd cc
fails-so n x t about (notice.WriteRefused h v) c m o is = (v, noticed-outcome (history.On c (history.Request Write m)) _ o (outcome.Failed v) is)
fails-so n x t about (notice.SubscriptionEnded g v) c m o is = (v, noticed-outcome (history.On c (history.Request Write m)) (meant_by n.subscriptions g) o (outcome.Failed v) is)
fails-so n x t about (notice.Completed q p) c m o is = absurd (go (find (λ (w : Handle × Intent). same_handle w.0 q) n.requests) refl)
  where
    mine : history.On c (history.Request Write m) ≡ meant_by n.requests q
    mine = noticed-intent (history.On c (history.Request Write m)) (meant_by n.requests q) o p is

    differ : history.On c (history.Request Write m) ≡ history.OfCircuit → ⊥
    differ e = cc

    go : (v : Option (Handle × Intent)) → find (λ (w : Handle × Intent). same_handle w.0 q) n.requests ≡ v → ⊥
    go None found = differ (mine ∙ ap (λ (w : Option (Handle × Intent)). unwrap_or (option_map (λ (z : Handle × Intent). z.1) w) history.OfCircuit) found)
    go (Some e) found =
        let f = find-at (λ (w : Handle × Intent). same_handle w.0 q) n.requests e found in
        let a = t.asked f.0 e f.1 in
        let same : Write ≡ a.1 = kind-is c a.0 m f.0 Write a.1 (mine ∙ ap (λ (w : Option (Handle × Intent)). unwrap_or (option_map (λ (z : Handle × Intent). z.1) w) history.OfCircuit) found ∙ a.2) in
        subst (λ (k : Kind). IsAnswered k) (sym same) a.3

-- What a client tells of as it changes, with its names as they are.
pub tells-told : (n : Names) (x : Client) (about : Intent) (notices : List Notice) (y : Client) → Tidy n x → AreIssued x → Told x notices y → Tells n x (lines_of about n notices) n y
tells-told n x about notices y t was told = record {
  olds = done-less n x y told.opens told.stands;
  news = λ p intent o at is. news p intent o at is;
  once = λ p q intent o r at also is. both p q intent o r at also is;
  issued = told.issued was;
  failed = λ p c m o at. (let k = At-mapped (line_of about n) notices p (Noticed (history.On c (history.Request Write m)) o) at in fails-so n x t about k.0 c m o k.2);
}
  where
    line-at : (p : ℕ) (intent : Intent) (o : Outcome) → At (lines_of about n notices) p (Noticed intent o) → IsAwaited intent → (k : Notice) × At notices p k × (OfRequest n k intent ⊎ OfSubscription n k intent)
    line-at p intent o at is = (let m = At-mapped (line_of about n) notices p (Noticed intent o) at in (m.0, m.1, tells-of n x t about m.0 intent o m.2 is))

    news : (p : ℕ) (intent : Intent) (o : Outcome) → At (lines_of about n notices) p (Noticed intent o) → IsAwaited intent → (IsDone n x intent → ⊥) × IsDone n y intent
    news p intent o at is =
        let m = line-at p intent o at is in
        elim m.2 [
          | inl f ↦
              let c = told.completed p f.q f.o (subst (λ (k : Notice). At notices p k) f.is m.1) in
              (request-not-done n x m.0 intent is f c.0, request-done n y m.0 intent is f c.1)
          | inr f ↦
              let c = told.ended p f.g f.s (subst (λ (k : Notice). At notices p k) f.is m.1) in
              (subscription-not-done n x m.0 intent f c.0, subscription-done n y m.0 intent f c.1)
        ]

    both : (p q : ℕ) (intent : Intent) (o r : Outcome) → At (lines_of about n notices) p (Noticed intent o) → At (lines_of about n notices) q (Noticed intent r) → IsAwaited intent → p ≡ q
    both p q intent o r at also is =
        let a = line-at p intent o at is in
        let b = line-at q intent r also is in
        elim a.2 [
          | inl f ↦ elim b.2 [
            | inl g ↦
                let number : f.m ≡ g.m = same-request f.c g.c f.kind g.kind f.m g.m (sym f.meant ∙ g.meant) in
                let entry : f.e ≡ g.e = At-one n.requests g.m f.e g.e (subst (λ (v : ℕ). At n.requests v f.e) number f.at) g.at in
                let handle : g.q ≡ f.q = sym g.own ∙ ap (λ (w : Handle × Intent). w.0) (sym entry) ∙ f.own in
                told.one_completed was p q f.q f.o g.o (subst (λ (k : Notice). At notices p k) f.is a.1)
                (subst (λ (h : Handle). At notices q (notice.Completed h g.o)) handle (subst (λ (k : Notice). At notices q k) g.is b.1))
            | inr g ↦ absurd (not-both f.c g.c f.kind f.m g.m (sym f.meant ∙ g.meant))
          ]
          | inr f ↦ elim b.2 [
            | inl g ↦ absurd (not-both g.c f.c g.kind g.m f.m (sym g.meant ∙ f.meant))
            | inr g ↦
                let number : f.m ≡ g.m = same-subscription f.c g.c f.m g.m (sym f.meant ∙ g.meant) in
                let entry : f.e ≡ g.e = At-one n.subscriptions g.m f.e g.e (subst (λ (v : ℕ). At n.subscriptions v f.e) number f.at) g.at in
                let handle : g.g ≡ f.g = sym g.own ∙ ap (λ (w : Handle × Intent). w.0) (sym entry) ∙ f.own in
                told.one_ended p q f.g f.s g.s (subst (λ (k : Notice). At notices p k) f.is a.1)
                (subst (λ (h : Handle). At notices q (notice.SubscriptionEnded h g.s)) handle (subst (λ (k : Notice). At notices q k) g.is b.1))
          ]
        ]

-- ---- calls that give a number

-- a request is issued
module _ (n : Names) (x : Client) (given : AreGiven n.requests x.requests) (was : AreIssued x) (h : Handle) (l : LiveChannel) (asked : Asked) (q : Handle) (may : MayGive x.requests q) where
  abbrev now : Client
  now = issued h l asked q x

  -- none that was named is this one
  other-open : (k : Handle) → WasGiven x.requests k → IsOpenBy now k → IsOpenBy x k
  other-open k known o = elim (held-back x.requests k q (new_request h l.circuit asked) o.0 o.1) [
    | inl own ↦ absurd (not-given x.requests q may (subst (λ (v : Handle). WasGiven x.requests v) own.0 known))
    | inr old ↦ (o.0, old, o.2)
  ]

  not-twice : (i : ℕ) → At x.issued i q → ⊥
  not-twice i at = (let r = was.there i q at in not-given x.requests q may (given-under x.requests q r.0 r.1))

  all-issued : AreIssued now
  all-issued = record {
    once = λ i m k at also. elim (At-snoc x.issued q i k at) [
      | inl first ↦ elim (At-snoc x.issued q m k also) [
        | inl second ↦ was.once i m k first second
        | inr last ↦ absurd (not-twice i (subst (λ (v : Handle). At x.issued i v) last.1 first))
      ]
      | inr end ↦ elim (At-snoc x.issued q m k also) [
        | inl second ↦ absurd (not-twice m (subst (λ (v : Handle). At x.issued m v) end.1 second))
        | inr last ↦ end.0 ∙ sym last.0
      ]
    ];
    there = λ i k at. elim (At-snoc x.issued q i k at) [
      | inl old ↦ (let r = was.there i k old in (r.0, held-other x.requests k q (new_request h l.circuit asked) r.0 may r.1))
      | inr last ↦ (new_request h l.circuit asked, subst (λ (v : Handle). under now.requests v ≡ Some (new_request h l.circuit asked)) (sym last.1) (held-own x.requests q (new_request h l.circuit asked) may))
    ];
  }

  pub tells-issued : (sends : List Sending) (intent : Intent) (lines : List Line) → NoNotice lines → Tells n x lines (with_request q intent n) (sending sends now)
  tells-issued sends intent lines none =
      let asks : Asks now (sending sends now) = asks-sending sends now in
      tells-none n x lines (with_request q intent n) (sending sends now)
      (done-more n (with_request q intent n) x (sending sends now)
      (λ m e at over. (At-append n.requests ((q, intent) ∷ []) m e at, λ o. over (other-open e.0 (given m e at) (asks.opens e.0 o))))
      (λ m e at over. (at, λ o. over (once.stands-less now (sending sends now) (less-sending sends now) e.0 o))))
      (asks.issued all-issued) none

-- a subscription is made
pub tells-subscribed : (n : Names) (x : Client) → AreGiven n.subscriptions x.subscriptions → AreIssued x → (g : Handle) (d : Subscription) → MayGive x.subscriptions g → (sends : List Sending) (intent : Intent) (lines : List Line) → NoNotice lines
    → (let z : Client = record x { subscriptions = with_held g d x.subscriptions } in Tells n x lines (with_subscription g intent n) (sending sends z))
tells-subscribed n x given was g d may sends intent lines none =
    let z : Client = record x { subscriptions = with_held g d x.subscriptions } in
    let asks : Asks x (sending sends z) = once.asks-then x z (sending sends z) (once.asks-same x z refl refl) (asks-sending sends z) in
    tells-none n x lines (with_subscription g intent n) (sending sends z)
    (done-more n (with_subscription g intent n) x (sending sends z)
    (λ m e at over. (at, λ o. over (asks.opens e.0 o)))
    (λ m e at over. (
      At-append n.subscriptions ((g, intent) ∷ []) m e at,
      λ o.
          let s = once.stands-less z (sending sends z) (less-sending sends z) e.0 o in
          elim (held-back x.subscriptions e.0 g d s.0 s.1) [
            | inl own ↦ not-given x.subscriptions g may (subst (λ (v : Handle). WasGiven x.subscriptions v) own.0 (given m e at))
            | inr old ↦ over (s.0, old, s.2)
          ],
    )))
    (asks.issued was) none
