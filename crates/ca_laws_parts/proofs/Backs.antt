-- From one client to another nothing more is known of its channels, requests and subscriptions:
-- each was there before.
use Rattle.std.proofs.Common.{◌≡◌, ℕ, ◌⊎◌, inl, inr, Bool, true, false, cond, List, [], ◌∷◌, Option, Some, None, refl, sym, ap, ◌∙◌, subst}
use Rattle.std.specs.Prelude.{◌==◌, fold, length, is_none, not, option_and_then, option_map, unwrap_or}
use Rattle.std.proofs.lemmas.Bool.{both_ways}
use Rattle.ca_arena.specs.declared.handle.Handle.{Handle}
use Rattle.ca_ids.specs.Table.{Table, under, with_changed, with_freed}
use Rattle.ca_monitor.specs.Subscriptions.{Subscription, drains_in, is_cancelled_in, stands_in}
use Rattle.ca_requests.specs.Requests.{Request, was_sent_on}
use Rattle.ca_model.specs.Answers.{Sending}
use Rattle.ca_model.specs.Client.{Channel, Clearing, Client, ClientCircuit, Connecting, Creating, Doomed, Leaving, Live, On, Phase, Searching, Standing, channels_ended, channels_on, connection_at, disconnected, ended, is_cleared, let_go, searched_again, sending, with_one_sent, without_channel, without_circuit, without_ids}
use Rattle.ca_model.specs.ClientCalls.{unwanted}
use Rattle.ca_model.proofs.Tables.{all-freed-back, changed-back, freed-back, one-value}
use Rattle.ca_laws_parts.proofs.Filtered.{requests-ended}
use Rattle.ca_laws_parts.proofs.Rests.{OverAt, is_over}

-- The channel of this handle stood on the circuit so that as much was known of it.
abbrev pub Was : (on : Handle) → Table Channel → Handle → Phase → Type 0
Was on t h (Live n rights) = (ch : Channel) × (s : ℕ) × (under t h ≡ Some ch) × (ch.standing ≡ On on (Live n s))
Was on t h (Creating rights) = (ch : Channel) × (s : ℕ) × (under t h ≡ Some ch) × (ch.standing ≡ On on (Creating s))
Was on t h Doomed =
    (ch : Channel) × (p : Phase) × (under t h ≡ Some ch) × (ch.standing ≡ On on p) × ((p ≡ Doomed) ⊎ ((s : ℕ) × (p ≡ Creating s)))
Was on t h Leaving = OverAt on t h
Was on t h Clearing = OverAt on t h
Was on t h p = Unit {0}

abbrev pub BacksOn : (on : Handle) (t u : Table Channel) → Type 0
BacksOn on t u = (h : Handle) (ch : Channel) (p : Phase) → under u h ≡ Some ch → ch.standing ≡ On on p → Was on t h p

-- requests and subscriptions that are there in both are on their channels
abbrev pub AsksAs : (t u : Table Request) → Type 0
AsksAs t u = (q : Handle) (r v : Request) → under t q ≡ Some r → under u q ≡ Some v → v.channel ≡ r.channel

abbrev pub SubscribesAs : (t u : Table Subscription) → Type 0
SubscribesAs t u = (g : Handle) (d : Subscription) → under u g ≡ Some d
    → (e : Subscription) × (under t g ≡ Some e) × (d.channel ≡ e.channel) × (stands_in d.stage ≡ true → stands_in e.stage ≡ true)

-- the same, of those that are there in both
abbrev pub SubscribesOn : (t u : Table Subscription) → Type 0
SubscribesOn t u = (g : Handle) (d e : Subscription) → under t g ≡ Some d → under u g ≡ Some e
    → (e.channel ≡ d.channel) × (stands_in e.stage ≡ true → stands_in d.stage ≡ true)

pub subscribes-on : (t u : Table Subscription) → SubscribesAs t u → SubscribesOn t u
subscribes-on t u subs g d e was is =
    let b = subs g e is in
    let one : b.0 ≡ d = one-value t g b.0 d b.1 was in
    (b.2 ∙ ap (λ (z : Subscription). z.channel) one, λ s. subst (λ (z : Subscription). stands_in z.stage ≡ true) one (b.3 s))

-- each subscription of the other that was cancelled on a circuit was so before
abbrev pub CancelsAs : (t u : Table Subscription) → Type 0
CancelsAs t u = (o g : Handle) (d : Subscription) → under u g ≡ Some d → is_cancelled_in o d.stage ≡ true
    → (e : Subscription) × (under t g ≡ Some e) × (is_cancelled_in o e.stage ≡ true)

-- as it is if each was there
pub cancels-there : (t u : Table Subscription) → ((g : Handle) (d : Subscription) → under u g ≡ Some d → under t g ≡ Some d) → CancelsAs t u
cancels-there t u was o g d is stops = (d, was g d is, stops)

pub cancels-as-same : (t u : Table Subscription) → u ≡ t → CancelsAs t u
cancels-as-same t u same = cancels-there t u (λ g d is. subst (λ (w : Table Subscription). under w g ≡ Some d) same is)

pub record Backs (on : Handle) (x y : Client) : Type 0 where
  pub channels : BacksOn on x.channels y.channels
  pub requests : AsksAs x.requests y.requests
  pub subscriptions : SubscribesAs x.subscriptions y.subscriptions
  pub cancelled : CancelsAs x.subscriptions y.subscriptions

pub was-same : (on : Handle) (t : Table Channel) (h : Handle) (ch : Channel) (p : Phase) → under t h ≡ Some ch → ch.standing ≡ On on p → Was on t h p
was-same on t h ch (Live n rights) there stands = (ch, rights, there, stands)
was-same on t h ch (Creating rights) there stands = (ch, rights, there, stands)
was-same on t h ch Doomed there stands = (ch, Doomed, there, stands, inl refl)
was-same on t h ch Connecting there stands = tt
was-same on t h ch Leaving there stands = (ch, Leaving, there, stands, refl)
was-same on t h ch Clearing there stands = (ch, Clearing, there, stands, refl)

over-was : (on : Handle) (t : Table Channel) (h : Handle) (p : Phase) → is_over p ≡ true → Was on t h p → OverAt on t h
over-was on t h Leaving is was = was
over-was on t h Clearing is was = was
over-was on t h Connecting is was = absurd (both_ways false refl is)
over-was on t h (Creating rights) is was = absurd (both_ways false refl is)
over-was on t h Doomed is was = absurd (both_ways false refl is)
over-was on t h (Live n rights) is was = absurd (both_ways false refl is)

pub over-back : (on : Handle) (t u : Table Channel) → BacksOn on t u → (h : Handle) → OverAt on u h → OverAt on t h
over-back on t u back h o = over-was on t h o.1 o.4 (back h o.0 o.1 o.2 o.3)

pub back-same : (on : Handle) (t u : Table Channel) → u ≡ t → BacksOn on t u
back-same on t u same h ch p there stands = was-same on t h ch p (subst (λ (w : Table Channel). under w h ≡ Some ch) same there) stands

pub asks-as-same : (t u : Table Request) → u ≡ t → AsksAs t u
asks-as-same t u same q r v was is = ap (λ (z : Request). z.channel) (one-value t q v r (subst (λ (w : Table Request). under w q ≡ Some v) same is) was)

pub subscribes-as-same : (t u : Table Subscription) → u ≡ t → SubscribesAs t u
subscribes-as-same t u same g d is = (d, subst (λ (w : Table Subscription). under w g ≡ Some d) same is, refl, λ s. s)

pub backs-same : (on : Handle) (x y : Client) → y.channels ≡ x.channels → y.requests ≡ x.requests → y.subscriptions ≡ x.subscriptions → Backs on x y
backs-same on x y channels requests subscriptions =
    record {
      channels = back-same on x.channels y.channels channels;
      requests = asks-as-same x.requests y.requests requests;
      subscriptions = subscribes-as-same x.subscriptions y.subscriptions subscriptions;
      cancelled = cancels-as-same x.subscriptions y.subscriptions subscriptions;
    }

pub back-then : (on : Handle) (t u w : Table Channel) → BacksOn on t u → BacksOn on u w → BacksOn on t w
back-then on t u w a b h ch p there stands = go p (b h ch p there stands)
  where
    doomed : (ch : Channel) (q : Phase) → under u h ≡ Some ch → ch.standing ≡ On on q → (q ≡ Doomed) ⊎ ((s : ℕ) × (q ≡ Creating s)) → Was on t h Doomed
    doomed ch q there stands which = elim which [
      | inl is ↦ a h ch Doomed there (stands ∙ ap (λ (k : Phase). On on k) is)
      | inr is ↦ (let v = a h ch (Creating is.0) there (stands ∙ ap (λ (k : Phase). On on k) is.1) in (v.0, Creating v.1, v.2, v.3, inr (v.1, refl)))
    ]

    go : (p : Phase) → Was on u h p → Was on t h p
    go (Live n rights) v = a h v.0 (Live n v.1) v.2 v.3
    go (Creating rights) v = a h v.0 (Creating v.1) v.2 v.3
    go Doomed v = doomed v.0 v.1 v.2 v.3 v.4
    go Connecting v = tt
    go Leaving v = over-back on t u a h v
    go Clearing v = over-back on t u a h v

pub subscribes-then : (t u w : Table Subscription) → SubscribesAs t u → SubscribesAs u w → SubscribesAs t w
subscribes-then t u w a b g d is = (let e = b g d is in let f = a g e.0 e.1 in (f.0, f.1, e.2 ∙ f.2, λ s. f.3 (e.3 s)))

-- each request of the other was there, on its channel
abbrev pub AsksBack : (t u : Table Request) → Type 0
AsksBack t u = (q : Handle) (v : Request) → under u q ≡ Some v → (r : Request) × (under t q ≡ Some r) × (v.channel ≡ r.channel)

pub asks-back : (t u : Table Request) → AsksBack t u → AsksAs t u
asks-back t u back q r v was is = (let b = back q v is in b.2 ∙ ap (λ (z : Request). z.channel) (one-value t q b.0 r b.1 was))

pub asks-back-then : (t u w : Table Request) → AsksBack t u → AsksBack u w → AsksBack t w
asks-back-then t u w a b q v is = (let e = b q v is in let f = a q e.0 e.1 in (f.0, f.1, e.2 ∙ f.2))

pub asks-back-same : (t u : Table Request) → u ≡ t → AsksBack t u
asks-back-same t u same q v is = (v, subst (λ (w : Table Request). under w q ≡ Some v) same is, refl)

pub asks-back-freed : (q : Handle) (t : Table Request) → AsksBack t (with_freed q t)
asks-back-freed q t k v is = (v, (freed-back t k q v is).1, refl)

-- ---- a channel stands otherwise, or is gone

pub back-stood : (on : Handle) (t : Table Channel) (s : Standing) (h : Handle) → ((p : Phase) → s ≡ On on p → Was on t h p)
    → BacksOn on t (with_changed (λ (c : Channel). record c { standing = s }) h t)
back-stood on t s h may g ch p there stands = elim (changed-back (λ (c : Channel). record c { standing = s }) t g h ch there) [
  | inr old ↦ was-same on t g ch p old.1 stands
  | inl own ↦ subst (λ (k : Handle). Was on t k p) (sym own.0) (may p (sym (ap (λ (z : Channel). z.standing) own.1.2) ∙ stands))
]

pub back-searched : (on : Handle) (t : Table Channel) (h : Handle) → BacksOn on t (with_changed (λ (c : Channel). record c { standing = Searching }) h t)
back-searched on t h = back-stood on t Searching h (λ p is. absurd (nowhere p is))
  where
    nowhere : (p : Phase) → Searching ≡ On on p → ⊥
    nowhere p is = cc

pub back-freed : (on : Handle) (t : Table Channel) (h : Handle) → BacksOn on t (with_freed h t)
back-freed on t h g ch p there stands = was-same on t g ch p (freed-back t g h ch there).1 stands

-- ---- an end has ended on another circuit

fold-same : {A : Type 0} (field : Client → A) (f : Client → Handle → Client) → ((y : Client) (h : Handle) → field (f y h) ≡ field y) → (hs : List Handle) (x : Client)
    → field (fold f x hs) ≡ field x
fold-same field f each [] x = refl
fold-same field f each (h ∷ hs) x = fold-same field f each hs (f x h) ∙ each x h

fold-back : (on : Handle) (f : Client → Handle → Client) → ((y : Client) (h : Handle) → BacksOn on y.channels (f y h).channels) → (hs : List Handle) (x : Client)
    → BacksOn on x.channels (fold f x hs).channels
fold-back on f each [] x = back-same on x.channels x.channels refl
fold-back on f each (h ∷ hs) x = back-then on x.channels (f x h).channels (fold f (f x h) hs).channels (each x h) (fold-back on f each hs (f x h))

let-go-same : (c : Handle) (d : ClientCircuit) (x : Client)
    → ((let_go c d x).channels ≡ x.channels) × ((let_go c d x).requests ≡ x.requests) × ((let_go c d x).subscriptions ≡ x.subscriptions)
let-go-same c d x = go d.is_name
  where
    go : (b : Bool)
        → ((cond b (disconnected c x) (without_circuit c x)).channels ≡ x.channels) × ((cond b (disconnected c x) (without_circuit c x)).requests ≡ x.requests)
        × ((cond b (disconnected c x) (without_circuit c x)).subscriptions ≡ x.subscriptions)
    go true = (refl, refl, refl)
    go false = (refl, refl, refl)

-- a circuit that nothing wants is let go
pub unwanted-same : (c : Handle) (x : Client)
    → ((unwanted c x).channels ≡ x.channels) × ((unwanted c x).requests ≡ x.requests) × ((unwanted c x).subscriptions ≡ x.subscriptions)
unwanted-same c x = go (length (channels_on (λ (p : Phase). true) c x) == 0) (under x.circuits c)
  where
    go : (b : Bool) (o : Option ClientCircuit) → (let v : Client = cond b (unwrap_or (option_map (λ (d : ClientCircuit). let_go c d x) o) x) x in
        (v.channels ≡ x.channels) × (v.requests ≡ x.requests) × (v.subscriptions ≡ x.subscriptions))
    go true (Some d) = let-go-same c d x
    go true None = (refl, refl, refl)
    go false o = (refl, refl, refl)

pub backs-ended : (on c : Handle) (x : Client) → Backs on x (ended c x)
backs-ended on c x = go (under x.circuits c)
  where
    y : Client
    y = without_ids c x

    z : Client
    z = channels_ended c y

    channels-same : BacksOn on x.channels z.channels
    channels-same =
        let mid : Client = fold without_channel y (channels_on is_cleared c y) in
        back-then on y.channels mid.channels z.channels
        (fold-back on without_channel (λ v h. back-freed on v.channels h) (channels_on is_cleared c y) y)
        (fold-back on searched_again (λ v h. back-searched on v.channels h) (channels_on (λ (p : Phase). not (is_cleared p)) c y) mid)

    subs-same : z.subscriptions ≡ y.subscriptions
    subs-same =
        let mid : Client = fold without_channel y (channels_on is_cleared c y) in
        fold-same (λ (v : Client). v.subscriptions) searched_again (λ v h. refl) (channels_on (λ (p : Phase). not (is_cleared p)) c y) mid
        ∙ fold-same (λ (v : Client). v.subscriptions) without_channel (λ v h. refl) (channels_on is_cleared c y) y

    go : (o : Option ClientCircuit) → Backs on x (unwrap_or (option_map (λ (d : ClientCircuit). let_go c d (channels_ended c (without_ids c x))) o) x)
    go None = backs-same on x x refl refl refl
    go (Some d) =
        let s = let-go-same c d z in
        record {
          channels = back-then on x.channels z.channels (let_go c d z).channels channels-same (back-same on z.channels (let_go c d z).channels s.0);
          requests =
              asks-back x.requests (let_go c d z).requests
              (λ q v is. (v, (all-freed-back (was_sent_on c) x.requests q v (subst (λ (t : Table Request). under t q ≡ Some v) (requests-ended c d y) is)).0, refl));
          subscriptions = λ g v is. (v, was s.2 g v is, refl, λ k. k);
          cancelled = cancels-there x.subscriptions (let_go c d z).subscriptions (was s.2);
        }
      where
        was : (let_go c d z).subscriptions ≡ z.subscriptions → (g : Handle) (v : Subscription) → under (let_go c d z).subscriptions g ≡ Some v → under x.subscriptions g ≡ Some v
        was same g v is = (all-freed-back (λ (s : Subscription). drains_in c s.stage) x.subscriptions g v (subst (λ (t : Table Subscription). under t g ≡ Some v) (same ∙ subs-same) is)).0

-- the end that has ended is not connected
pub ended-off : (c : Handle) (x : Client) → is_none (connection_at (ended c x) c) ≡ true
ended-off c x = go (under x.circuits c) refl
  where
    connection-of : Option ClientCircuit → Bool
    connection-of o = is_none (option_and_then (λ (d : ClientCircuit). d.connection) o)

    dropped : (t : Table ClientCircuit) → connection-of (under (with_freed c t) c) ≡ true
    dropped t = by (under (with_freed c t) c) refl
      where
        by : (o : Option ClientCircuit) → under (with_freed c t) c ≡ o → connection-of o ≡ true
        by None is = refl
        by (Some v) is = absurd ((freed-back t c c v is).0 refl)

    shut : ClientCircuit → ClientCircuit
    shut d = record d { connection = None }

    closed : (t : Table ClientCircuit) → connection-of (under (with_changed shut c t) c) ≡ true
    closed t = by (under (with_changed shut c t) c) refl
      where
        by : (o : Option ClientCircuit) → under (with_changed shut c t) c ≡ o → connection-of o ≡ true
        by None is = refl
        by (Some v) is = elim (changed-back shut t c c v is) [
          | inl own ↦ ap (λ (d : ClientCircuit). is_none d.connection) own.1.2
          | inr old ↦ absurd (old.0 refl)
        ]

    gone : (b : Bool) (z : Client) → is_none (connection_at (cond b (disconnected c z) (without_circuit c z)) c) ≡ true
    gone true z = closed z.circuits
    gone false z = dropped z.circuits

    go : (o : Option ClientCircuit) → under x.circuits c ≡ o
        → is_none (connection_at (unwrap_or (option_map (λ (d : ClientCircuit). let_go c d (channels_ended c (without_ids c x))) o) x) c) ≡ true
    go None there = ap connection-of there
    go (Some d) there = gone d.is_name (channels_ended c (without_ids c x))

-- ---- messages wait on their circuits

pub sent-tables : (sent : List Sending) (z : Client)
    → ((sending sent z).channels ≡ z.channels) × ((sending sent z).requests ≡ z.requests) × ((sending sent z).subscriptions ≡ z.subscriptions)
sent-tables [] z = (refl, refl, refl)
sent-tables (s ∷ sent) z = sent-tables sent (with_one_sent z s)
