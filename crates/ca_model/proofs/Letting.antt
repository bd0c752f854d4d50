-- Ends of circuits: a circuit that is let go, one that ended, and one that was connected.
use Rattle.std.proofs.Common.{◌≡◌, ℕ, zero, suc, inl, inr, ◌⊎◌, Bool, true, false, cond, List, [], ◌∷◌, Option, Some, None, refl, sym, ap, ◌∙◌, subst}
use Rattle.std.specs.Prelude.{◌==◌, filter_map, fold, is_none, length, not, option_and_then, option_map, unwrap_or}
use Rattle.std.specs.List.{cons_option}
use Rattle.std.proofs.lemmas.Bool.{both_ways, cases_Bool}
use Rattle.ca_text.specs.Place.{At}
use Rattle.ca_text.proofs.Places.{some_is}
use Rattle.ca_arena.specs.declared.handle.Handle.{Handle}
use Rattle.ca_ids.specs.Table.{Table, held, same_handle, under, with_freed}
use Rattle.ca_monitor.specs.Subscriptions.{Subscription, drains_in}
use Rattle.ca_requests.specs.Requests.{Request, was_sent_on}
use Rattle.ca_model.specs.Client.{Channel, Client, ClientCircuit, Connection, On, Phase, Searching, channels_ended, channels_on, connection_at, disconnected, ended, is_cleared, is_on_in, let_go, searched_again, without_channel, without_circuit, without_ids}
use Rattle.ca_model.specs.ClientCalls.{unwanted}
use Rattle.ca_model.specs.Placed.{Attached, WasLive, was_live}
use Rattle.ca_model.proofs.Standings.{is-on}
use Rattle.ca_model.proofs.Standings.{on-circuit, on-one}
use Rattle.ca_model.proofs.Handles.{handle-or, same-itself}
use Rattle.ca_model.proofs.Tables.{all-freed-back, changed-back, changed-other, changed-own, freed-back, freed-other, one-value, under-held}
use Rattle.ca_model.specs.Placed.{AreWaiting, IsPlaced}
use Rattle.ca_model.proofs.Thinner.{Thins, thins-itself, thins-then}
use Rattle.ca_model.proofs.Placed.{Keeps, Links, keeps-itself, options-agree, placed-linked, under-other}
use Rattle.ca_model.proofs.Thinner.{IsThinner, thin-all-freed, thin-changed, thin-freed, thin-itself}

abbrev connection-of : Option ClientCircuit → Option Connection
connection-of o = option_and_then (λ (d : ClientCircuit). d.connection) o

-- all but this circuit are connected as they were
abbrev pub LinksBut : Handle → Client → Client → Type 0
LinksBut c x y = (d : Handle) → (d ≡ c → ⊥) → is_none (connection_at y d) ≡ is_none (connection_at x d)

-- ---- a circuit is let go

freed-elsewhere : {T : Type 0} (t : Table T) (h g : Handle) → (g ≡ h → ⊥) → under (with_freed h t) g ≡ under t g
freed-elsewhere t h g other = options-agree (under t g) (under (with_freed h t) g) (λ v is. freed-other t g h v is other) (λ v is. (freed-back t g h v is).1)

freed-none : {T : Type 0} (t : Table T) (h : Handle) → under (with_freed h t) h ≡ None
freed-none {T} t h = go (under (with_freed h t) h) refl
  where
    go : (o : Option T) → under (with_freed h t) h ≡ o → o ≡ None
    go None is = refl
    go (Some v) is = absurd ((freed-back t h h v is).0 refl)

let-go-elsewhere : (c : Handle) (d : ClientCircuit) (x : Client) → LinksBut c x (let_go c d x)
let-go-elsewhere c d x e other = go d.is_name
  where
    go : (b : Bool) → is_none (connection_at (cond b (disconnected c x) (without_circuit c x)) e) ≡ is_none (connection_at x e)
    go true = ap (λ (o : Option ClientCircuit). is_none (connection-of o)) (under-other (λ (d : ClientCircuit). record d { connection = None }) x.circuits c e other)
    go false = ap (λ (o : Option ClientCircuit). is_none (connection-of o)) (freed-elsewhere x.circuits c e other)

let-go-here : (c : Handle) (d : ClientCircuit) (x : Client) → under x.circuits c ≡ Some d → is_none (connection_at (let_go c d x) c) ≡ true
let-go-here c d x there = go d.is_name
  where
    go : (b : Bool) → is_none (connection_at (cond b (disconnected c x) (without_circuit c x)) c) ≡ true
    go true = ap (λ (o : Option ClientCircuit). is_none (connection-of o)) (changed-own (λ (d : ClientCircuit). record d { connection = None }) x.circuits c d there)
    go false = ap (λ (o : Option ClientCircuit). is_none (connection-of o)) (freed-none x.circuits c)

-- its tables stay
abbrev pub SameTables : Client → Client → Type 0
SameTables x y = (y.channels ≡ x.channels) × (y.requests ≡ x.requests) × (y.subscriptions ≡ x.subscriptions)

let-go-tables : (c : Handle) (d : ClientCircuit) (x : Client) → SameTables x (let_go c d x)
let-go-tables c d x = go d.is_name
  where
    go : (b : Bool) → SameTables x (cond b (disconnected c x) (without_circuit c x))
    go true = (refl, refl, refl)
    go false = (refl, refl, refl)

thins-same : (x y : Client) → SameTables x y → Thins x y
thins-same x y same = record {
  channels = subst (λ (t : Table Channel). IsThinner x.channels t) (sym same.0) (thin-itself x.channels);
  requests = subst (λ (t : Table Request). IsThinner x.requests t) (sym same.1) (thin-itself x.requests);
  subscriptions = subst (λ (t : Table Subscription). IsThinner x.subscriptions t) (sym same.2) (thin-itself x.subscriptions);
}

-- a circuit that is not connected is let go once no channel is on it
keeps-let-go : (c : Handle) (d : ClientCircuit) (x : Client) → under x.circuits c ≡ Some d → is_none (connection_at x c) ≡ true → Keeps x (let_go c d x)
keeps-let-go c d x there none = record {
  thins = thins-same x (let_go c d x) (let-go-tables c d x);
  placed = placed-linked x (let_go c d x) (let-go-tables c d x).0 (let-go-tables c d x).1 (let-go-tables c d x).2 links;
  links = links;
}
  where
    links : Links x (let_go c d x)
    links e = elim (handle-or e c) [
      | inr other ↦ let-go-elsewhere c d x e other
      | inl same ↦ subst (λ (k : Handle). is_none (connection_at (let_go c d x) k) ≡ is_none (connection_at x k)) (sym same) (let-go-here c d x there ∙ sym none)
    ]

pub keeps-unwanted : (c : Handle) (x : Client) → is_none (connection_at x c) ≡ true → Keeps x (unwanted c x)
keeps-unwanted c x none = go (length (channels_on (λ (p : Phase). true) c x) == 0)
  where
    at : (o : Option ClientCircuit) → under x.circuits c ≡ o → Keeps x (unwrap_or (option_map (λ (d : ClientCircuit). let_go c d x) o) x)
    at (Some d) there = keeps-let-go c d x there none
    at None there = keeps-itself x

    go : (b : Bool) → Keeps x (cond b (unwrap_or (option_map (λ (d : ClientCircuit). let_go c d x) (under x.circuits c)) x) x)
    go true = at (under x.circuits c) refl
    go false = keeps-itself x

-- ---- the channels of a circuit that has ended

filter-map-at : {A B : Type 0} (f : A → Option B) (xs : List A) (j : ℕ) (x : A) (y : B) → At xs j x → f x ≡ Some y → (i : ℕ) × At (filter_map f xs) i y
filter-map-at f [] j x y at is = absurd cc
filter-map-at {A} {B} f (z ∷ xs) zero x y at is = (0, subst (λ (o : Option B). At (cons_option o (filter_map f xs)) 0 y) (sym (ap f (some_is z x at) ∙ is)) refl)
filter-map-at {A} {B} f (z ∷ xs) (suc j) x y at is = (let r = filter-map-at f xs j x y at is in go (f z) r.0 r.1)
  where
    go : (o : Option B) (i : ℕ) → At (filter_map f xs) i y → (k : ℕ) × At (cons_option o (filter_map f xs)) k y
    go (Some w) i h = (suc i, h)
    go None i h = (i, h)

-- a channel that the test names there is listed
pub listed-there : (test : Phase → Bool) (c : Handle) (x : Client) (h : Handle) (ch : Channel) → under x.channels h ≡ Some ch → is_on_in test c ch ≡ true → (i : ℕ) × At (channels_on test c x) i h
listed-there test c x h ch is on =
    let f : Handle × Channel → Option Handle = λ (e : Handle × Channel). cond (is_on_in test c e.1) (Some e.0) None in
    let r = under-held x.channels h ch is in
    filter-map-at f (held x.channels) r.0 (h, ch) h r.1 (ap (λ (b : Bool). cond b (Some h) None) on)

abbrev Avoids : List Handle → Handle → Type 0
Avoids hs k = (i : ℕ) → At hs i k → ⊥

gone-back : (hs : List Handle) (y : Client) (k : Handle) (w : Channel) → under (fold without_channel y hs).channels k ≡ Some w → (under y.channels k ≡ Some w) × Avoids hs k
gone-back [] y k w is = (is, λ i at. absurd cc)
gone-back (h ∷ hs) y k w is =
    let rest = gone-back hs (without_channel y h) k w is in
    let one = freed-back y.channels k h w rest.0 in
    (one.1, avoids rest.1 one.0)
  where
    avoids : Avoids hs k → (k ≡ h → ⊥) → Avoids (h ∷ hs) k
    avoids rest other zero at = other (sym (some_is h k at))
    avoids rest other (suc i) at = rest i at

gone-there : (hs : List Handle) (y : Client) (k : Handle) (w : Channel) → under y.channels k ≡ Some w → Avoids hs k → under (fold without_channel y hs).channels k ≡ Some w
gone-there [] y k w is avoids = is
gone-there (h ∷ hs) y k w is avoids = gone-there hs (without_channel y h) k w (freed-other y.channels k h w is (λ e. avoids 0 (ap (λ (z : Handle). Some z) (sym e)))) (λ i at. avoids (suc i) at)

abbrev away : Channel → Channel
away ch = record ch { standing = Searching }

again-back : (hs : List Handle) (y : Client) (k : Handle) (w : Channel) → under (fold searched_again y hs).channels k ≡ Some w → (w.standing ≡ Searching) ⊎ ((under y.channels k ≡ Some w) × Avoids hs k)
again-back [] y k w is = inr (is, λ i at. absurd cc)
again-back (h ∷ hs) y k w is = elim (again-back hs (searched_again y h) k w is) [
  | inl searched ↦ inl searched
  | inr rest ↦ elim (changed-back away y.channels k h w rest.0) [
    | inl own ↦ inl (ap (λ (z : Channel). z.standing) own.1.2)
    | inr old ↦ inr (old.1, avoids rest.1 old.0)
  ]
]
  where
    avoids : Avoids hs k → (k ≡ h → ⊥) → Avoids (h ∷ hs) k
    avoids rest other zero at = other (sym (some_is h k at))
    avoids rest other (suc i) at = rest i at

again-there : (hs : List Handle) (y : Client) (k : Handle) (w : Channel) → under y.channels k ≡ Some w → Avoids hs k → under (fold searched_again y hs).channels k ≡ Some w
again-there [] y k w is avoids = is
again-there (h ∷ hs) y k w is avoids = again-there hs (searched_again y h) k w (changed-other away y.channels k h w is (λ e. avoids 0 (ap (λ (z : Handle). Some z) (sym e)))) (λ i at. avoids (suc i) at)

-- neither touches requests, subscriptions or circuits
abbrev SameRest : Client → Client → Type 0
SameRest x y = (y.requests ≡ x.requests) × (y.subscriptions ≡ x.subscriptions) × (y.circuits ≡ x.circuits)

rest-fold : (f : Client → Handle → Client) → ((y : Client) (h : Handle) → SameRest y (f y h)) → (hs : List Handle) (y : Client) → SameRest y (fold f y hs)
rest-fold f one [] y = (refl, refl, refl)
rest-fold f one (h ∷ hs) y = (let r = rest-fold f one hs (f y h) in let o = one y h in (r.0 ∙ o.0, r.1 ∙ o.1, r.2 ∙ o.2))

thins-fold : (f : Client → Handle → Client) → ((y : Client) (h : Handle) → Thins y (f y h)) → (hs : List Handle) (y : Client) → Thins y (fold f y hs)
thins-fold f one [] y = thins-itself y
thins-fold f one (h ∷ hs) y = thins-then y (f y h) (fold f y (h ∷ hs)) (one y h) (thins-fold f one hs (f y h))

module _ (c : Handle) (x : Client) where
  abbrev mid : Client
  mid = fold without_channel x (channels_on is_cleared c x)

  ended-rest : SameRest x (channels_ended c x)
  ended-rest =
      let a = rest-fold without_channel (λ y h. (refl, refl, refl)) (channels_on is_cleared c x) x in
      let b = rest-fold searched_again (λ y h. (refl, refl, refl)) (channels_on (λ (p : Phase). not (is_cleared p)) c x) (fold without_channel x (channels_on is_cleared c x)) in
      (b.0 ∙ a.0, b.1 ∙ a.1, b.2 ∙ a.2)

  ended-thins : Thins x (channels_ended c x)
  ended-thins =
      thins-then x mid (channels_ended c x)
      (thins-fold without_channel (λ y h. record { channels = thin-freed h y.channels; requests = thin-itself y.requests; subscriptions = thin-itself y.subscriptions }) (channels_on is_cleared c x) x)
      (thins-fold searched_again (λ y h. record { channels = thin-changed away h y.channels; requests = thin-itself y.requests; subscriptions = thin-itself y.subscriptions }) (channels_on (λ (p : Phase). not (is_cleared p)) c x) mid)

  -- a channel on another circuit is on no list
  elsewhere : (test also : Phase → Bool) (k on : Handle) (w : Channel) → under x.channels k ≡ Some w → is_on_in also on w ≡ true → (c ≡ on → ⊥) → Avoids (channels_on test c x) k
  elsewhere test also k on w is pass other i at =
      let r = on-circuit test c x i k at in
      let same : r.0 ≡ w = one-value x.channels k r.0 w r.1 is in
      other (on-one test also c on w (subst (λ (z : Channel). is_on_in test c z ≡ true) same r.2) pass)

  -- what was live on another circuit still is
  ended-live : (k on : Handle) → (c ≡ on → ⊥) → WasLive x k on → WasLive (channels_ended c x) k on
  ended-live k on other was = (
    was.0,
    again-there (channels_on (λ (p : Phase). not (is_cleared p)) c x) mid k was.0
        (gone-there (channels_on is_cleared c x) x k was.0 was.1 (elsewhere is_cleared was_live k on was.0 was.1 was.2 other))
        (elsewhere (λ (p : Phase). not (is_cleared p)) was_live k on was.0 was.1 was.2 other),
    was.2,
  )

  -- a channel that is on a circuit now was on it, and that is another
  pub ended-back : (k : Handle) (w : Channel) (on : Handle) (p : Phase) → under (channels_ended c x).channels k ≡ Some w → w.standing ≡ On on p → (under x.channels k ≡ Some w) × (on ≡ c → ⊥)
  ended-back k w on p is stands = elim (again-back (channels_on (λ (p : Phase). not (is_cleared p)) c x) mid k w is) [
    | inl searched ↦ absurd (nowhere (sym searched ∙ stands))
    | inr again ↦
        let gone = gone-back (channels_on is_cleared c x) x k w again.0 in
        (gone.0, λ same. here gone.0 gone.1 again.1 (stands ∙ ap (λ (z : Handle). On z p) same))
  ]
    where
      nowhere : Searching ≡ On on p → ⊥
      nowhere e = cc

      here : under x.channels k ≡ Some w → Avoids (channels_on is_cleared c x) k → Avoids (channels_on (λ (p : Phase). not (is_cleared p)) c x) k → w.standing ≡ On c p → ⊥
      here there cleared others on_c = elim (cases_Bool (is_cleared p)) [
        | inl is_it ↦ (let r = listed-there is_cleared c x k w there (is-on is_cleared c w p on_c ∙ is_it) in cleared r.0 r.1)
        | inr not_it ↦
            let r = listed-there (λ (p : Phase). not (is_cleared p)) c x k w there (is-on (λ (p : Phase). not (is_cleared p)) c w p on_c ∙ ap not not_it) in
            others r.0 r.1
      ]

-- The end of a circuit ended.
pub record KeepsBut (c : Handle) (x y : Client) : Type 0 where
  pub thins : Thins x y
  pub placed : IsPlaced x → IsPlaced y
  pub links : LinksBut c x y

pub ends-ended : (c : Handle) (x : Client) → KeepsBut c x (ended c x)
ends-ended c x = go (under x.circuits c) refl
  where
    y : Client
    y = without_ids c x

    z : Client
    z = channels_ended c (without_ids c x)

    go : (o : Option ClientCircuit) → under x.circuits c ≡ o → KeepsBut c x (unwrap_or (option_map (λ (d : ClientCircuit). let_go c d (channels_ended c (without_ids c x))) o) x)
    go None there = record { thins = thins-itself x; placed = λ p. p; links = λ d other. refl }
    go (Some d) there =
        let rest = ended-rest c y in
        let tables = let-go-tables c d z in
        let first : Thins x y = record {
          channels = thin-itself x.channels;
          requests = thin-all-freed (was_sent_on c) x.requests;
          subscriptions = thin-all-freed (λ (s : Subscription). drains_in c s.stage) x.subscriptions;
        } in
        record {
          thins = thins-then x y (let_go c d z) first (thins-then y z (let_go c d z) (ended-thins c y) (thins-same z (let_go c d z) tables));
          placed = λ p. record { attached = attached d p; waiting = waiting d there p };
          links = λ e other. let-go-elsewhere c d z e other ∙ ap (λ (t : Table ClientCircuit). is_none (connection-of (under t e))) rest.2;
        }
      where
        still : (d : ClientCircuit) (k on : Handle) → WasLive z k on → WasLive (let_go c d z) k on
        still d k on was = (was.0, subst (λ (t : Table Channel). under t k ≡ Some was.0) (sym (let-go-tables c d z).0) was.1, was.2)

        attached : (d : ClientCircuit) → IsPlaced x → Attached (let_go c d z)
        attached d p = record {
          requests = λ q r is.
              let there : under y.requests q ≡ Some r = subst (λ (t : Table Request). under t q ≡ Some r) ((let-go-tables c d z).1 ∙ (ended-rest c y).0) is in
              let was = all-freed-back (was_sent_on c) x.requests q r there in
              still d r.channel r.circuit (ended-live c y r.channel r.circuit (λ e. both_ways (was_sent_on c r) was.1 (subst (λ (k : Handle). same_handle k c ≡ true) e (same-itself c))) (p.attached.requests q r was.0));
          subscriptions = λ g v on is drains.
              let there : under y.subscriptions g ≡ Some v = subst (λ (t : Table Subscription). under t g ≡ Some v) ((let-go-tables c d z).2 ∙ (ended-rest c y).1) is in
              let was = all-freed-back (λ (s : Subscription). drains_in c s.stage) x.subscriptions g v there in
              still d v.channel on (ended-live c y v.channel on (λ e. both_ways (drains_in c v.stage) was.1 (subst (λ (k : Handle). drains_in k v.stage ≡ true) (sym e) drains)) (p.attached.subscriptions g v on was.0 drains));
        }

        waiting : (d : ClientCircuit) → under x.circuits c ≡ Some d → IsPlaced x → AreWaiting (let_go c d z)
        waiting d there p h ch e q is stands =
            let now : under z.channels h ≡ Some ch = subst (λ (t : Table Channel). under t h ≡ Some ch) (let-go-tables c d z).0 is in
            let was = ended-back c y h ch e q now stands in
            p.waiting h ch e q was.0 stands
            ∙ sym (let-go-elsewhere c d z e was.1 ∙ ap (λ (t : Table ClientCircuit). is_none (connection-of (under t e))) (ended-rest c y).2)
