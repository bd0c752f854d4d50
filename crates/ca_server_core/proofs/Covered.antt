-- The lists of those that watch records stay complete, as circuits and lists change.
use Rattle.std.proofs.Common.{◌≡◌, ℕ, zero, suc, inl, inr, Bool, true, false, ◌||◌, nat_eq, List, [], ◌∷◌, Option, Some, None, refl, sym, ap, ◌∙◌, slice_get, subst}
use Rattle.std.specs.List.{list_any}
use Rattle.std.specs.Prelude.{unwrap_or}
use Rattle.std.specs.Str.{bytes_eq}
use Rattle.std.proofs.lemmas.Bool.{eq-eqb, eqb-true}
use Rattle.std.proofs.lemmas.Slice.Eq.{bytes_eq-Decides}
use Rattle.ca_arena.specs.declared.handle.Handle.{Handle}
use Rattle.ca_records.specs.Store.{Store}
use Rattle.ca_ids.specs.Table.{MayGive, Table, under, with_changed, with_freed, with_held}
use Rattle.ca_text.specs.Place.{At}
use Rattle.ca_text.proofs.Places.{some_is}
use Rattle.ca_server_subscriptions.specs.Subscribed.{is_on}
use Rattle.ca_server_watchers.specs.Watching.{IsAmong, LeavesAt, Watched, Watches, line_of, watching}
use Rattle.ca_model.specs.Ends.{Why}
use Rattle.ca_model.specs.Server.{Ended, Open, OpenChannel, ServerCircuit, ServerEnd, Subscription, new_end}
use Rattle.ca_model.specs.Speech.{In}
use Rattle.ca_server_core.specs.Covering.{Covers, HasTo, watches_under}
use Rattle.ca_server_circuit.specs.Ending.{EndsAt}
use Rattle.ca_server_core.specs.Ending.{EndsIn}
use Rattle.ca_server_core.specs.Following.{CoversBut}
use Rattle.ca_server_core.proofs.Closing.{not-ended}
use Rattle.ca_server_core.proofs.Servers.{became, stayed}
use Rattle.ca_server_circuit.proofs.Tables.{changed-back, freed-back, held-back, one-at-index, place, under-at}

abbrev Circuits : Type 0
Circuits = Table ServerCircuit

open-is : (a b : ServerEnd) → Open a ≡ Open b → a ≡ b
open-is a b e = cc

both : {A : Type 0} (b : Bool) → b ≡ true → b ≡ false → A
both true p q = absurd cc
both false p q = absurd cc

-- the channels are the same
pub to-same : (e x : ServerEnd) (n : List ℕ) → e.channels ≡ x.channels → HasTo e n → HasTo x n
to-same e x n same to = (to.0, to.1, subst (λ (t : Table OpenChannel). under t to.0 ≡ Some to.1) same to.2, to.3, to.4)

-- ---- circuits change

-- each end that is open was open, and had these subscriptions, and channels to these records
abbrev pub Thins : Circuits → Circuits → Type 0
Thins t u = (h : Handle) (e : ServerEnd) → under u h ≡ Some (Open e) → (x : ServerEnd) × (under t h ≡ Some (Open x)) × ((s : Subscription) → In e.subscriptions s → In x.subscriptions s) × ((n : List ℕ) → HasTo e n → HasTo x n)

pub thins-same : (t : Circuits) → Thins t t
thins-same t h e at = (e, at, (λ s i. i), (λ n c. c))

pub thins-both : (t u v : Circuits) → Thins t u → Thins u v → Thins t v
thins-both t u v a b h e at =
    let y = b h e at in
    let x = a h y.0 y.1 in
    (x.0, x.1, (λ s i. x.2 s (y.2 s i)), (λ n c. x.3 n (y.3 n c)))

pub covers-thinned : (w : Watched) (t u : Circuits) → Thins t u → Covers w t → Covers w u
covers-thinned w t u thin c h e s at i = (let x = thin h e at in c h x.0 s x.1 (x.2 s i))

-- an open end became another with no more subscriptions, and channels to no more records
pub thins-changed : (t : Circuits) (h : Handle) (e new : ServerEnd) → under t h ≡ Some (Open e) → ((s : Subscription) → In new.subscriptions s → In e.subscriptions s) → ((n : List ℕ) → HasTo new n → HasTo e n) → Thins t (with_changed (λ (c : ServerCircuit). Open new) h t)
thins-changed t h e new there fewer less g x at = elim (changed-back (λ (c : ServerCircuit). Open new) t g h (Open x) at) [
  | inl own ↦
      let same : new ≡ x = sym (open-is x new own.1.2) in (
        e,
        subst (λ (k : Handle). under t k ≡ Some (Open e)) (sym own.0) there,
        subst (λ (y : ServerEnd). (s : Subscription) → In y.subscriptions s → In e.subscriptions s) same fewer,
        subst (λ (y : ServerEnd). (n : List ℕ) → HasTo y n → HasTo e n) same less,
      )
  | inr old ↦ (x, old.1, (λ s i. i), (λ n c. c))
]

-- the same, whatever its channels are
pub covers-changed : (w : Watched) (t : Circuits) (h : Handle) (e new : ServerEnd) → under t h ≡ Some (Open e) → ((s : Subscription) → In new.subscriptions s → In e.subscriptions s) → Covers w t → Covers w (with_changed (λ (c : ServerCircuit). Open new) h t)
covers-changed w t h e new there fewer c g x s at i = elim (changed-back (λ (c : ServerCircuit). Open new) t g h (Open x) at) [
  | inl own ↦
      let j = fewer s (subst (λ (y : ServerEnd). In y.subscriptions s) (open-is x new own.1.2) i) in
      subst (λ (k : Handle). IsAmong (watching w s.name) k) (sym own.0) (c h e s there j)
  | inr old ↦ c g x s old.1 i
]

-- it ended
pub thins-ended : (t : Circuits) (h : Handle) (w : Why) (left : List ℕ) → Thins t (with_changed (λ (c : ServerCircuit). Ended w left) h t)
thins-ended t h w left g x at = elim (changed-back (λ (c : ServerCircuit). Ended w left) t g h (Open x) at) [
  | inl own ↦ absurd (not-ended x w left own.1.2)
  | inr old ↦ (x, old.1, (λ s i. i), (λ n c. c))
]

pub thins-freed : (t : Circuits) (h : Handle) → Thins t (with_freed h t)
thins-freed t h g x at = (let b = freed-back t g h (Open x) at in (x, b.1, (λ s i. i), (λ n c. c)))

-- a circuit was accepted
pub covers-accepted : (w : Watched) (t : Circuits) (h : Handle) (now : ℕ) → MayGive t h → Covers w t → Covers w (with_held h (Open (new_end now)) t)
covers-accepted w t h now may c g e s at i = elim (held-back t g h (Open (new_end now)) (Open e) at) [
  | inl own ↦ absurd (none-in s (subst (λ (x : ServerEnd). In x.subscriptions s) (open-is e (new_end now) own.1) i))
  | inr old ↦ c g e s old i
]
  where
    none-in : (s : Subscription) → (let none : List Subscription = [] in In none s) → ⊥
    none-in s i = by i.0 i.1
      where
        by : (k : ℕ) → (let none : List Subscription = [] in At none k s) → ⊥
        by k at = cc

-- none yet
pub covers-none : (w : Watched) → Covers w []
covers-none w h e s at i = no-circuit h (Open e) at
  where
    no-circuit : {A : Type 0} (h : Handle) (c : ServerCircuit) → (let none : Circuits = [] in under none h ≡ Some c) → A
    no-circuit h c is =
        let none : Circuits = [] in
        by (under-at none h c is)
      where
        by : {A : Type 0} → (let none : Circuits = [] in At none h.index (place h c)) → A
        by at = absurd cc

-- ---- lists change

-- who watches a record is in its line
pub same-watch : (w v : Watched) (name : List ℕ) → line_of v name ≡ line_of w name → watching v name ≡ watching w name
same-watch w v name same = ap (λ (o : Option (List Handle)). unwrap_or o []) same

-- one that has no subscription on the record is taken out of its list
pub covers-left : (w v : Watched) (t : Circuits) (name : List ℕ) (k : ℕ) (h : Handle) → LeavesAt name k w v → At (watching w name) k h → watches_under name (under t h) ≡ false → Covers w t → Covers v t
covers-left w v t name k h l at none c g e s there i = by (bytes_eq s.name name) refl
  where
    -- a subscription on the record is seen
    seen : (ss : List Subscription) (j : ℕ) → At ss j s → bytes_eq s.name name ≡ true → list_any (is_on name) ss ≡ true
    seen [] j a hit = absurd cc
    seen (x ∷ ss) zero a hit = ap (λ (b : Bool). b || list_any (is_on name) ss) (ap (λ (y : Subscription). bytes_eq y.name name) (some_is x s a) ∙ hit)
    seen (x ∷ ss) (suc j) a hit = or-true (bytes_eq x.name name) (list_any (is_on name) ss) (seen ss j a hit)
      where
        or-true : (a b : Bool) → b ≡ true → (a || b) ≡ true
        or-true true b is = refl
        or-true false b is = is

    it : bytes_eq s.name name ≡ true → g ≡ h → ⊥
    it hit same = both (list_any (is_on name) e.subscriptions) (seen e.subscriptions i.0 i.1 hit) (ap (λ (o : Option ServerCircuit). watches_under name o) (sym there ∙ ap (λ (x : Handle). under t x) same) ∙ none)

    by : (b : Bool) → bytes_eq s.name name ≡ b → IsAmong (watching v s.name) g
    by false miss = subst (λ (hs : List Handle). IsAmong hs g) (sym (same-watch w v s.name (l.stay s.name miss))) (c g e s there i)
    by true hit =
        let same : s.name ≡ name = (bytes_eq-Decides s.name name).0 hit in
        let a = subst (λ (n : List ℕ). IsAmong (watching w n) g) same (c g e s there i) in
        subst (λ (n : List ℕ). IsAmong (watching v n) g) (sym same)
        (l.leaves.others a.0 g a.1 (λ e. it hit (some_is g h (sym a.1 ∙ ap (λ (n : ℕ). slice_get (watching w name) n) e ∙ at))))

-- it watches the record too
pub covers-watched : (w v : Watched) (t : Circuits) (name : List ℕ) (h : Handle) (c : ServerCircuit) → Watches name h w v → under t h ≡ Some c → CoversBut h name w t → Covers v t
covers-watched w v t name h c l here but g e s there i = elim (but g e s there i) [
  | inl old ↦ by (bytes_eq s.name name) refl old
  | inr own ↦ subst (λ (n : List ℕ). IsAmong (watching v n) g) (sym own.1) (subst (λ (x : Handle). IsAmong (watching v name) x) (sym own.0) l.joins.own)
]
  where
    by : (b : Bool) → bytes_eq s.name name ≡ b → IsAmong (watching w s.name) g → IsAmong (watching v s.name) g
    by false miss old = subst (λ (hs : List Handle). IsAmong hs g) (sym (same-watch w v s.name (l.stay s.name miss))) old
    by true hit old =
        let same : s.name ≡ name = (bytes_eq-Decides s.name name).0 hit in
        subst (λ (n : List ℕ). IsAmong (watching v n) g) (sym same) (index (nat_eq g.index h.index) refl (subst (λ (n : List ℕ). IsAmong (watching w n) g) same old))
      where
        index : (b : Bool) → nat_eq g.index h.index ≡ b → IsAmong (watching w name) g → IsAmong (watching v name) g
        index true is old = subst (λ (x : Handle). IsAmong (watching v name) x) (sym (one-at-index t g h (Open e) c there here (eqb-true g.index h.index is))) l.joins.own
        index false is old = l.joins.others g old (λ e. both (nat_eq g.index h.index) (eq-eqb g.index h.index e) is)

-- ---- a circuit ends

-- no other is open then
pub ended-others : (t after : Circuits) (h : Handle) (s u : Store) (w : Why) → EndsIn t h s w after u → (g : Handle) (x : ServerEnd) → under after g ≡ Some (Open x) → (g ≡ h → ⊥) × (under t g ≡ Some (Open x))
ended-others t after h s u w (inr none) g x at =
    let there = subst (λ (y : Circuits). under y g ≡ Some (Open x)) none.1 at in
    ((λ same. nothing (sym none.0 ∙ ap (λ (k : Handle). under t k) (sym same) ∙ there)), there)
  where
    nothing : (let none : Option ServerCircuit = None in none ≡ Some (Open x)) → ⊥
    nothing e = cc
ended-others t after h s u w (inl g) f x at = by g.0 g.1 g.2 g.3 g.4
  where
    by : (c new : ServerCircuit) → under t h ≡ Some c → EndsAt h c s w new u → after ≡ with_changed (λ (y : ServerCircuit). new) h t → (f ≡ h → ⊥) × (under t f ≡ Some (Open x))
    by (Open e) new there did changed =
        elim (changed-back (λ (y : ServerCircuit). Ended w e.link.output) t f h (Open x) (subst (λ (y : Circuits). under y f ≡ Some (Open x)) (became t after h new (Ended w e.link.output) changed did.0) at)) [
          | inl own ↦ absurd (not-ended x w e.link.output own.1.2)
          | inr old ↦ old
        ]
    by (Ended v left) new there did changed =
        let here = subst (λ (y : Circuits). under y f ≡ Some (Open x)) (stayed t after h new (Ended v left) there changed did.0) at in
        ((λ same. not-ended x v left (some_is (Open x) (Ended v left) (sym here ∙ ap (λ (k : Handle). under t k) same ∙ there))), here)

pub thins-out : (t after : Circuits) (h : Handle) (s u : Store) (w : Why) → EndsIn t h s w after u → Thins t after
thins-out t after h s u w did g x at = (x, (ended-others t after h s u w did g x at).1, (λ y i. i), (λ n c. c))

pub covers-out : (w : Watched) (t after : Circuits) (h : Handle) (name : List ℕ) (s u : Store) (y : Why) → EndsIn t h s y after u → CoversBut h name w t → Covers w after
covers-out w t after h name s u y did but g e x there i =
    let o = ended-others t after h s u y did g e there in
    elim (but g e x o.1 i) [
      | inl old ↦ old
      | inr own ↦ absurd (o.0 own.0)
    ]
