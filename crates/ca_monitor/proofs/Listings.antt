-- The subscriptions that are listed of a channel.
use Rattle.std.proofs.Common.{◌≡◌, ◌⊎◌, ◌==◌, ◌&&◌, ◌++◌, ℕ, inl, inr, Bool, true, false, List, [], ◌∷◌, Option, Some, None, filter, if◌then◌else◌, map, option_map, refl, sym, ap, ◌∙◌, subst}
use Rattle.std.proofs.lemmas.Bool.{and_parts, cases_Bool, eq-eqb, eqb-true}
use Rattle.std.proofs.lemmas.List.Elements.{filter-append}
use Rattle.ca_text.proofs.Places.{some_is}
use Rattle.ca_arena.specs.declared.handle.Handle.{Handle}
use Rattle.ca_ids.specs.Table.{Table, held, kept_of}
use Rattle.ca_lists.specs.Lists.{Ascends, list_of}
use Rattle.ca_lists.specs.Walks.{AreListed, Covers, IsInOrder, by_value, each_at}
use Rattle.ca_lists.proofs.Listed.{listed-covers, listed-tells, listed-thin, thins-map}
use Rattle.ca_lists.proofs.Walked.{told-listed}
use Rattle.ca_monitor.specs.declared.drops.SubscriptionsMeant.{SubscriptionsMeant}
use Rattle.ca_monitor.specs.declared.drops.SubscriptionsMeant.TheVariants as which
use Rattle.ca_monitor.specs.Layout.{is_of, is_standing_to, named, owner_of}
use Rattle.ca_monitor.specs.Subscriptions.{Cancelled, Ended, Stage, Stands, Subscription, drains_in, is_to, over_on, stage_over, standing_to, stands_in}

-- ---- whose a subscription is

own-index : (channel : Handle) (s : Subscription) → is_to channel s ≡ true → owner_of s ≡ Some channel.index
own-index channel s to =
    ap (λ (n : ℕ). Some n) (eqb-true s.channel.index channel.index (and_parts (s.channel.index == channel.index) (s.channel.generation == channel.generation) to).0)

-- ---- ids that are free

pub kept-twice : (n : Subscription → Bool) (o : Option Subscription) → kept_of n (kept_of n o) ≡ kept_of n o
kept-twice n None = refl
kept-twice n (Some s) = elim (cases_Bool (n s)) [ inl named ↦ rw named refl | inr other ↦ rw (other, other) refl ]

kept-same : (n : Subscription → Bool) (w v : Subscription) → kept_of n (Some w) ≡ Some v → w ≡ v
kept-same n w v is = by_test (n w) is
  where
    by_test : (b : Bool) → (if b then None else Some w) ≡ Some v → w ≡ v
    by_test true bad = absurd cc
    by_test false same = some_is w v same

only-kept : (n : Subscription → Bool) (channel : Handle) → ((s : Subscription) → n s ≡ true → is_to channel s ≡ true) → (s : Subscription) → (kept_of n (Some s) ≡ Some s) ⊎ (owner_of s ≡ Some channel.index)
only-kept n channel to s = elim (cases_Bool (n s)) [
  | inl named ↦ inr (own-index channel s (to s named))
  | inr other ↦ inl (rw other refl)
]

pub freed-covers : (n : Subscription → Bool) (channel : Handle) (t : Table Subscription) (lists : List (List ℕ)) → ((s : Subscription) → n s ≡ true → is_to channel s ≡ true) → AreListed owner_of t lists → Covers (kept_of n) t (list_of lists channel.index)
freed-covers n channel t lists to listed = listed-covers owner_of (kept_of n) t lists channel.index refl (only-kept n channel to) listed

pub freed-listed : (n : Subscription → Bool) (t u : Table Subscription) (lists : List (List ℕ)) → u ≡ map (by_value (kept_of n)) t → AreListed owner_of t lists → AreListed owner_of u lists
freed-listed n t u lists is listed =
    subst (λ (z : Table Subscription). AreListed owner_of z lists) (sym is)
    (listed-thin owner_of t (map (by_value (kept_of n)) t) lists (thins-map owner_of (kept_of n) t refl (λ w v o there owned. ap owner_of (kept-same n w v there) ∙ owned)) listed)

pub draining-to : (circuit channel : Handle) (s : Subscription) → (is_to channel s && drains_in circuit s.stage) ≡ true → is_to channel s ≡ true
draining-to circuit channel s both = (and_parts (is_to channel s) (drains_in circuit s.stage) both).0

-- ---- subscriptions that are over

over-again : (circuit : Handle) (stage : Stage) → stage_over circuit (stage_over circuit stage) ≡ stage_over circuit stage
over-again circuit Stands = refl
over-again circuit (Cancelled on) = refl
over-again circuit (Ended on) = refl

over-channel : (circuit channel : Handle) (s : Subscription) → (over_on circuit channel s).channel ≡ s.channel
over-channel circuit channel s = elim (cases_Bool (is_to channel s)) [ inl to ↦ rw to refl | inr other ↦ rw other refl ]

over-one : (circuit channel : Handle) (s : Subscription) → over_on circuit channel (over_on circuit channel s) ≡ over_on circuit channel s
over-one circuit channel s = elim (cases_Bool (is_to channel s)) [
  | inl to ↦ rw (to, to) (ap (λ (stage : Stage). let d : Subscription = record s { stage = stage } in d) (over-again circuit s.stage))
  | inr other ↦ rw (other, other) refl
]

pub over-twice : (circuit channel : Handle) (o : Option Subscription) → option_map (over_on circuit channel) (option_map (over_on circuit channel) o) ≡ option_map (over_on circuit channel) o
over-twice circuit channel None = refl
over-twice circuit channel (Some s) = ap (λ (d : Subscription). Some d) (over-one circuit channel s)

only-over : (circuit channel : Handle) (s : Subscription) → (option_map (over_on circuit channel) (Some s) ≡ Some s) ⊎ (owner_of s ≡ Some channel.index)
only-over circuit channel s = elim (cases_Bool (is_to channel s)) [
  | inl to ↦ inr (own-index channel s to)
  | inr other ↦ inl (rw other refl)
]

pub over-covers : (circuit channel : Handle) (t : Table Subscription) (lists : List (List ℕ)) → AreListed owner_of t lists → Covers (option_map (over_on circuit channel)) t (list_of lists channel.index)
over-covers circuit channel t lists listed = listed-covers owner_of (option_map (over_on circuit channel)) t lists channel.index refl (only-over circuit channel) listed

pub over-listed : (circuit channel : Handle) (t u : Table Subscription) (lists : List (List ℕ)) → u ≡ map (by_value (option_map (over_on circuit channel))) t → AreListed owner_of t lists → AreListed owner_of u lists
over-listed circuit channel t u lists is listed =
    subst (λ (z : Table Subscription). AreListed owner_of z lists) (sym is)
    (listed-thin owner_of t (map (by_value (option_map (over_on circuit channel))) t) lists (thins-map owner_of (option_map (over_on circuit channel)) t refl (λ w v o there owned.
    ap (λ (c : Handle). Some c.index) (sym (over-channel circuit channel w)) ∙ ap owner_of (some_is (over_on circuit channel w) v there) ∙ owned)) listed)

-- ---- those that stand

pub in-order : (channel : Handle) → IsInOrder (filter (is_standing_to channel))
in-order channel = record { none = refl; more = λ xs ys. filter-append (is_standing_to channel) xs ys }

only-standing : (channel h : Handle) (s : Subscription) → (filter (is_standing_to channel) ((h, s) ∷ []) ≡ []) ⊎ (owner_of s ≡ Some channel.index)
only-standing channel h s = elim (cases_Bool (is_standing_to channel (h, s))) [
  | inl stands ↦ inr (own-index channel s (and_parts (is_to channel s) (stands_in s.stage) stands).0)
  | inr other ↦ inl (rw other refl)
]

pub standing-listed : (channel : Handle) (t : Table Subscription) (lists : List (List ℕ)) → Ascends (list_of lists channel.index) → AreListed owner_of t lists → each_at (filter (is_standing_to channel)) t (list_of lists channel.index) ≡ standing_to channel t
standing-listed channel t lists up listed =
    told-listed (filter (is_standing_to channel)) (in-order channel) t (list_of lists channel.index) up
    (listed-tells owner_of (filter (is_standing_to channel)) t lists channel.index (in-order channel) (only-standing channel) listed)

-- ---- lists that are tidied

pub none-of : (channel : ℕ) (o : Option Subscription) → is_of channel o ≡ false → (s : Subscription) → o ≡ Some s → owner_of s ≡ Some channel → ⊥
none-of channel None none s is owned = absurd cc
none-of channel (Some d) none s is owned =
    let same : s.channel.index ≡ channel = some_is s.channel.index channel owned in
    let it : d ≡ s = some_is d s is in
    let yes : (d.channel.index == channel) ≡ true = eq-eqb d.channel.index channel (ap (λ (e : Subscription). e.channel.index) it ∙ same) in
    let bad : false ≡ true = sym none ∙ yes in
    absurd cc
