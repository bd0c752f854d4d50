-- Where a channel stands: what a test of its phase on a circuit says of it, and what was found so.
use Rattle.std.proofs.Common.{◌≡◌, ℕ, zero, suc, Bool, true, false, cond, List, [], ◌∷◌, Option, Some, None, refl, sym, ap, ◌∙◌, subst}
use Rattle.std.specs.Prelude.{filter_map, option_and_then, option_map, unwrap_or}
use Rattle.std.specs.List.{cons_option}
use Rattle.std.proofs.lemmas.Bool.{both_ways}
use Rattle.ca_text.specs.Place.{At}
use Rattle.ca_text.proofs.Places.{some_is}
use Rattle.ca_arena.specs.declared.handle.Handle.{Handle}
use Rattle.ca_ids.specs.Table.{by_wire, held, same_handle, under}
use Rattle.ca_ids.specs.Wire.{wire_of}
use Rattle.ca_monitor.specs.Subscriptions.{Subscription, stands_in}
use Rattle.ca_model.specs.Client.{Channel, Client, On, Phase, Searching, Standing, channel_on, channels_on, is_cleared, is_on_in, phase_on, standing_at, standing_unless_cleared}
use Rattle.ca_model.specs.ClientCalls.{StandsAs}
use Rattle.ca_model.specs.Hears.{is_searched, searched_by}
use Rattle.ca_model.proofs.Handles.{same-is, same-itself}
use Rattle.ca_model.proofs.Tables.{held-under, wire-under}

-- what stands where a standing was found
pub found-standing : (x : Client) (h : Handle) (s : Standing) → standing_at x h ≡ Some s → (ch : Channel) × (under x.channels h ≡ Some ch) × (ch.standing ≡ s)
found-standing x h s is = go (under x.channels h) refl is
  where
    by : (ch : Channel) (t : Standing) → ch.standing ≡ t → standing_unless_cleared t ≡ Some s → ch.standing ≡ s
    by ch Searching e f = e ∙ some_is Searching s f
    by ch (On c p) e f = pick (is_cleared p) f
      where
        pick : (b : Bool) → cond b None (Some (On c p)) ≡ Some s → ch.standing ≡ s
        pick true f = absurd cc
        pick false f = e ∙ some_is (On c p) s f

    go : (o : Option Channel) → under x.channels h ≡ o → option_and_then (λ (here : Channel). standing_unless_cleared here.standing) o ≡ Some s → (ch : Channel) × (under x.channels h ≡ Some ch) × (ch.standing ≡ s)
    go (Some ch) there f = (ch, there, by ch ch.standing refl f)
    go None there f = absurd cc

-- a channel that stands so on a circuit passes the tests that name its phase there
pub is-on : (test : Phase → Bool) (on : Handle) (ch : Channel) (p : Phase) → ch.standing ≡ On on p → is_on_in test on ch ≡ test p
is-on test on ch p is =
    ap (λ (s : Standing). unwrap_or (option_map test (phase_on on s)) false) is
    ∙ ap (λ (b : Bool). unwrap_or (option_map test (cond b (Some p) None)) false) (same-itself on)

-- a channel in a phase that a test does not name passes on no circuit
pub fails-anywhere : (test : Phase → Bool) (on o : Handle) (ch : Channel) (p : Phase) → ch.standing ≡ On o p → test p ≡ false → is_on_in test on ch ≡ false
fails-anywhere test on o ch p stands fails =
    ap (λ (s : Standing). unwrap_or (option_map test (phase_on on s)) false) stands ∙ go (same_handle o on)
  where
    go : (b : Bool) → unwrap_or (option_map test (cond b (Some p) None)) false ≡ false
    go true = fails
    go false = refl

-- a channel on another circuit passes no test here
pub fails-elsewhere : (test : Phase → Bool) (on o : Handle) (ch : Channel) (p : Phase) → ch.standing ≡ On o p → same_handle o on ≡ false → is_on_in test on ch ≡ false
fails-elsewhere test on o ch p stands other =
    ap (λ (s : Standing). unwrap_or (option_map test (phase_on on s)) false) stands
    ∙ ap (λ (b : Bool). unwrap_or (option_map test (cond b (Some p) None)) false) other

-- nor does one that is searched for
pub fails-searched : (test : Phase → Bool) (on : Handle) (ch : Channel) → ch.standing ≡ Searching → is_on_in test on ch ≡ false
fails-searched test on ch stands = ap (λ (s : Standing). unwrap_or (option_map test (phase_on on s)) false) stands

-- a channel is on one circuit
pub on-one : (test also : Phase → Bool) (c on : Handle) (ch : Channel) → is_on_in test c ch ≡ true → is_on_in also on ch ≡ true → c ≡ on
on-one test also c on ch a b = go ch.standing a b
  where
    go : (s : Standing) → unwrap_or (option_map test (phase_on c s)) false ≡ true → unwrap_or (option_map also (phase_on on s)) false ≡ true → c ≡ on
    go Searching p q = absurd (both_ways false refl p)
    go (On d e) p q = by (same_handle d c) (same_handle d on) refl refl p q
      where
        by : (x y : Bool) → same_handle d c ≡ x → same_handle d on ≡ y → unwrap_or (option_map test (cond x (Some e) None)) false ≡ true → unwrap_or (option_map also (cond y (Some e) None)) false ≡ true → c ≡ on
        by true true f g p q = sym (same-is d c f) ∙ same-is d on g
        by true false f g p q = absurd (both_ways false refl q)
        by false y f g p q = absurd (both_ways false refl p)

-- of those that pass, what a list has
pub at-filter-map : {A B : Type 0} (f : A → Option B) (xs : List A) (i : ℕ) (y : B) → At (filter_map f xs) i y → (j : ℕ) × (x : A) × At xs j x × (f x ≡ Some y)
at-filter-map f [] i y at = absurd cc
at-filter-map {A} {B} f (z ∷ xs) i y at = go (f z) refl i at (λ k h. at-filter-map f xs k y h)
  where
    go : (o : Option B) → f z ≡ o → (i : ℕ) → At (cons_option o (filter_map f xs)) i y → ((k : ℕ) → At (filter_map f xs) k y → (j : ℕ) × (x : A) × At xs j x × (f x ≡ Some y)) → (j : ℕ) × (x : A) × At (z ∷ xs) j x × (f x ≡ Some y)
    go (Some v) is zero h rest = (0, z, refl, is ∙ ap (λ (w : B). Some w) (some_is v y h))
    go (Some v) is (suc i) h rest = (let r = rest i h in (suc r.0, r.1, r.2, r.3))
    go None is i h rest = (let r = rest i h in (suc r.0, r.1, r.2, r.3))

-- the channels that are on a circuit in a phase that the test names
pub on-circuit : (test : Phase → Bool) (c : Handle) (x : Client) (i : ℕ) (h : Handle) → At (channels_on test c x) i h → (ch : Channel) × (under x.channels h ≡ Some ch) × (is_on_in test c ch ≡ true)
on-circuit test c x i h at =
    let f : Handle × Channel → Option Handle = λ (e : Handle × Channel). cond (is_on_in test c e.1) (Some e.0) None in
    let r = at-filter-map f (held x.channels) i h at in
    go r.1 (held-under x.channels r.0 r.1 r.2) (is_on_in test c r.1.1) refl r.3
  where
    go : (e : Handle × Channel) → under x.channels e.0 ≡ Some e.1 → (b : Bool) → is_on_in test c e.1 ≡ b → cond b (Some e.0) None ≡ Some h → (ch : Channel) × (under x.channels h ≡ Some ch) × (is_on_in test c ch ≡ true)
    go e there true is same = (e.1, subst (λ (k : Handle). under x.channels k ≡ Some e.1) (some_is e.0 h same) there, is)
    go e there false is same = absurd cc

-- the channel that a message finds on its circuit
pub channel-on : (x : Client) (on : Handle) (cid : ℕ) (h : Handle) (p : Phase) → channel_on x on cid ≡ Some (h, p) → (ch : Channel) × (under x.channels h ≡ Some ch) × (wire_of h ≡ cid) × (ch.standing ≡ On on p)
channel-on x on cid h p is = go (by_wire x.channels cid) refl is
  where
    stands : (e : Handle × Channel) (s : Standing) → e.1.standing ≡ s → option_map {U = Handle × Phase} (λ (q : Phase). (e.0, q)) (phase_on on s) ≡ Some (h, p) → (e.0 ≡ h) × (e.1.standing ≡ On on p)
    stands e Searching here f = absurd cc
    stands e (On d q) here f = by (same_handle d on) refl f
      where
        by : (b : Bool) → same_handle d on ≡ b → option_map {U = Handle × Phase} (λ (q : Phase). (e.0, q)) (cond b (Some q) None) ≡ Some (h, p) → (e.0 ≡ h) × (e.1.standing ≡ On on p)
        by true is_it k =
            let same : ◌≡◌ {A = Handle × Phase} (e.0, q) (h, p) = some_is (e.0, q) (h, p) k in
            (ap (λ (z : Handle × Phase). z.0) same, here ∙ (λ i. On (same-is d on is_it i) ((ap (λ (z : Handle × Phase). z.1) same) i)))
        by false is_it k = absurd cc

    go : (o : Option (Handle × Channel)) → by_wire x.channels cid ≡ o
        → option_and_then (λ (e : Handle × Channel). option_map {U = Handle × Phase} (λ (q : Phase). (e.0, q)) (phase_on on e.1.standing)) o ≡ Some (h, p)
        → (ch : Channel) × (under x.channels h ≡ Some ch) × (wire_of h ≡ cid) × (ch.standing ≡ On on p)
    go None found f = absurd cc
    go (Some e) found f =
        let there = wire-under x.channels cid e found in
        let r = stands e e.1.standing refl f in
        (e.1, subst (λ (k : Handle). under x.channels k ≡ Some e.1) r.0 there.0, sym (ap (λ (k : Handle). wire_of k) r.0) ∙ there.1, r.1)

-- a handle names no channel that was cleared
pub never-cleared : (x : Client) (h o : Handle) (p : Phase) → standing_at x h ≡ Some (On o p) → is_cleared p ≡ false
never-cleared x h o p at = go (under x.channels h) at
  where
    phase-is : (c d : Handle) (q r : Phase) → On c q ≡ On d r → q ≡ r
    phase-is c d q r e = cc

    by : (s : Standing) → standing_unless_cleared s ≡ Some (On o p) → is_cleared p ≡ false
    by Searching e = absurd cc
    by (On c q) e = pick (is_cleared q) refl e
      where
        pick : (b : Bool) → is_cleared q ≡ b → cond b None (Some (On c q)) ≡ Some (On o p) → is_cleared p ≡ false
        pick true is e = absurd cc
        pick false is e = ap is_cleared (sym (phase-is c o q p (some_is (On c q) (On o p) e))) ∙ is

    go : (w : Option Channel) → option_and_then (λ (here : Channel). standing_unless_cleared here.standing) w ≡ Some (On o p) → is_cleared p ≡ false
    go (Some ch) e = by ch.standing e
    go None e = absurd cc

pub stands-as : (x : Client) (g : Handle) (d : Subscription) → StandsAs x g d → (under x.subscriptions g ≡ Some d) × (stands_in d.stage ≡ true)
stands-as x g d is = go (under x.subscriptions g) refl is
  where
    pick : (e : Subscription) → under x.subscriptions g ≡ Some e → (b : Bool) → stands_in e.stage ≡ b → cond b (Some e) None ≡ Some d → (under x.subscriptions g ≡ Some d) × (stands_in d.stage ≡ true)
    pick e there true stands f = (let same : e ≡ d = some_is e d f in (there ∙ ap (λ (z : Subscription). Some z) same, ap (λ (z : Subscription). stands_in z.stage) (sym same) ∙ stands))
    pick e there false stands f = absurd cc

    go : (o : Option Subscription) → under x.subscriptions g ≡ o → option_and_then (λ (s : Subscription). cond (stands_in s.stage) (Some s) None) o ≡ Some d → (under x.subscriptions g ≡ Some d) × (stands_in d.stage ≡ true)
    go (Some e) there f = pick e there (stands_in e.stage) refl f
    go None there f = absurd cc

-- what a search reply finds is searched for
pub searched-is : (cid : ℕ) (x : Client) (h : Handle) (here : Channel) → searched_by cid x ≡ Some (h, here) → (under x.channels h ≡ Some here) × (here.standing ≡ Searching)
searched-is cid x h here is = go (by_wire x.channels cid) refl is
  where
    stands : (s : Standing) → is_searched s ≡ true → s ≡ Searching
    stands Searching f = refl
    stands (On c p) f = absurd cc

    pick : (e : Handle × Channel) → by_wire x.channels cid ≡ Some e → (b : Bool) → is_searched e.1.standing ≡ b → cond b (Some e) None ≡ Some (h, here) → (under x.channels h ≡ Some here) × (here.standing ≡ Searching)
    pick e found true yes_it f =
        subst (λ (z : Handle × Channel). (under x.channels z.0 ≡ Some z.1) × (z.1.standing ≡ Searching)) (some_is e (h, here) f) ((wire-under x.channels cid e found).0, stands e.1.standing yes_it)
    pick e found false no_it f = absurd cc

    go : (o : Option (Handle × Channel)) → by_wire x.channels cid ≡ o → option_and_then (λ (e : Handle × Channel). cond (is_searched e.1.standing) (Some e) None) o ≡ Some (h, here) → (under x.channels h ≡ Some here) × (here.standing ≡ Searching)
    go (Some e) found f = pick e found (is_searched e.1.standing) refl f
    go None found f = absurd cc
