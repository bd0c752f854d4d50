-- Histories that break a part of what is said of a subscription.
use Rattle.std.proofs.Common.{◌≡◌, ℕ, suc, ◌<◌, ◌≤◌, ◌⊎◌, inl, inr, List, [], ◌∷◌, length, refl, sym, ap, subst, ◌∙◌, arith}
use Rattle.ca_text.proofs.Places.{At-within, some_is}
use Rattle.std.specs.Prelude.{None, take}
use Rattle.ca_text.specs.Place.{At}
use Rattle.ca_dbr.specs.declared.value.Outcome.{Outcome}
use Rattle.ca_records.specs.Record.{RecordState}
use Rattle.ca_wire.specs.Fields.{Fields}
use Rattle.ca_model.specs.Speech.{In, Stored, Id}
use Rattle.ca_model.specs.Images.{shown_in}
use Rattle.ca_model.specs.History.{Create, On, Intent, Sent, Told, Step, Circuit, Entry, Line, World, Added, Removed, Opened, Subscribe, Update, Updated, Cause, GaveUp, Reply, Removal}
use Rattle.ca_model.specs.Channels.{before}
use Rattle.ca_model_examples.specs.Worlds.{adding, reply, created_told, AnyDue, creating, long, step, temp, temp_name, world}
use Rattle.ca_model_examples.specs.Parts.{FieldOf, Part, Holds, BreaksOnly, IsSafeNow}
use Rattle.ca_model_examples.specs.Parts as part
use Rattle.ca_model_examples.specs.Unsafe.{both_updated, opened, posted, saw, subscribed, subscriber, temp_removed, temp_there, updated}
use Rattle.ca_model_examples.proofs.Lists.{Each, each-at, one-at, two-at}
use Rattle.ca_model_examples.proofs.Quiet.{none, quiet, holds, whole, is_called}
use Rattle.ca_model_examples.proofs.Shown.{answered-by, answered-each, caused-each, taken-each}
use Rattle.ca_model.specs.Headline.{Follows, Reads}
use Rattle.ca_model.specs.Causes.{TakesOwn}
use Rattle.ca_model.specs.Updates.{Shows}
use Rattle.ca_requests.specs.Meaning.{Means}
use Rattle.ca_model_examples.proofs.Names.{its-part, was-there}
use Rattle.ca_model_examples.proofs.Opened.{created-here, created-own, open-here, takes-cid}
use Rattle.ca_model_examples.proofs.Speaks.{heads, of-update}
use Rattle.ca_model_examples.proofs.Creations.{number-of, only-added}
use Rattle.ca_model_examples.proofs.Uses.{acted-record, acts-by, two-only}
use Rattle.ca_model.specs.Causes.{Accepted}
use Rattle.ca_model.specs.Channels.{Lasts, updates}
use Rattle.ca_model.specs.Posts.{matching}
use Rattle.ca_model.specs.Updates.{update_in}
use Rattle.ca_wire.specs.Messages.{mask_in}
use Rattle.ca_wire.specs.Header.{number16}
use Rattle.std.specs.Prelude.{slice_index_or}
use Rattle.ca_dbr.specs.declared.data_type.BaseType.TheVariants as base
use Rattle.ca_dbr.specs.declared.data_type.Form.TheVariants as form
use Rattle.ca_dbr.specs.Elements as E
use Rattle.ca_display.specs.declared.image_type.ImageType.{ImageType}
use Rattle.ca_display.specs.declared.image_type.ImageType.TheVariants as any

-- the circuits, for short
abbrev followed : Circuit
followed = subscribed (updated 0 21 ∷ []) []

abbrev repeated : Circuit
repeated = subscribed (updated 0 21 ∷ updated 0 21 ∷ []) []

abbrev queued_more : Circuit
queued_more = subscribed (updated 0 21 ∷ []) ((1, Update 1) ∷ [])

abbrev shown_22 : Circuit
shown_22 = subscribed (updated 0 22 ∷ []) []

abbrev unsent : Circuit
unsent = subscribed [] []

abbrev seen_once : Circuit
seen_once = subscriber (updated 0 21 ∷ []) (step 1 1 1 ∷ step 2 1 2 ∷ [])

abbrev unseen : Circuit
unseen = subscriber (updated 0 21 ∷ []) (step 1 1 1 ∷ [])

abbrev refused : Circuit
refused = subscribed (reply 1 (updated 0 21).message ∷ updated 0 21 ∷ []) []

added-in : (i q : ℕ) (s : RecordState) → At temp_there i (Added q s) → 0 ≡ q
added-in i q s at = ap number-of (sym (one-at (Added 0 temp) i (Added q s) at).1)

-- the second of two entries is a post
posted-in : (i q : ℕ) (s : RecordState) → At posted i (Added q s) → 0 ≡ q
posted-in i q s at = each-at (λ (k : ℕ) (e : Entry). e ≡ Added q s → 0 ≡ q) posted ((λ e. ap number-of e), ((λ e. absurd cc), tt)) i _ at refl

-- and so is a removal
removed-in : (i q : ℕ) (s : RecordState) → At temp_removed i (Added q s) → 0 ≡ q
removed-in i q s at = each-at (λ (k : ℕ) (e : Entry). e ≡ Added q s → 0 ≡ q) temp_removed ((λ e. ap number-of e), ((λ e. absurd cc), tt)) i _ at refl

-- An accepted EVENT_ADD is the one at place 1, handled on TEMP.
module _ (c : Circuit) (y : List Entry) (up : c.up ≡ creating ∷ adding 0 9 ∷ []) (handled : c.handled ≡ step 0 1 1 ∷ step 1 1 1 ∷ []) (only : (i q : ℕ) (s : RecordState) → At y i (Added q s) → 0 ≡ q) where
  accepted-is : (P : ℕ → ℕ → Sent → Step → Type 0) → P 1 0 (adding 0 9) (step 1 1 1) → (k r : ℕ) (s : Sent) (h : Step) → Accepted c y k r s h → P k r s h
  accepted-is P one k r s h a =
      let at : At (creating ∷ adding 0 9 ∷ []) k s = subst (λ (z : List Sent). At z k s) up a.2 in
      let ht : At (step 0 1 1 ∷ step 1 1 1 ∷ []) k h = subst (λ (z : List Step). At z k h) handled a.4 in
      elim (two-at creating (adding 0 9) k s at) [
        | inl e ↦ absurd (let f : On 0 Create ≡ On a.0 (Subscribe a.1) = sym (ap (λ (z : Sent). z.intent) e.1) ∙ a.3 in cc)
        | inr e ↦
            let g : step 1 1 1 ≡ h = some_is (step 1 1 1) h (subst (λ (n : ℕ). At (step 0 1 1 ∷ step 1 1 1 ∷ []) n h) e.0 ht) in
            subst (λ (n : ℕ). P n r s h) (sym e.0) (subst (λ (n : ℕ). P 1 n s h) (acted-record c y k r only a.5) (
            subst (λ (z : Sent). P 1 0 z h) (sym e.1) (subst (λ (z : Step). P 1 0 (adding 0 9) z) g one)))
      ]

-- the number of the post of an update
abbrev item : Cause → ℕ
item Reply = 0
item Removal = 0
item (Update a) = a

-- what the EVENT_ADD is due once TEMP was posted
posts-are : matching posted 1 0 (mask_in (adding 0 9).message) ≡ long 21 ∷ long 22 ∷ []
unfolding number16
posts-are = refl

-- what is true of each update of the EVENT_ADD, by its place among all and its number
marked : (P : ℕ → ℕ → Type 0) (c : Circuit) → Each (λ (i : ℕ) (z : ℕ × Cause). (a : ℕ) → z ≡ (1, Update a) → P i a) (updates c) → (i a : ℕ) → At (updates c) i (1, Update a) → P i a
marked P c all i a at = each-at (λ (k : ℕ) (z : ℕ × Cause). (b : ℕ) → z ≡ (1, Update b) → P k b) (updates c) all i _ at a refl

abbrev plain_long : ImageType
plain_long = any.Data (record { base = base.Long; form = form.Plain })

pub shows-21 : Shows (adding 0 9).message (long 21) (updated 0 21).message
unfolding E.signed_bytes_4
shows-21 = (plain_long, refl, refl)

pub shows-22 : Shows (adding 0 9).message (long 22) (updated 1 22).message
unfolding E.signed_bytes_4
shows-22 = (plain_long, refl, refl)

not-22 : Shows (adding 0 9).message (long 21) (updated 0 22).message → ⊥
unfolding E.signed_bytes_4
not-22 shows =
    let typed : plain_long ≡ shows.0 = some_is _ shows.0 shows.1 in
    let m : (updated 0 22).message ≡ (updated 0 21).message = subst (λ (t : ImageType). (updated 0 22).message ≡ update_in (record { sid = 5; id = 9; data_type = 5; count = 1 }) (long 21) t (shown_in (long 21).value 1 t)) (sym typed) shows.2 in
    let e : 22 ≡ 21 = ap (λ (f : Fields). slice_index_or f.payload 3 0) m in
    omega (arith, e)

sub-safe-each : (p : Part) → Holds AnyDue p (world (followed ∷ []) opened temp_there)
sub-safe-each part.Acts = holds AnyDue part.Acts followed opened temp_there refl refl (λ k channel ask early meant other. acts-by followed (adding 0 9) opened temp_there refl refl (adding 0 9, step 1 1 1, 0, 0, refl, refl, open-here (before followed 1 (step 1 1 1)) (take 1 temp_there) (created-here (before followed 1 (step 1 1 1)) (take 1 temp_there) refl refl refl refl (only-added (Added 0 temp ∷ []) 0 refl)) refl refl) (temp, (0, refl), (0, refl)) k channel ask meant other) tt tt
sub-safe-each part.Caused = caused-each followed opened temp_there refl refl ((tt, (step 0 1 1, refl, omega arith)), (((0, adding 0 9, step 1 1 1, (0, 0, refl, refl, refl, (adding 0 9, step 1 1 1, 0, 0, refl, refl, open-here (before followed 1 (step 1 1 1)) (take 1 temp_there) (created-here (before followed 1 (step 1 1 1)) (take 1 temp_there) refl refl refl refl (only-added (Added 0 temp ∷ []) 0 refl)) refl refl), λ j t at place cause. each-at (λ (i : ℕ) (u : Told). u.place ≡ 1 → u.cause ≡ Reply → ⊥) (followed).down ((λ p e. omega (arith, p)), ((λ p e. cc), tt)) j t at place cause)), (step 1 1 1, refl, omega arith)), tt))
sub-safe-each part.Own = taken-each followed opened temp_there refl refl ((created-own followed 0 (takes-cid followed 0 0 creating refl refl refl (omega arith) refl)), ((λ id s. subst (λ (e : Id). TakesOwn followed 1 1 e) (sym (of-update ((updated 0 21).message) id refl (heads ((updated 0 21).message) id (λ e. omega (arith, e)) s))) (1, 0, adding 0 9, adding 0 9, (adding 0 9, refl, (refl, refl), omega arith, λ l r after early at gives. two-only creating (adding 0 9) l r after at), omega arith, refl, refl, refl, refl)), tt))
sub-safe-each part.Answered = answered-each followed opened temp_there refl refl ((answered-by followed temp_there 0 (step 0 1 1) creating (created_told.message ∷ []) [] refl (refl, tt) tt refl ((λ p e. omega arith), ((λ p e. absurd (omega (arith, p))), tt)) ((λ l. absurd (omega (arith, l))), ((λ l. omega arith), tt))), ((answered-by followed temp_there 1 (step 1 1 1) (adding 0 9) [] [] refl tt tt refl ((λ p e. absurd (omega (arith, p))), ((λ p e. absurd cc), tt)) ((λ l. absurd (omega (arith, l))), ((λ l. absurd (omega (arith, l))), tt))), tt))
sub-safe-each part.Rising = holds AnyDue part.Rising followed opened temp_there refl refl (accepted-is followed temp_there refl refl added-in (λ k r s h. FieldOf (λ (p : Follows AnyDue Shows Means followed temp_there k r s (matching temp_there h.logged r (mask_in s.message))). p.rising)) (λ i j a b lt p q. absurd (let u : i ≡ 1 = marked (λ k d. k ≡ 1) followed ((λ b e. absurd (let f = ap (λ (z : ℕ × Cause). z.0) e in omega (arith, f))), ((λ b e. refl), tt)) i a p in let v : j ≡ 1 = marked (λ k d. k ≡ 1) followed ((λ b e. absurd (let f = ap (λ (z : ℕ × Cause). z.0) e in omega (arith, f))), ((λ b e. refl), tt)) j b q in omega (arith, u, v, lt)))) tt tt
sub-safe-each part.Matches = holds AnyDue part.Matches followed opened temp_there refl refl (accepted-is followed temp_there refl refl added-in (λ k r s h. FieldOf (λ (p : Follows AnyDue Shows Means followed temp_there k r s (matching temp_there h.logged r (mask_in s.message))). p.matches)) (λ a h. marked (λ k d. d < 1) followed ((λ b e. absurd (let f = ap (λ (z : ℕ × Cause). z.0) e in omega (arith, f))), ((λ b e. (let f = ap (λ (z : ℕ × Cause). item z.1) e in omega (arith, f))), tt)) h.0 a h.1)) tt tt
sub-safe-each part.ShowsPost = holds AnyDue part.ShowsPost followed opened temp_there refl refl (accepted-is followed temp_there refl refl added-in (λ k r s h. FieldOf (λ (p : Follows AnyDue Shows Means followed temp_there k r s (matching temp_there h.logged r (mask_in s.message))). p.shows)) (λ j a t at place cause. each-at (λ (i : ℕ) (u : Told). u.place ≡ 1 → u.cause ≡ Update a → (v : Stored) × At (matching temp_there 1 0 (mask_in (adding 0 9).message)) a v × Shows (adding 0 9).message v u.message) (followed).down ((λ p e. absurd (omega (arith, p))), ((λ p e. (long 21, subst (λ (n : ℕ). At (matching temp_there 1 0 (mask_in (adding 0 9).message)) n (long 21)) (ap item e) refl, shows-21)), tt)) j t at place cause)) tt tt
sub-safe-each part.Newest = holds AnyDue part.Newest followed opened temp_there refl refl (accepted-is followed temp_there refl refl added-in (λ k r s h. FieldOf (λ (p : Follows AnyDue Shows Means followed temp_there k r s (matching temp_there h.logged r (mask_in s.message))). p.newest)) (λ lasts. (0, (1, refl), refl))) tt tt
sub-safe-each p = quiet AnyDue p followed opened temp_there refl refl refl refl refl

pub sub-safe : IsSafeNow (world (followed ∷ []) opened temp_there)
sub-safe = whole AnyDue _ (sub-safe-each)

sub-repeated-rest : (p : Part) → (p ≡ part.Rising → ⊥) → Holds AnyDue p (world (repeated ∷ []) opened temp_there)
sub-repeated-rest part.Rising ne = absurd (ne refl)
sub-repeated-rest part.Acts ne = holds AnyDue part.Acts repeated opened temp_there refl refl (λ k channel ask early meant other. acts-by repeated (adding 0 9) opened temp_there refl refl (adding 0 9, step 1 1 1, 0, 0, refl, refl, open-here (before repeated 1 (step 1 1 1)) (take 1 temp_there) (created-here (before repeated 1 (step 1 1 1)) (take 1 temp_there) refl refl refl refl (only-added (Added 0 temp ∷ []) 0 refl)) refl refl) (temp, (0, refl), (0, refl)) k channel ask meant other) tt tt
sub-repeated-rest part.Caused ne = caused-each repeated opened temp_there refl refl ((tt, (step 0 1 1, refl, omega arith)), (((0, adding 0 9, step 1 1 1, (0, 0, refl, refl, refl, (adding 0 9, step 1 1 1, 0, 0, refl, refl, open-here (before repeated 1 (step 1 1 1)) (take 1 temp_there) (created-here (before repeated 1 (step 1 1 1)) (take 1 temp_there) refl refl refl refl (only-added (Added 0 temp ∷ []) 0 refl)) refl refl), λ j t at place cause. each-at (λ (i : ℕ) (u : Told). u.place ≡ 1 → u.cause ≡ Reply → ⊥) (repeated).down ((λ p e. omega (arith, p)), ((λ p e. cc), ((λ p e. cc), tt))) j t at place cause)), (step 1 1 1, refl, omega arith)), (((0, adding 0 9, step 1 1 1, (0, 0, refl, refl, refl, (adding 0 9, step 1 1 1, 0, 0, refl, refl, open-here (before repeated 1 (step 1 1 1)) (take 1 temp_there) (created-here (before repeated 1 (step 1 1 1)) (take 1 temp_there) refl refl refl refl (only-added (Added 0 temp ∷ []) 0 refl)) refl refl), λ j t at place cause. each-at (λ (i : ℕ) (u : Told). u.place ≡ 1 → u.cause ≡ Reply → ⊥) (repeated).down ((λ p e. omega (arith, p)), ((λ p e. cc), ((λ p e. cc), tt))) j t at place cause)), (step 1 1 1, refl, omega arith)), tt)))
sub-repeated-rest part.Own ne = taken-each repeated opened temp_there refl refl ((created-own repeated 0 (takes-cid repeated 0 0 creating refl refl refl (omega arith) refl)), ((λ id s. subst (λ (e : Id). TakesOwn repeated 1 1 e) (sym (of-update ((updated 0 21).message) id refl (heads ((updated 0 21).message) id (λ e. omega (arith, e)) s))) (1, 0, adding 0 9, adding 0 9, (adding 0 9, refl, (refl, refl), omega arith, λ l r after early at gives. two-only creating (adding 0 9) l r after at), omega arith, refl, refl, refl, refl)), ((λ id s. subst (λ (e : Id). TakesOwn repeated 2 1 e) (sym (of-update ((updated 0 21).message) id refl (heads ((updated 0 21).message) id (λ e. omega (arith, e)) s))) (1, 0, adding 0 9, adding 0 9, (adding 0 9, refl, (refl, refl), omega arith, λ l r after early at gives. two-only creating (adding 0 9) l r after at), omega arith, refl, refl, refl, refl)), tt)))
sub-repeated-rest part.Answered ne = answered-each repeated opened temp_there refl refl ((answered-by repeated temp_there 0 (step 0 1 1) creating (created_told.message ∷ []) [] refl (refl, tt) tt refl ((λ p e. omega arith), ((λ p e. absurd (omega (arith, p))), ((λ p e. absurd (omega (arith, p))), tt))) ((λ l. absurd (omega (arith, l))), ((λ l. omega arith), tt))), ((answered-by repeated temp_there 1 (step 1 1 1) (adding 0 9) [] [] refl tt tt refl ((λ p e. absurd (omega (arith, p))), ((λ p e. absurd cc), ((λ p e. absurd cc), tt))) ((λ l. absurd (omega (arith, l))), ((λ l. absurd (omega (arith, l))), tt))), tt))
sub-repeated-rest part.Matches ne = holds AnyDue part.Matches repeated opened temp_there refl refl (accepted-is repeated temp_there refl refl added-in (λ k r s h. FieldOf (λ (p : Follows AnyDue Shows Means repeated temp_there k r s (matching temp_there h.logged r (mask_in s.message))). p.matches)) (λ a h. marked (λ k d. d < 1) repeated ((λ b e. absurd (let f = ap (λ (z : ℕ × Cause). z.0) e in omega (arith, f))), ((λ b e. (let f = ap (λ (z : ℕ × Cause). item z.1) e in omega (arith, f))), ((λ b e. (let f = ap (λ (z : ℕ × Cause). item z.1) e in omega (arith, f))), tt))) h.0 a h.1)) tt tt
sub-repeated-rest part.ShowsPost ne = holds AnyDue part.ShowsPost repeated opened temp_there refl refl (accepted-is repeated temp_there refl refl added-in (λ k r s h. FieldOf (λ (p : Follows AnyDue Shows Means repeated temp_there k r s (matching temp_there h.logged r (mask_in s.message))). p.shows)) (λ j a t at place cause. each-at (λ (i : ℕ) (u : Told). u.place ≡ 1 → u.cause ≡ Update a → (v : Stored) × At (matching temp_there 1 0 (mask_in (adding 0 9).message)) a v × Shows (adding 0 9).message v u.message) (repeated).down ((λ p e. absurd (omega (arith, p))), ((λ p e. (long 21, subst (λ (n : ℕ). At (matching temp_there 1 0 (mask_in (adding 0 9).message)) n (long 21)) (ap item e) refl, shows-21)), ((λ p e. (long 21, subst (λ (n : ℕ). At (matching temp_there 1 0 (mask_in (adding 0 9).message)) n (long 21)) (ap item e) refl, shows-21)), tt))) j t at place cause)) tt tt
sub-repeated-rest part.Newest ne = holds AnyDue part.Newest repeated opened temp_there refl refl (accepted-is repeated temp_there refl refl added-in (λ k r s h. FieldOf (λ (p : Follows AnyDue Shows Means repeated temp_there k r s (matching temp_there h.logged r (mask_in s.message))). p.newest)) (λ lasts. (0, (1, refl), refl))) tt tt
sub-repeated-rest p ne = quiet AnyDue p repeated opened temp_there refl refl refl refl refl

pub sub-repeated : BreaksOnly part.Rising (world (repeated ∷ []) opened temp_there)
sub-repeated = (sub-repeated-rest, λ h. (let e = its-part part.Rising repeated opened temp_there refl refl h.0 1 0 (adding 0 9) (step 1 1 1) (0, 0, refl, refl, refl, (adding 0 9, step 1 1 1, 0, 0, refl, refl, open-here (before repeated 1 (step 1 1 1)) (take 1 temp_there) (created-here (before repeated 1 (step 1 1 1)) (take 1 temp_there) refl refl refl refl (only-added (Added 0 temp ∷ []) 0 refl)) refl refl), λ j t at place cause. each-at (λ (i : ℕ) (u : Told). u.place ≡ 1 → u.cause ≡ Reply → ⊥) (repeated).down ((λ p e. omega (arith, p)), ((λ p e. cc), ((λ p e. cc), tt))) j t at place cause) 1 2 0 0 (omega arith) refl refl in omega (arith, e)))

sub-queued-nothing-rest : (p : Part) → (p ≡ part.Matches → ⊥) → Holds AnyDue p (world (queued_more ∷ []) opened temp_there)
sub-queued-nothing-rest part.Matches ne = absurd (ne refl)
sub-queued-nothing-rest part.Acts ne = holds AnyDue part.Acts queued_more opened temp_there refl refl (λ k channel ask early meant other. acts-by queued_more (adding 0 9) opened temp_there refl refl (adding 0 9, step 1 1 1, 0, 0, refl, refl, open-here (before queued_more 1 (step 1 1 1)) (take 1 temp_there) (created-here (before queued_more 1 (step 1 1 1)) (take 1 temp_there) refl refl refl refl (only-added (Added 0 temp ∷ []) 0 refl)) refl refl) (temp, (0, refl), (0, refl)) k channel ask meant other) tt tt
sub-queued-nothing-rest part.Caused ne = caused-each queued_more opened temp_there refl refl ((tt, (step 0 1 1, refl, omega arith)), (((0, adding 0 9, step 1 1 1, (0, 0, refl, refl, refl, (adding 0 9, step 1 1 1, 0, 0, refl, refl, open-here (before queued_more 1 (step 1 1 1)) (take 1 temp_there) (created-here (before queued_more 1 (step 1 1 1)) (take 1 temp_there) refl refl refl refl (only-added (Added 0 temp ∷ []) 0 refl)) refl refl), λ j t at place cause. each-at (λ (i : ℕ) (u : Told). u.place ≡ 1 → u.cause ≡ Reply → ⊥) (queued_more).down ((λ p e. omega (arith, p)), ((λ p e. cc), tt)) j t at place cause)), (step 1 1 1, refl, omega arith)), tt))
sub-queued-nothing-rest part.Own ne = taken-each queued_more opened temp_there refl refl ((created-own queued_more 0 (takes-cid queued_more 0 0 creating refl refl refl (omega arith) refl)), ((λ id s. subst (λ (e : Id). TakesOwn queued_more 1 1 e) (sym (of-update ((updated 0 21).message) id refl (heads ((updated 0 21).message) id (λ e. omega (arith, e)) s))) (1, 0, adding 0 9, adding 0 9, (adding 0 9, refl, (refl, refl), omega arith, λ l r after early at gives. two-only creating (adding 0 9) l r after at), omega arith, refl, refl, refl, refl)), tt))
sub-queued-nothing-rest part.Answered ne = answered-each queued_more opened temp_there refl refl ((answered-by queued_more temp_there 0 (step 0 1 1) creating (created_told.message ∷ []) [] refl (refl, tt) tt refl ((λ p e. omega arith), ((λ p e. absurd (omega (arith, p))), tt)) ((λ l. absurd (omega (arith, l))), ((λ l. omega arith), tt))), ((answered-by queued_more temp_there 1 (step 1 1 1) (adding 0 9) [] [] refl tt tt refl ((λ p e. absurd (omega (arith, p))), ((λ p e. absurd cc), tt)) ((λ l. absurd (omega (arith, l))), ((λ l. absurd (omega (arith, l))), tt))), tt))
sub-queued-nothing-rest part.Rising ne = holds AnyDue part.Rising queued_more opened temp_there refl refl (accepted-is queued_more temp_there refl refl added-in (λ k r s h. FieldOf (λ (p : Follows AnyDue Shows Means queued_more temp_there k r s (matching temp_there h.logged r (mask_in s.message))). p.rising)) (λ i j a b lt p q. (let u : i ≡ suc a = marked (λ k d. k ≡ suc d) queued_more ((λ b e. absurd (let f = ap (λ (z : ℕ × Cause). z.0) e in omega (arith, f))), ((λ b e. (let f = ap (λ (z : ℕ × Cause). item z.1) e in omega (arith, f))), ((λ b e. (let f = ap (λ (z : ℕ × Cause). item z.1) e in omega (arith, f))), tt))) i a p in let v : j ≡ suc b = marked (λ k d. k ≡ suc d) queued_more ((λ b e. absurd (let f = ap (λ (z : ℕ × Cause). z.0) e in omega (arith, f))), ((λ b e. (let f = ap (λ (z : ℕ × Cause). item z.1) e in omega (arith, f))), ((λ b e. (let f = ap (λ (z : ℕ × Cause). item z.1) e in omega (arith, f))), tt))) j b q in omega (arith, u, v, lt)))) tt tt
sub-queued-nothing-rest part.ShowsPost ne = holds AnyDue part.ShowsPost queued_more opened temp_there refl refl (accepted-is queued_more temp_there refl refl added-in (λ k r s h. FieldOf (λ (p : Follows AnyDue Shows Means queued_more temp_there k r s (matching temp_there h.logged r (mask_in s.message))). p.shows)) (λ j a t at place cause. each-at (λ (i : ℕ) (u : Told). u.place ≡ 1 → u.cause ≡ Update a → (v : Stored) × At (matching temp_there 1 0 (mask_in (adding 0 9).message)) a v × Shows (adding 0 9).message v u.message) (queued_more).down ((λ p e. absurd (omega (arith, p))), ((λ p e. (long 21, subst (λ (n : ℕ). At (matching temp_there 1 0 (mask_in (adding 0 9).message)) n (long 21)) (ap item e) refl, shows-21)), tt)) j t at place cause)) tt tt
sub-queued-nothing-rest part.Newest ne = holds AnyDue part.Newest queued_more opened temp_there refl refl (accepted-is queued_more temp_there refl refl added-in (λ k r s h. FieldOf (λ (p : Follows AnyDue Shows Means queued_more temp_there k r s (matching temp_there h.logged r (mask_in s.message))). p.newest)) (λ lasts. (0, (1, refl), refl))) tt tt
sub-queued-nothing-rest p ne = quiet AnyDue p queued_more opened temp_there refl refl refl refl refl

pub sub-queued-nothing : BreaksOnly part.Matches (world (queued_more ∷ []) opened temp_there)
sub-queued-nothing = (sub-queued-nothing-rest, λ h. (let e = its-part part.Matches queued_more opened temp_there refl refl h.0 1 0 (adding 0 9) (step 1 1 1) (0, 0, refl, refl, refl, (adding 0 9, step 1 1 1, 0, 0, refl, refl, open-here (before queued_more 1 (step 1 1 1)) (take 1 temp_there) (created-here (before queued_more 1 (step 1 1 1)) (take 1 temp_there) refl refl refl refl (only-added (Added 0 temp ∷ []) 0 refl)) refl refl), λ j t at place cause. each-at (λ (i : ℕ) (u : Told). u.place ≡ 1 → u.cause ≡ Reply → ⊥) (queued_more).down ((λ p e. omega (arith, p)), ((λ p e. cc), tt)) j t at place cause) 1 (2, refl) in omega (arith, e)))

sub-another-value-rest : (p : Part) → (p ≡ part.ShowsPost → ⊥) → Holds AnyDue p (world (shown_22 ∷ []) opened temp_there)
sub-another-value-rest part.ShowsPost ne = absurd (ne refl)
sub-another-value-rest part.Acts ne = holds AnyDue part.Acts shown_22 opened temp_there refl refl (λ k channel ask early meant other. acts-by shown_22 (adding 0 9) opened temp_there refl refl (adding 0 9, step 1 1 1, 0, 0, refl, refl, open-here (before shown_22 1 (step 1 1 1)) (take 1 temp_there) (created-here (before shown_22 1 (step 1 1 1)) (take 1 temp_there) refl refl refl refl (only-added (Added 0 temp ∷ []) 0 refl)) refl refl) (temp, (0, refl), (0, refl)) k channel ask meant other) tt tt
sub-another-value-rest part.Caused ne = caused-each shown_22 opened temp_there refl refl ((tt, (step 0 1 1, refl, omega arith)), (((0, adding 0 9, step 1 1 1, (0, 0, refl, refl, refl, (adding 0 9, step 1 1 1, 0, 0, refl, refl, open-here (before shown_22 1 (step 1 1 1)) (take 1 temp_there) (created-here (before shown_22 1 (step 1 1 1)) (take 1 temp_there) refl refl refl refl (only-added (Added 0 temp ∷ []) 0 refl)) refl refl), λ j t at place cause. each-at (λ (i : ℕ) (u : Told). u.place ≡ 1 → u.cause ≡ Reply → ⊥) (shown_22).down ((λ p e. omega (arith, p)), ((λ p e. cc), tt)) j t at place cause)), (step 1 1 1, refl, omega arith)), tt))
sub-another-value-rest part.Own ne = taken-each shown_22 opened temp_there refl refl ((created-own shown_22 0 (takes-cid shown_22 0 0 creating refl refl refl (omega arith) refl)), ((λ id s. subst (λ (e : Id). TakesOwn shown_22 1 1 e) (sym (of-update ((updated 0 22).message) id refl (heads ((updated 0 22).message) id (λ e. omega (arith, e)) s))) (1, 0, adding 0 9, adding 0 9, (adding 0 9, refl, (refl, refl), omega arith, λ l r after early at gives. two-only creating (adding 0 9) l r after at), omega arith, refl, refl, refl, refl)), tt))
sub-another-value-rest part.Answered ne = answered-each shown_22 opened temp_there refl refl ((answered-by shown_22 temp_there 0 (step 0 1 1) creating (created_told.message ∷ []) [] refl (refl, tt) tt refl ((λ p e. omega arith), ((λ p e. absurd (omega (arith, p))), tt)) ((λ l. absurd (omega (arith, l))), ((λ l. omega arith), tt))), ((answered-by shown_22 temp_there 1 (step 1 1 1) (adding 0 9) [] [] refl tt tt refl ((λ p e. absurd (omega (arith, p))), ((λ p e. absurd cc), tt)) ((λ l. absurd (omega (arith, l))), ((λ l. absurd (omega (arith, l))), tt))), tt))
sub-another-value-rest part.Rising ne = holds AnyDue part.Rising shown_22 opened temp_there refl refl (accepted-is shown_22 temp_there refl refl added-in (λ k r s h. FieldOf (λ (p : Follows AnyDue Shows Means shown_22 temp_there k r s (matching temp_there h.logged r (mask_in s.message))). p.rising)) (λ i j a b lt p q. absurd (let u : i ≡ 1 = marked (λ k d. k ≡ 1) shown_22 ((λ b e. absurd (let f = ap (λ (z : ℕ × Cause). z.0) e in omega (arith, f))), ((λ b e. refl), tt)) i a p in let v : j ≡ 1 = marked (λ k d. k ≡ 1) shown_22 ((λ b e. absurd (let f = ap (λ (z : ℕ × Cause). z.0) e in omega (arith, f))), ((λ b e. refl), tt)) j b q in omega (arith, u, v, lt)))) tt tt
sub-another-value-rest part.Matches ne = holds AnyDue part.Matches shown_22 opened temp_there refl refl (accepted-is shown_22 temp_there refl refl added-in (λ k r s h. FieldOf (λ (p : Follows AnyDue Shows Means shown_22 temp_there k r s (matching temp_there h.logged r (mask_in s.message))). p.matches)) (λ a h. marked (λ k d. d < 1) shown_22 ((λ b e. absurd (let f = ap (λ (z : ℕ × Cause). z.0) e in omega (arith, f))), ((λ b e. (let f = ap (λ (z : ℕ × Cause). item z.1) e in omega (arith, f))), tt)) h.0 a h.1)) tt tt
sub-another-value-rest part.Newest ne = holds AnyDue part.Newest shown_22 opened temp_there refl refl (accepted-is shown_22 temp_there refl refl added-in (λ k r s h. FieldOf (λ (p : Follows AnyDue Shows Means shown_22 temp_there k r s (matching temp_there h.logged r (mask_in s.message))). p.newest)) (λ lasts. (0, (1, refl), refl))) tt tt
sub-another-value-rest p ne = quiet AnyDue p shown_22 opened temp_there refl refl refl refl refl

pub sub-another-value : BreaksOnly part.ShowsPost (world (shown_22 ∷ []) opened temp_there)
sub-another-value = (sub-another-value-rest, λ h. (let s = its-part part.ShowsPost shown_22 opened temp_there refl refl h.0 1 0 (adding 0 9) (step 1 1 1) (0, 0, refl, refl, refl, (adding 0 9, step 1 1 1, 0, 0, refl, refl, open-here (before shown_22 1 (step 1 1 1)) (take 1 temp_there) (created-here (before shown_22 1 (step 1 1 1)) (take 1 temp_there) refl refl refl refl (only-added (Added 0 temp ∷ []) 0 refl)) refl refl), λ j t at place cause. each-at (λ (i : ℕ) (u : Told). u.place ≡ 1 → u.cause ≡ Reply → ⊥) (shown_22).down ((λ p e. omega (arith, p)), ((λ p e. cc), tt)) j t at place cause) 1 0 (updated 0 22) refl refl refl in not-22 (subst (λ (v : Stored). Shows (adding 0 9).message v (updated 0 22).message) (one-at (long 21) 0 s.0 s.1).1 s.2)))

sub-lasts : Lasts unsent temp_there 1 0 (adding 0 9)
sub-lasts = (refl, only-added temp_there 0 refl, λ l m later early at ends. two-only creating (adding 0 9) l m later at)

sub-lost-rest : (p : Part) → (p ≡ part.Newest → ⊥) → Holds AnyDue p (world (unsent ∷ []) opened temp_there)
sub-lost-rest part.Newest ne = absurd (ne refl)
sub-lost-rest part.Acts ne = holds AnyDue part.Acts unsent opened temp_there refl refl (λ k channel ask early meant other. acts-by unsent (adding 0 9) opened temp_there refl refl (adding 0 9, step 1 1 1, 0, 0, refl, refl, open-here (before unsent 1 (step 1 1 1)) (take 1 temp_there) (created-here (before unsent 1 (step 1 1 1)) (take 1 temp_there) refl refl refl refl (only-added (Added 0 temp ∷ []) 0 refl)) refl refl) (temp, (0, refl), (0, refl)) k channel ask meant other) tt tt
sub-lost-rest part.Caused ne = caused-each unsent opened temp_there refl refl ((tt, (step 0 1 1, refl, omega arith)), tt)
sub-lost-rest part.Own ne = taken-each unsent opened temp_there refl refl ((created-own unsent 0 (takes-cid unsent 0 0 creating refl refl refl (omega arith) refl)), tt)
sub-lost-rest part.Answered ne = answered-each unsent opened temp_there refl refl ((answered-by unsent temp_there 0 (step 0 1 1) creating (created_told.message ∷ []) [] refl (refl, tt) tt refl ((λ p e. omega arith), tt) ((λ l. absurd (omega (arith, l))), ((λ l. omega arith), tt))), ((answered-by unsent temp_there 1 (step 1 1 1) (adding 0 9) [] [] refl tt tt refl ((λ p e. absurd (omega (arith, p))), tt) ((λ l. absurd (omega (arith, l))), ((λ l. absurd (omega (arith, l))), tt))), tt))
sub-lost-rest part.Rising ne = holds AnyDue part.Rising unsent opened temp_there refl refl (accepted-is unsent temp_there refl refl added-in (λ k r s h. FieldOf (λ (p : Follows AnyDue Shows Means unsent temp_there k r s (matching temp_there h.logged r (mask_in s.message))). p.rising)) (λ i j a b lt p q. absurd (let u : i ≡ 1 = marked (λ k d. k ≡ 1) unsent ((λ b e. absurd (let f = ap (λ (z : ℕ × Cause). z.0) e in omega (arith, f))), tt) i a p in let v : j ≡ 1 = marked (λ k d. k ≡ 1) unsent ((λ b e. absurd (let f = ap (λ (z : ℕ × Cause). z.0) e in omega (arith, f))), tt) j b q in omega (arith, u, v, lt)))) tt tt
sub-lost-rest part.Matches ne = holds AnyDue part.Matches unsent opened temp_there refl refl (accepted-is unsent temp_there refl refl added-in (λ k r s h. FieldOf (λ (p : Follows AnyDue Shows Means unsent temp_there k r s (matching temp_there h.logged r (mask_in s.message))). p.matches)) (λ a h. marked (λ k d. d < 1) unsent ((λ b e. absurd (let f = ap (λ (z : ℕ × Cause). z.0) e in omega (arith, f))), tt) h.0 a h.1)) tt tt
sub-lost-rest part.ShowsPost ne = holds AnyDue part.ShowsPost unsent opened temp_there refl refl (accepted-is unsent temp_there refl refl added-in (λ k r s h. FieldOf (λ (p : Follows AnyDue Shows Means unsent temp_there k r s (matching temp_there h.logged r (mask_in s.message))). p.shows)) (λ j a t at place cause. each-at (λ (i : ℕ) (u : Told). u.place ≡ 1 → u.cause ≡ Update a → (v : Stored) × At (matching temp_there 1 0 (mask_in (adding 0 9).message)) a v × Shows (adding 0 9).message v u.message) (unsent).down ((λ p e. absurd (omega (arith, p))), tt) j t at place cause)) tt tt
sub-lost-rest p ne = quiet AnyDue p unsent opened temp_there refl refl refl refl refl

pub sub-lost : BreaksOnly part.Newest (world (unsent ∷ []) opened temp_there)
sub-lost = (sub-lost-rest, λ h. (let n = its-part part.Newest unsent opened temp_there refl refl h.0 1 0 (adding 0 9) (step 1 1 1) (0, 0, refl, refl, refl, (adding 0 9, step 1 1 1, 0, 0, refl, refl, open-here (before unsent 1 (step 1 1 1)) (take 1 temp_there) (created-here (before unsent 1 (step 1 1 1)) (take 1 temp_there) refl refl refl refl (only-added (Added 0 temp ∷ []) 0 refl)) refl refl), λ j t at place cause. each-at (λ (i : ℕ) (u : Told). u.place ≡ 1 → u.cause ≡ Reply → ⊥) (unsent).down ((λ p e. omega (arith, p)), tt) j t at place cause) sub-lasts in each-at (λ (k : ℕ) (z : ℕ × Cause). z ≡ (1, Update n.0) → ⊥) (updates unsent) ((λ e. (let f = ap (λ (z : ℕ × Cause). z.0) e in omega (arith, f))), tt) n.1.0 _ n.1.1 refl))

-- no update is sent, and none waits
not-updated : (k a i : ℕ) → At (updates unsent) i (k, Update a) → ⊥
not-updated k a i at = each-at (λ (m : ℕ) (z : ℕ × Cause). z ≡ (k, Update a) → ⊥) (updates unsent) ((λ e. (let f : Reply ≡ Update a = ap (λ (z : ℕ × Cause). z.1) e in cc)), tt) i _ at refl

sub-removed-each : (p : Part) → Holds AnyDue p (world (unsent ∷ []) opened temp_removed)
sub-removed-each part.Acts = holds AnyDue part.Acts unsent opened temp_removed refl refl (λ k channel ask early meant other. acts-by unsent (adding 0 9) opened temp_removed refl refl (adding 0 9, step 1 1 1, 0, 0, refl, refl, open-here (before unsent 1 (step 1 1 1)) (take 1 temp_removed) (created-here (before unsent 1 (step 1 1 1)) (take 1 temp_removed) refl refl refl refl (only-added (Added 0 temp ∷ []) 0 refl)) refl refl) (temp, (0, refl), (0, refl)) k channel ask meant other) tt tt
sub-removed-each part.Refused = holds AnyDue part.Refused unsent opened temp_removed refl refl (λ k j r m s h here at uses acted handled gone. absurd (each-at (λ (i : ℕ) (g : Step). In (take g.logged temp_removed) (Removed r) → ⊥) (unsent).handled (only-added (Added 0 temp ∷ []) r refl, (only-added (Added 0 temp ∷ []) r refl, tt)) k h handled gone)) tt tt
sub-removed-each part.WasThere = holds AnyDue part.WasThere unsent opened temp_removed refl refl (was-there [] refl) tt tt
sub-removed-each part.Caused = caused-each unsent opened temp_removed refl refl ((tt, (step 0 1 1, refl, omega arith)), tt)
sub-removed-each part.Own = taken-each unsent opened temp_removed refl refl ((created-own unsent 0 (takes-cid unsent 0 0 creating refl refl refl (omega arith) refl)), tt)
sub-removed-each part.Answered = answered-each unsent opened temp_removed refl refl ((answered-by unsent temp_removed 0 (step 0 1 1) creating (created_told.message ∷ []) [] refl (refl, tt) tt refl ((λ p e. omega arith), tt) ((λ l. absurd (omega (arith, l))), ((λ l. omega arith), tt))), ((answered-by unsent temp_removed 1 (step 1 1 1) (adding 0 9) [] [] refl tt tt refl ((λ p e. absurd (omega (arith, p))), tt) ((λ l. absurd (omega (arith, l))), ((λ l. absurd (omega (arith, l))), tt))), tt))
sub-removed-each part.Rising = holds AnyDue part.Rising unsent opened temp_removed refl refl (λ k r s h b i j a d lt p q. absurd (not-updated k a i p)) tt tt
sub-removed-each part.Matches = holds AnyDue part.Matches unsent opened temp_removed refl refl (λ k r s h b a g. absurd (not-updated k a g.0 g.1)) tt tt
sub-removed-each part.ShowsPost = holds AnyDue part.ShowsPost unsent opened temp_removed refl refl (λ k r s h b j a t at place cause. absurd (each-at (λ (i : ℕ) (u : Told). u.cause ≡ Update a → ⊥) (unsent).down ((λ e. cc), tt) j t at cause)) tt tt
sub-removed-each part.Newest = holds AnyDue part.Newest unsent opened temp_removed refl refl (λ k r s h b lasts. absurd (lasts.1 (1, subst (λ (n : ℕ). At temp_removed 1 (Removed n)) (acted-record unsent temp_removed k r removed-in b.5) refl))) tt tt
sub-removed-each p = quiet AnyDue p unsent opened temp_removed refl refl refl refl refl

pub sub-removed : IsSafeNow (world (unsent ∷ []) opened temp_removed)
sub-removed = whole AnyDue _ sub-removed-each

-- ---- what the subscriber is told

-- what is said of a line that tells an update
abbrev SeenAt : World → List Line → ℕ → Line → Type 0
SeenAt w x i (Updated intent o) = (by : Reads AnyDue Shows Means w 0 x i intent o) × (a : ℕ) × (by.t.cause ≡ Update a)
SeenAt w x i l = Unit {0}

seen-each : (c : Circuit) (x : List Line) (y : List Entry) → c.client ≡ 0 → c.server ≡ 0 → Each (SeenAt (world (c ∷ []) x y) x) x → Holds AnyDue part.SeesOwn (world (c ∷ []) x y)
seen-each c x y e f all = holds AnyDue part.SeesOwn c x y e f tt (λ i intent o at. each-at (SeenAt (world (c ∷ []) x y) x) x all i _ at) tt

three-only : (a b d : Step) (l : ℕ) (r : Step) → 2 < l → At (a ∷ b ∷ d ∷ []) l r → ⊥
three-only a b d l r after at = each-at (λ (i : ℕ) (z : Step). 2 < i → ⊥) (a ∷ b ∷ d ∷ []) ((λ t. omega (arith, t)), ((λ t. omega (arith, t)), ((λ t. omega (arith, t)), tt))) l r at after

seen : (o : Outcome) → Means (updated 0 21).message o → SeenAt (world (seen_once ∷ []) (Opened 0 temp_name ∷ saw o ∷ []) temp_there) (Opened 0 temp_name ∷ saw o ∷ []) 1 (saw o)
seen o means = (
  record {
    n = 0;
    c = subscriber (updated 0 21 ∷ []) (step 1 1 1 ∷ step 2 1 2 ∷ []);
    on = (refl, refl);
    j = 1;
    t = updated 0 21;
    h = step 2 1 2;
    read = (refl, refl, refl, omega arith);
    own = (adding 0 9, refl, refl);
    held = ((λ g. none is_called opened refl g.0 _ g.1 refl), (λ g. none is_called opened refl g.0 _ g.1 refl));
    means = means;
  },
  0,
  refl,
)

-- Before the only update there is none.
first-update : (heard : List Step) → length heard ≤ 2 → (j k a : ℕ) (t : Told) (h : Step) → j < k → At (created_told ∷ updated 0 21 ∷ []) j t → At heard k h → t.cause ≡ Update a → ⊥
first-update heard few j k a t h lt at ht cause =
    elim (two-at created_told (updated 0 21) j t at) [
      | inl e ↦ (let f : Reply ≡ Update a = sym (ap (λ (u : Told). u.cause) e.1) ∙ cause in cc)
      | inr e ↦ (let f = e.0 in let g = At-within heard k h ht in omega (arith, f, g, lt, few))
    ]

seen-safe-each : (o : Outcome) → Means (updated 0 21).message o → (p : Part) → Holds AnyDue p (world (seen_once ∷ []) (Opened 0 temp_name ∷ saw o ∷ []) temp_there)
seen-safe-each o means part.Acts = holds AnyDue part.Acts seen_once (Opened 0 temp_name ∷ saw o ∷ []) temp_there refl refl (λ k channel ask early meant other. acts-by seen_once (adding 0 9) (Opened 0 temp_name ∷ saw o ∷ []) temp_there refl refl (adding 0 9, step 1 1 1, 0, 0, refl, refl, open-here (before seen_once 1 (step 1 1 1)) (take 1 temp_there) (created-here (before seen_once 1 (step 1 1 1)) (take 1 temp_there) refl refl refl refl (only-added (Added 0 temp ∷ []) 0 refl)) refl refl) (temp, (0, refl), (0, refl)) k channel ask meant other) tt tt
seen-safe-each o means part.Caused = caused-each seen_once (Opened 0 temp_name ∷ saw o ∷ []) temp_there refl refl ((tt, (step 0 1 1, refl, omega arith)), (((0, adding 0 9, step 1 1 1, (0, 0, refl, refl, refl, (adding 0 9, step 1 1 1, 0, 0, refl, refl, open-here (before seen_once 1 (step 1 1 1)) (take 1 temp_there) (created-here (before seen_once 1 (step 1 1 1)) (take 1 temp_there) refl refl refl refl (only-added (Added 0 temp ∷ []) 0 refl)) refl refl), λ j t at place cause. each-at (λ (i : ℕ) (u : Told). u.place ≡ 1 → u.cause ≡ Reply → ⊥) (seen_once).down ((λ p e. omega (arith, p)), ((λ p e. cc), tt)) j t at place cause)), (step 1 1 1, refl, omega arith)), tt))
seen-safe-each o means part.Own = taken-each seen_once (Opened 0 temp_name ∷ saw o ∷ []) temp_there refl refl ((created-own seen_once 0 (takes-cid seen_once 0 0 creating refl refl refl (omega arith) refl)), ((λ id s. subst (λ (e : Id). TakesOwn seen_once 1 1 e) (sym (of-update ((updated 0 21).message) id refl (heads ((updated 0 21).message) id (λ e. omega (arith, e)) s))) (1, 0, adding 0 9, adding 0 9, (adding 0 9, refl, (refl, refl), omega arith, λ l r after early at gives. two-only creating (adding 0 9) l r after at), omega arith, refl, refl, refl, refl)), tt))
seen-safe-each o means part.Answered = answered-each seen_once (Opened 0 temp_name ∷ saw o ∷ []) temp_there refl refl ((answered-by seen_once temp_there 0 (step 0 1 1) creating (created_told.message ∷ []) [] refl (refl, tt) tt refl ((λ p e. omega arith), ((λ p e. absurd (omega (arith, p))), tt)) ((λ l. absurd (omega (arith, l))), ((λ l. omega arith), tt))), ((answered-by seen_once temp_there 1 (step 1 1 1) (adding 0 9) [] [] refl tt tt refl ((λ p e. absurd (omega (arith, p))), ((λ p e. absurd cc), tt)) ((λ l. absurd (omega (arith, l))), ((λ l. absurd (omega (arith, l))), tt))), tt))
seen-safe-each o means part.Rising = holds AnyDue part.Rising seen_once (Opened 0 temp_name ∷ saw o ∷ []) temp_there refl refl (accepted-is seen_once temp_there refl refl added-in (λ k r s h. FieldOf (λ (p : Follows AnyDue Shows Means seen_once temp_there k r s (matching temp_there h.logged r (mask_in s.message))). p.rising)) (λ i j a b lt p q. (let u : i ≡ suc a = marked (λ k d. k ≡ suc d) seen_once ((λ b e. absurd (let f = ap (λ (z : ℕ × Cause). z.0) e in omega (arith, f))), ((λ b e. (let f = ap (λ (z : ℕ × Cause). item z.1) e in omega (arith, f))), tt)) i a p in let v : j ≡ suc b = marked (λ k d. k ≡ suc d) seen_once ((λ b e. absurd (let f = ap (λ (z : ℕ × Cause). z.0) e in omega (arith, f))), ((λ b e. (let f = ap (λ (z : ℕ × Cause). item z.1) e in omega (arith, f))), tt)) j b q in omega (arith, u, v, lt)))) tt tt
seen-safe-each o means part.Matches = holds AnyDue part.Matches seen_once (Opened 0 temp_name ∷ saw o ∷ []) temp_there refl refl (accepted-is seen_once temp_there refl refl added-in (λ k r s h. FieldOf (λ (p : Follows AnyDue Shows Means seen_once temp_there k r s (matching temp_there h.logged r (mask_in s.message))). p.matches)) (λ a h. marked (λ k d. d < 1) seen_once ((λ b e. absurd (let f = ap (λ (z : ℕ × Cause). z.0) e in omega (arith, f))), ((λ b e. (let f = ap (λ (z : ℕ × Cause). item z.1) e in omega (arith, f))), tt)) h.0 a h.1)) tt tt
seen-safe-each o means part.ShowsPost = holds AnyDue part.ShowsPost seen_once (Opened 0 temp_name ∷ saw o ∷ []) temp_there refl refl (accepted-is seen_once temp_there refl refl added-in (λ k r s h. FieldOf (λ (p : Follows AnyDue Shows Means seen_once temp_there k r s (matching temp_there h.logged r (mask_in s.message))). p.shows)) (λ j a t at place cause. each-at (λ (i : ℕ) (u : Told). u.place ≡ 1 → u.cause ≡ Update a → (v : Stored) × At (matching temp_there 1 0 (mask_in (adding 0 9).message)) a v × Shows (adding 0 9).message v u.message) (seen_once).down ((λ p e. absurd (omega (arith, p))), ((λ p e. (long 21, subst (λ (n : ℕ). At (matching temp_there 1 0 (mask_in (adding 0 9).message)) n (long 21)) (ap item e) refl, shows-21)), tt)) j t at place cause)) tt tt
seen-safe-each o means part.Newest = holds AnyDue part.Newest seen_once (Opened 0 temp_name ∷ saw o ∷ []) temp_there refl refl (accepted-is seen_once temp_there refl refl added-in (λ k r s h. FieldOf (λ (p : Follows AnyDue Shows Means seen_once temp_there k r s (matching temp_there h.logged r (mask_in s.message))). p.newest)) (λ lasts. (0, (1, refl), refl))) tt tt
seen-safe-each o means part.SeesOwn = seen-each seen_once (Opened 0 temp_name ∷ saw o ∷ []) temp_there refl refl (tt, (seen o means, tt))
seen-safe-each o means part.SeesInOrder = holds AnyDue part.SeesInOrder seen_once (Opened 0 temp_name ∷ saw o ∷ []) temp_there refl refl tt (λ i intent q by j a t at lt dt place cause. absurd (let z = one-at seen_once by.n by.c by.on.0 in first-update (seen_once).heard (omega arith) j by.j a t by.h lt (subst (λ (d : Circuit). At d.down j t) z.1 dt) (subst (λ (d : Circuit). At d.heard by.j by.h) z.1 by.read.1) cause)) tt
seen-safe-each o means p = quiet AnyDue p seen_once (Opened 0 temp_name ∷ saw o ∷ []) temp_there refl refl refl refl refl

pub seen-safe : (o : Outcome) → Means (updated 0 21).message o → IsSafeNow (world (seen_once ∷ []) (Opened 0 temp_name ∷ saw o ∷ []) temp_there)
seen-safe o means = whole AnyDue _ (seen-safe-each o means)

not-seen : (o : Outcome) → SeenAt (world (unseen ∷ []) (Opened 0 temp_name ∷ saw o ∷ []) temp_there) (Opened 0 temp_name ∷ saw o ∷ []) 1 (saw o) → ⊥
not-seen o s =
    let by = s.0 in
    let z = one-at unseen by.n by.c by.on.0 in
    let k = (one-at (step 1 1 1) by.j by.h (subst (λ (d : Circuit). At d.heard by.j by.h) z.1 by.read.1)).0 in
    let t : created_told ≡ by.t = some_is created_told by.t (subst (λ (n : ℕ). At (created_told ∷ updated 0 21 ∷ []) n by.t) k (subst (λ (d : Circuit). At d.down by.j by.t) z.1 by.read.0)) in
    let f : Reply ≡ Update s.1 = ap (λ (u : Told). u.cause) t ∙ s.2 in
    cc

seen-unread-rest : (o : Outcome) → (p : Part) → (p ≡ part.SeesOwn → ⊥) → Holds AnyDue p (world (unseen ∷ []) (Opened 0 temp_name ∷ saw o ∷ []) temp_there)
seen-unread-rest o part.SeesOwn ne = absurd (ne refl)
seen-unread-rest o part.Acts ne = holds AnyDue part.Acts unseen (Opened 0 temp_name ∷ saw o ∷ []) temp_there refl refl (λ k channel ask early meant other. acts-by unseen (adding 0 9) (Opened 0 temp_name ∷ saw o ∷ []) temp_there refl refl (adding 0 9, step 1 1 1, 0, 0, refl, refl, open-here (before unseen 1 (step 1 1 1)) (take 1 temp_there) (created-here (before unseen 1 (step 1 1 1)) (take 1 temp_there) refl refl refl refl (only-added (Added 0 temp ∷ []) 0 refl)) refl refl) (temp, (0, refl), (0, refl)) k channel ask meant other) tt tt
seen-unread-rest o part.Caused ne = caused-each unseen (Opened 0 temp_name ∷ saw o ∷ []) temp_there refl refl ((tt, (step 0 1 1, refl, omega arith)), (((0, adding 0 9, step 1 1 1, (0, 0, refl, refl, refl, (adding 0 9, step 1 1 1, 0, 0, refl, refl, open-here (before unseen 1 (step 1 1 1)) (take 1 temp_there) (created-here (before unseen 1 (step 1 1 1)) (take 1 temp_there) refl refl refl refl (only-added (Added 0 temp ∷ []) 0 refl)) refl refl), λ j t at place cause. each-at (λ (i : ℕ) (u : Told). u.place ≡ 1 → u.cause ≡ Reply → ⊥) (unseen).down ((λ p e. omega (arith, p)), ((λ p e. cc), tt)) j t at place cause)), (step 1 1 1, refl, omega arith)), tt))
seen-unread-rest o part.Own ne = taken-each unseen (Opened 0 temp_name ∷ saw o ∷ []) temp_there refl refl ((created-own unseen 0 (takes-cid unseen 0 0 creating refl refl refl (omega arith) refl)), ((λ id s. subst (λ (e : Id). TakesOwn unseen 1 1 e) (sym (of-update ((updated 0 21).message) id refl (heads ((updated 0 21).message) id (λ e. omega (arith, e)) s))) (1, 0, adding 0 9, adding 0 9, (adding 0 9, refl, (refl, refl), omega arith, λ l r after early at gives. two-only creating (adding 0 9) l r after at), omega arith, refl, refl, refl, refl)), tt))
seen-unread-rest o part.Answered ne = answered-each unseen (Opened 0 temp_name ∷ saw o ∷ []) temp_there refl refl ((answered-by unseen temp_there 0 (step 0 1 1) creating (created_told.message ∷ []) [] refl (refl, tt) tt refl ((λ p e. omega arith), ((λ p e. absurd (omega (arith, p))), tt)) ((λ l. absurd (omega (arith, l))), ((λ l. omega arith), tt))), ((answered-by unseen temp_there 1 (step 1 1 1) (adding 0 9) [] [] refl tt tt refl ((λ p e. absurd (omega (arith, p))), ((λ p e. absurd cc), tt)) ((λ l. absurd (omega (arith, l))), ((λ l. absurd (omega (arith, l))), tt))), tt))
seen-unread-rest o part.Rising ne = holds AnyDue part.Rising unseen (Opened 0 temp_name ∷ saw o ∷ []) temp_there refl refl (accepted-is unseen temp_there refl refl added-in (λ k r s h. FieldOf (λ (p : Follows AnyDue Shows Means unseen temp_there k r s (matching temp_there h.logged r (mask_in s.message))). p.rising)) (λ i j a b lt p q. (let u : i ≡ suc a = marked (λ k d. k ≡ suc d) unseen ((λ b e. absurd (let f = ap (λ (z : ℕ × Cause). z.0) e in omega (arith, f))), ((λ b e. (let f = ap (λ (z : ℕ × Cause). item z.1) e in omega (arith, f))), tt)) i a p in let v : j ≡ suc b = marked (λ k d. k ≡ suc d) unseen ((λ b e. absurd (let f = ap (λ (z : ℕ × Cause). z.0) e in omega (arith, f))), ((λ b e. (let f = ap (λ (z : ℕ × Cause). item z.1) e in omega (arith, f))), tt)) j b q in omega (arith, u, v, lt)))) tt tt
seen-unread-rest o part.Matches ne = holds AnyDue part.Matches unseen (Opened 0 temp_name ∷ saw o ∷ []) temp_there refl refl (accepted-is unseen temp_there refl refl added-in (λ k r s h. FieldOf (λ (p : Follows AnyDue Shows Means unseen temp_there k r s (matching temp_there h.logged r (mask_in s.message))). p.matches)) (λ a h. marked (λ k d. d < 1) unseen ((λ b e. absurd (let f = ap (λ (z : ℕ × Cause). z.0) e in omega (arith, f))), ((λ b e. (let f = ap (λ (z : ℕ × Cause). item z.1) e in omega (arith, f))), tt)) h.0 a h.1)) tt tt
seen-unread-rest o part.ShowsPost ne = holds AnyDue part.ShowsPost unseen (Opened 0 temp_name ∷ saw o ∷ []) temp_there refl refl (accepted-is unseen temp_there refl refl added-in (λ k r s h. FieldOf (λ (p : Follows AnyDue Shows Means unseen temp_there k r s (matching temp_there h.logged r (mask_in s.message))). p.shows)) (λ j a t at place cause. each-at (λ (i : ℕ) (u : Told). u.place ≡ 1 → u.cause ≡ Update a → (v : Stored) × At (matching temp_there 1 0 (mask_in (adding 0 9).message)) a v × Shows (adding 0 9).message v u.message) (unseen).down ((λ p e. absurd (omega (arith, p))), ((λ p e. (long 21, subst (λ (n : ℕ). At (matching temp_there 1 0 (mask_in (adding 0 9).message)) n (long 21)) (ap item e) refl, shows-21)), tt)) j t at place cause)) tt tt
seen-unread-rest o part.Newest ne = holds AnyDue part.Newest unseen (Opened 0 temp_name ∷ saw o ∷ []) temp_there refl refl (accepted-is unseen temp_there refl refl added-in (λ k r s h. FieldOf (λ (p : Follows AnyDue Shows Means unseen temp_there k r s (matching temp_there h.logged r (mask_in s.message))). p.newest)) (λ lasts. (0, (1, refl), refl))) tt tt
seen-unread-rest o part.SeesInOrder ne = holds AnyDue part.SeesInOrder unseen (Opened 0 temp_name ∷ saw o ∷ []) temp_there refl refl tt (λ i intent q by j a t at lt dt place cause. absurd (let z = one-at unseen by.n by.c by.on.0 in first-update (unseen).heard (omega arith) j by.j a t by.h lt (subst (λ (d : Circuit). At d.down j t) z.1 dt) (subst (λ (d : Circuit). At d.heard by.j by.h) z.1 by.read.1) cause)) tt
seen-unread-rest o p ne = quiet AnyDue p unseen (Opened 0 temp_name ∷ saw o ∷ []) temp_there refl refl refl refl refl

pub seen-unread : (o : Outcome) → BreaksOnly part.SeesOwn (world (unseen ∷ []) (Opened 0 temp_name ∷ saw o ∷ []) temp_there)
seen-unread o = (seen-unread-rest o, λ h. not-seen o (h.1 0 (Opened 0 temp_name ∷ saw o ∷ []) refl 1 (On 0 (Subscribe 0)) o refl))

abbrev first-read : (o p : Outcome) → Means (updated 0 21).message o → Means (updated 1 22).message p → Reads AnyDue Shows Means (world (both_updated ∷ []) (Opened 0 temp_name ∷ saw o ∷ saw p ∷ []) posted) 0 (Opened 0 temp_name ∷ saw o ∷ saw p ∷ []) 1 (On 0 (Subscribe 0)) o
first-read o p mo mp = record {
  n = 0;
  c = subscriber (updated 0 21 ∷ updated 1 22 ∷ []) (step 1 1 1 ∷ step 2 1 2 ∷ step 2 2 3 ∷ []);
  on = (refl, refl);
  j = 1;
  t = updated 0 21;
  h = step 2 1 2;
  read = (refl, refl, refl, omega arith);
  own = (adding 0 9, refl, refl);
  held = ((λ g. none is_called (take 1 (Opened 0 temp_name ∷ saw o ∷ saw p ∷ [])) refl g.0 _ g.1 refl), (λ g. none is_called (take 1 (Opened 0 temp_name ∷ saw o ∷ saw p ∷ [])) refl g.0 _ g.1 refl));
  means = mo;
}

abbrev second-read : (o p : Outcome) → Means (updated 0 21).message o → Means (updated 1 22).message p → Reads AnyDue Shows Means (world (both_updated ∷ []) (Opened 0 temp_name ∷ saw o ∷ saw p ∷ []) posted) 0 (Opened 0 temp_name ∷ saw o ∷ saw p ∷ []) 2 (On 0 (Subscribe 0)) p
second-read o p mo mp = record {
  n = 0;
  c = subscriber (updated 0 21 ∷ updated 1 22 ∷ []) (step 1 1 1 ∷ step 2 1 2 ∷ step 2 2 3 ∷ []);
  on = (refl, refl);
  j = 2;
  t = updated 1 22;
  h = step 2 2 3;
  read = (refl, refl, refl, omega arith);
  own = (adding 0 9, refl, refl);
  held = ((λ g. none is_called (take 2 (Opened 0 temp_name ∷ saw o ∷ saw p ∷ [])) refl g.0 _ g.1 refl), (λ g. none is_called (take 2 (Opened 0 temp_name ∷ saw o ∷ saw p ∷ [])) refl g.0 _ g.1 refl));
  means = mp;
}

abbrev passed-read : (p : Outcome) → Means (updated 1 22).message p → Reads AnyDue Shows Means (world (both_updated ∷ []) (Opened 0 temp_name ∷ GaveUp 0 None ∷ saw p ∷ []) posted) 0 (Opened 0 temp_name ∷ GaveUp 0 None ∷ saw p ∷ []) 2 (On 0 (Subscribe 0)) p
passed-read p mp = record {
  n = 0;
  c = subscriber (updated 0 21 ∷ updated 1 22 ∷ []) (step 1 1 1 ∷ step 2 1 2 ∷ step 2 2 3 ∷ []);
  on = (refl, refl);
  j = 2;
  t = updated 1 22;
  h = step 2 2 3;
  read = (refl, refl, refl, omega arith);
  own = (adding 0 9, refl, refl);
  held = ((λ g. none is_called (take 2 (Opened 0 temp_name ∷ GaveUp 0 None ∷ saw p ∷ [])) refl g.0 _ g.1 refl), (λ g. none is_called (take 2 (Opened 0 temp_name ∷ GaveUp 0 None ∷ saw p ∷ [])) refl g.0 _ g.1 refl));
  means = mp;
}

abbrev seen-intent : Line → Intent
seen-intent (Updated i o) = i
seen-intent l = On 0 Create

-- Of the second update, the first is told before.
in-order : (o p : Outcome) → Means (updated 0 21).message o → Means (updated 1 22).message p → (i : ℕ) (intent : Intent) (q : Outcome) (by : Reads AnyDue Shows Means (world (both_updated ∷ []) (Opened 0 temp_name ∷ saw o ∷ saw p ∷ []) posted) 0 (Opened 0 temp_name ∷ saw o ∷ saw p ∷ []) i intent q) (j a : ℕ) (t : Told)
    → At (Opened 0 temp_name ∷ saw o ∷ saw p ∷ []) i (Updated intent q) → j < by.j → At by.c.down j t → t.cause ≡ Update a
    → (l : ℕ) × (r : Outcome) × (see : Reads AnyDue Shows Means (world (both_updated ∷ []) (Opened 0 temp_name ∷ saw o ∷ saw p ∷ []) posted) 0 (Opened 0 temp_name ∷ saw o ∷ saw p ∷ []) l intent r) × At (Opened 0 temp_name ∷ saw o ∷ saw p ∷ []) l (Updated intent r) × (l < i) × (see.n ≡ by.n) × (see.j ≡ j)
in-order o p mo mp i intent q by j a t at lt dt cause =
    let z = one-at both_updated by.n by.c by.on.0 in
    let dd : At (created_told ∷ updated 0 21 ∷ updated 1 22 ∷ []) j t = subst (λ (d : Circuit). At d.down j t) z.1 dt in
    let hh : At (step 1 1 1 ∷ step 2 1 2 ∷ step 2 2 3 ∷ []) by.j by.h = subst (λ (d : Circuit). At d.heard by.j by.h) z.1 by.read.1 in
    let two : (j ≡ 1) ⊎ (2 ≤ j) = each-at (λ (k : ℕ) (u : Told). u.cause ≡ Update a → (k ≡ 1) ⊎ (2 ≤ k)) (created_told ∷ updated 0 21 ∷ updated 1 22 ∷ []) ((λ e. absurd cc), ((λ e. inl refl), ((λ e. inr (omega arith)), tt))) j t dd cause in
    elim two [
      | inr late ↦ absurd (let f = late in three-only (step 1 1 1) (step 2 1 2) (step 2 2 3) by.j by.h (omega (arith, f, lt)) hh)
      | inl one ↦
          let last : (1 < by.j) = omega (arith, one, lt) in
          let here : by.h ≡ step 2 2 3 = each-at (λ (k : ℕ) (g : Step). 1 < k → g ≡ step 2 2 3) (step 1 1 1 ∷ step 2 1 2 ∷ step 2 2 3 ∷ []) ((λ e. absurd (omega (arith, e))), ((λ e. absurd (omega (arith, e))), ((λ e. refl), tt))) by.j by.h hh last in
          let i2 : 2 ≡ i = ap (λ (g : Step). g.logged) (sym here) ∙ by.read.2 in
          let on : On 0 (Subscribe 0) ≡ intent = ap seen-intent (some_is (saw p) (Updated intent q) (subst (λ (n : ℕ). At (Opened 0 temp_name ∷ saw o ∷ saw p ∷ []) n (Updated intent q)) (sym i2) at)) in
          subst (λ (d : Intent). (l : ℕ) × (r : Outcome) × (see : Reads AnyDue Shows Means (world (both_updated ∷ []) (Opened 0 temp_name ∷ saw o ∷ saw p ∷ []) posted) 0 (Opened 0 temp_name ∷ saw o ∷ saw p ∷ []) l d r) × At (Opened 0 temp_name ∷ saw o ∷ saw p ∷ []) l (Updated d r) × (l < i) × (see.n ≡ by.n) × (see.j ≡ j)) on
          (1, o, first-read o p mo mp, refl, (let f = i2 in omega (arith, f)), sym z.0, sym one)
    ]

all-seen-safe-each : (o p : Outcome) → Means (updated 0 21).message o → Means (updated 1 22).message p → (rest : Part) → Holds AnyDue rest (world (both_updated ∷ []) (Opened 0 temp_name ∷ saw o ∷ saw p ∷ []) posted)
all-seen-safe-each o p mo mp part.Acts = holds AnyDue part.Acts both_updated (Opened 0 temp_name ∷ saw o ∷ saw p ∷ []) posted refl refl (λ k channel ask early meant other. acts-by both_updated (adding 0 9) (Opened 0 temp_name ∷ saw o ∷ saw p ∷ []) posted refl refl (adding 0 9, step 1 1 1, 0, 0, refl, refl, open-here (before both_updated 1 (step 1 1 1)) (take 1 posted) (created-here (before both_updated 1 (step 1 1 1)) (take 1 posted) refl refl refl refl (only-added (Added 0 temp ∷ []) 0 refl)) refl refl) (temp, (0, refl), (0, refl)) k channel ask meant other) tt tt
all-seen-safe-each o p mo mp part.Caused = caused-each both_updated (Opened 0 temp_name ∷ saw o ∷ saw p ∷ []) posted refl refl ((tt, (step 0 1 1, refl, omega arith)), (((0, adding 0 9, step 1 1 1, (0, 0, refl, refl, refl, (adding 0 9, step 1 1 1, 0, 0, refl, refl, open-here (before both_updated 1 (step 1 1 1)) (take 1 posted) (created-here (before both_updated 1 (step 1 1 1)) (take 1 posted) refl refl refl refl (only-added (Added 0 temp ∷ []) 0 refl)) refl refl), λ j t at place cause. each-at (λ (i : ℕ) (u : Told). u.place ≡ 1 → u.cause ≡ Reply → ⊥) (both_updated).down ((λ p e. omega (arith, p)), ((λ p e. cc), ((λ p e. cc), tt))) j t at place cause)), (step 1 1 1, refl, omega arith)), (((0, adding 0 9, step 1 1 1, (0, 0, refl, refl, refl, (adding 0 9, step 1 1 1, 0, 0, refl, refl, open-here (before both_updated 1 (step 1 1 1)) (take 1 posted) (created-here (before both_updated 1 (step 1 1 1)) (take 1 posted) refl refl refl refl (only-added (Added 0 temp ∷ []) 0 refl)) refl refl), λ j t at place cause. each-at (λ (i : ℕ) (u : Told). u.place ≡ 1 → u.cause ≡ Reply → ⊥) (both_updated).down ((λ p e. omega (arith, p)), ((λ p e. cc), ((λ p e. cc), tt))) j t at place cause)), (step 1 1 1, refl, omega arith)), tt)))
all-seen-safe-each o p mo mp part.Own = taken-each both_updated (Opened 0 temp_name ∷ saw o ∷ saw p ∷ []) posted refl refl ((created-own both_updated 0 (takes-cid both_updated 0 0 creating refl refl refl (omega arith) refl)), ((λ id s. subst (λ (e : Id). TakesOwn both_updated 1 1 e) (sym (of-update ((updated 0 21).message) id refl (heads ((updated 0 21).message) id (λ e. omega (arith, e)) s))) (1, 0, adding 0 9, adding 0 9, (adding 0 9, refl, (refl, refl), omega arith, λ l r after early at gives. two-only creating (adding 0 9) l r after at), omega arith, refl, refl, refl, refl)), ((λ id s. subst (λ (e : Id). TakesOwn both_updated 2 1 e) (sym (of-update ((updated 1 22).message) id refl (heads ((updated 1 22).message) id (λ e. omega (arith, e)) s))) (1, 0, adding 0 9, adding 0 9, (adding 0 9, refl, (refl, refl), omega arith, λ l r after early at gives. two-only creating (adding 0 9) l r after at), omega arith, refl, refl, refl, refl)), tt)))
all-seen-safe-each o p mo mp part.Answered = answered-each both_updated (Opened 0 temp_name ∷ saw o ∷ saw p ∷ []) posted refl refl ((answered-by both_updated posted 0 (step 0 1 1) creating (created_told.message ∷ []) [] refl (refl, tt) tt refl ((λ p e. omega arith), ((λ p e. absurd (omega (arith, p))), ((λ p e. absurd (omega (arith, p))), tt))) ((λ l. absurd (omega (arith, l))), ((λ l. omega arith), tt))), ((answered-by both_updated posted 1 (step 1 1 1) (adding 0 9) [] [] refl tt tt refl ((λ p e. absurd (omega (arith, p))), ((λ p e. absurd cc), ((λ p e. absurd cc), tt))) ((λ l. absurd (omega (arith, l))), ((λ l. absurd (omega (arith, l))), tt))), tt))
all-seen-safe-each o p mo mp part.Rising = holds AnyDue part.Rising both_updated (Opened 0 temp_name ∷ saw o ∷ saw p ∷ []) posted refl refl (accepted-is both_updated posted refl refl posted-in (λ k r s h. FieldOf (λ (p : Follows AnyDue Shows Means both_updated posted k r s (matching posted h.logged r (mask_in s.message))). p.rising)) (λ i j a b lt p q. (let u : i ≡ suc a = marked (λ k d. k ≡ suc d) both_updated ((λ b e. absurd (let f = ap (λ (z : ℕ × Cause). z.0) e in omega (arith, f))), ((λ b e. (let f = ap (λ (z : ℕ × Cause). item z.1) e in omega (arith, f))), ((λ b e. (let f = ap (λ (z : ℕ × Cause). item z.1) e in omega (arith, f))), tt))) i a p in let v : j ≡ suc b = marked (λ k d. k ≡ suc d) both_updated ((λ b e. absurd (let f = ap (λ (z : ℕ × Cause). z.0) e in omega (arith, f))), ((λ b e. (let f = ap (λ (z : ℕ × Cause). item z.1) e in omega (arith, f))), ((λ b e. (let f = ap (λ (z : ℕ × Cause). item z.1) e in omega (arith, f))), tt))) j b q in omega (arith, u, v, lt)))) tt tt
all-seen-safe-each o p mo mp part.Matches = holds AnyDue part.Matches both_updated (Opened 0 temp_name ∷ saw o ∷ saw p ∷ []) posted refl refl (accepted-is both_updated posted refl refl posted-in (λ k r s h. FieldOf (λ (p : Follows AnyDue Shows Means both_updated posted k r s (matching posted h.logged r (mask_in s.message))). p.matches)) (subst (λ (z : List Stored). FieldOf (λ (f : Follows AnyDue Shows Means both_updated posted 1 0 (adding 0 9) z). f.matches)) (sym posts-are) (λ a h. marked (λ k d. d < 2) both_updated ((λ b e. absurd (let f = ap (λ (z : ℕ × Cause). z.0) e in omega (arith, f))), ((λ b e. (let f = ap (λ (z : ℕ × Cause). item z.1) e in omega (arith, f))), ((λ b e. (let f = ap (λ (z : ℕ × Cause). item z.1) e in omega (arith, f))), tt))) h.0 a h.1))) tt tt
all-seen-safe-each o p mo mp part.ShowsPost = holds AnyDue part.ShowsPost both_updated (Opened 0 temp_name ∷ saw o ∷ saw p ∷ []) posted refl refl (accepted-is both_updated posted refl refl posted-in (λ k r s h. FieldOf (λ (p : Follows AnyDue Shows Means both_updated posted k r s (matching posted h.logged r (mask_in s.message))). p.shows)) (subst (λ (z : List Stored). FieldOf (λ (f : Follows AnyDue Shows Means both_updated posted 1 0 (adding 0 9) z). f.shows)) (sym posts-are) (λ j a t at place cause. each-at (λ (i : ℕ) (u : Told). u.place ≡ 1 → u.cause ≡ Update a → (v : Stored) × At (long 21 ∷ long 22 ∷ []) a v × Shows (adding 0 9).message v u.message) (both_updated).down ((λ p e. absurd (omega (arith, p))), ((λ p e. (long 21, subst (λ (n : ℕ). At (long 21 ∷ long 22 ∷ []) n (long 21)) (ap item e) refl, shows-21)), ((λ p e. (long 22, subst (λ (n : ℕ). At (long 21 ∷ long 22 ∷ []) n (long 22)) (ap item e) refl, shows-22)), tt))) j t at place cause))) tt tt
all-seen-safe-each o p mo mp part.Newest = holds AnyDue part.Newest both_updated (Opened 0 temp_name ∷ saw o ∷ saw p ∷ []) posted refl refl (accepted-is both_updated posted refl refl posted-in (λ k r s h. FieldOf (λ (p : Follows AnyDue Shows Means both_updated posted k r s (matching posted h.logged r (mask_in s.message))). p.newest)) (subst (λ (z : List Stored). FieldOf (λ (f : Follows AnyDue Shows Means both_updated posted 1 0 (adding 0 9) z). f.newest)) (sym posts-are) (λ lasts. (1, (2, refl), refl)))) tt tt
all-seen-safe-each o p mo mp part.SeesOwn = seen-each both_updated (Opened 0 temp_name ∷ saw o ∷ saw p ∷ []) posted refl refl (tt, ((first-read o p mo mp, 0, refl), ((second-read o p mo mp, 1, refl), tt)))
all-seen-safe-each o p mo mp part.SeesInOrder = holds AnyDue part.SeesInOrder both_updated (Opened 0 temp_name ∷ saw o ∷ saw p ∷ []) posted refl refl tt (λ i intent q by j a t at lt dt place cause. in-order o p mo mp i intent q by j a t at lt dt cause) tt
all-seen-safe-each o p mo mp rest = quiet AnyDue rest both_updated (Opened 0 temp_name ∷ saw o ∷ saw p ∷ []) posted refl refl refl refl refl

pub all-seen-safe : (o p : Outcome) → Means (updated 0 21).message o → Means (updated 1 22).message p → IsSafeNow (world (both_updated ∷ []) (Opened 0 temp_name ∷ saw o ∷ saw p ∷ []) posted)
all-seen-safe o p mo mp = whole AnyDue _ (all-seen-safe-each o p mo mp)

not-told : (p : Outcome) (l : ℕ) (r : Outcome) → l < 2 → At (Opened 0 temp_name ∷ GaveUp 0 None ∷ saw p ∷ []) l (Updated (On 0 (Subscribe 0)) r) → ⊥
not-told p l r early at = each-at (λ (k : ℕ) (z : Line). k < 2 → z ≡ Updated (On 0 (Subscribe 0)) r → ⊥) (Opened 0 temp_name ∷ GaveUp 0 None ∷ saw p ∷ []) ((λ b e. cc), ((λ b e. cc), ((λ b e. omega (arith, b)), tt))) l _ at early refl

passed-over-rest : (p : Outcome) → Means (updated 1 22).message p → (rest : Part) → (rest ≡ part.SeesInOrder → ⊥) → Holds AnyDue rest (world (both_updated ∷ []) (Opened 0 temp_name ∷ GaveUp 0 None ∷ saw p ∷ []) posted)
passed-over-rest p mp part.SeesInOrder ne = absurd (ne refl)
passed-over-rest p mp part.Acts ne = holds AnyDue part.Acts both_updated (Opened 0 temp_name ∷ GaveUp 0 None ∷ saw p ∷ []) posted refl refl (λ k channel ask early meant other. acts-by both_updated (adding 0 9) (Opened 0 temp_name ∷ GaveUp 0 None ∷ saw p ∷ []) posted refl refl (adding 0 9, step 1 1 1, 0, 0, refl, refl, open-here (before both_updated 1 (step 1 1 1)) (take 1 posted) (created-here (before both_updated 1 (step 1 1 1)) (take 1 posted) refl refl refl refl (only-added (Added 0 temp ∷ []) 0 refl)) refl refl) (temp, (0, refl), (0, refl)) k channel ask meant other) tt tt
passed-over-rest p mp part.Caused ne = caused-each both_updated (Opened 0 temp_name ∷ GaveUp 0 None ∷ saw p ∷ []) posted refl refl ((tt, (step 0 1 1, refl, omega arith)), (((0, adding 0 9, step 1 1 1, (0, 0, refl, refl, refl, (adding 0 9, step 1 1 1, 0, 0, refl, refl, open-here (before both_updated 1 (step 1 1 1)) (take 1 posted) (created-here (before both_updated 1 (step 1 1 1)) (take 1 posted) refl refl refl refl (only-added (Added 0 temp ∷ []) 0 refl)) refl refl), λ j t at place cause. each-at (λ (i : ℕ) (u : Told). u.place ≡ 1 → u.cause ≡ Reply → ⊥) (both_updated).down ((λ p e. omega (arith, p)), ((λ p e. cc), ((λ p e. cc), tt))) j t at place cause)), (step 1 1 1, refl, omega arith)), (((0, adding 0 9, step 1 1 1, (0, 0, refl, refl, refl, (adding 0 9, step 1 1 1, 0, 0, refl, refl, open-here (before both_updated 1 (step 1 1 1)) (take 1 posted) (created-here (before both_updated 1 (step 1 1 1)) (take 1 posted) refl refl refl refl (only-added (Added 0 temp ∷ []) 0 refl)) refl refl), λ j t at place cause. each-at (λ (i : ℕ) (u : Told). u.place ≡ 1 → u.cause ≡ Reply → ⊥) (both_updated).down ((λ p e. omega (arith, p)), ((λ p e. cc), ((λ p e. cc), tt))) j t at place cause)), (step 1 1 1, refl, omega arith)), tt)))
passed-over-rest p mp part.Own ne = taken-each both_updated (Opened 0 temp_name ∷ GaveUp 0 None ∷ saw p ∷ []) posted refl refl ((created-own both_updated 0 (takes-cid both_updated 0 0 creating refl refl refl (omega arith) refl)), ((λ id s. subst (λ (e : Id). TakesOwn both_updated 1 1 e) (sym (of-update ((updated 0 21).message) id refl (heads ((updated 0 21).message) id (λ e. omega (arith, e)) s))) (1, 0, adding 0 9, adding 0 9, (adding 0 9, refl, (refl, refl), omega arith, λ l r after early at gives. two-only creating (adding 0 9) l r after at), omega arith, refl, refl, refl, refl)), ((λ id s. subst (λ (e : Id). TakesOwn both_updated 2 1 e) (sym (of-update ((updated 1 22).message) id refl (heads ((updated 1 22).message) id (λ e. omega (arith, e)) s))) (1, 0, adding 0 9, adding 0 9, (adding 0 9, refl, (refl, refl), omega arith, λ l r after early at gives. two-only creating (adding 0 9) l r after at), omega arith, refl, refl, refl, refl)), tt)))
passed-over-rest p mp part.Answered ne = answered-each both_updated (Opened 0 temp_name ∷ GaveUp 0 None ∷ saw p ∷ []) posted refl refl ((answered-by both_updated posted 0 (step 0 1 1) creating (created_told.message ∷ []) [] refl (refl, tt) tt refl ((λ p e. omega arith), ((λ p e. absurd (omega (arith, p))), ((λ p e. absurd (omega (arith, p))), tt))) ((λ l. absurd (omega (arith, l))), ((λ l. omega arith), tt))), ((answered-by both_updated posted 1 (step 1 1 1) (adding 0 9) [] [] refl tt tt refl ((λ p e. absurd (omega (arith, p))), ((λ p e. absurd cc), ((λ p e. absurd cc), tt))) ((λ l. absurd (omega (arith, l))), ((λ l. absurd (omega (arith, l))), tt))), tt))
passed-over-rest p mp part.Rising ne = holds AnyDue part.Rising both_updated (Opened 0 temp_name ∷ GaveUp 0 None ∷ saw p ∷ []) posted refl refl (accepted-is both_updated posted refl refl posted-in (λ k r s h. FieldOf (λ (p : Follows AnyDue Shows Means both_updated posted k r s (matching posted h.logged r (mask_in s.message))). p.rising)) (λ i j a b lt p q. (let u : i ≡ suc a = marked (λ k d. k ≡ suc d) both_updated ((λ b e. absurd (let f = ap (λ (z : ℕ × Cause). z.0) e in omega (arith, f))), ((λ b e. (let f = ap (λ (z : ℕ × Cause). item z.1) e in omega (arith, f))), ((λ b e. (let f = ap (λ (z : ℕ × Cause). item z.1) e in omega (arith, f))), tt))) i a p in let v : j ≡ suc b = marked (λ k d. k ≡ suc d) both_updated ((λ b e. absurd (let f = ap (λ (z : ℕ × Cause). z.0) e in omega (arith, f))), ((λ b e. (let f = ap (λ (z : ℕ × Cause). item z.1) e in omega (arith, f))), ((λ b e. (let f = ap (λ (z : ℕ × Cause). item z.1) e in omega (arith, f))), tt))) j b q in omega (arith, u, v, lt)))) tt tt
passed-over-rest p mp part.Matches ne = holds AnyDue part.Matches both_updated (Opened 0 temp_name ∷ GaveUp 0 None ∷ saw p ∷ []) posted refl refl (accepted-is both_updated posted refl refl posted-in (λ k r s h. FieldOf (λ (p : Follows AnyDue Shows Means both_updated posted k r s (matching posted h.logged r (mask_in s.message))). p.matches)) (subst (λ (z : List Stored). FieldOf (λ (f : Follows AnyDue Shows Means both_updated posted 1 0 (adding 0 9) z). f.matches)) (sym posts-are) (λ a h. marked (λ k d. d < 2) both_updated ((λ b e. absurd (let f = ap (λ (z : ℕ × Cause). z.0) e in omega (arith, f))), ((λ b e. (let f = ap (λ (z : ℕ × Cause). item z.1) e in omega (arith, f))), ((λ b e. (let f = ap (λ (z : ℕ × Cause). item z.1) e in omega (arith, f))), tt))) h.0 a h.1))) tt tt
passed-over-rest p mp part.ShowsPost ne = holds AnyDue part.ShowsPost both_updated (Opened 0 temp_name ∷ GaveUp 0 None ∷ saw p ∷ []) posted refl refl (accepted-is both_updated posted refl refl posted-in (λ k r s h. FieldOf (λ (p : Follows AnyDue Shows Means both_updated posted k r s (matching posted h.logged r (mask_in s.message))). p.shows)) (subst (λ (z : List Stored). FieldOf (λ (f : Follows AnyDue Shows Means both_updated posted 1 0 (adding 0 9) z). f.shows)) (sym posts-are) (λ j a t at place cause. each-at (λ (i : ℕ) (u : Told). u.place ≡ 1 → u.cause ≡ Update a → (v : Stored) × At (long 21 ∷ long 22 ∷ []) a v × Shows (adding 0 9).message v u.message) (both_updated).down ((λ p e. absurd (omega (arith, p))), ((λ p e. (long 21, subst (λ (n : ℕ). At (long 21 ∷ long 22 ∷ []) n (long 21)) (ap item e) refl, shows-21)), ((λ p e. (long 22, subst (λ (n : ℕ). At (long 21 ∷ long 22 ∷ []) n (long 22)) (ap item e) refl, shows-22)), tt))) j t at place cause))) tt tt
passed-over-rest p mp part.Newest ne = holds AnyDue part.Newest both_updated (Opened 0 temp_name ∷ GaveUp 0 None ∷ saw p ∷ []) posted refl refl (accepted-is both_updated posted refl refl posted-in (λ k r s h. FieldOf (λ (p : Follows AnyDue Shows Means both_updated posted k r s (matching posted h.logged r (mask_in s.message))). p.newest)) (subst (λ (z : List Stored). FieldOf (λ (f : Follows AnyDue Shows Means both_updated posted 1 0 (adding 0 9) z). f.newest)) (sym posts-are) (λ lasts. (1, (2, refl), refl)))) tt tt
passed-over-rest p mp part.SeesOwn ne = seen-each both_updated (Opened 0 temp_name ∷ GaveUp 0 None ∷ saw p ∷ []) posted refl refl (tt, (tt, ((passed-read p mp, 1, refl), tt)))
passed-over-rest p mp rest ne = quiet AnyDue rest both_updated (Opened 0 temp_name ∷ GaveUp 0 None ∷ saw p ∷ []) posted refl refl refl refl refl

pub passed-over : (p : Outcome) → Means (updated 1 22).message p → BreaksOnly part.SeesInOrder (world (both_updated ∷ []) (Opened 0 temp_name ∷ GaveUp 0 None ∷ saw p ∷ []) posted)
passed-over p mp = (passed-over-rest p mp, λ h. (let l = h.1 0 (Opened 0 temp_name ∷ GaveUp 0 None ∷ saw p ∷ []) refl 2 (On 0 (Subscribe 0)) p (passed-read p mp) 1 0 (updated 0 21) refl (omega arith) refl refl refl in not-told p l.0 l.1 l.4 l.3))

update-of-refused-rest : (p : Part) → (p ≡ part.Caused → ⊥) → Holds AnyDue p (world (refused ∷ []) opened temp_there)
update-of-refused-rest part.Caused ne = absurd (ne refl)
update-of-refused-rest part.Acts ne = holds AnyDue part.Acts refused opened temp_there refl refl (λ k channel ask early meant other. acts-by refused (adding 0 9) opened temp_there refl refl (adding 0 9, step 1 1 1, 0, 0, refl, refl, open-here (before refused 1 (step 1 1 1)) (take 1 temp_there) (created-here (before refused 1 (step 1 1 1)) (take 1 temp_there) refl refl refl refl (only-added (Added 0 temp ∷ []) 0 refl)) refl refl) (temp, (0, refl), (0, refl)) k channel ask meant other) tt tt
update-of-refused-rest part.Own ne = taken-each refused opened temp_there refl refl ((created-own refused 0 (takes-cid refused 0 0 creating refl refl refl (omega arith) refl)), ((λ id s. subst (λ (e : Id). TakesOwn refused 1 1 e) (sym (of-update ((updated 0 21).message) id refl (heads ((updated 0 21).message) id (λ e. omega (arith, e)) s))) (1, 0, adding 0 9, adding 0 9, (adding 0 9, refl, (refl, refl), omega arith, λ l r after early at gives. two-only creating (adding 0 9) l r after at), omega arith, refl, refl, refl, refl)), ((λ id s. subst (λ (e : Id). TakesOwn refused 2 1 e) (sym (of-update ((updated 0 21).message) id refl (heads ((updated 0 21).message) id (λ e. omega (arith, e)) s))) (1, 0, adding 0 9, adding 0 9, (adding 0 9, refl, (refl, refl), omega arith, λ l r after early at gives. two-only creating (adding 0 9) l r after at), omega arith, refl, refl, refl, refl)), tt)))
update-of-refused-rest part.Answered ne = answered-each refused opened temp_there refl refl ((answered-by refused temp_there 0 (step 0 1 1) creating (created_told.message ∷ []) [] refl (refl, tt) tt refl ((λ p e. omega arith), ((λ p e. absurd (omega (arith, p))), ((λ p e. absurd (omega (arith, p))), tt))) ((λ l. absurd (omega (arith, l))), ((λ l. omega arith), tt))), ((answered-by refused temp_there 1 (step 1 1 1) (adding 0 9) ((updated 0 21).message ∷ []) [] refl (refl, tt) tt refl ((λ p e. absurd (omega (arith, p))), ((λ p e. omega arith), ((λ p e. absurd cc), tt))) ((λ l. absurd (omega (arith, l))), ((λ l. absurd (omega (arith, l))), tt))), tt))
update-of-refused-rest part.Rising ne = holds AnyDue part.Rising refused opened temp_there refl refl (λ k r s h b. accepted-is refused temp_there refl refl added-in (λ k r s h. Accepted refused temp_there k r s h → FieldOf (λ (p : Follows AnyDue Shows Means refused temp_there k r s (matching temp_there h.logged r (mask_in s.message))). p.rising)) (λ b. absurd (b.6 1 (reply 1 (updated 0 21).message) refl refl refl)) k r s h b b) tt tt
update-of-refused-rest part.Matches ne = holds AnyDue part.Matches refused opened temp_there refl refl (λ k r s h b. accepted-is refused temp_there refl refl added-in (λ k r s h. Accepted refused temp_there k r s h → FieldOf (λ (p : Follows AnyDue Shows Means refused temp_there k r s (matching temp_there h.logged r (mask_in s.message))). p.matches)) (λ b. absurd (b.6 1 (reply 1 (updated 0 21).message) refl refl refl)) k r s h b b) tt tt
update-of-refused-rest part.ShowsPost ne = holds AnyDue part.ShowsPost refused opened temp_there refl refl (λ k r s h b. accepted-is refused temp_there refl refl added-in (λ k r s h. Accepted refused temp_there k r s h → FieldOf (λ (p : Follows AnyDue Shows Means refused temp_there k r s (matching temp_there h.logged r (mask_in s.message))). p.shows)) (λ b. absurd (b.6 1 (reply 1 (updated 0 21).message) refl refl refl)) k r s h b b) tt tt
update-of-refused-rest part.Newest ne = holds AnyDue part.Newest refused opened temp_there refl refl (λ k r s h b. accepted-is refused temp_there refl refl added-in (λ k r s h. Accepted refused temp_there k r s h → FieldOf (λ (p : Follows AnyDue Shows Means refused temp_there k r s (matching temp_there h.logged r (mask_in s.message))). p.newest)) (λ b. absurd (b.6 1 (reply 1 (updated 0 21).message) refl refl refl)) k r s h b b) tt tt
update-of-refused-rest p ne = quiet AnyDue p refused opened temp_there refl refl refl refl refl

pub update-of-refused : BreaksOnly part.Caused (world (refused ∷ []) opened temp_there)
update-of-refused = (update-of-refused-rest, λ h. (let b = (its-part part.Caused refused opened temp_there refl refl h.0 2 (updated 0 21) refl).0 in b.3.6 1 (reply 1 (updated 0 21).message) refl refl refl))
