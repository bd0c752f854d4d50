-- What was sent and logged around a put that waited while its client began again was due.
use Rattle.std.proofs.Common.{◌≡◌, ℕ, zero, suc, inr, List, [], ◌∷◌, refl, sym, ap, arith}
use Rattle.std.specs.Prelude.{true, false, Some, None, take, pos}
use Rattle.std.proofs.Math.Facts.{sfits_lit}
use Rattle.ca_text.specs.Place.{At}
use Rattle.ca_dbr.specs.declared.data_type.BaseType.TheVariants as base
use Rattle.ca_dbr.specs.Elements as E
use Rattle.ca_dbr.specs.Elements.{longs}
use Rattle.ca_model.specs.Due.{Applies, Opens, Waits, PutDue}
use Rattle.ca_model.specs.Speech.{Creates}
use Rattle.ca_model.specs.History.{Create, Circuit, Entry, Sent, Told, Step, Added, Applied, Finished}
use Rattle.ca_model.specs.History as history
use Rattle.ca_model.specs.Channels.{Has, IsOpen, before}
use Rattle.ca_model.specs.Known.{AreJust, IsChannel, IsNow}
use Rattle.ca_model_examples.specs.Worlds.{created_told, creating, long, put_told, putting, rights_told, step, temp_name}
use Rattle.ca_model_examples.specs.Waited.{slow_temp, waited, waited_entries}
use Rattle.ca_model_examples.proofs.Lists.{each-at, at-take, none-at}
use Rattle.ca_model_examples.proofs.SmallDue.{TrueDue, created-due, knew, knows, no-key, none-just, one-channel, put-due, serves, temp_channel, temp_now}
use Rattle.ca_model_examples.proofs.WaitedActs.{first-only, open-1, open-2}

-- ---- what the server knew

-- after n entries
abbrev logged : ℕ → List Entry
logged n = take n waited_entries

has-temp : (n : ℕ) → At (logged n) 0 (Added 0 slow_temp) → Has (logged n) 0 temp_name
has-temp n at = (slow_temp, (0, at), refl, (λ h. first-only n 0 h))

now-21 : IsNow (logged 1) 0 (temp_now true 21 false)
now-21 = record {
  first = slow_temp;
  added = (0, refl);
  v = long 21;
  last = refl;
  state = refl;
  busy = ((λ e. absurd cc), (λ b. absurd (each-at (λ (i : ℕ) (z : Entry). z ≡ Applied b.0 b.1 0 b.2 true → ⊥) (logged 1) ((λ e. cc), tt) b.3.0 _ b.3.1 refl)));
  waits = refl;
}

-- The first put made it busy.
now-22 : IsNow (logged 2) 0 (temp_now true 22 true)
now-22 = record {
  first = slow_temp;
  added = (0, refl);
  v = long 22;
  last = refl;
  state = refl;
  busy = ((λ e. (0, 1, long 22, (1, refl), (λ h. each-at (λ (i : ℕ) (z : Entry). z ≡ Finished 0 1 → ⊥) (logged 2) ((λ f. cc), ((λ f. cc), tt)) h.0 _ h.1 refl))), (λ b. refl));
  waits = refl;
}

abbrev record-in : Entry → ℕ
record-in (Added r s) = r
record-in e = 0

-- the only record
only-record : (r n m : ℕ) (name : List ℕ) → Has (take n (logged m)) r name → r ≡ 0
only-record r n m name h =
    each-at (λ (k : ℕ) (e : Entry). e ≡ Added r h.0 → r ≡ 0) waited_entries (
      (λ f. ap record-in (sym f)),
      ((λ f. absurd cc), ((λ f. absurd cc), ((λ f. absurd cc), ((λ f. absurd cc), tt)))),
    ) h.1.0 _ (at-take m waited_entries h.1.0 _ (at-take n (logged m) h.1.0 _ h.1.1)) refl

-- the only creation
created-at : (j k sid : ℕ) (t : Told) → At waited.down j t → t.place ≡ k → Creates t.message sid → (k ≡ 0) × (sid ≡ 5)
created-at j k sid t at place creates =
    each-at (λ (i : ℕ) (u : Told). u.place ≡ k → Creates u.message sid → (k ≡ 0) × (sid ≡ 5)) waited.down (
      (λ p e. (let f = e.0 in absurd (omega (arith, f)))),
      ((λ p e. (sym p, sym e.1)), ((λ p e. (let f = e.0 in absurd (omega (arith, f)))), tt)),
    ) j t at place creates

-- So the only open channel is that to TEMP.
its-channel : (n m : ℕ) (h : Step) → IsOpen (before waited n h) (logged m) 1 0 5 0 → At (take n waited.up) 0 creating
    → AreJust (temp_channel false ∷ []) (IsChannel (before waited n h) (logged m))
its-channel n m h is-open here =
    one-channel (before waited n h) (logged m) 1 0 0 false is-open here (λ e. absurd cc) (λ g. absurd (first-only m 0 g)) (λ i l sid q one.
    (let made = one.0 in
    let from = created-at i l sid made.0 (at-take h.sent waited.down i made.0 made.3) made.4 made.6 in
    (from.0, from.1, only-record q made.2.logged m _ made.9)))

-- ---- what was due

pub waited-created : TrueDue 0 (before waited 0 (step 0 1 1)) (logged 1) creating.message (rights_told.message ∷ created_told.message ∷ []) None []
waited-created = (
  knows (Some (temp_now true 21 false)) false [],
  Opens (temp_channel false),
  knew (before waited 0 (step 0 1 1)) (logged 1) (Some (temp_now true 21 false)) false [] (refl, tt) (0, has-temp 1 refl, now-21) tt refl refl (
      none-just (IsChannel (before waited 0 (step 0 1 1)) (logged 1)) (λ x h. none-at h.0 h.4.0.0 h.4.0.3)) (no-key (before waited 0 (step 0 1 1)) (logged 1) tt),
  created-due true 21 false,
  refl,
  refl,
)

fits-22 : E.IsValue (longs (pos 22 ∷ []))
fits-22 zero d h = sfits_lit tt
fits-22 (suc k) d h = absurd (omega (arith, h))

fits-23 : E.IsValue (longs (pos 23 ∷ []))
fits-23 zero d h = sfits_lit tt
fits-23 (suc k) d h = absurd (omega (arith, h))

busies : PutDue (knows (Some (temp_now true 21 false)) true (temp_channel false ∷ [])) (putting 0 8 22).message [] (Applies temp_name (longs (pos 22 ∷ [])) true)
unfolding E.signed_bytes_4
busies = (
  serves (temp_now true 21 false),
  inr (
    longs (pos 22 ∷ []),
    record {
      elements = longs (pos 22 ∷ []);
      early = refl;
      reads = record { base = base.Long; typed = refl; reads = record { behind = 0 ∷ 0 ∷ 0 ∷ 0 ∷ []; spelled = refl; based = refl; counted = refl; valued = fits-22 } };
      late = refl;
      is = refl;
    },
    refl,
    refl,
  ),
)

waits : PutDue (knows (Some (temp_now true 22 true)) true (temp_channel false ∷ [])) (putting 1 9 23).message [] (Waits temp_name (longs (pos 23 ∷ [])))
unfolding E.signed_bytes_4
waits = (
  serves (temp_now true 22 true),
  inr (
    longs (pos 23 ∷ []),
    record {
      elements = longs (pos 23 ∷ []);
      early = refl;
      reads = record { base = base.Long; typed = refl; reads = record { behind = 0 ∷ 0 ∷ 0 ∷ 0 ∷ []; spelled = refl; based = refl; counted = refl; valued = fits-23 } };
      late = refl;
      is = refl;
    },
    refl,
    refl,
  ),
)

pub waited-busies : TrueDue 0 (before waited 1 (step 2 1 2)) (logged 1) (putting 0 8 22).message [] (Some (put_told 1 8 22).message) (Applied 0 1 0 (long 22) true ∷ [])
waited-busies = (
  knows (Some (temp_now true 21 false)) true (temp_channel false ∷ []),
  Applies temp_name (longs (pos 22 ∷ [])) true,
  knew (before waited 1 (step 2 1 2)) (logged 1) (Some (temp_now true 21 false)) true (temp_channel false ∷ []) (refl, tt) (0, has-temp 1 refl, now-21) (refl, tt) refl refl
      (its-channel 1 1 (step 2 1 2) open-1 refl) (no-key (before waited 1 (step 2 1 2)) (logged 1) ((λ a b e. cc), tt)),
  put-due _ (putting 0 8 22).message _ _ refl busies,
  refl,
  (0, long 22, has-temp 1 refl, refl, (record { seconds = 0; nanos = 0 }, refl), refl),
)

pub waited-waits : TrueDue 0 (before waited 2 (step 2 2 3)) (logged 2) (putting 1 9 23).message [] (Some (put_told 2 9 23).message) (history.Waits 0 2 0 (long 23) ∷ [])
waited-waits = (
  knows (Some (temp_now true 22 true)) true (temp_channel false ∷ []),
  Waits temp_name (longs (pos 23 ∷ [])),
  knew (before waited 2 (step 2 2 3)) (logged 2) (Some (temp_now true 22 true)) true (temp_channel false ∷ []) (refl, (refl, tt)) (0, has-temp 2 refl, now-22) (refl, (refl, tt)) refl refl
      (its-channel 2 2 (step 2 2 3) open-2 refl) (no-key (before waited 2 (step 2 2 3)) (logged 2) ((λ a b e. cc), ((λ a b e. cc), tt))),
  put-due _ (putting 1 9 23).message _ _ refl waits,
  refl,
  (0, long 23, has-temp 2 refl, refl, (record { seconds = 0; nanos = 0 }, refl), refl),
)
