-- What was sent on the used channel was due.
use Rattle.std.proofs.Common.{◌≡◌, ℕ, zero, suc, inr, List, [], ◌∷◌, refl, sym, ap, arith}
use Rattle.std.specs.Prelude.{true, false, Some, None, take, pos}
use Rattle.std.proofs.Math.Facts.{sfits_lit}
use Rattle.ca_text.specs.Place.{At}
use Rattle.ca_dbr.specs.declared.data_type.BaseType.TheVariants as base
use Rattle.ca_dbr.specs.declared.data_type.Form.TheVariants as form
use Rattle.ca_display.specs.declared.image_type.ImageType.TheVariants as any
use Rattle.ca_dbr.specs.Elements as E
use Rattle.ca_dbr.specs.Elements.{longs}
use Rattle.ca_model.specs.Due.{Adds, Applies, Nothing, Opens, PutDue, ReadDue, subscription_in}
use Rattle.ca_model.specs.History.{Entry, Step, Added, Applied}
use Rattle.ca_model.specs.Channels.{Has, IsOpen, before}
use Rattle.ca_model.specs.Known.{AreJust, IsChannel, IsNow, IsSafe}
use Rattle.ca_model_examples.specs.Worlds.{adding, created_told, creating, long, ports, put_told, putting, reading, rights_told, rules, step, temp, temp_name}
use Rattle.ca_model_examples.specs.Safe.{used, used_entries, used_world}
use Rattle.ca_model_examples.proofs.Lists.{each-at, at-take, none-at}
use Rattle.ca_model_examples.proofs.SmallDue.{TrueDue, added-due, created-due, knew, knows, no-key, none-just, one-channel, put-due, read-due, serves, temp_channel, temp_now}
use Rattle.ca_model_examples.proofs.UsedActs.{created-at, first-only, open-1, open-2, open-3}
use Rattle.ca_model_examples.proofs.UsedOwn.{value_told}
use Rattle.ca_model_examples.proofs.UsedWhole.{used-is-safe}

-- ---- what the server knew

-- the log after n entries
abbrev logged : ℕ → List Entry
logged n = take n used_entries

has-temp : (n : ℕ) → At (logged n) 0 (Added 0 temp) → Has (logged n) 0 temp_name
has-temp n at = (temp, (0, at), refl, (λ h. first-only n 0 h))

now-21 : IsNow (logged 1) 0 (temp_now false 21 false)
now-21 = record {
  first = temp;
  added = (0, refl);
  v = long 21;
  last = refl;
  state = refl;
  busy = ((λ e. absurd cc), (λ b. absurd (each-at (λ (i : ℕ) (z : Entry). z ≡ Applied b.0 b.1 0 b.2 true → ⊥) (logged 1) ((λ e. cc), tt) b.3.0 _ b.3.1 refl)));
  waits = refl;
}

now-22 : IsNow (logged 2) 0 (temp_now false 22 false)
now-22 = record {
  first = temp;
  added = (0, refl);
  v = long 22;
  last = refl;
  state = refl;
  busy = ((λ e. absurd cc), (λ b. absurd (each-at (λ (i : ℕ) (z : Entry). z ≡ Applied b.0 b.1 0 b.2 true → ⊥) (logged 2) ((λ e. cc), ((λ e. cc), tt)) b.3.0 _ b.3.1 refl)));
  waits = refl;
}

abbrev record-in : Entry → ℕ
record-in (Added r s) = r
record-in e = 0

-- the only record
only-record : (r n m : ℕ) (name : List ℕ) → Has (take n (logged m)) r name → r ≡ 0
only-record r n m name h =
    each-at (λ (k : ℕ) (e : Entry). e ≡ Added r h.0 → r ≡ 0) used_entries ((λ f. ap record-in (sym f)), ((λ f. absurd cc), tt)) h.1.0 _ (at-take m used_entries h.1.0 _ (at-take n (logged m) h.1.0 _ h.1.1)) refl

-- So the only open channel is that to TEMP.
its-channel : (n m : ℕ) (h : Step) → IsOpen (before used n h) (logged m) 1 0 5 0 → At (take n used.up) 0 creating
    → AreJust (temp_channel false ∷ []) (IsChannel (before used n h) (logged m))
its-channel n m h is-open here =
    one-channel (before used n h) (logged m) 1 0 0 false is-open here (λ e. absurd cc) (λ g. absurd (first-only m 0 g)) (λ i l sid q one.
    (let made = one.0 in
    let from = created-at i l sid made.0 (at-take h.sent used.down i made.0 made.3) made.4 made.6 in
    (from.1, from.2, only-record q made.2.logged m _ made.9)))

-- ---- what was due

pub used-created : TrueDue 0 (before used 0 (step 0 1 1)) (logged 1) creating.message (rights_told.message ∷ created_told.message ∷ []) None []
used-created = (
  knows (Some (temp_now false 21 false)) false [],
  Opens (temp_channel false),
  knew (before used 0 (step 0 1 1)) (logged 1) (Some (temp_now false 21 false)) false [] (refl, tt) (0, has-temp 1 refl, now-21) tt refl refl (
      none-just (IsChannel (before used 0 (step 0 1 1)) (logged 1)) (λ x h. none-at h.0 h.4.0.0 h.4.0.3)) (no-key (before used 0 (step 0 1 1)) (logged 1) tt),
  created-due false 21 false,
  refl,
  refl,
)

fits-22 : E.IsValue (longs (pos 22 ∷ []))
fits-22 zero d h = sfits_lit tt
fits-22 (suc k) d h = absurd (omega (arith, h))

takes : PutDue (knows (Some (temp_now false 21 false)) true (temp_channel false ∷ [])) (putting 0 8 22).message ((put_told 1 8 22).message ∷ []) (Applies temp_name (longs (pos 22 ∷ [])) false)
unfolding E.signed_bytes_4
takes = (
  serves (temp_now false 21 false),
  inr (
    longs (pos 22 ∷ []),
    record {
      elements = longs (pos 22 ∷ []);
      early = refl;
      reads = record { base = base.Long; typed = refl; reads = record { behind = 0 ∷ 0 ∷ 0 ∷ 0 ∷ []; spelled = refl; based = refl; counted = refl; valued = fits-22 } };
      late = refl;
      is = refl;
    },
    refl,
    refl,
  ),
)

shows : ReadDue (knows (Some (temp_now false 22 false)) true (temp_channel false ∷ [])) (reading 1 7).message (value_told ∷ []) Nothing
unfolding E.signed_bytes_4
shows = (serves (temp_now false 22 false), refl, inr (refl, (any.Data (record { base = base.Long; form = form.Plain }), longs (pos 22 ∷ []), refl, refl, refl)))

pub used-put : TrueDue 0 (before used 1 (step 2 1 2)) (logged 1) (putting 0 8 22).message ((put_told 1 8 22).message ∷ []) None (Applied 0 1 0 (long 22) false ∷ [])
used-put = (
  knows (Some (temp_now false 21 false)) true (temp_channel false ∷ []),
  Applies temp_name (longs (pos 22 ∷ [])) false,
  knew (before used 1 (step 2 1 2)) (logged 1) (Some (temp_now false 21 false)) true (temp_channel false ∷ []) (refl, tt) (0, has-temp 1 refl, now-21) (refl, tt) refl refl (
      its-channel 1 1 (step 2 1 2) open-1 refl) (no-key (before used 1 (step 2 1 2)) (logged 1) ((λ a b e. cc), tt)),
  put-due _ (putting 0 8 22).message _ _ refl takes,
  refl,
  (0, long 22, has-temp 1 refl, refl, (record { seconds = 0; nanos = 0 }, refl), refl),
)

pub used-read : TrueDue 0 (before used 2 (step 3 2 2)) (logged 2) (reading 1 7).message (value_told ∷ []) None []
used-read = (
  knows (Some (temp_now false 22 false)) true (temp_channel false ∷ []),
  Nothing,
  knew (before used 2 (step 3 2 2)) (logged 2) (Some (temp_now false 22 false)) true (temp_channel false ∷ []) (refl, (refl, tt)) (0, has-temp 2 refl, now-22) (refl, (refl, tt)) refl refl (
      its-channel 2 2 (step 3 2 2) open-2 refl) (no-key (before used 2 (step 3 2 2)) (logged 2) ((λ a b e. cc), ((λ a b e. cc), tt))),
  read-due _ (reading 1 7).message _ _ refl shows,
  refl,
  refl,
)

pub used-added : TrueDue 0 (before used 3 (step 4 2 2)) (logged 2) (adding 0 9).message [] None []
used-added = (
  knows (Some (temp_now false 22 false)) true (temp_channel false ∷ []),
  Adds (subscription_in (adding 0 9).message temp_name),
  knew (before used 3 (step 4 2 2)) (logged 2) (Some (temp_now false 22 false)) true (temp_channel false ∷ []) (refl, (refl, tt)) (0, has-temp 2 refl, now-22) (refl, (refl, (refl, tt))) refl refl (
      its-channel 3 2 (step 4 2 2) open-3 refl) (no-key (before used 3 (step 4 2 2)) (logged 2) ((λ a b e. cc), ((λ a b e. cc), ((λ a b e. cc), tt)))),
  added-due 22,
  refl,
  refl,
)

-- The used channel is safe with what is due by the whole definition.
pub used-safe : IsSafe ports rules used_world
used-safe = used-is-safe TrueDue used-created used-put used-read used-added
