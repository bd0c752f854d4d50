-- What was sent on each circuit of a channel that moves was due.
use Rattle.std.proofs.Common.{◌≡◌, ℕ, List, [], ◌∷◌, refl, ap}
use Rattle.std.specs.Prelude.{true, false, Bool, Some, None, take}
use Rattle.ca_model.specs.Due.{Adds, Opens, subscription_in}
use Rattle.ca_model.specs.History.{Circuit, Entry, Added, Applied}
use Rattle.ca_model.specs.Channels.{Has, before}
use Rattle.ca_model.specs.Known.{AreJust, IsChannel, IsNow}
use Rattle.ca_model_examples.specs.Worlds.{adding, created_told, creating, long, rights_told, step, temp_name}
use Rattle.ca_model_examples.specs.Moved.{moved, moved_entries, valued}
use Rattle.ca_model_examples.proofs.Lists.{at-take, each-at, none-at, one-at}
use Rattle.ca_model_examples.proofs.SmallDue.{TrueDue, added-due, created-due, knew, knows, no-key, none-just, one-channel, temp_channel, temp_now}
use Rattle.ca_model_examples.proofs.MovedActs.{no-removal, open-1, reply-at}

-- the number of the record of an entry
abbrev record-in : Entry → ℕ
record-in (Added r s) = r
record-in e = 0

-- both circuits have one form
module _ (server live read value : ℕ) (stays : Bool) where
  abbrev c : Circuit
  c = moved server live read value stays

  -- the log, when each message was handled
  abbrev y : List Entry
  y = take 1 (moved_entries value)

  has-temp : Has y 0 temp_name
  has-temp = (valued value, (0, refl), refl, (λ h. no-removal value h.0 0 h.1))

  now : IsNow y 0 (temp_now false value false)
  now = record {
    first = valued value;
    added = (0, refl);
    v = long value;
    last = refl;
    state = refl;
    busy = ((λ e. absurd cc), (λ b. absurd (each-at (λ (i : ℕ) (z : Entry). z ≡ Applied b.0 b.1 0 b.2 true → ⊥) y ((λ e. cc), tt) b.3.0 _ b.3.1 refl)));
    waits = refl;
  }

  -- the only record
  only-record : (n r : ℕ) (name : List ℕ) → Has (take n y) r name → r ≡ 0
  only-record n r name h = ap record-in (one-at (Added 0 (valued value)) h.1.0 _ (at-take n y h.1.0 _ h.1.1)).1

  -- The only open channel is that to TEMP.
  its-channel : AreJust (temp_channel false ∷ []) (IsChannel (before c 1 (step 2 1 1)) y)
  its-channel =
      one-channel (before c 1 (step 2 1 1)) y 1 0 0 false (open-1 server live read value stays) refl (λ e. absurd cc) (λ g. absurd (no-removal value g.0 0 g.1)) (λ i l sid q one.
      (let made = one.0 in
      let from = reply-at server live read value stays i l sid made.0 (at-take 2 c.down i made.0 made.3) made.4 made.6 in
      (from.1, from.2, only-record made.2.logged q _ made.9)))

  pub moved-created : TrueDue server (before c 0 (step 0 1 1)) y creating.message (rights_told.message ∷ created_told.message ∷ []) None []
  moved-created = (
    knows (Some (temp_now false value false)) false [],
    Opens (temp_channel false),
    knew (before c 0 (step 0 1 1)) y (Some (temp_now false value false)) false [] (refl, tt) (0, has-temp, now) tt refl refl (
        none-just (IsChannel (before c 0 (step 0 1 1)) y) (λ x h. none-at h.0 h.4.0.0 h.4.0.3)) (no-key (before c 0 (step 0 1 1)) y tt),
    created-due false value false,
    refl,
    refl,
  )

  pub moved-added : TrueDue server (before c 1 (step 2 1 1)) y (adding 0 9).message [] None []
  moved-added = (
    knows (Some (temp_now false value false)) true (temp_channel false ∷ []),
    Adds (subscription_in (adding 0 9).message temp_name),
    knew (before c 1 (step 2 1 1)) y (Some (temp_now false value false)) true (temp_channel false ∷ []) (refl, tt) (0, has-temp, now) (refl, tt) refl refl
        its-channel (no-key (before c 1 (step 2 1 1)) y ((λ a b e. cc), tt)),
    added-due value,
    refl,
    refl,
  )
