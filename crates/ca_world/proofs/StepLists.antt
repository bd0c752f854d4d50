-- What a message does to other circuits, and how ends end, whatever went down and was handled on
-- the circuit that handled it.
use Rattle.std.proofs.Common.{◌≡◌, ℕ, zero, suc, ◌==◌, ◌&&◌, Bool, true, false, List, [], ◌∷◌, Option, Some, None, refl, sym, ap, ◌∙◌}
use Rattle.std.specs.Prelude.{if◌then◌else◌, is_some, map, option_map, slice_set, unwrap_or}
use Rattle.std.specs.List.{fold}
use Rattle.ca_ids.specs.Table.{under}
use Rattle.ca_queue.specs.declared.entry.SubKey.{SubKey}
use Rattle.ca_text.specs.Place.{At}
use Rattle.ca_text.proofs.Places.{At-map, some_is}
use Rattle.ca_model.specs.Due.{Action, Adds, Applies, Clears, Drops, Greets, Names, Nothing, Opens, Switches, Waits}
use Rattle.ca_model.specs.History.{Step, Told}
use Rattle.ca_model.specs.Server.{Server}
use Rattle.ca_model.specs.ServerSteps.{write_mask}
use Rattle.ca_model.specs.ServerEvents.{ending, ends_at, ends_by, keys_concerned, numbers_posted, server_closed, with_number, write_numbers}
use Rattle.ca_model.specs.World.{Joined}
use Rattle.ca_world.specs.ServerStepping.{with_lists}
use Rattle.ca_world_data.proofs.Worlds.{set-map}

-- an end ends as well with other lists
abbrev IsBlind : (d : List Told) (s : List Step) → (Joined → Option (List ℕ)) → Type 0
IsBlind d s ends = (j : Joined) → ends (with_lists d s j) ≡ ends j

module _ (d : List Told) (s : List Step) where
  fold-lists : (keys : List SubKey) (j : Joined) → fold with_number (with_lists d s j) keys ≡ with_lists d s (fold with_number j keys)
  fold-lists [] j = refl
  fold-lists (key ∷ keys) j = fold-lists keys (with_number j key)

  numbers-lists : (i : ℕ) (core : Server) (name : List ℕ) (mask : ℕ) (j : Joined) → numbers_posted i core name mask (with_lists d s j) ≡ with_lists d s (numbers_posted i core name mask j)
  numbers-lists i core name mask j = go (j.server == i && j.lists.server_open)
    where
      keys : List SubKey
      keys = keys_concerned name mask (under core.circuits j.at_server)

      go : (b : Bool) → (if b then fold with_number (with_lists d s j) keys else with_lists d s j) ≡ with_lists d s (if b then fold with_number j keys else j)
      go true = fold-lists keys j
      go false = refl

  pub write-lists : (i : ℕ) (core : Server) (action : Action) (j : Joined) → write_numbers i core action (with_lists d s j) ≡ with_lists d s (write_numbers i core action j)
  write-lists i core (Applies name value busies) j = numbers-lists i core name write_mask j
  write-lists i core (Waits name value) j = refl
  write-lists i core (Clears sid) j = refl
  write-lists i core Nothing j = refl
  write-lists i core Greets j = refl
  write-lists i core (Names p) j = refl
  write-lists i core (Opens c) j = refl
  write-lists i core (Adds a) j = refl
  write-lists i core (Drops key) j = refl
  write-lists i core (Switches on) j = refl

  pub ending-lists : (ends : Joined → Option (List ℕ)) (j : Joined) → ends (with_lists d s j) ≡ ends j → ending ends (with_lists d s j) ≡ with_lists d s (ending ends j)
  ending-lists ends j same =
      ap (λ (o : Option (List ℕ)). unwrap_or (option_map (λ (left : List ℕ). server_closed left (with_lists d s j)) o) (with_lists d s j)) same ∙ go (ends j)
    where
      go : (o : Option (List ℕ)) → unwrap_or (option_map (λ (left : List ℕ). server_closed left (with_lists d s j)) o) (with_lists d s j) ≡ with_lists d s (unwrap_or (option_map (λ (left : List ℕ). server_closed left j) o) j)
      go None = refl
      go (Some left) = refl

  -- of these circuits, with one's lists aside, the same end
  gone-lists : (ends : Joined → Option (List ℕ)) → IsBlind d s ends → (ks : List Joined) (k : ℕ) (j : Joined) → At ks k j → (n : ℕ) → ends_at ends (slice_set ks k (with_lists d s j)) n ≡ ends_at ends ks n
  gone-lists ends blind [] k j at n = refl
  gone-lists ends blind (c ∷ ks) zero j at zero = ap is_some (blind j ∙ ap ends (sym (some_is c j at)))
  gone-lists ends blind (c ∷ ks) zero j at (suc n) = refl
  gone-lists ends blind (c ∷ ks) (suc k) j at zero = refl
  gone-lists ends blind (c ∷ ks) (suc k) j at (suc n) = gone-lists ends blind ks k j at n

module _ (i : ℕ) (core : Server) (action : Action) (ks : List Joined) (k : ℕ) (j : Joined) (at : At ks k j) (d : List Told) (s : List Step) where
  abbrev writes : Joined → Joined
  writes = write_numbers i core action

  abbrev aside : List Joined
  aside = slice_set ks k (with_lists d s j)

  -- numbers that wait, on circuits of which one's lists are aside
  pub writes-aside : map writes aside ≡ slice_set (map writes ks) k (with_lists d s (writes j))
  writes-aside = set-map writes ks k (with_lists d s j) ∙ ap (slice_set (map writes ks) k) (write-lists d s i core action j)

  pub gone-aside : ends_at (ends_by i core) (map writes aside) ≡ ends_at (ends_by i core) (map writes ks)
  gone-aside = (λ t n. each n t)
    where
      each : (n : ℕ) → ends_at (ends_by i core) (map writes aside) n ≡ ends_at (ends_by i core) (map writes ks) n
      each n =
          ap (λ (cs : List Joined). ends_at (ends_by i core) cs n) writes-aside
          ∙ gone-lists d s (ends_by i core) (λ c. refl) (map writes ks) k (writes j) (At-map writes ks k j at) n

  pub ending-aside : map (ending (ends_by i core)) (map writes aside) ≡ slice_set (map (ending (ends_by i core)) (map writes ks)) k (with_lists d s (ending (ends_by i core) (writes j)))
  ending-aside =
      ap (map (ending (ends_by i core))) writes-aside ∙ set-map (ending (ends_by i core)) (map writes ks) k (with_lists d s (writes j))
      ∙ ap (slice_set (map (ending (ends_by i core)) (map writes ks)) k) (ending-lists d s (ends_by i core) (writes j) refl)
