-- A step of a server's end that handles a message: its circuit, and the records of
-- its server, after it.
use Rattle.std.proofs.Common.{◌≡◌, ℕ, ◌+◌, Bool, true, false, cond, ◌&&◌, eqb, List, [], ◌∷◌, length, Option, Some, None, refl, sym, ap, subst, ◌∙◌}
use Rattle.std.specs.Prelude.{map, option_map, slice_get, slice_set, unwrap_or}
use Rattle.std.specs.List.{fold}
use Rattle.ca_ids.specs.Table.{under}
use Rattle.ca_queue.specs.declared.entry.SubKey.{SubKey}
use Rattle.ca_queue.specs.Keys.{same}
use Rattle.ca_text.specs.Place.{At}
use Rattle.ca_text.proofs.Places.{At-map, At-mapped, At-one}
use Rattle.ca_model.specs.Due.{Action, Adds, Applies, Clears, Drops, Opens, Switches}
use Rattle.ca_model.specs.Due as action
use Rattle.ca_model.specs.History.{Step}
use Rattle.ca_model.specs.Server.{Server}
use Rattle.ca_model.specs.Speech.{In}
use Rattle.ca_model.specs.ServerEvents.{StepHandles, acted, ending, ends_at, ends_by, handled_at, keys_concerned, logged, numbers_after, records_after, reported, server_after, side_of, with_number, without_puts, write_numbers}
use Rattle.ca_model.specs.World.{Joined, PutPlace, ServerSide, Standing, World, with_circuit}
use Rattle.ca_laws_parts.proofs.Midway.{set-here}
use Rattle.ca_laws_parts.proofs.Seats.{open-still}

module _ (w new : World) (k : ℕ) (j : Joined) (y : ServerSide) (f : StepHandles w k j y new) where
  abbrev pub place : ℕ
  place = length j.lists.handled

  abbrev pub own : PutPlace
  own = record { circuit = k; place = place }

  abbrev pub did : Action
  did = (f.steps.0).action

  abbrev pub mid : World
  mid = acted k j y did w

  abbrev pub after : World
  after = server_after j.server (side_of j.server y mid) (ends_by j.server f.core) f.core mid

  abbrev pub moved : Joined
  moved = write_numbers j.server y.core did (numbers_after place did j)

  abbrev pub last : Joined
  last = ending (ends_by j.server f.core) moved

  abbrev pub step : Step
  step = record { sent = length j.lists.down; logged = logged y w; after = logged y after }

  -- its records by place: those after the message, but for what circuits that ended withdrew
  pub sides-are : At w.servers j.server y → (z : ServerSide) → At new.servers j.server z → z.records ≡ map (without_puts (ends_at (ends_by j.server f.core) mid.circuits)) (records_after y.core j.at_server own did y.records)
  sides-are at z there =
      let side : ServerSide = record y { records = records_after y.core j.at_server own did y.records } in
      let next : ServerSide → ServerSide = λ (x : ServerSide). record x { core = reported f.core; records = map (without_puts (ends_at (ends_by j.server f.core) mid.circuits)) x.records } in
      let side_is : side_of j.server y mid ≡ side = ap (λ (o : Option ServerSide). unwrap_or o y) (set-here w.servers j.server y side at) in
      let there_after : At after.servers j.server z = subst (λ (l : List ServerSide). At l j.server z) (ap (λ (v : World). v.servers) f.leaves ∙ noted (slice_get after.circuits k)) there in
      let z_is : z ≡ next (side_of j.server y mid) = At-one after.servers j.server z (next (side_of j.server y mid)) there_after (set-here mid.servers j.server side (next (side_of j.server y mid)) (set-here w.servers j.server y side at)) in
      ap (λ (x : ServerSide). x.records) (z_is ∙ ap next side_is)
    where
      noted : (o : Option Joined) → (unwrap_or (option_map (λ (c : Joined). with_circuit k (handled_at place step (f.steps.0).replies c) after) o) after).servers ≡ after.servers
      noted None = refl
      noted (Some c) = refl

  -- its circuit, if that is open still
  pub circuit-is : At w.circuits k j → (d : Joined) → At new.circuits k d → d.lists.server_open ≡ true → d ≡ handled_at place step (f.steps.0).replies moved
  circuit-is on d at opened =
      let there : At after.circuits k last =
      At-map (ending (ends_by j.server f.core)) mid.circuits k moved
      (At-map (write_numbers j.server y.core did) (slice_set w.circuits k (numbers_after place did j)) k (numbers_after place did j) (set-here w.circuits k j (numbers_after place did j) on)) in
      let noted : Joined = handled_at place step (f.steps.0).replies last in
      let new_is : new ≡ with_circuit k noted after = f.leaves ∙ ap (λ (o : Option Joined). unwrap_or (option_map (λ (c : Joined). with_circuit k (handled_at place step (f.steps.0).replies c) after) o) after) there in
      let d_is : d ≡ noted = At-one (slice_set after.circuits k noted) k d noted (subst (λ (v : World). At v.circuits k d) new_is at) (set-here after.circuits k last noted there) in
      let still = open-still (ends_by j.server f.core) moved last refl (ap (λ (z : Joined). z.lists.server_open) (sym d_is) ∙ opened) in
      d_is ∙ ap (λ (z : Joined). handled_at place step (f.steps.0).replies z) still.1

-- ---- what stands and is open after numbers were told

pub numbered-standing : (c : Joined) (keys : List SubKey) (s : Standing) → In (fold with_number c keys).standing s → (t : Standing) × In c.standing t × (t.place ≡ s.place)
numbered-standing c [] s at = (s, at, refl)
numbered-standing c (key ∷ keys) s at =
    let r = numbered-standing (with_number c key) keys s at in
    let x = At-mapped (λ (t : Standing). cond (same key t.key) (record t { posts = t.posts + 1 }) t) c.standing r.1.0 r.0 r.1.1 in
    (x.0, (r.1.0, x.1), sym (ap (λ (t : Standing). t.place) x.2 ∙ one x.0 (same key x.0.key)) ∙ r.2)
  where
    one : (t : Standing) (b : Bool) → (cond b (record t { posts = t.posts + 1 }) t).place ≡ t.place
    one t true = refl
    one t false = refl

numbered-creations : (c : Joined) (keys : List SubKey) → (fold with_number c keys).creations ≡ c.creations
numbered-creations c [] = refl
numbered-creations c (key ∷ keys) = numbered-creations (with_number c key) keys

pub written-parts : (i : ℕ) (core : Server) (did : Action) (c : Joined) → ((write_numbers i core did c).creations ≡ c.creations) × ((s : Standing) → In (write_numbers i core did c).standing s → (t : Standing) × In c.standing t × (t.place ≡ s.place))
written-parts i core (Applies name value busies) c = go (eqb c.server i && c.lists.server_open)
  where
    keys : List SubKey
    keys = keys_concerned name 3 (under core.circuits c.at_server)

    go : (b : Bool) → ((cond b (fold with_number c keys) c).creations ≡ c.creations) × ((s : Standing) → In (cond b (fold with_number c keys) c).standing s → (t : Standing) × In c.standing t × (t.place ≡ s.place))
    go true = (numbered-creations c keys, numbered-standing c keys)
    go false = (refl, λ s at. (s, at, refl))
written-parts i core (action.Waits name value) c = (refl, λ s at. (s, at, refl))
written-parts i core (action.Clears sid) c = (refl, λ s at. (s, at, refl))
written-parts i core action.Nothing c = (refl, λ s at. (s, at, refl))
written-parts i core action.Greets c = (refl, λ s at. (s, at, refl))
written-parts i core (action.Names x) c = (refl, λ s at. (s, at, refl))
written-parts i core (action.Opens x) c = (refl, λ s at. (s, at, refl))
written-parts i core (action.Adds x) c = (refl, λ s at. (s, at, refl))
written-parts i core (action.Drops x) c = (refl, λ s at. (s, at, refl))
written-parts i core (action.Switches x) c = (refl, λ s at. (s, at, refl))
