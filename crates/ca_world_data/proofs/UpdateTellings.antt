-- A circuit on which updates went down, as the statement has it.
use Rattle.std.proofs.Common.{◌≡◌, ◌-◌, ℕ, suc, ◌+◌, ◌<◌, ◌≤◌, List, [], ◌∷◌, ◌++◌, length, drop, take, map, Some, refl, sym, ap, subst, ◌∙◌, arith}
use Rattle.std.specs.List.{FoldsTo}
use Rattle.std.specs.Prelude.{Vec, slice_set, vec_capacity, vec_len}
use Rattle.std.specs.declared.alloc.Global.{Global}
use Rattle.std.proofs.lemmas.List.{drop-drop, drop_at, length-append, length-drop, map-append, take_all}
use Rattle.ca_queue.specs.declared.entry.SubKey.{SubKey}
use Rattle.ca_queue.specs.declared.list_queue.ListQueue.{ListQueue}
use Rattle.ca_queue.specs.Circuit.{RestBefore, Takes}
use Rattle.ca_queue.specs.Images.{queue_images}
use Rattle.ca_queue.specs.Queue.{Queue}
use Rattle.ca_text.specs.Place.{At}
use Rattle.ca_wire.specs.Fields.{Fields}
use Rattle.ca_wire.specs.Front.{FrontFits}
use Rattle.ca_wire.specs.Message.{spelled, spelling}
use Rattle.ca_wire.proofs.Messages.{spelling-long}
use Rattle.ca_model.specs.History as history
use Rattle.ca_model.specs.Server.{ServerEnd, key_of}
use Rattle.ca_model.specs.ServerSteps.{Leaves, Update}
use Rattle.ca_model.specs.World as model
use Rattle.ca_world_data.specs.declared.history.Cause.{Cause}
use Rattle.ca_world_data.specs.declared.history.Told.{Told}
use Rattle.ca_world_data.specs.declared.joined.Joined.{Joined}
use Rattle.ca_world_data.specs.Seen.{cause_of, joined_of, lists_of, queue_of, told_of}
use Rattle.ca_world_data.specs.Updates.{HaveRooms, IsRoomFor, MayTell, TellsNext, TellsOne, WaitAlike, bare, how_many, shown_by}
use Rattle.ca_world_data.proofs.UpdatesGiven.{bare-images, fewer, its-room, none-leaves, rooms-left, rooms-there, takes-same}
use Rattle.ca_world_data.proofs.UpdatesTold.{takes-images}

-- ---- the numbers that wait

-- a number as the statement has it
abbrev number_of : ℕ × Cause → ℕ × history.Cause
number_of u = (u.0, cause_of u.1)

-- the queues that are seen
abbrev pub seen : ListQueue (ℕ × Cause) → Queue (ℕ × Cause)
seen q = q.0

queues-seen : (qs : List (ListQueue (ℕ × Cause))) → map (λ (q : ListQueue (ℕ × Cause)). queue_of q.0) qs ≡ map (queue_images number_of) (map seen qs)
queues-seen [] = refl
queues-seen (q ∷ qs) = ap (λ (t : List (Queue (ℕ × history.Cause))). queue_of q.0 ∷ t) (queues-seen qs)

-- the same waits, as the statement has the numbers and as the code has them
pub seen-bare : (qs : List (ListQueue (ℕ × Cause))) → bare (map (λ (q : ListQueue (ℕ × Cause)). queue_of q.0) qs) ≡ bare (map seen qs)
seen-bare qs = ap (λ (rs : List (Queue (ℕ × history.Cause))). bare rs) (queues-seen qs) ∙ bare-images number_of (map seen qs)

-- ---- an update goes down

-- with the number that was taken
tells-one : (j : Joined) (down : Vec Told Global) (queues : Vec (ListQueue (ℕ × Cause)) Global) (m made : Fields) (n : ℕ) (key : SubKey) (item : ℕ × Cause) → made ≡ m
    → Takes (map seen j.queues.items) (Some (n, key, item)) (map seen queues.items) → down.items ≡ j.lists.down.items ++ record { message = made; place = item.0; cause = item.1 } ∷ []
    → TellsOne (joined_of j) m (joined_of (record j { lists = record j.lists { down = down }; queues = queues }))
tells-one j down queues m made n key item is takes told =
    let downs : map told_of down.items ≡ map told_of j.lists.down.items ++ record { message = m; place = item.0; cause = cause_of item.1 } ∷ [] =
    ap (map told_of) told ∙ map-append told_of j.lists.down.items (record { message = made; place = item.0; cause = item.1 } ∷ [])
    ∙ ap (λ (x : Fields). map told_of j.lists.down.items ++ record { message = x; place = item.0; cause = cause_of item.1 } ∷ []) is in
    record {
      place = n;
      key = key;
      item = number_of item;
      queues = map (queue_images number_of) (map seen queues.items);
      takes =
          subst (λ (qs : List (Queue (ℕ × history.Cause))). Takes qs (Some (n, key, number_of item)) (map (queue_images number_of) (map seen queues.items))) (sym (queues-seen j.queues.items))
          (takes-images number_of (map seen j.queues.items) (map seen queues.items) n key item takes);
      is = λ t. record (joined_of j) { queues = queues-seen queues.items t; lists = record (lists_of j.lists) { down = downs t } };
    }

abbrev Rooms : Type 0
Rooms = List (List (Vec ℕ Global))

module _ (e : ServerEnd) (u : Update) (us : List Update) (bytes : List ℕ) (j : Joined) (rooms : Rooms) (may : MayTell e (u ∷ us) bytes j rooms) where
  abbrev mid : ServerEnd
  mid = (may.leave).0

  abbrev one : Leaves e u mid
  one = (may.leave).1

  alike : WaitAlike e.queues (map seen j.queues.items)
  alike = may.alike ∙ seen-bare j.queues.items

  -- a number is given
  pub some-number : RestBefore (map seen j.queues.items) (length (map seen j.queues.items)) → ⊥
  some-number rest = none-leaves e (map seen j.queues.items) alike rest u mid one

  -- while one is left there is room for it in what went down
  pub room-down : (place : ℕ) (room : Vec ℕ Global) (left : List (Vec ℕ Global)) → At rooms place (room ∷ left) → vec_len j.lists.down < vec_capacity j.lists.down
  room-down place room left here =
      let few : how_many rooms ≡ how_many (slice_set rooms place left) + 1 = fewer rooms place room left here in
      let was : vec_len j.lists.down + how_many rooms ≤ vec_capacity j.lists.down = (may.memory).down in
      omega (arith, few, was)

  module _ (place : ℕ) (key : SubKey) (item : ℕ × Cause) (queues : Vec (ListQueue (ℕ × Cause)) Global) (takes : Takes (map seen j.queues.items) (Some (place, key, item)) (map seen queues.items)) where
    same : (u.queue ≡ place) × WaitAlike mid.queues (map seen queues.items)
    same = takes-same e mid u one (map seen j.queues.items) alike place key item (map seen queues.items) takes

    -- its queue has memory
    pub has-rooms : place < length rooms
    has-rooms = subst (λ (n : ℕ). n < length rooms) same.0 (rooms-there e mid u one rooms (may.memory).own)

    has-room : (own : List (Vec ℕ Global)) → At rooms place own → (room : Vec ℕ Global) × (left : List (Vec ℕ Global)) × (own ≡ room ∷ left) × IsRoomFor e (key_of u.of, u.carries) room
    has-room own here = its-room e mid u one rooms (may.memory).own own (subst (λ (n : ℕ). At rooms n own) (sym same.0) here)

    pub some-room : (own : List (Vec ℕ Global)) → At rooms place own → length own ≡ 0 → ⊥
    some-room own here none =
        let r = has-room own here in
        let long : length own ≡ length (r.0 ∷ r.1) = ap (λ (l : List (Vec ℕ Global)). length l) r.2 in
        omega (arith, none, long)

    module _ (room : Vec ℕ Global) (left : List (Vec ℕ Global)) (here : At rooms place (room ∷ left)) where
      is-room : IsRoomFor e (key_of u.of, u.carries) room
      is-room =
          let r = has-room (room ∷ left) here in
          let is : room ≡ r.0 = (let both = r.2 in cc) in
          subst (λ (v : Vec ℕ Global). IsRoomFor e (key_of u.of, u.carries) v) (sym is) r.3

      pub room-fits : FrontFits bytes (vec_capacity room)
      room-fits =
          let r = is-room in
          record { m = u.message; good = may.good 0 u.message refl; rest = spelled (shown_by us); begins = may.are; fits = r.fits u.of u.message one.stands refl one.shows }

      pub room-empty : room.items ≡ []
      room-empty = (let r = is-room in r.empty)

      -- it is told, and the others may be
      pub tells-next : (down : Vec Told Global) (made : Fields) (n : ℕ) → made ≡ u.message → n ≡ length (spelling made) → down.items ≡ j.lists.down.items ++ record { message = made; place = item.0; cause = item.1 } ∷ []
          → vec_len down ≡ vec_len j.lists.down + 1 → vec_capacity down ≡ vec_capacity j.lists.down
          → TellsNext u us bytes j n (record j { lists = record j.lists { down = down }; queues = queues }) (slice_set rooms place left)
      tells-next down made n is size told long wide =
          let size_is : n ≡ length (spelling u.message) = size ∙ ap (λ (m : Fields). length (spelling m)) is in
          let few : how_many rooms ≡ how_many (slice_set rooms place left) + 1 = fewer rooms place room left here in
          let was : vec_len j.lists.down + how_many rooms ≤ vec_capacity j.lists.down = (may.memory).down in
          record {
            size = size_is;
            told = tells-one j down queues u.message made place key item is takes told;
            mid = mid;
            left = record {
              after = may.after;
              leave = (may.leave).2;
              good = λ i m at. may.good (suc i) m at;
              are = ap (drop n) may.are ∙ drop_at (spelling u.message) (spelled (shown_by us)) n (sym size_is);
              alike = same.1 ∙ sym (seen-bare queues.items);
              memory = record {
                own = subst (λ (k : ℕ). HaveRooms mid (slice_set rooms k left)) same.0 (rooms-left e mid u one rooms (may.memory).own room left (subst (λ (k : ℕ). At rooms k (room ∷ left)) (sym same.0) here));
                down = omega (arith, few, was, long, wide);
              };
            };
          }

-- ---- one after another

-- Some of these updates went down, and the others may. If they do, all did.
pub record Telling (us : List Update) (bytes : List ℕ) (first : model.Joined) (j : Joined) (rooms : Rooms) : Type 0 where
  pub e : ServerEnd
  pub others : List Update
  pub may : MayTell e others bytes j rooms
  pub all : (new : model.Joined) → FoldsTo TellsOne (joined_of j) (shown_by others) new → FoldsTo TellsOne first (shown_by us) new

-- the slice from a place on
pub rest-is : (bytes : List ℕ) (n : ℕ) → take (length bytes - n) (drop n bytes) ≡ drop n bytes
rest-is bytes n = (let len = length-drop n bytes in take_all (length bytes - n) (drop n bytes) (omega (arith, len)))

-- an update has bytes
next-long : (u : Update) (us : List Update) (bytes : List ℕ) → bytes ≡ spelled (shown_by (u ∷ us)) → (0 < length (spelling u.message)) × (length (spelling u.message) ≤ length bytes)
next-long u us bytes are =
    let long = spelling-long u.message in
    let both : length bytes ≡ length (spelling u.message) + length (spelled (shown_by us)) = ap (λ (l : List ℕ). length l) are ∙ length-append (spelling u.message) (spelled (shown_by us)) in
    (omega (arith, long), omega (arith, both))

-- where there are bytes there is an update
next-there : (us : List Update) (bytes : List ℕ) → bytes ≡ spelled (shown_by us) → 0 < length bytes → (u : Update) × (vs : List Update) × (us ≡ u ∷ vs)
next-there [] bytes are some = (let none : length bytes ≡ 0 = ap (λ (l : List ℕ). length l) are in absurd (omega (arith, none, some)))
next-there (u ∷ us) bytes are some = (u, us, refl)

module _ (us : List Update) (bytes : List ℕ) (first : model.Joined) (j : Joined) (rooms : Rooms) (read : ℕ) (t : Telling us (drop read bytes) first j rooms) where
  abbrev slice : List ℕ
  slice = take (length bytes - read) (drop read bytes)

  module _ (lt : read < length bytes) where
    next : (u : Update) × (vs : List Update) × (t.others ≡ u ∷ vs)
    next = next-there t.others (drop read bytes) (t.may).are (let len = length-drop read bytes in omega (arith, len, lt))

    next_may : MayTell t.e (next.0 ∷ next.1) slice j rooms
    next_may = subst (λ (z : List Update × List ℕ). MayTell t.e z.0 z.1 j rooms) (λ i. (next.2 i, sym (rest-is bytes read) i)) t.may

    -- the next may be told
    pub next-told : (e : ServerEnd) × (u : Update) × (vs : List Update) × MayTell e (u ∷ vs) slice j rooms
    next-told = (t.e, next.0, next.1, next_may)

    -- it went down
    pub more-told : (n : ℕ) (new : Joined) (rest : Rooms) → ((e : ServerEnd) (u : Update) (vs : List Update) → MayTell e (u ∷ vs) slice j rooms → TellsNext u vs slice j n new rest)
        → (0 < n) × (read + n ≤ length bytes) × Telling us (drop (read + n) bytes) first new rest
    more-told n new rest tells =
        let d = tells t.e next.0 next.1 next_may in
        let size : n ≡ length (spelling (next.0).message) = d.size in
        let long = next-long next.0 next.1 slice next_may.are in
        let within : length slice ≡ length bytes - read = ap (λ (l : List ℕ). length l) (rest-is bytes read) ∙ length-drop read bytes in (
          omega (arith, size, long.0),
          omega (arith, size, long.1, within, lt),
          record {
            e = d.mid;
            others = next.1;
            may = subst (λ (b : List ℕ). MayTell d.mid next.1 b new rest) (ap (drop n) (rest-is bytes read) ∙ drop-drop n read bytes) d.left;
            all = λ z folds. t.all z (subst (λ (vs : List Update). FoldsTo TellsOne (joined_of j) (shown_by vs) z) (sym next.2) (joined_of new, d.told, folds));
          },
        )

  -- without more bytes all went down
  pub all-told : length bytes ≤ read → FoldsTo TellsOne first (shown_by us) (joined_of j)
  all-told over = t.all (joined_of j) (go t.others (t.may).are)
    where
      go : (others : List Update) → drop read bytes ≡ spelled (shown_by others) → FoldsTo TellsOne (joined_of j) (shown_by others) (joined_of j)
      go [] are = refl
      go (u ∷ vs) are =
          let long = next-long u vs (drop read bytes) are in
          let none = length-drop read bytes in
          absurd (omega (arith, long.0, long.1, none, over))
