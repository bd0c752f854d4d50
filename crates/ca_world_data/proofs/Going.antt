-- Messages that a client sends without being called for it go up its circuits, one after another,
-- where there is room for them.
use Rattle.std.proofs.Common.{◌≡◌, ℕ, suc, ◌+◌, ◌<◌, ◌≤◌, Bool, true, false, inl, inr, List, [], ◌∷◌, ◌++◌, Option, Some, None, eqb, length, refl, sym, ap, subst, ◌∙◌, arith}
use Rattle.std.specs.Prelude.{MatchOption, ◌&&◌, cond, filter, map, slice_set, vec_capacity, vec_len}
use Rattle.std.proofs.lemmas.Bool.{cases_lt}
use Rattle.std.proofs.lemmas.List.{append-nil, append_assoc}
use Rattle.ca_arena.specs.declared.handle.Handle.{Handle}
use Rattle.ca_ids.specs.Table.{same_handle}
use Rattle.ca_text.specs.Place.{At}
use Rattle.ca_text.proofs.Places.{At-mapped, At-one, At-set, At-within, some_is}
use Rattle.ca_model.specs.Answers as answer
use Rattle.ca_model.specs.History as history
use Rattle.ca_model.specs.ClientEvents.{sent_on}
use Rattle.ca_model.specs.World as model
use Rattle.ca_model.specs.World.{Joined}
use Rattle.ca_model.proofs.Handles.{same-itself}
use Rattle.ca_client_core.specs.declared.for_histories.Sending.{Sending}
use Rattle.ca_client_core.specs.ForHistories.{sending_of}
use Rattle.ca_world_data.specs.declared.joined.Joined.{Joined as Opened}
use Rattle.ca_world_data.specs.Found.{AreNumbered, IsAt, IsNowhere}
use Rattle.ca_world_data.specs.Seen.{joined_of}
use Rattle.ca_world_data.specs.Sends.{HasRoomForAll, KeepsRoom, LeavesRoom, count_on}
use Rattle.ca_world_data.specs.Speaking.{GoesBy, GoesUp, HasRoomUp, sent_up, stamped}
use Rattle.ca_world_data.proofs.Indexes.{one-at-client}
use Rattle.ca_world_data.proofs.Sendings.{sent-by}

-- ---- one, and then the rest

module _ (i : ℕ) (n : model.Names) where
  more-on : (s : answer.Sending) (rest : List answer.Sending) (j : Joined) → sent_on i n (s ∷ rest) j ≡ sent_on i n (s ∷ []) j ++ sent_on i n rest j
  more-on s rest j = go (eqb j.client i && j.lists.client_open) (same_handle s.circuit j.at_client) (filter (λ (z : answer.Sending). same_handle z.circuit j.at_client) rest)
    where
      go : (a c : Bool) (xs : List answer.Sending) → cond a (map (stamped n) (cond c (s ∷ xs) xs)) [] ≡ cond a (map (stamped n) (cond c (s ∷ []) [])) [] ++ cond a (map (stamped n) xs) []
      go true true xs = refl
      go true false xs = refl
      go false c xs = refl

  more-up : (s : answer.Sending) (rest : List answer.Sending) (j : Joined) → sent_up i n rest (sent_up i n (s ∷ []) j) ≡ sent_up i n (s ∷ rest) j
  more-up s rest j =
      let up : (j.lists.up ++ sent_on i n (s ∷ []) j) ++ sent_on i n rest j ≡ j.lists.up ++ sent_on i n (s ∷ rest) j =
      append_assoc j.lists.up (sent_on i n (s ∷ []) j) (sent_on i n rest j) ∙ ap (λ (u : List history.Sent). j.lists.up ++ u) (sym (more-on s rest j)) in
      λ t. record j { lists = record j.lists { up = up t } }

  pub all-up : (s : answer.Sending) (rest : List answer.Sending) (ks : List Joined) → map (sent_up i n rest) (map (sent_up i n (s ∷ [])) ks) ≡ map (sent_up i n (s ∷ rest)) ks
  all-up s rest [] = refl
  all-up s rest (j ∷ ks) = λ t. more-up s rest j t ∷ all-up s rest ks t

  -- none go
  none-on : (j : Joined) → sent_on i n [] j ≡ []
  none-on j = go (eqb j.client i && j.lists.client_open)
    where
      go : (a : Bool) → cond a (map (stamped n) []) [] ≡ []
      go true = refl
      go false = refl

  pub none-up : (ks : List Joined) → map (sent_up i n []) ks ≡ ks
  none-up [] = refl
  none-up (j ∷ ks) =
      let up : j.lists.up ++ sent_on i n [] j ≡ j.lists.up = ap (λ (u : List history.Sent). j.lists.up ++ u) (none-on j) ∙ append-nil j.lists.up in
      λ t. record j { lists = record j.lists { up = up t } } ∷ none-up ks t

  -- circuits are where they were
  pub sent-numbers : (sent : List answer.Sending) (numbers : List ℕ) (ks : List Joined) → AreNumbered numbers ks i → AreNumbered numbers (map (sent_up i n sent) ks) i
  sent-numbers sent numbers ks h k j there mine on =
      let d = At-mapped (sent_up i n sent) ks k j there in
      subst (λ (z : Handle). At numbers z.index k) (sym (ap (λ (z : Joined). z.at_client) d.2))
      (h k d.0 d.1 (sym (ap (λ (z : Joined). z.client) d.2) ∙ mine) (sym (ap (λ (z : Joined). z.lists.client_open) d.2) ∙ on))

  pub sent-at : (sent : List answer.Sending) (ks : List Joined) (c : Handle) (k : ℕ) → IsAt (map (sent_up i n sent) ks) i c k → IsAt ks i c k
  sent-at sent ks c k a =
      let d = At-mapped (sent_up i n sent) ks k a.j a.at in
      record {
        j = d.0;
        at = d.1;
        mine = sym (ap (λ (z : Joined). z.client) d.2) ∙ a.mine;
        is_open = sym (ap (λ (z : Joined). z.lists.client_open) d.2) ∙ a.is_open;
        here = sym (ap (λ (z : Joined). z.at_client) d.2) ∙ a.here;
      }

-- ---- room

-- how many go on a circuit, with one more
count-more : (c : Handle) (s : Sending) (rest : List Sending) → same_handle s.circuit c ≡ true → count_on c (s ∷ rest) ≡ count_on c rest + 1
count-more c s rest is = go (same_handle s.circuit c) is (filter (λ (z : Sending). same_handle z.circuit c) rest)
  where
    go : (b : Bool) → b ≡ true → (xs : List Sending) → length (cond b (s ∷ xs) xs) ≡ length xs + 1
    go true e xs = omega arith
    go false e xs = absurd cc

count-same : (c : Handle) (s : Sending) (rest : List Sending) → same_handle s.circuit c ≡ false → count_on c (s ∷ rest) ≡ count_on c rest
count-same c s rest is = go (same_handle s.circuit c) is (filter (λ (z : Sending). same_handle z.circuit c) rest)
  where
    go : (b : Bool) → b ≡ false → (xs : List Sending) → length (cond b (s ∷ xs) xs) ≡ length xs
    go false e xs = refl
    go true e xs = absurd cc

-- there is room for fewer
pub fewer-up : (ks : List Opened) (circuit : Option ℕ) (m n : ℕ) → m ≤ n → HasRoomUp n circuit ks → HasRoomUp m circuit ks
fewer-up ks None m n le room = tt
fewer-up ks (Some k) m n le room = λ j at. (let r = room j at in omega (arith, le, r))

-- there is room for the first
pub room-first : (i : ℕ) (s : Sending) (rest : List Sending) (ks : List Opened) (circuit : Option ℕ) → HasRoomForAll i (s ∷ rest) ks → GoesBy circuit (map joined_of ks) i s.circuit → HasRoomUp 1 circuit ks
room-first i s rest ks None room by = tt
room-first i s rest ks (Some k) room by =
    let count : count_on s.circuit (s ∷ rest) ≡ count_on s.circuit rest + 1 = count-more s.circuit s rest (same-itself s.circuit) in
    fewer-up ks (Some k) 1 (count_on s.circuit (s ∷ rest)) (omega (arith, count)) (room 0 s refl k by)

-- what goes on a circuit went on it, or it goes on another
module _ (i : ℕ) (s : Sending) (rest : List Sending) (ks ks' : List Opened) (circuit : Option ℕ) where
  -- the first took its place, and there is room for the rest
  pub room-rest : HasRoomForAll i (s ∷ rest) ks → GoesBy circuit (map joined_of ks) i s.circuit → LeavesRoom circuit ks ks' → ((c : Handle) (k : ℕ) → IsAt (map joined_of ks') i c k → IsAt (map joined_of ks) i c k) → HasRoomForAll i rest ks'
  room-rest room by leaves back p t at k there =
      let was : IsAt (map joined_of ks) i t.circuit k = back t.circuit k there in
      let full : HasRoomUp (count_on t.circuit (s ∷ rest)) (Some k) ks = room (suc p) t at k was in
      go (same_handle s.circuit t.circuit) refl was full
    where
      apart : (o : Option ℕ) → GoesBy o (map joined_of ks) i s.circuit → IsAt (map joined_of ks) i t.circuit k → same_handle s.circuit t.circuit ≡ false → o ≡ Some k → ⊥
      apart None by' was is e = absurd cc
      apart (Some l) by' was is e =
          let same : l ≡ k = some_is l k e in
          let one : by'.j ≡ was.j = At-one (map joined_of ks) k by'.j was.j (subst (λ (z : ℕ). At (map joined_of ks) z by'.j) same by'.at) was.at in
          let handles : s.circuit ≡ t.circuit = sym by'.here ∙ ap (λ (z : Joined). z.at_client) one ∙ was.here in
          let yes' : same_handle s.circuit t.circuit ≡ true = ap (λ (z : Handle). same_handle s.circuit z) (sym handles) ∙ same-itself s.circuit in
          absurd cc

      go : (b : Bool) → same_handle s.circuit t.circuit ≡ b → IsAt (map joined_of ks) i t.circuit k → HasRoomUp (count_on t.circuit (s ∷ rest)) (Some k) ks → HasRoomUp (count_on t.circuit rest) (Some k) ks'
      go true is was full = leaves.less k (count_on t.circuit rest) (subst (λ (z : ℕ). HasRoomUp z (Some k) ks) (count-more t.circuit s rest is) full)
      go false is was full =
          leaves.others k (count_on t.circuit rest) (apart circuit by was is) (subst (λ (z : ℕ). HasRoomUp z (Some k) ks) (count-same t.circuit s rest is) full)

-- ---- room is made

-- those before this place have room
abbrev pub HasRoomBefore : (i : ℕ) → List Sending → (place : ℕ) → List Opened → Type 0
HasRoomBefore i sent place ks = (p : ℕ) (s : Sending) → At sent p s → p < place → (k : ℕ) → IsAt (map joined_of ks) i s.circuit k → HasRoomUp (count_on s.circuit sent) (Some k) ks

-- room was made where the message at this place goes
pub room-made : (i : ℕ) (numbers : List ℕ) (sent : List Sending) (place : ℕ) (s : Sending) (ks ks' : List Opened) (circuit : Option ℕ) → AreNumbered numbers (map joined_of ks) i → HasRoomBefore i sent place ks → At sent place s → GoesBy circuit (map joined_of ks) i s.circuit
    → map joined_of ks' ≡ map joined_of ks → HasRoomUp (count_on s.circuit sent) circuit ks' → KeepsRoom ks ks' → HasRoomBefore i sent (place + 1) ks'
room-made i numbers sent place s ks ks' circuit numbered room at by same made keeps p t there before k is_at =
    let was : IsAt (map joined_of ks) i t.circuit k = subst (λ (z : List Joined). IsAt z i t.circuit k) same is_at in
    elim (cases_lt p place) [
      | inl lt ↦ keeps k (count_on t.circuit sent) (room p t there lt k was)
      | inr ge ↦
          (let here : p ≡ place = omega (arith, before, ge) in
          let is : t ≡ s = At-one sent place t s (subst (λ (z : ℕ). At sent z t) here there) at in
          let circuits : s.circuit ≡ t.circuit = ap (λ (z : Sending). z.circuit) (sym is) in
          subst (λ (z : Handle). HasRoomUp (count_on z sent) (Some k) ks') circuits
          (at-one circuit by made (subst (λ (z : Handle). IsAt (map joined_of ks) i z k) (sym circuits) was)))
    ]
  where
    at-one : (o : Option ℕ) → GoesBy o (map joined_of ks) i s.circuit → HasRoomUp (count_on s.circuit sent) o ks' → IsAt (map joined_of ks) i s.circuit k → HasRoomUp (count_on s.circuit sent) (Some k) ks'
    at-one None by' made' was = absurd (by' k was.j was.at was.mine was.is_open was.here)
    at-one (Some l) by' made' was =
        let one : l ≡ k =
        one-at-client numbers (map joined_of ks) i numbered l k by'.j was.j by'.at was.at by'.mine was.mine by'.is_open was.is_open (by'.here ∙ sym was.here) in
        subst (λ (z : ℕ). HasRoomUp (count_on s.circuit sent) (Some z) ks') one made'

-- all have room, once each place was seen
pub room-all : (i : ℕ) (sent : List Sending) (place : ℕ) (ks : List Opened) → length sent ≤ place → HasRoomBefore i sent place ks → HasRoomForAll i sent ks
room-all i sent place ks over room p s at = room p s at (let within = At-within sent p s at in omega (arith, over, within))

-- ---- one circuit among others

-- a circuit that has as much room, and as many messages
pub keeps-set : (ks : List Opened) (number : ℕ) (j new : Opened) → At ks number j → vec_len new.lists.up ≡ vec_len j.lists.up → vec_capacity j.lists.up ≤ vec_capacity new.lists.up → KeepsRoom ks (slice_set ks number new)
keeps-set ks number j new at len capacity k n room d there =
    elim (At-set ks number new k d there) [
      | inl is ↦
          (let had = room j (subst (λ (z : ℕ). At ks z j) (sym is.0) at) in
          subst (λ (z : Opened). vec_len z.lists.up + n ≤ vec_capacity z.lists.up) (sym is.1) (omega (arith, had, len, capacity)))
      | inr old ↦ room d old.0
    ]

-- a circuit that has a message more
pub leaves-set : (ks : List Opened) (number : ℕ) (j new : Opened) → At ks number j → vec_len new.lists.up ≡ vec_len j.lists.up + 1 → vec_capacity new.lists.up ≡ vec_capacity j.lists.up → LeavesRoom (Some number) ks (slice_set ks number new)
leaves-set ks number j new at len capacity = record { less = less; others = others }
  where
    less : (k n : ℕ) → HasRoomUp (n + 1) (Some k) ks → HasRoomUp n (Some k) (slice_set ks number new)
    less k n room d there =
        elim (At-set ks number new k d there) [
          | inl is ↦
              (let had = room j (subst (λ (z : ℕ). At ks z j) (sym is.0) at) in
              subst (λ (z : Opened). vec_len z.lists.up + n ≤ vec_capacity z.lists.up) (sym is.1) (omega (arith, had, len, capacity)))
          | inr old ↦ (let had = room d old.0 in omega (arith, had))
        ]

    others : (k n : ℕ) → (Some number ≡ Some k → ⊥) → HasRoomUp n (Some k) ks → HasRoomUp n (Some k) (slice_set ks number new)
    others k n other room d there =
        elim (At-set ks number new k d there) [
          | inl is ↦ absurd (other (ap (λ (z : ℕ). let o : Option ℕ = Some z in o) (sym is.0)))
          | inr old ↦ room d old.0
        ]

-- ---- one message was put on its circuit

-- where the circuit was looked for
pub goes-by : (o : Option ℕ) (ks : List Joined) (i : ℕ) (c : Handle) → MatchOption o (IsNowhere ks i c) (IsAt ks i c) → GoesBy o ks i c
goes-by None ks i c h = h
goes-by (Some k) ks i c h = h

-- what is left to go, and where
pub record Goes (numbers : List ℕ) (i : ℕ) (n : model.Names) (rest : List Sending) (ks' : List Opened) (all : List Joined) : Type 0 where
  pub numbered : AreNumbered numbers (map joined_of ks') i
  pub room : HasRoomForAll i rest ks'
  pub circuits : map (sent_up i n (map sending_of rest)) (map joined_of ks') ≡ all

pub went-up : (numbers : List ℕ) (i : ℕ) (n : model.Names) (s : Sending) (rest : List Sending) (ks ks' : List Opened) (circuit : Option ℕ) (said : history.Sent) (all : List Joined) → AreNumbered numbers (map joined_of ks) i → HasRoomForAll i (s ∷ rest) ks
    → GoesBy circuit (map joined_of ks) i s.circuit → said ≡ stamped n (sending_of s) → GoesUp circuit said (map joined_of ks) (map joined_of ks') → LeavesRoom circuit ks ks' → map (sent_up i n (map sending_of (s ∷ rest))) (map joined_of ks) ≡ all
    → Goes numbers i n rest ks' all
went-up numbers i n s rest ks ks' circuit said all numbered room by is goes leaves total =
    let up : map joined_of ks' ≡ map (sent_up i n (sending_of s ∷ [])) (map joined_of ks) =
    sent-by i n (sending_of s) numbers circuit (map joined_of ks) (map joined_of ks') numbered by (subst (λ (z : history.Sent). GoesUp circuit z (map joined_of ks) (map joined_of ks')) is goes) in
    record {
      numbered = subst (λ (z : List Joined). AreNumbered numbers z i) (sym up) (sent-numbers i n (sending_of s ∷ []) numbers (map joined_of ks) numbered);
      room = room-rest i s rest ks ks' circuit room by leaves (λ c k there. sent-at i n (sending_of s ∷ []) (map joined_of ks) c k (subst (λ (z : List Joined). IsAt z i c k) up there));
      circuits = ap (map (sent_up i n (map sending_of rest))) up ∙ all-up i n (sending_of s) (map sending_of rest) (map joined_of ks) ∙ total;
    }
