-- A step of a client's end, in the history of its circuit.
use Rattle.std.proofs.Common.{◌≡◌, ℕ, zero, suc, ◌+◌, ◌<◌, ◌≤◌, inl, inr, List, [], ◌∷◌, Result, Ok, Err, length, refl, sym, ap, subst, ◌∙◌, arith}
use Rattle.std.specs.Prelude.{map, OnOk, slice_set, Vec, vec_capacity, vec_len}
use Rattle.std.specs.declared.alloc.Global.{Global}
use Rattle.std.proofs.lemmas.List.{length-append, length-map}
use Rattle.ca_arena.specs.declared.handle.Handle.{Handle}
use Rattle.ca_text.specs.Place.{At}
use Rattle.ca_text.proofs.Places.{At-map, At-one, At-set, some_is}
use Rattle.ca_client_core.specs.declared.for_histories.Sending.{Sending as Foretold}
use Rattle.ca_client_core.specs.ForHistories.{SendsNext}
use Rattle.ca_model.specs.Answers.{Notice, Sending, Stepped}
use Rattle.ca_model.specs.Answers as notice
use Rattle.ca_model.specs.Client.{Client}
use Rattle.ca_model.specs.ClientEnds.{ClientSteps}
use Rattle.ca_model.specs.History.{Intent, Line, Step}
use Rattle.ca_model.specs.ClientEvents.{about_at, client_closed, heard_in, lines_of}
use Rattle.ca_model.specs.World.{ClientSide, Joined, grown, log_length}
use Rattle.ca_world_data.specs.declared.client.ClientSide as real
use Rattle.ca_world_data.specs.declared.history.Line.{Line as Written}
use Rattle.ca_world_data.specs.declared.joined.Joined.{Joined as Opened}
use Rattle.ca_world_data.specs.ClientSteps.{HasRoomHeard, IsHeard, IsReadyToStep, LeavesStepped, StepsClient, StepsOn, TellsFew, notices_in, step_at}
use Rattle.ca_world_data.specs.Found.{AreNumbered, IsAt}
use Rattle.ca_world_data.specs.Logs.{HasRoom, lines_in}
use Rattle.ca_world_data.specs.Seen.{joined_of, line_of}
use Rattle.ca_world_data.specs.Sends.{HasRoomForAll, KeepsRoom, count_on}
use Rattle.ca_world_data.specs.Speaking.{sent_up}
use Rattle.ca_world_data.proofs.Worlds.{set-map}

-- ---- logs

-- a log that grew is so much longer
pub logged-more : (logs : List (List Line)) (life : ℕ) (more : List Line) → life < length logs → log_length life (grown life more logs) ≡ log_length life logs + length more
logged-more [] life more within = absurd (omega (arith, within))
logged-more (x ∷ logs) zero more within = length-append x more
logged-more (x ∷ logs) (suc life) more within = logged-more logs life more (omega (arith, within))

-- as many lives have logs
pub as-many : (logs logs' : List (Vec Written Global)) (life : ℕ) → lines_in logs' ≡ lines_in logs → life < length logs → life < length logs'
as-many logs logs' life same within =
    let of : Vec Written Global → List Line = λ (l : Vec Written Global). map line_of l.items in
    let a = length-map logs of in
    let b = length-map logs' of in
    let c : length (lines_in logs') ≡ length (lines_in logs) = ap (λ (z : List (List Line)). length z) same in
    omega (arith, within, a, b, c)

-- as many circuits
pub as-many-circuits : (ks ks' : List Opened) (k : ℕ) → map joined_of ks' ≡ map joined_of ks → k < length ks → k < length ks'
as-many-circuits ks ks' k same within =
    let a = length-map ks joined_of in
    let b = length-map ks' joined_of in
    let c : length (map joined_of ks') ≡ length (map joined_of ks) = ap (λ (z : List Joined). length z) same in
    omega (arith, within, a, b, c)

-- the same circuit
pub same-there : (ks ks' : List Opened) (k : ℕ) (j : Opened) (d : Joined) → map joined_of ks' ≡ map joined_of ks → At ks' k j → At (map joined_of ks) k d → d ≡ joined_of j
same-there ks ks' k j d same at there = At-one (map joined_of ks) k d (joined_of j) there (subst (λ (z : List Joined). At z k (joined_of j)) same (At-map joined_of ks' k j at))

-- ---- room

-- there is room for a step
pub heard-room : (ks : List Opened) (k : ℕ) (new : Opened) → vec_len new.lists.heard + 1 ≤ vec_capacity new.lists.heard → HasRoomHeard k (slice_set ks k new)
heard-room [] k new room j at = absurd cc
heard-room (x ∷ ks) zero new room j at = subst (λ (z : Opened). vec_len z.lists.heard + 1 ≤ vec_capacity z.lists.heard) (some_is new j at) room
heard-room (x ∷ ks) (suc k) new room j at = heard-room ks k new room j at

-- circuits on which as much fits, that are where they were
pub all-kept : (i : ℕ) (sent : List Foretold) (ks ks' : List Opened) → ((c : Handle) (k : ℕ) → IsAt (map joined_of ks') i c k → IsAt (map joined_of ks) i c k) → KeepsRoom ks ks' → HasRoomForAll i sent ks → HasRoomForAll i sent ks'
all-kept i sent ks ks' back keeps room p s at k there = keeps k (count_on s.circuit sent) (room p s at k (back s.circuit k there))

-- ---- the circuit that has a step more

pub heard-one : (ks : List Opened) (k logged after : ℕ) (j new : Opened) → At ks k j → joined_of new ≡ heard_in (step_at (joined_of j) logged after) (joined_of j) → IsHeard k logged after (map joined_of ks) (map joined_of (slice_set ks k new))
heard-one ks k logged after j new at is d there =
    let same : d ≡ joined_of j = At-one (map joined_of ks) k d (joined_of j) there (At-map joined_of ks k j at) in
    set-map joined_of ks k new ∙ ap (slice_set (map joined_of ks) k) (is ∙ ap (λ (z : Joined). heard_in (step_at z logged after) z) (sym same))

module _ (ks ks' : List Joined) (k : ℕ) (s : Step) (j : Joined) (at : At ks k j) (is : ks' ≡ slice_set ks k (heard_in s j)) where
  -- each circuit came from one that was there, with the same ends
  heard-back : (l : ℕ) (d : Joined) → At ks' l d → (e : Joined) × At ks l e × (d.client ≡ e.client) × (d.lists.client_open ≡ e.lists.client_open) × (d.at_client ≡ e.at_client)
  heard-back l d there =
      elim (At-set ks k (heard_in s j) l d (subst (λ (z : List Joined). At z l d) is there)) [
        | inl (place, same) ↦ (
          j,
          subst (λ (z : ℕ). At ks z j) (sym place) at,
          ap (λ (z : Joined). z.client) same,
          ap (λ (z : Joined). z.lists.client_open) same,
          ap (λ (z : Joined). z.at_client) same,
        )
        | inr (old, other) ↦ (d, old, refl, refl, refl)
      ]

  pub heard-numbered : (numbers : List ℕ) (i : ℕ) → AreNumbered numbers ks i → AreNumbered numbers ks' i
  heard-numbered numbers i h l d there mine on =
      let b = heard-back l d there in
      subst (λ (z : Handle). At numbers z.index l) (sym b.4) (h l b.0 b.1 (sym b.2 ∙ mine) (sym b.3 ∙ on))

  pub heard-at : (i : ℕ) (c : Handle) (l : ℕ) → IsAt ks' i c l → IsAt ks i c l
  heard-at i c l a =
      let b = heard-back l a.j a.at in
      record { j = b.0; at = b.1; mine = sym b.2 ∙ a.mine; is_open = sym b.3 ∙ a.is_open; here = sym b.4 ∙ a.here }

-- ---- what is ready

-- a fact of each success
pub on-ok : {T E : Type 0} (P Q : Type 0) (r : Result T E) → (P → Q) → OnOk r P → OnOk r Q
on-ok P Q (Ok v) f p = f p
on-ok P Q (Err e) f p = p

-- what the end is about to send is known, and there is room
pub ready-to-step : (i k lines : ℕ) (x : real.ClientSide) (sent : List Foretold) (ks mid ks' : List Opened) (logs : List (Vec Written Global)) (j : Opened) → At ks k j → map joined_of mid ≡ map joined_of ks → map joined_of ks' ≡ map joined_of mid
    → SendsNext x.core j.at_client sent → HasRoom lines x.life logs → HasRoomForAll i sent mid → KeepsRoom mid ks' → HasRoomHeard k ks' → IsReadyToStep i k x lines sent ks' logs
ready-to-step i k lines x sent ks mid ks' logs j at was is sends room messages keeps heard = record {
  foretold = λ d there.
      (let same : joined_of j ≡ joined_of d = same-there ks ks' k d (joined_of j) (is ∙ was) there (At-map joined_of ks k j at) in
      subst (λ (z : Joined). SendsNext x.core z.at_client sent) same sends);
  logs_room = room;
  messages = all-kept i sent mid ks' (λ c l there. subst (λ (z : List Joined). IsAt z i c l) is there) keeps messages;
  heard = heard;
}

-- ---- of what its parts became

-- a message was heard: it is in the history, what it told is in the log, and what it sent went up
pub heard-leaves : (i k : ℕ) (x : ClientSide) (j : Joined) (notices : List Notice) (sent : List Sending) (logs logs' : List (List Line)) (ks mid ks' : List Joined) (about : Intent) (logged after : ℕ) → At ks k j → about ≡ about_at j.lists (length j.lists.heard)
    → logged ≡ log_length x.life logs → logs' ≡ grown x.life (lines_of about x.names notices) logs → after ≡ log_length x.life logs' → x.life < length logs → IsHeard k logged after ks mid → ks' ≡ map (sent_up i x.names sent) mid
    → LeavesStepped i k j x (notice.Notices notices) sent logs ks logs' ks'
heard-leaves i k x j notices sent logs logs' ks mid ks' about logged after at meant was told is within heard gone =
    let lines : List Line = lines_of (about_at j.lists (length j.lists.heard)) x.names notices in
    let grew : logs' ≡ grown x.life lines logs = told ∙ ap (λ (a : Intent). grown x.life (lines_of a x.names notices) logs) meant in
    let now : after ≡ log_length x.life logs + length lines = is ∙ ap (λ (z : List (List Line)). log_length x.life z) grew ∙ logged-more logs x.life lines within in (
      grew,
      gone ∙ ap (map (sent_up i x.names sent)) (heard j at) ∙ ap (λ (z : ℕ × ℕ). map (sent_up i x.names sent) (slice_set ks k (heard_in (step_at j z.0 z.1) j))) (λ t. (was t, now t)),
    )

-- the end stepped, over logs and circuits in which room was made
pub stepped-on : (i k : ℕ) (x x' : ClientSide) (logs mid logs' : List (List Line)) (ks made ks' : List Joined) (j : Joined) (did : Stepped) (sent : List Sending) (u : Unit {0}) → At made k j → mid ≡ logs → made ≡ ks → ClientSteps x.core j.at_client did sent x'.core
    → x' ≡ record x { core = x'.core } → LeavesStepped i k j x did sent mid made logs' ks' → StepsOn i k x logs ks (Ok u) x' logs' ks'
stepped-on i k x x' logs mid logs' ks made ks' j did sent u at lines circuits stepped side leaves =
    subst (λ (z : List (List Line) × List Joined). StepsOn i k x z.0 z.1 (Ok u) x' logs' ks') (λ t. (lines t, circuits t))
    (λ d there. subst (λ (z : Joined). StepsClient i k z x mid made (Ok u) x' logs' ks') (At-one made k j d at there) (did, sent, stepped, side, leaves))

-- there is room for the notices of a step
pub room-told : (few k : ℕ) (x : ClientSide) (ks made : List Joined) (j : Joined) (did : Stepped) (sent : List Sending) (new : Client) (life : ℕ) (logs : List (Vec Written Global)) → At made k j → made ≡ ks → TellsFew few k x ks → ClientSteps x.core j.at_client did sent new
    → HasRoom few life logs → HasRoom (length (notices_in did)) life logs
room-told few k x ks made j did sent new life logs at circuits tells steps room log there =
    let r = room log there in
    let n = tells j (subst (λ (z : List Joined). At z k j) circuits at) did sent new steps in
    omega (arith, r, n)

-- the circuit whose end has ended
pub closed-one : (ks : List Opened) (k : ℕ) (j new : Opened) (left : List ℕ) → At ks k j → joined_of new ≡ client_closed left (joined_of j) → (d : Joined) → At (map joined_of ks) k d → map joined_of (slice_set ks k new) ≡ slice_set (map joined_of ks) k (client_closed left d)
closed-one ks k j new left at is d there =
    let same : d ≡ joined_of j = At-one (map joined_of ks) k d (joined_of j) there (At-map joined_of ks k j at) in
    set-map joined_of ks k new ∙ ap (slice_set (map joined_of ks) k) (is ∙ ap (client_closed left) (sym same))
