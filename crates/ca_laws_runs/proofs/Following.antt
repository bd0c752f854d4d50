-- From what is known of a circuit, the statement's clause of updates: of each EVENT_ADD that was
-- accepted, also one whose subscription or circuit has ended.
use Rattle.std.proofs.Common.{◌≡◌, ℕ, inl, inr, Bool, true, false, List, ◌++◌, refl, sym, ap, subst, ◌∙◌}
use Rattle.std.specs.Prelude.{map}
use Rattle.ca_queue.specs.declared.entry.SubKey.{SubKey}
use Rattle.ca_queue.specs.Queue.{Queue}
use Rattle.ca_requests.specs.Meaning.{Means}
use Rattle.ca_text.specs.declared.command.Command.TheVariants as command
use Rattle.ca_text.specs.Place.{At}
use Rattle.ca_text.proofs.Places.{At-mapped, At-one, At-parts, At-within}
use Rattle.ca_wire.specs.Messages.{mask_in}
use Rattle.ca_model.specs.History.{Cause, Entry, Intent, Line, Sent, Step, Told, Update}
use Rattle.ca_model.specs.Server.{ServerEnd}
use Rattle.ca_model.specs.Speech.{In, Is, Stored}
use Rattle.ca_model.specs.Updates.{Shows}
use Rattle.ca_model.specs.Channels.{Lasts, Suits}
use Rattle.ca_model.specs.Causes.{Accepted, Acted}
use Rattle.ca_model.specs.Headline as headline
use Rattle.ca_model.specs.Known.{IsDue}
use Rattle.ca_model.specs.Posts.{matching}
use Rattle.ca_model.specs.ServerEvents.{number_of}
use Rattle.ca_model.specs.World.{Joined, RecordSide, World, circuit_of, port_of, rules_of, waiting_in}
use Rattle.ca_laws_parts.specs.Numbers.{AllNumbers, HaveNumbers}
use Rattle.ca_laws_parts.specs.Agrees.{AreOthers}
use Rattle.ca_laws_parts.specs.Moves.{Writes}
use Rattle.ca_laws_parts.specs.Says.{AllAsked}
use Rattle.ca_laws_parts.specs.Seats.{HasSeat, Seated}
use Rattle.ca_laws_parts.proofs.Leaving.{flat-in}
use Rattle.ca_laws_parts.proofs.WritesLists.{none_at}
use Rattle.ca_laws_runs.specs.Follows.{Follows}
use Rattle.ca_laws_runs.proofs.Clause.{clause-of}
use Rattle.ca_laws_runs.proofs.Logged.{AllEnds}
use Rattle.ca_laws_runs.specs.Known.{IsStanding, KnownOn}
use Rattle.ca_laws_runs.specs.Record.{AllFollowRecord}
use Rattle.ca_laws_runs.specs.Sent.{AllSent, SentOn}
use Rattle.ca_laws_runs.proofs.Keeping.{KnownAt}
use Rattle.ca_laws_runs.proofs.FollowsStanding.{IsOf, number-is, standing-or, sub-of}

clash : (b : Bool) → b ≡ true → b ≡ false → ⊥
clash true e f = cc
clash false e f = cc

module _ (w : World) (n : ℕ) (c : Joined) (log : List Entry) (x : List Line) (k r : ℕ) (s : Sent) (h : Step) (acc : Accepted (circuit_of c) log k r s h) where
  abbrev FollowsIts : Type 0
  FollowsIts = headline.Follows (IsDue (port_of w) (rules_of w)) Shows Means (circuit_of c) log k r s (matching log h.logged r (mask_in s.message))

  at_s : At c.lists.up k s
  at_s = acc.2

  at_h : At c.lists.handled k h
  at_h = acc.4

  acted : Acted c.lists log k r
  acted = acc.5

  -- ---- nothing of it waits
  over-follows : SentOn log c → ((a : ℕ) → In (waiting_in c.queues) (k, Update a) → ⊥) → (Lasts (circuit_of c) log k r s → ⊥) → FollowsIts
  over-follows p none over = record {
    rising = λ i j a b lt ati atj.
        let t = told-at i a ati in
        let u = told-at j b atj in
        p.rise i j a b t.0 u.0 lt t.1 u.1 (t.2 ∙ sym u.2) t.3 u.3;
    matches = λ a there.
        let t = told-at there.0 a there.1 in
        let v = posts there.0 a t.0 t.1 t.2 t.3 in
        At-within (matching log h.logged r (mask_in s.message)) a v.0 v.1;
    shows = λ j a t at place cause. posts j a t at place cause;
    newest = λ lasts. absurd (over lasts);
  }
    where
      told-at : (i a : ℕ) → At (map (λ (t : Told). let v : ℕ × Cause = (t.place, t.cause) in v) c.lists.down ++ waiting_in c.queues) i (k, Update a) → (t : Told) × At c.lists.down i t × (t.place ≡ k) × (t.cause ≡ Update a)
      told-at i a at = elim (At-parts (map (λ (t : Told). let v : ℕ × Cause = (t.place, t.cause) in v) c.lists.down) (waiting_in c.queues) i (k, Update a) at) [
        | inl old ↦
            let t = At-mapped (λ (t : Told). let v : ℕ × Cause = (t.place, t.cause) in v) c.lists.down i (k, Update a) old in
            (t.0, t.1, ap (λ (v : ℕ × Cause). v.0) (sym t.2), ap (λ (v : ℕ × Cause). v.1) (sym t.2))
        | inr waits ↦ absurd (none a (waits.0, waits.2))
      ]

      posts : (j a : ℕ) (t : Told) → At c.lists.down j t → t.place ≡ k → t.cause ≡ Update a → (v : Stored) × At (matching log h.logged r (mask_in s.message)) a v × Shows s.message v t.message
      posts j a t at place cause =
          let y = p.shown j a t at cause in
          let one_s : y.s ≡ s = At-one c.lists.up k y.s s (subst (λ (m : ℕ). At c.lists.up m y.s) place y.sent) at_s in
          let one_h : y.h ≡ h = At-one c.lists.handled k y.h h (subst (λ (m : ℕ). At c.lists.handled m y.h) place y.handled) at_h in
          let v = y.shows r (subst (λ (m : ℕ). Acted c.lists log m r) (sym place) acted) in
          (v.0, subst (λ (z : Step × Sent). At (matching log z.0.logged r (mask_in z.1.message)) a v.0) (λ i. (one_h i, one_s i)) v.1, subst (λ (z : Sent). Shows z.message v.0 t.message) one_s v.2)

  -- ---- its subscription stands
  stands-follows : (rs : List RecordSide) (e : ServerEnd) → AreOthers rs → Follows log rs e c → KnownOn log rs e c → IsStanding c.standing k → FollowsIts
  stands-follows rs e others q p there =
      subst (λ (z : Step × Sent). headline.Follows (IsDue (port_of w) (rules_of w)) Shows Means (circuit_of c) log k r z.1 (matching log z.0.logged r (mask_in z.1.message))) (λ i. (one_h i, one_s i))
      (subst (λ (z : ℕ × ℕ). headline.Follows (IsDue (port_of w) (rules_of w)) Shows Means (circuit_of c) log z.0 z.1 y.stands.s (matching log y.stands.h.logged z.1 (mask_in y.stands.s.message))) (λ i. (there.3 i, number i))
      (clause-of (IsDue (port_of w) (rules_of w)) Means log rs e c q there.0 y.sub there.1 y.at there.2 y.stands))
    where
      y : IsOf log rs e c there.0 there.1
      y = sub-of log rs e c q p there.0 there.1 there.2

      number : number_of y.sub.name rs ≡ r
      number = number-is rs y.sub.name r others (y.on.acted r (subst (λ (m : ℕ). Acted c.lists log m r) (sym there.3) acted))

      one_s : y.stands.s ≡ s
      one_s = At-one c.lists.up k y.stands.s s (subst (λ (m : ℕ). At c.lists.up m y.stands.s) there.3 y.stands.sent) at_s

      one_h : y.stands.h ≡ h
      one_h = At-one c.lists.handled k y.stands.h h (subst (λ (m : ℕ). At c.lists.handled m y.stands.h) there.3 y.stands.handled) at_h

  -- ---- it is not at an open end
  gone : (rs : List RecordSide) (e : ServerEnd) → KnownOn log rs e c → Is command.EventAdd s.message → (IsStanding c.standing k → ⊥) → Lasts (circuit_of c) log k r s → ⊥
  gone rs e p asks none lasts = elim (p.adds k s h at_s at_h asks) [
    | inl refused ↦ acc.6 refused.0 refused.1 refused.2 refused.3 refused.4
    | inr other ↦ elim other [
      | inl stands ↦ none stands
      | inr over ↦ elim over [
        | inl ended ↦ lasts.2 ended.0 ended.1 ended.2 ended.3 ended.4 ended.5
        | inr removed ↦ lasts.1 (removed r acted)
      ]
    ]
  ]

-- what waits is of a subscription that stands
waits-none : (c : Joined) (k : ℕ) → HaveNumbers c.standing c.queues → (IsStanding c.standing k → ⊥) → (a : ℕ) → In (waiting_in c.queues) (k, Update a) → ⊥
waits-none c k numbers none a there =
    let q = flat-in (λ (q : Queue (ℕ × Cause)). map (λ (w : SubKey × (ℕ × Cause)). w.1) q.waiting) c.queues (k, Update a) there in
    let z = At-mapped (λ (w : SubKey × (ℕ × Cause)). w.1) q.0.waiting q.2.0 (k, Update a) q.2.1 in
    let found = (numbers q.0 q.1 z.0 (q.2.0, z.1)).1 in
    none (found.1.0, found.0, found.1.1, ap (λ (v : ℕ × Cause). v.0) (sym (z.2 ∙ found.3.1)))

-- ---- every circuit of a world

pub all-follow : (w : World) → Writes w → Seated w → AllAsked w → AllNumbers w → AllEnds KnownAt w → AllSent w → AllFollowRecord w
all-follow w writes seated asked numbers known sent n c log at logged x k r s h acc = go c.lists.server_open refl
  where
    asks : Is command.EventAdd s.message
    asks = subst (λ (i : Intent). Suits i s.message) acc.3 (asked n k c s at acc.2)

    p : SentOn log c
    p = sent n c log at logged

    go : (b : Bool) → c.lists.server_open ≡ b → FollowsIts w n c log x k r s h acc
    go false shut =
        over-follows w n c log x k r s h acc p (λ a there. none_at there.0 (k, Update a) (subst (λ (l : List (Queue (ℕ × Cause))). At (waiting_in l) there.0 (k, Update a)) (p.over shut) there.1))
        (λ lasts. clash c.lists.server_open lasts.0 shut)
    go true opened = elim (standing-or c.standing k) [
      | inl there ↦ stands-follows w n c log x k r s h acc seat.y.records seat.e others known_here.0 known_here.1 there
      | inr none ↦ over-follows w n c log x k r s h acc p (waits-none c k (numbers n c at opened) none) (gone w n c log x k r s h acc seat.y.records seat.e known_here.1 asks none)
    ]
      where
        seat : HasSeat w c
        seat = seated.each n c at opened

        others : AreOthers seat.y.records
        others = (writes.lives c.server seat.y seat.at).life.others

        known_here : KnownAt n log seat.y.records seat.e c
        known_here = known n c seat.y seat.e log at seat.at opened seat.has (subst (λ (l : ℕ). At w.server_logs l log) seat.joins logged)
