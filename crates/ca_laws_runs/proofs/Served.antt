-- What clients have of their circuits, and said there, as servers tell them more.
use Rattle.std.proofs.Common.{◌≡◌, ℕ, ◌+◌, ◌<◌, ◌≤◌, ◌⊎◌, inl, inr, List, [], ◌∷◌, ◌++◌, length, Option, Some, None, refl, sym, ap, ◌∙◌, subst, arith}
use Rattle.std.specs.Prelude.{option_map, slice_set, unwrap_or}
use Rattle.ca_text.specs.Place.{At}
use Rattle.ca_text.proofs.Places.{At-append, At-map, At-mapped, At-one, At-parts}
use Rattle.ca_arena.specs.declared.handle.Handle.{Handle}
use Rattle.ca_wire.specs.Fields.{Fields}
use Rattle.ca_model.specs.Client.{Client}
use Rattle.ca_model.specs.Due.{Action}
use Rattle.ca_model.specs.History.{Circuit, Reply, Sent, Step, Told}
use Rattle.ca_model.specs.ServerSteps.{Stepped}
use Rattle.ca_model.specs.ServerSteps as stepped
use Rattle.ca_model.specs.Speech.{Creates}
use Rattle.ca_model.proofs.Tables.{length-more}
use Rattle.ca_model.specs.ClientEvents.{channel_number}
use Rattle.ca_model.specs.Events as event
use Rattle.ca_model.specs.Runs.{Happens}
use Rattle.ca_model.specs.ServerEvents.{ServerStepped, StepHandles, about, ending, ends_by, handled_at, numbers_after, server_after, side_of, write_numbers}
use Rattle.ca_model.specs.ServerEvents as server
use Rattle.ca_model.specs.World.{ClientSide, Joined, Names, ServerSide, World, with_circuit}
use Rattle.ca_laws_parts.specs.Sids.{IsClearedWithin}
use Rattle.ca_laws_parts.proofs.Handled.{numbers-like, writes-like}
use Rattle.ca_laws_parts.proofs.Midway.{set-here}
use Rattle.ca_laws_parts.proofs.WritesMoves.{same-or}
use Rattle.ca_laws_runs.specs.Under.{IsCreatedBefore}
use Rattle.ca_laws_runs.proofs.SidTells.{Back, KeepsOn, step-beside, unhandled-back}
use Rattle.ca_laws_runs.specs.Sides.{AllSided, Right, Sides}
use Rattle.ca_laws_runs.proofs.Ends.{From}

-- ---- one circuit

-- What was told is told still; a reply by which a channel is created was told, or is about the
-- message that is handled now.
pub record IsToldOn (c d : Circuit) : Type 0 where
  pub told : (i : ℕ) (t : Told) → At c.down i t → At d.down i t
  pub creates : (i sid : ℕ) (t : Told) → At d.down i t → t.cause ≡ Reply → Creates t.message sid → At c.down i t ⊎ ((t.place ≡ length c.handled) × (length c.down ≤ i))
  pub handled : length c.handled ≤ length d.handled

module _ (c d : Circuit) (up : d.up ≡ c.up) (heard : d.heard ≡ c.heard) (told : IsToldOn c d) where
  still-up : (p : ℕ) (s : Sent) → At d.up p s → At c.up p s
  still-up p s at = subst (λ (l : List Sent). At l p s) up at

  now-up : (p : ℕ) (s : Sent) → At c.up p s → At d.up p s
  now-up p s at = subst (λ (l : List Sent). At l p s) (sym up) at

  created-told : (a j k sid p : ℕ) → IsCreatedBefore c a j k sid p → IsCreatedBefore d a j k sid p
  created-told a j k sid p h = record {
    t = h.t;
    r = h.r;
    told = (told.told j h.t h.told.0, h.told.1, h.told.2, h.told.3);
    asked = (now-up k h.r h.asked.0, h.asked.1);
    early = h.early;
    since = λ l q ask after before at is. h.since l q ask after before (still-up l q at) is;
  }

  cleared-told : (sid a b : ℕ) → IsClearedWithin c.up sid a b → IsClearedWithin d.up sid a b
  cleared-told sid a b w = (w.0, w.1, w.2, w.3, now-up w.0 w.1 w.4, w.5)

  told-right : Right c → Right d
  told-right h = record {
    under = λ p a s ask at is other. (let b = h.under p a s ask (still-up p s at) is other in (b.0, b.1, created-told a b.0 b.1 _ p b.2));
    read = λ p a s ask at is other. (let b = h.read p a s ask (still-up p s at) is other in (b.0, b.1, subst (λ (v : List Step). b.0 < length v) (sym heard) b.2, created-told a b.0 b.1 _ p b.3));
    between = λ p k a i sid r q t lt at_r at_q is_r is_q at about reply creates. elim (told.creates i sid t at reply creates) [
      | inl old ↦ cleared-told sid p k (h.between p k a i sid r q t lt (still-up p r at_r) (still-up k q at_q) is_r is_q old about reply creates)
      | inr new ↦ absurd (let before : p < length c.handled = h.turn p k a r q lt (still-up p r at_r) (still-up k q at_q) is_r is_q in let e : t.place ≡ length c.handled = new.0 in omega (arith, before, e, about))
    ];
    turn = λ p k a r q lt at_r at_q is_r is_q. (let before : p < length c.handled = h.turn p k a r q lt (still-up p r at_r) (still-up k q at_q) is_r is_q in let le : length c.handled ≤ length d.handled = told.handled in omega (arith, before, le));
  }

  told-sides : (n : Names) (x : Client) (on : Handle) → length c.heard ≤ length c.down → Sides n x on c → Sides n x on d
  told-sides n x on within h = record {
    lives = λ g sid l.
        let b = h.lives g sid l in
        (b.0, b.1, subst (λ (v : List Step). b.0 < length v) (sym heard) b.2, subst (λ (v : List Sent). IsCreatedBefore d (channel_number n g) b.0 b.1 sid (length v)) (sym up) (created-told (channel_number n g) b.0 b.1 sid (length c.up) b.3));
    answered = λ i sid a t r lt at reply creates at_r is.
        let before : i < length c.heard = subst (λ (v : List Step). i < length v) heard lt in
        elim (told.creates i sid t at reply creates) [
          | inr new ↦ absurd (let le : length c.down ≤ i = new.1 in omega (arith, le, within, before))
          | inl old ↦ elim (h.answered i sid a t r before old reply creates (still-up t.place r at_r) is) [
            | inl cleared ↦ inl (subst (λ (v : List Sent). IsClearedWithin d.up sid t.place (length v)) (sym up) (cleared-told sid t.place (length c.up) cleared))
            | inr live ↦ inr live
          ]
        ];
  }

-- ---- a world

abbrev pub AllTold : (w new : World) → Type 0
AllTold w new = (l : ℕ) (d : Joined) → At new.circuits l d → (c : Joined) × At w.circuits l c × IsToldOn c.lists d.lists

pub sided-server : (w new : World) → From w new → AllTold w new → ((l : ℕ) (c : Joined) → At w.circuits l c → length c.lists.heard ≤ length c.lists.down) → AllSided w → AllSided new
sided-server w new from told within s = record {
  sides = λ k j x at there open_it.
      let p = from.circuits k j at in
      let q = told k j at in
      let t : IsToldOn p.0.lists j.lists = subst (λ (v : Joined). IsToldOn v.lists j.lists) (At-one w.circuits k q.0 p.0 q.1 p.1) q.2 in
      let client : At w.clients p.0.client x = subst (λ (v : ℕ). At w.clients v x) p.2.client (subst (λ (v : List ClientSide). At v j.client x) from.clients there) in
      subst (λ (v : Handle). Sides x.names x.core v j.lists) (sym p.2.handle) (told-sides p.0.lists j.lists p.2.up p.2.heard t x.names x.core p.0.at_client (within k p.0 p.1) (s.sides k p.0 x p.1 client (p.2.opens open_it)));
  right = λ k j at.
      let p = from.circuits k j at in
      let q = told k j at in
      let t : IsToldOn p.0.lists j.lists = subst (λ (v : Joined). IsToldOn v.lists j.lists) (At-one w.circuits k q.0 p.0 q.1 p.1) q.2 in
      told-right p.0.lists j.lists p.2.up p.2.heard t (s.right k p.0 p.1);
}

-- ---- events

keeps-told : (c d : Joined) → KeepsOn c d → IsToldOn c.lists d.lists
keeps-told c d k = record { told = k.told; creates = λ i sid t at reply creates. inl (k.creates i t at reply (inl creates.0)); handled = (let e : length d.lists.handled ≡ length c.lists.handled = ap (λ (l : List Step). length l) k.handled in omega (arith, e)) }

pub back-told : (w new : World) → Back w new → AllTold w new
back-told w new back l d at = (let c = back l d at in (c.0, c.1, keeps-told c.0 d c.2))

own-told : (w new : World) (k : ℕ) (j : Joined) (y : ServerSide) (f : StepHandles w k j y new) → At w.circuits k j → (d : Joined) → At new.circuits k d → IsToldOn j.lists d.lists
own-told w new k j y f on d at_d = record {
  told = λ i t at. subst (λ (l : List Told). At l i t) (sym down) (At-append j.lists.down (about place Reply replies) i t at);
  creates = λ i sid t at reply creates. elim (At-parts j.lists.down (about place Reply replies) i t (subst (λ (l : List Told). At l i t) down at)) [
    | inl old ↦ inl old
    | inr new_it ↦
        let r = At-mapped (λ (m : Fields). let z : Told = record { message = m; place = place; cause = Reply } in z) replies new_it.0 t new_it.2 in
        inr (ap (λ (z : Told). z.place) r.2, (let e : i ≡ length j.lists.down + new_it.0 = new_it.1 in omega (arith, e)))
  ];
  handled = (let e : length d.lists.handled ≡ length j.lists.handled + 1 = ap (λ (l : List Step). length l) more ∙ length-more j.lists.handled step in omega (arith, e));
}
  where
    place : ℕ
    place = length j.lists.handled

    did : Action
    did = (f.steps.0).action

    replies : List Fields
    replies = (f.steps.0).replies

    mid : World
    mid = server.acted k j y did w

    after : World
    after = server_after j.server (side_of j.server y mid) (ends_by j.server f.core) f.core mid

    step : Step
    step = record { sent = length j.lists.down; logged = server.logged y w; after = server.logged y after }

    numbers : Joined
    numbers = numbers_after place did j

    moved : Joined
    moved = write_numbers j.server y.core did numbers

    last : Joined
    last = ending (ends_by j.server f.core) moved

    ended : (ends : Joined → Option (List ℕ)) (c : Joined) → ((ending ends c).lists.down ≡ c.lists.down) × ((ending ends c).lists.handled ≡ c.lists.handled)
    ended ends c = go (ends c)
      where
        go : (o : Option (List ℕ)) → ((unwrap_or (option_map (λ (left : List ℕ). server.server_closed left c) o) c).lists.down ≡ c.lists.down) × ((unwrap_or (option_map (λ (left : List ℕ). server.server_closed left c) o) c).lists.handled ≡ c.lists.handled)
        go None = (refl, refl)
        go (Some left) = (refl, refl)

    same : moved.lists ≡ j.lists
    same = (writes-like j.server y.core did numbers).0 ∙ (numbers-like place did j).0

    d_is : d ≡ handled_at place step replies last
    d_is =
        let there : At after.circuits k last =
        At-map (ending (ends_by j.server f.core)) mid.circuits k moved
        (At-map (write_numbers j.server y.core did) (slice_set w.circuits k numbers) k numbers (set-here w.circuits k j numbers on)) in
        let noted : Joined = handled_at place step replies last in
        let new_is : new ≡ with_circuit k noted after = f.leaves ∙ ap (λ (o : Option Joined). unwrap_or (option_map (λ (c : Joined). with_circuit k (handled_at place step replies c) after) o) after) there in
        At-one (slice_set after.circuits k noted) k d noted (subst (λ (v : World). At v.circuits k d) new_is at_d) (set-here after.circuits k last noted there)

    down : d.lists.down ≡ j.lists.down ++ about place Reply replies
    down = ap (λ (z : Joined). z.lists.down) d_is ∙ ap (λ (l : List Told). l ++ about place Reply replies) ((ended (ends_by j.server f.core) moved).0 ∙ ap (λ (z : Circuit). z.down) same)

    more : d.lists.handled ≡ j.lists.handled ++ step ∷ []
    more = ap (λ (z : Joined). z.lists.handled) d_is ∙ ap (λ (l : List Step). l ++ step ∷ []) ((ended (ends_by j.server f.core) moved).1 ∙ ap (λ (z : Circuit). z.handled) same)

pub step-told : (w new : World) (k : ℕ) → Happens w (event.ServerStep k) new → AllTold w new
step-told w new k (at, (did, f)) = elim (handled-or did) [
  | inl is ↦ done (subst (λ (x : Stepped). ServerStepped w k at.j at.y x new) is f)
  | inr not ↦ back-told w new (unhandled-back w new k at.j at.y did at.joins.at not f)
]
  where
    handled-or : (did : Stepped) → (did ≡ stepped.Handled) ⊎ (did ≡ stepped.Handled → ⊥)
    handled-or stepped.Handled = inl refl
    handled-or stepped.NeedBytes = inr (λ e. cc)
    handled-or stepped.OutputFull = inr (λ e. cc)
    handled-or (stepped.Closed cause left) = inr (λ e. cc)

    done : StepHandles w k at.j at.y new → AllTold w new
    done h l d at_d = elim (same-or l k) [
      | inr other ↦ (let c = step-beside w new k at.j at.y h l d other at_d in (c.0, c.1, keeps-told c.0 d c.2))
      | inl own ↦ (at.j, subst (λ (m : ℕ). At w.circuits m at.j) (sym own) at.joins.at, own-told w new k at.j at.y h at.joins.at d (subst (λ (m : ℕ). At new.circuits m d) own at_d))
    ]
