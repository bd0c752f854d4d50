-- Over every event the logs of clients begin as they were, and each circuit is there still, with
-- the lists that it had.
use Rattle.std.proofs.Common.{◌≡◌, ℕ, ◌<◌, ◌≤◌, inl, inr, Bool, true, false, List, [], ◌∷◌, ◌++◌, length, Option, Some, None, refl, sym, ap, subst, ◌∙◌, append-nil, arith}
use Rattle.std.specs.Prelude.{option_map, slice_get, slice_set, unwrap_or}
use Rattle.std.proofs.lemmas.Bool.{both_ways}
use Rattle.ca_text.specs.Place.{At}
use Rattle.ca_text.proofs.Places.{At-append, At-one, At-or, At-set-other, At-within}
use Rattle.ca_model.specs.History.{Line, Reply, Sent, Step, Told}
use Rattle.ca_model.specs.ClientEvents.{heard_in}
use Rattle.ca_model.specs.Events.{Event}
use Rattle.ca_model.specs.Events as event
use Rattle.ca_model.specs.Runs.{Happens}
use Rattle.ca_model.specs.ServerEvents.{StepHandles, about, handled_at}
use Rattle.ca_model.specs.World.{ClientSide, Joined, ServerSide, World, with_circuit}
use Rattle.ca_laws_parts.proofs.Midway.{set-here}
use Rattle.ca_laws_parts.proofs.WritesMoves.{same-or}
use Rattle.ca_laws_runs.proofs.OrderGrows.{GoesOn, Grown, each-event, step-grown}
use Rattle.ca_laws_runs.proofs.OrderKeeps.{IsMade, begun-grown, begun-mid, did-after, did-grown, did-step, hear-grown, hear-mid, hear-step, hearing-or, made-or}

-- The circuit is there still: it joins the same life of a client, what was sent and read was so
-- before, and an end that has ended has.
pub record Onward (c d : Joined) : Type 0 where
  pub client : d.lists.client ≡ c.lists.client
  pub up : (p : ℕ) (s : Sent) → At c.lists.up p s → At d.lists.up p s
  pub down : (i : ℕ) (t : Told) → At c.lists.down i t → At d.lists.down i t
  pub heard : (i : ℕ) (h : Step) → At c.lists.heard i h → At d.lists.heard i h
  pub shut : c.lists.client_open ≡ false → d.lists.client_open ≡ false

pub record WorldsOn (w new : World) : Type 0 where
  pub logs : (l : ℕ) (x : List Line) → At w.client_logs l x → (more : List Line) × At new.client_logs l (x ++ more)
  pub circuits : (n : ℕ) (c : Joined) → At w.circuits n c → (d : Joined) × At new.circuits n d × Onward c d

pub onward-self : (c : Joined) → Onward c c
onward-self c = record { client = refl; up = λ p s at. at; down = λ i t at. at; heard = λ i h at. at; shut = λ e. e }

pub onward-then : (a b c : Joined) → Onward a b → Onward b c → Onward a c
onward-then a b c f g = record {
  client = g.client ∙ f.client;
  up = λ p s at. g.up p s (f.up p s at);
  down = λ i t at. g.down i t (f.down i t at);
  heard = λ i h at. g.heard i h (f.heard i h at);
  shut = λ e. g.shut (f.shut e);
}

still-shut : (a b : Bool) → (b ≡ true → a ≡ true) → a ≡ false → b ≡ false
still-shut a true opened shut = absurd (both_ways a shut (opened refl))
still-shut a false opened shut = refl

pub onward-goes : (c d : Joined) → GoesOn c d → Onward c d
onward-goes c d g = record {
  client = g.client;
  up = g.said;
  down = g.tells;
  heard = λ i h at. subst (λ (l : List Step). At l i h) (sym g.heard) at;
  shut = still-shut c.lists.client_open d.lists.client_open g.opened;
}

pub on-then : (a b c : World) → WorldsOn a b → WorldsOn b c → WorldsOn a c
on-then a b c f g = record {
  logs = λ l x at.
      let y = f.logs l x at in
      let z = g.logs l (x ++ y.0) y.1 in
      (y.0 ++ z.0, subst (λ (log : List Line). At c.client_logs l log) (append-three x y.0 z.0) z.1);
  circuits = λ n d at.
      let y = f.circuits n d at in
      let z = g.circuits n y.0 y.1 in
      (z.0, z.1, onward-then d y.0 z.0 y.2 z.2);
}
  where
    append-three : (x y z : List Line) → (x ++ y) ++ z ≡ x ++ (y ++ z)
    append-three [] y z = refl
    append-three (l ∷ x) y z = ap (λ (v : List Line). l ∷ v) (append-three x y z)

pub on-grown : (w new : World) → Grown w new → WorldsOn w new
on-grown w new g = record {
  logs = g.lines.begins;
  circuits = λ n c at. elim (At-or new.circuits n) [
    | inl d ↦
        let b = g.back n d.0 d.1 in
        (d.0, d.1, onward-goes c d.0 (subst (λ (z : Joined). GoesOn z d.0) (At-one w.circuits n b.0 c b.1 at) b.2))
    | inr past ↦ absurd (let lt : n < length w.circuits = At-within w.circuits n c at in let more : length w.circuits ≤ length new.circuits = g.count in omega (arith, lt, past, more))
  ];
}

-- one circuit is set
pub on-set : (w : World) (k : ℕ) (j d : Joined) → At w.circuits k j → Onward j d → WorldsOn w (with_circuit k d w)
on-set w k j d on goes = record {
  logs = λ l x at. ([], subst (λ (v : List Line). At w.client_logs l v) (sym (append-nil x)) at);
  circuits = λ n c at. elim (same-or n k) [
    | inl own ↦
        let one : c ≡ j = At-one w.circuits k c j (subst (λ (m : ℕ). At w.circuits m c) own at) on in
        (d, subst (λ (m : ℕ). At (slice_set w.circuits k d) m d) (sym own) (set-here w.circuits k j d on), subst (λ (z : Joined). Onward z d) (sym one) goes)
    | inr other ↦ (c, At-set-other w.circuits k n c d at other, onward-self c)
  ];
}

pub onward-hears : (step : Step) (j : Joined) → Onward j (heard_in step j)
onward-hears step j = record { client = refl; up = λ p s at. at; down = λ i t at. at; heard = λ i h at. At-append j.lists.heard (step ∷ []) i h at; shut = λ e. e }

-- a message is handled
handles-on : (w new : World) (k : ℕ) (j : Joined) (y : ServerSide) → At w.circuits k j → StepHandles w k j y new → WorldsOn w new
handles-on w new k j y on f = subst (λ (z : World). WorldsOn w z) (sym f.leaves) (go (slice_get after.circuits k) refl)
  where
    after : World
    after = did-after w new k j y on f

    step : Step
    step = did-step w new k j y on f

    first : WorldsOn w after
    first = on-grown w after (did-grown w new k j y on f)

    go : (o : Option Joined) → slice_get after.circuits k ≡ o → WorldsOn w (unwrap_or (option_map (λ (c : Joined). with_circuit k (handled_at (length j.lists.handled) step (f.steps.0).replies c) after) o) after)
    go None is = first
    go (Some c) is =
        let d : Joined = handled_at (length j.lists.handled) step (f.steps.0).replies c in
        on-then w after (with_circuit k d after) first
        (on-set after k c d is (record {
          client = refl;
          up = λ p s at. at;
          down = λ i t at. At-append c.lists.down (about (length j.lists.handled) Reply (f.steps.0).replies) i t at;
          heard = λ i h at. at;
          shut = λ e. e;
        }))

-- a circuit is made
made-on : (w new : World) (i : ℕ) (x : ClientSide) → IsMade w new i x → WorldsOn w new
made-on w new i x f =
    on-then w f.mid new (record {
      logs = λ l log at. ([], subst (λ (v : List Line). At (f.mid).client_logs l v) (sym (append-nil log)) (subst (λ (v : List (List Line)). At v l log) (sym f.client_logs) at));
      circuits = λ n c at. (c, subst (λ (v : List Joined). At v n c) (sym f.circuits) (At-append w.circuits (f.c ∷ []) n c at), onward-self c);
    }) (on-grown f.mid new f.goes)

pub event-on : (w new : World) (e : Event) → Happens w e new → WorldsOn w new
event-on w new e happens = each-event (WorldsOn w new) w new (on-grown w new)
    (λ k f. elim (step-grown w new k f.0.j f.0.y f.1.0 f.0.joins.at f.1.1) [
      | inl handles ↦ handles-on w new k f.0.j f.0.y f.0.joins.at handles
      | inr g ↦ on-grown w new g
    ])
    (λ k f. elim (hearing-or w new k f.0.j f.0.x f.0.joins.at f.0.joins.client f.1) [
      | inl hears ↦
          let mid : World = hear-mid w new k f.0.j f.0.x f.0.joins.at f.0.joins.client hears in
          let step : Step = hear-step w new k f.0.j f.0.x f.0.joins.at f.0.joins.client hears in
          on-then w mid new (on-set w k f.0.j (heard_in step f.0.j) f.0.joins.at (onward-hears step f.0.j)) (on-grown mid new (hear-grown w new k f.0.j f.0.x f.0.joins.at f.0.joins.client hears))
      | inr g ↦ on-grown w new g
    ])
    (λ i f. elim (made-or w new i f) [
      | inl made ↦ made-on w new i f.0.x made
      | inr g ↦ on-grown w new g
    ])
    (λ i f. begun-on i f) e happens
  where
    begun-on : (i : ℕ) → Happens w (event.ClientRestart i) new → WorldsOn w new
    begun-on i f =
        let first : World = begun-mid w new i f.0.x f.1 in
        let g : WorldsOn w first = on-grown w first (begun-grown w new i f.0.x f.1) in
        subst (λ (z : World). WorldsOn w z) (sym f.1) (record { logs = g.logs; circuits = g.circuits })
