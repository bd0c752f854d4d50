-- A step of a server's end: the world, from what its parts became.
use Rattle.std.proofs.Common.{◌≡◌, ℕ, zero, suc, inl, inr, Bool, true, false, List, [], ◌∷◌, Option, Some, None, length, refl, sym, ap, subst, ◌∙◌}
use Rattle.std.specs.Prelude.{◌≢◌, if◌then◌else◌, map, option_map, slice_get, slice_set, unwrap_or}
use Rattle.ca_arena.specs.declared.handle.Handle.{Handle}
use Rattle.ca_text.specs.Place.{At}
use Rattle.ca_wire.specs.Fields.{Fields}
use Rattle.ca_model.specs.Due.{Action}
use Rattle.ca_model.specs.Ends.{Why}
use Rattle.ca_model.specs.Ends as why
use Rattle.ca_model.specs.History.{Entry, Step}
use Rattle.ca_model.specs.Server.{Server}
use Rattle.ca_model.specs.ServerSteps.{StepsOpen, closed}
use Rattle.ca_model.specs.ServerSteps as stepped
use Rattle.ca_model.specs.ServerEvents.{HappensServerStep, StepHandles, StepLacks, acted, ends_at, ends_by, ends_here, handled_at, noted, reported, server_after, side_of, unsaid, without_puts}
use Rattle.ca_model.specs.World.{Joined, ServerSide, World, log_length}
use Rattle.ca_world.specs.ServerStepping.{BreaksAt, HandlesAt, LacksAs, LacksAt, Quits, RestsAt, StepsAt, circuits_acted, logs_acted, records_acted}
use Rattle.ca_queue.proofs.Circuits.{set-twice}
use Rattle.ca_world_data.proofs.Worlds.{set-same}

-- ---- lists

get-set : {A : Type 0} (xs : List A) (i : ℕ) (x z : A) → At xs i x → slice_get (slice_set xs i z) i ≡ Some z
get-set [] i x z at = absurd cc
get-set (w ∷ xs) zero x z at = refl
get-set (w ∷ xs) (suc i) x z at = get-set xs i x z at

-- ---- the world

-- the world with another side of server i, other circuits and other logs of servers
abbrev after : World → (i : ℕ) → ServerSide → List Joined → List (List Entry) → World
after w i y' ks' logs' = record w { servers = slice_set w.servers i y'; circuits = ks'; server_logs = logs' }

module _ (w : World) (k : ℕ) (j : Joined) (y : ServerSide) (at : At w.servers j.server y) where
  abbrev i : ℕ
  i = j.server

  -- the side of the server after what a message did
  abbrev side : Action → ServerSide
  side action = record y { records = records_acted k j y action }

  side-is : (action : Action) → side_of i y (acted k j y action w) ≡ side action
  side-is action = ap (λ (o : Option ServerSide). unwrap_or o y) (get-set w.servers i y (side action) at)

  -- ends that ended, after what a message did
  quits-acted : (action : Action) (ends : Joined → Option (List ℕ)) (core : Server) (y' : ServerSide) (ks' : List Joined) (logs' : List (List Entry))
      → Quits ends core y (records_acted k j y action) (circuits_acted k j y action w.circuits) (logs_acted k j y action w.server_logs) y' ks' logs'
      → server_after i (side_of i y (acted k j y action w)) ends core (acted k j y action w) ≡ after w i y' ks' logs'
  quits-acted action ends core y' ks' logs' q =
      let last : ServerSide = record y { core = reported core; records = map (without_puts (ends_at ends (circuits_acted k j y action w.circuits))) (records_acted k j y action) } in
      let servers : slice_set (slice_set w.servers i (side action)) i last ≡ slice_set w.servers i y' = set-twice w.servers i (side action) last ∙ ap (slice_set w.servers i) (sym q.side) in
      let circuits = sym q.circuits in
      let logged = sym q.logged in
      ap (λ (s : ServerSide). server_after i s ends core (acted k j y action w)) (side-is action)
      ∙ (λ t. record w { servers = servers t; circuits = circuits t; server_logs = logged t })

  quits-now : (ends : Joined → Option (List ℕ)) (core : Server) (y' : ServerSide) (ks' : List Joined) (logs' : List (List Entry))
      → Quits ends core y y.records w.circuits w.server_logs y' ks' logs' → server_after i y ends core w ≡ after w i y' ks' logs'
  quits-now ends core y' ks' logs' q =
      let servers = ap (slice_set w.servers i) (sym q.side) in
      let circuits = sym q.circuits in
      let logged = sym q.logged in
      λ t. record w { servers = servers t; circuits = circuits t; server_logs = logged t }

  handles : (y' : ServerSide) (ks' : List Joined) (logs' : List (List Entry)) → HandlesAt k j y w.circuits w.server_logs y' ks' logs' → StepHandles w k j y (after w i y' ks' logs')
  handles y' ks' logs' h = record { e = h.e; has = h.has; core = h.core; steps = h.steps; leaves = leaves }
    where
      replies : List Fields
      replies = h.steps.0.replies

      over : World
      over = server_after i (side_of i y (acted k j y h.steps.0.action w)) (ends_by i h.core) h.core (acted k j y h.steps.0.action w)

      note : (o : Option Joined) (step : Step)
          → unwrap_or (option_map (λ (c : Joined). after w i y' (slice_set h.mid k (handled_at (length j.lists.handled) step replies c)) logs') o) (after w i y' h.mid logs')
          ≡ after w i y' (unwrap_or (option_map (λ (c : Joined). slice_set h.mid k (handled_at (length j.lists.handled) step replies c)) o) h.mid) logs'
      note None step = refl
      note (Some c) step = refl

      leaves : after w i y' ks' logs' ≡ noted k j y replies w over
      leaves =
          let step : Step = record { sent = length j.lists.down; logged = log_length y.life w.server_logs; after = log_length y.life logs' } in
          ap (λ (ks : List Joined). after w i y' ks logs') h.noted ∙ sym (note (slice_get h.mid k) step)
          ∙ sym (ap (noted k j y replies w) (quits-acted h.steps.0.action (ends_by i h.core) h.core y' h.mid logs' h.quits))

  lacks : (y' : ServerSide) (ks' : List Joined) (logs' : List (List Entry)) (l : LacksAt k j y w.circuits w.server_logs y' ks' logs') → StepLacks w k j y l.e.link.output (after w i y' ks' logs')
  lacks y' ks' logs' l = record { e = l.e; has = l.has; left_is = refl; core = l.core; lacks = l.lacks; leaves = go l.lacks.written l.quits }
    where
      ends : Joined → Option (List ℕ)
      ends = ends_here j l.e.link.output i l.core

      go : (written : Option (Handle → Bool)) → LacksAs k j y l.lacks.next written l.e.link.output l.core w.circuits w.server_logs y' ks' logs'
          → after w i y' ks' logs' ≡ server_after i (side_of i y (unsaid k j y l.lacks.next.action written w)) ends l.core (unsaid k j y l.lacks.next.action written w)
      go None q =
          sym (quits-now ends l.core y' ks' logs' q) ∙ ap (λ (s : ServerSide). server_after i s ends l.core w) (sym (ap (λ (o : Option ServerSide). unwrap_or o y) at))
      go (Some gone) q = sym (quits-acted l.lacks.next.action ends l.core y' ks' logs' q)

  breaks : (y' : ServerSide) (ks' : List Joined) (logs' : List (List Entry)) → BreaksAt k j y w.circuits w.server_logs y' ks' logs' → HappensServerStep w k j y (after w i y' ks' logs')
  breaks y' ks' logs' b = go b.cause b.other b.steps
    where
      over : after w i y' ks' logs' ≡ server_after i y (ends_here j b.left i y.core) (closed j.at_server y.core) w
      over = sym (quits-now (ends_here j b.left i y.core) (closed j.at_server y.core) y' ks' logs' b.quits)

      go : (cause : Why) → (cause ≢ why.OutOfMemory) → StepsOpen y.core j.at_server b.e (stepped.Closed cause b.left) (closed j.at_server y.core) → HappensServerStep w k j y (after w i y' ks' logs')
      go why.OutOfMemory other s = absurd (other refl)
      go why.Misaligned other s = (stepped.Closed why.Misaligned b.left, (b.e, b.has, s, over))
      go why.TooLarge other s = (stepped.Closed why.TooLarge b.left, (b.e, b.has, s, over))
      go why.Silence other s = (stepped.Closed why.Silence b.left, (b.e, b.has, s, over))
      go why.Asked other s = (stepped.Closed why.Asked b.left, (b.e, b.has, s, over))
      go why.Cut other s = (stepped.Closed why.Cut b.left, (b.e, b.has, s, over))

  rests : (y' : ServerSide) (ks' : List Joined) (logs' : List (List Entry)) → RestsAt j y w.circuits w.server_logs y' ks' logs' → HappensServerStep w k j y (after w i y' ks' logs')
  rests y' ks' logs' r = go r.full refl
    where
      same : after w i y' ks' logs' ≡ w
      same =
          let side = r.side in
          let circuits = r.circuits in
          let logged = r.logged in
          (λ t. record w { servers = slice_set w.servers i (side t); circuits = circuits t; server_logs = logged t })
          ∙ ap (λ (ss : List ServerSide). record w { servers = ss }) (set-same w.servers i y at)

      go : (b : Bool) → b ≡ r.full → HappensServerStep w k j y (after w i y' ks' logs')
      go true is = (stepped.OutputFull, (r.e, r.has, subst (λ (b : Bool). StepsOpen y.core j.at_server r.e (if b then stepped.OutputFull else stepped.NeedBytes) y.core) (sym is) r.steps, same))
      go false is = (stepped.NeedBytes, (r.e, r.has, subst (λ (b : Bool). StepsOpen y.core j.at_server r.e (if b then stepped.OutputFull else stepped.NeedBytes) y.core) (sym is) r.steps, same))

  -- A step of the server's end happened.
  pub step-happens : (y' : ServerSide) (ks' : List Joined) (logs' : List (List Entry)) → StepsAt k j y w.circuits w.server_logs y' ks' logs' → HappensServerStep w k j y (after w i y' ks' logs')
  step-happens y' ks' logs' (inl h) = (stepped.Handled, handles y' ks' logs' h)
  step-happens y' ks' logs' (inr (inl l)) = (stepped.Closed why.OutOfMemory l.e.link.output, lacks y' ks' logs' l)
  step-happens y' ks' logs' (inr (inr (inl b))) = breaks y' ks' logs' b
  step-happens y' ks' logs' (inr (inr (inr r))) = rests y' ks' logs' r
