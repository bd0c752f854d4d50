-- Which lines an event adds to the logs of clients.
use Rattle.std.proofs.Common.{◌≡◌, ℕ, zero, suc, ◌+◌, ◌<◌, ◌⊎◌, inl, inr, Bool, true, false, cond, List, [], ◌∷◌, ◌++◌, length, Option, Some, None, refl, sym, ap, subst, ◌∙◌, arith}
use Rattle.std.specs.Prelude.{drop, option_map, slice_get, unwrap_or}
use Rattle.ca_arena.specs.declared.handle.Handle.{Handle}
use Rattle.ca_text.specs.Place.{At}
use Rattle.ca_text.proofs.Places.{At-or, At-parts, At-set, At-snoc, some_is}
use Rattle.ca_model.specs.ClientEnds.{handed_over}
use Rattle.ca_model.specs.Ends as why
use Rattle.ca_model.specs.History.{Line, Noticed, Updated}
use Rattle.ca_model.specs.ServerSteps.{Stepped}
use Rattle.ca_model.specs.ServerSteps as stepped
use Rattle.ca_model.specs.ClientEvents.{DownTaken, up_taken}
use Rattle.ca_model.specs.Events.{Event}
use Rattle.ca_model.specs.Events as event
use Rattle.ca_model.specs.Runs.{CanBe, Happens, Leaves}
use Rattle.ca_model.specs.ServerEvents.{HappensFinish, ServerStepped, handled_at, unsaid}
use Rattle.ca_model.specs.World.{ClientSide, Joined, ServerSide, World, grown, with_circuit, with_client}
use Rattle.ca_laws_parts.proofs.WritesLists.{none_at}
use Rattle.ca_laws_parts.specs.Moves.{finish_told}
use Rattle.ca_laws_runs.specs.OrderSteps.{HaveLives}
use Rattle.ca_laws_runs.proofs.OrderGrows.{replied-rest}
use Rattle.ca_laws_runs.proofs.OrderKeeps.{did-after, did-step}

-- ---- lines

-- The line reports nothing to a caller.
abbrev pub IsSilent : Line → Type 0
IsSilent (Noticed intent o) = ⊥
IsSilent (Updated intent o) = ⊥
IsSilent line = Unit {0}

-- Each line of a log was there, at its place, or is such a one.
abbrev pub LinesFrom : (Line → Type 0) → (w new : World) → Type 0
LinesFrom Q w new = (l : ℕ) (y : List Line) (i : ℕ) (line : Line) → At new.client_logs l y → At y i line → ((x : List Line) × At w.client_logs l x × At x i line) ⊎ Q line

pub lines-then : (Q : Line → Type 0) (a b c : World) → LinesFrom Q a b → LinesFrom Q b c → LinesFrom Q a c
lines-then Q a b c f g l y i line at there = elim (g l y i line at there) [
  | inl old ↦ f l old.0 i line old.1 old.2
  | inr new ↦ inr new
]

pub lines-same : (Q : Line → Type 0) (w new : World) → new.client_logs ≡ w.client_logs → LinesFrom Q w new
lines-same Q w new is l y i line at there = inl (y, subst (λ (v : List (List Line)). At v l y) is at, there)

-- A log that grew: each line was there, or is one of these, after the others.
pub lines-grown : (logs : List (List Line)) (life : ℕ) (lines : List Line) → life < length logs → (l : ℕ) (y : List Line) (i : ℕ) (line : Line) → At (grown life lines logs) l y → At y i line
    → ((x : List Line) × At logs l x × At x i line) ⊎ ((x : List Line) × (p : ℕ) × (l ≡ life) × At logs l x × (y ≡ x ++ lines) × At lines p line × (i ≡ length x + p))
lines-grown logs life lines within l y i line at there = elim (At-or logs life) [
  | inr past ↦ absurd (omega (arith, within, past))
  | inl old ↦ elim (At-set logs life (unwrap_or (slice_get logs life) [] ++ lines) l y at) [
    | inr other ↦ inl (y, other.0, there)
    | inl own ↦
        let was : At logs l old.0 = subst (λ (n : ℕ). At logs n old.0) (sym own.0) old.1 in
        let is : y ≡ old.0 ++ lines = own.1 ∙ ap (λ (o : Option (List Line)). unwrap_or o [] ++ lines) old.1 in
        elim (At-parts old.0 lines i line (subst (λ (v : List Line). At v i line) is there)) [
          | inl first ↦ inl (old.0, was, first)
          | inr more ↦ inr (old.0, more.0, own.0, was, is, more.2, more.1)
        ]
  ]
]

pub lines-all : (Q : Line → Type 0) (w new : World) (life : ℕ) (lines : List Line) → life < length w.client_logs → new.client_logs ≡ grown life lines w.client_logs → ((p : ℕ) (line : Line) → At lines p line → Q line) → LinesFrom Q w new
lines-all Q w new life lines within is all l y i line at there = elim (lines-grown w.client_logs life lines within l y i line (subst (λ (v : List (List Line)). At v l y) is at) there) [
  | inl old ↦ inl old
  | inr more ↦ inr (all more.1 line more.5)
]

one-line : (Q : Line → Type 0) (a : Line) → Q a → (p : ℕ) (line : Line) → At (a ∷ []) p line → Q line
one-line Q a q zero line at = subst Q (some_is a line at) q
one-line Q a q (suc p) line at = absurd cc

no-line : (Q : Line → Type 0) (p : ℕ) (line : Line) → (let none : List Line = [] in At none p line) → Q line
no-line Q p line at = absurd (none_at p line at)

-- ---- events at which no caller is told

pub step-logs : (w new : World) (k : ℕ) (j : Joined) (y : ServerSide) (did : Stepped) → At w.circuits k j → ServerStepped w k j y did new → new.client_logs ≡ w.client_logs
step-logs w new k j y stepped.NeedBytes on f = ap (λ (z : World). z.client_logs) f.3
step-logs w new k j y stepped.OutputFull on f = ap (λ (z : World). z.client_logs) f.3
step-logs w new k j y (stepped.Closed why.OutOfMemory left) on f = ap (λ (z : World). z.client_logs) f.leaves ∙ go f.lacks.written
  where
    go : (o : Option (Handle → Bool)) → (unsaid k j y f.lacks.next.action o w).client_logs ≡ w.client_logs
    go None = refl
    go (Some gone) = refl
step-logs w new k j y (stepped.Closed cause left) on f = ap (λ (z : World). z.client_logs) f.3
step-logs w new k j y stepped.Handled on f = ap (λ (z : World). z.client_logs) f.leaves ∙ go (slice_get after.circuits k)
  where
    after : World
    after = did-after w new k j y on f

    go : (o : Option Joined) → (unwrap_or (option_map (λ (c : Joined). with_circuit k (handled_at (length j.lists.handled) (did-step w new k j y on f) (f.steps.0).replies c) after) o) after).client_logs ≡ w.client_logs
    go None = refl
    go (Some c) = refl

finish-logs : (w new : World) (i : ℕ) (y : ServerSide) (name : List ℕ) → HappensFinish w i y name new → new.client_logs ≡ w.client_logs
finish-logs w new i y name (inl f) = ap (λ (z : World). z.client_logs) f.leaves ∙ (replied-rest f.p f.sent (finish_told w i y name f.cr f.r f.p)).1
finish-logs w new i y name (inr refused) = ap (λ (z : World). z.client_logs) refused.2

up-logs : (w : World) (k n : ℕ) (j : Joined) (x : ClientSide) → (up_taken k n j x w).client_logs ≡ w.client_logs
up-logs w k n j x = go j.lists.client_open
  where
    go : (b : Bool) → (cond b (with_client j.client (record x { core = handed_over j.at_client n x.core }) w) (with_circuit k (record j { left_up = drop n j.left_up }) w)).client_logs ≡ w.client_logs
    go true = refl
    go false = refl

-- every event by which no caller is told
abbrev pub IsMute : Event → Type 0
IsMute (event.Clear i c) = ⊥
IsMute (event.CutClient k) = ⊥
IsMute (event.ClientStep k) = ⊥
IsMute (event.Accept i) = ⊥
IsMute (event.Tick moment) = ⊥
IsMute e = Unit {0}

module _ (w new : World) (lives : HaveLives w) where
  -- one line more, or none
  one : (i : ℕ) (x : ClientSide) (line : Line) → At w.clients i x → IsSilent line → new.client_logs ≡ grown x.life (line ∷ []) w.client_logs → LinesFrom IsSilent w new
  one i x line at silent is = lines-all IsSilent w new x.life (line ∷ []) (lives.present i x at) is (one-line IsSilent line silent)

  none : (i : ℕ) (x : ClientSide) → At w.clients i x → new.client_logs ≡ grown x.life [] w.client_logs → LinesFrom IsSilent w new
  none i x at is = lines-all IsSilent w new x.life [] (lives.present i x at) is (no-line IsSilent)

  logs : (mid : World) → new ≡ mid → new.client_logs ≡ mid.client_logs
  logs mid is = ap (λ (z : World). z.client_logs) is

  still : (mid : World) → new ≡ mid → mid.client_logs ≡ w.client_logs → LinesFrom IsSilent w new
  still mid is same = lines-same IsSilent w new (logs mid is ∙ same)

  mute-leaves : (e : Event) → IsMute e → (at : CanBe w e) → Leaves w e at new → LinesFrom IsSilent w new
  mute-leaves (event.Clear i c) mute at l = absurd mute
  mute-leaves (event.CutClient k) mute at l = absurd mute
  mute-leaves (event.ClientStep k) mute at l = absurd mute
  mute-leaves (event.Accept i) mute at l = absurd mute
  mute-leaves (event.Tick moment) mute at l = absurd mute
  mute-leaves (event.Open i name priority) mute at (inl f) = one i at.x _ at.at tt (logs _ f.3)
  mute-leaves (event.Open i name priority) mute at (inr f) = one i at.x _ at.at tt (logs _ f.4)
  mute-leaves (event.Read i c data_type count) mute at (inl f) = one i at.x _ at.at tt (logs _ f.3)
  mute-leaves (event.Read i c data_type count) mute at (inr f) = one i at.x _ at.at tt (logs _ f.4)
  mute-leaves (event.Write i c v) mute at (inl f) = one i at.x _ at.at tt (logs _ f.3)
  mute-leaves (event.Write i c v) mute at (inr f) = one i at.x _ at.at tt (logs _ f.4)
  mute-leaves (event.WriteNotify i c v) mute at (inl f) = one i at.x _ at.at tt (logs _ f.3)
  mute-leaves (event.WriteNotify i c v) mute at (inr f) = one i at.x _ at.at tt (logs _ f.4)
  mute-leaves (event.Subscribe i c data_type count mask) mute at (inl f) = one i at.x _ at.at tt (logs _ f.3)
  mute-leaves (event.Subscribe i c data_type count mask) mute at (inr f) = one i at.x _ at.at tt (logs _ f.4)
  mute-leaves (event.Unsubscribe i n) mute at (inl f) = one i at.x _ at.at tt (logs _ f.3)
  mute-leaves (event.Unsubscribe i n) mute at (inr f) = one i at.x _ at.at tt (logs _ f.4)
  mute-leaves (event.Collect i r) mute at f = one i at.x _ at.at tt (logs _ f.2)
  mute-leaves (event.GiveUp i r) mute at f = one i at.x _ at.at tt (logs _ f.2)
  mute-leaves (event.ClientDatagram i from bytes) mute at f = none i at.x at.at (logs _ f.3)
  mute-leaves (event.ServerDatagram i from bytes) mute at f = still w f.2 refl
  mute-leaves (event.Up k n) mute at f = lines-same IsSilent w new (logs _ f.2 ∙ up-logs w k n at.0.j at.0.x)
  mute-leaves (event.Down k n) mute at f =
      let mid : World = f.0 in
      lines-then IsSilent w mid new (lines-same IsSilent w mid (taken mid f.3))
      (lines-all IsSilent mid new at.0.x.life [] (let lt : at.0.x.life < length w.client_logs = lives.present at.0.j.client at.0.x at.0.joins.client in let e : length mid.client_logs ≡ length w.client_logs = ap (λ (v : List (List Line)). length v) (taken mid f.3) in omega (arith, lt, e)) (logs _ f.5) (no-line IsSilent))
    where
      taken : (mid : World) → DownTaken w k n at.0.j at.0.y mid → mid.client_logs ≡ w.client_logs
      taken mid (inl x) = ap (λ (z : World). z.client_logs) x.1.2
      taken mid (inr x) = ap (λ (z : World). z.client_logs) x.1
  mute-leaves (event.ServerStep k) mute at f = lines-same IsSilent w new (step-logs w new k at.j at.y f.0 at.joins.at f.1)
  mute-leaves (event.Pump k) mute at f = lines-same IsSilent w new (logs _ f.leaves)
  mute-leaves (event.CutServer k) mute at f = lines-same IsSilent w new (logs _ f.leaves)
  mute-leaves (event.ClientRestart i) mute at f = (λ l y p line there here. elim (At-snoc w.client_logs [] l y (subst (λ (v : List (List Line)). At v l y) (logs _ f) there)) [
    | inl old ↦ inl (y, old, here)
    | inr last ↦ absurd (none_at p line (subst (λ (v : List Line). At v p line) last.1 here))
  ])
  mute-leaves (event.ServerRestart i) mute at f = lines-same IsSilent w new (logs _ f)
  mute-leaves (event.Post i name v mask) mute at (gone, core, inl f) = lines-same IsSilent w new (logs _ f.1)
  mute-leaves (event.Post i name v mask) mute at (gone, core, inr f) = still w f.3 refl
  mute-leaves (event.Finish i name) mute at f = lines-same IsSilent w new (finish-logs w new i at.y name f)
  mute-leaves (event.Remove i name) mute at (gone, left, core, inl f) = lines-same IsSilent w new (logs _ f.1)
  mute-leaves (event.Remove i name) mute at (gone, left, core, inr f) = still w f.1 refl
  mute-leaves (event.Add i r) mute at (core, behind, inl f) = lines-same IsSilent w new (logs _ f.1)
  mute-leaves (event.Add i r) mute at (core, behind, inr f) = still w f.3 refl

  pub mute-event : (e : Event) → IsMute e → Happens w e new → LinesFrom IsSilent w new
  mute-event e mute happens = mute-leaves e mute happens.0 happens.1
