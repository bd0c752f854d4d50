-- Updates that left the queues of an end, and what was told of them.
use Rattle.std.proofs.Common.{◌≡◌, ℕ, ◌+◌, ◌≤◌, inl, inr, true, false, List, ◌++◌, Option, Some, None, length, drop, sym, ap, subst, ◌∙◌, arith}
use Rattle.std.specs.List.{FoldsTo}
use Rattle.std.specs.Prelude.{Vec}
use Rattle.std.specs.declared.alloc.Global.{Global}
use Rattle.std.proofs.lemmas.List.{drop_at, length-append}
use Rattle.ca_arena.specs.declared.handle.Handle.{Handle}
use Rattle.ca_ids.specs.Table.{under}
use Rattle.ca_wire.specs.Message.{spelled}
use Rattle.ca_model.specs.Ends as why
use Rattle.ca_model.specs.Server.{Ended, Open, Server, ServerCircuit, ServerEnd}
use Rattle.ca_model.specs.ServerSteps.{HasEnd, Leaves, Pumps, Rests, Steps, StepsAt, Update, closed, ended, output_of, with_end}
use Rattle.ca_model.specs.ServerSteps as steps
use Rattle.ca_model.specs.World as model
use Rattle.ca_laws_parts.proofs.ServerEnds.{end-own, ended-own, leaves-all}
use Rattle.ca_server_circuit.specs.Circuits.{is_open}
use Rattle.ca_world_data.specs.declared.joined.Joined.{Joined}
use Rattle.ca_world_data.specs.Seen.{joined_of}
use Rattle.ca_world_data.specs.ServerCuts.{IsServing, left_in}
use Rattle.ca_world_data.specs.Updates.{AreGood, IsReadyToPump, MayTell, TellsUpdates, WaitsAlike, shown_by}
use Rattle.ca_world.specs.ServerPumps.{PumpsUntil}

-- ---- a pump, by whether the end is open still

-- the end that was pumped, and it rests
pub record Resting (old : Server) (h : Handle) (updates : List Update) (new : Server) : Type 0 where
  pub e : ServerEnd
  pub has : HasEnd old h e
  pub after : ServerEnd
  pub leave : FoldsTo Leaves e updates after
  pub rests : Rests after
  pub is : new ≡ with_end h after old

-- or it ended
pub record Ending (old : Server) (h : Handle) (updates : List Update) (new : Server) : Type 0 where
  pub e : ServerEnd
  pub has : HasEnd old h e
  pub after : ServerEnd
  pub leave : FoldsTo Leaves e updates after
  pub more : Rests after → ⊥
  pub is : new ≡ ended h why.OutOfMemory after.link.output old

pub pumped-open : (old new : Server) (h : Handle) (us : List Update) → IsServing old h → Pumps old h us new → is_open (under new.circuits h) ≡ true → Resting old h us new
pumped-open old new h us serves (inl (e, has, (after, folds, inl (rests, is)))) on = record { e = e; has = has; after = after; leave = folds; rests = rests; is = is }
pumped-open old new h us serves (inl (e, has, (after, folds, inr (more, is)))) on =
    let over : under new.circuits h ≡ Some (Ended why.OutOfMemory after.link.output) =
    subst (λ (z : Server). under z.circuits h ≡ Some (Ended why.OutOfMemory after.link.output)) (sym is) (ended-own h why.OutOfMemory after.link.output old e has) in
    let off : false ≡ true = sym (ap is_open over) ∙ on in
    cc
pumped-open old new h us serves (inr none) on = absurd (none.0 serves.0 serves.1)

pub pumped-over : (old new : Server) (h : Handle) (us : List Update) → IsServing old h → Pumps old h us new → is_open (under new.circuits h) ≡ false → Ending old h us new
pumped-over old new h us serves (inl (e, has, (after, folds, inr (more, is)))) off = record { e = e; has = has; after = after; leave = folds; more = more; is = is }
pumped-over old new h us serves (inl (e, has, (after, folds, inl (rests, is)))) off =
    let there : under new.circuits h ≡ Some (Open after) =
    subst (λ (z : Server). under z.circuits h ≡ Some (Open after)) (sym is) (end-own old h e after has) in
    let on : true ≡ false = sym (ap is_open there) ∙ off in
    cc
pumped-over old new h us serves (inr none) off = absurd (none.0 serves.0 serves.1)

-- ---- bytes

-- what waits then
waits-then : (us : List Update) (e after : ServerEnd) → FoldsTo Leaves e us after → after.link.output ≡ e.link.output ++ spelled (shown_by us)
waits-then us e after folds = (leaves-all us e after folds).1

-- after what waited are the updates
behind : (us : List Update) (e after : ServerEnd) (bytes : List ℕ) (waited : ℕ) → FoldsTo Leaves e us after → bytes ≡ after.link.output → waited ≡ length e.link.output → drop waited bytes ≡ spelled (shown_by us)
behind us e after bytes waited folds is size =
    ap (drop waited) (is ∙ waits-then us e after folds) ∙ drop_at e.link.output (spelled (shown_by us)) waited (sym size)

behind-within : (us : List Update) (e after : ServerEnd) (bytes : List ℕ) (waited : ℕ) → FoldsTo Leaves e us after → bytes ≡ after.link.output → waited ≡ length e.link.output → waited ≤ length bytes
behind-within us e after bytes waited folds is size =
    let len : length bytes ≡ length e.link.output + length (spelled (shown_by us)) = ap (λ (l : List ℕ). length l) (is ∙ waits-then us e after folds) ∙ length-append e.link.output (spelled (shown_by us)) in
    omega (arith, len, size)

-- ---- what a pump did

module _ (old mid : Server) (j : Joined) (us : List Update) (waited : ℕ) (bytes : List ℕ) (fit : AreGood (shown_by us)) (alike : WaitsAlike old (joined_of j)) (rooms : List (List (Vec ℕ Global))) (ready : IsReadyToPump old j rooms) where
  -- what is told of the updates that left this end
  tells : (e after : ServerEnd) → HasEnd old j.at_server e → FoldsTo Leaves e us after → bytes ≡ after.link.output → waited ≡ length e.link.output → MayTell e us (drop waited bytes) j rooms
  tells e after has leave are size =
      record { after = after; leave = leave; good = fit; are = behind us e after bytes waited leave are size; alike = alike e has; memory = ready e has }

  -- the end is open, and rests
  module _ (r : Resting old j.at_server us mid) (size : waited ≡ length (output_of (under old.circuits j.at_server))) (are : bytes ≡ output_of (under mid.circuits j.at_server)) where
    size_e : waited ≡ length r.e.link.output
    size_e = size ∙ ap (λ (o : Option ServerCircuit). length (output_of o)) r.has

    open-bytes : bytes ≡ r.after.link.output
    open-bytes = are ∙ ap (λ (z : Server). output_of (under z.circuits j.at_server)) r.is ∙ ap output_of (end-own old j.at_server r.e r.after r.has)

    pub open-within : waited ≤ length bytes
    open-within = behind-within us r.e r.after bytes waited r.leave open-bytes size_e

    open-may : MayTell r.e us (drop waited bytes) j rooms
    open-may = tells r.e r.after r.has r.leave open-bytes size_e

    pub open-tells : (e : ServerEnd) × (vs : List Update) × MayTell e vs (drop waited bytes) j rooms
    open-tells = (r.e, us, open-may)

    pub open-told : (new : model.Joined) → TellsUpdates (drop waited bytes) j rooms new → PumpsUntil old (joined_of j) None mid new
    open-told new told = (record { e = r.e; has = r.has; updates = us; after = r.after; leave = r.leave; told = told r.e us open-may }, r.rests, r.is)

  -- it ended, and a step reports that
  module _ (r : Ending old j.at_server us mid) (size : waited ≡ length (output_of (under old.circuits j.at_server))) (did : steps.Stepped) (y' : Server) (does : Steps mid j.at_server did y') (are : bytes ≡ left_in did) where
    size_o : waited ≡ length r.e.link.output
    size_o = size ∙ ap (λ (o : Option ServerCircuit). length (output_of o)) r.has

    was_over : under mid.circuits j.at_server ≡ Some (Ended why.OutOfMemory r.after.link.output)
    was_over = subst (λ (z : Server). under z.circuits j.at_server ≡ Some (Ended why.OutOfMemory r.after.link.output)) (sym r.is) (ended-own j.at_server why.OutOfMemory r.after.link.output old r.e r.has)

    reports : StepsAt mid j.at_server (Some (Ended why.OutOfMemory r.after.link.output)) did y'
    reports = subst (λ (o : Option ServerCircuit). StepsAt mid j.at_server o did y') was_over does

    over-bytes : bytes ≡ r.after.link.output
    over-bytes = are ∙ ap left_in reports.0

    pub over-within : waited ≤ length bytes
    over-within = behind-within us r.e r.after bytes waited r.leave over-bytes size_o

    over-may : MayTell r.e us (drop waited bytes) j rooms
    over-may = tells r.e r.after r.has r.leave over-bytes size_o

    pub over-tells : (e : ServerEnd) × (vs : List Update) × MayTell e vs (drop waited bytes) j rooms
    over-tells = (r.e, us, over-may)

    pub over-told : (new : model.Joined) → TellsUpdates (drop waited bytes) j rooms new → PumpsUntil old (joined_of j) (Some bytes) y' new
    over-told new told = (
      record { e = r.e; has = r.has; updates = us; after = r.after; leave = r.leave; told = told r.e us over-may },
      r.more,
      over-bytes,
      reports.1 ∙ ap (closed j.at_server) r.is ∙ ap (λ (left : List ℕ). closed j.at_server (ended j.at_server why.OutOfMemory left old)) (sym over-bytes),
    )
