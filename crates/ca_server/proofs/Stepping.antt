-- A step of a server: at most one write more is applied, or waits.
use Rattle.std.proofs.Common.{◌≡◌, ◌≤◌, ℕ, ◌+◌, ◌==◌, ◌&&◌, Bool, true, false, cond, List, Option, Some, None, refl, sym, ap, subst, arith, rules}
use Rattle.std.specs.Prelude.{min}
use Rattle.std.specs.Str.{bytes_eq}
use Rattle.ca_arena.specs.declared.handle.Handle.{Handle}
use Rattle.ca_ids.specs.Table.{same_handle, under}
use Rattle.ca_ids.specs.Wire.{wire_of}
use Rattle.ca_records.specs.declared.puts.Put.{Put}
use Rattle.ca_records.specs.Puts.{Record, WaitingPut, waiting_in, with_value, with_waiting, withdrawn, written_meta}
use Rattle.ca_text.specs.Limits.{applied_limit}
use Rattle.ca_wire.specs.Fields.{Fields}
use Rattle.ca_model.specs.Due.{Action, Adds, Applies, Clears, Drops, Greets, Names, Nothing, Opens, Switches, Waits}
use Rattle.ca_model.specs.Ends as why
use Rattle.ca_model.specs.Server.{Ended, Open, Server, ServerCircuit, ServerEnd}
use Rattle.ca_model.specs.ServerSteps.{Closed, Handled, Handles, LeftOf, NeedBytes, Next, OutputFull, Reaches, Records, Stepped, Steps, StepsAt, StepsOpen, closed}
use Rattle.ca_server.specs.Counts.{AreApart, CountsNothing, CountsOne}
use Rattle.ca_server.proofs.Names.{Distinct, apart, distinct, distinct-map}
use Rattle.ca_server.proofs.Waits.{waits-more}
use Rattle.ca_server.proofs.CountedCalls.{Fewer, closed-nothing, fewer-changed, fewer-valued, fewer-withdrawn, named-so}

-- what of a server is counted: how many writes were applied, and its records
record Grows (n : ℕ) (rs : List Record) (new : Server) : Type 0 where
  applied : n ≤ new.applied
  most : new.applied + waiting_in new.records ≤ n + waiting_in rs + 1
  names : Distinct rs → Distinct new.records

-- one write more, up to the limit
raised : (n limit : ℕ) → n ≤ limit → n ≤ min (n + 1) limit
raised n limit l = search rules

raised-one : (n limit : ℕ) → min (n + 1) limit ≤ n + 1
raised-one n limit = search rules

still : (old new : Server) → new ≡ old → Grows old.applied old.records new
still old new is = subst (λ (y : Server). Grows old.applied old.records y) (sym is) (record { applied = omega arith; most = omega arith; names = λ d. d })

fewer : (old new : Server) → new.applied ≡ old.applied → Fewer old.records new.records → Grows old.applied old.records new
fewer old new same f = record { applied = omega (arith, same); most = omega (arith, same, f.waits); names = f.names }

after : (old mid new : Server) → Grows old.applied old.records mid → CountsNothing mid new → Fewer mid.records new.records → Grows old.applied old.records new
after old mid new g c f = record {
  applied = omega (arith, g.applied, c.applied);
  most = omega (arith, g.most, c.applied, f.waits);
  names = λ d. f.names (g.names d);
}

-- after what a message makes of the records
recorded : (old : Server) (h : Handle) (e : ServerEnd) (m : Fields) (action : Action) (new : Server) → old.applied ≤ applied_limit → Distinct old.records → Records old h e m action new → Grows old.applied old.records new
recorded old h e m (Applies name value false) new l d is =
    let f = fewer-valued name value (written_meta value old.stamp) old.records in
    subst (λ (y : Server). Grows old.applied old.records y) (sym is)
    (record { applied = raised old.applied applied_limit l; most = omega (arith, raised-one old.applied applied_limit, f.waits); names = f.names })
recorded old h e m (Applies name value true) new l d is =
    let f = fewer-changed name (λ (r : Record). record (with_value value (written_meta value old.stamp) r) { busy = Some is.0 }) (λ r. refl) (λ r. omega arith) old.records in
    subst (λ (y : Server). Grows old.applied old.records y) (sym is.2)
    (record { applied = raised old.applied applied_limit l; most = omega (arith, raised-one old.applied applied_limit, f.waits); names = f.names })
recorded old h e m (Waits name value) new l d is =
    let p : WaitingPut = record { put = is.0; value = value } in
    subst (λ (y : Server). Grows old.applied old.records y) (sym is.2)
    (record {
      applied = omega arith;
      most = omega (arith, waits-more name p old.records d);
      names = distinct-map (λ (r : Record). cond (bytes_eq r.state.name name) (with_waiting p r) r) (λ r. named-so (with_waiting p) (λ q. refl) r (bytes_eq r.state.name name)) old.records;
    })
recorded old h e m (Clears sid) new l d is =
    subst (λ (y : Server). Grows old.applied old.records y) (sym is)
    (fewer old _ refl (fewer-withdrawn (λ (p : Put). same_handle p.circuit h && wire_of p.channel == sid) old.records))
recorded old h e m Nothing new l d is = still old new is
recorded old h e m Greets new l d is = still old new is
recorded old h e m (Names p) new l d is = still old new is
recorded old h e m (Opens c) new l d is = still old new is
recorded old h e m (Adds s) new l d is = still old new is
recorded old h e m (Drops k) new l d is = still old new is
recorded old h e m (Switches b) new l d is = still old new is

handled : (old : Server) (h : Handle) (e : ServerEnd) (m : Fields) (replies : List Fields) (action : Action) (new : Server) → old.applied ≤ applied_limit → Distinct old.records → Handles old h e m replies action new → Grows old.applied old.records new
handled old h e m replies action new l d did =
    let g = recorded old h e m action did.recorded l d did.records in
    subst (λ (y : Server). Grows old.applied old.records y) (sym did.leaves) (record { applied = g.applied; most = g.most; names = g.names })

-- and after that reached its subscriptions
posted : (old mid new : Server) (gone : Handle → Bool) → Grows old.applied old.records mid → new.applied ≡ mid.applied → new.records ≡ withdrawn (λ (p : Put). gone p.circuit) mid.records → Grows old.applied old.records new
posted old mid new gone g same is =
    let f = subst (λ (rs : List Record). Fewer mid.records rs) (sym is) (fewer-withdrawn (λ (p : Put). gone p.circuit) mid.records) in
    record { applied = omega (arith, g.applied, same); most = omega (arith, g.most, same, f.waits); names = λ d. f.names (g.names d) }

moved : (old mid new : Server) → Grows old.applied old.records mid → new ≡ mid → Grows old.applied old.records new
moved old mid new g is = subst (λ (y : Server). Grows old.applied old.records y) (sym is) g

reached : (old : Server) (action : Action) (gone : Handle → Bool) (mid new : Server) → Grows old.applied old.records mid → Reaches action gone mid new → Grows old.applied old.records new
reached old (Applies name value busies) gone mid new g did =
    posted old mid new gone g (ap (λ (y : Server). y.applied) did.1) (ap (λ (y : Server). y.records) did.1)
reached old Nothing gone mid new g did = moved old mid new g did.1
reached old Greets gone mid new g did = moved old mid new g did.1
reached old (Names p) gone mid new g did = moved old mid new g did.1
reached old (Opens c) gone mid new g did = moved old mid new g did.1
reached old (Clears sid) gone mid new g did = moved old mid new g did.1
reached old (Waits name value) gone mid new g did = moved old mid new g did.1
reached old (Adds s) gone mid new g did = moved old mid new g did.1
reached old (Drops k) gone mid new g did = moved old mid new g did.1
reached old (Switches b) gone mid new g did = moved old mid new g did.1

-- the end of a circuit is gone
gone-after : (old mid : Server) (h : Handle) → Grows old.applied old.records mid → Grows old.applied old.records (closed h mid)
gone-after old mid h g =
    let f = fewer-withdrawn (λ (p : Put). same_handle p.circuit h) mid.records in
    record { applied = g.applied; most = omega (arith, g.most, f.waits); names = λ d. f.names (g.names d) }

closed-over : (old mid new : Server) (h : Handle) → Grows old.applied old.records mid → new ≡ closed h mid → Grows old.applied old.records new
closed-over old mid new h g is = subst (λ (y : Server). Grows old.applied old.records y) (sym is) (gone-after old mid h g)

module _ (old : Server) (l : old.applied ≤ applied_limit) (d : Distinct old.records) where
  left-over : (h : Handle) (e : ServerEnd) (next : Next old h e) (written : Option (Handle → Bool)) (mid : Server) → LeftOf next written mid → Grows old.applied old.records mid
  left-over h e next None mid is = still old mid is
  left-over h e next (Some gone) mid is = reached old next.action gone next.after mid (handled old h _ next.m next.replies next.action next.after l d next.handles) is.1

  steps-open : (h : Handle) (e : ServerEnd) (did : Stepped) (new : Server) → StepsOpen old h e did new → Grows old.applied old.records new
  steps-open h e OutputFull new is = still old new is.1
  steps-open h e NeedBytes new is = still old new is.3
  steps-open h e Handled new is = reached old is.0.action is.1 is.0.after new (handled old h _ is.0.m is.0.replies is.0.action is.0.after l d is.0.handles) is.3
  steps-open h e (Closed why.OutOfMemory left) new is = closed-over old is.1.mid new h (left-over h e is.1.next is.1.written is.1.mid is.1.left_is) is.1.leaves
  steps-open h e (Closed why.Misaligned left) new is = closed-over old old new h (still old old refl) is.3
  steps-open h e (Closed why.TooLarge left) new is = closed-over old old new h (still old old refl) is.3
  steps-open h e (Closed why.Silence left) new is = closed-over old old new h (still old old refl) is.3
  steps-open h e (Closed why.Asked left) new is = closed-over old old new h (still old old refl) is.3
  steps-open h e (Closed why.Cut left) new is = closed-over old old new h (still old old refl) is.3

  steps-at : (h : Handle) (c : Option ServerCircuit) (did : Stepped) (new : Server) → StepsAt old h c did new → Grows old.applied old.records new
  steps-at h (Some (Open e)) did new is = steps-open h e did new is
  steps-at h (Some (Ended w left)) did new is = closed-over old old new h (still old old refl) is.1
  steps-at h None did new is = still old new is.1

pub steps : (old : Server) (h : Handle) (did : Stepped) (new : Server) → old.applied ≤ applied_limit → AreApart old.records → Steps old h did new → CountsOne old new
steps old h did new l a is =
    let d = distinct old.records a in
    let g = steps-at old l d h (under old.circuits h) did new is in
    record { applied = g.applied; most = g.most; apart = λ b. apart new.records (g.names d) }

-- where no end is open nothing is counted
pub steps-closed : (old : Server) (h : Handle) (did : Stepped) (new : Server) → ((e : ServerEnd) → under old.circuits h ≡ Some (Open e) → ⊥) → Steps old h did new → CountsNothing old new
steps-closed old h did new shut is = go (under old.circuits h) refl is
  where
    go : (c : Option ServerCircuit) → under old.circuits h ≡ c → StepsAt old h c did new → CountsNothing old new
    go (Some (Open e)) at did = absurd (shut e at)
    go (Some (Ended w left)) at did = subst (λ (y : Server). CountsNothing old y) (sym did.1) (closed-nothing h old)
    go None at did = subst (λ (y : Server). CountsNothing old y) (sym did.1) (record { applied = refl; waits = omega arith; apart = λ a. a })
