-- Each message that a client sent for a channel was called, after every run, for what it asks for or
-- carries; a CREATE_CHAN has the name of its channel.
use Rattle.std.proofs.Common.{◌≡◌, ℕ, inl, inr, List, Option, refl, sym, subst}
use Rattle.ca_text.specs.Place.{At}
use Rattle.ca_model.specs.Channels.{IsRequest}
use Rattle.ca_model.specs.History.{Called, Cancel, Circuit, Clear, Create, Entry, Intent, Line, Nothing, OfCircuit, On, Put, Read, Request, Sent, Subscribe, ToRead, ToWrite, Write}
use Rattle.ca_model.specs.Legal.{WasCalled}
use Rattle.ca_model.specs.Speech.{In}
use Rattle.ca_model.specs.Events.{Event}
use Rattle.ca_model.specs.Runs.{AreEvents, Runs}
use Rattle.ca_model.specs.World.{IsSetting, Joined, Setting, World, circuit_of}
use Rattle.ca_laws_runs.specs.Carried.{IsCalledIn, IsCarried, IsRead, IsWrite}
use Rattle.ca_laws_runs.specs.LegalParts.{MessagesWereCalled}
use Rattle.ca_laws_runs.proofs.ActsNamedRuns.{run-names}
use Rattle.ca_laws_runs.proofs.ActsOn.{of-circuits}
use Rattle.ca_laws_runs.proofs.AddsAnew.{run-renewed-stand}
use Rattle.ca_laws_runs.proofs.ClearsCalled.{run-ends-called}
use Rattle.ca_laws_runs.proofs.WritesCarried.{run-carried, write-carried}

module _ (s : Setting) (es : List Event) (stopped : Option Event) (w : World) (ok : IsSetting s) (are : AreEvents es) (runs : Runs s es stopped w)
    (n : ℕ) (j : Joined) (x : List Line) (on : At w.circuits n j) (lx : At w.client_logs j.lists.client x) (k : ℕ) (q : Sent) (at : At j.lists.up k q) where
  called : (i : Intent) → q.intent ≡ i → IsRequest i → IsCalledIn x q
  called i is asks = run-carried s es stopped w are runs n k j q x on at lx (subst (λ (z : Intent). IsRequest z) (sym is) asks)

  read-called : (i : Intent) → q.intent ≡ i → IsRead i → IsCalledIn x q → In x (Called i (ToRead q.message.data_type q.message.count))
  read-called i is reads (inl read) = subst (λ (z : Intent). In x (Called z (ToRead q.message.data_type q.message.count))) is read.1
  read-called i is reads (inr write) = absurd (not-both i reads (subst (λ (z : Intent). IsWrite z) is write.0))
    where
      not-both : (i : Intent) → IsRead i → IsWrite i → ⊥
      not-both (On a (Request Read m)) reads writes = writes
      not-both (On a (Request Put m)) reads writes = reads
      not-both (On a (Request Write m)) reads writes = reads
      not-both (On a Create) reads writes = reads
      not-both (On a Clear) reads writes = reads
      not-both (On a (Subscribe m)) reads writes = reads
      not-both (On a (Cancel m)) reads writes = reads
      not-both OfCircuit reads writes = reads

  carried : (i : Intent) → q.intent ≡ i → IsWrite i → IsRequest i → IsCarried x q
  carried i is writes asks = write-carried x q (subst (λ (z : Intent). IsWrite z) (sym is) writes) (called i is asks)

  message-called : (i : Intent) → q.intent ≡ i → WasCalled (circuit_of j) x k i q.message
  message-called (On a Create) is = (run-names s es stopped w runs).said n k a j x q on lx at is
  message-called (On a Clear) is = (run-ends-called s es stopped w ok are runs n k j q x on at lx).clears a is
  message-called (On a (Request Read m)) is = (ToRead q.message.data_type q.message.count, read-called (On a (Request Read m)) is tt (called (On a (Request Read m)) is tt), tt, (refl, refl))
  message-called (On a (Request Put m)) is = (let c = carried (On a (Request Put m)) is tt tt in (ToWrite c.given, subst (λ (i : Intent). In x (Called i (ToWrite c.given))) is c.called, tt, c.carries))
  message-called (On a (Request Write m)) is = (let c = carried (On a (Request Write m)) is tt tt in (ToWrite c.given, subst (λ (i : Intent). In x (Called i (ToWrite c.given))) is c.called, tt, c.carries))
  message-called (On a (Subscribe m)) is = (run-renewed-stand s es stopped w ok are runs).said n k a m j q x on at lx is
  message-called (On a (Cancel m)) is = (Nothing, (run-ends-called s es stopped w ok are runs n k j q x on at lx).cancels a m is, tt, tt)
  message-called OfCircuit is = tt

pub run-called : (s : Setting) (es : List Event) (stopped : Option Event) (w : World) → IsSetting s → AreEvents es → Runs s es stopped w → MessagesWereCalled w
run-called s es stopped w ok are runs =
    of-circuits s es stopped w ok runs (λ (n : ℕ) (c : Circuit) (x : List Line) (y : List Entry). (k : ℕ) (q : Sent) → At c.up k q → WasCalled c x k q.intent q.message)
    (λ n j x y on lx ly k q at. message-called s es stopped w ok are runs n j x on lx k q at q.intent refl)
