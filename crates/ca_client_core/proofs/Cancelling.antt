-- A subscription is cancelled, by where its channel is.
use Rattle.std.proofs.Common.{◌≡◌, ◌∙◌, ℕ, Bool, true, false, List, [], Option, Some, None, Result, Ok, Err, ap, if◌then◌else◌, refl, sym}
use Rattle.ca_text.specs.declared.refusal.Refusal.{Refusal}
use Rattle.ca_text.specs.declared.refusal.Refusal.TheVariants as refusal
use Rattle.ca_arena.specs.declared.handle.Handle.{Handle}
use Rattle.ca_monitor.specs.Calls.{Comes}
use Rattle.ca_monitor.specs.Subscriptions.{Stage, Subscription, standing_under, with_stage}
use Rattle.ca_ids.specs.Table.{Table}
use Rattle.ca_model.specs.Answers.{Sending}
use Rattle.ca_model.specs.Client.{Client, Native, On, Standing, sending, standing_at}
use Rattle.ca_model.specs.Client as phase
use Rattle.ca_model.specs.ClientCalls.{ClientUnsubscribes, LiveChannel, cancel_fault, cancel_sent, is_over_at, unsubscribed}
use Rattle.ca_client_core.specs.Calls.{CancelsOn}

-- where it is known where its channel is
over-there : (x : Client) (d : Subscription) (o : Option Standing) (b : Bool) → standing_at x d.channel ≡ o → is_over_at x o ≡ b → cancel_fault x (Some d) ≡ (if b then Some refusal.OutputFull else None)
over-there x d o b at over =
    ap (λ (p : Option Standing). let r : Option Refusal = if is_over_at x p then Some refusal.OutputFull else None in r) at
    ∙ ap (λ (c : Bool). let r : Option Refusal = if c then Some refusal.OutputFull else None in r) over

-- it is over, with what that sends
pub cancelled-there : (x : Client) (s : Handle) (d : Subscription) (o : Option Standing) (new : Client) → standing_under s x.subscriptions ≡ Some d → standing_at x d.channel ≡ o → is_over_at x o ≡ false → new ≡ sending (cancel_sent s d o) (unsubscribed s o x) → (sent : List Sending) × ClientUnsubscribes x s (Ok tt) sent new
cancelled-there x s d o new stands at over left = (
  cancel_sent s d o,
  (
    d,
    stands,
    over-there x d o false at over,
    (sym (ap (cancel_sent s d) at), left ∙ sym (ap (λ (p : Option Standing). sending (cancel_sent s d p) (unsubscribed s p x)) at)),
  ),
)

-- on a live channel
pub cancelled-live : (x : Client) (s : Handle) (d : Subscription) (c : Handle) (n : Native) (rights : ℕ) (r : Result (Unit {0}) Refusal) (new : Client) → standing_under s x.subscriptions ≡ Some d → standing_at x d.channel ≡ Some (On c (phase.Live n rights)) → CancelsOn x s d c n.sid r new → (sent : List Sending) × ClientUnsubscribes x s r sent new
cancelled-live x s d c n rights (Ok u) new stands at h =
    cancelled-there x s d (Some (On c (phase.Live n rights))) new stands at h.0 h.1
cancelled-live x s d c n rights (Err refusal.OutputFull) new stands at h =
    ([], (ap (cancel_fault x) stands ∙ over-there x d (Some (On c (phase.Live n rights))) true at h.0, (refl, h.1)))
cancelled-live x s d c n rights (Err refusal.OutOfMemory) new stands at h =
    let l : LiveChannel = record { circuit = c; native = n; rights = rights } in
    ([], (d, l, stands, over-there x d (Some (On c (phase.Live n rights))) false at h.0, at, (refl, h.1)))
cancelled-live x s d c n rights (Err _) new stands at h = absurd h

-- what stands comes to its stage
pub comes-to : (stage : Stage) (t u : Table Subscription) (s : Handle) (d : Subscription) (r : Result Subscription Refusal) → standing_under s t ≡ Some d → Comes stage t s r u → u ≡ with_stage stage s t
comes-to stage t u s d (Ok e) stands h = h.1
comes-to stage t u s d (Err refusal.StaleHandle) stands h =
    let none : standing_under s t ≡ None = h.0 in
    absurd cc
comes-to stage t u s d (Err _) stands h = absurd h
