-- What a write leaves.
use Rattle.std.proofs.Common.{◌≡◌, ◌∙◌, ℕ, Bool, true, false, not, List, [], ◌∷◌, Some, None, Ok, Err, ap, refl}
use Rattle.ca_text.specs.declared.command.Command.TheVariants as command
use Rattle.ca_text.specs.declared.refusal.Refusal.{Refusal}
use Rattle.ca_text.specs.declared.refusal.Refusal.TheVariants as refusal
use Rattle.ca_arena.specs.declared.handle.Handle.{Handle}
use Rattle.ca_dbr.specs.Elements.{Elements}
use Rattle.ca_ids.specs.Table.{MayGive, is_full}
use Rattle.ca_ids.specs.Wire.{wire_of}
use Rattle.ca_ids.proofs.Holding.{may-not-full}
use Rattle.ca_records.specs.Rules.{may_write}
use Rattle.ca_requests.specs.Requests as request
use Rattle.ca_model.specs.Answers.{Sending}
use Rattle.ca_model.specs.Client.{Client, standing_at}
use Rattle.ca_model.specs.ClientCalls.{ClientPuts, ClientWrites, IsLive, LiveChannel, is_misfit, is_over, notify_fault, put_fault, put_sent, write_sent}
use Rattle.ca_client_core.specs.Asks.{Asks, with_request}
use Rattle.ca_client_tables.specs.Ends.{with_message}
use Rattle.ca_client_core.specs.Puts.{put_message}
use Rattle.ca_client_core.proofs.Faults.{Faults, and_then, earlier-fault, fault-memory, last-fault}

-- ---- a write

-- the faults of a write, except that no id is free
abbrev pub puts : Client → Elements → Faults
puts x e = λ (l : LiveChannel).
    (not (may_write l.rights), refusal.NoAccess) ∷ (is_misfit l.native e, refusal.BadCount) ∷ (is_over x l.circuit, refusal.OutputFull) ∷ []

put-memory : (x : Client) (h : Handle) (e : Elements) → put_fault x false h e ≡ Some refusal.OutOfMemory → ⊥
put-memory x h e is =
    fault-memory (and_then (puts x e) false refusal.ArenaFull) (standing_at x h)
    (λ l. (λ same. absurd cc, (λ same. absurd cc, (λ same. absurd cc, (λ same. absurd cc, tt))))) is

pub writes-not : (x : Client) (h : Handle) (e : Elements) (f : Refusal) → put_fault x false h e ≡ Some f → (sent : List Sending) × ClientWrites x h e (Err f) sent x
writes-not x h e refusal.OutOfMemory is = absurd (put-memory x h e is)
writes-not x h e f is = ([], (is, (refl, refl)))

pub writes-done : (x : Client) (h : Handle) (e : Elements) (l : LiveChannel) (id : ℕ) (new : Client) → IsLive x h l → put_fault x false h e ≡ None → id ≡ 0 → new ≡ with_message l.circuit (put_message command.Write l e id) x → (sent : List Sending) × ClientWrites x h e (Ok tt) sent new
writes-done x h e l id new live none zero is =
    (write_sent h l e ∷ [], (l, live, none, (refl, is ∙ ap (λ (n : ℕ). with_message l.circuit (put_message command.Write l e n) x) zero)))

-- ---- a put with notification

pub puts-not : (x : Client) (h : Handle) (e : Elements) (f : Refusal) → put_fault x false h e ≡ Some f → (sent : List Sending) × ClientPuts x h e (Err f) sent x
puts-not x h e refusal.OutOfMemory is = absurd (put-memory x h e is)
puts-not x h e f is = ([], (earlier-fault (puts x e) refusal.ArenaFull f (is_full x.requests) (standing_at x h) is, (refl, refl)))

pub puts-full : (x : Client) (h : Handle) (e : Elements) (l : LiveChannel) → IsLive x h l → put_fault x false h e ≡ None → is_full x.requests ≡ true → (sent : List Sending) × ClientPuts x h e (Err refusal.ArenaFull) sent x
puts-full x h e l live none full =
    ([], (ap (λ (b : Bool). put_fault x b h e) full ∙ last-fault (puts x e) refusal.ArenaFull (standing_at x h) l live none, (refl, refl)))

may-put-now : (x : Client) (h : Handle) (e : Elements) (q : Handle) → put_fault x false h e ≡ None → MayGive x.requests q → notify_fault x h e ≡ None
may-put-now x h e q none may = ap (λ (b : Bool). put_fault x b h e) (may-not-full x.requests q may) ∙ none

pub puts-out : (x : Client) (h : Handle) (e : Elements) (q : Handle) (new : Client) → put_fault x false h e ≡ None → MayGive x.requests q → new ≡ x → (sent : List Sending) × ClientPuts x h e (Err refusal.OutOfMemory) sent new
puts-out x h e q new none may is = ([], (may-put-now x h e q none may, (refl, is)))

pub puts-done : (x : Client) (h : Handle) (e : Elements) (l : LiveChannel) (q : Handle) (id : ℕ) (new : Client) → IsLive x h l → put_fault x false h e ≡ None → id ≡ wire_of q → Asks x q h l.circuit request.Put (put_message command.WriteNotify l e id) (Ok tt) new → (sent : List Sending) × ClientPuts x h e (Ok q) sent new
puts-done x h e l q id new live none is did = (
  put_sent h l e q ∷ [],
  (
    l,
    live,
    may-put-now x h e q none did.0,
    did.0,
    (
      refl,
      did.1
          ∙ ap (λ (n : ℕ). with_message l.circuit (put_message command.WriteNotify l e n) (with_request q h l.circuit request.Put x)) is,
    ),
  ),
)
