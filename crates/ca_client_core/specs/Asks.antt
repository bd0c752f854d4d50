-- Working: a request is issued after its message was queued. No clause of a caller needs it.
use Rattle.std.specs.Prelude.{ℕ, ◌≡◌, ◌++◌, [], ◌∷◌, Result, Ok, Err}
use Rattle.std.specs.declared.alloc.AllocError.{AllocError}
use Rattle.ca_arena.specs.declared.handle.Handle.{Handle}
use Rattle.ca_ids.specs.Table.{MayGive, with_held}
use Rattle.ca_wire.specs.Fields.{Fields}
use Rattle.ca_requests.specs.Calls.{new_request}
use Rattle.ca_requests.specs.Requests.{Asked}
use Rattle.ca_monitor.specs.Subscriptions.{Subscription, new_subscription}
use Rattle.ca_model.specs.Client.{Client}
use Rattle.ca_client_tables.specs.Ends.{cut_back, with_message}

-- the client with a new request of this handle
abbrev pub with_request : Handle → Handle → Handle → Asked → Client → Client
with_request q h c asked x = record x {
  requests = with_held q (new_request h c asked) x.requests;
  issued = x.issued ++ q ∷ [];
}

-- A request was issued under the handle that was told; or what was queued after the first n
-- bytes was taken back.
abbrev pub IssuesOr : ℕ → Client → (q h c : Handle) → Asked → Result (Unit {0}) AllocError → Client
    → Type 0
IssuesOr n old q h c asked (Ok _) new =
    MayGive old.requests q × (new ≡ with_request q h c asked old)
IssuesOr n old q h c asked (Err _) new = new ≡ cut_back c n old

-- A request was issued, and its message waits.
abbrev pub Asks : Client → (q h c : Handle) → Asked → Fields → Result (Unit {0}) AllocError → Client
    → Type 0
Asks old q h c asked m (Ok _) new =
    MayGive old.requests q × (new ≡ with_message c m (with_request q h c asked old))
Asks old q h c asked m (Err _) new = new ≡ old

-- the client with a subscription that begins, as this one does
abbrev pub with_subscription : Handle → Subscription → Client → Client
with_subscription s d x =
    record x {
      subscriptions = with_held s
          (new_subscription d.channel d.data_type d.count d.mask) x.subscriptions;
    }

-- A subscription was added under the handle that was told; or what was queued after the first n
-- bytes was taken back.
abbrev pub AddsOr : ℕ → Client → (s c : Handle) → Subscription → Result (Unit {0}) AllocError
    → Client → Type 0
AddsOr n old s c d (Ok _) new = MayGive old.subscriptions s × (new ≡ with_subscription s d old)
AddsOr n old s c d (Err _) new = new ≡ cut_back c n old

-- A subscription was added, and its message waits.
abbrev pub Subscribes : Client → (s c : Handle) → Subscription → Fields
    → Result (Unit {0}) AllocError → Client → Type 0
Subscribes old s c d m (Ok _) new =
    MayGive old.subscriptions s × (new ≡ with_message c m (with_subscription s d old))
Subscribes old s c d m (Err _) new = new ≡ old
