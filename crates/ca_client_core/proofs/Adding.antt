-- A subscription begins, with its message.
use Rattle.std.proofs.Common.{◌≡◌, ◌∙◌, ℕ, Bool, true, false, List, [], ◌∷◌, Some, None, Result, Ok, Err, ap, is_none, length, refl, subst}
use Rattle.std.specs.declared.alloc.AllocError.{AllocError}
use Rattle.ca_text.specs.declared.refusal.Refusal.{Refusal}
use Rattle.ca_text.specs.declared.refusal.Refusal.TheVariants as refusal
use Rattle.ca_arena.specs.declared.handle.Handle.{Handle}
use Rattle.ca_ids.specs.Table.{MayGive, is_full}
use Rattle.ca_ids.proofs.Holding.{may-not-full}
use Rattle.ca_monitor.specs.Subscriptions.{Subscription}
use Rattle.ca_wire.specs.Fields.{Fields}
use Rattle.ca_model.specs.Answers.{Sending}
use Rattle.ca_model.specs.Client.{Client, out_bytes, standing_at}
use Rattle.ca_model.specs.ClientCalls.{ClientSubscribes, IsLive, LiveChannel, Shape, ask_fault, event_add_sent, new_subscription, subscribe_fault}
use Rattle.ca_model.specs.Images.{type_of}
use Rattle.ca_client_core.specs.Asks.{AddsOr, Subscribes, with_subscription}
use Rattle.ca_client_tables.specs.Ends.{cut_back, with_message}
use Rattle.ca_client_core.proofs.Faults.{earlier-fault, last-fault}
use Rattle.ca_client_core.proofs.Requesting.{ask-memory, asks, cut-queued}

pub subscribes-or : (x y z : Client) (n : ℕ) (s c : Handle) (d : Subscription) (m : Fields) (r : Result (Unit {0}) AllocError) → n ≡ length (out_bytes x c) → y ≡ with_message c m x → AddsOr n y s c d r z → Subscribes x s c d m r z
subscribes-or x y z n s c d m (Ok u) all is did =
    (subst (λ (w : Client). MayGive w.subscriptions s) is did.0, did.1 ∙ ap (with_subscription s d) is)
subscribes-or x y z n s c d m (Err e) all is did = did ∙ ap (cut_back c n) is ∙ cut-queued x c m n all

pub subscribes-not : (x : Client) (h : Handle) (a : Shape) (mask : ℕ) (e : Refusal) → ask_fault x false h a ≡ Some e → (sent : List Sending) × ClientSubscribes x h a mask (Err e) sent x
subscribes-not x h a mask refusal.OutOfMemory is = absurd (ask-memory (is_none (type_of a.data_type)) x false h a is)
subscribes-not x h a mask e is =
    ([], (earlier-fault (asks (is_none (type_of a.data_type)) x a) refusal.ArenaFull e (is_full x.subscriptions) (standing_at x h) is, (refl, refl)))

pub subscribes-full : (x : Client) (h : Handle) (a : Shape) (mask : ℕ) (l : LiveChannel) → IsLive x h l → ask_fault x false h a ≡ None → is_full x.subscriptions ≡ true → (sent : List Sending) × ClientSubscribes x h a mask (Err refusal.ArenaFull) sent x
subscribes-full x h a mask l live none full =
    ([], (ap (λ (b : Bool). ask_fault x b h a) full ∙ last-fault (asks (is_none (type_of a.data_type)) x a) refusal.ArenaFull (standing_at x h) l live none, (refl, refl)))

-- it may go out
may-subscribe : (x : Client) (h : Handle) (a : Shape) (s : Handle) → ask_fault x false h a ≡ None → MayGive x.subscriptions s → subscribe_fault x h a ≡ None
may-subscribe x h a s none may = ap (λ (b : Bool). ask_fault x b h a) (may-not-full x.subscriptions s may) ∙ none

pub subscribes-out : (x : Client) (h : Handle) (a : Shape) (mask : ℕ) (s : Handle) (new : Client) → ask_fault x false h a ≡ None → MayGive x.subscriptions s → new ≡ x → (sent : List Sending) × ClientSubscribes x h a mask (Err refusal.OutOfMemory) sent new
subscribes-out x h a mask s new none may is = ([], (may-subscribe x h a s none may, (refl, is)))

pub subscribes-done : (x : Client) (h : Handle) (a : Shape) (mask : ℕ) (l : LiveChannel) (s : Handle) (d : Subscription) (m : Fields) (new : Client) → IsLive x h l → ask_fault x false h a ≡ None → d ≡ new_subscription h a mask → m ≡ (event_add_sent l.circuit l.native.sid s (new_subscription h a mask)).message → Subscribes x s l.circuit d m (Ok tt) new → (sent : List Sending) × ClientSubscribes x h a mask (Ok s) sent new
subscribes-done x h a mask l s d m new live none is says did = (
  event_add_sent l.circuit l.native.sid s (new_subscription h a mask) ∷ [],
  (
    l,
    live,
    may-subscribe x h a s none did.0,
    did.0,
    (
      refl,
      did.1
          ∙ ap (λ (f : Fields). with_message l.circuit f (with_subscription s d x)) says
          ∙ ap (λ (e : Subscription). with_message l.circuit (event_add_sent l.circuit l.native.sid s (new_subscription h a mask)).message (with_subscription s e x)) is,
    ),
  ),
)
