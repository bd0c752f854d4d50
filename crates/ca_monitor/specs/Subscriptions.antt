-- Vocabulary: a client's subscriptions, in their table of subscription ids (sections
-- "CA_PROTO_EVENT_ADD" and "CA_PROTO_EVENT_CANCEL").
use Rattle.std.specs.Prelude.{ℕ, ◌&&◌, Bool, true, false, List, Option, Some, None, filter}
use Rattle.std.specs.Prelude.{if◌then◌else◌, option_and_then}
use Rattle.ca_arena.specs.declared.handle.Handle.{Handle}
use Rattle.ca_ids.specs.Table.{Table, by_wire, held, same_handle, under, with_all, with_all_freed}
use Rattle.ca_ids.specs.Table.{with_changed}

-- A subscription stands; or its caller cancelled it on this circuit, and its id drains until the
-- confirmation; or its id drains on this circuit until its channel's clear is answered.
pub data Stage : Type 0 where
  Stands : Stage
  Cancelled Ended : Handle → Stage

-- a subscription: its channel, the type, the count and the mask that were asked for,
-- and whether it stands
pub record Subscription : Type 0 where
  pub channel : Handle
  pub data_type : ℕ
  pub count : ℕ
  pub mask : ℕ
  pub stage : Stage

-- a subscription to this channel that begins: it stands
abbrev pub new_subscription : (channel : Handle) → (data_type count mask : ℕ) → Subscription
new_subscription channel data_type count mask =
    record { channel = channel; data_type = data_type; count = count; mask = mask; stage = Stands }

-- a subscription to this channel
abbrev pub is_to : Handle → Subscription → Bool
is_to channel s = same_handle s.channel channel

-- the subscription stands
abbrev pub stands_in : Stage → Bool
stands_in Stands = true
stands_in (Cancelled circuit) = false
stands_in (Ended circuit) = false

-- the id drains on this circuit
abbrev pub drains_in : Handle → Stage → Bool
drains_in circuit Stands = false
drains_in circuit (Cancelled on) = same_handle on circuit
drains_in circuit (Ended on) = same_handle on circuit

-- a confirmation on this circuit is waited for
abbrev pub is_cancelled_in : Handle → Stage → Bool
is_cancelled_in circuit Stands = false
is_cancelled_in circuit (Cancelled on) = same_handle on circuit
is_cancelled_in circuit (Ended on) = false

-- ---- which subscription is meant

-- the subscription of this handle, if it stands
abbrev pub standing_under : Handle → Table Subscription → Option Subscription
standing_under h t =
    option_and_then (λ (s : Subscription). if stands_in s.stage then Some s else None) (under t h)

-- the subscription of this id, if it stands
abbrev pub standing_by : ℕ → Table Subscription → Option (Handle × Subscription)
standing_by id t =
    option_and_then (λ (e : Handle × Subscription). if stands_in e.1.stage then Some e else None)
    (by_wire t id)

-- the subscriptions to this channel that stand, in order of index
abbrev pub standing_to : Handle → Table Subscription → List (Handle × Subscription)
standing_to channel t =
    filter (λ (e : Handle × Subscription). is_to channel e.1 && stands_in e.1.stage) (held t)

-- The subscription whose cancel a confirmation of this id on this circuit is about. It is about
-- none that was not cancelled.
abbrev pub confirmed_by : Handle → ℕ → Table Subscription → Option Handle
confirmed_by circuit id t =
    option_and_then
    (λ (e : Handle × Subscription). if is_cancelled_in circuit e.1.stage then Some e.0 else None)
    (by_wire t id)

-- ---- subscriptions end

-- the subscription of this handle is at this stage
abbrev pub with_stage : Stage → Handle → Table Subscription → Table Subscription
with_stage stage h t = with_changed (λ (s : Subscription). record s { stage = stage }) h t

-- Once its channel is cleared, a subscription that stands is over; one that was cancelled still
-- waits for its confirmation.
abbrev pub stage_over : Handle → Stage → Stage
stage_over circuit Stands = Ended circuit
stage_over circuit (Cancelled on) = Cancelled on
stage_over circuit (Ended on) = Ended on

-- a subscription to this channel is over, and its id drains on this circuit
abbrev pub over_on : Handle → Handle → Subscription → Subscription
over_on circuit channel s =
    if is_to channel s then record s { stage = stage_over circuit s.stage } else s

-- the subscriptions to this channel are over, and their ids drain on this circuit
-- until its clear's reply
abbrev pub channel_over : Handle → Handle → Table Subscription → Table Subscription
channel_over circuit channel t = with_all (over_on circuit channel) t

-- the ids of this channel's subscriptions are free
abbrev pub channel_gone : Handle → Table Subscription → Table Subscription
channel_gone channel t = with_all_freed (is_to channel) t

-- the ids of this channel's subscriptions that drain on this circuit are free
abbrev pub channel_drained : Handle → Handle → Table Subscription → Table Subscription
channel_drained circuit channel t =
    with_all_freed (λ (s : Subscription). is_to channel s && drains_in circuit s.stage) t

-- the ids that drain on this circuit are free
abbrev pub circuit_gone : Handle → Table Subscription → Table Subscription
circuit_gone circuit t = with_all_freed (λ (s : Subscription). drains_in circuit s.stage) t
