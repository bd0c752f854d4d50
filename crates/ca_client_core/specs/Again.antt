-- Working: parts of what a CREATE_CHAN and a SERVER_DISCONN do. No clause of a caller needs it.
use Rattle.std.specs.Prelude.{ℕ, ◌++◌, List, [], ◌∷◌, map}
use Rattle.ca_arena.specs.declared.handle.Handle.{Handle}
use Rattle.ca_wire.specs.Fields.{Fields}
use Rattle.ca_wire.specs.Messages.{event_add_request}
use Rattle.ca_monitor.specs.Subscriptions.{Subscription, standing_to}
use Rattle.ca_requests.specs.Requests.{asks_on}
use Rattle.ca_requests.specs.Requests as request
use Rattle.ca_model.specs.Answers as notice
use Rattle.ca_model.specs.Client.{Client, Native, On, disconnections, with_requests, with_standing}
use Rattle.ca_model.specs.Client as phase
use Rattle.ca_model.specs.ClientCalls.{clear_sent, wanted_by}
use Rattle.ca_model.specs.Hears.{Effect, doing, event_adds}
use Rattle.ca_client_tables.specs.Ends.{with_messages}

-- the EVENT_ADD of a subscription
abbrev pub add_message : ℕ → Handle × Subscription → Fields
add_message sid e = event_add_request (wanted_by sid e.0 e.1) e.1.mask

abbrev pub add_messages : ℕ → List (Handle × Subscription) → List Fields
add_messages sid es = map (add_message sid) es

-- the client with the EVENT_ADDs of this channel's subscriptions waiting, in order of index
abbrev pub subscribed_again : Handle → ℕ → Handle → Client → Client
subscribed_again c sid h x = with_messages c (add_messages sid (standing_to h x.subscriptions)) x

-- a channel that is being created is live as this
abbrev pub living : Handle → Native → ℕ → Handle → Client → Effect
living c n rights h x =
    doing (event_adds c n.sid h x) (notice.Live h ∷ [])
    (with_standing (On c (phase.Live n rights)) h x)

-- one that its caller cleared meanwhile is cleared now
abbrev pub dooming : Handle → ℕ → Handle → Client → Effect
dooming c sid h x = doing (clear_sent c sid h ∷ []) [] (with_standing (On c phase.Clearing) h x)

-- a live channel is lost, and cleared
abbrev pub leaving : Handle → ℕ → Handle → Client → Effect
leaving c sid h x =
    doing
    (clear_sent c sid h ∷ [])
    (disconnections (asks_on h) x ++ notice.Lost h ∷ [])
    (with_standing (On c phase.Leaving) h (with_requests (request.channel_over h x.requests) x))
