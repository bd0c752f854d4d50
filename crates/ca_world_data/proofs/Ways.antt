-- Where an EVENT_CANCEL goes, and a CLEAR_CHANNEL.
use Rattle.std.proofs.Common.{◌≡◌, ℕ, List, Option, Some, None, ap, refl, sym, subst, ◌∙◌}
use Rattle.ca_arena.specs.declared.handle.Handle.{Handle}
use Rattle.ca_client_core.specs.declared.for_histories.SubscriptionAsked.{SubscriptionAsked}
use Rattle.ca_client_core.specs.ForHistories.{AsksFor}
use Rattle.ca_ids.specs.Wire.{wire_of}
use Rattle.ca_monitor.specs.Subscriptions.{Subscription}
use Rattle.ca_text.proofs.Places.{some_is}
use Rattle.ca_model.specs.Client.{Clearing, Client, Connecting, Creating, Doomed, Leaving, Live, On, Searching, Standing, standing_at}
use Rattle.ca_model.specs.ClientCalls.{IsLive, LiveChannel, wanted_by}
use Rattle.ca_model.specs.World.{Joined}
use Rattle.ca_world_data.specs.declared.cancelling.Cancelling.{Cancelling}
use Rattle.ca_world_data.specs.declared.way.ChannelRoute.{ChannelRoute}
use Rattle.ca_world_data.specs.Clears.{ClearsAs, IsClearWay}
use Rattle.ca_world_data.specs.Speaking.{GoesBy}
use Rattle.ca_world_data.specs.Unsubscribes.{GoesAs, IsCancelWay}

-- no CLEAR_CHANNEL goes for a channel that is not live
pub clear-dead : (x : Client) (h : Handle) (ks : List Joined) (i : ℕ) (w : ChannelRoute) → ((l : LiveChannel) → IsLive x h l → ⊥) → w.circuit ≡ None → IsClearWay x ks i h w
clear-dead x h ks i w dead none = go (standing_at x h) refl
  where
    go : (o : Option Standing) → standing_at x h ≡ o → ClearsAs ks i w o
    go None is = none
    go (Some Searching) is = none
    go (Some (On c Connecting)) is = none
    go (Some (On c (Creating r))) is = none
    go (Some (On c (Live n r))) is = absurd (dead (record { circuit = c; native = n; rights = r }) is)
    go (Some (On c Leaving)) is = none
    go (Some (On c Clearing)) is = none
    go (Some (On c Doomed)) is = none

-- an EVENT_CANCEL goes where the CLEAR_CHANNEL of its channel would go
pub cancel-way : (x : Client) (ks : List Joined) (i : ℕ) (w : Cancelling) (way : ChannelRoute) (o : SubscriptionAsked) → AsksFor x w.handle (Some o) → IsClearWay x ks i o.channel way → w.circuit ≡ way.circuit
    → w.wanted ≡ record { sid = way.sid; id = wire_of w.handle; data_type = o.data_type; count = o.count } → IsCancelWay x ks i w
cancel-way x ks i w way o (d, stands, channel, data_type, count) clears circuit wanted e also =
    let is : d ≡ e = some_is d e (sym stands ∙ also) in
    let names : w.wanted ≡ wanted_by way.sid w.handle e = wanted ∙ (λ t. record { sid = way.sid; id = wire_of w.handle; data_type = (data_type ∙ ap (λ (z : Subscription). z.data_type) is) t; count = (count ∙ ap (λ (z : Subscription). z.count) is) t }) in
    go (standing_at x e.channel) names (subst (λ (z : Handle). IsClearWay x ks i z way) (channel ∙ ap (λ (z : Subscription). z.channel) is) clears)
  where
    go : (o : Option Standing) → w.wanted ≡ wanted_by way.sid w.handle e → ClearsAs ks i way o → GoesAs w.handle e ks i w o
    go None names none = circuit ∙ none
    go (Some Searching) names none = circuit ∙ none
    go (Some (On c Connecting)) names none = circuit ∙ none
    go (Some (On c (Creating r))) names none = circuit ∙ none
    go (Some (On c (Live n r))) names (goes, sid) = (subst (λ (z : Option ℕ). GoesBy z ks i c) (sym circuit) goes, names ∙ ap (λ (z : ℕ). wanted_by z w.handle e) sid)
    go (Some (On c Leaving)) names none = circuit ∙ none
    go (Some (On c Clearing)) names none = circuit ∙ none
    go (Some (On c Doomed)) names none = circuit ∙ none
