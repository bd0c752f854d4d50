-- The EVENT_ADDs of a channel's subscriptions, and a channel that is lost.
use Rattle.std.proofs.Common.{◌≡◌, ◌∙◌, ℕ, ◌+◌, ◌<◌, List, [], ◌∷◌, ◌++◌, Some, ap, get_or, length, sym, take}
use Rattle.std.proofs.lemmas.List.{map-append, take_more}
use Rattle.ca_arena.specs.declared.handle.Handle.{Handle}
use Rattle.ca_wire.specs.Fields.{Fields}
use Rattle.ca_wire.specs.Messages.{clear_request}
use Rattle.ca_ids.specs.Wire.{wire_of}
use Rattle.ca_requests.specs.Calls.{Issued, with_table}
use Rattle.ca_requests.specs.Requests as request
use Rattle.ca_client_core.specs.declared.notice.Notice.TheVariants as told
use Rattle.ca_client_core.specs.Notices.{as_notices}
use Rattle.ca_monitor.specs.Subscriptions.{Subscription, standing_to}
use Rattle.ca_model.specs.Answers as aim
use Rattle.ca_model.specs.Client.{Client, Leaving, Live, Native, On, disconnections, with_requests, with_standing}
use Rattle.ca_client_core.specs.Again.{add_message, add_messages, leaving, living, subscribed_again}
use Rattle.ca_client_tables.specs.Ends.{with_message}
use Rattle.ca_client_tables.proofs.Queued.{sending-all}

-- ---- the EVENT_ADDs of a channel's subscriptions

pub adds-more : (sid : ℕ) (es : List (Handle × Subscription)) (i : ℕ) (e : Handle × Subscription) → i < length es → e ≡ get_or es i e → add_messages sid (take i es) ++ add_message sid e ∷ [] ≡ add_messages sid (take (i + 1) es)
adds-more sid es i e within is =
    sym (ap (add_messages sid) (take_more es i e within ∙ ap (λ (f : Handle × Subscription). take i es ++ f ∷ []) (sym is))
    ∙ map-append (add_message sid) (take i es) (e ∷ []))

-- a channel that is live with them
pub lived : (c : Handle) (n : Native) (rights : ℕ) (h : Handle) (x : Client) → with_standing (On c (Live n rights)) h (subscribed_again c n.sid h x) ≡ (living c n rights h x).core
lived c n rights h x =
    sym (sending-all c (add_message n.sid) (λ (e : Handle × Subscription). aim.Subscribe e.1.channel e.0) (standing_to h x.subscriptions) (with_standing (On c (Live n rights)) h x))

-- ---- a channel that is lost, and cleared

pub left-behind : (x y : Client) (c : Handle) (sid : ℕ) (h : Handle) (m : Fields) (n : Issued) → y ≡ with_message c m x → m ≡ clear_request sid (wire_of h) → n ≡ with_table (request.channel_over h y.requests) (record { table = y.requests; order = y.issued }) → with_standing (On c Leaving) h (record y { requests = n.table; issued = n.order }) ≡ (leaving c sid h x).core
left-behind x y c sid h m n is says over =
    ap (λ (k : Issued). with_standing (On c Leaving) h (record y { requests = k.table; issued = k.order })) over
    ∙ ap (λ (z : Client). with_standing (On c Leaving) h (with_requests (request.channel_over h z.requests) z)) (is ∙ ap (λ (f : Fields). with_message c f x) says)

pub told-left : (x y : Client) (c h : Handle) (m : Fields) (over lost : List Handle) → y ≡ with_message c m x → over ≡ request.in_order_of_issue (request.asks_on h) y.requests y.issued → lost ≡ [] → as_notices over lost (Some (told.Lost h)) ≡ disconnections (request.asks_on h) x ++ aim.Lost h ∷ []
told-left x y c h m over lost is asked none =
    ap (λ (gs : List Handle). as_notices over gs (Some (told.Lost h))) none
    ∙ ap (λ (gs : List Handle). as_notices gs [] (Some (told.Lost h))) asked
    ∙ ap (λ (z : Client). as_notices (request.in_order_of_issue (request.asks_on h) z.requests z.issued) [] (Some (told.Lost h))) is
