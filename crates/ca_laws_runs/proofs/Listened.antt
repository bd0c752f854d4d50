-- What a message that a client reads, a search reply, a datagram or a moment
-- makes of what was sent.
use Rattle.std.proofs.Common.{◌≡◌, ℕ, zero, suc, ◌<◌, inl, inr, Bool, true, false, ◌&&◌, cond, eqb, List, [], ◌∷◌, ◌++◌, Option, Some, None, refl, sym, ap, ◌∙◌, subst}
use Rattle.std.specs.Prelude.{filter, fold, option_map, unwrap_or}
use Rattle.ca_text.specs.declared.command.Command.TheVariants as command
use Rattle.ca_text.specs.Place.{At}
use Rattle.ca_text.proofs.Places.{At-mapped, At-one, some_is}
use Rattle.ca_arena.specs.declared.handle.Handle.{Handle}
use Rattle.ca_ids.specs.Table.{held, same_handle, under, with_freed}
use Rattle.ca_link.specs.declared.keep.Keep.{Keep}
use Rattle.ca_link.specs.declared.keep.Keep.TheVariants.{Close, Echo, Idle}
use Rattle.ca_link.specs.Link.{kept}
use Rattle.ca_search.specs.Searches as search
use Rattle.ca_monitor.specs.Subscriptions.{Subscription, confirmed_by, is_to, standing_to, stands_in}
use Rattle.ca_requests.specs.Requests.{Request, answered_by}
use Rattle.ca_requests.specs.Requests as request
use Rattle.ca_wire.specs.Fields.{Fields}
use Rattle.ca_wire.specs.Messages.{header_only, search_request}
use Rattle.ca_wire.specs.declared.header.Header.{Header}
use Rattle.ca_model.specs.Answers.{Notice, Sending}
use Rattle.ca_model.specs.Ends.{Address}
use Rattle.ca_model.specs.Client.{Channel, Client, ClientCircuit, Clearing, Connecting, Connection, Creating, Doomed, Leaving, Live, On, Phase, channel_on, circuit_to, connection_at, found_on, later, new_circuit, on_connection, searched_again, sending, with_requests, with_standing, without_channel}
use Rattle.ca_model.specs.ClientCalls.{clear_sent, event_add_sent, is_over}
use Rattle.ca_model.specs.ClientEnds.{Receives, ReceivesAll, Ticking, all_searched_on, beacon_heard, circuits_ticked, due, falls_silent, is_name_connected, of_circuit, searches_made, searches_on, ticks, ticks_as, with_sending}
use Rattle.ca_model.specs.ClientEnds as ends
use Rattle.ca_model.specs.Hears.{Answers, Completes, Effect, Fails, FindsAt, Hears, PutsOn, Updates, any_failed, clear_answered, confirmed, create_sent, created, doing, event_adds, failed, found_at, subscription_on, left, native_in, put_on, request_failed, rights_told, searched_by, subscription_failed, with_circuit, without_drained, without_request, without_subscription, write_failed}
use Rattle.ca_model.specs.Hears as hears
use Rattle.ca_model.specs.History.{Clear, Create, Sent, Subscribe}
use Rattle.ca_model.specs.History as history
use Rattle.ca_model.proofs.Handles.{same-is}
use Rattle.ca_model.proofs.Standings.{channel-on, searched-is}
use Rattle.ca_model.proofs.Tables.{changed-own, freed-back, held-apart, held-under}
use Rattle.ca_model.proofs.Thinner.{three-ways}
use Rattle.ca_laws_parts.proofs.Marks.{at-filter}
use Rattle.std.proofs.lemmas.Bool.{and_parts}
use Rattle.ca_model.specs.ClientEvents.{channel_number, meant_by}
use Rattle.ca_model.specs.World.{Names}
use Rattle.ca_laws_parts.specs.Circuit.{stamped}
use Rattle.ca_laws_runs.specs.Quiet.{AreAddedApart, HasCid, Quiet, Tidy}
use Rattle.ca_laws_runs.proofs.CidsSaid.{cid-none, cids-parts, cids-said}
use Rattle.ca_laws_parts.proofs.Filtered.{filter-order, rows-apart}
use Rattle.ca_laws_runs.proofs.AddedApart.{apart-more, apart-said}
use Rattle.ca_laws_runs.proofs.Phases.{created-live}
use Rattle.ca_laws_runs.proofs.Lesser.{Less, less-again, less-drained, less-ended, less-gone, less-itself, less-on, less-over-requests, less-requests, less-same, less-sending, less-stood, less-subscriptions, less-then, quiet-less, same-requests, same-subscriptions, tidy-less}
use Rattle.ca_laws_runs.proofs.Phased.{less-phase, like-connecting, moved-before, moved-created, moved-doomed-clearing, moved-live-leaving, standing-stage}
use Rattle.ca_laws_runs.proofs.Says.{Moved, moved-less, moved-less-then, moved-then, one-subscription, quiet-circuit, quiet-each, quiet-subscribed, said}

module _ (n : Names) (x : Client) (t : Tidy n x) where
  -- a message made the client this one, and sent nothing, or these
  quietly : (z : Client) (notices : List Notice) (e : Effect) → e ≡ doing [] notices z → Less x z → Moved n x n e.sent n e.core
  quietly z notices e is less = subst (λ (w : Effect). Moved n x n w.sent n w.core) (sym is) (moved-less n x z less t)

  sends : (sent : List Sending) (z : Client) (notices : List Notice) (e : Effect) → e ≡ doing sent notices z → Moved n x n sent n z → Moved n x n e.sent n e.core
  sends sent z notices e is moved = subst (λ (w : Effect). Moved n x n w.sent n w.core) (sym is) (moved-less-then n n n x z (sending sent z) sent moved (less-sending sent z))

  nothing : (notices : List Notice) (e : Effect) → e ≡ doing [] notices x → Moved n x n e.sent n e.core
  nothing notices e is = quietly x notices e is (less-itself x)

  module _ (c : Handle) where
    -- ---- channels

    moved-rights : (m : Fields) (e : Effect) (o : Option (Handle × Phase)) → channel_on x c m.p1 ≡ o → e ≡ rights_told x c m o → Moved n x n e.sent n e.core
    moved-rights m e None at is = nothing [] e is
    moved-rights m e (Some (h, Connecting)) at is = nothing [] e is
    moved-rights m e (Some (h, Leaving)) at is = nothing [] e is
    moved-rights m e (Some (h, Clearing)) at is = nothing [] e is
    moved-rights m e (Some (h, Doomed)) at is = nothing [] e is
    moved-rights m e (Some (h, Creating rights)) at is =
        let found = channel-on x c m.p1 h (Creating rights) at in
        quietly (with_standing (On c (Creating m.p2)) h x) [] e is (less-phase c h x found.0 (Creating rights) (Creating m.p2) found.1 found.3 (λ up number p. p))
    moved-rights m e (Some (h, Live native rights)) at is =
        let found = channel-on x c m.p1 h (Live native rights) at in
        quietly (with_standing (On c (Live native m.p2)) h x) [] e is (less-phase c h x found.0 (Live native rights) (Live native m.p2) found.1 found.3 (λ up number p. p))

    adds-cid : (m : Fields) (h : Handle) (i : ℕ) (s : Sending) → At (event_adds c m.p2 h x) i s → HasCid n.channels (stamped n s)
    adds-cid m h i s place =
        let b = At-mapped (λ (w : Handle × Subscription). event_add_sent c m.p2 w.0 w.1) (standing_to h x.subscriptions) i s place in
        let k = at-filter (λ (w : Handle × Subscription). is_to h w.1 && stands_in w.1.stage) (held x.subscriptions) i b.0 b.1 in
        let meant = t.subscriptions (b.0).0 (b.0).1 (held-under x.subscriptions k.0 b.0 k.1) in
        let is : (stamped n s).intent ≡ history.On (channel_number n (b.0).1.channel) (Subscribe meant.0) = ap (λ (z : Sending). (stamped n z).intent) b.2 ∙ meant.2 in
        cid-none n.channels (stamped n s) (λ a. (λ e. no-create (channel_number n (b.0).1.channel) a meant.0 (sym is ∙ e), λ e. no-clear (channel_number n (b.0).1.channel) a meant.0 (sym is ∙ e)))
      where
        no-create : (a b k : ℕ) → history.On a (Subscribe k) ≡ history.On b Create → ⊥
        no-create a b k e = cc

        no-clear : (a b k : ℕ) → history.On a (Subscribe k) ≡ history.On b Clear → ⊥
        no-clear a b k e = cc

    -- those that were sent before were sent before its CREATE_CHAN, and each of these is of
    -- another subscription
    adds-apart : (m : Fields) (h : Handle) (rights : ℕ) → channel_on x c m.p1 ≡ Some (h, Creating rights) → (on : Handle) (up : List Sent) → Quiet n x on up → AreAddedApart up → AreAddedApart (up ++ said n on (event_adds c m.p2 h x))
    adds-apart m h rights at on up q were = apart-more up (said n on (event_adds c m.p2 h x)) olds news were
      where
        row-of : (w : Handle × Subscription) (k : ℕ) → At (held x.subscriptions) k w → (number : ℕ) × (meant_by n.subscriptions w.0 ≡ history.On (channel_number n w.1.channel) (Subscribe number))
        row-of w k there = (let meant = t.subscriptions w.0 w.1 (held-under x.subscriptions k w there) in (meant.0, meant.2))

        -- each is an EVENT_ADD of a subscription that is on the channel
        add-of : (i : ℕ) (s : Sent) → At (said n on (event_adds c m.p2 h x)) i s → (w : Handle × Subscription) × (c ≡ on) × (w.1.channel ≡ h) × ((k : ℕ) × At (held x.subscriptions) k w) × (s.intent ≡ meant_by n.subscriptions w.0)
        add-of i s place =
            let a = At-mapped (stamped n) (filter (λ (z : Sending). same_handle z.circuit on) (event_adds c m.p2 h x)) i s place in
            let f = at-filter (λ (z : Sending). same_handle z.circuit on) (event_adds c m.p2 h x) i a.0 a.1 in
            let b = At-mapped (λ (w : Handle × Subscription). event_add_sent c m.p2 w.0 w.1) (standing_to h x.subscriptions) f.0 a.0 f.1 in
            let k = at-filter (λ (w : Handle × Subscription). is_to h w.1 && stands_in w.1.stage) (held x.subscriptions) f.0 b.0 b.1 in
            let both = and_parts (is_to h (b.0).1) (stands_in ((b.0).1).stage) k.2 in (
              b.0,
              ap (λ (z : Sending). z.circuit) (sym b.2) ∙ same-is (a.0).circuit on f.2,
              same-is ((b.0).1).channel h both.0,
              (k.0, k.1),
              ap (λ (z : Sent). z.intent) a.2 ∙ ap (λ (z : Sending). (stamped n z).intent) b.2,
            )

        same-channel : (a b k l : ℕ) → history.On a (Subscribe k) ≡ history.On b (Subscribe l) → a ≡ b
        same-channel a b k l e = cc

        same-sub : (a b k l : ℕ) → history.On a (Subscribe k) ≡ history.On b (Subscribe l) → k ≡ l
        same-sub a b k l e = cc

        no-create : (a b k : ℕ) → history.On a (Subscribe k) ≡ history.On b Create → ⊥
        no-create a b k e = cc

        olds : (k i a l : ℕ) (r s : Sent) → At up k r → At (said n on (event_adds c m.p2 h x)) i s → r.intent ≡ history.On a (Subscribe l) → s.intent ≡ history.On a (Subscribe l) → (p : ℕ) × (v : Sent) × (k < p) × At up p v × (v.intent ≡ history.On a Create)
        olds k i a l r s at_r at_s is_r is_s =
            let w = add-of i s at_s in
            let row = row-of w.0 w.3.0 w.3.1 in
            let number : channel_number n h ≡ a = ap (λ (z : Handle). channel_number n z) (sym w.2) ∙ same-channel (channel_number n (w.0).1.channel) a row.0 l (sym row.1 ∙ sym w.4 ∙ is_s) in
            let found = channel-on x c m.p1 h (Creating rights) at in
            let phase = q.channels h found.0 found.1 (Creating rights) (found.3 ∙ ap (λ (z : Handle). On z (Creating rights)) w.1) in
            let created = phase.1 in
            elim (three-ways k phase.0) [
              | inl less ↦ (phase.0, created.0, less, created.1, created.2 ∙ ap (λ (z : ℕ). history.On z Create) number)
              | inr (inl same) ↦ absurd (let one : r ≡ created.0 = At-one up phase.0 r created.0 (subst (λ (z : ℕ). At up z r) same at_r) created.1 in no-create a (channel_number n h) l (sym is_r ∙ ap (λ (z : Sent). z.intent) one ∙ created.2))
              | inr (inr more) ↦ absurd (phase.2 k r (Subscribe l) more at_r (is_r ∙ ap (λ (z : ℕ). history.On z (Subscribe l)) (sym number)))
            ]

        news : (i j a l : ℕ) (r s : Sent) → i < j → At (said n on (event_adds c m.p2 h x)) i r → At (said n on (event_adds c m.p2 h x)) j s → r.intent ≡ history.On a (Subscribe l) → s.intent ≡ history.On a (Subscribe l) → ⊥
        news i j a l r s lt at_r at_s is_r is_s =
            let adds : List Sending = event_adds c m.p2 h x in
            let mine : Sending → Bool = λ (z : Sending). same_handle z.circuit on in
            let a1 = At-mapped (stamped n) (filter mine adds) i r at_r in
            let a2 = At-mapped (stamped n) (filter mine adds) j s at_s in
            let f = filter-order mine adds i j a1.0 a2.0 lt a1.1 a2.1 in
            let b1 = At-mapped (λ (w : Handle × Subscription). event_add_sent c m.p2 w.0 w.1) (standing_to h x.subscriptions) f.0 a1.0 f.3 in
            let b2 = At-mapped (λ (w : Handle × Subscription). event_add_sent c m.p2 w.0 w.1) (standing_to h x.subscriptions) f.1 a2.0 f.4 in
            let g = filter-order (λ (w : Handle × Subscription). is_to h w.1 && stands_in w.1.stage) (held x.subscriptions) f.0 f.1 b1.0 b2.0 f.2 b1.1 b2.1 in
            let row1 = row-of b1.0 g.0 g.3 in
            let row2 = row-of b2.0 g.1 g.4 in
            let meant1 : meant_by n.subscriptions (b1.0).0 ≡ history.On a (Subscribe l) = sym (ap (λ (z : Sent). z.intent) a1.2 ∙ ap (λ (z : Sending). (stamped n z).intent) b1.2) ∙ is_r in
            let meant2 : meant_by n.subscriptions (b2.0).0 ≡ history.On a (Subscribe l) = sym (ap (λ (z : Sent). z.intent) a2.2 ∙ ap (λ (z : Sending). (stamped n z).intent) b2.2) ∙ is_s in
            rows-apart (held x.subscriptions) (held-apart x.subscriptions) g.0 g.1 b1.0 b2.0 g.2 g.3 g.4 (one-subscription n x (b1.0).0 (b2.0).0 a a l t meant1 meant2)

    -- the EVENT_ADDs of a channel that is live now
    moved-adds : (m : Fields) (h : Handle) (rights : ℕ) → channel_on x c m.p1 ≡ Some (h, Creating rights) → (let z : Client = with_standing (On c (Live (native_in m) rights)) h x in Moved n x n (event_adds c m.p2 h x) n z)
    moved-adds m h rights at =
        let found = channel-on x c m.p1 h (Creating rights) at in
        let z : Client = with_standing (On c (Live (native_in m) rights)) h x in
        let less : Less x z = less-phase c h x found.0 (Creating rights) (Live (native_in m) rights) found.1 found.3 (λ up number p. created-live up number p) in
        let u : Tidy n z = tidy-less n x z less t in
        record {
          tidy = u;
          quiet = λ on up q. quiet-each n z on (event_adds c m.p2 h x) (λ i s l place same quiet.
              let was = At-mapped (λ (w : Handle × Subscription). event_add_sent c m.p2 w.0 w.1) (standing_to h x.subscriptions) i s place in
              let k = at-filter (λ (w : Handle × Subscription). is_to h w.1 && stands_in w.1.stage) (held x.subscriptions) i was.0 was.1 in
              let row : under x.subscriptions (was.0).0 ≡ Some (was.0).1 = held-under x.subscriptions k.0 was.0 k.1 in
              let both = and_parts (is_to h (was.0).1) (stands_in ((was.0).1).stage) k.2 in
              let meant = u.subscriptions (was.0).0 (was.0).1 row in
              let on_is : c ≡ on = ap (λ (w : Sending). w.circuit) (sym was.2) ∙ same in
              let channel : ((was.0).1).channel ≡ h = same-is ((was.0).1).channel h both.0 in
              subst (λ (w : Sending). Quiet n z on (l ++ stamped n w ∷ [])) (sym was.2)
              (quiet-subscribed n z on l (stamped n (event_add_sent c m.p2 (was.0).0 (was.0).1)) u quiet h (record found.0 { standing = On c (Live (native_in m) rights) }) (native_in m) rights (Subscribe meant.0)
              (changed-own (λ (w : Channel). record w { standing = On c (Live (native_in m) rights) }) x.channels h found.0 found.1) (ap (λ (w : Handle). On w (Live (native_in m) rights)) on_is) tt
              (meant.2 ∙ ap (λ (w : Handle). history.On (channel_number n w) (Subscribe meant.0)) channel) (was.0).0 (was.0).1 (channel_number n ((was.0).1).channel) meant.0 row (standing-stage ((was.0).1).stage both.1) meant.2 refl refl)) up (quiet-less n x z on up less q);
          apart = λ on up q were. adds-apart m h rights at on up q were;
          cids = λ on up were. cids-parts n.channels up (said n on (event_adds c m.p2 h x)) were (cids-said n.channels n (λ (z : Sending). same_handle z.circuit on) (event_adds c m.p2 h x) (λ i s place. adds-cid m h i s place));
        }

    moved-heard-created : (m : Fields) (e : Effect) (o : Option (Handle × Phase)) → channel_on x c m.p1 ≡ o → e ≡ created x c m o → Moved n x n e.sent n e.core
    moved-heard-created m e None at is = nothing [] e is
    moved-heard-created m e (Some (h, Connecting)) at is = nothing [] e is
    moved-heard-created m e (Some (h, Live native rights)) at is = nothing [] e is
    moved-heard-created m e (Some (h, Leaving)) at is = nothing [] e is
    moved-heard-created m e (Some (h, Clearing)) at is = nothing [] e is
    moved-heard-created m e (Some (h, Creating rights)) at is = sends (event_adds c m.p2 h x) (with_standing (On c (Live (native_in m) rights)) h x) _ e is (moved-adds m h rights at)
    moved-heard-created m e (Some (h, Doomed)) at is =
        let found = channel-on x c m.p1 h Doomed at in
        sends (clear_sent c m.p2 h ∷ []) (with_standing (On c Clearing) h x) [] e is (moved-doomed-clearing n x h found.0 c m.p2 t found.1 found.3)

    moved-failed : (m : Fields) (e : Effect) (o : Option (Handle × Phase)) → e ≡ failed x o → Moved n x n e.sent n e.core
    moved-failed m e None is = nothing [] e is
    moved-failed m e (Some (h, Connecting)) is = nothing [] e is
    moved-failed m e (Some (h, Live native rights)) is = nothing [] e is
    moved-failed m e (Some (h, Leaving)) is = nothing [] e is
    moved-failed m e (Some (h, Clearing)) is = nothing [] e is
    moved-failed m e (Some (h, Creating rights)) is = quietly (searched_again x h) [] e is (less-again h x)
    moved-failed m e (Some (h, Doomed)) is = quietly (without_channel x h) [] e is (less-gone h x)

    moved-answered : (e : Effect) (o : Option (Handle × Phase)) → e ≡ clear_answered x c o → Moved n x n e.sent n e.core
    moved-answered e None is = nothing [] e is
    moved-answered e (Some (h, Connecting)) is = nothing [] e is
    moved-answered e (Some (h, Live native rights)) is = nothing [] e is
    moved-answered e (Some (h, Creating rights)) is = nothing [] e is
    moved-answered e (Some (h, Doomed)) is = nothing [] e is
    moved-answered e (Some (h, Clearing)) is = (let y : Client = without_drained c h x in quietly (without_channel y h) [] e is (less-then x y (without_channel y h) (less-drained c h x) (less-gone h y)))
    moved-answered e (Some (h, Leaving)) is = (let y : Client = without_drained c h x in quietly (searched_again y h) [] e is (less-then x y (searched_again y h) (less-drained c h x) (less-again h y)))

    moved-left : (m : Fields) (e : Effect) (o : Option (Handle × Phase)) → channel_on x c m.p1 ≡ o → e ≡ left x c o → Moved n x n e.sent n e.core
    moved-left m e None at is = nothing [] e is
    moved-left m e (Some (h, Connecting)) at is = nothing [] e is
    moved-left m e (Some (h, Creating rights)) at is = nothing [] e is
    moved-left m e (Some (h, Leaving)) at is = nothing [] e is
    moved-left m e (Some (h, Clearing)) at is = nothing [] e is
    moved-left m e (Some (h, Doomed)) at is = nothing [] e is
    moved-left m e (Some (h, Live native rights)) at is =
        let found = channel-on x c m.p1 h (Live native rights) at in
        let y : Client = with_requests (request.channel_over h x.requests) x in
        sends (clear_sent c native.sid h ∷ []) (with_standing (On c Leaving) h y) _ e is
        (moved-before n x y (with_standing (On c Leaving) h y) (clear_sent c native.sid h ∷ []) (less-over-requests h x) t (λ u. moved-live-leaving n y h found.0 c native.sid u found.1 native rights found.3))

    -- ---- requests and subscriptions

    less-request : (q : Handle) → Less x (without_request q x)
    less-request q = less-requests (with_freed q x.requests) x (λ k r is. same-requests x.requests k r (freed-back x.requests k q r is).1)

    less-subscription : (q : Handle) → Less x (without_subscription q x)
    less-subscription q = less-subscriptions (with_freed q x.subscriptions) x (λ k r is. same-subscriptions x.subscriptions k r (freed-back x.subscriptions k q r is).1)

    moved-reply : (m : Fields) (e : Effect) (o : Option (Handle × Request)) → Answers x m o e → Moved n x n e.sent n e.core
    moved-reply m e None is = nothing [] e is
    moved-reply m e (Some (q, r)) is = go r.stage is
      where
        go : (s : request.Stage) → Completes x m q r.asked s e → Moved n x n e.sent n e.core
        go request.Open done = quietly (without_request q x) _ e done.2 (less-request q)
        go request.Draining done = quietly (without_request q x) [] e done (less-request q)

    moved-confirmed : (e : Effect) (o : Option Handle) → e ≡ confirmed x o → Moved n x n e.sent n e.core
    moved-confirmed e None is = nothing [] e is
    moved-confirmed e (Some q) is = quietly (without_subscription q x) [] e is (less-subscription q)

    moved-update : (m : Fields) (e : Effect) (o : Option Handle) → Updates x m o e → Moved n x n e.sent n e.core
    moved-update m e None is = nothing [] e is
    moved-update m e (Some q) is = nothing _ e is.2

    moved-write : (m : Fields) (e : Effect) (o : Option (Handle × Phase)) → e ≡ write_failed x m o → Moved n x n e.sent n e.core
    moved-write m e None is = nothing [] e is
    moved-write m e (Some (h, Connecting)) is = nothing [] e is
    moved-write m e (Some (h, Creating rights)) is = nothing [] e is
    moved-write m e (Some (h, Live native rights)) is = nothing _ e is
    moved-write m e (Some (h, Leaving)) is = nothing [] e is
    moved-write m e (Some (h, Clearing)) is = nothing [] e is
    moved-write m e (Some (h, Doomed)) is = nothing [] e is

    moved-refused : (m : Fields) (e : Effect) (o : Option Handle) → e ≡ subscription_failed x m o → Moved n x n e.sent n e.core
    moved-refused m e None is = nothing [] e is
    moved-refused m e (Some q) is = quietly (without_subscription q x) _ e is (less-subscription q)

    moved-any : (m : Fields) (e : Effect) (o : Option (Handle × Request)) → e ≡ any_failed x m o → Moved n x n e.sent n e.core
    moved-any m e None is = nothing [] e is
    moved-any m e (Some (q, r)) is = go r.stage is
      where
        go : (s : request.Stage) → e ≡ request_failed x m q s → Moved n x n e.sent n e.core
        go request.Open done = quietly (without_request q x) _ e done (less-request q)
        go request.Draining done = nothing [] e done

    moved-error : (m : Fields) (e : Effect) → Fails x c m e → Moved n x n e.sent n e.core
    moved-error m e fails = elim fails [
      | inr not_whole ↦ nothing [] e not_whole.1
      | inl whole ↦ by whole.0 (eqb whole.0.command 4) (eqb whole.0.command 1) whole.2
    ]
      where
        by : (h : Header) (a b : Bool) → e ≡ cond a (write_failed x m (channel_on x c m.p1)) (cond b (subscription_failed x m (subscription_on x c h.p2)) (any_failed x m (answered_by c h.command h.p2 x.requests))) → Moved n x n e.sent n e.core
        by h true b is = moved-write m e (channel_on x c m.p1) is
        by h false true is = moved-refused m e (subscription_on x c h.p2) is
        by h false false is = moved-any m e (answered_by c h.command h.p2 x.requests) is

  -- ---- search replies

  moved-put-on : (c : Handle) (o : Option Connection) (h : Handle) (here : Channel) (e : Effect) → under x.channels h ≡ Some here → e ≡ put_on c o h here x → Moved n x n e.sent n e.core
  moved-put-on c None h here e there is =
      let y : Client = with_standing (On c Connecting) h x in
      quietly (found_on c Connecting h x) [] e is (less-then x y (found_on c Connecting h x) (less-stood (On c Connecting) h x (λ ch at. like-connecting c ch.standing)) (less-same y (found_on c Connecting h x) refl refl refl))
  moved-put-on c (Some d) h here e there is =
      let y : Client = with_standing (On c (Creating 0)) h x in
      sends (create_sent c h here ∷ []) (found_on c (Creating 0) h x) [] e is
      (moved-less-then n n n x y (found_on c (Creating 0) h x) (create_sent c h here ∷ []) (moved-created n x h here c t there) (less-same y (found_on c (Creating 0) h x) refl refl refl))

moved-puts-on : (n : Names) (x : Client) (t : Tidy n x) (address : Address) (h : Handle) (here : Channel) (o : Option (Handle × ClientCircuit)) (e : Effect) → under x.channels h ≡ Some here → PutsOn x address h here o e → Moved n x n e.sent n e.core
moved-puts-on n x t address h here (Some (c, d)) e there is = moved-put-on n x t c d.connection h here e there is
moved-puts-on n x t address h here None e there is = elim is [
  | inr full ↦ nothing n x t [] e full.1
  | inl new ↦
      let y : Client = with_circuit new.0 (new_circuit address here.priority false) x in
      moved-before n x y e.core e.sent (less-same x y refl refl refl) t (λ u. moved-put-on n y u new.0 None h here e there new.2)
]

moved-finds : (n : Names) (x : Client) (t : Tidy n x) (address : Address) (cid : ℕ) (o : Option (Handle × Channel)) (e : Effect) → searched_by cid x ≡ o → FindsAt x address o e → Moved n x n e.sent n e.core
moved-finds n x t address cid None e at is = nothing n x t [] e is
moved-finds n x t address cid (Some (h, here)) e at is = moved-puts-on n x t address h here (circuit_to address here.priority x) e (searched-is cid x h here at).0 is

-- ---- all messages

pub moved-heard : (n : Names) (x : Client) (t : Tidy n x) (c : Handle) (m : Fields) (e : Effect) → Hears x c m e → Moved n x n e.sent n e.core
moved-heard n x t c m e (hears.Search is d there finds) = moved-finds n x t (found_at d.address m) m.p2 (searched_by m.p2 x) e refl finds
moved-heard n x t c m e (hears.AccessRights is does) = moved-rights n x t c m e (channel_on x c m.p1) refl does
moved-heard n x t c m e (hears.CreateChannel is does) = moved-heard-created n x t c m e (channel_on x c m.p1) refl does
moved-heard n x t c m e (hears.CreateChannelFail is does) = moved-failed n x t c m e (channel_on x c m.p1) does
moved-heard n x t c m e (hears.ClearChannel is does) = moved-answered n x t c e (channel_on x c m.p2) does
moved-heard n x t c m e (hears.ServerDisconnect is does) = moved-left n x t c m e (channel_on x c m.p1) refl does
moved-heard n x t c m e (hears.Reply is does) = moved-reply n x t c m e (answered_by c m.command m.p2 x.requests) does
moved-heard n x t c m e (hears.Confirmation is empty does) = moved-confirmed n x t c e (confirmed_by c m.p2 x.subscriptions) does
moved-heard n x t c m e (hears.Update is some does) = moved-update n x t c m e (subscription_on x c m.p2) does
moved-heard n x t c m e (hears.Error is does) = moved-error n x t c m e does
moved-heard n x t c m e (hears.Other is does) = nothing n x t [] e does

-- ---- datagrams

moved-received : (n : Names) (x : Client) (t : Tidy n x) (from : Address) (m : Fields) (e : Effect) → Receives from x m e → Moved n x n e.sent n e.core
moved-received n x t from m e (ends.Search is finds) = moved-finds n x t (found_at from m) m.p2 (searched_by m.p2 x) e refl finds
moved-received n x t from m e (ends.Beacon is port does) = quietly n x t (beacon_heard from m x) [] e does (less-same x (beacon_heard from m x) refl refl refl)
moved-received n x t from m e (ends.Other not_search not_beacon does) = nothing n x t [] e does

pub moved-all-received : (n : Names) (from : Address) (ms : List Fields) (x : Client) (t : Tidy n x) (e : Effect) → ReceivesAll from x ms e → Moved n x n e.sent n e.core
moved-all-received n from [] x t e does = nothing n x t [] e does
moved-all-received n from (m ∷ ms) x t e does =
    let one = moved-received n x t from m does.0 does.2 in
    subst (λ (w : Effect). Moved n x n w.sent n w.core) (sym does.4)
    (moved-then n x does.0.core does.1.core does.0.sent does.1.sent one (moved-all-received n from ms does.0.core one.tidy does.1 does.3))

-- ---- a moment

-- messages that serve the circuit
moved-circuit : (n : Names) (x : Client) (t : Tidy n x) (s : Sending) → (stamped n s).intent ≡ history.OfCircuit → Moved n x n (s ∷ []) n (sending (s ∷ []) x)
moved-circuit n x t s is =
    moved-less-then n n n x x (sending (s ∷ []) x) (s ∷ [])
    (record { tidy = t; quiet = λ on up q. quiet-each n x on (s ∷ []) (λ i r l at same quiet. quiet-circuit n x on l (stamped n r) t quiet (only i r at)) up q; apart = λ on up q were. apart-said n on up (s ∷ []) (λ i r at a m e. serves-not a (Subscribe m) (sym (only i r at) ∙ e)) were; cids = λ on up were. cids-parts n.channels up (said n on (s ∷ [])) were (cids-said n.channels n (λ (z : Sending). same_handle z.circuit on) (s ∷ []) (λ i r at. cid-none n.channels (stamped n r) (λ a. (λ e. serves-not a Create (sym (only i r at) ∙ e), λ e. serves-not a Clear (sym (only i r at) ∙ e))))) }) (less-sending (s ∷ []) x)
  where
    serves-not : (a : ℕ) (ask : history.Ask) → history.OfCircuit ≡ history.On a ask → ⊥
    serves-not a ask e = cc

    only : (i : ℕ) (r : Sending) → At (s ∷ []) i r → (stamped n r).intent ≡ history.OfCircuit
    only zero r at = subst (λ (z : Sending). (stamped n z).intent ≡ history.OfCircuit) (some_is s r at) is
    only (suc i) r at = absurd cc

-- what a tick did so far
abbrev Ticked : Names → Client → Ticking → Type 0
Ticked n x t = Moved n x n t.sent n t.core

ticked-less : (n : Names) (x : Client) (t u : Ticking) → Less t.core u.core → u.sent ≡ t.sent → Ticked n x t → Ticked n x u
ticked-less n x t u less same m = subst (λ (l : List Sending). Moved n x n l n u.core) (sym same) (moved-less-then n n n x t.core u.core t.sent m less)

ticked-sending : (n : Names) (x : Client) (t : Ticking) (s : Sending) → (stamped n s).intent ≡ history.OfCircuit → Ticked n x t → Ticked n x (with_sending s t)
ticked-sending n x t s is m = moved-then n x t.core (sending (s ∷ []) t.core) t.sent (s ∷ []) m (moved-circuit n t.core m.tidy s is)

ticks-one : (n : Names) (x : Client) (t : Ticking) (c : Handle) → Ticked n x t → Ticked n x (ticks t c)
ticks-one n x t c m = go (connection_at t.core c)
  where
    by : (k : Keep) → Ticked n x (ticks_as k c t)
    by Idle = m
    by Close = ticked-less n x t (falls_silent c t) (less-ended c t.core) refl m
    by Echo =
        let noted : Client = on_connection (λ (e : Connection). record e { link = record e.link { echoed = true } }) c t.core in
        let u : Ticking = record t { core = noted } in
        ticked-sending n x u (of_circuit c (header_only command.Echo)) refl (ticked-less n x t u (less-on _ c t.core) refl m)

    go : (o : Option Connection) → Ticked n x (unwrap_or (option_map (λ (e : Connection). ticks_as (kept t.core.moment e.link) c t) o) t)
    go None = m
    go (Some e) = by (kept t.core.moment e.link)

ticks-all : (n : Names) (x : Client) (order : List Handle) (t : Ticking) → Ticked n x t → Ticked n x (fold ticks t order)
ticks-all n x [] t m = m
ticks-all n x (c ∷ order) t m = ticks-all n x order (ticks t c) (ticks-one n x t c m)

searched-one : (n : Names) (x : Client) (c : Handle) (t : Ticking) (w : search.Wanted) → Ticked n x t → Ticked n x (searches_on c t w)
searched-one n x c t w m = go (is_over t.core c)
  where
    go : (b : Bool) → Ticked n x (cond b t (with_sending (of_circuit c (search_request w.cid w.name)) t))
    go true = m
    go false = ticked-sending n x t (of_circuit c (search_request w.cid w.name)) refl m

searched-each : (n : Names) (x : Client) (c : Handle) (ws : List search.Wanted) (t : Ticking) → Ticked n x t → Ticked n x (fold (searches_on c) t ws)
searched-each n x c [] t m = m
searched-each n x c (w ∷ ws) t m = searched-each n x c ws (searches_on c t w) (searched-one n x c t w m)

searched-all : (n : Names) (x : Client) (ws : List search.Wanted) (cs : List Handle) (t : Ticking) → Ticked n x t → Ticked n x (fold (all_searched_on ws) t cs)
searched-all n x ws [] t m = m
searched-all n x ws (c ∷ cs) t m = searched-all n x ws cs (all_searched_on ws t c) (searched-each n x c ws t m)

pub moved-ticked : (n : Names) (moment : ℕ) (x : Client) → Tidy n x → (let t : Ticking = circuits_ticked moment x in Moved n x n (searches_made t).sent n (searches_made t).core)
moved-ticked n moment x tidy =
    let y : Client = record x { moment = later moment x } in
    let first : Ticking = record { core = y; sent = []; notices = []; closings = [] } in
    let t : Ticking = circuits_ticked moment x in
    let u : Ticking = fold (all_searched_on (due t.core)) t (filter (is_name_connected t.core) t.core.order) in
    ticked-less n x u (searches_made t) (less-same u.core (searches_made t).core refl refl refl) refl
    (searched-all n x (due t.core) (filter (is_name_connected t.core) t.core.order) t (ticks-all n x x.order first (moved-less n x y (less-same x y refl refl refl) tidy)))
