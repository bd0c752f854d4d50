-- The step of a client's end, as an event of a world: what is held of each circuit stays so.
use Rattle.std.proofs.Common.{◌≡◌, ℕ, ◌+◌, ◌<◌, ◌⊎◌, inl, inr, true, List, [], length, Option, Some, refl, sym, subst}
use Rattle.std.proofs.lemmas.Bool.{cases_Bool}
use Rattle.ca_text.specs.Place.{At}
use Rattle.ca_text.proofs.Places.{At-within}
use Rattle.ca_arena.specs.declared.handle.Handle.{Handle}
use Rattle.ca_ids.specs.Table.{same_handle}
use Rattle.ca_link.specs.Link.{TakesFirst}
use Rattle.ca_monitor.specs.Subscriptions.{confirmed_by}
use Rattle.ca_requests.specs.Requests.{answered_by}
use Rattle.ca_wire.specs.Fields.{Fields}
use Rattle.ca_model.specs.Answers.{Closed, NeedBytes, Notice, Notices, Sending, Stepped}
use Rattle.ca_model.specs.Client.{Client, Connection, channel_on, connection_at}
use Rattle.ca_model.specs.ClientEnds.{StepsOn, Takes, after_taking}
use Rattle.ca_model.specs.Hears.{AccessRights, ClearChannel, Confirmation, CreateChannel, CreateChannelFail, Effect, Error, Finds, Hears, Other, Reply, Search, ServerDisconnect, Update, found_at, subscription_on, searched_by}
use Rattle.ca_model.specs.History.{Circuit, Line, Step}
use Rattle.ca_model.specs.ClientEvents.{HappensClientStep, Outcomes, about_at, client_ended, client_stepped, heard_in, lines_of}
use Rattle.ca_model.specs.World.{ClientSide, Joined, Names, World, log_length}
use Rattle.ca_laws_parts.specs.Flows.{Awaits}
use Rattle.ca_laws_parts.specs.Held.{MeanToSubscribe}
use Rattle.ca_model.specs.Placed.{Attached}
use Rattle.ca_laws_parts.proofs.Alike.{holds-alike}
use Rattle.ca_laws_parts.proofs.Flows.{flows-heard}
use Rattle.ca_laws_parts.proofs.CircuitHeard.{holds-heard}
use Rattle.ca_laws_parts.specs.Circuit.{AreNumbered, HaveHandles, HeldAt, HeldOn, IsKnown}
use Rattle.ca_laws_parts.proofs.Bytes.{keeps-client-end}
use Rattle.ca_laws_parts.proofs.Finds.{found-held}
use Rattle.ca_laws_parts.proofs.RunsHeard.{Did, answered-did, created-did, failed-did, left-did, nothing, rights-did}
use Rattle.ca_laws_parts.proofs.Ids.{confirmed-did, error-did, reply-did, update-did}
use Rattle.ca_laws_parts.proofs.RunsMoves.{on-connection-alike}
use Rattle.ca_laws_parts.proofs.RunsSteps.{step-far, step-held}
use Rattle.ca_laws_parts.proofs.Worlds.{after-step}

-- What a message did to tables and circuits; or it was a search reply.
abbrev Done : (kept : List ℕ) (on : Handle) (n : Names) (x : Client) (c : Circuit) (g : Step) (m : Fields) (e : Effect) → Type 0
Done kept on n x c g m e = Did kept on n x c g e ⊎ ((address : _) × Finds x address m e)

done : (kept : List ℕ) (on : Handle) (n : Names) (x : Client) (c : Circuit) (g : Step) (m : Fields) (e : Effect) → Attached x → MeanToSubscribe n x.subscriptions → IsKnown n x on c m → Hears x on m e → Done kept on n x c g m e
done kept on n x c g m e attached meant k (Search is d there finds) = inr (d.address, finds)
done kept on n x c g m e attached meant k (AccessRights is does) = inl (rights-did kept on n x c g m e (channel_on x on m.p1) refl does)
done kept on n x c g m e attached meant k (CreateChannel is does) = inl (created-did kept on n x c g meant m e (channel_on x on m.p1) refl does)
done kept on n x c g m e attached meant k (CreateChannelFail is does) = inl (failed-did kept on n x c g m e (channel_on x on m.p1) is k refl does)
done kept on n x c g m e attached meant k (ClearChannel is does) = inl (answered-did kept on n x c g attached m e (channel_on x on m.p2) is k refl does)
done kept on n x c g m e attached meant k (ServerDisconnect is does) = inl (left-did kept on n x c g m e (channel_on x on m.p1) refl does)
done kept on n x c g m e attached meant k (Reply is does) = inl (reply-did kept on n x c g m e (answered_by on m.command m.p2 x.requests) is k refl does)
done kept on n x c g m e attached meant k (Confirmation is empty does) = inl (confirmed-did kept on n x c g m e (confirmed_by on m.p2 x.subscriptions) is empty k refl does)
done kept on n x c g m e attached meant k (Update is some does) = inl (update-did kept on n x c g m e (subscription_on x on m.p2) does)
done kept on n x c g m e attached meant k (Error is does) = inl (error-did kept on n x c g m e is k does)
done kept on n x c g m e attached meant k (Other is does) = inl (nothing kept on n x c g [] e does)

-- taking bytes changes no table
taking-held : (kept : List ℕ) (n : Names) (x : Client) (on : Handle) (rest : List ℕ) (j : Joined) → HeldOn kept n x j → HeldOn kept n (after_taking on rest x) j
taking-held kept n x on rest j h =
    record { flows = h.flows; cids = h.cids; holds = λ o. holds-alike (Awaits j.lists kept) j.at_client n x (after_taking on rest x) j.lists (on-connection-alike j.at_client on _ x) (h.holds o) }

taking-attached : (x : Client) (on : Handle) (rest : List ℕ) → Attached x → Attached (after_taking on rest x)
taking-attached x on rest a = record { requests = a.requests; subscriptions = a.subscriptions }

heard-held : (kept : List ℕ) (n : Names) (x : Client) (j : Joined) (g : Step) → g.sent ≡ length j.lists.up → length j.lists.heard < length j.lists.down → HeldOn kept n x j → HeldOn kept n x (heard_in g j)
heard-held kept n x j g now more h =
    record { flows = flows-heard (Awaits j.lists kept) j.lists g now more h.flows; cids = h.cids; holds = λ o. holds-heard (Awaits j.lists kept) j.at_client n x j.lists g (h.holds o) }

pub keeps-client-step : (kept : List ℕ) (w new : World) (k l : ℕ) (j : Joined) (x : ClientSide) (d : Connection) → At w.circuits k j → At w.clients j.client x → j.lists.client_open ≡ true → connection_at x.core j.at_client ≡ Some d → HaveHandles w → Attached x.core
    → MeanToSubscribe x.names x.core.subscriptions → AreNumbered x.names x.core → ((m : Fields) (rest : List ℕ) → TakesFirst d.link m rest → IsKnown x.names (after_taking j.at_client rest x.core) j.at_client j.lists m)
    → HappensClientStep w k j x new → HeldAt kept w l → HeldAt kept new l
keeps-client-step kept w new k l j x d at there open_it connected apart attached meant numbered known happens held =
    subst (λ (v : World). HeldAt kept v l) (sym happens.4)
    (by happens.0 happens.1 happens.2 (subst (λ (o : Option Connection). StepsOn x.core j.at_client o happens.0 happens.1 happens.2) connected happens.3))
  where
    notices : (told : List Notice) (sent : List Sending) (core : Client) → Takes x.core j.at_client d (record { core = core; sent = sent; notices = told }) → HeldAt kept (client_stepped k j x (Notices told) sent core w) l
    notices told sent core takes =
        let e : Effect = record { core = core; sent = sent; notices = told } in
        let y : Client = after_taking j.at_client takes.rest x.core in
        let lines : List Line = lines_of (about_at j.lists (length j.lists.heard)) x.names told in
        let logged : ℕ = log_length x.life w.client_logs in
        let g : Step = record { sent = length j.lists.up; logged = logged; after = logged + length lines } in
        let o : Outcomes = record { core = core; names = x.names; lines = lines; sent = sent } in
        let knows = known takes.m takes.rest takes.first in
        let more : length j.lists.heard < length j.lists.down = At-within j.lists.down (length j.lists.heard) knows.t knows.at in
        let ready : Attached y = taking-attached x.core j.at_client takes.rest attached in
        let did : (m : List ℕ) → Done m j.at_client x.names y j.lists g takes.m e = λ m. done m j.at_client x.names y j.lists g takes.m e ready meant knows takes.hears in
        let taken : (a : Joined) → HeldOn kept x.names x.core a → HeldOn kept x.names y a = λ a h. taking-held kept x.names x.core j.at_client takes.rest a h in
        after-step kept w k l j (heard_in g j) x x.names o at there refl
        (λ was. elim (did kept) [
          | inl done_it ↦ step-held kept j.client x.names y j g e done_it refl more (taken j was) refl open_it
          | inr finds ↦ found-held kept j.client x.names y (heard_in g j) (heard-held kept x.names y j g refl more (taken j was)) refl numbered (found_at finds.0 takes.m) takes.m.p2 (searched_by takes.m.p2 y) e refl finds.1
        ])
        (λ a stands differs mine was. elim (did kept) [
          | inl done_it ↦ step-far kept j.client x.names y a j.at_client j.lists g e done_it (taken a was) mine (λ open_a. elim (cases_Bool (same_handle j.at_client a.at_client)) [
            | inr other ↦ other
            | inl same ↦ absurd (differs (sym (apart k l j a at stands (sym mine) open_it open_a same)))
          ])
          | inr finds ↦ found-held kept j.client x.names y a (taken a was) mine numbered (found_at finds.0 takes.m) takes.m.p2 (searched_by takes.m.p2 y) e refl finds.1
        ])
        held

    by : (did : Stepped) (sent : List Sending) (core : Client) → StepsOn x.core j.at_client (Some d) did sent core → HeldAt kept (client_stepped k j x did sent core w) l
    by NeedBytes sent core steps = held
    by (Closed c) sent core steps =
        subst (λ (y : Client). HeldAt kept (client_ended k j x c y w) l) (sym steps.1.2) (keeps-client-end kept w k l j x c at there open_it apart held)
    by (Notices told) sent core steps = notices told sent core steps
