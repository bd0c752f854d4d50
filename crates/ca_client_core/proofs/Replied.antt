-- What a step comes to, by what came first.
use Rattle.std.proofs.Common.{◌≡◌, ◌∙◌, List, [], Option, Some, None, Result, Ok, Err, ap, refl, subst}
use Rattle.std.specs.Prelude.{option_and_then}
use Rattle.std.specs.declared.alloc.AllocError.{AllocError}
use Rattle.ca_arena.specs.declared.handle.Handle.{Handle}
use Rattle.ca_dbr.specs.declared.value.Outcome.{Outcome}
use Rattle.ca_ids.specs.Table.{under}
use Rattle.ca_wire.specs.Fields.{Fields}
use Rattle.ca_wire.specs.declared.reading.Head.{Head}
use Rattle.ca_requests.specs.Requests.{Asked, Request, Stage, answered_by}
use Rattle.ca_requests.specs.Requests as request
use Rattle.ca_model.specs.Answers as answer
use Rattle.ca_model.specs.Client.{Client, ClientCircuit, Connection, closing, connection_at, ended}
use Rattle.ca_model.specs.ClientEnds.{ClientSteps, StepsOn, gone}
use Rattle.ca_model.specs.Ends as why
use Rattle.ca_model.specs.Hears as hears
use Rattle.ca_model.specs.Hears.{Completes, Effect, doing}
use Rattle.ca_client_tables.specs.declared.first.First.TheVariants as first
use Rattle.ca_client_tables.specs.declared.why.Why.{Why}
use Rattle.ca_client_tables.specs.Closings.{why_is}
use Rattle.ca_client_tables.specs.First.{FirstAt}
use Rattle.ca_client_core.specs.Dispatch.{HearsFirst, HearsFirstReply, IsReply}
use Rattle.ca_client_core.specs.First.{FirstOn, without_first}
use Rattle.ca_client_core.specs.Hearing.{HearsReply, HearsReplyTo, completed}
use Rattle.ca_client_core.specs.Replying.{ReadsReply, as_reply}
use Rattle.ca_client_core.proofs.Walked.{steps-bad, steps-heard, steps-out}

-- ---- the circuit, and its end

-- what comes first comes on an end that is there, or the circuit is gone
with-end : {P : Type 0} (x : Client) (c : Handle) → (connection_at x c ≡ None → P) → ((d : ClientCircuit) (e : Connection) → under x.circuits c ≡ Some d → d.connection ≡ Some e → P) → P
with-end {P = P} x c none some = go (under x.circuits c) refl
  where
    there : (d : ClientCircuit) → under x.circuits c ≡ Some d → (o : Option Connection) → d.connection ≡ o → P
    there d found None has = none (ap (option_and_then (λ (w : ClientCircuit). w.connection)) found ∙ has)
    there d found (Some e) has = some d e found has

    go : (o : Option ClientCircuit) → under x.circuits c ≡ o → P
    go None found = none (ap (option_and_then (λ (w : ClientCircuit). w.connection)) found)
    go (Some d) found = there d found d.connection refl

pub first-gone : (x : Client) (c : Handle) (k : answer.Closing) → FirstOn x c first.Gone → k ≡ gone → (sent : List answer.Sending) × ClientSteps x c (answer.Closed k) sent x
first-gone x c k h is = ([], go (connection_at x c) h)
  where
    go : (o : Option Connection) → FirstAt o first.Gone → StepsOn x c o (answer.Closed k) [] x
    go None g = (is, (refl, refl))
    go (Some e) g = absurd g

pub first-waits : (x : Client) (c : Handle) → FirstOn x c first.NeedBytes → (sent : List answer.Sending) × ClientSteps x c answer.NeedBytes sent x
first-waits x c h = ([], go (connection_at x c) h)
  where
    go : (o : Option Connection) → FirstAt o first.NeedBytes → StepsOn x c o answer.NeedBytes [] x
    go None g = absurd g
    go (Some e) g = (g.0, g.1, (refl, refl))

pub first-heard : (x : Client) (c : Handle) (head : Head) (told : List answer.Notice) (new : Client) → FirstOn x c (first.Message head) → HearsFirst x c head (Ok told) new → (sent : List answer.Sending) × ClientSteps x c (answer.Notices told) sent new
first-heard x c head told new h heard =
    with-end x c
    (λ none. absurd (subst (λ (o : Option Connection). FirstAt o (first.Message head)) none h))
    (λ d e found has. steps-heard x c d found e has head new told h heard)

pub first-out : (x : Client) (c : Handle) (head : Head) (u : AllocError) (y new : Client) (k : answer.Closing) → FirstOn x c (first.Message head) → HearsFirst x c head (Err u) y → k ≡ closing why.OutOfMemory c y → new ≡ ended c y → (sent : List answer.Sending) × ClientSteps x c (answer.Closed k) sent new
first-out x c head u y new k h heard ends left =
    with-end x c
    (λ none. absurd (subst (λ (o : Option Connection). FirstAt o (first.Message head)) none h))
    (λ d e found has. steps-out x c d found e has head u y new k h heard ends left)

pub first-bad : (x : Client) (c : Handle) (cause : Why) (new : Client) (k : answer.Closing) → FirstOn x c (first.Bad cause) → k ≡ closing (why_is cause) c x → new ≡ ended c x → (sent : List answer.Sending) × ClientSteps x c (answer.Closed k) sent new
first-bad x c cause new k h ends left =
    with-end x c
    (λ none. absurd (subst (λ (o : Option Connection). FirstAt o (first.Bad cause)) none h))
    (λ d e found has. steps-bad x c d found e has (why_is cause) k new (subst (λ (o : Option Connection). FirstAt o (first.Bad cause)) (ap (option_and_then (λ (w : ClientCircuit). w.connection)) found ∙ has) h) ends left)

-- ---- a reply

-- what it does, and then it is taken
abbrev after : Handle → Head → Effect → Effect
after c head e = record e { core = without_first c head e.core }

-- it is taken before its request is complete, or after
pub reply-taken : (x y : Client) (c : Handle) (head : Head) (m : Fields) (told : Option (Handle × Outcome)) → HearsReply x c m (Ok told) y → HearsReply (without_first c head x) c m (Ok told) (without_first c head y)
reply-taken x y c head m told did = go (answered_by c m.command m.p2 x.requests) did
  where
    by : (q : Handle) (a : Asked) (s : Stage) (e : Effect) → Completes x m q a s e → Completes (without_first c head x) m q a s (after c head e)
    by q a request.Open e (o, means, is) = (o, means, ap (after c head) is)
    by q a request.Draining e is = ap (after c head) is

    go : (about : Option (Handle × Request)) → HearsReplyTo x m about (Ok told) y → HearsReplyTo (without_first c head x) m about (Ok told) (without_first c head y)
    go None is = ap (after c head) is
    go (Some (q, r)) done = by q r.asked r.stage (doing [] (completed told) y) done

-- a step that read one
stepped : (x : Client) (c : Handle) (head : Head) (told : Option (Handle × Outcome)) (new : Client) → FirstOn x c (first.Message head) → IsReply head.header.command → HearsFirstReply x c head (Ok told) new → (sent : List answer.Sending) × ClientSteps x c (answer.Notices (completed told)) sent new
stepped x c head told new h is did = first-heard x c head (completed told) new h (doing [] (completed told) new, hears.Reply is did, refl, refl)

out-same : (x : Client) (c : Handle) (m : Fields) (u : AllocError) (new : Client) → HearsReply x c m (Err u) new → new ≡ x
out-same x c m u new did = go (answered_by c m.command m.p2 x.requests) did
  where
    go : (about : Option (Handle × Request)) → HearsReplyTo x m about (Err u) new → new ≡ x
    go None h = absurd h
    go (Some (q, r)) h = h.2

pub reads-reply : (x : Client) (c : Handle) (head : Head) (told : Result (Option (Handle × Outcome)) AllocError) (new : Client) → FirstOn x c (first.Message head) → IsReply head.header.command → HearsFirstReply x c head told new → ReadsReply x c (as_reply told) new
reads-reply x c head (Ok (Some (q, o))) new h is did = stepped x c head (Some (q, o)) new h is did
reads-reply x c head (Ok None) new h is did = stepped x c head None new h is did
reads-reply x c head (Err u) new h is did = out-same x c _ u new did
