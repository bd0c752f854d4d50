-- What servers know of their open channels and subscriptions, after every run.
use Rattle.std.proofs.Common.{◌≡◌, ℕ, true, List, Option, refl, sym, ap, subst, ◌∙◌, arith}
use Rattle.ca_dbr.specs.Elements.{Elements}
use Rattle.ca_display.specs.declared.image_type.ImageType.{ImageType}
use Rattle.std.specs.Prelude.{Ok, Err, Result}
use Rattle.ca_text.specs.declared.refusal.Refusal.{Refusal}
use Rattle.ca_text.specs.Place.{At}
use Rattle.ca_text.proofs.Places.{At-one}
use Rattle.ca_wire.specs.declared.requests.Wanted.{Wanted}
use Rattle.ca_wire.specs.Fields.{Fields}
use Rattle.ca_model.specs.History.{Cause, Entry, Removal, Removed, Reply, Told, Update}
use Rattle.ca_model.specs.Images.{shown_in}
use Rattle.ca_model.specs.Server.{ServerEnd}
use Rattle.ca_model.specs.ServerSteps.{HasEnd}
use Rattle.ca_model.specs.Speech.{Creates, In, Stored}
use Rattle.ca_model.specs.Updates.{Shows, ShowsTo, update_count, update_in}
use Rattle.ca_model.specs.Events.{Event}
use Rattle.ca_model.specs.Runs.{Runs}
use Rattle.ca_model.specs.World.{IsSetting, Joined, ServerSide, Setting, World}
use Rattle.ca_laws_parts.specs.Agrees.{Agrees}
use Rattle.ca_laws_parts.specs.Lives.{IsPutOf}
use Rattle.ca_laws_parts.proofs.WritesLists.{beside-right}
use Rattle.ca_laws_runs.specs.Causing.{SourcesOn}
use Rattle.ca_laws_runs.specs.Entries.{titles}
use Rattle.ca_laws_runs.specs.KnewLists.{KnowChannels, KnowKeys}
use Rattle.ca_laws_runs.specs.Sent.{SentOn}
use Rattle.ca_laws_runs.proofs.CausingEvents.{Ready, steady-of}
use Rattle.ca_laws_runs.proofs.CausingRuns.{ready, run-sources}
use Rattle.ca_laws_runs.proofs.GoneRetired.{GoneAt, run-gone-at}
use Rattle.ca_laws_runs.proofs.KnewChannels.{Facts, know-channels}
use Rattle.ca_laws_runs.proofs.KnewKeys.{know-keys}
use Rattle.ca_laws_runs.proofs.KnewStands.{run-unended}
use Rattle.ca_laws_runs.proofs.NamesEvents.{run-keep}
use Rattle.ca_laws_runs.proofs.PostFollowing.{titled}

-- ---- only replies create channels

update-is : (x : Wanted) (v : Stored) (t : ImageType) (r : Result Elements Refusal) → (update_in x v t r).command ≡ 1
update-is x v t (Ok e) = refl
update-is x v t (Err r) = refl

pub shows-to : (x : Wanted) (v : Stored) (m : Fields) → ShowsTo x v m → m.command ≡ 1
shows-to x v m (t, typed, is) = ap (λ (z : Fields). z.command) is ∙ update-is x v t (shown_in v.value (update_count x v) t)

shows-command : (add : Fields) (v : Stored) (m : Fields) → Shows add v m → m.command ≡ 1
shows-command add v m shows = shows-to (record { sid = add.p1; id = add.p2; data_type = add.data_type; count = add.count }) v m shows

pub creates-reply : (log : List Entry) (c : Joined) → SourcesOn log c → SentOn log c → (i sid : ℕ) (t : Told) → At c.lists.down i t → Creates t.message sid → t.cause ≡ Reply
creates-reply log c p q i sid t at creates = go t.cause refl
  where
    go : (b : Cause) → t.cause ≡ b → t.cause ≡ Reply
    go Reply is = is
    go Removal is =
        let cause = p.removals i t at is in
        let a : t.message.command ≡ 27 = cause.9.0 in
        let b : t.message.command ≡ 18 = creates.0 in
        absurd (omega (arith, a, b))
    go (Update n) is =
        let taken = p.updates i n t at is in
        let seen = q.shown i n t at is in
        let v = seen.shows taken.r taken.acted in
        let a : t.message.command ≡ 1 = shows-command seen.s.message v.0 t.message v.2 in
        let b : t.message.command ≡ 18 = creates.0 in
        absurd (omega (arith, a, b))

-- ---- what holds of an open end

pub run-end-facts : (s : Setting) (es : List Event) (stopped : Option Event) (w : World) → IsSetting s → Runs s es stopped w → (n : ℕ) (c : Joined) (y : ServerSide) (e : ServerEnd) (log : List Entry) → At w.circuits n c → At w.servers c.server y
    → c.lists.server_open ≡ true → HasEnd y.core c.at_server e → At w.server_logs y.life log → Facts log y.records e c
run-end-facts s es stopped w ok runs n c y e log at there opened has logged = record {
  opened = opened;
  channels = r.serves.channels n c y e at there opened has;
  creations = r.creations n c y e at there opened has;
  created = r.created n c at;
  sources = sources;
  replies = creates-reply log c sources (r.stand.sent n c log at here);
  steady = steady-of s w r n c log at here;
  follows = g.0.0;
  known = g.0.1;
  gone = g.2;
  unended = run-unended s es stopped w ok runs n c y e at there opened has;
  keep = run-keep s es stopped w ok runs c.lists.server log here;
  there = stays;
  asked = λ k q sent. r.serves.stands.asked n k c q at sent;
}
  where
    r : Ready s w
    r = ready s es stopped w ok runs

    joins : c.lists.server ≡ y.life
    joins = (let seat = r.serves.stands.sound.seated.each n c at opened in seat.joins ∙ ap (λ (z : ServerSide). z.life) (At-one w.servers c.server seat.y y seat.at there))

    here : At w.server_logs c.lists.server log
    here = subst (λ (l : ℕ). At w.server_logs l log) (sym joins) logged

    sources : SourcesOn log c
    sources = run-sources s es stopped w ok runs n c log at here

    g : GoneAt n log y.records e c
    g = run-gone-at s es stopped w ok runs n c y e log at there opened has logged

    stays : (name : List ℕ) (q : ℕ) → In (titles y.records) (name, q) → In log (Removed q) → ⊥
    stays name q title gone =
        let life = r.serves.stands.sound.writes.lives c.server y there in
        let same : log ≡ life.log = At-one w.server_logs y.life log life.log logged life.at in
        let x = titled y.records (name, q) title in
        let b = beside-right (Agrees (IsPutOf w.circuits c.server) life.log) y.core.records y.records x.1.0 x.0 life.life.each x.1.1 in
        let number : x.0.number ≡ q = ap (λ (t : List ℕ × ℕ). t.1) (sym x.2) in
        b.2.there (subst (λ (v : ℕ × List Entry). In v.1 (Removed v.0)) (λ i. (sym number i, same i)) gone)

pub run-know-channels : (s : Setting) (es : List Event) (stopped : Option Event) (w : World) → IsSetting s → Runs s es stopped w → KnowChannels w
run-know-channels s es stopped w ok runs n c y e log at there opened has logged = know-channels log y.records e c (run-end-facts s es stopped w ok runs n c y e log at there opened has logged)

pub run-know-keys : (s : Setting) (es : List Event) (stopped : Option Event) (w : World) → IsSetting s → Runs s es stopped w → KnowKeys w
run-know-keys s es stopped w ok runs n c y e log at there opened has logged = know-keys log y.records e c (run-end-facts s es stopped w ok runs n c y e log at there opened has logged)
