-- The step of a client's end keeps what is held of all circuits, whatever message it reads.
use Rattle.std.proofs.Common.{◌≡◌, ℕ, ◌+◌, ◌<◌, ◌⊎◌, inl, inr, true, false, List, [], length, Option, Some, None, refl, sym, ap, ◌∙◌, subst, arith}
use Rattle.std.specs.Prelude.{is_none}
use Rattle.std.proofs.lemmas.Bool.{both_ways, cases_Bool}
use Rattle.ca_text.specs.Command.{command_number}
use Rattle.ca_text.specs.declared.command.Command.TheVariants as command
use Rattle.ca_text.specs.Place.{At}
use Rattle.ca_text.proofs.Places.{At-one, At-within, some_is}
use Rattle.ca_arena.specs.declared.handle.Handle.{Handle}
use Rattle.ca_ids.specs.Table.{same_handle}
use Rattle.ca_link.specs.Link.{TakesFirst}
use Rattle.ca_monitor.specs.Subscriptions.{confirmed_by}
use Rattle.ca_requests.specs.Meaning.{QuotesHeader}
use Rattle.ca_requests.specs.Requests.{answered_by}
use Rattle.ca_ids.specs.Wire.{wire_of}
use Rattle.ca_wire.specs.declared.header.Header.{Header}
use Rattle.ca_wire.specs.Fields.{Fields}
use Rattle.ca_model.specs.Answers.{Closed, NeedBytes, Notice, Notices, Sending, Stepped}
use Rattle.ca_model.specs.Client.{Clearing, Client, Connecting, Connection, Creating, Doomed, Leaving, Live, Phase, channel_on, connection_at}
use Rattle.ca_model.specs.ClientEnds.{StepsOn, Takes, after_taking}
use Rattle.ca_model.specs.Hears.{AccessRights, ClearChannel, Confirmation, CreateChannel, CreateChannelFail, Effect, Error, Finds, Hears, Other, Reply, Search, ServerDisconnect, Update, failed, found_at, subscription_on, searched_by}
use Rattle.ca_model.specs.History.{Ask, Circuit, Intent, Line, Sent, Step, Told}
use Rattle.ca_model.specs.History as history
use Rattle.ca_model.specs.Speech.{Cid, Is, Speaks, SubId}
use Rattle.ca_model.specs.Channels.{Suits, named}
use Rattle.ca_model.specs.Placed.{Attached, was_live}
use Rattle.ca_model.proofs.Standings.{channel-on}
use Rattle.ca_model.specs.ClientEvents.{Outcomes, about_at, channel_number, client_ended, client_stepped, heard_in, lines_of, meant_by}
use Rattle.ca_model.specs.Events as event
use Rattle.ca_model.specs.Runs.{Happens, HasClientEnd}
use Rattle.ca_model.specs.World.{ClientSide, IsSetting, Joined, Names, Setting, World, log_length}
use Rattle.ca_laws_parts.specs.Flows.{Awaits}
use Rattle.ca_laws_parts.specs.Held.{MeanToSubscribe, OnChannels, is_asked}
use Rattle.ca_laws_parts.proofs.Alike.{holds-alike}
use Rattle.ca_laws_parts.proofs.Flows.{flows-heard}
use Rattle.ca_laws_parts.proofs.CircuitHeard.{holds-heard}
use Rattle.ca_laws_parts.specs.Kept.{kept}
use Rattle.ca_laws_parts.proofs.Laters.{held-then}
use Rattle.ca_laws_parts.specs.Circuit.{HaveHandles, HeldAt, HeldOn, IsKnown, IsLastCancel, IsQuiet}
use Rattle.ca_laws_parts.proofs.Bytes.{keeps-client-end}
use Rattle.ca_laws_parts.proofs.Finds.{found-held}
use Rattle.ca_laws_parts.proofs.RunsHeard.{Did, answered-did, created-did, failed-did, left-did, nothing, rights-did}
use Rattle.ca_laws_parts.proofs.Ids.{confirmed-did, error-did, reply-did, update-did}
use Rattle.ca_laws_parts.proofs.RunsMoves.{on-connection-alike}
use Rattle.ca_laws_parts.proofs.RunsSteps.{step-far, step-held}
use Rattle.ca_laws_parts.proofs.Worlds.{after-step}
use Rattle.ca_laws_runs.specs.HeldAnswering.{Answers}
use Rattle.ca_laws_runs.specs.Held.{AllCircuitsHeld}
use Rattle.ca_laws_runs.specs.Worlds.{ServersStand}
use Rattle.ca_laws_runs.proofs.Circuits.{leaves-were}
use Rattle.ca_laws_runs.proofs.Found.{asked-if, cancel-is, clear-is, create-is, found-intent}
use Rattle.ca_laws_runs.proofs.Holds.{IsTold}
use Rattle.ca_laws_runs.proofs.StepWhole.{takes-next}
use Rattle.ca_laws_parts.proofs.WritesMoves.{At-below}
use Rattle.ca_laws_runs.specs.About.{IsAbout, ReadsAbout}
use Rattle.ca_laws_runs.specs.Tells.{NoticesTell, TellsOwn}
use Rattle.ca_laws_runs.proofs.HeardTells.{tells-so}
use Rattle.ca_laws_runs.specs.Quiet.{ClientsQuiet, Quiet, Tidy}
use Rattle.ca_laws_runs.proofs.Heard.{cleared-so, confirms-so, failed-so, own-so, refuses-so}
use Rattle.ca_laws_runs.proofs.Lesser.{less-on, quiet-less, tidy-less}

connected-so : (o : Option Connection) → is_none o ≡ false → (d : Connection) × (o ≡ Some d)
connected-so (Some d) is = (d, refl)
connected-so None is = absurd (both_ways true is refl)

-- these commands are no CREATE_CH_FAIL
other-1 : ◌≡◌ {A = ℕ} 1 26 → ⊥
other-1 e = omega (arith, e)

other-11 : ◌≡◌ {A = ℕ} 11 26 → ⊥
other-11 e = omega (arith, e)

other-12 : ◌≡◌ {A = ℕ} 12 26 → ⊥
other-12 e = omega (arith, e)

other-15 : ◌≡◌ {A = ℕ} 15 26 → ⊥
other-15 e = omega (arith, e)

other-19 : ◌≡◌ {A = ℕ} 19 26 → ⊥
other-19 e = omega (arith, e)

-- What a message did to tables and circuits; or it was a search reply.
abbrev Done : (ks : List ℕ) (on : Handle) (n : Names) (x : Client) (c : Circuit) (g : Step) (m : Fields) (e : Effect) → Type 0
Done ks on n x c g m e = Did ks on n x c g e ⊎ ((address : _) × Finds x address m e)

module _ (ks : List ℕ) (on : Handle) (n : Names) (x : Client) (c : Circuit) (g : Step) (m : Fields) (e : Effect) (attached : Attached x) (meant : MeanToSubscribe n x.subscriptions)
    (known : (b : ℕ) → m.command ≡ b → (b ≡ 26 → ⊥) → IsKnown n x on c m) (fails : Is command.CreateChannelFail m → e ≡ failed x (channel_on x on m.p1) → Did ks on n x c g e) where
  replied : Is command.ReadNotify m ⊎ Is command.WriteNotify m → IsKnown n x on c m
  replied (inl reads) = known 15 reads other-15
  replied (inr puts) = known 19 puts other-19

  done : Hears x on m e → Done ks on n x c g m e
  done (Search is d there finds) = inr (d.address, finds)
  done (AccessRights is does) = inl (rights-did ks on n x c g m e (channel_on x on m.p1) refl does)
  done (CreateChannel is does) = inl (created-did ks on n x c g meant m e (channel_on x on m.p1) refl does)
  done (CreateChannelFail is does) = inl (fails is does)
  done (ClearChannel is does) = inl (answered-did ks on n x c g attached m e (channel_on x on m.p2) is (known 12 is other-12) refl does)
  done (ServerDisconnect is does) = inl (left-did ks on n x c g m e (channel_on x on m.p1) refl does)
  done (Reply is does) = inl (reply-did ks on n x c g m e (answered_by on m.command m.p2 x.requests) is (replied is) refl does)
  done (Confirmation is empty does) = inl (confirmed-did ks on n x c g m e (confirmed_by on m.p2 x.subscriptions) is empty (known 1 is other-1) refl does)
  done (Update is some does) = inl (update-did ks on n x c g m e (subscription_on x on m.p2) does)
  done (Error is does) = inl (error-did ks on n x c g m e is (known 11 is other-11) does)
  done (Other is does) = inl (nothing ks on n x c g [] e does)

module _ (s : Setting) (w new : World) (ok : IsSetting s) (h : ServersStand s w) (k : ℕ) (happens : Happens w (event.ClientStep k) new) (all : AllCircuitsHeld w) (told : IsTold w) (quiet : ClientsQuiet w) where
  abbrev a : HasClientEnd w k
  a = happens.0

  abbrev on : Handle
  on = a.j.at_client

  -- what is held of the circuit
  on-own : HeldOn (kept w k) a.x.names a.x.core a.j
  on-own =
      let o = all k a.j a.joins.at in
      let one : o.0 ≡ a.j = At-one w.circuits k o.0 a.j o.2 a.joins.at in
      let who : o.1 ≡ a.x = At-one w.clients a.j.client o.1 a.x (subst (λ (z : Joined). At w.clients z.client o.1) one o.3) a.joins.client in
      subst (λ (z : ClientSide × Joined). HeldOn (kept w k) z.0.names z.0.core z.1) (λ i. (who i, one i)) o.4

  unlike : (n p q : ℕ) → n ≡ p → n ≡ q → (p ≡ q → ⊥) → ⊥
  unlike n p q f g other = other (sym f ∙ g)

  reply-of : (m : Fields) (t : Told) → At a.j.lists.down (length a.j.lists.heard) t → t.message ≡ m → (m.command ≡ 27 → ⊥) → (m.command ≡ 1 → m.payload ≡ []) → t.cause ≡ history.Reply
  reply-of m t at message gone empty = elim (told.caused.each k a.j a.joins.at (length a.j.lists.heard) t at) [
    | inl reply ↦ reply
    | inr (inl lost) ↦ absurd (gone (ap (λ (z : Fields). z.command) (sym message) ∙ lost))
    | inr (inr update) ↦ absurd (update.1 (ap (λ (z : Fields). z.payload) message ∙ empty (ap (λ (z : Fields). z.command) (sym message) ∙ update.0)))
  ]

  -- the message that is taken, of the client that it leaves
  module _ (d : Connection) (m : Fields) (rest : List ℕ) (linked : connection_at a.x.core on ≡ Some d) (takes : TakesFirst d.link m rest) where
    abbrev y : Client
    y = after_taking on rest a.x.core

    next : (t : Told) × At a.j.lists.down (length a.j.lists.heard) t × (t.message ≡ m)
    next = told.hears k a.j a.x d m rest a.joins.at a.joins.client a.is_open linked takes

    asked-there : (t : Told) → At a.j.lists.down (length a.j.lists.heard) t → (q : Sent) × At a.j.lists.up t.place q
    asked-there t at = At-below a.j.lists.up t.place (on-own.flows.about (length a.j.lists.heard) t at)

    tidy : Tidy a.x.names a.x.core
    tidy = quiet.tidy a.j.client a.x a.joins.client

    still : Quiet a.x.names a.x.core on a.j.lists.up
    still = quiet.quiet k a.j a.x a.joins.at a.joins.client a.is_open

    -- a channel on a circuit that is connected was asked for
    phase-asked : (cid : ℕ) (h2 : Handle) (p : Phase) → channel_on a.x.core on cid ≡ Some (h2, p) → is_asked p ≡ true
    phase-asked cid h2 p found =
        let ch = channel-on a.x.core on cid h2 p found in
        asked-if p ((h.stands.clients.sound a.j.client a.x a.joins.client).placed.waiting h2 ch.0 on p ch.1 ch.3 ∙ ap is_none linked)

    not-waiting : (cid : ℕ) (h2 : Handle) (p : Phase) → channel_on a.x.core on cid ≡ Some (h2, p) → (let v : Phase = p in let u : Phase = Connecting in v ≡ u → ⊥)
    not-waiting cid h2 p found same = both_ways (is_asked p) (ap is_asked same) (phase-asked cid h2 p found)

    on-it : (t : Told) (q : Sent) (cid : ℕ) (h2 : Handle) (p : Phase) → At a.j.lists.down (length a.j.lists.heard) t → At a.j.lists.up t.place q → Speaks t.message (Cid cid) → channel_on a.x.core on cid ≡ Some (h2, p) → (ask : Ask) × (q.intent ≡ history.On (channel_number a.x.names h2) ask)
    on-it t q cid h2 p at sent speaks found = found-intent (kept w k) a.x.names a.x.core on a.j.lists t q cid h2 p (on-own.holds a.is_open).channels on-own.flows at sent speaks found (phase-asked cid h2 p found)

    -- by what the server sent there next, and what that is about
    module _ (t : Told) (at : At a.j.lists.down (length a.j.lists.heard) t) (message : t.message ≡ m) (q : Sent) (there : At a.j.lists.up t.place q) where
      -- it answers its kind
      answered : t.cause ≡ history.Reply → Answers q.message t.message
      answered reply =
          let ans = told.answer k (length a.j.lists.heard) a.j t a.joins.at at reply in
          let one : ans.0 ≡ q = At-one a.j.lists.up t.place ans.0 q ans.1 there in
          subst (λ (z : Sent). Answers z.message t.message) one ans.2

      failing : (h2 : Handle) (p : Phase) → Is command.CreateChannelFail m → channel_on a.x.core on m.p1 ≡ Some (h2, p) → q.intent ≡ history.On (channel_number a.x.names h2) history.Create
      failing h2 p fails found =
          let speaks : Speaks t.message (Cid m.p1) = subst (λ (z : Fields). Speaks z (Cid m.p1)) (sym message) (inl (inl (inr (inl fails), refl))) in
          let reply = reply-of m t at message (λ e. unlike m.command 26 27 fails e (λ z. cc)) (λ e. absurd (unlike m.command 26 1 fails e (λ z. cc))) in
          let r = on-it t q m.p1 h2 p at there speaks found in
          let asks : q.message.command ≡ 18 = (answered reply).failed (ap (λ (z : Fields). z.command) message ∙ fails) in
          r.1 ∙ ap (λ (z : Ask). history.On (channel_number a.x.names h2) z) (create-is r.0 q.message (subst (λ (z : Intent). Suits z q.message) r.1 (on-own.flows.asked t.place q there)) asks)

      clearing : (h2 : Handle) (p : Phase) → Is command.ClearChannel m → channel_on a.x.core on m.p2 ≡ Some (h2, p) → q.intent ≡ history.On (channel_number a.x.names h2) history.Clear
      clearing h2 p clears found =
          let speaks : Speaks t.message (Cid m.p2) = subst (λ (z : Fields). Speaks z (Cid m.p2)) (sym message) (inl (inr (clears, refl))) in
          let reply = reply-of m t at message (λ e. unlike m.command 12 27 clears e (λ z. cc)) (λ e. absurd (unlike m.command 12 1 clears e (λ z. cc))) in
          let r = on-it t q m.p2 h2 p at there speaks found in
          let asks : q.message.command ≡ 12 = (answered reply).cleared (ap (λ (z : Fields). z.command) message ∙ clears) in
          r.1 ∙ ap (λ (z : Ask). history.On (channel_number a.x.names h2) z) (clear-is r.0 q.message (subst (λ (z : Intent). Suits z q.message) r.1 (on-own.flows.asked t.place q there)) asks)

      confirming : Is command.EventAdd m → m.payload ≡ [] → (channel number : ℕ) × (q.intent ≡ history.On channel (history.Cancel number))
      confirming adds empty =
          let reply = reply-of m t at message (λ e. unlike m.command 1 27 adds e (λ z. cc)) (λ e. empty) in
          let asks : q.message.command ≡ 2 = (answered reply).confirms (ap (λ (z : Fields). z.command) message ∙ adds) in
          cancel-is q.intent q.message (on-own.flows.asked t.place q there) asks

      quiet-failed : (h2 : Handle) (p : Phase) → Is command.CreateChannelFail m → channel_on a.x.core on m.p1 ≡ Some (h2, p) → was_live p ≡ false → IsQuiet a.j.lists t.place (channel_number a.x.names h2)
      quiet-failed h2 p fails found header_only =
          let speaks : Speaks t.message (Cid m.p1) = subst (λ (z : Fields). Speaks z (Cid m.p1)) (sym message) (inl (inl (inr (inl fails), refl))) in
          failed-so (kept w k) a.x.names a.x.core on a.j.lists t q tidy still on-own.flows (on-own.cids a.is_open) (on-own.holds a.is_open) at there m.p1 h2 p (not-waiting m.p1 h2 p found) header_only found speaks

      quiet-cleared : (h2 : Handle) (p : Phase) → Is command.ClearChannel m → channel_on a.x.core on m.p2 ≡ Some (h2, p) → IsQuiet a.j.lists t.place (channel_number a.x.names h2)
      quiet-cleared h2 p clears found =
          let speaks : Speaks t.message (Cid m.p2) = subst (λ (z : Fields). Speaks z (Cid m.p2)) (sym message) (inl (inr (clears, refl))) in
          cleared-so (kept w k) a.x.names a.x.core on a.j.lists t q tidy still on-own.flows (on-own.cids a.is_open) (on-own.holds a.is_open) at there m.p2 h2 p (not-waiting m.p2 h2 p found) found speaks (clearing h2 p clears found)

      last-cancel : (g : Handle) (channel number : ℕ) → Is command.EventAdd m → confirmed_by on m.p2 a.x.core.subscriptions ≡ Some g → q.intent ≡ history.On channel (history.Cancel number) → IsLastCancel a.j.lists t.place (SubId (wire_of g)) number
      last-cancel g channel number adds found cancels =
          confirms-so (kept w k) a.x.names a.x.core on a.j.lists t q tidy still on-own.flows (on-own.cids a.is_open) (on-own.holds a.is_open) at there g channel number (subst (λ (z : Fields). Is command.EventAdd z) (sym message) adds)
          (subst (λ (z : Fields). confirmed_by on z.p2 a.x.core.subscriptions ≡ Some g) (sym message) found) cancels

      abbrev Refusal : Handle → Type 0
      Refusal g =
          (number : ℕ) × Is command.EventAdd q.message × (named (SubId (wire_of g)) (meant_by a.x.names.subscriptions g) ≡ Some number)
          × ((p : ℕ) (r : Sent) (b : ℕ) → At a.j.lists.up p r → r.intent ≡ history.On b (history.Cancel number) → ⊥)

      refusing : (header : Header) (g : Handle) → Is command.Error m → QuotesHeader m header → header.command ≡ command_number command.EventAdd → subscription_on a.x.core on header.p2 ≡ Some g → Refusal g
      refusing header g is quotes adds found =
          refuses-so (kept w k) a.x.names a.x.core on a.j.lists t q tidy still on-own.flows (on-own.cids a.is_open) (on-own.holds a.is_open) at there header g (subst (λ (z : Fields). Is command.Error z) (sym message) is)
          (subst (λ (z : Fields). QuotesHeader z header) (sym message) quotes) adds found

      tells-there : (e : Effect) → Hears y on m e → (i : ℕ) (o : Notice) → At e.notices i o → TellsOwn a.x.names m q o
      tells-there e hears i o place =
          subst (λ (z : Fields). TellsOwn a.x.names z q o) message
          (tells-so (kept w k) a.x.names y on a.j.lists t q (tidy-less a.x.names a.x.core y (less-on _ on a.x.core) tidy) (quiet-less a.x.names a.x.core y on a.j.lists.up (less-on _ on a.x.core) still) on-own.flows (on-own.cids a.is_open)
          (holds-alike (Awaits a.j.lists (kept w k)) on a.x.names a.x.core y a.j.lists (on-connection-alike on on _ a.x.core) (on-own.holds a.is_open)) at there phase-asked (h.stands.fit.cores a.j.client a.x a.joins.client).requests e (subst (λ (z : Fields). Hears y on z e) (sym message) hears) i o place)

      own-there : OnChannels a.x.names y a.j.lists
      own-there = own-so a.x.names y on a.j.lists (tidy-less a.x.names a.x.core y (less-on _ on a.x.core) tidy) (quiet-less a.x.names a.x.core y on a.j.lists.up (less-on _ on a.x.core) still) on-own.flows.asked

      known-so : ((h2 : Handle) (p : Phase) → Is command.CreateChannelFail m → channel_on a.x.core on m.p1 ≡ Some (h2, p) → was_live p ≡ false) → IsKnown a.x.names y on a.j.lists m
      known-so header_only = record {
        t = t;
        at = at;
        is = message;
        s = q;
        there = there;
        reply = λ rights gone empty. reply-of m t at message gone empty;
        own = own-there;
        failed = λ h2 p fails found. (failing h2 p fails found, quiet-failed h2 p fails found (header_only h2 p fails found));
        cleared = λ h2 p clears found. (clearing h2 p clears found, quiet-cleared h2 p clears found);
        confirms = λ g adds empty found. (let r = confirming adds empty in (r.0, r.1, r.2, last-cancel g r.0 r.1 adds found r.2));
        refuses = λ header g is quotes adds found. refusing header g is quotes adds found;
      }

      about-so : IsAbout a.x.names y on a.j.lists m t q
      about-so = record {
        own = own-there;
        failed = λ h2 p fails found header_only. (failing h2 p fails found, quiet-failed h2 p fails found header_only);
        cleared = λ h2 p clears found. (clearing h2 p clears found, quiet-cleared h2 p clears found);
        confirms = λ g adds empty found. (let r = confirming adds empty in (r.0, r.1, r.2, last-cancel g r.0 r.1 adds found r.2));
        refuses = λ header g is quotes adds found. refusing header g is quotes adds found;
      }

    -- what it is about, unless a CREATE_CH_FAIL finds a channel that was created
    known : ((h2 : Handle) (p : Phase) → Is command.CreateChannelFail m → channel_on a.x.core on m.p1 ≡ Some (h2, p) → was_live p ≡ false) → IsKnown a.x.names y on a.j.lists m
    known header_only = (let sent = asked-there next.0 next.1 in known-so next.0 next.1 next.2 sent.0 sent.1 header_only)

    -- another message
    known-other : (n : ℕ) → m.command ≡ n → (n ≡ 26 → ⊥) → IsKnown a.x.names y on a.j.lists m
    known-other n is other = known (λ h2 p fails found. absurd (other (sym is ∙ fails)))

    module _ (ks : List ℕ) (g : Step) where
      failed-here : (e : Effect) (o : Option (Handle × Phase)) → Is command.CreateChannelFail m → channel_on y on m.p1 ≡ o → e ≡ failed y o → Did ks on a.x.names y a.j.lists g e
      failed-here e None fails found is = nothing ks on a.x.names y a.j.lists g [] e is
      failed-here e (Some (h2, Connecting)) fails found is = nothing ks on a.x.names y a.j.lists g [] e is
      failed-here e (Some (h2, Live native rights)) fails found is = nothing ks on a.x.names y a.j.lists g [] e is
      failed-here e (Some (h2, Leaving)) fails found is = nothing ks on a.x.names y a.j.lists g [] e is
      failed-here e (Some (h2, Clearing)) fails found is = nothing ks on a.x.names y a.j.lists g [] e is
      failed-here e (Some (h2, Creating rights)) fails found is =
          failed-did ks on a.x.names y a.j.lists g m e (Some (h2, Creating rights)) fails
          (known (λ h3 p f found3. subst (λ (z : Phase). was_live z ≡ false) (ap (λ (z : Handle × Phase). z.1) (some_is (h2, Creating rights) (h3, p) (sym found ∙ found3))) refl)) found is
      failed-here e (Some (h2, Doomed)) fails found is =
          failed-did ks on a.x.names y a.j.lists g m e (Some (h2, Doomed)) fails
          (known (λ h3 p f found3. subst (λ (z : Phase). was_live z ≡ false) (ap (λ (z : Handle × Phase). z.1) (some_is (h2, Doomed) (h3, p) (sym found ∙ found3))) refl)) found is

  -- taking bytes changes no table
  taking-held : (ks : List ℕ) (rest : List ℕ) (j : Joined) → HeldOn ks a.x.names a.x.core j → HeldOn ks a.x.names (after_taking on rest a.x.core) j
  taking-held ks rest j o =
      record { flows = o.flows; cids = o.cids; holds = λ opened. holds-alike (Awaits j.lists ks) j.at_client a.x.names a.x.core (after_taking on rest a.x.core) j.lists (on-connection-alike j.at_client on _ a.x.core) (o.holds opened) }

  heard-held : (ks : List ℕ) (z : Client) (g : Step) → g.sent ≡ length a.j.lists.up → length a.j.lists.heard < length a.j.lists.down → HeldOn ks a.x.names z a.j → HeldOn ks a.x.names z (heard_in g a.j)
  heard-held ks z g now more o =
      record { flows = flows-heard (Awaits a.j.lists ks) a.j.lists g now more o.flows; cids = o.cids; holds = λ opened. holds-heard (Awaits a.j.lists ks) on a.x.names z a.j.lists g (o.holds opened) }

  -- the step
  step-keeps : (l : ℕ) → HeldAt (kept w l) w l → HeldAt (kept w l) new l
  step-keeps l held =
      let c = connected-so (connection_at a.x.core on) (h.stands.clients.connected k a.j a.x a.joins.at a.joins.client a.is_open) in
      subst (λ (v : World). HeldAt (kept w l) v l) (sym happens.1.4)
      (by c.0 c.1 happens.1.0 happens.1.1 happens.1.2 (subst (λ (o : Option Connection). StepsOn a.x.core on o happens.1.0 happens.1.1 happens.1.2) c.1 happens.1.3))
    where
      ks : List ℕ
      ks = kept w l

      apart : HaveHandles w
      apart = h.stands.clients.handles

      notices : (d : Connection) → connection_at a.x.core on ≡ Some d → (told2 : List Notice) (sent : List Sending) (core : Client) → Takes a.x.core on d (record { core = core; sent = sent; notices = told2 }) → HeldAt (kept w l) (client_stepped k a.j a.x (Notices told2) sent core w) l
      notices d linked told2 sent core takes =
          let e : Effect = record { core = core; sent = sent; notices = told2 } in
          let y2 : Client = after_taking on takes.rest a.x.core in
          let lines : List Line = lines_of (about_at a.j.lists (length a.j.lists.heard)) a.x.names told2 in
          let logged : ℕ = log_length a.x.life w.client_logs in
          let g : Step = record { sent = length a.j.lists.up; logged = logged; after = logged + length lines } in
          let o : Outcomes = record { core = core; names = a.x.names; lines = lines; sent = sent } in
          let sound = h.stands.clients.sound a.j.client a.x a.joins.client in
          let n = next d takes.m takes.rest linked takes.first in
          let more : length a.j.lists.heard < length a.j.lists.down = At-within a.j.lists.down (length a.j.lists.heard) n.0 n.1 in
          let ready : Attached y2 = record { requests = sound.placed.attached.requests; subscriptions = sound.placed.attached.subscriptions } in
          let did : Done (kept w l) on a.x.names y2 a.j.lists g takes.m e =
          done (kept w l) on a.x.names y2 a.j.lists g takes.m e ready sound.named.meant (λ b is other. known-other d takes.m takes.rest linked takes.first b is other)
          (λ fails is. failed-here d takes.m takes.rest linked takes.first (kept w l) g e (channel_on y2 on takes.m.p1) fails refl is) takes.hears in
          let taken : (b : Joined) → HeldOn (kept w l) a.x.names a.x.core b → HeldOn (kept w l) a.x.names y2 b = λ b q. taking-held (kept w l) takes.rest b q in
          after-step (kept w l) w k l a.j (heard_in g a.j) a.x a.x.names o a.joins.at a.joins.client refl
          (λ was. elim did [
            | inl done_it ↦ step-held (kept w l) a.j.client a.x.names y2 a.j g e done_it refl more (taken a.j was) refl a.is_open
            | inr finds ↦ found-held (kept w l) a.j.client a.x.names y2 (heard_in g a.j) (heard-held (kept w l) y2 g refl more (taken a.j was)) refl sound.named.numbered (found_at finds.0 takes.m) takes.m.p2 (searched_by takes.m.p2 y2) e refl finds.1
          ])
          (λ b stands differs mine was. elim did [
            | inl done_it ↦ step-far (kept w l) a.j.client a.x.names y2 b on a.j.lists g e done_it (taken b was) mine (λ open_b. elim (cases_Bool (same_handle on b.at_client)) [
              | inr other ↦ other
              | inl same ↦ absurd (differs (sym (apart k l a.j b a.joins.at stands (sym mine) a.is_open open_b same)))
            ])
            | inr finds ↦ found-held (kept w l) a.j.client a.x.names y2 b (taken b was) mine sound.named.numbered (found_at finds.0 takes.m) takes.m.p2 (searched_by takes.m.p2 y2) e refl finds.1
          ])
          held

      by : (d : Connection) → connection_at a.x.core on ≡ Some d → (did : Stepped) (sent : List Sending) (core : Client) → StepsOn a.x.core on (Some d) did sent core → HeldAt (kept w l) (client_stepped k a.j a.x did sent core w) l
      by d linked NeedBytes sent core steps = held
      by d linked (Closed c) sent core steps =
          subst (λ (z : Client). HeldAt (kept w l) (client_ended k a.j a.x c z w) l) (sym steps.1.2) (keeps-client-end (kept w l) w k l a.j a.x c a.joins.at a.joins.client a.is_open apart held)
      by d linked (Notices told2) sent core steps = notices d linked told2 sent core steps

  pub client-step-held : AllCircuitsHeld new
  client-step-held l j at =
      let lt : l < length w.circuits = leaves-were w new (event.ClientStep k) (λ e. e) happens.0 happens.1 l j at in
      let was = At-below w.circuits l lt in
      held-then s w new (event.ClientStep k) l ok (takes-next s w h) h.stands.sound happens lt (λ p own. own) (step-keeps l (all l was.0 was.1))

  -- the same of whatever is there
  pub reads-about : ReadsAbout w k
  reads-about j x d m rest t q at client linked takes told_at sent =
      let one : a.j ≡ j = At-one w.circuits k a.j j a.joins.at at in
      let who : a.x ≡ x = At-one w.clients j.client a.x x (subst (λ (z : Joined). At w.clients z.client a.x) one a.joins.client) client in
      subst (λ (z : Joined × ClientSide). (d : Connection) (m : Fields) (rest : List ℕ) (t : Told) (s : Sent) → connection_at z.1.core z.0.at_client ≡ Some d → TakesFirst d.link m rest → At z.0.lists.down (length z.0.lists.heard) t → At z.0.lists.up t.place s
      → IsAbout z.1.names (after_taking z.0.at_client rest z.1.core) z.0.at_client z.0.lists m t s) (λ i. (one i, who i)) here d m rest t q linked takes told_at sent
    where
      here : (d : Connection) (m : Fields) (rest : List ℕ) (t : Told) (s : Sent) → connection_at a.x.core on ≡ Some d → TakesFirst d.link m rest → At a.j.lists.down (length a.j.lists.heard) t → At a.j.lists.up t.place s → IsAbout a.x.names (after_taking on rest a.x.core) on a.j.lists m t s
      here d m rest t q linked takes at there =
          let n = next d m rest linked takes in
          let same : n.0 ≡ t = At-one a.j.lists.down (length a.j.lists.heard) n.0 t n.1 at in
          about-so d m rest linked takes t at (sym (ap (λ (z : Told). z.message) same) ∙ n.2) q there

  pub notices-tell : NoticesTell w k
  notices-tell j x d m rest t q e at client linked takes told_at sent hears i o place =
      let one : a.j ≡ j = At-one w.circuits k a.j j a.joins.at at in
      let who : a.x ≡ x = At-one w.clients j.client a.x x (subst (λ (z : Joined). At w.clients z.client a.x) one a.joins.client) client in
      subst (λ (z : Joined × ClientSide). (d : Connection) (m : Fields) (rest : List ℕ) (t : Told) (s : Sent) (e : Effect) → connection_at z.1.core z.0.at_client ≡ Some d → TakesFirst d.link m rest → At z.0.lists.down (length z.0.lists.heard) t → At z.0.lists.up t.place s
      → Hears (after_taking z.0.at_client rest z.1.core) z.0.at_client m e → (i : ℕ) (o : Notice) → At e.notices i o → TellsOwn z.1.names m s o) (λ i. (one i, who i)) here d m rest t q e linked takes told_at sent hears i o place
    where
      here : (d : Connection) (m : Fields) (rest : List ℕ) (t : Told) (s : Sent) (e : Effect) → connection_at a.x.core on ≡ Some d → TakesFirst d.link m rest → At a.j.lists.down (length a.j.lists.heard) t → At a.j.lists.up t.place s
          → Hears (after_taking on rest a.x.core) on m e → (i : ℕ) (o : Notice) → At e.notices i o → TellsOwn a.x.names m s o
      here d m rest t q e linked takes at there hears i o place =
          let n = next d m rest linked takes in
          let same : n.0 ≡ t = At-one a.j.lists.down (length a.j.lists.heard) n.0 t n.1 at in
          tells-there d m rest linked takes t at (sym (ap (λ (z : Told). z.message) same) ∙ n.2) q there e hears i o place
