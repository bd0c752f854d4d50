-- A notice of a request or a plain write that a client tells as it reads a message, and that does
-- not tell Disconnected, is one of its own.
use Rattle.std.proofs.Common.{◌≡◌, ℕ, ◌+◌, ◌⊎◌, inl, inr, true, List, ◌++◌, length, Option, Some, refl, sym, ap, subst, ◌∙◌, arith}
use Rattle.std.specs.Prelude.{option_and_then, option_map, slice_get, unwrap_or}
use Rattle.ca_arena.specs.declared.handle.Handle.{Handle}
use Rattle.ca_dbr.specs.declared.value.Outcome.{Outcome}
use Rattle.ca_dbr.specs.declared.value.Outcome.TheVariants as outcome
use Rattle.ca_ids.specs.Table.{under}
use Rattle.ca_requests.specs.Meaning.{Means, QuotesHeader}
use Rattle.ca_requests.specs.Requests.{Request, is_open_in}
use Rattle.ca_text.specs.declared.command.Command.TheVariants as command
use Rattle.ca_text.specs.Place.{At}
use Rattle.ca_text.proofs.Places.{At-mapped, At-one}
use Rattle.ca_wire.specs.declared.header.Header.{Header}
use Rattle.ca_wire.specs.Fields.{Fields}
use Rattle.ca_wire.specs.Header.{HeaderFits}
use Rattle.ca_wire.specs.Message.{header_of}
use Rattle.ca_wire.specs.Messages.{error_reply}
use Rattle.ca_model.specs.Answers.{Notice}
use Rattle.ca_model.specs.Answers as notice
use Rattle.ca_model.specs.Client.{Client}
use Rattle.ca_model.specs.ClientEnds.{after_taking}
use Rattle.ca_model.specs.Hears.{Effect}
use Rattle.ca_model.specs.History.{Ask, Intent, Line, Noticed, Reply, Sent, Told}
use Rattle.ca_model.specs.History as history
use Rattle.ca_model.specs.Speech.{Cid, Is, Speaks}
use Rattle.ca_model.specs.Channels.{IsHeld, IsRequest, Suits}
use Rattle.ca_model.specs.ClientEvents.{about_at, channel_number, line_of, meant_by, write_number}
use Rattle.ca_model.specs.World.{ClientSide, Joined, World}
use Rattle.ca_laws_parts.specs.Runs.{HearsSent}
use Rattle.ca_laws_parts.specs.ServerFits.{AllCaused}
use Rattle.ca_laws_parts.proofs.Refused.{heard-is}
use Rattle.ca_laws_parts.proofs.Replies.{error-speaks}
use Rattle.ca_laws_runs.specs.HeldAnswering.{AllAnswer}
use Rattle.ca_laws_runs.specs.Held.{AllCircuitsHeld}
use Rattle.ca_laws_runs.specs.OrderSteps.{HaveLives}
use Rattle.ca_laws_runs.specs.Quiet.{ClientsQuiet, Tidy}
use Rattle.ca_laws_runs.specs.Tells.{IsOnChannel, NoticesTell}
use Rattle.ca_laws_runs.proofs.Going.{AllOpenLive}
use Rattle.ca_laws_runs.proofs.OnceLess.{is_gone}
use Rattle.ca_laws_runs.proofs.OnceWorld.{OnceStand}
use Rattle.ca_laws_runs.proofs.OrderKeeps.{IsHearing, hear-lines}
use Rattle.ca_laws_runs.proofs.ToldAsked.{tells-asked}
use Rattle.ca_laws_runs.proofs.ToldLines.{lines-grown}
use Rattle.ca_laws_runs.proofs.ToldQuiet.{tells-held}
use Rattle.ca_laws_runs.proofs.ToldRemoval.{AllRemovals}
use Rattle.ca_laws_runs.proofs.ToldSteps.{IsReply, created-held, next, noticed-intent, noticed-outcome, read-now, reply-of}
use Rattle.ca_laws_runs.proofs.ToldUpdates.{IsRead}

-- The line is a notice of a request or a plain write, and does not tell Disconnected.
abbrev pub TellsRequest : Line → Intent → Outcome → Type 0
TellsRequest line intent o = (line ≡ Noticed intent o) × IsRequest intent × (o ≡ outcome.Disconnected → ⊥)

-- ---- what was meant by a WRITE

number-is : (a b : ℕ) (p q : Ask) → history.On a p ≡ history.On b q → a ≡ b
number-is a b p q e = cc

write-intent : (intent : Intent) (number : ℕ) (m : Fields) → Suits intent m → m.command ≡ 4 → IsOnChannel number intent → intent ≡ history.On number (history.Request history.Write (write_number intent))
write-intent history.OfCircuit number m suits is on = absurd (let e : history.OfCircuit ≡ history.On number on.0 = on.1 in cc)
write-intent (history.On a history.Create) number m suits is on = absurd (let e : ◌≡◌ {A = ℕ} 4 18 = sym is ∙ suits in omega (arith, e))
write-intent (history.On a history.Clear) number m suits is on = absurd (let e : ◌≡◌ {A = ℕ} 4 12 = sym is ∙ suits in omega (arith, e))
write-intent (history.On a (history.Request history.Read n)) number m suits is on = absurd (let e : ◌≡◌ {A = ℕ} 4 15 = sym is ∙ suits in omega (arith, e))
write-intent (history.On a (history.Request history.Put n)) number m suits is on = absurd (let e : ◌≡◌ {A = ℕ} 4 19 = sym is ∙ suits in omega (arith, e))
write-intent (history.On a (history.Request history.Write n)) number m suits is on =
    ap (λ (b : ℕ). history.On b (history.Request history.Write n)) (number-is a number (history.Request history.Write n) on.0 on.1)
write-intent (history.On a (history.Subscribe n)) number m suits is on = absurd (let e : ◌≡◌ {A = ℕ} 4 1 = sym is ∙ suits in omega (arith, e))
write-intent (history.On a (history.Cancel n)) number m suits is on = absurd (let e : ◌≡◌ {A = ℕ} 4 2 = sym is ∙ suits in omega (arith, e))

-- an ERROR that quotes a WRITE answers one
quotes-write : (cid status : ℕ) (s m : Fields) (head : Header) → m ≡ error_reply cid status s → HeaderFits (header_of s) → Is command.Error m → QuotesHeader m head → head.command ≡ 4 → s.command ≡ 4
quotes-write cid status s m head is fits errs quotes writes =
    let speaks : Speaks m (Cid m.p1) = inr (errs, (head, quotes.head, quotes.text, quotes.spells, quotes.parts, (writes, refl))) in
    (error-speaks cid status s (Cid m.p1) fits (subst (λ (v : Fields). Speaks v (Cid m.p1)) is speaks)).0

-- ---- a step

module _ (w new : World) (k : ℕ) (j : Joined) (x : ClientSide) (on : At w.circuits k j) (at : At w.clients j.client x) (opened : j.lists.client_open ≡ true) (f : IsHearing w new k j x)
    (hears : HearsSent w) (caused : AllCaused w) (answer : AllAnswer w) (removals : AllRemovals w) (tells : NoticesTell w k) (held : AllCircuitsHeld w) (once : OnceStand w) (quiet : ClientsQuiet w) (lives : HaveLives w)
    (live : AllOpenLive w) (fits : (p : ℕ) (s : Sent) → At j.lists.up p s → HeaderFits (header_of s.message)) where
  abbrev about : Intent
  about = about_at j.lists (length j.lists.heard)

  -- The caller has not ended a request that is open.
  pub request-held : (log : List Line) (q : Handle) (r : Request) → At w.client_logs x.life log → under x.core.requests q ≡ Some r → is_open_in r.stage ≡ true → IsHeld log (meant_by x.names.requests q)
  request-held log q r logged there open_it =
      let tidy : Tidy x.names x.core = quiet.tidy j.client x at in
      let m = tidy.requests q r there in
      let l = live j.client x at q r there open_it in
      subst (λ (v : Intent). IsHeld log v) (sym m.3)
      (created-held w new k j x on at opened f hears caused answer removals tells held once quiet lives log r.channel (l.1).ch logged (l.1).there (ap is_gone (l.1).stands))

  -- what the message is about
  about-is : about ≡ (next w new k j x on at opened f hears caused answer removals tells held once quiet lives).s.intent
  about-is =
      let n = next w new k j x on at opened f hears caused answer removals tells held once quiet lives in
      ap (λ (o : Option Told). unwrap_or (option_map (λ (s : Sent). s.intent) (option_and_then (λ (t : Told). slice_get j.lists.up t.place) o)) history.OfCircuit) n.told
      ∙ ap (λ (o : Option Sent). unwrap_or (option_map (λ (s : Sent). s.intent) o) history.OfCircuit) n.up

  asked-read : (life : ℕ) (log y : List Line) (i p : ℕ) (line : Line) (intent : Intent) (o : Outcome) (said : Notice) → life ≡ x.life → At w.client_logs life log → y ≡ log ++ hear-lines w new k j x on at f → At (hear-lines w new k j x on at f) p line
      → i ≡ length log + p → At f.notices p said → line_of about x.names said ≡ Noticed intent o → IsRequest intent → (o ≡ outcome.Disconnected → ⊥) → IsRead IsReply new life y i intent o
  asked-read life log y i p line intent o (notice.Update g out) mine there whole placed place at_p is asks here = absurd cc
  asked-read life log y i p line intent o (notice.Live h) mine there whole placed place at_p is asks here = absurd (subst (λ (v : Intent). IsRequest v) (sym (noticed-intent _ intent _ o is)) asks)
  asked-read life log y i p line intent o (notice.Lost h) mine there whole placed place at_p is asks here = absurd (subst (λ (v : Intent). IsRequest v) (sym (noticed-intent _ intent _ o is)) asks)
  asked-read life log y i p line intent o (notice.SubscriptionEnded g status) mine there whole placed place at_p is asks here =
      let n = next w new k j x on at opened f hears caused answer removals tells held once quiet lives in
      let z : Client = after_taking j.at_client n.rest x.core in
      let u = tells-held z j.at_client n.m (record { core = f.core; sent = f.sent; notices = f.notices }) n.hear p (notice.SubscriptionEnded g status) at_p in
      let found = heard-is z j.at_client u.2.0 g u.2.1 in
      let meant = (quiet.tidy j.client x at).subscriptions g found.0 found.1 in
      absurd (subst (λ (v : Intent). IsRequest v) (sym (noticed-intent (meant_by x.names.subscriptions g) intent (outcome.Failed status) o is) ∙ meant.2) asks)
  asked-read life log y i p line intent o (notice.Completed q out) mine there whole placed place at_p is asks here =
      let n = next w new k j x on at opened f hears caused answer removals tells held once quiet lives in
      let e : Effect = record { core = f.core; sent = f.sent; notices = f.notices } in
      let z : Client = after_taking j.at_client n.rest x.core in
      let u = tells-asked z j.at_client n.m e n.hear p (notice.Completed q out) at_p in
      let own = tells j x n.d n.m n.rest n.t n.s e on at n.linked n.first n.told n.up n.hear p (notice.Completed q out) at_p in
      let logged : At w.client_logs x.life log = subst (λ (l : ℕ). At w.client_logs l log) mine there in
      let one : meant_by x.names.requests q ≡ intent = noticed-intent (meant_by x.names.requests q) intent out o is in
      let result : out ≡ o = noticed-outcome (meant_by x.names.requests q) intent out o is in
      elim u [
        | inr parted ↦ absurd (here (sym result ∙ parted.0))
        | inl answered ↦ elim own [
          | inr gone ↦ absurd (here (sym result ∙ gone.0))
          | inl tells_own ↦
              read-now w new k j x on at opened f hears caused answer removals tells held once quiet lives IsReply life log y i p line intent o mine there whole placed place answered.0 (sym tells_own.0 ∙ one)
              (subst (λ (v : Outcome). Means n.m v) result tells_own.1)
              (subst (λ (v : Intent). IsHeld log v) one (request-held log q answered.2.0 logged answered.2.1 answered.2.3)) (elim answered.1 [
                | inl reads ↦ replied 15 reads (λ g. (let c : ◌≡◌ {A = ℕ} 15 27 = g in omega (arith, c))) (λ g. (let c : ◌≡◌ {A = ℕ} 15 1 = g in omega (arith, c)))
                | inr more ↦ elim more [
                  | inl puts ↦ replied 19 puts (λ g. (let c : ◌≡◌ {A = ℕ} 19 27 = g in omega (arith, c))) (λ g. (let c : ◌≡◌ {A = ℕ} 19 1 = g in omega (arith, c)))
                  | inr errs ↦ replied 11 errs (λ g. (let c : ◌≡◌ {A = ℕ} 11 27 = g in omega (arith, c))) (λ g. (let c : ◌≡◌ {A = ℕ} 11 1 = g in omega (arith, c)))
                ]
              ])
        ]
      ]
    where
      replied : (command_is : ℕ) → (next w new k j x on at opened f hears caused answer removals tells held once quiet lives).m.command ≡ command_is → (command_is ≡ 27 → ⊥) → (command_is ≡ 1 → ⊥) → (next w new k j x on at opened f hears caused answer removals tells held once quiet lives).t.cause ≡ Reply
      replied = reply-of w new k j x on at opened f hears caused answer removals tells held once quiet lives
  asked-read life log y i p line intent o (notice.WriteRefused h status) mine there whole placed place at_p is asks here =
      let n = next w new k j x on at opened f hears caused answer removals tells held once quiet lives in
      let e : Effect = record { core = f.core; sent = f.sent; notices = f.notices } in
      let z : Client = after_taking j.at_client n.rest x.core in
      let u = tells-asked z j.at_client n.m e n.hear p (notice.WriteRefused h status) at_p in
      let own = tells j x n.d n.m n.rest n.t n.s e on at n.linked n.first n.told n.up n.hear p (notice.WriteRefused h status) at_p in
      let logged : At w.client_logs x.life log = subst (λ (l : ℕ). At w.client_logs l log) mine there in
      let a : Intent = history.On (channel_number x.names h) (history.Request history.Write (write_number about)) in
      let one : a ≡ intent = noticed-intent a intent (outcome.Failed status) o is in
      let result : outcome.Failed status ≡ o = noticed-outcome a intent (outcome.Failed status) o is in
      let errs : Is command.Error n.m = u.1.0 in
      let reply : n.t.cause ≡ Reply = reply-of w new k j x on at opened f hears caused answer removals tells held once quiet lives 11 errs (λ g. (let c : ◌≡◌ {A = ℕ} 11 27 = g in omega (arith, c))) (λ g. (let c : ◌≡◌ {A = ℕ} 11 1 = g in omega (arith, c))) in
      let r = answer k (length j.lists.heard) j n.t on n.told reply in
      let same : r.0 ≡ n.s = At-one j.lists.up n.t.place r.0 n.s r.1 n.up in
      let quoted = r.2.refuses (ap (λ (v : Fields). v.command) n.is ∙ errs) in
      let spelled : n.m ≡ error_reply quoted.0 quoted.1 n.s.message = sym n.is ∙ quoted.2 ∙ ap (λ (v : Sent). error_reply quoted.0 quoted.1 v.message) same in
      let writes : n.s.message.command ≡ 4 = quotes-write quoted.0 quoted.1 n.s.message n.m u.1.1.0 spelled (fits n.t.place n.s n.up) errs u.1.1.1 u.1.1.2 in
      let meant : n.s.intent ≡ a = write-intent n.s.intent (channel_number x.names h) n.s.message n.suits writes own.0 ∙ ap (λ (v : Intent). history.On (channel_number x.names h) (history.Request history.Write (write_number v))) (sym about-is) in
      read-now w new k j x on at opened f hears caused answer removals tells held once quiet lives IsReply life log y i p line intent o mine there whole placed place u.0 (meant ∙ one)
      (subst (λ (v : Outcome). Means n.m v) result own.1)
      (subst (λ (v : Intent). IsHeld log v) one
      (created-held w new k j x on at opened f hears caused answer removals tells held once quiet lives log h u.2.0 logged u.2.3 (ap is_gone u.2.4))) reply

  pub request-news : (life : ℕ) (y : List Line) (i : ℕ) (line : Line) (intent : Intent) (o : Outcome) → At new.client_logs life y → At y i line → TellsRequest line intent o → ((log : List Line) × At w.client_logs life log × At log i line) ⊎ IsRead IsReply new life y i intent o
  request-news life y i line intent o there here is =
      let lines : List Line = hear-lines w new k j x on at f in
      elim (lines-grown w.client_logs x.life lines (lives.present j.client x at) life y i line (subst (λ (v : List (List Line)). At v life y) (ap (λ (v : World). v.client_logs) f.is) there) here) [
        | inl old ↦ inl old
        | inr more ↦
            let m = At-mapped (line_of about x.names) f.notices more.1 line more.5 in
            inr (asked-read life more.0 y i more.1 line intent o m.0 more.2 more.3 more.4 more.5 more.6 m.1 (sym m.2 ∙ is.0) is.1 is.2)
      ]
