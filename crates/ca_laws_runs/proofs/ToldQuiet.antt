-- Of all that clients are told, updates, live channels and failed subscriptions are told by a
-- message that is read.
use Rattle.std.proofs.Common.{◌≡◌, ◌≢◌, ℕ, zero, suc, inl, inr, Bool, true, false, cond, eqb, List, [], ◌∷◌, ◌++◌, length, Option, Some, None, refl, sym, ap, subst, ◌∙◌}
use Rattle.std.specs.Prelude.{fold, map, option_map, unwrap_or}
use Rattle.std.proofs.lemmas.Bool.{both_ways}
use Rattle.ca_arena.specs.declared.handle.Handle.{Handle}
use Rattle.ca_dbr.specs.declared.value.Outcome.{Outcome}
use Rattle.ca_dbr.specs.declared.value.Outcome.TheVariants as outcome
use Rattle.ca_ids.specs.Table.{under}
use Rattle.ca_link.specs.declared.keep.Keep.{Keep}
use Rattle.ca_link.specs.declared.keep.Keep.TheVariants.{Close, Echo, Idle}
use Rattle.ca_link.specs.Link.{kept}
use Rattle.ca_monitor.specs.Subscriptions.{confirmed_by}
use Rattle.ca_requests.specs.Requests.{Request, answered_by, asks_on, in_order_of_issue, was_sent_on}
use Rattle.ca_requests.specs.Requests as request
use Rattle.ca_text.specs.declared.command.Command.TheVariants as command
use Rattle.ca_text.specs.Place.{At}
use Rattle.ca_text.proofs.Places.{At-mapped, At-parts, some_is}
use Rattle.ca_wire.specs.declared.header.Header.{Header}
use Rattle.ca_wire.specs.Fields.{Fields}
use Rattle.ca_model.specs.Answers.{Closing, Notice}
use Rattle.ca_model.specs.Answers as notice
use Rattle.ca_model.specs.Client.{Channel, Client, ClientCircuit, Clearing, Connecting, Connection, Creating, Doomed, Leaving, Live, Phase, channel_on, channels_on, connection_at, disconnections, farewell, is_live}
use Rattle.ca_model.specs.ClientEnds.{ConnectsOn, StepsOn, Ticking, circuits_ticked, ticks, ticks_as}
use Rattle.ca_model.specs.Hears.{Answers, Completes, Effect, Fails, Hears, Updates, any_failed, clear_answered, confirmed, created, failed, found_at, subscription_on, left, request_failed, rights_told, searched_by, subscription_failed, write_failed}
use Rattle.ca_model.specs.Hears as hears
use Rattle.ca_model.specs.History.{Intent, Line, OfCircuit, Updated}
use Rattle.ca_model.specs.Speech.{Is}
use Rattle.ca_model.proofs.Standings.{channel-on}
use Rattle.ca_model.specs.ClientEvents.{TicksOne, line_of, lines_of, closing_notices}
use Rattle.ca_model.specs.Events.{Event}
use Rattle.ca_model.specs.Events as event
use Rattle.ca_model.specs.Runs.{Happens, TicksAll, clients_below}
use Rattle.ca_model.specs.World.{Names, World}
use Rattle.ca_laws_parts.proofs.WritesLists.{none_at}
use Rattle.ca_laws_runs.specs.OrderSteps.{HaveLives}
use Rattle.ca_laws_runs.proofs.HeardTells.{silent-finds}
use Rattle.ca_laws_runs.proofs.OnceLess.{is_gone}
use Rattle.ca_laws_runs.proofs.OrderGrows.{ticks-grown}
use Rattle.ca_laws_runs.proofs.OrderKeeps.{lives-grown}
use Rattle.ca_laws_runs.proofs.ToldLines.{IsSilent, LinesFrom, lines-all, lines-same, lines-then, mute-event}

-- it tells an update, that a channel is live, or that a subscription failed
abbrev pub is_own : Notice → Bool
is_own (notice.Update g o) = true
is_own (notice.Live h) = true
is_own (notice.SubscriptionEnded g s) = true
is_own o = false

-- none does
abbrev pub NoneOwn : List Notice → Type 0
NoneOwn notices = (p : ℕ) (o : Notice) → At notices p o → is_own o ≡ false

pub no-notices : NoneOwn []
no-notices p o at = absurd (none_at p o at)

one-notice : (a : Notice) → is_own a ≡ false → NoneOwn (a ∷ [])
one-notice a is zero o at = ap is_own (sym (some_is a o at)) ∙ is
one-notice a is (suc p) o at = absurd cc

both-notices : (xs ys : List Notice) → NoneOwn xs → NoneOwn ys → NoneOwn (xs ++ ys)
both-notices xs ys a b p o at = elim (At-parts xs ys p o at) [ inl first ↦ a p o first | inr more ↦ b more.0 o more.2 ]

same-notices : (xs ys : List Notice) → ys ≡ xs → NoneOwn xs → NoneOwn ys
same-notices xs ys is a = subst (λ (l : List Notice). NoneOwn l) (sym is) a

mapped-notices : (f : Handle → Notice) (hs : List Handle) → ((h : Handle) → is_own (f h) ≡ false) → NoneOwn (map f hs)
mapped-notices f hs each p o at = (let m = At-mapped f hs p o at in ap is_own m.2 ∙ each m.0)

pub over-notices : (which : Request → Bool) (x : Client) → NoneOwn (disconnections which x)
over-notices which x = mapped-notices (λ (q : Handle). notice.Completed q outcome.Disconnected) (in_order_of_issue which x.requests x.issued) (λ h. refl)

pub farewell-notices : (c : Handle) (x : Client) → NoneOwn (farewell c x)
farewell-notices c x = both-notices (disconnections (was_sent_on c) x) (map notice.Lost (channels_on is_live c x)) (over-notices (was_sent_on c) x) (mapped-notices notice.Lost (channels_on is_live c x) (λ h. refl))

-- ---- a message that is read

-- A live channel is told of alone, and so is a subscription that failed, and each is one that
-- the client holds. An update is told alone, by an EVENT_ADD with a payload, of the
-- subscription that it finds.
abbrev pub TellsHeld : Client → Handle → Fields → (p : ℕ) → Notice → Type 0
TellsHeld x c m p (notice.Update g o) = (p ≡ 0) × Is command.EventAdd m × (m.payload ≢ []) × (subscription_on x c m.p2 ≡ Some g)
TellsHeld x c m p (notice.Live h) = (p ≡ 0) × Is command.CreateChannel m × ((ch : Channel) × (under x.channels h ≡ Some ch) × (is_gone ch.standing ≡ false))
TellsHeld x c m p (notice.SubscriptionEnded g s) = (p ≡ 0) × Is command.Error m × ((id : ℕ) × (subscription_on x c id ≡ Some g))
TellsHeld x c m p o = Unit {0}

no-tells : (x : Client) (c : Handle) (m : Fields) (p : ℕ) (o : Notice) → is_own o ≡ false → TellsHeld x c m p o
no-tells x c m p (notice.Update g o) is = absurd (both_ways true is refl)
no-tells x c m p (notice.Live h) is = absurd (both_ways true is refl)
no-tells x c m p (notice.Lost h) is = tt
no-tells x c m p (notice.Completed q o) is = tt
no-tells x c m p (notice.SubscriptionEnded g s) is = absurd (both_ways true is refl)
no-tells x c m p (notice.WriteRefused h s) is = tt

module _ (x : Client) (c : Handle) (m : Fields) where
  abbrev Tells : Effect → Type 0
  Tells e = (p : ℕ) (o : Notice) → At e.notices p o → TellsHeld x c m p o

  quiet : (e f : Effect) → e ≡ f → NoneOwn f.notices → Tells e
  quiet e f is none p o at = no-tells x c m p o (none p o (subst (λ (z : Effect). At z.notices p o) is at))

  alone : (a : Notice) (e : Effect) → e.notices ≡ a ∷ [] → TellsHeld x c m 0 a → Tells e
  alone a e is tells p o at = go p o (subst (λ (l : List Notice). At l p o) is at)
    where
      go : (p : ℕ) (o : Notice) → At (a ∷ []) p o → TellsHeld x c m p o
      go zero o at = subst (λ (z : Notice). TellsHeld x c m 0 z) (some_is a o at) tells
      go (suc p) o at = absurd cc

  told-rights : (e : Effect) (o : Option (Handle × Phase)) → e ≡ rights_told x c m o → Tells e
  told-rights e None is = quiet e _ is no-notices
  told-rights e (Some (h, Connecting)) is = quiet e _ is no-notices
  told-rights e (Some (h, Creating rights)) is = quiet e _ is no-notices
  told-rights e (Some (h, Live native rights)) is = quiet e _ is no-notices
  told-rights e (Some (h, Leaving)) is = quiet e _ is no-notices
  told-rights e (Some (h, Clearing)) is = quiet e _ is no-notices
  told-rights e (Some (h, Doomed)) is = quiet e _ is no-notices

  told-created : (e : Effect) (o : Option (Handle × Phase)) → Is command.CreateChannel m → channel_on x c m.p1 ≡ o → e ≡ created x c m o → Tells e
  told-created e None creates found is = quiet e _ is no-notices
  told-created e (Some (h, Connecting)) creates found is = quiet e _ is no-notices
  told-created e (Some (h, Creating rights)) creates found is = (let ch = channel-on x c m.p1 h (Creating rights) found in alone (notice.Live h) e (ap (λ (z : Effect). z.notices) is) (refl, creates, (ch.0, ch.1, ap is_gone ch.3)))
  told-created e (Some (h, Live native rights)) creates found is = quiet e _ is no-notices
  told-created e (Some (h, Leaving)) creates found is = quiet e _ is no-notices
  told-created e (Some (h, Clearing)) creates found is = quiet e _ is no-notices
  told-created e (Some (h, Doomed)) creates found is = quiet e _ is no-notices

  told-failed : (e : Effect) (o : Option (Handle × Phase)) → e ≡ failed x o → Tells e
  told-failed e None is = quiet e _ is no-notices
  told-failed e (Some (h, Connecting)) is = quiet e _ is no-notices
  told-failed e (Some (h, Creating rights)) is = quiet e _ is no-notices
  told-failed e (Some (h, Live native rights)) is = quiet e _ is no-notices
  told-failed e (Some (h, Leaving)) is = quiet e _ is no-notices
  told-failed e (Some (h, Clearing)) is = quiet e _ is no-notices
  told-failed e (Some (h, Doomed)) is = quiet e _ is no-notices

  told-answered : (e : Effect) (o : Option (Handle × Phase)) → e ≡ clear_answered x c o → Tells e
  told-answered e None is = quiet e _ is no-notices
  told-answered e (Some (h, Connecting)) is = quiet e _ is no-notices
  told-answered e (Some (h, Creating rights)) is = quiet e _ is no-notices
  told-answered e (Some (h, Live native rights)) is = quiet e _ is no-notices
  told-answered e (Some (h, Leaving)) is = quiet e _ is no-notices
  told-answered e (Some (h, Clearing)) is = quiet e _ is no-notices
  told-answered e (Some (h, Doomed)) is = quiet e _ is no-notices

  told-left : (e : Effect) (o : Option (Handle × Phase)) → e ≡ left x c o → Tells e
  told-left e None is = quiet e _ is no-notices
  told-left e (Some (h, Connecting)) is = quiet e _ is no-notices
  told-left e (Some (h, Creating rights)) is = quiet e _ is no-notices
  told-left e (Some (h, Live native rights)) is = quiet e _ is (both-notices (disconnections (asks_on h) x) (notice.Lost h ∷ []) (over-notices (asks_on h) x) (one-notice (notice.Lost h) refl))
  told-left e (Some (h, Leaving)) is = quiet e _ is no-notices
  told-left e (Some (h, Clearing)) is = quiet e _ is no-notices
  told-left e (Some (h, Doomed)) is = quiet e _ is no-notices

  told-reply : (e : Effect) (o : Option (Handle × Request)) → Answers x m o e → Tells e
  told-reply e None is = quiet e _ is no-notices
  told-reply e (Some (q, r)) is = go r.stage is
    where
      go : (s : request.Stage) → Completes x m q r.asked s e → Tells e
      go request.Open done = quiet e _ done.2 (one-notice (notice.Completed q done.0) refl)
      go request.Draining done = quiet e _ done no-notices

  told-confirmed : (e : Effect) (o : Option Handle) → e ≡ confirmed x o → Tells e
  told-confirmed e None is = quiet e _ is no-notices
  told-confirmed e (Some g) is = quiet e _ is no-notices

  told-update : (e : Effect) (o : Option Handle) → Is command.EventAdd m → m.payload ≢ [] → subscription_on x c m.p2 ≡ o → Updates x m o e → Tells e
  told-update e None adds some found is = quiet e _ is no-notices
  told-update e (Some g) adds some found is = λ p o at. go p o (subst (λ (z : Effect). At z.notices p o) is.2 at)
    where
      go : (p : ℕ) (o : Notice) → At (notice.Update g is.0 ∷ []) p o → TellsHeld x c m p o
      go zero o at = subst (λ (z : Notice). TellsHeld x c m 0 z) (some_is (notice.Update g is.0) o at) (refl, adds, some, found)
      go (suc p) o at = absurd cc

  told-write : (e : Effect) (o : Option (Handle × Phase)) → e ≡ write_failed x m o → Tells e
  told-write e None is = quiet e _ is no-notices
  told-write e (Some (h, Connecting)) is = quiet e _ is no-notices
  told-write e (Some (h, Creating rights)) is = quiet e _ is no-notices
  told-write e (Some (h, Live native rights)) is = quiet e _ is (one-notice (notice.WriteRefused h (record { number = m.p2 })) refl)
  told-write e (Some (h, Leaving)) is = quiet e _ is no-notices
  told-write e (Some (h, Clearing)) is = quiet e _ is no-notices
  told-write e (Some (h, Doomed)) is = quiet e _ is no-notices

  told-refused : (e : Effect) (id : ℕ) (o : Option Handle) → Is command.Error m → subscription_on x c id ≡ o → e ≡ subscription_failed x m o → Tells e
  told-refused e id None errs found is = quiet e _ is no-notices
  told-refused e id (Some g) errs found is = alone (notice.SubscriptionEnded g (record { number = m.p2 })) e (ap (λ (z : Effect). z.notices) is) (refl, errs, (id, found))

  told-any : (e : Effect) (o : Option (Handle × Request)) → e ≡ any_failed x m o → Tells e
  told-any e None is = quiet e _ is no-notices
  told-any e (Some (q, r)) is = go r.stage is
    where
      go : (s : request.Stage) → e ≡ request_failed x m q s → Tells e
      go request.Open done = quiet e _ done (one-notice (notice.Completed q (outcome.Failed (record { number = m.p2 }))) refl)
      go request.Draining done = quiet e _ done no-notices

  told-error : (e : Effect) → Is command.Error m → Fails x c m e → Tells e
  told-error e errs fails = elim fails [
    | inr not_whole ↦ quiet e _ not_whole.1 no-notices
    | inl whole ↦ by whole.0 (eqb whole.0.command 4) (eqb whole.0.command 1) whole.2
  ]
    where
      by : (h : Header) (a b : Bool) → e ≡ cond a (write_failed x m (channel_on x c m.p1)) (cond b (subscription_failed x m (subscription_on x c h.p2)) (any_failed x m (answered_by c h.command h.p2 x.requests))) → Tells e
      by h true b is = told-write e (channel_on x c m.p1) is
      by h false true is = told-refused e h.p2 (subscription_on x c h.p2) errs refl is
      by h false false is = told-any e (answered_by c h.command h.p2 x.requests) is

  pub tells-held : (e : Effect) → Hears x c m e → Tells e
  tells-held e (hears.Search is d there finds) = λ p o at. absurd (none_at p o (subst (λ (l : List Notice). At l p o) (silent-finds x (found_at d.address m) (searched_by m.p2 x) e finds) at))
  tells-held e (hears.AccessRights is does) = told-rights e (channel_on x c m.p1) does
  tells-held e (hears.CreateChannel is does) = told-created e (channel_on x c m.p1) is refl does
  tells-held e (hears.CreateChannelFail is does) = told-failed e (channel_on x c m.p1) does
  tells-held e (hears.ClearChannel is does) = told-answered e (channel_on x c m.p2) does
  tells-held e (hears.ServerDisconnect is does) = told-left e (channel_on x c m.p1) does
  tells-held e (hears.Reply is does) = told-reply e (answered_by c m.command m.p2 x.requests) does
  tells-held e (hears.Confirmation is empty does) = told-confirmed e (confirmed_by c m.p2 x.subscriptions) does
  tells-held e (hears.Update is some does) = told-update e (subscription_on x c m.p2) is some refl does
  tells-held e (hears.Error is does) = told-error e is does
  tells-held e (hears.Other is does) = quiet e _ does no-notices

-- ---- lines

abbrev pub NotUpdated : Line → Type 0
NotUpdated line = (intent : Intent) (o : Outcome) → line ≡ Updated intent o → ⊥

pub silent-not : (line : Line) → IsSilent line → NotUpdated line
silent-not line silent intent o is = subst (λ (l : Line). IsSilent l) is silent

pub line-not : (about : Intent) (n : Names) (o : Notice) → is_own o ≡ false → NotUpdated (line_of about n o)
line-not about n (notice.Update g q) is = absurd (both_ways true is refl)
line-not about n (notice.Live h) is = absurd (both_ways true is refl)
line-not about n (notice.Lost h) is = λ intent o e. absurd cc
line-not about n (notice.Completed q out) is = λ intent o e. absurd cc
line-not about n (notice.SubscriptionEnded g s) is = absurd (both_ways true is refl)
line-not about n (notice.WriteRefused h s) is = λ intent o e. absurd cc

pub lines-not : (about : Intent) (n : Names) (notices : List Notice) → NoneOwn notices → (p : ℕ) (line : Line) → At (lines_of about n notices) p line → NotUpdated line
lines-not about n notices none p line at =
    let m = At-mapped (line_of about n) notices p line at in
    subst (λ (l : Line). NotUpdated l) (sym m.2) (line-not about n m.0 (none p m.0 m.1))

-- ---- goodbyes

-- It says that something is lost.
abbrev pub IsGoodbye : Notice → Type 0
IsGoodbye (notice.Completed q o) = o ≡ outcome.Disconnected
IsGoodbye (notice.Lost h) = Unit {0}
IsGoodbye o = ⊥

-- all do
abbrev pub AreGoodbyes : List Notice → Type 0
AreGoodbyes notices = (p : ℕ) (o : Notice) → At notices p o → IsGoodbye o

no-goodbyes : AreGoodbyes []
no-goodbyes p o at = absurd (none_at p o at)

both-goodbyes : (xs ys : List Notice) → AreGoodbyes xs → AreGoodbyes ys → AreGoodbyes (xs ++ ys)
both-goodbyes xs ys a b p o at = elim (At-parts xs ys p o at) [ inl first ↦ a p o first | inr more ↦ b more.0 o more.2 ]

same-goodbyes : (xs ys : List Notice) → ys ≡ xs → AreGoodbyes xs → AreGoodbyes ys
same-goodbyes xs ys is a = subst (λ (l : List Notice). AreGoodbyes l) (sym is) a

over-goodbyes : (which : Request → Bool) (x : Client) → AreGoodbyes (disconnections which x)
over-goodbyes which x p o at =
    let m = At-mapped (λ (q : Handle). notice.Completed q outcome.Disconnected) (in_order_of_issue which x.requests x.issued) p o at in
    subst (λ (z : Notice). IsGoodbye z) (sym m.2) refl

lost-goodbyes : (hs : List Handle) → AreGoodbyes (map notice.Lost hs)
lost-goodbyes hs p o at = (let m = At-mapped notice.Lost hs p o at in subst (λ (z : Notice). IsGoodbye z) (sym m.2) tt)

farewell-goodbyes : (c : Handle) (x : Client) → AreGoodbyes (farewell c x)
farewell-goodbyes c x = both-goodbyes (disconnections (was_sent_on c) x) (map notice.Lost (channels_on is_live c x)) (over-goodbyes (was_sent_on c) x) (lost-goodbyes (channels_on is_live c x))

pub goodbye-not : (about : Intent) (n : Names) (o : Notice) → IsGoodbye o → NotUpdated (line_of about n o)
goodbye-not about n (notice.Completed q out) is = line-not about n (notice.Completed q out) refl
goodbye-not about n (notice.Lost h) is = line-not about n (notice.Lost h) refl
goodbye-not about n (notice.Live h) is = absurd is
goodbye-not about n (notice.Update g o) is = absurd is
goodbye-not about n (notice.SubscriptionEnded g s) is = absurd is
goodbye-not about n (notice.WriteRefused h s) is = absurd is

-- What is said of lines that tell nothing, and of goodbyes.
pub record Covers (Q : Line → Type 0) : Type 0 where
  pub silent : (line : Line) → IsSilent line → Q line
  pub goodbye : (about : Intent) (n : Names) (o : Notice) → IsGoodbye o → Q (line_of about n o)

pub covers-not : Covers NotUpdated
covers-not = record { silent = silent-not; goodbye = goodbye-not }

-- ---- events

connect-notices : (x : Client) (c : Handle) (o : Option ClientCircuit) (k : Option Closing) (sent : _) (core : Client) → ConnectsOn x c o k sent core → AreGoodbyes (closing_notices k)
connect-notices x c o None sent core f = no-goodbyes
connect-notices x c None (Some k) sent core f = same-goodbyes [] k.notices (ap (λ (z : Closing). z.notices) f.0) no-goodbyes
connect-notices x c (Some d) (Some k) sent core f = same-goodbyes (farewell c x) k.notices (ap (λ (z : Closing). z.notices) f.0) (farewell-goodbyes c x)

pub closed-notices : (x : Client) (c : Handle) (o : Option Connection) (k : Closing) (sent : _) (core : Client) → StepsOn x c o (notice.Closed k) sent core → AreGoodbyes k.notices
closed-notices x c None k sent core f = same-goodbyes [] k.notices (ap (λ (z : Closing). z.notices) f.0) no-goodbyes
closed-notices x c (Some d) k sent core f = same-goodbyes (farewell c x) k.notices (ap (λ (z : Closing). z.notices) f.1.0) (farewell-goodbyes c x)

ticks-notices : (t : Ticking) (c : Handle) → AreGoodbyes t.notices → AreGoodbyes (ticks t c).notices
ticks-notices t c none = go (connection_at t.core c)
  where
    by : (k : Keep) → AreGoodbyes (ticks_as k c t).notices
    by Idle = none
    by Echo = none
    by Close = both-goodbyes t.notices (farewell c t.core) none (farewell-goodbyes c t.core)

    go : (o : Option Connection) → AreGoodbyes (unwrap_or (option_map (λ (e : Connection). ticks_as (kept t.core.moment e.link) c t) o) t).notices
    go None = none
    go (Some e) = by (kept t.core.moment e.link)

all-notices : (order : List Handle) (t : Ticking) → AreGoodbyes t.notices → AreGoodbyes (fold ticks t order).notices
all-notices [] t none = none
all-notices (c ∷ order) t none = all-notices order (ticks t c) (ticks-notices t c none)

abbrev pub IsHearing : Event → Type 0
IsHearing (event.ClientStep k) = Unit {0}
IsHearing e = ⊥

module _ (Q : Line → Type 0) (c : Covers Q) where
  lines-silent : (w new : World) → LinesFrom IsSilent w new → LinesFrom Q w new
  lines-silent w new f l y i line at there = elim (f l y i line at there) [ inl old ↦ inl old | inr silent ↦ inr (c.silent line silent) ]

  pub lines-bye : (about : Intent) (n : Names) (notices : List Notice) → AreGoodbyes notices → (p : ℕ) (line : Line) → At (lines_of about n notices) p line → Q line
  lines-bye about n notices all p line at =
      let m = At-mapped (line_of about n) notices p line at in
      subst Q (sym m.2) (c.goodbye about n m.0 (all p m.0 m.1))

  tick-one : (moment : ℕ) (w : World) (i : ℕ) (new : World) → HaveLives w → TicksOne moment w i new → LinesFrom Q w new
  tick-one moment w i new lives (x, at, t, sent, core, does, is) =
      lines-all Q w new x.life (lines_of OfCircuit x.names t.notices) (lives.present i x at) (ap (λ (z : World). z.client_logs) is)
      (lines-bye OfCircuit x.names t.notices (same-goodbyes (circuits_ticked moment x.core).notices t.notices (ap (λ (z : notice.Ticked). z.notices) does.0) (all-notices x.core.order _ no-goodbyes)))

  pub ticks-lines : (moment : ℕ) (w : World) (is : List ℕ) (new : World) → HaveLives w → TicksAll moment w is new → LinesFrom Q w new
  ticks-lines moment w [] new lives same = lines-same Q w new (ap (λ (z : World). z.client_logs) (sym same))
  ticks-lines moment w (i ∷ is) new lives (mid, one, rest) =
      lines-then Q w mid new (tick-one moment w i mid lives one) (ticks-lines moment mid is new (lives-grown w mid (ticks-grown moment w (i ∷ []) mid (mid, one, refl)) lives) rest)

  first-not : (line : Line) (lines : List Line) → IsSilent line → ((p : ℕ) (other : Line) → At lines p other → Q other) → (p : ℕ) (other : Line) → At (line ∷ lines) p other → Q other
  first-not line lines silent rest zero other at = subst Q (some_is line other at) (c.silent line silent)
  first-not line lines silent rest (suc p) other at = rest p other at

  -- every event but a step of a client's end
  pub other-lines : (w new : World) (e : Event) → (IsHearing e → ⊥) → HaveLives w → Happens w e new → LinesFrom Q w new
  other-lines w new (event.ClientStep k) other lives happens = absurd (other tt)
  other-lines w new (event.Clear i c) other lives (at, inl f) =
      lines-all Q w new at.x.life _ (lives.present i at.x at.at) (ap (λ (z : World). z.client_logs) f.3) (first-not _ [] tt (λ p line here. absurd (none_at p line here)))
  other-lines w new (event.Clear i c) other lives (at, inr f) =
      lines-all Q w new at.x.life _ (lives.present i at.x at.at) (ap (λ (z : World). z.client_logs) f.4)
      (first-not _ (lines_of OfCircuit at.x.names f.0) tt (lines-bye OfCircuit at.x.names f.0 (same-goodbyes (disconnections (asks_on at.h) at.x.core) f.0 f.3.2 (over-goodbyes (asks_on at.h) at.x.core))))
  other-lines w new (event.CutClient k) other lives (at, f) =
      lines-all Q w new at.x.life _ (lives.present at.j.client at.x at.joins.client) (ap (λ (z : World). z.client_logs) f.4)
      (lines-bye OfCircuit at.x.names f.0.notices (same-goodbyes (farewell at.j.at_client at.x.core) f.0.notices (ap (λ (z : Closing). z.notices) f.3.0) (farewell-goodbyes at.j.at_client at.x.core)))
  other-lines w new (event.Accept i) other lives (at, f) = elim f.leaves [
    | inl full ↦ lines-same Q w new (ap (λ (z : World). z.client_logs) full.1)
    | inr made ↦
        lines-all Q w new at.x.life _ (lives.present i at.x at.at) (ap (λ (z : World). z.client_logs) made.6)
        (lines-bye OfCircuit at.x.names (closing_notices made.1) (connect-notices at.x.core at.v.v.circuit _ made.1 made.2 made.3 made.5))
  ]
  other-lines w new (event.Tick moment) other lives (at, (mid, ticks, is)) =
      lines-then Q w mid new (ticks-lines moment w (clients_below (length w.clients)) mid lives ticks) (lines-same Q mid new (ap (λ (z : World). z.client_logs) is))
  other-lines w new (event.Open i name priority) other lives happens = lines-silent w new (mute-event w new lives (event.Open i name priority) tt happens)
  other-lines w new (event.Read i c data_type count) other lives happens = lines-silent w new (mute-event w new lives (event.Read i c data_type count) tt happens)
  other-lines w new (event.Write i c v) other lives happens = lines-silent w new (mute-event w new lives (event.Write i c v) tt happens)
  other-lines w new (event.WriteNotify i c v) other lives happens = lines-silent w new (mute-event w new lives (event.WriteNotify i c v) tt happens)
  other-lines w new (event.Subscribe i c data_type count mask) other lives happens = lines-silent w new (mute-event w new lives (event.Subscribe i c data_type count mask) tt happens)
  other-lines w new (event.Unsubscribe i n) other lives happens = lines-silent w new (mute-event w new lives (event.Unsubscribe i n) tt happens)
  other-lines w new (event.Collect i r) other lives happens = lines-silent w new (mute-event w new lives (event.Collect i r) tt happens)
  other-lines w new (event.GiveUp i r) other lives happens = lines-silent w new (mute-event w new lives (event.GiveUp i r) tt happens)
  other-lines w new (event.ClientDatagram i from bytes) other lives happens = lines-silent w new (mute-event w new lives (event.ClientDatagram i from bytes) tt happens)
  other-lines w new (event.ServerDatagram i from bytes) other lives happens = lines-silent w new (mute-event w new lives (event.ServerDatagram i from bytes) tt happens)
  other-lines w new (event.Up k n) other lives happens = lines-silent w new (mute-event w new lives (event.Up k n) tt happens)
  other-lines w new (event.Down k n) other lives happens = lines-silent w new (mute-event w new lives (event.Down k n) tt happens)
  other-lines w new (event.ServerStep k) other lives happens = lines-silent w new (mute-event w new lives (event.ServerStep k) tt happens)
  other-lines w new (event.Pump k) other lives happens = lines-silent w new (mute-event w new lives (event.Pump k) tt happens)
  other-lines w new (event.CutServer k) other lives happens = lines-silent w new (mute-event w new lives (event.CutServer k) tt happens)
  other-lines w new (event.ClientRestart i) other lives happens = lines-silent w new (mute-event w new lives (event.ClientRestart i) tt happens)
  other-lines w new (event.ServerRestart i) other lives happens = lines-silent w new (mute-event w new lives (event.ServerRestart i) tt happens)
  other-lines w new (event.Post i name v mask) other lives happens = lines-silent w new (mute-event w new lives (event.Post i name v mask) tt happens)
  other-lines w new (event.Finish i name) other lives happens = lines-silent w new (mute-event w new lives (event.Finish i name) tt happens)
  other-lines w new (event.Remove i name) other lives happens = lines-silent w new (mute-event w new lives (event.Remove i name) tt happens)
  other-lines w new (event.Add i r) other lives happens = lines-silent w new (mute-event w new lives (event.Add i r) tt happens)
