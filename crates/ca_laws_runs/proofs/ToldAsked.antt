-- What a client tells of requests and of lost channels as it reads a message: of an open request
-- that it answers, alone, or of those of a live channel whose record was removed.
use Rattle.std.proofs.Common.{◌≡◌, ℕ, zero, suc, ◌⊎◌, inl, inr, Bool, true, false, ◌&&◌, cond, eqb, List, [], ◌∷◌, Option, Some, None, refl, sym, ap, subst}
use Rattle.std.specs.Prelude.{option_map, unwrap_or}
use Rattle.std.proofs.lemmas.Bool.{and_parts, both_ways, eqb-true}
use Rattle.ca_arena.specs.declared.handle.Handle.{Handle}
use Rattle.ca_dbr.specs.declared.value.Outcome.TheVariants as outcome
use Rattle.ca_ids.specs.Table.{under}
use Rattle.ca_monitor.specs.Subscriptions.{confirmed_by}
use Rattle.ca_requests.specs.Meaning.{QuotesHeader}
use Rattle.ca_requests.specs.Requests.{Request, answered_by, asks_on, in_order_of_issue, is_open, is_open_in, was_sent_on}
use Rattle.ca_requests.specs.Requests as request
use Rattle.ca_text.specs.declared.command.Command.TheVariants as command
use Rattle.ca_text.specs.Place.{At}
use Rattle.ca_text.proofs.Places.{At-mapped, At-parts, some_is}
use Rattle.ca_wire.specs.declared.header.Header.{Header}
use Rattle.ca_wire.specs.Fields.{Fields}
use Rattle.ca_model.specs.Answers.{Notice}
use Rattle.ca_model.specs.Answers as notice
use Rattle.ca_model.specs.Client.{Channel, Client, Clearing, Connecting, Creating, Doomed, Leaving, Live, Native, On, Phase, channel_on, disconnections}
use Rattle.ca_model.specs.Hears.{Answers, Completes, Effect, Fails, Hears, Updates, any_failed, clear_answered, confirmed, created, failed, found_at, subscription_on, left, request_failed, rights_told, searched_by, subscription_failed, write_failed}
use Rattle.ca_model.specs.Hears as hears
use Rattle.ca_model.specs.Speech.{Is}
use Rattle.ca_model.proofs.Standings.{channel-on}
use Rattle.ca_laws_parts.proofs.CircuitHeard.{answered-is}
use Rattle.ca_laws_parts.proofs.Marks.{at-filter}
use Rattle.ca_laws_parts.proofs.WritesLists.{none_at}
use Rattle.ca_laws_runs.proofs.HeardTells.{silent-finds}

-- The request of this handle is open, and the test names it.
abbrev pub IsOpenIn : (which : Request → Bool) → Client → Handle → Type 0
IsOpenIn which x q = (r : Request) × (under x.requests q ≡ Some r) × (which r ≡ true) × (is_open_in r.stage ≡ true)

-- those that are told Disconnected together
pub gone-open : (which : Request → Bool) (x : Client) (p : ℕ) (o : Notice) → At (disconnections which x) p o → (q : Handle) × (o ≡ notice.Completed q outcome.Disconnected) × IsOpenIn which x q
gone-open which x p o at =
    let m = At-mapped (λ (q : Handle). notice.Completed q outcome.Disconnected) (in_order_of_issue which x.requests x.issued) p o at in
    let f = at-filter (is_open which x.requests) x.issued p m.0 m.1 in
    (m.0, m.2, go m.0 (under x.requests m.0) refl f.2)
  where
    go : (q : Handle) (v : Option Request) → under x.requests q ≡ v → unwrap_or (option_map (λ (r : Request). which r && is_open_in r.stage) v) false ≡ true → IsOpenIn which x q
    go q None there is = absurd (both_ways false refl is)
    go q (Some r) there is = (let both = and_parts (which r) (is_open_in r.stage) is in (r, there, both.0, both.1))

-- The channel of this handle is live on this circuit, and the SERVER_DISCONN m is about it.
abbrev pub IsLeft : Client → (c : Handle) → Fields → (h : Handle) → Type 0
IsLeft x c m h = Is command.ServerDisconnect m × ((native : Native) × (rights : ℕ) × (channel_on x c m.p1 ≡ Some (h, Live native rights)))

-- An ERROR that quotes a WRITE.
abbrev pub RefusesWrite : Fields → Type 0
RefusesWrite m = Is command.Error m × ((head : Header) × QuotesHeader m head × (head.command ≡ 4))

-- A request that completes is open: the message is a reply or an ERROR, and it is told of alone; or
-- its channel is lost, and so is a channel that is told of. A write fails alone, on a live channel.
abbrev pub TellsAsked : Client → Handle → Fields → (p : ℕ) → Notice → Type 0
TellsAsked x c m p (notice.Completed q o) =
    ((p ≡ 0) × (Is command.ReadNotify m ⊎ (Is command.WriteNotify m ⊎ Is command.Error m)) × IsOpenIn (was_sent_on c) x q)
    ⊎ ((o ≡ outcome.Disconnected) × ((h : Handle) × IsLeft x c m h × IsOpenIn (asks_on h) x q))
TellsAsked x c m p (notice.Lost h) = IsLeft x c m h
TellsAsked x c m p (notice.WriteRefused h s) = (p ≡ 0) × RefusesWrite m × ((ch : Channel) × (native : Native) × (rights : ℕ) × (under x.channels h ≡ Some ch) × (ch.standing ≡ On c (Live native rights)))
TellsAsked x c m p o = Unit {0}

module _ (x : Client) (c : Handle) (m : Fields) where
  abbrev Tells : Effect → Type 0
  Tells e = (p : ℕ) (o : Notice) → At e.notices p o → TellsAsked x c m p o

  silent : (e : Effect) → e.notices ≡ [] → Tells e
  silent e is p o at = absurd (none_at p o (subst (λ (l : List Notice). At l p o) is at))

  alone : (a : Notice) (e : Effect) → e.notices ≡ a ∷ [] → TellsAsked x c m 0 a → Tells e
  alone a e is tells p o at = go p o (subst (λ (l : List Notice). At l p o) is at)
    where
      go : (p : ℕ) (o : Notice) → At (a ∷ []) p o → TellsAsked x c m p o
      go zero o at = subst (λ (z : Notice). TellsAsked x c m 0 z) (some_is a o at) tells
      go (suc p) o at = absurd cc

  made-of : (e f : Effect) → e ≡ f → e.notices ≡ f.notices
  made-of e f is = ap (λ (w : Effect). w.notices) is

  told-rights : (e : Effect) (o : Option (Handle × Phase)) → e ≡ rights_told x c m o → Tells e
  told-rights e None is = silent e (made-of e _ is)
  told-rights e (Some (h, Connecting)) is = silent e (made-of e _ is)
  told-rights e (Some (h, Creating rights)) is = silent e (made-of e _ is)
  told-rights e (Some (h, Live native rights)) is = silent e (made-of e _ is)
  told-rights e (Some (h, Leaving)) is = silent e (made-of e _ is)
  told-rights e (Some (h, Clearing)) is = silent e (made-of e _ is)
  told-rights e (Some (h, Doomed)) is = silent e (made-of e _ is)

  told-created : (e : Effect) (o : Option (Handle × Phase)) → e ≡ created x c m o → Tells e
  told-created e None is = silent e (made-of e _ is)
  told-created e (Some (h, Connecting)) is = silent e (made-of e _ is)
  told-created e (Some (h, Creating rights)) is = alone (notice.Live h) e (made-of e _ is) tt
  told-created e (Some (h, Live native rights)) is = silent e (made-of e _ is)
  told-created e (Some (h, Leaving)) is = silent e (made-of e _ is)
  told-created e (Some (h, Clearing)) is = silent e (made-of e _ is)
  told-created e (Some (h, Doomed)) is = silent e (made-of e _ is)

  told-failed : (e : Effect) (o : Option (Handle × Phase)) → e ≡ failed x o → Tells e
  told-failed e None is = silent e (made-of e _ is)
  told-failed e (Some (h, Connecting)) is = silent e (made-of e _ is)
  told-failed e (Some (h, Creating rights)) is = silent e (made-of e _ is)
  told-failed e (Some (h, Live native rights)) is = silent e (made-of e _ is)
  told-failed e (Some (h, Leaving)) is = silent e (made-of e _ is)
  told-failed e (Some (h, Clearing)) is = silent e (made-of e _ is)
  told-failed e (Some (h, Doomed)) is = silent e (made-of e _ is)

  told-answered : (e : Effect) (o : Option (Handle × Phase)) → e ≡ clear_answered x c o → Tells e
  told-answered e None is = silent e (made-of e _ is)
  told-answered e (Some (h, Connecting)) is = silent e (made-of e _ is)
  told-answered e (Some (h, Creating rights)) is = silent e (made-of e _ is)
  told-answered e (Some (h, Live native rights)) is = silent e (made-of e _ is)
  told-answered e (Some (h, Leaving)) is = silent e (made-of e _ is)
  told-answered e (Some (h, Clearing)) is = silent e (made-of e _ is)
  told-answered e (Some (h, Doomed)) is = silent e (made-of e _ is)

  told-left : (e : Effect) (o : Option (Handle × Phase)) → Is command.ServerDisconnect m → channel_on x c m.p1 ≡ o → e ≡ left x c o → Tells e
  told-left e None leaves found is = silent e (made-of e _ is)
  told-left e (Some (h, Connecting)) leaves found is = silent e (made-of e _ is)
  told-left e (Some (h, Creating rights)) leaves found is = silent e (made-of e _ is)
  told-left e (Some (h, Leaving)) leaves found is = silent e (made-of e _ is)
  told-left e (Some (h, Clearing)) leaves found is = silent e (made-of e _ is)
  told-left e (Some (h, Doomed)) leaves found is = silent e (made-of e _ is)
  told-left e (Some (h, Live native rights)) leaves found is = λ p o at. elim (At-parts (disconnections (asks_on h) x) (notice.Lost h ∷ []) p o (subst (λ (l : List Notice). At l p o) (made-of e _ is) at)) [
    | inl first ↦ (let g = gone-open (asks_on h) x p o first in subst (λ (z : Notice). TellsAsked x c m p z) (sym g.1) (inr (refl, (h, (leaves, (native, rights, found)), g.2))))
    | inr last ↦ one last.0 o last.2 p
  ]
    where
      one : (i : ℕ) (o : Notice) → At (notice.Lost h ∷ []) i o → (p : ℕ) → TellsAsked x c m p o
      one zero o at p = subst (λ (z : Notice). TellsAsked x c m p z) (some_is (notice.Lost h) o at) (leaves, (native, rights, found))
      one (suc i) o at p = absurd cc

  told-reply : (e : Effect) (number : ℕ) (o : Option (Handle × Request)) → Is command.ReadNotify m ⊎ Is command.WriteNotify m → answered_by c number m.p2 x.requests ≡ o → Answers x m o e → Tells e
  told-reply e number None is found does = silent e (made-of e _ does)
  told-reply e number (Some (q, r)) is found does = go r.stage refl does
    where
      replies : Is command.ReadNotify m ⊎ (Is command.WriteNotify m ⊎ Is command.Error m)
      replies = elim is [ inl reads ↦ inl reads | inr puts ↦ inr (inl puts) ]

      go : (s : request.Stage) → r.stage ≡ s → Completes x m q r.asked s e → Tells e
      go request.Open stage done =
          let f = answered-is c number m.p2 x.requests q r found in
          alone (notice.Completed q done.0) e (made-of e _ done.2) (inl (refl, replies, (r, f.0, f.2, ap is_open_in stage)))
      go request.Draining stage done = silent e (made-of e _ done)

  told-confirmed : (e : Effect) (o : Option Handle) → e ≡ confirmed x o → Tells e
  told-confirmed e None is = silent e (made-of e _ is)
  told-confirmed e (Some g) is = silent e (made-of e _ is)

  told-update : (e : Effect) (o : Option Handle) → Updates x m o e → Tells e
  told-update e None is = silent e (made-of e _ is)
  told-update e (Some g) is = alone (notice.Update g is.0) e (made-of e _ is.2) tt

  told-write : (head : Header) (e : Effect) (o : Option (Handle × Phase)) → Is command.Error m → QuotesHeader m head → head.command ≡ 4 → channel_on x c m.p1 ≡ o → e ≡ write_failed x m o → Tells e
  told-write head e None errs quotes writes found is = silent e (made-of e _ is)
  told-write head e (Some (h, Connecting)) errs quotes writes found is = silent e (made-of e _ is)
  told-write head e (Some (h, Creating rights)) errs quotes writes found is = silent e (made-of e _ is)
  told-write head e (Some (h, Live native rights)) errs quotes writes found is =
      let f = channel-on x c m.p1 h (Live native rights) found in
      alone (notice.WriteRefused h (record { number = m.p2 })) e (made-of e _ is) (refl, (errs, (head, quotes, writes)), (f.0, native, rights, f.1, f.3))
  told-write head e (Some (h, Leaving)) errs quotes writes found is = silent e (made-of e _ is)
  told-write head e (Some (h, Clearing)) errs quotes writes found is = silent e (made-of e _ is)
  told-write head e (Some (h, Doomed)) errs quotes writes found is = silent e (made-of e _ is)

  told-refused : (e : Effect) (o : Option Handle) → e ≡ subscription_failed x m o → Tells e
  told-refused e None is = silent e (made-of e _ is)
  told-refused e (Some g) is = alone (notice.SubscriptionEnded g (record { number = m.p2 })) e (made-of e _ is) tt

  told-any : (number id : ℕ) (e : Effect) (o : Option (Handle × Request)) → Is command.Error m → answered_by c number id x.requests ≡ o → e ≡ any_failed x m o → Tells e
  told-any number id e None errs found is = silent e (made-of e _ is)
  told-any number id e (Some (q, r)) errs found is = go r.stage refl is
    where
      go : (s : request.Stage) → r.stage ≡ s → e ≡ request_failed x m q s → Tells e
      go request.Open stage done =
          let f = answered-is c number id x.requests q r found in
          alone (notice.Completed q (outcome.Failed (record { number = m.p2 }))) e (made-of e _ done) (inl (refl, inr (inr errs), (r, f.0, f.2, ap is_open_in stage)))
      go request.Draining stage done = silent e (made-of e _ done)

  told-error : (e : Effect) → Is command.Error m → Fails x c m e → Tells e
  told-error e errs fails = elim fails [
    | inr not_whole ↦ silent e (made-of e _ not_whole.1)
    | inl whole ↦ by whole.0 whole.1 (eqb whole.0.command 4) (eqb whole.0.command 1) refl whole.2
  ]
    where
      by : (h : Header) → QuotesHeader m h → (a b : Bool) → eqb h.command 4 ≡ a
          → e ≡ cond a (write_failed x m (channel_on x c m.p1)) (cond b (subscription_failed x m (subscription_on x c h.p2)) (any_failed x m (answered_by c h.command h.p2 x.requests))) → Tells e
      by h quotes true b writes is = told-write h e (channel_on x c m.p1) errs quotes (eqb-true h.command 4 writes) refl is
      by h quotes false true writes is = told-refused e (subscription_on x c h.p2) is
      by h quotes false false writes is = told-any h.command h.p2 e (answered_by c h.command h.p2 x.requests) errs refl is

  pub tells-asked : (e : Effect) → Hears x c m e → Tells e
  tells-asked e (hears.Search is d there finds) = silent e (silent-finds x (found_at d.address m) (searched_by m.p2 x) e finds)
  tells-asked e (hears.AccessRights is does) = told-rights e (channel_on x c m.p1) does
  tells-asked e (hears.CreateChannel is does) = told-created e (channel_on x c m.p1) does
  tells-asked e (hears.CreateChannelFail is does) = told-failed e (channel_on x c m.p1) does
  tells-asked e (hears.ClearChannel is does) = told-answered e (channel_on x c m.p2) does
  tells-asked e (hears.ServerDisconnect is does) = told-left e (channel_on x c m.p1) is refl does
  tells-asked e (hears.Reply is does) = told-reply e m.command (answered_by c m.command m.p2 x.requests) is refl does
  tells-asked e (hears.Confirmation is empty does) = told-confirmed e (confirmed_by c m.p2 x.subscriptions) does
  tells-asked e (hears.Update is some does) = told-update e (subscription_on x c m.p2) does
  tells-asked e (hears.Error is does) = told-error e is does
  tells-asked e (hears.Other is does) = silent e (made-of e _ does)
