-- Over each call of a client its channels keep their names, and what was cleared was cleared before,
-- or by the call; each CREATE_CHAN that it sends has the name of its channel, and each CLEAR_CHANNEL
-- is of a channel that was cleared, or for which the call says why.
use Rattle.std.proofs.Common.{◌≡◌, ◌⊎◌, ℕ, zero, suc, inl, inr, Bool, true, false, cond, eqb, List, [], ◌∷◌, ◌++◌, Option, Some, None, refl, sym, ap, ◌∙◌, subst}
use Rattle.std.specs.Prelude.{Ok, filter, fold, is_some, length, map, not, option_map, option_to_list, unwrap_or}
use Rattle.ca_text.specs.declared.command.Command.{Command}
use Rattle.ca_text.specs.declared.command.Command.TheVariants as command
use Rattle.std.proofs.lemmas.Bool.{both_ways}
use Rattle.ca_text.specs.Place.{At}
use Rattle.ca_text.proofs.Places.{At-mapped, At-parts, some_is}
use Rattle.ca_arena.specs.declared.handle.Handle.{Handle}
use Rattle.ca_dbr.specs.Elements.{Elements}
use Rattle.ca_ids.specs.Table.{Table, held, under, with_changed, with_held}
use Rattle.ca_ids.specs.Wire.{wire_of}
use Rattle.ca_link.specs.declared.keep.Keep.{Keep}
use Rattle.ca_link.specs.declared.keep.Keep.TheVariants.{Close, Echo, Idle}
use Rattle.ca_link.specs.Link.{kept, with_handed}
use Rattle.ca_search.specs.Searches as search
use Rattle.ca_monitor.specs.ReadRun.{sent_by_read}
use Rattle.ca_monitor.specs.Subscriptions.{Subscription, confirmed_by, standing_to}
use Rattle.ca_requests.specs.Requests.{Request, answered_by}
use Rattle.ca_requests.specs.Requests as request
use Rattle.ca_wire.specs.Fields.{Fields}
use Rattle.ca_wire.specs.Messages.{header_only, create_request, name_request, search_request, version_request}
use Rattle.ca_wire.specs.declared.header.Header.{Header}
use Rattle.ca_model.specs.Answers.{Aim, Closing, Notice, Sending}
use Rattle.ca_model.specs.Answers as aim
use Rattle.ca_model.specs.Ends.{Address}
use Rattle.ca_model.specs.Speech.{Is}
use Rattle.ca_model.specs.Client.{Channel, Client, ClientCircuit, Clearing, Connecting, Connection, Creating, Doomed, Leaving, Live, On, Phase, Searching, Standing, channel_on, channels_ended, channels_on, circuit_to, connection_at, ended, found_on, is_cleared, is_on_in, later, let_go, on_connection, searched_again, sending, standing_at, with_one_sent, with_requests, with_standing, without_channel, without_circuit, without_ids}
use Rattle.ca_model.specs.Client as client
use Rattle.ca_model.specs.ClientCalls.{ClientClears, ClientPuts, ClientReads, ClientSubscribes, ClientUnsubscribes, ClientWrites, Shape, all_over, cancel_sent, clear_sent, cleared, clearing_sent, event_add_sent, event_cancel_sent, is_over, issued, new_subscription, put_sent, read_sent, write_sent, unsubscribed, unsubscribed_all, unwanted}
use Rattle.ca_model.specs.ClientEnds.{ConnectsOn, GivesOn, Receives, ReceivesAll, Ticking, all_searched_on, beacon_heard, begun, circuits_ticked, creating, creations, due, falls_silent, flow_sent, given, handed_over, is_connecting, is_name_connected, of_circuit, searches_made, searches_on, set_up, ticks, ticks_as, with_sending}
use Rattle.ca_model.specs.ClientEnds as ends
use Rattle.ca_model.specs.Hears.{Answers, Completes, Effect, Fails, FindsAt, Hears, PutsOn, Updates, any_failed, clear_answered, confirmed, create_sent, created, doing, event_adds, failed, found_at, subscription_on, left, native_in, put_on, request_failed, rights_told, searched_by, subscription_failed, with_circuit, without_drained, without_request, without_subscription, write_failed}
use Rattle.ca_model.specs.Hears as hears
use Rattle.ca_model.proofs.Standings.{at-filter-map, channel-on, searched-is}
use Rattle.ca_model.proofs.Tables.{all-back, changed-back, freed-back, held-under, one-value}
use Rattle.ca_laws_runs.proofs.OnceLess.{is_gone}

-- Each channel that is there was there, under its name; if it is cleared it was, or it is one of
-- these.
abbrev pub NamesStay : (gone : Handle → Type 0) → Client → Client → Type 0
NamesStay gone x y = (h : Handle) (ch : Channel) → under y.channels h ≡ Some ch → (w : Channel) × (under x.channels h ≡ Some w) × (ch.name ≡ w.name) × (is_gone ch.standing ≡ true → (is_gone w.standing ≡ true) ⊎ gone h)

-- The channel of this handle was cleared by its caller.
abbrev pub WasCleared : Client → Handle → Type 0
WasCleared x h = (w : Channel) × (under x.channels h ≡ Some w) × (is_gone w.standing ≡ true)

-- Each CREATE_CHAN among these has the name of its channel; and each CLEAR_CHANNEL is of a channel
-- that was cleared, or of one of these.
abbrev pub AreNamed : (may : Handle → Type 0) → Client → List Sending → Type 0
AreNamed may x sent = (i : ℕ) (s : Sending) (h : Handle) → At sent i s
    → (s.aim ≡ aim.Create h → (w : Channel) × (under x.channels h ≡ Some w) × (s.message ≡ create_request (wire_of h) w.name))
    × (s.aim ≡ aim.Clear h → (s.message.p2 ≡ wire_of h) × (WasCleared x h ⊎ may h))

-- From the one client to the other so it is, and these were sent.
pub record Titled (gone may : Handle → Type 0) (x : Client) (sent : List Sending) (y : Client) : Type 0 where
  pub stay : NamesStay gone x y
  pub named : AreNamed may x sent

-- no channel
abbrev pub nobody : Handle → Type 0
nobody h = ⊥

pub no-one : (h : Handle) → nobody h → nobody h
no-one h none = none

-- it creates a channel, or clears one
abbrev is_named : Aim → Bool
is_named (aim.Create h) = true
is_named (aim.Clear h) = true
is_named aim.OfCircuit = false
is_named (aim.Write h) = false
is_named (aim.Read h q) = false
is_named (aim.Put h q) = false
is_named (aim.Subscribe h g) = false
is_named (aim.Cancel h g) = false

-- Which channels the call clears, and of which it may send the CLEAR_CHANNEL.
module _ (gone may : Handle → Type 0) (so : (h : Handle) → gone h → may h) where
  -- ---- names

  stay-same : (x y : Client) → y.channels ≡ x.channels → NamesStay gone x y
  stay-same x y same h ch is = (ch, subst (λ (t : Table Channel). under t h ≡ Some ch) same is, refl, λ g. inl g)

  stay-then : (x y z : Client) → NamesStay gone x y → NamesStay gone y z → NamesStay gone x z
  stay-then x y z a b h ch is =
      let v = b h ch is in
      let w = a h v.0 v.1 in (
        w.0,
        w.1,
        v.2 ∙ w.2,
        λ g. elim (v.3 g) [
          | inl was ↦ w.3 was
          | inr now ↦ inr now
        ],
      )

  stay-itself : (x : Client) → NamesStay gone x x
  stay-itself x = stay-same x x refl

  stay-set : (s : Standing) (h : Handle) (x y : Client) → y.channels ≡ x.channels → (is_gone s ≡ true → (w : Channel) → under x.channels h ≡ Some w → (is_gone w.standing ≡ true) ⊎ gone h) → NamesStay gone x (with_standing s h y)
  stay-set s h x y same like g ch is = elim (changed-back (λ (c : Channel). record c { standing = s }) x.channels g h ch (subst (λ (t : Table Channel). under (with_changed (λ (c : Channel). record c { standing = s }) h t) g ≡ Some ch) same is)) [
    | inl own ↦ (
      own.1.0,
      subst (λ (k : Handle). under x.channels k ≡ Some own.1.0) (sym own.0) own.1.1,
      ap (λ (c : Channel). c.name) own.1.2,
      λ cleared. subst (λ (k : Handle). (is_gone own.1.0.standing ≡ true) ⊎ gone k) (sym own.0)
          (like (ap (λ (c : Channel). is_gone c.standing) (sym own.1.2) ∙ cleared) own.1.0 own.1.1),
    )
    | inr old ↦ (ch, old.1, refl, λ cleared. inl cleared)
  ]

  -- it is not cleared
  stay-stood : (s : Standing) (h : Handle) (x y : Client) → y.channels ≡ x.channels → is_gone s ≡ false → NamesStay gone x (with_standing s h y)
  stay-stood s h x y same held = stay-set s h x y same (λ cleared w there. absurd (both_ways (is_gone s) held cleared))

  stay-gone : (h : Handle) (x y : Client) → y.channels ≡ x.channels → NamesStay gone x (without_channel y h)
  stay-gone h x y same g ch is = (ch, subst (λ (t : Table Channel). under t g ≡ Some ch) same (freed-back y.channels g h ch is).1, refl, λ cleared. inl cleared)

  stay-fold : (f : Client → Handle → Client) → ((y : Client) (h : Handle) → NamesStay gone y (f y h)) → (hs : List Handle) (y : Client) → NamesStay gone y (fold f y hs)
  stay-fold f one [] y = stay-itself y
  stay-fold f one (h ∷ hs) y = stay-then y (f y h) (fold f y (h ∷ hs)) (one y h) (stay-fold f one hs (f y h))

  stay-sending : (sends : List Sending) (x : Client) → NamesStay gone x (sending sends x)
  stay-sending [] x = stay-itself x
  stay-sending (s ∷ sends) x = stay-then x (with_one_sent x s) (sending sends (with_one_sent x s)) (stay-same x (with_one_sent x s) refl) (stay-sending sends (with_one_sent x s))

  stay-let-go : (c : Handle) (d : ClientCircuit) (x : Client) → NamesStay gone x (let_go c d x)
  stay-let-go c d x = go d.is_name
    where
      go : (b : Bool) → NamesStay gone x (cond b (client.disconnected c x) (without_circuit c x))
      go true = stay-same x (client.disconnected c x) refl
      go false = stay-same x (without_circuit c x) refl

  stay-or-go : (c : Handle) (x y : Client) (o : Option ClientCircuit) → NamesStay gone x y → NamesStay gone x (unwrap_or (option_map (λ (d : ClientCircuit). let_go c d y) o) y)
  stay-or-go c x y (Some d) stay = stay-then x y (let_go c d y) stay (stay-let-go c d y)
  stay-or-go c x y None stay = stay

  stay-channels-ended : (c : Handle) (x : Client) → NamesStay gone x (channels_ended c x)
  stay-channels-ended c x =
      let mid : Client = fold without_channel x (channels_on is_cleared c x) in
      stay-then x mid (channels_ended c x) (stay-fold without_channel (λ y h. stay-gone h y y refl) (channels_on is_cleared c x) x)
      (stay-fold searched_again (λ y h. stay-stood Searching h y y refl refl) (channels_on (λ (p : Phase). not (is_cleared p)) c x) mid)

  pub stay-ended : (c : Handle) (x : Client) → NamesStay gone x (ended c x)
  stay-ended c x = go (under x.circuits c)
    where
      z : Client
      z = channels_ended c (without_ids c x)

      all : NamesStay gone x z
      all = stay-then x (without_ids c x) z (stay-same x (without_ids c x) refl) (stay-channels-ended c (without_ids c x))

      go : (o : Option ClientCircuit) → NamesStay gone x (unwrap_or (option_map (λ (d : ClientCircuit). let_go c d z) o) x)
      go (Some d) = stay-then x z (let_go c d z) all (stay-let-go c d z)
      go None = stay-itself x

  -- ---- messages

  none-named : (x : Client) → AreNamed may x []
  none-named x i s h at = absurd cc

  -- one that neither creates nor clears
  one-named : (x : Client) (s : Sending) → is_named s.aim ≡ false → AreNamed may x (s ∷ [])
  one-named x s other zero r h at =
      let aims : s.aim ≡ r.aim = ap (λ (z : Sending). z.aim) (some_is s r at) in
      (λ is. absurd (both_ways (is_named s.aim) other (ap is_named (aims ∙ is))), λ is. absurd (both_ways (is_named s.aim) other (ap is_named (aims ∙ is))))
  one-named x s other (suc i) r h at = absurd cc

  map-named : {A : Type 0} (x : Client) (f : A → Sending) (xs : List A) → ((a : A) → is_named (f a).aim ≡ false) → AreNamed may x (map f xs)
  map-named x f xs other i s h at =
      let m = At-mapped f xs i s at in
      let aims : (f m.0).aim ≡ s.aim = ap (λ (z : Sending). z.aim) (sym m.2) in
      (λ is. absurd (both_ways (is_named (f m.0).aim) (other m.0) (ap is_named (aims ∙ is))), λ is. absurd (both_ways (is_named (f m.0).aim) (other m.0) (ap is_named (aims ∙ is))))

  both-named : (x : Client) (ss rs : List Sending) → AreNamed may x ss → AreNamed may x rs → AreNamed may x (ss ++ rs)
  both-named x ss rs a b i s h at = elim (At-parts ss rs i s at) [
    | inl first ↦ a i s h first
    | inr later ↦ b later.0 s h later.2
  ]

  named-before : (x y : Client) (sent : List Sending) → NamesStay gone x y → AreNamed may y sent → AreNamed may x sent
  named-before x y sent stay named i s h at = (
    λ is.
        let v = (named i s h at).0 is in
        let w = stay h v.0 v.1 in
        (w.0, w.1, v.2 ∙ ap (λ (n : List ℕ). create_request (wire_of h) n) w.2),
    λ is.
        let v = (named i s h at).1 is in (
          v.0,
          elim v.1 [
            | inr now ↦ inr now
            | inl cleared ↦
                let w = stay h cleared.0 cleared.1 in
                elim (w.3 cleared.2) [
                  | inl was ↦ inl (w.0, w.1, was)
                  | inr now ↦ inr (so h now)
                ]
          ],
        ),
  )

  same-aim : (h g : Handle) → aim.Create h ≡ aim.Create g → h ≡ g
  same-aim h g e = cc

  same-clear : (h g : Handle) → aim.Clear h ≡ aim.Clear g → h ≡ g
  same-clear h g e = cc

  -- the CREATE_CHAN of a channel that is there
  create-named : (x : Client) (c h : Handle) (here : Channel) → under x.channels h ≡ Some here → AreNamed may x (create_sent c h here ∷ [])
  create-named x c h here there zero r g at =
      let r_is : create_sent c h here ≡ r = some_is (create_sent c h here) r at in (
        λ is.
            let same : h ≡ g = same-aim h g (ap (λ (z : Sending). z.aim) r_is ∙ is) in
            (here, subst (λ (k : Handle). under x.channels k ≡ Some here) same there, ap (λ (z : Sending). z.message) (sym r_is) ∙ ap (λ (k : Handle). create_request (wire_of k) here.name) same),
        λ is. absurd (let e : aim.Create h ≡ aim.Clear g = ap (λ (z : Sending). z.aim) r_is ∙ is in cc),
      )
  create-named x c h here there (suc i) r g at = absurd cc

  -- the CLEAR_CHANNEL of a channel, and why it is sent
  clear-named : (x : Client) (c : Handle) (sid : ℕ) (h : Handle) → WasCleared x h ⊎ may h → AreNamed may x (clear_sent c sid h ∷ [])
  clear-named x c sid h why zero r g at =
      let r_is : clear_sent c sid h ≡ r = some_is (clear_sent c sid h) r at in (
        λ is. absurd (let e : aim.Clear h ≡ aim.Create g = ap (λ (z : Sending). z.aim) r_is ∙ is in cc),
        λ is.
            let same : h ≡ g = same-clear h g (ap (λ (z : Sending). z.aim) r_is ∙ is) in
            (ap (λ (z : Sending). z.message.p2) (sym r_is) ∙ ap wire_of same, subst (λ (k : Handle). WasCleared x k ⊎ may k) same why),
      )
  clear-named x c sid h why (suc i) r g at = absurd cc

  pub titled-stay : (x y : Client) → NamesStay gone x y → Titled gone may x [] y
  titled-stay x y stay = record { stay = stay; named = none-named x }

  titled-before : (x y z : Client) (sent : List Sending) → NamesStay gone x y → Titled gone may y sent z → Titled gone may x sent z
  titled-before x y z sent stay m = record { stay = stay-then x y z stay m.stay; named = named-before x y sent stay m.named }

  titled-then : (x y z : Client) (ss rs : List Sending) → Titled gone may x ss y → Titled gone may y rs z → Titled gone may x (ss ++ rs) z
  titled-then x y z ss rs a b = record { stay = stay-then x y z a.stay b.stay; named = both-named x ss rs a.named (named-before x y rs a.stay b.named) }

  titled-sending : (x y : Client) (sends : List Sending) → NamesStay gone x y → AreNamed may x sends → Titled gone may x sends (sending sends y)
  titled-sending x y sends stay named = record { stay = stay-then x y (sending sends y) stay (stay-sending sends y); named = named }

  module _ (x : Client) where
    -- a message made the client this one, and sent nothing, or these
    quietly : (z : Client) (notices : List Notice) (e : Effect) → e ≡ doing [] notices z → NamesStay gone x z → Titled gone may x e.sent e.core
    quietly z notices e is stay = subst (λ (w : Effect). Titled gone may x w.sent w.core) (sym is) (titled-stay x z stay)

    sends : (sent : List Sending) (z : Client) (notices : List Notice) (e : Effect) → e ≡ doing sent notices z → NamesStay gone x z → AreNamed may x sent → Titled gone may x e.sent e.core
    sends sent z notices e is stay named = subst (λ (w : Effect). Titled gone may x w.sent w.core) (sym is) (titled-sending x z sent stay named)

    nothing : (notices : List Notice) (e : Effect) → e ≡ doing [] notices x → Titled gone may x e.sent e.core
    nothing notices e is = quietly x notices e is (stay-itself x)

    -- the tables but that of channels change
    beside : (z : Client) (notices : List Notice) (e : Effect) → e ≡ doing [] notices z → z.channels ≡ x.channels → Titled gone may x e.sent e.core
    beside z notices e is same = quietly z notices e is (stay-same x z same)

    module _ (c : Handle) where
      titled-rights : (m : Fields) (e : Effect) (o : Option (Handle × Phase)) → e ≡ rights_told x c m o → Titled gone may x e.sent e.core
      titled-rights m e None is = nothing [] e is
      titled-rights m e (Some (h, Connecting)) is = nothing [] e is
      titled-rights m e (Some (h, Leaving)) is = nothing [] e is
      titled-rights m e (Some (h, Clearing)) is = nothing [] e is
      titled-rights m e (Some (h, Doomed)) is = nothing [] e is
      titled-rights m e (Some (h, Creating rights)) is = quietly (with_standing (On c (Creating m.p2)) h x) [] e is (stay-stood (On c (Creating m.p2)) h x x refl refl)
      titled-rights m e (Some (h, Live native rights)) is = quietly (with_standing (On c (Live native m.p2)) h x) [] e is (stay-stood (On c (Live native m.p2)) h x x refl refl)

      titled-created : (m : Fields) (e : Effect) (o : Option (Handle × Phase)) → channel_on x c m.p1 ≡ o → e ≡ created x c m o → Titled gone may x e.sent e.core
      titled-created m e None at is = nothing [] e is
      titled-created m e (Some (h, Connecting)) at is = nothing [] e is
      titled-created m e (Some (h, Live native rights)) at is = nothing [] e is
      titled-created m e (Some (h, Leaving)) at is = nothing [] e is
      titled-created m e (Some (h, Clearing)) at is = nothing [] e is
      titled-created m e (Some (h, Creating rights)) at is =
          sends (event_adds c m.p2 h x) (with_standing (On c (Live (native_in m) rights)) h x) _ e is (stay-stood (On c (Live (native_in m) rights)) h x x refl refl)
          (map-named x (λ (w : Handle × Subscription). event_add_sent c m.p2 w.0 w.1) (standing_to h x.subscriptions) (λ w. refl))
      titled-created m e (Some (h, Doomed)) at is =
          let found = channel-on x c m.p1 h Doomed at in
          sends (clear_sent c m.p2 h ∷ []) (with_standing (On c Clearing) h x) [] e is
          (stay-set (On c Clearing) h x x refl (λ cleared w there. inl (ap (λ (z : Channel). is_gone z.standing) (one-value x.channels h w found.0 there found.1) ∙ ap is_gone found.3)))
          (clear-named x c m.p2 h (inl (found.0, found.1, ap is_gone found.3)))

      titled-failed : (e : Effect) (o : Option (Handle × Phase)) → e ≡ failed x o → Titled gone may x e.sent e.core
      titled-failed e None is = nothing [] e is
      titled-failed e (Some (h, Connecting)) is = nothing [] e is
      titled-failed e (Some (h, Live native rights)) is = nothing [] e is
      titled-failed e (Some (h, Leaving)) is = nothing [] e is
      titled-failed e (Some (h, Clearing)) is = nothing [] e is
      titled-failed e (Some (h, Creating rights)) is = quietly (searched_again x h) [] e is (stay-stood Searching h x x refl refl)
      titled-failed e (Some (h, Doomed)) is = quietly (without_channel x h) [] e is (stay-gone h x x refl)

      titled-answered : (e : Effect) (o : Option (Handle × Phase)) → e ≡ clear_answered x c o → Titled gone may x e.sent e.core
      titled-answered e None is = nothing [] e is
      titled-answered e (Some (h, Connecting)) is = nothing [] e is
      titled-answered e (Some (h, Creating rights)) is = nothing [] e is
      titled-answered e (Some (h, Live native rights)) is = nothing [] e is
      titled-answered e (Some (h, Doomed)) is = nothing [] e is
      titled-answered e (Some (h, Clearing)) is = quietly (without_channel (without_drained c h x) h) [] e is (stay-gone h x (without_drained c h x) refl)
      titled-answered e (Some (h, Leaving)) is = quietly (searched_again (without_drained c h x) h) [] e is (stay-stood Searching h x (without_drained c h x) refl refl)

      titled-left : (m : Fields) (e : Effect) (o : Option (Handle × Phase)) → ((h : Handle) (p : Phase) → o ≡ Some (h, p) → may h) → e ≡ left x c o → Titled gone may x e.sent e.core
      titled-left m e None leaves is = nothing [] e is
      titled-left m e (Some (h, Connecting)) leaves is = nothing [] e is
      titled-left m e (Some (h, Creating rights)) leaves is = nothing [] e is
      titled-left m e (Some (h, Leaving)) leaves is = nothing [] e is
      titled-left m e (Some (h, Clearing)) leaves is = nothing [] e is
      titled-left m e (Some (h, Doomed)) leaves is = nothing [] e is
      titled-left m e (Some (h, Live native rights)) leaves is =
          let y : Client = with_requests (request.channel_over h x.requests) x in
          sends (clear_sent c native.sid h ∷ []) (with_standing (On c Leaving) h y) _ e is (stay-stood (On c Leaving) h x y refl refl) (clear-named x c native.sid h (inr (leaves h (Live native rights) refl)))

      titled-reply : (m : Fields) (e : Effect) (o : Option (Handle × Request)) → Answers x m o e → Titled gone may x e.sent e.core
      titled-reply m e None is = nothing [] e is
      titled-reply m e (Some (q, r)) is = go r.stage is
        where
          go : (s : request.Stage) → Completes x m q r.asked s e → Titled gone may x e.sent e.core
          go request.Open did = beside (without_request q x) _ e did.2 refl
          go request.Draining did = beside (without_request q x) [] e did refl

      titled-confirmed : (e : Effect) (o : Option Handle) → e ≡ confirmed x o → Titled gone may x e.sent e.core
      titled-confirmed e None is = nothing [] e is
      titled-confirmed e (Some q) is = beside (without_subscription q x) [] e is refl

      titled-update : (m : Fields) (e : Effect) (o : Option Handle) → Updates x m o e → Titled gone may x e.sent e.core
      titled-update m e None is = nothing [] e is
      titled-update m e (Some q) is = nothing _ e is.2

      titled-write : (m : Fields) (e : Effect) (o : Option (Handle × Phase)) → e ≡ write_failed x m o → Titled gone may x e.sent e.core
      titled-write m e None is = nothing [] e is
      titled-write m e (Some (h, Connecting)) is = nothing [] e is
      titled-write m e (Some (h, Creating rights)) is = nothing [] e is
      titled-write m e (Some (h, Live native rights)) is = nothing _ e is
      titled-write m e (Some (h, Leaving)) is = nothing [] e is
      titled-write m e (Some (h, Clearing)) is = nothing [] e is
      titled-write m e (Some (h, Doomed)) is = nothing [] e is

      titled-refused : (m : Fields) (e : Effect) (o : Option Handle) → e ≡ subscription_failed x m o → Titled gone may x e.sent e.core
      titled-refused m e None is = nothing [] e is
      titled-refused m e (Some q) is = beside (without_subscription q x) _ e is refl

      titled-any : (m : Fields) (e : Effect) (o : Option (Handle × Request)) → e ≡ any_failed x m o → Titled gone may x e.sent e.core
      titled-any m e None is = nothing [] e is
      titled-any m e (Some (q, r)) is = go r.stage is
        where
          go : (s : request.Stage) → e ≡ request_failed x m q s → Titled gone may x e.sent e.core
          go request.Open did = beside (without_request q x) _ e did refl
          go request.Draining did = nothing [] e did

      titled-error : (m : Fields) (e : Effect) → Fails x c m e → Titled gone may x e.sent e.core
      titled-error m e fails = elim fails [
        | inr not_whole ↦ nothing [] e not_whole.1
        | inl whole ↦ by whole.0 (eqb whole.0.command 4) (eqb whole.0.command 1) whole.2
      ]
        where
          by : (h : Header) (a b : Bool) → e ≡ cond a (write_failed x m (channel_on x c m.p1)) (cond b (subscription_failed x m (subscription_on x c h.p2)) (any_failed x m (answered_by c h.command h.p2 x.requests))) → Titled gone may x e.sent e.core
          by h true b is = titled-write m e (channel_on x c m.p1) is
          by h false true is = titled-refused m e (subscription_on x c h.p2) is
          by h false false is = titled-any m e (answered_by c h.command h.p2 x.requests) is

    titled-put-on : (c : Handle) (o : Option Connection) (h : Handle) (here : Channel) (e : Effect) → under x.channels h ≡ Some here → e ≡ put_on c o h here x → Titled gone may x e.sent e.core
    titled-put-on c None h here e there is = quietly (found_on c Connecting h x) [] e is (stay-stood (On c Connecting) h x x refl refl)
    titled-put-on c (Some d) h here e there is = sends (create_sent c h here ∷ []) (found_on c (Creating 0) h x) [] e is (stay-stood (On c (Creating 0)) h x x refl refl) (create-named x c h here there)

  titled-puts-on : (x : Client) (address : Address) (h : Handle) (here : Channel) (o : Option (Handle × ClientCircuit)) (e : Effect) → under x.channels h ≡ Some here → PutsOn x address h here o e → Titled gone may x e.sent e.core
  titled-puts-on x address h here (Some (c, d)) e there is = titled-put-on x c d.connection h here e there is
  titled-puts-on x address h here None e there is = elim is [
    | inr full ↦ nothing x [] e full.1
    | inl new ↦
        let y : Client = with_circuit new.0 (client.new_circuit address here.priority false) x in
        titled-before x y e.core e.sent (stay-same x y refl) (titled-put-on y new.0 None h here e there new.2)
  ]

  titled-finds : (x : Client) (address : Address) (cid : ℕ) (o : Option (Handle × Channel)) (e : Effect) → searched_by cid x ≡ o → FindsAt x address o e → Titled gone may x e.sent e.core
  titled-finds x address cid None e at is = nothing x [] e is
  titled-finds x address cid (Some (h, here)) e at is = (let found = searched-is cid x h here at in titled-puts-on x address h here (circuit_to address here.priority x) e found.0 is)

  -- A SERVER_DISCONN is one for which a CLEAR_CHANNEL may be sent.
  abbrev pub MayLeave : Client → Handle → Fields → Type 0
  MayLeave x c m = Is command.ServerDisconnect m → (h : Handle) (p : Phase) → channel_on x c m.p1 ≡ Some (h, p) → may h

  pub titled-heard : (x : Client) (c : Handle) (m : Fields) (e : Effect) → MayLeave x c m → Hears x c m e → Titled gone may x e.sent e.core
  titled-heard x c m e leaves (hears.Search is d there finds) = titled-finds x (found_at d.address m) m.p2 (searched_by m.p2 x) e refl finds
  titled-heard x c m e leaves (hears.AccessRights is does) = titled-rights x c m e (channel_on x c m.p1) does
  titled-heard x c m e leaves (hears.CreateChannel is does) = titled-created x c m e (channel_on x c m.p1) refl does
  titled-heard x c m e leaves (hears.CreateChannelFail is does) = titled-failed x c e (channel_on x c m.p1) does
  titled-heard x c m e leaves (hears.ClearChannel is does) = titled-answered x c e (channel_on x c m.p2) does
  titled-heard x c m e leaves (hears.ServerDisconnect is does) = titled-left x c m e (channel_on x c m.p1) (leaves is) does
  titled-heard x c m e leaves (hears.Reply is does) = titled-reply x c m e (answered_by c m.command m.p2 x.requests) does
  titled-heard x c m e leaves (hears.Confirmation is empty does) = titled-confirmed x c e (confirmed_by c m.p2 x.subscriptions) does
  titled-heard x c m e leaves (hears.Update is some does) = titled-update x c m e (subscription_on x c m.p2) does
  titled-heard x c m e leaves (hears.Error is does) = titled-error x c m e does
  titled-heard x c m e leaves (hears.Other is does) = nothing x [] e does

  -- a message that is taken, and then heard
  pub titled-taken : (x y core : Client) (c : Handle) (m : Fields) (sent : List Sending) (told : List Notice) → y.channels ≡ x.channels → MayLeave y c m → Hears y c m (record { core = core; sent = sent; notices = told }) → Titled gone may x sent core
  titled-taken x y core c m sent told same leaves heard = titled-before x y core sent (stay-same x y same) (titled-heard y c m (record { core = core; sent = sent; notices = told }) leaves heard)

  titled-received : (x : Client) (from : Address) (m : Fields) (e : Effect) → Receives from x m e → Titled gone may x e.sent e.core
  titled-received x from m e (ends.Search is finds) = titled-finds x (found_at from m) m.p2 (searched_by m.p2 x) e refl finds
  titled-received x from m e (ends.Beacon is port does) = beside x (beacon_heard from m x) [] e does refl
  titled-received x from m e (ends.Other not_search not_beacon does) = nothing x [] e does

  titled-all-received : (from : Address) (ms : List Fields) (x : Client) (e : Effect) → ReceivesAll from x ms e → Titled gone may x e.sent e.core
  titled-all-received from [] x e does = nothing x [] e does
  titled-all-received from (m ∷ ms) x e does =
      subst (λ (w : Effect). Titled gone may x w.sent w.core) (sym does.4)
      (titled-then x does.0.core does.1.core does.0.sent does.1.sent (titled-received x from m does.0 does.2) (titled-all-received from ms does.0.core does.1 does.3))

  pub titled-datagram : (x y core : Client) (from : Address) (ms : List Fields) (sent : List Sending) → y.channels ≡ x.channels → ReceivesAll from y ms (record { core = core; sent = sent; notices = [] }) → Titled gone may x sent core
  titled-datagram x y core from ms sent same all = titled-before x y core sent (stay-same x y same) (titled-all-received from ms y (record { core = core; sent = sent; notices = [] }) all)

  -- ---- a moment

  abbrev Ticked : Client → Ticking → Type 0
  Ticked x t = Titled gone may x t.sent t.core

  ticked-stay : (x : Client) (t u : Ticking) → NamesStay gone t.core u.core → u.sent ≡ t.sent → Ticked x t → Ticked x u
  ticked-stay x t u stay same m = subst (λ (l : List Sending). Titled gone may x l u.core) (sym same) (record { stay = stay-then x t.core u.core m.stay stay; named = m.named })

  ticked-sending : (x : Client) (t : Ticking) (c : Handle) (m : Fields) → Ticked x t → Ticked x (with_sending (of_circuit c m) t)
  ticked-sending x t c m did =
      titled-then x t.core (sending (of_circuit c m ∷ []) t.core) t.sent (of_circuit c m ∷ []) did
      (titled-sending t.core t.core (of_circuit c m ∷ []) (stay-itself t.core) (one-named t.core (of_circuit c m) refl))

  ticks-one : (x : Client) (t : Ticking) (c : Handle) → Ticked x t → Ticked x (ticks t c)
  ticks-one x t c m = go (connection_at t.core c)
    where
      by : (k : Keep) → Ticked x (ticks_as k c t)
      by Idle = m
      by Close = ticked-stay x t (falls_silent c t) (stay-ended c t.core) refl m
      by Echo =
          let noted : Client = on_connection (λ (e : Connection). record e { link = record e.link { echoed = true } }) c t.core in
          let u : Ticking = record t { core = noted } in
          ticked-sending x u c (header_only command.Echo) (ticked-stay x t u (stay-same t.core noted refl) refl m)

      go : (o : Option Connection) → Ticked x (unwrap_or (option_map (λ (e : Connection). ticks_as (kept t.core.moment e.link) c t) o) t)
      go None = m
      go (Some e) = by (kept t.core.moment e.link)

  ticks-all : (x : Client) (order : List Handle) (t : Ticking) → Ticked x t → Ticked x (fold ticks t order)
  ticks-all x [] t m = m
  ticks-all x (c ∷ order) t m = ticks-all x order (ticks t c) (ticks-one x t c m)

  searched-one : (x : Client) (c : Handle) (t : Ticking) (w : search.Wanted) → Ticked x t → Ticked x (searches_on c t w)
  searched-one x c t w m = go (is_over t.core c)
    where
      go : (b : Bool) → Ticked x (cond b t (with_sending (of_circuit c (search_request w.cid w.name)) t))
      go true = m
      go false = ticked-sending x t c (search_request w.cid w.name) m

  searched-each : (x : Client) (c : Handle) (ws : List search.Wanted) (t : Ticking) → Ticked x t → Ticked x (fold (searches_on c) t ws)
  searched-each x c [] t m = m
  searched-each x c (w ∷ ws) t m = searched-each x c ws (searches_on c t w) (searched-one x c t w m)

  searched-all : (x : Client) (ws : List search.Wanted) (cs : List Handle) (t : Ticking) → Ticked x t → Ticked x (fold (all_searched_on ws) t cs)
  searched-all x ws [] t m = m
  searched-all x ws (c ∷ cs) t m = searched-all x ws cs (all_searched_on ws t c) (searched-each x c ws t m)

  pub titled-ticked : (moment : ℕ) (x : Client) → (let t : Ticking = circuits_ticked moment x in Titled gone may x (searches_made t).sent (searches_made t).core)
  titled-ticked moment x =
      let y : Client = record x { moment = later moment x } in
      let first : Ticking = record { core = y; sent = []; notices = []; closings = [] } in
      let t : Ticking = circuits_ticked moment x in
      let u : Ticking = fold (all_searched_on (due t.core)) t (filter (is_name_connected t.core) t.core.order) in
      ticked-stay x u (searches_made t) (stay-same u.core (searches_made t).core refl) refl
      (searched-all x (due t.core) (filter (is_name_connected t.core) t.core.order) t (ticks-all x x.order first (titled-stay x y (stay-same x y refl))))

  -- ---- bytes, and circuits that are connected

  pub titled-given : (x : Client) (c : Handle) (bytes : List ℕ) (more : Bool) (o : Option Connection) (sent : List Sending) (y : Client) → GivesOn x c bytes more o (Ok tt) sent y → Titled gone may x sent y
  titled-given x c bytes more (Some e) sent y gives =
      let z : Client = given c bytes more x in
      subst (λ (v : List Sending × Client). Titled gone may x v.0 v.1) (λ i. (sym gives.0 i, sym gives.1 i))
      (titled-sending x z (flow_sent c more e) (stay-same x z refl) (map-named x (λ (k : Command). of_circuit c (header_only k)) (option_to_list (sent_by_read more e.run)) (λ k. refl)))
  titled-given x c bytes more None sent y gives = absurd gives

  creations-named : (c : Handle) (x : Client) → AreNamed may x (creations c x)
  creations-named c x i s h at =
      let m = at-filter-map (λ (e : Handle × Channel). cond (is_on_in is_connecting c e.1) (Some (create_sent c e.0 e.1)) None) (held x.channels) i s at in
      go m.1 (is_on_in is_connecting c m.1.1) (held-under x.channels m.0 m.1 m.2) m.3
    where
      go : (e : Handle × Channel) (b : Bool) → under x.channels e.0 ≡ Some e.1 → cond b (Some (create_sent c e.0 e.1)) None ≡ Some s
          → (s.aim ≡ aim.Create h → (w : Channel) × (under x.channels h ≡ Some w) × (s.message ≡ create_request (wire_of h) w.name)) × (s.aim ≡ aim.Clear h → (s.message.p2 ≡ wire_of h) × (WasCleared x h ⊎ may h))
      go e true there f = create-named x c e.0 e.1 there 0 s h f
      go e false there f = absurd cc

  stay-begun : (c : Handle) (x : Client) → NamesStay gone x (begun c x)
  stay-begun c x h ch is = (let was = all-back (creating c) x.channels h ch is in (was.0, was.1, ap (λ (z : Channel). z.name) was.2 ∙ go was.0 (is_on_in is_connecting c was.0), λ cleared. inl (goes was.0 (is_on_in is_connecting c was.0) (ap (λ (z : Channel). is_gone z.standing) (sym was.2) ∙ cleared))))
    where
      go : (w : Channel) (b : Bool) → (cond b (record w { standing = On c (Creating 0) }) w).name ≡ w.name
      go w true = refl
      go w false = refl

      goes : (w : Channel) (b : Bool) → is_gone (cond b (record w { standing = On c (Creating 0) }) w).standing ≡ true → is_gone w.standing ≡ true
      goes w true cleared = absurd (both_ways false refl cleared)
      goes w false cleared = cleared

  pub titled-connected : (x : Client) (c : Handle) (d : ClientCircuit) (k : Option Closing) (sent : List Sending) (y : Client) → ConnectsOn x c (Some d) k sent y → Titled gone may x sent y
  titled-connected x c d None sent y does =
      subst (λ (w : List Sending × Client). Titled gone may x w.0 w.1) (λ i. (sym does.0 i, sym does.1 i))
      (titled-sending x (begun c x) (set_up x.peer c d ++ creations c x) (stay-begun c x)
      (both-named x (set_up x.peer c d) (creations c x)
      (map-named x (of_circuit c) (version_request d.priority ∷ name_request command.ClientName x.peer.user ∷ name_request command.HostName x.peer.host ∷ []) (λ m. refl)) (creations-named c x)))
  titled-connected x c d (Some k) sent y does = subst (λ (w : List Sending × Client). Titled gone may x w.0 w.1) (λ i. (sym does.1 i, sym does.2 i)) (titled-stay x (ended c x) (stay-ended c x))

  pub titled-handed : (c : Handle) (k : ℕ) (x : Client) → Titled gone may x [] (handed_over c k x)
  titled-handed c k x = titled-stay x (handed_over c k x) (go (is_some (connection_at x c)))
    where
      over : Client
      over = on_connection (λ (e : Connection). record e { link = with_handed k e.link }) c x

      go : (b : Bool) → NamesStay gone x (cond b over x)
      go true = stay-same x over refl
      go false = stay-itself x

  -- ---- calls

  -- one message that creates nothing, of a client with the same channels
  titled-call : (x z : Client) (s : Sending) (sent : List Sending) (y : Client) → z.channels ≡ x.channels → is_named s.aim ≡ false → sent ≡ s ∷ [] → y ≡ sending (s ∷ []) z → Titled gone may x sent y
  titled-call x z s sent y same other sent_is y_is =
      subst (λ (w : List Sending × Client). Titled gone may x w.0 w.1) (λ i. (sym sent_is i, sym y_is i)) (titled-sending x z (s ∷ []) (stay-same x z same) (one-named x s other))

  pub titled-read : (x : Client) (h : Handle) (a : Shape) (q : Handle) (sent : List Sending) (y : Client) → ClientReads x h a (Ok q) sent y → Titled gone may x sent y
  titled-read x h a q sent y does = titled-call x (issued h does.0 (request.Read a.data_type a.count) q x) (read_sent h does.0 a q) sent y refl refl does.4.0 does.4.1

  pub titled-put : (x : Client) (h : Handle) (e : Elements) (q : Handle) (sent : List Sending) (y : Client) → ClientPuts x h e (Ok q) sent y → Titled gone may x sent y
  titled-put x h e q sent y does = titled-call x (issued h does.0 request.Put q x) (put_sent h does.0 e q) sent y refl refl does.4.0 does.4.1

  pub titled-write-call : (x : Client) (h : Handle) (e : Elements) (sent : List Sending) (y : Client) → ClientWrites x h e (Ok tt) sent y → Titled gone may x sent y
  titled-write-call x h e sent y does = titled-call x x (write_sent h does.0 e) sent y refl refl does.3.0 does.3.1

  pub titled-subscribe : (x : Client) (h : Handle) (a : Shape) (mask : ℕ) (q : Handle) (sent : List Sending) (y : Client) → ClientSubscribes x h a mask (Ok q) sent y → Titled gone may x sent y
  titled-subscribe x h a mask q sent y does =
      titled-call x (record x { subscriptions = with_held q (new_subscription h a mask) x.subscriptions }) (event_add_sent (does.0).circuit ((does.0).native).sid q (new_subscription h a mask)) sent y refl refl does.4.0 does.4.1

  stay-unsubscribed : (g : Handle) (x : Client) (o : Option Standing) → NamesStay gone x (unsubscribed g o x)
  stay-unsubscribed g x None = stay-same x (unsubscribed g None x) refl
  stay-unsubscribed g x (Some Searching) = stay-same x (unsubscribed g (Some Searching) x) refl
  stay-unsubscribed g x (Some (On c Connecting)) = stay-same x (unsubscribed g (Some (On c Connecting)) x) refl
  stay-unsubscribed g x (Some (On c (Creating rights))) = stay-same x (unsubscribed g (Some (On c (Creating rights))) x) refl
  stay-unsubscribed g x (Some (On c Clearing)) = stay-same x (unsubscribed g (Some (On c Clearing)) x) refl
  stay-unsubscribed g x (Some (On c Doomed)) = stay-same x (unsubscribed g (Some (On c Doomed)) x) refl
  stay-unsubscribed g x (Some (On c Leaving)) = stay-same x (unsubscribed g (Some (On c Leaving)) x) refl
  stay-unsubscribed g x (Some (On c (Live native rights))) = stay-same x (unsubscribed g (Some (On c (Live native rights))) x) refl

  cancel-named : (x : Client) (g : Handle) (d : Subscription) (o : Option Standing) → AreNamed may x (cancel_sent g d o)
  cancel-named x g d None = none-named x
  cancel-named x g d (Some Searching) = none-named x
  cancel-named x g d (Some (On c Connecting)) = none-named x
  cancel-named x g d (Some (On c (Creating rights))) = none-named x
  cancel-named x g d (Some (On c Clearing)) = none-named x
  cancel-named x g d (Some (On c Doomed)) = none-named x
  cancel-named x g d (Some (On c Leaving)) = none-named x
  cancel-named x g d (Some (On c (Live native rights))) = one-named x (event_cancel_sent c native.sid g d) refl

  pub titled-unsubscribe : (x : Client) (g : Handle) (sent : List Sending) (y : Client) → ClientUnsubscribes x g (Ok tt) sent y → Titled gone may x sent y
  titled-unsubscribe x g sent y does =
      let o : Option Standing = standing_at x (does.0).channel in
      subst (λ (w : List Sending × Client). Titled gone may x w.0 w.1) (λ i. (sym does.3.0 i, sym does.3.1 i))
      (titled-sending x (unsubscribed g o x) (cancel_sent g does.0 o) (stay-unsubscribed g x o) (cancel-named x g does.0 o))

  stay-unwanted : (c : Handle) (x y : Client) → NamesStay gone x y → NamesStay gone x (unwanted c y)
  stay-unwanted c x y stay = go (eqb (length (channels_on (λ (p : Phase). true) c y)) 0)
    where
      go : (b : Bool) → NamesStay gone x (cond b (unwrap_or (option_map (λ (d : ClientCircuit). let_go c d y) (under y.circuits c)) y) y)
      go true = stay-or-go c x y (under y.circuits c) stay
      go false = stay

  stay-cleared : (x : Client) (h : Handle) (s : Standing) → gone h → NamesStay gone x (cleared h s x)
  stay-cleared x h Searching own = stay-gone h x (unsubscribed_all h x) refl
  stay-cleared x h (On c Connecting) own = stay-unwanted c x (without_channel (unsubscribed_all h x) h) (stay-gone h x (unsubscribed_all h x) refl)
  stay-cleared x h (On c (Creating rights)) own = stay-set (On c Doomed) h x (unsubscribed_all h x) refl (λ cleared w there. inr own)
  stay-cleared x h (On c (Live native rights)) own = stay-set (On c Clearing) h x (all_over c h x) refl (λ cleared w there. inr own)
  stay-cleared x h (On c Leaving) own = stay-set (On c Clearing) h x (all_over c h x) refl (λ cleared w there. inr own)
  stay-cleared x h (On c Clearing) own = stay-set (On c Clearing) h x (all_over c h x) refl (λ cleared w there. inr own)
  stay-cleared x h (On c Doomed) own = stay-set (On c Clearing) h x (all_over c h x) refl (λ cleared w there. inr own)

  clearing-named : (x : Client) (h : Handle) (s : Standing) → gone h → AreNamed may x (clearing_sent h s)
  clearing-named x h Searching own = none-named x
  clearing-named x h (On c Connecting) own = none-named x
  clearing-named x h (On c (Creating rights)) own = none-named x
  clearing-named x h (On c (Live native rights)) own = clear-named x c native.sid h (inr (so h own))
  clearing-named x h (On c Leaving) own = none-named x
  clearing-named x h (On c Clearing) own = none-named x
  clearing-named x h (On c Doomed) own = none-named x

  pub titled-clear : (x : Client) (h : Handle) (notices : List Notice) (sent : List Sending) (y : Client) → gone h → ClientClears x h (Ok notices) sent y → Titled gone may x sent y
  titled-clear x h notices sent y own does =
      subst (λ (w : List Sending × Client). Titled gone may x w.0 w.1) (λ i. (sym does.3.0 i, sym does.3.1 i))
      (titled-sending x (cleared h does.0 x) (clearing_sent h does.0) (stay-cleared x h does.0 own) (clearing-named x h does.0 own))
