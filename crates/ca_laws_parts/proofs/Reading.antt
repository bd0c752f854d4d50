-- What a message that a client reads leaves of what is known of it and one
-- circuit, whoever sent it.
use Rattle.std.proofs.Common.{◌≡◌, ℕ, ◌≤◌, ◌⊎◌, inl, inr, Bool, true, false, cond, eqb, ◌&&◌, List, [], ◌∷◌, length, Option, Some, None, refl, sym, ap, ◌∙◌, subst, arith}
use Rattle.std.specs.Prelude.{option_and_then, option_map}
use Rattle.std.specs.List.{list_any}
use Rattle.std.proofs.lemmas.Bool.{and_from, both_ways}
use Rattle.ca_text.specs.Command.{command_number}
use Rattle.ca_text.specs.declared.command.Command.{Command}
use Rattle.ca_text.specs.declared.command.Command.TheVariants as command
use Rattle.ca_text.specs.Place.{At}
use Rattle.ca_text.proofs.Places.{At-map, At-within}
use Rattle.ca_arena.specs.declared.handle.Handle.{Handle}
use Rattle.ca_ids.specs.Table.{Table, held, same_handle, under, with_changed, with_freed}
use Rattle.ca_ids.specs.Wire.{wire_of}
use Rattle.ca_monitor.specs.Subscriptions.{Subscription, confirmed_by, drains_in, is_to, standing_to, stands_in}
use Rattle.ca_requests.specs.Requests.{Asked, Request, answered_by, asks_on}
use Rattle.ca_requests.specs.Requests as request
use Rattle.ca_wire.specs.declared.header.Header.{Header}
use Rattle.ca_wire.specs.Fields.{Fields}
use Rattle.ca_model.specs.Answers.{Sending}
use Rattle.ca_model.specs.Client.{Channel, Clearing, Client, Connecting, Creating, Doomed, Leaving, Live, Native, On, Phase, Standing, channel_on, is_live, phase_on, searched_again, sending, with_requests, with_standing, without_channel}
use Rattle.ca_model.specs.ClientCalls.{clear_sent, event_add_sent}
use Rattle.ca_model.specs.Hears.{Answers, Completes, Effect, Fails, Hears, Updates, any_failed, becomes, clear_answered, confirmed, created, event_adds, failed, subscription_on, left, native_in, request_failed, rights_told, subscription_failed, understood, without_drained, without_request, without_subscription, write_failed}
use Rattle.ca_model.specs.Hears as hears
use Rattle.ca_model.specs.Sends.{Conduct, HasChannel, IsDisconnect, IsFree}
use Rattle.ca_model.specs.Speech.{Creates, Gives, Id, Is}
use Rattle.ca_model.proofs.Changes.{on-handle, on-phase}
use Rattle.ca_model.proofs.Handles.{same-itself}
use Rattle.ca_model.proofs.Hearing.{keeps-heard}
use Rattle.ca_model.proofs.Placed.{Keeps, keeps-sending, placed-linked}
use Rattle.ca_model.proofs.Standings.{channel-on}
use Rattle.ca_model.proofs.Tables.{all-back, all-freed-back, changed-back, changed-few, freed-back, one-by-wire, one-value, under-held, under-wire}
use Rattle.ca_laws_parts.specs.Held.{AreFew}
use Rattle.ca_laws_parts.proofs.Marks.{filter-at}
use Rattle.ca_laws_parts.specs.ClientRows.{sent_on}
use Rattle.ca_laws_parts.specs.Conduct.{with_all_sent}
use Rattle.ca_laws_parts.proofs.CallsAsking.{few-thins}
use Rattle.ca_laws_parts.proofs.Finding.{sound-finds}
use Rattle.ca_laws_parts.proofs.Backs.{AsksAs, Backs, BacksOn, SubscribesAs, Was, asks-as-same, asks-back, asks-back-freed, back-freed, back-same, back-searched, back-stood, backs-same, cancels-as-same, cancels-there, sent-tables, subscribes-as-same, subscribes-on}
use Rattle.ca_laws_parts.proofs.Given.{Given, only-one}
use Rattle.ca_laws_parts.proofs.Giving.{add-row, given-heard, none-clear}
use Rattle.ca_laws_parts.proofs.Growing.{HasNow}
use Rattle.ca_laws_parts.proofs.Rests.{OverAt, RestsBut, but-then, is_over, rests-heard, rests-same}
use Rattle.ca_laws_parts.proofs.Sound.{Base, GoesOn, HeldAs, HeldThen, IsConnectedAt, Overs, Sound, Stands, Turn, adds-held, is_kept, turned}
use Rattle.ca_laws_parts.proofs.Turns.{ArePlain, Known, keeps-but, live-linked, none-plain, overs-back, turn-plain, turn-sending}

-- the channel of a CID that is on a circuit is found there
pub found-by : (x : Client) (c h : Handle) (ch : Channel) (p : Phase) → length x.channels ≤ 65536 → under x.channels h ≡ Some ch → ch.standing ≡ On c p
    → channel_on x c (wire_of h) ≡ Some (h, p)
found-by x c h ch p few there stands =
    ap (λ (o : Option (Handle × Channel)). option_and_then (λ (e : Handle × Channel). option_map {U = Handle × Phase} (λ (q : Phase). (e.0, q)) (phase_on c e.1.standing)) o) (under-wire x.channels h ch few there)
    ∙ ap (λ (s : Standing). option_map {U = Handle × Phase} (λ (q : Phase). (h, q)) (phase_on c s)) stands
    ∙ ap (λ (b : Bool). option_map {U = Handle × Phase} (λ (q : Phase). (h, q)) (cond b (Some p) None)) (same-itself c)

-- nothing is known of a channel in such a phase
not-kept : (e : Conduct) (p : Phase) → is_kept p ≡ false → (k : Handle) → Stands e (wire_of k) p
not-kept e (Creating rights) none k = absurd (both_ways true none refl)
not-kept e Doomed none k = absurd (both_ways true none refl)
not-kept e (Live n rights) none k = absurd (both_ways true none refl)
not-kept e Connecting none k = tt
not-kept e Leaving none k = tt
not-kept e Clearing none k = tt

-- what was found is live
abbrev pub finds-live : Option (Handle × Phase) → Bool
finds-live None = false
finds-live (Some (h, p)) = is_live p

not-found-live : (o : Option (Handle × Phase)) → finds-live o ≡ false → (h : Handle) (n : Native) (rights : ℕ) → o ≡ Some (h, Live n rights) → ⊥
not-found-live o none h n rights is = both_ways (finds-live o) none (ap finds-live is)

-- Message m was read on circuit c. What is known since of the client before, on the
-- circuit of handle on.
pub record Heard (on : Handle) (x : Client) (c : Handle) (m : Fields) (e : Conduct) : Type 0 where
  pub base : Base on x e
  -- of its channels all, but of those for which this was a SERVER_DISCONN
  pub known : (h : Handle) (ch : Channel) (p : Phase) → under x.channels h ≡ Some ch → ch.standing ≡ On on p
      → (is_live p ≡ true → c ≡ on → IsDisconnect (wire_of h) m → ⊥) → Stands e (wire_of h) p
  pub live : (h : Handle) (ch : Channel) (n : Native) (rights : ℕ) → under x.channels h ≡ Some ch → ch.standing ≡ On on (Live n rights)
      → (i j : ℕ) × HasChannel e (length e.sent) i j (wire_of h) n.sid
  -- and one of which this is the reply to its CREATE_CHAN has that SID
  pub created : c ≡ on → (h : Handle) (ch : Channel) (p : Phase) (sid : ℕ) → under x.channels h ≡ Some ch → ch.standing ≡ On on p
      → (p ≡ Doomed) ⊎ ((rights : ℕ) × (p ≡ Creating rights)) → Creates m sid → m.p1 ≡ wire_of h → (i j : ℕ) × HasNow e i j (wire_of h) sid
  pub read : c ≡ on → (j : ℕ) × At e.came j m × At e.read j (length e.sent)

module _ (on : Handle) (x : Client) (c : Handle) (m : Fields) (e : Conduct) (heard : Heard on x c m e) (f : Effect) (hears_it : Hears x c m f) where
  -- what is known after it
  abbrev pub Then : Type 0
  Then = Sound on f.core (with_all_sent (sent_on on f.sent) e)

  keeps : Keeps x f.core
  keeps = keeps-heard x c m f heard.base.placed hears_it

  few : AreFew f.core
  few = few-thins x f.core keeps.thins heard.base.few

  rests : RestsBut on c m x f.core
  rests = rests-heard on x c m f heard.base.placed.attached hears_it

  given : Given on x f.core f.sent
  given = given-heard on x c m f heard.base.few hears_it

  stays : Overs on f.sent x f.core → AsksAs x.requests f.core.requests → SubscribesAs x.subscriptions f.core.subscriptions → (l : ℕ) (s : Fields) (id : Id) → At e.sent l s → Gives s id
      → HeldAs on x e l s id → HeldThen on f.sent f.core e l s id ⊎ IsFree e l (length e.sent)
  stays overs asks subs l s id at gives held =
      keeps-but on x f.core e f.sent overs c m rests asks (subscribes-on x.subscriptions f.core.subscriptions subs) heard.read heard.base.stopped l s id at (At-within e.sent l s at) gives held

  opens : IsConnectedAt f.core on → IsConnectedAt x on ⊎ (e.sent ≡ [])
  opens connected = inl (sym (keeps.links on) ∙ connected)

  -- ---- nothing is sent

  quiet : Known on x e → (v : Effect) → f ≡ v → v.sent ≡ [] → Backs on x v.core → Then
  quiet known v is empty backs =
      let b : Backs on x f.core = subst (λ (w : Effect). Backs on x w.core) (sym is) backs in
      let none : f.sent ≡ [] = ap (λ (w : Effect). w.sent) is ∙ empty in
      turned on x f.core e f.sent heard.base
      (turn-plain on x f.core e f.sent heard.base known few (keeps.placed heard.base.placed) b opens (stays (overs-back on x f.core f.sent b.channels) b.requests b.subscriptions) (subst (λ (l : List Sending). ArePlain l) (sym none) none-plain)) given

  nothing : Known on x e → (v : Effect) → f ≡ v → v.sent ≡ [] → v.core ≡ x → Then
  nothing known v is empty same = quiet known v is empty (subst (λ (w : Client). Backs on x w) (sym same) (backs-same on x x refl refl refl))

  -- this was no SERVER_DISCONN
  known-else : (n : ℕ) → m.command ≡ n → (n ≡ 27 → ⊥) → Known on x e
  known-else n is differ h ch p there stands = heard.known h ch p there stands (λ live here lost. differ (sym is ∙ lost.0))

  -- ---- channels

  backs-channels : (t : Table Channel) → BacksOn on x.channels t → (z : Client) → z.channels ≡ t → z.requests ≡ x.requests → z.subscriptions ≡ x.subscriptions → Backs on x z
  backs-channels t back z channels requests subscriptions = record {
    channels = subst (λ (u : Table Channel). BacksOn on x.channels u) (sym channels) back;
    requests = asks-as-same x.requests z.requests requests;
    subscriptions = subscribes-as-same x.subscriptions z.subscriptions subscriptions;
    cancelled = cancels-as-same x.subscriptions z.subscriptions subscriptions;
  }

  -- a channel goes from one phase to another, of which as much is known
  back-moved : (h : Handle) (ch : Channel) (p q : Phase) → under x.channels h ≡ Some ch → ch.standing ≡ On c p → ((ch.standing ≡ On on p) → Was on x.channels h q)
      → BacksOn on x.channels (with_changed (λ (k : Channel). record k { standing = On c q }) h x.channels)
  back-moved h ch p q there stands was =
      back-stood on x.channels (On c q) h (λ r is.
      subst (λ (k : Phase). Was on x.channels h k) (on-phase c on q r is) (was (stands ∙ ap (λ (k : Handle). On k p) (on-handle c on q r is))))

  read-rights : Known on x e → (o : Option (Handle × Phase)) → channel_on x c m.p1 ≡ o → f ≡ rights_told x c m o → Then
  read-rights known None at is = nothing known (becomes x) is refl refl
  read-rights known (Some (h, Connecting)) at is = nothing known (becomes x) is refl refl
  read-rights known (Some (h, Leaving)) at is = nothing known (becomes x) is refl refl
  read-rights known (Some (h, Clearing)) at is = nothing known (becomes x) is refl refl
  read-rights known (Some (h, Doomed)) at is = nothing known (becomes x) is refl refl
  read-rights known (Some (h, Creating rights)) at is =
      let k = channel-on x c m.p1 h (Creating rights) at in
      let z : Client = with_standing (On c (Creating m.p2)) h x in
      quiet known (becomes z) is refl
      (backs-channels z.channels (back-moved h k.0 (Creating rights) (Creating m.p2) k.1 k.3 (λ here. (k.0, rights, k.1, here))) z refl refl refl)
  read-rights known (Some (h, Live n rights)) at is =
      let k = channel-on x c m.p1 h (Live n rights) at in
      let z : Client = with_standing (On c (Live n m.p2)) h x in
      quiet known (becomes z) is refl
      (backs-channels z.channels (back-moved h k.0 (Live n rights) (Live n m.p2) k.1 k.3 (λ here. (k.0, rights, k.1, here))) z refl refl refl)

  read-failed : Known on x e → (o : Option (Handle × Phase)) → f ≡ failed x o → Then
  read-failed known None is = nothing known (becomes x) is refl refl
  read-failed known (Some (h, Connecting)) is = nothing known (becomes x) is refl refl
  read-failed known (Some (h, Live n rights)) is = nothing known (becomes x) is refl refl
  read-failed known (Some (h, Leaving)) is = nothing known (becomes x) is refl refl
  read-failed known (Some (h, Clearing)) is = nothing known (becomes x) is refl refl
  read-failed known (Some (h, Creating rights)) is =
      quiet known (becomes (searched_again x h)) is refl (backs-channels (searched_again x h).channels (back-searched on x.channels h) (searched_again x h) refl refl refl)
  read-failed known (Some (h, Doomed)) is =
      quiet known (becomes (without_channel x h)) is refl (backs-channels (without_channel x h).channels (back-freed on x.channels h) (without_channel x h) refl refl refl)

  -- the ids of a channel no longer drain, and it is elsewhere
  backs-drained : (h : Handle) (z : Client) → BacksOn on x.channels z.channels → z.requests ≡ (without_drained c h x).requests → z.subscriptions ≡ (without_drained c h x).subscriptions
      → Backs on x z
  backs-drained h z back requests subscriptions = record {
    channels = back;
    requests =
        asks-back x.requests z.requests
        (λ q v is. (v, (all-freed-back (asks_on h) x.requests q v (subst (λ (t : Table Request). under t q ≡ Some v) requests is)).0, refl));
    subscriptions = λ g v is. (v, was g v is, refl, λ s. s);
    cancelled = cancels-there x.subscriptions z.subscriptions was;
  }
    where
      was : (g : Handle) (v : Subscription) → under z.subscriptions g ≡ Some v → under x.subscriptions g ≡ Some v
      was g v is = (all-freed-back (λ (s : Subscription). is_to h s && drains_in c s.stage) x.subscriptions g v (subst (λ (t : Table Subscription). under t g ≡ Some v) subscriptions is)).0

  read-answered : Known on x e → (o : Option (Handle × Phase)) → f ≡ clear_answered x c o → Then
  read-answered known None is = nothing known (becomes x) is refl refl
  read-answered known (Some (h, Connecting)) is = nothing known (becomes x) is refl refl
  read-answered known (Some (h, Creating rights)) is = nothing known (becomes x) is refl refl
  read-answered known (Some (h, Live n rights)) is = nothing known (becomes x) is refl refl
  read-answered known (Some (h, Doomed)) is = nothing known (becomes x) is refl refl
  read-answered known (Some (h, Clearing)) is =
      let z : Client = without_channel (without_drained c h x) h in quiet known (becomes z) is refl (backs-drained h z (back-freed on x.channels h) refl refl)
  read-answered known (Some (h, Leaving)) is =
      let z : Client = searched_again (without_drained c h x) h in quiet known (becomes z) is refl (backs-drained h z (back-searched on x.channels h) refl refl)

  -- ---- requests and subscriptions

  backs-request : (q : Handle) → Backs on x (without_request q x)
  backs-request q = record {
    channels = back-same on x.channels x.channels refl;
    requests = asks-back x.requests (with_freed q x.requests) (asks-back-freed q x.requests);
    subscriptions = subscribes-as-same x.subscriptions x.subscriptions refl;
    cancelled = cancels-as-same x.subscriptions x.subscriptions refl;
  }

  backs-subscription : (g : Handle) → Backs on x (without_subscription g x)
  backs-subscription g = record {
    channels = back-same on x.channels x.channels refl;
    requests = asks-as-same x.requests x.requests refl;
    subscriptions = λ k v is. (v, (freed-back x.subscriptions k g v is).1, refl, λ s. s);
    cancelled = cancels-there x.subscriptions (with_freed g x.subscriptions) (λ k v is. (freed-back x.subscriptions k g v is).1);
  }

  read-completes : Known on x e → (q : Handle) (a : Asked) (s : request.Stage) → Completes x m q a s f → Then
  read-completes known q a request.Open does = quiet known _ does.2 refl (backs-request q)
  read-completes known q a request.Draining does = quiet known _ does refl (backs-request q)

  read-reply : Known on x e → (o : Option (Handle × Request)) → Answers x m o f → Then
  read-reply known None does = nothing known (becomes x) does refl refl
  read-reply known (Some (q, r)) does = read-completes known q r.asked r.stage does

  read-confirmed : Known on x e → (o : Option Handle) → f ≡ confirmed x o → Then
  read-confirmed known None does = nothing known (becomes x) does refl refl
  read-confirmed known (Some g) does = quiet known _ does refl (backs-subscription g)

  read-update : Known on x e → (o : Option Handle) → Updates x m o f → Then
  read-update known None does = nothing known (becomes x) does refl refl
  read-update known (Some g) does = nothing known _ does.2 refl refl

  read-write : Known on x e → (o : Option (Handle × Phase)) → f ≡ write_failed x m o → Then
  read-write known None is = nothing known (becomes x) is refl refl
  read-write known (Some (h, Connecting)) is = nothing known (becomes x) is refl refl
  read-write known (Some (h, Creating rights)) is = nothing known (becomes x) is refl refl
  read-write known (Some (h, Live n rights)) is = nothing known _ is refl refl
  read-write known (Some (h, Leaving)) is = nothing known (becomes x) is refl refl
  read-write known (Some (h, Clearing)) is = nothing known (becomes x) is refl refl
  read-write known (Some (h, Doomed)) is = nothing known (becomes x) is refl refl

  read-refused : Known on x e → (o : Option Handle) → f ≡ subscription_failed x m o → Then
  read-refused known None is = nothing known (becomes x) is refl refl
  read-refused known (Some g) is = quiet known _ is refl (backs-subscription g)

  read-request : Known on x e → (q : Handle) (s : request.Stage) → f ≡ request_failed x m q s → Then
  read-request known q request.Open is = quiet known _ is refl (backs-request q)
  read-request known q request.Draining is = nothing known (becomes x) is refl refl

  read-any : Known on x e → (o : Option (Handle × Request)) → f ≡ any_failed x m o → Then
  read-any known None is = nothing known (becomes x) is refl refl
  read-any known (Some (q, r)) is = read-request known q r.stage is

  read-failing : Known on x e → (h : Header) (a b : Bool)
      → f ≡ cond a (write_failed x m (channel_on x c m.p1)) (cond b (subscription_failed x m (subscription_on x c h.p2)) (any_failed x m (answered_by c h.command h.p2 x.requests))) → Then
  read-failing known h true b is = read-write known (channel_on x c m.p1) is
  read-failing known h false true is = read-refused known (subscription_on x c h.p2) is
  read-failing known h false false is = read-any known (answered_by c h.command h.p2 x.requests) is

  read-error : Known on x e → Fails x c m f → Then
  read-error known fails = elim fails [
    | inr not_whole ↦ nothing known (becomes x) not_whole.1 refl refl
    | inl whole ↦ read-failing known whole.0 (eqb whole.0.command 4) (eqb whole.0.command 1) whole.2
  ]

  -- ---- a CLEAR_CHANNEL goes out for a channel that is live no more

  clear-only : (sid : ℕ) (h : Handle) (n : ℕ) → ((clear_sent c sid h).message).command ≡ n → (n ≡ 12 → ⊥) → ⊥
  clear-only sid h n is differ = differ (sym is)

  -- the channel, which was on circuit c, is in this phase there now, in which
  -- nothing is known of it
  cleared-turn : (z : Client) (sid : ℕ) (h : Handle) (ch : Channel) (q : Phase) → under x.channels h ≡ Some ch → is_kept q ≡ false
      → z.channels ≡ with_changed (λ (k : Channel). record k { standing = On c q }) h x.channels → AsksAs x.requests z.requests → z.subscriptions ≡ x.subscriptions
      → f.core ≡ sending (clear_sent c sid h ∷ []) z → f.sent ≡ clear_sent c sid h ∷ []
      → ((k : Handle) (w : Channel) (p : Phase) → under x.channels k ≡ Some w → w.standing ≡ On on p → (k ≡ h → ⊥) → Stands e (wire_of k) p)
      → (c ≡ on → (i j : ℕ) × HasChannel e (length e.sent) i j (wire_of h) sid) → Then
  cleared-turn z sid h ch q there none channels asks subs core sent known has =
      subst (λ (v : Client × List Sending). Sound on v.0 (with_all_sent (sent_on on v.1) e)) (λ i. (sym core i, sym sent i))
      (turned on x y e (s ∷ []) heard.base turn (subst (λ (v : Client × List Sending). Given on x v.0 v.1) (λ i. (core i, sent i)) given))
    where
      s : Sending
      s = clear_sent c sid h

      y : Client
      y = sending (s ∷ []) z

      row : (k : Handle) (w : Channel) → under y.channels k ≡ Some w
          → ((k ≡ h) × (w.standing ≡ On c q)) ⊎ ((k ≡ h → ⊥) × (under x.channels k ≡ Some w))
      row k w is = elim (changed-back (λ (z : Channel). record z { standing = On c q }) x.channels k h w (subst (λ (t : Table Channel). under t k ≡ Some w) channels is)) [
        | inl own ↦ inl (own.0, ap (λ (z : Channel). z.standing) own.1.2)
        | inr old ↦ inr old
      ]

      same-keeps : Keeps x y
      same-keeps = subst (λ (v : Client). Keeps x v) core keeps

      goes-it : c ≡ on → GoesOn on y e s.message
      goes-it here =
          let r = has here in (
            r.0,
            r.1,
            wire_of h,
            r.2,
            inl (refl, refl),
            λ k v is which same. absurd (elim which [
              | inl reads ↦ clear-only sid h 15 reads (λ n. omega (arith, n))
              | inr puts ↦ clear-only sid h 19 puts (λ n. omega (arith, n))
            ]),
            λ k v is which same. absurd (clear-only sid h 1 which (λ n. omega (arith, n))),
          )

      overs-it : Overs on (s ∷ []) x y
      overs-it k o = elim (row k o.0 o.2) [
        | inl own ↦ inr (0, s, refl, on-handle c on q o.1 (sym own.1 ∙ o.3), refl, ap (λ (z : Handle). wire_of z) (sym own.0))
        | inr old ↦ inl (o.0, o.1, old.1, o.3, o.4)
      ]

      turn : Turn on x y e (s ∷ [])
      turn = record {
        few = few-thins x y same-keeps.thins heard.base.few;
        placed = same-keeps.placed heard.base.placed;
        stands = λ k w p is stands. inl (elim (row k w is) [
          | inl own ↦ not-kept e p (ap is_kept (sym (on-phase c on q p (sym own.1 ∙ stands))) ∙ none) k
          | inr old ↦ known k w p old.1 stands old.0
        ]);
        cleared = λ i r k w p at here clears is stands same. elim (row k w is) [
          | inl own ↦ ap is_kept (sym (on-phase c on q p (sym own.1 ∙ stands))) ∙ none
          | inr old ↦
              absurd (old.0 (one-by-wire x.channels k h w ch heard.base.few.channels old.1 there (sym same ∙ ap (λ (z : Sending). (z.message).p2) (only-one s r i at).1)))
        ];
        adds = λ g d w n rights is stands on_it live_it.
            let was : under x.subscriptions g ≡ Some d = subst (λ (t : Table Subscription). under t g ≡ Some d) subs is in
            inl (elim (row d.channel w on_it) [
              | inl own ↦ absurd (both_ways (is_kept q) none (ap is_kept (on-phase c on q (Live n rights) (sym own.1 ∙ live_it))))
              | inr old ↦ adds-held on x e heard.base g d w n rights was stands old.1 live_it
            ]);
        cancelled = λ i r g d at here is row stands same. clear-only sid h 2 (subst (λ (z : Sending). Is command.EventCancel z.message) (only-one s r i at).1 is) (λ n. omega (arith, n));
        stops = λ g d is stops. inl (d, subst (λ (t : Table Subscription). under t g ≡ Some d) subs is, stops);
        alone = λ i j r v at_r at_v ends. (only-one s r i at_r).0 ∙ sym (only-one s v j at_v).0;
        goes = λ i r at here is. (let one = (only-one s r i at).1 in subst (λ (z : Sending). GoesOn on y e z.message) (sym one) (goes-it (ap (λ (z : Sending). z.circuit) (sym one) ∙ here)));
        overs = overs-it;
        cancels = λ i r at here is. absurd (clear-only sid h 2 (subst (λ (z : Sending). Is command.EventCancel z.message) (only-one s r i at).1 is) (λ n. omega (arith, n)));
        opens = λ connected. inl (sym (same-keeps.links on) ∙ connected);
        linked = λ i r id at here gives. absurd (none-clear c sid h i r id at gives);
        keeps = λ l w id at gives held.
            keeps-but on x y e (s ∷ []) overs-it c m (subst (λ (v : Client). RestsBut on c m x v) core rests) asks
            (subscribes-on x.subscriptions y.subscriptions (subscribes-as-same x.subscriptions y.subscriptions subs)) heard.read heard.base.stopped l w id at (At-within e.sent l w at) gives held;
      }

  -- a channel that its caller cleared while it was being created
  read-doomed : (h : Handle) → Known on x e → Is command.CreateChannel m → channel_on x c m.p1 ≡ Some (h, Doomed) → f ≡ created x c m (Some (h, Doomed)) → Then
  read-doomed h known creates at is =
      let k = channel-on x c m.p1 h Doomed at in
      let z : Client = with_standing (On c Clearing) h x in
      cleared-turn z m.p2 h k.0 Clearing k.1 refl refl (asks-as-same x.requests x.requests refl) refl (ap (λ (v : Effect). v.core) is) (ap (λ (v : Effect). v.sent) is)
      (λ g w p there stands other. known g w p there stands)
      (λ here.
      let r = heard.created here h k.0 Doomed m.p2 k.1 (k.3 ∙ ap (λ (o : Handle). On o Doomed) here) (inl refl) (creates, refl) (sym k.2) in
      (r.0, r.1, r.2.0))

  -- ---- SERVER_DISCONN

  known-not-live : (o : Option (Handle × Phase)) → channel_on x c m.p1 ≡ o → ((h : Handle) (n : Native) (rights : ℕ) → o ≡ Some (h, Live n rights) → ⊥) → Known on x e
  known-not-live o at none h ch (Live n rights) there stands =
      heard.known h ch (Live n rights) there stands
      (λ live here lost.
      none h n rights (sym at ∙ ap (λ (k : ℕ). channel_on x c k) lost.1 ∙ found-by x c h ch (Live n rights) heard.base.few.channels there (stands ∙ ap (λ (o : Handle). On o (Live n rights)) (sym here))))
  known-not-live o at none h ch (Creating rights) there stands = heard.known h ch (Creating rights) there stands (λ live here lost. both_ways false refl live)
  known-not-live o at none h ch Doomed there stands = heard.known h ch Doomed there stands (λ live here lost. both_ways false refl live)
  known-not-live o at none h ch Connecting there stands = tt
  known-not-live o at none h ch Leaving there stands = tt
  known-not-live o at none h ch Clearing there stands = tt

  read-left : (o : Option (Handle × Phase)) → channel_on x c m.p1 ≡ o → f ≡ left x c o → Then
  read-left None at is = nothing (known-not-live None at (not-found-live None refl)) (becomes x) is refl refl
  read-left (Some (h, Connecting)) at is = nothing (known-not-live (Some (h, Connecting)) at (not-found-live (Some (h, Connecting)) refl)) (becomes x) is refl refl
  read-left (Some (h, Creating rights)) at is = nothing (known-not-live (Some (h, Creating rights)) at (not-found-live (Some (h, Creating rights)) refl)) (becomes x) is refl refl
  read-left (Some (h, Leaving)) at is = nothing (known-not-live (Some (h, Leaving)) at (not-found-live (Some (h, Leaving)) refl)) (becomes x) is refl refl
  read-left (Some (h, Clearing)) at is = nothing (known-not-live (Some (h, Clearing)) at (not-found-live (Some (h, Clearing)) refl)) (becomes x) is refl refl
  read-left (Some (h, Doomed)) at is = nothing (known-not-live (Some (h, Doomed)) at (not-found-live (Some (h, Doomed)) refl)) (becomes x) is refl refl
  read-left (Some (h, Live n rights)) at is =
      let k = channel-on x c m.p1 h (Live n rights) at in
      let z : Client = with_standing (On c Leaving) h (with_requests (request.channel_over h x.requests) x) in
      cleared-turn z n.sid h k.0 Leaving k.1 refl refl
      (asks-back x.requests (request.channel_over h x.requests) (λ q v row.
      (let b = all-back (request.over_on h) x.requests q v row in (b.0, b.1, ap (λ (w : Request). w.channel) b.2 ∙ over-channel h b.0 (asks_on h b.0)))))
      refl (ap (λ (v : Effect). v.core) is) (ap (λ (v : Effect). v.sent) is)
      (λ g w p there stands other.
      heard.known g w p there stands
      (λ live here lost. other (one-by-wire x.channels g h w k.0 heard.base.few.channels there k.1 (sym lost.1 ∙ sym k.2))))
      (λ here. heard.live h k.0 n rights k.1 (k.3 ∙ ap (λ (o : Handle). On o (Live n rights)) here))
    where
      over-channel : (h : Handle) (u : Request) (b : Bool) → (cond b (record u { stage = request.Draining }) u).channel ≡ u.channel
      over-channel h u true = refl
      over-channel h u false = refl

  -- ---- CREATE_CHAN

  module _ (known : Known on x e) (h : Handle) (ch : Channel) (rights : ℕ) (creates : Is command.CreateChannel m) (there : under x.channels h ≡ Some ch) (wire : wire_of h ≡ m.p1) (stands : ch.standing ≡ On c (Creating rights)) where
    abbrev lives : Channel → Channel
    lives k = record k { standing = On c (Live (native_in m) rights) }

    abbrev z-live : Client
    z-live = with_standing (On c (Live (native_in m) rights)) h x

    abbrev adds : List Sending
    adds = event_adds c m.p2 h x

    abbrev y-live : Client
    y-live = sending adds z-live

    new-row : (i : ℕ) (s : Sending) → At adds i s
        → (v : Handle × Subscription) × At (standing_to h x.subscriptions) i v × (s ≡ event_add_sent c m.p2 v.0 v.1) × (under x.subscriptions v.0 ≡ Some v.1) × (v.1.channel ≡ h) × (stands_in v.1.stage ≡ true)
    new-row i s at = add-row on x f heard.base.few c m h rights ch there stands i s at

    add-only : (i : ℕ) (s : Sending) (n : ℕ) → At adds i s → (s.message).command ≡ n → (n ≡ 1 → ⊥) → ⊥
    add-only i s n at is differ = differ (sym is ∙ ap (λ (v : Sending). (v.message).command) (new-row i s at).2)

    row-live : (k : Handle) (w : Channel) → under z-live.channels k ≡ Some w
        → ((k ≡ h) × (w.standing ≡ On c (Live (native_in m) rights))) ⊎ ((k ≡ h → ⊥) × (under x.channels k ≡ Some w))
    row-live k w is = elim (changed-back lives x.channels k h w is) [
      | inl own ↦ inl (own.0, ap (λ (v : Channel). v.standing) own.1.2)
      | inr old ↦ inr old
    ]

    has-new : c ≡ on → (i j : ℕ) × HasNow e i j (wire_of h) m.p2
    has-new here = heard.created here h ch (Creating rights) m.p2 there (stands ∙ ap (λ (o : Handle). On o (Creating rights)) here) (inr (rights, refl)) (creates, refl) (sym wire)

    on-native : (d : Handle) (n k : Native) (r t : ℕ) → On d (Live n r) ≡ On on (Live k t) → n ≡ k
    on-native d n k r t is = cc

    -- a channel that is over was so
    over-old : (k : Handle) → OverAt on z-live.channels k → (k ≡ h → ⊥) × OverAt on x.channels k
    over-old k o = elim (row-live k o.0 o.2) [
      | inr old ↦ (old.0, (o.0, o.1, old.1, o.3, o.4))
      | inl own ↦ absurd (both_ways false refl (ap is_over (on-phase c on (Live (native_in m) rights) o.1 (sym own.1 ∙ o.3)) ∙ o.4))
    ]

    overs-live : Overs on adds x z-live
    overs-live k o = inl (over-old k o).1

    goes-add : (i : ℕ) (s : Sending) → At adds i s → s.circuit ≡ on → GoesOn on z-live e s.message
    goes-add i s at here =
        let r = new-row i s at in
        let c_on : c ≡ on = ap (λ (v : Sending). v.circuit) (sym r.2) ∙ here in
        let has = has-new c_on in (
          has.0,
          has.1,
          wire_of h,
          subst (λ (v : Sending). HasChannel e (length e.sent) has.0 has.1 (wire_of h) (v.message).p1) (sym r.2) has.2.0,
          inr (λ is. add-only i s 12 at is (λ n. omega (arith, n)), has.2.1),
          λ q v row which same. absurd (elim which [
            | inl reads ↦ add-only i s 15 at reads (λ n. omega (arith, n))
            | inr puts ↦ add-only i s 19 at puts (λ n. omega (arith, n))
          ]),
          λ g d row which same.
              (let one : g ≡ r.0.0 = one-by-wire x.subscriptions g r.0.0 d r.0.1 heard.base.few.subscriptions row r.3 (sym same ∙ ap (λ (v : Sending). (v.message).p2) r.2) in
              let also : d ≡ r.0.1 = one-value x.subscriptions r.0.0 d r.0.1 (subst (λ (k : Handle). under x.subscriptions k ≡ Some d) one row) r.3 in
              (ap (λ (v : Subscription). wire_of v.channel) also ∙ ap (λ (k : Handle). wire_of k) r.4, λ o. (over-old d.channel o).0 (ap (λ (v : Subscription). v.channel) also ∙ r.4))),
        )

    keeps-live : f ≡ created x c m (Some (h, Creating rights)) → Keeps x y-live
    keeps-live is = subst (λ (v : Effect). Keeps x v.core) is keeps

    -- a subscription that is on the channel has its EVENT_ADD among them
    added-there : (g : Handle) (d : Subscription) → under x.subscriptions g ≡ Some d → stands_in d.stage ≡ true → d.channel ≡ h
        → (i : ℕ) × At adds i (event_add_sent c m.p2 g d)
    added-there g d row it to =
        let r = under-held x.subscriptions g d row in
        let p : Handle × Subscription → Bool = λ (v : Handle × Subscription). is_to h v.1 && stands_in v.1.stage in
        let a = filter-at p (held x.subscriptions) r.0 (g, d) r.1 (and_from (is_to h d) (stands_in d.stage) (subst (λ (k : Handle). same_handle k h ≡ true) (sym to) (same-itself h)) it) in
        (a.0, At-map (λ (v : Handle × Subscription). event_add_sent c m.p2 v.0 v.1) (standing_to h x.subscriptions) a.0 (g, d) a.1)

    turn-live-now : f ≡ created x c m (Some (h, Creating rights)) → Turn on x z-live e adds
    turn-live-now is =
        let k : Keeps x y-live = keeps-live is in
        record {
          few = record { channels = few-as (k.thins.channels).few heard.base.few.channels; requests = heard.base.few.requests; subscriptions = heard.base.few.subscriptions };
          placed = placed-linked y-live z-live (sym t.0) (sym t.1) (sym t.2) (λ o. sym ((keeps-sending adds z-live).links o)) (k.placed heard.base.placed);
          stands = λ g w p row it. elim (row-live g w row) [
            | inr old ↦ inl (known g w p old.1 it)
            | inl own ↦
                let c_on : c ≡ on = on-handle c on (Live (native_in m) rights) p (sym own.1 ∙ it) in
                inl (subst (λ (v : Handle × Phase). Stands e (wire_of v.0) v.1) (λ i. (sym own.0 i, on-phase c on (Live (native_in m) rights) p (sym own.1 ∙ it) i)) (has-new c_on))
          ];
          cleared = λ i s g w p at here clears row it same. absurd (add-only i s 12 at clears (λ n. omega (arith, n)));
          adds = λ g d w n r row it on_it live_it. elim (row-live d.channel w on_it) [
            | inr old ↦ inl (adds-held on x e heard.base g d w n r row it old.1 live_it)
            | inl own ↦
                let a = added-there g d row it own.0 in
                let c_on : c ≡ on = on-handle c on (Live (native_in m) rights) (Live n r) (sym own.1 ∙ live_it) in
                inr (a.0, event_add_sent c m.p2 g d, a.1, c_on, refl, ap (λ (v : Native). v.sid) (on-native c (native_in m) n rights r (sym own.1 ∙ live_it)), refl)
          ];
          cancelled = λ i s g d at here stops row it same. add-only i s 2 at stops (λ n. omega (arith, n));
          stops = λ g d row stops. inl (d, row, stops);
          alone = λ i j s r at_s at_r ends. absurd (elim ends [
            | inl clears ↦ add-only i s 12 at_s clears (λ n. omega (arith, n))
            | inr stops ↦ add-only i s 2 at_s stops (λ n. omega (arith, n))
          ]);
          goes = λ i s at here which. goes-add i s at here;
          overs = overs-live;
          cancels = λ i s at here stops. absurd (add-only i s 2 at stops (λ n. omega (arith, n)));
          opens = λ connected. inl (sym (k.links on) ∙ ((keeps-sending adds z-live).links on) ∙ connected);
          linked = λ i s id at here gives.
              (let c_on : c ≡ on = ap (λ (v : Sending). v.circuit) (sym (new-row i s at).2) ∙ here in
              inl (live-linked on x h ch (Creating rights) heard.base.placed there (stands ∙ ap (λ (o : Handle). On o (Creating rights)) c_on) refl));
          keeps = λ l s id at gives held_it.
              keeps-but on x z-live e adds overs-live c m (back-rests (subst (λ (v : Effect). RestsBut on c m x v.core) is rests)) (asks-as-same x.requests x.requests refl)
              (subscribes-on x.subscriptions x.subscriptions (subscribes-as-same x.subscriptions x.subscriptions refl)) heard.read heard.base.stopped l s id at (At-within e.sent l s at) gives held_it;
        }
      where
        t : ((y-live).channels ≡ z-live.channels) × ((y-live).requests ≡ z-live.requests) × ((y-live).subscriptions ≡ z-live.subscriptions)
        t = sent-tables adds z-live

        few-as : {a b : ℕ} → b ≡ a → a ≤ 65536 → length z-live.channels ≤ 65536
        few-as same le = (let l : length z-live.channels ≡ length x.channels = changed-few lives x.channels h in let fine : length x.channels ≤ 65536 = heard.base.few.channels in omega (arith, l, fine))

        back-rests : RestsBut on c m x y-live → RestsBut on c m x z-live
        back-rests r = but-then on c m x y-live z-live r (rests-same on y-live z-live (sym t.0) (sym t.1) (sym t.2))

    read-live : f ≡ created x c m (Some (h, Creating rights)) → Then
    read-live is =
        subst (λ (v : Effect). Sound on v.core (with_all_sent (sent_on on v.sent) e)) (sym is)
        (turned on x y-live e adds heard.base (turn-sending on x z-live e adds (keeps-sending adds z-live).links (turn-live-now is)) (subst (λ (v : Effect). Given on x v.core v.sent) is given))

  read-created : Is command.CreateChannel m → Known on x e → (o : Option (Handle × Phase)) → channel_on x c m.p1 ≡ o → f ≡ created x c m o → Then
  read-created creates known None at is = nothing known (becomes x) is refl refl
  read-created creates known (Some (h, Connecting)) at is = nothing known (becomes x) is refl refl
  read-created creates known (Some (h, Live n rights)) at is = nothing known (becomes x) is refl refl
  read-created creates known (Some (h, Leaving)) at is = nothing known (becomes x) is refl refl
  read-created creates known (Some (h, Clearing)) at is = nothing known (becomes x) is refl refl
  read-created creates known (Some (h, Doomed)) at is = read-doomed h known creates at is
  read-created creates known (Some (h, Creating rights)) at is =
      let k = channel-on x c m.p1 h (Creating rights) at in read-live known h k.0 rights creates k.1 k.2 k.3 is

  -- ---- all messages

  read-any-message : Hears x c m f → Then
  read-any-message (hears.Search is d row finds) =
      let known : Known on x e = known-else 6 is (λ n. omega (arith, n)) in
      sound-finds on x e (record { base = heard.base; channels = known }) (hears.found_at d.address m) m.p2 f finds
  read-any-message (hears.AccessRights is does) = read-rights (known-else 22 is (λ n. omega (arith, n))) (channel_on x c m.p1) refl does
  read-any-message (hears.CreateChannel is does) = read-created is (known-else 18 is (λ n. omega (arith, n))) (channel_on x c m.p1) refl does
  read-any-message (hears.CreateChannelFail is does) = read-failed (known-else 26 is (λ n. omega (arith, n))) (channel_on x c m.p1) does
  read-any-message (hears.ClearChannel is does) = read-answered (known-else 12 is (λ n. omega (arith, n))) (channel_on x c m.p2) does
  read-any-message (hears.ServerDisconnect is does) = read-left (channel_on x c m.p1) refl does
  read-any-message (hears.Reply is does) = elim is [
    | inl reads ↦ read-reply (known-else 15 reads (λ n. omega (arith, n))) (answered_by c m.command m.p2 x.requests) does
    | inr puts ↦ read-reply (known-else 19 puts (λ n. omega (arith, n))) (answered_by c m.command m.p2 x.requests) does
  ]
  read-any-message (hears.Confirmation is empty does) = read-confirmed (known-else 1 is (λ n. omega (arith, n))) (confirmed_by c m.p2 x.subscriptions) does
  read-any-message (hears.Update is some does) = read-update (known-else 1 is (λ n. omega (arith, n))) (subscription_on x c m.p2) does
  read-any-message (hears.Error is does) = read-error (known-else 11 is (λ n. omega (arith, n))) does
  read-any-message (hears.Other is does) =
      nothing (λ h ch p there stands. heard.known h ch p there stands (λ live here lost. both_ways (understands m.command) is (ap understands lost.0))) (becomes x) does refl refl
    where
      understands : ℕ → Bool
      understands n = list_any (λ (k : Command). eqb n (command_number k)) understood

  pub sound-heard : Then
  sound-heard = read-any-message hears_it
