-- A CLEAR_CHANNEL is sent of a channel whose caller cleared it, before or now, or as a message is
-- taken that leaves its channel: what a client sends in an event.
use Rattle.std.proofs.Common.{◌≡◌, ℕ, zero, suc, ◌+◌, ◌⊎◌, inl, inr, true, false, eqb, List, [], ◌∷◌, ◌++◌, length, Option, None, Some, refl, sym, ap, ◌∙◌, subst, arith}
use Rattle.std.specs.Prelude.{slice_set}
use Rattle.std.specs.List.{list_any}
use Rattle.ca_text.specs.Command.{command_number}
use Rattle.ca_text.specs.declared.command.Command.{Command}
use Rattle.ca_text.specs.declared.command.Command.TheVariants as command
use Rattle.ca_text.specs.Place.{At}
use Rattle.ca_text.proofs.Places.{At-mapped, At-parts, At-set, some_is}
use Rattle.ca_arena.specs.declared.handle.Handle.{Handle}
use Rattle.ca_ids.specs.Table.{same_handle}
use Rattle.ca_ids.specs.Wire.{wire_of}
use Rattle.ca_link.specs.Link.{TakesFirst}
use Rattle.ca_wire.specs.Fields.{Fields}
use Rattle.ca_model.specs.Answers.{Aim, Sending}
use Rattle.ca_model.specs.Answers as aim
use Rattle.ca_model.specs.Client.{Client, Clearing, Connecting, Connection, Creating, Doomed, Leaving, Live, Phase, channel_on, connection_at}
use Rattle.ca_model.specs.ClientCalls.{clear_sent}
use Rattle.ca_model.specs.Hears.{Effect, Hears, left}
use Rattle.ca_model.specs.Hears as hears
use Rattle.ca_model.specs.ClientEvents.{Outcomes, cancelled, channel_number, client_after, intent_of, meant_by, sent_on}
use Rattle.ca_model.specs.History.{Called, Clear, Intent, Line, Nothing, On, Sent, Step}
use Rattle.ca_model.specs.History as history
use Rattle.ca_model.specs.Sends.{IsDisconnect}
use Rattle.ca_model.specs.Speech.{In, Is}
use Rattle.ca_model.specs.World.{ClientSide, Joined, Names, World}
use Rattle.ca_laws_parts.specs.Circuit.{sent_to, stamped}
use Rattle.ca_laws_runs.specs.Quiet.{Tidy}
use Rattle.ca_laws_runs.proofs.ActsNamed.{NamesStand}
use Rattle.ca_laws_runs.proofs.ActsTitles.{AreNamed, nobody}
use Rattle.ca_laws_runs.proofs.Ends.{From}
use Rattle.ca_laws_runs.proofs.OnceWorld.{OnceStand, on-circuit-sent}
use Rattle.ca_laws_runs.proofs.Says.{meant-at}

-- The log of this life has the call that clears the channel of this number.
abbrev pub HasCleared : List (List Line) → (life a : ℕ) → Type 0
HasCleared logs life a = (log : List Line) × At logs life log × In log (Called (On a Clear) Nothing)

-- On circuit n, which is now d, a SERVER_DISCONN for this CID was taken when k messages were sent.
pub record TakesLeaving (w : World) (n : ℕ) (d : Joined) (k cid : ℕ) : Type 0 where
  pub c : Joined
  pub x : ClientSide
  pub on : At w.circuits n c
  pub at : At w.clients c.client x
  pub opened : c.lists.client_open ≡ true
  pub held : Connection
  pub connected : connection_at x.core c.at_client ≡ Some held
  pub m : Fields
  pub rest : List ℕ
  pub first : TakesFirst held.link m rest
  pub leaves : IsDisconnect cid m
  pub step : Step
  pub heard : d.lists.heard ≡ c.lists.heard ++ step ∷ []
  pub sent : step.sent ≡ k

-- Each CLEAR_CHANNEL was there; or its channel was cleared by then, or is now; or it is sent for
-- this reason.
abbrev pub ClearsBack : (Leaves : ℕ → Joined → (k cid : ℕ) → Type 0) → (w new : World) → Type 0
ClearsBack Leaves w new =
    (n : ℕ) (d : Joined) (k : ℕ) (s : Sent) (a : ℕ) → At new.circuits n d → At d.lists.up k s → s.intent ≡ On a Clear
    → ((c : Joined) × At w.circuits n c × At c.lists.up k s)
    ⊎ ((HasCleared w.client_logs d.lists.client a ⊎ HasCleared new.client_logs d.lists.client a) ⊎ Leaves n d k s.message.p2)

-- ---- a SERVER_DISCONN

-- a SERVER_DISCONN has this effect
pub left-of : (y : Client) (on : Handle) (m : Fields) (e : Effect) → m.command ≡ 27 → Hears y on m e → e ≡ left y on (channel_on y on m.p1)
left-of y on m e is h = go h
  where
    apart : (a : ℕ) → m.command ≡ a → (a ≡ 27 → ⊥) → ⊥
    apart a other differ = differ (sym other ∙ is)

    go : Hears y on m e → e ≡ left y on (channel_on y on m.p1)
    go (hears.ServerDisconnect k does) = does
    go (hears.Search k d there finds) = absurd (apart 6 k (λ e. absurd (omega (arith, e))))
    go (hears.AccessRights k does) = absurd (apart 22 k (λ e. absurd (omega (arith, e))))
    go (hears.CreateChannel k does) = absurd (apart 18 k (λ e. absurd (omega (arith, e))))
    go (hears.CreateChannelFail k does) = absurd (apart 26 k (λ e. absurd (omega (arith, e))))
    go (hears.ClearChannel k does) = absurd (apart 12 k (λ e. absurd (omega (arith, e))))
    go (hears.Reply (inl k) does) = absurd (apart 15 k (λ e. absurd (omega (arith, e))))
    go (hears.Reply (inr k) does) = absurd (apart 19 k (λ e. absurd (omega (arith, e))))
    go (hears.Confirmation k empty does) = absurd (apart 1 k (λ e. absurd (omega (arith, e))))
    go (hears.Update k some does) = absurd (apart 1 k (λ e. absurd (omega (arith, e))))
    go (hears.Error k does) = absurd (apart 11 k (λ e. absurd (omega (arith, e))))
    go (hears.Other k does) = absurd (known m.command is k)
      where
        known : (n : ℕ) → n ≡ 27 → list_any (λ (c : Command). eqb n (command_number c)) hears.understood ≡ false → ⊥
        known n at none = (let f : list_any (λ (c : Command). eqb 27 (command_number c)) hears.understood ≡ false = subst (λ (z : ℕ). list_any (λ (c : Command). eqb z (command_number c)) hears.understood ≡ false) at none in cc)

-- all that one makes a client send is a CLEAR_CHANNEL on its circuit
pub left-alone : (x : Client) (c : Handle) (m : Fields) (e : Effect) → Is command.ServerDisconnect m → Hears x c m e → (p : ℕ) (u : Sending) → At e.sent p u → (e.sent ≡ u ∷ []) × (u.circuit ≡ c)
left-alone x c m e is heard p u at = go (channel_on x c m.p1) (left-of x c m e is heard)
  where
    nothing : (p : ℕ) (u : Sending) → (let l : List Sending = [] in At l p u) → ⊥
    nothing p u f = cc

    silent : e.sent ≡ [] → (e.sent ≡ u ∷ []) × (u.circuit ≡ c)
    silent empty = absurd (nothing p u (subst (λ (l : List Sending). At l p u) empty at))

    one : (r : Sending) (p : ℕ) → At (r ∷ []) p u → u ≡ r
    one r zero f = sym (some_is r u f)
    one r (suc p) f = absurd cc

    go : (o : Option (Handle × Phase)) → e ≡ left x c o → (e.sent ≡ u ∷ []) × (u.circuit ≡ c)
    go None does = silent (ap (λ (z : Effect). z.sent) does)
    go (Some (h, Connecting)) does = silent (ap (λ (z : Effect). z.sent) does)
    go (Some (h, Creating rights)) does = silent (ap (λ (z : Effect). z.sent) does)
    go (Some (h, Leaving)) does = silent (ap (λ (z : Effect). z.sent) does)
    go (Some (h, Clearing)) does = silent (ap (λ (z : Effect). z.sent) does)
    go (Some (h, Doomed)) does = silent (ap (λ (z : Effect). z.sent) does)
    go (Some (h, Live native rights)) does =
        let r : Sending = clear_sent c native.sid h in
        let sent : e.sent ≡ r ∷ [] = ap (λ (z : Effect). z.sent) does in
        let same : u ≡ r = one r p (subst (λ (l : List Sending). At l p u) sent at) in
        (sent ∙ ap (λ (z : Sending). z ∷ []) (sym same), ap (λ (z : Sending). z.circuit) same)

-- ---- nothing is sent

-- Each circuit was there with the same messages sent, or is new and has none.
abbrev pub Ups : (w mid : World) → Type 0
Ups w mid = (n : ℕ) (b : Joined) → At mid.circuits n b → ((c : Joined) × At w.circuits n c × (b.lists.up ≡ c.lists.up)) ⊎ (b.lists.up ≡ [])

none-sent : (k : ℕ) (s : Sent) → At [] k s → ⊥
none-sent k s e = cc

pub ups-self : (w new : World) → new.circuits ≡ w.circuits → Ups w new
ups-self w new is n b at = inl (b, subst (λ (l : List Joined). At l n b) is at, refl)

pub ups-set : (w new : World) (k : ℕ) (j d : Joined) → At w.circuits k j → new.circuits ≡ slice_set w.circuits k d → d.lists.up ≡ j.lists.up → Ups w new
ups-set w new k j d on is up n b at = elim (At-set w.circuits k d n b (subst (λ (l : List Joined). At l n b) is at)) [
  | inl own ↦ inl (j, subst (λ (m : ℕ). At w.circuits m j) (sym own.0) on, ap (λ (v : Joined). v.lists.up) own.1 ∙ up)
  | inr old ↦ inl (b, old.0, refl)
]

pub ups-from : (w new : World) → From w new → Ups w new
ups-from w new f n b at = (let a = f.circuits n b at in inl (a.0, a.1, a.2.up))

pub clears-ups : (Leaves : ℕ → Joined → (k cid : ℕ) → Type 0) (w new : World) → Ups w new → ClearsBack Leaves w new
clears-ups Leaves w new ups n d k s a at there is = elim (ups n d at) [
  | inl c ↦ inl (c.0, c.1, subst (λ (l : List Sent). At l k s) c.2 there)
  | inr empty ↦ absurd (none-sent k s (subst (λ (l : List Sent). At l k s) empty there))
]

-- circuits changed before, and nothing was sent or logged by then
pub clears-mid : (Leaves : ℕ → Joined → (k cid : ℕ) → Type 0) (w mid new : World) → Ups w mid → mid.client_logs ≡ w.client_logs → ClearsBack Leaves mid new → ClearsBack Leaves w new
clears-mid Leaves w mid new ups logs back n d k s a at there is = elim (back n d k s a at there is) [
  | inl old ↦ elim (ups n old.0 old.1) [
    | inl c ↦ inl (c.0, c.1, subst (λ (l : List Sent). At l k s) c.2 old.2)
    | inr empty ↦ absurd (none-sent k s (subst (λ (l : List Sent). At l k s) empty old.2))
  ]
  | inr (inl (inl before)) ↦ inr (inl (inl (subst (λ (l : List (List Line)). HasCleared l d.lists.client a) logs before)))
  | inr (inl (inr now)) ↦ inr (inl (inr now))
  | inr (inr leaves) ↦ inr (inr leaves)
]

-- ---- which message clears

-- a message that is meant to clear a channel has that aim
clear-aim : (n : Names) (c : Client) → Tidy n c → (a : Aim) (number : ℕ) → intent_of n a ≡ On number Clear → (h : Handle) × (a ≡ aim.Clear h) × (number ≡ channel_number n h)
clear-aim n c t aim.OfCircuit number is = absurd (let e : history.OfCircuit ≡ On number Clear = is in cc)
clear-aim n c t (aim.Create h) number is = absurd (let e : On (channel_number n h) history.Create ≡ On number Clear = is in cc)
clear-aim n c t (aim.Clear h) number is = (h, refl, number-of is)
  where
    number-of : On (channel_number n h) Clear ≡ On number Clear → number ≡ channel_number n h
    number-of e = cc
clear-aim n c t (aim.Write h) number is = absurd (let e : On (channel_number n h) (history.Request history.Write n.writes) ≡ On number Clear = is in cc)
clear-aim n c t (aim.Read h q) number is = absurd (no-request n c t q number is)
  where
    no-request : (n : Names) (c : Client) → Tidy n c → (q : Handle) (number : ℕ) → meant_by n.requests q ≡ On number Clear → ⊥
    no-request n c t q number is =
        let f = meant-at n.requests q number Clear is in
        let s = t.asked f.0 f.1 f.2 in
        let e : On s.0 (history.Request s.1 f.0) ≡ On number Clear = sym s.2 ∙ f.4 in
        cc
clear-aim n c t (aim.Put h q) number is = absurd (no-request n c t q number is)
  where
    no-request : (n : Names) (c : Client) → Tidy n c → (q : Handle) (number : ℕ) → meant_by n.requests q ≡ On number Clear → ⊥
    no-request n c t q number is =
        let f = meant-at n.requests q number Clear is in
        let s = t.asked f.0 f.1 f.2 in
        let e : On s.0 (history.Request s.1 f.0) ≡ On number Clear = sym s.2 ∙ f.4 in
        cc
clear-aim n c t (aim.Subscribe h g) number is = absurd (no-subscription n c t g number is)
  where
    no-subscription : (n : Names) (c : Client) → Tidy n c → (g : Handle) (number : ℕ) → meant_by n.subscriptions g ≡ On number Clear → ⊥
    no-subscription n c t g number is =
        let f = meant-at n.subscriptions g number Clear is in
        let s = t.subscribed f.0 f.1 f.2 in
        let e : On s.0 (history.Subscribe f.0) ≡ On number Clear = sym s.1 ∙ f.4 in
        cc
clear-aim n c t (aim.Cancel h g) number is = absurd (by (meant_by n.subscriptions g) refl is)
  where
    no-subscription : meant_by n.subscriptions g ≡ On number Clear → ⊥
    no-subscription e =
        let f = meant-at n.subscriptions g number Clear e in
        let s = t.subscribed f.0 f.1 f.2 in
        let d : On s.0 (history.Subscribe f.0) ≡ On number Clear = sym s.1 ∙ f.4 in
        cc

    by : (i : Intent) → meant_by n.subscriptions g ≡ i → cancelled i ≡ On number Clear → ⊥
    by history.OfCircuit e d = cc
    by (On a history.Create) e d = cc
    by (On a Clear) e d = no-subscription (e ∙ d)
    by (On a (history.Request kind m)) e d = cc
    by (On a (history.Subscribe m)) e d = cc
    by (On a (history.Cancel m)) e d = cc

-- Why the CLEAR_CHANNEL of a channel may be sent that was not cleared before: message u, which is the
-- one at place q of those that go on circuit b.
abbrev pub Why : (Leaves : ℕ → Joined → (k cid : ℕ) → Type 0) → (may : Handle → Type 0) → (w new : World) → (i : ℕ) → ClientSide → Names → List Sending → Type 0
Why Leaves may w new i x spoken sent =
    (h : Handle) → may h → (n : ℕ) (b : Joined) (p q : ℕ) (u : Sending) (s : Sent) → At w.circuits n b → b.client ≡ i → b.lists.client_open ≡ true
    → At sent p u → u.aim ≡ aim.Clear h → same_handle u.circuit b.at_client ≡ true → At (sent_on i spoken sent b) q s → s.message.p2 ≡ wire_of h
    → HasCleared new.client_logs x.life (channel_number x.names h) ⊎ Leaves n (sent_to i spoken sent b) (length b.lists.up + q) s.message.p2

pub no-why : (Leaves : ℕ → Joined → (k cid : ℕ) → Type 0) (w new : World) (i : ℕ) (x : ClientSide) (spoken : Names) (sent : List Sending) → Why Leaves nobody w new i x spoken sent
no-why Leaves w new i x spoken sent h own = absurd own

pub clears-own : (Leaves : ℕ → Joined → (k cid : ℕ) → Type 0) (may : Handle → Type 0) (w : World) (i : ℕ) (x : ClientSide) (spoken : Names) (o : Outcomes) (c : Client) → At w.clients i x → Tidy spoken c → spoken.channels ≡ x.names.channels → AreNamed may x.core o.sent
    → Why Leaves may w (client_after i x spoken o w) i x spoken o.sent → OnceStand w → NamesStand w → ClearsBack Leaves w (client_after i x spoken o w)
clears-own Leaves may w i x spoken o c at tidy same named why once names n d k s a at_d there is =
    let b = At-mapped (sent_to i spoken o.sent) w.circuits n d at_d in
    elim (At-parts b.0.lists.up (sent_on i spoken o.sent b.0) k s (subst (λ (l : List Sent). At l k s) (ap (λ (v : Joined). v.lists.up) b.2) there)) [
      | inl old ↦ inl (b.0, b.1, old)
      | inr late ↦
          let v = on-circuit-sent i spoken o.sent b.0 late.0 s late.2 in
          let u : Sending = v.2.1 in
          let s_is : s ≡ stamped spoken u = v.2.4 in
          let aims = clear-aim spoken c tidy u.aim a (ap (λ (z : Sent). z.intent) (sym s_is) ∙ is) in
          let h : Handle = aims.0 in
          let number : a ≡ channel_number x.names h = aims.2 ∙ ap (λ (l : List Handle). channel_number (record x.names { channels = l }) h) same in
          let of = (named v.2.0 u h v.2.2).1 aims.1 in
          let owns : b.0.lists.client ≡ x.life = once.ends n b.0 x b.1 (subst (λ (m : ℕ). At w.clients m x) (sym v.0) at) v.1 in
          let life : d.lists.client ≡ x.life = ap (λ (z : Joined). z.lists.client) b.2 ∙ owns in
          elim of.1 [
            | inl was ↦
                let t = once.there i x at in
                inr (inl (inl (t.0, subst (λ (l : ℕ). At w.client_logs l t.0) (sym life) t.1, subst (λ (m : ℕ). In t.0 (Called (On m Clear) Nothing)) (sym number) (names.cleared i x t.0 h was.0 at t.1 was.1 was.2))))
            | inr now ↦ elim (why h now n b.0 v.2.0 late.0 u s b.1 v.0 v.1 v.2.2 aims.1 v.2.3 late.2 (ap (λ (z : Sent). z.message.p2) s_is ∙ of.0)) [
              | inl called ↦ inr (inl (inr (called.0, subst (λ (l : ℕ). At (client_after i x spoken o w).client_logs l called.0) (sym life) called.1, subst (λ (m : ℕ). In called.0 (Called (On m Clear) Nothing)) (sym number) called.2)))
              | inr leaves ↦ inr (inr (subst (λ (v : Joined × ℕ). Leaves n v.0 v.1 s.message.p2) (λ t. (sym b.2 t, sym late.1 t)) leaves))
            ]
          ]
    ]
