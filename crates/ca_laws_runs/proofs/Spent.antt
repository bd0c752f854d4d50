-- No request is open that was sent before the last CREATE_CHAN of its channel on its circuit, over
-- every event and run.
use Rattle.std.proofs.Common.{◌≡◌, ℕ, ◌+◌, ◌<◌, ◌≤◌, ◌⊎◌, inl, inr, false, true, List, [], ◌∷◌, ◌++◌, length, Option, Some, None, refl, sym, ap, ◌∙◌, subst, arith}
use Rattle.std.specs.Prelude.{is_none, option_map, slice_get, unwrap_or}
use Rattle.ca_text.specs.Place.{At}
use Rattle.ca_text.proofs.Places.{At-one, At-or, At-set, At-snoc, At-within, some_is}
use Rattle.ca_arena.specs.declared.handle.Handle.{Handle}
use Rattle.ca_ids.specs.Table.{Table, same_handle, under}
use Rattle.ca_ids.specs.Wire.{wire_of}
use Rattle.ca_requests.specs.Calls.{new_request}
use Rattle.ca_requests.specs.Requests.{Request, is_open_in, was_sent_on}
use Rattle.ca_model.specs.Client.{Live, connection_at}
use Rattle.ca_model.specs.History.{Ask, Create, Intent, Kind, On, Sent, Step, Told}
use Rattle.ca_model.specs.History as history
use Rattle.ca_model.specs.Speech.{Ioid}
use Rattle.ca_model.specs.Channels.{IsRequest, named}
use Rattle.ca_model.proofs.Handles.{same-itself}
use Rattle.ca_model.proofs.Tables.{held-back}
use Rattle.ca_model.specs.ClientEvents.{channel_number, heard_in, meant_by}
use Rattle.ca_model.specs.Events.{Event}
use Rattle.ca_model.specs.Runs.{Happens}
use Rattle.ca_model.specs.ServerEvents.{StepHandles, handled_at}
use Rattle.ca_model.specs.World.{ClientSide, Joined, Names, ServerSide, World, with_circuit}
use Rattle.ca_laws_parts.specs.Runs.{HearsSent}
use Rattle.ca_laws_parts.proofs.CircuitCalls.{meant-own}
use Rattle.ca_laws_parts.specs.Kept.{kept}
use Rattle.ca_laws_parts.specs.Circuit.{HeldOn}
use Rattle.ca_laws_parts.specs.Clients.{ClientsStand}
use Rattle.ca_laws_parts.proofs.ClientsKeep.{none-under}
use Rattle.ca_laws_parts.proofs.RunsSending.{new-name}
use Rattle.ca_laws_parts.proofs.WritesLists.{length-more}
use Rattle.ca_laws_runs.specs.Held.{AllCircuitsHeld}
use Rattle.ca_laws_runs.specs.OrderSteps.{HaveLives}
use Rattle.ca_laws_runs.specs.Quiet.{ClientsQuiet, IsAnswered, Tidy}
use Rattle.ca_laws_runs.specs.Sides.{AllSided, IsLiveAs}
use Rattle.ca_laws_runs.specs.Under.{IsUse}
use Rattle.ca_laws_runs.proofs.Going.{AllOpenLive, ClientsGo, Goes}
use Rattle.ca_laws_runs.proofs.Heard.{request-named}
use Rattle.ca_laws_runs.proofs.Issued.{meant-still}
use Rattle.ca_laws_runs.proofs.OnceCalls.{IsUsed}
use Rattle.ca_laws_runs.proofs.OnceSent.{SentStand}
use Rattle.ca_laws_runs.proofs.OnceTold.{IsOpenBy}
use Rattle.ca_laws_runs.proofs.OnceWorld.{OnceStand}
use Rattle.ca_laws_runs.proofs.OrderGrows.{Grown, each-event, step-grown}
use Rattle.ca_laws_runs.proofs.OrderKeeps.{IsHearing, IsMade, begun-grown, begun-mid, did-after, did-grown, did-step, hear-grown, hear-step, hearing-or, hears-one, made-or}
use Rattle.ca_laws_runs.proofs.Says.{asked-at}
use Rattle.ca_laws_runs.proofs.ToldGrows.{WorldsOn}

-- ---- a circuit as it was

-- What an end read of a circuit before and now: the same, or one message more, which was there.
abbrev pub ReadOn : (c d : Joined) → Type 0
ReadOn c d = (d.lists.heard ≡ c.lists.heard) ⊎ ((length d.lists.heard ≡ length c.lists.heard + 1) × (length c.lists.heard < length c.lists.down))

-- Each circuit was there, or nothing was read on it.
abbrev pub ReadsBack : (w new : World) → Type 0
ReadsBack w new = (n : ℕ) (d : Joined) → At new.circuits n d → ((c : Joined) × At w.circuits n c × (d.client ≡ c.client) × ReadOn c d) ⊎ (d.lists.heard ≡ [])

reads-grown : (w new : World) → Grown w new → ReadsBack w new
reads-grown w new g n d at = (let c = g.back n d at in inl (c.0, c.1, c.2.number, inl c.2.heard))

reads-handled : (w new : World) (k : ℕ) (j : Joined) (y : ServerSide) → At w.circuits k j → StepHandles w k j y new → ReadsBack w new
reads-handled w new k j y on f = subst (λ (z : World). ReadsBack w z) (sym f.leaves) (go (slice_get after.circuits k) refl)
  where
    after : World
    after = did-after w new k j y on f

    step : Step
    step = did-step w new k j y on f

    go : (o : Option Joined) → slice_get after.circuits k ≡ o → ReadsBack w (unwrap_or (option_map (λ (c : Joined). with_circuit k (handled_at (length j.lists.handled) step (f.steps.0).replies c) after) o) after)
    go None is = reads-grown w after (did-grown w new k j y on f)
    go (Some c) is = λ n d at. elim (At-set after.circuits k (handled_at (length j.lists.handled) step (f.steps.0).replies c) n d at) [
      | inr old ↦ reads-grown w after (did-grown w new k j y on f) n d old.0
      | inl own ↦
          let b = (did-grown w new k j y on f).back k c is in
          inl (b.0, subst (λ (m : ℕ). At w.circuits m b.0) (sym own.0) b.1, ap (λ (z : Joined). z.client) own.1 ∙ b.2.number, inl (ap (λ (z : Joined). z.lists.heard) own.1 ∙ b.2.heard))
    ]

reads-hearing : (w new : World) (k : ℕ) (j : Joined) (x : ClientSide) (on : At w.circuits k j) (at : At w.clients j.client x) (f : IsHearing w new k j x) → j.lists.client_open ≡ true → HearsSent w → ReadsBack w new
reads-hearing w new k j x on at f opened hears n d there =
    let c = (hear-grown w new k j x on at f).back n d there in
    elim (At-set w.circuits k (heard_in (hear-step w new k j x on at f) j) n c.0 c.1) [
      | inr old ↦ inl (c.0, old.0, c.2.number, inl c.2.heard)
      | inl own ↦
          let heard : d.lists.heard ≡ j.lists.heard ++ hear-step w new k j x on at f ∷ [] = c.2.heard ∙ ap (λ (z : Joined). z.lists.heard) own.1 in
          inl (
            j,
            subst (λ (m : ℕ). At w.circuits m j) (sym own.0) on,
            c.2.number ∙ ap (λ (z : Joined). z.client) own.1,
            inr (ap (λ (l : List Step). length l) heard ∙ length-more j.lists.heard (hear-step w new k j x on at f), hears-one w k j x (connection_at x.core j.at_client) refl f.notices f.sent f.core on at opened hears f.steps),
          )
    ]

reads-made : (w new : World) (i : ℕ) (x : ClientSide) (at : At w.clients i x) (f : IsMade w new i x) → ReadsBack w new
reads-made w new i x at f n d there =
    let c = (f.goes).back n d there in
    elim (At-snoc w.circuits f.c n c.0 (subst (λ (l : List Joined). At l n c.0) f.circuits c.1)) [
      | inl old ↦ inl (c.0, old, c.2.number, inl c.2.heard)
      | inr last ↦ inr (c.2.heard ∙ ap (λ (z : Joined). z.lists.heard) last.1 ∙ f.heard)
    ]

pub reads-event : (w new : World) (e : Event) → HearsSent w → Happens w e new → ReadsBack w new
reads-event w new e hears happens = each-event (ReadsBack w new) w new (reads-grown w new)
    (λ k f. elim (step-grown w new k f.0.j f.0.y f.1.0 f.0.joins.at f.1.1) [
      | inl handles ↦ reads-handled w new k f.0.j f.0.y f.0.joins.at handles
      | inr g ↦ reads-grown w new g
    ])
    (λ k f. elim (hearing-or w new k f.0.j f.0.x f.0.joins.at f.0.joins.client f.1) [
      | inl hearing ↦ reads-hearing w new k f.0.j f.0.x f.0.joins.at f.0.joins.client hearing f.0.is_open hears
      | inr g ↦ reads-grown w new g
    ])
    (λ i f. elim (made-or w new i f) [
      | inl made ↦ reads-made w new i f.0.x f.0.at made
      | inr g ↦ reads-grown w new g
    ])
    (λ i f. subst (λ (z : World). ReadsBack w z) (sym f.1) (reads-grown w (begun-mid w new i f.0.x f.1) (begun-grown w new i f.0.x f.1))) e happens

pub reads-lasting : (w new : World) → Grown w new → ReadsBack w new
reads-lasting w new g = reads-grown w new g

-- ---- what is known of a world

-- What is held of circuits and clients, together.
pub record Known (w : World) : Type 0 where
  pub stands : ClientsStand w
  pub quiet : ClientsQuiet w
  pub once : OnceStand w
  pub sent : SentStand w
  pub live : AllOpenLive w
  pub held : AllCircuitsHeld w
  pub sided : AllSided w
  pub lives : HaveLives w

abbrev intent-in : Handle × Intent → Intent
intent-in e = e.1

module _ (w : World) (known : Known w) where
  -- A request was sent on its circuit.
  pub request-sent : (n : ℕ) (c : Joined) (x : ClientSide) (q : Handle) (r : Request) → At w.circuits n c → At w.clients c.client x → c.lists.client_open ≡ true → under x.core.requests q ≡ Some r → was_sent_on c.at_client r ≡ true
      → (k : ℕ) × (s : Sent) × At c.lists.up k s × (s.intent ≡ meant_by x.names.requests q)
  request-sent n c x q r on at opened there here =
      let h = known.held n c on in
      let joined : h.0 ≡ c = At-one w.circuits n h.0 c h.2 on in
      let holder : h.1 ≡ x = At-one w.clients c.client h.1 x (subst (λ (z : Joined). At w.clients z.client h.1) joined h.3) at in
      let mine : HeldOn (kept w n) x.names x.core c = subst (λ (v : Joined × ClientSide). HeldOn (kept w n) v.1.names v.1.core v.0) (λ i. (joined i, holder i)) h.4 in
      let own = (mine.holds opened).requests.own q r there here in
      let given = own.2 in
      let s : Sent = given.0 in
      let tidy : Tidy x.names x.core = known.quiet.tidy c.client x at in
      let quiet = known.quiet.quiet n c x on at opened in
      let other = request-named x.names s.message (wire_of q) own.1 s.intent (mine.flows.asked own.0 s given.1) given.2 given.3 (quiet.named own.0 s given.1) in
      let m = tidy.requests q r there in
      let m_is : m.1 ≡ own.1 = some_is m.1 own.1 (ap (named (Ioid (wire_of q))) (sym m.3) ∙ own.3) in
      let asked : At x.names.requests own.1 (q, On (channel_number x.names r.channel) (history.Request m.0 m.1)) =
      subst (λ (z : ℕ). At x.names.requests z (q, On (channel_number x.names r.channel) (history.Request m.0 m.1))) m_is (asked-at x.names x.core q (channel_number x.names r.channel) m.1 m.0 tidy m.3) in
      let one = At-one x.names.requests own.1 (q, On (channel_number x.names r.channel) (history.Request m.0 m.1)) (other.0, s.intent) asked other.1 in
      (own.0, s, given.1, sym (ap intent-in one) ∙ sym m.3)

  -- An open request is on an open circuit, on which its channel is live.
  pub open-circuit : (i : ℕ) (x : ClientSide) (q : Handle) (r : Request) → At w.clients i x → under x.core.requests q ≡ Some r → is_open_in r.stage ≡ true
      → (n : ℕ) × (c : Joined) × At w.circuits n c × (c.client ≡ i) × (c.at_client ≡ r.circuit) × (c.lists.client ≡ x.life) × (c.lists.client_open ≡ true)
  open-circuit i x q r at there open_it =
      let l = known.live i x at q r there open_it in
      let linked : is_none (connection_at x.core r.circuit) ≡ false = sym ((known.stands.sound i x at).placed.waiting r.channel (l.1).ch r.circuit (Live (l.1).native (l.1).rights) (l.1).there (l.1).stands) in
      known.sent.reached i x r.circuit at linked

-- ---- before a channel is created again its requests are over

-- On each circuit no request of its client is open that was sent before a
-- CREATE_CHAN of its channel.
abbrev pub AllSpent : World → Type 0
AllSpent w = (n : ℕ) (c : Joined) (x : ClientSide) (p k a m : ℕ) (kind : Kind) (r s : Sent) (q : Handle) → At w.circuits n c → At w.clients c.client x → c.lists.client ≡ x.life → p < k → At c.lists.up p r → At c.lists.up k s
    → r.intent ≡ On a (history.Request kind m) → s.intent ≡ On a Create → meant_by x.names.requests q ≡ r.intent → IsOpenBy x.core q → ⊥

create-used : (ask : Ask) → ask ≡ Create → IsUse ask → ⊥
create-used ask is uses = subst (λ (z : Ask). IsUse z) is uses

number-of : (a b : ℕ) (p q : Ask) → On a p ≡ On b q → a ≡ b
number-of a b p q e = cc

request-is : (a b m k : ℕ) (p q : Kind) → On a (history.Request p m) ≡ On b (history.Request q k) → m ≡ k
request-is a b m k p q e = cc

-- In a world in which what was read was about what had been sent by then: no request is open before
-- a CREATE_CHAN that came since.
late-spent : (w : World) → Known w → (n : ℕ) (c : Joined) (x : ClientSide) (p k a m early : ℕ) (kind : Kind) (r s : Sent) (q : Handle) → At w.circuits n c → At w.clients c.client x → c.lists.client ≡ x.life → At c.lists.up p r → At c.lists.up k s
    → r.intent ≡ On a (history.Request kind m) → s.intent ≡ On a Create → meant_by x.names.requests q ≡ r.intent → early ≤ k → ((i : ℕ) (t : Told) → i < length c.lists.heard → At c.lists.down i t → t.place < early) → IsOpenBy x.core q → ⊥
late-spent w known n c x p k a m early kind r s q on at mine at_r at_s is_r is_s meant le read (row, there, it) =
    let o = open-circuit w known c.client x q row at there it in
    let here : was_sent_on (o.1).at_client row ≡ true = subst (λ (h : Handle). same_handle row.circuit h ≡ true) (sym o.4) (same-itself row.circuit) in
    let at_o : At w.clients (o.1).client x = subst (λ (i : ℕ). At w.clients i x) (sym o.3) at in
    let said = request-sent w known o.0 o.1 x q row o.2 at_o o.6 there here in
    let asks : IsRequest r.intent = subst (λ (v : Intent). IsRequest v) (sym is_r) tt in
    let one = known.once.one n o.0 p said.0 c o.1 r said.1 on o.2 (mine ∙ sym o.5) at_r said.2 (sym meant ∙ sym said.3) asks in
    let joined : o.1 ≡ c = At-one w.circuits n o.1 c (subst (λ (z : ℕ). At w.circuits z o.1) (sym one.0) o.2) on in
    let opened : c.lists.client_open ≡ true = ap (λ (z : Joined). z.lists.client_open) (sym joined) ∙ o.6 in
    let handle : c.at_client ≡ row.circuit = ap (λ (z : Joined). z.at_client) (sym joined) ∙ o.4 in
    let l = known.live c.client x at q row there it in
    let t = (known.quiet.tidy c.client x at).requests q row there in
    let a_is : channel_number x.names row.channel ≡ a = number-of (channel_number x.names row.channel) a (history.Request t.0 t.1) (history.Request kind m) (sym t.3 ∙ meant ∙ is_r) in
    let side = known.sided.sides n c x on at opened in
    let b = side.lives row.channel l.0 (subst (λ (h : Handle). IsLiveAs x.core.channels h row.channel l.0) (sym handle) l.1) in
    let created = b.3 in
    let first : created.t.place < early = read b.0 created.t b.2 created.told.0 in
    let place : created.t.place ≡ b.1 = created.told.1 in
    let k_in : k < length c.lists.up = At-within c.lists.up k s at_s in
    create-used Create refl (created.since k s Create (omega (arith, first, place, le)) k_in at_s (is_s ∙ ap (λ (z : ℕ). On z Create) (sym a_is)))

-- what is read was sent about what was sent before
pub read-early : (w : World) → Known w → (n : ℕ) (c d : Joined) → At w.circuits n c → ReadOn c d → ((i : ℕ) (t : Told) → At c.lists.down i t → At d.lists.down i t) → (i : ℕ) (t : Told) → i < length d.lists.heard → At d.lists.down i t → t.place < length c.lists.up
read-early w known n c d on read down i t lt at =
    let h = known.held n c on in
    let joined : h.0 ≡ c = At-one w.circuits n h.0 c h.2 on in
    let mine : HeldOn (kept w n) h.1.names h.1.core c = subst (λ (v : Joined). HeldOn (kept w n) h.1.names h.1.core v) joined h.4 in
    let within : length c.lists.heard ≤ length c.lists.down = mine.flows.within in
    let early : i < length c.lists.down = elim read [
      | inl same ↦ (let e : length d.lists.heard ≡ length c.lists.heard = ap (λ (l : List Step). length l) same in omega (arith, e, lt, within))
      | inr more ↦ (let e : length d.lists.heard ≡ length c.lists.heard + 1 = more.0 in let f : length c.lists.heard < length c.lists.down = more.1 in omega (arith, e, lt, f))
    ] in
    elim (At-or c.lists.down i) [
      | inl old ↦ subst (λ (v : Told). v.place < length c.lists.up) (At-one d.lists.down i old.0 t (down i old.0 old.1) at) (mine.flows.about i old.0 old.1)
      | inr past ↦ absurd (omega (arith, past, early))
    ]

not-used : (n : Names) (a m : ℕ) (kind : Kind) → IsAnswered kind → (x : _) → IsUsed n x (On a (history.Request kind m)) → m < length n.requests
not-used n a m history.Read answered x used = used
not-used n a m history.Put answered x used = used
not-used n a m history.Write answered x used = absurd answered

pub spent-on : (w new : World) → Known w → Known new → ClientsGo w new → WorldsOn w new → ReadsBack w new → AllSpent w → AllSpent new
spent-on w new known now goes on back all n d y p k a m kind r s q at at_y mine lt at_r at_s is_r is_s meant open_it = elim (goes d.client y at_y) [
  | inr fresh ↦ (let row : under y.core.requests q ≡ Some open_it.0 = open_it.1 in none-under q open_it.0 (subst (λ (v : ClientSide). under v.core.requests q ≡ Some open_it.0) fresh.3 row))
  | inl g ↦ elim (back n d at) [
    | inr empty ↦
        late-spent new now n d y p k a m 0 kind r s q at at_y mine at_r at_s is_r is_s meant (omega arith)
        (λ i t read there. absurd (let e : length d.lists.heard ≡ 0 = ap (λ (l : List Step). length l) empty in omega (arith, e, read))) open_it
    | inl b ↦
        let c : Joined = b.0 in
        let o = on.circuits n c b.1 in
        let one : o.0 ≡ d = At-one new.circuits n o.0 d o.1 at in
        let up : (l : ℕ) (v : Sent) → At c.lists.up l v → At d.lists.up l v = λ l v there. subst (λ (z : Joined). At z.lists.up l v) one (o.2.up l v there) in
        let down : (l : ℕ) (v : Told) → At c.lists.down l v → At d.lists.down l v = λ l v there. subst (λ (z : Joined). At z.lists.down l v) one (o.2.down l v there) in
        let life : d.lists.client ≡ c.lists.client = ap (λ (z : Joined). z.lists.client) (sym one) ∙ o.2.client in
        let at_x : At w.clients c.client g.0 = subst (λ (z : ℕ). At w.clients z g.0) b.2 g.1 in
        elim (At-or c.lists.up k) [
          | inr past ↦ late-spent new now n d y p k a m (length c.lists.up) kind r s q at at_y mine at_r at_s is_r is_s meant past (read-early w known n c d b.1 b.3 down) open_it
          | inl old ↦ elim (At-or c.lists.up p) [
            | inr past ↦ (let within : k < length c.lists.up = At-within c.lists.up k old.0 old.1 in omega (arith, lt, past, within))
            | inl before ↦
                let s_is : old.0 ≡ s = At-one d.lists.up k old.0 s (up k old.0 old.1) at_s in
                let r_is : before.0 ≡ r = At-one d.lists.up p before.0 r (up p before.0 before.1) at_r in
                let was_r : At c.lists.up p r = subst (λ (v : Sent). At c.lists.up p v) r_is before.1 in
                let was_s : At c.lists.up k s = subst (λ (v : Sent). At c.lists.up k v) s_is old.1 in
                let mine_x : c.lists.client ≡ (g.0).life = sym life ∙ mine ∙ g.2 in
                let then_so : meant_by (g.0).names.requests q ≡ r.intent → IsOpenBy (g.0).core q → ⊥ = λ says opens. all n c g.0 p k a m kind r s q b.1 at_x mine_x lt was_r was_s is_r is_s says opens in
                by c (g.0) b.1 at_x mine_x was_r then_so g.3
          ]
        ]
  ]
]
  where
    by : (c : Joined) (x : ClientSide) → At w.circuits n c → At w.clients c.client x → c.lists.client ≡ x.life → At c.lists.up p r → (meant_by x.names.requests q ≡ r.intent → IsOpenBy x.core q → ⊥) → Goes x.names x.core y.names y.core → ⊥
    by c x on_c at_x mine_x was then_so (inl o) =
        let v = o.1.back q open_it.0 open_it.1 open_it.2 in
        then_so (ap (λ (l : List (Handle × Intent)). meant_by l q) (sym o.0) ∙ meant) (v.0, v.1, v.2)
    by c x on_c at_x mine_x was then_so (inr f) = elim (held-back x.core.requests q f.q (new_request f.h (f.l).circuit f.asked) open_it.0 (subst (λ (t : Table Request). under t q ≡ Some open_it.0) f.requests open_it.1)) [
      | inl own ↦
          let new_one : meant_by y.names.requests q ≡ f.intent =
          ap (λ (l : List (Handle × Intent)). meant_by l q) f.names ∙ ap (λ (h : Handle). meant_by (x.names.requests ++ (f.q, f.intent) ∷ []) h) own.0
          ∙ meant-own x.names.requests f.q f.intent (new-name x.names.requests x.core.requests f.q (known.stands.sound c.client x at_x).named.requests f.may) in
          let same : On f.meant.0 (history.Request f.meant.1 (length x.names.requests)) ≡ On a (history.Request kind m) = sym f.meant.3 ∙ sym new_one ∙ meant ∙ is_r in
          let asks : IsRequest r.intent = subst (λ (v : Intent). IsRequest v) (sym is_r) tt in
          let used : IsUsed x.names x.core r.intent = known.once.said n c.client p c x r on_c at_x mine_x was asks in
          let used_so : IsUsed x.names x.core (On f.meant.0 (history.Request f.meant.1 (length x.names.requests))) = subst (λ (v : Intent). IsUsed x.names x.core v) (is_r ∙ sym same) used in
          let less : length x.names.requests < length x.names.requests = not-used x.names f.meant.0 (length x.names.requests) f.meant.1 f.meant.2 x.core used_so in
          omega (arith, less)
      | inr old ↦
          let t = (known.quiet.tidy c.client x at_x).requests q open_it.0 old in
          let still : meant_by (x.names.requests ++ (f.q, f.intent) ∷ []) q ≡ On (channel_number x.names (open_it.0).channel) (history.Request t.0 t.1) = meant-still x.names.requests (f.q, f.intent) q (channel_number x.names (open_it.0).channel) (history.Request t.0 t.1) t.3 in
          then_so (t.3 ∙ sym still ∙ ap (λ (l : List (Handle × Intent)). meant_by l q) (sym f.names) ∙ meant) (open_it.0, old, open_it.2)
    ]
