-- A circuit that is connected: its set-up and the CREATE_CHANs of the channels that
-- waited are sent on it.
use Rattle.std.proofs.Common.{◌≡◌, ℕ, zero, suc, ◌+◌, inl, inr, ◌⊎◌, Bool, true, false, cond, List, [], ◌∷◌, ◌++◌, length, Option, Some, None, refl, sym, ap, ◌∙◌, subst, arith}
use Rattle.std.specs.Prelude.{filter, filter_map, is_none, map, option_and_then}
use Rattle.std.specs.List.{cons_option}
use Rattle.std.proofs.lemmas.Bool.{both_ways}
use Rattle.std.proofs.lemmas.List.{append-nil}
use Rattle.ca_text.specs.Place.{At}
use Rattle.ca_text.proofs.Places.{At-after, At-map, At-mapped, At-parts, some_is}
use Rattle.ca_arena.specs.declared.handle.Handle.{Handle}
use Rattle.ca_ids.specs.Table.{held, same_handle, under}
use Rattle.ca_monitor.specs.Subscriptions.{Cancelled, Ended, Stage, Stands, Subscription, drains_in}
use Rattle.ca_text.specs.declared.command.Command.TheVariants as command
use Rattle.ca_wire.specs.Messages.{name_request, version_request}
use Rattle.ca_model.specs.Answers.{Closing, Sending}
use Rattle.ca_model.specs.Client.{Channel, Clearing, Client, ClientCircuit, Connecting, Creating, Doomed, Leaving, Live, On, Phase, Searching, Standing, ended, is_on_in, sending}
use Rattle.ca_model.specs.ClientEnds.{ConnectsOn, begun, creating, creations, is_connecting, of_circuit, set_up}
use Rattle.ca_model.specs.Hears.{create_sent}
use Rattle.ca_model.specs.History.{Ask, Cancel, Clear, Create, Intent, Sent, Subscribe}
use Rattle.ca_model.specs.History as history
use Rattle.ca_model.specs.Placed.{IsPlaced, was_live}
use Rattle.ca_model.proofs.Handles.{same-itself, same-not}
use Rattle.ca_model.proofs.Standings.{at-filter-map, fails-searched, is-on}
use Rattle.ca_model.proofs.Tables.{all-back, held-under, under-held}
use Rattle.ca_model.proofs.Thinner.{given-thin, number-or, thin-all}
use Rattle.ca_model.specs.ClientEvents.{channel_number}
use Rattle.ca_model.specs.World.{Names}
use Rattle.ca_laws_parts.specs.Circuit.{stamped}
use Rattle.ca_laws_parts.proofs.Rests.{stands-there}
use Rattle.ca_laws_runs.specs.Quiet.{HasCid, IsBeingCreated, IsNamedIn, NoneAfter, PhaseIn, Quiet, StageIn, Tidy}
use Rattle.ca_laws_runs.proofs.AddedApart.{IsPlain}
use Rattle.ca_laws_runs.proofs.CidsSaid.{cid-none}
use Rattle.ca_laws_runs.proofs.Lesser.{less-ended, less-sending, quiet-less, tidy-less}
use Rattle.ca_laws_runs.proofs.Phases.{same-ask, same-number}
use Rattle.ca_laws_runs.proofs.Phased.{stood-handle, stood-phase}
use Rattle.ca_laws_runs.proofs.Says.{no-sub-id, said}

-- ---- lists of CREATE_CHANs

-- It is to serve the circuit, or to create a channel.
abbrev pub IsOpening : Intent → Type 0
IsOpening intent = (intent ≡ history.OfCircuit) ⊎ ((a : ℕ) × (intent ≡ history.On a Create))

no-ask : (a : ℕ) (ask : Ask) → history.OfCircuit ≡ history.On a ask → ⊥
no-ask a ask e = cc

abbrev NothingOn : List Sent → ℕ → Type 0
NothingOn ss number = (i : ℕ) (s : Sent) (ask : Ask) → At ss i s → s.intent ≡ history.On number ask → ⊥

-- what was created last of one number, if there is any
last-create : (ss : List Sent) (number : ℕ) → ((i : ℕ) (s : Sent) → At ss i s → IsOpening s.intent) → IsBeingCreated ss number ⊎ NothingOn ss number
last-create [] number opens = inr (λ i s ask at is. absurd cc)
last-create (s ∷ ss) number opens = go (last-create ss number (λ i r at. opens (suc i) r at)) (opens 0 s refl)
  where
    later : IsBeingCreated ss number → IsBeingCreated (s ∷ ss) number
    later c = (suc c.0, (c.1.0, c.1.1, c.1.2), none)
      where
        none : NoneAfter (s ∷ ss) (suc c.0) number
        none zero r ask lt at is = omega (arith, lt)
        none (suc l) r ask lt at is = c.2 l r ask (omega (arith, lt)) at is

    first : (a : ℕ) → s.intent ≡ history.On a Create → a ≡ number → NothingOn ss number → IsBeingCreated (s ∷ ss) number
    first a is same rest = (0, (s, refl, is ∙ ap (λ (k : ℕ). history.On k Create) same), none)
      where
        none : NoneAfter (s ∷ ss) 0 number
        none zero r ask lt at is = omega (arith, lt)
        none (suc l) r ask lt at is = rest l r ask at is

    nothing : ((ask : Ask) → s.intent ≡ history.On number ask → ⊥) → NothingOn ss number → NothingOn (s ∷ ss) number
    nothing other rest zero r ask at is = other ask (ap (λ (z : Sent). z.intent) (some_is s r at) ∙ is)
    nothing other rest (suc i) r ask at is = rest i r ask at is

    go : IsBeingCreated ss number ⊎ NothingOn ss number → IsOpening s.intent → IsBeingCreated (s ∷ ss) number ⊎ NothingOn (s ∷ ss) number
    go (inl c) is = inl (later c)
    go (inr rest) (inl serves) = inr (nothing (λ ask e. no-ask number ask (sym serves ∙ e)) rest)
    go (inr rest) (inr creates) = elim (number-or creates.0 number) [
      | inl same ↦ inl (first creates.0 creates.1 same rest)
      | inr other ↦ inr (nothing (λ ask e. other (same-number creates.0 number Create ask (sym creates.1 ∙ e))) rest)
    ]

-- ---- what is sent

filter-map-at : {A B : Type 0} (f : A → Option B) (xs : List A) (j : ℕ) (x : A) (y : B) → At xs j x → f x ≡ Some y → (i : ℕ) × At (filter_map f xs) i y
filter-map-at f [] j x y at is = absurd cc
filter-map-at {A} {B} f (z ∷ xs) zero x y at is = (0, subst (λ (o : Option B). At (cons_option o (filter_map f xs)) 0 y) (sym (ap f (some_is z x at) ∙ is)) refl)
filter-map-at {A} {B} f (z ∷ xs) (suc j) x y at is = (let r = filter-map-at f xs j x y at is in go (f z) r.0 r.1)
  where
    go : (o : Option B) (i : ℕ) → At (filter_map f xs) i y → (k : ℕ) × At (cons_option o (filter_map f xs)) k y
    go (Some w) i h = (suc i, h)
    go None i h = (i, h)

-- all on one circuit
said-all : (n : Names) (c : Handle) (ss : List Sending) → ((i : ℕ) (s : Sending) → At ss i s → s.circuit ≡ c) → said n c ss ≡ map (stamped n) ss
said-all n c [] on = refl
said-all n c (s ∷ ss) on = go (same_handle s.circuit c) (subst (λ (k : Handle). same_handle k c ≡ true) (sym (on 0 s refl)) (same-itself c)) (said-all n c ss (λ i r at. on (suc i) r at))
  where
    go : (b : Bool) → b ≡ true → said n c ss ≡ map (stamped n) ss → map (stamped n) (cond b (s ∷ filter (λ (r : Sending). same_handle r.circuit c) ss) (filter (λ (r : Sending). same_handle r.circuit c) ss)) ≡ stamped n s ∷ map (stamped n) ss
    go true is rest = ap (λ (l : List Sent). stamped n s ∷ l) rest
    go false is rest = absurd (both_ways false refl is)

said-none : (n : Names) (c on : Handle) (ss : List Sending) → (c ≡ on → ⊥) → ((i : ℕ) (s : Sending) → At ss i s → s.circuit ≡ c) → said n on ss ≡ []
said-none n c on [] other all = refl
said-none n c on (s ∷ ss) other all = go (same_handle s.circuit on) (subst (λ (k : Handle). same_handle k on ≡ false) (sym (all 0 s refl)) (same-not c on other)) (said-none n c on ss other (λ i r at. all (suc i) r at))
  where
    go : (b : Bool) → b ≡ false → said n on ss ≡ [] → map (stamped n) (cond b (s ∷ filter (λ (r : Sending). same_handle r.circuit on) ss) (filter (λ (r : Sending). same_handle r.circuit on) ss)) ≡ []
    go false is rest = rest
    go true is rest = absurd (both_ways true is refl)

-- ---- the client whose circuit is connected

-- From the one client to the other, but on this circuit, on which these were sent first.
opening-plain : (s : Sent) → IsOpening s.intent → IsPlain s
opening-plain s opens a m e = elim opens [ inl serves ↦ serves-not (sym serves ∙ e) | inr creates ↦ creates-not creates.0 (sym creates.1 ∙ e) ]
  where
    serves-not : history.OfCircuit ≡ history.On a (Subscribe m) → ⊥
    serves-not f = cc

    creates-not : (b : ℕ) → history.On b Create ≡ history.On a (Subscribe m) → ⊥
    creates-not b f = cc

pub record Connected (n : Names) (x : Client) (c : Handle) (sent : List Sending) (y : Client) : Type 0 where
  pub tidy : Tidy n y
  pub others : (on : Handle) (up : List Sent) → (c ≡ on → ⊥) → Quiet n x on up → Quiet n y on (up ++ said n on sent)
  pub plain : (i : ℕ) (s : Sending) → At sent i s → IsPlain (stamped n s)
  pub cids : (i : ℕ) (s : Sending) → At sent i s → HasCid n.channels (stamped n s)

module _ (n : Names) (x : Client) (c : Handle) (d : ClientCircuit) (t : Tidy n x) (placed : IsPlaced x) (there : under x.circuits c ≡ Some d) (none : d.connection ≡ None) where
  abbrev sends : List Sending
  sends = set_up x.peer c d ++ creations c x

  abbrev z : Client
  z = begun c x

  abbrev made : Handle × Channel → Option Sending
  made e = cond (is_on_in is_connecting c e.1) (Some (create_sent c e.0 e.1)) None

  -- each is the set-up's, or a CREATE_CHAN
  each : (i : ℕ) (s : Sending) → At sends i s → (s.circuit ≡ c) × IsOpening (stamped n s).intent
  each i s at = elim (At-parts (set_up x.peer c d) (creations c x) i s at) [
    | inl first ↦
        let m = At-mapped (of_circuit c) (version_request d.priority ∷ name_request command.ClientName x.peer.user ∷ name_request command.HostName x.peer.host ∷ []) i s first in
        (ap (λ (w : Sending). w.circuit) m.2, inl (ap (λ (w : Sending). (stamped n w).intent) m.2))
    | inr later ↦
        let m = at-filter-map made (held x.channels) later.0 s later.2 in
        go m.1 (is_on_in is_connecting c m.1.1) m.3
  ]
    where
      go : (e : Handle × Channel) (b : Bool) → cond b (Some (create_sent c e.0 e.1)) None ≡ Some s → (s.circuit ≡ c) × IsOpening (stamped n s).intent
      go e true is = (let r = some_is (create_sent c e.0 e.1) s is in (ap (λ (w : Sending). w.circuit) (sym r), inr (channel_number n e.0, ap (λ (w : Sending). (stamped n w).intent) (sym r))))
      go e false is = absurd cc

  -- with the CID of its channel
  each-cid : (i : ℕ) (s : Sending) → At sends i s → HasCid n.channels (stamped n s)
  each-cid i s at = elim (At-parts (set_up x.peer c d) (creations c x) i s at) [
    | inl first ↦
        let m = At-mapped (of_circuit c) (version_request d.priority ∷ name_request command.ClientName x.peer.user ∷ name_request command.HostName x.peer.host ∷ []) i s first in
        cid-none n.channels (stamped n s) (λ a. (λ e. serves-not a Create (sym (ap (λ (w : Sending). (stamped n w).intent) m.2) ∙ e), λ e. serves-not a Clear (sym (ap (λ (w : Sending). (stamped n w).intent) m.2) ∙ e)))
    | inr later ↦
        let m = at-filter-map made (held x.channels) later.0 s later.2 in
        go m.1 (is_on_in is_connecting c m.1.1) m.3 (t.numbered m.1.0 m.1.1 (held-under x.channels m.0 m.1 m.2))
  ]
    where
      serves-not : (a : ℕ) (ask : Ask) → history.OfCircuit ≡ history.On a ask → ⊥
      serves-not a ask e = cc

      not-clear : (a b : ℕ) → history.On a Create ≡ history.On b Clear → ⊥
      not-clear a b e = cc

      go : (e : Handle × Channel) (b : Bool) → cond b (Some (create_sent c e.0 e.1)) None ≡ Some s → At n.channels (channel_number n e.0) e.0 → HasCid n.channels (stamped n s)
      go e true is numbered =
          subst (λ (w : Sending). HasCid n.channels (stamped n w)) (some_is (create_sent c e.0 e.1) s is)
          (λ a. (λ same. (e.0, subst (λ (k : ℕ). At n.channels k e.0) (same-number (channel_number n e.0) a Create Create same) numbered, refl), λ same. absurd (not-clear (channel_number n e.0) a same)))
      go e false is numbered = absurd cc

  abbrev stamps : List Sent
  stamps = map (stamped n) sends

  each-stamped : (i : ℕ) (s : Sent) → At stamps i s → IsOpening s.intent
  each-stamped i s at = (let m = At-mapped (stamped n) sends i s at in subst (λ (w : Sent). IsOpening w.intent) (sym m.2) (each i m.0 m.1).1)

  -- the CREATE_CHAN of each channel that waited is there
  sent-for : (h : Handle) (w : Channel) → under x.channels h ≡ Some w → is_on_in is_connecting c w ≡ true → IsBeingCreated stamps (channel_number n h)
  sent-for h w at waits = elim (last-create stamps (channel_number n h) each-stamped) [
    | inl created ↦ created
    | inr nothing ↦
        let p = under-held x.channels h w at in
        let f = filter-map-at made (held x.channels) p.0 (h, w) (create_sent c h w) p.1 (ap (λ (b : Bool). cond b (Some (create_sent c h w)) None) waits) in
        let in_it : At sends (length (set_up x.peer c d) + f.0) (create_sent c h w) = At-after (set_up x.peer c d) (creations c x) f.0 (create_sent c h w) f.1 in
        absurd (nothing _ (stamped n (create_sent c h w)) Create (At-map (stamped n) sends _ (create_sent c h w) in_it) refl)
  ]

  standing-now : (w ch : Channel) → ch ≡ creating c w → (on : Handle) (p : Phase) → ch.standing ≡ On on p → ((is_on_in is_connecting c w ≡ true) × (c ≡ on) × (p ≡ Creating 0)) ⊎ ((is_on_in is_connecting c w ≡ false) × (w.standing ≡ On on p))
  standing-now w ch is on p stands = go (is_on_in is_connecting c w) refl (ap (λ (v : Channel). v.standing) (sym is) ∙ stands)
    where
      go : (b : Bool) → is_on_in is_connecting c w ≡ b → (cond b (record w { standing = On c (Creating 0) }) w).standing ≡ On on p → ((is_on_in is_connecting c w ≡ true) × (c ≡ on) × (p ≡ Creating 0)) ⊎ ((is_on_in is_connecting c w ≡ false) × (w.standing ≡ On on p))
      go true e f = inl (e, stood-handle c on (Creating 0) p f, sym (stood-phase c on (Creating 0) p f))
      go false e f = inr (e, f)

  tidy-begun : Tidy n z
  tidy-begun = record {
    numbered = λ h ch at. (let was = all-back (creating c) x.channels h ch at in t.numbered h was.0 was.1);
    given = λ i h at. given-thin x.channels z.channels h (thin-all (creating c) x.channels) (t.given i h at);
    once = t.once;
    asked = t.asked;
    subscribed = t.subscribed;
    requests = t.requests;
    subscriptions = t.subscriptions;
  }

  quiet-others : (on : Handle) (up : List Sent) → (c ≡ on → ⊥) → Quiet n x on up → Quiet n z on up
  quiet-others on up other q = record {
    named = q.named;
    ids = q.ids;
    channels = λ h ch at p stands.
        let was = all-back (creating c) x.channels h ch at in
        elim (standing-now was.0 ch was.2 on p stands) [
          | inl moved ↦ absurd (other moved.1)
          | inr stays ↦ q.channels h was.0 was.1 p stays.1
        ];
    subscriptions = q.subscriptions;
  }

  pub quiet-begun : Quiet n z c stamps
  quiet-begun = record {
    named = λ p s at. elim (each-stamped p s at) [
      | inl serves ↦ subst (λ (i : Intent). IsNamedIn n i) (sym serves) tt
      | inr creates ↦ subst (λ (i : Intent). IsNamedIn n i) (sym creates.1) tt
    ];
    ids = λ p r at. no-sub-id n r (λ a m e. not-such (Subscribe m) (no-add m) p a r at e) (λ a m e. not-such (Cancel m) (no-cancel m) p a r at e);
    channels = λ h ch at p stands.
        let was = all-back (creating c) x.channels h ch at in
        elim (standing-now was.0 ch was.2 c p stands) [
          | inl moved ↦ subst (λ (v : Phase). PhaseIn stamps (channel_number n h) v) (sym moved.2) (sent-for h was.0 was.1 moved.0)
          | inr stays ↦
              absurd (both_ways (is_on_in is_connecting c was.0) stays.0
              (is-on is_connecting c was.0 p stays.1 ∙ placed.waiting h was.0 c p was.1 stays.1
              ∙ ap (λ (o : Option ClientCircuit). is_none (option_and_then (λ (v : ClientCircuit). v.connection) o)) there ∙ ap is_none none))
        ];
    subscriptions = λ g v a number at meant. staged number g v at v.stage refl;
  }
    where
      not-such : (ask : Ask) → (Create ≡ ask → ⊥) → (p a : ℕ) (r : Sent) → At stamps p r → r.intent ≡ history.On a ask → ⊥
      not-such ask differs p a r at is = elim (each-stamped p r at) [
        | inl serves ↦ no-ask a ask (sym serves ∙ is)
        | inr creates ↦ differs (same-ask creates.0 a Create ask (sym creates.1 ∙ is))
      ]

      no-cancel : (m : ℕ) → Create ≡ Cancel m → ⊥
      no-cancel m e = cc

      no-add : (m : ℕ) → Create ≡ Subscribe m → ⊥
      no-add m e = cc

      waits-only : (p : Phase) → is_connecting p ≡ true → was_live p ≡ true → ⊥
      waits-only Connecting waits live = both_ways false refl live
      waits-only (Creating rights) waits live = both_ways false refl waits
      waits-only Doomed waits live = both_ways false refl waits
      waits-only (Live native rights) waits live = both_ways false refl waits
      waits-only Leaving waits live = both_ways false refl waits
      waits-only Clearing waits live = both_ways false refl waits

      -- a channel that was live is on no circuit that is not connected
      none-live : (h : Handle) (ch : Channel) → under x.channels h ≡ Some ch → is_on_in was_live c ch ≡ true → (s : Standing) → ch.standing ≡ s → ⊥
      none-live h ch at live Searching is = both_ways (is_on_in was_live c ch) (fails-searched was_live c ch is) live
      none-live h ch at live (On o p) is =
          let stands : ch.standing ≡ On c p = is ∙ ap (λ (k : Handle). On k p) (stands-there was_live c o ch p is live) in
          waits-only p
          (placed.waiting h ch c p at stands ∙ ap (λ (o : Option ClientCircuit). is_none (option_and_then (λ (v : ClientCircuit). v.connection) o)) there ∙ ap is_none none)
          (sym (is-on was_live c ch p stands) ∙ live)

      -- and no subscription was cancelled there
      staged : (number : ℕ) (g : Handle) (v : Subscription) → under x.subscriptions g ≡ Some v → (s : Stage) → v.stage ≡ s → StageIn c stamps number s
      staged number g v at Stands is = λ p a r there is_r. not-such (Cancel number) (no-cancel number) p a r there is_r
      staged number g v at (Ended e) is = tt
      staged number g v at (Cancelled e) is = λ same.
          (let drains : drains_in c v.stage ≡ true = ap (λ (k : Stage). drains_in c k) is ∙ ap (λ (k : Handle). same_handle k c) same ∙ same-itself c in
          let was = placed.attached.subscriptions g v c at drains in
          absurd (none-live v.channel was.0 was.1 was.2 (was.0).standing refl))

  -- what the client makes of it
  pub connected-so : (k : Option Closing) (sent : List Sending) (y : Client) → ConnectsOn x c (Some d) k sent y → Connected n x c sent y × (k ≡ None → Quiet n y c (said n c sent))
  connected-so None sent y does =
      subst (λ (w : List Sending × Client). Connected n x c w.0 w.1 × (let a : Option Closing = None in a ≡ None → Quiet n w.1 c (said n c w.0))) (λ i. (sym does.0 i, sym does.1 i)) (
        record {
          tidy = tidy-less n z (sending sends z) (less-sending sends z) tidy-begun;
          others = λ on up other q.
              subst (λ (l : List Sent). Quiet n (sending sends z) on l) (sym (ap (λ (l : List Sent). up ++ l) (said-none n c on sends other (λ i s at. (each i s at).0)) ∙ append-nil up))
              (quiet-less n z (sending sends z) on up (less-sending sends z) (quiet-others on up other q));
          plain = λ i s at. opening-plain (stamped n s) (each i s at).1;
          cids = each-cid;
        },
        λ e. subst (λ (l : List Sent). Quiet n (sending sends z) c l) (sym (said-all n c sends (λ i s at. (each i s at).0))) (quiet-less n z (sending sends z) c stamps (less-sending sends z) quiet-begun),
      )
  connected-so (Some k) sent y does =
      subst (λ (w : List Sending × Client). Connected n x c w.0 w.1 × (let a : Option Closing = Some k in a ≡ None → Quiet n w.1 c (said n c w.0))) (λ i. (sym does.1 i, sym does.2 i)) (
        record {
          tidy = tidy-less n x (ended c x) (less-ended c x) t;
          others = λ on up other q. subst (λ (l : List Sent). Quiet n (ended c x) on l) (sym (append-nil up)) (quiet-less n x (ended c x) on up (less-ended c x) q);
          plain = λ i s at. absurd cc;
          cids = λ i s at. absurd cc;
        },
        λ e. absurd (not-none e),
      )
    where
      not-none : let a : Option Closing = Some k in a ≡ None → ⊥
      not-none e = cc
