-- What a client's calls send on one circuit: one message more, and then all of a call.
use Rattle.std.proofs.Common.{◌≡◌, ℕ, zero, suc, inl, inr, Bool, true, false, cond, List, [], ◌∷◌, ◌++◌, Option, Some, None, refl, sym, ap, ◌∙◌, subst}
use Rattle.std.specs.Prelude.{filter, find, map, option_map, unwrap_or}
use Rattle.std.proofs.lemmas.Bool.{both_ways}
use Rattle.std.proofs.lemmas.List.{append-nil, append_assoc, map-append}
use Rattle.std.proofs.lemmas.List.Elements.{filter-append}
use Rattle.ca_text.specs.Place.{At}
use Rattle.ca_text.proofs.Places.{At-one, At-snoc}
use Rattle.ca_arena.specs.declared.handle.Handle.{Handle}
use Rattle.ca_ids.specs.Table.{same_handle, under}
use Rattle.ca_ids.specs.Wire.{wire_of}
use Rattle.ca_monitor.specs.Subscriptions.{Stage, Stands, Subscription}
use Rattle.ca_model.specs.Answers.{Sending}
use Rattle.ca_model.specs.Client.{Channel, Client, Live, Native, On, Phase}
use Rattle.ca_model.specs.History.{Ask, Cancel, Intent, Kind, Sent, Subscribe}
use Rattle.ca_model.specs.History as history
use Rattle.ca_model.proofs.Handles.{handle-or, same-is, same-itself}
use Rattle.ca_model.proofs.Tables.{find-at, one-value}
use Rattle.ca_model.specs.ClientEvents.{channel_number, meant_by}
use Rattle.ca_model.specs.World.{Names}
use Rattle.ca_laws_parts.specs.Circuit.{stamped}
use Rattle.ca_laws_runs.specs.Quiet.{AreAddedApart, AreSubIds, HasCid, HaveCids, HasNumber, HasSubId, IsNamedIn, IsOfUse, PhaseIn, Quiet, StageIn, StandsIn, Tidy}
use Rattle.ca_laws_runs.proofs.Phases.{phase-other, phase-used, same-ask, same-number, stage-added, stage-other}
use Rattle.ca_laws_runs.proofs.CidsSaid.{cids-one, cids-parts}
use Rattle.ca_laws_runs.proofs.Lesser.{Less, quiet-less, tidy-less}

-- ---- names

-- what has one number is one channel
pub one-handle : (n : Names) (h g : Handle) → HasNumber n h → HasNumber n g → channel_number n h ≡ channel_number n g → h ≡ g
one-handle n h g a b same = At-one n.channels (channel_number n g) h g (subst (λ (k : ℕ). At n.channels k h) same a) b

-- what is meant by a handle is so by its name
pub meant-at : (names : List (Handle × Intent)) (g : Handle) (a : ℕ) (ask : Ask) → meant_by names g ≡ history.On a ask → (i : ℕ) × (e : Handle × Intent) × At names i e × (e.0 ≡ g) × (e.1 ≡ history.On a ask)
meant-at names g a ask is = go (find (λ (x : Handle × Intent). same_handle x.0 g) names) refl is
  where
    no-intent : history.OfCircuit ≡ history.On a ask → ⊥
    no-intent e = cc

    go : (o : Option (Handle × Intent)) → find (λ (x : Handle × Intent). same_handle x.0 g) names ≡ o → unwrap_or (option_map (λ (x : Handle × Intent). x.1) o) history.OfCircuit ≡ history.On a ask
        → (i : ℕ) × (e : Handle × Intent) × At names i e × (e.0 ≡ g) × (e.1 ≡ history.On a ask)
    go None found e = absurd (no-intent e)
    go (Some x) found e = (let f = find-at (λ (x : Handle × Intent). same_handle x.0 g) names x found in (f.0, x, f.1, same-is x.0 g f.2, e))

number-of : (a b m k : ℕ) → history.On a (Subscribe m) ≡ history.On b (Subscribe k) → m ≡ k
number-of a b m k e = cc

request-number : (a b m k : ℕ) (kind other : Kind) → history.On a (history.Request kind m) ≡ history.On b (history.Request other k) → m ≡ k
request-number a b m k kind other e = cc

-- what is meant by a subscription is at the place of its number
pub subscribed-at : (n : Names) (x : Client) (g : Handle) (a m : ℕ) → Tidy n x → meant_by n.subscriptions g ≡ history.On a (Subscribe m) → At n.subscriptions m (g, history.On a (Subscribe m))
subscribed-at n x g a m t is =
    let f = meant-at n.subscriptions g a (Subscribe m) is in
    let s = t.subscribed f.0 f.1 f.2 in
    let e : f.0 ≡ m = sym (number-of a s.0 m f.0 (sym f.4 ∙ s.1)) in
    subst (λ (z : ℕ × (Handle × Intent)). At n.subscriptions z.0 z.1) (λ i. (e i, (f.3 i, f.4 i))) f.2

pub asked-at : (n : Names) (x : Client) (q : Handle) (a m : ℕ) (kind : Kind) → Tidy n x → meant_by n.requests q ≡ history.On a (history.Request kind m) → At n.requests m (q, history.On a (history.Request kind m))
asked-at n x q a m kind t is =
    let f = meant-at n.requests q a (history.Request kind m) is in
    let s = t.asked f.0 f.1 f.2 in
    let e : f.0 ≡ m = sym (request-number a s.0 m f.0 kind s.1 (sym f.4 ∙ s.2)) in
    subst (λ (z : ℕ × (Handle × Intent)). At n.requests z.0 z.1) (λ i. (e i, (f.3 i, f.4 i))) f.2

-- one number, one subscription
pub one-subscription : (n : Names) (x : Client) (g k : Handle) (a b m : ℕ) → Tidy n x → meant_by n.subscriptions g ≡ history.On a (Subscribe m) → meant_by n.subscriptions k ≡ history.On b (Subscribe m) → g ≡ k
one-subscription n x g k a b m t p q = ap (λ (e : Handle × Intent). e.0) (At-one n.subscriptions m (g, history.On a (Subscribe m)) (k, history.On b (Subscribe m)) (subscribed-at n x g a m t p) (subscribed-at n x k b m t q))

pub named-more : (n : Names) (up : List Sent) (s : Sent) → ((p : ℕ) (r : Sent) → At up p r → IsNamedIn n r.intent) → IsNamedIn n s.intent → (p : ℕ) (r : Sent) → At (up ++ s ∷ []) p r → IsNamedIn n r.intent
named-more n up s were is p r at = elim (At-snoc up s p r at) [
  | inl old ↦ were p r old
  | inr new ↦ subst (λ (z : Sent). IsNamedIn n z.intent) (sym new.1) is
]

pub ids-more : (n : Names) (up : List Sent) (s : Sent) → ((p : ℕ) (r : Sent) → At up p r → HasSubId n r) → HasSubId n s → (p : ℕ) (r : Sent) → At (up ++ s ∷ []) p r → HasSubId n r
ids-more n up s were is p r at = elim (At-snoc up s p r at) [
  | inl old ↦ were p r old
  | inr new ↦ subst (λ (z : Sent). HasSubId n z) (sym new.1) is
]

-- no message about a subscription
pub no-sub-id : (n : Names) (s : Sent) → ((a m : ℕ) → s.intent ≡ history.On a (Subscribe m) → ⊥) → ((a m : ℕ) → s.intent ≡ history.On a (Cancel m) → ⊥) → HasSubId n s
no-sub-id n s adds cancels = λ a m w. absurd (elim w [ inl e ↦ adds a m e | inr e ↦ cancels a m e ])

-- so it is of an EVENT_CANCEL and its EVENT_ADD
pub sub-ids : (n : Names) (x : Client) (on : Handle) (up : List Sent) → Quiet n x on up → AreSubIds up
sub-ids n x on up quiet = λ p q a b m r s at there adds cancels.
    let f = quiet.ids p r at a m (inl adds) in
    let g = quiet.ids q s there b m (inr cancels) in
    f.3 ∙ ap (λ (e : Handle × Intent). wire_of e.0) (At-one n.subscriptions m (f.0, f.1) (g.0, g.1) f.2 g.2) ∙ sym g.3

-- ---- one message more

on-self : (h k : Handle) (p q : Phase) → On h p ≡ On k q → p ≡ q
on-self h k p q e = cc

module _ (n : Names) (y : Client) (on : Handle) (up : List Sent) (s : Sent) (t : Tidy n y) (q : Quiet n y on up) where
  -- it serves the circuit
  pub quiet-circuit : s.intent ≡ history.OfCircuit → Quiet n y on (up ++ s ∷ [])
  quiet-circuit is = record {
    named = named-more n up s q.named (subst (λ (i : Intent). IsNamedIn n i) (sym is) tt);
    ids = ids-more n up s q.ids (no-sub-id n s (λ a m e. none a (Subscribe m) (sym is ∙ e)) (λ a m e. none a (Cancel m) (sym is ∙ e)));
    channels = λ h ch there p stands. phase-other up s (channel_number n h) p (λ ask e. none (channel_number n h) ask (sym is ∙ e)) (q.channels h ch there p stands);
    subscriptions = λ g d a m there meant.
        stage-other on up s m d.stage (λ b e. none b (Subscribe m) (sym is ∙ e)) (λ b e. none b (Cancel m) (sym is ∙ e)) (q.subscriptions g d a m there meant);
  }
    where
      none : (a : ℕ) (ask : Ask) → history.OfCircuit ≡ history.On a ask → ⊥
      none a ask e = cc

  -- It uses a channel that is live there.
  module _ (h : Handle) (ch : Channel) (native : Native) (rights : ℕ) (ask : Ask) (there : under y.channels h ≡ Some ch) (stands : ch.standing ≡ On on (Live native rights)) (uses : IsOfUse ask) (is : s.intent ≡ history.On (channel_number n h) ask) where
    pub channels-used : (g : Handle) (w : Channel) → under y.channels g ≡ Some w → StandsIn on (up ++ s ∷ []) (channel_number n g) w.standing
    channels-used g w at p stood = elim (handle-or g h) [
      | inl same ↦
          let one : w ≡ ch = one-value y.channels h w ch (subst (λ (k : Handle). under y.channels k ≡ Some w) same at) there in
          let live : p ≡ Live native rights = on-self on on p (Live native rights) (sym stood ∙ ap (λ (z : Channel). z.standing) one ∙ stands) in
          let was : PhaseIn up (channel_number n g) (Live native rights) = subst (λ (z : Phase). PhaseIn up (channel_number n g) z) live (q.channels g w at p stood) in
          subst (λ (z : Phase). PhaseIn (up ++ s ∷ []) (channel_number n g) z) (sym live)
          (phase-used up s (channel_number n g) was.0 (λ other e. subst (λ (z : Ask). IsOfUse z) (same-ask (channel_number n h) (channel_number n g) ask other (sym is ∙ e)) uses) was.1 was.2)
      | inr other ↦
          phase-other up s (channel_number n g) p
          (λ asks e. other (sym (one-handle n h g (t.numbered h ch there) (t.numbered g w at) (same-number (channel_number n h) (channel_number n g) ask asks (sym is ∙ e)))))
          (q.channels g w at p stood)
    ]

    -- for a request
    pub quiet-asked : IsNamedIn n s.intent → ((m : ℕ) → ask ≡ Subscribe m → ⊥) → ((m : ℕ) → ask ≡ Cancel m → ⊥) → Quiet n y on (up ++ s ∷ [])
    quiet-asked named no-add no-cancel = record {
      named = named-more n up s q.named named;
      ids = ids-more n up s q.ids (no-sub-id n s (λ a m e. no-add m (same-ask (channel_number n h) a ask (Subscribe m) (sym is ∙ e))) (λ a m e. no-cancel m (same-ask (channel_number n h) a ask (Cancel m) (sym is ∙ e))));
      channels = channels-used;
      subscriptions = λ g d a m at meant.
          stage-other on up s m d.stage (λ b e. no-add m (same-ask (channel_number n h) b ask (Subscribe m) (sym is ∙ e))) (λ b e. no-cancel m (same-ask (channel_number n h) b ask (Cancel m) (sym is ∙ e))) (q.subscriptions g d a m at meant);
    }

    -- for a subscription that stands
    pub quiet-subscribed : (k : Handle) (v : Subscription) (b m : ℕ) → under y.subscriptions k ≡ Some v → v.stage ≡ Stands → meant_by n.subscriptions k ≡ history.On b (Subscribe m) → s.intent ≡ meant_by n.subscriptions k → s.message.p2 ≡ wire_of k → Quiet n y on (up ++ s ∷ [])
    quiet-subscribed k v b m here stage meant_k said wire = record {
      named = named-more n up s q.named (subst (λ (i : Intent). IsNamedIn n i) (sym (said ∙ meant_k)) (k, subscribed-at n y k b m t meant_k));
      ids = ids-more n up s q.ids (λ a r w. elim w [
        | inl e ↦ (k, history.On b (Subscribe m), subst (λ (z : ℕ). At n.subscriptions z (k, history.On b (Subscribe m))) (number-of b a m r (sym (said ∙ meant_k) ∙ e)) (subscribed-at n y k b m t meant_k), wire)
        | inr e ↦ absurd (no-cancel b a m r (sym (said ∙ meant_k) ∙ e))
      ]);
      channels = channels-used;
      subscriptions = λ g d a r at meant. elim (handle-or g k) [
        | inl same ↦
            let one : d ≡ v = one-value y.subscriptions k d v (subst (λ (z : Handle). under y.subscriptions z ≡ Some d) same at) here in
            let at_stage : d.stage ≡ Stands = ap (λ (z : Subscription). z.stage) one ∙ stage in
            subst (λ (z : Stage). StageIn on (up ++ s ∷ []) r z) (sym at_stage)
            (stage-added on up s r b m (said ∙ meant_k) (subst (λ (z : Stage). StageIn on up r z) at_stage (q.subscriptions g d a r at meant)))
        | inr other ↦
            stage-other on up s r d.stage (λ c e. other (one-subscription n y g k a b r t meant (subst (λ (z : ℕ). meant_by n.subscriptions k ≡ history.On b (Subscribe z)) (number-of b c m r (sym (said ∙ meant_k) ∙ e)) meant_k)))
            (λ c e. no-cancel b c m r (sym (said ∙ meant_k) ∙ e)) (q.subscriptions g d a r at meant)
      ];
    }
      where
        no-cancel : (a c m r : ℕ) → history.On a (Subscribe m) ≡ history.On c (Cancel r) → ⊥
        no-cancel a c m r e = cc

-- ---- all that a call sent

-- on the circuit of this handle
abbrev pub said : Names → (on : Handle) → List Sending → List Sent
said n on sent = map (stamped n) (filter (λ (s : Sending). same_handle s.circuit on) sent)

pub said-more : (n : Names) (on : Handle) (ss rs : List Sending) → said n on (ss ++ rs) ≡ said n on ss ++ said n on rs
said-more n on ss rs = ap (λ (l : List Sending). map (stamped n) l) (filter-append (λ (s : Sending). same_handle s.circuit on) ss rs) ∙ map-append (stamped n) (filter (λ (s : Sending). same_handle s.circuit on) ss) (filter (λ (s : Sending). same_handle s.circuit on) rs)

-- From the one client to the other, by a call that sent these: what was sent stays ss channels
-- and subscriptions are.
pub record Moved (n : Names) (x : Client) (spoken : Names) (sent : List Sending) (now : Names) (y : Client) : Type 0 where
  pub tidy : Tidy now y
  pub quiet : (on : Handle) (up : List Sent) → Quiet n x on up → Quiet now y on (up ++ said spoken on sent)
  pub apart : (on : Handle) (up : List Sent) → Quiet n x on up → AreAddedApart up → AreAddedApart (up ++ said spoken on sent)
  pub cids : (on : Handle) (up : List Sent) → HaveCids n.channels up → HaveCids now.channels (up ++ said spoken on sent)

pub moved-less : (n : Names) (x y : Client) → Less x y → Tidy n x → Moved n x n [] n y
moved-less n x y less t =
    record {
      tidy = tidy-less n x y less t;
      quiet = λ on up q. subst (λ (l : List Sent). Quiet n y on l) (sym (append-nil up)) (quiet-less n x y on up less q);
      apart = λ on up q h. subst (λ (l : List Sent). AreAddedApart l) (sym (append-nil up)) h;
      cids = λ on up h. subst (λ (l : List Sent). HaveCids n.channels l) (sym (append-nil up)) h;
    }

pub moved-then : (n : Names) (x y z : Client) (ss rs : List Sending) → Moved n x n ss n y → Moved n y n rs n z → Moved n x n (ss ++ rs) n z
moved-then n x y z ss rs a b = record {
  tidy = b.tidy;
  quiet = λ on up q.
      subst (λ (l : List Sent). Quiet n z on l) (append_assoc up (said n on ss) (said n on rs) ∙ ap (λ (l : List Sent). up ++ l) (sym (said-more n on ss rs)))
      (b.quiet on (up ++ said n on ss) (a.quiet on up q));
  apart = λ on up q h.
      subst (λ (l : List Sent). AreAddedApart l) (append_assoc up (said n on ss) (said n on rs) ∙ ap (λ (l : List Sent). up ++ l) (sym (said-more n on ss rs)))
      (b.apart on (up ++ said n on ss) (a.quiet on up q) (a.apart on up q h));
  cids = λ on up h.
      subst (λ (l : List Sent). HaveCids n.channels l) (append_assoc up (said n on ss) (said n on rs) ∙ ap (λ (l : List Sent). up ++ l) (sym (said-more n on ss rs)))
      (b.cids on (up ++ said n on ss) (a.cids on up h));
}

-- and then something by which nothing is sent
pub moved-less-then : (n spoken now : Names) (x y z : Client) (ss : List Sending) → Moved n x spoken ss now y → Less y z → Moved n x spoken ss now z
moved-less-then n spoken now x y z ss a less = record { tidy = tidy-less now y z less a.tidy; quiet = λ on up q. quiet-less now y z on (up ++ said spoken on ss) less (a.quiet on up q); apart = a.apart; cids = a.cids }

-- one message: on its own circuit, and on the others
pub moved-one : (n spoken now : Names) (x y : Client) (s : Sending) → Tidy now y → ((up : List Sent) → Quiet n x s.circuit up → Quiet now y s.circuit (up ++ stamped spoken s ∷ []))
    → ((on : Handle) (up : List Sent) → (s.circuit ≡ on → ⊥) → Quiet n x on up → Quiet now y on up) → ((up : List Sent) → Quiet n x s.circuit up → AreAddedApart up → AreAddedApart (up ++ stamped spoken s ∷ []))
    → now.channels ≡ n.channels → HasCid n.channels (stamped spoken s) → Moved n x spoken (s ∷ []) now y
moved-one n spoken now x y s t near far added same_it own = record { tidy = t; quiet = λ on up q. go on up q (same_handle s.circuit on) refl; apart = λ on up q h. by on up q h (same_handle s.circuit on) refl; cids = λ on up h. subst (λ (l : List Handle). HaveCids l (up ++ said spoken on (s ∷ []))) (sym same_it) (cids-parts n.channels up (said spoken on (s ∷ [])) h (one on (same_handle s.circuit on))) }
  where
    one : (on : Handle) (b : Bool) → HaveCids n.channels (map (stamped spoken) (cond b (s ∷ []) []))
    one on true = cids-one n.channels (stamped spoken s) own
    one on false = λ p r at. absurd cc

    by : (on : Handle) (up : List Sent) → Quiet n x on up → AreAddedApart up → (b : Bool) → same_handle s.circuit on ≡ b → AreAddedApart (up ++ map (stamped spoken) (cond b (s ∷ []) []))
    by on up q h true is = added up (subst (λ (k : Handle). Quiet n x k up) (sym (same-is s.circuit on is)) q) h
    by on up q h false is = subst (λ (l : List Sent). AreAddedApart l) (sym (append-nil up)) h

    go : (on : Handle) (up : List Sent) → Quiet n x on up → (b : Bool) → same_handle s.circuit on ≡ b → Quiet now y on (up ++ map (stamped spoken) (cond b (s ∷ []) []))
    go on up q true is =
        let e : s.circuit ≡ on = same-is s.circuit on is in
        subst (λ (k : Handle). Quiet now y k (up ++ stamped spoken s ∷ [])) e (near up (subst (λ (k : Handle). Quiet n x k up) (sym e) q))
    go on up q false is = subst (λ (l : List Sent). Quiet now y on l) (sym (append-nil up)) (far on up (λ e. both_ways (same_handle s.circuit on) is (subst (λ (k : Handle). same_handle s.circuit k ≡ true) e (same-self s.circuit))) q)
      where
        same-self : (h : Handle) → same_handle h h ≡ true
        same-self h = same-itself h

-- messages each of which keeps what holds of the client
pub quiet-each : (n : Names) (y : Client) (on : Handle) (ss : List Sending) → ((i : ℕ) (s : Sending) (up : List Sent) → At ss i s → s.circuit ≡ on → Quiet n y on up → Quiet n y on (up ++ stamped n s ∷ [])) → (up : List Sent) → Quiet n y on up → Quiet n y on (up ++ said n on ss)
quiet-each n y on [] each up q = subst (λ (l : List Sent). Quiet n y on l) (sym (append-nil up)) q
quiet-each n y on (s ∷ ss) each up q = go (same_handle s.circuit on) refl (λ l r. quiet-each n y on ss (λ i r up at same q. each (suc i) r up at same q) l r)
  where
    go : (b : Bool) → same_handle s.circuit on ≡ b → ((l : List Sent) → Quiet n y on l → Quiet n y on (l ++ said n on ss)) → Quiet n y on (up ++ map (stamped n) (cond b (s ∷ filter (λ (r : Sending). same_handle r.circuit on) ss) (filter (λ (r : Sending). same_handle r.circuit on) ss)))
    go true is rest = subst (λ (l : List Sent). Quiet n y on l) (append_assoc up (stamped n s ∷ []) (said n on ss)) (rest (up ++ stamped n s ∷ []) (each zero s up refl (same-is s.circuit on is) q))
    go false is rest = rest up q
