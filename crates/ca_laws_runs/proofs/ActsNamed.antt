-- What an event leaves of the channels that clients opened, by what it leaves of one client, of
-- logs and of circuits: each CREATE_CHAN has the name under which its channel was opened, and each
-- channel that is cleared was by a call.
use Rattle.std.proofs.Common.{◌≡◌, ℕ, zero, suc, ◌+◌, ◌<◌, ◌≤◌, ◌⊎◌, inl, inr, Bool, true, false, ◌&&◌, cond, eqb, List, [], ◌∷◌, ◌++◌, length, Some, refl, sym, ap, ◌∙◌, subst, arith}
use Rattle.std.specs.Prelude.{Contains, Ok, filter, map, not, slice_set, take}
use Rattle.std.specs.List.{before_first, prefix_len}
use Rattle.std.proofs.lemmas.Bool.{and_parts, both_ways, eqb-true}
use Rattle.std.proofs.lemmas.List.{append-nil, append_assoc}
use Rattle.ca_text.specs.Place.{At}
use Rattle.ca_text.proofs.Places.{At-append, At-after, At-last, At-mapped, At-one, At-parts, At-set, some_is}
use Rattle.ca_arena.specs.declared.handle.Handle.{Handle}
use Rattle.ca_ids.specs.Table.{same_handle, under}
use Rattle.ca_ids.specs.Wire.{wire_of}
use Rattle.ca_wire.specs.Messages.{create_request}
use Rattle.ca_model.specs.Answers.{Aim, Notice, Sending}
use Rattle.ca_model.specs.Answers as aim
use Rattle.ca_model.specs.Client.{Channel, Client, Searching}
use Rattle.ca_model.specs.ClientCalls.{ClientOpens, Opening, opened}
use Rattle.ca_model.specs.History.{Called, Create, Intent, Line, Nothing, On, OfCircuit, Opened, Sent, Subscribe}
use Rattle.ca_model.specs.History as history
use Rattle.ca_model.specs.Speech.{In, name_in}
use Rattle.ca_model.proofs.Tables.{held-back, length-more}
use Rattle.ca_model.proofs.Thinner.{number-or}
use Rattle.ca_model.specs.ClientEvents.{Outcomes, cancelled, channel_number, client_after, intent_of, line_of, lines_of, meant_by, sent_on}
use Rattle.ca_model.specs.World.{ClientSide, Joined, Names, World, with_lines}
use Rattle.ca_laws_parts.proofs.Marks.{at-filter}
use Rattle.ca_laws_parts.specs.Circuit.{stamped}
use Rattle.ca_laws_parts.proofs.Named.{place-there}
use Rattle.ca_laws_runs.specs.Quiet.{Tidy}
use Rattle.ca_laws_runs.proofs.OnceWorld.{AllSame, IsEndAfter, LogsAfter, OnceStand, after-sent, logs-grown, logs-still}
use Rattle.ca_laws_runs.proofs.Says.{meant-at}
use Rattle.ca_laws_runs.proofs.ActsTitles.{Titled, nobody}
use Rattle.ca_laws_runs.proofs.OnceLess.{is_gone}

-- ---- the name in a CREATE_CHAN

text-is : (name rest : List ℕ) → (Contains name 0 → ⊥) → before_first (λ b. eqb b 0) (name ++ 0 ∷ rest) ≡ name
text-is [] rest whole = refl
text-is (b ∷ name) rest whole = go (eqb b 0) refl (λ more. text-is name rest more)
  where
    go : (t : Bool) → eqb b 0 ≡ t → ((Contains name 0 → ⊥) → before_first (λ z. eqb z 0) (name ++ 0 ∷ rest) ≡ name) → before_first (λ z. eqb z 0) ((b ∷ name) ++ 0 ∷ rest) ≡ b ∷ name
    go true is more = absurd (whole (0, omega arith, eqb-true b 0 is))
    go false is more =
        subst (λ (t : Bool). take (cond (not t) (1 + prefix_len (λ z. not (eqb z 0)) (name ++ 0 ∷ rest)) 0) ((b ∷ name) ++ 0 ∷ rest) ≡ b ∷ name) (sym is)
        (let n : ℕ = prefix_len (λ z. not (eqb z 0)) (name ++ 0 ∷ rest) in
        let e : 1 + n ≡ suc n = omega arith in
        subst (λ (m : ℕ). take m (b ∷ (name ++ 0 ∷ rest)) ≡ b ∷ name) (sym e) (ap (λ (l : List ℕ). b ∷ l) (more (λ c. whole (suc c.0, (let lt : c.0 < length name = c.1 in omega (arith, lt)), c.2)))))

pub name-is : (cid : ℕ) (name : List ℕ) → (Contains name 0 → ⊥) → name_in (create_request cid name) ≡ name
name-is cid name whole = ap (λ (l : List ℕ). before_first (λ b. eqb b 0) l) (append_assoc name (0 ∷ []) _) ∙ text-is name _ whole

-- ---- what is told of channels

-- The channels of clients by their numbers, beside the logs of their lives: each that is there was
-- opened under its name, and no two have one number; one that is cleared has its call. Each
-- CREATE_CHAN that was sent has the name under which its channel was opened.
pub record NamesStand (w : World) : Type 0 where
  pub titled : (i : ℕ) (x : ClientSide) (log : List Line) (h : Handle) (ch : Channel) → At w.clients i x → At w.client_logs x.life log → under x.core.channels h ≡ Some ch
      → In log (Opened (channel_number x.names h) ch.name) × (Contains ch.name 0 → ⊥)
  pub cleared : (i : ℕ) (x : ClientSide) (log : List Line) (h : Handle) (ch : Channel) → At w.clients i x → At w.client_logs x.life log → under x.core.channels h ≡ Some ch
      → is_gone ch.standing ≡ true → In log (Called (On (channel_number x.names h) history.Clear) Nothing)
  pub few : (i : ℕ) (x : ClientSide) (log : List Line) (p c : ℕ) (name : List ℕ) → At w.clients i x → At w.client_logs x.life log → At log p (Opened c name) → c < length x.names.channels
  pub once : (life : ℕ) (log : List Line) (p q c : ℕ) (a b : List ℕ) → At w.client_logs life log → At log p (Opened c a) → At log q (Opened c b) → p ≡ q
  pub said : (k p a : ℕ) (j : Joined) (log : List Line) (s : Sent) → At w.circuits k j → At w.client_logs j.lists.client log → At j.lists.up p s → s.intent ≡ On a Create → In log (Opened a (name_in s.message))

-- What a call leaves of that: these messages are spoken under these names, and
-- these lines are logged.
pub record NamesCalls (n : Names) (x : Client) (spoken : Names) (sent : List Sending) (lines : List Line) (now : Names) (y : Client) : Type 0 where
  pub stay : (h : Handle) (ch : Channel) → under y.channels h ≡ Some ch
      → ((w : Channel) × (under x.channels h ≡ Some w) × (ch.name ≡ w.name) × (channel_number now h ≡ channel_number n h)
      × (is_gone ch.standing ≡ true → (is_gone w.standing ≡ true) ⊎ In lines (Called (On (channel_number now h) history.Clear) Nothing)))
      ⊎ (In lines (Opened (channel_number now h) ch.name) × (Contains ch.name 0 → ⊥) × (is_gone ch.standing ≡ false))
  pub creates : (i : ℕ) (s : Sending) (a : ℕ) → At sent i s → intent_of spoken s.aim ≡ On a Create
      → (h : Handle) × (w : Channel) × (under x.channels h ≡ Some w) × (a ≡ channel_number n h) × (s.message ≡ create_request (wire_of h) w.name)
  pub opens : (p c : ℕ) (name : List ℕ) → At lines p (Opened c name) → (p ≡ 0) × (c ≡ length n.channels) × (c < length now.channels)
  pub more : length n.channels ≤ length now.channels

-- lines by which nothing is opened
abbrev pub NoOpened : List Line → Type 0
NoOpened lines = (p c : ℕ) (name : List ℕ) → At lines p (Opened c name) → ⊥

pub no-opened : NoOpened []
no-opened p c name at = cc

pub notices-no-opened : (about : Intent) (n : Names) (notices : List Notice) → NoOpened (lines_of about n notices)
notices-no-opened about n notices p c name at = (let m = At-mapped (line_of about n) notices p (Opened c name) at in by m.0 m.2)
  where
    by : (k : Notice) → Opened c name ≡ line_of about n k → ⊥
    by (aim.Live h) is = cc
    by (aim.Lost h) is = cc
    by (aim.Completed q o) is = cc
    by (aim.Update s o) is = cc
    by (aim.SubscriptionEnded s status) is = cc
    by (aim.WriteRefused h status) is = cc

pub one-no-opened : (l : Line) (rest : List Line) → ((c : ℕ) (name : List ℕ) → l ≡ Opened c name → ⊥) → NoOpened rest → NoOpened (l ∷ rest)
one-no-opened l rest other none zero c name at = other c name (some_is l (Opened c name) at)
one-no-opened l rest other none (suc p) c name at = none p c name at

-- a message that is meant to create a channel has that aim
create-aim : (n : Names) (c : Client) → Tidy n c → (a : Aim) (number : ℕ) → intent_of n a ≡ On number Create → (h : Handle) × (a ≡ aim.Create h) × (number ≡ channel_number n h)
create-aim n c t aim.OfCircuit number is = absurd (let e : OfCircuit ≡ On number Create = is in cc)
create-aim n c t (aim.Create h) number is = (h, refl, number-of is)
  where
    number-of : On (channel_number n h) Create ≡ On number Create → number ≡ channel_number n h
    number-of e = cc
create-aim n c t (aim.Clear h) number is = absurd (let e : On (channel_number n h) history.Clear ≡ On number Create = is in cc)
create-aim n c t (aim.Write h) number is = absurd (let e : On (channel_number n h) (history.Request history.Write n.writes) ≡ On number Create = is in cc)
create-aim n c t (aim.Read h q) number is = absurd (no-request n c t q number is)
  where
    no-request : (n : Names) (c : Client) → Tidy n c → (q : Handle) (number : ℕ) → meant_by n.requests q ≡ On number Create → ⊥
    no-request n c t q number is =
        let f = meant-at n.requests q number Create is in
        let s = t.asked f.0 f.1 f.2 in
        let e : On s.0 (history.Request s.1 f.0) ≡ On number Create = sym s.2 ∙ f.4 in
        cc
create-aim n c t (aim.Put h q) number is = absurd (no-request n c t q number is)
  where
    no-request : (n : Names) (c : Client) → Tidy n c → (q : Handle) (number : ℕ) → meant_by n.requests q ≡ On number Create → ⊥
    no-request n c t q number is =
        let f = meant-at n.requests q number Create is in
        let s = t.asked f.0 f.1 f.2 in
        let e : On s.0 (history.Request s.1 f.0) ≡ On number Create = sym s.2 ∙ f.4 in
        cc
create-aim n c t (aim.Subscribe h g) number is = absurd (no-subscription n c t g number is)
  where
    no-subscription : (n : Names) (c : Client) → Tidy n c → (g : Handle) (number : ℕ) → meant_by n.subscriptions g ≡ On number Create → ⊥
    no-subscription n c t g number is =
        let f = meant-at n.subscriptions g number Create is in
        let s = t.subscribed f.0 f.1 f.2 in
        let e : On s.0 (Subscribe f.0) ≡ On number Create = sym s.1 ∙ f.4 in
        cc
create-aim n c t (aim.Cancel h g) number is = absurd (by (meant_by n.subscriptions g) refl is)
  where
    no-subscription : meant_by n.subscriptions g ≡ On number Create → ⊥
    no-subscription e =
        let f = meant-at n.subscriptions g number Create e in
        let s = t.subscribed f.0 f.1 f.2 in
        let d : On s.0 (Subscribe f.0) ≡ On number Create = sym s.1 ∙ f.4 in
        cc

    by : (i : Intent) → meant_by n.subscriptions g ≡ i → cancelled i ≡ On number Create → ⊥
    by OfCircuit e d = cc
    by (On a Create) e d = no-subscription (e ∙ d)
    by (On a history.Clear) e d = cc
    by (On a (history.Request kind m)) e d = cc
    by (On a (Subscribe m)) e d = cc
    by (On a (history.Cancel m)) e d = cc

-- a call that opens no channel
pub calls-titled : (gone may : Handle → Type 0) (n : Names) (x : Client) (spoken : Names) (sent : List Sending) (lines : List Line) (now : Names) (y c : Client) → Tidy spoken c → spoken.channels ≡ n.channels → now.channels ≡ n.channels → Titled gone may x sent y → NoOpened lines
    → ((h : Handle) → gone h → In lines (Called (On (channel_number now h) history.Clear) Nothing)) → NamesCalls n x spoken sent lines now y
calls-titled gone may n x spoken sent lines now y c tidy spoken_same now_same t none tells = record {
  stay = λ h ch is. (let w = t.stay h ch is in inl (
    w.0,
    w.1,
    w.2,
    ap (λ (l : List Handle). channel_number (record n { channels = l }) h) now_same,
    λ cleared. elim (w.3 cleared) [
      | inl was ↦ inl was
      | inr own ↦ inr (tells h own)
    ],
  ));
  creates = λ i s a at is.
      let b = create-aim spoken c tidy s.aim a is in
      let w = (t.named i s b.0 at).0 b.1 in
      (b.0, w.0, w.1, b.2 ∙ ap (λ (l : List Handle). channel_number (record n { channels = l }) b.0) spoken_same, w.2);
  opens = λ p number name at. absurd (none p number name at);
  more = (let e : length now.channels ≡ length n.channels = ap (λ (l : List Handle). length l) now_same in omega (arith, e));
}

-- the call that opens one
pub calls-opened : (n : Names) (x : Client) (a : Opening) (h : Handle) (sent : List Sending) (y : Client) → ClientOpens x a (Ok h) sent y → Tidy n x → Tidy (record n { channels = n.channels ++ h ∷ [] }) y
    → (let now : Names = record n { channels = n.channels ++ h ∷ [] } in NamesCalls n x now sent (Opened (length n.channels) a.name ∷ []) now y)
calls-opened n x a h sent y opens t u = record {
  stay = λ g ch is. elim (held-back x.channels g h new ch (subst (λ (z : Client). under z.channels g ≡ Some ch) y_is is)) [
    | inr old ↦ inl (ch, old, refl, place-there (same_handle g) n.channels (h ∷ []) g (t.numbered g ch old), λ cleared. inl cleared)
    | inl own ↦ inr (
      (0, ap (λ (v : ℕ × List ℕ). Some (Opened v.0 v.1)) (λ i. (sym (number g own.0) i, sym (ap (λ (z : Channel). z.name) own.1) i))),
      λ c. opens.0.0.whole (subst (λ (l : List ℕ). Contains l 0) (ap (λ (z : Channel). z.name) own.1) c),
      ap (λ (z : Channel). is_gone z.standing) own.1,
    )
  ];
  creates = λ i s number at. absurd (nothing i s (subst (λ (l : List Sending). At l i s) opens.2.0 at));
  opens = λ p c name at. only p c name at;
  more = (let e : length (n.channels ++ h ∷ []) ≡ length n.channels + 1 = length-more n.channels h in omega (arith, e));
}
  where
    now : Names
    now = record n { channels = n.channels ++ h ∷ [] }

    new : Channel
    new = record { name = a.name; priority = a.priority; standing = Searching }

    y_is : y ≡ opened a h x
    y_is = opens.2.1

    nothing : (i : ℕ) (s : Sending) → (let l : List Sending = [] in At l i s) → ⊥
    nothing i s at = cc

    number : (g : Handle) → g ≡ h → channel_number now g ≡ length n.channels
    number g is = ap (λ (k : Handle). channel_number now k) is ∙ u.once (length n.channels) h (At-last n.channels h)

    number-of : (c d : ℕ) (e f : List ℕ) → Opened c e ≡ Opened d f → c ≡ d
    number-of c d e f is = cc

    only : (p c : ℕ) (name : List ℕ) → At (Opened (length n.channels) a.name ∷ []) p (Opened c name) → (p ≡ 0) × (c ≡ length n.channels) × (c < length (n.channels ++ h ∷ []))
    only zero c name at =
        let is : c ≡ length n.channels = sym (number-of (length n.channels) c a.name name (some_is (Opened (length n.channels) a.name) (Opened c name) at)) in
        (refl, is, (let e : length (n.channels ++ h ∷ []) ≡ length n.channels + 1 = length-more n.channels h in omega (arith, e, is)))
    only (suc p) c name at = absurd cc

-- ---- a world after an event

-- no client changes, nothing is logged and nothing is sent
pub names-same : (w new : World) → new.clients ≡ w.clients → new.client_logs ≡ w.client_logs → AllSame w.circuits new.circuits → NamesStand w → NamesStand new
names-same w new same logs all s = record {
  titled = λ i x log h ch at there is. s.titled i x log h ch (was i x at) (old x.life log there) is;
  cleared = λ i x log h ch at there is gone. s.cleared i x log h ch (was i x at) (old x.life log there) is gone;
  few = λ i x log p c name at there line. s.few i x log p c name (was i x at) (old x.life log there) line;
  once = λ life log p q c a b at first second. s.once life log p q c a b (old life log at) first second;
  said = λ k p a j log r at there place is.
      let m = all k j at in
      s.said k p a m.0 log r m.1 (subst (λ (l : ℕ). At w.client_logs l log) m.2.life (old j.lists.client log there)) (subst (λ (l : List Sent). At l p r) m.2.up place) is;
}
  where
    was : (i : ℕ) (x : ClientSide) → At new.clients i x → At w.clients i x
    was i x at = subst (λ (l : List ClientSide). At l i x) same at

    old : (life : ℕ) (log : List Line) → At new.client_logs life log → At w.client_logs life log
    old life log at = subst (λ (l : List (List Line)). At l life log) logs at

in-more : (log lines : List Line) (l : Line) → In log l → In (log ++ lines) l
in-more log lines l there = (there.0, At-append log lines there.0 l there.1)

-- each comes from one that was sent, on an open end of that client under that handle
on-circuit-sent : (i : ℕ) (n : Names) (sent : List Sending) (a : Joined) (q : ℕ) (r : Sent) → At (sent_on i n sent a) q r → (a.client ≡ i) × (a.lists.client_open ≡ true) × ((m : ℕ) × (s : Sending) × At sent m s × (r ≡ stamped n s))
on-circuit-sent i n sent a q r at = go (eqb a.client i && a.lists.client_open) refl at
  where
    go : (b : Bool) → (eqb a.client i && a.lists.client_open) ≡ b → At (cond b (map (stamped n) (filter (λ (s : Sending). same_handle s.circuit a.at_client) sent)) []) q r
        → (a.client ≡ i) × (a.lists.client_open ≡ true) × ((m : ℕ) × (s : Sending) × At sent m s × (r ≡ stamped n s))
    go true is at =
        let both = and_parts (eqb a.client i) a.lists.client_open is in
        let m = At-mapped (stamped n) (filter (λ (s : Sending). same_handle s.circuit a.at_client) sent) q r at in
        let f = at-filter (λ (s : Sending). same_handle s.circuit a.at_client) sent q m.0 m.1 in
        (eqb-true a.client i both.0, both.1, (f.0, m.0, f.1, m.2))
    go false is at = absurd cc

module _ (w new : World) (i : ℕ) (x z : ClientSide) (spoken : Names) (sent : List Sending) (lines : List Line) (at_x : At w.clients i x)
    (clients : (l : ℕ) (y : ClientSide) → At new.clients l y → ((l ≡ i) × (y ≡ z)) ⊎ (At w.clients l y × (l ≡ i → ⊥)))
    (life : z.life ≡ x.life) (logs : LogsAfter w.client_logs new.client_logs x.life lines)
    (after : (k : ℕ) (j : Joined) → At new.circuits k j → (a : Joined) × At w.circuits k a × IsEndAfter i spoken sent a j)
    (calls : NamesCalls x.names x.core spoken sent lines z.names z.core) (o : OnceStand w) (s : NamesStand w) where
  -- the log of its life as it was, and that of another
  own-log : (log : List Line) → At new.client_logs x.life log → (old : List Line) × At w.client_logs x.life old × (log ≡ old ++ lines)
  own-log log there = elim (logs.0 x.life log there) [
    | inl grew ↦ grew.1
    | inr other ↦ absurd (other.1 refl)
  ]

  of-others : (l : ℕ) (y : ClientSide) (log : List Line) → At w.clients l y → (l ≡ i → ⊥) → At new.client_logs y.life log → At w.client_logs y.life log
  of-others l y log at other there = elim (logs.0 y.life log there) [
    | inl grew ↦ absurd (other (o.apart l i y x at at_x grew.0))
    | inr same ↦ same.0
  ]

  -- what a log says now it told, or is new
  pub names-moved : NamesStand new
  names-moved = record {
    titled = λ l y log h ch at there is. elim (clients l y at) [
      | inr old ↦ s.titled l y log h ch old.0 (of-others l y log old.0 old.1 there) is
      | inl here ↦
          let own = own-log log (subst (λ (n : ℕ). At new.client_logs n log) (ap (λ (v : ClientSide). v.life) here.1 ∙ life) there) in
          subst (λ (v : List Line × ClientSide). In v.0 (Opened (channel_number v.1.names h) ch.name) × (Contains ch.name 0 → ⊥)) (λ t. (sym own.2 t, sym here.1 t))
          (elim (calls.stay h ch (subst (λ (v : ClientSide). under v.core.channels h ≡ Some ch) here.1 is)) [
            | inl kept ↦
                let r = s.titled i x own.0 h kept.0 at_x own.1 kept.1 in (
                  in-more own.0 lines _ (subst (λ (v : ℕ × List ℕ). In own.0 (Opened v.0 v.1)) (λ t. (sym kept.3 t, sym kept.2 t)) r.0),
                  λ c. r.1 (subst (λ (v : List ℕ). Contains v 0) kept.2 c),
                )
            | inr fresh ↦ ((length own.0 + fresh.0.0, At-after own.0 lines fresh.0.0 _ fresh.0.1), fresh.1)
          ])
    ];
    cleared = λ l y log h ch at there is gone. elim (clients l y at) [
      | inr old ↦ s.cleared l y log h ch old.0 (of-others l y log old.0 old.1 there) is gone
      | inl here ↦
          let own = own-log log (subst (λ (n : ℕ). At new.client_logs n log) (ap (λ (v : ClientSide). v.life) here.1 ∙ life) there) in
          subst (λ (v : List Line × ClientSide). In v.0 (Called (On (channel_number v.1.names h) history.Clear) Nothing)) (λ t. (sym own.2 t, sym here.1 t))
          (elim (calls.stay h ch (subst (λ (v : ClientSide). under v.core.channels h ≡ Some ch) here.1 is)) [
            | inl kept ↦ elim (kept.4 gone) [
              | inl was ↦ in-more own.0 lines _ (subst (λ (v : ℕ). In own.0 (Called (On v history.Clear) Nothing)) (sym kept.3) (s.cleared i x own.0 h kept.0 at_x own.1 kept.1 was))
              | inr now ↦ (length own.0 + now.0, At-after own.0 lines now.0 _ now.1)
            ]
            | inr fresh ↦ absurd (both_ways (is_gone ch.standing) fresh.2 gone)
          ])
    ];
    few = λ l y log p c name at there line. elim (clients l y at) [
      | inr old ↦ s.few l y log p c name old.0 (of-others l y log old.0 old.1 there) line
      | inl here ↦
          let own = own-log log (subst (λ (n : ℕ). At new.client_logs n log) (ap (λ (v : ClientSide). v.life) here.1 ∙ life) there) in
          subst (λ (v : ClientSide). c < length v.names.channels) (sym here.1)
          (elim (At-parts own.0 lines p (Opened c name) (subst (λ (v : List Line). At v p (Opened c name)) own.2 line)) [
            | inl first ↦ (let lt : c < length x.names.channels = s.few i x own.0 p c name at_x own.1 first in let le : length x.names.channels ≤ length z.names.channels = calls.more in omega (arith, lt, le))
            | inr later ↦ (calls.opens later.0 c name later.2).2
          ])
    ];
    once = λ l log p q c a b at first second. elim (logs.0 l log at) [
      | inr other ↦ s.once l log p q c a b other.0 first second
      | inl grew ↦
          let old : List Line = grew.1.0 in
          let mine : At w.client_logs x.life old = subst (λ (n : ℕ). At w.client_logs n old) grew.0 grew.1.1 in
          elim (At-parts old lines p (Opened c a) (subst (λ (v : List Line). At v p (Opened c a)) grew.1.2 first)) [
            | inl early ↦ elim (At-parts old lines q (Opened c b) (subst (λ (v : List Line). At v q (Opened c b)) grew.1.2 second)) [
              | inl too ↦ s.once x.life old p q c a b mine early too
              | inr later ↦ absurd (let lt : c < length x.names.channels = s.few i x old p c a at_x mine early in let e : c ≡ length x.names.channels = (calls.opens later.0 c b later.2).1 in omega (arith, lt, e))
            ]
            | inr late ↦ elim (At-parts old lines q (Opened c b) (subst (λ (v : List Line). At v q (Opened c b)) grew.1.2 second)) [
              | inl early ↦ absurd (let lt : c < length x.names.channels = s.few i x old q c b at_x mine early in let e : c ≡ length x.names.channels = (calls.opens late.0 c a late.2).1 in omega (arith, lt, e))
              | inr later ↦
                  let m : late.0 ≡ 0 = (calls.opens late.0 c a late.2).0 in
                  let n : later.0 ≡ 0 = (calls.opens later.0 c b later.2).0 in
                  late.1 ∙ ap (λ (v : ℕ). length old + v) (m ∙ sym n) ∙ sym later.1
            ]
          ]
    ];
    said = λ k p a j log r at there place is.
        let m = after k j at in
        let mine : At new.client_logs (m.0).lists.client log = subst (λ (n : ℕ). At new.client_logs n log) m.2.life there in
        elim (At-parts (m.0).lists.up (sent_on i spoken sent m.0) p r (subst (λ (v : List Sent). At v p r) m.2.up place)) [
          | inl first ↦ elim (logs.0 (m.0).lists.client log mine) [
            | inr other ↦ s.said k p a m.0 log r m.1 other.0 first is
            | inl grew ↦ subst (λ (v : List Line). In v (Opened a (name_in r.message))) (sym grew.1.2) (in-more grew.1.0 lines _ (s.said k p a m.0 grew.1.0 r m.1 grew.1.1 first is))
          ]
          | inr later ↦
              let c = on-circuit-sent i spoken sent m.0 later.0 r later.2 in
              let owns : (m.0).lists.client ≡ x.life = o.ends k m.0 x m.1 (subst (λ (n : ℕ). At w.clients n x) (sym c.0) at_x) c.1 in
              let own = own-log log (subst (λ (n : ℕ). At new.client_logs n log) owns mine) in
              let u = c.2.1 in
              let t = calls.creates c.2.0 u a c.2.2 (ap (λ (v : Sent). v.intent) (sym c.2.3) ∙ is) in
              let g = s.titled i x own.0 t.0 t.1 at_x own.1 t.2 in
              let message : name_in r.message ≡ (t.1).name = ap (λ (v : Sent). name_in v.message) c.2.3 ∙ ap name_in t.4 ∙ name-is (wire_of t.0) (t.1).name g.1 in
              subst (λ (v : List Line). In v (Opened a (name_in r.message))) (sym own.2)
              (in-more own.0 lines _ (subst (λ (v : ℕ × List ℕ). In own.0 (Opened v.0 v.1)) (λ e. (sym t.3 e, sym message e)) g.0))
        ];
  }

-- ---- calls

-- a call of client i
pub names-called : (w : World) (i : ℕ) (x : ClientSide) (spoken : Names) (o : Outcomes) → At w.clients i x → NamesCalls x.names x.core spoken o.sent o.lines o.names o.core → OnceStand w → NamesStand w → NamesStand (client_after i x spoken o w)
names-called w i x spoken o at calls once s =
    let z : ClientSide = record x { core = o.core; names = o.names } in
    let t = once.there i x at in
    names-moved w (client_after i x spoken o w) i x z spoken o.sent o.lines at (λ l y there. At-set w.clients i z l y there) refl (logs-grown w.client_logs x.life o.lines t.0 t.1) (after-sent i spoken o.sent w.circuits) calls once s

pub nothing-sent : (i : ℕ) (n : Names) (a : Joined) → IsEndAfter i n [] a a
nothing-sent i n a = record { client = refl; life = refl; opens = λ o. o; up = by (eqb a.client i && a.lists.client_open) }
  where
    by : (b : Bool) → a.lists.up ≡ a.lists.up ++ cond b [] []
    by true = sym (append-nil a.lists.up)
    by false = sym (append-nil a.lists.up)

-- a client's core alone changes
pub names-core : (w new : World) (i : ℕ) (x z : ClientSide) → At w.clients i x → new.clients ≡ slice_set w.clients i z → z.life ≡ x.life → new.client_logs ≡ w.client_logs → new.circuits ≡ w.circuits → NamesCalls x.names x.core x.names [] [] z.names z.core → OnceStand w → NamesStand w
    → NamesStand new
names-core w new i x z at clients life logs circuits calls once s =
    names-moved w new i x z x.names [] [] at (λ l y there. At-set w.clients i z l y (subst (λ (c : List ClientSide). At c l y) clients there)) life
    (subst (λ (v : List (List Line)). LogsAfter w.client_logs v x.life []) (sym logs) (logs-still w.client_logs x.life))
    (λ k j there. (j, subst (λ (c : List Joined). At c k j) circuits there, nothing-sent i x.names j)) calls once s

-- lines are logged by which nothing is opened
pub names-lines : (w : World) (i : ℕ) (x : ClientSide) (lines : List Line) → At w.clients i x → Tidy x.names x.core → NoOpened lines → OnceStand w → NamesStand w → NamesStand (with_lines x.life lines w)
names-lines w i x lines at tidy none once s =
    let t = once.there i x at in
    names-moved w (with_lines x.life lines w) i x x x.names [] lines at
    (λ l y there. elim (number-or l i) [
      | inl same ↦ inl (same, At-one w.clients i y x (subst (λ (n : ℕ). At w.clients n y) same there) at)
      | inr other ↦ inr (there, other)
    ]) refl (logs-grown w.client_logs x.life lines t.0 t.1) (λ k j there. (j, there, nothing-sent i x.names j))
    (calls-titled nobody nobody x.names x.core x.names [] lines x.names x.core x.core tidy refl refl (record { stay = λ h ch is. (ch, is, refl, λ gone. inl gone); named = λ m r h place. absurd (nowhere m r place) }) none (λ h own. absurd own)) once s
  where
    nowhere : (m : ℕ) (r : Sending) → (let l : List Sending = [] in At l m r) → ⊥
    nowhere m r place = cc
