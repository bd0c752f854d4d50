-- A client's calls, datagrams and reads: in which way it speaks on each circuit.
use Rattle.std.proofs.Common.{◌≡◌, ℕ, zero, suc, ◌⊎◌, inl, inr, Bool, true, false, cond, List, [], ◌∷◌, ◌++◌, length, Option, Some, None, refl, sym, ap, ◌∙◌, subst}
use Rattle.std.specs.Prelude.{Ok, filter, map}
use Rattle.std.proofs.lemmas.Bool.{both_ways, cases_Bool}
use Rattle.ca_text.specs.Place.{At}
use Rattle.ca_text.proofs.Places.{At-mapped, At-parts, some_is}
use Rattle.ca_arena.specs.declared.handle.Handle.{Handle}
use Rattle.ca_dbr.specs.Elements.{Elements}
use Rattle.ca_ids.specs.Table.{MayGive, same_handle, under}
use Rattle.ca_monitor.specs.Subscriptions.{Subscription}
use Rattle.ca_text.specs.declared.command.Command.{Command}
use Rattle.ca_wire.specs.Fields.{Fields}
use Rattle.ca_wire.specs.Messages.{header_only}
use Rattle.ca_model.specs.Answers.{Notice, Sending}
use Rattle.ca_model.specs.Client.{Channel, Client, ClientCircuit, Clearing, Connecting, Connection, Creating, Doomed, Leaving, Live, Native, On, Phase, Searching, Standing, circuit_to, found_on, sending, standing_at, with_standing, without_channel}
use Rattle.ca_model.specs.Client as phase
use Rattle.ca_model.specs.ClientCalls.{ClientClears, ClientOpens, ClientPuts, ClientReads, ClientSubscribes, ClientWrites, IsLive, LiveChannel, Opening, Shape, cancel_sent, clear_sent, cleared, clearing_sent, event_add_sent, event_cancel_sent, new_subscription, put_sent, read_sent, unsubscribed, unsubscribed_all, unwanted, write_sent}
use Rattle.ca_model.specs.ClientEnds.{GivesOn, Receives, ReceivesAll, beacon_heard, flow_sent, given, of_circuit}
use Rattle.ca_model.specs.ClientEnds as ends
use Rattle.ca_model.specs.Ends.{Address}
use Rattle.ca_model.specs.Hears.{Effect, FindsAt, PutsOn, create_sent, found_at, put_on, searched_by, with_circuit}
use Rattle.ca_model.specs.History.{Ask, Cancel, Intent, Kind, Put, Read, Sent, Subscribe, Write}
use Rattle.ca_model.specs.History as history
use Rattle.ca_model.specs.Speech.{sid_in}
use Rattle.ca_model.proofs.Handles.{same-is, same-itself}
use Rattle.ca_model.proofs.Standings.{found-standing, never-cleared, searched-is}
use Rattle.ca_model.proofs.Tables.{changed-back}
use Rattle.ca_model.specs.ClientEvents.{cancelled, channel_number, meant_by}
use Rattle.ca_model.specs.World.{Names}
use Rattle.ca_laws_parts.specs.Held.{with_request, with_subscription}
use Rattle.ca_laws_parts.proofs.CircuitCalls.{meant-own}
use Rattle.ca_laws_parts.proofs.Marks.{at-filter}
use Rattle.ca_laws_parts.specs.Circuit.{AreGiven, AreNumbered, stamped}
use Rattle.ca_laws_parts.proofs.Named.{place-there}
use Rattle.ca_laws_parts.proofs.RunsSending.{new-name}
use Rattle.ca_laws_runs.specs.Quiet.{Tidy}
use Rattle.ca_laws_runs.proofs.Says.{one-handle, said, said-more}
use Rattle.ca_laws_runs.specs.Under.{IsUse}
use Rattle.ca_laws_runs.specs.Sides.{IsLiveAs}
use Rattle.ca_laws_runs.proofs.Live.{NoLive, NotLive, SameLive, channels-sending, channels-unwanted, live-as, live-itself, live-then, none-live, not-on, not-phase, not-searched, other-back, other-there, same-gone, same-held, same-stood, stood-none}
use Rattle.ca_laws_runs.proofs.Ways.{IsCalm, Way}

-- ---- what is said of one message

pub one-said : (n : Names) (on : Handle) (s : Sending) → ((s.circuit ≡ on) × (said n on (s ∷ []) ≡ stamped n s ∷ [])) ⊎ (said n on (s ∷ []) ≡ [])
one-said n on s = elim (cases_Bool (same_handle s.circuit on)) [
  | inl is ↦ inl (same-is s.circuit on is, ap (λ (b : Bool). map (stamped n) (cond b (s ∷ []) [])) is)
  | inr is ↦ inr (ap (λ (b : Bool). map (stamped n) (cond b (s ∷ []) [])) is)
]

pub none-said : (s : Sent) (i : ℕ) → At [] i s → ⊥
none-said s i at = cc

only-one : (r s : Sent) (i : ℕ) → At (r ∷ []) i s → s ≡ r
only-one r s zero at = sym (some_is r s at)
only-one r s (suc i) at = absurd (none-said s i at)

-- nothing is sent
pub calm-silent : (on : Handle) (n : Names) (x z : Client) → SameLive on x.channels z.channels → IsCalm on n x [] z
calm-silent on n x z same = record { same = same; opens = λ i s at. absurd (none-said s i at) }

pub way-silent : (on : Handle) (n : Names) (x z : Client) → SameLive on x.channels z.channels → Way on n x [] z
way-silent on n x z same = inl (calm-silent on n x z same)

-- a message that uses a live channel
pub way-used : (n spoken : Names) (x z : Client) (on h : Handle) (sid : ℕ) (s : Sending) (ask : Ask) → z.channels ≡ x.channels → IsLiveAs x.channels s.circuit h sid → (stamped spoken s).intent ≡ history.On (channel_number n h) ask → IsUse ask → s.message.p1 ≡ sid
    → Way on n x (said spoken on (s ∷ [])) z
way-used n spoken x z on h sid s ask same live is uses wire = elim (one-said spoken on s) [
  | inr none ↦ subst (λ (l : List Sent). Way on n x l z) (sym none) (way-silent on n x z (live-as on x.channels z.channels same))
  | inl here ↦ subst (λ (l : List Sent). Way on n x l z) (sym here.1) (inr (inl (record {
    same = live-as on x.channels z.channels same;
    h = h;
    sid = sid;
    live = subst (λ (k : Handle). IsLiveAs x.channels k h sid) here.0 live;
    uses = λ i r at. (let e = only-one (stamped spoken s) r i at in (ask, ap (λ (v : Sent). v.intent) e ∙ is, uses, ap (λ (v : Sent). sid_in v.message) e ∙ wire));
  })))
]

pub live-channel : (x : Client) (h : Handle) (l : LiveChannel) → IsLive x h l → IsLiveAs x.channels l.circuit h l.native.sid
live-channel x h l is = (let f = found-standing x h (On l.circuit (Live l.native l.rights)) is in record { ch = f.0; native = l.native; rights = l.rights; there = f.1; stands = f.2; is = refl })

-- ---- open

pub ways-open : (n : Names) (x : Client) (a : Opening) (h : Handle) (sent : List Sending) (y : Client) → ClientOpens x a (Ok h) sent y → (spoken : Names) (on : Handle) → Way on n x (said spoken on sent) y
ways-open n x a h sent y opens spoken on =
    subst (λ (v : List Sending × Client). Way on n x (said spoken on v.0) v.1) (λ i. (sym opens.2.0 i, sym opens.2.1 i))
    (way-silent on n x _ (same-held x.channels on h (record { name = a.name; priority = a.priority; standing = Searching }) opens.1 (not-searched on)))

-- numbers stay
pub number-more : (n : Names) (x : Client) (new h : Handle) (sid : ℕ) (on : Handle) → AreNumbered n x → IsLiveAs x.channels on h sid → channel_number (record n { channels = n.channels ++ new ∷ [] }) h ≡ channel_number n h
number-more n x new h sid on numbered l = place-there (same_handle h) n.channels (new ∷ []) h (numbered h l.ch l.there)

-- ---- requests

module _ (n : Names) (x : Client) (c : ℕ) (h : Handle) (t : Tidy n x) (at : At n.channels c h) where
  number : c ≡ channel_number n h
  number = sym (t.once c h at)

  module _ (given : AreGiven n.requests x.requests) where
    abbrev now : Handle → Kind → Names
    now q kind = with_request q (history.On c (history.Request kind (length n.requests))) n

    meant : (q : Handle) (kind : Kind) → MayGive x.requests q → meant_by (now q kind).requests q ≡ history.On (channel_number n h) (history.Request kind (length n.requests))
    meant q kind may =
        meant-own n.requests q (history.On c (history.Request kind (length n.requests))) (new-name n.requests x.requests q given may) ∙ ap (λ (k : ℕ). history.On k (history.Request kind (length n.requests))) number

    pub ways-read : (a : Shape) (q : Handle) (sent : List Sending) (y : Client) → ClientReads x h a (Ok q) sent y → (on : Handle) → Way on n x (said (now q Read) on sent) y
    ways-read a q sent y reads on =
        subst (λ (v : List Sending × Client). Way on n x (said (now q Read) on v.0) v.1) (λ i. (sym reads.4.0 i, sym reads.4.1 i))
        (way-used n (now q Read) x _ on h (reads.0).native.sid (read_sent h reads.0 a q) (history.Request Read (length n.requests)) refl (live-channel x h reads.0 reads.1) (meant q Read reads.3) tt refl)

    pub ways-put : (e : Elements) (q : Handle) (sent : List Sending) (y : Client) → ClientPuts x h e (Ok q) sent y → (on : Handle) → Way on n x (said (now q Put) on sent) y
    ways-put e q sent y puts on =
        subst (λ (v : List Sending × Client). Way on n x (said (now q Put) on v.0) v.1) (λ i. (sym puts.4.0 i, sym puts.4.1 i))
        (way-used n (now q Put) x _ on h (puts.0).native.sid (put_sent h puts.0 e q) (history.Request Put (length n.requests)) refl (live-channel x h puts.0 puts.1) (meant q Put puts.3) tt refl)

  pub ways-subscribe : AreGiven n.subscriptions x.subscriptions → (a : Shape) (mask : ℕ) (q : Handle) (sent : List Sending) (y : Client) → ClientSubscribes x h a mask (Ok q) sent y → (on : Handle)
      → Way on n x (said (with_subscription q (history.On c (Subscribe (length n.subscriptions))) n) on sent) y
  ways-subscribe given a mask q sent y subscribes on =
      let intent : Intent = history.On c (Subscribe (length n.subscriptions)) in
      let spoken : Names = with_subscription q intent n in
      subst (λ (v : List Sending × Client). Way on n x (said spoken on v.0) v.1) (λ i. (sym subscribes.4.0 i, sym subscribes.4.1 i))
      (way-used n spoken x _ on h (subscribes.0).native.sid (event_add_sent (subscribes.0).circuit (subscribes.0).native.sid q (new_subscription h a mask)) (Subscribe (length n.subscriptions)) refl (live-channel x h subscribes.0 subscribes.1)
      (meant-own n.subscriptions q intent (new-name n.subscriptions x.subscriptions q given subscribes.3) ∙ ap (λ (k : ℕ). history.On k (Subscribe (length n.subscriptions))) number) tt refl)

pub ways-write : (n : Names) (x : Client) (h : Handle) (e : Elements) (sent : List Sending) (y : Client) → ClientWrites x h e (Ok tt) sent y → (on : Handle) → Way on n x (said n on sent) y
ways-write n x h e sent y writes on =
    subst (λ (v : List Sending × Client). Way on n x (said n on v.0) v.1) (λ i. (sym writes.3.0 i, sym writes.3.1 i))
    (way-used n n x _ on h (writes.0).native.sid (write_sent h writes.0 e) (history.Request Write n.writes) refl (live-channel x h writes.0 writes.1) refl tt refl)

-- ---- unsubscribe

pub ways-unsubscribe : (n : Names) (x : Client) (g : Handle) (d : Subscription) → Tidy n x → under x.subscriptions g ≡ Some d → (sent : List Sending) (y : Client) → sent ≡ cancel_sent g d (standing_at x d.channel) → y ≡ sending (cancel_sent g d (standing_at x d.channel)) (unsubscribed g (standing_at x d.channel) x)
    → (on : Handle) → Way on n x (said n on sent) y
ways-unsubscribe n x g d t here sent y sent_is y_is on =
    subst (λ (v : List Sending × Client). Way on n x (said n on v.0) v.1) (λ i. (sym sent_is i, sym y_is i)) (by (standing_at x d.channel) refl)
  where
    by : (o : Option Standing) → standing_at x d.channel ≡ o → Way on n x (said n on (cancel_sent g d o)) (sending (cancel_sent g d o) (unsubscribed g o x))
    by None at = way-silent on n x _ (live-itself on x.channels)
    by (Some Searching) at = way-silent on n x _ (live-itself on x.channels)
    by (Some (On c Connecting)) at = way-silent on n x _ (live-itself on x.channels)
    by (Some (On c (Creating rights))) at = way-silent on n x _ (live-itself on x.channels)
    by (Some (On c Clearing)) at = way-silent on n x _ (live-itself on x.channels)
    by (Some (On c Doomed)) at = way-silent on n x _ (live-itself on x.channels)
    by (Some (On c Leaving)) at = way-silent on n x _ (live-itself on x.channels)
    by (Some (On c (Live native rights))) at =
        let meant = t.subscriptions g d here in
        way-used n n x _ on d.channel native.sid (event_cancel_sent c native.sid g d) (Cancel meant.0) refl (live-channel x d.channel (record { circuit = c; native = native; rights = rights }) at) (ap cancelled meant.2) tt refl

-- ---- clear

-- A live channel is cleared: it is live no more, and its CLEAR_CHANNEL is sent.
pub way-cleared : (n : Names) (x : Client) (h : Handle) (ch : Channel) (c : Handle) (native : Native) (rights : ℕ) (q : Phase) (z : Client) → AreNumbered n x → under x.channels h ≡ Some ch → ch.standing ≡ On c (Live native rights) → phase.is_live q ≡ false
    → z.channels ≡ (with_standing (On c q) h x).channels → (on : Handle) → Way on n x (said n on (clear_sent c native.sid h ∷ [])) z
way-cleared n x h ch c native rights q z numbered there stands idle same on =
    let s : Sending = clear_sent c native.sid h in
    let mid : Client = with_standing (On c q) h x in
    let own : IsLiveAs x.channels c h native.sid = record { ch = ch; native = native; rights = rights; there = there; stands = stands; is = refl } in
    elim (one-said n on s) [
      | inr none ↦ go none
      | inl here ↦
          subst (λ (l : List Sent). Way on n x l z) (sym here.1) (inr (inr (record {
            h = h;
            sid = native.sid;
            live = subst (λ (k : Handle). IsLiveAs x.channels k h native.sid) here.0 own;
            gone = λ other l. stood-none (On c q) h x.channels on (not-phase c on q idle) other (subst (λ (v : _). IsLiveAs v on h other) same l);
            others = λ g other away. (
              λ l. subst (λ (v : _). IsLiveAs v on g other) (sym same) (other-there (On c q) h x.channels on g other away l),
              λ l. other-back (On c q) h x.channels on g other away (subst (λ (v : _). IsLiveAs v on g other) same l),
            );
            alone = λ g other l e. one-handle n g h (numbered g l.ch l.there) (numbered h ch there) e;
            s = stamped n s;
            only = refl;
            clears = (refl, refl);
            is = refl;
          })))
    ]
  where
    go : said n on (clear_sent c native.sid h ∷ []) ≡ [] → Way on n x (said n on (clear_sent c native.sid h ∷ [])) z
    go none = elim (cases_Bool (same_handle c on)) [
      | inl is ↦ absurd (some-not (sym (ap (λ (b : Bool). map (stamped n) (cond b (clear_sent c native.sid h ∷ []) [])) is) ∙ none))
      | inr is ↦
          let away : c ≡ on → ⊥ = λ e. both_ways (same_handle c on) is (subst (λ (k : Handle). same_handle c k ≡ true) e (same-itself c)) in
          subst (λ (l : List Sent). Way on n x l z) (sym none)
          (way-silent on n x z
          (live-then on x.channels (with_standing (On c q) h x).channels z.channels (same-stood (On c q) h x.channels on (none-live x.channels on h ch there (λ m r e. not-on c on (Live native rights) away m r (sym stands ∙ e))) (not-on c on q away))
          (live-as on (with_standing (On c q) h x).channels z.channels same)))
    ]
      where
        some-not : stamped n (clear_sent c native.sid h) ∷ [] ≡ [] → ⊥
        some-not e = cc

pub ways-clear : (n : Names) (x : Client) (h : Handle) (notices : List Notice) (sent : List Sending) (y : Client) → ClientClears x h (Ok notices) sent y → AreNumbered n x → (on : Handle) → Way on n x (said n on sent) y
ways-clear n x h notices sent y clears numbered on =
    subst (λ (v : List Sending × Client). Way on n x (said n on v.0) v.1) (λ i. (sym clears.3.0 i, sym clears.3.1 i)) (by clears.0 clears.1 (found-standing x h clears.0 clears.1))
  where
    none : (s : Standing) (ch : Channel) → under x.channels h ≡ Some ch → ch.standing ≡ s → NotLive on s → NoLive x.channels on h
    none s ch there stands not = none-live x.channels on h ch there (λ m r e. not m r (sym stands ∙ e))

    by : (s : Standing) → standing_at x h ≡ Some s → (ch : Channel) × (under x.channels h ≡ Some ch) × (ch.standing ≡ s) → Way on n x (said n on (clearing_sent h s)) (sending (clearing_sent h s) (cleared h s x))
    by Searching at found = way-silent on n x _ (same-gone on (unsubscribed_all h x) h (none Searching found.0 found.1 found.2 (not-searched on)))
    by (On c Connecting) at found =
        let v : Client = without_channel (unsubscribed_all h x) h in
        way-silent on n x _ (live-then on x.channels v.channels (unwanted c v).channels (same-gone on (unsubscribed_all h x) h (none (On c Connecting) found.0 found.1 found.2 (not-phase c on Connecting refl))) (live-as on v.channels (unwanted c v).channels (channels-unwanted c v)))
    by (On c (Creating rights)) at found =
        way-silent on n x _ (same-stood (On c Doomed) h x.channels on (none (On c (Creating rights)) found.0 found.1 found.2 (not-phase c on (Creating rights) refl)) (not-phase c on Doomed refl))
    by (On c (Live native rights)) at found = way-cleared n x h found.0 c native rights Clearing _ numbered found.1 found.2 refl refl on
    by (On c Leaving) at found = way-silent on n x _ (same-stood (On c Clearing) h x.channels on (none (On c Leaving) found.0 found.1 found.2 (not-phase c on Leaving refl)) (not-phase c on Clearing refl))
    by (On c Clearing) at found = absurd (both_ways true (never-cleared x h c Clearing at) refl)
    by (On c Doomed) at found = absurd (both_ways true (never-cleared x h c Doomed at) refl)

-- ---- messages that serve the circuit

serve-each : (n : Names) (on : Handle) (sends : List Sending) → ((i : ℕ) (s : Sending) → At sends i s → (stamped n s).intent ≡ history.OfCircuit) → (i : ℕ) (r : Sent) → At (said n on sends) i r → r.intent ≡ history.OfCircuit
serve-each n on [] all i r at = absurd (none-said r i at)
serve-each n on (s ∷ sends) all i r at = go (same_handle s.circuit on) i at (λ k there. serve-each n on sends (λ l v in_it. all (suc l) v in_it) k r there)
  where
    go : (b : Bool) (i : ℕ) → At (map (stamped n) (cond b (s ∷ filter (λ (v : Sending). same_handle v.circuit on) sends) (filter (λ (v : Sending). same_handle v.circuit on) sends))) i r → ((k : ℕ) → At (said n on sends) k r → r.intent ≡ history.OfCircuit) → r.intent ≡ history.OfCircuit
    go true zero at rest = ap (λ (v : Sent). v.intent) (sym (some_is (stamped n s) r at)) ∙ all 0 s refl
    go true (suc i) at rest = rest i at
    go false i at rest = rest i at

-- what is said is of what was sent
pub said-at : (n : Names) (on : Handle) (sends : List Sending) (i : ℕ) (r : Sent) → At (said n on sends) i r → (l : ℕ) × (s : Sending) × At sends l s × (r ≡ stamped n s)
said-at n on sends i r at =
    let m = At-mapped (stamped n) (filter (λ (v : Sending). same_handle v.circuit on) sends) i r at in
    let f = at-filter (λ (v : Sending). same_handle v.circuit on) sends i m.0 m.1 in
    (f.0, m.0, f.1, m.2)

pub only-sent : (r s : Sending) (i : ℕ) → At (r ∷ []) i s → s ≡ r
only-sent r s zero at = sym (some_is r s at)
only-sent r s (suc i) at = absurd (none-sent s i at)
  where
    none-sent : (s : Sending) (i : ℕ) → At [] i s → ⊥
    none-sent s i at = cc

-- what is said on another circuit
pub nothing-there : (n : Names) (c on : Handle) (sends : List Sending) → (c ≡ on → ⊥) → ((i : ℕ) (s : Sending) → At sends i s → s.circuit ≡ c) → (i : ℕ) (r : Sent) → At (said n on sends) i r → ⊥
nothing-there n c on sends other all i r at =
    let m = At-mapped (stamped n) (filter (λ (v : Sending). same_handle v.circuit on) sends) i r at in
    let f = at-filter (λ (v : Sending). same_handle v.circuit on) sends i m.0 m.1 in
    other (sym (all f.0 m.0 f.1) ∙ same-is (m.0).circuit on f.2)

pub way-elsewhere : (n : Names) (x z : Client) (c on : Handle) (sends : List Sending) → (c ≡ on → ⊥) → ((i : ℕ) (s : Sending) → At sends i s → s.circuit ≡ c) → SameLive on x.channels z.channels → Way on n x (said n on sends) z
way-elsewhere n x z c on sends other all same = inl (record { same = same; opens = λ i s at. absurd (nothing-there n c on sends other all i s at) })

pub serving : (n : Names) (on : Handle) (sends : List Sending) → ((i : ℕ) (s : Sending) → At sends i s → (stamped n s).intent ≡ history.OfCircuit) → (i : ℕ) (r : Sent) → At (said n on sends) i r → r.intent ≡ history.OfCircuit
serving n on sends all i r at = serve-each n on sends all i r at

pub ways-given : (n : Names) (x : Client) (c : Handle) (bytes : List ℕ) (more : Bool) (o : Option Connection) (sent : List Sending) (y : Client) → GivesOn x c bytes more o (Ok tt) sent y → (on : Handle) → Way on n x (said n on sent) y
ways-given n x c bytes more None sent y gives on = absurd gives
ways-given n x c bytes more (Some e) sent y gives on =
    let z : Client = given c bytes more x in
    subst (λ (v : List Sending × Client). Way on n x (said n on v.0) v.1) (λ i. (sym gives.0 i, sym gives.1 i))
    (inl (record {
      same = live-as on x.channels (sending (flow_sent c more e) z).channels (channels-sending (flow_sent c more e) z);
      opens = λ i s at. inl (serving n on (flow_sent c more e) (λ k r there. (let m = At-mapped (λ (k : Command). of_circuit c (header_only k)) _ k r there in ap (λ (v : Sending). (stamped n v).intent) m.2)) i s at);
    }))

-- ---- search replies

-- From the one client to the other nothing but creations was sent, and channels keep their numbers.
pub record CalmTo (n : Names) (x : Client) (sent : List Sending) (y : Client) : Type 0 where
  pub numbered : AreNumbered n y
  pub calm : (on : Handle) → IsCalm on n x (said n on sent) y

pub calm-then : (n : Names) (x y z : Client) (ss rs : List Sending) → CalmTo n x ss y → CalmTo n y rs z → CalmTo n x (ss ++ rs) z
calm-then n x y z ss rs a b = record {
  numbered = b.numbered;
  calm = λ on. (let f = a.calm on in let g = b.calm on in
      subst (λ (l : List Sent). IsCalm on n x l z) (sym (said-more n on ss rs)) (record {
        same = live-then on x.channels y.channels z.channels f.same g.same;
        opens = λ i s at. elim (At-parts (said n on ss) (said n on rs) i s at) [
          | inl first ↦ f.opens i s first
          | inr last ↦ elim (g.opens last.0 s last.2) [
            | inl serves ↦ inl serves
            | inr opens ↦ inr (opens.0, opens.1, λ h sid is l. opens.2 h sid is ((f.same h sid).0 l))
          ]
        ];
      }));
}

pub calm-quiet : (n : Names) (x y : Client) → AreNumbered n y → ((on : Handle) → SameLive on x.channels y.channels) → CalmTo n x [] y
calm-quiet n x y numbered same = record { numbered = numbered; calm = λ on. calm-silent on n x y (same on) }

numbered-stood : (n : Names) (x : Client) (s : Standing) (h : Handle) → AreNumbered n x → AreNumbered n (with_standing s h x)
numbered-stood n x s h numbered g ch is = elim (changed-back (λ (here : Channel). record here { standing = s }) x.channels g h ch is) [
  | inl own ↦ subst (λ (k : Handle). At n.channels (channel_number n k) k) (sym own.0) (numbered h own.1.0 own.1.1)
  | inr old ↦ numbered g ch old.1
]

calm-put-on : (n : Names) (x : Client) (c : Handle) (o : Option Connection) (h : Handle) (here : Channel) (e : Effect) → AreNumbered n x → under x.channels h ≡ Some here → here.standing ≡ Searching → e ≡ put_on c o h here x → CalmTo n x e.sent e.core
calm-put-on n x c None h here e numbered there stands is =
    subst (λ (v : Effect). CalmTo n x v.sent v.core) (sym is)
    (calm-quiet n x (found_on c Connecting h x) (numbered-stood n x (On c Connecting) h numbered)
    (λ on. same-stood (On c Connecting) h x.channels on (none-live x.channels on h here there (λ m r e. not-searched on m r (sym stands ∙ e))) (not-phase c on Connecting refl)))
calm-put-on n x c (Some d) h here e numbered there stands is =
    subst (λ (v : Effect). CalmTo n x v.sent v.core) (sym is) (record {
      numbered = numbered-stood n x (On c (Creating 0)) h numbered;
      calm = λ on. record {
        same = same-stood (On c (Creating 0)) h x.channels on (none on) (not-phase c on (Creating 0) refl);
        opens = λ i s at. elim (one-said n on (create_sent c h here)) [
          | inr nothing ↦ absurd (none-said s i (subst (λ (l : List Sent). At l i s) nothing at))
          | inl mine ↦
              let one = only-one (stamped n (create_sent c h here)) s i (subst (λ (l : List Sent). At l i s) mine.1 at) in
              inr (channel_number n h, ap (λ (v : Sent). v.intent) one, λ g sid same l. none on sid (subst (λ (k : Handle). IsLiveAs x.channels on k sid) (one-handle n g h (numbered g l.ch l.there) (numbered h here there) same) l))
        ];
      };
    })
  where
    none : (on : Handle) → NoLive x.channels on h
    none on = none-live x.channels on h here there (λ m r e. not-searched on m r (sym stands ∙ e))

nothing-found : (n : Names) (x : Client) (e : Effect) (notices : List Notice) → AreNumbered n x → e ≡ record { core = x; sent = []; notices = notices } → CalmTo n x e.sent e.core
nothing-found n x e notices numbered is = subst (λ (v : Effect). CalmTo n x v.sent v.core) (sym is) (calm-quiet n x x numbered (λ on. live-itself on x.channels))

pub calm-finds : (n : Names) (x : Client) (address : Address) (cid : ℕ) (o : Option (Handle × Channel)) (e : Effect) → AreNumbered n x → searched_by cid x ≡ o → FindsAt x address o e → CalmTo n x e.sent e.core
calm-finds n x address cid None e numbered at is = nothing-found n x e [] numbered is
calm-finds n x address cid (Some (h, here)) e numbered at is = (let found = searched-is cid x h here at in puts (circuit_to address here.priority x) found.0 found.1 is)
  where
    puts : (o : Option (Handle × ClientCircuit)) → under x.channels h ≡ Some here → here.standing ≡ Searching → PutsOn x address h here o e → CalmTo n x e.sent e.core
    puts (Some (c, d)) there stands is = calm-put-on n x c d.connection h here e numbered there stands is
    puts None there stands is = elim is [
      | inr full ↦ nothing-found n x e [] numbered full.1
      | inl new ↦ (let y : Client = with_circuit new.0 _ x in let r = calm-put-on n y new.0 None h here e numbered there stands new.2 in record { numbered = r.numbered; calm = λ on. (let f = r.calm on in record { same = f.same; opens = f.opens }) })
    ]

calm-received : (n : Names) (x : Client) (from : Address) (m : Fields) (e : Effect) → AreNumbered n x → Receives from x m e → CalmTo n x e.sent e.core
calm-received n x from m e numbered (ends.Search is finds) = calm-finds n x (found_at from m) m.p2 (searched_by m.p2 x) e numbered refl finds
calm-received n x from m e numbered (ends.Beacon is port does) = subst (λ (v : Effect). CalmTo n x v.sent v.core) (sym does) (calm-quiet n x (beacon_heard from m x) numbered (λ on. live-itself on x.channels))
calm-received n x from m e numbered (ends.Other not_search not_beacon does) = nothing-found n x e [] numbered does

pub calm-all-received : (n : Names) (from : Address) (ms : List Fields) (x : Client) (e : Effect) → AreNumbered n x → ReceivesAll from x ms e → CalmTo n x e.sent e.core
calm-all-received n from [] x e numbered does = nothing-found n x e [] numbered does
calm-all-received n from (m ∷ ms) x e numbered does =
    let one = calm-received n x from m does.0 numbered does.2 in
    subst (λ (w : Effect). CalmTo n x w.sent w.core) (sym does.4)
    (calm-then n x does.0.core does.1.core does.0.sent does.1.sent one (calm-all-received n from ms does.0.core does.1 one.numbered does.3))
