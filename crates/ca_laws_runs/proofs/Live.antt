-- Which channels of a client are live on a circuit, as its table of channels changes.
use Rattle.std.proofs.Common.{◌≡◌, ℕ, suc, inl, inr, Bool, true, false, cond, List, [], ◌∷◌, Option, Some, None, refl, sym, ap, ◌∙◌, subst}
use Rattle.std.specs.Prelude.{◌==◌, fold, length, not, option_map, unwrap_or}
use Rattle.ca_arena.specs.declared.handle.Handle.{Handle}
use Rattle.ca_ids.specs.Table.{MayGive, Table, under, with_all, with_changed, with_freed, with_held}
use Rattle.ca_text.specs.Place.{At}
use Rattle.ca_model.specs.Answers.{Sending}
use Rattle.ca_model.specs.Client.{Channel, Client, ClientCircuit, Creating, Live, Native, On, Phase, Standing, channels_ended, channels_on, ended, is_cleared, is_live, is_on_in, let_go, searched_again, sending, with_one_sent, without_channel, without_circuit, without_ids}
use Rattle.ca_model.specs.Client as phase
use Rattle.ca_model.specs.ClientCalls.{unwanted}
use Rattle.ca_model.specs.ClientEnds.{creating, is_connecting}
use Rattle.ca_model.proofs.Handles.{handle-or}
use Rattle.ca_model.proofs.Standings.{fails-anywhere, is-on, on-circuit, on-one}
use Rattle.ca_model.proofs.Tables.{all-back, all-there, changed-back, changed-other, changed-own, freed-back, freed-other, held-back, held-other, one-value}
use Rattle.ca_laws_runs.specs.Sides.{IsLiveAs}

-- The same channels are live on the circuit, each under the same SID.
abbrev pub SameLive : (on : Handle) → (t u : Table Channel) → Type 0
SameLive on t u = (h : Handle) (sid : ℕ) → (IsLiveAs t on h sid → IsLiveAs u on h sid) × (IsLiveAs u on h sid → IsLiveAs t on h sid)

-- This one is not.
abbrev pub NoLive : (t : Table Channel) (on h : Handle) → Type 0
NoLive t on h = (sid : ℕ) → IsLiveAs t on h sid → ⊥

-- It stands so that it is not.
abbrev pub NotLive : (on : Handle) → Standing → Type 0
NotLive on s = (native : Native) (rights : ℕ) → s ≡ On on (Live native rights) → ⊥

pub live-itself : (on : Handle) (t : Table Channel) → SameLive on t t
live-itself on t h sid = (λ l. l, λ l. l)

pub live-then : (on : Handle) (t u v : Table Channel) → SameLive on t u → SameLive on u v → SameLive on t v
live-then on t u v a b h sid = (λ l. (b h sid).0 ((a h sid).0 l), λ l. (a h sid).1 ((b h sid).1 l))

pub live-as : (on : Handle) (t u : Table Channel) → u ≡ t → SameLive on t u
live-as on t u is = subst (λ (v : Table Channel). SameLive on t v) (sym is) (live-itself on t)

pub none-live : (t : Table Channel) (on h : Handle) (ch : Channel) → under t h ≡ Some ch → NotLive on ch.standing → NoLive t on h
none-live t on h ch there none sid l = none l.native l.rights (ap (λ (z : Channel). z.standing) (one-value t h ch l.ch there l.there) ∙ l.stands)

pub none-still : (on : Handle) (t u : Table Channel) (h : Handle) → SameLive on t u → NoLive t on h → NoLive u on h
none-still on t u h same none sid l = none sid ((same h sid).1 l)

pub at-circuit : (c on : Handle) (p q : Phase) → On c p ≡ On on q → c ≡ on
at-circuit c on p q e = cc

pub at-phase : (c on : Handle) (p q : Phase) → On c p ≡ On on q → p ≡ q
at-phase c on p q e = cc

native-is : (a b : Native) (r q : ℕ) → Live a r ≡ Live b q → a ≡ b
native-is a b r q e = cc

-- one channel, one SID
pub one-sid : (t : Table Channel) (on c h : Handle) (sid other : ℕ) → IsLiveAs t on h sid → IsLiveAs t c h other → (on ≡ c) × (sid ≡ other)
one-sid t on c h sid other a b =
    let same : a.ch ≡ b.ch = one-value t h a.ch b.ch a.there b.there in
    let e : On on (Live a.native a.rights) ≡ On c (Live b.native b.rights) = sym a.stands ∙ ap (λ (z : Channel). z.standing) same ∙ b.stands in
    (at-circuit on c (Live a.native a.rights) (Live b.native b.rights) e, sym a.is ∙ ap (λ (z : Native). z.sid) (native-is a.native b.native a.rights b.rights (at-phase on c (Live a.native a.rights) (Live b.native b.rights) e)) ∙ b.is)

-- ---- one channel changes

module _ (s : Standing) (h : Handle) (t : Table Channel) where
  abbrev there-of : Channel → Channel
  there-of ch = record ch { standing = s }

  abbrev now : Table Channel
  now = with_changed there-of h t

  -- others stay
  pub other-there : (on g : Handle) (sid : ℕ) → (g ≡ h → ⊥) → IsLiveAs t on g sid → IsLiveAs now on g sid
  other-there on g sid other l = record { ch = l.ch; native = l.native; rights = l.rights; there = changed-other there-of t g h l.ch l.there other; stands = l.stands; is = l.is }

  pub other-back : (on g : Handle) (sid : ℕ) → (g ≡ h → ⊥) → IsLiveAs now on g sid → IsLiveAs t on g sid
  other-back on g sid other l = elim (changed-back there-of t g h l.ch l.there) [
    | inl own ↦ absurd (other own.0)
    | inr old ↦ record { ch = l.ch; native = l.native; rights = l.rights; there = old.1; stands = l.stands; is = l.is }
  ]

  -- It is not live now.
  pub stood-none : (on : Handle) → NotLive on s → NoLive now on h
  stood-none on none sid l = elim (changed-back there-of t h h l.ch l.there) [
    | inl own ↦ none l.native l.rights (ap (λ (z : Channel). z.standing) (sym own.1.2) ∙ l.stands)
    | inr old ↦ old.0 refl
  ]

  -- It was not, and is not.
  pub same-stood : (on : Handle) → NoLive t on h → NotLive on s → SameLive on t now
  same-stood on was none g sid = (
    λ l. elim (handle-or g h) [
      | inl same ↦ absurd (was sid (subst (λ (k : Handle). IsLiveAs t on k sid) same l))
      | inr other ↦ other-there on g sid other l
    ],
    λ l. elim (handle-or g h) [
      | inl same ↦ absurd (stood-none on none sid (subst (λ (k : Handle). IsLiveAs now on k sid) same l))
      | inr other ↦ other-back on g sid other l
    ],
  )

-- it is live now
pub made-live : (t : Table Channel) (c h : Handle) (ch : Channel) (native : Native) (rights : ℕ) → under t h ≡ Some ch → IsLiveAs (with_changed (λ (z : Channel). record z { standing = On c (Live native rights) }) h t) c h native.sid
made-live t c h ch native rights there = record {
  ch = record ch { standing = On c (Live native rights) };
  native = native;
  rights = rights;
  there = changed-own (λ (z : Channel). record z { standing = On c (Live native rights) }) t h ch there;
  stands = refl;
  is = refl;
}

pub not-on : (c on : Handle) (p : Phase) → (c ≡ on → ⊥) → NotLive on (On c p)
not-on c on p other native rights e = other (at-circuit c on p (Live native rights) e)

pub not-phase : (c on : Handle) (p : Phase) → is_live p ≡ false → NotLive on (On c p)
not-phase c on p none native rights e =
    let f : false ≡ true = sym none ∙ ap is_live (at-phase c on p (Live native rights) e) in cc

pub not-searched : (on : Handle) → NotLive on phase.Searching
not-searched on native rights e = cc

-- with other rights
pub same-rights : (t : Table Channel) (c on h : Handle) (ch : Channel) (native : Native) (rights others : ℕ) → under t h ≡ Some ch → ch.standing ≡ On c (Live native rights) → SameLive on t (with_changed (λ (z : Channel). record z { standing = On c (Live native others) }) h t)
same-rights t c on h ch native rights others there stands = elim (handle-or c on) [
  | inr away ↦ same-stood (On c (Live native others)) h t on (none-live t on h ch there (λ m r e. not-on c on (Live native rights) away m r (sym stands ∙ e))) (not-on c on (Live native others) away)
  | inl here ↦ λ g sid. (
    λ l. elim (handle-or g h) [
      | inl same ↦
          let own : IsLiveAs t c h native.sid = record { ch = ch; native = native; rights = rights; there = there; stands = stands; is = refl } in
          let e : native.sid ≡ sid = (one-sid t c on h native.sid sid own (subst (λ (k : Handle). IsLiveAs t on k sid) same l)).1 in
          subst (λ (v : Handle × Handle × ℕ). IsLiveAs now-there v.0 v.1 v.2) (λ i. (here i, sym same i, e i)) (made-live t c h ch native others there)
      | inr other ↦ other-there (On c (Live native others)) h t on g sid other l
    ],
    λ l. elim (handle-or g h) [
      | inl same ↦
          let own : IsLiveAs t c h native.sid = record { ch = ch; native = native; rights = rights; there = there; stands = stands; is = refl } in
          let e : native.sid ≡ sid = (one-sid now-there c on h native.sid sid (made-live t c h ch native others there) (subst (λ (k : Handle). IsLiveAs now-there on k sid) same l)).1 in
          subst (λ (v : Handle × Handle × ℕ). IsLiveAs t v.0 v.1 v.2) (λ i. (here i, sym same i, e i)) own
      | inr other ↦ other-back (On c (Live native others)) h t on g sid other l
    ],
  )
]
  where
    now-there : Table Channel
    now-there = with_changed (λ (z : Channel). record z { standing = On c (Live native others) }) h t

-- ---- one is gone, or new

pub same-freed : (t : Table Channel) (on h : Handle) → NoLive t on h → SameLive on t (with_freed h t)
same-freed t on h none g sid = (
  λ l. elim (handle-or g h) [
    | inl same ↦ absurd (none sid (subst (λ (k : Handle). IsLiveAs t on k sid) same l))
    | inr other ↦ record { ch = l.ch; native = l.native; rights = l.rights; there = freed-other t g h l.ch l.there other; stands = l.stands; is = l.is }
  ],
  λ l. record { ch = l.ch; native = l.native; rights = l.rights; there = (freed-back t g h l.ch l.there).1; stands = l.stands; is = l.is },
)

pub same-held : (t : Table Channel) (on h : Handle) (ch : Channel) → MayGive t h → NotLive on ch.standing → SameLive on t (with_held h ch t)
same-held t on h ch may none g sid = (
  λ l. record { ch = l.ch; native = l.native; rights = l.rights; there = held-other t g h ch l.ch may l.there; stands = l.stands; is = l.is },
  λ l. elim (held-back t g h ch l.ch l.there) [
    | inl own ↦ absurd (none l.native l.rights (ap (λ (z : Channel). z.standing) (sym own.1) ∙ l.stands))
    | inr old ↦ record { ch = l.ch; native = l.native; rights = l.rights; there = old; stands = l.stands; is = l.is }
  ],
)

-- ---- a circuit is connected

pub same-begun : (t : Table Channel) (on c : Handle) → SameLive on t (with_all (creating c) t)
same-begun t on c g sid = (
  λ l.
      let plain : creating c l.ch ≡ l.ch = ap (λ (b : Bool). cond b (record l.ch { standing = On c (Creating 0) }) l.ch) (fails-anywhere is_connecting c on l.ch (Live l.native l.rights) l.stands refl) in
      record { ch = l.ch; native = l.native; rights = l.rights; there = all-there (creating c) t g l.ch l.there ∙ ap (λ (z : Channel). Some z) plain; stands = l.stands; is = l.is },
  λ l. (let was = all-back (creating c) t g l.ch l.there in back l was.0 was.1 (is_on_in is_connecting c was.0) (ap (λ (z : Channel). z.standing) (sym was.2) ∙ l.stands)),
)
  where
    back : (l : IsLiveAs (with_all (creating c) t) on g sid) → (u : Channel) → under t g ≡ Some u → (b : Bool) → (cond b (record u { standing = On c (Creating 0) }) u).standing ≡ On on (Live l.native l.rights) → IsLiveAs t on g sid
    back l u there true e = absurd (not-phase c on (Creating 0) refl l.native l.rights e)
    back l u there false e = record { ch = u; native = l.native; rights = l.rights; there = there; stands = e; is = l.is }

-- ---- several change

none-after : (on : Handle) (f : Client → Handle → Client) → ((y : Client) (h : Handle) → NoLive y.channels on h → SameLive on y.channels (f y h).channels) → (hs : List Handle) (y : Client) → ((i : ℕ) (h : Handle) → At hs i h → NoLive y.channels on h) → SameLive on y.channels (fold f y hs).channels
none-after on f one [] y none = live-itself on y.channels
none-after on f one (h ∷ hs) y none =
    let first : SameLive on y.channels (f y h).channels = one y h (none 0 h refl) in
    live-then on y.channels (f y h).channels (fold f (f y h) hs).channels first (none-after on f one hs (f y h) (λ i g at. none-still on y.channels (f y h).channels g first (none (suc i) g at)))

pub same-gone : (on : Handle) (y : Client) (h : Handle) → NoLive y.channels on h → SameLive on y.channels (without_channel y h).channels
same-gone on y h none = same-freed y.channels on h none

pub same-again : (on : Handle) (y : Client) (h : Handle) → NoLive y.channels on h → SameLive on y.channels (searched_again y h).channels
same-again on y h none = same-stood phase.Searching h y.channels on none (not-searched on)

-- a circuit is let go, and messages wait
pub channels-let-go : (c : Handle) (d : ClientCircuit) (x : Client) → (let_go c d x).channels ≡ x.channels
channels-let-go c d x = go d.is_name
  where
    go : (b : Bool) → (cond b (phase.disconnected c x) (without_circuit c x)).channels ≡ x.channels
    go true = refl
    go false = refl

pub channels-unwanted : (c : Handle) (x : Client) → (unwanted c x).channels ≡ x.channels
channels-unwanted c x = go (length (channels_on (λ (p : Phase). true) c x) == 0)
  where
    left : (o : Option ClientCircuit) → (unwrap_or (option_map (λ (d : ClientCircuit). let_go c d x) o) x).channels ≡ x.channels
    left None = refl
    left (Some d) = channels-let-go c d x

    go : (b : Bool) → (cond b (unwrap_or (option_map (λ (d : ClientCircuit). let_go c d x) (under x.circuits c)) x) x).channels ≡ x.channels
    go true = left (under x.circuits c)
    go false = refl

pub channels-sending : (sends : List Sending) (x : Client) → (sending sends x).channels ≡ x.channels
channels-sending [] x = refl
channels-sending (s ∷ sends) x = channels-sending sends (with_one_sent x s)

-- An end has ended: on other circuits the same are live.
pub same-ended : (on c : Handle) (x : Client) → (c ≡ on → ⊥) → SameLive on x.channels (ended c x).channels
same-ended on c x other = go (under x.circuits c)
  where
    y : Client
    y = without_ids c x

    mid : Client
    mid = fold without_channel y (channels_on is_cleared c y)

    on-c : (test : Phase → Bool) (i : ℕ) (h : Handle) → At (channels_on test c y) i h → NoLive y.channels on h
    on-c test i h at sid l =
        let r = on-circuit test c y i h at in
        let same : r.0 ≡ l.ch = one-value y.channels h r.0 l.ch r.1 l.there in
        other (on-one test is_live c on l.ch (subst (λ (z : Channel). is_on_in test c z ≡ true) same r.2) (is-on is_live on l.ch (Live l.native l.rights) l.stands))

    first : SameLive on y.channels mid.channels
    first = none-after on without_channel (λ z h none. same-gone on z h none) (channels_on is_cleared c y) y (on-c is_cleared)

    all : SameLive on y.channels (channels_ended c y).channels
    all = live-then on y.channels mid.channels (channels_ended c y).channels first
        (none-after on searched_again (λ z h none. same-again on z h none) (channels_on (λ (p : Phase). not (is_cleared p)) c y) mid
        (λ i h at. none-still on y.channels mid.channels h first (on-c (λ (p : Phase). not (is_cleared p)) i h at)))

    go : (o : Option ClientCircuit) → SameLive on x.channels (unwrap_or (option_map (λ (d : ClientCircuit). let_go c d (channels_ended c y)) o) x).channels
    go None = live-itself on x.channels
    go (Some d) = live-then on x.channels (channels_ended c y).channels (let_go c d (channels_ended c y)).channels all (live-as on (channels_ended c y).channels (let_go c d (channels_ended c y)).channels (channels-let-go c d (channels_ended c y)))
