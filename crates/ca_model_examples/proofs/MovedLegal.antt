-- What is sent on each circuit of a channel that moves is legal.
use Rattle.std.proofs.Common.{◌≡◌, ℕ, ◌<◌, ◌≤◌, ◌⊎◌, inl, inr, [], refl, sym, ap, subst, ◌+◌, arith}
use Rattle.std.specs.Prelude.{take, Bool}
use Rattle.ca_text.specs.Place.{At}
use Rattle.ca_text.proofs.Places.{some_is}
use Rattle.ca_text.specs.declared.command.Command.TheVariants as command
use Rattle.ca_dbr.specs.declared.value.Outcome.{Outcome}
use Rattle.ca_wire.specs.Fields.{Fields}
use Rattle.ca_wire.specs.Header.{number16}
use Rattle.ca_model.specs.Speech.{Cid, Creates, Gives, Id, In, Ioid, Is, SubId}
use Rattle.ca_model.specs.Sends.{Conduct, HasChannel, IsConnected, IsFree, IsOnChannel, IsOpenAt, IsRefused, LegalClient, LegalServer, ReadsBetween, SameIndex}
use Rattle.ca_model.specs.History.{Noticed, Circuit, On, Create, Line, Called, Clear, Cancel, Subscribe, Sent, Step, Nothing, Wish}
use Rattle.ca_model.specs.Channels.{IsHeld, Meant}
use Rattle.ca_model.specs.Legal.{BecomesLive, IsCalled, LegalCircuit, client_conduct, server_conduct}
use Rattle.ca_model_examples.specs.Worlds.{adding, created_told, creating, step}
use Rattle.ca_model_examples.specs.Moved.{moved, moved_entries, moved_lines}
use Rattle.ca_model_examples.specs.Parts as part
use Rattle.ca_model_examples.proofs.Lists.{each-at, at-take}
use Rattle.ca_model_examples.proofs.Sent.{quiet-sent, unrefused}
use Rattle.ca_model_examples.proofs.Reopened.{intent-of, noticed-intent}
use Rattle.ca_model_examples.proofs.MovedActs.{no-removal, reply-at}

-- ---- the client's log

pub call-at : (o p : Outcome) (i channel number : ℕ) (a : Wish) → At (moved_lines o p) i (Called (On channel (Subscribe number)) a) → (i ≡ 2) × (On 0 (Subscribe 0) ≡ On channel (Subscribe number))
call-at o p i channel number a at =
    each-at (λ (k : ℕ) (l : Line). l ≡ Called (On channel (Subscribe number)) a → (k ≡ 2) × (On 0 (Subscribe 0) ≡ On channel (Subscribe number))) (moved_lines o p) (
      (λ e. absurd cc),
      ((λ e. absurd cc), ((λ e. (refl, ap intent-of e)), ((λ e. absurd cc), ((λ e. absurd cc), ((λ e. absurd cc), ((λ e. absurd cc), tt)))))),
    ) i _ at refl

-- no line clears a channel or cancels a subscription
pub no-clear-line : (o p : Outcome) (n channel : ℕ) → In (take n (moved_lines o p)) (Called (On channel Clear) Nothing) → ⊥
no-clear-line o p n channel h =
    each-at (λ (k : ℕ) (l : Line). l ≡ Called (On channel Clear) Nothing → ⊥) (moved_lines o p) (
      (λ e. cc),
      ((λ e. cc), ((λ e. (let f = ap intent-of e in cc)), ((λ e. cc), ((λ e. cc), ((λ e. cc), ((λ e. cc), tt)))))),
    ) h.0 _ (at-take n (moved_lines o p) h.0 _ h.1) refl

no-cancel-line : (o p : Outcome) (n channel number : ℕ) → In (take n (moved_lines o p)) (Called (On channel (Cancel number)) Nothing) → ⊥
no-cancel-line o p n channel number h =
    each-at (λ (k : ℕ) (l : Line). l ≡ Called (On channel (Cancel number)) Nothing → ⊥) (moved_lines o p) (
      (λ e. cc),
      ((λ e. cc), ((λ e. (let f = ap intent-of e in cc)), ((λ e. cc), ((λ e. cc), ((λ e. cc), ((λ e. cc), tt)))))),
    ) h.0 _ (at-take n (moved_lines o p) h.0 _ h.1) refl

pub is-held : (o p : Outcome) (n channel number : ℕ) → IsHeld (take n (moved_lines o p)) (On channel (Subscribe number))
is-held o p n channel number = (no-clear-line o p n channel, no-cancel-line o p n channel number)

-- no line tells what became of a subscription
no-refusal : (o p q : Outcome) (n channel number : ℕ) → In (take n (moved_lines o p)) (Noticed (On channel (Subscribe number)) q) → ⊥
no-refusal o p q n channel number h =
    each-at (λ (k : ℕ) (l : Line). l ≡ Noticed (On channel (Subscribe number)) q → ⊥) (moved_lines o p) (
      (λ e. cc),
      (
        (λ e. (let f = ap noticed-intent e in cc)),
        ((λ e. cc), ((λ e. cc), ((λ e. (let f = ap noticed-intent e in cc)), ((λ e. (let f = ap noticed-intent e in cc)), ((λ e. cc), tt))))),
      ),
    ) h.0 _ (at-take n (moved_lines o p) h.0 _ h.1) refl

-- a CREATE_CHAN is on no channel
not-on : {A : Type 0} → IsOnChannel creating.message → A
not-on on =
    elim on [
      | inl a ↦ absurd (omega (arith, a))
      | inr b ↦ elim b [
        | inl a ↦ absurd (omega (arith, a))
        | inr d ↦ elim d [
          | inl a ↦ absurd (omega (arith, a))
          | inr e ↦ elim e [
            | inl a ↦ absurd (omega (arith, a))
            | inr f ↦ elim f [
              | inl a ↦ absurd (omega (arith, a))
              | inr a ↦ absurd (omega (arith, a))
            ]
          ]
        ]
      ]
    ]

-- ---- both circuits have one form

module _ (server live read value : ℕ) (stays : Bool) where
  abbrev c : Circuit
  c = moved server live read value stays

  abbrev cl : Conduct
  cl = client_conduct c

  abbrev sv : Conduct
  sv = server_conduct c

  -- ---- the client

  no-clear : (l : ℕ) (r : Fields) → At cl.sent l r → Is command.ClearChannel r → ⊥
  no-clear l r at is = each-at (λ (i : ℕ) (m : Fields). Is command.ClearChannel m → ⊥) cl.sent ((λ e. omega (arith, e)), ((λ e. omega (arith, e)), tt)) l r at is

  no-disconnect : (l : ℕ) (r : Fields) → At cl.came l r → Is command.ServerDisconnect r → ⊥
  no-disconnect l r at is = each-at (λ (i : ℕ) (m : Fields). Is command.ServerDisconnect m → ⊥) cl.came ((λ e. omega (arith, e)), ((λ e. omega (arith, e)), ((λ e. omega (arith, e)), tt))) l r at is

  no-cancel : (l : ℕ) (r : Fields) → At cl.sent l r → Is command.EventCancel r → ⊥
  no-cancel l r at is = each-at (λ (i : ℕ) (m : Fields). Is command.EventCancel m → ⊥) cl.sent ((λ e. omega (arith, e)), ((λ e. omega (arith, e)), tt)) l r at is

  has-channel : HasChannel cl 1 0 1 1 5
  has-channel = (
    creating.message,
    created_told.message,
    refl,
    (refl, refl),
    (1, refl, refl, omega arith, omega arith),
    (refl, refl),
    refl,
    (λ l r after early at clears. absurd (no-clear l r at clears.0)),
  )

  -- the one CID and the one subscription id
  ids-at : (l : ℕ) (r : Fields) (a : Id) → At cl.sent l r → Gives r a → ((a ≡ Cid 1) × (l ≡ 0)) ⊎ ((a ≡ SubId 9) × (l ≡ 1))
  ids-at l r (Cid n) at gives =
      each-at (λ (i : ℕ) (m : Fields). Gives m (Cid n) → ((Cid n ≡ Cid 1) × (i ≡ 0)) ⊎ ((Cid n ≡ SubId 9) × (i ≡ 1))) cl.sent (
        (λ g. inl (ap Cid (sym g.1), refl)),
        ((λ g. (let e = g.0 in absurd (omega (arith, e)))), tt),
      ) l r at gives
  ids-at l r (SubId n) at gives =
      each-at (λ (i : ℕ) (m : Fields). Gives m (SubId n) → ((SubId n ≡ Cid 1) × (i ≡ 0)) ⊎ ((SubId n ≡ SubId 9) × (i ≡ 1))) cl.sent (
        (λ g. (let e = g.0 in absurd (omega (arith, e)))),
        ((λ g. inr (ap SubId (sym g.1), refl)), tt),
      ) l r at gives
  ids-at l r (Ioid n) at gives =
      absurd (each-at (λ (i : ℕ) (m : Fields). (Is command.ReadNotify m ⊎ Is command.WriteNotify m) → ⊥) cl.sent (
        (λ g. elim g [ inl e ↦ omega (arith, e) | inr e ↦ omega (arith, e) ]),
        ((λ g. elim g [ inl e ↦ omega (arith, e) | inr e ↦ omega (arith, e) ]), tt),
      ) l r at gives.0)

  ids-free : (l k : ℕ) (r m : Fields) (a b : Id) → l < k → At cl.sent l r → At cl.sent k m → Gives r a → Gives m b → SameIndex a b → IsFree cl l k
  ids-free l k r m a b lt f h g i same =
      elim (ids-at l r a f g) [
        | inl x ↦ elim (ids-at k m b h i) [
          | inl z ↦ (let d = x.1 in let e = z.1 in absurd (omega (arith, d, e, lt)))
          | inr z ↦ absurd (subst (λ (n : Id). SameIndex (Cid 1) n) z.0 (subst (λ (n : Id). SameIndex n b) x.0 same))
        ]
        | inr x ↦ elim (ids-at k m b h i) [
          | inl z ↦ absurd (subst (λ (n : Id). SameIndex (SubId 9) n) z.0 (subst (λ (n : Id). SameIndex n b) x.0 same))
          | inr z ↦ (let d = x.1 in let e = z.1 in absurd (omega (arith, d, e, lt)))
        ]
      ]

  -- what is said of each message on a channel
  abbrev OnIts : ℕ → Fields → Type 0
  OnIts k m =
      IsOnChannel m
      → (i j cid : ℕ) × HasChannel cl k i j cid m.p1
      × ((Is command.ClearChannel m × (m.p2 ≡ cid))
      ⊎ ((Is command.ClearChannel m → ⊥) × ((l : ℕ) (r : Fields) → j < l → ReadsBetween cl i k l r → Is command.ServerDisconnect r × (r.p1 ≡ cid) → ⊥)))

  moved-client : LegalClient cl
  moved-client = record {
    on_channel = λ k m at. each-at OnIts cl.sent (
      (λ on. not-on on),
      ((λ on. (0, 1, 1, has-channel, inr ((λ e. omega (arith, e)), (λ l r after reads is. no-disconnect l r reads.1 is.0)))), tt),
    ) k m at;
    cancels = λ k m at is. absurd (no-cancel k m at is);
    ids = ids-free;
  }

  -- ---- the server

  creation-at : (i a : ℕ) (m : Fields) → At sv.sent i m → Creates m a → i ≡ 1
  creation-at i a m at is =
      each-at (λ (j : ℕ) (z : Fields). Creates z a → j ≡ 1) sv.sent (
        (λ e. (let f = e.0 in absurd (omega (arith, f)))),
        ((λ e. refl), ((λ e. (let f = e.0 in absurd (omega (arith, f)))), tt)),
      ) i m at is

  -- what is said of each update
  abbrev IsMeant : ℕ → Fields → Type 0
  IsMeant k m =
      Is command.EventAdd m → (m.payload ≡ [] → ⊥)
      → (i j cid : ℕ) × (add : Fields) × IsOpenAt sv k i cid add.p1 × IsConnected sv i k cid
      × ReadsBetween sv i k j add × Gives add (SubId m.p2)
      × ((l : ℕ) (r : Fields) → j < l → ReadsBetween sv i k l r → Is command.EventCancel r → r.p1 ≡ add.p1 → r.p2 ≡ add.p2 → ⊥)
      × (IsRefused sv j add → ⊥)

  moved-server : LegalServer sv
  moved-server = record {
    sids = λ i k a b m r lt f g x z same. (let d = creation-at i a m f x in let e = creation-at k b r g z in absurd (omega (arith, d, e, lt)));
    updates = λ k m at. each-at IsMeant sv.sent (
      (λ is. absurd (omega (arith, is))),
      (
        (λ is. absurd (omega (arith, is))),
        (
          (λ is full. (1, 1, 1, (adding 0 9).message, (created_told.message, refl, (refl, refl), refl, omega arith, (λ j r reads clears. no-clear j r reads.1 clears.0)), (λ l z low high. absurd (omega (arith, low, high))), (2, refl, refl, omega arith, omega arith), (refl, refl), (λ l r after reads is. absurd (no-cancel l r reads.1 is)), unrefused sv refl 1 (adding 0 9).message)),
          tt,
        ),
      ),
    ) k m at;
    confirmations = λ k m at is none. absurd (each-at (λ (i : ℕ) (z : Fields). Is command.EventAdd z → z.payload ≡ [] → ⊥) sv.sent ((λ e f. omega (arith, e)), ((λ e f. omega (arith, e)), ((λ e f. cc), tt))) k m at is none);
    disconnects = λ k m at is. absurd (no-disconnect k m at is);
  }

  -- ---- the circuit

  subscribed-at : (k channel number : ℕ) → Meant c k (On channel (Subscribe number)) → k ≡ 1
  subscribed-at k channel number m =
      each-at (λ (i : ℕ) (s : Sent). s.intent ≡ On channel (Subscribe number) → i ≡ 1) c.up ((λ e. absurd cc), ((λ e. refl), tt)) k m.0 m.1 m.2

  -- the EVENT_ADD goes out after the channel is live
  sent-after : (o p : Outcome) (channel k number : ℕ) (h : Step) → BecomesLive c channel k h → IsCalled (take h.logged (moved_lines o p)) (On channel (Subscribe number))
      → (l : ℕ) × (h.sent ≤ l) × Meant c l (On channel (Subscribe number)) × ((q : ℕ) → k < q → q < l → Meant c q (On channel Create) → ⊥)
  sent-after o p channel k number h lives called =
      let is = reply-at server live read value stays lives.0 k lives.1 lives.2 lives.4 lives.5 lives.7 in
      let first : h ≡ step 1 live (live + 1) = some_is h (step 1 live (live + 1)) (sym (subst (λ (i : ℕ). At c.heard i h) is.0 lives.8)) in
      let one : h.sent ≡ 1 = ap (λ (g : Step). g.sent) first in
      let call = call-at o p called.1.0 channel number called.0 (at-take h.logged (moved_lines o p) called.1.0 _ called.1.1) in
      (1, omega (arith, one), (adding 0 9, refl, call.1), (λ q low high meant. omega (arith, low, high)))

  pub moved-circuit : (o p : Outcome) → LegalCircuit server c (moved_lines o p) (moved_entries value)
  unfolding number16
  moved-circuit o p = record {
    client = moved-client;
    server = moved-server;
    called = quiet-sent part.HasCall c (moved_lines o p) (moved_entries value) refl;
    told = λ j k sid r e made gone uncleared up. absurd (no-removal value e r gone);
    apart = λ k l channel number lt a b. (let d = subscribed-at k channel number a in let e = subscribed-at l channel number b in absurd (omega (arith, d, e, lt)));
    renewed = λ channel k number h lives standing. sent-after o p channel k number h lives standing.0;
    ended = λ channel k l number h lives lt meant. (is-held o p h.logged channel number, (λ q there. no-refusal o p q h.logged channel number there));
  }
