-- What is sent around a put that waited while its client began again is legal.
use Rattle.std.proofs.Common.{◌≡◌, ℕ, ◌<◌, ◌⊎◌, inl, inr, refl, sym, arith}
use Rattle.ca_text.specs.Place.{At}
use Rattle.ca_text.specs.declared.command.Command.TheVariants as command
use Rattle.ca_dbr.specs.Elements.{signed_bytes_4}
use Rattle.ca_wire.specs.Fields.{Fields}
use Rattle.ca_model.specs.Speech.{Cid, Creates, Gives, Id, Ioid, Is, SubId}
use Rattle.ca_model.specs.Sends.{Conduct, HasChannel, IsDisconnect, IsOnChannel, LegalClient, LegalServer, ReadsBetween, SameIndex}
use Rattle.ca_model.specs.History.{On, Line, Called, Subscribe, Sent, Wish}
use Rattle.ca_model.specs.Channels.{Meant}
use Rattle.ca_model.specs.Legal.{IsSent, Legal, LegalCircuit, client_conduct, server_conduct}
use Rattle.ca_model_examples.specs.Worlds.{created_told, creating}
use Rattle.ca_model_examples.specs.Waited.{waited, waited_entries, waited_lines, waited_world}
use Rattle.ca_model_examples.specs.Parts as part
use Rattle.ca_model_examples.proofs.Lists.{each-at, at-take, none-at}
use Rattle.ca_model_examples.proofs.Sent.{one-apart, quiet-sent}
use Rattle.ca_model_examples.proofs.WaitedActs.{no-removed}
use Rattle.ca_model_examples.proofs.WaitedRest.{each-circuit, each-life}

abbrev cl : Conduct
cl = client_conduct waited

abbrev sv : Conduct
sv = server_conduct waited

-- ---- the client

-- it sent no CLEAR_CHANNEL, and no SERVER_DISCONN came
no-clear : (l : ℕ) (r : Fields) → At cl.sent l r → Is command.ClearChannel r → ⊥
no-clear l r at is =
    each-at (λ (i : ℕ) (m : Fields). Is command.ClearChannel m → ⊥) cl.sent ((λ e. omega (arith, e)), ((λ e. omega (arith, e)), ((λ e. omega (arith, e)), tt))) l r at is

no-disconnect : (l : ℕ) (r : Fields) → At cl.came l r → Is command.ServerDisconnect r → ⊥
no-disconnect l r at is =
    each-at (λ (i : ℕ) (m : Fields). Is command.ServerDisconnect m → ⊥) cl.came ((λ e. omega (arith, e)), ((λ e. omega (arith, e)), ((λ e. omega (arith, e)), tt))) l r at is

has-channel : (k : ℕ) → 0 < k → HasChannel cl k 0 1 1 5
has-channel k low = (
  creating.message,
  created_told.message,
  refl,
  (refl, refl),
  (1, refl, refl, omega arith, low),
  (refl, refl),
  refl,
  (λ l r after early at clears. absurd (no-clear l r at clears.0)),
)

-- a CREATE_CHAN is on no channel
not-on : IsOnChannel creating.message → ⊥
not-on on =
    elim on [
      | inl a ↦ omega (arith, a)
      | inr b ↦ elim b [
        | inl a ↦ omega (arith, a)
        | inr c ↦ elim c [
          | inl a ↦ omega (arith, a)
          | inr d ↦ elim d [
            | inl a ↦ omega (arith, a)
            | inr e ↦ elim e [ inl a ↦ omega (arith, a) | inr a ↦ omega (arith, a) ]
          ]
        ]
      ]
    ]

-- what is said of each message on a channel
abbrev OnIts : ℕ → Fields → Type 0
OnIts k m =
    IsOnChannel m
    → (i j cid : ℕ) × HasChannel cl k i j cid m.p1
    × ((Is command.ClearChannel m × (m.p2 ≡ cid))
    ⊎ ((Is command.ClearChannel m → ⊥) × ((l : ℕ) (r : Fields) → j < l → ReadsBetween cl i k l r → IsDisconnect cid r → ⊥)))

-- the ids that are given: one CID and two IOIDs
cid-at : (l n : ℕ) (r : Fields) → At cl.sent l r → Gives r (Cid n) → l ≡ 0
cid-at l n r at gives =
    each-at (λ (i : ℕ) (m : Fields). Gives m (Cid n) → i ≡ 0) cl.sent (
      (λ g. refl),
      ((λ g. (let e = g.0 in absurd (omega (arith, e)))), ((λ g. (let e = g.0 in absurd (omega (arith, e)))), tt)),
    ) l r at gives

ioid-at : (l n : ℕ) (r : Fields) → At cl.sent l r → Gives r (Ioid n) → ((l ≡ 1) × (n ≡ 8)) ⊎ ((l ≡ 2) × (n ≡ 9))
ioid-at l n r at gives =
    each-at (λ (i : ℕ) (m : Fields). Gives m (Ioid n) → ((i ≡ 1) × (n ≡ 8)) ⊎ ((i ≡ 2) × (n ≡ 9))) cl.sent (
      (λ g. absurd (elim g.0 [ inl e ↦ omega (arith, e) | inr e ↦ omega (arith, e) ])),
      ((λ g. inl (refl, sym g.1)), ((λ g. inr (refl, sym g.1)), tt)),
    ) l r at gives

ids-differ : (l k : ℕ) (r m : Fields) (a b : Id) → l < k → At cl.sent l r → At cl.sent k m → Gives r a → Gives m b → SameIndex a b → ⊥
ids-differ l k r m (Cid a) (Cid b) lt p q g h same = (let e = cid-at l a r p g in let f = cid-at k b m q h in omega (arith, e, f, lt))
ids-differ l k r m (Ioid a) (Ioid b) lt p q g h same =
    elim (ioid-at l a r p g) [
      | inl x ↦ elim (ioid-at k b m q h) [
        | inl y ↦ (let e = x.0 in let f = y.0 in omega (arith, e, f, lt))
        | inr y ↦ (let e = x.1 in let f = y.1 in omega (arith, e, f, same))
      ]
      | inr x ↦ elim (ioid-at k b m q h) [
        | inl y ↦ (let e = x.0 in let f = y.0 in omega (arith, e, f, lt))
        | inr y ↦ (let e = x.0 in let f = y.0 in omega (arith, e, f, lt))
      ]
    ]
ids-differ l k r m (SubId a) b lt p q g h same =
    each-at (λ (i : ℕ) (z : Fields). Is command.EventAdd z → ⊥) cl.sent ((λ e. omega (arith, e)), ((λ e. omega (arith, e)), ((λ e. omega (arith, e)), tt))) l r p g.0
ids-differ l k r m (Cid a) (Ioid b) lt p q g h same = absurd same
ids-differ l k r m (Cid a) (SubId b) lt p q g h same = absurd same
ids-differ l k r m (Ioid a) (Cid b) lt p q g h same = absurd same
ids-differ l k r m (Ioid a) (SubId b) lt p q g h same = absurd same

waited-client : LegalClient cl
waited-client = record {
  on_channel = λ k m at. each-at OnIts cl.sent (
    (λ on. absurd (not-on on)),
    (
      (λ on. (0, 1, 1, has-channel 1 (omega arith), inr ((λ e. omega (arith, e)), (λ l r after reads is. no-disconnect l r reads.1 is.0)))),
      ((λ on. (0, 1, 1, has-channel 2 (omega arith), inr ((λ e. omega (arith, e)), (λ l r after reads is. no-disconnect l r reads.1 is.0)))), tt),
    ),
  ) k m at;
  cancels = λ k m at is. absurd (each-at (λ (i : ℕ) (z : Fields). Is command.EventCancel z → ⊥) cl.sent ((λ e. omega (arith, e)), ((λ e. omega (arith, e)), ((λ e. omega (arith, e)), tt))) k m at is);
  ids = λ l k r m a b lt p q g h same. absurd (ids-differ l k r m a b lt p q g h same);
}

-- ---- the server

creation-at : (i a : ℕ) (m : Fields) → At sv.sent i m → Creates m a → i ≡ 1
creation-at i a m at is =
    each-at (λ (j : ℕ) (z : Fields). Creates z a → j ≡ 1) sv.sent (
      (λ e. (let f = e.0 in absurd (omega (arith, f)))),
      ((λ e. refl), ((λ e. (let f = e.0 in absurd (omega (arith, f)))), tt)),
    ) i m at is

no-update : (i : ℕ) (m : Fields) → At sv.sent i m → Is command.EventAdd m → ⊥
no-update i m at is =
    each-at (λ (j : ℕ) (z : Fields). Is command.EventAdd z → ⊥) sv.sent ((λ e. omega (arith, e)), ((λ e. omega (arith, e)), ((λ e. omega (arith, e)), tt))) i m at is

waited-server : LegalServer sv
waited-server = record {
  sids = λ i k a b m r lt p q x y same. (let e = creation-at i a m p x in let f = creation-at k b r q y in absurd (omega (arith, e, f, lt)));
  updates = λ k m at is full. absurd (no-update k m at is);
  confirmations = λ k m at is none. absurd (no-update k m at is);
  disconnects = λ k m at is. absurd (no-disconnect k m at is);
}

-- ---- the world

no-subscription : (k channel number : ℕ) → Meant waited k (On channel (Subscribe number)) → ⊥
no-subscription k channel number m =
    each-at (λ (i : ℕ) (s : Sent). s.intent ≡ On channel (Subscribe number) → ⊥) waited.up ((λ e. cc), ((λ e. cc), ((λ e. cc), tt))) k m.0 m.1 m.2

none-called : (i channel number : ℕ) (a : Wish) → At waited_lines i (Called (On channel (Subscribe number)) a) → ⊥
none-called i channel number a at =
    each-at (λ (k : ℕ) (l : Line). l ≡ Called (On channel (Subscribe number)) a → ⊥) waited_lines ((λ e. cc), ((λ e. cc), ((λ e. cc), ((λ e. cc), tt)))) i _ at refl

legal-circuit : LegalCircuit 0 waited waited_lines waited_entries
unfolding signed_bytes_4
legal-circuit = record {
  client = waited-client;
  server = waited-server;
  called = quiet-sent part.HasCall waited waited_lines waited_entries refl;
  told = λ j k sid r e made gone uncleared up. absurd (no-removed e r gone);
  apart = λ k l channel number lt a b. absurd (no-subscription k channel number a);
  renewed = λ channel k number h live standing. absurd (none-called standing.0.1.0 channel number standing.0.0 (at-take h.logged waited_lines standing.0.1.0 _ standing.0.1.1));
  ended = λ channel k l number h live lt meant. absurd (no-subscription l channel number meant);
}

pub waited-legal : Legal waited_world
waited-legal = record {
  circuits = each-circuit LegalCircuit legal-circuit;
  subscriptions = each-life (IsSent waited_world) (λ channel number h. absurd (none-called h.1.0 channel number h.0 h.1.1)) (λ channel number h. absurd (none-at h.1.0 _ h.1.1));
  ids = one-apart waited_world waited refl;
}
