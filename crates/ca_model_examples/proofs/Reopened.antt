-- What is sent while a record is removed and added again is legal.
use Rattle.std.proofs.Common.{◌≡◌, ℕ, ◌<◌, ◌≤◌, ◌⊎◌, inl, inr, List, [], refl, sym, ap, subst, arith}
use Rattle.std.specs.Prelude.{take, ◌≢◌}
use Rattle.ca_text.specs.Place.{At}
use Rattle.ca_text.proofs.Places.{some_is}
use Rattle.ca_text.specs.declared.command.Command.TheVariants as command
use Rattle.ca_dbr.specs.declared.value.Outcome.{Outcome}
use Rattle.ca_wire.specs.Fields.{Fields}
use Rattle.ca_model.specs.Speech.{Cid, Clears, Creates, Gives, Id, In, Ioid, Is, SubId}
use Rattle.ca_model.specs.Sends.{Conduct, HasChannel, IsConnected, IsDisconnect, IsFree, IsOnChannel, IsOpenAt, IsRefused, LegalClient, LegalServer, ReadsBetween, SameIndex}
use Rattle.ca_model.specs.History.{Noticed, Circuit, Intent, On, OfCircuit, Create, Line, Entry, Called, Subscribe, Sent, Told, Step, Removed, Removal, Nothing, ToWatch, Wish}
use Rattle.ca_model.specs.Channels.{Created, IsHeld, Joins, Meant, OfCircuits, OfClients}
use Rattle.ca_model.specs.Legal.{AsksFor, BecomesLive, IsCalled, IsSent, Legal, LegalCircuit, MayAsk, WasCalled, client_conduct, server_conduct}
use Rattle.ca_model_examples.specs.Worlds.{adding, clearing, created_told, creating, disconnected, step}
use Rattle.ca_model_examples.specs.Safe.{reopened, reopened_entries, reopened_lines, reopened_world}
use Rattle.ca_model_examples.proofs.Lists.{each-at, at-take, at-take-within, one-at}
use Rattle.ca_model_examples.proofs.Sent.{mask-is, one-apart, unrefused}

abbrev cl : Conduct
cl = client_conduct reopened

abbrev sv : Conduct
sv = server_conduct reopened

-- ---- the client

-- the one CLEAR_CHANNEL
clear-at : (l : ℕ) (r : Fields) → At cl.sent l r → Is command.ClearChannel r → l ≡ 2
clear-at l r at is =
    each-at (λ (i : ℕ) (m : Fields). Is command.ClearChannel m → i ≡ 2) cl.sent (
      (λ e. absurd (omega (arith, e))),
      ((λ e. absurd (omega (arith, e))), ((λ e. refl), ((λ e. absurd (omega (arith, e))), ((λ e. absurd (omega (arith, e))), tt)))),
    ) l r at is

-- the one SERVER_DISCONN
disconnect-at : (l : ℕ) (r : Fields) → At cl.came l r → Is command.ServerDisconnect r → l ≡ 3
disconnect-at l r at is =
    each-at (λ (i : ℕ) (m : Fields). Is command.ServerDisconnect m → i ≡ 3) cl.came (
      (λ e. absurd (omega (arith, e))),
      (
        (λ e. absurd (omega (arith, e))),
        (
          (λ e. absurd (omega (arith, e))),
          (
            (λ e. refl),
            (
              (λ e. absurd (omega (arith, e))),
              (
                (λ e. absurd (omega (arith, e))),
                (
                  (λ e. absurd (omega (arith, e))),
                  (
                    (λ e. absurd (omega (arith, e))),
                    tt,
                  ),
                ),
              ),
            ),
          ),
        ),
      ),
    ) l r at is

first-channel : (k : ℕ) → 1 ≤ k → k ≤ 2 → HasChannel cl k 0 1 1 5
first-channel k low high = (
  creating.message,
  created_told.message,
  refl,
  (refl, refl),
  (1, refl, refl, omega arith, low),
  (refl, refl),
  refl,
  (λ l r after early at clears. let e = clear-at l r at clears.0 in absurd (omega (arith, e, early, high))),
)

second-channel : HasChannel cl 4 3 6 1 5
second-channel = (
  creating.message,
  created_told.message,
  refl,
  (refl, refl),
  (4, refl, refl, omega arith, omega arith),
  (refl, refl),
  refl,
  (λ l r after early at clears. let e = clear-at l r at clears.0 in absurd (omega (arith, e, after))),
)

-- the kinds of ids that are given
ids-at : (l : ℕ) (r : Fields) (a : Id) → At cl.sent l r → Gives r a → ((a ≡ Cid 1) × ((l ≡ 0) ⊎ (l ≡ 3))) ⊎ ((a ≡ SubId 9) × ((l ≡ 1) ⊎ (l ≡ 4)))
ids-at l r (Cid n) at gives =
    each-at (λ (i : ℕ) (m : Fields). Gives m (Cid n) → ((Cid n ≡ Cid 1) × ((i ≡ 0) ⊎ (i ≡ 3))) ⊎ ((Cid n ≡ SubId 9) × ((i ≡ 1) ⊎ (i ≡ 4)))) cl.sent (
      (λ g. inl (ap Cid (sym g.1), inl refl)),
      (
        (λ g. (let e = g.0 in absurd (omega (arith, e)))),
        (
          (λ g. (let e = g.0 in absurd (omega (arith, e)))),
          (
            (λ g. inl (ap Cid (sym g.1), inr refl)),
            ((λ g. (let e = g.0 in absurd (omega (arith, e)))), tt),
          ),
        ),
      ),
    ) l r at gives
ids-at l r (SubId n) at gives =
    each-at (λ (i : ℕ) (m : Fields). Gives m (SubId n) → ((SubId n ≡ Cid 1) × ((i ≡ 0) ⊎ (i ≡ 3))) ⊎ ((SubId n ≡ SubId 9) × ((i ≡ 1) ⊎ (i ≡ 4)))) cl.sent (
      (λ g. (let e = g.0 in absurd (omega (arith, e)))),
      (
        (λ g. inr (ap SubId (sym g.1), inl refl)),
        (
          (λ g. (let e = g.0 in absurd (omega (arith, e)))),
          (
            (λ g. (let e = g.0 in absurd (omega (arith, e)))),
            ((λ g. inr (ap SubId (sym g.1), inr refl)), tt),
          ),
        ),
      ),
    ) l r at gives
ids-at l r (Ioid n) at gives =
    absurd (each-at (λ (i : ℕ) (m : Fields). (Is command.ReadNotify m ⊎ Is command.WriteNotify m) → ⊥) cl.sent (
      (λ g. elim g [ inl e ↦ omega (arith, e) | inr e ↦ omega (arith, e) ]),
      ((λ g. elim g [ inl e ↦ omega (arith, e) | inr e ↦ omega (arith, e) ]), ((λ g. elim g [ inl e ↦ omega (arith, e) | inr e ↦ omega (arith, e) ]), ((λ g. elim g [ inl e ↦ omega (arith, e) | inr e ↦ omega (arith, e) ]), ((λ g. elim g [ inl e ↦ omega (arith, e) | inr e ↦ omega (arith, e) ]), tt)))),
    ) l r at gives.0)

cid-free : IsFree cl 0 3
cid-free = (4, 3, creating.message, clearing.message, refl, refl, refl, omega arith, omega arith, inl (refl, inr (refl, refl, (2, clearing.message, omega arith, omega arith, refl, refl, refl))))

subscription-free : IsFree cl 1 4
subscription-free =
    (4, 3, (adding 0 9).message, clearing.message, refl, refl, refl, omega arith, omega arith, inr (inr (inr (0, 1, 1, first-channel 1 (omega arith) (omega arith), refl, refl, (2, clearing.message, omega arith, omega arith, refl, refl, refl)))))

ids-free : (l k : ℕ) (r m : Fields) (a b : Id) → l < k → At cl.sent l r → At cl.sent k m → Gives r a → Gives m b → SameIndex a b → IsFree cl l k
ids-free l k r m a b lt p q g h same =
    elim (ids-at l r a p g) [
      | inl x ↦ elim (ids-at k m b q h) [
        | inl y ↦ elim x.1 [
          | inl i ↦ elim y.1 [
            | inl j ↦ absurd (omega (arith, i, j, lt))
            | inr j ↦ subst (λ (z : ℕ). IsFree cl z k) (sym i) (subst (λ (z : ℕ). IsFree cl 0 z) (sym j) cid-free)
          ]
          | inr i ↦ elim y.1 [
            | inl j ↦ absurd (omega (arith, i, j, lt))
            | inr j ↦ absurd (omega (arith, i, j, lt))
          ]
        ]
        | inr y ↦ absurd (subst (λ (z : Id). SameIndex (Cid 1) z) y.0 (subst (λ (z : Id). SameIndex z b) x.0 same))
      ]
      | inr x ↦ elim (ids-at k m b q h) [
        | inl y ↦ absurd (subst (λ (z : Id). SameIndex (SubId 9) z) y.0 (subst (λ (z : Id). SameIndex z b) x.0 same))
        | inr y ↦ elim x.1 [
          | inl i ↦ elim y.1 [
            | inl j ↦ absurd (omega (arith, i, j, lt))
            | inr j ↦ subst (λ (z : ℕ). IsFree cl z k) (sym i) (subst (λ (z : ℕ). IsFree cl 1 z) (sym j) subscription-free)
          ]
          | inr i ↦ elim y.1 [
            | inl j ↦ absurd (omega (arith, i, j, lt))
            | inr j ↦ absurd (omega (arith, i, j, lt))
          ]
        ]
      ]
    ]

-- what is said of each message on a channel
abbrev OnIts : ℕ → Fields → Type 0
OnIts k m =
    IsOnChannel m
    → (i j cid : ℕ) × HasChannel cl k i j cid m.p1
    × ((Is command.ClearChannel m × (m.p2 ≡ cid))
    ⊎ ((Is command.ClearChannel m → ⊥) × ((l : ℕ) (r : Fields) → j < l → ReadsBetween cl i k l r → IsDisconnect cid r → ⊥)))

-- a CREATE_CHAN is on no channel
not-on : {A : Type 0} (m : Fields) → Is command.CreateChannel m → IsOnChannel m → A
not-on m is on =
    elim on [
      | inl a ↦ absurd (omega (arith, a, is))
      | inr b ↦ elim b [
        | inl a ↦ absurd (omega (arith, a, is))
        | inr c ↦ elim c [
          | inl a ↦ absurd (omega (arith, a, is))
          | inr d ↦ elim d [
            | inl a ↦ absurd (omega (arith, a, is))
            | inr e ↦ elim e [
              | inl a ↦ absurd (omega (arith, a, is))
              | inr a ↦ absurd (omega (arith, a, is))
            ]
          ]
        ]
      ]
    ]

reopened-client : LegalClient cl
reopened-client = record {
  on_channel = λ k m at. each-at OnIts cl.sent (
    (λ on. not-on creating.message refl on),
    (
      (λ on. (0, 1, 1, first-channel 1 (omega arith) (omega arith), inr ((λ e. omega (arith, e)), (λ l r after reads is. (let e = disconnect-at l r reads.1 is.0 in let b : reads.0 ≡ 2 = some_is reads.0 2 (sym (subst (λ (z : ℕ). At cl.read z reads.0) e reads.2)) in let c = reads.4 in omega (arith, b, c)))))),
      (
        (λ on. (0, 1, 1, first-channel 2 (omega arith) (omega arith), inl (refl, refl))),
        (
          (λ on. not-on creating.message refl on),
          ((λ on. (3, 6, 1, second-channel, inr ((λ e. omega (arith, e)), (λ l r after reads is. (let e = disconnect-at l r reads.1 is.0 in omega (arith, e, after)))))), tt),
        ),
      ),
    ),
  ) k m at;
  cancels = λ k m at is. absurd (each-at (λ (i : ℕ) (z : Fields). Is command.EventCancel z → ⊥) cl.sent (
    (λ e. omega (arith, e)),
    ((λ e. omega (arith, e)), ((λ e. omega (arith, e)), ((λ e. omega (arith, e)), ((λ e. omega (arith, e)), tt)))),
  ) k m at is);
  ids = ids-free;
}

-- ---- the server

-- the CLEAR_CHANNEL was read after four messages
clear-read : (i k j : ℕ) (r : Fields) → ReadsBetween sv i k j r → Is command.ClearChannel r → (i < 4) × (4 ≤ k)
clear-read i k j r reads is =
    let e = clear-at j r reads.1 is in
    let b : reads.0 ≡ 4 = some_is reads.0 4 (sym (subst (λ (z : ℕ). At sv.read z reads.0) e reads.2)) in
    (subst (λ (z : ℕ). i < z) b reads.3, subst (λ (z : ℕ). z ≤ k) b reads.4)

-- the two creations
creation-at : (i a : ℕ) (m : Fields) → At sv.sent i m → Creates m a → ((i ≡ 1) ⊎ (i ≡ 6)) × (a ≡ 5)
creation-at i a m at is =
    each-at (λ (j : ℕ) (z : Fields). Creates z a → ((j ≡ 1) ⊎ (j ≡ 6)) × (a ≡ 5)) sv.sent (
      (λ e. (let f = e.0 in absurd (omega (arith, f)))),
      (
        (λ e. (inl refl, sym e.1)),
        (
          (λ e. (let f = e.0 in absurd (omega (arith, f)))),
          (
            (λ e. (let f = e.0 in absurd (omega (arith, f)))),
            (
              (λ e. (let f = e.0 in absurd (omega (arith, f)))),
              (
                (λ e. (let f = e.0 in absurd (omega (arith, f)))),
                (
                  (λ e. (inr refl, sym e.1)),
                  (
                    (λ e. (let f = e.0 in absurd (omega (arith, f)))),
                    tt,
                  ),
                ),
              ),
            ),
          ),
        ),
      ),
    ) i m at is

no-cancel : (j : ℕ) (r : Fields) → At sv.came j r → Is command.EventCancel r → ⊥
no-cancel j r at is =
    each-at (λ (i : ℕ) (z : Fields). Is command.EventCancel z → ⊥) sv.came (
      (λ e. omega (arith, e)),
      ((λ e. omega (arith, e)), ((λ e. omega (arith, e)), ((λ e. omega (arith, e)), ((λ e. omega (arith, e)), tt)))),
    ) j r at is

sids-free : (i k a b : ℕ) (m r : Fields) → i < k → At sv.sent i m → At sv.sent k r → Creates m a → Creates r b → (j : ℕ) × (c : Fields) × ReadsBetween sv i k j c × Clears c a
sids-free i k a b m r lt p q x y =
    let f = creation-at i a m p x in
    let g = creation-at k b r q y in
    elim f.0 [
      | inl z ↦ elim g.0 [
        | inl w ↦ absurd (omega (arith, z, w, lt))
        | inr w ↦ (2, clearing.message, (4, refl, refl, omega (arith, z), omega (arith, w)), (refl, sym f.1))
      ]
      | inr z ↦ elim g.0 [
        | inl w ↦ absurd (omega (arith, z, w, lt))
        | inr w ↦ absurd (omega (arith, z, w, lt))
      ]
    ]

-- what is said of each update
abbrev IsMeant : ℕ → Fields → Type 0
IsMeant k m =
    Is command.EventAdd m → (m.payload ≡ [] → ⊥)
    → (i j cid : ℕ) × (add : Fields) × IsOpenAt sv k i cid add.p1 × IsConnected sv i k cid
    × ReadsBetween sv i k j add × Gives add (SubId m.p2)
    × ((l : ℕ) (r : Fields) → j < l → ReadsBetween sv i k l r → Is command.EventCancel r → r.p1 ≡ add.p1 → r.p2 ≢ add.p2)
    × (IsRefused sv j add → ⊥)

reopened-server : LegalServer sv
reopened-server = record {
  sids = λ i k a b m r lt p q x y same. sids-free i k a b m r lt p q x y;
  updates = λ k m at. each-at IsMeant sv.sent (
    (λ is. absurd (omega (arith, is))),
    (
      (λ is. absurd (omega (arith, is))),
      (
        (λ is full. (1, 1, 1, (adding 0 9).message, (created_told.message, refl, (refl, refl), refl, omega arith, (λ j r reads clears. (let e = (clear-read 1 2 j r reads clears.0).1 in omega (arith, e)))), (λ l z low high. absurd (omega (arith, low, high))), (2, refl, refl, omega arith, omega arith), (refl, refl), (λ l r after reads is. absurd (no-cancel l r reads.1 is)), unrefused sv refl 1 (adding 0 9).message)),
        (
          (λ is. absurd (omega (arith, is))),
          (
            (λ is. absurd (omega (arith, is))),
            (
              (λ is. absurd (omega (arith, is))),
              (
                (λ is. absurd (omega (arith, is))),
                (
                  (λ is full. (6, 4, 1, (adding 0 9).message, (created_told.message, refl, (refl, refl), refl, omega arith, (λ j r reads clears. (let e = (clear-read 6 7 j r reads clears.0).0 in omega (arith, e)))), (λ l z low high. absurd (omega (arith, low, high))), (7, refl, refl, omega arith, omega arith), (refl, refl), (λ l r after reads is. absurd (no-cancel l r reads.1 is)), unrefused sv refl 4 (adding 0 9).message)),
                  tt,
                ),
              ),
            ),
          ),
        ),
      ),
    ),
  ) k m at;
  confirmations = λ k m at is none. absurd (each-at (λ (i : ℕ) (z : Fields). Is command.EventAdd z → z.payload ≡ [] → ⊥) sv.sent (
    (λ e f. omega (arith, e)),
    (
      (λ e f. omega (arith, e)),
      (
        (λ e f. cc),
        (
          (λ e f. omega (arith, e)),
          (
            (λ e f. omega (arith, e)),
            (
              (λ e f. omega (arith, e)),
              (
                (λ e f. omega (arith, e)),
                (
                  (λ e f. cc),
                  tt,
                ),
              ),
            ),
          ),
        ),
      ),
    ),
  ) k m at is none);
  disconnects = λ k m at is.
      (let only = each-at (λ (i : ℕ) (z : Fields). Is command.ServerDisconnect z → (i ≡ 3) × (z.p1 ≡ 1)) sv.sent (
        (λ e. absurd (omega (arith, e))),
        (
          (λ e. absurd (omega (arith, e))),
          (
            (λ e. absurd (omega (arith, e))),
            (
              (λ e. (refl, refl)),
              (
                (λ e. absurd (omega (arith, e))),
                (
                  (λ e. absurd (omega (arith, e))),
                  (
                    (λ e. absurd (omega (arith, e))),
                    (
                      (λ e. absurd (omega (arith, e))),
                      tt,
                    ),
                  ),
                ),
              ),
            ),
          ),
        ),
      ) k m at is in
      subst (λ (z : ℕ). (i sid : ℕ) × IsOpenAt sv z i m.p1 sid × IsConnected sv i z m.p1) (sym only.0) (
      subst (λ (z : ℕ). (i sid : ℕ) × IsOpenAt sv 3 i z sid × IsConnected sv i 3 z) (sym only.1) (
        1,
        5,
        (created_told.message, refl, (refl, refl), refl, omega arith, (λ j r reads clears. (let e = (clear-read 1 3 j r reads clears.0).1 in omega (arith, e)))),
        (λ l z low high here gone. (let e = disconnect-at l z here gone.0 in omega (arith, e, high))),
      )));
}

-- ---- the world

abbrev number-of : Intent → ℕ
number-of (On c (Subscribe n)) = n
number-of i = 0

abbrev pub channel-of : Intent → ℕ
channel-of (On c a) = c
channel-of i = 0

abbrev pub intent-of : Line → Intent
intent-of (Called i e) = i
intent-of l = OfCircuit

-- the one call
pub call-at : (o : Outcome) (i : ℕ) (intent : Intent) (a : Wish) → At (reopened_lines o) i (Called intent a) → (i ≡ 2) × (On 0 (Subscribe 0) ≡ intent)
call-at o i intent a at =
    each-at (λ (k : ℕ) (l : Line). l ≡ Called intent a → (k ≡ 2) × (On 0 (Subscribe 0) ≡ intent)) (reopened_lines o) (
      (λ e. absurd cc),
      ((λ e. absurd cc), ((λ e. (refl, ap intent-of e)), ((λ e. absurd cc), ((λ e. absurd cc), ((λ e. absurd cc), tt))))),
    ) i _ at refl

pub is-held : (o : Outcome) (n channel number : ℕ) → IsHeld (take n (reopened_lines o)) (On channel (Subscribe number))
is-held o n channel number =
    ((λ h. (let e = (call-at o h.0 _ Nothing (at-take n (reopened_lines o) h.0 _ h.1)).1 in cc)), (λ h. (let e = (call-at o h.0 _ Nothing (at-take n (reopened_lines o) h.0 _ h.1)).1 in cc)))

-- no line tells what became of a subscription
abbrev pub noticed-intent : Line → Intent
noticed-intent (Noticed i o) = i
noticed-intent l = OfCircuit

no-refusal : (o : Outcome) (i channel number : ℕ) (p : Outcome) → At (reopened_lines o) i (Noticed (On channel (Subscribe number)) p) → ⊥
no-refusal o i channel number p at =
    each-at (λ (k : ℕ) (l : Line). l ≡ Noticed (On channel (Subscribe number)) p → ⊥) (reopened_lines o) (
      (λ e. cc),
      (
        (λ e. (let f : On 0 Create ≡ On channel (Subscribe number) = ap noticed-intent e in cc)),
        (
          (λ e. cc),
          (
            (λ e. cc),
            (
              (λ e. (let f : On 0 Create ≡ On channel (Subscribe number) = ap noticed-intent e in cc)),
              ((λ e. (let f : On 0 Create ≡ On channel (Subscribe number) = ap noticed-intent e in cc)), tt),
            ),
          ),
        ),
      ),
    ) i _ at refl

-- where subscriptions were meant
subscribed-at : (k channel number : ℕ) → Meant reopened k (On channel (Subscribe number)) → (k ≡ 1) ⊎ (k ≡ 4)
subscribed-at k channel number m =
    each-at (λ (i : ℕ) (s : Sent). s.intent ≡ On channel (Subscribe number) → (i ≡ 1) ⊎ (i ≡ 4)) reopened.up (
      (λ e. absurd cc),
      ((λ e. inl refl), ((λ e. absurd cc), ((λ e. absurd cc), ((λ e. inr refl), tt)))),
    ) k m.0 m.1 m.2

-- where creations were meant
pub created-on : (k channel : ℕ) → Meant reopened k (On channel Create) → channel ≡ 0
created-on k channel m =
    each-at (λ (i : ℕ) (s : Sent). s.intent ≡ On channel Create → channel ≡ 0) reopened.up (
      (λ e. ap channel-of (sym e)),
      ((λ e. absurd cc), ((λ e. absurd cc), ((λ e. ap channel-of (sym e)), ((λ e. absurd cc), tt)))),
    ) k m.0 m.1 m.2

-- the replies to CREATE_CHAN
pub reply-at : (j k sid : ℕ) (t : Told) → At reopened.down j t → t.place ≡ k → Creates t.message sid → ((j ≡ 1) × (k ≡ 0)) ⊎ ((j ≡ 6) × (k ≡ 3))
reply-at j k sid t at place is =
    each-at (λ (i : ℕ) (u : Told). u.place ≡ k → Creates u.message sid → ((i ≡ 1) × (k ≡ 0)) ⊎ ((i ≡ 6) × (k ≡ 3))) reopened.down (
      (λ p e. (let f = e.0 in absurd (omega (arith, f)))),
      (
        (λ p e. inl (refl, sym p)),
        (
          (λ p e. (let f = e.0 in absurd (omega (arith, f)))),
          (
            (λ p e. (let f = e.0 in absurd (omega (arith, f)))),
            (
              (λ p e. (let f = e.0 in absurd (omega (arith, f)))),
              (
                (λ p e. (let f = e.0 in absurd (omega (arith, f)))),
                (
                  (λ p e. inr (refl, sym p)),
                  (
                    (λ p e. (let f = e.0 in absurd (omega (arith, f)))),
                    tt,
                  ),
                ),
              ),
            ),
          ),
        ),
      ),
    ) j t at place is

abbrev removed-in : Entry → ℕ
removed-in (Removed r) = r
removed-in e = 0

-- the channel of a subscription
of-channel : (k channel number : ℕ) → Meant reopened k (On channel (Subscribe number)) → 0 ≡ channel
of-channel k channel number m =
    each-at (λ (i : ℕ) (s : Sent). s.intent ≡ On channel (Subscribe number) → 0 ≡ channel) reopened.up (
      (λ e. ap channel-of e),
      ((λ e. ap channel-of e), ((λ e. ap channel-of e), ((λ e. ap channel-of e), ((λ e. ap channel-of e), tt)))),
    ) k m.0 m.1 m.2

-- the removal
removal-at : (e r : ℕ) → At reopened_entries e (Removed r) → r ≡ 0
removal-at e r at =
    each-at (λ (i : ℕ) (z : Entry). z ≡ Removed r → r ≡ 0) reopened_entries ((λ f. absurd cc), ((λ f. ap removed-in (sym f)), ((λ f. absurd cc), tt))) e _ at refl

gone-at-three : (k : ℕ) (h : Step) → k ≡ 3 → At reopened.handled k h → In (take h.logged reopened_entries) (Removed 0)
gone-at-three k h is at =
    let e : h ≡ step 5 3 3 = some_is h (step 5 3 3) (sym (subst (λ (i : ℕ). At reopened.handled i h) is at)) in
    subst (λ (g : Step). In (take g.logged reopened_entries) (Removed 0)) (sym e) (1, refl)

gone-told : (j k sid r e : ℕ) → Created reopened reopened_entries j k sid r → At reopened_entries e (Removed r)
    → (q : ℕ) × (t : Told) × At reopened.down q t × (t.place ≡ k) × (t.cause ≡ Removal)
gone-told j k sid r e made gone =
    elim (reply-at j k sid made.0 made.3 made.4 made.6) [
      | inl h ↦ (3, disconnected, refl, sym h.1, refl)
      | inr h ↦
          let is : r ≡ 0 = removal-at e r gone in
          let there = gone-at-three k made.2 h.1 made.8 in
          absurd (made.9.3 (subst (λ (z : ℕ). In (take made.2.logged reopened_entries) (Removed z)) (sym is) there))
    ]

sent-again : (o : Outcome) (channel k number : ℕ) (h : Step) → BecomesLive reopened channel k h → IsCalled (take h.logged (reopened_lines o)) (On channel (Subscribe number))
    → (l : ℕ) × (h.sent ≤ l) × Meant reopened l (On channel (Subscribe number)) × ((p : ℕ) → k < p → p < l → Meant reopened p (On channel Create) → ⊥)
sent-again o channel k number h live called =
    let call = call-at o called.1.0 _ called.0 (at-take h.logged (reopened_lines o) called.1.0 _ called.1.1) in
    let within = at-take-within h.logged (reopened_lines o) called.1.0 _ called.1.1 in
    elim (reply-at live.0 k live.1 live.2 live.4 live.5 live.7) [
      | inl e ↦
          let is : h ≡ step 1 1 2 = some_is h (step 1 1 2) (sym (subst (λ (i : ℕ). At reopened.heard i h) e.0 live.8)) in
          let few : h.logged ≡ 1 = ap (λ (g : Step). g.logged) is in
          let two = call.0 in
          absurd (omega (arith, few, two, within))
      | inr e ↦
          let is : h ≡ step 4 5 6 = some_is h (step 4 5 6) (sym (subst (λ (i : ℕ). At reopened.heard i h) e.0 live.8)) in
          let four : h.sent ≡ 4 = ap (λ (g : Step). g.sent) is in
          let three = e.1 in
          (4, omega (arith, four), (adding 0 9, refl, call.1), (λ p low high meant. omega (arith, three, low, high)))
    ]

-- the EVENT_ADD asks for what the call did
added-call : (o : Outcome) → (a : Wish) × In (reopened_lines o) (Called (On 0 (Subscribe 0)) a) × MayAsk (Subscribe 0) a × AsksFor (adding 0 9).message a
added-call o = (ToWatch 5 1 1, (2, refl), tt, (refl, refl, mask-is 0 9))

legal-circuit : (o : Outcome) → LegalCircuit 0 reopened (reopened_lines o) reopened_entries
legal-circuit o = record {
  client = reopened-client;
  server = reopened-server;
  called = λ k s at. each-at (λ (i : ℕ) (z : Sent). WasCalled reopened (reopened_lines o) i z.intent z.message) reopened.up (
    (0, refl),
    (added-call o, (inr (3, disconnected, step 2 4 5, refl, refl, refl, (refl, refl)), ((0, refl), (added-call o, tt)))),
  ) k s at;
  told = λ j k sid r e made gone uncleared up. gone-told j k sid r e made gone;
  apart = λ k l channel number lt a b. elim (subscribed-at k channel number a) [
    | inl x ↦ elim (subscribed-at l channel number b) [
      | inl y ↦ absurd (omega (arith, x, y, lt))
      | inr y ↦ (3, omega (arith, x), omega (arith, y), (creating, refl, ap (λ (c : ℕ). On c Create) (of-channel k channel number a)))
    ]
    | inr x ↦ elim (subscribed-at l channel number b) [
      | inl y ↦ absurd (omega (arith, x, y, lt))
      | inr y ↦ absurd (omega (arith, x, y, lt))
    ]
  ];
  renewed = λ channel k number h live standing. sent-again o channel k number h live standing.0;
  ended = λ channel k l number h live lt meant. (is-held o h.logged channel number, (λ p there. no-refusal o there.0 channel number p (at-take h.logged (reopened_lines o) there.0 _ there.1)));
}

pub each-circuit : (o : Outcome) (P : ℕ → Circuit → List Line → List Entry → Type 0) → P 0 reopened (reopened_lines o) reopened_entries → OfCircuits (reopened_world o) P
each-circuit o P h n c at =
    let e = one-at reopened n c at in
    subst (λ (d : Circuit). (x : List Line) × (y : List Entry) × Joins (reopened_world o) n d x y × P n d x y) (sym e.1) (
    subst (λ (m : ℕ). (x : List Line) × (y : List Entry) × Joins (reopened_world o) m reopened x y × P m reopened x y) (sym e.0) (reopened_lines o, reopened_entries, (refl, refl, refl), h))

pub each-life : (o : Outcome) (P : ℕ → List Line → Type 0) → P 0 (reopened_lines o) → OfClients (reopened_world o) P
each-life o P h life x at =
    let e = one-at (reopened_lines o) life x at in
    subst (λ (y : List Line). P life y) (sym e.1) (subst (λ (m : ℕ). P m (reopened_lines o)) (sym e.0) h)

pub reopened-legal : (o : Outcome) → Legal (reopened_world o)
reopened-legal o = record {
  circuits = each-circuit o LegalCircuit (legal-circuit o);
  subscriptions = each-life o (IsSent (reopened_world o)) (λ channel number h. (0, 1, (reopened, refl, refl, (adding 0 9, refl, (call-at o h.1.0 _ h.0 h.1.1).1))));
  ids = one-apart (reopened_world o) reopened refl;
}
