-- What a client has of a circuit, and what it said there, as more messages are sent.
use Rattle.std.proofs.Common.{◌≡◌, ℕ, ◌+◌, ◌<◌, ◌≤◌, ◌⊎◌, inl, inr, List, ◌++◌, length, sym, ap, ◌∙◌, subst, arith}
use Rattle.std.proofs.lemmas.List.{length-append}
use Rattle.ca_text.specs.Place.{At}
use Rattle.ca_text.proofs.Places.{At-after, At-append, At-parts, At-within}
use Rattle.ca_arena.specs.declared.handle.Handle.{Handle}
use Rattle.ca_model.specs.Client.{Client}
use Rattle.ca_model.specs.History.{Ask, Circuit, Create, On, OfCircuit, Reply, Sent, Told}
use Rattle.ca_model.specs.Speech.{Clears, Creates, sid_in}
use Rattle.ca_model.specs.ClientEvents.{channel_number}
use Rattle.ca_model.specs.World.{Names}
use Rattle.ca_laws_parts.specs.Sids.{IsClearedWithin}
use Rattle.ca_laws_runs.specs.Under.{IsCreatedBefore, IsUse}
use Rattle.ca_laws_runs.specs.Sides.{AreInTurn, IsLiveAs, Right, Sides}

-- What is known of a circuit d which c became: a channel is created again only once its last
-- CREATE_CHAN was handled, and its reply was read; and what was told is about what had been sent.
pub record Facts (c d : Circuit) : Type 0 where
  pub turn : AreInTurn d
  pub read : (p k a i sid : ℕ) (r q : Sent) (t : Told) → p < k → At d.up p r → At d.up k q → r.intent ≡ On a Create → q.intent ≡ On a Create → At d.down i t → t.place ≡ p → t.cause ≡ Reply → Creates t.message sid
      → i < length d.heard
  pub about : (i : ℕ) (t : Told) → At c.down i t → t.place < length c.up

pub not-created : (a b : ℕ) (ask : Ask) → OfCircuit ≡ On a ask → ⊥
not-created a b ask e = cc

module _ (c d : Circuit) (ss : List Sent) (up : d.up ≡ c.up ++ ss) (down : d.down ≡ c.down) (heard : length d.heard ≡ length c.heard) (handled : length d.handled ≡ length c.handled) where
  old-up : (p : ℕ) (s : Sent) → At c.up p s → At d.up p s
  old-up p s at = subst (λ (l : List Sent). At l p s) (sym up) (At-append c.up ss p s at)

  new-up : (p : ℕ) (s : Sent) → At d.up p s → At c.up p s ⊎ ((l : ℕ) × (p ≡ length c.up + l) × At ss l s)
  new-up p s at = At-parts c.up ss p s (subst (λ (l : List Sent). At l p s) up at)

  added : (l : ℕ) (s : Sent) → At ss l s → At d.up (length c.up + l) s
  added l s at = subst (λ (z : List Sent). At z (length c.up + l) s) (sym up) (At-after c.up ss l s at)

  long : length d.up ≡ length c.up + length ss
  long = ap length up ∙ length-append c.up ss

  old-down : (i : ℕ) (t : Told) → At d.down i t → At c.down i t
  old-down i t at = subst (λ (l : List Told). At l i t) down at

  new-down : (i : ℕ) (t : Told) → At c.down i t → At d.down i t
  new-down i t at = subst (λ (l : List Told). At l i t) (sym down) at

  below : (p : ℕ) (s : Sent) → At d.up p s → p < length c.up → At c.up p s
  below p s at lt = elim (new-up p s at) [
    | inl old ↦ old
    | inr new ↦ absurd (let e : p ≡ length c.up + new.0 = new.1 in omega (arith, e, lt))
  ]

  cleared-still : (sid a b e : ℕ) → b ≤ e → IsClearedWithin c.up sid a b → IsClearedWithin d.up sid a e
  cleared-still sid a b e le w = (w.0, w.1, w.2, (let lt : w.0 < b = w.3 in omega (arith, lt, le)), old-up w.0 w.1 w.4, w.5)

  -- the channel that was created last still is
  pub created-on : (a j k sid l : ℕ) → IsCreatedBefore c a j k sid (length c.up) → ((i : ℕ) (s : Sent) (ask : Ask) → i < l → At ss i s → s.intent ≡ On a ask → IsUse ask) → IsCreatedBefore d a j k sid (length c.up + l)
  created-on a j k sid l h uses = record {
    t = h.t;
    r = h.r;
    told = (new-down j h.t h.told.0, h.told.1, h.told.2, h.told.3);
    asked = (old-up k h.r h.asked.0, h.asked.1);
    early = (let lt : k < length c.up = h.early in omega (arith, lt));
    since = λ p q ask after before at is. elim (new-up p q at) [
      | inl old ↦ h.since p q ask after (At-within c.up p q old) old is
      | inr new ↦ uses new.0 q ask (let e : p ≡ length c.up + new.0 = new.1 in omega (arith, e, before)) new.2 is
    ];
  }

  created-still : (a j k sid b : ℕ) → b ≤ length c.up → IsCreatedBefore c a j k sid b → IsCreatedBefore d a j k sid b
  created-still a j k sid b le h = record {
    t = h.t;
    r = h.r;
    told = (new-down j h.t h.told.0, h.told.1, h.told.2, h.told.3);
    asked = (old-up k h.r h.asked.0, h.asked.1);
    early = h.early;
    since = λ p q ask after before at is. h.since p q ask after before (below p q at (omega (arith, before, le))) is;
  }

  pub right-more : Right c → ((i a : ℕ) (s : Sent) (ask : Ask) → At ss i s → s.intent ≡ On a ask → (ask ≡ Create → ⊥) → (j k : ℕ) × (j < length d.heard) × IsCreatedBefore d a j k (sid_in s.message) (length c.up + i))
      → ((i a p m sid : ℕ) (r q : Sent) (t : Told) → At ss i q → q.intent ≡ On a Create → p < length c.up + i → At d.up p r → r.intent ≡ On a Create → At d.down m t → t.place ≡ p → t.cause ≡ Reply → Creates t.message sid → IsClearedWithin d.up sid p (length c.up + i))
      → ((i a p : ℕ) (r q : Sent) → At ss i q → q.intent ≡ On a Create → p < length c.up + i → At d.up p r → r.intent ≡ On a Create → p < length d.handled) → Right d
  right-more h under between turn = record {
    under = λ p a s ask at is other. elim (new-up p s at) [
      | inl old ↦
          let b = h.under p a s ask old is other in
          (b.0, b.1, created-still a b.0 b.1 (sid_in s.message) p (let lt : p < length c.up = At-within c.up p s old in omega (arith, lt)) b.2)
      | inr new ↦
          let b = under new.0 a s ask new.2 is other in
          (b.0, b.1, subst (λ (z : ℕ). IsCreatedBefore d a b.0 b.1 (sid_in s.message) z) (sym new.1) b.3)
    ];
    read = λ p a s ask at is other. elim (new-up p s at) [
      | inl old ↦
          let b = h.read p a s ask old is other in
          (b.0, b.1, subst (λ (m : ℕ). b.0 < m) (sym heard) b.2, created-still a b.0 b.1 (sid_in s.message) p (let lt : p < length c.up = At-within c.up p s old in omega (arith, lt)) b.3)
      | inr new ↦
          let b = under new.0 a s ask new.2 is other in
          (b.0, b.1, b.2, subst (λ (z : ℕ). IsCreatedBefore d a b.0 b.1 (sid_in s.message) z) (sym new.1) b.3)
    ];
    between = λ p k a i sid r q t lt at_r at_q is_r is_q told about reply creates. elim (new-up k q at_q) [
      | inl old ↦
          let w : k < length c.up = At-within c.up k q old in
          cleared-still sid p k k (omega arith) (h.between p k a i sid r q t lt (below p r at_r (omega (arith, lt, w))) old is_r is_q (old-down i t told) about reply creates)
      | inr new ↦
          subst (λ (z : ℕ). IsClearedWithin d.up sid p z) (sym new.1)
          (between new.0 a p i sid r q t new.2 is_q (subst (λ (z : ℕ). p < z) new.1 lt) at_r is_r told about reply creates)
    ];
    turn = λ p k a r q lt at_r at_q is_r is_q. elim (new-up k q at_q) [
      | inl old ↦
          let w : k < length c.up = At-within c.up k q old in
          subst (λ (z : ℕ). p < z) (sym handled) (h.turn p k a r q lt (below p r at_r (omega (arith, lt, w))) old is_r is_q)
      | inr new ↦ turn new.0 a p r q new.2 is_q (subst (λ (z : ℕ). p < z) new.1 lt) at_r is_r
    ];
  }

  pub sides-more : (n now : Names) (x z : Client) (on : Handle) → Sides n x on c → ((h : Handle) (sid : ℕ) → IsLiveAs x.channels on h sid → channel_number now h ≡ channel_number n h)
      → ((h : Handle) (sid : ℕ) → IsLiveAs z.channels on h sid → IsLiveAs x.channels on h sid)
      → ((h : Handle) (sid : ℕ) → IsLiveAs x.channels on h sid → IsLiveAs z.channels on h sid ⊎ ((l : ℕ) × (s : Sent) × At ss l s × Clears s.message sid))
      → ((h : Handle) (sid : ℕ) → IsLiveAs z.channels on h sid → (i : ℕ) (s : Sent) (ask : Ask) → At ss i s → s.intent ≡ On (channel_number n h) ask → IsUse ask)
      → ((i : ℕ) (t : Told) (l a : ℕ) (s : Sent) → At c.down i t → t.place ≡ length c.up + l → At ss l s → s.intent ≡ On a Create → ⊥) → Sides now z on d
  sides-more n now x z on h numbers fewer stays used about = record {
    lives = λ g sid l.
        let was = fewer g sid l in
        let b = h.lives g sid was in
        let more : IsCreatedBefore d (channel_number n g) b.0 b.1 sid (length c.up + length ss) = created-on (channel_number n g) b.0 b.1 sid (length ss) b.3 (λ i s ask lt at is. used g sid l i s ask at is) in (
          b.0,
          b.1,
          subst (λ (m : ℕ). b.0 < m) (sym heard) b.2,
          subst (λ (v : ℕ × ℕ). IsCreatedBefore d v.0 b.0 b.1 sid v.1) (λ i. (sym (numbers g sid was) i, sym long i)) more,
        );
    answered = λ i sid a t r lt at reply creates at_r is. elim (new-up t.place r at_r) [
      | inr new ↦ absurd (about i t new.0 a r (old-down i t at) new.1 new.2 is)
      | inl old ↦ elim (h.answered i sid a t r (subst (λ (m : ℕ). i < m) heard lt) (old-down i t at) reply creates old is) [
        | inl cleared ↦ inl (cleared-still sid t.place (length c.up) (length d.up) (let e : length d.up ≡ length c.up + length ss = long in omega (arith, e)) cleared)
        | inr live ↦ elim (stays live.0 sid live.2) [
          | inl still ↦ inr (live.0, numbers live.0 sid live.2 ∙ live.1, still)
          | inr clear ↦
              let before : t.place < length c.up = At-within c.up t.place r old in
              let within : clear.0 < length ss = At-within ss clear.0 clear.1 clear.2 in
              let e : length d.up ≡ length c.up + length ss = long in
              inl (length c.up + clear.0, clear.1, omega (arith, before), omega (arith, within, e), added clear.0 clear.1 clear.2, clear.3)
        ]
      ]
    ];
  }
