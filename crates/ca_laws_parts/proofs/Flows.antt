-- How the meaning of ids is kept as the lists grow: a message is sent, one is told, one is
-- handled, one is read.
use Rattle.std.proofs.Common.{◌≡◌, ℕ, ◌+◌, ◌<◌, ◌≤◌, ◌⊎◌, inl, inr, List, [], ◌∷◌, ◌++◌, length, refl, sym, ap, ◌∙◌, subst, arith}
use Rattle.ca_text.specs.Place.{At}
use Rattle.ca_text.proofs.Places.{At-append, At-one, At-or, At-snoc, At-within}
use Rattle.ca_model.specs.Speech.{Id, Gives, In, Speaks}
use Rattle.ca_model.specs.History.{Intent, Reply, Sent, Told, Step, Circuit}
use Rattle.ca_model.specs.Channels.{Suits, until}
use Rattle.ca_model.specs.Causes.{TakesOwn}
use Rattle.ca_laws_parts.specs.Flows.{Awaits, Concerns, Flows, IsCidOf, IsGiven, IsLast, MaySend, MayTell, MeansOwn, NoMore, with_handled, with_heard, with_sent, with_told}
use Rattle.ca_laws_parts.proofs.CircuitLists.{At-old, until-heard, until-read, until-unread}
use Rattle.ca_model.proofs.Tables.{length-more}

-- ---- what a message concerns is settled when it is sent

pub cid-back : (up : List Sent) (s : Sent) (p : ℕ) (intent : Intent) (cid : ℕ) → p < length up → IsCidOf (up ++ s ∷ []) p intent cid → IsCidOf up p intent cid
cid-back up s p intent cid lt h = (
  h.0,
  h.1,
  h.2,
  h.3,
  h.4,
  h.5,
  At-old up h.3 s h.1 h.6 (omega (arith, h.5, lt)),
  h.7,
  h.8,
  λ l r a b at. h.9 l r a b (At-append up (s ∷ []) l r at),
)

pub concerns-back : (up : List Sent) (s : Sent) (p : ℕ) (id : Id) → p < length up → Concerns (up ++ s ∷ []) p id → Concerns up p id
concerns-back up s p id lt h = (
  h.0,
  At-old up h.0 s p h.1 lt,
  elim h.2 [
    | inl gives ↦ inl gives
    | inr (inl clears) ↦ inr (inl clears)
    | inr (inr (inl cancels)) ↦ inr (inr (inl cancels))
    | inr (inr (inr writes)) ↦ inr (inr (inr (writes.0, (writes.1.0, cid-back up s p h.0.intent writes.1.0 lt writes.1.1, writes.1.2))))
  ],
)

cid-sent : (up : List Sent) (s : Sent) (p : ℕ) (intent : Intent) (cid : ℕ) → p < length up → IsCidOf up p intent cid → IsCidOf (up ++ s ∷ []) p intent cid
cid-sent up s p intent cid lt h = (
  h.0,
  h.1,
  h.2,
  h.3,
  h.4,
  h.5,
  At-append up (s ∷ []) h.1 h.3 h.6,
  h.7,
  h.8,
  λ l r a b at. h.9 l r a b (At-old up r s l at (omega (arith, b, lt))),
)

-- and stays so
pub concerns-sent : (up : List Sent) (s : Sent) (p : ℕ) (id : Id) → Concerns up p id → Concerns (up ++ s ∷ []) p id
concerns-sent up s p id h = (
  h.0,
  At-append up (s ∷ []) p h.0 h.1,
  elim h.2 [
    | inl gives ↦ inl gives
    | inr (inl clears) ↦ inr (inl clears)
    | inr (inr (inl cancels)) ↦ inr (inr (inl cancels))
    | inr (inr (inr writes)) ↦
        inr (inr (inr (writes.0, (writes.1.0, cid-sent up s p h.0.intent writes.1.0 (At-within up p h.0 h.1) writes.1.1, writes.1.2))))
  ],
)

pub concerns-there : (up : List Sent) (p : ℕ) (id : Id) → Concerns up p id → p < length up
concerns-there up p id h = At-within up p h.0 h.1

-- an id that is not given again means what it meant
pub given-sent : (up : List Sent) (s : Sent) (id : Id) (k number : ℕ) → (Gives s.message id → ⊥) → IsGiven up id k number → IsGiven (up ++ s ∷ []) id k number
given-sent up s id k number other g = (
  g.0,
  At-append up (s ∷ []) k g.0 g.1,
  g.2,
  g.3,
  λ l r lt at gives. elim (At-snoc up s l r at) [
    | inl old ↦ g.4 l r lt old gives
    | inr new ↦ other (subst (λ (x : Sent). Gives x.message id) new.1 gives)
  ],
)

pub means-sent : (up : List Sent) (s : Sent) (p : ℕ) (id : Id) → (Gives s.message id → ⊥) → MeansOwn up p id → MeansOwn (up ++ s ∷ []) p id
means-sent up s p id other m =
    (m.0, m.1, m.2, given-sent up s id m.0 m.1 other m.3, m.4, At-append up (s ∷ []) p m.2 m.5, m.6)

-- what an id means now is what the next message will be taken for
pub takes-now : (c : Circuit) (j p : ℕ) (id : Id) → length c.heard ≤ j → MeansOwn c.up p id → TakesOwn c j p id
takes-now c j p id late m =
    let now : until c j ≡ length c.up = until-unread c j late in
    let g = m.3 in
    let k : m.0 < length c.up = At-within c.up m.0 g.0 g.1 in
    (m.0, m.1, g.0, m.2, (g.0, g.1, g.2, omega (arith, k, now), λ l r lt below at gives. g.4 l r lt at gives), m.4, g.1, m.5, g.3, m.6)

pub given-now : (c : Circuit) (j p : ℕ) (id : Id) → length c.heard ≤ j → TakesOwn c j p id → MeansOwn c.up p id
given-now c j p id late m =
    let now : until c j ≡ length c.up = until-unread c j late in
    let took = m.4 in
    let same : m.2 ≡ took.0 = At-one c.up m.0 m.2 took.0 m.6 took.1 in (
      m.0,
      m.1,
      m.3,
      (
        m.2,
        m.6,
        subst (λ (x : Sent). Gives x.message id) (sym same) took.2,
        m.8,
        λ l r lt at gives. took.4 l r lt (let in_it : l < length c.up = At-within c.up l r at in omega (arith, in_it, now)) at gives,
      ),
      m.5,
      m.7,
      m.9,
    )

module _ (Awaits : ℕ → Type 0) where
  -- ---- a message is sent

  pub flows-sent : (c : Circuit) (s : Sent) → MaySend Awaits c s → Flows Awaits c → Flows Awaits (with_sent s c)
  flows-sent c s may f =
      let len : length (c.up ++ s ∷ []) ≡ length c.up + 1 = length-more c.up s in
      record {
        within = f.within;
        early = λ j h at. (let le : h.sent ≤ length c.up = f.early j h at in omega (arith, le, len));
        about = λ j t at. (let lt : t.place < length c.up = f.about j t at in omega (arith, lt, len));
        asked = λ k r at. elim (At-snoc c.up s k r at) [
          | inl old ↦ f.asked k r old
          | inr new ↦ subst (λ (x : Sent). Suits x.intent x.message) (sym new.1) may.suits
        ];
        own = λ j t id at speaks. elim (At-or c.heard j) [
          | inl read ↦
              let m = f.own j t id at speaks in
              let took = m.4 in
              let now : until (with_sent s c) j ≡ read.0.sent = until-read (with_sent s c) j read.0 read.1 in
              let was : until c j ≡ read.0.sent = until-read c j read.0 read.1 in
              let below : read.0.sent ≤ length c.up = f.early j read.0 read.1 in (
                m.0,
                m.1,
                m.2,
                m.3,
                (
                  took.0,
                  At-append c.up (s ∷ []) m.0 took.0 took.1,
                  took.2,
                  (let lt : m.0 < until c j = took.3 in omega (arith, lt, now, was)),
                  λ l r lt less there gives. took.4 l r lt (omega (arith, less, now, was)) (At-old c.up r s l there (omega (arith, less, now, below))) gives,
                ),
                m.5,
                At-append c.up (s ∷ []) m.0 m.2 m.6,
                At-append c.up (s ∷ []) t.place m.3 m.7,
                m.8,
                m.9,
              )
          | inr late ↦
              let m : MeansOwn c.up t.place id = given-now c j t.place id late (f.own j t id at speaks) in
              takes-now (with_sent s c) j t.place id late
              (means-sent c.up s t.place id (λ gives. may.fresh t.place id gives (inr (j, t, at, late, refl, speaks))) m)
        ];
        concerns = λ j t id at speaks. concerns-sent c.up s t.place id (f.concerns j t id at speaks);
        next = λ p id awaits concerns. elim (At-snoc c.up s p concerns.0 concerns.1) [
          | inl old ↦
              let before : Concerns c.up p id = concerns-back c.up s p id (At-within c.up p concerns.0 old) concerns in
              means-sent c.up s p id (λ gives. may.fresh p id gives (inl (awaits, before))) (f.next p id awaits before)
          | inr new ↦
              subst (λ (q : ℕ). MeansOwn (c.up ++ s ∷ []) q id) (sym new.0)
              (may.means id (subst (λ (q : ℕ). Concerns (c.up ++ s ∷ []) q id) new.0 concerns))
        ];
        last = λ j t r at cause there is. f.last j t r at cause (At-old c.up r s t.place there (f.about j t at)) is;
        over = λ j p t r q at cause there here lt ends.
            let place : t.place < length c.up = f.about j t at in
            f.over j p t r q at cause (At-old c.up r s t.place there place) (At-old c.up q s p here (omega (arith, lt, place))) lt ends;
      }

  -- ---- a message is read

  pub flows-heard : (c : Circuit) (h : Step) → h.sent ≡ length c.up → length c.heard < length c.down → Flows Awaits c → Flows Awaits (with_heard h c)
  flows-heard c h now lt f =
      let len : length (c.heard ++ h ∷ []) ≡ length c.heard + 1 = length-more c.heard h in
      record {
        within = omega (arith, len, lt);
        early = λ j g at. elim (At-snoc c.heard h j g at) [
          | inl old ↦ f.early j g old
          | inr new ↦ (let e : g.sent ≡ length c.up = ap (λ (x : Step). x.sent) new.1 ∙ now in omega (arith, e))
        ];
        about = f.about;
        asked = f.asked;
        own = λ j t id at speaks.
            let m = f.own j t id at speaks in
            let took = m.4 in
            let e : until (with_heard h c) j ≡ until c j = until-heard c h j now in (
              m.0,
              m.1,
              m.2,
              m.3,
              (took.0, took.1, took.2, (let less : m.0 < until c j = took.3 in omega (arith, less, e)), λ l r a b there gives. took.4 l r a (omega (arith, b, e)) there gives),
              m.5,
              m.6,
              m.7,
              m.8,
              m.9,
            );
        concerns = f.concerns;
        next = f.next;
        last = f.last;
        over = f.over;
      }

-- ---- a message is handled, or what the server keeps for one is over: less may come

no-fewer : (Awaits Fewer : ℕ → Type 0) (c : Circuit) (j p : ℕ) → ((p : ℕ) → Fewer p → Awaits p) → NoMore Awaits c j p → NoMore Fewer c j p
no-fewer Awaits Fewer c j p fewer n = (λ a. n.0 (fewer p a), n.1)

pub flows-fewer : (Awaits Fewer : ℕ → Type 0) (c : Circuit) → ((p : ℕ) → Fewer p → Awaits p) → Flows Awaits c → Flows Fewer c
flows-fewer Awaits Fewer c fewer f = record {
  within = f.within;
  early = f.early;
  about = f.about;
  asked = f.asked;
  own = f.own;
  concerns = f.concerns;
  next = λ p id awaits concerns. f.next p id (fewer p awaits) concerns;
  last = λ j t s at cause there is. no-fewer Awaits Fewer c j t.place fewer (f.last j t s at cause there is);
  over = λ j p t s r at cause there here lt ends. no-fewer Awaits Fewer c j p fewer (f.over j p t s r at cause there here lt ends);
}

pub flows-handled : (Awaits Fewer : ℕ → Type 0) (c : Circuit) (h : Step) → ((p : ℕ) → Fewer p → Awaits p) → Flows Awaits c → Flows Fewer (with_handled h c)
flows-handled Awaits Fewer c h fewer f =
    let g : Flows Fewer c = flows-fewer Awaits Fewer c fewer f in
    record { within = g.within; early = g.early; about = g.about; asked = g.asked; own = g.own; concerns = g.concerns; next = g.next; last = g.last; over = g.over }

-- ---- a message is told

pub flows-told : (Awaits Fewer : ℕ → Type 0) (c : Circuit) (t : Told) → MayTell Awaits Fewer c t → Flows Awaits c → Flows Fewer (with_told t c)
flows-told Awaits Fewer c t may f =
    let len : length (c.down ++ t ∷ []) ≡ length c.down + 1 = length-more c.down t in
    let late : length c.heard ≤ length c.down = f.within in
    record {
      within = omega (arith, late, len);
      early = f.early;
      about = λ j u at. elim (At-snoc c.down t j u at) [
        | inl old ↦ f.about j u old
        | inr new ↦ subst (λ (x : Told). x.place < length c.up) (sym new.1) may.there
      ];
      asked = f.asked;
      own = λ j u id at speaks. elim (At-snoc c.down t j u at) [
        | inl old ↦ f.own j u id old speaks
        | inr new ↦
            let mine : Speaks t.message id = subst (λ (x : Told). Speaks x.message id) new.1 speaks in
            let m : MeansOwn c.up t.place id = f.next t.place id may.awaits (may.speaks id mine) in
            subst (λ (x : ℕ × Told). TakesOwn (with_told t c) x.0 x.1.place id) (λ i. (sym new.0 i, sym new.1 i))
            (takes-now (with_told t c) (length c.down) t.place id late m)
      ];
      concerns = λ j u id at speaks. elim (At-snoc c.down t j u at) [
        | inl old ↦ f.concerns j u id old speaks
        | inr new ↦
            subst (λ (x : Told). Concerns c.up x.place id) (sym new.1) (may.speaks id (subst (λ (x : Told). Speaks x.message id) new.1 speaks))
      ];
      next = λ p id awaits concerns. f.next p id (may.fewer p awaits) concerns;
      last = λ j u s at cause there is. elim (At-snoc c.down t j u at) [
        | inl old ↦
            let n = f.last j u s old cause there is in (
              λ a. n.0 (may.fewer u.place a),
              λ i v here same. elim (At-snoc c.down t i v here) [
                | inl before ↦ n.1 i v before same
                | inr now ↦
                    absurd (n.0 (subst (λ (q : ℕ). Awaits q) (ap (λ (x : Told). x.place) (sym now.1) ∙ same) may.awaits))
              ],
            )
        | inr new ↦
            let cause_is : t.cause ≡ Reply = ap (λ (x : Told). x.cause) (sym new.1) ∙ cause in
            let here : At c.up t.place s = subst (λ (x : Told). At c.up x.place s) new.1 there in
            let final : IsLast t.message s.intent = subst (λ (x : Told). IsLast x.message s.intent) new.1 is in (
              λ a. may.last s cause_is here final (subst (λ (x : Told). Fewer x.place) new.1 a),
              λ i v there same. (let in_it : i < length (c.down ++ t ∷ []) = At-within (c.down ++ t ∷ []) i v there in let e : j ≡ length c.down = new.0 in omega (arith, in_it, len, e)),
            )
      ];
      over = λ j p u s r at cause there here lt ends. elim (At-snoc c.down t j u at) [
        | inl old ↦
            let n = f.over j p u s r old cause there here lt ends in (
              λ a. n.0 (may.fewer p a),
              λ i v stands same. elim (At-snoc c.down t i v stands) [
                | inl before ↦ n.1 i v before same
                | inr now ↦
                    absurd (n.0 (subst (λ (q : ℕ). Awaits q) (ap (λ (x : Told). x.place) (sym now.1) ∙ same) may.awaits))
              ],
            )
        | inr new ↦
            let cause_is : t.cause ≡ Reply = ap (λ (x : Told). x.cause) (sym new.1) ∙ cause in
            let mine : At c.up t.place s = subst (λ (x : Told). At c.up x.place s) new.1 there in
            let less : p < t.place = subst (λ (x : Told). p < x.place) new.1 lt in (
              λ a. may.over p s r cause_is mine here less ends a,
              λ i v stands same. (let in_it : i < length (c.down ++ t ∷ []) = At-within (c.down ++ t ∷ []) i v stands in let e : j ≡ length c.down = new.0 in omega (arith, in_it, len, e)),
            )
      ];
    }

-- what may still come after a message was handled might have come before
pub awaits-handled : (kept now : List ℕ) (c : Circuit) (h : Step) → ((p : ℕ) → In now p → In kept p ⊎ (p ≡ length c.handled)) → (p : ℕ) → Awaits (with_handled h c) now p → Awaits c kept p
awaits-handled kept now c h were p a =
    let len : length (c.handled ++ h ∷ []) ≡ length c.handled + 1 = length-more c.handled h in
    elim a [
      | inl late ↦ inl (omega (arith, late, len))
      | inr keeps ↦ elim (were p keeps) [
        | inl old ↦ inr old
        | inr new ↦ inl (omega (arith, new))
      ]
    ]

-- a circuit on which nothing was sent
pub flows-new : (Awaits : ℕ → Type 0) (c : Circuit) → c.up ≡ [] → c.down ≡ [] → c.heard ≡ [] → Flows Awaits c
flows-new Awaits c up down heard = record {
  within = (let e : length c.heard ≡ 0 = ap (λ (l : List Step). length l) heard in omega (arith, e));
  early = λ j h at. absurd (none j h (subst (λ (l : List Step). At l j h) heard at));
  about = λ j t at. absurd (none j t (subst (λ (l : List Told). At l j t) down at));
  asked = λ k s at. absurd (none k s (subst (λ (l : List Sent). At l k s) up at));
  own = λ j t id at speaks. absurd (none j t (subst (λ (l : List Told). At l j t) down at));
  concerns = λ j t id at speaks. absurd (none j t (subst (λ (l : List Told). At l j t) down at));
  next = λ p id awaits concerns. absurd (none p concerns.0 (subst (λ (l : List Sent). At l p concerns.0) up concerns.1));
  last = λ j t s at cause there is. absurd (none j t (subst (λ (l : List Told). At l j t) down at));
  over = λ j p t s r at cause there here lt ends. absurd (none j t (subst (λ (l : List Told). At l j t) down at));
}
  where
    none : {A : Type 0} (k : ℕ) (a : A) → At [] k a → ⊥
    none k a e = cc
