-- What was sent of a channel and of a subscription on one circuit, as one more
-- message is sent there.
use Rattle.std.proofs.Common.{◌≡◌, ℕ, ◌<◌, inl, inr, List, [], ◌∷◌, ◌++◌, length, sym, ap, ◌∙◌, subst, arith}
use Rattle.ca_text.proofs.Places.{At-append, At-last, At-snoc, At-within}
use Rattle.ca_arena.specs.declared.handle.Handle.{Handle}
use Rattle.ca_monitor.specs.Subscriptions.{Cancelled, Ended, Stage, Stands}
use Rattle.ca_model.specs.Client.{Clearing, Connecting, Creating, Doomed, Leaving, Live, Phase}
use Rattle.ca_model.specs.History.{Ask, Cancel, Clear, Create, On, Sent, Subscribe}
use Rattle.ca_laws_runs.specs.Quiet.{IsAskedAt, IsBeingCancelled, IsBeingCleared, IsBeingCreated, IsOfUse, NoCancel, NoneAfter, PhaseIn, StageIn, UsedAfter, UsedBut}

pub same-number : (a b : ℕ) (p q : Ask) → On a p ≡ On b q → a ≡ b
same-number a b p q e = cc

pub same-ask : (a b : ℕ) (p q : Ask) → On a p ≡ On b q → p ≡ q
same-ask a b p q e = cc

pub clear-unused : (ask : Ask) → ask ≡ Clear → IsOfUse ask → ⊥
clear-unused ask is used = subst (λ (z : Ask). IsOfUse z) is used

pub create-unused : (ask : Ask) → ask ≡ Create → IsOfUse ask → ⊥
create-unused ask is used = subst (λ (z : Ask). IsOfUse z) is used

module _ (up : List Sent) (s : Sent) (number : ℕ) where
  asked-more : (k : ℕ) (ask : Ask) → IsAskedAt up k number ask → IsAskedAt (up ++ s ∷ []) k number ask
  asked-more k ask a = (a.0, At-append up (s ∷ []) k a.0 a.1, a.2)

  asked-last : (ask : Ask) → s.intent ≡ On number ask → IsAskedAt (up ++ s ∷ []) (length up) number ask
  asked-last ask is = (s, At-last up s, is)

  none-last : NoneAfter (up ++ s ∷ []) (length up) number
  none-last l r ask lt at is = elim (At-snoc up s l r at) [
    | inl old ↦ (let w : l < length up = At-within up l r old in omega (arith, lt, w))
    | inr new ↦ (let e : l ≡ length up = new.0 in omega (arith, lt, e))
  ]

  -- ---- a message on another channel, or one that uses this

  none-more : (k : ℕ) → ((ask : Ask) → s.intent ≡ On number ask → ⊥) → NoneAfter up k number → NoneAfter (up ++ s ∷ []) k number
  none-more k other none l r ask lt at is = elim (At-snoc up s l r at) [
    | inl old ↦ none l r ask lt old is
    | inr new ↦ other ask (ap (λ (z : Sent). z.intent) (sym new.1) ∙ is)
  ]

  used-more : (k : ℕ) → ((ask : Ask) → s.intent ≡ On number ask → IsOfUse ask) → UsedAfter up k number → UsedAfter (up ++ s ∷ []) k number
  used-more k uses used l r ask lt at is = elim (At-snoc up s l r at) [
    | inl old ↦ used l r ask lt old is
    | inr new ↦ uses ask (ap (λ (z : Sent). z.intent) (sym new.1) ∙ is)
  ]

  but-more : (k q : ℕ) → ((ask : Ask) → s.intent ≡ On number ask → ⊥) → UsedBut up k q number → UsedBut (up ++ s ∷ []) k q number
  but-more k q other used l r ask lt at is = elim (At-snoc up s l r at) [
    | inl old ↦ used l r ask lt old is
    | inr new ↦ absurd (other ask (ap (λ (z : Sent). z.intent) (sym new.1) ∙ is))
  ]

  created-other : ((ask : Ask) → s.intent ≡ On number ask → ⊥) → IsBeingCreated up number → IsBeingCreated (up ++ s ∷ []) number
  created-other other c = (c.0, asked-more c.0 Create c.1, none-more c.0 other c.2)

  cleared-other : ((ask : Ask) → s.intent ≡ On number ask → ⊥) → IsBeingCleared up number → IsBeingCleared (up ++ s ∷ []) number
  cleared-other other c = (c.0, c.1, asked-more c.0 Create c.2, asked-more c.1 Clear c.3, none-more c.1 other c.4, but-more c.0 c.1 other c.5)

  pub phase-other : (p : Phase) → ((ask : Ask) → s.intent ≡ On number ask → ⊥) → PhaseIn up number p → PhaseIn (up ++ s ∷ []) number p
  phase-other Connecting other c = tt
  phase-other (Creating rights) other c = created-other other c
  phase-other Doomed other c = created-other other c
  phase-other (Live n rights) other c = (c.0, asked-more c.0 Create c.1, used-more c.0 (λ ask is. absurd (other ask is)) c.2)
  phase-other Leaving other c = cleared-other other c
  phase-other Clearing other c = cleared-other other c

  pub phase-used : (k : ℕ) → ((ask : Ask) → s.intent ≡ On number ask → IsOfUse ask) → IsAskedAt up k number Create → UsedAfter up k number
      → (k : ℕ) × IsAskedAt (up ++ s ∷ []) k number Create × UsedAfter (up ++ s ∷ []) k number
  phase-used k uses created used = (k, asked-more k Create created, used-more k uses used)

  -- ---- its CREATE_CHAN, and its CLEAR_CHANNEL

  pub phase-created : s.intent ≡ On number Create → IsBeingCreated (up ++ s ∷ []) number
  phase-created is = (length up, asked-last Create is, none-last)

  cleared-so : (k : ℕ) → s.intent ≡ On number Clear → IsAskedAt up k number Create → UsedAfter up k number → IsBeingCleared (up ++ s ∷ []) number
  cleared-so k is created used = (
    k,
    length up,
    asked-more k Create created,
    asked-last Clear is,
    none-last,
    λ l r ask lt at is_on. elim (At-snoc up s l r at) [
      | inl old ↦ inr (used l r ask lt old is_on)
      | inr new ↦ inl new.0
    ],
  )

  pub live-cleared : (k : ℕ) × IsAskedAt up k number Create × UsedAfter up k number → s.intent ≡ On number Clear → IsBeingCleared (up ++ s ∷ []) number
  live-cleared c is = cleared-so c.0 is c.1 c.2

  pub doomed-cleared : IsBeingCreated up number → s.intent ≡ On number Clear → IsBeingCleared (up ++ s ∷ []) number
  doomed-cleared c is = cleared-so c.0 is c.1 (λ l r ask lt at is_on. absurd (c.2 l r ask lt at is_on))

-- a channel that is created is live now
pub created-live : (up : List Sent) (number : ℕ) → IsBeingCreated up number → (k : ℕ) × IsAskedAt up k number Create × UsedAfter up k number
created-live up number c = (c.0, c.1, λ l r ask lt at is. absurd (c.2 l r ask lt at is))

-- ---- subscriptions

module _ (on : Handle) (up : List Sent) (s : Sent) (number : ℕ) where
  none-cancelled : ((a : ℕ) → s.intent ≡ On a (Cancel number) → ⊥) → NoCancel up number → NoCancel (up ++ s ∷ []) number
  none-cancelled other none p a r at is = elim (At-snoc up s p r at) [
    | inl old ↦ none p a r old is
    | inr new ↦ other a (ap (λ (z : Sent). z.intent) (sym new.1) ∙ is)
  ]

  cancelled-other : ((a : ℕ) → s.intent ≡ On a (Subscribe number) → ⊥) → ((a : ℕ) → s.intent ≡ On a (Cancel number) → ⊥) → IsBeingCancelled up number → IsBeingCancelled (up ++ s ∷ []) number
  cancelled-other adds cancels c = (
    c.0,
    c.1,
    asked-more up s c.1 c.0 (Cancel number) c.2,
    λ p a r at is. elim (At-snoc up s p r at) [
      | inl old ↦ c.3 p a r old is
      | inr new ↦ absurd (adds a (ap (λ (z : Sent). z.intent) (sym new.1) ∙ is))
    ],
    λ p a r at is. elim (At-snoc up s p r at) [
      | inl old ↦ c.4 p a r old is
      | inr new ↦ absurd (cancels a (ap (λ (z : Sent). z.intent) (sym new.1) ∙ is))
    ],
  )

  -- a message about another
  pub stage-other : (stage : Stage) → ((a : ℕ) → s.intent ≡ On a (Subscribe number) → ⊥) → ((a : ℕ) → s.intent ≡ On a (Cancel number) → ⊥) → StageIn on up number stage → StageIn on (up ++ s ∷ []) number stage
  stage-other Stands adds cancels c = none-cancelled cancels c
  stage-other (Ended e) adds cancels c = tt
  stage-other (Cancelled e) adds cancels c = λ here. cancelled-other adds cancels (c here)

  no-cancel : (a b m k : ℕ) → On a (Subscribe m) ≡ On b (Cancel k) → ⊥
  no-cancel a b m k e = cc

  -- its EVENT_ADD, while it stands
  pub stage-added : (b m : ℕ) → s.intent ≡ On b (Subscribe m) → NoCancel up number → NoCancel (up ++ s ∷ []) number
  stage-added b m is c = none-cancelled (λ a cancels. no-cancel b a m number (sym is ∙ cancels)) c

  -- its EVENT_CANCEL
  pub stage-cancelled : (b : ℕ) → s.intent ≡ On b (Cancel number) → NoCancel up number → IsBeingCancelled (up ++ s ∷ []) number
  stage-cancelled b is c = (
    length up,
    b,
    asked-last up s b (Cancel number) is,
    λ p a r at adds. elim (At-snoc up s p r at) [
      | inl old ↦ At-within up p r old
      | inr new ↦ absurd (no-cancel a b number number (sym adds ∙ ap (λ (z : Sent). z.intent) new.1 ∙ is))
    ],
    λ p a r at cancels. elim (At-snoc up s p r at) [
      | inl old ↦ absurd (c p a r old cancels)
      | inr new ↦ new.0
    ],
  )
