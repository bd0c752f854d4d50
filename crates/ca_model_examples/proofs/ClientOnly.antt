-- A message that is understood has one effect.
use Rattle.std.proofs.Common.{◌≡◌, ◌<◌, ◌⊎◌, ℕ, inl, inr, refl, arith}
use Rattle.ca_model.specs.Hears.{AccessRights, ClearChannel, Confirmation, CreateChannel, CreateChannelFail, Effect, Error, Hears, Other, Reply, Search, ServerDisconnect, Update, becomes}
use Rattle.ca_model_examples.specs.ClientRows.{OnlyLive, OnlySkipped, alive, cancelled, created_temp, first, late_update, permitted}

-- two numbers that differ
differs : {A : Type 0} (a b : ℕ) → ((a < b) ⊎ (b < a)) → a ≡ b → A
differs a b (inl l) e = absurd (omega (arith, l, e))
differs a b (inr l) e = absurd (omega (arith, l, e))

one_live : (e : Effect) → Hears permitted first created_temp e → e ≡ alive
one_live e (Search is d at finds) = differs 18 6 (inr (omega arith)) is
one_live e (AccessRights is by) = differs 18 22 (inl (omega arith)) is
one_live e (CreateChannel is by) = by
one_live e (CreateChannelFail is by) = differs 18 26 (inl (omega arith)) is
one_live e (ClearChannel is by) = differs 18 12 (inr (omega arith)) is
one_live e (ServerDisconnect is by) = differs 18 27 (inl (omega arith)) is
one_live e (Reply (inl is) by) = differs 18 15 (inr (omega arith)) is
one_live e (Reply (inr is) by) = differs 18 19 (inl (omega arith)) is
one_live e (Confirmation is none by) = differs 18 1 (inr (omega arith)) is
one_live e (Update is some by) = differs 18 1 (inr (omega arith)) is
one_live e (Error is by) = differs 18 11 (inr (omega arith)) is
one_live e (Other not_heard by) = cc

pub only-live : OnlyLive
only-live = (CreateChannel refl refl, one_live)

one_skipped : (e : Effect) → Hears cancelled first late_update e → e ≡ becomes cancelled
one_skipped e (Search is d at finds) = differs 1 6 (inl (omega arith)) is
one_skipped e (AccessRights is by) = differs 1 22 (inl (omega arith)) is
one_skipped e (CreateChannel is by) = differs 1 18 (inl (omega arith)) is
one_skipped e (CreateChannelFail is by) = differs 1 26 (inl (omega arith)) is
one_skipped e (ClearChannel is by) = differs 1 12 (inl (omega arith)) is
one_skipped e (ServerDisconnect is by) = differs 1 27 (inl (omega arith)) is
one_skipped e (Reply (inl is) by) = differs 1 15 (inl (omega arith)) is
one_skipped e (Reply (inr is) by) = differs 1 19 (inl (omega arith)) is
one_skipped e (Confirmation is none by) = cc
one_skipped e (Update is some by) = by
one_skipped e (Error is by) = differs 1 11 (inl (omega arith)) is
one_skipped e (Other not_heard by) = cc

pub only-skipped : OnlySkipped
only-skipped = (Update refl (λ none. cc) refl, one_skipped)
