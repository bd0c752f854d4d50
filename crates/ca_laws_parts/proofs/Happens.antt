-- The calls of a client as events of a world: what is held of each circuit stays so.
use Rattle.std.proofs.Common.{ℕ, ◌+◌, List, [], ◌∷◌, inl, inr, sym, subst}
use Rattle.std.specs.Prelude.{length}
use Rattle.ca_text.specs.Place.{At}
use Rattle.ca_arena.specs.declared.handle.Handle.{Handle}
use Rattle.ca_dbr.specs.Elements.{Elements}
use Rattle.ca_model.specs.Answers.{Notice}
use Rattle.ca_model.specs.History.{Intent}
use Rattle.ca_model.specs.History as history
use Rattle.ca_model.specs.ClientEvents.{HappensClear, HappensRead, HappensSubscribe, HappensUnsubscribe, HappensWrite, HappensWriteNotify, Outcomes, cancelled, lines_of}
use Rattle.ca_model.specs.World.{ClientSide, Names, World}
use Rattle.ca_laws_parts.specs.Held.{MeanToSubscribe, with_request, with_subscription}
use Rattle.ca_model.specs.Placed.{Attached}
use Rattle.ca_laws_parts.specs.Circuit.{AreGiven, HeldAt, sent_to}
use Rattle.ca_laws_parts.proofs.RunsCalls.{put-held, read-held, subscribe-held, write-held}
use Rattle.ca_laws_parts.proofs.RunsEnding.{clear-held, unsubscribe-held}
use Rattle.ca_laws_parts.proofs.Worlds.{after-call, more-writes, refused-held}

pub keeps-read : (kept : List ℕ) (w new : World) (i k c : ℕ) (x : ClientSide) (h : Handle) (data_type count : ℕ) → At w.clients i x → AreGiven x.names.requests x.core.requests → HappensRead w i x c h data_type count new → HeldAt kept w k → HeldAt kept new k
keeps-read kept w new i k c x h data_type count at given happens held = elim happens [
  | inl refusal ↦ refused-held kept w new i k x refusal.0 refusal.3 held
  | inr did ↦
      let q : Handle = did.0 in
      let now : Names = with_request q (history.On c (history.Request history.Read (length x.names.requests))) x.names in
      let o : Outcomes = record { core = did.2; names = now; lines = history.Called (history.On c (history.Request history.Read (length x.names.requests))) (history.ToRead data_type count) ∷ []; sent = did.1 } in
      subst (λ (v : World). HeldAt kept v k) (sym did.4) (after-call kept w i k x now o at (λ j there mine was. read-held kept i x.names x.core did.2 j h (record { data_type = data_type; count = count }) q did.1 c (length x.names.requests) given did.3 was mine) held)
]

pub keeps-write-notify : (kept : List ℕ) (w new : World) (i k c : ℕ) (x : ClientSide) (h : Handle) (e : Elements) → At w.clients i x → AreGiven x.names.requests x.core.requests → HappensWriteNotify w i x c h e new → HeldAt kept w k → HeldAt kept new k
keeps-write-notify kept w new i k c x h e at given happens held = elim happens [
  | inl refusal ↦ refused-held kept w new i k x refusal.0 refusal.3 held
  | inr did ↦
      let q : Handle = did.0 in
      let now : Names = with_request q (history.On c (history.Request history.Put (length x.names.requests))) x.names in
      let o : Outcomes = record { core = did.2; names = now; lines = history.Called (history.On c (history.Request history.Put (length x.names.requests))) (history.ToWrite e) ∷ []; sent = did.1 } in
      subst (λ (v : World). HeldAt kept v k) (sym did.4) (after-call kept w i k x now o at (λ j there mine was. put-held kept i x.names x.core did.2 j h e q did.1 c (length x.names.requests) given did.3 was mine) held)
]

pub keeps-write : (kept : List ℕ) (w new : World) (i k c : ℕ) (x : ClientSide) (h : Handle) (e : Elements) → At w.clients i x → HappensWrite w i x c h e new → HeldAt kept w k → HeldAt kept new k
keeps-write kept w new i k c x h e at happens held = elim happens [
  | inl refusal ↦ refused-held kept w new i k x refusal.0 refusal.3 held
  | inr did ↦
      let q : Unit {0} = did.0 in
      let now : Names = x.names in
      let o : Outcomes = record { core = did.2; names = record x.names { writes = x.names.writes + 1 }; lines = history.Called (history.On c (history.Request history.Write x.names.writes)) (history.ToWrite e) ∷ []; sent = did.1 } in
      subst (λ (v : World). HeldAt kept v k) (sym did.4) (after-call kept w i k x now o at (λ j there mine was. more-writes kept x.names did.2 (sent_to i x.names did.1 j) (x.names.writes + 1) (write-held kept i x.names x.core did.2 j h e did.1 did.3 was mine)) held)
]

pub keeps-subscribe : (kept : List ℕ) (w new : World) (i k c : ℕ) (x : ClientSide) (h : Handle) (data_type count mask : ℕ) → At w.clients i x → AreGiven x.names.subscriptions x.core.subscriptions → HappensSubscribe w i x c h data_type count mask new → HeldAt kept w k → HeldAt kept new k
keeps-subscribe kept w new i k c x h data_type count mask at given happens held = elim happens [
  | inl refusal ↦ refused-held kept w new i k x refusal.0 refusal.3 held
  | inr did ↦
      let q : Handle = did.0 in
      let now : Names = with_subscription q (history.On c (history.Subscribe (length x.names.subscriptions))) x.names in
      let o : Outcomes = record { core = did.2; names = now; lines = history.Called (history.On c (history.Subscribe (length x.names.subscriptions))) (history.ToWatch data_type count mask) ∷ []; sent = did.1 } in
      subst (λ (v : World). HeldAt kept v k) (sym did.4) (after-call kept w i k x now o at (λ j there mine was. subscribe-held kept i x.names x.core did.2 j h (record { data_type = data_type; count = count }) mask q did.1 c (length x.names.subscriptions) given did.3 was mine) held)
]

pub keeps-unsubscribe : (kept : List ℕ) (w new : World) (i k : ℕ) (x : ClientSide) (s : Handle × Intent) → At w.clients i x → MeanToSubscribe x.names x.core.subscriptions → HappensUnsubscribe w i x s new → HeldAt kept w k → HeldAt kept new k
keeps-unsubscribe kept w new i k x s at meant happens held = elim happens [
  | inl refusal ↦ refused-held kept w new i k x refusal.0 refusal.3 held
  | inr did ↦
      let q : Unit {0} = did.0 in
      let now : Names = x.names in
      let o : Outcomes = record { core = did.2; names = x.names; lines = history.Called (cancelled s.1) history.Nothing ∷ []; sent = did.1 } in
      subst (λ (v : World). HeldAt kept v k) (sym did.4) (after-call kept w i k x now o at (λ j there mine was. unsubscribe-held kept i x.names x.core did.2 j s.0 did.1 meant did.3 was mine) held)
]

pub keeps-clear : (kept : List ℕ) (w new : World) (i k c : ℕ) (x : ClientSide) (h : Handle) → At w.clients i x → Attached x.core → HappensClear w i x c h new → HeldAt kept w k → HeldAt kept new k
keeps-clear kept w new i k c x h at attached happens held = elim happens [
  | inl refusal ↦ refused-held kept w new i k x refusal.0 refusal.3 held
  | inr did ↦
      let q : List Notice = did.0 in
      let now : Names = x.names in
      let o : Outcomes = record { core = did.2; names = x.names; lines = history.Called (history.On c history.Clear) history.Nothing ∷ lines_of history.OfCircuit x.names q; sent = did.1 } in
      subst (λ (v : World). HeldAt kept v k) (sym did.4) (after-call kept w i k x now o at (λ j there mine was. clear-held kept i x.names x.core did.2 j h q did.1 attached did.3 was mine) held)
]
