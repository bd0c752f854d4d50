-- A message that is handled makes fewer bytes that were not read.
use Rattle.std.proofs.Common.{◌≡◌, ℕ, ◌<◌, ◌≤◌, ◌++◌, inl, inr, List, length, length-append, Option, Some, None, refl, sym, ap, ◌∙◌, arith}
use Rattle.ca_arena.specs.declared.handle.Handle.{Handle}
use Rattle.ca_ids.specs.Table.{under}
use Rattle.ca_link.specs.Link.{with_handed, with_rest}
use Rattle.ca_wire.proofs.Messages.{spells-long}
use Rattle.ca_model.specs.Ends.{Why}
use Rattle.ca_model.specs.Server.{Ended, Open, Server, ServerCircuit, ServerEnd}
use Rattle.ca_model.specs.ServerSteps.{Pumps, Sends, StepsAt, Update}
use Rattle.ca_model.specs.ServerSteps as did
use Rattle.ca_server_core.specs.Noting.{HandlesAndFinishes}
use Rattle.ca_answer.specs.Engines.{EngineState, HasSent, unread, unread_size, what_waits}
use Rattle.ca_answer.proofs.Ends.{Stays, end-there, handles-has, pumped-stays, reaches-has, tried-stays}

stays-few : (y : Server) (h : Handle) (rest : List ℕ) → Stays y h rest → length (unread (under y.circuits h)) ≤ length rest
stays-few y h rest (inl still) =
    let n : length (unread (under y.circuits h)) ≡ length rest = ap (λ (o : Option ServerCircuit). length (unread o)) still.1 ∙ ap (λ (b : List ℕ). length b) still.2 in
    omega (arith, n)
stays-few y h rest (inr over) =
    let n : length (unread (under y.circuits h)) ≡ 0 = ap (λ (o : Option ServerCircuit). length (unread o)) over.1 in
    omega (arith, n)

finished-fewer : (y : Server) (h : Handle) (new : Server) → HandlesAndFinishes y h new → length (unread (under new.circuits h)) < length (unread (under y.circuits h))
finished-fewer y h new d = go (under y.circuits h) refl d.steps
  where
    go : (o : Option ServerCircuit) → under y.circuits h ≡ o → StepsAt y h o did.Handled d.stepped → length (unread (under new.circuits h)) < length (unread (under y.circuits h))
    go (Some (Open e)) at step =
        let next = step.0 in
        let rest = next.rest in
        let e' : ServerEnd = record e { link = with_rest rest e.link } in
        let first = handles-has y h (Open e) e' next.m next.replies next.action next.after at next.handles in
        let second = reaches-has next.action step.1 next.after h first.0 d.stepped step.3 step.2 first.1 in
        let third = tried-stays d.put d.stepped new h rest d.tries (inl (second.0, second.1, second.2 ∙ first.2)) in
        let few = stays-few new h rest third in
        let was : length (unread (under y.circuits h)) ≡ length e.link.input.bytes = ap (λ (o : Option ServerCircuit). length (unread o)) at in
        let parts : length e.link.input.bytes ≡ length (next.takes.0 ++ rest) = ap (λ (b : List ℕ). length b) next.takes.2 in
        omega (arith, few, was, parts, length-append next.takes.0 rest, spells-long next.m next.takes.0 next.takes.1)
    go (Some (Ended w left)) at step = absurd (never step.0)
      where
        never : {v : Why} {l : List ℕ} → did.Handled ≡ did.Closed v l → ⊥
        never e = cc
    go None at step = absurd (never step.0)
      where
        never : {v : Why} {l : List ℕ} → did.Handled ≡ did.Closed v l → ⊥
        never e = cc

pumped-few : (y : Server) (h : Handle) (us : List Update) (new : Server) → Pumps y h us new → length (unread (under new.circuits h)) ≤ length (unread (under y.circuits h))
pumped-few y h us new (inr none) =
    let same : length (unread (under new.circuits h)) ≡ length (unread (under y.circuits h)) = ap (λ (z : Server). length (unread (under z.circuits h))) none.2 in
    omega (arith, same)
pumped-few y h us new (inl pumps) =
    let e : ServerEnd = pumps.0 in
    let few = stays-few new h e.link.input.bytes (pumped-stays y h us new e.link.input.bytes (inl pumps) (inl (e, pumps.1, refl))) in
    let was : length (unread (under y.circuits h)) ≡ length e.link.input.bytes = ap (λ (o : Option ServerCircuit). length (unread o)) pumps.1 in
    omega (arith, few, was)

sent-same : (y : Server) (h : Handle) (n : ℕ) (new : Server) → Sends y h n new → unread (under new.circuits h) ≡ unread (under y.circuits h)
sent-same y h n new (inl a) =
    let x : ServerEnd = record a.0 { link = with_handed n a.0.link } in
    let there : under new.circuits h ≡ Some (Open x) = ap (λ (z : Server). under z.circuits h) a.3 ∙ end-there y h (Open a.0) x a.1 in
    ap unread there ∙ sym (ap unread a.1)
sent-same y h n new (inr a) = ap (λ (z : Server). unread (under z.circuits h)) a.2

-- one message less is to be read
pub stepped-size : (x mid : EngineState) → mid ≡ record x { core = mid.core } → HandlesAndFinishes x.core x.circuit mid.core → unread_size mid < unread_size x
stepped-size x mid is d =
    let same : unread_size mid ≡ length (unread (under mid.core.circuits x.circuit)) = ap (λ (h : Handle). length (unread (under mid.core.circuits h))) (ap (λ (z : EngineState). z.circuit) is) in
    let fewer = finished-fewer x.core x.circuit mid.core d in
    omega (arith, same, fewer)

-- a pump leaves what came, or less
pub pumped-size : (x mid : EngineState) (us : List Update) (n : ℕ) → mid ≡ record x { core = mid.core; waiting = n } → Pumps x.core x.circuit us mid.core → unread_size mid ≤ unread_size x
pumped-size x mid us n is p =
    let same : unread_size mid ≡ length (unread (under mid.core.circuits x.circuit)) = ap (λ (h : Handle). length (unread (under mid.core.circuits h))) (ap (λ (z : EngineState). z.circuit) is) in
    let few = pumped-few x.core x.circuit us mid.core p in
    omega (arith, same, few)

-- a flush leaves what came
pub sent-size : (x new : EngineState) → HasSent x new → unread_size new ≡ unread_size x
sent-size x new sent =
    ap (λ (h : Handle). length (unread (under new.core.circuits h))) (ap (λ (z : EngineState). z.circuit) sent.1)
    ∙ ap (λ (b : List ℕ). length b) (sent-same x.core x.circuit (length (what_waits x)) new.core sent.0)
