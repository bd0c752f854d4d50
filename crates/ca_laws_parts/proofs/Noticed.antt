-- What callers are told of their writes is so by the logs of servers.
use Rattle.std.proofs.Common.{◌≡◌, ℕ, inl, inr, List, Some, sym, ap, subst, ◌∙◌, arith}
use Rattle.ca_dbr.specs.declared.value.Outcome.{Outcome}
use Rattle.ca_dbr.specs.declared.value.Outcome.TheVariants.{Disconnected, Done, Failed}
use Rattle.ca_text.specs.declared.command.Command.TheVariants as command
use Rattle.ca_text.specs.declared.status.Status.{Status}
use Rattle.ca_text.specs.Place.{At}
use Rattle.ca_text.proofs.Places.{At-map, At-mapped, At-one}
use Rattle.ca_requests.specs.Meaning.{Means}
use Rattle.ca_wire.specs.Fields.{Fields}
use Rattle.ca_model.specs.Speech.{In, Is, Stored}
use Rattle.ca_model.specs.Updates.{Shows}
use Rattle.ca_model.specs.History.{Applied, Circuit, Entry, Intent, Line, Noticed, On, Put, Reply, Request, Sent}
use Rattle.ca_model.specs.History as history
use Rattle.ca_model.specs.Channels.{IsApplied as IsAppliedIn, IsRequest, Stands, Suits}
use Rattle.ca_model.specs.Headline.{Reads}
use Rattle.ca_model.specs.Known.{IsDue}
use Rattle.ca_model.specs.World.{Joined, Setting, World, circuit_of, port_of, rules_of, told}
use Rattle.ca_laws_parts.specs.Lives.{IsWriting, SaysSo}
use Rattle.ca_laws_parts.specs.Says.{AllAsked, CompleteOnce, Says}
use Rattle.ca_laws_parts.specs.Seats.{Sound}
use Rattle.ca_laws_parts.proofs.Going.{own-message}

-- a message that writes was meant as a request
writes-asks : (intent : Intent) (m : Fields) → Suits intent m → IsWriting m → IsRequest intent
writes-asks (On channel (Request kind number)) m suits writes = tt
writes-asks (On channel history.Create) m suits writes = other m 18 suits (λ e. (let f : ◌≡◌ {A = ℕ} 18 4 = e in omega (arith, f))) (λ e. (let f : ◌≡◌ {A = ℕ} 18 19 = e in omega (arith, f))) writes
  where
    other : (m : Fields) (n : ℕ) → m.command ≡ n → (n ≡ 4 → ⊥) → (n ≡ 19 → ⊥) → IsWriting m → IsRequest (On channel history.Create)
    other m n is a b (inl w) = absurd (a (sym is ∙ w))
    other m n is a b (inr w) = absurd (b (sym is ∙ w))
writes-asks (On channel history.Clear) m suits (inl w) = (let e : ◌≡◌ {A = ℕ} 12 4 = sym suits ∙ w in absurd (omega (arith, e)))
writes-asks (On channel history.Clear) m suits (inr w) = (let e : ◌≡◌ {A = ℕ} 12 19 = sym suits ∙ w in absurd (omega (arith, e)))
writes-asks (On channel (history.Subscribe number)) m suits (inl w) = (let e : ◌≡◌ {A = ℕ} 1 4 = sym suits ∙ w in absurd (omega (arith, e)))
writes-asks (On channel (history.Subscribe number)) m suits (inr w) = (let e : ◌≡◌ {A = ℕ} 1 19 = sym suits ∙ w in absurd (omega (arith, e)))
writes-asks (On channel (history.Cancel number)) m suits (inl w) = (let e : ◌≡◌ {A = ℕ} 2 4 = sym suits ∙ w in absurd (omega (arith, e)))
writes-asks (On channel (history.Cancel number)) m suits (inr w) = (let e : ◌≡◌ {A = ℕ} 2 19 = sym suits ∙ w in absurd (omega (arith, e)))
writes-asks history.OfCircuit m suits (inl w) = absurd (suits (Request history.Write 0) w)
writes-asks history.OfCircuit m suits (inr w) = absurd (suits (Request history.Put 0) w)

module _ (s : Setting) (w : World) (h : Sound s w) (says : Says w) (asked : AllAsked w) (complete : CompleteOnce w) where
  abbrev Read : (life : ℕ) → List Line → (i : ℕ) → Intent → Outcome → Type 0
  Read life x i intent o = Reads (IsDue (port_of w) (rules_of w)) Shows Means (told w) life x i intent o

  -- the reply that a notice tells, and what it says
  pub record Told (life : ℕ) (x : List Line) (intent : Intent) (o : Outcome) : Type 0 where
    pub n : ℕ
    pub k : ℕ
    pub c : Joined
    pub on : At w.circuits n c
    pub of : c.lists.client ≡ life
    pub q : Sent
    pub sent : At c.lists.up k q
    pub meant : q.intent ≡ intent
    pub y : List Entry
    pub log : At w.server_logs c.lists.server y
    pub message : Fields
    pub means : Means message o
    pub so : SaysSo y (record { circuit = n; place = k }) q message

  told-by : (life : ℕ) (x : List Line) (i : ℕ) (intent : Intent) (o : Outcome) (by : Read life x i intent o) → by.t.cause ≡ Reply → Told life x intent o
  told-by life x i intent o by reply =
      let c = At-mapped circuit_of w.circuits by.n by.c by.on.0 in
      let log = h.within by.n c.0 c.1 in
      let sent : At c.0.lists.up by.t.place by.own.0 = subst (λ (z : Circuit). At z.up by.t.place by.own.0) c.2 by.own.1 in
      let down : At c.0.lists.down by.j by.t = subst (λ (z : Circuit). At z.down by.j by.t) c.2 by.read.0 in
      record {
        n = by.n;
        k = by.t.place;
        c = c.0;
        on = c.1;
        of = ap (λ (z : Circuit). z.client) (sym c.2) ∙ by.on.1;
        q = by.own.0;
        sent = sent;
        meant = by.own.2;
        y = log.0;
        log = log.1;
        message = by.t.message;
        means = by.means;
        so = says.so by.n c.0 log.0 c.1 log.1 by.j by.t by.own.0 down reply sent;
      }

  stands-told : (life : ℕ) (x : List Line) (intent : Intent) (o : Outcome) (t : Told life x intent o) → Stands (told w) life intent t.n t.k
  stands-told life x intent o t = (circuit_of t.c, At-map circuit_of w.circuits t.n t.c t.on, t.of, (t.q, t.sent, t.meant))

  -- A put that is told Done is applied.
  pub told-done : (life channel number : ℕ) (x : List Line) → At w.client_logs life x → In x (Noticed (On channel (Request Put number)) Done)
      → (n k l i r : ℕ) × (v : Stored) × Stands (told w) life (On channel (Request Put number)) n k × IsAppliedIn (told w) n k l i r v
  told-done life channel number x at line = elim ((complete life x at).told line.0 (On channel (Request Put number)) Done line.1) [
    | inl by ↦
        let t = told-by life x line.0 (On channel (Request Put number)) Done by.0 by.1 in
        let asks : Is command.WriteNotify t.q.message = subst (λ (z : Intent). Suits z t.q.message) t.meant (asked t.n t.k t.c t.q t.on t.sent) in
        let a = t.so.done asks t.means in
        (t.n, t.k, t.c.lists.server, a.3.0, a.0, a.1, stands-told life x (On channel (Request Put number)) Done t, (t.y, a.2, t.log, a.3.1))
    | inr lost ↦ absurd (let e : Done ≡ Disconnected = lost.0 in cc)
  ]

  -- A write that is told Failed is not applied.
  pub told-failed : (life n k l i r : ℕ) (intent : Intent) (status : Status) (x : List Line) (v : Stored) → At w.client_logs life x → In x (Noticed intent (Failed status)) → Stands (told w) life intent n k → IsAppliedIn (told w) n k l i r v → ⊥
  told-failed life n k l i r intent status x v at line stands applied = elim ((complete life x at).told line.0 intent (Failed status) line.1) [
    | inl by ↦
        let t = told-by life x line.0 intent (Failed status) by.0 by.1 in
        let own = own-message w h.writes.logs n k l i r v applied in
        let c = At-mapped circuit_of w.circuits n stands.0 stands.1 in
        let same : c.0 ≡ own.c = At-one w.circuits n c.0 own.c c.1 own.on in
        let meant : At own.c.lists.up k stands.3.0 = subst (λ (z : Joined). At z.lists.up k stands.3.0) same (subst (λ (z : Circuit). At z.up k stands.3.0) c.2 stands.3.1) in
        let it : stands.3.0 ≡ own.s = At-one own.c.lists.up k stands.3.0 own.s meant own.sent in
        let intends : own.s.intent ≡ intent = ap (λ (z : Sent). z.intent) (sym it) ∙ stands.3.2 in
        let request : IsRequest intent = writes-asks intent own.s.message (subst (λ (z : Intent). Suits z own.s.message) intends (asked n k own.c own.s own.on own.sent)) own.writes in
        let one = (complete life x at).at_one intent n k t.n t.k request stands (stands-told life x intent (Failed status) t) in
        let there : own.c ≡ t.c = At-one w.circuits t.n own.c t.c (subst (λ (m : ℕ). At w.circuits m own.c) one.0 own.on) t.on in
        let sent : own.s ≡ t.q = At-one t.c.lists.up t.k own.s t.q (subst (λ (z : Joined). At z.lists.up t.k own.s) there (subst (λ (m : ℕ). At own.c.lists.up m own.s) one.1 own.sent)) t.sent in
        let writes : IsWriting t.q.message = subst (λ (z : Sent). IsWriting z.message) sent own.writes in
        let life_is : l ≡ t.c.lists.server = sym own.joins ∙ ap (λ (z : Joined). z.lists.server) there in
        let log : applied.0 ≡ t.y = At-one w.server_logs t.c.lists.server applied.0 t.y (subst (λ (m : ℕ). At w.server_logs m applied.0) life_is applied.2) t.log in
        t.so.failed status writes t.means (Applied n k r v applied.1) (i, subst (λ (z : List Entry). At z i (Applied n k r v applied.1)) log applied.3)
        (ap (λ (m : ℕ × ℕ). Some (record { circuit = m.0; place = m.1 })) (λ l2. (one.0 l2, one.1 l2)))
    | inr lost ↦ absurd (let e : Failed status ≡ Disconnected = lost.0 in cc)
  ]
