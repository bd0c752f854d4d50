-- What holds between two messages, message by message and write by write.
use Rattle.std.proofs.Common.{◌≡◌, ℕ, ◌+◌, ◌<◌, ◌≤◌, ◌⊎◌, inl, inr, true, List, [], ◌∷◌, ◌++◌, length, length-append, take, drop, max, Option, Some, refl, sym, ap, ◌∙◌, subst, arith, append_assoc}
use Rattle.std.specs.Prelude.{Result, Ok, Err, IsErrAnd}
use Rattle.std.specs.List.{concat}
use Rattle.std.proofs.lemmas.List.{append-nil, take-append-drop}
use Rattle.ca_arena.specs.declared.handle.Handle.{Handle}
use Rattle.ca_ids.specs.Table.{under}
use Rattle.ca_link.specs.Link.{with_handed}
use Rattle.ca_link.specs.Steps.{Moves}
use Rattle.ca_records.specs.Record.{RecordState}
use Rattle.ca_records.specs.Rules.{Rule}
use Rattle.ca_text.specs.declared.refusal.Refusal.{Refusal}
use Rattle.ca_text.specs.declared.refusal.Refusal.TheVariants.{OutOfMemory, Misaligned, TooLarge, Device}
use Rattle.ca_text.specs.Limits.{output_limit}
use Rattle.ca_wire.specs.Stream.{BadAt}
use Rattle.ca_model.specs.Answer.{Answered}
use Rattle.ca_model.specs.Ends.{Why, why_of}
use Rattle.ca_model.specs.Ends as why
use Rattle.ca_model.specs.Server.{Ended, Open, Server, ServerCircuit, ServerEnd}
use Rattle.ca_model.specs.ServerSteps.{HasEnd, Pumps, Sends, Stepped, Steps, StepsAt, StepsOpen, Update, output_of, with_end}
use Rattle.ca_model.specs.ServerSteps as did
use Rattle.ca_server_core.specs.Noting.{HandlesAndFinishes}
use Rattle.ca_answer.specs.Answering.{Written}
use Rattle.ca_answer.specs.Engines.{EngineState, HasSent, refusal_for, what_waits}
use Rattle.ca_answer.specs.Fronting.{fronting, with_front}
use Rattle.ca_answer.specs.Serving.{BreaksAt, Comes, Drains, EndsBad, EndsRested, Filled, Goes, Hands, IsWritten, LeadsOn, MakesRoom, MetBad, Over, Partly, Past, Pumped, Rested, Served, Serving, ServesOn, Stepping}
use Rattle.ca_answer.proofs.Ends.{end-there}
use Rattle.ca_answer.proofs.Fronted.{ended-front, front-leaving, front-more, front-nothing, front-one, front-out, front-pumps, front-sent, has-front, pumps-on, take-front}
use Rattle.ca_answer.proofs.Handled.{served-handled, served-has}

-- one more chunk was moved
pub moves-more : {S : Type 0} (step : S → List ℕ → S → Type 0) (s t u : S) (chunks : List (List ℕ)) (chunk : List ℕ) → Moves step s chunks t → step t chunk u → Moves step s (chunks ++ chunk ∷ []) u
moves-more {S} step s t u [] chunk m last = (u, subst (λ (x : S). step x chunk u) (sym m) last, refl)
moves-more step s t u (x ∷ chunks) chunk m last = (m.0, m.1, moves-more step m.0 t u chunks chunk m.2 last)

pub concat-more : (chunks : List (List ℕ)) (chunk : List ℕ) → concat (chunks ++ chunk ∷ []) ≡ concat chunks ++ chunk
concat-more [] chunk = append-nil chunk
concat-more (x ∷ chunks) chunk =
    ap (λ (t : List ℕ). x ++ t) (concat-more chunks chunk) ∙ sym (append_assoc x (concat chunks) chunk)

-- the same refusal
pub same-error : {A : Type 0} (r : Result A Refusal) (e : Refusal) → IsErrAnd r (λ x. x ≡ e) → r ≡ Err e
same-error (Ok x) e h = absurd h
same-error (Err x) e h = ap (λ (y : Refusal). Err y) h

-- an end that is open handles no other cause than its own
never-handled : {w : Why} {left : List ℕ} → did.Handled ≡ did.Closed w left → ⊥
never-handled e = cc

never-rests : {w : Why} {left : List ℕ} → did.NeedBytes ≡ did.Closed w left → ⊥
never-rests e = cc

same-left : (v w : Why) (a b : List ℕ) → did.Closed v a ≡ did.Closed w b → (v ≡ w) × (a ≡ b)
same-left v w a b e = (cc, cc)

module _ {K : Type 0} (takes : K → List ℕ → K → Type 0) (faults : K → ℕ) (rules : List Rule) (states : List RecordState) where
  -- ---- what was answered

  past-answered : (bytes : List ℕ) (h : Handle) (now : Server) (text rest : List ℕ) (p : Past rules states bytes h now text rest) → Answered rules states p.ms text
  past-answered bytes h now text rest p = record { h = h; start = p.start; accepts = p.accepts; new = now; answers = p.answers }

  pub past-written : (k0 k : K) (bytes : List ℕ) (h : Handle) (now : Server) (text rest waits : List ℕ) (writes : List (List ℕ)) → Past rules states bytes h now text rest → Moves takes k0 writes k → concat writes ++ waits ≡ text
      → Written takes rules states k0 bytes k rest waits
  past-written k0 k bytes h now text rest waits writes p wrote parts =
      record { ms = p.ms; begins = p.begins; text = text; answered = past-answered bytes h now text rest p; writes = writes; wrote = wrote; parts = parts }

  -- however the circuit stands, a beginning was written
  pub partly-text : (k0 k : K) (bytes : List ℕ) (h : Handle) (now : Server) (text waits : List ℕ) (writes : List (List ℕ)) → Served rules states bytes h now text ⊎ Over rules states bytes h now text → Moves takes k0 writes k → concat writes ++ waits ≡ text
      → Partly takes rules states k0 bytes k
  partly-text k0 k bytes h now text waits writes (inl s) wrote parts =
      record { rest = s.link.input.bytes; waits = waits; written = past-written k0 k bytes h s.now text s.link.input.bytes waits writes s.past wrote parts }
  partly-text k0 k bytes h now text waits writes (inr o) wrote parts =
      record { rest = o.rest; waits = waits; written = past-written k0 k bytes h o.now text o.rest waits writes o.past wrote parts }

  -- ---- writes

  -- These bytes wait after all that was written of a text.
  record Waits (k0 : K) (bytes : List ℕ) (k : K) (waits : List ℕ) : Type 0 where
    pub h : Handle
    pub now : Server
    pub text : List ℕ
    pub stands : Served rules states bytes h now text ⊎ Over rules states bytes h now text
    pub writes : List (List ℕ)
    pub wrote : Moves takes k0 writes k
    pub parts : concat writes ++ waits ≡ text

  serving-waits : (k0 k : K) (bytes : List ℕ) (x : EngineState) (s : Serving takes rules states k0 bytes k x) → Waits k0 bytes k s.written.waits
  serving-waits k0 k bytes x s = record { h = x.circuit; now = s.now; text = s.text; stands = s.stands; writes = s.written.writes; wrote = s.written.wrote; parts = s.written.parts }

  filled-waits : (k0 k : K) (bytes : List ℕ) (x : EngineState) (s : Filled takes rules states k0 bytes k x) → Waits k0 bytes k s.written.waits
  filled-waits k0 k bytes x s = record { h = x.circuit; now = s.old; text = s.text; stands = inl s.served; writes = s.written.writes; wrote = s.written.wrote; parts = s.written.parts }

  partly-waits : (k0 k : K) (bytes waits : List ℕ) → Waits k0 bytes k waits → Partly takes rules states k0 bytes k
  partly-waits k0 k bytes waits w = partly-text k0 k bytes w.h w.now w.text waits w.writes w.stands w.wrote w.parts

  -- only the first of what waits is written
  partly-first : (k0 k k' : K) (bytes waits : List ℕ) (n : ℕ) → takes k (take n waits) k' → Waits k0 bytes k waits → Partly takes rules states k0 bytes k'
  partly-first k0 k k' bytes waits n took w =
      partly-text k0 k' bytes w.h w.now w.text (drop n waits) (w.writes ++ take n waits ∷ []) w.stands (moves-more takes k0 k k' w.writes (take n waits) w.wrote took)
      (
      ap (λ (t : List ℕ). t ++ drop n waits) (concat-more w.writes (take n waits)) ∙ append_assoc (concat w.writes) (take n waits) (drop n waits)
      ∙ ap (λ (t : List ℕ). concat w.writes ++ t) (take-append-drop n waits) ∙ w.parts
      )

  -- all of what waits is written
  all-gone : (k0 k k' : K) (waits text : List ℕ) (writes : List (List ℕ)) → Moves takes k0 writes k → concat writes ++ waits ≡ text → Goes takes k waits k' → (w : List (List ℕ)) × Moves takes k0 w k' × (concat w ≡ text)
  all-gone k0 k k' waits text writes wrote parts (inl took) = (writes ++ waits ∷ [], moves-more takes k0 k k' writes waits wrote took, concat-more writes waits ∙ parts)
  all-gone k0 k k' waits text writes wrote parts (inr none) =
      (writes, subst (λ (l : K). Moves takes k0 writes l) (sym none.1) wrote, sym (append-nil (concat writes)) ∙ ap (λ (t : List ℕ). concat writes ++ t) (sym none.0) ∙ parts)

  -- what waits is in front of what the circuit has
  front-waits : (x : EngineState) (b : List ℕ) (y : Server) (e : ServerEnd) → x.core ≡ fronting x.circuit b y → x.waiting ≡ length b → HasEnd y x.circuit e → what_waits x ≡ b
  front-waits x b y e core many has =
      ap (λ (n : ℕ). take n (output_of (under x.core.circuits x.circuit))) many
      ∙ ap (λ (z : Server). take (length b) (output_of (under z.circuits x.circuit))) core
      ∙ ap (λ (o : Option ServerCircuit). take (length b) (output_of o)) (has-front x.circuit b y e has)
      ∙ take-front b e.link.output

  -- and is gone when it was handed over
  waits-sent : (x x' : EngineState) (b : List ℕ) (y : Server) (e : ServerEnd) → x.core ≡ fronting x.circuit b y → x.waiting ≡ length b → HasEnd y x.circuit e → HasSent x x' → x' ≡ record { core = y; circuit = x.circuit; waiting = 0 }
  waits-sent x x' b y e core many has sent =
      let n : length (what_waits x) ≡ length b = ap (λ (l : List ℕ). length l) (front-waits x b y e core many has) in
      let went : Sends (fronting x.circuit b y) x.circuit (length b) x'.core = subst (λ (z : Server). Sends z x.circuit (length b) x'.core) core (subst (λ (m : ℕ). Sends x.core x.circuit m x'.core) n sent.0) in
      sent.1 ∙ ap (λ (z : Server). let r : EngineState = record { core = z; circuit = x.circuit; waiting = 0 } in r) (front-sent x.circuit b y e x'.core has went)

  -- ---- a message

  -- the end of a circuit that is over, with what waits in front
  over-there : (bytes : List ℕ) (x : EngineState) (now : Server) (text b : List ℕ) → x.core ≡ fronting x.circuit b now → (o : Over rules states bytes x.circuit now text) → under x.core.circuits x.circuit ≡ Some (Ended why.OutOfMemory (b ++ o.left))
  over-there bytes x now text b core o = ap (λ (z : Server). under z.circuits x.circuit) core ∙ ended-front x.circuit b now o.left o.ended

  -- it handles nothing
  over-reports : (bytes : List ℕ) (x : EngineState) (now : Server) (text b : List ℕ) (d : Stepped) (new : Server) → x.core ≡ fronting x.circuit b now → (o : Over rules states bytes x.circuit now text) → Steps x.core x.circuit d new
      → d ≡ did.Closed why.OutOfMemory (b ++ o.left)
  over-reports bytes x now text b d new core o step =
      (let r = subst (λ (z : Option ServerCircuit). StepsAt x.core x.circuit z d new) (over-there bytes x now text b core o) step in r.0)

  -- the end that is open takes a step
  open-steps : (bytes : List ℕ) (x : EngineState) (now : Server) (text b : List ℕ) (d : Stepped) (new : Server) → x.core ≡ fronting x.circuit b now → (s : Served rules states bytes x.circuit now text) → Steps x.core x.circuit d new
      → StepsOpen x.core x.circuit (with_front b (record s.e { link = s.link })) d new
  open-steps bytes x now text b d new core s step =
      let e : ServerEnd = record s.e { link = s.link } in
      let there : HasEnd x.core x.circuit (with_front b e) = ap (λ (z : Server). under z.circuits x.circuit) core ∙ has-front x.circuit b now e (served-has rules states bytes x.circuit now text s) in
      subst (λ (z : Option ServerCircuit). StepsAt x.core x.circuit z d new) there step

  -- the circuit went on in the server
  moved-on : (k0 k : K) (x : EngineState) (now : Server) (text : List ℕ) (y next : Server) → (w : IsWritten takes k0 k x now text) → y ≡ fronting x.circuit w.waits next → IsWritten takes k0 k (record x { core = y }) next text
  moved-on k0 k x now text y next w core = record { waits = w.waits; many = w.many; core = core; writes = w.writes; wrote = w.wrote; parts = w.parts }

  -- all of the text was written
  all-written : (k0 k : K) (h : Handle) (now : Server) (text : List ℕ) (w : List (List ℕ)) → Moves takes k0 w k → concat w ≡ text → IsWritten takes k0 k (record { core = now; circuit = h; waiting = 0 }) now text
  all-written k0 k h now text w wrote parts = record { waits = []; many = refl; core = sym (front-nothing h now); writes = w; wrote = wrote; parts = append-nil (concat w) ∙ parts }

  -- a message was handled, and its finish came
  serving-stepped : (k0 k : K) (bytes : List ℕ) (x : EngineState) (y : Server) → Serving takes rules states k0 bytes k x → HandlesAndFinishes x.core x.circuit y → Stepping takes rules states k0 bytes k (record x { core = y })
  serving-stepped k0 k bytes x y s d = go s.stands
    where
      go : Served rules states bytes x.circuit s.now s.text ⊎ Over rules states bytes x.circuit s.now s.text → Stepping takes rules states k0 bytes k (record x { core = y })
      go (inl a) =
          let one = front-one x.circuit s.written.waits s.now (record a.e { link = a.link }) y (served-has rules states bytes x.circuit s.now s.text a) (subst (λ (z : Server). HandlesAndFinishes z x.circuit y) s.written.core d) in
          record { text = s.text; old = s.now; served = a; finished = one.0; one = one.1; written = moved-on k0 k x s.now s.text y one.0 s.written one.2 }
      go (inr o) = absurd (never-handled (over-reports bytes x s.now s.text s.written.waits did.Handled d.stepped s.written.core o d.steps))

  -- its updates were pumped, and what waited before is in front
  handled-serving : (k0 k : K) (bytes : List ℕ) (y : EngineState) (old finished : Server) (us : List Update) (now : Server) (text b : List ℕ) (writes : List (List ℕ)) → Served rules states bytes y.circuit old text → HandlesAndFinishes old y.circuit finished → Pumps finished y.circuit us now → y.core ≡ fronting y.circuit b now
      → y.waiting ≡ length b + length (output_of (under now.circuits y.circuit)) → Moves takes k0 writes k → concat writes ++ b ≡ text → Serving takes rules states k0 bytes k y
  handled-serving k0 k bytes y old finished us now text b writes served d pumps core many wrote parts =
      elim (served-handled rules states bytes y.circuit old text finished us now served d pumps) [
        | inl t ↦
            let o : List ℕ = t.0.link.output in
            let last : Server = with_end y.circuit (record t.0 { link = with_handed (length t.0.link.output) t.0.link }) now in
            let out : length (output_of (under now.circuits y.circuit)) ≡ length o = ap (λ (z : Option ServerCircuit). length (output_of z)) t.1 in
            record {
              text = text ++ o;
              now = last;
              stands = inl (t.2 last refl);
              written = record {
                waits = b ++ o;
                many = omega (arith, many, out, length-append b o);
                core = core ∙ front-more y.circuit b now t.0 t.1;
                writes = writes;
                wrote = wrote;
                parts = sym (append_assoc (concat writes) b o) ∙ ap (λ (w : List ℕ). w ++ o) parts;
              };
            }
        | inr v ↦
            let none : length (output_of (under now.circuits y.circuit)) ≡ 0 = ap (λ (z : Option ServerCircuit). length (output_of z)) v.ended in
            record { text = text; now = now; stands = inr v; written = record { waits = b; many = omega (arith, many, none); core = core; writes = writes; wrote = wrote; parts = parts } }
      ]

  -- so little waits after the pump that it did not stop for that
  pub stepping-pumped : (k0 k : K) (bytes : List ℕ) (x : EngineState) (us : List Update) (y : Server) (n m : ℕ) → Stepping takes rules states k0 bytes k x → Pumps x.core x.circuit us y → n ≡ length (output_of (under y.circuits x.circuit)) → n < output_limit → m ≡ max x.waiting n
      → Serving takes rules states k0 bytes k (record x { core = y; waiting = m })
  stepping-pumped k0 k bytes x us y n m s pumps counted few larger =
      let h : Handle = x.circuit in
      let p = front-pumps h s.written.waits s.finished us y (subst (λ (z : Server). Pumps z h us y) s.written.core pumps) (subst (λ (j : ℕ). j < output_limit) counted few) in
      let now : Server = p.0 in
      let there : n ≡ length (output_of (under (fronting h s.written.waits now).circuits h)) = counted ∙ ap (λ (z : Server). length (output_of (under z.circuits h))) p.2 in
      let before : x.waiting ≡ length s.written.waits = s.written.many in
      let all : m ≡ length s.written.waits + length (output_of (under now.circuits h)) = elim (front-out h s.written.waits now) [
        | inl stays ↦
            let k : n ≡ length (s.written.waits ++ output_of (under now.circuits h)) = there ∙ ap (λ (o : List ℕ). length o) stays in
            omega (arith, larger, before, k, length-append s.written.waits (output_of (under now.circuits h)))
        | inr gone ↦
            let k : n ≡ 0 = there ∙ ap (λ (o : List ℕ). length o) gone.0 in
            let j : length (output_of (under now.circuits h)) ≡ 0 = ap (λ (o : List ℕ). length o) gone.1 in
            omega (arith, larger, before, k, j)
      ] in
      handled-serving k0 k bytes (record x { core = y; waiting = m }) s.old s.finished us now s.text s.written.waits s.written.writes s.served s.one p.1 p.2 all s.written.wrote s.written.parts

  -- so much waits that it may have stopped for that
  stepping-filled : (k0 k : K) (bytes : List ℕ) (x : EngineState) (us : List Update) (y : Server) (n : ℕ) → Stepping takes rules states k0 bytes k x → Pumps x.core x.circuit us y → n ≡ length (output_of (under y.circuits x.circuit)) → output_limit ≤ n
      → Filled takes rules states k0 bytes k (record x { core = y })
  stepping-filled k0 k bytes x us y n s pumps counted full =
      let h : Handle = x.circuit in
      let p = front-leaving h s.written.waits s.finished us y (subst (λ (z : Server). Pumps z h us y) s.written.core pumps) (subst (λ (j : ℕ). output_limit ≤ j) counted full) in
      record {
        text = s.text;
        old = s.old;
        served = s.served;
        finished = s.finished;
        one = s.one;
        updates = us;
        now = p.0;
        leaving = p.1;
        written = moved-on k0 k x s.finished s.text y p.0 s.written p.2;
      }

  -- the circuit is open then
  filled-has : (k0 k : K) (bytes : List ℕ) (x : EngineState) (f : Filled takes rules states k0 bytes k x) → HasEnd f.now x.circuit f.leaving.2.0
  filled-has k0 k bytes x f =
      ap (λ (z : Server). under z.circuits x.circuit) f.leaving.2.2 ∙ end-there f.finished x.circuit (Open f.leaving.0) f.leaving.2.0 f.leaving.1

  -- what waited before the message was handed over
  filled-sent : (k0 k k' : K) (bytes : List ℕ) (x x' : EngineState) → Filled takes rules states k0 bytes k x → Goes takes k (what_waits x) k' → HasSent x x' → (f : Filled takes rules states k0 bytes k' x') × (f.written.waits ≡ [])
  unfolding all-written
  filled-sent k0 k k' bytes x x' f goes sent =
      let e : ServerEnd = f.leaving.2.0 in
      let has = filled-has k0 k bytes x f in
      let gone = all-gone k0 k k' f.written.waits f.text f.written.writes f.written.wrote f.written.parts (subst (λ (w : List ℕ). Goes takes k w k') (front-waits x f.written.waits f.now e f.written.core f.written.many has) goes) in
      let y : EngineState = record { core = f.now; circuit = x.circuit; waiting = 0 } in
      let g : Filled takes rules states k0 bytes k' y = record {
        text = f.text;
        old = f.old;
        served = f.served;
        finished = f.finished;
        one = f.one;
        updates = f.updates;
        now = f.now;
        leaving = f.leaving;
        written = all-written k0 k' x.circuit f.now f.text gone.0 gone.1 gone.2;
      } in
      subst (λ (z : EngineState). (f : Filled takes rules states k0 bytes k' z) × (f.written.waits ≡ [])) (sym (waits-sent x x' f.written.waits f.now e f.written.core f.written.many has sent)) (g, refl)

  -- and the pump went on
  filled-pumped : (k0 k : K) (bytes : List ℕ) (x : EngineState) (us : List Update) (y : Server) (n : ℕ) → (f : Filled takes rules states k0 bytes k x) → f.written.waits ≡ [] → Pumps x.core x.circuit us y → n ≡ length (output_of (under y.circuits x.circuit))
      → Serving takes rules states k0 bytes k (record x { core = y; waiting = n })
  filled-pumped k0 k bytes x us y n f none pumps counted =
      let h : Handle = x.circuit in
      let core : x.core ≡ f.now = f.written.core ∙ ap (λ (b : List ℕ). fronting h b f.now) none ∙ front-nothing h f.now in
      let all = pumps-on f.finished h f.updates us f.now y f.leaving (subst (λ (z : Server). Pumps z h us y) core pumps) in
      handled-serving k0 k bytes (record x { core = y; waiting = n }) f.old f.finished _ y f.text [] f.written.writes f.served f.one all (sym (front-nothing h y)) (omega (arith, counted)) f.written.wrote
      (ap (λ (b : List ℕ). concat f.written.writes ++ b) (sym none) ∙ f.written.parts)

  -- all that waits on an open circuit was handed over
  served-sent : (k0 k k' : K) (bytes : List ℕ) (x x' : EngineState) (s : Serving takes rules states k0 bytes k x) → Served rules states bytes x.circuit s.now s.text → Goes takes k (what_waits x) k' → HasSent x x'
      → (x' ≡ record { core = s.now; circuit = x.circuit; waiting = 0 }) × ((w : List (List ℕ)) × Moves takes k0 w k' × (concat w ≡ s.text))
  served-sent k0 k k' bytes x x' s a goes sent =
      let e : ServerEnd = record a.e { link = a.link } in
      let has = served-has rules states bytes x.circuit s.now s.text a in (
        waits-sent x x' s.written.waits s.now e s.written.core s.written.many has sent,
        all-gone k0 k k' s.written.waits s.text s.written.writes s.written.wrote s.written.parts (subst (λ (w : List ℕ). Goes takes k w k') (front-waits x s.written.waits s.now e s.written.core s.written.many has) goes),
      )

  pub serving-sent : (k0 k k' : K) (bytes : List ℕ) (x x' : EngineState) → Serving takes rules states k0 bytes k x → 0 < length (output_of (under x.core.circuits x.circuit)) → Goes takes k (what_waits x) k' → HasSent x x' → Serving takes rules states k0 bytes k' x'
  serving-sent k0 k k' bytes x x' s full goes sent = go s.stands
    where
      go : Served rules states bytes x.circuit s.now s.text ⊎ Over rules states bytes x.circuit s.now s.text → Serving takes rules states k0 bytes k' x'
      go (inl a) =
          let w = served-sent k0 k k' bytes x x' s a goes sent in
          let y : EngineState = record { core = s.now; circuit = x.circuit; waiting = 0 } in
          let served : Serving takes rules states k0 bytes k' y = record {
            text = s.text;
            now = s.now;
            stands = inl a;
            written = all-written k0 k' x.circuit s.now s.text w.1.0 w.1.1 w.1.2;
          } in
          subst (λ (z : EngineState). Serving takes rules states k0 bytes k' z) (sym w.0) served
      go (inr o) =
          let none : length (output_of (under x.core.circuits x.circuit)) ≡ 0 = ap (λ (z : Option ServerCircuit). length (output_of z)) (over-there bytes x s.now s.text s.written.waits s.written.core o) in
          absurd (omega (arith, none, full))

  -- ---- no message

  -- no message is complete, and what waited was handed over
  pub rests : (k k' : K) (x mid x' : EngineState) (y : Server) → Steps x.core x.circuit did.NeedBytes y → mid ≡ record x { core = y } → Goes takes k (what_waits mid) k' → HasSent mid x' → EndsRested takes rules states k x k' x'
  rests k k' x mid x' y step is goes sent k0 bytes s = go s.stands
    where
      go : Served rules states bytes x.circuit s.now s.text ⊎ Over rules states bytes x.circuit s.now s.text → Rested takes rules states k0 bytes k' x'
      go (inl a) =
          let r = open-steps bytes x s.now s.text s.written.waits did.NeedBytes y s.written.core a step in
          let same : mid ≡ x = is ∙ ap (λ (z : Server). record x { core = z }) r.3 in
          let w = served-sent k0 k k' bytes x x' s a (subst (λ (z : EngineState). Goes takes k (what_waits z) k') same goes) (subst (λ (z : EngineState). HasSent z x') same sent) in
          let y : EngineState = record { core = s.now; circuit = x.circuit; waiting = 0 } in
          let rested : Rested takes rules states k0 bytes k' y = record { text = s.text; served = a; sent = refl; writes = w.1.0; wrote = w.1.1; parts = w.1.2; whole = r.1; good = r.2 } in
          subst (λ (z : EngineState). Rested takes rules states k0 bytes k' z) (sym w.0) rested
      go (inr o) = absurd (never-rests (over-reports bytes x s.now s.text s.written.waits did.NeedBytes y s.written.core o step))

  -- ---- the end of a circuit

  -- an end that was served closes for a bad header, or out of memory
  abbrev pub ClosesFor : List ℕ → Why → Type 0
  ClosesFor rest w = (w ≡ why.OutOfMemory) ⊎ ((r : Refusal) × BadAt rest r × (w ≡ why_of r))

  closes-open : (y : Server) (h : Handle) (e : ServerEnd) (w : Why) (left : List ℕ) (new : Server) → did.StepsOpen y h e (did.Closed w left) new → ClosesFor e.link.input.bytes w
  closes-open y h e why.OutOfMemory left new s = inl refl
  closes-open y h e why.Misaligned left new s = inr s.1
  closes-open y h e why.TooLarge left new s = inr s.1
  closes-open y h e why.Silence left new s = inr s.1
  closes-open y h e why.Asked left new s = inr s.1
  closes-open y h e why.Cut left new s = inr s.1

  -- a header that earns a refusal closes a circuit for it
  bad-refusal : (bytes : List ℕ) (r : Refusal) → BadAt bytes r → refusal_for (why_of r) ≡ r
  bad-refusal bytes Misaligned b = refl
  bad-refusal bytes TooLarge b = refl
  bad-refusal bytes r b = elim b.faults [ inl f ↦ at-misaligned r f.0 | inr f ↦ at-large r f.0 ]
    where
      at-misaligned : (r : Refusal) → r ≡ Misaligned → refusal_for (why_of r) ≡ r
      at-misaligned r e = subst (λ (z : Refusal). refusal_for (why_of z) ≡ z) (sym e) refl

      at-large : (r : Refusal) → r ≡ TooLarge → refusal_for (why_of r) ≡ r
      at-large r e = subst (λ (z : Refusal). refusal_for (why_of z) ≡ z) (sym e) refl

  -- what an end leaves that closes is what waited
  closes-left : (y : Server) (h : Handle) (e : ServerEnd) (w : Why) (left : List ℕ) (new : Server) → did.StepsOpen y h e (did.Closed w left) new → left ≡ e.link.output
  closes-left y h e why.OutOfMemory left new s = s.0
  closes-left y h e why.Misaligned left new s = s.2
  closes-left y h e why.TooLarge left new s = s.2
  closes-left y h e why.Silence left new s = s.2
  closes-left y h e why.Asked left new s = s.2
  closes-left y h e why.Cut left new s = s.2

  left-waits : (k0 k : K) (bytes : List ℕ) (x : EngineState) (y : Server) (w : Why) (left : List ℕ) → (s : Serving takes rules states k0 bytes k x) → Steps x.core x.circuit (did.Closed w left) y → take x.waiting left ≡ s.written.waits
  left-waits k0 k bytes x y w left s step = ap (λ (n : ℕ). take n left) s.written.many ∙ go s.stands
    where
      first : (o : List ℕ) → left ≡ s.written.waits ++ o → take (length s.written.waits) left ≡ s.written.waits
      first o is = ap (λ (l : List ℕ). take (length s.written.waits) l) is ∙ take-front s.written.waits o

      go : Served rules states bytes x.circuit s.now s.text ⊎ Over rules states bytes x.circuit s.now s.text → take (length s.written.waits) left ≡ s.written.waits
      go (inl a) =
          let e : ServerEnd = with_front s.written.waits (record a.e { link = a.link }) in
          first a.link.output (closes-left x.core x.circuit e w left y (open-steps bytes x s.now s.text s.written.waits (did.Closed w left) y s.written.core a step))
      go (inr o) =
          first o.left (same-left w why.OutOfMemory left (s.written.waits ++ o.left) (over-reports bytes x s.now s.text s.written.waits (did.Closed w left) y s.written.core o step)).1

  module _ (k k' : K) (x x' : EngineState) (y : Server) (left : List ℕ) (goes : Goes takes k (take x.waiting left) k') where
    left-gone : (k0 : K) (bytes : List ℕ) (w : Why) (s : Serving takes rules states k0 bytes k x) → Steps x.core x.circuit (did.Closed w left) y → (ws : List (List ℕ)) × Moves takes k0 ws k' × (concat ws ≡ s.text)
    left-gone k0 bytes w s step =
        all-gone k0 k k' s.written.waits s.text s.written.writes s.written.wrote s.written.parts (subst (λ (l : List ℕ). Goes takes k l k') (left-waits k0 k bytes x y w left s step) goes)

    -- out of memory, or for another cause that tells of nothing that came
    closes-breaks : (w : Why) → Steps x.core x.circuit (did.Closed w left) y → BreaksAt takes rules states k x k'
    closes-breaks w step k0 bytes s =
        let g = left-gone k0 bytes w s step in
        partly-text k0 k' bytes x.circuit s.now s.text [] g.0 s.stands g.1 (append-nil (concat g.0) ∙ g.2)

    -- for a bad header
    closes-bad : (w : Why) (e : Refusal) → Steps x.core x.circuit (did.Closed w left) y → (w ≡ why.OutOfMemory → ⊥) → refusal_for w ≡ e → EndsBad takes rules states k x k' e
    closes-bad w e step other is k0 bytes s = go s.stands
      where
        go : Served rules states bytes x.circuit s.now s.text ⊎ Over rules states bytes x.circuit s.now s.text → MetBad takes rules states k0 bytes k' e
        go (inl a) =
            elim (closes-open x.core x.circuit (with_front s.written.waits (record a.e { link = a.link })) w left y (open-steps bytes x s.now s.text s.written.waits (did.Closed w left) y s.written.core a step)) [
              | inl out ↦ absurd (other out)
              | inr b ↦
                  let written = left-gone k0 bytes w s step in
                  let r : b.0 ≡ e = sym (bad-refusal a.link.input.bytes b.0 b.1) ∙ ap refusal_for (sym b.2) ∙ is in
                  record {
                    rest = a.link.input.bytes;
                    written = past-written k0 k' bytes x.circuit a.now s.text a.link.input.bytes [] written.0 a.past written.1 (append-nil (concat written.0) ∙ written.2);
                    bad = subst (λ (z : Refusal). BadAt a.link.input.bytes z) r b.1;
                  }
            ]
        go (inr o) = absurd (other (same-left w why.OutOfMemory left (s.written.waits ++ o.left) (over-reports bytes x s.now s.text s.written.waits (did.Closed w left) y s.written.core o step)).0)

    pub closes-comes : (w : Why) (turns : ℕ) → faults k' ≡ faults k → Steps x.core x.circuit (did.Closed w left) y → Comes takes faults rules states k k' x x' turns (Err (refusal_for w))
    closes-comes why.OutOfMemory turns counted step = (counted, closes-breaks why.OutOfMemory step)
    closes-comes why.Misaligned turns counted step = (counted, closes-bad why.Misaligned Misaligned step (λ e. not-misaligned e) refl)
      where
        not-misaligned : why.Misaligned ≡ why.OutOfMemory → ⊥
        not-misaligned e = cc
    closes-comes why.TooLarge turns counted step = (counted, closes-bad why.TooLarge TooLarge step (λ e. not-large e) refl)
      where
        not-large : why.TooLarge ≡ why.OutOfMemory → ⊥
        not-large e = cc
    closes-comes why.Silence turns counted step = (counted, closes-breaks why.Silence step)
    closes-comes why.Asked turns counted step = (counted, closes-breaks why.Asked step)
    closes-comes why.Cut turns counted step = (counted, closes-breaks why.Cut step)

  -- ---- what could not be handed over

  -- What waits where this is so could not be handed over.
  leads-stopped : (From : K → List ℕ → Type 0) (k k' : K) (x' : EngineState) (waits : List ℕ) (turns : ℕ) (r : Refusal) → Hands takes faults k waits k' turns (Err r) → ((k0 : K) (bytes : List ℕ) → From k0 bytes → Waits k0 bytes k waits)
      → LeadsOn takes faults rules states From k k' x' turns (Err r)
  leads-stopped From k k' x' waits turns Device (inl f) from = (inl f.0, λ k0 bytes s. partly-first k0 k k' bytes waits f.1.0 f.1.1 (from k0 bytes s))
  leads-stopped From k k' x' waits turns Device (inr f) from =
      (inr f.0, λ k0 bytes s. subst (λ (l : K). Partly takes rules states k0 bytes l) (sym f.1) (partly-waits k0 k bytes waits (from k0 bytes s)))
  leads-stopped From k k' x' waits turns _ f from = absurd f

  -- one that could not, after another
  leads-after : (From Next : K → List ℕ → Type 0) (k mid k' : K) (x x' : EngineState) (turns : ℕ) (r : Refusal) → faults mid ≡ faults k → ((k0 : K) (bytes : List ℕ) → From k0 bytes → Next k0 bytes) → LeadsOn takes faults rules states Next mid k' x' turns (Err r)
      → LeadsOn takes faults rules states From k k' x' turns (Err r)
  leads-after From Next k mid k' x x' turns Device same next c =
      (elim c.0 [ inl risen ↦ inl (subst (λ (n : ℕ). n < faults k') same risen) | inr used ↦ inr used ], λ k0 bytes s. c.1 k0 bytes (next k0 bytes s))
  leads-after From Next k mid k' x x' turns _ same next c = absurd c

  leads-comes : (From : K → List ℕ → Type 0) (k k' : K) (x x' : EngineState) (turns : ℕ) (r : Refusal) → ((k0 : K) (bytes : List ℕ) → Serving takes rules states k0 bytes k x → From k0 bytes) → LeadsOn takes faults rules states From k k' x' turns (Err r)
      → Comes takes faults rules states k k' x x' turns (Err r)
  leads-comes From k k' x x' turns Device from c = (c.0, λ k0 bytes s. c.1 k0 bytes (from k0 bytes s))
  leads-comes From k k' x x' turns _ from c = absurd c

  -- ---- by the engine's own calls

  -- room was made after a pump that may have stopped
  pub pumped-room : (k k' : K) (x mid x' : EngineState) (us : List Update) (n turns : ℕ) (r : Result (Unit {0}) Refusal) → mid ≡ record x { core = mid.core } → Pumps x.core x.circuit us mid.core → n ≡ length (output_of (under mid.core.circuits x.circuit)) → output_limit ≤ n
      → MakesRoom takes faults rules states k k' mid x' turns r → Pumped takes faults rules states k k' x x' turns r
  pumped-room k k' x mid x' us n turns r is pumps counted full makes = go r makes
    where
      from : (k0 : K) (bytes : List ℕ) → Stepping takes rules states k0 bytes k x → Filled takes rules states k0 bytes k mid
      from k0 bytes s = subst (λ (z : EngineState). Filled takes rules states k0 bytes k z) (sym is) (stepping-filled k0 k bytes x us mid.core n s pumps counted full)

      go : (r : Result (Unit {0}) Refusal) → MakesRoom takes faults rules states k k' mid x' turns r → Pumped takes faults rules states k k' x x' turns r
      go (Ok u) m = (m.0, λ k0 bytes s. m.1 k0 bytes (from k0 bytes s))
      go (Err e) m = leads-after (λ k0 bytes. Stepping takes rules states k0 bytes k x) (λ k0 bytes. Filled takes rules states k0 bytes k mid) k k k' x x' turns e refl from m

  -- or none was needed
  pub pumped-few : (k : K) (x : EngineState) (us : List Update) (y : Server) (n m turns : ℕ) → Pumps x.core x.circuit us y → n ≡ length (output_of (under y.circuits x.circuit)) → n < output_limit → m ≡ max x.waiting n
      → (let done : Result (Unit {0}) Refusal = Ok tt in Pumped takes faults rules states k k x (record x { core = y; waiting = m }) turns done)
  pumped-few k x us y n m turns pumps counted few larger = (refl, λ k0 bytes s. stepping-pumped k0 k bytes x us y n m s pumps counted few larger)

  -- what waited before could not be handed over
  pub room-stopped : (k k' : K) (x x' : EngineState) (turns : ℕ) (r : Refusal) → Hands takes faults k (what_waits x) k' turns (Err r) → MakesRoom takes faults rules states k k' x x' turns (Err r)
  room-stopped k k' x x' turns r hands =
      leads-stopped (λ k0 bytes. Filled takes rules states k0 bytes k x) k k' x' (what_waits x) turns r hands
      (λ k0 bytes f. subst (λ (w : List ℕ). Waits k0 bytes k w) (sym (front-waits x f.written.waits f.now f.leaving.2.0 f.written.core f.written.many (filled-has k0 k bytes x f))) (filled-waits k0 k bytes x f))

  -- it was, and the pump went on
  room-pumped : (k k' : K) (x mid new : EngineState) (us : List Update) (n : ℕ) → Goes takes k (what_waits x) k' → HasSent x mid → Pumps mid.core mid.circuit us new.core → n ≡ length (output_of (under new.core.circuits mid.circuit)) → new ≡ record mid { core = new.core; waiting = n }
      → (k0 : K) (bytes : List ℕ) → Filled takes rules states k0 bytes k x → Serving takes rules states k0 bytes k' new
  room-pumped k k' x mid new us n goes sent pumps counted is k0 bytes f =
      let g = filled-sent k0 k k' bytes x mid f goes sent in
      subst (λ (z : EngineState). Serving takes rules states k0 bytes k' z) (sym is) (filled-pumped k0 k' bytes mid us new.core n g.0 g.1 pumps counted)

  pub room-made : (k k' : K) (x mid new : EngineState) (us : List Update) (n turns : ℕ) → faults k' ≡ faults k → Goes takes k (what_waits x) k' → HasSent x mid → Pumps mid.core mid.circuit us new.core → n ≡ length (output_of (under new.core.circuits mid.circuit)) → new ≡ record mid { core = new.core; waiting = n }
      → (let done : Result (Unit {0}) Refusal = Ok tt in MakesRoom takes faults rules states k k' x new turns done)
  room-made k k' x mid new us n turns same goes sent pumps counted is = (same, room-pumped k k' x mid new us n goes sent pumps counted is)

  -- the message's own answers and updates were handed over too
  pub room-emptied : (k l k' : K) (x mid new x' : EngineState) (us : List Update) (n turns : ℕ) → faults l ≡ faults k → Goes takes k (what_waits x) l → HasSent x mid → Pumps mid.core mid.circuit us new.core → n ≡ length (output_of (under new.core.circuits mid.circuit)) → new ≡ record mid { core = new.core; waiting = n }
      → 0 < n → faults k' ≡ faults l → Goes takes l (what_waits new) k' → HasSent new x'
      → (let done : Result (Unit {0}) Refusal = Ok tt in MakesRoom takes faults rules states k k' x x' turns done)
  room-emptied k l k' x mid new x' us n turns same goes sent pumps counted is full again goes' sent' =
      (again ∙ same, λ k0 bytes f. serving-sent k0 l k' bytes new x' (room-pumped k l x mid new us n goes sent pumps counted is k0 bytes f) (room-full mid new n counted is full) goes' sent')
    where
      room-full : (mid new : EngineState) (n : ℕ) → n ≡ length (output_of (under new.core.circuits mid.circuit)) → new ≡ record mid { core = new.core; waiting = n } → 0 < n → 0 < length (output_of (under new.core.circuits new.circuit))
      room-full mid new n counted is full =
          subst (λ (h : Handle). 0 < length (output_of (under new.core.circuits h))) (sym (ap (λ (z : EngineState). z.circuit) is)) (subst (λ (j : ℕ). 0 < j) counted full)

  -- or could not be
  pub room-unfinished : (k l k' : K) (x mid new x' : EngineState) (us : List Update) (n turns : ℕ) (r : Refusal) → faults l ≡ faults k → Goes takes k (what_waits x) l → HasSent x mid → Pumps mid.core mid.circuit us new.core → n ≡ length (output_of (under new.core.circuits mid.circuit)) → new ≡ record mid { core = new.core; waiting = n }
      → 0 < n → Hands takes faults l (what_waits new) k' turns (Err r) → MakesRoom takes faults rules states k k' x x' turns (Err r)
  room-unfinished k l k' x mid new x' us n turns r same goes sent pumps counted is full hands =
      leads-after (λ k0 bytes. Filled takes rules states k0 bytes k x) (λ k0 bytes. Serving takes rules states k0 bytes l new) k l k' new x' turns r same (room-pumped k l x mid new us n goes sent pumps counted is)
      (leads-stopped (λ k0 bytes. Serving takes rules states k0 bytes l new) l k' x' (what_waits new) turns r hands (λ k0 bytes s. open-waits k0 bytes s s.stands))
    where
      open-waits : (k0 : K) (bytes : List ℕ) (s : Serving takes rules states k0 bytes l new) → Served rules states bytes new.circuit s.now s.text ⊎ Over rules states bytes new.circuit s.now s.text → Waits k0 bytes l (what_waits new)
      open-waits k0 bytes s (inl a) =
          subst (λ (w : List ℕ). Waits k0 bytes l w) (sym (front-waits new s.written.waits s.now (record a.e { link = a.link }) s.written.core s.written.many (served-has rules states bytes new.circuit s.now s.text a))) (serving-waits k0 l bytes new s)
      open-waits k0 bytes s (inr o) =
          let none : length (output_of (under new.core.circuits new.circuit)) ≡ 0 = ap (λ (z : Option ServerCircuit). length (output_of z)) (over-there bytes new s.now s.text s.written.waits s.written.core o) in
          let there : length (output_of (under new.core.circuits new.circuit)) ≡ n = ap (λ (h : Handle). length (output_of (under new.core.circuits h))) (ap (λ (z : EngineState). z.circuit) is) ∙ sym counted in
          absurd (omega (arith, none, there, full))

  stepped-on : (k : K) (x mid : EngineState) → mid ≡ record x { core = mid.core } → HandlesAndFinishes x.core x.circuit mid.core → (k0 : K) (bytes : List ℕ) → Serving takes rules states k0 bytes k x → Stepping takes rules states k0 bytes k mid
  stepped-on k x mid is d k0 bytes s = subst (λ (z : EngineState). Stepping takes rules states k0 bytes k z) (sym is) (serving-stepped k0 k bytes x mid.core s d)

  -- a message was answered
  pub comes-handled : (k k' : K) (x mid new : EngineState) (turns : ℕ) → mid ≡ record x { core = mid.core } → HandlesAndFinishes x.core x.circuit mid.core → (let done : Result (Unit {0}) Refusal = Ok tt in Pumped takes faults rules states k k' mid new turns done)
      → Comes takes faults rules states k k' x new turns (Ok true)
  comes-handled k k' x mid new turns is d p = (p.0, λ k0 bytes s. p.1 k0 bytes (stepped-on k x mid is d k0 bytes s))

  -- its updates could not be pumped
  pub comes-unpumped : (k k' : K) (x mid new : EngineState) (turns : ℕ) (r : Refusal) → mid ≡ record x { core = mid.core } → HandlesAndFinishes x.core x.circuit mid.core → Pumped takes faults rules states k k' mid new turns (Err r) → Comes takes faults rules states k k' x new turns (Err r)
  comes-unpumped k k' x mid new turns r is d p = leads-comes (λ k0 bytes. Stepping takes rules states k0 bytes k mid) k k' x new turns r (stepped-on k x mid is d) p

  -- what an end left could not be handed over
  pub comes-left : (k k' : K) (x x' : EngineState) (y : Server) (w : Why) (left : List ℕ) (turns : ℕ) (r : Refusal) → Steps x.core x.circuit (did.Closed w left) y → Hands takes faults k (take x.waiting left) k' turns (Err r) → Comes takes faults rules states k k' x x' turns (Err r)
  comes-left k k' x x' y w left turns r step hands =
      leads-comes (λ k0 bytes. Serving takes rules states k0 bytes k x) k k' x x' turns r (λ k0 bytes s. s)
      (leads-stopped (λ k0 bytes. Serving takes rules states k0 bytes k x) k k' x' (take x.waiting left) turns r hands (λ k0 bytes s. subst (λ (l : List ℕ). Waits k0 bytes k l) (sym (left-waits k0 k bytes x y w left s step)) (serving-waits k0 k bytes x s)))

  -- what waited before input ran out could not be handed over
  pub comes-stopped : (k k' : K) (x mid x' : EngineState) (y : Server) (turns : ℕ) (r : Refusal) → Steps x.core x.circuit did.NeedBytes y → mid ≡ record x { core = y } → Hands takes faults k (what_waits mid) k' turns (Err r) → Comes takes faults rules states k k' x x' turns (Err r)
  comes-stopped k k' x mid x' y turns r step is hands =
      leads-comes (λ k0 bytes. Serving takes rules states k0 bytes k x) k k' x x' turns r (λ k0 bytes s. s) (leads-stopped (λ k0 bytes. Serving takes rules states k0 bytes k x) k k' x' (what_waits mid) turns r hands (λ k0 bytes s. waits k0 bytes s s.stands))
    where
      waits : (k0 : K) (bytes : List ℕ) (s : Serving takes rules states k0 bytes k x) → Served rules states bytes x.circuit s.now s.text ⊎ Over rules states bytes x.circuit s.now s.text → Waits k0 bytes k (what_waits mid)
      waits k0 bytes s (inl a) =
          let r = open-steps bytes x s.now s.text s.written.waits did.NeedBytes y s.written.core a step in
          let same : mid ≡ x = is ∙ ap (λ (z : Server). record x { core = z }) r.3 in
          let whole : what_waits mid ≡ s.written.waits = ap what_waits same ∙ front-waits x s.written.waits s.now (record a.e { link = a.link }) s.written.core s.written.many (served-has rules states bytes x.circuit s.now s.text a) in
          subst (λ (w : List ℕ). Waits k0 bytes k w) (sym whole) (serving-waits k0 k bytes x s)
      waits k0 bytes s (inr o) = absurd (never-rests (over-reports bytes x s.now s.text s.written.waits did.NeedBytes y s.written.core o step))

  -- ---- all messages

  -- no next message came
  pub drains-stopped : (k0 k k' : K) (x0 x x' : EngineState) (turns : ℕ) (r : Refusal) → ServesOn takes rules states k0 x0 k x → faults k ≡ faults k0 → Comes takes faults rules states k k' x x' turns (Err r) → Drains takes faults rules states k0 k' x0 x' turns (Err r)
  drains-stopped k0 k k' x0 x x' turns OutOfMemory serves same c = (c.0 ∙ same, λ start bytes s. c.1 start bytes (serves start bytes s))
  drains-stopped k0 k k' x0 x x' turns Misaligned serves same c = (c.0 ∙ same, λ start bytes s. c.1 start bytes (serves start bytes s))
  drains-stopped k0 k k' x0 x x' turns TooLarge serves same c = (c.0 ∙ same, λ start bytes s. c.1 start bytes (serves start bytes s))
  drains-stopped k0 k k' x0 x x' turns Device serves same c =
      (elim c.0 [ inl risen ↦ inl (subst (λ (n : ℕ). n < faults k') same risen) | inr used ↦ inr used ], λ start bytes s. c.1 start bytes (serves start bytes s))
  drains-stopped k0 k k' x0 x x' turns _ serves same c = absurd c
