-- What the engine answers, by how a turn ended.
use Rattle.std.proofs.Common.{◌≡◌, ℕ, ◌+◌, ◌<◌, inl, inr, List, [], ◌∷◌, ◌++◌, length, length-append, map, None, refl, sym, ap, ◌∙◌, subst, arith}
use Rattle.std.specs.Prelude.{Ok, Err}
use Rattle.std.specs.List.{concat}
use Rattle.std.proofs.lemmas.List.{append-nil}
use Rattle.ca_arena.specs.declared.handle.Handle.{Handle}
use Rattle.ca_ids.specs.Table.{MayGive, Table, under, with_held}
use Rattle.ca_link.specs.Link.{LinkState, with_given}
use Rattle.ca_link.specs.Steps.{Moves}
use Rattle.ca_records.specs.Puts.{Record, new_record}
use Rattle.ca_records.specs.Record.{RecordState}
use Rattle.ca_records.specs.Rules.{Rule}
use Rattle.ca_text.specs.declared.refusal.Refusal.{Refusal}
use Rattle.ca_text.specs.declared.refusal.Refusal.TheVariants.{OutOfMemory, Misaligned, TooLarge, CircuitClosed, Device}
use Rattle.ca_text.specs.Limits.{server_port}
use Rattle.ca_text.proofs.Places.{At-mapped}
use Rattle.ca_wire.specs.Stream.{Begins, NoneBegins, NotBad}
use Rattle.ca_wire.proofs.Headers.{header-long}
use Rattle.ca_wire.proofs.Messages.{spells-long}
use Rattle.ca_model.specs.Answer.{Answered}
use Rattle.ca_model.specs.Server.{Open, Server, ServerCircuit, ServerEnd, new_end, new_server}
use Rattle.ca_model.specs.ServerSteps.{Gives, HasEnd, with_end}
use Rattle.ca_server_circuit.proofs.Tables.{held-own}
use Rattle.ca_answer.specs.Answering.{BreaksOff, MeetsBad, ReadsAll, SourceFails, Streams, Turned, Written}
use Rattle.ca_answer.specs.Engines.{EngineState, IsNew}
use Rattle.ca_answer.specs.Serving.{AreFree, Drains, MetBad, Partly, Rested, Served, Serving}
use Rattle.ca_answer.proofs.Ends.{changed-twice, one-end}
use Rattle.ca_answer.proofs.Fronted.{front-nothing}
use Rattle.ca_answer.proofs.Handled.{begins-behind, same-end, served-has}
use Rattle.ca_answer.proofs.Servings.{concat-more, moves-more, past-written}

none-begins-empty : NoneBegins []
none-begins-empty m front back spells e =
    let l : length {A = ℕ} [] ≡ length (front ++ back) = ap (λ (b : List ℕ). length b) e in
    omega (arith, l, length-append front back, spells-long m front spells)

not-bad-empty : NotBad []
not-bad-empty e bad =
    let l : length {A = ℕ} [] ≡ length (bad.head ++ bad.back) = ap (λ (b : List ℕ). length b) bad.are in
    omega (arith, l, length-append bad.head bad.back, header-long bad.head bad.header bad.spells)

-- ---- an engine at its start

-- a server that was accepted on, of these rules and records
abbrev accepted : (rules : List Rule) (states : List RecordState) (h : Handle) → Server
accepted rules states h =
    let y : Server = new_server server_port 0 rules states in
    record y { circuits = with_held h (Open (new_end 0)) [] }

abbrev first : Handle
first = record { index = 0; generation = 1 }

first-given : (T : Type 0) → MayGive {T = T} [] first
first-given T = record { index = omega arith; slot = omega arith; free = refl; next = refl; last = omega arith }

pub answered-none : (rules : List Rule) (states : List RecordState) → Answered rules states [] []
answered-none rules states = record {
  h = first;
  start = accepted rules states first;
  accepts = (first-given ServerCircuit, refl);
  new = accepted rules states first;
  answers = (refl, refl);
}

new-free : (states : List RecordState) → AreFree (map new_record states)
new-free states r h =
    let b = At-mapped new_record states h.0 r h.1 in
    subst (λ (x : Record). (x.busy ≡ None) × (x.waiting ≡ [])) (sym b.2) (refl, refl)

module _ {K : Type 0} (takes : K → List ℕ → K → Type 0) (rules : List Rule) (states : List RecordState) where
  -- before the first read
  pub rested-new : (k : K) (x : EngineState) → IsNew rules states x → Rested takes rules states k [] k x
  rested-new k x new =
      let has : HasEnd x.core x.circuit (new_end 0) = ap (λ (y : Server). under y.circuits x.circuit) new.0.1 ∙ held-own [] x.circuit (Open (new_end 0)) new.0.0 in
      let served : Served rules states [] x.circuit x.core [] = record {
        now = x.core;
        e = new_end 0;
        has = has;
        silent = refl;
        link = (new_end 0).link;
        quiet = refl;
        is = same-end x.core x.circuit (new_end 0) has;
        free = subst (λ (y : Server). AreFree y.records) (sym new.0.1) (new-free states);
        past = record { ms = []; begins = refl; start = x.core; accepts = new.0; answers = (refl, refl) };
      } in
      record { text = []; served = served; sent = new.1; writes = []; wrote = refl; parts = refl; whole = none-begins-empty; good = not-bad-empty }

  -- ---- bytes come

  given-output : (now : ℕ) (bytes : List ℕ) (l : LinkState) → (with_given now bytes l).output ≡ l.output
  given-output now [] l = refl
  given-output now (b ∷ bytes) l = refl

  given-bytes : (now : ℕ) (bytes : List ℕ) (l : LinkState) → (with_given now bytes l).input.bytes ≡ l.input.bytes ++ bytes
  given-bytes now [] l = sym (append-nil l.input.bytes)
  given-bytes now (b ∷ bytes) l = refl

  -- one more chunk came
  pub rested-given : (k0 k : K) (chunks : List (List ℕ)) (chunk : List ℕ) (x : EngineState) (u : Unit {0}) (y : Server) → Rested takes rules states k0 (concat chunks) k x → Gives x.core x.circuit chunk (Ok u) y
      → Serving takes rules states k0 (concat (chunks ++ chunk ∷ [])) k (record x { core = y })
  rested-given k0 k chunks chunk x u y r g =
      let s = r.served in
      let h : Handle = x.circuit in
      let e : ServerEnd = record s.e { link = s.link } in
      let one : g.0 ≡ e = one-end x.core h g.0 e g.1 (served-has rules states (concat chunks) h x.core r.text s) in
      let link : LinkState = with_given x.core.moment chunk s.link in
      let after : ServerEnd = record s.e { link = link } in
      let came : y ≡ with_end h after x.core = g.2 ∙ ap (λ (z : ServerEnd). with_end h (record z { link = with_given x.core.moment chunk z.link }) x.core) one in
      let whole : with_end h after x.core ≡ with_end h after s.now =
      ap (λ (z : Server). with_end h after z) s.is ∙ ap (λ (t : Table ServerCircuit). record s.now { circuits = t }) (changed-twice s.now.circuits h (Open s.e) (Open e) (Open after) s.has) in
      record {
        text = r.text;
        now = y;
        stands = inl (record {
          now = s.now;
          e = s.e;
          has = s.has;
          silent = s.silent;
          link = link;
          quiet = given-output x.core.moment chunk s.link ∙ s.quiet;
          is = came ∙ whole;
          free = s.free;
          past = record {
            ms = s.past.ms;
            begins =
                subst (λ (b : List ℕ). Begins b s.past.ms link.input.bytes) (sym (concat-more chunks chunk))
                (subst (λ (b : List ℕ). Begins (concat chunks ++ chunk) s.past.ms b) (sym (given-bytes x.core.moment chunk s.link)) (begins-behind s.past.ms (concat chunks) s.link.input.bytes chunk s.past.begins));
            start = s.past.start;
            accepts = s.past.accepts;
            answers = s.past.answers;
          };
        });
        written = record { waits = []; many = r.sent; core = sym (front-nothing h y); writes = r.writes; wrote = r.wrote; parts = append-nil (concat r.writes) ∙ r.parts };
      }

  -- nothing is refused but out of memory
  pub given-refused : (k0 k : K) (bytes chunk : List ℕ) (x : EngineState) (e : Refusal) (y : Server) → Rested takes rules states k0 bytes k x → Gives x.core x.circuit chunk (Err e) y → e ≡ OutOfMemory
  given-refused k0 k bytes chunk x OutOfMemory y r g = refl
  given-refused k0 k bytes chunk x CircuitClosed y r g = absurd (g.0 _ (served-has rules states bytes x.circuit x.core r.text r.served))
  given-refused k0 k bytes chunk x _ y r g = absurd g

  -- ---- what was written

  pub rested-written : (k0 k : K) (bytes : List ℕ) (x : EngineState) (r : Rested takes rules states k0 bytes k x) → Written takes rules states k0 bytes k r.served.link.input.bytes []
  rested-written k0 k bytes x r =
      let s = r.served in
      past-written takes (λ (l : K). 0) rules states k0 k bytes x.circuit s.now r.text s.link.input.bytes [] r.writes s.past r.wrote (append-nil (concat r.writes) ∙ r.parts)

module _ {S K : Type 0} (gives : S → List ℕ → S → Type 0) (takes : K → List ℕ → K → Type 0) (calls : S → ℕ) (calls' : K → ℕ) (faults : S → ℕ) (faults' : K → ℕ) (rules : List Rule) (states : List RecordState) where
  pub breaks-off : (s0 s : S) (k0 k : K) (chunks : List (List ℕ)) → Moves gives s0 chunks s → Partly takes rules states k0 (concat chunks) k → BreaksOff gives takes rules states s0 s k0 k
  breaks-off s0 s k0 k chunks came p = record { chunks = chunks; rest = p.rest; waits = p.waits; turned = record { came = came; written = p.written } }

  -- before the first read
  pub breaks-first : (s : S) (k : K) → BreaksOff gives takes rules states s s k k
  breaks-first s k = record {
    chunks = [];
    rest = [];
    waits = [];
    turned = record {
      came = refl;
      written = record { ms = []; begins = refl; text = []; answered = answered-none rules states; writes = []; wrote = refl; parts = refl };
    };
  }

  pub breaks-rested : (s0 s : S) (k0 k : K) (chunks : List (List ℕ)) (x : EngineState) → Moves gives s0 chunks s → Rested takes rules states k0 (concat chunks) k x → BreaksOff gives takes rules states s0 s k0 k
  breaks-rested s0 s k0 k chunks x came r =
      record { chunks = chunks; rest = r.served.link.input.bytes; waits = []; turned = record { came = came; written = rested-written takes rules states k0 k (concat chunks) x r } }

  -- one more chunk was read
  turned-read : (s0 s t : S) (k0 k : K) (chunks : List (List ℕ)) (chunk : List ℕ) (x : EngineState) → Moves gives s0 chunks s → gives s chunk t → (r : Rested takes rules states k0 (concat chunks) k x)
      → Turned gives takes rules states s0 t k0 k (chunks ++ chunk ∷ []) (r.served.link.input.bytes ++ chunk) []
  turned-read s0 s t k0 k chunks chunk x came last r =
      let w = rested-written takes rules states k0 k (concat chunks) x r in
      record {
        came = moves-more gives s0 s t chunks chunk came last;
        written = record {
          ms = w.ms;
          begins = subst (λ (b : List ℕ). Begins b w.ms (r.served.link.input.bytes ++ chunk)) (sym (concat-more chunks chunk)) (begins-behind w.ms (concat chunks) r.served.link.input.bytes chunk w.begins);
          text = w.text;
          answered = w.answered;
          writes = w.writes;
          wrote = w.wrote;
          parts = w.parts;
        };
      }

  -- and there is no memory for it
  pub breaks-read : (s0 s t : S) (k0 k : K) (chunks : List (List ℕ)) (chunk : List ℕ) (x : EngineState) → Moves gives s0 chunks s → gives s chunk t → Rested takes rules states k0 (concat chunks) k x → BreaksOff gives takes rules states s0 t k0 k
  breaks-read s0 s t k0 k chunks chunk x came last r =
      record { chunks = chunks ++ chunk ∷ []; rest = r.served.link.input.bytes ++ chunk; waits = []; turned = turned-read s0 s t k0 k chunks chunk x came last r }

  -- the end of input
  pub reads-all : (s0 s t : S) (k0 k : K) (chunks : List (List ℕ)) (x : EngineState) → Moves gives s0 chunks s → gives s [] t → Rested takes rules states k0 (concat chunks) k x → ReadsAll gives takes rules states s0 t k0 k
  reads-all s0 s t k0 k chunks x came last r =
      let same : r.served.link.input.bytes ++ [] ≡ r.served.link.input.bytes = append-nil r.served.link.input.bytes in
      record {
        chunks = chunks;
        rest = r.served.link.input.bytes;
        turned = subst (λ (n : List ℕ). Turned gives takes rules states s0 t k0 k (chunks ++ [] ∷ []) n []) same (turned-read s0 s t k0 k chunks [] x came last r);
        whole = r.whole;
        good = r.good;
      }

  pub source-fails : (s0 s : S) (k0 k : K) (chunks : List (List ℕ)) (x : EngineState) → Moves gives s0 chunks s → Rested takes rules states k0 (concat chunks) k x → SourceFails gives takes rules states s0 k0 k
  source-fails s0 s k0 k chunks x came r =
      record { last = s; chunks = chunks; rest = r.served.link.input.bytes; turned = record { came = came; written = rested-written takes rules states k0 k (concat chunks) x r }; whole = r.whole; good = r.good }

  -- the last chunk had the end of a bad header, since all that had come before it was read
  meets-bad : (s0 s : S) (k0 j k : K) (before : List (List ℕ)) (last : List ℕ) (x : EngineState) (e : Refusal)
      → Moves gives s0 (before ++ last ∷ []) s → Rested takes rules states k0 (concat before) j x
      → MetBad takes rules states k0 (concat (before ++ last ∷ [])) k e → MeetsBad gives takes rules states s0 s k0 k e
  meets-bad s0 s k0 j k before last x e came r m = record {
    before = before;
    last = last;
    earlier = r.served.past.ms;
    unread = r.served.link.input.bytes;
    begins = r.served.past.begins;
    good = r.good;
    rest = m.rest;
    turned = record { came = came; written = m.written };
    bad = m.bad;
  }

  -- a refusal while the messages were answered
  pub streams-refused : (s0 s : S) (k0 k k' : K) (before : List (List ℕ)) (last : List ℕ) (x0 x x' : EngineState) (turns : ℕ)
      (e : Refusal) → Moves gives s0 (before ++ last ∷ []) s → Rested takes rules states k0 (concat before) k x0
      → Serving takes rules states k0 (concat (before ++ last ∷ [])) k x → faults' k ≡ faults' k0
      → calls s + calls' k' ≡ calls s0 + calls' k0 + turns → Drains takes faults' rules states k k' x x' turns (Err e)
      → Streams gives takes calls calls' faults faults' rules states s0 s k0 k' (Err e)
  streams-refused s0 s k0 k k' before last x0 x x' turns OutOfMemory came rested serving same counted d =
      let chunks : List (List ℕ) = before ++ last ∷ [] in
      breaks-off s0 s k0 k' chunks came (d.1 k0 (concat chunks) serving)
  streams-refused s0 s k0 k k' before last x0 x x' turns Misaligned came rested serving same counted d =
      meets-bad s0 s k0 k k' before last x0 Misaligned came rested (d.1 k0 (concat (before ++ last ∷ [])) serving)
  streams-refused s0 s k0 k k' before last x0 x x' turns TooLarge came rested serving same counted d =
      meets-bad s0 s k0 k k' before last x0 TooLarge came rested (d.1 k0 (concat (before ++ last ∷ [])) serving)
  streams-refused s0 s k0 k k' before last x0 x x' turns Device came rested serving same counted d =
      let chunks : List (List ℕ) = before ++ last ∷ [] in
      let off = breaks-off s0 s k0 k' chunks came (d.1 k0 (concat chunks) serving) in
      elim d.0 [
        | inl risen ↦ inr (inl (subst (λ (n : ℕ). n < faults' k') same risen, off))
        | inr used ↦ inr (inr (subst (λ (n : ℕ). calls s + calls' k' ≡ calls s0 + calls' k0 + n) used counted, off))
      ]
  streams-refused s0 s k0 k k' before last x0 x x' turns _ came rested serving same counted d = absurd d
