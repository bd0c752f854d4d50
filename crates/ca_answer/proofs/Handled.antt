-- A message is handled on a circuit that was served: it is answered by what waits then, or the
-- circuit's end has ended out of memory.
use Rattle.std.proofs.Common.{◌≡◌, ℕ, ◌⊎◌, inl, inr, true, false, List, [], ◌∷◌, ◌++◌, append_assoc, drop, length, Option, Some, None, refl, sym, ap, ◌∙◌, subst}
use Rattle.std.proofs.lemmas.List.{append-nil}
use Rattle.ca_arena.specs.declared.handle.Handle.{Handle}
use Rattle.ca_ids.specs.Table.{Table, under, with_changed}
use Rattle.ca_link.specs.Link.{with_handed, with_rest, with_sent}
use Rattle.ca_records.specs.Puts.{Record}
use Rattle.ca_records.specs.Record.{RecordState}
use Rattle.ca_records.specs.Rules.{Rule}
use Rattle.ca_wire.specs.Fields.{Fields}
use Rattle.ca_wire.specs.Message.{Spells}
use Rattle.ca_wire.specs.Stream.{Begins}
use Rattle.ca_model.specs.Answer.{Answers, Serves, Writes}
use Rattle.ca_model.specs.Due.{Action, Applies, KnownChannel}
use Rattle.ca_model.specs.Due as action
use Rattle.ca_model.specs.Server.{Open, Server, ServerCircuit, ServerEnd}
use Rattle.ca_model.specs.ServerSteps.{Handles, HasEnd, Pumps, Records, Sends, Stepped, Steps, StepsAt, StepsOpen, Update, knows, known_channel, output_of, with_end}
use Rattle.ca_model.specs.ServerSteps as did
use Rattle.ca_server_core.specs.Noting.{HandlesAndFinishes}
use Rattle.ca_server_core.proofs.Moves.{changed-nothing}
use Rattle.ca_answer.specs.Serving.{AreFree, Over, Served}
use Rattle.ca_answer.proofs.Doing.{Busies, due-busies}
use Rattle.ca_answer.proofs.Ends.{changed-twice, end-there, handles-has, pumped-stays, reaches-has, records-circuits, tried-stays}
use Rattle.ca_answer.proofs.Free.{AreFreeBut, busied, noted-free, pumped-free, reached-free, recorded-free, tried-free}

-- ---- bytes and answers in a row

-- one more message is read
begins-more : (ms : List Fields) (bytes rest front back : List ℕ) (m : Fields) → Begins bytes ms rest → rest ≡ front ++ back → Spells front m → Begins bytes (ms ++ m ∷ []) back
begins-more [] bytes rest front back m b e spells = (front, back, spells, b ∙ e, refl)
begins-more (x ∷ ms) bytes rest front back m b e spells = (b.0, b.1, b.2, b.3, begins-more ms b.1 rest front back m b.4 e spells)

-- more bytes come
pub begins-behind : (ms : List Fields) (bytes rest more : List ℕ) → Begins bytes ms rest → Begins (bytes ++ more) ms (rest ++ more)
begins-behind [] bytes rest more b = ap (λ (t : List ℕ). t ++ more) b
begins-behind (x ∷ ms) bytes rest more b =
    (b.0, b.1 ++ more, b.2, ap (λ (t : List ℕ). t ++ more) b.3 ∙ append_assoc b.0 b.1 more, begins-behind ms b.1 rest more b.4)

-- one more message is answered
answers-more : (h : Handle) (y mid new : Server) (ms : List Fields) (m : Fields) (text more : List ℕ) → Answers h y ms text mid → Writes h mid m more new → Answers h y (ms ++ m ∷ []) (text ++ more) new
answers-more h y mid new [] m text more a w =
    (more, [], new, subst (λ (s : Server). Writes h s m more new) a.1 w, (refl, refl), ap (λ (t : List ℕ). t ++ more) a.0 ∙ sym (append-nil more))
answers-more h y mid new (x ∷ ms) m text more a w =
    (a.0, a.1 ++ more, a.2, a.3, answers-more h a.2 mid new ms m a.1 more a.4 w, ap (λ (t : List ℕ). t ++ more) a.5 ∙ append_assoc a.0 a.1 more)

-- ---- what came plays no part

-- a message is handled as it would be had other bytes come
handles-before : (y : Server) (h : Handle) (c : ServerCircuit) (z e : ServerEnd) (m : Fields) (replies : List Fields) (a : Action) (new : Server) → under y.circuits h ≡ Some c → Handles (with_end h z y) h e m replies a new
    → (hs : Handles y h e m replies a new) × (hs.recorded.records ≡ new.records)
handles-before y h c z e m replies a new there handles =
    let r : Server = handles.recorded in
    let before : Server = record r { circuits = y.circuits } in
    let x : ServerEnd = record handles.acted { link = with_sent replies handles.acted.link } in (
      record {
        due = handles.due;
        acted = handles.acted;
        acts = acted a handles.acted handles.acts;
        recorded = before;
        records = recorded a r handles.records;
        leaves = handles.leaves ∙ ap (λ (t : Table ServerCircuit). record before { circuits = t }) (
            ap (λ (t : Table ServerCircuit). with_changed (λ (s : ServerCircuit). Open x) h t) (records-circuits (with_end h z y) h e m a r handles.records)
            ∙ changed-twice y.circuits h c (Open z) (Open x) there);
      },
      sym (ap (λ (s : Server). s.records) handles.leaves),
    )
  where
    acted : (a : Action) (new : ServerEnd) → did.Acts (with_end h z y) e a new → did.Acts y e a new
    acted action.Greets new is = is
    acted (action.Names p) new is = is
    acted (action.Opens k) new is = is
    acted (action.Clears sid) new is = is
    acted (action.Adds s) new is = is
    acted (action.Drops key) new is = is
    acted (action.Switches on) new is = is
    acted action.Nothing new is = is
    acted (Applies name value busies) new is = is
    acted (action.Waits name value) new is = is

    back : Server → Server
    back s = record s { circuits = y.circuits }

    recorded : (a : Action) (r : Server) → Records (with_end h z y) h e m a r → Records y h e m a (back r)
    recorded (Applies name value false) r is = ap back is
    recorded (Applies name value true) r is = (is.0, is.1, ap back is.2)
    recorded (action.Waits name value) r is = (is.0, is.1, ap back is.2)
    recorded (action.Clears sid) r is = ap back is
    recorded action.Nothing r is = ap back is
    recorded action.Greets r is = ap back is
    recorded (action.Names p) r is = ap back is
    recorded (action.Opens k) r is = ap back is
    recorded (action.Adds s) r is = ap back is
    recorded (action.Drops key) r is = ap back is
    recorded (action.Switches on) r is = ap back is

-- ---- one message

-- the end that is there takes a step
pub steps-there : (y : Server) (h : Handle) (e : ServerEnd) (d : Stepped) (new : Server) → HasEnd y h e → Steps y h d new → StepsOpen y h e d new
steps-there y h e d new has s = subst (λ (o : Option ServerCircuit). StepsAt y h o d new) has s

drop-all : {A : Type 0} (xs : List A) → drop (length xs) xs ≡ []
drop-all [] = refl
drop-all (x ∷ xs) = drop-all xs

pub same-end : (y : Server) (h : Handle) (e : ServerEnd) → HasEnd y h e → y ≡ with_end h e y
same-end y h e has = ap (λ (t : Table ServerCircuit). record y { circuits = t }) (sym (changed-nothing y.circuits h (Open e) has))

module _ (rules : List Rule) (states : List RecordState) (bytes : List ℕ) (h : Handle) where
  -- the end of a circuit that is served
  pub served-has : (y : Server) (text : List ℕ) (s : Served rules states bytes h y text) → HasEnd y h (record s.e { link = s.link })
  served-has y text s = ap (λ (z : Server). under z.circuits h) s.is ∙ end-there s.now h (Open s.e) (record s.e { link = s.link }) s.has

  -- what waits of a message was handed over
  abbrev pub Told : Server → List ℕ → Type 0
  Told y text =
      (x : ServerEnd) × HasEnd y h x
      × ((new : Server) → new ≡ with_end h (record x { link = with_handed (length x.link.output) x.link }) y → Served rules states bytes h new (text ++ x.link.output))

  pub served-handled : (y : Server) (text : List ℕ) (finished : Server) (us : List Update) (new : Server) → Served rules states bytes h y text → HandlesAndFinishes y h finished → Pumps finished h us new → Told new text ⊎ Over rules states bytes h new text
  served-handled y text finished us new s d pumps =
      let e : ServerEnd = record s.e { link = s.link } in
      let has : HasEnd y h e = served-has y text s in
      let step = steps-there y h e did.Handled d.stepped has d.steps in
      let next = step.0 in
      let rest = next.rest in
      let e' : ServerEnd = record s.e { link = with_rest rest s.link } in
      let raw : Handles (with_end h e s.now) h e' next.m next.replies next.action next.after = subst (λ (z : Server). Handles z h e' next.m next.replies next.action next.after) s.is next.handles in
      let handles = handles-before s.now h (Open s.e) e e' next.m next.replies next.action next.after s.has raw in
      let busies : Busies (knows s.now e') next.m next.action = due-busies (knows s.now e') next.m next.replies next.action handles.0.due in
      let freed : AreFreeBut (busied next.action) next.after.records =
      subst (λ (rs : List Record). AreFreeBut (busied next.action) rs) handles.1 (recorded-free s.now h e' next.m next.action handles.0.recorded s.free busies handles.0.records) in
      let reached = reached-free next.action (busied next.action) step.1 next.after d.stepped step.3 freed in
      let was : AreFree y.records = subst (λ (z : Server). AreFree z.records) (sym s.is) s.free in
      let noted = noted-free (busied next.action) d.put y.records d.stepped.records was reached d.notes in
      let tried = tried-free noted.0 d.put d.stepped finished noted.2 noted.1 d.tries in
      let first = handles-has s.now h (Open s.e) e' next.m next.replies next.action next.after s.has handles.0 in
      let second = reaches-has next.action step.1 next.after h first.0 d.stepped step.3 step.2 first.1 in
      let third = tried-stays d.put d.stepped finished h rest d.tries (inl (second.0, second.1, second.2 ∙ first.2)) in
      let begins : Begins bytes (s.past.ms ++ next.m ∷ []) rest = begins-more s.past.ms bytes s.link.input.bytes next.takes.0 rest next.m s.past.begins next.takes.2 next.takes.1 in
      elim (pumped-stays finished h us new rest pumps third) [
        | inr over ↦ inr (record { now = s.now; rest = s.link.input.bytes; past = s.past; left = over.0; ended = over.1 })
        | inl x ↦
            let free = pumped-free finished h us new pumps tried.0 in
            let serves : Serves h s.now next.m new = record {
              e = s.e;
              has = s.has;
              link = with_rest rest s.link;
              waits = s.quiet ∙ sym s.silent;
              replies = next.replies;
              action = next.action;
              handled = next.after;
              handles = handles.0;
              gone = step.1;
              goes_on = step.2;
              reached = d.stepped;
              reaches = step.3;
              names = tried.1.0;
              idle = finished;
              finishes = tried.1.1;
              all = λ r there. (tried.0 r there).0;
              updates = us;
              pumps = pumps;
              stays = (x.0, x.1);
            } in
            inl (
              x.0,
              x.1,
              λ z is.
                  let after : ServerEnd = record x.0 { link = with_handed (length x.0.link.output) x.0.link } in
                  let there : HasEnd z h after = ap (λ (k : Server). under k.circuits h) is ∙ end-there new h (Open x.0) after x.1 in
                  let writes : Writes h s.now next.m x.0.link.output z = record { served = new; serves = serves; e = x.0; has = x.1; is = refl; leaves = is } in
                  record {
                    now = z;
                    e = after;
                    has = there;
                    silent = drop-all x.0.link.output;
                    link = after.link;
                    quiet = drop-all x.0.link.output;
                    is = same-end z h after there;
                    free = subst (λ (k : Server). AreFreeBut None k.records) (sym is) free;
                    past = record {
                      ms = s.past.ms ++ next.m ∷ [];
                      begins = subst (λ (b : List ℕ). Begins bytes (s.past.ms ++ next.m ∷ []) b) (sym x.2) begins;
                      start = s.past.start;
                      accepts = s.past.accepts;
                      answers = answers-more h s.past.start s.now z s.past.ms next.m text x.0.link.output s.past.answers writes;
                    };
                  },
            )
      ]
