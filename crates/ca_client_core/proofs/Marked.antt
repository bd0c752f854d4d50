-- What is sent on a circuit after its mark is taken back.
use Rattle.std.proofs.Common.{◌≡◌, ◌∙◌, ℕ, ◌+◌, ◌<◌, true, false, List, [], ◌∷◌, ◌++◌, Option, Some, None, ap, get_or, length, option_map, refl, sym, take}
use Rattle.std.specs.Prelude.{option_and_then}
use Rattle.std.proofs.lemmas.List.{take_at, take_more}
use Rattle.ca_text.specs.declared.command.Command.TheVariants as command
use Rattle.ca_arena.specs.declared.handle.Handle.{Handle}
use Rattle.ca_ids.specs.Table.{Table, under, with_changed}
use Rattle.ca_link.specs.declared.keep.Keep.{Keep}
use Rattle.ca_link.specs.declared.keep.Keep.TheVariants.{Close, Echo, Idle}
use Rattle.ca_link.specs.declared.mark.Mark.{Mark}
use Rattle.ca_link.specs.Link.{LinkState, kept, mark_of, noted, restored, with_sent}
use Rattle.ca_wire.specs.Fields.{Fields}
use Rattle.ca_wire.specs.Message.{spelled}
use Rattle.ca_wire.specs.Messages.{header_only}
use Rattle.ca_model.specs.Client.{Client, ClientCircuit, Connection, on_connection}
use Rattle.ca_model.specs.ClientEnds.{Ticking, echoes}
use Rattle.ca_client_core.specs.declared.marks.CircuitMark.{CircuitMark}
use Rattle.ca_client_tables.specs.Ends.{with_messages}
use Rattle.ca_client_core.specs.Marks.{circuit_restored, mark_at, undone}
use Rattle.ca_client_tables.specs.Marks.{end_restored, mark_by}
use Rattle.ca_client_core.specs.Moments.{asks_in, is_echo, is_echo_due}
use Rattle.ca_client_tables.specs.Silences.{echo_end, echo_in}
use Rattle.ca_client_core.specs.Silences.{echoed}
use Rattle.ca_client_tables.proofs.Circuits.{changed-same, changed-twice, this-same}
use Rattle.ca_client_tables.proofs.Queued.{queue, unchanged}

-- ---- marks in a row

pub undone-last : (ms : List CircuitMark) (m : CircuitMark) (x : Client) → undone (ms ++ m ∷ []) x ≡ undone ms (circuit_restored m x)
undone-last [] m x = refl
undone-last (n ∷ ms) m x = ap (circuit_restored n) (undone-last ms m x)

-- one more mark, and what was sent after it
pub undone-more : (ms ns : List CircuitMark) (x y : Client) (c : Handle) → ns ≡ ms ++ mark_at x c ∷ [] → circuit_restored (mark_at x c) y ≡ x → undone ns y ≡ undone ms x
undone-more ms ns x y c is back =
    ap (λ (ls : List CircuitMark). undone ls y) is ∙ undone-last ms (mark_at x c) y ∙ ap (undone ms) back

-- one mark less is left
pub undone-less : (ms : List CircuitMark) (k : ℕ) (d : CircuitMark) (x y : Client) → k < length ms → y ≡ circuit_restored (get_or ms k d) x → undone (take k ms) y ≡ undone (take (k + 1) ms) x
undone-less ms k d x y within does =
    ap (undone (take k ms)) does
    ∙ sym (undone-last (take k ms) (get_or ms k d) x)
    ∙ ap (λ (ls : List CircuitMark). undone ls x) (sym (take_more ms k d within))

-- ---- one circuit

pub restored-on : (f : Connection → Connection) (x : Client) (c : Handle) → ((e : Connection) → end_restored (mark_of e.link) (f e) ≡ e) → circuit_restored (mark_at x c) (on_connection f c x) ≡ x
restored-on f x c back = go (under x.circuits c) refl
  where
    m : Mark
    m = (mark_at x c).mark

    mapped : (Connection → Connection) → ClientCircuit → ClientCircuit
    mapped g d = record d { connection = option_map g d.connection }

    ends : (d : ClientCircuit) (o : Option Connection) → d.connection ≡ o → mark_by d.connection ≡ m → ◌≡◌ {A = ClientCircuit} (record d { connection = option_map (end_restored m) (option_map f o) }) d
    ends d None is same = ap (λ (o : Option Connection). let w : ClientCircuit = record d { connection = o } in w) (sym is)
    ends d (Some e) is same =
        let own : m ≡ mark_of e.link = sym same ∙ ap mark_by is in
        ap (λ (n : Mark). let w : ClientCircuit = record d { connection = Some (end_restored n (f e)) } in w) own
        ∙ ap (λ (g : Connection). let w : ClientCircuit = record d { connection = Some g } in w) (back e)
        ∙ ap (λ (o : Option Connection). let w : ClientCircuit = record d { connection = o } in w) (sym is)

    go : (o : Option ClientCircuit) → under x.circuits c ≡ o → circuit_restored (mark_at x c) (on_connection f c x) ≡ x
    go None none =
        ap (λ (t : Table ClientCircuit). let y : Client = record x { circuits = with_changed (mapped (end_restored m)) c t } in y) (unchanged x.circuits (mapped f) c none)
        ∙ ap (λ (t : Table ClientCircuit). let y : Client = record x { circuits = t } in y) (unchanged x.circuits (mapped (end_restored m)) c none)
    go (Some d) found =
        let same : mark_by d.connection ≡ m = sym (ap (λ (o : Option ClientCircuit). mark_by (option_and_then (λ (w : ClientCircuit). w.connection) o)) found) in
        ap (λ (t : Table ClientCircuit). let y : Client = record x { circuits = t } in y)
        (changed-twice x.circuits (mapped f) (mapped (end_restored m)) c d found
        ∙ changed-same x.circuits (λ (w : ClientCircuit). mapped (end_restored m) (mapped f w)) (λ (w : ClientCircuit). d) c d found
        (ap (λ (o : Option Connection). let w : ClientCircuit = record d { connection = option_map (end_restored m) (option_map f o) } in w) {x = d.connection} {y = d.connection} refl ∙ ends d d.connection refl same))
        ∙ this-same x c d found

sent-back : (ms : List Fields) (e : Connection) → end_restored (mark_of e.link) (record e { link = with_sent ms e.link }) ≡ e
sent-back ms e =
    ap (λ (o : List ℕ). let d : Connection = record e { link = record e.link { output = o } } in d) (take_at e.link.output (spelled ms) (length e.link.output) refl)

pub restored-messages : (x : Client) (c : Handle) (ms : List Fields) → circuit_restored (mark_at x c) (with_messages c ms x) ≡ x
restored-messages x c ms = restored-on (λ (e : Connection). record e { link = with_sent ms e.link }) x c (sent-back ms)

pub restored-echo : (x : Client) (c : Handle) → circuit_restored (mark_at x c) (echoed c x) ≡ x
restored-echo x c = restored-on (echo_end x.moment) x c back
  where
    by : (e : Connection) (k : Keep) → restored (mark_of e.link) (noted k (with_sent (header_only command.Echo ∷ []) e.link)) ≡ restored (mark_of e.link) (with_sent (header_only command.Echo ∷ []) e.link)
    by e Idle = refl
    by e Echo = refl
    by e Close = refl

    back : (e : Connection) → end_restored (mark_of e.link) (echo_end x.moment e) ≡ e
    back e =
        ap (λ (l : LinkState). let d : Connection = record e { link = l } in d) (by e (kept x.moment e.link)) ∙ sent-back (header_only command.Echo ∷ []) e

-- ---- an ECHO that is due is the one of a tick

-- the link of a circuit notes that an ECHO went out
abbrev note : ClientCircuit → ClientCircuit
note d = record d { connection = option_map (λ (e : Connection). record e { link = record e.link { echoed = true } }) d.connection }

is-echo : (k : Keep) → is_echo k ≡ true → k ≡ Echo
is-echo Echo e = refl
is-echo Idle e = absurd cc
is-echo Close e = absurd cc

echo-in-one : (moment : ℕ) (d : ClientCircuit) (o : Option Connection) → d.connection ≡ o → asks_in is_echo moment o ≡ true → queue (header_only command.Echo ∷ []) (note d) ≡ echo_in moment d
echo-in-one moment d None there asks = absurd cc
echo-in-one moment d (Some e) there asks =
    let waits : LinkState = with_sent (header_only command.Echo ∷ []) e.link in
    let one : ◌≡◌ {A = Option Connection} (Some (record e { link = noted Echo waits })) (Some (echo_end moment e)) =
    ap (λ (k : Keep). let f : Option Connection = Some (record e { link = noted k waits }) in f) (sym (is-echo (kept moment e.link) asks)) in
    ap (λ (o : Option Connection). queue (header_only command.Echo ∷ []) (note (record d { connection = o }))) there
    ∙ ap (λ (o : Option Connection). let w : ClientCircuit = record d { connection = o } in w) one
    ∙ ap (λ (o : Option Connection). echo_in moment (record d { connection = o })) (sym there)

pub echoes-is : (c : Handle) (t : Ticking) → is_echo_due t.core c ≡ true → (echoes c t).core ≡ echoed c t.core
echoes-is c t due = go (under t.core.circuits c) refl
  where
    go : (o : Option ClientCircuit) → under t.core.circuits c ≡ o → (echoes c t).core ≡ echoed c t.core
    go None none =
        let never : is_echo_due t.core c ≡ false = ap (λ (o : Option ClientCircuit). asks_in is_echo t.core.moment (option_and_then (λ (w : ClientCircuit). w.connection) o)) none in
        absurd (let bad : true ≡ false = sym due ∙ never in cc)
    go (Some d) found =
        let asks : asks_in is_echo t.core.moment d.connection ≡ true =
        sym (ap (λ (o : Option ClientCircuit). asks_in is_echo t.core.moment (option_and_then (λ (w : ClientCircuit). w.connection) o)) found) ∙ due in
        ap (λ (cs : Table ClientCircuit). let y : Client = record t.core { circuits = cs } in y)
        (changed-twice t.core.circuits note (queue (header_only command.Echo ∷ [])) c d found
        ∙ changed-same t.core.circuits (λ (w : ClientCircuit). queue (header_only command.Echo ∷ []) (note w)) (echo_in t.core.moment) c d found (echo-in-one t.core.moment d d.connection refl asks))
