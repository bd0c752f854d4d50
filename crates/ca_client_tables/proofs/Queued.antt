-- Messages that wait on one circuit, after the others.
use Rattle.std.proofs.Common.{◌≡◌, ◌∙◌, ℕ, List, [], ◌∷◌, ◌++◌, Option, Some, None, append-nil, append_assoc, ap, length, map, option_map, refl, sym, unwrap_or}
use Rattle.std.specs.Prelude.{option_and_then}
use Rattle.std.proofs.lemmas.Grind.{flat_map-append}
use Rattle.std.proofs.lemmas.List.{take_at}
use Rattle.ca_arena.specs.declared.handle.Handle.{Handle}
use Rattle.ca_ids.specs.Table.{Table, under, with_changed}
use Rattle.ca_link.specs.Link.{LinkState, with_sent}
use Rattle.ca_wire.specs.Fields.{Fields}
use Rattle.ca_wire.specs.Message.{spelled, spelling}
use Rattle.ca_model.specs.Answers.{Aim, Sending}
use Rattle.ca_model.specs.Client.{Client, ClientCircuit, Connection, out_bytes, sending}
use Rattle.ca_client_tables.specs.Ends.{with_messages, cut_back, cut_end}
use Rattle.ca_client_tables.proofs.Circuits.{changed-same, changed-twice, this-same}

-- one circuit, on which these messages wait too
abbrev pub queue : List Fields → ClientCircuit → ClientCircuit
queue ms d = record d { connection = option_map (λ (e : Connection). record e { link = with_sent ms e.link }) d.connection }

pub sent-twice : (ms ns : List Fields) (l : LinkState) → with_sent ns (with_sent ms l) ≡ with_sent (ms ++ ns) l
sent-twice ms ns l =
    ap (λ (o : List ℕ). let k : LinkState = record l { output = o } in k)
    (append_assoc l.output (spelled ms) (spelled ns) ∙ ap (λ (xs : List ℕ). l.output ++ xs) (sym (flat_map-append spelling ms ns)))

pub sent-none : (l : LinkState) → with_sent [] l ≡ l
sent-none l = ap (λ (o : List ℕ). let k : LinkState = record l { output = o } in k) (append-nil l.output)

queue-twice-in : (ms ns : List Fields) (o : Option Connection) → option_map (λ (e : Connection). record e { link = with_sent ns e.link }) (option_map (λ (e : Connection). record e { link = with_sent ms e.link }) o) ≡ option_map (λ (e : Connection). record e { link = with_sent (ms ++ ns) e.link }) o
queue-twice-in ms ns None = refl
queue-twice-in ms ns (Some e) =
    ap (λ (l : LinkState). let f : Option Connection = Some (record e { link = l }) in f) (sent-twice ms ns e.link)

queue-none-in : (o : Option Connection) → option_map (λ (e : Connection). record e { link = with_sent [] e.link }) o ≡ o
queue-none-in None = refl
queue-none-in (Some e) = ap (λ (l : LinkState). let f : Option Connection = Some (record e { link = l }) in f) (sent-none e.link)

pub unchanged : {T : Type 0} (t : Table T) (f : T → T) (h : Handle) → under t h ≡ None → with_changed f h t ≡ t
unchanged t f h none = rw none refl

pub messages-twice : (x : Client) (c : Handle) (ms ns : List Fields) → with_messages c ns (with_messages c ms x) ≡ with_messages c (ms ++ ns) x
messages-twice x c ms ns = by_value (under x.circuits c) refl
  where
    by_value : (o : Option ClientCircuit) → under x.circuits c ≡ o → with_messages c ns (with_messages c ms x) ≡ with_messages c (ms ++ ns) x
    by_value None none =
        ap (λ (t : Table ClientCircuit). let y : Client = record x { circuits = with_changed (queue ns) c t } in y) (unchanged x.circuits (queue ms) c none)
        ∙ ap (λ (t : Table ClientCircuit). let y : Client = record x { circuits = t } in y) (unchanged x.circuits (queue ns) c none)
        ∙ ap (λ (t : Table ClientCircuit). let y : Client = record x { circuits = t } in y) (sym (unchanged x.circuits (queue (ms ++ ns)) c none))
    by_value (Some d) found =
        ap (λ (t : Table ClientCircuit). let y : Client = record x { circuits = t } in y)
        (changed-twice x.circuits (queue ms) (queue ns) c d found
        ∙ changed-same x.circuits (λ (w : ClientCircuit). queue ns (queue ms w)) (queue (ms ++ ns)) c d found
        (ap (λ (o : Option Connection). let w : ClientCircuit = record d { connection = o } in w) (queue-twice-in ms ns d.connection)))

pub messages-none : (x : Client) (c : Handle) → with_messages c [] x ≡ x
messages-none x c = by_value (under x.circuits c) refl
  where
    by_value : (o : Option ClientCircuit) → under x.circuits c ≡ o → with_messages c [] x ≡ x
    by_value None none = ap (λ (t : Table ClientCircuit). let y : Client = record x { circuits = t } in y) (unchanged x.circuits (queue []) c none)
    by_value (Some d) found =
        ap (λ (t : Table ClientCircuit). let y : Client = record x { circuits = t } in y)
        (changed-same x.circuits (queue []) (λ (w : ClientCircuit). d) c d found
        (ap (λ (o : Option Connection). let w : ClientCircuit = record d { connection = o } in w) (queue-none-in d.connection)))
        ∙ this-same x c d found

-- messages that are sent one after another on one circuit
pub sending-all : {A : Type 0} (c : Handle) (message : A → Fields) (aim : A → Aim) (xs : List A) (x : Client) → sending (map (λ (a : A). let s : Sending = record { circuit = c; message = message a; aim = aim a } in s) xs) x ≡ with_messages c (map message xs) x
sending-all c message aim [] x = sym (messages-none x c)
sending-all c message aim (a ∷ xs) x =
    sending-all c message aim xs (with_messages c (message a ∷ []) x) ∙ messages-twice x c (message a ∷ []) (map message xs)

-- ---- what was queued is taken back

cut-queued-end : (e : Connection) (ms : List Fields) (n : ℕ) → n ≡ length e.link.output → cut_end n (record e { link = with_sent ms e.link }) ≡ e
cut-queued-end e ms n all =
    ap (λ (o : List ℕ). let d : Connection = record e { link = record e.link { output = o } } in d) (take_at e.link.output (spelled ms) n (sym all))

cut-queued-in : (d : ClientCircuit) (o : Option Connection) (ms : List Fields) (n : ℕ) → d.connection ≡ o → ((e : Connection) → o ≡ Some e → n ≡ length e.link.output) → ◌≡◌ {A = ClientCircuit} (record d { connection = option_map (cut_end n) (option_map (λ (e : Connection). record e { link = with_sent ms e.link }) o) }) d
cut-queued-in d None ms n is all = ap (λ (o : Option Connection). let c : ClientCircuit = record d { connection = o } in c) (sym is)
cut-queued-in d (Some e) ms n is all =
    ap (λ (f : Connection). let c : ClientCircuit = record d { connection = Some f } in c) (cut-queued-end e ms n (all e refl))
    ∙ ap (λ (o : Option Connection). let c : ClientCircuit = record d { connection = o } in c) (sym is)

-- only what waited before is left
pub cut-messages : (x : Client) (c : Handle) (ms : List Fields) (n : ℕ) → n ≡ length (out_bytes x c) → cut_back c n (with_messages c ms x) ≡ x
cut-messages x c ms n all = by_value (under x.circuits c) refl
  where
    by_value : (o : Option ClientCircuit) → under x.circuits c ≡ o → cut_back c n (with_messages c ms x) ≡ x
    by_value None none =
        let cut = λ (d : ClientCircuit). record d { connection = option_map (cut_end n) d.connection } in
        ap (λ (t : Table ClientCircuit). let y : Client = record x { circuits = with_changed cut c t } in y) (unchanged x.circuits (queue ms) c none)
        ∙ ap (λ (t : Table ClientCircuit). let y : Client = record x { circuits = t } in y) (unchanged x.circuits cut c none)
    by_value (Some d) found =
        let cut = λ (d : ClientCircuit). record d { connection = option_map (cut_end n) d.connection } in
        let waits : (e : Connection) → d.connection ≡ Some e → n ≡ length e.link.output =
        λ e is. all
        ∙ ap (λ (o : Option ClientCircuit). length (unwrap_or (option_map (λ (f : Connection). f.link.output) (option_and_then (λ (w : ClientCircuit). w.connection) o)) [])) found
        ∙ ap (λ (o : Option Connection). length (unwrap_or (option_map (λ (f : Connection). f.link.output) o) [])) is in
        ap (λ (t : Table ClientCircuit). let y : Client = record x { circuits = t } in y)
        (changed-twice x.circuits (queue ms) cut c d found
        ∙ changed-same x.circuits (λ (w : ClientCircuit). cut (queue ms w)) (λ (w : ClientCircuit). d) c d found (cut-queued-in d d.connection ms n refl waits))
        ∙ this-same x c d found
