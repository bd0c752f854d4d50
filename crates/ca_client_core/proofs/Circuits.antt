-- A read on one circuit of a client.
use Rattle.std.proofs.Common.{◌≡◌, ◌≢◌, ◌⊎◌, inl, inr, ℕ, Bool, List, [], ◌∷◌, Option, Some, None, Result, Ok, Err, map, option_and_then, option_map, option_to_list, refl, sym, ap, ◌∙◌, subst}
use Rattle.ca_text.specs.declared.command.Command.{Command}
use Rattle.ca_text.specs.declared.refusal.Refusal.{Refusal}
use Rattle.ca_text.specs.declared.refusal.Refusal.TheVariants as refusal
use Rattle.ca_arena.specs.declared.handle.Handle.{Handle}
use Rattle.ca_ids.specs.Table.{Table, under}
use Rattle.ca_link.specs.Link.{with_given, with_sent}
use Rattle.ca_monitor.specs.ReadRun.{after_read, sent_by_read}
use Rattle.ca_wire.specs.Messages.{header_only}
use Rattle.ca_model.specs.Answers.{Sending}
use Rattle.ca_model.specs.Client.{Client, ClientCircuit, Connection, connection_at, sending}
use Rattle.ca_model.specs.ClientEnds.{ClientGives, GivesOn, flow_sent, given, of_circuit}
use Rattle.ca_client_tables.specs.Ends.{GivesAt, read_given, with_command}
use Rattle.ca_client_tables.specs.Ends as end
use Rattle.ca_client_tables.proofs.Circuits.{changed-same, changed-twice, this-same, with_this}

-- what a read sends and leaves, whatever it sends
sent-given : (x : Client) (c : Handle) (bytes : List ℕ) (more : Bool) (d : ClientCircuit) (e : Connection) (k : Option Command) → under x.circuits c ≡ Some d → d.connection ≡ Some e → with_this x c (record d { connection = Some (record { link = with_command k (with_given x.moment bytes e.link); run = after_read more e.run }) }) ≡ sending (map (λ (j : Command). of_circuit c (header_only j)) (option_to_list k)) (given c bytes more x)
sent-given x c bytes more d e None found connected =
    let f = λ (w : ClientCircuit). record w { connection = option_map (λ (y : Connection). record { link = with_given x.moment bytes y.link; run = after_read more y.run }) w.connection } in
    ap (λ (t : Table ClientCircuit). record x { circuits = t })
    (changed-same x.circuits (λ (w : ClientCircuit). record d { connection = Some (record { link = with_given x.moment bytes e.link; run = after_read more e.run }) }) f c d found (rw connected refl))
sent-given x c bytes more d e (Some k) found connected =
    let f = λ (w : ClientCircuit). record w { connection = option_map (λ (y : Connection). record { link = with_given x.moment bytes y.link; run = after_read more y.run }) w.connection } in
    let g = λ (w : ClientCircuit). record w { connection = option_map (λ (y : Connection). record y { link = with_sent (header_only k ∷ []) y.link }) w.connection } in
    ap (λ (t : Table ClientCircuit). record x { circuits = t })
    (changed-same x.circuits (λ (w : ClientCircuit). record d { connection = Some (record { link = with_sent (header_only k ∷ []) (with_given x.moment bytes e.link); run = after_read more e.run }) }) (λ (w : ClientCircuit). g (f w)) c d found (rw connected refl)
    ∙ sym (changed-twice x.circuits f g c d found))

none-sent : (c : Handle) (k : Option Command) → map (λ (j : Command). of_circuit c (header_only j)) (option_to_list k) ≡ [] → k ≡ None
none-sent c None none = refl
none-sent c (Some k) none = absurd cc

gives-on : (x : Client) (c : Handle) (bytes : List ℕ) (more : Bool) (d n : ClientCircuit) → under x.circuits c ≡ Some d → (o : Option Connection) → d.connection ≡ o → (answer : Result (Unit {0}) Refusal) (there : Option Connection) → end.GivesOn x.moment bytes more o answer there → n ≡ record d { connection = there } → (sent : List Sending) × GivesOn x c bytes more o answer sent (with_this x c n)
gives-on x c bytes more d n found None is (Err refusal.CircuitClosed) there h left =
    let same : n ≡ d = left ∙ ap (λ (o : Option Connection). record d { connection = o }) (h ∙ sym is) in
    ([], (refl, ap (with_this x c) same ∙ this-same x c d found))
gives-on x c bytes more d n found None is (Ok u) there h left = absurd h
gives-on x c bytes more d n found None is (Err _) there h left = absurd h
gives-on x c bytes more d n found (Some e) is (Ok u) there h left =
    let made : n ≡ record d { connection = Some (read_given x.moment bytes more e) } = left ∙ ap (λ (o : Option Connection). record d { connection = o }) h in
    (flow_sent c more e, (refl, ap (with_this x c) made ∙ sent-given x c bytes more d e (sent_by_read more e.run) found is))
gives-on x c bytes more d n found (Some e) is (Err refusal.OutOfMemory) there h left =
    let same : n ≡ d = left ∙ ap (λ (o : Option Connection). record d { connection = o }) (h.1 ∙ sym is) in
    let why : (bytes ≢ []) ⊎ (flow_sent c more e ≢ []) =
    elim h.0 [ inl some ↦ inl some | inr sends ↦ inr (λ none. sends (none-sent c (sent_by_read more e.run) none)) ] in
    ([], (why, (refl, ap (with_this x c) same ∙ this-same x c d found)))
gives-on x c bytes more d n found (Some e) is (Err _) there h left = absurd h

pub gives-found : (x : Client) (c : Handle) (bytes : List ℕ) (more : Bool) (d n : ClientCircuit) (r : Result (Unit {0}) Refusal) → under x.circuits c ≡ Some d → GivesAt x.moment bytes more d r n → (sent : List Sending) × ClientGives x c bytes more r sent (with_this x c n)
gives-found x c bytes more d n r found gives =
    let there : connection_at x c ≡ d.connection = ap (option_and_then (λ (w : ClientCircuit). w.connection)) found in
    subst (λ (o : Option Connection). (sent : List Sending) × GivesOn x c bytes more o r sent (with_this x c n)) (sym there)
    (gives-on x c bytes more d n found d.connection refl r gives.0 gives.1 gives.2)
