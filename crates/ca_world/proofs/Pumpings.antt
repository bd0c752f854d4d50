-- A server's end of a circuit is pumped, from what its parts became.
use Rattle.std.proofs.Common.{◌≡◌, ◌≢◌, ◌⊎◌, ℕ, ◌==◌, inl, inr, true, false, List, [], ◌∷◌, Some, None, Result, Ok, Err, length, refl, sym, ap, subst, ◌∙◌}
use Rattle.std.specs.Prelude.{map, slice_set}
use Rattle.std.specs.List.{FoldsTo}
use Rattle.ca_arena.specs.declared.handle.Handle.{Handle}
use Rattle.ca_text.specs.declared.refusal.Refusal.{Refusal}
use Rattle.ca_text.specs.declared.refusal.Refusal.TheVariants.{OutOfMemory}
use Rattle.ca_text.specs.Place.{At}
use Rattle.ca_text.proofs.Places.{At-map, At-one, At-set}
use Rattle.ca_wire.specs.Fields.{Fields}
use Rattle.ca_model.specs.Ends as why
use Rattle.ca_queue.specs.Queue.{Queue}
use Rattle.ca_queue.proofs.Circuits.{set-twice}
use Rattle.ca_model.specs.History.{Cause, Entry, Line}
use Rattle.ca_model.specs.Speech.{Stored}
use Rattle.ca_model.specs.Server.{Server, ServerEnd}
use Rattle.ca_model.specs.ServerSteps.{HasEnd, Update, ended, with_end}
use Rattle.ca_model.specs.Events.{Pump}
use Rattle.ca_model.specs.Runs.{CanBe, Happens, HasServerEnd}
use Rattle.ca_model.specs.ServerEvents.{ending, ends_at, ends_by, reported, server_closed, stamped, withdrawals, without_puts}
use Rattle.ca_model.specs.World.{grown, with_circuit}
use Rattle.ca_model.specs.World as model
use Rattle.ca_laws_parts.proofs.BytesRuns.{reached-in-step}
use Rattle.ca_laws_parts.proofs.ServerEvents.{stamped-tells}
use Rattle.ca_laws_parts.proofs.BytesServerCalls.{pumps-fits}
use Rattle.ca_laws_parts.specs.ServerFits.{ServersFit}
use Rattle.ca_laws_parts.specs.InStep.{InStep, number_in, value_in}
use Rattle.ca_laws_parts.specs.Seats.{Seated}
use Rattle.ca_laws_parts.specs.WritesSteps.{AllInStep}
use Rattle.ca_world_data.specs.declared.client.ClientSide.{ClientSide}
use Rattle.ca_world_data.specs.declared.ends.Ends.{Ends}
use Rattle.ca_world_data.specs.declared.joined.Joined.{Joined}
use Rattle.ca_world_data.specs.declared.server.ServerSide.{ServerSide}
use Rattle.ca_world_data.specs.Does.{Does, HasWaiting, MayPump}
use Rattle.ca_world_data.specs.Ends.{AreEnds, NoEnds, ends_of}
use Rattle.ca_world_data.specs.Seen.{client_of, joined_of, record_of, server_of}
use Rattle.ca_world_data.specs.Updates.{TellsOne, WaitAlike, WaitsAlike, bare, shown_by}
use Rattle.ca_world_data.specs.Withdrawing.{all_withdrawn}
use Rattle.ca_world.specs.ServerPumps.{Pumped, PumpsServer, PumpsUntil, UpdatesFit, over_core}
use Rattle.ca_world.specs.Reported.{HasReported}
use Rattle.ca_world.specs.Whole.{IsReached}
use Rattle.ca_world_data.proofs.Indexes.{KeepsEnds, ends-stay}
use Rattle.ca_world_data.proofs.Withdrawals.{told-all}
use Rattle.ca_world_data.proofs.UpdatesGiven.{bare-images}
use Rattle.ca_world_data.proofs.Worlds.{joins, none-joined, one-at, same-circuit, set-map, set-same, world_of}
use Rattle.ca_world.proofs.Counted.{run-reported}
use Rattle.ca_world.proofs.Cuttings.{run-stands}
use Rattle.ca_world.proofs.Downward.{at-set}
use Rattle.ca_world.proofs.Endings.{ends-number, ends-this, over-reports}
use Rattle.ca_world.proofs.Reported.{reported-changed}
use Rattle.ca_world.proofs.Stamping.{told-stamped}
use Rattle.ca_world.proofs.Staying.{after-none}

-- ---- entries that wait

-- what is in step waits in both
in-step-alike : (values : List (Queue Stored)) (numbers : List (Queue (ℕ × Cause))) → InStep values numbers → WaitAlike values numbers
in-step-alike values numbers s =
    ap (λ (qs : List (Queue Stored)). bare qs) s.values_are ∙ bare-images value_in s.both
    ∙ sym (ap (λ (qs : List (Queue (ℕ × Cause))). bare qs) s.numbers_are ∙ bare-images number_in s.both)

-- ---- a circuit whose updates went down

-- it joins what it joined
pub told-keep : (ms : List Fields) (j new : model.Joined) → FoldsTo TellsOne j ms new → KeepsEnds j new
told-keep [] j new same = ends-stay j new (sym same)
told-keep (m ∷ ms) j new (mid, one, rest) =
    let k : KeepsEnds mid new = told-keep ms mid new rest in
    record {
      client = k.client ∙ ap (λ (z : model.Joined). z.client) one.is;
      server = k.server ∙ ap (λ (z : model.Joined). z.server) one.is;
      at_client = k.at_client ∙ ap (λ (z : model.Joined). z.at_client) one.is;
      at_server = k.at_server ∙ ap (λ (z : model.Joined). z.at_server) one.is;
      closes = λ on. sym (ap (λ (z : model.Joined). z.lists.client_open) one.is) ∙ k.closes on;
      stops = λ on. sym (ap (λ (z : model.Joined). z.lists.server_open) one.is) ∙ k.stops on;
    }

-- its end at the server is as it was
pub stamped-open : (us : List Update) (j : model.Joined) → (stamped us j).lists.server_open ≡ j.lists.server_open
stamped-open us j = (stamped-tells us j).is_open

pub stamped-handle : (us : List Update) (j : model.Joined) → (stamped us j).at_server ≡ j.at_server
stamped-handle us j = (stamped-tells us j).like.handle

pub stamped-server : (us : List Update) (j : model.Joined) → (stamped us j).server ≡ j.server
stamped-server us j = (stamped-tells us j).like.server

-- ---- a world after it

module _ (cs : List ClientSide) (ss : List ServerSide) (ks : List Joined) (cl : List (List Line)) (sl : List (List Entry)) (m : ℕ) where
  -- no circuit
  pub pump-none : (k : ℕ) → NoEnds (length cs) (length ss) ks k → CanBe (world_of cs ss ks cl sl m) (Pump k) → ⊥
  pump-none k none can = none-joined cs ss ks cl sl m k none can.j can.x can.y can.joins

  -- its end at the server is not open
  pub pump-ended : (k : ℕ) (j : Joined) → At ks k j → j.lists.server_open ≡ false → CanBe (world_of cs ss ks cl sl m) (Pump k) → ⊥
  pump-ended k j at ended can =
      let is = same-circuit cs ss ks cl sl m k j at can.j can.joins.at in
      let on : j.lists.server_open ≡ true = sym (ap (λ (z : model.Joined). z.lists.server_open) is) ∙ can.is_open in
      cc

  module _ (k : ℕ) (j : Joined) (x : ClientSide) (y : ServerSide) (at : At ks k j) (client : At cs j.client x) (server : At ss j.server y) (on : j.lists.server_open ≡ true) (reached : IsReached (world_of cs ss ks cl sl m)) where
    abbrev there : HasServerEnd (world_of cs ss ks cl sl m) k
    there = record { j = joined_of j; x = client_of x; y = server_of y; joins = joins cs ss ks cl sl m k j x y at client server; is_open = on }

    abbrev w : model.World
    w = world_of cs ss ks cl sl m

    at_k : At (map joined_of ks) k (joined_of j)
    at_k = At-map joined_of ks k j at

    at_i : At (map server_of ss) j.server (server_of y)
    at_i = At-map server_of ss j.server y server

    all : HasReported y.core
    all = run-reported w reached j.server (server_of y) at_i

    seated : Seated w
    seated = (run-stands w reached).1.sound.seated

    in_step : (e : ServerEnd) → HasEnd y.core j.at_server e → InStep e.queues (joined_of j).queues
    in_step e has = ((let steps : AllInStep w = reached-in-step w (reached.0, reached.1, None, reached.2, (w, reached.3, refl)) in steps) k (joined_of j) (server_of y) e at_k at_i on has).queues

    -- the circuit after the updates that went down
    is_stamped : (new : model.Joined) (p : Pumped y.core (joined_of j) new) → new ≡ stamped p.updates (joined_of j)
    is_stamped new p = told-stamped p.updates p.e p.after (joined_of j) new (in_step p.e p.has) p.leave p.told

    -- it rests
    rest-there : (j' : Joined) (y' : ServerSide) → PumpsUntil y.core (joined_of j) None y'.core (joined_of j') → server_of y' ≡ record (server_of y) { core = y'.core } → Happens w (Pump k) (world_of cs (slice_set ss j.server y') (slice_set ks k j') cl sl m)
    rest-there j' y' (p, rests, is) side =
        let core : Server = with_end j.at_server p.after y.core in
        let open_all : HasReported core = reported-changed y.core.circuits j.at_server p.after all in
        let mid : model.World = with_circuit k (stamped p.updates (joined_of j)) w in
        let over = after-none j.server (server_of y) core mid open_all in (
          there,
          record {
            updates = p.updates;
            core = core;
            pumps = inl (p.e, p.has, (p.after, p.leave, inl (rests, refl)));
            leaves =
                (λ t. record {
                  clients = map client_of cs;
                  servers = (set-map server_of ss j.server y' ∙ ap (slice_set (map server_of ss) j.server) (side ∙ (λ s. record (server_of y) { core = is s }))) t;
                  circuits = (set-map joined_of ks k j' ∙ ap (slice_set (map joined_of ks) k) (is_stamped (joined_of j') p)) t;
                  client_logs = cl;
                  server_logs = sl;
                  moment = m;
                })
                ∙ sym over;
          },
        )

    -- it ends
    over-there : (j' : Joined) (y' : ServerSide) (sl' : List (List Entry)) (left : List ℕ) (new : model.Joined) → PumpsUntil y.core (joined_of j) (Some left) y'.core new → joined_of j' ≡ server_closed left new
        → server_of y' ≡ record (server_of y) { core = y'.core; records = map (without_puts (λ n. n == k)) (map record_of y.records.items) } → sl' ≡ grown y.life (all_withdrawn k y.records.items) sl
        → Happens w (Pump k) (world_of cs (slice_set ss j.server y') (slice_set ks k j') cl sl' m)
    over-there j' y' sl' left new (p, more, left_is, is) closes side logs =
        let h : Handle = j.at_server in
        let core : Server = ended h why.OutOfMemory p.after.link.output y.core in
        let core_left : ended h why.OutOfMemory left y.core ≡ core = (λ t. ended h why.OutOfMemory (left_is t) y.core) in
        let d : model.Joined = stamped p.updates (joined_of j) in
        let kd : List model.Joined = slice_set (map joined_of ks) k d in
        let at_d : At kd k d = at-set (map joined_of ks) k (joined_of j) d at_k in
        let mine : d.server ≡ j.server = stamped-server p.updates (joined_of j) in
        let open_d : d.lists.server_open ≡ true = stamped-open p.updates (joined_of j) ∙ on in
        let handle : d.at_server ≡ h = stamped-handle p.updates (joined_of j) in
        let has_d : HasEnd y.core d.at_server p.e = subst (λ (z : Handle). HasEnd y.core z p.e) (sym handle) p.has in
        let one : (n : ℕ) (c : model.Joined) → At kd n c → c.server ≡ j.server → c.lists.server_open ≡ true → c.at_server ≡ d.at_server → n ≡ k = λ n c here its opened same.
        (elim (At-set (map joined_of ks) k d n c here) [
          | inl set ↦ set.0
          | inr old ↦ seated.one n k c (joined_of j) old.0 at_k its opened on (same ∙ handle)
        ]) in
        let ends0 = ends-this kd k j.server d y.core p.e why.OutOfMemory left at_d mine open_d has_d all one in
        let number0 = ends-number kd k j.server d y.core p.e why.OutOfMemory left at_d mine open_d has_d all one in
        let over_is : ended d.at_server why.OutOfMemory left y.core ≡ core = (λ t. ended (handle t) why.OutOfMemory (left_is t) y.core) in
        let ends : map (ending (ends_by j.server core)) kd ≡ slice_set kd k (server_closed left d) = (λ t. map (ending (ends_by j.server (sym over_is t))) kd) ∙ ends0 in
        let number : ends_at (ends_by j.server core) kd ≡ (λ (n : ℕ). n == k) = (λ t. ends_at (ends_by j.server (sym over_is t)) kd) ∙ number0 in
        let by_end : over_core h left y.core ≡ reported core = over-reports y.core h p.e why.OutOfMemory left p.has all ∙ ap reported core_left in
        let rs : List model.RecordSide = map record_of y.records.items in
        let side_is : server_of y' ≡ record (server_of y) { core = reported core; records = map (without_puts (ends_at (ends_by j.server core) kd)) rs } =
        side ∙ (λ t. record (server_of y) { core = (is ∙ by_end) t; records = map (without_puts (sym number t)) rs }) in
        let told : all_withdrawn k y.records.items ≡ withdrawals (ends_at (ends_by j.server core) kd) rs = sym (told-all k y.records.items) ∙ (λ t. withdrawals (sym number t) rs) in
        let circuits : map joined_of (slice_set ks k j') ≡ map (ending (ends_by j.server core)) kd =
        set-map joined_of ks k j' ∙ ap (slice_set (map joined_of ks) k) (closes ∙ ap (server_closed left) (is_stamped new p))
        ∙ sym (set-twice (map joined_of ks) k d (server_closed left d)) ∙ sym ends in (
          there,
          record {
            updates = p.updates;
            core = core;
            pumps = inl (p.e, p.has, (p.after, p.leave, inr (more, refl)));
            leaves = λ t. record {
              clients = map client_of cs;
              servers = (set-map server_of ss j.server y' ∙ ap (slice_set (map server_of ss) j.server) side_is) t;
              circuits = circuits t;
              client_logs = cl;
              server_logs = (logs ∙ (λ s. grown y.life (told s) sl)) t;
              moment = m;
            };
          },
        )

    -- there was no memory for a put that waits, or for an update that may leave
    lacks-there : (all_withdrawn k y.records.items ≢ []) ⊎ MayPump y.core (joined_of j) → HasWaiting k (server_of y) ⊎ MayPump y.core (joined_of j)
    lacks-there (inl some) = inl (λ none. some (sym (told-all k y.records.items) ∙ none))
    lacks-there (inr may) = inr may

    -- the same entries wait at the end and on the circuit
    pub waits-there : WaitsAlike y.core (joined_of j)
    waits-there e has = in-step-alike e.queues (joined_of j).queues (in_step e has)

    pub pump-there : (j' : Joined) (y' : ServerSide) (sl' : List (List Entry)) (r : Result (Unit {0}) Refusal) → PumpsServer k y j sl r y' j' sl' → Does w (Pump k) r (world_of cs (slice_set ss j.server y') (slice_set ks k j') cl sl' m)
    pump-there j' y' sl' (Ok u) (same, inl (until, side, logs)) =
        subst (λ (z : List (List Entry)). Happens w (Pump k) (world_of cs (slice_set ss j.server y') (slice_set ks k j') cl z m)) (sym logs) (rest-there j' y' until side)
    pump-there j' y' sl' (Ok u) (same, inr (left, new, until, closes, side, logs)) = over-there j' y' sl' left new until closes side logs
    pump-there j' y' sl' (Err OutOfMemory) d = (
      (there, lacks-there d.0),
      λ t. record {
        clients = map client_of cs;
        servers = (ap (λ (z : ServerSide). map server_of (slice_set ss j.server z)) d.1 ∙ ap (map server_of) (set-same ss j.server y server)) t;
        circuits = (set-map joined_of ks k j' ∙ ap (slice_set (map joined_of ks) k) d.2 ∙ set-same (map joined_of ks) k (joined_of j) at_k) t;
        client_logs = cl;
        server_logs = d.3 t;
        moment = m;
      },
    )
    pump-there j' y' sl' (Err _) d = absurd d

-- ---- by the ends that were found

module _ (cs : List ClientSide) (ss : List ServerSide) (ks : List Joined) (cl : List (List Line)) (sl : List (List Entry)) (m : ℕ) (k : ℕ) (e : Ends) (a : AreEnds (length cs) (length ss) ks k e) where
  pub pump-off : e.server_open ≡ false → CanBe (world_of cs ss ks cl sl m) (Pump k) → ⊥
  pump-off off = pump-ended cs ss ks cl sl m k a.j a.at (sym (ap (λ (z : Ends). z.server_open) a.is) ∙ off)

  pub pump-by : (j j' : Joined) (y y' : ServerSide) (sl' : List (List Entry)) (r : Result (Unit {0}) Refusal) → At ks k j → At ss e.server y → e.server_open ≡ true → IsReached (world_of cs ss ks cl sl m) → PumpsServer k y j sl r y' j' sl'
      → Does (world_of cs ss ks cl sl m) (Pump k) r (world_of cs (slice_set ss e.server y') (slice_set ks k j') cl sl' m)
  pump-by j j' y y' sl' r at server on reached d =
      let is_j : a.j ≡ j = At-one ks k a.j j a.at at in
      let is : e ≡ ends_of j = a.is ∙ ap ends_of is_j in
      let one = one-at cs a.j.client a.client in
      let client : At cs j.client one.0 = subst (λ (z : Joined). At cs z.client one.0) is_j one.1 in
      subst (λ (z : Ends). At ss z.server y → z.server_open ≡ true → Does (world_of cs ss ks cl sl m) (Pump k) r (world_of cs (slice_set ss z.server y') (slice_set ks k j') cl sl' m))
      (sym is)
      (λ server on. pump-there cs ss ks cl sl m k j one.0 y at client server on reached j' y' sl' r d)
      server
      on

  pub pump-alike : (j : Joined) (y : ServerSide) → At ks k j → At ss e.server y → e.server_open ≡ true → IsReached (world_of cs ss ks cl sl m) → WaitsAlike y.core (joined_of j)
  pump-alike j y at server on reached =
      let is_j : a.j ≡ j = At-one ks k a.j j a.at at in
      let is : e ≡ ends_of j = a.is ∙ ap ends_of is_j in
      let one = one-at cs a.j.client a.client in
      let client : At cs j.client one.0 = subst (λ (z : Joined). At cs z.client one.0) is_j one.1 in
      waits-there cs ss ks cl sl m k j one.0 y at client (subst (λ (z : Ends). At ss z.server y) is server) (subst (λ (z : Ends). z.server_open ≡ true) is on) reached

  -- what the call asks for
  pub pump-fits : (j : Joined) (y : ServerSide) → At ss e.server y → ServersFit (world_of cs ss ks cl sl m) → UpdatesFit y.core j.at_server
  pump-fits j y server fit us new pumps = (pumps-fits y.core j.at_server us new pumps (fit.cores e.server (server_of y) (At-map server_of ss e.server y server))).0

-- ---- what stays

pub pump-keeps : (k : ℕ) (y y' : ServerSide) (j j' : Joined) (sl sl' : List (List Entry)) (r : Result (Unit {0}) Refusal) → PumpsServer k y j sl r y' j' sl' → (y'.circuits.items ≡ y.circuits.items) × KeepsEnds (joined_of j) (joined_of j')
pump-keeps k y y' j j' sl sl' (Ok u) (same, inl ((p, rests, is), side, logs)) = (same, told-keep (shown_by p.updates) (joined_of j) (joined_of j') p.told)
pump-keeps k y y' j j' sl sl' (Ok u) (same, inr (left, new, (p, more, left_is, is), closes, side, logs)) =
    let n : KeepsEnds (joined_of j) new = told-keep (shown_by p.updates) (joined_of j) new p.told in (
      same,
      subst (λ (z : model.Joined). KeepsEnds (joined_of j) z) (sym closes)
          (record { client = n.client; server = n.server; at_client = n.at_client; at_server = n.at_server; closes = n.closes; stops = λ on. absurd cc }),
    )
pump-keeps k y y' j j' sl sl' (Err OutOfMemory) d = (ap (λ (z : ServerSide). z.circuits.items) d.1, ends-stay (joined_of j) (joined_of j') d.2)
pump-keeps k y y' j j' sl sl' (Err _) d = absurd d
