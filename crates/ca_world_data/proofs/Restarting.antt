-- Clients and servers begin again, from what their parts became.
use Rattle.std.proofs.Common.{◌≡◌, ℕ, ◌+◌, ◌==◌, ◌&&◌, Bool, true, false, List, [], ◌∷◌, ◌++◌, Result, Ok, Err, length, refl, sym, ap, subst, ◌∙◌}
use Rattle.std.specs.Prelude.{if◌then◌else◌, map, option_map, slice_set, unwrap_or, Vec, Some, None}
use Rattle.std.specs.declared.alloc.Global.{Global}
use Rattle.std.proofs.lemmas.Bool.{eq-eqb}
use Rattle.std.proofs.lemmas.List.{length-map, map-append}
use Rattle.ca_arena.specs.declared.handle.Handle.{Handle}
use Rattle.ca_ids.specs.Table.{under}
use Rattle.ca_text.specs.declared.refusal.Refusal.{Refusal}
use Rattle.ca_text.specs.declared.refusal.Refusal.TheVariants.{OutOfMemory}
use Rattle.ca_text.specs.Place.{At}
use Rattle.ca_text.proofs.Places.{At-map, At-mapped, At-set-other}
use Rattle.ca_model.specs.Client.{out_bytes}
use Rattle.ca_model.specs.Ends.{Address}
use Rattle.ca_model.specs.History.{Entry}
use Rattle.ca_model.specs.Server.{Server}
use Rattle.ca_model.specs.ServerSteps.{output_of}
use Rattle.ca_model.specs.ClientEvents.{client_closed, client_gone}
use Rattle.ca_model.specs.Events.{ClientRestart, ServerRestart}
use Rattle.ca_model.specs.ServerEvents.{ending, ends_untold, server_closed}
use Rattle.ca_model.specs.World.{addresses, client_begun, numbered, server_begun}
use Rattle.ca_model.specs.World as model
use Rattle.ca_world_data.specs.declared.client.ClientSide.{ClientSide}
use Rattle.ca_world_data.specs.declared.history.LogEntry as real
use Rattle.ca_world_data.specs.declared.history.Line as spoken
use Rattle.ca_world_data.specs.declared.joined.Joined.{Joined}
use Rattle.ca_world_data.specs.declared.server.ServerSide.{ServerSide}
use Rattle.ca_world_data.specs.Closing.{client_left, client_over, server_left, server_over, with_lefts}
use Rattle.ca_world_data.specs.Does.{Does}
use Rattle.ca_world_data.specs.Indexed.{AreIndexed, HasNumber, client_numbers, server_numbers}
use Rattle.ca_world_data.specs.Logs.{lines_in}
use Rattle.ca_world_data.specs.Opening.{entries_in}
use Rattle.ca_world_data.specs.Restarts.{RestartsClient, RestartsServer, address_of}
use Rattle.ca_world_data.specs.Seen.{client_of, entry_of, joined_of, line_of, server_of}
use Rattle.ca_world_data.proofs.Closings.{asked-there, lefts-each}
use Rattle.ca_world_data.proofs.Indexes.{indexed-same}
use Rattle.ca_world_data.proofs.Worlds.{set-map, set-same, world_of}

-- ---- logs

pub lines-more : (logs mid new : List (Vec spoken.Line Global)) (log : Vec spoken.Line Global) → mid ≡ logs → new ≡ mid ++ log ∷ [] → log.items ≡ [] → lines_in new ≡ lines_in logs ++ [] ∷ []
lines-more logs mid new log same is none =
    ap lines_in (is ∙ ap (λ (l : List (Vec spoken.Line Global)). l ++ log ∷ []) same) ∙ map-append (λ (l : Vec spoken.Line Global). map line_of l.items) logs (log ∷ [])
    ∙ ap (λ (l : List spoken.Line). lines_in logs ++ map line_of l ∷ []) none

pub entries-more : (logs mid new : List (Vec real.LogEntry Global)) (log : Vec real.LogEntry Global) (begun : List Entry) → mid ≡ logs → new ≡ mid ++ log ∷ [] → map entry_of log.items ≡ begun → entries_in new ≡ entries_in logs ++ begun ∷ []
entries-more logs mid new log begun same is so =
    ap entries_in (is ∙ ap (λ (l : List (Vec real.LogEntry Global)). l ++ log ∷ []) same) ∙ map-append (λ (l : Vec real.LogEntry Global). map entry_of l.items) logs (log ∷ [])
    ∙ ap (λ (l : List Entry). entries_in logs ++ l ∷ []) so

-- ---- circuits

-- each circuit of the client, by what it leaves
clients-gone : (i : ℕ) (x : model.ClientSide) (ks : List Joined)
    → with_lefts (client_over i) (map joined_of ks) (map (λ (j : Joined). client_left i x.core (joined_of j)) ks) ≡ map (client_gone i x) (map joined_of ks)
clients-gone i x ks = lefts-each (client_over i) (λ (j : Joined). client_left i x.core (joined_of j)) (client_gone i x) ks (λ (j : Joined).
    asked-there (j.client == i && j.lists.client_open) (λ (left : List ℕ). client_closed left (joined_of j)) (out_bytes x.core j.at_client) [] (joined_of j))

-- a circuit that ends, or not
ending-so : (b : Bool) (left : List ℕ) (j : model.Joined) → (if b then server_closed left j else j) ≡ unwrap_or (option_map (λ (l : List ℕ). server_closed l j) (if b then Some left else None)) j
ending-so true left j = refl
ending-so false left j = refl

-- each circuit of the server, by what it leaves
servers-gone : (i : ℕ) (core : Server) (ks : List Joined)
    → with_lefts (server_over i) (map joined_of ks) (map (λ (j : Joined). server_left i core (joined_of j)) ks) ≡ map (ending (ends_untold i core)) (map joined_of ks)
servers-gone i core ks = lefts-each (server_over i) (λ (j : Joined). server_left i core (joined_of j)) (ending (ends_untold i core)) ks (λ (j : Joined).
    asked-there (j.server == i && j.lists.server_open) (λ (left : List ℕ). server_closed left (joined_of j)) (output_of (under core.circuits j.at_server)) [] (joined_of j)
    ∙ ending-so (j.server == i && j.lists.server_open) (output_of (under core.circuits j.at_server)) (joined_of j))

-- ---- what stays

-- a circuit that is open at a client is another's, and as it was
open-other : (mine on : Bool) (left : List ℕ) (j : model.Joined) → j.lists.client_open ≡ on → (if mine && on then client_closed left j else j).lists.client_open ≡ true
    → (mine ≡ false) × (j.lists.client_open ≡ true) × ((if mine && on then client_closed left j else j) ≡ j)
open-other true true left j is opened = absurd cc
open-other true false left j is opened = absurd cc
open-other false on left j is opened = (refl, opened, refl)

-- what a circuit joins stays, and its end at the server
at-server-same : (b : Bool) (left : List ℕ) (j : model.Joined) → let new : model.Joined = (if b then client_closed left j else j) in (new.server ≡ j.server) × (new.at_server ≡ j.at_server) × (new.lists.server_open ≡ j.lists.server_open)
at-server-same true left j = (refl, refl, refl)
at-server-same false left j = (refl, refl, refl)

not-equal : (a b : ℕ) → (a == b) ≡ false → a ≡ b → ⊥
not-equal a b off is = (let on : (a == b) ≡ true = eq-eqb a b is in cc)

pub indexed-client : (cs ss : List (List ℕ)) (ks : List model.Joined) (i : ℕ) (x : model.ClientSide) (own : List ℕ) → AreIndexed cs ss ks → AreIndexed (slice_set cs i own) ss (map (client_gone i x) ks)
indexed-client cs ss ks i x own h = record { clients = clients; servers = servers }
  where
    clients : (k : ℕ) (new : model.Joined) → At (map (client_gone i x) ks) k new → new.lists.client_open ≡ true → HasNumber (slice_set cs i own) new.client new.at_client k
    clients k new there on =
        let d = At-mapped (client_gone i x) ks k new there in
        let j : model.Joined = d.0 in
        let other = open-other (j.client == i) j.lists.client_open (out_bytes x.core j.at_client) j refl (subst (λ (z : model.Joined). z.lists.client_open ≡ true) d.2 on) in
        let n : HasNumber cs j.client j.at_client k = h.clients k j d.1 other.1 in
        let is : new ≡ j = d.2 ∙ other.2 in
        subst (λ (z : model.Joined). HasNumber (slice_set cs i own) z.client z.at_client k) (sym is)
        (record { own = n.own; side = At-set-other cs i j.client n.own own n.side (not-equal j.client i other.0); number = n.number })

    servers : (k : ℕ) (new : model.Joined) → At (map (client_gone i x) ks) k new → new.lists.server_open ≡ true → HasNumber ss new.server new.at_server k
    servers k new there on =
        let d = At-mapped (client_gone i x) ks k new there in
        let j : model.Joined = d.0 in
        let same = at-server-same (j.client == i && j.lists.client_open) (out_bytes x.core j.at_client) j in
        let on_there : (client_gone i x j).lists.server_open ≡ true = subst (λ (z : model.Joined). z.lists.server_open ≡ true) d.2 on in
        let n : HasNumber ss j.server j.at_server k = h.servers k j d.1 (sym same.2 ∙ on_there) in
        subst (λ (z : model.Joined). HasNumber ss z.server z.at_server k) (sym d.2)
        (subst (λ (z : ℕ × Handle). HasNumber ss z.0 z.1 k) (λ t. (sym same.0 t, sym same.1 t)) n)

-- the same of a server
serving-other : (mine on : Bool) (left : List ℕ) (j : model.Joined) → j.lists.server_open ≡ on → let new : model.Joined = unwrap_or (option_map (λ (l : List ℕ). server_closed l j) (if mine && on then Some left else None)) j in
    new.lists.server_open ≡ true → (mine ≡ false) × (j.lists.server_open ≡ true) × (new ≡ j)
serving-other true true left j is opened = absurd cc
serving-other true false left j is opened = absurd cc
serving-other false on left j is opened = (refl, opened, refl)

at-client-same : (b : Bool) (left : List ℕ) (j : model.Joined) → let new : model.Joined = unwrap_or (option_map (λ (l : List ℕ). server_closed l j) (if b then Some left else None)) j in
    (new.client ≡ j.client) × (new.at_client ≡ j.at_client) × (new.lists.client_open ≡ j.lists.client_open)
at-client-same true left j = (refl, refl, refl)
at-client-same false left j = (refl, refl, refl)

pub indexed-server : (cs ss : List (List ℕ)) (ks : List model.Joined) (i : ℕ) (core : Server) (own : List ℕ) → AreIndexed cs ss ks → AreIndexed cs (slice_set ss i own) (map (ending (ends_untold i core)) ks)
indexed-server cs ss ks i core own h = record { clients = clients; servers = servers }
  where
    clients : (k : ℕ) (new : model.Joined) → At (map (ending (ends_untold i core)) ks) k new → new.lists.client_open ≡ true → HasNumber cs new.client new.at_client k
    clients k new there on =
        let d = At-mapped (ending (ends_untold i core)) ks k new there in
        let j : model.Joined = d.0 in
        let same = at-client-same (j.server == i && j.lists.server_open) (output_of (under core.circuits j.at_server)) j in
        let on_there : (ending (ends_untold i core) j).lists.client_open ≡ true = subst (λ (z : model.Joined). z.lists.client_open ≡ true) d.2 on in
        let n : HasNumber cs j.client j.at_client k = h.clients k j d.1 (sym same.2 ∙ on_there) in
        subst (λ (z : model.Joined). HasNumber cs z.client z.at_client k) (sym d.2)
        (subst (λ (z : ℕ × Handle). HasNumber cs z.0 z.1 k) (λ t. (sym same.0 t, sym same.1 t)) n)

    servers : (k : ℕ) (new : model.Joined) → At (map (ending (ends_untold i core)) ks) k new → new.lists.server_open ≡ true → HasNumber (slice_set ss i own) new.server new.at_server k
    servers k new there on =
        let d = At-mapped (ending (ends_untold i core)) ks k new there in
        let j : model.Joined = d.0 in
        let other = serving-other (j.server == i) j.lists.server_open (output_of (under core.circuits j.at_server)) j refl (subst (λ (z : model.Joined). z.lists.server_open ≡ true) d.2 on) in
        let n : HasNumber ss j.server j.at_server k = h.servers k j d.1 other.1 in
        let is : new ≡ j = d.2 ∙ other.2 in
        subst (λ (z : model.Joined). HasNumber (slice_set ss i own) z.server z.at_server k) (sym is)
        (record { own = n.own; side = At-set-other ss i j.server n.own own n.side (not-equal j.server i other.0); number = n.number })

-- ---- a world after it

addresses-there : (ss : List ServerSide) → map address_of ss ≡ addresses (map (λ (y : model.ServerSide). y.setting) (map server_of ss))
addresses-there [] = refl
addresses-there (y ∷ ss) = ap (λ (t : List Address). y.setting.address ∷ t) (addresses-there ss)

settings-begun : (n : ℕ) (settings : List model.ServerSetting) → map (λ (y : model.ServerSide). y.setting) (numbered n (server_begun 0) settings) ≡ settings
settings-begun n [] = refl
settings-begun n (s ∷ settings) = ap (λ (t : List model.ServerSetting). s ∷ t) (settings-begun (n + 1) settings)

pub addresses-begun : (settings : List model.ServerSetting) (ss : List ServerSide) → map server_of ss ≡ numbered 0 (server_begun 0) settings → map address_of ss ≡ addresses settings
addresses-begun settings ss is = addresses-there ss ∙ ap addresses (ap (map (λ (y : model.ServerSide). y.setting)) is ∙ settings-begun 0 settings)

module _ (cs : List ClientSide) (ss : List ServerSide) (ks : List Joined) (cl : List (Vec spoken.Line Global)) (sl : List (Vec real.LogEntry Global)) (m : ℕ) where
  pub client-restarts : (i : ℕ) (x x' : ClientSide) (servers : List Address) (cl' : List (Vec spoken.Line Global)) (ks' : List Joined) (r : Result (Unit {0}) Refusal) → At cs i x → servers ≡ map address_of ss → RestartsClient servers m i x cl ks r x' cl' ks'
      → Does (world_of cs ss ks (lines_in cl) (entries_in sl) m) (ClientRestart i) r (world_of (slice_set cs i x') ss ks' (lines_in cl') (entries_in sl) m)
  client-restarts i x x' servers cl' ks' (Ok u) at known d =
      let begun : client_of x' ≡ client_begun (addresses (map (λ (y : model.ServerSide). y.setting) (map server_of ss))) m (length (lines_in cl)) x.setting =
      d.0 ∙ (λ t. client_begun ((known ∙ addresses-there ss) t) m (sym (length-map cl (λ (log : Vec spoken.Line Global). map line_of log.items)) t) x.setting) in (
        record { x = client_of x; at = At-map client_of cs i x at },
        (λ t. record {
          clients = (set-map client_of cs i x' ∙ ap (slice_set (map client_of cs) i) begun) t;
          servers = map server_of ss;
          circuits = (d.3 ∙ clients-gone i (client_of x) ks) t;
          client_logs = d.2 t;
          server_logs = entries_in sl;
          moment = m;
        }),
      )
  client-restarts i x x' servers cl' ks' (Err OutOfMemory) at known d =
      (record { x = client_of x; at = At-map client_of cs i x at }, (λ t. world_of (slice_set cs i (d.0 t)) ss (d.2 t) (d.1 t) (entries_in sl) m) ∙ (λ t. world_of (set-same cs i x at t) ss ks (lines_in cl) (entries_in sl) m))
  client-restarts i x x' servers cl' ks' (Err _) at known d = absurd d

  pub server-restarts : (i : ℕ) (y y' : ServerSide) (sl' : List (Vec real.LogEntry Global)) (ks' : List Joined) (r : Result (Unit {0}) Refusal) → At ss i y → RestartsServer m i y sl ks r y' sl' ks'
      → Does (world_of cs ss ks (lines_in cl) (entries_in sl) m) (ServerRestart i) r (world_of cs (slice_set ss i y') ks' (lines_in cl) (entries_in sl') m)
  server-restarts i y y' sl' ks' (Ok u) at d =
      let begun : server_of y' ≡ server_begun m (length (entries_in sl)) y.setting =
      d.0 ∙ (λ t. server_begun m (sym (length-map sl (λ (log : Vec real.LogEntry Global). map entry_of log.items)) t) y.setting) in (
        record { y = server_of y; at = At-map server_of ss i y at },
        (λ t. record {
          clients = map client_of cs;
          servers = (set-map server_of ss i y' ∙ ap (slice_set (map server_of ss) i) begun) t;
          circuits = (d.3 ∙ servers-gone i y.core ks) t;
          client_logs = lines_in cl;
          server_logs = d.2 t;
          moment = m;
        }),
      )
  server-restarts i y y' sl' ks' (Err OutOfMemory) at d =
      (record { y = server_of y; at = At-map server_of ss i y at }, (λ t. world_of cs (slice_set ss i (d.0 t)) (d.2 t) (lines_in cl) (d.1 t) m) ∙ (λ t. world_of cs (set-same ss i y at t) ks (lines_in cl) (entries_in sl) m))
  server-restarts i y y' sl' ks' (Err _) at d = absurd d

-- ---- how circuits are found after it

pub client-indexed : (cs : List ClientSide) (ss : List (List ℕ)) (ks ks' : List Joined) (cl cl' : List (Vec spoken.Line Global)) (servers : List Address) (m i : ℕ) (x x' : ClientSide) (r : Result (Unit {0}) Refusal) → At cs i x → RestartsClient servers m i x cl ks r x' cl' ks' → AreIndexed (client_numbers cs) ss (map joined_of ks)
    → AreIndexed (client_numbers (slice_set cs i x')) ss (map joined_of ks')
client-indexed cs ss ks ks' cl cl' servers m i x x' (Ok u) at d h =
    indexed-same (slice_set (client_numbers cs) i []) (client_numbers (slice_set cs i x')) ss ss (map (client_gone i (client_of x)) (map joined_of ks)) (map joined_of ks')
    (set-map (λ (z : ClientSide). z.circuits.items) cs i x' ∙ ap (slice_set (client_numbers cs) i) d.1)
    refl
    (d.3 ∙ clients-gone i (client_of x) ks)
    (indexed-client (client_numbers cs) ss (map joined_of ks) i (client_of x) [] h)
client-indexed cs ss ks ks' cl cl' servers m i x x' (Err OutOfMemory) at d h =
    indexed-same (client_numbers cs) (client_numbers (slice_set cs i x')) ss ss (map joined_of ks) (map joined_of ks')
    (ap (λ (z : ClientSide). client_numbers (slice_set cs i z)) d.0 ∙ ap client_numbers (set-same cs i x at))
    refl
    (ap (map joined_of) d.2)
    h
client-indexed cs ss ks ks' cl cl' servers m i x x' (Err _) at d h = absurd d

pub server-indexed : (cs : List (List ℕ)) (ss : List ServerSide) (ks ks' : List Joined) (sl sl' : List (Vec real.LogEntry Global)) (m i : ℕ) (y y' : ServerSide) (r : Result (Unit {0}) Refusal) → At ss i y → RestartsServer m i y sl ks r y' sl' ks' → AreIndexed cs (server_numbers ss) (map joined_of ks)
    → AreIndexed cs (server_numbers (slice_set ss i y')) (map joined_of ks')
server-indexed cs ss ks ks' sl sl' m i y y' (Ok u) at d h =
    indexed-same cs cs (slice_set (server_numbers ss) i []) (server_numbers (slice_set ss i y')) (map (ending (ends_untold i y.core)) (map joined_of ks)) (map joined_of ks')
    refl
    (set-map (λ (z : ServerSide). z.circuits.items) ss i y' ∙ ap (slice_set (server_numbers ss) i) d.1)
    (d.3 ∙ servers-gone i y.core ks)
    (indexed-server cs (server_numbers ss) (map joined_of ks) i y.core [] h)
server-indexed cs ss ks ks' sl sl' m i y y' (Err OutOfMemory) at d h =
    indexed-same cs cs (server_numbers ss) (server_numbers (slice_set ss i y')) (map joined_of ks) (map joined_of ks')
    refl
    (ap (λ (z : ServerSide). server_numbers (slice_set ss i z)) d.0 ∙ ap server_numbers (set-same ss i y at))
    (ap (map joined_of) d.2)
    h
server-indexed cs ss ks ks' sl sl' m i y y' (Err _) at d h = absurd d
