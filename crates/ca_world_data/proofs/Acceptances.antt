-- A circuit is accepted, step by step.
use Rattle.std.proofs.Common.{◌≡◌, ℕ, inl, List, [], ◌∷◌, ◌++◌, Option, Some, None, Ok, length, sym, ap, subst, ◌∙◌}
use Rattle.std.specs.Prelude.{map, slice_set, Vec}
use Rattle.std.specs.declared.alloc.Global.{Global}
use Rattle.ca_arena.specs.declared.handle.Handle.{Handle}
use Rattle.ca_client_core.specs.ForAccepts.{connecting_sent, sent_once_connected}
use Rattle.ca_model.specs.Answers.{Sending}
use Rattle.ca_model.specs.Client.{Client, ClientCircuit}
use Rattle.ca_model.specs.ClientEnds.{ClientConnects, ConnectsOn, unconnected}
use Rattle.ca_model.specs.History.{Sent}
use Rattle.ca_model.specs.History as history
use Rattle.ca_model.specs.Server.{Server}
use Rattle.ca_model.specs.ServerSteps.{Accepts}
use Rattle.ca_model.specs.World as model
use Rattle.ca_world_data.specs.declared.client.ClientSide.{ClientSide}
use Rattle.ca_world_data.specs.declared.history.Line.{Line}
use Rattle.ca_world_data.specs.declared.joined.Joined.{Joined}
use Rattle.ca_world_data.specs.declared.server.ServerSide.{ServerSide}
use Rattle.ca_world_data.specs.Accepting.{AcceptsOn, ConnectsSide, Extends, GainsNumber, StaysAs, begun_circuit}
use Rattle.ca_world_data.specs.Logs.{lines_in}
use Rattle.ca_world_data.specs.Seen.{client_of, joined_of, server_of}
use Rattle.ca_world_data.specs.Speaking.{stamped}
use Rattle.ca_world_data.proofs.Silences.{grown-nil}

-- ---- the client connects

-- what it sends, if it goes on
connects-sent : (x new : Client) (c : Handle) (sent : List Sending) → ClientConnects x c None sent new → sent ≡ connecting_sent x c
connects-sent x new c sent connects = go (unconnected x c) connects
  where
    go : (o : Option ClientCircuit) → ConnectsOn x c o None sent new → sent ≡ sent_once_connected x c o
    go None does = absurd does
    go (Some d) does = does.0

-- the end goes on
pub connects-open : (x x' : model.ClientSide) (logs : List (List history.Line)) (j j' : model.Joined) (up : List Sent) (sent : List Sending) → ClientConnects x.core j.at_client None sent x'.core → x' ≡ record x { core = x'.core }
    → up ≡ map (stamped x.names) (connecting_sent x.core j.at_client) → j.lists.up ≡ [] → j' ≡ record j { lists = record j.lists { up = up } } → ConnectsSide x logs j x' logs j'
connects-open x x' logs j j' up sent connects side first none is = record {
  k = None;
  sent = sent;
  connects = connects;
  side = side;
  logged = sym (grown-nil x.life logs);
  circuit =
      is
      ∙ ap (λ (u : List Sent). record j { lists = record j.lists { up = u } }) (first ∙ ap (map (stamped x.names)) (sym (connects-sent x.core x'.core j.at_client sent connects)))
      ∙ ap (λ (u : List Sent). record j { lists = record j.lists { up = u ++ map (stamped x.names) sent } }) (sym none);
}

-- ---- the server accepts

module _ (i s : ℕ) (c : Handle) (x mid : ClientSide) (y there : ServerSide) (ks ks1 : List Joined) (logs logs1 : List (Vec Line Global)) (stays : StaysAs x y ks logs mid there ks1 logs1) where
  same-core : there.core ≡ y.core
  same-core = ap (λ (z : model.ServerSide). z.core) stays.server

  -- it accepted
  pub accepted-so : (h : Handle) (begun j : Joined) (after x' : ClientSide) (y' : ServerSide) (ks' : List Joined) (logs' : List (Vec Line Global)) (u : Unit {0}) → Accepts there.core (Ok h) y'.core → joined_of begun ≡ begun_circuit i mid.life c s there.life h
      → ConnectsSide (client_of mid) (lines_in logs1) (joined_of begun) (client_of after) (lines_in logs') (joined_of j) → client_of x' ≡ client_of after → server_of y' ≡ record (server_of there) { core = y'.core } → ks' ≡ ks1 ++ j ∷ []
      → GainsNumber mid.circuits.items c.index (length ks1) x'.circuits.items → GainsNumber there.circuits.items h.index (length ks1) y'.circuits.items → AcceptsOn i s c x y ks logs (Ok u) x' y' ks' logs'
  accepted-so h begun j after x' y' ks' logs' u accepts is connects client server circuits at_client at_server =
      let count : length ks1 ≡ length ks = ap (λ (z : List Joined). length z) stays.circuits in
      let new : joined_of begun ≡ begun_circuit i x.life c s y.life h =
      is ∙ (λ t. begun_circuit i (stays.client t).life c s (stays.server t).life h) in
      inl (record {
        h = h;
        accepts = subst (λ (z : Server). Accepts z (Ok h) y'.core) same-core accepts;
        j = j;
        connects =
            subst (λ (z : model.ClientSide × (List (List history.Line) × (model.Joined × model.ClientSide))). ConnectsSide z.0 z.1.0 z.1.1.0 z.1.1.1 (lines_in logs') (joined_of j))
            (λ t. (stays.client t, (stays.lines t, (new t, sym client t)))) connects;
        server = server ∙ ap (λ (z : model.ServerSide). record z { core = y'.core }) stays.server;
        circuits = circuits ∙ ap (λ (z : List Joined). z ++ j ∷ []) stays.circuits;
        at_client = gains-back x.circuits.items mid.circuits.items c.index x'.circuits.items stays.at_client count at_client;
        at_server = gains-back y.circuits.items there.circuits.items h.index y'.circuits.items stays.at_server count at_server;
      })
    where
      gains-back : (old now : List ℕ) (index : ℕ) (new : List ℕ) → Extends old now → length ks1 ≡ length ks → GainsNumber now index (length ks1) new → GainsNumber old index (length ks) new
      gains-back old now index new more count g = record {
        mid = g.mid;
        extends = λ l n at. g.extends l n (more l n at);
        within = g.within;
        is = g.is ∙ ap (slice_set g.mid index) count;
      }
