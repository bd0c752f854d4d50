-- A server's end of a circuit is cut, from what its parts became.
use Rattle.std.proofs.Common.{◌≡◌, ℕ, inl, true, false, not, List, Result, Ok, Err, length, refl, sym, ap, subst, ◌∙◌}
use Rattle.std.specs.Prelude.{if◌then◌else◌, map, slice_set}
use Rattle.ca_ids.specs.Table.{under}
use Rattle.ca_text.specs.declared.refusal.Refusal.{Refusal}
use Rattle.ca_text.specs.declared.refusal.Refusal.TheVariants.{OutOfMemory}
use Rattle.ca_text.specs.Place.{At}
use Rattle.ca_text.proofs.Places.{At-map, At-one}
use Rattle.ca_model.specs.Ends as why
use Rattle.ca_model.specs.History.{Entry, Line}
use Rattle.ca_model.specs.Server.{Server, ServerEnd}
use Rattle.ca_model.specs.ServerSteps.{HasEnd, ended, output_of}
use Rattle.ca_model.specs.Events.{CutServer}
use Rattle.ca_model.specs.Runs.{CanBe, HasServerEnd}
use Rattle.ca_model.specs.ServerEvents.{ends_at, ends_by, reported, withdrawals, without_puts}
use Rattle.ca_model.specs.World.{Setting, grown, opening}
use Rattle.ca_model.specs.World as model
use Rattle.ca_laws_parts.proofs.BytesRuns.{events-stand, opening-stands}
use Rattle.ca_laws_parts.specs.Runs as bytes
use Rattle.ca_laws_parts.specs.Seats.{HasSeat, Seated}
use Rattle.ca_world_data.specs.declared.client.ClientSide.{ClientSide}
use Rattle.ca_world_data.specs.declared.ends.Ends.{Ends}
use Rattle.ca_world_data.specs.declared.joined.Joined.{Joined}
use Rattle.ca_world_data.specs.declared.server.ServerSide.{ServerSide}
use Rattle.ca_world_data.specs.Does.{Does}
use Rattle.ca_world_data.specs.Ends.{AreEnds, NoEnds, ends_of}
use Rattle.ca_world.specs.Whole.{IsReached}
use Rattle.ca_world.specs.Reported.{HasReported}
use Rattle.ca_world_data.specs.Seen.{client_of, joined_of, record_of, server_of}
use Rattle.ca_world_data.specs.ServerCuts.{CutsServer, IsServing}
use Rattle.ca_world_data.specs.Withdrawing.{all_withdrawn}
use Rattle.ca_world.proofs.Endings.{ends-number, ends-this, over-reports}
use Rattle.ca_world_data.proofs.Indexes.{KeepsEnds, ends-stay}
use Rattle.ca_world.proofs.Counted.{run-reported}
use Rattle.ca_world_data.proofs.Withdrawals.{told-all}
use Rattle.ca_world_data.proofs.Worlds.{joins, none-joined, one-at, same-circuit, set-map, set-same, world_of}

-- ---- a core

-- ---- what holds in every run

pub run-stands : (w : model.World) → IsReached w → (s : Setting) × bytes.Stands s w
run-stands w (s, es, ok, folds) = (s, events-stand s es (opening s) w ok folds (opening-stands s ok))

-- the end that is open serves
pub serves-there : (w : model.World) (k : ℕ) (j : model.Joined) (y : model.ServerSide) → IsReached w → At w.circuits k j → At w.servers j.server y → j.lists.server_open ≡ true → IsServing y.core j.at_server
serves-there w k j y reached at server on =
    let seat : HasSeat w j = (run-stands w reached).1.sound.seated.each k j at on in
    let is : seat.y ≡ y = At-one w.servers j.server seat.y y seat.at server in
    (seat.e, subst (λ (z : model.ServerSide). HasEnd z.core j.at_server seat.e) is seat.has)

-- ---- a world after it

module _ (cs : List ClientSide) (ss : List ServerSide) (ks : List Joined) (cl : List (List Line)) (sl : List (List Entry)) (m : ℕ) where
  -- no circuit
  pub cut-none : (k : ℕ) → NoEnds (length cs) (length ss) ks k → CanBe (world_of cs ss ks cl sl m) (CutServer k) → ⊥
  cut-none k none can = none-joined cs ss ks cl sl m k none can.j can.x can.y can.joins

  -- its end at the server is not open
  pub cut-ended : (k : ℕ) (j : Joined) → At ks k j → j.lists.server_open ≡ false → CanBe (world_of cs ss ks cl sl m) (CutServer k) → ⊥
  cut-ended k j at ended can =
      let is = same-circuit cs ss ks cl sl m k j at can.j can.joins.at in
      let on : j.lists.server_open ≡ true = sym (ap (λ (z : model.Joined). z.lists.server_open) is) ∙ can.is_open in
      cc

  module _ (k : ℕ) (j : Joined) (x : ClientSide) (y : ServerSide) (at : At ks k j) (client : At cs j.client x) (server : At ss j.server y) (on : j.lists.server_open ≡ true) (reached : IsReached (world_of cs ss ks cl sl m)) where
    abbrev there : HasServerEnd (world_of cs ss ks cl sl m) k
    there = record { j = joined_of j; x = client_of x; y = server_of y; joins = joins cs ss ks cl sl m k j x y at client server; is_open = on }

    pub cut-there : (j' : Joined) (y' : ServerSide) (sl' : List (List Entry)) (r : Result (Unit {0}) Refusal) → CutsServer k y j sl r y' j' sl' → Does (world_of cs ss ks cl sl m) (CutServer k) r (world_of cs (slice_set ss j.server y') (slice_set ks k j') cl sl' m)
    cut-there j' y' sl' (Ok u) d =
        let w : model.World = world_of cs ss ks cl sl m in
        let at_k : At (map joined_of ks) k (joined_of j) = At-map joined_of ks k j at in
        let at_i : At (map server_of ss) j.server (server_of y) = At-map server_of ss j.server y server in
        let serving = serves-there w k (joined_of j) (server_of y) reached at_k at_i on in
        let e : ServerEnd = serving.0 in
        let has : HasEnd y.core j.at_server e = serving.1 in
        let all : HasReported y.core = run-reported w reached j.server (server_of y) at_i in
        let seated : Seated w = (run-stands w reached).1.sound.seated in
        let one : (n : ℕ) (c : model.Joined) → At (map joined_of ks) n c → c.server ≡ j.server → c.lists.server_open ≡ true → c.at_server ≡ j.at_server → n ≡ k = λ n c there mine opened same. seated.one n k c (joined_of j) there at_k mine opened on same in
        let left : List ℕ = output_of (under y.core.circuits j.at_server) in
        let core : Server = ended j.at_server why.Cut left y.core in
        let ends = ends-this (map joined_of ks) k j.server (joined_of j) y.core e why.Cut left at_k refl on has all one in
        let number = ends-number (map joined_of ks) k j.server (joined_of j) y.core e why.Cut left at_k refl on has all one in
        let by_end = over-reports y.core j.at_server e why.Cut left has all in
        let out : output_of (under y.core.circuits j.at_server) ≡ e.link.output = ap output_of has in
        let core_is : core ≡ ended j.at_server why.Cut e.link.output y.core = (λ t. ended j.at_server why.Cut (out t) y.core) in
        let rs : List model.RecordSide = map record_of y.records.items in
        let side : server_of y' ≡ record (server_of y) { core = reported core; records = map (without_puts (ends_at (ends_by j.server core) (map joined_of ks))) rs } =
        d.0 ∙ (λ t. record (server_of y) { core = by_end t; records = map (without_puts (sym number t)) rs }) in
        let told : all_withdrawn k y.records.items ≡ withdrawals (ends_at (ends_by j.server core) (map joined_of ks)) rs = sym (told-all k y.records.items) ∙ (λ t. withdrawals (sym number t) rs) in (
          there,
          record {
            core = core;
            cuts = inl (e, has, core_is);
            leaves = λ t. record {
              clients = map client_of cs;
              servers = (set-map server_of ss j.server y' ∙ ap (slice_set (map server_of ss) j.server) side) t;
              circuits = (set-map joined_of ks k j' ∙ ap (slice_set (map joined_of ks) k) d.2 ∙ sym ends) t;
              client_logs = cl;
              server_logs = (d.3 ∙ (λ s. grown y.life (told s) sl)) t;
              moment = m;
            };
          },
        )
    cut-there j' y' sl' (Err OutOfMemory) d =
        ((there, λ none. d.0 (sym (told-all k y.records.items) ∙ none)), (λ t. world_of cs (slice_set ss j.server (d.1 t)) (slice_set ks k (d.2 t)) cl (d.3 t) m) ∙ (λ t. world_of cs (set-same ss j.server y server t) (set-same ks k j at t) cl sl m))
    cut-there j' y' sl' (Err _) d = absurd d

-- ---- by the ends that were found

module _ (cs : List ClientSide) (ss : List ServerSide) (ks : List Joined) (cl : List (List Line)) (sl : List (List Entry)) (m : ℕ) (k : ℕ) (e : Ends) (a : AreEnds (length cs) (length ss) ks k e) where
  pub cut-off : e.server_open ≡ false → CanBe (world_of cs ss ks cl sl m) (CutServer k) → ⊥
  cut-off off = cut-ended cs ss ks cl sl m k a.j a.at (sym (ap (λ (z : Ends). z.server_open) a.is) ∙ off)

  -- what the call asks for
  pub cut-serves : (j : Joined) (y : ServerSide) → At ks k j → At ss e.server y → e.server_open ≡ true → IsReached (world_of cs ss ks cl sl m) → IsServing y.core j.at_server
  cut-serves j y at server on reached =
      let is_j : a.j ≡ j = At-one ks k a.j j a.at at in
      let is : e ≡ ends_of j = a.is ∙ ap ends_of is_j in
      serves-there (world_of cs ss ks cl sl m) k (joined_of j) (server_of y) reached (At-map joined_of ks k j at)
      (At-map server_of ss j.server y (subst (λ (z : Ends). At ss z.server y) is server))
      (sym (ap (λ (z : Ends). z.server_open) is) ∙ on)

  pub cut-by : (j j' : Joined) (y y' : ServerSide) (sl' : List (List Entry)) (r : Result (Unit {0}) Refusal) → At ks k j → At ss e.server y → e.server_open ≡ true → IsReached (world_of cs ss ks cl sl m) → CutsServer k y j sl r y' j' sl'
      → Does (world_of cs ss ks cl sl m) (CutServer k) r (world_of cs (slice_set ss e.server y') (slice_set ks k j') cl sl' m)
  cut-by j j' y y' sl' r at server on reached d =
      let is_j : a.j ≡ j = At-one ks k a.j j a.at at in
      let is : e ≡ ends_of j = a.is ∙ ap ends_of is_j in
      let one = one-at cs a.j.client a.client in
      let client : At cs j.client one.0 = subst (λ (z : Joined). At cs z.client one.0) is_j one.1 in
      subst (λ (z : Ends). At ss z.server y → z.server_open ≡ true → Does (world_of cs ss ks cl sl m) (CutServer k) r (world_of cs (slice_set ss z.server y') (slice_set ks k j') cl sl' m))
      (sym is)
      (λ server on. cut-there cs ss ks cl sl m k j one.0 y at client server on reached j' y' sl' r d)
      server
      on

-- ---- what stays

pub cut-keeps : (k : ℕ) (y y' : ServerSide) (j j' : Joined) (sl sl' : List (List Entry)) (r : Result (Unit {0}) Refusal) → CutsServer k y j sl r y' j' sl' → (y'.circuits.items ≡ y.circuits.items) × KeepsEnds (joined_of j) (joined_of j')
cut-keeps k y y' j j' sl sl' (Ok u) d = (
  d.1,
  subst (λ (z : model.Joined). KeepsEnds (joined_of j) z) (sym d.2)
      (record { client = refl; server = refl; at_client = refl; at_server = refl; closes = λ on. on; stops = λ on. absurd cc }),
)
cut-keeps k y y' j j' sl sl' (Err OutOfMemory) d = (ap (λ (z : ServerSide). z.circuits.items) d.1, ends-stay (joined_of j) (joined_of j') (ap joined_of d.2))
cut-keeps k y y' j j' sl sl' (Err _) d = absurd d
