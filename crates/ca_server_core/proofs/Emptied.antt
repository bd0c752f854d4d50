-- All bytes leave a circuit.
use Rattle.std.proofs.Common.{◌≡◌, ℕ, inl, inr, List, [], length, Some, refl, sym, ap, ◌∙◌, subst}
use Rattle.ca_arena.specs.declared.handle.Handle.{Handle}
use Rattle.ca_beacon.specs.Clock.{Clock}
use Rattle.ca_ids.specs.Table.{Table, under, with_changed}
use Rattle.ca_link.specs.Link.{with_handed}
use Rattle.ca_records.specs.Puts.{Record}
use Rattle.ca_records.specs.Store.{Store}
use Rattle.ca_model.specs.Server.{Ended, Open, Server, ServerCircuit}
use Rattle.ca_model.specs.ServerSteps.{Pumps, Update}
use Rattle.ca_server_circuit.specs.CircuitOutput.{emptied, emptied_end}
use Rattle.ca_server_circuit.proofs.Tables.{changed-own}
use Rattle.ca_server_core.specs.Pumping.{EmptiesIn, HandsOver, PumpsIn, PumpsOverIn}
use Rattle.ca_server_core.specs.Sound.{IsSound}
use Rattle.ca_server_core.proofs.Covered.{Thins, thins-changed, thins-ended}
use Rattle.ca_server_core.proofs.Pumped.{pumps-at}
use Rattle.ca_server_core.proofs.Served.{changed-twice}
use Rattle.ca_server_core.proofs.Servers.{server_of}
use Rattle.ca_server_core.proofs.Sounds.{ended-sound, relinked-sound, sound-changed}
use Rattle.ca_server_core.proofs.Thinned.{same-thins}

abbrev Circuits : Type 0
Circuits = Table ServerCircuit

-- the circuits between the updates and the bytes
pub pumped-over : (s u : Store) (t after : Circuits) (h : Handle) (out : List ℕ) → PumpsOverIn t h s after u out → (mid : Circuits) × PumpsIn t h s mid u × EmptiesIn mid h after out
pumped-over s u t after h out (inr none) = (t, inr (none.0, refl, none.2), inr (none.0, none.3, none.1))
pumped-over s u t after h out (inl g) =
    let mid = g.3.0 in (
      with_changed (λ (x : ServerCircuit). mid) h t,
      inl (g.0, mid, g.2, g.3.1, refl),
      inl (
        mid,
        changed-own (λ (x : ServerCircuit). mid) t h g.0 g.2,
        g.3.2,
        g.4 ∙ ap (λ (c : ServerCircuit). with_changed (λ (x : ServerCircuit). c) h t) g.3.3 ∙ sym (changed-twice t h g.0 mid (emptied mid) g.2),
      ),
    )

pub sound-emptied : (rs : List Record) (t after : Circuits) (h : Handle) (out : List ℕ) → IsSound rs t → EmptiesIn t h after out → IsSound rs after
sound-emptied rs t after h out i (inr none) = subst (λ (x : Circuits). IsSound rs x) (sym none.2) i
sound-emptied rs t after h out i (inl g) = subst (λ (x : Circuits). IsSound rs x) (sym g.3) (by g.0 g.1)
  where
    by : (c : ServerCircuit) → under t h ≡ Some c → IsSound rs (with_changed (λ (x : ServerCircuit). emptied c) h t)
    by (Open e) there =
        sound-changed rs t h e (emptied_end e) i there (relinked-sound rs h e (with_handed (length e.link.output) e.link) (i.ends h e there).live (i.ends h e there))
    by (Ended w left) there = ended-sound rs t h w left [] i there

pub thins-emptied : (t after : Circuits) (h : Handle) (out : List ℕ) → EmptiesIn t h after out → Thins t after
thins-emptied t after h out (inr none) = same-thins t after none.2
thins-emptied t after h out (inl g) = subst (λ (x : Circuits). Thins t x) (sym g.3) (by g.0 g.1)
  where
    by : (c : ServerCircuit) → under t h ≡ Some c → Thins t (with_changed (λ (x : ServerCircuit). emptied c) h t)
    by (Open e) there = thins-changed t h e (emptied_end e) there (λ s i. i) (λ n c. c)
    by (Ended w left) there = thins-ended t h w []

-- the same of a server, along the view of its fields
pub pumps-over-at : (y : Server) (port now n : ℕ) (b : Clock) (s u : Store) (t after : Circuits) (h : Handle) (out : List ℕ) → server_of port s now t b n ≡ y → PumpsOverIn t h s after u out
    → (us : List Update) × ((mid : Server) × Pumps y h us mid × HandsOver mid h out (server_of port u now after b n))
pumps-over-at y port now n b s u t after h out is did =
    let p = pumped-over s u t after h out did in
    let q = pumps-at y port now n b s u t p.0 h is p.1 in
    (q.0, (server_of port u now p.0 b n, q.1, (after, p.2, refl)))
