-- What the messages of a datagram, and a search reply on a circuit, keep of a client.
use Rattle.std.proofs.Common.{◌≡◌, ℕ, Bool, true, false, inl, inr, List, [], ◌∷◌, Option, Some, None, if◌then◌else◌, refl, subst, sym}
use Rattle.std.specs.List.{AllByRecursion}
use Rattle.std.specs.FinMap as finite
use Rattle.ca_arena.specs.declared.handle.Handle.{Handle}
use Rattle.ca_beacon.specs.Table.{anomaly}
use Rattle.ca_ids.specs.Table.{Table}
use Rattle.ca_search.specs.Searcher.{with_all}
use Rattle.ca_search.specs.Searches as search
use Rattle.ca_wire.specs.Fields.{Fields}
use Rattle.ca_model.specs.Client.{Channel, Client, ClientCircuit, Connecting, Connection, Creating, On, Phase, circuit_to, found_on, is_live, new_circuit}
use Rattle.ca_model.specs.ClientEnds.{Receives, ReceivesAll, beacon_heard, beacon_server}
use Rattle.ca_model.specs.ClientEnds as receives
use Rattle.ca_model.specs.Ends.{Address}
use Rattle.ca_model.specs.Hears.{Effect, Finds, FindsAt, PutsOn, found_at, put_on, searched_by, with_circuit}
use Rattle.ca_model.proofs.Hearing.{keeps-finds, received-keeps}
use Rattle.ca_client_tables.specs.Listed.{AreListed}
use Rattle.ca_client_tables.specs.Sound.{HasCid, IsClient, IsSound}
use Rattle.ca_client_tables.proofs.Ended.{client-again}
use Rattle.ca_client_core.proofs.Listing.{listed-not}

-- the parts of a client are sound, beside these lists
abbrev pub IsSoundWith : List (List Handle) → Client → Type 0
IsSoundWith ls x = IsSound x.channels x.searches x.requests x.subscriptions x.circuits ls

-- what is searched for is a channel, and live channels are listed
pub record Holds (ls : List (List Handle)) (x : Client) : Type 0 where
  pub client : IsClient x.channels x.searches
  pub listed : AreListed x.channels ls

module _ (ls : List (List Handle)) where
  -- ---- search replies

  holds-found : (c h : Handle) (p : Phase) (x : Client) → is_live p ≡ false → Holds ls x → Holds ls (found_on c p h x)
  holds-found c h p x idle held =
      let y : Client = found_on c p h x in
      let turned : Channel → Channel = λ (here : Channel). record here { standing = On c p } in
      record {
        client = client-again x.channels y.channels x.searches y.searches turned search.paused h refl refl held.client;
        listed = listed-not (On c p) h x.channels y.channels ls idle refl held.listed;
      }

  holds-put : (c : Handle) (o : Option Connection) (h : Handle) (here : Channel) (x : Client) → Holds ls x → Holds ls (put_on c o h here x).core
  holds-put c (Some e) h here x held =
      let found = holds-found c h (Creating 0) x refl held in
      record { client = found.client; listed = found.listed }
  holds-put c None h here x held =
      let found = holds-found c h Connecting x refl held in
      record { client = found.client; listed = found.listed }

  holds-puts : (x : Client) (a : Address) (h : Handle) (here : Channel) (o : Option (Handle × ClientCircuit)) (e : Effect) → PutsOn x a h here o e → Holds ls x → Holds ls e.core
  holds-puts x a h here (Some (c, d)) e is held =
      subst (λ (f : Effect). Holds ls f.core) (sym is) (holds-put c d.connection h here x held)
  holds-puts x a h here None e (inl (c, may, is)) held =
      let y : Client = with_circuit c (new_circuit a here.priority false) x in
      subst (λ (f : Effect). Holds ls f.core) (sym is) (holds-put c None h here y (record { client = held.client; listed = held.listed }))
  holds-puts x a h here None e (inr (full, is)) held = subst (λ (f : Effect). Holds ls f.core) (sym is) held

  holds-finds : (x : Client) (a : Address) (o : Option (Handle × Channel)) (e : Effect) → FindsAt x a o e → Holds ls x → Holds ls e.core
  holds-finds x a None e is held = subst (λ (f : Effect). Holds ls f.core) (sym is) held
  holds-finds x a (Some (h, here)) e is held = holds-puts x a h here (circuit_to a here.priority x) e is held

  pub sound-found : (x : Client) (from : Address) (m : Fields) (e : Effect) → Finds x from m e → IsSoundWith ls x → IsSoundWith ls e.core
  sound-found x from m e finds sound =
      let held = holds-finds x (found_at from m) (searched_by m.p2 x) e finds (record { client = sound.client; listed = sound.listed }) in
      record {
        client = held.client;
        placed = (keeps-finds x (found_at from m) m.p2 (searched_by m.p2 x) e refl finds).placed sound.placed;
        listed = held.listed;
      }

  -- ---- beacons

  all-with-cid : (channels : Table Channel) (f : search.Channel → search.Channel) (es : List (ℕ × search.Channel)) → AllByRecursion (λ (e : ℕ × search.Channel). HasCid channels e.0) es → AllByRecursion (λ (e : ℕ × search.Channel). HasCid channels e.0) (with_all f es)
  all-with-cid channels f [] all = tt
  all-with-cid channels f (e ∷ es) all = (all.0, all-with-cid channels f es all.1)

  holds-beacon : (x : Client) (from : Address) (m : Fields) → Holds ls x → Holds ls (beacon_heard from m x)
  holds-beacon x from m held =
      record { client = by_test (anomaly (finite.get x.beacons (beacon_server from m)) m.p1); listed = held.listed }
    where
      by_test : (b : Bool) → IsClient x.channels (if b then with_all (search.boosted x.moment) x.searches else x.searches)
      by_test true = record { searched = all-with-cid x.channels (search.boosted x.moment) x.searches held.client.searched }
      by_test false = held.client

  -- ---- all messages

  holds-received : (from : Address) (x : Client) (m : Fields) (e : Effect) → Receives from x m e → Holds ls x → Holds ls e.core
  holds-received from x m e (receives.Search is finds) held = holds-finds x (found_at from m) (searched_by m.p2 x) e finds held
  holds-received from x m e (receives.Beacon is port does) held = subst (λ (f : Effect). Holds ls f.core) (sym does) (holds-beacon x from m held)
  holds-received from x m e (receives.Other search beacon does) held = subst (λ (f : Effect). Holds ls f.core) (sym does) held

  sound-received : (from : Address) (x : Client) (m : Fields) (e : Effect) → Receives from x m e → IsSoundWith ls x → IsSoundWith ls e.core
  sound-received from x m e does sound =
      let held = holds-received from x m e does (record { client = sound.client; listed = sound.listed }) in
      record { client = held.client; placed = (received-keeps from x m e does).placed sound.placed; listed = held.listed }

  pub sound-all : (from : Address) (ms : List Fields) (x : Client) (e : Effect) → ReceivesAll from x ms e → IsSoundWith ls x → IsSoundWith ls e.core
  sound-all from [] x e is sound = subst (λ (f : Effect). IsSoundWith ls f.core) (sym is) sound
  sound-all from (m ∷ ms) x e (a, b, does, all, is) sound =
      subst (λ (f : Effect). IsSoundWith ls f.core) (sym is) (sound-all from ms a.core b all (sound-received from x m a does sound))
