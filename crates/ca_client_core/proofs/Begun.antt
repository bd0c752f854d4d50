-- What a client that did nothing yet is made of is sound.
use Rattle.std.proofs.Common.{◌≡◌, ◌∙◌, ℕ, List, [], Some, ap, map, subst, sym}
use Rattle.std.specs.FinMap as finite
use Rattle.ca_text.specs.Place.{At}
use Rattle.ca_arena.specs.declared.handle.Handle.{Handle}
use Rattle.ca_arena.specs.Arena.{Place}
use Rattle.ca_ids.specs.Table.{Table, held, under}
use Rattle.ca_search.specs.Searches as search
use Rattle.ca_requests.specs.Requests.{Request}
use Rattle.ca_monitor.specs.Subscriptions.{Subscription}
use Rattle.ca_beacon.specs.Table.{Servers}
use Rattle.ca_model.specs.Client.{Channel, Client, ClientCircuit}
use Rattle.ca_model.specs.ClientEnds.{ClientSetting, name_circuits, new_client}
use Rattle.ca_model.proofs.Tables.{place, under-at}
use Rattle.ca_client_tables.specs.Names.{HasNames}
use Rattle.ca_client_tables.specs.Sound.{IsSound}

-- nothing is in an empty table
none-under : {T : Type 0} (h : Handle) (v : T) → under [] h ≡ Some v → ⊥
none-under {T} h v is = nothing (place h v) (under-at [] h v is)
  where
    nothing : (p : Place T) → At [] h.index p → ⊥
    nothing p e = cc

sound-empty : (circuits : Table ClientCircuit) → IsSound [] [] [] [] circuits []
sound-empty circuits = record {
  client = record { searched = cc };
  placed = record {
    attached = record {
      requests = λ q r is. absurd (none-under q r is);
      subscriptions = λ g d on is drains. absurd (none-under g d is);
    };
    waiting = λ h ch c p is on. absurd (none-under h ch is);
  };
  listed = λ h ch c is live. absurd (none-under h ch is);
}

pub sound-begun : (t : Table Channel) (es : List (ℕ × search.Channel)) (q : Table Request) (s : Table Subscription) (circuits : Table ClientCircuit) (ls : List (List Handle))
    → t ≡ [] → es ≡ [] → q ≡ [] → s ≡ [] → ls ≡ [] → IsSound t es q s circuits ls
sound-begun t es q s circuits ls no_channels no_searches no_requests no_subscriptions no_lists =
    subst (λ (x : Table Channel). IsSound x es q s circuits ls) (sym no_channels)
    (subst (λ (x : List (ℕ × search.Channel)). IsSound [] x q s circuits ls) (sym no_searches)
    (subst (λ (x : Table Request). IsSound [] [] x s circuits ls) (sym no_requests)
    (subst (λ (x : Table Subscription). IsSound [] [] [] x circuits ls) (sym no_subscriptions)
    (subst (λ (x : List (List Handle)). IsSound [] [] [] [] circuits x) (sym no_lists) (sound-empty circuits)))))

-- a client of this setting, of these parts
abbrev pub made : ClientSetting → Table Channel → List (ℕ × search.Channel) → Table Request → List Handle → Table Subscription → Table ClientCircuit → List Handle → Servers → Client
made a t es q issued s circuits order beacons = record {
  peer = a.peer;
  servers = a.servers;
  moment = a.now;
  channels = t;
  requests = q;
  subscriptions = s;
  circuits = circuits;
  order = order;
  issued = issued;
  searches = es;
  beacons = beacons;
}

pub begun-is : (a : ClientSetting) (t : Table Channel) (es : List (ℕ × search.Channel)) (q : Table Request) (issued : List Handle) (s : Table Subscription) (circuits : Table ClientCircuit) (order : List Handle) (beacons : Servers)
    → t ≡ [] → es ≡ [] → q ≡ [] → issued ≡ [] → s ≡ [] → HasNames a.names circuits order → beacons ≡ finite.empty
    → made a t es q issued s circuits order beacons ≡ new_client a
begun-is a t es q issued s circuits order beacons no_channels no_searches no_requests none_issued no_subscriptions names no_beacons =
    ap (λ (x : Table Channel). made a x es q issued s circuits order beacons) no_channels
    ∙ ap (λ (x : List (ℕ × search.Channel)). made a [] x q issued s circuits order beacons) no_searches
    ∙ ap (λ (x : Table Request). made a [] [] x issued s circuits order beacons) no_requests
    ∙ ap (λ (x : List Handle). made a [] [] [] x s circuits order beacons) none_issued
    ∙ ap (λ (x : Table Subscription). made a [] [] [] [] x circuits order beacons) no_subscriptions
    ∙ ap (λ (x : List Handle). made a [] [] [] [] [] circuits x beacons) names.listed
    ∙ ap (λ (x : Table ClientCircuit). made a [] [] [] [] [] x (map (λ (e : Handle × ClientCircuit). e.0) (held x)) beacons) names.circuits
    ∙ ap (λ (x : Servers). made a [] [] [] [] [] (name_circuits a.names) (map (λ (e : Handle × ClientCircuit). e.0) (held (name_circuits a.names))) x) no_beacons
