-- A record of a server is removed, from what its parts became.
use Rattle.std.proofs.Common.{◌≡◌, ℕ, zero, suc, ◌+◌, ◌*◌, ◌<◌, ◌≤◌, ◌==◌, ◌&&◌, ◌||◌, inl, inr, Bool, true, false, not, List, [], ◌∷◌, ◌++◌, Option, Some, None, Result, Ok, Err, length, take, refl, sym, ap, subst, ◌∙◌, arith}
use Rattle.std.specs.Prelude.{Vec, filter, if◌then◌else◌, map, option_map, slice_set}
use Rattle.std.specs.declared.alloc.Global.{Global}
use Rattle.std.specs.List.{list_any}
use Rattle.std.specs.Str.{bytes_eq}
use Rattle.std.proofs.lemmas.Bool.{and_from, and_parts, eq-eqb, eqb-true}
use Rattle.std.proofs.lemmas.List.{length-append, length-map}
use Rattle.ca_arena.specs.declared.handle.Handle.{Handle}
use Rattle.ca_ids.specs.Table.{under}
use Rattle.ca_ids.specs.Wire.{wire_of}
use Rattle.ca_queue.specs.declared.entry.SubKey.{SubKey}
use Rattle.ca_queue.proofs.Circuits.{set-twice}
use Rattle.ca_text.specs.declared.refusal.Refusal.{Refusal}
use Rattle.ca_text.specs.declared.refusal.Refusal.TheVariants.{OutOfMemory, UnknownRecord}
use Rattle.ca_text.specs.Place.{At}
use Rattle.ca_text.proofs.Places.{At-map, At-mapped}
use Rattle.ca_wire.specs.Fields.{Fields}
use Rattle.ca_wire.specs.declared.header.Header.{Header}
use Rattle.ca_wire.specs.Header.{header_spelling}
use Rattle.ca_wire.specs.Message.{header_of, spelled, spelling}
use Rattle.ca_wire.specs.Messages.{disconnect}
use Rattle.ca_wire.proofs.Headers.{length-short, spelling-short}
use Rattle.ca_wire.proofs.Messages.{length-spelling}
use Rattle.ca_model.specs.Ends as why
use Rattle.ca_model.specs.History.{Entry, Line, Told}
use Rattle.ca_model.specs.Server.{Ended, Open, OpenChannel, Server, ServerCircuit}
use Rattle.ca_model.specs.ServerCalls.{Removes, channels_of, circuit_without, disconnects, end_without}
use Rattle.ca_model.specs.Events.{Remove}
use Rattle.ca_model.specs.Runs.{IsServer}
use Rattle.ca_model.specs.ServerEvents.{disconnected_at, ending, ends_at, ends_by, removal_entries, removal_told, removed_at, reported, withdrawals, without_puts, without_standing}
use Rattle.ca_model.specs.World.{grown}
use Rattle.ca_model.specs.World as model
use Rattle.ca_server_circuit.specs.Concerned.{ids_of}
use Rattle.ca_server_core.specs.ForHistories.{bytes_under, channels_under}
use Rattle.ca_world_data.specs.declared.client.ClientSide.{ClientSide}
use Rattle.ca_world_data.specs.declared.history.LogEntry.{LogEntry as LogEntry}
use Rattle.ca_world_data.specs.declared.joined.Joined.{Joined}
use Rattle.ca_world_data.specs.declared.server.RecordSide.{RecordSide}
use Rattle.ca_world_data.specs.declared.server.ServerSide.{ServerSide}
use Rattle.ca_world_data.specs.Does.{Does}
use Rattle.ca_world_data.specs.Indexed.{AreIndexed, server_numbers}
use Rattle.ca_world_data.specs.Reporting.{AreServed, waits}
use Rattle.ca_world_data.specs.Seen.{client_of, joined_of, place_of, record_of, server_of}
use Rattle.ca_world_data.specs.ServerCuts.{HasRoomFor}
use Rattle.ca_world_data.proofs.Indexes.{KeepsEnds, ends-stay, indexed-map, indexed-server}
use Rattle.ca_world_data.proofs.Worlds.{server-stays, set-map, world_of}
use Rattle.ca_world_servers.specs.declared.losing.Leading.{Leading}
use Rattle.ca_world_servers.specs.Losing.{AllMayLose, AllReady, AreLost, Disconnects, is_lost, lead_at, lost_by, lost_told, removed_all, without_lost}
use Rattle.ca_world_servers.specs.Removing.{AllSeated, Becomes, RemovesAt, TellsRemoval}
use Rattle.ca_world_servers.proofs.Losings.{removed-told}
use Rattle.ca_world.proofs.Postings.{each-under, ending-keeps}
use Rattle.ca_laws_parts.proofs.WritesLists.{take-whole}
use Rattle.ca_laws_parts.proofs.UpdatesNumbers.{length-take-within}

-- ---- what stands

-- ---- one circuit

-- what is lost is told as the statement has it
told-same : (creations : List model.Creation) (cs : List (Handle × OpenChannel)) → map (lost_told creations) (map ids_of cs) ≡ map (removal_told creations) cs
told-same creations [] = refl
told-same creations (c ∷ cs) = ap (λ (t : List Told). removal_told creations c ∷ t) (told-same creations cs)

over-same : (k : SubKey) (cs : List (Handle × OpenChannel)) → is_lost (map ids_of cs) k ≡ list_any (λ (c : Handle × OpenChannel). wire_of c.0 == k.sid) cs
over-same k [] = refl
over-same k (c ∷ cs) = go (wire_of c.0 == k.sid) (over-same k cs)
  where
    go : (b : Bool) → is_lost (map ids_of cs) k ≡ list_any (λ (c : Handle × OpenChannel). wire_of c.0 == k.sid) cs
        → (b || is_lost (map ids_of cs) k) ≡ (b || list_any (λ (c : Handle × OpenChannel). wire_of c.0 == k.sid) cs)
    go b same = ap (λ (x : Bool). b || x) same

without-same : (j : model.Joined) (cs : List (Handle × OpenChannel))
    → without_lost (map ids_of cs) j ≡ without_standing (λ (k : SubKey). list_any (λ (c : Handle × OpenChannel). wire_of c.0 == k.sid) cs) (record j { lists = record j.lists { down = j.lists.down ++ map (removal_told j.creations) cs } })
without-same j cs = λ t. without_standing (λ (k : SubKey). over-same k cs t) (record j { lists = record j.lists { down = j.lists.down ++ told-same j.creations cs t } })

-- ---- bytes of SERVER_DISCONNs

disconnect-size : (cid : ℕ) → length (spelling (disconnect cid)) ≡ 16
disconnect-size cid =
    let h : Header = header_of (disconnect cid) in
    let few : 0 < 65535 = omega arith in
    let short : length (header_spelling h) ≡ 16 = ap length (spelling-short h few few) ∙ length-short h in
    length-spelling (disconnect cid) ∙ ap (λ (n : ℕ). n + length (disconnect cid).payload) short

notices-size : (cs : List (Handle × OpenChannel)) → length (spelled (map (λ (c : Handle × OpenChannel). disconnect c.1.cid) cs)) ≡ 16 * length cs
notices-size [] = refl
notices-size (c ∷ cs) =
    let rest = notices-size cs in
    let both = length-append (spelling (disconnect c.1.cid)) (spelled (map (λ (x : Handle × OpenChannel). disconnect x.1.cid) cs)) in
    omega (arith, both, disconnect-size c.1.cid, rest)

take-map : {A B : Type 0} (f : A → B) (n : ℕ) (xs : List A) → take n (map f xs) ≡ map f (take n xs)
take-map f zero xs = refl
take-map f (suc n) [] = refl
take-map f (suc n) (x ∷ xs) = ap (λ (t : List _). f x ∷ t) (take-map f n xs)

take-long : {A : Type 0} (n : ℕ) (xs : List A) → take (length (take n xs)) xs ≡ take n xs
take-long zero xs = refl
take-long (suc n) [] = refl
take-long (suc n) (x ∷ xs) = ap (λ (t : List _). x ∷ t) (take-long n xs)

module _ (name : List ℕ) (gone : Handle → Bool) (left : Handle → ℕ) (y core : Server) (removes : Removes y name gone left (Ok tt) core) where
  removed-under : (h : Handle) → under core.circuits h ≡ option_map (circuit_without name gone left h) (under y.circuits h)
  removed-under h = ap (λ (z : Server). under z.circuits h) removes.2 ∙ each-under (circuit_without name gone left) y.circuits h

  abbrev told_at : Handle → Option ServerCircuit → List (Handle × OpenChannel)
  told_at h o = disconnected_at name gone left h o

  -- the bytes that were added
  sent-more : (h : Handle) (o : Option ServerCircuit) → length (bytes_under o) + 16 * length (told_at h o) ≡ length (bytes_under (option_map (circuit_without name gone left h) o))
  sent-more h None = refl
  sent-more h (Some (Ended cause bytes)) = omega arith
  sent-more h (Some (Open e)) = go (gone h)
    where
      go : (b : Bool) → length e.link.output + 16 * length (if b then take (left h) (channels_of name e) else channels_of name e)
          ≡ length (bytes_under (Some (if b then Ended why.OutOfMemory (e.link.output ++ spelled (take (left h) (disconnects name e))) else Open (end_without name e))))
      go true =
          let some = notices-size (take (left h) (channels_of name e)) in
          let same = ap (λ (ms : List Fields). length (spelled ms)) (take-map (λ (c : Handle × OpenChannel). disconnect c.1.cid) (left h) (channels_of name e)) in
          let both = length-append e.link.output (spelled (take (left h) (disconnects name e))) in
          omega (arith, some, same, both)
      go false =
          let all = notices-size (channels_of name e) in
          let both = length-append e.link.output (spelled (disconnects name e)) in
          omega (arith, all, both)

  -- those that were told are a beginning of all
  told-first : (h : Handle) (o : Option ServerCircuit) → take (length (told_at h o)) (channels_under name o) ≡ map ids_of (told_at h o)
  told-first h None = refl
  told-first h (Some (Ended cause bytes)) = refl
  told-first h (Some (Open e)) = go (gone h)
    where
      cs : List (Handle × OpenChannel)
      cs = channels_of name e

      go : (b : Bool) → take (length (if b then take (left h) cs else cs)) (map ids_of cs) ≡ map ids_of (if b then take (left h) cs else cs)
      go true = take-map ids_of (length (take (left h) cs)) cs ∙ ap (map ids_of) (take-long (left h) cs)
      go false = take-map ids_of (length cs) cs ∙ ap (map ids_of) (take-whole cs)

  told-few : (h : Handle) (o : Option ServerCircuit) → length (told_at h o) ≤ length (channels_under name o)
  told-few h None = omega arith
  told-few h (Some (Ended cause bytes)) = omega arith
  told-few h (Some (Open e)) = go (gone h)
    where
      cs : List (Handle × OpenChannel)
      cs = channels_of name e

      go : (b : Bool) → length (if b then take (left h) cs else cs) ≤ length (map ids_of cs)
      go true = (let few = length-take-within (left h) cs in let same = length-map cs ids_of in omega (arith, few, same))
      go false = (let same = length-map cs ids_of in omega (arith, same))

  module _ (i : ℕ) (ks : List Joined) (ls : List Leading) (ready : AllReady i y name ks ls) where
    abbrev f : model.Joined → model.Joined
    f = removed_at i y name gone left

    -- what a circuit that is open at the server has to lose
    abbrev leads : Joined → List (ℕ × ℕ) × ℕ
    leads j = (channels_under name (under y.circuits j.at_server), length (bytes_under (under y.circuits j.at_server)))

    led-here : (j : Joined) (l : Leading) → (l.channels.items, l.waited) ≡ lead_at i y name (joined_of j) → (j.server == i && j.lists.server_open) ≡ true
        → (l.channels.items, l.waited) ≡ leads j
    led-here j l led on = led ∙ ap (λ (b : Bool). if b then leads j else ([], 0)) on

    sent-here : (j : Joined) (l : Leading) → (l.channels.items, l.waited) ≡ lead_at i y name (joined_of j) → (j.server == i && j.lists.server_open) ≡ true
        → Disconnects core (joined_of j) l (length (told_at j.at_server (under y.circuits j.at_server)))
    sent-here j l led on =
        let h = j.at_server in
        let o = under y.circuits h in
        let is = led-here j l led on in
        let waited : l.waited ≡ length (bytes_under o) = ap (λ (p : List (ℕ × ℕ) × ℕ). p.1) is in
        let longs : length l.channels.items ≡ length (channels_under name o) = ap (λ (p : List (ℕ × ℕ) × ℕ). length p.0) is in
        let more = sent-more h o in
        let after : length (bytes_under (under core.circuits h)) ≡ length (bytes_under (option_map (circuit_without name gone left h) o)) = ap (λ (z : Option ServerCircuit). length (bytes_under z)) (removed-under h) in
        let few = told-few h o in
        (omega (arith, waited, more, after), omega (arith, few, longs))

    pub are-lost : AreLost i core ks ls f
    are-lost k j l n at led_at sent = go (j.server == i && j.lists.server_open) refl
      where
        h : Handle
        h = j.at_server

        o : Option ServerCircuit
        o = under y.circuits h

        led : (l.channels.items, l.waited) ≡ lead_at i y name (joined_of j)
        led = (ready.each k j l at led_at).led

        changed : model.Joined
        changed = without_standing (λ (key : SubKey). list_any (λ (c : Handle × OpenChannel). wire_of c.0 == key.sid) (told_at h o)) (record (joined_of j) { lists = record (joined_of j).lists { down = (joined_of j).lists.down ++ map (removal_told (joined_of j).creations) (told_at h o) } })

        go : (b : Bool) → (j.server == i && j.lists.server_open) ≡ b → f (joined_of j) ≡ lost_by i l n (joined_of j)
        go false off = ap (λ (b : Bool). if b then changed else joined_of j) off ∙ sym (ap (λ (b : Bool). if b then without_lost (take n l.channels.items) (joined_of j) else joined_of j) off)
        go true on =
            let parts = and_parts (j.server == i) j.lists.server_open on in
            let d : Disconnects core (joined_of j) l n = sent (eqb-true j.server i parts.0) parts.1 in
            let own = sent-here j l led on in
            let many : n ≡ length (told_at h o) = omega (arith, d.0, own.0) in
            let first : take n l.channels.items ≡ map ids_of (told_at h o) =
            (λ t. take (many t) (ap (λ (p : List (ℕ × ℕ) × ℕ). p.0) (led-here j l led on) t)) ∙ told-first h o in
            ap (λ (b : Bool). if b then changed else joined_of j) on
            ∙ sym (without-same (joined_of j) (told_at h o))
            ∙ ap (λ (cs : List (ℕ × ℕ)). without_lost cs (joined_of j)) (sym first)
            ∙ sym (ap (λ (b : Bool). if b then without_lost (take n l.channels.items) (joined_of j) else joined_of j) on)

    pub may-lose : AllSeated i (map joined_of ks) → AllMayLose i core ks ls
    may-lose seated = record {
      each = λ k j l at led_at. record {
        sent = (length (told_at j.at_server (under y.circuits j.at_server)), λ mine on. sent-here j l (ready.each k j l at led_at).led (and_from (j.server == i) j.lists.server_open (eq-eqb j.server i mine) on));
        room = (ready.each k j l at led_at).room;
        seated = seated k (joined_of j) (At-map joined_of ks k j at);
      };
      long = ready.long;
    }

    lost-keeps : (j : model.Joined) → KeepsEnds j (f j)
    lost-keeps j = go (j.server == i && j.lists.server_open)
      where
        told : List (Handle × OpenChannel)
        told = told_at j.at_server (under y.circuits j.at_server)

        go : (b : Bool) → KeepsEnds j (if b then without_standing (λ (key : SubKey). list_any (λ (c : Handle × OpenChannel). wire_of c.0 == key.sid) told) (record j { lists = record j.lists { down = j.lists.down ++ map (removal_told j.creations) told } }) else j)
        go true = record { client = refl; server = refl; at_client = refl; at_server = refl; closes = λ on. on; stops = λ on. on }
        go false = ends-stay j j refl

    pub becomes : (own : List ℕ) (js : List model.Joined) → AreServed own js i → Becomes i core own ks js ls
    becomes own js served = record { f = f; lost = are-lost; served = served-lost }
      where
        served-lost : AreServed own (map f js) i
        served-lost k new there mine on =
            let d = At-mapped f js k new there in
            let keeps : KeepsEnds d.0 new = subst (λ (z : model.Joined). KeepsEnds d.0 z) (sym d.2) (lost-keeps d.0) in
            subst (λ (h : Handle). At own h.index k) (sym keeps.at_server) (served k d.0 d.1 (sym keeps.server ∙ mine) (keeps.stops on))

-- circuits keep their ends whatever is lost
pub removal-keeps : (i : ℕ) (core : Server) (name : List ℕ) (gone : Handle → Bool) (left : Handle → ℕ) (j : model.Joined) → KeepsEnds j (removed_at i core name gone left j)
removal-keeps i core name gone left j = go (j.server == i && j.lists.server_open)
  where
    told : List (Handle × OpenChannel)
    told = disconnected_at name gone left j.at_server (under core.circuits j.at_server)

    go : (b : Bool) → KeepsEnds j (if b then without_standing (λ (key : SubKey). list_any (λ (c : Handle × OpenChannel). wire_of c.0 == key.sid) told) (record j { lists = record j.lists { down = j.lists.down ++ map (removal_told j.creations) told } }) else j)
    go true = record { client = refl; server = refl; at_client = refl; at_server = refl; closes = λ on. on; stops = λ on. on }
    go false = ends-stay j j refl

-- ---- room in the log

abbrev waits_in : List model.RecordSide → ℕ
waits_in [] = 0
waits_in (r ∷ rs) = length r.waiting + waits_in rs

waits-seen : (rs : List RecordSide) → waits rs ≡ waits_in (map record_of rs)
waits-seen [] = refl
waits-seen (r ∷ rs) = (let rest = waits-seen rs in let here = length-map r.waiting.items place_of in omega (arith, rest, here))

waits-fewer : (p : model.RecordSide → Bool) (rs : List model.RecordSide) → waits_in (filter p rs) ≤ waits_in rs
waits-fewer p [] = omega arith
waits-fewer p (r ∷ rs) = go (p r) (waits-fewer p rs)
  where
    go : (b : Bool) → waits_in (filter p rs) ≤ waits_in rs → waits_in (if b then r ∷ filter p rs else filter p rs) ≤ length r.waiting + waits_in rs
    go true le = omega (arith, le)
    go false le = omega (arith, le)

-- there is room for what waits at the records that are left
pub room-left : (life : ℕ) (logs : List (Vec LogEntry Global)) (p : model.RecordSide → Bool) (rs rest : List RecordSide) → map record_of rest ≡ filter p (map record_of rs) → HasRoomFor (waits rs) life logs → HasRoomFor (waits rest) life logs
room-left life logs p rs rest is room log at =
    let had = room log at in
    let all = waits-seen rs in
    let left = waits-seen rest ∙ ap waits_in is in
    let few = waits-fewer p (map record_of rs) in
    omega (arith, had, all, left, few)

-- ---- a server after it

-- what was prepared of these circuits, of which the list is another
ready-here : (i : ℕ) (core : Server) (name : List ℕ) (ks was : List Joined) (ls all : List Leading) → AllReady i core name was all → ks ≡ was → ls ≡ all → AllReady i core name ks ls
ready-here i core name ks was ls all ready is_k is_l =
    subst (λ (z : List Joined × List Leading). AllReady i core name z.0 z.1) (λ t. (sym is_k t, sym is_l t)) ready

pub removal-becomes : (i : ℕ) (name : List ℕ) (gone : Handle → Bool) (left : Handle → ℕ) (y core : Server) (own : List ℕ) (ks was : List Joined) (ls all : List Leading) (js : List model.Joined)
    → Removes y name gone left (Ok tt) core → AllReady i y name was all → ks ≡ was → ls ≡ all → map joined_of ks ≡ js → AreServed own js i
    → Becomes i core own ks (map joined_of ks) ls
removal-becomes i name gone left y core own ks was ls all js removes ready is_k is_l seen served =
    becomes name gone left y core removes i ks ls (ready-here i y name ks was ls all ready is_k is_l) own (map joined_of ks)
    (subst (λ (z : List model.Joined). AreServed own z i) (sym seen) served)

pub removal-may : (i : ℕ) (name : List ℕ) (gone : Handle → Bool) (left : Handle → ℕ) (y core : Server) (ks was : List Joined) (ls all : List Leading) (js : List model.Joined)
    → Removes y name gone left (Ok tt) core → AllReady i y name was all → ks ≡ was → ls ≡ all → map joined_of ks ≡ js → AllSeated i js
    → AllMayLose i core ks ls
removal-may i name gone left y core ks was ls all js removes ready is_k is_l seen seated =
    may-lose name gone left y core removes i ks ls (ready-here i y name ks was ls all ready is_k is_l)
    (subst (λ (z : List model.Joined). AllSeated i z) (sym seen) seated)

pub remove-told : (i : ℕ) (name : List ℕ) (gone : Handle → Bool) (left : Handle → ℕ) (y y' : ServerSide) (core : Server) (ks was : List Joined) (ls all : List Leading) (told : List Entry) (js ks' : List model.Joined) (logs mid logs' : List (List Entry))
    → Removes y.core name gone left (Ok tt) core → AllReady i y.core name was all → ks ≡ was → ls ≡ all → map joined_of ks ≡ js → told ≡ removed_all name y.records.items → mid ≡ logs
    → ((f : model.Joined → model.Joined) → AreLost i core ks ls f → TellsRemoval i name told f (record y { core = core }) (map joined_of ks) mid y' ks' logs')
    → RemovesAt i name y js logs (Ok tt) y' ks' logs'
remove-told i name gone left y y' core ks was ls all told js ks' logs mid logs' removes ready is_k is_l seen is_told is_mid did =
    let f : model.Joined → model.Joined = removed_at i y.core name gone left in
    let lost : AreLost i core ks ls f = are-lost name gone left y.core core removes i ks ls (ready-here i y.core name ks was ls all ready is_k is_l) in
    let entries : told ≡ removal_entries name (map record_of y.records.items) = is_told ∙ sym (removed-told name y.records.items) in (
      gone,
      left,
      core,
      inl (
        removes,
        subst (λ (z : List Entry × (List model.Joined × List (List Entry))). TellsRemoval i name z.0 f (record y { core = core }) z.1.0 z.1.1 y' ks' logs') (λ t. (entries t, (seen t, is_mid t))) (did f lost),
      ),
    )

pub remove-kept : (i : ℕ) (name : List ℕ) (gone : Handle → Bool) (left : Handle → ℕ) (y : ServerSide) (core : Server) (js ks' : List model.Joined) (logs mid : List (List Entry)) (e : Refusal)
    → Removes y.core name gone left (Err e) core → ks' ≡ js → mid ≡ logs → RemovesAt i name y js logs (Ok tt) (record y { core = core }) ks' mid
remove-kept i name gone left y core js ks' logs mid UnknownRecord removes is_k is_l = (gone, left, core, inr (removes, (λ t. record y { core = removes.1 t }), is_k, is_l))
remove-kept i name gone left y core js ks' logs mid _ removes is_k is_l = absurd removes

-- ---- a world after it

module _ (cs : List ClientSide) (ss : List ServerSide) (ks : List Joined) (cl : List (List Line)) (sl : List (List Entry)) (m : ℕ) (i : ℕ) (y : ServerSide) (at : At ss i y) (name : List ℕ) where
  abbrev there : IsServer (world_of cs ss ks cl sl m) i
  there = record { y = server_of y; at = At-map server_of ss i y at }

  abbrev Did : ServerSide → List Joined → List (List Entry) → Result (Unit {0}) Refusal → Type 0
  Did y' ks' sl' r = RemovesAt i name y (map joined_of ks) sl r y' (map joined_of ks') sl'

  pub remove-does : (y' : ServerSide) (ks' : List Joined) (sl' : List (List Entry)) (r : Result (Unit {0}) Refusal) → Did y' ks' sl' r
      → Does (world_of cs ss ks cl sl m) (Remove i name) r (world_of cs (slice_set ss i y') ks' cl sl' m)
  remove-does y' ks' sl' (Ok u) (gone, left, core, inl (removes, did)) =
      let js : List model.Joined = map joined_of ks in
      let f : model.Joined → model.Joined = removed_at i y.core name gone left in
      let rs : List model.RecordSide = filter (λ (r : model.RecordSide). not (bytes_eq r.name name)) (map record_of y.records.items) in
      let quits : ℕ → Bool = ends_at (ends_by i core) (map f js) in
      let side : server_of y' ≡ record (server_of y) { core = reported core; records = map (without_puts quits) rs } =
      did.reports.side ∙ (λ t. record (server_of y) { core = reported core; records = map (without_puts quits) (did.records t) }) in
      let mid : model.ServerSide = record (server_of y) { records = rs } in (
        there,
        (
          gone,
          left,
          core,
          inl (
            removes,
            λ t. record {
              clients = map client_of cs;
              servers = (set-map server_of ss i y' ∙ ap (slice_set (map server_of ss) i) side ∙ sym (set-twice (map server_of ss) i mid (record (server_of y) { core = reported core; records = map (without_puts quits) rs }))) t;
              circuits = did.reports.circuits t;
              client_logs = cl;
              server_logs = (did.reports.logged ∙ (λ z. grown y.life (withdrawals quits (did.records z)) (grown y.life (removal_entries name (map record_of y.records.items)) sl))) t;
              moment = m;
            },
          ),
        ),
      )
  remove-does y' ks' sl' (Ok u) (gone, left, core, inr (removes, is_y, is_k, is_l)) = (there, (gone, left, core, inr (removes, server-stays cs ss ks ks' cl sl sl' m i y y' at (ap server_of is_y) is_k is_l)))
  remove-does y' ks' sl' (Err OutOfMemory) (held, is_y, is_k, is_l) = ((there, held), server-stays cs ss ks ks' cl sl sl' m i y y' at (ap server_of is_y) is_k is_l)
  remove-does y' ks' sl' (Err _) d = absurd d

  -- circuits are found as before
  pub remove-indexed : (numbers : List (List ℕ)) (y' : ServerSide) (ks' : List Joined) (sl' : List (List Entry)) (r : Result (Unit {0}) Refusal) → Did y' ks' sl' r
      → AreIndexed numbers (server_numbers ss) (map joined_of ks) → AreIndexed numbers (server_numbers (slice_set ss i y')) (map joined_of ks')
  remove-indexed numbers y' ks' sl' (Ok u) (gone, left, core, inl (removes, did)) h =
      let js : List model.Joined = map joined_of ks in
      let f : model.Joined → model.Joined = removed_at i y.core name gone left in
      indexed-server numbers ss i y y' _ (map joined_of ks') at did.reports.numbers did.reports.circuits
      (indexed-map numbers (server_numbers ss) (map f js) (indexed-map numbers (server_numbers ss) js h f (removal-keeps i y.core name gone left)) (ending (ends_by i core)) (ending-keeps (ends_by i core)))
  remove-indexed numbers y' ks' sl' (Ok u) (gone, left, core, inr (removes, is_y, is_k, is_l)) h =
      indexed-server numbers ss i y y' (map joined_of ks) (map joined_of ks') at (ap (λ (z : ServerSide). z.circuits.items) is_y) is_k h
  remove-indexed numbers y' ks' sl' (Err OutOfMemory) (held, is_y, is_k, is_l) h =
      indexed-server numbers ss i y y' (map joined_of ks) (map joined_of ks') at (ap (λ (z : ServerSide). z.circuits.items) is_y) is_k h
  remove-indexed numbers y' ks' sl' (Err _) d h = absurd d
