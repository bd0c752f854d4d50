-- A value is posted at a server, from what its parts became.
use Rattle.std.proofs.Common.{◌≡◌, ℕ, zero, suc, ◌==◌, ◌&&◌, inl, inr, Bool, true, false, List, [], ◌∷◌, Option, Some, None, Result, Ok, Err, refl, sym, ap, subst, ◌∙◌}
use Rattle.std.specs.Prelude.{filter, if◌then◌else◌, is_some, map, option_map, slice_set, unwrap_or}
use Rattle.std.specs.List.{fold}
use Rattle.ca_arena.specs.declared.handle.Handle.{Handle}
use Rattle.ca_dbr.specs.Elements.{Elements}
use Rattle.ca_ids.specs.Table.{Table, under, with_each}
use Rattle.ca_queue.specs.declared.entry.SubKey.{SubKey}
use Rattle.ca_queue.specs.Circuit.{queue_posted}
use Rattle.ca_queue.specs.Images.{queue_images}
use Rattle.ca_queue.specs.Keys.{is_among}
use Rattle.ca_queue.specs.Queue.{Queue, posted}
use Rattle.ca_records.specs.Calls.{PostFault}
use Rattle.ca_records.specs.Record.{unset}
use Rattle.ca_text.specs.declared.refusal.Refusal.{Refusal}
use Rattle.ca_text.specs.declared.refusal.Refusal.TheVariants.{OutOfMemory}
use Rattle.ca_text.specs.Place.{At}
use Rattle.ca_text.proofs.Places.{At-map, At-mapped}
use Rattle.ca_model.specs.Ends as why
use Rattle.ca_model.specs.History.{Entry, Line}
use Rattle.ca_model.specs.Server.{Ended, Open, Server, ServerCircuit, ServerEnd, Subscription, concerns, key_of, with_post}
use Rattle.ca_model.specs.ServerCalls.{Posts}
use Rattle.ca_model.specs.ServerSteps.{reached}
use Rattle.ca_model.specs.Speech.{Stored}
use Rattle.ca_model.specs.Events.{Post}
use Rattle.ca_model.specs.Runs.{IsServer}
use Rattle.ca_model.specs.ServerEvents.{ending, ends_by, keys_concerned, left_by, numbers_posted, posted_entry, reported, server_closed, withdrawals, with_number, without_puts}
use Rattle.ca_model.specs.World.{grown}
use Rattle.ca_model.specs.World as model
use Rattle.ca_laws_parts.proofs.BytesRuns.{reached-in-step}
use Rattle.ca_laws_parts.proofs.ServerFits.{each-changed}
use Rattle.ca_laws_parts.specs.InStep.{EndInStep, number_in, value_in}
use Rattle.ca_laws_parts.proofs.Cores.{each-there}
use Rattle.ca_laws_parts.specs.WritesSteps.{AllInStep}
use Rattle.ca_world_data.specs.declared.client.ClientSide.{ClientSide}
use Rattle.ca_world_data.specs.declared.joined.Joined.{Joined}
use Rattle.ca_world_data.specs.declared.server.ServerSide.{ServerSide}
use Rattle.ca_world_data.specs.Does.{Does}
use Rattle.ca_world_data.specs.Indexed.{AreIndexed, server_numbers}
use Rattle.ca_world_data.specs.Numbering.{AllAlike, AreAlike, IsAlike, keys_within}
use Rattle.ca_world_data.specs.Posting.{PostsAt, TellsPost}
use Rattle.ca_world_data.specs.Reporting.{AreServed, gone_at}
use Rattle.ca_world_data.specs.Seen.{client_of, joined_of, record_of, server_of}
use Rattle.ca_world_data.proofs.Indexes.{KeepsEnds, ends-stay, indexed-map, indexed-server}
use Rattle.ca_world_data.proofs.Worlds.{server-stays, set-map, world_of}
use Rattle.ca_world.specs.Whole.{IsReached}

-- ---- ends beside their circuits

within-images : {E F : Type 0} (f : E → F) (qs : List (Queue E)) → keys_within (map (queue_images f) qs) ≡ keys_within qs
within-images f [] = refl
within-images f (q ∷ qs) = (λ i. q.subscriptions ∷ within-images f qs i)

alike-end : (e : ServerEnd) (j : model.Joined) → EndInStep e j → AreAlike e j
alike-end e j s = record {
  keys = s.keys;
  apart = s.apart;
  queues =
      ap keys_within s.queues.numbers_are ∙ within-images number_in s.queues.both
      ∙ sym (ap keys_within s.queues.values_are ∙ within-images value_in s.queues.both);
}

-- so it is in every run
pub run-alike : (w : model.World) (i : ℕ) (y : model.ServerSide) → IsReached w → At w.servers i y → AllAlike i y.core w.circuits
run-alike w i y (s, es, ok, folds) at k j there mine on = go (under y.core.circuits j.at_server) refl
  where
    in_step : AllInStep w
    in_step = reached-in-step w (s, es, None, ok, (w, folds, refl))

    go : (o : Option ServerCircuit) → under y.core.circuits j.at_server ≡ o → IsAlike o j
    go None is = tt
    go (Some (Ended cause left)) is = tt
    go (Some (Open e)) is = alike-end e j (in_step k j y e there (subst (λ (n : ℕ). At w.servers n y) (sym mine) at) on is)

-- ---- the core after a post

pub each-under : (f : Handle → ServerCircuit → ServerCircuit) (t : Table ServerCircuit) (h : Handle) → under (with_each f t) h ≡ option_map (f h) (under t h)
each-under f t h = go (under t h) (under (with_each f t) h) refl refl
  where
    go : (a b : Option ServerCircuit) → under t h ≡ a → under (with_each f t) h ≡ b → under (with_each f t) h ≡ option_map (f h) (under t h)
    go (Some c) b is there = each-there f t h c is ∙ sym (ap (option_map (f h)) is)
    go None None is there = there ∙ sym (ap (option_map (f h)) is)
    go None (Some d) is there = (let m = each-changed f t h d there in absurd (none-some m.0 (sym is ∙ m.1)))
      where
        none-some : (c : ServerCircuit) → (let x : Option ServerCircuit = None in x ≡ Some c) → ⊥
        none-some c e = cc

module _ (name : List ℕ) (mask : ℕ) (v : Stored) (gone : Handle → Bool) where
  within-posted : (key : SubKey) (qs : List (Queue Stored)) → keys_within (map (queue_posted key v) qs) ≡ keys_within qs
  within-posted key [] = refl
  within-posted key (q ∷ qs) = (λ i. one (is_among key q.subscriptions) i ∷ within-posted key qs i)
    where
      one : (b : Bool) → (if b then posted key v q else q).subscriptions ≡ q.subscriptions
      one true = refl
      one false = refl

  within-all : (ss : List Subscription) (qs : List (Queue Stored)) → keys_within (fold (λ (rs : List (Queue Stored)) (s : Subscription). map (queue_posted (key_of s) v) rs) qs ss) ≡ keys_within qs
  within-all [] qs = refl
  within-all (s ∷ ss) qs = within-all ss (map (queue_posted (key_of s) v) qs) ∙ within-posted (key_of s) qs

  -- a post that reaches an end
  pub reached-alike : (h : Handle) (o : Option ServerCircuit) (j : model.Joined) → IsAlike o j → IsAlike (option_map (reached name mask v gone h) o) j
  reached-alike h None j a = tt
  reached-alike h (Some (Ended cause left)) j a = tt
  reached-alike h (Some (Open e)) j a = go (gone h)
    where
      go : (b : Bool) → IsAlike (Some (if b then Ended why.OutOfMemory e.link.output else Open (with_post name mask v e))) j
      go true = tt
      go false = record { keys = a.keys; apart = a.apart; queues = a.queues ∙ sym (within-all (filter (concerns name mask) e.subscriptions) e.queues) }

  post-under : (y core : Server) → Posts y name v mask gone (Ok tt) core → (h : Handle) → under core.circuits h ≡ option_map (reached name mask v gone h) (under y.circuits h)
  post-under y core posts h = ap (λ (z : Server). under z.circuits h) posts.2 ∙ each-under (reached name mask v gone) y.circuits h

  pub alike-posted : (y core : Server) → Posts y name v mask gone (Ok tt) core → (i : ℕ) (ks : List model.Joined) → AllAlike i y ks → AllAlike i core ks
  alike-posted y core posts i ks all k j at mine on =
      let h : Handle = j.at_server in
      subst (λ (o : Option ServerCircuit). IsAlike o j) (sym (post-under y core posts h)) (reached-alike h (under y.circuits h) j (all k j at mine on))

-- ---- numbers

-- a circuit with numbers more ends as before
ends-fold : (i : ℕ) (core : Server) (keys : List SubKey) (j : model.Joined) → ends_by i core (fold with_number j keys) ≡ ends_by i core j
ends-fold i core [] j = refl
ends-fold i core (key ∷ keys) j = ends-fold i core keys (with_number j key)

pub closed-fold : (left : List ℕ) (keys : List SubKey) (j : model.Joined) → server_closed left (fold with_number j keys) ≡ server_closed left j
closed-fold left [] j = refl
closed-fold left (key ∷ keys) j = closed-fold left keys (with_number j key)

fold-keeps : (keys : List SubKey) (j : model.Joined) → KeepsEnds j (fold with_number j keys)
fold-keeps [] j = ends-stay j j refl
fold-keeps (key ∷ keys) j =
    let k : KeepsEnds (with_number j key) (fold with_number (with_number j key) keys) = fold-keeps keys (with_number j key) in
    record { client = k.client; server = k.server; at_client = k.at_client; at_server = k.at_server; closes = k.closes; stops = k.stops }

module _ (i : ℕ) (core : Server) (name : List ℕ) (mask : ℕ) where
  abbrev numbers : model.Joined → model.Joined
  numbers = numbers_posted i core name mask

  pub posted-keeps : (j : model.Joined) → KeepsEnds j (numbers j)
  posted-keeps j = go (j.server == i && j.lists.server_open)
    where
      go : (b : Bool) → KeepsEnds j (if b then fold with_number j (keys_concerned name mask (under core.circuits j.at_server)) else j)
      go true = fold-keeps (keys_concerned name mask (under core.circuits j.at_server)) j
      go false = ends-stay j j refl

  ends-posted : (other : Server) (j : model.Joined) → ends_by i other (numbers j) ≡ ends_by i other j
  ends-posted other j = go (j.server == i && j.lists.server_open)
    where
      go : (b : Bool) → ends_by i other (if b then fold with_number j (keys_concerned name mask (under core.circuits j.at_server)) else j) ≡ ends_by i other j
      go true = ends-fold i other (keys_concerned name mask (under core.circuits j.at_server)) j
      go false = refl

  -- the server finds its circuits still
  pub served-posted : (own : List ℕ) (ks : List model.Joined) → AreServed own ks i → AreServed own (map numbers ks) i
  served-posted own ks served k new there mine on =
      let d = At-mapped numbers ks k new there in
      let keeps : KeepsEnds d.0 new = subst (λ (z : model.Joined). KeepsEnds d.0 z) (sym d.2) (posted-keeps d.0) in
      subst (λ (h : Handle). At own h.index k) (sym keeps.at_server) (served k d.0 d.1 (sym keeps.server ∙ mine) (keeps.stops on))

  -- of the circuits that end the same end
  gone-posted : (other : Server) (ks : List model.Joined) → gone_at i other (map numbers ks) ≡ gone_at i other ks
  gone-posted other ks = (λ t n. each ks n t)
    where
      each : (ks : List model.Joined) (n : ℕ) → gone_at i other (map numbers ks) n ≡ gone_at i other ks n
      each [] n = refl
      each (j ∷ ks) zero = ap is_some (ends-posted other j)
      each (j ∷ ks) (suc n) = each ks n

ending-by : (ends : model.Joined → Option (List ℕ)) (j : model.Joined) (o : Option (List ℕ)) → ends j ≡ o → ending ends j ≡ unwrap_or (option_map (λ (left : List ℕ). server_closed left j) o) j
ending-by ends j o is = ap (λ (z : Option (List ℕ)). unwrap_or (option_map (λ (left : List ℕ). server_closed left j) z) j) is

pub ending-keeps : (ends : model.Joined → Option (List ℕ)) (j : model.Joined) → KeepsEnds j (ending ends j)
ending-keeps ends j = go (ends j)
  where
    go : (o : Option (List ℕ)) → KeepsEnds j (unwrap_or (option_map (λ (left : List ℕ). server_closed left j) o) j)
    go None = ends-stay j j refl
    go (Some left) = record { client = refl; server = refl; at_client = refl; at_server = refl; closes = λ on. on; stops = λ on. absurd cc }

-- what the core concerns before the post and after it, on circuits as they end
module _ (name : List ℕ) (mask : ℕ) (v : Stored) (gone : Handle → Bool) (y core : Server) (posts : Posts y name v mask gone (Ok tt) core) (i : ℕ) where
  abbrev ends : model.Joined → Option (List ℕ)
  ends = ends_by i core

  numbers-agree : (j : model.Joined) → ending ends (numbers_posted i core name mask j) ≡ ending ends (numbers_posted i y name mask j)
  numbers-agree j = go (j.server == i && j.lists.server_open) refl
    where
      h : Handle
      h = j.at_server

      with_keys : Option ServerCircuit → model.Joined
      with_keys o = fold with_number j (keys_concerned name mask o)

      -- an end that ends has no numbers
      over : (left : List ℕ) (a b : List SubKey) → ends j ≡ Some left → ending ends (fold with_number j a) ≡ ending ends (fold with_number j b)
      over left a b is =
          ending-by ends (fold with_number j a) (Some left) (ends-fold i core a j ∙ is) ∙ closed-fold left a j ∙ sym (closed-fold left b j)
          ∙ sym (ending-by ends (fold with_number j b) (Some left) (ends-fold i core b j ∙ is))

      by : (o : Option ServerCircuit) → under y.circuits h ≡ o → under core.circuits h ≡ option_map (reached name mask v gone h) o → (j.server == i && j.lists.server_open) ≡ true → ending ends (with_keys (under core.circuits h)) ≡ ending ends (with_keys (under y.circuits h))
      by None is so on = ap (λ (z : Option ServerCircuit). ending ends (with_keys z)) (so ∙ sym is)
      by (Some (Ended cause left)) is so on = ap (λ (z : Option ServerCircuit). ending ends (with_keys z)) (so ∙ sym is)
      by (Some (Open e)) is so on = one (gone h) refl
        where
          one : (b : Bool) → gone h ≡ b → ending ends (with_keys (under core.circuits h)) ≡ ending ends (with_keys (under y.circuits h))
          one true g =
              let there : under core.circuits h ≡ Some (Ended why.OutOfMemory e.link.output) = so ∙ ap (λ (b : Bool). Some (if b then Ended why.OutOfMemory e.link.output else Open (with_post name mask v e))) g in
              let it_ends : ends j ≡ Some e.link.output = ap (λ (b : Bool). if b then left_by (under core.circuits h) else None) on ∙ ap left_by there in
              over e.link.output (keys_concerned name mask (under core.circuits h)) (keys_concerned name mask (under y.circuits h)) it_ends
          one false g =
              let there : under core.circuits h ≡ Some (Open (with_post name mask v e)) = so ∙ ap (λ (b : Bool). Some (if b then Ended why.OutOfMemory e.link.output else Open (with_post name mask v e))) g in
              ap (λ (z : Option ServerCircuit). ending ends (with_keys z)) there ∙ sym (ap (λ (z : Option ServerCircuit). ending ends (with_keys z)) is)

      go : (b : Bool) → (j.server == i && j.lists.server_open) ≡ b → ending ends (if j.server == i && j.lists.server_open then with_keys (under core.circuits h) else j) ≡ ending ends (if j.server == i && j.lists.server_open then with_keys (under y.circuits h) else j)
      go true is =
          ap (λ (b : Bool). ending ends (if b then with_keys (under core.circuits h) else j)) is ∙ by (under y.circuits h) refl (post-under name mask v gone y core posts h) is
          ∙ sym (ap (λ (b : Bool). ending ends (if b then with_keys (under y.circuits h) else j)) is)
      go false is = ap (λ (b : Bool). ending ends (if b then with_keys (under core.circuits h) else j)) is ∙ sym (ap (λ (b : Bool). ending ends (if b then with_keys (under y.circuits h) else j)) is)

  pub all-agree : (ks : List model.Joined) → map (ending ends) (map (numbers_posted i core name mask) ks) ≡ map (ending ends) (map (numbers_posted i y name mask) ks)
  all-agree [] = refl
  all-agree (j ∷ ks) = (λ t. numbers-agree j t ∷ all-agree ks t)

  pub gone-agree : (ks : List model.Joined) → gone_at i core (map (numbers_posted i core name mask) ks) ≡ gone_at i core (map (numbers_posted i y name mask) ks)
  gone-agree ks = gone-posted i core name mask core ks ∙ sym (gone-posted i y name mask core ks)

-- ---- a server after it

pub post-told : (i : ℕ) (name : List ℕ) (v told : Stored) (mask : ℕ) (y y' : ServerSide) (core : Server) (gone : Handle → Bool) (ks ks' : List model.Joined) (logs mid logs' : List (List Entry)) → Posts y.core name v mask gone (Ok tt) core → told ≡ v → mid ≡ logs
    → TellsPost i name told mask (record y { core = core }) ks mid y' ks' logs' → PostsAt i name v mask y ks logs (Ok tt) y' ks' logs'
post-told i name v told mask y y' core gone ks ks' logs mid logs' posts is_v is_l did =
    (gone, core, inl (posts, subst (λ (z : Stored × List (List Entry)). TellsPost i name z.0 mask (record y { core = core }) ks z.1 y' ks' logs') (λ t. (is_v t, is_l t)) did))

-- being out of memory is no refusal
pub post-kept : (i : ℕ) (name : List ℕ) (v : Stored) (mask : ℕ) (y : ServerSide) (core : Server) (gone : Handle → Bool) (ks : List model.Joined) (logs mid : List (List Entry)) (e : Refusal) → Posts y.core name v mask gone (Err e) core → mid ≡ logs
    → PostsAt i name v mask y ks logs (Ok tt) (record y { core = core }) ks mid
post-kept i name v mask y core gone ks logs mid e posts is_l =
    (gone, core, inr (e, (λ is. subst (λ (z : Refusal). PostFault y.core.records name v.value z) is posts.0), posts, (λ t. record y { core = posts.1 t }), refl, is_l))

-- ---- a world after it

module _ (cs : List ClientSide) (ss : List ServerSide) (ks : List Joined) (cl : List (List Line)) (sl : List (List Entry)) (m : ℕ) (i : ℕ) (y : ServerSide) (at : At ss i y) (name : List ℕ) (e : Elements) (mask : ℕ) where
  abbrev v : Stored
  v = record { value = e; meta = unset }

  abbrev there : IsServer (world_of cs ss ks cl sl m) i
  there = record { y = server_of y; at = At-map server_of ss i y at }

  pub post-does : (y' : ServerSide) (ks' : List Joined) (sl' : List (List Entry)) (r : Result (Unit {0}) Refusal) → PostsAt i name v mask y (map joined_of ks) sl r y' (map joined_of ks') sl'
      → Does (world_of cs ss ks cl sl m) (Post i name e mask) r (world_of cs (slice_set ss i y') ks' cl sl' m)
  post-does y' ks' sl' (Ok u) (gone, core, inl (posts, did)) =
      let js : List model.Joined = map joined_of ks in
      let rs : List model.RecordSide = map record_of y.records.items in
      let same = gone-agree name mask v gone y.core core posts i js in
      let side : server_of y' ≡ record (server_of y) { core = reported core; records = map (without_puts (gone_at i core (map (numbers_posted i y.core name mask) js))) rs } =
      did.side ∙ (λ t. record (server_of y) { core = reported core; records = map (without_puts (same t)) rs }) in (
        there,
        (
          gone,
          core,
          inl (
            posts,
            λ t. record {
              clients = map client_of cs;
              servers = (set-map server_of ss i y' ∙ ap (slice_set (map server_of ss) i) side) t;
              circuits = (did.circuits ∙ all-agree name mask v gone y.core core posts i js) t;
              client_logs = cl;
              server_logs = (did.logged ∙ (λ z. grown y.life (withdrawals (same z) rs) (grown y.life (posted_entry (server_of y) name v mask) sl))) t;
              moment = m;
            },
          ),
        ),
      )
  post-does y' ks' sl' (Ok u) (gone, core, inr (f, other, posts, is_y, is_k, is_l)) =
      (there, (gone, core, inr (f, other, posts, server-stays cs ss ks ks' cl sl sl' m i y y' at (ap server_of is_y) is_k is_l)))
  post-does y' ks' sl' (Err OutOfMemory) (fits, is_y, is_k, is_l) = ((there, fits), server-stays cs ss ks ks' cl sl sl' m i y y' at (ap server_of is_y) is_k is_l)
  post-does y' ks' sl' (Err _) d = absurd d

  -- circuits are found as before
  pub post-indexed : (numbers : List (List ℕ)) (y' : ServerSide) (ks' : List Joined) (sl' : List (List Entry)) (r : Result (Unit {0}) Refusal) → PostsAt i name v mask y (map joined_of ks) sl r y' (map joined_of ks') sl'
      → AreIndexed numbers (server_numbers ss) (map joined_of ks) → AreIndexed numbers (server_numbers (slice_set ss i y')) (map joined_of ks')
  post-indexed numbers y' ks' sl' (Ok u) (gone, core, inl (posts, did)) h =
      let js : List model.Joined = map joined_of ks in
      indexed-server numbers ss i y y' _ (map joined_of ks') at did.numbers did.circuits
      (indexed-map numbers (server_numbers ss) (map (numbers_posted i core name mask) js) (indexed-map numbers (server_numbers ss) js h (numbers_posted i core name mask) (posted-keeps i core name mask)) (ending (ends_by i core)) (ending-keeps (ends_by i core)))
  post-indexed numbers y' ks' sl' (Ok u) (gone, core, inr (f, other, posts, is_y, is_k, is_l)) h =
      indexed-server numbers ss i y y' (map joined_of ks) (map joined_of ks') at (ap (λ (z : ServerSide). z.circuits.items) is_y) is_k h
  post-indexed numbers y' ks' sl' (Err OutOfMemory) (fits, is_y, is_k, is_l) h =
      indexed-server numbers ss i y y' (map joined_of ks) (map joined_of ks') at (ap (λ (z : ServerSide). z.circuits.items) is_y) is_k h
  post-indexed numbers y' ks' sl' (Err _) d h = absurd d
