-- What calls of a client on its channels leave of a world.
use Rattle.std.proofs.Common.{◌≡◌, ℕ, inl, inr, List, [], ◌∷◌, Result, Ok, Err, refl, sym, ap, subst, ◌∙◌}
use Rattle.std.specs.Prelude.{map, slice_set}
use Rattle.ca_arena.specs.declared.handle.Handle.{Handle}
use Rattle.ca_text.specs.declared.refusal.Refusal.{Refusal}
use Rattle.ca_text.specs.declared.refusal.Refusal.TheVariants.{BadEvent, OutOfMemory}
use Rattle.ca_text.specs.Place.{At}
use Rattle.ca_text.proofs.Places.{At-map, At-one}
use Rattle.ca_model.specs.Answers.{Sending}
use Rattle.ca_model.specs.Client.{Client}
use Rattle.ca_model.specs.History.{Line}
use Rattle.ca_model.specs.History as history
use Rattle.ca_model.specs.ClientEvents.{Called, client_after}
use Rattle.ca_model.specs.Runs.{HadChannel, IsEvent}
use Rattle.ca_model.specs.World.{grown}
use Rattle.ca_model.specs.World as model
use Rattle.ca_world_data.specs.declared.client.ClientSide.{ClientSide}
use Rattle.ca_world.specs.declared.world.World.TheInside.{Inside}
use Rattle.ca_model.specs.Events.{Event}
use Rattle.ca_laws_runs.specs.Quiet.{Tidy}
use Rattle.ca_laws_parts.specs.Client.{IsSound}
use Rattle.ca_world_data.specs.Does.{Does}
use Rattle.ca_world_data.specs.Found.{AreNumbered}
use Rattle.ca_world_data.specs.Logs.{Notes}
use Rattle.ca_world_data.specs.Indexed.{AreIndexed, client_numbers, server_numbers}
use Rattle.ca_world.specs.Whole.{Stands, seen}
use Rattle.ca_world_data.specs.Seen.{client_of, joined_of}
use Rattle.ca_world_data.specs.Speaking.{CallsOn, sent_up}
use Rattle.ca_world_data.proofs.Indexes.{indexed-map, indexed-same, numbered-of, numbers-set}
use Rattle.ca_world.proofs.Lasting.{all-stand}
use Rattle.ca_world_data.proofs.Worlds.{set-map, set-same}
use Rattle.ca_world_data.proofs.Momentary.{sent-keeps}

-- the world with another client, other logs and other circuits
abbrev pub spoken_in : (i : ℕ) → model.ClientSide → List (List Line) → List model.Joined → model.World → model.World
spoken_in i x logs ks w = record w { clients = slice_set w.clients i x; client_logs = logs; circuits = ks }

-- nothing changed
pub spoken-same : (i : ℕ) (x x' : model.ClientSide) (logs : List (List Line)) (ks : List model.Joined) (w : model.World) → At w.clients i x → x' ≡ x → logs ≡ w.client_logs → ks ≡ w.circuits → spoken_in i x' logs ks w ≡ w
spoken-same i x x' logs ks w at side logged stay =
    (λ t. spoken_in i (side t) (logged t) (stay t) w) ∙ (λ t. record w { clients = set-same w.clients i x at t })

module _ {K A : Type 0} (i : ℕ) (Named : K → Type 0) (Answers : K → Result A Refusal → List Sending → Client → Type 0) (spoken names : K → A → model.Names) (lines : K → A → List Line) (w : model.World) (x x' : model.ClientSide) (logs : List (List Line)) (ks : List model.Joined) (at : At w.clients i x) where
  -- a call is refused, or done
  pub calls-ok : (u : Unit {0}) → CallsOn i Named Answers spoken names lines x w.client_logs w.circuits (Ok u) x' logs ks
      → (h : K) × Named h × Called i x (Answers h) (λ (a : A) (sent : List Sending) (core : Client). client_after i x (spoken h a) (record { core = core; names = names h a; lines = lines h a; sent = sent })) w (spoken_in i x' logs ks w)
  calls-ok u (h, named, inl d) = (
    h,
    named,
    inl (
      d.e,
      d.other,
      d.refused,
      (λ t. spoken_in i (d.side t) (d.logged t) (d.stay t) w) ∙ (λ t. record w { clients = set-same w.clients i x at t; client_logs = grown x.life (history.Refused d.e ∷ []) w.client_logs }),
    ),
  )
  calls-ok u (h, named, inr (a, d)) =
      (h, named, inr (a, d.sent, x'.core, d.does, (λ t. spoken_in i (d.side t) (d.logged t) (d.goes t) w)))

-- a call that was refused
pub call-noted : {K A : Type 0} (i : ℕ) (Named : K → Type 0) (Answers : K → Result A Refusal → List Sending → Client → Type 0) (spoken names : K → A → model.Names) (lines : K → A → List Line) (x x' : model.ClientSide) (logs logs' : List (List Line)) (ks ks' : List model.Joined) (h : K) (e : Refusal) (r : Result (Unit {0}) Refusal)
    → Named h → Answers h (Err e) [] x.core → x' ≡ x → ks' ≡ ks → Notes x.life e logs r logs' → CallsOn i Named Answers spoken names lines x logs ks r x' logs' ks'
call-noted i Named Answers spoken names lines x x' logs logs' ks ks' h e (Ok u) named is side stay n =
    (h, named, inl (record { e = e; other = n.0; refused = is; side = side; logged = n.1; stay = stay }))
call-noted i Named Answers spoken names lines x x' logs logs' ks ks' h e (Err r) named is side stay n =
    subst (λ (z : Refusal). CallsOn i Named Answers spoken names lines x logs ks (Err z) x' logs' ks') (sym n.1) (h, named, side, n.2, stay)

pub calls-keep : {K A : Type 0} (i : ℕ) (Named : K → Type 0) (Answers : K → Result A Refusal → List Sending → Client → Type 0) (spoken names : K → A → model.Names) (lines : K → A → List Line) (x x' : model.ClientSide) (logs logs' : List (List Line)) (ks ks' : List model.Joined) (r : Result (Unit {0}) Refusal)
    → CallsOn i Named Answers spoken names lines x logs ks r x' logs' ks' → (cs ss : List (List ℕ)) → AreIndexed cs ss ks → AreIndexed cs ss ks'
calls-keep i Named Answers spoken names lines x x' logs logs' ks ks' (Ok u) (h, named, inl d) cs ss is = indexed-same cs cs ss ss ks ks' refl refl d.stay is
calls-keep i Named Answers spoken names lines x x' logs logs' ks ks' (Ok u) (h, named, inr (a, d)) cs ss is =
    indexed-same cs cs ss ss (map (sent_up i (spoken h a) d.sent) ks) ks' refl refl d.goes (indexed-map cs ss ks is (sent_up i (spoken h a) d.sent) (sent-keeps i (spoken h a) d.sent))
calls-keep i Named Answers spoken names lines x x' logs logs' ks ks' (Err OutOfMemory) d cs ss is = indexed-same cs cs ss ss ks ks' refl refl d.4 is
calls-keep i Named Answers spoken names lines x x' logs logs' ks ks' (Err BadEvent) d cs ss is = indexed-same cs cs ss ss ks ks' refl refl d.3 is
calls-keep i Named Answers spoken names lines x x' logs logs' ks ks' (Err _) d cs ss is = absurd d

-- no channel, and no subscription, has this number
pub no-channel : (w : model.World) (i c : ℕ) (x : model.ClientSide) → At w.clients i x → ((h : Handle) → At x.names.channels c h → ⊥) → HadChannel w i c → ⊥
no-channel w i c x at none had =
    let is : had.x ≡ x = At-one w.clients i had.x x had.at at in
    none had.h (subst (λ (z : model.ClientSide). At z.names.channels c had.h) is had.named)

-- the world as its parts are, once a client was spoken to
pub spoken-real : (w : Inside) (i : ℕ) (x' : ClientSide) (logs : List (List Line)) (ks : List model.Joined) → spoken_in i (client_of x') logs ks (seen w) ≡ record (seen w) { clients = map client_of (slice_set w.clients.items i x'); client_logs = logs; circuits = ks }
spoken-real w i x' logs ks = λ t. record (seen w) { clients = sym (set-map client_of w.clients.items i x') t; client_logs = logs; circuits = ks }

-- ---- a client is spoken to

module _ (w : Inside) (k : ℕ) (x : ClientSide) (at : At w.clients.items k x) (s : Stands w) where
  -- names name what tables gave
  pub sound-here : IsSound (client_of x).names x.core
  sound-here = s.clients.sound k (client_of x) (At-map client_of w.clients.items k x at)

  -- channels have one number, and what is named is as the client's tables are
  pub tidy-here : Tidy (client_of x).names x.core
  tidy-here = s.quiet.tidy k (client_of x) (At-map client_of w.clients.items k x at)

  -- it knows its circuits by number
  pub numbered-here : AreNumbered x.circuits.items (map joined_of w.circuits.items) k
  numbered-here =
      numbered-of (client_numbers w.clients.items) (server_numbers w.servers.items) (map joined_of w.circuits.items) s.indexed k x.circuits.items
      (At-map (λ (z : ClientSide). z.circuits.items) w.clients.items k x at)

  module _ (e : Event) (r : Result (Unit {0}) Refusal) (x' : ClientSide) (logs : List (List Line)) (ks : List model.Joined) (d : Does (seen w) e r (spoken_in k (client_of x') logs ks (seen w))) where
    -- what it did, as the world's parts are
    pub speaks : Does (seen w) e r (record (seen w) { clients = map client_of (slice_set w.clients.items k x'); client_logs = logs; circuits = ks })
    speaks = subst (λ (z : model.World). Does (seen w) e r z) (spoken-real w k x' logs ks) d

    -- all that holds of a world
    pub speaks-stand : IsEvent e → (new : Inside) → seen new ≡ record (seen w) { clients = map client_of (slice_set w.clients.items k x'); client_logs = logs; circuits = ks } → x'.circuits.items ≡ x.circuits.items → new.clients.items ≡ slice_set w.clients.items k x' → new.servers.items ≡ w.servers.items
        → ((cs ss : List (List ℕ)) → AreIndexed cs ss (map joined_of w.circuits.items) → AreIndexed cs ss ks) → Stands new
    speaks-stand fine new is same clients servers keep =
        let numbers : client_numbers new.clients.items ≡ client_numbers w.clients.items = ap client_numbers clients ∙ numbers-set (λ (z : ClientSide). z.circuits.items) w.clients.items k x x' at same in
        all-stand w new e fine r (subst (λ (z : model.World). Does (seen w) e r z) (sym is) speaks) s
        (indexed-same (client_numbers w.clients.items) (client_numbers new.clients.items) (server_numbers w.servers.items) (server_numbers new.servers.items) ks (map joined_of new.circuits.items)
        numbers (ap server_numbers servers) (ap (λ (z : model.World). z.circuits) is)
        (keep (client_numbers w.clients.items) (server_numbers w.servers.items) s.indexed))
