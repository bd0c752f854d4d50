-- What calls of a client leave of a world.
use Rattle.std.proofs.Common.{◌≡◌, ℕ, zero, suc, ◌+◌, ◌≤◌, inl, inr, Bool, true, false, List, [], ◌∷◌, ◌++◌, Result, Ok, Err, length, refl, sym, ap, subst, ◌∙◌, arith}
use Rattle.std.specs.Prelude.{if◌then◌else◌, map, slice_set, unwrap_or, Vec, vec_capacity, vec_len}
use Rattle.std.proofs.lemmas.List.{append-nil, map-append}
use Rattle.std.specs.declared.alloc.Global.{Global}
use Rattle.ca_text.specs.declared.refusal.Refusal.{Refusal}
use Rattle.ca_text.specs.declared.refusal.Refusal.TheVariants.{OutOfMemory}
use Rattle.ca_text.specs.Place.{At}
use Rattle.ca_text.proofs.Places.{At-map, At-within, some_is}
use Rattle.ca_model.specs.Client.{Client}
use Rattle.ca_model.specs.History as history
use Rattle.ca_model.specs.ClientEvents.{client_after, sent_on}
use Rattle.ca_model.specs.Events.{Open}
use Rattle.ca_model.specs.World.{grown}
use Rattle.ca_model.specs.World as model
use Rattle.ca_world_data.specs.declared.history.Line.{Line}
use Rattle.ca_world_data.specs.Does.{Does}
use Rattle.ca_world_data.specs.Logs.{HasRoom, lines_in}
use Rattle.ca_world_data.specs.Opens.{OpensOn}
use Rattle.ca_world_data.specs.Seen.{line_of}
use Rattle.ca_world_data.proofs.Worlds.{set-map, set-same}

-- ---- logs

-- a log that is as long, and says the same
pub same-lines : (logs : List (Vec Line Global)) (life : ℕ) (log new : Vec Line Global) → At logs life log → new.items ≡ log.items → lines_in (slice_set logs life new) ≡ lines_in logs
same-lines logs life log new at is =
    set-map (λ (l : Vec Line Global). map line_of l.items) logs life new ∙ ap (λ (t : List Line). slice_set (lines_in logs) life (map line_of t)) is
    ∙ set-same (lines_in logs) life (map line_of log.items) (At-map (λ (l : Vec Line Global). map line_of l.items) logs life log at)

-- the log of this place, in which there is room now
pub room-set : (logs : List (Vec Line Global)) (life n : ℕ) (new : Vec Line Global) → vec_len new + n ≤ vec_capacity new → HasRoom n life (slice_set logs life new)
room-set [] life n new room log at = absurd cc
room-set (x ∷ logs) zero n new room log at = subst (λ (z : Vec Line Global). vec_len z + n ≤ vec_capacity z) (some_is new log at) room
room-set (x ∷ logs) (suc life) n new room log at = room-set logs life n new room log at

-- no log is here
pub room-none : (logs : List (Vec Line Global)) (life n : ℕ) → length logs ≤ life → HasRoom n life logs
room-none logs life n over log at = (let within = At-within logs life log at in absurd (omega (arith, over, within)))

-- the log of a life grows
pub grown-line : (logs : List (Vec Line Global)) (life : ℕ) (log new : Vec Line Global) (line : Line) → At logs life log → new.items ≡ log.items ++ line ∷ [] → lines_in (slice_set logs life new) ≡ grown life (line_of line ∷ []) (lines_in logs)
grown-line logs life log new line at is =
    let there : At (lines_in logs) life (map line_of log.items) = At-map (λ (l : Vec Line Global). map line_of l.items) logs life log at in
    set-map (λ (l : Vec Line Global). map line_of l.items) logs life new ∙ ap (λ (t : List Line). slice_set (lines_in logs) life (map line_of t)) is
    ∙ ap (slice_set (lines_in logs) life) (map-append line_of log.items (line ∷ [])) ∙ sym (ap (λ o. slice_set (lines_in logs) life (unwrap_or o [] ++ line_of line ∷ [])) there)

-- ---- calls that send nothing

if-same : {A : Type 0} (b : Bool) (x : A) → (if b then x else x) ≡ x
if-same true x = refl
if-same false x = refl

-- no message goes up
pub sent-none : (i : ℕ) (n : model.Names) (ks : List model.Joined) → map (λ (j : model.Joined). record j { lists = record j.lists { up = j.lists.up ++ sent_on i n [] j } }) ks ≡ ks
sent-none i n [] = refl
sent-none i n (j ∷ ks) =
    let up : j.lists.up ++ sent_on i n [] j ≡ j.lists.up = ap (λ (t : List history.Sent). j.lists.up ++ t) (if-same _ []) ∙ append-nil j.lists.up in
    λ t. record j { lists = record j.lists { up = up t } } ∷ sent-none i n ks t

-- a call after which nothing went up
pub after-quiet : (i : ℕ) (x : model.ClientSide) (spoken : model.Names) (core : Client) (names : model.Names) (lines : List history.Line) (w : model.World)
    → client_after i x spoken (record { core = core; names = names; lines = lines; sent = [] }) w ≡ record w { clients = slice_set w.clients i (record x { core = core; names = names }); client_logs = grown x.life lines w.client_logs }
after-quiet i x spoken core names lines w =
    λ t. record {
      clients = slice_set w.clients i (record x { core = core; names = names });
      servers = w.servers;
      circuits = sent-none i spoken w.circuits t;
      client_logs = grown x.life lines w.client_logs;
      server_logs = w.server_logs;
      moment = w.moment;
    }

-- ---- open

pub opens : (w : model.World) (i : ℕ) (name : List ℕ) (priority : ℕ) (x x' : model.ClientSide) (logs : List (List history.Line)) (r : Result (Unit {0}) Refusal) → At w.clients i x
    → OpensOn (record { name = name; priority = priority; now = w.moment }) x w.client_logs r x' logs → Does w (Open i name priority) r (record w { clients = slice_set w.clients i x'; client_logs = logs })
opens w i name priority x x' logs (Ok u) at (inl d) =
    (record { x = x; at = at }, inl (d.e, d.other, d.refused, (λ t. record w { clients = slice_set w.clients i (d.side t); client_logs = d.logged t }) ∙ (λ t. record w { clients = set-same w.clients i x at t; client_logs = grown x.life (history.Refused d.e ∷ []) w.client_logs })))
opens w i name priority x x' logs (Ok u) at (inr d) =
    let names : model.Names = record x.names { channels = x.names.channels ++ d.h ∷ [] } in
    (record { x = x; at = at }, inr (d.h, [], x'.core, d.opens, (λ t. record w { clients = slice_set w.clients i (d.side t); client_logs = d.logged t }) ∙ sym (after-quiet i x names x'.core names (history.Opened (length x.names.channels) name ∷ []) w)))
opens w i name priority x x' logs (Err OutOfMemory) at d =
    (record { x = x; at = at }, (λ t. record w { clients = slice_set w.clients i (d.0 t); client_logs = d.1 t }) ∙ (λ t. record w { clients = set-same w.clients i x at t }))
opens w i name priority x x' logs (Err _) at d = absurd d
