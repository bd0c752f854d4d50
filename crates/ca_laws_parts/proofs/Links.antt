-- What a client's calls and the messages that it hears make of the ends of its circuits: the same
-- bytes came, and what is sent waits after the rest.
use Rattle.std.proofs.Common.{◌≡◌, ℕ, inl, inr, Bool, true, false, cond, List, [], ◌∷◌, ◌++◌, Option, Some, None, refl, sym, ap, ◌∙◌, subst, append_assoc}
use Rattle.std.specs.Prelude.{◌==◌, Ok, filter, fold, is_none, length, map, not, option_and_then, option_map, unwrap_or}
use Rattle.std.proofs.lemmas.List.{append-nil}
use Rattle.std.proofs.lemmas.Bool.{both_ways}
use Rattle.ca_arena.specs.declared.handle.Handle.{Handle}
use Rattle.ca_dbr.specs.Elements.{Elements}
use Rattle.ca_ids.specs.Table.{MayGive, Table, same_handle, under}
use Rattle.ca_requests.specs.Requests.{Asked, Request, Stage}
use Rattle.ca_requests.specs.Requests as request
use Rattle.ca_text.specs.Command.{command_number}
use Rattle.ca_text.specs.declared.command.Command.TheVariants as command
use Rattle.ca_wire.specs.declared.header.Header.{Header}
use Rattle.ca_wire.specs.Fields.{Fields}
use Rattle.ca_wire.specs.Message.{spelled}
use Rattle.ca_model.specs.Answers.{Notice, Sending}
use Rattle.ca_model.specs.Client.{Channel, Client, ClientCircuit, Connection, Clearing, Connecting, Creating, Doomed, Leaving, Live, On, Phase, Searching, Standing, channel_on, channels_ended, channels_on, connection_at, disconnected, ended, found_on, is_cleared, let_go, on_connection, searched_again, sending, standing_at, with_one_sent, without_channel, without_circuit, without_ids}
use Rattle.ca_model.specs.ClientCalls.{ClientClears, ClientOpens, ClientPuts, ClientReads, ClientSubscribes, ClientUnsubscribes, ClientWrites, Does, Opening, Shape, cleared, unsubscribed, unsubscribed_all, unwanted}
use Rattle.ca_model.specs.Ends.{Address}
use Rattle.ca_model.specs.Hears.{Answers, Completes, Effect, FindsAt, Hears, PutsOn, Updates, any_failed, clear_answered, confirmed, create_sent, created, doing, failed, failing, subscription_on, left, put_on, request_failed, rights_told, subscription_failed, with_circuit, write_failed}
use Rattle.ca_model.specs.Hears as hears
use Rattle.ca_model.proofs.Standings.{found-standing}
use Rattle.ca_model.proofs.Handles.{not-same, same-is}
use Rattle.ca_model.proofs.Tables.{changed-other, changed-own, freed-other, held-other}
use Rattle.ca_model.specs.Placed.{IsPlaced}
use Rattle.ca_laws_parts.proofs.Streaming.{spelled-more}

-- the messages that go on the circuit of this handle
abbrev pub messages_on : Handle → List Sending → List Fields
messages_on h sent = map (λ (s : Sending). s.message) (filter (λ (s : Sending). same_handle s.circuit h) sent)

pub messages-both : (h : Handle) (xs ys : List Sending) → messages_on h (xs ++ ys) ≡ messages_on h xs ++ messages_on h ys
messages-both h [] ys = refl
messages-both h (s ∷ xs) ys = go (same_handle s.circuit h) (messages-both h xs ys)
  where
    f : List Sending → List Sending
    f l = filter (λ (s : Sending). same_handle s.circuit h) l

    g : List Sending → List Fields
    g l = map (λ (s : Sending). s.message) l

    go : (b : Bool) → g (f (xs ++ ys)) ≡ g (f xs) ++ g (f ys) → g (cond b (s ∷ f (xs ++ ys)) (f (xs ++ ys))) ≡ g (cond b (s ∷ f xs) (f xs)) ++ g (f ys)
    go true e = ap (λ (l : List Fields). s.message ∷ l) e
    go false e = e

-- an end goes on: the same bytes came, and these messages wait after the others
abbrev pub GoesOn : (x y : Client) → Handle → List Fields → Type 0
GoesOn x y h more =
    (d : Connection) → connection_at x h ≡ Some d
    → (e : Connection) × (connection_at y h ≡ Some e) × (e.link.input.bytes ≡ d.link.input.bytes) × (e.link.output ≡ d.link.output ++ spelled more)

-- all ends go on, and these messages were sent
abbrev pub AllGoOn : (x y : Client) → List Sending → Type 0
AllGoOn x y sent = (h : Handle) → GoesOn x y h (messages_on h sent)

pub goes-itself : (x y : Client) (h : Handle) → y.circuits ≡ x.circuits → GoesOn x y h []
goes-itself x y h same d is =
    (d, ap (λ (t : Table ClientCircuit). option_and_then (λ (c : ClientCircuit). c.connection) (under t h)) same ∙ is, refl, sym (append-nil d.link.output))

pub goes-then : (x y z : Client) (h : Handle) (ms ns : List Fields) → GoesOn x y h ms → GoesOn y z h ns → GoesOn x z h (ms ++ ns)
goes-then x y z h ms ns f g d is =
    let e = f d is in
    let k = g e.0 e.1 in (
      k.0,
      k.1,
      k.2 ∙ e.2,
      k.3 ∙ ap (λ (l : List ℕ). l ++ spelled ns) e.3 ∙ append_assoc d.link.output (spelled ms) (spelled ns) ∙ ap (λ (l : List ℕ). d.link.output ++ l) (sym (spelled-more ms ns)),
    )

-- the circuit of an end
pub circuit-of : (x : Client) (h : Handle) (d : Connection) → connection_at x h ≡ Some d → (c : ClientCircuit) × (under x.circuits h ≡ Some c) × (c.connection ≡ Some d)
circuit-of x h d is = go (under x.circuits h) refl is
  where
    go : (o : Option ClientCircuit) → under x.circuits h ≡ o → option_and_then (λ (c : ClientCircuit). c.connection) o ≡ Some d → (c : ClientCircuit) × (under x.circuits h ≡ Some c) × (c.connection ≡ Some d)
    go None there e = absurd cc
    go (Some c) there e = (c, there, e)

pub at-circuit : (x : Client) (h : Handle) (c : ClientCircuit) → under x.circuits h ≡ Some c → connection_at x h ≡ c.connection
at-circuit x h c there = ap (λ (o : Option ClientCircuit). option_and_then (λ (c : ClientCircuit). c.connection) o) there

-- this is done to the end of one circuit
pub connection-own : (f : Connection → Connection) (c : Handle) (x : Client) (d : Connection) → connection_at x c ≡ Some d → connection_at (on_connection f c x) c ≡ Some (f d)
connection-own f c x d is =
    let k = circuit-of x c d is in
    at-circuit (on_connection f c x) c (record k.0 { connection = option_map f k.0.connection }) (changed-own (λ (z : ClientCircuit). record z { connection = option_map f z.connection }) x.circuits c k.0 k.1)
    ∙ ap (λ (o : Option Connection). option_map f o) k.2

pub connection-other : (f : Connection → Connection) (c h : Handle) (x : Client) (d : Connection) → (h ≡ c → ⊥) → connection_at x h ≡ Some d → connection_at (on_connection f c x) h ≡ Some d
connection-other f c h x d other is =
    let k = circuit-of x h d is in
    at-circuit (on_connection f c x) h k.0 (changed-other (λ (z : ClientCircuit). record z { connection = option_map f z.connection }) x.circuits h c k.0 k.1 other) ∙ k.2

one-sent-own : (x : Client) (s : Sending) (h : Handle) → s.circuit ≡ h → GoesOn x (with_one_sent x s) h (s.message ∷ [])
one-sent-own x s h same = subst (λ (c : Handle). GoesOn x (with_one_sent x s) c (s.message ∷ [])) same (λ d is. (_, connection-own _ s.circuit x d is, refl, refl))

pub goes-sending : (sent : List Sending) (x : Client) → AllGoOn x (sending sent x) sent
goes-sending [] x h = goes-itself x x h refl
goes-sending (s ∷ sent) x h = go (same_handle s.circuit h) refl (goes-sending sent (with_one_sent x s) h)
  where
    go : (b : Bool) → same_handle s.circuit h ≡ b → GoesOn (with_one_sent x s) (sending (s ∷ sent) x) h (messages_on h sent)
        → GoesOn x (sending (s ∷ sent) x) h (map (λ (s : Sending). s.message) (cond b (s ∷ filter (λ (s : Sending). same_handle s.circuit h) sent) (filter (λ (s : Sending). same_handle s.circuit h) sent)))
    go true same rest = goes-then x (with_one_sent x s) (sending (s ∷ sent) x) h (s.message ∷ []) (messages_on h sent) (one-sent-own x s h (same-is s.circuit h same)) rest
    go false other rest =
        goes-then x (with_one_sent x s) (sending (s ∷ sent) x) h [] (messages_on h sent)
        (λ d is. (d, connection-other _ s.circuit h x d (λ e. not-same s.circuit h other (sym e)) is, refl, sym (append-nil d.link.output))) rest

-- these messages are sent after a change by which no end says anything
pub goes-does : (x z y : Client) (sends sent : List Sending) → ((h : Handle) → GoesOn x z h []) → Does sends z sent y → AllGoOn x y sent
goes-does x z y sends sent quiet does =
    subst (λ (p : List Sending × Client). AllGoOn x p.1 p.0) (λ i. (sym does.0 i, sym does.1 i)) (λ h. goes-then x z (sending sends z) h [] (messages_on h sends) (quiet h) (goes-sending sends z h))

same-does : (x z y : Client) (sends sent : List Sending) → z.circuits ≡ x.circuits → Does sends z sent y → AllGoOn x y sent
same-does x z y sends sent same does = goes-does x z y sends sent (λ h. goes-itself x z h same) does

-- ---- circuits that are let go, and ends that end

let-go-goes : (c h : Handle) (k : ClientCircuit) (x : Client) → (h ≡ c → ⊥) → GoesOn x (let_go c k x) h []
let-go-goes c h k x other d is = go k.is_name
  where
    go : (b : Bool) → (e : Connection) × (connection_at (cond b (disconnected c x) (without_circuit c x)) h ≡ Some e) × (e.link.input.bytes ≡ d.link.input.bytes) × (e.link.output ≡ d.link.output ++ spelled [])
    go true =
        let j = circuit-of x h d is in
        (d, at-circuit (disconnected c x) h j.0 (changed-other (λ (z : ClientCircuit). record z { connection = None }) x.circuits h c j.0 j.1 other) ∙ j.2, refl, sym (append-nil d.link.output))
    go false =
        let j = circuit-of x h d is in
        (d, at-circuit (without_circuit c x) h j.0 (freed-other x.circuits h c j.0 j.1 other) ∙ j.2, refl, sym (append-nil d.link.output))

-- an end that is connected is not that of a circuit that is not
apart : (x : Client) (c h : Handle) (d : Connection) → is_none (connection_at x c) ≡ true → connection_at x h ≡ Some d → h ≡ c → ⊥
apart x c h d none is same = both_ways (is_none (connection_at x h)) (ap is_none is) (ap (λ (k : Handle). is_none (connection_at x k)) same ∙ none)

pub unwanted-goes : (c : Handle) (x : Client) → is_none (connection_at x c) ≡ true → (h : Handle) → GoesOn x (unwanted c x) h []
unwanted-goes c x none h d is = go (length (channels_on (λ (p : Phase). true) c x) == 0) (under x.circuits c)
  where
    go : (b : Bool) (o : Option ClientCircuit) → (e : Connection) × (connection_at (cond b (unwrap_or (option_map (λ (k : ClientCircuit). let_go c k x) o) x) x) h ≡ Some e) × (e.link.input.bytes ≡ d.link.input.bytes) × (e.link.output ≡ d.link.output ++ spelled [])
    go true (Some k) = let-go-goes c h k x (apart x c h d none is) d is
    go true None = goes-itself x x h refl d is
    go false o = goes-itself x x h refl d is

circuits-fold : (f : Client → Handle → Client) → ((y : Client) (h : Handle) → (f y h).circuits ≡ y.circuits) → (hs : List Handle) (y : Client) → (fold f y hs).circuits ≡ y.circuits
circuits-fold f one [] y = refl
circuits-fold f one (h ∷ hs) y = circuits-fold f one hs (f y h) ∙ one y h

pub channels-ended-circuits : (c : Handle) (x : Client) → (channels_ended c x).circuits ≡ x.circuits
channels-ended-circuits c x =
    circuits-fold searched_again (λ y h. refl) (channels_on (λ (p : Phase). not (is_cleared p)) c x) (fold without_channel x (channels_on is_cleared c x))
    ∙ circuits-fold without_channel (λ y h. refl) (channels_on is_cleared c x) x

-- where an end ended the others go on
pub ended-goes : (c h : Handle) (x : Client) → (h ≡ c → ⊥) → GoesOn x (ended c x) h []
ended-goes c h x other d is = go (under x.circuits c)
  where
    z : Client
    z = channels_ended c (without_ids c x)

    go : (o : Option ClientCircuit) → (e : Connection) × (connection_at (unwrap_or (option_map (λ (k : ClientCircuit). let_go c k z) o) x) h ≡ Some e) × (e.link.input.bytes ≡ d.link.input.bytes) × (e.link.output ≡ d.link.output ++ spelled [])
    go None = goes-itself x x h refl d is
    go (Some k) = goes-then x z (let_go c k z) h [] [] (goes-itself x z h (channels-ended-circuits c (without_ids c x))) (let-go-goes c h k z other) d is

-- ---- calls

pub open-goes : (x y : Client) (a : Opening) (q : Handle) (sent : List Sending) → ClientOpens x a (Ok q) sent y → AllGoOn x y sent
open-goes x y a q sent does = same-does x _ y [] sent refl does.2

pub read-goes : (x y : Client) (h : Handle) (a : Shape) (q : Handle) (sent : List Sending) → ClientReads x h a (Ok q) sent y → AllGoOn x y sent
read-goes x y h a q sent does = same-does x _ y _ sent refl does.4

pub put-goes : (x y : Client) (h : Handle) (e : Elements) (q : Handle) (sent : List Sending) → ClientPuts x h e (Ok q) sent y → AllGoOn x y sent
put-goes x y h e q sent does = same-does x _ y _ sent refl does.4

pub write-goes : (x y : Client) (h : Handle) (e : Elements) (u : Unit {0}) (sent : List Sending) → ClientWrites x h e (Ok u) sent y → AllGoOn x y sent
write-goes x y h e u sent does = goes-does x x y _ sent (λ h. goes-itself x x h refl) does.3

pub subscribe-goes : (x y : Client) (h : Handle) (a : Shape) (mask : ℕ) (q : Handle) (sent : List Sending) → ClientSubscribes x h a mask (Ok q) sent y → AllGoOn x y sent
subscribe-goes x y h a mask q sent does = same-does x _ y _ sent refl does.4

unsubscribed-circuits : (s : Handle) (o : Option Standing) (x : Client) → (unsubscribed s o x).circuits ≡ x.circuits
unsubscribed-circuits s None x = refl
unsubscribed-circuits s (Some Searching) x = refl
unsubscribed-circuits s (Some (On c Connecting)) x = refl
unsubscribed-circuits s (Some (On c (Creating rights))) x = refl
unsubscribed-circuits s (Some (On c (Live n rights))) x = refl
unsubscribed-circuits s (Some (On c Leaving)) x = refl
unsubscribed-circuits s (Some (On c Clearing)) x = refl
unsubscribed-circuits s (Some (On c Doomed)) x = refl

pub unsubscribe-goes : (x y : Client) (s : Handle) (u : Unit {0}) (sent : List Sending) → ClientUnsubscribes x s (Ok u) sent y → AllGoOn x y sent
unsubscribe-goes x y s u sent does =
    goes-does x (unsubscribed s (standing_at x does.0.channel) x) y _ sent (λ h. goes-itself x (unsubscribed s (standing_at x does.0.channel) x) h (unsubscribed-circuits s (standing_at x does.0.channel) x)) does.3

cleared-goes : (x : Client) (h : Handle) (s : Standing) → IsPlaced x → standing_at x h ≡ Some s → (g : Handle) → GoesOn x (cleared h s x) g []
cleared-goes x h Searching placed at g = goes-itself x (cleared h Searching x) g refl
cleared-goes x h (On c Connecting) placed at g =
    let found = found-standing x h (On c Connecting) at in
    let z : Client = without_channel (unsubscribed_all h x) h in
    goes-then x z (unwanted c z) g [] [] (goes-itself x z g refl) (unwanted-goes c z (sym (placed.waiting h found.0 c Connecting found.1 found.2)) g)
cleared-goes x h (On c (Creating rights)) placed at g = goes-itself x (cleared h (On c (Creating rights)) x) g refl
cleared-goes x h (On c (Live n rights)) placed at g = goes-itself x (cleared h (On c (Live n rights)) x) g refl
cleared-goes x h (On c Leaving) placed at g = goes-itself x (cleared h (On c Leaving) x) g refl
cleared-goes x h (On c Clearing) placed at g = goes-itself x (cleared h (On c Clearing) x) g refl
cleared-goes x h (On c Doomed) placed at g = goes-itself x (cleared h (On c Doomed) x) g refl

pub clear-goes : (x y : Client) (h : Handle) (notices : List Notice) (sent : List Sending) → IsPlaced x → ClientClears x h (Ok notices) sent y → AllGoOn x y sent
clear-goes x y h notices sent placed does = goes-does x (cleared h does.0 x) y _ sent (cleared-goes x h does.0 placed does.1) does.3

-- ---- messages that are heard

pub effect-goes : (x z : Client) (e : Effect) (sends : List Sending) (notices : List Notice) → ((h : Handle) → GoesOn x z h []) → e ≡ doing sends notices z → AllGoOn x e.core e.sent
effect-goes x z e sends notices quiet is =
    subst (λ (f : Effect). AllGoOn x f.core f.sent) (sym is) (λ h. goes-then x z (sending sends z) h [] (messages_on h sends) (quiet h) (goes-sending sends z h))

effect-same : (x z : Client) (e : Effect) (sends : List Sending) (notices : List Notice) → z.circuits ≡ x.circuits → e ≡ doing sends notices z → AllGoOn x e.core e.sent
effect-same x z e sends notices same is = effect-goes x z e sends notices (λ h. goes-itself x z h same) is

put-on-goes : (x z : Client) (c : Handle) (o : Option Connection) (h : Handle) (here : Channel) (e : Effect) → ((g : Handle) → GoesOn x z g []) → e ≡ put_on c o h here z → AllGoOn x e.core e.sent
put-on-goes x z c (Some d) h here e quiet is =
    let y : Client = found_on c (Creating 0) h z in
    effect-goes x y e (create_sent c h here ∷ []) [] (λ g. goes-then x z y g [] [] (quiet g) (goes-itself z y g refl)) is
put-on-goes x z c None h here e quiet is =
    let y : Client = found_on c Connecting h z in
    effect-goes x y e [] [] (λ g. goes-then x z y g [] [] (quiet g) (goes-itself z y g refl)) is

with-circuit-goes : (x : Client) (c : Handle) (k : ClientCircuit) → MayGive x.circuits c → (h : Handle) → GoesOn x (with_circuit c k x) h []
with-circuit-goes x c k may h d is =
    let j = circuit-of x h d is in
    (d, at-circuit (with_circuit c k x) h j.0 (held-other x.circuits h c k j.0 may j.1) ∙ j.2, refl, sym (append-nil d.link.output))

puts-on-goes : (x : Client) (a : Address) (h : Handle) (here : Channel) (o : Option (Handle × ClientCircuit)) (e : Effect) → PutsOn x a h here o e → AllGoOn x e.core e.sent
puts-on-goes x a h here (Some (c, k)) e is = put-on-goes x x c k.connection h here e (λ g. goes-itself x x g refl) is
puts-on-goes x a h here None e (inl made) = put-on-goes x _ made.0 None h here e (with-circuit-goes x made.0 _ made.1) made.2
puts-on-goes x a h here None e (inr full) = effect-same x x e [] [] refl full.1

pub finds-goes : (x : Client) (a : Address) (o : Option (Handle × Channel)) (e : Effect) → FindsAt x a o e → AllGoOn x e.core e.sent
finds-goes x a None e is = effect-same x x e [] [] refl is
finds-goes x a (Some (h, here)) e puts = puts-on-goes x a h here _ e puts

module _ (x : Client) (c : Handle) (m : Fields) (e : Effect) where
  rights-goes : (o : Option (Handle × Phase)) → e ≡ rights_told x c m o → AllGoOn x e.core e.sent
  rights-goes None is = effect-same x x e [] [] refl is
  rights-goes (Some (h, Connecting)) is = effect-same x x e [] [] refl is
  rights-goes (Some (h, Creating rights)) is = effect-same x _ e [] [] refl is
  rights-goes (Some (h, Live n rights)) is = effect-same x _ e [] [] refl is
  rights-goes (Some (h, Leaving)) is = effect-same x x e [] [] refl is
  rights-goes (Some (h, Clearing)) is = effect-same x x e [] [] refl is
  rights-goes (Some (h, Doomed)) is = effect-same x x e [] [] refl is

  created-goes : (o : Option (Handle × Phase)) → e ≡ created x c m o → AllGoOn x e.core e.sent
  created-goes None is = effect-same x x e [] [] refl is
  created-goes (Some (h, Connecting)) is = effect-same x x e [] [] refl is
  created-goes (Some (h, Creating rights)) is = effect-same x _ e _ _ refl is
  created-goes (Some (h, Live n rights)) is = effect-same x x e [] [] refl is
  created-goes (Some (h, Leaving)) is = effect-same x x e [] [] refl is
  created-goes (Some (h, Clearing)) is = effect-same x x e [] [] refl is
  created-goes (Some (h, Doomed)) is = effect-same x _ e _ _ refl is

  failed-goes : (o : Option (Handle × Phase)) → e ≡ failed x o → AllGoOn x e.core e.sent
  failed-goes None is = effect-same x x e [] [] refl is
  failed-goes (Some (h, Connecting)) is = effect-same x x e [] [] refl is
  failed-goes (Some (h, Creating rights)) is = effect-same x _ e [] [] refl is
  failed-goes (Some (h, Live n rights)) is = effect-same x x e [] [] refl is
  failed-goes (Some (h, Leaving)) is = effect-same x x e [] [] refl is
  failed-goes (Some (h, Clearing)) is = effect-same x x e [] [] refl is
  failed-goes (Some (h, Doomed)) is = effect-same x _ e [] [] refl is

  answered-goes : (o : Option (Handle × Phase)) → e ≡ clear_answered x c o → AllGoOn x e.core e.sent
  answered-goes None is = effect-same x x e [] [] refl is
  answered-goes (Some (h, Connecting)) is = effect-same x x e [] [] refl is
  answered-goes (Some (h, Creating rights)) is = effect-same x x e [] [] refl is
  answered-goes (Some (h, Live n rights)) is = effect-same x x e [] [] refl is
  answered-goes (Some (h, Leaving)) is = effect-same x _ e [] [] refl is
  answered-goes (Some (h, Clearing)) is = effect-same x _ e [] [] refl is
  answered-goes (Some (h, Doomed)) is = effect-same x x e [] [] refl is

  left-goes : (o : Option (Handle × Phase)) → e ≡ left x c o → AllGoOn x e.core e.sent
  left-goes None is = effect-same x x e [] [] refl is
  left-goes (Some (h, Connecting)) is = effect-same x x e [] [] refl is
  left-goes (Some (h, Creating rights)) is = effect-same x x e [] [] refl is
  left-goes (Some (h, Live n rights)) is = effect-same x _ e _ _ refl is
  left-goes (Some (h, Leaving)) is = effect-same x x e [] [] refl is
  left-goes (Some (h, Clearing)) is = effect-same x x e [] [] refl is
  left-goes (Some (h, Doomed)) is = effect-same x x e [] [] refl is

  write-failed-goes : (o : Option (Handle × Phase)) → e ≡ write_failed x m o → AllGoOn x e.core e.sent
  write-failed-goes None is = effect-same x x e [] [] refl is
  write-failed-goes (Some (h, Connecting)) is = effect-same x x e [] [] refl is
  write-failed-goes (Some (h, Creating rights)) is = effect-same x x e [] [] refl is
  write-failed-goes (Some (h, Live n rights)) is = effect-same x x e [] _ refl is
  write-failed-goes (Some (h, Leaving)) is = effect-same x x e [] [] refl is
  write-failed-goes (Some (h, Clearing)) is = effect-same x x e [] [] refl is
  write-failed-goes (Some (h, Doomed)) is = effect-same x x e [] [] refl is

  completes-goes : (q : Handle) (a : Asked) (s : Stage) → Completes x m q a s e → AllGoOn x e.core e.sent
  completes-goes q a request.Open does = effect-same x _ e [] _ refl does.2
  completes-goes q a request.Draining does = effect-same x _ e [] [] refl does

  answers-goes : (o : Option (Handle × Request)) → Answers x m o e → AllGoOn x e.core e.sent
  answers-goes (Some (q, r)) does = completes-goes q r.asked r.stage does
  answers-goes None is = effect-same x x e [] [] refl is

  confirmed-goes : (o : Option Handle) → e ≡ confirmed x o → AllGoOn x e.core e.sent
  confirmed-goes (Some s) is = effect-same x _ e [] [] refl is
  confirmed-goes None is = effect-same x x e [] [] refl is

  updates-goes : (o : Option Handle) → Updates x m o e → AllGoOn x e.core e.sent
  updates-goes (Some s) does = effect-same x x e [] _ refl does.2
  updates-goes None is = effect-same x x e [] [] refl is

  subscription-failed-goes : (o : Option Handle) → e ≡ subscription_failed x m o → AllGoOn x e.core e.sent
  subscription-failed-goes (Some s) is = effect-same x _ e [] _ refl is
  subscription-failed-goes None is = effect-same x x e [] [] refl is

  request-failed-goes : (q : Handle) (s : Stage) → e ≡ request_failed x m q s → AllGoOn x e.core e.sent
  request-failed-goes q request.Open is = effect-same x _ e [] _ refl is
  request-failed-goes q request.Draining is = effect-same x x e [] [] refl is

  any-failed-goes : (o : Option (Handle × Request)) → e ≡ any_failed x m o → AllGoOn x e.core e.sent
  any-failed-goes (Some (q, r)) is = request-failed-goes q r.stage is
  any-failed-goes None is = effect-same x x e [] [] refl is

  failing-goes : (h : Header) → e ≡ failing x c m h → AllGoOn x e.core e.sent
  failing-goes h is = go (h.command == command_number command.Write) (h.command == command_number command.EventAdd) is
    where
      go : (a b : Bool) → e ≡ cond a (write_failed x m (channel_on x c m.p1)) (cond b (subscription_failed x m (subscription_on x c h.p2)) (any_failed x m (request.answered_by c h.command h.p2 x.requests))) → AllGoOn x e.core e.sent
      go true b is = write-failed-goes (channel_on x c m.p1) is
      go false true is = subscription-failed-goes (subscription_on x c h.p2) is
      go false false is = any-failed-goes (request.answered_by c h.command h.p2 x.requests) is

  pub hears-goes : Hears x c m e → AllGoOn x e.core e.sent
  hears-goes (hears.Search is d there finds) = finds-goes x _ _ e finds
  hears-goes (hears.AccessRights is does) = rights-goes _ does
  hears-goes (hears.CreateChannel is does) = created-goes _ does
  hears-goes (hears.CreateChannelFail is does) = failed-goes _ does
  hears-goes (hears.ClearChannel is does) = answered-goes _ does
  hears-goes (hears.ServerDisconnect is does) = left-goes _ does
  hears-goes (hears.Reply is does) = answers-goes _ does
  hears-goes (hears.Confirmation is none does) = confirmed-goes _ does
  hears-goes (hears.Update is some does) = updates-goes _ does
  hears-goes (hears.Error is (inl fails)) = failing-goes fails.0 fails.2
  hears-goes (hears.Error is (inr skipped)) = effect-same x x e [] [] refl skipped.1
  hears-goes (hears.Other is does) = effect-same x x e [] [] refl does
