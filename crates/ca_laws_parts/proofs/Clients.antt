-- What an event at a client does to the ends of its circuits, and that bytes are
-- as messages after it.
use Rattle.std.proofs.Common.{◌≡◌, ℕ, ◌+◌, inl, inr, Bool, true, false, ◌&&◌, cond, eqb, List, [], ◌∷◌, ◌++◌, Option, Some, None, refl, sym, ap, ◌∙◌, subst}
use Rattle.std.specs.Prelude.{filter, is_none, length, map, option_map, slice_set, unwrap_or}
use Rattle.std.proofs.lemmas.Bool.{and_from, both_ways, cases_Bool, eq-eqb, eqb-true}
use Rattle.std.proofs.lemmas.List.{append-nil}
use Rattle.ca_arena.specs.declared.handle.Handle.{Handle}
use Rattle.ca_ids.specs.Table.{same_handle}
use Rattle.ca_text.specs.Place.{At}
use Rattle.ca_text.proofs.Places.{At-mapped, At-one, At-set, At-set-other, At-within}
use Rattle.ca_wire.specs.Fields.{Fields}
use Rattle.ca_wire.specs.Message.{Spells, spelled}
use Rattle.ca_model.specs.Answers.{Sending}
use Rattle.ca_model.specs.Client.{Client, Connection, connection_at, out_bytes}
use Rattle.ca_model.specs.History.{Sent}
use Rattle.ca_model.specs.ClientEvents.{Outcomes, client_after, sent_on, waiting_up}
use Rattle.ca_model.specs.World.{ClientSide, Joined, Names, ServerSide, World, with_circuit}
use Rattle.ca_laws_parts.specs.Circuit.{sent_to, stamped}
use Rattle.ca_laws_parts.specs.Clients.{ClientsStand}
use Rattle.ca_model.proofs.Thinner.{number-or, set-there}
use Rattle.ca_laws_parts.specs.Streams.{CircuitEnd, Meets}
use Rattle.ca_laws_parts.specs.Worlds.{AllStream, StreamsOn, came_to, client_end, sent_up, server_end}
use Rattle.ca_laws_parts.proofs.Links.{AllGoOn, GoesOn, messages_on}
use Rattle.ca_laws_parts.proofs.Streaming.{Acts, close-acts, meets-on, open-acts, shut-acts}

-- ---- lists

pub map-both : {A B : Type 0} (f : A → B) (xs ys : List A) → map f (xs ++ ys) ≡ map f xs ++ map f ys
map-both f [] ys = refl
map-both {A} {B} f (x ∷ xs) ys = ap (λ (l : List B). f x ∷ l) (map-both f xs ys)

map-stamped : (n : Names) (sent : List Sending) → map (λ (s : Sent). s.message) (map (stamped n) sent) ≡ map (λ (s : Sending). s.message) sent
map-stamped n [] = refl
map-stamped n (s ∷ sent) = ap (λ (l : List Fields). s.message ∷ l) (map-stamped n sent)

-- what goes on an open circuit of this client, and on another
on-open : (i : ℕ) (n : Names) (sent : List Sending) (j : Joined) → j.client ≡ i → j.lists.client_open ≡ true → map (λ (s : Sent). s.message) (sent_on i n sent j) ≡ messages_on j.at_client sent
on-open i n sent j mine opened =
    ap (λ (b : Bool). map (λ (s : Sent). s.message) (cond b (map (stamped n) (filter (λ (s : Sending). same_handle s.circuit j.at_client) sent)) [])) (and_from (eqb j.client i) j.lists.client_open (eq-eqb j.client i mine) opened)
    ∙ map-stamped n (filter (λ (s : Sending). same_handle s.circuit j.at_client) sent)

none-if : {A : Type 0} (b : Bool) (xs : List A) → b ≡ false → cond b xs [] ≡ []
none-if true xs e = absurd (both_ways true e refl)
none-if false xs e = refl

and-right : (a b : Bool) → b ≡ false → (a && b) ≡ false
and-right true b e = e
and-right false b e = refl

and-left : (a b : Bool) → a ≡ false → (a && b) ≡ false
and-left true b e = absurd (both_ways true e refl)
and-left false b e = refl

pub on-shut : (i : ℕ) (n : Names) (sent : List Sending) (j : Joined) → j.lists.client_open ≡ false → sent_on i n sent j ≡ []
on-shut i n sent j shut = none-if (eqb j.client i && j.lists.client_open) (map (stamped n) (filter (λ (s : Sending). same_handle s.circuit j.at_client) sent)) (and-right (eqb j.client i) j.lists.client_open shut)

pub on-other : (i : ℕ) (n : Names) (sent : List Sending) (j : Joined) → (j.client ≡ i → ⊥) → sent_on i n sent j ≡ []
on-other i n sent j other =
    none-if (eqb j.client i && j.lists.client_open) (map (stamped n) (filter (λ (s : Sending). same_handle s.circuit j.at_client) sent)) (and-left (eqb j.client i) j.lists.client_open (go (eqb j.client i) refl))
  where
    go : (b : Bool) → eqb j.client i ≡ b → b ≡ false
    go true e = absurd (other (eqb-true j.client i e))
    go false e = refl

-- ---- the end of a circuit at its client

pub connected-so : (o : Option Connection) → is_none o ≡ false → (d : Connection) × (o ≡ Some d)
connected-so None e = absurd (both_ways true e refl)
connected-so (Some d) e = (d, refl)

pub out-of : (x : Client) (h : Handle) (d : Connection) → connection_at x h ≡ Some d → out_bytes x h ≡ d.link.output
out-of x h d is = ap (λ (o : Option Connection). unwrap_or (option_map (λ (e : Connection). e.link.output) o) []) is

pub waits-open : (x : ClientSide) (j : Joined) (d : Connection) → j.lists.client_open ≡ true → connection_at x.core j.at_client ≡ Some d → waiting_up x j ≡ d.link.output
waits-open x j d opened is = ap (λ (b : Bool). cond b (out_bytes x.core j.at_client) j.left_up) opened ∙ out-of x.core j.at_client d is

pub waits-shut : (x : ClientSide) (j : Joined) → j.lists.client_open ≡ false → waiting_up x j ≡ j.left_up
waits-shut x j shut = ap (λ (b : Bool). cond b (out_bytes x.core j.at_client) j.left_up) shut

pub came-so : (x : Client) (h : Handle) (d : Connection) → connection_at x h ≡ Some d → came_to (connection_at x h) ≡ d.link.input.bytes
came-so x h d is = ap came_to is

-- it stays open: these messages were sent, and the same bytes came
pub client-open : (x z : ClientSide) (j next : Joined) (more : List Fields) (d e : Connection) → j.lists.client_open ≡ true → next.lists.client_open ≡ true → sent_up next ≡ sent_up j ++ more
    → connection_at x.core j.at_client ≡ Some d → connection_at z.core next.at_client ≡ Some e → e.link.output ≡ d.link.output ++ spelled more → e.link.input.bytes ≡ d.link.input.bytes
    → length next.lists.heard ≡ length j.lists.heard → Acts (client_end x j) (client_end z next)
client-open x z j next more d e t u sent was is output input heard =
    open-acts (client_end x j) (client_end z next) more t u sent
    (waits-open z next e u is ∙ output ∙ ap (λ (l : List ℕ). l ++ spelled more) (sym (waits-open x j d t was)))
    (inl (came-so z.core next.at_client e is ∙ input ∙ sym (came-so x.core j.at_client d was), heard))

-- it stays open, and read a message
pub client-took : (x z : ClientSide) (j next : Joined) (more : List Fields) (d e : Connection) (m : Fields) (front : List ℕ) → j.lists.client_open ≡ true → next.lists.client_open ≡ true → sent_up next ≡ sent_up j ++ more
    → connection_at x.core j.at_client ≡ Some d → connection_at z.core next.at_client ≡ Some e → e.link.output ≡ d.link.output ++ spelled more → Spells front m → d.link.input.bytes ≡ front ++ e.link.input.bytes
    → length next.lists.heard ≡ length j.lists.heard + 1 → Acts (client_end x j) (client_end z next)
client-took x z j next more d e m front t u sent was is output spells input heard =
    open-acts (client_end x j) (client_end z next) more t u sent
    (waits-open z next e u is ∙ output ∙ ap (λ (l : List ℕ). l ++ spelled more) (sym (waits-open x j d t was)))
    (inr (m, front, spells, came-so x.core j.at_client d was ∙ input ∙ ap (λ (l : List ℕ). front ++ l) (sym (came-so z.core next.at_client e is)), heard))

-- it ended
pub client-ends : (x z : ClientSide) (j next : Joined) (more : List Fields) (lost : List ℕ) (d : Connection) → j.lists.client_open ≡ true → next.lists.client_open ≡ false → sent_up next ≡ sent_up j ++ more
    → connection_at x.core j.at_client ≡ Some d → d.link.output ++ spelled more ≡ next.left_up ++ lost → Acts (client_end x j) (client_end z next)
client-ends x z j next more lost d t f sent was left =
    close-acts (client_end x j) (client_end z next) more lost t f sent
    (ap (λ (l : List ℕ). l ++ spelled more) (waits-open x j d t was) ∙ left ∙ ap (λ (l : List ℕ). l ++ lost) (sym (waits-shut z next f)))

-- it had ended
pub client-shut : (x z : ClientSide) (j next : Joined) → j.lists.client_open ≡ false → next.lists.client_open ≡ false → sent_up next ≡ sent_up j → next.left_up ≡ j.left_up → Acts (client_end x j) (client_end z next)
client-shut x z j next f g sent left = shut-acts (client_end x j) (client_end z next) f g sent (waits-shut z next g ∙ left ∙ sym (waits-shut x j f))

up-sent : (i : ℕ) (n : Names) (sent : List Sending) (j : Joined) → sent_up (sent_to i n sent j) ≡ sent_up j ++ map (λ (s : Sent). s.message) (sent_on i n sent j)
up-sent i n sent j = map-both (λ (s : Sent). s.message) j.lists.up (sent_on i n sent j)

pub up-open : (i : ℕ) (n : Names) (sent : List Sending) (j : Joined) → j.client ≡ i → j.lists.client_open ≡ true → sent_up (sent_to i n sent j) ≡ sent_up j ++ messages_on j.at_client sent
up-open i n sent j mine opened = up-sent i n sent j ∙ ap (λ (l : List Fields). sent_up j ++ l) (on-open i n sent j mine opened)

pub up-shut : (i : ℕ) (n : Names) (sent : List Sending) (j : Joined) → j.lists.client_open ≡ false → sent_up (sent_to i n sent j) ≡ sent_up j
up-shut i n sent j shut = up-sent i n sent j ∙ ap (λ (l : List Sent). sent_up j ++ map (λ (s : Sent). s.message) l) (on-shut i n sent j shut) ∙ append-nil (sent_up j)

-- what a call of client i sends
pub spoke : (i : ℕ) (x z : ClientSide) (n : Names) (sent : List Sending) (j : Joined) → j.client ≡ i → (j.lists.client_open ≡ true → is_none (connection_at x.core j.at_client) ≡ false)
    → (j.lists.client_open ≡ true → GoesOn x.core z.core j.at_client (messages_on j.at_client sent)) → Acts (client_end x j) (client_end z (sent_to i n sent j))
spoke i x z n sent j mine connected goes = elim (cases_Bool j.lists.client_open) [
  | inl opened ↦
      let d = connected-so (connection_at x.core j.at_client) (connected opened) in
      let e = goes opened d.0 d.1 in
      client-open x z j (sent_to i n sent j) (messages_on j.at_client sent) d.0 e.0 opened opened (up-open i n sent j mine opened) d.1 e.1 e.3 e.2 refl
  | inr shut ↦ client-shut x z j (sent_to i n sent j) shut shut (up-shut i n sent j shut) refl
]

-- ---- a world after it

-- a circuit of another client
pub other-streams : (i : ℕ) (n : Names) (sent : List Sending) (w : World) (j : Joined) → (j.client ≡ i → ⊥) → StreamsOn w j → StreamsOn w (sent_to i n sent j)
other-streams i n sent w j other s =
    subst (λ (l : List Sent). StreamsOn w (record j { lists = record j.lists { up = l } })) (sym (ap (λ (l : List Sent). j.lists.up ++ l) (on-other i n sent j other) ∙ append-nil j.lists.up)) s

-- another client's circuit is as it was
pub client-kept : (w new : World) (i : ℕ) (z : ClientSide) (j : Joined) → new.clients ≡ slice_set w.clients i z → new.servers ≡ w.servers → (j.client ≡ i → ⊥) → StreamsOn w j → StreamsOn new j
client-kept w new i z j clients servers other s = record {
  x = s.x;
  client = subst (λ (l : List ClientSide). At l j.client s.x) (sym clients) (At-set-other w.clients i j.client s.x z s.client other);
  y = s.y;
  server = subst (λ (l : List ServerSide). At l j.server s.y) (sym servers) s.server;
  meets = s.meets;
}

-- the client's end of one of its circuits goes on
pub client-acts : (w new : World) (i : ℕ) (x z : ClientSide) (j next : Joined) → At w.clients i x → new.clients ≡ slice_set w.clients i z → new.servers ≡ w.servers → j.client ≡ i → next.client ≡ i → next.server ≡ j.server
    → ((y : ServerSide) → server_end y next ≡ server_end y j) → Acts (client_end x j) (client_end z next) → StreamsOn w j → StreamsOn new next
client-acts w new i x z j next at clients servers mine same server side acts s =
    let is : s.x ≡ x = At-one w.clients i s.x x (subst (λ (n : ℕ). At w.clients n s.x) mine s.client) at in
    record {
      x = z;
      client = subst (λ (n : ℕ). At new.clients n z) (sym same) (subst (λ (l : List ClientSide). At l i z) (sym clients) (set-there w.clients i z (At-within w.clients i x at)));
      y = s.y;
      server = subst (λ (n : ℕ). At new.servers n s.y) (sym server) (subst (λ (l : List ServerSide). At l j.server s.y) (sym servers) s.server);
      meets = subst (λ (e : CircuitEnd). Meets (client_end z next) e) (sym (side s.y))
          (meets-on (client_end x j) (client_end z next) (server_end s.y j) acts (subst (λ (v : ClientSide). Meets (client_end v j) (server_end s.y j)) is s.meets));
    }

-- a call of client i
pub called : (w : World) (i : ℕ) (x : ClientSide) (spoken : Names) (o : Outcomes) → At w.clients i x → ClientsStand w → AllGoOn x.core o.core o.sent → AllStream w → AllStream (client_after i x spoken o w)
called w i x spoken o at s goes all k d there =
    let c = At-mapped (sent_to i spoken o.sent) w.circuits k d there in
    subst (λ (z : Joined). StreamsOn new z) (sym c.2) (elim (number-or c.0.client i) [
      | inl mine ↦
          client-acts w new i x side c.0 (sent_to i spoken o.sent c.0) at refl refl mine mine refl (λ y. refl)
          (spoke i x side spoken o.sent c.0 mine (λ opened. s.connected k c.0 x c.1 (subst (λ (n : ℕ). At w.clients n x) (sym mine) at) opened) (λ opened. goes c.0.at_client)) (all k c.0 c.1)
      | inr other ↦ other-streams i spoken o.sent new c.0 other (client-kept w new i side c.0 refl refl other (all k c.0 c.1))
    ])
  where
    new : World
    new = client_after i x spoken o w

    side : ClientSide
    side = record x { core = o.core; names = o.names }

-- A step of client's end of circuit k, after which that circuit is next before anything is sent.
pub stepped : (w : World) (k : ℕ) (j next : Joined) (x : ClientSide) (spoken : Names) (o : Outcomes) → At w.circuits k j → At w.clients j.client x → next.client ≡ j.client → next.server ≡ j.server → ((y : ServerSide) → server_end y next ≡ server_end y j)
    → Acts (client_end x j) (client_end (record x { core = o.core; names = o.names }) (sent_to j.client spoken o.sent next))
    → ((l : ℕ) (a : Joined) → At w.circuits l a → (l ≡ k → ⊥) → a.client ≡ j.client → Acts (client_end x a) (client_end (record x { core = o.core; names = o.names }) (sent_to j.client spoken o.sent a)))
    → AllStream w → AllStream (client_after j.client x spoken o (with_circuit k next w))
stepped w k j next x spoken o at there client server side own others all l d stands =
    let c = At-mapped (sent_to i spoken o.sent) (slice_set w.circuits k next) l d stands in
    subst (λ (z : Joined). StreamsOn new z) (sym c.2) (elim (At-set w.circuits k next l c.0 c.1) [
      | inl here ↦
          subst (λ (z : Joined). StreamsOn new (sent_to i spoken o.sent z)) (sym here.1)
          (client-acts w new i x z j (sent_to i spoken o.sent next) there refl refl refl client server side own (all k j at))
      | inr old ↦ elim (number-or c.0.client i) [
        | inl mine ↦ client-acts w new i x z c.0 (sent_to i spoken o.sent c.0) there refl refl mine mine refl (λ y. refl) (others l c.0 old.0 old.1 mine) (all l c.0 old.0)
        | inr other ↦ other-streams i spoken o.sent new c.0 other (client-kept w new i z c.0 refl refl other (all l c.0 old.0))
      ]
    ])
  where
    i : ℕ
    i = j.client

    z : ClientSide
    z = record x { core = o.core; names = o.names }

    new : World
    new = client_after j.client x spoken o (with_circuit k next w)
