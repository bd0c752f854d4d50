-- Statement: what each end of each circuit sends is what it may send.
use Rattle.std.specs.Prelude.{ℕ, ◌≡◌, ◌<◌, ◌≤◌, ◌⊎◌, true, List, length, map, take}
use Rattle.ca_text.specs.Place.{At}
use Rattle.ca_dbr.specs.declared.value.Outcome.{Outcome}
use Rattle.ca_dbr.specs.Elements.{Elements, base_of, bytes_of, count_of}
use Rattle.ca_dbr.specs.Types.{base_number}
use Rattle.ca_wire.specs.Fields.{Fields, padded}
use Rattle.ca_wire.specs.Messages.{mask_in}
use Rattle.ca_model.specs.Sends.{Conduct, IsDisconnect, IsFree, LegalClient, LegalServer}
use Rattle.ca_model.specs.Sends.{SameIndex}
use Rattle.ca_model.specs.Speech.{Creates, Gives, Id, In, name_in}
use Rattle.ca_model.specs.History.{Ask, Cancel, Clear, Create, Put, Read, Request, Subscribe, Write}
use Rattle.ca_model.specs.History.{Intent, On, OfCircuit, Reply, Removal, Sent, Told, Step}
use Rattle.ca_model.specs.History.{Circuit, Entry}
use Rattle.ca_model.specs.History.{Removed, Line, Called, Noticed, Opened, World}
use Rattle.ca_model.specs.History.{Nothing, ToRead, ToWatch, ToWrite, Wish}
use Rattle.ca_model.specs.Channels.{Created, IsHeld, IsUncleared, Meant, OfCircuits}
use Rattle.ca_model.specs.Channels.{OfClients, Stands}

-- What the client did on a circuit, and what the server did.
abbrev pub client_conduct : Circuit → Conduct
client_conduct c = record {
  sent = map (λ (s : Sent). s.message) c.up;
  came = map (λ (t : Told). t.message) c.down;
  read = map (λ (h : Step). h.sent) c.heard;
}

abbrev pub server_conduct : Circuit → Conduct
server_conduct c = record {
  sent = map (λ (t : Told). t.message) c.down;
  came = map (λ (s : Sent). s.message) c.up;
  read = map (λ (h : Step). h.sent) c.handled;
}

-- In step h the client read that the channel was created for which it had asked at place k.
abbrev pub BecomesLive : Circuit → (channel k : ℕ) → Step → Type 0
BecomesLive c channel k h =
    (j sid : ℕ) × (t : Told) × Meant c k (On channel Create) × At c.down j t × (t.place ≡ k)
    × (t.cause ≡ Reply)
    × Creates t.message sid × At c.heard j h

-- By these lines this call was accepted.
abbrev pub IsCalled : List Line → Intent → Type 0
IsCalled x intent = (asks : Wish) × In x (Called intent asks)

-- By these lines a subscription was made, and neither the caller nor a refusal ended it.
abbrev pub IsStanding : List Line → Intent → Type 0
IsStanding x intent =
    IsCalled x intent × IsHeld x intent × ((o : Outcome) → In x (Noticed intent o) → ⊥)

-- The message has these elements: their type, how many they are, and their bytes.
pub record Carries (m : Fields) (e : Elements) : Type 0 where
  pub typed : m.data_type ≡ base_number (base_of e)
  pub counted : m.count ≡ count_of e
  pub payload : m.payload ≡ padded (bytes_of e)

-- The message asks for what its call did: a read for elements of that type and count, a
-- subscription also for updates by that mask; a write has the value.
abbrev pub AsksFor : Fields → Wish → Type 0
AsksFor m Nothing = Unit {0}
AsksFor m (ToRead data_type count) = (m.data_type ≡ data_type) × (m.count ≡ count)
AsksFor m (ToWatch data_type count mask) =
    (m.data_type ≡ data_type) × (m.count ≡ count) × (mask_in m ≡ mask)
AsksFor m (ToWrite given) = Carries m given

-- what a message with this intent may ask for
abbrev pub MayAsk : Ask → Wish → Type 0
MayAsk (Request Read number) (ToRead data_type count) = Unit {0}
MayAsk (Request Put number) (ToWrite given) = Unit {0}
MayAsk (Request Write number) (ToWrite given) = Unit {0}
MayAsk (Subscribe number) (ToWatch data_type count mask) = Unit {0}
MayAsk (Cancel number) Nothing = Unit {0}
MayAsk ask asks = ⊥

-- The message at place k is the first that the client sent from when it read a SERVER_DISCONN for
-- this CID.
abbrev pub AnswersDisconnect : Circuit → (k cid : ℕ) → Type 0
AnswersDisconnect c k cid =
    (j : ℕ) × (t : Told) × (h : Step) × At c.down j t × At c.heard j h × (h.sent ≡ k)
    × IsDisconnect cid t.message

-- What message m, at place k, was sent for was called by these lines, and asks for what that call
-- did. A CREATE_CHAN has the name under which its channel was opened. A CLEAR_CHANNEL was called,
-- or answers a SERVER_DISCONN.
abbrev pub WasCalled : Circuit → List Line → (k : ℕ) → Intent → Fields → Type 0
WasCalled c x k (On a Create) m = In x (Opened a (name_in m))
WasCalled c x k (On a Clear) m =
    In x (Called (On a Clear) Nothing) ⊎ AnswersDisconnect c k m.p2
WasCalled c x k (On a ask) m =
    (asks : Wish) × In x (Called (On a ask) asks) × MayAsk ask asks × AsksFor m asks
WasCalled c x k OfCircuit m = Unit {0}

-- What goes out on a circuit. Each end sends what it may. What the client sends for a channel was
-- called. A channel that was open when its record was removed has a SERVER_DISCONN. And for each
-- creation of its channel a subscription has one EVENT_ADD: two are for different creations; each
-- time that the channel becomes live there is one if the subscription stands, and none if its
-- caller or a refusal had ended it.
pub record LegalCircuit (n : ℕ) (c : Circuit) (x : List Line) (y : List Entry) : Type 0 where
  pub client : LegalClient (client_conduct c)
  pub server : LegalServer (server_conduct c)
  pub called : (k : ℕ) (s : Sent) → At c.up k s → WasCalled c x k s.intent s.message
  pub told : (j k sid r e : ℕ) → Created c y j k sid r → At y e (Removed r) → IsUncleared c k sid e
      → c.server_open ≡ true
      → (q : ℕ) × (t : Told) × At c.down q t × (t.place ≡ k) × (t.cause ≡ Removal)
  pub apart : (k l channel number : ℕ) → k < l → Meant c k (On channel (Subscribe number))
      → Meant c l (On channel (Subscribe number))
      → (p : ℕ) × (k < p) × (p < l) × Meant c p (On channel Create)
  pub renewed : (channel k number : ℕ) (h : Step) → BecomesLive c channel k h
      → IsStanding (take h.logged x) (On channel (Subscribe number))
      → (l : ℕ) × (h.sent ≤ l) × Meant c l (On channel (Subscribe number))
      × ((p : ℕ) → k < p → p < l → Meant c p (On channel Create) → ⊥)
  pub ended : (channel k l number : ℕ) (h : Step) → BecomesLive c channel k h → k < l
      → Meant c l (On channel (Subscribe number))
      → IsHeld (take h.logged x) (On channel (Subscribe number))
      × ((o : Outcome) → In (take h.logged x) (Noticed (On channel (Subscribe number)) o) → ⊥)

-- An accepted subscription has an EVENT_ADD.
abbrev pub IsSent : World → (life : ℕ) → List Line → Type 0
IsSent w life x =
    (channel number : ℕ) → IsCalled x (On channel (Subscribe number)) → (n k : ℕ)
    × Stands w life (On channel (Subscribe number)) n k

-- By now the id is free that the client's message at place l gave.
abbrev pub IsFreeNow : Circuit → (l : ℕ) → Type 0
IsFreeNow c l = IsFree (client_conduct c) l (length c.up)

-- Of two ids of one index that a client gave on two circuits, one is free, if both its ends are
-- open.
abbrev pub IdsAreApart : World → Type 0
IdsAreApart w =
    (n m l k : ℕ) (c d : Circuit) (s r : Sent) (a b : Id) → n < m → At w.circuits n c
    → At w.circuits m d → c.client ≡ d.client → c.client_open ≡ true → d.client_open ≡ true
    → At c.up l s → At d.up k r → Gives s.message a → Gives r.message b → SameIndex a b
    → IsFreeNow c l ⊎ IsFreeNow d k

-- What is sent in a world is legal.
pub record Legal (w : World) : Type 0 where
  pub circuits : OfCircuits w LegalCircuit
  pub subscriptions : OfClients w (IsSent w)
  pub ids : IdsAreApart w
