-- A circuit is found by its address and its priority, place by place.
use Rattle.std.proofs.Common.{◌≡◌, ◌≢◌, ◌∙◌, ℕ, ◌+◌, ◌<◌, ◌≤◌, Bool, true, false, inl, inr, List, [], ◌∷◌, ◌++◌, Option, Some, None, ap, arith, drop, is_some, length, length-append, option_map, option_to_list, refl, subst, sym}
use Rattle.std.specs.Prelude.{find}
use Rattle.std.proofs.Math.Numerals.{add-one}
use Rattle.std.proofs.Math.Seq.{drop-cons}
use Rattle.std.proofs.lemmas.List.{drop_all}
use Rattle.ca_arena.specs.declared.handle.Handle.{Handle}
use Rattle.ca_arena.specs.Arena.{blank, place_at}
use Rattle.ca_ids.specs.Table.{IsFull, MayGive, Table, held_at, held_from}
use Rattle.ca_ids.specs.Wire.{wire_of}
use Rattle.ca_text.proofs.Places.{some_is}
use Rattle.ca_wire.specs.Fields.{Fields}
use Rattle.ca_wire.specs.Messages.{create_request}
use Rattle.ca_model.specs.Client.{Channel, Client, ClientCircuit, Connecting, Connection, Creating, circuit_to, found_on, new_circuit}
use Rattle.ca_model.specs.Ends.{Address}
use Rattle.ca_model.specs.Hears.{Effect, Finds, FindsAt, PutsOn, becomes, create_sent, doing, found_at, put_on, searched_by, with_circuit}
use Rattle.ca_client_tables.specs.Ends.{with_message}
use Rattle.ca_client_tables.specs.Finding.{as_found, circuit_in, goes_there, goes_to, DoesSome}
use Rattle.ca_requests.proofs.Tables.{true_or_false}

-- what the places from this index on give
abbrev pub found_from : Address → ℕ → ℕ → Table ClientCircuit → Option (Handle × Bool)
found_from a p i t = option_map as_found (find (goes_there a p) (held_from i (drop i t)))

from-here : (a : Address) (p i : ℕ) (t : Table ClientCircuit) → i < length t → held_from i (drop i t) ≡ option_to_list (held_at i (place_at t i)) ++ held_from (i + 1) (drop (i + 1) t)
from-here a p i t within =
    ap (held_from i) (drop-cons t i blank within)
    ∙ ap (λ (n : ℕ). option_to_list (held_at i (place_at t i)) ++ held_from (i + 1) (drop n t)) (sym (add-one i))

pub this-first : (a : Address) (p : ℕ) (o : Option (Handle × ClientCircuit)) (rest : List (Handle × ClientCircuit)) (r : Handle × Bool) → goes_to a p o ≡ Some r → option_map as_found (find (goes_there a p) (option_to_list o ++ rest)) ≡ Some r
this-first a p None rest r is = absurd cc
this-first a p (Some e) rest r is =
    elim (true_or_false (goes_there a p e)) [
      | inl goes ↦
          let one : goes_to a p (Some e) ≡ Some (as_found e) = rw goes refl in
          let first : option_map as_found (find (goes_there a p) (e ∷ rest)) ≡ Some (as_found e) = rw goes refl in
          first ∙ sym one ∙ is
      | inr other ↦
          let none : goes_to a p (Some e) ≡ None = rw other refl in
          absurd cc
    ]

pub not-this : (a : Address) (p : ℕ) (o : Option (Handle × ClientCircuit)) (rest : List (Handle × ClientCircuit)) → goes_to a p o ≡ None → option_map as_found (find (goes_there a p) (option_to_list o ++ rest)) ≡ option_map as_found (find (goes_there a p) rest)
not-this a p None rest is = refl
not-this a p (Some e) rest is =
    elim (true_or_false (goes_there a p e)) [
      | inl goes ↦
          let one : goes_to a p (Some e) ≡ Some (as_found e) = rw goes refl in
          absurd cc
      | inr other ↦ rw other refl
    ]

pub found-here : (a : Address) (p i : ℕ) (t : Table ClientCircuit) (r : Handle × Bool) → i < length t → goes_to a p (held_at i (place_at t i)) ≡ Some r → found_from a p i t ≡ Some r
found-here a p i t r within is =
    ap (λ (es : List (Handle × ClientCircuit)). option_map as_found (find (goes_there a p) es)) (from-here a p i t within)
    ∙ this-first a p (held_at i (place_at t i)) (held_from (i + 1) (drop (i + 1) t)) r is

pub found-later : (a : Address) (p i : ℕ) (t : Table ClientCircuit) → i < length t → goes_to a p (held_at i (place_at t i)) ≡ None → found_from a p i t ≡ found_from a p (i + 1) t
found-later a p i t within is =
    ap (λ (es : List (Handle × ClientCircuit)). option_map as_found (find (goes_there a p) es)) (from-here a p i t within)
    ∙ not-this a p (held_at i (place_at t i)) (held_from (i + 1) (drop (i + 1) t)) is

pub none-left : (a : Address) (p i : ℕ) (t : Table ClientCircuit) → length t ≤ i → found_from a p i t ≡ None
none-left a p i t past =
    ap (λ (ts : Table ClientCircuit). option_map as_found (find (goes_there a p) (held_from i ts))) (drop_all i t past)

-- ---- a search reply, by what was found

pub found-split : (o : Option (Handle × ClientCircuit)) (c : Handle) (b : Bool) → option_map as_found o ≡ Some (c, b) → (d : ClientCircuit) × (o ≡ Some (c, d)) × (is_some d.connection ≡ b)
found-split None c b is = absurd cc
found-split (Some (k, d)) c b is =
    let same : (k, is_some d.connection) ≡ (c, b) = some_is (k, is_some d.connection) (c, b) is in
    (d, ap (λ (g : Handle × Bool). Some (g.0, d)) same, ap (λ (g : Handle × Bool). g.1) same)

found-none : (o : Option (Handle × ClientCircuit)) → option_map as_found o ≡ None → o ≡ None
found-none None is = refl
found-none (Some e) is = absurd cc

pub finds-nothing : (x : Client) (from : Address) (m : Fields) → None ≡ searched_by m.p2 x → (e : Effect) × Finds x from m e × (e.notices ≡ []) × (x ≡ e.core)
finds-nothing x from m none =
    (becomes x, subst (λ (o : Option (Handle × Channel)). FindsAt x (found_at from m) o (becomes x)) none refl, refl, refl)

-- it found a channel whose circuit is there, or not
found-one : (x : Client) (from : Address) (m : Fields) (h : Handle) (here : Channel) (e : Effect) (o : Option (Handle × ClientCircuit)) → Some (h, here) ≡ searched_by m.p2 x → circuit_to (found_at from m) here.priority x ≡ o → PutsOn x (found_at from m) h here o e → Finds x from m e
found-one x from m h here e o is to puts =
    subst (λ (s : Option (Handle × Channel)). FindsAt x (found_at from m) s e) is
    (subst (λ (p : Option (Handle × ClientCircuit)). PutsOn x (found_at from m) h here p e) (sym to) puts)

put-connected : (c : Handle) (o : Option Connection) (h : Handle) (here : Channel) (x : Client) → is_some o ≡ true → put_on c o h here x ≡ doing (create_sent c h here ∷ []) [] (found_on c (Creating 0) h x)
put-connected c None h here x is = absurd cc
put-connected c (Some e) h here x is = refl

put-waiting : (c : Handle) (o : Option Connection) (h : Handle) (here : Channel) (x : Client) → is_some o ≡ false → put_on c o h here x ≡ becomes (found_on c Connecting h x)
put-waiting c None h here x is = refl
put-waiting c (Some e) h here x is = absurd cc

pub finds-connected : (x : Client) (from : Address) (m : Fields) (h : Handle) (here : Channel) (c : Handle) (k : Fields) (new : Client) → Some (h, here) ≡ searched_by m.p2 x → Some (c, true) ≡ circuit_in (found_at from m) here.priority x.circuits → k ≡ create_request (wire_of h) here.name → new ≡ with_message c k (found_on c (Creating 0) h x) → (e : Effect) × Finds x from m e × (e.notices ≡ []) × (new ≡ e.core)
finds-connected x from m h here c k new is to says left =
    let parts = found-split (circuit_to (found_at from m) here.priority x) c true (sym to) in
    let e : Effect = doing (create_sent c h here ∷ []) [] (found_on c (Creating 0) h x) in
    (e, found-one x from m h here e (Some (c, parts.0)) is parts.1 (sym (put-connected c parts.0.connection h here x parts.2)), refl, left ∙ ap (λ (f : Fields). with_message c f (found_on c (Creating 0) h x)) says)

pub finds-waiting : (x : Client) (from : Address) (m : Fields) (h : Handle) (here : Channel) (c : Handle) (new : Client) → Some (h, here) ≡ searched_by m.p2 x → Some (c, false) ≡ circuit_in (found_at from m) here.priority x.circuits → new ≡ found_on c Connecting h x → (e : Effect) × Finds x from m e × (e.notices ≡ []) × (new ≡ e.core)
finds-waiting x from m h here c new is to left =
    let parts = found-split (circuit_to (found_at from m) here.priority x) c false (sym to) in
    let e : Effect = becomes (found_on c Connecting h x) in
    (e, found-one x from m h here e (Some (c, parts.0)) is parts.1 (sym (put-waiting c parts.0.connection h here x parts.2)), refl, left)

-- a list with one more element is another
pub one-longer : {X : Type 0} (xs : List X) (x : X) → xs ++ x ∷ [] ≢ xs
one-longer xs x = λ same. (let longer : length (xs ++ x ∷ []) ≡ length xs = ap length same in absurd (omega (arith, longer, length-append xs (x ∷ []))))

pub finds-new : (x : Client) (from : Address) (m : Fields) (h : Handle) (here : Channel) (c : Handle) (new : Client) → Some (h, here) ≡ searched_by m.p2 x → None ≡ circuit_in (found_at from m) here.priority x.circuits → MayGive x.circuits c → new ≡ found_on c Connecting h (with_circuit c (new_circuit (found_at from m) here.priority false) x) → (e : Effect) × Finds x from m e × (e.notices ≡ []) × (new ≡ e.core)
finds-new x from m h here c new is to may left =
    let a = found_at from m in
    let none = found-none (circuit_to a here.priority x) (sym to) in
    let e : Effect = put_on c None h here (with_circuit c (new_circuit a here.priority false) x) in
    (e, found-one x from m h here e None is none (inl (c, may, refl)), refl, left)

pub finds-full : (x : Client) (from : Address) (m : Fields) (h : Handle) (here : Channel) (new : Client) → Some (h, here) ≡ searched_by m.p2 x → None ≡ circuit_in (found_at from m) here.priority x.circuits → IsFull x.circuits → new ≡ x → (e : Effect) × Finds x from m e × (e.notices ≡ []) × (new ≡ e.core)
finds-full x from m h here new is to full left =
    let none = found-none (circuit_to (found_at from m) here.priority x) (sym to) in
    (becomes x, found-one x from m h here (becomes x) None is none (inr (full, refl)), refl, left)

pub finds-none-new : (x : Client) (from : Address) (m : Fields) (h : Handle) (here : Channel) (c : Handle) → Some (h, here) ≡ searched_by m.p2 x → None ≡ circuit_in (found_at from m) here.priority x.circuits → MayGive x.circuits c → (e : Effect) × Finds x from m e × DoesSome x e
finds-none-new x from m h here c is to may =
    let a = found_at from m in
    let none = found-none (circuit_to a here.priority x) (sym to) in
    let e : Effect = put_on c None h here (with_circuit c (new_circuit a here.priority false) x) in
    (e, found-one x from m h here e None is none (inl (c, may, refl)), inr (inr (one-longer x.order c)))

-- without memory for the message
pub finds-out : (x : Client) (from : Address) (m : Fields) (h : Handle) (here : Channel) (c : Handle) → Some (h, here) ≡ searched_by m.p2 x → Some (c, true) ≡ circuit_in (found_at from m) here.priority x.circuits → (e : Effect) × Finds x from m e × DoesSome x e
finds-out x from m h here c is to =
    let parts = found-split (circuit_to (found_at from m) here.priority x) c true (sym to) in
    let e : Effect = doing (create_sent c h here ∷ []) [] (found_on c (Creating 0) h x) in
    let sends : e.sent ≢ [] = λ none. absurd cc in
    (e, found-one x from m h here e (Some (c, parts.0)) is parts.1 (sym (put-connected c parts.0.connection h here x parts.2)), inl sends)
