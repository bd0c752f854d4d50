-- The replies that are due for a message speak only of what it is about.
use Rattle.std.proofs.Common.{◌≡◌, ℕ, zero, suc, ◌⊎◌, inl, inr, Bool, true, false, cond, eqb, List, [], ◌∷◌, refl, sym, ap, ◌∙◌, subst, arith}
use Rattle.std.specs.Prelude.{is_some, replicate}
use Rattle.std.specs.List.{list_any}
use Rattle.std.proofs.lemmas.Bool.{cases_Bool, both_ways, eq-eqb, eqb-true, or_cases, or_parts}
use Rattle.ca_text.specs.Command.{command_number}
use Rattle.ca_text.specs.declared.command.Command.{Command}
use Rattle.ca_text.specs.declared.command.Command.TheVariants as command
use Rattle.ca_text.specs.Place.{At}
use Rattle.ca_text.proofs.Places.{some_is}
use Rattle.ca_text.specs.Status.{bad_channel, normal}
use Rattle.ca_dbr.specs.Elements.{base_of}
use Rattle.ca_dbr.specs.Types.{base_number}
use Rattle.ca_wire.specs.declared.header.Header.{Header}
use Rattle.ca_wire.specs.Fields.{Fields}
use Rattle.ca_wire.specs.Header.{HeaderFits, HeaderSpells, header_spelling}
use Rattle.ca_wire.specs.Message.{header_of}
use Rattle.ca_wire.specs.Messages.{header_only, cancel_reply, cleared_reply, created_reply, error_reply, failed_reply, not_found_reply, rights_reply, search_reply, status_reply, text_in, version_reply}
use Rattle.ca_wire.proofs.Headers.{header-front, header-spells}
use Rattle.ca_model.specs.Due.{Action, Due, IsRetired, IsUnknown, Knows, Serves, is_known, rights_at}
use Rattle.ca_model.specs.Speech.{Id, Cid, Ioid, SubId, Heads, Quotes, Speaks}
use Rattle.ca_laws_parts.specs.Replies.{IsCidAt, IsOfMessage}

-- ---- of what a message speaks, by its command

-- it is none of those that speak of an id
abbrev pub IsMute : ℕ → Type 0
IsMute n =
    ((n ≡ 1 → ⊥) × (n ≡ 11 → ⊥) × (n ≡ 12 → ⊥) × (n ≡ 15 → ⊥) × (n ≡ 18 → ⊥))
    × ((n ≡ 19 → ⊥) × (n ≡ 22 → ⊥) × (n ≡ 26 → ⊥) × (n ≡ 27 → ⊥))

pub mute-speaks : (m : Fields) (id : Id) → IsMute m.command → Speaks m id → ⊥
mute-speaks m id mute h = elim h [
  | inl heads ↦ go id heads
  | inr error ↦ mute.0.1 error.0
]
  where
    go : (id : Id) → Heads m id → ⊥
    go (Cid n) h = elim h [
      | inl a ↦ elim a.0 [
        | inl e ↦ mute.0.4 e
        | inr b ↦ elim b [
          | inl e ↦ mute.1.2 e
          | inr d ↦ elim d [
            | inl e ↦ mute.1.1 e
            | inr e ↦ mute.1.3 e
          ]
        ]
      ]
      | inr a ↦ mute.0.2 a.0
    ]
    go (Ioid n) h = elim h.0 [
      | inl e ↦ mute.0.3 e
      | inr e ↦ mute.1.0 e
    ]
    go (SubId n) h = mute.0.0 h.0

-- a message that is no ERROR speaks by its header
heads : (m : Fields) (id : Id) → (m.command ≡ 11 → ⊥) → Speaks m id → Heads m id
heads m id other h = elim h [
  | inl a ↦ a
  | inr a ↦ absurd (other a.0)
]

-- the id of a CREATE_CHAN, CREATE_CH_FAIL, ACCESS_RIGHTS or SERVER_DISCONN is its CID
abbrev IsOfChannel : ℕ → Type 0
IsOfChannel n = (n ≡ 18) ⊎ ((n ≡ 26) ⊎ ((n ≡ 22) ⊎ (n ≡ 27)))

not-of-channel : (n a : ℕ) → n ≡ a → IsOfChannel a → (n ≡ 11) ⊎ ((n ≡ 12) ⊎ ((n ≡ 15) ⊎ ((n ≡ 19) ⊎ (n ≡ 1)))) → ⊥
not-of-channel n a is h other = elim h [
  | inl e ↦ go 18 (is ∙ e) (λ f. omega (arith, f)) (λ f. omega (arith, f)) (λ f. omega (arith, f)) (λ f. omega (arith, f)) (λ f. omega (arith, f))
  | inr (inl e) ↦ go 26 (is ∙ e) (λ f. omega (arith, f)) (λ f. omega (arith, f)) (λ f. omega (arith, f)) (λ f. omega (arith, f)) (λ f. omega (arith, f))
  | inr (inr (inl e)) ↦ go 22 (is ∙ e) (λ f. omega (arith, f)) (λ f. omega (arith, f)) (λ f. omega (arith, f)) (λ f. omega (arith, f)) (λ f. omega (arith, f))
  | inr (inr (inr e)) ↦ go 27 (is ∙ e) (λ f. omega (arith, f)) (λ f. omega (arith, f)) (λ f. omega (arith, f)) (λ f. omega (arith, f)) (λ f. omega (arith, f))
]
  where
    go : (b : ℕ) → n ≡ b → (b ≡ 11 → ⊥) → (b ≡ 12 → ⊥) → (b ≡ 15 → ⊥) → (b ≡ 19 → ⊥) → (b ≡ 1 → ⊥) → ⊥
    go b e p q r s t = elim other [
      | inl x ↦ p (sym e ∙ x)
      | inr (inl x) ↦ q (sym e ∙ x)
      | inr (inr (inl x)) ↦ r (sym e ∙ x)
      | inr (inr (inr (inl x))) ↦ s (sym e ∙ x)
      | inr (inr (inr (inr x))) ↦ t (sym e ∙ x)
    ]

pub channel-speaks : (m : Fields) (id : Id) → IsOfChannel m.command → Speaks m id → id ≡ Cid m.p1
channel-speaks m id is h = go id (heads m id (λ e. not-of-channel m.command m.command refl is (inl e)) h)
  where
    go : (id : Id) → Heads m id → id ≡ Cid m.p1
    go (Cid n) h = elim h [
      | inl a ↦ ap Cid (sym a.1)
      | inr a ↦ absurd (not-of-channel m.command m.command refl is (inr (inl a.0)))
    ]
    go (Ioid n) h = elim h.0 [
      | inl e ↦ absurd (not-of-channel m.command m.command refl is (inr (inr (inl e))))
      | inr e ↦ absurd (not-of-channel m.command m.command refl is (inr (inr (inr (inl e)))))
    ]
    go (SubId n) h = absurd (not-of-channel m.command m.command refl is (inr (inr (inr (inr h.0)))))

clash : {A : Type 0} (n a b : ℕ) → n ≡ a → n ≡ b → (a ≡ b → ⊥) → A
clash n a b p q apart = absurd (apart (sym p ∙ q))

-- the id of a reply to a read or to a put is its IOID
pub request-speaks : (m : Fields) (id : Id) (a : ℕ) → (a ≡ 15) ⊎ (a ≡ 19) → m.command ≡ a → Speaks m id → id ≡ Ioid m.p2
request-speaks m id a which is h = elim which [
  | inl e ↦ go 15 (is ∙ e) (λ f. omega (arith, f)) (λ f. omega (arith, f)) (λ f. omega (arith, f)) (λ f. omega (arith, f)) (λ f. omega (arith, f)) (λ f. omega (arith, f)) (λ f. omega (arith, f))
  | inr e ↦ go 19 (is ∙ e) (λ f. omega (arith, f)) (λ f. omega (arith, f)) (λ f. omega (arith, f)) (λ f. omega (arith, f)) (λ f. omega (arith, f)) (λ f. omega (arith, f)) (λ f. omega (arith, f))
]
  where
    go : (b : ℕ) → m.command ≡ b → (b ≡ 11 → ⊥) → (b ≡ 18 → ⊥) → (b ≡ 26 → ⊥) → (b ≡ 22 → ⊥) → (b ≡ 27 → ⊥) → (b ≡ 12 → ⊥) → (b ≡ 1 → ⊥) → id ≡ Ioid m.p2
    go b e n11 n18 n26 n22 n27 n12 n1 = by id (heads m id (λ x. n11 (sym e ∙ x)) h)
      where
        by : (id : Id) → Heads m id → id ≡ Ioid m.p2
        by (Ioid n) h = ap Ioid (sym h.1)
        by (SubId n) h = absurd (n1 (sym e ∙ h.0))
        by (Cid n) h = elim h [
          | inl x ↦ elim x.0 [
            | inl y ↦ absurd (n18 (sym e ∙ y))
            | inr z ↦ elim z [
              | inl y ↦ absurd (n26 (sym e ∙ y))
              | inr w ↦ elim w [
                | inl y ↦ absurd (n22 (sym e ∙ y))
                | inr y ↦ absurd (n27 (sym e ∙ y))
              ]
            ]
          ]
          | inr x ↦ absurd (n12 (sym e ∙ x.0))
        ]

-- the id of an EVENT_ADD is its subscription id, and that of the reply to a CLEAR_CHANNEL its CID
pub event-speaks : (m : Fields) (id : Id) → m.command ≡ 1 → Speaks m id → id ≡ SubId m.p2
event-speaks m id is h = go id (heads m id (λ e. clash m.command 1 11 is e (λ f. omega (arith, f))) h)
  where
    go : (id : Id) → Heads m id → id ≡ SubId m.p2
    go (SubId n) h = ap SubId (sym h.1)
    go (Ioid n) h = elim h.0 [
      | inl e ↦ clash m.command 1 15 is e (λ f. omega (arith, f))
      | inr e ↦ clash m.command 1 19 is e (λ f. omega (arith, f))
    ]
    go (Cid n) h = elim h [
      | inl x ↦ elim x.0 [
        | inl y ↦ clash m.command 1 18 is y (λ f. omega (arith, f))
        | inr z ↦ elim z [
          | inl y ↦ clash m.command 1 26 is y (λ f. omega (arith, f))
          | inr w ↦ elim w [
            | inl y ↦ clash m.command 1 22 is y (λ f. omega (arith, f))
            | inr y ↦ clash m.command 1 27 is y (λ f. omega (arith, f))
          ]
        ]
      ]
      | inr x ↦ (let e = x.0 in clash m.command 1 12 is e (λ f. omega (arith, f)))
    ]

pub clear-speaks : (m : Fields) (id : Id) → m.command ≡ 12 → Speaks m id → id ≡ Cid m.p2
clear-speaks m id is h = go id (heads m id (λ e. clash m.command 12 11 is e (λ f. omega (arith, f))) h)
  where
    go : (id : Id) → Heads m id → id ≡ Cid m.p2
    go (SubId n) h = (let e = h.0 in clash m.command 12 1 is e (λ f. omega (arith, f)))
    go (Ioid n) h = elim h.0 [
      | inl e ↦ clash m.command 12 15 is e (λ f. omega (arith, f))
      | inr e ↦ clash m.command 12 19 is e (λ f. omega (arith, f))
    ]
    go (Cid n) h = elim h [
      | inl x ↦ elim x.0 [
        | inl y ↦ clash m.command 12 18 is y (λ f. omega (arith, f))
        | inr z ↦ elim z [
          | inl y ↦ clash m.command 12 26 is y (λ f. omega (arith, f))
          | inr w ↦ elim w [
            | inl y ↦ clash m.command 12 22 is y (λ f. omega (arith, f))
            | inr y ↦ clash m.command 12 27 is y (λ f. omega (arith, f))
          ]
        ]
      ]
      | inr x ↦ ap Cid (sym x.1)
    ]

-- An ERROR speaks of the request whose header it quotes: of a WRITE by the CID, of another by
-- the id that it gave.
pub error-speaks : (cid status : ℕ) (m : Fields) (id : Id) → HeaderFits (header_of m) → Speaks (error_reply cid status m) id → Quotes cid (header_of m) id
error-speaks cid status m id fits h = elim h [
  | inl heads ↦ absurd (none id heads)
  | inr e ↦
      let spelled : HeaderSpells (header_spelling (header_of m)) (header_of m) = header-spells (header_of m) fits in
      let quoted = e.1 in
      let one = header-front quoted.1 (header_spelling (header_of m)) quoted.2 (replicate 8 0) quoted.0 (header_of m) quoted.3 spelled (sym quoted.4) in
      subst (λ (g : Header). Quotes cid g id) one.0 quoted.5
]
  where
    none : (id : Id) → Heads (error_reply cid status m) id → ⊥
    none (Cid n) h = elim h [
      | inl x ↦ elim x.0 [
        | inl y ↦ clash 11 11 18 refl y (λ f. omega (arith, f))
        | inr z ↦ elim z [
          | inl y ↦ clash 11 11 26 refl y (λ f. omega (arith, f))
          | inr w ↦ elim w [
            | inl y ↦ clash 11 11 22 refl y (λ f. omega (arith, f))
            | inr y ↦ clash 11 11 27 refl y (λ f. omega (arith, f))
          ]
        ]
      ]
      | inr x ↦ (let e = x.0 in clash 11 11 12 refl e (λ f. omega (arith, f)))
    ]
    none (Ioid n) h = elim h.0 [
      | inl y ↦ clash 11 11 15 refl y (λ f. omega (arith, f))
      | inr y ↦ clash 11 11 19 refl y (λ f. omega (arith, f))
    ]
    none (SubId n) h = (let e = h.0 in clash 11 11 1 refl e (λ f. omega (arith, f)))

-- ---- each reply that is due

-- a number that is one of these commands
pub any-of : (n : ℕ) (cs : List Command) → list_any (λ (c : Command). eqb n (command_number c)) cs ≡ true → (P : ℕ → Type 0) → (each : (i : ℕ) (c : Command) → At cs i c → P (command_number c)) → P n
any-of n [] some P each = absurd (both_ways false refl some)
any-of n (c ∷ cs) some P each = elim (or_cases (eqb n (command_number c)) (list_any (λ (c : Command). eqb n (command_number c)) cs) some) [
  | inl is ↦ subst P (sym (eqb-true n (command_number c) is)) (each 0 c refl)
  | inr later ↦ any-of n cs later P (λ i d at. each (suc i) d at)
]

-- what holds of each of a list
abbrev pub Each : (ℕ → Type 0) → List Command → Type 0
Each P [] = Unit {0}
Each P (c ∷ cs) = P (command_number c) × Each P cs

pub each-at : (P : ℕ → Type 0) (cs : List Command) → Each P cs → (i : ℕ) (c : Command) → At cs i c → P (command_number c)
each-at P [] each i c at = absurd cc
each-at P (d ∷ cs) each zero c at = subst (λ (x : Command). P (command_number x)) (some_is d c at) each.0
each-at P (d ∷ cs) each (suc i) c at = each-at P cs each.1 i c at

none-of : (r : Fields) (i : ℕ) → At [] i r → ⊥
none-of r i at = cc

one-of : (x r : Fields) (i : ℕ) → At (x ∷ []) i r → r ≡ x
one-of x r zero at = sym (some_is x r at)
one-of x r (suc i) at = absurd (none-of r i at)

two-of : (x y r : Fields) (i : ℕ) → At (x ∷ y ∷ []) i r → (r ≡ x) ⊎ (r ≡ y)
two-of x y r zero at = inl (sym (some_is x r at))
two-of x y r (suc i) at = inr (one-of y r i at)

not-in : (n : ℕ) (bs : List ℕ) → list_any (λ (a : ℕ). eqb n a) bs ≡ false → (i a : ℕ) → At bs i a → n ≡ a → ⊥
not-in n [] none i a at e = cc
not-in n (b ∷ bs) none zero a at e =
    both_ways (eqb n b) (or_parts (eqb n b) (list_any (λ (a : ℕ). eqb n a) bs) none).0 (eq-eqb n b (e ∙ sym (some_is b a at)))
not-in n (b ∷ bs) none (suc i) a at e =
    not-in n bs (or_parts (eqb n b) (list_any (λ (a : ℕ). eqb n a) bs) none).1 i a at e

-- the commands of messages that speak of an id
abbrev speaking : List ℕ
speaking = 1 ∷ 11 ∷ 12 ∷ 15 ∷ 18 ∷ 19 ∷ 22 ∷ 26 ∷ 27 ∷ []

pub mute-from : (n : ℕ) → list_any (λ (a : ℕ). eqb n a) speaking ≡ false → IsMute n
mute-from n none = (
  (not-in n speaking none 0 1 refl, not-in n speaking none 1 11 refl, not-in n speaking none 2 12 refl, not-in n speaking none 3 15 refl, not-in n speaking none 4 18 refl),
  (not-in n speaking none 5 19 refl, not-in n speaking none 6 22 refl, not-in n speaking none 7 26 refl, not-in n speaking none 8 27 refl),
)

-- the commands that a server acts on, in this order
abbrev pub commands : List Command
commands =
    command.Version ∷ command.EventAdd ∷ command.EventCancel ∷ command.Write ∷ command.Search ∷ command.EventsOff ∷ command.EventsOn ∷ command.ClearChannel
    ∷ command.ReadNotify ∷ command.CreateChannel ∷ command.WriteNotify ∷ command.ClientName ∷ command.HostName ∷ command.Echo ∷ []

module _ (k : Knows) (m : Fields) (fits : HeaderFits (header_of m)) (replies : List Fields) (action : Action) where
  -- each reply speaks of the message's ids alone
  abbrev pub AllSpeak : Type 0
  AllSpeak = (i : ℕ) (r : Fields) → At replies i r → (id : Id) → Speaks r id → IsOfMessage k m id

  none-speak : replies ≡ [] → AllSpeak
  none-speak are i r at id h = absurd (none-of r i (subst (λ (rs : List Fields). At rs i r) are at))

  one-speaks : (x : Fields) → ((id : Id) → Speaks x id → IsOfMessage k m id) → replies ≡ x ∷ [] → AllSpeak
  one-speaks x speaks are i r at id h =
      let is : r ≡ x = one-of x r i (subst (λ (rs : List Fields). At rs i r) are at) in
      speaks id (subst (λ (y : Fields). Speaks y id) is h)

  two-speak : (x y : Fields) → ((id : Id) → Speaks x id → IsOfMessage k m id) → ((id : Id) → Speaks y id → IsOfMessage k m id) → replies ≡ x ∷ y ∷ [] → AllSpeak
  two-speak x y first second are i r at id h = elim (two-of x y r i (subst (λ (rs : List Fields). At rs i r) are at)) [
    | inl is ↦ first id (subst (λ (z : Fields). Speaks z id) is h)
    | inr is ↦ second id (subst (λ (z : Fields). Speaks z id) is h)
  ]

  maybe-speaks : (b : Bool) (x : Fields) → ((id : Id) → Speaks x id → IsOfMessage k m id) → replies ≡ cond b [] (x ∷ []) → AllSpeak
  maybe-speaks true x speaks are = none-speak are
  maybe-speaks false x speaks are = one-speaks x speaks are

  mute-own : (x : Fields) → IsMute x.command → (id : Id) → Speaks x id → IsOfMessage k m id
  mute-own x mute id h = absurd (mute-speaks x id mute h)

  -- an ERROR quotes the id that its request gave, or of a WRITE has the CID
  error-own : (cid status : ℕ) → IsCidAt k m.p1 cid → (id : Id) → Speaks (error_reply cid status m) id → IsOfMessage k m id
  error-own cid status at id h = go id (error-speaks cid status m id fits h)
    where
      go : (id : Id) → Quotes cid (header_of m) id → IsOfMessage k m id
      go (Cid n) q = inr (inr (inr (q.0, (cid, at, ap Cid (sym q.1)))))
      go (Ioid n) q = inl (q.0, q.1)
      go (SubId n) q = inl (q.0, q.1)

  stray-cid : (cid : ℕ) → IsUnknown k m.p1 cid ⊎ IsRetired k m.p1 cid → IsCidAt k m.p1 cid
  stray-cid cid h = elim h [
    | inl unknown ↦ inr unknown
    | inr retired ↦ inl (retired.0, retired.1, retired.2, retired.4)
  ]

  served-cid : (c : Serves k m.p1) → IsCidAt k m.p1 c.channel.cid
  served-cid c = inl (c.channel, c.open_there, c.under, refl)

  -- a reply to a read or to a put has its IOID
  request-own : (x : Fields) → (m.command ≡ 15) ⊎ (m.command ≡ 19) → x.command ≡ m.command → x.p2 ≡ m.p2 → (id : Id) → Speaks x id → IsOfMessage k m id
  request-own x which same ids id h =
      let is : id ≡ Ioid m.p2 = request-speaks x id m.command which same h ∙ ap Ioid ids in
      subst (λ (y : Id). IsOfMessage k m y) (sym is) (inl (which, refl))

  -- a reply to a CREATE_CHAN has its CID
  channel-own : (x : Fields) → m.command ≡ 18 → IsOfChannel x.command → x.p1 ≡ m.p1 → (id : Id) → Speaks x id → IsOfMessage k m id
  channel-own x creates is ids id h =
      let of_it : id ≡ Cid m.p1 = channel-speaks x id is h ∙ ap Cid ids in
      subst (λ (y : Id). IsOfMessage k m y) (sym of_it) (inl (creates, refl))

  one-request : (x : Fields) → (m.command ≡ 15) ⊎ (m.command ≡ 19) → replies ≡ x ∷ [] → x.command ≡ m.command → x.p2 ≡ m.p2 → AllSpeak
  one-request x which are same ids = one-speaks x (request-own x which same ids) are

  abbrev Whenever : ℕ → Type 0
  Whenever n = m.command ≡ n → AllSpeak

  abbrev IsSo : Type 0
  IsSo = Due k m replies action

  speaks-version : IsSo → Whenever 0
  speaks-version due e = maybe-speaks k.greeted version_reply (mute-own version_reply (mute-from 0 refl)) (due.version e).0

  speaks-search : IsSo → Whenever 6
  speaks-search due e = go (is_some (k.record_of (text_in m.payload))) (eqb m.data_type 10) (due.search e).0
    where
      go : (a b : Bool) → replies ≡ cond a (search_reply k.port m ∷ []) (cond b (not_found_reply m ∷ []) []) → AllSpeak
      go true b are = one-speaks (search_reply k.port m) (mute-own (search_reply k.port m) (mute-from 6 refl)) are
      go false true are = one-speaks (not_found_reply m) (mute-own (not_found_reply m) (mute-from 14 refl)) are
      go false false are = none-speak are

  speaks-create : IsSo → Whenever 18
  speaks-create due e = elim (due.create e) [
    | inl made ↦
        let x : Fields = rights_reply m (rights_at k made.known.state.name) in
        let y : Fields = created_reply m (base_number (base_of made.known.state.value)) made.known.state.count made.sid in
        two-speak x y (channel-own x e (inr (inr (inl refl))) refl) (channel-own y e (inl refl) refl) made.are
    | inr refused ↦ one-speaks (failed_reply m) (channel-own (failed_reply m) e (inr (inl refl)) refl) refused.are
  ]

  speaks-read : IsSo → Whenever 15
  speaks-read due e = elim (due.read e) [
    | inl read ↦ elim read.2 [
      | inl fault ↦ one-request _ (inl e) fault.2 refl refl
      | inr value ↦ one-request _ (inl e) value.1.4 refl refl
    ]
    | inr stray ↦ one-request _ (inl e) stray.2 refl refl
  ]

  speaks-put : IsSo → Whenever 19
  speaks-put due e = elim (due.put e) [
    | inl put ↦ elim put.1 [
      | inl fault ↦ one-request _ (inr e) fault.2 refl refl
      | inr taken ↦ maybe-speaks put.0.known.state.slow (status_reply m normal) (request-own (status_reply m normal) (inr e) refl refl) taken.2
    ]
    | inr stray ↦ one-request _ (inr e) stray.2 refl refl
  ]

  speaks-write : IsSo → Whenever 4
  speaks-write due e = elim (due.write e) [
    | inl write ↦ elim write.1 [
      | inl fault ↦ one-speaks (error_reply write.0.channel.cid fault.0 m) (error-own write.0.channel.cid fault.0 (served-cid write.0)) fault.2
      | inr taken ↦ none-speak taken.2
    ]
    | inr stray ↦ one-speaks (error_reply stray.0 bad_channel m) (error-own stray.0 bad_channel (stray-cid stray.0 stray.1)) stray.2
  ]

  speaks-subscribe : IsSo → Whenever 1
  speaks-subscribe due e = elim (due.subscribe e) [
    | inl add ↦ elim add.1 [
      | inl fault ↦ one-speaks (error_reply add.0.channel.cid fault.0 m) (error-own add.0.channel.cid fault.0 (served-cid add.0)) fault.2
      | inr taken ↦ none-speak taken.1
    ]
    | inr stray ↦ one-speaks (error_reply stray.0 bad_channel m) (error-own stray.0 bad_channel (stray-cid stray.0 stray.1)) stray.2
  ]

  speaks-cancel : IsSo → Whenever 2
  speaks-cancel due e =
      one-speaks (cancel_reply m) (λ id h. (let is : id ≡ SubId m.p2 = event-speaks (cancel_reply m) id refl h in inr (inr (inl (e, is))))) (due.cancel e).0

  speaks-clear : IsSo → Whenever 12
  speaks-clear due e =
      one-speaks (cleared_reply m) (λ id h. (let is : id ≡ Cid m.p2 = clear-speaks (cleared_reply m) id refl h in inr (inl (e, is)))) (due.clear e).0

  speaks-known : IsSo → is_known m.command ≡ true → AllSpeak
  speaks-known due known =
      any-of m.command commands known Whenever (each-at Whenever commands (
        speaks-version due,
        (
          speaks-subscribe due,
          (
            speaks-cancel due,
            (
              speaks-write due,
              (
                speaks-search due,
                (
                  (λ e. none-speak (due.off e).0),
                  (
                    (λ e. none-speak (due.on e).0),
                    (
                      speaks-clear due,
                      (
                        speaks-read due,
                        (
                          speaks-create due,
                          (
                            speaks-put due,
                            (
                              (λ e. none-speak (due.user e).0),
                              ((λ e. none-speak (due.host e).0), ((λ e. one-speaks (header_only command.Echo) (mute-own (header_only command.Echo) (mute-from 23 refl)) (due.echo e).0), tt)),
                            ),
                          ),
                        ),
                      ),
                    ),
                  ),
                ),
              ),
            ),
          ),
        ),
      )) refl

  pub due-speak : IsSo → AllSpeak
  due-speak due = elim (cases_Bool (is_known m.command)) [
    | inl known ↦ speaks-known due known
    | inr other ↦ none-speak (due.other other).0
  ]

-- ---- how many replies are due

module _ (k : Knows) (m : Fields) (replies : List Fields) (action : Action) where
  -- none, one, or those to a CREATE_CHAN
  abbrev pub AreFew : Type 0
  AreFew =
      (replies ≡ [])
      ⊎ (((x : Fields) × (replies ≡ x ∷ []))
      ⊎ ((x y : Fields) × (replies ≡ x ∷ y ∷ []) × (x.command ≡ 22) × (y.command ≡ 18) × (m.command ≡ 18)))

  maybe-few : (b : Bool) (x : Fields) → replies ≡ cond b [] (x ∷ []) → AreFew
  maybe-few true x are = inl are
  maybe-few false x are = inr (inl (x, are))

  abbrev FewWhen : ℕ → Type 0
  FewWhen n = m.command ≡ n → AreFew

  abbrev DueSo : Type 0
  DueSo = Due k m replies action

  few-search : DueSo → FewWhen 6
  few-search due e = go (is_some (k.record_of (text_in m.payload))) (eqb m.data_type 10) (due.search e).0
    where
      go : (a b : Bool) → replies ≡ cond a (search_reply k.port m ∷ []) (cond b (not_found_reply m ∷ []) []) → AreFew
      go true b are = inr (inl (search_reply k.port m, are))
      go false true are = inr (inl (not_found_reply m, are))
      go false false are = inl are

  few-create : DueSo → FewWhen 18
  few-create due e = elim (due.create e) [
    | inl made ↦
        let x : Fields = rights_reply m (rights_at k made.known.state.name) in
        let y : Fields = created_reply m (base_number (base_of made.known.state.value)) made.known.state.count made.sid in
        inr (inr (x, y, made.are, refl, refl, e))
    | inr refused ↦ inr (inl (failed_reply m, refused.are))
  ]

  few-read : DueSo → FewWhen 15
  few-read due e = elim (due.read e) [
    | inl read ↦ elim read.2 [
      | inl fault ↦ inr (inl (_, fault.2))
      | inr value ↦ inr (inl (_, value.1.4))
    ]
    | inr stray ↦ inr (inl (_, stray.2))
  ]

  few-put : DueSo → FewWhen 19
  few-put due e = elim (due.put e) [
    | inl put ↦ elim put.1 [
      | inl fault ↦ inr (inl (_, fault.2))
      | inr taken ↦ maybe-few put.0.known.state.slow (status_reply m normal) taken.2
    ]
    | inr stray ↦ inr (inl (_, stray.2))
  ]

  few-write : DueSo → FewWhen 4
  few-write due e = elim (due.write e) [
    | inl write ↦ elim write.1 [
      | inl fault ↦ inr (inl (_, fault.2))
      | inr taken ↦ inl taken.2
    ]
    | inr stray ↦ inr (inl (_, stray.2))
  ]

  few-subscribe : DueSo → FewWhen 1
  few-subscribe due e = elim (due.subscribe e) [
    | inl add ↦ elim add.1 [
      | inl fault ↦ inr (inl (_, fault.2))
      | inr taken ↦ inl taken.1
    ]
    | inr stray ↦ inr (inl (_, stray.2))
  ]

  few-known : DueSo → is_known m.command ≡ true → AreFew
  few-known due known =
      any-of m.command commands known FewWhen (each-at FewWhen commands (
        (λ e. maybe-few k.greeted version_reply (due.version e).0),
        (
          few-subscribe due,
          (
            (λ e. inr (inl (cancel_reply m, (due.cancel e).0))),
            (
              few-write due,
              (
                few-search due,
                (
                  (λ e. inl (due.off e).0),
                  (
                    (λ e. inl (due.on e).0),
                    (
                      (λ e. inr (inl (cleared_reply m, (due.clear e).0))),
                      (
                        few-read due,
                        (
                          few-create due,
                          (
                            few-put due,
                            (
                              (λ e. inl (due.user e).0),
                              ((λ e. inl (due.host e).0), ((λ e. inr (inl (header_only command.Echo, (due.echo e).0))), tt)),
                            ),
                          ),
                        ),
                      ),
                    ),
                  ),
                ),
              ),
            ),
          ),
        ),
      )) refl

  pub due-few : DueSo → AreFew
  due-few due = elim (cases_Bool (is_known m.command)) [
    | inl known ↦ few-known due known
    | inr other ↦ inl (due.other other).0
  ]
