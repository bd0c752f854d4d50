-- The replies that are due for a message are messages, and what it does beside
-- them fits messages too.
use Rattle.std.proofs.Common.{◌≡◌, ℕ, ◌+◌, ◌*◌, ◌%◌, ◌^◌, ◌<◌, ◌≤◌, inl, inr, zero, suc, Bool, true, false, ◌==◌, ◌||◌, cond, List, [], ◌∷◌, ◌++◌, length, Option, Some, None, refl, sym, ap, ◌∙◌, subst, arith}
use Rattle.std.specs.Prelude.{Ok, find, is_some, nat_lt, not, option_map, replicate, unwrap_or}
use Rattle.std.proofs.lemmas.Bool.{both_ways, cases_Bool, eqb-true, ltb-false}
use Rattle.std.proofs.lemmas.List.{length-append, length-replicate}
use Rattle.ca_dbr.specs.declared.data_type.BaseType.{BaseType}
use Rattle.ca_dbr.specs.declared.value.Meta.{Meta}
use Rattle.ca_dbr.specs.Elements.{Elements, base_of, count_of}
use Rattle.ca_dbr.specs.Held.{IsHeldValue, display_of, kind_of}
use Rattle.ca_dbr.specs.Reading.{least_size}
use Rattle.ca_dbr.specs.Types.{base_number}
use Rattle.ca_dbr.proofs.OneReading.{base_number-small}
use Rattle.ca_display.specs.declared.image_type.ImageType.{ImageType}
use Rattle.ca_display.specs.Image.{size_in}
use Rattle.ca_display.specs.Types.{base_in}
use Rattle.ca_queue.specs.Keys.{is_among}
use Rattle.ca_records.specs.Faults.{first_fault, has_misfit, lacks_conversion, late_put_fault}
use Rattle.ca_records.specs.Given.{given_as}
use Rattle.ca_records.proofs.Givens.{given-counted, given-held}
use Rattle.ca_records.specs.Record.{RecordState}
use Rattle.ca_records.specs.Rules.{Rule, may_read, may_write, rule_bits}
use Rattle.ca_text.specs.declared.command.Command.TheVariants as command
use Rattle.ca_text.specs.Limits.{circuit_queues, element_limit, minor_version, payload_limit, queue_subscriptions, waiting_puts}
use Rattle.ca_text.specs.Status.{add_fail, bad_channel, bad_count, bad_type, get_fail, no_convert, no_read_access, no_write_access, normal, put_fail}
use Rattle.ca_text.proofs.Places.{some_is}
use Rattle.ca_wire.specs.Fields.{Fields, IsPayload}
use Rattle.ca_wire.specs.Header.{header_spelling, number16}
use Rattle.ca_wire.specs.Message.{IsMessage, header_of}
use Rattle.ca_wire.specs.Messages.{header_only, cancel_reply, clear_request, created_reply, error_reply, failed_reply, mask_in, not_found_reply, rights_reply, search_reply, status_reply, text_in, value_reply, version_reply}
use Rattle.ca_wire.proofs.Headers.{length-header_spelling}
use Rattle.ca_wire.proofs.Padding.{message-of, padded-payload}
use Rattle.ca_model.specs.Due.{Action, Adds, Applies, Clears, Drops, Due, Greets, KnownChannel, KnownRecord, Knows, Names, Nothing, Opens, PutRefused, PutTaken, Serves, StrayDue, Switches, Waits, fault_of_read, is_known, must_wait, named, rights_at}
use Rattle.ca_model.specs.Ends.{Peer}
use Rattle.ca_model.specs.Faults.{early_put_fault, read_count, read_fault, read_shown, subscribed_count, subscription_fault, too_many}
use Rattle.ca_model.specs.Images.{base_type_of, image_of, image_type_of, lacks_conversion_to, lacks_type, shown_in}
use Rattle.ca_model.specs.Speech.{In}
use Rattle.ca_model.proofs.Showing.{length-image_of, shown_in-is, size_in-small, size_in-some}
use Rattle.ca_laws_parts.proofs.Replies.{any-of, commands, each-at}
use Rattle.ca_laws_parts.specs.ServerFits.{ValueFits, WantedFits}
use Rattle.ca_laws_parts.specs.Streams.{AreMessages}
use Rattle.ca_laws_parts.proofs.Fits.{empty-payload}
use Rattle.ca_laws_parts.proofs.Speaks.{header_only-good, clear-good, none-each}

-- What a server knows fits messages.
pub record KnowsFits (k : Knows) : Type 0 where
  pub port : k.port < 2 ^ 16
  pub records : (name : List ℕ) (r : KnownRecord) → k.record_of name ≡ Some r → (r.state.count ≤ element_limit) × ValueFits r.state.value
  pub cids : (c : KnownChannel) → In k.channels c → c.cid < 2 ^ 32

-- and so does what a message does
abbrev pub ActionFits : Action → Type 0
ActionFits (Opens c) = c.cid < 2 ^ 32
ActionFits (Applies name value busies) = ValueFits value
ActionFits (Waits name value) = ValueFits value
ActionFits (Adds s) = WantedFits s.wanted
ActionFits did = Unit {0}

-- ---- images

-- the image of what a reader is shown of a value
pub shown-payload : (v : Elements) (t : ImageType) (n : ℕ) (e : Elements) (meta : Meta) → IsHeldValue v → n ≤ element_limit → shown_in v n t ≡ Ok e → (count_of e ≡ n) × (length (image_of v t e meta) ≤ payload_limit)
shown-payload v t n e meta valued few is =
    ((shown_in-is t n e v is).1, subst (λ (k : ℕ). k ≤ payload_limit) (sym (length-image_of t n v e meta valued is)) (size_in-small t n few))

-- that of one element at least has a byte
pub shown-some : (v : Elements) (t : ImageType) (n : ℕ) (e : Elements) (meta : Meta) → IsHeldValue v → 0 < n → shown_in v n t ≡ Ok e → 0 < length (image_of v t e meta)
shown-some v t n e meta valued some is = subst (λ (k : ℕ). 0 < k) (sym (length-image_of t n v e meta valued is)) (size_in-some t n some)

pub blank-some : (t : ImageType) (n : ℕ) → 0 < n → 0 < length {A = ℕ} (replicate (size_in t n) 0)
blank-some t n some = subst (λ (k : ℕ). 0 < k) (sym (length-replicate (size_in t n) 0)) (size_in-some t n some)

-- ---- statuses

-- the faults of each kind of request, in order
abbrev read_faults : RecordState → (rights : ℕ) → Fields → ImageType → List (Bool × ℕ)
read_faults r rights m t =
    (lacks_type (display_of r.value) t, bad_type) ∷ (not (may_read rights), no_read_access) ∷ (too_many r t (read_count r m), bad_count) ∷ (lacks_conversion (read_shown r m t), no_convert) ∷ (has_misfit (read_shown r m t), get_fail) ∷ []

abbrev early_faults : RecordState → (rights : ℕ) → Fields → BaseType → List (Bool × ℕ)
early_faults r rights m b =
    (not (may_write rights), no_write_access) ∷ (m.count == 0 || (nat_lt r.count m.count || nat_lt (length m.payload) (least_size b m.count)), bad_count) ∷ []

abbrev late_faults : RecordState → Bool → ℕ → Elements → List (Bool × ℕ)
late_faults r waits others e =
    (lacks_conversion (given_as e (kind_of r.value)), no_convert) ∷ (has_misfit (given_as e (kind_of r.value)), put_fail) ∷ (cond waits (not (nat_lt others waiting_puts)) false, put_fail) ∷ []

abbrev event_faults : RecordState → (rights others : ℕ) → Bool → Fields → ImageType → List (Bool × ℕ)
event_faults r rights others used m t =
    (lacks_type (display_of r.value) t, bad_type) ∷ (not (may_read rights), no_read_access) ∷ (nat_lt (length m.payload) 16 || (mask_in m % 16 == 0 || used), add_fail) ∷ (too_many r t (subscribed_count r m), bad_count)
    ∷ (lacks_conversion_to (display_of r.value) r.value (base_in t), no_convert) ∷ (not (nat_lt others (circuit_queues * queue_subscriptions)), add_fail) ∷ []

-- each has a number that fits
abbrev AreSmall : List (Bool × ℕ) → Type 0
AreSmall [] = Unit {0}
AreSmall (f ∷ fs) = (f.1 < 2 ^ 32) × AreSmall fs

first-small : (fs : List (Bool × ℕ)) (s : ℕ) → AreSmall fs → first_fault fs ≡ Some s → s < 2 ^ 32
first-small [] s small is = absurd cc
first-small (f ∷ fs) s small is = go f.0 is (first-small fs s small.1)
  where
    go : (b : Bool) → option_map (λ (g : Bool × ℕ). g.1) (cond b (Some f) (find (λ (g : Bool × ℕ). g.0) fs)) ≡ Some s → (first_fault fs ≡ Some s → s < 2 ^ 32) → s < 2 ^ 32
    go true is rest = subst (λ (k : ℕ). k < 2 ^ 32) (some_is f.1 s is) small.0
    go false is rest = rest is

read-status : (r : RecordState) (rights s : ℕ) (m : Fields) (o : Option ImageType) → read_fault r rights m o ≡ Some s → s < 2 ^ 32
read-status r rights s m None is = subst (λ (k : ℕ). k < 2 ^ 32) (some_is bad_type s is) (omega arith)
read-status r rights s m (Some t) is = first-small (read_faults r rights m t) s (omega arith, (omega arith, (omega arith, (omega arith, (omega arith, tt))))) is

early-status : (r : RecordState) (rights s : ℕ) (m : Fields) (o : Option BaseType) → early_put_fault r rights m o ≡ Some s → s < 2 ^ 32
early-status r rights s m None is = subst (λ (k : ℕ). k < 2 ^ 32) (some_is bad_type s is) (omega arith)
early-status r rights s m (Some b) is = first-small (early_faults r rights m b) s (omega arith, (omega arith, tt)) is

late-status : (r : RecordState) (waits : Bool) (others s : ℕ) (e : Elements) → late_put_fault r waits others e ≡ Some s → s < 2 ^ 32
late-status r waits others s e is = first-small (late_faults r waits others e) s (omega arith, (omega arith, (omega arith, tt))) is

event-status : (r : RecordState) (rights others s : ℕ) (used : Bool) (m : Fields) (o : Option ImageType) → subscription_fault r rights used others m o ≡ Some s → s < 2 ^ 32
event-status r rights others s used m None is = subst (λ (k : ℕ). k < 2 ^ 32) (some_is bad_type s is) (omega arith)
event-status r rights others s used m (Some t) is = first-small (event_faults r rights others used m t) s (omega arith, (omega arith, (omega arith, (omega arith, (omega arith, (omega arith, tt)))))) is

-- ---- counts of requests without fault

or-left : (a b : Bool) → (a || b) ≡ false → a ≡ false
or-left true b e = e
or-left false b e = refl

or-right : (a b : Bool) → (a || b) ≡ false → b ≡ false
or-right true b e = absurd (both_ways true e refl)
or-right false b e = e

few-of : (r : RecordState) (t : ImageType) (n : ℕ) → too_many r t n ≡ false → n ≤ r.count
few-of r t n e = ltb-false r.count n (or-left (nat_lt r.count n) (nat_lt payload_limit (size_in t n)) e)

read-few : (r : RecordState) (rights : ℕ) (m : Fields) (t : ImageType) → read_fault r rights m (Some t) ≡ None → read_count r m ≤ r.count
read-few r rights m t e = few-of r t (read_count r m) (none-each (read_faults r rights m t) e 2 (too_many r t (read_count r m), bad_count) refl)

event-few : (r : RecordState) (rights others : ℕ) (used : Bool) (m : Fields) (o : Option ImageType) → r.count ≤ element_limit → subscription_fault r rights used others m o ≡ None → m.count ≤ element_limit
event-few r rights others used m None le e = absurd cc
event-few r rights others used m (Some t) le e = go (m.count == 0) refl (few-of r t (subscribed_count r m) (none-each (event_faults r rights others used m t) e 3 (too_many r t (subscribed_count r m), bad_count) refl))
  where
    go : (b : Bool) → (m.count == 0) ≡ b → cond b r.count m.count ≤ r.count → m.count ≤ element_limit
    go true is few = (let z : m.count ≡ 0 = eqb-true m.count 0 is in omega (arith, z))
    go false is few = omega (arith, few, le)

put-few : (r : RecordState) (rights : ℕ) (m : Fields) (o : Option BaseType) → early_put_fault r rights m o ≡ None → m.count ≤ r.count
put-few r rights m None e = absurd cc
put-few r rights m (Some b) e =
    let f : (m.count == 0 || (nat_lt r.count m.count || nat_lt (length m.payload) (least_size b m.count))) ≡ false = none-each (early_faults r rights m b) e 1 (m.count == 0 || (nat_lt r.count m.count || nat_lt (length m.payload) (least_size b m.count)), bad_count) refl in
    ltb-false r.count m.count (or-left (nat_lt r.count m.count) (nat_lt (length m.payload) (least_size b m.count)) (or-right (m.count == 0) (nat_lt r.count m.count || nat_lt (length m.payload) (least_size b m.count)) f))

pub some-of : (n : ℕ) → (n == 0) ≡ false → 0 < n
some-of zero e = absurd (both_ways true e refl)
some-of (suc n) e = omega arith

put-some : (r : RecordState) (rights : ℕ) (m : Fields) (o : Option BaseType) → early_put_fault r rights m o ≡ None → 0 < m.count
put-some r rights m None e = absurd cc
put-some r rights m (Some b) e =
    let rest : Bool = nat_lt r.count m.count || nat_lt (length m.payload) (least_size b m.count) in
    some-of m.count (or-left (m.count == 0) rest (none-each (early_faults r rights m b) e 1 (m.count == 0 || rest, bad_count) refl))

-- ---- lists of replies

none-are : (replies : List Fields) → replies ≡ [] → AreMessages replies
none-are replies is = subst (λ (l : List Fields). AreMessages l) (sym is) (λ i m at. absurd cc)

one-is : (replies : List Fields) (x : Fields) → IsMessage x → replies ≡ x ∷ [] → AreMessages replies
one-is replies x good is = subst (λ (l : List Fields). AreMessages l) (sym is) go
  where
    go : AreMessages (x ∷ [])
    go zero m at = subst (λ (z : Fields). IsMessage z) (some_is x m at) good
    go (suc i) m at = absurd cc

two-are : (replies : List Fields) (x y : Fields) → IsMessage x → IsMessage y → replies ≡ x ∷ y ∷ [] → AreMessages replies
two-are replies x y good other is = subst (λ (l : List Fields). AreMessages l) (sym is) go
  where
    go : AreMessages (x ∷ y ∷ [])
    go zero m at = subst (λ (z : Fields). IsMessage z) (some_is x m at) good
    go (suc i) m at = one-is (y ∷ []) y other refl i m at

does : (did x : Action) → ActionFits x → did ≡ x → ActionFits did
does did x fits is = subst (λ (a : Action). ActionFits a) (sym is) fits

-- ---- single replies

status-good : (m : Fields) (s : ℕ) → IsMessage m → s < 2 ^ 32 → IsMessage (status_reply m s)
status-good m s good lt = message-of (status_reply m s) good.header.command good.header.data_type good.header.count lt good.header.p2 empty-payload

error-good : (cid s : ℕ) (m : Fields) → cid < 2 ^ 32 → s < 2 ^ 32 → IsMessage (error_reply cid s m)
error-good cid s m a b = message-of (error_reply cid s m) (omega arith) (omega arith) (omega arith) a b payload
  where
    len : length (header_spelling (header_of m) ++ replicate 8 0) ≡ length (header_spelling (header_of m)) + 8
    len = length-append (header_spelling (header_of m)) (replicate 8 0)

    payload : IsPayload (header_spelling (header_of m) ++ replicate 8 0)
    payload = elim (length-header_spelling (header_of m)) [
      | inl short ↦ record { aligned = ap (λ (n : ℕ). n % 8) (len ∙ ap (λ (n : ℕ). n + 8) short); within = omega (arith, len, short) }
      | inr long ↦ record { aligned = ap (λ (n : ℕ). n % 8) (len ∙ ap (λ (n : ℕ). n + 8) long); within = omega (arith, len, long) }
    ]

length-minor : length (number16 minor_version ++ replicate 6 0) ≡ 8
unfolding number16
length-minor = refl

search-good : (port : ℕ) (m : Fields) → port < 2 ^ 16 → IsMessage m → IsMessage (search_reply port m)
search-good port m lt good =
    message-of (search_reply port m) (omega arith) lt (omega arith) (omega arith) good.header.p2 (record { aligned = ap (λ (n : ℕ). n % 8) length-minor; within = omega (arith, length-minor) })

rights-small : (o : Option Rule) → unwrap_or (option_map rule_bits o) 3 < 2 ^ 32
rights-small None = omega arith
rights-small (Some r) = go r.reads r.writes
  where
    go : (a b : Bool) → cond a 1 0 + cond b 2 0 < 2 ^ 32
    go true true = omega arith
    go true false = omega arith
    go false true = omega arith
    go false false = omega arith

-- ---- each command

module _ (k : Knows) (m : Fields) (replies : List Fields) (did : Action) (f : KnowsFits k) (good : IsMessage m) where
  abbrev So : Type 0
  So = AreMessages replies × ActionFits did

  abbrev Whenever : ℕ → Type 0
  Whenever n = m.command ≡ n → So

  abbrev IsSo : Type 0
  IsSo = Due k m replies did

  quiet : (x : Action) → ActionFits x → (replies ≡ []) × (did ≡ x) → So
  quiet x fits due = (none-are replies due.0, does did x fits due.1)

  one : (r : Fields) (x : Action) → IsMessage r → ActionFits x → (replies ≡ r ∷ []) × (did ≡ x) → So
  one r x is fits due = (one-is replies r is due.0, does did x fits due.1)

  maybe : (b : Bool) (r : Fields) → IsMessage r → replies ≡ cond b [] (r ∷ []) → AreMessages replies
  maybe true r is are = none-are replies are
  maybe false r is are = one-is replies r is are

  cid-fits : (c : Serves k m.p1) → c.channel.cid < 2 ^ 32
  cid-fits c = f.cids c.channel c.open_there

  stray : (reply : ℕ → Fields) → ((cid : ℕ) → cid < 2 ^ 32 → IsMessage (reply cid)) → StrayDue k m reply replies did → So
  stray reply are (cid, inl unknown, said, nothing) = (one-is replies (reply cid) (are cid (subst (λ (n : ℕ). n < 2 ^ 32) (sym unknown.1) (omega arith))) said, does did Nothing tt nothing)
  stray reply are (cid, inr retired, said, nothing) = (one-is replies (reply cid) (are cid (subst (λ (n : ℕ). n < 2 ^ 32) retired.4 (f.cids retired.0 retired.1))) said, does did Nothing tt nothing)

  name-fits : (p : Peer) → did ≡ named k p → ActionFits did
  name-fits p is = go k.settled is
    where
      go : (b : Bool) → did ≡ cond b Nothing (Names p) → ActionFits did
      go true is = does did Nothing tt is
      go false is = does did (Names p) tt is

  version-fits : IsSo → Whenever 0
  version-fits due e = (let d = due.version e in (maybe k.greeted version_reply (message-of version_reply (omega arith) (omega arith) (omega arith) (omega arith) (omega arith) empty-payload) d.0, does did Greets tt d.1))

  search-fits : IsSo → Whenever 6
  search-fits due e = (let d = due.search e in (go (is_some (k.record_of (text_in m.payload))) (m.data_type == 10) d.0, does did Nothing tt d.1))
    where
      go : (a b : Bool) → replies ≡ cond a (search_reply k.port m ∷ []) (cond b (not_found_reply m ∷ []) []) → AreMessages replies
      go true b are = one-is replies (search_reply k.port m) (search-good k.port m f.port good) are
      go false true are = one-is replies (not_found_reply m) (message-of (not_found_reply m) (omega arith) good.header.data_type (omega arith) good.header.p2 good.header.p2 empty-payload) are
      go false false are = none-are replies are

  create-fits : IsSo → Whenever 18
  create-fits due e = elim (due.create e) [
    | inl made ↦
        let state : RecordState = made.known.state in
        let few : state.count ≤ element_limit = (f.records (text_in m.payload) made.known made.named).0 in
        let small : base_number (base_of state.value) < 7 = base_number-small (base_of state.value) in (
          two-are replies (rights_reply m (rights_at k state.name)) (created_reply m (base_number (base_of state.value)) state.count made.sid)
              (message-of (rights_reply m (rights_at k state.name)) (omega arith) (omega arith) (omega arith) good.header.p1 (rights-small (find _ k.rules)) empty-payload)
              (message-of (created_reply m (base_number (base_of state.value)) state.count made.sid) (omega arith) (omega (arith, small)) (omega (arith, few)) good.header.p1 made.fits empty-payload) made.are,
          does did (Opens _) good.header.p1 made.does,
        )
    | inr refused ↦ (
      one-is replies (failed_reply m) (message-of (failed_reply m) (omega arith) (omega arith) (omega arith) good.header.p1 (omega arith) empty-payload) refused.are,
      does did Nothing tt refused.does,
    )
  ]

  read-fits : IsSo → Whenever 15
  read-fits due e = elim (due.read e) [
    | inl (c, nothing, inl fault) ↦ (
      one-is replies (status_reply m fault.0) (status-good m fault.0 good (read-status c.known.state (rights_at k c.channel.name) fault.0 m (image_type_of m.data_type) fault.1)) fault.2,
      does did Nothing tt nothing,
    )
    | inl (c, nothing, inr value) ↦ (value-fits c value, does did Nothing tt nothing)
    | inr no_channel ↦ stray (λ cid. status_reply m bad_channel) (λ cid lt. status-good m bad_channel good (omega arith)) no_channel
  ]
    where
      value-fits : (c : Serves k m.p1) → (fault_of_read k m c ≡ None) × ((t : ImageType) × (e : Elements) × (image_type_of m.data_type ≡ Some t) × (read_shown c.known.state m t ≡ Ok e) × (replies ≡ value_reply m (count_of e) (image_of c.known.state.value t e c.known.state.meta) ∷ [])) → AreMessages replies
      value-fits c (none, (t, e, typed, is, are)) =
          let r : RecordState = c.known.state in
          let known = f.records c.channel.name c.known c.named in
          let few : read_count r m ≤ r.count = read-few r (rights_at k c.channel.name) m t (subst (λ (o : Option ImageType). read_fault r (rights_at k c.channel.name) m o ≡ None) typed none) in
          let le : r.count ≤ element_limit = known.0 in
          let limit : read_count r m ≤ element_limit = omega (arith, few, le) in
          let p = shown-payload r.value t (read_count r m) e r.meta known.1.0 limit is in
          let count : count_of e ≡ read_count r m = p.0 in
          one-is replies (value_reply m (count_of e) (image_of r.value t e r.meta))
          (message-of (value_reply m (count_of e) (image_of r.value t e r.meta)) good.header.command good.header.data_type (omega (arith, count, limit)) (omega arith) good.header.p2 (padded-payload (image_of r.value t e r.meta) p.1)) are

  refused-small : (c : Serves k m.p1) (s : ℕ) → PutRefused k m c s → s < 2 ^ 32
  refused-small c s (inl early) = early-status c.known.state (rights_at k c.channel.name) s m (base_type_of m.data_type) early
  refused-small c s (inr (none, (e, reads, late))) = late-status c.known.state (must_wait k m c) c.known.waits s e late

  taken-fits : (c : Serves k m.p1) (value : Elements) → PutTaken k m c value → ValueFits value
  taken-fits c value taken =
      let r : RecordState = c.known.state in
      let known = f.records c.channel.name c.known c.named in
      let le : r.count ≤ element_limit = known.0 in
      let few : m.count ≤ r.count = put-few r (rights_at k c.channel.name) m (base_type_of m.data_type) taken.early in
      let count : count_of value ≡ m.count = given-counted taken.elements (kind_of r.value) value taken.is ∙ taken.reads.reads.counted in
      let some : 0 < m.count = put-some r (rights_at k c.channel.name) m (base_type_of m.data_type) taken.early in
      (given-held taken.elements r.value value taken.reads.reads.valued known.1.0 taken.is, omega (arith, count, some), omega (arith, count, few, le))

  write-fits : IsSo → Whenever 4
  write-fits due e = elim (due.write e) [
    | inl (c, inl refused) ↦ (one-is replies (error_reply c.channel.cid refused.0 m) (error-good c.channel.cid refused.0 m (cid-fits c) (refused-small c refused.0 refused.1)) refused.2, does did Nothing tt refused.3)
    | inl (c, inr taken) ↦ (none-are replies taken.2, does did (Applies c.channel.name taken.0 false) (taken-fits c taken.0 taken.1) taken.3)
    | inr no_channel ↦ stray (λ cid. error_reply cid bad_channel m) (λ cid lt. error-good cid bad_channel m lt (omega arith)) no_channel
  ]

  put-fits : IsSo → Whenever 19
  put-fits due e = elim (due.put e) [
    | inl (c, inl refused) ↦ (one-is replies (status_reply m refused.0) (status-good m refused.0 good (refused-small c refused.0 refused.1)) refused.2, does did Nothing tt refused.3)
    | inl (c, inr taken) ↦ (maybe c.known.state.slow (status_reply m normal) (status-good m normal good (omega arith)) taken.2, puts c taken.0 (must_wait k m c) (taken-fits c taken.0 taken.1) taken.3)
    | inr no_channel ↦ stray (λ cid. status_reply m bad_channel) (λ cid lt. status-good m bad_channel good (omega arith)) no_channel
  ]
    where
      puts : (c : Serves k m.p1) (value : Elements) (b : Bool) → ValueFits value → did ≡ cond b (Waits c.channel.name value) (Applies c.channel.name value c.known.state.slow) → ActionFits did
      puts c value true fits is = does did (Waits c.channel.name value) fits is
      puts c value false fits is = does did (Applies c.channel.name value c.known.state.slow) fits is

  subscribe-fits : IsSo → Whenever 1
  subscribe-fits due e = elim (due.subscribe e) [
    | inl (c, inl fault) ↦ (
      one-is replies (error_reply c.channel.cid fault.0 m)
          (error-good c.channel.cid fault.0 m (cid-fits c) (event-status c.known.state (rights_at k c.channel.name) (length k.keys) fault.0 (is_among _ k.keys) m (image_type_of m.data_type) fault.1)) fault.2,
      does did Nothing tt fault.3,
    )
    | inl (c, inr begins) ↦ (
      none-are replies begins.1,
      does did (Adds _)
          (good.header.data_type, event-few c.known.state (rights_at k c.channel.name) (length k.keys) (is_among _ k.keys) m (image_type_of m.data_type) (f.records c.channel.name c.known c.named).0 begins.0, good.header.p2)
          begins.2,
    )
    | inr no_channel ↦ stray (λ cid. error_reply cid bad_channel m) (λ cid lt. error-good cid bad_channel m lt (omega arith)) no_channel
  ]

  cancel-good : IsMessage (cancel_reply m)
  cancel-good = message-of (cancel_reply m) (omega arith) good.header.data_type good.header.count good.header.p1 good.header.p2 empty-payload

  known-fits : IsSo → is_known m.command ≡ true → So
  known-fits due known =
      any-of m.command commands known Whenever (each-at Whenever commands (
        version-fits due,
        (
          subscribe-fits due,
          (
            (λ e. one (cancel_reply m) (Drops _) cancel-good tt (due.cancel e)),
            (
              write-fits due,
              (
                search-fits due,
                (
                  (λ e. quiet (Switches false) tt (due.off e)),
                  (
                    (λ e. quiet (Switches true) tt (due.on e)),
                    (
                      (λ e. one (clear_request m.p1 m.p2) (Clears m.p1) (clear-good m.p1 m.p2 good.header.p1 good.header.p2) tt (due.clear e)),
                      (
                        read-fits due,
                        (
                          create-fits due,
                          (
                            put-fits due,
                            (
                              (λ e. (let d = due.user e in (none-are replies d.0, name-fits _ d.1))),
                              (
                                (λ e. (let d = due.host e in (none-are replies d.0, name-fits _ d.1))),
                                ((λ e. one (header_only command.Echo) Nothing (header_only-good command.Echo (omega arith)) tt (due.echo e)), tt),
                              ),
                            ),
                          ),
                        ),
                      ),
                    ),
                  ),
                ),
              ),
            ),
          ),
        ),
      )) refl

  pub due-fits : IsSo → So
  due-fits due = elim (cases_Bool (is_known m.command)) [
    | inl known ↦ known-fits due known
    | inr other ↦ quiet Nothing tt (due.other other)
  ]
