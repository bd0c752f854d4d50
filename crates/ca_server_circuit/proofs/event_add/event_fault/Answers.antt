use Rattle.std.proofs.Common.{◌≡◌, ◌<◌, ◌≤◌, ◌%◌, ◌==◌, ℕ, Bool, true, false, not, if◌then◌else◌, nat_lt, length, refl, sym, ap, ◌∙◌, subst, arith}
use Rattle.std.proofs.lemmas.Bool.{eq-eqb, eqb-true, le-ltb, lt-ltb, ne_eqb}
use Rattle.ca_text.specs.Limits.{element_limit, payload_limit}
use Rattle.ca_dbr.specs.Elements.{Elements}
use Rattle.ca_dbr.specs.Held.{display_of}
use Rattle.ca_display.specs.Image.{size_in}
use Rattle.ca_display.specs.Types.{base_in}
use Rattle.ca_records.specs.Record.{RecordState}
use Rattle.ca_wire.specs.Fields.{Fields}
use Rattle.ca_wire.specs.Messages.{mask_in}
use Rattle.ca_model.specs.Faults.{subscribed_count, too_many}
use Rattle.ca_model.specs.Images.{lacks_conversion_to}
use Rattle.ca_server_circuit.specs.Showing.{HasImage, LacksImage}
use Rattle.ca_server_circuit.specs.Stepping.{message_of}
use Rattle.ca_server_circuit.proofs.Shows.{not-many, over-count, over-size}
use Rattle.ca_server_circuit.proofs.Subscribes.{event-blank, event-lacks, event-last, event-many, event-right, event-short, event-type, event-used}
use Rattle.ca_server_subscriptions.proofs.Imaging.{number-of-image_type, image_type-small}
use Rattle.ca_server_circuit.proofs.event_add.event_fault.Goals as goal

-- a count of 0 is small too
asked : (r : RecordState) (m : Fields) (n : ℕ) → n ≡ subscribed_count r m → n ≤ element_limit → m.count ≤ element_limit
asked r m n is le = by (m.count == 0) refl
  where
    by : (b : Bool) → (m.count == 0) ≡ b → m.count ≤ element_limit
    by true z = (let e = eqb-true m.count 0 z in omega (arith, e))
    by false z = (let e : n ≡ m.count = is ∙ ap (λ (b : Bool). if b then r.count else m.count) z in omega (arith, e, le))

pub returns-in_default : goal.returns-in_default
returns-in_default c =
    let r = c.args.of.now in
    let m = message_of c.args.header.now c.args.payload.now in
    event-type r c.args.rights c.args.in_use c.args.others m (subst (λ (e : Elements). LacksImage e m.data_type) c.held-held.ensures.held c.in_default.ensures)

pub returns-then-rights-ne1 : goal.returns-then-rights-ne1
returns-then-rights-ne1 c =
    let r = c.args.of.now in
    let m = message_of c.args.header.now c.args.payload.now in
    let is = subst (λ (e : Elements). HasImage e m.data_type c.count_of-count.result c.in-Some.size) c.held-held.ensures.held c.in-Some.ensures in
    event-right r c.args.rights c.args.in_use c.args.others m is.t is.typed is.has (ne_eqb (c.args.rights % 2) 1 c.if-rights-ne1.true)

pub returns-then-payload-lt-EVENT_SIZE : goal.returns-then-payload-lt-EVENT_SIZE
returns-then-payload-lt-EVENT_SIZE c =
    let r = c.args.of.now in
    let m = message_of c.args.header.now c.args.payload.now in
    let is = subst (λ (e : Elements). HasImage e m.data_type c.count_of-count.result c.in-Some.size) c.held-held.ensures.held c.in-Some.ensures in
    let right = eq-eqb (c.args.rights % 2) 1 c.if-rights-ne1.false in
    let short : length m.payload < 16 = (let lt = c.if-payload-lt-EVENT_SIZE.true in omega (arith, lt)) in
    event-short r c.args.rights c.args.in_use c.args.others m is.t is.typed is.has right short

pub returns-then-mask_in-eq0 : goal.returns-then-mask_in-eq0
returns-then-mask_in-eq0 c =
    let r = c.args.of.now in
    let m = message_of c.args.header.now c.args.payload.now in
    let is = subst (λ (e : Elements). HasImage e m.data_type c.count_of-count.result c.in-Some.size) c.held-held.ensures.held c.in-Some.ensures in
    let right = eq-eqb (c.args.rights % 2) 1 c.if-rights-ne1.false in
    let whole : nat_lt (length m.payload) 16 ≡ false = le-ltb (length m.payload) 16 (let le = c.if-payload-lt-EVENT_SIZE.false in omega (arith, le)) in
    event-blank r c.args.rights c.args.in_use c.args.others m is.t is.typed is.has right whole (eq-eqb (mask_in m % 16) 0 (sym (ap (λ (n : ℕ). n % 16) (c.mask_in.ensures c.args.header.now)) ∙ c.if-mask_in-eq0.true))

pub returns-then-in_use : goal.returns-then-in_use
returns-then-in_use c =
    let r = c.args.of.now in
    let m = message_of c.args.header.now c.args.payload.now in
    let is = subst (λ (e : Elements). HasImage e m.data_type c.count_of-count.result c.in-Some.size) c.held-held.ensures.held c.in-Some.ensures in
    let right = eq-eqb (c.args.rights % 2) 1 c.if-rights-ne1.false in
    let whole : nat_lt (length m.payload) 16 ≡ false = le-ltb (length m.payload) 16 (let le = c.if-payload-lt-EVENT_SIZE.false in omega (arith, le)) in
    let masked : (mask_in m % 16 == 0) ≡ false = ne_eqb (mask_in m % 16) 0 (λ e. c.if-mask_in-eq0.false (ap (λ (n : ℕ). n % 16) (c.mask_in.ensures c.args.header.now) ∙ e)) in
    event-used r c.args.rights c.args.in_use c.args.others m is.t is.typed is.has right whole masked c.if-in_use.true

pub returns-then-count : goal.returns-then-count
returns-then-count c =
    let r = c.args.of.now in
    let m = message_of c.args.header.now c.args.payload.now in
    let is = subst (λ (e : Elements). HasImage e m.data_type c.count_of-count.result c.in-Some.size) c.held-held.ensures.held c.in-Some.ensures in
    let right = eq-eqb (c.args.rights % 2) 1 c.if-rights-ne1.false in
    let whole : nat_lt (length m.payload) 16 ≡ false = le-ltb (length m.payload) 16 (let le = c.if-payload-lt-EVENT_SIZE.false in omega (arith, le)) in
    let masked : (mask_in m % 16 == 0) ≡ false = ne_eqb (mask_in m % 16) 0 (λ e. c.if-mask_in-eq0.false (ap (λ (n : ℕ). n % 16) (c.mask_in.ensures c.args.header.now) ∙ e)) in
    let free : c.args.in_use ≡ false = c.if-in_use.false in
    let count : c.count_of-count.result ≡ subscribed_count r m = c.count_of-count.ensures in
    let over : r.count < c.count_of-count.result = (let e = c.count.ensures.count in let lt = c.if-count.true in omega (arith, e, lt)) in
    let many : too_many r is.t (subscribed_count r m) ≡ true = subst (λ (n : ℕ). too_many r is.t n ≡ true) count (over-count r is.t c.count_of-count.result over) in
    event-many r c.args.rights c.args.in_use c.args.others m is.t is.typed is.has right whole masked free many

pub returns-then-size-gt-PAYLOAD_LIMIT : goal.returns-then-size-gt-PAYLOAD_LIMIT
returns-then-size-gt-PAYLOAD_LIMIT c =
    let r = c.args.of.now in
    let m = message_of c.args.header.now c.args.payload.now in
    let is = subst (λ (e : Elements). HasImage e m.data_type c.count_of-count.result c.in-Some.size) c.held-held.ensures.held c.in-Some.ensures in
    let right = eq-eqb (c.args.rights % 2) 1 c.if-rights-ne1.false in
    let whole : nat_lt (length m.payload) 16 ≡ false = le-ltb (length m.payload) 16 (let le = c.if-payload-lt-EVENT_SIZE.false in omega (arith, le)) in
    let masked : (mask_in m % 16 == 0) ≡ false = ne_eqb (mask_in m % 16) 0 (λ e. c.if-mask_in-eq0.false (ap (λ (n : ℕ). n % 16) (c.mask_in.ensures c.args.header.now) ∙ e)) in
    let free : c.args.in_use ≡ false = c.if-in_use.false in
    let count : c.count_of-count.result ≡ subscribed_count r m = c.count_of-count.ensures in
    let over : payload_limit < size_in is.t c.count_of-count.result = (let e = is.sized in let lt = c.if-size-gt-PAYLOAD_LIMIT.true in omega (arith, e, lt)) in
    let many : too_many r is.t (subscribed_count r m) ≡ true = subst (λ (n : ℕ). too_many r is.t n ≡ true) count (over-size r is.t c.count_of-count.result over) in
    event-many r c.args.rights c.args.in_use c.args.others m is.t is.typed is.has right whole masked free many

pub returns-then-not-converts : goal.returns-then-not-converts
returns-then-not-converts c =
    let r = c.args.of.now in
    let m = message_of c.args.header.now c.args.payload.now in
    let is = subst (λ (e : Elements). HasImage e m.data_type c.count_of-count.result c.in-Some.size) c.held-held.ensures.held c.in-Some.ensures in
    let right = eq-eqb (c.args.rights % 2) 1 c.if-rights-ne1.false in
    let whole : nat_lt (length m.payload) 16 ≡ false = le-ltb (length m.payload) 16 (let le = c.if-payload-lt-EVENT_SIZE.false in omega (arith, le)) in
    let masked : (mask_in m % 16 == 0) ≡ false = ne_eqb (mask_in m % 16) 0 (λ e. c.if-mask_in-eq0.false (ap (λ (n : ℕ). n % 16) (c.mask_in.ensures c.args.header.now) ∙ e)) in
    let free : c.args.in_use ≡ false = c.if-in_use.false in
    let count : c.count_of-count.result ≡ subscribed_count r m = c.count_of-count.ensures in
    let within : c.count_of-count.result ≤ r.count = (let e = c.count.ensures.count in let le = c.if-count.false in omega (arith, e, le)) in
    let small : size_in is.t c.count_of-count.result ≤ payload_limit = (let e = is.sized in let le = c.if-size-gt-PAYLOAD_LIMIT.false in omega (arith, e, le)) in
    let few : too_many r is.t (subscribed_count r m) ≡ false = subst (λ (n : ℕ). too_many r is.t n ≡ false) count (not-many r is.t c.count_of-count.result within small) in
    let lacks : (b : Bool) → c.converts.result ≡ b → lacks_conversion_to (display_of r.value) r.value (base_in is.t) ≡ not b = λ b e. subst (λ (h : Elements). lacks_conversion_to (display_of h) h (base_in is.t) ≡ not b) c.held-held.ensures.held (c.converts.ensures is.t is.typed ∙ ap not e) in
    event-lacks r c.args.rights c.args.in_use c.args.others m is.t is.typed is.has right whole masked free few (lacks false c.if-not-converts.true)

pub returns-then-others : goal.returns-then-others
returns-then-others c =
    let r = c.args.of.now in
    let m = message_of c.args.header.now c.args.payload.now in
    let is = subst (λ (e : Elements). HasImage e m.data_type c.count_of-count.result c.in-Some.size) c.held-held.ensures.held c.in-Some.ensures in
    let right = eq-eqb (c.args.rights % 2) 1 c.if-rights-ne1.false in
    let whole : nat_lt (length m.payload) 16 ≡ false = le-ltb (length m.payload) 16 (let le = c.if-payload-lt-EVENT_SIZE.false in omega (arith, le)) in
    let masked : (mask_in m % 16 == 0) ≡ false = ne_eqb (mask_in m % 16) 0 (λ e. c.if-mask_in-eq0.false (ap (λ (n : ℕ). n % 16) (c.mask_in.ensures c.args.header.now) ∙ e)) in
    let free : c.args.in_use ≡ false = c.if-in_use.false in
    let count : c.count_of-count.result ≡ subscribed_count r m = c.count_of-count.ensures in
    let within : c.count_of-count.result ≤ r.count = (let e = c.count.ensures.count in let le = c.if-count.false in omega (arith, e, le)) in
    let small : size_in is.t c.count_of-count.result ≤ payload_limit = (let e = is.sized in let le = c.if-size-gt-PAYLOAD_LIMIT.false in omega (arith, e, le)) in
    let few : too_many r is.t (subscribed_count r m) ≡ false = subst (λ (n : ℕ). too_many r is.t n ≡ false) count (not-many r is.t c.count_of-count.result within small) in
    let lacks : (b : Bool) → c.converts.result ≡ b → lacks_conversion_to (display_of r.value) r.value (base_in is.t) ≡ not b = λ b e. subst (λ (h : Elements). lacks_conversion_to (display_of h) h (base_in is.t) ≡ not b) c.held-held.ensures.held (c.converts.ensures is.t is.typed ∙ ap not e) in
    let many : not (nat_lt c.args.others 288) ≡ true = ap not (le-ltb c.args.others 288 (let le = c.if-others.true in omega (arith, le))) in
    event-last r c.args.rights c.args.in_use c.args.others m is.t is.typed is.has right whole masked free few (lacks true c.if-not-converts.false) true many

pub returns : goal.returns
returns c =
    let r = c.args.of.now in
    let m = message_of c.args.header.now c.args.payload.now in
    let is = subst (λ (e : Elements). HasImage e m.data_type c.count_of-count.result c.in-Some.size) c.held-held.ensures.held c.in-Some.ensures in
    let right = eq-eqb (c.args.rights % 2) 1 c.if-rights-ne1.false in
    let whole : nat_lt (length m.payload) 16 ≡ false = le-ltb (length m.payload) 16 (let le = c.if-payload-lt-EVENT_SIZE.false in omega (arith, le)) in
    let masked : (mask_in m % 16 == 0) ≡ false = ne_eqb (mask_in m % 16) 0 (λ e. c.if-mask_in-eq0.false (ap (λ (n : ℕ). n % 16) (c.mask_in.ensures c.args.header.now) ∙ e)) in
    let free : c.args.in_use ≡ false = c.if-in_use.false in
    let count : c.count_of-count.result ≡ subscribed_count r m = c.count_of-count.ensures in
    let within : c.count_of-count.result ≤ r.count = (let e = c.count.ensures.count in let le = c.if-count.false in omega (arith, e, le)) in
    let small : size_in is.t c.count_of-count.result ≤ payload_limit = (let e = is.sized in let le = c.if-size-gt-PAYLOAD_LIMIT.false in omega (arith, e, le)) in
    let few : too_many r is.t (subscribed_count r m) ≡ false = subst (λ (n : ℕ). too_many r is.t n ≡ false) count (not-many r is.t c.count_of-count.result within small) in
    let lacks : (b : Bool) → c.converts.result ≡ b → lacks_conversion_to (display_of r.value) r.value (base_in is.t) ≡ not b = λ b e. subst (λ (h : Elements). lacks_conversion_to (display_of h) h (base_in is.t) ≡ not b) c.held-held.ensures.held (c.converts.ensures is.t is.typed ∙ ap not e) in
    let room : not (nat_lt c.args.others 288) ≡ false = ap not (lt-ltb c.args.others 288 (let lt = c.if-others.false in omega (arith, lt))) in
    let limit : r.count ≤ element_limit = c.count.ensures.record.value.limit in
    let kind = image_type-small is.t in
    let number = number-of-image_type m.data_type is.t is.typed in (
      event-last r c.args.rights c.args.in_use c.args.others m is.t is.typed is.has right whole masked free few (lacks true c.if-not-converts.false) false room,
      (
        record { typed = omega (arith, number, kind); few = asked r m c.count_of-count.result count (omega (arith, within, limit)) },
        free,
        c.if-others.false,
      ),
    )
