-- Updates leave the queues of an end.
use Rattle.std.proofs.Common.{◌≡◌, ℕ, zero, suc, ◌+◌, ◌-◌, ◌<◌, ◌≤◌, ◌⊎◌, inl, inr, Bool, true, false, cond, List, [], ◌∷◌, ◌++◌, length, replicate, Option, Some, None, Result, Ok, Err, refl, sym, ap, ◌∙◌, subst, arith}
use Rattle.std.proofs.lemmas.List.{append-nil, length-append}
use Rattle.std.specs.Prelude.{◌==◌, IfSome, if◌then◌else◌, slice_set}
use Rattle.std.specs.Int.{to_be_bytes, w64}
use Rattle.std.specs.List.{FoldsTo}
use Rattle.std.specs.Result.{IsErr}
use Rattle.std.specs.declared.alloc.AllocError.{AllocError}
use Rattle.ca_text.specs.declared.refusal.Refusal.{Refusal}
use Rattle.ca_text.specs.Limits.{output_limit}
use Rattle.ca_text.specs.Status.{get_fail, normal}
use Rattle.ca_text.specs.Place.{At}
use Rattle.ca_text.proofs.Places.{At-one, At-within}
use Rattle.ca_dbr.specs.declared.data_type.DataType.{DataType}
use Rattle.ca_dbr.specs.declared.data_type.Form.TheVariants as form
use Rattle.ca_dbr.specs.Scalar.{IsScalar}
use Rattle.ca_dbr.specs.Elements.{Elements, base_of, bytes_8, count_of}
use Rattle.ca_dbr.specs.Held.{bare, display_of}
use Rattle.ca_dbr.proofs.Helds.{count_of-bare}
use Rattle.ca_display.specs.declared.image_type.ImageType.{ImageType}
use Rattle.ca_display.specs.declared.image_type.ImageType.TheVariants as any
use Rattle.ca_display.specs.Image.{size_in}
use Rattle.ca_link.specs.Calls.{IsOpen}
use Rattle.ca_link.specs.Link.{LinkState, with_sent}
use Rattle.ca_queue.specs.declared.entry.SubKey.{SubKey}
use Rattle.ca_queue.specs.Circuit.{RestBefore}
use Rattle.ca_queue.specs.Queue.{with_front_taken}
use Rattle.ca_wire.specs.declared.requests.Wanted.{Wanted}
use Rattle.ca_wire.specs.Fields.{Fields, padded}
use Rattle.ca_wire.specs.Header.{header_spelling}
use Rattle.ca_wire.specs.Message.{header_of, spelled, spelling}
use Rattle.ca_wire.proofs.Headers.{length-header_spelling}
use Rattle.ca_wire.specs.Messages.{scalar, update}
use Rattle.ca_model.specs.Images.{image_of, image_type_of, shown_by, shown_in}
use Rattle.ca_model.specs.Server.{ServerEnd, key_of}
use Rattle.ca_model.specs.ServerSteps.{Leaves, Rests, Update}
use Rattle.ca_model.specs.Speech.{Stored}
use Rattle.ca_model.specs.Updates.{ShowsTo, update_count, update_in}
use Rattle.ca_server_subscriptions.specs.Pumping.{GivesUpdate, MayGive}
use Rattle.ca_server_subscriptions.specs.Subscribed.{IsAskable, Subscribed}
use Rattle.ca_server_subscriptions.proofs.Imaging.{image_by-data, image_type-of-number, image_type-there, shown_by-own}
use Rattle.ca_text.specs.Command.{command_number}
use Rattle.ca_text.specs.declared.command.Command.TheVariants as command
use Rattle.ca_server_circuit.specs.Pumping.{PumpsEnd, PumpsOne, scalar_update}
use Rattle.ca_server_circuit.specs.Subscribing.{events_of}

-- ---- when none may leave

pub rests-full : (e : ServerEnd) → output_limit ≤ length e.link.output → Rests e
rests-full e full u new l = (let room = l.room in omega (arith, full, room))

pub rests-none : (e : ServerEnd) → RestBefore e.queues (length e.queues) → Rests e
rests-none e rest u new l = nothing (sym (rest u.queue l.q (At-within e.queues u.queue l.q l.at) l.at) ∙ l.taken_is)
  where
    nothing : (let none : Option (SubKey × Stored) = None in none ≡ Some (key_of u.of, u.carries)) → ⊥
    nothing is = cc

-- ---- one that leaves

pub leaving : (e : ServerEnd) (w : Wanted) (v : Stored) (new : Subscribed) (m : Fields) → length e.link.output < output_limit → GivesUpdate (events_of e) (Some (w, v)) new → ShowsTo w v m
    → (u : Update) × Leaves e u (record e { link = with_sent (m ∷ []) e.link; subscriptions = new.subscriptions; queues = new.queues })
leaving e w v new m room g shows = (
  record { queue = g.0; of = g.2; carries = v; message = m },
  record {
    room = room;
    q = g.1;
    at = g.3;
    first = g.4;
    stands = g.6;
    taken_is = g.5;
    shows = subst (λ (x : Wanted). ShowsTo x v m) (sym g.7) shows;
    leaves = λ i. record e { link = with_sent (m ∷ []) e.link; subscriptions = (g.8 i).subscriptions; queues = (g.8 i).queues };
  },
)

-- there is no memory for one
pub lacks-one : (v e : ServerEnd) (l : LinkState) (new : Subscribed) (w : Wanted) (x : Stored) (r : Result Bool AllocError) → IsErr r → v ≡ e → length v.link.output < output_limit
    → GivesUpdate (events_of v) (Some (w, x)) new → ((m : Fields) × ShowsTo w x m) → l ≡ v.link
    → PumpsOne e r (record v { link = l; subscriptions = new.subscriptions; queues = new.queues })
lacks-one v e l new w x (Ok b) no_it is room g shows same = absurd cc
lacks-one v e l new w x (Err a) yes_it is room g shows same =
    let u = leaving v w x new shows.0 room g shows.1 in (
      subst (λ (z : ServerEnd). (y : Update) × (t : ServerEnd) × Leaves z y t) is (u.0, record v { link = with_sent (shows.0 ∷ []) v.link; subscriptions = new.subscriptions; queues = new.queues }, u.1),
      ap (λ (k : LinkState). k.output) same ∙ ap (λ (z : ServerEnd). z.link.output) is,
      ap (λ (z : ServerEnd). z.channels) is,
    )

-- memory lacks before one is taken
pub lacks-any : (v e : ServerEnd) (r : Result Bool AllocError) → IsErr r → v ≡ e → length v.link.output < output_limit → ((w : Wanted) × ((x : Stored) × (IsAskable w × MayGive (events_of v) w x))) → PumpsOne e r v
lacks-any v e (Ok b) no_it is room g = absurd cc
lacks-any v e (Err a) yes_it is room (w, (x, (askable, (new, g)))) =
    let t = image_type-there w.data_type askable.typed in
    let m = update_in w x t.0 (shown_in x.value (update_count w x) t.0) in
    let u = leaving v w x new m room g (t.0, t.1, refl) in (
      subst (λ (z : ServerEnd). (y : Update) × (s : ServerEnd) × Leaves z y s) is (u.0, record v { link = with_sent (m ∷ []) v.link; subscriptions = new.subscriptions; queues = new.queues }, u.1),
      ap (λ (z : ServerEnd). z.link.output) is,
      ap (λ (z : ServerEnd). z.channels) is,
    )

-- one goes out
pub leaves-one : (v e : ServerEnd) (l : LinkState) (new : Subscribed) (w : Wanted) (x : Stored) (m : Fields) → v ≡ e → length v.link.output < output_limit
    → GivesUpdate (events_of v) (Some (w, x)) new → ShowsTo w x m → l ≡ with_sent (m ∷ []) v.link
    → PumpsOne e (Ok true) (record v { link = l; subscriptions = new.subscriptions; queues = new.queues })
leaves-one v e l new w x m is room g shows sent =
    let u = leaving v w x new m room g shows in
    subst (λ (k : LinkState). PumpsOne e (Ok true) (record v { link = k; subscriptions = new.subscriptions; queues = new.queues })) (sym sent)
    (subst (λ (z : ServerEnd). PumpsOne z (Ok true) (record v { link = with_sent (m ∷ []) v.link; subscriptions = new.subscriptions; queues = new.queues })) is u)

-- ---- the one that is the next

order : (a b : ℕ) → (a < b) ⊎ ((a ≡ b) ⊎ (b < a))
order zero zero = inr (inl refl)
order zero (suc b) = inl (omega arith)
order (suc a) zero = inr (inr (omega arith))
order (suc a) (suc b) = elim (order a b) [
  | inl lt ↦ inl (omega (arith, lt))
  | inr more ↦ elim more [ inl e ↦ inr (inl (ap suc e)) | inr lt ↦ inr (inr (omega (arith, lt))) ]
]

no-entry : {A : Type 0} (w : SubKey × Stored) → (let none : Option (SubKey × Stored) = None in none ≡ Some w) → A
no-entry w e = absurd cc

-- one alone is the next
gives-same : (old : Subscribed) (w : Wanted) (v : Stored) (x y : Subscribed) (r : Option (Wanted × Stored)) → GivesUpdate old (Some (w, v)) x → GivesUpdate old r y → GivesUpdate old (Some (w, v)) y
gives-same old w v x y None g n = no-entry (key_of g.2, v) (sym (n.0 g.0 g.1 (At-within old.queues g.0 g.1 g.3) g.3) ∙ g.5)
gives-same old w v x y (Some (w2, v2)) g h = by (order g.0 h.0)
  where
    by : (g.0 < h.0) ⊎ ((g.0 ≡ h.0) ⊎ (h.0 < g.0)) → GivesUpdate old (Some (w, v)) y
    by (inl lt) = no-entry (key_of g.2, v) (sym (h.4 g.0 g.1 lt g.3) ∙ g.5)
    by (inr (inr lt)) = no-entry (key_of h.2, v2) (sym (g.4 h.0 h.1 lt h.3) ∙ h.5)
    by (inr (inl e)) =
        let one : g.1 ≡ h.1 = At-one old.queues h.0 g.1 h.1 (subst (λ (n : ℕ). At old.queues n g.1) e g.3) h.3 in
        (g.0, g.1, g.2, g.3, g.4, g.5, g.6, g.7, h.8 ∙ sym (λ i. record old { queues = slice_set old.queues (e i) (with_front_taken (one i)) }))

pub lacks-first : (v e : ServerEnd) (l : LinkState) (w : Wanted) (x : Stored) (r : Result Bool AllocError) → IsErr r → v ≡ e → length v.link.output < output_limit
    → MayGive (events_of v) w x → ((m : Fields) × ShowsTo w x m) → l ≡ v.link → PumpsOne e r (record v { link = l })
lacks-first v e l w x (Ok b) no_it is room g shows same = absurd cc
lacks-first v e l w x (Err a) yes_it is room g shows same =
    let u = leaving v w x g.0 shows.0 room g.1 shows.1 in (
      subst (λ (z : ServerEnd). (y : Update) × (t : ServerEnd) × Leaves z y t) is (u.0, record v { link = with_sent (shows.0 ∷ []) v.link; subscriptions = g.0.subscriptions; queues = g.0.queues }, u.1),
      ap (λ (k : LinkState). k.output) same ∙ ap (λ (z : ServerEnd). z.link.output) is,
      ap (λ (z : ServerEnd). z.channels) is,
    )

pub leaves-first : (v e : ServerEnd) (l : LinkState) (new : Subscribed) (w : Wanted) (x : Stored) (m : Fields) → v ≡ e → length v.link.output < output_limit
    → MayGive (events_of v) w x → ((r : Option (Wanted × Stored)) × GivesUpdate (events_of v) r new) → ShowsTo w x m → l ≡ with_sent (m ∷ []) v.link
    → PumpsOne e (Ok true) (record v { link = l; subscriptions = new.subscriptions; queues = new.queues })
leaves-first v e l new w x m is room g drops shows sent =
    leaves-one v e l new w x m is room (gives-same (events_of v) w x g.0 new drops.0 g.1 drops.1) shows sent

-- nothing waits
pub idle-one : (v e : ServerEnd) → v ≡ e → RestBefore v.queues (length v.queues) → PumpsOne e (Ok false) e
idle-one v e is rest = (rests-none e (subst (λ (z : ServerEnd). RestBefore z.queues (length z.queues)) is rest), refl)

pub idle-end : (v e : ServerEnd) (d : Unit {0}) → v ≡ e → RestBefore v.queues (length v.queues) → PumpsEnd e (Ok d) e
idle-end v e d is rest = ([], refl, rests-none e (subst (λ (z : ServerEnd). RestBefore z.queues (length z.queues)) is rest))

-- one more after others
pub folds-more : (p : ServerEnd) (us : List Update) (q r : ServerEnd) (u : Update) → FoldsTo Leaves p us q → Leaves q u r → FoldsTo Leaves p (us ++ u ∷ []) r
folds-more p [] q r u is l = (r, subst (λ (x : ServerEnd). Leaves x u r) (sym is) l, refl)
folds-more p (x ∷ us) q r u f l = (f.0, f.1, folds-more f.0 us q r u f.2 l)

-- the channels and what came stay
pub leaves-channels : (e new : ServerEnd) (u : Update) → Leaves e u new → new.channels ≡ e.channels
leaves-channels e new u l = ap (λ (x : ServerEnd). x.channels) l.leaves

pub leaves-open : (e new : ServerEnd) (u : Update) → Leaves e u new → IsOpen e.link → IsOpen new.link
leaves-open e new u l live = ap (λ (x : ServerEnd). x.link.input.closed) l.leaves ∙ live

pub folds-channels : (p : ServerEnd) (us : List Update) (q : ServerEnd) → FoldsTo Leaves p us q → q.channels ≡ p.channels
folds-channels p [] q is = ap (λ (x : ServerEnd). x.channels) (sym is)
folds-channels p (u ∷ us) q f = folds-channels f.0 us q f.2 ∙ leaves-channels p f.0 u f.1

pub folds-open : (p : ServerEnd) (us : List Update) (q : ServerEnd) → FoldsTo Leaves p us q → IsOpen p.link → IsOpen q.link
folds-open p [] q is live = subst (λ (x : ServerEnd). IsOpen x.link) is live
folds-open p (u ∷ us) q f live = folds-open f.0 us q f.2 (leaves-open p f.0 u f.1 live)

-- ---- the loop

long-message : (m : Fields) (out : List ℕ) → 16 ≤ length (out ++ spelled (m ∷ [])) - length out
unfolding spelling
long-message m out =
    let all : length (out ++ spelled (m ∷ [])) ≡ length out + length (spelled (m ∷ [])) = length-append out (spelled (m ∷ [])) in
    let one : spelled (m ∷ []) ≡ header_spelling (header_of m) ++ m.payload = append-nil (header_spelling (header_of m) ++ m.payload) in
    let parts : length (header_spelling (header_of m) ++ m.payload) ≡ length (header_spelling (header_of m)) + length m.payload = length-append (header_spelling (header_of m)) m.payload in
    let same = ap length one in
    let head : 16 ≤ length (header_spelling (header_of m)) = elim (length-header_spelling (header_of m)) [ inl e ↦ omega (arith, e) | inr e ↦ omega (arith, e) ] in
    omega (arith, all, same, parts, head)

-- the output is longer after one
leaves-longer : (e new : ServerEnd) (u : Update) → Leaves e u new → length e.link.output + 16 ≤ length new.link.output
leaves-longer e new u l =
    let more = long-message u.message e.link.output in
    let is : length new.link.output ≡ length (e.link.output ++ spelled (u.message ∷ [])) = ap (λ (x : ServerEnd). length x.link.output) l.leaves in
    omega (arith, more, is)

is-one : (b : Bool) → b ≡ true → (let n : ℕ = cond b 1 0 in n ≡ 1)
is-one b on = ap (λ (x : Bool). let n : ℕ = cond x 1 0 in n) on

pub pumped-less : (now next : ServerEnd) (was more : Bool) → was ≡ true → PumpsOne now (Ok more) next → output_limit - length next.link.output + cond more 1 0 < output_limit - length now.link.output + cond was 1 0
pumped-less now next was true on p =
    let a = leaves-longer now next p.0 p.1 in
    let room = p.1.room in
    let one = is-one was on in
    omega (arith, a, room, one)
pumped-less now next was false on p =
    let same : length next.link.output ≡ length now.link.output = ap (λ (x : ServerEnd). length x.link.output) p.1 in
    let one = is-one was on in
    omega (arith, same, one)

true-false : {A : Type 0} → true ≡ false → A
true-false e = absurd cc

pub pumped-more : (old now next : ServerEnd) (more : Bool) → (us : List Update) × FoldsTo Leaves old us now → IsOpen now.link → PumpsOne now (Ok more) next
    → (record { sent : (us : List Update) × FoldsTo Leaves old us next; rests : more ≡ false → Rests next; live : IsOpen next.link })
pumped-more old now next true sent live p = record {
  sent = (sent.0 ++ p.0 ∷ [], folds-more old sent.0 now next p.0 sent.1 p.1);
  rests = λ e. true-false e;
  live = leaves-open now next p.0 p.1 live;
}
pumped-more old now next false sent live p = record {
  sent = (sent.0, subst (λ (x : ServerEnd). FoldsTo Leaves old sent.0 x) (sym p.1) sent.1);
  rests = λ e. subst Rests (sym p.1) p.0;
  live = subst (λ (x : ServerEnd). IsOpen x.link) (sym p.1) live;
}

pub pumped-none : (old now next : ServerEnd) (d : AllocError) (r : Result (Unit {0}) AllocError) → IsErr r → (us : List Update) × FoldsTo Leaves old us now → PumpsOne now (Err d) next → PumpsEnd old r next
pumped-none old now next d (Ok x) no_it sent p = absurd cc
pumped-none old now next d (Err a) yes_it sent p =
    (sent.0, now, sent.1, (λ rest. rest p.0.0 p.0.1 p.0.2), p.1, p.2 ∙ folds-channels old sent.0 now sent.1)

-- ---- the message

module _ (w : Wanted) (v : Stored) (t : ImageType) (typed : image_type_of w.data_type ≡ Some t) where
  pub some-update : (m : Fields) × ShowsTo w v m
  some-update = (update_in w v t (shown_in v.value (update_count w v) t), (t, typed, refl))

  pub shows-update : (f : Elements) (m : Fields) → shown_in v.value (update_count w v) t ≡ Ok f
      → m ≡ update w.data_type (update_count w v) normal w.id (image_of v.value t f v.meta) → ShowsTo w v m
  shows-update f m is made = (t, typed, made ∙ sym (ap (λ (r : Result Elements Refusal). update_in w v t r) is))

  pub fails-update : (why : Refusal) (m : Fields) → shown_in v.value (update_count w v) t ≡ Err why
      → m ≡ update w.data_type (update_count w v) get_fail w.id (replicate (size_in t (update_count w v)) 0) → ShowsTo w v m
  fails-update why m is made = (t, typed, made ∙ sym (ap (λ (r : Result Elements Refusal). update_in w v t r) is))

-- ---- one element, in its own type

one-asked : (k n : ℕ) → k ≤ 1 → n ≡ 1 → (if k == 0 then n else k) ≡ 1
one-asked zero n few one = one
one-asked (suc zero) n few one = refl
one-asked (suc (suc k)) n few one = absurd (omega (arith, few))

pub shows-scalar : (w : Wanted) (v : Stored) (n : ℕ) (e : Elements) → w.count ≤ 1 → e ≡ bare v.value → IsScalar e w.data_type n → ShowsTo w v (scalar (scalar_update w n))
unfolding bytes_8
shows-scalar w v n e few same is =
    let t : DataType = record { base = base_of e; form = form.Plain } in
    let typed : image_type_of w.data_type ≡ Some (any.Data t) = image_type-of-number (any.Data t) w.data_type (omega (arith, is.typed)) in
    let one : count_of v.value ≡ 1 = sym (count_of-bare v.value) ∙ ap count_of (sym same) ∙ is.one in
    let asks : update_count w v ≡ 1 = one-asked w.count (count_of v.value) few one in
    let shown-so : shown_in v.value (update_count w v) (any.Data t) ≡ Ok e =
    ap (λ (k : ℕ). shown_in v.value k (any.Data t)) asks ∙ ap (λ (x : Elements). shown_by (display_of v.value) x 1 (any.Data t)) (sym same) ∙ shown_by-own (display_of v.value) e 1 t refl ∙ is.shown in
    let made : ℕ → List ℕ → Fields =
    λ k p. record { command = command_number command.EventAdd; data_type = w.data_type; count = k; p1 = normal; p2 = w.id; payload = p } in
    shows-update w v (any.Data t) typed e (scalar (scalar_update w n)) shown-so
    (ap (λ (k : ℕ). made k (to_be_bytes w64 n)) (sym asks) ∙ ap (λ (p : List ℕ). made (update_count w v) p) (sym is.bytes) ∙ ap (λ (p : List ℕ). made (update_count w v) (padded p)) (sym (image_by-data (display_of v.value) t e v.meta)))

pub if-scalar : (w : Wanted) (v : Stored) (e : Elements) (o : Option ℕ) → w.count ≤ 1 → e ≡ bare v.value → IfSome o (λ n. IsScalar e w.data_type n) → IfSome o (λ n. ShowsTo w v (scalar (scalar_update w n)))
if-scalar w v e (Some n) few same is = shows-scalar w v n e few same is
if-scalar w v e None few same is = tt
