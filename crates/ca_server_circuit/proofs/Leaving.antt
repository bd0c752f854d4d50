-- Updates leave an end, some of whose bytes have left already.
use Rattle.std.proofs.Common.{◌≡◌, ℕ, ◌≤◌, true, false, Bool, ◌+◌, List, [], ◌∷◌, ◌++◌, length, Option, Some, None, Result, Ok, Err, refl, sym, ap, ◌∙◌, subst, arith}
use Rattle.std.proofs.lemmas.List.{append-nil, append_assoc, length-append}
use Rattle.std.specs.Prelude.{OnErr, OnOk, drop}
use Rattle.std.specs.List.{FoldsTo, flat_map}
use Rattle.std.specs.declared.alloc.AllocError.{AllocError}
use Rattle.ca_text.specs.Limits.{output_limit}
use Rattle.ca_text.specs.Status.{normal}
use Rattle.ca_text.specs.declared.refusal.Refusal.{Refusal}
use Rattle.ca_text.specs.declared.refusal.Refusal.TheVariants as refusal
use Rattle.ca_dbr.specs.Held.{bare, display_of}
use Rattle.ca_display.specs.declared.image_type.ImageType.{ImageType}
use Rattle.ca_link.specs.Link.{LinkState, with_handed, with_sent}
use Rattle.ca_wire.specs.Fields.{Fields}
use Rattle.ca_wire.specs.Header.{header_spelling}
use Rattle.ca_wire.specs.Message.{header_of, spelled, spelling}
use Rattle.ca_wire.specs.Messages.{update}
use Rattle.ca_wire.specs.declared.requests.Wanted.{Wanted}
use Rattle.ca_model.specs.Images.{image_type_of, shown_in}
use Rattle.ca_model.specs.Server.{ServerEnd}
use Rattle.ca_model.specs.ServerSteps.{Leaves, Rests, Update}
use Rattle.ca_model.specs.Speech.{Stored}
use Rattle.ca_model.specs.Updates.{ShowsTo, update_count}
use Rattle.ca_server_subscriptions.specs.Imaging.{image_as, shown_image}
use Rattle.ca_server_subscriptions.specs.Sharing.{IsUpdateOf}
use Rattle.ca_server_subscriptions.proofs.Imaging.{image-of}
use Rattle.ca_server_circuit.specs.CircuitOutput.{Grows, OutputState, SendsBehind, addressed, behind, bytes_of, emptied_end, end_behind}
use Rattle.ca_server_circuit.specs.Pumping.{PumpsEnd, PumpsOne, PumpsOver}
use Rattle.ca_server_circuit.proofs.Pumps.{rests-full, shows-update}

-- ---- what a call answers

pub ok-both : {P Q R : Type 0} (r : Result (Unit {0}) AllocError) → (P → Q → R) → OnOk r P → OnOk r Q → OnOk r R
ok-both (Ok u) f p q = f p q
ok-both (Err e) f p q = tt

pub err-both : {P Q R : Type 0} (r : Result (Unit {0}) AllocError) → (P → Q → R) → OnErr r P → OnErr r Q → OnErr r R
err-both (Ok u) f p q = tt
err-both (Err e) f p q = f p q

-- ---- how more leaves

pub grows-same : (o : OutputState) → Grows o o
grows-same o = record { last = refl; shares = refl; whole = λ e. refl }

pub grows-then : (a b c : OutputState) → Grows a b → Grows b c → Grows a c
grows-then a b c p q = record {
  last = q.last ∙ p.last;
  shares = q.shares ∙ p.shares;
  whole = λ e. q.whole (p.shares ∙ e) ∙ p.whole e;
}

pub grows-is : (a b : OutputState) → b ≡ a → Grows a b
grows-is a b is = subst (λ (o : OutputState). Grows a o) (sym is) (grows-same a)

true-false : {A : Type 0} (b : Bool) → b ≡ true → b ≡ false → A
true-false b on off = absurd cc

pub grows-shared : (a b : OutputState) (before : List ℕ) → a.shares ≡ true → b ≡ record a { before = before } → Grows a b
grows-shared a b before on is =
    subst (λ (o : OutputState). Grows a o) (sym is) (record { last = refl; shares = refl; whole = λ e. true-false a.shares on e })

pub grows-by : (r : Result (Unit {0}) AllocError) (a b : OutputState) (before : List ℕ) → a.shares ≡ true → OnOk r (b ≡ record a { before = before }) → OnErr r (b ≡ a) → Grows a b
grows-by (Ok u) a b before on is same = grows-shared a b before on is
grows-by (Err e) a b before on is same = grows-is a b same

drop-whole : (xs : List ℕ) → drop (length xs) xs ≡ []
drop-whole [] = refl
drop-whole (x ∷ xs) = drop-whole xs

-- ---- the message behind all others

pub sends-behind : (m : Fields) (o : OutputState) (l k : LinkState) → k ≡ with_sent (m ∷ []) l → SendsBehind m o l o k
sends-behind m o l k is =
    ap (λ (x : LinkState). behind o.before x) is
    ∙ ap (λ (out : List ℕ). let x : LinkState = record l { output = out } in x) (sym (append_assoc o.before l.output (spelled (m ∷ []))))

pub stays-behind : (o n : OutputState) (l k : LinkState) → (k ≡ l) × (n ≡ o) → behind n.before k ≡ behind o.before l
stays-behind o n l k same = ap (λ (x : OutputState). behind x.before k) same.1 ∙ ap (λ (x : LinkState). behind o.before x) same.0

pub shares-behind : (m : Fields) (o n : OutputState) (l k : LinkState) → n ≡ record o { before = o.before ++ (l.output ++ spelling m) } → k ≡ with_handed (length l.output) l → SendsBehind m o l n k
shares-behind m o n l k taken handed =
    let more : List ℕ = l.output ++ spelling m in
    ap (λ (x : OutputState). behind x.before k) taken
    ∙ ap (λ (x : LinkState). behind (o.before ++ more) x) handed
    ∙ ap (λ (out : List ℕ). let x : LinkState = record l { output = out } in x) (
    ap (λ (rest : List ℕ). (o.before ++ more) ++ rest) (drop-whole l.output)
    ∙ append-nil (o.before ++ more)
    ∙ sym (append_assoc o.before l.output (spelling m))
    ∙ ap (λ (s : List ℕ). (o.before ++ l.output) ++ s) (sym (append-nil (spelling m)))
    )

-- what is shared, to a subscription that asks for it
pub shows-shared : (w : Wanted) (v : Stored) (m : Fields) → IsUpdateOf v m → m.data_type ≡ w.data_type → m.count ≡ update_count w v → ShowsTo w v (addressed w.id m)
shows-shared w v m is typed counted =
    let bytes = is.0 in
    let t = typed-for m.data_type v is.1 in
    let x = image-of m.data_type m.count v.value v.meta t.0 t.1 bytes is.1 in
    shows-update w v t.0 (ap image_type_of (sym typed) ∙ t.1) x.0 (addressed w.id m) (ap (λ (k : ℕ). shown_in v.value k t.0) (sym counted) ∙ x.1)
    (ap (λ (f : Fields). addressed w.id f) is.2
    ∙ ap (λ (k : ℕ). update k m.count normal w.id bytes) typed
    ∙ ap (λ (k : ℕ). update w.data_type k normal w.id bytes) counted
    ∙ ap (λ (b : List ℕ). update w.data_type (update_count w v) normal w.id b) x.2)
  where
    -- there is an image, so there is its type
    typed-for : (n : ℕ) (u : Stored) → shown_image n m.count u.value u.meta ≡ Ok is.0 → (t : ImageType) × (image_type_of n ≡ Some t)
    typed-for n u made = by (image_type_of n) refl
      where
        none : image_type_of n ≡ None → ⊥
        none lacks = never (sym made ∙ ap (λ (o : Option ImageType). image_as (display_of u.value) (bare u.value) m.count u.meta o) lacks)
          where
            never : ◌≡◌ {A = Result (List ℕ) Refusal} (Ok is.0) (Err refusal.BadType) → ⊥
            never e = cc

        by : (o : Option ImageType) → image_type_of n ≡ o → (t : ImageType) × (image_type_of n ≡ Some t)
        by None lacks = absurd (none lacks)
        by (Some t) typed = (t, typed)

-- ---- pieces

pub joined-more : (xs : List (List ℕ)) (p : List ℕ) → flat_map (λ (x : List ℕ). x) (xs ++ p ∷ []) ≡ flat_map (λ (x : List ℕ). x) xs ++ p
joined-more [] p = append-nil p
joined-more (x ∷ xs) p = ap (λ (r : List ℕ). x ++ r) (joined-more xs p) ∙ sym (append_assoc x (flat_map (λ (y : List ℕ). y) xs) p)

pub joined-length : (xs : List (List ℕ)) (a b c : List ℕ) → length (flat_map (λ (x : List ℕ). x) (xs ++ ((a ++ b) ++ c) ∷ [])) ≡ length (flat_map (λ (x : List ℕ). x) xs) + (length a + length b + length c)
joined-length xs a b c =
    let all = ap length (joined-more xs ((a ++ b) ++ c)) in
    let one = length-append (flat_map (λ (x : List ℕ). x) xs) ((a ++ b) ++ c) in
    let two = length-append (a ++ b) c in
    let three = length-append a b in
    omega (arith, all, one, two, three)

-- the header and the image of a message, after what waits
pub piece-is : (to out header payload : List ℕ) (m : Fields) → to ≡ out → header ≡ header_spelling (header_of m) → payload ≡ m.payload → (to ++ header) ++ payload ≡ out ++ spelling m
unfolding spelling
piece-is to out header payload m first second third =
    append_assoc to header payload
    ∙ ap (λ (x : List ℕ). x ++ (header ++ payload)) first
    ∙ ap (λ (x : List ℕ). out ++ (x ++ payload)) second
    ∙ ap (λ (x : List ℕ). out ++ (header_spelling (header_of m) ++ x)) third

-- ---- ends

pub full-one : (v e : ServerEnd) (b : List ℕ) → v ≡ e → output_limit ≤ length (b ++ v.link.output) → PumpsOne (end_behind b e) (Ok false) (end_behind b e)
full-one v e b is full = subst (λ (x : ServerEnd). PumpsOne (end_behind b x) (Ok false) (end_behind b x)) is (rests-full (end_behind b v) full, refl)

-- nothing left before, and nothing is shared
pub pumps-whole : (old new : ServerEnd) (r : Result (Unit {0}) AllocError) (o n : OutputState) → (let none : List ℕ = [] in o ≡ record { before = none; last = none; shares = false }) → Grows o n → PumpsEnd (end_behind o.before old) r (end_behind n.before new)
    → PumpsEnd old r new
pumps-whole old new r o n is grows did =
    let none : o.before ≡ [] = ap (λ (x : OutputState). x.before) is in
    let same : n.before ≡ [] = grows.whole (ap (λ (x : OutputState). x.shares) is) ∙ none in
    subst (λ (b : List ℕ). PumpsEnd old r (end_behind b new)) same (subst (λ (b : List ℕ). PumpsEnd (end_behind b old) r (end_behind n.before new)) none did)

emptied-so : (b : List ℕ) (e : ServerEnd) → (let x : ServerEnd = record e { link = with_handed (length e.link.output) e.link } in x) ≡ emptied_end (end_behind b e)
emptied-so b e =
    ap (λ (out : List ℕ). let l : LinkState = record e.link { output = out } in let x : ServerEnd = record e { link = l } in x) (drop-whole e.link.output ∙ sym (drop-whole (b ++ e.link.output)))

-- all that waits leaves at the end
pub pumps-over : (old mid new : ServerEnd) (r : Result (Unit {0}) AllocError) (o n last : OutputState) (k : LinkState) → (let none : List ℕ = [] in (o.before ≡ none) × (o.last ≡ none)) → Grows o n → PumpsEnd (end_behind o.before old) r (end_behind n.before mid)
    → last ≡ record n { last = mid.link.output } → k ≡ with_handed (length mid.link.output) mid.link → new ≡ record mid { link = k } → PumpsOver old r new (bytes_of last)
pumps-over old mid new r o n last k nothing grows did taken handed is =
    subst (λ (out : List ℕ). PumpsOver old r new out) (sym (ap bytes_of taken))
    (subst (λ (x : ServerEnd). PumpsOver old r x (n.before ++ mid.link.output)) (sym (is ∙ ap (λ (l : LinkState). let x : ServerEnd = record mid { link = l } in x) handed))
    (by r (subst (λ (b : List ℕ). PumpsEnd (end_behind b old) r (end_behind n.before mid)) nothing.0 did)))
  where
    left : ServerEnd
    left = record mid { link = with_handed (length mid.link.output) mid.link }

    by : (r : Result (Unit {0}) AllocError) → PumpsEnd old r (end_behind n.before mid) → PumpsOver old r left (n.before ++ mid.link.output)
    by (Ok u) (us, f, rests) = (us, end_behind n.before mid, f, rests, refl, emptied-so n.before mid)
    by (Err e) (us, after, f, more, out, channels) = (us, after, f, more, out, drop-whole mid.link.output, channels)
