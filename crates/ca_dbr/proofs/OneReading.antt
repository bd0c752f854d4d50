-- What was written is read again, and nothing else is.
use Rattle.std.proofs.Common.{◌≡◌, ℕ, zero, suc, ◌+◌, ◌-◌, ◌*◌, ◌<◌, ◌≤◌, ◌^◌, Bool, true, false, cond, eqb, ⊎_elim, ◌≢◌, List, [], ◌∷◌, ◌++◌, length, take, drop, replicate, All, refl, sym, ap, subst, ◌∙◌, append_assoc, arith, ℤ, pos, negsuc}
use Rattle.std.specs.Prelude.{FitsSigned}
use Rattle.std.specs.List.{flat_map}
use Rattle.std.specs.Int.{w16, w32, w64, from_be_bytes, cast_unsigned, cast_signed}
use Rattle.std.proofs.lemmas.Bool.Decides.{eqb_tells}
use Rattle.std.proofs.lemmas.Int.{ints, to_z-of_z}
use Rattle.std.proofs.lemmas.Nat.{from_be_bytes-to_be_bytes_2, from_be_bytes-to_be_bytes_4, from_be_bytes-to_be_bytes_8}
use Rattle.std.proofs.lemmas.List.{take_at, drop_at, length-append, length-replicate, append-nil}
use Rattle.ca_dbr.specs.declared.data_type.BaseType.{BaseType}
use Rattle.ca_dbr.specs.declared.data_type.BaseType.TheVariants as base
use Rattle.ca_dbr.specs.declared.data_type.Form.{Form}
use Rattle.ca_dbr.specs.declared.data_type.Form.TheVariants as form
use Rattle.ca_dbr.specs.declared.data_type.DataType.{DataType}
use Rattle.ca_dbr.specs.declared.value.Meta.{Meta}
use Rattle.ca_dbr.specs.Types.{element_size, padding_size, size_of_image, type_number, base_number, form_number}
use Rattle.ca_dbr.specs.Elements.{Elements, strings, ints as int_elements, floats, enums, chars, longs, doubles, displayed, base_of, count_of, bytes_of, IsValue, string_bytes, byte_1, bytes_2, bytes_4, bytes_8, signed_bytes_2, signed_bytes_4}
use Rattle.ca_dbr.specs.Image.{meta_bytes, image}
use Rattle.ca_dbr.specs.Reading.{carried, IsMeta, filled, ReadsElements, Reads}
use Rattle.ca_dbr.proofs.Images.{All-head, All-tail, length-bytes_of, length-meta_bytes, length-byte_1, length-bytes_2, length-bytes_4, length-bytes_8, length-signed_bytes_2, length-signed_bytes_4}

-- two equal texts whose fronts are as long have equal fronts and equal rests
pub fronts : (a b x y : List ℕ) → length a ≡ length b → a ++ x ≡ b ++ y → (a ≡ b) × (x ≡ y)
fronts a b x y len e =
    (sym (take_at a x (length b) len) ∙ ap (λ (t : List ℕ). take (length b) t) e ∙ take_at b y (length b) refl, sym (drop_at a x (length b) len) ∙ ap (λ (t : List ℕ). drop (length b) t) e ∙ drop_at b y (length b) refl)

pub byte_1-one : (m n : ℕ) → byte_1 m ≡ byte_1 n → m ≡ n
unfolding byte_1
byte_1-one m n e = cc

again_2 : (n : ℕ) → n < 2 ^ 16 → from_be_bytes w16 (bytes_2 n) ≡ n
unfolding bytes_2
again_2 n h = from_be_bytes-to_be_bytes_2 n h

again_4 : (n : ℕ) → n < 2 ^ 32 → from_be_bytes w32 (bytes_4 n) ≡ n
unfolding bytes_4
again_4 n h = from_be_bytes-to_be_bytes_4 n h

again_8 : (n : ℕ) → n < 2 ^ 64 → from_be_bytes w64 (bytes_8 n) ≡ n
unfolding bytes_8
again_8 n h = from_be_bytes-to_be_bytes_8 n h

unsigned_2 : (z : ℤ) → FitsSigned w16 z → cast_unsigned w16 z < 2 ^ 16
unsigned_2 (pos n) fits = omega (arith, ints, fits.sfits)
unsigned_2 (negsuc n) fits = omega arith

unsigned_4 : (z : ℤ) → FitsSigned w32 z → cast_unsigned w32 z < 2 ^ 32
unsigned_4 (pos n) fits = omega (arith, ints, fits.sfits)
unsigned_4 (negsuc n) fits = omega arith

signed_again_2 : (z : ℤ) → FitsSigned w16 z → cast_signed w16 (from_be_bytes w16 (signed_bytes_2 z)) ≡ z
unfolding signed_bytes_2
signed_again_2 z fits = ap (λ (n : ℕ). cast_signed w16 n) (from_be_bytes-to_be_bytes_2 (cast_unsigned w16 z) (unsigned_2 z fits)) ∙ to_z-of_z w16 z fits

signed_again_4 : (z : ℤ) → FitsSigned w32 z → cast_signed w32 (from_be_bytes w32 (signed_bytes_4 z)) ≡ z
unfolding signed_bytes_4
signed_again_4 z fits = ap (λ (n : ℕ). cast_signed w32 n) (from_be_bytes-to_be_bytes_4 (cast_unsigned w32 z) (unsigned_4 z fits)) ∙ to_z-of_z w32 z fits

-- what can be read back from its bytes is told by them
one_from_again : {X : Type 0} (f : X → List ℕ) (back : List ℕ → X) (P : X → Type 0) → ((x : X) → P x → back (f x) ≡ x) → (x y : X) → P x → P y → f x ≡ f y → x ≡ y
one_from_again f back P again x y p q e = sym (again x p) ∙ ap back e ∙ again y q

-- pieces of one length, each told by its bytes, are told by all bytes
pieces-one : {X : Type 0} (f : X → List ℕ) (P : X → Type 0) (size : ℕ) → ((x : X) → P x → length (f x) ≡ size) → ((x y : X) → P x → P y → f x ≡ f y → x ≡ y) → (xs ys : List X) → All P xs → All P ys → length xs ≡ length ys → flat_map f xs ≡ flat_map f ys → xs ≡ ys
pieces-one f P size len one [] [] p q n e = refl
pieces-one f P size len one [] (y ∷ ys) p q n e = absurd (omega (arith, n))
pieces-one f P size len one (x ∷ xs) [] p q n e = absurd (omega (arith, n))
pieces-one {X} f P size len one (x ∷ xs) (y ∷ ys) p q n e =
    let px = All-head P x xs p in
    let py = All-head P y ys q in
    let both = fronts (f x) (f y) (flat_map f xs) (flat_map f ys) (len x px ∙ sym (len y py)) e in
    let first = one x y px py both.0 in
    let rest = pieces-one f P size len one xs ys (All-tail P x xs p) (All-tail P y ys q) (omega (arith, n)) both.1 in
    ap (λ (z : X). z ∷ xs) first ∙ ap (λ (zs : List X). y ∷ zs) rest

texts-one : (x y : List ℕ) → length x ≡ 40 → length y ≡ 40 → string_bytes x ≡ string_bytes y → x ≡ y
unfolding string_bytes
texts-one x y p q e = e

length-text : (x : List ℕ) → length x ≡ 40 → length (string_bytes x) ≡ 40
unfolding string_bytes
length-text x p = p

-- elements of one type, as many, are told by their bytes
pub bytes_of-one : (e f : Elements) → base_of e ≡ base_of f → count_of e ≡ count_of f → IsValue e → IsValue f → bytes_of e ≡ bytes_of f → e ≡ f
bytes_of-one (displayed d e) f b n p q h = absurd p
bytes_of-one e (displayed d f) b n p q h = absurd q
bytes_of-one (strings xs) (strings ys) b n p q h = ap strings (pieces-one string_bytes (λ x. length x ≡ 40) 40 length-text texts-one xs ys p q n h)
bytes_of-one (int_elements xs) (int_elements ys) b n p q h = ap int_elements (pieces-one signed_bytes_2 (λ z. FitsSigned w16 z) 2 (λ z f. length-signed_bytes_2 z) (one_from_again signed_bytes_2 (λ t. cast_signed w16 (from_be_bytes w16 t)) (λ z. FitsSigned w16 z) signed_again_2) xs ys p q n h)
bytes_of-one (floats xs) (floats ys) b n p q h = ap floats (pieces-one bytes_4 (λ k. k < 2 ^ 32) 4 (λ k f. length-bytes_4 k) (one_from_again bytes_4 (λ t. from_be_bytes w32 t) (λ k. k < 2 ^ 32) again_4) xs ys p q n h)
bytes_of-one (enums xs) (enums ys) b n p q h = ap enums (pieces-one bytes_2 (λ k. k < 2 ^ 16) 2 (λ k f. length-bytes_2 k) (one_from_again bytes_2 (λ t. from_be_bytes w16 t) (λ k. k < 2 ^ 16) again_2) xs ys p q n h)
bytes_of-one (chars xs) (chars ys) b n p q h = ap chars (pieces-one byte_1 (λ k. k < 2 ^ 8) 1 (λ k f. length-byte_1 k) (λ x y f g e. byte_1-one x y e) xs ys p q n h)
bytes_of-one (longs xs) (longs ys) b n p q h = ap longs (pieces-one signed_bytes_4 (λ z. FitsSigned w32 z) 4 (λ z f. length-signed_bytes_4 z) (one_from_again signed_bytes_4 (λ t. cast_signed w32 (from_be_bytes w32 t)) (λ z. FitsSigned w32 z) signed_again_4) xs ys p q n h)
bytes_of-one (doubles xs) (doubles ys) b n p q h = ap doubles (pieces-one bytes_8 (λ k. k < 2 ^ 64) 8 (λ k f. length-bytes_8 k) (one_from_again bytes_8 (λ t. from_be_bytes w64 t) (λ k. k < 2 ^ 64) again_8) xs ys p q n h)
bytes_of-one _ _ b n p q h = cc

-- the front of bytes is read as one list of elements
pub reads_elements-one : (b : BaseType) (count : ℕ) (bytes : List ℕ) (e f : Elements) → ReadsElements b count bytes e → ReadsElements b count bytes f → e ≡ f
reads_elements-one b count bytes e f r s =
    let based : base_of e ≡ base_of f = r.based ∙ sym s.based in
    let counted : count_of e ≡ count_of f = r.counted ∙ sym s.counted in
    let sized : length (bytes_of e) ≡ length (bytes_of f) = length-bytes_of e r.valued ∙ ap (λ (n : ℕ). n * element_size (base_of e)) counted ∙ ap (λ (c : BaseType). count_of f * element_size c) based ∙ sym (length-bytes_of f s.valued) in
    bytes_of-one e f based counted r.valued s.valued (fronts (bytes_of e) (bytes_of f) r.behind s.behind sized (sym r.spelled ∙ s.spelled)).0

status-one : (m n : ℕ) → m < 2 ^ 16 → n < 2 ^ 16 → bytes_2 m ≡ bytes_2 n → m ≡ n
status-one m n p q e = one_from_again bytes_2 (λ t. from_be_bytes w16 t) (λ k. k < 2 ^ 16) again_2 m n p q e

stamp-one : (m n : ℕ) → m < 2 ^ 32 → n < 2 ^ 32 → bytes_4 m ≡ bytes_4 n → m ≡ n
stamp-one m n p q e = one_from_again bytes_4 (λ t. from_be_bytes w32 t) (λ k. k < 2 ^ 32) again_4 m n p q e

same_2 : (m n : ℕ) → length (bytes_2 m) ≡ length (bytes_2 n)
same_2 m n = length-bytes_2 m ∙ sym (length-bytes_2 n)

same_4 : (m n : ℕ) → length (bytes_4 m) ≡ length (bytes_4 n)
same_4 m n = length-bytes_4 m ∙ sym (length-bytes_4 n)

abbrev meta_made : ℕ → ℕ → ℕ → ℕ → Meta
meta_made a b c d = record { status = a; severity = b; seconds = c; nanos = d }

metas-one : (a b c d a' b' c' d' : ℕ) → a ≡ a' → b ≡ b' → c ≡ c' → d ≡ d' → meta_made a b c d ≡ meta_made a' b' c' d'
metas-one a b c d a' b' c' d' p q r s = cc

-- metadata that a form carries whole is told by its bytes
pub meta_bytes-one : (f : Form) (m k : Meta) → IsMeta m → IsMeta k → carried f m ≡ m → carried f k ≡ k → meta_bytes f m ≡ meta_bytes f k → m ≡ k
meta_bytes-one form.Plain m k p q om ok e = sym om ∙ ok
meta_bytes-one form.Status m k p q om ok e =
    let one = fronts (bytes_2 m.status) (bytes_2 k.status) (bytes_2 m.severity) (bytes_2 k.severity) (same_2 m.status k.status) e in
    sym om ∙ metas-one m.status m.severity 0 0 k.status k.severity 0 0 (status-one m.status k.status p.status q.status one.0) (status-one m.severity k.severity p.severity q.severity one.1) refl refl ∙ ok
meta_bytes-one form.Time m k p q om ok e =
    let one = fronts (bytes_2 m.status) (bytes_2 k.status) (bytes_2 m.severity ++ (bytes_4 m.seconds ++ bytes_4 m.nanos)) (bytes_2 k.severity ++ (bytes_4 k.seconds ++ bytes_4 k.nanos)) (same_2 m.status k.status) e in
    let two = fronts (bytes_2 m.severity) (bytes_2 k.severity) (bytes_4 m.seconds ++ bytes_4 m.nanos) (bytes_4 k.seconds ++ bytes_4 k.nanos) (same_2 m.severity k.severity) one.1 in
    let three = fronts (bytes_4 m.seconds) (bytes_4 k.seconds) (bytes_4 m.nanos) (bytes_4 k.nanos) (same_4 m.seconds k.seconds) two.1 in
    metas-one m.status m.severity m.seconds m.nanos k.status k.severity k.seconds k.nanos (status-one m.status k.status p.status q.status one.0) (status-one m.severity k.severity p.severity q.severity two.0) (stamp-one m.seconds k.seconds p.seconds q.seconds three.0) (stamp-one m.nanos k.nanos p.nanos q.nanos three.1)

-- bytes are read in one way
pub reads-one : (t : DataType) (count : ℕ) (bytes : List ℕ) (e f : Elements) (m k : Meta) → Reads t count bytes e m → Reads t count bytes f k → (e ≡ f) × (m ≡ k)
reads-one t count bytes e f m k r s =
    let head = fronts (meta_bytes t.form m) (meta_bytes t.form k) (r.padding ++ r.body) (s.padding ++ s.body) (length-meta_bytes t.form m ∙ sym (length-meta_bytes t.form k)) (sym r.parts ∙ s.parts) in
    let tail = fronts r.padding s.padding r.body s.body (r.padded ∙ sym s.padded) head.1 in
    let moved = let P : List ℕ → Type 0 = λ x. ReadsElements t.base count x f in subst P (sym tail.1) s.elements in
    (reads_elements-one t.base count r.body e f r.elements moved, meta_bytes-one t.form m k r.meta s.meta r.only s.only head.0)

-- bytes of whole elements are filled already
filled_whole : (b : BaseType) (count : ℕ) (bytes : List ℕ) → count * element_size b ≤ length bytes → filled b count bytes ≡ bytes
filled_whole base.String count bytes h =
    ⊎_elim (λ (one : (eqb count 1 ≡ true) × (count ≡ 1)).
    let none : 40 - length bytes ≡ 0 = omega arith in
    ap (λ (b : Bool). cond b (bytes ++ replicate (40 - length bytes) 0) bytes) one.0 ∙ ap (λ (n : ℕ). bytes ++ replicate n 0) none ∙ append-nil bytes)
    (λ (many : (eqb count 1 ≡ false) × (count ≢ 1)). ap (λ (b : Bool). cond b (bytes ++ replicate (40 - length bytes) 0) bytes) many.0)
    (eqb_tells count 1)
filled_whole base.Int count bytes h = refl
filled_whole base.Float count bytes h = refl
filled_whole base.Enum count bytes h = refl
filled_whole base.Char count bytes h = refl
filled_whole base.Long count bytes h = refl
filled_whole base.Double count bytes h = refl

meta_bytes-carried : (f : Form) (m : Meta) → meta_bytes f m ≡ meta_bytes f (carried f m)
meta_bytes-carried form.Plain m = refl
meta_bytes-carried form.Status m = refl
meta_bytes-carried form.Time m = refl

carried-carried : (f : Form) (m : Meta) → carried f (carried f m) ≡ carried f m
carried-carried form.Plain m = refl
carried-carried form.Status m = refl
carried-carried form.Time m = refl

IsMeta-carried : (f : Form) (m : Meta) → IsMeta m → IsMeta (carried f m)
IsMeta-carried form.Plain m is = record { status = omega arith; severity = omega arith; seconds = omega arith; nanos = omega arith }
IsMeta-carried form.Status m is = record { status = is.status; severity = is.severity; seconds = omega arith; nanos = omega arith }
IsMeta-carried form.Time m is = is

-- what was written is read again, whatever is after it
pub reads-image : (t : DataType) (e : Elements) (m : Meta) (behind : List ℕ) → t.base ≡ base_of e → IsValue e → IsMeta m → Reads t (count_of e) (image t e m ++ behind) e (carried t.form m)
reads-image t e m behind based valued is =
    let zeros : List ℕ = replicate (padding_size t.form t.base) 0 in
    let long : count_of e * element_size t.base ≤ length (bytes_of e ++ behind) =
    omega (arith, length-append (bytes_of e) behind, length-bytes_of e valued, ap (λ (b : BaseType). count_of e * element_size b) based) in
    record {
      padding = zeros;
      body = bytes_of e ++ behind;
      parts = append_assoc (meta_bytes t.form m) (zeros ++ bytes_of e) behind ∙ ap (λ (x : List ℕ). meta_bytes t.form m ++ x) (append_assoc zeros (bytes_of e) behind) ∙ ap (λ (x : List ℕ). x ++ (zeros ++ (bytes_of e ++ behind))) (meta_bytes-carried t.form m);
      padded = length-replicate {A = ℕ} (padding_size t.form t.base) 0;
      elements = record {
        behind = behind;
        spelled = filled_whole t.base (count_of e) (bytes_of e ++ behind) long;
        based = sym based;
        counted = refl;
        valued = valued;
      };
      meta = IsMeta-carried t.form m is;
      only = carried-carried t.form m;
    }

-- how long an image is
pub length-image : (t : DataType) (e : Elements) (m : Meta) → t.base ≡ base_of e → IsValue e → length (image t e m) ≡ size_of_image t (count_of e)
length-image t e m based valued =
    let zeros : List ℕ = replicate (padding_size t.form t.base) 0 in
    omega (arith, length-append (meta_bytes t.form m) (zeros ++ bytes_of e), length-append zeros (bytes_of e), length-replicate {A = ℕ} (padding_size t.form t.base) 0, length-meta_bytes t.form m, length-bytes_of e valued, ap (λ (b : BaseType). count_of e * element_size b) based)

base_at : ℕ → BaseType
base_at zero = base.String
base_at (suc zero) = base.Int
base_at (suc (suc zero)) = base.Float
base_at (suc (suc (suc zero))) = base.Enum
base_at (suc (suc (suc (suc zero)))) = base.Char
base_at (suc (suc (suc (suc (suc zero))))) = base.Long
base_at (suc (suc (suc (suc (suc (suc n)))))) = base.Double

base_at-number : (b : BaseType) → base_at (base_number b) ≡ b
unfolding base_at
base_at-number base.String = refl
base_at-number base.Int = refl
base_at-number base.Float = refl
base_at-number base.Enum = refl
base_at-number base.Char = refl
base_at-number base.Long = refl
base_at-number base.Double = refl

-- a number names one base type
pub base_number-one : (b c : BaseType) → base_number b ≡ base_number c → b ≡ c
base_number-one b c e = sym (base_at-number b) ∙ ap base_at e ∙ base_at-number c

pub base_number-small : (b : BaseType) → base_number b < 7
base_number-small base.String = omega arith
base_number-small base.Int = omega arith
base_number-small base.Float = omega arith
base_number-small base.Enum = omega arith
base_number-small base.Char = omega arith
base_number-small base.Long = omega arith
base_number-small base.Double = omega arith

forms-one : (f g : Form) (b c : ℕ) → b < 7 → c < 7 → b + form_number f ≡ c + form_number g → (f ≡ g) × (b ≡ c)
forms-one form.Plain form.Plain b c p q e = (refl, omega arith)
forms-one form.Plain form.Status b c p q e = absurd (omega arith)
forms-one form.Plain form.Time b c p q e = absurd (omega arith)
forms-one form.Status form.Plain b c p q e = absurd (omega arith)
forms-one form.Status form.Status b c p q e = (refl, omega arith)
forms-one form.Status form.Time b c p q e = absurd (omega arith)
forms-one form.Time form.Plain b c p q e = absurd (omega arith)
forms-one form.Time form.Status b c p q e = absurd (omega arith)
forms-one form.Time form.Time b c p q e = (refl, omega arith)

-- a number names one type
pub type_number-one : (s t : DataType) → type_number s ≡ type_number t → s ≡ t
type_number-one s t e =
    let parts = forms-one s.form t.form (base_number s.base) (base_number t.base) (base_number-small s.base) (base_number-small t.base) e in
    let based = base_number-one s.base t.base parts.1 in
    let made : BaseType → Form → DataType = λ b f. record { base = b; form = f } in
    ap (λ (b : BaseType). made b s.form) based ∙ ap (λ (f : Form). made t.base f) parts.0
