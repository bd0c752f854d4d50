-- No header begins another.
use Rattle.std.proofs.Common.{◌≡◌, ℕ, ◌^◌, ◌<◌, ◌≤◌, ◌⊎◌, List, [], ◌++◌, ◌∷◌, length, get_or, refl, sym, ap, ◌∙◌, inl, inr, append_assoc, arith}
use Rattle.std.proofs.lemmas.Bool.{lt-ltb, le-ltb, and_left, and_right, and_from, cond-true, cond-false, cases_lt}
use Rattle.std.proofs.lemmas.List.{length-append}
use Rattle.ca_wire.specs.declared.header.Header.{Header}
use Rattle.ca_wire.specs.Header.{number16, number32, short_header, extended_header, header_spelling, HeaderFits, HeaderSpells, SpellsShort, SpellsExtended}
use Rattle.ca_wire.proofs.Numbers.{length-number16, length-number32, number16-front, number32-front}

-- six numbers, each of the width that its field has in 16 bytes
pub record Narrow (h : Header) : Type 0 where
  pub command : h.command < 2 ^ 16
  pub data_type : h.data_type < 2 ^ 16
  pub size : h.size < 2 ^ 16
  pub count : h.count < 2 ^ 16
  pub p1 : h.p1 < 2 ^ 32
  pub p2 : h.p2 < 2 ^ 32

regroup : (a b c d e f g : List ℕ) → (a ++ (b ++ (c ++ (d ++ (e ++ f))))) ++ g ≡ a ++ (b ++ (c ++ (d ++ (e ++ (f ++ g)))))
regroup a b c d e f g = simp append_assoc

-- the numbers of the 16 bytes, and what is after them
pub short-behind : (h : Header) (x : List ℕ) → short_header h ++ x ≡ number16 h.command ++ (number16 h.size ++ (number16 h.data_type ++ (number16 h.count ++ (number32 h.p1 ++ (number32 h.p2 ++ x)))))
unfolding short_header
short-behind h x = regroup (number16 h.command) (number16 h.size) (number16 h.data_type) (number16 h.count) (number32 h.p1) (number32 h.p2) x

pub length-short : (h : Header) → length (short_header h) ≡ 16
unfolding short_header
length-short h =
    simp length-append (omega (arith, length-number16 h.command, length-number16 h.size, length-number16 h.data_type, length-number16 h.count, length-number32 h.p1, length-number32 h.p2))

-- the first sixteen bytes of an extended header, as numbers
abbrev pub narrowed : ℕ → Header → Header
narrowed count16 h = record { command = h.command; data_type = h.data_type; size = 65535; count = count16; p1 = h.p1; p2 = h.p2 }

pub extended-is : (count16 : ℕ) (h : Header) → extended_header count16 h ≡ short_header (narrowed count16 h) ++ (number32 h.size ++ number32 h.count)
unfolding extended_header
extended-is count16 h = sym (short-behind (narrowed count16 h) (number32 h.size ++ number32 h.count))

pub length-extended : (count16 : ℕ) (h : Header) → length (extended_header count16 h) ≡ 24
length-extended count16 h =
    rw (extended-is count16 h) (simp length-append (omega (arith, length-short (narrowed count16 h), length-number32 h.size, length-number32 h.count)))

pub header-same : (g h : Header) → g.command ≡ h.command → g.data_type ≡ h.data_type → g.size ≡ h.size → g.count ≡ h.count → g.p1 ≡ h.p1 → g.p2 ≡ h.p2 → g ≡ h
header-same g h a b c d e f =
    let made : ℕ → ℕ → ℕ → ℕ → ℕ → ℕ → Header = λ k l m n o p. record { command = k; data_type = l; size = m; count = n; p1 = o; p2 = p } in
    ap (λ (k : ℕ). made k g.data_type g.size g.count g.p1 g.p2) a ∙ ap (λ (l : ℕ). made h.command l g.size g.count g.p1 g.p2) b ∙ ap (λ (m : ℕ). made h.command h.data_type m g.count g.p1 g.p2) c
    ∙ ap (λ (n : ℕ). made h.command h.data_type h.size n g.p1 g.p2) d ∙ ap (λ (o : ℕ). made h.command h.data_type h.size h.count o g.p2) e ∙ ap (λ (p : ℕ). made h.command h.data_type h.size h.count h.p1 p) f

pub short-front : (g h : Header) (x y : List ℕ) → Narrow g → Narrow h → short_header g ++ x ≡ short_header h ++ y → (g ≡ h) × (x ≡ y)
short-front g h x y gn hn e =
    let all = sym (short-behind g x) ∙ e ∙ short-behind h y in
    let a = number16-front g.command h.command _ _ gn.command hn.command all in
    let b = number16-front g.size h.size _ _ gn.size hn.size a.1 in
    let c = number16-front g.data_type h.data_type _ _ gn.data_type hn.data_type b.1 in
    let d = number16-front g.count h.count _ _ gn.count hn.count c.1 in
    let p = number32-front g.p1 h.p1 _ _ gn.p1 hn.p1 d.1 in
    let q = number32-front g.p2 h.p2 x y gn.p2 hn.p2 p.1 in
    (header-same g h a.0 c.0 b.0 d.0 p.0 q.0, q.1)

pub narrow-short : (h : Header) → HeaderFits h → h.size < 65535 → h.count < 65536 → Narrow h
narrow-short h f s k = record { command = f.command; data_type = f.data_type; size = omega arith; count = omega arith; p1 = f.p1; p2 = f.p2 }

narrow-extended : (count16 : ℕ) (h : Header) → HeaderFits h → count16 < 65536 → Narrow (narrowed count16 h)
narrow-extended count16 h f k = record { command = f.command; data_type = f.data_type; size = omega arith; count = omega arith; p1 = f.p1; p2 = f.p2 }

pub extended-behind : (count16 : ℕ) (h : Header) (x : List ℕ) → extended_header count16 h ++ x ≡ short_header (narrowed count16 h) ++ (number32 h.size ++ (number32 h.count ++ x))
extended-behind count16 h x = rw (extended-is count16 h) (simp append_assoc)

short_short : (a b x y : List ℕ) (g h : Header) → HeaderFits g → HeaderFits h → SpellsShort a g → SpellsShort b h → a ++ x ≡ b ++ y → (g ≡ h) × (a ≡ b) × (x ≡ y)
short_short a b x y g h gf hf s t e =
    let joined : short_header g ++ x ≡ short_header h ++ y = ap (λ (z : List ℕ). z ++ x) (sym s.are) ∙ e ∙ ap (λ (z : List ℕ). z ++ y) t.are in
    let r = short-front g h x y (narrow-short g gf s.size s.count) (narrow-short h hf t.size t.count) joined in
    (r.0, s.are ∙ ap short_header r.0 ∙ sym t.are, r.1)

short_extended : (a b x y : List ℕ) (g h : Header) → HeaderFits g → HeaderFits h → SpellsShort a g → SpellsExtended b h → a ++ x ≡ b ++ y → ⊥
short_extended a b x y g h gf hf s t e =
    let joined : short_header g ++ x ≡ short_header (narrowed t.count16 h) ++ (number32 h.size ++ (number32 h.count ++ y)) = ap (λ (z : List ℕ). z ++ x) (sym s.are) ∙ e ∙ ap (λ (z : List ℕ). z ++ y) t.are ∙ extended-behind t.count16 h y in
    let r = short-front g (narrowed t.count16 h) x _ (narrow-short g gf s.size s.count) (narrow-extended t.count16 h hf t.count) joined in
    let size : g.size ≡ 65535 = ap (λ (k : Header). k.size) r.0 in
    let below = s.size in
    omega arith

extended_extended : (a b x y : List ℕ) (g h : Header) → HeaderFits g → HeaderFits h → SpellsExtended a g → SpellsExtended b h → a ++ x ≡ b ++ y → (g ≡ h) × (a ≡ b) × (x ≡ y)
extended_extended a b x y g h gf hf s t e =
    let joined = sym (extended-behind s.count16 g x) ∙ ap (λ (z : List ℕ). z ++ x) (sym s.are) ∙ e ∙ ap (λ (z : List ℕ). z ++ y) t.are ∙ extended-behind t.count16 h y in
    let r = short-front (narrowed s.count16 g) (narrowed t.count16 h) _ _ (narrow-extended s.count16 g gf s.count) (narrow-extended t.count16 h hf t.count) joined in
    let size = number32-front g.size h.size _ _ gf.size hf.size r.1 in
    let count = number32-front g.count h.count x y gf.count hf.count size.1 in
    let same : g ≡ h = header-same g h (ap (λ (k : Header). k.command) r.0) (ap (λ (k : Header). k.data_type) r.0) size.0 count.0 (ap (λ (k : Header). k.p1) r.0) (ap (λ (k : Header). k.p2) r.0) in
    let count16 : s.count16 ≡ t.count16 = ap (λ (k : Header). k.count) r.0 in
    (same, s.are ∙ ap (λ (k : ℕ). extended_header k g) count16 ∙ ap (λ (k : Header). extended_header t.count16 k) same ∙ sym t.are, count.1)

-- bytes begin with one header, in one form
pub header-front : (a b x y : List ℕ) (g h : Header) → HeaderSpells a g → HeaderSpells b h → a ++ x ≡ b ++ y → (g ≡ h) × (a ≡ b) × (x ≡ y)
header-front a b x y g h s t e =
    elim s.form [
      | inl p ↦ elim t.form [
        | inl q ↦ short_short a b x y g h s.fits t.fits p q e
        | inr q ↦ absurd (short_extended a b x y g h s.fits t.fits p q e)
      ]
      | inr p ↦ elim t.form [
        | inl q ↦ absurd (short_extended b a y x h g t.fits s.fits q p (sym e))
        | inr q ↦ extended_extended a b x y g h s.fits t.fits p q e
      ]
    ]

pub header-long : (a : List ℕ) (h : Header) → HeaderSpells a h → 16 ≤ length a
header-long a h s =
    elim s.form [
      | inl p ↦ rw p.are (omega (arith, length-short h))
      | inr p ↦ rw p.are (omega (arith, length-extended p.count16 h))
    ]

pub header-short : (a : List ℕ) (h : Header) → HeaderSpells a h → length a ≤ 24
header-short a h s =
    elim s.form [
      | inl p ↦ rw p.are (omega (arith, length-short h))
      | inr p ↦ rw p.are (omega (arith, length-extended p.count16 h))
    ]

pub spelling-short : (h : Header) → h.size < 65535 → h.count < 65535 → header_spelling h ≡ short_header h
unfolding header_spelling
spelling-short h s k = cond-true _ (short_header h) (extended_header 0 h) (and_from _ _ (lt-ltb h.size 65535 s) (lt-ltb h.count 65535 k))

pub spelling-long-size : (h : Header) → 65535 ≤ h.size → header_spelling h ≡ extended_header 0 h
unfolding header_spelling
spelling-long-size h s = cond-false _ (short_header h) (extended_header 0 h) (and_left _ _ (le-ltb h.size 65535 s))

pub spelling-long-count : (h : Header) → 65535 ≤ h.count → header_spelling h ≡ extended_header 0 h
unfolding header_spelling
spelling-long-count h k = cond-false _ (short_header h) (extended_header 0 h) (and_right _ _ (le-ltb h.count 65535 k))

as_extended : (h : Header) → HeaderFits h → header_spelling h ≡ extended_header 0 h → HeaderSpells (header_spelling h) h
as_extended h f e = record { fits = f; form = inr (record { count16 = 0; count = omega arith; are = e }) }

-- a written header is read as itself
pub header-spells : (h : Header) → HeaderFits h → HeaderSpells (header_spelling h) h
header-spells h f =
    elim (cases_lt h.size 65535) [
      | inl s ↦ elim (cases_lt h.count 65535) [
        | inl k ↦ record { fits = f; form = inl (record { size = s; count = omega arith; are = spelling-short h s k }) }
        | inr k ↦ as_extended h f (spelling-long-count h k)
      ]
      | inr s ↦ as_extended h f (spelling-long-size h s)
    ]

-- a written header has 16 bytes or 24
pub length-header_spelling : (h : Header) → (length (header_spelling h) ≡ 16) ⊎ (length (header_spelling h) ≡ 24)
length-header_spelling h =
    elim (cases_lt h.size 65535) [
      | inl s ↦ elim (cases_lt h.count 65535) [
        | inl k ↦ inl (ap length (spelling-short h s k) ∙ length-short h)
        | inr k ↦ inr (ap length (spelling-long-count h k) ∙ length-extended 0 h)
      ]
      | inr s ↦ inr (ap length (spelling-long-size h s) ∙ length-extended 0 h)
    ]

pub header_spelling-short : (h : Header) → length (header_spelling h) ≤ 24
header_spelling-short h = elim (length-header_spelling h) [ inl e ↦ omega arith | inr e ↦ omega arith ]

pub header_spelling-long : (h : Header) → 16 ≤ length (header_spelling h)
header_spelling-long h = elim (length-header_spelling h) [ inl e ↦ omega arith | inr e ↦ omega arith ]

-- the two forms byte by byte, from the bytes of their fields
pub short-listed : (h : Header) (command size data_type count p1 p2 : List ℕ) → command ≡ number16 h.command → size ≡ number16 h.size → data_type ≡ number16 h.data_type → count ≡ number16 h.count → p1 ≡ number32 h.p1 → p2 ≡ number32 h.p2
    → get_or command 0 0 ∷ get_or command 1 0 ∷ get_or size 0 0 ∷ get_or size 1 0 ∷ get_or data_type 0 0 ∷ get_or data_type 1 0 ∷ get_or count 0 0 ∷ get_or count 1 0 ∷ get_or p1 0 0 ∷ get_or p1 1 0 ∷ get_or p1 2 0 ∷ get_or p1 3 0 ∷ get_or p2 0 0 ∷ get_or p2 1 0 ∷ get_or p2 2 0 ∷ get_or p2 3 0 ∷ [] ≡ short_header h
unfolding short_header number16 number32
short-listed h command size data_type count p1 p2 a b c d e f = rw (a, b, c, d, e, f) refl

pub extended-listed : (h : Header) (command data_type p1 p2 size count : List ℕ) → command ≡ number16 h.command → data_type ≡ number16 h.data_type → p1 ≡ number32 h.p1 → p2 ≡ number32 h.p2 → size ≡ number32 h.size → count ≡ number32 h.count
    → get_or command 0 0 ∷ get_or command 1 0 ∷ 255 ∷ 255 ∷ get_or data_type 0 0 ∷ get_or data_type 1 0 ∷ 0 ∷ 0 ∷ get_or p1 0 0 ∷ get_or p1 1 0 ∷ get_or p1 2 0 ∷ get_or p1 3 0 ∷ get_or p2 0 0 ∷ get_or p2 1 0 ∷ get_or p2 2 0 ∷ get_or p2 3 0
    ∷ get_or size 0 0 ∷ get_or size 1 0 ∷ get_or size 2 0 ∷ get_or size 3 0 ∷ get_or count 0 0 ∷ get_or count 1 0 ∷ get_or count 2 0 ∷ get_or count 3 0 ∷ [] ≡ extended_header 0 h
unfolding extended_header number16 number32
extended-listed h command data_type p1 p2 size count a b c d e f = rw (a, b, c, d, e, f) refl
