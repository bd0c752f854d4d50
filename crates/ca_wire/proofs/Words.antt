-- A message of one element in three numbers of eight bytes, and one without payload in two.
use Rattle.std.proofs.Common.{◌≡◌, ℕ, zero, suc, ◌+◌, ◌*◌, ◌<◌, ◌^◌, List, [], ◌∷◌, ◌++◌, get_or, refl, sym, ap, ◌∙◌, append-nil, append_assoc, arith}
use Rattle.std.proofs.lemmas.Nat.{be_bytes_8, from_be_bytes-to_be_bytes_2, from_be_bytes-to_be_bytes_4}
use Rattle.std.specs.Int.{to_be_bytes, w16, w32, w64}
use Rattle.ca_text.specs.Command.{command_number}
use Rattle.ca_text.specs.declared.command.Command.TheVariants as command
use Rattle.ca_text.specs.Status.{normal}
use Rattle.ca_wire.specs.declared.scalar_message.ScalarMessage.{ScalarMessage}
use Rattle.ca_wire.specs.declared.done.Done.{Done}
use Rattle.ca_wire.specs.Header.{header_spelling, number16, number32, short_header}
use Rattle.ca_wire.specs.Message.{header_of, spelling}
use Rattle.ca_wire.specs.Messages.{scalar, done}
use Rattle.ca_wire.proofs.Headers.{spelling-short}

eight-bytes : (a b c d e f g h : ℕ) → a < 256 → b < 256 → c < 256 → d < 256 → e < 256 → f < 256 → g < 256 → h < 256 → (i : ℕ) → get_or (a ∷ (b ∷ (c ∷ (d ∷ (e ∷ (f ∷ (g ∷ (h ∷ [])))))))) i 0 < 256
eight-bytes a b c d e f g h p q r s t u v w zero = p
eight-bytes a b c d e f g h p q r s t u v w (suc zero) = q
eight-bytes a b c d e f g h p q r s t u v w (suc (suc zero)) = r
eight-bytes a b c d e f g h p q r s t u v w (suc (suc (suc zero))) = s
eight-bytes a b c d e f g h p q r s t u v w (suc (suc (suc (suc zero)))) = t
eight-bytes a b c d e f g h p q r s t u v w (suc (suc (suc (suc (suc zero))))) = u
eight-bytes a b c d e f g h p q r s t u v w (suc (suc (suc (suc (suc (suc zero)))))) = v
eight-bytes a b c d e f g h p q r s t u v w (suc (suc (suc (suc (suc (suc (suc zero))))))) = w
eight-bytes a b c d e f g h p q r s t u v w (suc (suc (suc (suc (suc (suc (suc (suc i)))))))) = omega arith

-- command, size, type and count
pub first-half : (c t n : ℕ) → c < 2 ^ 16 → t < 2 ^ 16 → n ≡ c * 281474976710656 + 34359738369 + t * 65536 → to_be_bytes w64 n ≡ number16 c ++ (number16 8 ++ (number16 t ++ number16 1))
unfolding number16
first-half c t n cfits tfits e =
    be_bytes_8 (to_be_bytes w16 c ++ (to_be_bytes w16 8 ++ (to_be_bytes w16 t ++ to_be_bytes w16 1))) n refl
    (eight-bytes _ _ _ _ _ _ _ _ (omega arith) (omega arith) (omega arith) (omega arith) (omega arith) (omega arith) (omega arith) (omega arith))
    (omega (arith, e, from_be_bytes-to_be_bytes_2 c cfits, from_be_bytes-to_be_bytes_2 t tfits))

-- the same without payload
pub done-half : (c t n : ℕ) → c < 2 ^ 16 → t < 2 ^ 16 → n ≡ c * 281474976710656 + t * 65536 + 1 → to_be_bytes w64 n ≡ number16 c ++ (number16 0 ++ (number16 t ++ number16 1))
unfolding number16
done-half c t n cfits tfits e =
    be_bytes_8 (to_be_bytes w16 c ++ (to_be_bytes w16 0 ++ (to_be_bytes w16 t ++ to_be_bytes w16 1))) n refl
    (eight-bytes _ _ _ _ _ _ _ _ (omega arith) (omega arith) (omega arith) (omega arith) (omega arith) (omega arith) (omega arith) (omega arith))
    (omega (arith, e, from_be_bytes-to_be_bytes_2 c cfits, from_be_bytes-to_be_bytes_2 t tfits))

-- status and id
pub second-half : (s i n : ℕ) → s < 2 ^ 32 → i < 2 ^ 32 → n ≡ s * 4294967296 + i → to_be_bytes w64 n ≡ number32 s ++ number32 i
unfolding number32
second-half s i n sfits ifits e =
    be_bytes_8 (to_be_bytes w32 s ++ to_be_bytes w32 i) n refl
    (eight-bytes _ _ _ _ _ _ _ _ (omega arith) (omega arith) (omega arith) (omega arith) (omega arith) (omega arith) (omega arith) (omega arith))
    (omega (arith, e, from_be_bytes-to_be_bytes_4 s sfits, from_be_bytes-to_be_bytes_4 i ifits))

regrouped : (a b c d e f p : List ℕ) → (a ++ (b ++ (c ++ d))) ++ ((e ++ f) ++ p) ≡ (a ++ (b ++ (c ++ (d ++ (e ++ f))))) ++ p
regrouped a b c d e f p = simp append_assoc

-- the three one after another
pub three-words : (a : ScalarMessage) (x y : List ℕ) → x ≡ number16 (command_number a.command) ++ (number16 8 ++ (number16 a.data_type ++ number16 1)) → y ≡ number32 normal ++ number32 a.id → x ++ (y ++ to_be_bytes w64 a.payload) ≡ spelling (scalar a)
unfolding spelling short_header
three-words a x y is at =
    let h = header_of (scalar a) in
    let short : header_spelling h ≡ short_header h = spelling-short h (omega arith) (omega arith) in
    ap (λ (t : List ℕ). t ++ (y ++ to_be_bytes w64 a.payload)) is
    ∙ ap (λ (t : List ℕ). (number16 (command_number a.command) ++ (number16 8 ++ (number16 a.data_type ++ number16 1))) ++ (t ++ to_be_bytes w64 a.payload)) at
    ∙ regrouped (number16 (command_number a.command)) (number16 8) (number16 a.data_type) (number16 1) (number32 normal) (number32 a.id) (to_be_bytes w64 a.payload)
    ∙ ap (λ (t : List ℕ). t ++ to_be_bytes w64 a.payload) (sym short)

regrouped-two : (a b c d e f : List ℕ) → (a ++ (b ++ (c ++ d))) ++ (e ++ f) ≡ (a ++ (b ++ (c ++ (d ++ (e ++ f)))))
regrouped-two a b c d e f = simp append_assoc

-- the two one after another
pub two-words : (d : Done) (x y : List ℕ) → x ≡ number16 (command_number command.WriteNotify) ++ (number16 0 ++ (number16 d.data_type ++ number16 1)) → y ≡ number32 normal ++ number32 d.id → x ++ y ≡ spelling (done d)
unfolding spelling short_header
two-words d x y is at =
    let h = header_of (done d) in
    let short : header_spelling h ≡ short_header h = spelling-short h (omega arith) (omega arith) in
    ap (λ (t : List ℕ). t ++ y) is
    ∙ ap (λ (t : List ℕ). (number16 (command_number command.WriteNotify) ++ (number16 0 ++ (number16 d.data_type ++ number16 1))) ++ t) at
    ∙ regrouped-two (number16 (command_number command.WriteNotify)) (number16 0) (number16 d.data_type) (number16 1) (number32 normal) (number32 d.id)
    ∙ sym short
    ∙ sym (append-nil (header_spelling h))
