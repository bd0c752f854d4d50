-- Payloads filled up to a multiple of 8.
use Rattle.std.proofs.Common.{◌≡◌, ◌≢◌, ℕ, ◌+◌, ◌-◌, ◌%◌, ◌^◌, ◌<◌, ◌≤◌, List, ◌++◌, length, take, drop, replicate, ap, ◌∙◌, arith}
use Rattle.std.proofs.lemmas.List.{length-append, length-replicate, drop-replicate, take_all, append-nil}
use Rattle.ca_text.specs.Limits.{payload_limit}
use Rattle.ca_wire.specs.Fields.{Fields, IsPayload, padded}
use Rattle.ca_wire.specs.Message.{IsMessage}

pub length-padded : (bytes : List ℕ) → length (padded bytes) ≡ length bytes + (8 - length bytes % 8) % 8
length-padded bytes = length-append bytes _ ∙ ap (λ (n : ℕ). length bytes + n) (length-replicate ((8 - length bytes % 8) % 8) 0)

pub padded-payload : (bytes : List ℕ) → length bytes ≤ payload_limit → IsPayload (padded bytes)
padded-payload bytes within = record { aligned = omega (arith, length-padded bytes); within = omega (arith, length-padded bytes) }

replicate_left : (n over k y : ℕ) → over + k ≡ n → take k (drop over (replicate n y)) ≡ replicate k y
replicate_left n over k y e =
    let left : n - over ≡ k = omega arith in
    rw (drop-replicate over n y, left) (take_all k (replicate k y) (omega (arith, length-replicate k y)))

pub padded-over : (bytes : List ℕ) (over k : ℕ) → over ≡ length bytes % 8 → over ≢ 0 → k ≡ 8 - over → bytes ++ take k (drop over (replicate 8 0)) ≡ padded bytes
padded-over bytes over k e some f =
    let n : k ≡ (8 - length bytes % 8) % 8 = omega arith in
    ap (λ (t : List ℕ). bytes ++ t) (replicate_left 8 over k 0 (omega arith) ∙ ap (λ (m : ℕ). replicate m 0) n)

pub padded-none : (bytes : List ℕ) → length bytes % 8 ≡ 0 → padded bytes ≡ bytes
padded-none bytes e =
    let n : (8 - length bytes % 8) % 8 ≡ 0 = omega arith in
    ap (λ (k : ℕ). bytes ++ replicate k 0) n ∙ append-nil bytes

-- numbers that have their widths, and a payload, are a message
pub message-of : (m : Fields) → m.command < 2 ^ 16 → m.data_type < 2 ^ 16 → m.count < 2 ^ 32 → m.p1 < 2 ^ 32 → m.p2 < 2 ^ 32 → IsPayload m.payload → IsMessage m
message-of m a b c d e p =
    let within = p.within in
    record { header = record { command = a; data_type = b; size = omega arith; count = c; p1 = d; p2 = e }; payload = p }
