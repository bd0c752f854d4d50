-- The bytes and the length of a datagram of searches.
use Rattle.std.proofs.Common.{◌≡◌, ℕ, ◌+◌, ◌-◌, ◌%◌, ◌<◌, ◌≤◌, List, [], ◌∷◌, ◌++◌, length, take, replicate, suc, refl, sym, ap, ◌∙◌, append_assoc, subst, Result, Ok, Err, arith}
use Rattle.std.specs.Result.{IsErrAnd}
use Rattle.std.specs.Prelude.{IfErr}
use Rattle.std.proofs.lemmas.List.{length-append, length-replicate, take-replicate}
use Rattle.ca_wire.specs.declared.header.Header.{Header}
use Rattle.ca_wire.specs.Header.{short_header}
use Rattle.ca_wire.specs.Fields.{padded}
use Rattle.ca_wire.specs.Message.{header_of, spelling}
use Rattle.ca_wire.proofs.Headers.{length-short}
use Rattle.ca_wire.specs.Messages.{search_request, version_reply}
use Rattle.ca_text.specs.declared.refusal.Refusal.{Refusal}
use Rattle.ca_text.specs.declared.refusal.Refusal.TheVariants.{OutOfMemory}
use Rattle.ca_dgram.specs.Search.{Searches, begun, searched}
use Rattle.ca_text.specs.Limits.{datagram_limit}
use Rattle.ca_dgram.proofs.Spellings.{spelling-header_only, spelling-small}

pub version-bytes : spelling version_reply ≡ short_header (header_of version_reply)
version-bytes = spelling-header_only version_reply refl (omega arith)

pub length-version : length (spelling version_reply) ≡ 16
length-version = ap length version-bytes ∙ length-short (header_of version_reply)

-- one zero that ends the name, and the padding
pub zeros-padded : (name : List ℕ) (zeros : ℕ) → zeros ≡ 8 - length name % 8 → name ++ replicate zeros 0 ≡ padded (name ++ 0 ∷ [])
zeros-padded name zeros e =
    let k = (8 - length (name ++ 0 ∷ []) % 8) % 8 in
    let more : zeros ≡ suc k = omega (arith, length-append name (0 ∷ [])) in
    ap (λ (n : ℕ). name ++ replicate n 0) more ∙ sym (append_assoc name (0 ∷ []) (replicate k 0))

pub length-padded_name : (name : List ℕ) (zeros : ℕ) → zeros ≡ 8 - length name % 8 → length (padded (name ++ 0 ∷ [])) ≡ length name + zeros
length-padded_name name zeros e =
    sym (ap length (zeros-padded name zeros e)) ∙ length-append name (replicate zeros 0) ∙ ap (λ (n : ℕ). length name + n) (length-replicate {A = ℕ} zeros 0)

pub search-bytes : (cid : ℕ) (name : List ℕ) (size zeros : ℕ) → length name ≤ 500 → zeros ≡ 8 - length name % 8 → size ≡ length name + zeros
    → spelling (search_request cid name) ≡ short_header (record { command = 6; data_type = 5; size = size; count = 13; p1 = cid; p2 = cid }) ++ (name ++ replicate zeros 0)
search-bytes cid name size zeros within e f =
    let long : length (padded (name ++ 0 ∷ [])) ≡ size = length-padded_name name zeros e ∙ sym f in
    spelling-small (search_request cid name) (omega (arith, long)) (omega arith)
    ∙ ap (λ (n : ℕ). short_header (record { command = 6; data_type = 5; size = n; count = 13; p1 = cid; p2 = cid }) ++ padded (name ++ 0 ∷ [])) long
    ∙ ap (λ (t : List ℕ). short_header (record { command = 6; data_type = 5; size = size; count = 13; p1 = cid; p2 = cid }) ++ t) (sym (zeros-padded name zeros e))

pub length-search : (cid : ℕ) (name : List ℕ) (zeros : ℕ) → length name ≤ 500 → zeros ≡ 8 - length name % 8 → length (spelling (search_request cid name)) ≡ 16 + length name + zeros
length-search cid name zeros within e =
    let h : Header = record { command = 6; data_type = 5; size = length name + zeros; count = 13; p1 = cid; p2 = cid } in
    ap length (search-bytes cid name (length name + zeros) zeros within e refl)
    ∙ omega (arith, length-append (short_header h) (name ++ replicate zeros 0), length-append name (replicate zeros 0), length-replicate {A = ℕ} zeros 0, length-short h)

pub length-searched : (bytes : List ℕ) (cid : ℕ) (name : List ℕ) (zeros : ℕ) → length name ≤ 500 → zeros ≡ 8 - length name % 8 → length (searched bytes cid name) ≡ length (begun bytes) + 16 + length name + zeros
length-searched bytes cid name zeros within e = omega (arith, length-append (begun bytes) (spelling (search_request cid name)), length-search cid name zeros within e)

pub length-begun : (bytes : List ℕ) → length bytes ≡ 0 → length (begun bytes) ≡ 16
length-begun [] e = length-version
length-begun (b ∷ bytes) e = absurd (omega (arith, e))

pub begun-empty : (bytes header : List ℕ) → length bytes ≡ 0 → header ≡ short_header (header_of version_reply) → bytes ++ header ≡ begun bytes
begun-empty [] header e f = f ∙ sym version-bytes
begun-empty (b ∷ bytes) header e f = absurd (omega (arith, e))

-- what the four writes leave
pub searched-written : (bytes a b c d header name : List ℕ) (cid size zeros : ℕ) → length name ≤ 500 → zeros ≡ 8 - length name % 8 → size ≡ length name + zeros → a ≡ begun bytes
    → header ≡ short_header (record { command = 6; data_type = 5; size = size; count = 13; p1 = cid; p2 = cid }) → b ≡ a ++ header → c ≡ b ++ name → d ≡ c ++ take zeros (replicate 8 0) → d ≡ searched bytes cid name
searched-written bytes a b c d header name cid size zeros within e f i j k l m =
    let z : take zeros (replicate 8 0) ≡ replicate zeros 0 = take-replicate zeros 8 0 (omega arith) in
    m ∙ ap (λ (t : List ℕ). c ++ t) z ∙ ap (λ (t : List ℕ). t ++ replicate zeros 0) (l ∙ ap (λ (t : List ℕ). t ++ name) (k ∙ ap (λ (t : List ℕ). t ++ header) i))
    ∙ append_assoc (begun bytes ++ header) name (replicate zeros 0) ∙ append_assoc (begun bytes) header (name ++ replicate zeros 0)
    ∙ ap (λ (t : List ℕ). begun bytes ++ t) (ap (λ (t : List ℕ). t ++ (name ++ replicate zeros 0)) j ∙ sym (search-bytes cid name size zeros within e f))

pub searches-refused : (old new : List ℕ) (cid : ℕ) (name : List ℕ) (r : Result (Unit {0}) Refusal) → IsErrAnd r (λ e. e ≡ OutOfMemory) → length (searched old cid name) ≤ datagram_limit → new ≡ old → Searches old cid name r new
searches-refused old new cid name (Ok x) is short same = absurd is
searches-refused old new cid name (Err e) is short same = subst (λ (x : Refusal). Searches old cid name (Err x) new) (sym is) (short, same)

pub room-lacked : (n m : ℕ) (r : Result (Unit {0}) Refusal) → n < m → IfErr r (λ e. e ≡ OutOfMemory → n < m)
room-lacked n m (Ok x) less = tt
room-lacked n m (Err e) less = λ _. less
