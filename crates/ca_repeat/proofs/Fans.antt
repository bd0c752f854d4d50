-- Datagrams that are handed on.
use Rattle.std.proofs.Common.{◌≡◌, ◌≢◌, ◌+◌, ◌<◌, ◌≤◌, ℕ, Bool, cond, get_or, arith, false, List, [], ◌∷◌, ◌++◌, length, drop, refl, sym, ap, ◌∙◌}
use Rattle.std.specs.Prelude.{◌==◌, OnErr, Result, Ok, Err}
use Rattle.std.specs.declared.alloc.AllocError.{AllocError}
use Rattle.std.proofs.lemmas.List.{append-nil, drop_all, drop_more, length-append}
use Rattle.ca_repeat.specs.declared.address.UdpAddress.{UdpAddress}
use Rattle.ca_repeat.specs.Addresses.{same}
use Rattle.ca_repeat.specs.Sent.{Sent}
use Rattle.ca_repeat.specs.Fan.{handed, to_others}

pub some-test : (n : ℕ) → false ≡ (n == 0) → n ≢ 0
some-test n f e = let g : false ≡ (0 == 0) = f ∙ ap (λ (k : ℕ). k == 0) e in cc

handed-some : (bytes : List ℕ) (from : UdpAddress) (members : List UdpAddress) → length bytes ≢ 0 → handed bytes from members ≡ to_others bytes from members
handed-some [] from members some = absurd (some refl)
handed-some (b ∷ bytes) from members some = refl

-- every member was looked at
pub handed-all : (bytes : List ℕ) (from : UdpAddress) (members : List UdpAddress) (i : ℕ) (was now : List Sent) → length bytes ≢ 0 → length members ≤ i → now ++ to_others bytes from (drop i members) ≡ was ++ to_others bytes from members → now ≡ was ++ handed bytes from members
handed-all bytes from members i was now some done e =
    sym (append-nil now) ∙ ap (λ (ms : List UdpAddress). now ++ to_others bytes from ms) (sym (drop_all i members done)) ∙ e ∙ ap (λ (t : List Sent). was ++ t) (sym (handed-some bytes from members some))

-- a member that is not the sender is sent to
pub one-handed : (bytes : List ℕ) (from : UdpAddress) (members : List UdpAddress) (i : ℕ) (d : UdpAddress) (was now : List Sent) → length bytes ≢ 0 → i < length members → same (get_or members i d) from ≡ false → now ++ to_others bytes from (drop i members) ≡ was ++ to_others bytes from members → length was ≤ length now → handed bytes from members ≢ []
one-handed bytes from members i d was now some within other e longer none =
    let m : UdpAddress = get_or members i d in
    let later : List Sent = to_others bytes from (drop (i + 1) members) in
    let rest : to_others bytes from (drop i members) ≡ record { to = m; bytes = bytes } ∷ later =
    ap (to_others bytes from) (drop_more members i d within) ∙ ap (λ (b : Bool). cond b later (record { to = m; bytes = bytes } ∷ later)) other in
    omega (arith, longer, ap length e, ap length rest, ap length (sym (handed-some bytes from members some) ∙ none), length-append now (to_others bytes from (drop i members)), length-append was (to_others bytes from members))

pub on_err : {A : Type 0} {P : Type 0} (r : Result A AllocError) → P → OnErr r P
on_err (Ok x) p = tt
on_err (Err e) p = p
