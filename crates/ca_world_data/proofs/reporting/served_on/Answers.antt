use Rattle.std.proofs.Common.{◌≡◌, ℕ, ◌<◌, ◌≤◌, List, length, slice_index_or, refl, ap, arith}
use Rattle.ca_arena.specs.declared.handle.Handle.{Handle}
use Rattle.std.specs.Prelude.{map}
use Rattle.std.proofs.lemmas.List.{length-map}
use Rattle.ca_text.specs.Place.{At}
use Rattle.ca_text.proofs.Places.{At-map}
use Rattle.ca_world_data.specs.declared.joined.Joined.{Joined}
use Rattle.ca_world_data.specs.Seen.{joined_of}
use Rattle.ca_world_data.proofs.Serving.{none-numbered, none-such, none-there}
use Rattle.ca_world_data.proofs.Worlds.{both-ways, found}
use Rattle.ca_world_data.proofs.reporting.served_on.Goals as goal

pub returns-then-place-numbers : goal.returns-then-place-numbers
returns-then-place-numbers c =
    let over : length c.args.numbers.now ≤ c.args.handle.index = omega (arith, c.if-place-numbers.true) in
    none-numbered c.args.numbers.now (map joined_of c.args.circuits.now) c.args.server c.args.handle c.requires over

pub returns-then-number-circuits : goal.returns-then-number-circuits
returns-then-number-circuits c =
    let numbers : List ℕ = c.args.numbers.now in
    let ks : List Joined = c.args.circuits.now in
    let seen = map joined_of ks in
    let h : Handle = c.args.handle in
    let n : ℕ = slice_index_or numbers h.index 0 in
    let place : h.index < length numbers = omega (arith, c.if-place-numbers.false) in
    let has : At numbers h.index n = found numbers h.index n 0 place refl in
    let over : length ks ≤ n = omega (arith, c.if-number-circuits.true) in
    none-there numbers seen c.args.server h c.requires n has (omega (arith, over, length-map ks joined_of))

pub returns-then-joined-server : goal.returns-then-joined-server
returns-then-joined-server c =
    let numbers : List ℕ = c.args.numbers.now in
    let ks : List Joined = c.args.circuits.now in
    let seen = map joined_of ks in
    let h : Handle = c.args.handle in
    let n : ℕ = slice_index_or numbers h.index 0 in
    let place : h.index < length numbers = omega (arith, c.if-place-numbers.false) in
    let has : At numbers h.index n = found numbers h.index n 0 place refl in
    let i : Joined = c.index-circuits-number.result in
    let within : n < length ks = omega (arith, c.if-number-circuits.false) in
    let there : At ks n i = found ks n i i within c.index-circuits-number.is in
    none-such numbers seen c.args.server h c.requires n (joined_of i) has (At-map joined_of ks n i there) (λ mine on here. omega (arith, c.if-joined-server.true, mine))

pub returns-then-not-joined : goal.returns-then-not-joined
returns-then-not-joined c =
    let numbers : List ℕ = c.args.numbers.now in
    let ks : List Joined = c.args.circuits.now in
    let seen = map joined_of ks in
    let h : Handle = c.args.handle in
    let n : ℕ = slice_index_or numbers h.index 0 in
    let place : h.index < length numbers = omega (arith, c.if-place-numbers.false) in
    let has : At numbers h.index n = found numbers h.index n 0 place refl in
    let i : Joined = c.index-circuits-number.result in
    let within : n < length ks = omega (arith, c.if-number-circuits.false) in
    let there : At ks n i = found ks n i i within c.index-circuits-number.is in
    none-such numbers seen c.args.server h c.requires n (joined_of i) has (At-map joined_of ks n i there) (λ mine on here. both-ways i.lists.server_open on c.if-not-joined.true)

pub returns-then-joined-handle : goal.returns-then-joined-handle
returns-then-joined-handle c =
    let numbers : List ℕ = c.args.numbers.now in
    let ks : List Joined = c.args.circuits.now in
    let seen = map joined_of ks in
    let h : Handle = c.args.handle in
    let n : ℕ = slice_index_or numbers h.index 0 in
    let place : h.index < length numbers = omega (arith, c.if-place-numbers.false) in
    let has : At numbers h.index n = found numbers h.index n 0 place refl in
    let i : Joined = c.index-circuits-number.result in
    let within : n < length ks = omega (arith, c.if-number-circuits.false) in
    let there : At ks n i = found ks n i i within c.index-circuits-number.is in
    none-such numbers seen c.args.server h c.requires n (joined_of i) has (At-map joined_of ks n i there)
    (λ mine on here. let same : i.at_server.index ≡ h.index = ap (λ (z : Handle). z.index) here in omega (arith, c.if-joined-handle.true, same))

pub returns-then-joined-handle-2 : goal.returns-then-joined-handle-2
returns-then-joined-handle-2 c =
    let numbers : List ℕ = c.args.numbers.now in
    let ks : List Joined = c.args.circuits.now in
    let seen = map joined_of ks in
    let h : Handle = c.args.handle in
    let n : ℕ = slice_index_or numbers h.index 0 in
    let place : h.index < length numbers = omega (arith, c.if-place-numbers.false) in
    let has : At numbers h.index n = found numbers h.index n 0 place refl in
    let i : Joined = c.index-circuits-number.result in
    let within : n < length ks = omega (arith, c.if-number-circuits.false) in
    let there : At ks n i = found ks n i i within c.index-circuits-number.is in
    none-such numbers seen c.args.server h c.requires n (joined_of i) has (At-map joined_of ks n i there)
    (λ mine on here. let same : i.at_server.generation ≡ h.generation = ap (λ (z : Handle). z.generation) here in omega (arith, c.if-joined-handle-2.true, same))

pub returns : goal.returns
returns c =
    let numbers : List ℕ = c.args.numbers.now in
    let ks : List Joined = c.args.circuits.now in
    let seen = map joined_of ks in
    let h : Handle = c.args.handle in
    let n : ℕ = slice_index_or numbers h.index 0 in
    let place : h.index < length numbers = omega (arith, c.if-place-numbers.false) in
    let has : At numbers h.index n = found numbers h.index n 0 place refl in
    let i : Joined = c.index-circuits-number.result in
    let within : n < length ks = omega (arith, c.if-number-circuits.false) in
    let there : At ks n i = found ks n i i within c.index-circuits-number.is in
    let mine : i.server ≡ c.args.server = omega (arith, c.if-joined-server.false) in
    let index : i.at_server.index ≡ h.index = omega (arith, c.if-joined-handle.false) in
    let generation : i.at_server.generation ≡ h.generation = omega (arith, c.if-joined-handle-2.false) in
    record { j = joined_of i; at = At-map joined_of ks n i there; mine = mine; is_open = c.if-not-joined.false; here = λ t. record { index = index t; generation = generation t } }
