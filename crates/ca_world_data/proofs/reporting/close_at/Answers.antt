use Rattle.std.proofs.Common.{◌≡◌, ℕ, ◌<◌, inl, List, Some, None, length, map, refl, sym, ap, subst, ◌∙◌, arith}
use Rattle.std.specs.Prelude.{slice_set}
use Rattle.std.proofs.lemmas.List.{length-map}
use Rattle.ca_text.specs.Place.{At}
use Rattle.ca_text.proofs.Places.{At-map, At-one, At-within}
use Rattle.ca_model.specs.ServerEvents.{server_closed}
use Rattle.ca_world_data.specs.declared.joined.Joined.{Joined}
use Rattle.ca_world_data.specs.Reporting.{IsEnded, IsServed, IsUnserved}
use Rattle.ca_world_data.specs.Seen.{joined_of}
use Rattle.ca_world_data.proofs.Worlds.{found, set-map}
use Rattle.ca_world_data.proofs.reporting.close_at.Goals as goal

pub returns-in_default-served_on : goal.returns-in_default-served_on
returns-in_default-served_on c =
    let e : IsEnded c.args.core.now c.args.index = record { h = c.in-Some.circuit; left = c.left_of-left.result; here = c.in-Some.ensures.0.0; over = c.left_of-left.ensures.left } in
    let none : IsUnserved (map joined_of c.args.circuits.now.items) c.args.server c.in-Some.circuit =
    subst (λ (ks : List Joined). IsUnserved (map joined_of ks) c.args.server c.in-Some.circuit) c.deref.ensures.value c.in_default-served_on.ensures in
    inl (e, c.left_of-left.ensures.core, (None, (none, refl)))

pub index_mut-requires : goal.index_mut-requires
index_mut-requires c =
    let ks : List Joined = c.args.circuits.now.items in
    let s : IsServed (map joined_of ks) c.args.server c.in-Some.circuit c.in-Some-served_on.number =
    subst (λ (ls : List Joined). IsServed (map joined_of ls) c.args.server c.in-Some.circuit c.in-Some-served_on.number) c.deref.ensures.value c.in-Some-served_on.ensures in
    let within : c.in-Some-served_on.number < length (map joined_of ks) = At-within (map joined_of ks) c.in-Some-served_on.number s.j s.at in
    omega (arith, within, length-map ks joined_of)

pub returns : goal.returns
returns c =
    let ks : List Joined = c.args.circuits.now.items in
    let k : ℕ = c.in-Some-served_on.number in
    let s : IsServed (map joined_of ks) c.args.server c.in-Some.circuit k =
    subst (λ (ls : List Joined). IsServed (map joined_of ls) c.args.server c.in-Some.circuit k) c.deref.ensures.value c.in-Some-served_on.ensures in
    let e : IsEnded c.args.core.now c.args.index = record { h = c.in-Some.circuit; left = c.left_of-left.result; here = c.in-Some.ensures.0.0; over = c.left_of-left.ensures.left } in
    let j : Joined = c.index_mut.result.now in
    let there = At-within (map joined_of ks) k s.j s.at in
    let within : k < length ks = omega (arith, there, length-map ks joined_of) in
    let at : At ks k j = found ks k j j within c.index_mut.ensures.value in
    let same : s.j ≡ joined_of j = At-one (map joined_of ks) k s.j (joined_of j) s.at (At-map joined_of ks k j at) in
    let new : Joined = c.close_server.new.joined in
    let closes : map joined_of (slice_set ks k new) ≡ slice_set (map joined_of ks) k (server_closed c.left_of-left.result s.j) =
    set-map joined_of ks k new ∙ ap (slice_set (map joined_of ks) k) (c.close_server.ensures ∙ ap (server_closed c.left_of-left.result) (sym same)) in
    inl (e, c.left_of-left.ensures.core, (Some k, (s, closes)))
