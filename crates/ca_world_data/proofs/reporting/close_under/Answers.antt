use Rattle.std.proofs.Common.{◌≡◌, ℕ, ◌<◌, List, length, map, sym, ap, subst, ◌∙◌, arith}
use Rattle.std.specs.Prelude.{slice_set}
use Rattle.std.proofs.lemmas.List.{length-map}
use Rattle.ca_text.specs.Place.{At}
use Rattle.ca_text.proofs.Places.{At-map, At-one, At-within}
use Rattle.ca_model.specs.ServerEvents.{server_closed}
use Rattle.ca_world_data.specs.declared.joined.Joined.{Joined}
use Rattle.ca_world_data.specs.Reporting.{IsServed, IsUnserved}
use Rattle.ca_world_data.specs.Seen.{joined_of}
use Rattle.ca_world_data.proofs.Worlds.{found, set-map}
use Rattle.ca_world_data.proofs.EndsUnder.{closed-none, closed-one}
use Rattle.ca_world_data.proofs.reporting.close_under.Goals as goal

pub returns-in_default : goal.returns-in_default
returns-in_default c =
    let none : IsUnserved (map joined_of c.args.circuits.now.items) c.args.server c.args.handle =
    subst (λ (ks : List Joined). IsUnserved (map joined_of ks) c.args.server c.args.handle) c.deref.ensures.value c.in_default.ensures in
    sym (closed-none c.args.handle c.args.server c.args.left (map joined_of c.args.circuits.now.items) none)

pub index_mut-requires : goal.index_mut-requires
index_mut-requires c =
    let ks : List Joined = c.args.circuits.now.items in
    let s : IsServed (map joined_of ks) c.args.server c.args.handle c.in-Some.number =
    subst (λ (ls : List Joined). IsServed (map joined_of ls) c.args.server c.args.handle c.in-Some.number) c.deref.ensures.value c.in-Some.ensures in
    let within : c.in-Some.number < length (map joined_of ks) = At-within (map joined_of ks) c.in-Some.number s.j s.at in
    omega (arith, within, length-map ks joined_of)

pub returns : goal.returns
returns c =
    let ks : List Joined = c.args.circuits.now.items in
    let k : ℕ = c.in-Some.number in
    let s : IsServed (map joined_of ks) c.args.server c.args.handle k =
    subst (λ (ls : List Joined). IsServed (map joined_of ls) c.args.server c.args.handle k) c.deref.ensures.value c.in-Some.ensures in
    let j : Joined = c.index_mut.result.now in
    let there = At-within (map joined_of ks) k s.j s.at in
    let within : k < length ks = omega (arith, there, length-map ks joined_of) in
    let at : At ks k j = found ks k j j within c.index_mut.ensures.value in
    let same : s.j ≡ joined_of j = At-one (map joined_of ks) k s.j (joined_of j) s.at (At-map joined_of ks k j at) in
    let new : Joined = c.close_server.new.joined in
    set-map joined_of ks k new ∙ ap (slice_set (map joined_of ks) k) (c.close_server.ensures ∙ ap (server_closed c.args.left) (sym same))
    ∙ closed-one c.args.handle c.args.server c.args.left c.args.numbers.now (map joined_of ks) c.requires k s
