use Rattle.std.proofs.Common.{◌≡◌, ℕ, ◌+◌, List, length, map, refl, sym, subst, arith}
use Rattle.ca_client_core.specs.ForHistories.{sending_of}
use Rattle.ca_text.specs.Place.{At}
use Rattle.ca_text.proofs.Places.{At-map}
use Rattle.ca_model.specs.Answers.{Sending}
use Rattle.ca_model.specs.Answers as answer
use Rattle.ca_model.specs.World as model
use Rattle.ca_world_data.specs.declared.joined.Joined.{Joined}
use Rattle.ca_world_data.specs.ClientSteps.{LeavesStepped}
use Rattle.ca_world_data.specs.Found.{AreNumbered}
use Rattle.ca_world_data.specs.Logs.{lines_in}
use Rattle.ca_world_data.specs.Seen.{client_of, joined_of}
use Rattle.ca_world_data.proofs.Steppings.{as-many, as-many-circuits, room-told, stepped-on}
use Rattle.ca_world_data.proofs.Worlds.{found}
use Rattle.ca_world_data.proofs.stepping.step_client.Goals as goal

pub index-requires : goal.index-requires
index-requires c =
    let within = as-many-circuits c.args.circuits.now.items c.prepare_step.new.circuits.items c.args.circuit c.prepare_step.ensures.circuits c.requires.there in
    omega (arith, within)

pub hear-requires-clause-there : goal.hear-requires-clause-there
hear-requires-clause-there c = as-many-circuits c.args.circuits.now.items c.prepare_step.new.circuits.items c.args.circuit c.prepare_step.ensures.circuits c.requires.there

pub hear-requires-clause-numbered : goal.hear-requires-clause-numbered
hear-requires-clause-numbered c = subst (λ (z : List model.Joined). AreNumbered c.args.side.now.circuits.items z c.args.client) (sym c.prepare_step.ensures.circuits) c.requires.numbered

pub hear-requires-clause-lives : goal.hear-requires-clause-lives
hear-requires-clause-lives c = as-many c.args.logs.now.items c.prepare_step.new.logs.items c.args.side.now.life c.prepare_step.ensures.logs c.requires.lives

pub hear-requires-clause-meant : goal.hear-requires-clause-meant
hear-requires-clause-meant c = c.requires.meant

pub hear-requires-clause-lines : goal.hear-requires-clause-lines
hear-requires-clause-lines c =
    let k : ℕ = c.args.circuit in
    let made : List Joined = c.prepare_step.new.circuits.items in
    let j : Joined = c.index.result.now in
    let within = as-many-circuits c.args.circuits.now.items made k c.prepare_step.ensures.circuits c.requires.there in
    let at : At (map joined_of made) k (joined_of j) = At-map joined_of made k j (found made k j j within c.index.ensures) in
    room-told (length c.args.side.now.names.requests.items + length c.args.side.now.names.channels.items + 1) k (client_of c.args.side.now) (map joined_of c.args.circuits.now.items) (map joined_of made) (joined_of j)
    (answer.Notices c.in-Notices.notices) c.in-Notices.ensures.0 c.step.new.self c.args.side.now.life c.prepare_step.new.logs.items at c.prepare_step.ensures.circuits c.requires.few c.in-Notices.ensures.1
    (λ log there. (let r = c.in_ok-sent.ensures.ready.logs_room log there in omega (arith, r, c.len.ensures, c.len-2.ensures)))

pub hear-requires-clause-messages : goal.hear-requires-clause-messages
hear-requires-clause-messages c = c.in_ok-sent.ensures.ready.messages

pub hear-requires-clause-heard : goal.hear-requires-clause-heard
hear-requires-clause-heard c = c.in_ok-sent.ensures.ready.heard

pub end-requires-clause-there : goal.end-requires-clause-there
end-requires-clause-there c = as-many-circuits c.args.circuits.now.items c.prepare_step.new.circuits.items c.args.circuit c.prepare_step.ensures.circuits c.requires.there

pub end-requires-clause-lines : goal.end-requires-clause-lines
end-requires-clause-lines c =
    let k : ℕ = c.args.circuit in
    let made : List Joined = c.prepare_step.new.circuits.items in
    let j : Joined = c.index.result.now in
    let within = as-many-circuits c.args.circuits.now.items made k c.prepare_step.ensures.circuits c.requires.there in
    let at : At (map joined_of made) k (joined_of j) = At-map joined_of made k j (found made k j j within c.index.ensures) in
    room-told (length c.args.side.now.names.requests.items + length c.args.side.now.names.channels.items + 1) k (client_of c.args.side.now) (map joined_of c.args.circuits.now.items) (map joined_of made) (joined_of j)
    (answer.Closed c.in-Closed.closing) c.in-Closed.ensures.0 c.step.new.self c.args.side.now.life c.prepare_step.new.logs.items at c.prepare_step.ensures.circuits c.requires.few c.in-Closed.ensures.1
    (λ log there. (let r = c.in_ok-sent.ensures.ready.logs_room log there in omega (arith, r, c.len.ensures, c.len-2.ensures)))

pub returns-in-NeedBytes-clause-steps : goal.returns-in-NeedBytes-clause-steps
returns-in-NeedBytes-clause-steps c =
    let k : ℕ = c.args.circuit in
    let x : model.ClientSide = client_of c.args.side.now in
    let made : List Joined = c.prepare_step.new.circuits.items in
    let mid = lines_in c.prepare_step.new.logs.items in
    let j : Joined = c.index.result.now in
    let within = as-many-circuits c.args.circuits.now.items made k c.prepare_step.ensures.circuits c.requires.there in
    let at : At (map joined_of made) k (joined_of j) = At-map joined_of made k j (found made k j j within c.index.ensures) in
    stepped-on c.args.client k x (record x { core = c.step.new.self }) (lines_in c.args.logs.now.items) mid mid (map joined_of c.args.circuits.now.items) (map joined_of made) (map joined_of made) (joined_of j)
    answer.NeedBytes c.in-NeedBytes.ensures.0 tt at c.prepare_step.ensures.logs c.prepare_step.ensures.circuits c.in-NeedBytes.ensures.1 refl (refl, refl)

pub returns-in-Notices-clause-steps : goal.returns-in-Notices-clause-steps
returns-in-Notices-clause-steps c =
    let i : ℕ = c.args.client in
    let k : ℕ = c.args.circuit in
    let x : model.ClientSide = client_of c.args.side.now in
    let made : List Joined = c.prepare_step.new.circuits.items in
    let mid = lines_in c.prepare_step.new.logs.items in
    let logs = lines_in c.hear.new.logs.items in
    let circuits = map joined_of c.hear.new.circuits.items in
    let j : Joined = c.index.result.now in
    let within = as-many-circuits c.args.circuits.now.items made k c.prepare_step.ensures.circuits c.requires.there in
    let here : At made k j = found made k j j within c.index.ensures in
    let at : At (map joined_of made) k (joined_of j) = At-map joined_of made k j here in
    let sent : List Sending = c.in-Notices.ensures.0 in
    let foretold : sent ≡ map sending_of c.in_ok-sent.sent.items = c.in_ok-sent.ensures.ready.foretold j here c.in-Notices.notices sent c.step.new.self c.in-Notices.ensures.1 in
    let leaves : LeavesStepped i k (joined_of j) x (answer.Notices c.in-Notices.notices) sent mid (map joined_of made) logs circuits =
    subst (λ (z : List Sending). LeavesStepped i k (joined_of j) x (answer.Notices c.in-Notices.notices) z mid (map joined_of made) logs circuits) (sym foretold) (c.hear.ensures (joined_of j) at) in
    stepped-on i k x (record x { core = c.step.new.self }) (lines_in c.args.logs.now.items) mid logs (map joined_of c.args.circuits.now.items) (map joined_of made) circuits (joined_of j)
    (answer.Notices c.in-Notices.notices) sent tt at c.prepare_step.ensures.logs c.prepare_step.ensures.circuits c.in-Notices.ensures.1 refl leaves

pub returns-in-Closed-clause-steps : goal.returns-in-Closed-clause-steps
returns-in-Closed-clause-steps c =
    let i : ℕ = c.args.client in
    let k : ℕ = c.args.circuit in
    let x : model.ClientSide = client_of c.args.side.now in
    let made : List Joined = c.prepare_step.new.circuits.items in
    let mid = lines_in c.prepare_step.new.logs.items in
    let logs = lines_in c.end.new.logs.items in
    let circuits = map joined_of c.end.new.circuits.items in
    let j : Joined = c.index.result.now in
    let within = as-many-circuits c.args.circuits.now.items made k c.prepare_step.ensures.circuits c.requires.there in
    let at : At (map joined_of made) k (joined_of j) = At-map joined_of made k j (found made k j j within c.index.ensures) in
    let ends = c.end.ensures (joined_of j) at in
    stepped-on i k x (record x { core = c.step.new.self }) (lines_in c.args.logs.now.items) mid logs (map joined_of c.args.circuits.now.items) (map joined_of made) circuits (joined_of j)
    (answer.Closed c.in-Closed.closing) c.in-Closed.ensures.0 tt at c.prepare_step.ensures.logs c.prepare_step.ensures.circuits c.in-Closed.ensures.1 refl (ends.0, ends.1)
