use Rattle.std.proofs.Common.{◌≡◌, ℕ, ◌<◌, List, ap, arith, length, map, subst, sym, ◌∙◌}
use Rattle.std.specs.Prelude.{Vec}
use Rattle.std.specs.declared.alloc.Global.{Global}
use Rattle.std.proofs.lemmas.List.{length-map}
use Rattle.ca_client_core.specs.ForHistories.{sending_of}
use Rattle.ca_text.specs.Place.{At}
use Rattle.ca_text.proofs.Places.{At-map, At-one}
use Rattle.ca_model.specs.ClientEvents.{about_at}
use Rattle.ca_model.specs.World.{log_length}
use Rattle.ca_model.specs.World as model
use Rattle.ca_world_data.specs.declared.history.Line.{Line}
use Rattle.ca_world_data.specs.declared.joined.Joined.{Joined}
use Rattle.ca_world_data.specs.ClientSteps.{IsHeard, step_at}
use Rattle.ca_world_data.specs.Found.{AreNumbered}
use Rattle.ca_world_data.specs.Logs.{lines_in}
use Rattle.ca_world_data.specs.Seen.{client_of, intent_of, joined_of, line_of}
use Rattle.ca_world_data.proofs.Steppings.{all-kept, heard-at, heard-leaves, heard-numbered}
use Rattle.ca_world_data.proofs.Worlds.{found}
use Rattle.ca_world_data.proofs.stepping.hear.Goals as goal

pub push_sendings-requires-clause-numbered : goal.push_sendings-requires-clause-numbered
push_sendings-requires-clause-numbered c =
    let k : ℕ = c.args.circuit in
    let ks : List Joined = c.args.circuits.now.items in
    let j : Joined = c.index.result.now in
    let at : At (map joined_of ks) k (joined_of j) = At-map joined_of ks k j (found ks k j j c.requires.there c.index.ensures) in
    let mid = map joined_of c.note_client_step.new.circuits.items in
    let heard : IsHeard k c.lines_logged-logged.result c.lines_logged-after.result (map joined_of ks) mid = c.note_client_step.ensures.heard in
    subst (λ (z : List ℕ). AreNumbered z mid c.args.client) (sym c.deref-3.ensures.value)
    (heard-numbered (map joined_of ks) mid k (step_at (joined_of j) c.lines_logged-logged.result c.lines_logged-after.result) (joined_of j) at (heard (joined_of j) at) c.args.side.now.circuits.items c.args.client c.requires.numbered)

pub push_sendings-requires-clause-room : goal.push_sendings-requires-clause-room
push_sendings-requires-clause-room c =
    let k : ℕ = c.args.circuit in
    let ks : List Joined = c.args.circuits.now.items in
    let j : Joined = c.index.result.now in
    let at : At (map joined_of ks) k (joined_of j) = At-map joined_of ks k j (found ks k j j c.requires.there c.index.ensures) in
    let mid = map joined_of c.note_client_step.new.circuits.items in
    let heard : IsHeard k c.lines_logged-logged.result c.lines_logged-after.result (map joined_of ks) mid = c.note_client_step.ensures.heard in
    all-kept c.args.client c.args.sent.items ks c.note_client_step.new.circuits.items
    (heard-at (map joined_of ks) mid k (step_at (joined_of j) c.lines_logged-logged.result c.lines_logged-after.result) (joined_of j) at (heard (joined_of j) at) c.args.client)
    c.note_client_step.ensures.keeps
    c.requires.messages

pub returns : goal.returns
returns c =
    let i : ℕ = c.args.client in
    let k : ℕ = c.args.circuit in
    let x : model.ClientSide = client_of c.args.side.now in
    let ks : List Joined = c.args.circuits.now.items in
    let seen : List model.Joined = map joined_of ks in
    let j : Joined = c.index.result.now in
    let at : At seen k (joined_of j) = At-map joined_of ks k j (found ks k j j c.requires.there c.index.ensures) in
    let was = subst (λ (z : List (Vec Line Global)). c.lines_logged-logged.result ≡ log_length c.args.side.now.life (lines_in z)) c.deref.ensures.value c.lines_logged-logged.ensures in
    let now = subst (λ (z : List (Vec Line Global)). c.lines_logged-after.result ≡ log_length c.args.side.now.life (lines_in z)) c.deref-2.ensures.value c.lines_logged-after.ensures in
    let many = length-map c.args.logs.now.items (λ (l : Vec Line Global). map line_of l.items) in
    let lives = c.requires.lives in
    let within : c.args.side.now.life < length (lines_in c.args.logs.now.items) = omega (arith, lives, many) in
    λ d there.
    (let is : joined_of j ≡ d = At-one seen k (joined_of j) d at there in
    let meant : intent_of c.about_next-about.result ≡ about_at d.lists (length d.lists.heard) =
    c.about_next-about.ensures ∙ ap (λ (z : model.Joined). about_at z.lists (length z.lists.heard)) is in
    heard-leaves i k x d c.args.notices (map sending_of c.args.sent.items) (lines_in c.args.logs.now.items) (lines_in c.tell_about.new.logs.items) seen (map joined_of c.note_client_step.new.circuits.items) (map joined_of c.push_sendings.new.circuits.items)
    (intent_of c.about_next-about.result) c.lines_logged-logged.result c.lines_logged-after.result there meant was c.tell_about.ensures now within c.note_client_step.ensures.heard c.push_sendings.ensures)
