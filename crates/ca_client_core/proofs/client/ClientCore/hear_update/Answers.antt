use Rattle.std.proofs.Common.{◌∙◌, [], ◌∷◌, List, Option, ap, inl, inr, refl, subst, ℕ}
use Rattle.ca_arena.specs.declared.handle.Handle.{Handle}
use Rattle.ca_ids.specs.Table.{under}
use Rattle.ca_requests.specs.Meaning.{ImageMeans, message_of}
use Rattle.ca_model.specs.Answers as notice
use Rattle.ca_model.specs.Client.{Client}
use Rattle.ca_model.specs.Hears.{Updates, doing}
use Rattle.ca_client_core.specs.First.{first_on}
use Rattle.ca_client_core.proofs.Firsts.{first-some, payload-found, some-payload, whole-found}
use Rattle.ca_client_core.proofs.client.ClientCore.hear_update.Goals as goal

pub payload-requires : goal.payload-requires
payload-requires c =
    whole-found c.args.self.now c.args.circuit c.in-Some-by_handle.found.now c.args.head.now (c.in-Some-by_handle.ensures ∙ ap (λ (y : Client). under y.circuits c.args.circuit) c.self.view_is) c.requires.first

pub unreachable-requires : goal.unreachable-requires
unreachable-requires c = first-some c.args.self.now c.args.circuit c.args.head.now (c.in_default-by_handle.ensures ∙ ap (λ (y : Client). under y.circuits c.args.circuit) c.self.view_is) c.requires.first

pub returns-clause-ok : goal.returns-clause-ok
returns-clause-ok c y =
    let x = c.args.self.now in
    let h = c.args.circuit in
    let head = c.args.head.now in
    let o = c.in_ok-outcome.outcome in
    let there = c.in-Some-by_handle.ensures ∙ ap (λ (z : Client). under z.circuits h) c.self.view_is in
    let means : ImageMeans (first_on x h head) o =
    subst (λ (p : List ℕ). ImageMeans (message_of head.header p) o) (payload-found x h c.in-Some-by_handle.found.now head c.payload.result.now there c.payload.ensures) c.in_ok-outcome.ensures.ok in
    let some = some-payload x h head c.requires.first c.requires.payload in
    subst (λ (s : Option Handle). Updates y (first_on x h head) s (doing [] (notice.Update c.in-Some.subscription o ∷ []) y)) c.in-Some.ensures
    (o, inl (inr (c.requires.command, some), means), refl)
