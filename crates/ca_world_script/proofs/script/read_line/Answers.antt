use Rattle.std.specs.Prelude.{codes}
use Rattle.std.proofs.Common.{◌∙◌, List, inl, inr, sym, subst, rules}
use Rattle.ca_model.specs.World.{ServerSetting}
use Rattle.ca_world_script.specs.Events.{SaysPost}
use Rattle.ca_text.specs.declared.refusal.Refusal.{Refusal}
use Rattle.ca_script.specs.Grammar.{Refuses, parted}
use Rattle.ca_script.proofs.Leading.{kind-refused}
use Rattle.ca_script.proofs.Sayings.{handed-on}
use Rattle.ca_world_script.specs.Scripts.{Adds, AddsAdd, AddsClient, AddsServer, reading}
use Rattle.ca_world_script.specs.Index.{added_of}
use Rattle.ca_world_script.proofs.LineKinds.{line-refused, of-add, of-client, of-server, post-refused, to-refused}
use Rattle.ca_world_script.proofs.ServerLines.{as-client, as-server, kind-taken, to-taken}
use Rattle.ca_world_script.proofs.script.read_line.Goals as goal

pub returns-in_err-first-clause-err : goal.returns-in_err-first-clause-err
returns-in_err-first-clause-err c =
    let old = reading c.args.script.now (added_of c.args.types.now) in
    handed-on c.from_residual.result c.in_err-first.field-0.0 (λ (e : Refusal). Refuses (Adds old (parted 32 c.args.line.now)) e) c.from_residual.ensures.1
    (line-refused old (parted 32 c.args.line.now) c.in_err-first.field-0.0 (c.in_err-first.ensures.err.0, λ w ws e long. c.in_err-first.ensures.err.1 w ws (c.new-words.ensures ∙ e) long))

pub returns-then-is_word-clause-err : goal.returns-then-is_word-clause-err
returns-then-is_word-clause-err c =
    kind-refused Adds AddsClient (codes "client") of-client c.add_client.result (reading c.args.script.now (added_of c.args.types.now)) (parted 32 c.args.line.now) _ c.in_ok-first.first.now (sym c.new-words.ensures ∙ c.in_ok-first.ensures.ok.0) (search rules) (c.add_client.ensures.err (added_of c.args.types.now))

pub returns-then-is_word-2-clause-err : goal.returns-then-is_word-2-clause-err
returns-then-is_word-2-clause-err c =
    kind-refused Adds AddsServer (codes "server") of-server c.add_server.result (reading c.args.script.now (added_of c.args.types.now)) (parted 32 c.args.line.now) _ c.in_ok-first.first.now (sym c.new-words.ensures ∙ c.in_ok-first.ensures.ok.0) (search rules) (c.add_server.ensures.err (added_of c.args.types.now))

pub returns-then-is_word-clause-ok : goal.returns-then-is_word-clause-ok
returns-then-is_word-clause-ok c =
    kind-taken AddsClient (codes "client") as-client c.add_client.result (reading c.args.script.now (added_of c.args.types.now)) _ (parted 32 c.args.line.now) _ c.in_ok-first.first.now (sym c.new-words.ensures ∙ c.in_ok-first.ensures.ok.0) (search rules) (c.add_client.ensures.ok (added_of c.args.types.now))

pub returns-then-is_word-2-clause-ok : goal.returns-then-is_word-2-clause-ok
returns-then-is_word-2-clause-ok c =
    kind-taken AddsServer (codes "server") as-server c.add_server.result (reading c.args.script.now (added_of c.args.types.now)) _ (parted 32 c.args.line.now) _ c.in_ok-first.first.now (sym c.new-words.ensures ∙ c.in_ok-first.ensures.ok.0) (search rules) (c.add_server.ensures.ok (added_of c.args.types.now))

pub returns-then-is_word-3-clause-ok : goal.returns-then-is_word-3-clause-ok
returns-then-is_word-3-clause-ok c = to-taken c.add_to.result (reading c.args.script.now (added_of c.args.types.now)) _ (parted 32 c.args.line.now) (c.add_to.ensures.ok (added_of c.args.types.now))

pub returns-then-is_word-3-clause-err : goal.returns-then-is_word-3-clause-err
returns-then-is_word-3-clause-err c =
    to-refused c.add_to.result (reading c.args.script.now (added_of c.args.types.now)) (parted 32 c.args.line.now) _ c.in_ok-first.first.now (sym c.new-words.ensures ∙ c.in_ok-first.ensures.ok.0) (inl (search rules)) (c.add_to.ensures.err (added_of c.args.types.now))

pub returns-then-is_word-4-clause-ok : goal.returns-then-is_word-4-clause-ok
returns-then-is_word-4-clause-ok c = to-taken c.add_to-then-is_word-4.result (reading c.args.script.now (added_of c.args.types.now)) _ (parted 32 c.args.line.now) (c.add_to-then-is_word-4.ensures.ok (added_of c.args.types.now))

pub returns-then-is_word-4-clause-err : goal.returns-then-is_word-4-clause-err
returns-then-is_word-4-clause-err c =
    to-refused c.add_to-then-is_word-4.result (reading c.args.script.now (added_of c.args.types.now)) (parted 32 c.args.line.now) _ c.in_ok-first.first.now (sym c.new-words.ensures ∙ c.in_ok-first.ensures.ok.0) (inr (search rules)) (c.add_to-then-is_word-4.ensures.err (added_of c.args.types.now))

pub returns-in_err-event-2-clause-err : goal.returns-in_err-event-2-clause-err
returns-in_err-event-2-clause-err c =
    handed-on c.from_residual-in_err-event-2.result c.in_err-event-2.field-0.0 (λ (e : Refusal). Refuses (Adds (reading c.args.script.now (added_of c.args.types.now)) (parted 32 c.args.line.now)) e) c.from_residual-in_err-event-2.ensures.1
    (post-refused (reading c.args.script.now (added_of c.args.types.now)) (parted 32 c.args.line.now) _ c.in_ok-first.first.now c.in_err-event-2.field-0.0 (sym c.new-words.ensures ∙ c.in_ok-first.ensures.ok.0) (search rules)
    (subst (λ (ys : List ServerSetting). Refuses (SaysPost ys (added_of c.args.types.now) c.word.new.self) c.in_err-event-2.field-0.0) c.deref.ensures.value c.in_err-event-2.ensures.err))

pub returns-then-is_word-6-clause-err : goal.returns-then-is_word-6-clause-err
returns-then-is_word-6-clause-err c =
    kind-refused Adds AddsAdd (codes "add") of-add c.add_addition.result (reading c.args.script.now (added_of c.args.types.now)) (parted 32 c.args.line.now) _ c.in_ok-first.first.now (sym c.new-words.ensures ∙ c.in_ok-first.ensures.ok.0) (search rules) c.add_addition.ensures.err
