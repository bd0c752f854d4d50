use Rattle.std.proofs.Common.{subst, sym}
use Rattle.ca_dbr.specs.Elements.{elements}
use Rattle.ca_events.specs.declared.event.Posting.{Posting}
use Rattle.ca_model.specs.Events as world
use Rattle.ca_text.specs.declared.refusal.Refusal.{Refusal}
use Rattle.ca_script.specs.Grammar.{Refuses}
use Rattle.ca_script.proofs.Refusals.{says-none}
use Rattle.ca_script.proofs.Sayings.{handed-on}
use Rattle.ca_world_script.specs.Events.{SaysPost}
use Rattle.ca_world_script.specs.Index.{added_of}
use Rattle.ca_world_script.proofs.ValueRefusals.{post-masked, post-said, post-unread, post-untyped}
use Rattle.ca_world_script.proofs.posts.read_post.Goals as goal

pub returns-in_err-mask-2-clause-err : goal.returns-in_err-mask-2-clause-err
returns-in_err-mask-2-clause-err c =
    let why = c.in_err-mask-2.ensures.err in
    handed-on c.from_residual-in_err-mask-2.result c.in_err-mask-2.field-0.0 (λ (e : Refusal). Refuses (SaysPost c.args.servers.now (added_of c.args.types.now) c.args.words) e) c.from_residual-in_err-mask-2.ensures.1
    (says-none (SaysPost c.args.servers.now (added_of c.args.types.now) c.args.words) _ why.0
    (post-masked c.args.words _ _ _ _ _ _ c.args.servers.now (added_of c.args.types.now) c.in_ok-server.ensures.ok c.in_ok-name.ensures.ok.0 c.in_ok-mask.ensures.ok why.1))

pub returns-in_err-base-clause-err : goal.returns-in_err-base-clause-err
returns-in_err-base-clause-err c =
    handed-on c.from_residual-in_err-base.result c.in_err-base.field-0.0 (λ (e : Refusal). Refuses (SaysPost c.args.servers.now (added_of c.args.types.now) c.args.words) e) c.from_residual-in_err-base.ensures.1
    (post-untyped c.args.words _ _ _ _ _ _ c.args.servers.now (added_of c.args.types.now) c.in_err-base.field-0.0 c.in_ok-server.ensures.ok c.in_ok-name.ensures.ok.0 c.in_ok-mask.ensures.ok c.in_err-base.ensures.err)

pub returns-in_err-value-clause-err : goal.returns-in_err-value-clause-err
returns-in_err-value-clause-err c =
    handed-on c.from_residual-in_err-value.result c.in_err-value.field-0.0 (λ (e : Refusal). Refuses (SaysPost c.args.servers.now (added_of c.args.types.now) c.args.words) e) c.from_residual-in_err-value.ensures.1
    (post-unread c.args.words _ _ _ _ _ _ c.args.servers.now (added_of c.args.types.now) c.in_ok-base.base c.in_err-value.field-0.0 c.in_ok-server.ensures.ok c.in_ok-name.ensures.ok.0 c.in_ok-mask.ensures.ok c.in_ok-base.ensures.only c.in_err-value.ensures.err)

pub returns-clause-ok : goal.returns-clause-ok
returns-clause-ok c =
    subst (λ (p : Posting). SaysPost c.args.servers.now (added_of c.args.types.now) c.args.words (world.Post p.server p.name.items (elements p.value) p.mask)) (sym c.in_ok-boxed.ensures.ok)
    (post-said c.args.words _ _ _ c.in_ok-name.name.now c.in_ok-name-2.name.items c.in_ok-server.server c.in_ok-mask.mask c.in_ok-mask-2.mask c.args.servers.now (added_of c.args.types.now) c.in_ok-base.base (elements c.in_ok-value.value) c.in_ok-server.ensures.ok c.in_ok-name.ensures.ok c.in_ok-mask.ensures.ok c.in_ok-mask-2.ensures.ok c.in_ok-base.ensures.ok c.in_ok-value.ensures.base c.in_ok-value.ensures.ok c.in_ok-name-2.ensures.items)
