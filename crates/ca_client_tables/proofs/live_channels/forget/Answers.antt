use Rattle.std.proofs.Common.{List, rules, subst, sym}
use Rattle.std.proofs.lemmas.Fn.{dedup_same, filter_same}
use Rattle.ca_arena.specs.declared.handle.Handle.{Handle}
use Rattle.ca_ids.specs.Table.{same_handle}
use Rattle.ca_client_tables.specs.Listed.{Has, is_live_in}
use Rattle.ca_client_tables.proofs.Listing.{has-moved, has-once, keeps-kept}
use Rattle.ca_client_tables.proofs.live_channels.forget.Goals as goal

pub returns : goal.returns
returns c =
    let kept = filter_same _ (is_live_in c.args.channels.now) _ (λ x b f' k. search rules) _ _ c.retain.ensures.filtered in
    let once = dedup_same _ same_handle _ (λ x y b f' x' y' k. search rules) _ _ c.dedup_by.ensures.filtered in
    λ h live has. subst (λ (xs : List Handle). Has xs h) (sym once) (has-once _ h (has-moved _ _ h c.sort_unstable_by_key.ensures.permutation (keeps-kept c.args.channels.now _ _ kept h live has)))
