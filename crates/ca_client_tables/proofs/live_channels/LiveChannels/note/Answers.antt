use Rattle.std.proofs.Common.{List, [], ◌∷◌, subst, sym}
use Rattle.ca_arena.specs.declared.handle.Handle.{Handle}
use Rattle.ca_client_tables.specs.Listed.{Has}
use Rattle.ca_client_tables.proofs.Listing.{has-last, has-more}
use Rattle.ca_client_tables.proofs.live_channels.LiveChannels.note.Goals as goal

pub returns-clause-kept : goal.returns-clause-kept
returns-clause-kept c = λ h live has.
    subst (λ (xs : List Handle). Has xs h) (sym c.in_ok-push.ensures.items)
    (has-more c.self.inside.listed.items (c.args.channel ∷ []) h (subst (λ (xs : List Handle). Has xs h) (sym c.self.view_is) (c.tidy.ensures h live has)))

pub returns-clause-own : goal.returns-clause-own
returns-clause-own c = subst (λ (xs : List Handle). Has xs c.args.channel) (sym c.in_ok-push.ensures.items) (has-last c.self.inside.listed.items c.args.channel)
