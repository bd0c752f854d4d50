use Rattle.std.proofs.Common.{arith, sym, ap, ◌∙◌, subst}
use Rattle.ca_board.specs.History.{Agrees, Sat}
use Rattle.ca_board.specs.Views.{CoreView, CallerView}
use Rattle.ca_board.proofs.After.{together}
use Rattle.ca_board.proofs.Meeting.{joins_as, compares_as, parts_as}
use Rattle.ca_board.proofs.laws.met.Goals as goal

pub join_seat-requires : goal.join_seat-requires
join_seat-requires c = let z = c.board.invariant in ((ap (λ v. v.board) c.core.view_is ∙ (c.requires.core ∙ sym c.board.view_is)), (ap (λ v. v.board) c.caller.view_is ∙ (c.requires.caller ∙ sym c.board.view_is)), ap (λ m. m.1) c.caller.invariant, omega arith, joins_as _ _ _ _ _ _ _ _ _ _ _ c.core.invariant.idle c.caller.invariant)

pub load-requires : goal.load-requires
load-requires c = let z = c.board.invariant in (c.join_seat.ensures.0 ∙ (ap (λ v. v.board) c.core.view_is ∙ (c.requires.core ∙ sym c.board.view_is)), omega arith, compares_as _ _ _ _ _ _ _ _ _ _ _ (together c.core.inside.seat.me c.caller.inside.seat.me c.join_seat.new.seat.me c.core.inside.seat.me.0.core.arms c.core.inside.seat.me.0.core.fills c.caller.inside.seat.me.0.caller.takes c.caller.inside.seat.me.0.caller.gives c.core.inside.seat.me.0.core.refused c.core.inside.seat.me.0.core.recycles c.caller.inside.seat.me.0.caller.seen c.core.invariant.idle c.caller.invariant c.join_seat.ensures.2))

pub split_seat-other-requires : goal.split_seat-other-requires
split_seat-other-requires c = let z = c.board.invariant in (c.load.ensures.0 ∙ (c.join_seat.ensures.0 ∙ (ap (λ v. v.board) c.core.view_is ∙ (c.requires.core ∙ sym c.board.view_is))), omega arith, parts_as _ _ c.core.inside.seat.me.0.core.arms c.core.inside.seat.me.0.core.fills c.caller.inside.seat.me.0.caller.takes c.caller.inside.seat.me.0.caller.gives c.core.inside.seat.me.0.core.refused c.core.inside.seat.me.0.core.recycles c.caller.inside.seat.me.0.caller.seen (c.load.ensures.2.0 ∙ (together c.core.inside.seat.me c.caller.inside.seat.me c.join_seat.new.seat.me c.core.inside.seat.me.0.core.arms c.core.inside.seat.me.0.core.fills c.caller.inside.seat.me.0.caller.takes c.caller.inside.seat.me.0.caller.gives c.core.inside.seat.me.0.core.refused c.core.inside.seat.me.0.core.recycles c.caller.inside.seat.me.0.caller.seen c.core.invariant.idle c.caller.invariant c.join_seat.ensures.2)))

pub returns-clause-agree : goal.returns-clause-agree
returns-clause-agree c = let now = (together c.core.inside.seat.me c.caller.inside.seat.me c.join_seat.new.seat.me c.core.inside.seat.me.0.core.arms c.core.inside.seat.me.0.core.fills c.caller.inside.seat.me.0.caller.takes c.caller.inside.seat.me.0.caller.gives c.core.inside.seat.me.0.core.refused c.core.inside.seat.me.0.core.recycles c.caller.inside.seat.me.0.caller.seen c.core.invariant.idle c.caller.invariant c.join_seat.ensures.2) in
    let inside : Agrees c.core.inside.seat.me.0.core.fills c.caller.inside.seat.me.0.caller.takes c.caller.inside.seat.me.0.caller.gives = subst (λ (x : Sat). Agrees x.0.core.fills x.0.caller.takes x.0.caller.gives) now c.load.ensures.2.1 in
    subst (λ (v : CoreView × CallerView). Agrees v.0.fills v.1.takes v.1.gives) (λ i. (c.core.view_is i, c.caller.view_is i)) inside
