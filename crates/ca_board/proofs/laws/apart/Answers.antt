use Rattle.std.proofs.Common.{arith, sym, ap, ◌∙◌, subst}
use Rattle.ca_board.specs.History.{Apart, Sat}
use Rattle.ca_board.specs.Views.{CallerView}
use Rattle.ca_board.proofs.Parting.{paired_as, pairs_as, separates_as, unpairs_as}
use Rattle.ca_board.proofs.laws.apart.Goals as goal

pub join_seat-requires : goal.join_seat-requires
join_seat-requires c = let z = c.board.invariant in ((ap (λ v. v.board) c.one.view_is ∙ (c.requires.one ∙ sym c.board.view_is)), (ap (λ v. v.board) c.other.view_is ∙ (c.requires.other ∙ sym c.board.view_is)), ap (λ m. m.1) c.other.invariant, omega arith, pairs_as c.one.inside.seat.me.0.caller.takes c.one.inside.seat.me.0.caller.gives c.one.inside.seat.me.0.caller.seen c.other.inside.seat.me.0.caller.takes c.other.inside.seat.me.0.caller.gives c.other.inside.seat.me.0.caller.seen _ _ _ _ c.one.invariant c.other.invariant)

pub load-requires : goal.load-requires
load-requires c = let z = c.board.invariant in (c.join_seat.ensures.0 ∙ (ap (λ v. v.board) c.one.view_is ∙ (c.requires.one ∙ sym c.board.view_is)), omega arith, separates_as c.one.inside.seat.me.0.caller.takes c.one.inside.seat.me.0.caller.gives c.one.inside.seat.me.0.caller.seen c.other.inside.seat.me.0.caller.takes c.other.inside.seat.me.0.caller.gives c.other.inside.seat.me.0.caller.seen _ _ _ _ (paired_as c.one.inside.seat.me.0.caller.takes c.one.inside.seat.me.0.caller.gives c.one.inside.seat.me.0.caller.seen c.other.inside.seat.me.0.caller.takes c.other.inside.seat.me.0.caller.gives c.other.inside.seat.me.0.caller.seen c.one.inside.seat.me c.other.inside.seat.me c.join_seat.new.seat.me c.one.invariant c.other.invariant c.join_seat.ensures.2))

pub split_seat-other-requires : goal.split_seat-other-requires
split_seat-other-requires c = let z = c.board.invariant in (c.load.ensures.0 ∙ (c.join_seat.ensures.0 ∙ (ap (λ v. v.board) c.one.view_is ∙ (c.requires.one ∙ sym c.board.view_is))), omega arith, unpairs_as c.one.inside.seat.me.0.caller.takes c.one.inside.seat.me.0.caller.gives c.one.inside.seat.me.0.caller.seen c.other.inside.seat.me.0.caller.takes c.other.inside.seat.me.0.caller.gives c.other.inside.seat.me.0.caller.seen _ _ (c.load.ensures.2.0 ∙ (paired_as c.one.inside.seat.me.0.caller.takes c.one.inside.seat.me.0.caller.gives c.one.inside.seat.me.0.caller.seen c.other.inside.seat.me.0.caller.takes c.other.inside.seat.me.0.caller.gives c.other.inside.seat.me.0.caller.seen c.one.inside.seat.me c.other.inside.seat.me c.join_seat.new.seat.me c.one.invariant c.other.invariant c.join_seat.ensures.2)))

pub returns-clause-apart : goal.returns-clause-apart
returns-clause-apart c =
    let inside : Apart c.one.inside.seat.me.0.caller.takes c.one.inside.seat.me.0.caller.gives c.other.inside.seat.me.0.caller.takes c.other.inside.seat.me.0.caller.gives = subst (λ (x : Sat). Apart x.0.one.takes x.0.one.gives x.0.other.takes x.0.other.gives) (paired_as c.one.inside.seat.me.0.caller.takes c.one.inside.seat.me.0.caller.gives c.one.inside.seat.me.0.caller.seen c.other.inside.seat.me.0.caller.takes c.other.inside.seat.me.0.caller.gives c.other.inside.seat.me.0.caller.seen c.one.inside.seat.me c.other.inside.seat.me c.join_seat.new.seat.me c.one.invariant c.other.invariant c.join_seat.ensures.2) c.load.ensures.2.1 in
    subst (λ (v : CallerView × CallerView). Apart v.0.takes v.0.gives v.1.takes v.1.gives) (λ i. (c.one.view_is i, c.other.view_is i)) inside
