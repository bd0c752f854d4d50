use Rattle.std.proofs.Common.{◌+◌, ◌<◌, ◌∙◌, sym, subst, ℕ, arith}
use Rattle.std.specs.Prelude.{slice_set}
use Rattle.ca_server.proofs.Finishing.{finishes}
use Rattle.ca_server.specs.Locked.{IsCounted}
use Rattle.ca_server.proofs.Counting.{any_default, counted_finish, counted_idle, credit_room, credits_of}
use Rattle.ca_server.proofs.locked.locked_finish.Goals as goal

pub overflow_add-index_mut : goal.overflow_add-index_mut
overflow_add-index_mut g c =
    let s = c.args.state.now in
    let i = c.place_of.result in
    let within = subst (λ (n : ℕ). i < n) (sym s.counted.wide) c.place_of.ensures.within in
    let v = c.index_mut.ensures.value ∙ any_default s.credits.items i c.index_mut.result.now 0 within in
    let most = credit_room s.core s.count s.book.total s.credits.items i s.counted c.place_of.ensures.within in
    omega arith

pub invariant_of-state-in-Some : goal.invariant_of-state-in-Some
invariant_of-state-in-Some g c =
    let s = c.args.state.now in
    let i = c.place_of.result in
    let d = c.in_ok-finish.ensures in
    let n = credits_of s.core c.finish.new.self c.args.name.now d.1.0.r d.1.0.named (finishes s.core c.args.name.now d.0 c.finish.new.self s.counted.most d.1) in
    let within = subst (λ (n : ℕ). i < n) (sym s.counted.wide) c.place_of.ensures.within in
    let v = c.index_mut.ensures.value ∙ any_default s.credits.items i c.index_mut.result.now 0 within in
    let k = counted_finish s.core c.finish.new.self s.count s.book.total s.credits.items _ c.in-Some.circuit i s.counted n (sym c.first_waiting-next.ensures ∙ c.in-Some.is) c.place_of.ensures.within in
    record { counted = subst (λ (n : ℕ). IsCounted c.finish.new.self s.count s.book.total (slice_set s.credits.items i (n + 1))) (sym v) k }

pub invariant_of-state-in_default : goal.invariant_of-state-in_default
invariant_of-state-in_default g c =
    let s = c.args.state.now in
    let d = c.in_ok-finish.ensures in
    let n = credits_of s.core c.finish.new.self c.args.name.now d.1.0.r d.1.0.named (finishes s.core c.args.name.now d.0 c.finish.new.self s.counted.most d.1) in
    record { counted = counted_idle s.core c.finish.new.self s.count s.book.total s.credits.items _ s.counted n (sym c.first_waiting-next.ensures ∙ c.in_default.is) }
