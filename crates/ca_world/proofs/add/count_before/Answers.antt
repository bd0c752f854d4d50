use Rattle.std.proofs.Common.{◌≡◌, ◌∙◌, ℕ, true, false, List, ap, map, subst, sym, arith}
use Rattle.std.proofs.lemmas.List.{length-map}
use Rattle.ca_text.specs.Place.{At}
use Rattle.ca_text.proofs.Places.{At-map}
use Rattle.ca_server_core.specs.ForHistories.{ComesBefore}
use Rattle.ca_world_data.specs.declared.server.RecordSide.{RecordSide}
use Rattle.ca_world_data.specs.Seen.{record_of}
use Rattle.ca_world_data.proofs.Worlds.{found}
use Rattle.ca_world.proofs.Additions.{count-all, count-at, count-on}
use Rattle.ca_world.proofs.add.count_before.Goals as goal

pub returns-then-not-comes_before-clause-counts : goal.returns-then-not-comes_before-clause-counts
returns-then-not-comes_before-clause-counts c n s =
    let cs = c.args.core.now.records in
    let rs : List RecordSide = c.args.records.now in
    let k : ℕ = c.loop-place.place in
    let q : RecordSide = c.index-records-place.result in
    let at : At rs k q = found rs k q q (omega (arith, c.loop-place-test.true)) c.index-records-place.is in
    let before : ComesBefore cs q.name.items c.args.name.now false = subst (λ (z : List ℕ). ComesBefore cs z c.args.name.now false) (c.deref.ensures.value ∙ ap (λ (z : RecordSide). z.name.items) (sym c.index-records-place.is)) c.if-not-comes_before.ensures in
    count-at n cs (map record_of rs) c.args.name.now s k (record_of q) (c.loop-place.invariant.before n s) (At-map record_of rs k q at) before

pub loop-place-preserved : goal.loop-place-preserved
loop-place-preserved c = record {
  before = λ n s.
      (let cs = c.args.core.now.records in
      let rs : List RecordSide = c.args.records.now in
      let k : ℕ = c.loop-place.place in
      let q : RecordSide = c.index-records-place.result in
      let at : At rs k q = found rs k q q (omega (arith, c.loop-place-test.true)) c.index-records-place.is in
      let before : ComesBefore cs q.name.items c.args.name.now true = subst (λ (z : List ℕ). ComesBefore cs z c.args.name.now true) (c.deref.ensures.value ∙ ap (λ (z : RecordSide). z.name.items) (sym c.index-records-place.is)) c.if-not-comes_before.ensures in
      let more = count-on n cs (map record_of rs) c.args.name.now s k (record_of q) (c.loop-place.invariant.before n s) (At-map record_of rs k q at) before in
      omega (arith, more));
}

pub returns-clause-counts : goal.returns-clause-counts
returns-clause-counts c n s =
    let rs : List RecordSide = c.args.records.now in
    let k : ℕ = c.loop-place.place in
    let all : k ≡ n = count-all n c.args.core.now.records (map record_of rs) c.args.name.now s k (c.loop-place.invariant.before n s) (let same = length-map rs record_of in let over = c.loop-place-test.false in omega (arith, same, over)) in
    let end = c.loop-place.auto.place-end in
    omega (arith, all, end, c.loop-place-test.false)
