use Rattle.std.proofs.Common.{◌∙◌, ap, subst, sym}
use Rattle.ca_search.specs.Searcher.{with_one}
use Rattle.ca_search.specs.Searches.{resumed}
use Rattle.ca_search.proofs.Entries.{none-set, one-set}
use Rattle.ca_client_tables.specs.Quiet.{AreQuiet, Kept}
use Rattle.ca_client_tables.proofs.Quieted.{quiet-zero}
use Rattle.ca_client_tables.proofs.searches.Searches.resume.Goals as goal
use Rattle.ca_client_tables.proofs.searches.Searches.resume.Goals.{in-Some, in_default}

pub invariant_of-self : goal.invariant_of-self
invariant_of-self c = elim c.match-get_mut.branch [
  | in-Some w ↦ subst (λ i. AreQuiet i.quiet i.places.entries) (sym w.self-inside-is) (quiet-zero _)
  | in_default w ↦ subst (λ i. AreQuiet i.quiet i.places.entries) (sym w.self-inside-is) (quiet-zero _)
]

pub returns : goal.returns
returns c =
    let es = c.self.inside.places.entries in
    let viewed = ap (λ (k : Kept). with_one (resumed c.args.moment) c.args.cid k.entries) c.self.view_is in
    elim c.match-get_mut.branch [
      | in-Some w ↦
          rw (w.self-inside-is)
          (one-set (resumed c.args.moment) c.args.cid es _ w.in-Some.place.now w.resume.new.self (c.get_mut.follows.holds w.resume.new.self).0 w.resume.ensures w.in-Some.ensures.value
          ∙ viewed)
      | in_default w ↦
          rw (w.self-inside-is)
          (none-set (resumed c.args.moment) c.args.cid es _ (ap (λ m. m.entries) c.get_mut.follows.holds-at-none) w.in_default.ensures.value ∙ viewed)
    ]
