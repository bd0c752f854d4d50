use Rattle.std.proofs.Common.{◌≡◌, ◌∙◌, ℕ, ap, subst, sym}
use Rattle.ca_ids.specs.Wire.{wire_of}
use Rattle.ca_search.specs.Searcher.{with_one}
use Rattle.ca_search.specs.Searches.{paused}
use Rattle.ca_search.proofs.Entries.{none-set, one-set}
use Rattle.ca_client_tables.specs.Quiet.{AreQuiet, Kept}
use Rattle.ca_client_tables.proofs.Quieted.{quiet-paused}
use Rattle.ca_client_tables.proofs.searches.Searches.pause.Goals as goal
use Rattle.ca_client_tables.proofs.searches.Searches.pause.Goals.{in-Some, in_default}

pub invariant_of-self : goal.invariant_of-self
invariant_of-self c =
    let s = c.self.inside in
    let es = s.places.entries in
    let cid = c.number.result in
    elim c.match-get_mut.branch [
      | in-Some w ↦
          subst (λ i. AreQuiet i.quiet i.places.entries) (sym w.self-inside-is)
          (subst (AreQuiet s.quiet) (sym (one-set paused cid es _ w.in-Some.place.now w.pause.new.self (c.get_mut.follows.holds w.pause.new.self).0 w.pause.ensures w.in-Some.ensures.value))
          (quiet-paused s.quiet cid es c.self.invariant))
      | in_default w ↦
          subst (λ i. AreQuiet i.quiet i.places.entries) (sym w.self-inside-is)
          (subst (AreQuiet s.quiet) (sym (ap (λ m. m.entries) c.get_mut.follows.holds-at-none)) c.self.invariant)
    ]

pub returns : goal.returns
returns c =
    let es = c.self.inside.places.entries in
    let cid : c.number.result ≡ wire_of c.args.channel = c.number.ensures ∙ c.of.ensures in
    let viewed =
    ap (λ (n : ℕ). with_one paused n es) cid ∙ ap (λ (k : Kept). with_one paused (wire_of c.args.channel) k.entries) c.self.view_is in
    elim c.match-get_mut.branch [
      | in-Some w ↦
          rw (w.self-inside-is)
          (one-set paused c.number.result es _ w.in-Some.place.now w.pause.new.self (c.get_mut.follows.holds w.pause.new.self).0 w.pause.ensures w.in-Some.ensures.value
          ∙ viewed)
      | in_default w ↦
          rw (w.self-inside-is)
          (none-set paused c.number.result es _ (ap (λ m. m.entries) c.get_mut.follows.holds-at-none) w.in_default.ensures.value ∙ viewed)
    ]
