use Rattle.std.proofs.Common.{◌≡◌, ◌∙◌, false, nat_eq, sym, subst}
use Rattle.ca_search.specs.Searcher.{Searches, holds}
use Rattle.ca_search.proofs.Entries.{not-held, one-added}
use Rattle.indexmap.proofs.CallerLemmas.{insert_entry-new}
use Rattle.ca_search.proofs.searcher.Searcher.add.Goals as goal

pub returns : goal.returns
returns c =
    let s = c.self.inside in
    let free : holds c.args.cid s.places.entries ≡ false = subst (λ (t : Searches). holds c.args.cid t.channels ≡ false) (sym c.self.view_is) c.requires in
    let behind = c.in_ok-insert.ensures.entries ∙ insert_entry-new nat_eq s.places c.args.cid c.new.result (not-held c.args.cid s.places.entries free) in
    one-added c.args.self.now s.moment c.args.now c.max-now.result c.args.cid s.places.entries c.insert.new.self.entries c.args.name.now c.in_ok-name.name.items c.new.result c.self.view_is c.max-now.ensures c.new.ensures (c.in_ok-name.ensures.items ∙ c.bytes.ensures.bytes) behind
