use Rattle.std.proofs.Common.{sym, ◌∙◌}
use Rattle.ca_server_subscriptions.proofs.by_record.ByRecord.take_out.Goals as goal

pub returns-clause-goes : goal.returns-clause-goes
returns-clause-goes c key at =
    let short = c.shorten.ensures key at in record {
      own = c.drop_if_empty.ensures.stay c.args.name.now ∙ short.own;
      stay = λ other miss. c.drop_if_empty.ensures.stay other ∙ short.stay other miss;
    }

pub returns-clause-gone : goal.returns-clause-gone
returns-clause-gone c none = c.drop_if_empty.ensures.gone (sym (c.drop_if_empty.ensures.stay c.args.name.now) ∙ none)
