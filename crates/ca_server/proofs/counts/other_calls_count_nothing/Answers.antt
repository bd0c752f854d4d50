use Rattle.ca_server.proofs.CountedCalls.{accepts, adds, beacons, cuts, gives, hands, posts, pumps, removes, sends, stamps}
use Rattle.ca_server.proofs.counts.other_calls_count_nothing.Goals as goal

pub returns : goal.returns
returns c = record {
  accepts = accepts;
  gives = gives;
  sends = sends;
  hands = hands;
  cuts = cuts;
  pumps = pumps;
  stamps = stamps;
  beacons = beacons;
  posts = posts;
  removes = removes;
  adds = adds;
}
