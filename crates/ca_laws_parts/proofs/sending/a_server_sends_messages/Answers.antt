use Rattle.ca_laws_parts.proofs.BytesServerCalls.{accepts-fits, adds-fits, begins-fits, closed-fits, cuts-fits, finishes-fits, gives-fits, left-fits, next-fits, posts-fits, pumps-fits, reaches-fits, removed-good, removes-fits, sends-fits}
use Rattle.ca_laws_parts.proofs.sending.a_server_sends_messages.Goals as goal

pub returns : goal.returns
returns c = record {
  begins = begins-fits;
  accepts = accepts-fits;
  gives = gives-fits;
  sends = sends-fits;
  cuts = cuts-fits;
  takes = λ y h e n gone new has f reaches. (let r = next-fits y h e has f n in (r.0, reaches-fits n.action gone n.after new r.1 reaches r.2));
  closes = λ y h e n written new has f left. closed-fits h new (left-fits y h e has f n written new left);
  pumps = pumps-fits;
  posts = posts-fits;
  finishes = finishes-fits;
  removes = removes-fits;
  disconnects = removed-good;
  adds = adds-fits;
}
