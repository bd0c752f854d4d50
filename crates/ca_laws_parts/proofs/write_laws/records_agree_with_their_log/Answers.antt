use Rattle.ca_laws_parts.specs.Lives.{CameOn, IsPutOf, LostOn}
use Rattle.ca_laws_parts.specs.Agrees.{Agrees}
use Rattle.ca_laws_parts.proofs.WritesLists.{both-at}
use Rattle.ca_laws_parts.proofs.Now.{has-name, is-now}
use Rattle.ca_laws_parts.proofs.Coming.{agree-added, agree-begun, agree-removed}
use Rattle.ca_laws_parts.proofs.WritesFinishes.{agree-finished}
use Rattle.ca_laws_parts.proofs.Going.{life-later}
use Rattle.ca_laws_parts.proofs.Leaving.{agree-cleared, agree-gone}
use Rattle.ca_laws_parts.proofs.WritesLives.{agree-applied, agree-busied, agree-posted, agree-waits, number-of}
use Rattle.ca_laws_parts.proofs.write_laws.records_agree_with_their_log.Goals as goal

pub returns : goal.returns
returns c = record {
  begins = λ cs server l states apart. agree-begun (CameOn cs l) (LostOn cs) (IsPutOf cs server) states apart;
  applied = λ cs server l y ds rs n i d r p v in_ds in_rs untold came same a. agree-applied (CameOn cs l) (LostOn cs) (IsPutOf cs server) y ds rs n i d r p v in_ds in_rs untold came same a;
  busied = λ cs server l y ds rs n i d r p b v in_ds in_rs idle untold came same is slow a. agree-busied (CameOn cs l) (LostOn cs) (IsPutOf cs server) y ds rs n i d r p b v in_ds in_rs idle untold came same is slow a;
  waits = λ cs server l y ds rs n i d r p w meta in_ds in_rs fits untold came is a. agree-waits (CameOn cs l) (LostOn cs) (IsPutOf cs server) y ds rs n i d r p w meta in_ds in_rs fits untold came is a;
  finished = λ cs server l y side ds rs n i d r p in_ds in_rs busy a. agree-finished (CameOn cs l) (LostOn cs) (IsPutOf cs server) y side ds rs n i d r p in_ds in_rs busy a;
  gone = λ cs server l y ds rs n gone lost agree lose a. agree-gone (CameOn cs l) (LostOn cs) (IsPutOf cs server) y ds rs n gone lost agree lose a;
  cleared = λ cs server l y ds rs n h sid which agree lose a. agree-cleared (CameOn cs l) (LostOn cs) (IsPutOf cs server) y ds rs n h sid which agree lose a;
  posted = λ cs server l y ds rs n i d r mask v in_ds in_rs same a. agree-posted (CameOn cs l) (LostOn cs) (IsPutOf cs server) y ds rs n i d r mask v in_ds in_rs same a;
  removed = λ cs server l y ds rs n i r in_rs a. agree-removed (CameOn cs l) (LostOn cs) (IsPutOf cs server) y ds rs n i r in_rs a;
  added = λ cs server l y ds rs n s behind none a. agree-added (CameOn cs l) (LostOn cs) (IsPutOf cs server) y ds rs n s behind none a;
  known = λ cs server l y ds rs n i d r in_ds in_rs a. (let g = both-at (Agrees (IsPutOf cs server) y) ds rs i d r a.each in_ds in_rs in (is-now (IsPutOf cs server) y d r g, has-name (IsPutOf cs server) y d r g));
  later = life-later;
  numbers = λ cs server l y ds rs n i r at a. number-of rs i r a.others at;
}
