use Rattle.ca_laws_parts.proofs.Rising.{rising-added, rising-begins, rising-gone, rising-none-taken, rising-other-cancelled, rising-other-post, rising-other-taken, rising-posted, rising-taken}
use Rattle.ca_laws_parts.proofs.update_laws.a_queue_keeps_numbers_rising.Goals as goal

pub returns : goal.returns
returns g c = record {
  begins = λ stamp key q none. rising-begins stamp key q none;
  posted = λ stamp key gone next q r. rising-posted stamp key gone next q r;
  taken = λ stamp key gone next entry q given r. rising-taken stamp key gone next entry q given r;
  gone = λ stamp key gone next q r. rising-gone stamp key gone next q r;
  others = λ stamp key other gone next entry q differs r. (
    rising-added stamp key gone next other q r,
    rising-other-post stamp key gone next other entry q differs r,
    rising-other-cancelled stamp key gone next other q differs r,
  );
  others_taken = λ stamp key other gone next entry q differs given r. rising-other-taken stamp key gone next other entry q given differs r;
  rest = λ stamp key gone next on q r. (
    record { wait = r.wait; are = r.are; rise = r.rise; newest = r.newest; ends = r.ends; next_is = r.next_is },
    λ given. rising-none-taken stamp key gone next q given r,
  );
}
