use Rattle.ca_model.proofs.Tables.{all-back, all-freed-back, all-freed-there, all-there, changed-back, changed-other, changed-own, freed-back, freed-other, given-fresh, held-back, held-other, held-own, one-by-wire, under-wire, wire-under}
use Rattle.ca_laws_parts.proofs.circuit.tables_hold_what_was_put_there.Goals as goal

pub returns : goal.returns
returns g c = record {
  fresh = given-fresh;
  one = one-by-wire;
  found = under-wire;
  finds = wire-under;
  held = held-own;
  held_too = held-other;
  held_only = held-back;
  changed = changed-own;
  changed_only = changed-back;
  others_stay = λ f t k h w is other. (changed-other f t k h w is other, freed-other t k h w is other);
  freed = freed-back;
  all = all-there;
  all_only = all-back;
  all_freed = all-freed-there;
  all_freed_only = all-freed-back;
}
