-- The end of a circuit has ended: what the code left, part by part.
use Rattle.std.proofs.Common.{◌≡◌, Bool, true, false, List, Option, Some, None, filter, if◌then◌else◌, not, option_map, refl, sym, ap, ◌∙◌, unwrap_or}
use Rattle.ca_arena.specs.declared.handle.Handle.{Handle}
use Rattle.ca_ids.specs.Table.{Table, same_handle, under, with_changed, with_freed}
use Rattle.ca_requests.specs.Calls.{Issued, with_table}
use Rattle.ca_requests.specs.Requests as request
use Rattle.ca_monitor.specs.Subscriptions.{Subscription}
use Rattle.ca_monitor.specs.Subscriptions as monitor
use Rattle.ca_model.specs.Client.{Client, ClientCircuit, channels_ended, disconnected, ended, let_go, without_circuit, without_ids}
use Rattle.ca_client_tables.specs.Ending.{EndsAll, Sought, sought}
use Rattle.ca_client_tables.proofs.Ended.{all-ended, with_sought}

-- the client with these parts
abbrev pub left_with : Client → Issued → Table Subscription → Sought → Table ClientCircuit → List Handle → Client
left_with x q s n cs o = record x {
  channels = n.channels;
  requests = q.table;
  subscriptions = s;
  circuits = cs;
  order = o;
  issued = q.order;
  searches = n.searches;
}

-- what is left of the circuits, and of their order
abbrev pub circuits_left : Bool → Handle → Table ClientCircuit → Table ClientCircuit
circuits_left is_name c t = if is_name then with_changed (λ (d : ClientCircuit). record d { connection = None }) c t else with_freed c t

abbrev pub order_left : Bool → Handle → List Handle → List Handle
order_left is_name c o = if is_name then o else filter (λ (d : Handle). not (same_handle d c)) o

pub ends-so : (x : Client) (c : Handle) (d : ClientCircuit) (q : Issued) (s : Table Subscription) (n : Sought) (cs : Table ClientCircuit) (o : List Handle) → under x.circuits c ≡ Some d
    → q ≡ with_table (request.circuit_gone c x.requests) (record { table = x.requests; order = x.issued }) → s ≡ monitor.circuit_gone c x.subscriptions
    → EndsAll c x.moment (sought x.channels x.searches) n → cs ≡ circuits_left d.is_name c x.circuits → o ≡ order_left d.is_name c x.order → left_with x q s n cs o ≡ ended c x
ends-so x c d q s n cs o found gone drained ends circuits order =
    (λ i. left_with x (gone i) (drained i) n (circuits i) (order i))
    ∙ go d.is_name
    ∙ ap (λ (w : Client). let_go c d w) (all-ended c y ends.between n ends.first ends.next)
    ∙ sym (ap (λ (p : Option ClientCircuit). unwrap_or (option_map (λ (e : ClientCircuit). let_go c e (channels_ended c y)) p) x) found)
  where
    y : Client
    y = without_ids c x

    go : (b : Bool) → left_with x (with_table (request.circuit_gone c x.requests) (record { table = x.requests; order = x.issued })) (monitor.circuit_gone c x.subscriptions) n (circuits_left b c x.circuits) (order_left b c x.order)
        ≡ (if b then disconnected c (with_sought y n) else without_circuit c (with_sought y n))
    go true = refl
    go false = refl
