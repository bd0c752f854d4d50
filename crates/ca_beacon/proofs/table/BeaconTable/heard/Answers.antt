use Rattle.std.proofs.Common.{◌≡◌, ◌+◌, ◌∙◌, cond, length, is_some, inl, inr, sym, ap, arith}
use Rattle.ca_beacon.specs.Table.{anomaly}
use Rattle.ca_beacon.proofs.Tables.{HasRoom, last_in, full-noted, get-held, hears-refused, none-from_test, put-noted, put-table}
use Rattle.ca_beacon.proofs.table.BeaconTable.heard.Goals as goal
use Rattle.ca_beacon.proofs.table.BeaconTable.heard.Goals.{else-is_none-via-then-is_none+else-len-ge-BEACON_SERVERS, else-is_none-via-else-is_none}

pub returns-then-len-ge-BEACON_SERVERS : goal.returns-then-len-ge-BEACON_SERVERS
returns-then-len-ge-BEACON_SERVERS c =
    let es = c.self.inside.last.entries in
    let found : c.copied-last.result ≡ last_in es c.key-server.result = c.copied-last.ensures ∙ c.get.ensures.value in
    let none = sym found ∙ none-from_test c.copied-last.result c.if-is_none.ensures in
    let held = get-held es c.args.self.now c.key-server.result c.self.view_is ∙ none in
    rw (← c.key-server.ensures) (sym (ap (λ o. anomaly o c.args.number) held), full-noted es c.args.self.now c.key-server.result c.args.number c.self.view_is c.self.invariant none (omega arith))

pub returns-in_err-insert : goal.returns-in_err-insert
returns-in_err-insert c =
    let es = c.self.inside.last.entries in
    let found : c.copied-last.result ≡ last_in es c.key-server.result = c.copied-last.ensures ∙ c.get.ensures.value in
    let room : HasRoom es c.key-server.result = record {
      room = elim c.else-is_none.branch [
        | else-is_none-via-then-is_none+else-len-ge-BEACON_SERVERS w ↦ inr (omega arith)
        | else-is_none-via-else-is_none w ↦ inl (sym (ap is_some found) ∙ w.if-is_none.ensures)
      ];
    } in
    rw (← c.key-server.ensures) (hears-refused es c.insert.new.self.entries c.args.self.now c.key-server.result c.args.number c.from_residual.result c.from_residual.ensures.1 c.self.view_is c.self.invariant room c.in_err-insert.ensures.absent c.in_err-insert.ensures.err)

pub invariant_of-self-2 : goal.invariant_of-self-2
invariant_of-self-2 c =
    let es = c.self.inside.last.entries in
    let found : c.copied-last.result ≡ last_in es c.key-server.result = c.copied-last.ensures ∙ c.get.ensures.value in
    let room : HasRoom es c.key-server.result = record {
      room = elim c.else-is_none.branch [
        | else-is_none-via-then-is_none+else-len-ge-BEACON_SERVERS w ↦ inr (omega arith)
        | else-is_none-via-else-is_none w ↦ inl (sym (ap is_some found) ∙ w.if-is_none.ensures)
      ];
    } in
    put-table es c.insert.new.self.entries c.key-server.result c.args.number c.self.invariant room c.in_ok-insert.ensures.updates.0 (c.in_ok-insert.ensures.len ∙ ap (λ o. length es + cond (is_some o) 0 1) c.in_ok-insert.ensures.old)

pub returns : goal.returns
returns c =
    let es = c.self.inside.last.entries in
    let found : c.copied-last.result ≡ last_in es c.key-server.result = c.copied-last.ensures ∙ c.get.ensures.value in
    let room : HasRoom es c.key-server.result = record {
      room = elim c.else-is_none.branch [
        | else-is_none-via-then-is_none+else-len-ge-BEACON_SERVERS w ↦ inr (omega arith)
        | else-is_none-via-else-is_none w ↦ inl (sym (ap is_some found) ∙ w.if-is_none.ensures)
      ];
    } in
    rw (← c.key-server.ensures)
    (c.is_anomaly.ensures ∙ ap (λ o. anomaly o c.args.number) (found ∙ sym (get-held es c.args.self.now c.key-server.result c.self.view_is)), put-noted es c.insert.new.self.entries c.args.self.now c.key-server.result c.args.number c.self.view_is c.self.invariant room c.in_ok-insert.ensures.updates.0)
