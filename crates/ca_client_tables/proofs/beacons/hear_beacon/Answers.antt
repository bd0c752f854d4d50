use Rattle.std.proofs.Common.{◌≡◌, ◌∙◌, ap, ℕ}
use Rattle.std.specs.FinMap as finite
use Rattle.std.specs.Net.Addr.{ipv4_bits}
use Rattle.ca_beacon.specs.Table.{anomaly, noted, server}
use Rattle.ca_model.specs.ClientEnds.{beacon_server}
use Rattle.ca_client_tables.proofs.Anomalies.{heard-back, server-is}
use Rattle.ca_client_tables.proofs.beacons.hear_beacon.Goals as goal

pub returns-in-Ok : goal.returns-in-Ok
returns-in-Ok c =
    let m = c.args.message.now in
    let from = c.args.from in
    let t = c.args.beacons.now in
    let s = server (ipv4_bits c.beacon_address-address.result) c.args.port in
    let is : s ≡ beacon_server from m = server-is from m (ipv4_bits c.beacon_address-address.result) c.args.port c.beacon_address-address.ensures c.requires in
    let told = c.in-Ok.ensures.0 ∙ ap (λ (n : ℕ). anomaly (finite.get t s) n) c.p1.ensures ∙ ap (λ (n : ℕ). anomaly (finite.get t n) m.p1) is in
    let notes = c.in-Ok.ensures.1 ∙ ap (λ (n : ℕ). noted t s n) c.p1.ensures ∙ ap (λ (n : ℕ). noted t n m.p1) is in
    (told, notes, heard-back t c.heard.new.self s c.p1.result c.last-before.result c.last-before.ensures c.in-Ok.ensures.1)
