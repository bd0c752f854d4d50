use Rattle.std.proofs.Common.{◌≡◌, ℕ, ◌∙◌, Bool, sym, ap, subst}
use Rattle.ca_ids.specs.Table.{Table}
use Rattle.ca_model.specs.Server.{ServerCircuit}
use Rattle.ca_records.specs.Store.{records_of}
use Rattle.ca_server_circuit.specs.Handling.{is_wrote}
use Rattle.ca_server_core.specs.Covering.{AreListed, Covers}
use Rattle.ca_server_core.specs.Following.{CoversFor, Follows, LedFor, Settles}
use Rattle.ca_server_core.specs.Noting.{TriesAt}
use Rattle.ca_server_core.specs.Serving.{more_applied}
use Rattle.ca_server_core.specs.Sound.{IsSound}
use Rattle.ca_server_circuit.specs.declared.effect.Effect.TheVariants as told
use Rattle.ca_server_core.specs.declared.stepping.CoreStep.TheVariants as own
use Rattle.ca_server_watchers.specs.Watching.{Watched}
use Rattle.ca_server_core.proofs.Covered.{covers-thinned}
use Rattle.ca_server_core.proofs.Led.{led-followed, led-thinned, led-wrote}
use Rattle.ca_server_core.proofs.Listed.{listed-pumped}
use Rattle.ca_server_core.proofs.Noted.{leads-after, open-settles}
use Rattle.ca_server_core.proofs.Pumped.{sound-pumped}
use Rattle.ca_server_core.proofs.Thinned.{thins-pumped}
use Rattle.ca_server_core.proofs.serving.follow_and_pump.Goals.{else-may_have_ended-via-then-may_have_ended+else-not-is_open, else-may_have_ended-via-else-may_have_ended}
use Rattle.ca_server_core.proofs.serving.follow_and_pump.Goals as goal

pub returns-then-go_through-clause-pumps : goal.returns-then-go_through-clause-pumps
returns-then-go_through-clause-pumps c = λ yes.
    let s = c.args.records.now in
    let g = c.go_through.ensures.through c.if-go_through.true in
    let k = c.more_applied.result in
    let more : k ≡ more_applied (is_wrote c.args.effect) c.args.applied.now = c.more_applied.ensures ∙ ap (λ (b : Bool). more_applied b c.args.applied.now) c.is_write.ensures in
    record {
      mid = g.mid;
      left = s;
      follows = g.follows;
      sound = g.sound;
      settles = g.settles;
      last = g.mid;
      u = s;
      tries = subst (λ (n : ℕ). TriesAt c.args.effect n g.mid s k g.mid s) more (g.tries k);
      pumps = g.pumps;
    }

pub returns-then-go_through-clause-server : goal.returns-then-go_through-clause-server
returns-then-go_through-clause-server c =
    let s = c.args.records.now in
    let new = c.go_through.new.circuits in
    let l = c.args.leading.now in
    let did = c.args.effect in
    let h = c.args.circuit in
    let g = c.go_through.ensures.through c.if-go_through.true in
    let thins = thins-pumped s s g.mid new h g.pumps in
    record {
      sound = sound-pumped s s g.mid new h g.pumps g.sound;
      covered = subst (λ (w : Watched). Covers w new) (sym c.go_through.ensures.watchers) (covers-thinned c.args.watchers.now g.mid new thins g.covered);
      listed = subst (λ (w : Watched). AreListed (records_of s) w) (sym c.go_through.ensures.watchers) c.requires.listed;
      led = led-thinned (records_of s) (records_of s) l g.mid new thins (led-wrote did h s l c.args.circuits.now g.writes c.requires.led).listed (led-followed did h c.args.circuits.now s g.mid s l g.writes g.follows c.requires.led);
    }

pub follow-may_have_ended-requires-clause-sound : goal.follow-may_have_ended-requires-clause-sound
follow-may_have_ended-requires-clause-sound c =
    subst (λ (t : Table ServerCircuit). IsSound (records_of c.args.records.now) t) (sym (c.go_through.ensures.stays c.if-go_through.false).0) c.requires.sound

pub follow-may_have_ended-requires-clause-covered : goal.follow-may_have_ended-requires-clause-covered
follow-may_have_ended-requires-clause-covered c =
    let s = c.args.records.now in
    subst (λ (t : Table ServerCircuit). CoversFor c.args.effect c.args.circuit s c.go_through.new.watchers t) (sym (c.go_through.ensures.stays c.if-go_through.false).0)
    (subst (λ (w : Watched). CoversFor c.args.effect c.args.circuit s w c.args.circuits.now) (sym c.go_through.ensures.watchers) c.requires.covered)

pub follow-may_have_ended-requires-clause-listed : goal.follow-may_have_ended-requires-clause-listed
follow-may_have_ended-requires-clause-listed c =
    subst (λ (w : Watched). AreListed (records_of c.args.records.now) w) (sym c.go_through.ensures.watchers) c.requires.listed

pub follow-may_have_ended-requires-clause-led : goal.follow-may_have_ended-requires-clause-led
follow-may_have_ended-requires-clause-led c =
    subst (λ (t : Table ServerCircuit). LedFor c.args.effect c.args.circuit c.args.records.now c.args.leading.now t) (sym (c.go_through.ensures.stays c.if-go_through.false).0) c.requires.led

pub finish_busy-requires-clause-leads : goal.finish_busy-requires-clause-leads
finish_busy-requires-clause-leads c =
    leads-after c.args.effect c.args.circuit c.go_through.new.circuits c.follow-may_have_ended.new.circuits c.args.records.now c.follow-may_have_ended.new.records c.follow-may_have_ended.ensures.follows

pub returns-then-not-is_open-clause-ends : goal.returns-then-not-is_open-clause-ends
returns-then-not-is_open-clause-ends c = λ no.
    let f = c.follow-may_have_ended.new in
    record {
      follows = subst (λ (t : Table ServerCircuit). Follows c.args.effect c.args.circuit t c.args.records.now f.circuits f.records) (c.go_through.ensures.stays c.if-go_through.false).0 c.follow-may_have_ended.ensures.follows;
      counts = c.more_applied.ensures ∙ ap (λ (b : Bool). more_applied b c.args.applied.now) c.is_write.ensures;
      ended = sym c.is_open.ensures ∙ c.if-not-is_open.true;
    }

pub returns-clause-pumps : goal.returns-clause-pumps
returns-clause-pumps c = λ yes.
    let h = c.args.circuit in
    let t = c.args.circuits.now in
    let f = c.follow-may_have_ended in
    let fin = c.finish_busy in
    let same = (c.go_through.ensures.stays c.if-go_through.false).0 in
    let more : c.more_applied.result ≡ more_applied (is_wrote c.args.effect) c.args.applied.now = c.more_applied.ensures ∙ ap (λ (b : Bool). more_applied b c.args.applied.now) c.is_write.ensures in
    record {
      mid = f.new.circuits;
      left = f.new.records;
      follows = subst (λ (z : Table ServerCircuit). Follows c.args.effect h z c.args.records.now f.new.circuits f.new.records) same f.ensures.follows;
      sound = f.ensures.sound;
      settles = λ waited is. elim c.else-may_have_ended.branch [
        | else-may_have_ended-via-then-may_have_ended+else-not-is_open w ↦ open-settles f.new.circuits h waited (sym w.is_open.ensures ∙ w.if-not-is_open.false)
        | else-may_have_ended-via-else-may_have_ended w ↦
            subst (λ (z : Table ServerCircuit). Settles z h waited (own.Handled told.Quiet) z) (sym (f.ensures.none w.if-may_have_ended.false ∙ same)) is
      ];
      last = fin.new.circuits;
      u = fin.new.records;
      tries = subst (λ (n : ℕ). TriesAt c.args.effect n f.new.circuits f.new.records fin.new.applied fin.new.circuits fin.new.records) more fin.ensures.tries;
      pumps = c.pump_counting_on.ensures.pumps;
    }

pub returns-clause-server : goal.returns-clause-server
returns-clause-server c =
    let fin = c.finish_busy in
    let pumped = c.pump_counting_on in
    let thins = thins-pumped fin.new.records pumped.new.records fin.new.circuits pumped.new.circuits c.args.circuit pumped.ensures.pumps in
    record {
      sound = sound-pumped fin.new.records pumped.new.records fin.new.circuits pumped.new.circuits c.args.circuit pumped.ensures.pumps fin.ensures.sound;
      covered = covers-thinned fin.new.watchers fin.new.circuits pumped.new.circuits thins fin.ensures.covered;
      listed = listed-pumped fin.new.records pumped.new.records fin.new.circuits pumped.new.circuits c.args.circuit fin.new.watchers pumped.ensures.pumps fin.ensures.listed;
      led = led-thinned (records_of fin.new.records) (records_of pumped.new.records) fin.new.leading fin.new.circuits pumped.new.circuits thins (listed-pumped fin.new.records pumped.new.records fin.new.circuits pumped.new.circuits c.args.circuit fin.new.leading pumped.ensures.pumps fin.ensures.led.listed) fin.ensures.led;
    }
