use Rattle.ca_laws_parts.proofs.Happens.{keeps-clear, keeps-read, keeps-subscribe, keeps-unsubscribe, keeps-write, keeps-write-notify}
use Rattle.ca_laws_parts.proofs.circuits.calls_keep_each_circuit.Goals as goal

pub returns : goal.returns
returns c = record {
  read = λ kept w new i k c x h data_type count at s. keeps-read kept w new i k c x h data_type count at (s.sound i x at).named.requests;
  write_notify = λ kept w new i k c x h e at s. keeps-write-notify kept w new i k c x h e at (s.sound i x at).named.requests;
  write = keeps-write;
  subscribe = λ kept w new i k c x h data_type count mask at s. keeps-subscribe kept w new i k c x h data_type count mask at (s.sound i x at).named.subscriptions;
  unsubscribe = λ kept w new i k x g at s. keeps-unsubscribe kept w new i k x g at (s.sound i x at).named.meant;
  clear = λ kept w new i k c x h at s. keeps-clear kept w new i k c x h at (s.sound i x at).placed.attached;
}
