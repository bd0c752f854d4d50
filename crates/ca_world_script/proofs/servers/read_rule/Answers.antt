use Rattle.std.proofs.Common.{rules, refl}
use Rattle.ca_text.specs.declared.refusal.Refusal.{Refusal}
use Rattle.ca_script.specs.Grammar.{Refuses}
use Rattle.ca_script.specs.Lines.{IsNamed, SaysRule}
use Rattle.ca_world_data.specs.Settings.{rule_of}
use Rattle.ca_script.proofs.Refusals.{says-none}
use Rattle.ca_script.proofs.RuleLines.{no-rights-word, rule-said}
use Rattle.ca_script.proofs.Sayings.{handed-on}
use Rattle.ca_world_script.proofs.servers.read_rule.Goals as goal

pub returns-in_err-word-clause-err : goal.returns-in_err-word-clause-err
returns-in_err-word-clause-err c =
    let why = c.in_err-word.ensures.err in
    handed-on c.from_residual-in_err-word.result c.in_err-word.field-0.0 (λ (e : Refusal). Refuses (SaysRule c.args.words) e) c.from_residual-in_err-word.ensures.1
    (says-none (SaysRule c.args.words) _ why.0 (no-rights-word c.args.words _ _ _ _ _ _ c.in_ok-user.ensures.ok.0 c.in_ok-host.ensures.ok.0 c.in_ok-name.ensures.ok.0 why.1))

pub returns-clause-ok : goal.returns-clause-ok
returns-clause-ok c =
    let named : IsNamed (c.in_ok-user.user.now, c.in_ok-host.host.now) = search rules in
    rule-said c.args.words _ _ _ _ _ _ _ _ _ _ _ c.in_ok-reads.reads c.in_ok-reads.writes (rule_of (record { user = c.in_ok-user-2.user; host = c.in_ok-host-2.host; record_name = c.in_ok-record_name.record_name; reads = c.in_ok-reads.reads; writes = c.in_ok-reads.writes })) c.in_ok-user.ensures.ok c.in_ok-host.ensures.ok c.in_ok-name.ensures.ok c.in_ok-word.ensures.ok.0 c.in_ok-end.ensures.ok c.in_ok-reads.ensures.ok named c.in_ok-user-2.ensures c.in_ok-host-2.ensures c.in_ok-record_name.ensures refl
