use Rattle.ca_model_examples.proofs.ServerAnswers.{is-full-at, needs-bytes, closes-on-bad-header, reports-once}
use Rattle.ca_model_examples.proofs.server_calls.a_step_answers_why_it_takes_none.Goals as goal

pub returns : goal.returns
returns c = record { is_full = is-full-at; needs_bytes = needs-bytes; closes = closes-on-bad-header; reports_once = reports-once }
