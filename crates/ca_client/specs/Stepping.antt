-- Working: the answer of a step of the core, and what is handed back of it.
use Rattle.std.specs.Prelude.{◌≡◌, List, []}
use Rattle.ca_arena.specs.declared.handle.Handle.{Handle}
use Rattle.ca_client_core.specs.declared.stepping.Stepped.{Stepped}
use Rattle.ca_client_core.specs.declared.stepping.Stepped.TheVariants as step
use Rattle.ca_model.specs.Answers.{Notice}
use Rattle.ca_client.specs.declared.answer.Answer.{Answer}
use Rattle.ca_client.specs.declared.answer.Answer.TheVariants as answer
use Rattle.ca_client.specs.declared.ask.CoreCall.TheVariants as ask
use Rattle.ca_client.specs.declared.stepping.Replied.{Replied}
use Rattle.ca_client.specs.declared.stepping.Replied.TheVariants as replied
use Rattle.ca_client.specs.Awaited.{StateView, others}
use Rattle.ca_client.specs.Calls.{HasSteppedUnderLock}

-- the notices of a step
abbrev pub notices_in : Stepped → List Notice
notices_in (step.Notices told) = told
notices_in step.NeedBytes = []
notices_in (step.Closed k) = k.notices

-- the answer without the completions
abbrev pub handed_over : Stepped → Answer
handed_over (step.Notices told) = answer.Notices (others told)
handed_over step.NeedBytes = answer.NeedBytes
handed_over (step.Closed k) = answer.Closed (record k { notices = others k.notices })

-- It was a step; or nothing was done.
abbrev pub StepsReply : StateView → Handle → Replied → StateView → Type 0
StepsReply old c replied.Filled new = HasSteppedUnderLock old (ask.Step c) answer.Filled new
StepsReply old c replied.NeedBytes new = HasSteppedUnderLock old (ask.Step c) answer.NeedBytes new
StepsReply old c replied.Other new = new ≡ old
