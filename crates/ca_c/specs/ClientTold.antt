-- Vocabulary: what a client tells C, as numbers.
use Rattle.std.specs.Prelude.{ℕ}
use Rattle.ca_arena.specs.declared.handle.Handle.{Handle}
use Rattle.ca_client_core.specs.declared.channel_state.ChannelState.{ChannelState}
use Rattle.ca_client_core.specs.declared.channel_state.ChannelState.TheVariants as state
use Rattle.ca_client_core.specs.declared.notice.Notice.{Notice}
use Rattle.ca_client_core.specs.declared.notice.Notice.TheVariants as notice
use Rattle.ca_model.specs.Ends.{Why}
use Rattle.ca_model.specs.Ends as why
use Rattle.ca_dbr.specs.Elements.{Elements, base_of, count_of, elements}
use Rattle.ca_dbr.specs.Types.{base_number}
use Rattle.ca_dbr.specs.declared.value.Outcome.{Outcome}
use Rattle.ca_dbr.specs.declared.value.Outcome.TheVariants as outcome
use Rattle.ca_text.specs.Refusal.{refusal_number}
use Rattle.ca_c.specs.Answers.{number_of}
use Rattle.ca_c.specs.declared.client_structs.CvzChannel.{CvzChannel}
use Rattle.ca_c.specs.declared.client_structs.CvzNotice.{CvzNotice}

abbrev pub why_number : Why → ℕ
why_number why.OutOfMemory = 1
why_number why.Misaligned = 2
why_number why.TooLarge = 3
why_number why.Cut = 4
why_number why.Silence = 5
why_number why.Asked = 6

-- a channel that is not live
abbrev pub standing : ℕ → CvzChannel
standing n = record { state = n; data_type = 0; greatest = 0; rights = 0 }

abbrev pub c_channel : ChannelState → CvzChannel
c_channel state.Searching = standing 0
c_channel state.Connecting = standing 1
c_channel state.Creating = standing 2
c_channel (state.Live data_type greatest rights) =
    record { state = 3; data_type = data_type; greatest = greatest; rights = rights }
c_channel state.Leaving = standing 4

-- what brings no value
abbrev pub became : (of kind outcome status : ℕ) → CvzNotice
became of kind what status =
    record { of = of; kind = kind; outcome = what; status = status; data_type = 0; count = 0 }

-- what brings a value of these elements
abbrev pub value_notice : (of kind : ℕ) → Elements → CvzNotice
value_notice of kind e =
    record {
      of = of;
      kind = kind;
      outcome = 0;
      status = 0;
      data_type = base_number (base_of e);
      count = count_of e;
    }

abbrev pub outcome_notice : (of kind : ℕ) → Outcome → CvzNotice
outcome_notice of kind (outcome.Value value meta) = value_notice of kind (elements value)
outcome_notice of kind (outcome.Displayed value meta display) =
    value_notice of kind (elements value)
outcome_notice of kind outcome.Done = became of kind 1 0
outcome_notice of kind (outcome.Failed status) = became of kind 2 status.number
outcome_notice of kind (outcome.Unreadable refusal) = became of kind 3 (refusal_number refusal)
outcome_notice of kind outcome.Disconnected = became of kind 4 0

abbrev pub c_notice : Notice → CvzNotice
c_notice (notice.Live h) = became (number_of h) 1 0 0
c_notice (notice.Lost h) = became (number_of h) 2 0 0
c_notice (notice.Completed h what) = outcome_notice (number_of h) 3 what
c_notice (notice.Update h what) = outcome_notice (number_of h) 4 what
c_notice (notice.SubscriptionEnded h status) = became (number_of h) 5 0 status.number
c_notice (notice.WriteRefused h status) = became (number_of h) 6 0 status.number
