-- Vocabulary: what the code asks, and its stages, as those of the vocabulary.
use Rattle.std.specs.Prelude.{◌≡◌, refl}
use Rattle.ca_requests.specs.declared.asked.Asked.{Asked}
use Rattle.ca_requests.specs.declared.asked.Asked.TheVariants as asked
use Rattle.ca_requests.specs.declared.asked.RequestStage.{RequestStage}
use Rattle.ca_requests.specs.declared.asked.RequestStage.TheVariants as stage
use Rattle.ca_requests.specs.Requests as request

abbrev pub asked_of : Asked → request.Asked
asked_of (asked.Read data_type count) = request.Read data_type count
asked_of asked.Put = request.Put

abbrev pub asked_from : request.Asked → Asked
asked_from (request.Read data_type count) = asked.Read data_type count
asked_from request.Put = asked.Put

abbrev pub stage_of : RequestStage → request.Stage
stage_of stage.Open = request.Open
stage_of stage.Draining = request.Draining

abbrev pub stage_from : request.Stage → RequestStage
stage_from request.Open = stage.Open
stage_from request.Draining = stage.Draining

pub asked_again : (a : Asked) → asked_from (asked_of a) ≡ a
asked_again (asked.Read data_type count) = refl
asked_again asked.Put = refl

pub stage_again : (s : RequestStage) → stage_from (stage_of s) ≡ s
stage_again stage.Open = refl
stage_again stage.Draining = refl
