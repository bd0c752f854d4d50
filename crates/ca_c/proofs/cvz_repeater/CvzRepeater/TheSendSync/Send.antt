use denote.Param.Send.{IsSend, AllSend, owning_send, struct_send, sendable}
use denote.Struct.Owning.{shape, fields, to}
use denote.Struct.Struct.{exits_of}
use Rattle.std_alloc.proofs.SendSync.{quiet}
use Rattle.ca_object.proofs.Crossing.{object-crosses}
use Rattle.ca_c.specs.contracts.repeater_object.RepeaterObject.{the_row as R}
use Rattle.ca_c.proofs.repeater_object.RepeaterObject.TheSendSync.{the_send as sent}
use Rattle.ca_c.specs.contracts.cvz_repeater.CvzRepeater.{the_row, the_type}

pub send : IsSend the_row
send =
    let all : AllSend (fields the_type) = (search sendable, tt) in
    owning_send the_type all (λ h. object-crosses R sent h.at h.value) (λ k. quiet (to the_type) (exits_of k (fields the_type)) ((struct_send (shape the_type) all).leaving k))
