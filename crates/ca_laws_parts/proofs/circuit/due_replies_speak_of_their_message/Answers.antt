use Rattle.ca_laws_parts.proofs.Replies.{due-speak}
use Rattle.ca_laws_parts.proofs.circuit.due_replies_speak_of_their_message.Goals as goal

pub returns : goal.returns
returns c k m replies action fits due = due-speak k m fits replies action due
