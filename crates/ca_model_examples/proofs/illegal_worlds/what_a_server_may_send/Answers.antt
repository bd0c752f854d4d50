use Rattle.ca_model_examples.proofs.Illegal.{sids-legal, sid-shared, update-legal, update-unread, refused-legal, refused-updated, confirm-legal, confirm-unread, gone-legal, gone-uncreated, gone-twice}
use Rattle.ca_model_examples.proofs.illegal_worlds.what_a_server_may_send.Goals as goal

pub returns : goal.returns
returns c = record { sids = sids-legal; sid_shared = sid-shared; update = update-legal; update_too_soon = update-unread; refused = refused-legal; update_of_refused = refused-updated; confirmation = confirm-legal; confirmation_too_soon = confirm-unread; gone = gone-legal; gone_uncreated = gone-uncreated; gone_twice = gone-twice }
