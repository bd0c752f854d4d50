use Rattle.ca_model_examples.proofs.Illegal.{read-legal, read-uncalled, read-too-soon, cancel-legal, cancel-of-nothing, ids-legal, id-reused, id-shared, reads-legal, read-unasked, put-alone, write-alone, add-alone, clear-alone, sub-shared, added-legal, added-too-soon, asked-legal, asked-too-soon, never-cleared, reread-legal, reread-too-soon}
use Rattle.ca_model_examples.proofs.illegal_worlds.what_a_client_may_send.Goals as goal

pub returns : goal.returns
returns c = record { read = read-legal; read_uncalled = read-uncalled; read_too_soon = read-too-soon; put_alone = put-alone; write_alone = write-alone; add_alone = add-alone; clear_alone = clear-alone; subs_shared = sub-shared; unasked = read-unasked; cancel = cancel-legal; cancel_of_nothing = cancel-of-nothing; ids = ids-legal; reads = reads-legal; id_reused = id-reused; id_shared = id-shared; answered = reread-legal; answered_before = reread-too-soon; cancelled = added-legal; confirmed_before = added-too-soon; cleared = asked-legal; cleared_before = asked-too-soon; never_cleared = never-cleared }
