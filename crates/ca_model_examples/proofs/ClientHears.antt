-- What messages and calls do in each state, computed.
use Rattle.std.proofs.Common.{inr, refl}
use Rattle.ca_dbr.specs.Elements.{signed_bytes_4}
use Rattle.ca_wire.specs.Header.{extended_header, header_spelling, number16, number32, short_header}
use Rattle.ca_wire.specs.Message.{spelling}
use Rattle.ca_model.specs.Hears.{Other}
use Rattle.ca_model_examples.specs.ClientHears.{ClearedWhileWaiting, ConfirmedThere, CreationFails, Errors, Found, LastFaults, NoneFree, OutOfTurn, PauseIsSent, RepliesByCommand, Skipped, SubscribedAgain, Unsubscribes}

pub creation-fails : CreationFails
creation-fails = ((refl, refl), refl, refl)

pub out-of-turn : OutOfTurn
out-of-turn = (refl, refl, refl, refl, refl, refl)

pub is-found : Found
is-found = (refl, refl, (refl, refl, refl))

pub none-free : NoneFree
none-free = λ t full. inr (full, refl)

pub cleared-while-waiting : ClearedWhileWaiting
cleared-while-waiting = (refl, refl, refl, refl, refl, refl)

pub replies-by-command : RepliesByCommand
replies-by-command = (refl, refl, refl, refl)

pub confirmed-there : ConfirmedThere
confirmed-there = (refl, refl)

pub skipped : Skipped
skipped = (Other refl refl, Other refl refl)

pub errors : Errors
errors = (refl, refl, (refl, refl), refl, (refl, refl, refl), refl, refl)

pub subscribed-again : SubscribedAgain
unfolding number16
subscribed-again = (refl, refl)

pub unsubscribes : Unsubscribes
unsubscribes = (refl, refl, refl, refl, refl, refl, refl, refl)

pub last-faults : LastFaults
unfolding spelling header_spelling short_header extended_header number16 number32 signed_bytes_4
last-faults = (refl, refl, (λ bytes over. rw over refl), refl, refl)

pub pause-is-sent : PauseIsSent
pause-is-sent = (refl, refl)
