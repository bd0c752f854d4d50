-- Vocabulary: what each call of C does to a client: the contract of the call of `ClientCore` that
-- it makes, with the number that it answers.
use Rattle.std.specs.Prelude.{ℕ, ℤ, pos, ◌≡◌, ◌<◌, ◌≤◌, ◌≢◌, ◌⊎◌, ◌++◌, ◌+◌, Bool, List, [], ◌∷◌}
use Rattle.std.specs.Prelude.{Option, Some, None, Result, Ok, Err, drop, if◌then◌else◌, is_some}
use Rattle.std.specs.Prelude.{length, map, min, option_map, slice_get, take}
use Rattle.ca_arena.specs.declared.handle.Handle.{Handle}
use Rattle.ca_client_core.specs.Forms.{stated}
use Rattle.ca_client_core.specs.Notices.{TakesNotice}
use Rattle.ca_client_core.specs.Ticked.{lefts_of, notices_of}
use Rattle.ca_client_core.specs.declared.channel_state.ChannelState.{ChannelState}
use Rattle.ca_client_core.specs.declared.notice.Notice.{Notice}
use Rattle.ca_client_core.specs.declared.notice.Notice.TheVariants as notice
use Rattle.ca_client_core.specs.declared.ticking.Left.{Left}
use Rattle.ca_dbr.specs.declared.value.Meta.{Meta}
use Rattle.ca_dbr.specs.declared.value.Outcome.{Outcome}
use Rattle.ca_dbr.specs.declared.value.Outcome.TheVariants as outcome
use Rattle.ca_dbr.specs.Data.{data_of}
use Rattle.ca_dbr.specs.Elements.{Elements, elements}
use Rattle.ca_dbr.specs.Reading.{ReadRefused}
use Rattle.ca_model.specs.Answers as answer
use Rattle.ca_model.specs.Answers.{Closing, Sending, Stepped, Ticked}
use Rattle.ca_model.specs.ChannelState.{channel_state}
use Rattle.ca_model.specs.Client.{Client, out_bytes}
use Rattle.ca_model.specs.ClientCalls.{ClientClears, ClientOpens, ClientPuts, ClientReads}
use Rattle.ca_model.specs.ClientCalls.{ClientReadsDisplay, Shape}
use Rattle.ca_model.specs.ClientCalls.{ClientSubscribes, ClientUnsubscribes, ClientWrites}
use Rattle.ca_model.specs.ClientCalls.{WantedCircuit, wanted}
use Rattle.ca_model.specs.ClientEnds.{ClientBegins, ClientSetting, ClientCloses, ClientConnects}
use Rattle.ca_model.specs.ClientEnds.{ClientCuts, ClientGives, ClientReceives, ClientSteps}
use Rattle.ca_model.specs.ClientEnds.{ClientTicks, handed_over}
use Rattle.ca_model.specs.Ends as ends
use Rattle.ca_text.specs.Mask.{HasEvent}
use Rattle.ca_text.specs.declared.refusal.Refusal.{Refusal}
use Rattle.ca_text.specs.declared.refusal.Refusal.TheVariants as refusal
use Rattle.ca_c.specs.Answers.{IsImage, Shows, ShowsAny, ShowsDisplay, ShowsValue, Tells, code_of}
use Rattle.ca_c.specs.Answers.{handle_of, number_of, refusal_code}
use Rattle.ca_c.specs.ClientTold.{c_channel, c_notice, why_number}
use Rattle.ca_c.specs.declared.client_object.ClientObject.{ClientObject}
use Rattle.ca_c.specs.declared.client_structs.CvzAddress.{CvzAddress}
use Rattle.ca_c.specs.declared.client_structs.CvzChannel.{CvzChannel}
use Rattle.ca_c.specs.declared.client_structs.CvzNotice.{CvzNotice}
use Rattle.ca_c.specs.declared.client_structs.CvzWanted.{CvzWanted}

-- a call changes the core, and nothing that waits for C beside it
abbrev pub KeepsRest : ClientObject → ClientObject → Type 0
KeepsRest s t = t ≡ record s { core = t.core }

-- these notices wait for C
abbrev pub Reports : List answer.Notice → ClientObject → ClientObject → Type 0
Reports told s t = t ≡ record s { core = t.core; notices = Some told }

-- an end has ended so: its notices, and what is left to be sent, wait for C
abbrev pub EndsWith : Closing → ClientObject → ClientObject → Type 0
EndsWith k s t = t ≡ record s { core = t.core; notices = Some k.notices; left = k.left }

-- ---- channels

abbrev pub DoesOpen : ClientObject → ℤ → ClientObject → (name : List ℕ) → (priority now : ℕ)
    → (before after : ℕ) → Type 0
DoesOpen s n t name priority now before after =
    (r : Result Handle Refusal)
    × ((n ≡ code_of r)
    × ClientOpens s.core (record { name = name; priority = priority; now = now }) r [] t.core
    × Tells number_of r before after × KeepsRest s t)

unfoldable pub DoesChannel : ClientObject → ℤ → ClientObject → (channel : ℕ)
    → (before after : CvzChannel) → Type 0
DoesChannel s n t channel before after =
    (r : Result ChannelState Refusal)
    × ((n ≡ code_of r) × (stated r ≡ channel_state s.core (handle_of channel))
    × Tells c_channel r before after × (t ≡ s))

-- the notices of a call that may be refused
abbrev pub ReportsIf : Result (List answer.Notice) Refusal → ClientObject → ClientObject → Type 0
ReportsIf (Ok told) s t = Reports told s t
ReportsIf (Err e) s t = KeepsRest s t

unfoldable pub DoesClear : ClientObject → ℤ → ClientObject → (channel : ℕ) → Type 0
DoesClear s n t channel =
    (r : Result (List answer.Notice) Refusal)
    × ((sent : List Sending)
    × ((n ≡ code_of r) × ClientClears s.core (handle_of channel) r sent t.core × ReportsIf r s t))

-- ---- requests and subscriptions

-- a read of a type without display data, or of one with it
abbrev pub ReadsEither : Client → Handle → Shape → Result Handle Refusal → List Sending → Client
    → Type 0
ReadsEither old h a r sent new =
    ((a.data_type < 21) × ClientReads old h a r sent new)
    ⊎ ((21 ≤ a.data_type) × ClientReadsDisplay old h a r sent new)

unfoldable pub DoesRead : ClientObject → ℤ → ClientObject → (channel number count : ℕ)
    → (before after : ℕ) → Type 0
DoesRead s n t channel number count before after =
    (r : Result Handle Refusal) × ((sent : List Sending) × ((n ≡ code_of r)
    × ReadsEither s.core (handle_of channel)
    (record { data_type = number; count = count }) r sent t.core
    × Tells number_of r before after × KeepsRest s t))

unfoldable pub DoesWrite : ClientObject → ℤ → ClientObject → (channel number count : ℕ)
    → (image : List ℕ) → Type 0
DoesWrite s n t channel number count image =
    ((r : Result (Unit {0}) Refusal)
    × ((value : Elements)
    × ((meta : Meta)
    × ((sent : List Sending) × ((n ≡ code_of r) × IsImage number count image value meta
    × ClientWrites s.core (handle_of channel) value r sent t.core × KeepsRest s t)))))
    ⊎ ((e : Refusal) × ((n ≡ refusal_code e) × ReadRefused number count image e × (t ≡ s)))

unfoldable pub DoesPut : ClientObject → ℤ → ClientObject → (channel number count : ℕ)
    → (image : List ℕ) → (before after : ℕ) → Type 0
DoesPut s n t channel number count image before after =
    ((r : Result Handle Refusal)
    × ((value : Elements)
    × ((meta : Meta)
    × ((sent : List Sending) × ((n ≡ code_of r) × IsImage number count image value meta
    × ClientPuts s.core (handle_of channel) value r sent t.core × Tells number_of r before after
    × KeepsRest s t)))))
    ⊎ ((e : Refusal)
    × ((n ≡ refusal_code e) × ReadRefused number count image e × (after ≡ before) × (t ≡ s)))

unfoldable pub DoesSubscribe : ClientObject → ℤ → ClientObject → (channel number count mask : ℕ)
    → (before after : ℕ) → Type 0
DoesSubscribe s n t channel number count mask before after =
    ((r : Result Handle Refusal) × ((sent : List Sending) × (HasEvent mask × (n ≡ code_of r)
    × ClientSubscribes s.core (handle_of channel)
    (record { data_type = number; count = count }) mask r sent t.core
    × Tells number_of r before after × KeepsRest s t)))
    ⊎ ((HasEvent mask → ⊥) × (n ≡ refusal_code refusal.BadEvent) × (after ≡ before) × (t ≡ s))

unfoldable pub DoesUnsubscribe : ClientObject → ℤ → ClientObject → (subscription : ℕ) → Type 0
DoesUnsubscribe s n t subscription =
    (r : Result (Unit {0}) Refusal)
    × ((sent : List Sending)
    × ((n ≡ code_of r) × ClientUnsubscribes s.core (handle_of subscription) r sent t.core
    × KeepsRest s t))

-- ---- circuits

abbrev pub c_wanted : WantedCircuit → CvzWanted
c_wanted w =
    record {
      circuit = number_of w.circuit;
      host = w.address.host;
      port = w.address.port;
      priority = w.priority;
    }

abbrev pub TellsWanted : Option WantedCircuit → ℤ → (before after : CvzWanted) → Type 0
TellsWanted (Some w) n before after = (n ≡ pos 1) × (after ≡ c_wanted w)
TellsWanted None n before after = (n ≡ pos 0) × (after ≡ before)

-- the circuit at this place of those that are wanted, if there is one
abbrev pub DoesWanted : ClientObject → ℤ → ClientObject → (place : ℕ) → (before after : CvzWanted)
    → Type 0
DoesWanted s n t place before after =
    TellsWanted (slice_get (wanted s.core) place) n before after × (t ≡ s)

abbrev pub Connected : Option Closing → ClientObject → ℤ → ClientObject → (before after : ℕ)
    → Type 0
Connected None s n t before after = (n ≡ pos 0) × (after ≡ before) × KeepsRest s t
Connected (Some k) s n t before after = (n ≡ pos 3) × (after ≡ why_number k.why) × EndsWith k s t

unfoldable pub DoesConnected : ClientObject → ℤ → ClientObject → (circuit : ℕ) → (before after : ℕ)
    → Type 0
DoesConnected s n t circuit before after =
    (k : Option Closing)
    × ((sent : List Sending)
    × (ClientConnects s.core (handle_of circuit) k sent t.core × Connected k s n t before after))

unfoldable pub DoesGive : ClientObject → ℤ → ClientObject → (circuit : ℕ) → (bytes : List ℕ)
    → (more : Bool) → Type 0
DoesGive s n t circuit bytes more =
    (r : Result (Unit {0}) Refusal)
    × ((sent : List Sending)
    × ((n ≡ code_of r) × ClientGives s.core (handle_of circuit) bytes more r sent t.core
    × KeepsRest s t))

abbrev pub Stepping : Stepped → ClientObject → ℤ → ClientObject → (before after : ℕ) → Type 0
Stepping answer.NeedBytes s n t before after = (n ≡ pos 0) × (after ≡ before) × KeepsRest s t
Stepping (answer.Notices told) s n t before after =
    (n ≡ pos 1) × (after ≡ before) × Reports told s t
Stepping (answer.Closed k) s n t before after =
    (n ≡ pos 3) × (after ≡ why_number k.why) × EndsWith k s t

unfoldable pub DoesStep : ClientObject → ℤ → ClientObject → (circuit : ℕ) → (before after : ℕ)
    → Type 0
DoesStep s n t circuit before after =
    (did : Stepped)
    × ((sent : List Sending)
    × (ClientSteps s.core (handle_of circuit) did sent t.core × Stepping did s n t before after))

unfoldable pub DoesCut : ClientObject → ℤ → ClientObject → (circuit : ℕ) → Type 0
DoesCut s n t circuit =
    (k : Closing)
    × ((sent : List Sending)
    × (ClientCuts s.core (handle_of circuit) k sent t.core × (n ≡ pos 0) × EndsWith k s t))

unfoldable pub DoesClose : ClientObject → ℤ → ClientObject → (circuit : ℕ) → Type 0
DoesClose s n t circuit =
    (k : Closing)
    × ((sent : List Sending)
    × (ClientCloses s.core (handle_of circuit) k sent t.core × (n ≡ pos 0) × EndsWith k s t))

abbrev pub DoesOutput : ClientObject → ℕ → ClientObject → (circuit : ℕ) → (before after : List ℕ)
    → Type 0
DoesOutput s n t circuit before after =
    Shows (out_bytes s.core (handle_of circuit)) n before after × (t ≡ s)

-- the first bytes that wait were sent; refused by OutOfRange if fewer wait
abbrev pub DoesSent : ClientObject → ℤ → ClientObject → (circuit count : ℕ) → Type 0
DoesSent s n t circuit count =
    ((n ≡ pos 0) × (t.core ≡ handed_over (handle_of circuit) count s.core) × KeepsRest s t)
    ⊎ ((n ≡ refusal_code refusal.OutOfRange)
    × (length (out_bytes s.core (handle_of circuit)) < count) × (t ≡ s))

-- the first bytes that are left of the circuit that was told closed last are handed over
abbrev pub DoesLeft : ClientObject → ℕ → ClientObject → (before after : List ℕ) → Type 0
DoesLeft s n t before after = Shows s.left n before after × (t ≡ record s { left = drop n s.left })

-- ---- moments and datagrams

-- what a moment did waits for C
abbrev pub Ticks : Result Ticked Refusal → ClientObject → ClientObject → Type 0
Ticks (Ok k) s t =
    (t.searches.items ≡ k.datagrams) × (t.taken ≡ 0) × (notices_of t.ended.items ≡ k.notices)
    × (lefts_of t.ended.items ≡ k.closings)
    × (t.notices ≡ s.notices) × (t.brought ≡ s.brought) × (t.left ≡ s.left)
Ticks (Err e) s t = KeepsRest s t

unfoldable pub DoesTick : ClientObject → ℤ → ClientObject → (now : ℕ) → Type 0
DoesTick s n t now =
    (r : Result Ticked Refusal)
    × ((sent : List Sending)
    × ((n ≡ code_of r) × ClientTicks s.core now r sent t.core × Ticks r s t))

abbrev pub ShowsSearch : Option answer.Datagram → ℕ → (to_before to_after : CvzAddress)
    → (before after : List ℕ) → Type 0
ShowsSearch (Some d) n to_before to_after before after =
    Shows d.bytes n before after × (to_after ≡ record { host = d.to.host; port = d.to.port })
ShowsSearch None n to_before to_after before after =
    (n ≡ 0) × (to_after ≡ to_before) × (after ≡ before)

-- the next of the searches is handed over, if there is one
abbrev pub DoesSearch : ClientObject → ℕ → ClientObject → (to_before to_after : CvzAddress)
    → (before after : List ℕ) → Type 0
DoesSearch s n t to_before to_after before after =
    let next : Option answer.Datagram = slice_get s.searches.items s.taken in
    ShowsSearch next n to_before to_after before after
    × (t ≡ record s { taken = if is_some next then s.taken + 1 else s.taken })

-- the last of the circuits that a tick ended is handed over, if there is one
abbrev pub DoesEnded : ClientObject → ℤ → ClientObject → (before after : ℕ) → Type 0
DoesEnded s n t before after =
    ((k : Left)
    × ((n ≡ pos 1) × (s.ended.items ≡ t.ended.items ++ k ∷ []) × (after ≡ number_of k.circuit)
    × (t.notices ≡ Some k.notices) × (t.left ≡ k.bytes)
    × (t.core ≡ s.core) × (t.brought ≡ s.brought) × (t.searches ≡ s.searches)
    × (t.taken ≡ s.taken)))
    ⊎ ((n ≡ pos 0) × (s.ended.items ≡ []) × (t.ended.items ≡ []) × (after ≡ before)
    × (t ≡ record s { ended = t.ended }))

unfoldable pub DoesDatagram : ClientObject → ℤ → ClientObject → (now : ℕ) → CvzAddress
    → (bytes : List ℕ) → Type 0
DoesDatagram s n t now from bytes =
    (r : Result (Unit {0}) Refusal) × ((sent : List Sending) × ((n ≡ code_of r)
    × ClientReceives s.core
    (record { now = now; from = record { host = from.host; port = from.port }; bytes = bytes }) r
    sent t.core
    × KeepsRest s t))

-- ---- notices

-- what a notice brings to a request or a subscription
abbrev pub brought_by : Notice → Option Outcome
brought_by (notice.Completed h what) = Some what
brought_by (notice.Update h what) = Some what
brought_by told = None

abbrev pub TellsNotice : Option Notice → List answer.Notice → ClientObject → ℤ → ClientObject
    → (before after : CvzNotice) → Type 0
TellsNotice (Some told) rest s n t before after =
    (n ≡ pos 1) × (after ≡ c_notice told)
    × (t ≡ record s { notices = Some rest; brought = brought_by told })
TellsNotice None rest s n t before after =
    (n ≡ pos 0) × (after ≡ before) × (t ≡ record s { notices = Some rest })

-- the first of the notices is handed over, if there is one
abbrev pub NextOf : Option (List answer.Notice) → ClientObject → ℤ → ClientObject
    → (before after : CvzNotice) → Type 0
NextOf (Some told) s n t before after =
    (first : Option Notice)
    × ((rest : List answer.Notice)
    × (TakesNotice told first rest × TellsNotice first rest s n t before after))
NextOf None s n t before after = (n ≡ pos 0) × (after ≡ before) × (t ≡ s)

unfoldable pub DoesNext : ClientObject → ℤ → ClientObject → (before after : CvzNotice) → Type 0
DoesNext s n t before after = NextOf s.notices s n t before after

-- the image of the value that a notice brought, if it brought one
abbrev pub ImageOf : Option Outcome → ℤ → (number : ℕ) → (size_before size_after : ℕ)
    → (before after : List ℕ) → Type 0
ImageOf (Some (outcome.Value value meta)) n number size_before size_after before after =
    ShowsValue number (elements value) meta n size_before size_after before after
ImageOf (Some (outcome.Displayed value meta d)) n number size_before size_after before after =
    ShowsDisplay number (elements value) meta (data_of d.value) n size_before size_after before
    after
ImageOf brought n number size_before size_after before after =
    (n ≡ refusal_code refusal.BadType) × (size_after ≡ size_before) × (after ≡ before)

unfoldable pub DoesValue : ClientObject → ℤ → ClientObject → (number : ℕ)
    → (size_before size_after : ℕ) → (before after : List ℕ) → Type 0
DoesValue s n t number size_before size_after before after =
    ImageOf s.brought n number size_before size_after before after × (t ≡ s)

-- ---- a client begins

-- what C names as addresses
abbrev pub address_of : CvzAddress → ends.Address
address_of a = record { host = a.host; port = a.port }

abbrev pub setting_of : (user host : List ℕ) → (servers names : List CvzAddress) → (now : ℕ)
    → ClientSetting
setting_of user host servers names now =
    record {
      peer = record { user = user; host = host };
      servers = map address_of servers;
      names = map address_of names;
      now = now;
    }

-- a client that began so, of which nothing waits for C
abbrev pub IsBegun : ClientSetting → ClientObject → Type 0
IsBegun a s =
    ClientBegins a (Ok s.core) × (s.notices ≡ None) × (s.brought ≡ None) × (s.left ≡ [])
    × (s.searches.items ≡ []) × (s.taken ≡ 0) × (s.ended.items ≡ [])

-- why none began
abbrev pub MayNotBegin : ClientSetting → Refusal → Type 0
MayNotBegin a e = ClientBegins a (Err e) ⊎ (e ≡ refusal.OutOfMemory)

-- a client begins; or it is refused, and C's struct has what it had
abbrev pub Begins : ClientSetting → ℤ → Option ClientObject → Option ClientObject → Type 0
Begins a n before after =
    ((n ≡ pos 0) × ((s : ClientObject) × ((after ≡ Some s) × IsBegun a s)))
    ⊎ ((e : Refusal) × ((n ≡ refusal_code e) × MayNotBegin a e × (after ≡ before)))
