-- Vocabulary: what each call of C does to a server: the contract of the call of `ServerCore` that
-- it makes, with the number that it answers.
use Rattle.std.specs.Prelude.{ℕ, ℤ, pos, ◌≡◌, ◌<◌, ◌≤◌, ◌⊎◌, ◌++◌, ◌+◌, Bool, false, IfErr, List}
use Rattle.std.specs.Prelude.{[], Option, Some, None, Result, Ok, Err, drop, if◌then◌else◌, is_some}
use Rattle.std.specs.Prelude.{length, map, min, option_map, slice_get, take}
use Rattle.ca_arena.specs.declared.handle.Handle.{Handle}
use Rattle.ca_dbr.specs.declared.value.Meta.{Meta}
use Rattle.ca_dbr.specs.DisplayData.{DisplayData}
use Rattle.ca_dbr.specs.Elements.{Elements, base_of, count_of, displayed}
use Rattle.ca_dbr.specs.Held.{bare, displayed_by}
use Rattle.ca_dbr.specs.Reading.{ReadRefused}
use Rattle.ca_dbr.specs.Types.{base_number}
use Rattle.ca_display.specs.Reading.{DisplayRefused}
use Rattle.ca_ids.specs.Table.{has_free, under}
use Rattle.ca_model.specs.Ends.{Peer}
use Rattle.ca_model.specs.Server.{new_server}
use Rattle.ca_model.specs.ServerCalls.{AddsRecord, AnswersDatagram, Beacons, Finishes, Posts}
use Rattle.ca_model.specs.ServerCalls.{Removes, SetsDisplay, stamped, waiting}
use Rattle.ca_model.specs.ServerSteps.{Accepts, Cuts, Gives, Pumps, Sends, Steps, Update, output_of}
use Rattle.ca_records.specs.Record.{RecordState, unset}
use Rattle.ca_records.specs.Rules.{Rule}
use Rattle.ca_records.specs.Store.{display_at}
use Rattle.ca_script.specs.Grammar.{Refuses}
use Rattle.ca_script.specs.RecordFiles.{FileReading, SaysFile}
use Rattle.ca_server_core.specs.Asking.{NamesUnder, busy_value, first_waiting, peer_under}
use Rattle.ca_server_core.specs.Asking.{record_now}
use Rattle.ca_server_core.specs.Effects.{TellsEffect}
use Rattle.ca_server_core.specs.Serving.{stepped}
use Rattle.ca_server_core.specs.declared.stepping.CoreStep.{CoreStep}
use Rattle.ca_server_core.specs.declared.stepping.CoreStep.TheVariants.{Closed}
use Rattle.ca_text.specs.declared.refusal.Refusal.{Refusal}
use Rattle.ca_text.specs.declared.refusal.Refusal.TheVariants as refusal
use Rattle.ca_wire.specs.Fields.{Fields}
use Rattle.ca_c.specs.Answers.{CopiesValue, IsDisplayImage, IsImage, Shows, ShowsAllOf, ShowsAny}
use Rattle.ca_c.specs.Answers.{ShowsValue, Tells, code_of, handle_of, number_of, refusal_code}
use Rattle.ca_c.specs.Steps.{step_number, c_step}
use Rattle.ca_c.specs.declared.server_object.ServerObject.{ServerObject}
use Rattle.ca_c.specs.declared.step.CvzStep.{CvzStep}

-- a call changes the core, and nothing that waits for C beside it
abbrev pub KeepsRest : ServerObject → ServerObject → Type 0
KeepsRest s t = (t.left ≡ s.left) × (t.answers ≡ s.answers) × (t.taken ≡ s.taken)

-- a server that began so, of which nothing waits for C
abbrev pub IsBegun : (port now : ℕ) → List Rule → List RecordState → ServerObject → Type 0
IsBegun port now rules records s =
    (s.core ≡ new_server port now rules records) × (s.left ≡ []) × (s.answers.items ≡ [])
    × (s.taken ≡ 0)

-- a server with no record begins; or there is no memory, and C's struct has what it had
abbrev pub Begins : (port now : ℕ) → ℤ → Option ServerObject → Option ServerObject → Type 0
Begins port now n before after =
    ((n ≡ pos 0) × ((s : ServerObject) × ((after ≡ Some s) × IsBegun port now [] [] s)))
    ⊎ ((n ≡ refusal_code refusal.OutOfMemory) × (after ≡ before))

-- a server with the records and the rules of access that a record file says
abbrev pub IsLoaded : (port now : ℕ) → (text : List ℕ) → ServerObject → Type 0
IsLoaded port now text s =
    (file : FileReading) × (SaysFile text file × IsBegun port now file.rules file.records s)

-- a server with those begins; or the file is refused, and C's struct has what it had
abbrev pub Loads : (port now : ℕ) → (text : List ℕ) → ℤ → Option ServerObject → Option ServerObject
    → Type 0
Loads port now text n before after =
    ((n ≡ pos 0) × ((s : ServerObject) × ((after ≡ Some s) × IsLoaded port now text s)))
    ⊎ ((e : Refusal) × ((n ≡ refusal_code e) × Refuses (SaysFile text) e × (after ≡ before)))

abbrev pub DoesAccept : ServerObject → ℤ → ServerObject → (before after : ℕ) → Type 0
DoesAccept s n t before after =
    (r : Result Handle Refusal)
    × ((n ≡ code_of r) × Accepts s.core r t.core
    × IfErr r (λ e. e ≡ refusal.OutOfMemory → has_free s.core.circuits ≡ false)
    × Tells number_of r before after × KeepsRest s t)

abbrev pub DoesGive : ServerObject → ℤ → ServerObject → (circuit : ℕ) → (bytes : List ℕ) → Type 0
DoesGive s n t circuit bytes =
    (r : Result (Unit {0}) Refusal)
    × ((n ≡ code_of r) × Gives s.core (handle_of circuit) bytes r t.core × KeepsRest s t)

-- what is left to be sent on the circuit that closed last
abbrev pub left_after : CoreStep → List ℕ → List ℕ
left_after (Closed why left) before = left
left_after did before = before

unfoldable pub DoesStep : ServerObject → ℤ → ServerObject → (circuit : ℕ) → CvzStep → Type 0
DoesStep s n t circuit told = (did : CoreStep) × ((n ≡ step_number did) × (told ≡ c_step did)
    × Steps s.core (handle_of circuit) (stepped did) t.core
    × TellsEffect s.core (handle_of circuit) did t.core
    × (t.left ≡ left_after did s.left) × (t.answers ≡ s.answers) × (t.taken ≡ s.taken))

unfoldable pub DoesPump : ServerObject → ℤ → ServerObject → (circuit : ℕ) → Type 0
DoesPump s n t circuit =
    (n ≡ pos 0) × ((updates : List Update) × Pumps s.core (handle_of circuit) updates t.core)
    × KeepsRest s t

abbrev pub DoesCut : ServerObject → ℤ → ServerObject → (circuit : ℕ) → Type 0
DoesCut s n t circuit = (n ≡ pos 0) × Cuts s.core (handle_of circuit) t.core × KeepsRest s t

abbrev pub DoesStamp : ServerObject → ℤ → ServerObject → (seconds nanos : ℕ) → Type 0
DoesStamp s n t seconds nanos =
    (n ≡ pos 0) × (t.core ≡ stamped (record { seconds = seconds; nanos = nanos }) s.core)
    × KeepsRest s t

abbrev pub DoesOutput : ServerObject → ℕ → ServerObject → (circuit : ℕ) → (before after : List ℕ)
    → Type 0
DoesOutput s n t circuit before after =
    Shows (output_of (under s.core.circuits (handle_of circuit))) n before after × (t ≡ s)

-- the first bytes that wait were sent; refused by OutOfRange if fewer wait
abbrev pub DoesSent : ServerObject → ℤ → ServerObject → (circuit count : ℕ) → Type 0
DoesSent s n t circuit count =
    ((n ≡ pos 0) × Sends s.core (handle_of circuit) count t.core × KeepsRest s t)
    ⊎ ((n ≡ refusal_code refusal.OutOfRange)
    × (length (output_of (under s.core.circuits (handle_of circuit))) < count) × (t ≡ s))

-- the first bytes that are left of the circuit that closed last are handed over
abbrev pub DoesLeft : ServerObject → ℕ → ServerObject → (before after : List ℕ) → Type 0
DoesLeft s n t before after =
    Shows s.left n before after × (t.left ≡ drop n s.left) × (t.core ≡ s.core)
    × (t.answers ≡ s.answers) × (t.taken ≡ s.taken)

-- one more record, whose image is of a type without display data
unfoldable pub AddsPlain : ServerObject → ℤ → ServerObject → (name : List ℕ) → (greatest : ℕ)
    → (slow : Bool) → (number count : ℕ) → (image : List ℕ) → Type 0
AddsPlain s n t name greatest slow number count image =
    ((r : Result (Unit {0}) Refusal)
    × ((value : Elements)
    × ((meta : Meta) × ((behind : ℕ) × ((n ≡ code_of r) × IsImage number count image value meta
    × AddsRecord s.core
    (record { name = name; count = greatest; slow = slow; value = value; meta = unset }) behind r
    t.core
    × KeepsRest s t)))))
    ⊎ ((e : Refusal) × ((n ≡ refusal_code e) × ReadRefused number count image e × (t ≡ s)))

-- one more record, which has the display data of its image
unfoldable pub AddsDisplayed : ServerObject → ℤ → ServerObject → (name : List ℕ) → (greatest : ℕ)
    → (slow : Bool) → (number count : ℕ) → (image : List ℕ) → Type 0
AddsDisplayed s n t name greatest slow number count image =
    ((r : Result (Unit {0}) Refusal)
    × ((value : Elements)
    × ((meta : Meta)
    × ((display : DisplayData)
    × ((behind : ℕ) × ((n ≡ code_of r) × IsDisplayImage number count image value meta display
    × AddsRecord s.core
    (record {
      name = name;
      count = greatest;
      slow = slow;
      value = displayed display value;
      meta = unset;
    })
    behind r t.core
    × KeepsRest s t))))))
    ⊎ ((e : Refusal) × ((n ≡ refusal_code e) × DisplayRefused number count image e × (t ≡ s)))

unfoldable pub DoesAdd : ServerObject → ℤ → ServerObject → (name : List ℕ) → (greatest : ℕ)
    → (slow : Bool) → (number count : ℕ) → (image : List ℕ) → Type 0
DoesAdd s n t name greatest slow number count image =
    ((number < 21) × AddsPlain s n t name greatest slow number count image)
    ⊎ ((21 ≤ number) × AddsDisplayed s n t name greatest slow number count image)

unfoldable pub DoesRemove : ServerObject → ℤ → ServerObject → (name : List ℕ) → Type 0
DoesRemove s n t name =
    (r : Result (Unit {0}) Refusal)
    × ((gone : Handle → Bool)
    × ((left : Handle → ℕ)
    × ((n ≡ code_of r) × Removes s.core name gone left r t.core × KeepsRest s t)))

unfoldable pub DoesPost : ServerObject → ℤ → ServerObject → (name : List ℕ)
    → (mask number count : ℕ) → (image : List ℕ) → Type 0
DoesPost s n t name mask number count image =
    ((r : Result (Unit {0}) Refusal)
    × ((value : Elements)
    × ((meta : Meta)
    × ((gone : Handle → Bool) × ((n ≡ code_of r) × IsImage number count image value meta
    × Posts s.core name
    (record { value = displayed_by (display_at s.core.records name) value; meta = meta }) mask gone
    r t.core
    × KeepsRest s t)))))
    ⊎ ((e : Refusal) × ((n ≡ refusal_code e) × ReadRefused number count image e × (t ≡ s)))

-- the record is shown by the display data of this image
unfoldable pub DoesSetDisplay : ServerObject → ℤ → ServerObject → (name : List ℕ)
    → (number count : ℕ) → (image : List ℕ) → Type 0
DoesSetDisplay s n t name number count image =
    ((r : Result (Unit {0}) Refusal)
    × ((value : Elements)
    × ((meta : Meta)
    × ((display : DisplayData)
    × ((gone : Handle → Bool) × ((n ≡ code_of r)
    × IsDisplayImage number count image value meta display
    × SetsDisplay s.core name display gone r t.core
    × KeepsRest s t))))))
    ⊎ ((e : Refusal) × ((n ≡ refusal_code e) × DisplayRefused number count image e × (t ≡ s)))

unfoldable pub DoesFinish : ServerObject → ℤ → ServerObject → (name : List ℕ) → Type 0
DoesFinish s n t name =
    (r : Result (Unit {0}) Refusal)
    × ((sent : List (Handle × Fields))
    × ((n ≡ code_of r) × Finishes s.core name sent r t.core × KeepsRest s t))

-- the value for which a put makes the record busy is shown, in the record's own type; refused by
-- NotBusy if none does
abbrev pub ShowsBusy : Option Elements → ℤ → (size_before size_after : ℕ) → (before after : List ℕ)
    → Type 0
ShowsBusy (Some value) n size_before size_after before after =
    ShowsValue (base_number (base_of value)) (bare value) unset n size_before size_after before
    after
ShowsBusy None n size_before size_after before after =
    (n ≡ refusal_code refusal.NotBusy) × (size_after ≡ size_before) × (after ≡ before)

unfoldable pub DoesBusy : ServerObject → ℤ → ServerObject → (name : List ℕ)
    → (size_before size_after : ℕ) → (before after : List ℕ) → Type 0
DoesBusy s n t name size_before size_after before after =
    ShowsBusy (busy_value s.core name) n size_before size_after before after × (t ≡ s)

-- The record's value with its metadata is shown in this type, and its count is told; refused by
-- UnknownRecord if there is no record, or as the image is.
abbrev pub ShowsRecord : Option RecordState → (number : ℕ) → ℤ
    → (count_before count_after size_before size_after : ℕ) → (before after : List ℕ) → Type 0
ShowsRecord (Some r) number n count_before count_after size_before size_after before after =
    (x : Result (Unit {0}) Refusal)
    × ((n ≡ code_of x)
    × CopiesValue number (bare r.value) r.meta x size_before size_after before after
    × Tells (λ (u : Unit {0}). count_of r.value) x count_before count_after)
ShowsRecord None number n count_before count_after size_before size_after before after =
    (n ≡ refusal_code refusal.UnknownRecord) × (count_after ≡ count_before)
    × (size_after ≡ size_before) × (after ≡ before)

unfoldable pub DoesValue : ServerObject → ℤ → ServerObject → (name : List ℕ)
    → (number count_before count_after size_before size_after : ℕ) → (before after : List ℕ)
    → Type 0
DoesValue s n t name number count_before count_after size_before size_after before after =
    ShowsRecord
    (record_now s.core name) number n count_before count_after size_before size_after before after
    × (t ≡ s)

-- the number of the circuit, or none
abbrev pub TellsCircuit : Option Handle → ℤ → (before after : ℕ) → Type 0
TellsCircuit (Some h) n before after = (n ≡ pos 1) × (after ≡ number_of h)
TellsCircuit None n before after = (n ≡ pos 0) × (after ≡ before)

unfoldable pub DoesFirst : ServerObject → ℤ → ServerObject → (name : List ℕ) → (before after : ℕ)
    → Type 0
DoesFirst s n t name before after =
    TellsCircuit (first_waiting s.core name) n before after × (t ≡ s)

-- the answers to a datagram wait for C, and none of them was taken
abbrev pub Answered : Result (List (List ℕ)) Refusal → ServerObject → ServerObject → Type 0
Answered (Ok datagrams) s t =
    (map (λ d. d.items) t.answers.items ≡ datagrams) × (t.taken ≡ 0) × (t.core ≡ s.core)
    × (t.left ≡ s.left)
Answered (Err e) s t = t ≡ s

unfoldable pub DoesDatagram : ServerObject → ℤ → ServerObject → (bytes : List ℕ) → Type 0
DoesDatagram s n t bytes =
    (r : Result (List (List ℕ)) Refusal)
    × ((n ≡ code_of r) × AnswersDatagram s.core bytes r × Answered r s t)

-- the next of the datagrams that answer is handed over, if there is one
abbrev pub DoesAnswer : ServerObject → ℕ → ServerObject → (before after : List ℕ) → Type 0
DoesAnswer s n t before after =
    let next : Option (List ℕ) = option_map (λ d. d.items) (slice_get s.answers.items s.taken) in
    ShowsAny next n before after
    × (t ≡ record s { taken = if is_some next then s.taken + 1 else s.taken })

unfoldable pub DoesBeacon : ServerObject → ℕ → ServerObject → (now : ℕ) → (before after : List ℕ)
    → Type 0
DoesBeacon s n t now before after =
    (due : Option (List ℕ))
    × (Beacons s.core now due t.core × ShowsAny due n before after × KeepsRest s t)

abbrev pub DoesApplied : ServerObject → ℕ → ServerObject → Type 0
DoesApplied s n t = (n ≡ s.core.applied) × (t ≡ s)

abbrev pub DoesWaiting : ServerObject → ℕ → ServerObject → Type 0
DoesWaiting s n t = (n ≡ waiting s.core) × (t ≡ s)

unfoldable pub DoesName : ServerObject → ℕ → ServerObject → (circuit sid : ℕ)
    → (before after : List ℕ) → Type 0
DoesName s n t circuit sid before after =
    (name : Option (List ℕ))
    × (NamesUnder (under s.core.circuits (handle_of circuit)) sid name
    × ShowsAny name n before after × (t ≡ s))

unfoldable pub DoesUser : ServerObject → ℕ → ServerObject → (circuit : ℕ) → (before after : List ℕ)
    → Type 0
DoesUser s n t circuit before after =
    ShowsAllOf
    (option_map (λ (p : Peer). p.user) (peer_under (under s.core.circuits (handle_of circuit)))) n
    before after
    × (t ≡ s)

unfoldable pub DoesHost : ServerObject → ℕ → ServerObject → (circuit : ℕ) → (before after : List ℕ)
    → Type 0
DoesHost s n t circuit before after =
    ShowsAllOf
    (option_map (λ (p : Peer). p.host) (peer_under (under s.core.circuits (handle_of circuit)))) n
    before after
    × (t ≡ s)
