-- Working: what a moment does to a client's circuits, each kind of it after the other. No clause
-- of a caller needs it.
use Rattle.std.specs.Prelude.{ℕ, ◌≢◌, ◌≡◌, ◌&&◌, Bool, true, false, not, List, [], Option, filter}
use Rattle.std.specs.Prelude.{fold, if◌then◌else◌}
use Rattle.ca_arena.specs.declared.handle.Handle.{Handle}
use Rattle.ca_link.specs.declared.keep.Keep.{Keep}
use Rattle.ca_link.specs.declared.keep.Keep.TheVariants.{Close, Echo}
use Rattle.ca_search.specs.Searches.{Wanted}
use Rattle.ca_model.specs.Client.{Client, Connection, connection_at}
use Rattle.ca_model.specs.ClientEnds.{Ticking, all_searched_on, echoes, falls_silent}
use Rattle.ca_model.specs.ClientEnds.{is_name_connected}
use Rattle.ca_client_tables.specs.Silences.{asked_in}

-- an ECHO is asked for
abbrev pub is_echo : Keep → Bool
is_echo Echo = true
is_echo k = false

-- the end is asked for
abbrev pub is_close : Keep → Bool
is_close Close = true
is_close k = false

-- what the client's moment asks of a circuit
abbrev pub asked_at : Client → Handle → Keep
asked_at x c = asked_in x.moment (connection_at x c)

abbrev pub asks_in : (Keep → Bool) → ℕ → Option Connection → Bool
asks_in test moment o = test (asked_in moment o)

-- an ECHO is due on a circuit
abbrev pub is_echo_due : Client → Handle → Bool
is_echo_due x c = asks_in is_echo x.moment (connection_at x c)

-- a circuit was silent too long
abbrev pub is_silent : Client → Handle → Bool
is_silent x c = asks_in is_close x.moment (connection_at x c)

-- searches go out on a circuit: it is a name server's, connected, and not silent too long
abbrev pub is_searched_on : Client → Handle → Bool
is_searched_on x c = is_name_connected x c && not (is_silent x c)

-- the ECHO of a circuit, if it is due
abbrev pub echo_step : Ticking → Handle → Ticking
echo_step t c = if is_echo_due t.core c then echoes c t else t

-- these searches on a circuit, if it is one for them
abbrev pub search_step : List Wanted → Ticking → Handle → Ticking
search_step ws t c = if is_searched_on t.core c then all_searched_on ws t c else t

-- the end of a circuit, if it was silent too long
abbrev pub end_step : Ticking → Handle → Ticking
end_step t c = if is_silent t.core c then falls_silent c t else t

-- the same on each of these circuits, in order
abbrev pub all_echoed : List Handle → Ticking → Ticking
all_echoed cs t = fold echo_step t cs

abbrev pub all_searched : List Wanted → List Handle → Ticking → Ticking
all_searched ws cs t = fold (search_step ws) t cs

abbrev pub all_ended : List Handle → Ticking → Ticking
all_ended cs t = fold end_step t cs

-- the circuits that were silent too long
abbrev pub silent_of : Client → List Handle → List Handle
silent_of x cs = filter (is_silent x) cs

-- The ECHOs that are due on the client's circuits went out.
abbrev pub EchoesAll : Client → Client → Type 0
EchoesAll x y = (t : Ticking) → t.core ≡ x → y ≡ (all_echoed x.order t).core

-- One is due.
abbrev pub EchoIsDue : Client → Type 0
EchoIsDue x = (t : Ticking) → t.core ≡ x → (all_echoed x.order t).sent ≢ []
