-- The numbers of the protocol and of this implementation: one table, which every definition cites.
-- The constants of the code are proved to be these (`limits_are_these`).
use Rattle.std.specs.Prelude.{ℕ, ◌-◌, ◌^◌}

-- the minor version of the protocol
abbrev pub minor_version : ℕ
minor_version = 13

-- bytes of a payload, at most
abbrev pub payload_limit : ℕ
payload_limit = 16777216

-- bytes of a datagram that is written, at most
abbrev pub datagram_limit : ℕ
datagram_limit = 1024

-- bytes of a channel's name, at most
abbrev pub channel_name_limit : ℕ
channel_name_limit = 500

-- bytes of a record's name, at most
abbrev pub record_name_limit : ℕ
record_name_limit = 60

-- elements of a record's value, at most
abbrev pub element_limit : ℕ
element_limit = 262144

-- channels of a circuit, at most
abbrev pub channel_limit : ℕ
channel_limit = 65536

-- slots of an arena, and so channels, requests or subscriptions of one table
abbrev pub arena_slots : ℕ
arena_slots = 65536

-- the last generation of an index, and of a cell of the board
abbrev pub last_generation : ℕ
last_generation = 2 ^ 32 - 1

-- cells of the board on which outcomes pass between threads
abbrev pub board_cells : ℕ
board_cells = 1024

-- places of an event queue
abbrev pub queue_places : ℕ
queue_places = 144

-- with as many free places or fewer a post replaces the last entry of its subscription
abbrev pub queue_low_places : ℕ
queue_low_places = 36

-- subscriptions of an event queue, at most
abbrev pub queue_subscriptions : ℕ
queue_subscriptions = 36

-- event queues of a circuit
abbrev pub circuit_queues : ℕ
circuit_queues = 8

-- puts that wait for a busy record, at most
abbrev pub waiting_puts : ℕ
waiting_puts = 16

-- bytes that wait to be sent on a circuit, from which on nothing more is queued
abbrev pub output_limit : ℕ
output_limit = 262144

-- the greatest priority of a circuit
abbrev pub priority_limit : ℕ
priority_limit = 99

-- members of a repeater, at most
abbrev pub repeater_members : ℕ
repeater_members = 64

-- servers whose beacons a client keeps apart, at most
abbrev pub beacon_servers : ℕ
beacon_servers = 1024

-- the port of a server, over TCP and UDP
abbrev pub server_port : ℕ
server_port = 5064

-- the port of the host's repeater
abbrev pub repeater_port : ℕ
repeater_port = 5065

-- calls of its source and its sink together that one circuit's engine makes, at most
abbrev pub engine_turns : ℕ
engine_turns = 1048576

-- milliseconds without received bytes after which a client sends an ECHO
abbrev pub echo_silence : ℕ
echo_silence = 30000

-- milliseconds without received bytes after which a client closes the circuit
abbrev pub close_silence : ℕ
close_silence = 35000

-- reads in a row that left bytes waiting, after which a client asks for a pause of updates
abbrev pub flow_reads : ℕ
flow_reads = 10

-- search replies in one datagram of a server, at most
abbrev pub datagram_replies : ℕ
datagram_replies = 42

-- the number at which a server's count of applied writes stays
abbrev pub applied_limit : ℕ
applied_limit = 2 ^ 63
