-- The statuses, by their numbers (section "Status Codes"). The constants of the code are proved to
-- be these (`statuses_are_these`).
use Rattle.std.specs.Prelude.{ℕ}

-- it went well
abbrev pub normal : ℕ
normal = 1

-- there was no memory
abbrev pub alloc_mem : ℕ
alloc_mem = 48

-- the type does not exist, or not here
abbrev pub bad_type : ℕ
bad_type = 114

-- the peer failed within itself
abbrev pub internal : ℕ
internal = 142

-- the value could not be had in the wanted type
abbrev pub get_fail : ℕ
get_fail = 152

-- the value could not be put
abbrev pub put_fail : ℕ
put_fail = 160

-- the subscription could not be made
abbrev pub add_fail : ℕ
add_fail = 168

-- more elements than there may be, or none
abbrev pub bad_count : ℕ
bad_count = 176

-- the channel is not connected
abbrev pub disconn : ℕ
disconn = 192

-- the right to read is missing
abbrev pub no_read_access : ℕ
no_read_access = 368

-- the right to write is missing
abbrev pub no_write_access : ℕ
no_write_access = 376

-- no conversion between these types
abbrev pub no_convert : ℕ
no_convert = 400

-- no open channel has this SID
abbrev pub bad_channel : ℕ
bad_channel = 410
