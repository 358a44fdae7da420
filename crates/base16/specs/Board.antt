-- Where things stand in the board's memory, in byte addresses, and the numbers that go with them.
use Rattle.std.specs.Prelude.{ℕ, ◌+◌, ◌*◌}

-- the outputs: their length word, then 256 words
abbrev pub outputs_start : ℕ
outputs_start = 0x1A00

abbrev pub outputs_end : ℕ
outputs_end = 0x1C02

abbrev pub most_outputs : ℕ
most_outputs = 256

-- the stack: 32 segments of 256 bytes, segment 0 first
abbrev pub stack_start : ℕ
stack_start = 0x2000

abbrev pub stack_end : ℕ
stack_end = 0x4000

abbrev pub segment_bytes : ℕ
segment_bytes = 256

abbrev pub segment_count : ℕ
segment_count = 32

-- the first byte address of a stack segment
abbrev pub segment_start : ℕ → ℕ
segment_start segment = stack_start + segment_bytes * segment

-- the first byte address behind a stack segment
abbrev pub segment_top : ℕ → ℕ
segment_top segment = segment_start segment + segment_bytes

-- no frame has more bytes
abbrev pub most_frame_bytes : ℕ
most_frame_bytes = 240

-- globals, then stamps
abbrev pub data_start : ℕ
data_start = 0x4000

abbrev pub data_end : ℕ
data_end = 0x8000

-- code, then check tables
abbrev pub code_start : ℕ
code_start = 0x8000

abbrev pub code_end : ℕ
code_end = 0xF000

-- the entry of service n is the address 2 n behind the first one's
abbrev pub services_start : ℕ
services_start = 0xFF00

abbrev pub services_end : ℕ
services_end = 0xFF40

abbrev pub service_entry : ℕ → ℕ
service_entry n = services_start + 2 * n

-- the stack pointer at the start, the top of segment 0
abbrev pub first_stack_pointer : ℕ
first_stack_pointer = 0x2100
