-- The limits of documents 01 and 02, each named once; src/lib.rt has them for the code.
use Rattle.std.specs.Prelude.{ℕ, ◌^◌}

-- refusals 2 and 5: n is 2..8
abbrev pub least_channels : ℕ
least_channels = 2

abbrev pub most_channels : ℕ
most_channels = 8

-- 'sweep limit (1..16)'
abbrev pub least_sweeps : ℕ
least_sweeps = 1

abbrev pub most_sweeps : ℕ
most_sweeps = 16

-- refusal 3: 'There are 2 to 256 of them'
abbrev pub least_samples : ℕ
least_samples = 2

abbrev pub most_samples : ℕ
most_samples = 256

-- 'dilution (1..100) and n counts (0..65,535)'
abbrev pub least_dilution : ℕ
least_dilution = 1

abbrev pub most_dilution : ℕ
most_dilution = 100

abbrev pub most_count : ℕ
most_count = 65_535

-- refusal 8: an entry beyond ±2,097,152 (document 02, W9)
abbrev pub entry_limit : ℕ
entry_limit = 2_097_152

-- the entry limit of document 01, before W9
abbrev pub former_entry_limit : ℕ
former_entry_limit = 1_048_576

-- refusal 2: a tolerance beyond 1,048,576 units
abbrev pub tolerance_limit : ℕ
tolerance_limit = 1_048_576

-- refusal 11: the turns of one matrix
abbrev pub turn_limit : ℕ
turn_limit = 448

-- document 02, W8: 'a bench from 1 to 4'
abbrev pub benches : ℕ
benches = 4

-- 'The count stops at 4,294,967,295'
abbrev pub refused_limit : ℕ
refused_limit = 4_294_967_295

-- kept entries are the loaded ones times 1024 (the unit is 1/1024)
abbrev pub units : ℕ
units = 1024

-- document 02, W5: half a table entry in units, which r_i gains for each channel where the table was rounded
abbrev pub half_entry : ℕ
half_entry = 512

-- the greatest shift e: 256 samples at dilution 100, half of them 0 and half 65,535, have 40 under the former entry limit
abbrev pub most_shift : ℕ
most_shift = 40

-- v is 2^30 on the diagonal
abbrev pub whole : ℕ
whole = 2 ^ 30

-- 'The program `axes` reads at most 16,384 bytes of standard input'
abbrev pub most_bytes : ℕ
most_bytes = 16_384

-- 'A number is 1 to 7 decimal digits'
abbrev pub most_digits : ℕ
most_digits = 7

-- document 02, W14: 'up to 10,000 jobs'
abbrev pub most_jobs : ℕ
most_jobs = 10_000
