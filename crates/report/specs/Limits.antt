-- How much `watch` reads, and how much it prints at most. Document 01, "Watch", and "Replies that refuse", 13.
use Rattle.std.specs.Prelude.{ℕ, ◌+◌, ◌*◌, ◌/◌}
use Rattle.periods.specs.declared.Form.TheVariants.{Narrow}
use Rattle.periods.specs.Forms.{period_bytes}

-- "reads standard input up to 65,520 bytes"
abbrev pub input_bytes : ℕ
input_bytes = 65520

-- the most period records of an input, all of them narrow
abbrev pub input_periods : ℕ
input_periods = input_bytes / period_bytes Narrow

-- the most bytes of a verdict's name
abbrev pub name_bytes : ℕ
name_bytes = 12

-- the most bytes of a line, as of "10919 broken-after 3" with its end
abbrev pub line_bytes : ℕ
line_bytes = 21

-- room for a line for each period and one more
abbrev pub text_bytes : ℕ
text_bytes = line_bytes * (input_periods + 1)
