-- A limit of document 02, "Thirty-two actions": "From here the meaning ranges over periods of 32 actions."
use Rattle.std.specs.Prelude.{ℕ}

-- how many actions there are, numbered from 0
abbrev pub actions : ℕ
actions = 32
