-- Vectors of the row machine. What is expected stands in numbers and bytes alone, from document 01's text.
use Rattle.std.specs.Prelude.{ℕ, Bool, true, false, List, [], ◌∷◌, ◌++◌, map, ◌≡◌, take, replicate}
use Rattle.periods.specs.Periods.{Period}
use Rattle.layout.specs.Rows.{previous}
use Rattle.layout.specs.Images.{row_count, image_of}
use Rattle.layout.specs.Examples.{row, end}
use Rattle.states.specs.States.{state_of, state_bytes}
use Rattle.states.specs.Examples.{state}
use Rattle.machine.specs.Machine.{value, after_periods}

-- a period of two masks
abbrev pub tried : (one two : ℕ) → Period
tried one two = record { attempts1 = one; attempts2 = two }

-- the state's bytes after the first n of some periods, begun with zeros
abbrev pub after : (image : List ℕ) → List Period → (n : ℕ) → List ℕ
after image w n = state_bytes (after_periods (image_of image) (state_of (state 0 0 0 0 (replicate (row_count image) 0))) (take n w))

-- a row of each kind, 6 of a lower and of a higher row; none decides
abbrev pub all_kinds : List ℕ
all_kinds =
    row 0 0 0 ++ row 1 0 0 ++ row 2 1 0 ++ row 2 2 1 ++ row 3 2 0 ++ row 4 2 3 ++ row 5 2 3 ++ row 6 2 0 ++ row 6 9 0 ++ row 3 3 0 ++ end 0 0 0

-- rows 0 and 2 of kind 6 name themselves; none decides
abbrev pub own_rows : List ℕ
own_rows = row 6 0 0 ++ row 0 0 0 ++ row 6 2 0 ++ end 1 1 1

-- the state's bytes after one period that finds these
abbrev pub next : (image found : List ℕ) → List ℕ
next image found = state_bytes (after_periods (image_of image) (state_of found) (tried 0 0 ∷ []))

-- four rows: false; true in period 2 alone; party 1 tries action 0; true in period 1
abbrev pub decided_by : (S V1 V2 : ℕ) → List ℕ
decided_by s v w = row 0 0 0 ++ row 6 3 0 ++ row 2 1 0 ++ row 1 0 0 ++ end s v w

-- after two periods
abbrev pub second : (S V1 V2 : ℕ) → List ℕ
second s v w = after (decided_by s v w) (tried 1 0 ∷ tried 0 0 ∷ []) 2

pub record MachineVectors : Type 0 where
  -- on a/b, a/-, -/b, -/-
  pub kinds : map (after all_kinds (tried 1 2 ∷ tried 1 0 ∷ tried 0 2 ∷ tried 0 0 ∷ [])) (1 ∷ 2 ∷ 3 ∷ 4 ∷ [])
      ≡ state 0 0 1 0 (0 ∷ 1 ∷ 1 ∷ 1 ∷ 0 ∷ 1 ∷ 1 ∷ 0 ∷ 0 ∷ 0 ∷ [])
      ∷ state 0 0 2 0 (0 ∷ 0 ∷ 1 ∷ 0 ∷ 0 ∷ 0 ∷ 1 ∷ 1 ∷ 0 ∷ 1 ∷ [])
      ∷ state 0 0 3 0 (0 ∷ 0 ∷ 0 ∷ 1 ∷ 1 ∷ 0 ∷ 1 ∷ 1 ∷ 1 ∷ 0 ∷ [])
      ∷ state 0 0 4 0 (0 ∷ 0 ∷ 0 ∷ 0 ∷ 1 ∷ 0 ∷ 0 ∷ 0 ∷ 0 ∷ 1 ∷ [])
      ∷ []
  -- "false in period 1", whatever the values before are
  pub previous_first : map (λ (first : Bool). value first (tried 0 0) (true ∷ []) [] (previous 0)) (true ∷ false ∷ []) ≡ false ∷ true ∷ []
  -- "in 6 any row of the image": its own too, whose value then stays
  pub own_row : map (λ (values : List ℕ). next own_rows (state 0 0 5 0 values)) ((1 ∷ 0 ∷ 1 ∷ []) ∷ (0 ∷ 0 ∷ 1 ∷ []) ∷ (1 ∷ 0 ∷ 0 ∷ []) ∷ [])
      ≡ state 0 0 6 0 (1 ∷ 0 ∷ 1 ∷ []) ∷ state 0 0 6 0 (0 ∷ 0 ∷ 1 ∷ []) ∷ state 0 0 6 0 (1 ∷ 0 ∷ 0 ∷ []) ∷ []
  -- "decides if S, V1 or V2 is then true": none; "otherwise satisfied": S alone
  pub undecided : second 0 0 0 ≡ state 0 0 2 0 (0 ∷ 1 ∷ 0 ∷ 0 ∷ [])
  pub satisfied : second 1 0 0 ≡ state 1 0 2 2 (0 ∷ 1 ∷ 0 ∷ 0 ∷ [])
  -- "violated if V1 or V2 is, blame 1, 2 or 3 accordingly"
  pub violated : second 0 1 0 ∷ second 0 0 1 ∷ second 0 1 1 ∷ []
      ≡ state 2 1 2 2 (0 ∷ 1 ∷ 0 ∷ 0 ∷ []) ∷ state 2 2 2 2 (0 ∷ 1 ∷ 0 ∷ 0 ∷ []) ∷ state 2 3 2 2 (0 ∷ 1 ∷ 0 ∷ 0 ∷ []) ∷ []
  -- S and V1 are one row, S and V2, all three
  pub violated_first : second 1 1 0 ∷ second 1 0 1 ∷ second 1 1 1 ∷ []
      ≡ state 2 1 2 2 (0 ∷ 1 ∷ 0 ∷ 0 ∷ []) ∷ state 2 2 2 2 (0 ∷ 1 ∷ 0 ∷ 0 ∷ []) ∷ state 2 3 2 2 (0 ∷ 1 ∷ 0 ∷ 0 ∷ []) ∷ []
  -- "After the decision a step raises only periods taken.": satisfied in period 1, and V1 would be true in period 2
  pub after_decision : map (after (decided_by 2 1 0) (tried 1 0 ∷ tried 0 0 ∷ [])) (1 ∷ 2 ∷ [])
      ≡ state 1 0 1 1 (0 ∷ 0 ∷ 1 ∷ 1 ∷ []) ∷ state 1 0 2 1 (0 ∷ 0 ∷ 1 ∷ 1 ∷ []) ∷ []
