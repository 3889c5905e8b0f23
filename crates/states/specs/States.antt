-- States, their bytes, and which are sound. Document 01, "Image and row machine", from "State".
use Rattle.std.specs.Prelude.{ℕ, ◌+◌, Bool, true, ◌&&◌, cond, List, [], ◌∷◌, ◌++◌, eqb, leb, get_or, drop, replicate, ◌≡◌, ◌<◌, Result, MatchResult}
use Rattle.std.specs.Bool.{beq}
use Rattle.records.specs.Fields.{bytes, field}
use Rattle.states.specs.Limits.{head_bytes}
use Rattle.states.specs.declared.NoOutcome.{NoOutcome}
use Rattle.states.specs.declared.Outcome.{Outcome}
use Rattle.states.specs.declared.Outcome.TheVariants.{Undecided, Satisfied, Violated}
use Rattle.states.specs.declared.StateHead.{StateHead}

-- outcome (0 undecided, 1 satisfied, 2 violated); blame; periods taken; decision period, 0 for none; each row's last value, 0 or 1
pub record State : Type 0 where
  pub outcome : ℕ
  pub blame : ℕ
  pub periods : ℕ
  pub decision : ℕ
  pub values : List ℕ

-- a state's bytes: one of outcome, one of blame, four of periods taken, four of the decision period, one of each row
unfoldable pub state_bytes : State → List ℕ
state_bytes s = s.outcome ∷ s.blame ∷ (bytes 4 s.periods ++ (bytes 4 s.decision ++ s.values))

-- the state that bytes hold
unfoldable pub state_of : List ℕ → State
state_of l =
    record { outcome = get_or l 0 0; blame = get_or l 1 0; periods = field l 2 4; decision = field l 6 4; values = drop head_bytes l }

-- a state's first fields
abbrev pub head_of : State → StateHead
head_of s = record { outcome = s.outcome; blame = s.blame; periods = s.periods; decision = s.decision }

-- an outcome's number, and what a number is read as: its outcome, or that it is above all of theirs
abbrev pub outcome_number : Outcome → ℕ
outcome_number Undecided = 0
outcome_number Satisfied = 1
outcome_number Violated = 2

abbrev pub Numbers : ℕ → Result Outcome NoOutcome → Type 0
Numbers n r = MatchResult r (λ o. outcome_number o ≡ n) (λ _. 2 < n)

-- a fresh state's bytes, for n rows: "Begin sets a state to zeros."
abbrev pub fresh_bytes : ℕ → List ℕ
fresh_bytes n = replicate (head_bytes + n) 0

-- every value is at most m
unfoldable pub all_at_most : ℕ → List ℕ → Bool
all_at_most m [] = true
all_at_most m (v ∷ vs) = leb v m && all_at_most m vs

-- every field but periods taken, which is 0 where this is asked
unfoldable pub all_zero : State → Bool
all_zero s = eqb s.outcome 0 && eqb s.blame 0 && eqb s.decision 0 && all_at_most 0 s.values

-- "A state is sound when outcome is at most 2, row values are 0 or 1, blame is 1 to 3 exactly for outcome 2 and else 0, decision is
-- 0 exactly for outcome 0 and never above periods taken, and all is 0 when none are taken."
unfoldable pub sound : State → Bool
sound s =
    leb s.outcome 2
    && all_at_most 1 s.values
    && cond (eqb s.outcome 2) (leb 1 s.blame && leb s.blame 3) (eqb s.blame 0)
    && beq (eqb s.decision 0) (eqb s.outcome 0)
    && leb s.decision s.periods
    && cond (eqb s.periods 0) (all_zero s) true
