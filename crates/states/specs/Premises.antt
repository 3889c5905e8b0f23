-- What the functions of this crate ask of a state, and what they tell of its first fields.
use Rattle.std.specs.Prelude.{ℕ, ◌≤◌, List, length}
use Rattle.states.specs.Limits.{head_bytes}
use Rattle.states.specs.States.{state_of}

-- what soundness asks of outcome, blame, periods taken and decision period alone
pub data SoundHead : (outcome blame periods decision : ℕ) → Type 0 where
  undecided : {periods : ℕ} → SoundHead 0 0 periods 0
  satisfied : {periods decision : ℕ} → 1 ≤ decision → decision ≤ periods → SoundHead 1 0 periods decision
  violated : {blame periods decision : ℕ} → 1 ≤ blame → blame ≤ 3 → 1 ≤ decision → decision ≤ periods → SoundHead 2 blame periods decision

-- a state's head, with a decision period that is not above periods taken
pub record Answering (state : List ℕ) : Type 0 where
  pub head : head_bytes ≤ length state
  pub decided_by_now : (state_of state).decision ≤ (state_of state).periods
