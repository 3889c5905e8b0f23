-- Parties, periods and what is tried in them. Document 01, "Records", the period record; document 02, "Thirty-two actions".
use Rattle.std.specs.Prelude.{ℕ, ◌+◌, ◌/◌, ◌%◌, ◌^◌, Bool, ◌&&◌, cond, List, eqb, ◌≡◌, Result, MatchResult}
use Rattle.std.proofs.Math.Option.{Option, none, some}
use Rattle.records.specs.Fields.{field}
use Rattle.periods.specs.declared.Form.{Form}
use Rattle.periods.specs.declared.NoParty.{NoParty}
use Rattle.periods.specs.declared.Party.{Party}
use Rattle.periods.specs.declared.Party.TheVariants.{One as party1, Two as party2}
use Rattle.periods.specs.Forms.{mask_bytes}

-- a party's number in records: 1 or 2
abbrev pub party_number : Party → ℕ
party_number party1 = 1
party_number party2 = 2

-- the party of a number in records, if it is one
abbrev pub party_of : ℕ → Option Party
party_of n = cond (eqb n 1) (some party1) (cond (eqb n 2) (some party2) none)

-- what a number is read as: its party, or that it is none's
abbrev pub Numbers : ℕ → Result Party NoParty → Type 0
Numbers n r = MatchResult r (λ p. party_number p ≡ n) (λ _. party_of n ≡ none)

-- p is the record's party, q the other
abbrev pub other : Party → Party
other party1 = party2
other party2 = party1

-- a period: both parties' attempts, one mask each
pub record Period : Type 0 where
  pub attempts1 : ℕ
  pub attempts2 : ℕ

-- a party's mask
abbrev pub attempts : Period → Party → ℕ
attempts x party1 = x.attempts1
attempts x party2 = x.attempts2

-- bit a of a mask
unfoldable pub bit : ℕ → ℕ → Bool
bit mask a = eqb (mask / 2 ^ a % 2) 1

-- bit a is set when the party tries action a
unfoldable pub tries : Period → Party → ℕ → Bool
tries x p a = bit (attempts x p) a

-- an action succeeds when both try it
unfoldable pub succeeds : Period → ℕ → Bool
succeeds x a = tries x party1 a && tries x party2 a

-- the period that the bytes from byte `at` on hold in a form: party 1's attempts after the mark, then party 2's
unfoldable pub period_from : Form → List ℕ → (at : ℕ) → Period
period_from f l at = record { attempts1 = field l (at + 2) (mask_bytes f); attempts2 = field l (at + 2 + mask_bytes f) (mask_bytes f) }
