-- Refusals: the faults of document 01's table and their numbers, and what a call's tests find in their order.
-- Document 01, "Replies that refuse"; 14 to 16 are those of document 02, "Join the two parties' logs", "added like all later ones to document 01's table".
use Rattle.std.specs.Prelude.{ℕ, zero, suc, Bool, true, false, cond, Result, Ok, Err}
use Rattle.records.specs.declared.Fault.{Fault}
use Rattle.records.specs.declared.Fault.TheVariants.{BadLength, BadMark, UnknownKind, BadField, BadOperands, NotOneClause, EmptyList, ShortBuffer, BadImage, BadState, BadPeriod, FullCount, LongInput, BadLog, OutOfOrder, ShortTrace}
use Rattle.records.specs.declared.Refusal.{Refusal}

-- a fault's number in the table
abbrev pub fault_number : Fault → ℕ
fault_number BadLength = 1
fault_number BadMark = 2
fault_number UnknownKind = 3
fault_number BadField = 4
fault_number BadOperands = 5
fault_number NotOneClause = 6
fault_number EmptyList = 7
fault_number ShortBuffer = 8
fault_number BadImage = 9
fault_number BadState = 10
fault_number BadPeriod = 11
fault_number FullCount = 12
fault_number LongInput = 13
fault_number BadLog = 14
fault_number OutOfOrder = 15
fault_number ShortTrace = 16

-- what a call's tests find: all passed, or the first refusal, a fault at a place
abbrev pub Test : Type 0
Test = Result Unit Refusal

abbrev pub Passed : Test
Passed = Ok tt

abbrev pub Refused : Fault → (place : ℕ) → Test
Refused f place = Err (record { fault = f; place = place })

-- "An accepted call gives number 0 and place 0. A refusal gives its number and a place"
abbrev pub number_of : Test → ℕ
number_of (Ok u) = 0
number_of (Err r) = fault_number r.fault

abbrev pub place_of : Test → ℕ
place_of (Ok u) = 0
place_of (Err r) = r.place

-- passed where the condition holds, and otherwise refused
abbrev pub require : Bool → Fault → (place : ℕ) → Test
require ok f place = cond ok Passed (Refused f place)

-- the first refusal of two tests, the second made where the first is passed
abbrev pub first_of : Test → Test → Test
first_of (Ok u) t = t
first_of (Err r) t = Err r

-- the first number from k on, of n numbers, that fails; k + n where none does
unfoldable pub first_failing : (ℕ → Bool) → ℕ → ℕ → ℕ
first_failing ok k zero = k
first_failing ok k (suc n) = cond (ok k) (first_failing ok (suc k) n) k

-- no test refuses
abbrev pub passed : Test → Bool
passed (Ok u) = true
passed (Err r) = false

-- what is given where a test is passed
abbrev pub given : {A : Type 0} → Test → A → Result A Refusal
given (Ok u) a = Ok a
given (Err r) a = Err r
