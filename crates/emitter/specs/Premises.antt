-- The premises of the functions that write rows.
use Rattle.std.specs.Prelude.{ℕ, ◌+◌, ◌*◌, ◌≤◌, ◌<◌, ◌≡◌, List, length}
use Rattle.std.proofs.Math.Option.{some}
use Rattle.layout.specs.Limits.{row_bytes, max_rows}
use Rattle.grammar.specs.declared.Sort.{Sort}
use Rattle.grammar.specs.declared.Kind.{Kind}
use Rattle.grammar.specs.Table.{kind_of}
use Rattle.grammar.specs.Trees.{Tree}
use Rattle.grammar.specs.Taken.{Contract}
use Rattle.image.specs.Limits.{buffer_for}
use Rattle.image.specs.Widths.{period_rows, after_window}
use Rattle.emitter.specs.declared.RecordBody.{RecordBody}
use Rattle.emitter.specs.Plans.{RowPlan, plan_of}
use Rattle.emitter.specs.Blocks.{record_from, after_tree, EndsWith}

-- a record's first row, and the first after its operands' rows, are rows that an image may have, or the next
pub record InImage (b n : ℕ) : Type 0 where
  pub first_few : b ≤ max_rows
  pub next_few : n ≤ max_rows

-- an image buffer of so many bytes has room for so many rows from row b on
pub record RowRoom (size b count : ℕ) : Type 0 where
  pub room : row_bytes * (b + count) ≤ size
  pub few : b + count ≤ max_rows

-- the same for the rows of one period from row c on, which name lower rows
pub record PeriodRoom (size c unmet earlier missed : ℕ) : Type 0 where
  pub room : row_bytes * (c + period_rows) ≤ size
  pub few : c + period_rows ≤ max_rows
  pub unmet_lower : unmet < c
  pub earlier_lower : earlier < c
  pub missed_lower : missed < c

-- an image buffer of so many bytes has room for the rows of a window's n later periods from row c on, and the rows that these name stand before them
pub record WindowRoom (size n c : ℕ) : Type 0 where
  pub room : row_bytes * after_window n c ≤ size
  pub few : after_window n c ≤ max_rows
  pub one_before : 1 ≤ c
  pub two_before : 1 ≤ n → 2 ≤ c

-- there is room for a record's own rows, b being its first row and n the first after its operands' rows
pub record RecordRows (size : ℕ) (p : RowPlan) (b n : ℕ) : Type 0 where
  pub first : RowRoom size b (length p.before)
  pub second : RowRoom size n (length p.after)

-- the same by the plan of the record's kind
pub record OwnRows (size : ℕ) (r : RecordBody) (b n : ℕ) : Type 0 where
  pub kind : Kind
  pub kind_is : kind_of r.kind ≡ some kind
  pub rows : RecordRows size (plan_of (record_from kind r)) b n

-- the first n records end with a tree, and its rows have room
pub record Emits (contract : List ℕ) (n : ℕ) (image : List ℕ) (b S K : ℕ) : Type 0 where
  pub before : ℕ
  pub sort : Sort
  pub tree : Tree sort
  pub ends : EndsWith contract n before sort tree
  pub room : row_bytes * after_tree sort tree b ≤ length image
  pub few : after_tree sort tree b ≤ max_rows
  pub begins : S < b
  pub goes_on : K < b

-- the contract is taken with n records, and there is room for as many rows as it may have
pub record Writes (contract : List ℕ) (n : ℕ) (image : List ℕ) : Type 0 where
  pub taken : Contract contract n
  pub room : buffer_for contract ≤ length image
