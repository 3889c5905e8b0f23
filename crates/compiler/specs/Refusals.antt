-- The tests of compile, in their order. Document 01, "Replies that refuse"; document 02, "Duties with a deadline".
use Rattle.std.specs.Prelude.{ℕ, List, leb, length}
use Rattle.records.specs.declared.Fault.TheVariants.{ShortBuffer}
use Rattle.records.specs.Refusals.{Test, require, first_of}
use Rattle.grammar.specs.Reader.{read_test}
use Rattle.image.specs.Limits.{buffer_for}

-- 1 to 7 as the contract is read, then 8: "image buffer under 8 × (32 × records + 65) bytes; 0", 4 rows more for each period of each window
unfoldable pub compile_test : (contract buffer : List ℕ) → Test
compile_test contract buffer =
    first_of (read_test contract) (require (leb (buffer_for contract) (length buffer)) ShortBuffer 0)
