-- The room that an image buffer must have. Document 01, "Replies that refuse", 8; document 02, "Duties with a deadline".
use Rattle.std.specs.Prelude.{ℕ, ◌+◌, ◌*◌, List}
use Rattle.layout.specs.Limits.{row_bytes}
use Rattle.grammar.specs.Reader.{contract_records, contract_windows}

-- how many rows it makes room for, "4 rows for each period of each window" among them; `windows` is the sum of all windows
abbrev pub allowed_rows : (records windows : ℕ) → ℕ
allowed_rows n d = 32 * n + 64 + 4 * d

-- for a contract
abbrev pub allowed_for : (contract : List ℕ) → ℕ
allowed_for contract = allowed_rows (contract_records contract) (contract_windows contract)

-- with the end record: "8 × (32 × records + 65) bytes" where there are no windows
abbrev pub buffer_for : (contract : List ℕ) → ℕ
buffer_for contract = row_bytes * (allowed_for contract + 1)
