-- The rows and the block of one record, by its plan and the blocks of its operands; and those of a tree.
use Rattle.std.specs.Prelude.{ℕ, ◌+◌, ◌*◌, ◌-◌, ◌≤◌, cond, List, [], ◌++◌, map, ◌≡◌, eqb, length, take}
use Rattle.periods.specs.declared.Party.TheVariants.{Two as party2}
use Rattle.periods.specs.Periods.{party_number, other}
use Rattle.layout.specs.Rows.{Row}
use Rattle.grammar.specs.Limits.{record_bytes}
use Rattle.grammar.specs.declared.Sort.{Sort}
use Rattle.grammar.specs.declared.Sort.TheVariants.{Clause as clause, Expression as expression}
use Rattle.grammar.specs.declared.Kind.{Kind}
use Rattle.grammar.specs.Trees.{Tree, Record, party_named}
use Rattle.grammar.specs.Spelling.{spell_tree, tree_records}
use Rattle.grammar.specs.Reader.{kind_at, fields_at, operand}
use Rattle.reader.specs.Codes.{empty_code, code_of, completed}
use Rattle.image.specs.Widths.{never_row, ◌⊹◌, after_window, after_expression, after_clause}
use Rattle.image.specs.Blocks.{end_row, live_row, expression_rows, Outputs, outputs_of, window_rows, last_row, clause_rows}
use Rattle.emitter.specs.declared.RecordBody.{RecordBody}
use Rattle.emitter.specs.declared.Block.{Block}
use Rattle.emitter.specs.declared.Node.{Node}
use Rattle.emitter.specs.declared.Whole.{Whole}
use Rattle.emitter.specs.declared.Wires.{Wires}
use Rattle.emitter.specs.declared.Name.TheVariants as V
use Rattle.emitter.specs.Rows.{numbers_of, written_rows, Name, named_rows}
use Rattle.emitter.specs.Plans.{RowPlan}

-- ---- a record's bytes

-- the last of the first n records
abbrev pub last_record : (contract : List ℕ) (n : ℕ) → RecordBody
last_record contract n =
    let at = record_bytes * (n - 1) in
    let f = fields_at contract at in
    record { kind = kind_at contract at; party = f.party; action = f.action; last = f.last }

-- as a record of this kind
abbrev pub record_from : Kind → RecordBody → Record
record_from k r = record { kind = k; fields = record { party = r.party; action = r.action; last = r.last } }

-- ---- the rows of one record

-- the block of an operand that a record does not have
abbrev pub no_block : (before next : ℕ) → Block
no_block m n = record { before = m; next = n; sat = 0; one = 0; two = 0; code = 0 }

-- The block of n later periods of a window from row c on: `sat` is that the duty was missed in the period before, in one of the window's periods but the
-- last, and `one` that it is missed now, in the last. In the window's first period row c - 1 tells that.
abbrev pub window_block : (before n c : ℕ) → Block
window_block m n c =
    record { before = m; next = after_window n c; sat = last_row n 1 never_row c; one = last_row n 2 (c - 1) c; two = 0; code = 0 }

-- its rows; row c - 2 tells that the block goes on and not both try
abbrev pub window_from : (n c : ℕ) → List Row
window_from n c = window_rows n (c - 2) never_row (c - 1) c []

-- the other party's number
abbrev pub other_number : ℕ → ℕ
other_number p = party_number (other (party_named p))

-- What a name stands for in a record that stands at row b and is told by rows s and k when it reads, while its operands have no rows: so many rows on
-- from row b, one of the two rows, or never.
abbrev pub wire : (b s k : ℕ) → Name → ℕ
wire b s k V.S = s
wire b s k V.K = k
wire b s k (V.B i) = b ⊹ i
wire b s k _ = 0

-- What a name stands for in a record with its operands' blocks: that, or so many rows on from the first after its operands' rows; what the left
-- operand's block gives out, and the right one's; two rows that count where an operand holds the empty list; the parties' numbers; the record's
-- party, the other party, the action. Here and below a deadline's window stands for its operands, its block for the left one's.
abbrev pub meant_by : (b s k : ℕ) (left right : Block) (party action : ℕ) → Name → ℕ
meant_by b s k l r p a V.Zero = 0
meant_by b s k l r p a V.Party1 = 1
meant_by b s k l r p a V.Party2 = 2
meant_by b s k l r p a V.S = s
meant_by b s k l r p a V.K = k
meant_by b s k l r p a (V.B i) = b ⊹ i
meant_by b s k l r p a (V.N i) = l.next ⊹ i
meant_by b s k l r p a V.LSat = l.sat
meant_by b s k l r p a V.LOne = l.one
meant_by b s k l r p a V.LTwo = l.two
meant_by b s k l r p a V.RSat = r.sat
meant_by b s k l r p a V.ROne = r.one
meant_by b s k l r p a V.RTwo = r.two
meant_by b s k l r p a V.SE = cond (eqb l.code empty_code) s 0
meant_by b s k l r p a V.LE = cond (eqb r.code empty_code) l.sat 0
meant_by b s k l r p a V.P = p
meant_by b s k l r p a V.Q = other_number p
meant_by b s k l r p a V.A = a

-- the same of a record as the program has it
abbrev pub whole : Node → (left right : Block) → Whole
whole n l r = record { node = n; left = l; right = r }

abbrev pub meant : Whole → Name → ℕ
meant w = meant_by w.node.at w.node.s w.node.k w.left w.right w.node.body.party w.node.body.action

-- a record's own rows written, b being its first row and n the first after its operands' rows
unfoldable pub record_written : (image : List ℕ) (names : Name → ℕ) → RowPlan → (b n : ℕ) → List ℕ
record_written image names p b n = written_rows (written_rows image b (named_rows names p.before)) n (named_rows names p.after)

-- what its block gives; the plan of a literal and of a deadline has its own party's blame before the other's, the block has party 1's before party 2's,
-- and so has the plan of a duty that both parties own
unfoldable pub record_block : (names : Name → ℕ) → RowPlan → (kind party : ℕ) → (left right : Block) → Block
record_block names p kind party l r =
    record {
      before = l.before;
      next = l.next + length p.after;
      sat = names p.sat;
      one = cond (eqb party (party_number party2)) (names p.two) (names p.one);
      two = cond (eqb party (party_number party2)) (names p.one) (names p.two);
      code = completed kind l.code r.code;
    }

-- what tells its operands when they read
unfoldable pub wires_of : RowPlan → (b s k : ℕ) → Wires
wires_of p b s k = record { start = wire b s k p.start; go = wire b s k p.go; keep = wire b s k p.keep }

-- ---- the rows of a tree

abbrev pub tree_rows : (s : Sort) → Tree s → (b S K : ℕ) → List Row
tree_rows clause c b S K = clause_rows c b S K []
tree_rows expression e b S K = expression_rows e b S K []

abbrev pub after_tree : (s : Sort) → Tree s → (b : ℕ) → ℕ
after_tree clause c b = after_clause c b
after_tree expression e b = after_expression e b

-- the rows that its block gives out: of an expression `sat` is the end of a list, `one` that one may go on, and `two` never
abbrev pub given_by : (s : Sort) → Tree s → (b S : ℕ) → Outputs
given_by clause c b S = outputs_of c b
given_by expression e b S = record { sat = end_row e b S; one = live_row e b; two = never_row }

-- the block of a tree with so many records before it
abbrev pub block_of : (s : Sort) → Tree s → (before b S : ℕ) → Block
block_of s t m b S =
    let o = given_by s t b S in
    record { before = m; next = after_tree s t b; sat = o.sat; one = o.one; two = o.two; code = code_of (operand s t) }

-- the first n records of a contract are so many records and then those that spell the tree
pub record EndsWith (contract : List ℕ) (n before : ℕ) (s : Sort) (t : Tree s) : Type 0 where
  pub whole : record_bytes * n ≤ length contract
  pub count : n ≡ before + tree_records s t
  pub spelled : take (record_bytes * n) contract ≡ take (record_bytes * before) contract ++ spell_tree s t

-- the tree's rows are written, and the block is the tree's, whichever tree the records end with
pub record Emitted (contract : List ℕ) (n : ℕ) (image : List ℕ) (b S K : ℕ) (later : List ℕ) (r : Block) : Type 0 where
  pub tree_is : (before : ℕ) (s : Sort) (t : Tree s) → EndsWith contract n before s t
      → (later ≡ written_rows image b (map numbers_of (tree_rows s t b S K))) × (r ≡ block_of s t before b S)
