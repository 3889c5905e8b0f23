-- The plans give the rows of image/specs/Blocks.antt: a node's rows are its own rows round those of its operands, and its block is
-- what its plan says.
use Prim.Native.Nat.{ℕ, zero, suc, ◌+◌, ◌-◌}
use mathlib.Core.Bool.{Bool, true, false, cond}
use mathlib.Core.List.{List, [], ◌∷◌, ◌++◌, map, map-append, append_assoc}
use mathlib.Core.Path.{◌≡◌, refl, sym, ◌∙◌}
use native.Mathlib.Omega.{arith}
use lib.Dec.{eqb}
use lib.ListN.{length, take, drop, take-append-drop}
use Rattle.periods.specs.declared.Party.{Party}
use Rattle.periods.specs.declared.Party.TheVariants.{One as party1, Two as party2}
use Rattle.periods.specs.Periods.{party_number, other}
use Rattle.layout.specs.Rows.{Row}
use Rattle.contract.specs.Expressions as E
use Rattle.contract.specs.Expressions.{Expression, atom, holds_empty}
use Rattle.contract.specs.Meaning as M
use Rattle.contract.specs.Meaning.{Clause}
use Rattle.grammar.specs.declared.Sort.{Sort}
use Rattle.grammar.specs.declared.Sort.TheVariants.{Clause as clause, Expression as expression}
use Rattle.grammar.specs.declared.Kind.{Kind}
use Rattle.grammar.specs.declared.Kind.TheVariants.{Duty as duty, Ban as ban, Power as power, Both as both, Then as then, Repair as repair, Repeat as repeat, When as when, Until as until, Deadline as deadline, Any as any, Tries as tries, Idle as idle, Succeeds as succeeds, Fails as fails, Seq as seq, Or as or, Star as star}
use Rattle.grammar.specs.Table.{line}
use Rattle.grammar.specs.Trees.{Tree, Trees, Fields, party_named, owner_named, node}
use Rattle.reader.specs.Codes.{completed}
use Rattle.grammar.specs.Spelling.{literal_record, tree_records}
use Rattle.reader.proofs.Codes.{is_empty}
use Rattle.grammar.proofs.Fields.{record_of}
use Rattle.image.specs.Widths.{width, later_periods, never_row, ◌⊹◌, inside, after_expression, after_clause}
use Rattle.image.specs.Blocks.{end_row, live_row, expression_rows, blaming, outputs_of, window_rows, clause_rows}
use Rattle.image.proofs.Sizes.{after_expression_lem, after_clause_lem, length_expression, length_clause}
use Rattle.emitter.specs.declared.Block.{Block}
use Rattle.emitter.specs.declared.Wires.{Wires}
use Rattle.emitter.specs.Rows.{RowNumbers, numbers_of, Name, named_rows}
use Rattle.emitter.specs.Plans.{plan_of}
use Rattle.emitter.specs.Blocks.{no_block, window_block, window_from, other_number, meant_by, record_block, wires_of, tree_rows, after_tree, block_of}
use Rattle.emitter.proofs.Tables.{after_is}

-- ---- rows and what follows them

expression_onto : (e : Expression) (b S K : ℕ) (xs rest : List Row) → expression_rows e b S K (xs ++ rest) ≡ expression_rows e b S K xs ++ rest
unfolding expression_rows
expression_onto (atom E.any) b S K xs rest = refl
expression_onto (atom (E.tries p a)) b S K xs rest = refl
expression_onto (atom (E.idle p a)) b S K xs rest = refl
expression_onto (atom (E.succeeds a)) b S K xs rest = refl
expression_onto (atom (E.fails a)) b S K xs rest = refl
expression_onto (E.seq l r) b S K xs rest = rw (← expression_onto r, ← expression_onto l)
expression_onto (E.or l r) b S K xs rest = rw (← expression_onto r, ← expression_onto l)
expression_onto (E.star e) b S K xs rest = rw (← expression_onto e)

pub window_onto : (n g e m c : ℕ) (xs rest : List Row) → window_rows n g e m c (xs ++ rest) ≡ window_rows n g e m c xs ++ rest
unfolding window_rows
window_onto zero g e m c xs rest = refl
window_onto (suc n) g e m c xs rest = rw (← window_onto n)

clause_onto : (c : Clause) (b S K : ℕ) (xs rest : List Row) → clause_rows c b S K (xs ++ rest) ≡ clause_rows c b S K xs ++ rest
unfolding clause_rows
clause_onto (M.literal (M.duty (M.only p)) a) b S K xs rest = refl
clause_onto (M.literal (M.duty M.both_parties) a) b S K xs rest = refl
clause_onto (M.literal (M.ban p) a) b S K xs rest = refl
clause_onto (M.literal (M.power p) a) b S K xs rest = refl
clause_onto (M.deadline p a d) b S K xs rest = rw (← window_onto (d - 1))
clause_onto (M.both l r) b S K xs rest = rw (← clause_onto r, ← clause_onto l)
clause_onto (M.then l r) b S K xs rest = rw (← clause_onto r, ← clause_onto l)
clause_onto (M.repair l r) b S K xs rest = rw (← clause_onto r, ← clause_onto l)
clause_onto (M.repeat c) b S K xs rest = rw (← clause_onto c)
clause_onto (M.when e c) b S K xs rest = rw (← clause_onto c, ← expression_onto e)
clause_onto (M.until c e) b S K xs rest = rw (← expression_onto e, ← clause_onto c)

-- ---- how many rows a tree has

pub after_tree_lem : (s : Sort) (t : Tree s) (b S K : ℕ) → after_tree s t b ≡ b + length (tree_rows s t b S K)
after_tree_lem clause c b S K = rw (length_clause c, after_clause_lem c) (omega arith)
after_tree_lem expression e b S K = rw (length_expression e, after_expression_lem e) (omega arith)

-- ---- the operands of a record, or its window of n later periods: b is the first of their rows, m the number of records before them

-- the block of the left operand, of two
abbrev pub left_block : (n : ℕ) (ss : List Sort) → Trees ss → (m b S : ℕ) → Block
left_block n [] ts m b S = window_block m n b
left_block n (s ∷ []) ts m b S = no_block m (after_tree s ts.0 b)
left_block n (s ∷ s' ∷ ss) ts m b S = block_of s ts.0 m (after_tree s' ts.1.0 b) S

-- the block of the right operand, or of the only one
abbrev pub right_block : (n : ℕ) (ss : List Sort) → Trees ss → (m b S : ℕ) → Block
right_block n [] ts m b S = window_block m n b
right_block n (s ∷ []) ts m b S = block_of s ts.0 m b S
right_block n (s ∷ s' ∷ ss) ts m b S = block_of s' ts.1.0 (m + tree_records s ts.0) b S

abbrev pub operand_rows : (n : ℕ) (ss : List Sort) → Trees ss → (b S : ℕ) → Wires → List Row
operand_rows n [] ts b S w = window_from n b
operand_rows n (s ∷ []) ts b S w = tree_rows s ts.0 b w.start w.go
operand_rows n (s ∷ s' ∷ ss) ts b S w =
    tree_rows s' ts.1.0 b w.start w.go ++ tree_rows s ts.0 (after_tree s' ts.1.0 b) S w.keep

-- ---- a duty, by its owner

-- what the names stand for
abbrev duty_names : M.Parties → (a m b S K : ℕ) → Name → ℕ
duty_names o a m b S K = let w = window_block m 0 (inside duty b) in meant_by b S K w w (M.parties_number o) a

-- its rows
rows_duty : (o : M.Parties) (a m b S K : ℕ)
    → let p = plan_of (literal_record (M.duty o) a) in
    map numbers_of (clause_rows (M.literal (M.duty o) a) b S K [])
    ≡ named_rows (duty_names o a m b S K) p.before ++ named_rows (duty_names o a m b S K) p.after
unfolding clause_rows named_rows
rows_duty (M.only party1) a m b S K = refl
rows_duty (M.only party2) a m b S K = refl
rows_duty M.both_parties a m b S K = refl

no_more : (n : ℕ) → n + 0 ≡ n
no_more n = omega arith

-- its block
block_duty : (o : M.Parties) (a m b S K : ℕ)
    → let w = window_block m 0 (inside duty b) in
    block_of clause (M.literal (M.duty o) a) m b S
    ≡ record_block (duty_names o a m b S K) (plan_of (literal_record (M.duty o) a)) (line duty).number (M.parties_number o) w w
unfolding after_clause outputs_of record_block completed
block_duty (M.only party1) a m b S K = rw (no_more (inside duty b))
block_duty (M.only party2) a m b S K = rw (no_more (inside duty b))
block_duty M.both_parties a m b S K = rw (no_more (inside duty b))

-- ---- a node

-- what the names stand for in a record with these operands
abbrev pub node_names : (k : Kind) → Fields → Trees (line k).operands → (m b S K : ℕ) → Name → ℕ
node_names k f ts m b S K =
    let r = record_of k f in
    let w = wires_of (plan_of r) b S K in
    meant_by b S K (left_block (later_periods r) (line k).operands ts m (inside k b) S) (right_block (later_periods r) (line k).operands ts m (inside k b) w.start)
    r.fields.party r.fields.action

-- two lists of rows are equal if they are up to an operator's operands' rows, and from there on
equal_parts : (k : Kind) {xs ys : List RowNumbers}
    → let n = (width k).before in
    take n xs ≡ take n ys → drop n xs ≡ drop n ys → xs ≡ ys
equal_parts k {xs} {ys} p q = let n = (width k).before in sym (take-append-drop n xs) ∙ rw (p, q) (take-append-drop n ys)

-- its own rows stand before those that follow
abbrev Prepends : (List Row → List Row) → Type 0
Prepends f = (rest : List Row) → f rest ≡ f [] ++ rest

-- one operand's rows, or two operands', and others after them
one : {part : List Row → List Row} → Prepends part → (after : List Row) → map numbers_of (part after) ≡ map numbers_of (part []) ++ map numbers_of after
one p after = rw (p after, map-append)

two : {right left : List Row → List Row} → Prepends right → Prepends left → (after : List Row)
    → map numbers_of (right (left after)) ≡ map numbers_of (right [] ++ left []) ++ map numbers_of after
two {right} {left} r l after = rw (r (left after), l after, ← append_assoc (right []), map-append numbers_of (right [] ++ left []))

-- the other party's number
other_number_lem : (p : Party) → party_number (other p) ≡ other_number (party_number p)
other_number_lem party1 = refl
other_number_lem party2 = refl

-- its rows
pub rows-node : (k : Kind) (f : Fields) (ts : Trees (line k).operands) (m b S K : ℕ)
    → let r = record_of k f in
    let p = plan_of r in
    map numbers_of (tree_rows (line k).completes (node k f ts) b S K)
    ≡ named_rows (node_names k f ts m b S K) p.before
    ++ (map numbers_of (operand_rows (later_periods r) (line k).operands ts (inside k b) S (wires_of p b S K))
    ++ named_rows (node_names k f ts m b S K) p.after)
unfolding node window_rows clause_rows expression_rows outputs_of end_row named_rows wires_of
rows-node duty f ts m b S K = rows_duty (owner_named f.party) f.action m b S K
rows-node ban f ts m b S K = rw (other_number_lem (party_named f.party))
rows-node power f ts m b S K = rw (other_number_lem (party_named f.party))
rows-node both f ts m b S K = equal_parts both refl (two (clause_onto ts.1.0 _ _ _ []) (clause_onto ts.0 _ _ _ []) _)
rows-node then f ts m b S K = equal_parts then refl (two (clause_onto ts.1.0 _ _ _ []) (clause_onto ts.0 _ _ _ []) _)
rows-node repair f ts m b S K = equal_parts repair refl (two (clause_onto ts.1.0 _ _ _ []) (clause_onto ts.0 _ _ _ []) _)
rows-node repeat f ts m b S K = equal_parts repeat refl (one (clause_onto ts.0 _ _ _ []) [])
rows-node when f ts m b S K = equal_parts when refl (two (clause_onto ts.1.0 _ _ _ []) (expression_onto ts.0 _ _ _ []) _)
rows-node until f ts m b S K = equal_parts until refl (two (expression_onto ts.1.0 _ _ _ []) (clause_onto ts.0 _ _ _ []) _)
rows-node deadline f ts m b S K =
    let c = inside deadline b in
    let missed : c - 1 ≡ b ⊹ 5 = omega arith in
    let unmet : c - 2 ≡ b ⊹ 4 = omega arith in
    rw (missed, unmet, other_number_lem (party_named f.party))
    (equal_parts deadline refl (one {part = window_rows (f.last - 1) (b ⊹ 4) never_row (b ⊹ 5) c} (window_onto (f.last - 1) _ _ _ _ []) _))
rows-node any f ts m b S K = refl
rows-node tries f ts m b S K = refl
rows-node idle f ts m b S K = refl
rows-node succeeds f ts m b S K = refl
rows-node fails f ts m b S K = refl
rows-node seq f ts m b S K =
    rw (is_empty (holds_empty ts.0), is_empty (holds_empty ts.1.0))
    (equal_parts seq refl (two (expression_onto ts.1.0 _ _ _ []) (expression_onto ts.0 _ _ _ []) _))
rows-node or f ts m b S K = two (expression_onto ts.1.0 _ _ _ []) (expression_onto ts.0 _ _ _ []) _
rows-node star f ts m b S K = equal_parts star refl (one (expression_onto ts.0 _ _ _ []) _)

-- where they end
pub after_node : (k : Kind) (f : Fields) (ts : Trees (line k).operands) (m b S : ℕ)
    → let r = record_of k f in
    after_tree (line k).completes (node k f ts) b ≡ (left_block (later_periods r) (line k).operands ts m (inside k b) S).next + length (plan_of r).after
unfolding node after_clause after_expression
after_node duty f ts m b S = omega (arith, after_is (record_of duty f))
after_node ban f ts m b S = omega arith
after_node power f ts m b S = omega arith
after_node both f ts m b S = omega arith
after_node then f ts m b S = omega arith
after_node repair f ts m b S = omega arith
after_node repeat f ts m b S = omega arith
after_node when f ts m b S = omega arith
after_node until f ts m b S = omega arith
after_node deadline f ts m b S = omega arith
after_node any f ts m b S = omega arith
after_node tries f ts m b S = omega arith
after_node idle f ts m b S = omega arith
after_node succeeds f ts m b S = omega arith
after_node fails f ts m b S = omega arith
after_node seq f ts m b S = omega arith
after_node or f ts m b S = omega arith
after_node star f ts m b S = omega arith

-- the outputs of a literal and of a deadline by its party's number
blaming_is : (p : Party) (s x y : ℕ)
    → let second = eqb (party_number p) (party_number party2) in
    blaming p s x y ≡ record { sat = s; one = cond second y x; two = cond second x y }
blaming_is party1 s x y = refl
blaming_is party2 s x y = refl

cond_same : (t : Bool) (x : ℕ) → cond t x x ≡ x
cond_same true x = refl
cond_same false x = refl

-- its block
pub block_node : (k : Kind) (f : Fields) (ts : Trees (line k).operands) (m b S K : ℕ)
    → let r = record_of k f in
    block_of (line k).completes (node k f ts) m b S
    ≡ record_block (node_names k f ts m b S K) (plan_of r) (line k).number r.fields.party
    (left_block (later_periods r) (line k).operands ts m (inside k b) S) (right_block (later_periods r) (line k).operands ts m (inside k b) (wires_of (plan_of r) b S K).start)
unfolding node after_clause after_expression outputs_of end_row live_row record_block wires_of completed holds_empty
block_node duty f ts m b S K = block_duty (owner_named f.party) f.action m b S K
block_node ban f ts m b S K = rw (blaming_is (party_named f.party), ← after_node ban f ts m b S)
block_node power f ts m b S K = rw (blaming_is (party_named f.party), ← after_node power f ts m b S)
block_node both f ts m b S K = rw (← after_node both f ts m b S)
block_node then f ts m b S K = rw (← after_node then f ts m b S)
block_node repair f ts m b S K = rw (← after_node repair f ts m b S)
block_node repeat f ts m b S K = rw (← after_node repeat f ts m b S)
block_node when f ts m b S K = rw (← after_node when f ts m b S)
block_node until f ts m b S K = rw (← after_node until f ts m b S)
block_node deadline f ts m b S K = rw (blaming_is (party_named f.party), ← after_node deadline f ts m b S)
block_node any f ts m b S K = rw (← after_node any f ts m b S)
block_node tries f ts m b S K = rw (cond_same (eqb (party_number (party_named f.party)) (party_number party2)), ← after_node tries f ts m b S)
block_node idle f ts m b S K = rw (cond_same (eqb (party_number (party_named f.party)) (party_number party2)), ← after_node idle f ts m b S)
block_node succeeds f ts m b S K = rw (← after_node succeeds f ts m b S)
block_node fails f ts m b S K = rw (← after_node fails f ts m b S)
block_node seq f ts m b S K = rw (is_empty (holds_empty ts.0), is_empty (holds_empty ts.1.0), ← after_node seq f ts m b S)
block_node or f ts m b S K = rw (is_empty (holds_empty ts.0), is_empty (holds_empty ts.1.0), ← after_node or f ts m b S)
block_node star f ts m b S K = rw (← after_node star f ts m b S)
