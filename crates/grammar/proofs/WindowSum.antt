-- The sum of all windows: that of a contract's bytes is that of the clause that they spell, and it is at most the longest window for each record.
use Prim.Native.Nat.{ℕ, suc, ◌+◌, ◌*◌, ◌≤◌}
use native.Mathlib.Nat.{zero-add, add-zero, add_assoc}
use native.Mathlib.Omega.{arith}
use mathlib.Core.Bool.{cond}
use mathlib.Core.List.{List, [], ◌∷◌, ◌++◌, append-nil, append_assoc}
use mathlib.Core.Path.{◌≡◌, refl, sym}
use lib.Dec.{eqb}
use lib.ListN.{length, drop}
use lib.Seq.{drop_at, drop-drop, get_or-drop}
use Rattle.contract.specs.Meaning as M
use Rattle.contract.specs.Meaning.{Clause}
use Rattle.grammar.specs.Limits.{max_window, record_bytes}
use Rattle.grammar.specs.Table.{Sort, clause, expression, Kind, duty, ban, power, both, then, repair, repeat, when, until, deadline, any, tries, idle, succeeds, fails, seq, or, star, line}
use Rattle.grammar.specs.Trees.{Tree, Trees, Fields, node}
use Rattle.grammar.specs.Spelling.{spell_record, spell, records, windows, spell_tree, tree_records, deadline_record, InRange, Spells}
use Rattle.grammar.specs.Reader.{window_at, windows_of, contract_windows}
use Rattle.grammar.proofs.Fields.{used, record_of, allowed_last}
use Rattle.grammar.proofs.Spelling.{spell_trees, trees_records, All, on_tree, spell-node, records-node, length_tree, length_spell_trees}
use Rattle.grammar.proofs.Reader.{spelled_count}

-- ---- a node's windows

-- of a tree of either sort; an expression has none
abbrev tree_windows : (s : Sort) → Tree s → ℕ
tree_windows clause c = windows c
tree_windows expression e = 0

abbrev trees_windows : (ss : List Sort) → Trees ss → ℕ
trees_windows [] ts = 0
trees_windows (s ∷ ss) ts = tree_windows s ts.0 + trees_windows ss ts.1

-- the window of its own record
abbrev own_window : Kind → Fields → ℕ
own_window k f = cond (eqb (line k).number (line deadline).number) (used k f).last 0

windows-node : (k : Kind) (f : Fields) (ts : Trees (line k).operands)
    → tree_windows (line k).completes (node k f ts) ≡ trees_windows (line k).operands ts + own_window k f
unfolding node windows
windows-node duty f ts = refl
windows-node ban f ts = refl
windows-node power f ts = refl
windows-node both f ts = omega arith
windows-node then f ts = omega arith
windows-node repair f ts = omega arith
windows-node repeat f ts = omega arith
windows-node when f ts = omega arith
windows-node until f ts = omega arith
windows-node deadline f ts = omega arith
windows-node any f ts = refl
windows-node tries f ts = refl
windows-node idle f ts = refl
windows-node succeeds f ts = refl
windows-node fails f ts = refl
windows-node seq f ts = refl
windows-node or f ts = refl
windows-node star f ts = refl

-- ---- in the bytes

window_drop : (l : List ℕ) (at : ℕ) → window_at l at ≡ window_at (drop at l) 0
window_drop l at = simp get_or-drop

window_record : (k : Kind) (f : Fields) (rest : List ℕ) → window_at (spell_record (record_of k f) ++ rest) 0 ≡ own_window k f
unfolding spell_record
window_record k f rest = refl

-- behind n records that stand after m
behind : (l : List ℕ) (m n : ℕ) (xs rest : List ℕ) → drop (record_bytes * m) l ≡ xs ++ rest → length xs ≡ record_bytes * n
    → drop (record_bytes * (m + n)) l ≡ rest
behind l m n xs rest e h =
    let i : record_bytes * (m + n) ≡ record_bytes * m + record_bytes * n = omega arith in
    rw (i, ← drop-drop (record_bytes * n) (record_bytes * m) l, e) (drop_at xs rest (record_bytes * n) h)

-- where a tree's records stand after m records, its windows are added to theirs
Windowed : (s : Sort) → Tree s → Type 0
Windowed s t =
    (l : List ℕ) (m : ℕ) (rest : List ℕ) → drop (record_bytes * m) l ≡ spell_tree s t ++ rest
    → windows_of l (m + tree_records s t) ≡ windows_of l m + tree_windows s t

windows_trees : (ss : List Sort) (ts : Trees ss) → All Windowed ss ts → (l : List ℕ) (m : ℕ) (rest : List ℕ)
    → drop (record_bytes * m) l ≡ spell_trees ss ts ++ rest → windows_of l (m + trees_records ss ts) ≡ windows_of l m + trees_windows ss ts
unfolding Windowed
windows_trees [] ts h l m rest e = rw (add-zero, add-zero)
windows_trees (s ∷ ss) ts h l m rest e =
    let n = tree_records s ts.0 in
    let i = rw append_assoc at e in
    let j = behind l m n (spell_tree s ts.0) (spell_trees ss ts.1 ++ rest) i (length_tree s ts.0) in
    rw (← add_assoc m n (trees_records ss ts.1), windows_trees ss ts.1 h.1 l (m + n) rest j, h.0 l m _ i) (omega arith)

windowed_node : (k : Kind) (f : Fields) → used k f ≡ f → (ts : Trees (line k).operands) → All Windowed (line k).operands ts
    → Windowed (line k).completes (node k f ts)
unfolding Windowed windows_of
windowed_node k f u ts h l m rest e =
    let ss = (line k).operands in
    let n : ℕ = trees_records ss ts in
    let r = spell_record (record_of k f) in
    let i = rw (spell-node, append_assoc) at e in
    let j = behind l m n (spell_trees ss ts) (r ++ rest) i (length_spell_trees ss ts) in
    let c : m + (n + 1) ≡ suc (m + n) = omega arith in
    rw (records-node, windows-node, c, windows_trees ss ts h l m (r ++ rest) i, window_drop l (record_bytes * (m + n)), j, window_record k f rest) (omega arith)

windowed : (s : Sort) (t : Tree s) → Windowed s t
windowed = on_tree Windowed windowed_node

pub spelled_windows : (l : List ℕ) (c : Clause) → Spells l c → contract_windows l ≡ windows c
unfolding contract_windows windows_of Windowed
spelled_windows l c s =
    rw (s.bytes, spelled_count c) (rw (zero-add, zero-add) at (windowed clause c (spell c) 0 [] (sym (append-nil (spell c)))))

-- ---- how many there are

pub windows-max : (c : Clause) → InRange c → windows c ≤ max_window * records c
unfolding windows records InRange
windows-max (M.literal l a) r = omega arith
windows-max (M.deadline p a d) r = omega (arith, allowed_last (deadline_record p a d) r)
windows-max (M.both l r) g = omega (arith, windows-max l g.0, windows-max r g.1)
windows-max (M.then l r) g = omega (arith, windows-max l g.0, windows-max r g.1)
windows-max (M.repair l r) g = omega (arith, windows-max l g.0, windows-max r g.1)
windows-max (M.repeat c) g = omega (arith, windows-max c g)
windows-max (M.when e c) g = omega (arith, windows-max c g.1)
windows-max (M.until c e) g = omega (arith, windows-max c g.0)
