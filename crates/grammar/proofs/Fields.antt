-- The fields of a record and of the node that it makes: the node keeps those that the kind uses, and of fields in range all.
use Prim.Native.Nat.{ℕ, ◌≤◌, ◌<◌}
use native.Mathlib.Omega.{arith}
use mathlib.Core.Bool.{Bool, true, false, ◌&&◌, ◌||◌, not, cond, and-eq-true_iff}
use mathlib.Core.Logic.{⊎_elim}
use mathlib.Core.Path.{◌≡◌, refl}
use lib.Dec.{eqb, ltb, leb}
use borrow.Author.Tests.{eqb-true, eqb-false, leb-true, le-leb, ltb-true, ltb-false}
use Rattle.records.proofs.Cases.{true_or_false}
use Rattle.periods.specs.Limits.{actions}
use Rattle.periods.specs.Periods.{party_number}
use Rattle.contract.specs.Meaning.{parties_number}
use Rattle.grammar.specs.Limits.{max_window}
use Rattle.grammar.specs.Table.{Kind, Range, within, party_numbers, owner_numbers, Line, line}
use Rattle.grammar.specs.Trees.{Fields, Record, good_fields, party_named, owner_named}
use Rattle.grammar.specs.Spelling.{Allowed}
use Rattle.grammar.proofs.Table.{of_all}

abbrev pub uses : Range → Bool
uses r = ltb 0 r.greatest

-- whether a range of parties has the number of both
abbrev of_owners : Range → Bool
of_owners r = leb owner_numbers.greatest r.greatest

-- what a node keeps of the field with a party: the owner, the party, or nothing
abbrev kept_party : Range → ℕ → ℕ
kept_party r n = cond (of_owners r) (parties_number (owner_named n)) (cond (uses r) (party_number (party_named n)) 0)

-- what it keeps of all
abbrev pub used : Kind → Fields → Fields
used k f =
    record {
      party = kept_party (line k).party f.party;
      action = cond (uses (line k).action) f.action 0;
      last = cond (uses (line k).last) f.last 0;
    }

-- the record of a node
abbrev pub record_of : Kind → Fields → Record
record_of k f = record { kind = k; fields = used k f }

-- ---- fields in range

inside : (r : Range) (n : ℕ) → within r n ≡ true → (r.least ≤ n) × (n ≤ r.greatest)
inside r n h =
    let g = (and-eq-true_iff (leb r.least n) (leb n r.greatest)).0 h in
    (leb-true r.least n g.0, leb-true n r.greatest g.1)

record Each (l : Line) (f : Fields) : Type 0 where
  party : within l.party f.party ≡ true
  action : within l.action f.action ≡ true
  last : within l.last f.last ≡ true

each : (l : Line) (f : Fields) → good_fields l f ≡ true → Each l f
unfolding good_fields
each l f h =
    let g = (and-eq-true_iff (within l.party f.party && within l.action f.action) (within l.last f.last)).0 h in
    let i = (and-eq-true_iff (within l.party f.party) (within l.action f.action)).0 g.0 in
    record { party = i.0; action = i.1; last = g.1 }

used_number : (r : Range) (n : ℕ) → within r n ≡ true → cond (uses r) n 0 ≡ n
used_number r n h =
    ⊎_elim (λ e. rw e) (λ e. rw e (omega (arith, ltb-false 0 r.greatest e, inside r n h))) (true_or_false (uses r))

-- all numbers of one range are in another
abbrev contains : Range → Range → Bool
contains s r = leb s.least r.least && leb r.greatest s.greatest

contained : (s r : Range) → contains s r ≡ true → (n : ℕ) → within r n ≡ true → within s n ≡ true
contained s r g n h =
    let b = (and-eq-true_iff (leb s.least r.least) (leb r.greatest s.greatest)).0 g in
    let l : s.least ≤ r.least = leb-true s.least r.least b.0 in
    let m : r.greatest ≤ s.greatest = leb-true r.greatest s.greatest b.1 in
    let i = inside r n h in
    rw (le-leb s.least n (omega arith), le-leb n s.greatest (omega arith))

party_number_lem : (n : ℕ) → within party_numbers n ≡ true → party_number (party_named n) ≡ n
party_number_lem n h =
    let i = inside party_numbers n h in
    ⊎_elim (λ e. rw (eqb-true n 1 e)) (λ e. let d : n ≡ 1 → ⊥ = eqb-false n 1 e in rw e (omega arith)) (true_or_false (eqb n 1))

owner_number : (n : ℕ) → within owner_numbers n ≡ true → parties_number (owner_named n) ≡ n
owner_number n h =
    let i = inside owner_numbers n h in
    ⊎_elim (λ e. rw (eqb-true n 3 e))
    (λ e. let d : n ≡ 3 → ⊥ = eqb-false n 3 e in rw e (party_number_lem n (rw (le-leb 1 n (omega arith), le-leb n 2 (omega arith)))))
    (true_or_false (eqb n 3))

-- a range of owners, of parties, or of 0 alone
abbrev of_parties : Range → Bool
of_parties r = cond (of_owners r) (contains owner_numbers r) (not (uses r) || contains party_numbers r)

used_party : (r : Range) → of_parties r ≡ true → (n : ℕ) → within r n ≡ true → kept_party r n ≡ n
used_party r g n h = go (of_owners r) (uses r) g (used_number r n h)
  where
    go : (o u : Bool) → cond o (contains owner_numbers r) (not u || contains party_numbers r) ≡ true → cond u n 0 ≡ n
        → cond o (parties_number (owner_named n)) (cond u (party_number (party_named n)) 0) ≡ n
    go true u e i = owner_number n (contained owner_numbers r e n h)
    go false true e i = party_number_lem n (contained party_numbers r e n h)
    go false false e i = i

pub used_same : (k : Kind) (f : Fields) → good_fields (line k) f ≡ true → used k f ≡ f
used_same k f h =
    let l = line k in
    let e = each l f h in
    rw (
      used_party l.party (of_all (λ J. of_parties (line J).party) refl k) f.party e.party,
      used_number l.action f.action e.action,
      used_number l.last f.last e.last,
    )

-- an action in range is one of those that there are
pub allowed_action : (r : Record) → Allowed r → r.fields.action < actions
allowed_action r h =
    let l = line r.kind in
    let i = inside l.action r.fields.action (each l r.fields h).action in
    let m : l.action.greatest < actions =
    ltb-true l.action.greatest actions (of_all (λ J. ltb (line J).action.greatest actions) refl r.kind) in
    omega arith

-- a last byte in range is at most the longest window
pub allowed_last : (r : Record) → Allowed r → r.fields.last ≤ max_window
allowed_last r h =
    let l = line r.kind in
    let i = inside l.last r.fields.last (each l r.fields h).last in
    let m : l.last.greatest ≤ max_window =
    leb-true l.last.greatest max_window (of_all (λ J. leb (line J).last.greatest max_window) refl r.kind) in
    omega arith
