-- The worked examples. Document 01, "Contracts and examples", "What students hand in" and "Watch"; of deadlines, of joint duties and of `until`
-- document 02, "Duties with a deadline", "Duties that both parties own" and "An ending that may begin in any period".
use Rattle.std.specs.Prelude.{ℕ, true, false, List, [], ◌∷◌, ◌++◌, map, ◌≡◌, take, replicate}
use Prim.Native.String.{String}
use Rattle.std.proofs.Math.Option.{none, some}
use Rattle.records.specs.Verdicts.{verdict_number, verdict_name}
use Rattle.periods.specs.declared.Party.{Party}
use Rattle.periods.specs.declared.Party.TheVariants.{One as party1, Two as party2}
use Rattle.periods.specs.Periods.{Period}
use Rattle.contract.specs.Expressions.{any, tries, idle, succeeds, fails, Expression, atom, seq, or, star, holds_empty}
use Rattle.contract.specs.Readings.{Reading, pending, accepted, rejected, reading, acceptance}
use Rattle.contract.specs.Meaning.{Literal, Clause, literal, deadline, both, then, repair, repeat, when, until, only, both_parties, Decision, undecided, satisfied, violated, meaning}
use Rattle.contract.specs.Verdicts.{outcome, verdict, blame, decision_period}

-- "a, b are actions 0, 1"
abbrev pub a : ℕ
a = 0

abbrev pub b : ℕ
b = 1

-- kinds 1 to 3 by name
abbrev pub duty : Party → ℕ → Clause
duty p n = literal (Literal.duty (only p)) n

-- a duty that both parties own
abbrev pub joint : ℕ → Clause
joint n = literal (Literal.duty both_parties) n

abbrev pub ban : Party → ℕ → Clause
ban p n = literal (Literal.ban p) n

abbrev pub power : Party → ℕ → Clause
power p n = literal (Literal.power p) n

-- one period, as its masks: bit 0 is set when the party tries a, bit 1 when it tries b
abbrev pub one_period : (one two : ℕ) → Period
one_period m n = record { attempts1 = m; attempts2 = n }

-- the periods of the examples, party 1 before the slash; "-" is no attempt
abbrev pub a/a : Period
a/a = one_period 1 1

abbrev pub a/- : Period
a/- = one_period 1 0

abbrev pub -/a : Period
-/a = one_period 0 1

abbrev pub -/- : Period
-/- = one_period 0 0

abbrev pub ab/a : Period
ab/a = one_period 3 1

abbrev pub b/a : Period
b/a = one_period 2 1

abbrev pub b/b : Period
b/b = one_period 2 2

abbrev pub b/- : Period
b/- = one_period 2 0

abbrev pub a/b : Period
a/b = one_period 1 2

abbrev pub ab/ab : Period
ab/ab = one_period 3 3

-- document 01's examples, in its order
pub record WorkedExamples : Type 0 where
  pub duty_on_none : meaning (duty party1 a) [] ≡ undecided
  pub duty_by_both : meaning (duty party1 a) (a/a ∷ []) ≡ satisfied 1
  pub duty_by_other : meaning (duty party1 a) (-/a ∷ []) ≡ violated 1 (only party1)
  pub duty_by_nobody : meaning (duty party1 a) (-/- ∷ []) ≡ violated 1 (only party1)
  pub duty_alone : meaning (duty party1 a) (a/- ∷ []) ≡ violated 1 (only party2)
  pub power_alone : meaning (power party1 a) (a/- ∷ []) ≡ violated 1 (only party2)
  pub power_by_other : meaning (power party1 a) (-/a ∷ []) ≡ satisfied 1
  pub ban_by_both : meaning (ban party1 a) (a/a ∷ []) ≡ violated 1 (only party1)
  pub both_blamed : meaning (both (power party1 a) (duty party1 b)) (a/- ∷ []) ≡ violated 1 both_parties
  pub both_once : meaning (both (duty party1 a) (then (power party1 b) (duty party2 b))) (-/a ∷ -/- ∷ []) ≡ violated 1 (only party1)
  pub repaired : meaning (repair (duty party1 a) (duty party1 b)) (-/- ∷ b/b ∷ []) ≡ satisfied 2
  pub repeated : meaning (repeat (duty party1 a)) (a/a ∷ []) ≡ undecided
  pub when_rejected : meaning (when (atom (tries party1 b)) (duty party2 a)) (-/- ∷ []) ≡ satisfied 1
  pub until_accepted :
      meaning (until (repeat (duty party1 a)) (seq (star (atom any)) (atom (tries party1 b)))) (a/a ∷ ab/a ∷ []) ≡ satisfied 2
  pub until_violated :
      meaning (until (repeat (duty party1 a)) (seq (star (atom any)) (atom (tries party1 b)))) (a/a ∷ b/a ∷ []) ≡ violated 2 (only party1)

-- one for each point of "What students hand in", two where it names two; the student's answer stands in brackets
pub record StudentExamples : Type 0 where
  -- party 2's later breach in the other half adds no blame (violated at 1, blame 3)
  pub no_later_blame : meaning (both (duty party1 a) (then (ban party2 b) (duty party2 b))) (-/a ∷ b/- ∷ []) ≡ violated 1 (only party1)
  -- the half that owes b in period 3 dies with the whole in period 1, so nothing is to be repaired in period 4 (violated at 4, blame 1)
  pub no_living_half :
      meaning (repeat (repair (both (duty party1 a) (then (ban party1 b) (then (ban party1 b) (duty party2 b)))) (ban party1 a)))
      (-/- ∷ -/- ∷ a/a ∷ a/a ∷ [])
      ≡ undecided
  -- the clause that owes a in period 2 dies with the `until` that finished in period 1 (violated at 2, blame 2)
  pub no_living_clause : meaning (repeat (until (then (ban party1 a) (duty party2 a)) (atom (tries party1 b)))) (b/- ∷ -/- ∷ []) ≡ undecided
  -- party 1 owes b, is barred from b, only from period 2 on (violated at 1, blame 1)
  pub then_starts_after : meaning (then (duty party1 a) (duty party1 b)) (a/a ∷ b/b ∷ []) ≡ satisfied 2
  pub repair_starts_after : meaning (repair (duty party1 a) (ban party1 b)) (b/b ∷ -/- ∷ []) ≡ satisfied 2
  -- the violation in the accepting period counts (satisfied at 1)
  pub violation_first : meaning (until (duty party1 a) (atom (tries party1 b))) (b/a ∷ []) ≡ violated 1 (only party1)

-- a/a, a/-, -/a, -/-: what a clause means, and what an expression shows, in each of the four alone
abbrev pub meanings : Clause → List Decision
meanings c = map (λ x. meaning c (x ∷ [])) (a/a ∷ a/- ∷ -/a ∷ -/- ∷ [])

abbrev pub readings : Expression → List Reading
readings e = map (λ x. reading e (x ∷ [])) (a/a ∷ a/- ∷ -/a ∷ -/- ∷ [])

-- a/a, b/b, b/a, a/b: the same of b
abbrev pub meanings_b : Clause → List Decision
meanings_b c = map (λ x. meaning c (x ∷ [])) (a/a ∷ b/b ∷ b/a ∷ a/b ∷ [])

abbrev pub readings_b : Expression → List Reading
readings_b e = map (λ x. reading e (x ∷ [])) (a/a ∷ b/b ∷ b/a ∷ a/b ∷ [])

-- party 1 tries a; it tries b; any number of periods
abbrev pub tries_a : Expression
tries_a = atom (tries party1 a)

abbrev pub tries_b : Expression
tries_b = atom (tries party1 b)

abbrev pub any* : Expression
any* = star (atom any)

-- a, or a and then b: what goes on may need the longer list
abbrev pub a_or_ab : Expression
a_or_ab = or tries_a (seq tries_a tries_b)

-- sentences of "Expressions" that no example above reaches
pub record ExpressionExamples : Type 0 where
  -- "all; the party tries it; doesn't try it; both try it; not both try it"
  pub any_in : readings (atom any) ≡ accepted 1 ∷ accepted 1 ∷ accepted 1 ∷ accepted 1 ∷ []
  pub tries1_in : readings (atom (tries party1 a)) ≡ accepted 1 ∷ accepted 1 ∷ rejected 1 ∷ rejected 1 ∷ []
  pub tries2_in : readings (atom (tries party2 a)) ≡ accepted 1 ∷ rejected 1 ∷ accepted 1 ∷ rejected 1 ∷ []
  pub idle1_in : readings (atom (idle party1 a)) ≡ rejected 1 ∷ rejected 1 ∷ accepted 1 ∷ accepted 1 ∷ []
  pub idle2_in : readings (atom (idle party2 a)) ≡ rejected 1 ∷ accepted 1 ∷ rejected 1 ∷ accepted 1 ∷ []
  pub succeeds_in : readings (atom (succeeds a)) ≡ accepted 1 ∷ rejected 1 ∷ rejected 1 ∷ rejected 1 ∷ []
  pub fails_in : readings (atom (fails a)) ≡ rejected 1 ∷ accepted 1 ∷ accepted 1 ∷ accepted 1 ∷ []
  -- of action b, another action's attempts don't count
  pub tries1_b : readings_b tries_b ≡ rejected 1 ∷ accepted 1 ∷ accepted 1 ∷ rejected 1 ∷ []
  pub tries2_b : readings_b (atom (tries party2 b)) ≡ rejected 1 ∷ accepted 1 ∷ rejected 1 ∷ accepted 1 ∷ []
  pub idle1_b : readings_b (atom (idle party1 b)) ≡ accepted 1 ∷ rejected 1 ∷ rejected 1 ∷ accepted 1 ∷ []
  pub idle2_b : readings_b (atom (idle party2 b)) ≡ accepted 1 ∷ rejected 1 ∷ accepted 1 ∷ rejected 1 ∷ []
  pub succeeds_b : readings_b (atom (succeeds b)) ≡ rejected 1 ∷ accepted 1 ∷ rejected 1 ∷ rejected 1 ∷ []
  pub fails_b : readings_b (atom (fails b)) ≡ accepted 1 ∷ rejected 1 ∷ accepted 1 ∷ accepted 1 ∷ []
  -- "the one-period lists": each kind holds one period, so b is due in period 2
  pub one_period_each :
      map (λ e. reading (seq e tries_b) (-/- ∷ -/- ∷ [])) (atom any ∷ atom (idle party1 a) ∷ atom (idle party2 a) ∷ atom (fails a) ∷ [])
      ≡ replicate 4 (rejected 2)
  pub one_period_tried :
      map (λ e. reading (seq e tries_b) (a/a ∷ a/a ∷ [])) (atom (tries party1 a) ∷ atom (tries party2 a) ∷ atom (succeeds a) ∷ [])
      ≡ replicate 3 (rejected 2)
  -- "`seq` joins a list of each"
  pub seq_in :
      map (reading (seq tries_a tries_b)) ((a/- ∷ []) ∷ (a/- ∷ b/- ∷ []) ∷ (b/- ∷ []) ∷ (a/- ∷ a/- ∷ []) ∷ [])
      ≡ pending ∷ accepted 2 ∷ rejected 1 ∷ rejected 2 ∷ []
  -- "`or` takes either": its left alone, its right alone; rejected where neither can go on
  pub or_in : map (reading (or tries_a tries_b)) ((a/- ∷ []) ∷ (b/- ∷ []) ∷ (-/- ∷ []) ∷ []) ≡ accepted 1 ∷ accepted 1 ∷ rejected 1 ∷ []
  pub or_left_goes_on : map (reading (or (seq tries_a tries_b) tries_b)) ((a/- ∷ []) ∷ (a/- ∷ a/- ∷ []) ∷ []) ≡ pending ∷ rejected 2 ∷ []
  pub or_right_goes_on : map (reading (or tries_b (seq tries_a tries_b))) ((a/- ∷ []) ∷ (a/- ∷ a/- ∷ []) ∷ []) ≡ pending ∷ rejected 2 ∷ []
  -- "`star` joins zero or more lists"
  pub star_in :
      map (reading (seq (star tries_a) tries_b)) ((b/- ∷ []) ∷ (a/- ∷ a/- ∷ []) ∷ (a/- ∷ a/- ∷ b/- ∷ []) ∷ (a/- ∷ -/- ∷ []) ∷ [])
      ≡ accepted 1 ∷ pending ∷ accepted 3 ∷ rejected 2 ∷ []
  -- the left of `seq`, and each list under `star`, may be longer than its first end: a and b, and not a alone
  pub seq_longer :
      map (reading (seq a_or_ab tries_a)) ((a/- ∷ b/- ∷ []) ∷ (a/- ∷ b/- ∷ a/- ∷ []) ∷ (a/- ∷ b/- ∷ b/- ∷ []) ∷ (a/- ∷ a/- ∷ []) ∷ [])
      ≡ pending ∷ accepted 3 ∷ rejected 3 ∷ accepted 2 ∷ []
  pub star_longer :
      map (reading (seq (star a_or_ab) (atom (tries party2 a))))
      ((a/- ∷ b/- ∷ []) ∷ (a/- ∷ b/- ∷ -/a ∷ []) ∷ (a/- ∷ b/- ∷ b/- ∷ []) ∷ (a/- ∷ a/- ∷ b/- ∷ -/a ∷ []) ∷ [])
      ≡ pending ∷ accepted 3 ∷ rejected 3 ∷ accepted 4 ∷ []
  -- "at the least k", and "provided it wasn't accepted before"
  pub accepted_once : map (reading (or tries_a (seq tries_a tries_a))) ((a/- ∷ a/- ∷ []) ∷ (a/- ∷ b/- ∷ []) ∷ []) ≡ accepted 1 ∷ accepted 1 ∷ []
  -- which hold the empty list
  pub empty_in :
      map holds_empty
      (tries_a ∷ any* ∷ seq tries_a tries_a ∷ seq any* tries_a ∷ seq tries_a any* ∷ seq any* any*
      ∷ or tries_a tries_a ∷ or any* tries_a ∷ or tries_a any* ∷ [])
      ≡ false ∷ true ∷ false ∷ false ∷ false ∷ true ∷ false ∷ true ∷ true ∷ []

-- sentences of "Meaning of clauses" that no example above reaches
pub record ClauseExamples : Type 0 where
  -- "Duty: satisfied if both try; blame p if p doesn't try, otherwise q."
  pub duty2 : meanings (duty party2 a) ≡ satisfied 1 ∷ violated 1 (only party2) ∷ violated 1 (only party1) ∷ violated 1 (only party2) ∷ []
  -- "Ban: violated if both try, blame p."
  pub ban1 : meanings (ban party1 a) ≡ violated 1 (only party1) ∷ satisfied 1 ∷ satisfied 1 ∷ satisfied 1 ∷ []
  pub ban2 : meanings (ban party2 a) ≡ violated 1 (only party2) ∷ satisfied 1 ∷ satisfied 1 ∷ satisfied 1 ∷ []
  -- "Power: violated if p tries and q doesn't, blame q."
  pub power1 : meanings (power party1 a) ≡ satisfied 1 ∷ violated 1 (only party2) ∷ satisfied 1 ∷ satisfied 1 ∷ []
  pub power2 : meanings (power party2 a) ≡ satisfied 1 ∷ satisfied 1 ∷ violated 1 (only party1) ∷ satisfied 1 ∷ []
  -- of action b
  pub duty2_b : meanings_b (duty party2 b) ≡ violated 1 (only party2) ∷ satisfied 1 ∷ violated 1 (only party2) ∷ violated 1 (only party1) ∷ []
  pub ban2_b : meanings_b (ban party2 b) ≡ satisfied 1 ∷ violated 1 (only party2) ∷ satisfied 1 ∷ satisfied 1 ∷ []
  pub power2_b : meanings_b (power party2 b) ≡ satisfied 1 ∷ satisfied 1 ∷ satisfied 1 ∷ violated 1 (only party1) ∷ []
  -- "violated at the earlier violation, with that one's blame": the right's, and either half's where the other is satisfied or open
  pub both_right_first : meaning (both (then (ban party2 b) (duty party2 b)) (duty party1 a)) (-/a ∷ b/- ∷ []) ≡ violated 1 (only party1)
  pub both_left_alone : meaning (both (then (duty party1 a) (duty party2 b)) (duty party1 a)) (a/a ∷ -/- ∷ []) ≡ violated 2 (only party2)
  pub both_right_alone : meaning (both (duty party1 a) (then (duty party1 a) (duty party2 b))) (a/a ∷ -/- ∷ []) ≡ violated 2 (only party2)
  pub both_left_open : meaning (both (repeat (duty party1 a)) (ban party1 a)) (a/a ∷ []) ≡ violated 1 (only party1)
  pub both_right_open : meaning (both (ban party1 a) (repeat (duty party1 a))) (a/a ∷ []) ≡ violated 1 (only party1)
  -- "the two blames are united if they fall in the same period"
  pub both_blames :
      map (λ c. blame (meaning c (a/a ∷ [])))
      (both (ban party1 a) (ban party1 a) ∷ both (ban party2 a) (ban party2 a)
      ∷ both (ban party1 a) (ban party2 a) ∷ both (ban party2 a) (ban party1 a)
      ∷ both (ban party1 a) (both (ban party2 a) (ban party1 a)) ∷ both (both (ban party1 a) (ban party2 a)) (ban party2 a) ∷ [])
      ≡ 1 ∷ 2 ∷ 3 ∷ 3 ∷ 3 ∷ 3 ∷ []
  -- also in a later period than the first; equal blames are one
  pub both_blames_later :
      map (λ c. meaning c (ab/ab ∷ -/- ∷ []))
      (both (repeat (duty party1 a)) (repeat (duty party2 b)) ∷ both (repeat (duty party2 a)) (repeat (duty party1 b))
      ∷ both (repeat (duty party1 a)) (repeat (duty party1 b)) ∷ both (repeat (duty party2 a)) (repeat (duty party2 b)) ∷ [])
      ≡ violated 2 both_parties ∷ violated 2 both_parties ∷ violated 2 (only party1) ∷ violated 2 (only party2) ∷ []
  -- "Otherwise satisfied when the later half is satisfied."
  pub both_at_right :
      map (meaning (both (duty party1 a) (then (duty party1 a) (duty party2 a)))) ((a/a ∷ []) ∷ (a/a ∷ a/a ∷ []) ∷ [])
      ≡ undecided ∷ satisfied 2 ∷ []
  pub both_at_left :
      map (meaning (both (then (duty party1 a) (duty party2 a)) (duty party1 a))) ((a/a ∷ []) ∷ (a/a ∷ a/a ∷ []) ∷ [])
      ≡ undecided ∷ satisfied 2 ∷ []
  -- "a left violation is the violation of the whole"; open after the left's satisfaction; the right's own violation
  pub then_decides :
      map (meaning (then (duty party1 a) (duty party1 b))) ((-/- ∷ []) ∷ (a/a ∷ []) ∷ (a/a ∷ b/- ∷ []) ∷ [])
      ≡ violated 1 (only party1) ∷ undecided ∷ violated 2 (only party2) ∷ []
  -- "a left satisfaction satisfies the whole"; open after the left's violation; "its blame alone counts"
  pub repair_decides :
      map (meaning (repair (duty party1 a) (duty party2 b))) ((a/a ∷ []) ∷ (-/- ∷ []) ∷ (-/- ∷ -/- ∷ []) ∷ [])
      ≡ satisfied 1 ∷ undecided ∷ violated 2 (only party2) ∷ []
  -- "each satisfaction at k begins the clause anew at k+1; never satisfied; its first violation is the whole's"
  pub repeat_anew : meaning (repeat (then (duty party1 a) (duty party2 b))) (a/a ∷ b/b ∷ a/a ∷ b/- ∷ []) ≡ violated 4 (only party2)
  pub repeat_never : meaning (repeat (duty party1 a)) (a/a ∷ a/a ∷ a/a ∷ []) ≡ undecided
  pub repeat_first : meaning (repeat (duty party1 a)) (a/a ∷ -/- ∷ a/- ∷ []) ≡ violated 2 (only party1)
  -- "accepted at k, the clause reads from k+1; rejected at k, satisfied at k"
  pub when_pending : meaning (when (seq (atom any) (seq (atom any) (atom any))) (duty party1 a)) (-/- ∷ -/- ∷ []) ≡ undecided
  pub when_accepted : map (meaning (when tries_b (duty party2 a))) ((b/a ∷ []) ∷ (b/- ∷ a/- ∷ []) ∷ []) ≡ undecided ∷ violated 2 (only party2) ∷ []
  pub when_rejected_later : meaning (when (seq (atom any) tries_b) (duty party2 a)) (-/- ∷ a/a ∷ b/b ∷ []) ≡ satisfied 2
  -- "the clause's own decision if it comes no later than acceptance; otherwise satisfied at acceptance"
  pub until_own :
      map (meaning (until (duty party1 a) (seq (atom any) tries_b))) ((a/a ∷ []) ∷ (a/a ∷ b/b ∷ []) ∷ (-/- ∷ []) ∷ (-/- ∷ b/b ∷ []) ∷ [])
      ≡ satisfied 1 ∷ satisfied 1 ∷ violated 1 (only party1) ∷ violated 1 (only party1) ∷ []
  pub until_over :
      map (meaning (until (then (duty party1 a) (duty party1 a)) tries_b)) ((ab/a ∷ a/a ∷ []) ∷ (ab/a ∷ -/- ∷ []) ∷ [])
      ≡ satisfied 1 ∷ satisfied 1 ∷ []

-- what is told after the first n periods of a list: the verdict's name and number, blame and decision period
abbrev pub told : Clause → List Period → (n : ℕ) → String × ℕ × ℕ × ℕ
told c w n =
    let d = meaning c (take n w) in
    (verdict_name (verdict d n), verdict_number (verdict d n), blame d, decision_period d)

-- "open (0) while undecided; met (1) or broken (2) when n is the decision period; met-after (3) or broken-after (4) later"; "blame: 1, 2, or 3 for
-- both parties"
pub record VerdictExamples : Type 0 where
  pub met_at_2 :
      map (told (then (duty party1 a) (duty party1 b)) (a/a ∷ b/b ∷ -/- ∷ [])) (0 ∷ 1 ∷ 2 ∷ 3 ∷ [])
      ≡ ("open", 0, 0, 0) ∷ ("open", 0, 0, 0) ∷ ("met", 1, 0, 2) ∷ ("met-after", 3, 0, 2) ∷ []
  pub broken_at_2 :
      map (told (then (duty party1 a) (duty party1 b)) (a/a ∷ -/- ∷ b/b ∷ [])) (0 ∷ 1 ∷ 2 ∷ 3 ∷ [])
      ≡ ("open", 0, 0, 0) ∷ ("open", 0, 0, 0) ∷ ("broken", 2, 1, 2) ∷ ("broken-after", 4, 1, 2) ∷ []
  pub broken_by_both : told (both (power party1 a) (duty party1 b)) (a/- ∷ []) 1 ≡ ("broken", 2, 3, 1)
  -- "outcome (0 undecided, 1 satisfied, 2 violated)"
  pub outcomes : map outcome (undecided ∷ satisfied 3 ∷ violated 4 (only party1) ∷ []) ≡ 0 ∷ 1 ∷ 2 ∷ []
  -- the contract, the periods and the lines of "Watch"
  pub watched :
      map (told (repeat (repair (duty party1 a) (duty party1 b))) (a/a ∷ -/- ∷ b/- ∷ a/a ∷ [])) (1 ∷ 2 ∷ 3 ∷ 4 ∷ [])
      ≡ ("open", 0, 0, 0) ∷ ("open", 0, 0, 0) ∷ ("broken", 2, 2, 3) ∷ ("broken-after", 4, 2, 3) ∷ []

-- document 02, "Duties with a deadline"; what a wrong reading would give stands in brackets
pub record DeadlineExamples : Type 0 where
  -- "satisfied in the first of its d periods in which both try"
  pub met_in_window :
      map (meaning (deadline party1 a 3)) ((a/a ∷ []) ∷ (-/- ∷ a/a ∷ []) ∷ (a/- ∷ -/a ∷ a/a ∷ []) ∷ [])
      ≡ satisfied 1 ∷ satisfied 2 ∷ satisfied 3 ∷ []
  -- open before the d-th period, also where the parties try in different periods or another action succeeds
  pub open_in_window :
      map (meaning (deadline party1 a 3)) ([] ∷ (-/- ∷ []) ∷ (a/- ∷ -/a ∷ []) ∷ (b/b ∷ b/b ∷ []) ∷ [])
      ≡ undecided ∷ undecided ∷ undecided ∷ undecided ∷ []
  -- "violated at the d-th, with a plain duty's blame for that period" (the other party, by an earlier period; both, by all periods)
  pub missed1 :
      map (meaning (deadline party1 a 3)) ((a/- ∷ a/- ∷ -/- ∷ []) ∷ (-/- ∷ -/a ∷ a/- ∷ []) ∷ (a/- ∷ a/- ∷ -/a ∷ []) ∷ [])
      ≡ violated 3 (only party1) ∷ violated 3 (only party2) ∷ violated 3 (only party1) ∷ []
  pub missed2 :
      map (meaning (deadline party2 a 3)) ((-/a ∷ -/a ∷ -/- ∷ []) ∷ (-/a ∷ -/a ∷ a/- ∷ []) ∷ (-/- ∷ a/- ∷ -/a ∷ []) ∷ [])
      ≡ violated 3 (only party2) ∷ violated 3 (only party2) ∷ violated 3 (only party1) ∷ []
  -- no period after the decision counts (satisfied at 3; violated at 3 or at 5; satisfied at 4)
  pub nothing_after :
      map (meaning (deadline party1 a 3)) ((a/a ∷ a/a ∷ a/a ∷ []) ∷ (-/- ∷ a/a ∷ -/- ∷ -/- ∷ -/- ∷ []) ∷ (-/- ∷ -/- ∷ a/- ∷ a/a ∷ []) ∷ [])
      ≡ satisfied 1 ∷ satisfied 2 ∷ violated 3 (only party2) ∷ []
  -- the least window and the greatest
  pub window_of_1 :
      map (λ p. meanings (deadline p a 1)) (party1 ∷ party2 ∷ [])
      ≡ (satisfied 1 ∷ violated 1 (only party2) ∷ violated 1 (only party1) ∷ violated 1 (only party1) ∷ [])
      ∷ (satisfied 1 ∷ violated 1 (only party2) ∷ violated 1 (only party1) ∷ violated 1 (only party2) ∷ []) ∷ []
  pub window_of_15 :
      map (meaning (deadline party1 a 15)) (replicate 14 -/- ∷ (replicate 14 -/- ++ (a/a ∷ [])) ∷ (replicate 14 a/- ++ (-/- ∷ [])) ∷ [])
      ≡ undecided ∷ satisfied 15 ∷ violated 15 (only party1) ∷ []
  -- met in period 2, it is begun anew in period 3 (violated at 3, counted from period 1; at 4, from period 2)
  pub begun_anew :
      map (meaning (repeat (deadline party1 a 3)))
      ((-/- ∷ a/a ∷ a/- ∷ a/- ∷ []) ∷ (-/- ∷ a/a ∷ a/- ∷ a/- ∷ a/a ∷ []) ∷ (-/- ∷ a/a ∷ a/- ∷ a/- ∷ -/a ∷ []) ∷ [])
      ≡ undecided ∷ undecided ∷ violated 5 (only party1) ∷ []
  -- the deadline of period 1 dies with `both` in period 1: it is not missed in period 3, so nothing is to be repaired in period 4 (violated at 4)
  pub no_living_window :
      map (meaning (repeat (repair (both (duty party1 b) (deadline party1 a 3)) (ban party1 b))))
      ((-/- ∷ -/- ∷ b/b ∷ b/b ∷ []) ∷ (-/- ∷ -/- ∷ b/b ∷ b/b ∷ -/- ∷ b/b ∷ []) ∷ [])
      ≡ undecided ∷ violated 6 (only party1) ∷ []
  -- nor is it met in period 2, so `both` is not satisfied in period 3 and b is not owed in period 4 (violated at 5)
  pub no_living_success :
      map (meaning (repeat (repair (both (deadline party1 a 3) (duty party1 b)) (ban party1 b))))
      ((-/- ∷ a/a ∷ b/b ∷ -/- ∷ b/b ∷ []) ∷ (-/- ∷ a/a ∷ b/b ∷ -/- ∷ b/b ∷ b/b ∷ []) ∷ [])
      ≡ undecided ∷ violated 6 (only party1) ∷ []
  -- it dies with the `until` that finished in period 1 (violated at 3)
  pub no_living_deadline :
      map (meaning (repeat (until (deadline party1 a 3) tries_b))) ((b/- ∷ -/- ∷ -/- ∷ []) ∷ (b/- ∷ -/- ∷ -/- ∷ a/- ∷ []) ∷ [])
      ≡ undecided ∷ violated 4 (only party2) ∷ []
  -- missed, it is repaired from period d + 1 on (satisfied or violated at 1, 2 or 3)
  pub repaired_after_window :
      map (meaning (repair (deadline party1 a 3) (duty party2 b)))
      ((-/- ∷ -/- ∷ a/a ∷ []) ∷ (b/b ∷ b/b ∷ b/b ∷ []) ∷ (b/b ∷ b/b ∷ b/b ∷ b/- ∷ []) ∷ (b/- ∷ b/- ∷ b/- ∷ []) ∷ (b/- ∷ b/- ∷ b/- ∷ b/b ∷ []) ∷ [])
      ≡ satisfied 3 ∷ undecided ∷ violated 4 (only party2) ∷ undecided ∷ satisfied 4 ∷ []
  -- begun in period 2 by `then`, `repair` and `when`, its window is counted from there (satisfied at 1, violated at 2)
  pub begun_later :
      map
      (λ c. map (meaning c) ((a/a ∷ -/- ∷ []) ∷ (a/a ∷ -/- ∷ a/a ∷ []) ∷ (a/a ∷ a/- ∷ -/a ∷ []) ∷ []))
      (then (duty party1 a) (deadline party1 a 2) ∷ repair (duty party1 b) (deadline party1 a 2) ∷ when tries_a (deadline party1 a 2) ∷ [])
      ≡ replicate 3 (undecided ∷ satisfied 3 ∷ violated 3 (only party1) ∷ [])
  -- acceptance in the d-th period does not undo its violation there (satisfied at 3); acceptance before satisfies
  pub accepted_in_window :
      map (meaning (until (deadline party1 a 3) (seq any* tries_b)))
      ((-/- ∷ -/- ∷ b/a ∷ []) ∷ (-/- ∷ -/- ∷ ab/a ∷ []) ∷ (-/- ∷ b/- ∷ -/- ∷ []) ∷ (a/a ∷ b/- ∷ []) ∷ (-/- ∷ -/- ∷ a/- ∷ b/- ∷ []) ∷ [])
      ≡ violated 3 (only party1) ∷ satisfied 3 ∷ satisfied 2 ∷ satisfied 1 ∷ violated 3 (only party2) ∷ []
  -- what is told of it
  pub told_missed :
      map (told (deadline party1 a 2) (a/- ∷ -/- ∷ a/a ∷ [])) (0 ∷ 1 ∷ 2 ∷ 3 ∷ [])
      ≡ ("open", 0, 0, 0) ∷ ("open", 0, 0, 0) ∷ ("broken", 2, 1, 2) ∷ ("broken-after", 4, 1, 2) ∷ []

-- document 02, "Duties that both parties own"; what a wrong reading would give stands in brackets
pub record JointExamples : Type 0 where
  -- "It is satisfied when both try; otherwise the blame is on each party that didn't try, so -/- blames both." (1 for -/-, as party 1's duty)
  pub joint_blames :
      meanings (joint a) ≡ satisfied 1 ∷ violated 1 (only party2) ∷ violated 1 (only party1) ∷ violated 1 both_parties ∷ []
  -- open on no period; another action does not count
  pub joint_action : map (meaning (joint a)) ([] ∷ (b/b ∷ []) ∷ (b/a ∷ []) ∷ []) ≡ undecided ∷ violated 1 both_parties ∷ violated 1 (only party1) ∷ []
  -- period 1 alone counts (satisfied at 2; violated at 2; both to blame)
  pub joint_once :
      map (meaning (joint a)) ((-/- ∷ a/a ∷ []) ∷ (a/a ∷ -/- ∷ []) ∷ (a/- ∷ -/a ∷ []) ∷ [])
      ≡ violated 1 both_parties ∷ satisfied 1 ∷ violated 1 (only party2) ∷ []
  -- "Clauses above it treat that blame as any other": both unites it with the other half's in the same period
  pub joint_united :
      map (λ c. meaning c (b/a ∷ [])) (both (joint a) (power party1 b) ∷ both (power party1 b) (joint a) ∷ both (joint a) (duty party2 a) ∷ [])
      ≡ violated 1 both_parties ∷ violated 1 both_parties ∷ violated 1 (only party1) ∷ []
  pub joint_united_both :
      map (λ c. meaning c (-/- ∷ [])) (both (joint a) (duty party1 b) ∷ both (duty party2 b) (joint a) ∷ both (joint a) (joint b) ∷ [])
      ≡ replicate 3 (violated 1 both_parties)
  -- and adds nothing of a later period, be it the other half's or its own (blame 3)
  pub joint_no_later_blame :
      map (λ c. meaning c (-/a ∷ -/- ∷ [])) (both (joint a) (then (power party1 b) (duty party2 b)) ∷ both (duty party1 a) (then (ban party1 a) (joint a)) ∷ [])
      ≡ violated 1 (only party1) ∷ violated 1 (only party1) ∷ []
  -- then: its violation is the whole's; its satisfaction begins the right in period 2
  pub joint_then :
      map (meaning (then (joint a) (joint b))) ((-/- ∷ b/b ∷ []) ∷ (a/a ∷ b/b ∷ []) ∷ (a/a ∷ -/- ∷ []) ∷ (a/a ∷ b/- ∷ []) ∷ [])
      ≡ violated 1 both_parties ∷ satisfied 2 ∷ violated 2 both_parties ∷ violated 2 (only party2) ∷ []
  -- repair: the right's blame alone counts (blame 3, the left's)
  pub joint_repaired :
      map (meaning (repair (joint a) (duty party2 b))) ((a/a ∷ []) ∷ (-/- ∷ []) ∷ (-/- ∷ b/b ∷ []) ∷ (-/- ∷ -/- ∷ []) ∷ [])
      ≡ satisfied 1 ∷ undecided ∷ satisfied 2 ∷ violated 2 (only party2) ∷ []
  -- also where it is the joint duty's (blame 1, the left's)
  pub joint_repairs :
      map (meaning (repair (duty party1 b) (joint a))) ((-/- ∷ a/a ∷ []) ∷ (-/- ∷ a/- ∷ []) ∷ (-/- ∷ -/- ∷ []) ∷ [])
      ≡ satisfied 2 ∷ violated 2 (only party2) ∷ violated 2 both_parties ∷ []
  -- repeat: its first violation is the whole's (blame 3, with that of period 3)
  pub joint_repeated :
      map (meaning (repeat (joint a))) ((a/a ∷ a/a ∷ []) ∷ (a/a ∷ -/- ∷ []) ∷ (a/a ∷ a/- ∷ -/a ∷ []) ∷ [])
      ≡ undecided ∷ violated 2 both_parties ∷ violated 2 (only party2) ∷ []
  -- when: begun in the period after acceptance
  pub joint_when :
      map (meaning (when tries_a (joint a))) ((-/- ∷ []) ∷ (a/- ∷ []) ∷ (a/- ∷ a/a ∷ []) ∷ (a/a ∷ -/- ∷ []) ∷ [])
      ≡ satisfied 1 ∷ undecided ∷ satisfied 2 ∷ violated 2 both_parties ∷ []
  -- until: acceptance in the same period does not undo its violation (satisfied at 1 or 2)
  pub joint_until :
      map (meaning (until (repeat (joint a)) (seq any* tries_b))) ((b/- ∷ []) ∷ (a/a ∷ b/- ∷ []) ∷ (a/a ∷ b/a ∷ []) ∷ (a/a ∷ ab/a ∷ -/- ∷ []) ∷ [])
      ≡ violated 1 both_parties ∷ violated 2 both_parties ∷ violated 2 (only party1) ∷ satisfied 2 ∷ []
  -- what is told of it
  pub told_joint :
      map (told (joint a) (-/- ∷ a/a ∷ [])) (0 ∷ 1 ∷ 2 ∷ [])
      ≡ ("open", 0, 0, 0) ∷ ("broken", 2, 3, 1) ∷ ("broken-after", 4, 3, 1) ∷ []

-- an endless clause that no period here decides: none tries action 2
abbrev pub endless : Clause
endless = repeat (ban party1 2)

-- document 02, "An ending that may begin in any period"; what a wrong reading would give stands in brackets
pub record EndingExamples : Type 0 where
  -- "the stretch from some period of this `until` to period k is in its set": it may begin in any period (none, from period 1 alone), and has no gap (3)
  pub notice_in_2 : map (acceptance tries_b) ([] ∷ (-/- ∷ []) ∷ (-/- ∷ b/- ∷ []) ∷ (-/- ∷ -/- ∷ b/- ∷ []) ∷ []) ≡ none ∷ none ∷ some 2 ∷ some 3 ∷ []
  pub notice_from_2 :
      map (acceptance (seq tries_a tries_b)) ((-/- ∷ a/- ∷ []) ∷ (-/- ∷ a/- ∷ b/- ∷ []) ∷ (a/- ∷ -/- ∷ b/- ∷ []) ∷ (b/- ∷ a/- ∷ []) ∷ [])
      ≡ none ∷ some 3 ∷ none ∷ none ∷ []
  -- "the least k": the stretch of period 1 alone, not that of periods 1 and 2, nor period 3 (2, 3)
  pub once_accepted : map (acceptance (or tries_a (seq tries_a tries_a))) ((a/- ∷ a/- ∷ []) ∷ (a/- ∷ -/- ∷ a/- ∷ []) ∷ []) ≡ some 1 ∷ some 1 ∷ []
  -- two periods of a and then b: of the stretches from periods 1 and 2, both still possible in period 2, the later one completes (undecided, where one
  -- begins only when the last has failed)
  pub later_completes : meaning (until endless (seq tries_a (seq tries_a tries_b))) (a/- ∷ a/- ∷ a/- ∷ b/- ∷ []) ≡ satisfied 4
  -- the stretch from period 2 ends in period 3, while that from period 1 is still possible, which ends in period 4 (satisfied at 4)
  pub ends_before_first :
      meaning (until endless (or (seq tries_a (seq (atom any) (seq (atom any) tries_b))) (seq tries_b tries_b))) (a/- ∷ b/- ∷ b/- ∷ b/- ∷ [])
      ≡ satisfied 3
  -- "It is never rejected." (undecided)
  pub never_rejected :
      map (meaning (until (repeat (duty party1 a)) tries_b)) ((a/a ∷ []) ∷ (a/a ∷ ab/a ∷ []) ∷ (a/a ∷ a/a ∷ ab/a ∷ []) ∷ [])
      ≡ undecided ∷ satisfied 2 ∷ satisfied 3 ∷ []
  -- the clause's own decision if it comes no later: a violation in the accepting period (satisfied at 2, at 3), a satisfaction before it (satisfied at 3)
  pub violated_at_acceptance : meaning (until (repeat (duty party1 a)) tries_b) (a/a ∷ b/a ∷ []) ≡ violated 2 (only party1)
  pub violated_at_end :
      map (meaning (until (repeat (duty party1 a)) (seq tries_b tries_b))) ((a/a ∷ ab/a ∷ b/a ∷ []) ∷ (a/a ∷ ab/a ∷ ab/a ∷ []) ∷ [])
      ≡ violated 3 (only party1) ∷ satisfied 3 ∷ []
  pub decided_before_end : meaning (until (then (duty party1 a) (duty party1 a)) (seq tries_b tries_b)) (a/a ∷ ab/a ∷ b/- ∷ []) ≡ satisfied 2
  -- "of this `until`": begun anew in period 3, it doesn't count the stretch of periods 2 and 3, so b is owed in period 4 (violated at 4; undecided)
  pub not_of_last_round :
      map (meaning (repeat (until (then (duty party1 a) (duty party1 b)) (seq tries_b tries_a))))
      ((a/a ∷ b/b ∷ a/a ∷ b/b ∷ []) ∷ (a/a ∷ b/b ∷ a/a ∷ a/a ∷ []) ∷ [])
      ≡ undecided ∷ violated 4 (only party1) ∷ []
  -- begun in period 3 by `then`, `repair` and `when`, it doesn't count the stretch of periods 2 and 3 (satisfied at 3)
  pub not_before_begun :
      map
      (λ c. map (meaning c) ((a/a ∷ ab/a ∷ b/- ∷ []) ∷ (a/a ∷ ab/a ∷ b/- ∷ b/- ∷ []) ∷ []))
      (then (then (duty party1 a) (duty party1 a)) (until endless (seq tries_b tries_b))
      ∷ repair (then (duty party1 a) (duty party1 b)) (until endless (seq tries_b tries_b))
      ∷ when (seq (atom any) (atom any)) (until endless (seq tries_b tries_b)) ∷ [])
      ≡ replicate 3 (undecided ∷ satisfied 4 ∷ [])
  -- "`when` still matches from its first period." (undecided, and then violated at 3, at 4)
  pub when_from_first : meaning (when tries_b (duty party1 a)) (-/- ∷ b/- ∷ -/- ∷ []) ≡ satisfied 1
  pub when_not_from_2 : meaning (when (seq tries_a tries_b) (duty party1 a)) (-/- ∷ a/- ∷ b/- ∷ -/- ∷ []) ≡ satisfied 1
  -- what is told of it
  pub told_ended :
      map (told (until (repeat (duty party1 a)) tries_b) (a/a ∷ ab/a ∷ -/- ∷ [])) (0 ∷ 1 ∷ 2 ∷ 3 ∷ [])
      ≡ ("open", 0, 0, 0) ∷ ("open", 0, 0, 0) ∷ ("met", 1, 0, 2) ∷ ("met-after", 3, 0, 2) ∷ []
