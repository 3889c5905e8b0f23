-- The signals that obey a block's rows are wired as its tree. No row number is computed here.
use Prim.Native.Nat.{ℕ, zero, suc, ◌-◌}
use mathlib.Core.Bool.{Bool, true, false, not, ◌&&◌, ◌||◌, cond, and-true, or-false, or_assoc, and-eq-true_iff, false≢true}
use mathlib.Core.List.{List}
use mathlib.Core.Path.{◌≡◌, refl, sym, ◌∙◌}
use Rattle.periods.specs.Periods
use Rattle.periods.specs.declared.Party.{Party}
use Rattle.periods.specs.declared.Party.TheVariants.{One as party1, Two as party2}
use Rattle.periods.specs.Periods.{other, Period}
use Rattle.layout.specs.Rows.{Row}
use Rattle.contract.specs.Expressions.{Atom, any, tries, idle, succeeds, fails, holds, Expression, atom, seq, or, star, holds_empty}
use Rattle.contract.specs.Meaning.{only, both_parties, Literal, duty, ban, power, Clause, literal, deadline, both, then, repair, repeat, when, until, tested_first}
use Rattle.contract.proofs.Windows.{by_party}
use Rattle.image.specs.Widths.{never_row, period_rows, ◌⊹◌, after_window, after_expression, after_clause}
use Rattle.image.specs.Blocks.{until_done, hand_over, join_on, remember, end_row, live_row, if_empty, expression_rows, blaming, outputs_of, window_rows, last_row, clause_rows}
use Rattle.image.proofs.Signals.{Signal, at, ◌≐◌, Obeys, Report, is_met, is_broken, literal_report, Says, Window, at_last, more, UntilDone, HandsOver, JoinsOn, Remembers, where_empty, WiredExpression, wired_atom, wired_seq, wired_or, wired_star, WiredClause, wired_literal, wired_deadline, wired_both, wired_then, wired_repair, wired_repeat, wired_when, wired_until}

-- that signals obey rows, as a type that shows the rows: each law below reads its own rows there and hands the rest on
record GivesRows (v : ℕ → Signal) (b : ℕ) (rows : List Row) : Type 0 where
  signals : Obeys v b rows

-- ---- rows that several kinds have

module _ {v : ℕ → Signal} {b : ℕ} {rest : List Row} {G : Type 0} where
  until_done_lem : {done K : ℕ} → GivesRows v b (until_done done K b λ go. rest) → (UntilDone (v done) (v K) (v (b ⊹ 2)) → GivesRows v (b ⊹ 3) rest → G) → G
  until_done_lem o k =
      let (was, (unless, (goes, o'))) = o.signals in
      k (record { goes = λ p h. goes p h ∙ rw (unless p h, was p h) }) (record { signals = o' })

  hand_over_lem : {fired K : ℕ} → GivesRows v b (hand_over fired K b λ start go. rest)
      → (HandsOver (v fired) (v K) (v (b ⊹ 1)) (v (b ⊹ 3)) → GivesRows v (b ⊹ 4) rest → G) → G
  hand_over_lem o k =
      let (was, (starts, (unless, (goes, o')))) = o.signals in
      k (record { starts = λ p h. starts p h ∙ rw (was p h); goes = λ p h. goes p h ∙ rw (unless p h, was p h) }) (record { signals = o' })

  join_on_lem : {ended S K : ℕ} → GivesRows v b (join_on ended S K b λ start. rest) → (JoinsOn (v ended) (v S) (v K) (v (b ⊹ 2)) → GivesRows v (b ⊹ 3) rest → G) → G
  join_on_lem o k =
      let (was, (again, (starts, o'))) = o.signals in
      k (record { starts = λ p h. starts p h ∙ rw (again p h, was p h) }) (record { signals = o' })

  remembers : {now go : ℕ} → GivesRows v b (remember now go b λ kept. rest) → (Remembers (v now) (v go) (v (b ⊹ 2)) → GivesRows v (b ⊹ 3) rest → G) → G
  remembers o k =
      let (was, (again, (stays, o'))) = o.signals in
      k (record { stays = λ p h. stays p h ∙ rw (again p h, was p h) }) (record { signals = o' })

-- ---- literals

-- three values say a report of a literal, or of a deadline, whose party q is tested first: one blames q, one the other party
record LiteralSays (q : Party) (s : Report) (sat own others : Bool) : Type 0 where
  sat_is : sat ≡ is_met s
  own_is : own ≡ is_broken q s
  others_is : others ≡ is_broken (other q) s

says_nothing : {q : Party} → LiteralSays q Report.nothing false false false
says_nothing = record { sat_is = refl; own_is = refl; others_is = refl }

says_met : {q : Party} → LiteralSays q Report.met true false false
says_met = record { sat_is = refl; own_is = refl; others_is = refl }

blames_own : (q : Party) → LiteralSays q (Report.broken (only q)) false true false
blames_own party1 = record { sat_is = refl; own_is = refl; others_is = refl }
blames_own party2 = record { sat_is = refl; own_is = refl; others_is = refl }

blames_other : (q : Party) → LiteralSays q (Report.broken (only (other q))) false false true
blames_other party1 = record { sat_is = refl; own_is = refl; others_is = refl }
blames_other party2 = record { sat_is = refl; own_is = refl; others_is = refl }

-- what the rows of each kind compute from S and the two attempts
duty_says : (q : Party) (s t u : Bool) → LiteralSays q (literal_report (duty (only q)) s t u) (s && t && u) (s && not t) (s && t && not u)
duty_says q false t u = says_nothing
duty_says q true false u = blames_own q
duty_says q true true false = blames_other q
duty_says q true true true = says_met

joint_says : (s t u : Bool) → LiteralSays party1 (literal_report (duty both_parties) s t u) (s && t && u) (s && not t) (s && not u)
joint_says false t u = says_nothing
joint_says true true true = says_met
joint_says true true false = blames_other party1
joint_says true false true = blames_own party1
joint_says true false false = record { sat_is = refl; own_is = refl; others_is = refl }

ban_says : (q : Party) (s t u : Bool) → LiteralSays q (literal_report (ban q) s t u) (s && not (s && t && u)) (s && t && u) false
ban_says q false t u = says_nothing
ban_says q true false u = says_met
ban_says q true true false = says_met
ban_says q true true true = blames_own q

power_says : (q : Party) (s t u : Bool) → LiteralSays q (literal_report (power q) s t u) (s && not (s && t && not u)) false (s && t && not u)
power_says q false t u = says_nothing
power_says q true false u = says_met
power_says q true true false = blames_other q
power_says q true true true = says_met

-- the same with party 1's blame before party 2's
says_blaming : (v : ℕ → Signal) (q : Party) (sat own others : ℕ) {p : Period} {h : List Period} {s : Report}
    → LiteralSays q s (v sat p h) (v own p h) (v others p h)
    → let out = blaming q sat own others in Says (v out.sat p h) (v out.one p h) (v out.two p h) s
says_blaming v party1 sat own others t = record { sat_is = t.sat_is; one_is = t.own_is; two_is = t.others_is }
says_blaming v party2 sat own others t = record { sat_is = t.sat_is; one_is = t.others_is; two_is = t.own_is }

wire_literal : (v : ℕ → Signal) (l : Literal) (a S K sat own others : ℕ)
    → let q = tested_first l in
    ((p : Period) (h : List Period)
    → LiteralSays q (literal_report l (v S p h) (Periods.tries p q a) (Periods.tries p (other q) a)) (v sat p h) (v own p h) (v others p h))
    → let out = blaming q sat own others in WiredClause (literal l a) (v S) (v K) (v out.sat) (v out.one) (v out.two)
wire_literal v l a S K sat own others t = wired_literal λ p h. says_blaming v (tested_first l) sat own others (t p h)

-- ---- deadlines

-- what the rows compute from whether the duty waits, whether it is missed in the last period, and the two attempts
deadline_says : (q : Party) (w z t u : Bool) → (z ≡ true → (t && u) ≡ false)
    → LiteralSays q (literal_report (duty (only q)) (cond (t && u) w z) t u) (w && (t && u)) (z && not t) (z && t)
deadline_says q w true true true e = absurd (false≢true (sym (e refl)))
deadline_says q true false true true e = says_met
deadline_says q false false true true e = says_nothing
deadline_says q true true true false e = blames_other q
deadline_says q false true true false e = blames_other q
deadline_says q true false true false e = says_nothing
deadline_says q false false true false e = says_nothing
deadline_says q true true false u e = blames_own q
deadline_says q false true false u e = blames_own q
deadline_says q true false false u e = says_nothing
deadline_says q false false false u e = says_nothing

-- an action does not succeed where the duty is missed
missed_unmet : (x s : Bool) → (x && not s) ≡ true → s ≡ false
missed_unmet x false e = refl
missed_unmet true true e = absurd (false≢true e)
missed_unmet false true e = absurd (false≢true e)

last_unmet : {a : ℕ} {K : Signal} {n : ℕ} {missed earlier last : Signal} → Window a K n missed earlier last
    → ((p : Period) (h : List Period) → missed p h ≡ true → Periods.succeeds p a ≡ false)
    → (p : Period) (h : List Period) → last p h ≡ true → Periods.succeeds p a ≡ false
last_unmet (at_last e l) m p h i = m p h (sym (l p h) ∙ i)
last_unmet {a} {K = K} (more n w e) m p h i =
    last_unmet w (λ p h j. missed_unmet (K p h) (Periods.succeeds p a) ((and-eq-true_iff _ _).0 (sym (n p h) ∙ j)).0) p h i

-- the rows of a window's later periods; `later` is `earlier` of these alone
wire_window : (v : ℕ → Signal) (a K n g e m c : ℕ) {rest : List Row} {G : Type 0}
    → (v g ≐ λ p h. v K p h && not (Periods.succeeds p a)) → GivesRows v c (window_rows n g e m c rest)
    → ((later : Signal) → Window a (v K) n (v m) later (v (last_row n 2 m c)) → (v (last_row n 1 e c) ≐ λ p h. v e p h || later p h)
    → GivesRows v (after_window n c) rest → G)
    → G
unfolding window_rows
wire_window v a K zero g e m c unmet o k = k (λ p h. false) (at_last (λ p h. refl) (λ p h. refl)) (λ p h. sym (or-false (v e p h))) o
wire_window v a K (suc n) g e m c unmet o k =
    let (was, (collects, (misses, o'))) = o.signals in
    wire_window v a K n g (c ⊹ 1) (c ⊹ 2) (c ⊹ period_rows) unmet (record { signals = o' }) λ later w either o''.
    k (λ p h. at (v m) h || later p h) (more (λ p h. misses p h ∙ rw (unmet p h, was p h)) w (λ p h. refl))
    (λ p h. either p h ∙ rw (collects p h, was p h) (or_assoc (v e p h) (at (v m) h) (later p h))) o''

module _ (v : ℕ → Signal) (never-is : v never_row ≐ λ p h. false) where
  -- ---- expressions

  -- `end` is S where `test` is, which tells whether the atom holds
  wire_atom : (a : Atom) (S K test end : ℕ) → (v test ≐ λ p h. holds a p) → (v end ≐ λ p h. v S p h && v test p h)
      → WiredExpression (atom a) (v S) (v K) (v end) (v never_row)
  wire_atom a S K test end t e = wired_atom {a = a} {S = v S} (λ p h. e p h ∙ rw (t p h)) never-is

  where_empty_lem : (e : Expression) (x : ℕ) → v (if_empty e x) ≐ where_empty e (v x)
  where_empty_lem e x p h = go (holds_empty e)
    where
      go : (t : Bool) → v (cond t x never_row) p h ≡ (t && v x p h)
      go true = refl
      go false = never-is p h

  wire_expression : (e : Expression) {b S K : ℕ} {rest : List Row} {G : Type 0} → GivesRows v b (expression_rows e b S K rest)
      → (WiredExpression e (v S) (v K) (v (end_row e b S)) (v (live_row e b)) → GivesRows v (after_expression e b) rest → G) → G
  unfolding expression_rows after_expression end_row live_row holds Periods.succeeds
  wire_expression (atom any) {S = S} o k = k (wired_atom (λ p h. sym (and-true (v S p h))) never-is) o
  wire_expression (atom (tries q a)) o k =
      let (try, (ends, o')) = o.signals in
      k (wire_atom (tries q a) _ _ _ _ try ends) (record { signals = o' })
  wire_expression (atom (idle q a)) o k =
      let (try, (none, (ends, o'))) = o.signals in
      k (wire_atom (idle q a) _ _ _ _ (λ p h. none p h ∙ rw (try p h)) ends) (record { signals = o' })
  wire_expression (atom (succeeds a)) o k =
      let (one, (two, (all, (ends, o')))) = o.signals in
      k (wire_atom (succeeds a) _ _ _ _ (λ p h. all p h ∙ rw (one p h, two p h)) ends) (record { signals = o' })
  wire_expression (atom (fails a)) o k =
      let (one, (two, (all, (none, (ends, o'))))) = o.signals in
      k (wire_atom (fails a) _ _ _ _ (λ p h. none p h ∙ rw (all p h, one p h, two p h)) ends) (record { signals = o' })
  wire_expression (seq l r) {S = S} o k =
      join_on_lem o λ joins o₁.
      wire_expression r o₁ λ right o₂.
      wire_expression l o₂ λ left o₃.
      let (ends, (either, (lives, o'))) = o₃.signals in
      k (wired_seq left right (record { starts = λ p h. joins.starts p h ∙ rw (where_empty_lem l S p h) })
      (λ p h. ends p h ∙ rw (where_empty_lem r _ p h)) (λ p h. lives p h ∙ rw (either p h)))
      (record { signals = o' })
  wire_expression (or l r) o k =
      wire_expression r o λ right o₁.
      wire_expression l o₁ λ left o₂.
      let (ends, (lives, o')) = o₂.signals in
      k (wired_or left right ends lives) (record { signals = o' })
  wire_expression (star e) o k =
      join_on_lem o λ joins o₁.
      wire_expression e o₁ λ part o₂.
      let (lives, o') = o₂.signals in
      k (wired_star part joins lives) (record { signals = o' })

  -- ---- clauses

  wire_clause : (c : Clause) {b S K : ℕ} {rest : List Row} {G : Type 0} → GivesRows v b (clause_rows c b S K rest)
      → (WiredClause c (v S) (v K) (v (outputs_of c b).sat) (v (outputs_of c b).one) (v (outputs_of c b).two) → GivesRows v (after_clause c b) rest → G)
      → G
  unfolding clause_rows after_clause outputs_of
  wire_clause (literal (duty (only q)) a) {S = S} o k =
      let (try_own, (try_other, (asked, (sat, (not_own, (own, (not_other, (others, o')))))))) = o.signals in
      k (wire_literal v (duty (only q)) a _ _ _ _ _ λ p h.
      rw (sat p h, own p h, others p h, asked p h, not_own p h, not_other p h, try_own p h, try_other p h) (duty_says q (v S p h) _ _))
      (record { signals = o' })
  wire_clause (literal (duty both_parties) a) {S = S} o k =
      let (try1, (try2, (asked, (sat, (not1, (one, (not2, (two, o')))))))) = o.signals in
      k (wire_literal v (duty both_parties) a _ _ _ _ _ λ p h.
      rw (sat p h, one p h, two p h, asked p h, not1 p h, not2 p h, try1 p h, try2 p h) (joint_says (v S p h) _ _))
      (record { signals = o' })
  wire_clause (literal (ban q) a) {S = S} o k =
      let (try_own, (try_other, (asked, (own, (clear, (sat, o')))))) = o.signals in
      k (wire_literal v (ban q) a _ _ _ _ _ λ p h.
      rw (sat p h, clear p h, own p h, asked p h, try_own p h, try_other p h, never-is p h) (ban_says q (v S p h) _ _))
      (record { signals = o' })
  wire_clause (literal (power q) a) {S = S} o k =
      let (try_own, (try_other, (asked, (not_other, (others, (clear, (sat, o'))))))) = o.signals in
      k (wire_literal v (power q) a _ _ _ _ _ λ p h.
      rw (sat p h, clear p h, others p h, asked p h, not_other p h, try_own p h, try_other p h, never-is p h) (power_says q (v S p h) _ _))
      (record { signals = o' })
  wire_clause (deadline q a d) {b} {S} {K} o k =
      let (try_own, (try_other, (success, (failure, (unmet, (misses, o₁)))))) = o.signals in
      let met : (v (b ⊹ 2) ≐ λ p h. Periods.succeeds p a) = λ p h. success p h ∙ rw (try_own p h, try_other p h) (sym (by_party q p a)) in
      let missed : (v (b ⊹ 5) ≐ λ p h. v S p h && not (Periods.succeeds p a)) = λ p h. misses p h ∙ rw (failure p h, met p h) in
      wire_window v a K (d - 1) (b ⊹ 4) never_row (b ⊹ 5) (b ⊹ 6) (λ p h. unmet p h ∙ rw (failure p h, met p h)) (record { signals = o₁ }) λ later w either o₂.
      let (on, (waits, (sat, (not_own, (own, (others, o')))))) = o₂.signals in
      k (wired_deadline missed w λ p h. says_blaming v q _ _ _
      (rw (sat p h, waits p h, on p h, either p h, never-is p h, own p h, others p h, not_own p h, success p h, try_own p h, try_other p h, by_party q p a)
      (deadline_says q _ _ _ _ λ i. sym (by_party q p a) ∙ last_unmet w (λ p h j. missed_unmet (v S p h) (Periods.succeeds p a) (sym (missed p h) ∙ j)) p h i)))
      (record { signals = o' })
  wire_clause (both l r) o k =
      until_done_lem o λ stops o₁.
      wire_clause r o₁ λ right o₂.
      wire_clause l o₂ λ left o₃.
      remembers o₃ λ keeps_l o₄.
      remembers o₄ λ keeps_r o₅.
      let (sat, (one, (two, (broken, (done, o'))))) = o₅.signals in
      k (wired_both stops left right keeps_l keeps_r sat one two (λ p h. done p h ∙ rw (broken p h))) (record { signals = o' })
  wire_clause (then l r) o k =
      hand_over_lem o λ hands o₁.
      wire_clause r o₁ λ right o₂.
      wire_clause l o₂ λ left o₃.
      let (one, (two, o')) = o₃.signals in
      k (wired_then left hands right one two) (record { signals = o' })
  wire_clause (repair l r) o k =
      hand_over_lem o λ hands o₁.
      wire_clause r o₁ λ right o₂.
      wire_clause l o₂ λ left o₃.
      let (fired, (sat, o')) = o₃.signals in
      k (wired_repair left fired hands right sat) (record { signals = o' })
  wire_clause (repeat c) o k =
      hand_over_lem o λ hands o₁.
      let (starts, o₂) = o₁.signals in
      wire_clause c (record { signals = o₂ }) λ part o'.
      k (wired_repeat hands starts part never-is) o'
  wire_clause (when e c) o k =
      hand_over_lem o λ hands o₁.
      wire_clause c o₁ λ part o₂.
      wire_expression e o₂ λ reads o₃.
      let (was, (on, (reading, (either, (ended, (rejects, (sat, o'))))))) = o₃.signals in
      k (wired_when reads hands part (λ p h. reading p h ∙ rw (on p h, was p h)) (λ p h. sat p h ∙ rw (rejects p h, ended p h, either p h)))
      (record { signals = o' })
  wire_clause (until c e) o k =
      until_done_lem o λ stops o₁.
      remembers o₁ λ reads o₂.
      wire_expression e o₂ λ ending o₃.
      wire_clause c o₃ λ part o₄.
      let (broken, (whole, (frees, (sat, (done, o'))))) = o₄.signals in
      k (wired_until stops reads ending part (λ p h. sat p h ∙ rw (frees p h, whole p h, broken p h)) (λ p h. done p h ∙ rw (broken p h)))
      (record { signals = o' })

  pub wired_clause : (c : Clause) (b S K : ℕ) (rest : List Row) → Obeys v b (clause_rows c b S K rest)
      → WiredClause c (v S) (v K) (v (outputs_of c b).sat) (v (outputs_of c b).one) (v (outputs_of c b).two)
  wired_clause c b S K rest o = wire_clause c (record { signals = o }) λ w o'. w
