-- Acceptance, rejection and meaning go by the actions that records can name alone: they are the same whether a period has bits above the last action
-- or not. So "no list at all" ranges over just the periods that records can hold. Document 01, "Records" and "Expressions".
use Prim.Native.Nat.{ℕ, zero, suc, ◌-◌, ◌<◌}
use mathlib.Core.Bool.{Bool, true, false, not}
use mathlib.Core.List.{List, [], ◌∷◌, ◌++◌, map}
use mathlib.Core.Logic.{◌↔◌}
use mathlib.Core.Path.{◌≡◌, refl, sym, ap, ◌∙◌}
use lib.ListN.{length, take, drop}
use Rattle.periods.specs.Limits.{actions}
use Rattle.periods.specs.declared.Party.{Party}
use Rattle.periods.specs.declared.Party.TheVariants.{One as party1, Two as party2}
use Rattle.periods.specs.Periods.{other, Period, tries}
use Rattle.periods.specs.Periods as Periods
use Rattle.periods.proofs.Recorded.{Recorded, masked, masked_tries, masked_recorded}
use Rattle.contract.specs.Expressions.{Atom, any, idle, succeeds, fails, holds, Expression, Holds, one, join, left, right, none, more, member, begins}
use Rattle.contract.specs.Expressions as Expressions
use Rattle.contract.specs.Readings.{Dead, Reading, pending, accepted, rejected, judged, reading_to, reading, ends, acceptance_to, acceptance}
use Rattle.contract.specs.Meaning.{only, Literal, duty, ban, power, Clause, literal, deadline, both, then, repair, repeat, when, until, Decision, undecided, satisfied, violated, tested_first, literal_meaning, later, after, first_success, then_meaning, repair_meaning, repeat_meaning, when_meaning, meaning}
use Rattle.contract.proofs.Expressions.{member_iff, begins_iff}
use Rattle.grammar.specs.Spelling.{atom_record, literal_record, deadline_record, Allowed, ExpressionInRange, InRange}
use Rattle.grammar.proofs.Fields.{allowed_action}

-- ---- periods with the same attempts

-- both parties try the same actions
pub record Alike (x y : Period) : Type 0 where
  pub same : (p : Party) (a : ℕ) → a < actions → tries x p a ≡ tries y p a

-- in two lists, period by period
pub data AllAlike : (w v : List Period) → Type 0 where
  end : AllAlike [] []
  next : {x y : Period} {w v : List Period} → Alike x y → AllAlike w v → AllAlike (x ∷ w) (y ∷ v)

all_same : (w : List Period) → AllAlike w w
all_same [] = end
all_same (x ∷ w) = next record { same = λ p a h. refl } (all_same w)

alike_back : {w v : List Period} → AllAlike w v → AllAlike v w
alike_back end = end
alike_back (next s a) = next record { same = λ p a h. sym (s.same p a h) } (alike_back a)

alike_length : {w v : List Period} → AllAlike w v → length w ≡ length v
alike_length end = refl
alike_length (next s a) = ap suc (alike_length a)

alike_take : (n : ℕ) {w v : List Period} → AllAlike w v → AllAlike (take n w) (take n v)
alike_take zero a = end
alike_take (suc n) end = end
alike_take (suc n) (next s a) = next s (alike_take n a)

alike_drop : (n : ℕ) {w v : List Period} → AllAlike w v → AllAlike (drop n w) (drop n v)
alike_drop zero a = a
alike_drop (suc n) end = end
alike_drop (suc n) (next s a) = alike_drop n a

alike_join : {w v s t : List Period} → AllAlike w v → AllAlike s t → AllAlike (w ++ s) (v ++ t)
alike_join end b = b
alike_join (next s a) b = next s (alike_join a b)

-- a list that is like one that is joined is joined likewise
record Joined (u s v : List Period) : Type 0 where
  front : List Period
  rest : List Period
  whole : v ≡ front ++ rest
  front_alike : AllAlike u front
  rest_alike : AllAlike s rest

alike_split : (u s v : List Period) → AllAlike (u ++ s) v → Joined u s v
alike_split [] s v a = record { front = []; rest = v; whole = refl; front_alike = end; rest_alike = a }
alike_split (x ∷ u) s [] a = elim a [ ]
alike_split (x ∷ u) s (y ∷ v) (next b a) =
    let j = alike_split u s v a in
    record { front = y ∷ j.front; rest = j.rest; whole = ap (λ (l : List Period). y ∷ l) j.whole; front_alike = next b j.front_alike; rest_alike = j.rest_alike }

-- ---- expressions

holds_alike : (x : Atom) → Allowed (atom_record x) → {y z : Period} → Alike y z → holds x y ≡ holds x z
unfolding holds Periods.succeeds
holds_alike any r s = refl
holds_alike (Expressions.tries p a) r s = s.same p a (allowed_action (atom_record (Expressions.tries p a)) r)
holds_alike (idle p a) r s = ap not (s.same p a (allowed_action (atom_record (idle p a)) r))
holds_alike (succeeds a) r s = let l = allowed_action (atom_record (succeeds a)) r in rw (s.same party1 a l, s.same party2 a l)
holds_alike (fails a) r s = let l = allowed_action (atom_record (fails a)) r in rw (s.same party1 a l, s.same party2 a l)

held_alike : {e : Expression} → ExpressionInRange e → {w v : List Period} → Holds e w → AllAlike w v → Holds e v
unfolding ExpressionInRange
held_alike r (one {a = x} h) (next s end) = one (sym (holds_alike x r s) ∙ h)
held_alike r (join {u = u} {v = t} h k) a =
    let j = alike_split u t _ a in rw j.whole (join (held_alike r.0 h j.front_alike) (held_alike r.1 k j.rest_alike))
held_alike r (left h) a = left (held_alike r.0 h a)
held_alike r (right h) a = right (held_alike r.1 h a)
held_alike r none end = none
held_alike r (more {u = u} {v = t} h k) a =
    let j = alike_split u t _ a in rw j.whole (more (held_alike r h j.front_alike) (held_alike r k j.rest_alike))

both_ways : (s t : Bool) → (s ≡ true → t ≡ true) → (t ≡ true → s ≡ true) → s ≡ t
both_ways true t f g = sym (f refl)
both_ways false true f g = g refl
both_ways false false f g = refl

module _ (e : Expression) (r : ExpressionInRange e) where
  member_like : {w v : List Period} → AllAlike w v → member e w ≡ true → member e v ≡ true
  member_like {w} {v} a h = (member_iff e v).1 (held_alike r ((member_iff e w).0 h) a)

  begins_like : {w v : List Period} → AllAlike w v → begins e w ≡ true → begins e v ≡ true
  begins_like {w} {v} a h =
      let b = (begins_iff e w).0 h in (begins_iff e v).1 (b.0, held_alike r b.1 (alike_join a (all_same b.0)))

  member_alike : {w v : List Period} → AllAlike w v → member e w ≡ member e v
  member_alike {w} {v} a = both_ways (member e w) (member e v) (member_like a) (member_like (alike_back a))

  judged_alike : {w v : List Period} → AllAlike w v → (k : ℕ) → judged (member e w) (begins e w) k ≡ judged (member e v) (begins e v) k
  judged_alike {w} {v} a k =
      rw (
        member_alike a,
        both_ways (begins e w) (begins e v) (begins_like a) (begins_like (alike_back a)),
      )

  reads_alike : {w v : List Period} → AllAlike w v → (n : ℕ) → reading_to e w n ≡ reading_to e v n
  unfolding reading_to
  reads_alike a zero = refl
  reads_alike a (suc n) = rw (reads_alike a n, judged_alike (alike_take (suc n) a) (suc n))

  pub reading_alike : {w v : List Period} → AllAlike w v → reading e w ≡ reading e v
  unfolding reading
  reading_alike {w} a = rw (← alike_length a) (reads_alike a (length w))

  ends_alike : {w v : List Period} → AllAlike w v → ends e w ≡ ends e v
  unfolding ends
  ends_alike end = refl
  ends_alike (next s a) = rw (member_alike (next s a), ends_alike a)

  acceptance_to_alike : {w v : List Period} → AllAlike w v → (n : ℕ) → acceptance_to e w n ≡ acceptance_to e v n
  unfolding acceptance_to
  acceptance_to_alike a zero = refl
  acceptance_to_alike a (suc n) = rw (acceptance_to_alike a n, ends_alike (alike_take (suc n) a))

  pub acceptance_alike : {w v : List Period} → AllAlike w v → acceptance e w ≡ acceptance e v
  unfolding acceptance
  acceptance_alike {w} a = rw (← alike_length a) (acceptance_to_alike a (length w))

-- ---- clauses

-- what hands over to a part that means the same on both lists
module _ (f g : ℕ → Decision) (h : (k : ℕ) → f k ≡ g k) where
  then_alike : (d : Decision) → then_meaning d f ≡ then_meaning d g
  then_alike undecided = refl
  then_alike (satisfied k) = h k
  then_alike (violated k b) = refl

  repair_alike : (d : Decision) → repair_meaning d f ≡ repair_meaning d g
  repair_alike undecided = refl
  repair_alike (satisfied k) = refl
  repair_alike (violated k b) = h k

  when_alike : (r : Reading) → when_meaning r f ≡ when_meaning r g
  when_alike pending = refl
  when_alike (accepted k) = h k
  when_alike (rejected k) = refl

-- a meaning that is the same on lists that are alike
abbrev MeansAlike : (List Period → Decision) → Type 0
MeansAlike m = (w v : List Period) → AllAlike w v → m w ≡ m v

after_alike : (m : List Period → Decision) → MeansAlike m → (w v : List Period) → AllAlike w v → (k : ℕ) → after m w k ≡ after m v k
after_alike m h w v a k = ap (later k) (h (drop k w) (drop k v) (alike_drop k a))

repeat_alike : (m : List Period → Decision) → MeansAlike m → (n : ℕ) → MeansAlike (repeat_meaning m n)
unfolding repeat_meaning
repeat_alike m h zero w v a = refl
repeat_alike m h (suc n) w v a = rw (h w v a) (then_alike _ _ (after_alike (repeat_meaning m n) (repeat_alike m h n) w v a) (m v))

-- the action of a literal in range is one of those that there are
literal_action : (l : Literal) (n : ℕ) → Allowed (literal_record l n) → n < actions
literal_action (duty o) n r = allowed_action (literal_record (duty o) n) r
literal_action (ban p) n r = allowed_action (literal_record (ban p) n) r
literal_action (power p) n r = allowed_action (literal_record (power p) n) r

module _ (n : ℕ) (h : n < actions) where
  literal_alike : (l : Literal) → MeansAlike (literal_meaning l n)
  literal_alike l [] [] end = refl
  literal_alike l [] (y ∷ v) a = elim a [ ]
  literal_alike l (x ∷ w) [] a = elim a [ ]
  literal_alike l (x ∷ w) (y ∷ v) (next s a) = rw (s.same (tested_first l) n h, s.same (other (tested_first l)) n h)

  success_alike : MeansAlike (first_success n)
  unfolding first_success Periods.succeeds
  success_alike [] [] end = refl
  success_alike [] (y ∷ v) a = elim a [ ]
  success_alike (x ∷ w) [] a = elim a [ ]
  success_alike (x ∷ w) (y ∷ v) (next s a) = rw (s.same party1 n h, s.same party2 n h, success_alike w v a)

pub meaning_alike : (c : Clause) → InRange c → MeansAlike (meaning c)
unfolding meaning InRange
meaning_alike (literal l n) r w v a = literal_alike n (literal_action l n r) l w v a
meaning_alike (deadline p n d) r w v a =
    let h = allowed_action (deadline_record p n d) r in
    rw (
      success_alike n h (take d w) (take d v) (alike_take d a),
      after_alike (literal_meaning (duty (only p)) n) (literal_alike n h (duty (only p))) w v a (d - 1),
    )
meaning_alike (both l r) g w v a = rw (meaning_alike l g.0 w v a, meaning_alike r g.1 w v a)
meaning_alike (then l r) g w v a =
    rw (meaning_alike l g.0 w v a) (then_alike _ _ (after_alike (meaning r) (meaning_alike r g.1) w v a) (meaning l v))
meaning_alike (repair l r) g w v a =
    rw (meaning_alike l g.0 w v a) (repair_alike _ _ (after_alike (meaning r) (meaning_alike r g.1) w v a) (meaning l v))
meaning_alike (repeat c) g w v a = rw (← alike_length a) (repeat_alike (meaning c) (meaning_alike c g) (length w) w v a)
meaning_alike (when e c) g w v a =
    rw (reading_alike e g.0 a) (when_alike _ _ (after_alike (meaning c) (meaning_alike c g.1) w v a) (reading e v))
meaning_alike (until c e) g w v a = rw (meaning_alike c g.0 w v a, acceptance_alike e g.1 a)

-- ---- without the bits above the last action

pub data AllRecorded : List Period → Type 0 where
  end : AllRecorded []
  next : {x : Period} {w : List Period} → Recorded x → AllRecorded w → AllRecorded (x ∷ w)

masked_alike : (w : List Period) → AllAlike (map masked w) w
masked_alike [] = end
masked_alike (x ∷ w) = next record { same = masked_tries x } (masked_alike w)

masked_all : (w : List Period) → AllRecorded (map masked w)
masked_all [] = end
masked_all (x ∷ w) = next (masked_recorded x) (masked_all w)

-- accepted and rejected at the same periods, if at any
pub reading_masked : (e : Expression) → ExpressionInRange e → (w : List Period) → reading e (map masked w) ≡ reading e w
reading_masked e r w = reading_alike e r (masked_alike w)

pub acceptance_masked : (e : Expression) → ExpressionInRange e → (w : List Period) → acceptance e (map masked w) ≡ acceptance e w
acceptance_masked e r w = acceptance_alike e r (masked_alike w)

pub meaning_masked : (c : Clause) → InRange c → (w : List Period) → meaning c (map masked w) ≡ meaning c w
meaning_masked c r w = meaning_alike c r (map masked w) w (masked_alike w)

-- "no list at all" of periods that records can hold is no list at all
pub dead_recorded : (e : Expression) → ExpressionInRange e → (w : List Period)
    → Dead e w ↔ ((v : List Period) → AllRecorded v → ¬ Holds e (w ++ v))
dead_recorded e r w =
    (λ d v a. d v, λ d v h. d (map masked v) (masked_all v) (held_alike r h (alike_join (all_same w) (alike_back (masked_alike v)))))
