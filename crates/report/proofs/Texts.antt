-- Laws of the lines: puts one behind the other, and how long numbers and lines are.
use Prim.Native.Nat.{ℕ, zero, suc, ◌+◌, ◌-◌, ◌/◌, ◌%◌, ◌^◌, ◌≤◌, ◌<◌}
use native.Mathlib.Nat.{le_refl, div-lt_self, div-lt_iff_lt-mul}
use native.Mathlib.Omega.{arith}
use mathlib.Core.Bool.{Bool, true, false}
use mathlib.Core.List.{List, [], ◌∷◌, ◌++◌}
use mathlib.Core.Path.{◌≡◌, refl, sym, ap, ◌∙◌}
use lib.Dec.{ltb}
use lib.ListN.{length, length-append}
use lib.Seq.{take_all, length-sets}
use borrow.Rule.Slice.PartMut.{put_mid}
use Rattle.std.proofs.lemmas.List.Edits.{sets-eq}
use Rattle.std.proofs.lemmas.Slice.{put_mid-paste}
use borrow.Author.Tests.{lt-ltb, le-ltb, ltb-false}
use Rattle.records.specs.declared.Verdict.{Verdict}
use Rattle.records.specs.declared.Verdict.TheVariants.{Open, Met, Broken, MetAfter, BrokenAfter}
use Rattle.records.specs.Verdicts.{verdict_name}
use Rattle.records.proofs.Written.{sets-append}
use Rattle.report.specs.declared.Text.{Text}
use Rattle.report.specs.Limits.{input_periods, name_bytes, line_bytes}
use Rattle.report.specs.Texts.{ascii, digit, digits, decimal, period_line, decided_line, refused_line, Puts}
use Rattle.report.specs.Putting.{Appends}

-- two puts, one behind the other, are one
pub puts_both : (text : List ℕ) (at : ℕ) (vs ws : List ℕ) {later last : List ℕ} {r s : ℕ}
    → Puts text at vs later r → Puts later r ws last s → Puts text at (vs ++ ws) last s
puts_both text at vs ws p q =
    record {
      text_is = rw (sets-append text at vs ws, ← p.text_is, ← p.end_is) q.text_is;
      end_is = rw length-append (omega (arith, p.end_is, q.end_is));
      fits = omega (arith, q.fits, ap length p.text_is ∙ length-sets text at vs);
    }

pub puts_length : {text vs later : List ℕ} {at r : ℕ} → Puts text at vs later r → length later ≡ length text
puts_length p = ap length p.text_is ∙ simp length-sets

-- where a put ends, and that the text is as long as before
pub puts_ends : {text vs later : List ℕ} {at r : ℕ} → Puts text at vs later r → (r ≡ at + length vs) × (length later ≡ length text)
puts_ends p = (p.end_is, puts_length p)

-- a word copied into a part as long
pub puts_word : (text : List ℕ) (at : ℕ) (word part : List ℕ) → part ≡ word → at + length word ≤ length text
    → Puts text at word (put_mid at (at + length word - at) text part) (at + length word)
puts_word text at word part e h =
    record {
      text_is =
          put_mid-paste at (at + length word - at) text part word (length word) e (omega arith) refl
          ∙ rw (take_all (length word) word (le_refl _)) (sym (sets-eq word text at h));
      end_is = refl;
      fits = h;
    }

-- two words, one behind the other, are one
pub appended : {t u w : Text} (vs ws : List ℕ) → Appends t vs u → Appends u ws w → Appends t (vs ++ ws) w
appended {t} vs ws p q =
    record { same_buffer = q.same_buffer ∙ p.same_buffer; puts = puts_both t.bytes.now t.len vs ws p.puts q.puts }

-- how much longer the text is, in a buffer that is as long as before
pub grown : {t u : Text} {vs : List ℕ} → Appends t vs u → (u.len ≡ t.len + length vs) × (length u.bytes.now ≡ length t.bytes.now)
grown p = puts_ends p.puts

-- ---- numbers

-- any two bounds above a number give the same digits
digits_enough : (w v n : ℕ) → n < w → n < v → digits w n ≡ digits v n
unfolding digits
digits_enough zero v n h k = absurd (omega arith)
digits_enough (suc w) zero n h k = absurd (omega arith)
digits_enough (suc w) (suc v) n h k = go (ltb n 10) refl (digits_enough w v (n / 10))
  where
    go : (t : Bool) → ltb n 10 ≡ t → (n / 10 < w → n / 10 < v → digits w (n / 10) ≡ digits v (n / 10)) → digits (suc w) n ≡ digits (suc v) n
    go true e same = simp e
    go false e same =
        let l : n / 10 < n = div-lt_self (omega (arith, ltb-false n 10 e)) (omega arith) in
        simp e (ap (λ (s : List ℕ). s ++ (digit (n % 10) ∷ [])) (same (omega arith) (omega arith)))

-- a number below ten, and another one
pub decimal_one : (n : ℕ) → n < 10 → decimal n ≡ digit n ∷ []
unfolding decimal digits
decimal_one n h = simp (lt-ltb n 10 h)

pub decimal_more : (n : ℕ) → 10 ≤ n → decimal n ≡ decimal (n / 10) ++ (digit (n % 10) ∷ [])
unfolding decimal digits
decimal_more n h =
    let l : n / 10 < n = div-lt_self (omega arith) (omega arith) in
    rw (le-ltb n 10 h) (ap (λ (s : List ℕ). s ++ (digit (n % 10) ∷ [])) (digits_enough n (suc (n / 10)) (n / 10) l (omega arith)))

-- ---- lengths

pub length_decimal_one : (n : ℕ) → n < 10 → length (decimal n) ≡ 1
length_decimal_one n h = ap length (decimal_one n h)

pub length_decimal_more : (n : ℕ) → 10 ≤ n → length (decimal n) ≡ length (decimal (n / 10)) + 1
length_decimal_more n h = ap length (decimal_more n h) ∙ length-append (decimal (n / 10)) (digit (n % 10) ∷ [])

length_digits : (w d n : ℕ) → n < 10 ^ suc d → length (digits w n) ≤ suc d
unfolding digits
length_digits zero d n h = omega arith
length_digits (suc w) zero n h = rw (lt-ltb n 10 (omega arith)) (omega arith)
length_digits (suc w) (suc d) n h = go (ltb n 10) refl (length_digits w d (n / 10))
  where
    go : (t : Bool) → ltb n 10 ≡ t → (n / 10 < 10 ^ suc d → length (digits w (n / 10)) ≤ suc d) → length (digits (suc w) n) ≤ suc (suc d)
    go true e few = rw e (omega arith)
    go false e few = rw (e, length-append) (omega (arith, few ((div-lt_iff_lt-mul (omega arith)).1 (omega arith))))

pub few_digits : (d n : ℕ) → n < 10 ^ suc d → length (decimal n) ≤ suc d
unfolding decimal
few_digits d n h = length_digits (suc n) d n h

-- of a period's number
pub period_digits : (n : ℕ) → n ≤ input_periods → length (decimal n) ≤ 5
period_digits n h = few_digits 4 n (omega arith)

pub short_name : (v : Verdict) → length (ascii (verdict_name v)) ≤ name_bytes
short_name Open = omega arith
short_name Met = omega arith
short_name Broken = omega arith
short_name MetAfter = omega arith
short_name BrokenAfter = omega arith

pub length_period : (n : ℕ) (v : Verdict) (b : ℕ)
    → length (period_line n v b) ≡ length (decimal n) + 1 + length (ascii (verdict_name v)) + 1 + length (decimal b) + 1
unfolding period_line
length_period n v b = simp length-append

pub length_decided : (k : ℕ) → length (decided_line k) ≡ 8 + length (decimal k) + 1
unfolding decided_line
length_decided k = simp length-append

pub length_refused : (number place : ℕ)
    → length (refused_line number place) ≡ 8 + length (decimal number) + 1 + length (decimal place) + 1
unfolding refused_line
length_refused number place = simp length-append

pub short_line : (n : ℕ) (v : Verdict) (b : ℕ) → n ≤ input_periods → b < 10 → length (period_line n v b) ≤ line_bytes
short_line n v b h k = omega (arith, length_period n v b, period_digits n h, few_digits 0 b k, short_name v)

pub short_decided : (k : ℕ) → k ≤ input_periods → length (decided_line k) ≤ line_bytes
short_decided k h = omega (arith, length_decided k, period_digits k h)

pub short_refused : (number place : ℕ) → number < 2 ^ 64 → place < 2 ^ 64 → length (refused_line number place) ≤ 50
short_refused number place h k =
    omega (arith, length_refused number place, few_digits 19 number (omega arith), few_digits 19 place (omega arith))
