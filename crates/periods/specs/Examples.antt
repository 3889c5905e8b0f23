-- Vectors of periods and of refusal 11. What is expected stands in numbers alone, from the text of documents 01 and 02.
use Rattle.std.specs.Prelude.{ℕ, true, false, List, [], ◌∷◌, ◌++◌, map, ◌≡◌, replicate, take}
use Rattle.std.proofs.Math.Option.{none, some}
use Rattle.records.specs.Examples.{number_and_place}
use Rattle.periods.specs.declared.Form.TheVariants.{Narrow, Wide}
use Rattle.periods.specs.Limits.{actions}
use Rattle.periods.specs.Forms.{form_mark, mask_bytes, period_bytes, either_mark}
use Rattle.periods.specs.declared.Party.TheVariants.{One as party1, Two as party2}
use Rattle.periods.specs.Periods.{party_number, party_of, other, Period, tries, succeeds}
use Rattle.periods.specs.Traces.{record_at, first_records, marks_test, form_of, period_records, trace_periods, form_test, start_test, trace_test, period_in, period_test}
use Rattle.periods.specs.Making.{record_of, records_of}

-- a narrow record, of masks below 256: "`54 50`, two bytes of party 1's attempts, two of party 2's"
abbrev pub narrow_record : (one two : ℕ) → List ℕ
narrow_record one two = 0x54 ∷ 0x50 ∷ one ∷ 0 ∷ two ∷ 0 ∷ []

-- a wide one: "10 bytes, mark `54 51`, with four bytes of attempts for each party"
abbrev pub wide_record : (one two : ℕ) → List ℕ
wide_record one two = 0x54 ∷ 0x51 ∷ one ∷ 0 ∷ 0 ∷ 0 ∷ two ∷ 0 ∷ 0 ∷ 0 ∷ []

-- as long as a narrow one and as a wide one, with a row's mark
abbrev pub other_record : List ℕ
other_record = 0x54 ∷ 0x52 ∷ 1 ∷ 0 ∷ 1 ∷ 0 ∷ []

abbrev pub long_other_record : List ℕ
long_other_record = other_record ++ replicate 4 0

-- as long as a narrow one with a wide one's mark, and the other way
abbrev pub wide_cut : List ℕ
wide_cut = 0x54 ∷ 0x51 ∷ 1 ∷ 0 ∷ 1 ∷ 0 ∷ []

abbrev pub narrow_long : List ℕ
narrow_long = narrow_record 1 1 ++ replicate 4 0

-- traces of two records
abbrev pub two_narrow : List ℕ
two_narrow = 0x54 ∷ 0x50 ∷ 1 ∷ 2 ∷ 3 ∷ 4 ∷ 0x54 ∷ 0x50 ∷ 5 ∷ 0 ∷ 0 ∷ 6 ∷ []

abbrev pub two_wide : List ℕ
two_wide = 0x54 ∷ 0x51 ∷ 1 ∷ 2 ∷ 3 ∷ 0x84 ∷ 5 ∷ 6 ∷ 7 ∷ 0x88 ∷ 0x54 ∷ 0x51 ∷ 9 ∷ 0 ∷ 0 ∷ 0 ∷ 0 ∷ 0 ∷ 0 ∷ 10 ∷ []

-- five narrow records, the fourth of which has a wide one's mark as party 1's attempts: there the last ten of its thirty bytes start
abbrev pub five_narrow : List ℕ
five_narrow = narrow_record 1 1 ++ narrow_record 1 1 ++ narrow_record 1 1 ++ (0x54 ∷ 0x50 ∷ 0x54 ∷ 0x51 ∷ 1 ∷ 0 ∷ []) ++ narrow_record 1 1

-- of action 1: a/a, a/-, -/a, -/-
abbrev pub four_periods : List Period
four_periods = map period_in (narrow_record 2 2 ∷ narrow_record 2 0 ∷ narrow_record 0 2 ∷ narrow_record 0 0 ∷ [])

-- the lengths 0 to 21
abbrev pub lengths : List ℕ
lengths = 0 ∷ 1 ∷ 2 ∷ 3 ∷ 4 ∷ 5 ∷ 6 ∷ 7 ∷ 8 ∷ 9 ∷ 10 ∷ 11 ∷ 12 ∷ 13 ∷ 14 ∷ 15 ∷ 16 ∷ 17 ∷ 18 ∷ 19 ∷ 20 ∷ 21 ∷ []

-- number and place of refusal 11 at 0, for so many inputs
abbrev pub bad : (n : ℕ) → List (ℕ × ℕ)
bad n = replicate n (11, 0)

pub record PeriodVectors : Type 0 where
  -- "actions run from 0 to 31"
  pub actions_32 : actions ≡ 32
  pub party_numbers_lem : map party_number (party1 ∷ party2 ∷ []) ≡ 1 ∷ 2 ∷ []
  pub parties : map party_of (0 ∷ 1 ∷ 2 ∷ 3 ∷ []) ≡ none ∷ some party1 ∷ some party2 ∷ none ∷ []
  pub other_parties : map other (party1 ∷ party2 ∷ []) ≡ party2 ∷ party1 ∷ []
  -- "`54 50`" and "mark `54 51`", two and four bytes of attempts, 6 and 10 bytes
  pub form_marks : map form_mark (Narrow ∷ Wide ∷ []) ≡ (0x54 ∷ 0x50 ∷ []) ∷ (0x54 ∷ 0x51 ∷ []) ∷ []
  pub mask_bytes_lem : map mask_bytes (Narrow ∷ Wide ∷ []) ≡ 2 ∷ 4 ∷ []
  pub period_bytes_lem : map period_bytes (Narrow ∷ Wide ∷ []) ≡ 6 ∷ 10 ∷ []
  -- "its first record's mark fixes the sort", whatever follows
  pub forms : map form_of (two_narrow ∷ (narrow_record 1 1 ++ wide_cut) ∷ five_narrow ∷ two_wide ∷ (wide_record 1 1 ++ narrow_long) ∷ [])
      ≡ Narrow ∷ Narrow ∷ Narrow ∷ Wide ∷ Wide ∷ []
  pub either_marks : map (either_mark (0x54 ∷ 0x51 ∷ 0x54 ∷ 0x50 ∷ 0x54 ∷ 0x52 ∷ [])) (0 ∷ 1 ∷ 2 ∷ 3 ∷ 4 ∷ 5 ∷ [])
      ≡ true ∷ false ∷ true ∷ false ∷ false ∷ false ∷ []
  -- party 1's mask first, low byte first
  pub narrow_masks : trace_periods two_narrow 2
      ≡ record { attempts1 = 0x0201; attempts2 = 0x0403 } ∷ record { attempts1 = 5; attempts2 = 0x0600 } ∷ []
  pub wide_masks : trace_periods two_wide 2
      ≡ record { attempts1 = 0x84030201; attempts2 = 0x88070605 } ∷ record { attempts1 = 9; attempts2 = 0x0a000000 } ∷ []
  pub record_counts : map period_records ([] ∷ two_narrow ∷ five_narrow ∷ two_wide ∷ (two_wide ++ wide_record 1 1) ∷ []) ≡ 0 ∷ 2 ∷ 5 ∷ 2 ∷ 3 ∷ []
  pub first_records_lem : map (first_records Narrow two_narrow) (0 ∷ 1 ∷ 2 ∷ []) ++ map (first_records Wide two_wide) (0 ∷ 1 ∷ 2 ∷ [])
      ≡ [] ∷ (0x54 ∷ 0x50 ∷ 1 ∷ 2 ∷ 3 ∷ 4 ∷ []) ∷ two_narrow ∷ [] ∷ (0x54 ∷ 0x51 ∷ 1 ∷ 2 ∷ 3 ∷ 0x84 ∷ 5 ∷ 6 ∷ 7 ∷ 0x88 ∷ []) ∷ two_wide ∷ []
  pub second_record : record_at Narrow two_narrow 1 ∷ record_at Wide two_wide 1 ∷ []
      ≡ (0x54 ∷ 0x50 ∷ 5 ∷ 0 ∷ 0 ∷ 6 ∷ []) ∷ (0x54 ∷ 0x51 ∷ 9 ∷ 0 ∷ 0 ∷ 0 ∷ 0 ∷ 0 ∷ 0 ∷ 10 ∷ []) ∷ []
  -- and back
  pub narrow_records : records_of Narrow (trace_periods two_narrow 2) ≡ two_narrow
  pub wide_records : records_of Wide (trace_periods two_wide 2) ≡ two_wide
  pub in_wide_lem : records_of Wide (trace_periods two_narrow 2)
      ≡ 0x54 ∷ 0x51 ∷ 1 ∷ 2 ∷ 0 ∷ 0 ∷ 3 ∷ 4 ∷ 0 ∷ 0 ∷ 0x54 ∷ 0x51 ∷ 5 ∷ 0 ∷ 0 ∷ 0 ∷ 0 ∷ 6 ∷ 0 ∷ 0 ∷ []
  -- a narrow record has no room for bit 16
  pub too_narrow : record_of Narrow (record { attempts1 = 0x10001; attempts2 = 2 }) ≡ 0x54 ∷ 0x50 ∷ 1 ∷ 0 ∷ 2 ∷ 0 ∷ []
  -- "bit a is set when the party tries action a": bits 0, 2 and 31 of 0x80000005
  pub tried_bits : map (tries (record { attempts1 = 0; attempts2 = 0x80000005 }) party2) (0 ∷ 1 ∷ 2 ∷ 3 ∷ 15 ∷ 16 ∷ 30 ∷ 31 ∷ [])
      ≡ true ∷ false ∷ true ∷ false ∷ false ∷ false ∷ false ∷ true ∷ []
  -- all that a narrow record can hold: "its upper sixteen actions never tried"; and all that a wide one can
  pub upper_narrow : map (λ p. map (tries (period_in (0x54 ∷ 0x50 ∷ replicate 4 0xff)) p) (0 ∷ 15 ∷ 16 ∷ 31 ∷ [])) (party1 ∷ party2 ∷ [])
      ≡ replicate 2 (true ∷ true ∷ false ∷ false ∷ [])
  pub upper_wide : map (λ p. map (tries (period_in (0x54 ∷ 0x51 ∷ replicate 8 0xff)) p) (0 ∷ 15 ∷ 16 ∷ 31 ∷ [])) (party1 ∷ party2 ∷ [])
      ≡ replicate 2 (true ∷ true ∷ true ∷ true ∷ [])
  pub tried_by_1 : map (λ (x : Period). tries x party1 1) four_periods ≡ true ∷ true ∷ false ∷ false ∷ []
  pub tried_by_2 : map (λ (x : Period). tries x party2 1) four_periods ≡ true ∷ false ∷ true ∷ false ∷ []
  -- "An action succeeds when both try it."
  pub succeeded : map (λ (x : Period). succeeds x 1) four_periods ≡ true ∷ false ∷ false ∷ false ∷ []
  -- 11 in step: 6 bytes with the narrow mark, 10 with the wide one, and nothing else of 0 to 21 bytes
  pub narrow_steps : map (λ (n : ℕ). number_and_place (period_test (take n (two_narrow ++ two_narrow)))) lengths ≡ bad 6 ++ ((0, 0) ∷ bad 15)
  pub wide_steps : map (λ (n : ℕ). number_and_place (period_test (take n (two_wide ++ two_wide)))) lengths ≡ bad 10 ++ ((0, 0) ∷ bad 11)
  pub other_steps : map (λ (n : ℕ). number_and_place (period_test (take n (other_record ++ two_narrow ++ two_narrow)))) lengths ≡ bad 22
  pub other_form_steps : map (λ (l : List ℕ). number_and_place (period_test l)) (wide_cut ∷ narrow_long ∷ []) ≡ bad 2
  -- 11 in run: no record, and whole ones
  pub narrow_traces : map (λ (n : ℕ). number_and_place (trace_test (take n (two_narrow ++ two_narrow)))) lengths
      ≡ ((0, 0) ∷ bad 5) ++ ((0, 0) ∷ bad 5) ++ ((0, 0) ∷ bad 5) ++ ((0, 0) ∷ bad 3)
  pub wide_traces : map (λ (n : ℕ). number_and_place (trace_test (take n (two_wide ++ two_wide)))) lengths ≡ ((0, 0) ∷ bad 9) ++ ((0, 0) ∷ bad 9) ++ ((0, 0) ∷ bad 1)
  pub other_traces : map (λ (n : ℕ). number_and_place (trace_test (take n (other_record ++ two_narrow ++ two_narrow)))) lengths ≡ (0, 0) ∷ bad 21
  pub five_taken : number_and_place (trace_test five_narrow) ≡ (0, 0)
  -- the first record of wrong mark
  pub narrow_marks :
      map (λ (l : List ℕ). number_and_place (trace_test l))
      ((other_record ++ narrow_record 1 1) ∷ (narrow_record 1 1 ++ other_record) ∷ (narrow_record 1 1 ++ other_record ++ other_record) ∷ (two_narrow ++ other_record) ∷ [])
      ≡ (11, 0) ∷ (11, 1) ∷ (11, 1) ∷ (11, 2) ∷ []
  pub wide_marks :
      map (λ (l : List ℕ). number_and_place (trace_test l))
      ((long_other_record ++ wide_record 1 1) ∷ (wide_record 1 1 ++ long_other_record) ∷ (wide_record 1 1 ++ long_other_record ++ long_other_record) ∷ (two_wide ++ long_other_record) ∷ [])
      ≡ (11, 0) ∷ (11, 1) ∷ (11, 1) ∷ (11, 2) ∷ []
  -- "refusal 11 meets a later record of the other"; cut to the length of the first; whole, where the length is no multiple of that one, and where it is
  pub other_forms :
      map (λ (l : List ℕ). number_and_place (trace_test l))
      ((narrow_record 1 1 ++ wide_cut) ∷ (two_narrow ++ wide_cut) ∷ (wide_record 1 1 ++ narrow_long) ∷ (two_wide ++ narrow_long)
      ∷ (narrow_record 1 1 ++ wide_record 1 1) ∷ (wide_record 1 1 ++ narrow_record 1 1) ∷ (narrow_record 1 1 ++ two_wide ++ wide_record 1 1) ∷ (wide_record 1 1 ++ five_narrow) ∷ [])
      ≡ (11, 1) ∷ (11, 2) ∷ (11, 1) ∷ (11, 2) ∷ (11, 0) ∷ (11, 0) ∷ (11, 1) ∷ (11, 1) ∷ []
  -- the length goes before later marks: 13 bytes with a wrong mark in record 1, and 21
  pub length_first : map (λ (l : List ℕ). number_and_place (trace_test l)) ((narrow_record 1 1 ++ other_record ++ (0 ∷ [])) ∷ (wide_record 1 1 ++ long_other_record ++ (0 ∷ [])) ∷ [])
      ≡ bad 2
  -- the tests before the length: none, a single byte, either mark and another, whatever follows
  pub first_tests :
      map (λ (l : List ℕ). number_and_place (form_test l))
      ([] ∷ (0x54 ∷ []) ∷ (0x54 ∷ 0x50 ∷ []) ∷ (0x54 ∷ 0x51 ∷ []) ∷ (0x54 ∷ 0x52 ∷ []) ∷ (0x55 ∷ 0x50 ∷ []) ∷ (0x54 ∷ 0x50 ∷ 0 ∷ []) ∷ [])
      ≡ (0, 0) ∷ (11, 0) ∷ (0, 0) ∷ (0, 0) ∷ (11, 0) ∷ (11, 0) ∷ (0, 0) ∷ []
  -- with it, and without the later marks
  pub start_tests :
      map (λ (l : List ℕ). number_and_place (start_test l))
      ([] ∷ (0x54 ∷ []) ∷ (narrow_record 1 1 ++ other_record) ∷ (wide_record 1 1 ++ long_other_record) ∷ (narrow_record 1 1 ++ long_other_record) ∷ (wide_record 1 1 ++ other_record)
      ∷ (other_record ++ narrow_record 1 1) ∷ [])
      ≡ (0, 0) ∷ (11, 0) ∷ (0, 0) ∷ (0, 0) ∷ (11, 0) ∷ (11, 0) ∷ (11, 0) ∷ []
  -- the marks of the first records alone, record 1 being of wrong mark
  pub first_marks :
      map (λ (n : ℕ). number_and_place (marks_test Narrow (narrow_record 1 1 ++ other_record ++ narrow_record 1 1) n)) (0 ∷ 1 ∷ 2 ∷ 3 ∷ [])
      ++ map (λ (n : ℕ). number_and_place (marks_test Wide (wide_record 1 1 ++ long_other_record ++ wide_record 1 1) n)) (0 ∷ 1 ∷ 2 ∷ 3 ∷ [])
      ≡ (0, 0) ∷ (0, 0) ∷ (11, 1) ∷ (11, 1) ∷ (0, 0) ∷ (0, 0) ∷ (11, 1) ∷ (11, 1) ∷ []
