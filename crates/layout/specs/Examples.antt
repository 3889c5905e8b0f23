-- Vectors of rows, images and refusal 9. What is expected stands in numbers and bytes alone, from the text of documents 01 and 02.
use Rattle.std.specs.Prelude.{ℕ, true, false, List, [], ◌∷◌, ◌++◌, map, ◌≡◌, replicate}
use Rattle.std.proofs.Math.Option.{some}
use Rattle.records.specs.Examples.{number_and_place}
use Rattle.periods.specs.declared.Party.TheVariants.{One as party1, Two as party2}
use Rattle.layout.specs.Rows.{Row, never, initial, attempt, negation, conjunction, disjunction, previous, encode, decode}
use Rattle.layout.specs.Images.{image_bytes, row_count, image_of, good_image_length}
use Rattle.layout.specs.Refusals.{image_test}

-- "Row: `54 52`, kind, a zero byte, two-byte fields x and y", of fields below 256
abbrev pub row : (kind x y : ℕ) → List ℕ
row kind x y = 0x54 ∷ 0x52 ∷ kind ∷ 0 ∷ x ∷ 0 ∷ y ∷ 0 ∷ []

-- "End: `54 45`, then S, V1, V2, two-byte numbers", of numbers below 256
abbrev pub end : (S V1 V2 : ℕ) → List ℕ
end s v w = 0x54 ∷ 0x45 ∷ s ∷ 0 ∷ v ∷ 0 ∷ w ∷ 0 ∷ []

-- what 9 finds of three rows whose last one, row 2, is given
abbrev pub of_row2 : List ℕ → ℕ × ℕ
of_row2 r = number_and_place (image_test (row 0 0 0 ++ row 1 0 0 ++ r ++ end 0 1 2))

-- what 9 finds of two rows and a given end record
abbrev pub of_end : List ℕ → ℕ × ℕ
of_end e = number_and_place (image_test (row 0 0 0 ++ row 1 0 0 ++ e))

-- rows of all kinds, and their bytes
abbrev pub rows_of_all_kinds : List Row
rows_of_all_kinds =
    never ∷ initial ∷ attempt party1 15 ∷ attempt party2 3 ∷ negation 0x0102 ∷ conjunction 0x0102 0x0304
    ∷ disjunction 0x0102 0x0304 ∷ previous 0x0102 ∷ []

abbrev pub bytes_of_all_kinds : List (List ℕ)
bytes_of_all_kinds =
    (0x54 ∷ 0x52 ∷ 0 ∷ 0 ∷ 0 ∷ 0 ∷ 0 ∷ 0 ∷ [])
    ∷ (0x54 ∷ 0x52 ∷ 1 ∷ 0 ∷ 0 ∷ 0 ∷ 0 ∷ 0 ∷ [])
    ∷ (0x54 ∷ 0x52 ∷ 2 ∷ 0 ∷ 1 ∷ 0 ∷ 15 ∷ 0 ∷ [])
    ∷ (0x54 ∷ 0x52 ∷ 2 ∷ 0 ∷ 2 ∷ 0 ∷ 3 ∷ 0 ∷ [])
    ∷ (0x54 ∷ 0x52 ∷ 3 ∷ 0 ∷ 2 ∷ 1 ∷ 0 ∷ 0 ∷ [])
    ∷ (0x54 ∷ 0x52 ∷ 4 ∷ 0 ∷ 2 ∷ 1 ∷ 4 ∷ 3 ∷ [])
    ∷ (0x54 ∷ 0x52 ∷ 5 ∷ 0 ∷ 2 ∷ 1 ∷ 4 ∷ 3 ∷ [])
    ∷ (0x54 ∷ 0x52 ∷ 6 ∷ 0 ∷ 2 ∷ 1 ∷ 0 ∷ 0 ∷ []) ∷ []

pub record ImageVectors : Type 0 where
  pub encoded : map encode rows_of_all_kinds ≡ bytes_of_all_kinds
  pub decoded : map (λ (l : List ℕ). decode l 0) bytes_of_all_kinds ≡ map some rows_of_all_kinds
  -- the rows, then the end record
  pub image_bytes_lem : image_bytes (record { rows = never ∷ previous 1 ∷ []; S = 0x0102; V1 = 0x0304; V2 = 0x0506 })
      ≡ row 0 0 0 ++ row 6 1 0 ++ (0x54 ∷ 0x45 ∷ 2 ∷ 1 ∷ 4 ∷ 3 ∷ 6 ∷ 5 ∷ [])
  pub image_read : image_of (row 0 0 0 ++ row 6 1 0 ++ (0x54 ∷ 0x45 ∷ 2 ∷ 1 ∷ 4 ∷ 3 ∷ 6 ∷ 5 ∷ []))
      ≡ record { rows = never ∷ previous 1 ∷ []; S = 0x0102; V1 = 0x0304; V2 = 0x0506 }
  pub rows_of_32 : row_count (replicate 32 0) ≡ 3
  -- "image length no multiple of 8, under 16 or over" 47,624; 0: also where row 1 is bad
  pub lengths :
      map (λ (l : List ℕ). number_and_place (image_test l))
      ([] ∷ row 0 0 0 ∷ (row 0 0 0 ++ end 0 0 0 ++ (0 ∷ [])) ∷ (row 0 0 0 ++ replicate 17 0) ∷ (row 0 0 0 ++ replicate 47624 0) ∷ [])
      ≡ (9, 0) ∷ (9, 0) ∷ (9, 0) ∷ (9, 0) ∷ (9, 0) ∷ []
  -- 1, 5,951, 5,952 and 5,953 rows
  pub longest : map (λ (n : ℕ). good_image_length (replicate n 0)) (16 ∷ 47616 ∷ 47624 ∷ 47632 ∷ []) ≡ true ∷ true ∷ true ∷ false ∷ []
  -- one row is enough
  pub one_row : map (λ (r : List ℕ). number_and_place (image_test (r ++ end 0 0 0))) (row 0 0 0 ∷ row 1 0 0 ∷ row 2 2 31 ∷ row 6 0 0 ∷ []) ≡ replicate 4 (0, 0)
  -- its end record is at place 1
  pub one_row_end : map (λ (e : List ℕ). number_and_place (image_test (row 0 0 0 ++ e))) (end 1 0 0 ∷ row 0 0 0 ∷ []) ≡ (9, 1) ∷ (9, 1) ∷ []
  -- the table's small input: row 0 of kind 3
  pub row_0_of_kind_3 : number_and_place (image_test (row 3 0 0 ++ end 0 0 0)) ≡ (9, 0)
  -- each kind; kind 2 of either party, and of actions 16 and 31; kind 6 of a lower row, of itself, and of a higher one
  pub good_rows :
      map of_row2 (row 0 0 0 ∷ row 1 0 0 ∷ row 2 1 0 ∷ row 2 1 16 ∷ row 2 2 31 ∷ row 3 1 0 ∷ row 4 1 0 ∷ row 5 0 1 ∷ row 6 1 0 ∷ row 6 2 0 ∷ [])
      ≡ replicate 10 (0, 0)
  pub higher_row : number_and_place (image_test (row 6 1 0 ++ row 0 0 0 ++ end 0 0 0)) ≡ (0, 0)
  -- either byte of the mark; the zero byte; kind 7
  pub bad_marks :
      map of_row2
      ((0x55 ∷ 0x52 ∷ 0 ∷ 0 ∷ 0 ∷ 0 ∷ 0 ∷ 0 ∷ []) ∷ (0x54 ∷ 0x45 ∷ 0 ∷ 0 ∷ 0 ∷ 0 ∷ 0 ∷ 0 ∷ [])
      ∷ (0x54 ∷ 0x52 ∷ 0 ∷ 1 ∷ 0 ∷ 0 ∷ 0 ∷ 0 ∷ []) ∷ row 7 0 0 ∷ [])
      ≡ replicate 4 (9, 2)
  -- kind 2 of parties 0 and 3, of action 32
  pub bad_attempts : map of_row2 (row 2 0 0 ∷ row 2 3 0 ∷ row 2 1 32 ∷ []) ≡ replicate 3 (9, 2)
  -- "In 3 to 5 the fields name lower rows; in 6 any row of the image."
  pub bad_names :
      map of_row2 (row 3 2 0 ∷ row 3 3 0 ∷ row 4 2 0 ∷ row 4 0 2 ∷ row 5 2 0 ∷ row 5 0 2 ∷ row 6 3 0 ∷ [])
      ≡ replicate 7 (9, 2)
  -- "Unused fields are 0."
  pub unused_fields :
      map of_row2
      (row 0 1 0 ∷ row 0 0 1 ∷ row 1 1 0 ∷ row 1 0 1 ∷ row 3 0 1 ∷ row 6 0 1 ∷ (0x54 ∷ 0x52 ∷ 0 ∷ 0 ∷ 0 ∷ 1 ∷ 0 ∷ 0 ∷ []) ∷ [])
      ≡ replicate 7 (9, 2)
  -- S, V1 and V2 "numbers of rows of the image"; the mark; "row count for the end record"
  pub ends :
      map of_end (end 1 0 0 ∷ end 0 1 0 ∷ end 0 0 1 ∷ end 2 0 0 ∷ end 0 2 0 ∷ end 0 0 2 ∷ row 0 0 0 ∷ [])
      ≡ (0, 0) ∷ (0, 0) ∷ (0, 0) ∷ (9, 2) ∷ (9, 2) ∷ (9, 2) ∷ (9, 2) ∷ []
  -- "first bad row": rows 1 and 2 are bad; row 1 and the end record
  pub first_bad :
      map (λ (l : List ℕ). number_and_place (image_test l))
      ((row 0 0 0 ++ row 7 0 0 ++ row 7 0 0 ++ end 0 0 0) ∷ (row 0 0 0 ++ row 7 0 0 ++ end 2 0 0) ∷ [])
      ≡ (9, 1) ∷ (9, 1) ∷ []
