-- The lines, in bytes. Document 01, "Watch".
use Rattle.std.specs.Prelude.{ℕ, zero, suc, ◌+◌, ◌/◌, ◌%◌, ◌≤◌, cond, List, [] as []ᴸ, ◌∷◌ as ◌∷ᴸ◌, ◌++◌, ◌≡◌, ltb, length}
use Prim.Native.Char.{code}
use Prim.Native.String.{String, [], ◌∷◌}
use Rattle.std.proofs.lemmas.List.Edits.{sets}
use Rattle.records.specs.declared.Verdict.{Verdict}
use Rattle.records.specs.Verdicts.{verdict_name}

-- a text's bytes
abbrev pub ascii : String → List ℕ
ascii [] = []ᴸ
ascii (c ∷ s) = code c ∷ᴸ ascii s

-- a digit's byte
abbrev pub digit : ℕ → ℕ
digit d = 48 + d

-- a number's digits in base ten, of which there are at most w
unfoldable pub digits : (w n : ℕ) → List ℕ
digits zero n = []ᴸ
digits (suc w) n = cond (ltb n 10) (digit n ∷ᴸ []ᴸ) (digits w (n / 10) ++ (digit (n % 10) ∷ᴸ []ᴸ))

-- a number's digits in base ten: one more than the number itself are never too few
unfoldable pub decimal : ℕ → List ℕ
decimal n = digits (suc n) n

-- "a line per period (number, verdict name, blame)"
unfoldable pub period_line : (n : ℕ) → Verdict → (blame : ℕ) → List ℕ
period_line n v b = decimal n ++ ascii " " ++ ascii (verdict_name v) ++ ascii " " ++ decimal b ++ ascii "\n"

-- "and then `decided` with the decision period, 0 for none"
unfoldable pub decided_line : ℕ → List ℕ
decided_line k = ascii "decided " ++ decimal k ++ ascii "\n"

-- "A refusal prints only `refused`, number, place"
unfoldable pub refused_line : (number place : ℕ) → List ℕ
refused_line number place = ascii "refused " ++ decimal number ++ ascii " " ++ decimal place ++ ascii "\n"

-- these bytes stand in the text from byte `at` on, all within it, the others are as they were, and r is the byte after them
pub record Puts (text : List ℕ) (at : ℕ) (vs : List ℕ) (later : List ℕ) (r : ℕ) : Type 0 where
  pub text_is : later ≡ sets text at vs
  pub end_is : r ≡ at + length vs
  pub fits : r ≤ length text
