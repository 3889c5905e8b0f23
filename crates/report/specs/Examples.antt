-- Vectors of the report: document 01's example of "Watch", and its edges; of blame 3 document 02, "Duties that both parties own"; of wide
-- records its "Thirty-two actions".
use Rattle.std.specs.Prelude.{ℕ, ◌<◌, List, [], ◌∷◌, ◌++◌, map, ◌≡◌, length, replicate}
use Rattle.records.specs.declared.Verdict.TheVariants.{BrokenAfter}
use Rattle.periods.specs.Examples.{narrow_record, wide_record, wide_cut, narrow_long}
use Rattle.grammar.specs.Examples.{six, duty_bytes, repeat_bytes, when_bytes, any_bytes, star_bytes, joined}
use Rattle.image.specs.Examples.{watched_bytes}
use Rattle.report.specs.Texts.{ascii, decimal, period_line, decided_line, refused_line}
use Rattle.report.specs.Reports.{report}

pub record ReportVectors : Type 0 where
  pub watched :
      report (watched_bytes ++ narrow_record 1 1 ++ narrow_record 0 0 ++ narrow_record 2 0 ++ narrow_record 1 1)
      ≡ ascii "1 open 0\n2 open 0\n3 broken 2\n4 broken-after 2\ndecided 3\n"
  -- the same attempts in wide records
  pub watched_wide_lem :
      report (watched_bytes ++ wide_record 1 1 ++ wide_record 0 0 ++ wide_record 2 0 ++ wide_record 1 1)
      ≡ ascii "1 open 0\n2 open 0\n3 broken 2\n4 broken-after 2\ndecided 3\n"
  -- a duty of action 31: both try it; all that a narrow record can try; action 32
  pub upper_action :
      map report
      ((six 1 1 31 ++ (0x54 ∷ 0x51 ∷ 0 ∷ 0 ∷ 0 ∷ 0x80 ∷ 0 ∷ 0 ∷ 0 ∷ 0x80 ∷ [])) ∷ (six 1 1 31 ++ (0x54 ∷ 0x50 ∷ replicate 4 0xff)) ∷ (six 1 1 32 ++ wide_record 0 0) ∷ [])
      ≡ map ascii ("1 met 0\ndecided 1\n" ∷ "1 broken 1\ndecided 1\n" ∷ "refused 4 0\n" ∷ [])
  -- "the first whole six bytes, counted in sixes, that start with either mark": a whole record, six bytes of one, and fewer; a mark at byte 10; no contract
  pub wide_starts :
      map report ((duty_bytes ++ wide_record 1 1) ∷ (duty_bytes ++ wide_cut) ∷ (duty_bytes ++ (0x54 ∷ 0x51 ∷ []))
      ∷ (duty_bytes ++ (0x54 ∷ 0x43 ∷ 1 ∷ 1 ∷ 0x54 ∷ 0x51 ∷ []) ++ wide_record 1 1) ∷ (wide_record 1 1 ++ wide_record 1 1 ++ wide_record 1 1) ∷ [])
      ≡ map ascii ("1 met 0\ndecided 1\n" ∷ "refused 11 0\n" ∷ "refused 1 0\n" ∷ "refused 4 1\n" ∷ "refused 1 0\n" ∷ [])
  -- the first such six bytes, be they narrow or wide: at byte 18, inside the second record of a wide trace, six bytes start with the narrow mark
  pub first_mark : report (duty_bytes ++ wide_record 1 1 ++ (0x54 ∷ 0x51 ∷ 0x54 ∷ 0x50 ∷ 0 ∷ 0 ∷ 0 ∷ 0 ∷ 0 ∷ 0 ∷ [])) ≡ ascii "1 met 0\n2 met-after 0\ndecided 1\n"
  -- a later record of the other form, of the first one's length and of its own
  pub mixed :
      map (λ t. report (duty_bytes ++ t)) ((wide_record 1 1 ++ narrow_long) ∷ (narrow_record 1 1 ++ wide_cut) ∷ (wide_record 1 1 ++ narrow_record 1 1) ∷ (narrow_record 1 1 ++ wide_record 1 1) ∷ [])
      ≡ map ascii ("refused 11 1\n" ∷ "refused 11 1\n" ∷ "refused 11 0\n" ∷ "refused 11 0\n" ∷ [])
  pub contract_only : report duty_bytes ≡ ascii "decided 0\n"
  -- a text's bytes
  pub text_bytes_lem : ascii "decided 0\n" ≡ 0x64 ∷ 0x65 ∷ 0x63 ∷ 0x69 ∷ 0x64 ∷ 0x65 ∷ 0x64 ∷ 0x20 ∷ 0x30 ∷ 0x0a ∷ []
  -- numbers in base ten: by themselves, in a period's line, the last line and a refusal's; and ten periods
  pub numbers : map decimal (0 ∷ 9 ∷ 10 ∷ 99 ∷ 100 ∷ 101 ∷ 10920 ∷ []) ≡ map ascii ("0" ∷ "9" ∷ "10" ∷ "99" ∷ "100" ∷ "101" ∷ "10920" ∷ [])
  pub period_lines_lem : map (λ n. period_line n BrokenAfter 3) (10 ∷ 99 ∷ 100 ∷ 10920 ∷ [])
      ≡ map ascii ("10 broken-after 3\n" ∷ "99 broken-after 3\n" ∷ "100 broken-after 3\n" ∷ "10920 broken-after 3\n" ∷ [])
  pub decided_lines : map decided_line (10 ∷ 99 ∷ 100 ∷ 10920 ∷ []) ≡ map ascii ("decided 10\n" ∷ "decided 99\n" ∷ "decided 100\n" ∷ "decided 10920\n" ∷ [])
  pub refused_lines : refused_line 11 10919 ∷ refused_line 6 64 ∷ [] ≡ map ascii ("refused 11 10919\n" ∷ "refused 6 64\n" ∷ [])
  pub ten_periods : report (duty_bytes ++ repeat_bytes ++ joined (replicate 9 (narrow_record 1 1)) ++ narrow_record 1 0)
      ≡ ascii "1 open 0\n2 open 0\n3 open 0\n4 open 0\n5 open 0\n6 open 0\n7 open 0\n8 open 0\n9 open 0\n10 broken 2\ndecided 10\n"
  pub decided_first : report (duty_bytes ++ narrow_record 1 1 ++ narrow_record 0 0) ≡ ascii "1 met 0\n2 met-after 0\ndecided 1\n"
  pub never_decided : report (duty_bytes ++ repeat_bytes ++ narrow_record 1 1 ++ narrow_record 1 1) ≡ ascii "1 open 0\n2 open 0\ndecided 0\n"
  -- blame 3
  pub both_blamed : report (six 1 3 0 ++ narrow_record 0 0 ++ narrow_record 1 1) ≡ ascii "1 broken 3\n2 broken-after 3\ndecided 1\n"
  -- "`refused`, number, place": 1 to 7 of compile's
  pub small_inputs_lem :
      map report
      ([]
      ∷ (0x54 ∷ 0x44 ∷ 0x01 ∷ 0x01 ∷ 0x00 ∷ 0x00 ∷ [])
      ∷ six 11 0 0
      ∷ six 1 4 0
      ∷ repeat_bytes
      ∷ any_bytes
      ∷ joined (any_bytes ∷ star_bytes ∷ duty_bytes ∷ when_bytes ∷ []) ∷ [])
      ≡ map ascii
      ("refused 1 0\n" ∷ "refused 2 0\n" ∷ "refused 3 0\n" ∷ "refused 4 0\n" ∷ "refused 5 0\n" ∷ "refused 6 1\n" ∷ "refused 7 3\n" ∷ [])
  pub trace_only : report (narrow_record 1 1) ≡ ascii "refused 1 0\n"
  -- a cut record after a whole one belongs to the trace, without a whole one to the contract
  pub cut_record : report (duty_bytes ++ narrow_record 1 1 ++ (0x54 ∷ 0x50 ∷ [])) ≡ ascii "refused 11 0\n"
  pub cut_contract : report (duty_bytes ++ (0x54 ∷ 0x50 ∷ [])) ≡ ascii "refused 1 0\n"
  -- 65,521 bytes, whatever they are; 65,520 bytes are not too long
  pub too_long : (input : List ℕ) → 65520 < length input → report input ≡ ascii "refused 13 0\n"
  pub longest : (trace : List ℕ) → length trace ≡ 65514 → report (narrow_record 1 1 ++ trace) ≡ ascii "refused 1 0\n"
  -- a wrong mark in the trace, and compile's refusal before it
  pub bad_mark : report (duty_bytes ++ narrow_record 1 1 ++ narrow_record 1 1 ++ duty_bytes) ≡ ascii "refused 11 2\n"
  pub contract_first : report (duty_bytes ++ duty_bytes ++ narrow_record 1 1 ++ duty_bytes) ≡ ascii "refused 6 2\n"
