-- What is printed for an input. Document 01, "Watch".
use Rattle.std.specs.Prelude.{ℕ, zero, suc, List, [], ◌++◌, leb, length, Ok, Err}
use Rattle.records.specs.declared.Fault.TheVariants.{LongInput}
use Rattle.records.specs.Refusals.{Test, fault_number, require}
use Rattle.periods.specs.Periods.{Period}
use Rattle.periods.specs.Traces.{period_records, trace_test, trace_periods}
use Rattle.contract.specs.Meaning.{Clause, meaning}
use Rattle.contract.specs.Verdicts.{decision_period, blame, verdict}
use Rattle.grammar.specs.Reader.{Result, refused, taken, read}
use Rattle.report.specs.Limits.{input_bytes}
use Rattle.report.specs.Texts.{period_line, decided_line, refused_line}
use Rattle.report.specs.Split.{contract_of, trace_of}

-- the line for the last of these periods: what the clause means on them
unfoldable pub meant_line : Clause → List Period → List ℕ
meant_line c w = let d = meaning c w in period_line (length w) (verdict d (length w)) (blame d)

-- a line for each of a trace's first n periods
unfoldable pub period_lines : Clause → (trace : List ℕ) → ℕ → List ℕ
period_lines c trace zero = []
period_lines c trace (suc n) = period_lines c trace n ++ meant_line c (trace_periods trace (suc n))

-- the lines of a trace of n periods, then the decision period
unfoldable pub lines : Clause → (trace : List ℕ) → ℕ → List ℕ
lines c trace n = period_lines c trace n ++ decided_line (decision_period (meaning c (trace_periods trace n)))

-- "A refusal prints only `refused`, number, place"
abbrev pub or_refused : Test → (text : List ℕ) → List ℕ
or_refused (Ok u) text = text
or_refused (Err r) text = refused_line (fault_number r.fault) r.place

-- "then run's on the trace"
unfoldable pub on_trace : Clause → (trace : List ℕ) → List ℕ
on_trace c trace = or_refused (trace_test trace) (lines c trace (period_records trace))

-- "then compile's"
abbrev pub on_contract : Result Clause → (trace : List ℕ) → List ℕ
on_contract (refused f k) trace = refused_line (fault_number f) k
on_contract (taken c) trace = on_trace c trace

-- "13 is tested first": "input over 65,520 bytes; 0"
unfoldable pub report : List ℕ → List ℕ
report input = or_refused (require (leb (length input) input_bytes) LongInput 0) (on_contract (read (contract_of input)) (trace_of input))
