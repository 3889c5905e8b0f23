-- The bytes of a state. Document 01, "Image and row machine", from "State".
use Prim.Native.Nat.{ℕ, ◌+◌, ◌^◌, ◌≤◌, ◌<◌}
use native.Mathlib.Nat.{mod-eq_of_lt}
use native.Mathlib.Omega.{arith}
use mathlib.Core.Path.{◌≡◌, refl, ◌∙◌}
use mathlib.Core.List.{List, [], ◌∷◌, ◌++◌, append_assoc}
use lib.ListN.{length, drop, length-append, take-append-drop}
use lib.Seq.{drop-cons, drop-drop, drop_at}
use borrow.Author.Tests.{eq-eqb}
use Rattle.records.specs.Fields.{bytes, field}
use Rattle.records.specs.Holding.{AllBytes}
use Rattle.records.proofs.Fields.{length-bytes, bytes-field}
use Rattle.records.proofs.Written.{field_spelled}
use Rattle.states.specs.Limits.{head_bytes, max_periods}
use Rattle.states.specs.States.{State, state_bytes, state_of}
use Rattle.states.specs.Refusals.{state_test}
use Rattle.states.proofs.Soundness.{Sound, decision≤, facts_sound}
use Rattle.records.specs.Refusals.{Passed}

-- ---- the bytes of a state

pub length-state_bytes : (s : State) → length (state_bytes s) ≡ head_bytes + length s.values
unfolding state_bytes
length-state_bytes s = simp (length-append, length-bytes) (omega arith)

-- a field's bytes and what follows them
field_then : (l : List ℕ) (at w : ℕ) → AllBytes l → at + w ≤ length l → bytes w (field l at w) ++ drop (at + w) l ≡ drop at l
field_then l at w a h = rw (bytes-field l at w a h, ← drop-drop w at l) (take-append-drop w (drop at l))

pub state_bytes-state_of : (l : List ℕ) → AllBytes l → head_bytes ≤ length l → state_bytes (state_of l) ≡ l
unfolding state_bytes state_of
state_bytes-state_of l a h =
    rw (field_then l 6 4 a h, field_then l 2 4 a (omega arith), ← drop-cons l 1 0 (omega arith), ← drop-cons l 0 0 (omega arith))

pub state_of-state_bytes : (s : State) → s.periods < 256 ^ 4 → s.decision < 256 ^ 4 → state_of (state_bytes s) ≡ s
unfolding state_bytes state_of
state_of-state_bytes s h k =
    let o = s.outcome in
    let b = s.blame in
    let p = s.periods in
    let d = s.decision in
    let front = o ∷ b ∷ bytes 4 p in
    let e : length front ≡ 6 = rw length-bytes in
    let f : length (bytes 4 p ++ bytes 4 d) ≡ 8 = simp (length-append, length-bytes) in
    let v : drop 8 (bytes 4 p ++ (bytes 4 d ++ s.values)) ≡ s.values =
    rw (← append_assoc) (drop_at (bytes 4 p ++ bytes 4 d) s.values 8 f) in
    rw (
      field_spelled (o ∷ b ∷ []) 4 p (bytes 4 d ++ s.values) 2 refl,
      mod-eq_of_lt h,
      field_spelled front 4 d s.values 6 e,
      mod-eq_of_lt k,
      v,
    )

-- ---- a sound state's bytes

-- they are read back, and pass the test
small_counts : (n : ℕ) (s : State) → Sound n s → s.periods ≤ max_periods → (s.periods < 256 ^ 4) × (s.decision < 256 ^ 4)
small_counts n s h k = (omega arith, omega (arith, decision≤ h.head))

pub read_back : (n : ℕ) (s : State) → Sound n s → s.periods ≤ max_periods → state_of (state_bytes s) ≡ s
read_back n s h k = let b = small_counts n s h k in state_of-state_bytes s b.0 b.1

pub sound_passes : (n : ℕ) (s : State) → Sound n s → s.periods ≤ max_periods → state_test n (state_bytes s) ≡ Passed
unfolding state_test
sound_passes n s h k =
    rw (eq-eqb (length (state_bytes s)) (head_bytes + n) (length-state_bytes s ∙ rw h.long), read_back n s h k, facts_sound n s h)
