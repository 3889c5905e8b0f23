-- What the code of a period leaves in a sound state's bytes is what the row machine says.
use Prim.Native.Nat.{ℕ, ◌+◌, ◌-◌, ◌≤◌}
use native.Mathlib.Omega.{arith}
use mathlib.Core.Bool.{Bool, false, ◌||◌, cond}
use mathlib.Core.List.{List, [], ◌∷◌, ◌++◌, map}
use mathlib.Core.Path.{◌≡◌, refl, sym, ap, ◌∙◌}
use borrow.Rule.Slice.PartMut.{put_mid}
use lib.Dec.{eqb}
use lib.ListN.{length, get_or, take, drop, length-drop, length-map, get_or-map}
use lib.Seq.{sets}
use Rattle.records.specs.Fields.{bytes}
use Rattle.records.specs.Holding.{AllBytes}
use Rattle.records.proofs.Written.{drop_after, part_rest}
use Rattle.records.proofs.Fields.{length-bytes}
use Rattle.periods.specs.Periods.{Period}
use Rattle.layout.specs.Images.{Image, row_count, image_of}
use Rattle.layout.proofs.Images.{length-rows_of}
use Rattle.states.specs.Limits.{head_bytes, max_periods}
use Rattle.states.specs.States.{State, state_of, state_bytes}
use Rattle.states.specs.Premises.{Answering}
use Rattle.states.proofs.Refusals.{state_passed}
use Rattle.states.proofs.Soundness.{Sound, decision≤}
use Rattle.states.proofs.States.{state_bytes-state_of, read_back, sound_passes, length-state_bytes}
use Rattle.machine.specs.declared.Decisive.{Decisive}
use Rattle.machine.specs.Machine.{byte_of, is_true, values_after, outcome_of, blame_of, computed, counted, after_period, after_periods}
use Rattle.machine.specs.Computing.{first_bits, values_in, trimmed, packed, new_bits, RowValues, decisive_in, with_decision}
use Rattle.machine.specs.Premises.{Ready}
use Rattle.machine.proofs.Trimming.{length-first_bits, length-trimmed, put_rest, state_sound, plain, trimmed-bytes, trimmed_state}
use Rattle.machine.proofs.Computing.{first_bits-packed}
use Rattle.machine.proofs.Machine.{is_true-byte_of, length-values_after, after_undecided, after_decided, sound-after_periods, periods_after_periods}

-- ---- writes to a state's bytes

module _ (s : State) where
  put_periods : (n : ℕ) → sets (state_bytes s) 2 (bytes 4 n)
      ≡ state_bytes (record { outcome = s.outcome; blame = s.blame; periods = n; decision = s.decision; values = s.values })
  unfolding state_bytes bytes
  put_periods n = refl

  drop_head : drop head_bytes (state_bytes s) ≡ s.values
  unfolding state_bytes bytes
  drop_head = refl

  put_values : (vs : List ℕ) → take head_bytes (state_bytes s) ++ vs
      ≡ state_bytes (record { outcome = s.outcome; blame = s.blame; periods = s.periods; decision = s.decision; values = vs })
  unfolding state_bytes bytes
  put_values vs = refl

  put_decision : (by : Decisive) (n : ℕ) → with_decision by n (state_bytes s)
      ≡ state_bytes (record {
        outcome = outcome_of by.sat by.one by.two;
        blame = blame_of by.one by.two;
        periods = s.periods;
        decision = cond (by.sat || by.one || by.two) n 0;
        values = s.values;
      })
  unfolding state_bytes bytes with_decision
  put_decision by n = refl

  -- what the rows S, V1 and V2 decide, the row values being in the first bits of the state's
  put_decided : (m : Image) (new : List Bool) → first_bits s.values ≡ map byte_of new → with_decision (decisive_in m (state_bytes s)) s.periods (state_bytes s)
      ≡ state_bytes (record {
        outcome = outcome_of (get_or new m.S false) (get_or new m.V1 false) (get_or new m.V2 false);
        blame = blame_of (get_or new m.V1 false) (get_or new m.V2 false);
        periods = s.periods;
        decision = cond (get_or new m.S false || get_or new m.V1 false || get_or new m.V2 false) s.periods 0;
        values = s.values;
      })
  unfolding decisive_in values_in
  put_decided m new e =
      let at : (j : ℕ) → get_or (values_in (drop head_bytes (state_bytes s))) j false ≡ get_or new j false =
      λ j. ap (λ (l : List ℕ). get_or (map is_true l) j false) (ap first_bits drop_head ∙ e)
      ∙ get_or-map is_true (map byte_of new) j 0 ∙ ap is_true (get_or-map byte_of new j false) ∙ is_true-byte_of (get_or new j false) in
      rw (at m.S, at m.V1, at m.V2) (put_decision (record { sat = get_or new m.S false; one = get_or new m.V1 false; two = get_or new m.V2 false }) s.periods)

-- ---- a period

pub length-rows : (image : List ℕ) → length (image_of image).rows ≡ row_count image
unfolding image_of
length-rows image = length-rows_of image (row_count image)

new_bits_lem : (image : List ℕ) (p : Period) (s : State) → new_bits image p (eqb s.periods 0) s.values ≡ values_after (image_of image) p s
unfolding new_bits values_after image_of
new_bits_lem image p s = rw length-rows_of

length-values_in : (l : List ℕ) → length (values_in l) ≡ length l
unfolding values_in
length-values_in l = length-map (first_bits l) is_true ∙ length-first_bits l

module _ (image l : List ℕ) (w : Ready image (trimmed l) 1) where
  pub working_long : length l ≡ head_bytes + row_count image
  working_long = sym (length-trimmed l) ∙ (state_passed (row_count image) (trimmed l) w.sound).0

  pub working_state : state_of (trimmed l) ≡ plain (state_of l)
  working_state = trimmed_state l (rw working_long (omega arith))

  pub working_room : (state_of l).periods + 1 ≤ max_periods
  working_room = rw working_state at w.room

  module _ (n : ℕ) where
    -- the bytes with the count raised, and the rows' part of them
    abbrev raised : List ℕ
    raised = sets l 2 (bytes 4 n)

    abbrev rows : List ℕ
    rows = take (length raised - head_bytes) (drop head_bytes raised)

    raised_rest : drop head_bytes raised ≡ drop head_bytes l
    raised_rest = drop_after l 2 (bytes 4 n) head_bytes (rw length-bytes (omega arith))

    raised_values : rows ≡ (state_of l).values
    unfolding state_of
    raised_values = part_rest head_bytes raised ∙ raised_rest

    long_values : length (state_of l).values ≡ row_count image
    unfolding state_of
    long_values = length-drop head_bytes l ∙ rw working_long (omega arith)

    pub row_values : RowValues image rows (eqb (state_of l).periods 0)
    row_values =
        let s : Sound (row_count image) (plain (state_of l)) = rw working_state at (state_sound (row_count image) (trimmed l) w.sound) in
        record {
          good = w.good;
          long = ap length raised_values ∙ long_values;
          fresh = rw raised_values s.values_sound;
        }

    module _ (a : AllBytes l) (e : n ≡ (state_of l).periods + 1) (p : Period) where
      counts : raised ≡ state_bytes (counted (state_of l))
      unfolding counted
      counts =
          let m = (state_of l).periods + 1 in
          rw e (ap (λ (b : List ℕ). sets b 2 (bytes 4 m)) (sym (state_bytes-state_of l a (rw working_long (omega arith)))) ∙ put_periods (state_of l) m)

      abbrev Taken : List ℕ → Type 0
      Taken later = trimmed later ≡ state_bytes (after_period (image_of image) p (state_of (trimmed l)))

      pub period_counted : ¬ ((state_of l).outcome ≡ 0) → Taken raised
      unfolding counted
      period_counted d =
          rw (working_state, after_decided (image_of image) p (plain (state_of l)) d) (ap trimmed counts ∙ trimmed-bytes (counted (state_of l)))

      -- the bytes with the rows' new values
      abbrev now : List ℕ → List ℕ
      now vs = put_mid head_bytes (length raised - head_bytes) raised vs

      pub period_computed : (state_of l).outcome ≡ 0 → (vs : List ℕ)
          → vs ≡ packed (values_in rows) (new_bits image p (eqb (state_of l).periods 0) (first_bits rows))
          → Taken (with_decision (decisive_in (image_of image) (now vs)) n (now vs))
      unfolding computed counted
      period_computed o vs v =
          let s = state_of l in
          let m = image_of image in
          let old = values_in s.values in
          let new = values_after m p (plain s) in
          let q : vs ≡ packed old new = v ∙ rw raised_values (ap (packed old) (new_bits_lem image p (plain s))) in
          let f : first_bits vs ≡ map byte_of new =
          rw q (first_bits-packed old new (length-values_after m p (plain s) ∙ length-rows image ∙ sym (length-values_in s.values ∙ long_values))) in
          let t : State = record { outcome = s.outcome; blame = s.blame; periods = s.periods + 1; decision = s.decision; values = vs } in
          let c = computed m new s in
          let u : State = record { outcome = c.outcome; blame = c.blame; periods = c.periods; decision = c.decision; values = vs } in
          let d : with_decision (decisive_in m (now vs)) n (now vs) ≡ state_bytes u =
          rw (put_rest head_bytes raised vs, counts, put_values (counted s) vs, e) (put_decided t m new f) in
          rw (working_state, after_undecided m p (plain s) o) (ap trimmed d ∙ trimmed-bytes u ∙ rw f refl)

-- ---- a state that is ready for n periods

module _ (image l : List ℕ) (n : ℕ) (h : Ready image l n) where
  pub ready_long : length l ≡ head_bytes + row_count image
  ready_long = (state_passed (row_count image) l h.sound).0

-- ---- the states that follow

module _ (image l : List ℕ) (n : ℕ) (h : Ready image l n) (w : List Period) (i : length w ≤ n) where
  abbrev later : State
  later = after_periods (image_of image) (state_of l) w

  pub later-sound : Sound (row_count image) later
  later-sound =
      rw length-rows at (sound-after_periods (image_of image) (state_of l) w (rw length-rows (state_sound (row_count image) l h.sound)))

  pub later_count : later.periods + (n - length w) ≡ (state_of l).periods + n
  later_count = rw (periods_after_periods (image_of image) (state_of l) w) (omega arith)

  pub later_read : state_of (state_bytes later) ≡ later
  later_read = read_back (row_count image) later later-sound (omega (arith, later_count, h.room))

  pub later_long : length (state_bytes later) ≡ length l
  later_long = length-state_bytes later ∙ rw later-sound.long (sym (ready_long image l n h))

  pub later_ready : Ready image (state_bytes later) (n - length w)
  later_ready =
      record {
        good = h.good;
        sound = sound_passes (row_count image) later later-sound (omega (arith, later_count, h.room));
        room = rw (later_read, later_count) h.room;
      }

  -- and its answer can be given
  pub later_answering : Answering (state_bytes later)
  later_answering =
      record {
        head = omega (arith, later_long, ready_long image l n h);
        decided_by_now = rw later_read (decision≤ later-sound.head);
      }

-- the state after one period is read back, and its answer can be given
pub step_read : (image l : List ℕ) → Ready image l 1 → (p : Period)
    → state_of (state_bytes (after_period (image_of image) p (state_of l))) ≡ after_period (image_of image) p (state_of l)
unfolding after_periods
step_read image l h p = later_read image l 1 h (p ∷ []) (omega arith)
