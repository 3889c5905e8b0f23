-- Compile's contract from what its code leaves: no room for the reply, refused, or accepted.
use Prim.Native.Nat.{ℕ, ◌^◌, ◌≤◌, ◌<◌}
use native.Mathlib.Nat.{zero-add}
use native.Mathlib.Omega.{arith}
use mathlib.Core.List.{List, []}
use mathlib.Core.Logic.{◌⊎◌, ◌↔◌}
use mathlib.Core.Path.{◌≡◌}
use lib.Dec.{lit<}
use lib.ListN.{length}
use lib.Seq.{sets}
use Rattle.records.specs.Refusals.{Passed, number_of}
use Rattle.records.proofs.Refusals.{number_small}
use Rattle.records.specs.Replies.{four, alone, reply_of, head_of, head_size}
use Rattle.records.proofs.Replies.{field_back, head_back, gives_no_room, gives_refused, gives_passed}
use Rattle.records.proofs.Written.{take_through}
use Rattle.layout.specs.Images.{row_count}
use Rattle.layout.proofs.Images.{GoodImage, passed_good}
use Rattle.contract.specs.Meaning.{Clause}
use Rattle.grammar.specs.Spelling.{Spells}
use Rattle.grammar.specs.Reader.{taken, read}
use Rattle.grammar.proofs.Reader.{spells_taken}
use Rattle.image.specs.Limits.{buffer_for}
use Rattle.image.specs.Images.{image_for}
use Rattle.image.proofs.Images.{right_for, sized_for}
use Rattle.image.proofs.Monitors.{monitors}
use Rattle.compiler.specs.Refusals.{compile_test}
use Rattle.compiler.proofs.Refusals.{taken_passes, taken_number}
use Rattle.compiler.specs.Calls.{first_image, compile, Usable, Compiles}

-- ---- the image and the reply in their places

module _ (contract buffer reply : List ℕ) (c : Clause) (s : Spells contract c) (h : head_size ≤ length reply)
    (i : buffer_for contract ≤ length buffer) where
  e : read contract ≡ taken c
  e = spells_taken contract c s

  good : GoodImage (image_for contract)
  good = passed_good (image_for contract) (right_for contract c e).good

  -- the first 8 × (count + 1) bytes of the buffer
  first_bytes : first_image (row_count (image_for contract)) (sets buffer 0 (image_for contract)) ≡ image_for contract
  first_bytes =
      let few = (sized_for contract c e).rows_allowed in
      rw (← good.count) (rw zero-add at (take_through buffer 0 (image_for contract) (omega (arith, good.count))))

  usable : Usable contract (sets buffer 0 (image_for contract)) (sets reply 0 (reply_of Passed (alone (row_count (image_for contract)))))
  usable =
      let n : ℕ = row_count (image_for contract) in
      let small : n < 256 ^ 4 = omega (arith, good.few_rows) in
      record {
        count = n;
        head_is = head_back reply Passed (alone n) h small (lit< tt);
        few = (sized_for contract c e).rows_allowed;
        rows = rw first_bytes;
        good = rw first_bytes (right_for contract c e).good;
        monitors = rw first_bytes (monitors contract c e);
      }

-- ---- when a contract is taken, as the reply tells it

module _ (contract buffer reply : List ℕ) where
  takes : (n : ℕ) (r : List ℕ) → r ≡ sets reply 0 (reply_of (compile_test contract buffer) (alone n)) → head_size ≤ length reply
      → (((head_of r).number ≡ 0) ⊎ ((head_of r).number ≡ 8)) ↔ ((c : Clause) × Spells contract c)
  takes n r e h = rw (e, number_back) (taken_number contract buffer)
    where
      number_back : (head_of (sets reply 0 (reply_of (compile_test contract buffer) (alone n)))).number ≡ number_of (compile_test contract buffer)
      number_back = field_back [] (four (number_of (compile_test contract buffer))) _ reply h (number_small (compile_test contract buffer))

-- ---- the ways out

module _ (contract buffer reply : List ℕ) where
  pub no_room : length reply < head_size → Compiles contract buffer reply 0 buffer reply
  unfolding compile
  no_room h = record { gives = gives_no_room _ _ _ _ _ h; takes = λ r. absurd (omega arith); usable = λ c s r b. absurd (omega arith) }

  pub turned_away : head_size ≤ length reply → ¬ (compile_test contract buffer ≡ Passed) → (r : List ℕ)
      → r ≡ sets reply 0 (reply_of (compile_test contract buffer) (alone 0)) → Compiles contract buffer reply 1 buffer r
  unfolding compile
  turned_away h e r i =
      record {
        gives = gives_refused _ _ _ _ _ h e r i;
        takes = takes contract buffer reply 0 r i;
        usable = λ c s j b. absurd (e (taken_passes contract buffer c (spells_taken contract c s) b));
      }

  pub served : head_size ≤ length reply → compile_test contract buffer ≡ Passed → (l r : List ℕ) → l ≡ sets buffer 0 (image_for contract)
      → r ≡ sets reply 0 (reply_of Passed (alone (row_count (image_for contract)))) → Compiles contract buffer reply 1 l r
  unfolding compile
  served h e l r i j =
      record {
        gives = gives_passed _ _ _ _ _ h e l r i j;
        takes = takes contract buffer reply (row_count (image_for contract)) r (rw e j);
        usable = λ c s k b. rw (i, j) (usable contract buffer reply c s k b);
      }
