-- What compile leaves in the bytes that it was lent. Document 01, "Calls" and "Replies that refuse".
-- The contract is lent to be read only, so it is afterwards as it was; the image buffer is the one buffer beside the reply area.
use Rattle.std.specs.Prelude.{ℕ, ◌+◌, ◌*◌, ◌≤◌, List, ◌⊎◌, ◌↔◌, ◌≡◌, length, take}
use Rattle.std.proofs.lemmas.List.Edits.{sets}
use Rattle.records.specs.Replies.{alone, head_size, head_of, After, Gives, call}
use Rattle.layout.specs.Limits.{row_bytes}
use Rattle.layout.specs.Images.{row_count}
use Rattle.layout.specs.Refusals.{image_test}
use Rattle.contract.specs.Meaning.{Clause}
use Rattle.grammar.specs.Spelling.{Spells}
use Rattle.image.specs.Limits.{allowed_for, buffer_for}
use Rattle.image.specs.Images.{image_for}
use Rattle.image.specs.Monitors.{Monitors}
use Rattle.compiler.specs.Refusals.{compile_test}
use Rattle.records.specs.Refusals.{Passed}

-- "Compile gives a row count; the image is the first 8 × (count + 1) bytes of its buffer, and those beyond keep their old values."
unfoldable pub compile : (contract buffer reply : List ℕ) → After (List ℕ)
compile contract buffer reply =
    let image = image_for contract in
    call (compile_test contract buffer) (alone (row_count image)) buffer (sets buffer 0 image) reply

-- "the image is the first 8 × (count + 1) bytes of its buffer"
abbrev pub first_image : (count : ℕ) (buffer : List ℕ) → List ℕ
first_image count buffer = take (row_bytes * (count + 1)) buffer

-- What a host may rely on in the bytes at exit: the reply gives number 0 and a row count, at most 32 × records + 64 and 4 more for each
-- period of each window, and the image of so many rows is a good one that monitors the contract.
pub record Usable (contract buffer reply : List ℕ) : Type 0 where
  pub count : ℕ
  pub head_is : head_of reply ≡ record { number = 0; own = count; place = 0 }
  pub few : count ≤ allowed_for contract
  pub rows : row_count (first_image count buffer) ≡ count
  pub good : image_test (first_image count buffer) ≡ Passed
  pub monitors : Monitors contract (first_image count buffer)

-- Compile's contract. Result, buffer and reply are those of `compile`. A contract is taken exactly when its records spell a clause: then, with room
-- for the reply, its number is 0 or 8. Which rows an image has document 01 leaves open: "they follow from the contract's bytes alone, form a good image
-- and meet demand 3". Ours are those of Blocks.antt; and that they meet demand 3 is said here of the bytes at exit themselves: of every contract that
-- is taken, with room for the reply and a buffer that does not meet 8.
pub record Compiles (contract buffer reply : List ℕ) (result : ℕ) (later-buffer later-reply : List ℕ) : Type 0 where
  pub gives : Gives (compile contract buffer reply) result later-buffer later-reply
  pub takes : head_size ≤ length reply
      → (((head_of later-reply).number ≡ 0) ⊎ ((head_of later-reply).number ≡ 8)) ↔ ((c : Clause) × Spells contract c)
  pub usable : (c : Clause) → Spells contract c → head_size ≤ length reply → buffer_for contract ≤ length buffer
      → Usable contract later-buffer later-reply
