-- Expressions, the set of lists of periods that each has, and tests that decide these sets. Document 01, "Expressions".
use Rattle.std.specs.Prelude.{ℕ, zero, suc, Bool, true, false, not, ◌&&◌, ◌||◌, List, [], ◌∷◌, ◌++◌, ◌≡◌, length}
use Rattle.periods.specs.Periods
use Rattle.periods.specs.declared.Party.{Party}
use Rattle.periods.specs.Periods.{Period}

-- kinds 16 to 20
pub data Atom : Type 0 where
  any : Atom
  tries : Party → ℕ → Atom
  idle : Party → ℕ → Atom
  succeeds : ℕ → Atom
  fails : ℕ → Atom

-- the periods at which an atom holds: all; the party tries it; doesn't try it; both try it; not both try it
unfoldable pub holds : Atom → Period → Bool
holds any x = true
holds (tries p a) x = Periods.tries x p a
holds (idle p a) x = not (Periods.tries x p a)
holds (succeeds a) x = Periods.succeeds x a
holds (fails a) x = not (Periods.succeeds x a)

-- kinds 16 to 23
pub data Expression : Type 0 where
  atom : Atom → Expression
  seq : Expression → Expression → Expression
  or : Expression → Expression → Expression
  star : Expression → Expression

-- "An expression has a set of lists of periods": `Holds e w` says that the list w is in the set of e. Atoms hold one-period lists,
-- `seq` joins a list of each, `or` takes either, `star` joins zero or more lists.
pub data Holds : Expression → List Period → Type 0 where
  one : {a : Atom} {x : Period} → holds a x ≡ true → Holds (atom a) (x ∷ [])
  join : {l r : Expression} {u v : List Period} → Holds l u → Holds r v → Holds (seq l r) (u ++ v)
  left : {l r : Expression} {w : List Period} → Holds l w → Holds (or l r) w
  right : {l r : Expression} {w : List Period} → Holds r w → Holds (or l r) w
  none : {e : Expression} → Holds (star e) []
  more : {e : Expression} {u v : List Period} → Holds e u → Holds (star e) v → Holds (star e) (u ++ v)

-- The tests that decide these sets.

-- some split of the list passes the one test with its front and the other with its rest
unfoldable pub splits : (List Period → Bool) → (List Period → Bool) → List Period → Bool
splits f g [] = f [] && g []
splits f g (x ∷ w) = f [] && g (x ∷ w) || splits (λ u. f (x ∷ u)) g w

-- the list joins at most n lists, none of them empty, that pass the test
unfoldable pub joins : (List Period → Bool) → ℕ → List Period → Bool
joins f zero [] = true
joins f zero (x ∷ w) = false
joins f (suc n) [] = true
joins f (suc n) (x ∷ w) = splits (λ u. f (x ∷ u)) (joins f n) w

-- the list is in the set
unfoldable pub member : Expression → List Period → Bool
member (atom a) [] = false
member (atom a) (x ∷ []) = holds a x
member (atom a) (x ∷ y ∷ w) = false
member (seq l r) w = splits (member l) (member r) w
member (or l r) w = member l w || member r w
member (star e) w = joins (member e) (length w) w

-- some list that begins with this one is in the set
unfoldable pub begins : Expression → List Period → Bool
begins (atom a) [] = true
begins (atom a) (x ∷ []) = holds a x
begins (atom a) (x ∷ y ∷ w) = false
begins (seq l r) w = begins l w || splits (member l) (begins r) w
begins (or l r) w = begins l w || begins r w
begins (star e) w = splits (member (star e)) (begins e) w

-- the empty list is in the set
unfoldable pub holds_empty : Expression → Bool
holds_empty (atom a) = false
holds_empty (seq l r) = holds_empty l && holds_empty r
holds_empty (or l r) = holds_empty l || holds_empty r
holds_empty (star e) = true
