-- Records in lent words, as the inner functions of running speak of them: a record as one number, what a search finds,
-- and what moving rows of five words leaves. No promise of an entry point cites these.
use Rattle.std.specs.Prelude.{ℕ, ◌+◌, ◌-◌, ◌*◌, ◌/◌, ◌%◌, ◌≤◌, ◌<◌, ◌≡◌, Bool, true, false, List, [], ◌∷◌, get_or}
use Rattle.words.specs.Lists.{padded}
use Rattle.task.specs.Limits.{record_size, most_arity}
use Rattle.task.specs.Task.{Fact, Task, args_fit, well_formed}
use Rattle.task.specs.Run.{state_in, is_state}

-- words as digits of base 1024, after the number a
unfoldable pub in_base : ℕ → List ℕ → ℕ
in_base a [] = a
in_base a (x ∷ xs) = in_base (a * 1024 + x) xs

-- a record as one number: objects are below 1024, so records ascend as their numbers do
unfoldable pub record_number : Fact → ℕ
unfolding in_base padded
record_number f = in_base f.pred (padded most_arity f.args)

-- the number of the five words from a on
unfoldable pub number_at : List ℕ → ℕ → ℕ
unfolding in_base
number_at w a = in_base (get_or w a 0) (get_or w (a + 1) 0 ∷ get_or w (a + 2) 0 ∷ get_or w (a + 3) 0 ∷ get_or w (a + 4) 0 ∷ [])

-- the number of row i of lent words
abbrev pub row_number : List ℕ → ℕ → ℕ
row_number w i = number_at w (record_size * i)

abbrev pub RowsAscend : List ℕ → ℕ → Type 0
RowsAscend w n = (i j : ℕ) → i ≤ j → j < n → row_number w i ≤ row_number w j

-- r is the first of n rows whose number is not below this one
pub record LowerBound (w : List ℕ) (n number r : ℕ) : Type 0 where
  pub within : r ≤ n
  pub below : (i : ℕ) → i < r → row_number w i < number
  pub from : (i : ℕ) → r ≤ i → i < n → number ≤ row_number w i

-- r says whether row k is one of n rows and has this number
pub record RowIs (w : List ℕ) (n k number : ℕ) (r : Bool) : Type 0 where
  pub found : r ≡ true → (k < n) × (row_number w k ≡ number)
  pub missed : r ≡ false → k < n → row_number w k ≡ number → ⊥

-- row r has this number, where one of n rows has it
abbrev pub RowFor : List ℕ → ℕ → ℕ → ℕ → Type 0
RowFor w n number r = (i : ℕ) → i < n → row_number w i ≡ number → (r < n) × (row_number w r ≡ number)

-- the words from a to b - 1 come from five further on, those before a and from b on stay
pub record MovedDown (w : List ℕ) (a b : ℕ) (out : List ℕ) : Type 0 where
  pub before : (i : ℕ) → i < a → get_or out i 0 ≡ get_or w i 0
  pub moved : (i : ℕ) → a ≤ i → i < b → get_or out i 0 ≡ get_or w (i + 5) 0
  pub behind : (i : ℕ) → b ≤ i → get_or out i 0 ≡ get_or w i 0

-- the words from a to b - 1 go to five further on, those before a and behind these stay
pub record MovedUp (w : List ℕ) (a b : ℕ) (out : List ℕ) : Type 0 where
  pub before : (i : ℕ) → i < a → get_or out i 0 ≡ get_or w i 0
  pub moved : (i : ℕ) → a ≤ i → i < b → get_or out (i + 5) 0 ≡ get_or w i 0
  pub behind : (i : ℕ) → b + 5 ≤ i → get_or out i 0 ≡ get_or w i 0

-- the five digits of a number stand from word a on, every other word stays
pub record Written (w : List ℕ) (a number : ℕ) (out : List ℕ) : Type 0 where
  pub other : (i : ℕ) → (i < a → get_or out i 0 ≡ get_or w i 0) × (a + 5 ≤ i → get_or out i 0 ≡ get_or w i 0)
  pub digit₀ : get_or out a 0 ≡ number / 1099511627776
  pub digit₁ : get_or out (a + 1) 0 ≡ number / 1073741824 % 1024
  pub digit₂ : get_or out (a + 2) 0 ≡ number / 1048576 % 1024
  pub digit₃ : get_or out (a + 3) 0 ≡ number / 1024 % 1024
  pub digit₄ : get_or out (a + 4) 0 ≡ number % 1024

-- row k gives way to one with this number before row j: the rows between come over it
pub data Replaced (w : List ℕ) (k j number : ℕ) (out : List ℕ) : Type 0 where
  up : {mid : List ℕ} → j ≤ k → MovedUp w (5 * j) (5 * k) mid → Written mid (5 * j) number out →
      Replaced w k j number out
  down : {mid : List ℕ} → k < j → MovedDown w (5 * k) (5 * (j - 1)) mid → Written mid (5 * (j - 1)) number out →
      Replaced w k j number out

-- the words keep a state of the task, and the number is that of a ground atom of its predicates and objects
pub record Known (t : Task) (w : List ℕ) (n : ℕ) (f : Fact) (number : ℕ) : Type 0 where
  pub task : well_formed t ≡ true
  pub state : is_state t w n ≡ true
  pub fits : args_fit t.arities t.objects f.pred f.args ≡ true
  pub is : record_number f ≡ number

-- the words keep the state s in n records
pub record Keeps (t : Task) (w : List ℕ) (n : ℕ) (s : List Fact) : Type 0 where
  pub state : is_state t w n ≡ true
  pub facts : state_in t w n ≡ s
