-- Note 5 on small tasks, computed: M of document 01 at the widths 0 to 3, its whole outcome, what is refused, a swap
-- whose pair lets more be merged, and tasks that end with too many parts.
use Rattle.task.specs.declared.Place.TheVariants as place
use Prim.Native.Nat.{ℕ}
use mathlib.Core.Path.{◌≡◌, refl}
use mathlib.Core.List.{List, [], ◌∷◌, ◌++◌, map}
use lib.ListN.{replicate}
use Rattle.words.specs.Lists.{up_to}
use Rattle.task.specs.Limits.{table_words}
use Rattle.task.specs.Answers.{result, refused, Outcome}
use Rattle.task.specs.Task.{Atom, Fact, Pair, Schema, Task, precondition, addition, deletion}
use Rattle.task.specs.Table.{words_of}
use Rattle.proposals.specs.Proposal.{with_parts, proposed_parts}
use Rattle.proposals.specs.Outcome.{Lent, scratch_words, propose_outcome}

abbrev atom : ℕ → ℕ → List ℕ → Atom
atom r p args = record { role = r; pred = p; part = 0; args = args }

abbrev fact : ℕ → List ℕ → Fact
fact p args = record { pred = p; args = args }

-- so many words lent, and one behind them: what stays untouched shows
unfoldable pub lent : ℕ → List ℕ
lent n = replicate n 7

-- ---- M
-- "a logger's move x, y, z", all in one part
unfoldable pub move : Schema
move = record {
  params = 3;
  pairs = [];
  atoms =
      atom precondition 0 (0 ∷ 1 ∷ []) ∷
      atom precondition 1 (0 ∷ []) ∷
      atom precondition 1 (2 ∷ []) ∷
      atom addition 0 (0 ∷ 2 ∷ []) ∷
      atom addition 1 (1 ∷ []) ∷
      atom deletion 0 (0 ∷ 1 ∷ []) ∷
      atom deletion 1 (2 ∷ []) ∷ [];
}

abbrev move_in : List ℕ → Task
move_in ps = record {
  objects = 3;
  arities = 2 ∷ 1 ∷ [];
  schemas = with_parts move ps ∷ [];
  init = fact 0 (0 ∷ 1 ∷ []) ∷ fact 1 (0 ∷ []) ∷ fact 1 (2 ∷ []) ∷ [];
  goal = fact 0 (0 ∷ 2 ∷ []) ∷ [];
}

-- at width 2 it is document 01's own partition
pub move-proposed : map (λ width. proposed_parts width move) (up_to 4) ≡
    (0 ∷ 1 ∷ 2 ∷ 3 ∷ 4 ∷ 5 ∷ 6 ∷ []) ∷
    (0 ∷ 1 ∷ 2 ∷ 3 ∷ 4 ∷ 5 ∷ 2 ∷ []) ∷
    (0 ∷ 0 ∷ 1 ∷ 1 ∷ 2 ∷ 0 ∷ 1 ∷ []) ∷
    (0 ∷ 0 ∷ 0 ∷ 0 ∷ 0 ∷ 0 ∷ 0 ∷ []) ∷ []
unfolding move proposed_parts up_to
move-proposed = refl

-- the whole outcome, whatever parts the lent task has
pub move-outcome :
    propose_outcome (words_of (move_in (0 ∷ 0 ∷ 1 ∷ 1 ∷ 0 ∷ 0 ∷ 1 ∷ []))) 2 (lent table_words ++ (5 ∷ []))
    (lent scratch_words ++ (5 ∷ [])) ≡
    record {
      told = result [];
      buffer = record {
        proposed = words_of (move_in (0 ∷ 0 ∷ 1 ∷ 1 ∷ 2 ∷ 0 ∷ 1 ∷ [])) ++ (5 ∷ []);
        scratch = replicate scratch_words 0 ++ (5 ∷ []);
      };
    }
unfolding move propose_outcome words_of with_parts lent table_words scratch_words
move-outcome = refl

-- "22, after 2, for a width above 12 or a shorter scratch": since note 7 one of less than 128 words
abbrev move_at : ℕ → ℕ → Outcome Lent
move_at width words = propose_outcome (words_of (move_in (replicate 7 0))) width (lent table_words) (lent words)

pub move-too-wide : move_at 13 scratch_words ≡ record {
  told = refused 22 place.Nowhere [];
  buffer = record { proposed = lent table_words; scratch = lent scratch_words };
}
unfolding move propose_outcome words_of with_parts lent table_words scratch_words
move-too-wide = refl

pub move-short-scratch : move_at 12 127 ≡ record {
  told = refused 22 place.Nowhere [];
  buffer = record { proposed = lent table_words; scratch = lent 127 };
}
unfolding move propose_outcome words_of with_parts lent table_words scratch_words
move-short-scratch = refl

-- ---- parameters that must differ
-- two piers, 0 and 1, swap what lies there, 2 and 3
unfoldable pub swap : List Pair → Schema
swap pairs = record {
  params = 4;
  pairs = pairs;
  atoms =
      atom precondition 0 (0 ∷ 2 ∷ []) ∷
      atom precondition 0 (1 ∷ 3 ∷ []) ∷
      atom addition 0 (0 ∷ 3 ∷ []) ∷
      atom addition 0 (1 ∷ 2 ∷ []) ∷
      atom deletion 0 (0 ∷ 2 ∷ []) ∷
      atom deletion 0 (1 ∷ 3 ∷ []) ∷ [];
}

-- four parts, and three where the piers differ: that takes arcs away
pub swap-proposed : proposed_parts 3 (swap []) ≡ 0 ∷ 1 ∷ 2 ∷ 3 ∷ 0 ∷ 2 ∷ []
unfolding swap proposed_parts
swap-proposed = refl

pub apart-proposed : proposed_parts 3 (swap (record { lower = 0; higher = 1 } ∷ [])) ≡ 0 ∷ 1 ∷ 2 ∷ 0 ∷ 0 ∷ 1 ∷ []
unfolding swap proposed_parts
apart-proposed = refl

-- ---- too many parts
-- so many tests of one parameter: at width 0 none can be merged
unfoldable pub tests : ℕ → Schema
unfolding up_to
tests n = record { params = 1; pairs = []; atoms = map (λ p. atom precondition p (0 ∷ [])) (up_to n) }

abbrev tests_at : ℕ → Outcome Lent
tests_at n =
    let t : Task = record {
      objects = 1;
      arities = replicate 20 1;
      schemas = tests 3 ∷ tests n ∷ tests 20 ∷ [];
      init = [];
      goal = [];
    } in
    propose_outcome (words_of t) 0 (lent table_words) (lent scratch_words ++ (5 ∷ []))

-- "23 when a schema ends with more than 16 parts, with the first such schema"
pub too-many-tests : tests_at 17 ≡ record {
  told = refused 23 (place.Schema 1) [];
  buffer = record { proposed = lent table_words; scratch = replicate scratch_words 0 ++ (5 ∷ []) };
}
unfolding tests propose_outcome words_of lent table_words scratch_words
too-many-tests = refl

pub sixteen-tests : (tests_at 16).told ≡ refused 23 (place.Schema 2) []
unfolding tests propose_outcome words_of lent table_words scratch_words
sixteen-tests = refl
