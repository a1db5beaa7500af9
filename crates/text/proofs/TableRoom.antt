-- Room in the table for a task that is read: what the counts keep to bounds the words that are moved, cleared and
-- written when it is laid out, and the numbers of an atom's row.
use Prim.Native.Nat.{ℕ, ◌+◌, ◌-◌, ◌*◌, ◌≤◌, ◌<◌}
use mathlib.Core.Path.{◌≡◌}
use mathlib.Core.List.{List, [], ◌∷◌}
use native.Mathlib.Omega.{arith}
use lib.ListN.{length, get_or}
use Rattle.task.specs.Limits.{head_words, pair_size, atom_size, table_length, table_words}
use Rattle.task.proofs.Tables.{table_words-is}
use Rattle.text.specs.Text.{Draft}
use Rattle.text.specs.Holding.{Holds, pairs_at, rows_at}
use Rattle.text.proofs.RowTests.{seven-words}
use Rattle.text.specs.declared.draft.Counts.{Counts}

-- what lies in a table lies in words that are long enough for one
pub in_table : {n long : ℕ} → n ≤ table_length → table_words ≤ long → n ≤ long
in_table l m = let z = table_words-is in omega arith

module _ {d : Draft} {w : List ℕ} {c : Counts} (h : Holds d w c) where
  -- the parameter count of a schema that is closed has its place
  pub params-inside : head_words + c.predicates + c.schemas < length w
  params-inside =
      let predicates = h.few.predicates in
      let schemas = h.few.schemas in
      in_table (omega arith) h.long

  -- the pairs come behind the parameter counts, and the rows behind the pairs
  abbrev pairs_to : ℕ
  pairs_to = head_words + c.predicates + c.schemas

  abbrev many_pairs : ℕ
  many_pairs = pair_size * (c.pairs + c.apart)

  abbrev to : ℕ
  to = pairs_to + many_pairs

  abbrev many : ℕ
  many = atom_size * (((c.closed + c.atoms) + c.initial) + c.goal)

  pairs-room : pairs_at c.predicates + many_pairs ≤ rows_at c.predicates
  pairs-room = let pairs = h.few.pairs in omega arith

  rows-room : rows_at c.predicates + many ≤ table_length
  rows-room =
      let predicates = h.few.predicates in
      let total = h.few.total in
      let initial = h.few.initial in
      let goal = h.few.goal in
      omega arith

  pairs-down : pairs_to ≤ pairs_at c.predicates
  pairs-down = let schemas = h.few.schemas in omega arith

  rows-down : to ≤ rows_at c.predicates
  rows-down = let down = pairs-down in let room = pairs-room in omega arith

  -- the pairs move down, and so do the rows, inside the words
  pub pairs-move-room : (pairs_to ≤ pairs_at c.predicates) × (pairs_at c.predicates + many_pairs ≤ length w)
  pairs-move-room =
      let pairs = pairs-room in
      let rows = rows-room in
      (pairs-down, in_table (omega arith) h.long)

  pub move-room : {long : ℕ} → long ≡ length w →
      (to ≤ rows_at c.predicates) × (rows_at c.predicates + many ≤ long)
  move-room size =
      let room : rows_at c.predicates + many ≤ length w = in_table rows-room h.long in
      (rows-down, omega arith)

  pub laid-room : to + many ≤ table_length
  laid-room = let down = rows-down in let room = rows-room in omega arith

  -- zeros fill the table behind them
  pub zeros-room : {long : ℕ} → long ≡ length w → to + many + (table_length - (to + many)) ≤ long
  zeros-room size =
      let room = laid-room in
      let whole : to + many + (table_length - (to + many)) ≤ length w = in_table (omega arith) h.long in
      omega arith

  -- and the counts come first
  pub head-room : {long : ℕ} → long ≡ length w → head_words ≤ long
  head-room size = let z = table_words-is in let long = h.long in omega arith

  pub head-words : (k : ℕ) → k < head_words →
      get_or (c.objects ∷ c.predicates ∷ c.schemas ∷ c.closed ∷ c.initial ∷ c.goal ∷ c.pairs ∷ []) k 0 < 65536
  head-words =
      let few = h.few in
      let objects = few.objects in
      let predicates = few.predicates in
      let schemas = few.schemas in
      let total = few.total in
      let initial = few.initial in
      let goal = few.goal in
      let pairs = few.pairs in
      seven-words (omega arith) (omega arith) (omega arith) (omega arith) (omega arith) (omega arith) (omega arith)
