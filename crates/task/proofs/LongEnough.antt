-- Refusal 1 as code tests it: the length of a lent table against the numeral of its 14,007 words.
use Prim.Native.Nat.{ℕ, ◌≤◌, ◌<◌}
use mathlib.Core.Path.{◌≡◌}
use mathlib.Core.Bool.{true, false}
use mathlib.Core.List.{List}
use lib.ListN.{length}
use borrow.Author.Tests.{le-leb, lt-leb}
use Rattle.task.specs.Limits.{table_words, table_length}
use Rattle.task.specs.Table.{long_enough}

module _ (w : List ℕ) where
  pub too_short : length w < table_length → long_enough w ≡ false
  unfolding long_enough
  too_short h = lt-leb table_length (length w) h

  pub long-enough : table_length ≤ length w → long_enough w ≡ true
  unfolding long_enough
  long-enough h = le-leb table_length (length w) h

  pub has-table-words : table_length ≤ length w → table_words ≤ length w
  unfolding table_words
  has-table-words h = h
