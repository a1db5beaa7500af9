-- What code reads out of a table: every word of an atom lies in it (`table-roomy`), and so do the counts, the arities
-- and the parameter counts, which are those of its task.
use Prim.Native.Nat.{ℕ, ◌+◌, ◌≤◌, ◌<◌}
use mathlib.Core.Path.{◌≡◌}
use mathlib.Core.Bool.{true}
use mathlib.Core.List.{List}
use native.Mathlib.Omega.{arith}
use lib.ListN.{length, get_or}
use Rattle.task.specs.Layout.{params_base, arity_in, params_in}
use Rattle.task.specs.Run.{param_count}
use Rattle.task.specs.Table.{task_of, is_table}
use Rattle.task.specs.Limits.{head_words}
use Rattle.task.specs.WordTests.{Roomy}
use Rattle.task.proofs.Tables.{table_words-is}
use Rattle.task.proofs.TablesByIndex.{table-frame, arities-word, schemas-word, arity-at, params_at}
use Rattle.task.proofs.TablesPass.{table-words}

module _ (w : List ℕ) (h : is_table w ≡ true) where
  pub table-roomy : Roomy w
  table-roomy =
      let f = table-words w h in
      let n = table_words-is in
      let l = f.long in
      let i = f.inside in
      record { inside = omega arith; few = omega arith; arities = f.arity }

  pub counts-inside : head_words ≤ length w
  counts-inside = let l = table-roomy.inside in omega arith

  pub arity-word : (p : ℕ) → p < length (task_of w).arities → arity_in w p ≡ get_or (task_of w).arities p 0
  arity-word p l = let e = arities-word w (table-frame w h) in let q = arity-at w (table-frame w h) p (omega arith) in
      omega arith

  pub params-inside : (s : ℕ) → s < length (task_of w).schemas → params_base w + s < length w
  params-inside s l = let e = schemas-word w (table-frame w h) in let a = table-roomy.inside in omega arith

  pub params-word : (s : ℕ) → s < length (task_of w).schemas → params_in w s ≡ param_count (task_of w) s
  unfolding param_count
  params-word s l = let e = schemas-word w (table-frame w h) in let q =
      params_at w (table-frame w h) s (omega arith) in omega arith
