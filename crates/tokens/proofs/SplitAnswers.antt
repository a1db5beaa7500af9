-- What splitting answers: with a result it was lent a table, and what it wrote is a table, of the split. By the checks
-- that a result has passed, and since the split of a well-formed task is well formed.
use Prim.Native.Nat.{ℕ}
use mathlib.Core.Path.{◌≡◌, refl, sym, ◌∙◌, ap, subst}
use mathlib.Core.Bool.{Bool, true, false, ◌&&◌}
use mathlib.Core.List.{List, [], ◌∷◌}
use native.Mathlib.Omega.{arith}
use lib.ListN.{length}
use borrow.Author.Tests.{le-leb}
use Rattle.words.specs.Lists.{over}
use Rattle.task.specs.Limits.{table_words}
use Rattle.task.specs.Answers.{told_number, result, Outcome, refuse_unless, in_order}
use Rattle.task.specs.Task.{Task, well_formed}
use Rattle.task.specs.Table.{task_of, words_of, long_enough, is_table}
use Rattle.tokens.specs.Split.{split_task, Splitting, circular, parted, too_large, split_as, split_check, split}
use Rattle.tokens.specs.Split.{split_outcome}
use Rattle.words.proofs.Lists.{and_left}
use Rattle.words.proofs.Puts.{take-over}
use Rattle.task.proofs.Tables.{words-length, of-table}
use Rattle.task.proofs.TablesByIndex.{table_of, table-long}
use Rattle.tokens.proofs.Accepted.{split-is}
use Rattle.tokens.proofs.WellSplit.{split-well}

-- a table, and the words of its accepted split
pub record AcceptedSplit (table words : List ℕ) : Type 0 where
  pub long : long_enough table ≡ true
  pub is-table : is_table table ≡ true
  pub well : well_formed (task_of table) ≡ true
  pub accepted : split (task_of table) ≡ split_as (task_of words)
  pub split-long : long_enough words ≡ true
  pub split-table : is_table words ≡ true
  pub split-well-formed : well_formed (task_of words) ≡ true

module _ (table out : List ℕ) where
  abbrev t : Task
  t = task_of table

  abbrev given : Outcome (List ℕ)
  given = record { told = result []; buffer = over (words_of (split_task t)) out }

  abbrev checked : Bool → Bool → Splitting → Outcome (List ℕ)
  checked long is r = in_order (refuse_unless long 1 ∷ refuse_unless is 2 ∷ split_check r ∷ []) out given

  -- a result has passed all checks
  record Passed : Type 0 where
    pub long : long_enough table && long_enough out ≡ true
    pub is-table : is_table table ≡ true
    pub task : Task
    pub accepted : split t ≡ split_as task
    pub outcome : split_outcome table out ≡ given

  passed : told_number (split_outcome table out).told ≡ 0 → Passed
  unfolding split_outcome in_order refuse_unless split_check
  passed h = go (long_enough table && long_enough out) refl (is_table table) refl (split t) refl
    where
      reached : (b : Bool) → long_enough table && long_enough out ≡ b → (c : Bool) → is_table table ≡ c →
          (r : Splitting) → split t ≡ r → split_outcome table out ≡ checked b c r
      reached b p c q r s = ap (λ b. checked b (is_table table) (split t)) p ∙ ap (λ c. checked b c (split t)) q ∙
          ap (checked b c) s

      go : (b : Bool) → long_enough table && long_enough out ≡ b → (c : Bool) → is_table table ≡ c →
          (r : Splitting) → split t ≡ r → Passed
      go false p c q r s =
          absurd (omega (arith, h, ap (λ o. told_number o.told) (reached false p c q r s)))
      go true p false q r s =
          absurd (omega (arith, h, ap (λ o. told_number o.told) (reached true p false q r s)))
      go true p true q (circular n) s =
          absurd (omega (arith, h, ap (λ o. told_number o.told) (reached true p true q (circular n) s)))
      go true p true q (parted n) s =
          absurd (omega (arith, h, ap (λ o. told_number o.told) (reached true p true q (parted n) s)))
      go true p true q too_large s =
          absurd (omega (arith, h, ap (λ o. told_number o.told) (reached true p true q too_large s)))
      go true p true q (split_as u) s =
          record { long = p; is-table = q; task = u; accepted = s; outcome = reached true p true q (split_as u) s }

  -- what splitting wrote is a table, of the split
  pub accepted-split : told_number (split_outcome table out).told ≡ 0 →
      AcceptedSplit table (split_outcome table out).buffer
  unfolding long_enough
  accepted-split h = subst (AcceptedSplit table) (sym (ap (λ o. o.buffer) p.outcome)) (record {
    long = and_left (long_enough table) (long_enough out) p.long;
    is-table = p.is-table;
    well = well;
    accepted = accepted ∙ ap split_as (sym tabled.1);
    split-long = le-leb table_words (length written) (table-long written tabled.0);
    split-table = tabled.0;
    split-well-formed = ap well_formed tabled.1 ∙ well';
  })
    where
      p : Passed
      p = passed h

      written : List ℕ
      written = over (words_of (split_task t)) out

      well : well_formed t ≡ true
      well = (of-table table p.is-table).0

      accepted : split t ≡ split_as (split_task t)
      accepted = p.accepted ∙ ap split_as (split-is t p.task p.accepted)

      well' : well_formed (split_task t) ≡ true
      well' = split-well t (split_task t) well accepted

      tabled : (is_table written ≡ true) × (task_of written ≡ split_task t)
      tabled = table_of written (split_task t) well'
          (take-over (words_of (split_task t)) out table_words (words-length (split_task t) well'))
