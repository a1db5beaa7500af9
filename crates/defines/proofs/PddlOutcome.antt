-- What `write_pddl` does by the first check that fails: refusals 1, 2 and 18 leave all as found, and behind them the
-- text lies over what was lent.
use Rattle.task.specs.declared.Place.TheVariants as place
use Prim.Native.Nat.{ℕ}
use mathlib.Core.Path.{◌≡◌, refl, ◌∙◌}
use mathlib.Core.Bool.{true, false}
use mathlib.Core.List.{List, [], ◌∷◌, ◌++◌}
use lib.ListN.{length}
use lib.Dec.{leb}
use borrow.Author.Tests.{le-leb}
use Rattle.task.specs.declared.Place.{Place}
use Rattle.task.specs.Limits.{table_words}
use Rattle.task.specs.Answers.{Check, refuses, Outcome, refuse_unless, first_refusal, table_checks, in_order}
use Rattle.task.specs.Table.{task_of, long_enough, is_table}
use Rattle.task.proofs.Answers.{as_found, check-passes, check-refuses, checks-refuse}
use Rattle.task.proofs.TablesByIndex.{table-long}
use Rattle.text.proofs.Outcomes.{written_over}
use Rattle.defines.specs.Pddl.{pddl}
use Rattle.defines.specs.Outcome.{pddl_outcome}

module _ (w text : List ℕ) where
  abbrev written : List ℕ
  written = pddl (task_of w)

  abbrev done : Outcome (List ℕ)
  done = written_over written text

  abbrev eighteen : Check
  eighteen = refuse_unless (leb (length written) (length text)) 18

  outcome-is : pddl_outcome w text ≡ in_order (table_checks w ++ (eighteen ∷ [])) text done
  unfolding pddl_outcome
  outcome-is = refl

  -- a table too short, or no table
  pub pddl-refused : {n : ℕ} {at : Place} → refuses n at ≡ first_refusal (table_checks w) →
      pddl_outcome w text ≡ as_found n at text
  pddl-refused h = outcome-is ∙ checks-refuse (table_checks w) (eighteen ∷ []) text done h

  -- a table, which is long enough: room alone decides
  module _ (table : is_table w ≡ true) where
    when-table : pddl_outcome w text ≡ in_order (eighteen ∷ []) text done
    unfolding long_enough
    when-table =
        outcome-is ∙
        (check-passes 1 (refuse_unless (is_table w) 2 ∷ eighteen ∷ []) text done
        (le-leb table_words (length w) (table-long w table)) ∙
        check-passes 2 (eighteen ∷ []) text done table)

    pub pddl-too-long : leb (length written) (length text) ≡ false → pddl_outcome w text ≡ as_found 18 place.Nowhere text
    pddl-too-long h = when-table ∙ check-refuses 18 [] text done h

    pub pddl-written : leb (length written) (length text) ≡ true → pddl_outcome w text ≡ done
    unfolding in_order
    pddl-written h = when-table ∙ check-passes 18 [] text done h
