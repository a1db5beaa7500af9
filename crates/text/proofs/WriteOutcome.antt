-- What writing does by the first check that fails: refusals 1 and 2 leave all as found.
use Rattle.task.specs.declared.Place.{Place}
use Prim.Native.Nat.{ℕ}
use mathlib.Core.Path.{◌≡◌, refl, ◌∙◌}
use mathlib.Core.List.{List, [], ◌∷◌, ◌++◌}
use lib.ListN.{length}
use lib.Dec.{leb}
use Rattle.words.specs.Lists.{over}
use Rattle.task.specs.Answers.{result, Check, refuses, Outcome, refuse_unless, first_refusal, table_checks, in_order}
use Rattle.task.specs.Table.{task_of}
use Rattle.task.proofs.Answers.{as_found, checks-refuse}
use Rattle.text.specs.Text.{write}
use Rattle.text.specs.Outcomes.{write_outcome}

module _ (w text : List ℕ) where
  abbrev written : List ℕ
  written = write (task_of w)

  abbrev done : Outcome (List ℕ)
  done = record { told = result (length written ∷ []); buffer = over written text }

  abbrev room_check : List Check
  room_check = refuse_unless (leb (length written) (length text)) 11 ∷ []

  outcome-is : write_outcome w text ≡ in_order (table_checks w ++ room_check) text done
  unfolding write_outcome
  outcome-is = refl

  pub write-refused : {n : ℕ} {at : Place} → refuses n at ≡ first_refusal (table_checks w) →
      write_outcome w text ≡ as_found n at text
  write-refused h = outcome-is ∙ checks-refuse (table_checks w) room_check text done h
