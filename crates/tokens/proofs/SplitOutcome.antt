-- What splitting finds, the first check of acceptance that fails by what is found, and what splitting does then:
-- refusals 1, 2, 9, 20 and 10 leave all as found.
use Rattle.task.specs.declared.Place.TheVariants as place
use Prim.Native.Nat.{ℕ}
use mathlib.Core.Path.{◌≡◌, refl, ◌∙◌, ap, ap₂, subst}
use mathlib.Core.Bool.{Bool, true, false, cond, ◌&&◌}
use mathlib.Core.List.{List, [], ◌∷◌}
use Rattle.std.specs.Prelude.{Option, None, Some, Result, Ok, Err}
use Rattle.task.specs.declared.Place.{Place}
use Rattle.words.specs.Lists.{over}
use Rattle.task.specs.declared.refusals.Refusal.{Refusal}
use Rattle.task.specs.Answers.{result, reason_number, Check, passes, refuses, Outcome, refuse_unless, in_order}
use Rattle.task.specs.Answers.{first_refusal, table_checks}
use Rattle.task.specs.Task.{Task}
use Rattle.task.specs.Table.{task_of, words_of, long_enough, is_table}
use Rattle.tokens.specs.Split.{circular, parted, too_large, split_as, settle, split, split_task}
use Rattle.tokens.specs.Split.{within_limits, split_check, split_outcome, Splitting}
use Rattle.tokens.specs.declared.measure.Sizes.{Sizes}
use Rattle.tokens.specs.Acceptance.{accepted_then, RefusedAs, AcceptedKept, AcceptanceTold}
use Rattle.tokens.proofs.Accepted.{circular_at, parted_at}
use Rattle.task.proofs.Answers.{as_found, check-refuses, first_passes, first-refuses, first-refused, passed-first}
use Rattle.task.proofs.Answers.{passed-table, same-refusal, refusal-stands}

-- ---- what splitting gives, by what is found of the orders, the pairs and the sizes
module _ (t : Task) where
  pub found-circular : {s : ℕ} → circular_at t ≡ Some s → split t ≡ circular s
  unfolding split settle
  found-circular e = ap (λ (o : Option ℕ). settle o (parted_at t) (split_task t)) e

  pub found-parted : {s : ℕ} → circular_at t ≡ None → parted_at t ≡ Some s → split t ≡ parted s
  unfolding split settle
  found-parted e f = ap₂ (λ (o p : Option ℕ). settle o p (split_task t)) e f

  settled : circular_at t ≡ None → parted_at t ≡ None →
      split t ≡ cond (within_limits (split_task t)) (split_as (split_task t)) too_large
  unfolding split settle
  settled e f = ap₂ (λ (o p : Option ℕ). settle o p (split_task t)) e f

  pub found-large : circular_at t ≡ None → parted_at t ≡ None → within_limits (split_task t) ≡ false → split t ≡ too_large
  found-large e f h = settled e f ∙ ap (λ (b : Bool). cond b (split_as (split_task t)) too_large) h

  pub found-split : circular_at t ≡ None → parted_at t ≡ None → within_limits (split_task t) ≡ true →
      split t ≡ split_as (split_task t)
  found-split e f h = settled e f ∙ ap (λ (b : Bool). cond b (split_as (split_task t)) too_large) h

-- ---- the checks of acceptance
module _ (w : List ℕ) where
  abbrev split_then : List Check → List Check
  split_then more = split_check (split (task_of w)) ∷ more

  abbrev table_then : List Check → List Check
  table_then more = refuse_unless (is_table w) 2 ∷ split_then more

  pub refused-table : {n : ℕ} {at : Place} → refuses n at ≡ first_refusal (table_checks w) → RefusedAs w n at
  refused-table h more = first-refused (table_checks w) (split_then more) h

  -- a table whose checks pass is long enough, and one
  pub passed-tests : passes ≡ first_refusal (table_checks w) → (long_enough w ≡ true) × (is_table w ≡ true)
  passed-tests h =
      ((passed-first (long_enough w) 1 (refuse_unless (is_table w) 2 ∷ []) h).0, passed-table w h)

  pub refused-short : long_enough w ≡ false → RefusedAs w 1 place.Nowhere
  refused-short h more = first-refuses 1 (table_then more) h

  module _ (long : long_enough w ≡ true) where
    pub refused-no-table : is_table w ≡ false → RefusedAs w 2 place.Nowhere
    refused-no-table h more = first_passes 1 (table_then more) long ∙ first-refuses 2 (split_then more) h

    module _ (table : is_table w ≡ true) where
      -- the split decides
      decided : {r : Splitting} → split (task_of w) ≡ r → (more : List Check) →
          first_refusal (accepted_then w more) ≡ first_refusal (split_check r ∷ more)
      decided e more =
          first_passes 1 (table_then more) long ∙ (first_passes 2 (split_then more) table ∙
          ap (λ (r : Splitting). first_refusal (split_check r ∷ more)) e)

      pub refused-nine : {s : ℕ} → split (task_of w) ≡ circular s → RefusedAs w 9 (place.Schema s)
      unfolding split_check first_refusal
      refused-nine e more = decided e more

      pub refused-twenty : {s : ℕ} → split (task_of w) ≡ parted s → RefusedAs w 20 (place.Schema s)
      unfolding split_check first_refusal
      refused-twenty e more = decided e more

      pub refused-ten : split (task_of w) ≡ too_large → RefusedAs w 10 place.Nowhere
      unfolding split_check first_refusal
      refused-ten e more = decided e more

      pub accepted-passes : {t' : Task} → split (task_of w) ≡ split_as t' →
          {Buffers : Type 0} (more : List Check) (found : Buffers) (done : Outcome Buffers) →
          in_order (accepted_then w more) found done ≡ in_order more found done
      unfolding split_check first_refusal
      accepted-passes e more found done = same-refusal (accepted_then w more) more found done (decided e more)

-- ---- what the answer tells
pub told-accepted : {w : List ℕ} {r : Result Sizes Refusal} {sizes : Sizes} {kept : List ℕ} → r ≡ Ok sizes →
    AcceptanceTold w r kept → AcceptedKept w sizes kept
unfolding AcceptanceTold
told-accepted {w} {r} {sizes} {kept} e h = subst (λ (r : Result Sizes Refusal). AcceptanceTold w r kept) e h

pub told-refused : (w kept : List ℕ) {r : Result Sizes Refusal} {refusal : Refusal} → r ≡ Err refusal →
    AcceptanceTold w r kept → RefusedAs w (reason_number refusal.reason) refusal.place
unfolding AcceptanceTold
told-refused w kept e h = subst (λ (r : Result Sizes Refusal). AcceptanceTold w r kept) e h

-- ---- the outcome of splitting
module _ (w out : List ℕ) where
  -- what is done where no check fails
  abbrev pub done : Outcome (List ℕ)
  done = record { told = result []; buffer = over (words_of (split_task (task_of w))) out }

  -- the table's length is told by the first check, together with that of the words lent for the split
  checked : {b : Bool} → long_enough w && long_enough out ≡ b →
      split_outcome w out ≡ in_order (refuse_unless b 1 ∷ table_then w []) out done
  unfolding split_outcome
  checked h = ap (λ (b : Bool). in_order (refuse_unless b 1 ∷ table_then w []) out done) h

  pub split-short : long_enough out ≡ false → split_outcome w out ≡ as_found 1 place.Nowhere out
  split-short h = checked (and-false (long_enough w) h) ∙ check-refuses 1 (table_then w []) out done refl
    where
      and-false : (a : Bool) {b : Bool} → b ≡ false → a && b ≡ false
      and-false true h = h
      and-false false h = refl

  module _ (long : long_enough out ≡ true) where
    begins : split_outcome w out ≡ in_order (accepted_then w []) out done
    begins = checked (and-true (long_enough w) long)
      where
        and-true : (a : Bool) {b : Bool} → b ≡ true → a && b ≡ a
        and-true true h = h
        and-true false h = refl

    pub split-refused : {n : ℕ} {at : Place} → RefusedAs w n at → split_outcome w out ≡ as_found n at out
    split-refused h = begins ∙ refusal-stands (accepted_then w []) out done (h [])

    pub split_done : long_enough w ≡ true → is_table w ≡ true → {t' : Task} → split (task_of w) ≡ split_as t' →
        split_outcome w out ≡ done
    unfolding in_order
    split_done h k e = begins ∙ accepted-passes w h k e [] out done
