-- What `propose` does, case by case: 1, 2 and 22 leave all as found, 23 clears the scratch, and a result clears it too
-- and has the table of the task proposed in the second table.
use Rattle.task.specs.declared.Place.TheVariants as place
use Prim.Native.Nat.{ℕ, ◌≤◌, ◌<◌}
use mathlib.Core.Path.{◌≡◌, ◌∙◌, ap}
use mathlib.Core.Bool.{Bool, true, false, ◌&&◌}
use mathlib.Core.List.{List, [], ◌∷◌}
use Rattle.std.specs.Prelude.{Option, None, Some}
use mathlib.Core.Logic.{◌⊎◌, inl, inr, ⊎_elim}
use lib.ListN.{length}
use lib.Dec.{leb}
use borrow.Author.Tests.{le-leb, lt-leb}
use Rattle.words.specs.Lists.{over}
use Rattle.words.proofs.Lists.{and_both}
use Rattle.words.proofs.Words.{and-false}
use Rattle.task.specs.Limits.{table_length}
use Rattle.task.specs.Answers.{Told, result, refused, Outcome, Check, refuse_unless, in_order}
use Rattle.task.specs.Task.{Task}
use Rattle.task.specs.Table.{task_of, words_of, long_enough, is_table}
use Rattle.task.proofs.Answers.{as_found, check-passes, check-refuses, both}
use Rattle.task.proofs.LongEnough.{too_short, long-enough}
use Rattle.proposals.specs.Proposal.{proposed_task, too_many}
use Rattle.proposals.specs.Outcome.{Lent, scratch_words, most_width, cleared, settled, propose_outcome}

-- ---- what is settled once the parts are found
module _ (t : Task) (lent : Lent) where
  -- "23 when a schema ends with more than 16 parts, with the first such schema"
  pub settled-many : {k : ℕ} → too_many t ≡ Some k →
      settled (too_many t) t lent ≡ record {
        told = refused 23 (place.Schema k) [];
        buffer = record { proposed = lent.proposed; scratch = cleared lent.scratch };
      }
  unfolding settled
  settled-many e = ap (λ (o : Option ℕ). settled o t lent) e

  -- "write its table with fresh parts to a second one"
  pub settled-done : too_many t ≡ None →
      settled (too_many t) t lent ≡ record {
        told = result [];
        buffer = record { proposed = over (words_of t) lent.proposed; scratch = cleared lent.scratch };
      }
  unfolding settled
  settled-done e = ap (λ (o : Option ℕ). settled o t lent) e

  -- an answer and the words left, as code finds the parts and clears the scratch
  abbrev Settled : Told → List ℕ → List ℕ → Type 0
  Settled told proposed scratch =
      (told ≡ (settled (too_many t) t lent).told) ×
      (◌≡◌ {A = Lent} (record { proposed = proposed; scratch = scratch }) (settled (too_many t) t lent).buffer)

  module _ {scratch : List ℕ} (clear : scratch ≡ cleared lent.scratch) where
    pub many-settles : {k : ℕ} → too_many t ≡ Some k → Settled (refused 23 (place.Schema k) []) lent.proposed scratch
    many-settles e =
        let (same, left) = both (settled-many e) in
        (same, (λ j. record { proposed = lent.proposed; scratch = clear j }) ∙ left)

    pub none-settles : too_many t ≡ None → {proposed : List ℕ} → proposed ≡ over (words_of t) lent.proposed →
        Settled (result []) proposed scratch
    none-settles e written =
        let (same, left) = both (settled-done e) in
        (same, (λ j. record { proposed = written j; scratch = clear j }) ∙ left)

-- ---- the cases
module _ (table : List ℕ) (width : ℕ) (proposed scratch : List ℕ) where
  abbrev lent : Lent
  lent = record { proposed = proposed; scratch = scratch }

  abbrev t : Task
  t = proposed_task width (task_of table)

  abbrev outcome : Outcome Lent
  outcome = propose_outcome table width proposed scratch

  abbrev done : Outcome Lent
  done = settled (too_many t) t lent

  abbrev last : List Check
  last = refuse_unless (leb width most_width && leb scratch_words (length scratch)) 22 ∷ []

  abbrev then : List Check
  then = refuse_unless (is_table table) 2 ∷ last

  pub propose-short : long_enough table && long_enough proposed ≡ false → outcome ≡ as_found 1 place.Nowhere lent
  unfolding propose_outcome
  propose-short h = check-refuses 1 then lent done h

  module _ (long : long_enough table && long_enough proposed ≡ true) where
    pub propose-no-table : is_table table ≡ false → outcome ≡ as_found 2 place.Nowhere lent
    unfolding propose_outcome
    propose-no-table h = check-passes 1 then lent done long ∙ check-refuses 2 last lent done h

    module _ (is : is_table table ≡ true) where
      -- "22, after 2, for a width above 12 or a shorter scratch"
      pub propose-unfit : leb width most_width && leb scratch_words (length scratch) ≡ false →
          outcome ≡ as_found 22 place.Nowhere lent
      unfolding propose_outcome
      propose-unfit h =
          check-passes 1 then lent done long ∙
          (check-passes 2 last lent done is ∙ check-refuses 22 [] lent done h)

      pub propose-settles : leb width most_width && leb scratch_words (length scratch) ≡ true → outcome ≡ done
      unfolding propose_outcome in_order
      propose-settles h =
          check-passes 1 then lent done long ∙
          (check-passes 2 last lent done is ∙ check-passes 22 [] lent done h)

-- ---- the tests as code makes them
fails : (a b : Bool) → (a ≡ false) ⊎ (b ≡ false) → a && b ≡ false
fails a b (inl e) = ap (λ (a : Bool). a && b) e
fails a b (inr e) = ap (λ (b : Bool). a && b) e ∙ and-false a

module _ (table proposed : List ℕ) where
  pub tables-short : (length table < table_length) ⊎ (length proposed < table_length) →
      long_enough table && long_enough proposed ≡ false
  tables-short h =
      fails (long_enough table) (long_enough proposed)
      (⊎_elim (λ l. inl (too_short table l)) (λ l. inr (too_short proposed l)) h)

  pub tables-long : table_length ≤ length table → table_length ≤ length proposed →
      long_enough table && long_enough proposed ≡ true
  tables-long a b =
      and_both (long_enough table) (long_enough proposed) (long-enough table a) (long-enough proposed b)

module _ (width : ℕ) (scratch : List ℕ) where
  pub lent-unfit : (most_width < width) ⊎ (length scratch < scratch_words) →
      leb width most_width && leb scratch_words (length scratch) ≡ false
  lent-unfit h =
      fails (leb width most_width) (leb scratch_words (length scratch))
      (⊎_elim (λ l. inl (lt-leb width most_width l)) (λ l. inr (lt-leb scratch_words (length scratch) l)) h)

  pub lent_fits : width ≤ most_width → scratch_words ≤ length scratch →
      leb width most_width && leb scratch_words (length scratch) ≡ true
  lent_fits a b =
      and_both (leb width most_width) (leb scratch_words (length scratch)) (le-leb width most_width a)
      (le-leb scratch_words (length scratch) b)
