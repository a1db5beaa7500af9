-- What `propose` writes where it answers a result: a table, of the task proposed, so that all that note 5 says of that
-- task holds of it; and splitting it never answers 9. A result has passed all checks, and no schema has too many parts.
use Prim.Native.Nat.{ℕ}
use mathlib.Core.Path.{◌≡◌, refl, sym, ◌∙◌, ap, subst}
use mathlib.Core.Bool.{Bool, true, false, ◌&&◌}
use mathlib.Core.List.{List, [], ◌∷◌}
use Rattle.std.specs.Prelude.{Option, None, Some}
use native.Mathlib.Omega.{arith}
use lib.ListN.{length}
use lib.Dec.{leb}
use Rattle.words.specs.Lists.{over}
use Rattle.words.proofs.Puts.{take-over}
use Rattle.task.specs.Limits.{table_words}
use Rattle.task.specs.Answers.{result, Outcome, Check, told_number, refuse_unless, in_order}
use Rattle.task.specs.Task.{Task}
use Rattle.task.specs.Table.{task_of, words_of, long_enough, is_table}
use Rattle.task.proofs.Answers.{left_by, check-passed}
use Rattle.task.proofs.Tables.{words-length, of-table}
use Rattle.task.proofs.TablesByIndex.{table_of}
use Rattle.tokens.specs.Split.{Splitting, circular, parted, too_large, split_as, split, split_task, split_check}
use Rattle.tokens.specs.Split.{split_outcome}
use Rattle.proposals.specs.Proposal.{proposed_task, too_many}
use Rattle.proposals.specs.Outcome.{Lent, scratch_words, most_width, settled, propose_outcome}
use Rattle.proposals.proofs.ProposedTask.{SameTask, same-task, never-circular, proposed-well-formed}
use Rattle.proposals.proofs.ProposeOutcome.{propose-settles, settled-done}

-- ---- the task that is written
-- words that begin with a well-formed task's are its table
proposal-table : (width : ℕ) (table proposed : List ℕ) → is_table table ≡ true →
    too_many (proposed_task width (task_of table)) ≡ None →
    let t = proposed_task width (task_of table) in
    (is_table (over (words_of t) proposed) ≡ true) × (task_of (over (words_of t) proposed) ≡ t)
proposal-table width table proposed is few =
    let t = proposed_task width (task_of table) in
    let fits = proposed-well-formed width (task_of table) (of-table table is).0 few in
    table_of (over (words_of t) proposed) t fits (take-over (words_of t) proposed table_words (words-length t fits))

-- where splitting answers 9 it has found a circular schema
nine-circular : (w out : List ℕ) → told_number (split_outcome w out).told ≡ 9 →
    (k : ℕ) × (split (task_of w) ≡ circular k)
unfolding split_outcome in_order refuse_unless split_check
nine-circular w out h = go (long_enough w && long_enough out) (is_table w) (split (task_of w)) refl h
  where
    done : Outcome (List ℕ)
    done = record { told = result []; buffer = over (words_of (split_task (task_of w))) out }

    go : (long is : Bool) (r : Splitting) → split (task_of w) ≡ r →
        told_number (in_order (refuse_unless long 1 ∷ refuse_unless is 2 ∷ split_check r ∷ []) out done).told ≡ 9 →
        (k : ℕ) × (split (task_of w) ≡ circular k)
    go false is r e h = absurd (omega arith)
    go true false r e h = absurd (omega arith)
    go true true (circular k) e h = (k, e)
    go true true (parted k) e h = absurd (omega arith)
    go true true too_large e h = absurd (omega arith)
    go true true (split_as t) e h = absurd (omega arith)

-- ---- what a result leaves in the second table
pub record Writes (width : ℕ) (table written : List ℕ) : Type 0 where
  pub lent : is_table table ≡ true
  -- "write its table with fresh parts to a second one"
  pub is-table : is_table written ≡ true
  pub task : task_of written ≡ proposed_task width (task_of table)
  pub same : SameTask width (task_of table)
  -- "The result is accepted by the order rule"
  pub never-nine : (out : List ℕ) → told_number (split_outcome written out).told ≡ 9 → ⊥

module _ (width : ℕ) (table proposed scratch : List ℕ) where
  abbrev t : Task
  t = proposed_task width (task_of table)

  abbrev lent : Lent
  lent = record { proposed = proposed; scratch = scratch }

  abbrev done : Outcome Lent
  done = settled (too_many t) t lent

  abbrev fits : Bool
  fits = leb width most_width && leb scratch_words (length scratch)

  record Passed : Type 0 where
    long : long_enough table && long_enough proposed ≡ true
    is : is_table table ≡ true
    fit : fits ≡ true
    few : too_many t ≡ None

  result-passed : (propose_outcome table width proposed scratch).told ≡ result [] → Passed
  unfolding propose_outcome in_order settled
  result-passed h =
      let long = long_enough table && long_enough proposed in
      let last : List Check = refuse_unless fits 22 ∷ [] in
      let (a, i) = check-passed long 1 (refuse_unless (is_table table) 2 ∷ last) lent done [] h in
      let (b, j) = check-passed (is_table table) 2 last lent done [] i in
      let (c, k) = check-passed fits 22 [] lent done [] j in
      record { long = a; is = b; fit = c; few = none-many (too_many t) k }
    where
      none-many : (o : Option ℕ) → (settled o t lent).told ≡ result [] → o ≡ None
      none-many None k = refl
      none-many (Some s) k = absurd (let z : told_number (settled (Some s) t lent).told ≡ 0 = ap told_number k in
          omega arith)

  pub propose-writes : (propose_outcome table width proposed scratch).told ≡ result [] →
      Writes width table (propose_outcome table width proposed scratch).buffer.proposed
  propose-writes h =
      let p = result-passed h in
      let words = over (words_of t) proposed in
      let (is, task) = proposal-table width table proposed p.is p.few in
      let settles = propose-settles table width proposed scratch p.long p.is p.fit in
      subst (Writes width table)
      (sym (ap (λ (b : Lent). b.proposed) (left_by (settles ∙ settled-done t lent p.few))))
      (record {
        lent = p.is;
        is-table = is;
        task = task;
        same = same-task width (task_of table);
        never-nine = λ out n.
            let (k, e) = nine-circular words out n in
            never-circular width (task_of table) k (sym (ap split task) ∙ e);
      })
