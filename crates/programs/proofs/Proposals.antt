-- What `propose` answers, as the program uses it: the task proposed lies as a table, whose text is printed, and a
-- refusal is the one that is printed.
use Rattle.task.specs.declared.Place.TheVariants as place
use Prim.Native.Nat.{ℕ, ◌≤◌}
use mathlib.Core.Path.{◌≡◌, refl, sym, ◌∙◌, ap, ap₂, subst}
use mathlib.Core.Bool.{Bool, true, false, cond, ◌&&◌}
use mathlib.Core.List.{List, []}
use Rattle.std.specs.Prelude.{Option, None, Some}
use native.Mathlib.Omega.{arith}
use lib.ListN.{length, replicate}
use lib.Dec.{leb}
use borrow.Author.Tests.{le-leb}
use Rattle.task.specs.declared.Place.{Place}
use Rattle.words.proofs.Lists.{and_both}
use Rattle.task.specs.Limits.{table_words}
use Rattle.task.specs.Answers.{place_number, result, refused, Outcome}
use Rattle.task.specs.Task.{Task}
use Rattle.task.specs.Table.{task_of, long_enough, is_table}
use Rattle.task.proofs.Answers.{told-by}
use Rattle.task.proofs.TablesByIndex.{table-long}
use Rattle.text.specs.Text.{write}
use Rattle.proposals.specs.Proposal.{proposed_task, too_many}
use Rattle.proposals.specs.Outcome.{Lent, scratch_words, most_width, settled, propose_outcome}
use Rattle.proposals.proofs.ProposeOutcome.{settled-many, settled-done, propose-unfit, propose-settles}
use Rattle.proposals.proofs.WrittenProposal.{Writes, propose-writes}
use Rattle.programs.specs.Programs.{refusal, print_settled, print_proposal}
use Rattle.programs.proofs.Answered.{zeros-long}

-- a scratch of zeros, as the program lends it
pub scratch-zeros : scratch_words ≤ length {A = ℕ} (replicate 128 0)
unfolding scratch_words
scratch-zeros = zeros-long 128

-- words of a table that are printed as the proposal
pub record Proposal (table : List ℕ) (width : ℕ) (words : List ℕ) : Type 0 where
  pub is-table : is_table words ≡ true
  pub printed : write (task_of words) ≡ print_proposal width (task_of table)

module _ (table : List ℕ) (width : ℕ) (out scratch : List ℕ) (is-table : is_table table ≡ true)
    (out-long : table_words ≤ length out) (room : scratch_words ≤ length scratch) where
  abbrev t : Task
  t = proposed_task width (task_of table)

  abbrev lent : Lent
  lent = record { proposed = out; scratch = scratch }

  abbrev outcome : Outcome Lent
  outcome = propose_outcome table width out scratch

  long : long_enough table && long_enough out ≡ true
  unfolding long_enough
  long =
      and_both _ _ (le-leb table_words (length table) (table-long table is-table))
      (le-leb table_words (length out) out-long)

  -- the scratch is long enough, so that 22 is the width's alone
  narrow : (w : Bool) → leb width most_width ≡ w → leb width most_width && leb scratch_words (length scratch) ≡ w
  narrow true e = and_both _ _ e (le-leb scratch_words (length scratch) room)
  narrow false e = ap (λ (b : Bool). b && leb scratch_words (length scratch)) e

  settles : leb width most_width ≡ true → outcome ≡ settled (too_many t) t lent
  settles e = propose-settles table width out scratch long is-table (narrow true e)

  -- "22 .. for a width above 12", "23 when a schema ends with more than 16 parts": a refusal is printed with its schema
  pub proposal-refused : {k : ℕ} {at : Place} → refused k at [] ≡ outcome.told →
      refusal k (place_number at) ≡ print_proposal width (task_of table)
  unfolding print_proposal print_settled
  proposal-refused {k} {at} h = go (leb width most_width) refl (too_many t) refl
    where
      go : (w : Bool) → leb width most_width ≡ w → (many : Option ℕ) → too_many t ≡ many →
          refusal k (place_number at) ≡ cond w (print_settled many t) (refusal 22 0)
      go false e many f =
          let told = h ∙ told-by (propose-unfit table width out scratch long is-table (narrow false e)) in
          let number : k ≡ 22 = cc in
          let nowhere : at ≡ place.Nowhere = cc in
          ap₂ refusal number (ap place_number nowhere)
      go true e (Some s) f =
          let told = h ∙ told-by (settles e ∙ settled-many t lent f) in
          let number : k ≡ 23 = cc in
          let schema : at ≡ place.Schema s = cc in
          ap₂ refusal number (ap place_number schema)
      go true e None f =
          let told = h ∙ told-by (settles e ∙ settled-done t lent f) in
          absurd (let z : ◌≡◌ {A = ℕ} 0 1 = cc in omega arith)

  -- a result is the table of the task proposed, which is printed
  pub proposal-given : result [] ≡ outcome.told → {words : List ℕ} → words ≡ outcome.buffer.proposed →
      Proposal table width words
  unfolding print_proposal print_settled
  proposal-given h {words} g =
      let w = subst (Writes width table) (sym g) (propose-writes width table out scratch (sym h)) in
      record {
        is-table = w.is-table;
        printed = ap write w.task ∙ text (leb width most_width) refl (too_many t) refl;
      }
    where
      text : (w : Bool) → leb width most_width ≡ w → (many : Option ℕ) → too_many t ≡ many →
          write t ≡ cond w (print_settled many t) (refusal 22 0)
      text false e many f =
          let told = h ∙ told-by (propose-unfit table width out scratch long is-table (narrow false e)) in
          absurd (let z : ◌≡◌ {A = ℕ} 0 1 = cc in omega arith)
      text true e (Some s) f =
          let told = h ∙ told-by (settles e ∙ settled-many t lent f) in
          absurd (let z : ◌≡◌ {A = ℕ} 0 1 = cc in omega arith)
      text true e None f = refl
