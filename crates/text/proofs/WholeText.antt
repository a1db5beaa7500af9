-- The whole text of a table, as code writes it: its parts, that a machine counts them, that what they read lies in the
-- table, and what `write` does with a table for which there is room, or none.
use Prim.Native.Nat.{ℕ, ◌+◌, ◌*◌, ◌^◌, ◌<◌}
use mathlib.Core.Path.{◌≡◌, refl, sym, ◌∙◌, ap, subst}
use mathlib.Core.Bool.{true, false}
use mathlib.Core.List.{List, [], ◌∷◌, ◌++◌}
use native.Mathlib.Omega.{arith}
use lib.ListN.{length, length-append}
use lib.Dec.{leb}
use borrow.Author.Tests.{le-leb}
use Rattle.task.specs.declared.Place.TheVariants as place
use Rattle.words.specs.Lists.{over}
use Rattle.task.specs.Layout.{head_in, facts_base, atom_base}
use Rattle.task.specs.Limits.{table_words, head_words, atom_size}
use Rattle.task.specs.Answers.{result, refused, refuse_unless, in_order}
use Rattle.task.specs.Table.{task_of, long_enough, is_table}
use Rattle.task.proofs.Tables.{of-table}
use Rattle.text.specs.Lines.{digits, commaed, line}
use Rattle.text.specs.Text.{end_line, write_line, write}
use Rattle.text.specs.Outcomes.{write_outcome}
use Rattle.text.specs.TableLines.{spaced, AtomInside, atoms_text, head_text, schemas_text, fact_count, facts_text}
use Rattle.text.specs.TableLines.{longest_text}
use Rattle.text.proofs.TableAtoms.{each-inside}
use Rattle.text.proofs.TableText.{facts-lines, write-table}
use Rattle.task.proofs.TableReads.{table-roomy}
use Rattle.task.proofs.TablesByIndex.{table-long}
use Rattle.text.proofs.LongestText.{text-most}

-- ---- the head
abbrev pub arity_bytes : List ℕ → List ℕ
arity_bytes w = commaed (spaced w head_words 1 (head_in w).predicates)

abbrev pub task_bytes : List ℕ
task_bytes = 116 ∷ 97 ∷ 115 ∷ 107 ∷ 61 ∷ 49 ∷ 10 ∷ []

pub head-parts : (w : List ℕ) →
    head_text w ≡ task_bytes ++ (line "objects" (digits (head_in w).objects) ++ line "arity" (arity_bytes w))
unfolding head_text
head-parts w = refl

pub arities-inside : (w : List ℕ) → is_table w ≡ true → (k : ℕ) → k < (head_in w).predicates → head_words + 1 * k < length w
arities-inside w table k h = let c = (table-roomy w table).inside in omega arith

-- ---- the whole
abbrev pub end_bytes : List ℕ
end_bytes = 101 ∷ 110 ∷ 100 ∷ 61 ∷ 49 ∷ 10 ∷ []

end_is : write_line (end_line 1) ≡ end_bytes
unfolding write_line
end_is = refl

pub write-by-words : (w : List ℕ) → write (task_of w) ≡ head_text w ++ (schemas_text w ++ (facts_text w ++ end_bytes))
write-by-words w = write-table w ∙ ap (λ (x : List ℕ). head_text w ++ (schemas_text w ++ (facts_text w ++ x))) end_is

module _ (w : List ℕ) (table : is_table w ≡ true) where
  -- a machine counts the whole, and so each part
  pub write-fits : length (write (task_of w)) < 2 ^ 64
  unfolding longest_text
  write-fits = let m = text-most (task_of w) (of-table w table).0 in omega arith

  pub facts-fit : length (facts_text w) < 2 ^ 64
  facts-fit =
      let whole = ap length (write-by-words w) in
      let fits = write-fits in
      let h = length-append (head_text w) (schemas_text w ++ (facts_text w ++ end_bytes)) in
      let s = length-append (schemas_text w) (facts_text w ++ end_bytes) in
      let a = length-append (facts_text w) end_bytes in
      omega arith

  pub facts-atoms : atoms_text w (facts_base w) (fact_count w) ≡ facts_text w
  unfolding fact_count atom_base
  facts-atoms = sym (facts-lines w table)

  pub facts-inside : (k : ℕ) → k < fact_count w → AtomInside w (facts_base w + atom_size * k)
  unfolding fact_count atom_base
  facts-inside k l =
      let q : atom_base w ((head_in w).schema_atoms + k) ≡ facts_base w + atom_size * k = omega arith in
      subst (AtomInside w) q (each-inside w table ((head_in w).schema_atoms + k) (omega arith))

-- ---- what `write` does with a table
long-enough : (w : List ℕ) → is_table w ≡ true → long_enough w ≡ true
unfolding long_enough
long-enough w table = le-leb table_words (length w) (table-long w table)

module _ (w text : List ℕ) (table : is_table w ≡ true) where
  abbrev written : List ℕ
  written = write (task_of w)

  pub outcome-room : leb (length written) (length text) ≡ true →
      write_outcome w text ≡ record { told = result (length written ∷ []); buffer = over written text }
  unfolding write_outcome in_order refuse_unless
  outcome-room h = rw (long-enough w table, table, h) refl

  pub outcome-none : leb (length written) (length text) ≡ false →
      write_outcome w text ≡ record { told = refused 11 place.Nowhere []; buffer = text }
  unfolding write_outcome in_order refuse_unless
  outcome-none h = rw (long-enough w table, table, h) refl
