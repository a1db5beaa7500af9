-- "No two tables that differ in anything but their partitions give the same text", word for word, and the text does not
-- depend on the part words: a table with 0 for its part words is the table of its task without partitions, so tables
-- agree in the other words just where their tasks agree in all but their partitions.
use Prim.Native.Nat.{ℕ, ◌+◌, ◌*◌}
use mathlib.Core.Path.{◌≡◌, sym, ◌∙◌, ap, ap₂}
use mathlib.Core.Bool.{true}
use mathlib.Core.List.{List, ◌++◌, map}
use native.Mathlib.Omega.{arith}
use lib.ListN.{length, get_or, take, length-append, length-map}
use lib.Seq.{get_or-take, length-take-le}
use Rattle.task.specs.Limits.{table_words, head_words, pair_size}
use Rattle.task.specs.Layout.{Head, head_in, atom_base}
use Rattle.task.specs.Task.{Schema, Task}
use Rattle.task.specs.Table.{pair_words, pairs_from, head_of, task_of, words_of, is_table}
use Rattle.task.proofs.SchemaRows.{length-rows_from}
use Rattle.task.proofs.PairsStand.{pairs-even}
use Rattle.task.proofs.Tables.{head-is, head-stands, words-tabled, task-is, table_words-is, of-table}
use Rattle.task.proofs.TablesByIndex.{table-frame, table-long, head-word}
use Rattle.defines.specs.Pddl.{pddl}
use Rattle.defines.specs.Parts.{without_parts, PartWord, SameButParts}
use Rattle.defines.proofs.PartsCleared.{Other, clear, clear-other, clear-same, before, words-cleared}
use Rattle.defines.proofs.PartsCleared.{head-without, lengths-without}
use Rattle.defines.proofs.TasksTold.{pddl-tells, same-pddl}

-- ---- a table with its part words cleared
-- the task of a table without its partitions
abbrev bare : List ℕ → Task
bare w = without_parts (task_of w)

-- where the first part word is, by the counts
abbrev first_part : Head → ℕ
first_part h = head_words + h.predicates + h.schemas + pair_size * h.pairs + 3

abbrev cleared : Head → List ℕ → List ℕ
cleared h w = clear h.schema_atoms (first_part h) (take table_words w)

module _ (w : List ℕ) (h : is_table w ≡ true) where
  abbrev t : Task
  t = task_of w

  before-long : length (before t) + 3 ≡ first_part (head_of t)
  before-long =
      let ps : List ℕ = map (λ (s : Schema). s.params) t.schemas in
      let qs : List ℕ = pairs_from 0 t.schemas in
      let e = length-map t.schemas (λ (s : Schema). s.params) in
      let p = length-rows_from pair_words (λ s. s.pairs) pair_size 0 t.schemas (pairs-even t.schemas) in
      let r = length-append ps qs in
      omega (arith, length-append t.arities (ps ++ qs))

  bare-words : words_of (bare w) ≡ cleared (head_in w) w
  bare-words =
      words-cleared t (table-frame w h).sizes ∙
      (ap₂ (λ (n : ℕ) (ws : List ℕ). clear (head_of t).schema_atoms n ws) before-long (of-table w h).1 ∙
      ap (λ (x : Head). cleared x w) (head-word w (table-frame w h)))

  bare-task : task_of (words_of (bare w)) ≡ bare w
  bare-task = task-is (words_of (bare w)) (bare w) (lengths-without t (table-frame w h).sizes) (words-tabled (bare w))

  bare-head : head_of (bare w) ≡ head_in w
  bare-head = head-without t ∙ head-word w (table-frame w h)

-- a word that is no part word is none of those cleared, and the other way round
abbrev NotCleared : List ℕ → ℕ → Type 0
NotCleared w i = Other (head_in w).schema_atoms (first_part (head_in w)) i

no_part : (w : List ℕ) (i : ℕ) → (PartWord w i → ⊥) → NotCleared w i
unfolding atom_base
no_part w i n k l e = n (record { atom = k; known = l; place = omega arith })

part_no : (w : List ℕ) (i : ℕ) → NotCleared w i → PartWord w i → ⊥
unfolding atom_base
part_no w i o p = let e = p.place in o p.atom p.known (omega arith)

module _ (v w : List ℕ) (h : is_table v ≡ true) (k : is_table w ≡ true) where
  -- ---- tables whose tasks agree without partitions
  words-told : bare v ≡ bare w → SameButParts v w
  words-told e i l n =
      let heads : head_in v ≡ head_in w = sym (bare-head v h) ∙ (ap head_of e ∙ bare-head w k) in
      let o = no_part v i n in
      let words : cleared (head_in v) v ≡ cleared (head_in v) w =
      sym (bare-words v h) ∙ (ap words_of e ∙ (bare-words w k ∙ ap (λ (x : Head). cleared x w) (sym heads))) in
      sym (get_or-take table_words v i 0 l) ∙
      (sym (clear-other _ _ (take table_words v) i o) ∙
      (ap (λ (ws : List ℕ). get_or ws i 0) words ∙
      (clear-other _ _ (take table_words w) i o ∙ get_or-take table_words w i 0 l)))

  pub pddl-fixes-tables : pddl (task_of v) ≡ pddl (task_of w) → SameButParts v w
  pddl-fixes-tables e = words-told (pddl-tells (task_of v) (task_of w) (of-table v h).0 (of-table w k).0 e)

  -- ---- tables that agree but at their part words
  module _ (same : SameButParts v w) where
    heads-same : head_in v ≡ head_in w
    unfolding atom_base
    heads-same = head-is v (head_in w) (λ i l.
        let n = table_words-is in
        same (0 + i) (omega arith) (λ p. let e = p.place in omega arith) ∙ head-stands w i l)

    bare-same : bare v ≡ bare w
    bare-same =
        let m = length-take-le table_words v (table-long v h) in
        let n = length-take-le table_words w (table-long w k) in
        let words : cleared (head_in v) v ≡ cleared (head_in v) w =
        clear-same _ _ (take table_words v) (take table_words w) (m ∙ sym n) (λ i l o.
        get_or-take table_words v i 0 (omega arith) ∙
        (same i (omega arith) (part_no v i o) ∙ sym (get_or-take table_words w i 0 (omega arith)))) in
        sym (bare-task v h) ∙
        (ap task_of (bare-words v h ∙ (words ∙ (ap (λ (x : Head). cleared x w) heads-same ∙ sym (bare-words w k)))) ∙
        bare-task w k)

    pub parts-not-told : pddl (task_of v) ≡ pddl (task_of w)
    parts-not-told = same-pddl (task_of v) (task_of w) bare-same
