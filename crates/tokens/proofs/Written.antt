-- The runs of words that splitting writes are the words of the split, piece by piece: its six counts, its arities, its
-- parameter counts, and its initial and goal atoms. (The schemas' atoms are in the proofs of the code that puts them.)
use Prim.Native.Nat.{ℕ, ◌+◌, ◌*◌, ◌≤◌, ◌<◌}
use mathlib.Core.Path.{◌≡◌, sym, ◌∙◌, ap, ap₂}
use mathlib.Core.Bool.{true}
use mathlib.Core.List.{List, [], ◌∷◌, ◌++◌, map, append-nil}
use native.Mathlib.Omega.{arith}
use native.Mathlib.Numerals.{add-one}
use lib.ListN.{length, replicate, length-map}
use borrow.Author.Tests.{leb-true}
use Rattle.words.specs.Lists.{concat_map, up_to}
use Rattle.task.specs.Limits.{head_words}
use Rattle.task.specs.Layout.{head_in, facts_base, atom_base}
use Rattle.task.specs.Limits.{table_words, atom_size, most_predicates, most_schemas, most_schema_atoms, most_initial, most_goal}
use Rattle.task.specs.Limits.{pair_size, most_pairs}
use Rattle.task.specs.Task.{Fact, Schema, Task, schema_atoms, schema_pairs, well_formed}
use Rattle.words.specs.Words.{words_at}
use Rattle.task.specs.Table.{atom_words, fact_words, pair_words, schemas_from, pairs_from, head_of, task_of, is_table}
use Rattle.task.specs.Table.{arities_in}
use Rattle.words.proofs.Lists.{map_same, append-concat_map, up_to-in, map-map, map-concat_map, concat_map-same}
use Rattle.words.proofs.Words.{at-move, words_at-at, At}
use Rattle.words.proofs.Words.{length-rows}
use Rattle.task.proofs.AtomsStand.{length-facts, fact_words-is, lengths, atoms-even}
use Rattle.task.proofs.PairsStand.{pairs-even}
use Rattle.task.proofs.SchemaRows.{length-rows_from}
use Rattle.task.proofs.Tables.{content, content-fits, places}
use Rattle.task.proofs.Tests.{task-tests}
use Rattle.task.proofs.TablesByIndex.{Frame, table-frame, objects-word, arities-word}
use Rattle.task.proofs.TablesByIndex.{init-word, goal-word}
use Rattle.tokens.specs.Split.{procnone, token, orders, free, split_schema, split_task}
use Rattle.tokens.specs.Writing.{set_size, split_head, arity_words, set_sizes}
use Rattle.tokens.proofs.Predicates.{predicate-count}
use Rattle.tokens.proofs.Sizes.{init-count, goal-count}
use Rattle.tokens.proofs.WellSplit.{part_of}
use Rattle.tokens.proofs.PartSplit.{set-size}
use Rattle.tokens.proofs.Splitting.{well, ordered}
use Rattle.tokens.specs.Kept.{kept_own}
use Rattle.tokens.specs.Acceptance.{AcceptedKept, part_schemas}
use Rattle.tokens.specs.declared.measure.Sizes.{Sizes}

module _ {w : List ℕ} {sizes : Sizes} {kept : List ℕ} (S : AcceptedKept w sizes kept) where
  abbrev t : Task
  t = task_of w

  abbrev frame : Frame w
  frame = table-frame w S.table

  -- ---- counts
  pub head-written : head_of (split_task t) ≡ split_head w sizes
  unfolding split_task
  head-written =
      let z = S.sized in
      let objects = objects-word w frame in
      let predicates : length (split_task t).arities ≡ (split_head w sizes).predicates =
      omega (arith, predicate-count t, arities-word w frame, z.later, z.pars) in
      let schemas = sym z.schemas in
      let schema_atoms = sym z.atoms in
      let initial_atoms : length (split_task t).init ≡ (split_head w sizes).initial_atoms =
      omega (arith, init-count t, init-word w frame) in
      let goal_atoms : length (split_task t).goal ≡ (split_head w sizes).goal_atoms =
      omega (arith, goal-count t, goal-word w frame) in
      let pairs = sym z.pairs in
      λ k. record {
        objects = objects k;
        predicates = predicates k;
        schemas = schemas k;
        schema_atoms = schema_atoms k;
        initial_atoms = initial_atoms k;
        goal_atoms = goal_atoms k;
        pairs = pairs k;
      }

  pub arities-written : (split_task t).arities ≡ arity_words w sizes
  unfolding split_task
  arities-written =
      let later = sizes.later in
      let old : t.arities ≡ arities_in w =
      sym (ap (words_at w head_words) (sym (arities-word w frame)) ∙
      words_at-at w head_words t.arities (places w t frame.sizes frame.tabled).arities) in
      let e = sym S.sized.later in
      let f = sym S.sized.pars in
      ap₂ (λ (xs ys : List ℕ). xs ++ ys) old
      ((λ i. 0 ∷ (replicate (e i) 0 ++ replicate (f i) 1)) ∙
      ap (λ (n : ℕ). replicate n 0 ++ replicate sizes.pars 1) (sym (add-one later)))

  -- ---- parameters
  size-written : (s j : ℕ) → s < length t.schemas → j < length (orders t s) →
      set_size kept s j ≡ (split_schema t s (orders t s) j).params
  size-written s j l h =
      set-size t s (orders t s) j (part_of t (well S) (ordered S) s j l h) (kept_own kept s j)
      (λ x. S.parts.params s j x l h)

  pub params-written : (n : ℕ) → n ≡ length t.schemas →
      map (λ (u : Schema). u.params) (split_task t).schemas ≡ concat_map (set_sizes kept) (up_to n)
  unfolding split_task
  params-written n e =
      map-concat_map (λ (u : Schema). u.params) (part_schemas t) (up_to (length t.schemas)) ∙
      (concat_map-same (λ s. map (λ (u : Schema). u.params) (part_schemas t s)) (set_sizes kept)
      (up_to (length t.schemas)) (λ s i. of-schema s (up_to-in (length t.schemas) s i)) ∙
      ap (λ (k : ℕ). concat_map (set_sizes kept) (up_to k)) (sym e))
    where
      of-schema : (s : ℕ) → s < length t.schemas →
          map (λ (u : Schema). u.params) (part_schemas t s) ≡ set_sizes kept s
      of-schema s l =
          map-map (λ (u : Schema). u.params) (split_schema t s (orders t s)) (up_to (length (orders t s))) ∙
          (map_same (λ j. (split_schema t s (orders t s) j).params) (set_size kept s) (up_to (length (orders t s)))
          (λ j i. sym (size-written s j l (up_to-in (length (orders t s)) j i))) ∙
          ap (λ (k : ℕ). map (set_size kept s) (up_to k)) (sym (S.parts.count s l)))

-- ---- initial and goal atoms
module _ (w : List ℕ) (table : is_table w ≡ true) where
  abbrev task : Task
  task = task_of w

  abbrev fr : Frame w
  fr = table-frame w table

  -- facts that gain procnone
  with-free : (r : ℕ) (fs : List Fact) →
      concat_map (fact_words r) (fs ++ (free task ∷ [])) ≡
      concat_map (fact_words r) fs ++ atom_words 0 (token r (head_in w).predicates [])
  unfolding concat_map free procnone token
  with-free r fs =
      append-concat_map (fact_words r) fs (free task ∷ []) ∙
      ap (λ (l : List ℕ). concat_map (fact_words r) fs ++ l)
      (append-nil (fact_words r (free task)) ∙ (fact_words-is r (free task) ∙
      ap (λ (p : ℕ). atom_words 0 (token r p [])) (arities-word w fr)))

  -- where the old ones stand in the table
  facts-written : (r : ℕ) (fs : List Fact) (at from n : ℕ) → At w at (concat_map (fact_words r) fs) → at ≡ from →
      length (concat_map (fact_words r) fs) ≡ atom_size * n →
      concat_map (fact_words r) (fs ++ (free task ∷ [])) ≡
      words_at w from (atom_size * n) ++ atom_words 0 (token r (head_in w).predicates [])
  facts-written r fs at from n stand e l =
      with-free r fs ∙
      ap (λ (xs : List ℕ). xs ++ atom_words 0 (token r (head_in w).predicates []))
      (sym (words_at-at w from (concat_map (fact_words r) fs) (at-move w at from (concat_map (fact_words r) fs) e stand)) ∙
      ap (words_at w from) l)

  pub init-written : (from n : ℕ) → from ≡ facts_base w → n ≡ (head_in w).initial_atoms →
      concat_map (fact_words 3) (split_task task).init ≡
      words_at w from (atom_size * n) ++ atom_words 0 (token 3 (head_in w).predicates [])
  unfolding split_task atom_base
  init-written from n e f =
      facts-written 3 task.init _ from n (places w task fr.sizes fr.tabled).init
      (omega arith)
      (length-rows (fact_words 3) atom_size task.init (length-facts task 3 task.init fr.sizes.init) ∙
      ap (λ (k : ℕ). atom_size * k) (init-word w fr ∙ sym f))

  pub goal-written : (from n : ℕ) → from ≡ facts_base w + atom_size * (head_in w).initial_atoms → n ≡ (head_in w).goal_atoms →
      concat_map (fact_words 4) (split_task task).goal ≡
      words_at w from (atom_size * n) ++ atom_words 0 (token 4 (head_in w).predicates [])
  unfolding split_task atom_base
  goal-written from n e f =
      facts-written 4 task.goal _ from n (places w task fr.sizes fr.tabled).goal
      (omega arith)
      (length-rows (fact_words 4) atom_size task.goal (length-facts task 4 task.goal fr.sizes.goal) ∙
      ap (λ (k : ℕ). atom_size * k) (goal-word w fr ∙ sym f))

-- ---- how long each piece is
pub record Room (t : Task) : Type 0 where
  pub arities : length t.arities ≤ most_predicates
  pub params : length (map (λ (u : Schema). u.params) t.schemas) ≤ most_schemas
  pub schemas : length t.schemas ≤ most_schemas
  pub atoms : schema_atoms t.schemas ≤ most_schema_atoms
  pub words : length (schemas_from 0 t.schemas) ≤ atom_size * most_schema_atoms
  pub pairs : schema_pairs t.schemas ≤ most_pairs
  pub pair-words : length (pairs_from 0 t.schemas) ≤ pair_size * most_pairs
  pub init : length t.init ≤ most_initial
  pub goal : length t.goal ≤ most_goal
  pub whole : length (content t) ≤ table_words

pub room : (t : Task) → well_formed t ≡ true → Room t
room t h =
    let c = task-tests t h in
    let n = leb-true (length t.schemas) most_schemas c.schemas in
    let a = leb-true (schema_atoms t.schemas) most_schema_atoms c.atoms in
    let q = leb-true (schema_pairs t.schemas) most_pairs c.pairs in
    record {
      arities = leb-true (length t.arities) most_predicates c.preds;
      params = omega (arith, length-map t.schemas (λ (u : Schema). u.params));
      schemas = n;
      atoms = a;
      words = omega (
        arith,
        length-rows_from atom_words (λ s. s.atoms) atom_size 0 t.schemas
            (atoms-even t.schemas (λ s i b j. ((lengths t c).schema s i b j).short)),
      );
      pairs = q;
      pair-words = omega (
        arith,
        length-rows_from pair_words (λ s. s.pairs) pair_size 0 t.schemas (pairs-even t.schemas),
      );
      init = leb-true (length t.init) most_initial c.inits;
      goal = leb-true (length t.goal) most_goal c.goals;
      whole = content-fits t c;
    }
