-- The tests of words together say that the words are a table: a table passes each, by `table-words` and the tests of
-- its task; words that pass them all fit (`WordsFit`) and are those of a well-formed task, so `words-table` applies.
use Prim.Native.Nat.{ℕ, ◌+◌, ◌-◌, ◌≤◌, ◌<◌}
use mathlib.Core.Path.{◌≡◌, refl, sym, ◌∙◌, subst}
use mathlib.Core.Bool.{Bool, true, false, not, ◌&&◌}
use mathlib.Core.List.{List}
use native.Mathlib.Omega.{arith}
use native.Mathlib.Decide.{dec_lt}
use lib.ListN.{length, get_or}
use lib.Dec.{eqb, ltb, leb}
use borrow.Author.Tests.{ltb-true, eqb-true, le-leb, eq-eqb, not-true}
use Rattle.words.specs.Lists.{all, every, up_to, up_from}
use Rattle.task.specs.Layout.{head_in, goals_from, atom_total, params_base, words_used, arity_in, atom_base}
use Rattle.task.specs.Limits.{table_words, head_words, most_pairs}
use Rattle.task.specs.Task.{args_fit, schema_fits, facts_fit}
use Rattle.task.specs.Table.{pair_number_in, atom_in, schema_number_in, fact_in, task_of, is_table, arities_in, schema_in}
use Rattle.task.specs.WordTests.{count_tests, arities_fit, unused_zero, arg_words_fit, in_file_order, schema_words_fit}
use Rattle.task.specs.WordTests.{pair_indices_of, indices_of, schemas_fit, fact_words_fit, facts_words_fit, facts_in}
use Rattle.task.specs.WordTests.{Roomy}
use Rattle.words.specs.Words.{zeros_at}
use Rattle.words.proofs.Lists.{and_left, and_right, and_both, both-ft, bool-ext, false-if, met-none, met-more}
use Rattle.words.proofs.Lists.{met_every, all_in, in_all, In, filter-in, in-filter, in-up_to, up_to-in, up_from-in, in_map}
use Rattle.words.proofs.Lists.{map-in}
use Rattle.words.proofs.Ranges.{all_from, from_all, all-below, below_all, all_map}
use Rattle.task.proofs.Counts.{Counted, counted, roomy}
use Rattle.task.proofs.Tests.{TaskTests, schema-tests, fact-tests, tests-fact, task-tests, tests-task}
use Rattle.task.proofs.Tables.{of-table}
use Rattle.words.proofs.Words.{length-words_at}
use Rattle.task.proofs.TablesByWords.{FactWord, WordsFit, words-table, arities-count}
use Rattle.task.proofs.TablesPass.{table-words}
use Rattle.task.proofs.TablesByWords.{schemas-count, atoms-count, inits-count, goals-count, pairs-count}
use Rattle.task.proofs.FileOrder.{Ordered, ordered, in-order}

-- ---- the tests by name
pub record Passed (w : List ℕ) : Type 0 where
  pub counts : every (count_tests w) ≡ true
  pub arities : arities_fit w ≡ true
  pub pair-numbers : in_file_order (pair_number_in w) (head_in w).schemas (head_in w).pairs ≡ true
  pub numbers : in_file_order (schema_number_in w) (head_in w).schemas (head_in w).schema_atoms ≡ true
  pub schemas : schemas_fit w ≡ true
  pub init : facts_words_fit w 3 (head_in w).schema_atoms (head_in w).initial_atoms ≡ true
  pub goal : facts_words_fit w 4 (goals_from w) (head_in w).goal_atoms ≡ true
  pub rest : zeros_at w (words_used w) (table_words - words_used w) ≡ true

-- ---- the unused argument words of an atom, one by one
abbrev Unused : List ℕ → ℕ → Type 0
Unused w i = (k : ℕ) → arity_in w (atom_in w i).pred ≤ k → k < 4 → get_or w (atom_base w i + 4 + k) 0 ≡ 0

unused-zero : (w : List ℕ) (i : ℕ) → Unused w i → unused_zero w i ≡ true
unfolding unused_zero zeros_at
unused-zero w i h = from_all (λ k. eqb (get_or w k 0) 0) from (4 - arity) (λ k a b.
    let e : atom_base w i + 4 + (k - (atom_base w i + 4)) ≡ k = omega arith in
    eq-eqb (get_or w k 0) 0 (rw e at (h (k - (atom_base w i + 4)) (omega arith) (omega arith))))
  where
    arity : ℕ
    arity = arity_in w (atom_in w i).pred

    from : ℕ
    from = atom_base w i + 4 + arity

zero-unused : (w : List ℕ) (i : ℕ) → unused_zero w i ≡ true → Unused w i
unfolding unused_zero zeros_at
zero-unused w i h k a b =
    let arity = arity_in w (atom_in w i).pred in
    eqb-true (get_or w (atom_base w i + 4 + k) 0) 0
    (all_from (λ k. eqb (get_or w k 0) 0) (atom_base w i + 4 + arity) (4 - arity) h (atom_base w i + 4 + k) (omega arith)
    (omega arith))

-- ---- a table passes
module _ (w : List ℕ) (h : is_table w ≡ true) where
  abbrev fit : WordsFit w
  fit = table-words w h

  abbrev tests : TaskTests (task_of w)
  tests = task-tests (task_of w) (of-table w h).0

  counts-met : every (count_tests w) ≡ true
  unfolding count_tests task_of
  counts-met = met_every (met-more tests.some-object (met-more tests.objects
      (met-more (subst (λ (n : ℕ). leb 1 n ≡ true) (arities-count w fit) tests.some-pred)
      (met-more (subst (λ (n : ℕ). leb n 400 ≡ true) (arities-count w fit) tests.preds)
      (met-more (subst (λ (n : ℕ). leb n 200 ≡ true) (schemas-count w fit) tests.schemas)
      (met-more (subst (λ (n : ℕ). leb n 1000 ≡ true) (atoms-count w fit) tests.atoms)
      (met-more (subst (λ (n : ℕ). leb n 500 ≡ true) (inits-count w fit) tests.inits)
      (met-more (subst (λ (n : ℕ). leb n 100 ≡ true) (goals-count w fit) tests.goals)
      (met-more (subst (λ (n : ℕ). leb n most_pairs ≡ true) (pairs-count w fit) tests.pairs) met-none)))))))))

  arities-met : arities_fit w ≡ true
  unfolding arities_fit
  arities-met = below_all (λ p. leb (arity_in w p) 4) (head_in w).predicates
      (λ p l. le-leb (arity_in w p) 4 (fit.arity p l))

  unused-met : (i : ℕ) → i < atom_total w → unused_zero w i ≡ true
  unused-met i l = unused-zero w i (λ k. fit.unused i k l)

  schemas-met : schemas_fit w ≡ true
  unfolding schemas_fit schema_words_fit pair_indices_of indices_of task_of
  schemas-met = below_all (λ s. schema_words_fit w s (pair_indices_of w s) (indices_of w s)) (head_in w).schemas
      (λ s l. and_both _ _
      (all_in (schema_fits (arities_in w)) tests.fit (in_map (schema_in w) (in-up_to (head_in w).schemas s l)))
      (in_all (unused_zero w) (indices_of w s) (λ i k.
      let (a, b) = filter-in (λ i. eqb s (schema_number_in w i)) (up_to (head_in w).schema_atoms) i k in
      let m = up_to-in (head_in w).schema_atoms i a in
      unused-met i (omega arith))))

  facts-met : (r i n : ℕ) → i + n ≤ atom_total w → ((k : ℕ) → k < n → FactWord w (i + k) r) →
      facts_fit (head_in w).objects (arities_in w) (facts_in w i n) ≡ true → facts_words_fit w r i n ≡ true
  unfolding facts_words_fit fact_words_fit arg_words_fit fact_in
  facts-met r i n b words facts =
      let c = fact-tests (head_in w).objects (arities_in w) (facts_in w i n) facts in
      and_both _ _ (from_all (fact_words_fit w r) i n (λ k l m.
      let e : i + (k - i) ≡ k = omega arith in
      let f : FactWord w k r = rw e at (words (k - i) (omega arith)) in
      and_both _ _ (eq-eqb _ _ f.schema) (and_both _ _ (eq-eqb _ _ f.role) (and_both _ _ (eq-eqb _ _ f.part)
      (and_both _ _ (all_from (λ j. args_fit (arities_in w) (head_in w).objects (atom_in w j).pred (atom_in w j).args) i n
      (sym (all_map (λ f. args_fit (arities_in w) (head_in w).objects f.pred f.args) (fact_in w) (up_from i n)) ∙
      c.fit) k
      l m)
      (unused-met k (omega arith))))))) c.order

  rest-met : zeros_at w (words_used w) (table_words - words_used w) ≡ true
  unfolding zeros_at
  rest-met = from_all (λ k. eqb (get_or w k 0) 0) (words_used w) (table_words - words_used w) (λ k a b.
      let c = fit.inside in
      eq-eqb (get_or w k 0) 0 (fit.rest k a (omega arith)))

  pub table-passes : Passed w
  unfolding task_of
  table-passes = record {
    counts = counts-met;
    arities = arities-met;
    pair-numbers = in-order (pair_number_in w) (head_in w).schemas (head_in w).pairs fit.pair-schema fit.pair-order;
    numbers = in-order (schema_number_in w) (head_in w).schemas (head_in w).schema_atoms fit.schema fit.order;
    schemas = schemas-met;
    init = facts-met 3 (head_in w).schema_atoms (head_in w).initial_atoms (omega arith) fit.init tests.init;
    goal = facts-met 4 (goals_from w) (head_in w).goal_atoms (omega arith) fit.goal tests.goal;
    rest = rest-met;
  }

-- ---- what passes is a table
-- atom i has a known predicate, and its unused words are 0
pub record Known (w : List ℕ) (i : ℕ) : Type 0 where
  pub known : (atom_in w i).pred < (head_in w).predicates
  pub unused : unused_zero w i ≡ true

pub args_known : (w : List ℕ) (bound i : ℕ) → args_fit (arities_in w) bound (atom_in w i).pred (atom_in w i).args ≡
    true → unused_zero w i ≡ true → Known w i
unfolding args_fit
args_known w bound i a u =
    let l = ltb-true (atom_in w i).pred (length (arities_in w))
    (and_left (ltb (atom_in w i).pred (length (arities_in w))) _ a) in
    let e = length-words_at w head_words (head_in w).predicates in
    record { known = omega arith; unused = u }

module _ (w : List ℕ) (long : table_words ≤ length w) (c : Passed w) where
  abbrev limits : Counted w
  limits = counted w c.counts

  abbrev room : Roomy w
  room = roomy w long c.counts c.arities

  abbrev numbers : Ordered (schema_number_in w) (head_in w).schemas (head_in w).schema_atoms
  numbers = ordered (schema_number_in w) (head_in w).schemas (head_in w).schema_atoms c.numbers

  abbrev pair-numbers : Ordered (pair_number_in w) (head_in w).schemas (head_in w).pairs
  pair-numbers = ordered (pair_number_in w) (head_in w).schemas (head_in w).pairs c.pair-numbers

  abbrev schema_ok : ℕ → Bool
  schema_ok s = schema_fits (arities_in w) (schema_in w s)

  schema-ok : (s : ℕ) → s < (head_in w).schemas → schema_ok s && all (unused_zero w) (indices_of w s) ≡ true
  unfolding schemas_fit schema_words_fit pair_indices_of indices_of
  schema-ok s l = all-below (λ s. schema_words_fit w s (pair_indices_of w s) (indices_of w s)) (head_in w).schemas
      c.schemas s l

  atom-known : (i : ℕ) → i < (head_in w).schema_atoms → Known w i
  unfolding indices_of
  atom-known i l =
      let s = schema_number_in w i in
      let b = schema-ok s (numbers.known i l) in
      let k : In i (indices_of w s) = in-filter (λ i. eqb s (schema_number_in w i)) (in-up_to (head_in w).schema_atoms i l)
      (eq-eqb s s refl) in
      let t = schema-tests (arities_in w) (schema_in w s) (and_left (schema_ok s) _ b) in
      args_known w (schema_in w s).params i
      (all_in (λ a. args_fit (arities_in w) (schema_in w s).params a.pred a.args) t.fit (in_map (atom_in w) k))
      (all_in (unused_zero w) (and_right (schema_ok s) _ b) k)

  -- the facts of one role
  record FactsOk (r i n : ℕ) : Type 0 where
    words : (k : ℕ) → k < n → FactWord w (i + k) r
    knows : (k : ℕ) → k < n → Known w (i + k)
    facts : facts_fit (head_in w).objects (arities_in w) (facts_in w i n) ≡ true

  facts-ok : (r i n : ℕ) → facts_words_fit w r i n ≡ true → FactsOk r i n
  unfolding facts_words_fit fact_words_fit arg_words_fit fact_in
  facts-ok r i n h = record {
    words = λ k l.
        let j = i + k in
        let a = each j (omega arith) (omega arith) in
        let b = and_right (eqb (schema_number_in w j) 0) _ a in
        record {
          schema = eqb-true _ _ (and_left (eqb (schema_number_in w j) 0) _ a);
          role = eqb-true _ _ (and_left (eqb (atom_in w j).role r) _ b);
          part = eqb-true _ _ (and_left (eqb (atom_in w j).part 0) _ (and_right (eqb (atom_in w j).role r) _ b));
        };
    knows = λ k l.
        let j = i + k in
        let a = args j (each j (omega arith) (omega arith)) in
        args_known w (head_in w).objects j (and_left (ok j) _ a) (and_right (ok j) _ a);
    facts = tests-fact (head_in w).objects (arities_in w) (facts_in w i n) (record {
      fit = all_map (λ f. args_fit (arities_in w) (head_in w).objects f.pred f.args) (fact_in w) (up_from i n) ∙
          from_all ok i n (λ j a b. and_left (ok j) _ (args j (each j a b)));
      order = and_right (all (fact_words_fit w r) (up_from i n)) _ h;
    });
  }
    where
      each : (j : ℕ) → i ≤ j → j < i + n → fact_words_fit w r j ≡ true
      each j a b = all_from (fact_words_fit w r) i n (and_left (all (fact_words_fit w r) (up_from i n)) _ h) j a b

      args : (j : ℕ) → fact_words_fit w r j ≡ true → arg_words_fit w (head_in w).objects j ≡ true
      args j a =
          and_right (eqb (atom_in w j).part 0) _
          (and_right (eqb (atom_in w j).role r) _ (and_right (eqb (schema_number_in w j) 0) _ a))

      ok : ℕ → Bool
      ok j = args_fit (arities_in w) (head_in w).objects (atom_in w j).pred (atom_in w j).args

  abbrev init-ok : FactsOk 3 (head_in w).schema_atoms (head_in w).initial_atoms
  init-ok = facts-ok 3 (head_in w).schema_atoms (head_in w).initial_atoms c.init

  abbrev goal-ok : FactsOk 4 (goals_from w) (head_in w).goal_atoms
  goal-ok = facts-ok 4 (goals_from w) (head_in w).goal_atoms c.goal

  each-known : (i : ℕ) → i < atom_total w → Known w i
  each-known i l = elim (dec_lt i (head_in w).schema_atoms) [
    | yes a ↦ atom-known i a
    | no a ↦ elim (dec_lt i (goals_from w)) [
      | yes b ↦
          let e : (head_in w).schema_atoms + (i - (head_in w).schema_atoms) ≡ i = omega arith in
          subst (Known w) e (init-ok.knows (i - (head_in w).schema_atoms) (omega arith))
      | no b ↦
          let e : goals_from w + (i - (goals_from w)) ≡ i = omega arith in
          subst (Known w) e (goal-ok.knows (i - (goals_from w)) (omega arith))
    ]
  ]

  words-fit : WordsFit w
  unfolding zeros_at table_words
  words-fit =
      let n = limits in
      record {
        long = long;
        inside = omega arith;
        arity = room.arities;
        known = λ i l. (each-known i l).known;
        unused = λ i k l. zero-unused w i (each-known i l).unused k;
        schema = numbers.known;
        order = numbers.rise;
        pair-schema = pair-numbers.known;
        pair-order = pair-numbers.rise;
        init = init-ok.words;
        goal = goal-ok.words;
        rest = λ k a b. eqb-true (get_or w k 0) 0
            (all_from (λ k. eqb (get_or w k 0) 0) (words_used w) (table_words - words_used w) c.rest k a (omega arith));
      }

  task-fits : TaskTests (task_of w)
  unfolding task_of arity_in
  task-fits =
      let n = limits in
      record {
        some-object = le-leb _ _ n.some-object;
        objects = le-leb _ _ n.objects;
        some-pred = subst (λ (m : ℕ). leb 1 m ≡ true) (sym (arities-count w words-fit)) (le-leb _ _ n.some-pred);
        preds = subst (λ (m : ℕ). leb m 400 ≡ true) (sym (arities-count w words-fit)) (le-leb _ _ n.preds);
        arities = in_all (λ a. leb a 4) (arities_in w) (λ a i.
            let (p, j, e) = map-in (λ k. get_or w k 0) (up_from head_words (head_in w).predicates) a i in
            let (x, y) = up_from-in head_words (head_in w).predicates p j in
            arity-small a p e x y);
        schemas = subst (λ (m : ℕ). leb m 200 ≡ true) (sym (schemas-count w words-fit)) (le-leb _ _ n.schemas);
        atoms = subst (λ (m : ℕ). leb m 1000 ≡ true) (sym (atoms-count w words-fit)) (le-leb _ _ n.atoms);
        inits = subst (λ (m : ℕ). leb m 500 ≡ true) (sym (inits-count w words-fit)) (le-leb _ _ n.inits);
        goals = subst (λ (m : ℕ). leb m 100 ≡ true) (sym (goals-count w words-fit)) (le-leb _ _ n.goals);
        pairs = subst (λ (m : ℕ). leb m most_pairs ≡ true) (sym (pairs-count w words-fit)) (le-leb _ _ n.pairs);
        fit = all_map (schema_fits (arities_in w)) (schema_in w) (up_to (head_in w).schemas) ∙
            below_all schema_ok (head_in w).schemas (λ s l. and_left (schema_ok s) _ (schema-ok s l));
        init = init-ok.facts;
        goal = goal-ok.facts;
      }
    where
      arity-small : (a p : ℕ) → a ≡ get_or w p 0 → head_words ≤ p → p < params_base w → leb a 4 ≡ true
      arity-small a p e x y =
          let q : head_words + (p - head_words) ≡ p = omega arith in
          let r : get_or w p 0 ≤ 4 = rw q at (room.arities (p - head_words) (omega arith)) in
          le-leb a 4 (omega arith)

-- ---- both ways
pub passed-table : (w : List ℕ) → table_words ≤ length w → Passed w → is_table w ≡ true
passed-table w long c = words-table w (words-fit w long c) (tests-task (task_of w) (task-fits w long c))

-- words that fail one of the tests are no table
pub not-passed : (w : List ℕ) (test answer : Bool) → (Passed w → test ≡ true) → answer ≡ test → not answer ≡ true →
    false ≡ is_table w
not-passed w test answer asked e failed =
    sym (false-if (is_table w) (λ h. both-ft (asked (table-passes w h)) (sym e ∙ not-true answer failed)))

-- where the other tests are passed, the rest decides
pub rest-decides : (w : List ℕ) → table_words ≤ length w →
    (zeros_at w (words_used w) (table_words - words_used w) ≡ true → Passed w) →
    zeros_at w (words_used w) (table_words - words_used w) ≡ is_table w
rest-decides w long others = bool-ext (zeros_at w (words_used w) (table_words - words_used w)) (is_table w)
    (λ h. passed-table w long (others h)) (λ h. (table-passes w h).rest)
