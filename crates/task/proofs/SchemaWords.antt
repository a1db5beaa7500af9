-- A schema in words: the tests of its atoms and pairs in the order of the code, and which indices its rows have where
-- the schema numbers ascend.
use Prim.Native.Nat.{ℕ, ◌+◌, ◌-◌, ◌≤◌, ◌<◌}
use mathlib.Core.Path.{◌≡◌, sym, ◌∙◌, ap, ap₂, subst}
use mathlib.Core.Bool.{Bool, true, false, ◌&&◌}
use mathlib.Core.List.{List, [], ◌∷◌, ◌++◌, append-nil}
use native.Mathlib.Omega.{arith}
use native.Mathlib.Decide.{dec_lt}
use lib.ListN.{length, length-map}
use lib.Dec.{eqb, leb}
use borrow.Author.Tests.{le-leb, lt-leb, eq-eqb, ne_eqb}
use Rattle.words.specs.Lists.{all, any, every, filter, up_to, up_from}
use Rattle.task.specs.Layout.{params_in}
use Rattle.task.specs.Task.{Atom, Pair, Schema, args_fit, distinct, roles_ascend, names, part_count, no_gap, pair_fits}
use Rattle.task.specs.Task.{schema_fits}
use Rattle.task.specs.Table.{atom_in, arities_in, naming}
use Rattle.task.specs.WordTests.{unused_zero, arg_words_fit, in_file_order, parts_fit, atoms_in, pairs_in, pairs_fit}
use Rattle.task.specs.WordTests.{schema_words_fit, RunOf}
use Rattle.words.proofs.Lists.{and_left, and_right, and_both, bool-ext, every-at, met-none, met-more, met_every, In}
use Rattle.words.proofs.Lists.{here, there, in_map, in-up_from, up_from-in, length-up_from, up_from-append, filter-append}
use Rattle.words.proofs.Lists.{filter-all, filter_none}
use Rattle.words.proofs.Ranges.{all_map, all-and}
use Rattle.task.proofs.Tests.{has_part, schema-tests, tests-schema}
use Rattle.task.proofs.FileOrder.{ordered, rises-far}

-- ---- parts
pub parts-many : (atoms : List Atom) (n : ℕ) → n ≡ part_count atoms → 16 < n → false ≡ parts_fit atoms
unfolding parts_fit
parts-many atoms n e l = sym (ap (λ (b : Bool). b && no_gap atoms) (lt-leb (part_count atoms) 16 (omega arith)))

pub parts-few : (atoms : List Atom) (n : ℕ) → n ≡ part_count atoms → n ≤ 16 → parts_fit atoms ≡
    all (has_part atoms) (up_to n)
unfolding parts_fit no_gap
parts-few atoms n e l =
    ap (λ (b : Bool). b && no_gap atoms) (le-leb (part_count atoms) 16 (omega arith)) ∙
    ap (λ (m : ℕ). all (has_part atoms) (up_to m)) (sym e)

-- every part is below the count
pub part_small : {a : Atom} {atoms : List Atom} → In a atoms → a.part < part_count atoms
unfolding part_count
part_small (here e) = let q = ap (λ a. a.part) e in omega arith
part_small (there k) = let q = part_small k in omega arith

pub part-below : (w : List ℕ) (i first end : ℕ) → first ≤ i → i < end →
    (atom_in w i).part < part_count (atoms_in w first (end - first))
part-below w i first end l m = part_small (in_map (atom_in w) (in-up_from first (end - first) i l (omega arith)))

-- ---- a schema
module _ (w : List ℕ) (s pair m first n : ℕ) where
  abbrev pairs : List Pair
  pairs = pairs_in w pair m

  abbrev atoms : List Atom
  atoms = atoms_in w first n

  abbrev schema : Schema
  schema = record { params = params_in w s; pairs = pairs; atoms = atoms }

  abbrev args_of : ℕ → Bool
  args_of i = args_fit (arities_in w) (params_in w s) (atom_in w i).pred (atom_in w i).args

  abbrev all_named_in : Bool
  all_named_in = all (λ x. any (names x) atoms) (up_to (params_in w s))

  -- the tests of a schema, in the order of the code
  abbrev pub order_tests : List Bool
  order_tests =
      leb (params_in w s) 12 ∷
      leb 1 n ∷
      leb n 64 ∷
      roles_ascend atoms ∷
      all (arg_words_fit w (params_in w s)) (up_from first n) ∷
      distinct atoms ∷
      all_named_in ∷
      parts_fit atoms ∷
      pairs_fit (params_in w s) pairs ∷ []

  many : length atoms ≡ n
  many = length-map (up_from first n) (atom_in w) ∙ length-up_from first n

  args-all : all (arg_words_fit w (params_in w s)) (up_from first n) ≡
      all (λ a. args_fit (arities_in w) (params_in w s) a.pred a.args) atoms && all (unused_zero w) (up_from first n)
  unfolding arg_words_fit
  args-all = all-and args_of (unused_zero w) (up_from first n) ∙
      ap (λ (b : Bool). b && all (unused_zero w) (up_from first n))
      (sym (all_map (λ a. args_fit (arities_in w) (params_in w s) a.pred a.args) (atom_in w) (up_from first n)))

  in-order : schema_fits (arities_in w) schema && all (unused_zero w) (up_from first n) ≡ true → every order_tests ≡ true
  unfolding parts_fit no_gap pairs_fit
  in-order h =
      let c = schema-tests (arities_in w) schema (and_left (schema_fits (arities_in w) schema) _ h) in
      met_every {bs = order_tests}
      (met-more c.params (met-more (subst (λ (m : ℕ). leb 1 m ≡ true) many c.some-atom)
      (met-more (subst (λ (m : ℕ). leb m 64 ≡ true) many c.few) (met-more c.roles
      (met-more (args-all ∙ and_both _ _ c.fit (and_right (schema_fits (arities_in w) schema) _ h))
      (met-more c.apart (met-more c.used (met-more (and_both _ _ c.parts c.filled)
      (met-more (and_both _ _ c.pairs c.pairs-order) met-none)))))))))

  fits-in-order : every order_tests ≡ true → schema_fits (arities_in w) schema && all (unused_zero w) (up_from first n) ≡
      true
  unfolding parts_fit no_gap pairs_fit
  fits-in-order h =
      let at = every-at order_tests h in
      let a = sym args-all ∙ at 4 in
      let fit : Bool = all (λ a. args_fit (arities_in w) (params_in w s) a.pred a.args) atoms in
      and_both _ _ (tests-schema (arities_in w) schema (record {
        params = at 0;
        some-atom = subst (λ (m : ℕ). leb 1 m ≡ true) (sym many) (at 1);
        few = subst (λ (m : ℕ). leb m 64 ≡ true) (sym many) (at 2);
        roles = at 3;
        fit = and_left fit _ a;
        apart = at 5;
        used = at 6;
        parts = and_left (leb (part_count atoms) 16) _ (at 7);
        filled = and_right (leb (part_count atoms) 16) _ (at 7);
        pairs = and_left (all (pair_fits (params_in w s)) pairs) _ (at 8);
        pairs-order = and_right (all (pair_fits (params_in w s)) pairs) _ (at 8);
      })) (and_right fit _ a)

  pub schema-words : schema_words_fit w s (up_from pair m) (up_from first n) ≡ every order_tests
  unfolding schema_words_fit
  schema-words =
      bool-ext (schema_fits (arities_in w) schema && all (unused_zero w) (up_from first n)) (every order_tests) in-order
      fits-in-order

-- ---- the atoms between two indices, where a test holds just there
pub filter-between : (p : ℕ → Bool) (a b n : ℕ) → a ≤ b → b ≤ n → ((i : ℕ) → i < a → p i ≡ false) →
    ((i : ℕ) → a ≤ i → i < b → p i ≡ true) → ((i : ℕ) → b ≤ i → i < n → p i ≡ false) → filter p (up_to n) ≡
    up_from a (b - a)
unfolding up_to
filter-between p a b n l m before inside behind =
    let q : n ≡ a + ((b - a) + (n - b)) = omega arith in
    let x : 0 + a ≡ a = omega arith in
    let y : a + (b - a) ≡ b = omega arith in
    let parts : up_from 0 n ≡ up_from 0 a ++ (up_from a (b - a) ++ up_from b (n - b)) =
    ap (up_from 0) q ∙ (up_from-append 0 a ((b - a) + (n - b)) ∙ ap (λ (is : List ℕ). up_from 0 a ++ is)
    (ap (λ (k : ℕ). up_from k ((b - a) + (n - b))) x ∙ (up_from-append a (b - a) (n - b) ∙
    ap (λ (k : ℕ). up_from a (b - a) ++ up_from k (n - b)) y))) in
    ap (filter p) parts ∙ (filter-append p (up_from 0 a) (up_from a (b - a) ++ up_from b (n - b)) ∙
    (ap₂ (λ (x y : List ℕ). x ++ y)
    (filter_none p (up_from 0 a) (λ i k. let (u, v) = up_from-in 0 a i k in before i (omega arith)))
    (filter-append p (up_from a (b - a)) (up_from b (n - b)) ∙
    ap₂ (λ (x y : List ℕ). x ++ y) (filter-all p (up_from a (b - a))
    (λ i k. let (u, v) = up_from-in a (b - a) i k in inside i u (omega arith)))
    (filter_none p (up_from b (n - b)) (λ i k. let (u, v) = up_from-in b (n - b) i k in behind i u (omega arith)))) ∙
    append-nil (up_from a (b - a))))

-- ---- where the rows of schema s begin: those before are of lower schemas, those from there on of no lower one
pub record Cut (number : ℕ → ℕ) (n first s : ℕ) : Type 0 where
  pub inside : first ≤ n
  pub before : (i : ℕ) → i < first → number i < s
  pub behind : (i : ℕ) → first ≤ i → i < n → s ≤ number i

pub cut-start : (number : ℕ → ℕ) (n : ℕ) → Cut number n 0 0
cut-start number n =
    record { inside = omega arith; before = λ i l. absurd (omega arith); behind = λ i l m. omega arith }

module _ (number : ℕ → ℕ) (schemas n : ℕ) (order : in_file_order number schemas n ≡ true) (first s end : ℕ)
    (cut : Cut number n first s) (run : RunOf number n s first end) where
  above : (i : ℕ) → end ≤ i → i < n → s < number i
  above i l m =
      let a = run.from in
      let b = cut.behind end run.from (omega arith) in
      let c = rises-far number schemas n (ordered number schemas n order) end i l m in
      elim (dec_lt s (number end))
      [ yes k ↦ omega arith | no k ↦ absurd (run.beyond (omega arith) (omega arith)) ]

  pub cut-next : Cut number n end (s + 1)
  cut-next = record {
    inside = run.to;
    before = λ i l. elim (dec_lt i first) [
      | yes a ↦ let b = cut.before i a in omega arith
      | no a ↦ let b = run.inside i (omega arith) l in omega arith
    ];
    behind = λ i l m. let a = above i l m in omega arith;
  }

  pub cut-indices : naming number n s ≡ up_from first (end - first)
  cut-indices = filter-between (λ i. eqb s (number i)) first end n run.from run.to
      (λ i l. ne_eqb s (number i) (λ e. let a = cut.before i l in omega arith))
      (λ i l m. eq-eqb s (number i) (sym (run.inside i l m)))
      (λ i l m. ne_eqb s (number i) (λ e. let a = above i l m in omega arith))
