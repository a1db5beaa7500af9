-- The pairs of a table as code puts them: a pair by its words is a space and the pair's text, those of a schema stand
-- one behind another, and what any pair requires comes before the predicates; and how long all this is.
use Prim.Native.Nat.{ℕ, suc, ◌+◌, ◌-◌, ◌*◌, ◌≤◌, ◌<◌}
use mathlib.Core.Path.{◌≡◌, refl, sym, ◌∙◌, ap, subst}
use mathlib.Core.Bool.{Bool, true, false, cond}
use mathlib.Core.List.{List, [], ◌∷◌, ◌++◌, map, append_assoc}
use native.Mathlib.Omega.{arith}
use lib.ListN.{length, get_or, length-append}
use lib.Dec.{eqb}
use borrow.Author.Tests.{ne_eqb}
use Rattle.words.specs.Lists.{up_to, up_from, concat_map}
use Rattle.words.specs.Words.{words_at}
use Rattle.words.proofs.Lists.{sum-take-rises}
use Rattle.words.proofs.Words.{length-words_at}
use Rattle.task.specs.Layout.{head_in, pair_base}
use Rattle.task.specs.Task.{Pair, Task}
use Rattle.task.specs.Table.{pair_in, pair_number_in, task_of, is_table}
use Rattle.task.specs.Run.{schema_at}
use Rattle.task.specs.Turns.{first_pair}
use Rattle.task.proofs.PairsStand.{pair_counts}
use Rattle.task.proofs.Tables.{pairs-are}
use Rattle.task.proofs.TablesByIndex.{table-frame, schemas-word, pair-start-suc, pair-start-end, pair-lies}
use Rattle.task.proofs.TablesByIndex.{schema-of-pair}
use Rattle.text.specs.Lines.{bytes, digits}
use Rattle.text.proofs.Onwards.{onwards, onwards-all}
use Rattle.defines.specs.Pddl.{space, parameter, following, neighbours, bracket, named, equality, pair_text}
use Rattle.defines.specs.Pddl.{needs_text, requirements}
use Rattle.defines.specs.ByWords.{marked, apart, apart_in, pairs_in, needs_in}
use Rattle.defines.proofs.Pieces.{negated-pieces}
use Rattle.defines.proofs.MarkedNames.{marked-long, digits-few}
use Rattle.defines.proofs.AtomItems.{marked-names}
use Rattle.defines.proofs.TableItems.{items-listed}

-- ---- a pair
-- its parameters
abbrev pub both : Pair → List ℕ
both q = q.lower ∷ q.higher ∷ []

equality-pieces : (q : Pair) → equality q ≡ bytes "(=" ++ (following (map (named parameter) (both q)) ++ bytes ")")
unfolding equality bracket neighbours bytes
equality-pieces q = refl

pub apart-is : (q : Pair) → apart (both q) ≡ space ∷ pair_text q
unfolding apart pair_text bytes
apart-is q =
    let names = following (map (named parameter) (both q)) in
    ap (λ (ns : List ℕ). bytes " (not (=" ++ (ns ++ bytes "))")) (marked-names parameter (both q)) ∙
    (ap {B = List ℕ} (λ ns. bytes " (not (=" ++ ns) (sym (append_assoc names (bytes ")") (bytes ")"))) ∙
    ap {B = List ℕ} (λ text. space ∷ text)
    (sym (negated-pieces (equality q) ∙ ap (λ (x : List ℕ). bytes "(not " ++ (x ++ bytes ")")) (equality-pieces q))))

pub apart-long : (ns : List ℕ) → length (apart ns) ≡ 10 + (3 * length ns + length (concat_map digits ns))
unfolding apart bytes
apart-long ns =
    let l = length-append (marked (bytes " ?x") ns) (bytes "))") in
    let m = marked-long (bytes " ?x") ns in
    omega arith

pub two_digits : (m n : ℕ) → length (concat_map digits (m ∷ n ∷ [])) ≡ length (digits m) + length (digits n)
unfolding concat_map
two_digits m n =
    let a = length-append (digits m) (digits n ++ []) in
    let b = length-append (digits n) [] in
    omega arith

-- pair i of a table, by its words
pub pair-said : (w : List ℕ) (i : ℕ) → apart_in w i ≡ space ∷ pair_text (pair_in w i)
unfolding apart_in pair_in words_at up_from
pair-said w i =
    let b : ℕ = pair_base w i in
    let e : suc (b + 1) ≡ b + 2 = omega arith in
    ap (λ (j : ℕ). apart (get_or w (b + 1) 0 ∷ get_or w j 0 ∷ [])) e ∙ apart-is (pair_in w i)

-- the words that code reads of it
abbrev pub read_of : List ℕ → ℕ → List ℕ
read_of w i = words_at w (pair_base w i + 1) 2

pub pair-pieces : (w : List ℕ) (i : ℕ) →
    apart_in w i ≡ bytes " (not (=" ++ (marked (bytes " ?x") (read_of w i) ++ bytes "))")
unfolding apart_in apart
pair-pieces w i = refl

pub pair-long : (w : List ℕ) (i : ℕ) → length (apart_in w i) ≡ 16 + length (concat_map digits (read_of w i))
unfolding apart_in
pair-long w i =
    let l = apart-long (read_of w i) in let n = length-words_at w (pair_base w i + 1) 2 in omega arith

pub pair-few : (w : List ℕ) (i : ℕ) → length (apart_in w i) ≤ 26
pair-few w i =
    let e = pair-long w i in
    let d = digits-few (read_of w i) in
    let n = length-words_at w (pair_base w i + 1) 2 in
    omega arith

-- by a counter
pub pairs-onwards : (w : List ℕ) (from to : ℕ) → pairs_in w from to ≡ onwards (apart_in w) from to
unfolding pairs_in
pairs-onwards w from to = refl

pub pairs-all : (w : List ℕ) (n : ℕ) → concat_map (apart_in w) (up_to n) ≡ pairs_in w 0 n
pairs-all w n = sym (pairs-onwards w 0 n ∙ onwards-all (apart_in w) n)

-- ---- the pairs of a schema
module _ (w : List ℕ) (h : is_table w ≡ true) where
  abbrev t : Task
  t = task_of w

  pub pairs-rise : (m n : ℕ) → m ≤ n → first_pair t m ≤ first_pair t n
  pairs-rise m n l = sum-take-rises (pair_counts t.schemas) m n l

  module _ (s : ℕ) (l : s < (head_in w).schemas) where
    -- they lie in the table
    pub pairs-inside : first_pair t (suc s) ≤ (head_in w).pairs
    pairs-inside =
        let e = pair-start-end w (table-frame w h) in
        let r = pairs-rise (suc s) (head_in w).schemas (omega arith) in
        omega arith

    -- a pair that names the schema is one of them
    pub pair-before-end : (i : ℕ) → i < (head_in w).pairs → pair_number_in w i ≡ s → i < first_pair t (suc s)
    pair-before-end i k e =
        subst (λ (m : ℕ). i < first_pair t (suc m)) e (pair-lies w (table-frame w h) i k).before-next

    -- and each of them names it
    pub pair-names : (i : ℕ) → first_pair t s ≤ i → i < first_pair t (suc s) → pair_number_in w i ≡ s
    pair-names i a b =
        let fr = table-frame w h in
        let e = pair-start-suc w fr s l in
        let z : first_pair t s + (i - first_pair t s) ≡ i = omega arith in
        ap (pair_number_in w) (sym z) ∙ schema-of-pair w fr s (i - first_pair t s) l (omega arith)

    pub pair-items : following (map pair_text (schema_at t s).pairs) ≡ pairs_in w (first_pair t s) (first_pair t (suc s))
    unfolding pairs_in schema_at
    pair-items =
        let fr = table-frame w h in
        let n = schemas-word w fr in
        items-listed (apart_in w) (pair_in w) pair_text (first_pair t s) (length (schema_at t s).pairs)
        (schema_at t s).pairs (pairs-are w t fr.sizes fr.tabled s (omega arith)) (λ k a b. pair-said w k) ∙
        ap (onwards (apart_in w) (first_pair t s)) (sym (pair-start-suc w fr s l))

-- ---- what pairs require
pub needs-said : (pairs : ℕ) → following (requirements pairs) ≡ needs_in pairs
unfolding requirements needs_in needs_text following concat_map bracket neighbours bytes
needs-said pairs = go (eqb pairs 0)
  where
    go : (b : Bool) → following (cond b [] (needs_text ∷ [])) ≡
        cond b [] (bytes " (:requirements :strips :equality :negative-preconditions)")
    go true = refl
    go false = refl

pub needs-none : (pairs : ℕ) → pairs ≡ 0 → needs_in pairs ≡ []
unfolding needs_in
needs-none pairs e = ap needs_in e

pub needs-some : (pairs : ℕ) → (pairs ≡ 0 → ⊥) →
    needs_in pairs ≡ bytes " (:requirements :strips :equality :negative-preconditions)"
unfolding needs_in
needs-some pairs n = rw (ne_eqb pairs 0 n) refl

pub needs-few : (pairs : ℕ) → length (needs_in pairs) ≤ 58
unfolding needs_in bytes
needs-few pairs = go (eqb pairs 0)
  where
    go : (b : Bool) → length (cond b [] (bytes " (:requirements :strips :equality :negative-preconditions)")) ≤ 58
    go true = omega arith
    go false = omega arith
