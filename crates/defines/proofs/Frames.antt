-- Actions and predicates besides their atoms, in the pieces that code puts, and how long they are: parameters in their
-- bracket, an action up to its preconditions, a predicate with its parameters; and what code reads of them in a table.
use Prim.Native.Nat.{ℕ, zero, suc, ◌+◌, ◌*◌, ◌-◌, ◌≤◌, ◌<◌}
use mathlib.Core.Path.{◌≡◌, refl, ◌∙◌, ap}
use mathlib.Core.Bool.{true}
use mathlib.Core.List.{List, [], ◌∷◌, ◌++◌}
use native.Mathlib.Omega.{arith}
use lib.ListN.{length, length-append}
use borrow.Author.Tests.{leb-true}
use Rattle.words.specs.Lists.{up_to, up_from, concat_map}
use Rattle.task.specs.Limits.{most_objects, most_arity, most_parameters, head_words}
use Rattle.task.specs.Layout.{head_in, params_base, arity_in, params_in}
use Rattle.task.specs.Table.{task_of, is_table}
use Rattle.task.proofs.Tests.{task-tests}
use Rattle.task.proofs.StepWords.{params-few}
use Rattle.task.proofs.Tables.{of-table}
use Rattle.task.proofs.TablesByIndex.{table-frame, objects-word, schemas-word}
use Rattle.task.proofs.TableReads.{table-roomy, params-word}
use Rattle.text.specs.Lines.{bytes, digits}
use Rattle.defines.specs.Pddl.{closing, parameter, neighbours, named, names_up_to}
use Rattle.defines.specs.ByWords.{marked, formula, head_text, frame_in, predicate_in}
use Rattle.defines.proofs.Pieces.{neighbours-long}
use Rattle.defines.proofs.MarkedNames.{names-long, below-long}
use Rattle.defines.proofs.Formulas.{formula-long}
use Rattle.defines.proofs.AtomItems.{names_marked, first-neighbour}

-- ---- parameters in their bracket
abbrev pub parameters : ℕ → List ℕ
parameters n = neighbours (names_up_to parameter n)

-- the first, and the others behind it
pub first-parameter : (n : ℕ) → 0 < n → parameters n ≡ bytes "?x0" ++ marked (bytes " ?x") (up_from 1 (n - 1))
unfolding bytes named digits
first-parameter zero h = absurd (omega arith)
first-parameter (suc n) h =
    let e : n ≡ suc n - 1 = omega arith in
    first-neighbour parameter n ∙ ap (λ (k : ℕ). bytes "?x0" ++ marked (bytes " ?x") (up_from 1 k)) e

pub parameters-long : (n : ℕ) → length (parameters n) ≡ 3 * n + length (concat_map digits (up_to n)) - 1
unfolding bytes
parameters-long n =
    let l = neighbours-long (names_up_to parameter n) in
    let e = ap length (names_marked parameter n) in
    let m = names-long (bytes " ?x") n in
    omega arith

pub parameters-few : (n : ℕ) → n ≤ most_parameters → length (parameters n) ≤ 49
parameters-few n few = let l = parameters-long n in let b = below-long n (omega arith) in omega arith

-- ---- an action up to its preconditions
pub head-pieces : (s n : ℕ) → head_text s n ≡
    bytes " (:action a" ++ (digits s ++ (bytes " :parameters (" ++ (parameters n ++ bytes ") :precondition (and")))
unfolding head_text
head-pieces s n = refl

pub head-long : (s n : ℕ) → length (head_text s n) ≡ 45 + (length (digits s) + length (parameters n))
unfolding bytes
head-long s n =
    let e = ap length (head-pieces s n) in
    let d = length-append (digits s) (bytes " :parameters (" ++ (parameters n ++ bytes ") :precondition (and")) in
    let p = length-append (parameters n) (bytes ") :precondition (and") in
    omega arith

pub frame-long : (w : List ℕ) (s : ℕ) → length (frame_in w s) ≡ length (head_text s (params_in w s)) + 16
unfolding frame_in bytes
frame-long w s = length-append (head_text s (params_in w s)) (bytes ") :effect (and))")

-- ---- a predicate and its parameters
pub predicate-pieces : (p n : ℕ) → formula (bytes " ?x") p (up_to n) ≡
    bytes " (p" ++ (digits p ++ (marked (bytes " ?x") (up_from 0 (n - 0)) ++ (closing ∷ [])))
unfolding formula up_to
predicate-pieces p n =
    let e : n ≡ n - 0 = omega arith in
    ap (λ (k : ℕ). bytes " (p" ++ (digits p ++ (marked (bytes " ?x") (up_from 0 k) ++ (closing ∷ [])))) e

pub predicate-long : (p n : ℕ) → length (formula (bytes " ?x") p (up_to n)) ≡
    4 + length (digits p) + (3 * n + length (concat_map digits (up_to n)))
unfolding bytes
predicate-long p n =
    formula-long (bytes " ?x") p (up_to n) ∙ ap (λ (k : ℕ). 4 + length (digits p) + k) (names-long (bytes " ?x") n)

-- ---- those of a table, by the words that code reads
pub objects-few : (w : List ℕ) → is_table w ≡ true → (head_in w).objects ≤ most_objects
objects-few w table =
    let e = objects-word w (table-frame w table) in
    let l = leb-true (task_of w).objects most_objects (task-tests (task_of w) (of-table w table).0).objects in
    omega arith

-- predicate p, which code holds as i too, and the arity that it reads
module _ (w : List ℕ) {p i : ℕ} (held : i ≡ p) where
  pub predicate-read : {arity : ℕ} → arity ≡ arity_in w i → formula (bytes " ?x") p (up_to arity) ≡ predicate_in w p
  unfolding predicate_in
  predicate-read read = ap (λ (k : ℕ). formula (bytes " ?x") p (up_to k)) (read ∙ ap (arity_in w) held)

  module _ (table : is_table w ≡ true) (known : p < (head_in w).predicates) where
    pub arity-inside : head_words + i < length w
    arity-inside = let r = (table-roomy w table).inside in omega arith

    pub arity-few : {arity : ℕ} → arity ≡ arity_in w i → arity ≤ most_arity
    arity-few read = let few = (table-roomy w table).arities i (omega arith) in omega arith

-- schema s likewise, and the parameter count
module _ (w : List ℕ) {s i : ℕ} (held : i ≡ s) where
  pub head_read : {params : ℕ} → params ≡ params_in w i → head_text s params ≡ head_text s (params_in w s)
  head_read read = ap (head_text s) (read ∙ ap (params_in w) held)

  module _ (table : is_table w ≡ true) (known : s < (head_in w).schemas) where
    pub count-inside : params_base w + i < length w
    count-inside = let r = (table-roomy w table).inside in omega arith

    pub count-few : {params : ℕ} → params ≡ params_in w i → params ≤ most_parameters
    count-few read =
        let m = schemas-word w (table-frame w table) in
        let e = params-word w table i (omega arith) in
        let f = params-few (task_of w) (of-table w table).0 i in
        omega arith
