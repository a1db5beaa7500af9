-- The blocks that code makes from what is kept are those of the steps read: a part's parameters are the numbers of its
-- set, and a step's objects stand behind its schema in the list's words.
use Prim.Native.Nat.{ℕ, ◌+◌, ◌-◌, ◌*◌, ◌/◌, ◌≤◌, ◌<◌}
use mathlib.Core.Path.{◌≡◌, refl, sym, ◌∙◌, ap, ap₂}
use mathlib.Core.Bool.{Bool, true, false}
use mathlib.Core.List.{List, [], ◌∷◌, ◌++◌, map, append-nil}
use Rattle.std.specs.Prelude.{None}
use native.Mathlib.Omega.{arith}
use lib.ListN.{length, get_or}
use lib.Dec.{eqb, leb}
use borrow.Author.Tests.{eqb-true, eq-eqb, leb-true, le-leb}
use Rattle.words.specs.Lists.{any, filter, keep_if, concat_map, sum, up_to, up_from}
use Rattle.task.specs.Limits.{step_size}
use Rattle.task.specs.Task.{Task}
use Rattle.words.specs.Words.{words_at}
use Rattle.task.specs.Run.{Step, schema_at, step_in, step_at, steps_in, param_count, bad_step}
use Rattle.words.proofs.Lists.{bool-ext, false-if, In, here, there, in-eq, any-in, in-any, in-filter, filter-in}
use Rattle.words.proofs.Lists.{map_same, up_to-in, up_from-in, up_from-append, filter-append, filter_none}
use Rattle.task.proofs.States.{is_step-is}
use Rattle.words.proofs.Words.{get_or-words_at}
use Rattle.task.proofs.StepWords.{step-here}
use Rattle.task.proofs.BadSteps.{good-steps}
use Rattle.words.specs.Sets.{member, members}
use Rattle.tokens.specs.Split.{has, params_of, orders, first_of}
use Rattle.blocks.specs.Blocks.{params_at, part_step, block, unfold_steps, list_words, fits_in}
use Rattle.blocks.specs.Unfolding.{StepsKept, StepKept, objects_for, part_from, parts_from, count_from, sum_from}
use Rattle.blocks.specs.Unfolding.{blocks_from}
use Rattle.blocks.proofs.Numbers.{first-mono}
use Rattle.blocks.proofs.KeptLists.{length-words}
use Rattle.blocks.proofs.Unfolded.{parts_of, length-unfold}
use Rattle.tokens.specs.Kept.{kept_first, kept_own}

-- ---- a set's members are the parameters
filter_same : (p q : ℕ → Bool) (xs : List ℕ) → ((x : ℕ) → In x xs → p x ≡ q x) → filter p xs ≡ filter q xs
unfolding filter
filter_same p q [] h = refl
filter_same p q (x ∷ xs) h =
    ap₂ (λ (b : Bool) (ys : List ℕ). keep_if b x ys) (h x (here refl)) (filter_same p q xs (λ y i. h y (there i)))

stands-in : (x : ℕ) (xs : List ℕ) → any (eqb x) xs ≡ true → In x xs
stands-in x xs h = let (y, i, e) = any-in (eqb x) xs h in in-eq (eqb-true x y e) i

-- what a test takes of the numbers below m, and nothing else, is in the set
pub members-are : (set m n : ℕ) (p : ℕ → Bool) → m ≤ n →
    ((x : ℕ) → member set x ≡ any (eqb x) (filter p (up_to m))) → members set n ≡ filter p (up_to m)
unfolding members up_to
members-are set m n p l h =
    let e : n ≡ m + (n - m) = omega arith in
    let rest = up_from (0 + m) (n - m) in
    ap (λ (k : ℕ). filter (member set) (up_from 0 k)) e
    ∙ (ap (filter (member set)) (up_from-append 0 m (n - m))
    ∙ (filter-append (member set) (up_from 0 m) rest
    ∙ (ap₂ (λ (a b : List ℕ). a ++ b) (filter_same (member set) p (up_from 0 m) below)
    (filter_none (member set) rest above)
    ∙ append-nil (filter p (up_from 0 m)))))
  where
    below : (x : ℕ) → In x (up_from 0 m) → member set x ≡ p x
    below x i = h x ∙ bool-ext (any (eqb x) (filter p (up_from 0 m))) (p x)
        (λ q. (filter-in p (up_from 0 m) x (stands-in x (filter p (up_from 0 m)) q)).1)
        (λ q. in-any (eqb x) (in-filter p i q) (eq-eqb x x refl))

    above : (x : ℕ) → In x (up_from (0 + m) (n - m)) → member set x ≡ false
    above x i = h x ∙ false-if (any (eqb x) (filter p (up_from 0 m))) (λ q.
        let j = (filter-in p (up_from 0 m) x (stands-in x (filter p (up_from 0 m)) q)).0 in
        let (a, b) = up_from-in 0 m x j in
        let (c, d) = up_from-in (0 + m) (n - m) x i in
        omega arith)

-- ---- a step read
-- its schema is known
pub schema-known : (t : Task) (steps : List ℕ) → bad_step t steps ≡ None → (i : ℕ) → i < length steps / step_size →
    (step_size * i + step_size ≤ length steps) × (get_or steps (step_size * i) 0 < length t.schemas)
unfolding step_at step_in
schema-known t steps good i l =
    let h = step-here t steps i (good-steps t steps good i (omega arith)) in
    (h.whole, (is_step-is t (step_at t steps i) h.step).known)

-- 13 words a step: refusal 13 by the number of steps, as 13 times that number may pass what a machine counts
pub by-steps : (k n m : ℕ) → n ≡ step_size * k → leb n m ≡ leb k (m / step_size)
by-steps k n m e = bool-ext (leb n m) (leb k (m / step_size))
    (λ h. le-leb k (m / step_size) (let q = leb-true n m h in omega arith))
    (λ h. le-leb n m (let q = leb-true k (m / step_size) h in omega arith))

module _ {t : Task} {steps kept : List ℕ} (K : StepsKept t steps kept) where
  -- a step's numbers are within the limits
  pub step_kept : (i : ℕ) → i < length steps / step_size → StepKept steps kept (step_size * i)
  step_kept i l =
      let (w, k) = schema-known t steps K.good i l in
      let s = get_or steps (step_size * i) 0 in
      let n = K.blocks.few-schemas in
      let c = K.blocks.count s k in
      let p = K.blocks.few-parts s k in
      let e = K.blocks.first s (omega arith) in
      let f = first-mono t s (length t.schemas) (omega arith) in
      let m = K.blocks.few-splits in
      record { whole = w; known = omega arith; few = omega arith; small = omega arith }

  -- its part count is the one kept
  count-is : (i : ℕ) → i < length steps / step_size → count_from steps kept (step_size * i) ≡ parts_of t (step_at t steps i)
  unfolding step_at step_in
  count-is i l = K.blocks.count (get_or steps (step_size * i) 0) (schema-known t steps K.good i l).1

  -- all part counts together
  pub sum_is : sum_from steps kept (length steps / step_size) ≡ length (unfold_steps t (steps_in t steps))
  unfolding sum_from steps_in
  sum_is =
      let n = length steps / step_size in
      ap sum (map_same (λ (i : ℕ). count_from steps kept (step_size * i)) (λ (i : ℕ). parts_of t (step_at t steps i))
      (up_to n)
      (λ i k. count-is i (up_to-in n i k))
      ∙ sym (map-twice (parts_of t) (step_at t steps) (up_to n)))
      ∙ sym (length-unfold t (map (step_at t steps) (up_to n)))
    where
      map-twice : {A : Type 0} (f : A → ℕ) (g : ℕ → A) (xs : List ℕ) → map f (map g xs) ≡ map (λ i. f (g i)) xs
      map-twice f g [] = refl
      map-twice f g (x ∷ xs) = ap {B = List ℕ} (λ ys. f (g x) ∷ ys) (map-twice f g xs)

  part-is : (i j : ℕ) → i < length steps / step_size → j < parts_of t (step_at t steps i) →
      part_from steps kept (step_size * i) j ≡ part_step t (step_at t steps i) j
  unfolding part_from objects_for part_step step_at step_in param_count params_at params_of
  part-is i j l m =
      let k = (schema-known t steps K.good i l).1 in
      let s = get_or steps (step_size * i) 0 in
      let n = (schema_at t s).params in
      let set = kept_own kept s j in
      let mine : ℕ → Bool = λ x. has (schema_at t s) x (get_or (orders t s) j 0) in
      let read : ℕ → ℕ = λ p. get_or steps (step_size * i + 1 + p) 0 in
      let given : ℕ → ℕ = λ p. get_or (words_at steps (step_size * i + 1) n) p 0 in
      let a : kept_first kept s + j ≡ first_of t s + j = ap (λ z. z + j) (K.blocks.first s (omega arith)) in
      let b : map read (members set 12) ≡ map given (filter mine (up_to n)) =
      ap (map read) (members-are set n 12 mine (K.blocks.few-params s) (λ x. K.blocks.params s j x k m))
      ∙ map_same read given (filter mine (up_to n)) (λ p q.
      sym (get_or-words_at steps (step_size * i + 1) n p (up_to-in n p (filter-in mine (up_to n) p q).0))) in
      λ r. record { schema = a r; objects = b r }

  block-is : (i : ℕ) → i < length steps / step_size →
      parts_from steps kept (step_size * i) (count_from steps kept (step_size * i)) ≡ block t (step_at t steps i)
  unfolding parts_from block
  block-is i l =
      let n = parts_of t (step_at t steps i) in
      ap (λ (k : ℕ). map (part_from steps kept (step_size * i)) (up_to k)) (count-is i l)
      ∙ map_same (part_from steps kept (step_size * i)) (part_step t (step_at t steps i)) (up_to n)
      (λ j k. part-is i j l (up_to-in n j k))

  -- the blocks of all steps are their unfolding
  pub blocks-are : blocks_from steps kept (length steps / step_size) ≡ unfold_steps t (steps_in t steps)
  unfolding blocks_from unfold_steps steps_in concat_map
  blocks-are =
      let n = length steps / step_size in
      same (up_to n) (λ i k. block-is i (up_to-in n i k))
    where
      same : (ks : List ℕ) →
          ((i : ℕ) → In i ks →
          parts_from steps kept (step_size * i) (count_from steps kept (step_size * i)) ≡ block t (step_at t steps i)) →
          concat_map (λ (i : ℕ). parts_from steps kept (step_size * i) (count_from steps kept (step_size * i))) ks ≡
          concat_map (block t) (map (step_at t steps) ks)
      same [] h = refl
      same (i ∷ ks) h = ap₂ (λ (a b : List Step). a ++ b) (h i (here refl)) (same ks (λ j k. h j (there k)))

  -- refusal 13 by the number of steps
  pub room_for : (lent : List ℕ) →
      fits_in (list_words (unfold_steps t (steps_in t steps))) lent ≡
      leb (length (unfold_steps t (steps_in t steps))) (length lent / step_size)
  unfolding fits_in
  room_for lent =
      let n = length steps / step_size in
      let a = ap (λ (ys : List Step). length (list_words ys)) (sym blocks-are) ∙ length-words steps kept n in
      let b = sum_is in
      by-steps (length (unfold_steps t (steps_in t steps))) (length (list_words (unfold_steps t (steps_in t steps))))
      (length lent) (omega arith)
