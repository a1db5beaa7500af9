-- An atom as code puts it, ` (p0 ?x0)`, and by its role: in pieces, and how long it is. It has at most four arguments,
-- and no number has more than five digits, so it takes few bytes.
use Prim.Native.Nat.{ℕ, zero, suc, ◌+◌, ◌*◌, ◌≤◌, ◌<◌}
use mathlib.Core.Path.{◌≡◌, refl, ap}
use mathlib.Core.List.{List, [], ◌∷◌, ◌++◌}
use native.Mathlib.Nat.{mul-le-mul_left}
use native.Mathlib.Omega.{arith}
use lib.ListN.{length, get_or, length-append}
use Rattle.words.specs.Lists.{concat_map}
use Rattle.words.specs.Words.{words_at}
use Rattle.words.proofs.Lists.{In}
use Rattle.words.proofs.Words.{length-words_at}
use Rattle.task.specs.Limits.{most_arity}
use Rattle.task.specs.Layout.{arity_in}
use Rattle.task.specs.Task.{deletion}
use Rattle.text.specs.Lines.{bytes, digits}
use Rattle.text.specs.TableLines.{AtomInside}
use Rattle.text.proofs.DigitSteps.{at-most-five}
use Rattle.text.proofs.Pieces.{pieces-most}
use Rattle.defines.specs.Pddl.{closing}
use Rattle.defines.specs.ByWords.{marked, formula, formula_at, item_at}
use Rattle.defines.proofs.MarkedNames.{marked-long}

-- ---- a predicate and its arguments
pub formula-long : (mark : List ℕ) (p : ℕ) (ns : List ℕ) →
    length (formula mark p ns) ≡ 4 + length (digits p) + length (marked mark ns)
unfolding formula bytes
formula-long mark p ns =
    let a = length-append (digits p) (marked mark ns ++ (closing ∷ [])) in
    let b = length-append (marked mark ns) (closing ∷ []) in
    omega arith

-- arguments of at most d digits
pub formula-most : (mark : List ℕ) (p : ℕ) (ns : List ℕ) (d : ℕ) → length ns ≤ most_arity →
    ((n : ℕ) → In n ns → length (digits n) ≤ d) →
    length (formula mark p ns) ≤ 4 + length (digits p) + (length mark + d) * most_arity
formula-most mark p ns d short small =
    let f = formula-long mark p ns in
    let m = marked-long mark ns in
    let a = mul-le-mul_left (length mark) short in
    let b = pieces-most digits d ns small in
    let e = mul-le-mul_left d short in
    omega arith

-- ---- the atom whose words begin at b
module _ (w : List ℕ) (b : ℕ) where
  -- its predicate, and its arguments
  abbrev pub pred_at : ℕ
  pred_at = get_or w (b + 2) 0

  abbrev pub args_at : List ℕ
  args_at = words_at w (b + 4) (arity_in w pred_at)

  pub formula_at-pieces : (mark : List ℕ) →
      formula_at mark w b ≡ bytes " (p" ++ (digits pred_at ++ (marked mark args_at ++ (closing ∷ [])))
  unfolding formula_at formula
  formula_at-pieces mark = refl

  pub formula_at-long : (mark : List ℕ) →
      length (formula_at mark w b) ≡
      4 + length (digits pred_at) + length mark * arity_in w pred_at + length (concat_map digits args_at)
  unfolding formula_at
  formula_at-long mark =
      let f = formula-long mark pred_at args_at in
      let m = marked-long mark args_at in
      let n = ap (λ (n : ℕ). length mark * n) (length-words_at w (b + 4) (arity_in w pred_at)) in
      omega arith

  pub formula_at-most : (mark : List ℕ) → AtomInside w b → length mark ≤ 3 → length (formula_at mark w b) ≤ 41
  unfolding formula_at
  formula_at-most mark h s =
      let n = length-words_at w (b + 4) (arity_in w pred_at) in
      let few = h.short in
      let m = formula-most mark pred_at args_at 5 (omega arith) (λ k i. at-most-five k) in
      let p = at-most-five pred_at in
      omega arith

  -- ---- by its role
  pub item-first : (role : ℕ) → role < deletion → item_at role w b ≡ formula_at (bytes " ?x") w b
  unfolding item_at
  item-first zero h = refl
  item-first (suc zero) h = refl
  item-first (suc (suc r)) h = absurd (omega arith)

  pub item-delete : item_at deletion w b ≡ bytes " (not" ++ (formula_at (bytes " ?x") w b ++ (closing ∷ []))
  unfolding item_at
  item-delete = refl

  pub item-other : (role : ℕ) → deletion < role → item_at role w b ≡ formula_at (bytes " o") w b
  unfolding item_at
  item-other zero h = absurd (omega arith)
  item-other (suc zero) h = absurd (omega arith)
  item-other (suc (suc zero)) h = absurd (omega arith)
  item-other (suc (suc (suc r))) h = refl

  pub delete-long : length (item_at deletion w b) ≡ 6 + length (formula_at (bytes " ?x") w b)
  unfolding item_at bytes
  delete-long =
      let e = length-append (formula_at (bytes " ?x") w b) (closing ∷ []) in
      omega arith
