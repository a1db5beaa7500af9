-- Words that are written one after another, or cleared. A store at i changes the word at i alone, so each fact about
-- another word stays.
use Prim.Native.Nat.{ℕ, ◌+◌, ◌-◌, ◌/◌, ◌%◌, ◌≤◌}
use mathlib.Core.Path.{◌≡◌, sym, ◌∙◌, ap, subst}
use mathlib.Core.List.{List, ◌++◌, append-nil}
use native.Mathlib.Omega.{arith}
use lib.ListN.{length, get_or, set, take, drop, replicate, length-set, length-drop}
use lib.Seq.{get_or-set_same, get_or-set_other, length-take-le}
use borrow.Rule.Slice.PartMut.{put_mid, mid_of}
use Rattle.std.proofs.lemmas.List.{drop_all}
use Rattle.words.specs.Lists.{padded}
use Rattle.task.specs.Records.{Written}

-- ---- five words written one after another
pub written : (w : List ℕ) (a number : ℕ) → a + 5 ≤ length w →
    Written w a number (set (set (set (set (set w a (number / 1099511627776)) (a + 1) (number / 1073741824 % 1024))
    (a + 2) (number / 1048576 % 1024)) (a + 3) (number / 1024 % 1024)) (a + 4) (number % 1024))
written w a number l =
    let v₀ = number / 1099511627776 in
    let v₁ = number / 1073741824 % 1024 in
    let v₂ = number / 1048576 % 1024 in
    let v₃ = number / 1024 % 1024 in
    let v₄ = number % 1024 in
    let w₀ = set w a v₀ in
    let w₁ = set w₀ (a + 1) v₁ in
    let w₂ = set w₁ (a + 2) v₂ in
    let w₃ = set w₂ (a + 3) v₃ in
    let n₀ = length-set w a v₀ in
    let n₁ = length-set w₀ (a + 1) v₁ in
    let n₂ = length-set w₁ (a + 2) v₂ in
    let n₃ = length-set w₂ (a + 3) v₃ in
    let s₀ = get_or-set_same w a v₀ 0 (omega arith) in
    let s₁ = get_or-set_same w₀ (a + 1) v₁ 0 (omega arith) in
    let s₂ = get_or-set_same w₁ (a + 2) v₂ 0 (omega arith) in
    let s₃ = get_or-set_same w₂ (a + 3) v₃ 0 (omega arith) in
    let s₄ = get_or-set_same w₃ (a + 4) v₄ 0 (omega arith) in
    let o₁ : (i : ℕ) → (i ≡ a + 1 → ⊥) → get_or w₁ i 0 ≡ get_or w₀ i 0 = λ i h. get_or-set_other w₀ (a + 1) i v₁ 0 h in
    let o₂ : (i : ℕ) → (i ≡ a + 2 → ⊥) → get_or w₂ i 0 ≡ get_or w₁ i 0 = λ i h. get_or-set_other w₁ (a + 2) i v₂ 0 h in
    let o₃ : (i : ℕ) → (i ≡ a + 3 → ⊥) → get_or w₃ i 0 ≡ get_or w₂ i 0 = λ i h. get_or-set_other w₂ (a + 3) i v₃ 0 h in
    let o₄ : (i : ℕ) → (i ≡ a + 4 → ⊥) → get_or (set w₃ (a + 4) v₄) i 0 ≡ get_or w₃ i 0 =
    λ i h. get_or-set_other w₃ (a + 4) i v₄ 0 h in
    record {
      other = λ i. (
        λ h. o₄ i (λ e. omega arith) ∙ (o₃ i (λ e. omega arith) ∙
            (o₂ i (λ e. omega arith) ∙ (o₁ i (λ e. omega arith) ∙ get_or-set_other w a i v₀ 0 (λ e. omega arith)))),
        λ h. o₄ i (λ e. omega arith) ∙ (o₃ i (λ e. omega arith) ∙
            (o₂ i (λ e. omega arith) ∙ (o₁ i (λ e. omega arith) ∙ get_or-set_other w a i v₀ 0 (λ e. omega arith)))),
      );
      digit₀ = o₄ a (λ e. omega arith) ∙
          (o₃ a (λ e. omega arith) ∙ (o₂ a (λ e. omega arith) ∙ (o₁ a (λ e. omega arith) ∙ s₀)));
      digit₁ = o₄ (a + 1) (λ e. omega arith) ∙ (o₃ (a + 1) (λ e. omega arith) ∙ (o₂ (a + 1) (λ e. omega arith) ∙ s₁));
      digit₂ = o₄ (a + 2) (λ e. omega arith) ∙ (o₃ (a + 2) (λ e. omega arith) ∙ s₂);
      digit₃ = o₄ (a + 3) (λ e. omega arith) ∙ s₃;
      digit₄ = s₄;
    }

-- ---- zeros to the end
pub filled-padded : (w ys : List ℕ) (a : ℕ) → a ≤ length w → ys ≡ replicate (length (mid_of a (length w - a) w)) 0 →
    put_mid a (length w - a) w ys ≡ padded (length w) (take a w)
unfolding padded
filled-padded w ys a l e =
    let n = length-drop a w in
    let m : length (mid_of a (length w - a) w) ≡ length w - length (take a w) =
    omega (arith, length-take-le (length w - a) (drop a w) (omega arith), length-take-le a w l) in
    ap (λ (zs : List ℕ). take a w ++ (ys ++ zs)) (drop_all (length w - a) (drop a w) (omega arith)) ∙
    ap (λ (zs : List ℕ). take a w ++ zs) (append-nil ys ∙ (e ∙ ap (λ (k : ℕ). replicate k 0) m))

-- the same of n words, if these are all that are left
pub filled-rest : (w ys : List ℕ) (a n : ℕ) → a ≤ length w → n ≡ length w - a →
    ys ≡ replicate (length (mid_of a n w)) 0 → put_mid a n w ys ≡ padded (length w) (take a w)
filled-rest w ys a n l e =
    subst
    (λ (k : ℕ). ys ≡ replicate (length (mid_of a k w)) 0 → put_mid a k w ys ≡ padded (length w) (take a w))
    (sym e) (filled-padded w ys a l)
