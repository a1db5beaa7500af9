-- Words written into a table, by index: a run grows by one word, what stands elsewhere stays, and a list that was
-- written stands there. And comparisons and searches in a row of words, turn by turn.
use Prim.Native.Nat.{◌-◌, ℕ, ◌+◌, ◌≤◌, ◌<◌}
use mathlib.Core.Path.{◌≡◌, refl, sym, ◌∙◌, ap, subst}
use mathlib.Core.Bool.{Bool, true, false}
use mathlib.Core.List.{List, ◌++◌}
use native.Mathlib.Omega.{arith}
use native.Mathlib.Decide.{dec_lt}
use lib.ListN.{length, get_or, set, length-set, get_or-append}
use lib.Seq.{get_or-set_same, get_or-set_other, get_or-append-add}
use lib.Dec.{eqb}
use borrow.Author.Tests.{eqb-true, eqb-false}
use Rattle.words.proofs.Words.{At}
use Rattle.text.specs.ReadCode.{Wrote}

pub wrote_none : (w : List ℕ) (at : ℕ) (f : ℕ → ℕ) → Wrote w at 0 f w
wrote_none w at f = record {
  size = refl;
  put = λ k l. absurd (omega arith);
  before = λ j l. refl;
  behind = λ j l. refl;
}

module _ {w after : List ℕ} {at n : ℕ} {f : ℕ → ℕ} where
  pub wrote-all : {k : ℕ} → n ≡ k → Wrote w at n f after → Wrote w at k f after
  wrote-all e h = subst (λ (k : ℕ). Wrote w at k f after) e h

  -- the same words by another function
  pub wrote-same : {g : ℕ → ℕ} → ((k : ℕ) → k < n → f k ≡ g k) → Wrote w at n f after → Wrote w at n g after
  wrote-same e h = record {
    size = h.size;
    put = λ k l. h.put k l ∙ e k l;
    before = h.before;
    behind = h.behind;
  }

  module _ (h : Wrote w at n f after) where
    -- a list that was written stands there
    pub stands : (xs : List ℕ) → length xs ≡ n → ((k : ℕ) → k < n → f k ≡ get_or xs k 0) → At after at xs
    stands xs e g k l = h.put k (omega arith) ∙ g k (omega arith)

    -- what stands elsewhere stays
    pub stays-before : (i : ℕ) (xs : List ℕ) → i + length xs ≤ at → At w i xs → At after i xs
    stays-before i xs l a k m = h.before (i + k) (omega arith) ∙ a k m

    pub stays-behind : (i : ℕ) (xs : List ℕ) → at + n ≤ i → At w i xs → At after i xs
    stays-behind i xs l a k m = h.behind (i + k) (omega arith) ∙ a k m

-- words put behind others
pub wrote-behind : {w v u : List ℕ} {at n next m whole : ℕ} (xs ys : List ℕ) → length xs ≡ n → next ≡ at + n →
    whole ≡ n + m → Wrote w at n (λ k. get_or xs k 0) v → Wrote v next m (λ k. get_or ys k 0) u →
    Wrote w at whole (λ k. get_or (xs ++ ys) k 0) u
wrote-behind {w} {v} {u} {at} {n} {next} {m} {whole} xs ys e p q a b = record {
  size = b.size ∙ a.size;
  put = go;
  before = λ j l. b.before j (omega arith) ∙ a.before j l;
  behind = λ j l. b.behind j (omega arith) ∙ a.behind j (omega arith);
}
  where
    go : (k : ℕ) → k < whole → get_or u (at + k) 0 ≡ get_or (xs ++ ys) k 0
    go k l = elim (dec_lt k n) [
      | yes r ↦ b.before (at + k) (omega arith) ∙ (a.put k r ∙ sym (get_or-append xs ys 0 k (omega arith)))
      | no r ↦
          let z : at + k ≡ next + (k - n) = omega arith in
          let y : length xs + (k - n) ≡ k = omega arith in
          ap (λ (i : ℕ). get_or u i 0) z ∙ (b.put (k - n) (omega arith) ∙
          (sym (get_or-append-add xs ys (k - n) 0) ∙ ap (λ (i : ℕ). get_or (xs ++ ys) i 0) y))
    ]
