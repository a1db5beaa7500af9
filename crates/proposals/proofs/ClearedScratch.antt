-- The scratch afterwards: its 128 words are "all 0", and those behind them are as lent, whatever the merging left. So a
-- scratch whose words are filled with 0 is cleared, and clearing forgets what was there.
use Prim.Native.Nat.{ℕ, ◌+◌, ◌-◌, ◌*◌, ◌≤◌, ◌<◌}
use mathlib.Core.Path.{◌≡◌, sym, ◌∙◌, ap, ap₂, subst}
use mathlib.Core.List.{List, ◌++◌}
use native.Mathlib.Omega.{arith}
use native.Mathlib.Decide.{dec_lt}
use lib.ListN.{length, get_or, take, drop, replicate, length-append, length-drop, length-replicate}
use lib.ListN.{get_or-replicate, get_or-append}
use lib.Seq.{ext_get_or, get_or-append-add, get_or-drop, length-take-le}
use Rattle.words.specs.Lists.{over}
use Rattle.task.specs.Limits.{most_atoms}
use Rattle.proposals.specs.Outcome.{scratch_words, cleared}
use Rattle.proposals.specs.Scratch.{KeepsBehind}

abbrev zeros : ℕ → List ℕ
zeros n = replicate n 0

length-zeros : (n : ℕ) → length (zeros n) ≡ n
length-zeros n = length-replicate n 0

-- "128 words of 64 bits": a scratch that has them, as code tests it, or hasn't
module _ (w : List ℕ) where
  pub has_words : 2 * most_atoms ≤ length w → scratch_words ≤ length w
  unfolding scratch_words
  has_words h = h

  pub too_few : length w < 2 * most_atoms → length w < scratch_words
  unfolding scratch_words
  too_few h = h

-- ---- word by word
pub cleared_at : (scratch : List ℕ) (i : ℕ) → i < scratch_words → get_or (cleared scratch) i 0 ≡ 0
unfolding cleared over
cleared_at scratch i l =
    let n = length-zeros scratch_words in
    get_or-append (zeros scratch_words) (drop (length (zeros scratch_words)) scratch) 0 i (omega arith) ∙
    get_or-replicate scratch_words i 0 0 l

pub cleared-behind : (scratch : List ℕ) (i : ℕ) →
    get_or (cleared scratch) (scratch_words + i) 0 ≡ get_or scratch (scratch_words + i) 0
unfolding cleared over
cleared-behind scratch i =
    let front : List ℕ = zeros scratch_words in
    let n = length-zeros scratch_words in
    ap (λ (k : ℕ). get_or (front ++ drop (length front) scratch) (k + i) 0) (sym n) ∙
    (get_or-append-add front (drop (length front) scratch) i 0 ∙
    (get_or-drop (length front) scratch i 0 ∙ ap (λ (k : ℕ). get_or scratch (k + i) 0) n))

-- ---- words set to 0
-- 0 in the scratch's words, and the lent words behind them, which code fills and leaves
pub filled : (lent : List ℕ) (n : ℕ) → n ≡ scratch_words → {zeroed : List ℕ} → n ≤ length lent →
    zeroed ≡ replicate (length (take n lent)) 0 → zeroed ++ drop n lent ≡ cleared lent
unfolding cleared over
filled lent n e room z =
    let front : length (take n lent) ≡ scratch_words = length-take-le n lent room ∙ e in
    let behind : n ≡ length (zeros scratch_words) = e ∙ sym (length-zeros scratch_words) in
    ap₂ {C = List ℕ} (λ (v : List ℕ) (k : ℕ). v ++ drop k lent) (z ∙ ap zeros front) behind

-- what is 0 in these words, and as lent behind them, is the scratch cleared
length-cleared : (lent : List ℕ) → scratch_words ≤ length lent → length (cleared lent) ≡ length lent
unfolding cleared over
length-cleared lent room =
    let n = length-zeros scratch_words in
    let a = length-append (zeros scratch_words) (drop (length (zeros scratch_words)) lent) in
    let d = length-drop (length (zeros scratch_words)) lent in
    omega arith

-- what has 0 in the scratch's words and the lent words behind them is the scratch cleared
is-cleared : (lent after : List ℕ) → scratch_words ≤ length lent → length after ≡ length lent →
    ((k : ℕ) → k < scratch_words → get_or after k 0 ≡ 0) →
    ((k : ℕ) → scratch_words ≤ k → get_or after k 0 ≡ get_or lent k 0) → after ≡ cleared lent
is-cleared lent after room long done left =
    ext_get_or 0 after (cleared lent) (long ∙ sym (length-cleared lent room)) (λ k l. elim (dec_lt k scratch_words) [
      | yes n ↦ done k n ∙ sym (cleared_at lent k n)
      | no n ↦
          let o : scratch_words + (k - scratch_words) ≡ k = omega arith in
          left k (omega arith) ∙ sym (subst (λ (j : ℕ). get_or (cleared lent) j 0 ≡ get_or lent j 0) o
          (cleared-behind lent (k - scratch_words)))
    ])

-- clearing forgets what was there
pub cleared-same : {lent kept : List ℕ} → scratch_words ≤ length lent → KeepsBehind lent kept →
    cleared kept ≡ cleared lent
cleared-same {lent} {kept} room k =
    let e = k.long in
    let more : scratch_words ≤ length kept = omega arith in
    is-cleared lent (cleared kept) room (length-cleared kept more ∙ e) (cleared_at kept) (λ i l.
    let o : scratch_words + (i - scratch_words) ≡ i = omega arith in
    subst (λ (j : ℕ). get_or (cleared kept) j 0 ≡ get_or kept j 0) o (cleared-behind kept (i - scratch_words)) ∙
    k.behind i l)
