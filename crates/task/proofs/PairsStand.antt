-- Pairs in words: how many words they take, and what is read where they stand.
use Prim.Native.Nat.{ℕ, zero, suc, ◌+◌, ◌*◌}
use mathlib.Core.Path.{◌≡◌, refl, ◌∙◌, ap}
use mathlib.Core.List.{List}
use native.Mathlib.Omega.{arith}
use lib.ListN.{length, get_or}
use Rattle.task.specs.Layout.{pair_base}
use Rattle.task.specs.Limits.{pair_size}
use Rattle.task.specs.Task.{Pair, Schema}
use Rattle.task.specs.Table.{pair_in, pair_number_in, pair_words}
use Rattle.words.proofs.Words.{At}
use Rattle.task.proofs.SchemaRows.{row_counts, Even}

pub pair_step : (w : List ℕ) (i j : ℕ) → pair_base w (i + j) ≡ pair_base w i + pair_size * j
unfolding pair_base
pair_step w i j = omega arith

abbrev pub no_pair : Pair
no_pair = record { lower = 0; higher = 0 }

abbrev pub pair_counts : List Schema → List ℕ
pair_counts ss = row_counts (λ s. s.pairs) ss

pub length-pair_words : (s : ℕ) (q : Pair) → length (pair_words s q) ≡ pair_size
unfolding pair_words
length-pair_words s q = refl

pub pairs-even : (ss : List Schema) → Even pair_words (λ s. s.pairs) pair_size ss
pairs-even ss s i q j n = length-pair_words n q

-- a pair is read where it stands, with its schema's number
pub record PairStands (w : List ℕ) (i s : ℕ) (q : Pair) : Type 0 where
  pub number : pair_number_in w i ≡ s
  pub pair : pair_in w i ≡ q

pub pair-stands : (w : List ℕ) (i s : ℕ) (q : Pair) → At w (pair_base w i) (pair_words s q) → PairStands w i s q
unfolding pair_number_in pair_in pair_words
pair-stands w i s q a =
    let z : pair_base w i ≡ pair_base w i + 0 = omega arith in
    let lower : get_or w (pair_base w i + 1) 0 ≡ q.lower = a 1 (omega arith) in
    let higher : get_or w (pair_base w i + 2) 0 ≡ q.higher = a 2 (omega arith) in
    record {
      number = ap (λ (x : ℕ). get_or w x 0) z ∙ a 0 (omega arith);
      pair = λ j. record { lower = lower j; higher = higher j };
    }

-- and any three words are a pair's
pub pair-words : (w : List ℕ) (i : ℕ) → At w (pair_base w i) (pair_words (pair_number_in w i) (pair_in w i))
unfolding pair_number_in pair_in pair_words
pair-words w i zero l = let z : pair_base w i + 0 ≡ pair_base w i = omega arith in ap (λ (x : ℕ). get_or w x 0) z
pair-words w i (suc zero) l = refl
pair-words w i (suc (suc zero)) l = refl
pair-words w i (suc (suc (suc k))) l = absurd (omega arith)
