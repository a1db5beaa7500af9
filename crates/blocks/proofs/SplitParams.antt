-- How many parameters each schema of the split has, noted part after part: as many as its part's set has numbers.
use Prim.Native.Nat.{ℕ, suc, ◌+◌, ◌≤◌, ◌<◌}
use mathlib.Core.Path.{◌≡◌, sym, ◌∙◌, ap}
use mathlib.Core.Bool.{Bool}
use mathlib.Core.List.{List}
use native.Mathlib.Omega.{arith}
use native.Mathlib.Decide.{ℕ_discrete}
use native.Mathlib.Numerals.{add-one}
use lib.ListN.{length, get_or, set, length-set}
use lib.Seq.{get_or-set_same, get_or-set_other}
use Rattle.words.specs.Lists.{sum, up_to, up_from}
use Rattle.words.specs.Sets.{members, word_bits}
use Rattle.task.specs.Task.{Schema, Task}
use Rattle.task.specs.Run.{schema_at, param_count}
use Rattle.tokens.specs.Split.{has, params_of, orders, own, split_schema, split_task, first_of}
use Rattle.tokens.specs.Kept.{kept_first, kept_count, kept_own}
use Rattle.blocks.specs.Blocks.{params_at}
use Rattle.blocks.specs.Unfolding.{BlocksKept}
use Rattle.blocks.specs.FoldCode.{ParamsNoted}
use Rattle.blocks.proofs.Numbers.{first_step, first-mono, split-schema}
use Rattle.blocks.proofs.KeptBlocks.{members-are}

-- none are counted before the first schema
pub params-start : (t : Task) {params : List ℕ} → length params ≡ 200 → ParamsNoted t (first_of t 0) params
unfolding first_of sum up_to up_from
params-start t e = record { long = e; count = λ k l. absurd (omega arith) }

-- a part's schema in the split has as many parameters as the part
pub part-arity : (t : Task) (s j k : ℕ) → s < length t.schemas → j < length (orders t s) → k ≡ first_of t s + j →
    param_count (split_task t) k ≡ length (params_at t s j)
unfolding param_count split_schema own params_at
part-arity t s j k l m e =
    ap (λ (z : ℕ). (schema_at (split_task t) z).params) e ∙ ap (λ (x : Schema). x.params) (split-schema t s j l m)

module _ {t : Task} {kept : List ℕ} (K : BlocksKept t kept) (s j : ℕ) (l : s < length t.schemas)
    (m : j < length (orders t s)) where
  -- the numbers of its set below any bound that no parameter passes are its parameters
  pub part-params : (n : ℕ) → 12 ≤ n → members (kept_own kept s j) n ≡ params_at t s j
  unfolding params_at params_of param_count
  part-params n few =
      members-are (kept_own kept s j) (schema_at t s).params n mine (let h = K.few-params s in omega arith)
      (λ x. K.params s j x l m)
    where
      mine : ℕ → Bool
      mine x = has (schema_at t s) x (get_or (orders t s) j 0)

  -- its number is one of the split's
  pub part-number : first_of t s + j < first_of t (length t.schemas)
  part-number =
      let e = first_step t s in
      let n = first-mono t (suc s) (length t.schemas) l in
      omega arith

  -- as the code looks it up: the number is the split's, and both are within the limits
  pub part-looked : (first : ℕ) → first ≡ kept_first kept s →
      (first + j ≡ first_of t s + j) × (j < 16) × (first + j < 200)
  part-looked first e =
      let f : first ≡ first_of t s = e ∙ K.first s (omega arith) in
      let n = K.few-parts s l in
      let q = K.few-splits in
      (omega arith, omega arith, omega (arith, part-number))

  -- its parameters are counted
  pub params_more : {params : List ℕ} (n k : ℕ) → n ≡ first_of t s + j →
      k ≡ length (members (kept_own kept s j) word_bits) → ParamsNoted t n params → ParamsNoted t (n + 1) (set params n k)
  params_more {params} n k e f h = record {
    long = length-set params n k ∙ h.long;
    count = λ x y. elim (ℕ_discrete x n) [
      | yes z ↦
          ap (λ (i : ℕ). get_or (set params n k) i 0) z
          ∙ (get_or-set_same params n k 0 (let q = K.few-splits in omega (arith, part-number, h.long))
          ∙ (f ∙ (ap length (part-params word_bits (omega arith)) ∙ sym (part-arity t s j x l m (z ∙ e)))))
      | no z ↦ get_or-set_other params n x k 0 z ∙ h.count x (omega arith)
    ];
  }

-- where all parts of a schema are passed, the next schema's begin
pub schema-passed : {t : Task} {kept : List ℕ} → BlocksKept t kept → (s j n : ℕ) → s < length t.schemas →
    n ≡ kept_count kept s → n ≤ j → j ≤ n → first_of t s + j ≡ first_of t (s + 1)
schema-passed {t} K s j n l e a b =
    let f = e ∙ K.count s l in
    let z : first_of t s + j ≡ first_of t s + length (orders t s) = omega arith in
    z ∙ (sym (first_step t s) ∙ ap (first_of t) (sym (add-one s)))
