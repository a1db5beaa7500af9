-- `blocks::folding::begins_of` meets its contract. The invariant: the first parts of the schemas before s are noted.
-- The measure is the schemas left.
use Rattle.blocks.proofs.folding.begins_of.Tie as tie
use Prim.Native.Nat.{ℕ, ◌+◌, ◌-◌, ◌≤◌, ◌<◌}
use mathlib.Core.Path.{◌≡◌, refl, sym, ◌∙◌, ap}
use native.Mathlib.Omega.{arith}
use lib.ListN.{length, get_or, length-set, set}
use Rattle.words.specs.Lists.{up_to}
use Rattle.task.specs.Task.{Task}
use Rattle.blocks.specs.Blocks.{beginner}
use Rattle.blocks.specs.Unfolding.{BlocksKept}
use Rattle.blocks.specs.FoldCode.{begun_word}
use Rattle.blocks.proofs.Beginning.{begins-none, first_small, begins-more}
use Rattle.blocks.proofs.folding.begins_of.Statement.{statement}
use Rattle.task.proofs.Binding.{all-the-same}
use Rattle.tokens.specs.Kept.{kept_first}

abbrev invariant-loop-s : tie.invariant-loop-s
invariant-loop-s kept schemas begins₀ s₀ begins s =
    (s ≤ schemas) × (length begins ≡ 200) ×
    ((t : Task) → BlocksKept t kept → schemas ≡ length t.schemas →
    (k : ℕ) → get_or begins k 0 ≡ begun_word (beginner t k (up_to s)))

abbrev decreases-loop-s : tie.decreases-loop-s
decreases-loop-s kept schemas begins₀ s₀ begins s = schemas - s

-- the schema of this turn, and the number of its first part, are within the limits
small : (c : tie.In-loop-s invariant-loop-s decreases-loop-s) →
    (c.loop-s.s < 200) × (kept_first c.args.kept.now c.loop-s.s < 200)
small c =
    let (t, K, e) = c.requires in
    let l = c.loop-s-test.true in
    let few = K.few-schemas in
    (omega arith, first_small K c.loop-s.s (omega arith))

loop-holds : tie.Need-loop-s-init invariant-loop-s decreases-loop-s
loop-holds c = (omega arith, refl, λ t K e k. all-the-same 0 200 k ∙ sym (begins-none t k))

first-of-requires : tie.Need-first_of-first-requires invariant-loop-s decreases-loop-s
first-of-requires c κs = let k = (small c).0 in omega arith

mul-begins : tie.Need-offset_bounds-begins-first invariant-loop-s decreases-loop-s
mul-begins c = let k = (small c.before).1 in let e = c.first_of-first.ensures in omega arith

array-write-begins : tie.Need-bounds-begins-first invariant-loop-s decreases-loop-s
array-write-begins c = let k = (small c.before).1 in let e = c.first_of-first.ensures in omega arith

loop-again : tie.Need-loop-s-preserved invariant-loop-s decreases-loop-s
loop-again c =
    let h = c.loop-s in
    let l = c.loop-s-test.true in
    let f = c.first_of-first.ensures in (
      omega arith,
      length-set h.begins c.first_of-first.result (h.s + 1) ∙ h.invariant.1,
      λ t K e k.
          ap (λ (n : ℕ). get_or (set h.begins n (h.s + 1)) k 0) f
          ∙ begins-more K h.s (omega arith) h.begins h.invariant.1 (h.invariant.2 t K e) k,
    )

returns : tie.Need-returns invariant-loop-s decreases-loop-s
returns c = λ t K e.
    let h = c.loop-s in
    let l = c.loop-s-test.false in
    let z : h.s ≡ length t.schemas = omega arith in
    record {
      long = h.invariant.1;
      word = λ k. h.invariant.2 t K e k ∙ ap (λ (n : ℕ). begun_word (beginner t k (up_to n))) z;
    }

pub begins_of_spec : {M : Type 1} → statement M
begins_of_spec =
    tie.close
    (tie.spec invariant-loop-s decreases-loop-s loop-holds (λ c. omega arith) first-of-requires (λ c. omega arith) mul-begins
    array-write-begins (λ c. omega arith) (λ c. omega arith) loop-again returns)
