-- Which schema's block a split step begins: as the schemas' first parts are noted one after another, each has a number
-- of its own.
use Prim.Native.Nat.{ℕ, suc, ◌+◌, ◌-◌, ◌≤◌, ◌<◌}
use mathlib.Core.Path.{◌≡◌, refl, sym, ◌∙◌, ap}
use mathlib.Core.Bool.{Bool, false, cond}
use mathlib.Core.List.{List, [], ◌∷◌, ◌++◌}
use Rattle.std.specs.Prelude.{Option, None, Some, SomeIff}
use native.Mathlib.Omega.{arith}
use native.Mathlib.Decide.{ℕ_discrete}
use native.Mathlib.Numerals.{add-one}
use lib.ListN.{length, get_or, set}
use lib.Seq.{get_or-set_same, get_or-set_other}
use lib.Dec.{eqb}
use borrow.Author.Tests.{ne_eqb}
use Rattle.words.specs.Lists.{up_to, up_from}
use Rattle.task.specs.Task.{Task}
use Rattle.words.proofs.Lists.{in-up_to, up_to-in, up_to-suc}
use Rattle.tokens.specs.Split.{first_of}
use Rattle.blocks.specs.Blocks.{beginner}
use Rattle.blocks.specs.Unfolding.{BlocksKept}
use Rattle.blocks.specs.FoldCode.{begun_word}
use Rattle.blocks.proofs.Numbers.{first_step, first-mono}
use Rattle.blocks.proofs.FoldBlock.{beginner-is}
use Rattle.tokens.specs.Kept.{kept_first}

-- among no schemas none is found
pub begins-none : (t : Task) (k : ℕ) → begun_word (beginner t k (up_to 0)) ≡ 0
unfolding begun_word beginner up_to up_from
begins-none t k = refl

-- a schema whose first part has another number changes nothing
beginner-more : (t : Task) (k s : ℕ) (ss : List ℕ) → eqb k (first_of t s) ≡ false →
    beginner t k (ss ++ (s ∷ [])) ≡ beginner t k ss
unfolding beginner
beginner-more t k s [] e = ap (λ (c : Bool). cond c (Some s) None) e
beginner-more t k s (q ∷ ss) e =
    ap (λ (r : Option ℕ). cond (eqb k (first_of t q)) (Some q) r) (beginner-more t k s ss e)

module _ {t : Task} {kept : List ℕ} (K : BlocksKept t kept) (s : ℕ)
    (l : s < length t.schemas) where
  -- its first part is one of at most 200 schemas of the split
  pub first_small : kept_first kept s < 200
  first_small =
      let e = K.first s (omega arith) in
      let n = first_step t s in
      let m = first-mono t (suc s) (length t.schemas) (omega arith) in
      let p = K.some-part s l in
      let q = K.few-splits in
      omega arith

  -- one schema more
  pub begins-more : (begins : List ℕ) → length begins ≡ 200 →
      ((k : ℕ) → get_or begins k 0 ≡ begun_word (beginner t k (up_to s))) → (k : ℕ) →
      get_or (set begins (kept_first kept s) (s + 1)) k 0 ≡ begun_word (beginner t k (up_to (s + 1)))
  unfolding begun_word
  begins-more begins n h k = elim (ℕ_discrete k (kept_first kept s)) [
    | yes e ↦
        ap (λ (z : ℕ). get_or (set begins (kept_first kept s) (s + 1)) z 0) e
        ∙ (get_or-set_same begins (kept_first kept s) (s + 1) 0 (omega (arith, first_small))
        ∙ sym (ap begun_word (ap (λ (z : ℕ). beginner t z (up_to (s + 1))) (e ∙ first) ∙ found)))
    | no e ↦
        get_or-set_other begins (kept_first kept s) k (s + 1) 0 e
        ∙ (h k ∙ sym (ap begun_word
        (ap (beginner t k) (ap up_to (add-one s) ∙ up_to-suc s)
        ∙ beginner-more t k s (up_to s) (ne_eqb k (first_of t s) (λ f. e (f ∙ sym first))))))
  ]
    where
      first : kept_first kept s ≡ first_of t s
      first = K.first s (omega arith)

      found : beginner t (first_of t s) (up_to (s + 1)) ≡ Some s
      found = beginner-is t K.some-part s l (up_to (s + 1))
          (λ q i. let m = up_to-in (s + 1) q i in omega arith) (in-up_to (s + 1) s (omega arith))

-- ---- as it is read
-- a word of 0 says none, another the number before it
pub begun_read : (o : Option ℕ) (n : ℕ) → SomeIff o (1 ≤ n) (n - 1) → begun_word o ≡ n
unfolding begun_word
begun_read None n h = omega (arith, h)
begun_read (Some s) n h = omega (arith, h.0, h.1)

pub begun_none : begun_word None ≡ 0
unfolding begun_word
begun_none = refl

-- so what the word is says which
pub begun_some : {o : Option ℕ} {s n : ℕ} → begun_word o ≡ n → o ≡ Some s → n ≡ s + 1
unfolding begun_word
begun_some e f = sym e ∙ ap begun_word f

pub begun_nothing : {o : Option ℕ} {n : ℕ} → begun_word o ≡ n → o ≡ None → n ≡ 0
unfolding begun_word
begun_nothing e f = sym e ∙ ap begun_word f
