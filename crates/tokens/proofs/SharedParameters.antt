-- Parameters found in two parts, as the code counts them: how many positions passed have a parameter, and whether that
-- is more than none and more than one. Then the largest of them.
use Prim.Native.Nat.{ℕ, ◌+◌, ◌≤◌, ◌<◌}
use mathlib.Core.Path.{◌≡◌, refl, sym, ◌∙◌, ap, ap₂}
use mathlib.Core.Bool.{Bool, true, false, ◌&&◌, ◌||◌}
use mathlib.Core.List.{List, [], ◌∷◌, ◌++◌}
use native.Mathlib.Omega.{arith}
use native.Mathlib.Decide.{dec_lt}
use native.Mathlib.Numerals.{add-one}
use lib.ListN.{length, get_or, length-append}
use lib.Dec.{ltb}
use borrow.Author.Tests.{lt-ltb, le-ltb, ltb-true}
use Rattle.words.specs.Lists.{filter, keep_if, up_to, up_from}
use Rattle.task.specs.Task.{Schema, Task, schema_fits}
use Rattle.task.specs.Run.{schema_at}
use Rattle.words.proofs.Lists.{filter-in, in-get_or, up_to-in, up_to-suc, filter-append, filter_same}
use Rattle.task.proofs.States.{schema_fits-fits}
use Rattle.words.specs.Sets.{member, members, word_bits}
use Rattle.words.proofs.Ranges.{or-false}
use Rattle.arcs.proofs.OrderTaken.{OrderOf}
use Rattle.tokens.specs.Split.{has, positions, parts, shared, shared_bound}
use Rattle.tokens.proofs.Places.{has-small}
use Rattle.words.proofs.Sums.{one, length-keep}
use Rattle.words.proofs.SetMembers.{above, filter-below}
use Rattle.tokens.proofs.Totals.{positions-found}
use Rattle.tokens.specs.Kept.{kept_own, ParamsKept}

-- ---- one more
pub filter_more : {A : Type 0} (p : A → Bool) (xs : List A) (x : A) →
    length (filter p (xs ++ (x ∷ []))) ≡ length (filter p xs) + one (p x)
unfolding filter
filter_more p xs x =
    let e = ap length (filter-append p xs (x ∷ [])) in
    let f = length-append (filter p xs) (keep_if (p x) x []) in
    let g = length-keep (p x) x [] in
    omega arith

more-than-none : (n : ℕ) (b : Bool) → ltb 0 (n + one b) ≡ ltb 0 n || b
more-than-none n false = ap (ltb 0) (let z : n + 0 ≡ n = omega arith in z) ∙ sym (or-false (ltb 0 n))
more-than-none n true = lt-ltb 0 (n + 1) (omega arith) ∙ go (ltb 0 n)
  where
    go : (b : Bool) → true ≡ b || true
    go true = refl
    go false = refl

more-than-one : (n : ℕ) (b : Bool) → ltb 1 (n + one b) ≡ ltb 1 n || (ltb 0 n && b)
more-than-one n false = ap (ltb 1) (let z : n + 0 ≡ n = omega arith in z) ∙ go (ltb 1 n) (ltb 0 n)
  where
    go : (a b : Bool) → a ≡ a || (b && false)
    go true b = refl
    go false true = refl
    go false false = refl
more-than-one n true = elim (dec_lt 0 n) [
  | yes l ↦ rw (lt-ltb 1 (n + 1) (omega arith), lt-ltb 0 n l) (go (ltb 1 n))
  | no l ↦ rw (le-ltb 1 (n + 1) (omega arith), le-ltb 0 n (omega arith), le-ltb 1 n (omega arith)) refl
]
  where
    go : (b : Bool) → true ≡ b || true
    go true = refl
    go false = refl

-- ---- the positions passed
-- how many of the first j sets kept of schema s have x
abbrev pub passed : List ℕ → ℕ → ℕ → ℕ → ℕ
passed kept s x j = length (filter (λ i. member (kept_own kept s i) x) (up_to j))

module _ (kept : List ℕ) (s : ℕ) where
  passed-more : (x j : ℕ) → passed kept s x (j + 1) ≡ passed kept s x j + one (member (kept_own kept s j) x)
  passed-more x j =
      ap (passed kept s x) (add-one j) ∙
      ap (λ (xs : List ℕ). length (filter (λ i. member (kept_own kept s i) x) xs)) (up_to-suc j) ∙
      filter_more (λ i. member (kept_own kept s i) x) (up_to j) j

  pub seen_more : (seen r here j : ℕ) → here ≡ kept_own kept s j →
      ((x : ℕ) → member seen x ≡ ltb 0 (passed kept s x j)) → ((x : ℕ) → member r x ≡ member seen x || member here x) →
      (x : ℕ) → member r x ≡ ltb 0 (passed kept s x (j + 1))
  seen_more seen r here j e h g x =
      g x ∙ ap₂ ◌||◌ (h x) (ap (λ (v : ℕ). member v x) e) ∙
      sym (ap (ltb 0) (passed-more x j) ∙ more-than-none (passed kept s x j) (member (kept_own kept s j) x))

  pub twice-more : (seen twice both r here j : ℕ) → here ≡ kept_own kept s j →
      ((x : ℕ) → member seen x ≡ ltb 0 (passed kept s x j)) → ((x : ℕ) → member twice x ≡ ltb 1 (passed kept s x j)) →
      ((x : ℕ) → member both x ≡ member seen x && member here x) →
      ((x : ℕ) → member r x ≡ member twice x || member both x) →
      (x : ℕ) → member r x ≡ ltb 1 (passed kept s x (j + 1))
  twice-more seen twice both r here j e h k f g x =
      g x ∙ ap₂ ◌||◌ (k x) (f x ∙ ap₂ ◌&&◌ (h x) (ap (λ (v : ℕ). member v x) e)) ∙
      sym (ap (ltb 1) (passed-more x j) ∙ more-than-one (passed kept s x j) (member (kept_own kept s j) x))

  pub none_passed : (n x : ℕ) → member 0 x ≡ false → member 0 x ≡ ltb n (passed kept s x 0)
  unfolding filter up_to up_from
  none_passed n x e = e ∙ sym (le-ltb n 0 (omega arith))

  -- all are passed
  pub all-passed : (t : Task) (o : List ℕ) → ParamsKept t s o kept → (x : ℕ) →
      passed kept s x (length o) ≡ length (positions (schema_at t s) o x)
  unfolding positions
  all-passed t o known x =
      ap length (filter_same (λ i. member (kept_own kept s i) x) (λ i. has (schema_at t s) x (get_or o i 0))
      (up_to (length o)) (λ i k. known.params i x (up_to-in (length o) i k)))

-- one that two parts have is a parameter
some-filtered : (p : ℕ → Bool) (xs : List ℕ) → 1 < length (filter p xs) → (x : ℕ) × (p x ≡ true)
some-filtered p xs l =
    let i = in-get_or (filter p xs) 0 0 (omega arith) in
    (get_or (filter p xs) 0 0, (filter-in p xs (get_or (filter p xs) 0 0) i).1)

pub shared-bounded : (t : Task) (s : ℕ) (o : List ℕ) (set : ℕ) → schema_fits t.arities (schema_at t s) ≡ true →
    (schema_at t s).params ≤ word_bits →
    OrderOf (schema_at t s) o →
    ((x : ℕ) → member set x ≡ ltb 1 (length (positions (schema_at t s) o x))) →
    above (members set word_bits) ≡ shared_bound (schema_at t s)
unfolding shared_bound shared members
shared-bounded t s o set fits few order h =
    ap above (filter_same (member set) (shared old) (up_to word_bits) (λ x i. is_shared x) ∙
    filter-below (shared old) old.params word_bits few small)
  where
    old : Schema
    old = schema_at t s

    is_shared : (x : ℕ) → member set x ≡ shared old x
    is_shared x = h x ∙ ap (ltb 1) (positions-found t s o order x)

    small : (x : ℕ) → shared old x ≡ true → x < old.params
    small x e =
        let (p, f) = some-filtered (has old x) (up_to (parts old)) (ltb-true 1 _ e) in
        has-small old t.arities (schema_fits-fits t.arities old fits) x p f
