-- The words of a part, as code puts them: its schema, twelve zeros, and the objects of its parameters over them, one by
-- one.
use Prim.Native.Nat.{ℕ, zero, suc, ◌+◌, ◌-◌, ◌≤◌}
use mathlib.Core.Path.{◌≡◌, refl, sym, ◌∙◌, ap, subst}
use mathlib.Core.Bool.{Bool, true, false}
use mathlib.Core.List.{List, [], ◌∷◌, ◌++◌, map, append-nil}
use native.Mathlib.Omega.{arith}
use native.Mathlib.Numerals.{add-one}
use lib.ListN.{length, get_or, set, drop, replicate, length-map}
use lib.Seq.{set-set}
use Rattle.words.specs.Lists.{filter, keep_if, up_to, up_from, padded, over, put}
use Rattle.task.specs.Limits.{most_parameters}
use Rattle.task.specs.Run.{step_words}
use Rattle.words.proofs.Lists.{map-append, up_to-suc, filter-append, length-up_to}
use Rattle.words.proofs.Ascending.{filter-le}
use Rattle.words.specs.Putting.{Puts}
use Rattle.words.proofs.Puts.{put_on, put-before, puts_none, puts-is, puts_then, puts_word}
use Rattle.words.specs.Sets.{member, members}
use Rattle.blocks.specs.Unfolding.{objects_for}

-- ---- words put one after another
pub put-none : (lent : List ℕ) (to : ℕ) (xs : List ℕ) → xs ≡ [] → Puts lent to xs lent to
put-none lent to xs e = puts-is (puts_none lent to) refl refl xs e

module _ {lent : List ℕ} {to : ℕ} {xs out : List ℕ} {next : ℕ} (h : Puts lent to xs out next) where
  -- a run of words more
  pub put-more : (ys zs : List ℕ) → zs ≡ xs ++ ys → Puts lent to zs (put out next ys) (next + length ys)
  put-more ys zs e = puts_then h (record { words = refl; place = refl }) zs e

  -- one word more
  pub put_next : (x : ℕ) (zs : List ℕ) → zs ≡ xs ++ (x ∷ []) → Puts lent to zs (set out next x) (next + 1)
  put_next x zs e = puts_word h x zs e (next + 1) refl

-- what holds of a buffer and a place holds of those equal to them
pub both_at : (P : List ℕ → ℕ → Type 0) {out out' : List ℕ} {next next' : ℕ} → out ≡ out' → next ≡ next' →
    P out' next' → P out next
both_at P {out} {out'} {next} {next'} e f h =
    subst (λ (w : List ℕ). P w next) (sym e) (subst (λ (n : ℕ). P out' n) (sym f) h)

-- ---- the objects of the parameters below p
module _ (steps : List ℕ) (at own : ℕ) where
  abbrev objects : ℕ → List ℕ
  objects n = objects_for steps at own n

  abbrev object : ℕ → ℕ
  object p = get_or steps (at + 1 + p) 0

  pub objects-none : objects 0 ≡ []
  unfolding objects_for members up_to up_from filter
  objects-none = refl

  objects-step : (p : ℕ) (b : Bool) → member own p ≡ b → objects (p + 1) ≡ objects p ++ map object (keep_if b p [])
  unfolding objects_for members filter
  objects-step p b e =
      ap (λ (n : ℕ). map object (filter (member own) (up_to n))) (add-one p)
      ∙ (ap (λ (xs : List ℕ). map object (filter (member own) xs)) (up_to-suc p)
      ∙ (ap (map object) (filter-append (member own) (up_to p) (p ∷ []))
      ∙ (map-append object (filter (member own) (up_to p)) (keep_if (member own p) p [])
      ∙ ap (λ (c : Bool). map object (filter (member own) (up_to p)) ++ map object (keep_if c p [])) e)))

  -- one more where p is in the set
  pub objects-more : (p : ℕ) → member own p ≡ true → objects (p + 1) ≡ objects p ++ (object p ∷ [])
  unfolding keep_if
  objects-more p h = objects-step p true h

  pub objects-same : (p : ℕ) → member own p ≡ false → objects (p + 1) ≡ objects p
  unfolding keep_if
  objects-same p h = objects-step p false h ∙ append-nil (objects p)

  -- no more where none from p on is
  pub objects-end : (p d : ℕ) → ((k : ℕ) → p ≤ k → member own k ≡ false) → objects (p + d) ≡ objects p
  objects-end p zero h = let e : p + 0 ≡ p = omega arith in ap objects e
  objects-end p (suc d) h =
      let e : p + suc d ≡ p + d + 1 = omega arith in
      ap objects e ∙ (objects-same (p + d) (h (p + d) (omega arith)) ∙ objects-end p d h)

  -- at most as many as there are parameters
  pub objects-few : (n : ℕ) → length (objects n) ≤ n
  unfolding objects_for members
  objects-few n =
      let e = length-map (filter (member own) (up_to n)) object in
      let f = filter-le (member own) (up_to n) in
      let l = length-up_to n in
      omega arith

-- ---- a step's words, put in three pieces
-- a run over the front of a longer one
put-again : (w : List ℕ) (at : ℕ) (xs ys : List ℕ) → length xs ≤ length ys →
    put (put w at ys) at xs ≡ put w at (over xs ys)
unfolding over
put-again w at [] ys h = refl
put-again w at (x ∷ xs) [] h = absurd (omega arith)
put-again w at (x ∷ xs) (y ∷ ys) h =
    ap (λ (v : List ℕ). put v (suc at) xs)
    (put-before (set w at y) at x (suc at) ys (omega arith)
    ∙ ap (λ (v : List ℕ). put v (suc at) ys) (set-set w at y x))
    ∙ put-again (set w at x) (suc at) xs ys (omega arith)

-- over zeros they are padded
over_zeros : (n : ℕ) (xs : List ℕ) → length xs ≤ n → over xs (replicate n 0) ≡ padded n xs
unfolding over padded
over_zeros n xs h = ap (λ (zs : List ℕ). xs ++ zs) (left (length xs) n h)
  where
    left : (k n : ℕ) → k ≤ n → drop {A = ℕ} k (replicate n 0) ≡ replicate (n - k) 0
    left zero n h = let e : n ≡ n - 0 = omega arith in ap (λ (m : ℕ). replicate m 0) e
    left (suc k) zero h = absurd (omega arith)
    left (suc k) (suc n) h =
        let e : n - k ≡ suc n - suc k = omega arith in
        left k n (omega arith) ∙ ap (λ (m : ℕ). replicate m 0) e

-- the schema, the zeros, and the objects over these
pub put_step : (out : List ℕ) (to s : ℕ) (os : List ℕ) → length os ≤ most_parameters →
    put (put (set out to s) (to + 1) (replicate most_parameters 0)) (to + 1) os ≡
    put out to (step_words (record { schema = s; objects = os }))
unfolding step_words
put_step out to s os h =
    put-again (set out to s) (to + 1) os (replicate most_parameters 0) h
    ∙ (ap (put (set out to s) (to + 1)) (over_zeros most_parameters os h)
    ∙ put_on out to (s ∷ []) (to + 1) (padded most_parameters os) refl)
