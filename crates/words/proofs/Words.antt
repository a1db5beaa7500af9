-- Rows of words: lists that stand one after another in words, each of one length, and a row that is a head,
-- its arguments and zeros, as a step and a record are. Read back by `At`, and tested word by word.
use Prim.Native.Nat.{ℕ, zero, suc, ◌+◌, ◌-◌, ◌*◌, ◌≤◌, ◌<◌}
use mathlib.Core.Path.{◌≡◌, refl, sym, ◌∙◌, ap, ap₂, subst}
use mathlib.Core.Bool.{Bool, true, false, ◌&&◌}
use mathlib.Core.List.{List, [], ◌∷◌, ◌++◌, map}
use native.Mathlib.Omega.{arith}
use native.Mathlib.Nat.{mul-zero, mul-suc}
use native.Mathlib.Numerals.{add-one}
use lib.ListN.{length, get_or, take, replicate, length-append, length-map, get_or-append}
use lib.Seq.{ext_get_or, get_or-take, length-take-le, get_or-append-add}
use lib.Dec.{eqb}
use borrow.Author.Tests.{eq-eqb}
use Rattle.words.specs.Lists.{all, concat_map, up_from, eq_list, padded}
use Rattle.words.specs.Words.{words_at}
use Rattle.words.proofs.Lists.{In, here, there, map-append, get_or-map, in-get_or, all_in}
use Rattle.words.proofs.Lists.{length-up_from, get_or-up_from, up_from-append, tabulate}
use native.Mathlib.Decide.{dec_lt}

-- ---- words that stand from a place on
abbrev pub At : List ℕ → ℕ → List ℕ → Type 0
At w i xs = (k : ℕ) → k < length xs → get_or w (i + k) 0 ≡ get_or xs k 0

pub at_left : (w : List ℕ) (i : ℕ) (xs ys : List ℕ) → At w i (xs ++ ys) → At w i xs
at_left w i xs ys h k l = h k (omega (arith, length-append xs ys)) ∙ get_or-append xs ys 0 k l

pub at_right : (w : List ℕ) (i : ℕ) (xs ys : List ℕ) → At w i (xs ++ ys) → At w (i + length xs) ys
at_right w i xs ys h k l =
    let e : (i + length xs) + k ≡ i + (length xs + k) = omega arith in
    ap (λ (j : ℕ). get_or w j 0) e ∙ (h (length xs + k) (omega (arith, length-append xs ys)) ∙ get_or-append-add xs ys k 0)

pub at-move : (w : List ℕ) (i j : ℕ) (xs : List ℕ) → i ≡ j → At w i xs → At w j xs
at-move w i j xs e h = subst (λ (m : ℕ). At w m xs) e h

pub at_join : (w : List ℕ) (i : ℕ) (xs ys : List ℕ) → At w i xs → At w (i + length xs) ys → At w i (xs ++ ys)
at_join w i xs ys a b k l = elim (dec_lt k (length xs)) [
  | yes m ↦ a k m ∙ sym (get_or-append xs ys 0 k m)
  | no m ↦
      let j : ℕ = k - length xs in
      let e : k ≡ length xs + j = omega arith in
      let f : i + k ≡ (i + length xs) + j = omega arith in
      ap (λ (x : ℕ). get_or w x 0) f ∙ (b j (omega (arith, length-append xs ys)) ∙
      (sym (get_or-append-add xs ys j 0) ∙ ap (λ (x : ℕ). get_or (xs ++ ys) x 0) (sym e)))
]

pub words_at-at : (w : List ℕ) (i : ℕ) (xs : List ℕ) → At w i xs → words_at w i (length xs) ≡ xs
unfolding words_at
words_at-at w i xs h = tabulate (λ k. get_or w k 0) i xs 0 h

pub length-words_at : (w : List ℕ) (i n : ℕ) → length (words_at w i n) ≡ n
unfolding words_at
length-words_at w i n = length-map (up_from i n) (λ k. get_or w k 0) ∙ length-up_from i n

pub at-words_at : (w : List ℕ) (i n : ℕ) → At w i (words_at w i n)
unfolding words_at
at-words_at w i n k l =
    let e = length-words_at w i n in
    let m : k < length (up_from i n) = rw (length-map (up_from i n) (λ k. get_or w k 0)) at l in
    let q = length-up_from i n in
    sym (get_or-map (λ k. get_or w k 0) (up_from i n) k 0 0 m ∙
    ap (λ (x : ℕ). get_or w x 0) (get_or-up_from i n k 0 (omega arith)))

pub and-false : (a : Bool) → a && false ≡ false
and-false true = refl
and-false false = refl

-- ---- words from a place on
pub words_at-next : (w : List ℕ) (i n : ℕ) → words_at w i (suc n) ≡ get_or w i 0 ∷ words_at w (i + 1) n
unfolding words_at up_from
words_at-next w i n = rw add-one refl

pub words_at-append : (w : List ℕ) (i a b : ℕ) → words_at w i (a + b) ≡ words_at w i a ++ words_at w (i + a) b
unfolding words_at
words_at-append w i a b =
    ap (map (λ k. get_or w k 0)) (up_from-append i a b) ∙ map-append (λ k. get_or w k 0) (up_from i a) (up_from (i + a) b)

pub get_or-words_at : (w : List ℕ) (i n k : ℕ) → k < n → get_or (words_at w i n) k 0 ≡ get_or w (i + k) 0
get_or-words_at w i n k l = let e = length-words_at w i n in sym (at-words_at w i n k (omega arith))

pub words_at-take : (w : List ℕ) (n : ℕ) → n ≤ length w → words_at w 0 n ≡ take n w
words_at-take w n h =
    let a = length-words_at w 0 n in
    let b = length-take-le n w h in
    ext_get_or 0 (words_at w 0 n) (take n w) (a ∙ sym b) (λ k l.
    let z : 0 + k ≡ k = omega arith in
    get_or-words_at w 0 n k (omega arith) ∙ (ap (λ (x : ℕ). get_or w x 0) z ∙ sym (get_or-take n w k 0 (omega arith))))

-- words that stand at a place are those found there
pub words_at-is : (w : List ℕ) (i n : ℕ) (xs : List ℕ) → length xs ≡ n → At w i xs → words_at w i n ≡ xs
words_at-is w i n xs e h = ap (words_at w i) (sym e) ∙ words_at-at w i xs h

-- ---- the numbers of a list
pub past_end : (xs : List ℕ) (k : ℕ) → length xs ≤ k → get_or xs k 0 ≡ 0
past_end [] k l = refl
past_end (x ∷ xs) zero l = absurd (omega arith)
past_end (x ∷ xs) (suc k) l = past_end xs k (omega arith)

-- what a test of the first n says of each
pub each_first : (p : ℕ → Bool) (xs : List ℕ) (n : ℕ) → n ≤ length xs → all p (take n xs) ≡ true → (k : ℕ) → k < n →
    p (get_or xs k 0) ≡ true
each_first p xs n l h k m =
    let e = length-take-le n xs l in
    ap p (sym (get_or-take n xs k 0 m)) ∙ all_in p h (in-get_or (take n xs) k 0 (omega arith))

-- ---- rows of one length
module _ {A : Type 0} (g : A → List ℕ) (size : ℕ) where
  pub length-rows : (xs : List A) → ((x : A) → In x xs → length (g x) ≡ size) →
      length (concat_map g xs) ≡ size * length xs
  unfolding concat_map
  length-rows [] h = sym (mul-zero size)
  length-rows (x ∷ xs) h =
      let a = h x (here refl) in
      let b = length-rows xs (λ y i. h y (there i)) in
      omega (arith, length-append (g x) (concat_map g xs), mul-suc size (length xs))

  pub at_row : (w : List ℕ) (b : ℕ) (xs : List A) (d : A) → ((x : A) → In x xs → length (g x) ≡ size) →
      At w b (concat_map g xs) → (k : ℕ) → k < length xs → At w (b + size * k) (g (get_or xs k d))
  unfolding concat_map
  at_row w b [] d h a k l = absurd (omega arith)
  at_row w b (x ∷ xs) d h a zero l =
      at-move w b (b + size * 0) (g x) (omega (arith, mul-zero size)) (at_left w b (g x) (concat_map g xs) a)
  at_row w b (x ∷ xs) d h a (suc k) l =
      let e = h x (here refl) in
      at-move w ((b + length (g x)) + size * k) (b + size * suc k) (g (get_or xs k d)) (omega (arith, mul-suc size k))
      (at_row w (b + length (g x)) xs d (λ y i. h y (there i)) (at_right w b (g x) (concat_map g xs) a) k (omega arith))

  pub join-rows : (w : List ℕ) (b : ℕ) (xs : List A) (d : A) → ((x : A) → In x xs → length (g x) ≡ size) →
      ((k : ℕ) → k < length xs → At w (b + size * k) (g (get_or xs k d))) → At w b (concat_map g xs)
  unfolding concat_map
  join-rows w b [] d e h = λ k l. absurd (omega arith)
  join-rows w b (x ∷ xs) d e h =
      let n = e x (here refl) in
      at_join w b (g x) (concat_map g xs)
      (at-move w (b + size * 0) b (g x) (omega (arith, mul-zero size)) (h 0 (omega arith)))
      (join-rows w (b + length (g x)) xs d (λ y i. e y (there i)) (λ k l.
      at-move w (b + size * suc k) (b + length (g x) + size * k) (g (get_or xs k d)) (omega (arith, mul-suc size k))
      (h (suc k) (omega arith))))

-- ---- a row: a head, its arguments, zeros
-- what stands as a row is read as its head and its arguments
pub row-head : (w : List ℕ) (b m x : ℕ) (xs : List ℕ) → At w b (x ∷ padded m xs) → get_or w b 0 ≡ x
row-head w b m x xs h = let z : b ≡ b + 0 = omega arith in ap (λ (y : ℕ). get_or w y 0) z ∙ h 0 (omega arith)

pub row-arguments : (w : List ℕ) (b m n x : ℕ) (xs : List ℕ) → length xs ≡ n → At w b (x ∷ padded m xs) →
    words_at w (b + 1) n ≡ xs
unfolding padded
row-arguments w b m n x xs e h =
    let zs : List ℕ = replicate (m - length xs) 0 in
    words_at-is w (b + 1) n xs e (at_left w (b + 1) xs zs (at_right w b (x ∷ []) (xs ++ zs) h))

pub eq_list-same-front : (xs ys zs : List ℕ) → eq_list (xs ++ ys) (xs ++ zs) ≡ eq_list ys zs
unfolding eq_list
eq_list-same-front [] ys zs = refl
eq_list-same-front (x ∷ xs) ys zs = ap₂ ◌&&◌ (eq-eqb x x refl) (eq_list-same-front xs ys zs)

pub eq_list-zeros : (xs : List ℕ) (n : ℕ) → length xs ≡ n → eq_list xs (replicate n 0) ≡ all (λ a. eqb a 0) xs
unfolding eq_list all
eq_list-zeros [] zero e = refl
eq_list-zeros [] (suc n) e = absurd (omega arith)
eq_list-zeros (x ∷ xs) zero e = absurd (omega arith)
eq_list-zeros (x ∷ xs) (suc n) e = ap (◌&&◌ (eqb x 0)) (eq_list-zeros xs n (omega arith))

-- a row's words are right where those behind its arguments are 0
module _ (w : List ℕ) (b m n : ℕ) (few : n ≤ m) where
  abbrev behind : Bool
  behind = all (λ a. eqb a 0) (words_at w (b + 1 + n) (m - n))

  padding-test : eq_list (words_at w (b + 1) m) (padded m (words_at w (b + 1) n)) ≡ behind
  unfolding padded
  padding-test =
      let e : m ≡ n + (m - n) = omega arith in
      let l = length-words_at w (b + 1) n in
      let q : m - length (words_at w (b + 1) n) ≡ m - n = omega arith in
      ap₂ (λ (x : List ℕ) (k : ℕ). eq_list x (words_at w (b + 1) n ++ replicate k 0))
      (ap (words_at w (b + 1)) e ∙ words_at-append w (b + 1) n (m - n)) q ∙
      (eq_list-same-front (words_at w (b + 1) n) (words_at w (b + 1 + n) (m - n)) (replicate (m - n) 0) ∙
      eq_list-zeros (words_at w (b + 1 + n) (m - n)) (m - n) (length-words_at w (b + 1 + n) (m - n)))

  -- the tests of a step and of a record come down to three: the head, the arguments, the words behind them
  pub row-test : (known small : Bool) →
      (known && (eqb (length (words_at w (b + 1) n)) n && small)) &&
      eq_list (words_at w b (suc m)) (get_or w b 0 ∷ padded m (words_at w (b + 1) n)) ≡
      known && (small && behind)
  unfolding eq_list
  row-test known small =
      let whole : eq_list (words_at w b (suc m)) (get_or w b 0 ∷ padded m (words_at w (b + 1) n)) ≡ behind =
      ap (λ (x : List ℕ). eq_list x (get_or w b 0 ∷ padded m (words_at w (b + 1) n))) (words_at-next w b m) ∙
      ap₂ ◌&&◌ (eq-eqb (get_or w b 0) (get_or w b 0) refl) padding-test in
      ap₂ (λ (x y : Bool). (known && (x && small)) && y)
      (eq-eqb (length (words_at w (b + 1) n)) n (length-words_at w (b + 1) n)) whole ∙
      and_assoc known small behind
    where
      and_assoc : (x y z : Bool) → (x && y) && z ≡ x && (y && z)
      and_assoc true y z = refl
      and_assoc false y z = refl
