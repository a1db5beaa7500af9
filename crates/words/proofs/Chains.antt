-- Chains of iterators over a range or a slice, in the words of the definitions. An answer is one line, of which the
-- last argument is always the same:
--     K = (λ x b q k. search (rules, tests))        from Rattle.std.proofs.Common.{rules, tests}
-- all, any: the first argument says what the whole is over the indices of the range, by any law of Loops 'at first'
-- (`all_start`, `all-up-to refl`, `all-between`, `all_words`, `all-mapped`, `any-start`, ..), or one of your own:
--     (from..to).all(|i| ..)             returns c = all_ran (all-between _ _ _ _) c.all.ensures.ran K
--     (0..n).any(|k| ..)                 returns c = any_ran (any-up-to refl) c.any.ensures.ran K
-- find, count, sum: of `up_from from (to - from)`, or `up_to n` for `0..n`
--     (from..to).find(|i| ..)            returns c = find_ran _ c.find.ensures.ran K
--     (0..n).find(|i| ..)                returns c = find_up_to _ c.find.ensures.ran K
--     (from..to).find(|i| ..).unwrap_or(to): no index before it passes
--         returns c = find_or_end _ _ _ (omega arith) c.unwrap_or.ensures c.find.ensures.ran K
--     (from..to).filter(|i| ..).count()
--         returns c = count_ran _ c.filter.ensures.source c.filter.ensures.closure c.count.ensures.ran K
--     (from..to).map(|i| ..).sum()
--         returns c = sum_ran _ c.map.ensures.source c.map.ensures.closure c.sum.ensures.ran K
--         sum-requires-clause-fits c =
--             sum_fits (λ i. ..) c.map.ensures.source c.map.ensures.closure K (omega arith)
-- a stretch of a slice:
--     table[at..at + n].contains(&word)
--         returns c = contains_words _ _ _ _ _ (omega arith) (omega arith) c.contains.ensures.value
--     table[at..at + n].iter().all(|x| ..)
--         returns c = all_yielded _ (slice_yields _ _ _ (omega arith) (omega arith) c.iter.ensures.rest)
--             c.all.ensures.ran K
use Prim.Native.Nat.{ℕ, zero, suc, ◌+◌, ◌-◌, ◌≤◌, ◌<◌}
use mathlib.Core.Path.{◌≡◌, refl, sym, ◌∙◌, ap}
use mathlib.Core.Bool.{Bool, true, false, ◌&&◌, ◌||◌, cond}
use mathlib.Core.List.{List, [], ◌∷◌, map}
use native.Mathlib.Omega.{arith}
use native.Mathlib.Numerals.{add-one}
use lib.ListN.{length, take, drop, length-drop}
use lib.Seq.{ext_get_or, get_or-take, get_or-drop, length-take-le}
use lib.Dec.{eqb}
use denote.Ref.{Bor}
use denote.Param.Members.{Mut}
use Rattle.std.specs.Prelude.{Option, None, Some}
use Rattle.std.specs.Bool.{⊤}
use Rattle.std.specs.Option.{MatchOption, unwrap_or}
use Rattle.std.specs.Fn.{Called, CalledAt}
use Rattle.std.specs.declared.ops.Range.{Range}
use Rattle.std.specs.declared.iter.Filter.{Filter}
use Rattle.std.specs.declared.iter.Map.{Map}
use Rattle.std.specs.Iterator.{YieldsThen, Drains}
use Rattle.std.specs.Iterator.Adapters.{filter_source, filter_callee, filter_steps, map_source, map_callee}
use Rattle.std.specs.Iterator.Runs.{EachRunFrom}
use Rattle.std.specs.List.{range_with_len, FoldsTo, list_all, list_any, find}
use Rattle.std.specs.List
use Rattle.std.specs.declared.slice.Iter.{Iter}
use Rattle.std.specs.Slice.Iter.{iter_rest}
use Rattle.std.proofs.iter.Yields.{nat_range_steps, fronts}
use Rattle.std.proofs.lemmas.Iterator.Adapters.{option_map_id}
use Rattle.std.proofs.lemmas.Iterator.{YieldsList, YieldsList-from_range, YieldsList-from_slice}
use Rattle.std.proofs.lemmas.Iterator.{YieldsList-from_map, maps, first_from_Range}
use Rattle.std.proofs.lemmas.Iterator.Consumers.{YieldsList-from_filter, count_from_yields_List}
use Rattle.std.proofs.lemmas.Iterator.Consumers.{sum_from_yields_List, fits_from_yields_list}
use Rattle.std.proofs.lemmas.Iterator.Search.{all_from_yields_List, any_from_yields_List, find_from_yields_List}
use Rattle.words.specs.Lists.{all, any, filter, keep_if, first, head, sum, up_to, up_from}
use Rattle.words.specs.Words.{words_at}
use Rattle.words.proofs.Loops.{AllLeft, AnyLeft}
use Rattle.words.proofs.Lists.{any_same}
use Rattle.words.proofs.Sums.{eqb-turn}
use Rattle.words.proofs.Words.{get_or-words_at, length-words_at}

-- ---- the lists of std
pub range-up_from : (a n : ℕ) → range_with_len a n ≡ up_from a n
unfolding up_from
range-up_from a zero = refl
range-up_from a (suc n) =
    ap {B = List ℕ} (λ (is : List ℕ). a ∷ is) (range-up_from (a + 1) n ∙ ap (λ (s : ℕ). up_from s n) (add-one a))

module _ {A : Type 0} (p : A → Bool) where
  pub list_all-all : (xs : List A) → list_all p xs ≡ all p xs
  unfolding all
  list_all-all [] = refl
  list_all-all (x ∷ xs) = ap (λ (b : Bool). p x && b) (list_all-all xs)

  pub list_any-any : (xs : List A) → list_any p xs ≡ any p xs
  unfolding any
  list_any-any [] = refl
  list_any-any (x ∷ xs) = ap (λ (b : Bool). p x || b) (list_any-any xs)

  pub filter-filter : (xs : List A) → List.filter p xs ≡ filter p xs
  unfolding filter keep_if
  filter-filter [] = refl
  filter-filter (x ∷ xs) = go (p x) (filter-filter xs)
    where
      go : (b : Bool) → List.filter p xs ≡ filter p xs →
          cond b (x ∷ List.filter p xs) (List.filter p xs) ≡ keep_if b x (filter p xs)
      go true h = ap {B = List A} (λ (ys : List A). x ∷ ys) h
      go false h = h

  pub find-first : (xs : List A) → find p xs ≡ first p xs
  unfolding first filter keep_if head
  find-first [] = refl
  find-first (x ∷ xs) = go (p x) (find-first xs)
    where
      go : (b : Bool) → find p xs ≡ head (filter p xs) → cond b (Some x) (find p xs) ≡ head (keep_if b x (filter p xs))
      go true h = refl
      go false h = h

fold-sum : (a : ℕ) (xs : List ℕ) → List.fold (λ a x. a + x) a xs ≡ a + sum xs
unfolding sum
fold-sum a [] = omega arith
fold-sum a (x ∷ xs) = let h = fold-sum (a + x) xs in omega arith

pub sum-sum : (xs : List ℕ) → List.sum xs ≡ sum xs
sum-sum xs = let h = fold-sum 0 xs in omega arith

-- the indices of `0..n`
up_to-from : (n : ℕ) → up_from 0 (n - 0) ≡ up_to n
unfolding up_to
up_to-from n = let z : n - 0 ≡ n = omega arith in ap (up_from 0) z

-- ---- a test of all, a search
module _ {F : Type 0} {g : Mut F (ℕ × Unit {0}) Bool} {p : ℕ → Bool} {i e : ℕ} {whole : Bool}
    {u : Range ℕ} {f : F} {r : Bool} where
  pub all_ran : AllLeft p e whole i
      → (xs : List ℕ) × (o : Option ℕ) × (j : F) ×
      YieldsThen nat_range_steps (record { start = i; end = e }) xs o u ×
      FoldsTo (λ p x q. Called g p (x, tt) true q) f xs j ×
      MatchOption o (r ≡ true) (λ x. (r ≡ false) × ((h : F) × Called g j (x, tt) false h))
      → ((x : ℕ) (b : Bool) (q : F) → Called g f (x, tt) b q → (q ≡ f) × (b ≡ p x)) → r ≡ whole
  all_ran h d k =
      all_from_yields_List p u f r d (YieldsList-from_range i e (e - i) refl refl) k ∙
      (list_all-all p _ ∙ (ap (all p) (range-up_from i (e - i)) ∙ sym h.left))

  pub any_ran : AnyLeft p e whole i
      → (xs : List ℕ) × (o : Option ℕ) × (j : F) ×
      YieldsThen nat_range_steps (record { start = i; end = e }) xs o u ×
      FoldsTo (λ p x q. Called g p (x, tt) false q) f xs j ×
      MatchOption o (r ≡ false) (λ x. (r ≡ true) × ((h : F) × Called g j (x, tt) true h))
      → ((x : ℕ) (b : Bool) (q : F) → Called g f (x, tt) b q → (q ≡ f) × (b ≡ p x)) → r ≡ whole
  any_ran h d k =
      any_from_yields_List p u f r d (YieldsList-from_range i e (e - i) refl refl) k ∙
      (list_any-any p _ ∙ (ap (any p) (range-up_from i (e - i)) ∙ sym h.left))

module _ {F : Type 0} {g : Mut F (Bor ℕ × Unit {0}) Bool} {p : ℕ → Bool} {i e : ℕ} (u : Range ℕ)
    {f : F} {r : Option ℕ} where
  pub find_ran : (xs : List ℕ) × (j : F) × YieldsThen nat_range_steps (record { start = i; end = e }) xs r u ×
      FoldsTo (λ p x q. CalledAt g p x false q) f xs j ×
      MatchOption r ⊤ (λ x. (h : F) × CalledAt g j x true h)
      → ((x : ℕ) (b : Bool) (q : F) → CalledAt g f x b q → (q ≡ f) × (b ≡ p x)) →
      r ≡ first p (up_from i (e - i))
  find_ran d k =
      sym (option_map_id r) ∙
      (find_from_yields_List p u f r d (YieldsList-from_range i e (e - i) refl refl) k ∙
      (find-first p _ ∙ ap (first p) (range-up_from i (e - i))))

module _ {F : Type 0} {g : Mut F (Bor ℕ × Unit {0}) Bool} {p : ℕ → Bool} {e : ℕ} (u : Range ℕ)
    {f : F} {r : Option ℕ} where
  pub find_up_to : (xs : List ℕ) × (j : F) × YieldsThen nat_range_steps (record { start = 0; end = e }) xs r u ×
      FoldsTo (λ p x q. CalledAt g p x false q) f xs j ×
      MatchOption r ⊤ (λ x. (h : F) × CalledAt g j x true h)
      → ((x : ℕ) (b : Bool) (q : F) → CalledAt g f x b q → (q ≡ f) × (b ≡ p x)) → r ≡ first p (up_to e)
  find_up_to d k = find_ran u d k ∙ ap (first p) (up_to-from e)

-- `(i..e).find(|k| ..).unwrap_or(e)`: none before what is found passes
module _ {F : Type 0} {g : Mut F (Bor ℕ × Unit {0}) Bool} {i e : ℕ} (u : Range ℕ) {f : F} (r : Option ℕ) {n : ℕ}
    (No : ℕ → Type 0) where
  pub find_or_end : i ≤ e → n ≡ unwrap_or r e →
      (xs : List ℕ) × (j : F) × YieldsThen nat_range_steps (record { start = i; end = e }) xs r u ×
      FoldsTo (λ p x q. CalledAt g p x false q) f xs j ×
      MatchOption r ⊤ (λ x. (h : F) × CalledAt g j x true h)
      → ((x : ℕ) (q : F) → CalledAt g f x false q → (q ≡ f) × No x) →
      (i ≤ n) × (n ≤ e) × ((k : ℕ) → i ≤ k → k < n → No k)
  find_or_end l m d fails =
      go r m (first_from_Range (record { start = i; end = e }) u f r (λ x. ⊤) No d (λ x q k. tt) fails)
    where
      go : (o : Option ℕ) → n ≡ unwrap_or o e →
          MatchOption o ((k : ℕ) → i ≤ k → k < e → No k)
          (λ x. (i ≤ x) × (x < e) × ⊤ × ((k : ℕ) → i ≤ k → k < x → No k)) →
          (i ≤ n) × (n ≤ e) × ((k : ℕ) → i ≤ k → k < n → No k)
      go None m h = (omega arith, omega arith, λ k a b. h k a (omega arith))
      go (Some x) m h =
          let (a, b, t, none) = h in (omega arith, omega arith, λ k c d. none k c (omega arith))

-- ---- how many of a range pass, and the sum of what each gives
module _ {F : Type 0} {g : Mut F (Bor ℕ × Unit {0}) Bool} (p : ℕ → Bool) {i e : ℕ}
    {s : Filter (Range ℕ) F} {f : F} {r : ℕ} where
  pub count_ran : filter_source s ≡ record { start = i; end = e } → filter_callee s ≡ f
      → (xs : List ℕ) × Drains (filter_steps nat_range_steps g) s xs × (r ≡ length xs)
      → ((x : ℕ) (b : Bool) (q : F) → CalledAt g f x b q → (q ≡ f) × (b ≡ p x)) →
      r ≡ length (filter p (up_from i (e - i)))
  count_ran a c d k =
      count_from_yields_List s r d
      (YieldsList-from_filter g p (YieldsList-from_range i e (e - i) a refl) c k) ∙
      (ap length (filter-filter p (range_with_len i (e - i))) ∙
      ap (λ (is : List ℕ). length (filter p is)) (range-up_from i (e - i)))

summed : (h : ℕ → ℕ) (i n : ℕ) → List.sum (map h (range_with_len i n)) ≡ sum (map h (up_from i n))
summed h i n = sum-sum (map h (range_with_len i n)) ∙ ap (λ (is : List ℕ). sum (map h is)) (range-up_from i n)

module _ {F : Type 0} {g : Mut F (ℕ × Unit {0}) ℕ} (h : ℕ → ℕ) {i e : ℕ} {s : Map (Range ℕ) F} {f : F} where
  pub sum_fits : {top : ℕ} → map_source s ≡ record { start = i; end = e } → map_callee s ≡ f
      → ((x : ℕ) (b : ℕ) (q : F) → Called g f (x, tt) b q → (q ≡ f) × (b ≡ h x)) →
      sum (map h (up_from i (e - i))) < top
      → EachRunFrom (maps nat_range_steps g) s (λ p. List.fold (λ a x. a + x) 0 p.items < top)
  sum_fits {top} a c k l =
      fits_from_yields_list s top (YieldsList-from_map g h (YieldsList-from_range i e (e - i) a refl) c k)
      (let q = summed h i (e - i) in omega arith)

  pub sum_ran : {r : ℕ} → map_source s ≡ record { start = i; end = e } → map_callee s ≡ f
      → (xs : List ℕ) × (⊤ → Drains (maps nat_range_steps g) s xs) × (r ≡ List.fold (λ a x. a + x) 0 xs)
      → ((x : ℕ) (b : ℕ) (q : F) → Called g f (x, tt) b q → (q ≡ f) × (b ≡ h x)) →
      r ≡ sum (map h (up_from i (e - i)))
  sum_ran {r} a c d k =
      sum_from_yields_List s r d (YieldsList-from_map g h (YieldsList-from_range i e (e - i) a refl) c k) ∙ summed h i (e - i)

-- ---- a stretch of a slice
pub slice_words : (w : List ℕ) (i n m : ℕ) → i + n ≤ length w → m ≡ n → take m (drop i w) ≡ words_at w i n
slice_words w i n m h e =
    let d = length-drop i w in
    let t = length-take-le m (drop i w) (omega arith) in
    ext_get_or 0 (take m (drop i w)) (words_at w i n) (t ∙ (e ∙ sym (length-words_at w i n))) (λ k l.
    get_or-take m (drop i w) k 0 (omega arith) ∙ (get_or-drop i w k 0 ∙ sym (get_or-words_at w i n k (omega arith))))

pub slice_yields : (w : List ℕ) (i n : ℕ) {m : ℕ} {s : Iter ℕ} → i + n ≤ length w → m ≡ n →
    iter_rest s ≡ take m (drop i w) → YieldsList fronts (λ y. y.now) s (words_at w i n)
slice_yields w i n {m} h e q = YieldsList-from_slice (words_at w i n) (q ∙ slice_words w i n m h e)

-- a chain over any source of numbers or others, as `YieldsList-from_slice _ cc`
module _ {S A B F : Type 0} {steps : S → Option A → S → Type 0} {v : A → B} {g : Mut F (A × Unit {0}) Bool}
    {s : S} {ys : List B} (p : B → Bool) {u : S} {f : F} {r : Bool} where
  pub all_yielded : YieldsList steps v s ys
      → (xs : List A) × (o : Option A) × (j : F) ×
      YieldsThen steps s xs o u ×
      FoldsTo (λ p x q. Called g p (x, tt) true q) f xs j ×
      MatchOption o (r ≡ true) (λ x. (r ≡ false) × ((h : F) × Called g j (x, tt) false h))
      → ((x : A) (b : Bool) (q : F) → Called g f (x, tt) b q → (q ≡ f) × (b ≡ p (v x))) →
      r ≡ all p ys
  all_yielded e d k = all_from_yields_List p u f r d e k ∙ list_all-all p ys

-- `table[at..at + n].contains(&word)`
pub contains_words : (w : List ℕ) (i n m x : ℕ) {r : Bool} → i + n ≤ length w → m ≡ n →
    r ≡ list_any (λ y. eqb y x) (take m (drop i w)) → r ≡ any (λ y. eqb x y) (words_at w i n)
contains_words w i n m x h e t =
    t ∙ (list_any-any (λ y. eqb y x) (take m (drop i w)) ∙ (ap (any (λ y. eqb y x)) (slice_words w i n m h e) ∙
    any_same (λ y. eqb y x) (λ y. eqb x y) (words_at w i n) (λ y k. eqb-turn y x)))
