-- Atoms by their rows: two rows of one schema have the same atom where they have the same words beside schema and part,
-- and two rows of facts compare as the facts do.
use Prim.Native.Nat.{ℕ, zero, suc, ◌+◌, ◌≤◌, ◌<◌}
use mathlib.Core.Path.{◌≡◌, refl, sym, ◌∙◌, ap, ap₂}
use mathlib.Core.Bool.{Bool, true, false, ◌&&◌}
use mathlib.Core.List.{List, [], ◌∷◌}
use native.Mathlib.Omega.{arith}
use lib.ListN.{length, get_or}
use lib.Dec.{eqb}
use borrow.Author.Tests.{eqb-true}
use Rattle.words.specs.Lists.{any, up_to, eq_list, less_list, padded}
use Rattle.task.specs.Limits.{head_words}
use Rattle.task.specs.Task.{Atom, Fact, same_atom, fact_less, names}
use Rattle.words.specs.Words.{words_at}
use Rattle.task.specs.Table.{atom_words, fact_words}
use Rattle.task.specs.Run.{record_words}
use Rattle.words.proofs.Lists.{get_or-in, in-get_or, any-in, in-any, in-up_to, up_to-in, false-if, both-ft, length-padded}
use Rattle.words.proofs.Words.{At, at_left, words_at-is}
use Rattle.words.proofs.Comparing.{eq-padded}
use Rattle.task.proofs.RecordOrder.{fact_less-words}
use Rattle.text.specs.ReadCode.{row_names, row_same}

-- ---- a search over a list by index
bool_eq : (a b : Bool) → (a ≡ true → b ≡ true) → (b ≡ true → a ≡ true) → a ≡ b
bool_eq true b f g = sym (f refl)
bool_eq false b f g = sym (false-if b (λ h. both-ft (g h) refl))

pub any-index : {A : Type 0} (q : ℕ → Bool) (p : A → Bool) (xs : List A) (d : A) (n : ℕ) → n ≡ length xs →
    ((i : ℕ) → i < length xs → q i ≡ p (get_or xs i d)) → any q (up_to n) ≡ any p xs
any-index q p xs d n e h = bool_eq (any q (up_to n)) (any p xs)
    (λ t.
    let (i, j, k) = any-in q (up_to n) t in
    let l = up_to-in n i j in
    in-any p (in-get_or xs i d (omega arith)) (sym (h i (omega arith)) ∙ k))
    (λ t.
    let (x, j, k) = any-in p xs t in
    let (i, l, q') = get_or-in d j in
    in-any q (in-up_to n i (omega arith)) (h i l ∙ (ap p q' ∙ k)))

-- ---- the words of a row
module _ (w : List ℕ) (row : ℕ) where
  -- m words of a list that stands at a place, from its j-th on
  stand-in : (xs ys : List ℕ) (j : ℕ) → At w row xs → ((k : ℕ) → k < length ys → get_or xs (j + k) 0 ≡ get_or ys k 0) →
      j + length ys ≤ length xs → At w (row + j) ys
  stand-in xs ys j a e l k m =
      let z : (row + j) + k ≡ row + (j + k) = omega arith in
      ap (λ (i : ℕ). get_or w i 0) z ∙ (a (j + k) (omega arith) ∙ e k m)

  module _ (s : ℕ) (a : Atom) (few : length a.args ≤ 4) (h : At w row (atom_words s a)) where
    pub role-words : words_at w (row + 1) 2 ≡ a.role ∷ a.pred ∷ []
    unfolding atom_words
    role-words =
        let l = length-padded 4 a.args few in
        words_at-is w (row + 1) 2 (a.role ∷ a.pred ∷ []) refl
        (stand-in (atom_words s a) (a.role ∷ a.pred ∷ []) 1 h two (omega arith))
      where
        two : (k : ℕ) → k < 2 → get_or (atom_words s a) (1 + k) 0 ≡ get_or (a.role ∷ a.pred ∷ []) k 0
        two zero l = refl
        two (suc zero) l = refl
        two (suc (suc k)) l = absurd (omega arith)

    pub pred-word : get_or w (row + 2) 0 ≡ a.pred
    unfolding atom_words
    pred-word = h 2 (let l = length-padded 4 a.args few in omega arith)

    args-stand : At w (row + 4) (padded 4 a.args)
    unfolding atom_words
    args-stand k m =
        let z : (row + 4) + k ≡ row + (4 + k) = omega arith in
        let y : 4 + k ≡ suc (suc (suc (suc k))) = omega arith in
        ap (λ (i : ℕ). get_or w i 0) z ∙
        (h (4 + k) (let l = length-padded 4 a.args few in omega arith) ∙
        ap (λ (i : ℕ). get_or (atom_words s a) i 0) y)

    pub arg-words : words_at w (row + 4) 4 ≡ padded 4 a.args
    arg-words = words_at-is w (row + 4) 4 (padded 4 a.args) (length-padded 4 a.args few) args-stand

    -- just the arguments
    pub own-words : words_at w (row + 4) (length a.args) ≡ a.args
    unfolding padded
    own-words = words_at-is w (row + 4) (length a.args) a.args refl
        (at_left w (row + 4) a.args _ args-stand)

-- ---- the same atom
pub same_rows : (w : List ℕ) (row at s : ℕ) (a b : Atom) → length a.args ≤ 4 → length b.args ≤ 4 →
    (a.pred ≡ b.pred → length a.args ≡ length b.args) → At w row (atom_words s a) → At w at (atom_words s b) →
    row_same w row at ≡ same_atom a b
unfolding row_same same_atom eq_list
same_rows w row at s a b few few' alike h k =
    ap₂ (λ (x y : List ℕ). eq_list x y && eq_list (words_at w (row + 4) 4) (words_at w (at + 4) 4))
    (role-words w row s a few h) (role-words w at s b few' k) ∙
    (ap₂ (λ (x y : List ℕ). (eqb a.role b.role && (eqb a.pred b.pred && true)) && eq_list x y)
    (arg-words w row s a few h) (arg-words w at s b few' k) ∙
    go (eqb a.role b.role) (eqb a.pred b.pred) refl)
  where
    go : (r p : Bool) → eqb a.pred b.pred ≡ p →
        (r && (p && true)) && eq_list (padded 4 a.args) (padded 4 b.args) ≡ r && (p && eq_list a.args b.args)
    go true true e = eq-padded 4 a.args b.args (alike (eqb-true a.pred b.pred e))
    go true false e = refl
    go false true e = refl
    go false false e = refl

-- ---- the order of facts
module _ (w : List ℕ) (row r : ℕ) (f : Fact) (few : length f.args ≤ 4) (h : At w row (fact_words r f)) where
  pub fact-words : words_at w (row + 2) 6 ≡ f.pred ∷ 0 ∷ padded 4 f.args
  unfolding fact_words
  fact-words =
      let l = length-padded 4 f.args few in
      words_at-is w (row + 2) 6 (f.pred ∷ 0 ∷ padded 4 f.args) (omega arith) (λ k m.
      let z : (row + 2) + k ≡ row + (2 + k) = omega arith in
      let y : 2 + k ≡ suc (suc k) = omega arith in
      ap (λ (i : ℕ). get_or w i 0) z ∙ (h (2 + k) (omega arith) ∙ ap (λ (i : ℕ). get_or (fact_words r f) i 0) y))

pub less-rows : (arity : ℕ → ℕ) (w : List ℕ) (a b r : ℕ) (f g : Fact) → length f.args ≤ 4 → length g.args ≤ 4 →
    length f.args ≡ arity f.pred → length g.args ≡ arity g.pred → At w a (fact_words r f) →
    At w b (fact_words r g) → less_list (words_at w (a + 2) 6) (words_at w (b + 2) 6) ≡ fact_less f g
unfolding less_list record_words
less-rows arity w a b r f g few few' m n h k =
    ap₂ less_list (fact-words w a r f few h) (fact-words w b r g few' k) ∙ sym (fact_less-words arity f g m n)

-- ---- the parameters of a row
pub names-row : (w : List ℕ) (row s x : ℕ) (a : Atom) → length a.args ≤ 4 → At w row (atom_words s a) →
    get_or w (head_words + a.pred) 0 ≡ length a.args → row_names w row x ≡ names x a
unfolding row_names names
names-row w row s x a few h e =
    ap (λ (n : ℕ). any (λ y. eqb x y) (words_at w (row + 4) n))
    (ap (λ (p : ℕ). get_or w (head_words + p) 0) (pred-word w row s a few h) ∙ e) ∙
    ap (any (λ y. eqb x y)) (own-words w row s a few h)
