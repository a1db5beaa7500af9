-- The words of a task without its partitions are the words of the task with 0 for each part word: those before the
-- schema atoms and those behind them are the same, and `clear` takes the atoms row after row.
use Prim.Native.Nat.{ℕ, zero, suc, ◌+◌, ◌-◌, ◌*◌, ◌≤◌, ◌<◌}
use mathlib.Core.Path.{◌≡◌, refl, sym, ◌∙◌, ap, ap₂, subst}
use mathlib.Core.List.{List, [], ◌∷◌, ◌++◌, map, append_assoc}
use native.Mathlib.Omega.{arith}
use lib.ListN.{length, get_or, replicate, length-map}
use lib.Seq.{ext_get_or}
use Rattle.words.specs.Lists.{concat_map, joined, sum, padded}
use Rattle.words.proofs.Lists.{In, here, there, map-in, map-map, map_same, length-padded}
use Rattle.task.specs.Limits.{table_words, most_arity, atom_size}
use Rattle.task.specs.Layout.{head_block, Head}
use Rattle.task.specs.Task.{Atom, Schema, Task, schema_atoms, schema_pairs, initial, goal_role}
use Rattle.task.specs.Table.{pair_words, atom_words, fact_words, rows_from, pairs_from, schemas_from, head_of, blocks_of}
use Rattle.task.specs.Table.{words_of}
use Rattle.task.proofs.AtomsStand.{Sized, Short, Lengths}
use Rattle.task.proofs.Tables.{content, words_of-is, length-content, block_sizes}
use Rattle.defines.specs.Parts.{without_part, undivided, without_parts}
use Rattle.defines.proofs.Through.{Through, through-append}

-- ---- part words cleared: a of them are left, the next is word n, and each stands an atom's 8 words behind the last
unfoldable pub clear : ℕ → ℕ → List ℕ → List ℕ
clear zero n xs = xs
clear (suc a) n [] = []
clear (suc a) zero (x ∷ xs) = 0 ∷ clear a 7 xs
clear (suc a) (suc n) (x ∷ xs) = x ∷ clear (suc a) n xs

-- word j is none of them
abbrev pub Other : ℕ → ℕ → ℕ → Type 0
Other a n j = (k : ℕ) → k < a → j ≡ atom_size * k + n → ⊥

-- other words stay
pub clear-other : (a n : ℕ) (xs : List ℕ) (j : ℕ) → Other a n j → get_or (clear a n xs) j 0 ≡ get_or xs j 0
unfolding clear
clear-other zero n xs j o = refl
clear-other (suc a) n [] j o = refl
clear-other (suc a) zero (x ∷ xs) zero o = absurd (o 0 (omega arith) (omega arith))
clear-other (suc a) zero (x ∷ xs) (suc j) o = clear-other a 7 xs j (λ k l e. o (suc k) (omega arith) (omega arith))
clear-other (suc a) (suc n) (x ∷ xs) zero o = refl
clear-other (suc a) (suc n) (x ∷ xs) (suc j) o = clear-other (suc a) n xs j (λ k l e. o k l (omega arith))

-- and tell all that is left
pub clear-same : (a n : ℕ) (xs ys : List ℕ) → length xs ≡ length ys →
    ((j : ℕ) → j < length xs → Other a n j → get_or xs j 0 ≡ get_or ys j 0) → clear a n xs ≡ clear a n ys
unfolding clear
clear-same zero n xs ys l h = ext_get_or 0 xs ys l (λ j m. h j m (λ k i e. omega arith))
clear-same (suc a) n [] [] l h = refl
clear-same (suc a) n [] (y ∷ ys) l h = absurd (omega arith)
clear-same (suc a) n (x ∷ xs) [] l h = absurd (omega arith)
clear-same (suc a) zero (x ∷ xs) (y ∷ ys) l h =
    ap {B = List ℕ} (λ zs. 0 ∷ zs)
    (clear-same a 7 xs ys (omega arith) (λ j m o. h (suc j) (omega arith) (λ k i e.
    o (k - 1) (omega arith) (omega arith))))
clear-same (suc a) (suc n) (x ∷ xs) (y ∷ ys) l h =
    ap₂ (λ (z : ℕ) (zs : List ℕ). z ∷ zs) (h 0 (omega arith) (λ k i e. omega arith))
    (clear-same (suc a) n xs ys (omega arith) (λ j m o. h (suc j) (omega arith) (λ k i e. o k i (omega arith))))

-- ---- words up to the next part word stay
up-to-part : (a m n : ℕ) (xs : List ℕ) → m ≡ length xs + n → Through (clear a m) (clear a n) xs xs
unfolding clear
up-to-part a m n xs e = record { at = λ rest. go a m xs e rest }
  where
    go : (a m : ℕ) (xs : List ℕ) → m ≡ length xs + n → (rest : List ℕ) → clear a m (xs ++ rest) ≡ xs ++ clear a n rest
    go zero m xs e rest = refl
    go (suc a) m [] e rest = ap (λ (k : ℕ). clear (suc a) k rest) (omega arith)
    go (suc a) zero (x ∷ xs) e rest = absurd (omega arith)
    go (suc a) (suc m) (x ∷ xs) e rest = ap {B = List ℕ} (λ zs. x ∷ zs) (go (suc a) m xs (omega arith) rest)

-- ---- the words of schema atoms
abbrev Clears : ℕ → ℕ → List ℕ → List ℕ → Type 0
Clears b a xs us = Through (clear b 3) (clear a 3) xs us

atom-cleared : (a s : ℕ) (x : Atom) → length x.args ≤ most_arity →
    Clears (suc a) a (atom_words s x) (atom_words s (without_part x))
unfolding clear atom_words without_part
atom-cleared a s x h = record {
  at = λ rest. ap {B = List ℕ} (λ zs. s ∷ x.role ∷ x.pred ∷ 0 ∷ zs)
      ((up-to-part a 7 3 (padded most_arity x.args) (omega (arith, length-padded most_arity x.args h))).at rest);
}

atoms-cleared : (b a s : ℕ) (xs : List Atom) → b ≡ length xs + a →
    ((x : Atom) → In x xs → length x.args ≤ most_arity) →
    Clears b a (concat_map (atom_words s) xs) (concat_map (atom_words s) (map without_part xs))
unfolding concat_map
atoms-cleared b a s [] e h = record { at = λ rest. ap (λ (k : ℕ). clear k 3 rest) (omega arith) }
atoms-cleared zero a s (x ∷ xs) e h = absurd (omega arith)
atoms-cleared (suc b) a s (x ∷ xs) e h =
    through-append (atom-cleared b s x (h x (here refl)))
    (atoms-cleared b a s xs (omega arith) (λ y i. h y (there i)))

schemas-cleared : (n : ℕ) (ss : List Schema) → Short ss →
    Clears (schema_atoms ss) 0 (schemas_from n ss) (schemas_from n (map undivided ss))
unfolding rows_from sum undivided
schemas-cleared n [] h = record { at = λ rest. refl }
schemas-cleared n (s ∷ ss) h =
    through-append
    (atoms-cleared (length s.atoms + schema_atoms ss) (schema_atoms ss) n s.atoms refl (h s (here refl)))
    (schemas-cleared (suc n) ss (λ u i. h u (there i)))

-- ---- the words of a task
pub lengths-without : (t : Task) → Lengths t → Lengths (without_parts t)
unfolding without_parts undivided without_part
lengths-without t q = record {
  schema = λ s i a j.
      let (u, m, e) = map-in undivided t.schemas s i in
      let (b, n, f) = map-in without_part u.atoms a (subst (λ (x : Schema). In a x.atoms) e j) in
      subst (λ (x : Atom). Sized t.arities x.pred x.args) (sym f) (q.schema u m b n);
  init = q.init;
  goal = q.goal;
}

-- the pairs stay, and so do their words
pub pairs-without : (ss : List Schema) → schema_pairs (map undivided ss) ≡ schema_pairs ss
unfolding undivided
pairs-without ss = ap sum (map-map (λ (s : Schema). length s.pairs) undivided ss)

pair-words-without : (n : ℕ) (ss : List Schema) → pairs_from n (map undivided ss) ≡ pairs_from n ss
unfolding rows_from undivided
pair-words-without n [] = refl
pair-words-without n (s ∷ ss) =
    ap (λ (ws : List ℕ). concat_map (pair_words n) s.pairs ++ ws) (pair-words-without (suc n) ss)

pub head-without : (t : Task) → head_of (without_parts t) ≡ head_of t
unfolding without_parts undivided
head-without t =
    let schemas = length-map t.schemas undivided in
    let atoms : schema_atoms (map undivided t.schemas) ≡ schema_atoms t.schemas =
    ap sum (map-map (λ (s : Schema). length s.atoms) undivided t.schemas ∙
    map_same (λ s. length (undivided s).atoms) (λ s. length s.atoms) t.schemas
    (λ s i. length-map s.atoms without_part)) in
    let pairs = pairs-without t.schemas in
    λ j. record {
      objects = t.objects;
      predicates = length t.arities;
      schemas = schemas j;
      schema_atoms = atoms j;
      initial_atoms = length t.init;
      goal_atoms = length t.goal;
      pairs = pairs j;
    }

-- those before the schema atoms, and those behind them
abbrev pub before : Task → List ℕ
before t =
    head_block (head_of t) ++ (t.arities ++ (map (λ s. s.params) t.schemas ++ pairs_from 0 t.schemas))

abbrev facts : Task → List ℕ
facts t = concat_map (fact_words initial) t.init ++ (concat_map (fact_words goal_role) t.goal ++ [])

abbrev behind : Task → List ℕ
behind t = facts t ++ replicate (table_words - length (content t)) 0

words-parted : (t : Task) → words_of t ≡ (before t ++ schemas_from 0 t.schemas) ++ behind t
unfolding blocks_of joined
words-parted t =
    words_of-is t ∙
    regroup (head_block (head_of t)) t.arities (map (λ s. s.params) t.schemas) (pairs_from 0 t.schemas)
    (schemas_from 0 t.schemas) (facts t) (replicate (table_words - length (content t)) 0)
  where
    regroup : (us vs xs qs ys zs rest : List ℕ) →
        (us ++ (vs ++ (xs ++ (qs ++ (ys ++ zs))))) ++ rest ≡ ((us ++ (vs ++ (xs ++ qs))) ++ ys) ++ (zs ++ rest)
    regroup us vs xs qs ys zs rest = simp append_assoc

before-without : (t : Task) → before (without_parts t) ≡ before t
unfolding without_parts undivided
before-without t =
    ap₂ (λ (h : Head) (ps : List ℕ). head_block h ++ (t.arities ++ ps)) (head-without t)
    (ap₂ (λ (ps qs : List ℕ). ps ++ qs) (map-map (λ (s : Schema). s.params) undivided t.schemas)
    (pair-words-without 0 t.schemas))

behind-without : (t : Task) → Lengths t → behind (without_parts t) ≡ behind t
unfolding without_parts
behind-without t q =
    ap (λ (n : ℕ). facts t ++ replicate (table_words - n) 0)
    (length-content (without_parts t) (lengths-without t q) ∙
    (ap (λ (h : Head). sum (block_sizes h)) (head-without t) ∙ sym (length-content t q)))

pub words-cleared : (t : Task) → Lengths t →
    words_of (without_parts t) ≡ clear (schema_atoms t.schemas) (length (before t) + 3) (words_of t)
unfolding clear without_parts
words-cleared t q =
    words-parted (without_parts t) ∙
    (ap₂ (λ (xs ys : List ℕ). (xs ++ schemas_from 0 (map undivided t.schemas)) ++ ys)
    (before-without t) (behind-without t q) ∙
    sym (ap (clear (schema_atoms t.schemas) (length (before t) + 3)) (words-parted t) ∙
    (through-append (up-to-part (schema_atoms t.schemas) (length (before t) + 3) 3 (before t) refl)
    (schemas-cleared 0 t.schemas (λ s i a j. (q.schema s i a j).short))).at (behind t)))
