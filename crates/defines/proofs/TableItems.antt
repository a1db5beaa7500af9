-- What a table has as items: by a counter; and its atoms by the row where code finds each.
use Prim.Native.Nat.{ℕ, ◌+◌, ◌-◌, ◌≤◌, ◌<◌}
use mathlib.Core.Path.{◌≡◌, refl, sym, ◌∙◌, ap, ap₂}
use mathlib.Core.List.{List, ◌∷◌, ◌++◌, map}
use native.Mathlib.Omega.{arith}
use lib.ListN.{get_or, length, length-append}
use Rattle.words.specs.Lists.{up_to, up_from, concat_map}
use Rattle.words.proofs.Lists.{append-concat_map, concat_map-same, up_from-append, up_from-in}
use Rattle.task.specs.Layout.{atom_base}
use Rattle.task.specs.Table.{atom_in, schema_number_in}
use Rattle.text.proofs.Onwards.{onwards, onwards-all}
use Rattle.text.proofs.Pieces.{pieces-map}
use Rattle.defines.specs.Pddl.{space, following}
use Rattle.defines.specs.ByWords.{item_at, item_in, items_in}

-- ---- by a counter
pub items-onwards : (w : List ℕ) (from to : ℕ) → items_in w from to ≡ onwards (item_in w) from to
unfolding items_in
items-onwards w from to = refl

pub items-all : (w : List ℕ) (n : ℕ) → concat_map (item_in w) (up_to n) ≡ items_in w 0 n
items-all w n = sym (items-onwards w 0 n ∙ onwards-all (item_in w) n)

-- things from a place on, where the pieces of their numbers say them
pub items-listed : {A : Type 0} (piece : ℕ → List ℕ) (read : ℕ → A) (say : A → List ℕ) (from n : ℕ) (xs : List A) →
    map read (up_from from n) ≡ xs →
    ((k : ℕ) → from ≤ k → k < from + n → piece k ≡ space ∷ say (read k)) →
    following (map say xs) ≡ onwards piece from (from + n)
unfolding following
items-listed {A} piece read say from n xs e said =
    let z : n ≡ from + n - from = omega arith in
    ap (λ (ys : List A). following (map say ys)) (sym e) ∙
    (pieces-map (λ item. space ∷ item) say (map read (up_from from n)) ∙
    (pieces-map (λ y. space ∷ say y) read (up_from from n) ∙
    (sym (concat_map-same piece (λ k. space ∷ say (read k)) (up_from from n)
    (λ k i. let (a, b) = up_from-in from n k i in said k a b)) ∙
    ap (λ (m : ℕ). concat_map piece (up_from from m)) z)))

-- pieces up to a place, and those from there on
pub pieces-parted : (piece : ℕ → List ℕ) (from mid to : ℕ) → from ≤ mid → mid ≤ to →
    length (onwards piece from to) ≡ length (onwards piece from mid) + length (onwards piece mid to)
pieces-parted piece from mid to a b =
    let e : to - from ≡ (mid - from) + (to - mid) = omega arith in
    let z : from + (mid - from) ≡ mid = omega arith in
    let parts : onwards piece from to ≡ onwards piece from mid ++ onwards piece mid to =
    ap (λ (n : ℕ). concat_map piece (up_from from n)) e ∙
    (ap (concat_map piece) (up_from-append from (mid - from) (to - mid)) ∙
    (append-concat_map piece (up_from from (mid - from)) (up_from (from + (mid - from)) (to - mid)) ∙
    ap (λ (n : ℕ). onwards piece from mid ++ concat_map piece (up_from n (to - mid))) z)) in
    ap length parts ∙ length-append (onwards piece from mid) (onwards piece mid to)

-- ---- the row that begins at b, where that is atom i's
-- its first word
pub row-schema : (w : List ℕ) (i b : ℕ) → b ≡ atom_base w i → get_or w b 0 ≡ schema_number_in w i
unfolding schema_number_in
row-schema w i b e = ap (λ (b : ℕ). get_or w b 0) e

-- its item, by its role and by the word that says it
pub item-row : (w : List ℕ) (i role b : ℕ) → role ≡ (atom_in w i).role → b ≡ atom_base w i → item_at role w b ≡ item_in w i
unfolding item_in
item-row w i role b r e = ap₂ (λ (role b : ℕ). item_at role w b) r e

pub item-word : (w : List ℕ) (i b : ℕ) → b ≡ atom_base w i → item_at (get_or w (b + 1) 0) w b ≡ item_in w i
unfolding atom_in
item-word w i b e = item-row w i (get_or w (b + 1) 0) b (ap (λ (b : ℕ). get_or w (b + 1) 0) e) e
