-- The partners of each parameter, as sets: they grow by a pair at a time, the lower joining the set of the higher and
-- the higher that of the lower. Two atoms hold a pair at a position where the one's parameter there is a partner of the
-- other's.
use Prim.Native.Nat.{ℕ, ◌+◌, ◌-◌, ◌<◌}
use mathlib.Core.Path.{◌≡◌, refl, sym, ◌∙◌, ap, ap₂, subst}
use mathlib.Core.Bool.{Bool, true, ◌&&◌, ◌||◌}
use mathlib.Core.List.{List, [], ◌∷◌, ◌++◌}
use native.Mathlib.Omega.{arith}
use lib.ListN.{length, get_or, set, replicate, length-set}
use lib.Dec.{eqb, ltb}
use borrow.Author.Tests.{leb-true, ltb-false}
use Rattle.words.specs.Lists.{any, up_to}
use Rattle.words.specs.Sets.{member}
use Rattle.words.proofs.Lists.{bool-ext, any-in, in-any, in-get_or, in-up_to, up_to-in}
use Rattle.words.proofs.Ranges.{any_last}
use Rattle.words.proofs.Loops.{AnyLeft, any-up-to}
use Rattle.task.specs.Layout.{head_in}
use Rattle.task.specs.Limits.{most_parameters}
use Rattle.task.specs.Task.{Pair}
use Rattle.task.specs.Run.{schema_at}
use Rattle.task.specs.Table.{pair_in, pair_number_in, task_of, is_table}
use Rattle.task.proofs.Tests.{schema-tests}
use Rattle.task.proofs.States.{PairFits, schema_fits-fits}
use Rattle.task.proofs.PairsStand.{no_pair}
use Rattle.task.proofs.Tables.{pair_start}
use Rattle.task.proofs.TablesByIndex.{table-frame, schemas-word, pair-at, pair-lies, pair-start-suc}
use Rattle.arcs.specs.Order.{are_pair, hold_pair}
use Rattle.arcs.specs.Stretches.{ArePartners, IsPairStretch, Pairing, pair_stretch_in}
use Rattle.arcs.proofs.AtomWords.{schema-fits}
use Rattle.arcs.proofs.Arcs.{are-pair, hold-pair}
use Rattle.arcs.proofs.Stretches.{rows_none}
use Rattle.arcs.proofs.Joining.{joins-none, joins-one, joins-more, all-joined}

-- ---- a pair of a table
-- "the lower first", and both are parameters of a schema
pub pair_small : (w : List ℕ) → is_table w ≡ true → (i : ℕ) → i < (head_in w).pairs → PairFits most_parameters (pair_in w i)
pair_small w h i l =
    let t = task_of w in
    let fr = table-frame w h in
    let s = pair_number_in w i in
    let lies = pair-lies w fr i l in
    let n = schemas-word w fr in
    let g = pair-start-suc w fr s lies.known in
    let k : ℕ = i - pair_start t s in
    let b : k < length (schema_at t s).pairs = omega (arith, lies.from_start, lies.before-next) in
    let e : pair_start t s + k ≡ i = omega (arith, lies.from_start) in
    let fits = schema-fits w h s (omega (arith, lies.known)) in
    let few = leb-true (schema_at t s).params most_parameters (schema-tests t.arities (schema_at t s) fits).params in
    let q = (schema_fits-fits t.arities (schema_at t s) fits).pairs (get_or (schema_at t s).pairs k no_pair)
    (in-get_or (schema_at t s).pairs k no_pair b) in
    subst (PairFits most_parameters) (sym (ap (pair_in w) (sym e) ∙ pair-at w fr s k lies.known b))
    (record { ascends = q.ascends; known = omega (arith, q.known) })

-- the same of a pair of a stretch, by what is read
pub pair-within : {w : List ℕ} {from to i x y : ℕ} → IsPairStretch w from to → i < to → x ≡ (pair_in w i).lower →
    y ≡ (pair_in w i).higher → (x < y) × (y < most_parameters)
pair-within {w} {from} {to} {i} p l e f =
    let fits = pair_small w p.table i (omega (arith, p.known)) in
    (omega (arith, e, f, fits.ascends), omega (arith, f, fits.known))

-- ---- their partners
-- no pair, no partner
pub partners-none : (n : ℕ) → ArePartners [] (replicate n 0)
unfolding are_pair any
partners-none n = all-joined (are_pair []) n (replicate n 0) (joins-none (are_pair []) (replicate n 0) (λ p q. refl))

-- a pair more, of x and y: x has joined the set of y, which became r, then y that of x, which became s
pub partners-more : (qs : List Pair) (q : Pair) {x y : ℕ} → x ≡ q.lower → y ≡ q.higher → (sets : List ℕ) →
    ArePartners qs sets → x < length sets → y < length sets → (r s : ℕ) →
    ((z : ℕ) → member r z ≡ member (get_or sets y 0) z || eqb x z) →
    ((z : ℕ) → member s z ≡ member (get_or (set sets y r) x 0) z || eqb y z) →
    ArePartners (qs ++ (q ∷ [])) (set (set sets y r) x s)
unfolding are_pair
partners-more qs q {x} {y} low high sets h lx ly r s f g u v =
    joins-more (λ u v. eqb x u && eqb y v) (λ u v. eqb y u && eqb x v) (pair_of q) sets (set sets y r)
    (set (set sets y r) x s) (joins-one sets x y r ly f)
    (joins-one (set sets y r) y x s (omega (arith, length-set sets y r)) g)
    (λ u v. ap₂ (λ (a b : ℕ). (eqb a u && eqb b v) || (eqb b u && eqb a v)) (sym low) (sym high)) u v
    ∙ (ap (λ (b : Bool). b || pair_of q u v) (h u v) ∙ sym (any_last (λ q. pair_of q u v) qs q))
  where
    -- u and v are the pair, either way round
    pair_of : Pair → ℕ → ℕ → Bool
    pair_of q u v = (eqb q.lower u && eqb q.higher v) || (eqb q.higher u && eqb q.lower v)

-- the partners by a stretch of pairs, which has none where it ends at its beginning
pub stretch-pairing : {w : List ℕ} {from to : ℕ} {sets : List ℕ} → IsPairStretch w from to →
    ArePartners (pair_stretch_in w from to) sets → Pairing (pair_stretch_in w from to) (ltb from to) sets
stretch-pairing {w} {from} {to} s h = record {
  partners = h;
  unpaired = λ e.
      let z : to ≡ from = omega (arith, s.forward, ltb-false from to e) in
      ap (pair_stretch_in w from) z ∙ rows_none (pair_in w) from;
}

-- ---- two lists of n arguments
-- whether they hold a pair at position k
abbrev pub held_at : List Pair → List ℕ → List ℕ → ℕ → Bool
held_at pairs xs ys k = are_pair pairs (get_or xs k 0) (get_or ys k 0)

module _ (pairs : List Pair) (xs ys : List ℕ) (n : ℕ) (a : length xs ≡ n) (b : length ys ≡ n) where
  by-position : hold_pair pairs xs ys ≡ any (held_at pairs xs ys) (up_to n)
  by-position = bool-ext (hold_pair pairs xs ys) (any (held_at pairs xs ys) (up_to n))
      (λ h.
      let (i, l, m, p) = (hold-pair pairs xs ys).0 h in
      in-any (held_at pairs xs ys) (in-up_to n i (omega arith)) ((are-pair pairs (get_or xs i 0) (get_or ys i 0)).1 p))
      (λ h.
      let (i, k, e) = any-in (held_at pairs xs ys) (up_to n) h in
      let l = up_to-in n i k in
      (hold-pair pairs xs ys).1 (i, omega arith, omega arith, (are-pair pairs (get_or xs i 0) (get_or ys i 0)).0 e))

  -- what a loop over the positions begins with
  pub held-left : AnyLeft (held_at pairs xs ys) n (hold_pair pairs xs ys) 0
  held-left = record { left = by-position ∙ (any-up-to {n = n} refl).left }
