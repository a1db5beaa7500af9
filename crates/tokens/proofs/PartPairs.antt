-- The pairs of a part's schema: those of which the part has both parameters, renumbered by their index among the part's
-- own parameters. Those ascend, so the renumbering keeps the order of parameters, and pairs fit and ascend as before.
use Prim.Native.Nat.{ℕ, ◌<◌}
use mathlib.Core.Path.{◌≡◌, ◌∙◌, ap}
use mathlib.Core.Bool.{Bool, true}
use mathlib.Core.List.{List}
use native.Mathlib.Omega.{arith}
use lib.ListN.{length, get_or}
use borrow.Author.Tests.{lt-ltb}
use Rattle.words.specs.Lists.{all, filter, up_to, index_of}
use Rattle.task.specs.Task.{Pair, Task, pair_fits, pairs_ascend}
use Rattle.task.specs.Run.{schema_at}
use Rattle.tokens.specs.Split.{has, has_both, params_of, own, own_pairs, split_schema}
use Rattle.words.proofs.Lists.{and_left, and_right, and_both, In, in_all, in-filter, filter-in, in_map, map-in}
use Rattle.task.proofs.States.{SchemaFits}
use Rattle.task.proofs.PairOrder.{renumbered, ascend-asc, asc-ascend, pairs-filter, pairs-map}
use Rattle.tokens.proofs.Places.{index-small, index-less, params-in}

module _ (t : Task) (s : ℕ) (o : List ℕ) (j : ℕ) where
  abbrev pub renumber_pair : Pair → Pair
  renumber_pair = renumbered (λ x. index_of x (own t s o j))

  abbrev pub pair_here : Pair → Bool
  pair_here q = has_both (schema_at t s) q (get_or o j 0)

  -- a pair of the part's schema is one of the old, of which the part has both parameters
  pub record FromPair (r : Pair) : Type 0 where
    pub pair : Pair
    pub known : In pair (schema_at t s).pairs
    pub lower : has (schema_at t s) pair.lower (get_or o j 0) ≡ true
    pub higher : has (schema_at t s) pair.higher (get_or o j 0) ≡ true
    pub is : r ≡ renumber_pair pair

  pub here-both : (q : Pair) → In q (filter pair_here (schema_at t s).pairs) → In q (schema_at t s).pairs ×
      (has (schema_at t s) q.lower (get_or o j 0) ≡ true) × (has (schema_at t s) q.higher (get_or o j 0) ≡ true)
  unfolding has_both
  here-both q i =
      let (k, e) = filter-in pair_here (schema_at t s).pairs q i in (
        k,
        and_left (has (schema_at t s) q.lower (get_or o j 0)) _ e,
        and_right (has (schema_at t s) q.lower (get_or o j 0)) _ e,
      )

  pub from-pair : (r : Pair) → In r (split_schema t s o j).pairs → FromPair r
  unfolding split_schema own_pairs
  from-pair r i =
      let (q, k, e) = map-in renumber_pair (filter pair_here (schema_at t s).pairs) r i in
      let (m, a, b) = here-both q k in
      record { pair = q; known = m; lower = a; higher = b; is = e }

  pub pair-stays : (q : Pair) → In q (schema_at t s).pairs → has (schema_at t s) q.lower (get_or o j 0) ≡ true →
      has (schema_at t s) q.higher (get_or o j 0) ≡ true → In (renumber_pair q) (split_schema t s o j).pairs
  unfolding split_schema own_pairs has_both
  pair-stays q i a b = in_map renumber_pair (in-filter pair_here i (and_both _ _ a b))

  module _ (arities : List ℕ) (fits : SchemaFits arities (schema_at t s)) where
    pub own-both : (q : Pair) → In q (schema_at t s).pairs → has (schema_at t s) q.lower (get_or o j 0) ≡ true →
        has (schema_at t s) q.higher (get_or o j 0) ≡ true →
        In q.lower (own t s o j) × In q.higher (own t s o j)
    unfolding own
    own-both q i a b =
        let f = fits.pairs q i in (
          params-in (schema_at t s) q.lower (get_or o j 0) (omega (arith, f.ascends, f.known)) a,
          params-in (schema_at t s) q.higher (get_or o j 0) f.known b,
        )

    index-up : (x y : ℕ) → In x (own t s o j) → In y (own t s o j) → x < y →
        index_of x (own t s o j) < index_of y (own t s o j)
    unfolding own params_of up_to
    index-up x y = index-less (λ x. has (schema_at t s) x (get_or o j 0)) 0 (schema_at t s).params x y

    pub part-pairs-fit : all (pair_fits (split_schema t s o j).params) (split_schema t s o j).pairs ≡ true
    unfolding pair_fits split_schema
    part-pairs-fit = in_all (pair_fits (split_schema t s o j).params) (split_schema t s o j).pairs (λ r i.
        let f = from-pair r i in go r f.pair f.known f.lower f.higher f.is)
      where
        go : (r q : Pair) → In q (schema_at t s).pairs → has (schema_at t s) q.lower (get_or o j 0) ≡ true →
            has (schema_at t s) q.higher (get_or o j 0) ≡ true → r ≡ renumber_pair q →
            pair_fits (split_schema t s o j).params r ≡ true
        go r q i a b e =
            let (m, n) = own-both q i a b in
            ap (pair_fits (length (own t s o j))) e ∙
            and_both _ _
            (lt-ltb _ _ (index-up q.lower q.higher m n (fits.pairs q i).ascends))
            (lt-ltb _ _ (index-small n))

    pub part-pairs-ascend : pairs_ascend (schema_at t s).pairs ≡ true → pairs_ascend (split_schema t s o j).pairs ≡ true
    unfolding split_schema own_pairs
    part-pairs-ascend h =
        asc-ascend (pairs-map (λ x. index_of x (own t s o j)) (λ x. In x (own t s o j)) index-up
        (λ q i. let (k, a, b) = here-both q i in own-both q k a b)
        (pairs-filter pair_here (ascend-asc (schema_at t s).pairs h)))
