-- The lines of those rows of a stretch that a test takes, counted row by row by a chain over the rows' numbers. The rows
-- are a part's old atoms, parameters with pars, and pairs.
use Prim.Native.Nat.{ℕ, zero, suc, ◌+◌, ◌-◌}
use mathlib.Core.Path.{◌≡◌, sym, ◌∙◌, ap}
use mathlib.Core.Bool.{Bool, true, false, cond}
use mathlib.Core.List.{List, ◌∷◌, map, map-id}
use native.Mathlib.Omega.{arith}
use native.Mathlib.Numerals.{add-one}
use lib.ListN.{length, length-append}
use lib.Dec.{eqb}
use Rattle.std.specs.List.{sum_by, fold, range_with_len}
use Rattle.std.specs.List as std
use Rattle.words.specs.Lists.{filter, keep_if, concat_map, up_from, up_to}
use Rattle.words.specs.Sets.{member, members}
use Rattle.task.specs.Task.{Atom, Pair}
use Rattle.task.specs.Table.{atom_in, pair_in}
use Rattle.arcs.specs.Stretches.{stretch, pair_stretch_in}
use Rattle.text.specs.Text.{differ_line, write_line, pair_list}
use Rattle.text.proofs.Pieces.{pieces-map}
use Rattle.tokens.specs.Writing.{renumbered, par_in, carries, renumbered_pair, carried_in}
use Rattle.tokens.specs.declared.part_atoms.PartPlace.{PartPlace}
use Rattle.forecast.specs.Counting.{row_line, atoms_bytes, old_of, old_here, pars_here, lines_bytes, pair_bytes}
use Rattle.forecast.specs.Counting.{pairs_bytes}

-- ---- rows
module _ {Row : Type 0} (row : ℕ → Row) (test : Row → Bool) (line_of : Row → List ℕ) where
  -- the numbers of those that the test takes, among n from a on
  abbrev pub taken_rows : ℕ → ℕ → List ℕ
  taken_rows a n = std.filter (λ i. test (row i)) (range_with_len a n)

  abbrev pub row_bytes : ℕ → ℕ
  row_bytes i = length (line_of (row i))

  abbrev text_from : ℕ → ℕ → List ℕ
  text_from a n = concat_map line_of (filter test (map row (up_from a n)))

  -- one row more, whose test is b
  one_more : (a n : ℕ) → ((k : ℕ) → fold (λ b i. b + row_bytes i) k (taken_rows (a + 1) n) ≡ k + length (text_from (suc a) n)) →
      (m : ℕ) (b : Bool) → fold (λ b i. b + row_bytes i) m (cond b (a ∷ taken_rows (a + 1) n) (taken_rows (a + 1) n)) ≡
      m + length (concat_map line_of (keep_if b (row a) (filter test (map row (up_from (suc a) n)))))
  unfolding concat_map keep_if
  one_more a n next m true =
      let e = length-append (line_of (row a)) (text_from (suc a) n) in
      let h = next (m + row_bytes a) in
      omega arith
  one_more a n next m false = next m

  more : (m a n : ℕ) → fold (λ b i. b + row_bytes i) m (taken_rows a n) ≡ m + length (text_from a n)
  unfolding concat_map filter up_from
  more m a zero = omega arith
  more m a (suc n) =
      one_more a n (λ k. more k (a + 1) n ∙ ap (λ (i : ℕ). k + length (text_from i n)) (add-one a)) m (test (row a))

  pub counted_rows : (a n : ℕ) → sum_by row_bytes (taken_rows a n) ≡ length (text_from a n)
  counted_rows a n = let e = more 0 a n in omega arith

-- ---- a part's old atoms
module _ (w : List ℕ) (here : PartPlace) where
  abbrev pub is_old : ℕ → Bool
  is_old i = eqb here.part.0 (atom_in w i).part

  abbrev pub old_bytes : ℕ → ℕ
  old_bytes i = length (row_line (renumbered here.own (atom_in w i).role (atom_in w i)))

  pub counted_old : sum_by old_bytes (std.filter is_old (range_with_len here.from (here.to - here.from))) ≡
      atoms_bytes (old_here w here)
  unfolding atoms_bytes old_of stretch
  counted_old =
      let n = here.to - here.from in
      let is_own = λ (a : Atom). eqb here.part.0 a.part in
      let text = λ (a : Atom). row_line (renumbered here.own a.role a) in
      counted_rows (atom_in w) is_own text here.from n ∙
      ap length (sym (pieces-map row_line (λ (a : Atom). renumbered here.own a.role a)
      (filter is_own (map (atom_in w) (up_from here.from n)))))

-- ---- the pars of the parameters in a set
module _ (here : PartPlace) (r which : ℕ) where
  abbrev pub par_bytes : ℕ → ℕ
  par_bytes x = length (row_line (par_in here.own here.par r x))

  pub counted_pars : sum_by par_bytes (std.filter (member which) (range_with_len 0 (here.params - 0))) ≡ atoms_bytes (pars_here here r which)
  unfolding atoms_bytes members up_to
  counted_pars =
      let n = here.params in
      let text = λ (x : ℕ). row_line (par_in here.own here.par r x) in
      let e : n - 0 ≡ n = omega arith in
      counted_rows {Row = ℕ} (λ x. x) (member which) text 0 (n - 0) ∙
      ap (λ (k : ℕ). length (concat_map text (filter (member which) (map (λ (x : ℕ). x) (up_from 0 k))))) e ∙
      ap (λ (xs : List ℕ). length (concat_map text (filter (member which) xs))) (map-id (up_from 0 n)) ∙
      ap length (sym (pieces-map row_line (par_in here.own here.par r) (members which n)))

-- ---- the pairs that a part carries
module _ (w : List ℕ) (own from to : ℕ) where
  abbrev pub is_carried : ℕ → Bool
  is_carried i = carries own (pair_in w i)

  abbrev pub carried_bytes : ℕ → ℕ
  carried_bytes i = pair_bytes (renumbered_pair own (pair_in w i))

  pub counted_pairs : sum_by carried_bytes (std.filter is_carried (range_with_len from (to - from))) ≡
      pairs_bytes own (pair_stretch_in w from to)
  unfolding pair_bytes pairs_bytes lines_bytes carried_in stretch
  counted_pairs =
      let qs = filter (carries own) (pair_stretch_in w from to) in
      let text = λ (q : Pair). write_line (differ_line (pair_list (renumbered_pair own q))) in
      counted_rows (pair_in w) (carries own) text from (to - from) ∙
      ap length (sym (pieces-map write_line (λ (q : Pair). differ_line (pair_list q)) (map (renumbered_pair own) qs) ∙
      pieces-map (λ (q : Pair). write_line (differ_line (pair_list q))) (renumbered_pair own) qs))
