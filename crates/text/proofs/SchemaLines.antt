-- The lines of a schema by the words of the table: of what they are made, and that the pairs and the parts that they
-- list lie in the table.
use Rattle.task.specs.Limits.{pair_size, atom_size}
use Prim.Native.Nat.{ℕ, ◌+◌, ◌*◌, ◌≤◌, ◌<◌}
use mathlib.Core.Path.{◌≡◌, refl}
use mathlib.Core.List.{List, ◌++◌}
use native.Mathlib.Omega.{arith}
use lib.ListN.{length}
use Rattle.text.specs.Lines.{digits, commaed, line}
use Rattle.text.specs.TableLines.{spaced, AtomInside, atoms_text, pairs_text, schema_text}
use Rattle.text.proofs.Onwards.{onwards, onwards-all}

-- ---- the lines of pairs, whose words begin at p
module _ (w : List ℕ) (p : ℕ) where
  -- the line of pair k
  abbrev pub pair_line : ℕ → List ℕ
  pair_line k = line "differ" (commaed (spaced w (p + pair_size * k + 1) 1 2))

  pub pairs-onwards : (m : ℕ) → onwards pair_line 0 m ≡ pairs_text w p m
  unfolding pairs_text
  pairs-onwards m = onwards-all pair_line m

  -- its numbers lie in the table
  pub pair_inside : {m : ℕ} → p + pair_size * m ≤ length w → (k : ℕ) → k < m → (i : ℕ) → i < 2 →
      p + pair_size * k + 1 + 1 * i < length w
  pair_inside h k l i j = omega arith

-- ---- the parts of n atoms, whose words begin at b
module _ (w : List ℕ) (b n : ℕ) where
  abbrev pub parts_at : List ℕ
  parts_at = commaed (spaced w (b + 3) atom_size n)

  -- they lie in the table
  pub parts-inside : ((k : ℕ) → k < n → AtomInside w (b + atom_size * k)) → (k : ℕ) → k < n →
      b + 3 + atom_size * k < length w
  parts-inside h k l = let i = (h k l).inside in omega arith

-- ---- the lines of a schema
pub schema_text-is : (w : List ℕ) (params p m b n : ℕ) → schema_text w params p m b n ≡
    line "schema" (digits params) ++ (pairs_text w p m ++ (atoms_text w b n ++ line "part" (parts_at w b n)))
unfolding schema_text
schema_text-is w params p m b n = refl
