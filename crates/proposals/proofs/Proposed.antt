-- What note 5 says of the parts proposed for a schema, a sentence a field: from the start, by the merging, which ends.
use Prim.Native.Nat.{ℕ, ◌≤◌, ◌<◌}
use mathlib.Core.Path.{◌≡◌, refl}
use mathlib.Core.Bool.{true}
use mathlib.Core.List.{List}
use mathlib.Core.Logic.{◌⊎◌}
use Rattle.std.specs.Prelude.{None}
use native.Mathlib.Omega.{arith}
use lib.ListN.{length, get_or}
use Rattle.task.specs.Task.{Schema, part_count, no_gap}
use Rattle.task.proofs.AtomsStand.{no_atom}
use Rattle.arcs.specs.Order.{NoOrderComplies}
use Rattle.tokens.specs.Split.{params_of}
use Rattle.proposals.specs.Proposal.{with_part, with_parts, count_of, own_parts, merged, together}
use Rattle.proposals.specs.Proposal.{first_pair, proposed_parts}
use Rattle.proposals.proofs.Partitions.{gap-free-count, gap-free-parts, parted-at, parted-count, parted-length}
use Rattle.proposals.proofs.SomeOrder.{Accepted, some-order}
use Rattle.proposals.proofs.OwnParts.{own-length, own-gap-free, own-part, own-accepted}
use Rattle.proposals.proofs.MergingEnds.{Alone, Standing, merging-ends, pair_left}

-- the schema s with the part numbers ps, as note 5 wants them
pub record Proposed (width : ℕ) (s : Schema) (ps : List ℕ) : Type 0 where
  -- "its table with fresh parts": the same parameters and pairs, and the same atoms in the same order, each in the part
  -- of its number
  pub params : (with_parts s ps).params ≡ s.params
  pub pairs : (with_parts s ps).pairs ≡ s.pairs
  pub size : length ps ≡ length s.atoms
  pub same_size : length (with_parts s ps).atoms ≡ length s.atoms
  pub atoms : (i : ℕ) → i < length s.atoms →
      get_or (with_parts s ps).atoms i no_atom ≡ with_part (get_or ps i 0) (get_or s.atoms i no_atom)
  -- no more parts than atoms, "numbered without a gap"
  pub counted : part_count (with_parts s ps).atoms ≡ count_of ps
  pub fewer : count_of ps ≤ length s.atoms
  pub filled : no_gap (with_parts s ps).atoms ≡ true
  -- "The result is accepted by the order rule"
  pub accepted : Accepted (with_parts s ps)
  -- "While some pair of parts can be merged": none can
  pub ended : first_pair width s ps ≡ None
  -- "and each pair left is too wide together or would make a circle"
  pub left : (a b : ℕ) → a < b → b < count_of ps →
      (width < together (with_parts s ps) a b) ⊎ NoOrderComplies (with_parts s (merged a b ps))
  -- a part that is wider than the width is one atom
  pub alone : (p : ℕ) → width < length (params_of (with_parts s ps) p) → Alone ps p

module _ (width : ℕ) (s : Schema) where
  -- at the start each part is one atom
  own-standing : Standing width s (length s.atoms) (own_parts s)
  own-standing = record {
    size = own-length s;
    gap-free = own-gap-free s;
    accepted = own-accepted s;
    alone = λ p w i j x y e f.
        let l = own-length s in
        let u = own-part s i (omega arith) in
        let v = own-part s j (omega arith) in
        omega arith;
  }

  pub proposed : Proposed width s (proposed_parts width s)
  unfolding proposed_parts with_parts
  proposed =
      let ps = proposed_parts width s in
      let d = merging-ends width s (length s.atoms) (length s.atoms) (own_parts s) (omega arith) own-standing in
      let st = d.stands in
      let c = gap-free-count d.count ps st.gap-free in
      record {
        params = refl;
        pairs = refl;
        size = st.size;
        same_size = parted-length s.atoms ps;
        atoms = parted-at s.atoms ps;
        counted = parted-count s.atoms ps st.size;
        fewer = let m = d.no_more in omega arith;
        filled = gap-free-parts d.count s.atoms ps st.size st.gap-free;
        accepted = some-order (with_parts s ps) st.accepted;
        ended = d.none_left;
        left = λ a b l m. pair_left width s d.count ps st.gap-free d.none_left a b l (omega arith);
        alone = st.alone;
      }
