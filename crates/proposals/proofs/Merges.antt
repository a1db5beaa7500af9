-- What a merge of parts a < b makes of a schema. Its atoms are the same ones, renumbered: so a part has the parameters
-- of the parts that became it, and an arc between parts is one between parts that became them.
use Prim.Native.Nat.{ℕ, ◌<◌}
use mathlib.Core.Path.{◌≡◌, refl, sym, ◌∙◌, ap, ap₂}
use mathlib.Core.Bool.{Bool, true, not, ◌||◌}
use mathlib.Core.List.{List, map}
use lib.ListN.{length}
use lib.Dec.{eqb}
use borrow.Author.Tests.{eqb-false, ne_eqb, not-true}
use Rattle.words.specs.Lists.{any, up_to}
use Rattle.words.proofs.Lists.{and_left, and_right, and_both, bool-ext, In, any-in, in-any, in_map, map-in, filter_same}
use Rattle.words.proofs.Ranges.{or-false}
use Rattle.task.specs.Task.{Atom, Schema, names}
use Rattle.arcs.specs.Order.{gives_arc, in_part}
use Rattle.arcs.proofs.Arcs.{Arc, arc-is}
use Rattle.tokens.specs.Split.{has, params_of}
use Rattle.proposals.specs.Proposal.{with_part, with_parts, merged_number, merged, together}
use Rattle.proposals.specs.Circle.{arcs_of, came_from, becoming, merged_arcs}
use Rattle.proposals.proofs.Partitions.{renumbered, parted-renumbered}
use Rattle.proposals.proofs.PartNames.{part-names, names-part}
use Rattle.proposals.proofs.CameFrom.{becoming-both, becoming-other}
use Rattle.proposals.proofs.MergedNumbers.{becoming-goes, goes-becoming}

-- ---- a schema before and after the merge
module _ (s : Schema) (ps : List ℕ) (size : length ps ≡ length s.atoms) (a b : ℕ) (l : a < b) where
  abbrev before : Schema
  before = with_parts s ps

  abbrev after : Schema
  after = with_parts s (merged a b ps)

  abbrev moved : Atom → Atom
  moved c = renumbered (merged_number a b) c

  after-atoms : after.atoms ≡ map moved before.atoms
  unfolding with_parts merged
  after-atoms = parted-renumbered (merged_number a b) s.atoms ps size

  was : (c : Atom) → In c after.atoms → (d : Atom) × In d before.atoms × (c ≡ moved d)
  was c i = map-in moved before.atoms c (rw after-atoms at i)

  is : (d : Atom) → In d before.atoms → In (moved d) after.atoms
  is d i = rw after-atoms (in_map moved i)

  -- ---- parameters
  abbrev had_before : ℕ → ℕ → Bool
  had_before x p = in_part before.atoms x p

  pub has-merged : (x q : ℕ) → in_part after.atoms x q ≡ any (λ p. in_part before.atoms x p) (becoming a b q)
  unfolding with_part names
  has-merged x q = bool-ext (in_part after.atoms x q) (any (had_before x) (becoming a b q)) forth back
    where
      forth : in_part after.atoms x q ≡ true → any (had_before x) (becoming a b q) ≡ true
      forth h =
          let k = part-names after.atoms x q h in
          let (d, i, e) = was k.atom k.one in
          let goes : merged_number a b d.part ≡ q = sym (ap (λ (z : Atom). z.part) e) ∙ k.part in
          in-any (had_before x) (goes-becoming a b l q d.part goes)
          (names-part before.atoms x d.part
          (record { atom = d; one = i; part = refl; names-it = sym (ap (names x) e) ∙ k.names-it }))

      back : any (had_before x) (becoming a b q) ≡ true → in_part after.atoms x q ≡ true
      back h =
          let (p, i, e) = any-in (had_before x) (becoming a b q) h in
          let k = part-names before.atoms x p e in
          names-part after.atoms x q (record {
            atom = moved k.atom;
            one = is k.atom k.one;
            part = ap (merged_number a b) k.part ∙ becoming-goes a b l q p i;
            names-it = k.names-it;
          })

  -- the merged part has those that both had together
  has-both : (x : ℕ) →
      in_part after.atoms x a ≡ in_part before.atoms x a || in_part before.atoms x b
  unfolding any
  has-both x =
      has-merged x a
      ∙ (ap (any (had_before x)) (becoming-both a b) ∙ ap (λ c. had_before x a || c) (or-false (had_before x b)))

  pub merged-width : length (params_of after a) ≡ together before a b
  unfolding params_of has together with_parts
  merged-width =
      ap length (filter_same (λ x. in_part after.atoms x a) (λ x. had_before x a || had_before x b) (up_to s.params)
      (λ x i. has-both x))

  -- another part those that the part had that became it
  module _ (q : ℕ) (n : q ≡ a → ⊥) where
    has_other : (x : ℕ) → in_part after.atoms x q ≡ in_part before.atoms x (came_from b q)
    unfolding any
    has_other x =
        has-merged x q ∙ (ap (any (had_before x)) (becoming-other a b q n) ∙ or-false (had_before x (came_from b q)))

    pub other_width : length (params_of after q) ≡ length (params_of before (came_from b q))
    unfolding params_of has with_parts
    other_width =
        ap length (filter_same (λ x. in_part after.atoms x q) (λ x. had_before x (came_from b q)) (up_to s.params)
        (λ x i. has_other x))

  -- ---- arcs
  pub arc-merged : (p q : ℕ) → arcs_of after p q ≡ merged_arcs a b (arcs_of before) p q
  unfolding with_part with_parts merged_arcs gives_arc
  arc-merged p q = bool-ext (arcs_of after p q) (merged_arcs a b (arcs_of before) p q) forth back
    where
      from : ℕ → Bool
      from x = any (λ y. arcs_of before x y) (becoming a b q)

      forth : arcs_of after p q ≡ true → merged_arcs a b (arcs_of before) p q ≡ true
      forth h =
          let k = (arc-is s.pairs after.atoms p q).0 h in
          let (c, i, e) = was k.first k.first-in in
          let (d, j, f) = was k.second k.second-in in
          let u : merged_number a b c.part ≡ p = sym (ap (λ (z : Atom). z.part) e) ∙ k.first-part in
          let v : merged_number a b d.part ≡ q = sym (ap (λ (z : Atom). z.part) f) ∙ k.second-part in
          let arc : Arc s.pairs before.atoms c.part d.part = record {
            apart = λ z. k.apart (sym u ∙ (ap (merged_number a b) z ∙ v));
            first = c;
            second = d;
            first-in = i;
            second-in = j;
            first-part = refl;
            second-part = refl;
            gives = sym (ap₂ (gives_arc s.pairs) e f) ∙ k.gives;
          } in
          and_both (not (eqb p q)) _ (ap not (ne_eqb p q k.apart))
          (in-any from (goes-becoming a b l p c.part u)
          (in-any (λ y. arcs_of before c.part y) (goes-becoming a b l q d.part v)
          ((arc-is s.pairs before.atoms c.part d.part).1 arc)))

      back : merged_arcs a b (arcs_of before) p q ≡ true → arcs_of after p q ≡ true
      back h =
          let n = not-true (eqb p q) (and_left (not (eqb p q)) _ h) in
          let (x, i, e) = any-in from (becoming a b p) (and_right (not (eqb p q)) _ h) in
          let (y, j, f) = any-in (λ y. arcs_of before x y) (becoming a b q) e in
          let k = (arc-is s.pairs before.atoms x y).0 f in
          (arc-is s.pairs after.atoms p q).1 (record {
            apart = eqb-false p q n;
            first = moved k.first;
            second = moved k.second;
            first-in = is k.first k.first-in;
            second-in = is k.second k.second-in;
            first-part = ap (merged_number a b) k.first-part ∙ becoming-goes a b l p x i;
            second-part = ap (merged_number a b) k.second-part ∙ becoming-goes a b l q y j;
            gives = k.gives;
          })
