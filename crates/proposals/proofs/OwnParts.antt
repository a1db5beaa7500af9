-- The start, "every atom in its own part, numbered in file order": part p is atom p alone, so the arcs are those that
-- two atoms give, and the parameters those of the atom. Some order complies with it: arcs go from preconditions to
-- deletes to adds, so parts of one atom can be placed in that order.
use Prim.Native.Nat.{ℕ, ◌<◌}
use mathlib.Core.Path.{◌≡◌, refl, sym, ◌∙◌, ap, ap₂}
use mathlib.Core.Bool.{true, cond}
use mathlib.Core.List.{List}
use native.Mathlib.Omega.{arith}
use lib.ListN.{length, get_or}
use lib.Dec.{eqb}
use Rattle.words.specs.Lists.{up_to}
use Rattle.words.specs.Sets.{member}
use Rattle.words.proofs.Lists.{bool-ext, In, in-eq, in-get_or, get_or-in, in-up_to, up_to-in, get_or-up_to, length-up_to}
use Rattle.task.specs.Task.{Atom, Schema, names, part_count, precondition, deletion}
use Rattle.task.proofs.AtomsStand.{no_atom}
use Rattle.arcs.specs.Order.{in_part, gives_arc}
use Rattle.arcs.proofs.Arcs.{Ordered, tested-then-added, tested-then-deleted, deleted-then-added, gives-arc, arc-is}
use Rattle.proposals.specs.Proposal.{with_part, parted, with_parts, own_parts, some_order}
use Rattle.proposals.specs.Circle.{arcs_of}
use Rattle.proposals.specs.Scratch.{arcs_in, InPlay, parameters_to}
use Rattle.proposals.proofs.RankedParts.{ranked-placeable}
use Rattle.proposals.proofs.SomeOrder.{some-order-exactly}
use Rattle.proposals.proofs.Partitions.{GapFree, numbered-gap-free, parted-at, parted-length}
use Rattle.proposals.proofs.PartNames.{part-names, names-part}

-- preconditions, then deletes, then adds
role_rank : ℕ → ℕ
role_rank r = cond (eqb r precondition) 0 (cond (eqb r deletion) 1 2)

rank_rises : {r q : ℕ} → Ordered r q → role_rank r < role_rank q
unfolding role_rank
rank_rises tested-then-added = omega arith
rank_rises tested-then-deleted = omega arith
rank_rises deleted-then-added = omega arith

module _ (s : Schema) where
  abbrev atom_at : ℕ → Atom
  atom_at p = get_or s.atoms p no_atom

  abbrev own : Schema
  own = with_parts s (own_parts s)

  -- ---- the numbers
  pub own-length : length (own_parts s) ≡ length s.atoms
  unfolding own_parts
  own-length = length-up_to (length s.atoms)

  pub own-gap-free : GapFree (length s.atoms) (own_parts s)
  unfolding own_parts
  own-gap-free = record { below = up_to-in (length s.atoms); filled = in-up_to (length s.atoms) }

  -- atom i is in part i
  pub own-part : (i : ℕ) → i < length s.atoms → get_or (own_parts s) i 0 ≡ i
  unfolding own_parts
  own-part i l = get_or-up_to (length s.atoms) i 0 l

  -- ---- the atoms
  own-atom : (k : ℕ) → k < length s.atoms → get_or own.atoms k no_atom ≡ with_part k (atom_at k)
  unfolding with_parts
  own-atom k l = parted-at s.atoms (own_parts s) k l ∙ ap (λ (p : ℕ). with_part p (atom_at k)) (own-part k l)

  own_in : (k : ℕ) → k < length s.atoms → In (with_part k (atom_at k)) own.atoms
  unfolding with_parts
  own_in k l =
      in-eq (sym (own-atom k l))
      (in-get_or (parted s.atoms (own_parts s)) k no_atom (omega (arith, parted-length s.atoms (own_parts s))))

  -- the one atom of part p
  own_is : (c : Atom) → In c own.atoms → (p : ℕ) → c.part ≡ p → c ≡ with_part p (atom_at p)
  unfolding with_parts with_part
  own_is c i p d =
      let (k, l, e) = get_or-in no_atom i in
      let m = parted-length s.atoms (own_parts s) in
      let g : c ≡ with_part k (atom_at k) = sym e ∙ own-atom k (omega arith) in
      g ∙ ap (λ (p : ℕ). with_part p (atom_at p)) (sym (ap (λ (z : Atom). z.part) g) ∙ d)

  -- ---- the arcs
  own-arc : (p q : ℕ) → p < length s.atoms → q < length s.atoms →
      arcs_of (with_parts s (own_parts s)) p q ≡
      gives_arc s.pairs (get_or s.atoms p no_atom) (get_or s.atoms q no_atom)
  unfolding with_parts with_part gives_arc
  own-arc p q l m = bool-ext (arcs_of own p q) (gives_arc s.pairs (atom_at p) (atom_at q)) forth back
    where
      forth : arcs_of own p q ≡ true → gives_arc s.pairs (atom_at p) (atom_at q) ≡ true
      forth h =
          let k = (arc-is s.pairs own.atoms p q).0 h in
          let e = own_is k.first k.first-in p k.first-part in
          let f = own_is k.second k.second-in q k.second-part in
          sym (ap₂ (gives_arc s.pairs) e f) ∙ k.gives

      apart : gives_arc s.pairs (atom_at p) (atom_at q) ≡ true → p ≡ q → ⊥
      apart h e =
          let z = rank_rises ((gives-arc s.pairs (atom_at p) (atom_at q)).0 h).1 in
          let y = ap (λ (k : ℕ). role_rank (atom_at k).role) e in
          omega arith

      back : gives_arc s.pairs (atom_at p) (atom_at q) ≡ true → arcs_of own p q ≡ true
      back h =
          (arc-is s.pairs own.atoms p q).1 (record {
            apart = apart h;
            first = with_part p (atom_at p);
            second = with_part q (atom_at q);
            first-in = own_in p l;
            second-in = own_in q m;
            first-part = refl;
            second-part = refl;
            gives = h;
          })

  -- ---- the parameters
  own-has : (x p : ℕ) → p < length s.atoms →
      in_part (with_parts s (own_parts s)).atoms x p ≡ names x (get_or s.atoms p no_atom)
  unfolding with_part names
  own-has x p l = bool-ext (in_part own.atoms x p) (names x (atom_at p)) forth back
    where
      forth : in_part own.atoms x p ≡ true → names x (atom_at p) ≡ true
      forth h =
          let k = part-names own.atoms x p h in
          sym (ap (names x) (own_is k.atom k.one p k.part)) ∙ k.names-it

      back : names x (atom_at p) ≡ true → in_part own.atoms x p ≡ true
      back h =
          names-part own.atoms x p
          (record { atom = with_part p (atom_at p); one = own_in p l; part = refl; names-it = h })

  -- ---- an order
  rank : ℕ → ℕ
  rank p = role_rank (atom_at p).role

  arc-rises : (p q : ℕ) → arcs_of own p q ≡ true → rank p < rank q
  unfolding with_parts with_part rank
  arc-rises p q h =
      let k = (arc-is s.pairs own.atoms p q).0 h in
      let o = rank_rises ((gives-arc s.pairs k.first k.second).0 k.gives).1 in
      let e = ap (λ (z : Atom). role_rank z.role) (own_is k.first k.first-in p k.first-part) in
      let f = ap (λ (z : Atom). role_rank z.role) (own_is k.second k.second-in q k.second-part) in
      omega arith

  -- "The result is accepted by the order rule": so is the start
  pub own-accepted : some_order (with_parts s (own_parts s)) ≡ true
  own-accepted =
      (some-order-exactly own).1
      (ranked-placeable (arcs_of own) rank (up_to (part_count own.atoms)) (λ p q i j. arc-rises p q))

  -- ---- the scratch
  pub own-in-play : (scratch : List ℕ) →
      ((p q : ℕ) → p < length s.atoms → q < length s.atoms →
      arcs_in scratch p q ≡ gives_arc s.pairs (get_or s.atoms p no_atom) (get_or s.atoms q no_atom)) →
      ((p x : ℕ) → p < length s.atoms → member (parameters_to scratch p) x ≡ names x (get_or s.atoms p no_atom)) →
      InPlay s (length s.atoms) (own_parts s) scratch
  own-in-play scratch arcs named = record {
    size = own-length;
    numbered = numbered-gap-free.1 own-gap-free;
    arcs = λ p q l m. arcs p q l m ∙ sym (own-arc p q l m);
    named = λ p x l. named p x l ∙ sym (own-has x p l);
  }
