-- A `part` line: the code's tests of the parts are the definitions' tests, by the rows of the schema and by the part
-- numbers alone.
use Prim.Native.Nat.{ℕ, suc, ◌+◌, ◌*◌, ◌≤◌, ◌<◌, max}
use mathlib.Core.Path.{◌≡◌, refl, sym, ◌∙◌, ap, ap₂}
use mathlib.Core.Bool.{Bool, true, false, ◌&&◌, ◌||◌}
use mathlib.Core.List.{List, [], ◌∷◌}
use native.Mathlib.Omega.{arith}
use lib.ListN.{length, get_or, take}
use lib.Dec.{eqb, ltb}
use borrow.Author.Tests.{le-leb, lt-leb, eq-eqb, ne_eqb}
use Rattle.words.specs.Lists.{all, any, up_to}
use Rattle.task.specs.Limits.{head_words, atom_size, table_length}
use Rattle.task.specs.Task.{Atom, names, part_count, no_gap, all_named}
use Rattle.words.proofs.Lists.{In, here, there, in-get_or}
use Rattle.task.proofs.AtomsStand.{Sized}
use Rattle.text.specs.Reading.{go_on, refuse}
use Rattle.text.specs.Text.{Draft, with_parts, close_schema}
use Rattle.text.specs.ReadCode.{Listed, RowIn, row_names, one_above, no_gap_in}
use Rattle.text.specs.Holding.{Holds, with_closed, rows_at}
use Rattle.text.proofs.Reading.{need-met}
use Rattle.text.proofs.LineTurns.{need-fails}
use Rattle.text.proofs.RowTests.{listed-take}
use Rattle.text.proofs.RowCompare.{any-index, names-row, pred-word}
use Rattle.text.proofs.HeldAtoms.{atom-sized, atom-stands}
use Rattle.text.specs.declared.draft.Counts.{Counts}

-- ---- parts alone
pub count-above : (atoms : List Atom) (ps : List ℕ) → length ps ≡ length atoms →
    part_count (with_parts atoms ps) ≡ one_above ps
unfolding part_count with_parts one_above
count-above [] [] e = refl
count-above [] (p ∷ ps) e = absurd (omega arith)
count-above (a ∷ atoms) [] e = absurd (omega arith)
count-above (a ∷ atoms) (p ∷ ps) e = ap (max (suc p)) (count-above atoms ps (omega arith))

pub has-part : (q : ℕ) (atoms : List Atom) (ps : List ℕ) → length ps ≡ length atoms →
    any (λ a. eqb q a.part) (with_parts atoms ps) ≡ any (λ p. eqb q p) ps
unfolding any with_parts
has-part q [] [] e = refl
has-part q [] (p ∷ ps) e = absurd (omega arith)
has-part q (a ∷ atoms) [] e = absurd (omega arith)
has-part q (a ∷ atoms) (p ∷ ps) e = ap (λ (b : Bool). eqb q p || b) (has-part q atoms ps (omega arith))

all_alike : {A : Type 0} (p q : A → Bool) (xs : List A) → ((x : A) → In x xs → p x ≡ q x) → all p xs ≡ all q xs
unfolding all
all_alike p q [] h = refl
all_alike p q (x ∷ xs) h = ap₂ ◌&&◌ (h x (here refl)) (all_alike p q xs (λ y i. h y (there i)))

pub gap-alone : (atoms : List Atom) (ps : List ℕ) → length ps ≡ length atoms → no_gap (with_parts atoms ps) ≡ no_gap_in ps
unfolding no_gap no_gap_in
gap-alone atoms ps e =
    ap (λ (n : ℕ). all (λ q. any (λ a. eqb q a.part) (with_parts atoms ps)) (up_to n)) (count-above atoms ps e) ∙
    all_alike (λ q. any (λ a. eqb q a.part) (with_parts atoms ps)) (λ q. any (λ p. eqb q p) ps) (up_to (one_above ps))
    (λ q i. has-part q atoms ps e)

-- ---- parameters by rows
module _ {d : Draft} {w : List ℕ} {c : Counts} (h : Holds d w c) where
  abbrev first : ℕ
  first = rows_at c.predicates + atom_size * c.closed

  abbrev no_atom : Atom
  no_atom = record { role = 0; pred = 0; part = 0; args = [] }

  abbrev S : ℕ
  S = length d.task.schemas

  size-at : (i : ℕ) → i < length d.current.atoms →
      Sized d.task.arities (get_or d.current.atoms i no_atom).pred (get_or d.current.atoms i no_atom).args
  size-at i l = atom-sized h (get_or d.current.atoms i no_atom) (in-get_or d.current.atoms i no_atom l)

  pub row_in : table_length ≤ length w → (i : ℕ) → i < c.atoms → RowIn w (first + atom_size * i)
  row_in long i l =
      let n = h.atoms in
      let m : i < length d.current.atoms = omega arith in
      let a = get_or d.current.atoms i no_atom in
      let size = size-at i m in
      let word = pred-word w (first + atom_size * i) S a size.short (atom-stands h i no_atom m) in
      let known = size.known in
      let p = h.predicates in
      let few = h.few.predicates in
      let total = h.few.total in
      let arity : get_or w (head_words + get_or w (first + atom_size * i + 2) 0) 0 ≡ length a.args =
      ap (λ (x : ℕ). get_or w (head_words + x) 0) word ∙ (h.arities-stand a.pred size.known ∙ sym size.count) in
      let short = size.short in
      record { inside = omega arith; known = omega arith; few = omega arith }

  pub named-is : all (λ x. any (λ i. row_names w (first + atom_size * i) x) (up_to c.atoms)) (up_to c.params) ≡
      all_named d.current
  unfolding all_named
  named-is =
      ap (λ (n : ℕ). all (λ x. any (λ i. row_names w (first + atom_size * i) x) (up_to c.atoms)) (up_to n)) h.params ∙
      all_alike (λ x. any (λ i. row_names w (first + atom_size * i) x) (up_to c.atoms))
      (λ x. any (names x) d.current.atoms)
      (up_to d.current.params) (λ x j.
      any-index (λ i. row_names w (first + atom_size * i) x) (names x) d.current.atoms no_atom c.atoms h.atoms
      (λ i l.
      let a = get_or d.current.atoms i no_atom in
      let size = size-at i l in
      names-row w (first + atom_size * i) S x a size.short (atom-stands h i no_atom l)
      (h.arities-stand a.pred size.known ∙ sym size.count)))

-- ---- what the tests of the rows and of the parts that were kept found, said of the draft and of all that were read
pub parts_named : {d : Draft} {w : List ℕ} {c : Counts} (h : Holds d w c) {row : ℕ} {found : Bool} →
    row ≡ rows_at c.predicates + atom_size * c.closed →
    found ≡ all (λ x. any (λ i. row_names w (row + atom_size * i) x) (up_to c.atoms)) (up_to c.params) →
    all_named d.current ≡ found
parts_named h e told = sym (named-is h) ∙ sym (rw e at told)

pub record Kept (d : Draft) (ps kept : List ℕ) (count : ℕ) : Type 0 where
  pub same : length ps ≡ length d.current.atoms
  pub low : {found : Bool} → found ≡ all (λ p. ltb p 16) (take count kept) → all (λ p. ltb p 16) ps ≡ found
  pub gap : {found : Bool} → found ≡ no_gap_in (take count kept) → no_gap_in ps ≡ found

pub kept-parts : {d : Draft} {w : List ℕ} {c : Counts} → Holds d w c → {ps kept : List ℕ} {count : ℕ} →
    Listed ps count kept → length kept ≡ 64 → count ≡ c.atoms → Kept d ps kept count
kept-parts h {ps} {kept} {count} s size many =
    let first : take count kept ≡ ps = listed-take s (omega (arith, h.few.atoms)) in
    record {
      same = omega (arith, h.atoms, s.counted);
      low = λ e. ap (all (λ p. ltb p 16)) (sym first) ∙ sym e;
      gap = λ e. ap no_gap_in (sym first) ∙ sym e;
    }

-- ---- the tests of a part line
module _ (d : Draft) (ps : List ℕ) where
  pub no-atoms : length d.current.atoms ≡ 0 → close_schema d ps ≡ refuse 7
  unfolding close_schema
  no-atoms e = need-fails 7 _ (lt-leb 1 (length d.current.atoms) (omega arith))

  module _ (some : 1 ≤ length d.current.atoms) where
    pub not_named : all_named d.current ≡ false → close_schema d ps ≡ refuse 7
    unfolding close_schema
    not_named f = need-met 7 (le-leb 1 (length d.current.atoms) some) (need-fails 7 _ f)

    module _ (named : all_named d.current ≡ true) where
      pub wrong-length : (length ps ≡ length d.current.atoms → ⊥) → close_schema d ps ≡ refuse 8
      unfolding close_schema
      wrong-length n =
          need-met 7 (le-leb 1 (length d.current.atoms) some)
          (need-met 7 named (need-fails 8 _ (ne_eqb (length ps) (length d.current.atoms) n)))

      module _ (same : length ps ≡ length d.current.atoms) where
        pub part-high : all (λ p. ltb p 16) ps ≡ false → close_schema d ps ≡ refuse 8
        unfolding close_schema
        part-high f =
            need-met 7 (le-leb 1 (length d.current.atoms) some)
            (need-met 7 named (need-met 8 (eq-eqb (length ps) (length d.current.atoms) same) (need-fails 8 _ f)))

        module _ (low : all (λ p. ltb p 16) ps ≡ true) where
          pub part-gap : no_gap_in ps ≡ false → close_schema d ps ≡ refuse 8
          unfolding close_schema
          part-gap f =
              need-met 7 (le-leb 1 (length d.current.atoms) some)
              (need-met 7 named (need-met 8 (eq-eqb (length ps) (length d.current.atoms) same)
              (need-met 8 low (need-fails 8 _ (gap-alone d.current.atoms ps same ∙ f)))))

          pub parts-close : no_gap_in ps ≡ true → close_schema d ps ≡ go_on (with_closed d ps)
          unfolding close_schema with_closed
          parts-close f =
              need-met 7 (le-leb 1 (length d.current.atoms) some)
              (need-met 7 named (need-met 8 (eq-eqb (length ps) (length d.current.atoms) same)
              (need-met 8 low (need-met 8 (gap-alone d.current.atoms ps same ∙ f) refl))))
