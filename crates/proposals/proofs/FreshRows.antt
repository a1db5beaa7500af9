-- Rows of schema atoms in other parts: words that were those of schema atoms, and keep all but the part words, are the
-- words of these atoms in the parts that stand there now.
use Prim.Native.Nat.{ℕ, zero, suc, ◌+◌, ◌*◌, ◌≤◌, ◌<◌}
use mathlib.Core.Path.{◌≡◌, refl, sym, ◌∙◌, ap, subst}
use mathlib.Core.List.{List, [], ◌∷◌, map}
use native.Mathlib.Omega.{arith}
use lib.ListN.{length, get_or}
use Rattle.words.specs.Lists.{concat_map, sum}
use Rattle.words.proofs.Lists.{In, here, there, in-get_or, get_or-in, length-padded}
use Rattle.words.proofs.Words.{At, at_left, at_right, at-move, at_join, length-rows, at_row, join-rows}
use Rattle.task.specs.Limits.{most_arity, atom_size}
use Rattle.task.specs.Task.{Atom, Schema, schema_atoms, no_schema}
use Rattle.task.specs.Table.{atom_words, rows_from, schemas_from}
use Rattle.task.proofs.AtomsStand.{Short, length-atom_words, no_atom}
use Rattle.task.proofs.SchemaRows.{first_row}
use Rattle.proposals.specs.Proposal.{with_part, parted, with_parts}
use Rattle.proposals.proofs.Partitions.{parted-length, parted-at}

pub parted-in : (atoms : List Atom) (ps : List ℕ) (x : Atom) → In x (parted atoms ps) →
    (p : ℕ) × (a : Atom) × In a atoms × (x ≡ with_part p a)
parted-in atoms ps x i =
    let (k, l, e) = get_or-in no_atom i in
    let n = parted-length atoms ps in
    (get_or ps k 0, get_or atoms k no_atom, in-get_or atoms k no_atom (omega arith), sym e ∙ parted-at atoms ps k (omega arith))

-- ---- a row, those of a schema, those of all schemas
module _ (w after : List ℕ) where
  -- n rows from word b on keep all words but their parts
  abbrev Kept : ℕ → ℕ → Type 0
  Kept b n = (k r : ℕ) → k < n → r < atom_size → (r ≡ 3 → ⊥) →
      get_or after (b + atom_size * k + r) 0 ≡ get_or w (b + atom_size * k + r) 0

  row_fresh : (b s p : ℕ) (a : Atom) → length a.args ≤ most_arity →
      ((r : ℕ) → r < atom_size → (r ≡ 3 → ⊥) → get_or after (b + r) 0 ≡ get_or w (b + r) 0) → get_or after (b + 3) 0 ≡ p →
      At w b (atom_words s a) → At after b (atom_words s (with_part p a))
  unfolding atom_words with_part
  row_fresh b s p a h same part at zero l = same 0 (omega arith) (λ e. omega arith) ∙ at 0 l
  row_fresh b s p a h same part at (suc zero) l = same 1 (omega arith) (λ e. omega arith) ∙ at 1 l
  row_fresh b s p a h same part at (suc (suc zero)) l = same 2 (omega arith) (λ e. omega arith) ∙ at 2 l
  row_fresh b s p a h same part at (suc (suc (suc zero))) l = part
  row_fresh b s p a h same part at (suc (suc (suc (suc k)))) l =
      let n = length-padded most_arity a.args h in
      same (suc (suc (suc (suc k)))) (omega arith) (λ e. omega arith) ∙ at (suc (suc (suc (suc k)))) l

  even : (s : ℕ) (atoms : List Atom) (ps : List ℕ) → ((a : Atom) → In a atoms → length a.args ≤ most_arity) →
      (a : Atom) → In a (parted atoms ps) → length (atom_words s a) ≡ atom_size
  unfolding with_part
  even s atoms ps short x i =
      let (p, a, j, e) = parted-in atoms ps x i in
      ap (λ (a : Atom). length (atom_words s a)) e ∙ length-atom_words s (with_part p a) (short a j)

  atoms-fresh : (b s : ℕ) (atoms : List Atom) (ps : List ℕ) →
      ((a : Atom) → In a atoms → length a.args ≤ most_arity) → Kept b (length atoms) →
      ((k : ℕ) → k < length atoms → get_or after (b + atom_size * k + 3) 0 ≡ get_or ps k 0) →
      At w b (concat_map (atom_words s) atoms) → At after b (concat_map (atom_words s) (parted atoms ps))
  atoms-fresh b s atoms ps short same part at =
      let n = parted-length atoms ps in
      join-rows (atom_words s) atom_size after b (parted atoms ps) no_atom (even s atoms ps short) (λ k l.
      let m : k < length atoms = omega arith in
      let a : Atom = get_or atoms k no_atom in
      let j : In a atoms = in-get_or atoms k no_atom m in
      subst (λ (x : Atom). At after (b + atom_size * k) (atom_words s x)) (sym (parted-at atoms ps k m))
      (row_fresh (b + atom_size * k) s (get_or ps k 0) a (short a j) (λ r. same k r m) (part k m)
      (at_row (atom_words s) atom_size w b atoms no_atom (λ x i. length-atom_words s x (short x i)) at k m)))

  -- schema after schema
  pub schemas-fresh : (parts : Schema → List ℕ) (b n : ℕ) (ss : List Schema) → Short ss → Kept b (schema_atoms ss) →
      ((m k : ℕ) → m < length ss → k < length (get_or ss m no_schema).atoms →
      get_or after (b + atom_size * (first_row (λ s. s.atoms) ss m + k) + 3) 0 ≡ get_or (parts (get_or ss m no_schema)) k 0) →
      At w b (schemas_from n ss) → At after b (schemas_from n (map (λ s. with_parts s (parts s)) ss))
  unfolding rows_from with_parts sum
  schemas-fresh parts b n [] short same part at = λ k l. absurd (omega arith)
  schemas-fresh parts b n (s ∷ ss) short same part at =
      let atoms : List Atom = s.atoms in
      let next : ℕ = b + atom_size * length atoms in
      let old : List ℕ = concat_map (atom_words n) atoms in
      let new : List ℕ = concat_map (atom_words n) (parted atoms (parts s)) in
      let rest : List ℕ = schemas_from (suc n) (map (λ s. with_parts s (parts s)) ss) in
      let few : (a : Atom) → In a atoms → length a.args ≤ most_arity = short s (here refl) in
      let e₀ = length-rows (atom_words n) atom_size atoms (λ a i. length-atom_words n a (few a i)) in
      let e₁ = length-rows (atom_words n) atom_size (parted atoms (parts s)) (even n atoms (parts s) few) in
      let e₂ = parted-length atoms (parts s) in
      let own : (k : ℕ) → k < length atoms → get_or after (b + atom_size * k + 3) 0 ≡ get_or (parts s) k 0 = λ k l.
      let z : b + atom_size * k + 3 ≡ b + atom_size * (0 + k) + 3 = omega arith in
      ap (λ (i : ℕ). get_or after i 0) z ∙ part 0 k (omega arith) l in
      let kept : Kept next (schema_atoms ss) = λ k r l x y.
      let z : b + atom_size * (length atoms + k) + r ≡ next + atom_size * k + r = omega arith in
      subst (λ (i : ℕ). get_or after i 0 ≡ get_or w i 0) z (same (length atoms + k) r (omega arith) x y) in
      at_join after b new rest
      (atoms-fresh b n atoms (parts s) few (λ k r l. same k r (omega arith)) own
      (at_left w b old (schemas_from (suc n) ss) at))
      (at-move after next (b + length new) rest (omega arith)
      (schemas-fresh parts next (suc n) ss (λ u i. short u (there i)) kept
      (λ m k l x.
      let first : ℕ = first_row (λ s. s.atoms) ss m in
      let z : next + atom_size * (first + k) + 3 ≡ b + atom_size * (length atoms + first + k) + 3 = omega arith in
      ap (λ (i : ℕ). get_or after i 0) z ∙ part (suc m) k (omega arith) x)
      (at-move w (b + length old) next (schemas_from (suc n) ss) (omega arith)
      (at_right w b old (schemas_from (suc n) ss) at))))
