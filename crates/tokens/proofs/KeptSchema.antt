-- What is known of one schema of a table whose parts are kept: its stretches of atoms and of pairs, and that its
-- numbers are small.
use Prim.Native.Nat.{ℕ, ◌+◌, ◌-◌, ◌≤◌, ◌<◌, suc}
use mathlib.Core.Path.{◌≡◌, sym, ◌∙◌, ap, ap₂, subst}
use mathlib.Core.Bool.{true}
use mathlib.Core.List.{List}
use native.Mathlib.Omega.{arith}
use native.Mathlib.Numerals.{add-one}
use lib.ListN.{length}
use borrow.Author.Tests.{leb-true}
use Rattle.task.specs.Layout.{head_in}
use Rattle.task.specs.Task.{schema_fits, Task}
use Rattle.task.specs.Run.{schema_at}
use Rattle.task.specs.Table.{task_of, is_table, atom_in}
use Rattle.words.proofs.Lists.{in-get_or}
use Rattle.task.proofs.AtomsStand.{no_atom}
use Rattle.task.proofs.SchemaAtoms.{role-rises}
use Rattle.task.proofs.Tests.{SchemaTests, schema-tests}
use Rattle.task.proofs.TablesByIndex.{table-frame, schemas-word, start-suc}
use Rattle.arcs.specs.Stretches.{IsStretch, stretch_in, IsPairStretch, pair_stretch_in}
use Rattle.task.proofs.SchemaWords.{part_small}
use Rattle.arcs.proofs.OrderTaken.{OrderOf, order_of-laws}
use Rattle.arcs.proofs.Stretches.{schema-atoms, schema-stretch, schema-pairs, schema-pair-stretch}
use Rattle.tokens.specs.Split.{parts, orders}
use Rattle.arcs.proofs.AtomWords.{schema-fits}
use Rattle.arcs.proofs.SchemaEnds.{schema-known}
use Rattle.tokens.proofs.KeptSchemas.{schemas-few, order-few}
use Rattle.std.specs.Prelude.{Some}
use Rattle.task.specs.Limits.{most_schemas, most_parts, most_atoms, most_parameters}
use Rattle.task.specs.Turns.{first_atom, first_pair}
use Rattle.arcs.specs.Order.{order_of}
use Rattle.words.specs.Sets.{word_bits}
use Rattle.tokens.specs.Kept.{kept_start, kept_end, kept_count, kept_pair, kept_pair_end, ParamsKept, PartsKept, SchemaKept}

-- as many schemas as a table's head says, and a schema below that number
module _ (w : List ℕ) (h : is_table w ≡ true) {n : ℕ} (told : n ≡ (head_in w).schemas) where
  pub schemas-told : n ≡ length (task_of w).schemas
  schemas-told = told ∙ sym (schemas-word w (table-frame w h))

  pub one-kept : {kept : List ℕ} → PartsKept (task_of w) (length (task_of w).schemas) kept → {s : ℕ} → s < n →
      SchemaKept w s kept
  one-kept all l = record { table = h; known = let e = schemas-told in omega arith; all = all }

module _ {w : List ℕ} {s : ℕ} {kept : List ℕ} (K : SchemaKept w s kept) where
  abbrev t : Task
  t = task_of w

  pub schema-small : s < most_schemas
  schema-small = let l = schemas-few w K.table in let k = K.known in omega arith

  starts : kept_start kept s ≡ first_atom t s
  starts = let k = K.known in K.all.start s (omega arith)

  ends : kept_end kept s ≡ first_atom t (suc s)
  ends = let k = K.known in K.all.start (s + 1) (omega arith) ∙ ap (first_atom t) (add-one s)

  pub taken : order_of (schema_at t s) ≡ Some (orders t s)
  taken = K.all.taken s K.known

  pub counted : kept_count kept s ≡ length (orders t s)
  counted = K.all.count s K.known

  pub params-kept : ParamsKept t s (orders t s) kept
  params-kept = record { count = counted; params = λ j x. K.all.params s j x K.known }

  pub count_small : kept_count kept s ≤ most_parts
  count_small = let c = counted in omega (arith, order-few w K.table s K.known taken)

  word-known : s < (head_in w).schemas
  word-known = schema-known w K.table s K.known

  pub kept-fits : schema_fits t.arities (schema_at t s) ≡ true
  kept-fits = schema-fits w K.table s K.known

  tests : SchemaTests t.arities (schema_at t s)
  tests = schema-tests t.arities (schema_at t s) kept-fits

  pub kept-params : (schema_at t s).params ≤ word_bits
  kept-params = let b = leb-true (schema_at t s).params most_parameters tests.params in omega arith

  -- its atoms, from where they begin to where they end
  module _ {from to : ℕ} (begins : from ≡ kept_start kept s) (stops : to ≡ kept_end kept s) where
    pub kept-stretch : IsStretch w from to
    kept-stretch =
        subst (λ (n : ℕ). IsStretch w n to) (sym (begins ∙ starts))
        (subst (λ (n : ℕ). IsStretch w (first_atom t s) n) (sym (stops ∙ ends))
        (schema-stretch w K.table s word-known))

    pub kept-rise : (j k : ℕ) → from ≤ j → j ≤ k → k < to → (atom_in w j).role ≤ (atom_in w k).role
    kept-rise j k a b c =
        let x = starts in
        let y = ends in
        role-rises w K.table s word-known j k (omega arith) b (omega arith)

    pub kept-atoms : (schema_at t s).atoms ≡ stretch_in w from to
    kept-atoms =
        schema-atoms w K.table s word-known ∙ ap₂ (stretch_in w) (sym (begins ∙ starts)) (sym (stops ∙ ends))

    pub stretch-small : to - from ≤ most_atoms
    stretch-small =
        let b = leb-true (length (schema_at t s).atoms) most_atoms tests.few in
        let x = starts in
        let y = ends in
        omega (arith, start-suc w (table-frame w K.table) s word-known)

  -- its pairs, likewise
  pair-starts : kept_pair kept s ≡ first_pair t s
  pair-starts = let k = K.known in K.all.pair s (omega arith)

  pair_ends : kept_pair_end kept s ≡ first_pair t (suc s)
  pair_ends = let k = K.known in K.all.pair (s + 1) (omega arith) ∙ ap (first_pair t) (add-one s)

  module _ {from to : ℕ} (begins : from ≡ kept_pair kept s) (stops : to ≡ kept_pair_end kept s) where
    pub kept-pair-stretch : IsPairStretch w from to
    kept-pair-stretch =
        subst (λ (n : ℕ). IsPairStretch w n to) (sym (begins ∙ pair-starts))
        (subst (λ (n : ℕ). IsPairStretch w (first_pair t s) n) (sym (stops ∙ pair_ends))
        (schema-pair-stretch w K.table s word-known))

    pub kept-pairs : (schema_at t s).pairs ≡ pair_stretch_in w from to
    kept-pairs =
        schema-pairs w K.table s word-known ∙
        ap₂ (pair_stretch_in w) (sym (begins ∙ pair-starts)) (sym (stops ∙ pair_ends))

  -- the order taken is one of the parts
  pub kept-order : OrderOf (schema_at t s) (orders t s)
  kept-order = order_of-laws (schema_at t s) (orders t s) taken

  pub count-parts : kept_count kept s ≡ parts (schema_at t s)
  unfolding parts
  count-parts = counted ∙ kept-order.size

  -- a schema has an atom, and so a part
  pub count-some : 1 ≤ kept_count kept s
  unfolding parts
  count-some =
      let b = leb-true 1 (length (schema_at t s).atoms) tests.some-atom in
      let p = part_small (in-get_or (schema_at t s).atoms 0 no_atom b) in
      let e = count-parts in
      omega arith
