use Rattle.std.proofs.Common.{◌≡◌, ◌≤◌, ◌<◌, ◌+◌, ℕ, suc, List, length, true, refl, sym, ap, ap₂, ◌∙◌, subst, arith, add-one}
use Rattle.std.specs.Prelude.{Option}
use Rattle.words.specs.Lists.{sum, up_from, up_to}
use Rattle.task.specs.Layout.{head_in}
use Rattle.task.specs.Limits.{most_schemas}
use Rattle.task.specs.Run.{schema_at}
use Rattle.task.specs.Task.{Schema}
use Rattle.task.specs.Table.{task_of, is_table}
use Rattle.task.specs.Turns.{first_atom, first_pair}
use Rattle.task.proofs.TableReads.{counts-inside}
use Rattle.arcs.specs.declared.Order.{Order}
use Rattle.arcs.specs.Stretches.{IsStretch, stretch_in, IsPairStretch, pair_stretch_in, order_told}
use Rattle.arcs.specs.Order.{order_of}
use Rattle.arcs.proofs.Stretches.{schema-atoms, schema-stretch, schema-pairs, schema-pair-stretch}
use Rattle.tokens.specs.Acceptance.{OrderKept}
use Rattle.tokens.specs.Split.{first_of}
use Rattle.tokens.specs.Kept.{PartsKept}
use Rattle.tokens.proofs.KeptSchema.{schemas-told}
use Rattle.tokens.proofs.KeptSchemas.{schemas-few, atoms-few, parts_none, parts_more, told_none, circular-here}
use Rattle.tokens.proofs.KeptSchemas.{circular-nowhere, found-small, found_inside, parts-few, pairs-few, first_more}
use Rattle.tokens.proofs.parts.keep_parts.Goals as goal

-- ---- the schema of a turn
module _ (w : List ℕ) (h : is_table w ≡ true) {n s : ℕ} (said : n ≡ (head_in w).schemas) (l : s < n) where
  known : s < length (task_of w).schemas
  known = omega (arith, schemas-told w h said)

  few : s < most_schemas
  few = omega (arith, known, schemas-few w h)

  in-head : s < (head_in w).schemas
  in-head = omega arith

  -- its atoms, from where they were said to begin to where they were found to end
  module _ {from to : ℕ} (begins : from ≡ first_atom (task_of w) s) (ends : to ≡ first_atom (task_of w) (suc s)) where
    stretch : IsStretch w from to
    stretch = subst (λ (n : ℕ). IsStretch w n to) (sym begins)
        (subst (λ (n : ℕ). IsStretch w (first_atom (task_of w) s) n) (sym ends) (schema-stretch w h s in-head))

    atoms_are : (schema_at (task_of w) s).atoms ≡ stretch_in w from to
    atoms_are = schema-atoms w h s in-head ∙ ap₂ (stretch_in w) (sym begins) (sym ends)

  -- its pairs, likewise
  module _ {from to : ℕ} (begins : from ≡ first_pair (task_of w) s) (ends : to ≡ first_pair (task_of w) (suc s)) where
    pair-stretch : IsPairStretch w from to
    pair-stretch = subst (λ (n : ℕ). IsPairStretch w n to) (sym begins)
        (subst (λ (n : ℕ). IsPairStretch w (first_pair (task_of w) s) n) (sym ends) (schema-pair-stretch w h s in-head))

    pairs-are : (schema_at (task_of w) s).pairs ≡ pair_stretch_in w from to
    pairs-are = schema-pairs w h s in-head ∙ ap₂ (pair_stretch_in w) (sym begins) (sym ends)

  -- what is found of its order
  told : {from to pair end : ℕ} → from ≡ first_atom (task_of w) s → to ≡ first_atom (task_of w) (suc s) →
      pair ≡ first_pair (task_of w) s → end ≡ first_pair (task_of w) (suc s) → (f : Option Order) →
      ((u : Schema) → u.pairs ≡ pair_stretch_in w pair end → u.atoms ≡ stretch_in w from to →
      order_told f ≡ order_of u) →
      order_told f ≡ order_of (schema_at (task_of w) s)
  told a b p q f e = e (schema_at (task_of w) s) (pairs-are p q) (atoms_are a b)

pub word-schemas-requires : goal.word-schemas-requires
word-schemas-requires c = omega (arith, counts-inside c.args.table.now c.requires)

pub loop-s-init : goal.loop-s-init
unfolding sum first_of up_to up_from
loop-s-init c =
    let w = c.args.table.now in (
      refl,
      refl,
      omega arith,
      subst (PartsKept (task_of w) 0) (sym c.keep_begin.ensures)
          (parts_none w c.requires c.args.kept.now (omega arith)),
      refl,
    )

pub schema_ends-ends-requires-clause-s_in_bounds : goal.schema_ends-ends-requires-clause-s_in_bounds
schema_ends-ends-requires-clause-s_in_bounds c =
    known c.args.table.now c.requires c.word-schemas.ensures.value c.loop-s-test.true

pub order_of-found-requires-clause-stretch : goal.order_of-found-requires-clause-stretch
order_of-found-requires-clause-stretch c =
    stretch c.args.table.now c.requires c.word-schemas.ensures.value c.loop-s-test.true
    c.loop-s.invariant.0 c.schema_ends-ends.ensures.atoms_value

pub order_of-found-requires-clause-pair_stretch : goal.order_of-found-requires-clause-pair_stretch
order_of-found-requires-clause-pair_stretch c =
    pair-stretch c.args.table.now c.requires c.word-schemas.ensures.value c.loop-s-test.true
    c.loop-s.invariant.4 c.schema_ends-ends.ensures.pairs_value

pub returns-clause-result_value : goal.returns-clause-result_value
returns-clause-result_value c =
    let w = c.args.table.now in
    let n = schemas-told w c.requires c.word-schemas.ensures.value in
    sym (circular-nowhere (task_of w) c.loop-s.s c.loop-s.invariant.3.taken (omega arith))

pub returns-clause-parts_kept : goal.returns-clause-parts_kept
returns-clause-parts_kept c = λ z.
    let w = c.args.table.now in
    let n = schemas-told w c.requires c.word-schemas.ensures.value in
    subst (λ (n : ℕ). PartsKept (task_of w) n c.loop-s.kept) (omega arith) c.loop-s.invariant.3

pub returns-in_default-clause-result_value : goal.returns-in_default-clause-result_value
returns-in_default-clause-result_value c =
    let w = c.args.table.now in
    let h = c.requires in
    let n = c.word-schemas.ensures.value in
    let l = c.loop-s-test.true in
    let inv = c.loop-s.invariant in
    let ends = c.schema_ends-ends.ensures in
    let found = told w h n l inv.0 ends.atoms_value inv.4 ends.pairs_value c.order_of-found.result.order
    c.order_of-found.ensures.result_value in
    sym (circular-here (task_of w) c.loop-s.s inv.3.taken (known w h n l)
    (told_none (task_of w) c.loop-s.s found c.in_default.is))

pub keep_count-requires : goal.keep_count-requires
keep_count-requires c =
    let few-parts = c.order_of-found.ensures.count_le_most_parts c.in-Some.order c.in-Some.is in
    (few c.args.table.now c.requires c.word-schemas.ensures.value c.loop-s-test.true, omega arith)

pub keep_order-requires-clause-count_bound : goal.keep_order-requires-clause-count_bound
keep_order-requires-clause-count_bound c =
    let w = c.args.table.now in
    let h = c.requires in
    let n = c.word-schemas.ensures.value in
    let l = c.loop-s-test.true in
    let inv = c.loop-s.invariant in
    let ends = c.schema_ends-ends.ensures in
    let found = told w h n l inv.0 ends.atoms_value inv.4 ends.pairs_value c.order_of-found.result.order
    c.order_of-found.ensures.result_value in
    let told = ap order_told (sym c.in-Some.is) ∙ found in
    let few-parts = c.order_of-found.ensures.count_le_most_parts c.in-Some.order c.in-Some.is in
    omega (arith, inv.0, found_inside w h c.loop-s.s (known w h n l) c.in-Some.order told (omega arith))

pub keep_order-requires-clause-by_index : goal.keep_order-requires-clause-by_index
keep_order-requires-clause-by_index c =
    let w = c.args.table.now in
    let h = c.requires in
    let n = c.word-schemas.ensures.value in
    let l = c.loop-s-test.true in
    let inv = c.loop-s.invariant in
    let ends = c.schema_ends-ends.ensures in
    let found = told w h n l inv.0 ends.atoms_value inv.4 ends.pairs_value c.order_of-found.result.order
    c.order_of-found.ensures.result_value in
    let told = ap order_told (sym c.in-Some.is) ∙ found in
    let few-parts = c.order_of-found.ensures.count_le_most_parts c.in-Some.order c.in-Some.is in
    found-small (task_of w) c.loop-s.s c.in-Some.order told (omega arith) (parts-few w h c.loop-s.s (known w h n l))

pub keep_begin-requires-in-loop-s-clause-row_le_most_schemas :
    goal.keep_begin-requires-in-loop-s-clause-row_le_most_schemas
keep_begin-requires-in-loop-s-clause-row_le_most_schemas c =
    omega (arith, few c.args.table.now c.requires c.word-schemas.ensures.value c.loop-s-test.true)

pub keep_begin-requires-in-loop-s-clause-start_lt_word_bound :
    goal.keep_begin-requires-in-loop-s-clause-start_lt_word_bound
keep_begin-requires-in-loop-s-clause-start_lt_word_bound c =
    let w = c.args.table.now in
    let h = c.requires in
    let n = c.word-schemas.ensures.value in
    let l = c.loop-s-test.true in
    let inv = c.loop-s.invariant in
    let ends = c.schema_ends-ends.ensures in
    let s = stretch w h n l inv.0 ends.atoms_value in
    let p = pair-stretch w h n l inv.4 ends.pairs_value in
    let few-parts = c.order_of-found.ensures.count_le_most_parts c.in-Some.order c.in-Some.is in (
      omega (arith, s.known, atoms-few w h),
      omega (arith, few w h n l),
      omega (arith, p.known, pairs-few w h),
    )

pub loop-s-preserved : goal.loop-s-preserved
loop-s-preserved c =
    let w = c.args.table.now in
    let h = c.requires in
    let n = c.word-schemas.ensures.value in
    let l = c.loop-s-test.true in
    let inv = c.loop-s.invariant in
    let ends = c.schema_ends-ends.ensures in
    let found = told w h n l inv.0 ends.atoms_value inv.4 ends.pairs_value c.order_of-found.result.order
    c.order_of-found.ensures.result_value in
    let t = task_of w in
    let s = c.loop-s.s in
    let o = c.in-Some.order in
    let told = ap order_told (sym c.in-Some.is) ∙ found in
    let atoms = atoms_are w h n l inv.0 ends.atoms_value in
    let sets = c.order_of-found.result.named in
    let order = c.keep_order in
    let new = subst (λ (k : List ℕ). OrderKept c.loop-s.from o.count o.parts sets k order.new.kept)
    c.keep_count.ensures order.ensures in
    let few-parts = c.order_of-found.ensures.count_le_most_parts o c.in-Some.is in
    let fits : o.count ≤ length o.parts = omega arith in
    let next = first_more t s o told fits c.loop-s.first inv.1 in
    let to = c.schema_ends-ends.result in
    let more = parts_more w h s c.loop-s.from to.atoms (c.loop-s.first + o.count) to.pairs (known w h n l) inv.0
    ends.atoms_value ends.pairs_value atoms o fits told next sets c.order_of-found.ensures.are_parameters c.loop-s.kept
    order.new.kept new inv.3 in (
      ends.atoms_value ∙ ap (first_atom t) (sym (add-one s)),
      next,
      omega arith,
      subst (PartsKept t (s + 1)) (sym c.keep_begin-in-loop-s.ensures) more,
      ends.pairs_value ∙ ap (first_pair t) (sym (add-one s)),
    )
