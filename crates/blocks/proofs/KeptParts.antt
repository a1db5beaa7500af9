-- What is kept of a table whose split is accepted, as unfolding and folding speak of it: each schema's first part, how
-- many parts it has and the parameters of each, all within the limits.
use Prim.Native.Nat.{ℕ, ◌<◌}
use mathlib.Core.Path.{◌≡◌, refl, ◌∙◌}
use mathlib.Core.Bool.{true}
use mathlib.Core.List.{List}
use lib.ListN.{length, get_or}
use lib.Dec.{eqb}
use borrow.Author.Tests.{eqb-true, eq-eqb}
use Rattle.words.specs.Lists.{any}
use Rattle.task.specs.Task.{Task, well_formed}
use Rattle.task.specs.Table.{task_of}
use Rattle.task.specs.Run.{schema_at}
use Rattle.words.proofs.Lists.{bool-ext, any-in, in-any, in-eq}
use Rattle.task.proofs.States.{WellFormed, well_formed-is}
use Rattle.task.proofs.Tables.{of-table}
use Rattle.task.proofs.StepWords.{params-few}
use Rattle.tokens.specs.declared.measure.Sizes.{Sizes}
use Rattle.tokens.specs.Split.{has, params_of, orders}
use Rattle.tokens.specs.Acceptance.{AcceptedKept}
use Rattle.tokens.proofs.Places.{has-small, in_params, params-in}
use Rattle.blocks.specs.Blocks.{params_at}
use Rattle.blocks.specs.Unfolding.{TableKept}
use Rattle.blocks.proofs.SplitParts.{few-schemas, few-splits, some-part, few-parts}

-- a part has a parameter exactly if that stands among the part's parameters
params_are : (t : Task) → WellFormed t → (s : ℕ) → s < length t.schemas → (x p : ℕ) →
    has (schema_at t s) x p ≡ any (eqb x) (params_of (schema_at t s) p)
params_are t w s l x p = bool-ext (has (schema_at t s) x p) (any (eqb x) (params_of (schema_at t s) p))
    (λ h. in-any (eqb x) (params-in (schema_at t s) x p
    (has-small (schema_at t s) t.arities (w.schema s l) x p h) h) (eq-eqb x x refl))
    (λ h. let (y, i, e) = any-in (eqb x) (params_of (schema_at t s) p) h in
    (in_params (schema_at t s) x p (in-eq (eqb-true x y e) i)).1)

pub table_kept : {w : List ℕ} {sizes : Sizes} {kept : List ℕ} → AcceptedKept w sizes kept → TableKept w kept
unfolding params_at
table_kept {w} {sizes} {kept} K = record {
  long = K.long;
  table = K.table;
  accepted = K.accepted;
  blocks = record {
    few-schemas = few-schemas t well K.accepted;
    few-splits = few-splits t well K.accepted;
    few-params = params-few t well;
    some-part = some-part t well K.accepted;
    few-parts = few-parts t well K.accepted;
    first = λ s l. K.parts.first s l;
    count = K.parts.count;
    params = λ s j x l m.
        K.parts.params s j x l m ∙ params_are t (well_formed-is t well) s l x (get_or (orders t s) j 0);
  };
}
  where
    t : Task
    t = task_of w

    well : well_formed t ≡ true
    well = (of-table w K.table).0
