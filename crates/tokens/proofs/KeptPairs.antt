-- Refusal 20, as code tells it: pair by pair of a schema, and by the positions of the order taken, at which the
-- parameters of each part are kept.
use Prim.Native.Nat.{ℕ, ◌<◌}
use mathlib.Core.Path.{◌≡◌, sym, ◌∙◌, ap, ap₂, subst}
use mathlib.Core.Bool.{Bool, true, ◌&&◌}
use mathlib.Core.List.{List}
use lib.ListN.{length, get_or}
use Rattle.words.specs.Lists.{all, any, up_to}
use Rattle.words.proofs.Lists.{bool-ext, any-in, in-any, in-get_or, get_or-in, in-up_to, up_to-in}
use Rattle.words.proofs.Loops.{AllLeft, AnyLeft, all-mapped, any-up-to}
use Rattle.task.specs.Task.{Pair, Schema}
use Rattle.task.specs.Run.{schema_at}
use Rattle.task.specs.Table.{task_of, pair_in}
use Rattle.arcs.specs.Stretches.{stretch}
use Rattle.tokens.specs.Split.{parts, has_both, pairs_kept, orders}
use Rattle.tokens.specs.Kept.{kept_count, kept_own, kept_pair, kept_pair_end, SchemaKept}
use Rattle.tokens.specs.Writing.{carries}
use Rattle.tokens.proofs.KeptSchema.{counted, params-kept, kept-order, kept-pairs}

module _ {w : List ℕ} {s : ℕ} {kept : List ℕ} (K : SchemaKept w s kept) where
  abbrev schema : Schema
  schema = schema_at (task_of w) s

  abbrev order : List ℕ
  order = orders (task_of w) s

  module _ (q : Pair) where
    -- whether the part at position j has both parameters, by the set that is kept there
    abbrev carried_at : ℕ → Bool
    carried_at j = carries (kept_own kept s j) q

    pub carries-both : (j : ℕ) → j < length order → carried_at j ≡ has_both schema q (get_or order j 0)
    unfolding has_both
    carries-both j l =
        let k = (params-kept K).params in
        ap₂ ◌&&◌ (k j q.lower l) (k j q.higher l)

    -- each part stands at some position
    by-positions : any (has_both schema q) (up_to (parts schema)) ≡ any carried_at (up_to (length order))
    unfolding parts
    by-positions = bool-ext (any (has_both schema q) (up_to (parts schema))) (any carried_at (up_to (length order)))
        (λ h.
        let (p, i, e) = any-in (has_both schema q) (up_to (parts schema)) h in
        let (j, l, d) = get_or-in 0 ((kept-order K).all-placed p i) in
        in-any carried_at (in-up_to (length order) j l)
        (carries-both j l ∙ subst (λ (p : ℕ). has_both schema q p ≡ true) (sym d) e))
        (λ h.
        let (j, i, e) = any-in carried_at (up_to (length order)) h in
        let l = up_to-in (length order) j i in
        in-any (has_both schema q) ((kept-order K).from (get_or order j 0) (in-get_or order j 0 l))
        (sym (carries-both j l) ∙ e))

    -- what a loop over the positions begins with
    pub some-carries : {count : ℕ} → count ≡ kept_count kept s →
        AnyLeft carried_at count (any (has_both schema q) (up_to (parts schema))) 0
    some-carries e = record { left = by-positions ∙ (any-up-to (sym (e ∙ counted K))).left }

  -- what a loop over the schema's pairs begins with
  pub each-kept : {from to : ℕ} → from ≡ kept_pair kept s → to ≡ kept_pair_end kept s →
      AllLeft (λ i. any (has_both schema (pair_in w i)) (up_to (parts schema))) to (pairs_kept schema) from
  unfolding pairs_kept stretch
  each-kept {from} {to} begins stops =
      let test : Pair → Bool = λ q. any (has_both schema q) (up_to (parts schema)) in
      record {
        left = ap (all test) (kept-pairs K begins stops) ∙ (all-mapped test (pair_in w) from to).left;
      }
