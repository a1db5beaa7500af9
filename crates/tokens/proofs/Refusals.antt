-- When splitting refuses: 9 at the lowest schema that has no order, and at no other; 20 where every schema has one, at
-- the lowest with a pair that no part has both parameters of; 10 where neither is and the split passes a limit. By
-- cases on `settle`, and on what the first of 0, 1, .. that passes a test is.
use Prim.Native.Nat.{ℕ, zero, suc, ◌+◌, ◌≤◌, ◌<◌}
use mathlib.Core.Path.{◌≡◌, refl, sym, ◌∙◌, ap}
use mathlib.Core.Bool.{Bool, true, false, cond, not}
use mathlib.Core.List.{List}
use Rattle.std.specs.Prelude.{Option, None, Some}
use native.Mathlib.Omega.{arith}
use native.Mathlib.Decide.{dec_lt}
use lib.ListN.{length}
use borrow.Author.Tests.{not-true}
use Rattle.words.specs.Lists.{head, first, filter, keep_if, up_to, up_from}
use Rattle.task.specs.Task.{Task}
use Rattle.task.specs.Run.{schema_at}
use Rattle.arcs.specs.Order.{order_of}
use Rattle.words.proofs.Ascending.{some_inj, no_none}
use Rattle.tokens.specs.Split.{pairs_kept, order_at, or_empty, orders, split_task, circular, parted, too_large}
use Rattle.tokens.specs.Split.{split_as, is_none, within_limits, settle, split}
use Rattle.words.proofs.Lists.{no_tf, no_ft}
use Rattle.tokens.proofs.Accepted.{circular_at, parted_at, Ordered, PairsKept, none-circular, none-parted}
use Rattle.tokens.proofs.Accepted.{ordered-settle, ordered-split}

-- ---- the first number that passes a test
module _ (test : ℕ → Bool) where
  pub record FirstOf (s n x : ℕ) : Type 0 where
    pub from : s ≤ x
    pub below : x < s + n
    pub passes : test x ≡ true
    pub lowest : (i : ℕ) → s ≤ i → i < x → test i ≡ false

  pub is-first : (s n x : ℕ) → FirstOf s n x → first test (up_from s n) ≡ Some x
  unfolding first head filter keep_if up_from
  is-first s zero x f = absurd (omega arith)
  is-first s (suc n) x f = elim (dec_lt s x) [
    | yes l ↦ rw (f.lowest s (omega arith) l) (is-first (suc s) n x (record {
      from = l;
      below = omega arith;
      passes = f.passes;
      lowest = λ i h. f.lowest i (omega arith);
    }))
    | no l ↦ let e : s ≡ x = omega arith in rw (ap test e ∙ f.passes) (ap Some e)
  ]

  pub first-is : (s n x : ℕ) → first test (up_from s n) ≡ Some x → FirstOf s n x
  unfolding first head filter keep_if up_from
  first-is s zero x h = absurd (no_none h)
  first-is s (suc n) x h = go (test s) refl (first-is (suc s) n x) h
    where
      below : FirstOf (suc s) n x → test s ≡ false → (i : ℕ) → s ≤ i → i < x → test i ≡ false
      below f e i a b = elim (dec_lt s i) [
        | yes l ↦ f.lowest i l b
        | no l ↦ let d : i ≡ s = omega arith in ap test d ∙ e
      ]

      go : (b : Bool) → test s ≡ b → (first test (up_from (suc s) n) ≡ Some x → FirstOf (suc s) n x) →
          head (keep_if b s (filter test (up_from (suc s) n))) ≡ Some x → FirstOf s (suc n) x
      go true e ih k =
          let d = some_inj k in
          record {
            from = omega arith;
            below = omega arith;
            passes = ap test (sym d) ∙ e;
            lowest = λ i a b. absurd (omega arith);
          }
      go false e ih k =
          let f = ih k in
          record { from = omega arith; below = omega arith; passes = f.passes; lowest = below f e }

-- ---- refusal 9
-- "no order complies; lowest such schema"
pub record Circular (t : Task) (s : ℕ) : Type 0 where
  pub known : s < length t.schemas
  pub no-order : order_of (schema_at t s) ≡ None
  pub before : (q : ℕ) → q < s → order_of (schema_at t q) ≡ Some (orders t q)

-- whether a schema has an order, as the test tells it
none-order : (t : Task) (s : ℕ) → is_none (order_at t s) ≡ true → order_of (schema_at t s) ≡ None
unfolding is_none order_at
none-order t s h = go (order_of (schema_at t s)) h
  where
    go : (b : Option (List ℕ)) → is_none b ≡ true → b ≡ None
    go None e = refl
    go (Some o) e = absurd (no_ft e)

some-order : (t : Task) (s : ℕ) → is_none (order_at t s) ≡ false → order_of (schema_at t s) ≡ Some (orders t s)
unfolding is_none order_at orders or_empty
some-order t s h = go (order_of (schema_at t s)) h
  where
    go : (b : Option (List ℕ)) → is_none b ≡ false → b ≡ Some (or_empty b)
    go None e = absurd (no_tf e)
    go (Some o) e = refl

abbrev no_order : Task → ℕ → Bool
no_order t s = is_none (order_at t s)

pub circular-split : (t : Task) (s : ℕ) → Circular t s → split t ≡ circular s
unfolding split settle up_to is_none order_at
circular-split t s c =
    ap (λ l. settle l (parted_at t) (split_task t)) (is-first (no_order t) 0 (length t.schemas) s (record {
      from = omega arith;
      below = omega (arith, c.known);
      passes = ap is_none c.no-order;
      lowest = λ i a b. ap is_none (c.before i b);
    }))

pub split-circular : (t : Task) (s : ℕ) → split t ≡ circular s → Circular t s
unfolding split settle up_to
split-circular t s h = go (circular_at t) refl h
  where
    at : FirstOf (no_order t) 0 (length t.schemas) s → Circular t s
    at f = record {
      known = omega (arith, f.below);
      no-order = none-order t s f.passes;
      before = λ q l. some-order t q (f.lowest q (omega arith) l);
    }

    judged : (p : Option ℕ) (b : Bool) → within_limits (split_task t) ≡ b → settle None p (split_task t) ≡ circular s → ⊥
    judged (Some q) b w e = let z : ◌≡◌ {A = ℕ} 0 1 = cc in omega arith
    judged None true w e =
        let k : split_as (split_task t) ≡ circular s = sym (ap (λ b. cond b (split_as (split_task t)) too_large) w) ∙ e in
        let z : ◌≡◌ {A = ℕ} 0 1 = cc in omega arith
    judged None false w e =
        let k : too_large ≡ circular s = sym (ap (λ b. cond b (split_as (split_task t)) too_large) w) ∙ e in
        let z : ◌≡◌ {A = ℕ} 0 1 = cc in omega arith

    go : (l : Option ℕ) → circular_at t ≡ l → settle l (parted_at t) (split_task t) ≡ circular s → Circular t s
    go None e k = absurd (judged (parted_at t) (within_limits (split_task t)) refl k)
    go (Some q) e k =
        let d : q ≡ s = cc in
        at (first-is (no_order t) 0 (length t.schemas) s (e ∙ ap {B = Option ℕ} Some d))

-- ---- refusal 20
-- "20 after 9, with the lowest such schema, when no part has both parameters of a pair"
pub record Parted (t : Task) (s : ℕ) : Type 0 where
  pub ordered : Ordered t
  pub known : s < length t.schemas
  pub no_part : pairs_kept (schema_at t s) ≡ false
  pub before : (q : ℕ) → q < s → pairs_kept (schema_at t q) ≡ true

abbrev unkept : Task → ℕ → Bool
unkept t s = not (pairs_kept (schema_at t s))

pub parted-split : (t : Task) (s : ℕ) → Parted t s → split t ≡ parted s
unfolding settle up_to
parted-split t s c =
    ordered-settle t c.ordered ∙
    ap (λ p. settle None p (split_task t)) (is-first (unkept t) 0 (length t.schemas) s (record {
      from = omega arith;
      below = omega (arith, c.known);
      passes = ap not c.no_part;
      lowest = λ i a b. ap not (c.before i b);
    }))

pub split-parted : (t : Task) (s : ℕ) → split t ≡ parted s → Parted t s
unfolding split settle up_to
split-parted t s h = go (circular_at t) (parted_at t) refl refl h
  where
    kept : (q : ℕ) → unkept t q ≡ false → pairs_kept (schema_at t q) ≡ true
    kept q e = cases (pairs_kept (schema_at t q)) e
      where
        cases : (b : Bool) → not b ≡ false → b ≡ true
        cases true e = refl
        cases false e = absurd (no_tf e)

    at : Ordered t → FirstOf (unkept t) 0 (length t.schemas) s → Parted t s
    at o f = record {
      ordered = o;
      known = omega (arith, f.below);
      no_part = not-true (pairs_kept (schema_at t s)) f.passes;
      before = λ q l. kept q (f.lowest q (omega arith) l);
    }

    judged : (b : Bool) → cond b (split_as (split_task t)) too_large ≡ parted s → ⊥
    judged true e = let z : ◌≡◌ {A = ℕ} 0 1 = cc in omega arith
    judged false e = let z : ◌≡◌ {A = ℕ} 0 1 = cc in omega arith

    go : (l p : Option ℕ) → circular_at t ≡ l → parted_at t ≡ p → settle l p (split_task t) ≡ parted s → Parted t s
    go (Some q) p e f k = absurd (let z : ◌≡◌ {A = ℕ} 0 1 = cc in omega arith)
    go None None e f k = absurd (judged (within_limits (split_task t)) k)
    go None (Some q) e f k =
        let d : q ≡ s = cc in
        at (none-circular t e) (first-is (unkept t) 0 (length t.schemas) s (f ∙ ap {B = Option ℕ} Some d))

-- ---- refusal 10
-- every schema has an order, every pair a part that has both its parameters, and the split passes a limit
pub record TooLarge (t : Task) : Type 0 where
  pub ordered : Ordered t
  pub kept : PairsKept t
  pub beyond : within_limits (split_task t) ≡ false

pub large-split : (t : Task) → TooLarge t → split t ≡ too_large
large-split t c =
    ordered-split t c.ordered c.kept ∙ ap (λ b. cond b (split_as (split_task t)) too_large) c.beyond

pub split-large : (t : Task) → split t ≡ too_large → TooLarge t
unfolding split settle
split-large t h = go (circular_at t) (parted_at t) refl refl h
  where
    judged : (b : Bool) → within_limits (split_task t) ≡ b → cond b (split_as (split_task t)) too_large ≡ too_large →
        within_limits (split_task t) ≡ false
    judged true e k = absurd (let z : ◌≡◌ {A = ℕ} 0 1 = cc in omega arith)
    judged false e k = e

    go : (l p : Option ℕ) → circular_at t ≡ l → parted_at t ≡ p → settle l p (split_task t) ≡ too_large → TooLarge t
    go None None e f k = record {
      ordered = none-circular t e;
      kept = none-parted t f;
      beyond = judged (within_limits (split_task t)) refl k;
    }
    go None (Some q) e f k = absurd (let z : ◌≡◌ {A = ℕ} 0 1 = cc in omega arith)
    go (Some q) p e f k = absurd (let z : ◌≡◌ {A = ℕ} 0 1 = cc in omega arith)
