-- A list of split steps among words: the step that stands at a place, which block it begins, and whether it is a part
-- of a block. The object that a block gives for a parameter is that of the first part that has it, so a step fits where
-- all its objects are those that the block gives.
use Prim.Native.Nat.{ℕ, zero, suc, ◌+◌, ◌*◌, ◌/◌, ◌≤◌, ◌<◌}
use mathlib.Core.Path.{◌≡◌, refl, sym, ◌∙◌, ap, ap₂, subst}
use mathlib.Core.Bool.{Bool, true, false, ◌&&◌}
use mathlib.Core.List.{List, [], ◌∷◌}
use mathlib.Core.Logic.{inl, inr}
use Rattle.std.specs.Prelude.{Option, None, Some}
use native.Mathlib.Omega.{arith}
use lib.ListN.{length, get_or, drop, drop_of_length-le, length-map}
use lib.Seq.{drop-cons, ext_get_or}
use lib.Dec.{eqb}
use borrow.Author.Tests.{eqb-true, eq-eqb}
use Rattle.words.specs.Lists.{up_to, eq_list}
use Rattle.words.specs.Sets.{member, members}
use Rattle.words.specs.Words.{words_at}
use Rattle.words.proofs.Lists.{no_ft, and_left, and_right, and_both, false-if, both-ft, In, in-get_or, in-eq, in-any}
use Rattle.words.proofs.Lists.{any-in, get_or-map, get_or-mapped, length-up_to, eq_list-eq, eq_list-refl, map_same}
use Rattle.words.proofs.Words.{get_or-words_at, length-words_at}
use Rattle.task.specs.Limits.{step_size}
use Rattle.task.specs.Task.{Task}
use Rattle.task.specs.Run.{Step, schema_at, param_count, step_in, step_at, is_step_at, steps_in}
use Rattle.task.specs.Bindings.{Bound, agrees, fits}
use Rattle.task.proofs.Binding.{Right, fits-length}
use Rattle.task.proofs.StepWords.{no_step, length-steps_in, step-here}
use Rattle.tokens.specs.Split.{orders, split_task, first_of}
use Rattle.tokens.specs.Kept.{kept_own}
use Rattle.blocks.specs.Blocks.{params_at, part_step, inside, fits_at}
use Rattle.blocks.specs.Unfolding.{BlocksKept}
use Rattle.blocks.specs.FoldCode.{begun_word, NoneBefore, OriginsKept, object_in, objects_in}
use Rattle.blocks.specs.FoldCode.{given_objects, step_from, is_part}
use Rattle.blocks.proofs.FoldBlock.{param-small, BoundTo}
use Rattle.blocks.proofs.PartObjects.{before_at}
use Rattle.blocks.proofs.SplitParams.{part-arity, part-params}

-- the word of a schema that begins a block names it
pub begun-none : (o : Option ℕ) → begun_word o ≡ 0 → o ≡ None
unfolding begun_word
begun-none None e = refl
begun-none (Some s) e = absurd (omega arith)

pub begun-some : (o : Option ℕ) (n : ℕ) → begun_word o ≡ n + 1 → o ≡ Some n
unfolding begun_word
begun-some None n e = absurd (omega arith)
begun-some (Some s) n e = let z : s ≡ n = omega arith in ap (λ (k : ℕ). Some k) z

-- objects that fit agree one by one
fits-at : (b : Bound) (ps os : List ℕ) → fits b ps os ≡ true → (k : ℕ) → k < length ps →
    agrees (get_or b (get_or ps k 0) None) (get_or os k 0) ≡ true
unfolding fits
fits-at b [] os h k l = absurd (omega arith)
fits-at b (p ∷ ps) [] h k l = absurd (no_ft h)
fits-at b (p ∷ ps) (o ∷ os) h zero l = and_left (agrees (get_or b p None) o) _ h
fits-at b (p ∷ ps) (o ∷ os) h (suc k) l =
    fits-at b ps os (and_right (agrees (get_or b p None) o) _ h) k (omega arith)

-- ---- the step at a place
module _ (t : Task) (steps : List ℕ) where
  abbrev ys : List Step
  ys = steps_in (split_task t) steps

  pub step-next : (i : ℕ) → i < length steps / step_size → drop i ys ≡ step_at (split_task t) steps i ∷ drop (suc i) ys
  unfolding steps_in up_to
  step-next i l =
      let n = length-steps_in (split_task t) steps in
      let z : 0 + i ≡ i = omega arith in
      drop-cons ys i no_step (omega arith)
      ∙ ap (λ (x : Step). x ∷ drop (suc i) ys)
      (get_or-mapped (step_at (split_task t) steps) 0 (length steps / step_size) i no_step l
      ∙ ap (step_at (split_task t) steps) z)

  pub step-none : (i : ℕ) → length steps / step_size ≤ i → drop i ys ≡ []
  step-none i l = let n = length-steps_in (split_task t) steps in drop_of_length-le ys {i = i} (omega arith)

-- ---- the block of schema s that begins at split step i
module _ {t : Task} {kept origins : List ℕ} (K : BlocksKept t kept)
    (O : OriginsKept kept (length t.schemas) origins) (steps : List ℕ) (i s : ℕ) (l : s < length t.schemas) where
  abbrev x : Step
  x = step_from t steps origins i s

  abbrev from : ℕ → ℕ
  from p = object_in steps origins (step_size * i) s p

  -- the step gathered has what the block gives
  pub gathered-at : (p : ℕ) → p < param_count t s → get_or x.objects p 0 ≡ from p
  unfolding up_to
  gathered-at p m =
      let z : 0 + p ≡ p = omega arith in
      get_or-mapped from 0 (param_count t s) p 0 m ∙ ap from z

  pub gathered-size : length x.objects ≡ (schema_at t s).params
  unfolding param_count
  gathered-size = length-map (up_to (param_count t s)) from ∙ length-up_to (param_count t s)

  -- at position j
  module _ (j : ℕ) (m : j < length (orders t s)) where
    abbrev ps : List ℕ
    ps = params_at t s j

    abbrev y : Step
    y = step_at (split_task t) steps (i + j)

    -- the part of the step gathered
    pub part-objects : (part_step t x j).objects ≡ objects_in steps origins (step_size * i) s ps
    unfolding part_step param_count
    part-objects = map_same (λ p. get_or x.objects p 0) from ps (λ p k. gathered-at p (param-small t s j p k))

    -- a part before it has a parameter, or none has
    stands : (k p : ℕ) → k < length (orders t s) → member (kept_own kept s k) p ≡ true → In p (params_at t s k)
    stands k p n h =
        let (q, a, e) = any-in (eqb p) (params_at t s k) (sym (K.params s k p l n) ∙ h) in in-eq (eqb-true p q e) a

    pub part-has : (p : ℕ) → In p ps → member (kept_own kept s j) p ≡ true
    part-has p a = K.params s j p l m ∙ in-any (eqb p) a (eq-eqb p p refl)

    -- what stands at index k of its objects is what the block gives, if no part before it has the parameter
    own-object : (k : ℕ) → k < length ps → NoneBefore kept s (get_or ps k 0) 0 j →
        from (get_or ps k 0) ≡ get_or steps (step_size * (i + j) + 1 + k) 0
    unfolding param_count
    own-object k n none_before =
        let p = get_or ps k 0 in
        let a = in-get_or ps k 0 n in
        let e = O.first s p j l (let q = param-small t s j p a in let r = K.few-params s in omega arith)
        (let c = K.count s l in omega arith) (part-has p a) none_before in
        let w = part-params K s j l m 12 (omega arith) in
        let b : length (members (kept_own kept s j) p) ≡ k =
        ap (λ (zs : List ℕ). length (members (kept_own kept s j) (get_or zs k 0))) (sym w)
        ∙ before_at (kept_own kept s j) 12 k (subst (λ (zs : List ℕ). k < length zs) (sym w) n) in
        ap (λ (z : ℕ). get_or steps z 0) (omega arith)

    -- ---- a step that fits is the part
    module _ (b : Bound) (h : BoundTo t x j b) (f : fits_at t (inside s j b) y ≡ true) where
      fits-objects : fits b ps y.objects ≡ true
      unfolding fits_at
      fits-objects = and_right (eqb y.schema (first_of t s + j)) _ f

      size : length ps ≡ length y.objects
      size = fits-length b ps y.objects fits-objects

      not-before : (p : ℕ) → get_or b p None ≡ None → NoneBefore kept s p 0 j
      not-before p e k _ n = false-if (member (kept_own kept s k) p) (λ q.
          no-some (sym e ∙ h.known p k n (stands k p (omega arith) q)))
        where
          no-some : {o : ℕ} → None ≡ Some o → ⊥
          no-some q = let z : ◌≡◌ {A = ℕ} 0 1 = cc in omega arith

      same-at : (k : ℕ) → k < length ps → get_or y.objects k 0 ≡ from (get_or ps k 0)
      unfolding agrees step_at step_in param_count
      same-at k n = go (h.right (get_or ps k 0))
        where
          p : ℕ
          p = get_or ps k 0

          a : agrees (get_or b p None) (get_or y.objects k 0) ≡ true
          a = fits-at b ps y.objects fits-objects k n

          go : Right (λ q. get_or x.objects q 0) b p → get_or y.objects k 0 ≡ from p
          go (inl e) =
              let c = param_count (split_task t) (get_or steps (step_size * (i + j)) 0) in
              let d = length-words_at steps (step_size * (i + j) + 1) c in
              get_or-words_at steps (step_size * (i + j) + 1) c k (omega (arith, size))
              ∙ sym (own-object k n (not-before p e))
          go (inr e) =
              sym (eqb-true (get_or x.objects p 0) (get_or y.objects k 0)
              (sym (ap (λ (o : Option ℕ). agrees o (get_or y.objects k 0)) e) ∙ a))
              ∙ gathered-at p (param-small t s j p (in-get_or ps k 0 n))

      pub fitting : y ≡ part_step t x j
      unfolding fits_at part_step
      fitting =
          let d = eqb-true y.schema (first_of t s + j) (and_left (eqb y.schema (first_of t s + j)) _ f) in
          let e : y.objects ≡ (part_step t x j).objects =
          ext_get_or 0 y.objects (objects_in steps origins (step_size * i) s ps)
          (sym size ∙ sym (length-map ps from))
          (λ k n. same-at k (omega (arith, size)) ∙ sym (get_or-map from ps k 0 0 (omega (arith, size))))
          ∙ sym part-objects in
          λ k. record { schema = d k; objects = e k }

    -- ---- and the code's test tells it
    pub part-yes : is_part t steps origins i s j ≡ true →
        (is_step_at (split_task t) steps (i + j) ≡ true) × (y ≡ part_step t x j)
    unfolding is_part
    part-yes h =
        let a = is_step_at (split_task t) steps (i + j) in
        let z = part_step t x j in
        let b = eqb y.schema z.schema in
        let c = eq_list y.objects z.objects in
        let r = and_right a (b && c) h in
        let d = eqb-true y.schema z.schema (and_left b c r) in
        let e = eq_list-eq y.objects z.objects (and_right b c r) in
        (and_left a (b && c) h, λ k. record { schema = d k; objects = e k })

    pub part_no : is_part t steps origins i s j ≡ false → is_step_at (split_task t) steps (i + j) ≡ true →
        y ≡ part_step t x j → ⊥
    unfolding is_part
    part_no h good e =
        let z = part_step t x j in
        both-ft (and_both _ _ good (and_both _ _ (eq-eqb y.schema z.schema (ap (λ (k : Step). k.schema) e))
        (ap (λ (k : Step). eq_list k.objects z.objects) e ∙ eq_list-refl z.objects))) h

    -- where it is whole
    pub part-whole : is_part t steps origins i s j ≡ true → step_size * (i + j) + step_size ≤ length steps
    part-whole h = (step-here (split_task t) steps (i + j) (part-yes h).0).whole

    -- ---- the test, by what code finds
    pub part-not-step : is_step_at (split_task t) steps (i + j) ≡ false → is_part t steps origins i s j ≡ false
    part-not-step e = false-if (is_part t steps origins i s j) (λ h. both-ft (part-yes h).0 e)

    pub part-other : (get_or steps (step_size * (i + j)) 0 ≡ first_of t s + j → ⊥) → is_part t steps origins i s j ≡ false
    unfolding step_at step_in part_step
    part-other n =
        false-if (is_part t steps origins i s j) (λ h. n (ap (λ (k : Step). k.schema) (part-yes h).1))

    pub part_same : get_or steps (step_size * (i + j)) 0 ≡ first_of t s + j → is_step_at (split_task t) steps (i + j) ≡ true →
        is_part t steps origins i s j ≡
        eq_list (given_objects steps (step_size * (i + j)) (kept_own kept s j))
        (objects_in steps origins (step_size * i) s (members (kept_own kept s j) 12))
    unfolding is_part step_at step_in part_step given_objects
    part_same e good =
        let w = part-params K s j l m 12 (omega arith) in
        let k = get_or steps (step_size * (i + j)) 0 in
        let os = y.objects in
        let zs = (part_step t x j).objects in
        ap₂ (λ (a c : Bool). a && (c && eq_list os zs)) good (eq-eqb k (first_of t s + j) e)
        ∙ ap₂ eq_list
        (ap (words_at steps (step_size * (i + j) + 1)) (part-arity t s j k l m e ∙ ap length (sym w)))
        (part-objects ∙ ap (objects_in steps origins (step_size * i) s) (sym w))
