-- A list comes apart into whole blocks and a remainder in one way only.
-- A block's first number tells its schema, so its length; and every parameter stands in a part, so a block fixes its
-- step. A remainder begins with no whole block.
use Prim.Native.Nat.{ℕ, zero, suc, ◌+◌, ◌<◌}
use mathlib.Core.Path.{◌≡◌, refl, sym, ◌∙◌, ap, ap₂, subst}
use mathlib.Core.List.{List, [], ◌∷◌, ◌++◌, map, append_assoc, append-nil}
use mathlib.Core.Logic.{◌⊎◌, inl, inr}
use native.Mathlib.Omega.{arith}
use lib.ListN.{length, get_or, length-map, length-append}
use lib.Seq.{ext_get_or}
use Rattle.words.specs.Lists.{concat_map, up_to, up_from, index_of}
use Rattle.task.specs.Task.{Task}
use Rattle.task.specs.Run.{Step, schema_at}
use Rattle.tokens.specs.Split.{own, orders, first_of}
use Rattle.blocks.specs.Blocks.{params_at, part_step, block, unfold_steps}
use Rattle.words.proofs.Lists.{In, length-up_to, append-same-length, get_or-map, get_or-up_to}
use Rattle.task.proofs.States.{IsChoice, is_choice-is, IsStep, step-choice}
use Rattle.blocks.proofs.Numbers.{first-inj, part-objects, length-block, take-block}
use Rattle.correspondence.specs.SharedRuns.{StepsOf, ProperBeginning, TakenApart}
use Rattle.blocks.proofs.Given.{Given, head_step, tail-steps, more-steps, filled, covered}

-- the schema of a list's first step
first_schema : List Step → ℕ
first_schema [] = 0
first_schema (y ∷ ys) = y.schema

-- a proper beginning by its parts
pub proper-parts : (t : Task) (r : List Step) (b : ProperBeginning t r) →
    (r ≡ map (part_step t b.choice) (up_to b.count)) × (length r ≡ b.count)
proper-parts t r b =
    let short = b.not-all in
    let e = b.first-parts ∙ take-block t b.choice b.count (omega (arith, length-block t b.choice)) in
    (e, ap length e ∙ length-map (up_to b.count) (part_step t b.choice) ∙ length-up_to b.count)

-- a block more
pub unfold-first : (t : Task) (x : Step) (xs r : List Step) →
    unfold_steps t (x ∷ xs) ++ r ≡ block t x ++ (unfold_steps t xs ++ r)
unfolding unfold_steps concat_map
unfold-first t x xs r = append_assoc (block t x) (unfold_steps t xs) r

pub one-more-block : (t : Task) (x : Step) → IsStep t x → {ys xs rest : List Step} → TakenApart t ys xs rest →
    TakenApart t (block t x ++ ys) (x ∷ xs) rest
one-more-block t x h {ys} {xs} {rest} a = record {
  steps = more-steps t x xs h a.steps;
  blocks = ap (λ z. block t x ++ z) a.blocks ∙ sym (unfold-first t x xs rest);
  remainder = a.remainder;
}

module _ {t t' : Task} (G : Given t t') where
  -- ---- blocks told apart
  first-of-block : (x : Step) (n : ℕ) (more : List Step) → 0 < n →
      first_schema (map (part_step t x) (up_to n) ++ more) ≡ first_of t x.schema + 0
  unfolding first_schema part_step up_to up_from
  first-of-block x zero more h = absurd (omega arith)
  first-of-block x (suc n) more h = refl

  -- lists that begin with parts of two blocks, from the first part on
  same-schema : (x z : Step) → IsChoice t x → IsChoice t z → (n m : ℕ) (u w : List Step) → 0 < n → 0 < m →
      map (part_step t x) (up_to n) ++ u ≡ map (part_step t z) (up_to m) ++ w → x.schema ≡ z.schema
  same-schema x z hx hz n m u w hn hm e =
      (first-inj t x.schema 0 z.schema 0
      (filled G hx.known) (filled G hz.known)
      (sym (first-of-block x n u hn) ∙ ap first_schema e ∙ first-of-block z m w hm)).0

  block-fixes-step : (x z : Step) → IsChoice t x → IsChoice t z → x.schema ≡ z.schema → block t x ≡ block t z → x ≡ z
  unfolding block own params_at
  block-fixes-step x z hx hz e h = λ i. record { schema = e i; objects = same i }
    where
      no-step : Step
      no-step = record { schema = 0; objects = [] }

      part_at : (w : Step) (i : ℕ) → i < length (orders t w.schema) → get_or (block t w) i no-step ≡ part_step t w i
      part_at w i l =
          get_or-map (part_step t w) (up_to (length (orders t w.schema))) i 0 no-step (rw length-up_to l) ∙
          ap (part_step t w) (get_or-up_to (length (orders t w.schema)) i 0 l)

      part_same : (i : ℕ) → i < length (orders t x.schema) → part_step t x i ≡ part_step t z i
      part_same i l = sym (part_at x i l) ∙ ap (λ zs. get_or zs i no-step) h ∙ part_at z i (rw (← e) l)

      object-same : (p i : ℕ) → i < length (orders t x.schema) → In p (params_at t x.schema i) →
          get_or x.objects p 0 ≡ get_or z.objects p 0
      object-same p i l k =
          sym (part-objects t x i p k) ∙
          ap (λ w. get_or w.objects (index_of p (own t x.schema (orders t x.schema) i)) 0) (part_same i l) ∙
          ap (λ s. get_or (part_step t z i).objects (index_of p (own t s (orders t s) i)) 0) e ∙
          part-objects t z i p (subst (λ s. In p (params_at t s i)) e k)

      same : x.objects ≡ z.objects
      same = ext_get_or 0 x.objects z.objects (hx.count ∙ ap (λ s. (schema_at t s).params) e ∙ sym hz.count)
          (λ p l. let (i, m, k) = covered G hx.known p (rw (← hx.count) l) in object-same p i m k)

  same_block : (x z : Step) → IsChoice t x → IsChoice t z → (v w : List Step) → block t x ++ v ≡ block t z ++ w →
      (x ≡ z) × (v ≡ w)
  unfolding block
  same_block x z hx hz v w e =
      let same = same-schema x z hx hz (length (orders t x.schema)) (length (orders t z.schema)) v w
      (filled G hx.known) (filled G hz.known) e in
      let (a, b) = append-same-length (block t x) (block t z) v w
      (length-block t x ∙ ap (λ s. length (orders t s)) same ∙ sym (length-block t z)) e in
      (block-fixes-step x z hx hz same a, b)

  -- ---- a remainder begins with no whole block
  no-whole-block : (x : Step) (more r : List Step) → IsChoice t x → (r ≡ []) ⊎ ProperBeginning t r →
      r ≡ block t x ++ more → ⊥
  unfolding block
  no-whole-block x more r hx (inl e) q =
      let z = ap length (sym e ∙ q) ∙ length-append (block t x) more in
      omega (arith, filled G hx.known, length-block t x)
  no-whole-block x more r hx (inr b) q =
      let (a, n) = proper-parts t r b in
      let same = same-schema b.choice x (is_choice-is t b.choice b.is-choice) hx
      b.count (length (orders t x.schema)) [] more b.at_least_one (filled G hx.known)
      (append-nil (map (part_step t b.choice) (up_to b.count)) ∙ sym a ∙ q) in
      let c = ap length q ∙ length-append (block t x) more in
      let d = ap (λ s. length (orders t s)) same in
      omega (arith, b.not-all, length-block t x, length-block t b.choice)

  -- ---- one way only
  pub one_way : (ys xs zs r u : List Step) → TakenApart t ys xs r → TakenApart t ys zs u → (xs ≡ zs) × (r ≡ u)
  unfolding unfold_steps concat_map
  one_way ys xs zs r u a b = go xs zs a.steps b.steps (sym a.blocks ∙ b.blocks)
    where
      head : (x : Step) (xs r : List Step) → unfold_steps t (x ∷ xs) ++ r ≡ block t x ++ (unfold_steps t xs ++ r)
      head x xs r = unfold-first t x xs r

      go : (xs zs : List Step) → StepsOf t xs → StepsOf t zs → unfold_steps t xs ++ r ≡ unfold_steps t zs ++ u →
          (xs ≡ zs) × (r ≡ u)
      go [] [] hx hz e = (refl, e)
      go [] (z ∷ zs) hx hz e =
          absurd (no-whole-block z (unfold_steps t zs ++ u) r (step-choice (head_step t z zs hz)) a.remainder
          (e ∙ head z zs u))
      go (x ∷ xs) [] hx hz e =
          absurd (no-whole-block x (unfold_steps t xs ++ r) u (step-choice (head_step t x xs hx)) b.remainder
          (sym e ∙ head x xs r))
      go (x ∷ xs) (z ∷ zs) hx hz e =
          let (same, more) = same_block x z (step-choice (head_step t x xs hx)) (step-choice (head_step t z zs hz))
          (unfold_steps t xs ++ r) (unfold_steps t zs ++ u) (sym (head x xs r) ∙ e ∙ head z zs u) in
          let (c, d) = go xs zs (tail-steps t x xs hx) (tail-steps t z zs hz) more in
          (ap₂ (λ (a : Step) (bs : List Step). a ∷ bs) same c, d)
