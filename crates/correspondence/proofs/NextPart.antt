-- The way back, one part: a step that runs where position j of a block of x is due fixes the objects of its own
-- parameters. Merged into x they give the candidate for the whole block: its parts before j are those of x, because the
-- pars force the objects of parameters found before, and its part at j is the step that ran. The candidate is a choice
-- of objects, whether pairs differ in it or not: only tokens are read.
use Prim.Native.Nat.{ℕ, suc, ◌+◌, ◌<◌}
use mathlib.Core.Path.{◌≡◌, refl, sym, ◌∙◌, ap, ap₂, subst}
use mathlib.Core.Bool.{Bool, true, false, cond}
use mathlib.Core.List.{List, [], ◌∷◌, ◌++◌, map}
use mathlib.Core.Logic.{inl, inr}
use native.Mathlib.Omega.{arith}
use lib.ListN.{length, get_or, length-map}
use lib.Seq.{ext_get_or}
use borrow.Author.Tests.{lt-ltb}
use Rattle.words.specs.Lists.{up_to, index_of}
use Rattle.task.specs.Task.{Fact, Schema, Task}
use Rattle.task.specs.Run.{Step, schema_at, applies, next}
use Rattle.tokens.specs.Split.{has, params_of, first_position, par_token, own, later_here, split_schema, orders, split_task}
use Rattle.tokens.specs.Split.{first_of}
use Rattle.blocks.specs.Blocks.{params_at, part_step}
use Rattle.words.proofs.Lists.{bool_cases, In, in-get_or, map-in, map_same, up_to-in, length-up_to, get_or-map, get_or-up_to}
use Rattle.words.proofs.Lists.{map-append, up_to-suc}
use Rattle.task.proofs.States.{applies-in, IsChoice, IsStep}
use Rattle.tokens.proofs.Places.{in_params, params-in, At, at-first, index-small, index-get_or}
use Rattle.tokens.proofs.Ground.{single, a-par}
use Rattle.tokens.proofs.Predicates.{par-high, par-fixes}
use Rattle.blocks.proofs.Given.{Given}
use Rattle.blocks.proofs.Numbers.{split-schema}
use Rattle.correspondence.proofs.Standing.{Token, AlikeBefore, tokens-alike}
use Rattle.correspondence.proofs.PartAtoms.{IsPart, asks-token}
use Rattle.correspondence.proofs.OnePart.{tokens-next}
use Rattle.correspondence.proofs.OneBlock.{object_of, TokensIn}

-- ---- x with the objects that y gives the parameters of the part at position j
module _ (t : Task) (x : Step) (j : ℕ) where
  abbrev pub mine : List ℕ
  mine = own t x.schema (orders t x.schema) j

  module _ (y : Step) where
    abbrev pub given_by : ℕ → ℕ
    given_by p = get_or y.objects (index_of p mine) 0

    abbrev pub choose : ℕ → ℕ
    choose p = cond (has (schema_at t x.schema) p (get_or (orders t x.schema) j 0)) (given_by p) (object_of x p)

    abbrev pub merged : Step
    merged = record { schema = x.schema; objects = map choose (up_to (schema_at t x.schema).params) }

-- a step of the split with the number of a part is that part, with its own objects
pub own-part : {t t' : Task} → Given t t' → (s j : ℕ) → s < length t.schemas → j < length (orders t s) →
    (y : Step) → y.schema ≡ first_of t s + j →
    IsPart t t' s (λ p. get_or y.objects (index_of p (own t s (orders t s) j)) 0) j y
own-part {t} {t'} G s j l h y at = record {
  given = G;
  known = l;
  here = h;
  schema = ap₂ schema_at G.is at ∙ split-schema t s j l h;
  objects = λ x i. refl;
}

module _ {t t' : Task} (G : Given t t') (s₀ : List Fact) {x : Step} (hx : IsChoice t x) (j : ℕ)
    (hj : j < length (orders t x.schema)) (S : List Fact) (tk : TokensIn t s₀ x j S)
    {y : Step} (hy : IsStep t' y) (at : y.schema ≡ first_of t x.schema + j) (ok : applies t' S y ≡ true) where
  abbrev sx : Schema
  sx = schema_at t x.schema

  abbrev ox : List ℕ
  ox = orders t x.schema

  this : IsPart t t' x.schema (given_by t x j y) j y
  this = own-part G x.schema j hx.known hj y at

  mine-has : (p : ℕ) → In p (mine t x j) → (p < sx.params) × (has sx p (get_or ox j 0) ≡ true)
  unfolding own
  mine-has p i = in_params sx p (get_or ox j 0) i

  has-mine : (p : ℕ) → p < sx.params → has sx p (get_or ox j 0) ≡ true → In p (mine t x j)
  unfolding own
  has-mine p h k = params-in sx p (get_or ox j 0) h k

  merged-object : (p : ℕ) → p < sx.params → object_of (merged t x j y) p ≡ choose t x j y p
  merged-object p h =
      get_or-map (choose t x j y) (up_to sx.params) p 0 0 (rw length-up_to h) ∙
      ap (choose t x j y) (get_or-up_to sx.params p 0 h)

  merged-mine : (p : ℕ) → In p (mine t x j) → object_of (merged t x j y) p ≡ given_by t x j y p
  merged-mine p i =
      let (a, b) = mine-has p i in
      merged-object p a ∙ ap (λ b. cond b (given_by t x j y p) (object_of x p)) b

  -- the par of a parameter found before forces its object
  par-forces : (p : ℕ) → In p (mine t x j) → first_position sx ox p < j → given_by t x j y p ≡ object_of x p
  unfolding later_here
  par-forces p i h = go (tk.is-token f (par-high t p) (applies-in t' S y ok f
      (asks-token this f
      (a-par p i (lt-ltb (first_position sx ox p) j h) refl))))
    where
      f : Fact
      f = single (par_token t p) (given_by t x j y p)

      go : Token t s₀ x.schema (object_of x) j f → given_by t x j y p ≡ object_of x p
      go (inl e) = absurd (let z : ◌≡◌ {A = ℕ} 1 0 = ap (λ f. length f.args) e in omega arith)
      go (inr (q, a, b, e)) =
          let z = par-fixes t p q (ap (λ f. f.pred) e) in
          ap (λ f. get_or f.args 0 0) e ∙ ap (object_of x) (sym z)

  alike-before : AlikeBefore t x.schema j (object_of x) (object_of (merged t x j y))
  unfolding own
  alike-before i h p k =
      let (a, b) = in_params sx p (get_or ox i 0) k in
      let place : At sx ox p i = record { inside = omega arith; found = b } in
      elim (bool_cases (has sx p (get_or ox j 0))) [
        | inl q ↦
            let m = has-mine p a q in
            sym (merged-mine p m ∙ par-forces p m (omega (arith, at-first sx ox p i place)))
        | inr q ↦ sym (merged-object p a ∙ ap (λ b. cond b (given_by t x j y p) (object_of x p)) q)
      ]

  -- ---- the merged step is a choice of objects of the task
  y-count : length y.objects ≡ length (mine t x j)
  unfolding split_schema
  y-count = hy.count ∙ ap (λ z. z.params) this.schema

  y-small : (o : ℕ) → In o y.objects → o < t.objects
  unfolding split_task
  y-small o i = subst (λ z. o < z) (ap (λ u. u.objects) G.is) (hy.small o i)

  choose-small : (p : ℕ) → p < sx.params → choose t x j y p < t.objects
  choose-small p h = go (has sx p (get_or ox j 0)) refl
    where
      go : (b : Bool) → has sx p (get_or ox j 0) ≡ b → cond b (given_by t x j y p) (object_of x p) < t.objects
      go true e =
          y-small (given_by t x j y p) (in-get_or y.objects (index_of p (mine t x j)) 0
          (omega (arith, y-count, index-small (has-mine p h e))))
      go false e = hx.small (object_of x p) (in-get_or x.objects p 0 (omega (arith, hx.count)))

  pub merged-choice : IsChoice t (merged t x j y)
  merged-choice = record {
    known = hx.known;
    count = length-map (up_to sx.params) (choose t x j y) ∙ length-up_to sx.params;
    small = λ o i.
        let (p, k, e) = map-in (choose t x j y) (up_to sx.params) o i in
        subst (λ o. o < t.objects) (sym e) (choose-small p (up_to-in sx.params p k));
  }

  -- ---- the tokens that stand after y stand for the merged step
  merged-part : IsPart t t' x.schema (object_of (merged t x j y)) j y
  merged-part = record {
    given = G;
    known = hx.known;
    here = hj;
    schema = this.schema;
    objects = λ p i. sym (merged-mine p i);
  }

  pub merged-tokens : TokensIn t s₀ (merged t x j y) (suc j) (next t' S y)
  merged-tokens =
      tokens-next merged-part
      (tokens-alike G s₀ hx.known j (object_of x) (object_of (merged t x j y)) alike-before S tk)

  -- ---- its first parts are those of x, then y
  merged-before : (i : ℕ) → i < j → part_step t (merged t x j y) i ≡ part_step t x i
  unfolding part_step params_at own
  merged-before i h = λ k. record { schema = first_of t x.schema + i; objects = same k }
    where
      same : map (object_of (merged t x j y)) (own t x.schema ox i) ≡ map (object_of x) (own t x.schema ox i)
      same = map_same (object_of (merged t x j y)) (object_of x) (own t x.schema ox i)
          (λ p m. sym (alike-before i h p m))

  merged-here : part_step t (merged t x j y) j ≡ y
  unfolding part_step params_at own params_of up_to
  merged-here = λ k. record { schema = sym at k; objects = same k }
    where
      same : map (object_of (merged t x j y)) (mine t x j) ≡ y.objects
      same = ext_get_or 0 (map (object_of (merged t x j y)) (mine t x j)) y.objects
          (length-map (mine t x j) (object_of (merged t x j y)) ∙ sym y-count)
          (λ i l.
          let m : i < length (mine t x j) = rw length-map at l in
          get_or-map (object_of (merged t x j y)) (mine t x j) i 0 0 m ∙
          merged-mine (get_or (mine t x j) i 0) (in-get_or (mine t x j) i 0 m) ∙
          ap (λ k. get_or y.objects k 0) (index-get_or (λ z. has sx z (get_or ox j 0)) 0 sx.params i m))

  pub merged-parts : (pre : List Step) → pre ≡ map (part_step t x) (up_to j) →
      pre ++ (y ∷ []) ≡ map (part_step t (merged t x j y)) (up_to (suc j))
  merged-parts pre e =
      ap (λ z. z ++ (y ∷ [])) (e ∙ map_same (part_step t x) (part_step t (merged t x j y)) (up_to j)
      (λ i k. sym (merged-before i (up_to-in j i k)))) ∙
      ap (λ z. map (part_step t (merged t x j y)) (up_to j) ++ (z ∷ [])) (sym merged-here) ∙
      sym (ap (map (part_step t (merged t x j y))) (up_to-suc j) ∙
      map-append (part_step t (merged t x j y)) (up_to j) (j ∷ []))
