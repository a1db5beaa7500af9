-- One step of the split for the part at position j: what it asks, adds and deletes, old facts and tokens apart.
-- The step's ground atoms are the part's old atoms under one assignment of objects, and the tokens of position j.
-- No old atom of it clashes with one of an earlier part where the objects keep the pairs apart, because no arc goes
-- backwards.
use Prim.Native.Nat.{ℕ, suc, ◌≤◌, ◌<◌}
use mathlib.Core.Path.{◌≡◌, refl, sym, ◌∙◌, ap, subst}
use mathlib.Core.Bool.{false}
use mathlib.Core.List.{List}
use mathlib.Core.Logic.{◌⊎◌, inl, inr}
use native.Mathlib.Omega.{arith}
use native.Mathlib.Decide.{dec_lt}
use lib.ListN.{length, get_or}
use Rattle.words.specs.Lists.{index_of}
use Rattle.task.specs.Task.{Atom, Fact, Task, precondition, addition, deletion}
use Rattle.task.specs.Run.{Step, schema_at, ground_role}
use Rattle.tokens.specs.Split.{procnone, par_token, own, required, handed_on, lone, first_here, last_here, later_here}
use Rattle.tokens.specs.Split.{split_schema, orders}
use Rattle.words.proofs.Lists.{In}
use Rattle.task.proofs.States.{KeepsApart}
use Rattle.arcs.proofs.Arcs.{Ordered}
use Rattle.arcs.proofs.OrderTaken.{no-clash}
use Rattle.tokens.proofs.Ground.{OldOf, old_of, TokenOf, pre_made, add-made, del-made, made-pre, made-add, made-del}
use Rattle.tokens.proofs.Accepted.{required-is, handed_on-is, token-high}
use Rattle.correspondence.proofs.Standing.{Done, old-low, token-of-high}
use Rattle.blocks.proofs.Given.{Given, complies, each-once, args-small}

module _ (t : Task) (s : ℕ) (v : ℕ → ℕ) (j : ℕ) where
  -- made by an old atom of role r of this part
  abbrev pub OldHere : ℕ → Fact → Type 0
  OldHere r f = OldOf (schema_at t s) v r (get_or (orders t s) j 0) f

  -- the tokens that this part requires, adds and deletes
  abbrev pub Required : Fact → Type 0
  Required f =
      TokenOf (required t s (orders t s) j) (own t s (orders t s) j) (later_here t s (orders t s) j) (par_token t) v f

  abbrev pub Added : Fact → Type 0
  Added f =
      TokenOf (handed_on t s (orders t s) j) (own t s (orders t s) j) (first_here t s (orders t s) j) (par_token t) v f

  abbrev pub Deleted : Fact → Type 0
  Deleted f =
      TokenOf (required t s (orders t s) j) (own t s (orders t s) j) (last_here t s (orders t s) j) (par_token t) v f

-- y is a step of the split for the part at position j, and gives its parameters the objects that v says
pub record IsPart (t t' : Task) (s : ℕ) (v : ℕ → ℕ) (j : ℕ) (y : Step) : Type 0 where
  pub given : Given t t'
  pub known : s < length t.schemas
  pub here : j < length (orders t s)
  pub schema : schema_at t' y.schema ≡ split_schema t s (orders t s) j
  pub objects : (x : ℕ) → In x (own t s (orders t s) j) →
      get_or y.objects (index_of x (own t s (orders t s) j)) 0 ≡ v x

module _ {t t' : Task} {s : ℕ} {v : ℕ → ℕ} {j : ℕ} {y : Step} (P : IsPart t t' s v j y) where
  args-here : (a : Atom) → In a (schema_at t s).atoms → (p : ℕ) → In p a.args → p < (schema_at t s).params
  args-here = args-small P.given P.known

  -- ---- what the step asks, adds and deletes
  pub asked : (f : Fact) → In f (ground_role t' precondition y) → OldHere t s v j precondition f ⊎ Required t s v j f
  asked f i = elim
      (pre_made t s (orders t s) j y.objects v args-here P.objects t' y refl P.schema f i)
      [ inl h ↦ inl h | inr h ↦ inr h.1 ]

  pub added : (f : Fact) → In f (ground_role t' addition y) →
      OldHere t s v j addition f ⊎ ((lone t s (orders t s) j ≡ false) × Added t s v j f)
  added f i =
      add-made t s (orders t s) j y.objects v args-here P.objects t' y refl P.schema f i

  deleted : (f : Fact) → In f (ground_role t' deletion y) →
      OldHere t s v j deletion f ⊎ ((lone t s (orders t s) j ≡ false) × Deleted t s v j f)
  deleted f i =
      del-made t s (orders t s) j y.objects v args-here P.objects t' y refl P.schema f i

  pub asks-old : (f : Fact) → OldHere t s v j precondition f → In f (ground_role t' precondition y)
  asks-old f h =
      made-pre t s (orders t s) j y.objects v args-here P.objects t' y refl P.schema f (inl h)

  pub asks-token : (f : Fact) → Required t s v j f → In f (ground_role t' precondition y)
  asks-token f h =
      made-pre t s (orders t s) j y.objects v args-here P.objects t' y refl P.schema f
      (inr (refl, h))

  pub adds-old : (f : Fact) → OldHere t s v j addition f → In f (ground_role t' addition y)
  adds-old f h =
      made-add t s (orders t s) j y.objects v args-here P.objects t' y refl P.schema f (inl h)

  pub adds-token : (f : Fact) → lone t s (orders t s) j ≡ false → Added t s v j f → In f (ground_role t' addition y)
  adds-token f n h =
      made-add t s (orders t s) j y.objects v args-here P.objects t' y refl P.schema f
      (inr (n, h))

  pub deletes-old : (f : Fact) → OldHere t s v j deletion f → In f (ground_role t' deletion y)
  deletes-old f h =
      made-del t s (orders t s) j y.objects v args-here P.objects t' y refl P.schema f (inl h)

  pub deletes-token : (f : Fact) → lone t s (orders t s) j ≡ false → Deleted t s v j f → In f (ground_role t' deletion y)
  deletes-token f n h =
      made-del t s (orders t s) j y.objects v args-here P.objects t' y refl P.schema f
      (inr (n, h))

  -- ---- apart: what is made of old atoms is low, tokens are high
  pub old-here-low : (r : ℕ) (f : Fact) → OldHere t s v j r f → f.pred < procnone t
  old-here-low r f h = old-low P.given P.known h

  required-number-high : procnone t ≤ required t s (orders t s) j
  required-number-high =
      let h = P.here in
      omega (arith, required-is t s (orders t s) j h, token-high t s (orders t s) j)

  pub required-high : (f : Fact) → Required t s v j f → procnone t ≤ f.pred
  required-high f h =
      token-of-high t v (required t s (orders t s) j) (own t s (orders t s) j) (later_here t s (orders t s) j) f
      required-number-high h

  deleted-high : (f : Fact) → Deleted t s v j f → procnone t ≤ f.pred
  deleted-high f h =
      token-of-high t v (required t s (orders t s) j) (own t s (orders t s) j) (last_here t s (orders t s) j) f
      required-number-high h

  added-high : (f : Fact) → Added t s v j f → procnone t ≤ f.pred
  added-high f h =
      token-of-high t v (handed_on t s (orders t s) j) (own t s (orders t s) j) (first_here t s (orders t s) j) f
      (omega (arith, handed_on-is t s (orders t s) j, token-high t s (orders t s) (suc j))) h

  pub added-low : (f : Fact) → f.pred < procnone t → In f (ground_role t' addition y) → OldHere t s v j addition f
  added-low f h i = elim (added f i) [ inl k ↦ k | inr k ↦ absurd (let z = added-high f k.1 in omega arith) ]

  pub deleted-low : (f : Fact) → f.pred < procnone t → In f (ground_role t' deletion y) → OldHere t s v j deletion f
  deleted-low f h i = elim (deleted f i) [ inl k ↦ k | inr k ↦ absurd (let z = deleted-high f k.1 in omega arith) ]

  pub added-token : (f : Fact) → procnone t ≤ f.pred → In f (ground_role t' addition y) → Added t s v j f
  added-token f h i =
      elim (added f i) [ inl k ↦ absurd (let z = old-here-low addition f k in omega arith) | inr k ↦ k.1 ]

  pub deleted-token : (f : Fact) → procnone t ≤ f.pred → In f (ground_role t' deletion y) →
      (lone t s (orders t s) j ≡ false) × Deleted t s v j f
  deleted-token f h i =
      elim (deleted f i) [ inl k ↦ absurd (let z = old-here-low deletion f k in omega arith) | inr k ↦ k ]

  -- ---- no clash with an earlier part
  pub clash : KeepsApart (schema_at t s).pairs v → (i r q : ℕ) (f : Fact) → i < j →
      OldHere t s v j r f → OldHere t s v i q f → Ordered r q → ⊥
  clash apart i r q f h (old_of a ia ra pa ea) (old_of b ib rb pb eb) o =
      no-clash (schema_at t s) (orders t s) (complies P.given P.known) (each-once P.given P.known)
      i j h P.here v apart a b ia ib pa pb (record {
        pred = sym (ap (λ f. f.pred) ea) ∙ ap (λ f. f.pred) eb;
        args = sym (ap (λ f. f.args) ea) ∙ ap (λ f. f.args) eb;
      })
      (rw (ra, rb) o)

-- ---- what the parts before the next position did
module _ (t : Task) (s₀ : List Fact) (s : ℕ) (v : ℕ → ℕ) (j : ℕ) (r : ℕ) (f : Fact) where
  pub done-before : Done t s₀ s v r (suc j) f → Done t s₀ s v r j f ⊎ OldHere t s v j r f
  done-before (i, h, k) = elim (dec_lt i j) [
    | yes q ↦ inl (i, q, k)
    | no q ↦ inr (let e : i ≡ j = omega arith in subst (λ z. OldHere t s v z r f) e k)
  ]

  pub done-later : Done t s₀ s v r j f → Done t s₀ s v r (suc j) f
  done-later (i, h, k) = (i, omega arith, k)

  pub done-here : OldHere t s v j r f → Done t s₀ s v r (suc j) f
  done-here h = (j, omega arith, h)
