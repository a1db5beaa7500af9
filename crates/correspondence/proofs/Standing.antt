-- The invariant: what stands in a state of the split before position j of a block, facts and tokens apart.
-- Old facts (predicates below procnone): those that a part before j adds, and those that stood before the block and no
-- part before j deletes. Tokens: the bare one of position j, and the par of each parameter that is found before j and
-- again from j on.
use Prim.Native.Nat.{ℕ, ◌≤◌, ◌<◌}
use mathlib.Core.Path.{◌≡◌, sym, ◌∙◌, ap}
use mathlib.Core.Bool.{Bool}
use mathlib.Core.List.{List, [], ◌∷◌}
use mathlib.Core.Logic.{◌⊎◌, inl, inr}
use native.Mathlib.Omega.{arith}
use lib.ListN.{length, get_or}
use Rattle.task.specs.Task.{Fact, Task, addition, deletion}
use Rattle.task.specs.Run.{schema_at}
use Rattle.tokens.specs.Split.{first_position, last_position, procnone, par_token, own, orders, free}
use Rattle.words.proofs.Lists.{In, here, there, in_left, in_right, in-append}
use Rattle.task.proofs.States.{Asc, asc-snoc, State, less-pred}
use Rattle.tokens.proofs.Places.{has-small, params-in, first-at, some_at}
use Rattle.tokens.proofs.Ground.{bare, single, OldOf, old_of, TokenOf, the-bare, a-par}
use Rattle.tokens.proofs.Predicates.{par-high}
use Rattle.tokens.proofs.Accepted.{token_at, token-zero}
use Rattle.correspondence.specs.SharedRuns.{with_free}
use Rattle.blocks.proofs.Given.{Given}

-- a block of schema s from the state s₀, with the objects that v gives its parameters
module _ (t : Task) (s₀ : List Fact) (s : ℕ) (v : ℕ → ℕ) where
  -- made by an atom of role r of a part before position j
  abbrev pub Done : ℕ → ℕ → Fact → Type 0
  Done r j f = (i : ℕ) × (i < j) × OldOf (schema_at t s) v r (get_or (orders t s) i 0) f

  abbrev pub OldFact : ℕ → Fact → Type 0
  OldFact j f = Done addition j f ⊎ (In f s₀ × (Done deletion j f → ⊥))

  abbrev pub OpenPar : ℕ → Fact → Type 0
  OpenPar j f =
      (x : ℕ) × (first_position (schema_at t s) (orders t s) x < j) ×
      (j ≤ last_position (schema_at t s) (orders t s) x) × (f ≡ single (par_token t x) (v x))

  abbrev pub Token : ℕ → Fact → Type 0
  Token j f = (f ≡ bare (token_at t s (orders t s) j)) ⊎ OpenPar j f

  -- the tokens, which stand so whether the objects keep the pairs apart or not
  pub record TokensStand (j : ℕ) (S : List Fact) : Type 0 where
    pub is-token : (f : Fact) → procnone t ≤ f.pred → In f S → Token j f
    pub token-is : (f : Fact) → procnone t ≤ f.pred → Token j f → In f S

  -- the tokens, and the old facts
  pub record Stands (j : ℕ) (S : List Fact) : Type 0 where
    pub asc : Asc S
    pub is-old : (f : Fact) → f.pred < procnone t → In f S → OldFact j f
    pub old-is : (f : Fact) → f.pred < procnone t → OldFact j f → In f S
    pub tokens : TokensStand j S

-- ---- facts are low, tokens are high
pub state-low : (t : Task) (s₀ : List Fact) → State t s₀ → (f : Fact) → In f s₀ → f.pred < procnone t
unfolding procnone
state-low t s₀ st f i = (st.fit f i).known

pub old-low : {t t' : Task} → Given t t' → {s : ℕ} → s < length t.schemas → {v : ℕ → ℕ} {r p : ℕ} {f : Fact} →
    OldOf (schema_at t s) v r p f → f.pred < procnone t
unfolding procnone
old-low G {s} l (old_of a i q w e) =
    let z = ap (λ f. f.pred) e in
    let k = ((G.well.schema s l).fit a i).known in
    omega arith

pub token-of-high : (t : Task) (v : ℕ → ℕ) (k : ℕ) (ps : List ℕ) (test : ℕ → Bool) (f : Fact) → procnone t ≤ k →
    TokenOf k ps test (par_token t) v f → procnone t ≤ f.pred
token-of-high t v k ps test f h (the-bare e) = let z = ap (λ f. f.pred) e in omega arith
token-of-high t v k ps test f h (a-par x i q e) = let z = ap (λ f. f.pred) e in let y = par-high t x in omega arith

-- ---- between two blocks
pub asc-free : (t : Task) (s₀ : List Fact) → State t s₀ → Asc (with_free t s₀)
unfolding with_free free
asc-free t s₀ st =
    asc-snoc (bare (procnone t)) st.asc (λ g i. less-pred g (bare (procnone t)) (state-low t s₀ st g i))

-- at the start of a block just procnone stands
pub stands-start : (t : Task) (s₀ : List Fact) → State t s₀ → (s : ℕ) (v : ℕ → ℕ) → Stands t s₀ s v 0 (with_free t s₀)
unfolding with_free free
stands-start t s₀ st s v = record {
  asc = asc-free t s₀ st;
  is-old = λ f h i. old f h (in-append s₀ i);
  old-is = λ f h. elim [ inl d ↦ absurd (none_before d.1) | inr d ↦ in_left (bare (procnone t) ∷ []) d.0 ];
  tokens = record {
    is-token = λ f h i. token f h (in-append s₀ i);
    token-is = λ f h. elim [
      | inl e ↦ in_right s₀ (here (e ∙ ap bare (token-zero t s (orders t s))))
      | inr d ↦ absurd (none_before d.1)
    ];
  };
}
  where
    none_before : {i : ℕ} → i < 0 → ⊥
    none_before h = omega arith

    old : (f : Fact) → f.pred < procnone t → In f s₀ ⊎ In f (bare (procnone t) ∷ []) → OldFact t s₀ s v 0 f
    old f h (inl i) = inr (i, λ d. none_before d.1)
    old f h (inr (there x4)) = elim x4 [ ]
    old f h (inr (here e)) = absurd (let z = ap (λ f. f.pred) e in omega arith)

    token : (f : Fact) → procnone t ≤ f.pred → In f s₀ ⊎ In f (bare (procnone t) ∷ []) → Token t s₀ s v 0 f
    token f h (inl i) = absurd (let z = state-low t s₀ st f i in omega arith)
    token f h (inr (there x4)) = elim x4 [ ]
    token f h (inr (here e)) = inl (e ∙ ap bare (sym (token-zero t s (orders t s))))

-- ---- which tokens stand depends only on the objects of parameters found before j
-- v and w give the parameters of the parts before j the same objects
abbrev pub AlikeBefore : Task → ℕ → ℕ → (ℕ → ℕ) → (ℕ → ℕ) → Type 0
AlikeBefore t s j v w = (i : ℕ) → i < j → (p : ℕ) → In p (own t s (orders t s) i) → v p ≡ w p

module _ {t t' : Task} (G : Given t t') (s₀ : List Fact) {s : ℕ} (l : s < length t.schemas) (j : ℕ) where
  module _ (v w : ℕ → ℕ) (alike : AlikeBefore t s j v w) where
    token-alike : (f : Fact) → Token t s₀ s v j f → Token t s₀ s w j f
    unfolding own
    token-alike f (inl e) = inl e
    token-alike f (inr (x, a, b, e)) =
        let first = first_position (schema_at t s) (orders t s) x in
        let (i, k) = some_at (schema_at t s) (orders t s) x (omega arith) in
        let has-it = (first-at (schema_at t s) (orders t s) x i k).found in
        let small = has-small (schema_at t s) t.arities (G.well.schema s l) x (get_or (orders t s) first 0) has-it in
        inr (
          x,
          a,
          b,
          e ∙ ap (single (par_token t x))
              (alike first a x (params-in (schema_at t s) x (get_or (orders t s) first 0) small has-it)),
        )

  pub tokens-alike : (v w : ℕ → ℕ) → AlikeBefore t s j v w → (S : List Fact) → TokensStand t s₀ s v j S →
      TokensStand t s₀ s w j S
  tokens-alike v w alike S h = record {
    is-token = λ f k i. token-alike v w alike f (h.is-token f k i);
    token-is = λ f k d. h.token-is f k (token-alike w v (λ i q p k. sym (alike i q p k)) f d);
  }
