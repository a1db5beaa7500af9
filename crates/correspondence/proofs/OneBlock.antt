-- One block: it runs exactly when its step does, and ends in the step's next state, with procnone.
-- Part by part the invariant holds, and each part runs exactly when its own preconditions stood before the block.
-- After the last part the facts are (s minus all deletes) plus all adds; ascending lists of the same facts are equal.
use Prim.Native.Nat.{ℕ, zero, suc, ◌+◌, ◌≤◌, ◌<◌}
use mathlib.Core.Path.{◌≡◌, refl, sym, ◌∙◌, ap, subst}
use mathlib.Core.Bool.{true, false}
use mathlib.Core.List.{List, [], ◌∷◌, ◌++◌, map}
use mathlib.Core.Logic.{◌⊎◌, inl, inr}
use native.Mathlib.Omega.{arith}
use native.Mathlib.Decide.{dec_lt}
use lib.ListN.{length, get_or}
use Rattle.words.specs.Lists.{up_to, up_from}
use Rattle.task.specs.Task.{Fact, Task, precondition, addition, deletion}
use Rattle.task.specs.Run.{Step, schema_at, ground, ground_role, applies, next, stopped, run_from}
use Rattle.tokens.specs.Split.{procnone, orders, free, first_of}
use Rattle.blocks.specs.Blocks.{part_step, block}
use Rattle.words.proofs.Lists.{both-ft, bool_cases, false-if, In, here, there, in-eq, in_left, in_right, in-append}
use Rattle.task.proofs.States.{asc-ext, in-role, role-in, in-next, next-add, next-keep, applies-in, in-applies, run_on}
use Rattle.task.proofs.States.{run-stop, State, IsStep, next-state}
use Rattle.tokens.proofs.Places.{last-at, some_at}
use Rattle.tokens.proofs.Ground.{fact_of, bare, old_of}
use Rattle.tokens.proofs.Accepted.{token_end}
use Rattle.blocks.proofs.Numbers.{split-schema, part-objects}
use Rattle.correspondence.specs.SharedRuns.{with_free}
use Rattle.correspondence.proofs.Standing.{Done, OldFact, Token, TokensStand, Stands, state-low, asc-free}
use Rattle.correspondence.proofs.Standing.{stands-start}
use Rattle.correspondence.proofs.PartAtoms.{IsPart}
use Rattle.correspondence.proofs.OnePart.{Needs, runs-needs, needs-run, stands-next}
use Rattle.blocks.proofs.Given.{Given, place_of}

-- the objects that a step gives its parameters
abbrev pub object_of : Step → ℕ → ℕ
object_of x p = get_or x.objects p 0

-- what stands before position j of the block of x, from the state s₀
abbrev pub StandsIn : Task → List Fact → Step → ℕ → List Fact → Type 0
StandsIn t s₀ x j S = Stands t s₀ x.schema (object_of x) j S

-- the tokens that stand there
abbrev pub TokensIn : Task → List Fact → Step → ℕ → List Fact → Type 0
TokensIn t s₀ x j S = TokensStand t s₀ x.schema (object_of x) j S

-- the step's preconditions in the part at position j stand in s₀
abbrev pub StepNeeds : Task → List Fact → Step → ℕ → Type 0
StepNeeds t s₀ x j = Needs t s₀ x.schema (object_of x) j

module _ {t t' : Task} (G : Given t t') {s₀ : List Fact} (st : State t s₀) {x : Step} (hx : IsStep t x) where
  abbrev size : ℕ
  size = length (orders t x.schema)

  -- ---- all parts together make what the step makes
  done-by-step : (r : ℕ) (f : Fact) → In f (ground_role t r x) → Done t s₀ x.schema (object_of x) r size f
  unfolding ground
  done-by-step r f i =
      let (a, k, q, e) = in-role t r x f i in
      let (p, m, z) = place_of G hx.known a k in
      (p, m, old_of a k q (sym z) e)

  done-in-step : (r : ℕ) (f : Fact) → Done t s₀ x.schema (object_of x) r size f → In f (ground_role t r x)
  unfolding ground
  done-in-step r f (p, m, old_of a k q z e) = in-eq e (role-in t r x a k q)

  applies-needs : applies t s₀ x ≡ true → (j : ℕ) → StepNeeds t s₀ x j
  unfolding ground
  applies-needs h j a i r p = applies-in t s₀ x h (fact_of (object_of x) a) (role-in t precondition x a i r)

  needs-apply : ((j : ℕ) → j < size → StepNeeds t s₀ x j) → applies t s₀ x ≡ true
  needs-apply h = in-applies t s₀ x (λ f i. go f (done-by-step precondition f i))
    where
      go : (f : Fact) → Done t s₀ x.schema (object_of x) precondition size f → In f s₀
      go f (p, m, old_of a k q z e) = in-eq e (h p m a k q z)

  -- ---- at the end
  old-at-end : (f : Fact) → OldFact t s₀ x.schema (object_of x) size f → In f (next t s₀ x)
  old-at-end f (inl d) = next-add t s₀ x f (done-in-step addition f d)
  old-at-end f (inr (i, n)) = next-keep t s₀ x f i (λ d. n (done-by-step deletion f d))

  end-is-old : (f : Fact) → In f (ground_role t addition x) ⊎ (In f s₀ × (In f (ground_role t deletion x) → ⊥)) →
      OldFact t s₀ x.schema (object_of x) size f
  end-is-old f (inl i) = inl (done-by-step addition f i)
  end-is-old f (inr (i, n)) = inr (i, λ d. n (done-in-step deletion f d))

  -- every par is closed
  token-at-end : (f : Fact) → Token t s₀ x.schema (object_of x) size f → f ≡ bare (procnone t)
  token-at-end f (inl e) = e ∙ ap bare (token_end t x.schema (orders t x.schema) size refl)
  token-at-end f (inr (p, a, b, e)) =
      let (i, k) = some_at (schema_at t x.schema) (orders t x.schema) p (omega arith) in
      absurd (let z = (last-at (schema_at t x.schema) (orders t x.schema) p i k).inside in omega arith)

  pub stands-end : (S : List Fact) → StandsIn t s₀ x size S → S ≡ with_free t (next t s₀ x)
  unfolding with_free free
  stands-end S h = asc-ext h.asc (asc-free t (next t s₀ x) after) forth (λ f i. back f (in-append (next t s₀ x) i))
    where
      after : State t (next t s₀ x)
      after = next-state t s₀ x G.well st hx

      forth : (f : Fact) → In f S → In f (next t s₀ x ++ (bare (procnone t) ∷ []))
      forth f i = elim (dec_lt f.pred (procnone t)) [
        | yes q ↦ in_left (bare (procnone t) ∷ []) (old-at-end f (h.is-old f q i))
        | no q ↦ in_right (next t s₀ x) (here (token-at-end f (h.tokens.is-token f (omega arith) i)))
      ]

      back : (f : Fact) → In f (next t s₀ x) ⊎ In f (bare (procnone t) ∷ []) → In f S
      back f (inl i) = h.old-is f (state-low t (next t s₀ x) after f i) (end-is-old f (in-next t s₀ x f i))
      back f (inr (there x5)) = elim x5 [ ]
      back f (inr (here e)) =
          h.tokens.token-is f (let z = ap (λ f. f.pred) e in omega arith)
          (inl (e ∙ ap bare (sym (token_end t x.schema (orders t x.schema) size refl))))

  -- ---- part by part
  part-of-step : (j : ℕ) → j < size → IsPart t t' x.schema (object_of x) j (part_step t x j)
  unfolding part_step
  part-of-step j h = record {
    given = G;
    known = hx.known;
    here = h;
    schema = ap (λ u. schema_at u (first_of t x.schema + j)) G.is ∙ split-schema t x.schema j hx.known h;
    objects = part-objects t x j;
  }

  -- the last k parts, from position j on, pass; or halt at one of them, because the step doesn't run
  data Through (k j : ℕ) (S : List Fact) : Type 0 where
    passed : (E : List Fact) → StandsIn t s₀ x size E →
        ((i : ℕ) (ys : List Step) →
        run_from t' i (map (part_step t x) (up_from j k) ++ ys) S ≡ run_from t' (i + k) ys E) →
        ((q : ℕ) → j ≤ q → q < size → StepNeeds t s₀ x q) → Through k j S
    halted : (m : ℕ) (E : List Fact) → m < k →
        ((i : ℕ) (ys : List Step) → run_from t' i (map (part_step t x) (up_from j k) ++ ys) S ≡ stopped (i + m) E) →
        applies t s₀ x ≡ false → Through k j S

  through : (k j : ℕ) (S : List Fact) → j + k ≡ size → StandsIn t s₀ x j S → Through k j S
  unfolding up_from
  through zero j S e sd =
      let z : j ≡ size = omega arith in
      passed S (subst (λ n. StandsIn t s₀ x n S) z sd) (λ i ys. ap (λ n. run_from t' n ys S) (omega arith))
      (λ q a b. absurd (omega arith))
  through (suc k) j S e sd = elim (bool_cases (applies t' S y)) [
    | inl h ↦ go h (through k (suc j) (next t' S y) (omega arith) (stands-next P hx.apart sd))
    | inr h ↦ halted 0 S (omega arith)
        (λ i ys. run-stop t' S y i (map (part_step t x) (up_from (suc j) k) ++ ys) h ∙
        ap (λ n. stopped n S) (omega arith))
        (false-if (applies t s₀ x) (λ q. both-ft (needs-run P hx.apart sd (applies-needs q j)) h))
  ]
    where
      y : Step
      y = part_step t x j

      P : IsPart t t' x.schema (object_of x) j (part_step t x j)
      P = part-of-step j (omega arith)

      needs-from : applies t' S y ≡ true → ((q : ℕ) → suc j ≤ q → q < size → StepNeeds t s₀ x q) →
          (q : ℕ) → j ≤ q → q < size → StepNeeds t s₀ x q
      needs-from h n q a b = elim (dec_lt j q) [
        | yes c ↦ n q c b
        | no c ↦
            let z : j ≡ q = omega arith in
            subst (λ q. StepNeeds t s₀ x q) z (runs-needs P hx.apart sd h)
      ]

      go : applies t' S y ≡ true → Through k (suc j) (next t' S y) → Through (suc k) j S
      go h (passed E se r n) =
          passed E se
          (λ i ys. run_on t' S y i (map (part_step t x) (up_from (suc j) k) ++ ys) h ∙ r (suc i) ys ∙
          ap (λ n. run_from t' n ys E) (omega arith))
          (needs-from h n)
      go h (halted m E l r n) =
          halted (suc m) E (omega arith)
          (λ i ys. run_on t' S y i (map (part_step t x) (up_from (suc j) k) ++ ys) h ∙ r (suc i) ys ∙
          ap (λ n. stopped n E) (omega arith))
          n

  block-through : Through size 0 (with_free t s₀)
  block-through = through size 0 (with_free t s₀) (omega arith) (stands-start t s₀ st x.schema (object_of x))

  -- ---- the block
  pub block_runs : applies t s₀ x ≡ true → (i : ℕ) (ys : List Step) →
      run_from t' i (block t x ++ ys) (with_free t s₀) ≡ run_from t' (i + size) ys (with_free t (next t s₀ x))
  unfolding block up_to
  block_runs h i ys = go block-through
    where
      go : Through size 0 (with_free t s₀) →
          run_from t' i (block t x ++ ys) (with_free t s₀) ≡ run_from t' (i + size) ys (with_free t (next t s₀ x))
      go (passed E se r n) = r i ys ∙ ap (run_from t' (i + size) ys) (stands-end E se)
      go (halted m E l r n) = absurd (both-ft h n)

  pub block-stops : applies t s₀ x ≡ false → (i : ℕ) (ys : List Step) →
      (m : ℕ) × (E : List Fact) × (m < size) × (run_from t' i (block t x ++ ys) (with_free t s₀) ≡ stopped (i + m) E)
  unfolding block up_to
  block-stops h i ys = go block-through
    where
      go : Through size 0 (with_free t s₀) → (m : ℕ) × (E : List Fact) × (m < size) ×
          (run_from t' i (block t x ++ ys) (with_free t s₀) ≡ stopped (i + m) E)
      go (passed E se r n) = absurd (both-ft (needs-apply (λ j l. n j (omega arith) l)) h)
      go (halted m E l r n) = (m, E, l, r i ys)
