-- The way back, a list: what runs in the split from an original state with procnone is whole blocks, then a remainder.
-- While procnone stands, only a first part runs; while a do stands, only its own part. So between two steps of the
-- split a run is between two blocks, or inside the block of a candidate choice of objects, and each step moves it on.
-- Inside a block only the tokens are known. Once it is whole, its parts have kept every pair apart, so the candidate
-- is a step; its block ran from the state before it, and so leaves what the step leaves (`block_runs`).
use Prim.Native.Nat.{ℕ, suc, ◌+◌, ◌<◌}
use mathlib.Core.Path.{◌≡◌, refl, sym, ◌∙◌, ap, ap₂, subst}
use mathlib.Core.Bool.{Bool, true, false}
use mathlib.Core.List.{List, [], ◌∷◌, ◌++◌, map, append_assoc, append-nil}
use mathlib.Core.Logic.{◌⊎◌, inl, inr}
use native.Mathlib.Omega.{arith}
use native.Mathlib.Decide.{dec_lt}
use lib.ListN.{length, length-map}
use Rattle.words.specs.Lists.{all, concat_map, up_to}
use Rattle.task.specs.Task.{Fact, Task}
use Rattle.task.specs.Run.{Step, schema_at, applies, next, ran, run_from}
use Rattle.tokens.specs.Split.{parts, procnone, do_token, orders, free, first_of}
use Rattle.blocks.specs.Blocks.{part_step, block, unfold_steps}
use Rattle.words.proofs.Lists.{bool_cases, In, here, there, in_right, in-append, map-in, length-up_to}
use Rattle.task.proofs.States.{applies-in, run_on, run-stop, State, IsChoice, is-is_choice, IsStep, next-state}
use Rattle.tokens.proofs.Ground.{bare, the-bare}
use Rattle.tokens.proofs.Accepted.{do-schema, do-position, do-not-free, token_at, required-is, token-zero, token-inside}
use Rattle.tokens.proofs.Accepted.{token-high}
use Rattle.blocks.proofs.Numbers.{find-schema, length-block, take-block}
use Rattle.correspondence.specs.SharedRuns.{StepsOf, with_free, TakenApart}
use Rattle.correspondence.proofs.Standing.{Token, state-low, stands-start}
use Rattle.correspondence.proofs.PartAtoms.{asks-token}
use Rattle.correspondence.proofs.OneBlock.{object_of, TokensIn, block_runs, block-stops}
use Rattle.correspondence.proofs.OneList.{ran-inj, ran-not-stopped}
use Rattle.correspondence.proofs.OneWay.{one-more-block}
use Rattle.correspondence.proofs.NextPart.{merged, own-part, merged-choice, merged-tokens, merged-parts}
use Rattle.blocks.proofs.Given.{Given, head_step, tail-steps, last-steps, part-count, filled}
use Rattle.blocks.proofs.SplitSteps.{block-step}

-- the steps `pre` of the split lead from the state s₀ with procnone to S, whatever follows
record Leads (t t' : Task) (s₀ : List Fact) (pre : List Step) (S : List Fact) : Type 0 where
  pub steps : StepsOf t' pre
  pub runs : (ys : List Step) → (i : ℕ) × (run_from t' 0 (pre ++ ys) (with_free t s₀) ≡ run_from t' i ys S)

-- ---- between two steps of the split: the steps `pre` of an open block are done
data Amid (t t' : Task) (S : List Fact) (pre : List Step) : Type 0 where
  between : (s₀ : List Fact) → State t s₀ → S ≡ with_free t s₀ → pre ≡ [] → Amid t t' S pre
  within : (s₀ : List Fact) → State t s₀ → (x : Step) → IsChoice t x → (j : ℕ) → 0 < j →
      j < length (orders t x.schema) → TokensIn t s₀ x j S → pre ≡ map (part_step t x) (up_to j) →
      Leads t t' s₀ pre S → Amid t t' S pre

-- after one more step: still amid a block, or the block is whole
data Moved (t t' : Task) (S : List Fact) (pre : List Step) : Type 0 where
  on : Amid t t' S pre → Moved t t' S pre
  whole : (x : Step) → IsStep t x → pre ≡ block t x → Amid t t' S [] → Moved t t' S pre

-- a list taken apart, and whether procnone stands in what it leaves
pub record CameApart (t : Task) (ys : List Step) (E : List Fact) : Type 0 where
  pub list : List Step
  pub rest : List Step
  pub apart : TakenApart t ys list rest
  pub free-alone : In (bare (procnone t)) E → rest ≡ []
  pub alone-free : rest ≡ [] → In (bare (procnone t)) E

module _ {t t' : Task} (G : Given t t') where
  -- ---- which part a step that runs is
  -- it asks for the bare token of its position
  bare-token-stands : (s j : ℕ) → s < length t.schemas → j < length (orders t s) → (y : Step) →
      y.schema ≡ first_of t s + j → (S : List Fact) → applies t' S y ≡ true → In (bare (token_at t s (orders t s) j)) S
  bare-token-stands s j l h y at S ok = applies-in t' S y ok (bare (token_at t s (orders t s) j))
      (asks-token (own-part G s j l h y at) (bare (token_at t s (orders t s) j))
      (the-bare (ap bare (sym (required-is t s (orders t s) j h)))))

  starts : (s j : ℕ) → s < length t.schemas → j < length (orders t s) → (y : Step) → y.schema ≡ first_of t s + j →
      (s₀ : List Fact) → State t s₀ → applies t' (with_free t s₀) y ≡ true → j ≡ 0
  unfolding with_free free
  starts s j l h y at s₀ st ok = go (in-append s₀ (bare-token-stands s j l h y at (with_free t s₀) ok))
    where
      go : In (bare (token_at t s (orders t s) j)) s₀ ⊎ In (bare (token_at t s (orders t s) j)) (bare (procnone t) ∷ []) →
          j ≡ 0
      go (inl i) = absurd (let z = state-low t s₀ st (bare (token_at t s (orders t s) j)) i in
          omega (arith, token-high t s (orders t s) j))
      go (inr (there x4)) = elim x4 [ ]
      go (inr (here e)) = elim (dec_lt 0 j) [
        | yes q ↦
            absurd (do-not-free t s j q (sym (token-inside t s (orders t s) j q h) ∙ ap (λ f. f.pred) e))
        | no q ↦ omega arith
      ]

  goes-on : (s₀ : List Fact) (x : Step) (hx : IsChoice t x) (j : ℕ) → 0 < j → j < length (orders t x.schema) →
      (S : List Fact) → TokensIn t s₀ x j S → (s i : ℕ) → s < length t.schemas → i < length (orders t s) →
      (y : Step) → y.schema ≡ first_of t s + i → applies t' S y ≡ true → y.schema ≡ first_of t x.schema + j
  goes-on s₀ x hx j pj hj S tk s i l h y at ok =
      go (tk.is-token (bare (token_at t s (orders t s) i)) (token-high t s (orders t s) i)
      (bare-token-stands s i l h y at S ok))
    where
      same-do : 0 < i → do_token t s i ≡ do_token t x.schema j → y.schema ≡ first_of t x.schema + j
      same-do q d =
          let hi : i < parts (schema_at t s) = omega (arith, part-count G l) in
          let hk : j < parts (schema_at t x.schema) = omega (arith, part-count G hx.known) in
          let a = do-schema t s x.schema i j l hx.known hi hk q pj d in
          let b = do-position t s x.schema i j l hx.known hi hk q pj d in
          at ∙ ap₂ (λ s i. first_of t s + i) a b

      same : token_at t s (orders t s) i ≡ do_token t x.schema j → y.schema ≡ first_of t x.schema + j
      same e = elim (dec_lt 0 i) [
        | yes q ↦ same-do q (sym (token-inside t s (orders t s) i q h) ∙ e)
        | no q ↦
            let z : i ≡ 0 = omega arith in
            absurd (do-not-free t x.schema j pj
            (sym e ∙ ap (token_at t s (orders t s)) z ∙ token-zero t s (orders t s)))
      ]

      go : Token t s₀ x.schema (object_of x) j (bare (token_at t s (orders t s) i)) →
          y.schema ≡ first_of t x.schema + j
      go (inl e) = same (ap (λ f. f.pred) e ∙ token-inside t x.schema (orders t x.schema) j pj hj)
      go (inr (p, a, b, e)) = absurd (let z : ◌≡◌ {A = ℕ} 0 1 = ap (λ f. length f.args) e in omega arith)

  -- any choice of a schema, to begin a block with
  blank : ℕ → Step
  blank s = record { schema = s; objects = map (λ p. 0) (up_to (schema_at t s).params) }

  blank-choice : (s : ℕ) → s < length t.schemas → IsChoice t (blank s)
  unfolding blank
  blank-choice s l = record {
    known = l;
    count = length-map (up_to (schema_at t s).params) (λ p. 0) ∙ length-up_to (schema_at t s).params;
    small = λ o i.
        let (p, k, e) = map-in (λ p. 0) (up_to (schema_at t s).params) o i in
        subst (λ o. o < t.objects) (sym e) G.well.some-object;
  }

  -- one step more, which runs
  leads-on : (s₀ : List Fact) (pre : List Step) (S : List Fact) → Leads t t' s₀ pre S → (y : Step) → IsStep t' y →
      applies t' S y ≡ true → Leads t t' s₀ (pre ++ (y ∷ [])) (next t' S y)
  leads-on s₀ pre S h y hy ok = record {
    steps = last-steps t' pre y h.steps hy;
    runs = λ ys.
        let (i, e) = h.runs (y ∷ ys) in (
          suc i,
          ap (λ zs. run_from t' 0 zs (with_free t s₀)) (append_assoc pre (y ∷ []) ys) ∙ e ∙ run_on t' S y i ys ok,
        );
  }

  -- a whole block ran, so its choice is a step, it runs, and the block leaves what the step leaves
  whole-block : (s₀ : List Fact) → State t s₀ → (x : Step) → IsChoice t x → (pre : List Step) (S : List Fact) →
      Leads t t' s₀ pre S → pre ≡ block t x → Moved t t' S pre
  unfolding run_from
  whole-block s₀ st x h pre S leads e = elim (bool_cases (applies t s₀ x)) [
    | inl a ↦
        whole x step e
        (between (next t s₀ x) (next-state t s₀ x G.well st step)
        (ran-inj (sym came ∙ block_runs G st step a 0 [])) refl)
    | inr a ↦ let (m, E, l, q) = block-stops G st step a 0 [] in absurd (ran-not-stopped came q)
  ]
    where
      step : IsStep t x
      step = block-step G x h (subst (λ zs. StepsOf t' zs) e leads.steps)

      came : run_from t' 0 (block t x ++ []) (with_free t s₀) ≡ ran S
      came = ap (λ zs. run_from t' 0 (zs ++ []) (with_free t s₀)) (sym e) ∙ (leads.runs []).1

  move-part : (s₀ : List Fact) (st : State t s₀) (x : Step) (hx : IsChoice t x) (j : ℕ)
      (hj : j < length (orders t x.schema)) (S : List Fact) → TokensIn t s₀ x j S →
      (y : Step) → IsStep t' y → y.schema ≡ first_of t x.schema + j → applies t' S y ≡ true →
      (pre : List Step) → pre ≡ map (part_step t x) (up_to j) → Leads t t' s₀ pre S →
      Moved t t' (next t' S y) (pre ++ (y ∷ []))
  unfolding block
  move-part s₀ st x hx j hj S tk y hy at ok pre e leads = elim (dec_lt (suc j) (length (orders t x.schema))) [
    | yes q ↦ on (within s₀ st x' choice (suc j) (omega arith) q tokens list after)
    | no q ↦ finished (omega arith)
  ]
    where
      x' : Step
      x' = merged t x j y

      choice : IsChoice t x'
      choice = merged-choice G s₀ hx j hj S tk hy at ok

      tokens : TokensIn t s₀ x' (suc j) (next t' S y)
      tokens = merged-tokens G s₀ hx j hj S tk hy at ok

      list : pre ++ (y ∷ []) ≡ map (part_step t x') (up_to (suc j))
      list = merged-parts G s₀ hx j hj S tk hy at ok pre e

      after : Leads t t' s₀ (pre ++ (y ∷ [])) (next t' S y)
      after = leads-on s₀ pre S leads y hy ok

      finished : suc j ≡ length (orders t x.schema) → Moved t t' (next t' S y) (pre ++ (y ∷ []))
      finished z =
          whole-block s₀ st x' choice (pre ++ (y ∷ [])) (next t' S y) after
          (list ∙ ap (λ n. map (part_step t x') (up_to n)) z)

  -- nothing is done yet
  leads-none : (s₀ : List Fact) (pre : List Step) (S : List Fact) → S ≡ with_free t s₀ → pre ≡ [] → Leads t t' s₀ pre S
  unfolding all
  leads-none s₀ pre S e q = record {
    steps = subst (λ zs. StepsOf t' zs) (sym q) refl;
    runs = λ ys. (0, ap (λ zs. run_from t' 0 (zs ++ ys) (with_free t s₀)) q ∙ ap (run_from t' 0 ys) (sym e));
  }

  move : (S : List Fact) (pre : List Step) → Amid t t' S pre → (y : Step) → IsStep t' y → applies t' S y ≡ true →
      Moved t t' (next t' S y) (pre ++ (y ∷ []))
  unfolding blank up_to
  move S pre m y hy ok =
      let known = subst (λ u. y.schema < length u.schemas) G.is hy.known in
      let (s, i, l, h, at) = find-schema t y.schema known in
      go m s i l h at
    where
      go : Amid t t' S pre → (s i : ℕ) → s < length t.schemas → i < length (orders t s) →
          y.schema ≡ first_of t s + i → Moved t t' (next t' S y) (pre ++ (y ∷ []))
      go (between s₀ st e q) s i l h at =
          let z = starts s i l h y at s₀ st (subst (λ S. applies t' S y ≡ true) e ok) in
          move-part s₀ st (blank s) (blank-choice s l) 0 (filled G l) S
          (subst (λ S. TokensIn t s₀ (blank s) 0 S) (sym e) (stands-start t s₀ st s (object_of (blank s))).tokens)
          y hy (at ∙ ap (λ i. first_of t s + i) z) ok pre q (leads-none s₀ pre S e q)
      go (within s₀ st x hx j pj hj tk q leads) s i l h at =
          move-part s₀ st x hx j hj S tk y hy (goes-on s₀ x hx j pj hj S tk s i l h y at ok) ok pre q leads

  -- ---- a list taken apart
  -- inside a block procnone doesn't stand
  no-free-within : (s₀ : List Fact) (x : Step) (j : ℕ) → 0 < j → j < length (orders t x.schema) →
      Token t s₀ x.schema (object_of x) j (bare (procnone t)) → ⊥
  no-free-within s₀ x j pj hj (inl e) =
      do-not-free t x.schema j pj
      (sym (ap (λ f. f.pred) e ∙ token-inside t x.schema (orders t x.schema) j pj hj))
  no-free-within s₀ x j pj hj (inr (p, a, b, e)) =
      let z : ◌≡◌ {A = ℕ} 0 1 = ap (λ f. length f.args) e in omega arith

  apart-at-end : (S : List Fact) (pre : List Step) → Amid t t' S pre → CameApart t (pre ++ []) S
  unfolding all unfold_steps concat_map with_free free
  apart-at-end S pre (between s₀ st e q) = record {
    list = [];
    rest = [];
    apart = record { steps = refl; blocks = append-nil pre ∙ q; remainder = inl refl };
    free-alone = λ i. refl;
    alone-free = λ z. subst (λ S. In (bare (procnone t)) S) (sym e) (in_right s₀ (here refl));
  }
  apart-at-end S pre (within s₀ st x hx j pj hj tk q leads) = record {
    list = [];
    rest = pre;
    apart = record {
      steps = refl;
      blocks = append-nil pre;
      remainder = inr (record {
        choice = x;
        count = j;
        is-choice = is-is_choice t x hx;
        own-pairs = subst (λ u. StepsOf u pre) G.is leads.steps;
        at_least_one = pj;
        not-all = omega (arith, length-block t x);
        first-parts = q ∙ sym (take-block t x j (omega arith));
      });
    };
    free-alone = λ i. absurd (no-free-within s₀ x j pj hj (tk.is-token (bare (procnone t)) (omega arith) i));
    alone-free = λ z.
        let u = sym (length-map (up_to j) (part_step t x) ∙ length-up_to j) ∙ ap length (sym q ∙ z) in
        absurd (omega arith);
  }

  apart_more : (x : Step) → IsStep t x → (ys : List Step) (E : List Fact) → CameApart t ys E →
      CameApart t (block t x ++ ys) E
  apart_more x h ys E a = record {
    list = x ∷ a.list;
    rest = a.rest;
    apart = one-more-block t x h a.apart;
    free-alone = a.free-alone;
    alone-free = a.alone-free;
  }

  comes-apart : (ys : List Step) (S : List Fact) (pre : List Step) → Amid t t' S pre → StepsOf t' ys → (i : ℕ)
      (E : List Fact) → run_from t' i ys S ≡ ran E → CameApart t (pre ++ ys) E
  unfolding run_from
  comes-apart [] S pre m h i E r = subst (λ E. CameApart t (pre ++ []) E) (ran-inj r) (apart-at-end S pre m)
  comes-apart (y ∷ ys) S pre m h i E r = go (applies t' S y) refl
      (λ p q k. comes-apart ys (next t' S y) p q (tail-steps t' y ys h) (suc i) E k)
    where
      after : ((p : List Step) → Amid t t' (next t' S y) p → CameApart t (p ++ ys) E) →
          Moved t t' (next t' S y) (pre ++ (y ∷ [])) → CameApart t (pre ++ (y ∷ ys)) E
      after ih (on m) = subst (λ z. CameApart t z E) (append_assoc pre (y ∷ []) ys) (ih (pre ++ (y ∷ [])) m)
      after ih (whole x hx e m) =
          subst (λ z. CameApart t z E) (ap (λ z. z ++ ys) (sym e) ∙ append_assoc pre (y ∷ []) ys)
          (apart_more x hx ys E (ih [] m))

      go : (b : Bool) → applies t' S y ≡ b → ((p : List Step) → Amid t t' (next t' S y) p →
          run_from t' (suc i) ys (next t' S y) ≡ ran E → CameApart t (p ++ ys) E) → CameApart t (pre ++ (y ∷ ys)) E
      go true a ih =
          after (λ p q. ih p q (sym (run_on t' S y i ys a) ∙ r)) (move S pre m y (head_step t' y ys h) a)
      go false a ih = absurd (ran-not-stopped r (run-stop t' S y i ys a))

  -- from a state of the task, with procnone
  pub apart_from : (s : List Fact) → State t s → (ys : List Step) → StepsOf t' ys → (E : List Fact) →
      run_from t' 0 ys (with_free t s) ≡ ran E → CameApart t ys E
  apart_from s st ys h E r = comes-apart ys (with_free t s) [] (between s st refl refl) h 0 E r
