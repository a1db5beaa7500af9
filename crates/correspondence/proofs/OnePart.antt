-- One part of a block: the step for position j runs exactly when the part's old preconditions stood before the block,
-- and it leaves what stands before j + 1. The bare token passes from position to position, and a par stands from the
-- first part of its parameter to the last; this needs no pair kept apart. Old facts do: an arc is missing where a pair
-- is held, and only objects that differ there keep the two parts from one ground atom.
use Prim.Native.Nat.{ℕ, suc, ◌≤◌, ◌<◌}
use mathlib.Core.Path.{◌≡◌, refl, sym, ◌∙◌, ap, subst}
use mathlib.Core.Bool.{true, false}
use mathlib.Core.List.{List}
use mathlib.Core.Logic.{◌⊎◌, inl, inr}
use native.Mathlib.Omega.{arith}
use native.Mathlib.Decide.{dec_lt}
use lib.ListN.{length, get_or}
use lib.Dec.{eqb}
use borrow.Author.Tests.{ltb-true, eqb-true, lt-ltb, eq-eqb, ne_eqb}
use Rattle.task.specs.Task.{Atom, Fact, Schema, Task, precondition, addition, deletion}
use Rattle.task.specs.Run.{Step, schema_at, ground_role, applies, next}
use Rattle.tokens.specs.Split.{first_position, last_position, procnone, par_token, own, lone, first_here, last_here}
use Rattle.tokens.specs.Split.{later_here, orders}
use Rattle.words.proofs.Lists.{both-ft, and_left, and_right, and_both, bool_cases, In, in-eq}
use Rattle.task.proofs.States.{KeepsApart, in-next, next-add, next-keep, asc-next, applies-in, in-applies}
use Rattle.arcs.proofs.Arcs.{tested-then-added, tested-then-deleted, deleted-then-added}
use Rattle.tokens.proofs.Places.{has-small, in_params, params-in, At, at_last, first-at, last-at, some_at}
use Rattle.tokens.proofs.Ground.{fact_of, bare, old_of, the-bare, a-par}
use Rattle.tokens.proofs.Predicates.{par-fixes}
use Rattle.tokens.proofs.Accepted.{token_at, required-is, handed_on-is, token-zero, token_end}
use Rattle.correspondence.proofs.Standing.{OldFact, Token, TokensStand, Stands}
use Rattle.correspondence.proofs.PartAtoms.{OldHere, Required, Added, Deleted, IsPart, asked, asks-old, adds-old}
use Rattle.correspondence.proofs.PartAtoms.{adds-token, deletes-old, deletes-token, old-here-low, required-high}
use Rattle.correspondence.proofs.PartAtoms.{added-low, deleted-low, added-token, deleted-token, clash}
use Rattle.correspondence.proofs.PartAtoms.{done-before, done-later, done-here}

-- the old preconditions of the part at position j stand in s₀
abbrev pub Needs : Task → List Fact → ℕ → (ℕ → ℕ) → ℕ → Type 0
Needs t s₀ s v j =
    (a : Atom) → In a (schema_at t s).atoms → a.role ≡ precondition → a.part ≡ get_or (orders t s) j 0 →
    In (fact_of v a) s₀

-- ---- tokens, whether the objects keep the pairs apart or not
module _ {t t' : Task} {s₀ : List Fact} {s : ℕ} {v : ℕ → ℕ} {j : ℕ} {S : List Fact} {y : Step}
    (P : IsPart t t' s v j y) (tk : TokensStand t s₀ s v j S) where
  abbrev sch : Schema
  sch = schema_at t s

  abbrev ord : List ℕ
  ord = orders t s

  last-not-before : (x : ℕ) → In x (own t s ord j) → j ≤ last_position sch ord x
  unfolding own
  last-not-before x i =
      at_last sch ord x j (record { inside = P.here; found = (in_params sch x (get_or ord j 0) i).1 })

  required-stands : (f : Fact) → Required t s v j f → Token t s₀ s v j f
  unfolding later_here
  required-stands f (the-bare e) = inl (e ∙ ap bare (required-is t s ord j P.here))
  required-stands f (a-par x i q e) = inr (x, ltb-true (first_position sch ord x) j q, last-not-before x i, e)

  -- ---- what it leaves
  -- a lone part neither adds nor deletes its token, which is procnone before and after
  lone-token : lone t s ord j ≡ true → token_at t s ord (suc j) ≡ token_at t s ord j
  unfolding lone
  lone-token h =
      let e = eqb-true (length ord) 1 h in
      let k = P.here in
      let z : j ≡ 0 = omega arith in
      token_end t s ord (suc j) (omega arith) ∙ sym (token-zero t s ord) ∙ ap (token_at t s ord) (sym z)

  not-lone : 2 ≤ length (orders t s) → lone t s ord j ≡ false
  unfolding lone
  not-lone h = ne_eqb (length ord) 1 (λ e. omega arith)

  own_in : (x : ℕ) → At sch ord x j → In x (own t s ord j)
  unfolding own
  own_in x a =
      let small = has-small sch t.arities (P.given.well.schema s P.known) x (get_or ord j 0) a.found in
      params-in sch x (get_or ord j 0) small a.found

  -- a parameter in several parts is first found here, or last
  opened : (x : ℕ) → first_position sch ord x ≡ j → j < last_position sch ord x →
      At sch ord x j × (2 ≤ length (orders t s))
  opened x e h =
      let (i, a) = some_at sch ord x (omega arith) in
      let z = (last-at sch ord x i a).inside in
      (subst (λ z. At sch ord x z) e (first-at sch ord x i a), omega arith)

  closed : (x : ℕ) → first_position sch ord x < j → last_position sch ord x ≡ j →
      At sch ord x j × (2 ≤ length (orders t s))
  closed x h e =
      let (i, a) = some_at sch ord x (omega arith) in
      let z = P.here in
      (subst (λ z. At sch ord x z) e (last-at sch ord x i a), omega arith)

  added-stands : (f : Fact) → Added t s v j f → Token t s₀ s v (suc j) f
  unfolding first_here
  added-stands f (the-bare e) = inl (e ∙ ap bare (handed_on-is t s ord j))
  added-stands f (a-par x i q e) =
      let a = eqb-true (first_position sch ord x) j (and_left (eqb (first_position sch ord x) j) _ q) in
      let b = ltb-true j (last_position sch ord x) (and_right (eqb (first_position sch ord x) j) _ q) in
      inr (x, omega arith, omega arith, e)

  kept-stands : (f : Fact) → (In f (ground_role t' deletion y) → ⊥) → Token t s₀ s v j f → Token t s₀ s v (suc j) f
  unfolding last_here
  kept-stands f n (inl e) = elim (bool_cases (lone t s ord j)) [
    | inl q ↦ inl (e ∙ ap bare (sym (lone-token q)))
    | inr q ↦
        let named = e ∙ ap bare (sym (required-is t s ord j P.here)) in
        absurd (n (deletes-token P f q (the-bare named)))
  ]
  kept-stands f n (inr (x, a, b, e)) = elim (dec_lt j (last_position sch ord x)) [
    | yes q ↦ inr (x, omega arith, q, e)
    | no q ↦
        let z : last_position sch ord x ≡ j = omega arith in
        let (p, m) = closed x a z in
        absurd (n (deletes-token P f (not-lone m) (a-par x (own_in x p)
        (and_both _ _ (eq-eqb (last_position sch ord x) j z) (lt-ltb (first_position sch ord x) j a)) e)))
  ]

  next-is-token : (f : Fact) → procnone t ≤ f.pred → In f (next t' S y) → Token t s₀ s v (suc j) f
  next-is-token f h i = elim (in-next t' S y f i) [
    | inl a ↦ added-stands f (added-token P f h a)
    | inr a ↦ kept-stands f a.1 (tk.is-token f h a.0)
  ]

  -- a par that stays open is not among the tokens deleted
  open-not-deleted : (f : Fact) (x : ℕ) → j < last_position sch ord x → f.pred ≡ par_token t x → length f.args ≡ 1 →
      Deleted t s v j f → ⊥
  unfolding last_here
  open-not-deleted f x b e n (the-bare d) = let z = ap (λ f. length f.args) d in omega arith
  open-not-deleted f x b e n (a-par w i q d) =
      let z = par-fixes t w x (sym (ap (λ f. f.pred) d) ∙ e) in
      let u = eqb-true (last_position sch ord w) j (and_left (eqb (last_position sch ord w) j) _ q) in
      let o = ap (last_position sch ord) z in
      omega arith

  token-is-next : (f : Fact) → procnone t ≤ f.pred → Token t s₀ s v (suc j) f → In f (next t' S y)
  unfolding first_here
  token-is-next f h (inl e) = elim (bool_cases (lone t s ord j)) [
    | inl q ↦
        next-keep t' S y f (tk.token-is f h (inl (e ∙ ap bare (lone-token q))))
        (λ d. both-ft q (deleted-token P f h d).0)
    | inr q ↦
        next-add t' S y f (adds-token P f q (the-bare (e ∙ ap bare (sym (handed_on-is t s ord j)))))
  ]
  token-is-next f h (inr (x, a, b, e)) = elim (dec_lt (first_position sch ord x) j) [
    | yes q ↦ next-keep t' S y f (tk.token-is f h (inr (x, q, less b, e))) (λ d.
        open-not-deleted f x b (ap (λ f. f.pred) e) (ap (λ f. length f.args) e)
        (deleted-token P f h d).1)
    | no q ↦
        let z : first_position sch ord x ≡ j = omega arith in
        let (p, m) = opened x z b in
        next-add t' S y f (adds-token P f (not-lone m) (a-par x (own_in x p)
        (and_both _ _ (eq-eqb (first_position sch ord x) j z) (lt-ltb j (last_position sch ord x) b)) e))
  ]
    where
      less : j < last_position sch ord x → j ≤ last_position sch ord x
      less q = omega arith

  pub tokens-next : TokensStand t s₀ s v (suc j) (next t' S y)
  tokens-next = record { is-token = next-is-token; token-is = token-is-next }

-- ---- old facts, where the objects keep the pairs apart
module _ {t t' : Task} {s₀ : List Fact} {s : ℕ} {v : ℕ → ℕ} {j : ℕ} {S : List Fact} {y : Step}
    (P : IsPart t t' s v j y) (apart : KeepsApart (schema_at t s).pairs v) (sd : Stands t s₀ s v j S) where
  -- ---- when it runs
  -- a precondition meets no add of its predicate in an earlier part, so it tests the state before the block
  pub runs-needs : applies t' S y ≡ true → Needs t s₀ s v j
  runs-needs h a i r p = elim (sd.is-old f (old-here-low P precondition f this)
      (applies-in t' S y h f (asks-old P f this))) [
        | inl d ↦ absurd (clash P apart d.0 precondition addition f d.1 this d.2 tested-then-added)
        | inr d ↦ d.0
      ]
    where
      f : Fact
      f = fact_of v a

      this : OldHere t s v j precondition f
      this = old_of a i r p refl

  -- and no delete of it
  pub needs-run : Needs t s₀ s v j → applies t' S y ≡ true
  needs-run h = in-applies t' S y (λ f i. go f (asked P f i))
    where
      old : (f : Fact) → OldHere t s v j precondition f → In f s₀ → In f S
      old f k i = sd.old-is f (old-here-low P precondition f k) (inr (
        i,
        λ d.
            clash P apart d.0 precondition deletion f d.1 k d.2 tested-then-deleted,
      ))

      go : (f : Fact) → OldHere t s v j precondition f ⊎ Required t s v j f → In f S
      go f (inl (old_of a i r p e)) = old f (old_of a i r p e) (in-eq e (h a i r p))
      go f (inr k) = sd.tokens.token-is f (required-high P f k) (required-stands P sd.tokens f k)

  -- ---- what it leaves: old facts
  next-is-old : (f : Fact) → f.pred < procnone t → In f (next t' S y) → OldFact t s₀ s v (suc j) f
  next-is-old f h i = elim (in-next t' S y f i) [
    | inl a ↦ inl (done-here t s₀ s v j addition f (added-low P f h a))
    | inr a ↦ elim (sd.is-old f h a.0) [
      | inl d ↦ inl (done-later t s₀ s v j addition f d)
      | inr d ↦ inr (
        d.0,
        λ z. elim (done-before t s₀ s v j deletion f z) [
          | inl q ↦ d.1 q
          | inr q ↦ a.1 (deletes-old P f q)
        ],
      )
    ]
  ]

  -- what an earlier part adds is not deleted here, because no delete of a predicate comes after an add of it
  old-is-next : (f : Fact) → f.pred < procnone t → OldFact t s₀ s v (suc j) f → In f (next t' S y)
  old-is-next f h (inl d) = elim (done-before t s₀ s v j addition f d) [
    | inl k ↦ next-keep t' S y f (sd.old-is f h (inl k)) (λ q.
        clash P apart k.0 deletion addition f k.1 (deleted-low P f h q) k.2
        deleted-then-added)
    | inr k ↦ next-add t' S y f (adds-old P f k)
  ]
  old-is-next f h (inr d) =
      next-keep t' S y f (sd.old-is f h (inr (d.0, λ q. d.1 (done-later t s₀ s v j deletion f q))))
      (λ q. d.1 (done-here t s₀ s v j deletion f (deleted-low P f h q)))

  -- ---- the invariant again
  pub stands-next : Stands t s₀ s v (suc j) (next t' S y)
  stands-next = record {
    asc = asc-next t' S y sd.asc;
    is-old = next-is-old;
    old-is = old-is-next;
    tokens = tokens-next P sd.tokens;
  }
