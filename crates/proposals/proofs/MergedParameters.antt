-- The parameters while parts a < b merge: the merged part has those of both, and the words behind part b's move up one
-- by one, so that each ends where part b's closing up takes its part.
use Prim.Native.Nat.{ℕ, ◌+◌, ◌≤◌, ◌<◌}
use mathlib.Core.Path.{◌≡◌, refl, sym, ◌∙◌, ap, ap₂}
use mathlib.Core.Bool.{Bool, ◌||◌}
use mathlib.Core.List.{List}
use native.Mathlib.Omega.{arith}
use native.Mathlib.Decide.{dec_lt, ℕ_discrete}
use lib.ListN.{length, set}
use Rattle.words.specs.Lists.{any}
use Rattle.words.specs.Sets.{member}
use Rattle.words.proofs.Ranges.{or-false}
use Rattle.task.specs.Limits.{most_atoms}
use Rattle.proposals.specs.Circle.{came_from}
use Rattle.proposals.specs.Outcome.{scratch_words}
use Rattle.proposals.specs.Scratch.{KeepsArcs, KeepsBehind, MergesParameters, parameters_to}
use Rattle.proposals.proofs.CameFrom.{came-low, came-high, came-a, came-from-a, becoming-both}
use Rattle.proposals.proofs.CameFrom.{becoming-other}
use Rattle.proposals.proofs.Scratches.{keeps-refl, keeps-trans, keeps-room, parameters-set-keeps}
use Rattle.proposals.proofs.Scratches.{parameters-set-here, parameters-set-other, parameters-set-arcs}

-- ---- closing up
-- the words before part q have their place, those from it on stand as before
pub record MovedUp (b : ℕ) (joined : List ℕ) (q : ℕ) (scratch : List ℕ) : Type 0 where
  pub behind : b ≤ q
  pub keeps : KeepsBehind joined scratch
  pub arcs : KeepsArcs joined scratch
  pub came : (p : ℕ) → p < q → parameters_to scratch p ≡ parameters_to joined (came_from b p)
  pub rest : (p : ℕ) → q ≤ p → parameters_to scratch p ≡ parameters_to joined p

pub moved_none : (b : ℕ) (joined : List ℕ) → MovedUp b joined b joined
moved_none b joined = record {
  behind = omega arith;
  keeps = keeps-refl joined;
  arcs = λ p k. refl;
  came = λ p k. ap (parameters_to joined) (sym (came-low b p k));
  rest = λ p k. refl;
}

pub moved_more : {b : ℕ} {joined : List ℕ} {q : ℕ} {scratch : List ℕ} → MovedUp b joined q scratch →
    scratch_words ≤ length joined → q < most_atoms → {u : ℕ} → u ≡ parameters_to scratch (q + 1) →
    MovedUp b joined (q + 1) (set scratch (most_atoms + q) u)
moved_more {b} {joined} {q} {scratch} h room l {u} e = record {
  behind = let m = h.behind in omega arith;
  keeps = keeps-trans h.keeps (parameters-set-keeps scratch q l u);
  arcs = λ p m. parameters-set-arcs scratch q l u p m ∙ h.arcs p m;
  came = came;
  rest = λ p m. parameters-set-other scratch q l u p (λ f. let z = f in omega arith) ∙ h.rest p (omega arith);
}
  where
    came : (p : ℕ) → p < q + 1 → parameters_to (set scratch (most_atoms + q) u) p ≡ parameters_to joined (came_from b p)
    came p m = elim (dec_lt p q) [
      | yes i ↦ parameters-set-other scratch q l u p (λ f. let z = f in omega arith) ∙ h.came p i
      | no i ↦
          let k = h.behind in
          let o : p ≡ q = omega arith in
          let f : q + 1 ≡ came_from b p = omega (arith, came-high b p (omega arith)) in
          ap (parameters_to (set scratch (most_atoms + q) u)) o
          ∙ (parameters-set-here scratch q l u (keeps-room h.keeps room)
          ∙ (e ∙ (h.rest (q + 1) (omega arith) ∙ ap (parameters_to joined) f)))
    ]

-- ---- the merge
-- part a has the parameters of both first, then the words behind part b's move up
pub parameters-merged : {a b n : ℕ} {lent : List ℕ} → a < b → b < n → n ≤ most_atoms → scratch_words ≤ length lent →
    {to-a to-b : ℕ} → to-a ≡ parameters_to lent a → to-b ≡ parameters_to lent b → (u : ℕ) →
    ((x : ℕ) → member u x ≡ member to-a x || member to-b x) → {q : ℕ} {after : List ℕ} →
    MovedUp b (set lent (most_atoms + a) u) q after → n ≤ q + 1 → MergesParameters a b n lent after
unfolding any
parameters-merged {a} {b} {n} {lent} l m few room e f u both {q} {after} h end = record {
  keeps = keeps-trans (parameters-set-keeps lent a below u) h.keeps;
  arcs = λ p i. h.arcs p i ∙ parameters-set-arcs lent a below u p i;
  named = λ p x i. ap (λ (w : ℕ). member w x) (h.came p (omega arith)) ∙ elim (ℕ_discrete p a) [
    | yes o ↦
        rw (o, came-a a b l, parameters-set-here lent a below u room, becoming-both a b)
        (both x
        ∙ (ap₂ (λ (v w : ℕ). member v x || member w x) e f
        ∙ ap (λ (t : Bool). member (parameters_to lent a) x || t) (sym (or-false (member (parameters_to lent b) x)))))
    | no d ↦
        rw (parameters-set-other lent a below u (came_from b p) (λ o. d (came-from-a a b l p o)), becoming-other a b p d)
        (sym (or-false (member (parameters_to lent (came_from b p)) x)))
  ];
}
  where
    below : a < most_atoms
    below = omega arith
