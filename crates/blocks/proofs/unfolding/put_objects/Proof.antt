-- `blocks::unfolding::put_objects` meets its contract. The invariant: the objects of the parameters below p are put.
-- They are all where the set has no parameter from p on (`objects-end`). The measure is the parameters left.
use Rattle.blocks.proofs.unfolding.put_objects.Tie as tie
use Prim.Native.Nat.{ℕ, ◌+◌, ◌-◌, ◌≤◌}
use mathlib.Core.Path.{◌≡◌, sym, ◌∙◌, ap}
use mathlib.Core.List.{List, [], ◌∷◌, ◌++◌}
use mathlib.Core.Logic.{⊎_elim}
use native.Mathlib.Omega.{arith}
use lib.ListN.{length}
use Rattle.words.specs.Lists.{put}
use Rattle.task.specs.Limits.{most_parameters}
use Rattle.words.proofs.Puts.{puts-length, puts-same}
use Rattle.words.specs.Putting.{Puts}
use Rattle.blocks.proofs.KeptWords.{put-none, put_next, both_at, objects-none, objects-more}
use Rattle.blocks.proofs.KeptWords.{objects-same, objects-end, objects-few}
use Rattle.blocks.proofs.unfolding.put_objects.Statement.{statement}
use Rattle.blocks.specs.Unfolding.{objects_for}

abbrev invariant-loop-p : tie.invariant-loop-p
invariant-loop-p steps at own out₀ to next₀ p₀ out next p =
    (p ≤ most_parameters) × Puts out₀ to (objects_for steps at own p) out next

abbrev decreases-loop-p : tie.decreases-loop-p
decreases-loop-p steps at own out₀ to next₀ p₀ out next p = most_parameters - p

-- what was lent, and the objects of the parameters below p
abbrev start : tie.At-loop-p invariant-loop-p decreases-loop-p → tie.Start invariant-loop-p decreases-loop-p
start c = c.before.before.before

abbrev objects : tie.Start invariant-loop-p decreases-loop-p → ℕ → List ℕ
objects c p = objects_for c.args.steps.now c.args.at c.args.own p

loop-holds : tie.Need-loop-p-init invariant-loop-p decreases-loop-p
loop-holds c =
    let s = c in
    let a = s.args in
    (omega arith, put-none a.out.now a.to (objects s.before.before 0) (objects-none a.steps.now a.at a.own))

-- those that are put end at most p words from `to`, so there is room for one more
reached : (c : tie.At-loop-p invariant-loop-p decreases-loop-p) → let a = (start c).args in
    (length c.loop-p.out ≡ length a.out.now) × (c.loop-p.next ≤ a.to + c.loop-p.p)
reached c =
    let a = (start c).args in
    let h = c.loop-p.invariant.1 in
    let e = h.place in
    let l = objects-few a.steps.now a.at a.own c.loop-p.p in
    (puts-length h, omega arith)

-- the objects of the parameters below p are all
all-put : (c : tie.At-loop-p invariant-loop-p decreases-loop-p) → objects (start c) c.loop-p.p ≡ objects (start c) most_parameters →
    c.loop-p.out ≡ put (start c).args.out.now (start c).args.to (objects (start c) most_parameters)
all-put c e = c.loop-p.invariant.1.words ∙ ap (put (start c).args.out.now (start c).args.to) e

returns : tie.Need-returns-then-none_from invariant-loop-p decreases-loop-p
returns c =
    let at-loop = c in
    let a = (start at-loop.before.before.before).args in
    let p = at-loop.loop-p.p in
    let e : p + (most_parameters - p) ≡ most_parameters = omega arith in
    all-put at-loop.before.before.before (sym (objects-end a.steps.now a.at a.own p (most_parameters - p)
    (c.none_from.ensures c.if-none_from.true)) ∙ ap (objects (start at-loop.before.before.before)) e)

mul-out : tie.Need-offset_bounds-out-next invariant-loop-p decreases-loop-p
mul-out c = let e = reached c.before.before.before.before.before.before in omega arith

slice-write-out : tie.Need-bounds-out-next invariant-loop-p decreases-loop-p
slice-write-out c = let e = reached c.before.before.before.before.before.before in omega arith

add-next : tie.Need-overflow_add-next invariant-loop-p decreases-loop-p
add-next c = let e = reached c.before.before.before.before.before.before in omega arith

loop-again : tie.Need-loop-p-preserved invariant-loop-p decreases-loop-p
loop-again c =
    let at-loop = c in
    let h = at-loop.loop-p in
    let s = start at-loop.before.before.before.before.before in
    let a = s.args in
    let w = a.steps.now in
    let test = sym c.has.ensures in
    let P : List ℕ → ℕ → Type 0 = Puts a.out.now a.to (objects s (h.p + 1)) in (
      omega arith,
      ⊎_elim
          (λ x.
          let e = objects-more w a.at a.own h.p (test ∙ x.if-has.true) in
          let f = ap (λ (v : ℕ). objects s h.p ++ (v ∷ [])) (sym x.object_of-object.ensures) in
          both_at P x.out-is x.next-is (put_next h.invariant.1 x.object_of-object.result.0 (objects s (h.p + 1)) (e ∙ f)))
          (λ x.
          let e = objects-same w a.at a.own h.p (test ∙ x.if-has.false) in
          both_at P x.out-is x.next-is (puts-same (sym e) h.invariant.1))
          c.if-has.branch-raw,
    )

returns-2 : tie.Need-returns invariant-loop-p decreases-loop-p
returns-2 c =
    let e : c.loop-p.p ≡ most_parameters = omega arith in
    all-put c.before (ap (objects (start c.before)) e)

pub put_objects_spec : {M : Type 1} → statement M
put_objects_spec =
    tie.close
    (tie.spec invariant-loop-p decreases-loop-p loop-holds (λ c κs. omega arith) (λ c. (reached c.before.before.before).0) returns
    (λ c κs. omega arith) (λ c. omega arith) (λ c κs. omega arith) mul-out slice-write-out add-next (λ c. omega arith)
    (λ c. omega arith) loop-again (λ c. (reached c.before).0) returns-2)
