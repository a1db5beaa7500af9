-- `blocks::folding::put_gathered` meets its contract. The invariant: over the zeros, the objects of the parameters
-- before p are put. So at the end the words are those of the step (`put_step`). The measure is the parameters left.
use Rattle.blocks.proofs.folding.put_gathered.Tie as tie
use Prim.Native.Nat.{ℕ, ◌+◌, ◌-◌, ◌≤◌, ◌<◌}
use mathlib.Core.Path.{◌≡◌, sym, ◌∙◌, ap}
use mathlib.Core.List.{List, [], ◌∷◌, ◌++◌}
use native.Mathlib.Omega.{arith}
use lib.ListN.{length, length-set, length-map}
use Rattle.words.specs.Lists.{up_to, put}
use Rattle.words.specs.Putting.{Puts}
use Rattle.words.proofs.Lists.{length-up_to}
use Rattle.words.proofs.Puts.{puts-length}
use Rattle.task.specs.Run.{step_words}
use Rattle.blocks.specs.FoldCode.{object_in, objects_in, gathered}
use Rattle.blocks.proofs.KeptWords.{put-none, put_next, put_step}
use Rattle.blocks.proofs.FoldPuts.{objects-start, objects-next}
use Rattle.blocks.proofs.folding.put_gathered.Statement.{statement}

abbrev invariant-loop-p : tie.invariant-loop-p
invariant-loop-p steps origins begin s params out₀ to p₀ out p =
    (p ≤ params) × Puts out₀ (to + 1) (objects_in steps origins begin s (up_to p)) out (to + 1 + p)

abbrev decreases-loop-p : tie.decreases-loop-p
decreases-loop-p steps origins begin s params out₀ to p₀ out p = params - p

-- the buffer keeps its length
filled : (c : tie.After-fill invariant-loop-p decreases-loop-p) →
    length c.fill.new.out ≡ length c.args.out.now
filled c =
    let a = c.args in
    puts-length c.fill.ensures ∙ length-set a.out.now a.to a.s

fill-requires : tie.Need-fill-requires invariant-loop-p decreases-loop-p
fill-requires c κs = let a = c.args in
    let e = length-set a.out.now a.to a.s in omega arith

loop-holds : tie.Need-loop-p-init invariant-loop-p decreases-loop-p
loop-holds c =
    let a = c.args in
    let h = put-none c.fill.new.out (a.to + 1)
    (objects_in a.steps.now a.origins.now a.begin a.s (up_to 0))
    (objects-start a.steps.now a.origins.now a.begin a.s) in
    (omega arith, record { words = h.words; place = let e = h.place in omega arith })

room : (c : tie.In-loop-p invariant-loop-p decreases-loop-p) →
    let a = c.args in
    a.to + 1 + c.loop-p.p < length c.loop-p.out
room c =
    let d = c in
    let e = puts-length c.loop-p.invariant.1 in
    let f = filled d.before.before.before.before in
    let l = c.loop-p-test.true in
    let (few, (room, inside)) = d.requires in
    omega arith

object-in-requires : tie.Need-object_in-object-requires invariant-loop-p decreases-loop-p
object-in-requires c κs =
    let (few, (room, inside)) = c.requires in
    let l = c.loop-p-test.true in
    ((few.0, omega arith), inside c.loop-p.p l)

loop-again : tie.Need-loop-p-preserved invariant-loop-p decreases-loop-p
loop-again c =
    let d = c in
    let h = d.loop-p in
    let a = d.args in
    let l = d.loop-p-test.true in
    let q = put_next h.invariant.1 c.object_in-object.result.0
    (objects_in a.steps.now a.origins.now a.begin a.s (up_to (h.p + 1)))
    (objects-next a.steps.now a.origins.now a.begin a.s h.p
    ∙ ap (λ (v : ℕ). objects_in a.steps.now a.origins.now a.begin a.s (up_to h.p) ++ (v ∷ []))
    (sym c.object_in-object.ensures)) in
    (omega arith, record { words = q.words; place = let e = q.place in omega arith })

returns : tie.Need-returns invariant-loop-p decreases-loop-p
returns c =
    let h = c.loop-p in
    let d = c in
    let a = d.args in
    let (few, more) = d.requires in
    let e : h.p ≡ a.params = omega (arith, c.loop-p-test.false) in
    let os : List ℕ = objects_in a.steps.now a.origins.now a.begin a.s (up_to h.p) in
    let n = length-map (up_to h.p) (object_in a.steps.now a.origins.now a.begin a.s) in
    let m = length-up_to h.p in
    h.invariant.1.words
    ∙ (ap (λ (w : List ℕ). put w (a.to + 1) os) d.fill.ensures.words
    ∙ (put_step a.out.now a.to a.s os (omega arith)
    ∙ ap (λ (k : ℕ). put a.out.now a.to
    (step_words (gathered a.steps.now a.origins.now a.begin a.s k))) e))

same_length : tie.Need-shape_of-out invariant-loop-p decreases-loop-p
same_length c =
    puts-length c.loop-p.invariant.1 ∙ filled c.before.before.before.before

pub put_gathered_spec : {M : Type 1} → statement M
put_gathered_spec =
    tie.close
    (tie.spec invariant-loop-p decreases-loop-p (λ c. omega arith) (λ c. omega arith) (λ c. omega arith) (λ c. omega arith) fill-requires
    loop-holds (λ c. omega arith) object-in-requires (λ c. let l = room c.before in omega arith)
    (λ c. let l = room c.before in omega arith) (λ c. let l = room c.before in omega arith)
    (λ c. room c.before) (λ c. omega arith) (λ c. omega arith) loop-again same_length returns)
