-- `blocks::folding::note_params` meets its contract. The invariant: the parameters of the schema's parts before j are
-- counted. The measure is the parts left.
use Rattle.blocks.proofs.folding.note_params.Tie as tie
use Prim.Native.Nat.{ℕ, ◌+◌, ◌-◌, ◌≤◌, ◌<◌}
use mathlib.Core.Path.{◌≡◌, refl, sym, ◌∙◌, ap, subst}
use native.Mathlib.Omega.{arith}
use lib.ListN.{length, set, length-set}
use borrow.Author.Rules.{rules}
use Rattle.words.specs.Sets.{members, word_bits}
use Rattle.task.specs.Task.{Task}
use Rattle.tokens.specs.Split.{orders, first_of}
use Rattle.blocks.specs.Unfolding.{BlocksKept}
use Rattle.blocks.specs.FoldCode.{ParamsNoted}
use Rattle.blocks.proofs.SplitParams.{part-looked, params_more, schema-passed}
use Rattle.blocks.proofs.folding.note_params.Statement.{statement}

abbrev invariant-loop-j : tie.invariant-loop-j
invariant-loop-j kept s params₀ first parts j₀ params j =
    (j ≤ parts) × (length params ≡ 200) ×
    ((t : Task) → BlocksKept t kept → s < length t.schemas → ParamsNoted t (first_of t s) params₀ →
    ParamsNoted t (first_of t s + j) params)

abbrev decreases-loop-j : tie.decreases-loop-j
decreases-loop-j kept s params₀ first parts j₀ params j = parts - j

-- the schema is one of the task's, for the task that the caller knows of
known : (c : tie.Start invariant-loop-j decreases-loop-j) → c.args.s < 200
known c = let (t, K, l, h) = c.requires in let n = K.few-schemas in omega arith

-- the part of this turn, for any task, and its number in the split
part : (c : tie.In-loop-j invariant-loop-j decreases-loop-j) (t : Task) → let a = c.args in
    BlocksKept t a.kept.now → a.s < length t.schemas → c.loop-j.j < length (orders t a.s)
part c t K l = omega (arith, c.count_of-parts.ensures, K.count _ l, c.loop-j-test.true)

looked : (c : tie.In-loop-j invariant-loop-j decreases-loop-j) (t : Task) → let a = c.args in
    let first = c.first_of-first.result in
    let j = c.loop-j.j in
    BlocksKept t a.kept.now → a.s < length t.schemas →
    (first + j ≡ first_of t a.s + j) × (j < 16) × (first + j < 200)
looked c t K l = part-looked K _ _ l (part c t K l) _ c.first_of-first.ensures

-- both are within the limits
small : (c : tie.In-loop-j invariant-loop-j decreases-loop-j) →
    (c.loop-j.j < 16) × (c.first_of-first.result + c.loop-j.j < 200)
small c = let (t, K, l, h) = c.requires in let (e, a, b) = looked c t K l in (a, b)

loop-holds : tie.Need-loop-j-init invariant-loop-j decreases-loop-j
loop-holds c =
    let a = c.args in
    let (t, K, l, h) = c.requires in (
      omega arith,
      h.long,
      λ t K l h. let e : first_of t a.s ≡ first_of t a.s + 0 = omega arith in
          subst (λ (n : ℕ). ParamsNoted t n a.params.now) e h,
    )

own-at-requires : tie.Need-own_at-requires invariant-loop-j decreases-loop-j
own-at-requires c κs = (known c.before.before.before.before, (small c).0)

cast-params : tie.Need-overflow_cast-params invariant-loop-j decreases-loop-j
cast-params c = let n = c.size.ensures.1 in omega arith

loop-again : tie.Need-loop-j-preserved invariant-loop-j decreases-loop-j
loop-again c =
    let turn = c in
    let h = turn.loop-j in
    let first = turn.first_of-first.result in
    let k = c.size.result in (
      omega (arith, turn.loop-j-test.true),
      length-set h.params (first + h.j) k ∙ h.invariant.1,
      λ t K l n.
          let s = turn.args.s in
          let m = part turn.before.before.before t K l in
          let e = (looked turn.before.before.before t K l).0 in
          let f : first_of t s + h.j + 1 ≡ first_of t s + (h.j + 1) = omega arith in
          subst (λ (i : ℕ). ParamsNoted t i (set h.params (first + h.j) k)) f
          (subst (λ (i : ℕ). ParamsNoted t (first_of t s + h.j + 1) (set h.params i k)) (sym e)
          (params_more K s h.j l m (first_of t s + h.j) k refl
          (c.size.ensures.0 ∙ ap (λ (o : ℕ). length (members o word_bits)) c.own_at.ensures)
          (h.invariant.2 t K l n))),
    )

returns : tie.Need-returns invariant-loop-j decreases-loop-j
returns c = λ t K l n.
    let h = c.loop-j in
    subst (λ (i : ℕ). ParamsNoted t i h.params)
    (schema-passed K _ h.j _ l c.count_of-parts.ensures c.loop-j-test.false h.invariant.0)
    (h.invariant.2 t K l n)

pub note_params_spec : {M : Type 1} → statement M
note_params_spec =
    tie.close
    (tie.spec invariant-loop-j decreases-loop-j (λ c κs. let l = known c in omega arith) (λ c κs. known c.before) loop-holds
    own-at-requires (λ c κs. search rules) cast-params (λ c. let l = small c.before.before in omega arith)
    (λ c. let l = (small c.before.before).1 in omega arith) (λ c. (small c.before.before.before).1)
    (λ c. let l = (small c.before.before.before).0 in omega arith) (λ c. omega arith) loop-again returns)
