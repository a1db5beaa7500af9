-- `defines::actions::put_parameters` meets its contract: where there is one, the first parameter and the others behind
-- it are put one behind another.
use native.Mathlib.Omega.{arith}
use Prim.Native.Nat.{ℕ, ◌-◌}
use mathlib.Core.Path.{◌≡◌, sym, ◌∙◌, ap}
use mathlib.Core.List.{List, ◌++◌}
use Rattle.words.specs.Lists.{up_from}
use Rattle.words.proofs.Puts.{puts_none, puts-same, Going, going_start, going-left, going-room, going_on, last-room}
use Rattle.words.proofs.Puts.{going-last}
use Rattle.text.specs.Lines.{bytes}
use Rattle.defines.specs.Pddl.{parameter}
use Rattle.defines.specs.ByWords.{marked}
use Rattle.defines.proofs.AtomItems.{no-neighbours}
use Rattle.defines.proofs.Frames.{parameters, first-parameter}
use borrow.Author.Rules.{rules}
use Rattle.defines.proofs.actions.put_parameters.Statement.{statement}
use Rattle.defines.proofs.actions.put_parameters.Tie as tie

abbrev others : tie.Start → List ℕ
others c = marked (bytes " ?x") (up_from 1 (c.args.params - 1))

-- what is still to come of the parameters, in a text and from a place on
abbrev Left : tie.Start → List ℕ → List ℕ → ℕ → Type 0
Left c left text next = Going c.args.text.now c.args.at (parameters c.args.params) left text next

begin : (c : tie.Start) → (c.args.params ≡ 0 → ⊥) →
    Left c (bytes "?x0" ++ others c) c.args.text.now c.args.at
begin c some = going-left (first-parameter c.args.params (omega arith)) (going_start c.requires)

returns : tie.Need-returns-then-params-eq0
returns c =
    let start = c in
    puts-same (sym (ap parameters c.if-params-eq0.true ∙ no-neighbours parameter))
    (puts_none start.args.text.now start.args.at)

put-bytes-requires : tie.Need-put_bytes-at_second-requires
unfolding bytes
put-bytes-requires c κs =
    let start = c in
    going-room (bytes "?x0") (others start.before.before.before.before.before) (begin start.before.before.before.before.before c.if-params-eq0.false)

abbrev start : tie.After-slice_known-2-1 → tie.Start
start c = c.before.before.before.before.before.before.before.before

behind-first : (c : tie.After-slice_known-2-1) →
    Left (start c) (others (start c)) c.put_bytes-at_second.new.text c.put_bytes-at_second.result
unfolding bytes
behind-first c =
    going_on {ys = bytes "?x0"} (begin (start c) c.if-params-eq0.false)
    c.put_bytes-at_second.ensures

put-numbered-requires : tie.Need-put_numbered-requires
unfolding bytes
put-numbered-requires c κs = last-room (behind-first c.before.before.before)

returns-2 : tie.Need-returns
unfolding bytes
returns-2 c =
    going-last (behind-first c.before.before.before.before.before.before) c.put_numbered.ensures

pub put_parameters_spec : {M : Type 1} → statement M
put_parameters_spec =
    tie.close
    (tie.spec returns put-bytes-requires put-numbered-requires (λ c. search rules) returns-2)
