-- One step's turn: from the tests on its spans to whether it applies and its next state fits, and the state that it
-- leaves.
use Prim.Native.Nat.{ℕ, suc, ◌+◌, ◌-◌, ◌*◌, ◌≤◌}
use mathlib.Core.Path.{◌≡◌, sym, ◌∙◌, ap}
use mathlib.Core.Bool.{Bool, true}
use mathlib.Core.List.{List}
use native.Mathlib.Omega.{arith}
use lib.ListN.{length, get_or}
use lib.Dec.{leb}
use borrow.Author.Tests.{leb-true}
use Rattle.words.specs.Lists.{all}
use Rattle.task.specs.Limits.{step_size, most_atoms}
use Rattle.task.specs.Task.{Fact}
use Rattle.task.specs.Table.{task_of, is_table}
use Rattle.task.specs.Run.{holds, insert_all, remove_all, step_at, is_step_at, state_in, is_state, applies, next}
use Rattle.task.specs.Records.{Keeps}
use Rattle.task.specs.declared.spans.Spans.{Spans}
use Rattle.task.specs.Spans.{ground_from, span, SpanOf, NumbersOf, UnderWay, exchanged}
use Rattle.task.specs.Turns.{first_atom, RoleEnds}
use Rattle.task.proofs.Tables.{of-table}
use Rattle.task.proofs.GroundWords.{ground-args-fit, span-atom}
use Rattle.task.proofs.StepSpans.{own-atoms, own-few, step-applies, step-next}

-- step i of the task, with the atoms of its schema parted by role
pub record Parted (w steps : List ℕ) (i start end add del : ℕ) : Type 0 where
  pub tabled : is_table w ≡ true
  pub stepped : is_step_at (task_of w) steps i ≡ true
  pub starts : start ≡ first_atom (task_of w) (get_or steps (step_size * i) 0)
  pub ends : end ≡ first_atom (task_of w) (suc (get_or steps (step_size * i) 0))
  pub adds : RoleEnds w start end 0 add
  pub deletes : RoleEnds w add end 1 del

pub parting : {w steps : List ℕ} {i start end add del : ℕ} → is_table w ≡ true →
    is_step_at (task_of w) steps i ≡ true → start ≡ first_atom (task_of w) (get_or steps (step_size * i) 0) →
    end ≡ first_atom (task_of w) (suc (get_or steps (step_size * i) 0)) → RoleEnds w start end 0 add →
    RoleEnds w add end 1 del → Parted w steps i start end add del
parting h st s e a d = record { tabled = h; stepped = st; starts = s; ends = e; adds = a; deletes = d }

-- the same, counted from its first atom
abbrev pub parts : ℕ → ℕ → ℕ → ℕ → Spans
parts start add del end = record { adds = add - start; deletes = del - start; end = end - start }

module _ {w steps : List ℕ} {i start end add del : ℕ} (p : Parted w steps i start end add del) where
  abbrev g : ℕ → Fact
  g = ground_from w steps i start

  abbrev spans : Spans
  spans = parts start add del end

  pub all-atoms : SpanOf w steps i start end
  all-atoms = own-atoms w steps i p.tabled p.stepped start end add del p.starts p.ends p.adds
      p.deletes

  pub few-atoms : end - start ≤ most_atoms
  few-atoms = own-few w steps i p.tabled p.stepped start end add del p.starts p.ends p.adds p.deletes

  pub way_of : {numbers state : List ℕ} {n : ℕ} → NumbersOf g (end - start) numbers →
      is_state (task_of w) state n ≡ true → UnderWay (task_of w) g spans numbers state n
  unfolding ground_from
  way_of e h = record {
    task = (of-table w p.tabled).0;
    adds = let a = p.adds.from in let d = p.deletes.from in omega arith;
    deletes = let d = p.deletes.within in omega arith;
    few = few-atoms;
    fit = λ k l. ground-args-fit w steps i (start + k)
        (span-atom w steps i start end all-atoms (start + k) (omega arith) (omega arith));
    number = e;
    state_is = h;
  }

  pub applies-so : (s : List Fact) {r b : Bool} → r ≡ all (holds s) (span g 0 (add - start)) → r ≡ b →
      applies (task_of w) s (step_at (task_of w) steps i) ≡ b
  applies-so s e q =
      step-applies w steps i p.tabled p.stepped start end add del p.starts p.ends p.adds p.deletes
      s ∙ (sym e ∙ q)

  next-is : (s : List Fact) → next (task_of w) s (step_at (task_of w) steps i) ≡
      insert_all (span g (add - start) (del - start)) (remove_all (span g (del - start) (end - start)) s)
  next-is s = step-next w steps i p.tabled p.stepped start end add del p.starts p.ends p.adds
      p.deletes s

  module _ (state : List ℕ) (n : ℕ) where
    abbrev after : List Fact
    after = exchanged (task_of w) g spans state n

    abbrev following : List Fact
    following = next (task_of w) (state_in (task_of w) state n) (step_at (task_of w) steps i)

    pub fits-so : (room : ℕ) {r b : Bool} → r ≡ leb (length after) room → r ≡ b → leb (length following) room ≡ b
    fits-so room e q = ap (λ (x : List Fact). leb (length x) room) (next-is (state_in (task_of w) state n)) ∙ (sym e ∙ q)

    pub room-enough : (room : ℕ) {r : Bool} → r ≡ leb (length after) room → r ≡ true → length after ≤ room
    room-enough room e q = leb-true (length after) room (sym e ∙ q)

    pub next-kept : (out : List ℕ) (m : ℕ) → Keeps (task_of w) out m after → Keeps (task_of w) out m following
    next-kept out m b = record {
      state = b.state;
      facts = b.facts ∙ sym (next-is (state_in (task_of w) state n));
    }
