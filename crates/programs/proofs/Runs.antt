-- What a program writes whose input's bytes are known, when nothing fails.
use Rattle.std.proofs.Common.{ℕ, ◌≡◌, List, length, take, IfSome, OnOk, Option, Result, Some, None, Ok, Err, ◌∙◌, ap, subst, arith}
use Rattle.std.specs.Io.KnownBytes.{Appends}
use Rattle.std.proofs.lemmas.Grind.{common_steps}
use Rattle.words.specs.Lists.{over}
use Rattle.programs.specs.Programs.{taken, split_program, pddl_program, propose_program}
use Rattle.programs.proofs.TakenRead.{taken-twice}

-- the front of the bytes that a text was printed over is the text
pub printed-text : (text lent : List ℕ) {after : List ℕ} {n : ℕ} → after ≡ over text lent → n ≡ length text →
    take n after ≡ text
unfolding over
printed-text text lent e h = grind (arith, common_steps)

-- ---- a program's answer hangs on what is taken alone
pub split-of-taken : (input : List ℕ) → split_program (taken input) ≡ split_program input
unfolding split_program
split-of-taken input = let e = taken-twice input in grind arith

pub pddl-of-taken : (input : List ℕ) → pddl_program (taken input) ≡ pddl_program input
unfolding pddl_program
pddl-of-taken input = let e = taken-twice input in grind arith

pub propose-of-taken : (argument input : List ℕ) →
    propose_program argument (taken input) ≡ propose_program argument input
unfolding propose_program
propose-of-taken argument input = let e = taken-twice input in grind arith

-- what was printed of a text that was taken of an input is written
pub written-of : {T E : Type 0} (program : List ℕ → List ℕ) → ((input : List ℕ) → program (taken input) ≡ program input) →
    (known held after : Option (List ℕ)) (r : Result T E) (text printed : List ℕ) →
    IfSome known (λ input. text ≡ taken input) → printed ≡ program text → OnOk r (Appends held after printed) →
    OnOk r (IfSome known (λ input. Appends held after (program input)))
written-of program same known held after (Err e) text printed read p w = w
written-of program same None held after (Ok x) text printed read p w = read
written-of program same (Some input) held after (Ok x) text printed read p w =
    subst (Appends held after) (p ∙ ap program read ∙ same input) w
