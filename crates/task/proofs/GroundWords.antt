-- Atoms of a table with the objects of a step, word by word: that a parameter's object is a word of the step, and the
-- number that four arguments give, unused ones as 0.
use Prim.Native.Nat.{ℕ, ◌+◌, ◌-◌, ◌*◌, ◌≤◌, ◌<◌}
use mathlib.Core.Path.{◌≡◌, refl, sym, ◌∙◌, ap, subst}
use mathlib.Core.Bool.{Bool, true, false, cond, ◌&&◌}
use mathlib.Core.List.{List, [], ◌∷◌, map}
use native.Mathlib.Omega.{arith}
use native.Mathlib.Decide.{dec_lt}
use lib.ListN.{length, get_or, set, length-map, get_or-eq_default}
use lib.Seq.{get_or-set_same, get_or-set_other}
use lib.Dec.{ltb, leb}
use borrow.Author.Tests.{leb-true, ltb-true, lt-ltb, le-ltb}
use Rattle.words.specs.Lists.{padded, eq_list}
use Rattle.task.specs.Limits.{head_words, step_size}
use Rattle.task.specs.Layout.{head_in, atom_total, arity_in, atom_base}
use Rattle.task.specs.Task.{Fact, Task, args_fit, schema_fits, no_schema}
use Rattle.words.specs.Words.{words_at}
use Rattle.task.specs.Table.{atom_in, schema_number_in, fact_in, task_of, is_table}
use Rattle.task.specs.Run.{Step, schema_at, ground, is_step, param_count, step_in, step_at, step_words, is_step_at}
use Rattle.task.specs.Records.{in_base, record_number}
use Rattle.task.specs.Spans.{ground_at, ground_from, argument_in, AtomOf, SpanOf, NumbersOf}
use Rattle.words.proofs.Lists.{and_left, and_right, In, all_in, in-eq, in-get_or, get_or-map, get_or-mapped}
use Rattle.task.proofs.Tests.{schema-tests, task-tests}
use Rattle.task.proofs.States.{Fits, fitting-args_fit, IsStep, is_step-is, WellFormed, well_formed-is, ground-fits}
use Rattle.task.proofs.AtomsStand.{no_atom}
use Rattle.task.proofs.Tables.{start_of, of-table}
use Rattle.task.proofs.TablesByIndex.{table-frame, start-suc, atom-at, atom-lies}
use Rattle.task.proofs.TablesPass.{table-words}
use Rattle.task.proofs.TableReads.{table-roomy}
use Rattle.words.proofs.Words.{length-words_at}

-- the words of step i
pub record StepWords (t : Task) (steps : List ℕ) (i : ℕ) : Type 0 where
  pub inside : step_size * i + step_size ≤ length steps
  pub is : IsStep t (step_at t steps i)

pub step-words : (t : Task) (steps : List ℕ) (i : ℕ) → is_step_at t steps i ≡ true → StepWords t steps i
unfolding is_step_at
step-words t steps i h =
    let a = leb (step_size * i + step_size) (length steps) in
    let b = is_step t (step_at t steps i) in
    let c = eq_list (words_at steps (step_size * i) step_size) (step_words (step_at t steps i)) in
    record {
      inside = leb-true (step_size * i + step_size) (length steps) (and_left a _ h);
      is = is_step-is t (step_at t steps i) (and_left b c (and_right a (b && c) h));
    }

pub step-schema : (t : Task) (steps : List ℕ) (i : ℕ) → (step_at t steps i).schema ≡ get_or steps (step_size * i) 0
unfolding step_at step_in
step-schema t steps i = refl

pub step-object : (t : Task) (steps : List ℕ) (i p : ℕ) → p < length (step_at t steps i).objects →
    get_or (step_at t steps i).objects p 0 ≡ get_or steps (step_size * i + 1 + p) 0
unfolding step_at step_in words_at
step-object t steps i p l =
    let n = param_count t (get_or steps (step_size * i) 0) in
    let e = length-words_at steps (step_size * i + 1) n in
    get_or-mapped (λ k. get_or steps k 0) (step_size * i + 1) n p 0 (omega arith)

-- ---- atoms of a schema
pub atom-in-schema : (w : List ℕ) → is_table w ≡ true → (k : ℕ) → k < (head_in w).schema_atoms →
    In (atom_in w k) (schema_at (task_of w) (schema_number_in w k)).atoms
atom-in-schema w h k l =
    let fr = table-frame w h in
    let t = task_of w in
    let m = schema_number_in w k in
    let c = atom-lies w fr k l in
    let a = c.from_start in
    let b = c.before-next in
    let e = start-suc w fr m c.known in
    let j : ℕ = k - start_of t m in
    let z : start_of t m + j ≡ k = omega arith in
    let q : j < length (schema_at t m).atoms = omega arith in
    in-eq (ap (atom_in w) (sym z) ∙ atom-at w fr m j c.known q) (in-get_or (schema_at t m).atoms j no_atom q)

-- ---- four arguments
padded-four : (xs : List ℕ) → length xs ≤ 4 → padded 4 xs ≡ get_or xs 0 0 ∷ get_or xs 1 0 ∷ get_or xs 2 0 ∷ get_or xs 3 0 ∷ []
unfolding padded
padded-four [] l = refl
padded-four (a ∷ []) l = refl
padded-four (a ∷ b ∷ []) l = refl
padded-four (a ∷ b ∷ c ∷ []) l = refl
padded-four (a ∷ b ∷ c ∷ d ∷ []) l = refl
padded-four (a ∷ b ∷ c ∷ d ∷ e ∷ xs) l = absurd (omega arith)

pub number-four : (f : Fact) → length f.args ≤ 4 →
    record_number f ≡ in_base f.pred
    (get_or f.args 0 0 ∷ get_or f.args 1 0 ∷ get_or f.args 2 0 ∷ get_or f.args 3 0 ∷ [])
unfolding record_number
number-four f l = ap (in_base f.pred) (padded-four f.args l)

mapped_at : (g : ℕ → ℕ) (w : List ℕ) (a n j : ℕ) →
    get_or (map g (words_at w a n)) j 0 ≡ cond (ltb j n) (g (get_or w (a + j) 0)) 0
unfolding words_at
mapped_at g w a n j = elim (dec_lt j n) [
  | yes l ↦
      let e = length-words_at w a n in
      get_or-map g (words_at w a n) j 0 0 (omega arith) ∙
      (ap g (get_or-mapped (λ k. get_or w k 0) a n j 0 l) ∙
      ap (λ (b : Bool). cond b (g (get_or w (a + j) 0)) 0) (sym (lt-ltb j n l)))
  | no l ↦
      let e = length-words_at w a n in
      let z = length-map (words_at w a n) g in
      get_or-eq_default (map g (words_at w a n)) 0 (omega arith) ∙
      ap (λ (b : Bool). cond b (g (get_or w (a + j) 0)) 0) (sym (le-ltb j n (omega arith)))
]

-- ---- an atom of a step's schema, with the step's objects
module _ (w steps : List ℕ) (i k : ℕ) (o : AtomOf w steps i k) where
  abbrev t : Task
  t = task_of w

  abbrev x : Step
  x = step_at t steps i

  abbrev b : ℕ
  b = atom_base w k

  abbrev arity : ℕ
  arity = arity_in w (get_or w (b + 2) 0)

  own-atom : In (atom_in w k) (schema_at t x.schema).atoms
  own-atom = subst (λ (m : ℕ). In (atom_in w k) (schema_at t m).atoms) (o.own ∙ sym (step-schema t steps i))
      (atom-in-schema w o.tabled k o.known)

  is-step : IsStep t x
  is-step = (step-words t steps i o.stepped).is

  formed : WellFormed t
  formed = well_formed-is t (of-table w o.tabled).0

  ground-at-fits : Fits t (ground_at w steps i k)
  unfolding ground_at
  ground-at-fits = ground-fits t x formed is-step (atom_in w k) own-atom

  pub ground-args-fit : args_fit t.arities t.objects (ground_at w steps i k).pred (ground_at w steps i k).args ≡
      true
  ground-args-fit = fitting-args_fit t.objects t.arities (ground_at w steps i k).pred (ground_at w steps i k).args
      ground-at-fits

  pred-inside : head_words + get_or w (b + 2) 0 < length w
  unfolding atom_in
  pred-inside =
      let h = (table-words w o.tabled).known k (let z = o.known in omega arith) in
      let l = (table-roomy w o.tabled).inside in
      omega arith

  arity-short : arity ≤ 4
  unfolding atom_in
  arity-short = (table-words w o.tabled).arity (get_or w (b + 2) 0)
      ((table-words w o.tabled).known k (let z = o.known in omega arith))

  parameter-small : (j : ℕ) → j < arity → get_or w (b + 4 + j) 0 < length x.objects
  unfolding atom_in words_at
  parameter-small j l =
      let f = (formed.schema x.schema is-step.known).fit (atom_in w k) own-atom in
      let c = is-step.count in
      let n = length-words_at w (b + 4) arity in
      let e : get_or (atom_in w k).args j 0 ≡ get_or w (b + 4 + j) 0 = get_or-mapped (λ k. get_or w k 0) (b + 4) arity j 0 l in
      let z = f.small (get_or (atom_in w k).args j 0) (in-get_or (atom_in w k).args j 0 (omega arith)) in
      omega arith

  params-few : length x.objects ≤ 12
  unfolding schema_at
  params-few =
      let c = task-tests t (of-table w o.tabled).0 in
      let s = get_or t.schemas x.schema no_schema in
      let q = schema-tests t.arities s
      (all_in (schema_fits t.arities) c.fit (in-get_or t.schemas x.schema no_schema is-step.known)) in
      let l = leb-true s.params 12 q.params in
      let e = is-step.count in
      omega arith

  pub argument-inside : (j q : ℕ) → q ≡ b + 4 + j → ltb j arity ≡ true → step_size * i + 1 + get_or w q 0 < length steps
  argument-inside j q e l =
      let m = parameter-small j (ltb-true j arity l) in
      let n = params-few in
      let s = (step-words t steps i o.stepped).inside in
      let z = ap (λ (y : ℕ). get_or w y 0) e in
      omega arith

  argument_is : (j q : ℕ) → b + 4 + j ≡ q →
      get_or (ground_at w steps i k).args j 0 ≡ argument_in (ltb j arity) steps i (get_or w q 0)
  unfolding ground_at ground atom_in argument_in
  argument_is j q e =
      mapped_at (λ y. get_or x.objects y 0) w (b + 4) arity j ∙
      (ap (λ (y : ℕ). cond (ltb j arity) (get_or x.objects (get_or w y 0) 0) 0) e ∙ go (ltb j arity) refl)
    where
      go : (u : Bool) → ltb j arity ≡ u →
          cond u (get_or x.objects (get_or w q 0) 0) 0 ≡ argument_in u steps i (get_or w q 0)
      go true h =
          let m = parameter-small j (ltb-true j arity h) in
          let z = ap (λ (y : ℕ). get_or w y 0) e in
          step-object t steps i (get_or w q 0) (omega arith)
      go false h = refl

  pub ground-number : record_number (ground_at w steps i k) ≡ in_base (get_or w (b + 2) 0)
      (argument_in (ltb 0 arity) steps i (get_or w (b + 4) 0) ∷
      argument_in (ltb 1 arity) steps i (get_or w (b + 4 + 1) 0) ∷
      argument_in (ltb 2 arity) steps i (get_or w (b + 4 + 2) 0) ∷
      argument_in (ltb 3 arity) steps i (get_or w (b + 4 + 3) 0) ∷ [])
  unfolding ground_at ground atom_in
  ground-number =
      let f : Fact = ground_at w steps i k in
      let m = length-map (words_at w (b + 4) arity) (λ y. get_or x.objects y 0) in
      let n = length-words_at w (b + 4) arity in
      let s = arity-short in
      let e₀ = argument_is 0 (b + 4) (omega arith) in
      let e₁ = argument_is 1 (b + 4 + 1) (omega arith) in
      let e₂ = argument_is 2 (b + 4 + 2) (omega arith) in
      let e₃ = argument_is 3 (b + 4 + 3) (omega arith) in
      let e = number-four f (omega arith) in
      cc

  pub read-pred : (at p : ℕ) → at ≡ b → p ≡ get_or w (at + 2) 0 → head_words + p < length w
  read-pred at p ea ep = let e : p ≡ get_or w (b + 2) 0 = cc in let l = pred-inside in omega arith

  -- with names for what the code reads
  module _ (at p ar : ℕ) (ea : at ≡ b) (ep : p ≡ get_or w (at + 2) 0) (er : ar ≡ arity_in w p) where
    arity-read : ar ≡ arity
    arity-read = cc

    pub read-inside : (j q : ℕ) → q ≡ at + 4 + j → ltb j ar ≡ true → step_size * i + 1 + get_or w q 0 < length steps
    read-inside j q e l = argument-inside j q (omega arith) (ap (ltb j) (sym arity-read) ∙ l)

    pub read_number : (a₀ a₁ a₂ a₃ r : ℕ) → a₀ ≡ argument_in (ltb 0 ar) steps i (get_or w (at + 4) 0) →
        a₁ ≡ argument_in (ltb 1 ar) steps i (get_or w (at + 4 + 1) 0) →
        a₂ ≡ argument_in (ltb 2 ar) steps i (get_or w (at + 4 + 2) 0) →
        a₃ ≡ argument_in (ltb 3 ar) steps i (get_or w (at + 4 + 3) 0) → r ≡ in_base p (a₀ ∷ a₁ ∷ a₂ ∷ a₃ ∷ []) →
        r ≡ record_number (ground_at w steps i k)
    read_number a₀ a₁ a₂ a₃ r e₀ e₁ e₂ e₃ e = let z = arity-read in let n = ground-number in cc

-- ---- initial and goal atoms
fact-argument : (w : List ℕ) → is_table w ≡ true → (k : ℕ) → k < atom_total w → (j : ℕ) → j < 4 →
    get_or (fact_in w k).args j 0 ≡ get_or w (atom_base w k + 4 + j) 0
unfolding fact_in atom_in words_at
fact-argument w h k l j m = elim (dec_lt j arity) [
  | yes x ↦ get_or-mapped (λ k. get_or w k 0) (b + 4) arity j 0 x
  | no x ↦
      let n = length-words_at w (b + 4) arity in
      get_or-eq_default (words_at w (b + 4) arity) 0 (omega arith) ∙
      sym ((table-words w h).unused k j l (omega arith) m)
]
  where
    b : ℕ
    b = atom_base w k

    arity : ℕ
    arity = arity_in w (get_or w (b + 2) 0)

pub fact-read : (w : List ℕ) → is_table w ≡ true → (k : ℕ) → k < atom_total w → (at : ℕ) →
    at ≡ atom_base w k →
    record_number (fact_in w k) ≡ in_base (get_or w (at + 2) 0)
    (get_or w (at + 4) 0 ∷ get_or w (at + 4 + 1) 0 ∷ get_or w (at + 4 + 2) 0 ∷ get_or w (at + 4 + 3) 0 ∷ [])
unfolding fact_in atom_in
fact-read w h k l at e =
    let c = table-words w h in
    let n = length-words_at w (atom_base w k + 4) (arity_in w (get_or w (atom_base w k + 2) 0)) in
    let s = c.arity (get_or w (atom_base w k + 2) 0) (c.known k l) in
    let four = number-four (fact_in w k) (omega arith) in
    let p = ap (λ (y : ℕ). get_or w (y + 2) 0) (sym e) in
    let e₀ = fact-argument w h k l 0 (omega arith) ∙ place 0 (at + 4) (omega arith) in
    let e₁ = fact-argument w h k l 1 (omega arith) ∙ place 1 (at + 4 + 1) (omega arith) in
    let e₂ = fact-argument w h k l 2 (omega arith) ∙ place 2 (at + 4 + 2) (omega arith) in
    let e₃ = fact-argument w h k l 3 (omega arith) ∙ place 3 (at + 4 + 3) (omega arith) in
    cc
  where
    place : (j q : ℕ) → atom_base w k + 4 + j ≡ q → get_or w (atom_base w k + 4 + j) 0 ≡ get_or w q 0
    place j q z = ap (λ (y : ℕ). get_or w y 0) z

-- ---- spans
pub span-atom : (w steps : List ℕ) (i a b : ℕ) → SpanOf w steps i a b → (k : ℕ) → a ≤ k → k < b → AtomOf w steps i k
span-atom w steps i a b s k l m = record {
  tabled = s.tabled;
  stepped = s.stepped;
  known = (s.atoms k l m).0;
  own = (s.atoms k l m).1;
}

-- ---- the numbers of a schema's atoms
-- one more stands
pub numbers_more : (w steps : List ℕ) (i start k : ℕ) (numbers : List ℕ) (number : ℕ) → start ≤ k →
    k - start < length numbers → number ≡ record_number (ground_at w steps i k) →
    NumbersOf (ground_from w steps i start) (k - start) numbers →
    NumbersOf (ground_from w steps i start) (k + 1 - start) (set numbers (k - start) number)
unfolding ground_from
numbers_more w steps i start k numbers number s l e h j m = elim (dec_lt j (k - start)) [
  | yes x ↦ get_or-set_other numbers (k - start) j number 0 (λ q. omega arith) ∙ h j x
  | no x ↦
      let q : k - start ≡ j = omega arith in
      let z : k ≡ start + j = omega arith in
      ap (λ (y : ℕ). get_or (set numbers (k - start) number) y 0) (sym q) ∙
      (get_or-set_same numbers (k - start) number 0 l ∙ (e ∙ ap (λ (y : ℕ). record_number (ground_at w steps i y)) z))
]
