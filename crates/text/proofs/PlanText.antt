-- The plan's text: a plan of at most 100 choices of objects for a task's schemas is read back, what is read is such a
-- plan, and its text is what was read. Equal objects at a pair pass here: unfolding judges them.
use Prim.Native.Nat.{ℕ, ◌≤◌, ◌<◌}
use mathlib.Core.Path.{◌≡◌, refl, sym, ◌∙◌, ap, subst}
use mathlib.Core.Bool.{true}
use mathlib.Core.List.{List, [], ◌∷◌, ◌++◌, map, append_assoc, append-nil}
use Rattle.std.specs.Prelude.{Some}
use native.Mathlib.Omega.{arith}
use lib.ListN.{length, length-append}
use lib.Dec.{eqb, ltb}
use borrow.Author.Tests.{ltb-true, leb-true, eqb-true, lt-ltb}
use Rattle.words.specs.Lists.{all, concat_map}
use Rattle.task.specs.Limits.{most_objects, most_schemas}
use Rattle.task.specs.Task.{Task, well_formed}
use Rattle.task.specs.Run.{Step, is_choice}
use Rattle.words.proofs.Lists.{and_left, and_right, here, there, map-append}
use Rattle.task.proofs.Tests.{TaskTests, task-tests}
use Rattle.task.proofs.States.{is_choice-is}
use Rattle.text.specs.Lines.{newline, digits, Entry, entry_bytes, line, Taken, taken}
use Rattle.text.specs.Reading.{go_on, finish, read}
use Rattle.text.specs.Plan.{most_plan_steps, PlanKey, step, end, plan_key_name, PlanLine, step_line, end_line}
use Rattle.text.specs.Plan.{write_plan_line, read_plan_body, step_entry, plan_lines, write_plan, take_plan_line}
use Rattle.text.specs.Plan.{next_plan_line, read_plan}
use Rattle.text.proofs.NumberLists.{SmallEntry, entry-written}
use Rattle.text.proofs.Reading.{need-went, need-finished, need-met, Leads, comes-last, goes-on, Exact}
use Rattle.text.proofs.Reading.{lines-read, read-lines}
use Rattle.text.proofs.Bodies.{number-ends, BodyRead, number-line, entry-line, Allows, Bodies, lines-exact}
use Rattle.text.proofs.Growing.{all_snoc}
use Rattle.text.proofs.KeyedLines.{ended-written, apart}

-- ---- lines
pub data PlanSays : PlanKey → PlanLine → Type 0 where
  says-step : {x : Entry} → SmallEntry x → PlanSays step (step_line x)
  says-end : {n : ℕ} → n < 100000 → PlanSays end (end_line n)

unfoldable pub plan_body_of : PlanLine → List ℕ
plan_body_of (step_line x) = entry_bytes x
plan_body_of (end_line n) = digits n

pub plan-body-written : (k : PlanKey) (l : PlanLine) → PlanSays k l → (r : List ℕ) →
    read_plan_body k (plan_body_of l ++ (newline ∷ r)) ≡ taken l r
unfolding read_plan_body plan_body_of
plan-body-written k l (says-step {x = x} h) r = ended-written step_line (entry-written x h r)
plan-body-written k l (says-end {n = n} h) r = ended-written end_line (number-ends n h r)

pub plan-body-read : (k : PlanKey) (bs : List ℕ) (m : Taken PlanLine) → read_plan_body k bs ≡ Some m →
    BodyRead plan_body_of PlanSays k bs m
unfolding read_plan_body plan_body_of
plan-body-read step bs m h = entry-line plan_body_of PlanSays step bs m step_line (λ x h. says-step h) (λ x. refl) h
plan-body-read end bs m h = number-line plan_body_of PlanSays end bs m end_line (λ n h. says-end h) (λ n. refl) h

plan-line-named : (l : PlanLine) → (k : PlanKey) × (write_plan_line l ≡ line (plan_key_name k) (plan_body_of l))
unfolding write_plan_line plan_body_of
plan-line-named (step_line x) = (step, refl)
plan-line-named (end_line n) = (end, refl)

plan-line-says : (k : PlanKey) (l : PlanLine) → PlanSays k l →
    write_plan_line l ≡ line (plan_key_name k) (plan_body_of l)
unfolding write_plan_line plan_body_of
plan-line-says k l (says-step h) = refl
plan-line-says k l (says-end h) = refl

pub plan-bodies : Bodies plan_key_name read_plan_body plan_body_of write_plan_line PlanSays
plan-bodies = record {
  some_byte = plan-line-named;
  line-is = plan-line-says;
  written = plan-body-written;
  was_read = plan-body-read;
}

abbrev pub plan_keys : List Step → List PlanKey
plan_keys xs = step ∷ end ∷ []

abbrev pub PlanMay : List Step → PlanLine → Type 0
PlanMay xs l = Allows PlanSays plan_keys xs l

pub plan-exact : Exact next_plan_line PlanMay write_plan_line
unfolding next_plan_line apart plan_key_name
plan-exact = lines-exact plan-bodies plan_keys (λ xs. refl)

abbrev pub PlanLeads : Task → List Step → List PlanLine → List Step → Type 0
PlanLeads t xs ls ys = Leads (take_plan_line t) PlanMay xs ls ys

-- ---- what is written is read
pub small-choice : (t : Task) → TaskTests t → (x : Step) → is_choice t x ≡ true → SmallEntry (step_entry x)
unfolding step_entry
small-choice t c x h =
    let s = is_choice-is t x h in
    let schemas = leb-true (length t.schemas) most_schemas c.schemas in
    let objects = leb-true t.objects most_objects c.objects in
    (let k = s.known in omega arith, λ o i. let k = s.small o i in omega arith)

pub plan-leads : (t : Task) → TaskTests t → (xs ys : List Step) → length (xs ++ ys) ≤ most_plan_steps →
    all (is_choice t) ys ≡ true → PlanLeads t xs (plan_lines ys) (xs ++ ys)
unfolding take_plan_line plan_lines all step_entry
plan-leads t c xs [] few h =
    comes-last (record { key = end; listed = there (here refl); says = says-end {n = 1} (omega arith) })
    (ap finish (sym (append-nil xs)))
plan-leads t c xs (y ∷ ys) few h =
    let is-choice = and_left (is_choice t y) (all (is_choice t) ys) h in
    let room : length xs < most_plan_steps = omega (arith, length-append xs (y ∷ ys)) in
    let e : (xs ++ (y ∷ [])) ++ ys ≡ xs ++ (y ∷ ys) = append_assoc xs (y ∷ []) ys in
    let few' : length ((xs ++ (y ∷ [])) ++ ys) ≤ most_plan_steps = rw e few in
    goes-on (record { key = step; listed = here refl; says = says-step (small-choice t c y is-choice) })
    (need-met 4 (lt-ltb (length xs) most_plan_steps room) (need-met 5 is-choice refl))
    (subst (λ (zs : List Step). PlanLeads t (xs ++ (y ∷ [])) (plan_lines ys) zs) e
    (plan-leads t c (xs ++ (y ∷ [])) ys few' (and_right (is_choice t y) (all (is_choice t) ys) h)))

-- reading a written plan gives its steps
pub plan-read-written : (t : Task) → well_formed t ≡ true → (xs : List Step) → all (is_choice t) xs ≡ true →
    length xs ≤ most_plan_steps → read_plan t (write_plan xs) ≡ read xs
unfolding read_plan write_plan
plan-read-written t w xs h few =
    let lead = plan-leads t (task-tests t w) [] xs few h in
    lines-read next_plan_line (take_plan_line t) PlanMay write_plan_line plan-exact lead 1

-- ---- what is read was written
abbrev pub step_lines : List Step → List PlanLine
step_lines xs = map (λ x. step_line (step_entry x)) xs

pub record PlanFound (t : Task) (xs : List Step) (lines : List PlanLine) : Type 0 where
  pub choices : all (is_choice t) xs ≡ true
  pub few : length xs ≤ most_plan_steps
  pub are : plan_lines xs ≡ lines

module _ (t : Task) where
  pub last_line : (xs : List Step) (l : PlanLine) (ys : List Step) → take_plan_line t xs l ≡ finish ys →
      (l ≡ end_line 1) × (xs ≡ ys)
  unfolding take_plan_line
  last_line xs (step_line a) ys h =
      let x : Step = record { schema = a.head; objects = a.list } in
      let (k₁, h₁) = need-finished (ltb (length xs) most_plan_steps) 4 _ ys h in
      let (k₂, h₂) = need-finished (is_choice t x) 5 (go_on (xs ++ (x ∷ []))) ys h₁ in
      absurd (let z : ◌≡◌ {A = ℕ} 0 1 = cc in omega arith)
  last_line xs (end_line n) ys h =
      let (k, h₁) = need-finished (eqb n 1) 3 (finish xs) ys h in
      (ap end_line (eqb-true n 1 k), (let q : xs ≡ ys = cc in q))

  pub record StepTaken (xs : List Step) (l : PlanLine) (ys : List Step) : Type 0 where
    pub taken_step : Step
    pub line-is : l ≡ step_line (step_entry taken_step)
    pub room : length xs < most_plan_steps
    pub is-choice : is_choice t taken_step ≡ true
    pub grown : xs ++ (taken_step ∷ []) ≡ ys

  pub step-line : (xs : List Step) (l : PlanLine) (ys : List Step) → take_plan_line t xs l ≡ go_on ys → StepTaken xs l ys
  unfolding take_plan_line step_entry
  step-line xs (step_line a) ys h =
      let x : Step = record { schema = a.head; objects = a.list } in
      let (k₁, h₁) = need-went (ltb (length xs) most_plan_steps) 4 _ ys h in
      let (k₂, h₂) = need-went (is_choice t x) 5 (go_on (xs ++ (x ∷ []))) ys h₁ in
      record {
        taken_step = x;
        line-is = refl;
        room = ltb-true (length xs) most_plan_steps k₁;
        is-choice = k₂;
        grown = cc;
      }
  step-line xs (end_line n) ys h =
      let (k, h₁) = need-went (eqb n 1) 3 (finish xs) ys h in
      absurd (let z : ◌≡◌ {A = ℕ} 0 1 = cc in omega arith)

  pub plan-found : {xs : List Step} {ls : List PlanLine} {ys : List Step} → PlanLeads t xs ls ys →
      all (is_choice t) xs ≡ true → length xs ≤ most_plan_steps → PlanFound t ys (step_lines xs ++ ls)
  unfolding plan_lines
  plan-found {ys = ys} (comes-last {d = xs} {l = l} m h) all-choices few =
      let (e, q) = last_line xs l ys h in
      subst (λ (zs : List Step). PlanFound t zs (step_lines xs ++ (l ∷ []))) q
      (record { choices = all-choices; few = few; are = ap (λ (x : PlanLine). step_lines xs ++ (x ∷ [])) (sym e) })
  plan-found (goes-on {d = xs} {e = zs} {l = l} {ls = ls} m h w) all-choices few =
      let s = step-line xs l zs h in
      let x = s.taken_step in
      let choices : all (is_choice t) zs ≡ true =
      rw (← s.grown) (all_snoc (is_choice t) xs x all-choices s.is-choice) in
      let count : length zs ≤ most_plan_steps =
      let room = s.room in let g = ap length s.grown in omega (arith, length-append xs (x ∷ [])) in
      let f = plan-found w choices count in
      let lines : step_lines zs ≡ step_lines xs ++ (l ∷ []) =
      ap step_lines (sym s.grown) ∙ (map-append (λ x. step_line (step_entry x)) xs (x ∷ []) ∙
      ap (λ (y : PlanLine). step_lines xs ++ (y ∷ [])) (sym s.line-is)) in
      record {
        choices = f.choices;
        few = f.few;
        are = f.are ∙ (ap (λ (y : List PlanLine). y ++ ls) lines ∙ append_assoc (step_lines xs) (l ∷ []) ls);
      }

  pub plan-text-found : (bs : List ℕ) (xs : List Step) → read_plan t bs ≡ read xs →
      (all (is_choice t) xs ≡ true) × (length xs ≤ most_plan_steps) × (write_plan xs ≡ bs)
  unfolding read_plan write_plan all
  plan-text-found bs xs h =
      let r = read-lines next_plan_line (take_plan_line t) PlanMay write_plan_line plan-exact 1 [] bs xs h in
      let f = plan-found r.lead refl (omega arith) in
      (f.choices, f.few, ap (concat_map write_plan_line) f.are ∙ sym r.whole)

  -- writing a plan that was read gives the file byte for byte
  pub plan-written-read : (bs : List ℕ) (xs : List Step) → read_plan t bs ≡ read xs → write_plan xs ≡ bs
  plan-written-read bs xs h = (plan-text-found bs xs h).2

  -- what is read are choices of the task, at most 100
  pub plan-read-choices : (bs : List ℕ) (xs : List Step) → read_plan t bs ≡ read xs →
      (all (is_choice t) xs ≡ true) × (length xs ≤ most_plan_steps)
  plan-read-choices bs xs h = let f = plan-text-found bs xs h in (f.0, f.1)
