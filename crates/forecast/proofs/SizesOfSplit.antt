-- What `sizes` tells, said by what splitting and writing do, for whoever asks before a split: it refuses just where
-- splitting does, and alike; 24 stands just where splitting gives a split and a total of instances is 2 to the power 63
-- or more; else the six numbers are those of the table that splitting writes. As many bytes as told hold its text.
use Rattle.task.specs.declared.Place.TheVariants as place
use Prim.Native.Nat.{ℕ, ◌≤◌, ◌<◌}
use mathlib.Core.Path.{◌≡◌, refl, sym, ◌∙◌, ap, subst}
use mathlib.Core.Bool.{Bool, true, false}
use mathlib.Core.List.{List, [], ◌∷◌}
use mathlib.Core.Logic.{◌↔◌, ◌⊎◌, inl, inr}
use native.Mathlib.Omega.{arith}
use native.Mathlib.Decide.{dec_lt}
use lib.ListN.{length}
use borrow.Author.Tests.{le-leb}
use Rattle.task.specs.declared.Place.{Place}
use Rattle.task.specs.Answers.{Told, result, refused, told_number, told_value}
use Rattle.task.specs.Task.{Task}
use Rattle.task.specs.Table.{task_of, long_enough, is_table}
use Rattle.task.proofs.Answers.{told-by}
use Rattle.text.specs.Text.{write}
use Rattle.text.specs.Outcomes.{write_outcome}
use Rattle.text.proofs.Outcomes.{write-result}
use Rattle.tokens.specs.Split.{split_task, Splitting, circular, parted, too_large, split_as, split, split_outcome}
use Rattle.tokens.specs.Acceptance.{RefusedAs}
use Rattle.tokens.proofs.Accepted.{split-is}
use Rattle.tokens.proofs.SplitAnswers.{accepted-split}
use Rattle.tokens.proofs.SplitOutcome.{refused-short, refused-no-table, refused-nine, refused-twenty, refused-ten}
use Rattle.tokens.proofs.SplitOutcome.{split-refused, split_done}
use Rattle.forecast.specs.Forecast.{instances, instance_limit, sizes_outcome}
use Rattle.forecast.proofs.Outcome.{sizes-refused, sizes-too-many, sizes-told, six_sizes}
use Rattle.forecast.proofs.Outcome.{sizes-are}

-- ---- what splitting finds of a table
module _ (table : List ℕ) where
  abbrev t : Task
  t = task_of table

  -- a refusal, none of which is 24, or a split
  data Found : Type 0 where
    turned-back : {n : ℕ} {at : Place} → n < 24 → RefusedAs table n at → Found
    given : long_enough table ≡ true → is_table table ≡ true → split t ≡ split_as (split_task t) → Found

  found : Found
  found = go (long_enough table) (is_table table) (split t) refl refl refl
    where
      go : (b c : Bool) (r : Splitting) → long_enough table ≡ b → is_table table ≡ c → split t ≡ r → Found
      go false c r l i e = turned-back {n = 1} (omega arith) (refused-short table l)
      go true false r l i e = turned-back {n = 2} (omega arith) (refused-no-table table l i)
      go true true (circular s) l i e = turned-back {n = 9} (omega arith) (refused-nine table l i e)
      go true true (parted s) l i e = turned-back {n = 20} (omega arith) (refused-twenty table l i e)
      go true true too_large l i e = turned-back {n = 10} (omega arith) (refused-ten table l i e)
      go true true (split_as u) l i e = given l i (e ∙ ap split_as (split-is t u e))

  -- either total of instances reaches the limit
  abbrev Many : Task → Type 0
  Many u = (instance_limit ≤ instances t) ⊎ (instance_limit ≤ instances u)

no_result : {vs : List ℕ} {n : ℕ} {at : Place} → result vs ≡ refused n at [] → ⊥
no_result e = let z : ◌≡◌ {A = ℕ} 0 1 = cc in omega arith

-- where splitting gives a split, a refusal is 24, and a total reaches the limit
by-many : (table : List ℕ) → long_enough table ≡ true → is_table table ≡ true →
    split (task_of table) ≡ split_as (split_task (task_of table)) → {n : ℕ} {at : Place} →
    (sizes_outcome table).told ≡ refused n at [] → (n ≡ 24) × Many table (split_task (task_of table))
by-many table l i s {n} {at} e = elim (dec_lt (instances t) instance_limit) [
  | no m ↦ many (inl (omega arith))
  | yes m ↦ elim (dec_lt (instances (split_task t)) instance_limit) [
    | no k ↦ many (inr (omega arith))
    | yes k ↦ absurd (no_result (sym (told-by (sizes-told table l i s m k)) ∙ e))
  ]
]
  where
    t : Task
    t = task_of table

    many : Many table (split_task t) → (n ≡ 24) × Many table (split_task t)
    many m = (ap told_number (sym e ∙ told-by (sizes-too-many table l i s m)), m)

-- ---- what is told
module _ (table out : List ℕ) where
  abbrev asked : Told
  asked = (sizes_outcome table).told

  abbrev splitting : Told
  splitting = (split_outcome table out).told

  -- the task of the table that splitting writes
  abbrev pub written_task : Task
  written_task = task_of (split_outcome table out).buffer

  -- "The instances before are the task's; all else equals the split's": of a task whose split is written, and with
  -- fewer instances before and after than the limit, the six numbers told are those of the table written
  pub sizes-of-split : splitting ≡ result [] →
      instances (task_of table) < instance_limit → instances written_task < instance_limit →
      asked ≡ result (six_sizes (task_of table) written_task)
  sizes-of-split h =
      let A = accepted-split table out (ap told_number h) in
      let t = task_of table in
      subst (λ (u : Task). instances t < instance_limit → instances u < instance_limit → asked ≡ result (six_sizes t u))
      (sym (split-is t written_task A.accepted))
      (λ l m. told-by (sizes-told table A.long A.is-table A.accepted l m) ∙ ap result (sizes-are t))

  -- so that as many bytes as told hold the text of that table, and writing it answers just as many
  pub enough-bytes : splitting ≡ result [] →
      instances (task_of table) < instance_limit → instances written_task < instance_limit →
      (text : List ℕ) → told_value 3 asked ≤ length text →
      (write_outcome (split_outcome table out).buffer text).told ≡ result (told_value 3 asked ∷ [])
  enough-bytes h l m text room =
      let A = accepted-split table out (ap told_number h) in
      let e : told_value 3 asked ≡ length (write written_task) = ap (told_value 3) (sizes-of-split h l m) in
      told-by (write-result (split_outcome table out).buffer text A.split-long A.split-table
      (le-leb (length (write written_task)) (length text) (omega arith))) ∙
      ap (λ (n : ℕ). result (n ∷ [])) (sym e)

  module _ (long : long_enough out ≡ true) where
    -- "Refused as splitting would": any number but 24 and any place stand just where splitting that table into one that
    -- is long enough answers them
    pub refused-as-splitting : {n : ℕ} {at : Place} → (n ≡ 24 → ⊥) →
        (asked ≡ refused n at []) ↔ (splitting ≡ refused n at [])
    refused-as-splitting {n} {at} other = (forth (found table), back (found table))
      where
        forth : Found table → asked ≡ refused n at [] → splitting ≡ refused n at []
        forth (turned-back l h) e =
            told-by (split-refused table out long h) ∙ (sym (told-by (sizes-refused table h)) ∙ e)
        forth (given l i s) e = absurd (other (by-many table l i s e).0)

        back : Found table → splitting ≡ refused n at [] → asked ≡ refused n at []
        back (turned-back l h) e =
            told-by (sizes-refused table h) ∙ (sym (told-by (split-refused table out long h)) ∙ e)
        back (given l i s) e = absurd (no_result (sym (told-by (split_done table out long l i s)) ∙ e))

    -- "then 24, when either instance total is 2 to the power 63 or more": just where splitting gives a result, and the
    -- task or the split has as many instances
    pub too-many-exactly :
        (asked ≡ refused 24 place.Nowhere []) ↔ ((splitting ≡ result []) × Many table written_task)
    too-many-exactly = (forth (found table), back)
      where
        forth : Found table → asked ≡ refused 24 place.Nowhere [] → (splitting ≡ result []) × Many table written_task
        forth (turned-back l h) e =
            let n = ap told_number (sym (told-by (sizes-refused table h)) ∙ e) in
            absurd (omega arith)
        forth (given l i s) e =
            let done = told-by (split_done table out long l i s) in
            let A = accepted-split table out (ap told_number done) in (
              done,
              subst (Many table) (sym (split-is (task_of table) written_task A.accepted)) (by-many table l i s e).1,
            )

        back : (splitting ≡ result []) × Many table written_task → asked ≡ refused 24 place.Nowhere []
        back (done, many) =
            let A = accepted-split table out (ap told_number done) in
            told-by
            (sizes-too-many table A.long A.is-table A.accepted
            (subst (Many table) (split-is (task_of table) written_task A.accepted) many))
