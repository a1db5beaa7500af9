-- What folding's code looks up of a split and keeps while it goes over a list of split steps, and what its inner
-- functions promise, by the words that they read. No promise of an entry point cites these.
use Rattle.task.specs.declared.Place.TheVariants as place
use Rattle.task.specs.declared.refusals.Reason.TheVariants as reason
use Rattle.std.specs.Prelude.{ℕ, ◌+◌, ◌*◌, ◌/◌, ◌≤◌, ◌<◌, ◌≡◌, Bool, true, false, ◌&&◌, List, ◌∷◌, map, length, get_or, eqb}
use Rattle.std.specs.Prelude.{Option, None, Some, Result, Ok, Err}
use Rattle.words.specs.Lists.{all, up_to, eq_list}
use Rattle.words.specs.Sets.{member, members}
use Rattle.words.specs.Words.{words_at}
use Rattle.task.specs.Limits.{most_parameters, most_schemas, most_pairs, pair_size, step_size}
use Rattle.task.specs.Task.{Task, schema_pairs, well_formed}
use Rattle.task.specs.Table.{pairs_from}
use Rattle.task.specs.declared.refusals.Refusal.{Refusal}
use Rattle.task.specs.Run.{Step, schema_at, differ, param_count, step_at, is_step_at, steps_in, bad_step}
use Rattle.task.specs.StepTests.{limits_for}
use Rattle.tokens.specs.Split.{orders, split_task, first_of}
use Rattle.tokens.specs.Kept.{kept_count, kept_own}
use Rattle.blocks.specs.Blocks.{part_step, beginner, Folding, folded, misfit, fold_steps}
use Rattle.blocks.specs.Unfolding.{BlocksKept}

-- ---- which block a split step begins
-- as a word: the schema's number and one, 0 for none
unfoldable pub begun_word : Option ℕ → ℕ
begun_word None = 0
begun_word (Some s) = s + 1

-- for each number, one of a schema of the split or not
pub record BeginsKept (t : Task) (begins : List ℕ) : Type 0 where
  pub long : length begins ≡ most_schemas
  pub word : (k : ℕ) → get_or begins k 0 ≡ begun_word (beginner t k (up_to (length t.schemas)))

-- ---- how many parameters the first n schemas of the split have
pub record ParamsNoted (t : Task) (n : ℕ) (params : List ℕ) : Type 0 where
  pub long : length params ≡ most_schemas
  pub count : (k : ℕ) → k < n → get_or params k 0 ≡ param_count (split_task t) k

-- ---- the pairs that the split's schemas carry
-- how many there are, then a row for each, and the words for them
abbrev pub carried_rows : Task → List ℕ
carried_rows t = schema_pairs (split_task t).schemas ∷ pairs_from 0 (split_task t).schemas

abbrev pub carried_room : ℕ
carried_room = 1 + pair_size * most_pairs

pub record PairsNoted (t : Task) (pairs : List ℕ) : Type 0 where
  pub long : length pairs ≡ carried_room
  pub rows : words_at pairs 0 (length (carried_rows t)) ≡ carried_rows t

-- ---- where a block gives its objects
-- where the origin of parameter p of schema s stands among all, and how many there are
abbrev pub origin_place : ℕ → ℕ → ℕ
origin_place s p = most_parameters * s + p

abbrev pub origin_words : ℕ
origin_words = most_parameters * most_schemas

-- the word of a block at which the part at position j gives the object of p, one of its parameters
abbrev pub word_in : ℕ → ℕ → ℕ → ℕ
word_in own j p = step_size * j + 1 + length (members own p)

-- no part of schema s from position j on has parameter p before that at position i
abbrev pub NoneBefore : List ℕ → ℕ → ℕ → ℕ → ℕ → Type 0
NoneBefore kept s p j i = (k : ℕ) → j ≤ k → k < i → member (kept_own kept s k) p ≡ false

-- for each parameter of the first n schemas: the word at which the first part that has it gives its object
pub record OriginsKept (kept : List ℕ) (n : ℕ) (origins : List ℕ) : Type 0 where
  pub first : (s p i : ℕ) → s < n → p < most_parameters → i < kept_count kept s →
      member (kept_own kept s i) p ≡ true → NoneBefore kept s p 0 i →
      get_or origins (origin_place s p) 0 ≡ word_in (kept_own kept s i) i p

-- once the parameters below n of the part at position j of schema s are noted
pub record PartNoted (own s j n : ℕ) (before after : List ℕ) : Type 0 where
  pub long : length after ≡ length before
  pub here : (p : ℕ) → p < n → member own p ≡ true → get_or after (origin_place s p) 0 ≡ word_in own j p
  pub stays : (k : ℕ) → ((p : ℕ) → p < n → member own p ≡ true → k ≡ origin_place s p → ⊥) →
      get_or after k 0 ≡ get_or before k 0

-- once those of its parts from position j on are
pub record PartsNoted (kept : List ℕ) (s j : ℕ) (before after : List ℕ) : Type 0 where
  pub long : length after ≡ length before
  pub first : (p i : ℕ) → p < most_parameters → j ≤ i → i < kept_count kept s →
      member (kept_own kept s i) p ≡ true → NoneBefore kept s p j i →
      get_or after (origin_place s p) 0 ≡ word_in (kept_own kept s i) i p
  pub stays : (k : ℕ) → k < origin_place s 0 → get_or after k 0 ≡ get_or before k 0

-- once the parameters below n of a part of schema s are noted by its number in the split: the part's own begin with 0
pub record PartPlaced (own s number n : ℕ) (origins before after : List ℕ) : Type 0 where
  pub long : length after ≡ length before
  pub here : (p : ℕ) → p < n → member own p ≡ true →
      get_or after (origin_place number (length (members own p))) 0 ≡ get_or origins (origin_place s p) 0
  pub stays : (k : ℕ) → k < origin_place number 0 → get_or after k 0 ≡ get_or before k 0

-- for each parameter of the first n schemas of the split: the origin of the task's parameter that it is
pub record PlacesNoted (t : Task) (kept origins : List ℕ) (n : ℕ) (places : List ℕ) : Type 0 where
  pub here : (s j p : ℕ) → j < length (orders t s) → first_of t s + j < n → p < most_parameters →
      member (kept_own kept s j) p ≡ true →
      get_or places (origin_place (first_of t s + j) (length (members (kept_own kept s j) p))) 0 ≡
      get_or origins (origin_place s p) 0

-- ---- the step of a block
-- the object that the block which begins at a word gives for parameter p of schema s
abbrev pub object_in : List ℕ → List ℕ → ℕ → ℕ → ℕ → ℕ
object_in steps origins begin s p = get_or steps (begin + get_or origins (origin_place s p) 0) 0

-- those that it gives for parameters
abbrev pub objects_in : List ℕ → List ℕ → ℕ → ℕ → List ℕ → List ℕ
objects_in steps origins begin s ps = map (object_in steps origins begin s) ps

-- whether the step whose words begin at a place has for parameter k what the block gives for it, k being one of the
-- schema with that number in the split
abbrev pub agrees_at : List ℕ → List ℕ → ℕ → ℕ → ℕ → ℕ → Bool
agrees_at steps places begin at number k = eqb (get_or steps (at + 1 + k) 0) (object_in steps places begin number k)

-- the step of schema s, with n parameters, that it is, if it is a block of that schema
abbrev pub gathered : List ℕ → List ℕ → ℕ → ℕ → ℕ → Step
gathered steps origins begin s n = record { schema = s; objects = objects_in steps origins begin s (up_to n) }

-- that of the block which begins at split step i
abbrev pub step_from : Task → List ℕ → List ℕ → ℕ → ℕ → Step
step_from t steps origins i s = gathered steps origins (step_size * i) s (param_count t s)

-- the objects that the step whose words begin at a place gives to a set of parameters, ascending
unfoldable pub given_objects : List ℕ → ℕ → ℕ → List ℕ
given_objects steps at own = words_at steps (at + 1) (length (members own most_parameters))

-- whether what stands at position j of that block is a step of the split, and that step's part there
unfoldable pub is_part : Task → List ℕ → List ℕ → ℕ → ℕ → ℕ → Bool
unfolding is_step_at step_at part_step eq_list
is_part t steps origins i s j =
    let y = step_at (split_task t) steps (i + j) in
    let z = part_step t (step_from t steps origins i s) j in
    is_step_at (split_task t) steps (i + j) && (eqb y.schema z.schema && eq_list y.objects z.objects)

-- ---- what is known of a split
-- to tell its steps: how many schemas it has, their parameters and pairs, and the limits of a step's words
pub record StepsKnown (t : Task) (params limits pairs : List ℕ) : Type 0 where
  pub well : well_formed (split_task t) ≡ true
  pub few : first_of t (length t.schemas) ≤ most_schemas
  pub counts : ParamsNoted t (first_of t (length t.schemas)) params
  pub bounds : limits ≡ limits_for t.objects
  pub carried : PairsNoted t pairs

-- and its blocks
pub record BlocksKnown (t : Task) (kept params origins places limits pairs : List ℕ) : Type 0 where
  pub blocks : BlocksKept t kept
  pub known : StepsKnown t params limits pairs
  pub origin : OriginsKept kept (length t.schemas) origins
  pub place : PlacesNoted t kept origins (first_of t (length t.schemas)) places

-- the steps of a list before one of them are the split's
abbrev pub GoodBefore : Task → List ℕ → ℕ → Type 0
GoodBefore t steps i = (k : ℕ) → k < i → is_step_at (split_task t) steps k ≡ true

-- a list of split steps, judged by 12 against the split, with what is known of its blocks
pub record SplitStepsKept (t : Task) (steps kept begins origins : List ℕ) : Type 0 where
  pub blocks : BlocksKept t kept
  pub good : bad_step (split_task t) steps ≡ None
  pub begun : BeginsKept t begins
  pub origin : OriginsKept kept (length t.schemas) origins

-- no whole step of the list has equal objects at a pair that its schema of the split carries
abbrev pub KeepApart : Task → List ℕ → Type 0
KeepApart t steps = (i : ℕ) → step_size * i + step_size ≤ length steps → let n = get_or steps (step_size * i) 0 in
    n < first_of t (length t.schemas) →
    all (differ (words_at steps (step_size * i + 1) (param_count (split_task t) n))) (schema_at (split_task t) n).pairs ≡
    true

-- a first look at the pairs alone: the first bad step, where some has equal objects
unfoldable pub EqualTold : Task → List ℕ → Option ℕ → Type 0
EqualTold t steps (Some i) = bad_step (split_task t) steps ≡ Some i
EqualTold t steps None = KeepApart t steps

-- ---- what a list is taken apart into: so many steps, or a misfit
unfoldable pub taken_of : Folding → Result ℕ ℕ
taken_of (folded xs) = Ok (length xs)
taken_of (misfit i) = Err i

-- up to which step it was taken apart, of so many
unfoldable pub reached_by : ℕ → Result ℕ ℕ → ℕ
reached_by count (Ok n) = count
reached_by count (Err i) = i

-- the steps up to there are the split's, and if all are, the answer is right
pub record TakenTold (t : Task) (steps : List ℕ) (r : Result ℕ ℕ) : Type 0 where
  pub good : GoodBefore t steps (reached_by (length steps / step_size) r)
  pub right : bad_step (split_task t) steps ≡ None → r ≡ taken_of (fold_steps t (steps_in (split_task t) steps))

-- ---- the judgement of a list: 12 before 14
unfoldable pub judged_of : Option ℕ → Folding → Result ℕ Refusal
judged_of (Some i) f = Err (record { reason = reason.NotAStep; place = place.Step i })
judged_of None (folded xs) = Ok (length xs)
judged_of None (misfit i) = Err (record { reason = reason.Misfit; place = place.Step i })
