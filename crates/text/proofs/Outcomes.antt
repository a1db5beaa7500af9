-- The round trips of the entry points, on words and bytes: what `write` wrote of a table, `read` reads into a table of
-- the same words; and the table that `read` read from a text, `write` writes as that text.
use Prim.Native.Nat.{ℕ, ◌≤◌}
use mathlib.Core.Path.{◌≡◌, refl, ◌∙◌, ap}
use mathlib.Core.Bool.{true}
use mathlib.Core.List.{List, [], ◌∷◌}
use native.Mathlib.Omega.{arith}
use lib.ListN.{length, take}
use lib.Seq.{take_at, length-take-le}
use lib.Dec.{leb}
use borrow.Author.Tests.{le-leb}
use Rattle.words.specs.Lists.{over}
use Rattle.task.specs.Limits.{table_words}
use Rattle.task.specs.Answers.{Told, result, Outcome, refuse_unless}
use Rattle.task.specs.Task.{Task}
use Rattle.task.specs.Table.{words_of, task_of, long_enough, is_table}
use Rattle.task.proofs.Answers.{check-passes, check-passed, left_by}
use Rattle.task.proofs.Tables.{words-length, of-table}
use Rattle.task.proofs.TablesByIndex.{table_of, table-long}
use Rattle.text.specs.Reading.{Reading, read, refused_at}
use Rattle.text.specs.Text.{write, read_text}
use Rattle.text.specs.Outcomes.{read_done, read_outcome, write_outcome}
use Rattle.text.proofs.TaskWritten.{read-written}
use Rattle.text.proofs.TaskRead.{written_read, read_fits}

-- ---- lent buffers
pub take-over : (xs lent : List ℕ) (n : ℕ) → length xs ≡ n → take n (over xs lent) ≡ xs
unfolding over
take-over xs lent n h = take_at xs _ n h

-- ---- what each answers with a result
abbrev pub read_into : Task → List ℕ → Outcome (List ℕ)
read_into t table = record { told = result []; buffer = over (words_of t) table }

pub read_result : (text table : List ℕ) (t : Task) → long_enough table ≡ true → read_text text ≡ read t →
    read_outcome text table ≡ read_into t table
unfolding read_outcome
read_result text table t long h =
    check-passes 1 [] table (read_done table (read_text text)) long ∙ ap (read_done table) h

pub record ReadResult (text table : List ℕ) : Type 0 where
  pub long : long_enough table ≡ true
  pub task : Task
  pub was_read : read_text text ≡ read task

pub result-read : (text table vs : List ℕ) → (read_outcome text table).told ≡ result vs → ReadResult text table
unfolding read_outcome
result-read text table vs h =
    let (long, h₁) = check-passed (long_enough table) 1 [] table (read_done table (read_text text)) vs h in
    go long (read_text text) refl h₁
  where
    go : long_enough table ≡ true → (r : Reading Task) → read_text text ≡ r → (read_done table r).told ≡ result vs →
        ReadResult text table
    go long (read t) e k = record { long = long; task = t; was_read = e }
    go long (refused_at n l) e k = absurd (let z : ◌≡◌ {A = ℕ} 0 1 = cc in omega arith)

abbrev pub written_over : List ℕ → List ℕ → Outcome (List ℕ)
written_over bs text = record { told = result (length bs ∷ []); buffer = over bs text }

pub write-result : (table text : List ℕ) → long_enough table ≡ true → is_table table ≡ true →
    leb (length (write (task_of table))) (length text) ≡ true →
    write_outcome table text ≡ written_over (write (task_of table)) text
unfolding write_outcome
write-result table text long is-table room =
    let bs = write (task_of table) in
    let done = written_over bs text in
    let eleven = refuse_unless (leb (length bs) (length text)) 11 in
    check-passes 1 (refuse_unless (is_table table) 2 ∷ eleven ∷ []) text done long ∙
    (check-passes 2 (eleven ∷ []) text done is-table ∙ check-passes 11 [] text done room)

pub record WriteResult (table text : List ℕ) (n : ℕ) : Type 0 where
  pub long : long_enough table ≡ true
  pub is-table : is_table table ≡ true
  pub room : leb (length (write (task_of table))) (length text) ≡ true
  pub count : length (write (task_of table)) ≡ n

pub result-written : (table text : List ℕ) (n : ℕ) → (write_outcome table text).told ≡ result (n ∷ []) →
    WriteResult table text n
unfolding write_outcome
result-written table text n h =
    let bs = write (task_of table) in
    let done = written_over bs text in
    let eleven = refuse_unless (leb (length bs) (length text)) 11 in
    let two = refuse_unless (is_table table) 2 in
    let (k₁, h₁) = check-passed (long_enough table) 1 (two ∷ eleven ∷ []) text done (n ∷ []) h in
    let (k₂, h₂) = check-passed (is_table table) 2 (eleven ∷ []) text done (n ∷ []) h₁ in
    let (k₃, h₃) = check-passed (leb (length bs) (length text)) 11 [] text done (n ∷ []) h₂ in
    let e : ◌≡◌ {A = Told} (result (length bs ∷ [])) (result (n ∷ [])) = h₃ in
    record { long = k₁; is-table = k₂; room = k₃; count = cc }

-- ---- the round trips
-- what was written of a table, read into any table that is long enough, gives the words of that table
pub write_read : (table text other : List ℕ) (n : ℕ) → (write_outcome table text).told ≡ result (n ∷ []) →
    long_enough other ≡ true → read_outcome (take n (write_outcome table text).buffer) other ≡
    record { told = result []; buffer = over (take table_words table) other }
write_read table text other n h long =
    let w = result-written table text n h in
    let t = task_of table in
    let bs = write t in
    let (fits, words) = of-table table w.is-table in
    let written = left_by (write-result table text w.long w.is-table w.room) in
    let bytes : take n (write_outcome table text).buffer ≡ bs = ap (take n) written ∙ take-over bs text n w.count in
    ap (λ (x : List ℕ). read_outcome x other) bytes ∙
    (read_result bs other t long (read-written t fits) ∙
    ap (λ (ws : List ℕ). record { told = result []; buffer = over ws other }) words)

-- .. so the first 14,007 words of both tables are the same
pub write-read-words : (table text other : List ℕ) (n : ℕ) → (write_outcome table text).told ≡ result (n ∷ []) →
    long_enough other ≡ true →
    take table_words (read_outcome (take n (write_outcome table text).buffer) other).buffer ≡ take table_words table
write-read-words table text other n h long =
    let size = length-take-le table_words table (table-long table (result-written table text n h).is-table) in
    ap (take table_words) (left_by (write_read table text other n h long)) ∙
    take-over (take table_words table) other table_words size

-- what was read from a text, written into bytes that it fits in, is that text
pub read-write : (text table vs other : List ℕ) → (read_outcome text table).told ≡ result vs →
    length text ≤ length other → write_outcome (read_outcome text table).buffer other ≡
    record { told = result (length text ∷ []); buffer = over text other }
unfolding long_enough
read-write text table vs other h room =
    let r = result-read text table vs h in
    let t = r.task in
    let fits = read_fits text t r.was_read in
    let w = over (words_of t) table in
    let lies : (read_outcome text table).buffer ≡ w =
    left_by (read_result text table t r.long r.was_read) in
    let (is-table, same) = table_of w t fits (take-over (words_of t) table table_words (words-length t fits)) in
    let bytes : write (task_of w) ≡ text = ap write same ∙ written_read text t r.was_read in
    let long : long_enough w ≡ true = le-leb table_words (length w) (table-long w is-table) in
    let fit : leb (length (write (task_of w))) (length other) ≡ true =
    rw bytes (le-leb (length text) (length other) room) in
    ap (λ (x : List ℕ). write_outcome x other) lies ∙
    (write-result w other long is-table fit ∙ ap (λ (bs : List ℕ). written_over bs other) bytes)

-- .. so its bytes begin with the text
pub read-write-bytes : (text table vs other : List ℕ) → (read_outcome text table).told ≡ result vs →
    length text ≤ length other → take (length text) (write_outcome (read_outcome text table).buffer other).buffer ≡ text
read-write-bytes text table vs other h room =
    ap (take (length text)) (left_by (read-write text table vs other h room)) ∙
    take-over text other (length text) refl
