-- Loops over the ground atoms of a span: between the turns, what is done with the atoms left gives what was to be done
-- with all. One law a loop for its start, its turn and its end.
use Prim.Native.Nat.{ℕ, ◌+◌, ◌*◌, ◌≤◌, ◌<◌}
use mathlib.Core.Path.{◌≡◌, refl, sym, ◌∙◌, ap}
use mathlib.Core.Bool.{Bool, true}
use mathlib.Core.List.{List, [], ◌∷◌, map}
use native.Mathlib.Omega.{arith}
use lib.ListN.{length, get_or}
use borrow.Author.Tests.{leb-true}
use Rattle.words.specs.Lists.{padded}
use Rattle.task.specs.Limits.{most_atoms}
use Rattle.task.specs.Task.{Fact, Task, well_formed}
use Rattle.task.specs.Run.{holds, insert, insert_all, state_in, room_in, is_state}
use Rattle.task.specs.Records.{in_base, record_number, row_number, RowsAscend, LowerBound, RowIs, Known, Keeps}
use Rattle.task.specs.Spans.{span, UnderWay}
use Rattle.task.specs.declared.spans.Spans.{Spans}
use Rattle.words.proofs.Lists.{In, length-padded}
use Rattle.words.proofs.Ranges.{range-step, range-done}
use Rattle.task.proofs.Tests.{task-tests}
use Rattle.task.proofs.States.{Asc, asc-insert}
use Rattle.task.proofs.Numbers.{base-mono, small-padded, slight}
use Rattle.task.proofs.Rows.{state-kept, kept-ascend, room-words}
use Rattle.task.proofs.RowsMoved.{in_row}
use Rattle.task.proofs.RowsFound.{known_kept, known-fits, found-holds}
use Rattle.task.proofs.Changes.{insert-missing, insert_all-length}

-- ---- spans
module _ (g : ℕ → Fact) where
  pub span_more : (k to : ℕ) → k < to → span g k to ≡ g k ∷ span g (k + 1) to
  unfolding span
  span_more k to l = ap (map g) (range-step k to l)

  pub span-end : (k to : ℕ) → to ≤ k → span g k to ≡ []
  unfolding span
  span-end k to l = ap (map g) (range-done k to l)

-- ---- states
module _ (t : Task) (wf : well_formed t ≡ true) (state : List ℕ) (n : ℕ) (h : is_state t state n ≡ true) where
  pub state-long : 5 * n ≤ length state
  state-long = (state-kept t wf state n h).room

  pub state-ascends : RowsAscend state n
  state-ascends = kept-ascend t wf state n (state_in t state n) (state-kept t wf state n h)

module _ {t : Task} {g : ℕ → Fact} {spans : Spans} {numbers state : List ℕ} {n : ℕ}
    (u : UnderWay t g spans numbers state n) where
  pub rows_fit : 5 * n ≤ length state
  rows_fit = state-long t u.task state n u.state_is

  pub rows-ascend : RowsAscend state n
  rows-ascend = state-ascends t u.task state n u.state_is

  pub facts-asc : Asc (state_in t state n)
  facts-asc = (state-kept t u.task state n u.state_is).state.asc

  -- places among the numbers
  pub few-before : {b : ℕ} → b ≤ spans.end → b ≤ most_atoms
  few-before l = let m = u.few in omega arith

  pub adds-inside : spans.adds ≤ spans.end
  adds-inside = let a = u.adds in let d = u.deletes in omega arith

  pub precondition-inside : {k : ℕ} → k < spans.adds → k < spans.end
  precondition-inside l = let m = adds-inside in omega arith

  pub add-inside : {k : ℕ} → k < spans.deletes → k < spans.end
  add-inside l = let d = u.deletes in omega arith

  pub atom-known : (k : ℕ) → k < spans.end → Known t state n (g k) (get_or numbers k 0)
  atom-known k l = record { task = u.task; state = u.state_is; fits = u.fit k l; is = sym (u.number k l) }

  -- what a search for the number says
  pub atom-found : {k row : ℕ} {r : Bool} → k < spans.end → LowerBound state n (get_or numbers k 0) row →
      RowIs state n row (get_or numbers k 0) r → r ≡ holds (state_in t state n) (g k)
  atom-found {k} l b h = found-holds (atom-known k l) b h

  -- the step goes on with another state
  pub with-state : {out : List ℕ} {m : ℕ} → is_state t out m ≡ true → UnderWay t g spans numbers out m
  with-state h = record {
    task = u.task;
    adds = u.adds;
    deletes = u.deletes;
    few = u.few;
    fit = u.fit;
    number = u.number;
    state_is = h;
  }

pub known_small : {t : Task} {w : List ℕ} {n : ℕ} {f : Fact} {number : ℕ} → Known t w n f number →
    number < 72057594037927936
unfolding in_base record_number
known_small {t} {f = f} d =
    let c = slight t d.task f (known-fits d) in
    let l = leb-true (length t.arities) 400 (task-tests t d.task).preds in
    let p = (known-fits d).known in
    let m = base-mono (padded 4 f.args) (0 ∷ 0 ∷ 0 ∷ 0 ∷ []) f.pred 65536 (length-padded 4 f.args c.short)
    (small-padded 4 f.args c.small) (omega arith) in
    let e = d.is in
    omega arith

-- a row comes in only where there is room for the state that is to come
pub known-room : {t : Task} {w : List ℕ} {n : ℕ} {f : Fact} {number : ℕ} (d : Known t w n f number) (fs : List Fact) →
    length (insert_all (f ∷ fs) (state_in t w n)) ≤ room_in w → ((i : ℕ) → i < n → row_number w i ≡ number → ⊥) →
    5 * n + 5 ≤ length w
unfolding insert_all
known-room {t} {w} {n} {f} {number} d fs l h =
    let s = state_in t w n in
    let c = known_kept d in
    let absent : In f s → ⊥ = λ i. (let (k, m, e) = in_row t d.task w n s c f number (known-fits d) d.is i in
    h k m e) in
    let a = insert-missing f s absent in
    let b = (insert_all-length fs (insert f s) (asc-insert f c.state.asc)).0 in
    let z = c.count in
    let r = room-words w (n + 1) (omega arith) in
    omega arith

-- ---- a state into which facts come one by one
pub insert-nothing : (s : List Fact) → insert_all [] s ≡ s
unfolding insert_all
insert-nothing s = refl

insert-more : (f : Fact) (fs s : List Fact) → insert_all (f ∷ fs) s ≡ insert_all fs (insert f s)
unfolding insert_all
insert-more f fs s = refl

pub record InsertedSo (t : Task) (g : ℕ → Fact) (spans : Spans) (numbers : List ℕ) (from : ℕ) (found : List ℕ) (n : ℕ)
    (state : List ℕ) (left k : ℕ) : Type 0 where
  pub to_last : k ≤ spans.deletes
  pub size : length state ≡ length found
  pub way : UnderWay t g spans numbers state left
  pub same : insert_all (span g k spans.deletes) (state_in t state left) ≡
      insert_all (span g from spans.deletes) (state_in t found n)

pub insert-start : {t : Task} {g : ℕ → Fact} {spans : Spans} {numbers state : List ℕ} {n : ℕ} →
    UnderWay t g spans numbers state n → (from : ℕ) → from ≤ spans.deletes →
    InsertedSo t g spans numbers from state n state n from
insert-start u from l = record { to_last = l; size = refl; way = u; same = refl }

module _ {t : Task} {g : ℕ → Fact} {spans : Spans} {numbers : List ℕ} {from : ℕ} {found : List ℕ} {n : ℕ}
    {state : List ℕ} {left k : ℕ}
    (c : InsertedSo t g spans numbers from found n state left k) where
  abbrev s : List Fact
  s = state_in t state left

  abbrev rest : List Fact
  rest = span g (k + 1) spans.deletes

  -- the add that comes next
  pub next_known : k < spans.deletes → Known t state left (g k) (get_or numbers k 0)
  next_known l = atom-known c.way k (add-inside c.way l)

  pub insert-turn : {out : List ℕ} {left' : ℕ} → k < spans.deletes → length out ≡ length state →
      Keeps t out left' (insert (g k) s) →
      InsertedSo t g spans numbers from found n out left' (k + 1)
  insert-turn l z h = record {
    to_last = omega arith;
    size = z ∙ c.size;
    way = with-state c.way h.state;
    same =
        ap (insert_all rest) h.facts ∙
        (sym (insert-more (g k) rest s) ∙
        (ap (λ (fs : List Fact). insert_all fs s) (sym (span_more g k spans.deletes l)) ∙ c.same));
  }

  pub insert-end : spans.deletes ≤ k →
      Keeps t state left (insert_all (span g from spans.deletes) (state_in t found n))
  insert-end l = record {
    state = c.way.state_is;
    facts =
        sym (insert-nothing s) ∙
        (ap (λ (fs : List Fact). insert_all fs s) (sym (span-end g k spans.deletes l)) ∙ c.same);
  }

  -- what is still to come in fits, since all of it does
  pub rest-fits : k < spans.deletes →
      length (insert_all (span g from spans.deletes) (state_in t found n)) ≤ room_in found →
      length (insert_all (g k ∷ rest) s) ≤ room_in state
  unfolding room_in
  rest-fits l h =
      let e = ap length (ap (λ (fs : List Fact). insert_all fs s) (sym (span_more g k spans.deletes l)) ∙ c.same) in
      let z = c.size in
      omega arith
