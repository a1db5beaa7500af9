-- A state in lent words by its rows: row k has the words of fact k. What `is_state` says, row by row, and back again;
-- and the numbers of the rows, which ascend as the facts do.
use Prim.Native.Nat.{ℕ, zero, suc, ◌+◌, ◌*◌, ◌≤◌, ◌<◌}
use mathlib.Core.Path.{◌≡◌, refl, sym, ◌∙◌, ap, subst}
use mathlib.Core.Bool.{true}
use mathlib.Core.List.{List, [], ◌∷◌, map}
use native.Mathlib.Omega.{arith}
use native.Mathlib.Decide.{dec_lt}
use lib.ListN.{length, get_or}
use Rattle.words.specs.Lists.{up_to, up_from, padded}
use Rattle.task.specs.Task.{Fact, Task, facts_fit, well_formed}
use Rattle.words.specs.Words.{words_at}
use Rattle.task.specs.Run.{record_words, state_words, record_at, state_in, room_in, is_state}
use Rattle.task.specs.Records.{record_number, number_at, row_number, RowsAscend, Keeps}
use Rattle.words.proofs.Lists.{in_all, in-get_or, Less, tabulate, length-padded}
use Rattle.task.proofs.Tests.{fits, tests-fact}
use Rattle.task.proofs.States.{key, Asc, asc-nil, asc-cons, asc-ascending, fitting-args_fit, Fits, State, facts_fit-state}
use Rattle.words.proofs.Words.{At, at-move, words_at-at, at-words_at}
use Rattle.task.proofs.AtomsStand.{no_fact}
use Rattle.task.proofs.RecordWords.{length-record_words, record-in}
use Rattle.task.proofs.StateWords.{Short, state-here, here-state, length-state_in, length-state, at-record}
use Rattle.task.proofs.StateWords.{join-records}
use Rattle.task.proofs.Numbers.{Slight, slight, less-number}

abbrev pub Rows : List ℕ → List Fact → Type 0
Rows w s = (k j : ℕ) → k < length s → j < 5 → get_or w (5 * k + j) 0 ≡ get_or (record_words (get_or s k no_fact)) j 0

-- n records that keep the state s
pub record Kept (t : Task) (w : List ℕ) (n : ℕ) (s : List Fact) : Type 0 where
  pub state : State t s
  pub rows : Rows w s
  pub count : length s ≡ n
  pub room : 5 * n ≤ length w

pub room-words : (w : List ℕ) (n : ℕ) → n ≤ room_in w → 5 * n ≤ length w
unfolding room_in
room-words w n h = omega arith

pub words-room : (w : List ℕ) (n : ℕ) → 5 * n ≤ length w → n ≤ room_in w
unfolding room_in
words-room w n h = omega arith

module _ (t : Task) (wf : well_formed t ≡ true) where
  short : (s : List Fact) → State t s → Short s
  short s c f i = (slight t wf f (c.fit f i)).short

  pub state-kept : (w : List ℕ) (n : ℕ) → is_state t w n ≡ true → Kept t w n (state_in t w n)
  unfolding state_words
  state-kept w n h =
      let c = state-here t w n h in
      let s = state_in t w n in
      let st = facts_fit-state t s c.facts in
      let len = length-state_in t w n in
      let whole : At w 0 (state_words s) = subst (λ (xs : List ℕ). At w 0 xs) c.words (at-words_at w 0 (5 * n)) in
      record {
        state = st;
        rows = λ k j l m.
            let f = get_or s k no_fact in
            let q = length-record_words f (short s st f (in-get_or s k no_fact l)) in
            at-record w s (short s st) whole k l j (omega arith);
        count = len;
        room = room-words w n c.room;
      }

  row-stands : (w : List ℕ) (s : List Fact) → State t s → Rows w s → (k : ℕ) → k < length s →
      At w (5 * k) (record_words (get_or s k no_fact))
  row-stands w s c r k l j m =
      let f = get_or s k no_fact in
      let five = length-record_words f (short s c f (in-get_or s k no_fact l)) in
      r k j l (omega arith)

  pub record-read : (w : List ℕ) (s : List Fact) → State t s → Rows w s → (k : ℕ) → k < length s →
      record_at t w k ≡ get_or s k no_fact
  record-read w s c r k l =
      let f = get_or s k no_fact in
      record-in t w k f (c.fit f (in-get_or s k no_fact l)).count (row-stands w s c r k l)

  pub kept-facts : (w : List ℕ) (n : ℕ) (s : List Fact) → Kept t w n s → state_in t w n ≡ s
  unfolding state_in up_to
  kept-facts w n s c =
      ap (λ (m : ℕ). map (record_at t w) (up_from 0 m)) (sym c.count) ∙
      tabulate (record_at t w) 0 s no_fact (λ k l.
      let z : 0 + k ≡ k = omega arith in
      ap (record_at t w) z ∙ record-read w s c.state c.rows k l)

  pub state-fit : (s : List Fact) → State t s → facts_fit t.objects t.arities s ≡ true
  state-fit s c = tests-fact t.objects t.arities s (record {
    fit = in_all (fits t.objects t.arities) s
        (λ f i. fitting-args_fit t.objects t.arities f.pred f.args (c.fit f i));
    order = asc-ascending s c.asc;
  })

  pub kept-keeps : (w : List ℕ) (n : ℕ) (s : List Fact) → Kept t w n s → Keeps t w n s
  unfolding state_words
  kept-keeps w n s c =
      let e = kept-facts w n s c in
      let few = short s c.state in
      let len = length-state s few in
      let a : At w 0 (state_words s) = join-records w s few (λ k l.
      at-move w (5 * k) (0 + 5 * k) (record_words (get_or s k no_fact)) (omega arith)
      (row-stands w s c.state c.rows k l)) in
      let q : 5 * n ≡ length (state_words s) = sym (len ∙ ap (λ (m : ℕ). 5 * m) c.count) in
      record {
        state = here-state t w n (record {
          room = words-room w n c.room;
          facts = ap (facts_fit t.objects t.arities) e ∙ state-fit s c.state;
          words = ap (words_at w 0) q ∙ (words_at-at w 0 (state_words s) a ∙ ap state_words (sym e));
        });
        facts = e;
      }

-- ---- the numbers of rows
four : (xs : List ℕ) → length xs ≡ 4 → get_or xs 0 0 ∷ get_or xs 1 0 ∷ get_or xs 2 0 ∷ get_or xs 3 0 ∷ [] ≡ xs
four [] h = absurd (omega arith)
four (a ∷ []) h = absurd (omega arith)
four (a ∷ b ∷ []) h = absurd (omega arith)
four (a ∷ b ∷ c ∷ []) h = absurd (omega arith)
four (a ∷ b ∷ c ∷ d ∷ []) h = refl
four (a ∷ b ∷ c ∷ d ∷ e ∷ xs) h = absurd (omega arith)

pub row-number : (w : List ℕ) (s : List Fact) → Rows w s → (k : ℕ) → k < length s → Slight (get_or s k no_fact) →
    row_number w k ≡ record_number (get_or s k no_fact)
unfolding number_at record_number record_words
row-number w s r k l c =
    let f = get_or s k no_fact in
    let ps = padded 4 f.args in
    let z : 5 * k ≡ 5 * k + 0 = omega arith in
    let e₀ : get_or w (5 * k) 0 ≡ f.pred = ap (λ (x : ℕ). get_or w x 0) z ∙ r k 0 l (omega arith) in
    let e₁ : get_or w (5 * k + 1) 0 ≡ get_or ps 0 0 = r k 1 l (omega arith) in
    let e₂ : get_or w (5 * k + 2) 0 ≡ get_or ps 1 0 = r k 2 l (omega arith) in
    let e₃ : get_or w (5 * k + 3) 0 ≡ get_or ps 2 0 = r k 3 l (omega arith) in
    let e₄ : get_or w (5 * k + 4) 0 ≡ get_or ps 3 0 = r k 4 l (omega arith) in
    let q : get_or ps 0 0 ∷ get_or ps 1 0 ∷ get_or ps 2 0 ∷ get_or ps 3 0 ∷ [] ≡ ps =
    four ps (length-padded 4 f.args c.short) in
    cc

-- facts of an ascending list, by place
pub asc-places : {s : List Fact} → Asc s → (i j : ℕ) → i < j → j < length s →
    Less (key (get_or s i no_fact)) (key (get_or s j no_fact))
asc-places asc-nil i j l m = elim m [ ]
asc-places (asc-cons {f = f} {s = s} b h) i zero l m = absurd (omega arith)
asc-places (asc-cons {f = f} {s = s} b h) zero (suc j) l m = b (get_or s j no_fact) (in-get_or s j no_fact (omega arith))
asc-places (asc-cons {f = f} {s = s} b h) (suc i) (suc j) l m = asc-places h i j (omega arith) (omega arith)

module _ (t : Task) (wf : well_formed t ≡ true) (w : List ℕ) (n : ℕ) (s : List Fact) (c : Kept t w n s) where
  pub fact-fits : (k : ℕ) → k < n → Fits t (get_or s k no_fact)
  fact-fits k l = c.state.fit (get_or s k no_fact) (in-get_or s k no_fact (let e = c.count in omega arith))

  pub number-row : (k : ℕ) → k < n → row_number w k ≡ record_number (get_or s k no_fact)
  number-row k l = row-number w s c.rows k (let e = c.count in omega arith)
      (slight t wf (get_or s k no_fact) (fact-fits k l))

  number-before-number : (i j : ℕ) → i < j → j < n → row_number w i < row_number w j
  number-before-number i j l m =
      let k : i < n = omega arith in
      let p = number-row i k in
      let q = number-row j m in
      let z = less-number t wf (get_or s i no_fact) (get_or s j no_fact) (fact-fits i k) (fact-fits j m)
      (asc-places c.state.asc i j l (let e = c.count in omega arith)) in
      omega arith

  pub kept-ascend : RowsAscend w n
  kept-ascend i j l m = elim (dec_lt i j) [
    | yes x ↦ let z = number-before-number i j x m in omega arith
    | no x ↦ let e : i ≡ j = omega arith in subst (λ (k : ℕ). row_number w i ≤ row_number w k) e (omega arith)
  ]
