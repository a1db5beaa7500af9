-- The state that the second run starts from, in words: the records of the first, then procnone's, are a state of the
-- split exactly when those of the first are one of the task; and it is read as that state with procnone. Since procnone
-- is the last record and its predicate the first new one, the records before it are of old predicates.
use Prim.Native.Nat.{ℕ, suc, ◌+◌, ◌-◌, ◌*◌, ◌<◌}
use mathlib.Core.Path.{◌≡◌, refl, sym, ◌∙◌, ap, ap₂, subst}
use mathlib.Core.Bool.{true}
use mathlib.Core.List.{List, [], ◌∷◌, ◌++◌, map, append-nil}
use mathlib.Core.Logic.{◌↔◌}
use native.Mathlib.Omega.{arith}
use lib.ListN.{length, get_or, take, drop, replicate, length-append, take-append-drop, get_or-append}
use lib.Seq.{length-take-le, get_or-append_seam}
use Rattle.words.specs.Lists.{concat_map, up_to, padded}
use Rattle.task.specs.Limits.{head_words}
use Rattle.task.specs.Layout.{head_in}
use Rattle.task.specs.Task.{Fact, Task, facts_fit, well_formed}
use Rattle.words.specs.Words.{words_at}
use Rattle.task.specs.Table.{task_of}
use Rattle.task.specs.Run.{record_words, state_words, record_at, state_in, room_in, is_state, holds, ran, left, run_told}
use Rattle.task.specs.Run.{run_done}
use Rattle.tokens.specs.Split.{procnone, free, split_task}
use Rattle.words.proofs.Lists.{In, here, there, in-eq, in_left, in_right, in_all, in-get_or, get_or-in, append-concat_map}
use Rattle.words.proofs.Lists.{map-append, up_to-suc, append-same-length, Less, smaller, same}
use Rattle.task.proofs.Tests.{tests-fact}
use Rattle.task.proofs.States.{key, Asc, asc-nil, asc-cons, asc-ascending, Fits, State, facts_fit-state, fitting-args_fit}
use Rattle.task.proofs.States.{holds-in, in-holds}
use Rattle.task.proofs.AtomsStand.{no_fact}
use Rattle.words.proofs.Words.{words_at-is, length-words_at}
use Rattle.task.proofs.RecordWords.{arity-few, length-record_words}
use Rattle.task.proofs.StateWords.{Short, length-state, at-record, state-words, words-read, words-state, length-state_in}
use Rattle.tokens.proofs.SplitAnswers.{AcceptedSplit}
use Rattle.correspondence.specs.SharedRuns.{with_free}
use Rattle.correspondence.specs.SharedRunsOnWords.{procnone_record, then_procnone, LeavesProcnone, SecondStart}
use Rattle.blocks.proofs.SplitSteps.{the-given}
use Rattle.correspondence.proofs.SecondRun.{free-state}

-- ---- states and their words
pub state-short : (t : Task) → well_formed t ≡ true → (s : List Fact) → State t s → Short s
state-short t w s st f i =
    let c = (st.fit f i).count in
    omega (arith, arity-few t w f.pred)

words_snoc : (s : List Fact) (f : Fact) → state_words (s ++ (f ∷ [])) ≡ state_words s ++ record_words f
unfolding state_words concat_map
words_snoc s f =
    append-concat_map record_words s (f ∷ []) ∙ ap (λ w. concat_map record_words s ++ w) (append-nil (record_words f))

state_in-suc : (t : Task) (w : List ℕ) (n : ℕ) → state_in t w (suc n) ≡ state_in t w n ++ (record_at t w n ∷ [])
unfolding state_in
state_in-suc t w n = ap (map (record_at t w)) (up_to-suc n) ∙ map-append (record_at t w) (up_to n) (n ∷ [])

asc-front : (s r : List Fact) → Asc (s ++ r) → Asc s
asc-front [] r h = asc-nil
asc-front (f ∷ s) r (asc-cons b h) = asc-cons (λ g i. b g (in_left r i)) (asc-front s r h)

asc-last : (s : List Fact) (f g : Fact) → Asc (s ++ (f ∷ [])) → In g s → Less (key g) (key f)
asc-last [] f g _ x3 = elim x3 [ ]
asc-last (h ∷ s) f g (asc-cons b k) (here e) = rw e (b f (in_right s (here refl)))
asc-last (h ∷ s) f g (asc-cons b k) (there i) = asc-last s f g k i

nothing-less : {xs : List ℕ} → Less xs [] → ⊥
nothing-less = elim [ ]

less-head : {x y : ℕ} {xs : List ℕ} → Less (x ∷ xs) (y ∷ []) → x < y
less-head (smaller l) = l
less-head (same e h) = absurd (nothing-less h)

-- procnone's record
pub procnone-words : (table : List ℕ) → record_words (free (task_of table)) ≡ procnone_record table
unfolding record_words free procnone padded task_of
procnone-words table = ap (λ p. p ∷ 0 ∷ 0 ∷ 0 ∷ 0 ∷ []) (length-words_at table head_words (head_in table).predicates)

pub free-words : (table : List ℕ) (s : List Fact) →
    state_words (with_free (task_of table) s) ≡ state_words s ++ procnone_record table
unfolding with_free
free-words table s =
    words_snoc s (free (task_of table)) ∙ ap (λ w. state_words s ++ w) (procnone-words table)

module _ {table split : List ℕ} (A : AcceptedSplit table split) where
  abbrev t : Task
  t = task_of table

  abbrev t' : Task
  t' = task_of split

  -- the arities of the split: the old ones, then procnone's 0
  old-arity : (p : ℕ) → p < length t.arities → get_or t'.arities p 0 ≡ get_or t.arities p 0
  unfolding split_task
  old-arity p l = ap (λ u. get_or u.arities p 0) (the-given A).is ∙ get_or-append t.arities _ 0 p l

  free-arity : get_or t'.arities (procnone t) 0 ≡ 0
  unfolding split_task procnone
  free-arity =
      ap (λ u. get_or u.arities (length t.arities) 0) (the-given A).is ∙ get_or-append_seam t.arities 0 _ 0

  -- a fact of the split with procnone's predicate is procnone
  only-free : (f : Fact) → Fits t' f → f.pred ≡ procnone t → f ≡ free t
  unfolding free
  only-free f h e =
      let n : length f.args ≡ 0 = h.count ∙ ap (λ p. get_or t'.arities p 0) e ∙ free-arity in
      let a : f.args ≡ [] = none f.args n in
      λ j. record { pred = e j; args = a j }
    where
      none : (xs : List ℕ) → length xs ≡ 0 → xs ≡ []
      none [] h = refl
      none (x ∷ xs) h = absurd (omega arith)

  -- and so is one with its record
  pub record-free : (f : Fact) → Fits t' f → record_words f ≡ procnone_record table → f ≡ free t
  unfolding record_words procnone task_of
  record-free f h e = only-free f h (pred-is e ∙ sym (length-words_at table head_words (head_in table).predicates))
    where
      pred-is : record_words f ≡ procnone_record table → f.pred ≡ (head_in table).predicates
      pred-is e = cc

  -- what lies below procnone is of the task
  below_free : (g : Fact) → Fits t' g → Less (key g) (key (free t)) → Fits t g
  unfolding free split_task procnone
  below_free g h l =
      let low : g.pred < length t.arities = less-head l in
      record {
        known = low;
        count = h.count ∙ old-arity g.pred low;
        small = λ o i. subst (λ n. o < n) (ap (λ u. u.objects) (the-given A).is) (h.small o i);
      }

  module _ {state : List ℕ} {k : ℕ} {state' : List ℕ} (start : SecondStart table state k state') where
    abbrev s : List Fact
    s = state_in t state k

    second-words : state' ≡ then_procnone table k state ++ drop (5 * suc k) state'
    second-words =
        sym (take-append-drop (5 * suc k) state') ∙ ap (λ w. w ++ drop (5 * suc k) state') start.records

    -- ---- forwards: a state of the task, with procnone, is one of the split
    module _ (h : is_state t state k ≡ true) where
      joined : state_words (with_free t s) ++ drop (5 * suc k) state' ≡ state'
      joined = ap (λ w. w ++ drop (5 * suc k) state')
          (free-words table s ∙ ap (λ w. w ++ procnone_record table) (state-words t state k h).1) ∙ sym second-words

      many : length (with_free t s) ≡ suc k
      unfolding with_free
      many = length-append s (free t ∷ []) ∙ (let e = length-state_in t state k in omega arith)

      fit : facts_fit t'.objects t'.arities (with_free t s) ≡ true
      fit = free-state (the-given A) s (state-words t state k h).0

      pub second-state : is_state t' state' (suc k) ≡ true
      second-state = ap₂ (is_state t') (sym joined) (sym many) ∙
          words-state t' A.split-well-formed (with_free t s) fit (drop (5 * suc k) state')

      pub second-read : state_in t' state' (suc k) ≡ with_free t s
      second-read = ap₂ (state_in t') (sym joined) (sym many) ∙
          words-read t' A.split-well-formed (with_free t s) fit (drop (5 * suc k) state')

    -- ---- backwards: where the second is a state of the split, the first is one of the task
    module _ (h : is_state t' state' (suc k) ≡ true) where
      abbrev before : List Fact
      before = state_in t' state' k

      abbrev last : Fact
      last = record_at t' state' k

      whole : State t' (before ++ (last ∷ []))
      whole = subst (State t') (state_in-suc t' state' k)
          (facts_fit-state t' (state_in t' state' (suc k)) (state-words t' state' (suc k) h).0)

      apart : (state_words before ≡ take (5 * k) state) × (record_words last ≡ procnone_record table)
      unfolding room_in
      apart = append-same-length (state_words before) (take (5 * k) state) (record_words last) (procnone_record table)
          (length-state before short ∙ ap (λ n. 5 * n) (length-state_in t' state' k) ∙
          sym (length-take-le (5 * k) state (omega (arith, start.lent))))
          (sym (words_snoc before last) ∙ ap state_words (sym (state_in-suc t' state' k)) ∙
          (state-words t' state' (suc k) h).1 ∙ start.records)
        where
          short : Short before
          short f i = state-short t' A.split-well-formed (before ++ (last ∷ [])) whole f (in_left _ i)

      last-free : last ≡ free t
      last-free = record-free last (whole.fit last (in_right before (here refl))) apart.1

      fit-before : facts_fit t.objects t.arities before ≡ true
      fit-before = tests-fact t.objects t.arities before (record {
        fit = in_all _ before (λ f i.
            let c = below_free f (whole.fit f (in_left _ i))
            (subst (λ l. Less (key f) (key l)) last-free (asc-last before last f whole.asc i)) in
            fitting-args_fit t.objects t.arities f.pred f.args c);
        order = asc-ascending before (asc-front before (last ∷ []) whole.asc);
      })

      pub first-state : is_state t state k ≡ true
      first-state =
          ap₂ (is_state t) (sym (take-append-drop (5 * k) state) ∙ ap (λ w. w ++ drop (5 * k) state) (sym apart.0))
          (sym (length-state_in t' state' k)) ∙ words-state t A.well before fit-before (drop (5 * k) state)

  -- ---- the records that a run of the split leaves: procnone's is among them exactly when procnone holds
  module _ (e : List Fact) (st : State t' e) (n : ℕ) where
    abbrev w : List ℕ
    w = padded n (state_words e)

    row : (i : ℕ) → i < length e → words_at w (5 * i) 5 ≡ record_words (get_or e i no_fact)
    unfolding padded
    row i l =
        let short = state-short t' A.split-well-formed e st in
        let f = get_or e i no_fact in
        words_at-is w (5 * i) 5 (record_words f) (length-record_words f (short f (in-get_or e i no_fact l)))
        (at-record w e short (λ k m.
        let z : 0 + k ≡ k = omega arith in
        ap (λ j. get_or w j 0) z ∙ get_or-append (state_words e) (replicate (n - length (state_words e)) 0) 0 k m) i l)

    pub procnone-left : LeavesProcnone table (run_done t' n (ran e)) ↔ (holds e (free t) ≡ true)
    unfolding run_done run_told left
    procnone-left = (
      λ (i, l, q).
          let f = get_or e i no_fact in
          let j = in-get_or e i no_fact l in
          in-holds (in-eq (sym (record-free f (st.fit f j) (sym (row i l) ∙ q))) j),
      λ h.
          let (i, l, q) = get_or-in no_fact (holds-in e (free t) h) in
          (i, l, row i l ∙ ap record_words q ∙ procnone-words table),
    )
