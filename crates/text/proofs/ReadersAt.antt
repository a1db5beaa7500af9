-- The readers as a cursor goes: at an offset `at` of a text a reader has `drop at text` before it, and each law says
-- what it does there by the byte at the offset. A loop over the bytes follows them turn by turn.
use Prim.Native.Nat.{ℕ, suc, ◌+◌, ◌≤◌, ◌<◌}
use mathlib.Core.Path.{◌≡◌, refl, sym, ◌∙◌, ap}
use mathlib.Core.Bool.{true, false}
use mathlib.Core.List.{List, [], ◌∷◌, ◌++◌}
use Rattle.std.specs.Prelude.{None}
use lib.ListN.{length, get_or, drop, drop_of_length-le}
use lib.Seq.{drop-cons, drop-drop, drop-append_seam}
use borrow.Author.Tests.{eq-eqb, ne_eqb}
use Rattle.task.specs.Task.{Task}
use Rattle.task.specs.Run.{Step}
use Rattle.text.specs.Lines.{newline, comma, taken, taken_if, and_then, after, is_digit, leading_digits, value_from}
use Rattle.text.specs.Lines.{in_form, number, numbers, listing}
use Rattle.text.specs.Reading.{line_at, read_lines}
use Rattle.text.specs.Text.{write_line, Draft, started, take_line, next_line, read_text}
use Rattle.text.specs.Plan.{write_plan_line, take_plan_line, next_plan_line, read_plan}
use Rattle.text.proofs.Taken.{if-true, if-false}
use Rattle.text.proofs.Digits.{at-end, at_other, leading_digits-digit, leading_digits-stop}
use Rattle.text.proofs.NumberLists.{goes_on}
use Rattle.text.proofs.Reading.{read_lines-line}
use Rattle.text.proofs.TaskLines.{May, task-exact}
use Rattle.text.proofs.PlanText.{PlanMay, plan-exact}

-- a cursor behind xs is further by their length
pub cursor-behind : (text : List ℕ) (at : ℕ) (xs rest : List ℕ) → drop at text ≡ xs ++ rest →
    rest ≡ drop (at + length xs) text
cursor-behind text at xs rest h =
    sym (drop-append_seam xs rest) ∙ (ap (drop (length xs)) (sym h) ∙ drop-drop (length xs) at text)

module _ (text : List ℕ) (at : ℕ) where
  -- ---- digits
  pub digit-here : at < length text → is_digit (get_or text at 0) ≡ true →
      leading_digits (drop at text) ≡ get_or text at 0 ∷ leading_digits (drop (suc at) text)
  digit-here l h =
      ap leading_digits (drop-cons text at 0 l) ∙ leading_digits-digit (get_or text at 0) (drop (suc at) text) h

  pub no-digit-here : at < length text → is_digit (get_or text at 0) ≡ false → leading_digits (drop at text) ≡ []
  no-digit-here l h =
      ap leading_digits (drop-cons text at 0 l) ∙ leading_digits-stop (at_other {bs = drop (suc at) text} h)

  pub no-digit-left : length text ≤ at → leading_digits (drop at text) ≡ []
  no-digit-left l = ap leading_digits (drop_of_length-le text l) ∙ leading_digits-stop at-end

  -- a number is read off its digits, and the cursor stands behind them
  pub number-here : (ds : List ℕ) → leading_digits (drop at text) ≡ ds →
      number (drop at text) ≡ taken_if (in_form ds) (value_from 0 ds) (drop (at + length ds) text)
  unfolding number
  number-here ds e =
      ap (λ (xs : List ℕ). taken_if (in_form xs) (value_from 0 xs) (drop (length xs) (drop at text))) e ∙
      ap (taken_if (in_form ds) (value_from 0 ds)) (drop-drop (length ds) at text)

  -- ---- a byte that must stand here
  pub after-here : (k : ℕ) (ks : List ℕ) → at < length text → get_or text at 0 ≡ k →
      after (k ∷ ks) (drop at text) ≡ after ks (drop (suc at) text)
  unfolding after
  after-here k ks l e =
      ap (after (k ∷ ks)) (drop-cons text at 0 l) ∙ if-true None (eq-eqb k (get_or text at 0) (sym e))

  pub not-after-here : (k : ℕ) (ks : List ℕ) → at < length text → (get_or text at 0 ≡ k → ⊥) →
      after (k ∷ ks) (drop at text) ≡ None
  unfolding after
  not-after-here k ks l e =
      ap (after (k ∷ ks)) (drop-cons text at 0 l) ∙
      if-false (after ks (drop (suc at) text)) (ne_eqb k (get_or text at 0) (λ q. e (sym q)))

  pub none-after-left : (k : ℕ) (ks : List ℕ) → length text ≤ at → after (k ∷ ks) (drop at text) ≡ None
  unfolding after
  none-after-left k ks l = ap (after (k ∷ ks)) (drop_of_length-le text l)

  -- ---- the rest of a list, behind a number n of it
  pub comma-here : (n : ℕ) → at < length text → get_or text at 0 ≡ comma →
      goes_on numbers n (drop at text) ≡ and_then (numbers (drop (suc at) text)) (λ ns. taken (n ∷ ns.value) ns.rest)
  unfolding goes_on
  comma-here n l e =
      ap (goes_on numbers n) (drop-cons text at 0 l) ∙
      if-true (taken (n ∷ []) (get_or text at 0 ∷ drop (suc at) text)) (eq-eqb (get_or text at 0) 44 e)

  pub no-comma-here : (n : ℕ) → at < length text → (get_or text at 0 ≡ comma → ⊥) →
      goes_on numbers n (drop at text) ≡ taken (n ∷ []) (drop at text)
  unfolding goes_on
  no-comma-here n l e =
      let more = and_then (numbers (drop (suc at) text)) (λ ns. taken (n ∷ ns.value) ns.rest) in
      ap (goes_on numbers n) (drop-cons text at 0 l) ∙
      (if-false more (ne_eqb (get_or text at 0) 44 e) ∙ ap (taken (n ∷ [])) (sym (drop-cons text at 0 l)))

  pub no-comma-left : (n : ℕ) → length text ≤ at → goes_on numbers n (drop at text) ≡ taken (n ∷ []) (drop at text)
  unfolding goes_on
  no-comma-left n l =
      let e = drop_of_length-le text l in
      ap (goes_on numbers n) e ∙ ap (taken (n ∷ [])) (sym e)

  -- ---- a list that may be empty
  pub no-list-here : at < length text → get_or text at 0 ≡ newline → listing (drop at text) ≡ taken [] (drop at text)
  unfolding listing
  no-list-here l e =
      ap listing (drop-cons text at 0 l) ∙
      (if-true (numbers (get_or text at 0 ∷ drop (suc at) text)) (eq-eqb (get_or text at 0) 10 e) ∙
      ap (taken []) (sym (drop-cons text at 0 l)))

  pub list-here : at < length text → (get_or text at 0 ≡ newline → ⊥) → listing (drop at text) ≡ numbers (drop at text)
  unfolding listing
  list-here l e =
      ap listing (drop-cons text at 0 l) ∙
      (if-false (taken [] (get_or text at 0 ∷ drop (suc at) text)) (ne_eqb (get_or text at 0) 10 e) ∙
      ap numbers (sym (drop-cons text at 0 l)))

  pub no-list-left : length text ≤ at → listing (drop at text) ≡ None
  unfolding listing
  no-list-left l = ap listing (drop_of_length-le text l)

-- ---- a line after another
pub read_text-lines : (bs : List ℕ) → read_text bs ≡ read_lines next_line take_line 1 started bs
unfolding read_text
read_text-lines bs = refl

pub text-line : (n : ℕ) (d : Draft) (bs : List ℕ) →
    read_lines next_line take_line n d bs ≡ line_at n (take_line d) (next_line d bs) (read_lines next_line take_line (suc n))
text-line n d bs = read_lines-line next_line take_line May write_line task-exact n d bs

pub read_plan-lines : (t : Task) (bs : List ℕ) → read_plan t bs ≡ read_lines next_plan_line (take_plan_line t) 1 [] bs
unfolding read_plan
read_plan-lines t bs = refl

pub plan-line : (t : Task) (n : ℕ) (xs : List Step) (bs : List ℕ) →
    read_lines next_plan_line (take_plan_line t) n xs bs ≡
    line_at n (take_plan_line t xs) (next_plan_line xs bs) (read_lines next_plan_line (take_plan_line t) (suc n))
plan-line t n xs bs = read_lines-line next_plan_line (take_plan_line t) PlanMay write_plan_line plan-exact n xs bs
