-- The loop over the lines: reading the whole text is reading on from the cursor with the draft that the code holds. A
-- line that is refused, and one that ends reading, give the outcome; any other leaves the loop's facts as they were.
use Rattle.task.specs.declared.Place.TheVariants as place
use Prim.Native.Nat.{ℕ, suc, ◌≤◌, ◌<◌}
use mathlib.Core.Path.{◌≡◌, refl, sym, ◌∙◌, ap}
use mathlib.Core.Bool.{Bool, true}
use mathlib.Core.List.{List, [], ◌∷◌}
use native.Mathlib.Omega.{arith}
use lib.ListN.{length, drop_of_length-le, replicate}
use lib.Seq.{drop-cons}
use borrow.Author.Tests.{le-leb, lt-leb}
use Rattle.task.specs.Limits.{table_words}
use Rattle.words.specs.Lists.{over, all, sum, concat_map, joined}
use Rattle.task.specs.Task.{Task, well_formed}
use Rattle.task.specs.Table.{words_of, rows_from, long_enough}
use Rattle.text.specs.declared.cursor.Cursor.{Cursor}
use Rattle.std.specs.Prelude.{Ok, Err}
use Rattle.task.specs.declared.refusals.Reason.{Reason}
use Rattle.task.specs.declared.refusals.Refusal.{Refusal}
use Rattle.task.specs.Answers.{reason_number, refused, refuse_unless, in_order}
use Rattle.text.specs.Outcomes.{read_done, read_outcome, read_answer_told}
use Rattle.text.specs.Reading.{Reading, read, refused_at, at_end, read_lines}
use Rattle.text.specs.Text.{Draft, started, at_phase, take_line, next_line, read_text}
use Rattle.text.specs.ReadCode.{rest, number_of, Placed, start_cursor}
use Rattle.text.specs.Holding.{no_counts, row_blocks, pairs_of, Holds, Touched, Refuses, GoesOn, Finishes}
use Rattle.text.proofs.ReadersAt.{read_text-lines, text-line}
use Rattle.text.proofs.TaskRead.{read_fits}
use Rattle.text.proofs.WholeLines.{next-placed}
use Rattle.text.proofs.HeldAtoms.{untouched}
use Rattle.text.specs.declared.draft.Counts.{Counts}

pub record SoFar (text lent : List ℕ) (at : Cursor) (c : Counts) (w : List ℕ) : Type 0 where
  pub placed : Placed text at
  pub touched : Touched lent w
  pub draft : Draft
  pub holds : Holds draft w c
  pub so_far : read_text text ≡ read_lines next_line take_line at.line draft (rest text at)

pub begins : (text lent : List ℕ) → table_words ≤ length lent → SoFar text lent start_cursor no_counts lent
unfolding started at_phase all sum row_blocks pairs_of joined rows_from concat_map
begins text lent long = record {
  placed = record { inside = omega arith; line = omega arith };
  touched = untouched lent;
  draft = started;
  holds = record {
    phase = refl;
    objects = refl;
    predicates = refl;
    schemas = refl;
    params = refl;
    closed = refl;
    atoms = refl;
    initial = refl;
    goal = refl;
    pairs = refl;
    apart = refl;
    few = record {
      predicates = omega arith;
      schemas = omega arith;
      params = omega arith;
      objects = omega arith;
      atoms = omega arith;
      total = omega arith;
      initial = omega arith;
      goal = omega arith;
      pairs = omega arith;
    };
    order = record {
      no-arity = λ l. refl;
      no-schema = λ l. refl;
      not-open = λ l. refl;
      closed = λ l. absurd (omega arith);
      no-init = λ l. refl;
      no-goal = λ l. refl;
      room = λ l m. absurd (omega arith);
    };
    low = refl;
    fit = refl;
    init-fit = refl;
    goal-fit = refl;
    long = long;
    arities-stand = λ k l. absurd (omega arith);
    params-stand = λ k l. absurd (omega arith);
    pairs-stand = λ k l. absurd (omega arith);
    rows-stand = λ k l. absurd (omega arith);
    rows-length = refl;
  };
  so_far = read_text-lines text;
}

pub touched-both : {a b c : List ℕ} → Touched a b → Touched b c → Touched a c
touched-both s t = record { size = t.size ∙ s.size; beyond = λ j l. t.beyond j l ∙ s.beyond j l }

module _ {text lent : List ℕ} {at : Cursor} {c : Counts} {w : List ℕ} (s : SoFar text lent at c w) where
  pub line-refuses : (k : ℕ) → Refuses s.draft (next_line s.draft (rest text at)) k →
      read_text text ≡ refused_at k at.line
  line-refuses k r =
      s.so_far ∙ (text-line at.line s.draft (rest text at) ∙
      r at.line (read_lines next_line take_line (suc at.line)))

  pub line-goes : {after : List ℕ} {read : Counts} {next : Cursor} → Touched w after →
      GoesOn text at s.draft (next_line s.draft (rest text at)) after read next → SoFar text lent next read after
  line-goes {next = next} t g =
      let l = g.line.line in
      let z : next.line ≡ suc at.line = omega arith in
      record {
        placed = next-placed s.placed g.line;
        touched = touched-both s.touched t;
        draft = g.draft;
        holds = g.holds;
        so_far = s.so_far ∙ (text-line at.line s.draft (rest text at) ∙
            (g.is at.line (read_lines next_line take_line (suc at.line)) ∙
            ap (λ (n : ℕ). read_lines next_line take_line n g.draft (rest text next)) (sym z)));
      }

  module _ {next : Cursor} (f : Finishes text at s.draft (next_line s.draft (rest text at)) next) where
    ends : read_text text ≡ at_end s.draft.task next.line (rest text next)
    ends =
        let l = f.line.line in
        let z : suc at.line ≡ next.line = omega arith in
        s.so_far ∙ (text-line at.line s.draft (rest text at) ∙
        (f.is at.line (read_lines next_line take_line (suc at.line)) ∙
        ap (λ (n : ℕ). at_end s.draft.task n (rest text next)) z))

    -- "text .. left over"
    pub left_over : next.at < length text → read_text text ≡ refused_at 3 next.line
    unfolding at_end
    left_over l = ends ∙ ap (at_end s.draft.task next.line) (drop-cons text next.at 0 l)

    pub whole-text : length text ≤ next.at → read_text text ≡ read s.draft.task
    unfolding at_end
    whole-text l = ends ∙ ap (at_end s.draft.task next.line) (drop_of_length-le text l)

    pub last-phase : 8 ≤ number_of c.phase
    last-phase = let p = s.holds.phase in let q = f.closed in omega arith

    pub well : length text ≤ next.at → well_formed s.draft.task ≡ true
    well l = read_fits text s.draft.task (whole-text l)

-- ---- outcomes
module _ (lent text : List ℕ) where
  pub told-refused : (n : ℕ) (why : Reason) {r : Refusal} → read_text text ≡ refused_at (reason_number why) n →
      r ≡ record { reason = why; place = place.Line n } →
      read_answer_told (Err r) ≡ (read_done lent (read_text text)).told
  unfolding read_done
  told-refused n why e q =
      ap (λ (r : Refusal). read_answer_told (Err r)) q ∙ sym (ap (λ (x : Reading Task). (read_done lent x).told) e)

  pub buffer-refused : (k n : ℕ) (after : List ℕ) → read_text text ≡ refused_at k n →
      after ≡ over (replicate table_words 0) lent → after ≡ (read_done lent (read_text text)).buffer
  unfolding read_done
  buffer-refused k n after e q = q ∙ sym (ap (λ (x : Reading Task). (read_done lent x).buffer) e)

  pub told-read : (t : Task) → read_text text ≡ read t →
      read_answer_told (Ok tt) ≡ (read_done lent (read_text text)).told
  unfolding read_done
  told-read t e = sym (ap (λ (x : Reading Task). (read_done lent x).told) e)

  pub buffer-read : (t : Task) (after : List ℕ) → read_text text ≡ read t → after ≡ over (words_of t) lent →
      after ≡ (read_done lent (read_text text)).buffer
  unfolding read_done
  buffer-read t after e q = q ∙ sym (ap (λ (x : Reading Task). (read_done lent x).buffer) e)

-- refusal 1, "a lent table is shorter than 14,007 words"
module _ (text lent : List ℕ) where
  pub short-outcome : length lent < table_words →
      read_outcome text lent ≡ record { told = refused 1 place.Nowhere []; buffer = lent }
  unfolding read_outcome long_enough
  short-outcome l =
      ap (λ (b : Bool). in_order (refuse_unless b 1 ∷ []) lent (read_done lent (read_text text)))
      (lt-leb table_words (length lent) l)

  pub long-outcome : table_words ≤ length lent → read_outcome text lent ≡ read_done lent (read_text text)
  unfolding read_outcome long_enough
  long-outcome l =
      ap (λ (b : Bool). in_order (refuse_unless b 1 ∷ []) lent (read_done lent (read_text text)))
      (le-leb table_words (length lent) l)
