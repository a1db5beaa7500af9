-- The code holds the draft again behind an `arity` line: the arities stand at word 7, and nothing stands behind them
-- yet.
use Prim.Native.Nat.{ℕ, ◌≤◌, ◌<◌}
use mathlib.Core.Path.{◌≡◌, refl, sym, ◌∙◌, ap}
use mathlib.Core.Bool.{Bool, true, false, ◌&&◌}
use mathlib.Core.List.{List, [], ◌∷◌}
use native.Mathlib.Omega.{arith}
use lib.ListN.{length, get_or, take}
use lib.Dec.{ltb, leb, leb-suc-suc}
use borrow.Author.Tests.{le-leb, lt-leb}
use Rattle.words.specs.Lists.{all, concat_map, joined}
use Rattle.task.specs.Limits.{head_words}
use Rattle.task.specs.Table.{rows_from}
use Rattle.task.specs.Task.{Schema, args_fit, no_schema}
use Rattle.words.proofs.Lists.{and_both}
use Rattle.words.proofs.Words.{and-false}
use Rattle.text.specs.Reading.{go_on, refuse}
use Rattle.text.specs.Text.{between, Draft, at_phase, with_arities, arity_line, take_line, arity}
use Rattle.text.specs.declared.keys.Key.TheVariants as code
use Rattle.text.specs.ReadCode.{number_of, Wrote, Listed}
use Rattle.text.specs.Holding.{Holds, row_blocks, rows_of, pairs_of, Allows}
use Rattle.text.proofs.Reading.{need-met}
use Rattle.text.proofs.RowTests.{listed-take}
use Rattle.text.proofs.LineTurns.{need-fails}
use Rattle.text.proofs.WroteWords.{stands}
use Rattle.text.specs.declared.draft.Counts.{Counts}
use Rattle.text.proofs.Dispatch.{head-place}

-- below 5 is at most 4
pub low-arities : (ns : List ℕ) → all (λ n. ltb n 5) ns ≡ all (λ n. leb n 4) ns
unfolding all
low-arities [] = refl
low-arities (n ∷ ns) =
    ap (λ (b : Bool). b && all (λ n. ltb n 5) ns) (leb-suc-suc n 4) ∙
    ap (λ (b : Bool). leb n 4 && b) (low-arities ns)

-- what a test of the numbers that were kept found, said of all that were read
pub low-found : {ns kept : List ℕ} {count : ℕ} {found : Bool} → Listed ns count kept → count ≤ length kept →
    found ≡ all (λ n. ltb n 5) (take count kept) → all (λ n. leb n 4) ns ≡ found
low-found {ns} s l e = sym (low-arities ns) ∙ (ap (all (λ n. ltb n 5)) (sym (listed-take s l)) ∙ sym e)

module _ (d : Draft) (ns : List ℕ) where
  pub too-many-predicates : 400 < length ns → take_line d (arity_line ns) ≡ refuse 4
  unfolding take_line
  too-many-predicates l =
      need-fails 4 _ (ap (λ (b : Bool). b && all (λ n. leb n 4) ns) (lt-leb (length ns) 400 l))

  pub arity-too-high : all (λ n. leb n 4) ns ≡ false → take_line d (arity_line ns) ≡ refuse 4
  unfolding take_line
  arity-too-high f =
      need-fails 4 _ (ap (λ (b : Bool). leb (length ns) 400 && b) f ∙ and-false (leb (length ns) 400))

  pub arities-taken : length ns ≤ 400 → all (λ n. leb n 4) ns ≡ true →
      take_line d (arity_line ns) ≡ go_on (at_phase between (with_arities d.task ns))
  unfolding take_line
  arities-taken l f = need-met 4 (and_both _ _ (le-leb (length ns) 400 l) f) refl

-- no atom is read before the arities
no_rows : {d : Draft} {w : List ℕ} {c : Counts} → Holds d w c → number_of c.phase ≤ 2 → rows_of d ≡ []
unfolding row_blocks joined concat_map rows_from
no_rows {d = d} h l =
    let o = h.order in
    rw (o.no-schema l, o.not-open l, o.no-init (omega arith), o.no-goal (omega arith)) refl

abbrev counted : Counts → ℕ → Counts
counted c n = record {
  phase = code.Schema;
  objects = c.objects;
  predicates = n;
  schemas = c.schemas;
  params = c.params;
  closed = c.closed;
  atoms = c.atoms;
  initial = c.initial;
  goal = c.goal;
  pairs = c.pairs;
  apart = c.apart;
}

module _ {d : Draft} {w after : List ℕ} {c : Counts} (h : Holds d w c) (ns kept : List ℕ) (n : ℕ) where
  pub arities-held : Allows c arity → n ≤ 400 → all (λ n. leb n 4) ns ≡ true → n ≤ length kept →
      Listed ns n kept → Wrote w head_words n (λ k. get_or kept k 0) after →
      Holds (at_phase between (with_arities d.task ns)) after (counted c n)
  unfolding at_phase with_arities all row_blocks pairs_of joined concat_map rows_from
  arities-held allowed l low room listed wrote =
      let z = head-place (number_of c.phase) arity (omega arith) allowed in
      let o = h.order in
      let few = h.few in
      let e = o.not-open (omega arith) in
      let s = o.no-schema (omega arith) in
      let i = o.no-init (omega arith) in
      let g = o.no-goal (omega arith) in
      let none = no_rows h (omega arith) in
      let rows : rows_of (at_phase between (with_arities d.task ns)) ≡ [] = no-rows-again s i g in
      let pairs : pairs_of (at_phase between (with_arities d.task ns)) ≡ [] = no-pairs-again s in
      let size = wrote.size in
      let long = h.long in
      let nothing = ap length none in
      let many = listed.counted in
      let m = h.rows-length in
      record {
        phase = refl;
        objects = h.objects;
        predicates = sym many;
        schemas = h.schemas;
        params = h.params ∙ ap (λ (s : Schema). s.params) e;
        closed = h.closed;
        atoms = h.atoms ∙ ap (λ (s : Schema). length s.atoms) e;
        initial = h.initial;
        goal = h.goal;
        pairs = h.pairs;
        apart = h.apart ∙ ap (λ (s : Schema). length s.pairs) e;
        few = record {
          predicates = l;
          schemas = few.schemas;
          params = few.params;
          objects = few.objects;
          atoms = few.atoms;
          total = few.total;
          initial = few.initial;
          goal = few.goal;
          pairs = few.pairs;
        };
        order = record {
          no-arity = λ q. absurd (omega arith);
          no-schema = λ q. absurd (omega arith);
          not-open = λ q. absurd (omega arith);
          closed = λ q. refl;
          no-init = λ q. i;
          no-goal = λ q. g;
          room = λ q r. absurd (omega arith);
        };
        low = low;
        fit = fit_none ns;
        init-fit = rw i refl;
        goal-fit = rw g refl;
        long = omega arith;
        arities-stand = stands wrote ns many (λ k q. listed.held k (omega arith) (omega arith));
        params-stand = rw s (λ k q. absurd (omega arith));
        pairs-stand = rw pairs (λ k q. absurd (omega arith));
        rows-stand = rw rows (λ k q. absurd (omega arith));
        rows-length = ap length rows ∙ (sym nothing ∙ m);
      }
    where
      fit_none : (ns : List ℕ) → all (λ a. args_fit ns no_schema.params a.pred a.args) no_schema.atoms ≡ true
      fit_none ns = refl

      no-rows-again : d.task.schemas ≡ [] → d.task.init ≡ [] → d.task.goal ≡ [] →
          rows_of (at_phase between (with_arities d.task ns)) ≡ []
      no-rows-again s i g = rw (s, i, g) refl

      no-pairs-again : d.task.schemas ≡ [] → pairs_of (at_phase between (with_arities d.task ns)) ≡ []
      no-pairs-again s = rw s refl
