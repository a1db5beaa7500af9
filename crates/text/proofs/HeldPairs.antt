-- A `differ` line: the code's tests of its pair are the definitions' tests, and behind the line the code holds the
-- draft with one pair more. The words of the pairs that were read, here for the other lines too, stand before all rows
-- of atoms.
use Prim.Native.Nat.{ℕ, zero, suc, ◌+◌, ◌-◌, ◌*◌, ◌≤◌, ◌<◌}
use mathlib.Core.Path.{◌≡◌, refl, sym, ◌∙◌, ap, ap₂, subst}
use mathlib.Core.Bool.{Bool, true, false}
use mathlib.Core.List.{List, [], ◌∷◌, ◌++◌, map, append_assoc, append-nil}
use Rattle.std.specs.Prelude.{Ok}
use native.Mathlib.Omega.{arith}
use lib.ListN.{length, get_or, length-append, length-map}
use lib.Dec.{eqb, ltb}
use borrow.Author.Tests.{ltb-true, le-ltb, lt-ltb, eq-eqb, ne_eqb}
use Rattle.words.specs.Lists.{concat_map}
use Rattle.words.specs.Words.{word_bound}
use Rattle.task.specs.Limits.{head_words, pair_size, table_length}
use Rattle.task.specs.Task.{Pair, Schema, pair_fits, pair_less, schema_pairs}
use Rattle.task.specs.Table.{pair_words, pairs_from}
use Rattle.words.proofs.Lists.{and_left, and_right, append-concat_map}
use Rattle.words.proofs.Words.{at_right, at-move, at_join, at_row, length-rows}
use Rattle.task.proofs.PairOrder.{fits_not, fits-known}
use Rattle.task.proofs.PairsStand.{no_pair, length-pair_words, pairs-even}
use Rattle.task.proofs.SchemaRows.{length-rows_from}
use Rattle.task.proofs.Tables.{table_words-is}
use Rattle.text.specs.Reading.{go_on, refuse}
use Rattle.text.specs.Text.{Draft, differ, pair_follows, add_pair}
use Rattle.text.specs.ReadCode.{number_of, Standing, Wrote, Listed}
use Rattle.text.specs.Holding.{Holds, Allows, PairTurn, row_blocks, rows_of, pairs_of, pairs_at, rows_at, pair_at}
use Rattle.text.specs.Holding.{pair_of, with_pair, one_pair_more}
use Rattle.text.proofs.Reading.{need-met, need-went}
use Rattle.text.proofs.Growing.{pairs-order, later-behind}
use Rattle.text.proofs.LineTurns.{need-fails}
use Rattle.text.proofs.WroteWords.{stands, stays-before, stays-behind}
use Rattle.text.proofs.Dispatch.{differ-place}
use Rattle.text.specs.declared.draft.Counts.{Counts}

-- ---- the words of the pairs
-- they stay where the pairs do, whatever else of the draft changes
pub pairs-stay : (d e : Draft) (w : List ℕ) (at : ℕ) → d.task.schemas ≡ e.task.schemas →
    d.current.pairs ≡ e.current.pairs → Standing w at (pairs_of d) → Standing w at (pairs_of e)
unfolding pairs_of
pairs-stay d e w at s q =
    subst (Standing w at)
    (ap₂ (λ (ss : List Schema) (qs : List Pair). pairs_from 0 ss ++ concat_map (pair_words (length ss)) qs) s q)

module _ {d : Draft} {w : List ℕ} {c : Counts} (h : Holds d w c) where
  abbrev S : ℕ
  S = length d.task.schemas

  before-length : length (pairs_from 0 d.task.schemas) ≡ pair_size * c.pairs
  before-length =
      let n = h.pairs in
      let l = length-rows_from pair_words (λ s. s.pairs) pair_size 0 d.task.schemas (pairs-even d.task.schemas) in
      omega arith

  pub pairs-length : length (pairs_of d) ≡ pair_size * (c.pairs + c.apart)
  unfolding pairs_of
  pairs-length =
      let a = before-length in
      let n = h.apart in
      let b = length-rows (pair_words S) pair_size d.current.pairs (λ q i. length-pair_words S q) in
      omega (arith, length-append (pairs_from 0 d.task.schemas) (concat_map (pair_words S) d.current.pairs))

  -- there is room for all of them before the rows
  pub pairs-before : pairs_at c.predicates + length (pairs_of d) ≤ rows_at c.predicates
  pairs-before = let l = pairs-length in let few = h.few.pairs in omega arith

  -- and for the last one in the table
  pub last-inside : {at : ℕ} → at ≡ pair_at c - pair_size → at + pair_size ≤ length w
  last-inside e =
      let few = h.few.pairs in
      let p = h.few.predicates in
      let z = table_words-is in
      let long = h.long in
      omega arith

  -- the pair that was read last in its schema, before the place of the next
  last-stands : 0 < c.apart →
      Standing w (pair_at c - pair_size) (pair_words S (get_or d.current.pairs (c.apart - 1) no_pair))
  unfolding pairs_of
  last-stands pos =
      let p = h.predicates in
      let n = h.apart in
      let a = before-length in
      let base = pairs_at (length d.task.arities) in
      at-move w (base + length (pairs_from 0 d.task.schemas) + pair_size * (c.apart - 1)) (pair_at c - pair_size)
      (pair_words S (get_or d.current.pairs (c.apart - 1) no_pair)) (omega arith)
      (at_row (pair_words S) pair_size w (base + length (pairs_from 0 d.task.schemas)) d.current.pairs no_pair
      (λ q i. length-pair_words S q)
      (at_right w base (pairs_from 0 d.task.schemas) (concat_map (pair_words S) d.current.pairs) h.pairs-stand)
      (c.apart - 1) (omega arith))

  -- "strictly ascending": the code's comparison with the last pair's words is the definition's with the pairs read
  pub follows-last : 0 < c.apart → (at : ℕ) → at ≡ pair_at c - pair_size → (q : Pair) →
      pair_less (record { lower = get_or w (at + 1) 0; higher = get_or w (at + 2) 0 }) q ≡ pair_follows d.current.pairs q
  unfolding pair_words
  follows-last pos at e q =
      let n = h.apart in
      let k = c.apart - 1 in
      let place : pair_at c - pair_size ≡ at = sym e in
      let stand = at-move w (pair_at c - pair_size) at (pair_words S (get_or d.current.pairs k no_pair)) place
      (last-stands pos) in
      let lower : get_or w (at + 1) 0 ≡ (get_or d.current.pairs k no_pair).lower = stand 1 (omega arith) in
      let higher : get_or w (at + 2) 0 ≡ (get_or d.current.pairs k no_pair).higher = stand 2 (omega arith) in
      ap₂ (λ (x y : ℕ). pair_less (record { lower = x; higher = y }) q) lower higher ∙
      sym (later-behind pairs-order d.current.pairs q k no_pair (omega arith))

-- ---- the tests of a pair
module _ (d : Draft) (ns : List ℕ) where
  abbrev all-pairs : ℕ
  all-pairs = schema_pairs d.task.schemas + length d.current.pairs

  abbrev fits : Bool
  fits = pair_fits d.current.params (pair_of ns)

  not-two : (length ns ≡ 2 → ⊥) → add_pair d ns ≡ refuse 3
  unfolding add_pair
  not-two n = need-fails 3 _ (ne_eqb (length ns) 2 n)

  module _ (two : length ns ≡ 2) where
    pairs-full : 200 ≤ all-pairs → add_pair d ns ≡ refuse 21
    unfolding add_pair
    pairs-full l = need-met 3 (eq-eqb (length ns) 2 two) (need-fails 21 _ (le-ltb all-pairs 200 l))

    module _ (room : all-pairs < 200) where
      pair-misfits : fits ≡ false → add_pair d ns ≡ refuse 19
      unfolding add_pair
      pair-misfits f =
          need-met 3 (eq-eqb (length ns) 2 two) (need-met 21 (lt-ltb all-pairs 200 room) (need-fails 19 _ f))

      module _ (low : fits ≡ true) where
        pair-unordered : pair_follows d.current.pairs (pair_of ns) ≡ false → add_pair d ns ≡ refuse 19
        unfolding add_pair
        pair-unordered f =
            need-met 3 (eq-eqb (length ns) 2 two)
            (need-met 21 (lt-ltb all-pairs 200 room) (need-met 19 low (need-fails 19 _ f)))

        pair-taken : pair_follows d.current.pairs (pair_of ns) ≡ true →
            add_pair d ns ≡ go_on (with_pair d (pair_of ns))
        unfolding add_pair with_pair
        pair-taken f =
            need-met 3 (eq-eqb (length ns) 2 two)
            (need-met 21 (lt-ltb all-pairs 200 room) (need-met 19 low (need-met 19 f refl)))

-- the two numbers that were kept are those of the line
kept-pair : {ns kept : List ℕ} {count : ℕ} → Listed ns count kept → count ≡ 2 → length kept ≡ 2 →
    pair_of kept ≡ pair_of ns
kept-pair s e l =
    let n = s.counted in
    let lower = s.held 0 (omega arith) (omega arith) in
    let higher = s.held 1 (omega arith) (omega arith) in
    λ j. record { lower = lower j; higher = higher j }

-- and said of the numbers that were kept
module _ {d : Draft} {w : List ℕ} {c : Counts} (h : Holds d w c) {ns kept : List ℕ} {count : ℕ}
    (s : Listed ns count kept) (size : length kept ≡ 2) where
  pub count-wrong : (count ≡ 2 → ⊥) → add_pair d ns ≡ refuse 3
  count-wrong n = not-two d ns (λ e. n (sym s.counted ∙ e))

  module _ (two : count ≡ 2) where
    abbrev line-two : length ns ≡ 2
    line-two = s.counted ∙ two

    pub count-full : 200 ≤ c.pairs + c.apart → add_pair d ns ≡ refuse 21
    count-full l = let p = h.pairs in let a = h.apart in pairs-full d ns line-two (omega arith)

    module _ (room : c.pairs + c.apart < 200) where
      line-room : schema_pairs d.task.schemas + length d.current.pairs < 200
      line-room = let p = h.pairs in let a = h.apart in omega arith

      line-fits : {b : Bool} → pair_fits d.current.params (pair_of kept) ≡ b →
          pair_fits d.current.params (pair_of ns) ≡ b
      line-fits e = ap (pair_fits d.current.params) (sym (kept-pair s two size)) ∙ e

      pub not_lower : get_or kept 1 0 ≤ get_or kept 0 0 → add_pair d ns ≡ refuse 19
      not_lower l =
          pair-misfits d ns line-two line-room (line-fits (sym (fits_not d.current.params (pair_of kept) l)))

      module _ (lower : get_or kept 0 0 < get_or kept 1 0) where
        pub too-high : c.params ≤ get_or kept 1 0 → add_pair d ns ≡ refuse 19
        too-high l =
            let p = h.params in
            pair-misfits d ns line-two line-room
            (line-fits (sym (fits-known d.current.params (pair_of kept) lower) ∙
            le-ltb (get_or kept 1 0) d.current.params (omega arith)))

        module _ (known : get_or kept 1 0 < c.params) where
          low : pair_fits d.current.params (pair_of ns) ≡ true
          low =
              let p = h.params in
              line-fits (sym (fits-known d.current.params (pair_of kept) lower) ∙
              lt-ltb (get_or kept 1 0) d.current.params (omega arith))

          line-follows : {b : Bool} → pair_follows d.current.pairs (pair_of kept) ≡ b →
              pair_follows d.current.pairs (pair_of ns) ≡ b
          line-follows e = ap (pair_follows d.current.pairs) (sym (kept-pair s two size)) ∙ e

          pub not_behind : pair_follows d.current.pairs (pair_of kept) ≡ false → add_pair d ns ≡ refuse 19
          not_behind e = pair-unordered d ns line-two line-room low (line-follows e)

          pub pair-passes : pair_follows d.current.pairs (pair_of kept) ≡ true → PairTurn d ns (Ok tt)
          pair-passes e = (pair-taken d ns line-two line-room low (line-follows e), line-two)

-- what a pair that is taken has passed
record PairPassed (d : Draft) (ns : List ℕ) : Type 0 where
  room : schema_pairs d.task.schemas + length d.current.pairs < 200
  ascends : (pair_of ns).lower < (pair_of ns).higher
  low : (pair_of ns).higher < d.current.params

pair-passed : (d : Draft) (ns : List ℕ) (e : Draft) → add_pair d ns ≡ go_on e → PairPassed d ns
unfolding add_pair
pair-passed d ns e h =
    let (two, a) = need-went (eqb (length ns) 2) 3 _ e h in
    let (room, b) = need-went (ltb (all-pairs d ns) 200) 21 _ e a in
    let (low, more) = need-went (fits d ns) 19 _ e b in
    let q = pair_of ns in
    record {
      room = ltb-true (all-pairs d ns) 200 room;
      ascends = ltb-true q.lower q.higher
          (and_left (ltb q.lower q.higher) (ltb q.higher d.current.params) low);
      low = ltb-true q.higher d.current.params
          (and_right (ltb q.lower q.higher) (ltb q.higher d.current.params) low);
    }

-- ---- one pair more
module _ {d : Draft} {w : List ℕ} {c : Counts} (h : Holds d w c) (q : Pair) where
  abbrev number : ℕ
  number = length d.task.schemas

  pairs-more : pairs_of (with_pair d q) ≡ pairs_of d ++ pair_words number q
  unfolding pairs_of with_pair concat_map
  pairs-more =
      rw (append-concat_map (pair_words number) d.current.pairs (q ∷ []))
      (regroup (pairs_from 0 d.task.schemas) (concat_map (pair_words number) d.current.pairs) (pair_words number q))
    where
      regroup : (x y z : List ℕ) → x ++ (y ++ (z ++ [])) ≡ (x ++ y) ++ z
      regroup x y z = simp (append_assoc, append-nil)

  pair_held : {after : List ℕ} → Allows c differ → c.pairs + c.apart < 200 →
      Wrote w (pair_at c) pair_size (λ k. get_or (pair_words number q) k 0) after →
      Holds (with_pair d q) after (one_pair_more c)
  unfolding with_pair row_blocks
  pair_held {after} allowed room wrote =
      let o = h.order in
      let few = h.few in
      let z = differ-place (number_of c.phase) allowed in
      let p = h.predicates in
      let s = h.schemas in
      let most = few.schemas in
      let n = h.apart in
      let size = wrote.size in
      let long = h.long in
      let params = map (λ s. s.params) d.task.schemas in
      let m = length-map d.task.schemas (λ s. s.params) in
      let base = pairs_at (length d.task.arities) in
      let l = pairs-length h in
      record {
        phase = refl;
        objects = h.objects;
        predicates = h.predicates;
        schemas = h.schemas;
        params = h.params;
        closed = h.closed;
        atoms = h.atoms;
        initial = h.initial;
        goal = h.goal;
        pairs = h.pairs;
        apart = omega (arith, length-append d.current.pairs (q ∷ []));
        few = record {
          predicates = few.predicates;
          schemas = few.schemas;
          params = few.params;
          objects = few.objects;
          atoms = few.atoms;
          total = few.total;
          initial = few.initial;
          goal = few.goal;
          pairs = omega arith;
        };
        order = record {
          no-arity = λ q. absurd (omega arith);
          no-schema = λ q. absurd (omega arith);
          not-open = λ q. absurd (omega arith);
          closed = λ q. absurd (omega arith);
          no-init = λ q. o.no-init (omega arith);
          no-goal = λ q. o.no-goal (omega arith);
          room = λ q x. o.room (omega arith) (omega arith);
        };
        low = h.low;
        fit = h.fit;
        init-fit = h.init-fit;
        goal-fit = h.goal-fit;
        long = omega arith;
        arities-stand = stays-before wrote head_words d.task.arities (omega arith) h.arities-stand;
        params-stand = stays-before wrote (head_words + length d.task.arities) params (omega arith)
            h.params-stand;
        pairs-stand = subst (Standing after base) (sym pairs-more)
            (at_join after base (pairs_of d) (pair_words number q)
            (stays-before wrote base (pairs_of d) (omega arith) h.pairs-stand)
            (at-move after (pair_at c) (base + length (pairs_of d)) (pair_words number q) (omega arith)
            (stands wrote (pair_words number q) (length-pair_words number q) (λ k l. refl))));
        rows-stand = stays-behind wrote (rows_at (length d.task.arities)) (rows_of d) (omega arith) h.rows-stand;
        rows-length = h.rows-length;
      }

three-words : {a b c : ℕ} → a < word_bound → b < word_bound → c < word_bound → (k : ℕ) → k < pair_size →
    get_or (a ∷ b ∷ c ∷ []) k 0 < word_bound
three-words {a} {b} {c} ha hb hc = at
  where
    at : (k : ℕ) → k < pair_size → get_or (a ∷ b ∷ c ∷ []) k 0 < word_bound
    at zero l = ha
    at (suc zero) l = hb
    at (suc (suc zero)) l = hc
    at (suc (suc (suc k))) l = absurd (omega arith)

-- a pair's row by other names of its parts
pair_row : {w after : List ℕ} {at at' s s' : ℕ} (q r : Pair) → at ≡ at' → s ≡ s' → q ≡ r →
    Wrote w at pair_size (λ k. get_or (s ∷ q.lower ∷ q.higher ∷ []) k 0) after →
    Wrote w at' pair_size (λ k. get_or (pair_words s' r) k 0) after
unfolding pair_words
pair_row {w} {after} {at} {at'} {s} {s'} q r e f g h =
    subst (λ (i : ℕ). Wrote w i pair_size (λ k. get_or (pair_words s' r) k 0) after) e
    (subst (λ (i : ℕ). Wrote w at pair_size (λ k. get_or (pair_words i r) k 0) after) f
    (subst (λ (p : Pair). Wrote w at pair_size (λ k. get_or (pair_words s p) k 0) after) g h))

-- of a pair that passes: its words lie in the table, before its rows, they are words, and once they are put the code
-- holds the draft again
module _ {d : Draft} {w : List ℕ} {c : Counts} (h : Holds d w c) {ns kept : List ℕ} {count : ℕ}
    (s : Listed ns count kept) (size : length kept ≡ 2) (passes : PairTurn d ns (Ok tt)) where
  passed : PairPassed d ns
  passed = pair-passed d ns _ passes.0

  room : c.pairs + c.apart < 200
  room = let p = h.pairs in let a = h.apart in let l = passed.room in omega arith

  pub pair_inside : {at : ℕ} → at ≡ pair_at c → at + pair_size ≤ table_length
  pair_inside e = let l = room in let p = h.few.predicates in omega arith

  pub pair-numbers : (k : ℕ) → k < pair_size →
      get_or (c.schemas ∷ get_or kept 0 0 ∷ get_or kept 1 0 ∷ []) k 0 < word_bound
  pair-numbers =
      let two = passes.1 in
      let lower = s.held 0 (omega arith) (omega arith) in
      let higher = s.held 1 (omega arith) (omega arith) in
      let ascends = passed.ascends in
      let known = passed.low in
      let params = h.params in
      let few = h.few.params in
      let schemas = h.few.schemas in
      three-words (omega arith) (omega arith) (omega arith)

  pub pair_put : {after : List ℕ} {at : ℕ} → Allows c differ → at ≡ pair_at c →
      Wrote w at pair_size (λ k. get_or (c.schemas ∷ get_or kept 0 0 ∷ get_or kept 1 0 ∷ []) k 0) after →
      Holds (with_pair d (pair_of ns)) after (one_pair_more c)
  pair_put allowed e wrote =
      pair_held h (pair_of ns) allowed room
      (pair_row (pair_of kept) (pair_of ns) e h.schemas (kept-pair s (sym s.counted ∙ passes.1) size) wrote)
