-- The table of the task that was read: the pairs were moved down to their place, then the rows to theirs behind them,
-- zeros follow, and the seven counts come first, so the first 14,007 words are the task's and the others are as they
-- were.
use Prim.Native.Nat.{ℕ, ◌+◌, ◌-◌, ◌*◌, ◌≤◌, ◌<◌}
use mathlib.Core.Path.{◌≡◌, refl, sym, ◌∙◌, ap, subst}
use mathlib.Core.Bool.{Bool, true, false}
use mathlib.Core.List.{List, [], ◌∷◌, ◌++◌, map, append-nil}
use native.Mathlib.Omega.{arith}
use lib.ListN.{length, get_or, drop, replicate, length-append, length-map, length-drop, length-replicate, get_or-replicate}
use lib.ListN.{get_or-append}
use lib.Seq.{ext_get_or, get_or-append-add, get_or-drop}
use lib.Dec.{ltb}
use borrow.Author.Tests.{ltb-true, ltb-false}
use Rattle.task.specs.Limits.{table_words, head_words, pair_size, atom_size, table_length}
use Rattle.task.specs.Layout.{head_block}
use Rattle.words.specs.Lists.{concat_map, joined, over, sum}
use Rattle.task.specs.Task.{well_formed, initial, goal_role}
use Rattle.task.specs.Table.{fact_words, pairs_from, schemas_from, head_of, blocks_of, words_of}
use Rattle.words.proofs.Words.{At, at-move}
use Rattle.words.proofs.JoinedWords.{length-joined, at_place, stands-concat, concat-row}
use Rattle.task.proofs.Tables.{content, words_are, words-length, table_words-is}
use Rattle.text.specs.Text.{Draft, between}
use Rattle.text.specs.ReadCode.{Wrote, number_of, phase_number}
use Rattle.text.specs.Holding.{row_blocks, rows_of, pairs_of, Holds, Touched, pairs_at, rows_at}
use Rattle.text.proofs.WroteWords.{stands, stays-before, stays-behind}
use Rattle.text.proofs.HeldPairs.{pairs-length}
use Rattle.text.specs.declared.draft.Counts.{Counts}

-- words that begin with a list, and else are as they were, are the list over them
pub over-is : (xs w after : List ℕ) → length after ≡ length w → length xs ≤ length w →
    ((k : ℕ) → k < length xs → get_or after k 0 ≡ get_or xs k 0) →
    ((k : ℕ) → length xs ≤ k → get_or after k 0 ≡ get_or w k 0) → after ≡ over xs w
unfolding over
over-is xs w after e l front back =
    let n = length-drop (length xs) w in
    let m = length-append xs (drop (length xs) w) in
    ext_get_or 0 after (xs ++ drop (length xs) w) (omega arith) (λ k q. go k (ltb k (length xs)) refl)
  where
    go : (k : ℕ) (b : Bool) → ltb k (length xs) ≡ b → get_or after k 0 ≡ get_or (xs ++ drop (length xs) w) k 0
    go k true h =
        let s = ltb-true k (length xs) h in
        front k s ∙ sym (get_or-append xs (drop (length xs) w) 0 k s)
    go k false h =
        let s = ltb-false k (length xs) h in
        let z : length xs + (k - length xs) ≡ k = omega arith in
        back k s ∙ (ap (λ (i : ℕ). get_or w i 0) (sym z) ∙
        (sym (get_or-drop (length xs) w (k - length xs) 0) ∙
        (sym (get_or-append-add xs (drop (length xs) w) (k - length xs) 0) ∙
        ap (λ (i : ℕ). get_or (xs ++ drop (length xs) w) i 0) z)))

-- words whose front was cleared, of words that behind it are as they were lent
pub cleared-over : (n : ℕ) (lent w after : List ℕ) → n ≤ length lent → length w ≡ length lent →
    ((j : ℕ) → n ≤ j → get_or w j 0 ≡ get_or lent j 0) → Wrote w 0 n (λ k. 0) after → after ≡ over (replicate n 0) lent
cleared-over n lent w after l s beyond h =
    let r = h.size in
    let m = length-replicate {A = ℕ} n 0 in
    over-is (replicate n 0) lent after (omega arith) (omega arith)
    (λ k q.
    let z : 0 + k ≡ k = omega arith in
    ap (λ (i : ℕ). get_or after i 0) (sym z) ∙
    (h.put k (omega arith) ∙ sym (get_or-replicate n k 0 0 (omega arith))))
    (λ k q. h.behind k (omega arith) ∙ beyond k (omega arith))

-- a table that was cleared, of one whose words beyond are untouched
pub cleared-is : (lent w after : List ℕ) → table_words ≤ length lent → Touched lent w →
    Wrote w 0 table_words (λ k. 0) after → after ≡ over (replicate table_words 0) lent
cleared-is lent w after l t h = cleared-over table_words lent w after l t.size t.beyond h

-- a list over words is the list over those that have the same words beyond
pub over-touched : (xs lent w : List ℕ) → length xs ≡ table_words → table_words ≤ length lent → Touched lent w →
    over xs w ≡ over xs lent
unfolding over
over-touched xs lent w e l t =
    let s = t.size in
    let n = length-drop (length xs) w in
    let m = length-append xs (drop (length xs) w) in
    over-is xs lent (xs ++ drop (length xs) w) (omega arith) (omega arith)
    (λ k q. get_or-append xs (drop (length xs) w) 0 k q)
    (λ k q.
    let z : length xs + (k - length xs) ≡ k = omega arith in
    ap (λ (i : ℕ). get_or (xs ++ drop (length xs) w) i 0) (sym z) ∙
    (get_or-append-add xs (drop (length xs) w) (k - length xs) 0 ∙
    (get_or-drop (length xs) w (k - length xs) 0 ∙ (ap (λ (i : ℕ). get_or w i 0) z ∙ t.beyond k (omega arith)))))

module _ {d : Draft} {w : List ℕ} {c : Counts} (h : Holds d w c)
    (closed : phase_number between ≤ number_of c.phase) where
  abbrev pairs_to : ℕ
  pairs_to = head_words + c.predicates + c.schemas

  abbrev many_pairs : ℕ
  many_pairs = pair_size * (c.pairs + c.apart)

  abbrev to : ℕ
  to = pairs_to + many_pairs

  abbrev many : ℕ
  many = atom_size * (((c.closed + c.atoms) + c.initial) + c.goal)

  abbrev head : List ℕ
  head = head_block (record {
    objects = c.objects;
    predicates = c.predicates;
    schemas = c.schemas;
    schema_atoms = c.closed;
    initial_atoms = c.initial;
    goal_atoms = c.goal;
    pairs = c.pairs;
  })

  abbrev params : List ℕ
  params = map (λ s. s.params) d.task.schemas

  abbrev pairs : List ℕ
  pairs = pairs_from 0 d.task.schemas

  -- the blocks behind the pairs
  abbrev atom_blocks : List (List ℕ)
  atom_blocks =
      schemas_from 0 d.task.schemas ∷
      concat_map (fact_words initial) d.task.init ∷
      concat_map (fact_words goal_role) d.task.goal ∷ []

  abbrev rows : List ℕ
  rows = joined atom_blocks

  -- no schema is being read any more
  pairs-are : pairs_of d ≡ pairs
  unfolding pairs_of concat_map
  pairs-are = rw (h.order.closed closed) (append-nil pairs)

  rows_are : rows_of d ≡ rows
  unfolding row_blocks joined concat_map
  rows_are = rw (h.order.closed closed) refl

  head-is : head ≡ head_block (head_of d.task)
  head-is = rw (h.objects, h.predicates, h.schemas, h.closed, h.initial, h.goal, h.pairs) refl

  pairs-long : length pairs ≡ many_pairs
  pairs-long = ap length (sym pairs-are) ∙ pairs-length h

  rows_long : length rows ≡ many
  rows_long = ap length (sym rows_are) ∙ h.rows-length

  module _ {paired moved zeroed after : List ℕ}
      (first : Wrote w pairs_to many_pairs (λ k. get_or w (pairs_at c.predicates + k) 0) paired)
      (down : Wrote paired to many (λ k. get_or paired (rows_at c.predicates + k) 0) moved)
      (zeros : Wrote moved (to + many) (table_length - (to + many)) (λ k. 0) zeroed)
      (heads : Wrote zeroed 0 head_words (λ k. get_or head k 0) after) where
    -- what stands before the rows' place once the pairs have moved
    early-laid : (i : ℕ) (xs : List ℕ) → head_words ≤ i → i + length xs ≤ to → At paired i xs → At after i xs
    early-laid i xs l m a =
        stays-behind heads i xs l (stays-before zeros i xs (omega arith) (stays-before down i xs m a))

    arities-laid : At after head_words d.task.arities
    arities-laid =
        let p = h.predicates in
        early-laid head_words d.task.arities (omega arith) (omega arith)
        (stays-before first head_words d.task.arities (omega arith) h.arities-stand)

    params-laid : At after (head_words + length d.task.arities) params
    params-laid =
        let p = h.predicates in
        let s = h.schemas in
        let m = length-map d.task.schemas (λ s. s.params) in
        early-laid (head_words + length d.task.arities) params (omega arith) (omega arith)
        (stays-before first (head_words + length d.task.arities) params (omega arith) h.params-stand)

    pairs-laid : At after pairs_to pairs
    pairs-laid =
        let n = pairs-long in
        early-laid pairs_to pairs (omega arith) (omega arith) (λ k l.
        let p = h.predicates in
        let z : pairs_at c.predicates + k ≡ pairs_at (length d.task.arities) + k = omega arith in
        first.put k (omega arith) ∙ (ap (λ (i : ℕ). get_or w i 0) z ∙
        subst (At w (pairs_at (length d.task.arities))) pairs-are h.pairs-stand k l))

    -- the pairs moved down before the rows, so these stand where they did
    rows-kept : At paired (rows_at (length d.task.arities)) rows
    rows-kept =
        let p = h.predicates in
        let s = h.few.schemas in
        let n = h.few.pairs in
        stays-behind first (rows_at (length d.task.arities)) rows (omega arith)
        (subst (At w (rows_at (length d.task.arities))) rows_are h.rows-stand)

    rows-laid : At after to rows
    rows-laid =
        let n = rows_long in
        stays-behind heads to rows (omega arith)
        (stays-before zeros to rows (omega arith) (λ k l.
        let p = h.predicates in
        let z : rows_at c.predicates + k ≡ rows_at (length d.task.arities) + k = omega arith in
        down.put k (omega arith) ∙ (ap (λ (i : ℕ). get_or paired i 0) z ∙ rows-kept k l)))

    content-laid : At after 0 (content d.task)
    unfolding blocks_of
    content-laid =
        let p = h.predicates in
        let s = h.schemas in
        let m = length-map d.task.schemas (λ s. s.params) in
        let n = pairs-long in
        let behind : ℕ = pairs_to + length pairs in
        stands-concat after 0 (blocks_of d.task)
        (at_place 0 refl (subst (At after 0) head-is (stands heads head refl (λ k l. refl)))
        (at_place head_words (omega arith) arities-laid
        (at_place (head_words + length d.task.arities) refl params-laid
        (at_place pairs_to (omega arith) pairs-laid
        (concat-row after behind atom_blocks (at-move after to behind rows (omega arith) rows-laid))))))

    content-long : length (content d.task) ≡ to + many
    unfolding blocks_of sum
    content-long =
        let p = h.predicates in
        let s = h.schemas in
        let m = length-map d.task.schemas (λ s. s.params) in
        omega (arith, pairs-long, rows_long, length-joined atom_blocks, length-joined (blocks_of d.task))

    pub laid_out : to + many ≤ table_length → well_formed d.task ≡ true → after ≡ over (words_of d.task) w
    laid_out room well =
        let t = table_words-is in
        let long = h.long in
        let n = words-length d.task well in
        let s₀ = first.size in
        let s₁ = down.size in
        let s₂ = zeros.size in
        let s₃ = heads.size in
        over-is (words_of d.task) w after (omega arith) (omega arith)
        (λ k l. words_are after d.task content-laid zeros-laid k (omega arith))
        (λ k l. heads.behind k (omega arith) ∙ (zeros.behind k (omega arith) ∙
        (down.behind k (omega arith) ∙ first.behind k (omega arith))))
      where
        zeros-laid : (k : ℕ) → length (content d.task) ≤ k → k < table_words → get_or after k 0 ≡ 0
        zeros-laid k l m =
            let n = content-long in
            let t = table_words-is in
            let z : (to + many) + (k - (to + many)) ≡ k = omega arith in
            heads.behind k (omega arith) ∙ (ap (λ (i : ℕ). get_or zeroed i 0) (sym z) ∙
            zeros.put (k - (to + many)) (omega arith))
