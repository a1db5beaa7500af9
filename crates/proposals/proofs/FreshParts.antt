-- A table with fresh parts: words into which a table is copied, and then the parts proposed for its schema atoms, are
-- the words of the task proposed. Both tasks have the same counts, and the same words in all blocks but that of the
-- schema atoms; there each row is that of the atom, in its new part.
use Prim.Native.Nat.{ℕ, suc, ◌+◌, ◌*◌, ◌≤◌, ◌<◌}
use mathlib.Core.Path.{◌≡◌, refl, sym, ◌∙◌, ap, ap₂, subst, subst₂}
use mathlib.Core.Bool.{true}
use mathlib.Core.List.{List, [], ◌∷◌, ◌++◌, map}
use native.Mathlib.Omega.{arith}
use native.Mathlib.Decide.{dec_lt}
use lib.ListN.{length, get_or, set, take, drop, length-set, take-append-drop, get_or-append}
use lib.Seq.{ext_get_or, get_or-take, length-take-le, get_or-set_same, get_or-set_other, drop-set-lt, drop_at}
use Rattle.words.specs.Lists.{concat_map, over, sum}
use Rattle.words.specs.Putting.{Puts}
use Rattle.words.specs.Words.{words_at}
use Rattle.words.proofs.Lists.{In, map-in, map-map, length-padded}
use Rattle.words.proofs.Puts.{put-over, puts-length}
use Rattle.words.proofs.Words.{At, at-move, get_or-words_at, length-words_at}
use Rattle.task.specs.Layout.{Head, head_block, head_in, goals_from, params_base, rows_base, words_used, facts_base, pair_base}
use Rattle.task.specs.Layout.{atom_base}
use Rattle.task.specs.Limits.{table_length, table_words, head_words, atom_size}
use Rattle.task.specs.Run.{schema_at}
use Rattle.task.specs.Task.{Atom, Schema, Task, initial, goal_role}
use Rattle.task.specs.Table.{fact_words, pair_words, rows_from, schemas_from, pairs_from, head_of, blocks_of, task_of, words_of}
use Rattle.task.specs.Table.{is_table}
use Rattle.task.proofs.AtomsStand.{Sized, Lengths}
use Rattle.task.proofs.Tables.{start_of, content, block_sizes, block-lengths, length-content, content-used}
use Rattle.task.proofs.Tables.{Places, places, places-tabled, head-is, head_read, head-stands, words_are, table_words-is}
use Rattle.task.proofs.TablesByIndex.{Frame, table-frame, used-inside, atom-inside, atoms-word, schemas-word, start-suc}
use Rattle.task.proofs.TablesPass.{table-words}
use Rattle.arcs.proofs.Stretches.{schema-stretch}
use Rattle.proposals.specs.Proposal.{with_part, with_parts, proposed_parts, proposed_schema, proposed_task}
use Rattle.proposals.specs.Scratch.{HaveParts}
use Rattle.proposals.proofs.ProposedTask.{proposed-length, same-atoms, same-pairs}
use Rattle.proposals.proofs.FreshRows.{parted-in, schemas-fresh}

-- ---- the words as code leaves them
-- where the part of atom k stands
abbrev pub part_word : List ℕ → ℕ → ℕ
part_word w k = atom_base w k + 3

-- in words into which a table was copied the parts of the first i atoms are written; all others stay
pub record Fresh (w parts copied : List ℕ) (i : ℕ) (after : List ℕ) : Type 0 where
  pub long : length after ≡ length copied
  pub put : (k : ℕ) → k < i → get_or after (part_word w k) 0 ≡ get_or parts k 0
  pub same : (j : ℕ) → ((k : ℕ) → k < i → j ≡ part_word w k → ⊥) → get_or after j 0 ≡ get_or copied j 0
  pub behind : drop table_words after ≡ drop table_words copied

pub fresh_start : {w parts copied : List ℕ} → Fresh w parts copied 0 copied
fresh_start = record { long = refl; put = λ k l. absurd (omega arith); same = λ j h. refl; behind = refl }

pub fresh-more : {w parts copied after : List ℕ} {i : ℕ} → Fresh w parts copied i after → (at : ℕ) →
    at ≡ part_word w i → at < table_words → table_words ≤ length copied →
    Fresh w parts copied (i + 1) (set after at (get_or parts i 0))
unfolding atom_base
fresh-more {w} {parts} {copied} {after} {i} f at e inside room =
    let n = f.long in
    let p : ℕ = get_or parts i 0 in
    record {
      long = length-set after at p ∙ n;
      put = λ k l. elim (dec_lt k i) [
        | yes m ↦ get_or-set_other after at (part_word w k) p 0 (λ d. omega arith) ∙ f.put k m
        | no m ↦
            let d : i ≡ k = omega arith in
            subst (λ (k : ℕ). get_or (set after at p) (part_word w k) 0 ≡ get_or parts k 0) d
            (ap (λ (j : ℕ). get_or (set after at p) j 0) (sym e) ∙ get_or-set_same after at p 0 (omega arith))
      ];
      same = λ j h.
          get_or-set_other after at j p 0 (λ d. h i (omega arith) (d ∙ e)) ∙ f.same j (λ k m. h k (omega arith));
      behind = drop-set-lt table_words after at p inside ∙ f.behind;
    }

-- every part word lies in the table
pub part-inside : (w : List ℕ) → is_table w ≡ true → (i : ℕ) → i < (head_in w).schema_atoms → part_word w i < table_words
part-inside w table i l = omega (arith, atom-inside w (table-frame w table) i (omega arith))

-- a table that is copied
module _ (w : List ℕ) {lent copied : List ℕ} {next : ℕ} (room : table_words ≤ length lent)
    (p : Puts lent 0 (words_at w 0 table_length) copied next) where
  copied_is : copied ≡ words_at w 0 table_words ++ drop table_words lent
  unfolding over
  copied_is =
      let e = table_words-is in
      let n = length-words_at w 0 table_length in
      p.words ∙ (put-over (words_at w 0 table_length) lent (omega arith) ∙
      ap₂ (λ (i j : ℕ). words_at w 0 i ++ drop j lent) (sym e) (n ∙ sym e))

  copied_at : (j : ℕ) → j < table_words → get_or copied j 0 ≡ get_or w j 0
  copied_at j l =
      let z : 0 + j ≡ j = omega arith in
      let n = length-words_at w 0 table_words in
      ap (λ (xs : List ℕ). get_or xs j 0) copied_is ∙
      (get_or-append (words_at w 0 table_words) (drop table_words lent) 0 j (omega arith) ∙
      (get_or-words_at w 0 table_words j l ∙ ap (λ (i : ℕ). get_or w i 0) z))

  copied_behind : drop table_words copied ≡ drop table_words lent
  copied_behind =
      ap (drop table_words) copied_is ∙
      drop_at (words_at w 0 table_words) (drop table_words lent) table_words (length-words_at w 0 table_words)

-- ---- what the task proposed keeps
module _ (width : ℕ) where
  lengths-proposed : (t : Task) → Lengths t → Lengths (proposed_task width t)
  unfolding proposed_task proposed_schema with_parts with_part
  lengths-proposed t q = record {
    schema = λ s i x j.
        let (u, m, e) = map-in (proposed_schema width) t.schemas s i in
        let y : In x (proposed_schema width u).atoms = subst (λ (s : Schema). In x s.atoms) e j in
        let (p, a, n, f) = parted-in u.atoms (proposed_parts width u) x y in
        subst (λ (x : Atom). Sized t.arities x.pred x.args) (sym f) (q.schema u m a n);
    init = q.init;
    goal = q.goal;
  }

  head-proposed : (t : Task) → head_of (proposed_task width t) ≡ head_of t
  unfolding proposed_task
  head-proposed t =
      let schemas = proposed-length width t in
      let atoms = same-atoms width t.schemas in
      let pairs = same-pairs width t.schemas in
      λ j. record {
        objects = t.objects;
        predicates = length t.arities;
        schemas = schemas j;
        schema_atoms = atoms j;
        initial_atoms = length t.init;
        goal_atoms = length t.goal;
        pairs = pairs j;
      }

  pairs-proposed : (n : ℕ) (ss : List Schema) → pairs_from n (map (proposed_schema width) ss) ≡ pairs_from n ss
  unfolding rows_from proposed_schema with_parts
  pairs-proposed n [] = refl
  pairs-proposed n (s ∷ ss) =
      ap (λ (ws : List ℕ). concat_map (pair_words n) s.pairs ++ ws) (pairs-proposed (suc n) ss)

-- ---- a table whose part words are all written
module _ {w parts lent copied after : List ℕ} {next i : ℕ} (table : is_table w ≡ true) (room : table_words ≤ length lent)
    (p : Puts lent 0 (words_at w 0 table_length) copied next) (f : Fresh w parts copied i after)
    (all : i ≡ (head_in w).schema_atoms) (width : ℕ)
    (have : HaveParts width (task_of w) (length (task_of w).schemas) parts) where
  abbrev t : Task
  t = task_of w

  abbrev t' : Task
  t' = proposed_task width (task_of w)

  fr : Frame w
  fr = table-frame w table

  -- words that aren't a part word of a schema atom
  kept : (j : ℕ) → j < table_words → ((k : ℕ) → k < (head_in w).schema_atoms → j ≡ part_word w k → ⊥) →
      get_or after j 0 ≡ get_or w j 0
  kept j l h = f.same j (λ k m. h k (omega arith)) ∙ copied_at w room p j l

  -- blocks before the schema atoms, and behind them
  stays-before : (b : ℕ) (xs : List ℕ) → b + length xs ≤ rows_base w → At w b xs → At after b xs
  unfolding atom_base
  stays-before b xs l at k m =
      let u = used-inside w fr in kept (b + k) (omega arith) (λ j x e. omega arith) ∙ at k m

  stays-behind : (b : ℕ) (xs : List ℕ) → facts_base w ≤ b → b + length xs ≤ words_used w → At w b xs → At after b xs
  unfolding atom_base
  stays-behind b xs l x at k m =
      let u = used-inside w fr in kept (b + k) (omega arith) (λ j y e. omega arith) ∙ at k m

  head-same : head_in after ≡ head_in w
  head-same = head-is after (head_in w) (stays-before 0 (head_block (head_in w)) (omega arith) (head-stands w))

  -- the schema atoms
  part_at : (s k : ℕ) → s < length t.schemas → k < length (schema_at t s).atoms →
      get_or after (part_word w (start_of t s + k)) 0 ≡ get_or (proposed_parts width (schema_at t s)) k 0
  part_at s k l x =
      let e = schemas-word w fr in
      let next = start-suc w fr s (omega arith) in
      let within = (schema-stretch w table s (omega arith)).known in
      f.put (start_of t s + k) (omega arith) ∙
      (sym (get_or-words_at parts (start_of t s) (length (schema_at t s).atoms) k x) ∙
      ap (λ (ps : List ℕ). get_or ps k 0) (have s l))

  atoms-stand : At after (atom_base w 0) (schemas_from 0 t'.schemas)
  unfolding atom_base proposed_task proposed_schema schema_at
  atoms-stand =
      let u = used-inside w fr in
      let n = atoms-word w fr in
      let part : (m k : ℕ) → m < length t.schemas → k < length (schema_at t m).atoms →
      get_or after (atom_base w 0 + atom_size * (start_of t m + k) + 3) 0 ≡ get_or (proposed_parts width (schema_at t m)) k 0 =
      λ m k l x.
      let z : atom_base w 0 + atom_size * (start_of t m + k) + 3 ≡ part_word w (start_of t m + k) = omega arith in
      ap (λ (i : ℕ). get_or after i 0) z ∙ part_at m k l x in
      schemas-fresh w after (proposed_parts width) (atom_base w 0) 0 t.schemas
      (λ s i a j. (fr.sizes.schema s i a j).short)
      (λ k r l x y. kept (atom_base w 0 + atom_size * k + r) (omega arith) (λ j z e. omega arith))
      part
      (places w t fr.sizes fr.tabled).atoms

  places-fresh : Places after t'
  unfolding blocks_of pair_base atom_base proposed_task proposed_schema with_parts
  places-fresh =
      let p = places w t fr.sizes fr.tabled in
      let h = head_read w t fr.sizes fr.tabled in
      let size : (k : ℕ) → get_or (map length (blocks_of t)) k 0 ≡ get_or (block_sizes (head_in w)) k 0 =
      λ k. ap (λ (ns : List ℕ). get_or ns k 0) (block-lengths t fr.sizes ∙ ap block_sizes (sym h)) in
      let e = head-same in
      let predicates = ap (λ (h : Head). h.predicates) e in
      let schemas = ap (λ (h : Head). h.schemas) e in
      let atoms = ap (λ (h : Head). h.schema_atoms) e in
      let before = ap (λ (h : Head). h.initial_atoms) e in
      let pairs = ap (λ (h : Head). h.pairs) e in
      let inits : List ℕ = concat_map (fact_words initial) t.init in
      let goals : List ℕ = concat_map (fact_words goal_role) t.goal in
      record {
        head = subst (λ (h : Head). At after 0 (head_block h)) (e ∙ (h ∙ sym (head-proposed width t)))
            (head-stands after);
        arities = stays-before head_words t.arities (omega (arith, size 1)) p.arities;
        params = moved (params_base w) (omega arith)
            (map-map (λ (s : Schema). s.params) (proposed_schema width) t.schemas)
            (stays-before (params_base w) (map (λ s. s.params) t.schemas) (omega (arith, size 2)) p.params);
        pairs = moved (pair_base w 0) (omega arith) (pairs-proposed width 0 t.schemas)
            (stays-before (pair_base w 0) (pairs_from 0 t.schemas) (omega (arith, size 3)) p.pairs);
        atoms = at-move after (atom_base w 0) (atom_base after 0) (schemas_from 0 t'.schemas) (omega arith) atoms-stand;
        init = at-move after (facts_base w) (facts_base after) inits (omega arith)
            (stays-behind (facts_base w) inits (omega arith) (omega (arith, size 5)) p.init);
        goal = at-move after (atom_base w (goals_from w)) (atom_base after (goals_from after)) goals (omega arith)
            (stays-behind (atom_base w (goals_from w)) goals (omega arith) (omega (arith, size 6)) p.goal);
      }
    where
      moved : (b : ℕ) {c : ℕ} {xs ys : List ℕ} → b ≡ c → ys ≡ xs → At after b xs → At after c ys
      moved b e f at = subst₂ (λ (b : ℕ) (xs : List ℕ). At after b xs) e (sym f) at

  content-same : length (content t') ≡ words_used w
  content-same =
      length-content t' (lengths-proposed width t fr.sizes) ∙
      (ap (λ (h : Head). sum (block_sizes h)) (head-proposed width t) ∙
      (sym (length-content t fr.sizes) ∙ content-used w t fr.sizes fr.tabled))

  words_long : length (words_of t') ≡ table_words
  unfolding words_of
  words_long = length-padded table_words (content t') (omega (arith, content-same, used-inside w fr))

  -- so they are the words of the task proposed, and those behind them stay
  pub fresh-words : after ≡ over (words_of t') lent
  unfolding over atom_base
  fresh-words =
      let n = words_long in
      let used = content-same in
      let long : table_words ≤ length after = let e = f.long in let d = puts-length p in omega arith in
      let front : take table_words after ≡ words_of t' =
      let q = length-take-le table_words after long in
      ext_get_or 0 (take table_words after) (words_of t') (q ∙ sym n) (λ k l.
      let m : k < table_words = omega arith in
      get_or-take table_words after k 0 m ∙
      words_are after t' (places-tabled after t' (lengths-proposed width t fr.sizes) places-fresh) zeros k m) in
      sym (take-append-drop table_words after) ∙
      ap₂ (λ (xs ys : List ℕ). xs ++ ys) front
      (f.behind ∙ (copied_behind w room p ∙ ap (λ (k : ℕ). drop k lent) (sym n)))
    where
      zeros : (k : ℕ) → length (content t') ≤ k → k < table_words → get_or after k 0 ≡ 0
      zeros k l m =
          let used = content-same in
          kept k m (λ j x e. omega arith) ∙ (table-words w table).rest k (omega arith) m
