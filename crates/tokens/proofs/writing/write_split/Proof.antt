-- `tokens::writing::write_split` meets its contract: the runs that the calls put make the words of the split, and what
-- is put at the front of a buffer lies over it.
use Rattle.tokens.proofs.writing.write_split.Tie as tie
use Prim.Native.Nat.{ℕ, ◌+◌, ◌-◌, ◌*◌, ◌≤◌, ◌<◌}
use mathlib.Core.Path.{◌≡◌, refl, sym, ◌∙◌, ap}
use mathlib.Core.List.{◌++◌, map, List, append-nil}
use native.Mathlib.Omega.{arith}
use lib.ListN.{length, replicate}
use borrow.Author.Rules.{rules}
use Rattle.words.specs.Lists.{concat_map, joined}
use Rattle.task.specs.Layout.{head_block, head_in, facts_base}
use Rattle.task.specs.Limits.{table_words, atom_size, pair_size, most_predicates, most_schemas, most_pairs, head_words}
use Rattle.task.specs.Limits.{table_length}
use Rattle.task.specs.Task.{Schema, Task, initial, goal_role}
use Rattle.task.specs.Table.{fact_words, task_of, head_of, blocks_of, words_of}
use Rattle.words.proofs.Puts.{put-over, puts-is, puts_then, puts-append, puts-same, puts-length}
use Rattle.task.proofs.Tables.{content, words_of-is, table_words-is, words-length}
use Rattle.task.proofs.TableReads.{table-roomy}
use Rattle.task.proofs.TablesByIndex.{table-frame, schemas-word, init-word, goal-word}
use Rattle.tokens.specs.Split.{split_task}
use Rattle.words.specs.Putting.{Puts}
use Rattle.tokens.proofs.Predicates.{predicate-count}
use Rattle.tokens.proofs.Sizes.{init-count, goal-count}
use Rattle.tokens.proofs.Splitting.{split-well, few-schemas, few-parts, predicates-word}
use Rattle.tokens.proofs.Written.{Room, room, head-written, arities-written, params-written}
use Rattle.tokens.proofs.writing.write_split.Statement.{statement}

-- the places, one from the next
abbrev begun : tie.After-head-counted → tie.Start
begun c = c.before.before.before.before

abbrev head : tie.After-arities-named → tie.After-head-counted
head c = c.before.before.before.before

abbrev counted : tie.After-all_params-sized → tie.After-word
counted c = c.before.before

abbrev names : tie.After-all_params-sized → tie.After-arities-named
names c = (counted c).before.before.before

abbrev sizes : tie.After-all_pairs-paired → tie.After-all_params-sized
sizes c = c.before.before.before.before

abbrev pairs : tie.After-all_parts-split → tie.After-all_pairs-paired
pairs c = c.before.before.before.before

abbrev atoms : tie.After-all_facts-ended → tie.After-all_parts-split
atoms c = c.before.before.before.before

abbrev facts : tie.After-fill → tie.After-all_facts-ended
facts c = c.before.before.before.before

abbrev split : (c : tie.Start) → Task
split c = split_task (task_of c.args.table.now)

-- what is known of the numbers where the function begins
record Known (c : tie.Start) : Type 0 where
  room : Room (split c)
  old : length (task_of c.args.table.now).schemas ≡ (head_in c.args.table.now).schemas
  few : (head_in c.args.table.now).schemas ≤ most_schemas
  predicates : length (split c).arities ≡
      (head_in c.args.table.now).predicates + 1 + c.args.sizes.later + c.args.sizes.pars
  inits : length (split c).init ≡ (head_in c.args.table.now).initial_atoms + 1
  goals : length (split c).goal ≡ (head_in c.args.table.now).goal_atoms + 1
  inside : facts_base c.args.table.now +
      atom_size * ((head_in c.args.table.now).initial_atoms + (head_in c.args.table.now).goal_atoms) ≤
      length c.args.table.now
  long : table_length ≤ length c.args.out.now

known : (c : tie.Start) → Known c
known c =
    let S = c.requires.0 in
    let w = c.args.table.now in
    let t = task_of w in
    let fr = table-frame w S.table in
    let l = S.sized.later in
    let p = S.sized.pars in
    let n = schemas-word w fr in
    record {
      room = room (split c) (split-well S);
      old = n;
      few = omega (arith, few-schemas S);
      predicates = omega (arith, predicate-count t, predicates-word S);
      inits = omega (arith, init-count t, init-word w fr);
      goals = omega (arith, goal-count t, goal-word w fr);
      inside = omega (arith, (table-roomy w S.table).inside);
      long = omega (arith, c.requires.1, table_words-is);
    }

-- ---- what each call has put, as words of the split
-- the words after a call: of the head, the arities, the parameter counts, the schemas' atoms, the facts
abbrev headed : tie.After-head-counted → List ℕ
headed c = c.head-counted.new.out

abbrev named : tie.After-arities-named → List ℕ
named c = c.arities-named.new.out

abbrev sized : tie.After-all_params-sized → List ℕ
sized c = c.all_params-sized.new.out

head-put : (c : tie.After-head-counted) →
    let s = begun c in Puts s.args.out.now 0 (head_block (head_of (split s))) (headed c) c.head-counted.result
head-put c =
    let s = begun c in
    puts-is c.head-counted.ensures refl refl (head_block (head_of (split s))) (ap head_block (head-written s.requires.0))

names-put : (c : tie.After-arities-named) →
    let h = head c in
    Puts (headed h) h.head-counted.result (split (begun (head c))).arities (named c) c.arities-named.result
names-put c =
    let s = begun (head c) in
    puts-is c.arities-named.ensures refl refl (split s).arities (arities-written s.requires.0)

sizes-put : (c : tie.After-all_params-sized) →
    let n = names c in
    Puts (named n) n.arities-named.result (map (λ (u : Schema). u.params) (split (begun (head (names c)))).schemas)
    (sized c) c.all_params-sized.result
sizes-put c =
    let s = begun (head (names c)) in
    let n = (counted c).word in
    puts-is c.all_params-sized.ensures refl refl (map (λ (u : Schema). u.params) (split s).schemas)
    (params-written s.requires.0 n.result (n.ensures.0 ∙ sym (known s).old))

content-put : (c : tie.After-all_facts-ended) →
    let s = begun (head (names (sizes (pairs (atoms c))))) in
    Puts s.args.out.now 0 (content (split s)) c.all_facts-ended.new.out c.all_facts-ended.result
unfolding joined blocks_of
content-put c =
    let q = pairs (atoms c) in
    let z = sizes (pairs (atoms c)) in
    let t = split (begun (head (names z))) in
    let last : List ℕ = concat_map (fact_words goal_role) t.goal in
    puts-append (head-put (head (names z))) (puts-append (names-put (names z)) (puts-append (sizes-put z)
    (puts-append q.all_pairs-paired.ensures (puts-append (atoms c).all_parts-split.ensures
    (puts-same (ap (λ (l : List ℕ). concat_map (fact_words initial) t.init ++ l) (sym (append-nil last)))
    c.all_facts-ended.ensures)))))

-- ---- where each of them ends
record Headed (c : tie.After-head-counted) : Type 0 where
  ends : c.head-counted.result ≡ head_words
  long : length (headed c) ≡ length (begun c).args.out.now

head-ends : (c : tie.After-head-counted) → Headed c
head-ends c = record { ends = c.head-counted.ensures.place; long = puts-length (head-put c) }

record Named (c : tie.After-arities-named) : Type 0 where
  ends : c.arities-named.result ≡ head_words + length (split (begun (head c))).arities
  long : length (named c) ≡ length (begun (head c)).args.out.now

names-end : (c : tie.After-arities-named) → Named c
names-end c =
    let h = head-ends (head c) in
    let p = names-put c in
    record { ends = omega (arith, p.place, h.ends); long = puts-length p ∙ h.long }

record Sized (c : tie.After-all_params-sized) : Type 0 where
  ends : c.all_params-sized.result ≡ head_words + length (split (begun (head (names c)))).arities +
      length (map (λ (u : Schema). u.params) (split (begun (head (names c)))).schemas)
  long : length (sized c) ≡ length (begun (head (names c))).args.out.now

sizes-end : (c : tie.After-all_params-sized) → Sized c
sizes-end c =
    let n = names-end (names c) in
    let p = sizes-put c in
    record { ends = omega (arith, p.place, n.ends); long = puts-length p ∙ n.long }

record Paired (c : tie.After-all_pairs-paired) : Type 0 where
  ends : c.all_pairs-paired.result ≤ head_words + most_predicates + most_schemas + pair_size * most_pairs
  long : length c.all_pairs-paired.new.out ≡ length (begun (head (names (sizes c)))).args.out.now

pairs_end : (c : tie.After-all_pairs-paired) → Paired c
pairs_end c =
    let z = sizes-end (sizes c) in
    let p = c.all_pairs-paired.ensures in
    let r = (known (begun (head (names (sizes c))))).room in
    record {
      ends = omega (arith, p.place, z.ends, r.arities, r.params, r.pair-words);
      long = puts-length p ∙ z.long;
    }

head-requires : tie.Need-head-counted-requires
head-requires c κs =
    let s = c in
    let k = known s.before.before.before in
    let r = k.room in
    let z = s.requires.0.sized in
    let n = z.schemas in
    let m = z.atoms in
    let p = k.predicates in
    let i = k.inits in
    let g = k.goals in
    let l = k.long in
    let d = k.inside in (
      omega arith,
      (
        omega (arith, r.arities),
        (
          (omega (arith, r.schemas), omega (arith, r.atoms)),
          ((omega (arith, r.init), omega (arith, r.goal), omega (arith, z.pairs, r.pairs)), omega arith),
        ),
      ),
    )

arities-requires : tie.Need-arities-named-requires
arities-requires c κs =
    let k = known (begun c.before.before.before) in
    let h = head-ends c.before.before.before in
    let p = k.predicates in
    let r = k.room.arities in
    let l = k.long in
    (omega (arith, k.inside), omega (arith, h.ends, h.long))

word-requires : tie.Need-word-requires
word-requires c κs = let k = (known (begun (head c.before.before))).inside in omega arith

all-params-requires : tie.Need-all_params-sized-requires
all-params-requires c κs =
    let st = begun (head c.before.before.before.before) in
    let S = st.requires.0 in
    let k = known st in
    let f = k.few in
    let o = k.old in
    let e = c.word.ensures.0 in
    let n = names-end c.before.before.before.before in
    let r = k.room.arities in
    let l = k.long in (
      omega arith,
      (
        (λ s h.
            let x : s < length (task_of st.args.table.now).schemas = omega arith in
            omega (arith, S.parts.count s x, few-parts S s x)),
        omega (arith, n.ends, n.long),
      ),
    )

all-pairs-requires : tie.Need-all_pairs-paired-requires
all-pairs-requires c κs =
    let st = begun (head (names c.before.before.before)) in
    let k = known st in
    let z = sizes-end c.before.before.before in
    let r = k.room in
    let l = k.long in
    ((st.args.sizes, st.requires.0), omega (arith, z.ends, z.long, r.arities, r.params, r.pair-words))

all-parts-requires : tie.Need-all_parts-split-requires
all-parts-requires c κs =
    let st = begun (head (names (sizes c.before.before.before))) in
    let k = known st in
    let z = pairs_end c.before.before.before in
    let l = k.long in
    (st.requires.0, omega (arith, z.ends, z.long, k.room.words))

all-facts-requires : tie.Need-all_facts-ended-requires
all-facts-requires c κs =
    let st = begun (head (names (sizes (pairs c.before.before.before)))) in
    let k = known st in
    let z = pairs_end (pairs c.before.before.before) in
    let u = c.all_parts-split.ensures in
    let r = k.room in
    let l = k.long in
    let i = k.inits in
    let g = k.goals in
    let m = puts-length u in
    (st.requires.0.table, omega (arith, u.place, z.ends, z.long, r.words, r.init, r.goal))

sub-fill : tie.Need-overflow_sub-ended
sub-fill c =
    let k = known (begun (head (names (sizes (pairs (atoms c.before.before.before)))))) in
    let p = (content-put c.before.before.before).place in
    omega (arith, k.room.whole, table_words-is)

fill-requires : tie.Need-fill-requires
fill-requires c κs =
    let k = known (begun (head (names (sizes (pairs (atoms c.before.before.before)))))) in
    let p = content-put c.before.before.before in
    let l = puts-length p in
    omega (arith, p.place, k.room.whole, k.long, table_words-is)

returns : tie.Need-returns
returns c =
    let st = begun (head (names (sizes (pairs (atoms (facts c.before.before)))))) in
    let t = split st in
    let d = facts c.before.before in
    let p = content-put d in
    let n : table_words - length (content t) ≡ table_length - d.all_facts-ended.result =
    omega (arith, p.place, table_words-is) in
    let whole = puts_then p c.fill.ensures (words_of t)
    (words_of-is t ∙ ap (λ (m : ℕ). content t ++ replicate m 0) n) in
    let l = words-length t (split-well st.requires.0) in
    let long = st.requires.1 in
    whole.words ∙ put-over (words_of t) st.args.out.now (omega arith)

pub write_split_spec : {M : Type 1} → statement M
write_split_spec =
    tie.close
    (tie.spec head-requires arities-requires word-requires all-params-requires all-pairs-requires all-parts-requires
    all-facts-requires sub-fill fill-requires (λ c. search rules) returns)
