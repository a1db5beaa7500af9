-- The code holds the draft again behind a `part` line: the parts stand in the schema's rows, and its parameter count
-- behind those of the schemas before it.
use Prim.Native.Nat.{ℕ, zero, suc, ◌+◌, ◌*◌, ◌≤◌, ◌<◌}
use mathlib.Core.Path.{◌≡◌, refl, sym, ◌∙◌, ap, subst}
use mathlib.Core.List.{List, [], ◌∷◌, ◌++◌, map, append_assoc, append-nil}
use native.Mathlib.Omega.{arith}
use lib.ListN.{length, get_or, set, length-append, length-map, length-set}
use lib.Seq.{get_or-set_same, get_or-set_other}
use Rattle.words.specs.Lists.{all, concat_map, joined, sum}
use Rattle.task.specs.Limits.{head_words, atom_size, table_length}
use Rattle.task.specs.Task.{Atom, Schema, schema_atoms, schema_pairs, with_atoms}
use Rattle.task.specs.Table.{pair_words, atom_words, rows_from, schemas_from}
use Rattle.words.proofs.Lists.{In, in-get_or, get_or-in, map-append, sum-append, length-padded}
use Rattle.words.proofs.Words.{At, at-move, at_join, length-rows, join-rows}
use Rattle.words.proofs.JoinedWords.{concat-stands}
use Rattle.task.proofs.AtomsStand.{Sized, length-atom_words}
use Rattle.task.proofs.Tables.{table_words-is}
use Rattle.text.specs.Text.{Draft, at_phase, with_schemas, with_parts, part}
use Rattle.text.specs.declared.keys.Key.TheVariants as code
use Rattle.text.specs.ReadCode.{Standing, PartsPut, number_of, may_stand}
use Rattle.text.specs.Holding.{row_blocks, rows_of, pairs_of, Holds, Touched, with_closed, Allows, pairs_at, rows_at}
use Rattle.text.proofs.TaskWritten.{schema_atoms-part}
use Rattle.text.proofs.TaskGrows.{length-closed}
use Rattle.text.proofs.HeldAtoms.{atom-sized, atom-stands, schemas-length}
use Rattle.text.proofs.HeldPairs.{pairs-before}
use mathlib.Core.Bool.{true}
use Rattle.text.specs.declared.draft.Counts.{Counts}
use Rattle.text.proofs.Dispatch.{part-place}

-- the rows of one more schema come behind those of the others
rows_from-last : {Row : Type 0} (words : ℕ → Row → List ℕ) (rows : Schema → List Row) (n : ℕ) (ss : List Schema)
    (s : Schema) → rows_from words rows n (ss ++ (s ∷ [])) ≡
    rows_from words rows n ss ++ concat_map (words (n + length ss)) (rows s)
unfolding rows_from
rows_from-last words rows n [] s =
    let z : n + 0 ≡ n = omega arith in
    append-nil (concat_map (words n) (rows s)) ∙ ap (λ (k : ℕ). concat_map (words k) (rows s)) (sym z)
rows_from-last words rows n (t ∷ ss) s =
    let z : suc n + length ss ≡ n + suc (length ss) = omega arith in
    let first = concat_map (words n) (rows t) in
    let rest = rows_from words rows (suc n) ss in
    ap (λ (xs : List ℕ). first ++ xs) (rows_from-last words rows (suc n) ss s) ∙
    (sym (append_assoc first rest _) ∙ ap (λ (k : ℕ). (first ++ rest) ++ concat_map (words k) (rows s)) z)

-- and its pairs are counted with theirs
pairs-closed : (ss : List Schema) (s : Schema) → schema_pairs (ss ++ (s ∷ [])) ≡ schema_pairs ss + length s.pairs
unfolding sum
pairs-closed ss s =
    let count : Schema → ℕ = λ s. length s.pairs in
    let z : length s.pairs + 0 ≡ length s.pairs = omega arith in
    ap sum (map-append count ss (s ∷ [])) ∙
    (sum-append (map count ss) (map count (s ∷ [])) ∙ ap (λ (n : ℕ). sum (map count ss) + n) z)

-- atom i with its part
parts_at : (xs : List Atom) (ps : List ℕ) (i : ℕ) (d : Atom) → length ps ≡ length xs → i < length xs →
    get_or (with_parts xs ps) i d ≡
    record { role = (get_or xs i d).role; pred = (get_or xs i d).pred; part = get_or ps i 0; args = (get_or xs i d).args }
unfolding with_parts
parts_at [] ps i d e l = absurd (omega arith)
parts_at (x ∷ xs) [] i d e l = absurd (omega arith)
parts_at (x ∷ xs) (p ∷ ps) zero d e l = refl
parts_at (x ∷ xs) (p ∷ ps) (suc i) d e l = parts_at xs ps i d (omega arith) (omega arith)

-- a row whose part word is written anew
row-parted : (w after : List ℕ) (row s : ℕ) (a : Atom) (p : ℕ) → length a.args ≤ 4 → At w row (atom_words s a) →
    get_or after (row + 3) 0 ≡ p → ((k : ℕ) → k < atom_size → (k ≡ 3 → ⊥) → get_or after (row + k) 0 ≡ get_or w (row + k) 0) →
    At after row (atom_words s (record { role = a.role; pred = a.pred; part = p; args = a.args }))
unfolding atom_words
row-parted w after row s a p few h e same k l = go k l
  where
    size : length (atom_words s a) ≡ atom_size
    size = length-atom_words s a few

    kept : (k : ℕ) → k < atom_size → (k ≡ 3 → ⊥) → get_or after (row + k) 0 ≡ get_or (atom_words s a) k 0
    kept k m n = same k m n ∙ h k (let z = size in omega arith)

    go : (k : ℕ) → k < length (atom_words s (record { role = a.role; pred = a.pred; part = p; args = a.args })) →
        get_or after (row + k) 0 ≡ get_or (atom_words s
        (record { role = a.role; pred = a.pred; part = p; args = a.args })) k 0
    go zero l = kept 0 (omega arith) (λ q. omega arith)
    go (suc zero) l = kept 1 (omega arith) (λ q. omega arith)
    go (suc (suc zero)) l = kept 2 (omega arith) (λ q. omega arith)
    go (suc (suc (suc zero))) l = e
    go (suc (suc (suc (suc k)))) l =
        let z = length-padded 4 a.args few in
        kept (suc (suc (suc (suc k)))) (omega arith) (λ q. omega arith)

-- a `part` line stands inside a schema, so there is room for that schema
in-schema : {d : Draft} {w : List ℕ} {c : Counts} → Holds d w c → Allows c part →
    (3 ≤ number_of c.phase) × (number_of c.phase ≤ 6)
in-schema {d = d} h allowed =
    subst (λ (p : ℕ). (3 ≤ p) × (p ≤ 6)) (sym h.phase)
    (part-place d.phase (subst (λ (p : ℕ). may_stand p 7 ≡ true) h.phase allowed))

pub schema-room : {d : Draft} {w : List ℕ} {c : Counts} → Holds d w c → Allows c part → c.schemas < 200
schema-room h allowed =
    let (opened, before) = in-schema h allowed in
    let n = h.schemas in
    let r = h.order.room opened before in
    omega arith

module _ {d : Draft} {w mid : List ℕ} {c : Counts} (h : Holds d w c) (ps kept : List ℕ)
    (same : length ps ≡ length d.current.atoms) (listed : (k : ℕ) → k < length ps → get_or kept k 0 ≡ get_or ps k 0)
    (put : PartsPut w (rows_at c.predicates + atom_size * c.closed) (length ps) kept mid)
    (room : c.schemas < 200) where
  abbrev S : ℕ
  S = length d.task.schemas

  abbrev first : ℕ
  first = rows_at c.predicates + atom_size * c.closed

  -- the parameter count's place, and the words behind both writes
  abbrev place : ℕ
  place = head_words + c.predicates + c.schemas

  abbrev last : List ℕ
  last = set mid place c.params

  abbrev no_atom : Atom
  no_atom = record { role = 0; pred = 0; part = 0; args = [] }

  abbrev closed_atoms : List Atom
  closed_atoms = with_parts d.current.atoms ps

  -- words before the rows, but for the one written
  early : (j : ℕ) → j < first → (j ≡ place → ⊥) → get_or last j 0 ≡ get_or w j 0
  early j l n = get_or-set_other mid place j c.params 0 n ∙ put.other j (λ k m q. omega arith)

  -- words from the rows on
  late : (j : ℕ) → rows_at c.predicates ≤ j → get_or last j 0 ≡ get_or mid j 0
  late j l = get_or-set_other mid place j c.params 0 (λ q. omega arith)

  closed-size : (x : Atom) → In x closed_atoms → length (atom_words S x) ≡ atom_size
  closed-size x i =
      let (k, l, e) = get_or-in no_atom i in
      let n = length-closed d.task d.current ps same in
      let m : k < length d.current.atoms = omega arith in
      let a = get_or d.current.atoms k no_atom in
      let size : Sized d.task.arities a.pred a.args = atom-sized h a
      (in-get_or d.current.atoms k no_atom m) in
      let q : x.args ≡ a.args =
      ap (λ (y : Atom). y.args) (sym e ∙ parts_at d.current.atoms ps k no_atom same m) in
      length-atom_words S x (subst (λ (xs : List ℕ). length xs ≤ 4) (sym q) size.short)

  closed-rows : At last first (concat_map (atom_words S) closed_atoms)
  closed-rows =
      join-rows (atom_words S) atom_size last first closed_atoms no_atom closed-size (λ i l.
      let n = length-closed d.task d.current ps same in
      let m : i < length d.current.atoms = omega arith in
      let a = get_or d.current.atoms i no_atom in
      let size : Sized d.task.arities a.pred a.args = atom-sized h a
      (in-get_or d.current.atoms i no_atom m) in
      subst (λ (x : Atom). At last (first + atom_size * i) (atom_words S x)) (sym
      (parts_at d.current.atoms ps i no_atom same m))
      (row-parted w last (first + atom_size * i) S a (get_or ps i 0) size.short (atom-stands h i no_atom m)
      (late (first + atom_size * i + 3) (omega arith) ∙ (put.put i (omega arith) ∙ listed i (omega arith)))
      (λ k q n. late (first + atom_size * i + k) (omega arith) ∙
      put.other (first + atom_size * i + k) (λ j r e. apart i j k q n e))))
    where
      apart : (i j k : ℕ) → k < atom_size → (k ≡ 3 → ⊥) → first + atom_size * i + k ≡ first + atom_size * j + 3 → ⊥
      apart i j k q n e = n (omega arith)

  closed-length : length (concat_map (atom_words S) closed_atoms) ≡ atom_size * c.atoms
  closed-length =
      let n = length-closed d.task d.current ps same in
      let m = h.atoms in
      let l = length-rows (atom_words S) atom_size closed_atoms closed-size in
      omega arith

  schema_rows : List ℕ
  schema_rows = schemas_from 0 d.task.schemas

  rows-closed : d.task.init ≡ [] → d.task.goal ≡ [] →
      rows_of (with_closed d ps) ≡ schema_rows ++ concat_map (atom_words S) closed_atoms
  unfolding row_blocks joined with_closed at_phase with_schemas concat_map schema_rows
  rows-closed i g =
      let z : 0 + S ≡ S = omega arith in
      rw (i, g, rows_from-last atom_words (λ s. s.atoms) 0 d.task.schemas (with_atoms d.current closed_atoms), z)
      (append-nil _)

  early-rows : At last (rows_at (length d.task.arities)) schema_rows
  unfolding row_blocks sum schema_rows
  early-rows k l =
      let p = h.predicates in
      let n = schemas-length h in
      late (rows_at (length d.task.arities) + k) (omega arith) ∙
      (put.other (rows_at (length d.task.arities) + k) (λ j m q. omega arith) ∙
      concat-stands w (rows_at (length d.task.arities)) (row_blocks d) h.rows-stand 0
      (rows_at (length d.task.arities)) (omega arith) (omega arith) k l)

  rows-again : At last (rows_at (length d.task.arities)) (schema_rows ++ concat_map (atom_words S) closed_atoms)
  unfolding schema_rows
  rows-again =
      let p = h.predicates in
      let n = schemas-length h in
      at_join last (rows_at (length d.task.arities)) schema_rows (concat_map (atom_words S) closed_atoms) early-rows
      (at-move last first (rows_at (length d.task.arities) + length schema_rows) (concat_map (atom_words S) closed_atoms)
      (omega arith) closed-rows)

  params-closed : table_length ≤ length w →
      At last (head_words + length d.task.arities)
      (map (λ s. s.params) d.task.schemas ++ (d.current.params ∷ []))
  params-closed long =
      let p = h.predicates in
      let s = h.schemas in
      let few = h.few.predicates in
      let size = put.size in
      let m = length-map d.task.schemas (λ s. s.params) in
      at_join last (head_words + length d.task.arities) (map (λ s. s.params) d.task.schemas)
      (d.current.params ∷ [])
      (λ k l. early (head_words + length d.task.arities + k) (omega arith) (λ q. omega arith) ∙ h.params-stand k l)
      (λ k l.
      let z : head_words + length d.task.arities + length (map (λ s. s.params)
      d.task.schemas) + k ≡ place = omega arith in
      let y : k ≡ 0 = omega arith in
      ap (λ (i : ℕ). get_or last i 0) z ∙
      (get_or-set_same mid place c.params 0 (omega arith) ∙
      (h.params ∙ ap (λ (i : ℕ). get_or (d.current.params ∷ []) i 0) (sym y))))

  -- the pairs of the schema are the last of the closed ones' now, and stand where they did
  pairs-same : pairs_of (with_closed d ps) ≡ pairs_of d
  unfolding pairs_of with_closed at_phase with_schemas concat_map
  pairs-same =
      let z : 0 + S ≡ S = omega arith in
      rw (rows_from-last pair_words (λ s. s.pairs) 0 d.task.schemas (with_atoms d.current closed_atoms), z)
      (append-nil _)

  pairs-again : At last (pairs_at (length d.task.arities)) (pairs_of d)
  pairs-again k l =
      let p = h.predicates in
      let n = pairs-before h in
      early (pairs_at (length d.task.arities) + k) (omega arith) (λ q. omega arith) ∙ h.pairs-stand k l

  abbrev closing : Counts
  closing = record {
    phase = code.Schema;
    objects = c.objects;
    predicates = c.predicates;
    schemas = c.schemas + 1;
    params = 0;
    closed = c.closed + c.atoms;
    atoms = 0;
    initial = c.initial;
    goal = c.goal;
    pairs = c.pairs + c.apart;
    apart = 0;
  }

  pub schema-closed : table_length ≤ length w → Allows c part → Holds (with_closed d ps) last closing
  unfolding with_closed at_phase with_schemas all sum schema_rows
  schema-closed long allowed =
      let (opened, before) = in-schema h allowed in
      let o = h.order in
      let few = h.few in
      let total = few.total in
      let i = o.no-init (omega arith) in
      let g = o.no-goal (omega arith) in
      let size = put.size in
      let w-long = h.long in
      let s = h.schemas in
      let n = h.closed in
      let m = h.atoms in
      let ci = h.initial ∙ ap length i in
      let cg = h.goal ∙ ap length g in
      let rows = rows-closed i g in
      let one : Schema = with_atoms d.current closed_atoms in
      let last-size = length-set mid place c.params in
      record {
        phase = refl;
        objects = h.objects;
        predicates = h.predicates;
        schemas = let z = length-append d.task.schemas (one ∷ []) in omega arith;
        params = refl;
        closed = let z = schema_atoms-part d.task.schemas one [] in
            let y = length-closed d.task d.current ps same in count-closed z y;
        atoms = refl;
        initial = h.initial;
        goal = h.goal;
        pairs = let a = h.pairs in let b = h.apart in omega (arith, pairs-closed d.task.schemas one);
        apart = refl;
        few = record {
          predicates = few.predicates;
          schemas = omega arith;
          params = omega arith;
          objects = few.objects;
          atoms = omega arith;
          total = omega arith;
          initial = few.initial;
          goal = few.goal;
          pairs = let most = few.pairs in omega arith;
        };
        order = record {
          no-arity = λ q. absurd (omega arith);
          no-schema = λ q. absurd (omega arith);
          not-open = λ q. absurd (omega arith);
          closed = λ q. refl;
          no-init = λ q. i;
          no-goal = λ q. g;
          room = λ q x. absurd (omega arith);
        };
        low = h.low;
        fit = refl;
        init-fit = h.init-fit;
        goal-fit = h.goal-fit;
        long = omega arith;
        arities-stand = λ k l. let p = h.predicates in
            early (head_words + k) (omega arith) (λ q. omega arith) ∙ h.arities-stand k l;
        params-stand = rw (map-append (λ s. s.params) d.task.schemas (one ∷ [])) (params-closed long);
        pairs-stand = subst (Standing last (pairs_at (length d.task.arities))) (sym pairs-same) pairs-again;
        rows-stand = subst (Standing last (rows_at (length d.task.arities))) (sym rows) rows-again;
        rows-length = ap length rows ∙ rows-size ci cg;
      }
    where
      count-closed :
          schema_atoms (d.task.schemas ++ (with_atoms d.current closed_atoms ∷ [])) ≡
          schema_atoms d.task.schemas + (length closed_atoms + schema_atoms []) →
          length closed_atoms ≡ length d.current.atoms →
          c.closed + c.atoms ≡
          schema_atoms (d.task.schemas ++ (with_atoms d.current closed_atoms ∷ []))
      count-closed z y = let n = h.closed in let m = h.atoms in let e : schema_atoms [] ≡ 0 = refl in omega arith

      rows-size : c.initial ≡ 0 → c.goal ≡ 0 → length (schema_rows ++ concat_map (atom_words S) closed_atoms) ≡
          atom_size * ((((c.closed + c.atoms) + 0) + c.initial) + c.goal)
      rows-size ci cg =
          let n : length schema_rows ≡ atom_size * c.closed = schemas-length h in
          let m = closed-length in
          omega (arith, length-append schema_rows (concat_map (atom_words S) closed_atoms))

-- both writes lie inside the table
pub closing-touched : {w mid : List ℕ} {first n : ℕ} {parts : List ℕ} (place x : ℕ) → PartsPut w first n parts mid →
    first + atom_size * n ≤ table_length → place < table_length → Touched w (set mid place x)
closing-touched {mid = mid} place x put l m = record {
  size = length-set mid place x ∙ put.size;
  beyond = λ j q.
      let z = table_words-is in
      get_or-set_other mid place j x 0 (λ e. omega arith) ∙ put.other j (λ k r e. omega arith);
}
