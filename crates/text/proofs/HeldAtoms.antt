-- A row more: the words that stood still stand, and the new row stands behind the rows so far. So the code holds the
-- draft with one atom more; and its tests of the atom are the definitions' tests.
use Prim.Native.Nat.{ℕ, zero, suc, ◌+◌, ◌*◌, ◌≤◌, ◌<◌}
use mathlib.Core.Path.{◌≡◌, refl, sym, ◌∙◌, ap, subst}
use mathlib.Core.Bool.{Bool, true, false, not}
use mathlib.Core.List.{List, [], ◌∷◌, ◌++◌, map, append_assoc, append-nil}
use native.Mathlib.Omega.{arith}
use lib.ListN.{length, get_or, length-append, length-map, take}
use borrow.Author.Tests.{le-ltb, lt-ltb}
use Rattle.task.specs.Limits.{table_words, head_words, atom_size, table_length}
use Rattle.words.specs.Lists.{any, concat_map, joined, sum, up_to}
use Rattle.task.specs.Task.{Atom, Fact, args_fit, same_atom, schema_atoms}
use Rattle.task.specs.Table.{atom_words, fact_words, schemas_from}
use Rattle.words.proofs.Lists.{In, all_in, in-get_or, append-concat_map}
use Rattle.words.proofs.Words.{at-move, at_join, at_row, length-rows}
use Rattle.words.proofs.JoinedWords.{length-joined, concat-stands}
use Rattle.task.proofs.AtomsStand.{Sized, sized, length-atom_words, length-facts}
use Rattle.task.proofs.Tables.{table_words-is}
use Rattle.text.specs.Reading.{go_on, refuse}
use Rattle.text.specs.Text.{Draft, role_phase, add_atom, Line, atom_line, take_line}
use Rattle.text.specs.ReadCode.{Standing, Wrote, Listed, Fitting, bare_atom, row_same, number_of, phase_number}
use Rattle.text.specs.Holding.{Few, row_at, row_blocks, rows_of, Holds, Touched, InSchema, with_atom, one_atom_more}
use Rattle.text.specs.Holding.{entry_of, Grows, first_row, pairs_at, rows_at, pairs_of}
use Rattle.text.proofs.Reading.{need-met}
use Rattle.text.proofs.Growing.{all_snoc}
use Rattle.text.proofs.LineTurns.{need-fails}
use Rattle.text.proofs.WroteWords.{stands, stays-before}
use Rattle.text.proofs.RowCompare.{any-index, same_rows}
use Rattle.text.proofs.RowTests.{listed-take}
use Rattle.text.specs.declared.draft.Counts.{Counts}
use Rattle.text.proofs.Dispatch.{atom-place}
use Rattle.text.proofs.HeldPairs.{pairs-stay, pairs-before}

pub few_words : {c : Counts} → Few c → c.closed + c.atoms < 1000 → row_at c + atom_size ≤ table_length
few_words f l =
    let a = f.predicates in
    let b = f.initial in
    let g = f.goal in
    omega arith

-- a write inside the table touches nothing beyond
pub inside-touched : {w after : List ℕ} {at n : ℕ} {f : ℕ → ℕ} → at + n ≤ table_length → Wrote w at n f after →
    Touched w after
inside-touched l h = record { size = h.size; beyond = λ j m. h.behind j (let z = table_words-is in omega arith) }

pub untouched : (w : List ℕ) → Touched w w
untouched w = record { size = refl; beyond = λ j m. refl }

-- ---- the words behind a new row
module _ {d : Draft} {w after : List ℕ} {c : Counts} (row : List ℕ) (h : Holds d w c)
    (e : length row ≡ atom_size) (wrote : Wrote w (row_at c) atom_size (λ k. get_or row k 0) after) where
  pub arities-again : Standing after head_words d.task.arities
  arities-again =
      let p = h.predicates in
      stays-before wrote head_words d.task.arities (omega arith) h.arities-stand

  pub params-again : Standing after (head_words + length d.task.arities) (map (λ s. s.params) d.task.schemas)
  params-again =
      let p = h.predicates in
      let s = h.schemas in
      let f = h.few.schemas in
      let m = length-map d.task.schemas (λ s. s.params) in
      stays-before wrote (head_words + length d.task.arities) (map (λ s. s.params) d.task.schemas) (omega arith)
      h.params-stand

  pub pairs-again : Standing after (pairs_at (length d.task.arities)) (pairs_of d)
  pairs-again =
      let p = h.predicates in
      let l = pairs-before h in
      stays-before wrote (pairs_at (length d.task.arities)) (pairs_of d) (omega arith) h.pairs-stand

  pub row-behind : Standing after (rows_at (length d.task.arities)) (rows_of d ++ row)
  row-behind =
      let p = h.predicates in
      let l = h.rows-length in
      let base = rows_at (length d.task.arities) in
      at_join after base (rows_of d) row (stays-before wrote base (rows_of d) (omega arith) h.rows-stand)
      (at-move after (row_at c) (base + length (rows_of d)) row (omega arith) (stands wrote row e (λ k l. refl)))

  pub long-again : table_words ≤ length after
  long-again = let s = wrote.size in let l = h.long in omega arith

-- ---- where the rows of each kind stand
module _ {d : Draft} {w : List ℕ} {c : Counts} (h : Holds d w c) where
  abbrev A : List ℕ
  A = d.task.arities

  pub atom-sized : (a : Atom) → In a d.current.atoms → Sized A a.pred a.args
  atom-sized a i =
      sized d.current.params A a.pred a.args h.low
      (all_in (λ a. args_fit A d.current.params a.pred a.args) h.fit i)

  pub init-sized : (f : Fact) → In f d.task.init → Sized A f.pred f.args
  init-sized f i =
      sized d.task.objects A f.pred f.args h.low
      (all_in (λ f. args_fit A d.task.objects f.pred f.args) h.init-fit i)

  pub goal-sized : (f : Fact) → In f d.task.goal → Sized A f.pred f.args
  goal-sized f i =
      sized d.task.objects A f.pred f.args h.low
      (all_in (λ f. args_fit A d.task.objects f.pred f.args) h.goal-fit i)

  abbrev schema_rows : List ℕ
  schema_rows = schemas_from 0 d.task.schemas

  abbrev atom_rows : List ℕ
  atom_rows = concat_map (atom_words (length d.task.schemas)) d.current.atoms

  abbrev init_rows : List ℕ
  init_rows = concat_map (fact_words 3) d.task.init

  abbrev goal_rows : List ℕ
  goal_rows = concat_map (fact_words 4) d.task.goal

  pub atoms-length : length atom_rows ≡ atom_size * c.atoms
  atoms-length =
      let e = h.atoms in
      let l = length-rows (atom_words (length d.task.schemas)) atom_size d.current.atoms
      (λ a i. length-atom_words (length d.task.schemas) a (atom-sized a i).short) in
      omega arith

  pub inits-length : length init_rows ≡ atom_size * c.initial
  inits-length =
      let e = h.initial in
      let l = length-rows (fact_words 3) atom_size d.task.init
      (length-facts d.task 3 d.task.init init-sized) in
      omega arith

  pub goals-length : length goal_rows ≡ atom_size * c.goal
  goals-length =
      let e = h.goal in
      let l = length-rows (fact_words 4) atom_size d.task.goal
      (length-facts d.task 4 d.task.goal goal-sized) in
      omega arith

  pub schemas-length : length schema_rows ≡ atom_size * c.closed
  unfolding row_blocks sum
  schemas-length =
      omega (arith, h.rows-length, length-joined (row_blocks d), atoms-length, inits-length, goals-length)

  -- the rows of the schema that is being read
  pub atoms-stand : Standing w (rows_at c.predicates + atom_size * c.closed) atom_rows
  unfolding row_blocks sum
  atoms-stand =
      concat-stands w (rows_at (length A)) (row_blocks d) h.rows-stand 1
      (rows_at c.predicates + atom_size * c.closed) (omega arith) (omega (arith, h.predicates, schemas-length))

  -- one row of them
  pub atom-stands : (i : ℕ) (a₀ : Atom) → i < length d.current.atoms →
      Standing w (rows_at c.predicates + atom_size * c.closed + atom_size * i)
      (atom_words (length d.task.schemas) (get_or d.current.atoms i a₀))
  atom-stands i a₀ l =
      at_row (atom_words (length d.task.schemas)) atom_size w (rows_at c.predicates + atom_size * c.closed)
      d.current.atoms a₀
      (λ a j. length-atom_words (length d.task.schemas) a (atom-sized a j).short) atoms-stand i l

-- ---- what the code found, said of the draft
-- refusal 5 by the counts is refusal 5 of the schema that is being read
pub atom-fits : {d : Draft} {w : List ℕ} {c : Counts} {p count : ℕ} {kept ns : List ℕ} {told : Bool} → Holds d w c →
    Fitting w c.predicates c.params p kept count told → length kept ≡ 4 → Listed ns count kept →
    told ≡ args_fit d.task.arities d.current.params p ns
atom-fits {d = d} {p = p} {ns = ns} h f e l =
    f.is d.task.arities ns (sym h.predicates) h.arities-stand h.low e l ∙
    ap (λ (b : ℕ). args_fit d.task.arities b p ns) h.params

-- a row by other names of its parts
pub row_named : {w after : List ℕ} {at at' s s' : ℕ} (r p : ℕ) {xs ys : List ℕ} → at ≡ at' → s ≡ s' → xs ≡ ys →
    Wrote w at atom_size (λ k. get_or (atom_words s (bare_atom r p xs)) k 0) after →
    Wrote w at' atom_size (λ k. get_or (atom_words s' (bare_atom r p ys)) k 0) after
row_named {w} {after} {at} {at'} {s} {s'} r p {xs} {ys} e f g h =
    subst (λ (i : ℕ). Wrote w i atom_size (λ k. get_or (atom_words s' (bare_atom r p ys)) k 0) after) e
    (subst (λ (i : ℕ). Wrote w at atom_size (λ k. get_or (atom_words i (bare_atom r p ys)) k 0) after) f
    (subst (λ (zs : List ℕ). Wrote w at atom_size (λ k. get_or (atom_words s (bare_atom r p zs)) k 0) after) g h))

-- ---- an atom of a schema
module _ {d : Draft} {w : List ℕ} {c : Counts} (h : Holds d w c) (r p : ℕ) (ns : List ℕ) where
  abbrev new : Atom
  new = bare_atom r p ns

  abbrev S : ℕ
  S = length d.task.schemas

  -- refusal 6: the code's search among the rows is the definition's among the atoms
  repeated-is : {after : List ℕ} → Sized d.task.arities p ns →
      Wrote w (row_at c) atom_size (λ k. get_or (atom_words S new) k 0) after →
      any (λ i. row_same after (row_at c) (rows_at c.predicates + atom_size * c.closed + atom_size * i))
      (up_to c.atoms) ≡
      any (same_atom new) d.current.atoms
  repeated-is {after} fits wrote =
      any-index (λ i. row_same after (row_at c) (rows_at c.predicates + atom_size * c.closed + atom_size * i))
      (same_atom new)
      d.current.atoms new c.atoms h.atoms (λ i l.
      let b = get_or d.current.atoms i new in
      let size : Sized d.task.arities b.pred b.args = atom-sized h b (in-get_or d.current.atoms i new l) in
      let n = h.atoms in
      let e = length-atom_words S b size.short in
      same_rows after (row_at c) (rows_at c.predicates + atom_size * c.closed + atom_size * i) S new b fits.short
      size.short
      (λ q. fits.count ∙ (ap (λ (x : ℕ). get_or d.task.arities x 0) q ∙ sym size.count))
      (stands wrote (atom_words S new) (length-atom_words S new fits.short) (λ k m. refl))
      (stays-before wrote (rows_at c.predicates + atom_size * c.closed + atom_size * i) (atom_words S b) (omega arith)
      (atom-stands h i new l)))

  rows_more : d.task.init ≡ [] → d.task.goal ≡ [] → rows_of (with_atom d r p ns) ≡ rows_of d ++ atom_words S new
  unfolding row_blocks joined with_atom concat_map
  rows_more i g =
      rw (i, g, append-concat_map (atom_words S) d.current.atoms (new ∷ []))
      (regroup (schemas_from 0 d.task.schemas) (concat_map (atom_words S) d.current.atoms) (atom_words S new))
    where
      regroup : (x y z : List ℕ) → x ++ ((y ++ (z ++ [])) ++ ([] ++ [])) ≡ (x ++ (y ++ ([] ++ []))) ++ z
      regroup x y z = simp (append_assoc, append-nil)

  atom-held : {after : List ℕ} → InSchema c r → c.atoms < 64 → c.closed + c.atoms < 1000 →
      args_fit d.task.arities d.current.params p ns ≡ true →
      Wrote w (row_at c) atom_size (λ k. get_or (atom_words S new) k 0) after →
      Holds (with_atom d r p ns) after (one_atom_more c r)
  unfolding with_atom role_phase
  atom-held {after} inside l m fits wrote =
      let o = h.order in
      let few = h.few in
      let role = inside.known in
      let (opened, place) = atom-place (number_of c.phase) r role inside.allowed in
      let later : phase_number (role_phase r) ≡ 4 + r = role-number r role in
      let i = o.no-init (omega arith) in
      let g = o.no-goal (omega arith) in
      let n = h.atoms in
      let z = length-append d.current.atoms (new ∷ []) in
      let size = sized d.current.params d.task.arities p ns h.low fits in
      let e = length-atom_words S new size.short in
      let rows = rows_more i g in
      let total = h.rows-length in
      let y = length-append (rows_of d) (atom_words S new) in
      record {
        phase = refl;
        objects = h.objects;
        predicates = h.predicates;
        schemas = h.schemas;
        params = h.params;
        closed = h.closed;
        atoms = omega arith;
        initial = h.initial;
        goal = h.goal;
        pairs = h.pairs;
        apart = h.apart;
        few = record {
          predicates = few.predicates;
          schemas = few.schemas;
          params = few.params;
          objects = few.objects;
          atoms = omega arith;
          total = omega arith;
          initial = few.initial;
          goal = few.goal;
          pairs = few.pairs;
        };
        order = record {
          no-arity = λ q. absurd (omega arith);
          no-schema = λ q. absurd (omega arith);
          not-open = λ q. absurd (omega arith);
          closed = λ q. absurd (omega arith);
          no-init = λ q. i;
          no-goal = λ q. g;
          room = λ q x. o.room (omega arith) (omega arith);
        };
        low = h.low;
        fit =
            all_snoc (λ a. args_fit d.task.arities d.current.params a.pred a.args) d.current.atoms new
            h.fit fits;
        init-fit = h.init-fit;
        goal-fit = h.goal-fit;
        long = long-again (atom_words S new) h e wrote;
        arities-stand = arities-again (atom_words S new) h e wrote;
        params-stand = params-again (atom_words S new) h e wrote;
        pairs-stand = pairs-stay d _ after _ refl refl (pairs-again (atom_words S new) h e wrote);
        rows-stand = subst (Standing after (rows_at (length d.task.arities))) (sym rows)
            (row-behind (atom_words S new) h e wrote);
        rows-length = ap length rows ∙ omega arith;
      }
    where
      role-number : (r : ℕ) → r ≤ 2 → phase_number (role_phase r) ≡ 4 + r
      role-number zero q = refl
      role-number (suc zero) q = refl
      role-number (suc (suc zero)) q = refl
      role-number (suc (suc (suc r))) q = absurd (omega arith)

-- ---- the tests of an atom
module _ (d : Draft) (r p : ℕ) (ns : List ℕ) where
  abbrev line : Line
  line = atom_line r (entry_of p ns)

  abbrev atoms_of : List Atom
  atoms_of = d.current.atoms

  abbrev all-atoms : ℕ
  all-atoms = schema_atoms d.task.schemas + length d.current.atoms

  pub schema-full : 64 ≤ length atoms_of → take_line d line ≡ refuse 4
  unfolding take_line add_atom
  schema-full l = need-fails 4 _ (le-ltb (length atoms_of) 64 l)

  pub table-full : length atoms_of < 64 → 1000 ≤ all-atoms → take_line d line ≡ refuse 4
  unfolding take_line add_atom
  table-full l m = need-met 4 (lt-ltb (length atoms_of) 64 l) (need-fails 4 _ (le-ltb all-atoms 1000 m))

  module _ (l : length atoms_of < 64) (m : all-atoms < 1000) where
    pub atom-misfits : args_fit d.task.arities d.current.params p ns ≡ false → take_line d line ≡ refuse 5
    unfolding take_line add_atom
    atom-misfits f =
        need-met 4 (lt-ltb (length atoms_of) 64 l) (need-met 4 (lt-ltb all-atoms 1000 m) (need-fails 5 _ f))

    module _ (f : args_fit d.task.arities d.current.params p ns ≡ true) where
      atom-repeats : any (same_atom (bare_atom r p ns)) atoms_of ≡ true → take_line d line ≡ refuse 6
      unfolding take_line add_atom
      atom-repeats s =
          need-met 4 (lt-ltb (length atoms_of) 64 l)
          (need-met 4 (lt-ltb all-atoms 1000 m) (need-met 5 f (need-fails 6 _ (ap not s))))

      atom-taken : any (same_atom (bare_atom r p ns)) atoms_of ≡ false → take_line d line ≡ go_on (with_atom d r p ns)
      unfolding take_line add_atom with_atom
      atom-taken s =
          need-met 4 (lt-ltb (length atoms_of) 64 l)
          (need-met 4 (lt-ltb all-atoms 1000 m) (need-met 5 f (need-met 6 (ap not s) refl)))

-- ---- an atom's row is written
-- the code's search for the new row among those of the schema
abbrev pub again : Counts → List ℕ → Bool
again c after = any (λ i. row_same after (row_at c) (first_row c + atom_size * i)) (up_to c.atoms)

-- what follows for it, where its predicate and arguments fit
pub record AtomPut (d : Draft) (c : Counts) (r p : ℕ) (ns after : List ℕ) : Type 0 where
  pub repeats : again c after ≡ true → take_line d (atom_line r (entry_of p ns)) ≡ refuse 6
  pub taken : again c after ≡ false →
      Grows d (atom_line r (entry_of p ns)) (one_atom_more c r) after

pub atom-put : {d : Draft} {w kept ns after : List ℕ} {c : Counts} {row r p count : ℕ} {told : Bool} →
    Holds d w c → InSchema c r → c.atoms < 64 → c.closed + c.atoms < 1000 →
    Fitting w c.predicates c.params p kept count told → told ≡ true → length kept ≡ 4 → Listed ns count kept →
    row ≡ row_at c → Wrote w row atom_size (λ k. get_or (atom_words c.schemas (bare_atom r p (take count kept))) k 0)
    after →
    AtomPut d c r p ns after
atom-put {d} {w} {kept} {ns} {after} {c} {row} {r} {p} h inside below total fitting told four s at put =
    let fits : args_fit d.task.arities d.current.params p ns ≡ true = sym (atom-fits h fitting four s) ∙ told in
    let size = sized d.current.params d.task.arities p ns h.low fits in
    let wrote = row_named r p at h.schemas (listed-take s (fitting.enough told)) put in
    let same = repeated-is h r p ns size wrote in
    let n = h.atoms in
    let q = h.closed in
    record {
      repeats = λ o. atom-repeats d r p ns (omega arith) (omega arith) fits (sym same ∙ o);
      taken = λ o. record {
        draft = with_atom d r p ns;
        is = atom-taken d r p ns (omega arith) (omega arith) fits (sym same ∙ o);
        holds = atom-held h r p ns inside below total fits wrote;
      };
    }
