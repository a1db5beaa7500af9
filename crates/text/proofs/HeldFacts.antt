-- Initial and goal atoms: the code's tests of a fact are the definitions' tests, and behind its line the code holds the
-- draft with one fact more.
use Rattle.text.specs.declared.draft.Kind.TheVariants as kind
use Prim.Native.Nat.{ℕ, suc, ◌+◌, ◌-◌, ◌*◌, ◌≤◌, ◌<◌}
use mathlib.Core.Path.{◌≡◌, refl, sym, ◌∙◌, ap, subst}
use mathlib.Core.Bool.{Bool, true, false}
use mathlib.Core.List.{List, [], ◌∷◌, ◌++◌, append_assoc, append-nil}
use native.Mathlib.Omega.{arith}
use lib.ListN.{length, get_or, length-append, take}
use borrow.Author.Tests.{le-ltb, lt-ltb}
use Rattle.words.specs.Lists.{all, concat_map, joined, sum, less_list}
use Rattle.task.specs.Limits.{atom_size, table_length}
use Rattle.task.specs.Task.{Fact, Schema, args_fit, no_schema}
use Rattle.task.specs.Table.{atom_words, fact_words, schemas_from}
use Rattle.words.specs.Words.{words_at}
use Rattle.words.proofs.Lists.{In, all_in, in-get_or, append-concat_map}
use Rattle.words.proofs.Words.{at-move, at_row}
use Rattle.words.proofs.JoinedWords.{concat-stands}
use Rattle.task.proofs.AtomsStand.{Sized, sized, length-atom_words, length-facts, fact_atom, fact_words-is}
use Rattle.text.specs.Reading.{go_on, refuse}
use Rattle.text.specs.Text.{Draft, in_init, in_goal, at_phase, with_init, with_goal, follows, add_fact, init}
use Rattle.text.specs.Text.{Phase, Line, take_line}
use Rattle.text.specs.ReadCode.{Standing, Wrote, Listed, Fitting, bare_atom, number_of, phase_number}
use Rattle.text.specs.Holding.{Few, row_at, row_blocks, rows_of, Holds, Allows, fact_key, fact_line, facts_of}
use Rattle.text.specs.Holding.{with_facts, so_far, with_counted, one_fact_more, Grows, entry_of, rows_at}
use Rattle.text.proofs.Reading.{need-met}
use Rattle.text.proofs.Growing.{all_snoc, facts-order, first-behind, later-behind}
use Rattle.text.proofs.LineTurns.{need-fails}
use Rattle.text.proofs.WroteWords.{stands, stays-before}
use Rattle.text.proofs.RowCompare.{less-rows}
use Rattle.text.proofs.HeldAtoms.{arities-again, params-again, pairs-again, row-behind, long-again}
use Rattle.text.proofs.HeldAtoms.{schemas-length, atoms-length, inits-length}
use Rattle.text.proofs.HeldPairs.{pairs-stay}
use Rattle.text.proofs.Dispatch.{may-stand}
use Rattle.text.proofs.RowTests.{listed-take}
use Rattle.text.specs.declared.draft.Counts.{Counts}
use Rattle.text.specs.declared.draft.Facts.{Facts}
use Rattle.text.specs.declared.draft.Kind.{Kind}

abbrev pub fact_of : ℕ → List ℕ → Fact
fact_of p ns = record { pred = p; args = ns }

pub fact-room : {c : Counts} → Few c → c.initial + c.goal < 600 → row_at c + atom_size ≤ table_length
fact-room f l =
    let a = f.predicates in
    let t = f.total in
    omega arith

pub fact-fits : {d : Draft} {w : List ℕ} {c : Counts} {p count : ℕ} {kept ns : List ℕ} {told : Bool} → Holds d w c →
    Fitting w c.predicates c.objects p kept count told → length kept ≡ 4 → Listed ns count kept →
    told ≡ args_fit d.task.arities d.task.objects p ns
fact-fits {d = d} {p = p} {ns = ns} h f e l =
    f.is d.task.arities ns (sym h.predicates) h.arities-stand h.low e l ∙
    ap (λ (b : ℕ). args_fit d.task.arities b p ns) h.objects

-- a fact's row by its words
pub fact-row : {w after : List ℕ} {at at' : ℕ} (r p : ℕ) {xs ys : List ℕ} → at ≡ at' → xs ≡ ys →
    Wrote w at atom_size (λ k. get_or (atom_words 0 (bare_atom r p xs)) k 0) after →
    Wrote w at' atom_size (λ k. get_or (fact_words r (fact_of p ys)) k 0) after
fact-row {w} {after} {at} {at'} r p {xs} {ys} e g h =
    subst (λ (i : ℕ). Wrote w i atom_size (λ k. get_or (fact_words r (fact_of p ys)) k 0) after) e
    (subst (λ (zs : List ℕ). Wrote w at atom_size (λ k. get_or (fact_words r (fact_of p zs)) k 0) after) g
    (subst (λ (zs : List ℕ). Wrote w at atom_size (λ k. get_or zs k 0) after) (sym (fact_words-is r (fact_of p xs))) h))

-- ---- what the code needs of the facts that are read
-- where a fact may come, behind those of its kind
pub record FactPlace (c : Counts) (f : Facts) : Type 0 where
  pub known : f.role ≤ 4
  pub few : f.read < f.most → c.initial + c.goal < 600
  pub counted : f.read ≤ c.initial + c.goal

-- the facts of a kind, the last ones in the table
pub record FactsRead (d : Draft) (w : List ℕ) (c : Counts) (f : Facts) (fs : List Fact) : Type 0 where
  pub count : f.read ≡ length fs
  pub fit : all (λ g. args_fit d.task.arities d.task.objects g.pred g.args) fs ≡ true
  pub stand : Standing w (rows_at c.predicates + atom_size *
      (((c.closed + c.atoms) + c.initial) + c.goal - f.read))
      (concat_map (fact_words f.role) fs)

-- ---- the tests of a fact
module _ (k : Kind) (c : Counts) (d : Draft) (p : ℕ) (ns : List ℕ) where
  abbrev line : Line
  line = fact_line k (entry_of p ns)

  abbrev facts : List Fact
  facts = facts_of k d.task

  abbrev most : ℕ
  most = (so_far c k).most

  abbrev fits : Bool
  fits = args_fit d.task.arities d.task.objects p ns

  -- one turn for both kinds
  line-is : take_line d line ≡ add_fact d.task most facts (entry_of p ns) (with_facts k d)
  unfolding take_line
  line-is = go k
    where
      go : (k : Kind) → take_line d (fact_line k (entry_of p ns)) ≡
          add_fact d.task (so_far c k).most (facts_of k d.task) (entry_of p ns) (with_facts k d)
      go kind.Initial = refl
      go kind.Goal = refl

  kind-full : most ≤ length facts → take_line d line ≡ refuse 4
  unfolding add_fact
  kind-full l = line-is ∙ need-fails 4 _ (le-ltb (length facts) most l)

  fact-misfits : length facts < most → fits ≡ false → take_line d line ≡ refuse 5
  unfolding add_fact
  fact-misfits l f = line-is ∙ need-met 4 (lt-ltb (length facts) most l) (need-fails 5 _ f)

  fact-unordered : length facts < most → fits ≡ true → follows facts (fact_of p ns) ≡ false →
      take_line d line ≡ refuse 6
  unfolding add_fact
  fact-unordered l f o =
      line-is ∙ need-met 4 (lt-ltb (length facts) most l) (need-met 5 f (need-fails 6 _ o))

  fact-taken : length facts < most → fits ≡ true → follows facts (fact_of p ns) ≡ true →
      take_line d line ≡ go_on (with_facts k d (facts ++ (fact_of p ns ∷ [])))
  unfolding add_fact
  fact-taken l f o =
      line-is ∙ need-met 4 (lt-ltb (length facts) most l) (need-met 5 f (need-met 6 o refl))

-- ---- the order of facts
module _ {d : Draft} {w after : List ℕ} {c : Counts} (h : Holds d w c) (facts : Facts) (fs : List Fact)
    (known : FactsRead d w c facts fs) (p : ℕ) (ns : List ℕ) where
  follows_is : 0 < facts.read → facts.read ≤ c.initial + c.goal → Sized d.task.arities p ns →
      Wrote w (row_at c) atom_size (λ k. get_or (fact_words facts.role (fact_of p ns)) k 0) after →
      less_list (words_at after (row_at c - 6) 6) (words_at after (row_at c + 2) 6) ≡ follows fs (fact_of p ns)
  follows_is pos few fits wrote =
      let f = fact_of p ns in
      let k = facts.read - 1 in
      let n = known.count in
      let e : length fs ≡ suc k = omega arith in
      let g = get_or fs k f in
      let total = ((c.closed + c.atoms) + c.initial) + c.goal in
      let size = fact-size k (omega arith) in
      let place : (rows_at c.predicates + atom_size * (total - facts.read)) + atom_size * k ≡ row_at c - atom_size =
      omega arith in
      let old = at-move w ((rows_at c.predicates + atom_size * (total - facts.read)) + atom_size * k)
      (row_at c - atom_size)
      (fact_words facts.role g) place
      (at_row (fact_words facts.role) atom_size w (rows_at c.predicates + atom_size * (total - facts.read)) fs f
      (length-facts d.task facts.role fs fs-sized) known.stand k (omega arith)) in
      let eight = length-facts d.task facts.role fs fs-sized g (in-get_or fs k f (omega arith)) in
      let z : row_at c - 6 ≡ (row_at c - atom_size) + 2 = omega arith in
      ap (λ (i : ℕ). less_list (words_at after i 6) (words_at after (row_at c + 2) 6)) z ∙
      (less-rows (λ q. get_or d.task.arities q 0) after (row_at c - atom_size) (row_at c) facts.role g f size.short
      fits.short
      size.count fits.count
      (stays-before wrote (row_at c - atom_size) (fact_words facts.role g) (omega arith) old)
      (stands wrote (fact_words facts.role f) new-size (λ k m. refl)) ∙ sym (later-behind facts-order fs f k f e))
    where
      fs-sized : (f : Fact) → In f fs → Sized d.task.arities f.pred f.args
      fs-sized f i = sized d.task.objects d.task.arities f.pred f.args h.low
          (all_in (λ f. args_fit d.task.arities d.task.objects f.pred f.args) known.fit i)

      fact-size : (k : ℕ) → k < length fs →
          Sized d.task.arities (get_or fs k (fact_of p ns)).pred (get_or fs k (fact_of p ns)).args
      fact-size k l = fs-sized (get_or fs k (fact_of p ns)) (in-get_or fs k (fact_of p ns) l)

      new-size : length (fact_words facts.role (fact_of p ns)) ≡ atom_size
      new-size =
          rw (fact_words-is facts.role (fact_of p ns)) (length-atom_words 0 (fact_atom facts.role (fact_of p ns))
          fits.short)

-- ---- the facts of each kind are the last ones in the table
module _ {d : Draft} {w : List ℕ} {c : Counts} (h : Holds d w c) where
  inits-read : d.task.goal ≡ [] → FactsRead d w c (so_far c kind.Initial) d.task.init
  unfolding row_blocks sum
  inits-read g =
      let n = h.goal ∙ ap length g in
      record {
        count = h.initial;
        fit = h.init-fit;
        stand = concat-stands w (rows_at (length d.task.arities)) (row_blocks d) h.rows-stand 2 _ (omega arith)
            (omega (arith, h.predicates, schemas-length h, atoms-length h));
      }

  goals-read : FactsRead d w c (so_far c kind.Goal) d.task.goal
  unfolding row_blocks sum
  goals-read = record {
    count = h.goal;
    fit = h.goal-fit;
    stand = concat-stands w (rows_at (length d.task.arities)) (row_blocks d) h.rows-stand 3 _ (omega arith)
        (omega (arith, h.predicates, schemas-length h, atoms-length h, inits-length h));
  }

  -- before an `init` line there is no goal atom yet
  init-allowed : Allows c init → (8 ≤ number_of c.phase) × (d.task.goal ≡ [])
  init-allowed allowed =
      let stands = may-stand (number_of c.phase) 9 allowed in
      let before = stands.before in
      (stands.between (omega arith), h.order.no-goal (omega arith))

  facts-read : (k : Kind) → Allows c (fact_key k) → FactsRead d w c (so_far c k) (facts_of k d.task)
  facts-read kind.Initial allowed = inits-read (init-allowed allowed).1
  facts-read kind.Goal allowed = goals-read

-- where a fact of a kind may come
pub fact-place : (k : Kind) {c : Counts} {f : Facts} → Few c → f ≡ so_far c k → FactPlace c f
fact-place k {c} few e = subst (FactPlace c) (sym e) (go k)
  where
    go : (k : Kind) → FactPlace c (so_far c k)
    go kind.Initial =
        let g = few.goal in
        record { known = omega arith; few = λ l. omega arith; counted = omega arith }
    go kind.Goal =
        let i = few.initial in
        record { known = omega arith; few = λ l. omega arith; counted = omega arith }

-- ---- one fact more
module _ {d : Draft} {w : List ℕ} {c : Counts} (h : Holds d w c) (p : ℕ) (ns : List ℕ) where
  abbrev new : Fact
  new = fact_of p ns

  abbrev fact_fits : Fact → Bool
  fact_fits f = args_fit d.task.arities d.task.objects f.pred f.args

  init-rows : d.current ≡ no_schema → d.task.goal ≡ [] →
      rows_of (at_phase in_init (with_init d.task (d.task.init ++ (new ∷ [])))) ≡ rows_of d ++ fact_words 3 new
  unfolding row_blocks joined at_phase with_init concat_map
  init-rows s g =
      rw (s, g, append-concat_map (fact_words 3) d.task.init (new ∷ []))
      (regroup (schemas_from 0 d.task.schemas) (concat_map (fact_words 3) d.task.init) (fact_words 3 new))
    where
      regroup : (x y z : List ℕ) → x ++ ([] ++ ((y ++ (z ++ [])) ++ [])) ≡ (x ++ ([] ++ (y ++ []))) ++ z
      regroup x y z = simp (append_assoc, append-nil)

  goal-rows : d.current ≡ no_schema →
      rows_of (at_phase in_goal (with_goal d.task (d.task.goal ++ (new ∷ [])))) ≡ rows_of d ++ fact_words 4 new
  unfolding row_blocks joined at_phase with_goal concat_map
  goal-rows s =
      rw (s, append-concat_map (fact_words 4) d.task.goal (new ∷ []))
      (regroup (schemas_from 0 d.task.schemas) (concat_map (fact_words 3) d.task.init)
      (concat_map (fact_words 4) d.task.goal) (fact_words 4 new))
    where
      regroup : (x y z v : List ℕ) →
          x ++ ([] ++ (y ++ ((z ++ (v ++ [])) ++ []))) ≡ (x ++ ([] ++ (y ++ (z ++ [])))) ++ v
      regroup x y z v = simp (append_assoc, append-nil)

  fact-length : (r : ℕ) → args_fit d.task.arities d.task.objects p ns ≡ true →
      length (fact_words r new) ≡ atom_size
  fact-length r fits =
      let size = sized d.task.objects d.task.arities p ns h.low fits in
      rw (fact_words-is r new) (length-atom_words 0 (fact_atom r new) size.short)

  schema-fit : d.current ≡ no_schema →
      all (λ a. args_fit d.task.arities no_schema.params a.pred a.args) no_schema.atoms ≡ true
  schema-fit e =
      subst (λ (s : Schema). all (λ a. args_fit d.task.arities s.params a.pred a.args) s.atoms ≡ true)
      e h.fit

  -- a new row behind all others is a fact's, of the one kind or the other
  module _ (place : Phase) (inits goals : List Fact) (i g : ℕ) where
    abbrev grown : Draft
    grown = at_phase place (record {
      objects = d.task.objects;
      arities = d.task.arities;
      schemas = d.task.schemas;
      init = inits;
      goal = goals;
    })

    facts-held : {after : List ℕ} (row : List ℕ) → d.current ≡ no_schema → 9 ≤ phase_number place →
        (phase_number place ≤ 9 → goals ≡ []) → i ≡ length inits → g ≡ length goals → i ≤ 500 → g ≤ 100 →
        i + g ≡ c.initial + c.goal + 1 → all fact_fits inits ≡ true → all fact_fits goals ≡ true →
        rows_of grown ≡ rows_of d ++ row → length row ≡ atom_size → Wrote w (row_at c) atom_size (λ k. get_or row k 0) after →
        Holds grown after (with_counted c place i g)
    unfolding at_phase
    facts-held {after} row s later no-goal ni ng fi fg more fit-i fit-g rows e wrote =
        let few = h.few in
        let total = h.rows-length in
        let y = length-append (rows_of d) row in
        record {
          phase = refl;
          objects = h.objects;
          predicates = h.predicates;
          schemas = h.schemas;
          params = h.params ∙ ap (λ (s : Schema). s.params) s;
          closed = h.closed;
          atoms = h.atoms ∙ ap (λ (s : Schema). length s.atoms) s;
          initial = ni;
          goal = ng;
          pairs = h.pairs;
          apart = h.apart ∙ ap (λ (s : Schema). length s.pairs) s;
          few = record {
            predicates = few.predicates;
            schemas = few.schemas;
            params = few.params;
            objects = few.objects;
            atoms = few.atoms;
            total = few.total;
            initial = fi;
            goal = fg;
            pairs = few.pairs;
          };
          order = record {
            no-arity = λ q. absurd (omega arith);
            no-schema = λ q. absurd (omega arith);
            not-open = λ q. absurd (omega arith);
            closed = λ q. refl;
            no-init = λ q. absurd (omega arith);
            no-goal = no-goal;
            room = λ q x. absurd (omega arith);
          };
          low = h.low;
          fit = schema-fit s;
          init-fit = fit-i;
          goal-fit = fit-g;
          long = long-again row h e wrote;
          arities-stand = arities-again row h e wrote;
          params-stand = params-again row h e wrote;
          pairs-stand = pairs-stay d _ after _ refl (ap (λ (s : Schema). s.pairs) s) (pairs-again row h e wrote);
          rows-stand = subst (Standing after (rows_at (length d.task.arities))) (sym rows)
              (row-behind row h e wrote);
          rows-length = ap length rows ∙ omega arith;
        }

  -- behind a fact that is taken the code holds the draft again
  fact-held : (k : Kind) → Allows c (fact_key k) → {after : List ℕ} → length (facts_of k d.task) < (so_far c k).most →
      fact_fits new ≡ true → Wrote w (row_at c) atom_size (λ i. get_or (fact_words (so_far c k).role new) i 0) after →
      Holds (with_facts k d (facts_of k d.task ++ (new ∷ []))) after (one_fact_more c k)
  unfolding with_init with_goal
  fact-held kind.Initial allowed l fits wrote =
      let few = h.few.goal in
      let (between, none) = init-allowed h allowed in
      let s = h.order.closed (omega arith) in
      let n = h.initial in
      let z = length-append d.task.init (new ∷ []) in
      facts-held in_init (d.task.init ++ (new ∷ [])) d.task.goal (c.initial + 1) c.goal (fact_words 3 new) s
      (omega arith) (λ q. none) (omega arith) h.goal (omega arith) few (omega arith)
      (all_snoc fact_fits d.task.init new h.init-fit fits) h.goal-fit (init-rows s none)
      (fact-length 3 fits) wrote
  fact-held kind.Goal allowed l fits wrote =
      let few = h.few.initial in
      let between = (may-stand (number_of c.phase) 10 allowed).between (omega arith) in
      let s = h.order.closed (omega arith) in
      let n = h.goal in
      let z = length-append d.task.goal (new ∷ []) in
      facts-held in_goal d.task.init (d.task.goal ++ (new ∷ [])) c.initial (c.goal + 1) (fact_words 4 new) s
      (omega arith) (λ q. absurd (omega arith)) h.initial (omega arith) few (omega arith) (omega arith)
      h.init-fit (all_snoc fact_fits d.task.goal new h.goal-fit fits) (goal-rows s)
      (fact-length 4 fits) wrote

-- ---- a fact's row is written
-- what follows for it, where its predicate and arguments fit: it is taken if it comes behind the others of its kind
pub record FactPut (k : Kind) (f : Facts) (d : Draft) (c : Counts) (p : ℕ) (ns after : List ℕ) : Type 0 where
  pub first : f.read ≡ 0 → follows (facts_of k d.task) (fact_of p ns) ≡ true
  pub later : 0 < f.read → less_list (words_at after (row_at c - 6) 6) (words_at after (row_at c + 2) 6) ≡
      follows (facts_of k d.task) (fact_of p ns)
  pub unordered : follows (facts_of k d.task) (fact_of p ns) ≡ false →
      take_line d (fact_line k (entry_of p ns)) ≡ refuse 6
  pub taken : follows (facts_of k d.task) (fact_of p ns) ≡ true →
      Grows d (fact_line k (entry_of p ns)) (one_fact_more c k) after

pub fact-put : (k : Kind) {f : Facts} {d : Draft} {w kept ns after : List ℕ} {c : Counts} {row p count : ℕ}
    {told : Bool} → Holds d w c → Allows c (fact_key k) → f ≡ so_far c k → f.read < f.most →
    Fitting w c.predicates c.objects p kept count told → told ≡ true → length kept ≡ 4 → Listed ns count kept →
    row ≡ row_at c → Wrote w row atom_size (λ i. get_or (atom_words 0 (bare_atom f.role p (take count kept))) i 0) after →
    FactPut k f d c p ns after
fact-put k {f} {d} {w} {kept} {ns} {after} {c} {row} {p} {count} h allowed e below fitting told four s at put =
    subst (λ (f : Facts). f.read < f.most → Written f → FactPut k f d c p ns after) (sym e) go below put
  where
    Written : Facts → Type 0
    Written f = Wrote w row atom_size (λ i. get_or (atom_words 0 (bare_atom f.role p (take count kept))) i 0) after

    go : (so_far c k).read < (so_far c k).most → Written (so_far c k) → FactPut k (so_far c k) d c p ns after
    go below put =
        let facts = facts-read h k allowed in
        let n = facts.count in
        let few : length (facts_of k d.task) < (so_far c k).most = omega arith in
        let fits : args_fit d.task.arities d.task.objects p ns ≡ true = sym (fact-fits h fitting four s) ∙
        told in
        let size = sized d.task.objects d.task.arities p ns h.low fits in
        let wrote = fact-row (so_far c k).role p at (listed-take s (fitting.enough told)) put in
        record {
          first = λ q. first-behind facts-order (facts_of k d.task) (fact_of p ns) (sym n ∙ q);
          later = λ q. follows_is h (so_far c k) (facts_of k d.task) facts p ns q (fact-place k h.few refl).counted
              size wrote;
          unordered = fact-unordered k c d p ns few fits;
          taken = λ o. record {
            draft = with_facts k d (facts_of k d.task ++ (fact_of p ns ∷ []));
            is = fact-taken k c d p ns few fits o;
            holds = fact-held h p ns k allowed few fits wrote;
          };
        }

-- ---- refusals before a row is written
module _ (k : Kind) {f : Facts} {d : Draft} {w : List ℕ} {c : Counts} (h : Holds d w c) (e : f ≡ so_far c k) (p : ℕ)
    (ns : List ℕ) where
  counted : f.read ≡ length (facts_of k d.task)
  counted = ap (λ (x : Facts). x.read) e ∙ go k
    where
      go : (k : Kind) → (so_far c k).read ≡ length (facts_of k d.task)
      go kind.Initial = h.initial
      go kind.Goal = h.goal

  most-is : f.most ≡ (so_far c k).most
  most-is = ap (λ (x : Facts). x.most) e

  pub full-refused : f.most ≤ f.read → take_line d (fact_line k (entry_of p ns)) ≡ refuse 4
  full-refused l = let n = counted in let m = most-is in kind-full k c d p ns (omega arith)

  pub misfit-refused : f.read < f.most → args_fit d.task.arities d.task.objects p ns ≡ false →
      take_line d (fact_line k (entry_of p ns)) ≡ refuse 5
  misfit-refused l q = let n = counted in let m = most-is in fact-misfits k c d p ns (omega arith) q
