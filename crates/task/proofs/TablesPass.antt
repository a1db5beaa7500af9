-- Every table passes the tests that code makes word by word.
use Prim.Native.Nat.{ℕ, ◌+◌, ◌-◌, ◌≤◌, ◌<◌}
use mathlib.Core.Path.{◌≡◌, sym, ◌∙◌, ap, subst}
use mathlib.Core.Bool.{true}
use mathlib.Core.List.{List, [], ◌∷◌, ◌++◌}
use native.Mathlib.Omega.{arith}
use native.Mathlib.Decide.{dec_lt}
use lib.ListN.{length, get_or, replicate, length-replicate, get_or-replicate}
use lib.Seq.{get_or-take}
use lib.Dec.{leb}
use borrow.Author.Tests.{leb-true}
use Rattle.words.specs.Lists.{padded}
use Rattle.task.specs.Layout.{head_in, goals_from, atom_total, arity_in, atom_base}
use Rattle.task.specs.Limits.{table_words}
use Rattle.task.specs.Run.{schema_at}
use Rattle.task.specs.Table.{pair_in, pair_number_in, atom_in, schema_number_in, task_of, atom_words, is_table}
use Rattle.task.specs.Task.{Atom, Fact, Schema, no_schema, initial, goal_role}
use Rattle.words.proofs.Lists.{all_in, in-get_or}
use Rattle.words.proofs.Words.{At, at_right}
use Rattle.task.proofs.Tests.{task-tests}
use Rattle.task.proofs.SchemaRows.{numbers-rise}
use Rattle.task.proofs.AtomsStand.{Sized, Stands, fact_atom, no_fact, no_atom}
use Rattle.task.proofs.PairsStand.{no_pair}
use Rattle.task.proofs.Tables.{start_of, content-used, zero-behind, schema-stands, init-stands, goal-stands}
use Rattle.task.proofs.Tables.{of-table, atoms-read, pairs-read}
use Rattle.task.proofs.TablesByIndex.{Frame, table-frame, table-long, used-inside, atom-lies, start-suc}
use Rattle.task.proofs.TablesByIndex.{pair-lies, atoms-word, pairs-word}
use Rattle.task.proofs.TablesByIndex.{arity-at, schemas-word, arities-word, init-word, goal-word}
use Rattle.task.proofs.TablesByWords.{FactWord, WordsFit}

pub record Placed (w : List ℕ) (i : ℕ) : Type 0 where
  pub number : ℕ
  pub atom : Atom
  pub stands : Stands w i number atom
  pub size : Sized (task_of w).arities atom.pred atom.args

module _ (w : List ℕ) (fr : Frame w) where
  pub placed : (i : ℕ) → i < atom_total w → Placed w i
  unfolding schema_at
  placed i l = elim (dec_lt i (head_in w).schema_atoms) [
    | yes a ↦ in-schema i a
    | no a ↦ elim (dec_lt i (goals_from w)) [
      | yes b ↦ in-init (i - (head_in w).schema_atoms) i (omega arith) (omega arith)
      | no b ↦ in-goal (i - (goals_from w)) i (omega arith) (omega arith)
    ]
  ]
    where
      in-schema : (i : ℕ) → i < (head_in w).schema_atoms → Placed w i
      in-schema i l =
          let s : ℕ = schema_number_in w i in
          let p = atom-lies w fr i l in
          let k : ℕ = i - start_of (task_of w) s in
          let a = p.known in
          let b = p.from_start in
          let d = p.before-next in
          let e = start-suc w fr s p.known in
          let n = schemas-word w fr in
          let z : start_of (task_of w) s + k ≡ i = omega arith in
          let sc : Schema = get_or (task_of w).schemas s no_schema in
          let y : k < length (schema_at (task_of w) s).atoms = omega arith in
          let x : k < length sc.atoms = y in
          let atom : Atom = get_or sc.atoms k no_atom in
          record {
            number = s;
            atom = atom;
            stands = subst (λ (j : ℕ). Stands w j s atom) z
                (schema-stands w (task_of w) fr.sizes fr.tabled s k (omega arith) x);
            size = fr.sizes.schema sc (in-get_or (task_of w).schemas s no_schema (omega arith)) atom
                (in-get_or sc.atoms k no_atom x);
          }

      in-init : (k i : ℕ) → i ≡ (head_in w).schema_atoms + k → k < (head_in w).initial_atoms → Placed w i
      in-init k i e l =
          let n = init-word w fr in
          let f = get_or (task_of w).init k no_fact in
          record {
            number = 0;
            atom = fact_atom initial f;
            stands = rw e (init-stands w (task_of w) fr.sizes fr.tabled k (omega arith));
            size = fr.sizes.init f (in-get_or (task_of w).init k no_fact (omega arith));
          }

      in-goal : (k i : ℕ) → i ≡ goals_from w + k → k < (head_in w).goal_atoms → Placed w i
      in-goal k i e l =
          let n = goal-word w fr in
          let f = get_or (task_of w).goal k no_fact in
          record {
            number = 0;
            atom = fact_atom goal_role f;
            stands = rw e (goal-stands w (task_of w) fr.sizes fr.tabled k (omega arith));
            size = fr.sizes.goal f (in-get_or (task_of w).goal k no_fact (omega arith));
          }

pub unused-words : (w : List ℕ) (i s : ℕ) (a : Atom) → At w (atom_base w i) (atom_words s a) → (k : ℕ) →
    length a.args ≤ k → k < 4 → get_or w (atom_base w i + 4 + k) 0 ≡ 0
unfolding atom_words padded
unused-words w i s a h k l m =
    let b = atom_base w i in
    let four : List ℕ = s ∷ a.role ∷ a.pred ∷ a.part ∷ [] in
    let zs : List ℕ = replicate (4 - length a.args) 0 in
    let j : ℕ = k - length a.args in
    let r : At w (b + 4 + length a.args) zs =
    at_right w (b + 4) a.args zs (at_right w b four (a.args ++ zs) h) in
    let e : b + 4 + k ≡ b + 4 + length a.args + j = omega arith in
    let n = length-replicate {A = ℕ} (4 - length a.args) 0 in
    ap (λ (x : ℕ). get_or w x 0) e ∙ (r j (omega arith) ∙ get_or-replicate (4 - length a.args) j 0 0 (omega arith))

pub fact-word : (w : List ℕ) (i r : ℕ) (f : Fact) → Stands w i 0 (fact_atom r f) → FactWord w i r
fact-word w i r f c = record {
  schema = c.number;
  role = ap (λ (a : Atom). a.role) c.atom;
  part =
      ap (λ (a : Atom). a.part) c.atom;
}

pub table-words : (w : List ℕ) → is_table w ≡ true → WordsFit w
table-words w h =
    let fr = table-frame w h in
    let (a, b) = of-table w h in
    let c = task-tests (task_of w) a in
    let n₁ = arities-word w fr in
    let n₂ = init-word w fr in
    let n₃ = goal-word w fr in
    let used = content-used w (task_of w) fr.sizes fr.tabled in
    record {
      long = table-long w h;
      inside = used-inside w fr;
      arity = λ p l. rw (← arity-at w fr p l)
          (leb-true (get_or (task_of w).arities p 0) 4
          (all_in (λ n. leb n 4) c.arities (in-get_or (task_of w).arities p 0 (omega arith))));
      known = λ i l. let p = placed w fr i l in rw p.stands.atom (let z = p.size.known in omega arith);
      unused = λ i k l m x.
          let p = placed w fr i l in
          let q : arity_in w p.atom.pred ≤ k = rw p.stands.atom at m in
          let e = arity-at w fr p.atom.pred (let z = p.size.known in omega arith) in
          let d = p.size.count in
          unused-words w i p.number p.atom p.stands.words k (omega arith) x;
      schema = λ i l. (atom-lies w fr i l).known;
      order = λ i l. let e = atoms-word w fr in
          numbers-rise (λ s. s.atoms) no_atom (schema_number_in w) (atom_in w) (task_of w).schemas
          (atoms-read w (task_of w) fr.sizes fr.tabled) i (omega arith);
      pair-schema = λ i l. (pair-lies w fr i l).known;
      pair-order = λ i l. let e = pairs-word w fr in
          numbers-rise (λ s. s.pairs) no_pair (pair_number_in w) (pair_in w) (task_of w).schemas
          (pairs-read w (task_of w) fr.sizes fr.tabled) i (omega arith);
      init = λ i l. fact-word w ((head_in w).schema_atoms + i) 3 (get_or (task_of w).init i no_fact)
          (init-stands w (task_of w) fr.sizes fr.tabled i (omega arith));
      goal = λ i l. fact-word w (goals_from w + i) 4 (get_or (task_of w).goal i no_fact)
          (goal-stands w (task_of w) fr.sizes fr.tabled i (omega arith));
      rest = λ k l m. sym (get_or-take table_words w k 0 m) ∙
          (ap (λ (x : List ℕ). get_or x k 0) (sym b) ∙ zero-behind (task_of w) k (omega arith) m);
    }
