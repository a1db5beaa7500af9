-- Atoms in words: how many words they take, and what is read where they stand.
use Prim.Native.Nat.{ℕ, ◌+◌, ◌-◌, ◌*◌, ◌≤◌, ◌<◌}
use mathlib.Core.Path.{◌≡◌, refl, sym, ◌∙◌, ap}
use mathlib.Core.Bool.{true}
use mathlib.Core.List.{List, [], ◌∷◌, ◌++◌}
use native.Mathlib.Omega.{arith}
use lib.ListN.{length, get_or, replicate}
use lib.Dec.{leb}
use borrow.Author.Tests.{leb-true}
use Rattle.words.specs.Lists.{all, padded}
use Rattle.words.specs.Words.{words_at}
use Rattle.task.specs.Layout.{arity_in, atom_base}
use Rattle.task.specs.Limits.{head_words, atom_size}
use Rattle.task.specs.Task.{Atom, Fact, Schema, Task, args_fit, schema_fits}
use Rattle.task.specs.Table.{atom_in, schema_number_in, fact_in, atom_words, fact_words}
use Rattle.words.proofs.Lists.{In, in-get_or, all_in, length-padded}
use Rattle.words.proofs.Words.{At, at_left, at_right, words_at-at}
use Rattle.task.proofs.States.{args_fit-fitting}
use Rattle.task.proofs.Tests.{schema-tests, fits, fact-tests, TaskTests}
use Rattle.task.proofs.SchemaRows.{row_counts, Even}

pub base_step : (w : List ℕ) (i j : ℕ) → atom_base w (i + j) ≡ atom_base w i + atom_size * j
unfolding atom_base
base_step w i j = omega arith

-- ---- atoms in words
pub record Sized (arities : List ℕ) (p : ℕ) (args : List ℕ) : Type 0 where
  pub known : p < length arities
  pub count : length args ≡ get_or arities p 0
  pub short : length args ≤ 4

pub sized : (n : ℕ) (arities : List ℕ) (p : ℕ) (args : List ℕ) → all (λ n. leb n 4) arities ≡ true →
    args_fit arities n p args ≡ true → Sized arities p args
sized n arities p args h k =
    let c = args_fit-fitting n arities p args k in
    let l = leb-true (get_or arities p 0) 4 (all_in (λ n. leb n 4) h (in-get_or arities p 0 c.known)) in
    let e = c.count in
    record { known = c.known; count = c.count; short = omega arith }

pub length-atom_words : (s : ℕ) (a : Atom) → length a.args ≤ 4 → length (atom_words s a) ≡ atom_size
unfolding atom_words
length-atom_words s a h = let e = length-padded 4 a.args h in omega arith

abbrev pub fact_atom : ℕ → Fact → Atom
fact_atom r f = record { role = r; pred = f.pred; part = 0; args = f.args }

pub fact_words-is : (r : ℕ) (f : Fact) → fact_words r f ≡ atom_words 0 (fact_atom r f)
unfolding fact_words atom_words
fact_words-is r f = refl

pub record Stands (w : List ℕ) (i s : ℕ) (a : Atom) : Type 0 where
  pub number : schema_number_in w i ≡ s
  pub atom : atom_in w i ≡ a
  pub words : At w (atom_base w i) (atom_words s a)

pub atom-stands : (w arities : List ℕ) → At w head_words arities → (i s : ℕ) (a : Atom) →
    Sized arities a.pred a.args → At w (atom_base w i) (atom_words s a) → Stands w i s a
unfolding schema_number_in atom_in atom_words padded arity_in
atom-stands w arities r i s a c h =
    let b = atom_base w i in
    let four : List ℕ = s ∷ a.role ∷ a.pred ∷ a.part ∷ [] in
    let more : List ℕ = replicate (4 - length a.args) 0 in
    let z : b ≡ b + 0 = omega arith in
    let args : At w (b + 4) a.args = at_left w (b + 4) a.args more (at_right w b four (a.args ++ more) h) in
    let p : get_or w (b + 2) 0 ≡ a.pred = h 2 (omega arith) in
    let n : get_or w (head_words + get_or w (b + 2) 0) 0 ≡ length a.args = ap (λ (x : ℕ). get_or w (head_words + x) 0) p ∙
    (r a.pred c.known ∙ sym c.count) in
    let e₁ : get_or w (b + 1) 0 ≡ a.role = h 1 (omega arith) in
    let e₃ : get_or w (b + 3) 0 ≡ a.part = h 3 (omega arith) in
    let e₄ : words_at w (b + 4) (get_or w (head_words + get_or w (b + 2) 0) 0) ≡ a.args = ap (words_at w (b + 4)) n ∙
    words_at-at w (b + 4) a.args args in
    record {
      number = ap (λ (x : ℕ). get_or w x 0) z ∙ h 0 (omega arith);
      atom = λ j. record { role = e₁ j; pred = p j; part = e₃ j; args = e₄ j };
      words = h;
    }

pub fact-stands : (w : List ℕ) (i r : ℕ) (f : Fact) → Stands w i 0 (fact_atom r f) → fact_in w i ≡ f
unfolding fact_in
fact-stands w i r f c = let e = c.atom in λ j. record { pred = (e j).pred; args = (e j).args }

-- ---- schemas in words
abbrev pub no_fact : Fact
no_fact = record { pred = 0; args = [] }

abbrev pub no_atom : Atom
no_atom = record { role = 0; pred = 0; part = 0; args = [] }

abbrev pub counts : List Schema → List ℕ
counts ss = row_counts (λ s. s.atoms) ss

abbrev pub Short : List Schema → Type 0
Short ss = (s : Schema) → In s ss → (a : Atom) → In a s.atoms → length a.args ≤ 4

-- each has the words of a row
pub atoms-even : (ss : List Schema) → Short ss → Even atom_words (λ s. s.atoms) atom_size ss
atoms-even ss h s i a j n = length-atom_words n a (h s i a j)

-- what the tests say of the lengths
pub record Lengths (t : Task) : Type 0 where
  pub schema : (s : Schema) → In s t.schemas → (a : Atom) → In a s.atoms → Sized t.arities a.pred a.args
  pub init : (f : Fact) → In f t.init → Sized t.arities f.pred f.args
  pub goal : (f : Fact) → In f t.goal → Sized t.arities f.pred f.args

pub lengths : (t : Task) → TaskTests t → Lengths t
lengths t c = record {
  schema = λ s i a j.
      let q = schema-tests t.arities s (all_in (schema_fits t.arities) c.fit i) in
      sized s.params t.arities a.pred a.args c.arities
      (all_in (λ a. args_fit t.arities s.params a.pred a.args) q.fit j);
  init = λ f i. sized t.objects t.arities f.pred f.args c.arities
      (all_in (fits t.objects t.arities) (fact-tests t.objects t.arities t.init c.init).fit i);
  goal = λ f i. sized t.objects t.arities f.pred f.args c.arities
      (all_in (fits t.objects t.arities) (fact-tests t.objects t.arities t.goal c.goal).fit i);
}

pub length-facts : (t : Task) (r : ℕ) (fs : List Fact) →
    ((f : Fact) → In f fs → Sized t.arities f.pred f.args) → (f : Fact) → In f fs →
    length (fact_words r f) ≡ atom_size
length-facts t r fs h f i = rw (fact_words-is r f) (length-atom_words 0 (fact_atom r f) (h f i).short)
