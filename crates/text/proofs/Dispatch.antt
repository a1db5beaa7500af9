-- The turn at a line by its key: where in the fixed order a key may stand, by numbers; and the turn at the body of the
-- key is the turn at the line.
use Rattle.text.specs.declared.draft.Turn.TheVariants as turn
use Rattle.text.specs.declared.keys.Key.TheVariants as code
use Prim.Native.Nat.{ℕ, ◌≤◌, zero, suc, ◌+◌}
use mathlib.Core.Path.{◌≡◌, refl, sym, subst}
use mathlib.Core.Logic.{◌⊎◌, inl, inr}
use mathlib.Core.Bool.{Bool, true, false, cond}
use mathlib.Core.List.{List}
use Rattle.std.specs.Prelude.{Option, Result, Ok, Err}
use Rattle.task.specs.declared.refusals.Reason.{Reason}
use native.Mathlib.Omega.{arith}
use lib.Dec.{leb, ltb}
use borrow.Author.Tests.{leb-true, ltb-true, ltb-false}
use Rattle.words.proofs.Lists.{and_left, and_right}
use Rattle.text.specs.declared.cursor.Cursor.{Cursor}
use Rattle.text.specs.declared.keys.Key.{Key as Code}
use Rattle.text.specs.Lines.{Taken, ended, entry}
use Rattle.text.specs.Text.{Key, Line, Phase, at_task, at_objects, at_arity, between, in_differ, in_pre, in_add}
use Rattle.text.specs.Text.{in_del, in_init, in_goal, Draft, role_key, role_phase, atom_line, read_body}
use Rattle.text.specs.ReadCode.{Moved, NextLine, key_number, meant, phase_number, role_place, last_key, may_stand}
use Rattle.text.specs.Holding.{Turned, fact_key, fact_line, kind_of, role_of}
use Rattle.text.specs.declared.draft.Turn.{Turn}

-- ---- places
-- where a key may stand
pub record Stands (p k : ℕ) : Type 0 where
  pub before : p ≤ k
  pub head : k ≤ 2 → p ≡ k
  pub in-schema : 3 ≤ k → k ≤ 7 → 3 ≤ p
  pub between : 8 ≤ k → 8 ≤ p

pub may-stand : (p k : ℕ) → may_stand p k ≡ true → Stands p k
unfolding last_key
may-stand p k h =
    let low = leb-true p k (and_left (leb p k) (leb k (last_key p)) h) in
    go low (ltb p 3) refl (leb-true k (last_key p) (and_right (leb p k) (leb k (last_key p)) h))
  where
    later : p ≤ k → 3 ≤ p → (b : Bool) → ltb p 8 ≡ b → k ≤ cond b 7 11 → Stands p k
    later low l true e m = record {
      before = low;
      head = λ q. absurd (omega arith);
      in-schema = λ q r. l;
      between = λ q. absurd (omega arith);
    }
    later low l false e m = record {
      before = low;
      head = λ q. absurd (omega arith);
      in-schema = λ q r. l;
      between = λ q. ltb-false p 8 e;
    }

    go : p ≤ k → (b : Bool) → ltb p 3 ≡ b → k ≤ cond b p (cond (ltb p 8) 7 11) → Stands p k
    go low true e m =
        let l = ltb-true p 3 e in
        record {
          before = low;
          head = λ q. omega arith;
          in-schema = λ q r. absurd (omega arith);
          between = λ q. absurd (omega arith);
        }
    go low false e m = later low (ltb-false p 3 e) (ltb p 8) refl m

no-seventh : (p : Phase) → phase_number p ≡ 7 → ⊥
no-seventh at_task e = omega arith
no-seventh at_objects e = omega arith
no-seventh at_arity e = omega arith
no-seventh between e = omega arith
no-seventh in_differ e = omega arith
no-seventh in_pre e = omega arith
no-seventh in_add e = omega arith
no-seventh in_del e = omega arith
no-seventh in_init e = omega arith
no-seventh in_goal e = omega arith

-- a key by its number may stand where the number does
pub stands-as : (p : ℕ) {key n : ℕ} → key ≡ n → may_stand p key ≡ true → may_stand p n ≡ true
stands-as p e h = subst (λ (k : ℕ). may_stand p k ≡ true) e h

pub role-number : (r : ℕ) → r ≤ 2 → key_number (role_key r) ≡ 4 + r
unfolding role_key
role-number zero l = refl
role-number (suc zero) l = refl
role-number (suc (suc zero)) l = refl
role-number (suc (suc (suc r))) l = absurd (omega arith)

-- the keys of a schema's atoms, and those of ground atoms
abbrev pub OfAtoms : Code → Type 0
OfAtoms k = (k ≡ code.Pre) ⊎ ((k ≡ code.Add) ⊎ (k ≡ code.Del))

abbrev pub OfFacts : Code → Type 0
OfFacts k = (k ≡ code.Init) ⊎ (k ≡ code.Goal)

-- each is that of its role, or of its kind, and its body is that of a line of these
module _ (k : Code) where
  abbrev AsRole : Code → Type 0
  AsRole k = (role_of k ≤ 2) × (role_key (role_of k) ≡ meant k)

  pub role-meant : OfAtoms k → AsRole k
  unfolding role_key
  role-meant (inl e) = subst AsRole (sym e) (omega arith, refl)
  role-meant (inr (inl e)) = subst AsRole (sym e) (omega arith, refl)
  role-meant (inr (inr e)) = subst AsRole (sym e) (omega arith, refl)

  pub kind-meant : OfFacts k → fact_key (kind_of k) ≡ meant k
  kind-meant (inl e) = subst (λ (k : Code). fact_key (kind_of k) ≡ meant k) (sym e) refl
  kind-meant (inr e) = subst (λ (k : Code). fact_key (kind_of k) ≡ meant k) (sym e) refl

  module _ (bs : List ℕ) where
    abbrev RoleBody : Code → Type 0
    RoleBody k = read_body (meant k) bs ≡ ended (atom_line (role_of k)) (entry bs)

    abbrev KindBody : Code → Type 0
    KindBody k = read_body (meant k) bs ≡ ended (fact_line (kind_of k)) (entry bs)

    pub role-body : OfAtoms k → RoleBody k
    unfolding read_body
    role-body (inl e) = subst RoleBody (sym e) refl
    role-body (inr (inl e)) = subst RoleBody (sym e) refl
    role-body (inr (inr e)) = subst RoleBody (sym e) refl

    pub kind-body : OfFacts k → KindBody k
    unfolding read_body
    kind-body (inl e) = subst KindBody (sym e) refl
    kind-body (inr e) = subst KindBody (sym e) refl

-- the role that is neither of the first two is a delete's
pub deletes : (r : ℕ) → (r ≡ 0 → ⊥) → (r ≡ 1 → ⊥) → role_place r ≡ code.Del
unfolding role_phase
deletes zero a b = absurd (a refl)
deletes (suc zero) a b = absurd (b refl)
deletes (suc (suc r)) a b = refl

-- a line that stands once is allowed at its own place alone
pub head-place : (p : ℕ) (k : Key) → key_number k ≤ 2 → may_stand p (key_number k) ≡ true → p ≡ key_number k
head-place p k l h = (may-stand p (key_number k) h).head l

-- a `schema` line between two schemas alone
pub schema-place : (p : ℕ) → may_stand p 8 ≡ true → p ≡ 8
schema-place p h =
    let s = may-stand p 8 h in
    let a = s.before in
    let b = s.between (omega arith) in
    omega arith

-- the `end` line behind all schemas
pub behind-schemas : {p q : ℕ} → p ≡ q → may_stand p 11 ≡ true → 8 ≤ q
behind-schemas {p = p} e h =
    let b = (may-stand p 11 h).between (omega arith) in
    omega arith

-- a `differ` line right behind its schema's, or another
pub differ-place : (p : ℕ) → may_stand p 3 ≡ true → p ≡ 3
differ-place p h =
    let s = may-stand p 3 h in
    let a = s.before in
    let b = s.in-schema (omega arith) (omega arith) in
    omega arith

-- a `part` line inside a schema
pub part-place : (p : Phase) → may_stand (phase_number p) 7 ≡ true → (3 ≤ phase_number p) × (phase_number p ≤ 6)
part-place p h =
    let s = may-stand (phase_number p) 7 h in
    let a = s.before in
    let n : phase_number p ≡ 7 → ⊥ = no-seventh p in
    (s.in-schema (omega arith) (omega arith), omega arith)

-- and so an atom's line, before the lines of later roles
pub atom-place : (p r : ℕ) → r ≤ 2 → may_stand p (key_number (role_key r)) ≡ true → (3 ≤ p) × (p ≤ 4 + r)
atom-place p r l h =
    let s = may-stand p (4 + r) (stands-as p (role-number r l) h) in
    let a = s.before in
    (s.in-schema (omega arith) (omega arith), omega arith)

-- ---- a turn at a body is the turn at its line
pub next-from : {text : List ℕ} {from body at : Cursor} → Moved text from body → NextLine text body at →
    NextLine text from at
next-from m n =
    let a = m.on in
    let b = n.on in
    let c = m.line in
    let d = n.line in
    record { on = omega arith; inside = n.inside; line = omega arith }

pub turned-at : (text : List ℕ) (from body : Cursor) (d : Draft) (l m : Option (Taken Line)) (w : List ℕ)
    (r : Result Turn Reason) (after : List ℕ) → Moved text from body → l ≡ m →
    Turned text body d m w r after → Turned text from d l w r after
turned-at text from body d l m w (Ok (turn.GoOn read at)) after moved e t = record {
  draft = t.draft;
  is = λ n next. rw e (t.is n next);
  holds = t.holds;
  line = next-from moved t.line;
}
turned-at text from body d l m w (Ok (turn.Finish at)) after moved e (t, q) = (
  record {
    is = λ n next. rw e (t.is n next);
    line = next-from moved t.line;
    closed = t.closed;
  },
  q,
)
turned-at text from body d l m w (Err k) after moved e t = λ n next. rw e (t n next)
