-- What a line's turn comes to, once its body is read: refused where there is none, and else what the line does to the
-- draft, as `take_line` says for the lines of a task.
use Prim.Native.Nat.{ℕ, suc}
use mathlib.Core.Path.{◌≡◌, refl, sym, ◌∙◌, ap}
use mathlib.Core.Bool.{Bool, false}
use mathlib.Core.List.{List, [], ◌∷◌}
use native.Mathlib.Omega.{arith}
use Rattle.std.specs.Prelude.{Option, None, Some}
use Rattle.task.specs.Task.{Task}
use Rattle.text.specs.Lines.{newline, Taken, taken, and_then, after, ended, Entry, entry}
use Rattle.text.specs.Reading.{Turn, go_on, finish, refuse, need, Reading, at_end, turn_at, line_at, refused_at}
use Rattle.text.specs.Text.{Line, Draft, take_line}
use Rattle.text.specs.ReadCode.{whole, rest, EntryLine}
use Rattle.text.specs.Holding.{Next, Refuses, GoesOn, Grows, entry_of}
use Rattle.text.specs.declared.cursor.Cursor.{Cursor}
use Rattle.text.specs.declared.draft.Counts.{Counts}

module _ {A L : Type 0} (says : A → L) (o : Option (Taken A)) where
  -- what a line says is made of its whole body
  ended-whole : ended says o ≡ and_then (whole o) (λ a. taken (says a.value) a.rest)
  unfolding ended
  ended-whole = go o
    where
      behind : (a : Taken A) (r : Option (List ℕ)) → and_then r (λ rest. taken (says a.value) rest) ≡
          and_then (and_then r (λ rest. taken a.value rest)) (λ b. taken (says b.value) b.rest)
      behind a None = refl
      behind a (Some r) = refl

      go : (o : Option (Taken A)) → ended says o ≡ and_then (whole o) (λ a. taken (says a.value) a.rest)
      go None = refl
      go (Some a) = behind a (after (newline ∷ []) a.rest)

  module _ {D R : Type 0} (takes : L → Turn D R) where
    pub no-turn : whole o ≡ None → (n : ℕ) (next : D → List ℕ → Reading R) →
        line_at n takes (ended says o) next ≡ refused_at 3 n
    unfolding and_then line_at
    no-turn h n next =
        ap (λ (l : Option (Taken L)). line_at n takes l next)
        (ended-whole ∙ ap (λ (x : Option (Taken A)). and_then x (λ a. taken (says a.value) a.rest)) h)

    module _ (a : A) (left : List ℕ) (h : whole o ≡ taken a left) (n : ℕ) (next : D → List ℕ → Reading R) where
      turn_is : line_at n takes (ended says o) next ≡ turn_at n (takes (says a)) left next
      unfolding and_then line_at
      turn_is =
          ap (λ (l : Option (Taken L)). line_at n takes l next)
          (ended-whole ∙ ap (λ (x : Option (Taken A)). and_then x (λ a. taken (says a.value) a.rest)) h)

      pub turn-refused : (k : ℕ) → takes (says a) ≡ refuse k → line_at n takes (ended says o) next ≡ refused_at k n
      unfolding turn_at
      turn-refused k e = turn_is ∙ ap (λ (t : Turn D R). turn_at n t left next) e

      pub turn-goes-on : (d : D) → takes (says a) ≡ go_on d → line_at n takes (ended says o) next ≡ next d left
      unfolding turn_at
      turn-goes-on d e = turn_is ∙ ap (λ (t : Turn D R). turn_at n t left next) e

      pub turn-ends : (r : R) → takes (says a) ≡ finish r → line_at n takes (ended says o) next ≡ at_end r (suc n) left
      unfolding turn_at
      turn-ends r e = turn_is ∙ ap (λ (t : Turn D R). turn_at n t left next) e

-- what is no body, or another one, is not this one; what is the same is
pub none-taken : {A : Type 0} {o : Option (Taken A)} {a : A} → o ≡ None → (left : List ℕ) → o ≡ taken a left → ⊥
none-taken e left h = let z : ◌≡◌ {A = ℕ} 0 1 = cc in omega arith

pub other-taken : {A : Type 0} {o : Option (Taken A)} {a b : A} {rest : List ℕ} → o ≡ taken b rest → (b ≡ a → ⊥) →
    (left : List ℕ) → o ≡ taken a left → ⊥
other-taken {A} {b = b} e other left h = other (ap value (sym e ∙ h))
  where
    value : Option (Taken A) → A
    value None = b
    value (Some x) = x.value

pub same_taken : {A : Type 0} {o : Option (Taken A)} {a b : A} {left : List ℕ} → o ≡ taken b left → b ≡ a →
    o ≡ taken a left
same_taken {A} {left = left} e q = e ∙ ap (λ (b : A). taken b left) q

-- a body that must be 1, and isn't
pub not-one : {L D R : Type 0} (says : ℕ → L) (o : Option (Taken ℕ)) (takes : L → Turn D R) →
    ((left : List ℕ) → whole o ≡ taken 1 left → ⊥) → ((a : ℕ) → (a ≡ 1 → ⊥) → takes (says a) ≡ refuse 3) → (n : ℕ)
    (next : D → List ℕ → Reading R) → line_at n takes (ended says o) next ≡ refused_at 3 n
not-one says o takes h refuses n next = go (whole o) refl
  where
    go : (w : Option (Taken ℕ)) → whole o ≡ w → line_at n takes (ended says o) next ≡ refused_at 3 n
    go None e = no-turn says o takes e n next
    go (Some a) e =
        turn-refused says o takes a.value a.rest e n next 3
        (refuses a.value (λ q. h a.rest (e ∙ ap (λ (v : ℕ). taken v a.rest) q)))

-- ---- lines of a task
module _ {A : Type 0} (says : A → Line) (d : Draft) (o : Option (Taken A)) where
  pub no_line : whole o ≡ None → Refuses d (ended says o) 3
  no_line h = no-turn says o (take_line d) h

  module _ (a : A) (left : List ℕ) (h : whole o ≡ taken a left) where
    pub line_refused : (k : ℕ) → take_line d (says a) ≡ refuse k → Refuses d (ended says o) k
    line_refused k e n next = turn-refused says o (take_line d) a left h n next k e

    pub line-goes-on : (e : Draft) → take_line d (says a) ≡ go_on e → (n : ℕ) (next : Next) →
        line_at n (take_line d) (ended says o) next ≡ next e left
    line-goes-on e q n next = turn-goes-on says o (take_line d) a left h n next e q

    pub line-ends : (t : Task) → take_line d (says a) ≡ finish t → (n : ℕ) (next : Next) →
        line_at n (take_line d) (ended says o) next ≡ at_end t (suc n) left
    line-ends t q n next = turn-ends says o (take_line d) a left h n next t q

-- ---- lines that have an atom
-- its check passes
pub atom-goes-on : (says : Entry → Line) (d : Draft) {text kept : List ℕ} {from next : Cursor} {p count : ℕ}
    (read : EntryLine text from p count kept next) {grown : Counts} {after : List ℕ} →
    Grows d (says (entry_of p read.ns)) grown after →
    GoesOn text from d (ended says (entry (rest text from))) after grown next
atom-goes-on says d read grows = record {
  draft = grows.draft;
  is = line-goes-on says d _ _ _ read.is grows.draft grows.is;
  holds = grows.holds;
  line = read.line;
}

-- a test that fails refuses
pub need-fails : {D R : Type 0} {b : Bool} (k : ℕ) (t : _) → b ≡ false → need {D = D} {R = R} b k t ≡ refuse k
unfolding need
need-fails {D} {R} k t h = ap (λ (x : Bool). need {D = D} {R = R} x k t) h

-- where there is no line the turn is refused
pub no-line-refused : {L D R : Type 0} (takes : L → Turn D R) (l : Option (Taken L)) → l ≡ None → (n : ℕ)
    (next : D → List ℕ → Reading R) → line_at n takes l next ≡ refused_at 3 n
unfolding line_at
no-line-refused {L} takes l h n next = ap (λ (x : Option (Taken L)). line_at n takes x next) h

pub none-refused : (d : Draft) (l : Option (Taken Line)) → l ≡ None → Refuses d l 3
none-refused d l h = no-line-refused (take_line d) l h
