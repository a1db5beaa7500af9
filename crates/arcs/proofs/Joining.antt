-- Sets that grow: how what joins adds up, and what stands in them once all has joined. Joining is carried as a fact
-- about every number and every set.
use Prim.Native.Nat.{ℕ, zero, suc, ◌<◌}
use mathlib.Core.Path.{◌≡◌, refl, sym, ◌∙◌, ap}
use mathlib.Core.Bool.{Bool, true, false, ◌&&◌, ◌||◌, and-true}
use mathlib.Core.List.{List}
use lib.ListN.{length, get_or, set, replicate}
use lib.Dec.{eqb}
use lib.Seq.{get_or-set_same, get_or-set_other}
use borrow.Author.Tests.{eqb-true, eqb-false}
use Rattle.words.specs.Sets.{member}
use Rattle.words.proofs.BitSets.{member-zero}
use Rattle.words.proofs.Ranges.{or-false, or_assoc}
use Rattle.words.proofs.Words.{and-false}
use Rattle.arcs.specs.Stretches.{Joins, SetsAre}

-- what an array begins with
pub zeros-at : (n i : ℕ) → ◌≡◌ {A = ℕ} (get_or (replicate n 0) i 0) 0
zeros-at zero i = refl
zeros-at (suc n) zero = refl
zeros-at (suc n) (suc i) = zeros-at n i

pub joins-none : (test : ℕ → ℕ → Bool) (sets : List ℕ) → ((p q : ℕ) → test p q ≡ false) → Joins test sets sets
joins-none test sets h p q = rw (h p q) (sym (or-false (member (get_or sets q 0) p)))

-- p alone, in the set of q, which becomes r
pub joins-one : (sets : List ℕ) (p q r : ℕ) → q < length sets →
    ((x : ℕ) → member r x ≡ member (get_or sets q 0) x || eqb p x) → Joins (λ x y. eqb p x && eqb q y) sets (set sets q r)
joins-one sets p q r l h x y = go (eqb q y) refl
  where
    go : (s : Bool) → eqb q y ≡ s →
        member (get_or (set sets q r) y 0) x ≡ member (get_or sets y 0) x || (eqb p x && s)
    go true e =
        rw (← eqb-true q y e, get_or-set_same sets q r 0 l, and-true (eqb p x)) (h x)
    go false e =
        rw (get_or-set_other sets q y r 0 (λ z. eqb-false q y e (sym z)), and-false (eqb p x))
        (sym (or-false (member (get_or sets y 0) x)))

-- first what f takes, then what g does
pub joins-more : (f g h : ℕ → ℕ → Bool) (a b c : List ℕ) → Joins f a b → Joins g b c →
    ((p q : ℕ) → h p q ≡ f p q || g p q) → Joins h a c
joins-more f g h a b c x y e p q =
    let m = member (get_or a q 0) p in
    y p q
    ∙ (ap (λ (s : Bool). s || g p q) (x p q)
    ∙ (or_assoc m (f p q) (g p q) ∙ ap (λ (s : Bool). m || s) (sym (e p q))))

-- what another test takes too
pub joins-same : (f h : ℕ → ℕ → Bool) (a b : List ℕ) → Joins f a b → ((p q : ℕ) → h p q ≡ f p q) → Joins h a b
joins-same f h a b x e p q = x p q ∙ ap (λ (s : Bool). member (get_or a q 0) p || s) (sym (e p q))

-- all that a test takes has joined empty sets
pub all-joined : (test : ℕ → ℕ → Bool) (n : ℕ) (sets : List ℕ) → Joins test (replicate n 0) sets → SetsAre test sets
all-joined test n sets h p q =
    h p q ∙ ap (λ (b : Bool). b || test p q) (ap (λ (x : ℕ). member x p) (zeros-at n q) ∙ member-zero p)
