-- A function that goes through the front of a list, maybe changing it, and goes on behind it as another function does:
-- so it goes through lists one behind the other.
use Prim.Native.Nat.{ℕ}
use mathlib.Core.Path.{◌≡◌, sym, ◌∙◌, ap}
use mathlib.Core.List.{List, ◌++◌, append_assoc}

pub record Through (f g : List ℕ → List ℕ) (xs us : List ℕ) : Type 0 where
  pub at : (rest : List ℕ) → f (xs ++ rest) ≡ us ++ g rest

pub through-append : {f g h : List ℕ → List ℕ} {xs us ys vs : List ℕ} → Through f g xs us → Through g h ys vs →
    Through f h (xs ++ ys) (us ++ vs)
through-append {f} {g} {h} {xs} {us} {ys} {vs} a b = record {
  at = λ rest.
      ap f (append_assoc xs ys rest) ∙
      (a.at (ys ++ rest) ∙ (ap (λ (zs : List ℕ). us ++ zs) (b.at rest) ∙ sym (append_assoc us vs (h rest))));
}
