-- The objects found for a schema's parameters: those of a block's steps, in folding.
use Rattle.std.specs.Prelude.{ℕ, Bool, true, false, ◌&&◌, List, [], ◌∷◌, get_or, set, eqb}
use Rattle.std.specs.Prelude.{Option, None, Some}

-- the object found so far for each parameter
abbrev pub Bound : Type 0
Bound = List (Option ℕ)

-- an object agrees with what was found for its parameter
unfoldable pub agrees : Option ℕ → ℕ → Bool
agrees None o = true
agrees (Some q) o = eqb q o

-- objects agree with those found for their parameters
unfoldable pub fits : Bound → List ℕ → List ℕ → Bool
unfolding agrees
fits b [] [] = true
fits b [] (o ∷ os) = false
fits b (p ∷ ps) [] = false
fits b (p ∷ ps) (o ∷ os) = agrees (get_or b p None) o && fits b ps os

-- they join those found
unfoldable pub bind : Bound → List ℕ → List ℕ → Bound
bind b [] [] = b
bind b [] (o ∷ os) = b
bind b (p ∷ ps) [] = b
bind b (p ∷ ps) (o ∷ os) = bind (set b p (Some o)) ps os

-- the object found, 0 where none is
unfoldable pub or_zero : Option ℕ → ℕ
or_zero None = 0
or_zero (Some o) = o
