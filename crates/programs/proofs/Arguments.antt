-- The width that an argument says, by the number at its front and the bytes behind that: what is not all a number is
-- too wide.
use Prim.Native.Nat.{ℕ, suc, ◌≤◌, ◌<◌}
use mathlib.Core.Path.{◌≡◌, refl, sym, ◌∙◌, ap, subst}
use mathlib.Core.List.{List, [], ◌∷◌}
use native.Mathlib.Omega.{arith}
use lib.ListN.{length, drop, length-drop}
use Rattle.text.specs.declared.cursor.Cursor.{Cursor}
use Rattle.std.specs.Prelude.{None}
use Rattle.text.specs.Lines.{number}
use Rattle.text.specs.ReadCode.{rest, NumberHere, start_cursor}
use Rattle.proposals.specs.Outcome.{most_width}
use Rattle.programs.specs.Programs.{only_number, width_said, width_in}

-- bytes behind the number
behind : (n : ℕ) (bs : List ℕ) → 0 < length bs → suc most_width ≡ only_number n bs
unfolding only_number
behind n [] l = absurd (omega arith)
behind n (b ∷ bs) l = refl

-- none
nothing : (n : ℕ) (bs : List ℕ) → length bs ≡ 0 → n ≡ only_number n bs
unfolding only_number
nothing n [] e = refl
nothing n (b ∷ bs) e = absurd (omega arith)

-- the number found at the front of an argument
module _ (argument : List ℕ) {start : Cursor} (at-start : start ≡ start_cursor) where
  pub no_number : number (rest argument start) ≡ None → suc most_width ≡ width_in argument
  unfolding width_in width_said
  no_number none =
      sym (ap width_said (subst (λ (c : Cursor). number (rest argument c) ≡ None) at-start none))

  module _ {n : ℕ} {next : Cursor} (is : NumberHere argument start n next) where
    here : NumberHere argument start_cursor n next
    here = subst (λ (c : Cursor). NumberHere argument c n next) at-start is

    pub more-behind : next.at < length argument → suc most_width ≡ width_in argument
    unfolding width_in width_said
    more-behind l =
        behind n (drop next.at argument) (let d = length-drop next.at argument in omega arith) ∙
        sym (ap width_said here.is)

    pub whole-number : length argument ≤ next.at → n ≡ width_in argument
    unfolding width_in width_said
    whole-number l =
        nothing n (drop next.at argument) (let d = length-drop next.at argument in omega arith) ∙
        sym (ap width_said here.is)
