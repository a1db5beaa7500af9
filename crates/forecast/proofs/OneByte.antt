-- One byte more of what goes on being put, where it is stored by itself.
use Prim.Native.Nat.{ℕ, ◌+◌}
use mathlib.Core.Path.{◌≡◌, refl}
use mathlib.Core.List.{List, [], ◌∷◌}
use lib.ListN.{set}
use Rattle.words.proofs.Puts.{Going, going_on}

module _ {w whole v : List ℕ} {at next : ℕ} where
  pub going-byte : {x : ℕ} {zs : List ℕ} (end : ℕ) → end ≡ next + 1 →
      Going w at whole (x ∷ zs) v next → Going w at whole zs (set v next x) end
  going-byte {x} end e g = going_on {ys = x ∷ []} g (record { words = refl; place = e })
