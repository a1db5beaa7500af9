-- Bytes put into a text one by one: when k of them stand, those from k on are still to come, the next of them first.
use Prim.Native.Nat.{ℕ, suc, ◌+◌, ◌≤◌, ◌<◌}
use mathlib.Core.Path.{◌≡◌, refl, ap, subst}
use mathlib.Core.List.{List, [], ◌∷◌}
use native.Mathlib.Omega.{arith}
use lib.ListN.{length, get_or, set, drop}
use lib.Seq.{drop-cons, drop-length}
use Rattle.words.specs.Putting.{Puts}
use Rattle.words.proofs.Puts.{Going, going_start, going-left, going_on, going_end}

module _ {w : List ℕ} {at : ℕ} (bytes : List ℕ) where
  pub bytes-start : at + length bytes ≤ length w → Going w at bytes (drop 0 bytes) w (at + 0)
  bytes-start h =
      let e : at ≡ at + 0 = omega arith in subst (λ (i : ℕ). Going w at bytes bytes w i) e (going_start h)

  pub bytes-more : {v : List ℕ} {k : ℕ} → k < length bytes → Going w at bytes (drop k bytes) v (at + k) →
      Going w at bytes (drop (k + 1) bytes) (set v (at + k) (get_or bytes k 0)) (at + (k + 1))
  bytes-more {k = k} l g =
      let e : suc k ≡ k + 1 = omega arith in
      let x = get_or bytes k 0 in
      going-left (ap (λ (i : ℕ). drop i bytes) e)
      (going_on {ys = x ∷ []} (going-left (drop-cons bytes k 0 l) g) (record { words = refl; place = omega arith }))

  pub bytes-end : {v : List ℕ} {k : ℕ} → k ≡ length bytes → Going w at bytes (drop k bytes) v (at + k) →
      Puts w at bytes v (at + length bytes)
  bytes-end {v} e g =
      going_end (going-left (drop-length bytes)
      (subst (λ (i : ℕ). Going w at bytes (drop i bytes) v (at + i)) e g))
