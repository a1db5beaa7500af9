-- A number's digits, put into a text from the last to the first: `Behind` says that the digits behind a place stand,
-- and that those of `rest` are still to come before them. What is put where it ends is put from a place on.
use Prim.Native.Nat.{ℕ, suc, ◌+◌, ◌-◌, ◌/◌, ◌%◌, ◌≤◌, ◌<◌}
use mathlib.Core.Path.{◌≡◌, refl, sym, ◌∙◌, ap}
use mathlib.Core.List.{List, [], ◌∷◌, ◌++◌, append_assoc, append-nil}
use native.Mathlib.Omega.{arith}
use lib.ListN.{length, set, length-append}
use Rattle.words.specs.Lists.{put}
use Rattle.words.proofs.Puts.{length-put, put-before}
use Rattle.text.specs.Lines.{digits}
use Rattle.words.specs.Putting.{Puts}
use Rattle.text.proofs.DigitSteps.{digits_last, digits_step, one-digit-long, digits-longer, some-digit}

pub record Behind (w : List ℕ) (at n rest place : ℕ) (v : List ℕ) : Type 0 where
  pub tail : List ℕ
  pub parts : digits rest ++ tail ≡ digits n
  pub here : place + 1 ≡ at + length (digits rest)
  pub words : v ≡ put w (place + 1) tail
  pub small : rest < 100000

pub behind-start : (w : List ℕ) (at n place : ℕ) → n < 100000 → place + 1 ≡ at + length (digits n) →
    Behind w at n n place w
behind-start w at n place h e = record { tail = []; parts = append-nil (digits n); here = e; words = refl; small = h }

-- a digit before those that stand
stored-before : (w v : List ℕ) (place x : ℕ) (xs : List ℕ) → v ≡ put w (place + 1) xs →
    set v place x ≡ put w place (x ∷ xs)
stored-before w v place x xs e =
    let q : place + 1 ≡ suc place = omega arith in
    ap (λ (u : List ℕ). set u place x) e ∙
    (put-before w place x (place + 1) xs (omega arith) ∙ ap (λ (i : ℕ). put (set w place x) i xs) q)

module _ {w v : List ℕ} {at n rest place : ℕ} (b : Behind w at n rest place v) where
  pub behind-long : length v ≡ length w
  behind-long = ap length b.words ∙ length-put w (place + 1) b.tail

  pub behind-room : at + length (digits n) ≤ length w → place < length v
  behind-room h =
      let l = behind-long in
      let e = b.here in
      let p = ap length b.parts in
      omega (arith, length-append (digits rest) b.tail)

  -- two digits or more are to come: the place is not the first
  pub behind-again : 10 ≤ rest → at + 1 ≤ place
  behind-again h =
      let e = b.here in
      let l = digits-longer rest h b.small in
      let s = some-digit (rest / 10) (let z = b.small in omega arith) in
      omega arith

  pub behind_more : 10 ≤ rest → Behind w at n (rest / 10) (place - 1) (set v place (48 + rest % 10))
  behind_more h =
      let x = 48 + rest % 10 in
      let again = behind-again h in
      let e = b.here in
      let l = digits-longer rest h b.small in
      let q : place ≡ place - 1 + 1 = omega arith in
      record {
        tail = x ∷ b.tail;
        parts = sym (append_assoc (digits (rest / 10)) (x ∷ []) b.tail) ∙
            (ap (λ (ds : List ℕ). ds ++ b.tail) (sym (digits_step rest h b.small)) ∙ b.parts);
        here = omega arith;
        words = stored-before w v place x b.tail b.words ∙ ap (λ (i : ℕ). put w i (x ∷ b.tail)) q;
        small = let s = b.small in omega arith;
      }

  pub behind-end : rest < 10 → (end : ℕ) → end ≡ at + length (digits n) →
      Puts w at (digits n) (set v place (48 + rest)) end
  behind-end h end e =
      let x = 48 + rest in
      let q : place ≡ at = let i = b.here in let l = one-digit-long rest h in omega arith in
      let ds : x ∷ b.tail ≡ digits n = ap (λ (ds : List ℕ). ds ++ b.tail) (sym (digits_last rest h)) ∙ b.parts in
      record {
        words = stored-before w v place x b.tail b.words ∙
            (ap (λ (i : ℕ). put w i (x ∷ b.tail)) q ∙ ap (put w at) ds);
        place = e;
      }

pub puts-ended : {w xs v : List ℕ} {at end : ℕ} → end ≡ at + length xs → Puts w (end - length xs) xs v end →
    Puts w at xs v end
puts-ended {w} {xs} {v} {at} {end} e p =
    let q : end - length xs ≡ at = omega arith in
    record { words = p.words ∙ ap (λ (i : ℕ). put w i xs) q; place = e }
