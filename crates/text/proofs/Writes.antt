-- Bytes written where there is room for them, and counted always. What is stored is put, what has no room is counted
-- alone, and calls that each write some bytes add up. `Writing` says of a text that is being written what is still to
-- come, that a machine counts it, and that the whole is written once it is.
use Prim.Native.Nat.{ℕ, ◌+◌, ◌^◌, ◌≤◌, ◌<◌}
use mathlib.Core.Path.{◌≡◌, ◌∙◌, refl, subst}
use mathlib.Core.List.{List, [], ◌++◌}
use native.Mathlib.Omega.{arith}
use lib.ListN.{length, length-append}
use Rattle.words.specs.Lists.{over}
use Rattle.words.specs.Putting.{Puts}
use Rattle.words.proofs.Puts.{put-over, puts_none, puts-append, puts-length}
use Rattle.text.specs.Writes.{Writes}
use Rattle.text.proofs.Onwards.{onwards, onwards-next, onwards-none}

pub puts-writes : {w xs v : List ℕ} {at next : ℕ} → Puts w at xs v next → Writes w at xs v next
puts-writes p = record { place = p.place; long = puts-length p; words = λ room. p.words }

pub writes-puts : {w xs v : List ℕ} {at next : ℕ} → next ≤ length w → Writes w at xs v next → Puts w at xs v next
writes-puts room s = record { words = s.words room; place = s.place }

-- places only grow: where what comes behind has room, so has this
pub writes-append : {w v u : List ℕ} {at next end : ℕ} {xs ys : List ℕ} →
    Writes w at xs v next → Writes v next ys u end → Writes w at (xs ++ ys) u end
writes-append {xs = xs} {ys = ys} s t =
    let a = s.place in
    let b = t.place in
    let l = s.long in
    record {
      place = omega (arith, length-append xs ys);
      long = t.long ∙ s.long;
      words = λ room. (puts-append (writes-puts (omega arith) s) (writes-puts (omega arith) t)).words;
    }

pub writes-same : {w v : List ℕ} {at next : ℕ} {xs ys : List ℕ} → xs ≡ ys →
    Writes w at xs v next → Writes w at ys v next
writes-same {w} {v} {at} {next} e s = subst (λ (bs : List ℕ). Writes w at bs v next) e s

-- without room nothing is stored
pub writes-counted : {w xs : List ℕ} {at next : ℕ} → next ≡ at + length xs → length w < next → Writes w at xs w next
writes-counted e h = record { place = e; long = refl; words = λ room. absurd (omega arith) }

pub writes-none : (w : List ℕ) (at : ℕ) → Writes w at [] w at
writes-none w at = puts-writes (puts_none w at)

-- what is written from the front on: its size, and where it has room it lies over what was lent
module _ {w v xs : List ℕ} {next : ℕ} (s : Writes w 0 xs v next) where
  pub writes-size : next ≡ length xs
  writes-size = let p = s.place in omega arith

  pub writes-over : length xs ≤ length w → v ≡ over xs w
  writes-over h = let n = writes-size in s.words (omega arith) ∙ put-over xs w h

-- what comes first is counted where the whole is
pub first_fits : (at : ℕ) (ys zs : List ℕ) → at + length (ys ++ zs) < 2 ^ 64 → at + length ys < 2 ^ 64
first_fits at ys zs h = omega (arith, length-append ys zs)

pub record Writing (w : List ℕ) (at : ℕ) (whole left v : List ℕ) (next : ℕ) : Type 0 where
  pub long : length v ≡ length w
  pub fits : next + length left < 2 ^ 64
  pub rest : (u : List ℕ) (end : ℕ) → Writes v next left u end → Writes w at whole u end

pub writing_start : {w whole : List ℕ} {at : ℕ} → at + length whole < 2 ^ 64 → Writing w at whole whole w at
writing_start h = record { long = refl; fits = h; rest = λ u end s. s }

module _ {w whole v : List ℕ} {at next : ℕ} where
  pub writing-long : {left : List ℕ} → Writing w at whole left v next → length v ≡ length w
  writing-long g = g.long

  pub writing-left : {left more : List ℕ} → left ≡ more → Writing w at whole left v next →
      Writing w at whole more v next
  writing-left e g = subst (λ (bs : List ℕ). Writing w at whole bs v next) e g

  -- what comes next is counted
  pub writing-fits : (ys zs : List ℕ) → Writing w at whole (ys ++ zs) v next → next + length ys < 2 ^ 64
  writing-fits ys zs g = first_fits next ys zs g.fits

  pub writing-on : {ys zs u : List ℕ} {end : ℕ} →
      Writing w at whole (ys ++ zs) v next → Writes v next ys u end → Writing w at whole zs u end
  writing-on {ys} {zs} g s = record {
    long = s.long ∙ g.long;
    fits = let f = g.fits in let p = s.place in omega (arith, length-append ys zs);
    rest = λ x last r. g.rest x last (writes-append s r);
  }

  pub writing-end : Writing w at whole [] v next → Writes w at whole v next
  writing-end g = g.rest v next (writes-none v next)

  -- the last of it
  pub last_fits : {ys : List ℕ} → Writing w at whole ys v next → next + length ys < 2 ^ 64
  last_fits g = g.fits

  pub writing-last : {ys u : List ℕ} {end : ℕ} → Writing w at whole ys v next → Writes v next ys u end →
      Writes w at whole u end
  writing-last {ys} {u} {end} g s = g.rest u end s

  -- ---- pieces written by a counter
  module _ (piece : ℕ → List ℕ) (k n : ℕ) (writing : Writing w at whole (onwards piece k n) v next) where
    -- piece k comes next, so it is counted; once it is written, those from k + 1 on are to come
    pub piece-fits : k < n → next + length (piece k) < 2 ^ 64
    piece-fits h = writing-fits (piece k) (onwards piece (k + 1) n) (writing-left (onwards-next piece k n h) writing)

    pub piece-written : {u : List ℕ} {end : ℕ} → k < n → Writes v next (piece k) u end →
        Writing w at whole (onwards piece (k + 1) n) u end
    piece-written h s = writing-on (writing-left (onwards-next piece k n h) writing) s

    -- behind the last piece the whole is written
    pub pieces_end : n ≤ k → Writes w at whole v next
    pieces_end h = writing-end (writing-left (onwards-none piece k n h) writing)
