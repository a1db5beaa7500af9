-- A row of three words that holds one pair: the `differ` line of its last two words is the pair's, and it is short.
use Prim.Native.Nat.{ℕ, ◌^◌, ◌≤◌, ◌<◌}
use mathlib.Core.Path.{◌≡◌, ap₂}
use mathlib.Core.List.{List, [], ◌∷◌, ◌++◌}
use native.Mathlib.Omega.{arith}
use lib.ListN.{length, get_or, length-append}
use Rattle.words.specs.Lists.{up_to}
use Rattle.words.specs.Putting.{Puts}
use Rattle.task.specs.Limits.{pair_size}
use Rattle.task.specs.Task.{Pair}
use Rattle.task.specs.Table.{pair_words}
use Rattle.task.proofs.PairsStand.{length-pair_words}
use Rattle.text.specs.Lines.{bytes, newline, commaed}
use Rattle.text.specs.Text.{write_line}
use Rattle.text.specs.TableLines.{spaced}
use Rattle.text.proofs.AtomLines.{spaced-most}
use Rattle.forecast.specs.Counting.{pair_bytes}
use Rattle.forecast.proofs.AtomRows.{row_words}

-- the line of a row's last two words
abbrev pub row_differ : List ℕ → List ℕ
row_differ row = bytes "differ=" ++ (commaed (spaced row 1 1 2) ++ (newline ∷ []))

pub row-differ : {w row : List ℕ} {end : ℕ} (number : ℕ) (q : Pair) → Puts w 0 (pair_words number q) row end →
    pair_size ≤ length w → length (row_differ row) ≡ pair_bytes q
unfolding pair_bytes write_line spaced up_to pair_words bytes
row-differ {row = row} number q p l =
    let all = length-pair_words number q in
    let stands = row_words pair_size p all l in
    let lower : get_or row 1 0 ≡ q.lower = stands 1 (omega arith) in
    let higher : get_or row 2 0 ≡ q.higher = stands 2 (omega arith) in
    ap₂ (λ (x y : ℕ). length (bytes "differ=" ++ (commaed (x ∷ y ∷ []) ++ (newline ∷ [])))) lower higher

pub differ-short : (row : List ℕ) → length (row_differ row) < 2 ^ 64
unfolding bytes
differ-short row =
    omega (arith, spaced-most row 1 1 2, length-append (commaed (spaced row 1 1 2)) (newline ∷ []))
