-- A row of eight words that holds one atom: the line that its words say is the atom's, so the writer of lines counts
-- the atom's bytes.
use Prim.Native.Nat.{ℕ, ◌-◌, ◌≤◌}
use mathlib.Core.Path.{◌≡◌, ◌∙◌, ap, subst}
use mathlib.Core.List.{List, [], ◌∷◌}
use native.Mathlib.Omega.{arith}
use lib.ListN.{length, get_or, replicate}
use Rattle.words.specs.Lists.{padded}
use Rattle.words.specs.Words.{words_at}
use Rattle.words.specs.Putting.{Puts}
use Rattle.words.proofs.Words.{At, at_left, at_right, at-words_at, words_at-at}
use Rattle.words.proofs.PutWords.{words-put}
use Rattle.task.specs.Limits.{atom_size, most_arity}
use Rattle.task.specs.Task.{Atom}
use Rattle.task.specs.Table.{atom_words}
use Rattle.task.proofs.AtomsStand.{length-atom_words}
use Rattle.text.specs.Lines.{line, entry_bytes}
use Rattle.text.specs.Text.{key_name, atom_entry}
use Rattle.text.specs.TableLines.{atom_key, row_text}
use Rattle.forecast.specs.Counting.{row_line}

-- what is put at the front of a row stands there
pub row_words : {w row xs : List ℕ} {end : ℕ} (n : ℕ) → Puts w 0 xs row end → length xs ≡ n → n ≤ length w → At row 0 xs
row_words {w} {row} {xs} n p e l =
    subst (At row 0) (ap (λ (v : List ℕ). words_at v 0 n) p.words ∙ words-put w 0 n xs e (omega arith))
    (at-words_at row 0 n)

pub row-line : {w row : List ℕ} {end : ℕ} (number : ℕ) (a : Atom) (n : ℕ) → Puts w 0 (atom_words number a) row end →
    atom_size ≤ length w → n ≡ length a.args → n ≤ most_arity → row_text row 0 n ≡ row_line a
unfolding row_text row_line atom_words padded atom_entry
row-line {row = row} number a n p l e m =
    let all = length-atom_words number a (omega arith) in
    let stands = row_words atom_size p all l in
    let role : get_or row 1 0 ≡ a.role = stands 1 (omega arith) in
    let pred : get_or row 2 0 ≡ a.pred = stands 2 (omega arith) in
    let behind = at_right row 0 (number ∷ a.role ∷ a.pred ∷ a.part ∷ []) (padded most_arity a.args) stands in
    let args : words_at row 4 n ≡ a.args = ap (words_at row 4) e ∙ words_at-at row 4 a.args
    (at_left row 4 a.args (replicate (most_arity - length a.args) 0) behind) in
    λ i. line (key_name (atom_key (role i))) (entry_bytes (record { head = pred i; list = args i }))
