-- `defines::names::put_words` meets its contract. The invariant of its loop: what is still to come is the names of the
-- words from k on. The measure is n less k.
use native.Mathlib.Omega.{arith}
use Prim.Native.Nat.{ℕ, ◌+◌, ◌-◌}
use mathlib.Core.Path.{ap}
use mathlib.Core.List.{List, ◌++◌}
use lib.ListN.{length, get_or}
use Rattle.words.specs.Words.{words_at}
use Rattle.words.proofs.Puts.{puts-same, Going, going_start, going-long, going-left, going-room, going_on, going_end}
use Rattle.text.proofs.Onwards.{onwards, onwards-next, onwards-none}
use Rattle.defines.specs.ByWords.{marked}
use Rattle.defines.proofs.MarkedNames.{name_of, marked-words}
use Rattle.defines.proofs.names.put_words.Statement.{statement}
use Rattle.defines.proofs.names.put_words.Tie as tie

-- the name of word k of those from a place on
abbrev word_name : List ℕ → List ℕ → ℕ → ℕ → List ℕ
word_name mark w from k = name_of mark (get_or w (from + k) 0)

abbrev invariant-loop-k : tie.invariant-loop-k
invariant-loop-k text₀ at mark table from n next₀ k₀ text next k =
    Going text₀ at (marked mark (words_at table from n)) (onwards (word_name mark table from) k n) text next

abbrev decreases-loop-k : tie.decreases-loop-k
decreases-loop-k text₀ at mark table from n next₀ k₀ text next k = n - k

loop-holds : tie.Need-loop-k-init invariant-loop-k decreases-loop-k
loop-holds c =
    let start = c in
    going-left (marked-words start.args.mark.now start.args.table.now start.args.from start.args.n)
    (going_start start.requires.1)

-- the function's entry, from the loop's head; and the names of its words
abbrev start : tie.At-loop-k invariant-loop-k decreases-loop-k → tie.Start invariant-loop-k decreases-loop-k
start c = c.before.before.before.before

abbrev names : tie.At-loop-k invariant-loop-k decreases-loop-k → ℕ → List ℕ
names c = word_name (start c).args.mark.now (start c).args.table.now (start c).args.from

-- what is to come is the name of word k, and then those from k + 1 on
to-come : (c : tie.In-loop-k invariant-loop-k decreases-loop-k) →
    let args = (start c.before).args in
    let k = c.loop-k.k in
    Going args.text.now args.at (marked args.mark.now (words_at args.table.now args.from args.n))
    (names c.before k ++ onwards (names c.before) (k + 1) args.n) c.loop-k.text
    c.loop-k.next
to-come c =
    going-left (onwards-next (names c.before) c.loop-k.k (start c.before).args.n
    c.loop-k-test.true)
    c.loop-k.invariant

put-name-requires : tie.Need-put_name-next-requires invariant-loop-k decreases-loop-k
put-name-requires c κs =
    let at-loop = c in
    let k = at-loop.loop-k.k in
    let r = going-room (names at-loop.before.before.before k) (onwards (names at-loop.before.before.before) (k + 1) (start at-loop.before.before.before).args.n)
    (to-come c.before.before) in
    omega (arith, ap (λ (n : ℕ). length (name_of (start at-loop.before.before.before).args.mark.now n)) c.word_at.ensures)

loop-again : tie.Need-loop-k-preserved invariant-loop-k decreases-loop-k
loop-again c =
    let read = c in
    let mark = (start read.before.before.before.before.before.before).args.mark.now in
    going_on (to-come read.before.before.before.before.before)
    (puts-same (ap (name_of mark) read.word_at.ensures) c.put_name-next.ensures)

same_length : tie.Need-shape_of-text invariant-loop-k decreases-loop-k
same_length c = going-long c.loop-k.invariant

returns : tie.Need-returns invariant-loop-k decreases-loop-k
returns c =
    let none = onwards-none (names c.before) c.loop-k.k (start c.before).args.n (omega arith) in
    going_end (going-left none c.loop-k.invariant)

pub put_words_spec : {M : Type 1} → statement M
put_words_spec =
    tie.close
    (tie.spec invariant-loop-k decreases-loop-k loop-holds (λ c. omega arith) (λ c κs. omega arith) put-name-requires (λ c. omega arith)
    (λ c. omega arith) loop-again same_length returns)
