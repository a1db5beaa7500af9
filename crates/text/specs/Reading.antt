-- A text read line after line: reading goes on, comes to its end, or is refused at a line.
use Prim.Native.Nat.{ℕ, zero, suc}
use Rattle.std.specs.Prelude.{Bool, true, false, List, [], ◌∷◌, length}
use Rattle.std.specs.Prelude.{Option, None, Some}
use Rattle.text.specs.Lines.{Taken, Reader}

-- what a line does to the draft D of a result R: reading goes on, has come to its end, or is refused with a number
pub data Turn (D R : Type 0) : Type 0 where
  go_on : D → Turn D R
  finish : R → Turn D R
  refuse : ℕ → Turn D R

-- refuses with a number unless a test is met
unfoldable pub need : {D R : Type 0} → Bool → ℕ → Turn D R → Turn D R
need true k more = more
need false k more = refuse k

-- what was read; or a refusal's number and its line
pub data Reading (R : Type 0) : Type 0 where
  read : R → Reading R
  refused_at : ℕ → ℕ → Reading R

-- refusal 3: "text .. left over"
unfoldable pub at_end : {R : Type 0} → R → ℕ → List ℕ → Reading R
at_end r n [] = read r
at_end r n (b ∷ bs) = refused_at 3 n

-- "When a line is refused, reading ends there with that line's answer"
unfoldable pub turn_at : {D R : Type 0} → ℕ → Turn D R → List ℕ → (D → List ℕ → Reading R) → Reading R
unfolding at_end
turn_at n (refuse k) rest next = refused_at k n
turn_at n (finish r) rest next = at_end r (suc n) rest
turn_at n (go_on d) rest next = next d rest

-- refusal 3: "not a line the fixed order allows here; text missing (at the line lacking)"
unfoldable pub line_at : {L D R : Type 0} → ℕ → (L → Turn D R) → Option (Taken L) → (D → List ℕ → Reading R) → Reading R
unfolding turn_at
line_at n takes None next = refused_at 3 n
line_at n takes (Some l) next = turn_at n (takes l.value) l.rest next

-- "The reader moves through the file by a cursor of byte offset and line": what remains behind the offset, and line n.
-- `line` reads the line that comes next, and `takes` says what it does to the draft; a line has a byte at least, so
-- one turn more than there are bytes is enough
module _ {L D R : Type 0} (line : D → Reader L) (takes : D → L → Turn D R) where
  unfoldable pub read_within : ℕ → ℕ → D → List ℕ → Reading R
  unfolding line_at
  read_within zero n d bs = refused_at 3 n
  read_within (suc turns) n d bs = line_at n (takes d) (line d bs) (read_within turns (suc n))

  unfoldable pub read_lines : ℕ → D → List ℕ → Reading R
  unfolding read_within
  read_lines n d bs = read_within (suc (length bs)) n d bs
