-- `text::counted::write_key` meets its contract.
-- An arm for each role, whose bytes are the role's key, so they are counted where the key is. The last arm is for all
-- roles from 4 on, which have one key, `goal` (`key-other`).
use native.Mathlib.Omega.{arith}
use Prim.Native.Nat.{ℕ}
use mathlib.Core.Path.{◌≡◌, sym, ap}
use lib.ListN.{length}
use Rattle.text.specs.TableLines.{key_bytes}
use Rattle.text.proofs.AtomLines.{key-other}
use Rattle.text.proofs.Writes.{writes-same}
use borrow.Author.Rules.{rules}
use Rattle.text.proofs.counted.write_key.Statement.{statement}
use Rattle.text.proofs.counted.write_key.Tie as tie

-- the arm of every other role
goal-key : (c : tie.In_default) → key_bytes c.args.role ≡ key_bytes 4
goal-key c =
    let role = c.args.role in
    let not_three = c.in_default.in_default-own.rest.1 in
    let not-two = c.in_default.in_default-own.rest.0.1 in
    let not-one = c.in_default.in_default-own.rest.0.0.1 in
    let not-zero = c.in_default.in_default-own.rest.0.0.0.1 in
    key-other role (omega arith)

write-bytes-requires : tie.Need-write_bytes-requires
unfolding key_bytes
write-bytes-requires c κs =
    let l = ap (λ (r : ℕ). length (key_bytes r)) c.in-0.is in
    let p = c.requires in
    omega arith

write-bytes-requires-2 : tie.Need-write_bytes-requires-in-1
unfolding key_bytes
write-bytes-requires-2 c κs =
    let l = ap (λ (r : ℕ). length (key_bytes r)) c.in-1.is in
    let p = c.requires in
    omega arith

write-bytes-requires-3 : tie.Need-write_bytes-requires-in-2
unfolding key_bytes
write-bytes-requires-3 c κs =
    let l = ap (λ (r : ℕ). length (key_bytes r)) c.in-2.is in
    let p = c.requires in
    omega arith

write-bytes-requires-4 : tie.Need-write_bytes-requires-in-3
unfolding key_bytes
write-bytes-requires-4 c κs =
    let l = ap (λ (r : ℕ). length (key_bytes r)) c.in-3.is in
    let p = c.requires in
    omega arith

write-bytes-requires-5 : tie.Need-write_bytes-requires-in_default
unfolding key_bytes
write-bytes-requires-5 c κs =
    let l = ap length (goal-key c.before.before.before) in
    let p = c.requires in
    omega arith

returns : tie.Need-returns-in-0
unfolding key_bytes
returns c =
    writes-same (sym (ap key_bytes c.in-0.is))
    c.write_bytes.ensures

returns-2 : tie.Need-returns-in-1
unfolding key_bytes
returns-2 c =
    writes-same (sym (ap key_bytes c.in-1.is))
    c.write_bytes-in-1.ensures

returns-3 : tie.Need-returns-in-2
unfolding key_bytes
returns-3 c =
    writes-same (sym (ap key_bytes c.in-2.is))
    c.write_bytes-in-2.ensures

returns-4 : tie.Need-returns-in-3
unfolding key_bytes
returns-4 c =
    writes-same (sym (ap key_bytes c.in-3.is))
    c.write_bytes-in-3.ensures

returns-5 : tie.Need-returns-in_default
unfolding key_bytes
returns-5 c =
    writes-same (sym (goal-key c.before.before.before.before.before.before)) c.write_bytes-in_default.ensures

pub write_key_spec : {M : Type 1} → statement M
write_key_spec =
    tie.close
    (tie.spec write-bytes-requires write-bytes-requires-2 write-bytes-requires-3 write-bytes-requires-4
    write-bytes-requires-5 (λ c. search rules) returns (λ c. search rules) returns-2 (λ c. search rules) returns-3
    (λ c. search rules) returns-4 (λ c. search rules) returns-5)
