-- `forecast::bytes::part_line` meets its contract: a line with one 0, and a comma and a 0 for each further atom
-- (`part-line-is`); a 0 has one digit, so the line is short.
use Rattle.forecast.proofs.bytes.part_line.Tie as tie
use Prim.Native.Nat.{ℕ, ◌+◌, ◌-◌, ◌*◌}
use mathlib.Core.Path.{◌≡◌, sym, ◌∙◌, ap, ap₂}
use native.Mathlib.Omega.{arith}
use borrow.Author.Rules.{rules}
use Rattle.text.specs.Lines.{bytes, digits, line}
use Rattle.forecast.proofs.HeadText.{part-line-is}
use Rattle.forecast.proofs.bytes.part_line.Statement.{statement}

abbrev start : tie.After-further_size → tie.Start
start c = c.before.before.before.before

further : (c : tie.After-further_size) → ((start c).args.n - 1) * c.further_size.result ≡ ((start c).args.n - 1) * 2
unfolding digits
further c = ap (λ (k : ℕ). ((start c).args.n - 1) * k) c.further_size.ensures

number-line-size-requires : tie.Need-number_line_size-requires
unfolding digits
number-line-size-requires c κs = omega arith

mul-result : tie.Need-overflow_mul-result
mul-result c = omega (arith, further c, (start c).requires.1)

add-result : tie.Need-overflow_add-result
unfolding digits
add-result c = omega (arith, further c, (start c).requires.1, c.number_line_size.ensures)

returns : tie.Need-returns
unfolding line bytes
returns c =
    let n = (start c).args.n in
    ap₂ (λ (first each : ℕ). first + (n - 1) * each) c.number_line_size.ensures c.further_size.ensures ∙
    sym (part-line-is n (start c).requires.0)

pub part_line_spec : {M : Type 1} → statement M
part_line_spec =
    tie.close
    (tie.spec number-line-size-requires (λ c. search rules) (λ c κs. search rules) mul-result add-result returns)
