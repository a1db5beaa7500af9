-- `programs::printing::put_digits` meets its contract, one digit a call: those of a tenth of the number are put by a
-- call of itself, and the last behind them.
use Rattle.std.proofs.Common.{ℕ, ◌+◌, ◌-◌, ◌/◌, ◌%◌, [], ◌∷◌, length, sym, ◌∙◌, ap, arith, length-append}
use Rattle.text.specs.Lines.{digits_within}
use Rattle.words.proofs.Puts.{puts-length, puts-append, puts-same}
use Rattle.programs.proofs.Printed.{no-digits, last-digit, digits-before}
use Rattle.programs.proofs.printing.+put_digits.Goals as goal

pub returns-then-most-eq0 : goal.returns-then-most-eq0
returns-then-most-eq0 t c = no-digits c.args.out.now c.args.at c.args.most c.args.n c.if-most-eq0.true

pub put_byte-requires : goal.put_byte-requires
put_byte-requires t c =
    let e = ap length (last-digit c.args.most c.args.n c.if-most-eq0.false c.if-n-lt10.true) in omega arith

pub returns-then-n-lt10 : goal.returns-then-n-lt10
returns-then-n-lt10 t c =
    let byte = ap (λ (x : ℕ). x ∷ []) c.digit.ensures in
    let last = last-digit c.args.most c.args.n c.if-most-eq0.false c.if-n-lt10.true in
    puts-same (byte ∙ sym last) c.put_byte.ensures

pub put_digits-last-requires : goal.put_digits-last-requires
put_digits-last-requires t c =
    let all = ap length (digits-before c.args.most c.args.n c.if-most-eq0.false c.if-n-lt10.false) in
    let front = length-append (digits_within (c.args.most - 1) (c.args.n / 10)) ((48 + c.args.n % 10) ∷ []) in
    (omega arith, omega arith)

pub put_byte-requires-2 : goal.put_byte-requires-2
put_byte-requires-2 t c =
    let all = ap length (digits-before c.args.most c.args.n c.if-most-eq0.false c.if-n-lt10.false) in
    let front = length-append (digits_within (c.args.most - 1) (c.args.n / 10)) ((48 + c.args.n % 10) ∷ []) in
    let put = c.put_digits-last.ensures in
    let long = puts-length put in
    let next = put.place in
    omega arith

pub returns : goal.returns
returns t c =
    let byte = ap (λ (x : ℕ). x ∷ []) c.digit-2.ensures in
    let last = c.put_byte-2.ensures in
    puts-same
    (sym (digits-before c.args.most c.args.n c.if-most-eq0.false c.if-n-lt10.false))
    (puts-append c.put_digits-last.ensures (puts-same byte last))
