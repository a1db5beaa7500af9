-- `split_text` prints over the front of `out` (`printed-within`, `printed-text`), and what it prints hangs on the bytes
-- taken alone (`split-of-taken`).
use Rattle.std.proofs.Common.{take, sym, ◌∙◌, ap}
use Rattle.std.proofs.lemmas.List.{length-take-le}
use Rattle.programs.specs.Programs.{split_program}
use Rattle.programs.proofs.Printed.{printed-within}
use Rattle.programs.proofs.Runs.{printed-text, split-of-taken, written-of}
use Rattle.split.proofs.run.Goals as goal

pub slice_bounds-out-end : goal.slice_bounds-out-end
slice_bounds-out-end g c =
    printed-within _ _ c.split_text-printed.ensures.out_after c.split_text-printed.ensures.value

pub slice_bounds-write_all-end : goal.slice_bounds-write_all-end
slice_bounds-write_all-end g c =
    let p = c.split_text-printed in
    sym (length-take-le p.result p.new.out (printed-within _ _ p.ensures.out_after p.ensures.value))

pub returns : goal.returns
returns g c =
    let p = c.split_text-printed in
    written-of split_program split-of-taken (g.R.Read.remaining c.args.input) _ _ c.write_all.result
    c.in_ok-text.text.items (take p.result p.new.out) c.in_ok-text.ensures.read
    (printed-text _ _ p.ensures.out_after p.ensures.value ∙ ap split_program c.deref.ensures.value)
    c.write_all.ensures.bytes
