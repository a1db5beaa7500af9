-- `unfold_texts` prints over the front of `out` (`printed-within`, `printed-text`).
use Rattle.std.proofs.Common.{sym}
use Rattle.std.proofs.lemmas.List.{length-take-le}
use Rattle.programs.proofs.Printed.{printed-within}
use Rattle.programs.proofs.Runs.{printed-text}
use Rattle.unfold.proofs.print_unfolding.Goals as goal

pub slice_bounds-out-end : goal.slice_bounds-out-end
slice_bounds-out-end g c =
    printed-within _ _ c.unfold_texts-printed.ensures.out_after c.unfold_texts-printed.ensures.value

pub slice_bounds-write_all-end : goal.slice_bounds-write_all-end
slice_bounds-write_all-end g c =
    let p = c.unfold_texts-printed in
    sym (length-take-le p.result p.new.out (printed-within _ _ p.ensures.out_after p.ensures.value))

pub returns : goal.returns
returns g c =
    let p = c.unfold_texts-printed in
    rw (sym (printed-text _ _ p.ensures.out_after p.ensures.value)) c.write_all.ensures.bytes
