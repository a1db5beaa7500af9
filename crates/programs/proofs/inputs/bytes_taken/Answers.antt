-- A shorter input is taken whole.
use Rattle.std.proofs.Common.{take, ℕ, ap, ◌∙◌}
use Rattle.std.proofs.lemmas.List.{take_min}
use Rattle.programs.specs.Programs.{most_bytes, taken}
use Rattle.programs.proofs.inputs.bytes_taken.Goals as goal

pub returns-clause-input_value : goal.returns-clause-input_value
unfolding taken most_bytes
returns-clause-input_value c =
    let input = c.args.input.now in
    ap (λ (n : ℕ). take n input) c.min.ensures ∙ take_min most_bytes input
