-- In each arm the key is known, so the turn of the line that is called is the turn at the body of that key; and what
-- the line requires of its place is that the key may stand there.
use Rattle.text.specs.Text.{read_body}
use Rattle.text.specs.ReadCode.{rest}
use Rattle.text.proofs.Dispatch.{behind-schemas, kind-body, kind-meant, role-body, role-meant}
use Rattle.text.proofs.reader.body_turn.Goals as goal

pub atom_line-requires-clause-in_schema : goal.atom_line-requires-clause-in_schema
atom_line-requires-clause-in_schema c =
    let (known, is) = role-meant c.args.key c.in-Pre.is in
    rw c.role.ensures (record { known = known; allowed = rw is c.requires.key_value })

pub returns-in-Task-clause-fact : goal.returns-in-Task-clause-fact
unfolding read_body
returns-in-Task-clause-fact c = rw c.in-Task.is (λ d h. c.task_line.ensures d _ h)

pub returns-in-Objects-clause-fact : goal.returns-in-Objects-clause-fact
unfolding read_body
returns-in-Objects-clause-fact c = rw c.in-Objects.is (λ d h. c.objects_line.ensures d _ h)

pub returns-in-Arity-clause-fact : goal.returns-in-Arity-clause-fact
unfolding read_body
returns-in-Arity-clause-fact c = rw c.in-Arity.is c.arity_line.ensures.takes

pub returns-in-Differ-clause-fact : goal.returns-in-Differ-clause-fact
unfolding read_body
returns-in-Differ-clause-fact c = rw c.in-Differ.is c.differ_line.ensures.takes

pub returns-in-Part-clause-fact : goal.returns-in-Part-clause-fact
unfolding read_body
returns-in-Part-clause-fact c = rw c.in-Part.is c.part_line.ensures.takes

pub returns-in-Schema-clause-fact : goal.returns-in-Schema-clause-fact
unfolding read_body
returns-in-Schema-clause-fact c = rw c.in-Schema.is (λ d h. c.schema_line.ensures d _ h)

pub returns-in-End-clause-fact : goal.returns-in-End-clause-fact
unfolding read_body
returns-in-End-clause-fact c =
    let allowed = rw c.in-End.is at c.requires.key_value in
    rw c.in-End.is (λ d h. c.end_line.ensures d _ (behind-schemas h.phase allowed))

pub returns-in-Pre-clause-fact : goal.returns-in-Pre-clause-fact
returns-in-Pre-clause-fact c = λ d h.
    rw (role-body c.args.key (rest c.args.text.now c.args.body) c.in-Pre.is)
    (rw c.role.ensures at (c.atom_line.ensures.takes d h))

pub returns-in-Init-clause-fact : goal.returns-in-Init-clause-fact
returns-in-Init-clause-fact c = λ d h.
    rw (kind-body c.args.key (rest c.args.text.now c.args.body) c.in-Init.is)
    (rw c.kind.ensures at (c.fact_line.ensures.takes d h))
