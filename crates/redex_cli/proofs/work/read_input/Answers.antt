use Rattle.std.proofs.Common.{List, ℕ, subst}
use Rattle.if_text.specs.Faults.{IsIfFault}
use Rattle.redex_cli.proofs.FinishedLemmas.{are_read, are_rules, bytes_read, library_bytes}
use Rattle.redex_cli.proofs.Traced.{table_of_text}
use Rattle.redex_cli.proofs.work.read_input.Goals as goal

pub returns-in-Err-clause-refused : goal.returns-in-Err-clause-refused
returns-in-Err-clause-refused c = c.rules_status.ensures.refused c.args.inputs
    (subst (λ (text : List ℕ). IsIfFault text c.in-Err.fault) c.as_slice.ensures c.in-Err.ensures.fault)

pub returns-in-Err-clause-bytes : goal.returns-in-Err-clause-bytes
returns-in-Err-clause-bytes c = c.rules_status.ensures.file c.args.inputs

pub returns-in-Ok-table_with-clause-table : goal.returns-in-Ok-table_with-clause-table
returns-in-Ok-table_with-clause-table c =
    table_of_text c.as_slice.result.now c.args.inputs.rules c.args.inputs.library c.in-Ok-read_classes.classes.program c.in-Ok-table_with.outside
    c.as_slice.ensures (c.in-Ok-table_with.ensures.table c.as_slice.result.now (c.in-Ok-closed_outside.ensures c.as_slice.result.now c.in-Ok.ensures.ok))

pub returns-in-Ok-table_with-clause-read : goal.returns-in-Ok-table_with-clause-read
returns-in-Ok-table_with-clause-read c =
    are_read c.args.inputs c.in-Ok-read_classes.classes.program c.in-Ok-table_with.outside
    (are_rules c.as_slice.result.now c.args.inputs.rules c.in-Ok.rules c.as_slice.ensures c.in-Ok.ensures.ok) c.in-Ok-read_classes.ensures.read c.in-Ok-read_classes.ensures.accepted
    (returns-in-Ok-table_with-clause-table c)

pub returns-clause-bytes : goal.returns-clause-bytes
returns-clause-bytes c = library_bytes c.args.inputs c.in-Ok-read_classes.classes.program c.in-Err-table_with.status
    (are_rules c.as_slice.result.now c.args.inputs.rules c.in-Ok.rules c.as_slice.ensures c.in-Ok.ensures.ok) c.in-Ok-read_classes.ensures.read
    c.in-Ok-read_classes.ensures.accepted c.in-Err-table_with.ensures.refused

pub returns-in-Err-read_classes-clause-bytes : goal.returns-in-Err-read_classes-clause-bytes
returns-in-Err-read_classes-clause-bytes c = bytes_read c.args.inputs c.in-Err-read_classes.status
    (are_rules c.as_slice.result.now c.args.inputs.rules c.in-Ok.rules c.as_slice.ensures c.in-Ok.ensures.ok) c.in-Err-read_classes.ensures.refused
    c.in-Err-read_classes.ensures.file
