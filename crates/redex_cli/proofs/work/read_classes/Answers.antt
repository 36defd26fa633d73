use Rattle.std.proofs.Common.{◌≡◌, Ok, ℕ, List, subst}
use Rattle.dex_read.specs.File.{program_at}
use Rattle.redex_cli.proofs.AcceptedLemmas.{accepted, type_fault}
use Rattle.redex_cli.proofs.work.read_classes.Goals as goal

pub returns-in-Ok-verify_all-clause-accepted : goal.returns-in-Ok-verify_all-clause-accepted
returns-in-Ok-verify_all-clause-accepted c =
    accepted c.in-Ok.program c.in-Ok-build.hierarchy c.in-Ok.ensures.read c.in-Ok.ensures.formed c.in-Ok-build.ensures.resolved c.in-Ok-build.ensures.acyclic c.in-Ok-build.ensures.unsplit
    c.in-Ok-verify_all.ensures.typed

pub returns-in-Err-verify_all-clause-file : goal.returns-in-Err-verify_all-clause-file
returns-in-Err-verify_all-clause-file c = c.typing_status.ensures.file c.args.file
    (type_fault c.in-Ok.program c.in-Ok-build.hierarchy c.args.file c.in-Err-verify_all.fault
    (subst (λ (bytes : List ℕ). program_at bytes ≡ Ok c.in-Ok.program) c.as_slice.ensures c.in-Ok.ensures.gives) c.in-Ok.ensures.formed
    c.in-Ok-build.ensures.resolved c.in-Ok-build.ensures.acyclic c.in-Ok-build.ensures.unsplit c.in-Err-verify_all.ensures.refused)
