use Rattle.redex_cli.proofs.CommandLemmas.{check_refuses}
use Rattle.redex_cli.proofs.command.run_check.Goals as goal

pub returns-in-Err-check_file-clause-refused : goal.returns-in-Err-check_file-clause-refused
returns-in-Err-check_file-clause-refused g c =
    let old = c.args.shelf.now in
    let new = c.fetch.new.shelf in
    check_refuses c.args.input.now c.in-Ok.file (λ _ _. ⊥) (g.H.Shelf.tells old) (g.H.Shelf.held old) (g.H.Shelf.held new)
    (g.H.Shelf.fetch_faults old) (g.H.Shelf.fetch_faults new) (g.H.Shelf.put_faults old) (g.H.Shelf.put_faults new) c.in-Err-check_file.status
    c.in-Err-check_file.ensures.refused c.in-Err-check_file.ensures.file c.in-Ok.ensures.within c.in-Ok.ensures.there c.fetch.ensures.stays.held
