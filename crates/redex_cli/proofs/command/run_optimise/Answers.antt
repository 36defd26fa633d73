use Rattle.std.proofs.Common.{Some, ap, string_bytes}
use Rattle.redex_cli.specs.Finished.{FinishedOf}
use Rattle.redex_cli.proofs.CommandLemmas.{inputs_refuse, output_gives, output_refuses, told_words}
use Rattle.redex_cli.proofs.command.run_optimise.Goals as goal

pub returns-in-Err-optimise_file-clause-refused : goal.returns-in-Err-optimise_file-clause-refused
returns-in-Err-optimise_file-clause-refused g c =
    let words = c.args.words.now in
    let old = c.args.shelf.now in
    let new = c.fetch_inputs.new.shelf in
    inputs_refuse words.rules words.input words.library (Some words.output) (FinishedOf _ (g.H.Shelf.tells old) (g.H.Shelf.held old) words) c.in-Ok.inputs
    (g.H.Shelf.tells old) (g.H.Shelf.held old) (g.H.Shelf.held new) (g.H.Shelf.fetch_faults old) (g.H.Shelf.fetch_faults new)
    (g.H.Shelf.put_faults old) (g.H.Shelf.put_faults new) c.in-Err-optimise_file.status c.in-Err-optimise_file.ensures.refused
    c.in-Err-optimise_file.ensures.bytes c.in-Ok.ensures.are c.in-Ok.ensures.within c.fetch_inputs.ensures.stays.held

pub returns-in-Err-put-clause-refused : goal.returns-in-Err-put-clause-refused
returns-in-Err-put-clause-refused g c =
    let shelf = c.args.shelf.now in
    let mid = c.fetch_inputs.new.shelf in
    let new = c.put.new.shelf in
    let optimised = c.in-Ok-optimise_file.optimised in
    output_refuses c.args.words.now _ c.in-Ok.inputs
    (g.H.Shelf.tells shelf) (g.H.Shelf.tells mid) (g.H.Shelf.held shelf) (g.H.Shelf.held mid) (g.H.Shelf.held new)
    (g.H.Shelf.fetch_faults shelf) (g.H.Shelf.fetch_faults new) (g.H.Shelf.put_faults shelf) (g.H.Shelf.put_faults mid) (g.H.Shelf.put_faults new)
    optimised.bytes.items c.as_slice-2.result.now (string_bytes optimised.summary) c.in-Err-put.status
    c.as_slice-2.ensures.value c.in-Ok-optimise_file.ensures.read c.in-Ok.ensures.are c.in-Ok.ensures.within
    (told_words c.args.words.now _ _ c.in-Ok.inputs _ _ c.as_slice.ensures c.in-Ok-optimise_file.ensures.finished)
    c.fetch_inputs.ensures.stays.tells c.fetch_inputs.ensures.stays.held c.fetch_inputs.ensures.stays.puts
    c.in-Err-put.ensures.refused c.put.ensures.others

pub returns-in-Ok-put-clause-given : goal.returns-in-Ok-put-clause-given
returns-in-Ok-put-clause-given g c =
    let shelf = c.args.shelf.now in
    let mid = c.fetch_inputs.new.shelf in
    let new = c.put.new.shelf in
    let optimised = c.in-Ok-optimise_file.optimised in
    output_gives c.args.words.now _ c.in-Ok.inputs
    (g.H.Shelf.tells shelf) (g.H.Shelf.tells mid) (g.H.Shelf.held shelf) (g.H.Shelf.held mid) (g.H.Shelf.held new)
    optimised.bytes.items c.as_slice-2.result.now (string_bytes optimised.summary) c.into_bytes.result.items
    c.as_slice-2.ensures.value (ap (λ v. v.items) c.into_bytes.ensures.value)
    c.in-Ok-optimise_file.ensures.read c.in-Ok.ensures.are c.in-Ok.ensures.within (told_words c.args.words.now _ _ c.in-Ok.inputs _ _ c.as_slice.ensures c.in-Ok-optimise_file.ensures.finished)
    c.fetch_inputs.ensures.stays.tells c.fetch_inputs.ensures.stays.held c.in-Ok-put.ensures.put c.put.ensures.others
