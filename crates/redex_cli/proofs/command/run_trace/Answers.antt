use Rattle.std.proofs.Common.{Some, ap, sym, ◌∙◌}
use Rattle.redex_cli.proofs.CommandLemmas.{trace_given, trace_refuses}
use Rattle.redex_cli.proofs.command.run_trace.Goals as goal

pub returns-clause-refused : goal.returns-clause-refused
returns-clause-refused g c =
    let old = c.args.shelf.now in
    let new = c.fetch_trace.new.shelf in
    trace_refuses c.args.rules.now c.args.input.now c.args.library.now c.args.script.now c.as_slice.result.now (λ _ _. ⊥) c.in-Ok.inputs.inputs
    (g.H.Shelf.tells old) (g.H.Shelf.held old) (g.H.Shelf.held new) (g.H.Shelf.fetch_faults old) (g.H.Shelf.fetch_faults new)
    (g.H.Shelf.put_faults old) (g.H.Shelf.put_faults new) c.in-Err-trace_file.status c.in-Err-trace_file.ensures.refused
    c.in-Err-trace_file.ensures.bytes c.in-Ok.ensures.are c.in-Ok.ensures.within (λ told. c.in-Ok.ensures.there told ∙ ap Some (sym c.as_slice.ensures))
    c.fetch_trace.ensures.stays.held

pub returns-in-Ok-trace_file-clause-given : goal.returns-in-Ok-trace_file-clause-given
returns-in-Ok-trace_file-clause-given g c =
    let old = c.args.shelf.now in
    let new = c.fetch_trace.new.shelf in
    trace_given c.args.rules.now c.args.input.now c.args.library.now c.args.script.now c.as_slice.result.now c.args.steps (λ _ _. ⊥) c.in-Ok.inputs.inputs
    (g.H.Shelf.tells old) (g.H.Shelf.held old) (g.H.Shelf.held new) c.in-Ok-trace_file.text.items c.in-Ok-trace_file.ensures.read
    c.in-Ok-trace_file.ensures.traced c.in-Ok.ensures.are c.in-Ok.ensures.within (λ told. c.in-Ok.ensures.there told ∙ ap Some (sym c.as_slice.ensures))
    c.fetch_trace.ensures.stays.held
