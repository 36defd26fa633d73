use Rattle.std.proofs.Common.{◌∙◌, sym}
use Rattle.dalvik_state.specs.States.{class_text}
use Rattle.dalvik_steps.proofs.Reserved.{undone}
use Rattle.dalvik_moves.proofs.Created.{class_below, class_kind, class_named, made_event}
use Rattle.dalvik_moves.proofs.Moved.{on_err}
use Rattle.dalvik_moves.proofs.entering.made.Goals as goal

pub returns-in_err-_reference-clause-err : goal.returns-in_err-_reference-clause-err
returns-in_err-_reference-clause-err c = λ steps run on.
    on_err _ _ (undone c.args.tables.now.lookups steps c.args.state.now c.makes_shown.new.state c.in_err-_reference.ensures.err run on)

pub returns-clause-ok : goal.returns-clause-ok
returns-clause-ok c = λ o memo script steps owes first rest h low.
    let l = c.args.tables.now.lookups in
    let p = l.program.now in
    let k = class_below p c.args.class low in
    let is = c.kind_of_class-kind.ensures h.run.right k.0 k.1 in
    let kind = c.kind_of_class-kind.result in
    let fine = class_kind l h.run.right c.args.class k.0 kind k.1 is in
    made_event l o memo script steps c.args.state.now c.makes_shown.new.state c.done.new.state owes first rest kind c.in_ok-_reference._reference c.in_ok-_reference.event h (c.in_ok-_reference.ensures.made h.run.state.world fine) c.done.ensures.done
    (class_text p c.args.class) (is.text ∙ sym (class_named p c.args.class k.0 k.1))
