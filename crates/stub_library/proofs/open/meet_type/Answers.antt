use Rattle.std.proofs.Common.{◌∙◌, ◌+◌, sym, ap, subst, true, false}
use Rattle.std.specs.Prelude.{length}
use Rattle.stub_library.specs.Shut.{walk_clear}
use Rattle.stub_library.specs.Meeting.{Meets}
use Rattle.stub_library.proofs.Opened.{met_type, unmet_type}
use Rattle.stub_library.proofs.open.meet_type.Goals as goal

pub returns-then-not-is_framework : goal.returns-then-not-is_framework
returns-then-not-is_framework c = unmet_type c.args.program.now c.args.declared.now.library.now c.args.kind c.args.met.now (sym c.is_framework.ensures ∙ c.if-not-is_framework.true)

pub returns : goal.returns
returns c =
    let p = c.args.program.now in
    let l = c.args.declared.now.library.now in
    met_type p l c.args.kind c.args.met.now c.meet_all.new.met (sym c.is_framework.ensures ∙ c.if-not-is_framework.false)
    (subst (λ t. Meets p (λ n q. walk_clear (length l.classes + 2) l n q t) c.args.met.now c.meet_all.new.met) c.type_units.ensures
    (subst (λ d. Meets d (λ n q. walk_clear (length l.classes + 2) l n q c.type_units.result.now) c.args.met.now c.meet_all.new.met) c.requires.same c.in_ok-meet_all.ensures))
