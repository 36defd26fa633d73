use Rattle.std.proofs.Common.{subst}
use Rattle.std.specs.List.{list_all}
use Rattle.stub_library.specs.Shut.{type_clear}
use Rattle.stub_library.specs.Meeting.{MeetsEntry}
use Rattle.stub_library.proofs.Opened.{met_class}
use Rattle.stub_library.proofs.open.met_above.Goals as goal

pub returns : goal.returns
returns c =
    let p = c.args.program.now in
    let l = c.args.declared.now.library.now in
    met_class p l c.args.class.now c.new-met.result c.meet_type.new.met c.meet_types.new.met c.new-met.ensures.whole c.new-met.ensures.none c.in_ok-meet_type.ensures
    (subst (λ ks. MeetsEntry p (λ q. list_all (type_clear p l q) ks) c.meet_type.new.met c.meet_types.new.met) c.as_slice-kinds.ensures c.in_ok-meet_types.ensures)
