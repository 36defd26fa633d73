use Rattle.copy_prop.proofs.Spoilt.{spoils_added}
use Rattle.std.proofs.Common.{ap, ◌∙◌}
use Rattle.std.specs.Prelude.{◌&&◌, not, nat_eq}
use Rattle.walk_marks.specs.Walks.{is_on}
use Rattle.copy_prop.proofs.searches.add_spoilt.Goals as goal

pub returns : goal.returns
returns c = spoils_added c.args.body.now c.args.steps.now c.requires.steps c.args.copy.now c.args.position c.insn_at-insn.result.now c.both-is_written.result c.both-is_cast.result c.args.found.now.items c.add_when.new.found.items c.add_when-2.new.found.items c.index.result.now c.index-2.result.now c.insn_at-insn.ensures
    (cc) (cc) c.index.ensures c.index-2.ensures (cc (c.in_ok-add_when.ensures, c.as_slice-2.ensures)) (cc (c.in_ok-add_when-2.ensures, c.as_slice-3.ensures))
