use Rattle.std.proofs.Common.{sym}
use Rattle.keep_rules.proofs.KeepLemmas.{kind_kept, kind_empty}
use Rattle.keep_rules.proofs.keep.keep_kind.Goals as goal

pub returns-in_ok-keep_place-in-Some : goal.returns-in_ok-keep_place-in-Some
returns-in_ok-keep_place-in-Some c = λ k ready is keeps standing. kind_kept c.args.view.now.program.now k c.args.kind c.in-Some.place c.args.marks.now c.keep_place.new.marks (sym (c.in-Some.ensures ready.of)) (c.in_ok-keep_place-in-Some.ensures k ready.formed is keeps standing)

pub returns-in-None : goal.returns-in-None
returns-in-None c = λ k ready is keeps standing. kind_empty c.args.view.now.program.now k c.args.kind c.args.marks.now (sym (c.in-None.ensures ready.of))
