use Rattle.std.proofs.Common.{◌∙◌, sym}
use Rattle.keep_rules.proofs.KeepLemmas.{place_kept, place_empty, class_has_names}
use Rattle.keep_rules.proofs.keep.keep_place.Goals as goal

pub returns-in_ok-keep_matching-in-Some : goal.returns-in_ok-keep_matching-in-Some
returns-in_ok-keep_matching-in-Some c = λ k formed is keeps standing. place_kept c.args.program.now k c.args.place c.in-Some.class.now c.args.marks.now c.keep_matching.new.marks (sym c.in-Some.ensures)
    (c.in_ok-keep_matching-in-Some.ensures k is keeps (c.is_under.ensures ∙ standing c.args.place c.in-Some.class.now (sym c.in-Some.ensures)) (class_has_names c.args.program.now formed c.args.place c.in-Some.class.now (sym c.in-Some.ensures)))

pub returns-in-None : goal.returns-in-None
returns-in-None c = λ k formed is keeps standing. place_empty c.args.program.now k c.args.place c.args.marks.now (sym c.in-None.ensures)
