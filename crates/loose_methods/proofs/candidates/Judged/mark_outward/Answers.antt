use Rattle.std.proofs.Common.{◌∙◌, refl, sym, ap}
use Rattle.lemmas.proofs.Lists.{got_short}
use Rattle.loose_methods.specs.Loose.{lists_outer}
use Rattle.loose_methods.specs.Marking.{turned_on}
use Rattle.loose_methods.proofs.Under.{outward_marked, outward_same}
use Rattle.loose_methods.proofs.candidates.Judged.mark_outward.Goals as goal

pub returns-then-not-lists_outer : goal.returns-then-not-lists_outer
returns-then-not-lists_outer c = λ j e. outward_same c.args.self.now.program.now c.args.place c.args.marks.now c.args.marks.now (ap (lists_outer c.args.self.now.program.now) e ∙ sym (c.lists_outer.ensures j) ∙ c.if-not-lists_outer.true) refl

pub returns : goal.returns
returns c = λ j e. outward_marked c.args.self.now.program.now c.args.place c.in_ok-under.under.items c.args.marks.now c.turn_all.new.marks
    (c.in_ok-under.ensures j (got_short c.args.self.now.program.now.classes c.args.place c.args.class.now e))
    (ap (lists_outer c.args.self.now.program.now) e ∙ sym (c.lists_outer.ensures j) ∙ c.if-not-lists_outer.false)
    (c.turn_all.ensures ∙ ap (turned_on c.args.marks.now) c.as_slice.ensures.value)
