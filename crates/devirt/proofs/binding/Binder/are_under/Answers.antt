use Rattle.std.proofs.Common.{◌<◌, ◌∙◌, ℕ, length, ltb-true, slice_index, sym}
use Rattle.std.specs.Prelude.{nat_lt}
use Rattle.lemmas.proofs.Lists.{all_at}
use Rattle.class_defs.specs.Places.{is_under}
use Rattle.receivers.proofs.Loops.{all_broken, all_done, all_more, at_index}
use Rattle.devirt.proofs.binding.Binder.are_under.Goals as goal

pub loop-class-preserved : goal.loop-class-preserved
loop-class-preserved c = λ r places l.
    let p = c.args.self.now.finder.program.now in
    let xs = c.args.classes.now in
    let i = c.loop-class.class-index in
    let x : ℕ = slice_index xs i in
    let short : x < length p.classes = ltb-true x (length p.classes) (all_at (λ d. nat_lt d (length p.classes)) xs i x places (at_index xs i c.loop-class-test.true)) in
    all_more (λ d. is_under p d c.args.upper) xs i c.loop-class-test.true (c.loop-class.invariant r places l) (sym (c.is_under.ensures p r short l) ∙ c.if-not-is_under.false)

pub returns-then-not-is_under : goal.returns-then-not-is_under
returns-then-not-is_under c = λ r places l.
    let p = c.args.self.now.finder.program.now in
    let xs = c.args.classes.now in
    let i = c.loop-class.class-index in
    let x : ℕ = slice_index xs i in
    let short : x < length p.classes = ltb-true x (length p.classes) (all_at (λ d. nat_lt d (length p.classes)) xs i x places (at_index xs i c.loop-class-test.true)) in
    sym (all_broken (λ d. is_under p d c.args.upper) xs i c.loop-class-test.true (sym (c.is_under.ensures p r short l) ∙ c.if-not-is_under.true))

pub returns : goal.returns
returns c = λ r places l.
    let p = c.args.self.now.finder.program.now in
    sym (all_done (λ d. is_under p d c.args.upper) c.args.classes.now c.loop-class.class-index c.loop-class-test.false (c.loop-class.invariant r places l))
