use Rattle.std.proofs.Common.{◌∙◌, sym, subst}
use Rattle.std.specs.Prelude.{None, Some}
use Rattle.std.proofs.lemmas.Result.{IfOk-weaker}
use Rattle.dalvik_defs.specs.Moves.{throws}
use Rattle.dalvik_state.specs.Drafts.{given_world}
use Rattle.dalvik_state.specs.Runs.{below_in, bodies_in, classes_in, setting_in, world_in, IsNext}
use Rattle.dalvik_state.specs.Views.{names_in, value_of}
use Rattle.dalvik_state.specs.declared.state.State.{State}
use Rattle.dalvik_moves.proofs.Answered.{throws_given, throws_over}
use Rattle.dalvik_moves.proofs.Moved.{on_err, over_as, undone_itself}
use Rattle.dalvik_moves.proofs.Taken.{first_taken, none_given}
use Rattle.dalvik_moves.proofs.Thrown.{moving_kept, next_same}
use Rattle.dalvik_moves.proofs.answering.throws_owed.Goals as goal

pub returns-in_err-taken-clause-err : goal.returns-in_err-taken-clause-err
returns-in_err-taken-clause-err c = λ o script steps owes first rest g h is.
    on_err _ _ (undone_itself c.args.tables.now.lookups steps c.args.memo.now c.args.state.now h.run.kept h.run.state h.run.on)

pub returns-in_err-legal-clause-err : goal.returns-in_err-legal-clause-err
returns-in_err-legal-clause-err c = λ o script steps owes first rest g h is.
    let l = c.args.tables.now.lookups in
    let old = c.args.state.now in
    let start = none_given l old.world c.new-gifts.result h.run.state.world c.new-gifts.ensures in
    let takes = c.in_ok-taken.ensures o g h.run.right h.reach start is in
    on_err _ _ (undone_itself l steps c.may_throw.new.memo old (c.may_throw.ensures.kept h.run.right h.run.kept takes.given) h.run.state h.run.on)

pub returns-then-legal-clause-ok : goal.returns-then-legal-clause-ok
returns-then-legal-clause-ok c = λ o floats script steps owes first rest kind g h is.
    let l = c.args.tables.now.lookups in
    let n = names_in l in
    let old = c.args.state.now in
    let all = c.take.new.self in
    let start = none_given l old.world c.new-gifts.result h.run.state.world c.new-gifts.ensures in
    let one = first_taken l o old.world c.new-gifts.result all g c.args.gift c.in_ok-taken.taken c.new-gifts.ensures is (c.in_ok-taken.ensures o g h.run.right h.reach start is) in
    let kept = c.may_throw.ensures.kept h.run.right h.run.kept one.given in
    let legal = sym c.if-legal.true ∙ c.in_ok-legal.ensures.is o (world_in l old) g h.run.right h.run.kept one.given one.fine one.gift one.allowed in
    IfOk-weaker c.throws_legally.result _ _ (λ e next. next_same l steps script c.throws_legally.new.memo c.throws_legally.new.state e _ _
    (throws_given (setting_in l o floats) (bodies_in l) (world_in l old) (given_world n old.world all) (classes_in l old) kind g (value_of n c.in_ok-taken.taken.datum) (below_in l script old) rest legal one.got) next)
    (c.throws_legally.ensures.ok o script steps owes first rest (moving_kept l o c.args.memo.now c.may_throw.new.memo script steps old owes first rest h kept) one.given one.fine)

pub returns-then-legal-clause-err : goal.returns-then-legal-clause-err
returns-then-legal-clause-err c = λ o script steps owes first rest g h is.
    let l = c.args.tables.now.lookups in
    let old = c.args.state.now in
    let start = none_given l old.world c.new-gifts.result h.run.state.world c.new-gifts.ensures in
    let one = first_taken l o old.world c.new-gifts.result c.take.new.self g c.args.gift c.in_ok-taken.taken c.new-gifts.ensures is (c.in_ok-taken.ensures o g h.run.right h.reach start is) in
    let kept = c.may_throw.ensures.kept h.run.right h.run.kept one.given in
    c.throws_legally.ensures.err o script steps owes first rest (moving_kept l o c.args.memo.now c.may_throw.new.memo script steps old owes first rest h kept) one.given one.fine

pub returns-else-legal-clause-ok : goal.returns-else-legal-clause-ok
returns-else-legal-clause-ok c = λ o floats script steps owes first rest kind g h is.
    let l = c.args.tables.now.lookups in
    let n = names_in l in
    let old = c.args.state.now in
    let all = c.take.new.self in
    let start = none_given l old.world c.new-gifts.result h.run.state.world c.new-gifts.ensures in
    let one = first_taken l o old.world c.new-gifts.result all g c.args.gift c.in_ok-taken.taken c.new-gifts.ensures is (c.in_ok-taken.ensures o g h.run.right h.reach start is) in
    let kept = c.may_throw.ensures.kept h.run.right h.run.kept one.given in
    let legal = sym c.if-legal.false ∙ c.in_ok-legal.ensures.is o (world_in l old) g h.run.right h.run.kept one.given one.fine one.gift one.allowed in
    let to = throws (setting_in l o floats) (bodies_in l) (world_in l old) (classes_in l old) (Some kind) g (below_in l script old) rest in
    subst (λ (s : State). IsNext l steps script c.may_throw.new.memo s None to) (sym c.end.ensures)
    (over_as l steps script c.may_throw.new.memo old to kept (throws_over (setting_in l o floats) (bodies_in l) (world_in l old) (given_world n old.world all) (classes_in l old) kind g (value_of n c.in_ok-taken.taken.datum) (below_in l script old) rest legal one.got))
