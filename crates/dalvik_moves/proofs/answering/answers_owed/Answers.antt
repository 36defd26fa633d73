use Rattle.std.proofs.Common.{◌∙◌, ap, sym, subst}
use Rattle.std.specs.Prelude.{Option, Some, None}
use Rattle.std.specs.Option.{option_map}
use Rattle.std.proofs.lemmas.Result.{IfOk-weaker, on_err_weaker}
use Rattle.dalvik_lookups.specs.Views.{type_text}
use Rattle.dalvik_state.specs.Drafts.{given_world}
use Rattle.dalvik_state.specs.Runs.{below_in, bodies_in, classes_in, setting_in, world_in, IsNext}
use Rattle.dalvik_state.specs.Views.{names_in, value_of}
use Rattle.dalvik_state.specs.declared.datum.Datum.{Datum}
use Rattle.dalvik_state.specs.declared.state.State.{State}
use Rattle.dalvik_steps.specs.Entries.{AreGivenFine}
use Rattle.dalvik_defs.specs.Moves.{answers}
use Rattle.dalvik_moves.proofs.Answered.{answers_given, answers_over, first_fine, first_given, got_first}
use Rattle.dalvik_moves.proofs.Moved.{next_as, on_err, over_as, owed_kind, undone_itself, undone_kept}
use Rattle.dalvik_moves.proofs.Taken.{none_given}
use Rattle.dalvik_moves.proofs.answering.answers_owed.Goals as goal

pub returns-in_err-taken-clause-err : goal.returns-in_err-taken-clause-err
returns-in_err-taken-clause-err c = λ o script steps first rest g h are.
    on_err _ _ (undone_itself c.args.tables.now.lookups steps c.args.memo.now c.args.state.now h.run.kept h.run.state h.run.on)

pub returns-in_err-legal-clause-err : goal.returns-in_err-legal-clause-err
returns-in_err-legal-clause-err c = λ o script steps first rest g h are.
    let l = c.args.tables.now.lookups in
    let old = c.args.state.now in
    let none = c.new-gifts.ensures in
    let start = none_given l old.world c.new-gifts.result h.run.state.world none in
    let takes = c.in_ok-taken.ensures o g h.run.right h.reach start are in
    let one = c.beside-answer.ensures l o old.world c.new-gifts.result c.take_option.new.self g h.run.right none start are takes in
    let kind = owed_kind l o c.args.memo.now script steps old c.args.kind first rest h in
    let kept = c.may_answer.ensures.kept h.run.right h.run.kept (first_given l o old.world c.take_option.new.self g c.beside-answer.result one) kind in
    on_err _ _ (undone_itself l steps c.may_answer.new.memo old kept h.run.state h.run.on)

pub returns-then-legal-clause-ok : goal.returns-then-legal-clause-ok
returns-then-legal-clause-ok c = λ o floats script steps first rest g h are.
    let l = c.args.tables.now.lookups in
    let n = names_in l in
    let old = c.args.state.now in
    let all = c.take_option.new.self in
    let none = c.new-gifts.ensures in
    let start = none_given l old.world c.new-gifts.result h.run.state.world none in
    let takes = c.in_ok-taken.ensures o g h.run.right h.reach start are in
    let one = c.beside-answer.ensures l o old.world c.new-gifts.result all g h.run.right none start are takes in
    let kind = owed_kind l o c.args.memo.now script steps old c.args.kind first rest h in
    let given = first_given l o old.world all g c.beside-answer.result one in
    let kept = c.may_answer.ensures.kept h.run.right h.run.kept given kind in
    let legal = sym c.if-legal.true ∙ c.in_ok-legal.ensures.is o g h.run.right h.run.kept kind one in
    let same = c.datum_of-value.ensures in
    let got = got_first l o old.world all g c.beside-answer.result one ∙ ap (λ (d : Option Datum). (given_world n old.world all, option_map (value_of n) d)) (sym same) in
    let fine = subst (AreGivenFine l old.world all) (sym same) (first_fine l o old.world all g c.beside-answer.result one) in
    IfOk-weaker c.answers_legally.result _ _ (λ e event. next_as l steps script c.may_answer.new.memo c.answers_legally.new.state e _ _ kept
    (answers_given (setting_in l o floats) (bodies_in l) (world_in l old) (given_world n old.world all) (classes_in l old) (type_text l.types c.args.kind) g (option_map (value_of n) c.datum_of-value.result) (below_in l script old) rest legal got) event)
    (c.answers_legally.ensures.ok o c.args.memo.now script steps (Some c.args.kind) first rest h given fine)

pub returns-then-legal-clause-err : goal.returns-then-legal-clause-err
returns-then-legal-clause-err c = λ o script steps first rest g h are.
    let l = c.args.tables.now.lookups in
    let old = c.args.state.now in
    let none = c.new-gifts.ensures in
    let start = none_given l old.world c.new-gifts.result h.run.state.world none in
    let takes = c.in_ok-taken.ensures o g h.run.right h.reach start are in
    let one = c.beside-answer.ensures l o old.world c.new-gifts.result c.take_option.new.self g h.run.right none start are takes in
    let kind = owed_kind l o c.args.memo.now script steps old c.args.kind first rest h in
    let kept = c.may_answer.ensures.kept h.run.right h.run.kept (first_given l o old.world c.take_option.new.self g c.beside-answer.result one) kind in
    on_err_weaker c.answers_legally.result (λ u. undone_kept l steps c.may_answer.new.memo old c.answers_legally.new.state kept u) (c.answers_legally.ensures.err o c.args.memo.now script steps (Some c.args.kind) first rest h)

pub returns-else-legal-clause-ok : goal.returns-else-legal-clause-ok
returns-else-legal-clause-ok c = λ o floats script steps first rest g h are.
    let l = c.args.tables.now.lookups in
    let old = c.args.state.now in
    let none = c.new-gifts.ensures in
    let start = none_given l old.world c.new-gifts.result h.run.state.world none in
    let takes = c.in_ok-taken.ensures o g h.run.right h.reach start are in
    let one = c.beside-answer.ensures l o old.world c.new-gifts.result c.take_option.new.self g h.run.right none start are takes in
    let kind = owed_kind l o c.args.memo.now script steps old c.args.kind first rest h in
    let kept = c.may_answer.ensures.kept h.run.right h.run.kept (first_given l o old.world c.take_option.new.self g c.beside-answer.result one) kind in
    let legal = sym c.if-legal.false ∙ c.in_ok-legal.ensures.is o g h.run.right h.run.kept kind one in
    let to = answers (setting_in l o floats) (bodies_in l) (world_in l old) (classes_in l old) (Some (type_text l.types c.args.kind)) g (below_in l script old) rest in
    subst (λ (s : State). IsNext l steps script c.may_answer.new.memo s None to) (sym c.end.ensures)
    (over_as l steps script c.may_answer.new.memo old to kept (answers_over (setting_in l o floats) (bodies_in l) (world_in l old) (classes_in l old) (type_text l.types c.args.kind) g (below_in l script old) rest legal))
