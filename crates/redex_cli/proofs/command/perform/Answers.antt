use Rattle.std.proofs.lemmas.Result.{IfErr-weaker, IfOk-weaker}
use Rattle.command_line.specs.declared.command.CommandWords.TheVariants.{Optimise, Check, Live, Trace}
use Rattle.redex_cli.proofs.CommandLemmas.{found_gives, found_refuses}
use Rattle.redex_cli.proofs.command.perform.Goals as goal

pub returns-in-Optimise-clause-given : goal.returns-in-Optimise-clause-given
returns-in-Optimise-clause-given g c =
    IfOk-weaker c.run_optimise.result _ _
    (λ text gives. found_gives _ c.args.command.now (Optimise c.in-Optimise.words) (g.H.Shelf.tells c.args.shelf.now)
    (g.H.Shelf.held c.args.shelf.now) (g.H.Shelf.held c.run_optimise.new.shelf) text.items c.in-Optimise.is gives)
    c.run_optimise.ensures.given

pub returns-in-Optimise-clause-refused : goal.returns-in-Optimise-clause-refused
returns-in-Optimise-clause-refused g c =
    IfErr-weaker c.run_optimise.result _ _
    (λ status refuses. found_refuses _ c.args.command.now (Optimise c.in-Optimise.words) (g.H.Shelf.tells c.args.shelf.now)
    (g.H.Shelf.held c.args.shelf.now) (g.H.Shelf.held c.run_optimise.new.shelf) _ _ _ _ status c.in-Optimise.is refuses)
    c.run_optimise.ensures.refused

pub returns-in-Check-clause-given : goal.returns-in-Check-clause-given
returns-in-Check-clause-given g c =
    IfOk-weaker c.run_check.result _ _
    (λ text gives. found_gives _ c.args.command.now (Check c.in-Check.input) (g.H.Shelf.tells c.args.shelf.now)
    (g.H.Shelf.held c.args.shelf.now) (g.H.Shelf.held c.run_check.new.shelf) text.items c.in-Check.is gives)
    c.run_check.ensures.given

pub returns-in-Check-clause-refused : goal.returns-in-Check-clause-refused
returns-in-Check-clause-refused g c =
    IfErr-weaker c.run_check.result _ _
    (λ status refuses. found_refuses _ c.args.command.now (Check c.in-Check.input) (g.H.Shelf.tells c.args.shelf.now)
    (g.H.Shelf.held c.args.shelf.now) (g.H.Shelf.held c.run_check.new.shelf) _ _ _ _ status c.in-Check.is refuses)
    c.run_check.ensures.refused

pub returns-in-Live-clause-given : goal.returns-in-Live-clause-given
returns-in-Live-clause-given g c =
    IfOk-weaker c.run_live.result _ _
    (λ text gives. found_gives _ c.args.command.now (Live c.in-Live.rules c.in-Live.input c.in-Live.library) (g.H.Shelf.tells c.args.shelf.now)
    (g.H.Shelf.held c.args.shelf.now) (g.H.Shelf.held c.run_live.new.shelf) text.items c.in-Live.is gives)
    c.run_live.ensures.given

pub returns-in-Live-clause-refused : goal.returns-in-Live-clause-refused
returns-in-Live-clause-refused g c =
    IfErr-weaker c.run_live.result _ _
    (λ status refuses. found_refuses _ c.args.command.now (Live c.in-Live.rules c.in-Live.input c.in-Live.library) (g.H.Shelf.tells c.args.shelf.now)
    (g.H.Shelf.held c.args.shelf.now) (g.H.Shelf.held c.run_live.new.shelf) _ _ _ _ status c.in-Live.is refuses)
    c.run_live.ensures.refused

pub returns-in-Trace-clause-given : goal.returns-in-Trace-clause-given
returns-in-Trace-clause-given g c =
    IfOk-weaker c.run_trace.result _ _
    (λ text gives. found_gives _ c.args.command.now (Trace c.in-Trace.rules c.in-Trace.input c.in-Trace.script c.in-Trace.steps c.in-Trace.library) (g.H.Shelf.tells c.args.shelf.now)
    (g.H.Shelf.held c.args.shelf.now) (g.H.Shelf.held c.run_trace.new.shelf) text.items c.in-Trace.is gives)
    c.run_trace.ensures.given

pub returns-in-Trace-clause-refused : goal.returns-in-Trace-clause-refused
returns-in-Trace-clause-refused g c =
    IfErr-weaker c.run_trace.result _ _
    (λ status refuses. found_refuses _ c.args.command.now (Trace c.in-Trace.rules c.in-Trace.input c.in-Trace.script c.in-Trace.steps c.in-Trace.library) (g.H.Shelf.tells c.args.shelf.now)
    (g.H.Shelf.held c.args.shelf.now) (g.H.Shelf.held c.run_trace.new.shelf) _ _ _ _ status c.in-Trace.is refuses)
    c.run_trace.ensures.refused
