use Rattle.std.proofs.Common.{refl, sym, subst, OnOk, [], ◌∷◌}
use Rattle.std.proofs.lemmas.Result.{on_ok_weaker}
use Rattle.call_graph.specs.Least.{WaitsAmong}
use Rattle.call_graph.proofs.Reaching.{waits_class, waits_made, waits_field, waits_method, waits_called}
use Rattle.call_graph.proofs.facts.Facts.add.Goals as goal

pub returns-in-Class-clause-from : goal.returns-in-Class-clause-from
returns-in-Class-clause-from c = subst (λ x. OnOk c.mark.result (WaitsAmong c.args.self.now (record c.args.self.now { classes = c.mark.new.self }) (x ∷ []))) (sym c.in-Class.is)
    (on_ok_weaker c.mark.result (λ w. waits_class c.args.self.now (record c.args.self.now { classes = c.mark.new.self }) c.in-Class.number w refl refl refl refl) c.mark.ensures.from)

pub returns-in-Made-clause-from : goal.returns-in-Made-clause-from
returns-in-Made-clause-from c = subst (λ x. OnOk c.mark-in-Made.result (WaitsAmong c.args.self.now (record c.args.self.now { made = c.mark-in-Made.new.self }) (x ∷ []))) (sym c.in-Made.is)
    (on_ok_weaker c.mark-in-Made.result (λ w. waits_made c.args.self.now (record c.args.self.now { made = c.mark-in-Made.new.self }) c.in-Made.number w refl refl refl refl) c.mark-in-Made.ensures.from)

pub returns-in-Field-clause-from : goal.returns-in-Field-clause-from
returns-in-Field-clause-from c = subst (λ x. OnOk c.mark-in-Field.result (WaitsAmong c.args.self.now (record c.args.self.now { fields = c.mark-in-Field.new.self }) (x ∷ []))) (sym c.in-Field.is)
    (on_ok_weaker c.mark-in-Field.result (λ w. waits_field c.args.self.now (record c.args.self.now { fields = c.mark-in-Field.new.self }) c.in-Field.number w refl refl refl refl) c.mark-in-Field.ensures.from)

pub returns-in-Method-clause-from : goal.returns-in-Method-clause-from
returns-in-Method-clause-from c = subst (λ x. OnOk c.mark-in-Method.result (WaitsAmong c.args.self.now (record c.args.self.now { methods = c.mark-in-Method.new.self }) (x ∷ []))) (sym c.in-Method.is)
    (on_ok_weaker c.mark-in-Method.result (λ w. waits_method c.args.self.now (record c.args.self.now { methods = c.mark-in-Method.new.self }) c.in-Method.number w refl refl refl refl) c.mark-in-Method.ensures.from)

pub returns-in-Called-clause-from : goal.returns-in-Called-clause-from
returns-in-Called-clause-from c = subst (λ x. OnOk c.mark-in-Called.result (WaitsAmong c.args.self.now (record c.args.self.now { called = c.mark-in-Called.new.self }) (x ∷ []))) (sym c.in-Called.is)
    (on_ok_weaker c.mark-in-Called.result (λ w. waits_called c.args.self.now (record c.args.self.now { called = c.mark-in-Called.new.self }) c.in-Called.number w refl refl refl refl) c.mark-in-Called.ensures.from)
