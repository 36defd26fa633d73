use Rattle.std.proofs.Common.{◌≡◌, ℕ, List, ◌++◌, Option, Some, None, true≢false, sym, ap, ◌∙◌}
use Rattle.std.specs.Prelude.{is_some}
use Rattle.std.proofs.lemmas.List.{append_assoc}
use Rattle.program_model.specs.Lookups.{method_or}
use Rattle.program_model.specs.declared.program.Class.{Class}
use Rattle.program_model.specs.declared.program.MethodAt.{MethodAt}
use Rattle.program_model.specs.declared.program.Program.{Program}
use Rattle.class_defs.specs.Starts.{initialiser_place}
use Rattle.call_graph.specs.declared.facts.Fact.{Fact}
use Rattle.call_graph.specs.Follows.{found_facts, defaults_of, starts_of}
use Rattle.call_graph.proofs.follow.add_start.Goals as goal

-- what the method that is found brings
started : (p : Program) (c : Class) (class : ℕ) (o : Option ℕ) (at : MethodAt) → method_or class o None ≡ Some at → starts_of p c class o ≡ found_facts p (Some at) ++ defaults_of p c
started p c class None at e = absurd (true≢false (sym (ap is_some e)))
started p c class (Some place) at e = ap (λ (found : Option MethodAt). found_facts p found ++ defaults_of p c) e

pub returns-in_ok-add_defaults-in-Some : goal.returns-in_ok-add_defaults-in-Some
returns-in_ok-add_defaults-in-Some c = λ r.
    let p = c.args.at.now.program.now in
    c.in_ok-add_defaults-in-Some.ensures r
    ∙ ap (λ (facts : List Fact). facts ++ defaults_of p c.args.class.now) c.in_ok-add_place-in-Some.ensures
    ∙ append_assoc c.args.out.now.items (found_facts p (Some c.in-Some.method)) (defaults_of p c.args.class.now)
    ∙ ap (λ (facts : List Fact). c.args.out.now.items ++ facts) (sym (started p c.args.class.now c.args.place (initialiser_place p c.args.place) c.in-Some.method (sym (c.initialiser_of.ensures p r) ∙ c.in-Some.is)))
