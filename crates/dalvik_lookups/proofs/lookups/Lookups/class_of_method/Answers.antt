use Rattle.std.proofs.Common.{ap, sym, subst, ◌∙◌}
use Rattle.std.specs.Option.{option_copied}
use Rattle.dalvik_lookups.specs.Views.{IsType}
use Rattle.dalvik_lookups.proofs.Placed.{method_class, method_class_is}
use Rattle.dalvik_lookups.proofs.lookups.Lookups.class_of_method.Goals as goal

pub returns-in-Some : goal.returns-in-Some
returns-in-Some c = λ r h.
    let found = sym c.method_name.ensures ∙ ap option_copied c.in-Some.is in
    subst (IsType c.args.self.now.types c.kind.result) (method_class_is c.args.self.now.program.now c.args.method c.in-Some.name.now found)
    (c.kind.ensures.is r.tabled.named (method_class c.args.self.now.program.now r.well c.args.method c.in-Some.name.now found))
