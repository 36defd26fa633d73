use Rattle.std.proofs.Common.{◌≡◌, ◌∙◌, Some, sym, ap, subst}
use Rattle.std.specs.Option.{option_copied}
use Rattle.std.specs.Prelude.{IfOk, slice_get}
use Rattle.std.specs.List.{filter_map}
use Rattle.program_model.specs.declared.program.Method.{Method}
use Rattle.class_defs.specs.Members.{own_virtual}
use Rattle.hierarchy.proofs.Overriding.{method_class}
use Rattle.hierarchy.proofs.build.Hierarchy.overriders.Goals as goal

pub returns-clause-are : goal.returns-clause-are
returns-clause-are c = λ m q r at name.
    let there : Some c.in-Some.defined.now ≡ Some m = sym (ap option_copied c.in-Some.is) ∙ c.method_at.ensures ∙ at in
    let same : c.in-Some.defined.now ≡ m = cc in
    let entry = ap (λ (d : Method). slice_get c.args.program.now.methods d.name) same ∙ name in
    let key = c.key_of_method-key.ensures.is c.args.program.now q entry in
    let below = c.as_slice.ensures.value ∙ c.in_ok-below.ensures c.args.program.now r (method_class c.args.program.now c.args.method m at) in
    subst (λ l. IfOk c.virtual_among.result (λ found. found.items ≡ filter_map (own_virtual c.args.program.now q.name q.proto) l)) below (c.virtual_among.ensures q.name q.proto r.of key)
