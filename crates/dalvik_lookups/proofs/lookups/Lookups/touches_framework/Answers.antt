use Rattle.std.proofs.Common.{◌≡◌, true, ◌∙◌, ap, sym, subst, map}
use Rattle.std.specs.Option.{option_copied}
use Rattle.std.specs.List.{list_any, list_all}
use Rattle.program_model.specs.Texts.{has_type}
use Rattle.class_defs.proofs.WellFormed.{sound, class_parts}
use Rattle.dalvik_defs.specs.Naming.{type_at, named}
use Rattle.dalvik_lookups.specs.Reached.{is_framework_type}
use Rattle.dalvik_lookups.proofs.Outward.{touch_first, touch_rest}
use Rattle.dalvik_lookups.proofs.lookups.Lookups.touches_framework.Goals as goal

pub returns-then-is_framework_type : goal.returns-then-is_framework_type
returns-then-is_framework_type c = λ r.
    let e = sym c.class.ensures ∙ ap option_copied c.in-Some.is in
    touch_first c.args.self.now.program.now c.args.class c.in-Some.defined.now c.is_framework_type.result e
    (c.is_framework_type.ensures r (class_parts c.args.self.now.program.now (sound c.args.self.now.program.now r.well) c.args.class c.in-Some.defined.now e).superclass) c.if-is_framework_type.true

pub returns-else-is_framework_type : goal.returns-else-is_framework_type
returns-else-is_framework_type c = λ r.
    let e = sym c.class.ensures ∙ ap option_copied c.in-Some.is in
    let parts = class_parts c.args.self.now.program.now (sound c.args.self.now.program.now r.well) c.args.class c.in-Some.defined.now e in
    touch_rest c.args.self.now.program.now c.args.class c.in-Some.defined.now c.is_framework_type.result c.lists_framework_type.result e (c.is_framework_type.ensures r parts.superclass) c.if-is_framework_type.false
    (c.lists_framework_type.ensures r (subst (λ v. list_all (has_type c.args.self.now.program.now) v ≡ true) (sym c.as_slice.ensures) parts.interfaces)
    ∙ ap (λ v. list_any (is_framework_type (named c.args.self.now.program.now)) (map (type_at c.args.self.now.program.now) v)) c.as_slice.ensures)
