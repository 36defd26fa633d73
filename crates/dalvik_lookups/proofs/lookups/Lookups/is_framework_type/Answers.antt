use Rattle.dalvik_defs.specs.Naming.{type_at}
use Rattle.dalvik_lookups.specs.Views.{type_text}
use Rattle.dalvik_lookups.proofs.Outward.{defined_type, outside_type}
use Rattle.dalvik_lookups.proofs.lookups.Lookups.is_framework_type.Goals as goal

pub returns-in-Some : goal.returns-in-Some
returns-in-Some c = λ r lt.
    let t = c.kind-named.ensures.is r.tabled.named lt in
    defined_type c.args.self.now.program.now (type_at c.args.self.now.program.now c.args.kind) (type_text c.args.self.now.types c.kind-named.result) c.class_at.result c.in-Some.field-0 (c.class_at.ensures r t.kind) t.text c.in-Some.is

pub returns-in-None : goal.returns-in-None
returns-in-None c = λ r lt.
    let t = c.kind-named.ensures.is r.tabled.named lt in
    outside_type c.args.self.now.program.now (type_at c.args.self.now.program.now c.args.kind) (type_text c.args.self.now.types c.kind-named.result) c.class_at.result c.is_object.result (c.class_at.ensures r t.kind) t.text c.in-None.is (c.is_object.ensures c.args.self.now.types r.tabled.named.types t.kind)
