use Rattle.std.proofs.Common.{sym, ap, ◌∙◌}
use Rattle.std.specs.Prelude.{option_and_then}
use Rattle.std.specs.Option.{option_map}
use Rattle.dalvik_lookups.specs.Declaring.{method_of, method_place}
use Rattle.dalvik_lookups.proofs.Declaring.{class_named_in}
use Rattle.dalvik_lookups.proofs.declared.Declared.method.Goals as goal

pub returns-in-Some : goal.returns-in-Some
returns-in-Some c = λ p t n w h d k x.
    c.method_of.ensures ∙ ap (option_map (method_of c.in-Some.class)) (c.method_in.ensures p c.args.names.now n w h d x)
    ∙ ap (option_and_then (λ s. option_map (method_of s) (method_place p s n c.args.proto.now))) (sym c.in-Some.is ∙ class_named_in p w c.args.names.now h c.args.kind t c.as_slice.result.now c.class_in.result k c.as_slice.ensures.value c.class_in.ensures)

pub returns-in-None : goal.returns-in-None
returns-in-None c = λ p t n w h d k x.
    ap (option_and_then (λ s. option_map (method_of s) (method_place p s n c.args.proto.now))) (sym c.in-None.is ∙ class_named_in p w c.args.names.now h c.args.kind t c.as_slice.result.now c.class_in.result k c.as_slice.ensures.value c.class_in.ensures)
