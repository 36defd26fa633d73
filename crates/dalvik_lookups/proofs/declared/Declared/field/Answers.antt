use Rattle.std.proofs.Common.{ℕ, sym, ap, ◌∙◌}
use Rattle.std.specs.Prelude.{option_and_then}
use Rattle.std.specs.Option.{option_map}
use Rattle.dalvik_lookups.specs.Declaring.{field_place}
use Rattle.dalvik_lookups.proofs.Declaring.{class_named_in}
use Rattle.dalvik_lookups.proofs.declared.Declared.field.Goals as goal

pub returns-in-Some : goal.returns-in-Some
returns-in-Some c = λ p t n k w h d o x y.
    c.field_of.ensures ∙ ap (option_map (λ (m : ℕ). (c.in-Some.class, m))) (c.field_in.ensures p c.args.names.now n k w h d x y)
    ∙ ap (option_and_then (λ s. option_map (λ (m : ℕ). (s, m)) (field_place p s n k))) (sym c.in-Some.is ∙ class_named_in p w c.args.names.now h c.args.kind t c.as_slice.result.now c.class_in.result o c.as_slice.ensures.value c.class_in.ensures)

pub returns-in-None : goal.returns-in-None
returns-in-None c = λ p t n k w h d o x y.
    ap (option_and_then (λ s. option_map (λ (m : ℕ). (s, m)) (field_place p s n k))) (sym c.in-None.is ∙ class_named_in p w c.args.names.now h c.args.kind t c.as_slice.result.now c.class_in.result o c.as_slice.ensures.value c.class_in.ensures)
