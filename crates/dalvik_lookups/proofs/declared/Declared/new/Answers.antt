use Rattle.std.proofs.Common.{subst, map}
use Rattle.dalvik_lookups.specs.Declaring.{IsIndex, method_row, field_row}
use Rattle.dalvik_lookups.proofs.Short.{few_methods, few_fields}
use Rattle.dalvik_lookups.proofs.declared.Declared.new.Goals as goal

pub returns : goal.returns
returns c = λ w. record {
  protos = c.in_ok-protos.protos.items;
  spelled = c.in_ok-protos.ensures c.new-spellings.ensures;
  methods = subst (λ v. IsIndex (map (method_row c.args.program.now v c.in_ok-protos.protos.items) c.args.program.now.classes) c.in_ok-methods.methods) c.as_slice-strings.ensures.value
      (subst (λ v. IsIndex (map (method_row c.args.program.now c.as_slice-strings.result.now v) c.args.program.now.classes) c.in_ok-methods.methods) c.as_slice.ensures.value (c.in_ok-methods.ensures (few_methods c.args.program.now w)));
  fields = subst (λ v. IsIndex (map (field_row c.args.program.now v c.args.names.now.kinds.items) c.args.program.now.classes) c.in_ok-fields.fields) c.as_slice-strings.ensures.value
      (subst (λ v. IsIndex (map (field_row c.args.program.now c.as_slice-strings.result.now v) c.args.program.now.classes) c.in_ok-fields.fields) c.as_slice-2.ensures.value (c.in_ok-fields.ensures (few_fields c.args.program.now w)));
}
