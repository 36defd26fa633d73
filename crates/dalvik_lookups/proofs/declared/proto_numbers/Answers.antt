use Rattle.std.proofs.Common.{◌≡◌, Some, get_or, ap, subst, ◌∙◌}
use Rattle.std.specs.Prelude.{slice_get}
use Rattle.program_model.specs.declared.pools.Proto.{Proto}
use Rattle.dalvik_defs.specs.Names.{proto_text}
use Rattle.dalvik_lookups.specs.Spelling.{signature_of}
use Rattle.dalvik_lookups.proofs.Making.{got}
use Rattle.dalvik_lookups.proofs.Declaring.{protos_none, protos_more, proto_here}
use Rattle.dalvik_lookups.proofs.declared.proto_numbers.Goals as goal

pub loop-proto-init : goal.loop-proto-init
loop-proto-init c = record { made = λ k. protos_none c.args.program.now c.args.spellings.now c.new-protos.result.items k c.new-protos.ensures.items }

pub loop-proto-preserved : goal.loop-proto-preserved
loop-proto-preserved c = record {
  made = λ k. let m = c.loop-proto.invariant.made k in
      let q : Proto = get_or c.as_slice-proto-items.result.now c.loop-proto.proto-index c.proto-item.result in
      protos_more c.args.program.now c.loop-proto.spellings c.add.new.self c.loop-proto.protos.items c.push.new.self.items c.loop-proto.proto-index c.in_ok-spelling.field-0.items c.in_ok-add.field-0 m (c.in_ok-add.ensures m.once)
      (proto_here c.args.program.now c.loop-proto.proto-index q c.in_ok-spelling.field-0.items
      (subst (λ xs. slice_get xs c.loop-proto.proto-index ≡ Some q) c.as_slice-proto-items.ensures (got c.as_slice-proto-items.result.now c.loop-proto.proto-index c.proto-item.result c.loop-proto-test.true))
      (c.in_ok-spelling.ensures ∙ ap (λ x. proto_text (signature_of c.args.program.now x)) c.proto-item.is)) c.in_ok-push.ensures.items;
}
