use Rattle.std.proofs.Common.{arith, get_or}
use Rattle.std.proofs.lemmas.List.{get_or_default}
use Rattle.program_model.specs.declared.pools.FieldName.{FieldName}
use Rattle.hierarchy.specs.Membership.{field_pair}
use Rattle.hierarchy.proofs.Indexed.{at_items}
use Rattle.hierarchy.proofs.Keyed.{keyed_more, all_keyed}
use Rattle.hierarchy.proofs.keys.field_keys.Goals as goal

pub loop-field-preserved : goal.loop-field-preserved
loop-field-preserved c = record {
  long = omega (arith, c.loop-field.invariant.long, c.in_ok-push.ensures.len);
  keyed = λ small.
      let x : FieldName = get_or c.args.fields.now c.loop-field.field-index (record { class = 0; kind = 0; name = 0 }) in
      keyed_more field_pair c.args.fields.now c.loop-field.known.keys c.insert_full.new.self.keys c.loop-field.keys.items c.push.new.self.items c.loop-field.field-index c.in_ok-key.key c.word.result x small (at_items c.args.fields.now c.loop-field.field-index x (get_or_default c.args.fields.now c.loop-field.field-index (record { class = 0; kind = 0; name = 0 }) x c.loop-field-test.true) c.loop-field-test.true) (c.loop-field.invariant.keyed small) c.in_ok-key.ensures.keys c.in_ok-key.ensures.index c.word.ensures c.in_ok-push.ensures.items;
}

pub returns-clause-keys : goal.returns-clause-keys
returns-clause-keys c = λ small. all_keyed field_pair c.args.fields.now c.loop-field.known.keys c.loop-field.keys.items c.loop-field.field-index c.len-count.result small c.loop-field-test.false c.loop-field.auto.field-index-end c.len-count.ensures.len (c.loop-field.invariant.keyed small)
