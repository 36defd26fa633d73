use Rattle.std.proofs.Common.{arith, get_or}
use Rattle.std.proofs.lemmas.List.{get_or_default}
use Rattle.program_model.specs.declared.pools.MethodName.{MethodName}
use Rattle.hierarchy.specs.Membership.{method_pair}
use Rattle.hierarchy.proofs.Indexed.{at_items}
use Rattle.hierarchy.proofs.Keyed.{keyed_more, all_keyed}
use Rattle.hierarchy.proofs.keys.method_keys.Goals as goal

pub loop-method-preserved : goal.loop-method-preserved
loop-method-preserved c = record {
  long = omega (arith, c.loop-method.invariant.long, c.in_ok-push.ensures.len);
  keyed = λ small.
      let x : MethodName = get_or c.args.methods.now c.loop-method.method-index (record { class = 0; proto = 0; name = 0 }) in
      keyed_more method_pair c.args.methods.now c.loop-method.known.keys c.insert_full.new.self.keys c.loop-method.keys.items c.push.new.self.items c.loop-method.method-index c.in_ok-key.key c.word.result x small (at_items c.args.methods.now c.loop-method.method-index x (get_or_default c.args.methods.now c.loop-method.method-index (record { class = 0; proto = 0; name = 0 }) x c.loop-method-test.true) c.loop-method-test.true) (c.loop-method.invariant.keyed small) c.in_ok-key.ensures.keys c.in_ok-key.ensures.index c.word.ensures c.in_ok-push.ensures.items;
}

pub returns-clause-keys : goal.returns-clause-keys
returns-clause-keys c = λ small. all_keyed method_pair c.args.methods.now c.loop-method.known.keys c.loop-method.keys.items c.loop-method.method-index c.len-count.result small c.loop-method-test.false c.loop-method.auto.method-index-end c.len-count.ensures.len (c.loop-method.invariant.keyed small)
