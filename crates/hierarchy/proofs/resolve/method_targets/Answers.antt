use Rattle.std.proofs.Common.{◌≡◌, ◌∙◌, Some, get_or, length, refl, ap, sym, arith}
use Rattle.std.specs.Prelude.{slice_get}
use Rattle.std.proofs.lemmas.List.{get_or_default}
use Rattle.program_model.specs.declared.pools.MethodName.{MethodName}
use Rattle.hierarchy.specs.Walking.{method_by}
use Rattle.hierarchy.proofs.Indexed.{AtPlace, at_items, mapped_more}
use Rattle.hierarchy.proofs.resolve.method_targets.Goals as goal

pub loop-number-preserved : goal.loop-number-preserved
loop-number-preserved c = record {
  fair = λ f. c.in_ok-method_target.ensures.fair (c.loop-number.invariant.fair f);
  size = c.in_ok-method_target.ensures.size ∙ c.loop-number.invariant.size;
  made = λ p is same fair size.
      let x : MethodName = get_or c.args.methods.now c.loop-number.number (record { class = 0; proto = 0; name = 0 }) in
      let default = get_or_default c.args.methods.now c.loop-number.number (record { class = 0; proto = 0; name = 0 }) x c.loop-number-test.true in
      let at : AtPlace c.args.methods.now c.loop-number.number x = at_items c.args.methods.now c.loop-number.number x default c.loop-number-test.true in
      let small = is.named.method_keys.small in
      let long : length c.args.methods.now ≡ length p.methods = ap length same in
      let word_is : c.word.result ≡ c.loop-number.number = c.word.ensures (omega (arith, at.short, long, small)) in
      let got : slice_get p.methods c.word.result ≡ Some x = ap (slice_get p.methods) word_is ∙ ap (λ l. slice_get l c.loop-number.number) (sym same) ∙ at.got in
      mapped_more (method_by p) c.args.methods.now c.args.methods.now c.loop-number.number x c.loop-number.targets.items c.push.new.self.items c.in_ok-method_target.field-0 refl default c.loop-number-test.true c.in_ok-push.ensures.items
      (c.in_ok-method_target.ensures.is p is got (c.loop-number.invariant.fair fair) (c.loop-number.invariant.size ∙ size)) (c.loop-number.invariant.made p is same fair size);
}
