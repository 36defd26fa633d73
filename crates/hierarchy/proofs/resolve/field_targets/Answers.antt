use Rattle.std.proofs.Common.{◌≡◌, ◌∙◌, Some, get_or, length, refl, ap, sym, arith}
use Rattle.std.specs.Prelude.{slice_get}
use Rattle.std.proofs.lemmas.List.{get_or_default}
use Rattle.program_model.specs.declared.pools.FieldName.{FieldName}
use Rattle.class_defs.specs.Finding.{field_by}
use Rattle.hierarchy.proofs.Indexed.{AtPlace, at_items, mapped_more}
use Rattle.hierarchy.proofs.resolve.field_targets.Goals as goal

pub loop-number-preserved : goal.loop-number-preserved
loop-number-preserved c = record {
  fair = λ f. c.in_ok-field_target.ensures.fair (c.loop-number.invariant.fair f);
  size = c.in_ok-field_target.ensures.size ∙ c.loop-number.invariant.size;
  made = λ p is same fair size.
      let x : FieldName = get_or c.args.fields.now c.loop-number.number (record { class = 0; kind = 0; name = 0 }) in
      let default = get_or_default c.args.fields.now c.loop-number.number (record { class = 0; kind = 0; name = 0 }) x c.loop-number-test.true in
      let at : AtPlace c.args.fields.now c.loop-number.number x = at_items c.args.fields.now c.loop-number.number x default c.loop-number-test.true in
      let small = is.named.field_keys.small in
      let long : length c.args.fields.now ≡ length p.fields = ap length same in
      let word_is : c.word.result ≡ c.loop-number.number = c.word.ensures (omega (arith, at.short, long, small)) in
      let got : slice_get p.fields c.word.result ≡ Some x = ap (slice_get p.fields) word_is ∙ ap (λ l. slice_get l c.loop-number.number) (sym same) ∙ at.got in
      mapped_more (λ f. field_by p (Some f)) c.args.fields.now c.args.fields.now c.loop-number.number x c.loop-number.targets.items c.push.new.self.items c.in_ok-field_target.field-0 refl default c.loop-number-test.true c.in_ok-push.ensures.items
      (c.in_ok-field_target.ensures.is p is got (c.loop-number.invariant.fair fair) (c.loop-number.invariant.size ∙ size)) (c.loop-number.invariant.made p is same fair size);
}
