use Rattle.std.proofs.Common.{◌≡◌, ◌∙◌, List, true, inl, inr, Some, sym, ap, subst, arith, length, get_or}
use Rattle.std.specs.Prelude.{slice_get, Contains}
use Rattle.program_model.specs.declared.pools.MethodName.{MethodName}
use Rattle.class_defs.specs.Members.{is_common}
use Rattle.hierarchy.specs.Membership.{key_at}
use Rattle.call_graph.proofs.Contained.{got_item, got_short, below_or, none_in}
use Rattle.call_graph.proofs.tables.keys_of_object.Goals as goal

same_name : (x y : MethodName) → Some x ≡ Some y → x ≡ y
same_name x y e = cc

pub loop-number-init : goal.loop-number-init
loop-number-init c = record {
  has = λ fits is n q lt e common. absurd (omega (arith, lt));
  only = λ fits is key i. absurd (none_in key (subst (λ l. Contains l key) c.new-keys.ensures.items i));
}

pub loop-number-preserved : goal.loop-number-preserved
loop-number-preserved c = record {
  has = λ fits is n q lt e common.
      let slice : List MethodName = c.as_slice-name-items.result.now in
      let x : MethodName = get_or slice c.loop-number.number (record { class = 0; proto = 0; name = 0 }) in
      let small = is.of.named.method_keys.small in
      let long = ap length c.as_slice-name-items.ensures in
      let word : c.word.result ≡ c.loop-number.number = c.word.ensures (omega (arith, c.loop-number-test.true, long, small)) in
      elim (below_or n c.loop-number.number lt) [
        | inl less ↦ c.in_ok-add_key.ensures.keeps (key_at c.args.hierarchy.now.named.method_keys.keys.items n) (c.loop-number.invariant.has fits is n q less e common)
        | inr same ↦
            let got : slice_get c.args.program.now.methods c.loop-number.number ≡ Some x = subst (λ l. slice_get l c.loop-number.number ≡ Some x) c.as_slice-name-items.ensures (got_item slice c.loop-number.number (record { class = 0; proto = 0; name = 0 }) c.loop-number-test.true) in
            let name : x ≡ q = same_name x q (sym got ∙ ap (slice_get c.args.program.now.methods) (sym same) ∙ e) in
            subst (λ k. Contains c.add_key.new.keys.items (key_at c.args.hierarchy.now.named.method_keys.keys.items k)) (word ∙ sym same)
            (c.in_ok-add_key.ensures.has (subst (λ m. is_common c.args.program.now m.name m.proto ≡ true) (sym name) common))
      ];
  only = λ fits is.
      let slice : List MethodName = c.as_slice-name-items.result.now in
      let x : MethodName = get_or slice c.loop-number.number (record { class = 0; proto = 0; name = 0 }) in
      let small = is.of.named.method_keys.small in
      let long = ap length c.as_slice-name-items.ensures in
      let word : c.word.result ≡ c.loop-number.number = c.word.ensures (omega (arith, c.loop-number-test.true, long, small)) in
      let got : slice_get c.args.program.now.methods c.loop-number.number ≡ Some x = subst (λ l. slice_get l c.loop-number.number ≡ Some x) c.as_slice-name-items.ensures (got_item slice c.loop-number.number (record { class = 0; proto = 0; name = 0 }) c.loop-number-test.true) in
      c.in_ok-add_key.ensures.only (subst (λ n. slice_get c.args.program.now.methods n ≡ Some x) (sym word) got) (c.loop-number.invariant.only fits is);
}

pub returns-clause-has : goal.returns-clause-has
returns-clause-has c = λ fits is n q e common. c.loop-number.invariant.has fits is n q (let s = got_short c.args.program.now.methods n q e in let l = ap length c.as_slice-name-items.ensures in omega (arith, s, l, c.loop-number-test.false)) e common
