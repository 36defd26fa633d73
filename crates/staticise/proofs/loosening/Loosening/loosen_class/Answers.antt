use Rattle.std.proofs.Common.{◌≡◌, ◌∙◌, map, rules, subst, sym, true}
use Rattle.std.proofs.lemmas.List.{length-map, take_at}
use Rattle.std.proofs.lemmas.List.Sorted.{length_permutation}
use Rattle.std.specs.List.{list_all}
use Rattle.std.specs.List.Sorted.{IsPermutation}
use Rattle.program_model.specs.MemberRules.{methods_in_order}
use Rattle.program_model.specs.Neighbours.{neighbours}
use Rattle.staticise.specs.Loosened.{method_loosened}
use Rattle.staticise.specs.Ordering.{AreOwn}
use Rattle.staticise.proofs.loosening.Loosening.loosen_class.Goals as goal

pub returns : goal.returns
returns c = λ p t o own.
    let old : c.as_mut_slice.result.now ≡ c.args.class.now.methods = search rules in
    let made : IsPermutation (map (method_loosened p c.args.self.now.given.now) c.as_mut_slice.result.now) c.loosen_all.new.methods = c.in_ok-loosen_all.ensures.permutation p t in
    let long = length_permutation (map (method_loosened p c.args.self.now.given.now) c.as_mut_slice.result.now) c.loosen_all.new.methods made
    ∙ (length-map c.as_mut_slice.result.now (method_loosened p c.args.self.now.given.now) ∙ c.as_mut_slice.ensures.len) in
    record {
      rest = search rules;
      methods = subst (λ l. IsPermutation (map (method_loosened p c.args.self.now.given.now) c.args.class.now.methods) l) (sym (take_at c.loosen_all.new.methods _ _ long))
          (subst (λ l. IsPermutation (map (method_loosened p c.args.self.now.given.now) l) c.loosen_all.new.methods) old made);
      ordered = subst (λ l. list_all (methods_in_order p) (neighbours l) ≡ true) (sym (take_at c.loosen_all.new.methods _ _ long)) (c.in_ok-loosen_all.ensures.ordered p t o (subst AreOwn (sym old) own)).is;
    }
