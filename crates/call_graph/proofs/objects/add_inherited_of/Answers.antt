use Rattle.std.proofs.Common.{◌≡◌, ◌∙◌, ℕ, Some, sym, ap, subst}
use Rattle.std.specs.Prelude.{slice_get, Contains}
use Rattle.program_model.specs.declared.program.Class.{Class}
use Rattle.call_graph.specs.Least.{Inherited, InheritedFrom}
use Rattle.call_graph.specs.Objects.{Inherits}
use Rattle.call_graph.proofs.Reaching.{adds_as, all_named}
use Rattle.call_graph.proofs.objects.add_inherited_of.Goals as goal

same_place : (x y : ℕ) → Some x ≡ Some y → x ≡ y
same_place x y e = cc

same_class : (x y : Class) → Some x ≡ Some y → x ≡ y
same_class x y e = cc

pub returns-in_ok-add_inherited_all-in-Some-class_at-clause-inherits : goal.returns-in_ok-add_inherited_all-in-Some-class_at-clause-inherits
returns-in_ok-add_inherited_all-in-Some-class_at-clause-inherits c = λ is above k place e.
    let a : c.in-Some.above ≡ above = same_place c.in-Some.above above (c.in-Some.ensures.is c.args.at.now.program.now is.of ∙ place) in
    let d : c.in-Some-class_at.defined.now ≡ k = same_class c.in-Some-class_at.defined.now k (c.in-Some-class_at.ensures ∙ ap (slice_get c.args.at.now.program.now.classes) a ∙ e) in
    subst (λ n. Inherits c.args.at.now.program.now c.args.shut.now c.args.class n k.methods c.add_inherited_all.new.out.items) a
    (subst (λ ms. Inherits c.args.at.now.program.now c.args.shut.now c.args.class c.in-Some.above ms c.add_inherited_all.new.out.items) (c.as_slice.ensures ∙ ap (λ x. x.methods) d) (c.in_ok-add_inherited_all-in-Some-class_at.ensures.inherits is))

pub returns-in_ok-add_inherited_all-in-Some-class_at-clause-only : goal.returns-in_ok-add_inherited_all-in-Some-class_at-clause-only
returns-in_ok-add_inherited_all-in-Some-class_at-clause-only c = λ is formed.
    let p = c.args.at.now.program.now in
    let defined : slice_get p.classes c.in-Some.above ≡ Some c.in-Some-class_at.defined.now = sym c.in-Some-class_at.ensures in
    let same : c.as_slice.result.now ≡ c.in-Some-class_at.defined.now.methods = c.as_slice.ensures in
    adds_as (InheritedFrom p c.args.shut.now c.args.class c.in-Some.above c.as_slice.result.now) (Inherited p c.args.shut.now c.args.class c.args.kind) c.args.out.now.items c.add_inherited_all.new.out.items (λ y f. record {
      above = c.in-Some.above;
      defined = c.in-Some-class_at.defined.now;
      place = sym (c.in-Some.ensures.is p is.of);
      is_class = defined;
      from = subst (λ ms. InheritedFrom p c.args.shut.now c.args.class c.in-Some.above ms y) same f;
    }) (c.in_ok-add_inherited_all-in-Some-class_at.ensures.only is (λ m i. all_named p c.in-Some.above c.in-Some-class_at.defined.now formed defined m (subst (λ ms. Contains ms m) same i)))
