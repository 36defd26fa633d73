-- No pass makes a program more.
use Rattle.std.proofs.Common.{◌≡◌, suc, ◌+◌, ◌<◌, ◌≤◌, Bool, List, [], ◌∷◌, map, min, length, refl, sym, ap, subst, ◌∙◌, arith}
use Rattle.std.specs.Prelude.{All}
use Rattle.std.specs.List.{sum_by}
use Rattle.std.proofs.lemmas.List.Sums.{sum_by-cons}
use Rattle.program_model.specs.declared.body.Body.{Body}
use Rattle.program_model.specs.declared.pass.Changed.{Changed}
use Rattle.program_model.specs.declared.pass.Outside.{Outside}
use Rattle.program_model.specs.declared.program.Class.{Class}
use Rattle.program_model.specs.declared.program.Method.{Method}
use Rattle.program_model.specs.declared.program.Program.{Program}
use Rattle.call_graph.specs.declared.live_set.LiveSet.{LiveSet}
use Rattle.reach.specs.Kept.{is_marked, kept_in, kept_of, live_classes, class_size, size_of}
use Rattle.reach.proofs.Sublists.{sum_left}
use Rattle.body_edit.specs.declared.fate.Fate.{Fate}
use Rattle.thin_pass.specs.Plans.{methods_by, class_by, classes_by, IsThinnedBy}
use Rattle.thin_pass.specs.Weights.{method_weight, class_weight, weight_of}
use Rattle.compact.specs.Renamed.{IsCompactedProgram}
use Rattle.program_model.specs.declared.program.MethodAt.{MethodAt}
use Rattle.rewrite_pass.specs.declared.edit.Edit.{Edit}
use Rattle.rewrite_pass.specs.Plans.{IsRewrittenBy}
use Rattle.rewrite_pass.specs.Plans as over
use Rattle.const_prop.specs.Folded.{IsFold}
use Rattle.copy_prop.specs.Propagated.{IsPropagatedProgram}
use Rattle.moves_law.proofs.NumbersCompacted.{compacted_size, compacted_weight}
use Rattle.moves_law.proofs.NumbersPropagated.{propagated_size, propagated_weight}
use Rattle.const_prop.specs.Measure.{open_forms}
use Rattle.devirt.specs.Measure.{calls_in}
use Rattle.devirt.specs.Rebound.{IsRecalledAt}
use Rattle.moves_law.proofs.CallsCompacted.{compacted_calls}
use Rattle.moves_law.proofs.CallsPropagated.{propagated_calls}
use Rattle.moves_law.proofs.Rebound.{rebound_size, rebound_weight, rebound_open}
use Rattle.moves_law.proofs.OpenCompacted.{compacted_open}
use Rattle.moves_law.proofs.Folded.{folded_size, folded_weight}
use Rattle.moves_law.proofs.OpenPropagated.{propagated_open}
use Rattle.facts.specs.declared.facts.Facts.{Facts}
use Rattle.staticise.specs.Left.{receivers_in}
use Rattle.staticise.specs.Loosened.{IsStaticisedBy}
use Rattle.moves_law.proofs.Bodies.{thinned_receivers, written_receivers, compacted_receivers, propagated_receivers}
use Rattle.moves_law.proofs.Made.{made_size, made_weight}
use Rattle.moves_law.proofs.ReceiversRemoved.{removed_receivers}
use Rattle.pipeline.specs.Changes.{bulk_of}

-- ---- removal

module _ (s : LiveSet) where
  class_no_heavier : (c : Class) → class_weight (kept_in s c) ≤ class_weight c
  class_no_heavier c = sum_left (λ m. is_marked s.methods.items m.name) method_weight c.methods

  classes_no_heavier : (cs : List Class) → sum_by class_weight (map (kept_in s) cs) ≤ sum_by class_weight cs
  classes_no_heavier [] = omega arith
  classes_no_heavier (c ∷ cs) = omega (arith, class_no_heavier c, classes_no_heavier cs, sum_by-cons class_weight (kept_in s c) (map (kept_in s) cs), sum_by-cons class_weight c cs)

  kept_no_heavier : (p : Program) → weight_of (kept_of s p) ≤ weight_of p
  kept_no_heavier p = omega (arith, classes_no_heavier (live_classes s p.classes), sum_left (λ c. is_marked s.classes.items c.name) class_weight p.classes)

  pub removal_less : (p q : Program) → q ≡ kept_of s p → size_of q < size_of p → bulk_of q < bulk_of p
  removal_less p q e less =
      let w : weight_of q ≤ weight_of p = subst (λ (x : Program). weight_of x ≤ weight_of p) (sym e) (kept_no_heavier p) in
      let r : receivers_in q ≤ receivers_in p = subst (λ (x : Program). receivers_in x ≤ receivers_in p) (sym e) (removed_receivers s p) in
      omega (arith, w, r, less)

-- ---- thinning

methods_long : (plan : List (List Fate)) (ms : List Method) → length (methods_by plan ms) ≡ length ms
methods_long [] ms = refl
methods_long (fs ∷ plan) [] = refl
methods_long (fs ∷ plan) (m ∷ ms) = ap suc (methods_long plan ms)

class_sized : (plan : List (List Fate)) (c : Class) → class_size (class_by plan c) ≡ class_size c
class_sized plan c = omega (arith, methods_long plan c.methods)

classes_sized : (plan : List (List (List Fate))) (cs : List Class) → sum_by class_size (classes_by plan cs) ≡ sum_by class_size cs
classes_sized [] cs = refl
classes_sized (ps ∷ plan) [] = refl
classes_sized (ps ∷ plan) (c ∷ cs) = omega (arith, class_sized ps c, classes_sized plan cs, sum_by-cons class_size (class_by ps c) (classes_by plan cs), sum_by-cons class_size c cs)

pub thinned_less : (wishes : Body → List Fate → Type 0) (admitted : List Bool) (p : Program) (c : Changed) → IsThinnedBy wishes admitted p c → weight_of c.program < weight_of p → bulk_of c.program < bulk_of p
thinned_less wishes admitted p c h less =
    let size : size_of c.program ≡ size_of p = ap size_of h.program ∙ classes_sized h.plan p.classes in
    let receivers : receivers_in c.program ≡ receivers_in p = thinned_receivers wishes admitted p c h in
    omega (arith, size, receivers, less)

-- ---- nops over instructions

written_long : (plan : List (List Edit)) (ms : List Method) → length (over.methods_by plan ms) ≡ length ms
written_long [] ms = refl
written_long (es ∷ plan) [] = refl
written_long (es ∷ plan) (m ∷ ms) = ap suc (written_long plan ms)

written_class : (plan : List (List Edit)) (c : Class) → class_size (over.class_by plan c) ≡ class_size c
written_class plan c = omega (arith, written_long plan c.methods)

written_classes : (plan : List (List (List Edit))) (cs : List Class) → sum_by class_size (over.classes_by plan cs) ≡ sum_by class_size cs
written_classes [] cs = refl
written_classes (ps ∷ plan) [] = refl
written_classes (ps ∷ plan) (c ∷ cs) = omega (arith, written_class ps c, written_classes plan cs, sum_by-cons class_size (over.class_by ps c) (over.classes_by plan cs), sum_by-cons class_size c cs)

pub written_less : (writes : MethodAt → Method → Body → List Edit → Type 0) (admitted : List Bool) (p : Program) (c : Changed) → IsRewrittenBy writes admitted p c → weight_of c.program < weight_of p → bulk_of c.program < bulk_of p
written_less writes admitted p c h less =
    let size : size_of c.program ≡ size_of p = ap size_of h.written.program ∙ written_classes h.plan p.classes in
    let receivers : receivers_in c.program ≡ receivers_in p = written_receivers writes admitted p c h in
    omega (arith, size, receivers, less)

-- ---- methods made static

pub loosened_less : (p : Program) (facts : Facts) (o : Outside) (admitted : List Bool) (c : Changed) → IsStaticisedBy p facts o admitted c → receivers_in c.program + min c.count 1 ≤ receivers_in p → 0 < c.count → bulk_of c.program < bulk_of p
loosened_less p facts o admitted c h falls some =
    let size : size_of c.program ≡ size_of p = made_size p facts o admitted c h in
    let weight : weight_of c.program ≡ weight_of p = made_weight p facts o admitted c h in
    omega (arith, size, weight, falls, some)

-- ---- compaction

pub compacted_same : (admitted : List Bool) (p q : Program) → IsCompactedProgram admitted p q → bulk_of q ≡ bulk_of p
compacted_same admitted p q h =
    let size : size_of q ≡ size_of p = compacted_size admitted p q h in
    let weight : weight_of q ≡ weight_of p = compacted_weight admitted p q h in
    let receivers : receivers_in q ≡ receivers_in p = compacted_receivers admitted p q h in
    omega (arith, size, weight, receivers)

-- ---- folding

pub folded_no_more : (admitted : List Bool) (p : Program) (c : Changed) → IsRewrittenBy (λ at m b es. All (IsFold b) es) admitted p c → bulk_of c.program ≤ bulk_of p
folded_no_more admitted p c r =
    let size : size_of c.program ≡ size_of p = folded_size admitted p c r in
    let weight : weight_of c.program ≤ weight_of p = folded_weight admitted p c r in
    let receivers : receivers_in c.program ≡ receivers_in p = written_receivers (λ at m b es. All (IsFold b) es) admitted p c r in
    omega (arith, size, weight, receivers)

-- ---- rebinding

pub rebound_same : (admitted : List Bool) (p : Program) (c : Changed) → IsRewrittenBy (λ at m b es. All (IsRecalledAt b) es) admitted p c → bulk_of c.program ≤ bulk_of p
rebound_same admitted p c r =
    let size : size_of c.program ≡ size_of p = rebound_size admitted p c r in
    let weight : weight_of c.program ≡ weight_of p = rebound_weight admitted p c r in
    let receivers : receivers_in c.program ≡ receivers_in p = written_receivers (λ at m b es. All (IsRecalledAt b) es) admitted p c r in
    omega (arith, size, weight, receivers)

pub rebound_plainer : (admitted : List Bool) (p : Program) (c : Changed) → IsRewrittenBy (λ at m b es. All (IsRecalledAt b) es) admitted p c → open_forms c.program ≤ open_forms p
rebound_plainer admitted p c r = omega (arith, rebound_open admitted p c r)

-- ---- propagation of copies

pub propagated_same : (admitted : List Bool) (p q : Program) → IsPropagatedProgram admitted p q → bulk_of q ≡ bulk_of p
propagated_same admitted p q h =
    let size : size_of q ≡ size_of p = propagated_size admitted p q h in
    let weight : weight_of q ≡ weight_of p = propagated_weight admitted p q h in
    let receivers : receivers_in q ≡ receivers_in p = propagated_receivers admitted p q h in
    omega (arith, size, weight, receivers)

-- ---- instructions that may be folded

pub propagated_plainer : (admitted : List Bool) (p q : Program) → IsPropagatedProgram admitted p q → open_forms q ≤ open_forms p
propagated_plainer admitted p q h = omega (arith, propagated_open admitted p q h)

pub compacted_plainer : (admitted : List Bool) (p q : Program) → IsCompactedProgram admitted p q → open_forms q ≤ open_forms p
compacted_plainer admitted p q h = omega (arith, compacted_open admitted p q h)

-- ---- calls

pub propagated_nearer : (admitted : List Bool) (p q : Program) → IsPropagatedProgram admitted p q → calls_in q ≤ calls_in p
propagated_nearer admitted p q h = omega (arith, propagated_calls admitted p q h)

pub compacted_nearer : (admitted : List Bool) (p q : Program) → IsCompactedProgram admitted p q → calls_in q ≤ calls_in p
compacted_nearer admitted p q h = omega (arith, compacted_calls admitted p q h)
