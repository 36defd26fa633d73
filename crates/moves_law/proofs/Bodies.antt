-- What a pass on bodies leaves has as many methods with a receiver.
use Rattle.std.proofs.Common.{◌≡◌, Bool, true, false, List, [], ◌∷◌, Option, Some, None, refl, sym, ap, ◌∙◌, arith}
use Rattle.std.specs.Prelude.{◌&&◌, not, cond, count_by, is_some, nat_eq, sum_by, if◌then◌else◌}
use Rattle.std.proofs.lemmas.List.Sums.{sum_by-cons}
use Rattle.program_model.specs.MemberRules.{is_static}
use Rattle.program_model.specs.declared.body.Body.{Body}
use Rattle.program_model.specs.declared.pass.Changed.{Changed}
use Rattle.program_model.specs.declared.program.Class.{Class}
use Rattle.program_model.specs.declared.program.Method.{Method}
use Rattle.program_model.specs.declared.program.MethodAt.{MethodAt}
use Rattle.program_model.specs.declared.program.Program.{Program}
use Rattle.insn_regs.specs.Wides.{widths_of}
use Rattle.walk_marks.specs.Walks.{is_on}
use Rattle.pass_defs.specs.Thinned.{body_thinned}
use Rattle.body_edit.specs.declared.fate.Fate.{Fate}
use Rattle.body_edit.specs.Fates.{fates_of}
use Rattle.thin_pass.specs.Plans.{changed_in, lines_left, method_thinned, IsThinnedBy}
use Rattle.thin_pass.specs.Plans as thin
use Rattle.rewrite_pass.specs.declared.edit.Edit.{Edit}
use Rattle.rewrite_pass.specs.Plans.{code_edited, IsRewrittenBy}
use Rattle.rewrite_pass.specs.Plans as over
use Rattle.compact.specs.Renamed.{IsCompactedProgram}
use Rattle.compact.specs.Renamed as packed
use Rattle.copy_prop.specs.Propagated.{IsPropagatedProgram}
use Rattle.copy_prop.specs.Propagated as copied
use Rattle.staticise.specs.Left.{class_receivers, has_receiver_word, receivers_in}
use Rattle.moves_law.proofs.ReceiverSums.{each_sum, word_of}

-- ---- thinning

thinned_word : (fs : List Fate) (m : Method) → word_of (method_thinned fs m) ≡ word_of m
thinned_word fs m = by m.body refl
  where
    by : (o : Option Body) → m.body ≡ o
        → word_of (elim o as (λ x. Method) [ Some b ↦ record m { body = Some (body_thinned (fates_of fs) b); lines = lines_left fs m.lines } | None ↦ m ]) ≡ word_of m
    by (Some b) e = sym (ap (λ (x : Option Body). cond (is_some x && not (is_static m.flags)) 1 0) e)
    by None e = refl

thinned_by_word : (fs : List Fate) (m : Method) → word_of (thin.method_by fs m) ≡ word_of m
thinned_by_word fs m = by (nat_eq (changed_in fs) 0)
  where
    by : (b : Bool) → word_of (if b then m else method_thinned fs m) ≡ word_of m
    by true = refl
    by false = thinned_word fs m

thinned_words : (plan : List (List Fate)) (ms : List Method) → count_by has_receiver_word (thin.methods_by plan ms) ≡ count_by has_receiver_word ms
thinned_words [] ms = refl
thinned_words (fs ∷ plan) [] = refl
thinned_words (fs ∷ plan) (m ∷ ms) =
    let one = thinned_by_word fs m in
    let rest = thinned_words plan ms in
    omega (arith, one, rest, sum_by-cons word_of (thin.method_by fs m) (thin.methods_by plan ms), sum_by-cons word_of m ms)

thinned_classes : (plan : List (List (List Fate))) (cs : List Class) → sum_by class_receivers (thin.classes_by plan cs) ≡ sum_by class_receivers cs
thinned_classes [] cs = refl
thinned_classes (ps ∷ plan) [] = refl
thinned_classes (ps ∷ plan) (c ∷ cs) =
    let one = thinned_words ps c.methods in
    let rest = thinned_classes plan cs in
    omega (arith, one, rest, sum_by-cons class_receivers (thin.class_by ps c) (thin.classes_by plan cs), sum_by-cons class_receivers c cs)

pub thinned_plan : (plan : List (List (List Fate))) (p : Program) → receivers_in (thin.program_by plan p) ≡ receivers_in p
thinned_plan plan p = thinned_classes plan p.classes

pub thinned_receivers : (wishes : Body → List Fate → Type 0) (admitted : List Bool) (p : Program) (c : Changed) → IsThinnedBy wishes admitted p c → receivers_in c.program ≡ receivers_in p
thinned_receivers wishes admitted p c h = ap receivers_in h.program ∙ thinned_plan h.plan p

-- ---- instructions that are written over

coded : (es : List Edit) (o : Option Body) → is_some (code_edited es o) ≡ is_some o
coded es None = refl
coded es (Some b) = refl

written_word : (es : List Edit) (m : Method) → word_of (over.method_by es m) ≡ word_of m
written_word [] m = refl
written_word (e ∷ es) m = ap (λ b. cond (b && not (is_static m.flags)) 1 0) (coded (e ∷ es) m.body)

written_words : (plan : List (List Edit)) (ms : List Method) → count_by has_receiver_word (over.methods_by plan ms) ≡ count_by has_receiver_word ms
written_words [] ms = refl
written_words (es ∷ plan) [] = refl
written_words (es ∷ plan) (m ∷ ms) =
    let one = written_word es m in
    let rest = written_words plan ms in
    omega (arith, one, rest, sum_by-cons word_of (over.method_by es m) (over.methods_by plan ms), sum_by-cons word_of m ms)

written_classes : (plan : List (List (List Edit))) (cs : List Class) → sum_by class_receivers (over.classes_by plan cs) ≡ sum_by class_receivers cs
written_classes [] cs = refl
written_classes (ps ∷ plan) [] = refl
written_classes (ps ∷ plan) (c ∷ cs) =
    let one = written_words ps c.methods in
    let rest = written_classes plan cs in
    omega (arith, one, rest, sum_by-cons class_receivers (over.class_by ps c) (over.classes_by plan cs), sum_by-cons class_receivers c cs)

pub written_plan : (plan : List (List (List Edit))) (p : Program) → receivers_in (over.program_by plan p) ≡ receivers_in p
written_plan plan p = written_classes plan p.classes

pub written_receivers : (writes : MethodAt → Method → Body → List Edit → Type 0) (admitted : List Bool) (p : Program) (c : Changed) → IsRewrittenBy writes admitted p c → receivers_in c.program ≡ receivers_in p
written_receivers writes admitted p c h = ap receivers_in h.written.program ∙ written_plan h.plan p

-- ---- other registers

-- a method that is the same but for its body, and has one where it had one
same_word : (m n : Method) → n ≡ record m { body = n.body } → is_some n.body ≡ is_some m.body → word_of n ≡ word_of m
same_word m n rest code = ap (λ b. cond (b && not (is_static n.flags)) 1 0) code ∙ ap (λ (z : Method). cond (is_some m.body && not (is_static z.flags)) 1 0) rest

module _ (w : List (List Bool)) (admitted : List Bool) where
  compacted_code : (t : Bool) (a o : Option Body) → packed.RewritesBody w t a o → is_some o ≡ is_some a
  compacted_code true (Some b) (Some d) r = refl
  compacted_code true (Some b) None r = absurd r
  compacted_code true None o r = ap is_some r
  compacted_code false (Some b) o r = ap is_some r
  compacted_code false None o r = ap is_some r

  compacted_word : (m n : Method) → packed.IsCompactedMethod w admitted m n → word_of n ≡ word_of m
  compacted_word m n h = same_word m n h.rest (compacted_code (is_on admitted m.name) m.body n.body h.body)

  compacted_class : (c d : Class) → packed.IsCompactedClass w admitted c d → class_receivers d ≡ class_receivers c
  compacted_class c d h = each_sum (packed.IsCompactedMethod w admitted) word_of compacted_word c.methods d.methods h.methods.long h.methods.each

  propagated_code : (t : Bool) (a o : Option Body) → copied.RewritesBody w t a o → is_some o ≡ is_some a
  propagated_code true (Some b) (Some d) r = refl
  propagated_code true (Some b) None r = absurd r
  propagated_code true None o r = ap is_some r
  propagated_code false (Some b) o r = ap is_some r
  propagated_code false None o r = ap is_some r

  propagated_word : (m n : Method) → copied.IsPropagatedMethod w admitted m n → word_of n ≡ word_of m
  propagated_word m n h = same_word m n h.rest (propagated_code (is_on admitted m.name) m.body n.body h.body)

  propagated_class : (c d : Class) → copied.IsPropagatedClass w admitted c d → class_receivers d ≡ class_receivers c
  propagated_class c d h = each_sum (copied.IsPropagatedMethod w admitted) word_of propagated_word c.methods d.methods h.methods.long h.methods.each

pub compacted_receivers : (admitted : List Bool) (p q : Program) → IsCompactedProgram admitted p q → receivers_in q ≡ receivers_in p
compacted_receivers admitted p q h = each_sum (packed.IsCompactedClass (widths_of p) admitted) class_receivers (compacted_class (widths_of p) admitted) p.classes q.classes h.classes.long h.classes.each

pub propagated_receivers : (admitted : List Bool) (p q : Program) → IsPropagatedProgram admitted p q → receivers_in q ≡ receivers_in p
propagated_receivers admitted p q h = each_sum (copied.IsPropagatedClass (widths_of p) admitted) class_receivers (propagated_class (widths_of p) admitted) p.classes q.classes h.classes.long h.classes.each
