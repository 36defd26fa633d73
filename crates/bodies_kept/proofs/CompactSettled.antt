-- Where compaction leaves a program the same, the bodies of admitted methods are packed.
use Rattle.std.proofs.Common.{◌≡◌, ℕ, zero, suc, ◌<◌, Bool, true, List, [], ◌∷◌, length, Option, Some, None, Contains, refl, sym, ap, ◌∙◌, subst, subst₂, arith}
use Rattle.std.specs.Prelude.{slice_get, slice_index_or}
use Rattle.program_model.specs.declared.body.Body.{Body}
use Rattle.program_model.specs.declared.program.Method.{Method}
use Rattle.program_model.specs.declared.program.Class.{Class}
use Rattle.program_model.specs.declared.program.Program.{Program}
use Rattle.insn_regs.specs.Wides.{widths_of}
use Rattle.walk_marks.specs.Walks.{is_on}
use Rattle.compact.specs.Renamed.{AreEach, RewritesBody, IsCompacted, IsCompactedMethod, IsCompactedClass, IsCompactedProgram}
use Rattle.bodies_kept.proofs.Bodies.{settles_by_number}
use Rattle.bodies_kept.specs.CompactBridged.{AllPacked}

placed : {A : Type 0} (xs : List A) (x : A) (i : ℕ) → i < length xs → slice_index_or xs i x ≡ x → slice_get xs i ≡ Some x
placed [] x i lt e = absurd (omega (arith, lt))
placed (y ∷ ys) x zero lt e = ap Some e
placed (y ∷ ys) x (suc i) lt e = placed ys x i (omega (arith, lt)) e

-- what holds of a list beside itself holds of each item beside itself
each_self : {A : Type 0} (R : A → A → Type 0) (xs : List A) → AreEach R xs xs → (x : A) → Contains xs x → R x x
each_self {A} R xs a x i =
    let h : slice_get xs i.0 ≡ Some x = placed xs x i.0 i.1 i.2 in
    let u : (y : A) × (slice_get xs i.0 ≡ Some y) × R x y = a.each i.0 x h in
    let same : Some u.0 ≡ Some x = sym u.1 ∙ h in
    let is : u.0 ≡ x = cc in
    subst (λ y. R x y) is u.2

code_settled : (w : List (List Bool)) (b : Body) (t : Bool) (o : Option Body) → t ≡ true → o ≡ Some b → RewritesBody w t o o → IsCompacted w b b
code_settled w b t o e f r = subst (λ x. RewritesBody w true x x) f (subst (λ y. RewritesBody w y o o) e r)

pub program_settled : (admitted : List Bool) (p : Program) → IsCompactedProgram admitted p p → AllPacked admitted p
program_settled admitted p i c m b j k e f =
    let class : IsCompactedClass (widths_of p) admitted c c = each_self (IsCompactedClass (widths_of p) admitted) p.classes i.classes c j in
    let method : IsCompactedMethod (widths_of p) admitted m m = each_self (IsCompactedMethod (widths_of p) admitted) c.methods class.methods m k in
    settles_by_number p b b (code_settled (widths_of p) b (is_on admitted m.name) m.body e f method.body) refl
