-- A compacted program shows the same.
use Rattle.std.proofs.Common.{◌≡◌, inl, inr, ℕ, suc, Bool, true, false, List, [], ◌∷◌, length, Option, Some, None, Contains, refl, sym, ap, ◌∙◌, subst, arith}
use Rattle.std.specs.Prelude.{is_some, slice_get}
use Rattle.std.specs.Option.{option_map}
use Rattle.program_model.specs.ProgramRules.{is_well_formed}
use Rattle.program_model.specs.declared.body.Body.{Body}
use Rattle.program_model.specs.declared.program.Method.{Method}
use Rattle.program_model.specs.declared.program.Class.{Class}
use Rattle.program_model.specs.declared.program.Program.{Program}
use Rattle.class_defs.specs.ClassGraph.{IsTwice}
use Rattle.dalvik_defs.specs.Naming.{form_of, body_of, named_method, named_class, named}
use Rattle.dalvik_defs.specs.Silence.{key_in}
use Rattle.dalvik_defs.specs.Outer.{Outer}
use Rattle.dalvik_defs.specs.Shown.{SameShown}
use Rattle.dalvik_defs.specs.declared.names.MethodKey.{MethodKey}
use Rattle.dalvik_defs.specs.declared.program.NamedBody.{NamedBody}
use Rattle.dalvik_defs.specs.declared.program.NamedMethod.{NamedMethod}
use Rattle.dalvik_defs.specs.declared.program.NamedClass.{NamedClass}
use Rattle.insn_regs.specs.Wides.{widths_of}
use Rattle.walk_marks.specs.Walks.{is_on}
use Rattle.program_laws.specs.Bodies.{Change}
use Rattle.program_laws.specs.Others.{Pairwise, OtherBodies}
use Rattle.program_laws.specs.Numbered.{OtherNumberedMethod, OtherNumberedClass, OtherNumberedBodies}
use Rattle.program_laws.proofs.Named.{others_named}
use Rattle.form_laws.specs.Solid.{HasRoom}
use Rattle.form_laws.proofs.WellFormed.{well_formed_solid}
use Rattle.form_laws.specs.Renamed.{IsRenamed, AllRenamed}
use Rattle.form_laws.proofs.Renaming.{renamed_shown}
use Rattle.compact.specs.Renamed.{HasRegisters, AreEach, RewritesBody, IsCompactedMethod, IsCompactedClass, IsCompactedProgram}
use Rattle.bodies_kept.specs.Changing.{change_to}
use Rattle.bodies_kept.proofs.Changing.{keeps_code, is_changed, related}
use Rattle.bodies_kept.proofs.Unique.{unique_named}
use Rattle.bodies_kept.specs.Renames.{Compacts, Renames}
use Rattle.bodies_kept.proofs.Same.{same_forms}
use Rattle.bodies_kept.proofs.Tests.{uses_same}
use Rattle.bodies_kept.proofs.Conflicts.{form_for}
use Rattle.bodies_kept.proofs.Bodies.{renamed_by_number}

-- ---- bodies

same_renamed : (b : NamedBody) → HasRoom b → IsRenamed b b (λ r. r)
same_renamed b room = record {
  forms = sym (same_forms b.forms);
  regions = refl;
  ins = refl;
  apart = λ r s c e. e;
  pairs = λ n f w h e. refl;
  room = λ n f r h e. room n f r h e;
  plain = λ r lt c. lt;
  arguments = λ i lt c. refl;
}

pub registers_of : (p : Program) (b : Body) → HasRoom (body_of p b) → HasRegisters b
registers_of p b room n r i h e = room n (form_of p i) r (form_for p b n i h) (uses_same p r i ∙ e)

code_renamed : (p : Program) (k : MethodKey) (a b : Option Body) → Compacts p k a b → Renames k (option_map (body_of p) a) (option_map (body_of p) b)
code_renamed p k (Some b) (Some d) (inl c) = λ room. renamed_by_number p b d (registers_of p b room) c
code_renamed p k (Some b) (Some d) (inr e) = λ room. (λ r. r, subst (λ x. IsRenamed (body_of p b) (body_of p x) (λ r. r)) (sym e) (same_renamed (body_of p b) room))
code_renamed p k (Some b) None h = absurd h
code_renamed p k None (Some d) h = absurd h
code_renamed p k None None h = tt

-- ---- programs

record Rewrites (p : Program) (k : MethodKey) (a b : Option Body) : Type 0 where
  related : Compacts p k a b
  coded : is_some b ≡ is_some a

rewrites : (p : Program) (k : MethodKey) (t : Bool) (a b : Option Body) → RewritesBody (widths_of p) t a b → Rewrites p k a b
rewrites p k true (Some b) (Some d) r = record { related = inl r; coded = refl }
rewrites p k true (Some b) None r = absurd r
rewrites p k true None (Some d) r = absurd (cc)
rewrites p k true None None r = record { related = tt; coded = refl }
rewrites p k false (Some b) (Some d) r = record { related = inr (let e : Some d ≡ Some b = r in cc); coded = refl }
rewrites p k false (Some b) None r = absurd (cc)
rewrites p k false None (Some d) r = absurd (cc)
rewrites p k false None None r = record { related = tt; coded = refl }

pub pairs : {A : Type 0} (R S : A → A → Type 0) → ((x y : A) → R x y → S x y) → (xs ys : List A) → AreEach R xs ys → Pairwise S xs ys
pairs R S f [] [] a = tt
pairs R S f [] (y ∷ ys) a = absurd (let e : length (y ∷ ys) ≡ 0 = a.long in omega (arith, e))
pairs R S f (x ∷ xs) [] a = absurd (let e : 0 ≡ length (x ∷ xs) = a.long in omega (arith, e))
pairs {A} R S f (x ∷ xs) (y ∷ ys) a =
    let u : (z : A) × (slice_get (y ∷ ys) 0 ≡ Some z) × R x z = a.each 0 x refl in
    let same : Some y ≡ Some u.0 = u.1 in
    let is : y ≡ u.0 = cc in
    (f x y (subst (λ z. R x z) (sym is) u.2), pairs R S f xs ys (record { long = (let e : suc (length ys) ≡ suc (length xs) = a.long in omega (arith, e)); each = λ k z h. a.each (suc k) z h }))

module _ (admitted : List Bool) (p : Program) where
  method_compacts : (c : Class) (m n : Method) → IsCompactedMethod (widths_of p) admitted m n → OtherNumberedMethod (Compacts p) p c m n
  method_compacts c m n i =
      let r : Rewrites p (key_in (named_class p c) (named_method p m)) m.body n.body = rewrites p (key_in (named_class p c) (named_method p m)) (is_on admitted m.name) m.body n.body i.body in
      record { same = i.rest ∙ ap (λ l. record m { body = n.body; lines = l }) (sym (ap (λ x. x.lines) i.rest)); coded = r.coded; related = r.related }

  class_compacts : (c d : Class) → IsCompactedClass (widths_of p) admitted c d → OtherNumberedClass (Compacts p) p c d
  class_compacts c d i = record { same = i.rest; methods = pairs (IsCompactedMethod (widths_of p) admitted) (OtherNumberedMethod (Compacts p) p c) (method_compacts c) c.methods d.methods i.methods }

  pub program_compacts : (q : Program) → IsCompactedProgram admitted p q → OtherNumberedBodies (Compacts p) p q
  program_compacts q i = record { same = i.rest; classes = pairs (IsCompactedClass (widths_of p) admitted) (OtherNumberedClass (Compacts p) p) class_compacts p.classes q.classes i.classes }

  module _ (q : Program) (well_formed : is_well_formed p ≡ true) (once : (class : ℕ) → IsTwice p class → ⊥) (compacted : IsCompactedProgram admitted p q) where
    others : OtherBodies Renames (named p) (named q)
    others = others_named (Compacts p) Renames p (code_renamed p) q (program_compacts q compacted)

    abbrev new : Change
    new = change_to (named q)

    all : AllRenamed new (named p)
    all = record { code = keeps_code (named q); bodies = bodies }
      where
        bodies : (c : NamedClass) (m : NamedMethod) (b d : NamedBody) → Contains (named p).classes c → Contains c.methods m → m.body ≡ Some b → (new c m).body ≡ Some d → (names : ℕ → ℕ) × IsRenamed b d names
        bodies c m b d in_program in_class e f =
            let r : Renames (key_in c m) m.body (new c m).body = related Renames (named p) (named q) (unique_named p well_formed once) others c m in_program in_class in
            let s : Renames (key_in c m) (Some b) (Some d) = subst (λ x. Renames (key_in c m) (Some b) x) f (subst (λ x. Renames (key_in c m) x (new c m).body) e r) in
            s (well_formed_solid p well_formed c m b in_program in_class e).room

    pub compacted_shown : (o : Outer) → SameShown (named p) (named q) o
    compacted_shown o = subst (λ x. SameShown (named p) x o) (is_changed Renames (named p) (named q) (unique_named p well_formed once) others) (renamed_shown (named p) new all (well_formed_solid p well_formed) o)
