-- Calls that name another method of what their receivers' kinds find: by a third program, in which these calls name the class of
-- the kind, so that its typing asks for a receiver under that class. From it both the one program and the other are changed.
use Rattle.std.proofs.Common.{◌≡◌, Bool, true, false, [], Option, Some, None, refl, sym, ap, ◌∙◌}
use Rattle.std.specs.Prelude.{is_some}
use Rattle.std.specs.Option.{option_map}
use Rattle.dalvik_defs.specs.Face.{face_of}
use Rattle.dalvik_defs.specs.Names.{Text}
use Rattle.dalvik_defs.specs.Outer.{Outer}
use Rattle.dalvik_defs.specs.Shown.{SameShown}
use Rattle.dalvik_defs.specs.Under.{class_named, defines}
use Rattle.dalvik_defs.specs.declared.program.NamedClass.{NamedClass}
use Rattle.dalvik_defs.specs.declared.program.NamedProgram.{NamedProgram}
use Rattle.dalvik_defs.specs.declared.tables.Framework.{Framework}
use Rattle.dalvik_defs.proofs.Same.{fits_less, same_shown_on}
use Rattle.run_laws.specs.Regular.{IsRegular}
use Rattle.removal_law.specs.Reach.{IsAcyclic}
use Rattle.rebind_law.specs.Receivers.{BoundByClass, AreChanged}
use Rattle.rebind_law.proofs.ByClass.{by_class_shown}

flagged : (o : Option NamedClass) → (elim o as (λ o. Bool) [ Some c ↦ true | None ↦ false ]) ≡ is_some (option_map (λ (c : NamedClass). c.flags) o)
flagged (Some c) = refl
flagged None = refl

-- programs with one face define the same classes
same_defines : (p q : NamedProgram) → ((f : Framework) → face_of p f ≡ face_of q f) → (t : Text) → defines q t ≡ defines p t
same_defines p q face t = flagged (class_named q t) ∙ (ap (λ x. is_some (x.flags t)) (sym (face (record { rows = [] }))) ∙ sym (flagged (class_named p t)))

turned : (p q : NamedProgram) (o : Outer) → ((f : Framework) → face_of p f ≡ face_of q f) → SameShown p q o → SameShown q p o
turned p q o face h = record {
  there = λ f a script n fit. h.back f a script n (fits_less q p o (λ t e. same_defines p q face t ∙ e) f script fit);
  back = λ f a script n fit. h.there f a script n (fits_less q p o (λ t e. same_defines p q face t ∙ e) f script fit);
}

pub by_middle_shown : (p m q : NamedProgram) (o : Outer) → IsRegular m → IsAcyclic m → AreChanged (λ k n. BoundByClass m) m p → AreChanged (λ k n. BoundByClass m) m q → SameShown p q o
by_middle_shown p m q o regular acyclic first second = same_shown_on p m q o (λ t e. same_defines m p first.face t ∙ e)
    (turned m p o first.face (by_class_shown m p o regular acyclic first)) (by_class_shown m q o regular acyclic second)
