-- The classes of a well-formed program stand in lines that end outside it.
use Rattle.std.proofs.Common.{◌≡◌, ℕ, zero, suc, Bool, true, false, List, [], ◌∷◌, length, refl, sym, ap, ◌∙◌, subst}
use Rattle.std.specs.Prelude.{Option, Some, None}
use Rattle.std.specs.List.{list_all}
use Rattle.program_model.specs.declared.program.Program.{Program}
use Rattle.program_model.specs.ProgramRules.{is_well_formed}
use Rattle.class_defs.specs.ClassGraph.{IsTwice, IsAncestor}
use Rattle.dalvik_defs.specs.Names.{Text, is_class_type, object_type}
use Rattle.dalvik_defs.specs.Naming.{named}
use Rattle.dalvik_defs.specs.Quiet.{EndsWithin}
use Rattle.dalvik_defs.specs.Under.{class_named, defines, own_above}
use Rattle.dalvik_defs.specs.declared.program.NamedClass.{NamedClass}
use Rattle.dalvik_defs.specs.declared.program.NamedProgram.{NamedProgram}
use Rattle.program_laws.specs.Rooted.{IsRooted}
use Rattle.removal_law.specs.Reach.{ends, IsRegular}
use Rattle.removal_law.proofs.Levels.{enough_steps}
use Rattle.removal_law.proofs.Lists.{and_left}
use Rattle.removal_law.proofs.Trees.{defined, defines_none}
use Rattle.removal_bridge.proofs.Formed.{no_object, regular_program}

module _ (p : NamedProgram) where
  ends_within : (n : ℕ) (t : Text) → ends p n t ≡ true → EndsWithin p n t
  ends_within zero t e = by (defines p t) refl e
    where
      by : (b : Bool) → defines p t ≡ b → ends p zero t ≡ true → class_named p t ≡ None
      by false d h = defines_none p t d
      by true d h = absurd (cc)
  ends_within (suc n) t e = λ c h. ends_within n c.superclass
      (and_left (ends p n c.superclass) (list_all (ends p n) c.interfaces) (sym (ap (λ (o : Option NamedClass). list_all (ends p n) (elim o as (λ o. List Text) [ Some c ↦ c.superclass ∷ c.interfaces | None ↦ [] ])) h) ∙ e))

pub rooted : (p : Program) → is_well_formed p ≡ true → ((class : ℕ) → IsTwice p class → ⊥) → ((class : ℕ) → IsAncestor p class class → ⊥) → IsRooted (named p)
rooted p fits twice ancestor = let r = regular_program p fits twice ancestor in record {
  ends = λ t. ends_within (named p) (length (named p).classes) t (enough_steps (named p) t (r.grounded t).0 (r.grounded t).1);
  named = λ t c e. r.names t (defined (named p) t c e);
  rooted = defines_none (named p) object_type (no_object p fits);
}
