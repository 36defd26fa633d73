-- A squeezed program is kept.
use Rattle.std.proofs.Common.{◌≡◌, ℕ, Bool, true, List, Option, Some, slice_get, Contains, refl, sym, ap, ◌∙◌, subst}
use Rattle.std.specs.Option.{option_map}
use Rattle.insn_set.specs.declared.form.Insn.TheVariants as insn
use Rattle.program_model.specs.ProgramRules.{is_well_formed}
use Rattle.program_model.specs.declared.body.Body.{Body}
use Rattle.program_model.specs.declared.program.Class.{Class}
use Rattle.program_model.specs.declared.program.Method.{Method}
use Rattle.program_model.specs.declared.program.Program.{Program}
use Rattle.program_model.specs.declared.pass.Changed.{Changed}
use Rattle.class_defs.specs.ClassGraph.{IsTwice, IsAncestor}
use Rattle.dalvik_defs.specs.Naming.{form_of, body_of, named, named_class, named_method}
use Rattle.dalvik_defs.specs.Silence.{key_in}
use Rattle.pass_defs.specs.Typed.{IsTyped}
use Rattle.body_edit.specs.declared.fate.Fate.{Fate}
use Rattle.program_laws.specs.Numbered.{OtherNumberedBodies}
use Rattle.thin_laws.proofs.Formed.{recoded_formed}
use Rattle.program_laws.proofs.Transitive.{transitive}
use Rattle.thin_laws.specs.Thins.{ThinsNumbered}
use Rattle.thin_laws.proofs.Programs.{named_thins}
use Rattle.thin_laws.specs.Squeezed.{Squeezes}
use Rattle.thin_laws.proofs.TypedPrograms.{marked_shown, marked_typed}
use Rattle.thin_laws.proofs.Tidied.{code_rules, tidied_recoded}
use Rattle.thin_pass.specs.Plans.{IsThinnedBy}
use Rattle.removal_bridge.proofs.WalkedForms.{form_there}
use Rattle.squeeze.specs.Skipping.{AreSkips}
use Rattle.bodies_kept.specs.Right.{fates_by}
use Rattle.bodies_kept.specs.Kept.{IsKept}
use Rattle.bodies_kept.proofs.Became.{any_others, thinned_others, tidied}
use Rattle.bodies_kept.proofs.Inside.{mapped_in}
use Rattle.bodies_kept.proofs.Rooted.{rooted}
use Rattle.bodies_kept.proofs.Entered.{no_entry}
use Rattle.bodies_kept.proofs.Squeezing.{marks, skips_tidy, skips_marked}

module _ (admitted : List Bool) (p : Program) (c : Changed) (fits : is_well_formed p ≡ true) (typed : IsTyped (named p)) (t : IsThinnedBy AreSkips admitted p c) where
  -- no body begins with a MoveException
  enters : (k : Class) (m : Method) (b : Body) → Contains p.classes k → Contains k.methods m → m.body ≡ Some b → (to : ℕ) → slice_get b.insns 0 ≡ Some (insn.MoveException to) → ⊥
  enters k m b i j e to d =
      let y = typed.bodies (named_class p k) (named_method p m) (body_of p b) (mapped_in (named_class p) p.classes k i) (mapped_in (named_method p) k.methods m j) (ap (option_map (body_of p)) e) in
      no_entry (named p) (named_class p k) (named_method p m) (body_of p b) y.0 y.1 to (form_there p b 0 ∙ ap (option_map (form_of p)) d)

  pub squeezed_others : OtherNumberedBodies (ThinsNumbered Squeezes p) p c.program
  squeezed_others = thinned_others AreSkips admitted p c t Squeezes (λ k m b ws i j e w. let f = code_rules p k m b fits i j e in
      (marks p b f.0 ws w (enters k m b i j e), skips_marked p b f.0 ws w (enters k m b i j e)))

  pub squeezed_formed : is_well_formed c.program ≡ true
  squeezed_formed = recoded_formed p c.program (tidied_recoded p c.program fits (tidied AreSkips admitted p c t fits (λ k m b ws i j e w. let f = code_rules p k m b fits i j e in
      (marks p b f.0 ws w (enters k m b i j e), skips_tidy p b f.0 ws w (enters k m b i j e))))) fits

  pub squeezed_kept : ((class : ℕ) → IsTwice p class → ⊥) → ((class : ℕ) → IsAncestor p class class → ⊥) → IsKept p c.program
  squeezed_kept twice ancestor = let h = named_thins Squeezes p c.program squeezed_others in record {
    formed = squeezed_formed;
    typed = marked_typed (named p) (transitive (named p) (rooted p fits twice ancestor)) typed (named c.program) h;
    others = any_others AreSkips admitted p c t;
    shown = λ o. marked_shown (named p) (named c.program) o h;
  }
