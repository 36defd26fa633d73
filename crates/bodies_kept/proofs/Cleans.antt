-- A program without its dead code is kept.
use Rattle.std.proofs.Common.{◌≡◌, ◌⊎◌, inl, inr, ℕ, suc, ◌<◌, Bool, true, false, true≢false, List, [], ◌∷◌, length, map, Option, Some, None, slice_get, Contains, refl, sym, ap, ◌∙◌, subst, arith}
use Rattle.std.specs.Option.{option_map}
use Rattle.lemmas.proofs.Options.{some_same}
use Rattle.program_model.specs.ProgramRules.{is_well_formed}
use Rattle.program_model.specs.declared.body.Body.{Body}
use Rattle.program_model.specs.declared.program.Class.{Class}
use Rattle.program_model.specs.declared.program.Method.{Method}
use Rattle.program_model.specs.declared.program.Program.{Program}
use Rattle.program_model.specs.declared.pass.Changed.{Changed}
use Rattle.class_defs.specs.ClassGraph.{IsTwice, IsAncestor}
use Rattle.dalvik_defs.specs.Face.{bodies_of}
use Rattle.dalvik_defs.specs.Names.{is_void}
use Rattle.dalvik_defs.specs.Naming.{body_of, named, named_class, named_method}
use Rattle.dalvik_defs.specs.Outer.{Outer}
use Rattle.dalvik_defs.specs.Shown.{SameShown}
use Rattle.dalvik_defs.specs.Silence.{key_in}
use Rattle.dalvik_defs.specs.declared.forms.Form.{Form}
use Rattle.dalvik_defs.specs.declared.forms.Form.TheVariants as form
use Rattle.dalvik_defs.specs.declared.names.MethodKey.{MethodKey}
use Rattle.dalvik_defs.specs.declared.program.NamedBody.{NamedBody}
use Rattle.dalvik_defs.specs.declared.program.NamedClass.{NamedClass}
use Rattle.dalvik_defs.specs.declared.program.NamedMethod.{NamedMethod}
use Rattle.dalvik_defs.specs.declared.program.NamedProgram.{NamedProgram}
use Rattle.pass_defs.specs.Thinned.{Fate as Meant, thinned}
use Rattle.pass_defs.specs.Typed.{Table, IsTyping, IsTyped}
use Rattle.pass_defs.specs.Walks.{form_at}
use Rattle.body_edit.specs.declared.fate.Fate.{Fate}
use Rattle.program_laws.specs.Others.{OtherBodies}
use Rattle.program_laws.specs.Numbered.{OtherNumberedBodies}
use Rattle.program_laws.proofs.Typed.{others_typed}
use Rattle.thin_laws.proofs.Formed.{recoded_formed}
use Rattle.program_laws.specs.Alike.{gets_void}
use Rattle.program_laws.proofs.Transitive.{transitive}
use Rattle.form_laws.specs.Solid.{IsSolid}
use Rattle.form_laws.proofs.WellFormed.{well_formed_solid}
use Rattle.removal_law.proofs.CallsLeft.{body_in}
use Rattle.removal_law.proofs.Lists.{contained}
use Rattle.thin_laws.specs.Cleaning.{IsCleaning, IsSound}
use Rattle.thin_laws.specs.Thins.{Thins, NoCode, Same, Thinned, ThinsNumbered}
use Rattle.thin_laws.proofs.Programs.{cleaned_shown, named_thins}
use Rattle.thin_pass.specs.Plans.{IsThinnedBy}
use Rattle.thin_laws.proofs.Tidied.{code_rules, tidied_recoded}
use Rattle.dead_code.specs.Dead.{is_quiet_field}
use Rattle.dead_code.specs.Wishes.{AreCleaned}
use Rattle.bodies_kept.specs.Right.{fates_by}
use Rattle.bodies_kept.specs.Kept.{IsKept}
use Rattle.bodies_kept.proofs.Became.{any_others, thinned_others, tidied}
use Rattle.bodies_kept.proofs.Rooted.{rooted}
use Rattle.bodies_kept.specs.Cleans.{Cleans}
use Rattle.bodies_kept.proofs.Cleaning.{marks, cleaned_tidy, cleaned_cleaning, cleaned_typing}

-- ---- typings

module _ (p : NamedProgram) (typed : IsTyped p) where
  new_typed : (c : NamedClass) (m : NamedMethod) (b : NamedBody) → Contains p.classes c → Contains c.methods m → Thins (Cleans p) (key_in c m) m.body (Some b) → (t : Table) × IsTyping p c m b t
  new_typed c m b i j h = by m.body (Some b) refl refl h
    where
      by : (x y : Option NamedBody) → m.body ≡ x → Some b ≡ y → Thins (Cleans p) (key_in c m) x y → (t : Table) × IsTyping p c m b t
      by _ _ e d NoCode = absurd (true≢false (ap (λ o. elim o as (λ o. Bool) [ Some z ↦ true | None ↦ false ]) d))
      by _ _ e d (Same a) = subst (λ z. (t : Table) × IsTyping p c m z t) (sym (some_same b a d)) (typed.bodies c m a i j e)
      by _ _ e d (Thinned fs a r) = let t = typed.bodies c m a i j e in subst (λ z. (t : Table) × IsTyping p c m z t) (sym (some_same b (thinned fs a) d)) (r.1 c m t.0 t.1)

  cleans_typed : (q : NamedProgram) → OtherBodies (Thins (Cleans p)) p q → IsTyped q
  cleans_typed q h = others_typed (Thins (Cleans p)) p q h new_typed

-- ---- programs

module _ (p : Program) (fits : is_well_formed p ≡ true) (twice : (class : ℕ) → IsTwice p class → ⊥) (ancestor : (class : ℕ) → IsAncestor p class class → ⊥) where
  -- no field that is read is of type void
  sound : IsSound (named p)
  sound = record { ends = (rooted p fits twice ancestor).ends; voids = voids }
    where
      in_form : (b : NamedBody) (n : ℕ) → IsSolid b → (x : Form) → form_at b n ≡ Some x → gets_void x ≡ false
      in_form b n s (form.InstanceGet i to on k) e = s.fields n (form.InstanceGet i to on k) k e refl
      in_form b n s (form.StaticGet i to k) e = s.fields n (form.StaticGet i to k) k e refl
      in_form b n s x e = refl

      voids : (k : MethodKey) (b : NamedBody) (n : ℕ) (x : Form) → bodies_of (named p) k ≡ Some b → form_at b n ≡ Some x → gets_void x ≡ false
      voids k b n x e h = let w = body_in (named p) k b e in
          in_form b n (well_formed_solid p fits w.class w.method b (contained w.class (named p).classes w.class_in) (contained w.method w.class.methods w.method_in) w.body) x h

  module _ (admitted : List Bool) (c : Changed) (t : IsThinnedBy (AreCleaned (is_quiet_field p)) admitted p c) where
    cleaned_others : OtherNumberedBodies (ThinsNumbered (Cleans (named p)) p) p c.program
    cleaned_others = thinned_others (AreCleaned (is_quiet_field p)) admitted p c t (Cleans (named p)) (λ k m b ws i j e w. let f = code_rules p k m b fits i j e in
        (cleaned_cleaning p fits twice b f.0 ws w, cleaned_typing p fits twice b f.0 ws w (transitive (named p) (rooted p fits twice ancestor))))

    cleaned_formed : is_well_formed c.program ≡ true
    cleaned_formed = recoded_formed p c.program (tidied_recoded p c.program fits (tidied (AreCleaned (is_quiet_field p)) admitted p c t fits (λ k m b ws i j e w. let f = code_rules p k m b fits i j e in
        (marks p fits twice b f.0 ws w, cleaned_tidy p fits twice b f.0 ws w)))) fits

    pub cleaned_kept : IsTyped (named p) → IsKept p c.program
    cleaned_kept typed = let h = named_thins (Cleans (named p)) p c.program cleaned_others in record {
      formed = cleaned_formed;
      typed = cleans_typed (named p) typed (named c.program) h;
      others = any_others (AreCleaned (is_quiet_field p)) admitted p c t;
      shown = λ o. cleaned_shown (named p) (Cleans (named p)) (λ k fs b r. r.0) (named c.program) o sound h;
    }
