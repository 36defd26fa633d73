-- A program whose forms are folded by facts that cover it shows the same in each run in range.
use Rattle.std.proofs.Common.{◌≡◌, ℕ, suc, ◌+◌, Bool, true, false, true≢false, List, length, Option, Some, None, ◌⊎◌, inl, inr, refl, sym, ap, ◌∙◌, subst}
use Rattle.std.specs.Prelude.{slice_get, Contains, map}
use Rattle.std.specs.Option.{option_map}
use Rattle.insn_set.specs.declared.form.Insn.{Insn}
use Rattle.insn_set.specs.declared.form.Insn.TheVariants as insn
use Rattle.program_model.specs.ProgramRules.{is_well_formed}
use Rattle.program_model.specs.declared.body.Body.{Body}
use Rattle.program_model.specs.declared.program.Class.{Class}
use Rattle.program_model.specs.declared.program.Method.{Method}
use Rattle.program_model.specs.declared.program.Program.{Program}
use Rattle.dalvik_defs.specs.Naming.{named, named_class, named_method, form_of, body_of, region_of, field_at}
use Rattle.dalvik_defs.specs.Names.{Text}
use Rattle.dalvik_defs.specs.Face.{Bodies, face_of, bodies_of}
use Rattle.dalvik_defs.specs.Happens.{Setting}
use Rattle.dalvik_defs.specs.Outer.{Outer}
use Rattle.dalvik_defs.specs.Silence.{key_in}
use Rattle.dalvik_defs.specs.Quiet.{EndsWithin}
use Rattle.dalvik_defs.specs.Shown.{Fit}
use Rattle.dalvik_defs.specs.State.{State}
use Rattle.dalvik_defs.specs.Step.{setting_of}
use Rattle.dalvik_defs.specs.declared.names.MethodKey.{MethodKey}
use Rattle.dalvik_defs.specs.declared.forms.Form.{Form}
use Rattle.dalvik_defs.specs.declared.script.Move.{Move}
use Rattle.dalvik_defs.specs.declared.program.NamedBody.{NamedBody}
use Rattle.dalvik_defs.specs.declared.program.NamedProgram.{NamedProgram}
use Rattle.dalvik_defs.specs.declared.tables.Floats.{Floats}
use Rattle.dalvik_defs.specs.declared.tables.Framework.{Framework}
use Rattle.domains.specs.Values.{Parts}
use Rattle.facts.specs.declared.facts.Facts.{Facts}
use Rattle.pass_defs.specs.Facts as by_name
use Rattle.pass_defs.specs.Pure.{is_quiet_field}
use Rattle.pass_defs.specs.Walks.{form_at, IsReached}
use Rattle.program_laws.specs.Bodies.{Change, same_lines}
use Rattle.program_laws.specs.Others.{OtherBodies}
use Rattle.program_laws.specs.Numbered.{OtherNumberedBodies}
use Rattle.program_laws.proofs.Faces.{others_face}
use Rattle.program_laws.proofs.Found.{others_found}
use Rattle.program_laws.proofs.Named.{others_named}
use Rattle.form_laws.specs.Solid.{IsSolid, AllSolid}
use Rattle.form_laws.proofs.Bodies.{replaced}
use Rattle.form_laws.proofs.WellFormed.{well_formed_solid}
use Rattle.removal_bridge.proofs.WalkedForms.{form_there}
use Rattle.form_laws.specs.Known.{Becomes, IsFolded, IsFoldedRun, SameRun}
use Rattle.form_laws.specs.Known as law
use Rattle.form_laws.proofs.FoldedRuns.{folded_run}
use Rattle.run_laws.specs.Holds.{Each}
use Rattle.run_facts.specs.ValueAnalysis.{value_analysis}
use Rattle.cover_law.specs.Coverable.{IsCoverable}
use Rattle.cover_law.specs.Known.{RangedMove}
use Rattle.cover_law.specs.Operators.{operators}
use Rattle.const_prop.specs.Known.{is_always_pure}
use Rattle.const_prop.specs.Given.{given}
use Rattle.const_prop.specs.Allowed.{IsAllowed, insn_before}
use Rattle.facts.specs.Lent.{frame_at}
use Rattle.facts_kept.specs.Folds.{AreNamed, IsFoldedBody, FoldsCode, NoCode, Same, Folded, FoldsNamed}
use Rattle.facts_kept.proofs.Forms.{calm, is_calm, Reaches, begins, keeps}
use Rattle.facts_kept.proofs.Becoming.{becomes}

some_is : {A : Type 0} (x y : A) → Some x ≡ Some y → x ≡ y
some_is x y e = cc

pub named_folds : (p : Program) (facts : Facts) (k : MethodKey) (a b : Option Body) → FoldsCode p facts k a b → FoldsNamed p facts k (option_map (body_of p) a) (option_map (body_of p) b)
named_folds p facts k a b h = record { before = a; behind = b; old = refl; new = refl; folds = h }

module _ (program : Program) (q : Program) (facts : Facts) (fits : is_well_formed program ≡ true) (others : OtherNumberedBodies (FoldsCode program facts) program q) where
  abbrev p : NamedProgram
  p = named program

  pub other_bodies : OtherBodies (FoldsNamed program facts) (named program) (named q)
  other_bodies = others_named (FoldsCode program facts) (FoldsNamed program facts) program (named_folds program facts) q others

  found : (k : MethodKey) → FoldsNamed program facts k (bodies_of (named program) k) (bodies_of (named q) k)
  found k = others_found (FoldsNamed program facts) (λ k. named_folds program facts k None None NoCode) (named program) (named q) other_bodies k

  face : (f : Framework) → face_of (named program) f ≡ face_of (named q) f
  face f = sym (others_face (FoldsNamed program facts) (named program) (named q) other_bodies f)

  none : (k : MethodKey) → bodies_of (named program) k ≡ None → bodies_of (named q) k ≡ None
  none k e = by (found k).before (found k).behind (found k).folds (sym (found k).old ∙ e) ((found k).new)
    where
      by : (a b : Option Body) → FoldsCode program facts k a b → ◌≡◌ {A = Option NamedBody} (option_map (body_of program) a) None → bodies_of (named q) k ≡ option_map (body_of program) b → bodies_of (named q) k ≡ None
      by _ _ NoCode i n = n
      by _ _ (Same b) i n = absurd (cc)
      by _ _ (Folded class c m b d x y z k h) i n = absurd (cc)

  some : (k : MethodKey) (b : NamedBody) → bodies_of (named program) k ≡ Some b → (d : NamedBody) × (bodies_of (named q) k ≡ Some d)
  some k b e = by (found k).before (found k).behind (found k).folds (sym (found k).old ∙ e) ((found k).new)
    where
      by : (a o : Option Body) → FoldsCode program facts k a o → ◌≡◌ {A = Option NamedBody} (option_map (body_of program) a) (Some b) → bodies_of (named q) k ≡ option_map (body_of program) o → (d : NamedBody) × (bodies_of (named q) k ≡ Some d)
      by _ _ NoCode i n = absurd (cc)
      by _ _ (Same a) i n = (body_of program a, n)
      by _ _ (Folded class c m a d x y z k h) i n = (body_of program d, n)

  solid : (k : MethodKey) (b : NamedBody) → bodies_of (named program) k ≡ Some b → IsSolid b
  solid k b e = let r = replaced (λ c m. same_lines m m.body) (named program) k b e in well_formed_solid program fits r.class r.method b r.in_program r.in_class r.body

  module _ (o : Outer) (f : Framework) (floats : Floats) (t : by_name.Facts Parts) (script : List Move) (base : IsCoverable (value_analysis (named program) operators) (named program) o f floats t)
      (fit : Fit (named program) o f script) (ranged : Each RangedMove script) (ends : (u : Text) → EndsWithin (named program) (length (named program).classes) u)
      (names : AreNamed program o facts t)
      (quiet : (field : ℕ) (i : _) (to : ℕ) → is_always_pure program (insn.StaticGet i to field) ≡ true → is_quiet_field (named program) (field_at program field) ≡ true) where
    abbrev s : Setting
    s = setting_of (named program) o f floats

    abbrev I : State → Type 0
    I = Reaches program o f floats facts t script base fit ranged ends

    same_body : (k : MethodKey) (b : NamedBody) → IsFolded s I k b b
    same_body k b = record { forms = λ n y e r. (y, (e, law.Same refl)); ends = λ n e. e; regions = refl; registers = refl; ins = refl }

    folded_body : (k : MethodKey) (class : ℕ) (c : Class) (m : Method) (b d : Body) → slice_get program.classes class ≡ Some c → Contains c.methods m → m.body ≡ Some b → k ≡ key_in (named_class program c) (named_method program m) → bodies_of (named program) k ≡ Some (body_of program b) → IsFoldedBody program facts class m.name b d
        → IsFolded s I k (body_of program b) (body_of program d)
    folded_body k class c m b d is_class in_class has_code is_key has_body h = record {
      forms = forms;
      ends = λ n e. form_there program d n ∙ ap (option_map (form_of program)) (h.ends n (none_there n (sym (form_there program b n) ∙ e)));
      regions = ap (map (region_of program)) h.regions;
      registers = h.registers;
      ins = h.ins;
    }
      where
        none_there : (n : ℕ) → ◌≡◌ {A = Option Form} (option_map (form_of program) (slice_get b.insns n)) None → slice_get b.insns n ≡ None
        none_there n e = by (slice_get b.insns n) e
          where
            by : (o : Option Insn) → ◌≡◌ {A = Option Form} (option_map (form_of program) o) None → o ≡ None
            by None e = refl
            by (Some i) e = absurd (cc)

        at_insn : (n : ℕ) (y : Form) (i : Insn) → slice_get b.insns n ≡ Some i → form_of program i ≡ y → (z : Form) × ((form_at (body_of program d) n ≡ Some z) × Becomes s I k n y z)
        at_insn n y i e same = let r = h.insns n i e in (form_of program r.0, (form_there program d n ∙ ap (option_map (form_of program)) r.1, by r.0 r.2))
          where
            by : (g : Insn) → (g ≡ i) ⊎ IsAllowed program (given program facts class (insn_before b.insns n) i) (frame_at facts.frames.items m.name n) n i g → Becomes s I k n y (form_of program g)
            by g (inl w) = law.Same (ap (form_of program) w ∙ same)
            by g (inr w) = subst (λ y. Becomes s I k n y (form_of program g)) same (law.Folds (becomes program o f floats facts t script base fit ranged ends names quiet class c m b k n is_class in_class has_code is_key has_body i g e w))

        forms : (n : ℕ) (y : Form) → form_at (body_of program b) n ≡ Some y → IsReached (body_of program b) n → (z : Form) × ((form_at (body_of program d) n ≡ Some z) × Becomes s I k n y z)
        forms n y e r = by (slice_get b.insns n) refl (sym (form_there program b n) ∙ e)
          where
            by : (x : Option Insn) → slice_get b.insns n ≡ x → ◌≡◌ {A = Option Form} (option_map (form_of program) x) (Some y) → (z : Form) × ((form_at (body_of program d) n ≡ Some z) × Becomes s I k n y z)
            by None i j = absurd (cc)
            by (Some x) i j = at_insn n y x i (some_is (form_of program x) y j)

    bodies : (k : MethodKey) (b d : NamedBody) → bodies_of (named program) k ≡ Some b → bodies_of (named q) k ≡ Some d → IsFolded s I k b d
    bodies k b d e i = by (found k).before (found k).behind (found k).folds (found k).old (found k).new
      where
        by : (x y : Option Body) → FoldsCode program facts k x y → bodies_of (named program) k ≡ option_map (body_of program) x → bodies_of (named q) k ≡ option_map (body_of program) y → IsFolded s I k b d
        by _ _ NoCode u v = let z : ◌≡◌ {A = Option NamedBody} None (Some b) = sym u ∙ e in absurd (cc)
        by _ _ (Same a) u v = subst (λ z. IsFolded s I k b z) (some_is (body_of program a) d (sym v ∙ i)) (subst (λ z. IsFolded s I k z (body_of program a)) (some_is (body_of program a) b (sym u ∙ e)) (same_body k (body_of program a)))
        by _ _ (Folded class c m a a1 is_class in_class has_code is_key h) u v = subst (λ z. IsFolded s I k b z) (some_is (body_of program a1) d (sym v ∙ i))
            (subst (λ z. IsFolded s I k z (body_of program a1)) (some_is (body_of program a) b (sym u ∙ e)) (folded_body k class c m a a1 is_class in_class has_code is_key u h))

    run : IsFoldedRun (named program) (named q) o f floats script (calm program o f floats facts t script base fit ranged ends) I
    run = record {
      none = none;
      some = some;
      bodies = bodies;
      begins = begins program o f floats facts t script base fit ranged ends;
      keeps = keeps program o f floats facts t script base fit ranged ends;
    }

    -- both programs show the same in the run
    pub folded_shown : SameRun (named program) (named q) o f floats script
    folded_shown = folded_run (named program) (named q) o f floats script (calm program o f floats facts t script base fit ranged ends) I solid run (is_calm program o f floats facts t script base fit ranged ends) (face f)
