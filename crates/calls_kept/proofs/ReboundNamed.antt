-- A program in which calls name another method by number is so by name, and so it shows the same and is typed.
use Rattle.std.proofs.Common.{◌≡◌, ◌⊎◌, inl, inr, ℕ, zero, suc, true, List, [], ◌∷◌, map, Option, Some, None, refl, sym, ap, ◌∙◌, subst}
use Rattle.std.specs.Prelude.{slice_get, Contains}
use Rattle.std.specs.Option.{option_map, option_and_then}
use Rattle.insn_set.specs.declared.form.Insn.{Insn}
use Rattle.program_model.specs.declared.body.Body.{Body}
use Rattle.program_model.specs.declared.program.Class.{Class}
use Rattle.program_model.specs.declared.program.Method.{Method}
use Rattle.program_model.specs.declared.program.MethodAt.{MethodAt}
use Rattle.program_model.specs.declared.program.Program.{Program}
use Rattle.program_model.specs.Lookups as look
use Rattle.program_model.specs.ProgramRules.{is_well_formed}
use Rattle.class_defs.specs.ClassGraph.{IsAncestor}
use Rattle.dalvik_defs.specs.Naming.{body_of, form_of, region_of, named, named_class, named_method}
use Rattle.dalvik_defs.specs.Outer.{Outer}
use Rattle.dalvik_defs.specs.Shown.{SameShown}
use Rattle.dalvik_defs.specs.Silence.{key_in}
use Rattle.dalvik_defs.specs.declared.forms.Form.{Form}
use Rattle.dalvik_defs.specs.declared.names.MethodKey.{MethodKey}
use Rattle.dalvik_defs.specs.declared.tables.Framework.{Framework}
use Rattle.domains.specs.Values.{Parts}
use Rattle.dom_frame.specs.declared.frames.Frame.{Frame}
use Rattle.facts.specs.Lent.{frame_at}
use Rattle.facts.specs.declared.facts.Facts.{Facts}
use Rattle.hierarchy.specs.Shapes.{IsResolved}
use Rattle.hierarchy.specs.declared.build.Hierarchy.{Hierarchy}
use Rattle.lemmas.proofs.Lists.{contains_here, contains_there, get_map}
use Rattle.lemmas.proofs.Options.{before_map, none_some, some_same}
use Rattle.pass_defs.specs.Facts as by_name
use Rattle.pass_defs.specs.Typed.{IsTyped}
use Rattle.pass_defs.specs.Walks.{form_at}
use Rattle.program_laws.specs.Others.{OtherBodies}
use Rattle.program_laws.specs.Numbered.{OtherNumberedBodies}
use Rattle.program_laws.proofs.Named.{others_named}
use Rattle.removal_law.specs.Reach.{IsAcyclic}
use Rattle.removal_bridge.proofs.Formed as upright
use Rattle.run_facts.specs.ValueAnalysis.{value_analysis}
use Rattle.cover_law.specs.Coverable.{IsTabled}
use Rattle.run_laws.specs.Regular.{IsRegular}
use Rattle.run_laws.proofs.Here.{into_map}
use Rattle.removal_bridge.proofs.TypedFormed as stuck
use Rattle.facts_kept.proofs.Acyclic.{grounded_acyclic}
use Rattle.type_bridge.specs.Views.{method_table}
use Rattle.type_bridge.proofs.Least.{least_method}
use Rattle.cover_law.specs.Operators.{operators}
use Rattle.cover_law.proofs.Sound.{value_sound}
use Rattle.verify.specs.Methods.{TypesFor}
use Rattle.verify.specs.Typings as typings
use Rattle.rebind_law.specs.Reasons.{Rebound, ReboundBody, ReboundCode}
use Rattle.rebind_law.specs.Reasons as reasons
use Rattle.rebind_law.proofs.ByReasons.{reasons_shown, reasons_typed}
use Rattle.devirt.specs.Rebound.{IsRebindingOf}
use Rattle.calls_kept.specs.Rebound.{FramesAreNamed, IsReboundBody, ReboundSo, NoCode, Same}
use Rattle.calls_kept.specs.Rebound as by_number
use Rattle.calls_kept.proofs.Calls.{rebound_form}

contains_at : {A : Type 0} (xs : List A) (n : ℕ) (x : A) → slice_get xs n ≡ Some x → Contains xs x
contains_at [] n x e = none_some x e
contains_at (y ∷ xs) zero x e = subst (Contains (y ∷ xs)) (some_same y x e) (contains_here y xs)
contains_at (y ∷ xs) (suc n) x e = contains_there y xs x (contains_at xs n x e)

-- what stands at a position of a body, by name
form_there : (p : Program) (b : Body) (n : ℕ) → form_at (body_of p b) n ≡ option_map (form_of p) (slice_get b.insns n)
form_there p b n = get_map (form_of p) b.insns n

none_there : (p : Program) (b : Body) (n : ℕ) → ◌≡◌ {A = Option Form} (option_map (form_of p) (slice_get b.insns n)) None → slice_get b.insns n ≡ None
none_there p b n e = by (slice_get b.insns n) e
  where
    by : (o : Option Insn) → ◌≡◌ {A = Option Form} (option_map (form_of p) o) None → o ≡ None
    by None e = refl
    by (Some i) e = none_some (form_of p i) (sym e)

module _ (p : Program) (h : Hierarchy) (w : is_well_formed p ≡ true) (resolved : IsResolved p h) (ancestor : (class : ℕ) → IsAncestor p class class → ⊥) (typed : IsTyped (named p))
    (facts : Facts) (t : by_name.Facts Parts) (used : Type 0) (uses : (method n : ℕ) (frame : Frame) → frame_at facts.frames.items method n ≡ Some frame → used) (names : used → FramesAreNamed p facts t) where
  regular : IsRegular (named p)
  regular = stuck.regular_program p w resolved.of.once typed

  acyclic : IsAcyclic (named p)
  acyclic = grounded_acyclic (named p) (upright.regular_program p w resolved.of.once ancestor)

  -- ---- a body

  module _ (at : MethodAt) (c : Class) (m : Method) (b d : Body) (is_class : slice_get p.classes at.class ≡ Some c) (is_method : slice_get c.methods at.place ≡ Some m) (has : m.body ≡ Some b)
      (x : typings.Table) (types : TypesFor p h at x) (body : IsReboundBody p facts x at.class m.name b d) where
    there : look.method_at p at ≡ Some m
    there = ap (option_and_then (λ (c : Class). slice_get c.methods at.place)) is_class ∙ is_method

    rebound_body : ReboundBody used (named p) t (named_class p c) (named_method p m) (body_of p b) (body_of p d)
    rebound_body = record {
      table = method_table p c x;
      typing = (least_method p h w resolved at x types c m b is_class there has).typing;
      changed = record {
        forms = forms;
        ends = λ n e. form_there p d n ∙ ap (option_map (form_of p)) (body.ends n (none_there p b n (sym (form_there p b n) ∙ e)));
        regions = ap (map (region_of p)) body.regions;
        registers = body.registers;
        ins = body.ins;
      };
    }
      where
        inside : Contains c.methods m
        inside = contains_at c.methods at.place m is_method

        forms : (n : ℕ) (f : Form) → form_at (body_of p b) n ≡ Some f → (g : Form) × ((form_at (body_of p d) n ≡ Some g) × ((g ≡ f) ⊎ Rebound used (named p) t (method_table p c x) (key_in (named_class p c) (named_method p m)) n f g))
        forms n f e = in_body (before_map (form_of p) (slice_get b.insns n) f (sym (form_there p b n) ∙ e))
          where
            in_body : (i : Insn) × ((slice_get b.insns n ≡ Some i) × (form_of p i ≡ f)) → (g : Form) × ((form_at (body_of p d) n ≡ Some g) × ((g ≡ f) ⊎ Rebound used (named p) t (method_table p c x) (key_in (named_class p c) (named_method p m)) n f g))
            in_body (i, (is, same)) = let r = body.insns n i is in (form_of p r.0, (form_there p d n ∙ ap (option_map (form_of p)) r.1, by r.0 r.2))
              where
                by : (j : Insn) → (j ≡ i) ⊎ IsRebindingOf p facts x at.class m.name b n j → (form_of p j ≡ f) ⊎ Rebound used (named p) t (method_table p c x) (key_in (named_class p c) (named_method p m)) n f (form_of p j)
                by j (inl e) = inl (ap (form_of p) e ∙ same)
                by j (inr y) = inr (subst (λ f. Rebound used (named p) t (method_table p c x) (key_in (named_class p c) (named_method p m)) n f (form_of p j)) same (rebound_form p h w resolved ancestor used facts t names uses x at types c m is_class inside b n i j is y))

  -- ---- a program

  code_named : (k : MethodKey) (x y : Option Body) → ReboundSo p h facts k x y → ReboundCode used (named p) t k (option_map (body_of p) x) (option_map (body_of p) y)
  code_named k _ _ NoCode = reasons.NoCode
  code_named k _ _ (Same b) = reasons.Kept (body_of p b)
  code_named k _ _ (by_number.Rebound at c m b d is_class is_method has key x types body) = reasons.Changed (named_class p c) (named_method p m) (body_of p b) (body_of p d)
      (into_map (named_class p) p.classes c (contains_at p.classes at.class c is_class)) (into_map (named_method p) c.methods m (contains_at c.methods at.place m is_method)) key
      (ap (option_map (body_of p)) has) (rebound_body at c m b d is_class is_method has x types body)

  module _ (q : Program) (others : OtherNumberedBodies (ReboundSo p h facts) p q) where
    others_so : OtherBodies (ReboundCode used (named p) t) (named p) (named q)
    others_so = others_named (ReboundSo p h facts) (ReboundCode used (named p) t) p code_named q others

    pub rebound_shown : (o : Outer) → (used → (f : Framework) → IsTabled (value_analysis (named p) operators) (named p) o f t) → SameShown (named p) (named q) o
    rebound_shown o tabled = reasons_shown used (named p) (named q) t regular others_so acyclic o operators
        (λ u f floats script fit. record { tabled = tabled u f; sound = value_sound (named p) o f floats script regular acyclic fit })

    pub rebound_typed : IsTyped (named q)
    rebound_typed = reasons_typed used (named p) (named q) t regular others_so
