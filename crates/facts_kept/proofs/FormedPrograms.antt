-- What a plan of folds leaves of a well-formed program is well-formed.
use Rattle.std.proofs.Common.{◌≡◌, ℕ, zero, suc, ◌+◌, ◌<◌, ◌≤◌, Bool, true, false, List, [], ◌∷◌, length, Option, Some, None, ◌⊎◌, inl, inr, refl, sym, ap, ◌∙◌, subst, arith}
use Rattle.std.specs.Prelude.{◌&&◌, not, nat_le, All, slice_get, slice_index_or}
use Rattle.std.specs.List.{list_all}
use Rattle.insn_set.specs.declared.form.Insn.{Insn}
use Rattle.program_model.specs.Neighbours.{neighbours}
use Rattle.program_model.specs.Distinct.{own_method_key, all_differ}
use Rattle.program_model.specs.BodyRules.{body_fits}
use Rattle.program_model.specs.Items.{body_items}
use Rattle.program_model.specs.LineRules.{lines_fit}
use Rattle.program_model.specs.ValueRules.{marks_fit}
use Rattle.program_model.specs.MemberRules.{is_class_number, class_of_method, lacks_code, frame_fits, code_fits, method_fits, methods_in_order, methods_fit, fields_fit, types_of_class_fit, source_fits, class_fits}
use Rattle.program_model.specs.ProgramRules.{is_well_formed}
use Rattle.program_model.proofs.Formed.{formed}
use Rattle.program_model.specs.declared.body.Body.{Body}
use Rattle.program_model.specs.declared.pass.Changed.{Changed}
use Rattle.program_model.specs.declared.program.Method.{Method}
use Rattle.program_model.specs.declared.program.MethodAt.{MethodAt}
use Rattle.program_model.specs.declared.program.Class.{Class}
use Rattle.program_model.specs.declared.program.Program.{Program}
use Rattle.facts.specs.declared.facts.Facts.{Facts}
use Rattle.hierarchy.specs.declared.build.Hierarchy.{Hierarchy}
use Rattle.verify.specs.Typings.{Table}
use Rattle.lemmas.proofs.Bools.{and_right}
use Rattle.program_laws.proofs.ChangedLists.{and_left, and_both}
use Rattle.program_laws.specs.Others.{Pairwise}
use Rattle.thin_laws.specs.Recoded.{Recodes, RecodedMethod, Untouched, Recoded, RecodedClass, RecodedProgram}
use Rattle.thin_laws.proofs.Formed.{recoded_formed}
use Rattle.rewrite_pass.specs.declared.edit.Edit.{Edit}
use Rattle.rewrite_pass.specs.Plans.{body_edited, code_edited, method_by, methods_by, class_by, program_by, word, HasEdits, HasPlan}
use Rattle.facts.specs.Lent.{frame_at}
use Rattle.const_prop.specs.Given.{given}
use Rattle.const_prop.specs.Allowed.{IsFold, IsAllowed, insn_before}
use Rattle.const_prop.specs.Folds.{AreFolds, IsFoldedBy}
use Rattle.facts_kept.specs.Folds.{IsFoldedBody}
use Rattle.facts_kept.proofs.Formed.{Turned, allowed_turn, same_long, turned_fits, cells_fall}
use Rattle.facts_kept.proofs.Planned.{pairs_by, get_below, folded_body}

pairs_at : (R : Insn → Insn → Type 0) (xs ys : List Insn) → ((n : ℕ) (x : Insn) → slice_get xs n ≡ Some x → (y : Insn) × (slice_get ys n ≡ Some y) × R x y) → ((n : ℕ) → slice_get xs n ≡ None → slice_get ys n ≡ None) → Pairwise R xs ys
pairs_at R [] [] h e = tt
pairs_at R [] (y ∷ ys) h e = let k : Some y ≡ None = e 0 refl in absurd (cc)
pairs_at R (x ∷ xs) [] h e = let r : (y : Insn) × (slice_get [] 0 ≡ Some y) × R x y = h 0 x refl in let k : None ≡ Some r.0 = r.1 in absurd (cc)
pairs_at R (x ∷ xs) (y ∷ ys) h e = (first (h 0 x refl), pairs_at R xs ys (λ n z i. h (suc n) z i) (λ n i. e (suc n) i))
  where
    first : (z : Insn) × (Some y ≡ Some z) × R x z → R x y
    first r = let k : y ≡ r.0 = cc in subst (R x) (sym k) r.2

module _ (p : Program) (facts : Facts) (t : Option Table) (at : MethodAt) (m : Method) (b : Body) (es : List Edit) (folds : All (IsFold p facts t at m b) es) where
  abbrev d : Body
  d = body_edited es b

  h : IsFoldedBody p facts at.class m.name b d
  h = folded_body p facts t at m b es folds

  turned : Pairwise Turned b.insns d.insns
  turned = pairs_at Turned b.insns d.insns (λ n f e. let r = h.insns n f e in (r.0, r.1, by n f r.0 r.2)) h.ends
    where
      by : (n : ℕ) (f g : Insn) → (g ≡ f) ⊎ IsAllowed p (given p facts at.class (insn_before b.insns n) f) (frame_at facts.frames.items m.name n) n f g → Turned f g
      by n f g (inl s) = inl s
      by n f g (inr a) = inr (allowed_turn p (given p facts at.class (insn_before b.insns n) f) (frame_at facts.frames.items m.name n) n f g a)

  frame_kept : frame_fits p m b ≡ true → frame_fits p m d ≡ true
  unfolding frame_fits
  frame_kept e = e

  same_items : (x y : ℕ) → x ≡ y → x ≤ y
  same_items x y e = omega (arith, e)

  pub recodes : code_fits p m (Some b) ≡ true → Recodes p m b d m.lines
  recodes h =
      let rest = and_right (not (lacks_code m.flags)) (frame_fits p m b && (body_fits p b && lines_fit (length b.insns) m.lines)) h in
      let code = and_right (frame_fits p m b) (body_fits p b && lines_fit (length b.insns) m.lines) rest in
      record {
        frame = frame_kept (and_left (frame_fits p m b) (body_fits p b && lines_fit (length b.insns) m.lines) rest);
        body = turned_fits p b d turned refl refl (and_left (body_fits p b) (lines_fit (length b.insns) m.lines) code);
        lined = ap (λ n. lines_fit n m.lines) (same_long p b d turned refl refl) ∙ and_right (body_fits p b) (lines_fit (length b.insns) m.lines) code;
        cells = cells_fall p b d turned refl refl;
        items = same_items (body_items (Some d)) (body_items (Some b)) refl;
      }

module _ (p : Program) (h : Hierarchy) (facts : Facts) (admitted : List Bool) where
  abbrev W : MethodAt → Method → Body → List Edit → Type 0
  W = AreFolds p h facts

  code_of : (class : ℕ) (m : Method) (b : Body) → m.body ≡ Some b → method_fits p class m ≡ true → code_fits p m (Some b) ≡ true
  unfolding method_fits
  code_of class m b e h = subst (λ o. code_fits p m o ≡ true) e (and_right (is_class_number (class_of_method (slice_get p.methods m.name)) class) (code_fits p m m.body)
      (and_left (is_class_number (class_of_method (slice_get p.methods m.name)) class && code_fits p m m.body) (marks_fit p m.marks && list_all (marks_fit p) m.parameter_marks) h))

  method_recoded : (class : ℕ) (at : MethodAt) (m : Method) (adm : Bool) (es : List Edit) → method_fits p class m ≡ true → HasEdits W adm at m m.body es → RecodedMethod p m (method_by es m)
  method_recoded class at m adm [] fit h = Untouched m
  method_recoded class at m adm (e ∷ es) fit h = by adm m.body refl h
    where
      still : (o : Option Body) → o ≡ m.body → RecodedMethod p m (record m { body = o })
      still o i = subst (λ x. RecodedMethod p m (record m { body = x })) (sym i) (Untouched m)

      by : (adm : Bool) (o : Option Body) → m.body ≡ o → HasEdits W adm at m o (e ∷ es) → RecodedMethod p m (record m { body = code_edited (e ∷ es) o })
      by adm None i k = still None (sym i)
      by true (Some b) i k = Recoded m b (body_edited (e ∷ es) b) m.lines i (recodes p facts k.table at m b (e ∷ es) k.each (code_of class m b i fit))
      by false (Some b) i k = let z : e ∷ es ≡ [] = k in absurd (cc)

  class_methods : (c : Class) → class_fits p c ≡ true → list_all (method_fits p c.name) c.methods ≡ true
  unfolding class_fits methods_fit
  class_methods c h = and_left (list_all (method_fits p c.name) c.methods) (list_all (methods_in_order p) (neighbours c.methods) && all_differ own_method_key c.methods)
      (and_right (fields_fit p c.name c.fields) (methods_fit p c.name c.methods)
      (and_right (types_of_class_fit p c && (source_fits p c.source && marks_fit p c.marks)) (fields_fit p c.name c.fields && methods_fit p c.name c.methods) h))

  got : {A : Type 0} (f : A → Bool) (xs : List A) (n : ℕ) (x : A) → list_all f xs ≡ true → slice_get xs n ≡ Some x → f x ≡ true
  got f [] n x h e = absurd (cc)
  got f (y ∷ ys) zero x h e = let k : y ≡ x = cc in subst (λ z. f z ≡ true) k (and_left (f y) (list_all f ys) h)
  got f (y ∷ ys) (suc n) x h e = got f ys n x (and_right (f y) (list_all f ys) h) e

  class_recoded : (class : ℕ) (c : Class) (ps : List (List Edit)) → class_fits p c ≡ true → HasPlan W admitted class c.methods ps → RecodedClass p c (class_by ps c)
  class_recoded class c ps fit h = record {
    same = refl;
    methods = pairs_by method_by (RecodedMethod p) c.methods ps h.long
        (λ k m e. method_recoded c.name (record { class = class; place = word k }) m (slice_index_or admitted m.name false) (slice_index_or ps k []) (got (method_fits p c.name) c.methods k m (class_methods c fit) e) (h.each k m (get_below c.methods k m e) e));
  }

  -- well-formed
  pub folded_formed : (c : Changed) → is_well_formed p ≡ true → IsFoldedBy p h facts admitted c → is_well_formed c.program ≡ true
  folded_formed c fits r = subst (λ q. is_well_formed q ≡ true) (sym r.written.program) (recoded_formed p (program_by r.plan p) (record {
    same = refl;
    classes = pairs_by class_by (RecodedClass p) p.classes r.plan r.asked.long
        (λ k c e. class_recoded (word k) c (slice_index_or r.plan k []) (got (class_fits p) p.classes k c (formed p fits).classes e) (r.asked.each k c (get_below p.classes k c e) e));
  }) fits)
