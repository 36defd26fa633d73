-- A program that is rewritten in place is well-formed where the program is.
use Rattle.std.proofs.Common.{◌≡◌, ℕ, ◌≤◌, Bool, true, List, [], ◌∷◌, length, refl, sym, ap, ◌∙◌, subst, arith}
use Rattle.std.specs.Prelude.{◌&&◌, not, nat_le, Some, slice_get}
use Rattle.std.specs.List.{list_all}
use Rattle.std.proofs.lemmas.Bool.{leb-true, le-leb}
use Rattle.lemmas.proofs.Bools.{and_right}
use Rattle.program_model.specs.Neighbours.{neighbours}
use Rattle.program_model.specs.Distinct.{own_method_key, all_differ}
use Rattle.program_model.specs.BodyRules.{body_fits}
use Rattle.program_model.specs.Items.{body_items}
use Rattle.program_model.specs.LineRules.{lines_fit}
use Rattle.program_model.specs.ValueRules.{marks_fit}
use Rattle.program_model.specs.MemberRules.{is_class_number, class_of_method, lacks_code, proto_of, takes_words, frame_fits, code_fits, method_fits, methods_in_order, methods_fit, fields_fit, types_of_class_fit, source_fits, class_fits}
use Rattle.program_model.specs.ProgramRules.{is_well_formed}
use Rattle.program_model.proofs.Formed.{formed}
use Rattle.program_model.specs.declared.body.Body.{Body}
use Rattle.program_model.specs.declared.program.Method.{Method}
use Rattle.program_model.specs.declared.program.Class.{Class}
use Rattle.program_model.specs.declared.program.Program.{Program}
use Rattle.program_laws.proofs.ChangedLists.{and_left, and_both}
use Rattle.program_laws.specs.Others.{Pairwise}
use Rattle.thin_laws.specs.Recoded.{Recodes, RecodedMethod, Untouched as StillUntouched, Recoded, RecodedClass, RecodedProgram}
use Rattle.thin_laws.proofs.Formed.{recoded_formed}
use Rattle.thin_laws.specs.Rewritten.{RewritesBody, RewrittenMethod, Untouched, Rewritten, RewrittenClass, RewrittenProgram}
use Rattle.thin_laws.proofs.PlacedFits.{same_long, rewritten_fits, cells_fall}

pairs_given : {A : Type 0} (R S : A → A → Type 0) (t : A → Bool) → ((x y : A) → t x ≡ true → R x y → S x y) → (xs ys : List A) → list_all t xs ≡ true → Pairwise R xs ys → Pairwise S xs ys
pairs_given R S t h [] [] e r = tt
pairs_given R S t h [] (y ∷ ys) e r = absurd r
pairs_given R S t h (x ∷ xs) [] e r = absurd r
pairs_given R S t h (x ∷ xs) (y ∷ ys) e r = (h x y (and_left (t x) (list_all t xs) e) r.0, pairs_given R S t h xs ys (and_right (t x) (list_all t xs) e) r.1)

-- arguments fit in a frame that has room for them
roomy : (b d : Body) → RewritesBody b d → nat_le b.ins b.registers ≡ true → nat_le d.ins d.registers ≡ true
roomy b d r e = le-leb d.ins d.registers (r.frame (leb-true b.ins b.registers e))

same_items : (b d : Body) → RewritesBody b d → body_items (Some d) ≤ body_items (Some b)
same_items b d r = let e : body_items (Some d) ≡ body_items (Some b) = ap (λ rs. body_items (Some (record b { regions = rs }))) r.regions in no_more (body_items (Some d)) (body_items (Some b)) e
  where
    no_more : (m n : ℕ) → m ≡ n → m ≤ n
    no_more m n e = omega (arith, e)

module _ (p : Program) where
  frame_kept : (m : Method) (b d : Body) → RewritesBody b d → frame_fits p m b ≡ true → frame_fits p m d ≡ true
  unfolding frame_fits
  frame_kept m b d r e = and_both (takes_words p m.flags (proto_of p m.name) d.ins) (nat_le d.ins d.registers)
      (ap (takes_words p m.flags (proto_of p m.name)) r.ins ∙ and_left (takes_words p m.flags (proto_of p m.name) b.ins) (nat_le b.ins b.registers) e)
      (roomy b d r (and_right (takes_words p m.flags (proto_of p m.name) b.ins) (nat_le b.ins b.registers) e))

  recodes : (m : Method) (b d : Body) → (body_fits p b ≡ true → RewritesBody b d) → code_fits p m (Some b) ≡ true → Recodes p m b d m.lines
  recodes m b d rewrites h =
      let rest = and_right (not (lacks_code m.flags)) (frame_fits p m b && (body_fits p b && lines_fit (length b.insns) m.lines)) h in
      let code = and_right (frame_fits p m b) (body_fits p b && lines_fit (length b.insns) m.lines) rest in
      let fits = and_left (body_fits p b) (lines_fit (length b.insns) m.lines) code in
      let r = rewrites fits in
      record {
        frame = frame_kept m b d r (and_left (frame_fits p m b) (body_fits p b && lines_fit (length b.insns) m.lines) rest);
        body = rewritten_fits p b d r fits;
        lined = ap (λ n. lines_fit n m.lines) (same_long p b d r) ∙ and_right (body_fits p b) (lines_fit (length b.insns) m.lines) code;
        cells = cells_fall p b d r;
        items = same_items b d r;
      }

  code_of : (class : ℕ) (m : Method) (b : Body) → m.body ≡ Some b → method_fits p class m ≡ true → code_fits p m (Some b) ≡ true
  unfolding method_fits
  code_of class m b e h = subst (λ o. code_fits p m o ≡ true) e (and_right (is_class_number (class_of_method (slice_get p.methods m.name)) class) (code_fits p m m.body)
      (and_left (is_class_number (class_of_method (slice_get p.methods m.name)) class && code_fits p m m.body) (marks_fit p m.marks && list_all (marks_fit p) m.parameter_marks) h))

  method_recoded : (class : ℕ) (m n : Method) → method_fits p class m ≡ true → RewrittenMethod p m n → RecodedMethod p m n
  method_recoded class _ _ h (Untouched m) = StillUntouched m
  method_recoded class _ _ h (Rewritten m b d e r) = Recoded m b d m.lines e (recodes m b d r (code_of class m b e h))

  class_methods : (c : Class) → class_fits p c ≡ true → list_all (method_fits p c.name) c.methods ≡ true
  unfolding class_fits methods_fit
  class_methods c h = and_left (list_all (method_fits p c.name) c.methods) (list_all (methods_in_order p) (neighbours c.methods) && all_differ own_method_key c.methods)
      (and_right (fields_fit p c.name c.fields) (methods_fit p c.name c.methods)
      (and_right (types_of_class_fit p c && (source_fits p c.source && marks_fit p c.marks)) (fields_fit p c.name c.fields && methods_fit p c.name c.methods) h))

  class_recoded : (c d : Class) → class_fits p c ≡ true → RewrittenClass p c d → RecodedClass p c d
  class_recoded c d h t = record { same = t.same; methods = pairs_given (RewrittenMethod p) (RecodedMethod p) (method_fits p c.name) (method_recoded c.name) c.methods d.methods (class_methods c h) t.methods }

  pub rewritten_formed : (q : Program) → is_well_formed p ≡ true → RewrittenProgram p q → is_well_formed q ≡ true
  rewritten_formed q h t = recoded_formed p q (record { same = t.same; classes = pairs_given (RewrittenClass p) (RecodedClass p) (class_fits p) class_recoded p.classes q.classes (formed p h).classes t.classes }) h
