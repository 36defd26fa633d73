-- Programs with other registers in their instructions lay out.
use Rattle.std.proofs.Common.{◌≡◌, ◌⊎◌, inl, inr, ℕ, zero, suc, ◌≤◌, Bool, true, false, List, [], ◌∷◌, map, Option, Some, None, refl, sym, ap, ◌∙◌, subst}
use Rattle.std.specs.Prelude.{slice_get, pos, nat_le}
use Rattle.std.proofs.lemmas.Bool.{leb-true}
use Rattle.lemmas.proofs.Bools.{and_right}
use Rattle.lemmas.proofs.Options.{some_same}
use Rattle.insn_set.specs.Spelling.{units_of, is_encodable}
use Rattle.insn_set.specs.declared.form.Insn.{Insn}
use Rattle.insn_set.specs.declared.form.Insn.TheVariants as insn
use Rattle.program_model.specs.declared.body.Body.{Body}
use Rattle.program_model.specs.declared.program.Program.{Program}
use Rattle.insn_regs.specs.Remade.{remade}
use Rattle.insn_regs.specs.Wides.{widths_of}
use Rattle.walk_marks.specs.Walks.{is_on}
use Rattle.copy_prop.specs.Stale.{units}
use Rattle.copy_prop.specs.Rereading.{substituted, substitutes, IsReread}
use Rattle.copy_prop.specs.Propagated as copies
use Rattle.copy_prop.specs.Propagated.{IsPropagated, IsPropagatedProgram}
use Rattle.compact.specs.Renamed as packs
use Rattle.compact.specs.Renamed.{IsCompacted, IsCompactedProgram}
use Rattle.dex_defs.specs.LaysOut.{LaysOutMethod, LaysOutBody, LaysOut}
use Rattle.layout_law.specs.Shorter.{IsNoLonger, Same, Plain, Branch, AreNoLonger}
use Rattle.layout_law.proofs.Shortened.{shortened}
use Rattle.layout_law.proofs.Methods.{MethodLies, ClassLies, all_beside}
use Rattle.layout_steps.proofs.Written.{from_all}

-- one instruction
renamed_insn : (r w : ℕ → ℕ) (n : ℕ) (f : Insn) → units_of (remade r w f) (pos 0) ≤ units_of f (pos 0) → IsNoLonger n f (remade r w f)
renamed_insn r w n (insn.Goto target) u = Same
renamed_insn r w n (insn.If test a b target) u = Branch (insn.If test (r a) (r b) target) target refl refl
renamed_insn r w n (insn.IfZero test a target) u = Branch (insn.IfZero test (r a) target) target refl refl
renamed_insn r w n f u = Plain (remade r w f) refl refl u

-- ---- copies

same_words : (rs : List ℕ) → map (λ r. r) rs ≡ rs
same_words [] = refl
same_words (r ∷ rs) = ap (λ l. r ∷ l) (same_words rs)

remade_same : (f : Insn) → remade (λ r. r) (λ r. r) f ≡ f
remade_same (insn.FilledNewArray kind args) = ap (λ rs. insn.FilledNewArray kind rs) (same_words args)
remade_same (insn.Invoke kind method args) = ap (λ rs. insn.Invoke kind method rs) (same_words args)
remade_same f = refl

reread_insn : (w : List (List Bool)) (b : Body) (n : ℕ) (f g : Insn) → IsReread w b n f g → IsNoLonger n f g
reread_insn w b n f g r = elim r.fits [
  | inl none ↦ subst (λ (x : Insn). IsNoLonger n f x) (sym (remade_same f) ∙ sym (r.form ∙ ap (λ c. substitutes c f) none)) Same
  | inr fit ↦ subst (λ (x : Insn). IsNoLonger n f x) (sym r.form)
      (renamed_insn (substituted r.copies) (λ r. r) n f (subst (λ (x : Insn). units x ≤ units f) r.form (leb-true (units g) (units f) (and_right (is_encodable g) (nat_le (units g) (units f)) fit))))
]

propagated_body : (w : List (List Bool)) (b d : Body) → IsPropagated w b d → LaysOutBody b → LaysOutBody d
propagated_body w b d h l = shortened b d (record {
  insns = from_all b.insns d.insns h.long (λ n f g e k.
      let r = h.insns n f e in
      subst (λ (x : Insn). IsNoLonger n f x) (some_same r.0 g (sym r.1 ∙ k)) (reread_insn w b n f r.0 r.2));
  regions = h.regions;
}) l

propagated_code : (w : List (List Bool)) (a : Bool) (o q : Option Body) → copies.RewritesBody w a o q → LaysOutMethod o → LaysOutMethod q
propagated_code w true (Some b) (Some d) h l = propagated_body w b d h l
propagated_code w true (Some b) None h l = absurd h
propagated_code w true None q h l = subst LaysOutMethod (sym h) l
propagated_code w false None q h l = subst LaysOutMethod (sym h) l
propagated_code w false (Some b) None h l = subst LaysOutMethod (sym h) l
propagated_code w false (Some b) (Some d) h l = subst LaysOutMethod (sym h) l

pub propagated_lies : (admitted : List Bool) (p q : Program) → IsPropagatedProgram admitted p q → LaysOut p → LaysOut q
propagated_lies admitted p q h l = all_beside ClassLies (copies.IsPropagatedClass (widths_of p) admitted)
    (λ c d k. all_beside MethodLies (copies.IsPropagatedMethod (widths_of p) admitted) (λ m n i. propagated_code (widths_of p) (is_on admitted m.name) m.body n.body i.body) c.methods d.methods k.methods.long k.methods.each)
    p.classes q.classes h.classes.long h.classes.each l

-- ---- registers

compacted_insns : (new : ℕ → ℕ) (n : ℕ) (fs : List Insn) → ((k : ℕ) (f : Insn) → slice_get fs k ≡ Some f → units_of (remade new new f) (pos 0) ≤ units_of f (pos 0)) → AreNoLonger n fs (map (remade new new) fs)
compacted_insns new n [] h = tt
compacted_insns new n (f ∷ fs) h = (renamed_insn new new n f (h zero f refl), compacted_insns new (suc n) fs (λ k g e. h (suc k) g e))

compacted_body : (w : List (List Bool)) (b d : Body) → IsCompacted w b d → LaysOutBody b → LaysOutBody d
compacted_body w b d h l = shortened b d (record {
  insns = subst (λ is. AreNoLonger 0 b.insns is) (sym h.insns) (compacted_insns h.new 0 b.insns (λ k f e. h.short k f (pos 0) e));
  regions = h.regions;
}) l

compacted_code : (w : List (List Bool)) (a : Bool) (o q : Option Body) → packs.RewritesBody w a o q → LaysOutMethod o → LaysOutMethod q
compacted_code w true (Some b) (Some d) h l = compacted_body w b d h l
compacted_code w true (Some b) None h l = absurd h
compacted_code w true None q h l = subst LaysOutMethod (sym h) l
compacted_code w false None q h l = subst LaysOutMethod (sym h) l
compacted_code w false (Some b) None h l = subst LaysOutMethod (sym h) l
compacted_code w false (Some b) (Some d) h l = subst LaysOutMethod (sym h) l

pub compacted_lies : (admitted : List Bool) (p q : Program) → IsCompactedProgram admitted p q → LaysOut p → LaysOut q
compacted_lies admitted p q h l = all_beside ClassLies (packs.IsCompactedClass (widths_of p) admitted)
    (λ c d k. all_beside MethodLies (packs.IsCompactedMethod (widths_of p) admitted) (λ m n i. compacted_code (widths_of p) (is_on admitted m.name) m.body n.body i.body) c.methods d.methods k.methods.long k.methods.each)
    p.classes q.classes h.classes.long h.classes.each l
