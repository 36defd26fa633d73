-- A position of a folded body is one that is known, or it is as it was.
use Rattle.std.proofs.Common.{◌≡◌, ℕ, zero, suc, ◌+◌, Bool, true, false, List, [], ◌∷◌, length, Option, Some, None, ◌⊎◌, inl, inr, refl, sym, ap, ◌∙◌, subst, nat_eq}
use Rattle.std.specs.Prelude.{slice_get, Contains}
use Rattle.std.proofs.lemmas.Bool.{eqb-true}
use Rattle.insn_set.specs.declared.form.Insn.{Insn}
use Rattle.insn_set.specs.declared.form.Insn.TheVariants as insn
use Rattle.program_model.specs.declared.body.Body.{Body}
use Rattle.program_model.specs.declared.program.Class.{Class}
use Rattle.program_model.specs.declared.program.Method.{Method}
use Rattle.program_model.specs.declared.program.Program.{Program}
use Rattle.dalvik_defs.specs.Naming.{named, named_class, named_method, form_of, body_of, field_at}
use Rattle.dalvik_defs.specs.Names.{Text}
use Rattle.dalvik_defs.specs.Silence.{key_in}
use Rattle.dalvik_defs.specs.Face.{face_of, bodies_of}
use Rattle.dalvik_defs.specs.Outer.{Outer}
use Rattle.dalvik_defs.specs.Quiet.{EndsWithin}
use Rattle.dalvik_defs.specs.Shown.{Fit}
use Rattle.dalvik_defs.specs.Step.{setting_of}
use Rattle.dalvik_defs.specs.State.{World, Classes}
use Rattle.dalvik_defs.specs.declared.state.Frame.{Frame}
use Rattle.dalvik_defs.specs.declared.names.MethodKey.{MethodKey}
use Rattle.dalvik_defs.specs.declared.forms.Form.{Form}
use Rattle.dalvik_defs.specs.declared.forms.Form.TheVariants as form
use Rattle.dalvik_defs.specs.declared.script.Move.{Move}
use Rattle.dalvik_defs.specs.declared.program.NamedProgram.{NamedProgram}
use Rattle.dalvik_defs.specs.declared.tables.Floats.{Floats}
use Rattle.dalvik_defs.specs.declared.tables.Framework.{Framework}
use Rattle.domains.specs.Values.{Parts}
use Rattle.facts.specs.Lent.{frame_at}
use Rattle.facts.specs.declared.facts.Facts.{Facts}
use Rattle.pass_defs.specs.Facts as by_name
use Rattle.pass_defs.specs.Pure.{is_quiet_field}
use Rattle.form_laws.specs.Changes.{In, here}
use Rattle.form_laws.specs.Known.{Known}
use Rattle.run_laws.specs.Holds.{Each}
use Rattle.run_facts.specs.ValueAnalysis.{value_analysis}
use Rattle.cover_law.specs.Coverable.{IsCoverable}
use Rattle.cover_law.specs.Known.{RangedMove}
use Rattle.cover_law.proofs.Along.{Suits}
use Rattle.cover_law.proofs.Ready.{IsReady}
use Rattle.run_laws.proofs.Settled.{IsSettled}
use Rattle.cover_law.specs.Operators.{operators}
use Rattle.const_prop.specs.declared.choices.Way.{Way}
use Rattle.const_prop.specs.Choices.{chosen}
use Rattle.const_prop.specs.Given.{given}
use Rattle.const_prop.specs.Known.{is_always_pure, way_by}
use Rattle.const_prop.specs.Allowed.{insn_before, IsAllowed, Constant, Branch}
use Rattle.facts_kept.specs.Folds.{AreNamed}
use Rattle.facts_kept.proofs.Branches.{if_follows, zero_follows, packed_follows, sparse_follows}
use Rattle.facts_kept.proofs.Steps.{suited, first_seen, second_seen}
use Rattle.facts_kept.proofs.Forms.{calm, settled, based, Reaches, any_in, Stands, Chooses, F, constant, turned, goes_so}

module _ (program : Program) (o : Outer) (f : Framework) (floats : Floats) (facts : Facts) (t : by_name.Facts Parts) (script : List Move) (base : IsCoverable (value_analysis (named program) operators) (named program) o f floats t)
    (fit : Fit (named program) o f script) (ranged : Each RangedMove script) (ends : (u : Text) → EndsWithin (named program) (length (named program).classes) u)
    (names : AreNamed program o facts t)
    (quiet : (field : ℕ) (i : _) (to : ℕ) → is_always_pure program (insn.StaticGet i to field) ≡ true → is_quiet_field (named program) (field_at program field) ≡ true)
    (class : ℕ) (c : Class) (m : Method) (b : Body) (k : MethodKey) (n : ℕ)
    (is_class : slice_get program.classes class ≡ Some c) (in_class : Contains c.methods m) (has_code : m.body ≡ Some b) (is_key : k ≡ key_in (named_class program c) (named_method program m))
    (has_body : bodies_of (named program) k ≡ Some (body_of program b)) where
  abbrev based0 : IsReady (value_analysis (named program) operators) (named program) o f floats t
  based0 = based program o f floats facts t script base fit ranged ends

  abbrev settled0 : IsSettled (named program)
  settled0 = settled program o f floats facts t script base fit ranged ends

  abbrev K : Form → Form → Type 0
  K y z = Known (setting_of (named program) o f floats) (Reaches program o f floats facts t script base fit ranged ends) k n y z

  branch_known : (i g : Insn) → slice_get b.insns n ≡ Some i → chosen i (n + 1) (way_by (frame_at facts.frames.items m.name n) i) ≡ Some g → K (form_of program i) (form_of program g)
  branch_known (insn.If test r q2 target) next has_insn e = turned program o f floats facts t script base fit ranged ends names quiet class c m b k n (insn.If test r q2 target) is_class in_class has_code is_key has_body has_insn (way_by (frame_at facts.frames.items m.name n) (insn.If test r q2 target)) next
      (record { onward = refl; narrow = refl; nowhere = refl; aims = λ q h. subst (λ z. In z (target ∷ [])) (eqb-true target q h) (here []) }) e
      (goes_so program o f floats facts t script base fit ranged ends names quiet class c m b k n (insn.If test r q2 target) is_class in_class has_code is_key has_body has_insn refl (λ w cs g st. let l : Suits g (form.If test r q2 target) = (suited program o f floats t based0 settled0 w cs g st.tw st.kw st.cw st.td st.kg st.top st.values.registers st.stands (form.If test r q2 target) st.at) in if_follows (named program) (face_of (named program) f).under floats based0.sound w g st.values.registers test r q2 target l.0 l.1 (first_seen program o f floats t based0 settled0 w cs g st.tw st.kw st.cw st.td st.kg st.top st.values.registers st.stands (form.If test r q2 target) st.at r (q2 ∷ []) refl) (second_seen program o f floats t based0 settled0 w cs g st.tw st.kw st.cw st.td st.kg st.top st.values.registers st.stands (form.If test r q2 target) st.at r q2 [] refl)))
  branch_known (insn.IfZero test r target) next has_insn e = turned program o f floats facts t script base fit ranged ends names quiet class c m b k n (insn.IfZero test r target) is_class in_class has_code is_key has_body has_insn (way_by (frame_at facts.frames.items m.name n) (insn.IfZero test r target)) next
      (record { onward = refl; narrow = refl; nowhere = refl; aims = λ q h. subst (λ z. In z (target ∷ [])) (eqb-true target q h) (here []) }) e
      (goes_so program o f floats facts t script base fit ranged ends names quiet class c m b k n (insn.IfZero test r target) is_class in_class has_code is_key has_body has_insn refl (λ w cs g st. zero_follows (named program) (face_of (named program) f).under floats based0.sound w g st.values.registers test r target (suited program o f floats t based0 settled0 w cs g st.tw st.kw st.cw st.td st.kg st.top st.values.registers st.stands (form.IfZero test r target) st.at) (first_seen program o f floats t based0 settled0 w cs g st.tw st.kw st.cw st.td st.kg st.top st.values.registers st.stands (form.IfZero test r target) st.at r [] refl)))
  branch_known (insn.PackedSwitch on first targets) next has_insn e = turned program o f floats facts t script base fit ranged ends names quiet class c m b k n (insn.PackedSwitch on first targets) is_class in_class has_code is_key has_body has_insn (way_by (frame_at facts.frames.items m.name n) (insn.PackedSwitch on first targets)) next
      (record { onward = refl; narrow = refl; nowhere = refl; aims = λ q h. any_in targets q h }) e
      (goes_so program o f floats facts t script base fit ranged ends names quiet class c m b k n (insn.PackedSwitch on first targets) is_class in_class has_code is_key has_body has_insn refl (λ w cs g st. packed_follows (named program) (face_of (named program) f).under floats based0.sound w g st.values.registers on first targets (first_seen program o f floats t based0 settled0 w cs g st.tw st.kw st.cw st.td st.kg st.top st.values.registers st.stands (form.PackedSwitch on first targets) st.at on [] refl)))
  branch_known (insn.SparseSwitch on keys targets) next has_insn e = turned program o f floats facts t script base fit ranged ends names quiet class c m b k n (insn.SparseSwitch on keys targets) is_class in_class has_code is_key has_body has_insn (way_by (frame_at facts.frames.items m.name n) (insn.SparseSwitch on keys targets)) next
      (record { onward = refl; narrow = refl; nowhere = refl; aims = λ q h. any_in targets q h }) e
      (goes_so program o f floats facts t script base fit ranged ends names quiet class c m b k n (insn.SparseSwitch on keys targets) is_class in_class has_code is_key has_body has_insn refl (λ w cs g st. let l : Suits g (form.SparseSwitch on keys targets) = (suited program o f floats t based0 settled0 w cs g st.tw st.kw st.cw st.td st.kg st.top st.values.registers st.stands (form.SparseSwitch on keys targets) st.at) in sparse_follows (named program) (face_of (named program) f).under floats based0.sound w g st.values.registers on keys targets l.0 (first_seen program o f floats t based0 settled0 w cs g st.tw st.kw st.cw st.td st.kg st.top st.values.registers st.stands (form.SparseSwitch on keys targets) st.at on [] refl)))
  branch_known i next has_insn e = absurd (cc)

  pub becomes : (i g : Insn) → slice_get b.insns n ≡ Some i → IsAllowed program (given program facts class (insn_before b.insns n) i) (frame_at facts.frames.items m.name n) n i g → K (form_of program i) (form_of program g)
  becomes i _ has_insn (Constant num g e w h) = constant program o f floats facts t script base fit ranged ends names quiet class c m b k n i is_class in_class has_code is_key has_body has_insn num g e w h
  becomes i _ has_insn (Branch g e) = branch_known i g has_insn e
