-- The program without its silent calls by number is that by names.
use Rattle.std.proofs.Common.{◌≡◌, ℕ, suc, ◌<◌, Bool, true, false, List, [], ◌∷◌, length, Option, Some, None, refl, sym, ap, ◌∙◌, subst}
use std.Path.{fun_ext}
use Rattle.std.specs.Prelude.{◌&&◌, not, map, slice_get, slice_index_or, if◌then◌else◌}
use Rattle.std.specs.Option.{option_map}
use Rattle.insn_set.specs.declared.ops.InvokeKind.TheVariants as call
use Rattle.insn_set.specs.declared.form.Insn.{Insn}
use Rattle.insn_set.specs.declared.form.Insn.TheVariants as insn
use Rattle.program_model.specs.declared.body.Body.{Body}
use Rattle.program_model.specs.declared.program.Method.{Method}
use Rattle.program_model.specs.declared.program.Class.{Class}
use Rattle.program_model.specs.declared.program.Program.{Program}
use Rattle.program_model.specs.declared.pass.Outside.{Outside}
use Rattle.program_model.specs.ProgramRules.{is_well_formed}
use Rattle.class_defs.proofs.WellFormed.{Sound, sound}
use Rattle.dalvik_defs.specs.Naming.{form_of, body_of, named_method, named_class, named}
use Rattle.dalvik_defs.specs.Outer.{Outer, outer_of}
use Rattle.dalvik_defs.specs.Silence as by_name
use Rattle.dalvik_defs.specs.declared.forms.Form.{Form}
use Rattle.dalvik_defs.specs.declared.forms.Form.TheVariants as form
use Rattle.dalvik_defs.specs.declared.names.MethodKey.{MethodKey}
use Rattle.dalvik_defs.specs.declared.program.NamedMethod.{NamedMethod}
use Rattle.removal_law.specs.Left.{In, here, there}
use Rattle.removal_law.proofs.Faces.{slice_in}
use Rattle.removal_bridge.proofs.Formed.{method_of, key_of, entry_below}
use Rattle.reach_bridge.proofs.Tables.{class_same}
use Rattle.reach_bridge.proofs.Numbers.{call_short}
use Rattle.pipeline.specs.Silence.{is_quiet, calls, begins_with_result, silenced_insn, silenced_insns, silenced_body, silenced_method, silenced_class, silenced}
use Rattle.headline.specs.Admitted.{admitted_in}
use Rattle.headline.proofs.Listed.{admitted_named}
use Rattle.headline.proofs.Sought.{quiet_named}

-- ---- lists

-- renaming the changed entries is changing the renamed ones
map_by : {A B : Type 0} (f : A → B) (g : A → A) (h : B → B) (xs : List A) → ((j : ℕ) (x : A) → slice_get xs j ≡ Some x → f (g x) ≡ h (f x)) → map f (map g xs) ≡ map h (map f xs)
map_by f g h [] e = refl
map_by f g h (x ∷ xs) e = ap (λ y. y ∷ map f (map g xs)) (e 0 x refl) ∙ ap (λ ys. h (f x) ∷ ys) (map_by f g h xs (λ j y i. e (suc j) y i))

-- ---- code

taken : (p : Program) (is : List Insn) → begins_with_result is ≡ by_name.takes_result (map (form_of p) is)
taken p [] = refl
taken p (insn.MoveResult slot to ∷ is) = refl
taken p (i ∷ is) = refl

module _ (p : Program) (s : Sound p) (o : Outside) where
  abbrev q : ℕ → Bool
  q = is_quiet p o.silent

  abbrev O : Outer
  O = outer_of p o

  call_same : (i : Insn) → ((n : ℕ) (args : List ℕ) → i ≡ insn.Invoke call.Static n args → n < length p.methods) → calls q i ≡ by_name.calls_silent (named p) O (form_of p i)
  call_same (insn.Invoke call.Static n args) h = quiet_named p s n (h n args refl) o.silent
  call_same i h = refl

  choice : (i : Insn) (b : Bool) → form_of p (if b then insn.Nop else i) ≡ elim b as (λ b. Form) [ true ↦ form.Nop | false ↦ form_of p i ]
  choice i true = refl
  choice i false = refl

  insn_same : (i : Insn) (is : List Insn) → ((n : ℕ) (args : List ℕ) → i ≡ insn.Invoke call.Static n args → n < length p.methods)
      → form_of p (silenced_insn q i is) ≡ by_name.silenced_form (named p) O (form_of p i) (map (form_of p) is)
  insn_same i is h =
      choice i (calls q i && not (begins_with_result is))
      ∙ ap (λ b. elim (b && not (begins_with_result is)) as (λ b. Form) [ true ↦ form.Nop | false ↦ form_of p i ]) (call_same i h)
      ∙ ap (λ b. elim (by_name.calls_silent (named p) O (form_of p i) && not b) as (λ b. Form) [ true ↦ form.Nop | false ↦ form_of p i ]) (taken p is)

  insns_same : (is : List Insn) → ((n : ℕ) (args : List ℕ) → In (insn.Invoke call.Static n args) is → n < length p.methods)
      → map (form_of p) (silenced_insns q is) ≡ by_name.silenced_forms (named p) O (map (form_of p) is)
  insns_same [] h = refl
  insns_same (i ∷ is) h =
      ap (λ f. f ∷ map (form_of p) (silenced_insns q is)) (insn_same i is (λ n args e. h n args (subst (λ x. In x (i ∷ is)) e (here is))))
      ∙ ap (λ fs. by_name.silenced_form (named p) O (form_of p i) (map (form_of p) is) ∷ fs) (insns_same is (λ n args j. h n args (there i is j)))

  -- ---- members

  module _ (place : ℕ) (c : Class) (is_class : slice_get p.classes place ≡ Some c) (fits : is_well_formed p ≡ true) (admitted : List Bool) where
    abbrev A : MethodKey → Bool
    A = admitted_in p admitted

    module _ (j : ℕ) (m : Method) (is_method : slice_get c.methods j ≡ Some m) where
      body_same : (b : Body) → m.body ≡ Some b → body_of p (silenced_body q b) ≡ by_name.silenced_body (named p) O (body_of p b)
      body_same b e = ap (λ fs. record (body_of p b) { forms = fs })
          (insns_same b.insns (λ n args i. call_short p s place c is_class m (slice_in c.methods j m is_method) b e call.Static n args i))

      code_same : (x : Option Body) → m.body ≡ x → option_map (body_of p) (option_map (silenced_body q) x) ≡ option_map (by_name.silenced_body (named p) O) (option_map (body_of p) x)
      code_same None e = refl
      code_same (Some b) e = ap (λ x. Some x) (body_same b e)

      by_mark : (b : Bool) → named_method p (if b then record m { body = option_map (silenced_body q) m.body } else m)
          ≡ elim b as (λ b. NamedMethod) [ true ↦ record (named_method p m) { body = option_map (by_name.silenced_body (named p) O) (named_method p m).body } | false ↦ named_method p m ]
      by_mark true = ap (λ x. record (named_method p m) { body = x }) (code_same m.body refl)
      by_mark false = refl

      mark_same : A (by_name.key_in (named_class p c) (named_method p m)) ≡ slice_index_or admitted m.name false
      mark_same =
          let g = method_of p fits c place j m is_class is_method in
          ap A (sym (key_of p fits c place j m is_class is_method)) ∙ admitted_named p s m.name (entry_below p fits m.name g.entry g.is) admitted

      method_same : named_method p (silenced_method q admitted m) ≡ by_name.silenced_method (named p) O A (named_class p c) (named_method p m)
      method_same = by_mark (slice_index_or admitted m.name false)
          ∙ ap (λ b. elim b as (λ b. NamedMethod) [ true ↦ record (named_method p m) { body = option_map (by_name.silenced_body (named p) O) (named_method p m).body } | false ↦ named_method p m ]) (sym mark_same)

    class_named : named_class p (silenced_class q admitted c) ≡ by_name.silenced_class (named p) O A (named_class p c)
    class_named = ap (λ ms. record (named_class p c) { methods = ms })
        (map_by (named_method p) (silenced_method q admitted) (by_name.silenced_method (named p) O A (named_class p c)) c.methods method_same)

-- ---- the program

pub silenced_named : (p : Program) (o : Outside) (admitted : List Bool) → is_well_formed p ≡ true
    → named (silenced (is_quiet p o.silent) admitted p) ≡ by_name.silenced (named p) (outer_of p o) (admitted_in p admitted)
silenced_named p o admitted fits =
    let cs = map (silenced_class (is_quiet p o.silent) admitted) p.classes in
    ap (λ f. record { version = p.version; classes = map f cs }) (fun_ext (class_same p cs))
    ∙ ap (λ ns. record { version = p.version; classes = ns })
    (map_by (named_class p) (silenced_class (is_quiet p o.silent) admitted) (by_name.silenced_class (named p) (outer_of p o) (admitted_in p admitted)) p.classes
    (λ i c e. class_named p (sound p fits) o i c e fits admitted))
