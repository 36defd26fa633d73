-- Each step of a typed frame.
use Rattle.std.proofs.Common.{◌≡◌, ℕ, zero, suc, ◌+◌, ◌-◌, ℤ, Bool, true, false, List, [], ◌∷◌, Option, Some, refl, sym, ap, ◌∙◌, subst, arith}
use Rattle.std.specs.Prelude.{◌||◌, ◌%◌, ◌^◌, slice_get, Contains, int_lt}
use Rattle.std.specs.Int.{w32, cast_unsigned}
use Rattle.std.specs.Option.{option_and_then}
use Rattle.insn_set.specs.declared.ops.InvokeKind.TheVariants as call
use Rattle.dalvik_defs.specs.Arith.{signed, passes}
use Rattle.dalvik_defs.specs.Operators.{comparison}
use Rattle.dalvik_defs.specs.Face.{face_of, bodies_of}
use Rattle.dalvik_defs.specs.Outer.{Outer}
use Rattle.dalvik_defs.specs.State.{World, Classes}
use Rattle.dalvik_defs.specs.Effect.{Effect, register}
use Rattle.dalvik_defs.specs.ActPlain.{switch_target, packed_target}
use Rattle.dalvik_defs.specs.ActNumber.{number}
use Rattle.dalvik_defs.specs.Outcome.{need_of}
use Rattle.dalvik_defs.specs.Act.{act}
use Rattle.dalvik_defs.specs.Happens.{outcome_at, effect_of}
use Rattle.dalvik_defs.specs.Stack.{form_at as form_of}
use Rattle.dalvik_defs.specs.declared.state.Value.TheVariants.{Word}
use Rattle.dalvik_defs.specs.declared.state.Frame.{Frame}
use Rattle.dalvik_defs.specs.declared.forms.Form.{Form}
use Rattle.dalvik_defs.specs.declared.forms.Form.TheVariants as form
use Rattle.dalvik_defs.specs.declared.tables.Floats.{Floats}
use Rattle.dalvik_defs.specs.declared.tables.Framework.{Framework}
use Rattle.dalvik_defs.specs.declared.program.NamedProgram.{NamedProgram}
use Rattle.run_laws.proofs.Plain.{LeadsPlainly}
use Rattle.run_laws.specs.TypedStates.{TypedFrame, TypedWorld}
use Rattle.run_laws.proofs.Settled.{IsSettled, FindsRegularly}
use Rattle.run_laws.proofs.Climbs.{none_some, some_one}
use Rattle.run_laws.proofs.Here.{at_form, setting, states}
use Rattle.run_laws.proofs.Forms.{same, later_in, nops, moves, results, exceptions, voids, returns, constants, wides, strings, classes, enters, exits_held, casts_held, instances, lengths, throws_held, unaries, binaries_held, literals_held, branches, targets_held, first_in, Does, Is, words}
use Rattle.run_laws.proofs.ArrayForms.{news, filled_news, fills_held, gets, puts_items}
use Rattle.run_laws.proofs.FieldForms.{makes_held, instance_gets, static_gets, instance_puts, static_puts}
use Rattle.run_laws.proofs.Calls.{static_calls, direct_calls, super_calls, virtual_calls, interface_calls}

switch_in : (z : ℤ) (ks : List ℤ) (ts : List ℕ) (q : ℕ) → switch_target z ks ts ≡ Some q → Contains ts q
switch_in z [] ts q e = none_some q e
switch_in z (k ∷ ks) [] q e = none_some q e
switch_in z (k ∷ ks) (u ∷ ts) q e = by (int_lt z k || int_lt k z) e (λ i. switch_in z ks ts q i)
  where
    by : (b : Bool) → (elim b as (λ b. Option ℕ) [ true ↦ switch_target z ks ts | false ↦ Some u ]) ≡ Some q → (switch_target z ks ts ≡ Some q → Contains ts q) → Contains (u ∷ ts) q
    by true i more = later_in q u ts (more i)
    by false i more = (0, omega arith, some_one u q i)

got_in : (ts : List ℕ) (m q : ℕ) → slice_get ts m ≡ Some q → Contains ts q
got_in [] m q e = none_some q e
got_in (u ∷ ts) zero q e = (0, omega arith, some_one u q e)
got_in (u ∷ ts) (suc m) q e = later_in q u ts (got_in ts m q e)

module _ (p : NamedProgram) (o : Outer) (f : Framework) (floats : Floats) (reg : IsSettled p) (finds : FindsRegularly p f) where
  module _ (w : World) (cs : Classes) (g : Frame) (tw : TypedWorld p f w) (t : TypedFrame p f w g) where
    abbrev n : ℕ
    n = g.position

    abbrev D : Effect → Type 0
    D = Does p o f floats reg w cs g tw t

    abbrev I : Form → Type 0
    I = Is p o f floats reg w cs g tw t

    forms : (x : Form) → I x → D (act (face_of p f).under floats x w g)
    forms form.Nop h = nops p o f floats reg w cs g tw t h
    forms (form.Move slot to from) h = moves p o f floats reg w cs g tw t slot to from h
    forms (form.MoveResult slot to) h = results p o f floats reg w cs g tw t slot to h
    forms (form.MoveException to) h = exceptions p o f floats reg w cs g tw t to h
    forms form.ReturnVoid h = voids p o f floats reg w cs g tw t h
    forms (form.Return slot from) h = returns p o f floats reg w cs g tw t slot from h
    forms (form.Const to value) h = constants p o f floats reg w cs g tw t to value h
    forms (form.ConstWide to value) h = wides p o f floats reg w cs g tw t to value h
    forms (form.ConstString to text) h = strings p o f floats reg w cs g tw t to text h
    forms (form.ConstClass to kind) h = classes p o f floats reg w cs g tw t to kind h
    forms (form.MonitorEnter on) h = enters p o f floats reg w cs g tw t on h
    forms (form.MonitorExit on) h = exits_held p o f floats reg w cs g tw t on h
    forms (form.CheckCast on kind) h = casts_held p o f floats reg w cs g tw t on kind h
    forms (form.InstanceOf to from kind) h = instances p o f floats reg w cs g tw t to from kind h
    forms (form.ArrayLength to from) h = lengths p o f floats reg w cs g tw t to from h
    forms (form.NewInstance to kind) h = makes_held p o f floats reg w cs g tw t to kind h
    forms (form.NewArray to size kind) h = news p o f floats reg w cs g tw t to size kind h
    forms (form.FilledNewArray kind args) h = filled_news p o f floats reg w cs g tw t kind args h
    forms (form.FillArray on width items) h = fills_held p o f floats reg w cs g tw t on width items h
    forms (form.Throw on) h = throws_held p o f floats reg w cs g tw t on h
    forms (form.Goto target) h = same p o f floats reg w cs g tw t (form.Goto target) h refl target (first_in target [])
    forms (form.PackedSwitch on first targets) h = targets_held p o f floats reg w cs g tw t (form.PackedSwitch on first targets) h refl (packed_target (number g on) first targets) (first_in (n + 1) targets)
        (λ q e. later_in q (n + 1) targets (got_in targets ((number g on + (2 ^ 32 - cast_unsigned w32 first)) % 2 ^ 32) q e))
    forms (form.SparseSwitch on keys targets) h = targets_held p o f floats reg w cs g tw t (form.SparseSwitch on keys targets) h refl (switch_target (signed false (number g on)) keys targets) (first_in (n + 1) targets)
        (λ q e. later_in q (n + 1) targets (switch_in (signed false (number g on)) keys targets q e))
    forms (form.Cmp op to x y) h = words p o f floats reg w cs g tw t (form.Cmp op to x y) h to (comparison floats op (number g x) (number g y)) refl (first_in (n + 1) [])
    forms (form.If test x y target) h = branches p o f floats reg w cs g tw t (form.If test x y target) h refl (passes test (register g x) (register g y)) target (first_in (n + 1) (target ∷ [])) (later_in target (n + 1) (target ∷ []) (first_in target []))
    forms (form.IfZero test x target) h = branches p o f floats reg w cs g tw t (form.IfZero test x target) h refl (passes test (register g x) (Word 0)) target (first_in (n + 1) (target ∷ [])) (later_in target (n + 1) (target ∷ []) (first_in target []))
    forms (form.ArrayGet item to array index) h = gets p o f floats reg w cs g tw t item to array index h
    forms (form.ArrayPut item from array index) h = puts_items p o f floats reg w cs g tw t item from array index h
    forms (form.InstanceGet item to on field) h = instance_gets p o f floats reg w cs g tw t item to on field h
    forms (form.InstancePut item from on field) h = instance_puts p o f floats reg w cs g tw t item from on field h
    forms (form.StaticGet item to field) h = static_gets p o f floats reg w cs g tw t item to field h
    forms (form.StaticPut item from field) h = static_puts p o f floats reg w cs g tw t item from field h
    forms (form.Invoke call.Static k args) h = static_calls p o f floats reg finds w cs g tw t k args h
    forms (form.Invoke call.Direct k args) h = direct_calls p o f floats reg finds w cs g tw t k args h
    forms (form.Invoke call.Super k args) h = super_calls p o f floats reg finds w cs g tw t k args h
    forms (form.Invoke call.Virtual k args) h = virtual_calls p o f floats reg finds w cs g tw t k args h
    forms (form.Invoke call.Interface k args) h = interface_calls p o f floats reg finds w cs g tw t k args h
    forms (form.Unary op to from) h = unaries p o f floats reg w cs g tw t op to from h
    forms (form.Binary op to x y) h = binaries_held p o f floats reg w cs g tw t op to x y h
    forms (form.Literal op to x value) h = literals_held p o f floats reg w cs g tw t op to x value h

    -- each step of a typed frame in a typed world goes on
    pub steps_typed : LeadsPlainly (setting p o f floats reg) (bodies_of p) (states p o f floats reg) w cs g (outcome_at (setting p o f floats reg) (bodies_of p) (need_of (face_of p f) cs) w g)
    steps_typed = let here = at_form p o f floats reg w g t in subst (λ y. D (effect_of (setting p o f floats reg) y w g)) (sym (its_form here.0 here.1)) (forms here.0 here.1)
      where
        its_form : (x : Form) → I x → form_of (bodies_of p) g ≡ Some x
        its_form x h = ap (λ y. option_and_then (λ b. slice_get b.forms g.position) y) (ap (bodies_of p) t.of ∙ t.in_method.has_body) ∙ h.has
