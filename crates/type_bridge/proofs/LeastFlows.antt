-- The least flow of a method by numbers is the least one by names, and where it breaks the method is ill typed by names.
use Rattle.std.proofs.Common.{◌≡◌, ℕ, Bool, true, Option, Some, None, refl, sym, ap, ◌∙◌, subst}
use Rattle.std.specs.Prelude.{◌&&◌, ◌||◌, not, nat_eq, slice_get, option_and_then}
use Rattle.std.specs.Option.{option_map}
use Rattle.std.proofs.lemmas.Option.{slice_get-map}
use Rattle.hierarchy.specs.Shapes.{IsResolved}
use Rattle.hierarchy.specs.declared.build.Hierarchy.{Hierarchy}
use Rattle.insn_set.specs.declared.form.Insn.{Insn}
use Rattle.program_model.specs.ProgramRules.{is_well_formed}
use Rattle.program_model.specs.Lookups.{method_at}
use Rattle.program_model.specs.declared.body.Body.{Body}
use Rattle.program_model.specs.declared.program.Class.{Class}
use Rattle.program_model.specs.declared.program.Method.{Method}
use Rattle.program_model.specs.declared.program.MethodAt.{MethodAt}
use Rattle.program_model.specs.declared.program.Program.{Program}
use Rattle.dalvik_defs.specs.Naming.{type_at, form_of, body_of, named_class, named_method, named}
use Rattle.dalvik_defs.specs.declared.forms.Form.{Form}
use Rattle.pass_defs.specs.Demands as asked
use Rattle.pass_defs.specs.Kinds as name
use Rattle.pass_defs.specs.Registers as by_name
use Rattle.pass_defs.specs.Typed as typed
use Rattle.verify.specs.declared.fault.TypeFault.TheVariants as fault
use Rattle.verify.specs.declared.setting.Setting.{Setting}
use Rattle.verify.specs.declared.tables.Tables.{Tables}
use Rattle.verify.specs.declared.typed.Verifier.{Verifier}
use Rattle.verify.specs.Entry.{begun}
use Rattle.verify.specs.Flow.{place_at}
use Rattle.verify.specs.Frames.{Kinds}
use Rattle.verify.specs.Methods.{constructs, receiver_of, HasNone, IsFor, RefusesAt, RefusesFor}
use Rattle.verify.specs.Names.{parameters_of}
use Rattle.verify.specs.Supers.{Finds}
use Rattle.verify.specs.Typings.{Table, IsUnder, IsLeastFlow, break_in, break_at}
use Rattle.type_bridge.specs.Views.{kinds_named, table_named}
use Rattle.type_bridge.proofs.BackTypings.{table_numbered}
use Rattle.type_bridge.proofs.Bodies.{IsCode}
use Rattle.type_bridge.proofs.Flows.{IsNamedFlow, flow_named, flow_numbered}
use Rattle.type_bridge.proofs.Grounds.{IsSet}
use Rattle.type_bridge.proofs.Judged.{state_is}
use Rattle.type_bridge.proofs.Least.{begins, tables_at, round, state_under}
use Rattle.type_bridge.proofs.Places.{fault_named}
use Rattle.type_bridge.proofs.Programs.{program, ground, body, found, entry_same}
use Rattle.type_bridge.proofs.Receivers.{least_flow_holds}

module _ (s : Setting) (c : Class) (m : Method) (i : IsSet s c m) (b : Body) (code : IsCode s.program.now m b) (finds : Finds s.program.now s.class b.insns s.found.now) (x : Table) where
  abbrev p : Program
  p = s.program.now

  abbrev t : Tables
  t = s.tables.now

  abbrev own : name.Kind
  own = name.kind_of (named p) (type_at p c.name)

  abbrev entry : Kinds
  entry = begun s b (receiver_of c s.class m (constructs t m)) (parameters_of p m.name)

  abbrev here : typed.Table
  here = table_named p own x

  abbrev IsNamed : typed.Table → Type 0
  IsNamed u = IsNamedFlow s c m i b code finds u

  module _ (h : IsLeastFlow s b entry x) where
    here_flow : IsNamed here
    here_flow = flow_named s c m i b code finds x h.flow

    below_flow : (u : typed.Table) → IsNamed u → IsUnder t x (table_numbered s c m i b code finds u)
    below_flow u y = h.least (table_numbered s c m i b code finds u) (flow_numbered s c m i b code finds u y)

    pub least_flow_named : typed.IsLeastFlow (named p) (named_class p c) (named_method p m) (body_of p b) here
    least_flow_named = record {
      flow = here_flow;
      least = λ u y. tables_at (named p) here u (here_flow.long ∙ sym y.long)
          (state_under s c m i b code finds x IsNamed here_flow below_flow (least_flow_holds s i.told.meets b entry (begins s c m i b code finds x) x h) u y);
    }

    -- a test by name of a position at which the form and the kinds are these
    abbrev ill : ℕ → Form → by_name.Kinds → Bool
    ill r f a = asked.is_refused (named p) (named_class p c) (named_method p m) a f r || (typed.is_wrong (named p) (named_class p c) (named_method p m) a f && nat_eq r 0)

    turned : (z : Bool) → z ≡ true → not (not z) ≡ true
    turned true e = refl
    turned z e = ap (λ z. not (not z)) e

    pub ill_named : (n r : ℕ) → break_at s b x n ≡ Some r → typed.is_ill_at (named p) (named_class p c) (named_method p m) (body_of p b) here n r ≡ true
    ill_named n r e =
        ap (λ (o : Option Form). not (elim o as (λ o. Bool) [ Some f ↦ elim (typed.state_at here n) as (λ o. Bool) [ Some a ↦ not (ill r f a) | None ↦ true ] | None ↦ true ])) (slice_get-map (form_of p) b.insns n)
        ∙ ap (λ (z : Option by_name.Kinds). not (elim (option_map (form_of p) (slice_get b.insns n)) as (λ o. Bool) [ Some f ↦ elim z as (λ o. Bool) [ Some a ↦ not (ill r f a) | None ↦ true ] | None ↦ true ])) (state_is p own x n)
        ∙ by (slice_get b.insns n) (place_at x n) refl refl e
      where
        by : (o : Option Insn) (z : Option Kinds) → slice_get b.insns n ≡ o → place_at x n ≡ z → break_in s n o z ≡ Some r
            → not (elim (option_map (form_of p) o) as (λ o. Bool) [ Some f ↦ elim (option_map (kinds_named p own) z) as (λ o. Bool) [ Some a ↦ not (ill r f a) | None ↦ true ] | None ↦ true ]) ≡ true
        by None z g k e = absurd (cc)
        by (Some y) None g k e = absurd (cc)
        by (Some y) (Some a) g k e = turned (ill r (form_of p y) (kinds_named p own a))
            (fault_named s c m i n a (round s c m i b code finds x IsNamed here_flow below_flow n a k) y (code.numbers n y g) (finds n y g) r e)

  pub ill_typed_named : (n r : ℕ) → IsLeastFlow s b entry x → break_at s b x n ≡ Some r → typed.IsIllTyped (named p) (named_class p c) (named_method p m) (body_of p b) n r
  ill_typed_named n r h e = record { table = here; least = least_flow_named h; ill = ill_named h n r e }

-- ---- methods

module _ (p : Program) (h : Hierarchy) (w : is_well_formed p ≡ true) (r : IsResolved p h) (v : Verifier) (f : IsFor p h v) where
  abbrev IsIll : Class → Method → Body → ℕ → ℕ → Type 0
  IsIll c m b n q = typed.IsIllTyped (named p) (named_class p c) (named_method p m) (body_of p b) n q

  ill_here : (c : Class) (k : ℕ) (m : Method) (j n q : ℕ) → slice_get p.classes k ≡ Some c → slice_get c.methods j ≡ Some m → (o : HasNone v c k m n q) → IsIll c m o.body n q
  ill_here c k m j n q is_class is_method o =
      let s = o.setting in
      let b = o.body in
      let g = ground p h w r v f c k m j b is_class is_method o.has s o.is in
      let i = body p h w r v f c k m j b is_class is_method o.has s o.is in
      let z = found p h w r v f c k m j b is_class is_method o.has s o.is o.finds in
      subst (λ d. typed.IsIllTyped (named d) (named_class d c) (named_method d m) (body_of d b) n q) (program p h w r v f c k m j b is_class is_method o.has s o.is)
      (ill_typed_named s c m g b i z o.ill.table n q (subst (λ a. IsLeastFlow s b a o.ill.table) (entry_same p h w r v f c k m j b is_class is_method o.has s o.is) o.ill.least) o.ill.breaks)

  ill_at : (at : MethodAt) (k n q : ℕ) → RefusesAt v at (fault.IllTyped k n q) → (c : Class) (m : Method) (b : Body) → slice_get p.classes at.class ≡ Some c → method_at p at ≡ Some m → m.body ≡ Some b → IsIll c m b n q
  ill_at at k n q o c m b e g i =
      let o_class : slice_get p.classes at.class ≡ Some o.class = sym (ap (λ z. slice_get z.classes at.class) f.program) ∙ o.is_class in
      let o_method : method_at p at ≡ Some o.method = sym (ap (λ z. method_at z at) f.program) ∙ o.is_method in
      let x : HasNone v o.class at.class o.method n q = o.refuses.1 in
      let same_class : Some o.class ≡ Some c = sym o_class ∙ e in
      let same_method : Some o.method ≡ Some m = sym o_method ∙ g in
      let one : o.class ≡ c = cc in
      let two : o.method ≡ m = cc in
      let same_body : Some x.body ≡ Some b = sym x.has ∙ ap (λ z. z.body) two ∙ i in
      let three : x.body ≡ b = cc in
      let place : slice_get o.class.methods at.place ≡ Some o.method = sym (ap (option_and_then (λ c. slice_get c.methods at.place)) o_class) ∙ o_method in
      subst (λ z. IsIll z m b n q) one (subst (λ z. IsIll o.class z b n q) two (subst (λ z. IsIll o.class o.method z n q) three (ill_here o.class at.class o.method at.place n q o_class place x)))

pub ill_method : (p : Program) (h : Hierarchy) → is_well_formed p ≡ true → IsResolved p h → (at : MethodAt) (k n r : ℕ) → RefusesFor p h at (fault.IllTyped k n r) → (c : Class) (m : Method) (b : Body) → slice_get p.classes at.class ≡ Some c
    → method_at p at ≡ Some m → m.body ≡ Some b → typed.IsIllTyped (named p) (named_class p c) (named_method p m) (body_of p b) n r
ill_method p h w r at k n q o c m b e g i = ill_at p h w r o.verifier o.is at k n q o.refuses c m b e g i
