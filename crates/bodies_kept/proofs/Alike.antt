-- In the least typing of a method by names originals have the kinds of their copies.
use Rattle.std.proofs.Common.{◌≡◌, ℕ, ◌<◌, ◌+◌, Bool, true, false, true≢false, List, length, Option, Some, None, refl, sym, ap, ◌∙◌, subst}
use Rattle.std.specs.Prelude.{not, slice_get, All}
use Rattle.std.specs.Option.{option_map}
use Rattle.std.proofs.lemmas.List.Elements.{All-weaker}
use Rattle.insn_set.specs.Widths.{is_wide_slot}
use Rattle.insn_set.specs.declared.form.Insn.TheVariants as insn
use Rattle.program_model.specs.ProgramRules.{is_well_formed}
use Rattle.program_model.specs.declared.body.Body.{Body}
use Rattle.program_model.specs.declared.pools.MethodName.{MethodName}
use Rattle.program_model.specs.declared.program.Method.{Method}
use Rattle.program_model.specs.declared.program.Class.{Class}
use Rattle.program_model.specs.declared.program.Program.{Program}
use Rattle.class_defs.proofs.Positions.{entry_at}
use Rattle.class_defs.proofs.WellFormed.{all_at}
use Rattle.hierarchy.specs.Shapes.{IsResolved}
use Rattle.hierarchy.specs.declared.build.Hierarchy.{Hierarchy}
use Rattle.dalvik_defs.specs.Names.{is_wide}
use Rattle.dalvik_defs.specs.Naming.{type_at, body_of, named}
use Rattle.dalvik_defs.specs.declared.forms.Form.{Form}
use Rattle.dalvik_defs.specs.declared.forms.Form.TheVariants as form
use Rattle.pass_defs.specs.Kinds as name
use Rattle.pass_defs.specs.Registers as by_name
use Rattle.pass_defs.specs.Typed.{state_at}
use Rattle.form_laws.proofs.Widths.{narrow_kind}
use Rattle.removal_bridge.proofs.Listed.{some_same, none_same}
use Rattle.insn_regs.specs.Wides.{is_wide_type}
use Rattle.bodies_kept.proofs.Widths.{wide_same}
use Rattle.compact.specs.Narrow.{has_narrow_classes}
use Rattle.compact.specs.Renamed.{HasRegisters}
use Rattle.copy_prop.specs.Stale.{IsCopy}
use Rattle.form_laws.specs.Reread.{Copied, StandsThere}
use Rattle.form_laws.specs.TypedCopies.{HasKind}
use Rattle.bodies_kept.proofs.Forms.{IsOf, insn_for, move_of, spoilt_from}
use Rattle.verify.specs.declared.kinds.Kind.{Kind}
use Rattle.verify.specs.declared.kinds.Kind.TheVariants.{WideLow, WideHigh}
use Rattle.verify.specs.declared.setting.Setting.{Setting}
use Rattle.verify.specs.declared.typed.Verifier.{Verifier}
use Rattle.verify.specs.Entry.{begun}
use Rattle.verify.specs.Flow.{place_at}
use Rattle.verify.specs.Frames.{Kinds, kind_at}
use Rattle.verify.specs.Kinds.{same_kind}
use Rattle.verify.specs.Meeting.{IsMeeting}
use Rattle.verify.specs.Methods.{constructs, receiver_of, IsFor, HasTyping}
use Rattle.verify.specs.Names.{parameters_of, class_or, method_class}
use Rattle.verify.specs.Types.{kind_of}
use Rattle.verify.specs.Typings.{Table}
use Rattle.verify.proofs.Entries.{begun_long}
use Rattle.type_bridge.specs.Views.{kind_named, kinds_named, method_table}
use Rattle.type_bridge.proofs.Bodies.{code}
use Rattle.type_bridge.proofs.Frames.{at_named, low_test, high_test}
use Rattle.type_bridge.proofs.Grounds.{invoke_fits}
use Rattle.type_bridge.proofs.Judged.{state_is}
use Rattle.type_bridge.proofs.Texts.{kind_is}
use Rattle.type_bridge.proofs.Told.{Told, told}
use Rattle.bodies_kept.specs.Alike.{is_half, IsNarrow, IsAlike, AreAlike}
use Rattle.bodies_kept.proofs.Copies.{alike}

not_true : (b : Bool) → not b ≡ true → b ≡ false
not_true true e = absurd (true≢false (sym e))
not_true false e = refl

not_half : (k : Kind) → same_kind k WideLow ≡ false → same_kind k WideHigh ≡ false → is_half k ≡ false
not_half WideLow e f = absurd (true≢false e)
not_half WideHigh e f = absurd (true≢false f)
not_half k e f = refl

-- the class that a method names is of no wide type
pub named_narrow : (p : Program) → has_narrow_classes p ≡ true → (k : ℕ) (m : MethodName) → slice_get p.methods k ≡ Some m → is_wide (type_at p m.class) ≡ false
named_narrow p narrow k m e = wide_same p m.class ∙ not_true (is_wide_type p m.class) (all_at (λ m. not (is_wide_type p m.class)) p.methods k m narrow e)

module _ (p : Program) (h : Hierarchy) (w : is_well_formed p ≡ true) (r : IsResolved p h) (narrow : has_narrow_classes p ≡ true) (v : Verifier) (f : IsFor p h v) where
  all : Told p v.tables
  all = told p h v w r.of f

  -- a type that isn't wide has no half as its kind
  type_whole : (k : ℕ) → is_wide (type_at p k) ≡ false → is_half (kind_of v.tables k) ≡ false
  type_whole k e =
      let kind = kind_is p v.tables all k in
      let n = narrow_kind (named p) (type_at p k) e in
      not_half (kind_of v.tables k)
      (sym (low_test p (kind_of v.tables k)) ∙ ap (λ x. name.kind_eq x name.Low) kind ∙ n.0)
      (sym (high_test p (kind_of v.tables k)) ∙ ap (λ x. name.kind_eq x name.High) kind ∙ n.1)

  call_whole : (m : ℕ) → m < length p.methods → is_half (kind_of v.tables (method_class p m)) ≡ false
  call_whole m lt =
      let e = entry_at p.methods m lt in
      subst (λ o. is_half (kind_of v.tables (class_or o)) ≡ false) (sym e.1) (type_whole e.0.class (named_narrow p narrow m e.0 e.1))

  module _ (c : Class) (k : ℕ) (m : Method) (j : ℕ) (b : Body) (is_class : slice_get p.classes k ≡ Some c) (is_method : slice_get c.methods j ≡ Some m) (has : m.body ≡ Some b)
      (room : HasRegisters b) (own : is_wide (type_at p c.name) ≡ false) (x : Table) (o : HasTyping v c k m b x) where
    abbrev s : Setting
    s = o.setting

    program : s.program.now ≡ p
    program = o.is.program ∙ f.program

    narrow_here : IsNarrow s b
    narrow_here = record {
      room = room;
      calls = λ n q kind args e.
          subst (λ t. is_half (kind_of t (method_class s.program.now q)) ≡ false) (sym o.is.tables)
          (subst (λ z. is_half (kind_of v.tables (method_class z q)) ≡ false) (sym program)
          (call_whole q (invoke_fits p kind q args ((code p w all.sound k c j m b is_class is_method has).numbers n (insn.Invoke kind q args) e))));
      class =
          subst (λ t. is_half (kind_of t s.kind) ≡ false) (sym o.is.tables)
          (subst (λ z. is_half (kind_of v.tables z) ≡ false) (sym o.is.kind) (type_whole c.name own));
    }

    pub alike_here : (n : ℕ) (a : Kinds) → place_at x n ≡ Some a → AreAlike b n a
    alike_here n a e = alike s b (begun s b (receiver_of c k m (constructs v.tables m)) (parameters_of v.program.now m.name)) x
        (subst IsMeeting (sym o.is.tables) f.meets) narrow_here
        (begun_long s b (receiver_of c k m (constructs v.tables m)) (parameters_of v.program.now m.name)) o.least n a e

    module _ (n : ℕ) (g : Form) (z : Kinds) (at : place_at x n ≡ Some z) (made : name.Kind) where
      abbrev ks : List Kind
      ks = z.registers

      abbrev a : by_name.Kinds
      a = kinds_named p made z

      one_kind : (d : Copied) → IsAlike d.slot d.to d.from ks → HasKind a d
      one_kind d y = record { same = by (is_wide_slot d.slot) refl; wide = λ w. wide (y.wide w) }
        where
          by : (b : Bool) → is_wide_slot d.slot ≡ b → by_name.kind_at a.registers d.from ≡ by_name.kind_at a.registers d.to
          by false w = at_named p ks d.from ∙ ap (kind_named p) (y.narrow w).0 ∙ sym (at_named p ks d.to)
          by true w = let u = y.wide w in at_named p ks d.from ∙ ap (kind_named p) (u.1.0 ∙ sym u.0.0) ∙ sym (at_named p ks d.to)

          wide : ((kind_at ks d.to ≡ WideLow) × (kind_at ks (d.to + 1) ≡ WideHigh)) × ((kind_at ks d.from ≡ WideLow) × (kind_at ks (d.from + 1) ≡ WideHigh))
              → (by_name.kind_at a.registers d.to ≡ name.Low) × ((by_name.kind_at a.registers (d.to + 1) ≡ name.High) × (by_name.kind_at a.registers (d.from + 1) ≡ name.High))
          wide u = (
            at_named p ks d.to ∙ ap (kind_named p) u.0.0,
            (at_named p ks (d.to + 1) ∙ ap (kind_named p) u.0.1, at_named p ks (d.from + 1) ∙ ap (kind_named p) u.1.1),
          )

      one : (d : Copied) → StandsThere (body_of p b) n g d → HasKind a d
      one d y =
          let move : IsOf p b d.at (form.Move d.slot d.to d.from) = insn_for p b d.at (form.Move d.slot d.to d.from) y.copy in
          let copy : IsCopy b d.at d.slot d.to d.from = move.has_insn ∙ ap Some (move_of p move.insn d.slot d.to d.from move.same) in
          one_kind d (alike_here n z at d.at d.slot d.to d.from copy y.stands.apart (λ q. y.stands.kept (spoilt_from p b d.at d.slot d.to d.from n q)))

    abbrev made : name.Kind
    made = name.kind_of (named p) (type_at p c.name)

    -- so it is by name
    pub have_kinds : (n : ℕ) (g : Form) (a : by_name.Kinds) → state_at (method_table p c x) n ≡ Some a → (cs : List Copied) → All (StandsThere (body_of p b) n g) cs → All (HasKind a) cs
    have_kinds n g a e cs stand = by (place_at x n) refl (sym (state_is p made x n) ∙ e)
      where
        by : (y : Option Kinds) → place_at x n ≡ y → option_map (kinds_named p made) y ≡ Some a → All (HasKind a) cs
        by None at i = none_same a i
        by (Some z) at i =
            let same : kinds_named p made z ≡ a = some_same (kinds_named p made z) a i in
            subst (λ a. All (HasKind a) cs) same (All-weaker (StandsThere (body_of p b) n g) (HasKind (kinds_named p made z)) (one n g z at made) cs stand)
