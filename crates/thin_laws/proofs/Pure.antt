-- A pure form does no more than write its registers, where the classes that are trivially initialised are done.
use Rattle.std.proofs.Common.{◌≡◌, ℕ, suc, ◌+◌, pos, Bool, true, false, true≢false, refl, sym, ap, ◌∙◌, subst}
use Rattle.std.specs.Prelude.{Option, Some, None, nat_eq, not, ◌||◌, slice_set, length}
use Rattle.std.specs.Option.{option_map}
use Rattle.std.specs.Ordering.{int_eq}
use Rattle.std.specs.Int.{w32, cast_unsigned}
use Rattle.lemmas.proofs.Bools.{clash, not_true}
use Rattle.insn_set.specs.Registers.{in_operand}
use Rattle.insn_set.specs.Flow.{divides, divides_by_literal}
use Rattle.insn_set.specs.declared.ops.Item.{Item}
use Rattle.insn_set.specs.declared.ops.Item.TheVariants as item
use Rattle.insn_set.specs.declared.ops.Slot.{Slot}
use Rattle.insn_set.specs.declared.ops.Slot.TheVariants as slot
use Rattle.insn_set.specs.declared.ops.LiteralOp.{LiteralOp}
use Rattle.insn_set.specs.declared.ops.LiteralOp.TheVariants as literals
use Rattle.dalvik_defs.specs.Names.{Text}
use Rattle.dalvik_defs.specs.Arith.{Kind, Add, Div, Rem, answer, literal_answer}
use Rattle.dalvik_defs.specs.Operators.{Sort, OnWord, OnWide, Shifts, OnFloat, OnDouble, sort_of, Number, OneWord, OneWide, unary_answer}
use Rattle.dalvik_defs.specs.Face.{Bodies, place_of, face_of, bodies_of, is_defined}
use Rattle.dalvik_defs.specs.Find.{finds_field}
use Rattle.dalvik_defs.specs.Initialised.{is_trivial}
use Rattle.dalvik_defs.specs.Outer.{Outer}
use Rattle.dalvik_defs.specs.Quiet.{EndsWithin, quiet_within}
use Rattle.dalvik_defs.specs.State.{World, Classes, Done}
use Rattle.dalvik_defs.specs.declared.state.Value.{Value}
use Rattle.dalvik_defs.specs.declared.state.Value.TheVariants.{Word, Low, High}
use Rattle.dalvik_defs.specs.declared.state.Frame.{Frame}
use Rattle.dalvik_defs.specs.Effect.{Goes, write, write_item, next}
use Rattle.dalvik_defs.specs.ActNumber.{number, word, gives_word, gives_wide, binary, sets_number}
use Rattle.dalvik_defs.specs.Fields.{static_value}
use Rattle.dalvik_defs.specs.Outcome.{Stays, Ready, need_if, need_of, when_ready, reads_static, reads_value, outcome}
use Rattle.dalvik_defs.specs.Happens.{Setting, effect_of}
use Rattle.dalvik_defs.specs.Stack.{form_at}
use Rattle.dalvik_defs.specs.Step.{setting_of}
use Rattle.dalvik_defs.specs.declared.names.FieldKey.{FieldKey}
use Rattle.dalvik_defs.specs.declared.forms.Form.{Form}
use Rattle.dalvik_defs.specs.declared.forms.Form.TheVariants as form
use Rattle.dalvik_defs.specs.declared.program.NamedField.{NamedField}
use Rattle.dalvik_defs.specs.declared.program.NamedProgram.{NamedProgram}
use Rattle.dalvik_defs.specs.declared.tables.Framework.{Framework}
use Rattle.dalvik_defs.specs.declared.tables.Floats.{Floats}
use Rattle.dalvik_defs.proofs.Frames.{now}
use Rattle.dalvik_defs.proofs.Quiet.{trivial_quiet}
use Rattle.pass_defs.specs.Bare.{writes}
use Rattle.pass_defs.specs.Pure.{is_pure, is_quiet_field}
use Rattle.program_laws.proofs.Agree.{agree_refl, agree_on, agree_write}
use Rattle.program_laws.proofs.Acts.{wide_sort, is_division, divides_sort, sort_width, sort_divides, wide_number, unary_width}
use Rattle.thin_laws.specs.Cleaning.{IsFine}
use Rattle.thin_laws.proofs.Thinning.{Leaps, leap_by}

answered : (k : Kind) (wide : Bool) (a b : ℕ) → is_division k ≡ false → (n : ℕ) × (answer k wide a b ≡ Some n)
answered Div wide a b e = clash true refl e
answered Rem wide a b e = clash true refl e
answered Add wide a b e = (_, refl)
answered k wide a b e = (_, refl)

if_answered : (b n : ℕ) → nat_eq b 0 ≡ false → (elim (nat_eq b 0) as (λ b. Option ℕ) [ true ↦ None | false ↦ Some n ]) ≡ Some n
if_answered b n e = ap (λ b. elim b as (λ b. Option ℕ) [ true ↦ None | false ↦ Some n ]) e

literal_answered : (op : LiteralOp) (a b : ℕ) → (divides_by_literal op ≡ true → nat_eq b 0 ≡ false) → (n : ℕ) × (literal_answer op a b ≡ Some n)
literal_answered literals.DivInt a b h = (_, if_answered b _ (h refl))
literal_answered literals.RemInt a b h = (_, if_answered b _ (h refl))
literal_answered op a b h = (_, refl)

module _ (s : Setting) (find : Bodies) (w : World) (c : Classes) (f : Frame) (x : Form) (h : form_at find f ≡ Some x) where
  stays_by : (g : Frame) → outcome s.face (need_of s.face c) (effect_of s (Some x) w f) w f ≡ Stays w g None → now s find w c f ≡ Stays w g None
  stays_by g e = ap (λ y. outcome s.face (need_of s.face c) (effect_of s y w f) w f) h ∙ e

  goes_by : (g : Frame) → effect_of s (Some x) w f ≡ Goes w g → now s find w c f ≡ Stays w g None
  goes_by g e = stays_by g (ap (λ y. outcome s.face (need_of s.face c) y w f) e)

  pub one : (to : ℕ) (v : Value) → ((r : ℕ) → writes x r ≡ false → nat_eq r to ≡ false) → now s find w c f ≡ Stays w (next (write f to v)) None → Leaps s find w c f x (f.position + 1)
  one to v o e = leap_by s find w c f x (f.position + 1) (slice_set f.registers to v) e (agree_write (λ r. writes x r ≡ false) f.registers to v o)

  or_first : (a b : Bool) → (a || b) ≡ false → a ≡ false
  or_first false b e = refl
  or_first true b e = absurd (true≢false e)

  or_second : (a b : Bool) → (a || b) ≡ false → b ≡ false
  or_second false b e = e
  or_second true b e = absurd (true≢false e)

  pub two : (to : ℕ) (v u : Value) → ((r : ℕ) → writes x r ≡ false → in_operand true to r ≡ false) → now s find w c f ≡ Stays w (next (write (write f to v) (to + 1) u)) None → Leaps s find w c f x (f.position + 1)
  two to v u o e = leap_by s find w c f x (f.position + 1) (slice_set (slice_set f.registers to v) (to + 1) u) e
      (agree_on (λ r. writes x r ≡ false) (λ r. writes x r ≡ false) (λ r k. k) f.registers (slice_set f.registers to v) (slice_set (slice_set f.registers to v) (to + 1) u)
      (agree_write (λ r. writes x r ≡ false) f.registers to v (λ r k. or_first (nat_eq r to) (nat_eq r (to + 1)) (o r k)))
      (agree_write (λ r. writes x r ≡ false) (slice_set f.registers to v) (to + 1) u (λ r k. or_second (nat_eq r to) (nat_eq r (to + 1)) (o r k))))

  in_number : (n : Number) (to : ℕ) → ((r : ℕ) → writes x r ≡ false → in_operand (wide_number n) to r ≡ false) → effect_of s (Some x) w f ≡ sets_number n w f to → Leaps s find w c f x (f.position + 1)
  in_number (OneWord n) to o e = one to (Word n) o (goes_by _ e)
  in_number (OneWide n) to o e = two to (Low n) (High n) o (goes_by _ e)

  in_sort : (t : Sort) (to a b : ℕ) → divides_sort t ≡ false → ((r : ℕ) → writes x r ≡ false → in_operand (wide_sort t) to r ≡ false) → effect_of s (Some x) w f ≡ binary s.floats t w f to a b → Leaps s find w c f x (f.position + 1)
  in_sort (OnWord k) to a b d o e = let n = answered k false (word f a) (word f b) d in one to (Word n.0) o (goes_by _ (e ∙ ap (λ y. gives_word y w f to) n.1))
  in_sort (OnWide k) to a b d o e = let n = answered k true (number f a) (number f b) d in two to (Low n.0) (High n.0) o (goes_by _ (e ∙ ap (λ y. gives_wide y w f to) n.1))
  in_sort (Shifts k) to a b d o e = let n = answered k true (number f a) (number f b) d in two to (Low n.0) (High n.0) o (goes_by _ (e ∙ ap (λ y. gives_wide y w f to) n.1))
  in_sort (OnFloat op) to a b d o e = one to _ o (goes_by _ e)
  in_sort (OnDouble op) to a b d o e = two to _ _ o (goes_by _ e)

-- where the class of a trivially initialised field is done
module _ (p : NamedProgram) (o : Outer) (framework : Framework) (floats : Floats) (ends : (t : Text) → EndsWithin p (length p.classes) t) where
  abbrev s : Setting
  s = setting_of p o framework floats

  abbrev calm : Text → Bool
  calm = quiet_within (face_of p framework) (suc (length p.classes))

  abbrev AllDone : Classes → Type 0
  AllDone c = (t : Text) → calm t ≡ true → c t ≡ Done

  ready_class : (c : Classes) (t : Text) → AllDone c → is_trivial p t ≡ true → need_of s.face c t ≡ Ready
  ready_class c t d e = ap (need_if (is_defined s.face t)) (d t (trivial_quiet p framework t (ends t) e)) ∙ by (is_defined s.face t)
    where
      by : (b : Bool) → need_if b Done ≡ Ready
      by true = refl
      by false = refl

  module _ (w : World) (c : Classes) (f : Frame) (d : AllDone c) where
    abbrev Comes : Form → Type 0
    Comes x = form_at (bodies_of p) f ≡ Some x → Leaps s (bodies_of p) w c f x (f.position + 1)

    read_field : (i : Item) (to : ℕ) (k : FieldKey) → is_quiet_field p k ≡ true → Comes (form.StaticGet i to k)
    read_field i to k q h = by (finds_field p k) refl q
      where
        at : (r : Text × NamedField) → finds_field p k ≡ Some r → is_trivial p r.0 ≡ true → (v : Value) × (now s (bodies_of p) w c f ≡ Stays w (next (write_item i f to v)) None)
        at r e t = (
          static_value w k (place_of r.0 r.1),
          stays_by s (bodies_of p) w c f (form.StaticGet i to k) h _
              (ap (λ y. reads_static (need_of s.face c) i to k w f (option_map (λ z. place_of z.0 z.1) y)) e
              ∙ ap (λ n. when_ready n w r.0 (reads_value i to (Some (static_value w k (place_of r.0 r.1))) w f)) (ready_class c r.0 d t)),
        )

        wide : (i : Item) (v : Value) → now s (bodies_of p) w c f ≡ Stays w (next (write_item i f to v)) None → form_at (bodies_of p) f ≡ Some (form.StaticGet i to k) → Leaps s (bodies_of p) w c f (form.StaticGet i to k) (f.position + 1)
        wide item.Wide v e h = two s (bodies_of p) w c f (form.StaticGet item.Wide to k) h to _ _ (λ r k. k) e
        wide item.Plain v e h = one s (bodies_of p) w c f (form.StaticGet item.Plain to k) h to v (λ r k. k) e
        wide i v e h = one s (bodies_of p) w c f (form.StaticGet i to k) h to v (λ r k. k) e

        by : (y : Option (Text × NamedField)) → finds_field p k ≡ y → (elim y as (λ y. Bool) [ Some z ↦ is_trivial p z.0 | None ↦ false ]) ≡ true → Leaps s (bodies_of p) w c f (form.StaticGet i to k) (f.position + 1)
        by None e t = absurd (true≢false (sym t))
        by (Some r) e t = let v = at r e t in wide i v.0 v.1 h

    goes_slot : (sl : Slot) (to : ℕ) → Comes (form.MoveResult sl to)
    goes_slot slot.Word to h = one s (bodies_of p) w c f _ h to _ (λ r k. k) (goes_by s (bodies_of p) w c f _ h _ refl)
    goes_slot slot.Object to h = one s (bodies_of p) w c f _ h to _ (λ r k. k) (goes_by s (bodies_of p) w c f _ h _ refl)
    goes_slot slot.Wide to h = two s (bodies_of p) w c f _ h to _ _ (λ r k. k) (goes_by s (bodies_of p) w c f _ h _ refl)

    moves : (sl : Slot) (to from : ℕ) → Comes (form.Move sl to from)
    moves slot.Word to from h = one s (bodies_of p) w c f _ h to _ (λ r k. k) (goes_by s (bodies_of p) w c f _ h _ refl)
    moves slot.Object to from h = one s (bodies_of p) w c f _ h to _ (λ r k. k) (goes_by s (bodies_of p) w c f _ h _ refl)
    moves slot.Wide to from h = two s (bodies_of p) w c f _ h to _ _ (λ r k. k) (goes_by s (bodies_of p) w c f _ h _ refl)

    pub pure_leaps : (x : Form) → IsFine x → is_pure p x ≡ true → Comes x
    pure_leaps form.Nop n e h = leap_by s (bodies_of p) w c f form.Nop (f.position + 1) f.registers (goes_by s (bodies_of p) w c f form.Nop h (next f) refl) (agree_refl (λ r. writes form.Nop r ≡ false) f.registers)
    pure_leaps (form.Move sl to from) n e h = moves sl to from h
    pure_leaps (form.MoveResult sl to) n e h = goes_slot sl to h
    pure_leaps (form.MoveException to) n e h = one s (bodies_of p) w c f _ h to _ (λ r k. k) (goes_by s (bodies_of p) w c f _ h _ refl)
    pure_leaps (form.Const to value) n e h = one s (bodies_of p) w c f _ h to _ (λ r k. k) (goes_by s (bodies_of p) w c f _ h _ refl)
    pure_leaps (form.ConstWide to value) n e h = two s (bodies_of p) w c f _ h to _ _ (λ r k. k) (goes_by s (bodies_of p) w c f _ h _ refl)
    pure_leaps (form.ConstString to text) n e h = one s (bodies_of p) w c f _ h to _ (λ r k. k) (goes_by s (bodies_of p) w c f _ h _ refl)
    pure_leaps (form.ConstClass to kind) n e h = one s (bodies_of p) w c f _ h to _ (λ r k. k) (goes_by s (bodies_of p) w c f _ h _ refl)
    pure_leaps (form.InstanceOf to from kind) n e h = one s (bodies_of p) w c f _ h to _ (λ r k. k) (goes_by s (bodies_of p) w c f _ h _ refl)
    pure_leaps (form.Cmp op to a b) n e h = one s (bodies_of p) w c f _ h to _ (λ r k. k) (goes_by s (bodies_of p) w c f _ h _ refl)
    pure_leaps (form.StaticGet i to k) n e h = read_field i to k e h
    pure_leaps (form.Unary op to from) n e h = in_number s (bodies_of p) w c f (form.Unary op to from) h (unary_answer floats op (number f from)) to
        (λ r k. subst (λ b. in_operand b to r ≡ false) (sym (unary_width floats op (number f from))) k) refl
    pure_leaps (form.Binary op to a b) n e h = in_sort s (bodies_of p) w c f (form.Binary op to a b) h (sort_of op) to a b (sort_divides op ∙ not_true (divides op) e) (λ r k. subst (λ b. in_operand b to r ≡ false) (sym (sort_width op)) k) refl
    pure_leaps (form.Literal op to from value) n e h =
        let m = literal_answered op (word f from) (cast_unsigned w32 value) n in
        one s (bodies_of p) w c f (form.Literal op to from value) h to (Word m.0) (λ r k. k) (goes_by s (bodies_of p) w c f (form.Literal op to from value) h _ (ap (λ y. gives_word y w f to) m.1))
    pure_leaps x n e h = absurd (true≢false (sym e))
