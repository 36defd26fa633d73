-- What a form leaves in registers that it neither writes nor casts: all change by one rule, which keeps halves of wides and
-- makes none.
use Rattle.std.proofs.Common.{◌≡◌, ℕ, zero, suc, ◌+◌, ◌-◌, Bool, true, false, true≢false, nat_eq, List, [], ◌∷◌, map, length, Option, Some, None, refl, sym, ap, ◌∙◌, arith, eqb-true}
use Rattle.std.specs.Prelude.{◌||◌, not, if◌then◌else◌}
use Rattle.std.proofs.lemmas.Bool.{ne_eqb}
use Rattle.lemmas.proofs.Bools.{clash, neither_of, not_false, or_left, or_right, untrue}
use Rattle.insn_set.specs.Registers.{in_operand, writes_of}
use Rattle.insn_set.specs.Widths.{is_wide_slot, is_wide_item, unary_writes_wide, binary_is_wide}
use Rattle.insn_set.specs.declared.form.Insn.{Insn}
use Rattle.insn_set.specs.declared.form.Insn.TheVariants as insn
use Rattle.insn_set.specs.declared.ops.InvokeKind.{InvokeKind}
use Rattle.insn_set.specs.declared.ops.InvokeKind.TheVariants as call
use Rattle.insn_set.specs.declared.ops.Item.{Item}
use Rattle.insn_set.specs.declared.ops.Item.TheVariants as item
use Rattle.insn_set.specs.declared.ops.Slot.{Slot}
use Rattle.insn_set.specs.declared.ops.Slot.TheVariants as slot
use Rattle.copy_prop.specs.Stale.{casts}
use Rattle.verify.specs.declared.kinds.Kind.{Kind}
use Rattle.verify.specs.declared.kinds.Kind.TheVariants.{Undefined, Word, Zero, WideLow, WideHigh, Fresh, FreshThis, Null, Program as ClassAt, Array, Reference}
use Rattle.verify.specs.declared.setting.Setting.{Setting}
use Rattle.verify.specs.declared.shapes.Shape.{Shape}
use Rattle.verify.specs.declared.shapes.Shape.TheVariants as shape
use Rattle.verify.specs.After.{constant_kind, moved, got_object, got, constructed, begun_call, called_by, receiver_register}
use Rattle.verify.specs.Demands.{unless, is_movable, is_result}
use Rattle.verify.specs.Faults.{fault_of}
use Rattle.verify.specs.Fits.{fits}
use Rattle.verify.specs.Flow.{form_after}
use Rattle.verify.specs.Frames.{Kinds, kind_at, written_kinds}
use Rattle.verify.specs.Kinds.{same_kind, is_number, is_initialised, is_moved, number_kind, replaced, forgotten}
use Rattle.verify.specs.Meeting.{IsMeeting}
use Rattle.verify.specs.Names.{field_kind, method_class, parameters_of}
use Rattle.verify.specs.Reads.{found_at, is_array_of, is_constructed, is_receiver, refused_arguments, refused_received, refused_call, refused_array, refused}
use Rattle.verify.specs.Shapes.{is_wide, is_reference, is_array}
use Rattle.verify.specs.Types.{shape_of, kind_of_class, kind_of_shape, kind_of, reference_kind, cast_kind, is_constructor}
use Rattle.verify.specs.Wrong.{differ, finds_static, wrong_item, wrong_access, wrong_first, wrong_super, static_field, static_method, is_static_call, parameter_words, passed_words, wrong_call, is_wrong}
use Rattle.verify.proofs.Getting.{got_moved}
use Rattle.verify.proofs.Holding.{moved_number, moved_made, array_of_stored}
use Rattle.verify.proofs.Lattice.{same_is}
use Rattle.verify.proofs.Reading.{unless_true, lower_left, no_fault}
use Rattle.bodies_kept.specs.Alike.{is_half}
use Rattle.bodies_kept.proofs.Writes.{is_low, IsLeft, written_at}

-- what a form writes or casts
abbrev pub touches : Insn → ℕ → Bool
touches i q = writes_of i q || casts i q

pub record Shifts (w : ℕ → Bool) (old new : List Kind) : Type 0 where
  pub by : Kind → Kind
  pub low : by WideLow ≡ WideLow
  pub high : by WideHigh ≡ WideHigh
  pub whole : (k : Kind) → is_half k ≡ false → is_half (by k) ≡ false
  pub at : (q : ℕ) → IsLeft w old q → kind_at new q ≡ by (kind_at old q)

itself : (w : ℕ → Bool) (ks : List Kind) → Shifts w ks ks
itself w ks = record { by = λ k. k; low = refl; high = refl; whole = λ k e. e; at = λ q h. refl }

-- what a test of more says
narrower : (v w : ℕ → Bool) (ks : List Kind) (q : ℕ) → ((r : ℕ) → v r ≡ true → w r ≡ true) → IsLeft w ks q → IsLeft v ks q
narrower v w ks q f h = record {
  here = untrue (v q) (λ e. clash (w q) (f q e) h.here);
  low = λ z. untrue (v (q + 1)) (λ e. clash (w (q + 1)) (f (q + 1) e) (h.low z));
  high = λ z. untrue (v (q - 1)) (λ e. clash (w (q - 1)) (f (q - 1) e) (h.high z));
}

puts : (wide : Bool) (r : ℕ) (k : Kind) (w : ℕ → Bool) (ks : List Kind) → is_low k ≡ wide → ((q : ℕ) → in_operand wide r q ≡ true → w q ≡ true) → Shifts w ks (written_kinds r k ks)
puts wide r k w ks e f = record { by = λ k. k; low = refl; high = refl; whole = λ k e. e; at = λ q h. written_at wide r k ks q e (narrower (in_operand wide r) w ks q f h) }

-- ---- how wide a kind is

moved_narrow : (k : Kind) → is_moved k ≡ true → is_low k ≡ false
moved_narrow WideLow e = absurd (true≢false (sym e))
moved_narrow k e = refl

same_wide : (k : Kind) → same_kind k WideLow ≡ true → is_low k ≡ true
same_wide k e = ap is_low (same_is k WideLow e)

number_width : (b : Bool) → is_low (number_kind b) ≡ b
number_width true = refl
number_width false = refl

constant_width : (b : Bool) → is_low (if b then Zero else Word) ≡ false
constant_width true = refl
constant_width false = refl

class_width : (p : Option ℕ) (plain : Bool) → is_low (kind_of_class p plain) ≡ false
class_width (Some c) true = refl
class_width (Some c) false = refl
class_width None plain = refl

cast_width : (h : Shape) → is_low (reference_kind h) ≡ false
cast_width (shape.Class place plain) = class_width place plain
cast_width (shape.Array depth i) = refl
cast_width h = refl

wide_shape : (h : Shape) → is_wide h ≡ true → is_low (kind_of_shape h) ≡ true
wide_shape shape.Wide e = refl
wide_shape h e = absurd (true≢false (sym e))

narrow_shape : (h : Shape) → is_wide h ≡ false → is_low (kind_of_shape h) ≡ false
narrow_shape shape.Wide e = absurd (true≢false e)
narrow_shape (shape.Class place plain) e = class_width place plain
narrow_shape (shape.Array depth i) e = refl
narrow_shape shape.Void e = refl
narrow_shape shape.Int e = refl
narrow_shape (shape.Word i) e = refl

reference_narrow : (h : Shape) → is_reference h ≡ true → is_wide h ≡ false
reference_narrow shape.Wide e = absurd (true≢false (sym e))
reference_narrow h e = refl

array_narrow : (h : Shape) → is_array h ≡ true → is_wide h ≡ false
array_narrow shape.Wide e = absurd (true≢false (sym e))
array_narrow h e = refl

item_width : (i : Item) (h : Shape) → wrong_item i h ≡ false → is_low (kind_of_shape h) ≡ is_wide_item i
item_width item.Wide h e = wide_shape h (not_false (is_wide h) e)
item_width item.Object h e = narrow_shape h (reference_narrow h (not_false (is_reference h) e))
item_width item.Plain h e = narrow_shape h (neither_of (is_wide h) (is_reference h) e).0
item_width item.Boolean h e = narrow_shape h (neither_of (is_wide h) (is_reference h) e).0
item_width item.Byte h e = narrow_shape h (neither_of (is_wide h) (is_reference h) e).0
item_width item.Char h e = narrow_shape h (neither_of (is_wide h) (is_reference h) e).0
item_width item.Short h e = narrow_shape h (neither_of (is_wide h) (is_reference h) e).0

-- ---- kinds that all change

kind_map : (f : Kind → Kind) (ks : List Kind) (r : ℕ) → f Undefined ≡ Undefined → kind_at (map f ks) r ≡ f (kind_at ks r)
kind_map f [] r e = sym e
kind_map f (k ∷ ks) zero e = refl
kind_map f (k ∷ ks) (suc r) e = kind_map f ks r e

forgotten_half : (n : ℕ) (k : Kind) → is_half k ≡ false → is_half (forgotten n k) ≡ false
forgotten_half n (Fresh c m) e = by (nat_eq m n)
  where
    by : (b : Bool) → is_half (if b then Undefined else Fresh c m) ≡ false
    by true = refl
    by false = refl
forgotten_half n Undefined e = refl
forgotten_half n Word e = refl
forgotten_half n Zero e = refl
forgotten_half n WideLow e = e
forgotten_half n WideHigh e = e
forgotten_half n FreshThis e = refl
forgotten_half n Null e = refl
forgotten_half n (ClassAt c) e = refl
forgotten_half n (Array d i) e = refl
forgotten_half n Reference e = refl

forgotten_low : (n : ℕ) (k : Kind) → same_kind (forgotten n k) WideLow ≡ true → same_kind k WideLow ≡ true
forgotten_low n WideLow e = refl
forgotten_low n (Fresh c m) e = by (nat_eq m n) e
  where
    by : (b : Bool) → same_kind (if b then Undefined else Fresh c m) WideLow ≡ true → same_kind (Fresh c m) WideLow ≡ true
    by true e = e
    by false e = e
forgotten_low n k e = e

forgotten_high : (n : ℕ) (k : Kind) → same_kind (forgotten n k) WideHigh ≡ true → same_kind k WideHigh ≡ true
forgotten_high n WideHigh e = refl
forgotten_high n (Fresh c m) e = by (nat_eq m n) e
  where
    by : (b : Bool) → same_kind (if b then Undefined else Fresh c m) WideHigh ≡ true → same_kind (Fresh c m) WideHigh ≡ true
    by true e = e
    by false e = e
forgotten_high n k e = e

makes : (n to type : ℕ) (w : ℕ → Bool) (ks : List Kind) → ((q : ℕ) → in_operand false to q ≡ true → w q ≡ true) → Shifts w ks (written_kinds to (Fresh type n) (map (forgotten n) ks))
makes n to type w ks f = record {
  by = forgotten n;
  low = refl;
  high = refl;
  whole = forgotten_half n;
  at = λ q h. written_at false to (Fresh type n) (map (forgotten n) ks) q refl (narrower (in_operand false to) w (map (forgotten n) ks) q f (record {
    here = h.here;
    low = λ z. h.low (forgotten_low n (kind_at ks q) (sym (ap (λ k. same_kind k WideLow) (kind_map (forgotten n) ks q refl)) ∙ z));
    high = λ z. h.high (forgotten_high n (kind_at ks q) (sym (ap (λ k. same_kind k WideHigh) (kind_map (forgotten n) ks q refl)) ∙ z));
  })) ∙ kind_map (forgotten n) ks q refl;
}

replaces : (old new : Kind) (w : ℕ → Bool) (ks : List Kind) → same_kind WideLow old ≡ false → same_kind WideHigh old ≡ false → same_kind Undefined old ≡ false → is_half new ≡ false → Shifts w ks (map (replaced old new) ks)
replaces old new w ks l h u half = record {
  by = replaced old new;
  low = ap (λ b. if b then new else WideLow) l;
  high = ap (λ b. if b then new else WideHigh) h;
  whole = λ k e. by (same_kind k old) k e;
  at = λ q i. kind_map (replaced old new) ks q (ap (λ b. if b then new else Undefined) u);
}
  where
    by : (b : Bool) (k : Kind) → is_half k ≡ false → is_half (if b then new else k) ≡ false
    by true k e = half
    by false k e = e

-- ---- calls

module _ (s : Setting) (m : IsMeeting s.tables.now) (own : is_half (kind_of s.tables.now s.kind) ≡ false) where
  constructs : (k : Kind) (class : ℕ) (w : ℕ → Bool) (a : Kinds) → is_constructed s k class ≡ true → is_half (kind_of s.tables.now class) ≡ false → Shifts w a.registers (constructed s.tables.now s.kind k a).registers
  constructs (Fresh c n) class w a e half = replaces (Fresh c n) (kind_of s.tables.now c) w a.registers refl refl refl (ap (λ z. is_half (kind_of s.tables.now z)) (eqb-true c class e) ∙ half)
  constructs FreshThis class w a e half = replaces FreshThis (kind_of s.tables.now s.kind) w a.registers refl refl refl own
  constructs k class w a e half = absurd (true≢false (sym e))

  begins : (method : ℕ) (args : List ℕ) (w : ℕ → Bool) (a : Kinds) → is_half (kind_of s.tables.now (method_class s.program.now method)) ≡ false
      → (is_constructor s.tables.now method ≡ true → is_constructed s (kind_at a.registers (receiver_register args)) (method_class s.program.now method) ≡ true)
      → Shifts w a.registers (begun_call s.tables.now s.kind method args a).registers
  begins method args w a half f = by (is_constructor s.tables.now method) refl
    where
      by : (b : Bool) → is_constructor s.tables.now method ≡ b → Shifts w a.registers (if b then constructed s.tables.now s.kind (kind_at a.registers (receiver_register args)) a else a).registers
      by true e = constructs (kind_at a.registers (receiver_register args)) (method_class s.program.now method) w a (f e) half
      by false e = itself w a.registers

  -- a call on a receiver passes a register
  passes : (n : ℕ) (k : InvokeKind) (method : ℕ) → is_static_call k ≡ false → wrong_call s n k method 0 ≡ false → ⊥
  passes n k method p e =
      let g = (neither_of (differ (is_static_call k) (static_method s method) || wrong_super s n k method) (not (nat_eq 0 (passed_words s k method))) e).1 in
      let w : passed_words s k method ≡ parameter_words s method + 1 = ap (λ x. parameter_words s method + (if x then 0 else 1)) p in
      let z : nat_eq 0 (passed_words s k method) ≡ false = ne_eqb 0 (passed_words s k method) (λ q. omega (arith, q, w)) in
      clash (not (nat_eq 0 (passed_words s k method))) (ap not z) g

  module _ (n : ℕ) (a : Kinds) (w : ℕ → Bool) where
    received : (k : InvokeKind) (method : ℕ) (args : List ℕ) → is_static_call k ≡ false → wrong_call s n k method (length args) ≡ false → is_half (kind_of s.tables.now (method_class s.program.now method)) ≡ false
        → ((r : ℕ) → is_receiver s n a.registers k method r ≡ true → is_constructor s.tables.now method ≡ true → is_constructed s (kind_at a.registers r) (method_class s.program.now method) ≡ true)
        → refused_received s n a.registers k method args ≡ None → Shifts w a.registers (begun_call s.tables.now s.kind method args a).registers
    received k method [] p wrong half f e = absurd (passes n k method p wrong)
    received k method (r ∷ rs) p wrong half f e = begins method (r ∷ rs) w a half
        (f r (unless_true (is_receiver s n a.registers k method r) r (lower_left (unless (is_receiver s n a.registers k method r) r) (refused_arguments s a.registers (parameters_of s.program.now method) rs) e)))

    plainly : (method r : ℕ) → (if is_constructor s.tables.now method then is_constructed s (kind_at a.registers r) (method_class s.program.now method) else fits s.tables.now (kind_at a.registers r) (method_class s.program.now method)) ≡ true → is_constructor s.tables.now method ≡ true → is_constructed s (kind_at a.registers r) (method_class s.program.now method) ≡ true
    plainly method r e c = sym (ap (λ b. if b then is_constructed s (kind_at a.registers r) (method_class s.program.now method) else fits s.tables.now (kind_at a.registers r) (method_class s.program.now method)) c) ∙ e

    no_super : (method words : ℕ) → wrong_call s n call.Super method words ≡ false → is_constructor s.tables.now method ≡ true → ⊥
    no_super method words e c =
        let f = (neither_of (differ false (static_method s method) || wrong_super s n call.Super method) (not (nat_eq words (passed_words s call.Super method))) e).0 in
        let g = (neither_of (differ false (static_method s method)) (is_constructor s.tables.now method || finds_static (found_at s n)) f).1 in
        clash (is_constructor s.tables.now method) c (neither_of (is_constructor s.tables.now method) (finds_static (found_at s n)) g).0

    called : (k : InvokeKind) (method : ℕ) (args : List ℕ) → wrong_call s n k method (length args) ≡ false → refused_call s n a.registers k method args ≡ None → is_half (kind_of s.tables.now (method_class s.program.now method)) ≡ false
        → Shifts w a.registers (called_by k s.program.now s.tables.now s.kind method args a).registers
    called call.Static method args wrong e half = itself w a.registers
    called call.Super method args wrong e half = received call.Super method args refl wrong half (λ r q c. absurd (no_super method (length args) wrong c)) e
    called call.Virtual method args wrong e half = received call.Virtual method args refl wrong half (λ r q c. plainly method r q c) e
    called call.Direct method args wrong e half = received call.Direct method args refl wrong half (λ r q c. plainly method r q c) e
    called call.Interface method args wrong e half = received call.Interface method args refl wrong half (λ r q c. plainly method r q c) e

  -- ---- forms

  module _ (n : ℕ) (a : Kinds) where
    abbrev ks : List Kind
    ks = a.registers

    move_narrow : (v : Slot) (from : ℕ) → unless (is_movable v ks from) from ≡ None → is_low (moved v (kind_at ks from)) ≡ is_wide_slot v
    move_narrow slot.Wide from e = refl
    move_narrow slot.Word from e = moved_narrow (kind_at ks from) (unless_true (is_moved (kind_at ks from)) from e)
    move_narrow slot.Object from e = moved_narrow (kind_at ks from) (unless_true (is_moved (kind_at ks from)) from e)

    result_narrow : (v : Slot) (to : ℕ) → unless (is_result v a.result) to ≡ None → is_low a.result ≡ is_wide_slot v
    result_narrow slot.Wide to e = same_wide a.result (unless_true (same_kind a.result WideLow) to e)
    result_narrow slot.Word to e = moved_narrow a.result (moved_number a.result (unless_true (is_number a.result) to e))
    result_narrow slot.Object to e = moved_narrow a.result (moved_made a.result (unless_true (is_initialised a.result) to e))

    got_narrow : (i : Item) (array index : ℕ) → refused_array s ks i array index ≡ None → is_low (got s.tables.now i (kind_at ks array)) ≡ is_wide_item i
    got_narrow item.Object array index e =
        let p : is_array_of s (kind_at ks array) item.Object ≡ true = unless_true (is_array_of s (kind_at ks array) item.Object) array (lower_left (unless (is_array_of s (kind_at ks array) item.Object) array) (unless (is_number (kind_at ks index)) index) e) in
        moved_narrow (got_object s.tables.now (kind_at ks array)) (got_moved s.tables.now m (kind_at ks array) (array_of_stored s (kind_at ks array) item.Object p))
    got_narrow item.Wide array index e = refl
    got_narrow item.Plain array index e = refl
    got_narrow item.Boolean array index e = refl
    got_narrow item.Byte array index e = refl
    got_narrow item.Char array index e = refl
    got_narrow item.Short array index e = refl

    field_narrow : (static : Bool) (i : Item) (field : ℕ) → wrong_access s static i field ≡ false → is_low (kind_of s.tables.now (field_kind s.program.now field)) ≡ is_wide_item i
    field_narrow static i field e = item_width i (shape_of s.tables.now (field_kind s.program.now field)) (neither_of (wrong_item i (shape_of s.tables.now (field_kind s.program.now field))) (differ static (static_field s field)) e).0

    first_word : is_low Word ≡ false
    first_word = refl

    first_low : is_low WideLow ≡ true
    first_low = refl

    first_reference : is_low Reference ≡ false
    first_reference = refl

    at_writes : (i : Insn) (wide : Bool) (to : ℕ) → ((q : ℕ) → writes_of i q ≡ in_operand wide to q) → (q : ℕ) → in_operand wide to q ≡ true → touches i q ≡ true
    at_writes i wide to f q e = or_left (writes_of i q) (casts i q) (f q ∙ e)

    shifts_by : (i : Insn) → ((method : ℕ) (k : InvokeKind) (args : List ℕ) → i ≡ insn.Invoke k method args → is_half (kind_of s.tables.now (method_class s.program.now method)) ≡ false) → is_wrong s n a i ≡ false → refused s n a i ≡ None → Shifts (touches i) ks (form_after s n i a).registers
    shifts_by (insn.Move v to from) c w e = puts (is_wide_slot v) to (moved v (kind_at ks from)) (touches (insn.Move v to from)) ks (move_narrow v from e) (at_writes (insn.Move v to from) (is_wide_slot v) to (λ q. refl))
    shifts_by (insn.MoveResult v to) c w e = puts (is_wide_slot v) to a.result (touches (insn.MoveResult v to)) ks (result_narrow v to e) (at_writes (insn.MoveResult v to) (is_wide_slot v) to (λ q. refl))
    shifts_by (insn.MoveException to) c w e = puts false to a.caught (touches (insn.MoveException to)) ks (moved_narrow a.caught (moved_made a.caught (unless_true (is_initialised a.caught) to e))) (at_writes (insn.MoveException to) false to (λ q. refl))
    shifts_by (insn.Const to value) c w e = puts false to (constant_kind value) (touches (insn.Const to value)) ks (constant_width _) (at_writes (insn.Const to value) false to (λ q. refl))
    shifts_by (insn.ConstWide to value) c w e = puts true to WideLow (touches (insn.ConstWide to value)) ks first_low (at_writes (insn.ConstWide to value) true to (λ q. refl))
    shifts_by (insn.ConstString to string) c w e = puts false to Reference (touches (insn.ConstString to string)) ks first_reference (at_writes (insn.ConstString to string) false to (λ q. refl))
    shifts_by (insn.ConstClass to type) c w e = puts false to Reference (touches (insn.ConstClass to type)) ks first_reference (at_writes (insn.ConstClass to type) false to (λ q. refl))
    shifts_by (insn.InstanceOf to from type) c w e = puts false to Word (touches (insn.InstanceOf to from type)) ks first_word (at_writes (insn.InstanceOf to from type) false to (λ q. refl))
    shifts_by (insn.ArrayLength to from) c w e = puts false to Word (touches (insn.ArrayLength to from)) ks first_word (at_writes (insn.ArrayLength to from) false to (λ q. refl))
    shifts_by (insn.Cmp op to x y) c w e = puts false to Word (touches (insn.Cmp op to x y)) ks first_word (at_writes (insn.Cmp op to x y) false to (λ q. refl))
    shifts_by (insn.Literal op to x value) c w e = puts false to Word (touches (insn.Literal op to x value)) ks first_word (at_writes (insn.Literal op to x value) false to (λ q. refl))
    shifts_by (insn.Unary op to from) c w e = puts (unary_writes_wide op) to (number_kind (unary_writes_wide op)) (touches (insn.Unary op to from)) ks (number_width (unary_writes_wide op)) (at_writes (insn.Unary op to from) (unary_writes_wide op) to (λ q. refl))
    shifts_by (insn.Binary op to x y) c w e = puts (binary_is_wide op) to (number_kind (binary_is_wide op)) (touches (insn.Binary op to x y)) ks (number_width (binary_is_wide op)) (at_writes (insn.Binary op to x y) (binary_is_wide op) to (λ q. refl))
    shifts_by (insn.CheckCast on type) c w e = puts false on (cast_kind s.tables.now type) (touches (insn.CheckCast on type)) ks (cast_width (shape_of s.tables.now type)) (λ q p. or_right (writes_of (insn.CheckCast on type) q) (casts (insn.CheckCast on type) q) p)
    shifts_by (insn.NewInstance to type) c w e = makes n to type (touches (insn.NewInstance to type)) ks (at_writes (insn.NewInstance to type) false to (λ q. refl))
    shifts_by (insn.NewArray to size type) c w e = puts false to (kind_of s.tables.now type) (touches (insn.NewArray to size type)) ks (narrow_shape (shape_of s.tables.now type) (array_narrow (shape_of s.tables.now type) (not_false (is_array (shape_of s.tables.now type)) w))) (at_writes (insn.NewArray to size type) false to (λ q. refl))
    shifts_by (insn.FilledNewArray type args) c w e = itself (touches (insn.FilledNewArray type args)) ks
    shifts_by (insn.ArrayGet i to array index) c w e = puts (is_wide_item i) to (got s.tables.now i (kind_at ks array)) (touches (insn.ArrayGet i to array index)) ks (got_narrow i array index e) (at_writes (insn.ArrayGet i to array index) (is_wide_item i) to (λ q. refl))
    shifts_by (insn.InstanceGet i to on field) c w e = puts (is_wide_item i) to (kind_of s.tables.now (field_kind s.program.now field)) (touches (insn.InstanceGet i to on field)) ks (field_narrow false i field w) (at_writes (insn.InstanceGet i to on field) (is_wide_item i) to (λ q. refl))
    shifts_by (insn.StaticGet i to field) c w e = puts (is_wide_item i) to (kind_of s.tables.now (field_kind s.program.now field)) (touches (insn.StaticGet i to field)) ks (field_narrow true i field (neither_of (wrong_access s true i field) (wrong_first s field) w).0) (at_writes (insn.StaticGet i to field) (is_wide_item i) to (λ q. refl))
    shifts_by (insn.Invoke k method args) c w e = called n a (touches (insn.Invoke k method args)) k method args w e (c method k args refl)
    shifts_by i c w e = itself (touches i) ks

    pub shifts : (i : Insn) → ((method : ℕ) (k : InvokeKind) (args : List ℕ) → i ≡ insn.Invoke k method args → is_half (kind_of s.tables.now (method_class s.program.now method)) ≡ false) → fault_of s n a i ≡ None → Shifts (touches i) ks (form_after s n i a).registers
    shifts i c e = let f = no_fault s n a i e in shifts_by i c f.0 f.1
