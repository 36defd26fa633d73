-- What a form leaves is, by name, at or below what is at or above it.
use Rattle.std.proofs.Common.{◌≡◌, ℕ, zero, suc, ◌+◌, ◌-◌, ◌<◌, Bool, true, false, true≢false, nat_eq, List, [], ◌∷◌, map, length, Option, Some, None, ◌⊎◌, inl, inr, refl, sym, ap, ◌∙◌, subst, arith}
use Rattle.std.specs.Prelude.{◌&&◌, ◌||◌, not, slice_get, ℤ, pos, if◌then◌else◌}
use Rattle.std.specs.Ordering.{int_eq}
use Rattle.std.proofs.lemmas.Bool.{cases_lt}
use Rattle.std.proofs.lemmas.Option.{slice_get_within}
use Rattle.lemmas.proofs.Bools.{neither_of, not_false}
use Rattle.class_defs.proofs.Positions.{number_test, number_of, same_test}
use Rattle.insn_set.specs.Widths.{unary_writes_wide, binary_is_wide}
use Rattle.insn_set.specs.declared.form.Insn.{Insn}
use Rattle.insn_set.specs.declared.form.Insn.TheVariants as insn
use Rattle.insn_set.specs.declared.ops.InvokeKind.{InvokeKind}
use Rattle.insn_set.specs.declared.ops.InvokeKind.TheVariants as call
use Rattle.insn_set.specs.declared.ops.Item.{Item}
use Rattle.insn_set.specs.declared.ops.Item.TheVariants as item
use Rattle.insn_set.specs.declared.ops.Slot.{Slot}
use Rattle.insn_set.specs.declared.ops.Slot.TheVariants as slot
use Rattle.program_model.specs.OperandRules.{numbers_fit}
use Rattle.program_model.specs.declared.program.Class.{Class}
use Rattle.program_model.specs.declared.program.Method.{Method}
use Rattle.program_model.specs.declared.program.Program.{Program}
use Rattle.dalvik_defs.specs.Names as text
use Rattle.dalvik_defs.specs.Names.{Text, text_eq}
use Rattle.dalvik_defs.specs.Naming.{type_at, field_at, method_at, form_of, named_class, named}
use Rattle.dalvik_defs.proofs.Calm.{text_sound}
use Rattle.name_bridge.proofs.Classes.{type_test}
use Rattle.pass_defs.specs.Kinds as name
use Rattle.pass_defs.specs.Kinds.{kind_eq, is_below, arrays_of}
use Rattle.pass_defs.specs.Registers as by_name
use Rattle.pass_defs.specs.Demands as asked
use Rattle.pass_defs.specs.Typed as typed
use Rattle.verify.specs.declared.kinds.Kind as number
use Rattle.verify.specs.declared.kinds.Kind.TheVariants as kind
use Rattle.verify.specs.declared.setting.Setting.{Setting}
use Rattle.verify.specs.declared.shapes.Shape.{Shape}
use Rattle.verify.specs.declared.shapes.Shape.TheVariants as shape
use Rattle.verify.specs.declared.tables.Tables.{Tables}
use Rattle.verify.specs.After.{constant_kind, moved, got, constructed, receiver_register, called}
use Rattle.verify.specs.Demands.{same_item, unless}
use Rattle.verify.specs.Fits.{fits, is_fillable_shape, stored_item}
use Rattle.program_model.specs.Texts.{first_unit}
use Rattle.verify.specs.Flow.{form_after}
use Rattle.verify.specs.Frames.{Kinds, kind_at, written, forget}
use Rattle.verify.specs.Kinds as kinds
use Rattle.verify.specs.Kinds.{same_kind, is_initialised, replaced, forgotten, number_kind}
use Rattle.verify.specs.Meeting.{is_settled}
use Rattle.verify.specs.Names.{field_kind, method_class, parameters_of, result_of}
use Rattle.verify.specs.Reads.{is_array_of, is_constructed, is_receiver, refused_arguments, refused_array, refused, found_at}
use Rattle.verify.specs.Shapes as shapes
use Rattle.verify.specs.Types.{shape_of, item_shape, kind_of, kind_of_shape, kind_of_class, reference_kind, cast_kind, kind_of_item, is_constructor}
use Rattle.verify.specs.Typings.{Below, IsBelow}
use Rattle.verify.specs.Wrong.{differ, static_method, is_static_call, finds_static, wrong_super, passed_words, parameter_words, is_wrong}
use Rattle.verify.proofs.Descriptions.{text_same}
use Rattle.verify.proofs.Fitting.{item_settled}
use Rattle.verify.proofs.Orders.{bare_below}
use Rattle.verify.proofs.Raises.{below_itself, below_on}
use Rattle.verify.proofs.Ranks.{lattice_of}
use Rattle.verify.proofs.Reading.{unless_true, lower_left}
use Rattle.verify.proofs.Writes.{moved_on}
use Rattle.type_bridge.specs.Views.{class_kind, array_kind, kind_named, receiver_named, kinds_named}
use Rattle.type_bridge.proofs.Told.{Told}
use Rattle.type_bridge.proofs.Texts.{Sorts, sorts, item_sorts, kind_is, has_entry, class_unit}
use Rattle.type_bridge.proofs.Order.{itself_below, undefined_above, below_named}
use Rattle.type_bridge.proofs.Frames.{at_named, written_named, forgotten_named, mapped, all_named, close, receiver_below, kinds_below_named}
use Rattle.type_bridge.proofs.Fits.{array_kind_of, deeper, less}
use Rattle.type_bridge.proofs.Members.{field_is, field_kind_is, MethodIs, method_is, method_class_small, result_is, constructor_is}
use Rattle.type_bridge.proofs.Asked.{item_is}
use Rattle.type_bridge.proofs.Grounds.{IsSet, get_fits, static_get_fits, invoke_fits}
use Rattle.type_bridge.proofs.Spelled.{nonempty}
use Rattle.type_bridge.proofs.Wrong.{static_same}

-- ---- kinds of types

module _ (p : Program) (t : Tables) (d : Told p t) where
  -- no object that isn't made is the kind of a type
  abbrev IsUsual : number.Kind → Type 0
  IsUsual k = (k ≡ kind.FreshThis → ⊥) × ((c n : ℕ) → k ≡ kind.Fresh c n → ⊥)

  usual_class : (o : Option ℕ) (b : Bool) → IsUsual (kind_of_class o b)
  usual_class None b = (λ e. cc, λ c n e. cc)
  usual_class (Some x) true = (λ e. cc, λ c n e. cc)
  usual_class (Some x) false = (λ e. cc, λ c n e. cc)

  usual : (s : Shape) → IsUsual (kind_of_shape s)
  usual shape.Void = (λ e. cc, λ c n e. cc)
  usual shape.Int = (λ e. cc, λ c n e. cc)
  usual (shape.Word w) = (λ e. cc, λ c n e. cc)
  usual shape.Wide = (λ e. cc, λ c n e. cc)
  usual (shape.Class o b) = usual_class o b
  usual (shape.Array m i) = (λ e. cc, λ c n e. cc)

  made_class : (o : Option ℕ) (b : Bool) → is_initialised (kind_of_class o b) ≡ true
  made_class None b = refl
  made_class (Some x) true = refl
  made_class (Some x) false = refl

  -- the kind of a class type is that of made objects
  pub made_type : (k : ℕ) → text.is_class_type (type_at p k) ≡ true → is_initialised (kind_of t k) ≡ true
  made_type k e = by (shape_of t k) (sorts p t d k)
    where
      reference : (u : Text) → text.is_class_type u ≡ true → text.is_reference u ≡ true
      reference [] e = e
      reference (u ∷ us) e = ap (λ b. b || nat_eq u 91) e

      no_array : (u : Text) → text.is_class_type u ≡ true → text.is_array u ≡ false
      no_array [] e = refl
      no_array (u ∷ us) e = let q = number_of u 76 e in ap (λ v. nat_eq v 91) q

      by : (s : Shape) → Sorts p (type_at p k) s → is_initialised (kind_of_shape s) ≡ true
      by (shape.Class o b) s = made_class o b
      by shape.Void s = absurd (true≢false (sym (reference (type_at p k) e) ∙ s.reference))
      by shape.Int s = absurd (true≢false (sym (reference (type_at p k) e) ∙ s.reference))
      by (shape.Word w) s = absurd (true≢false (sym (reference (type_at p k) e) ∙ s.reference))
      by shape.Wide s = absurd (true≢false (sym (reference (type_at p k) e) ∙ s.reference))
      by (shape.Array m i) s = absurd (true≢false (sym s.array ∙ no_array (type_at p k) e))

  -- ---- tests of kinds that aren't made

  fresh_text : (x y : ℕ) → y < length p.types → text_eq (type_at p x) (type_at p y) ≡ nat_eq x y
  fresh_text x y h = elim (cases_lt x (length p.types)) [
    | inl l ↦ type_test p d.sound x y l h
    | inr g ↦ same_test (text_eq (type_at p x) (type_at p y)) (nat_eq x y)
        (λ e. absurd (let q = nonempty p t d y h in let r = has_entry p x q.0 q.1.0 (text_sound (type_at p x) (type_at p y) e ∙ q.1.1) in let l = slice_get_within p.types x r.0 r.1 in omega (arith, l, g)))
        (λ e. ap (λ z. text_eq (type_at p z) (type_at p y)) (number_of x y e) ∙ text_same (type_at p y))
  ]

  fresh_test : (c n : ℕ) → c < length p.types → (k : number.Kind) → kind_eq (kind_named p k) (name.Fresh (type_at p c) n) ≡ same_kind k (kind.Fresh c n)
  fresh_test c n h (kind.Fresh x m) = ap (λ b. b && nat_eq m n) (fresh_text x c h)
  fresh_test c n h (kind.Program x) = by (slice_get p.classes x)
    where
      by : (o : Option Class) → kind_eq (class_kind p o) (name.Fresh (type_at p c) n) ≡ false
      by None = refl
      by (Some k) = refl
  fresh_test c n h (kind.Array zero i) = refl
  fresh_test c n h (kind.Array (suc m) i) = refl
  fresh_test c n h k = refl

  this_test : (k : number.Kind) → kind_eq (kind_named p k) name.FreshThis ≡ same_kind k kind.FreshThis
  this_test (kind.Program x) = by (slice_get p.classes x)
    where
      by : (o : Option Class) → kind_eq (class_kind p o) name.FreshThis ≡ false
      by None = refl
      by (Some k) = refl
  this_test (kind.Array zero i) = refl
  this_test (kind.Array (suc m) i) = refl
  this_test k = refl

  replaced_by : (old' new' : name.Kind) (old new k : number.Kind) → kind_eq (kind_named p k) old' ≡ same_kind k old → new' ≡ kind_named p new → by_name.replaced old' new' (kind_named p k) ≡ kind_named p (replaced old new k)
  replaced_by old' new' old new k e f = ap (λ b. elim b as (λ b. name.Kind) [ true ↦ new' | false ↦ kind_named p k ]) e ∙ by (same_kind k old)
    where
      by : (b : Bool) → elim b as (λ b. name.Kind) [ true ↦ new' | false ↦ kind_named p k ] ≡ kind_named p (if b then new else k)
      by true = f
      by false = refl

  made_fresh : (k : number.Kind) (u : Text) (n : ℕ) → is_initialised k ≡ true → kind_eq (kind_named p k) (name.Fresh u n) ≡ false
  made_fresh (kind.Program x) u n e = by (slice_get p.classes x)
    where
      by : (o : Option Class) → kind_eq (class_kind p o) (name.Fresh u n) ≡ false
      by None = refl
      by (Some k) = refl
  made_fresh (kind.Array zero i) u n e = refl
  made_fresh (kind.Array (suc m) i) u n e = refl
  made_fresh (kind.Fresh x m) u n e = absurd (true≢false (sym e))
  made_fresh k u n e = refl

  made_this : (k : number.Kind) → is_initialised k ≡ true → kind_eq (kind_named p k) name.FreshThis ≡ false
  made_this k e = this_test k ∙ by k e
    where
      by : (k : number.Kind) → is_initialised k ≡ true → same_kind k kind.FreshThis ≡ false
      by kind.FreshThis e = sym e
      by k e = refl

  -- ---- the receiver's own place

  -- what a place holds that isn't as a constructor's receiver
  above_made : (made : name.Kind) (k : number.Kind) → (k ≡ kind.FreshThis → ⊥) → is_below (named p) made (receiver_named made k) ≡ true
  above_made made kind.FreshThis n = absurd (n refl)
  above_made made (kind.Fresh c m) n = itself_below (named p) made
  above_made made k n = by (is_initialised k)
    where
      by : (b : Bool) → is_below (named p) made (if b then made else name.Undefined) ≡ true
      by true = itself_below (named p) made
      by false = undefined_above (named p) made

  not_this : (k l : number.Kind) → Below t k l → (k ≡ kind.FreshThis → ⊥) → l ≡ kind.FreshThis → ⊥
  not_this k l e n f = n (bare_below t k kind.FreshThis (subst (Below t k) f e) refl refl refl)

  module _ (made : name.Kind) (class : number.Kind) (is : made ≡ kind_named p class) (good : is_initialised class ≡ true) where
    -- where a fresh object is made, a receiver's place stays
    fresh_receiver : (u : Text) (n : ℕ) (new : name.Kind) (k : number.Kind) → by_name.replaced (name.Fresh u n) new (receiver_named made k) ≡ receiver_named made k
    fresh_receiver u n new kind.FreshThis = refl
    fresh_receiver u n new (kind.Fresh c m) = stays
      where
        stays : by_name.replaced (name.Fresh u n) new made ≡ made
        stays = ap (λ b. elim b as (λ b. name.Kind) [ true ↦ new | false ↦ made ]) (ap (λ k. kind_eq k (name.Fresh u n)) is ∙ made_fresh class u n good)
    fresh_receiver u n new k = by (is_initialised k)
      where
        by : (b : Bool) → by_name.replaced (name.Fresh u n) new (if b then made else name.Undefined) ≡ (if b then made else name.Undefined)
        by true = ap (λ b. elim b as (λ b. name.Kind) [ true ↦ new | false ↦ made ]) (ap (λ k. kind_eq k (name.Fresh u n)) is ∙ made_fresh class u n good)
        by false = refl

    fresh_place : (c n : ℕ) (new k l : number.Kind) → IsUsual new → Below t (replaced (kind.Fresh c n) new k) l → is_below (named p) (by_name.replaced (name.Fresh (type_at p c) n) (kind_named p new) (receiver_named made k)) (receiver_named made l) ≡ true
    fresh_place c n new k l w e = ap (λ x. is_below (named p) x (receiver_named made l)) (fresh_receiver (type_at p c) n (kind_named p new) k) ∙ by (same_kind k (kind.Fresh c n)) refl e
      where
        fresh_only : (k : number.Kind) → same_kind k (kind.Fresh c n) ≡ true → receiver_named made k ≡ made
        fresh_only (kind.Fresh x m) f = refl
        fresh_only k f = absurd (true≢false (sym f))

        by : (b : Bool) → same_kind k (kind.Fresh c n) ≡ b → Below t (if b then new else k) l → is_below (named p) (receiver_named made k) (receiver_named made l) ≡ true
        by true f e = ap (λ x. is_below (named p) x (receiver_named made l)) (fresh_only k f) ∙ above_made made l (not_this new l e w.0)
        by false f e = receiver_below p t d made k l e

    this_place : (k l : number.Kind) → IsUsual class → Below t (replaced kind.FreshThis class k) l → is_below (named p) (by_name.replaced name.FreshThis made (receiver_named made k)) (receiver_named made l) ≡ true
    this_place k l w e = by (same_kind k kind.FreshThis) refl e
      where
        this_only : (k : number.Kind) → same_kind k kind.FreshThis ≡ true → receiver_named made k ≡ name.FreshThis
        this_only kind.FreshThis f = refl
        this_only k f = absurd (true≢false (sym f))

        no_made : by_name.replaced name.FreshThis made made ≡ made
        no_made = ap (λ b. elim b as (λ b. name.Kind) [ true ↦ made | false ↦ made ]) (ap (λ k. kind_eq k name.FreshThis) is ∙ made_this class good)

        other : (k : number.Kind) → same_kind k kind.FreshThis ≡ false → by_name.replaced name.FreshThis made (receiver_named made k) ≡ receiver_named made k
        other kind.FreshThis f = absurd (true≢false f)
        other (kind.Fresh x m) f = no_made
        other k f = both_ways (is_initialised k)
          where
            both_ways : (b : Bool) → by_name.replaced name.FreshThis made (if b then made else name.Undefined) ≡ (if b then made else name.Undefined)
            both_ways true = no_made
            both_ways false = refl

        by : (b : Bool) → same_kind k kind.FreshThis ≡ b → Below t (if b then class else k) l → is_below (named p) (by_name.replaced name.FreshThis made (receiver_named made k)) (receiver_named made l) ≡ true
        by true f e = ap (λ x. is_below (named p) (by_name.replaced name.FreshThis made x) (receiver_named made l)) (this_only k f) ∙ above_made made l (not_this class l e w.0)
        by false f e = ap (λ x. is_below (named p) x (receiver_named made l)) (other k f) ∙ receiver_below p t d made k l e

  -- ---- casts and arrays

  pub cast_named : (k : ℕ) → kind_named p (cast_kind t k) ≡ name.kind_of_reference (named p) (type_at p k)
  cast_named k = by (shape_of t k) (sorts p t d k)
    where
      plainly : (u : Text) (s : Shape) → Sorts p u s → shapes.is_array s ≡ false → shapes.is_plain s ≡ false → name.Reference ≡ name.kind_of_reference (named p) u
      plainly u s h e f = let x : text.is_array u ≡ false = h.array ∙ e in let y : name.is_plain (named p) u ≡ false = h.plain ∙ f in rw x (rw y refl)

      by_reference : (u : Text) → text.is_word u ≡ false → text.is_wide u ≡ false → text.is_reference u ≡ true → name.kind_of (named p) u ≡ name.kind_of_reference (named p) u
      by_reference u a b c = rw a (rw b (rw c refl))

      by : (s : Shape) → Sorts p (type_at p k) s → kind_named p (reference_kind s) ≡ name.kind_of_reference (named p) (type_at p k)
      by (shape.Class o b) s = s.kind ∙ by_reference (type_at p k) s.word s.wide s.reference
      by (shape.Array m i) s = s.kind ∙ by_reference (type_at p k) s.word s.wide s.reference
      by shape.Void s = plainly (type_at p k) shape.Void s refl refl
      by shape.Int s = plainly (type_at p k) shape.Int s refl refl
      by (shape.Word w) s = plainly (type_at p k) (shape.Word w) s refl refl
      by shape.Wide s = plainly (type_at p k) shape.Wide s refl refl

  pub array_named : (k : ℕ) → shapes.is_array (shape_of t k) ≡ true → kind_named p (kind_of t k) ≡ name.Array (type_at p k)
  array_named k e = by (shape_of t k) (sorts p t d k) e
    where
      by : (s : Shape) → Sorts p (type_at p k) s → shapes.is_array s ≡ true → kind_named p (kind_of_shape s) ≡ name.Array (type_at p k)
      by (shape.Array m i) s e = s.kind ∙ array_kind_of p t d (type_at p k) s.word s.wide s.reference s.array
      by s h e = absurd (true≢false (sym e))

  pub number_kind_named : (b : Bool) → typed.number_kind b ≡ kind_named p (number_kind b)
  number_kind_named true = refl
  number_kind_named false = refl

  -- ---- what is got from an array

  -- it is that by name, or null is got by name
  abbrev pub IsGot : name.Kind → number.Kind → Type 0
  IsGot k l = (k ≡ kind_named p l) ⊎ ((k ≡ name.Null) × ((Below t kind.Null l) × (kinds.is_moved l ≡ true)))

  null_under : (s : Shape) → shapes.stored s ≡ item.Object → is_settled t s ≡ true → (Below t kind.Null (kind_of_shape s)) × (kinds.is_moved (kind_of_shape s) ≡ true)
  null_under (shape.Class None b) e f = (refl, refl)
  null_under (shape.Class (Some x) true) e f = (refl, refl)
  null_under (shape.Class (Some x) false) e f = (refl, refl)
  null_under (shape.Array m i) e f = absurd (true≢false (sym f))
  null_under (shape.Word item.Object) e f = absurd (true≢false (sym f))
  null_under (shape.Word item.Plain) e f = absurd (cc)
  null_under (shape.Word item.Wide) e f = absurd (cc)
  null_under (shape.Word item.Boolean) e f = absurd (cc)
  null_under (shape.Word item.Byte) e f = absurd (cc)
  null_under (shape.Word item.Char) e f = absurd (cc)
  null_under (shape.Word item.Short) e f = absurd (cc)
  null_under shape.Void e f = absurd (cc)
  null_under shape.Int e f = absurd (cc)
  null_under shape.Wide e f = absurd (cc)

  pub got_array : (m : ℕ) (i : Option ℕ) → same_item (stored_item t m i) item.Object ≡ true → IsGot (typed.got (named p) item.Object (array_kind p m i)) (kind_of_item t m i)
  got_array zero i e = inr (refl, null_under (item_shape t i) (item_is (shapes.stored (item_shape t i)) item.Object e) (item_settled t d.meets i))
  got_array (suc zero) i e = inl (sym (item_sorts p t d i).kind)
  got_array (suc (suc m)) i e = inl (sym (ap (kind_named p) (ap (λ b. if b then kind.Array (suc (suc m) - 1) i else kind_of_shape (item_shape t i)) (deeper m) ∙ ap (λ n. kind.Array n i) (sym (less m)))))

-- ---- forms

module _ (s : Setting) (c : Class) (m : Method) (i : IsSet s c m) (n : ℕ) (a : Kinds) where
  abbrev own : name.Kind
  own = name.kind_of (named s.program.now) (type_at s.program.now c.name)

  abbrev before : by_name.Kinds
  before = kinds_named s.program.now own a

  abbrev left : Insn → by_name.Kinds
  left x = typed.after (named s.program.now) (named_class s.program.now c) n (form_of s.program.now x) before

  -- what is above what a form leaves is above it by name
  abbrev Leaves : Insn → Kinds → Type 0
  Leaves x b = by_name.kinds_below (named s.program.now) (left x) (kinds_named s.program.now own b) ≡ true

  leaves_same : (x : Insn) (b : Kinds) → IsBelow s.tables.now (form_after s n x a) b → left x ≡ kinds_named s.program.now own (form_after s n x a) → Leaves x b
  leaves_same x b h e = ap (λ k. by_name.kinds_below (named s.program.now) k (kinds_named s.program.now own b)) e ∙ kinds_below_named s.program.now s.tables.now i.told own (form_after s n x a) b h

  wrote : (to : ℕ) (k : name.Kind) (l : number.Kind) → k ≡ kind_named s.program.now l → by_name.written to k before ≡ kinds_named s.program.now own (written to l a)
  wrote to k l e = ap (λ k. by_name.written to k before) e ∙ ap (λ l. record before { registers = l }) (written_named s.program.now to l a.registers)

  at_register : (r : ℕ) → by_name.kind_at before.registers r ≡ kind_named s.program.now (kind_at a.registers r)
  at_register r = at_named s.program.now a.registers r

  moved_named : (x : Slot) (r : ℕ) → typed.moved x (by_name.kind_at before.registers r) ≡ kind_named s.program.now (moved x (kind_at a.registers r))
  moved_named slot.Wide r = refl
  moved_named slot.Word r = at_register r
  moved_named slot.Object r = at_register r

  constant_named : (z : ℤ) → typed.constant_kind z ≡ kind_named s.program.now (constant_kind z)
  constant_named z = by (int_eq z (pos 0))
    where
      by : (b : Bool) → (if b then name.Zero else name.Word) ≡ kind_named s.program.now (if b then kind.Zero else kind.Word)
      by true = refl
      by false = refl

  field_named : (f : ℕ) → f < length s.program.now.fields → name.kind_of (named s.program.now) (field_at s.program.now f).kind ≡ kind_named s.program.now (kind_of s.tables.now (field_kind s.program.now f))
  field_named f h = ap (name.kind_of (named s.program.now)) (sym (field_kind_is s.program.now s.tables.now i.told f (field_is s.program.now s.tables.now i.told f h))) ∙ sym (kind_is s.program.now s.tables.now i.told (field_kind s.program.now f))

  forgot : (type : ℕ) (to : ℕ) → by_name.written to (name.Fresh (type_at s.program.now type) n) (by_name.forget n before) ≡ kinds_named s.program.now own (written to (kind.Fresh type n) (forget n a))
  forgot type to =
      ap (λ l. by_name.written to (name.Fresh (type_at s.program.now type) n) (record before { registers = l })) (forgotten_named s.program.now n a.registers)
      ∙ ap (λ l. record before { registers = l }) (written_named s.program.now to (kind.Fresh type n) (map (forgotten n) a.registers))

  -- ---- arrays

  -- the kind of what is got
  got_kind : (x : Item) (k : number.Kind) → is_array_of s k x ≡ true → IsGot s.program.now s.tables.now i.told (typed.got (named s.program.now) x (kind_named s.program.now k)) (got s.tables.now x k)
  got_kind item.Object kind.Zero e = inl refl
  got_kind item.Object kind.Null e = inl refl
  got_kind item.Object (kind.Array q j) e = got_array s.program.now s.tables.now i.told q j e
  got_kind item.Object k e = absurd (true≢false (sym e))
  got_kind item.Plain k e = inl refl
  got_kind item.Wide k e = inl refl
  got_kind item.Boolean k e = inl refl
  got_kind item.Byte k e = inl refl
  got_kind item.Char k e = inl refl
  got_kind item.Short k e = inl refl

  pub self_below : IsBelow s.tables.now a a
  self_below = record {
    long = refl;
    registers = λ r. below_itself s.tables.now (kind_at a.registers r);
    result = below_itself s.tables.now a.result;
    caught = below_itself s.tables.now a.caught;
    receiver = below_itself s.tables.now a.receiver;
  }

  pub frames_on : (x y z : Kinds) → IsBelow s.tables.now x y → IsBelow s.tables.now y z → IsBelow s.tables.now x z
  frames_on x y z e f =
      let l = lattice_of s.tables.now i.told.meets in
      record {
        long = e.long ∙ f.long;
        registers = λ r. below_on s.tables.now l (kind_at x.registers r) (kind_at y.registers r) (kind_at z.registers r) (e.registers r) (f.registers r);
        result = below_on s.tables.now l x.result y.result z.result e.result f.result;
        caught = below_on s.tables.now l x.caught y.caught z.caught e.caught f.caught;
        receiver = below_on s.tables.now l x.receiver y.receiver z.receiver e.receiver f.receiver;
      }

  array_got : (x : Item) (to array index : ℕ) (b : Kinds) → is_array_of s (kind_at a.registers array) x ≡ true → IsBelow s.tables.now (form_after s n (insn.ArrayGet x to array index) a) b → Leaves (insn.ArrayGet x to array index) b
  array_got x to array index b e h = by (got_kind x (kind_at a.registers array) e)
    where
      g : name.Kind
      g = typed.got (named s.program.now) x (kind_named s.program.now (kind_at a.registers array))

      l : number.Kind
      l = got s.tables.now x (kind_at a.registers array)

      at : left (insn.ArrayGet x to array index) ≡ by_name.written to g before
      at = ap (λ k. by_name.written to (typed.got (named s.program.now) x k) before) (at_register array)

      by : IsGot s.program.now s.tables.now i.told g l → Leaves (insn.ArrayGet x to array index) b
      by (inl q) = leaves_same (insn.ArrayGet x to array index) b h (at ∙ wrote to g l q)
      by (inr q) =
          let lower = frames_on (written to kind.Null a) (written to l a) b (moved_on s.tables.now to kind.Null l a a refl q.1.1 q.1.0 self_below) h in
          ap (λ k. by_name.kinds_below (named s.program.now) k (kinds_named s.program.now own b)) (at ∙ wrote to g kind.Null q.0)
          ∙ kinds_below_named s.program.now s.tables.now i.told own (written to kind.Null a) b lower

  -- ---- calls

  pub own_is : own ≡ kind_named s.program.now (kind_of s.tables.now s.kind)
  own_is = ap (λ k. name.kind_of (named s.program.now) (type_at s.program.now k)) (sym i.kind) ∙ sym (kind_is s.program.now s.tables.now i.told s.kind)

  class_letter : (u : Text) → first_unit u ≡ 76 → text.is_class_type u ≡ true
  class_letter [] e = absurd (omega (arith, e))
  class_letter (u ∷ us) e = number_test u 76 e

  pub own_made : is_initialised (kind_of s.tables.now s.kind) ≡ true
  own_made = made_type s.program.now s.tables.now i.told s.kind (ap (λ k. text.is_class_type (type_at s.program.now k)) i.kind ∙ class_letter (type_at s.program.now c.name) (class_unit s.program.now s.tables.now i.told s.class c i.class))

  result_kind : (q : ℕ) (e : MethodIs s.program.now s.tables.now i.told q) → name.kind_of (named s.program.now) (method_at s.program.now q).signature.result ≡ kind_named s.program.now (kind_of s.tables.now (result_of s.program.now q))
  result_kind q e = ap (name.kind_of (named s.program.now)) (sym (result_is s.program.now s.tables.now i.told q e)) ∙ sym (kind_is s.program.now s.tables.now i.told (result_of s.program.now q))

  result_below : (q : ℕ) (e : MethodIs s.program.now s.tables.now i.told q) (l : number.Kind) → Below s.tables.now (kind_of s.tables.now (result_of s.program.now q)) l
      → is_below (named s.program.now) (name.kind_of (named s.program.now) (method_at s.program.now q).signature.result) (kind_named s.program.now l) ≡ true
  result_below q e l h = ap (λ k. is_below (named s.program.now) k (kind_named s.program.now l)) (result_kind q e) ∙ below_named s.program.now s.tables.now i.told (kind_of s.tables.now (result_of s.program.now q)) l h

  constructs_kind : (q : ℕ) (e : MethodIs s.program.now s.tables.now i.told q) (k : number.Kind) (b : Kinds) → is_constructed s k (method_class s.program.now q) ≡ true
      → IsBelow s.tables.now (record (constructed s.tables.now s.kind k a) { result = kind_of s.tables.now (result_of s.program.now q) }) b
      → by_name.kinds_below (named s.program.now) (record (typed.constructed (named s.program.now) (named_class s.program.now c) (kind_named s.program.now k) before) { result = name.kind_of (named s.program.now) (method_at s.program.now q).signature.result }) (kinds_named s.program.now own b) ≡ true
  constructs_kind q e (kind.Fresh x p) b f h =
      let small : x < length s.program.now.types = subst (λ z. z < length s.program.now.types) (sym (number_of x (method_class s.program.now q) f)) (method_class_small s.program.now s.tables.now i.told q e) in
      let new = kind_of s.tables.now x in
      let is : name.kind_of (named s.program.now) (type_at s.program.now x) ≡ kind_named s.program.now new = sym (kind_is s.program.now s.tables.now i.told x) in
      close (named s.program.now) _ (kinds_named s.program.now own b)
      (ap (λ l. by_name.all_below (named s.program.now) l (map (kind_named s.program.now) b.registers))
      (mapped (kind_named s.program.now) (by_name.replaced (name.Fresh (type_at s.program.now x) p) (name.kind_of (named s.program.now) (type_at s.program.now x))) (replaced (kind.Fresh x p) new)
      (λ k. replaced_by s.program.now s.tables.now i.told (name.Fresh (type_at s.program.now x) p) (name.kind_of (named s.program.now) (type_at s.program.now x)) (kind.Fresh x p) new k (fresh_test s.program.now s.tables.now i.told x p small k) is) a.registers)
      ∙ all_named s.program.now s.tables.now i.told (map (replaced (kind.Fresh x p) new) a.registers) b.registers h.long h.registers)
      (result_below q e b.result h.result)
      (below_named s.program.now s.tables.now i.told a.caught b.caught h.caught)
      (ap (λ z. is_below (named s.program.now) (by_name.replaced (name.Fresh (type_at s.program.now x) p) z (receiver_named own a.receiver)) (receiver_named own b.receiver)) is
      ∙ fresh_place s.program.now s.tables.now i.told own (kind_of s.tables.now s.kind) own_is own_made x p new a.receiver b.receiver (usual s.program.now s.tables.now i.told (shape_of s.tables.now x)) h.receiver)
  constructs_kind q e kind.FreshThis b f h =
      let new = kind_of s.tables.now s.kind in
      close (named s.program.now) _ (kinds_named s.program.now own b)
      (ap (λ l. by_name.all_below (named s.program.now) l (map (kind_named s.program.now) b.registers))
      (mapped (kind_named s.program.now) (by_name.replaced name.FreshThis own) (replaced kind.FreshThis new)
      (λ k. replaced_by s.program.now s.tables.now i.told name.FreshThis own kind.FreshThis new k (this_test s.program.now s.tables.now i.told k) own_is) a.registers)
      ∙ all_named s.program.now s.tables.now i.told (map (replaced kind.FreshThis new) a.registers) b.registers h.long h.registers)
      (result_below q e b.result h.result)
      (below_named s.program.now s.tables.now i.told a.caught b.caught h.caught)
      (this_place s.program.now s.tables.now i.told own new own_is own_made a.receiver b.receiver (usual s.program.now s.tables.now i.told (shape_of s.tables.now s.kind)) h.receiver)
  constructs_kind q e k b f h = absurd (true≢false (sym f))

  plain_call : (q : ℕ) (e : MethodIs s.program.now s.tables.now i.told q) (b : Kinds) → IsBelow s.tables.now (record a { result = kind_of s.tables.now (result_of s.program.now q) }) b
      → by_name.kinds_below (named s.program.now) (record before { result = name.kind_of (named s.program.now) (method_at s.program.now q).signature.result }) (kinds_named s.program.now own b) ≡ true
  plain_call q e b h = ap (λ k. by_name.kinds_below (named s.program.now) (record before { result = k }) (kinds_named s.program.now own b)) (result_kind q e)
      ∙ kinds_below_named s.program.now s.tables.now i.told own (record a { result = kind_of s.tables.now (result_of s.program.now q) }) b h

  -- a call of a constructor is one on a receiver that it may make
  pub receives : (k : InvokeKind) (q : ℕ) (args : List ℕ) → is_static_call k ≡ false → is_constructor s.tables.now q ≡ true → is_wrong s n a (insn.Invoke k q args) ≡ false → refused s n a (insn.Invoke k q args) ≡ None
      → is_constructed s (kind_at a.registers (receiver_register args)) (method_class s.program.now q) ≡ true
  receives k q [] e f g h = absurd (no_words (parameter_words s q) (passed_words s k q) (ap (λ b. parameter_words s q + (if b then 0 else 1)) e) (neither_of (differ (is_static_call k) (static_method s q) || wrong_super s n k q) (not (nat_eq 0 (passed_words s k q))) g).1)
    where
      no_words : (x y : ℕ) → y ≡ x + 1 → not (nat_eq 0 y) ≡ false → ⊥
      no_words x y e f = let q = number_of 0 y (not_false (nat_eq 0 y) f) in omega (arith, q, e)
  receives call.Static q (r ∷ rs) e f g h = absurd (true≢false e)
  receives call.Super q (r ∷ rs) e f g h =
      let x = neither_of (differ (is_static_call call.Super) (static_method s q) || wrong_super s n call.Super q) (not (nat_eq (length (r ∷ rs)) (passed_words s call.Super q))) g in
      let y = neither_of (differ (is_static_call call.Super) (static_method s q)) (wrong_super s n call.Super q) x.0 in
      let z = neither_of (is_constructor s.tables.now q) (finds_static (found_at s n)) y.1 in
      absurd (true≢false (sym f ∙ z.0))
  receives call.Virtual q (r ∷ rs) e f g h = sym (ap (λ b. if b then is_constructed s (kind_at a.registers r) (method_class s.program.now q) else fits s.tables.now (kind_at a.registers r) (method_class s.program.now q)) f) ∙ unless_true (is_receiver s n a.registers call.Virtual q r) r (lower_left (unless (is_receiver s n a.registers call.Virtual q r) r) (refused_arguments s a.registers (parameters_of s.program.now q) rs) h)
  receives call.Direct q (r ∷ rs) e f g h = sym (ap (λ b. if b then is_constructed s (kind_at a.registers r) (method_class s.program.now q) else fits s.tables.now (kind_at a.registers r) (method_class s.program.now q)) f) ∙ unless_true (is_receiver s n a.registers call.Direct q r) r (lower_left (unless (is_receiver s n a.registers call.Direct q r) r) (refused_arguments s a.registers (parameters_of s.program.now q) rs) h)
  receives call.Interface q (r ∷ rs) e f g h = sym (ap (λ b. if b then is_constructed s (kind_at a.registers r) (method_class s.program.now q) else fits s.tables.now (kind_at a.registers r) (method_class s.program.now q)) f) ∙ unless_true (is_receiver s n a.registers call.Interface q r) r (lower_left (unless (is_receiver s n a.registers call.Interface q r) r) (refused_arguments s a.registers (parameters_of s.program.now q) rs) h)

  -- a call on a receiver
  object_call : (k : InvokeKind) (q : ℕ) (args : List ℕ) (e : MethodIs s.program.now s.tables.now i.told q) (b : Kinds) → is_static_call k ≡ false → is_wrong s n a (insn.Invoke k q args) ≡ false → refused s n a (insn.Invoke k q args) ≡ None
      → IsBelow s.tables.now (called s.program.now s.tables.now s.kind q args a) b → by_name.kinds_below (named s.program.now) (typed.called (named s.program.now) (named_class s.program.now c) k (method_at s.program.now q) args before) (kinds_named s.program.now own b) ≡ true
  object_call k q args e b f g h l = by (is_constructor s.tables.now q) refl l
    where
      r : ℕ
      r = receiver_register args

      made : by_name.Kinds
      made = typed.constructed (named s.program.now) (named_class s.program.now c) (by_name.kind_at before.registers (typed.receiver_register args)) before

      test : (x : Bool) → is_constructor s.tables.now q ≡ x → (asked.is_constructor_name (method_at s.program.now q).name && not (typed.is_static_call k)) ≡ x
      test x y = ap (λ b. asked.is_constructor_name (method_at s.program.now q).name && not b) (sym (static_same k) ∙ f) ∙ ap (λ b. b && true) (sym (constructor_is s.program.now s.tables.now i.told q e) ∙ y) ∙ only x
        where
          only : (x : Bool) → (x && true) ≡ x
          only true = refl
          only false = refl

      register_same : typed.receiver_register args ≡ r
      register_same = same args
        where
          same : (args : List ℕ) → typed.receiver_register args ≡ receiver_register args
          same [] = refl
          same (x ∷ xs) = refl

      goal : Bool → Type 0
      goal x = by_name.kinds_below (named s.program.now) (record (if x then made else before) { result = name.kind_of (named s.program.now) (method_at s.program.now q).signature.result }) (kinds_named s.program.now own b) ≡ true

      by : (x : Bool) → is_constructor s.tables.now q ≡ x → IsBelow s.tables.now (record (if x then constructed s.tables.now s.kind (kind_at a.registers r) a else a) { result = kind_of s.tables.now (result_of s.program.now q) }) b
          → by_name.kinds_below (named s.program.now) (typed.called (named s.program.now) (named_class s.program.now c) k (method_at s.program.now q) args before) (kinds_named s.program.now own b) ≡ true
      by true y l = subst goal (sym (test true y))
          (subst (λ z. by_name.kinds_below (named s.program.now) (record (typed.constructed (named s.program.now) (named_class s.program.now c) z before) { result = name.kind_of (named s.program.now) (method_at s.program.now q).signature.result }) (kinds_named s.program.now own b) ≡ true)
          (sym (ap (by_name.kind_at before.registers) register_same ∙ at_register r))
          (constructs_kind q e (kind_at a.registers r) b (receives k q args f y g h) l))
      by false y l = subst goal (sym (test false y)) (plain_call q e b l)

  call_left : (k : InvokeKind) (q : ℕ) (args : List ℕ) (e : MethodIs s.program.now s.tables.now i.told q) (b : Kinds) → is_wrong s n a (insn.Invoke k q args) ≡ false → refused s n a (insn.Invoke k q args) ≡ None
      → IsBelow s.tables.now (form_after s n (insn.Invoke k q args) a) b → Leaves (insn.Invoke k q args) b
  call_left call.Static q args e b g h l = by (asked.is_constructor_name (method_at s.program.now q).name)
    where
      by : (x : Bool) → by_name.kinds_below (named s.program.now) (record (if x && false then typed.constructed (named s.program.now) (named_class s.program.now c) (by_name.kind_at before.registers (typed.receiver_register args)) before else before) { result = name.kind_of (named s.program.now) (method_at s.program.now q).signature.result }) (kinds_named s.program.now own b) ≡ true
      by true = plain_call q e b l
      by false = plain_call q e b l
  call_left call.Virtual q args e b g h l = object_call call.Virtual q args e b refl g h l
  call_left call.Super q args e b g h l = object_call call.Super q args e b refl g h l
  call_left call.Direct q args e b g h l = object_call call.Direct q args e b refl g h l
  call_left call.Interface q args e b g h l = object_call call.Interface q args e b refl g h l

  -- ---- all forms

  pub filled_array : (x : Shape) → is_fillable_shape s.tables.now x ≡ true → shapes.is_array x ≡ true
  filled_array (shape.Array m j) e = refl
  filled_array x e = absurd (true≢false (sym e))

  array_two : (x : Item) (array index : ℕ) → refused_array s a.registers x array index ≡ None → is_array_of s (kind_at a.registers array) x ≡ true
  array_two x array index e = unless_true (is_array_of s (kind_at a.registers array) x) array (lower_left (unless (is_array_of s (kind_at a.registers array) x) array) (unless (kinds.is_number (kind_at a.registers index)) index) e)

  pub leaves : (x : Insn) (b : Kinds) → numbers_fit x s.program.now ≡ true → is_wrong s n a x ≡ false → refused s n a x ≡ None → IsBelow s.tables.now (form_after s n x a) b → Leaves x b
  leaves (insn.Move x to from) b f g e h = leaves_same (insn.Move x to from) b h (wrote to _ (moved x (kind_at a.registers from)) (moved_named x from))
  leaves (insn.MoveResult x to) b f g e h = leaves_same (insn.MoveResult x to) b h (wrote to _ a.result refl)
  leaves (insn.MoveException to) b f g e h = leaves_same (insn.MoveException to) b h (wrote to _ a.caught refl)
  leaves (insn.Const to value) b f g e h = leaves_same (insn.Const to value) b h (wrote to _ (constant_kind value) (constant_named value))
  leaves (insn.ConstWide to value) b f g e h = leaves_same (insn.ConstWide to value) b h (wrote to _ kind.WideLow refl)
  leaves (insn.ConstString to string) b f g e h = leaves_same (insn.ConstString to string) b h (wrote to _ kind.Reference refl)
  leaves (insn.ConstClass to type) b f g e h = leaves_same (insn.ConstClass to type) b h (wrote to _ kind.Reference refl)
  leaves (insn.CheckCast on type) b f g e h = leaves_same (insn.CheckCast on type) b h (wrote on _ (cast_kind s.tables.now type) (sym (cast_named s.program.now s.tables.now i.told type)))
  leaves (insn.InstanceOf to from type) b f g e h = leaves_same (insn.InstanceOf to from type) b h (wrote to _ kind.Word refl)
  leaves (insn.ArrayLength to from) b f g e h = leaves_same (insn.ArrayLength to from) b h (wrote to _ kind.Word refl)
  leaves (insn.NewInstance to type) b f g e h = leaves_same (insn.NewInstance to type) b h (forgot type to)
  leaves (insn.NewArray to size type) b f g e h = leaves_same (insn.NewArray to size type) b h (wrote to _ (kind_of s.tables.now type) (sym (array_named s.program.now s.tables.now i.told type (not_false _ g))))
  leaves (insn.FilledNewArray type args) b f g e h = leaves_same (insn.FilledNewArray type args) b h (ap (λ k. record before { result = k }) (sym (array_named s.program.now s.tables.now i.told type (filled_array (shape_of s.tables.now type) (not_false _ g)))))
  leaves (insn.Cmp op to x y) b f g e h = leaves_same (insn.Cmp op to x y) b h (wrote to _ kind.Word refl)
  leaves (insn.ArrayGet x to array index) b f g e h = array_got x to array index b (array_two x array index e) h
  leaves (insn.InstanceGet x to on field) b f g e h = leaves_same (insn.InstanceGet x to on field) b h (wrote to _ (kind_of s.tables.now (field_kind s.program.now field)) (field_named field (get_fits s.program.now x to on field f)))
  leaves (insn.StaticGet x to field) b f g e h = leaves_same (insn.StaticGet x to field) b h (wrote to _ (kind_of s.tables.now (field_kind s.program.now field)) (field_named field (static_get_fits s.program.now x to field f)))
  leaves (insn.Invoke k q args) b f g e h = call_left k q args (method_is s.program.now s.tables.now i.told q (invoke_fits s.program.now k q args f)) b g e h
  leaves (insn.Unary op to from) b f g e h = leaves_same (insn.Unary op to from) b h (wrote to _ (number_kind (unary_writes_wide op)) (number_kind_named s.program.now s.tables.now i.told (unary_writes_wide op)))
  leaves (insn.Binary op to x y) b f g e h = leaves_same (insn.Binary op to x y) b h (wrote to _ (number_kind (binary_is_wide op)) (number_kind_named s.program.now s.tables.now i.told (binary_is_wide op)))
  leaves (insn.Literal op to x value) b f g e h = leaves_same (insn.Literal op to x value) b h (wrote to _ kind.Word refl)
  leaves x b f g e h = kinds_below_named s.program.now s.tables.now i.told own a b h
