-- What the facts and the kinds let constant propagation write over an instruction leaves no more than that.
use Rattle.std.proofs.Common.{◌≡◌, ℕ, ◌+◌, ℤ, Bool, true, false, true≢false, List, [], ◌∷◌, Option, Some, None, refl, sym, ap, ◌∙◌, subst, eqb-true}
use Rattle.std.specs.Prelude.{◌||◌, ◌==◌, if◌then◌else◌, nat_eq, Contains}
use Rattle.std.specs.Int.{w32, cast_unsigned}
use Rattle.std.specs.List.{list_all, list_any}
use Rattle.lemmas.proofs.Bools.{and_left, clash, not_false, or_false_left, or_false_right}
use Rattle.lemmas.proofs.Lists.{contains_here, contains_there}
use Rattle.lemmas.proofs.Options.{some_same}
use Rattle.insn_set.specs.Widths.{is_wide_slot, is_wide_item, unary_writes_wide, binary_is_wide}
use Rattle.insn_set.specs.declared.ops.Item.{Item}
use Rattle.insn_set.specs.declared.ops.Item.TheVariants as item
use Rattle.insn_set.specs.declared.ops.Slot.{Slot}
use Rattle.insn_set.specs.declared.ops.Slot.TheVariants as slot
use Rattle.insn_set.specs.declared.form.Insn.{Insn}
use Rattle.insn_set.specs.declared.form.Insn.TheVariants as insn
use Rattle.program_model.specs.declared.program.Program.{Program}
use Rattle.dalvik_defs.specs.Names.{Text, is_reference, is_wide}
use Rattle.dalvik_defs.specs.Naming.{field_at, form_of, named}
use Rattle.dalvik_defs.specs.declared.forms.Form.{Form}
use Rattle.dalvik_defs.specs.declared.forms.Form.TheVariants as form
use Rattle.dalvik_defs.specs.declared.program.NamedClass.{NamedClass}
use Rattle.dalvik_defs.specs.declared.program.NamedMethod.{NamedMethod}
use Rattle.dalvik_defs.specs.declared.program.NamedProgram.{NamedProgram}
use Rattle.pass_defs.specs.Bare.{continues}
use Rattle.pass_defs.specs.Demands.{demands, is_allowed, meets, place_allowed, result_fits}
use Rattle.pass_defs.specs.Kinds.{Kind, Undefined, Zero, Word, Low, Reference, is_below, kind_of}
use Rattle.pass_defs.specs.Registers.{Kinds, kind_at, written}
use Rattle.pass_defs.specs.Typed.{after, constant_kind, is_wrong, moved, number_kind, wrong_field, wrong_first, wrong_item}
use Rattle.pass_defs.specs.Walks.{onward}
use Rattle.std.specs.Int.RustNames.{FitsSigned}
use Rattle.premises.specs.Numbers.{HasWords}
use Rattle.form_laws.specs.Typed.{Lowers}
use Rattle.form_laws.proofs.Lowering.{goto_lowers, nop_lowers, wide_lowers, word_lowers}
use Rattle.const_prop.specs.declared.choices.Way.{Way}
use Rattle.const_prop.specs.declared.choices.Way.TheVariants.{Open, Next, To}
use Rattle.const_prop.specs.declared.numbers.Number.{Number}
use Rattle.const_prop.specs.declared.numbers.Number.TheVariants as value
use Rattle.const_prop.specs.Choices.{chosen, goto_or_nop, has_target, is_choice}
use Rattle.const_prop.specs.Constants.{IsConstantFor, number_written, result_of}
use Rattle.const_prop.specs.Kinds.{fits, is_narrow_move}
use Rattle.facts_kept.proofs.Beneath.{low_only, narrow_type, wide_type, word_above, zero_initialised, zero_kind, zero_object}

-- ---- lists

any_there : (ts : List ℕ) (n : ℕ) → list_any (λ t. nat_eq t n) ts ≡ true → Contains ts n
any_there [] n e = absurd (true≢false (sym e))
any_there (t ∷ ts) n e = by (any_there ts n) (nat_eq t n) refl e
  where
    by : (list_any (λ t. nat_eq t n) ts ≡ true → Contains ts n) → (b : Bool) → nat_eq t n ≡ b → (b || list_any (λ t. nat_eq t n) ts) ≡ true → Contains (t ∷ ts) n
    by more true i k = subst (Contains (t ∷ ts)) (eqb-true t n i) (contains_here t ts)
    by more false i k = contains_there t ts n (more k)

one_target : (t n : ℕ) → nat_eq t n ≡ true → Contains (t ∷ []) n
one_target t n e = subst (Contains (t ∷ [])) (eqb-true t n e) (contains_here t [])

-- ---- what a form with a result writes

width_of : (x r : ℕ × Bool) → Some x ≡ Some r → x.1 ≡ r.1
width_of x r e = ap (λ (z : ℕ × Bool). z.1) (some_same x r e)

too_wide : {A : Type 0} (x to : ℕ) → ◌≡◌ {A = Option (ℕ × Bool)} (Some (x, false)) (Some (to, true)) → A
too_wide x to e = absurd (true≢false (sym (width_of (x, false) (to, true) e)))

too_narrow : {A : Type 0} (x to : ℕ) → ◌≡◌ {A = Option (ℕ × Bool)} (Some (x, true)) (Some (to, false)) → A
too_narrow x to e = absurd (true≢false (width_of (x, true) (to, false) e))

module _ (p : Program) (c : NamedClass) (m : NamedMethod) (n : ℕ) (a : Kinds) where
  abbrev q : NamedProgram
  q = named p

  abbrev pub left_kind : Insn → Kind
  left_kind (insn.Move slot to from) = moved slot (kind_at a.registers from)
  left_kind (insn.MoveResult slot to) = a.result
  left_kind (insn.MoveException to) = a.caught
  left_kind (insn.ConstString to string) = Reference
  left_kind (insn.ConstClass to kind) = Reference
  left_kind (insn.InstanceOf to from kind) = Word
  left_kind (insn.Cmp op to x y) = Word
  left_kind (insn.StaticGet item to field) = kind_of q (field_at p field).kind
  left_kind (insn.Unary op to from) = number_kind (unary_writes_wide op)
  left_kind (insn.Binary op to x y) = number_kind (binary_is_wide op)
  left_kind (insn.Literal op to x value) = Word
  left_kind i = Undefined

  same_register : (x r : ℕ × Bool) (k : Kind) → Some x ≡ Some r → written x.0 k a ≡ written r.0 k a
  same_register x r k e = ap (λ (z : ℕ × Bool). written z.0 k a) (some_same x r e)

  left_after : (i : Insn) (r : ℕ × Bool) → result_of i ≡ Some r → (continues (form_of p i) ≡ true) × (after q c n (form_of p i) a ≡ written r.0 (left_kind i) a)
  left_after (insn.Move slot to from) r e = (refl, same_register (to, is_wide_slot slot) r (moved slot (kind_at a.registers from)) e)
  left_after (insn.MoveResult slot to) r e = (refl, same_register (to, is_wide_slot slot) r a.result e)
  left_after (insn.MoveException to) r e = (refl, same_register (to, false) r a.caught e)
  left_after (insn.ConstString to string) r e = (refl, same_register (to, false) r Reference e)
  left_after (insn.ConstClass to kind) r e = (refl, same_register (to, false) r Reference e)
  left_after (insn.InstanceOf to from kind) r e = (refl, same_register (to, false) r Word e)
  left_after (insn.Cmp op to x y) r e = (refl, same_register (to, false) r Word e)
  left_after (insn.StaticGet item to field) r e = (refl, same_register (to, is_wide_item item) r (kind_of q (field_at p field).kind) e)
  left_after (insn.Unary op to from) r e = (refl, same_register (to, unary_writes_wide op) r (number_kind (unary_writes_wide op)) e)
  left_after (insn.Binary op to x y) r e = (refl, same_register (to, binary_is_wide op) r (number_kind (binary_is_wide op)) e)
  left_after (insn.Literal op to x value) r e = (refl, same_register (to, false) r Word e)
  left_after i r e = absurd (cc)

  -- ---- wide results

  wide_moved : (s : Slot) (k : Kind) → is_wide_slot s ≡ true → moved s k ≡ Low
  wide_moved slot.Wide k e = refl
  wide_moved s k e = clash false e refl

  wide_taken : (s : Slot) → is_wide_slot s ≡ true → result_fits s a.result ≡ true → a.result ≡ Low
  wide_taken slot.Wide e h = low_only a.result h
  wide_taken s e h = clash false e refl

  wide_got : (i : Item) (t : Text) → is_wide_item i ≡ true → wrong_item i t ≡ false → kind_of q t ≡ Low
  wide_got item.Wide t e h = wide_type q t (not_false (is_wide t) h)
  wide_got i t e h = clash false e refl

  wide_number : (b : Bool) → b ≡ true → number_kind b ≡ Low
  wide_number b e = ap number_kind e

  got_right : (i : Item) (to field : ℕ) → is_wrong q c m a (form_of p (insn.StaticGet i to field)) ≡ false → wrong_item i (field_at p field).kind ≡ false
  got_right i to field h = or_false_left (wrong_item i (field_at p field).kind) (wrong_field q true (field_at p field))
      (or_false_left (wrong_item i (field_at p field).kind || wrong_field q true (field_at p field)) (wrong_first q (field_at p field)) h)

  placed : (f : Form) → is_allowed q c m a f ≡ true → place_allowed a f ≡ true
  placed f e = and_left (place_allowed a f) (list_all (λ d. meets q c a.registers d.0 d.1) (demands q c m a.registers f)) e

  wide_left : (i : Insn) (to : ℕ) → result_of i ≡ Some (to, true) → is_allowed q c m a (form_of p i) ≡ true → is_wrong q c m a (form_of p i) ≡ false → left_kind i ≡ Low
  wide_left (insn.Move slot x from) to e al ri = wide_moved slot (kind_at a.registers from) (width_of (x, is_wide_slot slot) (to, true) e)
  wide_left (insn.MoveResult slot x) to e al ri = wide_taken slot (width_of (x, is_wide_slot slot) (to, true) e) (placed (form.MoveResult slot x) al)
  wide_left (insn.MoveException x) to e al ri = too_wide x to e
  wide_left (insn.ConstString x string) to e al ri = too_wide x to e
  wide_left (insn.ConstClass x kind) to e al ri = too_wide x to e
  wide_left (insn.InstanceOf x from kind) to e al ri = too_wide x to e
  wide_left (insn.Cmp op x y z) to e al ri = too_wide x to e
  wide_left (insn.StaticGet item x field) to e al ri = wide_got item (field_at p field).kind (width_of (x, is_wide_item item) (to, true) e) (got_right item x field ri)
  wide_left (insn.Unary op x from) to e al ri = wide_number (unary_writes_wide op) (width_of (x, unary_writes_wide op) (to, true) e)
  wide_left (insn.Binary op x y z) to e al ri = wide_number (binary_is_wide op) (width_of (x, binary_is_wide op) (to, true) e)
  wide_left (insn.Literal op x y v) to e al ri = too_wide x to e
  wide_left i to e al ri = absurd (cc)

  -- ---- narrow results

  module _ (z : ℤ) (small : FitsSigned w32 z) where
    abbrev Above : Kind → Type 0
    Above k = is_below q (constant_kind z) k ≡ true

    null_above : (k : Kind) → (cast_unsigned w32 z == 0) ≡ true → is_below q Zero k ≡ true → Above k
    null_above k e h = subst (λ l. is_below q l k ≡ true) (sym (zero_kind z small e)) h

    narrow_got : (i : Item) (t : Text) (x to field : ℕ) (before : Option Insn) → is_wide_item i ≡ false → wrong_item i t ≡ false → fits p before (insn.StaticGet i x field) (value.Word (cast_unsigned w32 z)) ≡ true → Above (kind_of q t)
    narrow_got item.Wide t x to field before e h f = clash true refl e
    narrow_got item.Object t x to field before e h f = null_above (kind_of q t) f (zero_object q t (not_false (is_reference t) h))
    narrow_got i t x to field before e h f = narrow_type q z t (or_false_left (is_wide t) (is_reference t) h) (or_false_right (is_wide t) (is_reference t) h)

    narrow_number : (b : Bool) → b ≡ false → Above (number_kind b)
    narrow_number b e = subst (λ b. Above (number_kind b)) (sym e) (word_above q z)

    narrow_left : (i : Insn) (to : ℕ) (before : Option Insn) → result_of i ≡ Some (to, false) → is_allowed q c m a (form_of p i) ≡ true → is_wrong q c m a (form_of p i) ≡ false → fits p before i (value.Word (cast_unsigned w32 z)) ≡ true
        → (is_narrow_move i ≡ true → Above (left_kind i)) → ((s : Slot) (x : ℕ) → i ≡ insn.MoveResult s x → is_wide_slot s ≡ false → Above a.result) → Above (left_kind i)
    narrow_left (insn.Move slot.Word x from) to before e al ri f moves takes = moves refl
    narrow_left (insn.Move slot.Object x from) to before e al ri f moves takes = moves refl
    narrow_left (insn.Move slot.Wide x from) to before e al ri f moves takes = too_narrow x to e
    narrow_left (insn.MoveResult s x) to before e al ri f moves takes = takes s x refl (width_of (x, is_wide_slot s) (to, false) e)
    narrow_left (insn.MoveException x) to before e al ri f moves takes = null_above a.caught f (zero_initialised q a.caught (placed (form.MoveException x) al))
    narrow_left (insn.ConstString x string) to before e al ri f moves takes = null_above Reference f refl
    narrow_left (insn.ConstClass x kind) to before e al ri f moves takes = null_above Reference f refl
    narrow_left (insn.InstanceOf x from kind) to before e al ri f moves takes = word_above q z
    narrow_left (insn.Cmp op x y w) to before e al ri f moves takes = word_above q z
    narrow_left (insn.StaticGet item x field) to before e al ri f moves takes = narrow_got item (field_at p field).kind x to field before (width_of (x, is_wide_item item) (to, false) e) (got_right item x field ri) f
    narrow_left (insn.Unary op x from) to before e al ri f moves takes = narrow_number (unary_writes_wide op) (width_of (x, unary_writes_wide op) (to, false) e)
    narrow_left (insn.Binary op x y w) to before e al ri f moves takes = narrow_number (binary_is_wide op) (width_of (x, binary_is_wide op) (to, false) e)
    narrow_left (insn.Literal op x y v) to before e al ri f moves takes = word_above q z
    narrow_left i to before e al ri f moves takes = absurd (cc)

  -- ---- what is written

  -- what has to be known of a narrow constant over a move or over a taken result
  pub record Suits (i : Insn) (z : ℤ) : Type 0 where
    pub moves : is_narrow_move i ≡ true → is_below q (constant_kind z) (left_kind i) ≡ true
    pub takes : (s : Slot) (x : ℕ) → i ≡ insn.MoveResult s x → is_wide_slot s ≡ false → is_below q (constant_kind z) a.result ≡ true

  module _ (i : Insn) (before : Option Insn) (al : is_allowed q c m a (form_of p i) ≡ true) (ri : is_wrong q c m a (form_of p i) ≡ false) where
    pub constant_lowers : (g : Insn) → IsConstantFor i g → HasWords g → ((k : Number) → number_written g ≡ Some k → fits p before i k ≡ true)
        → ((z : ℤ) → FitsSigned w32 z → number_written g ≡ Some (value.Word (cast_unsigned w32 z)) → Suits i z) → Lowers q c m n a (form_of p i) (form_of p g)
    constant_lowers (insn.Const to z) x small fit suits =
        let l = left_after i (to, false) (sym x.result) in
        let s = suits z small refl in
        word_lowers q c m n a (form_of p i) to z (left_kind i) l.0 l.1 (narrow_left z small i to before (sym x.result) al ri (fit (value.Word (cast_unsigned w32 z)) refl) s.moves s.takes)
    constant_lowers (insn.ConstWide to z) x small fit suits =
        let l = left_after i (to, true) (sym x.result) in
        wide_lowers q c m n a (form_of p i) to z l.0 (l.1 ∙ ap (λ k. written to k a) (wide_left i to (sym x.result) al ri))
    constant_lowers g x small fit suits = clash false x.constant refl

  -- ---- branches

  choice_stays : (i : Insn) → is_choice i ≡ true → (continues (form_of p i) ≡ true) × (after q c n (form_of p i) a ≡ a)
  choice_stays (insn.If test x y target) e = (refl, refl)
  choice_stays (insn.IfZero test x target) e = (refl, refl)
  choice_stays (insn.PackedSwitch on first targets) e = (refl, refl)
  choice_stays (insn.SparseSwitch on keys targets) e = (refl, refl)
  choice_stays i e = clash false e refl

  target_chooses : (i : Insn) (t : ℕ) → has_target i t ≡ true → is_choice i ≡ true
  target_chooses (insn.If test x y target) t e = refl
  target_chooses (insn.IfZero test x target) t e = refl
  target_chooses (insn.PackedSwitch on first targets) t e = refl
  target_chooses (insn.SparseSwitch on keys targets) t e = refl
  target_chooses i t e = clash false e refl

  target_there : (i : Insn) (t : ℕ) → has_target i t ≡ true → Contains (onward (form_of p i) n) t
  target_there (insn.If test x y target) t e = contains_there (n + 1) (target ∷ []) t (one_target target t e)
  target_there (insn.IfZero test x target) t e = contains_there (n + 1) (target ∷ []) t (one_target target t e)
  target_there (insn.PackedSwitch on first targets) t e = contains_there (n + 1) targets t (any_there targets t e)
  target_there (insn.SparseSwitch on keys targets) t e = contains_there (n + 1) targets t (any_there targets t e)
  target_there i t e = clash false e refl

  nop_turn : (i : Insn) → is_choice i ≡ true → Lowers q c m n a (form_of p i) form.Nop
  nop_turn i e = let s = choice_stays i e in nop_lowers q c m n a (form_of p i) s.0 s.1

  pub branch_lowers : (i g : Insn) (next : ℕ) (way : Way) → chosen i next way ≡ Some g → Lowers q c m n a (form_of p i) (form_of p g)
  branch_lowers i g next Open h = absurd (cc)
  branch_lowers i g next Next h = by (is_choice i) refl h
    where
      by : (v : Bool) → is_choice i ≡ v → (if v then Some insn.Nop else None) ≡ Some g → Lowers q c m n a (form_of p i) (form_of p g)
      by false k e = absurd (cc)
      by true k e = subst (λ g. Lowers q c m n a (form_of p i) (form_of p g)) (some_same insn.Nop g e) (nop_turn i k)
  branch_lowers i g next (To t) h = by (has_target i t) refl h
    where
      to : (v : Bool) → has_target i t ≡ true → (if v then insn.Nop else insn.Goto t) ≡ g → Lowers q c m n a (form_of p i) (form_of p g)
      to true k e = subst (λ g. Lowers q c m n a (form_of p i) (form_of p g)) e (nop_turn i (target_chooses i t k))
      to false k e = subst (λ g. Lowers q c m n a (form_of p i) (form_of p g)) e
          (goto_lowers q c m n a (form_of p i) t (target_there i t k) (choice_stays i (target_chooses i t k)).1)

      by : (v : Bool) → has_target i t ≡ v → (if v then Some (goto_or_nop next t) else None) ≡ Some g → Lowers q c m n a (form_of p i) (form_of p g)
      by false k e = absurd (cc)
      by true k e = to (nat_eq t next) k (some_same (goto_or_nop next t) g e)
