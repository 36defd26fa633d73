-- The lowest register of a form whose read isn't allowed, by numbers (Dalvik bytecode, "Summary of bytecode set").
use Rattle.std.specs.Prelude.{ℕ, ◌+◌, Bool, true, false, ◌&&◌, ◌||◌, nat_eq, List, [], ◌∷◌, drop, Option, Some, None, slice_get, slice_index_or, if◌then◌else◌}
use Rattle.insn_set.specs.declared.form.Insn.{Insn}
use Rattle.insn_set.specs.declared.form.Insn.TheVariants as insn
use Rattle.insn_set.specs.declared.ops.Item.{Item}
use Rattle.insn_set.specs.declared.ops.InvokeKind.{InvokeKind}
use Rattle.insn_set.specs.declared.ops.InvokeKind.TheVariants as call
use Rattle.insn_set.specs.Widths.{compares_wide, unary_reads_wide, binary_is_wide, second_is_wide}
use Rattle.hierarchy.specs.Tables.{answer}
use Rattle.verify.specs.declared.calls.Search.{Search}
use Rattle.verify.specs.declared.calls.Search.TheVariants as search
use Rattle.verify.specs.declared.kinds.Kind.{Kind}
use Rattle.verify.specs.declared.kinds.Kind.TheVariants as kind
use Rattle.verify.specs.declared.setting.Setting.{Setting}
use Rattle.verify.specs.Kinds.{is_number, is_initialised}
use Rattle.verify.specs.Shapes.{is_wide, has_width}
use Rattle.verify.specs.Types.{shape_of, is_constructor}
use Rattle.verify.specs.Fits.{fits, fits_holder, fits_item, stored_item}
use Rattle.verify.specs.Names.{field_kind, field_class, method_class, parameters_of}
use Rattle.verify.specs.Frames.{Kinds, kind_at, is_pair}
use Rattle.verify.specs.Demands.{unless, lower, same_item, is_number_or_pair, is_movable, is_result, is_tested, is_tested_with, is_item, is_any_array}

-- ---- members

abbrev pub found_at : Setting → ℕ → Search
found_at s n = slice_index_or s.found.now n search.Nothing

abbrev pub is_place : Option (ℕ × ℕ) → ℕ → Bool
is_place (Some at) class = nat_eq at.0 class
is_place None class = false

-- the class of the method defines the field to which the name resolves
abbrev pub defines_field : Setting → ℕ → Bool
defines_field s f = is_place (answer (slice_get s.hierarchy.now.targets.fields.items f)) s.class

-- ---- what single registers hold

abbrev pub is_array_of : Setting → Kind → Item → Bool
is_array_of s kind.Zero i = true
is_array_of s kind.Null i = true
is_array_of s (kind.Array n j) i = same_item (stored_item s.tables.now n j) i
is_array_of s k i = false

abbrev pub is_array_filled : Setting → Kind → ℕ → Bool
is_array_filled s kind.Zero w = true
is_array_filled s kind.Null w = true
is_array_filled s (kind.Array n j) w = has_width w (stored_item s.tables.now n j)
is_array_filled s k w = false

-- a value of a type
abbrev pub is_of_type : Setting → List Kind → ℕ → ℕ → Bool
is_of_type s ks r type = if is_wide (shape_of s.tables.now type) then is_pair ks r else fits s.tables.now (kind_at ks r) type

-- the receiver of a put, which may be the receiver of a constructor where its class defines the field
abbrev pub is_holder : Setting → Kind → ℕ → Bool
is_holder s kind.FreshThis f = defines_field s f
is_holder s k f = fits_holder s.tables.now k (field_class s.program.now f)

-- an object that was made of the class, or the receiver of a constructor of the class or of one whose superclass it is
abbrev pub is_constructed : Setting → Kind → ℕ → Bool
is_constructed s (kind.Fresh made n) class = nat_eq made class
is_constructed s kind.FreshThis class = nat_eq class s.kind || nat_eq class s.superclass
is_constructed s k class = false

-- ---- calls

abbrev pub refused_word : Setting → List Kind → ℕ → List ℕ → Option ℕ
refused_word s ks type [] = None
refused_word s ks type (r ∷ rs) = unless (fits s.tables.now (kind_at ks r) type) r

-- a wide argument has two registers, the second one behind the first
abbrev pub refused_wide : List Kind → List ℕ → Option ℕ
refused_wide ks [] = None
refused_wide ks (r ∷ []) = unless (is_pair ks r) r
refused_wide ks (r ∷ q ∷ rs) = lower (unless (is_pair ks r) r) (unless (nat_eq q (r + 1)) q)

abbrev pub refused_argument : Setting → List Kind → ℕ → List ℕ → Option ℕ
refused_argument s ks type rs = if is_wide (shape_of s.tables.now type) then refused_wide ks rs else refused_word s ks type rs

-- the arguments behind one of a type
abbrev pub behind : Setting → ℕ → List ℕ → List ℕ
behind s type rs = if is_wide (shape_of s.tables.now type) then drop 2 rs else drop 1 rs

-- the lowest of a register and those of arguments
abbrev pub refused_from : Setting → List Kind → Option ℕ → List ℕ → List ℕ → Option ℕ
refused_from s ks so_far [] rs = so_far
refused_from s ks so_far (t ∷ ts) rs = refused_from s ks (lower so_far (refused_argument s ks t rs)) ts (behind s t rs)

abbrev pub refused_arguments : Setting → List Kind → List ℕ → List ℕ → Option ℕ
refused_arguments s ks types rs = refused_from s ks None types rs

abbrev pub fits_search : Setting → Kind → Search → Bool
fits_search s k search.Nothing = true
fits_search s k (search.Finds class static) = fits s.tables.now k class

abbrev pub is_receiver : Setting → ℕ → List Kind → InvokeKind → ℕ → ℕ → Bool
is_receiver s n ks call.Super m r = fits s.tables.now (kind_at ks r) (method_class s.program.now m) && fits_search s (kind_at ks r) (found_at s n)
is_receiver s n ks k m r =
    if is_constructor s.tables.now m then is_constructed s (kind_at ks r) (method_class s.program.now m)
    else fits s.tables.now (kind_at ks r) (method_class s.program.now m)

abbrev pub refused_received : Setting → ℕ → List Kind → InvokeKind → ℕ → List ℕ → Option ℕ
refused_received s n ks k m [] = None
refused_received s n ks k m (r ∷ rs) = lower (unless (is_receiver s n ks k m r) r) (refused_arguments s ks (parameters_of s.program.now m) rs)

abbrev pub refused_call : Setting → ℕ → List Kind → InvokeKind → ℕ → List ℕ → Option ℕ
refused_call s n ks call.Static m rs = refused_arguments s ks (parameters_of s.program.now m) rs
refused_call s n ks k m rs = refused_received s n ks k m rs

abbrev pub refused_items_from : Setting → List Kind → Option ℕ → ℕ → List ℕ → Option ℕ
refused_items_from s ks so_far type [] = so_far
refused_items_from s ks so_far type (r ∷ rs) = refused_items_from s ks (lower so_far (unless (fits_item s.tables.now (kind_at ks r) type) r)) type rs

abbrev pub refused_items : Setting → List Kind → ℕ → List ℕ → Option ℕ
refused_items s ks type rs = refused_items_from s ks None type rs

-- ---- forms

abbrev pub refused_array : Setting → List Kind → Item → ℕ → ℕ → Option ℕ
refused_array s ks i array index = lower (unless (is_array_of s (kind_at ks array) i) array) (unless (is_number (kind_at ks index)) index)

abbrev pub refused_several : Setting → ℕ → List Kind → Insn → Option ℕ
refused_several s n ks (insn.Cmp op to a b) = lower (unless (is_number_or_pair (compares_wide op) ks a) a) (unless (is_number_or_pair (compares_wide op) ks b) b)
refused_several s n ks (insn.If t a b target) = lower (unless (is_tested t (kind_at ks a)) a) (unless (is_tested_with t (kind_at ks a) (kind_at ks b)) b)
refused_several s n ks (insn.Binary op to a b) = lower (unless (is_number_or_pair (binary_is_wide op) ks a) a) (unless (is_number_or_pair (second_is_wide op) ks b) b)
refused_several s n ks (insn.ArrayGet i to array index) = refused_array s ks i array index
refused_several s n ks (insn.ArrayPut i from array index) = lower (unless (is_item i ks from) from) (refused_array s ks i array index)
refused_several s n ks (insn.InstancePut i from on field) = lower (unless (is_of_type s ks from (field_kind s.program.now field)) from) (unless (is_holder s (kind_at ks on) field) on)
refused_several s n ks (insn.FilledNewArray type args) = refused_items s ks type args
refused_several s n ks (insn.Invoke k method args) = refused_call s n ks k method args
refused_several s n ks i = None

-- for the place of the last result, or that of the caught object, it is the register that the form writes
abbrev pub refused : Setting → ℕ → Kinds → Insn → Option ℕ
refused s n a (insn.Move slot to from) = unless (is_movable slot a.registers from) from
refused s n a (insn.MoveResult slot to) = unless (is_result slot a.result) to
refused s n a (insn.MoveException to) = unless (is_initialised a.caught) to
refused s n a (insn.Return slot from) = unless (is_of_type s a.registers from s.result) from
refused s n a (insn.MonitorEnter on) = unless (is_initialised (kind_at a.registers on)) on
refused s n a (insn.MonitorExit on) = unless (is_initialised (kind_at a.registers on)) on
refused s n a (insn.CheckCast on type) = unless (is_initialised (kind_at a.registers on)) on
refused s n a (insn.Throw on) = unless (is_initialised (kind_at a.registers on)) on
refused s n a (insn.InstanceOf to from type) = unless (is_initialised (kind_at a.registers from)) from
refused s n a (insn.ArrayLength to from) = unless (is_any_array (kind_at a.registers from)) from
refused s n a (insn.NewArray to size type) = unless (is_number (kind_at a.registers size)) size
refused s n a (insn.FillArray on width items) = unless (is_array_filled s (kind_at a.registers on) width) on
refused s n a (insn.PackedSwitch on first targets) = unless (is_number (kind_at a.registers on)) on
refused s n a (insn.SparseSwitch on keys targets) = unless (is_number (kind_at a.registers on)) on
refused s n a (insn.IfZero t x target) = unless (is_tested t (kind_at a.registers x)) x
refused s n a (insn.Literal op to x value) = unless (is_number (kind_at a.registers x)) x
refused s n a (insn.Unary op to from) = unless (is_number_or_pair (unary_reads_wide op) a.registers from) from
refused s n a (insn.InstanceGet i to on field) = unless (fits_holder s.tables.now (kind_at a.registers on) (field_class s.program.now field)) on
refused s n a (insn.StaticPut i from field) = unless (is_of_type s a.registers from (field_kind s.program.now field)) from
refused s n a i = refused_several s n a.registers i

-- ---- the same by groups of forms, each of which hands all other forms on

-- forms that name a member or a type beside several registers
abbrev pub refused_named : Setting → ℕ → List Kind → Insn → Option ℕ
refused_named s n ks (insn.InstancePut i from on field) = lower (unless (is_of_type s ks from (field_kind s.program.now field)) from) (unless (is_holder s (kind_at ks on) field) on)
refused_named s n ks (insn.FilledNewArray type args) = refused_items s ks type args
refused_named s n ks (insn.Invoke k method args) = refused_call s n ks k method args
refused_named s n ks i = None

-- forms with one operand, but for those on objects
abbrev pub refused_single : Setting → ℕ → List Kind → Insn → Option ℕ
refused_single s n ks (insn.ArrayLength to from) = unless (is_any_array (kind_at ks from)) from
refused_single s n ks (insn.NewArray to size type) = unless (is_number (kind_at ks size)) size
refused_single s n ks (insn.FillArray on width items) = unless (is_array_filled s (kind_at ks on) width) on
refused_single s n ks (insn.PackedSwitch on first targets) = unless (is_number (kind_at ks on)) on
refused_single s n ks (insn.SparseSwitch on keys targets) = unless (is_number (kind_at ks on)) on
refused_single s n ks (insn.IfZero t x target) = unless (is_tested t (kind_at ks x)) x
refused_single s n ks (insn.Literal op to x value) = unless (is_number (kind_at ks x)) x
refused_single s n ks (insn.Unary op to from) = unless (is_number_or_pair (unary_reads_wide op) ks from) from
refused_single s n ks (insn.InstanceGet i to on field) = unless (fits_holder s.tables.now (kind_at ks on) (field_class s.program.now field)) on
refused_single s n ks (insn.StaticPut i from field) = unless (is_of_type s ks from (field_kind s.program.now field)) from
refused_single s n ks i = refused_several s n ks i
