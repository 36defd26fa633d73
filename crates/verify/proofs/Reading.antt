-- What is lower may be read where the higher may: all registers of a form.
use Rattle.std.proofs.Common.{◌≡◌, ℕ, ◌+◌, Bool, true, false, ◌&&◌, ◌||◌, not, nat_eq, List, [], ◌∷◌, Option, Some, None, refl, sym, subst}
use Rattle.std.specs.Prelude.{if◌then◌else◌}
use Rattle.insn_set.specs.declared.form.Insn.{Insn}
use Rattle.insn_set.specs.declared.form.Insn.TheVariants as insn
use Rattle.insn_set.specs.declared.ops.InvokeKind.{InvokeKind}
use Rattle.insn_set.specs.declared.ops.InvokeKind.TheVariants as call
use Rattle.insn_set.specs.declared.ops.Item.{Item}
use Rattle.insn_set.specs.Widths.{compares_wide, unary_reads_wide, binary_is_wide, second_is_wide}
use Rattle.verify.specs.declared.calls.Search.{Search}
use Rattle.verify.specs.declared.calls.Search.TheVariants as search
use Rattle.verify.specs.declared.kinds.Kind.{Kind}
use Rattle.verify.specs.declared.setting.Setting.{Setting}
use Rattle.verify.specs.Demands.{unless, lower_than, lower, is_number_or_pair, is_movable, is_result, is_tested, is_tested_with, is_item, is_any_array}
use Rattle.verify.specs.Faults.{fault_of}
use Rattle.verify.specs.Fits.{fits, fits_holder, fits_item}
use Rattle.verify.specs.Frames.{Kinds, kind_at, is_pair}
use Rattle.verify.specs.Kinds.{is_number, is_initialised}
use Rattle.verify.specs.Meeting.{IsMeeting}
use Rattle.verify.specs.Names.{field_kind, field_class, method_class, parameters_of}
use Rattle.verify.specs.Reads.{found_at, is_array_of, is_array_filled, is_of_type, is_holder, is_constructed, refused_word, refused_wide, refused_argument, behind, refused_from, refused_arguments, fits_search, is_receiver, refused_received, refused_call, refused_items_from, refused_array, refused_several, refused}
use Rattle.verify.specs.Shapes.{is_void, is_wide}
use Rattle.verify.specs.Types.{shape_of, is_constructor}
use Rattle.verify.specs.Typings.{Below, IsBelow}
use Rattle.verify.specs.Wrong.{wrong_result, ends_early, is_wrong}
use Rattle.verify.proofs.Fitting.{fits_below, holder_fits_below, fits_item_below}
use Rattle.verify.proofs.Holding.{Each, pair_below, number_or_pair_below, movable_below, result_below, tested_below, tested_with_below, item_kind_below, of_type_below, holder_below, constructed_below, array_of_below, filled_below, any_array_below}
use Rattle.verify.proofs.Lattice.{left_true, right_true}
use Rattle.verify.proofs.Orders.{number_below, made_below}

-- ---- registers

pub unless_true : (c : Bool) (r : ℕ) → unless c r ≡ None → c ≡ true
unless_true true r e = refl
unless_true false r e = absurd (cc)

unless_on : (x y : Bool) (r : ℕ) → (x ≡ true → y ≡ true) → unless x r ≡ None → unless y r ≡ None
unless_on true y r f e = let p : y ≡ true = f refl in rw p refl
unless_on false y r f e = absurd (cc)

than_some : (r : ℕ) (y : Option ℕ) → lower_than r y ≡ None → ⊥
than_some r (Some q) e = absurd (cc)
than_some r None e = absurd (cc)

pub lower_left : (x y : Option ℕ) → lower x y ≡ None → x ≡ None
lower_left None y e = refl
lower_left (Some r) y e = absurd (than_some r y e)

pub lower_right : (x y : Option ℕ) → lower x y ≡ None → y ≡ None
lower_right None y e = e
lower_right (Some r) y e = absurd (than_some r y e)

lower_none : (x y : Option ℕ) → x ≡ None → y ≡ None → lower x y ≡ None
lower_none x y p q = rw p q

lower_on : (x y u v : Option ℕ) → (x ≡ None → u ≡ None) → (y ≡ None → v ≡ None) → lower x y ≡ None → lower u v ≡ None
lower_on x y u v f g e = lower_none u v (f (lower_left x y e)) (g (lower_right x y e))

module _ (s : Setting) (m : IsMeeting s.tables.now) (ks ls : List Kind) (h : Each s.tables.now ks ls) where
  -- ---- arguments

  wide_on : (rs : List ℕ) → refused_wide ls rs ≡ None → refused_wide ks rs ≡ None
  wide_on [] e = refl
  wide_on (r ∷ []) e = unless_on (is_pair ls r) (is_pair ks r) r (pair_below s.tables.now ks ls r h) e
  wide_on (r ∷ q ∷ rs) e = lower_on (unless (is_pair ls r) r) (unless (nat_eq q (r + 1)) q) (unless (is_pair ks r) r) (unless (nat_eq q (r + 1)) q) (unless_on (is_pair ls r) (is_pair ks r) r (pair_below s.tables.now ks ls r h)) (λ x. x) e

  word_on : (type : ℕ) (rs : List ℕ) → refused_word s ls type rs ≡ None → refused_word s ks type rs ≡ None
  word_on type [] e = refl
  word_on type (r ∷ rs) e = unless_on (fits s.tables.now (kind_at ls r) type) (fits s.tables.now (kind_at ks r) type) r (fits_below s.tables.now m (kind_at ks r) (kind_at ls r) type (h r)) e

  argument_on : (type : ℕ) (rs : List ℕ) → refused_argument s ls type rs ≡ None → refused_argument s ks type rs ≡ None
  argument_on type rs e = go (is_wide (shape_of s.tables.now type)) e
    where
      go : (x : Bool) → (if x then refused_wide ls rs else refused_word s ls type rs) ≡ None → (if x then refused_wide ks rs else refused_word s ks type rs) ≡ None
      go true e = wide_on rs e
      go false e = word_on type rs e

  -- what is refused already stays refused
  so_far_none : (so : Option ℕ) (types rs : List ℕ) → refused_from s ls so types rs ≡ None → so ≡ None
  so_far_none so [] rs e = e
  so_far_none so (t ∷ ts) rs e = lower_left so (refused_argument s ls t rs) (so_far_none (lower so (refused_argument s ls t rs)) ts (behind s t rs) e)

  from_on : (types rs : List ℕ) → refused_from s ls None types rs ≡ None → refused_from s ks None types rs ≡ None
  from_on [] rs e = refl
  from_on (t ∷ ts) rs e =
      let n : refused_argument s ls t rs ≡ None = so_far_none (refused_argument s ls t rs) ts (behind s t rs) e in
      let k : refused_argument s ks t rs ≡ None = argument_on t rs n in
      let i : refused_from s ls None ts (behind s t rs) ≡ None = subst (λ x. refused_from s ls x ts (behind s t rs) ≡ None) n e in
      subst (λ x. refused_from s ks x ts (behind s t rs) ≡ None) (sym k) (from_on ts (behind s t rs) i)

  arguments_on : (types rs : List ℕ) → refused_arguments s ls types rs ≡ None → refused_arguments s ks types rs ≡ None
  arguments_on types rs e = from_on types rs e

  -- ---- calls

  search_on : (k l : Kind) (f : Search) → Below s.tables.now k l → fits_search s l f ≡ true → fits_search s k f ≡ true
  search_on k l search.Nothing b e = refl
  search_on k l (search.Finds class static) b e = fits_below s.tables.now m k l class b e

  plain_receiver : (k : ℕ) (r : ℕ) → (if is_constructor s.tables.now k then is_constructed s (kind_at ls r) (method_class s.program.now k) else fits s.tables.now (kind_at ls r) (method_class s.program.now k)) ≡ true → (if is_constructor s.tables.now k then is_constructed s (kind_at ks r) (method_class s.program.now k) else fits s.tables.now (kind_at ks r) (method_class s.program.now k)) ≡ true
  plain_receiver k r e = go (is_constructor s.tables.now k) e
    where
      go : (x : Bool) → (if x then is_constructed s (kind_at ls r) (method_class s.program.now k) else fits s.tables.now (kind_at ls r) (method_class s.program.now k)) ≡ true → (if x then is_constructed s (kind_at ks r) (method_class s.program.now k) else fits s.tables.now (kind_at ks r) (method_class s.program.now k)) ≡ true
      go true e = constructed_below s (kind_at ks r) (kind_at ls r) (method_class s.program.now k) (h r) e
      go false e = fits_below s.tables.now m (kind_at ks r) (kind_at ls r) (method_class s.program.now k) (h r) e

  and_on : (x y u v : Bool) → (x ≡ true → u ≡ true) → (y ≡ true → v ≡ true) → (x && y) ≡ true → (u && v) ≡ true
  and_on x y u v f g e = let p : u ≡ true = f (left_true x y e) in let q : v ≡ true = g (right_true x y e) in rw (p, q) refl

  receiver_on : (n : ℕ) (c : InvokeKind) (k r : ℕ) → is_receiver s n ls c k r ≡ true → is_receiver s n ks c k r ≡ true
  receiver_on n call.Super k r e =
      and_on (fits s.tables.now (kind_at ls r) (method_class s.program.now k)) (fits_search s (kind_at ls r) (found_at s n)) (fits s.tables.now (kind_at ks r) (method_class s.program.now k)) (fits_search s (kind_at ks r) (found_at s n))
      (fits_below s.tables.now m (kind_at ks r) (kind_at ls r) (method_class s.program.now k) (h r)) (search_on (kind_at ks r) (kind_at ls r) (found_at s n) (h r)) e
  receiver_on n call.Virtual k r e = plain_receiver k r e
  receiver_on n call.Direct k r e = plain_receiver k r e
  receiver_on n call.Static k r e = plain_receiver k r e
  receiver_on n call.Interface k r e = plain_receiver k r e

  received_on : (n : ℕ) (c : InvokeKind) (k : ℕ) (rs : List ℕ) → refused_received s n ls c k rs ≡ None → refused_received s n ks c k rs ≡ None
  received_on n c k [] e = refl
  received_on n c k (r ∷ rs) e = lower_on (unless (is_receiver s n ls c k r) r) (refused_arguments s ls (parameters_of s.program.now k) rs) (unless (is_receiver s n ks c k r) r) (refused_arguments s ks (parameters_of s.program.now k) rs) (unless_on (is_receiver s n ls c k r) (is_receiver s n ks c k r) r (receiver_on n c k r)) (arguments_on (parameters_of s.program.now k) rs) e

  call_on : (n : ℕ) (c : InvokeKind) (k : ℕ) (rs : List ℕ) → refused_call s n ls c k rs ≡ None → refused_call s n ks c k rs ≡ None
  call_on n call.Static k rs e = arguments_on (parameters_of s.program.now k) rs e
  call_on n call.Super k rs e = received_on n call.Super k rs e
  call_on n call.Virtual k rs e = received_on n call.Virtual k rs e
  call_on n call.Direct k rs e = received_on n call.Direct k rs e
  call_on n call.Interface k rs e = received_on n call.Interface k rs e

  -- ---- new arrays

  items_none : (so : Option ℕ) (type : ℕ) (rs : List ℕ) → refused_items_from s ls so type rs ≡ None → so ≡ None
  items_none so type [] e = e
  items_none so type (r ∷ rs) e = lower_left so (unless (fits_item s.tables.now (kind_at ls r) type) r) (items_none (lower so (unless (fits_item s.tables.now (kind_at ls r) type) r)) type rs e)

  items_on : (type : ℕ) (rs : List ℕ) → refused_items_from s ls None type rs ≡ None → refused_items_from s ks None type rs ≡ None
  items_on type [] e = refl
  items_on type (r ∷ rs) e =
      let n : unless (fits_item s.tables.now (kind_at ls r) type) r ≡ None = items_none (unless (fits_item s.tables.now (kind_at ls r) type) r) type rs e in
      let k : unless (fits_item s.tables.now (kind_at ks r) type) r ≡ None = unless_on (fits_item s.tables.now (kind_at ls r) type) (fits_item s.tables.now (kind_at ks r) type) r (fits_item_below s.tables.now m (kind_at ks r) (kind_at ls r) type (h r)) n in
      let i : refused_items_from s ls None type rs ≡ None = subst (λ x. refused_items_from s ls x type rs ≡ None) n e in
      subst (λ x. refused_items_from s ks x type rs ≡ None) (sym k) (items_on type rs i)

  -- ---- forms

  number_on : (r : ℕ) → unless (is_number (kind_at ls r)) r ≡ None → unless (is_number (kind_at ks r)) r ≡ None
  number_on r e = unless_on (is_number (kind_at ls r)) (is_number (kind_at ks r)) r (number_below s.tables.now (kind_at ks r) (kind_at ls r) (h r)) e

  made_on : (r : ℕ) → unless (is_initialised (kind_at ls r)) r ≡ None → unless (is_initialised (kind_at ks r)) r ≡ None
  made_on r e = unless_on (is_initialised (kind_at ls r)) (is_initialised (kind_at ks r)) r (made_below s.tables.now (kind_at ks r) (kind_at ls r) (h r)) e

  sized_on : (wide : Bool) (r : ℕ) → unless (is_number_or_pair wide ls r) r ≡ None → unless (is_number_or_pair wide ks r) r ≡ None
  sized_on wide r e = unless_on (is_number_or_pair wide ls r) (is_number_or_pair wide ks r) r (number_or_pair_below s.tables.now wide ks ls r h) e

  typed_on : (r type : ℕ) → unless (is_of_type s ls r type) r ≡ None → unless (is_of_type s ks r type) r ≡ None
  typed_on r type e = unless_on (is_of_type s ls r type) (is_of_type s ks r type) r (of_type_below s m ks ls r type h) e

  array_on : (i : Item) (array index : ℕ) → refused_array s ls i array index ≡ None → refused_array s ks i array index ≡ None
  array_on i array index e = lower_on (unless (is_array_of s (kind_at ls array) i) array) (unless (is_number (kind_at ls index)) index) (unless (is_array_of s (kind_at ks array) i) array) (unless (is_number (kind_at ks index)) index) (unless_on (is_array_of s (kind_at ls array) i) (is_array_of s (kind_at ks array) i) array (array_of_below s m (kind_at ks array) (kind_at ls array) i (h array))) (number_on index) e

  several_on : (n : ℕ) (i : Insn) → refused_several s n ls i ≡ None → refused_several s n ks i ≡ None
  several_on n (insn.Cmp op to a b) e = lower_on (unless (is_number_or_pair (compares_wide op) ls a) a) (unless (is_number_or_pair (compares_wide op) ls b) b) (unless (is_number_or_pair (compares_wide op) ks a) a) (unless (is_number_or_pair (compares_wide op) ks b) b) (sized_on (compares_wide op) a) (sized_on (compares_wide op) b) e
  several_on n (insn.If t a b target) e =
      let p : is_tested t (kind_at ls a) ≡ true = unless_true (is_tested t (kind_at ls a)) a (lower_left (unless (is_tested t (kind_at ls a)) a) (unless (is_tested_with t (kind_at ls a) (kind_at ls b)) b) e) in
      lower_on (unless (is_tested t (kind_at ls a)) a) (unless (is_tested_with t (kind_at ls a) (kind_at ls b)) b) (unless (is_tested t (kind_at ks a)) a) (unless (is_tested_with t (kind_at ks a) (kind_at ks b)) b)
      (unless_on (is_tested t (kind_at ls a)) (is_tested t (kind_at ks a)) a (tested_below s.tables.now t (kind_at ks a) (kind_at ls a) (h a)))
      (unless_on (is_tested_with t (kind_at ls a) (kind_at ls b)) (is_tested_with t (kind_at ks a) (kind_at ks b)) b (tested_with_below s.tables.now t (kind_at ks a) (kind_at ls a) (kind_at ks b) (kind_at ls b) (h a) (h b) p)) e
  several_on n (insn.Binary op to a b) e = lower_on (unless (is_number_or_pair (binary_is_wide op) ls a) a) (unless (is_number_or_pair (second_is_wide op) ls b) b) (unless (is_number_or_pair (binary_is_wide op) ks a) a) (unless (is_number_or_pair (second_is_wide op) ks b) b) (sized_on (binary_is_wide op) a) (sized_on (second_is_wide op) b) e
  several_on n (insn.ArrayGet i to array index) e = array_on i array index e
  several_on n (insn.ArrayPut i from array index) e = lower_on (unless (is_item i ls from) from) (refused_array s ls i array index) (unless (is_item i ks from) from) (refused_array s ks i array index) (unless_on (is_item i ls from) (is_item i ks from) from (item_kind_below s.tables.now i ks ls from h)) (array_on i array index) e
  several_on n (insn.InstancePut i from on field) e = lower_on (unless (is_of_type s ls from (field_kind s.program.now field)) from) (unless (is_holder s (kind_at ls on) field) on) (unless (is_of_type s ks from (field_kind s.program.now field)) from) (unless (is_holder s (kind_at ks on) field) on) (typed_on from (field_kind s.program.now field)) (unless_on (is_holder s (kind_at ls on) field) (is_holder s (kind_at ks on) field) on (holder_below s m (kind_at ks on) (kind_at ls on) field (h on))) e
  several_on n (insn.FilledNewArray type args) e = items_on type args e
  several_on n (insn.Invoke k method args) e = call_on n k method args e
  several_on n i e = refl

pub no_fault : (s : Setting) (n : ℕ) (a : Kinds) (i : Insn) → fault_of s n a i ≡ None → (is_wrong s n a i ≡ false) × (refused s n a i ≡ None)
no_fault s n a i e = go (is_wrong s n a i) e
  where
    go : (x : Bool) → (if x then Some 0 else refused s n a i) ≡ None → (x ≡ false) × (refused s n a i ≡ None)
    go false e = (refl, e)
    go true e = absurd (cc)

no_fault_of : (s : Setting) (n : ℕ) (a : Kinds) (i : Insn) → is_wrong s n a i ≡ false → refused s n a i ≡ None → fault_of s n a i ≡ None
no_fault_of s n a i p q = rw p q

module _ (s : Setting) (m : IsMeeting s.tables.now) (a b : Kinds) (h : IsBelow s.tables.now a b) where
  initialised_on : (r : ℕ) → unless (is_initialised (kind_at b.registers r)) r ≡ None → unless (is_initialised (kind_at a.registers r)) r ≡ None
  initialised_on r e = made_on s m a.registers b.registers h.registers r e

  pub refused_on : (n : ℕ) (i : Insn) → refused s n b i ≡ None → refused s n a i ≡ None
  refused_on n (insn.Move slot to from) e = unless_on (is_movable slot b.registers from) (is_movable slot a.registers from) from (movable_below s.tables.now slot a.registers b.registers from h.registers) e
  refused_on n (insn.MoveResult slot to) e = unless_on (is_result slot b.result) (is_result slot a.result) to (result_below s.tables.now slot a.result b.result h.result) e
  refused_on n (insn.MoveException to) e = unless_on (is_initialised b.caught) (is_initialised a.caught) to (made_below s.tables.now a.caught b.caught h.caught) e
  refused_on n (insn.Return slot from) e = typed_on s m a.registers b.registers h.registers from s.result e
  refused_on n (insn.MonitorEnter on) e = initialised_on on e
  refused_on n (insn.MonitorExit on) e = initialised_on on e
  refused_on n (insn.CheckCast on type) e = initialised_on on e
  refused_on n (insn.Throw on) e = initialised_on on e
  refused_on n (insn.InstanceOf to from type) e = initialised_on from e
  refused_on n (insn.ArrayLength to from) e = unless_on (is_any_array (kind_at b.registers from)) (is_any_array (kind_at a.registers from)) from (any_array_below s.tables.now m (kind_at a.registers from) (kind_at b.registers from) (h.registers from)) e
  refused_on n (insn.NewArray to size type) e = number_on s m a.registers b.registers h.registers size e
  refused_on n (insn.FillArray on width items) e = unless_on (is_array_filled s (kind_at b.registers on) width) (is_array_filled s (kind_at a.registers on) width) on (filled_below s m (kind_at a.registers on) (kind_at b.registers on) width (h.registers on)) e
  refused_on n (insn.PackedSwitch on first targets) e = number_on s m a.registers b.registers h.registers on e
  refused_on n (insn.SparseSwitch on keys targets) e = number_on s m a.registers b.registers h.registers on e
  refused_on n (insn.IfZero t x target) e = unless_on (is_tested t (kind_at b.registers x)) (is_tested t (kind_at a.registers x)) x (tested_below s.tables.now t (kind_at a.registers x) (kind_at b.registers x) (h.registers x)) e
  refused_on n (insn.Literal op to x value) e = number_on s m a.registers b.registers h.registers x e
  refused_on n (insn.Unary op to from) e = sized_on s m a.registers b.registers h.registers (unary_reads_wide op) from e
  refused_on n (insn.InstanceGet i to on field) e = unless_on (fits_holder s.tables.now (kind_at b.registers on) (field_class s.program.now field)) (fits_holder s.tables.now (kind_at a.registers on) (field_class s.program.now field)) on (holder_fits_below s.tables.now m (kind_at a.registers on) (kind_at b.registers on) (field_class s.program.now field) (h.registers on)) e
  refused_on n (insn.StaticPut i from field) e = typed_on s m a.registers b.registers h.registers from (field_kind s.program.now field) e
  refused_on n (insn.Cmp op to x y) e = several_on s m a.registers b.registers h.registers n (insn.Cmp op to x y) e
  refused_on n (insn.If t x y target) e = several_on s m a.registers b.registers h.registers n (insn.If t x y target) e
  refused_on n (insn.Binary op to x y) e = several_on s m a.registers b.registers h.registers n (insn.Binary op to x y) e
  refused_on n (insn.ArrayGet i to array index) e = several_on s m a.registers b.registers h.registers n (insn.ArrayGet i to array index) e
  refused_on n (insn.ArrayPut i from array index) e = several_on s m a.registers b.registers h.registers n (insn.ArrayPut i from array index) e
  refused_on n (insn.InstancePut i from on field) e = several_on s m a.registers b.registers h.registers n (insn.InstancePut i from on field) e
  refused_on n (insn.FilledNewArray type args) e = several_on s m a.registers b.registers h.registers n (insn.FilledNewArray type args) e
  refused_on n (insn.Invoke k method args) e = several_on s m a.registers b.registers h.registers n (insn.Invoke k method args) e
  refused_on n i e = refl

  -- ---- positions that are wrong

  or_false : (x y : Bool) → (x || y) ≡ false → (x ≡ false) × (y ≡ false)
  or_false false y e = (refl, e)
  or_false true y e = absurd (cc)

  none_of : (x y : Bool) → x ≡ false → y ≡ false → (x || y) ≡ false
  none_of x y p q = rw (p, q) refl

  early_on : ends_early s b ≡ false → ends_early s a ≡ false
  early_on e = go s.constructs e
    where
      turned : (x y : Bool) → (x ≡ true → y ≡ true) → not x ≡ false → not y ≡ false
      turned true y f e = let p : y ≡ true = f refl in rw p refl
      turned false y f e = absurd (cc)

      go : (x : Bool) → (x && not (is_initialised b.receiver)) ≡ false → (x && not (is_initialised a.receiver)) ≡ false
      go true e = turned (is_initialised b.receiver) (is_initialised a.receiver) (made_below s.tables.now a.receiver b.receiver h.receiver) e
      go false e = refl

  ends_on : (x : Bool) → (x || ends_early s b) ≡ false → (x || ends_early s a) ≡ false
  ends_on x e = let f = or_false x (ends_early s b) e in none_of x (ends_early s a) f.0 (early_on f.1)

  pub wrong_on : (n : ℕ) (i : Insn) → is_wrong s n b i ≡ false → is_wrong s n a i ≡ false
  wrong_on n insn.ReturnVoid e = ends_on (not (is_void (shape_of s.tables.now s.result))) e
  wrong_on n (insn.Return slot from) e = ends_on (wrong_result slot (shape_of s.tables.now s.result)) e
  wrong_on n (insn.NewInstance to type) e = e
  wrong_on n (insn.NewArray to size type) e = e
  wrong_on n (insn.FilledNewArray type args) e = e
  wrong_on n (insn.InstanceGet i to on field) e = e
  wrong_on n (insn.InstancePut i from on field) e = e
  wrong_on n (insn.StaticGet i to field) e = e
  wrong_on n (insn.StaticPut i from field) e = e
  wrong_on n (insn.Invoke k method args) e = e
  wrong_on n i e = refl

  -- ---- both

  pub reads_on : (n : ℕ) (i : Insn) → fault_of s n b i ≡ None → fault_of s n a i ≡ None
  reads_on n i e = let f = no_fault s n b i e in no_fault_of s n a i (wrong_on n i f.0) (refused_on n i f.1)
