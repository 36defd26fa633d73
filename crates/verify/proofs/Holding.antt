-- What is at or below a kind that a form may read may be read too: single registers.
use Rattle.std.proofs.Common.{◌≡◌, ℕ, ◌+◌, Bool, true, false, ◌&&◌, ◌||◌, not, nat_eq, nat_lt, List, Option, Some, None, refl, sym, ap, ◌∙◌, subst, arith}
use Rattle.std.specs.Prelude.{if◌then◌else◌}
use Rattle.std.proofs.lemmas.Bool.{eq-eqb, ltb-true, ltb-false}
use Rattle.insn_set.specs.declared.ops.Slot.{Slot}
use Rattle.insn_set.specs.declared.ops.Slot.TheVariants as slot
use Rattle.insn_set.specs.declared.ops.Item.{Item}
use Rattle.insn_set.specs.declared.ops.Item.TheVariants as item
use Rattle.insn_set.specs.declared.ops.Test.{Test}
use Rattle.verify.specs.declared.kinds.Kind.{Kind}
use Rattle.verify.specs.declared.kinds.Kind.TheVariants.{Undefined, Word, Zero, WideLow, WideHigh, Fresh, FreshThis, Null, Program, Array, Reference}
use Rattle.verify.specs.declared.setting.Setting.{Setting}
use Rattle.verify.specs.declared.shapes.Shape.{Shape}
use Rattle.verify.specs.declared.shapes.Shape.TheVariants as shape
use Rattle.verify.specs.declared.tables.Tables.{Tables}
use Rattle.verify.specs.Demands.{same_item, is_number_or_pair, is_movable, is_result, is_equality, is_tested, is_like, is_tested_with, is_item, is_any_array}
use Rattle.verify.specs.Fits.{fits_shape, fits, fits_holder, stored_item}
use Rattle.verify.specs.Frames.{kind_at, is_pair}
use Rattle.verify.specs.Joins.{is_flat}
use Rattle.verify.specs.Kinds.{same_kind, is_number, is_initialised, is_moved, is_null}
use Rattle.verify.specs.Meeting.{IsMeeting}
use Rattle.verify.specs.Names.{field_class}
use Rattle.verify.specs.Reads.{is_array_of, is_array_filled, is_of_type, is_holder, is_constructed}
use Rattle.verify.specs.Shapes.{is_reference, is_wide, stored, has_width}
use Rattle.verify.specs.Types.{shape_of, item_shape}
use Rattle.verify.specs.Typings.{Below}
use Rattle.verify.proofs.Fitting.{AreItems, are_items, object_is, fits_below, holder_fits_below}
use Rattle.verify.proofs.Lattice.{left_true, right_true, same_is}
use Rattle.verify.proofs.Orders.{number_below, made_below, bare_below, Under, itself, unknown, word, empty, any, classes, items, deep, under}

-- frames of one length, each register below the other
abbrev pub Each : Tables → List Kind → List Kind → Type 0
Each t ks ls = (r : ℕ) → Below t (kind_at ks r) (kind_at ls r)

pub low_below : (t : Tables) (a b : Kind) → Below t a b → same_kind b WideLow ≡ true → same_kind a WideLow ≡ true
low_below t a b h e =
    let f : b ≡ WideLow = same_is b WideLow e in
    let g : a ≡ WideLow = bare_below t a WideLow (subst (Below t a) f h) refl refl refl in
    ap (λ x. same_kind x WideLow) g

high_below : (t : Tables) (a b : Kind) → Below t a b → same_kind b WideHigh ≡ true → same_kind a WideHigh ≡ true
high_below t a b h e =
    let f : b ≡ WideHigh = same_is b WideHigh e in
    let g : a ≡ WideHigh = bare_below t a WideHigh (subst (Below t a) f h) refl refl refl in
    ap (λ x. same_kind x WideHigh) g

pub pair_below : (t : Tables) (ks ls : List Kind) (r : ℕ) → Each t ks ls → is_pair ls r ≡ true → is_pair ks r ≡ true
pair_below t ks ls r h e =
    let f = low_below t (kind_at ks r) (kind_at ls r) (h r) (left_true (same_kind (kind_at ls r) WideLow) (same_kind (kind_at ls (r + 1)) WideHigh) e) in
    let g = high_below t (kind_at ks (r + 1)) (kind_at ls (r + 1)) (h (r + 1)) (right_true (same_kind (kind_at ls r) WideLow) (same_kind (kind_at ls (r + 1)) WideHigh) e) in
    rw (f, g) refl

pub moved_number : (a : Kind) → is_number a ≡ true → is_moved a ≡ true
moved_number Zero e = refl
moved_number Word e = refl
moved_number a e = absurd (cc)

pub moved_made : (a : Kind) → is_initialised a ≡ true → is_moved a ≡ true
moved_made Zero e = refl
moved_made Null e = refl
moved_made (Program c) e = refl
moved_made (Array n i) e = refl
moved_made Reference e = refl
moved_made a e = absurd (cc)

null_made : (a : Kind) → is_null a ≡ true → is_initialised a ≡ true
null_made Zero e = refl
null_made Null e = refl
null_made a e = absurd (cc)

pub moved_below : (t : Tables) (a b : Kind) → Below t a b → is_moved b ≡ true → is_moved a ≡ true
moved_below t a b h f = elim (under t a b h) [
  | itself e ↦ subst (λ x. is_moved x ≡ true) (sym e) f
  | unknown e ↦ absurd (let g : is_moved Undefined ≡ true = subst (λ x. is_moved x ≡ true) e f in cc)
  | word p e ↦ moved_number a p
  | empty p q ↦ moved_made a (null_made a p)
  | any p e ↦ moved_made a p
  | classes c d p e n ↦ subst (λ x. is_moved x ≡ true) (sym p) refl
  | items n i j c p q e w z ↦ subst (λ x. is_moved x ≡ true) (sym q) refl
  | deep n i p w q e ↦ subst (λ x. is_moved x ≡ true) (sym q) refl
]

pub number_or_pair_below : (t : Tables) (wide : Bool) (ks ls : List Kind) (r : ℕ) → Each t ks ls → is_number_or_pair wide ls r ≡ true → is_number_or_pair wide ks r ≡ true
number_or_pair_below t true ks ls r h e = pair_below t ks ls r h e
number_or_pair_below t false ks ls r h e = number_below t (kind_at ks r) (kind_at ls r) (h r) e

pub movable_below : (t : Tables) (s : Slot) (ks ls : List Kind) (r : ℕ) → Each t ks ls → is_movable s ls r ≡ true → is_movable s ks r ≡ true
movable_below t slot.Wide ks ls r h e = pair_below t ks ls r h e
movable_below t slot.Word ks ls r h e = moved_below t (kind_at ks r) (kind_at ls r) (h r) e
movable_below t slot.Object ks ls r h e = moved_below t (kind_at ks r) (kind_at ls r) (h r) e

pub result_below : (t : Tables) (s : Slot) (a b : Kind) → Below t a b → is_result s b ≡ true → is_result s a ≡ true
result_below t slot.Word a b h e = number_below t a b h e
result_below t slot.Wide a b h e = low_below t a b h e
result_below t slot.Object a b h e = made_below t a b h e

-- ---- tests

either_of : (x y u v : Bool) → (x ≡ true → u ≡ true) → (y ≡ true → v ≡ true) → (x || y) ≡ true → (u || v) ≡ true
either_of true y u v f g e = let p = f refl in rw p refl
either_of false y true v f g e = refl
either_of false y false v f g e = g e

pub tested_below : (t : Tables) (w : Test) (a b : Kind) → Below t a b → is_tested w b ≡ true → is_tested w a ≡ true
tested_below t w a b h e = either_of (is_number b) (is_equality w && is_initialised b) (is_number a) (is_equality w && is_initialised a) (number_below t a b h) (go (is_equality w)) e
  where
    go : (x : Bool) → (x && is_initialised b) ≡ true → (x && is_initialised a) ≡ true
    go true f = made_below t a b h f
    go false f = f

number_like : (first k : Kind) → is_number first ≡ true → is_number k ≡ true → is_like first k ≡ true
number_like Zero k p q = rw q refl
number_like Word k p q = q
number_like first k p q = absurd (cc)

or_right : (a b : Bool) → b ≡ true → (a || b) ≡ true
or_right true b e = refl
or_right false b e = e

made_like : (first k : Kind) → is_initialised first ≡ true → is_initialised k ≡ true → is_like first k ≡ true
made_like Zero k p q = or_right (is_number k) (is_initialised k) q
made_like Null k p q = q
made_like (Program c) k p q = q
made_like (Array n i) k p q = q
made_like Reference k p q = q
made_like first k p q = absurd (cc)

-- a second operand that is like the first, of a sort that a test reads
like_number : (first k : Kind) → is_like first k ≡ true → is_number first ≡ true → is_initialised first ≡ false → is_number k ≡ true
like_number Word k e p q = e
like_number first k e p q = absurd (cc)

like_made : (first k : Kind) → is_like first k ≡ true → is_initialised first ≡ true → is_number first ≡ false → is_initialised k ≡ true
like_made Null k e p q = e
like_made (Program c) k e p q = e
like_made (Array n i) k e p q = e
like_made Reference k e p q = e
like_made first k e p q = absurd (cc)

both_zero : (a : Kind) → is_number a ≡ true → is_initialised a ≡ true → a ≡ Zero
both_zero Zero p q = refl
both_zero a p q = absurd (cc)

zero_like : (t : Tables) (first k l : Kind) → first ≡ Zero → Below t k l → is_like Zero l ≡ true → is_like first k ≡ true
zero_like t first k l e h g = subst (λ x. is_like x k ≡ true) (sym e) (either_of (is_number l) (is_initialised l) (is_number k) (is_initialised k) (number_below t k l h) (made_below t k l h) g)

like_below : (t : Tables) (f g k l : Kind) → Below t f g → Below t k l → (is_number g || is_initialised g) ≡ true → is_like g l ≡ true → is_like f k ≡ true
like_below t f g k l h i s e = go (is_number g) (is_initialised g) refl refl s
  where
    go : (x y : Bool) → is_number g ≡ x → is_initialised g ≡ y → (x || y) ≡ true → is_like f k ≡ true
    go true false p q s = number_like f k (number_below t f g h p) (number_below t k l i (like_number g l e p q))
    go false true p q s = made_like f k (made_below t f g h q) (made_below t k l i (like_made g l e q p))
    go true true p q s =
        let z : f ≡ Zero = both_zero f (number_below t f g h p) (made_below t f g h q) in
        zero_like t f k l z i (subst (λ x. is_like x l ≡ true) (both_zero g p q) e)
    go false false p q s = absurd (cc)

tested_sort : (w : Test) (k : Kind) → is_tested w k ≡ true → (is_number k || is_initialised k) ≡ true
tested_sort w k e = go (is_number k) (is_equality w) (is_initialised k) e
  where
    go : (x y z : Bool) → (x || (y && z)) ≡ true → (x || z) ≡ true
    go true y z e = refl
    go false true z e = e
    go false false z e = absurd (cc)

pub tested_with_below : (t : Tables) (w : Test) (f g k l : Kind) → Below t f g → Below t k l → is_tested w g ≡ true → is_tested_with w g l ≡ true → is_tested_with w f k ≡ true
tested_with_below t w f g k l h i s e = go (is_equality w) e
  where
    go : (x : Bool) → (if x then is_like g l else is_number l) ≡ true → (if x then is_like f k else is_number k) ≡ true
    go true e = like_below t f g k l h i (tested_sort w g s) e
    go false e = number_below t k l i e

pub item_kind_below : (t : Tables) (i : Item) (ks ls : List Kind) (r : ℕ) → Each t ks ls → is_item i ls r ≡ true → is_item i ks r ≡ true
item_kind_below t item.Wide ks ls r h e = pair_below t ks ls r h e
item_kind_below t item.Object ks ls r h e = made_below t (kind_at ks r) (kind_at ls r) (h r) e
item_kind_below t item.Plain ks ls r h e = number_below t (kind_at ks r) (kind_at ls r) (h r) e
item_kind_below t item.Boolean ks ls r h e = number_below t (kind_at ks r) (kind_at ls r) (h r) e
item_kind_below t item.Byte ks ls r h e = number_below t (kind_at ks r) (kind_at ls r) (h r) e
item_kind_below t item.Char ks ls r h e = number_below t (kind_at ks r) (kind_at ls r) (h r) e
item_kind_below t item.Short ks ls r h e = number_below t (kind_at ks r) (kind_at ls r) (h r) e

-- ---- single registers that members ask of

pub of_type_below : (s : Setting) (m : IsMeeting s.tables.now) (ks ls : List Kind) (r type : ℕ) → Each s.tables.now ks ls → is_of_type s ls r type ≡ true → is_of_type s ks r type ≡ true
of_type_below s m ks ls r type h e = go (is_wide (shape_of s.tables.now type)) e
  where
    go : (x : Bool) → (if x then is_pair ls r else fits s.tables.now (kind_at ls r) type) ≡ true → (if x then is_pair ks r else fits s.tables.now (kind_at ks r) type) ≡ true
    go true e = pair_below s.tables.now ks ls r h e
    go false e = fits_below s.tables.now m (kind_at ks r) (kind_at ls r) type (h r) e

-- the receiver of a constructor is at or below itself and undefined kinds alone
is_this : Kind → Bool
is_this FreshThis = true
is_this k = false

this_is : (k : Kind) → is_this k ≡ true → k ≡ FreshThis
unfolding is_this
this_is FreshThis e = refl
this_is k e = absurd (cc)

holder_other : (s : Setting) (k : Kind) (f : ℕ) → is_this k ≡ false → is_holder s k f ≡ fits_holder s.tables.now k (field_class s.program.now f)
unfolding is_this
holder_other s FreshThis f e = absurd (cc)
holder_other s k f e = refl

-- an undefined kind fits nothing
undefined_shape : (t : Tables) (s : Shape) → fits_shape t Undefined s ≡ false
undefined_shape t (shape.Class (Some c) true) = refl
undefined_shape t (shape.Class (Some c) false) = refl
undefined_shape t (shape.Class None b) = refl
undefined_shape t (shape.Array n i) = refl
undefined_shape t (shape.Word i) = refl
undefined_shape t s = refl

holder_this : (s : Setting) (b : Kind) (f : ℕ) → Below s.tables.now FreshThis b → is_holder s b f ≡ true → is_holder s FreshThis f ≡ true
holder_this s b f h e = go (under s.tables.now FreshThis b h)
  where
    go : Under s.tables.now FreshThis b → is_holder s FreshThis f ≡ true
    go (itself q) = subst (λ x. is_holder s x f ≡ true) (sym q) e
    go (unknown q) = absurd (let g : fits s.tables.now Undefined (field_class s.program.now f) ≡ true = left_true (fits s.tables.now Undefined (field_class s.program.now f)) _ (subst (λ x. is_holder s x f ≡ true) q e) in let u = undefined_shape s.tables.now (shape_of s.tables.now (field_class s.program.now f)) in cc)
    go (word p q) = absurd (cc)
    go (empty p q) = absurd (cc)
    go (any p q) = absurd (cc)
    go (classes c d p q n) = absurd (cc)
    go (items n i j c p q w z v) = absurd (cc)
    go (deep n i p w q v) = absurd (cc)

pub holder_below : (s : Setting) (m : IsMeeting s.tables.now) (a b : Kind) (f : ℕ) → Below s.tables.now a b → is_holder s b f ≡ true → is_holder s a f ≡ true
holder_below s m a b f h e = go (is_this a) (is_this b) refl refl
  where
    go : (x y : Bool) → is_this a ≡ x → is_this b ≡ y → is_holder s a f ≡ true
    go true y p q = let z = this_is a p in subst (λ x. is_holder s x f ≡ true) (sym z) (holder_this s b f (subst (λ x. Below s.tables.now x b) z h) e)
    go false true p q = let z = this_is b q in let w : a ≡ FreshThis = bare_below s.tables.now a FreshThis (subst (Below s.tables.now a) z h) refl refl refl in subst (λ x. is_holder s x f ≡ true) (z ∙ sym w) e
    go false false p q = holder_other s a f p ∙ holder_fits_below s.tables.now m a b (field_class s.program.now f) h (sym (holder_other s b f q) ∙ e)

constructed_bare : (s : Setting) (b : Kind) (class : ℕ) → is_constructed s b class ≡ true → (is_number b ≡ false) × ((is_initialised b ≡ false) × (same_kind b Undefined ≡ false))
constructed_bare s (Fresh c n) class e = (refl, (refl, refl))
constructed_bare s FreshThis class e = (refl, (refl, refl))
constructed_bare s b class e = absurd (cc)

-- a constructor is called on what is at or below itself alone
pub constructed_same : (s : Setting) (a b : Kind) (class : ℕ) → Below s.tables.now a b → is_constructed s b class ≡ true → a ≡ b
constructed_same s a b class h e = let c = constructed_bare s b class e in bare_below s.tables.now a b h c.0 c.1.0 c.1.1

pub constructed_below : (s : Setting) (a b : Kind) (class : ℕ) → Below s.tables.now a b → is_constructed s b class ≡ true → is_constructed s a class ≡ true
constructed_below s a b class h e = subst (λ x. is_constructed s x class ≡ true) (sym (constructed_same s a b class h e)) e

-- ---- arrays

-- null, or an array whose items are stored so
abbrev pub by_stored : (Item → Bool) → Tables → Kind → Bool
by_stored q t Zero = true
by_stored q t Null = true
by_stored q t (Array n j) = q (stored_item t n j)
by_stored q t k = false

by_null : (q : Item → Bool) (t : Tables) (a : Kind) → is_null a ≡ true → by_stored q t a ≡ true
by_null q t Zero e = refl
by_null q t Null e = refl
by_null q t a e = absurd (cc)

pub stored_object : (t : Tables) (n : ℕ) (i : Option ℕ) → stored (item_shape t i) ≡ item.Object → stored_item t n i ≡ item.Object
stored_object t n i e = go (nat_lt 1 n)
  where
    go : (x : Bool) → (if x then item.Object else stored (item_shape t i)) ≡ item.Object
    go true = refl
    go false = e

reference_stored : (s : Shape) → is_reference s ≡ true → stored s ≡ item.Object
reference_stored (shape.Class p b) e = refl
reference_stored (shape.Array n i) e = refl
reference_stored s e = absurd (cc)

pub lower_stored : (t : Tables) (i j : Option ℕ) → AreItems t i j → stored (item_shape t i) ≡ item.Object
lower_stored t i j w = ap stored w.is_lower

pub upper_stored : (t : Tables) (i j : Option ℕ) → AreItems t i j → stored (item_shape t j) ≡ item.Object
upper_stored t i j w = ap stored w.is_upper

not_false : (b : Bool) → not b ≡ false → b ≡ true
not_false true e = refl
not_false false e = absurd (cc)

more_than_one : (n : ℕ) → nat_lt 0 n ≡ true → nat_lt 1 n ≡ false → nat_eq n 1 ≡ true
more_than_one n p q = let l = ltb-true 0 n p in let g = ltb-false 1 n q in eq-eqb n 1 (omega (arith, l, g))

pub deep_stored : (t : Tables) (n : ℕ) (i : Option ℕ) → nat_lt 0 n ≡ true → is_flat t n i ≡ false → stored_item t n i ≡ item.Object
deep_stored t n i p f = go (nat_lt 1 n) refl
  where
    go : (x : Bool) → nat_lt 1 n ≡ x → (if x then item.Object else stored (item_shape t i)) ≡ item.Object
    go true e = refl
    go false e =
        let o : nat_eq n 1 ≡ true = more_than_one n p e in
        let g : (nat_eq n 1 && not (is_reference (item_shape t i))) ≡ false = f in
        let k : not (is_reference (item_shape t i)) ≡ false = rw o at g in
        reference_stored (item_shape t i) (not_false (is_reference (item_shape t i)) k)

pub stored_below : (q : Item → Bool) (t : Tables) (m : IsMeeting t) (a b : Kind) → Below t a b → by_stored q t b ≡ true → by_stored q t a ≡ true
stored_below q t m a b h f = elim (under t a b h) [
  | itself e ↦ subst (λ x. by_stored q t x ≡ true) (sym e) f
  | unknown e ↦ absurd (let g : by_stored q t Undefined ≡ true = subst (λ x. by_stored q t x ≡ true) e f in cc)
  | word p e ↦ absurd (let g : by_stored q t Word ≡ true = subst (λ x. by_stored q t x ≡ true) e f in cc)
  | empty p r ↦ by_null q t a p
  | any p e ↦ absurd (let g : by_stored q t Reference ≡ true = subst (λ x. by_stored q t x ≡ true) e f in cc)
  | classes c d p e n ↦ absurd (let g : by_stored q t (Program d) ≡ true = subst (λ x. by_stored q t x ≡ true) e f in cc)
  | items n i j c p r e w z ↦ (
      let k = are_items t m i j c w z in
      let g : q (stored_item t n j) ≡ true = subst (λ x. by_stored q t x ≡ true) e f in
      subst (λ x. by_stored q t x ≡ true) (sym r) (ap q (stored_object t n i (lower_stored t i j k) ∙ sym (stored_object t n j (upper_stored t i j k))) ∙ g))
  | deep n i p w r e ↦ (
      let g : q (stored_item t 1 t.object) ≡ true = subst (λ x. by_stored q t x ≡ true) e f in
      subst (λ x. by_stored q t x ≡ true) (sym r) (ap q (deep_stored t n i p w ∙ sym (stored_object t 1 t.object (ap stored (object_is t m)))) ∙ g))
]

of_stored : (s : Setting) (k : Kind) (i : Item) → is_array_of s k i ≡ by_stored (λ x. same_item x i) s.tables.now k
of_stored s (Array n j) i = refl
of_stored s k i = refl

filled_stored : (s : Setting) (k : Kind) (w : ℕ) → is_array_filled s k w ≡ by_stored (λ x. has_width w x) s.tables.now k
filled_stored s (Array n j) w = refl
filled_stored s k w = refl

any_stored : (t : Tables) (k : Kind) → is_any_array k ≡ by_stored (λ x. true) t k
any_stored t (Array n j) = refl
any_stored t k = refl

pub array_of_stored : (s : Setting) (k : Kind) (i : Item) → is_array_of s k i ≡ true → by_stored (λ x. same_item x i) s.tables.now k ≡ true
array_of_stored s k i e = sym (of_stored s k i) ∙ e

pub array_of_below : (s : Setting) (m : IsMeeting s.tables.now) (a b : Kind) (i : Item) → Below s.tables.now a b → is_array_of s b i ≡ true → is_array_of s a i ≡ true
array_of_below s m a b i h e = of_stored s a i ∙ stored_below (λ x. same_item x i) s.tables.now m a b h (sym (of_stored s b i) ∙ e)

pub filled_below : (s : Setting) (m : IsMeeting s.tables.now) (a b : Kind) (w : ℕ) → Below s.tables.now a b → is_array_filled s b w ≡ true → is_array_filled s a w ≡ true
filled_below s m a b w h e = filled_stored s a w ∙ stored_below (λ x. has_width w x) s.tables.now m a b h (sym (filled_stored s b w) ∙ e)

pub any_array_below : (t : Tables) (m : IsMeeting t) (a b : Kind) → Below t a b → is_any_array b ≡ true → is_any_array a ≡ true
any_array_below t m a b h e = any_stored t a ∙ stored_below (λ x. true) t m a b h (sym (any_stored t b) ∙ e)
