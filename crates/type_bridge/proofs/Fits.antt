-- A kind that fits a type fits it by name.
use Rattle.std.proofs.Common.{◌≡◌, ℕ, zero, suc, ◌-◌, Bool, true, false, true≢false, nat_eq, [], Option, Some, None, refl, sym, ap, ◌∙◌, subst, arith, lt-ltb}
use Rattle.std.specs.Prelude.{◌&&◌, ◌||◌, not, slice_get, nat_lt, if◌then◌else◌}
use Rattle.lemmas.proofs.Bools.{not_of_false, or_left, or_right}
use Rattle.class_defs.proofs.Positions.{number_of, both}
use Rattle.class_defs.proofs.WellFormed.{and_left, and_right}
use Rattle.program_model.specs.declared.program.Class.{Class}
use Rattle.program_model.specs.declared.program.Program.{Program}
use Rattle.dalvik_defs.specs.Names as text
use Rattle.dalvik_defs.specs.Names.{Text, text_eq, base_of}
use Rattle.dalvik_defs.specs.Items.{item_of_type}
use Rattle.dalvik_defs.specs.Naming.{type_at, named}
use Rattle.pass_defs.specs.Kinds as name
use Rattle.pass_defs.specs.Kinds.{Kind, Null, Class as ClassKind, Array, is_below, depth, arrays_of}
use Rattle.insn_set.specs.declared.ops.Item.TheVariants as item
use Rattle.verify.specs.declared.kinds.Kind as number
use Rattle.verify.specs.declared.kinds.Kind.TheVariants as kind
use Rattle.verify.specs.declared.shapes.Shape.{Shape}
use Rattle.verify.specs.declared.shapes.Shape.TheVariants as shape
use Rattle.verify.specs.declared.tables.Tables.{Tables}
use Rattle.verify.specs.Fits.{is_below_class, class_fits, reference_fits, item_fits, array_fits, fits_array, fits_shape, fits, fits_holder, stored_item, fits_item_of, fits_item}
use Rattle.verify.specs.Kinds as kinds
use Rattle.verify.specs.Kinds.{same_number}
use Rattle.verify.specs.Meeting.{is_settled}
use Rattle.verify.specs.Shapes as shapes
use Rattle.verify.specs.Types.{shape_of, item_shape, kind_of_shape}
use Rattle.verify.proofs.Descriptions.{text_same}
use Rattle.verify.proofs.Lattice.{number_is}
use Rattle.type_bridge.specs.Views.{item_text, class_kind, kind_named}
use Rattle.type_bridge.proofs.Told.{Told}
use Rattle.type_bridge.proofs.Texts.{depth_of, base_under, item_bare, ClassText, class_text, Sorts, sorts, item_sorts, item_class, interface_same}
use Rattle.type_bridge.proofs.Order.{made_named, class_over, near_texts}

-- an array of more than one dimension
pub deeper : (n : ℕ) → nat_lt 1 (suc (suc n)) ≡ true
deeper n = lt-ltb 1 (suc (suc n)) (omega arith)

pub less : (n : ℕ) → suc n ≡ suc (suc n) - 1
less n = omega arith

pub either_true : (a b c d : Bool) → (a ≡ true → c ≡ true) → (b ≡ true → d ≡ true) → (a || b) ≡ true → (c || d) ≡ true
either_true true b c d f g e = or_left c d (f refl)
either_true false b c d f g e = or_right c d (g e)

pub array_is : (s u : Text) → Array s ≡ Array u → s ≡ u
array_is s u e = ap text_in e
  where
    text_in : Kind → Text
    text_in (Array v) = v
    text_in k = []

module _ (p : Program) (t : Tables) (d : Told p t) where
  pub number_named : (k : number.Kind) → kinds.is_number k ≡ true → name.is_number (kind_named p k) ≡ true
  number_named kind.Zero e = refl
  number_named kind.Word e = refl
  number_named k e = absurd (true≢false (sym e))

  -- ---- classes

  below_class : (k : number.Kind) (c : ℕ) (u : Text) → ClassText p d.well c u → is_below_class t k c ≡ true → is_below (named p) (kind_named p k) (ClassKind u) ≡ true
  below_class kind.Zero c u r e = text_same u
  below_class kind.Null c u r e = text_same u
  below_class (kind.Program lower) c u r e = by (slice_get p.classes lower) refl
    where
      by : (o : Option Class) → slice_get p.classes lower ≡ o → is_below (named p) (class_kind p o) (ClassKind u) ≡ true
      by None f = text_same u
      by (Some k) f = class_over (named p) (type_at p k.name) u (subst (λ v. name.nearest (named p) (type_at p k.name) v ≡ Some v) r.named (near_texts p t d lower c k r.class f r.is e))
  below_class k c u r e = absurd (true≢false (sym e))

  -- ---- arrays

  settled_plain : (s : Shape) → is_settled t s ≡ true → shapes.is_reference s ≡ true → shapes.place_of s ≡ None → shapes.is_plain s ≡ false
  settled_plain (shape.Class None true) e f g = absurd (true≢false (sym e))
  settled_plain (shape.Class None false) e f g = refl
  settled_plain (shape.Class (Some c) plain) e f g = absurd (cc)
  settled_plain (shape.Array n i) e f g = refl
  settled_plain s e f g = refl

  -- a class that an item is fits another one
  class_item : (i : Option ℕ) (c : ℕ) (u : Text) → ClassText p d.well c u → class_fits t (item_shape t i) c ≡ true → is_below (named p) (name.kind_of (named p) (item_text p i)) (ClassKind u) ≡ true
  class_item i c u r e = by (item_shape t i) refl e
    where
      by : (s : Shape) → item_shape t i ≡ s → class_fits t s c ≡ true → is_below (named p) (name.kind_of (named p) (item_text p i)) (ClassKind u) ≡ true
      by (shape.Class (Some lower) true) f e =
          ap (λ k. is_below (named p) k (ClassKind u)) (sym (item_sorts p t d i).kind ∙ ap (λ s. kind_named p (kind_of_shape s)) f)
          ∙ below_class (kind.Program lower) c u r e
      by (shape.Class (Some lower) false) f e = absurd (true≢false (sym e))
      by (shape.Class None plain) f e = absurd (true≢false (sym e))
      by shape.Void f e = absurd (true≢false (sym e))
      by shape.Int f e = absurd (true≢false (sym e))
      by (shape.Word w) f e = absurd (true≢false (sym e))
      by shape.Wide f e = absurd (true≢false (sym e))
      by (shape.Array n j) f e = absurd (true≢false (sym e))

  reference_item : (i : Option ℕ) (upper : Option ℕ) → reference_fits t (item_shape t i) (item_shape t upper) ≡ true → shapes.is_reference (item_shape t upper) ≡ true
      → (not (name.is_plain (named p) (item_text p upper)) || is_below (named p) (name.kind_of (named p) (item_text p i)) (ClassKind (item_text p upper))) ≡ true
  reference_item i upper e f = by (item_shape t upper) refl e
    where
      plain : (s : Shape) → item_shape t upper ≡ s → name.is_plain (named p) (item_text p upper) ≡ shapes.is_plain s
      plain s g = (item_sorts p t d upper).plain ∙ ap shapes.is_plain g

      free : name.is_plain (named p) (item_text p upper) ≡ false → (not (name.is_plain (named p) (item_text p upper)) || is_below (named p) (name.kind_of (named p) (item_text p i)) (ClassKind (item_text p upper))) ≡ true
      free g = or_left (not (name.is_plain (named p) (item_text p upper))) (is_below (named p) (name.kind_of (named p) (item_text p i)) (ClassKind (item_text p upper))) (not_of_false (name.is_plain (named p) (item_text p upper)) g)

      lone : (s : Shape) → item_shape t upper ≡ s → shapes.place_of s ≡ None → name.is_plain (named p) (item_text p upper) ≡ false
      lone s g h = (item_sorts p t d upper).plain ∙ (item_sorts p t d upper).lone (ap shapes.place_of g ∙ h)

      by : (s : Shape) → item_shape t upper ≡ s → reference_fits t (item_shape t i) s ≡ true → (not (name.is_plain (named p) (item_text p upper)) || is_below (named p) (name.kind_of (named p) (item_text p i)) (ClassKind (item_text p upper))) ≡ true
      by (shape.Class (Some c) false) g e = free (plain (shape.Class (Some c) false) g)
      by (shape.Class (Some c) true) g e = or_right (not (name.is_plain (named p) (item_text p upper))) (is_below (named p) (name.kind_of (named p) (item_text p i)) (ClassKind (item_text p upper)))
          (class_item i c (item_text p upper) (item_class p t d upper c true g) e)
      by (shape.Class None pl) g e = free (lone (shape.Class None pl) g refl)
      by shape.Void g e = free (plain shape.Void g)
      by shape.Int g e = free (plain shape.Int g)
      by (shape.Word w) g e = free (plain (shape.Word w) g)
      by shape.Wide g e = free (plain shape.Wide g)
      by (shape.Array n j) g e = free (plain (shape.Array n j) g)

  items_fit : (i upper : Option ℕ) → item_fits t (item_shape t i) (item_shape t upper) ≡ true → name.item_fits (named p) (item_text p i) (item_text p upper) ≡ true
  items_fit i upper e =
      let a = shapes.is_reference (item_shape t i) in
      let b = shapes.is_reference (item_shape t upper) in
      let c = reference_fits t (item_shape t i) (item_shape t upper) in
      let two : (a && b) ≡ true = first a b c e in
      three (text.is_reference (item_text p i)) (text.is_reference (item_text p upper)) (not (name.is_plain (named p) (item_text p upper)) || is_below (named p) (name.kind_of (named p) (item_text p i)) (ClassKind (item_text p upper)))
      ((item_sorts p t d i).reference ∙ and_left a b two)
      ((item_sorts p t d upper).reference ∙ and_right a b two)
      (reference_item i upper (last a b c e) (and_right a b two))
    where
      first : (a b c : Bool) → (a && b && c) ≡ true → (a && b) ≡ true
      first true true c e = refl
      first true false c e = absurd (true≢false (sym e))
      first false b c e = absurd (true≢false (sym e))

      last : (a b c : Bool) → (a && b && c) ≡ true → c ≡ true
      last true true c e = e
      last true false c e = absurd (true≢false (sym e))
      last false b c e = absurd (true≢false (sym e))

      three : (a b c : Bool) → a ≡ true → b ≡ true → c ≡ true → (a && b && c) ≡ true
      three true true true e f g = refl
      three false b c e f g = absurd (true≢false (sym e))
      three true false c e f g = absurd (true≢false (sym f))
      three true true false e f g = absurd (true≢false (sym g))

  -- arrays of so many brackets
  arrays_fit : (m : ℕ) (i : Option ℕ) (n : ℕ) (j : ℕ) → array_fits t m i n j ≡ true → name.array_fits (named p) (arrays_of m (item_text p i)) (arrays_of n (item_text p (Some j))) ≡ true
  arrays_fit m i n j e = by (nat_eq m n) refl e
    where
      s : Text
      s = arrays_of m (item_text p i)

      u : Text
      u = arrays_of n (item_text p (Some j))

      ds : depth s ≡ m
      ds = depth_of m (item_text p i) (item_bare p i)

      du : depth u ≡ n
      du = depth_of n (item_text p (Some j)) (item_bare p (Some j))

      bs : base_of s ≡ item_text p i
      bs = base_under m (item_text p i) (item_bare p i)

      bu : base_of u ≡ item_text p (Some j)
      bu = base_under n (item_text p (Some j)) (item_bare p (Some j))

      goal : Bool → Bool
      goal b = if b then (text_eq s u || name.item_fits (named p) (base_of s) (base_of u)) else nat_lt (depth u) (depth s) && text.is_reference (base_of u) && not (name.is_plain (named p) (base_of u))

      tests : nat_eq (depth s) (depth u) ≡ nat_eq m n
      tests = ap (λ x. nat_eq x (depth u)) ds ∙ ap (nat_eq m) du

      first : (a b c : Bool) → (a && b && c) ≡ true → a ≡ true
      first true b c e = refl
      first false b c e = absurd (true≢false (sym e))

      same_one : m ≡ n → same_number i (Some j) ≡ true → text_eq s u ≡ true
      same_one x h = ap (λ v. text_eq v u) (ap (λ m. arrays_of m (item_text p i)) x ∙ ap (λ i. arrays_of n (item_text p i)) (number_is i (Some j) h)) ∙ text_same u

      by : (b : Bool) → nat_eq m n ≡ b → (if b then (same_number i (Some j) || item_fits t (item_shape t i) (item_shape t (Some j))) else nat_lt n m && shapes.is_reference (item_shape t (Some j)) && not (shapes.is_plain (item_shape t (Some j)))) ≡ true
          → name.array_fits (named p) s u ≡ true
      by true h e = ap goal (tests ∙ h) ∙ either_true (same_number i (Some j)) (item_fits t (item_shape t i) (item_shape t (Some j))) (text_eq s u) (name.item_fits (named p) (base_of s) (base_of u))
          (same_one (number_of m n h))
          (λ x. ap (λ v. name.item_fits (named p) v (base_of u)) bs ∙ ap (name.item_fits (named p) (item_text p i)) bu ∙ items_fit i (Some j) x)
          e
      by false h e = ap goal (tests ∙ h)
          ∙ ap (λ x. nat_lt x (depth s) && text.is_reference (base_of u) && not (name.is_plain (named p) (base_of u))) du
          ∙ ap (λ x. nat_lt n x && text.is_reference (base_of u) && not (name.is_plain (named p) (base_of u))) ds
          ∙ ap (λ v. nat_lt n m && text.is_reference v && not (name.is_plain (named p) v)) bu
          ∙ ap (λ b. nat_lt n m && b && not (name.is_plain (named p) (item_text p (Some j)))) (item_sorts p t d (Some j)).reference
          ∙ ap (λ b. nat_lt n m && shapes.is_reference (item_shape t (Some j)) && not b) (item_sorts p t d (Some j)).plain
          ∙ e

  array_fits_named : (k : number.Kind) (n j : ℕ) → fits_array t k n j ≡ true → name.fits_array (named p) (kind_named p k) (arrays_of n (item_text p (Some j))) ≡ true
  array_fits_named kind.Zero n j e = refl
  array_fits_named kind.Null n j e = refl
  array_fits_named (kind.Array zero i) n j e = refl
  array_fits_named (kind.Array (suc m) i) n j e = arrays_fit (suc m) i n j e
  array_fits_named k n j e = absurd (true≢false (sym e))

  -- ---- types

  pub array_kind_of : (u : Text) → text.is_word u ≡ false → text.is_wide u ≡ false → text.is_reference u ≡ true → text.is_array u ≡ true → name.kind_of (named p) u ≡ Array u
  array_kind_of u a b c e = rw a (rw b (rw c (rw e refl)))

  pub no_array : (u : Text) (j : ℕ) → Sorts p u (shape.Array 0 j) → ⊥
  no_array u j s = let z : Null ≡ Array u = s.kind ∙ array_kind_of u s.word s.wide s.reference s.array in cc

  -- the text of an array type
  pub array_text : (u : Text) (n j : ℕ) → Sorts p u (shape.Array n j) → u ≡ arrays_of n (item_text p (Some j))
  array_text u zero j s = absurd (let z : Null ≡ Array u = s.kind ∙ array_kind_of u s.word s.wide s.reference s.array in cc)
  array_text u (suc n) j s = sym (array_is (arrays_of (suc n) (item_text p (Some j))) u (s.kind ∙ array_kind_of u s.word s.wide s.reference s.array))

  named_fits : (k : Kind) (u : Text) (a b c : Bool) → text.is_word u ≡ a → text.is_array u ≡ b → name.is_plain (named p) u ≡ c
      → (if a then name.is_number k else if b then name.fits_array (named p) k u else if c then is_below (named p) k (ClassKind u) else name.is_initialised k) ≡ true → name.fits (named p) k u ≡ true
  named_fits k u a b c x y z e = ap (λ a. if a then name.is_number k else if text.is_array u then name.fits_array (named p) k u else if name.is_plain (named p) u then is_below (named p) k (ClassKind u) else name.is_initialised k) x
      ∙ ap (λ b. if a then name.is_number k else if b then name.fits_array (named p) k u else if name.is_plain (named p) u then is_below (named p) k (ClassKind u) else name.is_initialised k) y
      ∙ ap (λ c. if a then name.is_number k else if b then name.fits_array (named p) k u else if c then is_below (named p) k (ClassKind u) else name.is_initialised k) z
      ∙ e

  fits_text : (k : number.Kind) (u : Text) (s : Shape) → Sorts p u s → fits_shape t k s ≡ true → name.fits (named p) (kind_named p k) u ≡ true
  fits_text k u shape.Int s e = named_fits (kind_named p k) u true false false s.word s.array s.plain (number_named k e)
  fits_text k u (shape.Word i) s e = named_fits (kind_named p k) u true false false s.word s.array s.plain (number_named k e)
  fits_text k u shape.Void s e = named_fits (kind_named p k) u false false false s.word s.array s.plain (made_named p t d k e)
  fits_text k u shape.Wide s e = named_fits (kind_named p k) u false false false s.word s.array s.plain (made_named p t d k e)
  fits_text k u (shape.Array n j) s e = named_fits (kind_named p k) u false true false s.word s.array s.plain (subst (λ v. name.fits_array (named p) (kind_named p k) v ≡ true) (sym (array_text u n j s)) (array_fits_named k n j e))
  fits_text k u (shape.Class None plain) s e = named_fits (kind_named p k) u false false false s.word s.array (s.plain ∙ s.lone refl) (made_named p t d k e)
  fits_text k u (shape.Class (Some c) true) s e = named_fits (kind_named p k) u false false true s.word s.array s.plain (below_class k c u (class_text p d.well u c (s.placed c refl)) e)
  fits_text k u (shape.Class (Some c) false) s e = named_fits (kind_named p k) u false false false s.word s.array s.plain (made_named p t d k e)

  pub fits_named : (k : number.Kind) (type : ℕ) → fits t k type ≡ true → name.fits (named p) (kind_named p k) (type_at p type) ≡ true
  fits_named k type e = fits_text k (type_at p type) (shape_of t type) (sorts p t d type) e

  -- ---- items of array types

  item_array_fits : (k : number.Kind) (n j : ℕ) → fits_array t k (suc n) j ≡ true → name.fits (named p) (kind_named p k) (arrays_of (suc n) (item_text p (Some j))) ≡ true
  item_array_fits k n j e = array_fits_named k (suc n) j e

  item_of_fits : (k : number.Kind) (u : Text) (s : Shape) → Sorts p u s → fits_item_of t k s ≡ true → name.fits (named p) (kind_named p k) (text.item_of u) ≡ true
  item_of_fits k u (shape.Array zero j) s e = absurd (let z : Null ≡ Array u = s.kind ∙ array_kind_of u s.word s.wide s.reference s.array in cc)
  item_of_fits k u (shape.Array (suc zero) j) s e = subst (λ v. name.fits (named p) (kind_named p k) (text.item_of v) ≡ true) (sym (array_text u 1 j s)) (fits_text k (item_text p (Some j)) (item_shape t (Some j)) (item_sorts p t d (Some j)) e)
  item_of_fits k u (shape.Array (suc (suc n)) j) s e = subst (λ v. name.fits (named p) (kind_named p k) (text.item_of v) ≡ true) (sym (array_text u (suc (suc n)) j s)) (item_array_fits k n j
      (ap (λ m. fits_array t k m j) (less n) ∙ sym (ap (λ b. if b then fits_array t k (suc (suc n) - 1) j else fits_shape t k (item_shape t (Some j))) (deeper n)) ∙ e))
  item_of_fits k u shape.Void s e = absurd (true≢false (sym e))
  item_of_fits k u shape.Int s e = absurd (true≢false (sym e))
  item_of_fits k u (shape.Word w) s e = absurd (true≢false (sym e))
  item_of_fits k u shape.Wide s e = absurd (true≢false (sym e))
  item_of_fits k u (shape.Class o pl) s e = absurd (true≢false (sym e))

  pub fits_item_named : (k : number.Kind) (type : ℕ) → fits_item t k type ≡ true → name.fits (named p) (kind_named p k) (text.item_of (type_at p type)) ≡ true
  fits_item_named k type e = item_of_fits k (type_at p type) (shape_of t type) (sorts p t d type) e

  -- ---- how items are stored

  -- the item type of an array by its kind
  pub stored_named : (n : ℕ) (i : Option ℕ) → item_of_type (text.item_of (arrays_of (suc n) (item_text p i))) ≡ stored_item t (suc n) i
  stored_named zero i = (item_sorts p t d i).stored
  stored_named (suc n) i = sym (ap (λ b. if b then item.Object else shapes.stored (item_shape t i)) (deeper n))

  -- ---- the receiver of a field's get or put

  null_named : (k : number.Kind) → kinds.is_null k ≡ true → name.is_null (kind_named p k) ≡ true
  null_named kind.Zero e = refl
  null_named kind.Null e = refl
  null_named k e = absurd (true≢false (sym e))

  pub holder_named : (k : number.Kind) (type : ℕ) → fits_holder t k type ≡ true → name.fits_holder (named p) (kind_named p k) (type_at p type) ≡ true
  holder_named k type e =
      let rest = not (shapes.is_program_interface (shape_of t type)) || kinds.is_null k in
      both (name.fits (named p) (kind_named p k) (type_at p type)) (not (name.is_program_interface (named p) (type_at p type)) || name.is_null (kind_named p k))
      (fits_named k type (and_left (fits t k type) rest e))
      (ap (λ b. not b || name.is_null (kind_named p k)) (interface_same p t d (type_at p type) (shape_of t type) (sorts p t d type)) ∙ by (shapes.is_program_interface (shape_of t type)) (and_right (fits t k type) rest e))
    where
      by : (b : Bool) → (not b || kinds.is_null k) ≡ true → (not b || name.is_null (kind_named p k)) ≡ true
      by true e = null_named k e
      by false e = refl
