-- A kind that fits a type by name fits it by number, and the kinds of types have numbers.
use Rattle.std.proofs.Common.{◌≡◌, ℕ, zero, suc, ◌-◌, Bool, true, false, true≢false, nat_eq, nat_lt, [], ◌∷◌, Option, Some, None, refl, sym, ap, ◌∙◌, subst, arith, ne_eqb}
use Rattle.std.specs.Prelude.{◌&&◌, ◌||◌, not, cond, slice_get, is_some, if◌then◌else◌}
use Rattle.std.specs.Option.{option_map}
use Rattle.class_defs.proofs.Positions.{both}
use Rattle.class_defs.proofs.WellFormed.{and_left, and_right}
use Rattle.program_model.specs.declared.program.Class.{Class}
use Rattle.program_model.specs.declared.program.Program.{Program}
use Rattle.dalvik_defs.specs.Names as text
use Rattle.dalvik_defs.specs.Names.{Text, text_eq, base_of}
use Rattle.dalvik_defs.specs.Naming.{type_at, named}
use Rattle.dalvik_defs.proofs.Calm.{text_sound}
use Rattle.name_bridge.proofs.Found.{type_same}
use Rattle.pass_defs.specs.Kinds as name
use Rattle.pass_defs.specs.Kinds.{Kind, Zero, Null, Class as ClassKind, Array, Fresh, is_below, depth, arrays_of}
use Rattle.verify.specs.declared.kinds.Kind as number
use Rattle.verify.specs.declared.kinds.Kind.TheVariants as kind
use Rattle.verify.specs.declared.shapes.Shape.{Shape}
use Rattle.verify.specs.declared.shapes.Shape.TheVariants as shape
use Rattle.verify.specs.declared.tables.Tables.{Tables}
use Rattle.verify.specs.Descriptors.{same_text, brackets, without_brackets, short, is_item_of, item_named, item_number, number_or, base_shape, shape_named}
use Rattle.verify.specs.Fits.{is_below_class, class_fits, reference_fits, item_fits, array_fits, fits_array, fits_shape, fits, fits_holder, fits_item_of, fits_item}
use Rattle.verify.specs.Kinds as kinds
use Rattle.verify.specs.Kinds.{same_number, is_null}
use Rattle.verify.specs.Meeting.{is_settled}
use Rattle.verify.specs.Shapes as shapes
use Rattle.verify.specs.Types.{shape_of, item_shape, kind_of, kind_of_shape, reference_kind, cast_kind}
use Rattle.verify.specs.Typings.{Below}
use Rattle.verify.proofs.Descriptions as texts
use Rattle.verify.proofs.Fitting.{item_settled}
use Rattle.verify.proofs.Lattice.{right_true}
use Rattle.verify.proofs.Orders.{Under, itself, unknown, word, empty, any, classes, items, deep, under}
use Rattle.type_bridge.specs.Views.{item_text, class_kind, kind_named}
use Rattle.type_bridge.specs.Numbered.{is_numbered}
use Rattle.type_bridge.proofs.Back.{or_null, type_or, numbered, Sense, known, no_class, no_array, no_type, sense, some_dimension}
use Rattle.type_bridge.proofs.Fits.{either_true, deeper, less, no_array as no_array_type, array_text}
use Rattle.type_bridge.proofs.Joined.{number_same, made_same}
use Rattle.type_bridge.proofs.Numbers.{type_named, kind_number, number_back, one_kind}
use Rattle.type_bridge.proofs.Numbering.{same_number_itself, below_numbered}
use Rattle.type_bridge.proofs.Order.{chain_of_nearest}
use Rattle.type_bridge.proofs.Told.{Told}
use Rattle.type_bridge.proofs.Texts.{First, first_of, few_types, ClassText, class_text, Sorts, sorts, item_sorts, item_class, kind_is, text_of_type, depth_of, base_under, item_bare, item_base, depth_short, has_entry, base_is, no_plain, interface_same}

module _ (p : Program) (t : Tables) (d : Told p t) where
  -- ---- kinds of types have numbers

  base_numbered : (u : Text) (s : Shape) → Sorts p u s → shapes.is_array s ≡ false → is_numbered p (kind_of_shape s) ≡ true
  base_numbered u (shape.Class (Some c) true) s e = ap is_some (class_text p d.well u c (s.placed c refl)).is
  base_numbered u (shape.Class (Some c) false) s e = refl
  base_numbered u (shape.Class None b) s e = refl
  base_numbered u (shape.Array n j) s e = absurd (true≢false e)
  base_numbered u s h e = refl

  settled_base : (s : Shape) → is_settled t s ≡ true → shapes.is_array s ≡ false
  settled_base (shape.Array n j) e = absurd (true≢false (sym e))
  settled_base s e = refl

  pub item_numbered : (i : Option ℕ) → is_numbered p (kind_of_shape (item_shape t i)) ≡ true
  item_numbered i = base_numbered (item_text p i) (item_shape t i) (item_sorts p t d i) (settled_base (item_shape t i) (item_settled t d.meets i))

  bracketed : (u : Text) → text.is_array u ≡ true → (m : ℕ) × (brackets u ≡ suc m)
  bracketed [] e = absurd (true≢false (sym e))
  bracketed (v ∷ us) e = (brackets us, ap (λ b. cond b (suc (brackets us)) 0) e)

  array_shape : (u : Text) → text.is_array u ≡ true → shape_named p u ≡ shape.Array (short (brackets u)) (item_number p (without_brackets u))
  array_shape u e =
      let r = bracketed u e in
      let n = r.1 in
      ap (λ b. cond b (base_shape p (without_brackets u)) (shape.Array (short (brackets u)) (item_number p (without_brackets u)))) (ne_eqb (brackets u) 0 (omega (arith, n)))

  -- the first type of the same text without its brackets
  item_there : (k s : ℕ) → slice_get p.types k ≡ Some s → item_named p (without_brackets (type_at p k)) ≡ Some (item_number p (without_brackets (type_at p k)))
  item_there k s e =
      let w : Text = without_brackets (type_at p k) in
      let f : First (is_item_of p w) p.types k = first_of (is_item_of p w) p.types k s (few_types p d.well) e (ap (λ u. same_text (without_brackets u) w) (sym (text_of_type p k s e)) ∙ texts.text_same w) in
      f.is ∙ ap (λ o. Some (number_or o)) (sym f.is)

  array_numbered : (k : ℕ) → text.is_array (type_at p k) ≡ true → is_numbered p (kind_of_shape (shape_named p (type_at p k))) ≡ true
  array_numbered k e = by (type_at p k) refl e
    where
      j : ℕ
      j = item_number p (without_brackets (type_at p k))

      few : nat_lt 0 (short (brackets (type_at p k))) ≡ true
      few = let r = bracketed (type_at p k) e in ap (nat_lt 0) (depth_short p d.well k ∙ r.1) ∙ some_dimension r.0

      first : (s : ℕ) → slice_get p.types k ≡ Some s → same_number (item_named p (item_text p (Some j))) (Some j) ≡ true
      first s f = ap (λ u. same_number (item_named p u) (Some j)) (item_base p d.well k s f ∙ base_is (type_at p k)) ∙ ap (λ o. same_number o (Some j)) (item_there k s f) ∙ same_number_itself (Some j)

      by : (u : Text) → type_at p k ≡ u → text.is_array u ≡ true → is_numbered p (kind_of_shape (shape_named p (type_at p k))) ≡ true
      by [] f g = absurd (true≢false (sym g))
      by (v ∷ us) f g =
          let s = has_entry p k v us f in
          ap (λ x. is_numbered p (kind_of_shape x)) (array_shape (type_at p k) e) ∙ both (nat_lt 0 (short (brackets (type_at p k)))) (same_number (item_named p (item_text p (Some j))) (Some j)) few (first s.0 s.1)

  pub type_numbered : (k : ℕ) → is_numbered p (kind_of t k) ≡ true
  type_numbered k = by (text.is_array (type_at p k)) refl
    where
      by : (b : Bool) → text.is_array (type_at p k) ≡ b → is_numbered p (kind_of t k) ≡ true
      by true e = ap (λ x. is_numbered p (kind_of_shape x)) (d.says.shape k ∙ ap (shape_named p) (sym (type_same p k))) ∙ array_numbered k e
      by false e = base_numbered (type_at p k) (shape_of t k) (sorts p t d k) (sym (sorts p t d k).array ∙ e)

  pub cast_numbered : (k : ℕ) → is_numbered p (cast_kind t k) ≡ true
  cast_numbered k = by (shape_of t k) (type_numbered k)
    where
      by : (s : Shape) → is_numbered p (kind_of_shape s) ≡ true → is_numbered p (reference_kind s) ≡ true
      by (shape.Class o b) e = e
      by (shape.Array n j) e = e
      by s e = refl

  -- ---- a kind that has a number is that of its name

  of_number : (k : Kind) (x : number.Kind) → kind_number p k ≡ Some x → numbered p k ≡ x
  of_number (Fresh u n) x e = by (type_named p u) e
    where
      by : (o : Option ℕ) → option_map (λ k. kind.Fresh k n) o ≡ Some x → kind.Fresh (type_or p u o) n ≡ x
      by None e = absurd (cc)
      by (Some k) e = let s : kind.Fresh k n ≡ x = cc in s
  of_number k x e = ap or_null e

  pub named_back : (x : number.Kind) → is_numbered p x ≡ true → numbered p (kind_named p x) ≡ x
  named_back x e = of_number (kind_named p x) x (number_back p t d x e)

  pub type_of_back : (k : ℕ) → numbered p (name.kind_of (named p) (type_at p k)) ≡ kind_of t k
  type_of_back k = ap (numbered p) (sym (kind_is p t d k)) ∙ named_back (kind_of t k) (type_numbered k)

  -- ---- classes

  chain_itself : (x : number.Kind) (c : ℕ) → is_null x ≡ true → is_below_class t x c ≡ true
  chain_itself kind.Zero c e = refl
  chain_itself kind.Null c e = refl
  chain_itself k c e = absurd (true≢false (sym e))

  below_class_of : (x : number.Kind) (c : ℕ) → Below t x (kind.Program c) → is_below_class t x c ≡ true
  below_class_of x c h = by (under t x (kind.Program c) h)
    where
      by : Under t x (kind.Program c) → is_below_class t x c ≡ true
      by (itself s) = subst (λ z. is_below_class t z c ≡ true) (sym s) (chain_of_nearest p t d c c (d.meets.itself c))
      by (unknown s) = absurd (cc)
      by (word n s) = absurd (cc)
      by (empty n m) = chain_itself x c n
      by (any m s) = absurd (cc)
      by (classes b l s u n) = let q : c ≡ l = cc in subst (λ z. is_below_class t z c ≡ true) (sym s) (subst (λ z. is_below_class t (kind.Program b) z ≡ true) (sym q) (chain_of_nearest p t d b l n))
      by (items m i j b z s u n f) = absurd (cc)
      by (deep m i z f s u) = absurd (cc)

  class_back : (x : number.Kind) (c : ℕ) (u : Text) → is_numbered p x ≡ true → ClassText p d.well c u → is_below (named p) (kind_named p x) (ClassKind u) ≡ true → is_below_class t x c ≡ true
  class_back x c u e r h = below_class_of x c (below_numbered p t d x (kind.Program c) e (ap is_some r.is)
      (subst (λ z. is_below (named p) (kind_named p x) z ≡ true) (sym (ap (class_kind p) r.is ∙ ap ClassKind r.named)) h))

  item_class_back : (i : Option ℕ) (c : ℕ) (u : Text) → ClassText p d.well c u → is_below (named p) (name.kind_of (named p) (item_text p i)) (ClassKind u) ≡ true → class_fits t (item_shape t i) c ≡ true
  item_class_back i c u r h = by (item_shape t i) (class_back (kind_of_shape (item_shape t i)) c u (item_numbered i) r (subst (λ z. is_below (named p) z (ClassKind u) ≡ true) (sym (item_sorts p t d i).kind) h))
    where
      by : (s : Shape) → is_below_class t (kind_of_shape s) c ≡ true → class_fits t s c ≡ true
      by (shape.Class (Some lower) true) e = e
      by (shape.Class (Some lower) false) e = absurd (true≢false (sym e))
      by (shape.Class None b) e = absurd (true≢false (sym e))
      by shape.Void e = absurd (true≢false (sym e))
      by shape.Int e = absurd (true≢false (sym e))
      by (shape.Word w) e = absurd (true≢false (sym e))
      by shape.Wide e = absurd (true≢false (sym e))
      by (shape.Array n j) e = absurd (true≢false (sym e))

  -- ---- arrays

  three_true : (a b c : Bool) → a ≡ true → b ≡ true → c ≡ true → (a && b && c) ≡ true
  three_true a b c e f g = both (a && b) c (both a b e f) g

  reference_back : (i upper : Option ℕ) → (not (name.is_plain (named p) (item_text p upper)) || is_below (named p) (name.kind_of (named p) (item_text p i)) (ClassKind (item_text p upper))) ≡ true
      → reference_fits t (item_shape t i) (item_shape t upper) ≡ true
  reference_back i upper h = by (item_shape t upper) refl
    where
      below : (b : Bool) → name.is_plain (named p) (item_text p upper) ≡ true → (not (name.is_plain (named p) (item_text p upper)) || b) ≡ true → b ≡ true
      below b e f = sym (ap (λ x. not x || b) e) ∙ f

      by : (s : Shape) → item_shape t upper ≡ s → reference_fits t (item_shape t i) s ≡ true
      by (shape.Class (Some c) false) f = refl
      by (shape.Class (Some c) true) f = item_class_back i c (item_text p upper) (item_class p t d upper c true f) (below _ ((item_sorts p t d upper).plain ∙ ap shapes.is_plain f) h)
      by (shape.Class None b) f = refl
      by shape.Void f = refl
      by shape.Int f = refl
      by (shape.Word w) f = refl
      by shape.Wide f = refl
      by (shape.Array n j) f = refl

  items_back : (i upper : Option ℕ) → name.item_fits (named p) (item_text p i) (item_text p upper) ≡ true → item_fits t (item_shape t i) (item_shape t upper) ≡ true
  items_back i upper h =
      let a = text.is_reference (item_text p i) in
      let b = text.is_reference (item_text p upper) in
      let c = not (name.is_plain (named p) (item_text p upper)) || is_below (named p) (name.kind_of (named p) (item_text p i)) (ClassKind (item_text p upper)) in
      let r : (a && b) ≡ true = and_left (a && b) c h in
      three_true (shapes.is_reference (item_shape t i)) (shapes.is_reference (item_shape t upper)) (reference_fits t (item_shape t i) (item_shape t upper))
      (sym (item_sorts p t d i).reference ∙ and_left a b r)
      (sym (item_sorts p t d upper).reference ∙ and_right a b r)
      (reference_back i upper (and_right (a && b) c h))

  abbrev HasNumber : ℕ → Option ℕ → Type 0
  HasNumber n i = is_numbered p (kind.Array n i) ≡ true

  arrays_back : (m : ℕ) (i : Option ℕ) (n : ℕ) (j : ℕ) → HasNumber (suc m) i → HasNumber (suc n) (Some j) → name.array_fits (named p) (arrays_of (suc m) (item_text p i)) (arrays_of (suc n) (item_text p (Some j))) ≡ true
      → array_fits t (suc m) i (suc n) j ≡ true
  arrays_back m i n j ei ej h = by (nat_eq (suc m) (suc n)) refl
    where
      s : Text
      s = arrays_of (suc m) (item_text p i)

      u : Text
      u = arrays_of (suc n) (item_text p (Some j))

      ds : depth s ≡ suc m
      ds = depth_of (suc m) (item_text p i) (item_bare p i)

      du : depth u ≡ suc n
      du = depth_of (suc n) (item_text p (Some j)) (item_bare p (Some j))

      bs : base_of s ≡ item_text p i
      bs = base_under (suc m) (item_text p i) (item_bare p i)

      bu : base_of u ≡ item_text p (Some j)
      bu = base_under (suc n) (item_text p (Some j)) (item_bare p (Some j))

      goal : Bool → Bool
      goal b = if b then (text_eq s u || name.item_fits (named p) (base_of s) (base_of u)) else nat_lt (depth u) (depth s) && text.is_reference (base_of u) && not (name.is_plain (named p) (base_of u))

      tests : nat_eq (depth s) (depth u) ≡ nat_eq (suc m) (suc n)
      tests = ap (λ x. nat_eq x (depth u)) ds ∙ ap (nat_eq (suc m)) du

      same_one : text_eq s u ≡ true → same_number i (Some j) ≡ true
      same_one e =
          let f : kind.Array (suc m) i ≡ kind.Array (suc n) (Some j) = one_kind p t d (kind.Array (suc m) i) (kind.Array (suc n) (Some j)) ei ej (ap Array (text_sound s u e)) in
          let g : i ≡ Some j = cc in
          ap (λ o. same_number o (Some j)) g ∙ same_number_itself (Some j)

      by : (b : Bool) → nat_eq (suc m) (suc n) ≡ b
          → (if b then (same_number i (Some j) || item_fits t (item_shape t i) (item_shape t (Some j))) else nat_lt (suc n) (suc m) && shapes.is_reference (item_shape t (Some j)) && not (shapes.is_plain (item_shape t (Some j)))) ≡ true
      by true e = either_true (text_eq s u) (name.item_fits (named p) (base_of s) (base_of u)) (same_number i (Some j)) (item_fits t (item_shape t i) (item_shape t (Some j)))
          same_one
          (λ f. items_back i (Some j) (sym (ap (λ v. name.item_fits (named p) v (base_of u)) bs ∙ ap (name.item_fits (named p) (item_text p i)) bu) ∙ f))
          (sym (ap goal (tests ∙ e)) ∙ h)
      by false e = sym (ap goal (tests ∙ e)
          ∙ ap (λ x. nat_lt x (depth s) && text.is_reference (base_of u) && not (name.is_plain (named p) (base_of u))) du
          ∙ ap (λ x. nat_lt (suc n) x && text.is_reference (base_of u) && not (name.is_plain (named p) (base_of u))) ds
          ∙ ap (λ v. nat_lt (suc n) (suc m) && text.is_reference v && not (name.is_plain (named p) v)) bu
          ∙ ap (λ b. nat_lt (suc n) (suc m) && b && not (name.is_plain (named p) (item_text p (Some j)))) (item_sorts p t d (Some j)).reference
          ∙ ap (λ b. nat_lt (suc n) (suc m) && shapes.is_reference (item_shape t (Some j)) && not b) (item_sorts p t d (Some j)).plain)
          ∙ h

  array_back : (x : number.Kind) (n j : ℕ) → is_numbered p x ≡ true → HasNumber (suc n) (Some j) → name.fits_array (named p) (kind_named p x) (arrays_of (suc n) (item_text p (Some j))) ≡ true → fits_array t x (suc n) j ≡ true
  array_back kind.Zero n j e f h = refl
  array_back kind.Null n j e f h = refl
  array_back (kind.Array zero i) n j e f h = absurd (true≢false (sym e))
  array_back (kind.Array (suc m) i) n j e f h = arrays_back m i n j e f h
  array_back (kind.Program c) n j e f h = by (slice_get p.classes c) e h
    where
      by : (o : Option Class) → is_some o ≡ true → name.fits_array (named p) (class_kind p o) (arrays_of (suc n) (item_text p (Some j))) ≡ true → false ≡ true
      by None e h = absurd (true≢false (sym e))
      by (Some k) e h = h
  array_back k n j e f h = absurd (true≢false (sym h))

  -- ---- types

  fits_is : (k : Kind) (u : Text) (a b c : Bool) → text.is_word u ≡ a → text.is_array u ≡ b → name.is_plain (named p) u ≡ c
      → name.fits (named p) k u ≡ (if a then name.is_number k else if b then name.fits_array (named p) k u else if c then is_below (named p) k (ClassKind u) else name.is_initialised k)
  fits_is k u a b c x y z = ap (λ a. if a then name.is_number k else if text.is_array u then name.fits_array (named p) k u else if name.is_plain (named p) u then is_below (named p) k (ClassKind u) else name.is_initialised k) x
      ∙ ap (λ b. if a then name.is_number k else if b then name.fits_array (named p) k u else if name.is_plain (named p) u then is_below (named p) k (ClassKind u) else name.is_initialised k) y
      ∙ ap (λ c. if a then name.is_number k else if b then name.fits_array (named p) k u else if c then is_below (named p) k (ClassKind u) else name.is_initialised k) z

  abbrev FitsText : number.Kind → Text → Type 0
  FitsText x u = name.fits (named p) (kind_named p x) u ≡ true

  known_fits : (x : number.Kind) (u : Text) (s : Shape) → is_numbered p x ≡ true → Sorts p u s → is_numbered p (kind_of_shape s) ≡ true → FitsText x u → fits_shape t x s ≡ true
  known_fits x u shape.Int e s f h = sym (number_same p t d x) ∙ sym (fits_is (kind_named p x) u true false false s.word s.array s.plain) ∙ h
  known_fits x u (shape.Word w) e s f h = sym (number_same p t d x) ∙ sym (fits_is (kind_named p x) u true false false s.word s.array s.plain) ∙ h
  known_fits x u shape.Void e s f h = sym (made_same p t d x e) ∙ sym (fits_is (kind_named p x) u false false false s.word s.array s.plain) ∙ h
  known_fits x u shape.Wide e s f h = sym (made_same p t d x e) ∙ sym (fits_is (kind_named p x) u false false false s.word s.array s.plain) ∙ h
  known_fits x u (shape.Array zero j) e s f h = absurd (no_array_type p t d u j s)
  known_fits x u (shape.Array (suc n) j) e s f h = array_back x n j e f
      (subst (λ v. name.fits_array (named p) (kind_named p x) v ≡ true) (array_text p t d u (suc n) j s) (sym (fits_is (kind_named p x) u false true false s.word s.array s.plain) ∙ h))
  known_fits x u (shape.Class None b) e s f h = sym (made_same p t d x e) ∙ sym (fits_is (kind_named p x) u false false false s.word s.array (s.plain ∙ s.lone refl)) ∙ h
  known_fits x u (shape.Class (Some c) true) e s f h = class_back x c u e (class_text p d.well u c (s.placed c refl)) (sym (fits_is (kind_named p x) u false false true s.word s.array s.plain) ∙ h)
  known_fits x u (shape.Class (Some c) false) e s f h = sym (made_same p t d x e) ∙ sym (fits_is (kind_named p x) u false false false s.word s.array s.plain) ∙ h

  -- null fits what an object fits
  null_fits : (s : Shape) → shapes.is_word s ≡ false → fits_shape t kind.Null s ≡ true
  null_fits shape.Int e = absurd (true≢false e)
  null_fits (shape.Word w) e = absurd (true≢false e)
  null_fits (shape.Class None b) e = refl
  null_fits (shape.Class (Some c) true) e = refl
  null_fits (shape.Class (Some c) false) e = refl
  null_fits shape.Void e = refl
  null_fits shape.Wide e = refl
  null_fits (shape.Array n j) e = refl

  no_word : (k : Kind) (u : Text) → name.is_number k ≡ false → name.fits (named p) k u ≡ true → text.is_word u ≡ false
  no_word k u e h = by (text.is_word u) refl
    where
      by : (b : Bool) → text.is_word u ≡ b → b ≡ false
      by false f = refl
      by true f = absurd (true≢false (sym h ∙ fits_is k u true (text.is_array u) (name.is_plain (named p) u) f refl refl ∙ e))

  fresh_fits : (u : Text) (n : ℕ) (v : Text) → name.fits (named p) (Fresh u n) v ≡ true → ⊥
  fresh_fits u n v h = by (text.is_word v) (text.is_array v) (name.is_plain (named p) v) (sym (fits_is (Fresh u n) v (text.is_word v) (text.is_array v) (name.is_plain (named p) v) refl refl refl) ∙ h)
    where
      by : (a b c : Bool) → (if a then false else if b then false else if c then false else false) ≡ true → ⊥
      by true b c e = true≢false (sym e)
      by false true c e = true≢false (sym e)
      by false false true e = true≢false (sym e)
      by false false false e = true≢false (sym e)

  text_fits : (k : Kind) (u : Text) (s : Shape) → Sorts p u s → is_numbered p (kind_of_shape s) ≡ true → name.fits (named p) k u ≡ true → fits_shape t (numbered p k) s ≡ true
  text_fits k u s w f h = by (sense p t d k)
    where
      lacking : numbered p k ≡ kind.Null → name.is_number k ≡ false → fits_shape t (numbered p k) s ≡ true
      lacking e g = subst (λ z. fits_shape t z s ≡ true) (sym e) (null_fits s (sym w.word ∙ no_word k u g h))

      by : Sense p k → fits_shape t (numbered p k) s ≡ true
      by (known x ex nx mx) = subst (λ z. fits_shape t z s ≡ true) (sym mx) (known_fits x u s ex w f (subst (λ z. name.fits (named p) z u ≡ true) (sym nx) h))
      by (no_class v q e) = lacking (ap (numbered p) q ∙ ap (λ o. or_null (option_map kind.Program o)) e) (ap name.is_number q)
      by (no_array v q e) = lacking (ap (numbered p) q ∙ ap or_null e) (ap name.is_number q)
      by (no_type v n q e) = absurd (fresh_fits v n u (subst (λ z. name.fits (named p) z u ≡ true) q h))

  pub fits_back : (k : Kind) (type : ℕ) → name.fits (named p) k (type_at p type) ≡ true → fits t (numbered p k) type ≡ true
  fits_back k type h = text_fits k (type_at p type) (shape_of t type) (sorts p t d type) (type_numbered type) h

  -- ---- items of array types

  item_sort : (n j : ℕ) → Sorts p (arrays_of (suc n) (item_text p (Some j))) (shape.Array (suc n) j)
  item_sort n j = record {
    word = refl;
    wide = refl;
    reference = refl;
    array = refl;
    stored = refl;
    plain = no_plain p t d (arrays_of (suc n) (item_text p (Some j))) refl;
    kind = refl;
    lone = λ x. refl;
    placed = λ c x. absurd (cc);
    unplaced = λ x y. absurd (true≢false (sym y));
    int = λ x. absurd (true≢false (sym x));
  }

  item_of_back : (k : Kind) (u : Text) (s : Shape) → Sorts p u s → is_numbered p (kind_of_shape s) ≡ true → shapes.is_array s ≡ true → name.fits (named p) k (text.item_of u) ≡ true → fits_item_of t (numbered p k) s ≡ true
  item_of_back k u (shape.Array zero j) w e f h = absurd (no_array_type p t d u j w)
  item_of_back k u (shape.Array (suc zero) j) w e f h = text_fits k (item_text p (Some j)) (item_shape t (Some j)) (item_sorts p t d (Some j)) (item_numbered (Some j))
      (subst (λ v. name.fits (named p) k (text.item_of v) ≡ true) (array_text p t d u 1 j w) h)
  item_of_back k u (shape.Array (suc (suc n)) j) w e f h =
      let g : HasNumber (suc n) (Some j) = both (nat_lt 0 (suc n)) (same_number (item_named p (item_text p (Some j))) (Some j)) (some_dimension n) (right_true (nat_lt 0 (suc (suc n))) (same_number (item_named p (item_text p (Some j))) (Some j)) e) in
      ap (λ b. if b then fits_array t (numbered p k) (suc (suc n) - 1) j else fits_shape t (numbered p k) (item_shape t (Some j))) (deeper n)
      ∙ sym (ap (λ m. fits_array t (numbered p k) m j) (less n))
      ∙ text_fits k (arrays_of (suc n) (item_text p (Some j))) (shape.Array (suc n) j) (item_sort n j) g (subst (λ v. name.fits (named p) k (text.item_of v) ≡ true) (array_text p t d u (suc (suc n)) j w) h)
  item_of_back k u s w e f h = absurd (true≢false (sym f))

  pub fits_item_back : (k : Kind) (type : ℕ) → text.is_array (type_at p type) ≡ true → name.fits (named p) k (text.item_of (type_at p type)) ≡ true → fits_item t (numbered p k) type ≡ true
  fits_item_back k type e h = item_of_back k (type_at p type) (shape_of t type) (sorts p t d type) (type_numbered type) (sym (sorts p t d type).array ∙ e) h

  -- ---- the receiver of a field's get or put

  null_back : (k : Kind) → name.is_null k ≡ true → kinds.is_null (numbered p k) ≡ true
  null_back Zero e = refl
  null_back Null e = refl
  null_back k e = absurd (true≢false (sym e))

  pub fits_holder_back : (k : Kind) (type : ℕ) → name.fits_holder (named p) k (type_at p type) ≡ true → fits_holder t (numbered p k) type ≡ true
  fits_holder_back k type e =
      let rest = not (name.is_program_interface (named p) (type_at p type)) || name.is_null k in
      both (fits t (numbered p k) type) (not (shapes.is_program_interface (shape_of t type)) || kinds.is_null (numbered p k))
      (fits_back k type (and_left (name.fits (named p) k (type_at p type)) rest e))
      (ap (λ b. not b || kinds.is_null (numbered p k)) (sym (interface_same p t d (type_at p type) (shape_of t type) (sorts p t d type))) ∙ by (name.is_program_interface (named p) (type_at p type)) (and_right (name.fits (named p) k (type_at p type)) rest e))
    where
      by : (b : Bool) → (not b || name.is_null k) ≡ true → (not b || kinds.is_null (numbered p k)) ≡ true
      by true e = null_back k e
      by false e = refl
