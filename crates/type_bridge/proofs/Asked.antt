-- A read that is allowed is allowed by name.
use Rattle.std.proofs.Common.{◌≡◌, ℕ, zero, suc, ◌+◌, Bool, true, false, true≢false, nat_eq, List, [], ◌∷◌, ◌++◌, map, Option, Some, None, refl, sym, ap, ◌∙◌, subst}
use Rattle.std.specs.Prelude.{◌&&◌, ◌||◌, drop, slice_get, if◌then◌else◌}
use Rattle.std.specs.List.{list_all}
use Rattle.lemmas.proofs.Lists.{all_append}
use Rattle.class_defs.proofs.Positions.{number_of, both}
use Rattle.class_defs.proofs.WellFormed.{and_left, and_right}
use Rattle.class_defs.specs.Finding as finding
use Rattle.hierarchy.specs.Shapes.{IsResolved}
use Rattle.insn_set.specs.declared.ops.InvokeKind.{InvokeKind}
use Rattle.insn_set.specs.declared.ops.InvokeKind.TheVariants as call
use Rattle.insn_set.specs.declared.ops.Item.{Item}
use Rattle.insn_set.specs.declared.ops.Item.TheVariants as item
use Rattle.insn_set.specs.declared.ops.Slot.{Slot}
use Rattle.insn_set.specs.declared.ops.Slot.TheVariants as slot
use Rattle.insn_set.specs.declared.ops.Test.{Test}
use Rattle.insn_set.specs.declared.ops.Test.TheVariants as test
use Rattle.program_model.specs.declared.program.Class.{Class}
use Rattle.program_model.specs.declared.program.Program.{Program}
use Rattle.dalvik_defs.specs.Names as text
use Rattle.dalvik_defs.specs.Names.{Text, text_eq}
use Rattle.dalvik_defs.specs.Items.{item_of_type}
use Rattle.dalvik_defs.specs.Find as find
use Rattle.dalvik_defs.specs.Naming.{type_at, field_at, method_at, named_class, named}
use Rattle.pass_defs.specs.Kinds as name
use Rattle.pass_defs.specs.Kinds.{kind_eq}
use Rattle.pass_defs.specs.Registers as by_name
use Rattle.pass_defs.specs.Demands as asked
use Rattle.pass_defs.specs.Demands.{Demand, Moved, Number, Pair, Behind, Initialised, Either, Fits, Receiver, Holder, Constructed, AnArray, ArrayOf, Filled, wide_or, number_or_pair, of_type}
use Rattle.verify.specs.declared.calls.Search.{Search}
use Rattle.verify.specs.declared.calls.Search.TheVariants as search
use Rattle.verify.specs.declared.kinds.Kind as number
use Rattle.verify.specs.declared.kinds.Kind.TheVariants as kind
use Rattle.verify.specs.declared.setting.Setting.{Setting}
use Rattle.verify.specs.declared.tables.Tables.{Tables}
use Rattle.verify.specs.Demands as demands
use Rattle.verify.specs.Demands.{unless, lower, same_item}
use Rattle.verify.specs.Fits.{fits, fits_holder, fits_item, stored_item}
use Rattle.verify.specs.Frames.{kind_at, is_pair}
use Rattle.verify.specs.Kinds as kinds
use Rattle.verify.specs.Names.{field_class, method_class, parameters_of}
use Rattle.verify.specs.Reads as reads
use Rattle.verify.specs.Reads.{is_of_type, is_holder, is_constructed, is_receiver, is_array_of, is_array_filled, refused_from, refused_arguments, refused_received, refused_call, refused_items_from, refused_array, refused_several, refused, found_at, fits_search}
use Rattle.verify.specs.Shapes as shapes
use Rattle.verify.specs.Supers as supers
use Rattle.verify.specs.Supers.{Finds, super_search}
use Rattle.verify.specs.Types.{shape_of, is_constructor}
use Rattle.verify.proofs.Descriptions.{text_same}
use Rattle.verify.proofs.Reading.{unless_true, lower_left, lower_right}
use Rattle.type_bridge.specs.Views.{item_text, class_kind, kind_named}
use Rattle.type_bridge.proofs.Told.{Told}
use Rattle.type_bridge.proofs.Texts.{sorts}
use Rattle.type_bridge.proofs.Order.{made_named}
use Rattle.type_bridge.proofs.Fits.{either_true, number_named, fits_named, holder_named, fits_item_named, stored_named}
use Rattle.type_bridge.proofs.Frames.{at_named, pair_named}
use Rattle.type_bridge.proofs.Members.{FieldIs, field_class_is, MethodIs, method_class_is, parameters_is, constructor_is, defines_is, SameFound, found_same}

-- ---- tests

pub item_is : (a b : Item) → same_item a b ≡ true → a ≡ b
item_is item.Plain item.Plain e = refl
item_is item.Wide item.Wide e = refl
item_is item.Object item.Object e = refl
item_is item.Boolean item.Boolean e = refl
item_is item.Byte item.Byte e = refl
item_is item.Char item.Char e = refl
item_is item.Short item.Short e = refl
item_is a b e = absurd (true≢false (sym e))

item_self : (a : Item) → asked.item_eq a a ≡ true
item_self item.Plain = refl
item_self item.Wide = refl
item_self item.Object = refl
item_self item.Boolean = refl
item_self item.Byte = refl
item_self item.Char = refl
item_self item.Short = refl

pub width_same : (n : ℕ) (a : Item) → asked.has_width n a ≡ shapes.has_width n a
width_same n item.Plain = refl
width_same n item.Wide = refl
width_same n item.Object = refl
width_same n item.Boolean = refl
width_same n item.Byte = refl
width_same n item.Char = refl
width_same n item.Short = refl

pub equality_same : (t : Test) → asked.is_equality t ≡ demands.is_equality t
equality_same test.Eq = refl
equality_same test.Ne = refl
equality_same t = refl

pub one_of : (a : Bool) → a ≡ true → (a && true) ≡ true
one_of a e = ap (λ b. b && true) e

pub two_of : (a b : Bool) → a ≡ true → b ≡ true → (a && (b && true)) ≡ true
two_of a b e f = both a (b && true) e (one_of b f)

pub three_of : (a b c : Bool) → a ≡ true → b ≡ true → c ≡ true → (a && (b && (c && true))) ≡ true
three_of a b c e f g = both a (b && (c && true)) e (two_of b c f g)

-- ---- kinds

module _ (p : Program) (t : Tables) (d : Told p t) where
  moved_named : (k : number.Kind) → kinds.is_moved k ≡ true → asked.is_moved (kind_named p k) ≡ true
  moved_named (kind.Program c) e = by (slice_get p.classes c)
    where
      by : (o : Option Class) → asked.is_moved (class_kind p o) ≡ true
      by None = refl
      by (Some k) = refl
  moved_named (kind.Array zero i) e = refl
  moved_named (kind.Array (suc n) i) e = refl
  moved_named kind.Undefined e = absurd (true≢false (sym e))
  moved_named kind.WideLow e = absurd (true≢false (sym e))
  moved_named kind.WideHigh e = absurd (true≢false (sym e))
  moved_named k e = refl

  either_named : (k : number.Kind) → (kinds.is_number k || kinds.is_initialised k) ≡ true → (name.is_number (kind_named p k) || name.is_initialised (kind_named p k)) ≡ true
  either_named k e = either_true (kinds.is_number k) (kinds.is_initialised k) (name.is_number (kind_named p k)) (name.is_initialised (kind_named p k)) (number_named p t d k) (made_named p t d k) e

  array_named : (of : Text → Bool) (k : number.Kind) → demands.is_any_array k ≡ true → ((n : ℕ) (i : Option ℕ) → k ≡ kind.Array (suc n) i → of (text.item_of (name.arrays_of (suc n) (item_text p i))) ≡ true) → asked.is_array_where of (kind_named p k) ≡ true
  array_named of kind.Zero e f = refl
  array_named of kind.Null e f = refl
  array_named of (kind.Array zero i) e f = refl
  array_named of (kind.Array (suc n) i) e f = f n i refl
  array_named of k e f = absurd (true≢false (sym e))

-- ---- demands

module _ (s : Setting) (d : Told s.program.now s.tables.now) (h : IsResolved s.program.now s.hierarchy.now) (c : Class) (own : slice_get s.program.now.classes s.class ≡ Some c) (ks : List number.Kind) where
  abbrev Meets : ℕ → Demand → Type 0
  Meets r x = asked.meets (named s.program.now) (named_class s.program.now c) (map (kind_named s.program.now) ks) r x ≡ true

  -- what the kind at a register is by name
  at : (test : name.Kind → Bool) (r : ℕ) → test (kind_named s.program.now (kind_at ks r)) ≡ true → test (by_name.kind_at (map (kind_named s.program.now) ks) r) ≡ true
  at test r e = ap test (at_named s.program.now ks r) ∙ e

  pub meets_number : (r : ℕ) → kinds.is_number (kind_at ks r) ≡ true → Meets r Number
  meets_number r e = at name.is_number r (number_named s.program.now s.tables.now d (kind_at ks r) e)

  pub meets_made : (r : ℕ) → kinds.is_initialised (kind_at ks r) ≡ true → Meets r Initialised
  meets_made r e = at name.is_initialised r (made_named s.program.now s.tables.now d (kind_at ks r) e)

  pub meets_either : (r : ℕ) → (kinds.is_number (kind_at ks r) || kinds.is_initialised (kind_at ks r)) ≡ true → Meets r Either
  meets_either r e = at (λ k. name.is_number k || name.is_initialised k) r (either_named s.program.now s.tables.now d (kind_at ks r) e)

  pub meets_pair : (r : ℕ) → is_pair ks r ≡ true → Meets r Pair
  meets_pair r e = pair_named s.program.now ks r ∙ e

  pub meets_fits : (r type : ℕ) (u : Text) → type_at s.program.now type ≡ u → fits s.tables.now (kind_at ks r) type ≡ true → Meets r (Fits u)
  meets_fits r type u f e = at (λ k. name.fits (named s.program.now) k u) r (subst (λ u. name.fits (named s.program.now) (kind_named s.program.now (kind_at ks r)) u ≡ true) f (fits_named s.program.now s.tables.now d (kind_at ks r) type e))

  pub meets_receiver : (r f : ℕ) → FieldIs s.program.now s.tables.now d f → fits_holder s.tables.now (kind_at ks r) (field_class s.program.now f) ≡ true → Meets r (Receiver (field_at s.program.now f).class)
  meets_receiver r f x e = at (λ k. name.fits_holder (named s.program.now) k (field_at s.program.now f).class) r
      (subst (λ u. name.fits_holder (named s.program.now) (kind_named s.program.now (kind_at ks r)) u ≡ true) (field_class_is s.program.now s.tables.now d f x) (holder_named s.program.now s.tables.now d (kind_at ks r) (field_class s.program.now f) e))

  pub meets_wide : (b : Bool) (r : ℕ) → demands.is_number_or_pair b ks r ≡ true → Meets r (number_or_pair b)
  meets_wide true r e = meets_pair r e
  meets_wide false r e = meets_number r e

  pub meets_type : (r type : ℕ) (u : Text) → type_at s.program.now type ≡ u → is_of_type s ks r type ≡ true → Meets r (of_type u)
  meets_type r type u f e = subst (λ b. Meets r (wide_or b (Fits u))) (sym (sym (ap text.is_wide f) ∙ (sorts s.program.now s.tables.now d type).wide)) (by (shapes.is_wide (shape_of s.tables.now type)) e)
    where
      by : (b : Bool) → (if b then is_pair ks r else fits s.tables.now (kind_at ks r) type) ≡ true → Meets r (wide_or b (Fits u))
      by true e = meets_pair r e
      by false e = meets_fits r type u f e

  pub meets_slot : (x : Slot) (r : ℕ) → demands.is_movable x ks r ≡ true → Meets r (asked.slot_demand x)
  meets_slot slot.Wide r e = meets_pair r e
  meets_slot slot.Word r e = at asked.is_moved r (moved_named s.program.now s.tables.now d (kind_at ks r) e)
  meets_slot slot.Object r e = at asked.is_moved r (moved_named s.program.now s.tables.now d (kind_at ks r) e)

  pub meets_item : (x : Item) (r : ℕ) → demands.is_item x ks r ≡ true → Meets r (asked.put_item x)
  meets_item item.Wide r e = meets_pair r e
  meets_item item.Object r e = meets_made r e
  meets_item item.Plain r e = meets_number r e
  meets_item item.Boolean r e = meets_number r e
  meets_item item.Byte r e = meets_number r e
  meets_item item.Char r e = meets_number r e
  meets_item item.Short r e = meets_number r e

  -- ---- tests of two operands

  test_one : (b : Bool) (r : ℕ) → (kinds.is_number (kind_at ks r) || (b && kinds.is_initialised (kind_at ks r))) ≡ true → Meets r (asked.tested b)
  test_one true r e = meets_either r e
  test_one false r e = meets_number r (only (kinds.is_number (kind_at ks r)) e)
    where
      only : (b : Bool) → (b || false) ≡ true → b ≡ true
      only true e = refl
      only false e = e

  pub meets_tested : (x : Test) (r : ℕ) → demands.is_tested x (kind_at ks r) ≡ true → Meets r (asked.tested (asked.is_equality x))
  meets_tested x r e = subst (λ b. Meets r (asked.tested b)) (sym (equality_same x)) (test_one (demands.is_equality x) r e)

  like_one : (first : number.Kind) (r : ℕ) → demands.is_like first (kind_at ks r) ≡ true → Meets r (asked.like (kind_named s.program.now first))
  like_one kind.Zero r e = meets_either r e
  like_one kind.Word r e = meets_number r e
  like_one (kind.Program k) r e = by (slice_get s.program.now.classes k)
    where
      by : (o : Option Class) → Meets r (asked.like (class_kind s.program.now o))
      by None = meets_made r e
      by (Some k) = meets_made r e
  like_one (kind.Array zero i) r e = meets_made r e
  like_one (kind.Array (suc n) i) r e = meets_made r e
  like_one first r e = meets_made r e

  test_two : (b : Bool) (q r : ℕ) → (if b then demands.is_like (kind_at ks q) (kind_at ks r) else kinds.is_number (kind_at ks r)) ≡ true → Meets r (asked.second_tested b (kind_named s.program.now (kind_at ks q)))
  test_two true q r e = like_one (kind_at ks q) r e
  test_two false q r e = meets_number r e

  pub meets_tested_with : (x : Test) (q r : ℕ) → demands.is_tested_with x (kind_at ks q) (kind_at ks r) ≡ true → Meets r (asked.second_tested (asked.is_equality x) (by_name.kind_at (map (kind_named s.program.now) ks) q))
  meets_tested_with x q r e =
      subst (λ b. Meets r (asked.second_tested b (by_name.kind_at (map (kind_named s.program.now) ks) q))) (sym (equality_same x))
      (subst (λ k. Meets r (asked.second_tested (demands.is_equality x) k)) (sym (at_named s.program.now ks q)) (test_two (demands.is_equality x) q r e))

  -- ---- arrays

  any_of : (k : number.Kind) (i : Item) → is_array_of s k i ≡ true → demands.is_any_array k ≡ true
  any_of kind.Zero i e = refl
  any_of kind.Null i e = refl
  any_of (kind.Array n j) i e = refl
  any_of k i e = e

  array_of : (k : number.Kind) (i : Item) → is_array_of s k i ≡ true → asked.is_array_where (λ t. asked.item_eq (item_of_type t) i) (kind_named s.program.now k) ≡ true
  array_of k i e = array_named s.program.now s.tables.now d (λ t. asked.item_eq (item_of_type t) i) k (any_of k i e) (λ n j f.
      let same : stored_item s.tables.now (suc n) j ≡ i = item_is (stored_item s.tables.now (suc n) j) i (subst (λ k. is_array_of s k i ≡ true) f e) in
      ap (λ x. asked.item_eq x i) (stored_named s.program.now s.tables.now d n j ∙ same) ∙ item_self i)

  pub meets_array : (i : Item) (r : ℕ) → is_array_of s (kind_at ks r) i ≡ true → Meets r (ArrayOf i)
  meets_array i r e = at (asked.is_array_where (λ t. asked.item_eq (item_of_type t) i)) r (array_of (kind_at ks r) i e)

  filled_any : (k : number.Kind) (w : ℕ) → is_array_filled s k w ≡ true → demands.is_any_array k ≡ true
  filled_any kind.Zero w e = refl
  filled_any kind.Null w e = refl
  filled_any (kind.Array n j) w e = refl
  filled_any k w e = e

  pub meets_filled : (w r : ℕ) → is_array_filled s (kind_at ks r) w ≡ true → Meets r (Filled w)
  meets_filled w r e = at (asked.is_array_where (λ t. asked.has_width w (item_of_type t))) r (array_named s.program.now s.tables.now d (λ t. asked.has_width w (item_of_type t)) (kind_at ks r) (filled_any (kind_at ks r) w e) (λ n j f.
      ap (asked.has_width w) (stored_named s.program.now s.tables.now d n j)
      ∙ width_same w (stored_item s.tables.now (suc n) j)
      ∙ subst (λ k. is_array_filled s k w ≡ true) f e))

  pub meets_any_array : (r : ℕ) → demands.is_any_array (kind_at ks r) ≡ true → Meets r AnArray
  meets_any_array r e = at (asked.is_array_where (λ t. true)) r (array_named s.program.now s.tables.now d (λ t. true) (kind_at ks r) e (λ n j f. refl))

  -- ---- receivers

  other_holder : (f : ℕ) (e : FieldIs s.program.now s.tables.now d f) (k : number.Kind) → name.fits_holder (named s.program.now) (kind_named s.program.now k) (field_at s.program.now f).class ≡ true → (k ≡ kind.FreshThis → ⊥) → asked.holds_field (named s.program.now) (named_class s.program.now c) (field_at s.program.now f) (kind_named s.program.now k) ≡ true
  other_holder f e kind.FreshThis g n = absurd (n refl)
  other_holder f e (kind.Program l) g n = by (slice_get s.program.now.classes l) g
    where
      by : (o : Option Class) → name.fits_holder (named s.program.now) (class_kind s.program.now o) (field_at s.program.now f).class ≡ true → asked.holds_field (named s.program.now) (named_class s.program.now c) (field_at s.program.now f) (class_kind s.program.now o) ≡ true
      by None g = g
      by (Some k) g = g
  other_holder f e (kind.Array zero i) g n = g
  other_holder f e (kind.Array (suc m) i) g n = g
  other_holder f e k g n = g

  holder_kind : (f : ℕ) (e : FieldIs s.program.now s.tables.now d f) (k : number.Kind) → is_holder s k f ≡ true → asked.holds_field (named s.program.now) (named_class s.program.now c) (field_at s.program.now f) (kind_named s.program.now k) ≡ true
  holder_kind f e kind.FreshThis g = defines_is s d h c own f e g
  holder_kind f e k g = other_holder f e k (subst (λ u. name.fits_holder (named s.program.now) (kind_named s.program.now k) u ≡ true) (field_class_is s.program.now s.tables.now d f e) (holder_named s.program.now s.tables.now d k (field_class s.program.now f) g)) (λ x. absurd (cc))

  pub meets_holder : (f r : ℕ) → FieldIs s.program.now s.tables.now d f → is_holder s (kind_at ks r) f ≡ true → Meets r (Holder (field_at s.program.now f))
  meets_holder f r e g = at (asked.holds_field (named s.program.now) (named_class s.program.now c) (field_at s.program.now f)) r (holder_kind f e (kind_at ks r) g)

  module _ (kind_is : s.kind ≡ c.name) (super_is : s.superclass ≡ c.superclass) where
    constructed_kind : (k : number.Kind) (class : ℕ) → is_constructed s k class ≡ true → asked.is_constructed (named_class s.program.now c) (type_at s.program.now class) (kind_named s.program.now k) ≡ true
    constructed_kind (kind.Fresh made n) class e = ap (λ x. text_eq (type_at s.program.now x) (type_at s.program.now class)) (number_of made class e) ∙ text_same (type_at s.program.now class)
    constructed_kind kind.FreshThis class e = either_true (nat_eq class s.kind) (nat_eq class s.superclass) (text_eq (type_at s.program.now c.name) (type_at s.program.now class)) (text_eq (type_at s.program.now c.superclass) (type_at s.program.now class))
        (λ x. ap (λ y. text_eq (type_at s.program.now y) (type_at s.program.now class)) (sym kind_is ∙ sym (number_of class s.kind x)) ∙ text_same (type_at s.program.now class))
        (λ x. ap (λ y. text_eq (type_at s.program.now y) (type_at s.program.now class)) (sym super_is ∙ sym (number_of class s.superclass x)) ∙ text_same (type_at s.program.now class))
        e
    constructed_kind k class e = absurd (true≢false (sym e))

    meets_constructed : (r class : ℕ) (u : Text) → type_at s.program.now class ≡ u → is_constructed s (kind_at ks r) class ≡ true → Meets r (Constructed u)
    meets_constructed r class u f e = at (asked.is_constructed (named_class s.program.now c) u) r (subst (λ u. asked.is_constructed (named_class s.program.now c) u (kind_named s.program.now (kind_at ks r)) ≡ true) f (constructed_kind (kind_at ks r) class e))

    -- ---- calls

    abbrev All : List (ℕ × Demand) → Type 0
    All ds = list_all (λ d. asked.meets (named s.program.now) (named_class s.program.now c) (map (kind_named s.program.now) ks) d.0 d.1) ds ≡ true

    so_far_none : (so : Option ℕ) (ts rs : List ℕ) → refused_from s ks so ts rs ≡ None → so ≡ None
    so_far_none so [] rs e = e
    so_far_none so (t ∷ ts) rs e = lower_left so (reads.refused_argument s ks t rs) (so_far_none (lower so (reads.refused_argument s ks t rs)) ts (reads.behind s t rs) e)

    passed_all : (so : Option ℕ) (ts rs : List ℕ) → refused_from s ks so ts rs ≡ None → All (asked.passed (map (type_at s.program.now) ts) rs)
    passed_all so [] rs e = refl
    passed_all so (t ∷ ts) [] e = refl
    passed_all so (t ∷ ts) (r ∷ rs) e =
        subst (λ b. All (elim b as (λ b. List (ℕ × Demand)) [ true ↦ asked.passed_wide r rs ++ asked.passed (map (type_at s.program.now) ts) (drop 1 rs) | false ↦ (r, Fits (type_at s.program.now t)) ∷ asked.passed (map (type_at s.program.now) ts) rs ]))
        (sym (sorts s.program.now s.tables.now d t).wide)
        (by (shapes.is_wide (shape_of s.tables.now t)) refl (passed_all (lower so (reads.refused_argument s ks t (r ∷ rs))) ts (reads.behind s t (r ∷ rs)) e))
      where
        this : reads.refused_argument s ks t (r ∷ rs) ≡ None
        this = lower_right so (reads.refused_argument s ks t (r ∷ rs)) (so_far_none (lower so (reads.refused_argument s ks t (r ∷ rs))) ts (reads.behind s t (r ∷ rs)) e)

        pair : (rs : List ℕ) → reads.refused_wide ks (r ∷ rs) ≡ None → All (asked.passed_wide r rs)
        pair [] f = one_of _ (meets_pair r (unless_true (is_pair ks r) r f))
        pair (q ∷ qs) f = two_of _ _ (meets_pair r (unless_true (is_pair ks r) r (lower_left (unless (is_pair ks r) r) (unless (nat_eq q (r + 1)) q) f)))
            (unless_true (nat_eq q (r + 1)) q (lower_right (unless (is_pair ks r) r) (unless (nat_eq q (r + 1)) q) f))

        by : (b : Bool) → shapes.is_wide (shape_of s.tables.now t) ≡ b → All (asked.passed (map (type_at s.program.now) ts) (reads.behind s t (r ∷ rs))) → All (elim b as (λ b. List (ℕ × Demand)) [ true ↦ asked.passed_wide r rs ++ asked.passed (map (type_at s.program.now) ts) (drop 1 rs) | false ↦ (r, Fits (type_at s.program.now t)) ∷ asked.passed (map (type_at s.program.now) ts) rs ])
        by true f rest = all_append _ (asked.passed_wide r rs) (asked.passed (map (type_at s.program.now) ts) (drop 1 rs))
            (pair rs (sym (ap (λ b. if b then reads.refused_wide ks (r ∷ rs) else reads.refused_word s ks t (r ∷ rs)) f) ∙ this))
            (subst (λ b. All (asked.passed (map (type_at s.program.now) ts) (if b then drop 2 (r ∷ rs) else drop 1 (r ∷ rs)))) f rest)
        by false f rest = both _ _
            (meets_fits r t (type_at s.program.now t) refl (unless_true (fits s.tables.now (kind_at ks r) t) r (sym (ap (λ b. if b then reads.refused_wide ks (r ∷ rs) else reads.refused_word s ks t (r ∷ rs)) f) ∙ this)))
            (subst (λ b. All (asked.passed (map (type_at s.program.now) ts) (if b then drop 2 (r ∷ rs) else drop 1 (r ∷ rs)))) f rest)

    module _ (n : ℕ) (m : ℕ) (e : MethodIs s.program.now s.tables.now d m) where
      arguments_all : (rs : List ℕ) → refused_arguments s ks (parameters_of s.program.now m) rs ≡ None → All (asked.passed (method_at s.program.now m).signature.parameters rs)
      arguments_all rs f = subst (λ ts. All (asked.passed ts rs)) (parameters_is s.program.now s.tables.now d m e) (passed_all None (parameters_of s.program.now m) rs f)

      plain_receiver : (r : ℕ) → (if is_constructor s.tables.now m then is_constructed s (kind_at ks r) (method_class s.program.now m) else fits s.tables.now (kind_at ks r) (method_class s.program.now m)) ≡ true
          → Meets r (if asked.is_constructor_name (method_at s.program.now m).name then Constructed (method_at s.program.now m).class else Fits (method_at s.program.now m).class)
      plain_receiver r f = subst (λ b. Meets r (if b then Constructed (method_at s.program.now m).class else Fits (method_at s.program.now m).class)) (constructor_is s.program.now s.tables.now d m e) (by (is_constructor s.tables.now m) f)
        where
          by : (b : Bool) → (if b then is_constructed s (kind_at ks r) (method_class s.program.now m) else fits s.tables.now (kind_at ks r) (method_class s.program.now m)) ≡ true
              → Meets r (if b then Constructed (method_at s.program.now m).class else Fits (method_at s.program.now m).class)
          by true f = meets_constructed r (method_class s.program.now m) (method_at s.program.now m).class (method_class_is s.program.now s.tables.now d m e) f
          by false f = meets_fits r (method_class s.program.now m) (method_at s.program.now m).class (method_class_is s.program.now s.tables.now d m e) f

      found_all : (r : ℕ) (x : Search) (y : find.Search) → SameFound s d h x y → fits_search s (kind_at ks r) x ≡ true → All (map (λ d. (r, d)) (map Fits (asked.found_class y)))
      found_all r search.Nothing y same f = subst (λ us. All (map (λ d. (r, d)) (map Fits us))) (sym same.classes) refl
      found_all r (search.Finds class static) y same f = subst (λ us. All (map (λ d. (r, d)) (map Fits us))) (sym same.classes) (one_of _ (meets_fits r class (type_at s.program.now class) refl f))

      received : (k : InvokeKind) (r : ℕ) (rs : List ℕ) (x : Demand) → Meets r x → refused_arguments s ks (parameters_of s.program.now m) rs ≡ None → All (map (λ d. (r, d)) (x ∷ []) ++ asked.passed (method_at s.program.now m).signature.parameters rs)
      received k r rs x f g = both _ _ f (arguments_all rs g)

      super_all : found_at s n ≡ supers.said s.program.now (finding.finds_super s.program.now s.class m) → (r : ℕ) → is_receiver s n ks call.Super m r ≡ true → All (map (λ d. (r, d)) (asked.receiver_demands (named s.program.now) (named_class s.program.now c) call.Super (method_at s.program.now m)))
      super_all found r f =
          let a = fits s.tables.now (kind_at ks r) (method_class s.program.now m) in
          let b = fits_search s (kind_at ks r) (found_at s n) in
          both _ _ (meets_fits r (method_class s.program.now m) (method_at s.program.now m).class (method_class_is s.program.now s.tables.now d m e) (and_left a b f))
          (found_all r (supers.said s.program.now (finding.finds_super s.program.now s.class m)) (find.finds_super (named s.program.now) (type_at s.program.now c.name) (method_at s.program.now m))
          (found_same s d h c own m e) (subst (λ x. fits_search s (kind_at ks r) x ≡ true) found (and_right a b f)))

      pub call_all : (k : InvokeKind) (rs : List ℕ) → found_at s n ≡ supers.called_by_kind s.program.now s.class k m → refused_call s n ks k m rs ≡ None → All (asked.call_demands (named s.program.now) (named_class s.program.now c) k (method_at s.program.now m) rs)
      call_all call.Static rs found f = arguments_all rs f
      call_all call.Super [] found f = refl
      call_all call.Virtual [] found f = refl
      call_all call.Direct [] found f = refl
      call_all call.Interface [] found f = refl
      call_all call.Super (r ∷ rs) found f = all_append _ (map (λ d. (r, d)) (asked.receiver_demands (named s.program.now) (named_class s.program.now c) call.Super (method_at s.program.now m))) (asked.passed (method_at s.program.now m).signature.parameters rs)
          (super_all found r (unless_true _ r (lower_left (unless (is_receiver s n ks call.Super m r) r) (refused_arguments s ks (parameters_of s.program.now m) rs) f)))
          (arguments_all rs (lower_right (unless (is_receiver s n ks call.Super m r) r) (refused_arguments s ks (parameters_of s.program.now m) rs) f))
      call_all call.Virtual (r ∷ rs) found f = received call.Virtual r rs (if asked.is_constructor_name (method_at s.program.now m).name then Constructed (method_at s.program.now m).class else Fits (method_at s.program.now m).class) (plain_receiver r (unless_true _ r (lower_left (unless (is_receiver s n ks call.Virtual m r) r) (refused_arguments s ks (parameters_of s.program.now m) rs) f))) (lower_right (unless (is_receiver s n ks call.Virtual m r) r) (refused_arguments s ks (parameters_of s.program.now m) rs) f)
      call_all call.Direct (r ∷ rs) found f = received call.Direct r rs (if asked.is_constructor_name (method_at s.program.now m).name then Constructed (method_at s.program.now m).class else Fits (method_at s.program.now m).class) (plain_receiver r (unless_true _ r (lower_left (unless (is_receiver s n ks call.Direct m r) r) (refused_arguments s ks (parameters_of s.program.now m) rs) f))) (lower_right (unless (is_receiver s n ks call.Direct m r) r) (refused_arguments s ks (parameters_of s.program.now m) rs) f)
      call_all call.Interface (r ∷ rs) found f = received call.Interface r rs (if asked.is_constructor_name (method_at s.program.now m).name then Constructed (method_at s.program.now m).class else Fits (method_at s.program.now m).class) (plain_receiver r (unless_true _ r (lower_left (unless (is_receiver s n ks call.Interface m r) r) (refused_arguments s ks (parameters_of s.program.now m) rs) f))) (lower_right (unless (is_receiver s n ks call.Interface m r) r) (refused_arguments s ks (parameters_of s.program.now m) rs) f)

    -- ---- filled arrays

    items_none : (so : Option ℕ) (type : ℕ) (rs : List ℕ) → refused_items_from s ks so type rs ≡ None → so ≡ None
    items_none so type [] e = e
    items_none so type (r ∷ rs) e = lower_left so (unless (fits_item s.tables.now (kind_at ks r) type) r) (items_none (lower so (unless (fits_item s.tables.now (kind_at ks r) type) r)) type rs e)

    pub items_all : (so : Option ℕ) (type : ℕ) (rs : List ℕ) → refused_items_from s ks so type rs ≡ None → All (map (λ r. (r, Fits (text.item_of (type_at s.program.now type)))) rs)
    items_all so type [] e = refl
    items_all so type (r ∷ rs) e =
        let one = unless (fits_item s.tables.now (kind_at ks r) type) r in
        both _ _ (at (λ k. name.fits (named s.program.now) k (text.item_of (type_at s.program.now type))) r (fits_item_named s.program.now s.tables.now d (kind_at ks r) type (unless_true _ r (lower_right so one (items_none (lower so one) type rs e)))))
        (items_all (lower so one) type rs e)
