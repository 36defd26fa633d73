-- A read that is allowed by name is allowed.
use Rattle.std.proofs.Common.{◌≡◌, ℕ, zero, suc, ◌+◌, ◌<◌, Bool, true, false, true≢false, nat_eq, List, [], ◌∷◌, ◌++◌, map, length, Option, Some, None, refl, sym, ap, ◌∙◌, subst}
use Rattle.std.specs.Prelude.{◌&&◌, ◌||◌, drop, slice_get, if◌then◌else◌}
use Rattle.std.specs.List.{list_all}
use Rattle.lemmas.proofs.Bools.{or_left}
use Rattle.lemmas.proofs.Lists.{all_first, all_last}
use Rattle.class_defs.proofs.Positions.{number_of, number_test}
use Rattle.class_defs.proofs.WellFormed.{and_left, and_right, class_parts}
use Rattle.class_defs.specs.Finding as finding
use Rattle.hierarchy.specs.Shapes.{IsResolved}
use Rattle.insn_set.specs.declared.ops.InvokeKind.{InvokeKind}
use Rattle.insn_set.specs.declared.ops.InvokeKind.TheVariants as call
use Rattle.insn_set.specs.declared.ops.Item.{Item}
use Rattle.insn_set.specs.declared.ops.Item.TheVariants as item
use Rattle.insn_set.specs.declared.ops.Slot.{Slot}
use Rattle.insn_set.specs.declared.ops.Slot.TheVariants as slot
use Rattle.insn_set.specs.declared.ops.Test.{Test}
use Rattle.program_model.specs.declared.program.Class.{Class}
use Rattle.program_model.specs.declared.program.Program.{Program}
use Rattle.dalvik_defs.specs.Names as text
use Rattle.dalvik_defs.specs.Names.{Text, text_eq}
use Rattle.dalvik_defs.specs.Items.{item_of_type}
use Rattle.dalvik_defs.specs.Find as find
use Rattle.dalvik_defs.specs.Naming.{type_at, field_at, method_at, named_class, named}
use Rattle.name_bridge.proofs.Classes.{type_test}
use Rattle.pass_defs.specs.Kinds as name
use Rattle.pass_defs.specs.Kinds.{Kind, Undefined, Zero, Word, Low, High, Null, Class as ClassKind, Array, Reference, Fresh, FreshThis, arrays_of}
use Rattle.pass_defs.specs.Registers as by_name
use Rattle.pass_defs.specs.Demands as asked
use Rattle.pass_defs.specs.Demands.{Demand, Moved, Number, Pair, Behind, Initialised, Either, Fits, Receiver, Holder, Constructed, AnArray, ArrayOf, Filled, wide_or, number_or_pair, of_type}
use Rattle.verify.specs.declared.calls.Search.{Search}
use Rattle.verify.specs.declared.calls.Search.TheVariants as search
use Rattle.verify.specs.declared.kinds.Kind as number
use Rattle.verify.specs.declared.kinds.Kind.TheVariants as kind
use Rattle.verify.specs.declared.setting.Setting.{Setting}
use Rattle.verify.specs.Demands as demands
use Rattle.verify.specs.Demands.{unless, lower, same_item}
use Rattle.verify.specs.Fits.{fits, fits_holder, fits_item, stored_item}
use Rattle.verify.specs.Frames.{kind_at, is_pair}
use Rattle.verify.specs.Kinds as kinds
use Rattle.verify.specs.Names.{field_class, method_class, parameters_of}
use Rattle.verify.specs.Reads as reads
use Rattle.verify.specs.Reads.{is_of_type, is_holder, is_constructed, is_receiver, is_array_of, is_array_filled, refused_from, refused_arguments, refused_received, refused_call, refused_items_from, refused_items, found_at, fits_search}
use Rattle.verify.specs.Shapes as shapes
use Rattle.verify.specs.Supers as supers
use Rattle.verify.specs.Types.{shape_of, is_constructor}
use Rattle.type_bridge.specs.Views.{item_text, class_kind, kind_named}
use Rattle.type_bridge.specs.Numbered.{is_numbered}
use Rattle.type_bridge.proofs.Told.{Told}
use Rattle.type_bridge.proofs.Texts.{sorts}
use Rattle.type_bridge.proofs.Asked.{width_same, equality_same}
use Rattle.type_bridge.proofs.Back.{or_null, numbered, for_class, for_array, Sense, known, no_class, no_array, no_type, sense}
use Rattle.type_bridge.proofs.BackFits.{fits_back, fits_holder_back, fits_item_back}
use Rattle.type_bridge.proofs.BackFrames.{number_back, made_back, moved_back, at_back, pair_back, fresh_text}
use Rattle.type_bridge.proofs.Fits.{either_true, array_is, stored_named}
use Rattle.type_bridge.proofs.Members.{FieldIs, field_class_is, MethodIs, method_class_is, method_class_small, parameters_is, constructor_is, defines_back, SameFound, found_same}

-- ---- tests

pub unless_none : (c : Bool) (r : ℕ) → c ≡ true → unless c r ≡ None
unless_none true r e = refl
unless_none false r e = absurd (true≢false (sym e))

pub lower_none : (x y : Option ℕ) → x ≡ None → y ≡ None → lower x y ≡ None
lower_none x y e f = ap (λ x. lower x y) e ∙ f

items_same : (a b : Item) → same_item a b ≡ asked.item_eq a b
items_same item.Plain item.Plain = refl
items_same item.Wide item.Wide = refl
items_same item.Object item.Object = refl
items_same item.Boolean item.Boolean = refl
items_same item.Byte item.Byte = refl
items_same item.Char item.Char = refl
items_same item.Short item.Short = refl
items_same a b = refl

module _ (s : Setting) (d : Told s.program.now s.tables.now) where
  -- ---- arrays

  -- what holds of null and of each array that passes a test holds of what passes it
  where_back : (of : Text → Bool) (P : number.Kind → Type 0) → P kind.Zero → P kind.Null → ((n : ℕ) (i : Option ℕ) → of (text.item_of (arrays_of (suc n) (item_text s.program.now i))) ≡ true → P (kind.Array (suc n) i))
      → (k : Kind) → asked.is_array_where of k ≡ true → P (numbered s.program.now k)
  where_back of P a b f Zero e = a
  where_back of P a b f Null e = b
  where_back of P a b f (Array u) e = by (sense s.program.now s.tables.now d (Array u))
    where
      class_no_array : (o : Option Class) → class_kind s.program.now o ≡ Array u → ⊥
      class_no_array None q = absurd (cc)
      class_no_array (Some k) q = absurd (cc)

      array : (x : number.Kind) → is_numbered s.program.now x ≡ true → kind_named s.program.now x ≡ Array u → P x
      array (kind.Array zero i) g q = absurd (true≢false (sym g))
      array (kind.Array (suc n) i) g q = f n i (ap (λ v. of (text.item_of v)) (array_is (arrays_of (suc n) (item_text s.program.now i)) u q) ∙ e)
      array (kind.Program c) g q = absurd (class_no_array (slice_get s.program.now.classes c) q)
      array x g q = absurd (cc)

      by : Sense s.program.now (Array u) → P (numbered s.program.now (Array u))
      by (known x ex nx mx) = subst P (sym mx) (array x ex nx)
      by (no_class v q g) = absurd (cc)
      by (no_array v q g) = subst P (sym (ap (numbered s.program.now) q ∙ ap or_null g)) b
      by (no_type v n q g) = absurd (cc)
  where_back of P a b f k e = absurd (true≢false (sym e))

  array_back : (i : Item) (k : Kind) → asked.is_array_where (λ v. asked.item_eq (item_of_type v) i) k ≡ true → is_array_of s (numbered s.program.now k) i ≡ true
  array_back i k e = where_back (λ v. asked.item_eq (item_of_type v) i) (λ x. is_array_of s x i ≡ true) refl refl
      (λ n j f. items_same (stored_item s.tables.now (suc n) j) i ∙ ap (λ x. asked.item_eq x i) (sym (stored_named s.program.now s.tables.now d n j)) ∙ f) k e

  filled_back : (w : ℕ) (k : Kind) → asked.is_array_where (λ v. asked.has_width w (item_of_type v)) k ≡ true → is_array_filled s (numbered s.program.now k) w ≡ true
  filled_back w k e = where_back (λ v. asked.has_width w (item_of_type v)) (λ x. is_array_filled s x w ≡ true) refl refl
      (λ n j f. sym (width_same w (stored_item s.tables.now (suc n) j)) ∙ ap (asked.has_width w) (sym (stored_named s.program.now s.tables.now d n j)) ∙ f) k e

  any_back : (k : Kind) → asked.is_array_where (λ v. true) k ≡ true → demands.is_any_array (numbered s.program.now k) ≡ true
  any_back k e = where_back (λ v. true) (λ x. demands.is_any_array x ≡ true) refl refl (λ n j f. refl) k e

module _ (s : Setting) (d : Told s.program.now s.tables.now) (h : IsResolved s.program.now s.hierarchy.now) (c : Class) (own : slice_get s.program.now.classes s.class ≡ Some c) (ks : List Kind) where
  abbrev p : Program
  p = s.program.now

  abbrev numbers : List number.Kind
  numbers = map (numbered p) ks

  abbrev Meets : ℕ → Demand → Type 0
  Meets r x = asked.meets (named p) (named_class p c) ks r x ≡ true

  -- what the kind at a register is by number
  at : (test : number.Kind → Bool) (r : ℕ) → test (numbered p (by_name.kind_at ks r)) ≡ true → test (kind_at numbers r) ≡ true
  at test r e = ap test (at_back p ks r) ∙ e

  pub met_number : (r : ℕ) → Meets r Number → kinds.is_number (kind_at numbers r) ≡ true
  met_number r e = at kinds.is_number r (number_back p (by_name.kind_at ks r) ∙ e)

  pub met_made : (r : ℕ) → Meets r Initialised → kinds.is_initialised (kind_at numbers r) ≡ true
  met_made r e = at kinds.is_initialised r (made_back p (by_name.kind_at ks r) ∙ e)

  met_either : (r : ℕ) → Meets r Either → (kinds.is_number (kind_at numbers r) || kinds.is_initialised (kind_at numbers r)) ≡ true
  met_either r e = at (λ k. kinds.is_number k || kinds.is_initialised k) r
      (ap (λ b. b || kinds.is_initialised (numbered p (by_name.kind_at ks r))) (number_back p (by_name.kind_at ks r)) ∙ ap (λ b. name.is_number (by_name.kind_at ks r) || b) (made_back p (by_name.kind_at ks r)) ∙ e)

  pub met_pair : (r : ℕ) → Meets r Pair → is_pair numbers r ≡ true
  met_pair r e = pair_back p ks r ∙ e

  pub met_fits : (r type : ℕ) (u : Text) → type_at p type ≡ u → Meets r (Fits u) → fits s.tables.now (kind_at numbers r) type ≡ true
  met_fits r type u f e = at (λ k. fits s.tables.now k type) r (fits_back p s.tables.now d (by_name.kind_at ks r) type (subst (λ v. name.fits (named p) (by_name.kind_at ks r) v ≡ true) (sym f) e))

  pub met_wide : (b : Bool) (r : ℕ) → Meets r (number_or_pair b) → demands.is_number_or_pair b numbers r ≡ true
  met_wide true r e = met_pair r e
  met_wide false r e = met_number r e

  pub met_type : (r type : ℕ) (u : Text) → type_at p type ≡ u → Meets r (of_type u) → is_of_type s numbers r type ≡ true
  met_type r type u f e = by (shapes.is_wide (shape_of s.tables.now type)) (subst (λ b. Meets r (wide_or b (Fits u))) (sym (ap text.is_wide f) ∙ (sorts p s.tables.now d type).wide) e)
    where
      by : (b : Bool) → Meets r (wide_or b (Fits u)) → (if b then is_pair numbers r else fits s.tables.now (kind_at numbers r) type) ≡ true
      by true e = met_pair r e
      by false e = met_fits r type u f e

  pub met_slot : (x : Slot) (r : ℕ) → Meets r (asked.slot_demand x) → demands.is_movable x numbers r ≡ true
  met_slot slot.Wide r e = met_pair r e
  met_slot slot.Word r e = at kinds.is_moved r (moved_back p (by_name.kind_at ks r) ∙ e)
  met_slot slot.Object r e = at kinds.is_moved r (moved_back p (by_name.kind_at ks r) ∙ e)

  pub met_item : (x : Item) (r : ℕ) → Meets r (asked.put_item x) → demands.is_item x numbers r ≡ true
  met_item item.Wide r e = met_pair r e
  met_item item.Object r e = met_made r e
  met_item item.Plain r e = met_number r e
  met_item item.Boolean r e = met_number r e
  met_item item.Byte r e = met_number r e
  met_item item.Char r e = met_number r e
  met_item item.Short r e = met_number r e

  -- ---- tests of two operands

  one_tested : (b : Bool) (r : ℕ) → Meets r (asked.tested b) → (kinds.is_number (kind_at numbers r) || (b && kinds.is_initialised (kind_at numbers r))) ≡ true
  one_tested true r e = met_either r e
  one_tested false r e = or_left (kinds.is_number (kind_at numbers r)) false (met_number r e)

  pub met_tested : (x : Test) (r : ℕ) → Meets r (asked.tested (asked.is_equality x)) → demands.is_tested x (kind_at numbers r) ≡ true
  met_tested x r e = one_tested (demands.is_equality x) r (subst (λ b. Meets r (asked.tested b)) (equality_same x) e)

  like_back : (first : Kind) (r : ℕ) → Meets r (asked.like first) → demands.is_like (numbered p first) (kind_at numbers r) ≡ true
  like_back Zero r e = met_either r e
  like_back Word r e = met_number r e
  like_back (ClassKind u) r e = for_class p (λ x. demands.is_like x (kind_at numbers r) ≡ true) u (met_made r e) (λ c. met_made r e)
  like_back (Array u) r e = for_array p (λ x. demands.is_like x (kind_at numbers r) ≡ true) u (met_made r e) (λ n i. met_made r e)
  like_back first r e = met_made r e

  two_tested : (b : Bool) (q r : ℕ) → Meets r (asked.second_tested b (by_name.kind_at ks q)) → (if b then demands.is_like (kind_at numbers q) (kind_at numbers r) else kinds.is_number (kind_at numbers r)) ≡ true
  two_tested true q r e = ap (λ k. demands.is_like k (kind_at numbers r)) (at_back p ks q) ∙ like_back (by_name.kind_at ks q) r e
  two_tested false q r e = met_number r e

  pub met_tested_with : (x : Test) (q r : ℕ) → Meets r (asked.second_tested (asked.is_equality x) (by_name.kind_at ks q)) → demands.is_tested_with x (kind_at numbers q) (kind_at numbers r) ≡ true
  met_tested_with x q r e = two_tested (demands.is_equality x) q r (subst (λ b. Meets r (asked.second_tested b (by_name.kind_at ks q))) (equality_same x) e)

  -- ---- arrays

  pub met_array : (i : Item) (r : ℕ) → Meets r (ArrayOf i) → is_array_of s (kind_at numbers r) i ≡ true
  met_array i r e = at (λ k. is_array_of s k i) r (array_back s d i (by_name.kind_at ks r) e)

  pub met_filled : (w r : ℕ) → Meets r (Filled w) → is_array_filled s (kind_at numbers r) w ≡ true
  met_filled w r e = at (λ k. is_array_filled s k w) r (filled_back s d w (by_name.kind_at ks r) e)

  pub met_any_array : (r : ℕ) → Meets r AnArray → demands.is_any_array (kind_at numbers r) ≡ true
  met_any_array r e = at demands.is_any_array r (any_back s d (by_name.kind_at ks r) e)

  -- ---- receivers

  holder_fits : (f : ℕ) (e : FieldIs p s.tables.now d f) (k : Kind) → name.fits_holder (named p) k (field_at p f).class ≡ true → fits_holder s.tables.now (numbered p k) (field_class p f) ≡ true
  holder_fits f e k g = fits_holder_back p s.tables.now d k (field_class p f) (subst (λ v. name.fits_holder (named p) k v ≡ true) (sym (field_class_is p s.tables.now d f e)) g)

  pub met_receiver : (r f : ℕ) → FieldIs p s.tables.now d f → Meets r (Receiver (field_at p f).class) → fits_holder s.tables.now (kind_at numbers r) (field_class p f) ≡ true
  met_receiver r f x e = at (λ k. fits_holder s.tables.now k (field_class p f)) r (holder_fits f x (by_name.kind_at ks r) e)

  holder_back : (f : ℕ) (e : FieldIs p s.tables.now d f) (k : Kind) → asked.holds_field (named p) (named_class p c) (field_at p f) k ≡ true → is_holder s (numbered p k) f ≡ true
  holder_back f e FreshThis g = defines_back s d h c own f e g
  holder_back f e (ClassKind u) g = for_class p (λ x. fits_holder s.tables.now x (field_class p f) ≡ true → is_holder s x f ≡ true) u (λ x. x) (λ c x. x) (holder_fits f e (ClassKind u) g)
  holder_back f e (Array u) g = for_array p (λ x. fits_holder s.tables.now x (field_class p f) ≡ true → is_holder s x f ≡ true) u (λ x. x) (λ n i x. x) (holder_fits f e (Array u) g)
  holder_back f e k g = holder_fits f e k g

  pub met_holder : (f r : ℕ) → FieldIs p s.tables.now d f → Meets r (Holder (field_at p f)) → is_holder s (kind_at numbers r) f ≡ true
  met_holder f r e g = at (λ k. is_holder s k f) r (holder_back f e (by_name.kind_at ks r) g)

  module _ (kind_is : s.kind ≡ c.name) (super_is : s.superclass ≡ c.superclass) where
    constructed_back : (k : Kind) (class : ℕ) → class < length p.types → asked.is_constructed (named_class p c) (type_at p class) k ≡ true → is_constructed s (numbered p k) class ≡ true
    constructed_back (Fresh u n) class l e = fresh_text p s.tables.now d u class l ∙ e
    constructed_back FreshThis class l e =
        let own_parts = class_parts p d.sound s.class c own in
        either_true (text_eq (type_at p c.name) (type_at p class)) (text_eq (type_at p c.superclass) (type_at p class)) (nat_eq class s.kind) (nat_eq class s.superclass)
        (λ x. number_test class s.kind (sym (kind_is ∙ number_of c.name class (sym (type_test p d.sound c.name class own_parts.name l) ∙ x))))
        (λ x. number_test class s.superclass (sym (super_is ∙ number_of c.superclass class (sym (type_test p d.sound c.superclass class own_parts.superclass l) ∙ x))))
        e
    constructed_back k class l e = absurd (true≢false (sym e))

    pub met_constructed : (r class : ℕ) (u : Text) → type_at p class ≡ u → class < length p.types → Meets r (Constructed u) → is_constructed s (kind_at numbers r) class ≡ true
    met_constructed r class u f l e = at (λ k. is_constructed s k class) r (constructed_back (by_name.kind_at ks r) class l (subst (λ v. asked.is_constructed (named_class p c) v (by_name.kind_at ks r) ≡ true) (sym f) e))

    -- ---- calls

    abbrev All : List (ℕ × Demand) → Type 0
    All ds = list_all (λ d. asked.meets (named p) (named_class p c) ks d.0 d.1) ds ≡ true

    abbrev test : (ℕ × Demand) → Bool
    test x = asked.meets (named p) (named_class p c) ks x.0 x.1

    none_left : (t : ℕ) → reads.behind s t [] ≡ []
    none_left t = by (shapes.is_wide (shape_of s.tables.now t))
      where
        by : (b : Bool) → ◌≡◌ {A = List ℕ} (if b then drop 2 [] else drop 1 []) []
        by true = refl
        by false = refl

    none_refused : (t : ℕ) → reads.refused_argument s numbers t [] ≡ None
    none_refused t = by (shapes.is_wide (shape_of s.tables.now t))
      where
        by : (b : Bool) → (if b then reads.refused_wide numbers [] else reads.refused_word s numbers t []) ≡ None
        by true = refl
        by false = refl

    passed_none : (so : Option ℕ) (ts rs : List ℕ) → so ≡ None → All (asked.passed (map (type_at p) ts) rs) → refused_from s numbers so ts rs ≡ None
    passed_none so [] rs e f = e
    passed_none so (t ∷ ts) [] e f =
        ap (λ l. refused_from s numbers (lower so (reads.refused_argument s numbers t [])) ts l) (none_left t)
        ∙ passed_none (lower so (reads.refused_argument s numbers t [])) ts [] (lower_none so (reads.refused_argument s numbers t []) e (none_refused t)) (nothing ts)
      where
        nothing : (ts : List ℕ) → All (asked.passed (map (type_at p) ts) [])
        nothing [] = refl
        nothing (t ∷ ts) = refl
    passed_none so (t ∷ ts) (r ∷ rs) e f =
        let g = by (shapes.is_wide (shape_of s.tables.now t)) refl
        (subst (λ b. All (elim b as (λ b. List (ℕ × Demand)) [ true ↦ asked.passed_wide r rs ++ asked.passed (map (type_at p) ts) (drop 1 rs) | false ↦ (r, Fits (type_at p t)) ∷ asked.passed (map (type_at p) ts) rs ]))
        (sorts p s.tables.now d t).wide f) in
        passed_none (lower so (reads.refused_argument s numbers t (r ∷ rs))) ts (reads.behind s t (r ∷ rs)) (lower_none so (reads.refused_argument s numbers t (r ∷ rs)) e g.0) g.1
      where
        pair : (rs : List ℕ) → All (asked.passed_wide r rs) → reads.refused_wide numbers (r ∷ rs) ≡ None
        pair [] g = unless_none (is_pair numbers r) r (met_pair r (and_left _ true g))
        pair (q ∷ qs) g = lower_none (unless (is_pair numbers r) r) (unless (nat_eq q (r + 1)) q)
            (unless_none (is_pair numbers r) r (met_pair r (and_left _ (nat_eq q (r + 1) && true) g)))
            (unless_none (nat_eq q (r + 1)) q (and_left (nat_eq q (r + 1)) true (and_right (test (r, Pair)) (nat_eq q (r + 1) && true) g)))

        by : (b : Bool) → shapes.is_wide (shape_of s.tables.now t) ≡ b
            → All (elim b as (λ b. List (ℕ × Demand)) [ true ↦ asked.passed_wide r rs ++ asked.passed (map (type_at p) ts) (drop 1 rs) | false ↦ (r, Fits (type_at p t)) ∷ asked.passed (map (type_at p) ts) rs ])
            → (reads.refused_argument s numbers t (r ∷ rs) ≡ None) × All (asked.passed (map (type_at p) ts) (reads.behind s t (r ∷ rs)))
        by true w g = (
          ap (λ b. if b then reads.refused_wide numbers (r ∷ rs) else reads.refused_word s numbers t (r ∷ rs)) w ∙ pair rs (all_first test (asked.passed_wide r rs) (asked.passed (map (type_at p) ts) (drop 1 rs)) g),
          subst (λ b. All (asked.passed (map (type_at p) ts) (if b then drop 2 (r ∷ rs) else drop 1 (r ∷ rs)))) (sym w) (all_last test (asked.passed_wide r rs) (asked.passed (map (type_at p) ts) (drop 1 rs)) g),
        )
        by false w g = (
          ap (λ b. if b then reads.refused_wide numbers (r ∷ rs) else reads.refused_word s numbers t (r ∷ rs)) w
              ∙ unless_none (fits s.tables.now (kind_at numbers r) t) r (met_fits r t (type_at p t) refl (and_left (test (r, Fits (type_at p t))) (list_all test (asked.passed (map (type_at p) ts) rs)) g)),
          subst (λ b. All (asked.passed (map (type_at p) ts) (if b then drop 2 (r ∷ rs) else drop 1 (r ∷ rs)))) (sym w) (and_right (test (r, Fits (type_at p t))) (list_all test (asked.passed (map (type_at p) ts) rs)) g),
        )

    pub items_none : (so : Option ℕ) (type : ℕ) (rs : List ℕ) → text.is_array (type_at p type) ≡ true → so ≡ None → All (map (λ r. (r, Fits (text.item_of (type_at p type)))) rs) → refused_items_from s numbers so type rs ≡ None
    items_none so type [] w e f = e
    items_none so type (r ∷ rs) w e f = items_none (lower so (unless (fits_item s.tables.now (kind_at numbers r) type) r)) type rs w
        (lower_none so (unless (fits_item s.tables.now (kind_at numbers r) type) r) e
        (unless_none (fits_item s.tables.now (kind_at numbers r) type) r
        (at (λ k. fits_item s.tables.now k type) r (fits_item_back p s.tables.now d (by_name.kind_at ks r) type w (and_left _ (list_all test (map (λ r. (r, Fits (text.item_of (type_at p type)))) rs)) f)))))
        (and_right (test (r, Fits (text.item_of (type_at p type)))) (list_all test (map (λ r. (r, Fits (text.item_of (type_at p type)))) rs)) f)

    module _ (n : ℕ) (m : ℕ) (e : MethodIs p s.tables.now d m) where
      arguments_none : (rs : List ℕ) → All (asked.passed (method_at p m).signature.parameters rs) → refused_arguments s numbers (parameters_of p m) rs ≡ None
      arguments_none rs f = passed_none None (parameters_of p m) rs refl (subst (λ ts. All (asked.passed ts rs)) (sym (parameters_is p s.tables.now d m e)) f)

      abbrev received : Demand
      received = if asked.is_constructor_name (method_at p m).name then Constructed (method_at p m).class else Fits (method_at p m).class

      plain_receiver : (r : ℕ) → Meets r received → (if is_constructor s.tables.now m then is_constructed s (kind_at numbers r) (method_class p m) else fits s.tables.now (kind_at numbers r) (method_class p m)) ≡ true
      plain_receiver r f = by (is_constructor s.tables.now m) (subst (λ b. Meets r (if b then Constructed (method_at p m).class else Fits (method_at p m).class)) (sym (constructor_is p s.tables.now d m e)) f)
        where
          by : (b : Bool) → Meets r (if b then Constructed (method_at p m).class else Fits (method_at p m).class)
              → (if b then is_constructed s (kind_at numbers r) (method_class p m) else fits s.tables.now (kind_at numbers r) (method_class p m)) ≡ true
          by true f = met_constructed r (method_class p m) (method_at p m).class (method_class_is p s.tables.now d m e) (method_class_small p s.tables.now d m e) f
          by false f = met_fits r (method_class p m) (method_at p m).class (method_class_is p s.tables.now d m e) f

      found_none : (r : ℕ) (x : Search) (y : find.Search) → SameFound s d h x y → All (map (λ d. (r, d)) (map Fits (asked.found_class y))) → fits_search s (kind_at numbers r) x ≡ true
      found_none r search.Nothing y same f = refl
      found_none r (search.Finds class static) y same f =
          let g : (test (r, Fits (type_at p class)) && true) ≡ true = subst (λ us. All (map (λ d. (r, d)) (map Fits us))) same.classes f in
          met_fits r class (type_at p class) refl (and_left (test (r, Fits (type_at p class))) true g)

      super_receiver : found_at s n ≡ supers.said p (finding.finds_super p s.class m) → (r : ℕ) → All (map (λ d. (r, d)) (asked.receiver_demands (named p) (named_class p c) call.Super (method_at p m))) → is_receiver s n numbers call.Super m r ≡ true
      super_receiver found r f =
          let rest = map (λ d. (r, d)) (map Fits (asked.found_class (find.finds_super (named p) (type_at p c.name) (method_at p m)))) in
          let one = met_fits r (method_class p m) (method_at p m).class (method_class_is p s.tables.now d m e) (and_left (test (r, Fits (method_at p m).class)) (list_all test rest) f) in
          let two = found_none r (supers.said p (finding.finds_super p s.class m)) (find.finds_super (named p) (type_at p c.name) (method_at p m)) (found_same s d h c own m e) (and_right (test (r, Fits (method_at p m).class)) (list_all test rest) f) in
          ap (λ b. b && fits_search s (kind_at numbers r) (found_at s n)) one ∙ ap (fits_search s (kind_at numbers r)) found ∙ two

      received_none : (k : InvokeKind) (r : ℕ) (rs : List ℕ) → (Meets r received → is_receiver s n numbers k m r ≡ true) → All (map (λ d. (r, d)) (received ∷ []) ++ asked.passed (method_at p m).signature.parameters rs) → refused_received s n numbers k m (r ∷ rs) ≡ None
      received_none k r rs take f = lower_none (unless (is_receiver s n numbers k m r) r) (refused_arguments s numbers (parameters_of p m) rs)
          (unless_none (is_receiver s n numbers k m r) r (take (and_left (test (r, received)) (list_all test (asked.passed (method_at p m).signature.parameters rs)) f)))
          (arguments_none rs (and_right (test (r, received)) (list_all test (asked.passed (method_at p m).signature.parameters rs)) f))

      pub call_none : (k : InvokeKind) (rs : List ℕ) → found_at s n ≡ supers.called_by_kind p s.class k m → All (asked.call_demands (named p) (named_class p c) k (method_at p m) rs) → refused_call s n numbers k m rs ≡ None
      call_none call.Static rs found f = arguments_none rs f
      call_none call.Super [] found f = refl
      call_none call.Virtual [] found f = refl
      call_none call.Direct [] found f = refl
      call_none call.Interface [] found f = refl
      call_none call.Super (r ∷ rs) found f =
          let first = map (λ d. (r, d)) (asked.receiver_demands (named p) (named_class p c) call.Super (method_at p m)) in
          let rest = asked.passed (method_at p m).signature.parameters rs in
          lower_none (unless (is_receiver s n numbers call.Super m r) r) (refused_arguments s numbers (parameters_of p m) rs)
          (unless_none (is_receiver s n numbers call.Super m r) r (super_receiver found r (all_first test first rest f)))
          (arguments_none rs (all_last test first rest f))
      call_none call.Virtual (r ∷ rs) found f = received_none call.Virtual r rs (plain_receiver r) f
      call_none call.Direct (r ∷ rs) found f = received_none call.Direct r rs (plain_receiver r) f
      call_none call.Interface (r ∷ rs) found f = received_none call.Interface r rs (plain_receiver r) f
