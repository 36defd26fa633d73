-- From names back to numbers: each kind by names has a kind by numbers, null for a class or an array that has none, and what
-- is at or below another one is so by number.
use Rattle.std.proofs.Common.{◌≡◌, ℕ, zero, suc, ◌+◌, ◌<◌, Bool, true, false, true≢false, nat_eq, nat_lt, [], length, Option, Some, None, refl, sym, ap, ◌∙◌, subst, arith, lt-ltb}
use Rattle.std.specs.Prelude.{◌&&◌, ◌||◌, is_some, if◌then◌else◌}
use Rattle.std.specs.Option.{option_map}
use Rattle.lemmas.proofs.Lists.{got_short}
use Rattle.class_defs.proofs.Positions.{number_of, both, entry_at, place_entry, PlaceFits}
use Rattle.class_defs.proofs.WellFormed.{class_parts}
use Rattle.program_model.specs.Texts.{string_text}
use Rattle.program_model.specs.declared.program.Program.{Program}
use Rattle.dalvik_defs.specs.Names.{Text, text_eq, object_type, base_of}
use Rattle.dalvik_defs.specs.Naming.{text_at, type_at, named}
use Rattle.dalvik_defs.proofs.Calm.{text_sound}
use Rattle.pass_defs.specs.Kinds as name
use Rattle.pass_defs.specs.Kinds.{Kind, Undefined, Zero, Word, Low, High, Null, Class as ClassKind, Array, Reference, Fresh, FreshThis, kind_eq, depth, arrays_of, is_below, object_array, class_or_reference, is_flat, joined_deep, joined_items, joined_arrays}
use Rattle.verify.specs.declared.kinds.Kind as number
use Rattle.verify.specs.declared.kinds.Kind.TheVariants as kind
use Rattle.verify.specs.declared.tables.Tables.{Tables}
use Rattle.verify.specs.Descriptors.{same_text, class_named, is_item_of, item_named, without_brackets}
use Rattle.verify.specs.Kinds.{same_number}
use Rattle.verify.specs.Typings.{Below}
use Rattle.verify.proofs.Descriptions as texts
use Rattle.verify.proofs.Raises.{below_itself}
use Rattle.type_bridge.specs.Views.{item_text, class_kind, kind_named}
use Rattle.type_bridge.specs.Numbered.{is_numbered}
use Rattle.type_bridge.proofs.Lines.{nearest_none}
use Rattle.type_bridge.proofs.Numbers.{kind_is, type_named, item_number, array_number, kind_number}
use Rattle.type_bridge.proofs.Numbering.{same_number_itself, below_numbered}
use Rattle.type_bridge.proofs.Told.{Told}
use Rattle.type_bridge.proofs.Texts.{First, first_of, few_types, class_text, text_of_type, item_named_text, depth_is, base_is, base_stays, base_bare, arrays_back}

-- ---- the kind by numbers of a kind by names

-- The number of a type of this name. Where the program has none it is a number that no type has, another one for a name of
-- another length.
abbrev pub type_or : Program → Text → Option ℕ → ℕ
type_or p u None = length p.types + length u
type_or p u (Some k) = k

abbrev pub or_null : Option number.Kind → number.Kind
or_null None = kind.Null
or_null (Some k) = k

abbrev pub numbered : Program → Kind → number.Kind
numbered p (Fresh u n) = kind.Fresh (type_or p u (type_named p u)) n
numbered p k = or_null (kind_number p k)

-- what holds of the kind of a class, and of that of an array
pub for_class : (p : Program) (P : number.Kind → Type 0) (u : Text) → P kind.Null → ((c : ℕ) → P (kind.Program c)) → P (numbered p (ClassKind u))
for_class p P u a b = by (class_named p u)
  where
    by : (o : Option ℕ) → P (or_null (option_map kind.Program o))
    by None = a
    by (Some c) = b c

pub for_array : (p : Program) (P : number.Kind → Type 0) (u : Text) → P kind.Null → ((n : ℕ) (i : Option ℕ) → P (kind.Array (suc n) i)) → P (numbered p (Array u))
for_array p P u a b = by (depth u)
  where
    items : (n : ℕ) (o : Option (Option ℕ)) → P (or_null (option_map (kind.Array (suc n)) o))
    items n None = a
    items n (Some i) = b n i

    by : (n : ℕ) → P (or_null (array_number p n (base_of u)))
    by zero = a
    by (suc n) = items n (item_number p (base_of u))

-- it is the kind of that name, or there is none
pub data Sense (p : Program) (k : Kind) : Type 0 where
  known : (x : number.Kind) → is_numbered p x ≡ true → kind_named p x ≡ k → numbered p k ≡ x → Sense p k
  no_class : (u : Text) → k ≡ ClassKind u → class_named p u ≡ None → Sense p k
  no_array : (u : Text) → k ≡ Array u → array_number p (depth u) (base_of u) ≡ None → Sense p k
  no_type : (u : Text) (n : ℕ) → k ≡ Fresh u n → type_named p u ≡ None → Sense p k

pub some_dimension : (n : ℕ) → nat_lt 0 (suc n) ≡ true
some_dimension n = lt-ltb 0 (suc n) (omega arith)

module _ (p : Program) (t : Tables) (d : Told p t) where
  item_some : (u : Text) (k : ℕ) → item_named p u ≡ Some k → item_number p u ≡ Some (Some k)
  item_some u k e = by (text_eq u object_type)
    where
      by : (b : Bool) → (if b then Some (item_named p u) else option_map Some (item_named p u)) ≡ Some (Some k)
      by true = ap Some e
      by false = ap (option_map Some) e

  item_is : (u : Text) (i : Option ℕ) → item_number p u ≡ Some i → (item_text p i ≡ u) × (item_named p u ≡ i)
  item_is u i e = by (text_eq u object_type) refl e
    where
      named_item : (k : ℕ) (i : Option ℕ) → item_named p u ≡ Some k → Some k ≡ i → (item_text p i ≡ u) × (item_named p u ≡ i)
      named_item k i f g = subst (λ i. (item_text p i ≡ u) × (item_named p u ≡ i)) g (item_named_text p d.well u k f, f)

      object_item : (o : Option ℕ) → item_named p u ≡ o → text_eq u object_type ≡ true → item_text p o ≡ u
      object_item None f h = sym (text_sound u object_type h)
      object_item (Some k) f h = item_named_text p d.well u k f

      other_item : (o : Option ℕ) → item_named p u ≡ o → option_map Some o ≡ Some i → (item_text p i ≡ u) × (item_named p u ≡ i)
      other_item None f g = absurd (cc)
      other_item (Some k) f g = named_item k i f (let s : Some k ≡ i = cc in s)

      by : (b : Bool) → text_eq u object_type ≡ b → (if b then Some (item_named p u) else option_map Some (item_named p u)) ≡ Some i → (item_text p i ≡ u) × (item_named p u ≡ i)
      by true h g = let s : item_named p u ≡ i = cc in (ap (item_text p) (sym s) ∙ object_item (item_named p u) refl h, s)
      by false h g = other_item (item_named p u) refl g

  pub type_is : (u : Text) (k : ℕ) → type_named p u ≡ Some k → (k < length p.types) × (type_at p k ≡ u)
  type_is u k e =
      let r : PlaceFits (λ s. text_eq (text_at p s) u) p.types k = place_entry (λ s. text_eq (text_at p s) u) p.types k e in
      (got_short p.types k r.entry r.is, ap (λ o. elim o as (λ o. Text) [ Some n ↦ text_at p n | None ↦ [] ]) r.is ∙ text_sound (text_at p r.entry) u r.passes)

  pub sense : (k : Kind) → Sense p k
  sense Undefined = known kind.Undefined refl refl refl
  sense Zero = known kind.Zero refl refl refl
  sense Word = known kind.Word refl refl refl
  sense Low = known kind.WideLow refl refl refl
  sense High = known kind.WideHigh refl refl refl
  sense Null = known kind.Null refl refl refl
  sense Reference = known kind.Reference refl refl refl
  sense FreshThis = known kind.FreshThis refl refl refl
  sense (ClassKind u) = by (class_named p u) refl
    where
      by : (o : Option ℕ) → class_named p u ≡ o → Sense p (ClassKind u)
      by None e = no_class u refl e
      by (Some c) e = let r = class_text p d.well u c e in known (kind.Program c) (ap is_some r.is) (ap (class_kind p) r.is ∙ ap ClassKind r.named) (ap (λ o. or_null (option_map kind.Program o)) e)
  sense (Array u) = by (depth u) refl
    where
      items : (n : ℕ) (o : Option (Option ℕ)) → depth u ≡ suc n → item_number p (base_of u) ≡ o → Sense p (Array u)
      items n None e f = no_array u refl (ap (λ n. array_number p n (base_of u)) e ∙ ap (option_map (kind.Array (suc n))) f)
      items n (Some i) e f =
          let r = item_is (base_of u) i f in
          known (kind.Array (suc n) i)
          (both (nat_lt 0 (suc n)) (same_number (item_named p (item_text p i)) i) (some_dimension n) (ap (λ o. same_number o i) (ap (item_named p) r.0 ∙ r.1) ∙ same_number_itself i))
          (ap Array (ap (arrays_of (suc n)) r.0 ∙ ap (λ m. arrays_of m (base_of u)) (sym e ∙ depth_is u) ∙ arrays_back u))
          (ap (λ n. or_null (array_number p n (base_of u))) e ∙ ap (λ o. or_null (option_map (kind.Array (suc n)) o)) f)

      by : (n : ℕ) → depth u ≡ n → Sense p (Array u)
      by zero e = no_array u refl (ap (λ n. array_number p n (base_of u)) e)
      by (suc n) e = items n (item_number p (base_of u)) e refl
  sense (Fresh u n) = by (type_named p u) refl
    where
      by : (o : Option ℕ) → type_named p u ≡ o → Sense p (Fresh u n)
      by None e = no_type u n refl e
      by (Some k) e = let r = type_is u k e in known (kind.Fresh k n) (lt-ltb k (length p.types) r.0) (ap (λ v. Fresh v n) r.1) (ap (λ o. kind.Fresh (type_or p u o) n) e)

  -- ---- what is at or below a kind that there is none of

  class_number : (s u : Text) → text_eq s u ≡ true → class_named p u ≡ None → numbered p (ClassKind s) ≡ kind.Null
  class_number s u f e = ap (λ v. numbered p (ClassKind v)) (text_sound s u f) ∙ ap (λ o. or_null (option_map kind.Program o)) e

  under_class : (a : Kind) (u : Text) → class_named p u ≡ None → is_below (named p) a (ClassKind u) ≡ true → Below t (numbered p a) kind.Null
  under_class Zero u e h = refl
  under_class Null u e h = refl
  under_class (ClassKind s) u e h = by (text_eq s u) refl h
    where
      by : (b : Bool) → text_eq s u ≡ b → kind_eq (if b then ClassKind s else class_or_reference (name.nearest (named p) s u)) (ClassKind u) ≡ true → Below t (numbered p (ClassKind s)) kind.Null
      by true f h = subst (λ k. Below t k kind.Null) (sym (class_number s u f e)) refl
      by false f h = absurd (true≢false (sym h ∙ ap (λ o. kind_eq (class_or_reference o) (ClassKind u)) (nearest_none p t d s u e)))
  under_class k u e h = absurd (true≢false (sym h))

  -- arrays of objects have a number
  no_deep : (s u : Text) → array_number p (depth u) (base_of u) ≡ None → kind_eq (joined_deep s u) (Array u) ≡ true → ⊥
  no_deep s u e h = by (is_flat s || is_flat u) h
    where
      by : (b : Bool) → kind_eq (if b then Reference else Array object_array) (Array u) ≡ true → ⊥
      by true h = true≢false (sym h)
      by false h =
          let f : object_array ≡ u = text_sound object_array u h in
          let g : Some (kind.Array 1 (item_named p object_type)) ≡ None = ap (λ v. array_number p (depth v) (base_of v)) f ∙ e in
          cc

  -- an item that is a class has a number
  class_item : (u : Text) (x : ℕ) → class_named p (base_of u) ≡ Some x → (k : ℕ) × (item_number p (base_of u) ≡ Some (Some k))
  class_item u x e =
      let w : Text = base_of u in
      let r = class_text p d.well w x e in
      let q = entry_at p.types r.class.name (class_parts p d.sound x r.class r.is).name in
      let own : without_brackets (string_text p q.0) ≡ w = ap without_brackets (sym (text_of_type p r.class.name q.0 q.1) ∙ r.named) ∙ sym (base_is w) ∙ base_stays w (base_bare u) in
      let f : First (is_item_of p w) p.types r.class.name = first_of (is_item_of p w) p.types r.class.name q.0 (few_types p d.well) q.1 (ap (λ v. same_text v w) own ∙ texts.text_same w) in
      (f.number, item_some w f.number f.is)

  joined_array : (s u : Text) → array_number p (depth u) (base_of u) ≡ None → kind_eq (joined_arrays (named p) s u) (Array u) ≡ true → numbered p (Array s) ≡ kind.Null
  joined_array s u e h = by (nat_eq (depth s) (depth u)) refl h
    where
      flat : (n : ℕ) → depth u ≡ n → nat_eq (depth s) (depth u) ≡ true → (k : ℕ) → item_number p (base_of u) ≡ Some (Some k) → numbered p (Array s) ≡ kind.Null
      flat zero z f k g = ap (λ n. or_null (array_number p n (base_of s))) (number_of (depth s) (depth u) f ∙ z)
      flat (suc n) z f k g = absurd (let q : Some (kind.Array (suc n) (Some k)) ≡ None = sym (ap (λ n. array_number p n (base_of u)) z ∙ ap (option_map (kind.Array (suc n))) g) ∙ e in cc)

      place : (o : Option ℕ) → class_named p (base_of u) ≡ o → nat_eq (depth s) (depth u) ≡ true → (c : Text) → name.nearest (named p) (base_of s) (base_of u) ≡ Some c → numbered p (Array s) ≡ kind.Null
      place None g f c n = absurd (let q : None ≡ Some c = sym (nearest_none p t d (base_of s) (base_of u) g) ∙ n in cc)
      place (Some x) g f c n = let r = class_item u x g in flat (depth u) refl f r.0 r.1

      items : (o : Option Text) → name.nearest (named p) (base_of s) (base_of u) ≡ o → nat_eq (depth s) (depth u) ≡ true → kind_eq (joined_items s u o) (Array u) ≡ true → numbered p (Array s) ≡ kind.Null
      items None n f h = absurd (no_deep s u e h)
      items (Some c) n f h = place (class_named p (base_of u)) refl f c n

      by : (b : Bool) → nat_eq (depth s) (depth u) ≡ b
          → kind_eq (elim b as (λ b. Kind) [ true ↦ joined_items s u (name.nearest (named p) (base_of s) (base_of u)) | false ↦ joined_deep s u ]) (Array u) ≡ true → numbered p (Array s) ≡ kind.Null
      by true f h = items (name.nearest (named p) (base_of s) (base_of u)) refl f h
      by false f h = absurd (no_deep s u e h)

  under_array : (a : Kind) (u : Text) → array_number p (depth u) (base_of u) ≡ None → is_below (named p) a (Array u) ≡ true → Below t (numbered p a) kind.Null
  under_array Zero u e h = refl
  under_array Null u e h = refl
  under_array (Array s) u e h = by (text_eq s u) refl h
    where
      by : (b : Bool) → text_eq s u ≡ b → kind_eq (if b then Array s else joined_arrays (named p) s u) (Array u) ≡ true → Below t (numbered p (Array s)) kind.Null
      by true f h = subst (λ k. Below t k kind.Null) (sym (ap (λ v. numbered p (Array v)) (text_sound s u f) ∙ ap or_null e)) refl
      by false f h = subst (λ k. Below t k kind.Null) (sym (joined_array s u e h)) refl
  under_array k u e h = absurd (true≢false (sym h))

  -- a kind that isn't made is above itself alone
  under_fresh : (a : Kind) (u : Text) (n : ℕ) → is_below (named p) a (Fresh u n) ≡ true → a ≡ Fresh u n
  under_fresh (Fresh s m) u n h = by (text_eq s u && nat_eq m n) refl h
    where
      by : (b : Bool) → (text_eq s u && nat_eq m n) ≡ b → kind_eq (if b then Fresh s m else Undefined) (Fresh u n) ≡ true → Fresh s m ≡ Fresh u n
      by true f h = kind_is (Fresh s m) (Fresh u n) f
      by false f h = absurd (true≢false (sym h))
  under_fresh k u n h = absurd (true≢false (sym h))

  -- ---- what is at or above one

  abbrev pub is_over : Kind → Bool
  is_over Undefined = true
  is_over Null = true
  is_over (ClassKind u) = true
  is_over (Array u) = true
  is_over Reference = true
  is_over k = false

  pub null_under : (k : Kind) → is_over k ≡ true → Below t kind.Null (numbered p k)
  null_under Undefined e = refl
  null_under Null e = refl
  null_under (ClassKind u) e = for_class p (Below t kind.Null) u refl (λ c. refl)
  null_under (Array u) e = for_array p (Below t kind.Null) u refl over
    where
      over : (n : ℕ) (i : Option ℕ) → Below t kind.Null (kind.Array (suc n) i)
      over n i = ap (λ b. if b then kind.Array (suc n) i else kind.Undefined) (some_dimension n)
  null_under Reference e = refl
  null_under k e = absurd (true≢false (sym e))

  over_class : (u : Text) (k : Kind) → is_below (named p) (ClassKind u) k ≡ true → is_over k ≡ true
  over_class u Undefined e = refl
  over_class u Null e = refl
  over_class u (ClassKind s) e = refl
  over_class u (Array s) e = refl
  over_class u Reference e = refl
  over_class u k e = absurd (true≢false (sym e))

  over_array : (u : Text) (k : Kind) → is_below (named p) (Array u) k ≡ true → is_over k ≡ true
  over_array u Undefined e = refl
  over_array u Null e = refl
  over_array u (ClassKind s) e = refl
  over_array u (Array s) e = refl
  over_array u Reference e = refl
  over_array u k e = absurd (true≢false (sym e))

  over_fresh : (u : Text) (n : ℕ) (k : Kind) → is_below (named p) (Fresh u n) k ≡ true → Below t (numbered p (Fresh u n)) (numbered p k)
  over_fresh u n Undefined e = refl
  over_fresh u n (Fresh s m) e = subst (λ a. Below t (numbered p a) (numbered p (Fresh s m))) (sym (under_fresh (Fresh u n) s m e)) (below_itself t (numbered p (Fresh s m)))
  over_fresh u n k e = absurd (true≢false (sym e))

  -- ---- the order

  abbrev Under : Kind → Kind → Type 0
  Under a b = Below t (numbered p a) (numbered p b)

  over : (a b : Kind) (y : number.Kind) → is_numbered p y ≡ true → kind_named p y ≡ b → numbered p b ≡ y → Sense p a → is_below (named p) a b ≡ true → Under a b
  over a b y ey ny my (known x ex nx mx) h = subst (λ z. Below t z (numbered p b)) (sym mx) (subst (Below t x) (sym my)
      (below_numbered p t d x y ex ey (subst (λ z. is_below (named p) z (kind_named p y) ≡ true) (sym nx) (subst (λ z. is_below (named p) a z ≡ true) (sym ny) h))))
  over a b y ey ny my (no_class u k e) h = subst (λ z. Below t z (numbered p b)) (sym (ap (numbered p) k ∙ ap (λ o. or_null (option_map kind.Program o)) e))
      (null_under b (over_class u b (subst (λ z. is_below (named p) z b ≡ true) k h)))
  over a b y ey ny my (no_array u k e) h = subst (λ z. Below t z (numbered p b)) (sym (ap (numbered p) k ∙ ap or_null e))
      (null_under b (over_array u b (subst (λ z. is_below (named p) z b ≡ true) k h)))
  over a b y ey ny my (no_type u n k e) h = subst (λ z. Below t (numbered p z) (numbered p b)) (sym k) (over_fresh u n b (subst (λ z. is_below (named p) z b ≡ true) k h))

  -- a kind at or below another one by name is so by number
  pub below_number : (a b : Kind) → is_below (named p) a b ≡ true → Under a b
  below_number a b h = by (sense b)
    where
      at : (z : Kind) → b ≡ z → is_below (named p) a z ≡ true
      at z k = subst (λ z. is_below (named p) a z ≡ true) k h

      by : Sense p b → Under a b
      by (known y ey ny my) = over a b y ey ny my (sense a) h
      by (no_class u k e) = subst (Below t (numbered p a)) (sym (ap (numbered p) k ∙ ap (λ o. or_null (option_map kind.Program o)) e)) (under_class a u e (at (ClassKind u) k))
      by (no_array u k e) = subst (Below t (numbered p a)) (sym (ap (numbered p) k ∙ ap or_null e)) (under_array a u e (at (Array u) k))
      by (no_type u n k e) = subst (λ z. Below t (numbered p z) (numbered p b)) (sym (under_fresh a u n (at (Fresh u n) k) ∙ sym k)) (below_itself t (numbered p b))
