-- What stands in registers whose kinds meet a demand.
use Rattle.std.proofs.Common.{◌≡◌, ℕ, Bool, true, false, true≢false, List, [], ◌∷◌, Option, Some, None, ◌⊎◌, inl, inr, refl, sym, ap, ◌∙◌, subst}
use Rattle.std.specs.Prelude.{nat_eq, slice_get, is_some, if◌then◌else◌}
use Rattle.insn_set.specs.declared.ops.Item.{Item}
use Rattle.insn_set.specs.declared.ops.Item.TheVariants as item
use Rattle.dalvik_defs.specs.Names.{Text, is_array, is_wide, is_reference, is_class_type, item_of}
use Rattle.dalvik_defs.specs.Face.{face_of}
use Rattle.dalvik_defs.specs.Items.{item_of_type, small_item}
use Rattle.dalvik_defs.specs.State.{World, Thing, Instance, Items, thing_at, kind_of, kind_of_thing, is_null}
use Rattle.dalvik_defs.specs.Under.{defines, is_under}
use Rattle.dalvik_defs.specs.declared.names.FieldKey.{FieldKey}
use Rattle.dalvik_defs.specs.declared.state.Value.{Value}
use Rattle.dalvik_defs.specs.declared.state.Value.TheVariants.{Word, Low, High, Object, Literal, Class}
use Rattle.dalvik_defs.specs.declared.program.NamedProgram.{NamedProgram}
use Rattle.dalvik_defs.specs.declared.tables.Framework.{Framework}
use Rattle.pass_defs.specs.Kinds.{Kind, is_number, is_initialised, is_plain, kind_of_reference}
use Rattle.pass_defs.specs.Kinds as kind
use Rattle.pass_defs.specs.Demands.{item_eq, is_moved, is_array_where}
use Rattle.run_laws.specs.TypedStates.{IsObject, KindHolds, ItemOf, item_kind, ArrayFits, RefFits, TypedWorld}
use Rattle.run_laws.proofs.Settled.{IsSettled}
use Rattle.run_laws.proofs.Transitive.{under_transitive}
use Rattle.run_laws.proofs.Registers.{IsSingle}
use Rattle.run_laws.proofs.Sorts.{RefSort, AnArray, APlain, AnAny, ref_sort, class_alone, not_wide, not_word}
use Rattle.run_laws.proofs.Climbs.{or_cases, defined_below, plain_below, not_array_below, plain_defined}
use Rattle.run_laws.proofs.Arrays.{true_false, to_cond, cond_true, cond_false, under_fits}
use Rattle.run_laws.proofs.Orders.{ref_held, ref_fits}
use Rattle.run_laws.proofs.Worlds.{at_typed}

module _ (p : NamedProgram) (f : Framework) where
  -- ---- kinds that one register holds

  pub moved_single : (c : Text) (w : World) (k : Kind) → is_moved k ≡ true → IsSingle p f c w k
  moved_single c w kind.Undefined e = absurd (true≢false (sym e))
  moved_single c w kind.Low e = absurd (true≢false (sym e))
  moved_single c w kind.High e = absurd (true≢false (sym e))
  moved_single c w k e = λ r ks. refl

  pub initialised_single : (c : Text) (w : World) (k : Kind) → is_initialised k ≡ true → IsSingle p f c w k
  initialised_single c w kind.Zero e = λ r ks. refl
  initialised_single c w kind.Null e = λ r ks. refl
  initialised_single c w (kind.Class t) e = λ r ks. refl
  initialised_single c w (kind.Array t) e = λ r ks. refl
  initialised_single c w kind.Reference e = λ r ks. refl
  initialised_single c w k e = absurd (true≢false (sym e))

  pub number_single : (c : Text) (w : World) (k : Kind) → is_number k ≡ true → IsSingle p f c w k
  number_single c w kind.Zero e = λ r ks. refl
  number_single c w kind.Word e = λ r ks. refl
  number_single c w k e = absurd (true≢false (sym e))

  pub ref_single : (c : Text) (w : World) (t : Text) → IsSingle p f c w (kind_of_reference p t)
  ref_single c w t = by (ref_sort p t)
    where
      by : RefSort p t → IsSingle p f c w (kind_of_reference p t)
      by (AnArray a e) = subst (IsSingle p f c w) (sym e) (λ r ks. refl)
      by (APlain a b e) = subst (IsSingle p f c w) (sym e) (λ r ks. refl)
      by (AnAny a b e) = subst (IsSingle p f c w) (sym e) (λ r ks. refl)

-- ---- arrays

-- items of a type stand where items of another are read
abbrev pub ItemFits : NamedProgram → Framework → Text → Text → Type 0
ItemFits p f z t = (z ≡ t) ⊎ ((is_reference z ≡ true) × ((is_reference t ≡ true) × RefFits p f z t))

pub record ArrayThing (p : NamedProgram) (f : Framework) (w : World) (v : Value) (t : Text) : Type 0 where
  pub item : Text
  pub items : List Value
  pub at : thing_at w v ≡ Some (Items item items)
  pub fits : ItemFits p f item (item_of t)

module _ (p : NamedProgram) (f : Framework) (reg : IsSettled p) (w : World) (tw : TypedWorld p f w) where
  pub array_thing : (v : Value) (t : Text) → IsObject w v → ArrayFits p f (kind_of w v) t → ArrayThing p f w v t
  array_thing (Object n) t i h = by (slice_get w.heap n) refl i h
    where
      fit : (z t : Text) → ArrayFits p f (91 ∷ z) t → ItemFits p f z (item_of t)
      fit z [] h = absurd h
      fit z (y ∷ t) (a, (b, h)) = h

      instance : (c t : Text) → ArrayFits p f c t → is_array c ≡ true
      instance [] t h = absurd h
      instance (x ∷ c) [] h = absurd h
      instance (x ∷ c) (y ∷ t) h = h.0

      by : (o : Option Thing) → slice_get w.heap n ≡ o → is_some o ≡ true → ArrayFits p f (elim o as (λ o. Text) [ Some t ↦ kind_of_thing t | None ↦ [] ]) t → ArrayThing p f w (Object n) t
      by None e j k = absurd (true≢false (sym j))
      by (Some (Instance c fields)) e j k = true_false (instance c t k) (class_alone c (at_typed p f w (Object n) (Instance c fields) tw e).0).1
      by (Some (Items z vs)) e j k = record { item = z; items = vs; at = e; fits = fit z t k }
  array_thing (Literal s) [] i h = absurd h
  array_thing (Literal s) (y ∷ t) i h = absurd (true≢false (sym h.0))
  array_thing (Class s) [] i h = absurd h
  array_thing (Class s) (y ∷ t) i h = absurd (true≢false (sym h.0))
  array_thing (Word n) t i h = absurd i
  array_thing (Low n) t i h = absurd i
  array_thing (High n) t i h = absurd i

  pub demanded_array : (c : Text) (of : Text → Bool) (k : Kind) (v : Value) → is_array_where of k ≡ true → KindHolds p f c w k v → is_null v ≡ false → (t : Text) × ((k ≡ kind.Array t) × ((of (item_of t) ≡ true) × ArrayThing p f w v t))
  demanded_array c of kind.Zero v e h n = true_false (ap is_null h) n
  demanded_array c of kind.Null v e h n = true_false (ap is_null h) n
  demanded_array c of (kind.Array t) v e (inl z) n = true_false (ap is_null z) n
  demanded_array c of (kind.Array t) v e (inr h) n = (t, (refl, (e, array_thing v t h.0 h.1)))
  demanded_array c of k v e h n = absurd (true≢false (sym e))

  -- an object under a class that the program defines has fields
  pub instance_thing : (v : Value) (t : Text) → IsObject w v → defines p t ≡ true → (face_of p f).under (kind_of w v) t ≡ true → (c : Text) × ((fields : FieldKey → Option Value) × (thing_at w v ≡ Some (Instance c fields)))
  instance_thing (Object n) t i d h = by (slice_get w.heap n) refl i h
    where
      by : (o : Option Thing) → slice_get w.heap n ≡ o → is_some o ≡ true → is_under p f (elim o as (λ o. Text) [ Some t ↦ kind_of_thing t | None ↦ [] ]) t ≡ true → (c : Text) × ((fields : FieldKey → Option Value) × (slice_get w.heap n ≡ Some (Instance c fields)))
      by None e j k = absurd (true≢false (sym j))
      by (Some (Instance c fields)) e j k = (c, (fields, e))
      by (Some (Items z vs)) e j k = absurd (true≢false (not_array_below p f reg (91 ∷ z) t d k))
  instance_thing (Literal s) t i d h = true_false (defined_below p f reg (kind_of w (Literal s)) t refl d h) reg.texts
  instance_thing (Class s) t i d h = true_false (defined_below p f reg (kind_of w (Class s)) t refl d h) reg.classes
  instance_thing (Word n) t i d h = absurd i
  instance_thing (Low n) t i d h = absurd i
  instance_thing (High n) t i d h = absurd i

  -- ---- items that are read

  reference_class : (t : Text) → is_reference t ≡ true → is_array t ≡ false → is_class_type t ≡ true
  reference_class [] r a = absurd (true≢false (sym r))
  reference_class (u ∷ us) r a = by (or_cases (nat_eq u 76) (nat_eq u 91) r)
    where
      by : (nat_eq u 76 ≡ true) ⊎ (nat_eq u 91 ≡ true) → nat_eq u 76 ≡ true
      by (inl e) = e
      by (inr e) = true_false e a

  -- an object of the kind of a type is of that of each type that this is of
  pub fits_over : (u z t : Text) → is_reference z ≡ true → RefFits p f u z → RefFits p f z t → RefFits p f u t
  fits_over u z [] r g h = to_cond p f reg false (ArrayFits p f u []) (is_plain p [] ≡ true → is_under p f u [] ≡ true) (λ e. absurd (true≢false (sym e))) (λ e i. absurd (true≢false (sym (reg.regular.class_types [] (plain_defined p [] i)))))
  fits_over u z (y ∷ t) r g h = to_cond p f reg (nat_eq y 91) (ArrayFits p f u (y ∷ t)) (is_plain p (y ∷ t) ≡ true → is_under p f u (y ∷ t) ≡ true)
      (λ e. arrays u z g (cond_true p f reg (nat_eq y 91) (ArrayFits p f z (y ∷ t)) (is_plain p (y ∷ t) ≡ true → is_under p f z (y ∷ t) ≡ true) e h) (λ v w j a b. fits_over v w t j a b))
      (λ e i. plainly e i (cond_false p f reg (nat_eq y 91) (ArrayFits p f z (y ∷ t)) (is_plain p (y ∷ t) ≡ true → is_under p f z (y ∷ t) ≡ true) e h i))
    where
      arrays : (u z : Text) → RefFits p f u z → ArrayFits p f z (y ∷ t) → ((v w : Text) → is_reference w ≡ true → RefFits p f v w → RefFits p f w t → RefFits p f v t) → ArrayFits p f u (y ∷ t)
      arrays u [] g h more = absurd h
      arrays u (x ∷ z) g (a, (b, h)) more = inner u (cond_true p f reg (nat_eq x 91) (ArrayFits p f u (x ∷ z)) (is_plain p (x ∷ z) ≡ true → is_under p f u (x ∷ z) ≡ true) a g) h
        where
          inner : (u : Text) → ArrayFits p f u (x ∷ z) → ItemFits p f z t → ArrayFits p f u (y ∷ t)
          inner [] k l = absurd k
          inner (v ∷ u) (c, (d, inl k)) l = (c, (b, subst (λ q. ItemFits p f q t) (sym k) l))
          inner (v ∷ u) (c, (d, inr k)) (inl l) = (c, (b, subst (λ q. ItemFits p f u q) l (inr k)))
          inner (v ∷ u) (c, (d, inr k)) (inr l) = (c, (b, inr (k.0, (l.1.0, more u z l.0 k.1.1 l.1.1))))

      plainly : nat_eq y 91 ≡ false → is_plain p (y ∷ t) ≡ true → is_under p f z (y ∷ t) ≡ true → is_under p f u (y ∷ t) ≡ true
      plainly e i j = let a = not_array_below p f reg z (y ∷ t) (plain_defined p (y ∷ t) i) j in
          under_transitive p f reg.objects u z (y ∷ t) (cond_false p f reg (is_array z) (ArrayFits p f u z) (is_plain p z ≡ true → is_under p f u z ≡ true) a g (plain_below p f reg z (y ∷ t) (reference_class z r a) i j)) j

  -- ---- items that are read

  pub data ItemSort (t : Text) (i : Item) : Type 0 where
    AWide : is_wide t ≡ true → i ≡ item.Wide → ItemSort t i
    AReference : is_wide t ≡ false → is_reference t ≡ true → i ≡ item.Object → ItemSort t i
    ANumber : is_wide t ≡ false → is_reference t ≡ false → item_eq i item.Wide ≡ false → item_eq i item.Object ≡ false → ItemSort t i

  small_number : (u : ℕ) → (item_eq (small_item u) item.Wide ≡ false) × (item_eq (small_item u) item.Object ≡ false)
  small_number u = by (nat_eq u 90) (nat_eq u 66) (nat_eq u 67) (nat_eq u 83)
    where
      by : (a b c d : Bool) → (item_eq (if a then item.Boolean else if b then item.Byte else if c then item.Char else if d then item.Short else item.Plain) item.Wide ≡ false)
          × (item_eq (if a then item.Boolean else if b then item.Byte else if c then item.Char else if d then item.Short else item.Plain) item.Object ≡ false)
      by true b c d = (refl, refl)
      by false true c d = (refl, refl)
      by false false true d = (refl, refl)
      by false false false true = (refl, refl)
      by false false false false = (refl, refl)

  pub item_sort : (t : Text) → ItemSort t (item_of_type t)
  item_sort [] = ANumber refl refl refl refl
  item_sort (u ∷ us) = by (is_wide (u ∷ us)) (is_reference (u ∷ us)) refl refl
    where
      by : (a b : Bool) → is_wide (u ∷ us) ≡ a → is_reference (u ∷ us) ≡ b → ItemSort (u ∷ us) (if a then item.Wide else if b then item.Object else small_item u)
      by true b i j = AWide i refl
      by false true i j = AReference i j refl
      by false false i j = ANumber i j (small_number u).0 (small_number u).1

  wide_item : (z : Text) → is_wide z ≡ true → item_kind p z ≡ kind.Low
  wide_item z e = ap (λ b. if b then kind.Low else if is_reference z then kind_of_reference p z else kind.Word) e

  ref_item : (z : Text) → is_wide z ≡ false → is_reference z ≡ true → item_kind p z ≡ kind_of_reference p z
  ref_item z e i = ap (λ b. if b then kind.Low else if is_reference z then kind_of_reference p z else kind.Word) e ∙ ap (λ b. if b then kind_of_reference p z else kind.Word) i

  number_item : (z : Text) → is_wide z ≡ false → is_reference z ≡ false → item_kind p z ≡ kind.Word
  number_item z e i = ap (λ b. if b then kind.Low else if is_reference z then kind_of_reference p z else kind.Word) e ∙ ap (λ b. if b then kind_of_reference p z else kind.Word) i

  pub ref_kind : (t : Text) → is_reference t ≡ true → kind.kind_of p t ≡ kind_of_reference p t
  ref_kind t e = ap (λ x. if x then kind.Word else if is_wide t then kind.Low else if is_reference t then kind_of_reference p t else kind.Undefined) (not_word t e)
      ∙ (ap (λ x. if x then kind.Low else if is_reference t then kind_of_reference p t else kind.Undefined) (not_wide t e)
      ∙ ap (λ x. if x then kind_of_reference p t else kind.Undefined) e)

  eq_of : (i j : Item) → i ≡ j → (k : Item) → item_eq j k ≡ true → item_eq i k ≡ true
  eq_of i j e k h = subst (λ x. item_eq x k ≡ true) (sym e) h

  -- by the item that an instruction names
  pub reads_wide : (z t : Text) (v : Value) → item_eq (item_of_type t) item.Wide ≡ true → ItemFits p f z t → ItemOf p f w z v → (n : ℕ) × (v ≡ Low n)
  reads_wide z t v e g h = by (item_sort t) g
    where
      by : ItemSort t (item_of_type t) → ItemFits p f z t → (n : ℕ) × (v ≡ Low n)
      by (AWide a i) (inl j) = subst (λ k. KindHolds p f [] w k v) (wide_item z (subst (λ x. is_wide x ≡ true) (sym j) a)) (h [])
      by (AWide a i) (inr j) = true_false a (not_wide t j.1.0)
      by (AReference a b i) j = absurd (true≢false (sym e ∙ ap (λ x. item_eq x item.Wide) i))
      by (ANumber a b i l) j = true_false e i

  pub reads_number : (z t : Text) (i : Item) (v : Value) → item_eq (item_of_type t) i ≡ true → item_eq item.Wide i ≡ false → item_eq item.Object i ≡ false → ItemFits p f z t → ItemOf p f w z v → (n : ℕ) × (v ≡ Word n)
  reads_number z t i v e no_wide no_object g h = by (item_sort t) g
    where
      by : ItemSort t (item_of_type t) → ItemFits p f z t → (n : ℕ) × (v ≡ Word n)
      by (AWide a k) j = true_false (subst (λ x. item_eq x i ≡ true) k e) no_wide
      by (AReference a b k) j = true_false (subst (λ x. item_eq x i ≡ true) k e) no_object
      by (ANumber a b k l) (inl j) = subst (λ k. KindHolds p f [] w k v) (number_item z (subst (λ x. is_wide x ≡ false) (sym j) a) (subst (λ x. is_reference x ≡ false) (sym j) b)) (h [])
      by (ANumber a b k l) (inr j) = true_false j.1.0 b

  pub reads_object : (c : Text) (z t : Text) (v : Value) → item_eq (item_of_type t) item.Object ≡ true → ItemFits p f z t → ItemOf p f w z v → KindHolds p f c w (kind.kind_of p t) v
  reads_object c z t v e g h = by (item_sort t) g
    where
      by : ItemSort t (item_of_type t) → ItemFits p f z t → KindHolds p f c w (kind.kind_of p t) v
      by (AWide a k) j = absurd (true≢false (sym e ∙ ap (λ x. item_eq x item.Object) k))
      by (ANumber a b k l) j = true_false e l
      by (AReference a b k) (inl j) = subst (λ k. KindHolds p f c w k v) (ap (item_kind p) j ∙ (ref_item t a b ∙ sym (ref_kind t b))) (h c)
      by (AReference a b k) (inr j) = subst (λ k. KindHolds p f c w k v) (sym (ref_kind t b)) (over (ref_fits p f reg c w z v (subst (λ k. KindHolds p f c w k v) (ref_item z (not_wide z j.0) j.0) (h c))))
        where
          over : (v ≡ Word 0) ⊎ (IsObject w v × RefFits p f (kind_of w v) z) → KindHolds p f c w (kind_of_reference p t) v
          over (inl n) = null (ref_sort p t)
            where
              null : RefSort p t → KindHolds p f c w (kind_of_reference p t) v
              null (AnArray a e) = subst (λ k. KindHolds p f c w k v) (sym e) (inl n)
              null (APlain a b e) = subst (λ k. KindHolds p f c w k v) (sym e) (inl n)
              null (AnAny a b e) = subst (λ k. KindHolds p f c w k v) (sym e) (inl n)
          over (inr n) = ref_held p f reg c w t v n.0 (fits_over (kind_of w v) z t j.0 n.1 j.1.1)

  -- ---- items that are written: of the type of the array
  pub stores_wide : (z t : Text) (n : ℕ) → item_eq (item_of_type t) item.Wide ≡ true → ItemFits p f z t → ItemOf p f w z (Low n)
  stores_wide z t n e g c = by (item_sort t) g
    where
      by : ItemSort t (item_of_type t) → ItemFits p f z t → KindHolds p f c w (item_kind p z) (Low n)
      by (AWide a i) (inl j) = subst (λ k. KindHolds p f c w k (Low n)) (sym (wide_item z (subst (λ x. is_wide x ≡ true) (sym j) a))) (n, refl)
      by (AWide a i) (inr j) = true_false a (not_wide t j.1.0)
      by (AReference a b i) j = absurd (true≢false (sym e ∙ ap (λ x. item_eq x item.Wide) i))
      by (ANumber a b i l) j = true_false e i

  pub stores_number : (z t : Text) (i : Item) (n : ℕ) → item_eq (item_of_type t) i ≡ true → item_eq item.Wide i ≡ false → item_eq item.Object i ≡ false → ItemFits p f z t → ItemOf p f w z (Word n)
  stores_number z t i n e no_wide no_object g c = by (item_sort t) g
    where
      by : ItemSort t (item_of_type t) → ItemFits p f z t → KindHolds p f c w (item_kind p z) (Word n)
      by (AWide a k) j = true_false (subst (λ x. item_eq x i ≡ true) k e) no_wide
      by (AReference a b k) j = true_false (subst (λ x. item_eq x i ≡ true) k e) no_object
      by (ANumber a b k l) (inl j) = subst (λ k. KindHolds p f c w k (Word n)) (sym (number_item z (subst (λ x. is_wide x ≡ false) (sym j) a) (subst (λ x. is_reference x ≡ false) (sym j) b))) (n, refl)
      by (ANumber a b k l) (inr j) = true_false j.1.0 b

  -- an object is stored where it is null or under the item type
  pub stores_object : (z t : Text) (v : Value) → item_eq (item_of_type t) item.Object ≡ true → ItemFits p f z t → (v ≡ Word 0) ⊎ (IsObject w v × (is_under p f (kind_of w v) z ≡ true)) → ItemOf p f w z v
  stores_object z t v e g h c = by (item_sort t) g
    where
      held : is_reference z ≡ true → KindHolds p f c w (item_kind p z) v
      held r = subst (λ k. KindHolds p f c w k v) (sym (ref_item z (not_wide z r) r)) (one h)
        where
          one : (v ≡ Word 0) ⊎ (IsObject w v × (is_under p f (kind_of w v) z ≡ true)) → KindHolds p f c w (kind_of_reference p z) v
          one (inr n) = ref_held p f reg c w z v n.0 (under_fits p f reg (kind_of w v) z n.1)
          one (inl n) = null (ref_sort p z)
            where
              null : RefSort p z → KindHolds p f c w (kind_of_reference p z) v
              null (AnArray a e) = subst (λ k. KindHolds p f c w k v) (sym e) (inl n)
              null (APlain a b e) = subst (λ k. KindHolds p f c w k v) (sym e) (inl n)
              null (AnAny a b e) = subst (λ k. KindHolds p f c w k v) (sym e) (inl n)

      by : ItemSort t (item_of_type t) → ItemFits p f z t → KindHolds p f c w (item_kind p z) v
      by (AWide a k) j = absurd (true≢false (sym e ∙ ap (λ x. item_eq x item.Object) k))
      by (ANumber a b k l) j = true_false e l
      by (AReference a b k) (inl j) = held (subst (λ x. is_reference x ≡ true) (sym j) b)
      by (AReference a b k) (inr j) = held j.0
