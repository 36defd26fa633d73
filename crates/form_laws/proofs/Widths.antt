-- How wide the kinds are that forms write.
use Rattle.std.proofs.Common.{◌≡◌, ℕ, Bool, true, false, [], ◌∷◌, refl, sym, subst, inl, inr, eqb-true}
use Rattle.std.specs.Prelude.{◌⊎◌, ℤ, pos, ◌||◌, not, nat_eq, if◌then◌else◌}
use Rattle.std.specs.Ordering.{int_eq}
use Rattle.insn_set.specs.declared.ops.Item.{Item}
use Rattle.insn_set.specs.declared.ops.Item.TheVariants as item
use Rattle.insn_set.specs.Widths.{is_wide_item}
use Rattle.dalvik_defs.specs.Names.{Text, is_word, is_wide, is_reference, is_array, item_of}
use Rattle.dalvik_defs.specs.Items.{small_item, item_of_type}
use Rattle.dalvik_defs.specs.declared.program.NamedProgram.{NamedProgram}
use Rattle.pass_defs.specs.Kinds.{Kind, Undefined, Zero, Word, Low, High, Class, Array, Reference, kind_eq, is_plain, kind_of_reference, kind_of}
use Rattle.pass_defs.specs.Demands.{item_eq, is_array_where}
use Rattle.pass_defs.specs.Typed.{number_kind, constant_kind, got, wrong_item}
use Rattle.form_laws.specs.Changes.{width_if}
use Rattle.form_laws.proofs.Onward.{clash}
use Rattle.form_laws.proofs.Operands.{either}
use Rattle.form_laws.specs.Kinds.{is_whole}

-- a kind and how many registers it takes: the low half of a wide stands for both
abbrev pub Takes : Kind → ℕ → Type 0
Takes k w = ((kind_eq k Low ≡ false) × (w ≡ 1)) ⊎ ((k ≡ Low) × (w ≡ 2))

pub whole_takes : (k : Kind) → is_whole k ≡ true → Takes k 1
whole_takes Low e = clash false e refl
whole_takes k e = inl (refl, refl)

pub constant_takes : (z : ℤ) → Takes (constant_kind z) 1
constant_takes z = by (int_eq z (pos 0))
  where
    by : (b : Bool) → Takes (if b then Zero else Word) 1
    by true = inl (refl, refl)
    by false = inl (refl, refl)

pub number_takes : (b : Bool) → Takes (number_kind b) (width_if b)
number_takes true = inr (refl, refl)
number_takes false = inl (refl, refl)

module _ (p : NamedProgram) where
  pub reference_whole : (t : Text) → is_whole (kind_of_reference p t) ≡ true
  reference_whole t = by (is_array t) (is_plain p t)
    where
      by : (a b : Bool) → is_whole (if a then Array t else if b then Class t else Reference) ≡ true
      by true b = refl
      by false true = refl
      by false false = refl

  -- the kind of a type that isn't wide is no half
  pub narrow_kind : (t : Text) → is_wide t ≡ false → (kind_eq (kind_of p t) Low ≡ false) × (kind_eq (kind_of p t) High ≡ false)
  narrow_kind t e = by (is_word t) (is_wide t) (is_reference t) e
    where
      whole : (k : Kind) → is_whole k ≡ true → (kind_eq k Low ≡ false) × (kind_eq k High ≡ false)
      whole Low h = clash false h refl
      whole High h = clash false h refl
      whole k h = (refl, refl)

      by : (a b c : Bool) → b ≡ false → (kind_eq (if a then Word else if b then Low else if c then kind_of_reference p t else Undefined) Low ≡ false)
          × (kind_eq (if a then Word else if b then Low else if c then kind_of_reference p t else Undefined) High ≡ false)
      by true b c h = (refl, refl)
      by false true c h = clash true refl h
      by false false true h = whole (kind_of_reference p t) (reference_whole t)
      by false false false h = (refl, refl)

  wide_kind : (t : Text) → is_wide t ≡ true → kind_of p t ≡ Low
  wide_kind [] e = clash false e refl
  wide_kind (u ∷ us) e = either (nat_eq u 74) (nat_eq u 68) e
      (λ i. subst (λ x. kind_of p (x ∷ us) ≡ Low) (sym (eqb-true u 74 i)) refl)
      (λ i. subst (λ x. kind_of p (x ∷ us) ≡ Low) (sym (eqb-true u 68 i)) refl)

  pub type_takes : (t : Text) (b : Bool) → is_wide t ≡ b → Takes (kind_of p t) (width_if b)
  type_takes t true e = inr (wide_kind t e, refl)
  type_takes t false e = inl ((narrow_kind t e).0, refl)

  reference_narrow : (t : Text) → is_reference t ≡ true → is_wide t ≡ false
  reference_narrow [] e = refl
  reference_narrow (u ∷ us) e = either (nat_eq u 76) (nat_eq u 91) e
      (λ i. subst (λ x. is_wide (x ∷ us) ≡ false) (sym (eqb-true u 76 i)) refl)
      (λ i. subst (λ x. is_wide (x ∷ us) ≡ false) (sym (eqb-true u 91 i)) refl)

  not_false : (b : Bool) → not b ≡ false → b ≡ true
  not_false true e = refl
  not_false false e = clash true refl e

  neither : (a b : Bool) → (a || b) ≡ false → a ≡ false
  neither true b e = e
  neither false b e = refl

  -- an item of the right width
  pub item_width : (i : Item) (t : Text) → wrong_item i t ≡ false → is_wide t ≡ is_wide_item i
  item_width item.Wide t e = not_false (is_wide t) e
  item_width item.Object t e = reference_narrow t (not_false (is_reference t) e)
  item_width item.Plain t e = neither (is_wide t) (is_reference t) e
  item_width item.Boolean t e = neither (is_wide t) (is_reference t) e
  item_width item.Byte t e = neither (is_wide t) (is_reference t) e
  item_width item.Char t e = neither (is_wide t) (is_reference t) e
  item_width item.Short t e = neither (is_wide t) (is_reference t) e

  object_narrow : (t : Text) → item_eq (item_of_type t) item.Object ≡ true → is_wide t ≡ false
  object_narrow [] e = clash false e refl
  object_narrow (u ∷ us) e = by (is_wide (u ∷ us)) (is_reference (u ∷ us)) e
    where
      by : (a b : Bool) → item_eq (if a then item.Wide else if b then item.Object else small_item u) item.Object ≡ true → a ≡ false
      by true b h = clash false h refl
      by false b h = refl

  pub got_takes : (i : Item) (k : Kind) → is_array_where (λ t. item_eq (item_of_type t) i) k ≡ true → Takes (got p i k) (width_if (is_wide_item i))
  got_takes item.Object (Array t) e = inl ((narrow_kind (item_of t) (object_narrow (item_of t) e)).0, refl)
  got_takes item.Object k e = inl (refl, refl)
  got_takes item.Wide k e = inr (refl, refl)
  got_takes item.Plain k e = inl (refl, refl)
  got_takes item.Boolean k e = inl (refl, refl)
  got_takes item.Byte k e = inl (refl, refl)
  got_takes item.Char k e = inl (refl, refl)
  got_takes item.Short k e = inl (refl, refl)
