-- What items hold, by numbers and by names.
use Rattle.std.proofs.Common.{◌≡◌, ℕ, zero, suc, ◌%◌, ◌^◌, ◌≤◌, Bool, true, false, List, [], ◌∷◌, ◌++◌, length, nat_eq, arith, ap, refl, sym, ◌∙◌}
use Rattle.std.specs.Prelude.{◌||◌, map, replicate, if◌then◌else◌}
use Rattle.std.specs.Int.{w8, w16, w32, cast_signed, cast_unsigned}
use Rattle.insn_set.specs.declared.ops.Item.{Item}
use Rattle.insn_set.specs.declared.ops.Item.TheVariants as item
use Rattle.dalvik_defs.specs.Arith.{low_signed}
use Rattle.dalvik_defs.specs.Items.{stored, filled, fill, item_of_type, small_item}
use Rattle.dalvik_defs.specs.Names.{Text, is_wide, is_reference}
use Rattle.dalvik_defs.specs.State.{word_of, zero_of}
use Rattle.dalvik_defs.specs.declared.state.Value.{Value}
use Rattle.dalvik_defs.specs.declared.state.Value.TheVariants.{Word, Low}
use Rattle.dalvik_state.specs.declared.datum.Datum.{Datum}
use Rattle.dalvik_state.specs.declared.datum.Datum.TheVariants as datum
use Rattle.dalvik_state.specs.Frames.{fill_in, filled_in, number_in, stored_in, zero_in}
use Rattle.dalvik_state.specs.Views.{Names, value_of, values_of}
use Rattle.dalvik_state.proofs.Named.{number_named}

cut_eight : (x : ℕ) → x % 2 ^ 32 % 2 ^ 8 ≡ x % 2 ^ 8
cut_eight x = omega arith

cut_sixteen : (x : ℕ) → x % 2 ^ 32 % 2 ^ 16 ≡ x % 2 ^ 16
cut_sixteen x = omega arith

module _ (n : Names) where
  -- what is stored
  pub stored_named : (i : Item) (d : Datum) → value_of n (stored_in i d) ≡ stored i (value_of n d)
  stored_named item.Plain d = refl
  stored_named item.Wide d = refl
  stored_named item.Object d = refl
  stored_named item.Boolean d = ap Word (cut_eight (number_in d) ∙ ap (λ (x : ℕ). x % 2 ^ 8) (sym (number_named n d)))
  stored_named item.Byte d = ap (λ (x : ℕ). Word (cast_unsigned w32 (cast_signed w8 x))) (cut_eight (number_in d) ∙ ap (λ (x : ℕ). x % 2 ^ 8) (sym (number_named n d)))
  stored_named item.Char d = ap Word (cut_sixteen (number_in d) ∙ ap (λ (x : ℕ). x % 2 ^ 16) (sym (number_named n d)))
  stored_named item.Short d = ap (λ (x : ℕ). Word (cast_unsigned w32 (cast_signed w16 x))) (cut_sixteen (number_in d) ∙ ap (λ (x : ℕ). x % 2 ^ 16) (sym (number_named n d)))

  -- ---- arrays that are filled

  abbrev IsFilled : ℕ → Item → Type 0
  IsFilled x i = value_of n (filled_in i x) ≡ stored i (Word (x % 2 ^ 32))

  small : (x : ℕ) (r z b c s : Bool) → IsFilled x (if r then item.Object else if z then item.Boolean else if b then item.Byte else if c then item.Char else if s then item.Short else item.Plain)
  small x true z b c s = refl
  small x false true b c s = stored_named item.Boolean (datum.Word (x % 2 ^ 32))
  small x false false true c s = stored_named item.Byte (datum.Word (x % 2 ^ 32))
  small x false false false true s = stored_named item.Char (datum.Word (x % 2 ^ 32))
  small x false false false false true = stored_named item.Short (datum.Word (x % 2 ^ 32))
  small x false false false false false = refl

  by_width : (x : ℕ) (i : Item) (w : Bool) → IsFilled x i → value_of n (filled_in (if w then item.Wide else i) x) ≡ elim w as (λ w. Value) [ true ↦ Low x | false ↦ stored (if w then item.Wide else i) (Word (x % 2 ^ 32)) ]
  by_width x i true h = refl
  by_width x i false h = h

  filled_named : (kind : Text) (x : ℕ) → value_of n (filled_in (item_of_type kind) x) ≡ filled kind x
  filled_named [] x = refl
  filled_named (u ∷ us) x = by_width x (if is_reference (u ∷ us) then item.Object else small_item u) (is_wide (u ∷ us)) (small x (is_reference (u ∷ us)) (nat_eq u 90) (nat_eq u 66) (nat_eq u 67) (nat_eq u 83))

  pub fill_named : (kind : Text) (xs : List ℕ) (ds : List Datum) → length xs ≤ length ds → values_of n (fill_in (item_of_type kind) xs ds) ≡ fill kind xs (values_of n ds)
  fill_named kind [] ds h = refl
  fill_named kind (x ∷ xs) [] h = absurd (omega arith)
  fill_named kind (x ∷ xs) (d ∷ ds) h = λ i. filled_named kind x i ∷ fill_named kind xs ds (omega arith) i

  -- ---- arrays of zeros

  zero_by : (w : Bool) → value_of n (zero_in w) ≡ elim w as (λ w. Value) [ true ↦ Low 0 | false ↦ Word 0 ]
  zero_by true = refl
  zero_by false = refl

  alike : (size : ℕ) (d : Datum) → values_of n (replicate size d) ≡ replicate size (value_of n d)
  alike zero d = refl
  alike (suc size) d = ap (λ (vs : List Value). value_of n d ∷ vs) (alike size d)

  pub zeros_named : (kind : Text) (size : ℕ) → values_of n (replicate size (zero_in (is_wide kind))) ≡ replicate size (zero_of kind)
  zeros_named kind size = alike size (zero_in (is_wide kind)) ∙ ap (replicate size) (zero_by (is_wide kind))
