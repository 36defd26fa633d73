-- What the tables of a run name.
use Rattle.std.proofs.Common.{◌≡◌, ℕ, zero, suc, ◌<◌, true, false, true≢false, List, [], ◌∷◌, ◌++◌, length, replicate, arith, ap, refl, sym, subst, ◌∙◌}
use Rattle.std.specs.Prelude.{Option, Some, None, slice_get}
use Rattle.dalvik_defs.specs.Names.{Text, is_array, item_of}
use Rattle.dalvik_defs.specs.Naming.{text_at, type_at}
use Rattle.dalvik_defs.specs.Known.{arithmetic_exception, null_pointer, bad_cast, negative_size, bad_store, out_of_bounds, bad_monitor}
use Rattle.dalvik_defs.specs.declared.state.Value.{Value}
use Rattle.dalvik_defs.specs.declared.state.Value.TheVariants.{Literal, Class}
use Rattle.dalvik_lookups.specs.declared.lookups.Lookups.{Lookups}
use Rattle.dalvik_lookups.specs.declared.types.Kind.{Kind}
use Rattle.dalvik_lookups.specs.declared.types.Types.{Types}
use Rattle.dalvik_lookups.specs.Tables.{kind_in, string_in}
use Rattle.dalvik_lookups.specs.Views.{AreTexts, AreTypes, IsKind, IsNamed, IsType, name_at, names_of, texts_of, type_text}
use Rattle.dalvik_lookups.proofs.Interned.{entry_is, same_number}
use Rattle.dalvik_state.specs.declared.datum.Datum.{Datum}
use Rattle.dalvik_state.specs.declared.datum.Datum.TheVariants as datum
use Rattle.dalvik_state.specs.Views.{HasType, IsFine, Names, TellsApart, class_in, names_in, value_of}
use Rattle.dalvik_act.specs.Acting.{Knows}

module _ (l : Lookups) (are : AreTypes l.types) where
  known : (i : ℕ) (t : Text) → slice_get (names_of l.types) i ≡ Some t → name_at l.types i ≡ t
  known i t e = entry_is (names_of l.types) i t e

  -- the types that an instruction throws stand first
  pub knows_named : Knows (names_in l)
  knows_named = record {
    arithmetic = known 7 arithmetic_exception (are.known.stays 7 arithmetic_exception refl);
    null = known 8 null_pointer (are.known.stays 8 null_pointer refl);
    cast = known 9 bad_cast (are.known.stays 9 bad_cast refl);
    size = known 10 negative_size (are.known.stays 10 negative_size refl);
    store = known 11 bad_store (are.known.stays 11 bad_store refl);
    monitor = known 13 bad_monitor (are.known.stays 13 bad_monitor refl);
    bounds = known 14 out_of_bounds (are.known.stays 14 out_of_bounds refl);
  }

-- different texts have different numbers
pub apart_named : (l : Lookups) → AreTexts l.texts → TellsApart (names_in l)
apart_named l are = record { apart = λ i j h k e. same_number (texts_of l.texts) are.once i j h k e }

-- a constant string
pub string_named : (l : Lookups) → IsNamed l → (s : ℕ) → s < length l.program.now.strings → value_of (names_in l) (datum.Literal (string_in l.strings.items s)) ≡ Literal (text_at l.program.now s)
string_named l named s h = ap Literal (named.strings s h).text

-- a constant class
pub class_named : (l : Lookups) → IsNamed l → (k : ℕ) → HasType l.program.now k → value_of (names_in l) (class_in l k) ≡ Class (type_at l.program.now k)
class_named l named k has =
    ap (λ (o : Option ℕ). value_of (names_in l) (elim o as (λ o. Datum) [ Some t ↦ datum.Class (string_in l.strings.items t) | None ↦ datum.Word 0 ])) has.is
    ∙ ap Class ((named.strings has.text has.there).text ∙ sym (ap (λ (o : Option ℕ). elim o as (λ o. Text) [ Some t ↦ text_at l.program.now t | None ↦ [] ]) has.is))

-- an array type has items
pub deep : (t : Types) (k : Kind) → IsKind t k → is_array (type_text t k) ≡ true → 0 < k.depth
deep t k is h = by_depth k.depth refl
  where
    by_depth : (d : ℕ) → k.depth ≡ d → 0 < k.depth
    by_depth zero e = absurd (true≢false (sym h ∙ ap (λ (n : ℕ). is_array (replicate n 91 ++ name_at t k.base)) e ∙ is.bare))
    by_depth (suc d) e = omega (arith, e)

-- the item type of an array type of the program
pub item_named : (l : Lookups) → IsNamed l → (kind : ℕ) (k item : Kind) → kind < length l.program.now.types → is_array (type_at l.program.now kind) ≡ true → k ≡ kind_in l.kinds.items kind
    → (0 < k.depth → type_text l.types item ≡ item_of (type_text l.types k)) → type_text l.types item ≡ item_of (type_at l.program.now kind)
item_named l named kind k item h a e f =
    let is : IsType l.types k (type_at l.program.now kind) = subst (λ (x : Kind). IsType l.types x (type_at l.program.now kind)) (sym e) (named.kinds kind h) in
    f (deep l.types k is.kind (ap is_array is.text ∙ a)) ∙ ap item_of is.text

-- the class of a type number, whose descriptor is a text
pub class_fine : (l : Lookups) (size : ℕ) → IsNamed l → (k : ℕ) → HasType l.program.now k → IsFine (names_in l) size (class_in l k)
class_fine l size named k has =
    subst (λ (o : Option ℕ). IsFine (names_in l) size (elim o as (λ o. Datum) [ Some t ↦ datum.Class (string_in l.strings.items t) | None ↦ datum.Word 0 ])) (sym has.is) (named.strings has.text has.there).below
