-- First values of the written program name what those of the program name.
use Rattle.std.proofs.Common.{◌≡◌, ℕ, List, [], ◌∷◌, refl, sym, ap, subst, ◌∙◌, map}
use Rattle.std.specs.List.{AllByRecursion}
use Rattle.dex_pools.specs.declared.interner.Interner.{Interner}
use Rattle.dex_pools.specs.declared.used.Named.{Named}
use Rattle.dex_pools.specs.declared.used.Named.TheVariants as named
use Rattle.dex_pools.specs.Used.{names_of_value, names_of_element, names_of_note, value_names}
use Rattle.dex_pools.specs.Numbering.{used_in}
use Rattle.program_model.specs.declared.program.Program.{Program}
use Rattle.program_model.specs.declared.value.EncValue.{EncValue, EncValue-F, fold-EncValue, fold-roll-EncValue, roll-EncValue}
use Rattle.program_model.specs.declared.value.EncValue.TheOpen as layer
use Rattle.program_model.specs.declared.value.EncValue.TheVariants as variant
use Rattle.program_model.specs.declared.value.EncValue.TheFolds as folds
use Rattle.program_model.specs.declared.value.Element.{Element, fold-Element}
use Rattle.program_model.specs.declared.value.Note.{Note, fold-Note}
use Rattle.dalvik_defs.specs.declared.encoded.NamedValue.{NamedValue}
use Rattle.dalvik_defs.specs.declared.encoded.NamedValue.TheVariants as value
use Rattle.dalvik_defs.specs.declared.encoded.NamedElement.{NamedElement}
use Rattle.dalvik_defs.specs.declared.encoded.NamedNote.{NamedNote}
use Rattle.dalvik_defs.specs.Naming.{value_layer, element_layer, note_layer, value_of, note_of, text_at, type_at, field_at, method_at}
use Rattle.dex_defs.specs.Written.{new_string, new_type, new_field, new_method, new_layer, new_element, new_note, new_value}
use Rattle.write_laws.specs.Used.{IsUsed}
use Rattle.write_laws.specs.Carried.{KeepsTexts}
use Rattle.write_laws.specs.Members.{IsPlain}

module _ (p : Program) (i : Interner) (q : Program) (keeps : KeepsTexts p i q) where
  abbrev AllUsed : List Named → Type 0
  AllUsed ns = AllByRecursion (IsUsed (used_in p)) ns

  -- what one layer becomes and is named
  same : (x y : EncValue-F EncValue Element Note) (v : NamedValue) → new_value i.numbers (roll-EncValue x) ≡ roll-EncValue y → value_of q (roll-EncValue y) ≡ v → value_of p (roll-EncValue x) ≡ v → value_of q (new_value i.numbers (roll-EncValue x)) ≡ value_of p (roll-EncValue x)
  same x y v a b c = ap (value_of q) a ∙ (b ∙ sym c)

  -- a layer with what the values, elements and annotations in it become
  abbrev written_in : EncValue-F EncValue Element Note → EncValue-F EncValue Element Note
  written_in x = folds.map-EncValue EncValue Element Note EncValue Element Note (new_value i.numbers) (λ e. fold-Element EncValue Element Note (new_layer i.numbers) (new_element i.numbers) (new_note i.numbers) e) (λ n. fold-Note EncValue Element Note (new_layer i.numbers) (new_element i.numbers) (new_note i.numbers) n) x

  abbrev named_in : Program → EncValue-F EncValue Element Note → EncValue-F NamedValue NamedElement NamedNote
  named_in o x = folds.map-EncValue EncValue Element Note NamedValue NamedElement NamedNote (value_of o) (λ e. fold-Element NamedValue NamedElement NamedNote (value_layer o) (element_layer o) (note_layer o) e) (note_of o) x

  news : (x : EncValue-F EncValue Element Note) → new_value i.numbers (roll-EncValue x) ≡ new_layer i.numbers (written_in x)
  news x = fold-roll-EncValue EncValue Element Note (new_layer i.numbers) (new_element i.numbers) (new_note i.numbers) x

  by : (o : Program) (x : EncValue-F EncValue Element Note) → value_of o (roll-EncValue x) ≡ value_layer o (named_in o x)
  by o x = fold-roll-EncValue NamedValue NamedElement NamedNote (value_layer o) (element_layer o) (note_layer o) x

  -- a layer with what those in it name
  abbrev names_in : EncValue-F EncValue Element Note → EncValue-F (List Named) (List Named) (List Named)
  names_in x = folds.map-EncValue EncValue Element Note (List Named) (List Named) (List Named) (λ v. fold-EncValue (List Named) (List Named) (List Named) names_of_value names_of_element names_of_note v) (λ e. fold-Element (List Named) (List Named) (List Named) names_of_value names_of_element names_of_note e) (λ n. fold-Note (List Named) (List Named) (List Named) names_of_value names_of_element names_of_note n) x

  names_are : (x : EncValue-F EncValue Element Note) → value_names (roll-EncValue x) ≡ names_of_value (names_in x)
  unfolding value_names
  names_are x = fold-roll-EncValue (List Named) (List Named) (List Named) names_of_value names_of_element names_of_note x

  one_used : (x : EncValue-F EncValue Element Note) (ns : List Named) → names_of_value (names_in x) ≡ ns → AllUsed (value_names (roll-EncValue x)) → AllUsed ns
  one_used x ns e h = subst (λ l. AllUsed l) (names_are x ∙ e) h

  pub plain_kept : (x : EncValue-F EncValue Element Note) → IsPlain x → AllUsed (value_names (roll-EncValue x)) → value_of q (new_value i.numbers (roll-EncValue x)) ≡ value_of p (roll-EncValue x)
  plain_kept (layer.Byte z) g h = same (layer.Byte z) (layer.Byte z) (value.Byte z) (news (layer.Byte z) ∙ sym (variant.rolls-Byte z)) (by q (layer.Byte z)) (by p (layer.Byte z))
  plain_kept (layer.Short z) g h = same (layer.Short z) (layer.Short z) (value.Short z) (news (layer.Short z) ∙ sym (variant.rolls-Short z)) (by q (layer.Short z)) (by p (layer.Short z))
  plain_kept (layer.Char n) g h = same (layer.Char n) (layer.Char n) (value.Char n) (news (layer.Char n) ∙ sym (variant.rolls-Char n)) (by q (layer.Char n)) (by p (layer.Char n))
  plain_kept (layer.Int z) g h = same (layer.Int z) (layer.Int z) (value.Int z) (news (layer.Int z) ∙ sym (variant.rolls-Int z)) (by q (layer.Int z)) (by p (layer.Int z))
  plain_kept (layer.Long z) g h = same (layer.Long z) (layer.Long z) (value.Long z) (news (layer.Long z) ∙ sym (variant.rolls-Long z)) (by q (layer.Long z)) (by p (layer.Long z))
  plain_kept (layer.Float n) g h = same (layer.Float n) (layer.Float n) (value.Float n) (news (layer.Float n) ∙ sym (variant.rolls-Float n)) (by q (layer.Float n)) (by p (layer.Float n))
  plain_kept (layer.Double n) g h = same (layer.Double n) (layer.Double n) (value.Double n) (news (layer.Double n) ∙ sym (variant.rolls-Double n)) (by q (layer.Double n)) (by p (layer.Double n))
  plain_kept (layer.Str n) g h = let m : ℕ = new_string i.numbers n in same (layer.Str n) (layer.Str m) (value.Str (text_at p n)) (news (layer.Str n) ∙ sym (variant.rolls-Str m)) (by q (layer.Str m) ∙ ap (λ t. value.Str t) (keeps.strings n (one_used (layer.Str n) (named.Text n ∷ []) refl h).0)) (by p (layer.Str n))
  plain_kept (layer.Class n) g h = let m : ℕ = new_type i.numbers n in same (layer.Class n) (layer.Class m) (value.Class (type_at p n)) (news (layer.Class n) ∙ sym (variant.rolls-Class m)) (by q (layer.Class m) ∙ ap (λ t. value.Class t) (keeps.types n (one_used (layer.Class n) (named.Kind n ∷ []) refl h).0)) (by p (layer.Class n))
  plain_kept (layer.Field n) g h = let m : ℕ = new_field i.numbers n in same (layer.Field n) (layer.Field m) (value.Field (field_at p n)) (news (layer.Field n) ∙ sym (variant.rolls-Field m)) (by q (layer.Field m) ∙ ap (λ k. value.Field k) (keeps.fields n (one_used (layer.Field n) (named.Field n ∷ []) refl h).0)) (by p (layer.Field n))
  plain_kept (layer.Method n) g h = let m : ℕ = new_method i.numbers n in same (layer.Method n) (layer.Method m) (value.Method (method_at p n)) (news (layer.Method n) ∙ sym (variant.rolls-Method m)) (by q (layer.Method m) ∙ ap (λ k. value.Method k) (keeps.methods n (one_used (layer.Method n) (named.Method n ∷ []) refl h).0)) (by p (layer.Method n))
  plain_kept (layer.Enum n) g h = let m : ℕ = new_field i.numbers n in same (layer.Enum n) (layer.Enum m) (value.Enum (field_at p n)) (news (layer.Enum n) ∙ sym (variant.rolls-Enum m)) (by q (layer.Enum m) ∙ ap (λ k. value.Enum k) (keeps.fields n (one_used (layer.Enum n) (named.Field n ∷ []) refl h).0)) (by p (layer.Enum n))
  plain_kept (layer.Array values) g h = absurd g
  plain_kept (layer.Annotation note) g h = absurd g
  plain_kept layer.Null g h = same layer.Null layer.Null value.Null (news layer.Null ∙ sym variant.rolls-Null) (by q layer.Null) (by p layer.Null)
  plain_kept (layer.Bool b) g h = same (layer.Bool b) (layer.Bool b) (value.Bool b) (news (layer.Bool b) ∙ sym (variant.rolls-Bool b)) (by q (layer.Bool b)) (by p (layer.Bool b))
