-- The texts that the numbers of a run stand for.
use Rattle.std.specs.Prelude.{◌≡◌, ℕ, ◌<◌, ◌^◌, false, List, [], ◌∷◌, ◌++◌, map, length, replicate, Some, nat_eq, cond, slice_get, slice_index_or, codes}
use Rattle.indexmap.specs.IndexSet.{insert_key}
use Rattle.dalvik_defs.specs.Names.{Text, text_eq, is_array, object_type, string_type, class_type, throwable_type, error_type}
use Rattle.dalvik_defs.specs.Known as known
use Rattle.dalvik_defs.specs.Naming.{type_at, text_at}
use Rattle.dalvik_lookups.specs.declared.types.Kind.{Kind}
use Rattle.dalvik_lookups.specs.declared.types.Sort.{Sort}
use Rattle.dalvik_lookups.specs.declared.types.Sort.TheVariants as sort
use Rattle.dalvik_lookups.specs.declared.types.Types.{Types}
use Rattle.dalvik_lookups.specs.declared.texts.Texts.{Texts}
use Rattle.dalvik_lookups.specs.declared.lookups.Lookups.{Lookups}

-- the entry of a list of texts, none past its end
abbrev pub text_in : List Text → ℕ → Text
text_in ts n = slice_index_or ts n []

-- each text stands once
pub record StandOnce (ts : List Text) : Type 0 where
  pub once : (i j : ℕ) (x : Text) → slice_get ts i ≡ Some x → slice_get ts j ≡ Some x → i ≡ j

-- the entries of a list stand at the same places in another one
pub record Stays (ts us : List Text) : Type 0 where
  pub stays : (i : ℕ) (x : Text) → slice_get ts i ≡ Some x → slice_get us i ≡ Some x

-- the texts behind some others, where one that stands there already stays where it is
abbrev pub insert_text : List Text → Text → List Text
insert_text = insert_key text_eq

-- ---- types

-- the descriptors of a table
abbrev pub names_of : Types → List Text
names_of t = map (λ u. u.now) t.names.keys

-- the descriptor with a number
abbrev pub name_at : Types → ℕ → Text
name_at t n = text_in (names_of t) n

-- the descriptor of a type
abbrev pub type_text : Types → Kind → Text
type_text t k = replicate k.depth 91 ++ name_at t k.base

-- what the first unit of a descriptor says
abbrev pub sort_of_unit : ℕ → Sort
sort_of_unit u =
    cond (nat_eq u 66) sort.Byte
    (cond (nat_eq u 67) sort.Char
    (cond (nat_eq u 68) sort.Wide
    (cond (nat_eq u 74) sort.Wide
    (cond (nat_eq u 70) sort.Word
    (cond (nat_eq u 73) sort.Word
    (cond (nat_eq u 76) sort.Class
    (cond (nat_eq u 83) sort.Short
    (cond (nat_eq u 86) sort.Void
    (cond (nat_eq u 90) sort.Boolean
    (cond (nat_eq u 91) sort.Array sort.Other))))))))))

abbrev pub sort_of : Text → Sort
sort_of [] = sort.Empty
sort_of (u ∷ us) = sort_of_unit u

-- the descriptors that the machine knows, by their numbers
abbrev pub known_names : List Text
known_names =
    object_type
    ∷ string_type
    ∷ class_type
    ∷ throwable_type
    ∷ known.exception_type
    ∷ error_type
    ∷ known.runtime_exception
    ∷ known.arithmetic_exception
    ∷ known.null_pointer
    ∷ known.bad_cast
    ∷ known.negative_size
    ∷ known.bad_store
    ∷ known.index_out_of_bounds
    ∷ known.bad_monitor
    ∷ known.out_of_bounds
    ∷ known.linkage_error
    ∷ known.initialiser_error
    ∷ known.no_class
    ∷ known.class_change
    ∷ known.abstract_method
    ∷ codes "I"
    ∷ []

-- each descriptor stands once, and has its sort
pub record AreKept (t : Types) : Type 0 where
  pub once : StandOnce (names_of t)
  pub sorts : t.sorts.items ≡ map sort_of (names_of t)

-- The known descriptors stand first. A descriptor may begin with a bracket where a row of the framework names it, but
-- not one that a type is made of (`IsKind`).
pub record AreTypes (t : Types) : Type 0 where
  pub kept : AreKept t
  pub known : Stays known_names (names_of t)

-- a type of the table: its descriptor without brackets stands there, and has none
pub record IsKind (t : Types) (k : Kind) : Type 0 where
  pub base : k.base < length (names_of t)
  pub bare : is_array (name_at t k.base) ≡ false

-- what adding a descriptor does: all others keep their numbers
pub record Added (old new : Types) (units : Text) (number : ℕ) : Type 0 where
  pub kept : AreKept new
  pub stays : Stays (names_of old) (names_of new)
  pub there : slice_get (names_of new) number ≡ Some units

-- what adding a type does
pub record AddedType (old new : Types) (units : Text) (k : Kind) : Type 0 where
  pub kept : AreKept new
  pub stays : Stays (names_of old) (names_of new)
  pub kind : IsKind new k
  pub text : type_text new k ≡ units
  pub deep : k.depth < 2 ^ 63

-- ---- texts

abbrev pub texts_of : Texts → List Text
texts_of x = map (λ u. u.now) x.numbers.keys

-- the text with a number
abbrev pub text_of : Texts → ℕ → Text
text_of x n = text_in (texts_of x) n

pub record AreTexts (x : Texts) : Type 0 where
  pub once : StandOnce (texts_of x)

-- what adding a text does
pub record AddedText (old new : Texts) (units : Text) (number : ℕ) : Type 0 where
  pub are : AreTexts new
  pub stays : Stays (texts_of old) (texts_of new)
  pub there : slice_get (texts_of new) number ≡ Some units

-- ---- what the numbers of a program name

-- the type of a type number, and the number of the text of a string number
abbrev pub kind_at : Lookups → ℕ → Kind
kind_at l n = slice_index_or l.kinds.items n (record { depth = 0; base = 0 })

abbrev pub string_at : Lookups → ℕ → ℕ
string_at l n = slice_index_or l.strings.items n 18446744073709551615

-- a number of a text
pub record IsText (x : Texts) (n : ℕ) (units : Text) : Type 0 where
  pub below : n < length (texts_of x)
  pub text : text_of x n ≡ units

-- a type of a descriptor
pub record IsType (t : Types) (k : Kind) (units : Text) : Type 0 where
  pub kind : IsKind t k
  pub text : type_text t k ≡ units

-- Each type number has the type of its descriptor, and each string number the number of its text. So two types of the
-- table are equal just where their descriptors are, and two numbers of texts just where the texts are.
pub record IsNamed (l : Lookups) : Type 0 where
  pub types : AreTypes l.types
  pub texts : AreTexts l.texts
  pub kinds : (n : ℕ) → n < length l.program.now.types → IsType l.types (kind_at l n) (type_at l.program.now n)
  pub strings : (n : ℕ) → n < length l.program.now.strings → IsText l.texts (string_at l n) (text_at l.program.now n)
