-- What the types of a program are by their texts (Dalvik executable format, "TypeDescriptor").
use Rattle.std.specs.Prelude.{◌≡◌, ℕ, suc, ◌<◌, length, Bool, false, not, List, [], ◌∷◌, map, sum_by, min, Option, Some, None, nat_eq, cond, codes, position, slice_get, if◌then◌else◌}
use Rattle.std.specs.Option.{option_map}
use Rattle.std.specs.Cmp.Lexicographic.{pointwise}
use Rattle.std.specs.HashMap.{HashMap}
use Rattle.std.proofs.Common.{Bor}
use Rattle.indexmap.specs.IndexMap.{get_by}
use Rattle.insn_set.specs.declared.ops.Item.TheVariants as item
use Rattle.class_defs.specs.Members.{string_is}
use Rattle.program_model.specs.MemberRules.{has_flag, words_of}
use Rattle.program_model.specs.Texts.{string_text, type_text}
use Rattle.program_model.specs.Lookups.{class_place}
use Rattle.program_model.specs.declared.pools.MethodName.{MethodName}
use Rattle.program_model.specs.declared.pools.Proto.{Proto}
use Rattle.program_model.specs.declared.program.Class.{Class}
use Rattle.program_model.specs.declared.program.Program.{Program}
use Rattle.verify.specs.Flow.{greatest}
use Rattle.verify.specs.Shapes.{is_wide}
use Rattle.verify.specs.Types.{shape_in, shape_of, item_shape, item_of_class, proto_words, is_constructor}
use Rattle.verify.specs.declared.named.Named.{Named}
use Rattle.verify.specs.declared.shapes.Shape.{Shape}
use Rattle.verify.specs.declared.shapes.Shape.TheVariants.{Void, Int, Word, Wide, Class as ClassType, Array}
use Rattle.verify.specs.declared.tables.Tables.{Tables}

abbrev pub same_text : List ℕ → List ℕ → Bool
same_text = pointwise nat_eq

-- how many brackets a descriptor begins with, and what is behind them
abbrev pub brackets : List ℕ → ℕ
brackets [] = 0
brackets (u ∷ us) = cond (nat_eq u 91) (suc (brackets us)) 0

abbrev pub without_brackets : List ℕ → List ℕ
without_brackets [] = []
without_brackets (u ∷ us) = cond (nat_eq u 91) (without_brackets us) (u ∷ us)

-- what a descriptor without brackets is by its first unit, where a class may define it
abbrev pub shape_of_unit : ℕ → Option ℕ → Bool → Shape
shape_of_unit u place plain =
    cond (nat_eq u 66) (Word item.Byte)
    (cond (nat_eq u 67) (Word item.Char)
    (cond (nat_eq u 68) Wide
    (cond (nat_eq u 70) (Word item.Plain)
    (cond (nat_eq u 73) Int
    (cond (nat_eq u 74) Wide
    (cond (nat_eq u 76) (ClassType place plain)
    (cond (nat_eq u 83) (Word item.Short)
    (cond (nat_eq u 90) (Word item.Boolean) Void))))))))

abbrev pub shape_of_text : List ℕ → Option ℕ → Bool → Shape
shape_of_text [] place plain = Void
shape_of_text (u ∷ us) place plain = shape_of_unit u place plain

-- ---- by a program

-- a place as a number of 32 bits
abbrev pub short : ℕ → ℕ
short n = min n greatest

-- the place of the first that passes a test
abbrev pub first_number : {X : Type 0} → (X → Bool) → List X → Option ℕ
first_number test xs = option_map short (position test xs)

-- the class of this descriptor
abbrev pub is_class_of : Program → List ℕ → Class → Bool
is_class_of p t c = same_text (type_text p c.name) t

abbrev pub class_named : Program → List ℕ → Option ℕ
class_named p t = first_number (is_class_of p t) p.classes

-- a type that has this text behind its brackets, by its string
abbrev pub is_item_of : Program → List ℕ → ℕ → Bool
is_item_of p t string = same_text (without_brackets (string_text p string)) t

abbrev pub item_named : Program → List ℕ → Option ℕ
item_named p t = first_number (is_item_of p t) p.types

abbrev pub is_plain_class : Option Class → Bool
is_plain_class None = false
is_plain_class (Some c) = not (has_flag c.flags 512)

abbrev pub plain_at : Program → Option ℕ → Bool
plain_at p None = false
plain_at p (Some c) = is_plain_class (slice_get p.classes c)

-- a descriptor without brackets
abbrev pub base_shape : Program → List ℕ → Shape
base_shape p t = shape_of_text t (class_named p t) (plain_at p (class_named p t))

abbrev pub number_or : Option ℕ → ℕ
number_or None = greatest
number_or (Some n) = n

abbrev pub item_number : Program → List ℕ → ℕ
item_number p t = number_or (item_named p t)

-- a descriptor
abbrev pub shape_named : Program → List ℕ → Shape
shape_named p t = cond (nat_eq (brackets t) 0) (base_shape p (without_brackets t)) (Array (short (brackets t)) (item_number p (without_brackets t)))

abbrev pub object_text : List ℕ
object_text = codes "Ljava/lang/Object;"

-- how many registers a value of a type takes
abbrev pub width_in : List Shape → ℕ → ℕ
width_in shapes k = if is_wide (shape_in shapes k) then 2 else 1

-- ---- the tables

-- what a table of numbers by texts has for a text
abbrev pub number_of : {S : Type 0} → HashMap (Bor (List ℕ)) ℕ S → List ℕ → Option ℕ
number_of m t = get_by (λ u. same_text t u.now) m

-- the first class of each text, and the first type of each text behind brackets
pub record AreNamed (p : Program) (n : Named) : Type 0 where
  pub places : (t : List ℕ) → number_of n.places t ≡ class_named p t
  pub items : (t : List ℕ) → number_of n.items t ≡ item_named p t

-- what the tables say of the types, of the protos' parameters and of the methods' names is what the texts say
pub record AreTypesOf (p : Program) (t : Tables) : Type 0 where
  pub classes : t.classes.items ≡ map (λ c. c.name) p.classes
  pub shapes : t.shapes.items ≡ map (λ s. shape_named p (string_text p s)) p.types
  pub bases : t.bases.items ≡ map (λ s. base_shape p (without_brackets (string_text p s))) p.types
  pub items : t.items.items ≡ map (λ s. item_number p (without_brackets (string_text p s))) p.types
  pub object : t.object ≡ item_named p object_text
  pub words : t.words.items ≡ map (λ q. short (sum_by (words_of p) q.parameters)) p.protos
  pub constructors : t.constructors.items ≡ map (λ m. string_is p m.name (codes "<init>")) p.methods

-- what is looked up by number is what the texts say: what a type is, what an array's items are, the class of a type, the item of
-- arrays of a class, the registers of a proto's parameters, and the name of a method
pub record SaysTexts (p : Program) (t : Tables) : Type 0 where
  pub shape : (k : ℕ) → shape_of t k ≡ shape_named p (type_text p k)
  pub item : (k : ℕ) → k < length p.types → item_shape t (Some (item_number p (without_brackets (type_text p k)))) ≡ base_shape p (without_brackets (type_text p k))
  pub place : (k : ℕ) → k < length p.types → class_named p (type_text p k) ≡ class_place p k
  pub class : (c : ℕ) (k : Class) → slice_get p.classes c ≡ Some k → item_shape t (item_of_class t c) ≡ ClassType (Some c) (plain_at p (Some c))
  pub words : (n : ℕ) (q : Proto) → slice_get p.protos n ≡ Some q → proto_words t n ≡ short (sum_by (words_of p) q.parameters)
  pub begins : (n : ℕ) (m : MethodName) → slice_get p.methods n ≡ Some m → is_constructor t n ≡ string_is p m.name (codes "<init>")
