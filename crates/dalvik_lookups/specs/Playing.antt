-- The moves of a script by numbers: what each stands for.
use Rattle.std.specs.Prelude.{◌≡◌, ◌<◌, ◌^◌, ℕ, true, List, [], ◌∷◌, length, Option, Some, None}
use Rattle.std.specs.Option.{option_map}
use Rattle.program_model.specs.declared.program.MethodAt.{MethodAt}
use Rattle.program_model.specs.declared.program.Program.{Program}
use Rattle.program_model.specs.ProgramRules.{is_well_formed}
use Rattle.dalvik_defs.specs.Names.{Text}
use Rattle.dalvik_defs.specs.declared.script.Given.{Given}
use Rattle.dalvik_defs.specs.declared.script.Given.TheVariants as given
use Rattle.dalvik_defs.specs.declared.script.Move.{Move}
use Rattle.dalvik_defs.specs.declared.script.Move.TheVariants as move
use Rattle.dalvik_lookups.specs.declared.types.Kind.{Kind}
use Rattle.dalvik_lookups.specs.declared.types.Types.{Types}
use Rattle.dalvik_lookups.specs.declared.texts.Texts.{Texts}
use Rattle.dalvik_lookups.specs.declared.lookups.Names.{Names}
use Rattle.dalvik_lookups.specs.declared.declared.Declared.{Declared}
use Rattle.dalvik_lookups.specs.declared.plays.Gift.{Gift}
use Rattle.dalvik_lookups.specs.declared.plays.Gift.TheVariants as gift
use Rattle.dalvik_lookups.specs.declared.plays.FieldAt.{FieldAt}
use Rattle.dalvik_lookups.specs.declared.plays.Play.{Play}
use Rattle.dalvik_lookups.specs.declared.plays.Play.TheVariants as play
use Rattle.dalvik_lookups.specs.Declaring.{declared_method, declared_field, IsDeclared}
use Rattle.dalvik_lookups.specs.Tables.{place_named, HasNames}
use Rattle.dalvik_lookups.specs.Views.{texts_of, text_of, type_text, IsKind, IsType}

-- ---- lists and options, entry by entry

abbrev pub AreEach : {A B : Type 0} → (A → B → Type 0) → List A → List B → Type 0
AreEach R [] [] = Unit {0}
AreEach R (a ∷ xs) (b ∷ bs) = R a b × AreEach R xs bs
AreEach R (a ∷ xs) [] = ⊥
AreEach R [] (b ∷ bs) = ⊥

abbrev pub AreBoth : {A B : Type 0} → (A → B → Type 0) → Option A → Option B → Type 0
AreBoth R None None = Unit {0}
AreBoth R (Some a) (Some b) = R a b
AreBoth R (Some a) None = ⊥
AreBoth R None (Some b) = ⊥

-- ---- values

-- the value that a gift stands for
abbrev pub given_of : Types → Texts → Gift → Given
given_of t x gift.Null = given.Null
given_of t x (gift.Word w) = given.Word w
given_of t x (gift.Wide w) = given.Wide w
given_of t x (gift.Exposed n) = given.Exposed n
given_of t x (gift.New k) = given.New (type_text t k)
given_of t x (gift.Array k size) = given.Array (type_text t k) size
given_of t x (gift.Literal n) = given.Literal (text_of x n)
given_of t x (gift.Class n) = given.Class (text_of x n)

-- a type that stands in the tables, and has fewer brackets than there are places in memory
pub record IsDeep (t : Types) (k : Kind) : Type 0 where
  pub kind : IsKind t k
  pub deep : k.depth < 2 ^ 63

-- what it names stands in the tables
abbrev pub Stands : Types → Texts → Gift → Type 0
Stands t x (gift.New k) = IsDeep t k
Stands t x (gift.Array k size) = IsDeep t k
Stands t x (gift.Literal n) = n < length (texts_of x)
Stands t x (gift.Class n) = n < length (texts_of x)
Stands t x g = Unit {0}

pub record IsGift (t : Types) (x : Texts) (value : Given) (g : Gift) : Type 0 where
  pub is : given_of t x g ≡ value
  pub stands : Stands t x g

-- ---- moves

abbrev pub field_of_kind : Kind → ℕ × ℕ → FieldAt
field_of_kind of at = record { class = at.0; place = at.1; kind = of }

-- the field that a class itself defines, with its type
pub record IsField (p : Program) (t : Types) (class name kind : Text) (field : Option FieldAt) : Type 0 where
  pub of : Kind
  pub typed : IsType t of kind
  pub is : field ≡ option_map (field_of_kind of) (declared_field p class name kind)

pub record Enters (p : Program) (t : Types) (x : Texts) (m : Move) (at : Option MethodAt) (gifts : List Gift) : Type 0 where
  pub class : Text
  pub name : Text
  pub proto : Text
  pub values : List Given
  pub is : m ≡ move.Enter class name proto values
  pub found : at ≡ declared_method p class name proto
  pub given : AreEach (IsGift t x) values gifts

pub record Makes (p : Program) (m : Move) (place : Option ℕ) : Type 0 where
  pub class : Text
  pub is : m ≡ move.Make class
  pub found : place ≡ place_named p class

pub record Returns (t : Types) (x : Texts) (m : Move) (g : Option Gift) : Type 0 where
  pub value : Option Given
  pub is : m ≡ move.Return value
  pub given : AreBoth (IsGift t x) value g

pub record Throws (t : Types) (x : Texts) (m : Move) (g : Gift) : Type 0 where
  pub value : Given
  pub is : m ≡ move.Throw value
  pub given : IsGift t x value g

pub record Gets (p : Program) (t : Types) (x : Texts) (m : Move) (field : Option FieldAt) (holder : Option Gift) : Type 0 where
  pub class : Text
  pub name : Text
  pub kind : Text
  pub on : Option Given
  pub is : m ≡ move.Get class name kind on
  pub found : IsField p t class name kind field
  pub held : AreBoth (IsGift t x) on holder

pub record Puts (p : Program) (t : Types) (x : Texts) (m : Move) (field : Option FieldAt) (holder : Option Gift) (g : Gift) : Type 0 where
  pub class : Text
  pub name : Text
  pub kind : Text
  pub on : Option Given
  pub value : Given
  pub is : m ≡ move.Put class name kind on value
  pub found : IsField p t class name kind field
  pub held : AreBoth (IsGift t x) on holder
  pub given : IsGift t x value g

pub record ArrayGets (t : Types) (x : Texts) (m : Move) (array : Gift) (place : ℕ) : Type 0 where
  pub on : Given
  pub is : m ≡ move.ArrayGet on place
  pub held : IsGift t x on array

pub record ArrayPuts (t : Types) (x : Texts) (m : Move) (array : Gift) (place : ℕ) (g : Gift) : Type 0 where
  pub on : Given
  pub value : Given
  pub is : m ≡ move.ArrayPut on place value
  pub held : IsGift t x on array
  pub given : IsGift t x value g

pub record ArrayLengths (t : Types) (x : Texts) (m : Move) (array : Gift) : Type 0 where
  pub on : Given
  pub is : m ≡ move.ArrayLength on
  pub held : IsGift t x on array

-- the play of a move: what its names find, and its values by numbers
abbrev pub IsPlay : Program → Types → Texts → Move → Play → Type 0
IsPlay p t x m (play.Enter at gifts) = Enters p t x m at gifts.items
IsPlay p t x m (play.Make place) = Makes p m place
IsPlay p t x m (play.Return g) = Returns t x m g
IsPlay p t x m (play.Throw g) = Throws t x m g
IsPlay p t x m (play.Get field holder) = Gets p t x m field holder
IsPlay p t x m (play.Put field holder g) = Puts p t x m field holder g
IsPlay p t x m (play.ArrayGet array place) = ArrayGets t x m array place
IsPlay p t x m (play.ArrayPut array place g) = ArrayPuts t x m array place g
IsPlay p t x m (play.ArrayLength array) = ArrayLengths t x m array

-- the plays of a script
abbrev pub ArePlays : Program → Types → Texts → List Move → List Play → Type 0
ArePlays p t x = AreEach (IsPlay p t x)

-- the names and the members are those of a well-formed program
pub record Knows (p : Program) (names : Names) (d : Declared) : Type 0 where
  pub well : is_well_formed p ≡ true
  pub named : HasNames p names
  pub declared : IsDeclared p names.strings.items names.kinds.items d
