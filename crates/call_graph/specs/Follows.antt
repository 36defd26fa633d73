-- What follows from what is live, by number, as far as one thing alone forces it (this project's profile: ProGuard manual,
-- "Keep Options").
use Rattle.std.specs.Prelude.{ℕ, Bool, not, ◌&&◌, List, [], ◌∷◌, ◌++◌, flat_map, Option, Some, None, is_some, nat_eq, cond, codes, slice_get, option_and_then}
use Rattle.insn_set.specs.declared.ops.InvokeKind.{InvokeKind}
use Rattle.insn_set.specs.declared.ops.InvokeKind.TheVariants as call
use Rattle.program_model.specs.declared.pools.Proto.{Proto}
use Rattle.program_model.specs.declared.pools.MethodName.{MethodName}
use Rattle.program_model.specs.declared.pools.FieldName.{FieldName}
use Rattle.program_model.specs.declared.program.MethodAt.{MethodAt}
use Rattle.program_model.specs.declared.program.Field.{Field}
use Rattle.program_model.specs.declared.program.Method.{Method}
use Rattle.program_model.specs.declared.program.Class.{Class}
use Rattle.program_model.specs.declared.program.Program.{Program}
use Rattle.program_model.specs.Lookups.{class_place, method_at}
use Rattle.program_model.specs.MemberRules.{has_flag, is_direct}
use Rattle.class_defs.specs.Finding.{finds_static, resolves_method, resolves_field, is_037}
use Rattle.class_defs.specs.Members.{string_is}
use Rattle.class_defs.specs.Starts.{initialiser_place}
use Rattle.call_graph.specs.declared.facts.Fact.{Fact}
use Rattle.call_graph.specs.declared.facts.Fact.TheVariants as fact
use Rattle.call_graph.specs.declared.named.Named.{Named}
use Rattle.call_graph.specs.declared.named.Named.TheVariants as named
use Rattle.call_graph.specs.Names.{marks_names, first_names, method_names}

-- ---- look-ups

-- the class that defines a type
abbrev pub class_of : Program → ℕ → Option Class
class_of p kind = option_and_then (slice_get p.classes) (class_place p kind)

-- the field at a place of a class
abbrev pub field_at : Program → ℕ × ℕ → Option Field
field_at p at = option_and_then (λ c. slice_get c.fields at.1) (slice_get p.classes at.0)

-- the member that a name resolves to
abbrev pub resolved_field : Program → ℕ → Option Field
resolved_field p number = option_and_then (field_at p) (resolves_field p number)

abbrev pub resolved_method : Program → ℕ → Option Method
resolved_method p number = option_and_then (method_at p) (resolves_method p number)

abbrev pub field_if : ℕ → Option Field → Option Field
field_if number None = None
field_if number (Some f) = cond (nat_eq f.name number) (Some f) None

abbrev pub method_if : ℕ → Option Method → Option Method
method_if number None = None
method_if number (Some m) = cond (nat_eq m.name number) (Some m) None

-- the member of a number, where the program defines it
abbrev pub own_field : Program → ℕ → Option Field
own_field p number = field_if number (resolved_field p number)

abbrev pub own_method : Program → ℕ → Option Method
own_method p number = method_if number (resolved_method p number)

-- neither abstract nor an interface
abbrev pub can_be_made : Class → Bool
can_be_made c = not (has_flag c.flags 1024) && not (has_flag c.flags 512)

-- ---- what is live with one thing

-- a class of which there can be objects is made
abbrev pub made_of : ℕ → Option Class → List Fact
made_of kind None = []
made_of kind (Some c) = cond (can_be_made c) (fact.Made kind ∷ []) []

abbrev pub made_facts : Program → ℕ → List Fact
made_facts p kind = made_of kind (class_of p kind)

-- a program class that is kept is live, and made if that can be
abbrev pub kept_of : ℕ → Option Class → List Fact
kept_of kind None = []
kept_of kind (Some c) = fact.Class kind ∷ made_of kind (Some c)

abbrev pub kept_class : Program → ℕ → List Fact
kept_class p kind = kept_of kind (class_of p kind)

abbrev pub kept_field : Program → ℕ → List Fact
kept_field p number = cond (is_some (own_field p number)) (fact.Field number ∷ []) []

-- a class whose constructor is kept is live, and made if that can be
abbrev pub constructed_of : Program → Option MethodName → List Fact
constructed_of p None = []
constructed_of p (Some q) = cond (string_is p q.name (codes "<init>")) (kept_class p q.class) []

-- the framework calls a kept virtual method on objects
abbrev pub entered_of : Program → ℕ → Method → List Fact
entered_of p number m = cond (not (is_direct p m)) (fact.Called number ∷ []) []

-- a kept method that the program defines is live, and called on objects where it is virtual
abbrev pub own_kept_of : Program → ℕ → Option Method → List Fact
own_kept_of p number None = []
own_kept_of p number (Some m) = fact.Method number ∷ entered_of p number m

abbrev pub kept_method : Program → ℕ → List Fact
kept_method p number = constructed_of p (slice_get p.methods number) ++ own_kept_of p number (own_method p number)

-- the program class that a type is or is an array of, by the table of these
abbrev pub base_facts : Option ℕ → List Fact
base_facts None = []
base_facts (Some b) = cond (nat_eq b 4294967295) [] (fact.Class b ∷ [])

abbrev pub kind_facts : List ℕ → ℕ → List Fact
kind_facts bases kind = base_facts (slice_get bases kind)

abbrev pub proto_of : List ℕ → Option Proto → List Fact
proto_of bases None = []
proto_of bases (Some q) = kind_facts bases q.result ++ flat_map (kind_facts bases) q.parameters

abbrev pub proto_facts : Program → List ℕ → ℕ → List Fact
proto_facts p bases number = proto_of bases (slice_get p.protos number)

-- the classes in the descriptor of a member
abbrev pub method_types_of : Program → List ℕ → Option MethodName → List Fact
method_types_of p bases None = []
method_types_of p bases (Some q) = kind_facts bases q.class ++ proto_facts p bases q.proto

abbrev pub method_types : Program → List ℕ → ℕ → List Fact
method_types p bases number = method_types_of p bases (slice_get p.methods number)

abbrev pub field_types_of : List ℕ → Option FieldName → List Fact
field_types_of bases None = []
field_types_of bases (Some q) = kind_facts bases q.class ++ kind_facts bases q.kind

abbrev pub field_types : Program → List ℕ → ℕ → List Fact
field_types p bases number = field_types_of bases (slice_get p.fields number)

-- a member that was found
abbrev pub field_fact : Option Field → List Fact
field_fact None = []
field_fact (Some f) = fact.Field f.name ∷ []

abbrev pub method_fact : Option Method → List Fact
method_fact None = []
method_fact (Some m) = fact.Method m.name ∷ []

abbrev pub found_facts : Program → Option MethodAt → List Fact
found_facts p at = method_fact (option_and_then (method_at p) at)

-- what a static or direct call finds is live; a virtual or interface call is one of its number
abbrev pub call_facts : Program → InvokeKind → ℕ → List Fact
call_facts p call.Virtual method = fact.Called method ∷ []
call_facts p call.Super method = []
call_facts p call.Direct method = found_facts p (finds_static p method)
call_facts p call.Static method = found_facts p (finds_static p method)
call_facts p call.Interface method = fact.Called method ∷ []

-- a name of a method: the types of its descriptor and what it resolves to
abbrev pub method_facts : Program → List ℕ → ℕ → List Fact
method_facts p bases number = method_types p bases number ++ found_facts p (resolves_method p number)

abbrev pub named_facts : Program → List ℕ → Named → List Fact
named_facts p bases (named.Kind kind) = kind_facts bases kind
named_facts p bases (named.Made kind) = kind_facts bases kind ++ made_facts p kind
named_facts p bases (named.Field number) = field_types p bases number ++ field_fact (resolved_field p number)
named_facts p bases (named.Method number) = method_facts p bases number
named_facts p bases (named.Call kind method) = method_facts p bases method ++ call_facts p kind method

abbrev pub all_named : Program → List ℕ → List Named → List Fact
all_named p bases names = flat_map (named_facts p bases) names

-- ---- what follows from a live class

-- a virtual method with code
abbrev pub coded : Program → Method → List Fact
coded p m = cond (not (is_direct p m) && is_some m.body) (fact.Method m.name ∷ []) []

-- in version 037 the virtual methods with code of an interface that has an initialiser
abbrev pub defaults_of : Program → Class → List Fact
defaults_of p c = cond (is_037 p.version && has_flag c.flags 512) (flat_map (coded p) c.methods) []

abbrev pub starts_of : Program → Class → ℕ → Option ℕ → List Fact
starts_of p c class None = []
starts_of p c class (Some place) = found_facts p (Some (record { class = class; place = place })) ++ defaults_of p c

abbrev pub start_facts : Program → Class → ℕ → List Fact
start_facts p c class = starts_of p c class (initialiser_place p class)

abbrev pub above_facts : List ℕ → Class → List Fact
above_facts bases c = kind_facts bases c.superclass ++ flat_map (kind_facts bases) c.interfaces

abbrev pub class_facts_of : Program → List ℕ → ℕ → Option Class → List Fact
class_facts_of p bases class None = []
class_facts_of p bases class (Some c) = above_facts bases c ++ (start_facts p c class ++ all_named p bases (marks_names c.marks))

abbrev pub class_facts_at : Program → List ℕ → Option ℕ → List Fact
class_facts_at p bases None = []
class_facts_at p bases (Some class) = class_facts_of p bases class (slice_get p.classes class)

-- the superclass, the interfaces, what runs when it is initialised, and what its annotations name
abbrev pub class_facts : Program → List ℕ → ℕ → List Fact
class_facts p bases kind = class_facts_at p bases (class_place p kind)

-- ---- what follows from a live member

abbrev pub field_names : Option Field → List Named
field_names None = []
field_names (Some f) = marks_names f.marks ++ first_names f.first

-- the types of its descriptor, and what its annotations and its first value name
abbrev pub field_facts : Program → List ℕ → ℕ → List Fact
field_facts p bases number = field_types p bases number ++ all_named p bases (field_names (own_field p number))

abbrev pub names_of_method : Option Method → List Named
names_of_method None = []
names_of_method (Some m) = method_names m

-- the types of its descriptor, and what its annotations and its code name
abbrev pub body_facts : Program → List ℕ → ℕ → List Fact
body_facts p bases number = method_types p bases number ++ all_named p bases (names_of_method (own_method p number))
